use Rattle.std.proofs.Common.{List, ℕ, subst, sym}
use Rattle.std.specs.Str.{IsUtf8}
use Rattle.auth_words.proofs.FitLemmas.{is_text}
use Rattle.auth_words.proofs.reading.push_id.Goals as goal

pub returns-in-Err : goal.returns-in-Err
returns-in-Err c = absurd (c.in-Err.ensures.cases.0 (subst (λ (bytes : List ℕ). IsUtf8 bytes) (sym c.write_hex.ensures.digits) (is_text c.args.id)))
