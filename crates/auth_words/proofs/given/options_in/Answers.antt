use Rattle.std.proofs.Common.{sym, ◌∙◌, codes}
use Rattle.clap.specs.Words.{found_of, rows_of}
use Rattle.clap.proofs.WalkLemmas.{first_value-rows, one_text-rows}
use Rattle.auth_words.proofs.MatchLemmas.{agrees}
use Rattle.auth_words.proofs.given.options_in.Goals as goal

pub returns : goal.returns
returns c =
    let found = found_of c.args.matches.now in
    record {
      repository = sym (c.get_str.ensures ∙ first_value-rows found (codes "repository"));
      keyring = sym (c.get_str-2.ensures ∙ first_value-rows found (codes "keyring"));
      end = sym (c.get_str-3.ensures ∙ first_value-rows found (codes "end"));
      cache_key = sym (c.get_str-4.ensures ∙ first_value-rows found (codes "cache-key"));
      historical = sym (c.get_str-5.ensures ∙ first_value-rows found (codes "historical-authorizations"));
      stats = agrees (rows_of found) (codes "stats") c.get_flag.result (λ h. c.get_flag.ensures.value (one_text-rows found (codes "stats") ∙ h))
          (λ h. c.get_flag.ensures.other (one_text-rows found (codes "stats") ∙ h));
    }
