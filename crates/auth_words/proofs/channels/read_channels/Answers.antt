use Rattle.std.proofs.Common.{List, ℕ, Bor, map, subst, sym}
use Rattle.std.specs.List.{All}
use Rattle.std.specs.Str.{IsUtf8}
use Rattle.auth_words.proofs.channels.read_channels.Goals as goal

pub plan_of_texts-requires : goal.plan_of_texts-requires
plan_of_texts-requires c =
    subst (λ (items : List (Bor (List ℕ))). All IsUtf8 (map (λ s. s.now) items)) (sym c.as_slice.ensures.value) c.in_ok-texts.ensures.utf8
