-- The words that begin with `-` of each command.
use Rattle.std.specs.Prelude.{codes, [], ◌∷◌}
use Rattle.auth_words.specs.Form.{Grammar}

-- `authenticate`; 114 is `r`, and 107 is `k`
unfoldable pub authenticate : Grammar
authenticate = record {
  options = codes "repository" ∷ codes "keyring" ∷ codes "end" ∷ codes "cache-key" ∷ codes "historical-authorizations" ∷ [];
  letters = (114, codes "repository") ∷ (107, codes "keyring") ∷ [];
  flags = codes "stats" ∷ [];
}

-- `channels`
unfoldable pub channels : Grammar
channels = record {
  options = codes "clones" ∷ [];
  letters = [];
  flags = codes "allow-downgrades" ∷ codes "disable-authentication" ∷ [];
}
