-- What clap answers to words, and what its matches give.
use Rattle.std.specs.Prelude.{◌≡◌, ◌≢◌, ℕ, Bool, true, false, List, [], codes, Option, Some, None}
use Rattle.std.specs.Option.{option_map}
use Rattle.std.specs.Borrow.{Bor}
use Rattle.clap.specs.Words.{App, Row, Text, fault_of, first_of, found_of, matches_of, one_of, rows_of}
use Rattle.clap.specs.declared.parser.matches.ArgMatches.{ArgMatches}
use Rattle.auth_words.specs.declared.plan.Plan.{Plan}
use Rattle.auth_words.specs.declared.plan.ChannelsPlan.{ChannelsPlan}
use Rattle.auth_words.specs.declared.given.Options as declared
use Rattle.auth_words.specs.Words.{Options, plan_of_two, channels_from}

-- the bytes of a value, if there is one
abbrev pub value_seen : Option (Bor (List ℕ)) → Option (List ℕ)
value_seen value = option_map (λ s. s.now) value

-- the options, with the bytes of their values
abbrev pub options_seen : declared.Options → Options
options_seen o = record {
  repository = value_seen o.repository;
  keyring = value_seen o.keyring;
  end = value_seen o.end;
  cache_key = value_seen o.cache_key;
  historical = value_seen o.historical;
  stats = o.stats;
}

-- the text of a flag in matches
abbrev pub flag_text : Bool → Text
flag_text true = codes "true"
flag_text false = codes "false"

-- rows of matches say no other of the flag with this name
abbrev pub AgreesOn : List Row → Text → Bool → Type 0
AgreesOn rows name on = (said : Bool) → one_of name rows ≡ Some (flag_text said) → on ≡ said

-- rows of matches give these options
pub record Gives (rows : List Row) (o : Options) : Type 0 where
  pub repository : first_of (codes "repository") rows ≡ o.repository
  pub keyring : first_of (codes "keyring") rows ≡ o.keyring
  pub end : first_of (codes "end") rows ≡ o.end
  pub cache_key : first_of (codes "cache-key") rows ≡ o.cache_key
  pub historical : first_of (codes "historical-authorizations") rows ≡ o.historical
  pub stats : AgreesOn rows (codes "stats") o.stats

-- the plan of rows that have both positional words
abbrev pub IsPlanOf : List Row → Option Plan → Type 0
IsPlanOf rows plan = (commit signer : Text) (o : Options) → first_of (codes "commit") rows ≡ Some commit → first_of (codes "signer") rows ≡ Some signer
    → ((x : Options) → Gives rows x → x ≡ o) → plan ≡ plan_of_two commit signer o

-- the plan of rows that have FILE, the folder of clones and both flags
abbrev pub IsChannelsPlanOf : List Row → Option ChannelsPlan → Type 0
IsChannelsPlanOf rows plan = (file clones : Text) (allow_downgrades unchecked : Bool) → first_of (codes "file") rows ≡ Some file
    → first_of (codes "clones") rows ≡ Some clones → one_of (codes "allow-downgrades") rows ≡ Some (flag_text allow_downgrades)
    → one_of (codes "disable-authentication") rows ≡ Some (flag_text unchecked) → plan ≡ channels_from file clones allow_downgrades unchecked

-- clap refuses the words of a command, or takes them with these matches
abbrev pub Takes : App → List Text → Option ArgMatches → Type 0
Takes app words None = fault_of app words ≢ []
Takes app words (Some m) = (fault_of app words ≡ []) × (rows_of (found_of m) ≡ matches_of app words)
