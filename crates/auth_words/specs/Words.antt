-- What words ask for.
use Rattle.std.specs.Prelude.{ℕ, Bool, true, false, not, ◌&&◌, nat_le, if◌then◌else◌, List, [], ◌∷◌, ◌++◌, length, codes, bytes_eq, Option, Some, None, unwrap_or, option_and_then, IsTrue}
use Rattle.std.specs.List.{list_all}
use Rattle.hex.specs.Hex.{encode_lower}
use Rattle.child_ports.specs.declared.fingerprint.Fingerprint.{Fingerprint}
use Rattle.child_ports.specs.Fingerprint.{fingerprint_in}
use Rattle.object_frames.specs.declared.id.Id.{Id}
use Rattle.object_frames.specs.Id.{id_in}
use Rattle.auth_words.specs.Grammars.{authenticate, channels}
use Rattle.auth_words.specs.declared.plan.Plan.{Plan}
use Rattle.auth_words.specs.declared.plan.ChannelsPlan.{ChannelsPlan}
use Rattle.auth_words.specs.declared.plan.Command.{Command}
use Rattle.auth_words.specs.declared.plan.Command.TheVariants.{Help, Authenticate, Channels}
use Rattle.auth_words.specs.Arguments.{Argument, Between, arguments_from, positionals, values, flags, each_once}
use Rattle.name_limits.specs.Limits.{is_word, is_path, is_reference, is_cache_key}
use Rattle.auth_words.specs.Limits.{fits}

-- the values that options are given, and whether `--stats` stands
pub record Options : Type 0 where
  pub repository : Option (List ℕ)
  pub keyring : Option (List ℕ)
  pub end : Option (List ℕ)
  pub cache_key : Option (List ℕ)
  pub historical : Option (List ℕ)
  pub stats : Bool

-- each value has its form
abbrev pub are_fit : Options → Bool
are_fit o = fits is_path o.repository && fits is_reference o.keyring && fits is_reference o.end
    && fits is_cache_key o.cache_key && fits is_path o.historical

-- the key that an introduction has where none is given: `git-` and its 40 digits in lower case
abbrev pub default_key : List ℕ → List ℕ
default_key intro = codes "git-" ++ encode_lower intro

-- the plan of these options, and what stands where one isn't given
abbrev pub plan_from : Option Id → Option Fingerprint → Options → Option Plan
plan_from (Some intro) (Some signer) o = Some (record {
  intro = intro;
  signer = signer;
  repository = unwrap_or o.repository (codes ".");
  keyring = unwrap_or o.keyring (codes "keyring");
  end = unwrap_or o.end (codes "HEAD");
  stats = o.stats;
  cache_key = unwrap_or o.cache_key (default_key intro);
  historical = o.historical;
})
plan_from _ _ o = None

-- the plan of COMMIT, SIGNER and options that are fit
abbrev pub plan_of_two : List ℕ → List ℕ → Options → Option Plan
plan_of_two commit signer o = if are_fit o then plan_from (id_in commit) (fingerprint_in signer) o else None

-- the plan of the positional words: there are two
abbrev pub plan_of : List (List ℕ) → Options → Option Plan
plan_of (commit ∷ signer ∷ []) o = plan_of_two commit signer o
plan_of _ o = None

abbrev pub first : List (List ℕ) → Option (List ℕ)
first [] = None
first (x ∷ more) = Some x

abbrev pub is_any : List (List ℕ) → Bool
is_any [] = false
is_any (x ∷ more) = true

abbrev pub options_in : List Argument → Options
options_in arguments = record {
  repository = first (values (codes "repository") arguments);
  keyring = first (values (codes "keyring") arguments);
  end = first (values (codes "end") arguments);
  cache_key = first (values (codes "cache-key") arguments);
  historical = first (values (codes "historical-authorizations") arguments);
  stats = is_any (flags (codes "stats") arguments);
}

-- the plan of arguments of `authenticate`
abbrev pub plan_in : List Argument → Option Plan
plan_in arguments = if each_once authenticate arguments then plan_of (positionals arguments) (options_in arguments) else None

abbrev pub authenticate_by : Option Plan → Option Command
authenticate_by (Some plan) = Some (Authenticate plan)
authenticate_by None = None

-- the words behind `authenticate`
abbrev pub authenticate_in : List (List ℕ) → Option Command
authenticate_in words = authenticate_by (option_and_then plan_in (arguments_from authenticate Between words))

-- FILE and the folder of clones are paths
abbrev pub channels_from : List ℕ → List ℕ → Bool → Bool → Option ChannelsPlan
channels_from file clones allow_downgrades unchecked = if is_path file && is_path clones then Some (record {
  file = file;
  clones = clones;
  allow_downgrades = allow_downgrades;
  check = not unchecked;
}) else None

-- the plan of the positional words, of which there is one, of the folder of clones, which is given, and of both flags
abbrev pub channels_of : List (List ℕ) → Option (List ℕ) → Bool → Bool → Option ChannelsPlan
channels_of (file ∷ []) (Some clones) allow_downgrades unchecked = channels_from file clones allow_downgrades unchecked
channels_of _ _ allow_downgrades unchecked = None

-- the plan of arguments of `channels`
abbrev pub channels_plan_in : List Argument → Option ChannelsPlan
channels_plan_in arguments = if each_once channels arguments then channels_of (positionals arguments) (first (values (codes "clones") arguments))
    (is_any (flags (codes "allow-downgrades") arguments)) (is_any (flags (codes "disable-authentication") arguments)) else None

abbrev pub channels_by : Option ChannelsPlan → Option Command
channels_by (Some plan) = Some (Channels plan)
channels_by None = None

-- the words behind `channels`
abbrev pub channels_in : List (List ℕ) → Option Command
channels_in words = channels_by (option_and_then channels_plan_in (arguments_from channels Between words))

abbrev pub help_by : List (List ℕ) → Option Command
help_by [] = Some Help
help_by (word ∷ words) = None

-- `--help` alone, or `authenticate` or `channels` and its arguments
abbrev pub command_in : List (List ℕ) → Option Command
command_in [] = None
command_in (command ∷ words) =
    if bytes_eq command (codes "--help") then help_by words else (
    if bytes_eq command (codes "authenticate") then authenticate_in words else (
    if bytes_eq command (codes "channels") then channels_in words else
    None))

-- The command that words state, if they state one. There are at most 64.
abbrev pub command_of : List (List ℕ) → Option Command
command_of words = if nat_le (length words) 64 && list_all is_word words then command_in words else None

-- each part of a plan has its form, also where none was given
pub record IsFitting (plan : Plan) : Type 0 where
  pub repository : IsTrue (is_path plan.repository)
  pub keyring : IsTrue (is_reference plan.keyring)
  pub end : IsTrue (is_reference plan.end)
  pub cache_key : IsTrue (is_cache_key plan.cache_key)

-- each part of a plan of `channels` has its form, and is no longer than a word
pub record IsFittingSet (plan : ChannelsPlan) : Type 0 where
  pub file : IsTrue (is_path plan.file)
  pub file_word : IsTrue (is_word plan.file)
  pub clones : IsTrue (is_path plan.clones)
  pub clones_word : IsTrue (is_word plan.clones)

-- the same of a command that has a plan
abbrev pub HasFittingPlan : Command → Type 0
HasFittingPlan Help = Unit {0}
HasFittingPlan (Authenticate plan) = IsFitting plan
HasFittingPlan (Channels plan) = IsFittingSet plan
