-- The text of a cache, of version 1. It is this project's own.
use Rattle.std.specs.Prelude.{ℕ, List, ◌++◌, codes}
use Rattle.std.specs.FinSet.{from_list}
use Rattle.std.specs.List.{AllByRecursion, flat_map}
use Rattle.hex.specs.Hex.{encode_lower, encode_upper}
use Rattle.child_ports.specs.declared.fingerprint.Fingerprint.{Fingerprint}
use Rattle.object_frames.specs.Id.{IsId}
use Rattle.authorizations.specs.declared.scope.Scope.{Scope}
use Rattle.auth_cache.specs.declared.front.Recorded.{Recorded}
use Rattle.auth_cache.specs.Entries.{AreEntries}
use Rattle.auth_cache.specs.Keys.{IsKey, AreKeys, ascending}
use Rattle.auth_cache.specs.Lines.{line}

-- a word, and an id in lower-case digits
abbrev pub id_text : List ℕ → List ℕ → List ℕ
id_text word id = word ++ encode_lower id

-- a word, and a fingerprint in upper-case digits
abbrev pub key_text : List ℕ → Fingerprint → List ℕ
key_text word key = word ++ encode_upper key.0

abbrev pub historical_line : Fingerprint → List ℕ
historical_line key = line (key_text (codes "historical ") key)

abbrev pub commit_line : List ℕ → List ℕ
commit_line id = line (id_text (codes "commit ") id)

-- the lines before those of the keys
abbrev pub heading : List ℕ → Fingerprint → List ℕ → List ℕ
heading intro signer keyring =
    line (codes "guix-auth-cache 1")
    ++ (line (id_text (codes "intro ") intro)
    ++ (line (key_text (codes "signer ") signer)
    ++ line (id_text (codes "keyring ") keyring)))

-- the text of these parts
unfoldable pub spelling : Recorded → List ℕ
spelling r = heading r.intro r.signer r.keyring ++ (flat_map historical_line r.keys ++ (flat_map commit_line r.commits ++ line (codes "end")))

-- these are the parts of a text
pub record IsRecorded (r : Recorded) : Type 0 where
  pub intro : IsId r.intro
  pub signer : IsKey r.signer
  pub keyring : IsId r.keyring
  pub keys : AreKeys r.keys
  pub each : AllByRecursion IsId r.commits
  pub commits : AreEntries r.commits

-- a scope and commits as the parts of a text
abbrev pub parts_of : Scope → List (List ℕ) → Recorded
parts_of scope ids = record { intro = scope.intro; signer = scope.signer; keyring = scope.keyring_tree; keys = ascending scope.historical; commits = ids }

-- the text of a scope and commits
abbrev pub text_of : Scope → List (List ℕ) → List ℕ
text_of scope ids = spelling (parts_of scope ids)

-- the scope of the parts
abbrev pub scope_of : Recorded → Scope
scope_of r = record { intro = r.intro; signer = r.signer; keyring_tree = r.keyring; historical = from_list r.keys }

-- each part is an id, a key, or a set of keys
pub record IsScope (scope : Scope) : Type 0 where
  pub intro : IsId scope.intro
  pub signer : IsKey scope.signer
  pub keyring : IsId scope.keyring_tree
  pub keys : AllByRecursion IsKey (ascending scope.historical)
