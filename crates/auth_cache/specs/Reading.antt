-- The one answer to any bytes: they are read line by line.
use Rattle.std.specs.Prelude.{◌≡◌, ◌==◌, ◌&&◌, ℕ, ◌+◌, ◌-◌, ◌^◌, Bool, true, not, nat_eq, nat_lt, if◌then◌else◌, Option, Some, None, Result, Ok, Err, List, [], ◌∷◌, ◌++◌, slice_get, length, drop, codes, decimal, ok_or, option_map, bytes_eq}
use Rattle.std.specs.Cmp.Lexicographic.{pointwise}
use Rattle.std.specs.List.{list_any, starts_with}
use Rattle.std.specs.Option.{option_and_then}
use Rattle.std.specs.Ordering.{is_lt}
use Rattle.std.specs.Str.Parse.{digits_value}
use Rattle.hex.specs.Hex.{encode_lower, encode_upper}
use Rattle.child_ports.specs.declared.fingerprint.Fingerprint.{Fingerprint}
use Rattle.child_ports.specs.Fingerprint.{fingerprint_of}
use Rattle.child_ports.specs.KeySet.{key_cmp}
use Rattle.object_frames.specs.Id.{id_in}
use Rattle.authorizations.specs.declared.scope.Scope.{Scope}
use Rattle.auth_cache.specs.declared.fail.CacheFail.{CacheFail}
use Rattle.auth_cache.specs.declared.fail.CacheFail.TheVariants.{Version, Form, Memory}
use Rattle.auth_cache.specs.declared.front.Recorded.{Recorded}
use Rattle.auth_cache.specs.declared.front.Front.{Front}
use Rattle.auth_cache.specs.declared.front.Front.TheVariants.{Versioned, Introduced, Signed, Body, Ended}
use Rattle.auth_cache.specs.Keys.{ascending}
use Rattle.auth_cache.specs.Lines.{lines_of}

-- what stands behind a word
abbrev pub behind : List ℕ → List ℕ → Option (List ℕ)
behind word text = if starts_with nat_eq text word then Some (drop (length word) text) else None

-- the number that is written so
abbrev pub number_of : List ℕ → Option ℕ
number_of digits = if bytes_eq (decimal (digits_value 10 digits)) digits && nat_lt (digits_value 10 digits) (2 ^ 32) then Some (digits_value 10 digits) else None

-- the id that is written so, in lower case
abbrev pub written_id : List ℕ → List ℕ → Option (List ℕ)
written_id digits id = if bytes_eq (encode_lower id) digits then Some id else None

abbrev pub lower_id : List ℕ → Option (List ℕ)
lower_id digits = option_and_then (written_id digits) (id_in digits)

-- the fingerprint that is written so, in upper case
abbrev pub written_key : List ℕ → Fingerprint → Option Fingerprint
written_key digits key = if bytes_eq (encode_upper key.0) digits then Some key else None

abbrev pub upper_key : List ℕ → Option Fingerprint
upper_key digits = option_and_then (written_key digits) (fingerprint_of digits)

-- the number, the id and the fingerprint on a line, behind its word
abbrev pub version_on : List ℕ → Option ℕ
version_on l = option_and_then number_of (behind (codes "guix-auth-cache ") l)

abbrev pub id_on : List ℕ → List ℕ → Option (List ℕ)
id_on word l = option_and_then lower_id (behind word l)

abbrev pub key_on : List ℕ → List ℕ → Option Fingerprint
key_on word l = option_and_then upper_key (behind word l)

-- whether the key is above the last of these, if there is one
abbrev pub above : Option Fingerprint → Fingerprint → Bool
above (Some last) key = is_lt (key_cmp last key)
above None key = true

abbrev pub is_above : List Fingerprint → Fingerprint → Bool
is_above keys key = above (slice_get keys (length keys - 1)) key

-- one more historical key, which no commit precedes and which is above the one before
abbrev pub with_key : Recorded → Fingerprint → Option Front
with_key r key = if length r.commits == 0 && is_above r.keys key then Some (Body (record r { keys = r.keys ++ key ∷ [] })) else None

-- one more commit, which is another and isn't the sixty-fifth
abbrev pub with_commit : Recorded → List ℕ → Option Front
with_commit r id = if nat_lt (length r.commits) 64 && not (list_any (bytes_eq id) r.commits) then Some (Body (record r { commits = r.commits ++ id ∷ [] })) else None

-- the end
abbrev pub with_end : Recorded → List ℕ → Option Front
with_end r l = if bytes_eq l (codes "end") then Some (Ended r) else None

-- a line behind the heading
abbrev pub body_step : Recorded → Option Fingerprint → Option (List ℕ) → List ℕ → Option Front
body_step r (Some key) commit l = with_key r key
body_step r None (Some id) l = with_commit r id
body_step r None None l = with_end r l

-- what was read with one more line, if that fits
abbrev pub step : Front → List ℕ → Option Front
step Versioned l = option_map (λ intro. Introduced intro) (id_on (codes "intro ") l)
step (Introduced intro) l = option_map (λ signer. Signed intro signer) (key_on (codes "signer ") l)
step (Signed intro signer) l = option_map (λ keyring. Body (record { intro = intro; signer = signer; keyring = keyring; keys = []; commits = [] })) (id_on (codes "keyring ") l)
step (Body r) l = body_step r (key_on (codes "historical ") l) (id_on (codes "commit ") l) l
step (Ended r) l = None

-- what was read goes on to the next, a fault ends the reading
infixl 10 ◌>>=◌
abbrev pub ◌>>=◌ : {A B : Type 0} → Result A CacheFail → (A → Result B CacheFail) → Result B CacheFail
Ok x >>= next = next x
Err fault >>= next = Err fault

-- all is read at the end, with nothing behind it
abbrev pub finish : ℕ → Front → List ℕ → Result Recorded CacheFail
finish at (Ended r) [] = Ok r
finish at front left = Err (Form at)

-- the lines from this offset on
abbrev pub run : ℕ → Front → List (List ℕ) → List ℕ → Result Recorded CacheFail
run at front [] left = finish at front left
run at front (l ∷ ls) left = ok_or (step front l) (Form at) >>= (λ next. run (at + length l + 1) next ls left)

-- the lines behind the version's
abbrev pub behind_version : Option ℕ → ℕ → List (List ℕ) → List ℕ → Result Recorded CacheFail
behind_version None at ls left = Err (Form 0)
behind_version (Some n) at ls left = if n == 1 then run at Versioned ls left else Err (Version n)

abbrev pub from_lines : List (List ℕ) → List ℕ → Result Recorded CacheFail
from_lines [] left = Err (Form 0)
from_lines (l ∷ ls) left = behind_version (version_on l) (length l + 1) ls left

-- what a text records, or the first fault
unfoldable pub recorded_of : List ℕ → Result Recorded CacheFail
recorded_of bytes = from_lines (lines_of bytes).whole (lines_of bytes).left

-- whether the keys are the same
abbrev pub keys_eq : List Fingerprint → List Fingerprint → Bool
keys_eq keys others = pointwise (λ (a b : Fingerprint). bytes_eq a.0 b.0) keys others

-- whether the parts are those of the scope
abbrev pub is_under : Recorded → Scope → Bool
is_under r scope = bytes_eq r.intro scope.intro && bytes_eq r.signer.0 scope.signer.0 && bytes_eq r.keyring scope.keyring_tree && keys_eq r.keys (ascending scope.historical)

-- the commits that count under a scope
abbrev pub entries_for : Recorded → Scope → List (List ℕ)
entries_for r scope = if is_under r scope then r.commits else []

-- the commits that a text gives under a scope, or the first fault
unfoldable pub cache_of : List ℕ → Scope → Result (List (List ℕ)) CacheFail
cache_of bytes scope = recorded_of bytes >>= (λ r. Ok (entries_for r scope))

-- What a call answered is this, unless memory ran out.
abbrev pub Gives : {A : Type 0} → Result A CacheFail → Result A CacheFail → Type 0
Gives (Ok x) answer = answer ≡ Ok x
Gives (Err Memory) answer = Unit {0}
Gives (Err fault) answer = answer ≡ Err fault
