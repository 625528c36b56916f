-- The names and the task of a channel keep their limits.
use Rattle.std.proofs.Common.{◌≡◌, ◌≢◌, ℕ, ◌+◌, ◌≤◌, true, false, not, ◌&&◌, ◌==◌, List, [], ◌∷◌, ◌++◌, length, length-append, refl, sym, ap, subst, ◌∙◌, codes, arith}
use Rattle.std.specs.Prelude.{nat_le, Option, Some, None, Result, Ok, Err, IfOk, IfSome, unwrap_or}
use Rattle.std.specs.FinSet as set
use Rattle.std.specs.List.{list_all, AllByRecursion, slice_split, onto_first}
use Rattle.std.specs.Cmp.Derive.{both_true}
use Rattle.std.proofs.lemmas.Bool.{and_parts}
use Rattle.std.proofs.lemmas.Bool.Decides.{nat_tests}
use Rattle.std.proofs.lemmas.List.{append-nil}
use Rattle.std.proofs.lemmas.List.Folds.{list_all-append}
use Rattle.std.proofs.lemmas.List.Splits.{slice_split-cons_no}
use Rattle.hex.specs.Hex.{encode_lower}
use Rattle.child_ports.specs.Framed.{is_lower_hex_digit}
use Rattle.child_ports.specs.Git.{IsName, NoLineEnd}
use Rattle.object_frames.specs.Id.{IsId}
use Rattle.object_frames.proofs.IdLemmas.{length-hex, hex_digits}
use Rattle.name_limits.specs.Limits.{is_plain_byte, are_plain, is_reference, is_askable, is_key_byte, is_key_part, is_cache_key}
use Rattle.channel_file.specs.Names.{is_alphanumeric, is_name_byte, begins_so, is_channel_name}
use Rattle.channel_file.specs.Limits.{IsFit}
use Rattle.channel_file.specs.declared.channel.Channel.{Channel}
use Rattle.channel_file.specs.declared.channel.Introduction.{Introduction}
use Rattle.auth_engine.specs.Limits.{are_askable, task_fits}
use Rattle.auth_rules.specs.World.{Id}
use Rattle.auth_engine.specs.declared.task.Task.{Task}
use Rattle.channel_deps.specs.Places.{clone_of, branch_names, cache_key, task_of}

-- bytes of a name, of which there are few
record IsPart (name : List ℕ) (most : ℕ) : Type 0 where
  plain : are_plain name ≡ true
  few : length name ≤ most

joined : (xs ys : List ℕ) (m n : ℕ) → IsPart xs m → IsPart ys n → IsPart (xs ++ ys) (m + n)
joined xs ys m n a b = record {
  plain = list_all-append is_plain_byte xs ys ∙ both_true a.plain b.plain;
  few = omega (arith, length-append xs ys, a.few, b.few);
}

askable : (name : List ℕ) (n : ℕ) → IsPart name n → 1 ≤ length name → n ≤ 1024 → is_askable name ≡ true
askable name n part some few =
    let long : nat_le 1 (length name) ≡ true = grind (arith, nat_tests, some) in
    let short : nat_le (length name) 1024 ≡ true = grind (arith, nat_tests, part.few, few) in
    both_true (both_true long short) part.plain

reference_part : (name : List ℕ) → is_reference name ≡ true → IsPart name 900 × (1 ≤ length name)
reference_part name is =
    let both = and_parts (nat_le 1 (length name) && nat_le (length name) 900) (are_plain name) is in
    let sizes = and_parts (nat_le 1 (length name)) (nat_le (length name) 900) both.0 in
    (record { plain = both.1; few = grind (arith, nat_tests, sizes.1) }, grind (arith, nat_tests, sizes.0))

some_more : (xs ys : List ℕ) → 1 ≤ length xs → 1 ≤ length (xs ++ ys)
some_more xs ys some = omega (arith, length-append xs ys, some)

some_behind : (xs ys : List ℕ) → 1 ≤ length ys → 1 ≤ length (xs ++ ys)
some_behind xs ys some = omega (arith, length-append xs ys, some)

branch_askable : (prefix name kind : List ℕ) → is_reference name ≡ true → IsPart prefix 20 → IsPart kind 9 → is_askable (prefix ++ (name ++ kind)) ≡ true
branch_askable prefix name kind is before part =
    let own = reference_part name is in
    askable (prefix ++ (name ++ kind)) 929 (joined prefix (name ++ kind) 20 909 before (joined name kind 900 9 own.0 part)) (some_behind prefix (name ++ kind) (some_more name kind own.1)) (omega arith)

commit_part : IsPart (codes "^{commit}") 9
commit_part = record { plain = refl; few = omega arith }

tree_part : IsPart (codes "^{tree}") 9
tree_part = record { plain = refl; few = omega arith }

no_part : IsPart [] 9
no_part = record { plain = refl; few = omega arith }

remote_part : IsPart (codes "refs/remotes/origin/") 20
remote_part = record { plain = refl; few = omega arith }

heads_part : IsPart (codes "refs/heads/") 20
heads_part = record { plain = refl; few = omega arith }

-- the names of a branch
branches_askable : (branch kind : List ℕ) → is_reference branch ≡ true → IsPart kind 9 → list_all is_askable (branch_names branch kind) ≡ true
branches_askable branch kind is part = both_true (branch_askable (codes "refs/remotes/origin/") branch kind is remote_part part) (both_true (branch_askable (codes "refs/heads/") branch kind is heads_part part) refl)

-- ---- the digits of an id

digit_plain : (b : ℕ) → is_lower_hex_digit b ≡ true → is_plain_byte b ≡ true
digit_plain b is = grind (arith, nat_tests, is)

digits_plain : (bytes : List ℕ) → list_all is_lower_hex_digit bytes ≡ true → are_plain bytes ≡ true
digits_plain [] all = refl
digits_plain (b ∷ bytes) all =
    let parts = and_parts (is_lower_hex_digit b) (list_all is_lower_hex_digit bytes) all in
    both_true (digit_plain b parts.0) (digits_plain bytes parts.1)

id_part : (id : Id) → IsId id → IsPart (encode_lower id) 40
id_part id is = record { plain = digits_plain (encode_lower id) (hex_digits id is.bytes); few = omega (arith, length-hex id is) }

id_askable : (id : Id) (kind : List ℕ) → IsId id → IsPart kind 9 → is_askable (encode_lower id ++ kind) ≡ true
id_askable id kind is part =
    let some : 1 ≤ length (encode_lower id) = omega (arith, length-hex id is) in
    askable (encode_lower id ++ kind) 49 (joined (encode_lower id) kind 40 9 (id_part id is) part) (some_more (encode_lower id) kind some) (omega arith)

-- ---- names that are asked

no_feed : (b : ℕ) → nat_le 32 b ≡ true → b ≢ 10
no_feed b low = λ e. let least : 32 ≤ b = grind (arith, nat_tests, low) in absurd (omega (arith, least, e))

one_line : (bytes : List ℕ) → are_plain bytes ≡ true → NoLineEnd bytes
one_line [] plain = tt
one_line (b ∷ bytes) plain =
    let parts = and_parts (is_plain_byte b) (list_all is_plain_byte bytes) plain in
    let own = and_parts (nat_le 32 b) (not (b == 127)) parts.0 in
    (no_feed b own.0, one_line bytes parts.1)

name_of : (name : List ℕ) → is_askable name ≡ true → IsName name
name_of name is =
    let both = and_parts (nat_le 1 (length name) && nat_le (length name) 1024) (are_plain name) is in
    let sizes = and_parts (nat_le 1 (length name)) (nat_le (length name) 1024) both.0 in
    record { short = grind (arith, nat_tests, sizes.1); one_line = one_line name both.1 }

all_names : (names : List (List ℕ)) → list_all is_askable names ≡ true → AllByRecursion IsName names
all_names [] all = tt
all_names (name ∷ names) all = let parts = and_parts (is_askable name) (list_all is_askable names) all in (name_of name parts.0, all_names names parts.1)

-- a commit's names can be asked
pub id_asked : (id : Id) → IsId id → AllByRecursion IsName ((encode_lower id ++ codes "^{commit}") ∷ [])
id_asked id is = all_names ((encode_lower id ++ codes "^{commit}") ∷ []) (both_true (id_askable id (codes "^{commit}") is commit_part) refl)

-- and so can those of a channel's branch
pub branch_asked : (channel : Channel) → IsFit channel → AllByRecursion IsName (branch_names channel.branch (codes "^{commit}"))
branch_asked channel fit = all_names (branch_names channel.branch (codes "^{commit}")) (branches_askable channel.branch (codes "^{commit}") fit.branch commit_part)

-- ---- the key of a cache

key_byte : (b : ℕ) → is_name_byte b ≡ true → is_key_byte b ≡ true
key_byte b is = grind (arith, nat_tests, is)

key_bytes : (name : List ℕ) → list_all is_name_byte name ≡ true → list_all is_key_byte name ≡ true
key_bytes [] all = refl
key_bytes (b ∷ name) all =
    let parts = and_parts (is_name_byte b) (list_all is_name_byte name) all in
    both_true (key_byte b parts.0) (key_bytes name parts.1)

no_slash : (b : ℕ) → is_name_byte b ≡ true → (b == 47) ≡ false
no_slash b is = grind (arith, nat_tests, is)

one_part : (name : List ℕ) → list_all is_name_byte name ≡ true → slice_split (λ (b : ℕ). b == 47) name ≡ name ∷ []
one_part [] all = refl
one_part (b ∷ name) all =
    let parts = and_parts (is_name_byte b) (list_all is_name_byte name) all in
    slice_split-cons_no (λ (x : ℕ). x == 47) b name (no_slash b parts.0) ∙ ap (λ (l : List (List ℕ)). onto_first b l) (one_part name parts.1)

no_dot : (b : ℕ) → is_alphanumeric b ≡ true → (b == 46) ≡ false
no_dot b is = grind (arith, nat_tests, is)

name_part : (name : List ℕ) → begins_so name ≡ true → is_key_part name ≡ true
name_part [] is = absurd (cc)
name_part (b ∷ name) is =
    let other = no_dot b is in
    let some : nat_le 1 (length (b ∷ name)) ≡ true = grind (arith, nat_tests) in
    both_true (both_true some (rw other refl)) (rw other refl)

key_fits : (name : List ℕ) → is_channel_name name ≡ true → is_cache_key (codes "channels/" ++ name) ≡ true
unfolding is_cache_key
key_fits name is =
    let both = and_parts (nat_le (length name) 64 && begins_so name) (list_all is_name_byte name) is in
    let sizes = and_parts (nat_le (length name) 64) (begins_so name) both.0 in
    let size = length-append (codes "channels/") name in
    let nine : length (codes "channels/") ≡ 9 = refl in
    let most : length name ≤ 64 = grind (arith, nat_tests, sizes.0) in
    let long : nat_le 1 (length (codes "channels/" ++ name)) ≡ true = grind (arith, nat_tests, size, nine) in
    let short : nat_le (length (codes "channels/" ++ name)) 200 ≡ true = grind (arith, nat_tests, size, nine, most) in
    let bytes : list_all is_key_byte (codes "channels/" ++ name) ≡ true = key_bytes name both.1 in
    let parts : list_all is_key_part (slice_split (λ (b : ℕ). b == 47) (codes "channels/" ++ name)) ≡ true = rw (one_part name both.1) (both_true (name_part name sizes.1) refl) in
    both_true (both_true (both_true (both_true long short) bytes) parts) refl

-- ---- the task

reference_is : (reference : Option (List ℕ)) → IfSome reference (λ name. is_reference name ≡ true) → is_reference (unwrap_or reference (codes "keyring")) ≡ true
reference_is None fits = refl
reference_is (Some name) fits = fits

pub made_fits : (clones : List ℕ) (channel : Channel) (introduction : Introduction) (reference : Option (List ℕ)) (target : Id) → IsFit channel → IfSome reference (λ name. is_reference name ≡ true) → IsId target
    → task_fits (task_of clones channel introduction reference target) ≡ true
made_fits clones channel introduction reference target fit named is =
    let single : are_askable (encode_lower target ∷ []) ≡ true = both_true (both_true refl refl) (both_true (let some : 1 ≤ length (encode_lower target) = omega (arith, length-hex target is) in askable (encode_lower target) 40 (id_part target is) some (omega arith)) refl) in
    let keyring : are_askable (branch_names (unwrap_or reference (codes "keyring")) (codes "^{tree}")) ≡ true =
    both_true (both_true refl refl) (branches_askable (unwrap_or reference (codes "keyring")) (codes "^{tree}") (reference_is reference named) tree_part) in
    both_true (both_true single keyring) (key_fits channel.name fit.name)

-- ---- answers

pub asked_id : {E : Type 0} (result : Result (List (List ℕ)) E) (id : Id) → IfOk result (λ names. names ≡ (encode_lower id ++ codes "^{commit}") ∷ []) → IfOk result (λ _. IsId id) → IfOk result (λ names. AllByRecursion IsName names)
asked_id (Ok names) id made is = subst (λ (l : List (List ℕ)). AllByRecursion IsName l) (sym made) (id_asked id is)
asked_id (Err e) id made is = tt

pub asked_branch : {E : Type 0} (result : Result (List (List ℕ)) E) (channel : Channel) → IsFit channel → IfOk result (λ names. names ≡ branch_names channel.branch (codes "^{commit}")) → IfOk result (λ names. AllByRecursion IsName names)
asked_branch (Ok names) channel fit made = subst (λ (l : List (List ℕ)). AllByRecursion IsName l) (sym made) (branch_asked channel fit)
asked_branch (Err e) channel fit made = tt

-- the parts of a task make it up
pub task_made : (clones : List ℕ) (channel : Channel) (introduction : Introduction) (reference : Option (List ℕ)) (target : Id) (dir key : List ℕ) (names keyring : List (List ℕ)) → dir ≡ clone_of clones channel
    → names ≡ (encode_lower target ++ []) ∷ [] → keyring ≡ branch_names (unwrap_or reference (codes "keyring")) (codes "^{tree}") → key ≡ cache_key channel
    → (let task : Task = record { dir = dir; target = names; intro = introduction.commit; signer = introduction.signer; historical = set.empty; keyring = keyring; cache_key = key } in task) ≡ task_of clones channel introduction reference target
task_made clones channel introduction reference target dir key names keyring d n k c = rw (d, n, k, c, append-nil (encode_lower target)) refl
