-- What was read of parents says what the rules ask.
use Rattle.std.proofs.Common.{◌≡◌, Bool, true, false, ◌&&◌, ◌||◌, cond, List, [], ◌∷◌, ◌++◌, map, Option, Some, None, Result, Ok, Err, is_some, refl, ap, ap₂, subst, ◌∙◌}
use Rattle.std.specs.FinSet as set
use Rattle.std.specs.List.{list_any, list_all, find, flat_map}
use Rattle.std.specs.Option.{option_map}
use Rattle.std.specs.Result.{result_err}
use Rattle.child_ports.specs.KeySet.{Keys}
use Rattle.child_ports.specs.declared.fingerprint.Fingerprint.{Fingerprint}
use Rattle.authorizations.specs.declared.scope.Scope.{Scope}
use Rattle.authorizations.specs.declared.fail.AuthFail.{AuthFail}
use Rattle.commit_objects.specs.declared.commit.Commit.{Commit}
use Rattle.auth_rules.specs.declared.cause.Cause.{Cause}
use Rattle.auth_rules.specs.declared.cause.What.{What}
use Rattle.auth_rules.specs.declared.parents.Offer.{Offer}
use Rattle.auth_rules.specs.declared.parents.Parent.{Parent}
use Rattle.auth_rules.specs.declared.root.Root.{Root}
use Rattle.auth_rules.specs.World.{World, Id, onward}
use Rattle.auth_rules.specs.Rules.{first, read_as, root_of, root_fault, parents_of, has, lacks, has_file, listed, given, gives, beside, parent_consulted, has_removed, bad_listing, bad_file, allowed_by}
use Rattle.auth_rules.specs.Consulting.{any_of, offer_in, without_file, offer_of, parent_of, parents_read, offers_file, is_removed, faulty, offered, allowed_among}
use Rattle.auth_rules.proofs.FirstLemmas.{first-same, found-append, none-append}

-- ---- whether one of several commits has the file

-- the answer is this, unless something can't be read
abbrev pub IsAny : List (Option Cause) → Bool → Result Bool Cause → Type 0
IsAny faults one (Ok any) = (first faults ≡ None) × (any ≡ one)
IsAny faults one (Err cause) = first faults ≡ Some cause

any_step : (root : Result Root Cause) (faults : List (Option Cause)) (one : Bool) (rest : Result Bool Cause) → IsAny faults one rest
    → IsAny (result_err root ∷ faults) (has root || one) (onward root (λ root. onward rest (λ any. Ok (is_some root.file || any))))
any_step (Err cause) faults one rest h = refl
any_step (Ok root) faults one (Ok any) h = (h.0, ap (λ b. is_some root.file || b) h.1)
any_step (Ok root) faults one (Err cause) h = h

pub any_is : (w : World) (cs : List Id) → IsAny (map (root_fault w) cs) (list_any (has_file w) cs) (any_of w cs)
any_is w [] = (refl, refl)
any_is w (c ∷ cs) = any_step (root_of w c) (map (root_fault w) cs) (list_any (has_file w) cs) (any_of w cs) (any_is w cs)

-- ---- one parent

-- what was read of a parent says whether it has the file, whether that was removed, why the file is bad, and the keys given
pub record IsSeen (historical : Keys) (p : Id) (has_one removed : Bool) (bad : Option Cause) (keys : Keys) (parent : Parent) : Type 0 where
  pub id : parent.id ≡ p
  pub file : offers_file parent ≡ has_one
  pub removes : is_removed parent ≡ removed
  pub fails : faulty parent ≡ bad
  pub gives : offered historical parent ≡ keys

-- it is said so, unless something can't be read
abbrev pub Sees : Keys → Id → List (Option Cause) → Bool → Bool → Option Cause → Keys → Result Parent Cause → Type 0
Sees historical p faults has_one removed bad keys (Ok parent) = (first faults ≡ None) × IsSeen historical p has_one removed bad keys parent
Sees historical p faults has_one removed bad keys (Err cause) = first faults ≡ Some cause

abbrev with_offer : Id → Result Offer Cause → Result Parent Cause
with_offer p offer = onward offer (λ offer. Ok (record { id = p; offer = offer }))

by_listing : (historical : Keys) (p blob : Id) (listing : Result (Result Keys AuthFail) What)
    → Sees historical p (None ∷ result_err (read_as blob listing) ∷ []) true false (bad_listing p listing) (listed listing)
    (with_offer p (onward (read_as blob listing) (λ listing. Ok (offer_in listing))))
by_listing historical p blob (Ok (Ok keys)) = (refl, record { id = refl; file = refl; removes = refl; fails = refl; gives = refl })
by_listing historical p blob (Ok (Err fail)) = (refl, record { id = refl; file = refl; removes = refl; fails = refl; gives = refl })
by_listing historical p blob (Err what) = refl

without : (historical : Keys) (p : Id) (any : Bool)
    → IsSeen historical p false any None historical (record { id = p; offer = without_file any })
without historical p true = record { id = refl; file = refl; removes = refl; fails = refl; gives = refl }
without historical p false = record { id = refl; file = refl; removes = refl; fails = refl; gives = refl }

by_parents : (historical : Keys) (p : Id) (faults : List (Option Cause)) (one : Bool) (any : Result Bool Cause) → IsAny faults one any
    → Sees historical p (None ∷ faults) false one None historical (with_offer p (onward any (λ any. Ok (without_file any))))
by_parents historical p faults one (Ok any) h =
    let P : Bool → Type 0 = λ b. IsSeen historical p false b None historical (record { id = p; offer = without_file any }) in
    (h.0, subst P h.1 (without historical p any))
by_parents historical p faults one (Err cause) h = h

module _ (w : World) (s : Scope) where
  by_file : (p : Id) (commit : Commit) (file : Option Id)
      → let root : Result Root Cause = Ok (record { commit = commit; file = file }) in
      Sees s.historical p (result_err root ∷ beside w p root) (has root) (lacks root && list_any (has_file w) (parents_of w p)) (bad_file w p root) (given w s root)
      (with_offer p (offer_of w (parents_of w p) file))
  by_file p commit (Some blob) = by_listing s.historical p blob (w.listing blob)
  by_file p commit None = by_parents s.historical p (map (root_fault w) (parents_of w p)) (list_any (has_file w) (parents_of w p)) (any_of w (parents_of w p)) (any_is w (parents_of w p))

  by_root : (p : Id) (root : Result Root Cause)
      → Sees s.historical p (result_err root ∷ beside w p root) (has root) (lacks root && list_any (has_file w) (parents_of w p)) (bad_file w p root) (given w s root)
      (onward root (λ root. with_offer p (offer_of w (parents_of w p) root.file)))
  by_root p (Ok root) = by_file p root.commit root.file
  by_root p (Err cause) = refl

  pub parent_is : (p : Id) → Sees s.historical p (parent_consulted w p) (has_file w p) (has_removed w p) (bad_file w p (root_of w p)) (gives w s p) (parent_of w (parents_of w) p)
  parent_is p = by_root p (root_of w p)

  -- ---- all parents

  pub record AreSeen (ids : List Id) (parents : List Parent) : Type 0 where
    pub files : list_any offers_file parents ≡ list_any (has_file w) ids
    pub removes : option_map (λ parent. parent.id) (find is_removed parents) ≡ find (has_removed w) ids
    pub fails : first (map faulty parents) ≡ first (map (λ p. bad_file w p (root_of w p)) ids)
    pub give : (key : Fingerprint) → list_all (λ parent. set.contains (offered s.historical parent) key) parents ≡ list_all (λ p. set.contains (gives w s p) key) ids
    pub allowed : (key : Fingerprint) → allowed_among s.historical parents key ≡ allowed_by w s ids key

  abbrev pub SeesAll : List (Option Cause) → List Id → Result (List Parent) Cause → Type 0
  SeesAll faults ids (Ok parents) = (first faults ≡ None) × AreSeen ids parents
  SeesAll faults ids (Err cause) = first faults ≡ Some cause

  find_step : (p : Id) (parent : Parent) (removed : Bool) (found : Option Parent) (later : Option Id)
      → parent.id ≡ p → option_map (λ parent. parent.id) found ≡ later
      → option_map (λ parent. parent.id) (cond removed (Some parent) found) ≡ cond removed (Some p) later
  find_step p parent true found later id h = ap Some id
  find_step p parent false found later id h = h

  seen_step : (p : Id) (ids : List Id) (parent : Parent) (others : List Parent)
      → IsSeen s.historical p (has_file w p) (has_removed w p) (bad_file w p (root_of w p)) (gives w s p) parent
      → AreSeen ids others → AreSeen (p ∷ ids) (parent ∷ others)
  seen_step p ids parent others one rest = let one_more : (key : Fingerprint)
      → (set.contains (offered s.historical parent) key && list_all (λ parent. set.contains (offered s.historical parent) key) others)
      ≡ (set.contains (gives w s p) key && list_all (λ p. set.contains (gives w s p) key) ids)
      = λ key. ap₂ (λ a b. a && b) (ap (λ keys. set.contains keys key) one.gives) (rest.give key) in record {
        files = ap₂ (λ a b. a || b) one.file rest.files;
        removes =
            ap (λ b. option_map (λ parent. parent.id) (cond b (Some parent) (find is_removed others))) one.removes
            ∙ find_step p parent (has_removed w p) (find is_removed others) (find (has_removed w) ids) one.id rest.removes;
        fails = ap (λ o. first (o ∷ map faulty others)) one.fails ∙ first-same (bad_file w p (root_of w p)) (map faulty others) (map (λ p. bad_file w p (root_of w p)) ids) rest.fails;
        give = λ key. one_more key;
        allowed = λ key. one_more key;
      }

  all_step : (p : Id) (ids : List Id) (faults later : List (Option Cause)) (one : Result Parent Cause) (rest : Result (List Parent) Cause)
      → Sees s.historical p faults (has_file w p) (has_removed w p) (bad_file w p (root_of w p)) (gives w s p) one
      → SeesAll later ids rest
      → SeesAll (faults ++ later) (p ∷ ids) (onward one (λ parent. onward rest (λ others. Ok (parent ∷ others))))
  all_step p ids faults later (Err cause) rest h hs = found-append faults later cause h
  all_step p ids faults later (Ok parent) (Err cause) h hs = none-append faults later h.0 ∙ hs
  all_step p ids faults later (Ok parent) (Ok others) h hs = (none-append faults later h.0 ∙ hs.0, seen_step p ids parent others h.1 hs.1)

  pub parents_are : (ids : List Id) → SeesAll (flat_map (parent_consulted w) ids) ids (parents_read w (parents_of w) ids)
  parents_are [] = (refl, record { files = refl; removes = refl; fails = refl; give = λ key. refl; allowed = λ key. refl })
  parents_are (p ∷ ids) = all_step p ids (parent_consulted w p) (flat_map (parent_consulted w) ids) (parent_of w (parents_of w) p) (parents_read w (parents_of w) ids) (parent_is p) (parents_are ids)
