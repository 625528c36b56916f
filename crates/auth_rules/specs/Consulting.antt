-- What is consulted, one object after another, as far as it can be read. No public clause cites it.
use Rattle.std.specs.Prelude.{◌≡◌, ℕ, List, [], ◌∷◌, ◌||◌, ◌&&◌, not, map, Bool, true, false, if◌then◌else◌, is_some, Option, Some, None, option_map, Result, Ok, Err}
use Rattle.std.specs.FinSet as set
use Rattle.std.specs.List.{list_any, list_all, find}
use Rattle.child_ports.specs.declared.git.GitRow.{GitRow}
use Rattle.child_ports.specs.declared.sig.SigRow.{SigRow}
use Rattle.child_ports.specs.declared.fingerprint.Fingerprint.{Fingerprint}
use Rattle.child_ports.specs.KeySet.{Keys}
use Rattle.authorizations.specs.declared.fail.AuthFail.{AuthFail}
use Rattle.auth_rules.specs.declared.cause.Cause.{Cause}
use Rattle.auth_rules.specs.declared.cause.Cause.TheVariants.{Unreadable, RemovesFile, ParentRemovedFile, ParentFile, NotAuthorised}
use Rattle.auth_rules.specs.declared.cause.RuleFail.{RuleFail}
use Rattle.auth_rules.specs.declared.cause.RuleFail.TheVariants.{Refused, GitFault, SigFault, Memory}
use Rattle.auth_rules.specs.declared.read_fail.ReadFail.{ReadFail}
use Rattle.auth_rules.specs.declared.read_fail.ReadFail.TheVariants as read
use Rattle.auth_rules.specs.declared.parents.Offer.{Offer}
use Rattle.auth_rules.specs.declared.parents.Offer.TheVariants.{Listed, Faulty, Removed, Absent}
use Rattle.auth_rules.specs.declared.parents.Parent.{Parent}
use Rattle.auth_rules.specs.declared.family.Family.{Family}
use Rattle.auth_rules.specs.World.{World, Id, world_of, onward}
use Rattle.auth_rules.specs.Rules.{when, unless, first, read_as, root_of}

-- the world of git's answers alone: gpgv says nothing
abbrev pub git_world : List GitRow → List ℕ → World
git_world rows dir = world_of rows dir [] []

-- What a call answered is this, unless a call of a port failed or memory was wanting.
abbrev pub Gives : {T : Type 0} → Result T RuleFail → Result T Cause → Type 0
Gives (Ok found) value = value ≡ Ok found
Gives (Err (Refused cause)) value = value ≡ Err cause
Gives (Err GitFault) value = Unit {0}
Gives (Err SigFault) value = Unit {0}
Gives (Err Memory) value = Unit {0}

abbrev pub unread : Id → ReadFail → RuleFail
unread id (read.Unreadable what) = Refused (Unreadable id what)
unread id read.GitFault = GitFault
unread id read.Memory = Memory

-- whether one of the commits has the file, or the first thing that can't be read
abbrev pub any_of : World → List Id → Result Bool Cause
any_of w [] = Ok false
any_of w (c ∷ rest) =
    onward (root_of w c) (λ root.
    onward (any_of w rest) (λ any.
    Ok (is_some root.file || any)))

abbrev pub offer_in : Result Keys AuthFail → Offer
offer_in (Ok keys) = Listed keys
offer_in (Err fail) = Faulty fail

abbrev pub listing_offer : World → Id → Result Offer Cause
listing_offer w blob = onward (read_as blob (w.listing blob)) (λ listing. Ok (offer_in listing))

abbrev pub without_file : Bool → Offer
without_file any = if any then Removed else Absent

-- what a parent offers, by its file and its own parents
abbrev pub offer_of : World → List Id → Option Id → Result Offer Cause
offer_of w parents (Some blob) = listing_offer w blob
offer_of w parents None = onward (any_of w parents) (λ any. Ok (without_file any))

-- a parent, by what gives its own parents
abbrev pub parent_of : World → (Id → List Id) → Id → Result Parent Cause
parent_of w parents p =
    onward (root_of w p) (λ root.
    onward (offer_of w (parents p) root.file) (λ offer.
    Ok (record { id = p; offer = offer })))

abbrev pub parents_read : World → (Id → List Id) → List Id → Result (List Parent) Cause
parents_read w parents [] = Ok []
parents_read w parents (p ∷ rest) =
    onward (parent_of w parents p) (λ parent.
    onward (parents_read w parents rest) (λ others.
    Ok (parent ∷ others)))

-- a commit's root tree, and then each parent; or the first thing that can't be read
abbrev pub family_of : World → (Id → List Id) → Id → Result Family Cause
family_of w parents c =
    onward (root_of w c) (λ root.
    onward (parents_read w parents (parents c)) (λ read.
    Ok (record { root = root; parents = read })))

-- ---- what the parents that were read say

abbrev pub has_offer : Offer → Bool
has_offer (Listed keys) = true
has_offer (Faulty fail) = true
has_offer Removed = false
has_offer Absent = false

abbrev pub removed_offer : Offer → Bool
removed_offer (Listed keys) = false
removed_offer (Faulty fail) = false
removed_offer Removed = true
removed_offer Absent = false

abbrev pub faulty_offer : Id → Offer → Option Cause
faulty_offer p (Listed keys) = None
faulty_offer p (Faulty fail) = Some (ParentFile p fail)
faulty_offer p Removed = None
faulty_offer p Absent = None

abbrev pub offered_by : Keys → Offer → Keys
offered_by historical (Listed keys) = keys
offered_by historical (Faulty fail) = set.empty
offered_by historical Removed = historical
offered_by historical Absent = historical

abbrev pub offers_file : Parent → Bool
offers_file parent = has_offer parent.offer

abbrev pub is_removed : Parent → Bool
is_removed parent = removed_offer parent.offer

abbrev pub faulty : Parent → Option Cause
faulty parent = faulty_offer parent.id parent.offer

-- the keys that a parent gives, where these are the historical keys
abbrev pub offered : Keys → Parent → Keys
offered historical parent = offered_by historical parent.offer

-- the causes by the files of a commit and its parents
abbrev pub parents_cause : Bool → List Parent → Option Cause
parents_cause has parents = first (
    when (not has && list_any offers_file parents) RemovesFile
    ∷ option_map ParentRemovedFile (option_map (λ parent. parent.id) (find is_removed parents))
    ∷ first (map faulty parents)
    ∷ [])

abbrev pub allowed_among : Keys → List Parent → Fingerprint → Bool
allowed_among historical [] key = set.contains historical key
allowed_among historical (p ∷ parents) key = list_all (λ parent. set.contains (offered historical parent) key) (p ∷ parents)

-- the causes that a family has against this signer
abbrev pub family_cause : Keys → Family → Fingerprint → Option Cause
family_cause historical family key = first (
    parents_cause (is_some family.root.file) family.parents
    ∷ unless (allowed_among historical family.parents key) (NotAuthorised key)
    ∷ [])

-- ---- signatures

-- the world of gpgv's verdicts alone: git has nothing
abbrev pub sig_world : List SigRow → List ℕ → World
sig_world sigs keyring = world_of [] [] sigs keyring

-- the value exactly where there is no cause, else the cause
abbrev pub RuledBy : {T : Type 0} → Option Cause → Option T → Result T Cause → Type 0
RuledBy cause value (Ok x) = (cause ≡ None) × (value ≡ Some x)
RuledBy cause value (Err found) = cause ≡ Some found
