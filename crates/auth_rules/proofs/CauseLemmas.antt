-- The cause of a commit, by what was read of it and of its parents.
use Rattle.std.proofs.Common.{◌≡◌, ℕ, suc, Bool, false, ◌&&◌, not, cond, List, [], ◌∷◌, map, Option, Some, None, Result, Ok, Err, is_some, is_none, unwrap_or, refl, sym, ap, ap₂, subst, ◌∙◌, arith}
use Rattle.std.specs.List.{Contains, list_any, find, flat_map}
use Rattle.std.specs.Option.{option_map, option_and_then}
use Rattle.std.specs.Result.{result_err, result_ok}
use Rattle.child_ports.specs.Causes.{one_more}
use Rattle.child_ports.specs.KeySet.{Keys}
use Rattle.child_ports.specs.declared.fingerprint.Fingerprint.{Fingerprint}
use Rattle.authorizations.specs.declared.scope.Scope.{Scope}
use Rattle.commit_graph.specs.History.{Commits, Holds, IsWhole}
use Rattle.commit_graph.specs.Walk.{parents_in}
use Rattle.commit_objects.specs.declared.commit.Commit.{Commit}
use Rattle.auth_rules.specs.declared.cause.Cause.{Cause}
use Rattle.auth_rules.specs.declared.cause.Cause.TheVariants.{RemovesFile, ParentRemovedFile, NotAuthorised}
use Rattle.auth_rules.specs.declared.cause.RuleFail.{RuleFail}
use Rattle.auth_rules.specs.declared.cause.RuleFail.TheVariants.{Refused, GitFault, SigFault, Memory}
use Rattle.auth_rules.specs.declared.cause.What.{What}
use Rattle.auth_rules.specs.declared.family.Family.{Family}
use Rattle.auth_rules.specs.declared.parents.Parent.{Parent}
use Rattle.auth_rules.specs.declared.root.Root.{Root}
use Rattle.auth_rules.specs.World.{World, Id, onward}
use Rattle.auth_rules.specs.Rules.{first, when, unless, read_as, root_of, parents_of, has, lacks, has_file, lacks_file, judgement, judged_of, valid_key, signer, parent_consulted, unsigned, unreadable, signature_cause, removes_file, parent_removed_file, parent_file, not_authorised, allows, cause}
use Rattle.auth_rules.specs.Answers.{HoldsFamily, ListsParents, AnswersBy, AskedWhen, Asks, is_asked}
use Rattle.auth_rules.specs.Consulting.{Gives, parents_read, offer_of, family_of, offers_file, is_removed, faulty, parents_cause, allowed_among, family_cause}
use Rattle.auth_rules.proofs.FirstLemmas.{first-found, first-next, first-join}
use Rattle.auth_rules.proofs.FamilyLemmas.{AreSeen, SeesAll, parents_are}

-- ---- the graph lists what the commits name

here : (p : Id) (ids : List Id) → Contains (p ∷ ids) p
here p ids = (0, omega arith, refl)

there : (p : Id) (ids : List Id) (q : Id) → Contains ids q → Contains (p ∷ ids) q
there p ids q (k, lt, e) = (suc k, omega arith, e)

-- a parent's reading, and those of its siblings
abbrev with_parent : World → Id → List Id → Result (List Parent) Cause → Result (List Parent) Cause
with_parent w p up others =
    onward (onward (root_of w p) (λ root. onward (offer_of w up root.file) (λ offer. Ok (record { id = p; offer = offer })))) (λ parent.
    onward others (λ others. Ok (parent ∷ others)))

read_alike : (w : World) (listed : Id → List Id) (ids : List Id) → ((p : Id) → Contains ids p → listed p ≡ parents_of w p)
    → parents_read w listed ids ≡ parents_read w (parents_of w) ids
read_alike w listed [] alike = refl
read_alike w listed (p ∷ ids) alike = ap₂ (with_parent w p) (alike p (here p ids)) (read_alike w listed ids (λ q h. alike q (there p ids q h)))

abbrev with_parents : World → Id → Result (List Parent) Cause → Result Family Cause
with_parents w c read = onward (root_of w c) (λ root. onward read (λ read. Ok (record { root = root; parents = read })))

module _ (w : World) (held : Commits) (lists : ListsParents w held) where
  listed_is : (c : Id) → Holds held c → parents_in held c ≡ parents_of w c
  listed_is c holds = ap (λ o. unwrap_or o []) (lists c holds)

  pub family_alike : (c : Id) → HoldsFamily held c → family_of w (parents_in held) c ≡ family_of w (parents_of w) c
  family_alike c family = ap (with_parents w c)
      (ap (parents_read w (parents_in held)) (listed_is c family.itself)
      ∙ read_alike w (parents_in held) (parents_of w c) (λ p h. listed_is p (family.parents p (record { parents = parents_of w c; given = lists c family.itself; listed = h }))))

-- a graph that is whole holds the family of each of its commits
pub whole_family : (held : Commits) (c : Id) → Holds held c → IsWhole held → HoldsFamily held c
whole_family held c holds whole = record { itself = holds; parents = λ p h. whole c p h; grandparents = λ p q h hq. whole p q hq }

-- ---- the commit

abbrev with_file : World → Commit → Result (Option Id) What → Result Root Cause
with_file w commit f = onward (read_as commit.tree f) (λ file. Ok (record { commit = commit; file = file }))

module _ (w : World) where
  commit_at_root : (c : Id) (v : Result Commit What) (root : Root)
      → onward (read_as c v) (λ commit. with_file w commit (w.file commit.tree)) ≡ Ok root
      → result_ok v ≡ Some root.commit
  commit_at_root c (Err what) root e = cc
  commit_at_root c (Ok commit) root e = by_file (w.file commit.tree) e
    where
      by_file : (f : Result (Option Id) What) → with_file w commit f ≡ Ok root → Some commit ≡ Some root.commit
      by_file (Err what) e = cc
      by_file (Ok file) e = ap (λ r. option_map (λ root. root.commit) (result_ok r)) e

  module _ (c : Id) (root : Root) (is : root_of w c ≡ Ok root) where
    pub judged_is : judged_of w c ≡ judgement w root.commit
    judged_is = ap (option_and_then (judgement w)) (commit_at_root c (w.commit c) root is)

    pub has_is : has_file w c ≡ is_some root.file
    has_is = ap has is

    pub lacks_is : lacks_file w c ≡ not (is_some root.file)
    lacks_is = ap lacks is ∙ none_is root.file
      where
        none_is : (o : Option Id) → is_none o ≡ not (is_some o)
        none_is (Some x) = refl
        none_is None = refl

    pub signature_is : (keys : Keys) → signature_cause (judgement w root.commit) (is_some root.file) keys ≡ signature_cause (judged_of w c) (has_file w c) keys
    signature_is keys = ap₂ (λ j h. signature_cause j h keys) (sym judged_is) (sym has_is)

    pub signer_is : (key : Fingerprint) → option_and_then valid_key (judgement w root.commit) ≡ Some key → signer w c ≡ Some key
    signer_is key e = ap (option_and_then valid_key) judged_is ∙ e

    pub unsigned_is : is_none (first (unsigned (judged_of w c) ∷ [])) ≡ is_some root.commit.signature
    unsigned_is = ap (λ j. is_none (first (unsigned j ∷ []))) judged_is ∙ by_signature root.commit.signature
      where
        by_signature : (o : Option (List ℕ)) → is_none (first (unsigned (option_map (λ signature. w.judged signature root.commit.payload) o) ∷ [])) ≡ is_some o
        by_signature (Some x) = refl
        by_signature None = refl

-- ---- the family

module _ (w : World) (s : Scope) (keys : Keys) (c : Id) where
  -- all that is consulted was read, and says what the rules ask
  pub record IsRead (root : Result Root Cause) (faults : List (Option Cause)) (ids : List Id) (family : Family) : Type 0 where
    pub none : first (result_err root ∷ faults) ≡ None
    pub is : root ≡ Ok family.root
    pub seen : AreSeen w s ids family.parents

  abbrev pub ReadsAll : Result Root Cause → List (Option Cause) → List Id → Result Family Cause → Type 0
  ReadsAll root faults ids (Ok family) = IsRead root faults ids family
  ReadsAll root faults ids (Err cause) = first (result_err root ∷ faults) ≡ Some cause

  family_step : (root : Result Root Cause) (faults : List (Option Cause)) (ids : List Id) (parents : Result (List Parent) Cause)
      → SeesAll w s faults ids parents
      → ReadsAll root faults ids (onward root (λ root. onward parents (λ read. Ok (record { root = root; parents = read }))))
  family_step (Err cause) faults ids parents h = refl
  family_step (Ok root) faults ids (Err cause) h = h
  family_step (Ok root) faults ids (Ok parents) h = record { none = h.0; is = refl; seen = h.1 }

  family_is : ReadsAll (root_of w c) (flat_map (parent_consulted w) (parents_of w c)) (parents_of w c) (family_of w (parents_of w) c)
  family_is = family_step (root_of w c) (flat_map (parent_consulted w) (parents_of w c)) (parents_of w c) (parents_read w (parents_of w) (parents_of w c)) (parents_are w s (parents_of w c))

  -- the causes behind the first
  abbrev later : List (Option Cause)
  later = signature_cause (judged_of w c) (has_file w c) keys ∷ removes_file w c ∷ parent_removed_file w c ∷ parent_file w c ∷ not_authorised w s c ∷ []

  module _ {T : Type 0} (IsValue : T → Type 0) where
    -- something that is consulted can't be read
    pub unread_answers : (fail : RuleFail) → Gives {T = Family} (Err fail) (family_of w (parents_of w) c) → AnswersBy (cause w s keys c) IsValue (Err fail)
    unread_answers (Refused found) e = first-found (unreadable w c) later found (subst (ReadsAll (root_of w c) (flat_map (parent_consulted w) (parents_of w c)) (parents_of w c)) e family_is)
    unread_answers GitFault e = tt
    unread_answers SigFault e = tt
    unread_answers Memory e = tt

  pub unread_asks : (T : Type 0) (fail : RuleFail) (before : ℕ) → Gives {T = Family} (Err fail) (family_of w (parents_of w) c) → Asks {T = T} (is_asked w c) (Err fail) before before
  unread_asks T (Refused found) before e =
      let is : is_asked w c ≡ false = ap is_none (first-found (unreadable w c) (unsigned (judged_of w c) ∷ []) found (subst (ReadsAll (root_of w c) (flat_map (parent_consulted w) (parents_of w c)) (parents_of w c)) e family_is)) in
      sym (ap (λ asked. cond asked (one_more before) before) is)
  unread_asks T GitFault before e = tt
  unread_asks T SigFault before e = tt
  unread_asks T Memory before e = tt

  module _ (family : Family) (read : family_of w (parents_of w) c ≡ Ok family) where
    facts : IsRead (root_of w c) (flat_map (parent_consulted w) (parents_of w c)) (parents_of w c) family
    facts = subst (ReadsAll (root_of w c) (flat_map (parent_consulted w) (parents_of w c)) (parents_of w c)) read family_is

    abbrev signed : Option Cause
    signed = signature_cause (judgement w family.root.commit) (is_some family.root.file) keys

    -- its signature is refused
    pub signature_refused : (found : Cause) → signed ≡ Some found → cause w s keys c ≡ Some found
    signature_refused found e =
        first-next (unreadable w c) later facts.none
        ∙ first-found (signature_cause (judged_of w c) (has_file w c) keys) _ found (sym (signature_is w c family.root facts.is keys) ∙ e)

    -- its signature holds
    module _ (key : Fingerprint) (holds : signed ≡ None) (valid : option_and_then valid_key (judgement w family.root.commit) ≡ Some key) where
      abbrev files : List (Option Cause)
      files = removes_file w c ∷ parent_removed_file w c ∷ parent_file w c ∷ []

      abbrev removes : Bool → Bool → Option Cause
      removes lack one = when (lack && one) RemovesFile

      removes_same : when (not (is_some family.root.file) && list_any offers_file family.parents) RemovesFile ≡ removes_file w c
      removes_same = ap₂ removes (sym (lacks_is w c family.root facts.is)) facts.seen.files

      files_same : parents_cause (is_some family.root.file) family.parents ≡ first files
      files_same =
          ap (λ o. first (o ∷ option_map ParentRemovedFile (option_map (λ parent. parent.id) (find is_removed family.parents)) ∷ first (map faulty family.parents) ∷ [])) removes_same
          ∙ ap₂ (λ o p. first (removes_file w c ∷ option_map ParentRemovedFile o ∷ p ∷ [])) facts.seen.removes facts.seen.fails

      allowed_same : unless (allowed_among s.historical family.parents key) (NotAuthorised key) ≡ not_authorised w s c
      allowed_same =
          ap (λ b. unless b (NotAuthorised key)) (facts.seen.allowed key)
          ∙ sym (ap (option_and_then (λ key. unless (allows w s c key) (NotAuthorised key))) (signer_is w c family.root facts.is key valid))

      cause_same : cause w s keys c ≡ family_cause s.historical family key
      cause_same =
          first-next (unreadable w c) later facts.none
          ∙ first-next (signature_cause (judged_of w c) (has_file w c) keys) _ (sym (signature_is w c family.root facts.is keys) ∙ holds)
          ∙ sym (ap₂ (λ o p. first (o ∷ p ∷ [])) files_same allowed_same ∙ first-join files (not_authorised w s c))

      pub family_answers : (result : Result Fingerprint RuleFail) → AnswersBy (family_cause s.historical family key) (λ signer. signer ≡ key) result
          → AnswersBy (cause w s keys c) (λ key. signer w c ≡ Some key) result
      family_answers (Ok found) h = (cause_same ∙ h.0, signer_is w c family.root facts.is key valid ∙ ap Some (sym h.1))
      family_answers (Err (Refused found)) h = cause_same ∙ h
      family_answers (Err GitFault) h = tt
      family_answers (Err SigFault) h = tt
      family_answers (Err Memory) h = tt

    pub signature_answers : {T : Type 0} (IsValue : T → Type 0) (IsKey : Fingerprint → Type 0) (fail : RuleFail) → AnswersBy signed IsKey (Err fail) → AnswersBy (cause w s keys c) IsValue (Err fail)
    signature_answers IsValue IsKey (Refused found) e = signature_refused found e
    signature_answers IsValue IsKey GitFault e = tt
    signature_answers IsValue IsKey SigFault e = tt
    signature_answers IsValue IsKey Memory e = tt

    pub asked_is : is_asked w c ≡ is_some family.root.commit.signature
    asked_is = ap is_none (first-next (unreadable w c) (unsigned (judged_of w c) ∷ []) facts.none) ∙ unsigned_is w c family.root facts.is

-- ---- questions

-- the same questions, by another answer that is no value
pub asks_fail : (T U : Type 0) (fail : RuleFail) (asked due : Bool) (before now : ℕ) → due ≡ asked → Asks {T = T} asked (Err fail) before now → Asks {T = U} due (Err fail) before now
asks_fail T U (Refused found) asked due before now e h = h ∙ ap (λ b. cond b (one_more before) before) (sym e)
asks_fail T U GitFault asked due before now e h = tt
asks_fail T U SigFault asked due before now e h = tt
asks_fail T U Memory asked due before now e h = tt

-- the same questions, by any answer behind the signature's
pub asks_behind : {U : Type 0} (result : Result U RuleFail) (asked due : Bool) (before now : ℕ) → due ≡ asked → AskedWhen asked before now → Asks {T = U} due result before now
asks_behind (Ok value) asked due before now e h = h ∙ ap (λ b. cond b (one_more before) before) (sym e)
asks_behind (Err (Refused found)) asked due before now e h = h ∙ ap (λ b. cond b (one_more before) before) (sym e)
asks_behind (Err GitFault) asked due before now e h = tt
asks_behind (Err SigFault) asked due before now e h = tt
asks_behind (Err Memory) asked due before now e h = tt
