-- What was read is read again, and an authentic commit stays authentic.
use Rattle.std.proofs.Common.{◌≡◌, inl, inr, ℕ, ◌≤◌, Bool, List, [], ◌∷◌, length, Option, Some, None, is_some, option_map, Result, Ok, Err, refl, sym, ap, ap₂, subst, ◌∙◌, arith}
use Rattle.std.specs.Prelude.{Contains, IsOk}
use Rattle.std.specs.Option.{option_and_then}
use Rattle.std.specs.Result.{result_ok, result_err, result_map_both}
use Rattle.std.proofs.lemmas.Bool.{false≢true}
use Rattle.hex.specs.Hex.{encode_lower}
use Rattle.child_ports.specs.declared.fingerprint.Fingerprint.{Fingerprint}
use Rattle.child_ports.specs.declared.git.GitRow.{GitRow}
use Rattle.child_ports.specs.declared.sig.SigRow.{SigRow}
use Rattle.child_ports.specs.Git.{answer}
use Rattle.child_ports.specs.KeySet.{Keys}
use Rattle.child_ports.specs.Sig.{verdict}
use Rattle.object_frames.specs.declared.kind.Kind.{Kind}
use Rattle.object_frames.specs.declared.kind.Kind.TheVariants as kind
use Rattle.object_frames.specs.declared.object.Fetched.{Fetched}
use Rattle.object_frames.specs.declared.object.Fetched.TheVariants as fetched
use Rattle.object_frames.specs.declared.frame_fail.FrameFail.{FrameFail}
use Rattle.object_frames.specs.Fetched.{fetched_of}
use Rattle.commit_objects.specs.declared.commit.Commit.{Commit}
use Rattle.authorizations.specs.declared.fail.AuthFail.{AuthFail}
use Rattle.authorizations.specs.declared.scope.Scope.{Scope}
use Rattle.openpgp_status.specs.declared.judged.Judged.{Judged}
use Rattle.openpgp_status.specs.declared.judged.Judged.TheVariants as judged
use Rattle.openpgp_status.specs.Judging.{judge_of}
use Rattle.commit_graph.specs.Chains.{IsChain, Reaches, IsGeneration}
use Rattle.commit_graph.specs.Covers.{Parenthood, IsWithin, IsNew, IsRelated, HasGeneration}
use Rattle.commit_graph.proofs.ChainLemmas.{reach_itself}
use Rattle.commit_graph.proofs.CoveredLemmas.{IsWithin-parent}
use Rattle.auth_rules.specs.declared.cause.Cause.{Cause}
use Rattle.auth_rules.specs.declared.cause.RuleFail.TheVariants.{Refused}
use Rattle.auth_rules.specs.declared.cause.What.{What}
use Rattle.auth_rules.specs.declared.family.Family.{Family}
use Rattle.auth_rules.specs.declared.parents.Offer.{Offer}
use Rattle.auth_rules.specs.declared.parents.Parent.{Parent}
use Rattle.auth_rules.specs.declared.root.Root.{Root}
use Rattle.auth_rules.specs.Consulting.{any_of, offer_of, listing_offer, offer_in, without_file, parent_of, parents_read, family_of, family_cause}
use Rattle.auth_rules.specs.Rules.{first, read_as, root_of, root_fault, has, has_file, parents_of, list_parents, judgement, judged_of, valid_key, signer, signature_cause, other_signer, cause, intro_cause}
use Rattle.auth_rules.specs.World.{World, Id, onward, content_in, content_at, commit_in, file_in, commit_limit, tree_limit, file_limit, world_of}
use Rattle.auth_rules.proofs.CauseLemmas.{judged_is, unread_answers, signature_refused, family_answers}
use Rattle.commit_history.specs.Members.{history, IsMember, IsSound, IsWhole}
use Rattle.auth_engine.specs.Authentic.{IsAuthentic}
use Rattle.auth_engine.specs.Growth.{KeepsObjects, KeepsVerdicts, Grows}

-- ---- steps

onward_stays : {A B E : Type 0} (r r' : Result A E) (f g : A → Result B E) (y : B) → ((x : A) → r ≡ Ok x → r' ≡ Ok x) → ((x : A) → r ≡ Ok x → f x ≡ Ok y → g x ≡ Ok y)
    → onward r f ≡ Ok y → onward r' g ≡ Ok y
onward_stays (Ok x) r' f g y keep step e = ap (λ v. onward v g) (keep x refl) ∙ step x refl e
onward_stays (Err v) r' f g y keep step e = cc

some_none : {A B : Type 0} {o : Option A} {x : A} → o ≡ None → o ≡ Some x → B
some_none e h = cc

-- ---- tables

module _ (dir : List ℕ) (rows rows' : List GitRow) (objects : KeepsObjects dir rows rows') where
  content_stays : (wanted : Kind) (limit : ℕ) (id : Id) (content : List ℕ) → content_at rows dir wanted limit id ≡ Ok content → content_at rows' dir wanted limit id ≡ Ok content
  content_stays wanted limit id content e = by_found (fetched_of limit (encode_lower id) (answer rows dir (encode_lower id))) refl e
    where
      by_found : (v : Result Fetched FrameFail) → fetched_of limit (encode_lower id) (answer rows dir (encode_lower id)) ≡ v
          → content_in wanted v ≡ Ok content → content_at rows' dir wanted limit id ≡ Ok content
      by_found (Ok (fetched.Found object)) is e = ap (content_in wanted) (objects id limit object is) ∙ e
      by_found (Ok fetched.Missing) is e = cc
      by_found (Err fail) is e = cc

judge_nothing : judge_of [] ≡ judged.Nothing
judge_nothing = refl

-- git's answers and gpgv's verdicts that grow are a world that grows
pub world_grows : (dir : List ℕ) (rows rows' : List GitRow) (sigs sigs' : List SigRow) (keyring : List ℕ) → KeepsObjects dir rows rows' → KeepsVerdicts sigs sigs'
    → Grows (world_of rows dir sigs keyring) (world_of rows' dir sigs' keyring)
world_grows dir rows rows' sigs sigs' keyring objects verdicts = record {
  commits = λ id commit e. onward_stays (content_at rows dir kind.Commit commit_limit id) (content_at rows' dir kind.Commit commit_limit id) commit_in commit_in commit
      (content_stays dir rows rows' objects kind.Commit commit_limit id) (λ x is step. step) e;
  files = λ id file e. onward_stays (content_at rows dir kind.Tree tree_limit id) (content_at rows' dir kind.Tree tree_limit id) file_in file_in file
      (content_stays dir rows rows' objects kind.Tree tree_limit id) (λ x is step. step) e;
  listings = λ id listing e. onward_stays (content_at rows dir kind.Blob file_limit id) (content_at rows' dir kind.Blob file_limit id) _ _ listing
      (content_stays dir rows rows' objects kind.Blob file_limit id) (λ x is step. step) e;
  valid = λ signature payload key hash e.
      ap judge_of (verdicts keyring signature payload (λ nothing. no_valid key hash (sym (ap judge_of nothing ∙ judge_nothing) ∙ e))) ∙ e;
}
  where
    no_valid : (key : Fingerprint) (hash : ℕ) → judged.Nothing ≡ judged.Valid key hash → ⊥
    no_valid key hash e = cc

-- ---- worlds

module _ (w w' : World) (grows : Grows w w') where
  read_stays : {A : Type 0} (id : Id) (r r' : Result A What) → ((x : A) → r ≡ Ok x → r' ≡ Ok x) → (x : A) → read_as id r ≡ Ok x → read_as id r' ≡ Ok x
  read_stays id (Ok y) r' keep x e = ap (read_as id) (keep y refl) ∙ e
  read_stays id (Err what) r' keep x e = cc

  sound_commit : (c : Id) → IsSound w c → (commit : Commit) × (w.commit c ≡ Ok commit)
  sound_commit c sound = by_read (w.commit c) refl sound
    where
      by_read : (v : Result Commit What) → w.commit c ≡ v → IsOk v → (commit : Commit) × (w.commit c ≡ Ok commit)
      by_read (Ok commit) is ok = (commit, is)
      by_read (Err what) is ok = absurd (false≢true ok)

  pub sound_stays : (c : Id) → IsSound w c → IsSound w' c
  sound_stays c sound = let read = sound_commit c sound in subst IsOk (sym (grows.commits c read.0 read.1)) refl

  pub parents_stay : (c : Id) → IsSound w c → parents_of w' c ≡ parents_of w c
  parents_stay c sound =
      let read = sound_commit c sound in
      ap (λ v. list_parents (result_ok v)) (grows.commits c read.0 read.1 ∙ sym read.1)

  root_stays : (c : Id) (root : Root) → root_of w c ≡ Ok root → root_of w' c ≡ Ok root
  root_stays c root e = onward_stays (read_as c (w.commit c)) (read_as c (w'.commit c)) _ _ root (read_stays c (w.commit c) (w'.commit c) (grows.commits c))
      (λ commit is step. onward_stays (read_as commit.tree (w.file commit.tree)) (read_as commit.tree (w'.file commit.tree)) _ _ root
      (read_stays commit.tree (w.file commit.tree) (w'.file commit.tree) (grows.files commit.tree)) (λ file is step. step) step) e

  -- a commit whose root tree can be read is sound
  root_sound : (c : Id) (root : Root) → root_of w c ≡ Ok root → IsSound w c
  root_sound c root e = by_read (w.commit c) refl e
    where
      by_read : (v : Result Commit What) → w.commit c ≡ v → onward (read_as c v) (λ commit. onward (read_as commit.tree (w.file commit.tree)) (λ file. Ok (record { commit = commit; file = file }))) ≡ Ok root → IsOk v
      by_read (Ok commit) is e = refl
      by_read (Err what) is e = cc

  any_stays : (cs : List Id) (any : Bool) → any_of w cs ≡ Ok any → any_of w' cs ≡ Ok any
  any_stays [] any e = e
  any_stays (c ∷ rest) any e = onward_stays (root_of w c) (root_of w' c) _ _ any (root_stays c)
      (λ root is step. onward_stays (any_of w rest) (any_of w' rest) _ _ any (any_stays rest) (λ more is step. step) step) e

  offer_stays : (parents : List Id) (file : Option Id) (offer : Offer) → offer_of w parents file ≡ Ok offer → offer_of w' parents file ≡ Ok offer
  offer_stays parents (Some blob) offer e = onward_stays (read_as blob (w.listing blob)) (read_as blob (w'.listing blob)) _ _ offer
      (read_stays blob (w.listing blob) (w'.listing blob) (grows.listings blob)) (λ listing is step. step) e
  offer_stays parents None offer e = onward_stays (any_of w parents) (any_of w' parents) _ _ offer (any_stays parents) (λ any is step. step) e

  parent_stays : (p : Id) (parent : Parent) → parent_of w (parents_of w) p ≡ Ok parent → parent_of w' (parents_of w') p ≡ Ok parent
  parent_stays p parent e = onward_stays (root_of w p) (root_of w' p) _ _ parent (root_stays p)
      (λ root is step. onward_stays (offer_of w (parents_of w p) root.file) (offer_of w' (parents_of w' p) root.file) _ _ parent
      (λ offer e. subst (λ (parents : List Id). offer_of w' parents root.file ≡ Ok offer) (sym (parents_stay p (root_sound p root is))) (offer_stays (parents_of w p) root.file offer e))
      (λ offer is step. step) step) e

  all_stay : (ps : List Id) (parents : List Parent) → parents_read w (parents_of w) ps ≡ Ok parents → parents_read w' (parents_of w') ps ≡ Ok parents
  all_stay [] parents e = e
  all_stay (p ∷ rest) parents e = onward_stays (parent_of w (parents_of w) p) (parent_of w' (parents_of w') p) _ _ parents (parent_stays p)
      (λ parent is step. onward_stays (parents_read w (parents_of w) rest) (parents_read w' (parents_of w') rest) _ _ parents (all_stay rest) (λ others is step. step) step) e

  family_stays : (c : Id) (family : Family) → family_of w (parents_of w) c ≡ Ok family → family_of w' (parents_of w') c ≡ Ok family
  family_stays c family e = onward_stays (root_of w c) (root_of w' c) _ _ family (root_stays c)
      (λ root is step. onward_stays (parents_read w (parents_of w) (parents_of w c)) (parents_read w' (parents_of w') (parents_of w' c)) _ _ family
      (λ parents e. subst (λ (ps : List Id). parents_read w' (parents_of w') ps ≡ Ok parents) (sym (parents_stay c (root_sound c root is))) (all_stay (parents_of w c) parents e))
      (λ parents is step. step) step) e

  -- ---- signatures

  -- a signature that isn't refused is valid
  valid_behind : (j : Option Judged) (filed : Bool) (keys : Keys) → signature_cause j filed keys ≡ None → (key : Fingerprint) × (hash : ℕ) × (j ≡ Some (judged.Valid key hash))
  valid_behind (Some (judged.Valid key hash)) filed keys e = (key, hash, refl)
  valid_behind (Some judged.Bad) filed keys e = cc
  valid_behind (Some judged.NoKey) filed keys e = cc
  valid_behind (Some judged.NoData) filed keys e = cc
  valid_behind (Some judged.Several) filed keys e = cc
  valid_behind (Some judged.Nothing) filed keys e = cc
  valid_behind (Some (judged.Unreadable line)) filed keys e = cc
  valid_behind None filed keys e = cc

  judgement_stays : (commit : Commit) (key : Fingerprint) (hash : ℕ) → judgement w commit ≡ Some (judged.Valid key hash) → judgement w' commit ≡ Some (judged.Valid key hash)
  judgement_stays commit key hash e = by_signature commit.signature refl e
    where
      some_same : {A : Type 0} {x y : A} → Some x ≡ Some y → x ≡ y
      some_same e = cc

      by_signature : (o : Option (List ℕ)) → commit.signature ≡ o → option_map (λ signature. w.judged signature commit.payload) o ≡ Some (judged.Valid key hash)
          → judgement w' commit ≡ Some (judged.Valid key hash)
      by_signature (Some signature) is e = ap (option_map (λ signature. w'.judged signature commit.payload)) is ∙ ap Some (grows.valid signature commit.payload key hash (some_same e))
      by_signature None is e = cc

  -- ---- causes

  pub cause_stays : (s : Scope) (keys : Keys) (c : Id) → cause w s keys c ≡ None → cause w' s keys c ≡ None
  cause_stays s keys c none = by_family (family_of w (parents_of w) c) refl
    where
      by_cause : (family : Family) (read : family_of w (parents_of w) c ≡ Ok family) (key : Fingerprint) (hash : ℕ)
          → judgement w family.root.commit ≡ Some (judged.Valid key hash) → signature_cause (judgement w family.root.commit) (is_some family.root.file) keys ≡ None
          → (o : Option Cause) → family_cause s.historical family key ≡ o → cause w' s keys c ≡ None
      by_cause family read key hash valid holds (Some found) is =
          some_none none (family_answers w s keys c family read key holds (ap (option_and_then valid_key) valid) (Err (Refused found)) is)
      by_cause family read key hash valid holds None is =
          let again = judgement_stays family.root.commit key hash valid in
          let holds' : signature_cause (judgement w' family.root.commit) (is_some family.root.file) keys ≡ None = ap (λ j. signature_cause j (is_some family.root.file) keys) (again ∙ sym valid) ∙ holds in
          (family_answers w' s keys c family (family_stays c family read) key holds' (ap (option_and_then valid_key) again) (Ok key) (is, refl)).0

      by_signature : (family : Family) → family_of w (parents_of w) c ≡ Ok family → (o : Option Cause) → signature_cause (judgement w family.root.commit) (is_some family.root.file) keys ≡ o → cause w' s keys c ≡ None
      by_signature family read (Some found) is = some_none none (signature_refused w s keys c family read found is)
      by_signature family read None is =
          let valid = valid_behind (judgement w family.root.commit) (is_some family.root.file) keys is in
          by_cause family read valid.0 valid.1 valid.2 is (family_cause s.historical family valid.0) refl

      by_family : (v : Result Family Cause) → family_of w (parents_of w) c ≡ v → cause w' s keys c ≡ None
      by_family (Ok family) read = by_signature family read (signature_cause (judgement w family.root.commit) (is_some family.root.file) keys) refl
      by_family (Err found) read = some_none none (unread_answers w s keys c {T = Family} (λ _. Unit {0}) (Refused found) read)

  -- what is said of the introduction, by what is read of it
  abbrev intro_by : Scope → Keys → Option Cause → Option Judged → Bool → Option Cause
  intro_by s keys fault j filed = first (fault ∷ signature_cause j filed keys ∷ option_and_then (other_signer s) (option_and_then valid_key j) ∷ [])

  pub intro_stays : (s : Scope) (keys : Keys) → intro_cause w s keys ≡ None → intro_cause w' s keys ≡ None
  intro_stays s keys none = by_root (root_of w s.intro) refl
    where
      second : (o : Option Cause) (p : Option Cause) (rest : List (Option Cause)) → o ≡ None → first (o ∷ p ∷ rest) ≡ None → p ≡ None
      second (Some x) p rest is e = cc
      second None (Some x) rest is e = cc
      second None None rest is e = refl

      by_root : (v : Result Root Cause) → root_of w s.intro ≡ v → intro_cause w' s keys ≡ None
      by_root (Err found) is = some_none none (ap (λ (o : Option Cause). first (o ∷ signature_cause (judged_of w s.intro) (has_file w s.intro) keys ∷ option_and_then (other_signer s) (signer w s.intro) ∷ [])) (ap result_err is))
      by_root (Ok root) is =
          let again = root_stays s.intro root is in
          let clear : root_fault w s.intro ≡ None = ap result_err is in
          let clear' : root_fault w' s.intro ≡ None = ap result_err again in
          let holds = second (root_fault w s.intro) (signature_cause (judged_of w s.intro) (has_file w s.intro) keys) _ clear none in
          let valid = valid_behind (judged_of w s.intro) (has_file w s.intro) keys holds in
          let there = judgement_stays root.commit valid.0 valid.1 (sym (judged_is w s.intro root is) ∙ valid.2) in
          let same_judged : judged_of w' s.intro ≡ judged_of w s.intro = judged_is w' s.intro root again ∙ there ∙ sym valid.2 in
          let same_filed : has_file w' s.intro ≡ has_file w s.intro = ap has again ∙ sym (ap has is) in
          ap₂ (intro_by s keys (root_fault w' s.intro)) same_judged same_filed
          ∙ ap (λ (fault : Option Cause). intro_by s keys fault (judged_of w s.intro) (has_file w s.intro)) (clear' ∙ sym clear) ∙ none

  -- ---- histories

  module _ (target intro : Id) (whole : IsWhole w target intro) where
    parent_member : (c p : Id) → IsMember w target intro c → history w c p → IsMember w target intro p
    parent_member c p member parent = IsWithin-parent (history w) target intro c p member parent

    there : (c p : Id) → IsMember w target intro c → history w c p → history w' c p
    there c p member parent = subst (λ (ps : List Id). Contains ps p) (sym (parents_stay c (whole.sound c member))) parent

    back : (c p : Id) → IsMember w target intro c → history w' c p → history w c p
    back c p member parent = subst (λ (ps : List Id). Contains ps p) (parents_stay c (whole.sound c member)) parent

    chain_there : (c : Id) (rest : List Id) → IsMember w target intro c → IsChain (history w) c rest → IsChain (history w') c rest
    chain_there c [] member chain = tt
    chain_there c (p ∷ rest) member chain = (there c p member chain.0, chain_there p rest (parent_member c p member chain.0) chain.1)

    chain_back : (c : Id) (rest : List Id) → IsMember w target intro c → IsChain (history w') c rest → IsChain (history w) c rest
    chain_back c [] member chain = tt
    chain_back c (p ∷ rest) member chain =
        let parent = back c p member chain.0 in
        (parent, chain_back p rest (parent_member c p member parent) chain.1)

    reach_there : (a b : Id) → IsMember w target intro a → Reaches (history w) a b → Reaches (history w') a b
    reach_there a b member r = record { rest = r.rest; chain = chain_there a r.rest member r.chain; ends = r.ends }

    reach_back : (a b : Id) → IsMember w target intro a → Reaches (history w') a b → Reaches (history w) a b
    reach_back a b member r = record { rest = r.rest; chain = chain_back a r.rest member r.chain; ends = r.ends }

    target_member : IsMember w target intro target
    target_member = inl (reach_itself target)

    intro_member : IsMember w target intro intro
    intro_member = inr (reach_itself intro)

    member_back : (c : Id) → IsMember w' target intro c → IsMember w target intro c
    member_back c (inl r) = inl (reach_back target c target_member r)
    member_back c (inr r) = inr (reach_back intro c intro_member r)

    ranked_there : (c : Id) → IsMember w target intro c → HasGeneration (history w) c → HasGeneration (history w') c
    ranked_there c member g = (
      g.0,
      record {
        rest = g.1.rest;
        chain = chain_there c g.1.rest member g.1.chain;
        count = g.1.count;
        greatest = λ others chain. g.1.greatest others (chain_back c others member chain);
      },
    )

    pub whole_stays : IsWhole w' target intro
    whole_stays = record {
      few = record { ids = whole.few.ids; few = whole.few.few; complete = λ c member. whole.few.complete c (member_back c member) };
      sound = λ c member. sound_stays c (whole.sound c (member_back c member));
      ranked = λ c member. let was = member_back c member in ranked_there c was (whole.ranked c was);
    }

    pub related_stays : IsRelated (history w) target intro → IsRelated (history w') target intro
    related_stays (inl r) = inl (reach_there intro target intro_member r)
    related_stays (inr r) = inr (reach_there target intro target_member r)

    pub new_back : (c : Id) → IsNew (history w') target intro c → IsNew (history w) target intro c
    new_back c is = (reach_back target c target_member is.0, λ r. is.1 (reach_there intro c intro_member r))

  -- an authentic commit stays authentic
  pub authentic_stays : (s : Scope) (keys : Keys) (target : Id) → IsAuthentic w s keys target → IsAuthentic w' s keys target
  authentic_stays s keys target auth = record {
    whole = whole_stays target s.intro auth.whole;
    introduced = intro_stays s keys auth.introduced;
    related = related_stays target s.intro auth.whole auth.related;
    authorised = λ c is. cause_stays s keys c (auth.authorised c (new_back target s.intro auth.whole c is));
  }
