-- What was read, and one line more.
use Rattle.std.proofs.Common.{◌≡◌, ℕ, ◌<◌, Bool, true, false, not, cond, nat_lt, ◌&&◌, ◌==◌, Option, Some, None, List, [], ◌∷◌, ◌++◌, length, refl, sym, ap, ◌∙◌, subst, arith, append_assoc, append-nil, length-append, codes, option_map, bytes_eq}
use Rattle.std.specs.List.{flat_map, list_any}
use Rattle.std.specs.List.Sorted.{IsStrictlySortedBy}
use Rattle.std.proofs.lemmas.Bool.{and_parts, eqb-true, ltb-true}
use Rattle.std.proofs.lemmas.Cmp.{nat_list_eq_equiv}
use Rattle.std.proofs.lemmas.List.Concat.{flat_map-append}
use Rattle.std.proofs.lemmas.Map.Keys.{IsDistinct-push}
use Rattle.std.proofs.lemmas.Option.{same_Some}
use Rattle.std.proofs.lemmas.Slice.Eq.{bytes_eq-Decides}
use Rattle.child_ports.specs.declared.fingerprint.Fingerprint.{Fingerprint}
use Rattle.object_frames.specs.Id.{IsId}
use Rattle.auth_cache.specs.declared.front.Recorded.{Recorded}
use Rattle.auth_cache.specs.declared.front.Front.{Front}
use Rattle.auth_cache.specs.declared.front.Front.TheVariants.{Versioned, Introduced, Signed, Body, Ended}
use Rattle.auth_cache.specs.Keys.{IsKey}
use Rattle.auth_cache.specs.Lines.{line}
use Rattle.auth_cache.specs.Reading.{is_above, id_on, key_on, with_key, with_commit, with_end, body_step, step}
use Rattle.auth_cache.specs.Text.{id_text, key_text, heading, historical_line, commit_line, spelling, IsRecorded}
use Rattle.auth_cache.proofs.EntryLemmas.{AreEntries-none}
use Rattle.auth_cache.proofs.KeyLemmas.{sorted_push}
use Rattle.auth_cache.proofs.WordLemmas.{id_on_is, key_on_is}
use Rattle.auth_cache.proofs.WritingLemmas.{each_push}

-- what was read holds
abbrev pub Holds : Front → Type 0
Holds Versioned = Unit {0}
Holds (Introduced intro) = IsId intro
Holds (Signed intro signer) = IsId intro × IsKey signer
Holds (Body r) = IsRecorded r
Holds (Ended r) = IsRecorded r

-- the lines that were read
abbrev pub first_line : List ℕ
first_line = line (codes "guix-auth-cache 1")

abbrev pub body_text : Recorded → List ℕ
body_text r = heading r.intro r.signer r.keyring ++ (flat_map historical_line r.keys ++ flat_map commit_line r.commits)

abbrev pub spelled : Front → List ℕ
spelled Versioned = first_line
spelled (Introduced intro) = first_line ++ line (id_text (codes "intro ") intro)
spelled (Signed intro signer) = first_line ++ (line (id_text (codes "intro ") intro) ++ line (key_text (codes "signer ") signer))
spelled (Body r) = body_text r
spelled (Ended r) = spelling r

pub record Adds (f g : Front) (l : List ℕ) : Type 0 where
  pub holds : Holds g
  pub is : spelled g ≡ spelled f ++ line l

-- ---- inversions

pub map_some : {X : Type 0} (make : X → Front) (o : Option X) (g : Front) → option_map make o ≡ Some g → (x : X) × (o ≡ Some x) × (make x ≡ g)
map_some make None g e = cc
map_some make (Some x) g e = (x, refl, same_Some (make x) g e)

pub if_some : {X : Type 0} (b : Bool) (x y : X) → cond b (Some x) None ≡ Some y → (b ≡ true) × (x ≡ y)
if_some true x y e = (refl, same_Some x y e)
if_some false x y e = cc

-- ---- texts with one part more

text_three : (a b c l : List ℕ) → c ≡ l → a ++ (b ++ c) ≡ (a ++ b) ++ l
text_three a b c l e = sym (append_assoc a b c) ∙ ap (λ t. (a ++ b) ++ t) e

text_four : (a b c d l : List ℕ) → d ≡ l → (a ++ (b ++ (c ++ d))) ++ ([] ++ []) ≡ (a ++ (b ++ c)) ++ l
text_four a b c d l e =
    append-nil (a ++ (b ++ (c ++ d))) ∙ ap (λ t. a ++ t) (sym (append_assoc b c d)) ∙ sym (append_assoc a (b ++ c) d) ∙ ap (λ t. (a ++ (b ++ c)) ++ t) e

text_key : (a b x c l : List ℕ) → c ≡ [] → x ≡ l → a ++ ((b ++ x) ++ c) ≡ (a ++ (b ++ c)) ++ l
text_key a b x c l none e =
    ap (λ t. a ++ ((b ++ x) ++ t)) none ∙ ap (λ t. a ++ t) (append-nil (b ++ x)) ∙ sym (append_assoc a b x) ∙ ap (λ t. (a ++ t) ++ x) (sym (append-nil b))
    ∙ ap (λ t. (a ++ (b ++ t)) ++ x) (sym none) ∙ ap (λ t. (a ++ (b ++ c)) ++ t) e

pub text_last : (a b c x l : List ℕ) → x ≡ l → a ++ (b ++ (c ++ x)) ≡ (a ++ (b ++ c)) ++ l
text_last a b c x l e = ap (λ t. a ++ t) (sym (append_assoc b c x)) ∙ sym (append_assoc a (b ++ c) x) ∙ ap (λ t. (a ++ (b ++ c)) ++ t) e

one_more : {X : Type 0} (f : X → List ℕ) (xs : List X) (x : X) → flat_map f (xs ++ x ∷ []) ≡ flat_map f xs ++ f x
one_more f xs x = flat_map-append f xs (x ∷ []) ∙ ap (λ t. flat_map f xs ++ t) (append-nil (f x))

no_commits : (ids : List (List ℕ)) → length ids ≡ 0 → flat_map commit_line ids ≡ []
no_commits [] e = refl
no_commits (id ∷ ids) e = absurd (omega arith)

-- ---- a step

-- a heading without keys and commits
pub none_recorded : (intro : List ℕ) (signer : Fingerprint) (keyring : List ℕ) → IsId intro → IsKey signer → IsId keyring → IsRecorded (record { intro = intro; signer = signer; keyring = keyring; keys = []; commits = [] })
unfolding IsStrictlySortedBy
none_recorded intro signer keyring i s k = record { intro = i; signer = s; keyring = k; keys = record { each = tt; ascending = tt }; each = tt; commits = AreEntries-none }

key_adds : (r : Recorded) (key : Fingerprint) (l : List ℕ) (g : Front) → IsRecorded r → IsKey key → l ≡ key_text (codes "historical ") key → with_key r key ≡ Some g → Adds (Body r) g l
key_adds r key l g is is_key l_is e =
    let found = if_some ((length r.commits == 0) && is_above r.keys key) (Body (record r { keys = r.keys ++ key ∷ [] })) g e in
    let both = and_parts (length r.commits == 0) (is_above r.keys key) found.0 in
    let none = no_commits r.commits (eqb-true (length r.commits) 0 both.0) in
    subst (λ (h : Front). Adds (Body r) h l) found.1 (record {
      holds = record {
        intro = is.intro;
        signer = is.signer;
        keyring = is.keyring;
        keys = record { each = each_push IsKey r.keys key is.keys.each is_key; ascending = sorted_push r.keys key is.keys.ascending both.1 };
        each = is.each;
        commits = is.commits;
      };
      is = ap (λ t. heading r.intro r.signer r.keyring ++ (t ++ flat_map commit_line r.commits)) (one_more historical_line r.keys key)
          ∙ text_key (heading r.intro r.signer r.keyring) (flat_map historical_line r.keys) (historical_line key) (flat_map commit_line r.commits) (line l) none (ap line (sym l_is));
    })

commit_adds : (r : Recorded) (id l : List ℕ) (g : Front) → IsRecorded r → IsId id → l ≡ id_text (codes "commit ") id → with_commit r id ≡ Some g → Adds (Body r) g l
commit_adds r id l g is is_id l_is e =
    let found = if_some (nat_lt (length r.commits) 64 && not (list_any (bytes_eq id) r.commits)) (Body (record r { commits = r.commits ++ id ∷ [] })) g e in
    let both = and_parts (nat_lt (length r.commits) 64) (not (list_any (bytes_eq id) r.commits)) found.0 in
    let few : length r.commits < 64 = ltb-true (length r.commits) 64 both.0 in
    subst (λ (h : Front). Adds (Body r) h l) found.1 (record {
      holds = record {
        intro = is.intro;
        signer = is.signer;
        keyring = is.keyring;
        keys = is.keys;
        each = each_push IsId r.commits id is.each is_id;
        commits = record { distinct = IsDistinct-push nat_list_eq_equiv r.commits id is.commits.distinct (not_true (list_any (bytes_eq id) r.commits) both.1); few = simp length-append (omega arith) };
      };
      is = ap (λ t. heading r.intro r.signer r.keyring ++ (flat_map historical_line r.keys ++ t)) (one_more commit_line r.commits id)
          ∙ text_last (heading r.intro r.signer r.keyring) (flat_map historical_line r.keys) (flat_map commit_line r.commits) (commit_line id) (line l) (ap line (sym l_is));
    })
  where
    not_true : (b : Bool) → not b ≡ true → b ≡ false
    not_true true e = cc
    not_true false e = refl

end_adds : (r : Recorded) (l : List ℕ) (g : Front) → IsRecorded r → with_end r l ≡ Some g → Adds (Body r) g l
unfolding spelling
end_adds r l g is e =
    let found = if_some (bytes_eq l (codes "end")) (Ended r) g e in
    subst (λ (h : Front). Adds (Body r) h l) found.1 (record {
      holds = is;
      is = text_last (heading r.intro r.signer r.keyring) (flat_map historical_line r.keys) (flat_map commit_line r.commits) (line (codes "end")) (line l)
          (ap line (sym ((bytes_eq-Decides l (codes "end")).0 found.0)));
    })

body_adds : (r : Recorded) (l : List ℕ) (key : Option Fingerprint) (commit : Option (List ℕ)) (g : Front) → key_on (codes "historical ") l ≡ key → id_on (codes "commit ") l ≡ commit → IsRecorded r → body_step r key commit l ≡ Some g → Adds (Body r) g l
body_adds r l (Some key) commit g k c is e = let found = key_on_is (codes "historical ") l key k in key_adds r key l g is found.0 found.1 e
body_adds r l None (Some id) g k c is e = let found = id_on_is (codes "commit ") l id c in commit_adds r id l g is found.0 found.1 e
body_adds r l None None g k c is e = end_adds r l g is e

pub step_adds : (f : Front) (l : List ℕ) (g : Front) → Holds f → step f l ≡ Some g → Adds f g l
step_adds Versioned l g h e =
    let found = map_some (λ intro. Introduced intro) (id_on (codes "intro ") l) g e in
    let id = id_on_is (codes "intro ") l found.0 found.1 in
    subst (λ (g : Front). Adds Versioned g l) found.2 (record { holds = id.0; is = ap (λ t. first_line ++ line t) (sym id.1) })
step_adds (Introduced intro) l g h e =
    let found = map_some (λ signer. Signed intro signer) (key_on (codes "signer ") l) g e in
    let key = key_on_is (codes "signer ") l found.0 found.1 in
    subst (λ (g : Front). Adds (Introduced intro) g l) found.2 (record {
      holds = (h, key.0);
      is = text_three first_line (line (id_text (codes "intro ") intro)) (line (key_text (codes "signer ") found.0)) (line l) (ap line (sym key.1));
    })
step_adds (Signed intro signer) l g h e =
    let found = map_some (λ keyring. Body (record { intro = intro; signer = signer; keyring = keyring; keys = []; commits = [] })) (id_on (codes "keyring ") l) g e in
    let id = id_on_is (codes "keyring ") l found.0 found.1 in
    subst (λ (g : Front). Adds (Signed intro signer) g l) found.2 (record {
      holds = none_recorded intro signer found.0 h.0 h.1 id.0;
      is = text_four first_line (line (id_text (codes "intro ") intro)) (line (key_text (codes "signer ") signer)) (line (id_text (codes "keyring ") found.0)) (line l) (ap line (sym id.1));
    })
step_adds (Body r) l g h e = body_adds r l (key_on (codes "historical ") l) (id_on (codes "commit ") l) g refl refl h e
step_adds (Ended r) l g h e = cc
