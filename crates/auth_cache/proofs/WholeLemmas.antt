-- Each text of a cache is read.
use Rattle.std.proofs.Common.{◌≡◌, ◌≢◌, ℕ, suc, ◌+◌, ◌-◌, ◌/◌, ◌%◌, ◌<◌, ◌≤◌, Bool, true, false, not, cond, eqb, nat_lt, Option, Some, None, Ok, List, [], ◌∷◌, ◌++◌, map, length, get_or, refl, sym, ap, ◌∙◌, subst, arith, append_assoc, append-nil, length-append, codes, option_map, ◌||◌, bytes_eq}
use Rattle.std.specs.Prelude.{slice_index}
use Rattle.std.specs.List.{AllByRecursion, IsDistinct, flat_map, list_any, list_all}
use Rattle.std.specs.List.Sorted.{IsStrictlySortedBy}
use Rattle.std.specs.Ordering.{is_lt}
use Rattle.std.specs.Option.{option_and_then}
use Rattle.std.proofs.lemmas.Bool.{and_parts, and_from, eq-eqb, lt-ltb}
use Rattle.std.proofs.lemmas.Fmt.{decimal_digit}
use Rattle.std.proofs.lemmas.List.Sums.{AllPass-from_list_all}
use Rattle.std.proofs.lemmas.Map.Keys.{Less-from_sorted}
use Rattle.std.proofs.lemmas.Option.{slice_get-get_or}
use Rattle.std.proofs.Math.Seq.{get_or-append_seam}
use Rattle.std.proofs.lemmas.List.{get_or_append_left}
use Rattle.hex.specs.Hex.{encode_lower, encode_upper, encode_with, upper_digits, IsBytes}
use Rattle.child_ports.specs.declared.fingerprint.Fingerprint.{Fingerprint}
use Rattle.child_ports.specs.KeySet.{key_cmp}
use Rattle.object_frames.specs.Id.{IsId}
use Rattle.object_frames.proofs.IdLemmas.{no_end_hex}
use Rattle.auth_cache.specs.declared.front.Recorded.{Recorded}
use Rattle.auth_cache.specs.declared.front.Front.{Front}
use Rattle.auth_cache.specs.declared.front.Front.TheVariants.{Versioned, Introduced, Signed, Body, Ended}
use Rattle.auth_cache.specs.Keys.{IsKey}
use Rattle.auth_cache.specs.Lines.{NoLineEnd, Lines, line, lines_of}
use Rattle.auth_cache.specs.Reading.{above, is_above, id_on, key_on, version_on, body_step, step, behind_version, from_lines, recorded_of}
use Rattle.auth_cache.specs.Text.{id_text, key_text, historical_line, commit_line, spelling, IsRecorded}
use Rattle.auth_cache.proofs.EntryLemmas.{bytes_eq-flip}
use Rattle.auth_cache.proofs.LineLemmas.{lines_front}
use Rattle.auth_cache.proofs.RunLemmas.{passed, run_passed}
use Rattle.auth_cache.proofs.WordLemmas.{id_on_yes, key_on_yes, version_on_yes}

-- ---- no line has an end within

pub all_append : {X : Type 0} (P : X → Type 0) (xs ys : List X) → AllByRecursion P xs → AllByRecursion P ys → AllByRecursion P (xs ++ ys)
all_append P [] ys h k = k
all_append P (x ∷ xs) ys h k = (h.0, all_append P xs ys h.1 k)

pub no_end : (word : List ℕ) → list_all (λ b. not (eqb b 10)) word ≡ true → NoLineEnd word
no_end [] h = tt
no_end (b ∷ word) h =
    let both = and_parts (not (eqb b 10)) (list_all (λ b. not (eqb b 10)) word) h in
    (λ e. not_ten (eqb b 10) both.0 (eq-eqb b 10 e), no_end word both.1)
  where
    not_ten : (t : Bool) → not t ≡ true → t ≡ true → ⊥
    not_ten true h e = cc
    not_ten false h e = cc

upper_digit : (k : ℕ) → k < 16 → slice_index upper_digits k ≢ 10
upper_digit k lt e = not_ten (eqb (slice_index upper_digits k) 10) (AllPass-from_list_all (λ b. not (eqb b 10)) upper_digits refl k 0 lt) (eq-eqb (slice_index upper_digits k) 10 e)
  where
    not_ten : (t : Bool) → not t ≡ true → t ≡ true → ⊥
    not_ten true h e = cc
    not_ten false h e = cc

no_end_upper : (xs : List ℕ) → IsBytes xs → NoLineEnd (encode_upper xs)
unfolding encode_with
no_end_upper [] h = tt
no_end_upper (x ∷ xs) h =
    let byte = h 0 in
    (upper_digit (x / 16) (omega arith), (upper_digit (x % 16) (omega arith), no_end_upper xs (λ i. h (suc i))))

id_end : (word id : List ℕ) → NoLineEnd word → IsId id → NoLineEnd (id_text word id)
id_end word id h is = all_append (λ b. b ≢ 10) word (encode_lower id) h (no_end_hex id is.bytes)

key_end : (word : List ℕ) (key : Fingerprint) → NoLineEnd word → IsKey key → NoLineEnd (key_text word key)
key_end word key h is = all_append (λ b. b ≢ 10) word (encode_upper key.0) h (no_end_upper key.0 is.bytes)

-- ---- the lines of a text

abbrev pub key_word : Fingerprint → List ℕ
key_word key = key_text (codes "historical ") key

abbrev pub commit_word : List ℕ → List ℕ
commit_word id = id_text (codes "commit ") id

abbrev pub tail_lines : Recorded → List (List ℕ)
tail_lines r = map key_word r.keys ++ (map commit_word r.commits ++ codes "end" ∷ [])

abbrev pub behind_first : Recorded → List (List ℕ)
behind_first r = id_text (codes "intro ") r.intro ∷ key_text (codes "signer ") r.signer ∷ id_text (codes "keyring ") r.keyring ∷ tail_lines r

flat_mapped : {X : Type 0} (f : X → List ℕ) (xs : List X) → flat_map line (map f xs) ≡ flat_map (λ x. line (f x)) xs
flat_mapped f [] = refl
flat_mapped f (x ∷ xs) = ap (λ t. line (f x) ++ t) (flat_mapped f xs)

flat_both : (xs ys : List (List ℕ)) → flat_map line (xs ++ ys) ≡ flat_map line xs ++ flat_map line ys
flat_both [] ys = refl
flat_both (x ∷ xs) ys = ap (λ t. line x ++ t) (flat_both xs ys) ∙ sym (append_assoc (line x) (flat_map line xs) (flat_map line ys))

regroup : (a b c d t : List ℕ) → (a ++ (b ++ (c ++ d))) ++ t ≡ a ++ (b ++ (c ++ (d ++ t)))
regroup a b c d t = append_assoc a (b ++ (c ++ d)) t ∙ ap (λ l. a ++ l) (append_assoc b (c ++ d) t ∙ ap (λ l. b ++ l) (append_assoc c d t))

pub spelling_lines : (r : Recorded) → spelling r ≡ flat_map line (codes "guix-auth-cache 1" ∷ behind_first r)
unfolding spelling
spelling_lines r =
    regroup (line (codes "guix-auth-cache 1")) (line (id_text (codes "intro ") r.intro)) (line (key_text (codes "signer ") r.signer)) (line (id_text (codes "keyring ") r.keyring))
    (flat_map historical_line r.keys ++ (flat_map commit_line r.commits ++ line (codes "end")))
    ∙ ap (λ t. line (codes "guix-auth-cache 1") ++ (line (id_text (codes "intro ") r.intro) ++ (line (key_text (codes "signer ") r.signer) ++ (line (id_text (codes "keyring ") r.keyring) ++ t)))) (sym tail)
  where
    tail : flat_map line (tail_lines r) ≡ flat_map historical_line r.keys ++ (flat_map commit_line r.commits ++ line (codes "end"))
    tail =
        flat_both (map key_word r.keys) (map commit_word r.commits ++ codes "end" ∷ [])
        ∙ ap (λ t. t ++ flat_map line (map commit_word r.commits ++ codes "end" ∷ [])) (flat_mapped key_word r.keys)
        ∙ ap (λ t. flat_map historical_line r.keys ++ t) (flat_both (map commit_word r.commits) (codes "end" ∷ []) ∙ ap (λ t. t ++ flat_map line (codes "end" ∷ [])) (flat_mapped commit_word r.commits))

all_mapped : {X : Type 0} (P : X → Type 0) (Q : List ℕ → Type 0) (f : X → List ℕ) → ((x : X) → P x → Q (f x)) → (xs : List X) → AllByRecursion P xs → AllByRecursion Q (map f xs)
all_mapped P Q f step [] h = tt
all_mapped P Q f step (x ∷ xs) h = (step x h.0, all_mapped P Q f step xs h.1)

pub lines_end : (r : Recorded) → IsRecorded r → AllByRecursion NoLineEnd (codes "guix-auth-cache 1" ∷ behind_first r)
lines_end r is = (
  no_end (codes "guix-auth-cache 1") refl,
  (
    id_end (codes "intro ") r.intro (no_end (codes "intro ") refl) is.intro,
    (
      key_end (codes "signer ") r.signer (no_end (codes "signer ") refl) is.signer,
      (
        id_end (codes "keyring ") r.keyring (no_end (codes "keyring ") refl) is.keyring,
        all_append NoLineEnd (map key_word r.keys) (map commit_word r.commits ++ codes "end" ∷ [])
            (all_mapped IsKey NoLineEnd key_word (λ key k. key_end (codes "historical ") key (no_end (codes "historical ") refl) k) r.keys is.keys.each)
            (all_append NoLineEnd (map commit_word r.commits) (codes "end" ∷ [])
            (all_mapped IsId NoLineEnd commit_word (λ id i. id_end (codes "commit ") id (no_end (codes "commit ") refl) i) r.commits is.each)
            (no_end (codes "end") refl, tt)),
      ),
    ),
  ),
)

-- ---- each of them is taken

taken : (f : Front) (l : List ℕ) (ls : List (List ℕ)) (g : Front) → step f l ≡ Some g → passed f (l ∷ ls) ≡ passed g ls
taken f l ls g e = ap (option_and_then (λ h. passed h ls)) e

-- the parts, with these keys and commits
abbrev so_far : Recorded → List Fingerprint → List (List ℕ) → Front
so_far r keys ids = Body (record { intro = r.intro; signer = r.signer; keyring = r.keyring; keys = keys; commits = ids })

-- a key is above the last before it
above_before : (keys : List Fingerprint) (key : Fingerprint) (more : List Fingerprint) → IsStrictlySortedBy key_cmp (keys ++ key ∷ more) → is_above keys key ≡ true
above_before [] key more s = refl
above_before (k ∷ keys) key more s =
    let all = k ∷ keys in
    let last = length all - 1 in
    let long : length (all ++ key ∷ more) ≡ length all + length (key ∷ more) = length-append all (key ∷ more) in
    let less = Less-from_sorted key_cmp (all ++ key ∷ more) last (length all) key s (omega arith) (omega arith) in
    ap (λ o. above o key) (slice_get-get_or all last key (omega arith))
    ∙ ap is_lt (ap (λ x. key_cmp x key) (sym (get_or_append_left all (key ∷ more) key last (omega arith))) ∙ ap (λ x. key_cmp (get_or (all ++ key ∷ more) last key) x) (sym (get_or-append_seam all key more key)) ∙ less)

key_step : (r : Recorded) (keys : List Fingerprint) (key : Fingerprint) → IsKey key → is_above keys key ≡ true → step (so_far r keys []) (key_word key) ≡ Some (so_far r (keys ++ key ∷ []) [])
key_step r keys key is up =
    ap (λ o. body_step (record { intro = r.intro; signer = r.signer; keyring = r.keyring; keys = keys; commits = [] }) o (id_on (codes "commit ") (key_word key)) (key_word key)) (key_on_yes (codes "historical ") key is)
    ∙ ap (λ b. cond b (Some (so_far r (keys ++ key ∷ []) [])) None) up

pub keys_taken : (r : Recorded) (keys more : List Fingerprint) (ls : List (List ℕ)) → AllByRecursion IsKey more → IsStrictlySortedBy key_cmp (keys ++ more)
    → passed (so_far r keys []) (map key_word more ++ ls) ≡ passed (so_far r (keys ++ more) []) ls
keys_taken r keys [] ls h s = ap (λ ks. passed (so_far r ks []) ls) (sym (append-nil keys))
keys_taken r keys (key ∷ more) ls h s =
    taken (so_far r keys []) (key_word key) (map key_word more ++ ls) (so_far r (keys ++ key ∷ []) []) (key_step r keys key h.0 (above_before keys key more s))
    ∙ keys_taken r (keys ++ key ∷ []) more ls h.1 (subst (IsStrictlySortedBy key_cmp) (sym (append_assoc keys (key ∷ []) more)) s)
    ∙ ap (λ ks. passed (so_far r ks []) ls) (append_assoc keys (key ∷ []) more)

-- a commit is none before it
differs_before : (ids : List (List ℕ)) (id : List ℕ) (more : List (List ℕ)) → IsDistinct bytes_eq (ids ++ id ∷ more) → list_any (bytes_eq id) ids ≡ false
unfolding IsDistinct
differs_before [] id more h = refl
differs_before (x ∷ ids) id more h =
    ap (λ b. b || list_any (bytes_eq id) ids) (bytes_eq-flip id x ∙ behind_all ids h.0) ∙ differs_before ids id more h.1
  where
    behind_all : (ids : List (List ℕ)) → AllByRecursion (λ y. bytes_eq x y ≡ false) (ids ++ id ∷ more) → bytes_eq x id ≡ false
    behind_all [] h = h.0
    behind_all (y ∷ ids) h = behind_all ids h.1

commit_step : (r : Recorded) (ids : List (List ℕ)) (id : List ℕ) → IsId id → length ids < 64 → list_any (bytes_eq id) ids ≡ false → step (so_far r r.keys ids) (commit_word id) ≡ Some (so_far r r.keys (ids ++ id ∷ []))
commit_step r ids id is few other =
    ap (λ o. body_step (record { intro = r.intro; signer = r.signer; keyring = r.keyring; keys = r.keys; commits = ids }) (key_on (codes "historical ") (commit_word id)) o (commit_word id)) (id_on_yes (codes "commit ") id is)
    ∙ ap (λ b. cond b (Some (so_far r r.keys (ids ++ id ∷ []))) None) (and_from (nat_lt (length ids) 64) (not (list_any (bytes_eq id) ids)) (lt-ltb (length ids) 64 few) (ap not other))

pub commits_taken : (r : Recorded) (ids more : List (List ℕ)) (ls : List (List ℕ)) → AllByRecursion IsId more → IsDistinct bytes_eq (ids ++ more) → length (ids ++ more) ≤ 64
    → passed (so_far r r.keys ids) (map commit_word more ++ ls) ≡ passed (so_far r r.keys (ids ++ more)) ls
commits_taken r ids [] ls h d few = ap (λ k. passed (so_far r r.keys k) ls) (sym (append-nil ids))
commits_taken r ids (id ∷ more) ls h d few =
    let long : length (ids ++ id ∷ more) ≡ length ids + length (id ∷ more) = length-append ids (id ∷ more) in
    taken (so_far r r.keys ids) (commit_word id) (map commit_word more ++ ls) (so_far r r.keys (ids ++ id ∷ [])) (commit_step r ids id h.0 (omega arith) (differs_before ids id more d))
    ∙ commits_taken r (ids ++ id ∷ []) more ls h.1 (subst (IsDistinct bytes_eq) (sym (append_assoc ids (id ∷ []) more)) d) (subst (λ (k : List (List ℕ)). length k ≤ 64) (sym (append_assoc ids (id ∷ []) more)) few)
    ∙ ap (λ k. passed (so_far r r.keys k) ls) (append_assoc ids (id ∷ []) more)

end_step : (r : Recorded) → step (Body r) (codes "end") ≡ Some (Ended r)
end_step r = refl

pub all_taken : (r : Recorded) → IsRecorded r → passed Versioned (behind_first r) ≡ Some (Ended r)
all_taken r is =
    let rest = map commit_word r.commits ++ codes "end" ∷ [] in
    let keyring = id_text (codes "keyring ") r.keyring in
    let signer = key_text (codes "signer ") r.signer in
    taken Versioned (id_text (codes "intro ") r.intro) (signer ∷ keyring ∷ tail_lines r) (Introduced r.intro) (ap (option_map (λ intro. Introduced intro)) (id_on_yes (codes "intro ") r.intro is.intro))
    ∙ taken (Introduced r.intro) signer (keyring ∷ tail_lines r) (Signed r.intro r.signer) (ap (option_map (λ (key : Fingerprint). Signed r.intro key)) (key_on_yes (codes "signer ") r.signer is.signer))
    ∙ taken (Signed r.intro r.signer) keyring (tail_lines r) (so_far r [] []) (ap (option_map (λ (tree : List ℕ). Body (record { intro = r.intro; signer = r.signer; keyring = tree; keys = []; commits = [] }))) (id_on_yes (codes "keyring ") r.keyring is.keyring))
    ∙ keys_taken r [] r.keys rest is.keys.each is.keys.ascending
    ∙ commits_taken r [] r.commits (codes "end" ∷ []) is.each is.commits.distinct is.commits.few
    ∙ taken (Body r) (codes "end") [] (Ended r) (end_step r)

-- ---- the whole text

pub version_one : version_on (codes "guix-auth-cache 1") ≡ Some 1
version_one = ap (λ d. version_on (codes "guix-auth-cache " ++ d)) (sym (decimal_digit 1 (omega arith))) ∙ version_on_yes 1 (omega arith)

pub recorded_of-spelling : (r : Recorded) → IsRecorded r → recorded_of (spelling r) ≡ Ok r
unfolding recorded_of
recorded_of-spelling r is =
    let first = codes "guix-auth-cache 1" in
    let lines = lines_front (first ∷ behind_first r) [] (lines_end r is) in
    let cut = ap lines_of (spelling_lines r ∙ sym (append-nil (flat_map line (first ∷ behind_first r)))) ∙ lines in
    let at = length first + 1 in
    ap (λ (it : Lines). from_lines it.whole it.left) cut
    ∙ ap (λ (n : Option ℕ). behind_version n at (behind_first r ++ []) []) version_one
    ∙ run_passed at Versioned (behind_first r) [] [] (Ended r) (all_taken r is)
