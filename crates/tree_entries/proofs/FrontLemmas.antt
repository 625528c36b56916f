-- The entry at the front of what is left.
use Rattle.std.proofs.Common.{◌≡◌, ◌≢◌, ◌⊎◌, inl, inr, ℕ, ◌+◌, ◌-◌, ◌≤◌, ◌<◌, Bool, true, false, cond, not, eqb, ltb, nat_eq, nat_le, ◌==◌, ◌||◌, ◌&&◌, Result, Ok, Err, List, [], ◌∷◌, ◌++◌, take, drop, replicate, length, refl, sym, ap, ap₂, ◌∙◌, subst, arith, append_assoc, append-nil, length-append, codes, take_at, drop_at, length-take-le, take-append-drop, zero, suc}
use Rattle.std.specs.List.{list_all, starts_with}
use Rattle.std.proofs.lemmas.Bool.{false≢true, eqb-true, eqb-false, ne_eqb, leb-true, le-leb, ltb-true, ltb-false, lt-ltb, and_parts, and_from, and_cases, le-ltb}
use Rattle.std.proofs.lemmas.List.Folds.{list_any-append}
use Rattle.byte_cuts.specs.Cuts.{Lacks}
use Rattle.tree_entries.specs.declared.fail.TreeFail.{TreeFail}
use Rattle.tree_entries.specs.declared.fail.TreeFail.TheVariants.{Cut, Mode, Name}
use Rattle.tree_entries.specs.Tree.{TreeEntry, is_octal, begins_mode, is_mode, has, is_name, IsEntry, entry_bytes, octal_value, is_file_mode}
use Rattle.tree_entries.specs.Asked.{shown}
use Rattle.tree_entries.specs.declared.entry.Entry.{Entry}
use Rattle.tree_entries.specs.Faults.{IsCut, HasMode, HasWrongName, IsFrontFault}
use Rattle.tree_entries.specs.Reading.{cut, with_id, with_name, with_mode, front_of}
use Rattle.tree_entries.proofs.CutLemmas.{lacks_has, has_lacks, has_there, has_front, cut_at_it, cut_nowhere, same_cut, before_cut, no_nil}

-- ---- modes and names

pub no_true : (b : Bool) → not b ≡ true → b ≡ false
no_true true h = absurd (false≢true h)
no_true false h = refl

pub not_both : (b : Bool) → b ≡ true → b ≡ false → ⊥
not_both b h k = false≢true (sym k ∙ h)

octal_lacks : (digits : List ℕ) → list_all is_octal digits ≡ true → Lacks 32 digits
octal_lacks [] h = tt
octal_lacks (c ∷ digits) h =
    let parts = and_parts (is_octal c) (list_all is_octal digits) h in
    let low = leb-true 48 c (and_parts (nat_le 48 c) (nat_le c 55) parts.0).0 in
    ((λ e. absurd (omega (arith, low, e))), octal_lacks digits parts.1)

octal_front : (front back : List ℕ) → list_all is_octal (front ++ back) ≡ true → list_all is_octal front ≡ true
octal_front [] back h = refl
octal_front (c ∷ front) back h =
    let parts = and_parts (is_octal c) (list_all is_octal (front ++ back)) h in and_from (is_octal c) (list_all is_octal front) parts.0 (octal_front front back parts.1)

octal_both : (front back : List ℕ) → list_all is_octal front ≡ true → list_all is_octal back ≡ true → list_all is_octal (front ++ back) ≡ true
octal_both [] back h k = k
octal_both (c ∷ front) back h k =
    let parts = and_parts (is_octal c) (list_all is_octal front) h in and_from (is_octal c) (list_all is_octal (front ++ back)) parts.0 (octal_both front back parts.1 k)

-- the three parts of a mode's beginning
pub record Begins (digits : List ℕ) : Type 0 where
  pub short : length digits ≤ 6
  pub first : starts_with nat_eq digits (codes "0") ≡ false
  pub octal : list_all is_octal digits ≡ true

pub begins_parts : (digits : List ℕ) → begins_mode digits ≡ true → Begins digits
begins_parts digits h =
    let outer = and_parts (nat_le (length digits) 6 && not (starts_with nat_eq digits (codes "0"))) (list_all is_octal digits) h in
    let inner = and_parts (nat_le (length digits) 6) (not (starts_with nat_eq digits (codes "0"))) outer.0 in
    record { short = leb-true (length digits) 6 inner.0; first = no_true (starts_with nat_eq digits (codes "0")) inner.1; octal = outer.1 }

pub begins_from : (digits : List ℕ) → Begins digits → begins_mode digits ≡ true
begins_from digits b =
    and_from (nat_le (length digits) 6 && not (starts_with nat_eq digits (codes "0"))) (list_all is_octal digits)
    (and_from (nat_le (length digits) 6) (not (starts_with nat_eq digits (codes "0"))) (le-leb (length digits) 6 b.short) (ap not b.first)) b.octal

first_same : (b : ℕ) (front back : List ℕ) → starts_with nat_eq (b ∷ (front ++ back)) (codes "0") ≡ starts_with nat_eq (b ∷ front) (codes "0")
first_same b front back = refl

begins_front : (front back : List ℕ) → Begins (front ++ back) → Begins front
begins_front [] back b = record { short = omega arith; first = refl; octal = refl }
begins_front (c ∷ front) back b = record {
  short = omega (arith, b.short, length-append (c ∷ front) back);
  first = sym (first_same c front back) ∙ b.first;
  octal = octal_front (c ∷ front) back b.octal;
}

pub mode_parts : (digits : List ℕ) → is_mode digits ≡ true → (5 ≤ length digits) × Begins digits
mode_parts digits h =
    let parts = and_parts (nat_le 5 (length digits)) (begins_mode digits) h in (leb-true 5 (length digits) parts.0, begins_parts digits parts.1)

pub mode_lacks : (digits : List ℕ) → is_mode digits ≡ true → Lacks 32 digits
mode_lacks digits h = octal_lacks digits (mode_parts digits h).1.octal

-- the parts of a name
pub record Named (name : List ℕ) : Type 0 where
  pub some : length name ≢ 0
  pub no_slash : has 47 name ≡ false
  pub no_nul : has 0 name ≡ false

pub name_parts : (name : List ℕ) → is_name name ≡ true → Named name
name_parts name h =
    let outer = and_parts (not (length name == 0) && not (has 47 name)) (not (has 0 name)) h in
    let inner = and_parts (not (length name == 0)) (not (has 47 name)) outer.0 in
    record { some = eqb-false (length name) 0 (no_true (length name == 0) inner.0); no_slash = no_true (has 47 name) inner.1; no_nul = no_true (has 0 name) outer.1 }

pub name_from : (name : List ℕ) → Named name → is_name name ≡ true
name_from name n =
    and_from (not (length name == 0) && not (has 47 name)) (not (has 0 name))
    (and_from (not (length name == 0)) (not (has 47 name)) (ap not (ne_eqb (length name) 0 n.some)) (ap not n.no_slash)) (ap not n.no_nul)

-- ---- the reading, case by case

module _ (size at : ℕ) (content : List ℕ) where
  pub no_space : Lacks 32 content → front_of size at content ≡ cond (begins_mode content) (Err (Cut at)) (Err (Mode at))
  unfolding front_of
  no_space h = ap (with_mode size at content) (cut_nowhere 32 content h)

  module _ (digits text : List ℕ) (lacks : Lacks 32 digits) (whole : content ≡ digits ++ 32 ∷ text) where
    at_space : front_of size at content ≡ cond (is_mode digits) (with_name size at digits text (cut 0 text)) (Err (Mode at))
    unfolding front_of
    at_space = ap (with_mode size at content) (ap (cut 32) whole ∙ cut_at_it 32 digits text lacks)

    pub no_mode : is_mode digits ≡ false → front_of size at content ≡ Err (Mode at)
    no_mode h = at_space ∙ ap (λ t. cond t (with_name size at digits text (cut 0 text)) (Err (Mode at))) h

    module _ (mode : is_mode digits ≡ true) where
      at_mode : front_of size at content ≡ with_name size at digits text (cut 0 text)
      at_mode = at_space ∙ ap (λ t. cond t (with_name size at digits text (cut 0 text)) (Err (Mode at))) mode

      pub no_nul : Lacks 0 text → front_of size at content ≡ cond (has 47 text) (Err (Name at)) (Err (Cut at))
      no_nul h = at_mode ∙ ap (with_name size at digits text) (cut_nowhere 0 text h)

      module _ (name behind : List ℕ) (ends : Lacks 0 name) (parts : text ≡ name ++ 0 ∷ behind) where
        at_nul : front_of size at content ≡ cond (is_name name) (with_id size at digits name behind) (Err (Name at))
        at_nul = at_mode ∙ ap (with_name size at digits text) (ap (cut 0) parts ∙ cut_at_it 0 name behind ends)

        pub no_name : is_name name ≡ false → front_of size at content ≡ Err (Name at)
        no_name h = at_nul ∙ ap (λ t. cond t (with_id size at digits name behind) (Err (Name at))) h

        module _ (named : is_name name ≡ true) where
          at_name : front_of size at content ≡ with_id size at digits name behind
          at_name = at_nul ∙ ap (λ t. cond t (with_id size at digits name behind) (Err (Name at))) named

          pub no_id : length behind < size → front_of size at content ≡ Err (Cut at)
          no_id h = at_name ∙ ap (λ t. cond t (Err (Cut at)) (Ok (record { digits = digits; name = name; id = take size behind }, drop size behind))) (lt-ltb (length behind) size h)

          pub whole_entry : size ≤ length behind → front_of size at content ≡ Ok (record { digits = digits; name = name; id = take size behind }, drop size behind)
          whole_entry h = at_name ∙ ap (λ t. cond t (Err (Cut at)) (Ok (record { digits = digits; name = name; id = take size behind }, drop size behind))) (le-ltb (length behind) size h)

-- an entry is read
pub front_read : (size at : ℕ) (e : TreeEntry) (rest : List ℕ) → IsEntry size e → front_of size at (entry_bytes e ++ rest) ≡ Ok (e, rest)
front_read size at e rest is =
    let text = e.name ++ 0 ∷ (e.id ++ rest) in
    let whole : entry_bytes e ++ rest ≡ e.digits ++ 32 ∷ text = append_assoc e.digits (32 ∷ (e.name ++ 0 ∷ e.id)) rest ∙ ap (λ l. e.digits ++ 32 ∷ l) (append_assoc e.name (0 ∷ e.id) rest) in
    let named = name_parts e.name is.named in
    whole_entry size at (entry_bytes e ++ rest) e.digits text (mode_lacks e.digits is.mode) whole is.mode e.name (e.id ++ rest) (has_lacks 0 e.name named.no_nul) refl is.named (omega (arith, length-append e.id rest, is.count))
    ∙ ap₂ (λ i r. Ok (record { digits = e.digits; name = e.name; id = i }, r)) (take_at e.id rest size is.count) (drop_at e.id rest size is.count)

-- ---- what the reading says

-- an entry stands there, or the fault is the first that applies
abbrev pub Says : ℕ → ℕ → List ℕ → Result (TreeEntry × List ℕ) TreeFail → Type 0
Says size at content (Ok front) = IsEntry size front.0 × (content ≡ entry_bytes front.0 ++ front.1)
Says size at content (Err fault) = IsFrontFault size at content fault

-- a text lacks a byte, or has a first one
record Parted (end : ℕ) (text : List ℕ) : Type 0 where
  front : List ℕ
  back : List ℕ
  lacks : Lacks end front
  whole : text ≡ front ++ end ∷ back

parted : (end : ℕ) (text : List ℕ) → Lacks end text ⊎ Parted end text
parted end [] = inl tt
parted end (b ∷ text) = elim (eqb b end) as (λ t. t ≡ eqb b end → Lacks end (b ∷ text) ⊎ Parted end (b ∷ text)) [
  | true ↦ λ e. inr (record { front = []; back = text; lacks = tt; whole = ap (λ c. c ∷ text) (eqb-true b end (sym e)) })
  | false ↦ λ e. elim (parted end text) [
    | inl none ↦ inl (eqb-false b end (sym e), none)
    | inr p ↦ inr (record { front = b ∷ p.front; back = p.back; lacks = (eqb-false b end (sym e), p.lacks); whole = ap (λ l. b ∷ l) p.whole })
  ]
] refl

abbrev zeros : ℕ → List ℕ
zeros size = replicate size 0

-- digits that begin a mode, made whole
abbrev padded : List ℕ → List ℕ
padded digits = digits ++ replicate (5 - length digits) 48

octal_zeros : (n : ℕ) → list_all is_octal (replicate n 48) ≡ true
octal_zeros zero = refl
octal_zeros (suc n) = octal_zeros n

zeros_long : (n a : ℕ) → length (replicate n a) ≡ n
zeros_long zero a = refl
zeros_long (suc n) a = omega (arith, zeros_long n a)

padded_begins : (digits : List ℕ) → digits ≢ [] → Begins digits → is_mode (padded digits) ≡ true
padded_begins [] some b = absurd (some refl)
padded_begins (c ∷ digits) some b =
    let pad : List ℕ = replicate (5 - length (c ∷ digits)) 48 in
    let size : length (padded (c ∷ digits)) ≡ length (c ∷ digits) + (5 - length (c ∷ digits)) = omega (arith, length-append (c ∷ digits) pad, zeros_long (5 - length (c ∷ digits)) 48) in
    let long : 5 ≤ length (padded (c ∷ digits)) = omega (arith, size) in
    let short : length (padded (c ∷ digits)) ≤ 6 = omega (arith, size, b.short) in
    and_from (nat_le 5 (length (padded (c ∷ digits)))) (begins_mode (padded (c ∷ digits))) (le-leb 5 (length (padded (c ∷ digits))) long)
    (begins_from (padded (c ∷ digits)) (record { short = short; first = first_same c digits pad ∙ b.first; octal = octal_both (c ∷ digits) pad b.octal (octal_zeros (5 - length (c ∷ digits))) }))

-- some of an entry: digits that a mode may begin with
cut_in_mode : (size : ℕ) (content : List ℕ) → content ≢ [] → begins_mode content ≡ true → IsCut size content
cut_in_mode size content some begins =
    let pad : List ℕ = replicate (5 - length content) 48 in
    let back = 32 ∷ (97 ∷ 0 ∷ zeros size) in
    record {
      entry = record { digits = padded content; name = 97 ∷ []; id = zeros size };
      more = pad ++ back;
      is_entry = record { mode = padded_begins content some (begins_parts content begins); named = refl; count = zeros_long size 0 };
      some_more = no_nil pad 32 (97 ∷ 0 ∷ zeros size);
      whole = append_assoc content pad back;
    }

-- a mode, a space and some of a name
cut_in_name : (size : ℕ) (content digits text : List ℕ) → content ≡ digits ++ 32 ∷ text → is_mode digits ≡ true → Lacks 0 text → has 47 text ≡ false → IsCut size content
cut_in_name size content digits text whole mode lacks slash =
    let name = text ++ 97 ∷ [] in
    let some : length name ≢ 0 = λ e. absurd (omega (arith, e, length-append text (97 ∷ []))) in
    record {
      entry = record { digits = digits; name = name; id = zeros size };
      more = 97 ∷ 0 ∷ zeros size;
      is_entry = record {
        mode = mode;
        named = name_from name (record {
          some = some;
          no_slash = list_any-append (λ b. b == 47) text (97 ∷ []) ∙ ap (λ t. t || false) slash;
          no_nul = list_any-append (λ b. b == 0) text (97 ∷ []) ∙ ap (λ t. t || false) (lacks_has 0 text lacks);
        });
        count = zeros_long size 0;
      };
      some_more = λ e. cc;
      whole = ap (λ l. digits ++ 32 ∷ l) (append_assoc text (97 ∷ []) (0 ∷ zeros size)) ∙ sym (append_assoc digits (32 ∷ text) (97 ∷ 0 ∷ zeros size)) ∙ ap (λ l. l ++ 97 ∷ 0 ∷ zeros size) (sym whole);
    }

-- all but some of the id
cut_in_id : (size : ℕ) (content digits name behind : List ℕ) → content ≡ digits ++ 32 ∷ (name ++ 0 ∷ behind) → is_mode digits ≡ true → is_name name ≡ true → length behind < size → IsCut size content
cut_in_id size content digits name behind whole mode named short =
    let pad = zeros (size - length behind) in
    let missing : length pad ≡ size - length behind = zeros_long (size - length behind) 0 in
    record {
      entry = record { digits = digits; name = name; id = behind ++ pad };
      more = pad;
      is_entry = record { mode = mode; named = named; count = omega (arith, length-append behind pad, missing) };
      some_more = λ e. absurd (omega (arith, ap length e, missing));
      whole = ap (λ l. digits ++ 32 ∷ l) (sym (append_assoc name (0 ∷ behind) pad)) ∙ sym (append_assoc digits (32 ∷ (name ++ 0 ∷ behind)) pad) ∙ ap (λ l. l ++ pad) (sym whole);
    }

-- what isn't some of an entry
module _ (size : ℕ) (content : List ℕ) (is : IsCut size content) where
  digits_lack : Lacks 32 is.entry.digits
  digits_lack = mode_lacks is.entry.digits is.is_entry.mode

  not_cut_digits : Lacks 32 content → begins_mode content ≡ false → ⊥
  not_cut_digits lacks wrong =
      let front = before_cut 32 is.entry.digits (is.entry.name ++ 0 ∷ is.entry.id) content is.more lacks is.whole in
      let begins = begins_front content front.0 (subst Begins front.1 (mode_parts is.entry.digits is.is_entry.mode).1) in
      not_both (begins_mode content) (begins_from content begins) wrong

  module _ (digits text : List ℕ) (lacks : Lacks 32 digits) (whole : content ≡ digits ++ 32 ∷ text) where
    same_digits : (is.entry.digits ≡ digits) × (is.entry.name ++ 0 ∷ is.entry.id ≡ text ++ is.more)
    same_digits = same_cut 32 is.entry.digits digits (is.entry.name ++ 0 ∷ is.entry.id) (text ++ is.more) digits_lack lacks (is.whole ∙ ap (λ l. l ++ is.more) whole ∙ append_assoc digits (32 ∷ text) is.more)

    not_cut_mode : is_mode digits ≡ false → ⊥
    not_cut_mode wrong = not_both (is_mode is.entry.digits) is.is_entry.mode (ap is_mode same_digits.0 ∙ wrong)

    not_cut_slash : Lacks 0 text → has 47 text ≡ true → ⊥
    not_cut_slash none slash =
        let front = before_cut 0 is.entry.name is.entry.id text is.more none same_digits.1 in
        not_both (has 47 is.entry.name) (ap (has 47) front.1 ∙ has_front 47 text front.0 slash) (name_parts is.entry.name is.is_entry.named).no_slash

    not_cut_name : (name behind : List ℕ) → Lacks 0 name → text ≡ name ++ 0 ∷ behind → is_name name ≡ false → ⊥
    not_cut_name name behind ends parts wrong =
        let same = same_cut 0 is.entry.name name is.entry.id (behind ++ is.more) (has_lacks 0 is.entry.name (name_parts is.entry.name is.is_entry.named).no_nul) ends
        (same_digits.1 ∙ ap (λ l. l ++ is.more) parts ∙ append_assoc name (0 ∷ behind) is.more) in
        not_both (is_name is.entry.name) is.is_entry.named (ap is_name same.0 ∙ wrong)

no_mode_there : (content digits text : List ℕ) → Lacks 32 digits → content ≡ digits ++ 32 ∷ text → is_mode digits ≡ false → HasMode content → ⊥
no_mode_there content digits text lacks whole wrong has_mode =
    let same = same_cut 32 has_mode.digits digits has_mode.text text (mode_lacks has_mode.digits has_mode.is_mode) lacks (sym has_mode.whole ∙ whole) in
    not_both (is_mode has_mode.digits) has_mode.is_mode (ap is_mode same.0 ∙ wrong)

no_space_there : (content : List ℕ) → Lacks 32 content → HasMode content → ⊥
no_space_there content lacks has_mode = not_both (has 32 content) (ap (has 32) has_mode.whole ∙ has_there 32 has_mode.digits has_mode.text) (lacks_has 32 content lacks)

wrong_name : (content digits text name behind : List ℕ) → content ≡ digits ++ 32 ∷ text → is_mode digits ≡ true → Lacks 0 name → text ≡ name ++ 0 ∷ behind → is_name name ≡ false → HasWrongName content
wrong_name content digits text name behind whole mode ends parts wrong = record {
  digits = digits;
  name = name;
  behind = 0 ∷ behind;
  mode = mode;
  no_end = no_nul_there;
  wrong = elim (and_cases (not (length name == 0) && not (has 47 name)) (not (has 0 name)) wrong) [
    | inl left ↦ elim (and_cases (not (length name == 0)) (not (has 47 name)) left) [
      | inl none ↦ inl (nil_of name (eqb-true (length name) 0 (yes (length name == 0) none)), (behind, refl))
      | inr slash ↦ inr (yes (has 47 name) slash)
    ]
    | inr nul ↦ absurd (not_both (has 0 name) (yes (has 0 name) nul) no_nul_there)
  ];
  whole = whole ∙ ap (λ l. digits ++ 32 ∷ l) parts;
}
  where
    no_nul_there : has 0 name ≡ false
    no_nul_there = lacks_has 0 name ends

    yes : (b : Bool) → not b ≡ false → b ≡ true
    yes true h = refl
    yes false h = absurd (false≢true (sym h))

    nil_of : (xs : List ℕ) → length xs ≡ 0 → xs ≡ []
    nil_of [] h = refl
    nil_of (x ∷ xs) h = absurd (omega (arith, h))

pub front_says : (size at : ℕ) (content : List ℕ) → content ≢ [] → Says size at content (front_of size at content)
front_says size at content some = elim (parted 32 content) [
  | inl lacks ↦ elim (begins_mode content) as (λ t. t ≡ begins_mode content → Says size at content (front_of size at content)) [
    | true ↦ λ e. subst (Says size at content) (sym (no_space size at content lacks ∙ ap (λ t. cond t (Err (Cut at)) (Err (Mode at))) (sym e))) (refl, cut_in_mode size content some (sym e))
    | false ↦ λ e. subst (Says size at content) (sym (no_space size at content lacks ∙ ap (λ t. cond t (Err (Cut at)) (Err (Mode at))) (sym e))) (refl, (λ is. not_cut_digits size content is lacks (sym e)), no_space_there content lacks)
  ] refl
  | inr p ↦ says_space p.front p.back p.lacks p.whole
]
  where
    says_name : (digits text : List ℕ) → Lacks 32 digits → content ≡ digits ++ 32 ∷ text → is_mode digits ≡ true → (name behind : List ℕ) → Lacks 0 name → text ≡ name ++ 0 ∷ behind → Says size at content (front_of size at content)
    says_name digits text lacks whole mode name behind ends parts = elim (is_name name) as (λ t. t ≡ is_name name → Says size at content (front_of size at content)) [
      | true ↦ λ e. elim (ltb (length behind) size) as (λ t. t ≡ ltb (length behind) size → Says size at content (front_of size at content)) [
        | true ↦ λ lt.
            let short = ltb-true (length behind) size (sym lt) in
            subst (Says size at content) (sym (no_id size at content digits text lacks whole mode name behind ends parts (sym e) short))
            (refl, cut_in_id size content digits name behind (whole ∙ ap (λ l. digits ++ 32 ∷ l) parts) mode (sym e) short)
        | false ↦ λ lt.
            let long : size ≤ length behind = ltb-false (length behind) size (sym lt) in
            subst (Says size at content) (sym (whole_entry size at content digits text lacks whole mode name behind ends parts (sym e) long)) (
              record { mode = mode; named = sym e; count = length-take-le size behind long },
              whole ∙ ap (λ l. digits ++ 32 ∷ l) (parts ∙ ap (λ l. name ++ 0 ∷ l) (sym (take-append-drop size behind)) ∙ sym (append_assoc name (0 ∷ take size behind) (drop size behind)))
                  ∙ sym (append_assoc digits (32 ∷ (name ++ 0 ∷ take size behind)) (drop size behind)),
            )
      ] refl
      | false ↦ λ e. subst (Says size at content) (sym (no_name size at content digits text lacks whole mode name behind ends parts (sym e)))
          (refl, (λ is. not_cut_name size content is digits text lacks whole name behind ends parts (sym e)), wrong_name content digits text name behind whole mode ends parts (sym e))
    ] refl

    says_mode : (digits text : List ℕ) → Lacks 32 digits → content ≡ digits ++ 32 ∷ text → is_mode digits ≡ true → Says size at content (front_of size at content)
    says_mode digits text lacks whole mode = elim (parted 0 text) [
      | inl none ↦ elim (has 47 text) as (λ t. t ≡ has 47 text → Says size at content (front_of size at content)) [
        | true ↦ λ e. subst (Says size at content) (sym (no_nul size at content digits text lacks whole mode none ∙ ap (λ t. cond t (Err (Name at)) (Err (Cut at))) (sym e))) (
          refl,
          (λ is. not_cut_slash size content is digits text lacks whole none (sym e)),
          record { digits = digits; name = text; behind = []; mode = mode; no_end = lacks_has 0 text none; wrong = inr (sym e); whole = whole ∙ ap (λ l. digits ++ 32 ∷ l) (sym (append-nil text)) },
        )
        | false ↦ λ e. subst (Says size at content) (sym (no_nul size at content digits text lacks whole mode none ∙ ap (λ t. cond t (Err (Name at)) (Err (Cut at))) (sym e)))
            (refl, cut_in_name size content digits text whole mode none (sym e))
      ] refl
      | inr p ↦ says_name digits text lacks whole mode p.front p.back p.lacks p.whole
    ]

    says_space : (digits text : List ℕ) → Lacks 32 digits → content ≡ digits ++ 32 ∷ text → Says size at content (front_of size at content)
    says_space digits text lacks whole = elim (is_mode digits) as (λ t. t ≡ is_mode digits → Says size at content (front_of size at content)) [
      | true ↦ λ e. says_mode digits text lacks whole (sym e)
      | false ↦ λ e. subst (Says size at content) (sym (no_mode size at content digits text lacks whole (sym e)))
          (refl, (λ is. not_cut_mode size content is digits text lacks whole (sym e)), no_mode_there content digits text lacks whole (sym e))
    ] refl

-- ---- as the code finds it

pub name_empty : (name : List ℕ) → (length name == 0) ≡ true → is_name name ≡ false
name_empty name h = ap (λ t. not t && not (has 47 name) && not (has 0 name)) h

pub name_slash : (name : List ℕ) → has 47 name ≡ true → is_name name ≡ false
name_slash name h = slashed (not (length name == 0)) (has 47 name) (not (has 0 name)) h
  where
    slashed : (a b c : Bool) → b ≡ true → (a && not b && c) ≡ false
    slashed true true c h = refl
    slashed false true c h = refl
    slashed a false c h = absurd (false≢true h)

pub name_is : (name : List ℕ) → (length name == 0) ≡ false → has 47 name ≡ false → Lacks 0 name → is_name name ≡ true
name_is name some slash ends = name_from name (record { some = eqb-false (length name) 0 some; no_slash = slash; no_nul = lacks_has 0 name ends })

abbrev made : ℕ × Bool → List ℕ → List ℕ → Entry
made mode name id = record { mode = mode; name = name; id = id }

pub shows_as : (read : TreeEntry) (mode : ℕ × Bool) (id : List ℕ) → mode.0 ≡ octal_value read.digits → mode.1 ≡ is_file_mode read.digits → id ≡ read.id → made mode read.name id ≡ shown read
shows_as read mode id number file is =
    ap (λ n. made (n, mode.1) read.name id) number ∙ ap (λ f. made (octal_value read.digits, f) read.name id) file ∙ ap (λ i. made (octal_value read.digits, is_file_mode read.digits) read.name i) is
