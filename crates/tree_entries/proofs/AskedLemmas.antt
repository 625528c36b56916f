-- What is asked of a tree, while its entries are walked over.
use Rattle.std.proofs.Common.{◌≡◌, ◌≢◌, ℕ, suc, ◌-◌, ◌≤◌, Bool, true, false, cond, ◌||◌, ◌&&◌, ◌==◌, Option, Some, None, is_some, Result, Ok, Err, List, [], ◌∷◌, ◌++◌, length, refl, sym, ap, ap₂, ◌∙◌, subst, arith, append_assoc, append-nil, length-append, map, filter, option_map, bytes_eq, nat_eq}
use Rattle.std.specs.List.{AllByRecursion, list_any, ends_with, find}
use Rattle.std.proofs.lemmas.Bool.{false≢true, eqb-true, and_from, and_left, and_right}
use Rattle.std.proofs.lemmas.List.{flat_map_more, map-append}
use Rattle.std.proofs.lemmas.List.Elements.{filter-append}
use Rattle.tree_entries.specs.declared.entry.Entry.{Entry}
use Rattle.tree_entries.specs.declared.fail.TreeFail.{TreeFail}
use Rattle.tree_entries.specs.declared.fail.TreeFail.TheVariants.{Cut, Mode, Name, Twice, Memory}
use Rattle.tree_entries.specs.Tree.{TreeEntry, IsEntry, IsTree, entry_bytes, tree_bytes}
use Rattle.tree_entries.specs.Asked.{has_name, is_sought, shown, name_again, file_again, IsFound, AreFiles}
use Rattle.tree_entries.specs.Faults.{IsFrontFault, IsFault}
use Rattle.tree_entries.specs.Front.{Reads}
use Rattle.tree_entries.specs.Reading.{front_of, first_again, answer_of, find_of, files_of, Gives}
use Rattle.tree_entries.proofs.FrontLemmas.{Says, front_says}
use Rattle.tree_entries.proofs.WalkLemmas.{again_over, once_all, all_once, answer_is, answer_stops, answer_twice}

-- ---- answers and faults

pub gives_fault : {A : Type 0} (fail : TreeFail) (reading : Result A TreeFail) → reading ≡ Err fail → Gives (Err fail) reading
gives_fault (Cut at) reading e = e
gives_fault (Mode at) reading e = e
gives_fault (Name at) reading e = e
gives_fault (Twice at) reading e = e
gives_fault Memory reading e = tt

pub gives_only : {A : Type 0} (result reading : Result A TreeFail) (answer : A) → Gives result reading → reading ≡ Ok answer → Gives result (Ok answer)
gives_only result reading answer h e = subst (Gives result) e h

-- entries have been walked over, of which none comes again, and a rest is left
pub record Walked (again : List TreeEntry → TreeEntry → Bool) (content rest : List ℕ) (Holds : List TreeEntry → Type 0) : Type 0 where
  pub es : List TreeEntry
  pub each : AllByRecursion (IsEntry 20) es
  pub whole : content ≡ tree_bytes es ++ rest
  pub once : first_again again [] es ≡ None
  pub holds : Holds es

pub walked_none : (again : List TreeEntry → TreeEntry → Bool) (content : List ℕ) (Holds : List TreeEntry → Type 0) → Holds [] → Walked again content content Holds
walked_none again content Holds h = record { es = []; each = tt; whole = refl; once = refl; holds = h }

pub within : (again : List TreeEntry → TreeEntry → Bool) (content rest : List ℕ) (Holds : List TreeEntry → Type 0) → Walked again content rest Holds → length rest ≤ length content
within again content rest Holds w = omega (arith, ap length w.whole, length-append (tree_bytes w.es) rest)

all_more : {X : Type 0} (P : X → Type 0) (xs : List X) (x : X) → AllByRecursion P xs → P x → AllByRecursion P (xs ++ x ∷ [])
all_more P [] x h p = (p, tt)
all_more P (y ∷ xs) x h p = (h.0, all_more P xs x h.1 p)

module _ (again : List TreeEntry → TreeEntry → Bool) (content rest : List ℕ) (Holds : List TreeEntry → Type 0) (w : Walked again content rest Holds) where
  abbrev pub place : ℕ
  place = length content - length rest

  place_is : place ≡ length (tree_bytes w.es)
  place_is = omega (arith, ap length w.whole, length-append (tree_bytes w.es) rest)

  front_at : (r : Result (TreeEntry × List ℕ) TreeFail) → front_of 20 place rest ≡ r → front_of 20 (length (tree_bytes w.es)) rest ≡ r
  front_at r e = ap (λ k. front_of 20 k rest) (sym place_is) ∙ e

  says : (r : Result (TreeEntry × List ℕ) TreeFail) → rest ≢ [] → front_of 20 place rest ≡ r → Says 20 (length (tree_bytes w.es)) rest r
  says r some e = subst (Says 20 (length (tree_bytes w.es)) rest) (front_at r e) (front_says 20 (length (tree_bytes w.es)) rest some)

  -- one entry more
  pub walked_more : (entry : Entry) (next : List ℕ) (reads : Reads 20 place rest entry next) → rest ≢ [] → again w.es reads.read ≡ false → (Later : List TreeEntry → Type 0) → Later (w.es ++ reads.read ∷ []) → Walked again content next Later
  walked_more entry next reads some fresh Later holds =
      let found = says (Ok (reads.read, next)) some reads.front in
      record {
        es = w.es ++ reads.read ∷ [];
        each = all_more (IsEntry 20) w.es reads.read w.each found.0;
        whole = w.whole ∙ ap (λ l. tree_bytes w.es ++ l) found.1 ∙ sym (append_assoc (tree_bytes w.es) (entry_bytes reads.read) next) ∙ ap (λ l. l ++ next) (flat_map_more entry_bytes [] w.es reads.read);
        once = again_over again [] w.es (reads.read ∷ []) w.once ∙ ap (λ t. cond t (Some (Twice (length (tree_bytes w.es)))) None) fresh;
        holds = holds;
      }

  pub shorter : (entry : Entry) (next : List ℕ) → Reads 20 place rest entry next → rest ≢ [] → suc (length next) ≤ length rest
  shorter entry next reads some =
      let found = says (Ok (reads.read, next)) some reads.front in
      omega (arith, ap length found.1, length-append (entry_bytes reads.read) next, length-append reads.read.digits (32 ∷ (reads.read.name ++ 0 ∷ reads.read.id)))

  front_fault : (fail : TreeFail) → rest ≢ [] → IsFrontFault 20 (length (tree_bytes w.es)) rest fail → IsFault 20 again content fail
  front_fault (Cut at) some h = record { before = w.es; rest = rest; each = w.each; once = once_all again w.es w.once; some_rest = some; whole = w.whole; stands = h }
  front_fault (Mode at) some h = record { before = w.es; rest = rest; each = w.each; once = once_all again w.es w.once; some_rest = some; whole = w.whole; stands = h }
  front_fault (Name at) some h = record { before = w.es; rest = rest; each = w.each; once = once_all again w.es w.once; some_rest = some; whole = w.whole; stands = h }
  front_fault (Twice at) some h = absurd h
  front_fault Memory some h = absurd h

  pub stops_fault : (fail : TreeFail) → rest ≢ [] → front_of 20 place rest ≡ Err fail → IsFault 20 again content fail
  stops_fault fail some front = front_fault fail some (says (Err fail) some front)

  pub stops_gives : {A : Type 0} (answer : List TreeEntry → A) (fail : TreeFail) → rest ≢ [] → front_of 20 place rest ≡ Err fail → Gives (Err fail) (answer_of again answer 20 content)
  stops_gives answer fail some front = gives_fault fail (answer_of again answer 20 content) (answer_stops again answer 20 content w.es rest fail w.each w.whole w.once some (front_at (Err fail) front))

  pub twice_fault : (entry : Entry) (next : List ℕ) (reads : Reads 20 place rest entry next) → rest ≢ [] → again w.es reads.read ≡ true → IsFault 20 again content (Twice place)
  twice_fault entry next reads some comes =
      let found = says (Ok (reads.read, next)) some reads.front in
      record {
        before = w.es;
        rest = rest;
        each = w.each;
        once = once_all again w.es w.once;
        some_rest = some;
        whole = w.whole;
        stands = record { entry = reads.read; more = next; is_entry = found.0; comes_again = comes; at = place_is; whole = found.1 };
      }

  pub twice_gives : {A : Type 0} (answer : List TreeEntry → A) (entry : Entry) (next : List ℕ) (reads : Reads 20 place rest entry next) → rest ≢ [] → again w.es reads.read ≡ true → Gives (Err (Twice place)) (answer_of again answer 20 content)
  twice_gives answer entry next reads some comes =
      let found = says (Ok (reads.read, next)) some reads.front in
      answer_twice again answer 20 content w.es reads.read next w.each found.0 (w.whole ∙ ap (λ l. tree_bytes w.es ++ l) found.1) w.once comes ∙ ap (λ (k : ℕ). Err (Twice k)) (sym place_is)

  pub is_tree : rest ≡ [] → IsTree 20 content w.es
  is_tree over = record { each = w.each; whole = w.whole ∙ ap (λ l. tree_bytes w.es ++ l) over ∙ append-nil (tree_bytes w.es) }

  pub ends_gives : {A : Type 0} (answer : List TreeEntry → A) → rest ≡ [] → answer_of again answer 20 content ≡ Ok (answer w.es)
  ends_gives answer over = answer_is again answer 20 content w.es (is_tree over) w.once

-- ---- the entry of a name

abbrev pub found_of : List ℕ → List TreeEntry → Option Entry
found_of name es = option_map shown (find (has_name name) es)

pub found_any : (p : TreeEntry → Bool) (es : List TreeEntry) → is_some (option_map shown (find p es)) ≡ list_any p es
found_any p [] = refl
found_any p (e ∷ es) = elim (p e) as (λ t. is_some (option_map shown (cond t (Some e) (find p es))) ≡ (t || list_any p es)) [
  | true ↦ refl
  | false ↦ found_any p es
]

pub find_first : (p : TreeEntry → Bool) (es : List TreeEntry) (e : TreeEntry) → list_any p es ≡ false → p e ≡ true → find p (es ++ e ∷ []) ≡ Some e
find_first p [] e none is = ap (λ t. cond t (Some e) None) is
find_first p (x ∷ es) e none is = elim (p x) as (λ t. (t || list_any p es) ≡ false → cond t (Some x) (find p (es ++ e ∷ [])) ≡ Some e) [
  | true ↦ λ h. cc
  | false ↦ λ h. find_first p es e h is
] none

pub find_later : (p : TreeEntry → Bool) (es : List TreeEntry) (e : TreeEntry) → p e ≡ false → find p (es ++ e ∷ []) ≡ find p es
find_later p [] e is = ap (λ t. cond t (Some e) None) is
find_later p (x ∷ es) e is = ap (λ r. cond (p x) (Some x) r) (find_later p es e is)

pub only_found : (content name : List ℕ) (answer : Option Entry) → IsFound 20 content name answer → find_of content name ≡ Ok answer
only_found content name answer is =
    answer_is (name_again name) (found_of name) 20 content is.entries is.tree (all_once (name_again name) is.entries is.once) ∙ ap (λ (a : Option Entry). Ok a) (sym is.answer_is)

-- ---- the files whose names end so

abbrev pub files_of_all : List ℕ → List TreeEntry → List Entry
files_of_all suffix es = map shown (filter (is_sought suffix) es)

pub any_files : (suffix name : List ℕ) (es : List TreeEntry) → list_any (λ (f : Entry). bytes_eq f.name name) (files_of_all suffix es) ≡ list_any (λ earlier. is_sought suffix earlier && bytes_eq earlier.name name) es
any_files suffix name [] = refl
any_files suffix name (e ∷ es) = elim (is_sought suffix e) as (λ t. list_any (λ (f : Entry). bytes_eq f.name name) (map shown (cond t (e ∷ filter (is_sought suffix) es) (filter (is_sought suffix) es)))
    ≡ ((t && bytes_eq e.name name) || list_any (λ earlier. is_sought suffix earlier && bytes_eq earlier.name name) es)) [
      | true ↦ ap (λ t. bytes_eq e.name name || t) (any_files suffix name es)
      | false ↦ any_files suffix name es
    ]

pub files_more : (suffix : List ℕ) (es : List TreeEntry) (e : TreeEntry) → is_sought suffix e ≡ true → files_of_all suffix (es ++ e ∷ []) ≡ files_of_all suffix es ++ shown e ∷ []
files_more suffix es e is =
    ap (map shown) (filter-append (is_sought suffix) es (e ∷ [])) ∙ map-append shown (filter (is_sought suffix) es) (filter (is_sought suffix) (e ∷ []))
    ∙ ap (λ t. files_of_all suffix es ++ map shown (cond t (e ∷ []) [])) is

pub files_same : (suffix : List ℕ) (es : List TreeEntry) (e : TreeEntry) → is_sought suffix e ≡ false → files_of_all suffix (es ++ e ∷ []) ≡ files_of_all suffix es
files_same suffix es e is =
    ap (map shown) (filter-append (is_sought suffix) es (e ∷ [])) ∙ map-append shown (filter (is_sought suffix) es) (filter (is_sought suffix) (e ∷ []))
    ∙ ap (λ t. files_of_all suffix es ++ map shown (cond t (e ∷ []) [])) is ∙ append-nil (files_of_all suffix es)

pub only_files : (content suffix : List ℕ) (answer : List Entry) → AreFiles 20 content suffix answer → files_of content suffix ≡ Ok answer
only_files content suffix answer is =
    answer_is (file_again suffix) (files_of_all suffix) 20 content is.entries is.tree (all_once (file_again suffix) is.entries is.once) ∙ ap (λ (a : List Entry). Ok a) (sym is.answer_is)

-- ---- as the code says it

pub some_left : (rest : List ℕ) (t : Bool) → t ≡ (length rest == 0) → t ≡ false → rest ≢ []
some_left [] t is off e = false≢true (sym off ∙ is)
some_left (b ∷ rest) t is off e = cc

pub none_left : (rest : List ℕ) (t : Bool) → t ≡ (length rest == 0) → t ≡ true → rest ≡ []
none_left [] t is on = refl
none_left (b ∷ rest) t is on = absurd (omega (arith, eqb-true (length (b ∷ rest)) 0 (sym is ∙ on)))

abbrev pub FoundBy : List ℕ → Option Entry → List TreeEntry → Type 0
FoundBy name found es = found ≡ found_of name es

pub named_again : (name : List ℕ) (es : List TreeEntry) (read : TreeEntry) (found : Option Entry) → FoundBy name found es → has_name name read ≡ true → is_some found ≡ true → name_again name es read ≡ true
named_again name es read found holds named there = and_from (has_name name read) (list_any (has_name name) es) named (sym (found_any (has_name name) es) ∙ ap is_some (sym holds) ∙ there)

no_earlier : (name : List ℕ) (es : List TreeEntry) (found : Option Entry) → FoundBy name found es → is_some found ≡ false → list_any (has_name name) es ≡ false
no_earlier name es found holds none = sym (found_any (has_name name) es) ∙ ap is_some (sym holds) ∙ none

pub named_once : (name : List ℕ) (es : List TreeEntry) (read : TreeEntry) (found : Option Entry) → FoundBy name found es → is_some found ≡ false → name_again name es read ≡ false
named_once name es read found holds none = and_right (has_name name read) (list_any (has_name name) es) (no_earlier name es found holds none)

pub other_once : (name : List ℕ) (es : List TreeEntry) (read : TreeEntry) → has_name name read ≡ false → name_again name es read ≡ false
other_once name es read other = and_left (has_name name read) (list_any (has_name name) es) other

pub named_first : (name : List ℕ) (es : List TreeEntry) (read : TreeEntry) (found now : Option Entry) (entry : Entry) → FoundBy name found es → is_some found ≡ false → has_name name read ≡ true → now ≡ Some entry → entry ≡ shown read
    → FoundBy name now (es ++ read ∷ [])
named_first name es read found now entry holds none named is shows =
    is ∙ ap (λ (e : Entry). Some e) shows ∙ sym (ap (option_map shown) (find_first (has_name name) es read (no_earlier name es found holds none) named))

pub named_other : (name : List ℕ) (es : List TreeEntry) (read : TreeEntry) (found now : Option Entry) → FoundBy name found es → has_name name read ≡ false → now ≡ found → FoundBy name now (es ++ read ∷ [])
named_other name es read found now holds other is = is ∙ holds ∙ sym (ap (option_map shown) (find_later (has_name name) es read other))

abbrev pub FilesBy : List ℕ → List Entry → List TreeEntry → Type 0
FilesBy suffix files es = files ≡ files_of_all suffix es

pub file_is_again : (suffix : List ℕ) (es : List TreeEntry) (read : TreeEntry) (files : List Entry) (name : List ℕ) (r : Bool) → FilesBy suffix files es → name ≡ read.name → r ≡ list_any (λ (f : Entry). bytes_eq f.name name) files → file_again suffix es read ≡ r
file_is_again suffix es read files name r holds is told =
    sym (told ∙ ap (list_any (λ (f : Entry). bytes_eq f.name name)) holds ∙ any_files suffix name es ∙ ap (λ n. list_any (λ earlier. is_sought suffix earlier && bytes_eq earlier.name n) es) is)

abbrev pub is_among : List ℕ → List Entry → Bool
is_among name files = list_any (λ (f : Entry). bytes_eq f.name name) files

pub sought_of : (suffix : List ℕ) (read : TreeEntry) (entry : Entry) (file ends : Bool) → entry ≡ shown read → file ≡ entry.mode.1 → ends ≡ ends_with nat_eq entry.name suffix → is_sought suffix read ≡ (file && ends)
sought_of suffix read entry file ends shows is_file ends_so =
    ap (λ (e : Entry). e.mode.1 && ends_with nat_eq e.name suffix) (sym shows) ∙ ap₂ (λ a b. a && b) (sym is_file) (sym ends_so)

pub no_file : (suffix : List ℕ) (read : TreeEntry) (entry : Entry) (file : Bool) → entry ≡ shown read → file ≡ entry.mode.1 → file ≡ false → is_sought suffix read ≡ false
no_file suffix read entry file shows is_file none =
    and_left (entry_file read) (ends_with nat_eq read.name suffix) (ap (λ (e : Entry). e.mode.1) (sym shows) ∙ sym is_file ∙ none)
  where
    entry_file : TreeEntry → Bool
    entry_file e = (shown e).mode.1

pub files_pushed : (suffix : List ℕ) (es : List TreeEntry) (read : TreeEntry) (files now : List Entry) (file : Entry) → FilesBy suffix files es → is_sought suffix read ≡ true → now ≡ files ++ file ∷ [] → file ≡ shown read
    → FilesBy suffix now (es ++ read ∷ [])
files_pushed suffix es read files now file holds sought is shows =
    is ∙ ap (λ f. files ++ f ∷ []) shows ∙ ap (λ l. l ++ shown read ∷ []) holds ∙ sym (files_more suffix es read sought)

pub files_kept : (suffix : List ℕ) (es : List TreeEntry) (read : TreeEntry) (files now : List Entry) → FilesBy suffix files es → is_sought suffix read ≡ false → now ≡ files → FilesBy suffix now (es ++ read ∷ [])
files_kept suffix es read files now holds other is = is ∙ holds ∙ sym (files_same suffix es read other)
