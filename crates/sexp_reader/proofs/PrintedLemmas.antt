-- The loop that writes a text.
use Rattle.std.proofs.Common.{◌≡◌, ℕ, true, not, List, [], ◌∷◌, ◌++◌, ap, sym, ◌∙◌, refl, ◌==◌, append-nil, append_assoc, ◌<◌, ◌+◌, length, map, take, get_or, arith}
use Rattle.std.proofs.lemmas.List.{take_more, length-take-le, length-map}
use Rattle.sexp_reader.specs.declared.datum.Datum.{Datum}
use Rattle.sexp_reader.proofs.DescentLemmas.{map-tree-append}
use Rattle.std.specs.List.{list_all, flat_map}
use Rattle.std.proofs.lemmas.Bool.{and_parts}
use Rattle.sexp_reader.specs.Spelling.{written, is_literal, CutsLiteral, spelling, spellings, NumbersFit, AllNumbersFit}
use Rattle.sexp_reader.specs.Tree.{Tree, list, trees_of, tree}
use Rattle.sexp_reader.proofs.TokenLemmas.{not_true}

abbrev pub flat : List ℕ → List ℕ
flat s = flat_map written s

flat-append : (s t : List ℕ) → flat (s ++ t) ≡ flat s ++ flat t
flat-append [] t = refl
flat-append (c ∷ s) t = ap (λ r. written c ++ r) (flat-append s t) ∙ sym (append_assoc (written c) (flat s) (flat t))

flat-literal : (s : List ℕ) → list_all is_literal s ≡ true → flat s ≡ s
flat-literal [] all = refl
flat-literal (c ∷ s) all =
    let parts = and_parts (is_literal c) (list_all is_literal s) all in
    let a9 = and_parts _ (not (c == 9)) parts.0 in
    let a10 = and_parts _ (not (c == 10)) a9.0 in
    let a34 = and_parts (not (c == 92)) (not (c == 34)) a10.0 in
    let plain : written c ≡ c ∷ [] = rw (not_true (c == 92) a34.0, not_true (c == 34) a34.1, not_true (c == 10) a10.1, not_true (c == 9) a9.1) refl in
    ap (λ w. w ++ flat s) plain ∙ ap (λ r. c ∷ r) (flat-literal s parts.1)

flat-cut : (rest literal next : List ℕ) → CutsLiteral rest literal next → flat rest ≡ literal ++ flat next
flat-cut rest literal next cut = ap flat cut.whole ∙ flat-append literal next ∙ ap (λ l. l ++ flat next) (flat-literal literal cut.each)

pub printed-end : (out0 out1 out2 out3 rest literal next chars : List ℕ) → out1 ++ flat rest ≡ out0 ++ 34 ∷ flat chars → CutsLiteral rest literal next → next ≡ [] →
    out2 ≡ out1 ++ literal → out3 ≡ out2 ++ 34 ∷ [] → out3 ≡ out0 ++ 34 ∷ (flat chars ++ 34 ∷ [])
printed-end out0 out1 out2 out3 rest literal next chars same cut over two three =
    let all : flat rest ≡ literal = flat-cut rest literal next cut ∙ ap (λ n. literal ++ flat n) over ∙ append-nil literal in
    three ∙ ap (λ o. o ++ 34 ∷ []) (two ∙ ap (λ l. out1 ++ l) (sym all) ∙ same) ∙ append_assoc out0 (34 ∷ flat chars) (34 ∷ [])

pub printed-step : (out0 out1 out2 out3 rest literal next after chars : List ℕ) (b : ℕ) → out1 ++ flat rest ≡ out0 ++ 34 ∷ flat chars → CutsLiteral rest literal next → next ≡ b ∷ after →
    out2 ≡ out1 ++ literal → out3 ≡ out2 ++ written b → out3 ++ flat after ≡ out0 ++ 34 ∷ flat chars
printed-step out0 out1 out2 out3 rest literal next after chars b same cut is two three =
    let all : flat rest ≡ literal ++ (written b ++ flat after) = flat-cut rest literal next cut ∙ ap (λ n. literal ++ flat n) is in
    ap (λ o. o ++ flat after) (three ∙ ap (λ o. o ++ written b) two) ∙ append_assoc (out1 ++ literal) (written b) (flat after) ∙ append_assoc out1 literal (written b ++ flat after)
    ∙ ap (λ r. out1 ++ r) (sym all) ∙ same

-- trees with a space between them
abbrev pub joined : List Tree → List ℕ
joined [] = []
joined (t ∷ ts) = spelling t ++ spellings (trees_of ts)

abbrev pub AllFit : List Tree → Type 0
AllFit ts = AllNumbersFit (trees_of ts)

spellings-append : (xs : List Tree) (t : Tree) → spellings (trees_of (xs ++ t ∷ [])) ≡ spellings (trees_of xs) ++ 32 ∷ spelling t
spellings-append [] t = ap (λ r. 32 ∷ r) (append-nil (spelling t))
spellings-append (x ∷ xs) t = ap (λ r. 32 ∷ (spelling x ++ r)) (spellings-append xs t) ∙ ap (λ r. 32 ∷ r) (sym (append_assoc (spelling x) (spellings (trees_of xs)) (32 ∷ spelling t)))

pub joined-first : (t : Tree) → joined (t ∷ []) ≡ spelling t
joined-first t = append-nil (spelling t)

pub joined-append : (x : Tree) (xs : List Tree) (t : Tree) → joined ((x ∷ xs) ++ t ∷ []) ≡ joined (x ∷ xs) ++ 32 ∷ spelling t
joined-append x xs t = ap (λ r. spelling x ++ r) (spellings-append xs t) ∙ sym (append_assoc (spelling x) (spellings (trees_of xs)) (32 ∷ spelling t))

pub spelling-list : (xs : List Tree) → spelling (list (trees_of xs)) ≡ 40 ∷ (joined xs ++ 41 ∷ [])
spelling-list [] = refl
spelling-list (t ∷ ts) = refl

pub AllFit-append : (xs : List Tree) (t : Tree) → AllFit xs → NumbersFit t → AllFit (xs ++ t ∷ [])
AllFit-append [] t all one = (one, tt)
AllFit-append (x ∷ xs) t all one = (all.0, AllFit-append xs t all.1 one)

-- the list so far, on the output
pub record Lists (out0 out1 : List ℕ) (xs : List Tree) : Type 0 where
  pub same : out1 ≡ out0 ++ 40 ∷ joined xs
  pub fit : AllFit xs

pub Lists-first : (out0 out1 out2 : List ℕ) (t : Tree) → Lists out0 out1 [] → out2 ≡ out1 ++ spelling t → NumbersFit t → Lists out0 out2 (t ∷ [])
Lists-first out0 out1 out2 t l is fits = record {
  same = is ∙ ap (λ o. o ++ spelling t) l.same ∙ append_assoc out0 (40 ∷ []) (spelling t) ∙ ap (λ r. out0 ++ 40 ∷ r) (sym (joined-first t));
  fit = (fits, tt);
}

pub Lists-more : (out0 out1 out2 out3 : List ℕ) (xs : List Tree) (t : Tree) → 0 < length xs → Lists out0 out1 xs → out2 ≡ out1 ++ 32 ∷ [] → out3 ≡ out2 ++ spelling t → NumbersFit t → Lists out0 out3 (xs ++ t ∷ [])
Lists-more out0 out1 out2 out3 [] t some l space is fits = absurd (omega arith)
Lists-more out0 out1 out2 out3 (x ∷ xs) t some l space is fits = record {
  same = is ∙ ap (λ o. o ++ spelling t) (space ∙ ap (λ o. o ++ 32 ∷ []) l.same) ∙ append_assoc (out0 ++ 40 ∷ joined (x ∷ xs)) (32 ∷ []) (spelling t)
      ∙ append_assoc out0 (40 ∷ joined (x ∷ xs)) (32 ∷ spelling t) ∙ ap (λ r. out0 ++ 40 ∷ r) (sym (joined-append x xs t));
  fit = AllFit-append (x ∷ xs) t l.fit fits;
}

pub Lists-end : (out0 out1 out2 : List ℕ) (xs : List Tree) → Lists out0 out1 xs → out2 ≡ out1 ++ 41 ∷ [] → out2 ≡ out0 ++ spelling (list (trees_of xs))
Lists-end out0 out1 out2 xs l is = is ∙ ap (λ o. o ++ 41 ∷ []) l.same ∙ append_assoc out0 (40 ∷ joined xs) (41 ∷ []) ∙ ap (λ r. out0 ++ r) (sym (spelling-list xs))

-- one more datum
pub map-tree-take : (ds : List Datum) (i : ℕ) (d : Datum) → i < length ds → get_or ds i d ≡ d → map tree (take (i + 1) ds) ≡ map tree (take i ds) ++ tree d ∷ []
map-tree-take ds i d below is = ap (map tree) (take_more ds i d below ∙ ap (λ x. take i ds ++ x ∷ []) is) ∙ map-tree-append (take i ds) d

pub take-none : (ds : List Datum) (i : ℕ) → i ≡ 0 → map tree (take i ds) ≡ []
take-none ds i is = ap (λ n. map tree (take n ds)) is

pub take-some : (ds : List Datum) (i : ℕ) → 0 < i → i < length ds → 0 < length (map tree (take i ds))
take-some ds i some below = omega (arith, length-map (take i ds) tree, length-take-le i ds (omega arith))
