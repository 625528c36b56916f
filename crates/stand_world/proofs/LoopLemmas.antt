-- Lists that grow by what each item of another gives.
use Rattle.std.proofs.Common.{◌≡◌, ℕ, ◌+◌, ◌<◌, List, [], ◌∷◌, ◌++◌, drop, length, get_or, sym, ap, ◌∙◌, append_assoc}
use Rattle.std.proofs.lemmas.List.{append-nil, drop_more}
use Rattle.std.specs.List.{flat_map}
use Rattle.commit_objects.proofs.CutLineLemmas.{lines_cons, lines_none}
use Rattle.commit_objects.specs.Lines.{NoLineEnd, continued}
use Rattle.commit_objects.specs.Reading.{Lines, lines_of}

-- one item more
pub one_more : {X A : Type 0} (f : X → List A) (start out now : List A) (x : X) (xs : List X) (i : ℕ)
    → out ++ flat_map f (drop i xs) ≡ start ++ flat_map f xs → i < length xs → x ≡ get_or xs i x → now ≡ out ++ f x
    → now ++ flat_map f (drop (i + 1) xs) ≡ start ++ flat_map f xs
one_more f start out now x xs i so_far below is added =
    let first : drop i xs ≡ x ∷ drop (i + 1) xs = drop_more xs i x below ∙ ap (λ y. y ∷ drop (i + 1) xs) (sym is) in
    ap (λ l. l ++ flat_map f (drop (i + 1) xs)) added ∙ append_assoc out (f x) (flat_map f (drop (i + 1) xs)) ∙ ap (λ l. out ++ flat_map f l) (sym first) ∙ so_far

-- one line more behind a space
pub one_line : (start out now line next rest lines : List ℕ)
    → out ++ flat_map continued (lines_of rest).whole ≡ start ++ flat_map continued (lines_of lines).whole → rest ≡ line ++ 10 ∷ next → NoLineEnd line → now ≡ out ++ continued line
    → now ++ flat_map continued (lines_of next).whole ≡ start ++ flat_map continued (lines_of lines).whole
one_line start out now line next rest lines so_far cut whole added =
    ap (λ l. l ++ flat_map continued (lines_of next).whole) added ∙ append_assoc out (continued line) (flat_map continued (lines_of next).whole)
    ∙ ap (λ (ls : Lines). out ++ flat_map continued ls.whole) (sym (ap lines_of cut ∙ lines_cons line next whole)) ∙ so_far

-- no line is left
pub no_line : (start out rest lines : List ℕ)
    → out ++ flat_map continued (lines_of rest).whole ≡ start ++ flat_map continued (lines_of lines).whole → NoLineEnd rest
    → out ≡ start ++ flat_map continued (lines_of lines).whole
no_line start out rest lines so_far left = sym (append-nil out) ∙ ap (λ (ls : Lines). out ++ flat_map continued ls.whole) (sym (lines_none rest left)) ∙ so_far

-- an item, and then more
pub then_more : {A : Type 0} (start out now : List A) (x : A) (more : List A) → out ≡ start ++ x ∷ [] → now ≡ out ++ more → now ≡ start ++ x ∷ more
then_more start out now x more first rest = rest ∙ ap (λ l. l ++ more) first ∙ append_assoc start (x ∷ []) more
