-- Elements one after another, as loops meet them.
use Rattle.std.proofs.Common.{◌≡◌, ℕ, ◌+◌, ◌<◌, List, [], ◌∷◌, ◌++◌, length, get_or, take, drop, map, sym, ap, ◌∙◌}
use Rattle.std.specs.Prelude.{Bool, Option, Some, if◌then◌else◌}
use Rattle.std.specs.Option.{option_or}
use Rattle.sexp_reader.specs.Tree.{Tree, tree}
use Rattle.sexp_reader.specs.declared.datum.Datum.{Datum}
use Rattle.channel_file.specs.Elements.{behind, first_behind}
use Rattle.channel_file.specs.Channels.{has_name, repeated_name}
use Rattle.channel_file.specs.declared.channel.Channel.{Channel}
use Rattle.std.proofs.lemmas.List.{drop_more, take_more, get_or-map, length-map}

-- the tree of an element stands where the element does
pub tree_at : (ds : List Datum) (i : ℕ) (d : Datum) → i < length ds → d ≡ get_or ds i d → tree d ≡ get_or (map tree ds) i (tree d)
tree_at ds i d h is = ap tree is ∙ sym (get_or-map tree ds i d (tree d) h)

pub within : (ds : List Datum) (i : ℕ) → i < length ds → i < length (map tree ds)
within ds i h = rw (length-map ds tree) h

-- what is left begins with the next
pub drop_at : {A : Type 0} (xs : List A) (i : ℕ) (x : A) → i < length xs → x ≡ get_or xs i x → drop i xs ≡ x ∷ drop (i + 1) xs
drop_at xs i x h is = drop_more xs i x h ∙ ap (λ y. y ∷ drop (i + 1) xs) (sym is)

-- what was met ends with it
pub take_at : {A : Type 0} (xs : List A) (i : ℕ) (x : A) → i < length xs → x ≡ get_or xs i x → take (i + 1) xs ≡ take i xs ++ x ∷ []
take_at xs i x h is = take_more xs i x h ∙ ap (λ y. take i xs ++ y ∷ []) (sym is)

-- the first element behind this word is the next, or stands among the rest
pub first_at : (word : List ℕ) (es : List Tree) (i : ℕ) (e : Tree) (o : Option (List Tree)) → i < length es → e ≡ get_or es i e → behind word e ≡ o → first_behind word (drop i es) ≡ option_or o (first_behind word (drop (i + 1) es))
first_at word es i e o h is found = ap (first_behind word) (drop_at es i e h is) ∙ ap (λ (p : Option (List Tree)). option_or p (first_behind word (drop (i + 1) es))) found

-- the next channel has the name of one before, or one of the rest has
repeated_on : (before : List Channel) (c : Channel) (rest : List Channel) (b : Bool) → has_name before c.name ≡ b → repeated_name before (c ∷ rest) ≡ (if b then Some c.name else repeated_name (before ++ c ∷ []) rest)
repeated_on before c rest b is = rw is

pub repeated_at : (cs : List Channel) (i : ℕ) (c : Channel) (b : Bool) → i < length cs → c ≡ get_or cs i c → has_name (take i cs) c.name ≡ b → repeated_name (take i cs) (drop i cs) ≡ (if b then Some c.name else repeated_name (take (i + 1) cs) (drop (i + 1) cs))
repeated_at cs i c b h is found =
    ap (repeated_name (take i cs)) (drop_at cs i c h is)
    ∙ repeated_on (take i cs) c (drop (i + 1) cs) b found
    ∙ ap (λ (before : List Channel). if b then Some c.name else repeated_name before (drop (i + 1) cs)) (sym (take_at cs i c h is))
