-- The form of a datum, as the reading meets it.
use Rattle.std.proofs.Common.{◌≡◌, ℕ, ◌==◌, Bool, true, false, List, [], ◌∷◌, codes, refl, sym, ap, ◌∙◌, subst}
use Rattle.std.specs.Prelude.{Option, Some, None, Result, Ok, Err, if◌then◌else◌}
use Rattle.std.specs.Option.{ok_or}
use Rattle.std.proofs.lemmas.Bool.{eqb-true, eqb-false}
use Rattle.std.proofs.lemmas.Slice.Eq.{bytes_eq-Decides}
use Rattle.sexp_reader.specs.Tree.{Tree, symbol, text, number, list, members, symbol_in, text_in, number_in, list_in}
use Rattle.authorizations.specs.Authorizations.{IsVersion, IsHeaded, IsAuthorizations}
use Rattle.authorizations.specs.Faults.{IsFormFault}
use Rattle.authorizations.specs.Reading.{onward, is_word, version_from, third_of, after_version, after_head, entries_of}
use Rattle.authorizations.specs.declared.fail.AuthFail.{AuthFail}
use Rattle.authorizations.specs.declared.fail.AuthFail.TheVariants as fail

-- what the entries of a datum, or its fault, say of its form
abbrev pub FormSaid : Tree → Result (List Tree) AuthFail → Type 0
FormSaid datum (Ok entries) = IsAuthorizations datum entries
FormSaid datum (Err fault) = IsFormFault datum fault

-- a datum that isn't headed at all
headless : (datum : Tree) → ((n : ℕ) (rest : List Tree) → IsHeaded datum n rest → ⊥) → IsFormFault datum fail.Shape
headless datum not = (λ n rest is. absurd (not n rest is), λ entries is. not 0 _ is.headed)

is_symbol : (word : List ℕ) (datum : Tree) → is_word word (symbol_in datum) ≡ true → datum ≡ symbol word
is_symbol word (symbol s) is = ap (λ (w : List ℕ). symbol w) ((bytes_eq-Decides s word).0 is)
is_symbol word (text s) is = absurd (cc)
is_symbol word (number n) is = absurd (cc)
is_symbol word (list ts) is = absurd (cc)

is_number : (datum : Tree) (n : ℕ) → number_in datum ≡ Some n → datum ≡ number n
is_number (symbol s) n is = absurd (cc)
is_number (text s) n is = absurd (cc)
is_number (number m) n is = cc
is_number (list ts) n is = absurd (cc)

pub is_text : (datum : Tree) (name : List ℕ) → text_in datum ≡ Some name → datum ≡ text name
is_text (symbol s) n is = absurd (cc)
is_text (text s) n is = cc
is_text (number m) n is = absurd (cc)
is_text (list ts) n is = absurd (cc)

if_version : (b : Bool) (word count : Tree) (n : ℕ) → is_word (codes "version") (symbol_in word) ≡ b → (if b then number_in count else None) ≡ Some n → word ∷ count ∷ [] ≡ symbol (codes "version") ∷ number n ∷ []
if_version true word count n is number_is =
    let w = is_symbol (codes "version") word is in
    let c = is_number count n number_is in
    cc
if_version false word count n is number_is = absurd (cc)

is_version : (elements : List Tree) (n : ℕ) → version_from elements ≡ Some n → elements ≡ symbol (codes "version") ∷ number n ∷ []
is_version [] n is = absurd (cc)
is_version (word ∷ []) n is = absurd (cc)
is_version (word ∷ count ∷ []) n is = if_version (is_word (codes "version") (symbol_in word)) word count n refl is
is_version (word ∷ count ∷ more ∷ rest) n is = absurd (cc)

-- of a datum whose elements are known, what is headed is known too
headed_is : (datum head version : Tree) (rest : List Tree) (n : ℕ) (others : List Tree) → list_in datum ≡ Some (head ∷ version ∷ rest) → (is : IsHeaded datum n others) → (head ≡ symbol (codes "authorizations")) × IsVersion n version × (rest ≡ others)
headed_is datum head version rest n others e is =
    let same : Some (head ∷ version ∷ rest) ≡ Some (symbol (codes "authorizations") ∷ is.version ∷ others) = sym e ∙ is.elements in
    let h : head ≡ symbol (codes "authorizations") = cc in
    let v : is.version ≡ version = cc in
    let r : rest ≡ others = cc in
    (h, subst (IsVersion n) v is.version_is, r)

-- nothing else is headed than this
abbrev One : Tree → ℕ → List Tree → Type 0
One datum n rest = (m : ℕ) (others : List Tree) → IsHeaded datum m others → (m ≡ n) × (rest ≡ others)

third_said : (datum third : Tree) (ignored : List Tree) (o : Option (List Tree)) → list_in third ≡ o → IsHeaded datum 0 (third ∷ ignored) → One datum 0 (third ∷ ignored) → FormSaid datum (ok_or o fail.Shape)
third_said datum third ignored (Some entries) is headed one = record { third = third; ignored = ignored; headed = headed; each = is }
third_said datum third ignored None is headed one = (
  λ m others h. (one m others h).0,
  λ entries h.
      let e : third ∷ ignored ≡ h.third ∷ h.ignored = (one 0 _ h.headed).1 in
      let t : third ≡ h.third = cc in
      let l : Some entries ≡ None = sym h.each ∙ ap list_in (sym t) ∙ is in
      absurd (cc),
)

rest_said : (datum : Tree) (rest : List Tree) → IsHeaded datum 0 rest → One datum 0 rest → FormSaid datum (third_of rest)
rest_said datum [] headed one = (
  λ m others h. (one m others h).0,
  λ entries h.
      let e : [] ≡ h.third ∷ h.ignored = (one 0 _ h.headed).1 in
      absurd (cc),
)
rest_said datum (third ∷ ignored) headed one = third_said datum third ignored (list_in third) refl headed one

number_said : (datum : Tree) (n : ℕ) (rest : List Tree) (b : Bool) → (n == 0) ≡ b → IsHeaded datum n rest → One datum n rest → FormSaid datum (if b then third_of rest else Err (fail.Version n))
number_said datum n rest true is headed one =
    let zero : n ≡ 0 = eqb-true n 0 is in
    rest_said datum rest (subst (λ m. IsHeaded datum m rest) zero headed) (subst (λ m. One datum m rest) zero one)
number_said datum n rest false is headed one = ((rest, headed), λ zero. eqb-false n 0 is zero)

version_of_form : (n : ℕ) → version_from (symbol (codes "version") ∷ number n ∷ []) ≡ Some n
version_of_form n = refl

count_said : (datum version : Tree) (elements rest : List Tree) (m : Option ℕ) → list_in datum ≡ Some (symbol (codes "authorizations") ∷ version ∷ rest) → list_in version ≡ Some elements → version_from elements ≡ m → FormSaid datum (onward (ok_or m fail.Shape) (λ n. after_version n rest))
count_said datum version elements rest None e is not = headless datum (λ n others h.
    let v : list_in version ≡ Some (symbol (codes "version") ∷ number n ∷ []) = (headed_is datum _ version rest n others e h).1 in
    let s : elements ≡ symbol (codes "version") ∷ number n ∷ [] = cc in
    let w : None ≡ Some n = sym not ∙ ap version_from s ∙ version_of_form n in
    absurd (cc))
count_said datum version elements rest (Some n) e is so =
    let s : elements ≡ symbol (codes "version") ∷ number n ∷ [] = is_version elements n so in
    let v : list_in version ≡ Some (symbol (codes "version") ∷ number n ∷ []) = is ∙ ap (λ (es : List Tree). Some es) s in
    number_said datum n rest (n == 0) refl (record { version = version; elements = e; version_is = v }) (λ m others h.
    let known = headed_is datum _ version rest m others e h in
    let w : list_in version ≡ Some (symbol (codes "version") ∷ number m ∷ []) = known.1 in
    let same : m ≡ n = cc in
    (same, known.2))

version_said : (datum version : Tree) (rest : List Tree) (o : Option (List Tree)) → list_in datum ≡ Some (symbol (codes "authorizations") ∷ version ∷ rest) → list_in version ≡ o → FormSaid datum (onward (ok_or o fail.Shape) (λ elements. onward (ok_or (version_from elements) fail.Shape) (λ n. after_version n rest)))
version_said datum version rest None e is = headless datum (λ n others h.
    let v : list_in version ≡ Some (symbol (codes "version") ∷ number n ∷ []) = (headed_is datum _ version rest n others e h).1 in
    absurd (cc))
version_said datum version rest (Some elements) e is = count_said datum version elements rest (version_from elements) e is refl

head_word : is_word (codes "authorizations") (symbol_in (symbol (codes "authorizations"))) ≡ true
head_word = refl

head_said : (datum head version : Tree) (rest : List Tree) (b : Bool) → list_in datum ≡ Some (head ∷ version ∷ rest) → is_word (codes "authorizations") (symbol_in head) ≡ b → FormSaid datum (if b
    then onward (ok_or (list_in version) fail.Shape) (λ elements. onward (ok_or (version_from elements) fail.Shape) (λ n. after_version n rest))
    else Err fail.Shape)
head_said datum head version rest true e is =
    let h : head ≡ symbol (codes "authorizations") = is_symbol (codes "authorizations") head is in
    let known : list_in datum ≡ Some (symbol (codes "authorizations") ∷ version ∷ rest) = e ∙ ap (λ (t : Tree). Some (t ∷ version ∷ rest)) h in
    version_said datum version rest (list_in version) known refl
head_said datum head version rest false e is = headless datum (λ n others h.
    let same : head ≡ symbol (codes "authorizations") = (headed_is datum head version rest n others e h).0 in
    let w : true ≡ false = sym (ap (λ (t : Tree). is_word (codes "authorizations") (symbol_in t)) same ∙ head_word) ∙ is in
    absurd (cc))

elements_said : (datum : Tree) (elements : List Tree) → list_in datum ≡ Some elements → FormSaid datum (after_head elements)
elements_said datum [] e = headless datum (λ n others h. let x = h.elements in absurd (cc))
elements_said datum (head ∷ []) e = headless datum (λ n others h. let x = h.elements in absurd (cc))
elements_said datum (head ∷ version ∷ rest) e = head_said datum head version rest (is_word (codes "authorizations") (symbol_in head)) e refl

pub form_said : (datum : Tree) → FormSaid datum (entries_of datum)
form_said (symbol s) = headless (symbol s) (λ n others h. let x = h.elements in absurd (cc))
form_said (text s) = headless (text s) (λ n others h. let x = h.elements in absurd (cc))
form_said (number m) = headless (number m) (λ n others h. let x = h.elements in absurd (cc))
form_said (list ts) = elements_said (list ts) (members ts) refl

-- what is of the form is read so
pub form_read : (datum : Tree) (entries : List Tree) → IsAuthorizations datum entries → entries_of datum ≡ Ok entries
form_read datum entries is = rw (is.headed.elements, is.headed.version_is, is.each)
