-- The entries of a list, as the reading meets them.
use Rattle.std.proofs.Common.{◌≡◌, ℕ, ◌+◌, List, [], ◌∷◌, refl, sym, ap, ◌∙◌, subst, arith}
use Rattle.std.specs.Prelude.{Option, Some, None, Result, Ok, Err}
use Rattle.std.specs.Option.{ok_or}
use Rattle.child_ports.specs.Fingerprint.{fingerprint_in}
use Rattle.child_ports.specs.declared.fingerprint.Fingerprint.{Fingerprint}
use Rattle.sexp_reader.specs.Tree.{Tree, text, text_in, list_in}
use Rattle.authorizations.specs.Authorizations.{IsEntry, AreEntries}
use Rattle.authorizations.specs.Faults.{IsEntryFault, HasEntryFault}
use Rattle.authorizations.specs.Reading.{onward, name_of, key_of, fingerprints_from}
use Rattle.authorizations.specs.declared.fail.AuthFail.{AuthFail}
use Rattle.authorizations.specs.declared.fail.AuthFail.TheVariants as fail
use Rattle.authorizations.proofs.FormLemmas.{is_text}

-- what the key of an entry, or its fault, says
abbrev KeySaid : ℕ → Tree → Result Fingerprint AuthFail → Type 0
KeySaid index entry (Ok key) = IsEntry entry key
KeySaid index entry (Err fault) = IsEntryFault index entry fault

-- the same of entries
abbrev pub EntriesSaid : ℕ → List Tree → Result (List Fingerprint) AuthFail → Type 0
EntriesSaid index entries (Ok keys) = AreEntries entries keys
EntriesSaid index entries (Err fault) = HasEntryFault index entries fault

fingerprint_said : (index : ℕ) (entry : Tree) (name : List ℕ) (ignored : List Tree) (o : Option Fingerprint) → list_in entry ≡ Some (text name ∷ ignored) → fingerprint_in name ≡ o → KeySaid index entry (ok_or o (fail.Fingerprint index))
fingerprint_said index entry name ignored None e is = (refl, (name, ignored, e, is))
fingerprint_said index entry name ignored (Some key) e is = record { name = name; ignored = ignored; elements = e; fingerprint = is }

name_said : (index : ℕ) (entry element : Tree) (ignored : List Tree) (o : Option (List ℕ)) → list_in entry ≡ Some (element ∷ ignored) → text_in element ≡ o → KeySaid index entry (onward (ok_or o fail.Shape) (λ name. ok_or (fingerprint_in name) (fail.Fingerprint index)))
name_said index entry element ignored None e is = λ name others x.
    let t : element ≡ text name = cc in
    let w : None ≡ Some name = sym is ∙ ap text_in t in
    absurd (cc)
name_said index entry element ignored (Some name) e is =
    let t : element ≡ text name = is_text element name is in
    fingerprint_said index entry name ignored (fingerprint_in name) (e ∙ ap (λ (x : Tree). Some (x ∷ ignored)) t) refl

elements_said : (index : ℕ) (entry : Tree) (o : Option (List Tree)) → list_in entry ≡ o → KeySaid index entry (onward (ok_or o fail.Shape) (λ elements. onward (name_of elements) (λ name. ok_or (fingerprint_in name) (fail.Fingerprint index))))
elements_said index entry None e = λ name others x. absurd (cc)
elements_said index entry (Some []) e = λ name others x. absurd (cc)
elements_said index entry (Some (element ∷ ignored)) e = name_said index entry element ignored (text_in element) e refl

key_said : (index : ℕ) (entry : Tree) → KeySaid index entry (key_of index entry)
key_said index entry = elements_said index entry (list_in entry) refl

more_said : (index : ℕ) (entry : Tree) (entries : List Tree) (r : Result Fingerprint AuthFail) (s : Result (List Fingerprint) AuthFail) → KeySaid index entry r → EntriesSaid (index + 1) entries s → EntriesSaid index (entry ∷ entries) (onward r (λ key. onward s (λ keys. Ok (key ∷ keys))))
more_said index entry entries (Ok key) (Ok keys) one more = (one, more)
more_said index entry entries (Ok key) (Err fault) one more = record {
  before = entry ∷ more.before;
  entry = more.entry;
  after = more.after;
  listed = key ∷ more.listed;
  whole = ap (λ (es : List Tree). entry ∷ es) more.whole;
  fine = (one, more.fine);
  wrong = subst (λ (n : ℕ). IsEntryFault n more.entry fault) (omega arith) more.wrong;
}
more_said index entry entries (Err fault) s one more = record {
  before = [];
  entry = entry;
  after = entries;
  listed = [];
  whole = refl;
  fine = tt;
  wrong = subst (λ (n : ℕ). IsEntryFault n entry fault) (omega arith) one;
}

pub entries_said : (index : ℕ) (entries : List Tree) → EntriesSaid index entries (fingerprints_from index entries)
entries_said index [] = tt
entries_said index (entry ∷ entries) = more_said index entry entries (key_of index entry) (fingerprints_from (index + 1) entries) (key_said index entry) (entries_said (index + 1) entries)

key_read : (index : ℕ) (entry : Tree) (key : Fingerprint) → IsEntry entry key → key_of index entry ≡ Ok key
key_read index entry key is = rw (is.elements, is.fingerprint)

-- what is of the form is read so
pub entries_read : (index : ℕ) (entries : List Tree) (keys : List Fingerprint) → AreEntries entries keys → fingerprints_from index entries ≡ Ok keys
entries_read index [] [] are = refl
entries_read index [] (key ∷ keys) are = absurd are
entries_read index (entry ∷ entries) [] are = absurd are
entries_read index (entry ∷ entries) (key ∷ keys) are = rw (key_read index entry key are.0, entries_read (index + 1) entries keys are.1)
