-- The parts of a reading, put together.
use Rattle.std.proofs.Common.{◌≡◌, ℕ, ◌+◌, ◌<◌, List, [], ◌∷◌, ◌++◌, length, get_or, drop, map, refl, sym, ap, ◌∙◌, subst, append_assoc}
use Rattle.std.specs.Prelude.{Result, Ok, Err}
use Rattle.std.specs.Borrow.{Bor}
use Rattle.std.specs.FinSet.{from_list, insert}
use Rattle.child_ports.specs.declared.fingerprint.Fingerprint.{Fingerprint}
use Rattle.sexp_reader.specs.Reading.{first_datum}
use Rattle.sexp_reader.specs.Tree.{Tree, tree}
use Rattle.sexp_reader.specs.declared.datum.Datum.{Datum}
use Rattle.child_ports.specs.KeySet.{key_cmp, Keys}
use Rattle.authorizations.specs.Reading.{onward, key_of, fingerprints_from, datum_in, entries_of, keys_of, Gives}
use Rattle.authorizations.specs.ReadingInside.{GivesDatum, GivesEntries, GivesKeys}
use Rattle.authorizations.specs.declared.fail.AuthFail.{AuthFail}
use Rattle.authorizations.specs.declared.fail.AuthFail.TheVariants as fail
use Rattle.std.proofs.lemmas.List.{drop_more, get_or-map}
use Rattle.authorizations.proofs.MeetLemmas.{from_list-push}

-- these fingerprints stand before those
abbrev pub behind : List Fingerprint → Result (List Fingerprint) AuthFail → Result (List Fingerprint) AuthFail
behind done (Ok keys) = Ok (done ++ keys)
behind done (Err fault) = Err fault

-- the first entries, as many as the index says, have been read
pub record ReadSoFar (entries : List Tree) (index : ℕ) (keys : Keys) : Type 0 where
  pub done : List Fingerprint
  pub set : keys ≡ from_list done
  pub rest : fingerprints_from 0 entries ≡ behind done (fingerprints_from index (drop index entries))

pub gives_fault : {A : Type 0} (fault : AuthFail) (reading : Result A AuthFail) → reading ≡ Err fault → Gives (Err fault) reading
gives_fault (fail.Sexp e) reading is = is
gives_fault fail.Shape reading is = is
gives_fault (fail.Version n) reading is = is
gives_fault (fail.Fingerprint n) reading is = is
gives_fault fail.Memory reading is = tt

pub map_at : (ds : List Datum) (index : ℕ) (datum : Datum) → index < length ds → datum ≡ get_or ds index datum → tree datum ≡ get_or (map tree ds) index (tree datum)
map_at ds index datum h is = ap tree is ∙ sym (get_or-map tree ds index datum (tree datum) h)

next_entry : (entries : List Tree) (index : ℕ) (entry : Tree) → index < length entries → entry ≡ get_or entries index entry → fingerprints_from index (drop index entries) ≡ onward (key_of index entry) (λ key. onward (fingerprints_from (index + 1) (drop (index + 1) entries)) (λ keys. Ok (key ∷ keys)))
next_entry entries index entry h is =
    ap (fingerprints_from index) (drop_more entries index entry h)
    ∙ rw (sym is) refl

after_key : (index : ℕ) (entry : Tree) (read : Result Fingerprint AuthFail) (entries : List Tree) → key_of index entry ≡ read → onward (key_of index entry) (λ key. onward (fingerprints_from (index + 1) (drop (index + 1) entries)) (λ keys. Ok (key ∷ keys))) ≡ onward read (λ key. onward (fingerprints_from (index + 1) (drop (index + 1) entries)) (λ keys. Ok (key ∷ keys)))
after_key index entry read entries is = ap (λ (r : Result Fingerprint AuthFail). onward r (λ key. onward (fingerprints_from (index + 1) (drop (index + 1) entries)) (λ keys. Ok (key ∷ keys)))) is

next_found : (entries : List Tree) (index : ℕ) (entry : Tree) (key : Fingerprint) → index < length entries → entry ≡ get_or entries index entry → key_of index entry ≡ Ok key → fingerprints_from index (drop index entries) ≡ onward (fingerprints_from (index + 1) (drop (index + 1) entries)) (λ keys. Ok (key ∷ keys))
next_found entries index entry key h is found = next_entry entries index entry h is ∙ after_key index entry (Ok key) entries found

behind_one : (done : List Fingerprint) (key : Fingerprint) (rest : Result (List Fingerprint) AuthFail) → behind done (onward rest (λ keys. Ok (key ∷ keys))) ≡ behind (done ++ key ∷ []) rest
behind_one done key (Ok keys) = ap (λ (l : List Fingerprint). Ok l) (sym (append_assoc done (key ∷ []) keys))
behind_one done key (Err fault) = refl

pub read_more : (entries : List Tree) (index : ℕ) (entry : Tree) (key : Fingerprint) (keys new : Keys) → index < length entries → entry ≡ get_or entries index entry → key_of index entry ≡ Ok key → new ≡ insert keys key → ReadSoFar entries index keys → ReadSoFar entries (index + 1) new
read_more entries index entry key keys new h is found put so = record {
  done = so.done ++ key ∷ [];
  set = put ∙ ap (λ (s : Keys). insert s key) so.set ∙ sym (from_list-push so.done key);
  rest = so.rest ∙ ap (behind so.done) (next_found entries index entry key h is found) ∙ behind_one so.done key _;
}

pub read_fault : (entries : List Tree) (index : ℕ) (entry : Tree) (fault : AuthFail) (keys : Keys) → index < length entries → entry ≡ get_or entries index entry → key_of index entry ≡ Err fault → ReadSoFar entries index keys → GivesKeys (Err fault) entries
read_fault entries index entry fault keys h is found so =
    let first : fingerprints_from 0 entries ≡ Err fault = so.rest ∙ ap (behind so.done) (next_entry entries index entry h is ∙ after_key index entry (Err fault) entries found) in
    gives_fault fault _ (ap (λ (r : Result (List Fingerprint) AuthFail). onward r (λ found. Ok (from_list {R = key_cmp} found))) first)

-- the datum and its entries are found
whole : (bytes : List ℕ) (datum : Tree) (entries : List Tree) → datum_in (first_datum bytes) ≡ Ok datum → entries_of datum ≡ Ok entries → keys_of bytes ≡ onward (fingerprints_from 0 entries) (λ keys. Ok (from_list keys))
unfolding keys_of
whole bytes datum entries is form = rw (is, form)

no_datum : (bytes : List ℕ) (fault : AuthFail) → datum_in (first_datum bytes) ≡ Err fault → keys_of bytes ≡ Err fault
unfolding keys_of
no_datum bytes fault is = rw is

no_entries : (bytes : List ℕ) (datum : Tree) (fault : AuthFail) → datum_in (first_datum bytes) ≡ Ok datum → entries_of datum ≡ Err fault → keys_of bytes ≡ Err fault
unfolding keys_of
no_entries bytes datum fault is form = rw (is, form)

pub gives_no_datum : (bytes : List ℕ) (fault : AuthFail) → GivesDatum (Err fault) bytes → Gives (Err fault) (keys_of bytes)
gives_no_datum bytes (fail.Sexp e) is = no_datum bytes (fail.Sexp e) is
gives_no_datum bytes fail.Shape is = no_datum bytes fail.Shape is
gives_no_datum bytes (fail.Version n) is = no_datum bytes (fail.Version n) is
gives_no_datum bytes (fail.Fingerprint n) is = no_datum bytes (fail.Fingerprint n) is
gives_no_datum bytes fail.Memory is = tt

pub gives_no_entries : (bytes : List ℕ) (datum : Datum) (fault : AuthFail) → GivesDatum (Ok datum) bytes → GivesEntries (Err fault) datum → Gives (Err fault) (keys_of bytes)
gives_no_entries bytes datum fault is form = gives_fault fault (keys_of bytes) (no_entries bytes (tree datum) fault is form)

pub gives_keys : (bytes : List ℕ) (datum : Datum) (entries : Bor (List Datum)) (result : Result Keys AuthFail) → GivesDatum (Ok datum) bytes → GivesEntries (Ok entries) datum → GivesKeys result (map tree entries.now) → Gives result (keys_of bytes)
gives_keys bytes datum entries result is form keys = subst (Gives result) (sym (whole bytes (tree datum) (map tree entries.now) is form)) keys
