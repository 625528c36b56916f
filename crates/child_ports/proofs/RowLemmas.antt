-- Rows that answer names.
use Rattle.std.proofs.Common.{◌≡◌, ℕ, ◌<◌, true, false, cond, List, ◌∷◌, ◌+◌, ◌&&◌, drop, get_or, length, sym, ap, ◌∙◌, bytes_eq, Some}
use Rattle.std.specs.Prelude.{slice_get}
use Rattle.std.proofs.lemmas.List.{at_drop_more}
use Rattle.std.proofs.lemmas.Option.{slice_get-get_or}
use Rattle.child_ports.specs.declared.git.GitRow.{GitRow}
use Rattle.child_ports.specs.declared.sig.SigRow.{SigRow}
use Rattle.child_ports.specs.Git.{answer}
use Rattle.child_ports.specs.Sig.{verdict}
use Rattle.child_ports.proofs.PlaceLemmas.{and_no}
use Rattle.child_ports.specs.MemGit.{row_answer}

-- the row at i is for the name, and all is what the rows from i on answer
pub row_found : (rows : List GitRow) (dir name : List ℕ) (i : ℕ) (row : GitRow) (all : List ℕ) → i < length rows → row ≡ get_or rows i row → bytes_eq row.dir dir ≡ true → bytes_eq row.name name ≡ true
    → answer (drop i rows) dir name ≡ all → row_answer (slice_get rows i) ≡ all
row_found rows dir name i row all lt is same_dir same_name rest =
    let here : slice_get rows i ≡ Some row = slice_get-get_or rows i row lt ∙ ap (λ r. Some r) (sym is) in
    let step = at_drop_more (λ rs. answer rs dir name) rows i row lt in
    let test : (bytes_eq row.dir dir && bytes_eq row.name name) ≡ true = ap (λ b. b && bytes_eq row.name name) same_dir ∙ same_name in
    let next : answer (row ∷ drop (i + 1) rows) dir name ≡ row.answer = ap (λ b. cond b row.answer (answer (drop (i + 1) rows) dir name)) test in
    ap row_answer here ∙ sym next ∙ ap (λ r. answer (r ∷ drop (i + 1) rows) dir name) is ∙ sym step ∙ rest

-- a row for another name doesn't answer
pub passed_over : (row : GitRow) (rest : List GitRow) (dir name : List ℕ) → bytes_eq row.name name ≡ false → answer (row ∷ rest) dir name ≡ answer rest dir name
passed_over row rest dir name ne = ap (λ b. cond b row.answer (answer rest dir name)) (and_no (bytes_eq row.dir dir) (bytes_eq row.name name) ne)

-- a row for another payload says nothing
pub not_asked : (row : SigRow) (rest : List SigRow) (keyring signature payload : List ℕ) → bytes_eq row.payload payload ≡ false → verdict (row ∷ rest) keyring signature payload ≡ verdict rest keyring signature payload
not_asked row rest keyring signature payload ne =
    ap (λ b. cond b row.answer (verdict rest keyring signature payload)) (and_no (bytes_eq row.keyring keyring && bytes_eq row.signature signature) (bytes_eq row.payload payload) ne)
