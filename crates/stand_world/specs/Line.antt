-- The lines of a script.
use Rattle.std.specs.Prelude.{◌==◌, ℕ, Bool, if◌then◌else◌, Option, Some, None, List, [], ◌∷◌, length, drop, codes, nat_eq, bytes_eq, option_map}
use Rattle.std.specs.List.{list_all, starts_with}
use Rattle.byte_cuts.specs.Cuts.{parts_at}
use Rattle.stand_world.specs.Key.{key_of}
use Rattle.stand_world.specs.Names.{is_name, hash_in}
use Rattle.stand_world.specs.declared.line.Signer.{Signer}
use Rattle.stand_world.specs.declared.line.Statement.{Statement}
use Rattle.stand_world.specs.declared.line.Statement.TheVariants.{Nothing, Key, Meta, Commit, Branch}

-- ---- words

-- exactly two parts, and exactly four
abbrev pub two_of : List (List ℕ) → Option (List ℕ × List ℕ)
two_of (first ∷ second ∷ []) = Some (first, second)
two_of _ = None

abbrev pub four_of : List (List ℕ) → Option ((List ℕ × List ℕ) × (List ℕ × List ℕ))
four_of (first ∷ second ∷ more) = option_map (λ last. ((first, second), last)) (two_of more)
four_of _ = None

-- names, joined by commas
abbrev pub all_names : List (List ℕ) → Option (List (List ℕ))
all_names names = if list_all is_name names then Some names else None

unfoldable pub names_in : List ℕ → Option (List (List ℕ))
names_in text = all_names (parts_at 44 text)

-- whether a word stands for nothing
abbrev pub is_dash : List ℕ → Bool
is_dash word = bytes_eq word (codes "-")

-- `-`, or names
abbrev pub list_in : List ℕ → Option (Option (List (List ℕ)))
list_in word = if is_dash word then Some None else option_map (λ names. Some names) (names_in word)

-- ---- signers

-- a number other than that of a key alone
abbrev pub other_hash : Option ℕ → Option ℕ
other_hash None = None
other_hash (Some number) = if number == 8 then None else Some number

abbrev pub signer_with : List ℕ → Option ℕ → Option (Option Signer)
signer_with key None = None
signer_with key (Some hash) = if is_name key then Some (Some (record { key = key; hash = hash })) else None

-- a key and, behind a slash, another hash number; or a key alone
abbrev pub signer_by : List ℕ → Option (List ℕ × List ℕ) → Option (Option Signer)
signer_by word None = signer_with word (Some 8)
signer_by word (Some parts) = signer_with parts.0 (other_hash (hash_in parts.1))

-- `-`, or a signer
abbrev pub signer_in : List ℕ → Option (Option Signer)
signer_in word = if is_dash word then Some None else signer_by word (two_of (parts_at 47 word))

-- ---- statements

-- `NAME`
abbrev pub key_statement : List ℕ → Option Statement
key_statement text = if is_name text then Some (Key (key_of text)) else None

-- a text of a byte or more, or `-`
abbrev pub meta_statement : List ℕ → Option Statement
meta_statement text = if length text == 0 then None else (if is_dash text then Some (Meta None) else Some (Meta (Some text)))

-- `NAME PARENTS SIGNER FILE`
abbrev pub commit_line : List ℕ → Option (Option (List (List ℕ))) → Option (Option Signer) → Option (Option (List (List ℕ))) → Option Statement
commit_line name None signer file = None
commit_line name (Some parents) None file = None
commit_line name (Some parents) (Some signer) None = None
commit_line name (Some parents) (Some signer) (Some file) =
    if is_name name then Some (Commit (record { name = name; parents = parents; signer = signer; file = file })) else None

abbrev pub commit_words : Option ((List ℕ × List ℕ) × (List ℕ × List ℕ)) → Option Statement
commit_words None = None
commit_words (Some words) = commit_line words.0.0 (list_in words.0.1) (signer_in words.1.0) (list_in words.1.1)

abbrev pub commit_statement : List ℕ → Option Statement
commit_statement text = commit_words (four_of (parts_at 32 text))

-- `NAME COMMIT`
abbrev pub branch_words : Option (List ℕ × List ℕ) → Option Statement
branch_words None = None
branch_words (Some words) = if is_name words.0 then Some (Branch (record { name = words.0; commit = words.1 })) else None

abbrev pub branch_statement : List ℕ → Option Statement
branch_statement text = branch_words (two_of (parts_at 32 text))

-- ---- a line

-- what stands behind a word
abbrev pub behind_word : List ℕ → List ℕ → Option (List ℕ)
behind_word word text = if starts_with nat_eq text word then Some (drop (length word) text) else None

-- this form for what stands behind the word, else another
abbrev pub or_else : Option (List ℕ) → (List ℕ → Option Statement) → Option Statement → Option Statement
or_else None form other = other
or_else (Some text) form other = form text

-- what a line says, if it is of the form
unfoldable pub statement_of : List ℕ → Option Statement
statement_of text = if length text == 0 then Some Nothing else
    or_else (behind_word (codes "key ") text) key_statement (
    or_else (behind_word (codes "meta ") text) meta_statement (
    or_else (behind_word (codes "commit ") text) commit_statement (
    or_else (behind_word (codes "branch ") text) branch_statement None)))
