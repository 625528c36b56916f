-- The reading of armour, line by line: the contents, or the first block at fault.
use Rattle.std.specs.Prelude.{◌==◌, ◌-◌, ℕ, zero, suc, if◌then◌else◌, codes, Option, Some, None, Result, Ok, Err, List, [], ◌∷◌, ◌++◌, length}
use Rattle.keyring_branch.specs.Lines.{lines_of}
use Rattle.keyring_branch.specs.Armour.{is_begin, is_end, begins_with, ends_body, content_of, is_binary}
use Rattle.keyring_branch.specs.Fail.{onward}
use Rattle.keyring_branch.specs.declared.key_fail.KeyFail.{KeyFail}
use Rattle.keyring_branch.specs.declared.key_fail.KeyFail.TheVariants as fail

-- ---- a block

-- the lines behind the headers and the empty line that ends them
unfoldable pub after_headers : List (List ℕ) → Option (List (List ℕ))
after_headers [] = None
after_headers (line ∷ lines) = if length line == 0 then Some lines else after_headers lines

-- the body's lines joined, and the lines behind them
unfoldable pub body_of : List (List ℕ) → List ℕ × List (List ℕ)
body_of [] = ([], [])
body_of (line ∷ lines) = if ends_body line then ([], line ∷ lines) else (line ++ (body_of lines).0, (body_of lines).1)

-- the lines behind a checksum's line, if one stands there
unfoldable pub after_checksum : List (List ℕ) → List (List ℕ)
after_checksum [] = []
after_checksum (line ∷ lines) = if begins_with (codes "=") line then lines else line ∷ lines

-- the lines behind the END line, which has to stand there
unfoldable pub after_end : List (List ℕ) → Option (List (List ℕ))
after_end [] = None
after_end (line ∷ lines) = if is_end line then Some lines else None

-- The content of the block that stands behind its BEGIN line, and the lines that follow it; none where no block stands there.
abbrev pub with_content : List (List ℕ) → Option (List ℕ) → Option (List ℕ × List (List ℕ))
with_content rest None = None
with_content rest (Some content) = Some (content, rest)

abbrev pub with_end : List ℕ → Option (List (List ℕ)) → Option (List ℕ × List (List ℕ))
with_end body None = None
with_end body (Some rest) = with_content rest (content_of body)

abbrev pub with_body : List ℕ × List (List ℕ) → Option (List ℕ × List (List ℕ))
with_body read = with_end read.0 (after_end (after_checksum read.1))

abbrev pub with_headers : Option (List (List ℕ)) → Option (List ℕ × List (List ℕ))
with_headers None = None
with_headers (Some behind) = with_body (body_of behind)

unfoldable pub block_of : List (List ℕ) → Option (List ℕ × List (List ℕ))
block_of lines = with_headers (after_headers lines)

-- ---- a text

-- a block's content, with what the lines behind it give; or the fault of the block that begins in the line of this number
abbrev pub with_block : ℕ → Option (List ℕ × List (List ℕ)) → (List (List ℕ) → Result (List ℕ) KeyFail) → Result (List ℕ) KeyFail
with_block number None next = Err (fail.Armor number)
with_block number (Some block) next = onward (next block.1) (λ contents. Ok (block.0 ++ contents))

-- The contents of the blocks among the lines that are left of so many, joined; other lines are passed over. There are no
-- more steps than lines.
unfoldable pub contents_from : ℕ → ℕ → List (List ℕ) → Result (List ℕ) KeyFail
contents_from count total [] = Ok []
contents_from zero total (line ∷ lines) = Ok []
contents_from (suc count) total (line ∷ lines) = if is_begin line
    then with_block (total - length lines) (block_of lines) (contents_from count total)
    else contents_from count total lines

-- the joined contents of a text's blocks, or the first block at fault
unfoldable pub contents_of : List ℕ → Result (List ℕ) KeyFail
contents_of text = contents_from (length (lines_of text)) (length (lines_of text)) (lines_of text)

-- what a file stands for: itself, or the contents of its text
unfoldable pub dearmored : List ℕ → Result (List ℕ) KeyFail
dearmored file = if is_binary file then Ok file else contents_of file
