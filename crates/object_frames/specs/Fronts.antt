-- How far bytes go along with a header line.
use Rattle.std.specs.Prelude.{ℕ, ◌+◌, ◌==◌, ◌&&◌, max, List, length, take, drop, codes, nat_eq, nat_le, nat_lt, slice_index, Bool, if◌then◌else◌}
use Rattle.std.specs.List.{prefix_len, common_prefix_len}
use Rattle.child_ports.specs.Framed.{is_lower_hex_digit}
use Rattle.child_ports.specs.Git.{missing, ambiguous}

-- how many bytes two texts have in common at their front
abbrev pub common : List ℕ → List ℕ → ℕ
common text other = common_prefix_len nat_eq text other

abbrev pub is_digit : ℕ → Bool
is_digit b = nat_le 48 b && nat_le b 57

-- past so many bytes of a part: it ends in the part, or the part is whole and goes on
abbrev pub go_on : ℕ → ℕ → ℕ → ℕ
go_on front whole more = if nat_lt front whole then front else front + more

-- a size is one 0, or has at most 18 digits
unfoldable pub size_digits : List ℕ → ℕ
size_digits text = prefix_len is_digit (take (if slice_index text 0 == 48 then 1 else 18) text)

-- with a line feed after so many digits, if there is a digit
abbrev pub with_end : List ℕ → ℕ → ℕ
with_end text digits = if nat_lt 0 digits && (slice_index text digits == 10) then digits + 1 else digits

-- a size and a line feed
unfoldable pub size_front : List ℕ → ℕ
size_front text = with_end text (size_digits text)

-- a word, a size and a line feed
unfoldable pub word_front : List ℕ → List ℕ → ℕ
word_front text word = go_on (common text word) (length word) (size_front (drop (common text word) text))

-- what follows an id
unfoldable pub kind_front : List ℕ → ℕ
kind_front text = max (word_front text (codes " commit ")) (max (word_front text (codes " tree ")) (max (word_front text (codes " blob ")) (word_front text (codes " tag "))))

-- the header line of an object: 40 lower-case digits, and what follows them
unfoldable pub object_front : List ℕ → ℕ
object_front text = go_on (prefix_len is_lower_hex_digit (take 40 text)) 40 (kind_front (drop 40 text))

-- the greatest of the fronts that an answer has in common with a header line for the name
unfoldable pub front_of : List ℕ → List ℕ → ℕ
front_of name text = max (common text (missing name)) (max (common text (ambiguous name)) (object_front text))
