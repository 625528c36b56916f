-- Objects and their ids, by Git's object format (gitglossary(7), "object name"; FIPS 180-4 for SHA-1).
use Rattle.std.specs.Prelude.{ℕ, List, ◌∷◌, ◌++◌, length, codes, decimal}
use Rattle.sha1.specs.Sha1.{sha1}
use Rattle.object_frames.specs.declared.kind.Kind.{Kind}
use Rattle.object_frames.specs.declared.kind.Kind.TheVariants.{Commit, Tree, Blob, Tag}

abbrev pub type_word : Kind → List ℕ
type_word Commit = codes "commit"
type_word Tree = codes "tree"
type_word Blob = codes "blob"
type_word Tag = codes "tag"

-- what an id is the digest of: TYPE SP SIZE NUL CONTENT
abbrev pub object_bytes : Kind → List ℕ → List ℕ
object_bytes kind content = type_word kind ++ 32 ∷ decimal (length content) ++ 0 ∷ content

-- the id of an object, as 20 bytes
abbrev pub object_id : Kind → List ℕ → List ℕ
object_id kind content = sha1 (object_bytes kind content)
