-- The objects of a commit in a script, by Git's object formats.
use Rattle.std.specs.Prelude.{ℕ, Option, Some, None, List, [], ◌∷◌, ◌++◌, codes}
use Rattle.std.specs.List.{flat_map}
use Rattle.hex.specs.Hex.{encode_lower, encode_upper}
use Rattle.child_ports.specs.Framed.{object_frame}
use Rattle.object_frames.specs.Object.{type_word, object_id}
use Rattle.object_frames.specs.declared.kind.Kind.{Kind}
use Rattle.object_frames.specs.declared.kind.Kind.TheVariants as kind
use Rattle.commit_objects.specs.Commit.{Parts, heading, spelling}
use Rattle.commit_objects.specs.Lines.{line, continued}
use Rattle.commit_objects.specs.Reading.{lines_of}
use Rattle.tree_entries.specs.Tree.{TreeEntry, tree_bytes}
use Rattle.stand_world.specs.Toy.{signature_of}
use Rattle.stand_world.specs.declared.commit.Commit.{Commit}
use Rattle.stand_world.specs.declared.commit.SigningKey.{SigningKey}
use Rattle.stand_world.specs.declared.commit.Signed.{Signed}
use Rattle.stand_world.specs.declared.files.Files.{Files}
use Rattle.stand_world.specs.declared.files.Listed.{Listed}
use Rattle.stand_world.specs.declared.framed.Framed.{Framed}

-- the object of this kind and content: its id, and git's answer with it
unfoldable pub framed : Kind → List ℕ → Framed
framed kind content = record {
  id = object_id kind content;
  frame = object_frame (encode_lower (object_id kind content)) (type_word kind) content;
}

-- ---- files

-- `("FINGERPRINT" (name "NAME"))`
abbrev pub entry_text : Listed → List ℕ
entry_text key = codes "(\"" ++ encode_upper key.print.0 ++ codes "\" (name \"" ++ key.name ++ codes "\"))"

-- with one space between each two
abbrev pub entries_text : List Listed → List ℕ
entries_text [] = []
entries_text (key ∷ keys) = entry_text key ++ flat_map (λ other. 32 ∷ entry_text other) keys

-- the file that authorises these keys
unfoldable pub authorizations_text : List Listed → List ℕ
authorizations_text keys = codes "(authorizations (version 0) (" ++ entries_text keys ++ codes "))\n"

abbrev pub authorizations_of : Option (List Listed) → Option Framed
authorizations_of None = None
authorizations_of (Some keys) = Some (framed kind.Blob (authorizations_text keys))

abbrev pub channel_of : Option (List ℕ) → Option Framed
channel_of None = None
channel_of (Some text) = Some (framed kind.Blob (line text))

-- ---- trees

-- the entry of a plain file
abbrev pub file_entry : List ℕ → List ℕ → TreeEntry
file_entry name id = record { digits = codes "100644"; name = name; id = id }

abbrev pub entry_if : List ℕ → Option Framed → List ℕ
entry_if name None = []
entry_if name (Some file) = tree_bytes (file_entry name file.id ∷ [])

-- the root tree: the file of authorisations and that of the channel, each where it is there
abbrev pub root_content : Option Framed → Option Framed → List ℕ
root_content authorizations channel = entry_if (codes ".guix-authorizations") authorizations ++ entry_if (codes ".guix-channel") channel

-- the files and the root tree of a commit that authorises these keys, under this text of a channel
abbrev pub with_root : Option Framed → Option Framed → Files
with_root authorizations channel = record { authorizations = authorizations; channel = channel; root = framed kind.Tree (root_content authorizations channel) }

abbrev pub files_of : Option (List Listed) → Option (List ℕ) → Files
files_of keys channel = with_root (authorizations_of keys) (channel_of channel)

-- ---- commits

abbrev pub person : List ℕ
person = codes "Stand In <stand@example.org> 0 +0000"

-- what the commit of this name says, with that tree and those parents
abbrev pub parts_of : List ℕ → List ℕ → List (List ℕ) → Parts
parts_of name tree parents = record { tree = tree; parents = parents; author = person; committer = person; headers = []; message = line name }

-- the lines before the further headers, and what is signed
unfoldable pub heading_of : List ℕ → List (List ℕ) → List ℕ
heading_of tree parents = heading (parts_of [] tree parents)

unfoldable pub payload_of : List ℕ → List ℕ → List (List ℕ) → List ℕ
payload_of name tree parents = spelling (parts_of name tree parents)

-- the header of a signature: each of its lines behind a space
abbrev pub signature_header : List ℕ → List ℕ
signature_header signature = codes "gpgsig" ++ flat_map continued (lines_of signature).whole

-- the content with a signature: its header stands behind the other headers
unfoldable pub signed_content : List ℕ → List ℕ → List (List ℕ) → List ℕ → List ℕ
signed_content name tree parents signature = heading_of tree parents ++ signature_header signature ++ 10 ∷ line name

-- a key signs a payload
abbrev pub signed_by : SigningKey → List ℕ → Signed
signed_by signer payload = record { signature = signature_of signer.print signer.hash payload; payload = payload }

abbrev pub commit_signed : List ℕ → Files → List (List ℕ) → Signed → Commit
commit_signed name files parents signed = record {
  name = name;
  files = files;
  object = framed kind.Commit (signed_content name files.root.id parents signed.signature);
  signed = Some signed;
}

abbrev pub commit_unsigned : List ℕ → Files → List ℕ → Commit
commit_unsigned name files payload = record { name = name; files = files; object = framed kind.Commit payload; signed = None }

-- the commit of this name with these files and parents, which this key signs, if any
abbrev pub commit_of : List ℕ → Files → List (List ℕ) → Option SigningKey → Commit
commit_of name files parents None = commit_unsigned name files (payload_of name files.root.id parents)
commit_of name files parents (Some signer) = commit_signed name files parents (signed_by signer (payload_of name files.root.id parents))
