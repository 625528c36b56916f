-- What the fields of channels and the properties of metadata are written as.
use Rattle.std.specs.Prelude.{ℕ, Bool, if◌then◌else◌, codes, Option, Some, None, List}
use Rattle.name_limits.specs.Limits.{is_reference, is_path}
use Rattle.child_ports.specs.Fingerprint.{fingerprint_in}
use Rattle.child_ports.specs.declared.fingerprint.Fingerprint.{Fingerprint}
use Rattle.object_frames.specs.Id.{id_in}
use Rattle.sexp_reader.specs.Tree.{Tree, symbol_in, text_in}
use Rattle.channel_file.specs.Elements.{◌>>=◌, behind, first_behind, only}
use Rattle.channel_file.specs.Names.{is_channel_name, is_url}

-- the bytes, if they are such
abbrev pub if_such : (List ℕ → Bool) → List ℕ → Option (List ℕ)
if_such is_such bytes = if is_such bytes then Some bytes else None

-- `(quote N)`, where N is a symbol that can name a channel
abbrev pub quoted_name : Tree → Option (List ℕ)
quoted_name datum = do
  quoted ← behind (codes "quote") datum
  name ← only quoted
  symbol ← symbol_in name
  if_such is_channel_name symbol

-- a text that is a channel's address
abbrev pub url_in : Tree → Option (List ℕ)
url_in datum = do
  text ← text_in datum
  if_such is_url text

-- a text that can name a branch or another reference of git
abbrev pub reference_in : Tree → Option (List ℕ)
reference_in datum = do
  text ← text_in datum
  if_such is_reference text

-- a text that is not empty, with no byte below 32 and none 127
abbrev pub path_in : Tree → Option (List ℕ)
path_in datum = do
  text ← text_in datum
  if_such is_path text

-- a text of 40 hexadecimal digits
abbrev pub commit_in : Tree → Option (List ℕ)
commit_in datum = do
  text ← text_in datum
  id_in text

-- a text that is a fingerprint
abbrev pub signer_in : Tree → Option Fingerprint
signer_in datum = do
  text ← text_in datum
  fingerprint_in text

-- what the first field of this name has, where it has one datum of the form
abbrev pub value : {A : Type 0} → (Tree → Option A) → List ℕ → List Tree → Option A
value form word fields = do
  given ← first_behind word fields
  datum ← only given
  form datum
