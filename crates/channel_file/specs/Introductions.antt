-- How a channel's introduction is written, as a call in a list of channels and as data in metadata.
use Rattle.std.specs.Prelude.{ℕ, codes, Option, Some, None, List, [], ◌∷◌}
use Rattle.sexp_reader.specs.Tree.{Tree}
use Rattle.channel_file.specs.Elements.{◌>>=◌, behind, only}
use Rattle.channel_file.specs.Fields.{commit_in, signer_in}
use Rattle.channel_file.specs.declared.channel.Introduction.{Introduction}

-- the one datum behind this word
abbrev pub given_in : List ℕ → Tree → Option Tree
given_in word element = do
  given ← behind word element
  only given

-- `(openpgp-fingerprint "FPR")` behind the commit
abbrev pub made_of : List Tree → Option Introduction
made_of (first ∷ second ∷ []) = do
  commit ← commit_in first
  spelled ← given_in (codes "openpgp-fingerprint") second
  signer ← signer_in spelled
  Some (record { commit = commit; signer = signer })
made_of _ = None

-- `(make-channel-introduction "COMMIT" (openpgp-fingerprint "FPR"))`
abbrev pub made_introduction : Tree → Option Introduction
made_introduction datum = do
  arguments ← behind (codes "make-channel-introduction") datum
  made_of arguments

-- `(commit "COMMIT") (signer "FPR") ..`
abbrev pub stated_in : List Tree → Option Introduction
stated_in (first ∷ second ∷ ignored) = do
  written ← given_in (codes "commit") first
  commit ← commit_in written
  spelled ← given_in (codes "signer") second
  signer ← signer_in spelled
  Some (record { commit = commit; signer = signer })
stated_in _ = None
