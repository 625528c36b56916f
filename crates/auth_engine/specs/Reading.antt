-- Commits under names.
use Rattle.std.specs.Prelude.{ℕ, List, [], ◌∷◌, Result, Ok, Err}
use Rattle.child_ports.specs.declared.git.GitRow.{GitRow}
use Rattle.child_ports.specs.Git.{answer}
use Rattle.object_frames.specs.declared.kind.Kind.{Kind}
use Rattle.object_frames.specs.declared.kind.Kind.TheVariants as kind
use Rattle.object_frames.specs.declared.object.Object.{Object}
use Rattle.object_frames.specs.declared.object.Fetched.{Fetched}
use Rattle.object_frames.specs.declared.object.Fetched.TheVariants as fetched
use Rattle.object_frames.specs.declared.frame_fail.FrameFail.{FrameFail}
use Rattle.object_frames.specs.Fetched.{fetched_of}
use Rattle.auth_rules.specs.declared.cause.What.{What}
use Rattle.auth_rules.specs.declared.cause.What.TheVariants.{Missing, Frame, Kind as OfKind}

-- the object, if it is a commit
abbrev pub commit_by_kind : Kind → Object → Result Object What
commit_by_kind kind.Commit object = Ok object
commit_by_kind kind.Tree object = Err (OfKind kind.Tree)
commit_by_kind kind.Blob object = Err (OfKind kind.Blob)
commit_by_kind kind.Tag object = Err (OfKind kind.Tag)

abbrev pub commit_found : Result Fetched FrameFail → Result Object What
commit_found (Ok fetched.Missing) = Err Missing
commit_found (Ok (fetched.Found object)) = commit_by_kind object.kind object
commit_found (Err fail) = Err (Frame fail)

-- the commit that a name stands for in a directory: a commit object has at most 1,048,576 bytes
abbrev pub commit_named : List GitRow → List ℕ → List ℕ → Result Object What
commit_named rows dir name = commit_found (fetched_of 1048576 name (answer rows dir name))

-- a commit that is missing leaves the choice to the others
abbrev pub unless_missing : Result Object What → Result Object What → Result Object What
unless_missing (Err Missing) others = others
unless_missing first others = first

-- the commit that names stand for: the first that isn't missing has to be one
abbrev pub first_named : List GitRow → List ℕ → List (List ℕ) → Result Object What
first_named rows dir [] = Err Missing
first_named rows dir (name ∷ names) = unless_missing (commit_named rows dir name) (first_named rows dir names)
