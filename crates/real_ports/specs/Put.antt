-- What was put into a file or a pipe, as far as it is told what that holds.
use Rattle.std.specs.Prelude.{ℕ, List, ◌∷◌, ◌++◌, [], Option, Some, None, codes}
use Rattle.std.specs.Io.KnownBytes.{Appends}

-- these bytes were put in last. What was put in before isn't said.
abbrev pub EndsIn : {W : Type 0} → (W → Option (List ℕ)) → W → List ℕ → Type 0
EndsIn {W} contents now bytes = (before : W) × Appends (contents before) (contents now) bytes

-- the pipe is there before and behind, and these bytes, and no others, went through it between
abbrev pub PipeTakes : {W : Type 0} → (W → Option (List ℕ)) → Option W → Option W → List ℕ → Type 0
PipeTakes contents (Some old) (Some new) bytes = Appends (contents old) (contents new) bytes
PipeTakes contents old new bytes = ⊥

-- the pipe is there, and these bytes went through it last
abbrev pub PipeEndsIn : {W : Type 0} → (W → Option (List ℕ)) → Option W → List ℕ → Type 0
PipeEndsIn contents None bytes = ⊥
PipeEndsIn contents (Some pipe) bytes = EndsIn contents pipe bytes

-- a name, as `git cat-file --batch` reads it: one line (git-cat-file(1), "BATCH OUTPUT")
abbrev pub name_line : List ℕ → List ℕ
name_line name = name ++ 10 ∷ []

-- a file of this name in a folder
abbrev pub file_in : List ℕ → List ℕ → List ℕ
file_in folder name = folder ++ codes "/" ++ name
