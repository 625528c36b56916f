-- A file in the root tree of a commit.
use Rattle.std.specs.Prelude.{ℕ, List, Option, Some, None, option_and_then, Result, Ok}
use Rattle.std.specs.Result.{result_map_both}
use Rattle.child_ports.specs.declared.git.GitRow.{GitRow}
use Rattle.object_frames.specs.declared.kind.Kind.TheVariants as kind
use Rattle.tree_entries.specs.Reading.{find_of}
use Rattle.auth_rules.specs.declared.cause.What.{What}
use Rattle.auth_rules.specs.declared.cause.What.TheVariants as what
use Rattle.auth_rules.specs.declared.read_fail.ReadFail.{ReadFail}
use Rattle.auth_rules.specs.declared.read_fail.ReadFail.TheVariants as read
use Rattle.auth_rules.specs.World.{Id, onward, commit_at, content_at, blob_of, tree_limit, file_limit}
use Rattle.auth_engine.specs.declared.engine_fail.EngineFail.{EngineFail}
use Rattle.auth_engine.specs.declared.engine_fail.EngineFail.TheVariants.{Object, GitFault, Memory}

-- what is read of an object, or that it can't be read
abbrev pub read_as : {T : Type 0} → Id → Result T What → Result T EngineFail
read_as id found = result_map_both (λ x. x) (Object id) found

-- the blob of the file of a name in the content of a tree
abbrev pub blob_in : List ℕ → List ℕ → Result (Option Id) What
blob_in name content = result_map_both (λ entry. option_and_then blob_of entry) what.Tree (find_of content name)

-- the same in a tree
abbrev pub blob_named : List GitRow → List ℕ → List ℕ → Id → Result (Option Id) What
blob_named rows dir name tree = onward (content_at rows dir kind.Tree tree_limit tree) (blob_in name)

-- the content of a blob, if there is one
abbrev pub content_of : List GitRow → List ℕ → Option Id → Result (Option (List ℕ)) EngineFail
content_of rows dir None = Ok None
content_of rows dir (Some blob) = onward (read_as blob (content_at rows dir kind.Blob file_limit blob)) (λ content. Ok (Some content))

-- The content of the file of a name in the root tree of a commit, or none; or the first object that can't be read.
abbrev pub file_of : List GitRow → List ℕ → Id → List ℕ → Result (Option (List ℕ)) EngineFail
file_of rows dir id name =
    onward (read_as id (commit_at rows dir id)) (λ commit.
    onward (read_as commit.tree (blob_named rows dir name commit.tree)) (λ blob.
    content_of rows dir blob))

-- what follows from it that an object isn't read
abbrev pub unread : Id → ReadFail → EngineFail
unread id (read.Unreadable what) = Object id what
unread id read.GitFault = GitFault
unread id read.Memory = Memory
