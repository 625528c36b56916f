-- The channels that metadata depends on.
use Rattle.std.specs.Prelude.{ℕ, ◌==◌, if◌then◌else◌, codes, unwrap_or, Option, Some, None, Result, Ok, Err, List, [], ◌∷◌}
use Rattle.std.specs.Option.{ok_or, option_and_then}
use Rattle.sexp_reader.specs.Tree.{Tree, symbol_in}
use Rattle.channel_file.specs.Elements.{behind, first_behind, only, version_in}
use Rattle.channel_file.specs.Fields.{url_in, reference_in, commit_in}
use Rattle.channel_file.specs.Introductions.{stated_in}
use Rattle.channel_file.specs.Names.{is_channel_name}
use Rattle.channel_file.specs.Reading.{◌>>=◌}
use Rattle.channel_file.specs.declared.channel.Channel.{Channel}
use Rattle.channel_file.specs.declared.channel.Introduction.{Introduction}
use Rattle.channel_file.specs.declared.fail.ChannelFail.{ChannelFail}
use Rattle.channel_file.specs.declared.fail.ChannelFail.TheVariants as fail
use Rattle.channel_file.specs.declared.fail.Field.{Field}
use Rattle.channel_file.specs.declared.fail.Field.TheVariants as field

-- what follows `(version 0)`
abbrev pub behind_version : Field → List Tree → Result (List Tree) ChannelFail
behind_version f [] = Err (fail.Shape f)
behind_version f (version ∷ rest) = do
  n ← ok_or (version_in version) (fail.Shape f)
  if n == 0 then Ok rest else Err (fail.Version n)

-- the one datum that a field has, of this form
abbrev pub one : {A : Type 0} → Field → (Tree → Option A) → List Tree → Result A ChannelFail
one f form given = ok_or (option_and_then form (only given)) (fail.Shape f)

-- the same of a field that may be absent
abbrev pub if_any : {A : Type 0} → (List Tree → Result A ChannelFail) → Option (List Tree) → Result (Option A) ChannelFail
if_any read None = Ok None
if_any read (Some given) = do
  found ← read given
  Ok (Some found)

-- a bare symbol, which can name a channel
abbrev pub bare_name : ℕ → List Tree → Result (List ℕ) ChannelFail
bare_name index given = do
  name ← one field.Name symbol_in given
  if is_channel_name name then Ok name else Err (fail.Name index)

-- `(channel-introduction (version 0) (commit "COMMIT") (signer "FPR") ..)`
abbrev pub stated_introduction : List Tree → Result Introduction ChannelFail
stated_introduction given = do
  parts ← one field.Introduction (behind (codes "channel-introduction")) given
  rest ← behind_version field.Introduction parts
  ok_or (stated_in rest) (fail.Shape field.Introduction)

-- its name, which it has to have
abbrev pub name_of : ℕ → List Tree → Result (List ℕ) ChannelFail
name_of index fields = do
  given ← ok_or (first_behind (codes "name") fields) (fail.Name index)
  bare_name index given

-- its address, which it has to have
abbrev pub url_of : List Tree → Result (List ℕ) ChannelFail
url_of fields = do
  given ← ok_or (first_behind (codes "url") fields) (fail.Shape field.Url)
  one field.Url url_in given

-- its branch, its commit and its introduction, which may be absent
abbrev pub branch_of : List Tree → Result (Option (List ℕ)) ChannelFail
branch_of fields = if_any (one field.Branch reference_in) (first_behind (codes "branch") fields)

abbrev pub commit_of : List Tree → Result (Option (List ℕ)) ChannelFail
commit_of fields = if_any (one field.Commit commit_in) (first_behind (codes "commit") fields)

abbrev pub introduction_of : List Tree → Result (Option Introduction) ChannelFail
introduction_of fields = if_any stated_introduction (first_behind (codes "introduction") fields)

-- the dependency of these fields, which has this number: of each name the first counts, and they are judged in this order
unfoldable pub dependency_of : ℕ → List Tree → Result Channel ChannelFail
dependency_of index fields = do
  name ← name_of index fields
  url ← url_of fields
  branch ← branch_of fields
  commit ← commit_of fields
  introduction ← introduction_of fields
  Ok (record {
    name = name;
    url = url;
    branch = unwrap_or branch (codes "master");
    commit = commit;
    introduction = introduction;
  })

-- the dependency of an element
abbrev pub dependency : ℕ → Tree → Result Channel ChannelFail
dependency index element = do
  fields ← ok_or (behind (codes "channel") element) (fail.Shape field.Dependencies)
  dependency_of index fields
