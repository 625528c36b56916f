-- What bytes give as the metadata of a channel (Guix's manual, "Channels", on `.guix-channel`): the properties, or the first
-- fault in their order. That only the first datum of a file is read is this project's own.
use Rattle.std.specs.Prelude.{ℕ, codes, unwrap_or, Option, Result, Ok, List, []}
use Rattle.std.specs.Option.{ok_or}
use Rattle.sexp_reader.specs.Reading.{first_datum}
use Rattle.sexp_reader.specs.Tree.{Tree}
use Rattle.channel_file.specs.Channels.{each}
use Rattle.channel_file.specs.Dependencies.{behind_version, one, if_any, dependency}
use Rattle.channel_file.specs.Elements.{behind, first_behind}
use Rattle.channel_file.specs.Fields.{path_in, reference_in}
use Rattle.channel_file.specs.Reading.{◌>>=◌, datum_in}
use Rattle.channel_file.specs.declared.channel.Metadata.{Metadata}
use Rattle.channel_file.specs.declared.fail.ChannelFail.{ChannelFail}
use Rattle.channel_file.specs.declared.fail.ChannelFail.TheVariants as fail
use Rattle.channel_file.specs.declared.fail.Field.{Field}
use Rattle.channel_file.specs.declared.fail.Field.TheVariants as field

-- `(channel (version 0) ..)`
abbrev pub properties_of : Tree → Result (List Tree) ChannelFail
properties_of datum = do
  elements ← ok_or (behind (codes "channel") datum) (fail.Shape field.Channel)
  behind_version field.Channel elements

-- a text, where there is a property of this name
abbrev pub text_of : Field → (Tree → Option (List ℕ)) → List ℕ → List Tree → Result (Option (List ℕ)) ChannelFail
text_of f form word properties = if_any (one f form) (first_behind word properties)

-- the metadata of properties, which are judged in this order
unfoldable pub metadata_from : List Tree → Result Metadata ChannelFail
metadata_from properties = do
  directory ← text_of field.Directory path_in (codes "directory") properties
  url ← text_of field.Url path_in (codes "url") properties
  keyring_reference ← text_of field.KeyringReference reference_in (codes "keyring-reference") properties
  news_file ← text_of field.NewsFile path_in (codes "news-file") properties
  dependencies ← each dependency 0 (unwrap_or (first_behind (codes "dependencies") properties) [])
  Ok (record {
    directory = directory;
    url = url;
    keyring_reference = keyring_reference;
    news_file = news_file;
    dependencies = dependencies;
  })

-- the metadata of the bytes
unfoldable pub metadata_of : List ℕ → Result Metadata ChannelFail
metadata_of bytes = do
  datum ← datum_in (first_datum bytes)
  properties ← properties_of datum
  metadata_from properties
