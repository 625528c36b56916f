-- The limits that everything keeps which is read.
use Rattle.std.specs.Prelude.{◌≡◌, ◌≢◌, ◌≤◌, true, length, IfSome, List}
use Rattle.std.specs.List.{All, AllPairs}
use Rattle.name_limits.specs.Limits.{is_reference, is_path}
use Rattle.channel_file.specs.Names.{is_channel_name, is_url}
use Rattle.channel_file.specs.declared.channel.Channel.{Channel}
use Rattle.channel_file.specs.declared.channel.Metadata.{Metadata}

-- the channel's name, address and branch keep theirs
pub record IsFit (channel : Channel) : Type 0 where
  pub name : is_channel_name channel.name ≡ true
  pub url : is_url channel.url ≡ true
  pub branch : is_reference channel.branch ≡ true

-- so do all of these, which are at most 256 and have different names
pub record AreListed (channels : List Channel) : Type 0 where
  pub count : length channels ≤ 256
  pub each : All IsFit channels
  pub different : AllPairs (λ (a b : Channel). a.name ≢ b.name) channels

-- so do the texts of the metadata, and all that it depends on
pub record IsFitMetadata (metadata : Metadata) : Type 0 where
  pub directory : IfSome metadata.directory (λ path. is_path path ≡ true)
  pub url : IfSome metadata.url (λ path. is_path path ≡ true)
  pub keyring_reference : IfSome metadata.keyring_reference (λ name. is_reference name ≡ true)
  pub news_file : IfSome metadata.news_file (λ path. is_path path ≡ true)
  pub dependencies : All IsFit metadata.dependencies
