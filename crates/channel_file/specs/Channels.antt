-- What bytes give as a list of channels (Guix's manual, "Channels"): the channels, or the first fault in the order of the
-- rules. That only the first datum of a file is read, and which data count as channels, is this project's own.
use Rattle.std.specs.Prelude.{ℕ, ◌+◌, Bool, bytes_eq, nat_lt, if◌then◌else◌, codes, unwrap_or, length, Option, Some, None, Result, Ok, Err, List, [], ◌∷◌, ◌++◌}
use Rattle.std.specs.List.{list_any}
use Rattle.std.specs.Option.{ok_or, option_or}
use Rattle.sexp_reader.specs.Reading.{first_datum}
use Rattle.sexp_reader.specs.Tree.{Tree, symbol_in}
use Rattle.channel_file.specs.Elements.{behind, head_of}
use Rattle.channel_file.specs.Fields.{quoted_name, url_in, reference_in, commit_in, value}
use Rattle.channel_file.specs.Introductions.{made_introduction}
use Rattle.channel_file.specs.Judging.{elements_judged}
use Rattle.channel_file.specs.Reading.{◌>>=◌, datum_in}
use Rattle.channel_file.specs.declared.channel.Channel.{Channel}
use Rattle.channel_file.specs.declared.fail.ChannelFail.{ChannelFail}
use Rattle.channel_file.specs.declared.fail.ChannelFail.TheVariants as fail
use Rattle.channel_file.specs.declared.fail.Field.TheVariants as field

-- the fault of a datum of another form: a symbol, or a list that one heads, would have to be evaluated
abbrev pub other_form : Option (List ℕ) → ChannelFail
other_form (Some symbol) = fail.Evaluates symbol
other_form None = fail.Shape field.Channel

-- the elements behind this word, in a list that it heads
abbrev pub elements_of : List ℕ → Tree → Result (List Tree) ChannelFail
elements_of word datum = ok_or (behind word datum) (other_form (option_or (symbol_in datum) (head_of datum)))

-- the channel of these fields, which has this number: first each element is judged, then what is absent
unfoldable pub channel_of : ℕ → List Tree → Result Channel ChannelFail
channel_of index fields = do
  fine ← elements_judged index [] fields
  name ← ok_or (value quoted_name (codes "name") fields) (fail.Name index)
  url ← ok_or (value url_in (codes "url") fields) (fail.Shape field.Url)
  Ok (record {
    name = name;
    url = url;
    branch = unwrap_or (value reference_in (codes "branch") fields) (codes "master");
    commit = value commit_in (codes "commit") fields;
    introduction = value made_introduction (codes "introduction") fields;
  })

-- the channel of an element
abbrev pub listed_channel : ℕ → Tree → Result Channel ChannelFail
listed_channel index element = elements_of (codes "channel") element >>= channel_of index

-- the channels of elements, the first of which has this number
abbrev pub each : (ℕ → Tree → Result Channel ChannelFail) → ℕ → List Tree → Result (List Channel) ChannelFail
each read index [] = Ok []
each read index (element ∷ elements) = do
  channel ← read index element
  channels ← each read (index + 1) elements
  Ok (channel ∷ channels)

-- whether one of the channels has this name
abbrev pub has_name : List Channel → List ℕ → Bool
has_name channels name = list_any (λ (channel : Channel). bytes_eq channel.name name) channels

-- the first name that a channel before has, too
abbrev pub repeated_name : List Channel → List Channel → Option (List ℕ)
repeated_name before [] = None
repeated_name before (channel ∷ channels) =
    if has_name before channel.name then Some channel.name else repeated_name (before ++ channel ∷ []) channels

-- the channels, unless a name is repeated
abbrev pub unless : Option (List ℕ) → List Channel → Result (List Channel) ChannelFail
unless (Some name) channels = Err (fail.Twice name)
unless None channels = Ok channels

-- at most 256 channels, of different names
abbrev pub distinct_channels : List Channel → Result (List Channel) ChannelFail
distinct_channels channels =
    if nat_lt 256 (length channels) then Err (fail.Shape field.Channel) else unless (repeated_name [] channels) channels

-- the channels of the bytes
unfoldable pub channels_of : List ℕ → Result (List Channel) ChannelFail
channels_of bytes = do
  datum ← datum_in (first_datum bytes)
  elements ← elements_of (codes "list") datum
  channels ← each listed_channel 0 elements
  distinct_channels channels
