-- The texts on lists of channels, and on a channel's metadata. They are this project's own.
use Rattle.std.specs.Prelude.{ℕ, List, ◌++◌, codes, decimal}
use Rattle.channel_file.specs.declared.fail.Field.{Field}
use Rattle.channel_file.specs.declared.fail.Field.TheVariants as field
use Rattle.channel_file.specs.declared.fail.ChannelFail.{ChannelFail}
use Rattle.channel_file.specs.declared.fail.ChannelFail.TheVariants as fail
use Rattle.auth_report.specs.FileTexts.{sexp_text}
use Rattle.auth_report.specs.Parts.{line_of, out_of_memory, shown}

-- what is of another form
abbrev pub field_word : Field → List ℕ
field_word field.Channel = codes "channel"
field_word field.Name = codes "name"
field_word field.Url = codes "url"
field_word field.Branch = codes "branch"
field_word field.Commit = codes "commit"
field_word field.Introduction = codes "introduction"
field_word field.Directory = codes "directory"
field_word field.KeyringReference = codes "keyring-reference"
field_word field.NewsFile = codes "news-file"
field_word field.Dependencies = codes "dependencies"

-- why bytes are no list of channels, or no metadata
abbrev pub channel_text : ChannelFail → List ℕ
channel_text (fail.Sexp why) = sexp_text why
channel_text (fail.Evaluates symbol) = shown symbol ++ codes " would have to be evaluated"
channel_text (fail.Shape part) = codes "bad " ++ field_word part
channel_text (fail.Version n) = codes "version " ++ decimal n ++ codes " is not supported"
channel_text (fail.Name index) = codes "channel " ++ decimal index ++ codes " has no valid name"
channel_text (fail.Twice name) = codes "channel " ++ shown name ++ codes " is listed twice"
channel_text fail.Memory = out_of_memory

-- the line for a file that is no list of channels
abbrev pub list_line : List ℕ → ChannelFail → List ℕ
list_line path fail = line_of (codes "file " ++ shown path ++ codes ": " ++ channel_text fail)
