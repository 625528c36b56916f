-- A channel of a list, and a list, step by step.
use Rattle.std.proofs.Common.{◌≡◌, ℕ, List, [], sym, ap, ◌∙◌, subst, codes}
use Rattle.std.specs.Prelude.{Option, Some, None, Result, Ok, Err, unwrap_or}
use Rattle.sexp_reader.specs.Reading.{first_datum}
use Rattle.sexp_reader.specs.Tree.{Tree}
use Rattle.channel_file.specs.Channels.{elements_of, channel_of, listed_channel, each, distinct_channels, channels_of}
use Rattle.channel_file.specs.Fields.{quoted_name, url_in, reference_in, commit_in, value}
use Rattle.channel_file.specs.Introductions.{made_introduction}
use Rattle.channel_file.specs.Judging.{elements_judged}
use Rattle.channel_file.specs.Reading.{Gives, datum_in}
use Rattle.channel_file.specs.declared.channel.Channel.{Channel}
use Rattle.channel_file.specs.declared.channel.Introduction.{Introduction}
use Rattle.channel_file.specs.declared.fail.ChannelFail.{ChannelFail}
use Rattle.channel_file.specs.declared.fail.ChannelFail.TheVariants as fail
use Rattle.channel_file.specs.declared.fail.Field.TheVariants as field
use Rattle.channel_file.proofs.ReadingLemmas.{ended}

-- ---- the channel of fields

pub unsound : (index : ℕ) (fields : List Tree) (fault : ChannelFail) → Gives (Err fault) (elements_judged index [] fields) → Gives (Err fault) (channel_of index fields)
unfolding channel_of
unsound index fields fault is = ended fault (elements_judged index [] fields) _ is

pub no_name : (index : ℕ) (fields : List Tree) → elements_judged index [] fields ≡ Ok tt → value quoted_name (codes "name") fields ≡ None → channel_of index fields ≡ Err (fail.Name index)
unfolding channel_of
no_name index fields fine none = rw (fine, none)

pub no_url : (index : ℕ) (fields : List Tree) (name : List ℕ) → elements_judged index [] fields ≡ Ok tt → value quoted_name (codes "name") fields ≡ Some name → value url_in (codes "url") fields ≡ None → channel_of index fields ≡ Err (fail.Shape field.Url)
unfolding channel_of
no_url index fields name fine some none = rw (fine, some, none)

-- the channel that these parts make
abbrev made : List Tree → List ℕ → List ℕ → Channel
made fields name url = record {
  name = name;
  url = url;
  branch = unwrap_or (value reference_in (codes "branch") fields) (codes "master");
  commit = value commit_in (codes "commit") fields;
  introduction = value made_introduction (codes "introduction") fields;
}

whole_channel : (index : ℕ) (fields : List Tree) (name url : List ℕ) → elements_judged index [] fields ≡ Ok tt → value quoted_name (codes "name") fields ≡ Some name → value url_in (codes "url") fields ≡ Some url → channel_of index fields ≡ Ok (made fields name url)
unfolding channel_of
whole_channel index fields name url fine some at = rw (fine, some, at)

pub channel_made : (index : ℕ) (fields : List Tree) (name url branch : List ℕ) (commit : Option (List ℕ)) (introduction : Option Introduction) (channel : Channel) → elements_judged index [] fields ≡ Ok tt → value quoted_name (codes "name") fields ≡ Some name → value url_in (codes "url") fields ≡ Some url
    → branch ≡ unwrap_or (value reference_in (codes "branch") fields) (codes "master") → commit ≡ value commit_in (codes "commit") fields → introduction ≡ value made_introduction (codes "introduction") fields
    → channel ≡ record { name = name; url = url; branch = branch; commit = commit; introduction = introduction } → channel_of index fields ≡ Ok channel
channel_made index fields name url branch commit introduction channel fine some at b c i is =
    whole_channel index fields name url fine some at ∙ ap (λ (x : Channel). Ok x) (sym (is ∙ rw (b, c, i)))

-- ---- the channels of bytes

pub no_datum : (bytes : List ℕ) (fault : ChannelFail) → Gives (Err fault) (datum_in (first_datum bytes)) → Gives (Err fault) (channels_of bytes)
unfolding channels_of
no_datum bytes fault is = ended fault (datum_in (first_datum bytes)) _ is

pub no_list : (bytes : List ℕ) (datum : Tree) (fault : ChannelFail) → datum_in (first_datum bytes) ≡ Ok datum → Gives (Err fault) (elements_of (codes "list") datum) → Gives (Err fault) (channels_of bytes)
unfolding channels_of
no_list bytes datum fault is form = rw is (ended fault (elements_of (codes "list") datum) _ form)

pub no_channels : (bytes : List ℕ) (datum : Tree) (elements : List Tree) (fault : ChannelFail) → datum_in (first_datum bytes) ≡ Ok datum → elements_of (codes "list") datum ≡ Ok elements → Gives (Err fault) (each listed_channel 0 elements) → Gives (Err fault) (channels_of bytes)
unfolding channels_of
no_channels bytes datum elements fault is form one = rw (is, form) (ended fault (each listed_channel 0 elements) _ one)

whole_list : (bytes : List ℕ) (datum : Tree) (elements : List Tree) (channels : List Channel) → datum_in (first_datum bytes) ≡ Ok datum → elements_of (codes "list") datum ≡ Ok elements → each listed_channel 0 elements ≡ Ok channels → channels_of bytes ≡ distinct_channels channels
unfolding channels_of
whole_list bytes datum elements channels is form all = rw (is, form, all)

pub gives_channels : (bytes : List ℕ) (datum : Tree) (elements : List Tree) (channels : List Channel) (result : Result (List Channel) ChannelFail) → datum_in (first_datum bytes) ≡ Ok datum → elements_of (codes "list") datum ≡ Ok elements → each listed_channel 0 elements ≡ Ok channels → Gives result (distinct_channels channels) → Gives result (channels_of bytes)
gives_channels bytes datum elements channels result is form all given = subst (Gives result) (sym (whole_list bytes datum elements channels is form all)) given
