-- Metadata, step by step.
use Rattle.std.proofs.Common.{◌≡◌, ℕ, List, [], codes, sym, subst, ◌∙◌}
use Rattle.std.specs.Prelude.{Option, Result, Ok, Err, unwrap_or}
use Rattle.sexp_reader.specs.Reading.{first_datum}
use Rattle.sexp_reader.specs.Tree.{Tree}
use Rattle.channel_file.specs.Channels.{each}
use Rattle.channel_file.specs.Dependencies.{dependency}
use Rattle.channel_file.specs.Elements.{first_behind}
use Rattle.channel_file.specs.Fields.{path_in, reference_in}
use Rattle.channel_file.specs.Metadata.{properties_of, text_of, metadata_from, metadata_of}
use Rattle.channel_file.specs.Reading.{Gives, datum_in}
use Rattle.channel_file.specs.declared.channel.Channel.{Channel}
use Rattle.channel_file.specs.declared.channel.Metadata.{Metadata}
use Rattle.channel_file.specs.declared.fail.ChannelFail.{ChannelFail}
use Rattle.channel_file.specs.declared.fail.Field.TheVariants as field
use Rattle.channel_file.proofs.ReadingLemmas.{gives_fault, ended}

-- what each property gives
abbrev pub directory_of : List Tree → Result (Option (List ℕ)) ChannelFail
directory_of ps = text_of field.Directory path_in (codes "directory") ps

abbrev pub url_of : List Tree → Result (Option (List ℕ)) ChannelFail
url_of ps = text_of field.Url path_in (codes "url") ps

abbrev pub keyring_of : List Tree → Result (Option (List ℕ)) ChannelFail
keyring_of ps = text_of field.KeyringReference reference_in (codes "keyring-reference") ps

abbrev pub news_of : List Tree → Result (Option (List ℕ)) ChannelFail
news_of ps = text_of field.NewsFile path_in (codes "news-file") ps

abbrev pub dependencies_of : List Tree → Result (List Channel) ChannelFail
dependencies_of ps = each dependency 0 (unwrap_or (first_behind (codes "dependencies") ps) [])

-- the fault of the first property at fault
directory_first : (ps : List Tree) (fault : ChannelFail) → directory_of ps ≡ Err fault → metadata_from ps ≡ Err fault
unfolding metadata_from
directory_first ps fault is = rw is

pub bad_directory : (ps : List Tree) (fault : ChannelFail) → directory_of ps ≡ Err fault → Gives (Err fault) (metadata_from ps)
bad_directory ps fault is = gives_fault fault _ (directory_first ps fault is)

url_next : (ps : List Tree) (directory : Option (List ℕ)) (fault : ChannelFail) → directory_of ps ≡ Ok directory → url_of ps ≡ Err fault → metadata_from ps ≡ Err fault
unfolding metadata_from
url_next ps directory fault d is = rw (d, is)

pub bad_url : (ps : List Tree) (directory : Option (List ℕ)) (fault : ChannelFail) → directory_of ps ≡ Ok directory → url_of ps ≡ Err fault → Gives (Err fault) (metadata_from ps)
bad_url ps directory fault d is = gives_fault fault _ (url_next ps directory fault d is)

keyring_next : (ps : List Tree) (directory url : Option (List ℕ)) (fault : ChannelFail) → directory_of ps ≡ Ok directory → url_of ps ≡ Ok url → keyring_of ps ≡ Err fault → metadata_from ps ≡ Err fault
unfolding metadata_from
keyring_next ps directory url fault d u is = rw (d, u, is)

pub bad_keyring : (ps : List Tree) (directory url : Option (List ℕ)) (fault : ChannelFail) → directory_of ps ≡ Ok directory → url_of ps ≡ Ok url → keyring_of ps ≡ Err fault → Gives (Err fault) (metadata_from ps)
bad_keyring ps directory url fault d u is = gives_fault fault _ (keyring_next ps directory url fault d u is)

news_next : (ps : List Tree) (directory url keyring : Option (List ℕ)) (fault : ChannelFail) → directory_of ps ≡ Ok directory → url_of ps ≡ Ok url → keyring_of ps ≡ Ok keyring → news_of ps ≡ Err fault → metadata_from ps ≡ Err fault
unfolding metadata_from
news_next ps directory url keyring fault d u k is = rw (d, u, k, is)

pub bad_news : (ps : List Tree) (directory url keyring : Option (List ℕ)) (fault : ChannelFail) → directory_of ps ≡ Ok directory → url_of ps ≡ Ok url → keyring_of ps ≡ Ok keyring → news_of ps ≡ Err fault → Gives (Err fault) (metadata_from ps)
bad_news ps directory url keyring fault d u k is = gives_fault fault _ (news_next ps directory url keyring fault d u k is)

pub bad_dependencies : (ps : List Tree) (directory url keyring news : Option (List ℕ)) (fault : ChannelFail) → directory_of ps ≡ Ok directory → url_of ps ≡ Ok url → keyring_of ps ≡ Ok keyring → news_of ps ≡ Ok news → Gives (Err fault) (dependencies_of ps) → Gives (Err fault) (metadata_from ps)
unfolding metadata_from
bad_dependencies ps directory url keyring news fault d u k n is = rw (d, u, k, n) (ended fault (dependencies_of ps) _ is)

whole_metadata : (ps : List Tree) (directory url keyring news : Option (List ℕ)) (dependencies : List Channel) → directory_of ps ≡ Ok directory → url_of ps ≡ Ok url → keyring_of ps ≡ Ok keyring → news_of ps ≡ Ok news → dependencies_of ps ≡ Ok dependencies
    → metadata_from ps ≡ Ok (record { directory = directory; url = url; keyring_reference = keyring; news_file = news; dependencies = dependencies })
unfolding metadata_from
whole_metadata ps directory url keyring news dependencies d u k n all = rw (d, u, k, n, all)

-- the texts were copied
pub metadata_made : (ps : List Tree) (directory url keyring news : Option (List ℕ)) (dependencies : List Channel) (own_directory own_url own_keyring own_news : Option (List ℕ)) → directory_of ps ≡ Ok directory → url_of ps ≡ Ok url → keyring_of ps ≡ Ok keyring → news_of ps ≡ Ok news → dependencies_of ps ≡ Ok dependencies
    → own_directory ≡ directory → own_url ≡ url → own_keyring ≡ keyring → own_news ≡ news
    → metadata_from ps ≡ Ok (record { directory = own_directory; url = own_url; keyring_reference = own_keyring; news_file = own_news; dependencies = dependencies })
metadata_made ps directory url keyring news dependencies own_directory own_url own_keyring own_news d u k n all od ou ok on =
    whole_metadata ps directory url keyring news dependencies d u k n all ∙ sym (rw (od, ou, ok, on))

-- ---- the metadata of bytes

pub no_datum : (bytes : List ℕ) (fault : ChannelFail) → Gives (Err fault) (datum_in (first_datum bytes)) → Gives (Err fault) (metadata_of bytes)
unfolding metadata_of
no_datum bytes fault is = ended fault (datum_in (first_datum bytes)) _ is

no_form : (bytes : List ℕ) (datum : Tree) (fault : ChannelFail) → datum_in (first_datum bytes) ≡ Ok datum → properties_of datum ≡ Err fault → metadata_of bytes ≡ Err fault
unfolding metadata_of
no_form bytes datum fault is form = rw (is, form)

pub no_properties : (bytes : List ℕ) (datum : Tree) (fault : ChannelFail) → datum_in (first_datum bytes) ≡ Ok datum → properties_of datum ≡ Err fault → Gives (Err fault) (metadata_of bytes)
no_properties bytes datum fault is form = gives_fault fault _ (no_form bytes datum fault is form)

whole_file : (bytes : List ℕ) (datum : Tree) (ps : List Tree) → datum_in (first_datum bytes) ≡ Ok datum → properties_of datum ≡ Ok ps → metadata_of bytes ≡ metadata_from ps
unfolding metadata_of
whole_file bytes datum ps is form = rw (is, form)

pub gives_metadata : (bytes : List ℕ) (datum : Tree) (ps : List Tree) (result : Result Metadata ChannelFail) → datum_in (first_datum bytes) ≡ Ok datum → properties_of datum ≡ Ok ps → Gives result (metadata_from ps) → Gives result (metadata_of bytes)
gives_metadata bytes datum ps result is form given = subst (Gives result) (sym (whole_file bytes datum ps is form)) given
