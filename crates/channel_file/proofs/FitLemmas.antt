-- What is read keeps its limits.
use Rattle.std.proofs.Common.{◌≡◌, ◌≢◌, ℕ, ◌+◌, ◌<◌, ◌≤◌, List, [], ◌∷◌, ◌++◌, length, get_or, refl, sym, ap, ◌∙◌, subst, codes, append_assoc, arith}
use Rattle.std.specs.Prelude.{Bool, true, false, if◌then◌else◌, nat_lt, bytes_eq, Option, Some, None, Result, Ok, Err, IfSome, IfOk, unwrap_or}
use Rattle.std.specs.List.{All, AllPairs}
use Rattle.std.specs.Option.{ok_or, option_and_then}
use Rattle.std.proofs.lemmas.Bool.Decides.{nat_tests}
use Rattle.std.proofs.lemmas.List.{append-nil}
use Rattle.std.proofs.lemmas.List.Elements.{All-nil, All-cons}
use Rattle.std.proofs.lemmas.List.Folds.{list_any_at}
use Rattle.std.proofs.lemmas.List.Quantifiers.{all_pairs_push}
use Rattle.std.proofs.lemmas.Slice.Eq.{bytes_eq-Decides}
use Rattle.name_limits.specs.Limits.{is_reference, is_path}
use Rattle.sexp_reader.specs.Reading.{first_datum}
use Rattle.sexp_reader.specs.Tree.{Tree, symbol_in, text_in}
use Rattle.channel_file.specs.Channels.{channel_of, elements_of, listed_channel, each, has_name, repeated_name, unless, distinct_channels, channels_of}
use Rattle.channel_file.specs.Dependencies.{one, if_any, bare_name, name_of, url_of, branch_of, commit_of, introduction_of, dependency_of, dependency}
use Rattle.channel_file.specs.Elements.{behind, first_behind, only}
use Rattle.channel_file.specs.Fields.{if_such, quoted_name, url_in, reference_in, path_in, commit_in, value}
use Rattle.channel_file.specs.Introductions.{made_introduction}
use Rattle.channel_file.specs.Judging.{elements_judged}
use Rattle.channel_file.specs.Limits.{IsFit, AreListed, IsFitMetadata}
use Rattle.channel_file.specs.Metadata.{properties_of, text_of, metadata_from, metadata_of}
use Rattle.channel_file.specs.Names.{is_channel_name, is_url}
use Rattle.channel_file.specs.Reading.{◌>>=◌, Gives, datum_in}
use Rattle.channel_file.specs.declared.channel.Channel.{Channel}
use Rattle.channel_file.specs.declared.channel.Metadata.{Metadata}
use Rattle.channel_file.specs.declared.fail.ChannelFail.{ChannelFail}
use Rattle.channel_file.specs.declared.fail.ChannelFail.TheVariants as fail
use Rattle.channel_file.specs.declared.fail.Field.{Field}
use Rattle.channel_file.specs.declared.fail.Field.TheVariants as field

-- ---- what was found came from somewhere

bound : {A B : Type 0} (r : Result A ChannelFail) (next : A → Result B ChannelFail) (b : B) → (r >>= next) ≡ Ok b → (a : A) × (r ≡ Ok a) × (next a ≡ Ok b)
bound (Ok a) next b is = (a, refl, is)
bound (Err fault) next b is = absurd (cc)

given : {A : Type 0} (o : Option A) (fault : ChannelFail) (a : A) → ok_or o fault ≡ Ok a → o ≡ Some a
given (Some x) fault a is = cc
given None fault a is = absurd (cc)

chained : {A B : Type 0} (o : Option A) (next : A → Option B) (b : B) → option_and_then next o ≡ Some b → (a : A) × (next a ≡ Some b)
chained (Some a) next b is = (a, is)
chained None next b is = absurd (cc)

such_by : (test : List ℕ → Bool) (bytes b : List ℕ) (t : Bool) → test bytes ≡ t → (if t then Some bytes else None) ≡ Some b → test b ≡ true
such_by test bytes b true fits is =
    let same : bytes ≡ b = cc in
    subst (λ (x : List ℕ). test x ≡ true) same fits
such_by test bytes b false fits is = absurd (cc)

such : (test : List ℕ → Bool) (bytes b : List ℕ) → if_such test bytes ≡ Some b → test b ≡ true
such test bytes b is = such_by test bytes b (test bytes) refl is

name_such : (datum : Tree) (b : List ℕ) → quoted_name datum ≡ Some b → is_channel_name b ≡ true
name_such datum b is =
    let quoted = chained (behind (codes "quote") datum) _ b is in
    let name = chained (only quoted.0) _ b quoted.1 in
    let symbol = chained (symbol_in name.0) _ b name.1 in
    such is_channel_name symbol.0 b symbol.1

url_such : (datum : Tree) (b : List ℕ) → url_in datum ≡ Some b → is_url b ≡ true
url_such datum b is =
    let text = chained (text_in datum) _ b is in
    such is_url text.0 b text.1

reference_such : (datum : Tree) (b : List ℕ) → reference_in datum ≡ Some b → is_reference b ≡ true
reference_such datum b is =
    let text = chained (text_in datum) _ b is in
    such is_reference text.0 b text.1

path_such : (datum : Tree) (b : List ℕ) → path_in datum ≡ Some b → is_path b ≡ true
path_such datum b is =
    let text = chained (text_in datum) _ b is in
    such is_path text.0 b text.1

-- ---- a channel of a list

value_such : (form : Tree → Option (List ℕ)) (test : List ℕ → Bool) (word : List ℕ) (fields : List Tree) (b : List ℕ) → ((datum : Tree) (x : List ℕ) → form datum ≡ Some x → test x ≡ true) → value form word fields ≡ Some b → test b ≡ true
value_such form test word fields b all is =
    let found = chained (first_behind word fields) _ b is in
    let datum = chained (only found.0) _ b found.1 in
    all datum.0 b datum.1

branch_such : (o : Option (List ℕ)) → ((b : List ℕ) → o ≡ Some b → is_reference b ≡ true) → is_reference (unwrap_or o (codes "master")) ≡ true
branch_such None all = refl
branch_such (Some b) all = all b refl

fit_channel : (index : ℕ) (fields : List Tree) (channel : Channel) → channel_of index fields ≡ Ok channel → IsFit channel
unfolding channel_of
fit_channel index fields channel is =
    let fine = bound (elements_judged index [] fields) _ channel is in
    let name = bound (ok_or (value quoted_name (codes "name") fields) (fail.Name index)) _ channel fine.2 in
    let url = bound (ok_or (value url_in (codes "url") fields) (fail.Shape field.Url)) _ channel name.2 in
    let same : record {
      name = name.0;
      url = url.0;
      branch = unwrap_or (value reference_in (codes "branch") fields) (codes "master");
      commit = value commit_in (codes "commit") fields;
      introduction = value made_introduction (codes "introduction") fields;
    } ≡ channel = cc (url.2) in
    subst IsFit same (record {
      name = value_such quoted_name is_channel_name (codes "name") fields name.0 name_such (given _ _ name.0 name.1);
      url = value_such url_in is_url (codes "url") fields url.0 url_such (given _ _ url.0 url.1);
      branch = branch_such (value reference_in (codes "branch") fields) (λ b some. value_such reference_in is_reference (codes "branch") fields b reference_such some);
    })

fit_listed : (index : ℕ) (element : Tree) (channel : Channel) → listed_channel index element ≡ Ok channel → IsFit channel
fit_listed index element channel is =
    let fields = bound (elements_of (codes "channel") element) (channel_of index) channel is in
    fit_channel index fields.0 channel fields.2

-- ---- a dependency

one_such : (f : Field) (form : Tree → Option (List ℕ)) (test : List ℕ → Bool) (ds : List Tree) (b : List ℕ) → ((datum : Tree) (x : List ℕ) → form datum ≡ Some x → test x ≡ true) → one f form ds ≡ Ok b → test b ≡ true
one_such f form test ds b all is =
    let datum = chained (only ds) form b (given _ _ b is) in
    all datum.0 b datum.1

if_any_such : (f : Field) (form : Tree → Option (List ℕ)) (test : List ℕ → Bool) (found : Option (List Tree)) (o : Option (List ℕ)) → ((datum : Tree) (x : List ℕ) → form datum ≡ Some x → test x ≡ true) → if_any (one f form) found ≡ Ok o → (b : List ℕ) → o ≡ Some b → test b ≡ true
if_any_such f form test None o all is b some =
    let none : None ≡ o = cc in
    absurd (cc)
if_any_such f form test (Some ds) o all is b some =
    let read = bound (one f form ds) (λ x. Ok (Some x)) o is in
    let same : Some read.0 ≡ o = cc (read.2) in
    let b_is : read.0 ≡ b = cc in
    one_such f form test ds b all (read.1 ∙ ap (λ (x : List ℕ). Ok x) b_is)

bare_by : (index : ℕ) (name b : List ℕ) (t : Bool) → is_channel_name name ≡ t → (if t then Ok name else Err (fail.Name index)) ≡ Ok b → is_channel_name b ≡ true
bare_by index name b true fits is =
    let same : name ≡ b = cc in
    subst (λ (x : List ℕ). is_channel_name x ≡ true) same fits
bare_by index name b false fits is = absurd (cc)

fit_name : (index : ℕ) (fields : List Tree) (b : List ℕ) → name_of index fields ≡ Ok b → is_channel_name b ≡ true
fit_name index fields b is =
    let found = bound (ok_or (first_behind (codes "name") fields) (fail.Name index)) (bare_name index) b is in
    let name = bound (one field.Name symbol_in found.0) _ b found.2 in
    bare_by index name.0 b (is_channel_name name.0) refl name.2

fit_url : (fields : List Tree) (b : List ℕ) → url_of fields ≡ Ok b → is_url b ≡ true
fit_url fields b is =
    let found = bound (ok_or (first_behind (codes "url") fields) (fail.Shape field.Url)) (one field.Url url_in) b is in
    one_such field.Url url_in is_url found.0 b url_such found.2

fit_dependency : (index : ℕ) (fields : List Tree) (channel : Channel) → dependency_of index fields ≡ Ok channel → IsFit channel
unfolding dependency_of
fit_dependency index fields channel is =
    let name = bound (name_of index fields) _ channel is in
    let url = bound (url_of fields) _ channel name.2 in
    let branch = bound (branch_of fields) _ channel url.2 in
    let commit = bound (commit_of fields) _ channel branch.2 in
    let introduction = bound (introduction_of fields) _ channel commit.2 in
    let same : record {
      name = name.0;
      url = url.0;
      branch = unwrap_or branch.0 (codes "master");
      commit = commit.0;
      introduction = introduction.0;
    } ≡ channel = cc (introduction.2) in
    subst IsFit same (record {
      name = fit_name index fields name.0 name.1;
      url = fit_url fields url.0 url.1;
      branch = branch_such branch.0 (λ b some. if_any_such field.Branch reference_in is_reference (first_behind (codes "branch") fields) branch.0 reference_such branch.1 b some);
    })

fit_element : (index : ℕ) (element : Tree) (channel : Channel) → dependency index element ≡ Ok channel → IsFit channel
fit_element index element channel is =
    let fields = bound (ok_or (behind (codes "channel") element) (fail.Shape field.Dependencies)) (dependency_of index) channel is in
    fit_dependency index fields.0 channel fields.2

-- ---- channels

fit_each : (read : ℕ → Tree → Result Channel ChannelFail) → ((index : ℕ) (element : Tree) (channel : Channel) → read index element ≡ Ok channel → IsFit channel) → (index : ℕ) (elements : List Tree) (channels : List Channel) → each read index elements ≡ Ok channels → All IsFit channels
fit_each read all index [] channels is =
    let none : [] ≡ channels = cc in
    subst (λ (cs : List Channel). All IsFit cs) none (All-nil IsFit)
fit_each read all index (element ∷ elements) channels is =
    let first = bound (read index element) _ channels is in
    let rest = bound (each read (index + 1) elements) _ channels first.2 in
    let same : first.0 ∷ rest.0 ≡ channels = cc (rest.2) in
    subst (λ (cs : List Channel). All IsFit cs) same (All-cons IsFit first.0 rest.0 (all index element first.0 first.1) (fit_each read all (index + 1) elements rest.0 rest.1))

-- no name of these is that of the next
abbrev Differ : Channel → Channel → Type 0
Differ a b = a.name ≢ b.name

other_name : (before : List Channel) (channel : Channel) → has_name before channel.name ≡ false → (k : ℕ) (d : Channel) → k < length before → Differ (get_or before k d) channel
other_name before channel none k d h same =
    let is : bytes_eq (get_or before k d).name channel.name ≡ true = (bytes_eq-Decides (get_or before k d).name channel.name).1 same in
    let some = list_any_at (λ (c : Channel). bytes_eq c.name channel.name) before k d h is in
    absurd (cc (some, none))

differ_by : (before : List Channel) (channel : Channel) (rest : List Channel) (t : Bool) → has_name before channel.name ≡ t → (if t then Some channel.name else repeated_name (before ++ channel ∷ []) rest) ≡ None → (has_name before channel.name ≡ false) × (repeated_name (before ++ channel ∷ []) rest ≡ None)
differ_by before channel rest true is none = absurd (cc)
differ_by before channel rest false is none = (is, none)

differ_on : (before channels : List Channel) → AllPairs Differ before → repeated_name before channels ≡ None → AllPairs Differ (before ++ channels)
differ_on before [] so none = subst (λ (cs : List Channel). AllPairs Differ cs) (sym (append-nil before)) so
differ_on before (channel ∷ rest) so none =
    let parts = differ_by before channel rest (has_name before channel.name) refl none in
    let more = all_pairs_push Differ before channel so (other_name before channel parts.0) in
    subst (λ (cs : List Channel). AllPairs Differ cs) (append_assoc before (channel ∷ []) rest) (differ_on (before ++ channel ∷ []) rest more parts.1)

once_by : (channels listed : List Channel) (o : Option (List ℕ)) → repeated_name [] channels ≡ o → unless o channels ≡ Ok listed → (channels ≡ listed) × (repeated_name [] channels ≡ None)
once_by channels listed (Some name) is same = absurd (cc)
once_by channels listed None is same = (cc, is)

few_by : (channels listed : List Channel) (t : Bool) → nat_lt 256 (length channels) ≡ t → (if t then Err (fail.Shape field.Channel) else unless (repeated_name [] channels) channels) ≡ Ok listed → (length channels ≤ 256) × (channels ≡ listed) × (repeated_name [] channels ≡ None)
few_by channels listed true is same = absurd (cc)
few_by channels listed false is same =
    let once = once_by channels listed (repeated_name [] channels) refl same in
    (grind (arith, nat_tests), once.0, once.1)

listed_fit : (bytes : List ℕ) (channels : List Channel) → channels_of bytes ≡ Ok channels → AreListed channels
unfolding channels_of
listed_fit bytes channels is =
    let datum = bound (datum_in (first_datum bytes)) _ channels is in
    let elements = bound (elements_of (codes "list") datum.0) _ channels datum.2 in
    let all = bound (each listed_channel 0 elements.0) distinct_channels channels elements.2 in
    let few = few_by all.0 channels (nat_lt 256 (length all.0)) refl all.2 in
    subst AreListed few.1 (record {
      count = few.0;
      each = fit_each listed_channel fit_listed 0 elements.0 all.0 all.1;
      different = differ_on [] all.0 (λ i j d less within same. absurd (omega arith)) few.2;
    })

-- ---- metadata

text_such : (f : Field) (form : Tree → Option (List ℕ)) (test : List ℕ → Bool) (word : List ℕ) (ps : List Tree) (o : Option (List ℕ)) → ((datum : Tree) (x : List ℕ) → form datum ≡ Some x → test x ≡ true) → text_of f form word ps ≡ Ok o → IfSome o (λ b. test b ≡ true)
text_such f form test word ps None all is = tt
text_such f form test word ps (Some b) all is = if_any_such f form test (first_behind word ps) (Some b) all is b refl

fit_properties : (ps : List Tree) (metadata : Metadata) → metadata_from ps ≡ Ok metadata → IsFitMetadata metadata
unfolding metadata_from
fit_properties ps metadata is =
    let directory = bound (text_of field.Directory path_in (codes "directory") ps) _ metadata is in
    let url = bound (text_of field.Url path_in (codes "url") ps) _ metadata directory.2 in
    let keyring = bound (text_of field.KeyringReference reference_in (codes "keyring-reference") ps) _ metadata url.2 in
    let news = bound (text_of field.NewsFile path_in (codes "news-file") ps) _ metadata keyring.2 in
    let all = bound (each dependency 0 (unwrap_or (first_behind (codes "dependencies") ps) [])) _ metadata news.2 in
    let same : record { directory = directory.0; url = url.0; keyring_reference = keyring.0; news_file = news.0; dependencies = all.0 } ≡ metadata = cc (all.2) in
    subst IsFitMetadata same (record {
      directory = text_such field.Directory path_in is_path (codes "directory") ps directory.0 path_such directory.1;
      url = text_such field.Url path_in is_path (codes "url") ps url.0 path_such url.1;
      keyring_reference = text_such field.KeyringReference reference_in is_reference (codes "keyring-reference") ps keyring.0 reference_such keyring.1;
      news_file = text_such field.NewsFile path_in is_path (codes "news-file") ps news.0 path_such news.1;
      dependencies = fit_each dependency fit_element 0 (unwrap_or (first_behind (codes "dependencies") ps) []) all.0 all.1;
    })

metadata_fit : (bytes : List ℕ) (metadata : Metadata) → metadata_of bytes ≡ Ok metadata → IsFitMetadata metadata
unfolding metadata_of
metadata_fit bytes metadata is =
    let datum = bound (datum_in (first_datum bytes)) _ metadata is in
    let properties = bound (properties_of datum.0) metadata_from metadata datum.2 in
    fit_properties properties.0 metadata properties.2

-- ---- what a call answers

pub answer_listed : (bytes : List ℕ) (result : Result (List Channel) ChannelFail) → Gives result (channels_of bytes) → IfOk result (λ channels. AreListed channels)
answer_listed bytes (Ok channels) is = listed_fit bytes channels is
answer_listed bytes (Err fault) is = tt

pub answer_fit : (bytes : List ℕ) (result : Result Metadata ChannelFail) → Gives result (metadata_of bytes) → IfOk result (λ metadata. IsFitMetadata metadata)
answer_fit bytes (Ok metadata) is = metadata_fit bytes metadata is
answer_fit bytes (Err fault) is = tt
