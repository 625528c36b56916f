-- The parts of a reading, put together.
use Rattle.std.proofs.Common.{◌≡◌, ℕ, ◌+◌, ◌<◌, List, [], ◌∷◌, ◌++◌, length, get_or, take, drop, refl, sym, ap, ◌∙◌, append_assoc}
use Rattle.std.specs.Prelude.{Result, Ok, Err}
use Rattle.sexp_reader.specs.Tree.{Tree}
use Rattle.channel_file.specs.Channels.{each}
use Rattle.channel_file.specs.Judging.{element_judged, elements_judged}
use Rattle.channel_file.specs.Reading.{◌>>=◌, Gives}
use Rattle.channel_file.specs.declared.channel.Channel.{Channel}
use Rattle.channel_file.specs.declared.fail.ChannelFail.{ChannelFail}
use Rattle.channel_file.specs.declared.fail.ChannelFail.TheVariants as fail
use Rattle.channel_file.proofs.ListLemmas.{drop_at, take_at}

pub gives_fault : {A : Type 0} (fault : ChannelFail) (reading : Result A ChannelFail) → reading ≡ Err fault → Gives (Err fault) reading
gives_fault (fail.Sexp e) reading is = is
gives_fault (fail.Evaluates s) reading is = is
gives_fault (fail.Shape f) reading is = is
gives_fault (fail.Version n) reading is = is
gives_fault (fail.Name n) reading is = is
gives_fault (fail.Twice s) reading is = is
gives_fault fail.Memory reading is = tt

-- where the fault of a part is that of the whole
pub gives_on : {A B : Type 0} (fault : ChannelFail) (part : Result A ChannelFail) (whole : Result B ChannelFail) → (part ≡ Err fault → whole ≡ Err fault) → Gives (Err fault) part → Gives (Err fault) whole
gives_on (fail.Sexp e) part whole same is = same is
gives_on (fail.Evaluates s) part whole same is = same is
gives_on (fail.Shape f) part whole same is = same is
gives_on (fail.Version n) part whole same is = same is
gives_on (fail.Name n) part whole same is = same is
gives_on (fail.Twice s) part whole same is = same is
gives_on fail.Memory part whole same is = tt

-- a fault ends the reading
pub ended : {A B : Type 0} (fault : ChannelFail) (part : Result A ChannelFail) (next : A → Result B ChannelFail) → Gives (Err fault) part → Gives (Err fault) (part >>= next)
ended fault part next is = gives_on fault part (part >>= next) (λ e. ap (λ (r : Result _ ChannelFail). r >>= next) e) is

-- these channels stand before those
abbrev pub after : List Channel → Result (List Channel) ChannelFail → Result (List Channel) ChannelFail
after done (Ok channels) = Ok (done ++ channels)
after done (Err fault) = Err fault

after_one : (done : List Channel) (channel : Channel) (rest : Result (List Channel) ChannelFail) → after done (rest >>= (λ channels. Ok (channel ∷ channels))) ≡ after (done ++ channel ∷ []) rest
after_one done channel (Ok channels) = ap (λ (l : List Channel). Ok l) (sym (append_assoc done (channel ∷ []) channels))
after_one done channel (Err fault) = refl

-- the channels of what is left begin with that of the next element
next_of : (read : ℕ → Tree → Result Channel ChannelFail) (es : List Tree) (i : ℕ) (e : Tree) (got : Result Channel ChannelFail) → i < length es → e ≡ get_or es i e → read i e ≡ got → each read i (drop i es) ≡ (got >>= (λ channel. each read (i + 1) (drop (i + 1) es) >>= (λ channels. Ok (channel ∷ channels))))
next_of read es i e got h is found = ap (each read i) (drop_at es i e h is) ∙ ap (λ (r : Result Channel ChannelFail). r >>= (λ channel. each read (i + 1) (drop (i + 1) es) >>= (λ channels. Ok (channel ∷ channels)))) found

pub each_more : (read : ℕ → Tree → Result Channel ChannelFail) (es : List Tree) (i : ℕ) (e : Tree) (channel : Channel) (done : List Channel) → i < length es → e ≡ get_or es i e → read i e ≡ Ok channel → (new : List Channel) → new ≡ done ++ channel ∷ [] → after done (each read i (drop i es)) ≡ after new (each read (i + 1) (drop (i + 1) es))
each_more read es i e channel done h is found new put = ap (after done) (next_of read es i e (Ok channel) h is found) ∙ after_one done channel (each read (i + 1) (drop (i + 1) es)) ∙ ap (λ (l : List Channel). after l (each read (i + 1) (drop (i + 1) es))) (sym put)

pub each_fault : (read : ℕ → Tree → Result Channel ChannelFail) (es : List Tree) (i : ℕ) (e : Tree) (fault : ChannelFail) (done : List Channel) → i < length es → e ≡ get_or es i e → each read 0 es ≡ after done (each read i (drop i es)) → Gives (Err fault) (read i e) → Gives (Err fault) (each read 0 es)
each_fault read es i e fault done h is so given = gives_on fault (read i e) (each read 0 es) (λ found. so ∙ ap (after done) (next_of read es i e (Err fault) h is found)) given

-- the elements that are left, behind those that were judged
judged_at : (index : ℕ) (es : List Tree) (i : ℕ) (e : Tree) (got : Result (Unit {0}) ChannelFail) → i < length es → e ≡ get_or es i e → element_judged index (take i es) e ≡ got → elements_judged index (take i es) (drop i es) ≡ (got >>= (λ fine. elements_judged index (take (i + 1) es) (drop (i + 1) es)))
judged_at index es i e got h is found =
    ap (elements_judged index (take i es)) (drop_at es i e h is)
    ∙ ap (λ (r : Result (Unit {0}) ChannelFail). r >>= (λ fine. elements_judged index (take i es ++ e ∷ []) (drop (i + 1) es))) found
    ∙ ap (λ (before : List Tree). got >>= (λ fine. elements_judged index before (drop (i + 1) es))) (sym (take_at es i e h is))

pub judged_more : (index : ℕ) (es : List Tree) (i : ℕ) (e : Tree) (before : List Tree) → i < length es → e ≡ get_or es i e → before ≡ take i es → element_judged index before e ≡ Ok tt → elements_judged index (take i es) (drop i es) ≡ elements_judged index (take (i + 1) es) (drop (i + 1) es)
judged_more index es i e before h is so found = judged_at index es i e (Ok tt) h is (ap (λ (b : List Tree). element_judged index b e) (sym so) ∙ found)

pub judged_fault : (index : ℕ) (es : List Tree) (i : ℕ) (e : Tree) (before : List Tree) (fault : ChannelFail) → i < length es → e ≡ get_or es i e → before ≡ take i es → elements_judged index [] es ≡ elements_judged index (take i es) (drop i es) → Gives (Err fault) (element_judged index before e) → Gives (Err fault) (elements_judged index [] es)
judged_fault index es i e before fault h is so left given = gives_on fault (element_judged index before e) (elements_judged index [] es) (λ found. left ∙ judged_at index es i e (Err fault) h is (ap (λ (b : List Tree). element_judged index b e) (sym so) ∙ found)) given
