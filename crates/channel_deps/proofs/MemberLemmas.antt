-- Lists of channels that grow by mentions.
use Rattle.std.proofs.Common.{◌≡◌, ℕ, ◌+◌, ◌<◌, ◌≤◌, Bool, true, false, List, [], ◌∷◌, ◌++◌, length, length-append, get_or, take, drop, suc, drop-cons, add-one, refl, sym, ap, subst, ◌∙◌, append_assoc, arith}
use Rattle.std.specs.Prelude.{All, Err, if◌then◌else◌}
use Rattle.std.proofs.lemmas.List.{append-nil, take-append-drop, take_more}
use Rattle.std.proofs.lemmas.List.Elements.{All-get_or, All-head, All-push, All-tail}
use Rattle.channel_file.specs.Channels.{has_name}
use Rattle.channel_file.specs.Limits.{IsFit}
use Rattle.channel_file.specs.declared.channel.Channel.{Channel}
use Rattle.channel_deps.specs.declared.set_fail.SetFail.{SetFail}
use Rattle.channel_deps.specs.declared.set_fail.SetFail.TheVariants as fail
use Rattle.channel_deps.specs.Members.{with_mention, with_mentions}
use Rattle.channel_deps.specs.Steps.{Adds}

-- mentions after mentions
pub mentions_after : (list a b : List Channel) → with_mentions list (a ++ b) ≡ with_mentions (with_mentions list a) b
mentions_after list [] b = refl
mentions_after list (channel ∷ a) b = mentions_after (with_mention list channel) a b

-- one more mention
pub mentions_more : (list a : List Channel) (channel : Channel) → with_mentions list (a ++ channel ∷ []) ≡ with_mention (with_mentions list a) channel
mentions_more list a channel = mentions_after list a (channel ∷ [])

pub there_already : (list : List Channel) (channel : Channel) → has_name list channel.name ≡ true → with_mention list channel ≡ list
there_already list channel is = rw is refl

pub put_behind : (list : List Channel) (channel : Channel) → has_name list channel.name ≡ false → with_mention list channel ≡ list ++ channel ∷ []
put_behind list channel is = rw is refl

-- ---- mentions only append

one_more_at : (b : Bool) (list : List Channel) (channel : Channel) → (new : List Channel) × ((if b then list else list ++ channel ∷ []) ≡ list ++ new)
one_more_at true list channel = ([], sym (append-nil list))
one_more_at false list channel = (channel ∷ [], refl)

one_more : (list : List Channel) (channel : Channel) → (new : List Channel) × (with_mention list channel ≡ list ++ new)
one_more list channel = one_more_at (has_name list channel.name) list channel

pub only_append : (list mentions : List Channel) → (new : List Channel) × (with_mentions list mentions ≡ list ++ new)
only_append list [] = ([], sym (append-nil list))
only_append list (channel ∷ mentions) =
    let first = one_more list channel in
    let rest = only_append (with_mention list channel) mentions in
    (first.0 ++ rest.0, rest.1 ∙ ap (λ (l : List Channel). l ++ rest.0) first.1 ∙ append_assoc list first.0 rest.0)

pub no_shorter : (list mentions : List Channel) → length list ≤ length (with_mentions list mentions)
no_shorter list mentions =
    let all = only_append list mentions in
    omega (arith, ap length all.1, length-append list all.0)

-- where one mention makes them too many, they are with all of them
pub still_many : (list done more : List Channel) (channel : Channel) → 256 < length (with_mention (with_mentions list done) channel) → 256 < length (with_mentions list (done ++ (channel ∷ more)))
still_many list done more channel many =
    let step : with_mentions list (done ++ (channel ∷ more)) ≡ with_mentions (with_mention (with_mentions list done) channel) more = mentions_after list done (channel ∷ more) in
    omega (arith, many, ap length step, no_shorter (with_mention (with_mentions list done) channel) more)

-- ---- one mention is added

pub adds_none : (list new : List Channel) (channel : Channel) → has_name list channel.name ≡ true → length list ≤ 256 → new ≡ list → (new ≡ with_mentions list (channel ∷ [])) × (length new ≤ 256)
adds_none list new channel there few is = (is ∙ sym (there_already list channel there), omega (arith, ap length is, few))

pub adds_one : (list new : List Channel) (channel copy : Channel) → has_name list channel.name ≡ false → length list < 256 → copy ≡ channel → new ≡ list ++ copy ∷ [] → (new ≡ with_mentions list (channel ∷ [])) × (length new ≤ 256)
adds_one list new channel copy other few same is = (is ∙ ap (λ (c : Channel). list ++ c ∷ []) same ∙ sym (put_behind list channel other), omega (arith, ap length is, length-append list (copy ∷ []), few))

pub adds_many : (list : List Channel) (channel : Channel) → has_name list channel.name ≡ false → length list ≡ 256 → 256 < length (with_mentions list (channel ∷ []))
adds_many list channel other full = omega (arith, ap length (put_behind list channel other), length-append list (channel ∷ []), full)

-- ---- mentions one by one

-- the mentions up to one more
pub added_more : (list : List Channel) (mentions : List Channel) (i : ℕ) (channel : Channel) (now new : List Channel) → i < length mentions → channel ≡ get_or mentions i channel
    → now ≡ with_mentions list (take i mentions) → new ≡ with_mentions now (channel ∷ []) → new ≡ with_mentions list (take (i + 1) mentions)
added_more list mentions i channel now new within is before step =
    step ∙ ap (λ (l : List Channel). with_mention l channel) before ∙ sym (mentions_more list (take i mentions) channel)
    ∙ ap (λ (l : List Channel). with_mentions list l) (ap (λ (c : Channel). take i mentions ++ c ∷ []) is ∙ sym (take_more mentions i channel within))

-- the element at a place, between those before it and those behind it
pub split_at : (list : List Channel) (i : ℕ) (channel : Channel) → i < length list → channel ≡ get_or list i channel → list ≡ take i list ++ channel ∷ drop (i + 1) list
split_at list i channel within is =
    sym (take-append-drop i list) ∙ ap (λ (l : List Channel). take i list ++ l) (drop-cons list i channel within ∙ ap (λ (c : Channel). c ∷ drop (suc i) list) (sym is) ∙ ap (λ (n : ℕ). channel ∷ drop n list) (sym (add-one i)))

-- the first that can't be added stops it
pub adds_stopped : (list mentions now new : List Channel) (i : ℕ) (channel : Channel) (e : SetFail) → i < length mentions → channel ≡ get_or mentions i channel
    → now ≡ with_mentions list (take i mentions) → Adds now (channel ∷ []) new (Err e) → Adds list mentions new (Err e)
adds_stopped list mentions now new i channel fail.TooManyChannels within is before many = subst (λ (m : List Channel). 256 < length (with_mentions list m)) (sym (split_at mentions i channel within is))
    (still_many list (take i mentions) (drop (i + 1) mentions) channel (subst (λ (l : List Channel). 256 < length (with_mention l channel)) before many))
adds_stopped list mentions now new i channel fail.Memory within is before stopped = tt
adds_stopped list mentions now new i channel e within is before stopped = absurd stopped

-- ---- limits

fit_at : (b : Bool) (list : List Channel) (channel : Channel) → All IsFit list → IsFit channel → All IsFit (if b then list else list ++ channel ∷ [])
fit_at true list channel all one = all
fit_at false list channel all one = All-push IsFit list channel all one

-- a list of channels that keep their limits keeps them with more such
pub mentions_fit : (list mentions : List Channel) → All IsFit list → All IsFit mentions → All IsFit (with_mentions list mentions)
mentions_fit list [] all more = all
mentions_fit list (channel ∷ mentions) all more =
    mentions_fit (with_mention list channel) mentions (fit_at (has_name list channel.name) list channel all (All-head IsFit channel mentions more)) (All-tail IsFit channel mentions more)

pub fit_here : (list : List Channel) (i : ℕ) (channel : Channel) → All IsFit list → i < length list → channel ≡ get_or list i channel → IsFit channel
fit_here list i channel all within is = subst IsFit (sym is) (All-get_or IsFit list i channel within all)
