-- The channels of a set have different names.
use Rattle.std.proofs.Common.{◌≡◌, ◌≢◌, ℕ, suc, ◌+◌, ◌<◌, Bool, true, false, List, [], ◌∷◌, ◌++◌, length, length-append, get_or, refl, sym, ap, ◌∙◌, arith}
use Rattle.std.specs.Prelude.{bytes_eq, if◌then◌else◌}
use Rattle.std.specs.List.{All, AllByRecursion, AllPairs}
use Rattle.std.proofs.Math.Seq.{get_or-append_seam}
use Rattle.std.proofs.lemmas.List.{get_or-append-add, get_or_append_left}
use Rattle.std.proofs.lemmas.List.Folds.{list_any_at}
use Rattle.std.proofs.lemmas.List.Quantifiers.{all_pairs_push}
use Rattle.std.proofs.lemmas.Slice.Eq.{bytes_eq-Decides}
use Rattle.channel_file.specs.Channels.{has_name}
use Rattle.channel_file.specs.declared.channel.Channel.{Channel}
use Rattle.channel_deps.specs.Members.{with_mention, with_mentions}

abbrev pub Differ : Channel → Channel → Type 0
Differ a b = a.name ≢ b.name

other_name : (before : List Channel) (channel : Channel) → has_name before channel.name ≡ false → (k : ℕ) (d : Channel) → k < length before → Differ (get_or before k d) channel
other_name before channel none k d low same =
    let is : bytes_eq (get_or before k d).name channel.name ≡ true = (bytes_eq-Decides (get_or before k d).name channel.name).1 same in
    let some = list_any_at (λ (c : Channel). bytes_eq c.name channel.name) before k d low is in
    absurd (cc (some, none))

apart_by : (b : Bool) (list : List Channel) (channel : Channel) → has_name list channel.name ≡ b → AllPairs Differ list → AllPairs Differ (if b then list else list ++ channel ∷ [])
apart_by true list channel is apart = apart
apart_by false list channel is apart = all_pairs_push Differ list channel apart (other_name list channel is)

-- mentions leave them apart
pub with_mentions_apart : (list mentions : List Channel) → AllPairs Differ list → AllPairs Differ (with_mentions list mentions)
with_mentions_apart list [] apart = apart
with_mentions_apart list (channel ∷ mentions) apart = with_mentions_apart (with_mention list channel) mentions (apart_by (has_name list channel.name) list channel refl apart)

-- ---- those around one

ap_name : {a b : Channel} → a ≡ b → a.name ≡ b.name
ap_name is = ap (λ (c : Channel). c.name) is

each_of : (P : Channel → Type 0) (list : List Channel) → All P list → AllByRecursion P list
each_of P [] all = tt
each_of P (c ∷ list) all = (all 0 c (omega arith), each_of P list (λ k d low. all (suc k) d (omega (arith, low))))

module _ (before : List Channel) (channel : Channel) (after : List Channel) (apart : AllPairs Differ (before ++ channel ∷ after)) where
  apart_front : (k : ℕ) (e : Channel) → k < length before → Differ channel (get_or before k e)
  apart_front k e low same =
      let high : length before < length (before ++ channel ∷ after) = omega (arith, length-append before (channel ∷ after)) in
      let other = apart k (length before) e low high in
      other (ap_name (get_or_append_left before (channel ∷ after) e k low) ∙ sym same ∙ sym (ap_name (get_or-append_seam before channel after e)))

  apart_back : (k : ℕ) (e : Channel) → k < length after → Differ channel (get_or after k e)
  apart_back k e low same =
      let more : length before + suc k < length (before ++ channel ∷ after) = omega (arith, low, length-append before (channel ∷ after)) in
      let less : length before < length before + suc k = omega arith in
      let other = apart (length before) (length before + suc k) e less more in
      other (ap_name (get_or-append_seam before channel after e) ∙ same ∙ sym (ap_name (get_or-append-add before (channel ∷ after) (suc k) e)))

  pub apart_before : AllByRecursion (λ (d : Channel). Differ channel d) before
  apart_before = each_of (λ (d : Channel). Differ channel d) before apart_front

  pub apart_after : AllByRecursion (λ (d : Channel). Differ channel d) after
  apart_after = each_of (λ (d : Channel). Differ channel d) after apart_back
