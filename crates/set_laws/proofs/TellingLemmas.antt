-- A set that has a verdict has no refusal over sound caches.
use Rattle.std.proofs.Common.{◌≡◌, ◌<◌, ◌≤◌, List, [], ◌∷◌, ◌++◌, length, Ok, Err, sym, ap, subst, ◌∙◌, arith}
use Rattle.std.specs.Prelude.{Result}
use Rattle.std.proofs.lemmas.List.{append-nil}
use Rattle.channel_file.specs.declared.channel.Channel.{Channel}
use Rattle.channel_deps.specs.Members.{with_mentions}
use Rattle.channel_deps.specs.Outcome.{HasTaken, ComesTo, IsSetVerdict, IsRefusedAt, HasTooMany, IsSetOutcome, HasSoundCaches, listed}
use Rattle.channel_deps.specs.Outside.{Outside}
use Rattle.channel_deps.specs.declared.known.Taken.{Taken}
use Rattle.channel_deps.specs.declared.set.SetTask.{SetTask}
use Rattle.channel_deps.specs.declared.set.SetVerdict.{SetVerdict}
use Rattle.channel_deps.specs.declared.set_fail.SetFail.{SetFail}
use Rattle.channel_deps.specs.declared.set_fail.SetFail.TheVariants.{TooManyChannels}
use Rattle.channel_deps.proofs.WalkLemmas.{listed_more}
use Rattle.set_laws.proofs.ComingLemmas.{IsTakenIn, listed_is, is_reached, taken_in}
use Rattle.set_laws.proofs.FoundLemmas.{mentioned, found_of, mentions_are, not_refused}
use Rattle.set_laws.proofs.ReachLemmas.{reached, IsReached, reached_more, room}

module _ (o : Outside) (s : SetTask) (verdict : SetVerdict) (accepted : IsSetVerdict o s verdict) where
  in_set : (channel : Channel) → (comes : ComesTo o s channel) → IsTakenIn o s accepted.channels accepted.taken comes.channels channel
  in_set channel comes = taken_in o s accepted.channels accepted.taken accepted.whole comes.channels channel comes.left (is_reached o s comes.channels comes.taken (channel ∷ comes.left) comes.front)

  never_refused : HasSoundCaches o s → (fail : SetFail) → IsRefusedAt o s fail → ⊥
  never_refused sound fail refused =
      let is = in_set refused.channel refused.comes in
      not_refused o s refused.channel is.at.one (found_of o s refused.channel is.at.one is.at.here) (sound refused.channel refused.comes) fail refused.refused

  -- the list that one more channel leaves is that of a front of the set
  listed_by : (channel : Channel) (comes : ComesTo o s channel) (last : Taken) → last.mentions ≡ mentioned o.answers s.clones channel
      → listed s (comes.taken ++ last ∷ []) ≡ reached s.channels (mentioned o.answers s.clones) (comes.channels ++ channel ∷ [])
  listed_by channel comes last is =
      let mentions = mentioned o.answers s.clones in
      let before = reached s.channels mentions comes.channels in
      listed_more s comes.taken last
      ∙ ap (λ (l : List Channel). with_mentions l last.mentions) (listed_is o s comes.channels comes.taken comes.front.found)
      ∙ ap (λ (m : List Channel). with_mentions before m) (is ∙ sym (append-nil (mentions channel)))
      ∙ sym (reached_more s.channels mentions comes.channels (channel ∷ []))

  never_too_many : HasTooMany o s → ⊥
  never_too_many many =
      let is = in_set many.channel many.comes in
      let mentions = mentioned o.answers s.clones in
      let whole = subst (λ (l : List Channel). IsReached s.channels mentions l []) is.split (is_reached o s accepted.channels accepted.taken [] accepted.whole) in
      let found = mentions_are o s many.channel many.last (found_of o s many.channel many.last many.found) in
      let over = many.many in
      absurd (omega (arith, over, ap length (listed_by many.channel many.comes many.last found), room s.channels mentions many.comes.channels many.channel is.after whole))

  pub never_fails : HasSoundCaches o s → (fail : SetFail) → IsSetOutcome o s (Err fail) → ⊥
  never_fails sound TooManyChannels outcome = never_too_many outcome
  never_fails sound fail outcome = never_refused sound fail outcome
