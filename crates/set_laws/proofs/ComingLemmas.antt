-- The channels to which a check comes are those of the set that was accepted.
use Rattle.std.proofs.Common.{◌≡◌, List, [], ◌∷◌, ◌++◌, length, Ok, refl, sym, ap, subst, ◌∙◌, append_assoc, arith}
use Rattle.std.specs.Prelude.{flat_map}
use Rattle.child_ports.specs.declared.git.GitRow.{GitRow}
use Rattle.channel_file.specs.declared.channel.Channel.{Channel}
use Rattle.channel_deps.specs.Members.{with_mentions}
use Rattle.channel_deps.specs.Outcome.{IsTakenAs, AreTakenAs, HasTaken, ComesTo, listed}
use Rattle.channel_deps.specs.Outside.{Outside}
use Rattle.channel_deps.specs.declared.known.Taken.{Taken}
use Rattle.channel_deps.specs.declared.set.SetTask.{SetTask}
use Rattle.set_laws.proofs.FoundLemmas.{mentioned, found_of, mentions_are}
use Rattle.set_laws.proofs.ReachLemmas.{reached, IsReached, next_is, next_few, on_both}

-- what was found of a channel among others
pub record IsAmong (o : Outside) (s : SetTask) (before : List Channel) (channel : Channel) (after : List Channel) (taken : List Taken) : Type 0 where
  pub front : List Taken
  pub one : Taken
  pub back : List Taken
  pub parts : taken ≡ front ++ one ∷ back
  pub first : AreTakenAs o s before front
  pub here : IsTakenAs o s channel (Ok one)
  pub rest : AreTakenAs o s after back

module _ (o : Outside) (s : SetTask) where
  pub among : (before : List Channel) (channel : Channel) (after : List Channel) (taken : List Taken) → AreTakenAs o s (before ++ channel ∷ after) taken → IsAmong o s before channel after taken
  among [] channel after [] all = absurd all
  among [] channel after (t ∷ taken) all = record { front = []; one = t; back = taken; parts = refl; first = tt; here = all.0; rest = all.1 }
  among (c ∷ before) channel after [] all = absurd all
  among (c ∷ before) channel after (t ∷ taken) all =
      let found = among before channel after taken all.1 in
      record {
        front = t ∷ found.front;
        one = found.one;
        back = found.back;
        parts = ap (λ (l : List Taken). t ∷ l) found.parts;
        first = (all.0, found.first);
        here = found.here;
        rest = found.rest;
      }

  pub as_many : (channels : List Channel) (taken : List Taken) → AreTakenAs o s channels taken → length taken ≡ length channels
  as_many [] [] all = refl
  as_many [] (t ∷ taken) all = absurd all
  as_many (c ∷ channels) [] all = absurd all
  as_many (c ∷ channels) (t ∷ taken) all = let rest = as_many channels taken all.1 in omega (arith, rest)

  -- what they mention doesn't depend on what is kept
  pub listed_is : (channels : List Channel) (taken : List Taken) → AreTakenAs o s channels taken → listed s taken ≡ reached s.channels (mentioned o.answers s.clones) channels
  listed_is channels taken all = ap (λ (l : List Channel). with_mentions s.channels l) (mentions_all channels taken all)
    where
      mentions_all : (channels : List Channel) (taken : List Taken) → AreTakenAs o s channels taken → flat_map (λ (t : Taken). t.mentions) taken ≡ flat_map (mentioned o.answers s.clones) channels
      mentions_all [] [] all = refl
      mentions_all [] (t ∷ taken) all = absurd all
      mentions_all (c ∷ channels) [] all = absurd all
      mentions_all (c ∷ channels) (t ∷ taken) all =
          ap (λ (l : List Channel). l ++ flat_map (λ (x : Taken). x.mentions) taken) (mentions_are o s c t (found_of o s c t all.0))
          ∙ ap (λ (l : List Channel). mentioned o.answers s.clones c ++ l) (mentions_all channels taken all.1)

  -- channels that were taken are reached
  pub is_reached : (channels : List Channel) (taken : List Taken) (left : List Channel) → HasTaken o s channels taken left → IsReached s.channels (mentioned o.answers s.clones) channels left
  is_reached channels taken left all = record {
    list = sym (listed_is channels taken all.found) ∙ all.list;
    few = all.few;
    known = λ before after c split.
        let at = among before c after taken (subst (λ (l : List Channel). AreTakenAs o s l taken) split all.found) in
        let low = all.known at.front at.back at.one at.parts in
        omega (arith, low, as_many before at.front at.first, ap length (listed_is before at.front at.first));
  }

  -- the check comes to each channel of the set that was accepted
  pub comes_to : (before : List Channel) (channel : Channel) (after : List Channel) (taken : List Taken) → HasTaken o s (before ++ channel ∷ after) taken [] → IsAmong o s before channel after taken → ComesTo o s channel
  comes_to before channel after taken whole at =
      let reach = is_reached (before ++ channel ∷ after) taken [] whole in
      let next = next_is s.channels (mentioned o.answers s.clones) before channel after [] reach in
      record {
        channels = before;
        taken = at.front;
        left = next.0;
        front = record {
          found = at.first;
          list = listed_is before at.front at.first ∙ next.1;
          few = omega (arith, ap length next.1, next_few s.channels (mentioned o.answers s.clones) before channel after [] reach);
          known = λ b a t split. whole.known b (a ++ at.one ∷ at.back) t
              (at.parts ∙ ap (λ (l : List Taken). l ++ at.one ∷ at.back) split ∙ append_assoc b (t ∷ a) (at.one ∷ at.back));
        };
      }

-- the channel stands behind these in the set that was accepted
pub record IsTakenIn (o : Outside) (s : SetTask) (channels : List Channel) (taken : List Taken) (before : List Channel) (channel : Channel) : Type 0 where
  pub after : List Channel
  pub split : channels ≡ before ++ channel ∷ after
  pub at : IsAmong o s before channel after taken
  pub comes : ComesTo o s channel

-- a channel to which a check comes, over any records, is one of them
pub taken_in : (o : Outside) (s : SetTask) (channels : List Channel) (taken : List Taken) → HasTaken o s channels taken [] → (before : List Channel) (channel : Channel) (left : List Channel)
    → IsReached s.channels (mentioned o.answers s.clones) before (channel ∷ left) → IsTakenIn o s channels taken before channel
taken_in o s channels taken whole before channel left comes =
    let both = on_both s.channels (mentioned o.answers s.clones) [] channel left before channels comes (is_reached o s channels taken [] whole) in
    let split : channels ≡ before ++ channel ∷ both.0 = both.1 in
    let at = among o s before channel both.0 taken (subst (λ (l : List Channel). AreTakenAs o s l taken) split whole.found) in
    record {
      after = both.0;
      split = split;
      at = at;
      comes = comes_to o s before channel both.0 taken (subst (λ (l : List Channel). HasTaken o s l taken []) split whole) at;
    }
