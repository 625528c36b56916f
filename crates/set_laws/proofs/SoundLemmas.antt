-- Sound caches stay sound behind an accepted set.
use Rattle.std.proofs.Common.{◌≡◌, ℕ, List, [], ◌∷◌, ◌++◌, Option, Some, None, Ok, Err, refl, sym, ap, subst, ◌∙◌}
use Rattle.std.specs.Prelude.{Result, IfOk, flat_map}
use Rattle.std.specs.FinMap as map
use Rattle.std.specs.List.{AllPairs}
use Rattle.std.proofs.lemmas.Grind.{flat_map-append}
use Rattle.std.proofs.lemmas.List.{append-nil}
use Rattle.child_ports.specs.Keeper.{Kept, with_pairs}
use Rattle.child_ports.specs.declared.keeper.Pair.{Pair}
use Rattle.channel_file.specs.Limits.{AreListed}
use Rattle.channel_file.specs.declared.channel.Channel.{Channel}
use Rattle.channel_file.specs.declared.channel.Introduction.{Introduction}
use Rattle.auth_engine.specs.SoundCache.{IsSoundCache}
use Rattle.channel_deps.specs.Outcome.{cache_pairs, deployed_pairs, HasTaken, ComesTo, IsSetVerdict, HasSoundCache, HasSoundCaches}
use Rattle.channel_deps.specs.Outside.{Outside, outside}
use Rattle.channel_deps.specs.Places.{task_of, cache_key}
use Rattle.channel_deps.specs.Reading.{known_of}
use Rattle.channel_deps.specs.Standings.{introduction_for, IsChecked, HasSound}
use Rattle.channel_deps.specs.declared.known.Checked.{Checked}
use Rattle.channel_deps.specs.declared.known.Known.{Known}
use Rattle.channel_deps.specs.declared.known.Taken.{Taken}
use Rattle.channel_deps.specs.declared.set.SetTask.{SetTask}
use Rattle.channel_deps.specs.declared.set.SetVerdict.{SetVerdict}
use Rattle.channel_deps.specs.declared.set_fail.SetFail.{SetFail}
use Rattle.set_laws.proofs.ApartLemmas.{Differ, with_mentions_apart, apart_before, apart_after}
use Rattle.set_laws.proofs.ComingLemmas.{IsAmong, IsTakenIn, is_reached, taken_in}
use Rattle.set_laws.proofs.FoundLemmas.{IsFound, found_of, sound_at}
use Rattle.set_laws.proofs.StoringLemmas.{after_cache, after_pairs, key_by, leave_all, leave_deployed, sound_behind, store_of}

-- the records, once all that a verdict has to be kept was put
abbrev pub kept_behind : Outside → List Pair → Outside
kept_behind o store = outside o.answers o.verdicts (with_pairs o.kept store)

-- the channels of a set have different names
set_apart : (o : Outside) (s : SetTask) (channels : List Channel) (taken : List Taken) → HasTaken o s channels taken [] → AllPairs Differ s.channels → AllPairs Differ channels
set_apart o s channels taken whole apart =
    subst (λ (l : List Channel). AllPairs Differ l) (whole.list ∙ append-nil channels) (with_mentions_apart s.channels (flat_map (λ (t : Taken). t.mentions) taken) apart)

-- ---- one channel of the set

module _ (o : Outside) (s : SetTask) (channel : Channel) where
  -- sound by the value at the key is sound
  at_value : (known : Known) (introduction : Option Introduction) (check : Checked) (store : List Pair) → HasSound o s channel known introduction → IsChecked o s channel known introduction (Ok check)
      → map.get (with_pairs o.kept store) (cache_key channel) ≡ after_cache check.cache (map.get o.kept (cache_key channel)) → HasSound (kept_behind o store) s channel known introduction
  at_value known None check store sound is value = tt
  at_value known (Some introduction) check store sound is value =
      subst (λ (kept : Option (List ℕ)). IsSoundCache o.answers o.verdicts (task_of s.clones channel introduction known.metadata.keyring_reference known.target) kept) (sym value)
      (sound_behind o s channel known introduction check sound is)

  module _ (before after : List Channel) (taken : List Taken) (at : IsAmong o s before channel after taken) (apart : AllPairs Differ (before ++ channel ∷ after)) where
    -- all that is put, around what is put for the channel
    parts : (found : IsFound o s channel at.one) → flat_map (λ (t : Taken). t.store) taken
        ≡ flat_map (λ (t : Taken). t.store) at.front ++ ((cache_pairs found.check.cache ++ deployed_pairs channel found.to found.known.target) ++ flat_map (λ (t : Taken). t.store) at.back)
    parts found =
        ap (λ (ts : List Taken). flat_map (λ (t : Taken). t.store) ts) at.parts
        ∙ flat_map-append (λ (t : Taken). t.store) at.front (at.one ∷ at.back)
        ∙ ap (λ (pairs : List Pair). flat_map (λ (t : Taken). t.store) at.front ++ (pairs ++ flat_map (λ (t : Taken). t.store) at.back))
        (store_of channel at.one found.known found.check found.to found.is)

    value_at : (found : IsFound o s channel at.one) → map.get (with_pairs o.kept (flat_map (λ (t : Taken). t.store) taken)) (cache_key channel) ≡ after_cache found.check.cache (map.get o.kept (cache_key channel))
    value_at found =
        ap (λ (pairs : List Pair). map.get (with_pairs o.kept pairs) (cache_key channel)) (parts found)
        ∙ after_pairs o.kept (cache_key channel) found.check.cache (flat_map (λ (t : Taken). t.store) at.front) (deployed_pairs channel found.to found.known.target) (flat_map (λ (t : Taken). t.store) at.back)
        (key_by o s channel found.known (introduction_for s channel) found.check found.checked)
        (leave_all o s channel before at.front (apart_before before channel after apart) at.first)
        (leave_deployed channel channel found.to found.known.target)
        (leave_all o s channel after at.back (apart_after before channel after apart) at.rest)

    pub stays_sound : (store : List Pair) → store ≡ flat_map (λ (t : Taken). t.store) taken → HasSoundCache o s channel → HasSoundCache (kept_behind o store) s channel
    stays_sound store is sound =
        let found = found_of o s channel at.one at.here in
        let value = ap (λ (pairs : List Pair). map.get (with_pairs o.kept pairs) (cache_key channel)) is ∙ value_at found in
        subst (λ (k : Result Known SetFail). IfOk k (λ x. HasSound (kept_behind o store) s channel x (introduction_for s channel))) (sym found.read)
        (at_value found.known (introduction_for s channel) found.check store (sound_at o s channel found.known found.read sound) found.checked value)

-- ---- the set

pub stored_set_sound : (o : Outside) (s : SetTask) (verdict : SetVerdict) → AreListed s.channels → HasSoundCaches o s → IsSetVerdict o s verdict → HasSoundCaches (kept_behind o verdict.store) s
stored_set_sound o s verdict listed sound accepted = λ channel comes.
    let is = taken_in o s accepted.channels accepted.taken accepted.whole comes.channels channel comes.left
    (is_reached (kept_behind o verdict.store) s comes.channels comes.taken (channel ∷ comes.left) comes.front) in
    let apart = subst (λ (l : List Channel). AllPairs Differ l) is.split (set_apart o s accepted.channels accepted.taken accepted.whole listed.different) in
    stays_sound o s channel comes.channels is.after accepted.taken is.at apart verdict.store accepted.store (sound channel is.comes)
