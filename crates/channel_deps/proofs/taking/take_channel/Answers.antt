use Rattle.std.proofs.Common.{◌≡◌, inl, Ok, refl, sym, subst}
use Rattle.std.specs.Prelude.{All, IsTrue}
use Rattle.std.proofs.lemmas.Result.{err_from_is_err_and}
use Rattle.channel_file.specs.Limits.{IsFit}
use Rattle.channel_deps.specs.declared.known.Taken.{Taken}
use Rattle.channel_deps.specs.Outside.{outside}
use Rattle.channel_deps.specs.Reading.{known_of}
use Rattle.channel_deps.specs.declared.set_fail.SetFail.TheVariants.{Memory}
use Rattle.channel_deps.proofs.AskedLemmas.{taken_over, unread_asks, refused_asks, passed_asks, passed_stops}
use Rattle.channel_deps.proofs.TakingLemmas.{sound_known, not_known, not_checked, not_moved, taken}
use Rattle.channel_deps.proofs.taking.take_channel.Goals as goal

pub returns-in_err-known-clause-taken : goal.returns-in_err-known-clause-taken
returns-in_err-known-clause-taken g c =
    let p = err_from_is_err_and c.from_residual.result c.from_residual.ensures.1 in
    rw (p.1, p.2) (λ git sig keeper sound.
    let o = outside (g.G.GitPort.table c.args.git.now) (g.V.SigPort.table c.args.sig.now) (g.K.Keeper.kept c.args.keeper.now) in
    not_known o c.args.set.now c.args.channel.now c.in_err-known.field-0.0 (rw (c.as_str.ensures, c.in-Ok.ensures) at (c.in_err-known.ensures.exact git)))

pub returns-in_err-checked-clause-taken : goal.returns-in_err-checked-clause-taken
returns-in_err-checked-clause-taken g c =
    let p = err_from_is_err_and c.from_residual-in_err-checked.result c.from_residual-in_err-checked.ensures.1 in
    rw (p.1, p.2) (λ git sig keeper sound.
    let o = outside (g.G.GitPort.table c.args.git.now) (g.V.SigPort.table c.args.sig.now) (g.K.Keeper.kept c.args.keeper.now) in
    let known = c.in_ok-known.known in
    let is : Ok known ≡ known_of o.answers c.args.set.now.clones c.args.channel.now = rw (c.as_str.ensures, c.in-Ok.ensures) at (c.in_ok-known.ensures.exact git) in
    let later = subst IsTrue (sym c.in_ok-known.ensures.told) git in
    let checked = rw c.in_ok-known.ensures.table at (c.in_err-checked.ensures.checked later sig keeper) in
    not_checked o c.args.set.now c.args.channel.now known c.in_err-checked.field-0.0 is (checked (sound_known o c.args.set.now c.args.channel.now known is sound)))

pub returns-in_err-moved-clause-taken : goal.returns-in_err-moved-clause-taken
returns-in_err-moved-clause-taken g c =
    let p = err_from_is_err_and c.from_residual-in_err-moved.result c.from_residual-in_err-moved.ensures.1 in
    rw (p.1, p.2) (λ git sig keeper sound.
    let o = outside (g.G.GitPort.table c.args.git.now) (g.V.SigPort.table c.args.sig.now) (g.K.Keeper.kept c.args.keeper.now) in
    let known = c.in_ok-known.known in
    let is : Ok known ≡ known_of o.answers c.args.set.now.clones c.args.channel.now = rw (c.as_str.ensures, c.in-Ok.ensures) at (c.in_ok-known.ensures.exact git) in
    let later = subst IsTrue (sym c.in_ok-known.ensures.told) git in
    let checked = rw c.in_ok-known.ensures.table at (c.in_ok-checked.ensures.checked later sig keeper) in
    let last = subst IsTrue (sym c.check_channel.ensures.git_told) later in
    let held = subst IsTrue (sym c.check_channel.ensures.keeper_told) keeper in
    let moved = rw (c.check_channel.ensures.git_table, c.in_ok-known.ensures.table, c.check_channel.ensures.kept, c.as_str-2.ensures, c.in-Ok.ensures) at (c.in_err-moved.ensures.moved last held) in
    not_moved o c.args.set.now c.args.channel.now known c.in_ok-checked.checked c.in_err-moved.field-0.0 is (checked (sound_known o c.args.set.now c.args.channel.now known is sound)) moved)

pub returns-in-Ok-make_taken-clause-taken : goal.returns-in-Ok-make_taken-clause-taken
returns-in-Ok-make_taken-clause-taken g c = λ git sig keeper sound.
    let o = outside (g.G.GitPort.table c.args.git.now) (g.V.SigPort.table c.args.sig.now) (g.K.Keeper.kept c.args.keeper.now) in
    let known = c.in_ok-known.known in
    let is : Ok known ≡ known_of o.answers c.args.set.now.clones c.args.channel.now = rw (c.as_str.ensures, c.in-Ok.ensures) at (c.in_ok-known.ensures.exact git) in
    let later = subst IsTrue (sym c.in_ok-known.ensures.told) git in
    let checked = rw c.in_ok-known.ensures.table at (c.in_ok-checked.ensures.checked later sig keeper) in
    let last = subst IsTrue (sym c.check_channel.ensures.git_told) later in
    let held = subst IsTrue (sym c.check_channel.ensures.keeper_told) keeper in
    let moved = rw (c.check_channel.ensures.git_table, c.in_ok-known.ensures.table, c.check_channel.ensures.kept, c.as_str-2.ensures, c.in-Ok.ensures) at (c.in_ok-moved.ensures.moved last held) in
    taken o c.args.set.now c.args.channel.now known c.in_ok-checked.checked c.in_ok-moved.moved c.in-Ok-make_taken.taken is (checked (sound_known o c.args.set.now c.args.channel.now known is sound)) moved c.in-Ok-make_taken.ensures

pub returns-in-Ok-make_taken-clause-fit : goal.returns-in-Ok-make_taken-clause-fit
returns-in-Ok-make_taken-clause-fit g c = subst (λ (t : Taken). All IsFit t.mentions) (sym c.in-Ok-make_taken.ensures) c.in_ok-known.ensures.fit.dependencies

-- ---- over what is kept, and the questions

pub returns-in_default-clause-asked : goal.returns-in_default-clause-asked
returns-in_default-clause-asked g c = λ git sig keeper. inl refl

pub returns-in_err-known-clause-asked : goal.returns-in_err-known-clause-asked
returns-in_err-known-clause-asked g c =
    let p = err_from_is_err_and c.from_residual.result c.from_residual.ensures.1 in
    rw (p.1, p.2) (λ git sig keeper.
    let o = outside (g.G.GitPort.table c.args.git.now) (g.V.SigPort.table c.args.sig.now) (g.K.Keeper.kept c.args.keeper.now) in
    unread_asks o c.args.set.now c.args.channel.now c.in_err-known.field-0.0 (g.V.SigPort.asked c.args.sig.now) (rw (c.as_str.ensures, c.in-Ok.ensures) at (c.in_err-known.ensures.exact git)))

pub returns-in_err-checked-clause-asked : goal.returns-in_err-checked-clause-asked
returns-in_err-checked-clause-asked g c =
    let p = err_from_is_err_and c.from_residual-in_err-checked.result c.from_residual-in_err-checked.ensures.1 in
    rw (p.1, p.2) (λ git sig keeper.
    let o = outside (g.G.GitPort.table c.args.git.now) (g.V.SigPort.table c.args.sig.now) (g.K.Keeper.kept c.args.keeper.now) in
    let known = c.in_ok-known.known in
    let is : Ok known ≡ known_of o.answers c.args.set.now.clones c.args.channel.now = rw (c.as_str.ensures, c.in-Ok.ensures) at (c.in_ok-known.ensures.exact git) in
    let later = subst IsTrue (sym c.in_ok-known.ensures.told) git in
    refused_asks o c.args.set.now c.args.channel.now known c.in_err-checked.field-0.0 (g.V.SigPort.asked c.args.sig.now) (g.V.SigPort.asked c.check_channel.new.sig) is (rw c.in_ok-known.ensures.table at (c.in_err-checked.ensures.asked later sig keeper)))

pub returns-in_err-moved-clause-asked : goal.returns-in_err-moved-clause-asked
returns-in_err-moved-clause-asked g c =
    let p = err_from_is_err_and c.from_residual-in_err-moved.result c.from_residual-in_err-moved.ensures.1 in
    rw (p.1, p.2) (λ git sig keeper.
    let o = outside (g.G.GitPort.table c.args.git.now) (g.V.SigPort.table c.args.sig.now) (g.K.Keeper.kept c.args.keeper.now) in
    let known = c.in_ok-known.known in
    let is : Ok known ≡ known_of o.answers c.args.set.now.clones c.args.channel.now = rw (c.as_str.ensures, c.in-Ok.ensures) at (c.in_ok-known.ensures.exact git) in
    let later = subst IsTrue (sym c.in_ok-known.ensures.told) git in
    passed_stops o c.args.set.now c.args.channel.now c.in_err-moved.field-0.0 (g.V.SigPort.asked c.args.sig.now) (g.V.SigPort.asked c.check_channel.new.sig)
    (passed_asks o c.args.set.now c.args.channel.now known (g.V.SigPort.asked c.args.sig.now) (g.V.SigPort.asked c.check_channel.new.sig) is (rw c.in_ok-known.ensures.table at (c.in_ok-checked.ensures.asked later sig keeper))))

pub returns-in-Ok-make_taken-clause-over : goal.returns-in-Ok-make_taken-clause-over
returns-in-Ok-make_taken-clause-over g c = λ git sig keeper.
    let o = outside (g.G.GitPort.table c.args.git.now) (g.V.SigPort.table c.args.sig.now) (g.K.Keeper.kept c.args.keeper.now) in
    let known = c.in_ok-known.known in
    let is : Ok known ≡ known_of o.answers c.args.set.now.clones c.args.channel.now = rw (c.as_str.ensures, c.in-Ok.ensures) at (c.in_ok-known.ensures.exact git) in
    let later = subst IsTrue (sym c.in_ok-known.ensures.told) git in
    let last = subst IsTrue (sym c.check_channel.ensures.git_told) later in
    let held = subst IsTrue (sym c.check_channel.ensures.keeper_told) keeper in
    let moved = rw (c.check_channel.ensures.git_table, c.in_ok-known.ensures.table, c.check_channel.ensures.kept, c.as_str-2.ensures, c.in-Ok.ensures) at (c.in_ok-moved.ensures.moved last held) in
    taken_over o c.args.set.now c.args.channel.now known c.in_ok-checked.checked c.in_ok-moved.moved c.in-Ok-make_taken.taken is (rw c.in_ok-known.ensures.table at (c.in_ok-checked.ensures.over later sig keeper)) moved c.in-Ok-make_taken.ensures

pub returns-in-Ok-make_taken-clause-asked : goal.returns-in-Ok-make_taken-clause-asked
returns-in-Ok-make_taken-clause-asked g c = λ git sig keeper.
    let o = outside (g.G.GitPort.table c.args.git.now) (g.V.SigPort.table c.args.sig.now) (g.K.Keeper.kept c.args.keeper.now) in
    let known = c.in_ok-known.known in
    let is : Ok known ≡ known_of o.answers c.args.set.now.clones c.args.channel.now = rw (c.as_str.ensures, c.in-Ok.ensures) at (c.in_ok-known.ensures.exact git) in
    let later = subst IsTrue (sym c.in_ok-known.ensures.told) git in
    passed_asks o c.args.set.now c.args.channel.now known (g.V.SigPort.asked c.args.sig.now) (g.V.SigPort.asked c.check_channel.new.sig) is (rw c.in_ok-known.ensures.table at (c.in_ok-checked.ensures.asked later sig keeper))

pub returns-clause-asked : goal.returns-clause-asked
returns-clause-asked g c = λ git sig keeper.
    let o = outside (g.G.GitPort.table c.args.git.now) (g.V.SigPort.table c.args.sig.now) (g.K.Keeper.kept c.args.keeper.now) in
    let known = c.in_ok-known.known in
    let is : Ok known ≡ known_of o.answers c.args.set.now.clones c.args.channel.now = rw (c.as_str.ensures, c.in-Ok.ensures) at (c.in_ok-known.ensures.exact git) in
    let later = subst IsTrue (sym c.in_ok-known.ensures.told) git in
    passed_stops o c.args.set.now c.args.channel.now Memory (g.V.SigPort.asked c.args.sig.now) (g.V.SigPort.asked c.check_channel.new.sig)
    (passed_asks o c.args.set.now c.args.channel.now known (g.V.SigPort.asked c.args.sig.now) (g.V.SigPort.asked c.check_channel.new.sig) is (rw c.in_ok-known.ensures.table at (c.in_ok-checked.ensures.asked later sig keeper)))
