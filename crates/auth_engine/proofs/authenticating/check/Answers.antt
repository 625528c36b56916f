use Rattle.std.proofs.Common.{◌≡◌, List, ℕ, Option, Ok, Err, sym, subst, ◌∙◌}
use Rattle.std.specs.Prelude.{IsTrue, IfOk, All, Result}
use Rattle.std.specs.FinMap as map
use Rattle.child_ports.specs.declared.git.GitRow.{GitRow}
use Rattle.authorizations.specs.declared.scope.Scope.{Scope}
use Rattle.auth_rules.specs.World.{Id, world_of}
use Rattle.commit_history.specs.Answers.{IsHistoryAnswer, HoldsHistory}
use Rattle.commit_history.specs.Members.{IsWhole}
use Rattle.auth_engine.specs.declared.task.Verdict.{Verdict}
use Rattle.auth_engine.specs.declared.engine_fail.EngineFail.{EngineFail}
use Rattle.auth_engine.specs.Answers.{OnFinding}
use Rattle.auth_engine.specs.Asked.{AsksFor}
use Rattle.auth_engine.specs.Outcome.{IsFinding, IsOutcome, IsJudgedVerdict}
use Rattle.auth_engine.specs.SoundCache.{IsSoundEntry}
use Rattle.auth_engine.specs.Starting.{scope_of, world_in, entries_of, cached_of}
use Rattle.auth_engine.proofs.AskedLemmas.{finding_asks}
use Rattle.auth_engine.proofs.OutcomeLemmas.{cached_ok, entries_sound, finding_outcome, verdict_over, unread_outcome, on_map}
use Rattle.auth_engine.proofs.authenticating.check.Goals as goal

pub returns-in-Err-clause-outcome : goal.returns-in-Err-clause-outcome
returns-in-Err-clause-outcome g c = λ git sig keeper sound.
    let rows = g.G.GitPort.table c.args.git.now in
    let sigs = g.V.SigPort.table c.args.sig.now in
    let task = c.args.task.now in
    let start = c.in_ok-start.start in
    let entries = c.in_ok-entries.entries in
    let kept = g.K.Keeper.kept c.args.keeper.now in
    let cached : Ok entries ≡ entries_of (scope_of task start.ring) (map.get kept task.cache_key) = cached_ok entries _
    (subst (λ (s : Scope). ◌≡◌ {A = Result (List Id) EngineFail} (Ok entries) (cached_of s (map.get kept task.cache_key))) c.in-Ok.ensures
    (subst (λ (key : List ℕ). ◌≡◌ {A = Result (List Id) EngineFail} (Ok entries) (cached_of c.in-Ok.scope (map.get kept key))) c.as_str.ensures (c.in_ok-entries.ensures.entries keeper))) in
    let told = subst IsTrue (sym c.in_ok-start.ensures.told) git in
    let elsewhere = c.in-Err.ensures.answer told sigs start.ring.bytes in
    let answer = subst (λ (answers : List GitRow). IsHistoryAnswer (world_of answers task.dir sigs start.ring.bytes) start.target task.intro (Err c.in-Err.fail)) c.in_ok-start.ensures.table
    (subst (λ (dir : List ℕ). IsHistoryAnswer (world_of (g.G.GitPort.table c.find_start.new.git) dir sigs start.ring.bytes) start.target task.intro (Err c.in-Err.fail)) c.as_str-2.ensures elsewhere) in
    subst (λ (fail : EngineFail). OnFinding {T = Verdict} (Err fail) (IsOutcome rows sigs task (map.get kept task.cache_key) (Err fail))) (sym c.of_history.ensures)
    (unread_outcome rows sigs task (map.get kept task.cache_key) start entries c.in-Err.fail (c.in_ok-start.ensures.start git) cached answer)

pub returns-clause-outcome : goal.returns-clause-outcome
returns-clause-outcome g c = λ git sig keeper sound.
    let rows = g.G.GitPort.table c.args.git.now in
    let sigs = g.V.SigPort.table c.args.sig.now in
    let task = c.args.task.now in
    let start = c.in_ok-start.start in
    let entries = c.in_ok-entries.entries in
    let result = c.decide.result in
    let graph = c.in-Ok-read_history.graph in
    let kept = g.K.Keeper.kept c.args.keeper.now in
    let begins = c.in_ok-start.ensures.start git in
    let cached : Ok entries ≡ entries_of (scope_of task start.ring) (map.get kept task.cache_key) = cached_ok entries _
    (subst (λ (s : Scope). ◌≡◌ {A = Result (List Id) EngineFail} (Ok entries) (cached_of s (map.get kept task.cache_key))) c.in-Ok.ensures
    (subst (λ (key : List ℕ). ◌≡◌ {A = Result (List Id) EngineFail} (Ok entries) (cached_of c.in-Ok.scope (map.get kept key))) c.as_str.ensures (c.in_ok-entries.ensures.entries keeper))) in
    let told = subst IsTrue (sym c.in_ok-start.ensures.told) git in
    let elsewhere = c.in-Ok-read_history.ensures.answer told sigs start.ring.bytes in
    let history = subst (λ (answers : List GitRow). IsHistoryAnswer (world_of answers task.dir sigs start.ring.bytes) start.target task.intro (Ok graph)) c.in_ok-start.ensures.table
    (subst (λ (dir : List ℕ). IsHistoryAnswer (world_of (g.G.GitPort.table c.find_start.new.git) dir sigs start.ring.bytes) start.target task.intro (Ok graph)) c.as_str-2.ensures elsewhere) in
    let w = world_in rows sigs task start.ring in
    let clear = subst (λ (s : Scope). All (IsSoundEntry w s start.ring.keys) entries) (sym c.in-Ok.ensures) (entries_sound rows sigs task (map.get kept task.cache_key) start entries begins cached sound) in
    let later = subst IsTrue (sym c.read_history.ensures.told) told in
    let finding = subst (λ (answers : List GitRow). IsWhole (world_in answers sigs task start.ring) start.target task.intro → HoldsHistory (world_in answers sigs task start.ring) start.target task.intro graph
    → All (IsSoundEntry (world_in answers sigs task start.ring) c.in-Ok.scope start.ring.keys) entries → OnFinding result (IsFinding (world_in answers sigs task start.ring) task start entries result))
    (c.read_history.ensures.table ∙ c.in_ok-start.ensures.table) (c.decide.ensures.answer later sig) history.0 history.1 clear in
    on_map result _ _ (finding_outcome rows sigs task (map.get kept task.cache_key) start entries result begins cached) finding

pub returns-clause-asked : goal.returns-clause-asked
returns-clause-asked g c = λ git sig keeper.
    let rows = g.G.GitPort.table c.args.git.now in
    let sigs = g.V.SigPort.table c.args.sig.now in
    let task = c.args.task.now in
    let start = c.in_ok-start.start in
    let entries = c.in_ok-entries.entries in
    let result = c.decide.result in
    let graph = c.in-Ok-read_history.graph in
    let kept = g.K.Keeper.kept c.args.keeper.now in
    let before = g.V.SigPort.asked c.args.sig.now in
    let now = g.V.SigPort.asked c.decide.new.sig in
    let begins = c.in_ok-start.ensures.start git in
    let cached : Ok entries ≡ entries_of (scope_of task start.ring) (map.get kept task.cache_key) = cached_ok entries _
    (subst (λ (s : Scope). ◌≡◌ {A = Result (List Id) EngineFail} (Ok entries) (cached_of s (map.get kept task.cache_key))) c.in-Ok.ensures
    (subst (λ (key : List ℕ). ◌≡◌ {A = Result (List Id) EngineFail} (Ok entries) (cached_of c.in-Ok.scope (map.get kept key))) c.as_str.ensures (c.in_ok-entries.ensures.entries keeper))) in
    let told = subst IsTrue (sym c.in_ok-start.ensures.told) git in
    let elsewhere = c.in-Ok-read_history.ensures.answer told sigs start.ring.bytes in
    let history = subst (λ (answers : List GitRow). IsHistoryAnswer (world_of answers task.dir sigs start.ring.bytes) start.target task.intro (Ok graph)) c.in_ok-start.ensures.table
    (subst (λ (dir : List ℕ). IsHistoryAnswer (world_of (g.G.GitPort.table c.find_start.new.git) dir sigs start.ring.bytes) start.target task.intro (Ok graph)) c.as_str-2.ensures elsewhere) in
    let later = subst IsTrue (sym c.read_history.ensures.told) told in
    let asks = subst (λ (answers : List GitRow). IsWhole (world_in answers sigs task start.ring) start.target task.intro → HoldsHistory (world_in answers sigs task start.ring) start.target task.intro graph
    → AsksFor (world_in answers sigs task start.ring) task start entries result before now)
    (c.read_history.ensures.table ∙ c.in_ok-start.ensures.table) (c.decide.ensures.asked later sig) history.0 history.1 in
    finding_asks rows sigs task (map.get kept task.cache_key) before now start begins entries cached result asks

pub returns-clause-verdict : goal.returns-clause-verdict
returns-clause-verdict g c = λ git sig keeper.
    let rows = g.G.GitPort.table c.args.git.now in
    let sigs = g.V.SigPort.table c.args.sig.now in
    let task = c.args.task.now in
    let start = c.in_ok-start.start in
    let entries = c.in_ok-entries.entries in
    let result = c.decide.result in
    let graph = c.in-Ok-read_history.graph in
    let kept = g.K.Keeper.kept c.args.keeper.now in
    let begins = c.in_ok-start.ensures.start git in
    let cached : Ok entries ≡ entries_of (scope_of task start.ring) (map.get kept task.cache_key) = cached_ok entries _
    (subst (λ (s : Scope). ◌≡◌ {A = Result (List Id) EngineFail} (Ok entries) (cached_of s (map.get kept task.cache_key))) c.in-Ok.ensures
    (subst (λ (key : List ℕ). ◌≡◌ {A = Result (List Id) EngineFail} (Ok entries) (cached_of c.in-Ok.scope (map.get kept key))) c.as_str.ensures (c.in_ok-entries.ensures.entries keeper))) in
    let told = subst IsTrue (sym c.in_ok-start.ensures.told) git in
    let elsewhere = c.in-Ok-read_history.ensures.answer told sigs start.ring.bytes in
    let history = subst (λ (answers : List GitRow). IsHistoryAnswer (world_of answers task.dir sigs start.ring.bytes) start.target task.intro (Ok graph)) c.in_ok-start.ensures.table
    (subst (λ (dir : List ℕ). IsHistoryAnswer (world_of (g.G.GitPort.table c.find_start.new.git) dir sigs start.ring.bytes) start.target task.intro (Ok graph)) c.as_str-2.ensures elsewhere) in
    let later = subst IsTrue (sym c.read_history.ensures.told) told in
    let verdict = subst (λ (answers : List GitRow). IsWhole (world_in answers sigs task start.ring) start.target task.intro → HoldsHistory (world_in answers sigs task start.ring) start.target task.intro graph
    → IfOk result (IsJudgedVerdict (world_in answers sigs task start.ring) task start entries))
    (c.read_history.ensures.table ∙ c.in_ok-start.ensures.table) (c.decide.ensures.verdict later sig) history.0 history.1 in
    verdict_over rows sigs task (map.get kept task.cache_key) start entries result begins cached verdict
