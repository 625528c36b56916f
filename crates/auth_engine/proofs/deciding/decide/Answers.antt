use Rattle.std.proofs.Common.{◌≡◌, ◌∙◌, ℕ, List, None, refl, sym, subst}
use Rattle.std.specs.Prelude.{IsTrue, All}
use Rattle.child_ports.specs.declared.git.GitRow.{GitRow}
use Rattle.authorizations.specs.declared.scope.Scope.{Scope}
use Rattle.commit_graph.specs.History.{History, IsParent}
use Rattle.auth_rules.specs.Answers.{ListsParents}
use Rattle.auth_rules.specs.Rules.{intro_cause}
use Rattle.auth_rules.specs.World.{world_of}
use Rattle.auth_engine.specs.Asked.{AsksNew}
use Rattle.auth_engine.specs.Judging.{more}
use Rattle.auth_engine.specs.SoundCache.{IsSoundEntry}
use Rattle.auth_engine.specs.Starting.{scope_of, world_in}
use Rattle.auth_engine.specs.Steps.{JudgesNew}
use Rattle.auth_engine.proofs.AskedLemmas.{decided_asks}
use Rattle.auth_engine.proofs.OutcomeLemmas.{moved, unrelated, verdict_found, found}
use Rattle.auth_engine.proofs.deciding.decide.Goals as goal

pub returns-in_default-clause-answer : goal.returns-in_default-clause-answer
returns-in_default-clause-answer g c = λ git sig whole holds sound.
    let rows = g.G.GitPort.table c.args.git.now in
    let sigs = g.V.SigPort.table c.args.sig.now in
    let told = subst IsTrue (sym c.load_ring.ensures.told) sig in
    let introduced = moved (λ dir sigs bytes s. intro_cause (world_of rows dir sigs bytes) s c.args.start.now.ring.keys ≡ None) _ _ _ _ _ _ _ _
    c.as_str.ensures c.load_ring.ensures.table c.in_ok-load_ring.ensures.loaded c.requires.scope_is (c.in_ok-judge_intro.ensures.answer git told) in
    unrelated (world_in rows sigs c.args.task.now c.args.start.now.ring) c.args.task.now c.args.start.now c.args.graph.now whole holds introduced c.args.entries.now c.in_default.ensures.relates

pub returns-clause-answer : goal.returns-clause-answer
returns-clause-answer g c = λ git sig whole holds sound.
    let rows = g.G.GitPort.table c.args.git.now in
    let sigs = g.V.SigPort.table c.args.sig.now in
    let task = c.args.task.now in
    let start = c.args.start.now in
    let keys = start.ring.keys in
    let entries = c.args.entries.now in
    let older = c.in-Some.older in
    let told = subst IsTrue (sym c.load_ring.ensures.told) sig in
    let introduced = moved (λ dir sigs bytes s. intro_cause (world_of rows dir sigs bytes) s keys ≡ None) _ _ _ _ _ _ _ _
    c.as_str.ensures c.load_ring.ensures.table c.in_ok-load_ring.ensures.loaded c.requires.scope_is (c.in_ok-judge_intro.ensures.answer git told) in
    let git_told = subst IsTrue (sym c.judge_intro.ensures.git_told) git in
    let sig_told = subst IsTrue (sym (c.judge_intro.ensures.sig_told ∙ c.load_ring.ensures.told)) sig in
    let later = g.G.GitPort.table c.judge_intro.new.git in
    let elsewhere = moved (λ dir sigs bytes s. ListsParents (world_of later dir sigs bytes) c.relate.new.graph.held → JudgesNew (world_of later dir sigs bytes) task s keys c.relate.new.graph.held start.target entries older c.judge_new.result) _ _ _ _ _ _ _ _
    refl (c.judge_intro.ensures.sig_table ∙ c.load_ring.ensures.table) (c.judge_intro.ensures.loaded ∙ c.in_ok-load_ring.ensures.loaded) c.requires.scope_is
    (c.judge_new.ensures.answer git_told sig_told) in
    let w = world_in rows sigs task start.ring in
    let judged = subst (λ (graph : History). ListsParents w graph.held → JudgesNew w task (scope_of task start.ring) keys graph.held start.target entries older c.judge_new.result) c.relate.ensures.same
    (subst (λ (answers : List GitRow). ListsParents (world_of answers task.dir sigs start.ring.bytes) c.relate.new.graph.held
    → JudgesNew (world_of answers task.dir sigs start.ring.bytes) task (scope_of task start.ring) keys c.relate.new.graph.held start.target entries older c.judge_new.result) c.judge_intro.ensures.git_table elsewhere) in
    let clear = subst (λ (s : Scope). All (IsSoundEntry w s keys) entries) c.requires.scope_is sound in
    found w task start c.args.graph.now whole holds introduced entries older c.in-Some.ensures.relates clear c.judge_new.result (judged holds.lists)

pub returns-clause-verdict : goal.returns-clause-verdict
returns-clause-verdict g c = λ git sig whole holds.
    let rows = g.G.GitPort.table c.args.git.now in
    let sigs = g.V.SigPort.table c.args.sig.now in
    let task = c.args.task.now in
    let start = c.args.start.now in
    let keys = start.ring.keys in
    let entries = c.args.entries.now in
    let older = c.in-Some.older in
    let told = subst IsTrue (sym c.load_ring.ensures.told) sig in
    let introduced = moved (λ dir sigs bytes s. intro_cause (world_of rows dir sigs bytes) s keys ≡ None) _ _ _ _ _ _ _ _
    c.as_str.ensures c.load_ring.ensures.table c.in_ok-load_ring.ensures.loaded c.requires.scope_is (c.in_ok-judge_intro.ensures.answer git told) in
    let git_told = subst IsTrue (sym c.judge_intro.ensures.git_told) git in
    let sig_told = subst IsTrue (sym (c.judge_intro.ensures.sig_told ∙ c.load_ring.ensures.told)) sig in
    let later = g.G.GitPort.table c.judge_intro.new.git in
    let elsewhere = moved (λ dir sigs bytes s. ListsParents (world_of later dir sigs bytes) c.relate.new.graph.held → JudgesNew (world_of later dir sigs bytes) task s keys c.relate.new.graph.held start.target entries older c.judge_new.result) _ _ _ _ _ _ _ _
    refl (c.judge_intro.ensures.sig_table ∙ c.load_ring.ensures.table) (c.judge_intro.ensures.loaded ∙ c.in_ok-load_ring.ensures.loaded) c.requires.scope_is
    (c.judge_new.ensures.answer git_told sig_told) in
    let w = world_in rows sigs task start.ring in
    let judged = subst (λ (graph : History). ListsParents w graph.held → JudgesNew w task (scope_of task start.ring) keys graph.held start.target entries older c.judge_new.result) c.relate.ensures.same
    (subst (λ (answers : List GitRow). ListsParents (world_of answers task.dir sigs start.ring.bytes) c.relate.new.graph.held
    → JudgesNew (world_of answers task.dir sigs start.ring.bytes) task (scope_of task start.ring) keys c.relate.new.graph.held start.target entries older c.judge_new.result) c.judge_intro.ensures.git_table elsewhere) in
    verdict_found w task start c.args.graph.now whole holds introduced entries older c.in-Some.ensures.relates c.judge_new.result (judged holds.lists)

pub returns-clause-asked : goal.returns-clause-asked
returns-clause-asked g c = λ git sig whole holds.
    let rows = g.G.GitPort.table c.args.git.now in
    let sigs = g.V.SigPort.table c.args.sig.now in
    let task = c.args.task.now in
    let start = c.args.start.now in
    let keys = start.ring.keys in
    let entries = c.args.entries.now in
    let older = c.in-Some.older in
    let result = c.judge_new.result in
    let before = g.V.SigPort.asked c.args.sig.now in
    let mid = g.V.SigPort.asked c.judge_intro.new.sig in
    let now = g.V.SigPort.asked c.judge_new.new.sig in
    let told = subst IsTrue (sym c.load_ring.ensures.told) sig in
    let git_told = subst IsTrue (sym c.judge_intro.ensures.git_told) git in
    let sig_told = subst IsTrue (sym (c.judge_intro.ensures.sig_told ∙ c.load_ring.ensures.told)) sig in
    let later = g.G.GitPort.table c.judge_intro.new.git in
    let intro : mid ≡ more 1 before = subst (λ (n : ℕ). mid ≡ more 1 n) c.load_ring.ensures.asked (c.in_ok-judge_intro.ensures.asked git told) in
    let elsewhere = moved (λ dir sigs bytes s. ListsParents (world_of later dir sigs bytes) c.relate.new.graph.held → JudgesNew (world_of later dir sigs bytes) task s keys c.relate.new.graph.held start.target entries older result
    × AsksNew (world_of later dir sigs bytes) (IsParent c.relate.new.graph.held) start.target s.intro entries result mid now) _ _ _ _ _ _ _ _
    refl (c.judge_intro.ensures.sig_table ∙ c.load_ring.ensures.table) (c.judge_intro.ensures.loaded ∙ c.in_ok-load_ring.ensures.loaded) c.requires.scope_is
    (λ lists. (c.judge_new.ensures.answer git_told sig_told lists, c.judge_new.ensures.asked git_told sig_told lists)) in
    let w = world_in rows sigs task start.ring in
    let both = subst (λ (graph : History). ListsParents w graph.held → JudgesNew w task (scope_of task start.ring) keys graph.held start.target entries older result
    × AsksNew w (IsParent graph.held) start.target task.intro entries result mid now) c.relate.ensures.same
    (subst (λ (answers : List GitRow). ListsParents (world_of answers task.dir sigs start.ring.bytes) c.relate.new.graph.held
    → JudgesNew (world_of answers task.dir sigs start.ring.bytes) task (scope_of task start.ring) keys c.relate.new.graph.held start.target entries older result
    × AsksNew (world_of answers task.dir sigs start.ring.bytes) (IsParent c.relate.new.graph.held) start.target task.intro entries result mid now) c.judge_intro.ensures.git_table elsewhere) in
    let facts = both holds.lists in
    decided_asks w task start entries c.args.graph.now whole holds before mid now intro (scope_of task start.ring) keys older result facts.0 facts.1
