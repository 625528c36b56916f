use Rattle.std.proofs.Common.{sym, ◌∙◌, ap, arith}
use Rattle.std.specs.Prelude.{IsTrue}
use Rattle.child_ports.specs.Git.{answer}
use Rattle.object_frames.specs.declared.head.Head.TheVariants as head
use Rattle.object_frames.specs.Fetched.{by_body}
use Rattle.object_frames.proofs.OutcomeLemmas.{fetched_by, by_other, by_large, by_rest, gives_it, object_cause, on_ok, found_of, fault_of, frame_end, outcome_is, genuine_of}
use Rattle.object_frames.proofs.fetching.fetch.Goals as goal

pub returns-in-Missing-clause-exact : goal.returns-in-Missing-clause-exact
returns-in-Missing-clause-exact g c = λ tells.
    let limit = c.args.limit in
    let name = c.args.name.now in
    let whole = answer (g.G.GitPort.table c.args.git.now) c.args.dir.now name in
    let rest = g.G.GitPort.pending c.read_head.new.git in
    fetched_by limit name whole head.Missing rest (rw c.in-Missing.is at (c.in_ok-read_head.ensures.head tells))

pub returns-in-Odd-clause-exact : goal.returns-in-Odd-clause-exact
returns-in-Odd-clause-exact g c = λ tells.
    let limit = c.args.limit in
    let name = c.args.name.now in
    let whole = answer (g.G.GitPort.table c.args.git.now) c.args.dir.now name in
    let rest = g.G.GitPort.pending c.read_head.new.git in
    fetched_by limit name whole (head.Odd c.in-Odd.at) rest (rw c.in-Odd.is at (c.in_ok-read_head.ensures.head tells))

pub returns-in-Cut-clause-exact : goal.returns-in-Cut-clause-exact
returns-in-Cut-clause-exact g c = λ tells.
    let limit = c.args.limit in
    let name = c.args.name.now in
    let whole = answer (g.G.GitPort.table c.args.git.now) c.args.dir.now name in
    let rest = g.G.GitPort.pending c.read_head.new.git in
    fetched_by limit name whole (head.Cut c.in-Cut.at) rest (rw c.in-Cut.is at (c.in_ok-read_head.ensures.head tells))

pub returns-then-is_other_id-clause-exact : goal.returns-then-is_other_id-clause-exact
returns-then-is_other_id-clause-exact g c = λ tells.
    let limit = c.args.limit in
    let name = c.args.name.now in
    let whole = answer (g.G.GitPort.table c.args.git.now) c.args.dir.now name in
    let rest = g.G.GitPort.pending c.read_head.new.git in
    let header = c.in-Object.header in
    let said = rw c.in-Object.is at (c.in_ok-read_head.ensures.head tells) in
    fetched_by limit name whole (head.Object header) rest said ∙ by_other limit name header rest (sym c.is_other_id.ensures ∙ c.if-is_other_id.true)

pub returns-then-is_other_id-clause-fault : goal.returns-then-is_other_id-clause-fault
returns-then-is_other_id-clause-fault g c = λ tells.
    let limit = c.args.limit in
    let name = c.args.name.now in
    let whole = answer (g.G.GitPort.table c.args.git.now) c.args.dir.now name in
    let rest = g.G.GitPort.pending c.read_head.new.git in
    let header = c.in-Object.header in
    let said = rw c.in-Object.is at (c.in_ok-read_head.ensures.head tells) in
    let framed = c.in_ok-read_head.ensures.framed tells in
    outcome_is limit name whole framed (head.Object header) rest said _ (by_other limit name header rest (sym c.is_other_id.ensures ∙ c.if-is_other_id.true))

pub returns-then-header-limit-clause-exact : goal.returns-then-header-limit-clause-exact
returns-then-header-limit-clause-exact g c = λ tells.
    let limit = c.args.limit in
    let name = c.args.name.now in
    let whole = answer (g.G.GitPort.table c.args.git.now) c.args.dir.now name in
    let rest = g.G.GitPort.pending c.read_head.new.git in
    let header = c.in-Object.header in
    let said = rw c.in-Object.is at (c.in_ok-read_head.ensures.head tells) in
    fetched_by limit name whole (head.Object header) rest said ∙ by_large limit name header rest (sym c.is_other_id.ensures ∙ c.if-is_other_id.false) (omega arith)

pub returns-then-header-limit-clause-fault : goal.returns-then-header-limit-clause-fault
returns-then-header-limit-clause-fault g c = λ tells.
    let limit = c.args.limit in
    let name = c.args.name.now in
    let whole = answer (g.G.GitPort.table c.args.git.now) c.args.dir.now name in
    let rest = g.G.GitPort.pending c.read_head.new.git in
    let header = c.in-Object.header in
    let said = rw c.in-Object.is at (c.in_ok-read_head.ensures.head tells) in
    let framed = c.in_ok-read_head.ensures.framed tells in
    outcome_is limit name whole framed (head.Object header) rest said _ (by_large limit name header rest (sym c.is_other_id.ensures ∙ c.if-is_other_id.false) (omega arith))

pub returns-in-Cut-2-clause-exact : goal.returns-in-Cut-2-clause-exact
returns-in-Cut-2-clause-exact g c = λ tells.
    let limit = c.args.limit in
    let name = c.args.name.now in
    let whole = answer (g.G.GitPort.table c.args.git.now) c.args.dir.now name in
    let rest = g.G.GitPort.pending c.read_head.new.git in
    let header = c.in-Object.header in
    let said = rw c.in-Object.is at (c.in_ok-read_head.ensures.head tells) in
    let told = c.read_head.ensures.told ∙ tells in
    let at_body = by_rest limit name header rest (sym c.is_other_id.ensures ∙ c.if-is_other_id.false) (omega arith) ∙ ap (by_body header) (sym (c.in_ok-content.ensures.body told) ∙ c.in-Cut-2.is) in
    fetched_by limit name whole (head.Object header) rest said ∙ at_body

pub returns-in-Cut-2-clause-fault : goal.returns-in-Cut-2-clause-fault
returns-in-Cut-2-clause-fault g c = λ tells.
    let limit = c.args.limit in
    let name = c.args.name.now in
    let whole = answer (g.G.GitPort.table c.args.git.now) c.args.dir.now name in
    let rest = g.G.GitPort.pending c.read_head.new.git in
    let header = c.in-Object.header in
    let said = rw c.in-Object.is at (c.in_ok-read_head.ensures.head tells) in
    let told = c.read_head.ensures.told ∙ tells in
    let at_body = by_rest limit name header rest (sym c.is_other_id.ensures ∙ c.if-is_other_id.false) (omega arith) ∙ ap (by_body header) (sym (c.in_ok-content.ensures.body told) ∙ c.in-Cut-2.is) in
    let framed = c.in_ok-read_head.ensures.framed tells in
    outcome_is limit name whole framed (head.Object header) rest said _ at_body

pub returns-in-Open-clause-exact : goal.returns-in-Open-clause-exact
returns-in-Open-clause-exact g c = λ tells.
    let limit = c.args.limit in
    let name = c.args.name.now in
    let whole = answer (g.G.GitPort.table c.args.git.now) c.args.dir.now name in
    let rest = g.G.GitPort.pending c.read_head.new.git in
    let header = c.in-Object.header in
    let said = rw c.in-Object.is at (c.in_ok-read_head.ensures.head tells) in
    let told = c.read_head.ensures.told ∙ tells in
    let at_body = by_rest limit name header rest (sym c.is_other_id.ensures ∙ c.if-is_other_id.false) (omega arith) ∙ ap (by_body header) (sym (c.in_ok-content.ensures.body told) ∙ c.in-Open.is) in
    fetched_by limit name whole (head.Object header) rest said ∙ at_body

pub returns-in-Open-clause-fault : goal.returns-in-Open-clause-fault
returns-in-Open-clause-fault g c = λ tells.
    let limit = c.args.limit in
    let name = c.args.name.now in
    let whole = answer (g.G.GitPort.table c.args.git.now) c.args.dir.now name in
    let rest = g.G.GitPort.pending c.read_head.new.git in
    let header = c.in-Object.header in
    let said = rw c.in-Object.is at (c.in_ok-read_head.ensures.head tells) in
    let told = c.read_head.ensures.told ∙ tells in
    let at_body = by_rest limit name header rest (sym c.is_other_id.ensures ∙ c.if-is_other_id.false) (omega arith) ∙ ap (by_body header) (sym (c.in_ok-content.ensures.body told) ∙ c.in-Open.is) in
    let framed = c.in_ok-read_head.ensures.framed tells in
    outcome_is limit name whole framed (head.Object header) rest said _ at_body

pub returns-in-Whole-clause-exact : goal.returns-in-Whole-clause-exact
returns-in-Whole-clause-exact g c = λ tells.
    let limit = c.args.limit in
    let name = c.args.name.now in
    let whole = answer (g.G.GitPort.table c.args.git.now) c.args.dir.now name in
    let rest = g.G.GitPort.pending c.read_head.new.git in
    let header = c.in-Object.header in
    let said = rw c.in-Object.is at (c.in_ok-read_head.ensures.head tells) in
    let told = c.read_head.ensures.told ∙ tells in
    let at_body = by_rest limit name header rest (sym c.is_other_id.ensures ∙ c.if-is_other_id.false) (omega arith) ∙ ap (by_body header) (sym (c.in_ok-content.ensures.body told) ∙ c.in-Whole.is) in
    gives_it c.object_of.result _ (c.object_of.ensures ∙ sym (fetched_by limit name whole (head.Object header) rest said ∙ at_body))

pub returns-in-Whole-clause-end : goal.returns-in-Whole-clause-end
returns-in-Whole-clause-end g c =
    let limit = c.args.limit in
    let name = c.args.name.now in
    let whole = answer (g.G.GitPort.table c.args.git.now) c.args.dir.now name in
    let rest = g.G.GitPort.pending c.read_head.new.git in
    let header = c.in-Object.header in
    let content = c.in-Whole.content in
    on_ok _ c.object_of.result (λ tells.
    let said = rw c.in-Object.is at (c.in_ok-read_head.ensures.head tells) in
    let told = c.read_head.ensures.told ∙ tells in
    let size = rw c.in-Whole.is at c.in_ok-content.ensures.within in
    let more = rw c.in-Whole.is at (c.in_ok-content.ensures.rest told) in
    frame_end name whole (c.in_ok-read_head.ensures.framed tells) header rest content (g.G.GitPort.pending c.read_body.new.git) said.0 size more)

pub returns-in-Whole-clause-found : goal.returns-in-Whole-clause-found
returns-in-Whole-clause-found g c =
    let limit = c.args.limit in
    let name = c.args.name.now in
    let whole = answer (g.G.GitPort.table c.args.git.now) c.args.dir.now name in
    let rest = g.G.GitPort.pending c.read_head.new.git in
    let header = c.in-Object.header in
    let content = c.in-Whole.content in
    found_of limit name whole (IsTrue (g.G.GitPort.tells c.args.git.now)) c.object_of.result (λ tells.
    let said = rw c.in-Object.is at (c.in_ok-read_head.ensures.head tells) in
    let told = c.read_head.ensures.told ∙ tells in
    let at_body = by_rest limit name header rest (sym c.is_other_id.ensures ∙ c.if-is_other_id.false) (omega arith) ∙ ap (by_body header) (sym (c.in_ok-content.ensures.body told) ∙ c.in-Whole.is) in
    outcome_is limit name whole (c.in_ok-read_head.ensures.framed tells) (head.Object header) rest said c.object_of.result (at_body ∙ sym c.object_of.ensures))

pub returns-in-Whole-clause-fault : goal.returns-in-Whole-clause-fault
returns-in-Whole-clause-fault g c =
    let limit = c.args.limit in
    let name = c.args.name.now in
    let whole = answer (g.G.GitPort.table c.args.git.now) c.args.dir.now name in
    let rest = g.G.GitPort.pending c.read_head.new.git in
    let header = c.in-Object.header in
    let content = c.in-Whole.content in
    fault_of limit name whole (IsTrue (g.G.GitPort.tells c.args.git.now)) c.object_of.result (λ tells.
    let said = rw c.in-Object.is at (c.in_ok-read_head.ensures.head tells) in
    let told = c.read_head.ensures.told ∙ tells in
    let at_body = by_rest limit name header rest (sym c.is_other_id.ensures ∙ c.if-is_other_id.false) (omega arith) ∙ ap (by_body header) (sym (c.in_ok-content.ensures.body told) ∙ c.in-Whole.is) in
    outcome_is limit name whole (c.in_ok-read_head.ensures.framed tells) (head.Object header) rest said c.object_of.result (at_body ∙ sym c.object_of.ensures))

pub returns-in-Whole-clause-genuine : goal.returns-in-Whole-clause-genuine
returns-in-Whole-clause-genuine g c =
    let size = rw c.in-Whole.is at c.in_ok-content.ensures.within in
    genuine_of c.args.limit c.args.name.now c.in-Object.header c.in-Whole.content (sym c.is_other_id.ensures ∙ c.if-is_other_id.false) (omega (arith, size)) c.object_of.result c.object_of.ensures

pub returns-in-Whole-clause-cause : goal.returns-in-Whole-clause-cause
returns-in-Whole-clause-cause g c =
    object_cause c.in-Object.header c.in-Whole.content _ _ (c.in_ok-content.ensures.cause ∙ c.in_ok-read_head.ensures.cause) c.object_of.result c.object_of.ensures
