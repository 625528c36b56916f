use Rattle.std.proofs.Common.{take, sym, ◌∙◌, arith}
use Rattle.child_ports.specs.Git.{answer}
use Rattle.child_ports.proofs.NamedLemmas.{named_once, id_unnamed}
use Rattle.object_frames.proofs.HeadLemmas.{starts, small_head}
use Rattle.object_frames.proofs.head.read_head.Goals as goal

pub returns-clause-head : goal.returns-clause-head
returns-clause-head g c = λ tells.
    let name = c.args.name.now in
    let whole = answer (g.G.GitPort.table c.args.git.now) c.args.dir.now name in
    let rest = g.G.GitPort.pending c.read_line.new.git in
    let line = take c.in_ok-n.n c.read_line.new.line in
    let room = c.max-room.result in
    let asked = c.in_ok-ask.ensures.answer tells in
    let told = c.ask.ensures.told ∙ tells in
    starts name whole line rest room c.requires (omega (arith, c.max-room.ensures)) (omega (arith, c.max-room.ensures)) (c.in_ok-n.ensures.piece told)
    (sym asked ∙ c.in_ok-n.ensures.bytes told) c.head_of.result c.head_of.ensures

pub returns-clause-small : goal.returns-clause-small
returns-clause-small g c = small_head c.args.name.now (take c.in_ok-n.n c.read_line.new.line) c.head_of.result c.head_of.ensures

pub returns-in_err-ask-clause-named : goal.returns-in_err-ask-clause-named
returns-in_err-ask-clause-named g c = named_once c.args.name.now _ _ c.ask.ensures.named

pub returns-in_err-n-clause-named : goal.returns-in_err-n-clause-named
returns-in_err-n-clause-named g c = named_once c.args.name.now _ _ (c.read_line.ensures.named ∙ c.ask.ensures.named)

pub returns-clause-named : goal.returns-clause-named
returns-clause-named g c = named_once c.args.name.now _ _ (c.read_line.ensures.named ∙ c.ask.ensures.named)

pub returns-in_err-ask-clause-by_id : goal.returns-in_err-ask-clause-by_id
returns-in_err-ask-clause-by_id g c = λ full. id_unnamed c.args.name.now _ _ full c.ask.ensures.named

pub returns-in_err-n-clause-by_id : goal.returns-in_err-n-clause-by_id
returns-in_err-n-clause-by_id g c = λ full. id_unnamed c.args.name.now _ _ full (c.read_line.ensures.named ∙ c.ask.ensures.named)

pub returns-clause-by_id : goal.returns-clause-by_id
returns-clause-by_id g c = λ full. id_unnamed c.args.name.now _ _ full (c.read_line.ensures.named ∙ c.ask.ensures.named)
