use Rattle.std.proofs.Common.{◌≡◌, List, ℕ, take, IfSome, sym, subst}
use Rattle.real_ports.proofs.TakeLemmas.{front_of_known}
use Rattle.real_ports.proofs.file_front.front_of.Goals as goal

pub returns : goal.returns
returns g c =
    let known = front_of_known g.F.Read.remaining c.take.result c.args.file 67108865 c.new-bytes.result.items c.read_to_end.new.buf.items c.take.ensures.limit c.take.ensures.inner c.new-bytes.ensures.items c.in_ok-read_to_end.ensures.bytes in
    subst (λ (front : List ℕ). IfSome (g.F.Read.remaining c.args.file) (λ bytes. front ≡ take 67108865 bytes)) (sym c.from_vec.ensures) known
