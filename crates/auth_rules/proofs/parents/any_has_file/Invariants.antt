use Rattle.std.proofs.Common.{◌≡◌, ◌||◌, drop, Ok}
use Rattle.std.specs.Prelude.{IsTrue}
use Rattle.auth_rules.specs.World.{onward}
use Rattle.auth_rules.specs.Consulting.{git_world, any_of}
use Rattle.auth_rules.proofs.parents.any_has_file.Given as goal

abbrev pub invariant-loop-id : goal.invariant-loop-id
invariant-loop-id g l = record {
  told : g.G.GitPort.tells l.git ≡ g.G.GitPort.tells l.fn.git;
  table : g.G.GitPort.table l.git ≡ g.G.GitPort.table l.fn.git;
  named : g.G.GitPort.named l.git ≡ g.G.GitPort.named l.fn.git;
  faults : g.G.GitPort.faults l.git ≡ g.G.GitPort.faults l.fn.git;
  so_far : IsTrue (g.G.GitPort.tells l.fn.git) →
      let w = git_world (g.G.GitPort.table l.fn.git) l.dir in
      any_of w l.ids ≡ onward (any_of w (drop l.id-index l.ids)) (λ rest. Ok (l.any || rest));
}
