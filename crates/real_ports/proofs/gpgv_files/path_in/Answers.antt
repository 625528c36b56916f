use Rattle.std.proofs.Common.{ℕ, List, IfOk, subst, ◌∙◌}
use Rattle.std.specs.Path.{IsAbsoluteOf, path_buf_bytes}
use Rattle.real_ports.proofs.gpgv_files.path_in.Goals as goal

pub returns : goal.returns
returns g c =
    subst (λ (file : List ℕ). IfOk c.absolute.result (λ path. IsAbsoluteOf file (path_buf_bytes path))) (c.as_str.ensures.value ∙ c.in_ok-path.ensures) c.absolute.ensures.ok
