use Rattle.std.proofs.Common.{rules, append_assoc}
use Rattle.real_ports.proofs.gpgv_files.file_path.Goals as goal

pub returns : goal.returns
returns c = search (rules, append_assoc)
