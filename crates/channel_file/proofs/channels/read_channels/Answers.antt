use Rattle.channel_file.proofs.FitLemmas.{answer_listed}
use Rattle.channel_file.proofs.channels.read_channels.Goals as goal

pub returns-clause-listed : goal.returns-clause-listed
returns-clause-listed c = answer_listed c.args.bytes.now c.read_list.result c.read_list.ensures.reads
