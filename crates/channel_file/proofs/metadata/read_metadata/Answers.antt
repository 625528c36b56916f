use Rattle.channel_file.proofs.FitLemmas.{answer_fit}
use Rattle.channel_file.proofs.metadata.read_metadata.Goals as goal

pub returns-clause-fit : goal.returns-clause-fit
returns-clause-fit c = answer_fit c.args.bytes.now c.read_properties.result c.read_properties.ensures.reads
