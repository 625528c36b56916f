use Rattle.stand_world.proofs.ToyLemmas.{said_of, said_of_none}
use Rattle.stand_world.proofs.status.toy_status.Goals as goal

pub returns-clause-signed : goal.returns-clause-signed
returns-clause-signed c = said_of c.status_of.result c.args.keyring.now c.args.signature.now c.args.payload.now c.status_of.ensures

pub returns-clause-unsigned : goal.returns-clause-unsigned
returns-clause-unsigned c = said_of_none c.status_of.result c.args.keyring.now c.args.signature.now c.args.payload.now c.status_of.ensures
