use Rattle.auth_engine.proofs.LimitLemmas.{target_names, keyring_names}
use Rattle.auth_engine.proofs.starting.find_start.Goals as goal

pub find_target-requires : goal.find_target-requires
find_target-requires g c = target_names c.args.task.now c.requires.fits

pub find_ring-requires : goal.find_ring-requires
find_ring-requires g c = keyring_names c.args.task.now c.requires.fits
