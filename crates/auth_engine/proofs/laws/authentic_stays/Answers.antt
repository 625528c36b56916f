use Rattle.auth_engine.proofs.GrowthLemmas.{world_grows, authentic_stays}
use Rattle.auth_engine.specs.Starting.{world_in}
use Rattle.auth_engine.proofs.laws.authentic_stays.Goals as goal

pub returns : goal.returns
returns c = record {
  stays = λ rows rows' sigs sigs' task ring s keys target objects verdicts auth.
      authentic_stays (world_in rows sigs task ring) (world_in rows' sigs' task ring) (world_grows task.dir rows rows' sigs sigs' ring.bytes objects verdicts) s keys target auth;
}
