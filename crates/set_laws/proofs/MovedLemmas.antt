-- No channel has both a move and a refusal of it.
use Rattle.std.proofs.Common.{◌≡◌, ◌≢◌, inl, ℕ, Bool, List, [], Option, Some, None, Result, Ok, Err, sym, ap, subst, ◌∙◌}
use Rattle.std.specs.Prelude.{IfErr}
use Rattle.std.specs.FinMap as map
use Rattle.child_ports.specs.declared.git.GitRow.{GitRow}
use Rattle.channel_file.specs.declared.channel.Channel.{Channel}
use Rattle.commit_graph.specs.declared.relation.Relation.{Relation}
use Rattle.commit_graph.proofs.ChainLemmas.{reach_itself}
use Rattle.commit_history.specs.Members.{history}
use Rattle.auth_rules.specs.declared.cause.What.TheVariants.{Missing}
use Rattle.auth_rules.specs.World.{World, Id, world_of, commit_at}
use Rattle.auth_engine.specs.Answers.{IsStop}
use Rattle.auth_engine.specs.declared.engine_fail.EngineFail.{EngineFail}
use Rattle.channel_clone.specs.Relations.{IsRelationAnswer}
use Rattle.channel_deps.specs.Moves.{if_allowed, move_by, move_of, IsMove, IsMoveIn, IsMoveOver, IsMoveFrom, IsRecorded}
use Rattle.channel_deps.specs.Outside.{Outside}
use Rattle.channel_deps.specs.Places.{clone_of, deployed_key}
use Rattle.channel_deps.specs.declared.set.Move.{Move}
use Rattle.channel_deps.specs.declared.set.Move.TheVariants.{New, Lost}
use Rattle.channel_deps.specs.declared.set_fail.SetFail.{SetFail}
use Rattle.channel_deps.specs.declared.set_fail.SetFail.TheVariants.{Channel as OfChannel, Record, DeployedMissing}
use Rattle.set_laws.proofs.RelationLemmas.{one_relation, whole_read}

pub moved_refused : (to : Move) (fail : SetFail) (r : Result Move SetFail) → Ok to ≡ r → Err fail ≡ r → ⊥
moved_refused to fail r is also = absurd (cc)

module _ (allowed : Bool) (channel : Channel) (new : Id) (to : Move) (fail : SetFail) where
  between : (w : World) (old : Id) (f g : Result Relation EngineFail) → IsRelationAnswer w old new f → IsRelationAnswer w old new g
      → IfErr g (λ why. ¬ IsStop why) → Ok to ≡ move_of allowed channel old new f → Err fail ≡ move_of allowed channel old new g → ⊥
  between w old (Err e) g x y found is none = absurd (cc)
  between w old (Ok r) (Err e) x y found is none = whole_read w old new y.0 (subst (λ (why : EngineFail). ¬ IsStop why) y.1 found) x.0 y.2
  between w old (Ok r) (Ok q) x y found is none =
      let same : r ≡ q = one_relation (history w) old new (x.0.ranked old (inl (reach_itself old))) r q x.1 y.1 in
      moved_refused to fail (move_by allowed channel old new q) (is ∙ ap (λ (z : Relation). move_by allowed channel old new z) same) none

  module _ (rows : List GitRow) (dir : List ℕ) where
    from : (old : Id) → IsMoveFrom rows dir allowed channel old new (Ok to) → IsMoveFrom rows dir allowed channel old new (Err fail) → ⊥
    from old made refused =
        let there : commit_at rows dir old ≢ Err Missing = λ missing. moved_refused to fail (if_allowed allowed Lost (DeployedMissing channel.name old)) (made.lost missing) (refused.lost missing) in
        let a = made.there there in
        let b = refused.there there in
        between (world_of rows dir [] []) old a.0 b.0 a.1 b.1 b.2 a.3 b.3

    over : (bytes : List ℕ) → IsMoveOver rows dir allowed channel new bytes (Ok to) → IsMoveOver rows dir allowed channel new bytes (Err fail) → ⊥
    over bytes made refused =
        let none : (old : Id) → ¬ IsRecorded bytes old = λ old is. from old (made.0 old is) (refused.0 old is) in
        moved_refused to fail (Err (Record channel.name)) (made.1 none) (refused.1 none)

    by_kept : (kept : Option (List ℕ)) → IsMoveIn rows kept dir allowed channel new (Ok to) → IsMoveIn rows kept dir allowed channel new (Err fail) → ⊥
    by_kept None made refused = moved_refused to fail (Ok New) made refused
    by_kept (Some bytes) made refused = over bytes made refused

-- a channel that has a move isn't refused for it
pub one_move : (o : Outside) (clones : List ℕ) (allowed : Bool) (channel : Channel) (new : Id) (to : Move) (fail : SetFail)
    → IsMove o clones allowed channel new (Ok to) → IsMove o clones allowed channel new (Err fail) → ⊥
one_move o clones allowed channel new to fail made refused =
    by_kept allowed channel new to fail o.answers (clone_of clones channel) (map.get o.kept (deployed_key channel)) made refused
