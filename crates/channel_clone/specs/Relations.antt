-- How two commits of a repository stand to each other.
use Rattle.std.specs.Prelude.{◌≡◌, Result, Ok, Err}
use Rattle.commit_graph.specs.declared.relation.Relation.{Relation}
use Rattle.commit_graph.specs.Relation.{IsRelation}
use Rattle.commit_history.specs.declared.fail.HistoryFail.{HistoryFail}
use Rattle.commit_history.specs.Answers.{IsHistoryAnswer}
use Rattle.commit_history.specs.Members.{history, IsWhole}
use Rattle.auth_rules.specs.World.{World, Id}
use Rattle.auth_engine.specs.declared.engine_fail.EngineFail.{EngineFail}
use Rattle.auth_engine.specs.Steps.{engine_fail}

-- The relation, where all that the two reach can be read and ranked; else why not, as of target and introduction.
abbrev pub IsRelationAnswer : World → Id → Id → Result Relation EngineFail → Type 0
IsRelationAnswer w old new (Ok relation) = IsWhole w old new × IsRelation (history w) old new relation
IsRelationAnswer w old new (Err fail) = (why : HistoryFail) × (fail ≡ engine_fail why) × IsHistoryAnswer w old new (Err why)
