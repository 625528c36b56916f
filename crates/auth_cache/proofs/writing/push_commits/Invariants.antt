use Rattle.std.proofs.Common.{◌≡◌, ◌++◌, take}
use Rattle.std.specs.List.{AllByRecursion, flat_map}
use Rattle.object_frames.specs.Id.{IsId}
use Rattle.auth_cache.specs.Text.{commit_line}
use Rattle.auth_cache.proofs.writing.push_commits.Given as goal

abbrev pub invariant-loop-id : goal.invariant-loop-id
invariant-loop-id l = record {
  text : l.text ≡ l.fn.text ++ flat_map commit_line (take l.id-index l.ids);
  each : AllByRecursion IsId (take l.id-index l.ids);
}
