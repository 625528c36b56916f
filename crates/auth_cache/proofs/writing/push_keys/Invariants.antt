use Rattle.std.proofs.Common.{◌≡◌, ◌++◌, take}
use Rattle.std.specs.List.{AllByRecursion, flat_map}
use Rattle.auth_cache.specs.Keys.{IsKey}
use Rattle.auth_cache.specs.Text.{historical_line}
use Rattle.auth_cache.proofs.writing.push_keys.Given as goal

abbrev pub invariant-loop-key : goal.invariant-loop-key
invariant-loop-key l = record {
  text : l.text ≡ l.fn.text ++ flat_map historical_line (take l.key-index l.keys);
  each : AllByRecursion IsKey (take l.key-index l.keys);
}
