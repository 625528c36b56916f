use Rattle.std.proofs.Common.{◌≡◌, ◌++◌, length, true}
use Rattle.std.specs.List.{list_all}
use Rattle.byte_cuts.specs.Cuts.{parts_at}
use Rattle.stand_world.specs.Names.{is_name}
use Rattle.stand_world.proofs.line.read_names.Given as goal

abbrev pub invariant-names : goal.invariant-names
invariant-names l = record {
  cut : l.names ++ parts_at 44 l.rest ≡ parts_at 44 l.text;
  named : list_all is_name l.names ≡ true;
}

abbrev pub decreases-names : goal.decreases-names
decreases-names l = length l.rest
