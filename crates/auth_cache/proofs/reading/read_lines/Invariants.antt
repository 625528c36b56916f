use Rattle.std.proofs.Common.{◌≡◌, ◌≤◌, ◌-◌, length}
use Rattle.auth_cache.specs.declared.front.Front.TheVariants.{Versioned}
use Rattle.auth_cache.proofs.ReadingLemmas.{run_on}
use Rattle.auth_cache.proofs.reading.read_lines.Given as goal

abbrev pub invariant-lines : goal.invariant-lines
invariant-lines l = record {
  inside : length l.rest ≤ l.size;
  same : run_on (l.size - length l.rest) l.front l.rest ≡ run_on (l.size - length l.fn.text) Versioned l.fn.text;
}

abbrev pub decreases-lines : goal.decreases-lines
decreases-lines l = length l.rest
