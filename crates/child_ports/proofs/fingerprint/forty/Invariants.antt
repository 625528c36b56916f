use Rattle.std.proofs.Common.{◌≡◌, ◌≤◌, length, take}
use Rattle.child_ports.specs.Fingerprint.{squeezed}
use Rattle.child_ports.proofs.fingerprint.forty.Given as goal

-- what is kept so far is what is left of the bytes so far
abbrev pub invariant-bytes : goal.invariant-bytes
invariant-bytes l = record {
  kept : take l.count l.digits ≡ squeezed (take l.byte-index l.text);
  size : length l.digits ≡ 40;
  room : l.count ≤ 40;
}
