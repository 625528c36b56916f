-- Sets of keys, by their fingerprints.
use Rattle.std.specs.Prelude.{List, ℕ}
use Rattle.std.proofs.Common.{refl}
use Rattle.std.specs.Cmp.Lexicographic.{slice_cmp}
use Rattle.std.specs.Coded.{Coded, code_by, coded_list, coded_ℕ}
use Rattle.std.specs.FinSet.{FinSet, code}
use Rattle.std.specs.Ordering.{nat_cmp}
use Rattle.std.specs.declared.cmp.Ordering.{Ordering}
use Rattle.child_ports.specs.declared.fingerprint.Fingerprint.{Fingerprint}

-- the order of fingerprints is that of their bytes
abbrev pub key_cmp : Fingerprint → Fingerprint → Ordering
key_cmp a b = slice_cmp nat_cmp a.0 b.0

-- a finite set of fingerprints
abbrev pub Keys : Type 0
Keys = FinSet key_cmp

-- fingerprints as their bytes
abbrev pub coded_keys : Coded Keys
coded_keys = code (code_by (List ℕ) (coded_list coded_ℕ) (λ (key : Fingerprint). key.0) (λ bytes. record { 0 = bytes }) (λ _. refl))
