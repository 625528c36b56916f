-- How often each key signed.
use Rattle.std.specs.Prelude.{◌≡◌, ◌⊎◌, ◌↔◌, ℕ, ◌<◌, bytes_eq, List, Contains, AllPairs, count_by}
use Rattle.std.specs.Ordering.{nat_cmp}
use Rattle.std.specs.Cmp.Lexicographic.{slice_cmp}
use Rattle.std.specs.declared.cmp.Ordering.TheVariants.{Less}
use Rattle.child_ports.specs.declared.fingerprint.Fingerprint.{Fingerprint}
use Rattle.auth_engine.specs.declared.task.Signer.{Signer}

-- how many of the signers are this key
abbrev pub count_of : List Fingerprint → Fingerprint → ℕ
count_of signers key = count_by (λ (found : Fingerprint). bytes_eq found.0 key.0) signers

-- it signed more, or as many and its fingerprint is less
abbrev pub RanksAbove : Signer → Signer → Type 0
RanksAbove a b = (b.commits < a.commits) ⊎ ((a.commits ≡ b.commits) × (slice_cmp nat_cmp a.key.0 b.key.0 ≡ Less))

-- each signer once, with the number of commits that it signed, in that order
pub record IsTally (signers : List Fingerprint) (rows : List Signer) : Type 0 where
  pub counts : (key : Fingerprint) (n : ℕ) → Contains rows (record { key = key; commits = n }) ↔ ((0 < n) × (count_of signers key ≡ n))
  pub ordered : AllPairs RanksAbove rows
