-- Results that may be faults.
use Rattle.std.specs.Prelude.{◌≡◌, Result, Ok, Err}
use Rattle.keyring_branch.specs.declared.key_fail.KeyFail.{KeyFail}
use Rattle.keyring_branch.specs.declared.key_fail.KeyFail.TheVariants.{Memory}

-- what follows what was found, unless that is a fault
abbrev pub onward : {A B E : Type 0} → Result A E → (A → Result B E) → Result B E
onward (Ok found) next = next found
onward (Err fault) next = Err fault

-- What a call on a key file answered is this, unless memory is wanting.
abbrev pub Gives : {A : Type 0} → Result A KeyFail → Result A KeyFail → Type 0
Gives (Ok answer) reading = reading ≡ Ok answer
Gives (Err Memory) reading = Unit {0}
Gives (Err fault) reading = reading ≡ Err fault
