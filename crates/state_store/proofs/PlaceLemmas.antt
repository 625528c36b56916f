-- What is so of an open file, once more.
use Rattle.std.proofs.Common.{◌≡◌, Some, None, refl, sym, subst}
use Rattle.sqlite.specs.State.{State}
use Rattle.state_store.specs.declared.place.Place.{Place}
use Rattle.state_store.specs.declared.place.Place.TheVariants.{Memory, File}
use Rattle.state_store.specs.Place.{IsOpen, InFile}

-- an opening that leaves an open table as it is comes before a call unseen
pub opened_before : (P : State → State → Type 0) (old mid new : Place) → (IsOpen old → mid ≡ old) → InFile mid new P → InFile old new P
opened_before P (Memory table) mid new once h = tt
opened_before P (File rt path None) mid new once h = tt
opened_before P (File rt path (Some held)) mid new once h = subst (λ (m : Place). InFile m new P) (once refl) h
