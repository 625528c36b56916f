-- How a reading goes on and ends.
use Rattle.std.specs.Prelude.{◌≡◌, Option, Result, Ok, Err}
use Rattle.std.specs.Option.{ok_or}
use Rattle.sexp_reader.specs.Tree.{Tree}
use Rattle.sexp_reader.specs.declared.fail.SexpFail.{SexpFail}
use Rattle.channel_file.specs.declared.fail.ChannelFail.{ChannelFail}
use Rattle.channel_file.specs.declared.fail.ChannelFail.TheVariants as fail
use Rattle.channel_file.specs.declared.fail.Field.TheVariants as field

-- what was found leads to the next, a fault ends the reading
infixl 10 ◌>>=◌
abbrev pub ◌>>=◌ : {A B : Type 0} → Result A ChannelFail → (A → Result B ChannelFail) → Result B ChannelFail
Ok found >>= next = next found
Err fault >>= next = Err fault

-- the first datum
abbrev pub datum_in : Result (Option Tree) SexpFail → Result Tree ChannelFail
datum_in (Ok found) = ok_or found (fail.Shape field.Channel)
datum_in (Err fault) = Err (fail.Sexp fault)

-- What a call answered is this, unless memory ran out.
abbrev pub Gives : {A : Type 0} → Result A ChannelFail → Result A ChannelFail → Type 0
Gives (Ok answer) reading = reading ≡ Ok answer
Gives (Err fail.Memory) reading = Unit {0}
Gives (Err fault) reading = reading ≡ Err fault
