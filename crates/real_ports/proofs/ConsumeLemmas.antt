-- What reads take from known bytes, one after another.
use Rattle.std.proofs.Common.{◌≡◌, ℕ, List, [], ◌++◌, Option, Some, None, refl, sym, ◌∙◌}
use Rattle.std.specs.Io.KnownBytes.{Keeps, Consumes}

pub keeps_same : (known : Option (List ℕ)) → Keeps known known
keeps_same None = tt
keeps_same (Some bytes) = refl

pub keeps_on : (old mid new : Option (List ℕ)) → Keeps old mid → Keeps mid new → Keeps old new
keeps_on None mid new first second = tt
keeps_on (Some bytes) None new first second = absurd first
keeps_on (Some bytes) (Some left) None first second = absurd second
keeps_on (Some bytes) (Some left) (Some rest) first second = second ∙ first

pub consumes_on : (old mid new : Option (List ℕ)) (read : List ℕ) → Keeps old mid → Consumes mid new read → Consumes old new read
consumes_on None mid new read first second = tt
consumes_on (Some bytes) None new read first second = absurd first
consumes_on (Some bytes) (Some left) None read first second = absurd second
consumes_on (Some bytes) (Some left) (Some rest) read first second = sym first ∙ second

pub consumes_none : (known : Option (List ℕ)) → Consumes known known []
consumes_none None = tt
consumes_none (Some bytes) = refl
