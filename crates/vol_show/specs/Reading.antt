-- What a reader answers of a text.
use Rattle.std.specs.Prelude.{◌≡◌, Option, Some, None, Result, Ok, Err}
use Rattle.vol_show.specs.declared.spec.SpecFault.{SpecFault}
use Rattle.vol_show.specs.declared.spec.SpecFault.TheVariants.{Bad, NoMemory}

-- a call answers this value, or that there is none; where memory ran out it says nothing
abbrev pub Gives : {A : Type 0} → Option A → Result A SpecFault → Type 0
Gives given (Ok v) = given ≡ Some v
Gives given (Err Bad) = given ≡ None
Gives given (Err NoMemory) = Unit {0}
