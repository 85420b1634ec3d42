-- The compatibility of lock modes.
use Rattle.std.specs.Prelude.{Bool, true, false, ℕ}
use Rattle.plain_cat.specs.declared.mode.Mode.{Mode}
use Rattle.plain_cat.specs.declared.mode.Mode.TheVariants.{NL, CR, CW, PR, PW, EX}

-- a row of the table: with which modes a lock goes together, from NL to EX
abbrev pub row : Bool → Bool → Bool → Bool → Bool → Bool → Mode → Bool
row nl cr cw pr pw ex NL = nl
row nl cr cw pr pw ex CR = cr
row nl cr cw pr pw ex CW = cw
row nl cr cw pr pw ex PR = pr
row nl cr cw pr pw ex PW = pw
row nl cr cw pr pw ex EX = ex

-- whether locks in these two modes go together on one resource
abbrev pub compatible_modes : Mode → Mode → Bool
compatible_modes NL = row true true true true true true
compatible_modes CR = row true true true true true false
compatible_modes CW = row true true true false false false
compatible_modes PR = row true true false true false false
compatible_modes PW = row true true false false false false
compatible_modes EX = row true false false false false false

-- the number of a mode: upward means to a greater one
abbrev pub rank : Mode → ℕ
rank NL = 0
rank CR = 1
rank CW = 2
rank PR = 3
rank PW = 4
rank EX = 5
