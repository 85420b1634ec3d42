-- The cluster factor.
use Rattle.vol_parts.specs.declared.geometry.Geometry.{Geometry}
use Rattle.std.proofs.Common.{ℕ}

-- a geometry with another cluster factor
abbrev pub with_factor : Geometry → ℕ → Geometry
with_factor g w = record g { cluster = w }
