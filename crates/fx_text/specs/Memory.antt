-- Sources and sinks in memory, which fail at chosen calls.
use Rattle.std.specs.Prelude.{◌+◌, ◌-◌, ◌^◌, ℕ, List}

-- the bytes that are left, the calls that fail, how many calls there were, and how many of them failed
pub record Source : Type 0 where
  pub left : List ℕ
  pub failing : List ℕ
  pub calls : ℕ
  pub faults : ℕ

-- the bytes written, and for how many there is room in all; the rest as in a source
pub record Sink : Type 0 where
  pub bytes : List ℕ
  pub room : ℕ
  pub failing : List ℕ
  pub calls : ℕ
  pub faults : ℕ
