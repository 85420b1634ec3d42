-- What the next write by the rules for space asks for.
use Rattle.std.specs.Prelude.{◌≡◌, ◌⊎◌, ◌≤◌, ◌<◌, ℕ, true, false, List, [], Option, Some, None, All, slice_get}
use Rattle.vol_parts.specs.declared.geometry.Geometry.{Geometry}
use Rattle.vol_parts.specs.declared.geometry.Part.TheVariants.{IndexBitmap, Storage}
use Rattle.vol_parts.specs.Parts.{IsGeometry}
use Rattle.vol_spell.specs.Places.{place_of}
use Rattle.base_words.specs.Lists.{Has}
use Rattle.op_law.specs.declared.need.PlanWrite.{PlanWrite}
use Rattle.op_law.specs.Going.{with_space}
use Rattle.core_space.specs.declared.run.Phase.{Phase}
use Rattle.core_space.specs.declared.run.Phase.TheVariants as phase
use Rattle.core_state.specs.Stocks.{has_bit_at}
use Rattle.core_state.specs.Events.{is_last, given_by, stocked_by, ready_left}
use Rattle.core_state.specs.Worlds.{NodeState, Plain, node_at}

-- The block of this LBN is the index-file bitmap's, where none of these clusters has its bit, or one of the first 16 of the storage
-- bitmap.
pub data IsBitmapPlace (g : Geometry) (cs : List ℕ) (lbn : ℕ) : Type 0 where
  Index : lbn ≡ place_of g IndexBitmap → ((c : ℕ) → Has cs c → has_bit_at g lbn c ≡ false) → IsBitmapPlace g cs lbn
  InStorage : (k : ℕ) → k < 16 → lbn ≡ place_of g (Storage k) → (lbn ≡ place_of g IndexBitmap → ⊥) → IsBitmapPlace g cs lbn

-- What a filling has taken lies within a volume, what a give-back writes is a bitmap, and what the last write of a search gives is ready.
pub record CanTake (s : NodeState) (v : PlanWrite) : Type 0 where
  pub geometry : IsGeometry s.seen.geometry
  pub clusters : s.run.phase ≡ phase.Fill → All (λ c. c < 65536) v.clusters
  pub numbers : s.run.phase ≡ phase.Fill → All (λ n. (1 ≤ n) × (n ≤ 4096)) v.numbers
  pub place : (s.run.phase ≡ phase.Drain) ⊎ (s.run.phase ≡ phase.Back) → IsBitmapPlace s.seen.geometry s.stock.clusters v.lbn
  pub ready : s.run.phase ≡ phase.Last → is_last s.run ≡ true → s.run.ready ≡ v.clusters

-- the next write of node n by its rules for space
abbrev pub write_of : Option NodeState → Option PlanWrite
write_of None = None
write_of (Some s) = slice_get s.run.writes s.run.made

abbrev pub next_write : Plain → ℕ → Option PlanWrite
next_write w n = write_of (node_at w.nodes n)

-- a node has taken over what its next write takes or makes free, and what it gives to the command
abbrev pub taking : NodeState → PlanWrite → NodeState
taking s v = record s {
  seen = given_by s.run.phase (is_last s.run) v s.seen;
  stock = stocked_by s.run.phase (is_last s.run) s.seen.geometry v s.stock;
  run = record s.run { ready = ready_left s.run.phase (is_last s.run) s.run.ready };
}

-- a node whose command was given nothing, with this stock and in this phase
abbrev pub unserved : NodeState → Phase → List ℕ → List ℕ → NodeState
unserved s p clusters numbers = record s {
  seen = with_space [] None None s.seen;
  run = record s.run { phase = p };
  stock = record { clusters = clusters; numbers = numbers };
}
