-- A node as its rules for space see it.
use Rattle.std.proofs.Common.{◌≡◌, ◌<◌, ◌+◌, ◌++◌, ◌∙◌, ℕ, zero, suc, Bool, true, false, cond, List, [], ◌∷◌, Some, length, slice_get, refl, sym, ap, arith}
use Rattle.std.specs.Prelude.{◌==◌, find, slice_index_or, if◌then◌else◌}
use Rattle.std.specs.Option.{option_or}
use Rattle.std.proofs.lemmas.Bool.Decides.{nat_tests}
use Rattle.lock_db.specs.declared.name.LockName.{LockName}
use Rattle.lock_db.specs.Names.{is_same}
use Rattle.plain_cat.specs.declared.mode.Mode.{Mode}
use Rattle.extent_cache.specs.Stock.{Stock}
use Rattle.vol_parts.specs.declared.geometry.Geometry.{Geometry}
use Rattle.core_space.specs.declared.run.Phase.{Phase}
use Rattle.core_space.specs.declared.run.Phase.TheVariants as phase
use Rattle.core_space.specs.declared.run.SpaceRun.{SpaceRun}
use Rattle.core_space.specs.declared.run.SpaceLocks.{SpaceLocks}
use Rattle.core_space.specs.declared.run.SpaceNeed.{SpaceNeed}
use Rattle.core_space.specs.Rule.{event_in}
use Rattle.core_space.specs.Lasting.{mode_on}
use Rattle.op_law.specs.declared.need.PlanWrite.{PlanWrite}
use Rattle.core_state.specs.Worlds.{NodeState}
use Rattle.core_state.specs.Events.{mode_of_lock, mode_in, given_by, stocked_by, ready_left, is_last}
use Rattle.core_step.specs.Spaces.{taking}

-- ---- the mode of a lock in two rows

mode_one : (n : LockName) (ls : List (LockName × Mode)) → mode_on n ls ≡ mode_in n ls
mode_one n [] = refl
mode_one n (l ∷ ls) = elim (is_same l.0 n) as (λ b. (if b then Some l.1 else mode_on n ls) ≡ mode_of_lock (cond b (Some l) (find (λ k. is_same k.0 n) ls))) [
  | true ↦ refl
  | false ↦ mode_one n ls
]

-- that in the first row, or else in the second
pub mode_both : (n : LockName) (ls ks : List (LockName × Mode)) → option_or (mode_on n ls) (mode_on n ks) ≡ mode_in n (ls ++ ks)
mode_both n [] ks = mode_one n ks
mode_both n (l ∷ ls) ks = elim (is_same l.0 n) as (λ b. option_or (if b then Some l.1 else mode_on n ls) (mode_on n ks) ≡ mode_of_lock (cond b (Some l) (find (λ k. is_same k.0 n) (ls ++ ks)))) [
  | true ↦ refl
  | false ↦ mode_both n ls ks
]

-- ---- how much room a stock has is no matter

pub rooms_away : (p : Phase) (g : Geometry) (l : SpaceLocks) (r : SpaceRun) (s : Stock) (need : SpaceNeed) → event_in p (record { geometry = g; locks = l; run = r; stock = s }) need ≡ event_in p (record { geometry = g; locks = l; run = r; stock = record { clusters = s.clusters; numbers = s.numbers; cluster_room = 0; number_room = 0 } }) need
rooms_away phase.Off g l r s need = refl
rooms_away phase.Fill g l r s need = refl
rooms_away phase.Drain g l r s need = refl
rooms_away phase.Last g l r s need = refl
rooms_away phase.Back g l r s need = refl

-- ---- what a write takes over

-- what the next write takes or makes free, in this phase, where it is the last or not
abbrev pub taking_by : Phase → Bool → NodeState → PlanWrite → NodeState
taking_by p last s v = record s {
  seen = given_by p last v s.seen;
  stock = stocked_by p last s.seen.geometry v s.stock;
  run = record s.run { ready = ready_left p last s.run.ready };
}

pub taking_so : (p : Phase) (last : Bool) (s : NodeState) (v : PlanWrite) → s.run.phase ≡ p → is_last s.run ≡ last → taking_by p last s v ≡ taking s v
taking_so p last s v e f = λ i. taking_by (sym e i) (sym f i) s v

pub some_at : {A : Type 0} (xs : List A) (k : ℕ) (v : A) → k < length xs → v ≡ slice_index_or xs k v → slice_get xs k ≡ Some v
some_at [] k v lt e = absurd (omega arith)
some_at (x ∷ xs) zero v lt e = ap (λ y. Some y) (sym e)
some_at (x ∷ xs) (suc k) v lt e = some_at xs k v (omega arith) e

-- an item at a place is the one that stands there
pub item_is : {A : Type 0} (xs : List A) (k : ℕ) (x v : A) → k < length xs → x ≡ slice_index_or xs k x → slice_get xs k ≡ Some v → x ≡ v
item_is xs k x v lt is at = let e : Some x ≡ Some v = sym (some_at xs k x lt is) ∙ at in cc

-- the write that comes next, of these
pub next_is : (ws items : List PlanWrite) (k : ℕ) (w : PlanWrite) → k < length ws → items ≡ ws → w ≡ slice_index_or items k w → slice_get ws k ≡ Some w
next_is ws items k w lt same is = some_at ws k w lt (is ∙ ap (λ (xs : List PlanWrite). slice_index_or xs k w) same)

pub last_so : (ws items : List PlanWrite) (k : ℕ) → items ≡ ws → k + 1 ≡ length items → (k + 1 == length ws) ≡ true
last_so ws items k same e = let f : k + 1 ≡ length ws = e ∙ ap (λ (xs : List PlanWrite). length xs) same in grind (arith, nat_tests)
