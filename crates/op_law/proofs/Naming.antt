-- Writes under the locks that they name, writes that leave the runs of directories, and writes to header slots that may get them.
use Rattle.std.proofs.Common.{◌≡◌, ◌-◌, ◌∙◌, inl, inr, ℕ, List, [], ◌∷◌, ◌++◌, Option, Some, map, slice_get, refl, sym, ap, subst}
use Rattle.base_words.specs.Fields.{Block}
use Rattle.lock_db.specs.declared.name.LockName.{LockName}
use Rattle.base_words.specs.Lists.{Has, Touches}
use Rattle.vol_spell.specs.declared.owner.Owner.TheVariants.{InFile}
use Rattle.vol_spell.specs.Owners.{Owners, Things}
use Rattle.base_words.proofs.Listing.{has_parted}
use Rattle.vol_parts.specs.declared.geometry.Geometry.{Geometry}
use Rattle.vol_parts.specs.declared.geometry.Part.TheVariants.{Header}
use Rattle.vol_parts.specs.Parts.{part_of}
use Rattle.vol_under.specs.Guards.{Guard, Lock, Stock, guard_of, MayWrite}
use Rattle.vol_under.specs.UnderWay.{bare}
use Rattle.op_law.specs.declared.need.PlanWrite.{PlanWrite}
use Rattle.op_law.specs.Laws.{planned, IsNamed, AreNamed, LeavesDirs, MayFill, OfFile, Given, LeavesSlots}

may_write : (node : ℕ) (locks : List LockName) (name : LockName) (o : Option Guard) → IsNamed node locks name o → MayWrite node locks o
may_write node locks name o is = elim is.guards [
  | inl e ↦ subst (MayWrite node locks) (sym e) is.held
  | inr e ↦ subst (MayWrite node locks) (sym e) refl
]

module _ (node : ℕ) (locks : List LockName) (g : Geometry) (own : Owners) where
  -- what they touch is guarded
  pub named_guards : (ws : List PlanWrite) → AreNamed node locks g own ws → (l : ℕ) → Touches (bare (map planned ws)) l → MayWrite node locks (guard_of g own l)
  named_guards [] named l t = absurd t
  named_guards (w ∷ ws) named l (inl e) = subst (λ k. MayWrite node locks (guard_of g own k)) e (may_write node locks w.lock (guard_of g own w.lbn) (named w (inl refl)))
  named_guards (w ∷ ws) named l (inr t) = named_guards ws (λ v h. named v (inr h)) l t

  -- writes behind writes
  pub both_named : (vs ws : List PlanWrite) → AreNamed node locks g own vs → AreNamed node locks g own ws → AreNamed node locks g own (vs ++ ws)
  both_named vs ws first behind w t = elim (has_parted vs ws w t) [ inl h ↦ first w h | inr h ↦ behind w h ]

  -- a write to a block that a lock guards, under that lock
  pub under_lock : (name : LockName) (w : PlanWrite) → Has locks name → w.lock ≡ name → guard_of g own w.lbn ≡ Some (Lock name) → IsNamed node locks w.lock (guard_of g own w.lbn)
  under_lock name w held is guard = record { held = subst (Has locks) (sym is) held; guards = inl (guard ∙ ap (λ m. Some (Lock m)) (sym is)) }

  -- a write to a block that the node has outside
  pub under_stock : (name : LockName) (w : PlanWrite) → Has locks name → w.lock ≡ name → guard_of g own w.lbn ≡ Some (Stock node) → IsNamed node locks w.lock (guard_of g own w.lbn)
  under_stock name w held is guard = record { held = subst (Has locks) (sym is) held; guards = inr guard }

-- ---- writes that leave the runs of directories

-- none of these writes is to a header
abbrev pub TouchesNoHeader : Geometry → List PlanWrite → Type 0
TouchesNoHeader g ws = (w : PlanWrite) → Has ws w → (i : ℕ) → part_of g w.lbn ≡ Some (Header i) → ⊥

module _ (g : Geometry) (base : List Block) where
  pub both_leave : (vs ws : List PlanWrite) → LeavesDirs g base vs → LeavesDirs g base ws → LeavesDirs g base (vs ++ ws)
  both_leave vs ws first behind w t = elim (has_parted vs ws w t) [ inl h ↦ first w h | inr h ↦ behind w h ]

  pub no_header_leaves : (ws : List PlanWrite) → TouchesNoHeader g ws → LeavesDirs g base ws
  no_header_leaves ws none w t i at = absurd (none w t i at)

-- ---- writes to header slots

module _ (g : Geometry) (own : Owners) (took : Things) where
  pub both_fill : (vs ws : List PlanWrite) → LeavesSlots g own took vs → LeavesSlots g own took ws → LeavesSlots g own took (vs ++ ws)
  both_fill vs ws first behind w t = elim (has_parted vs ws w t) [ inl h ↦ first w h | inr h ↦ behind w h ]

  pub no_header_fills : (ws : List PlanWrite) → TouchesNoHeader g ws → LeavesSlots g own took ws
  no_header_fills ws none w t i at = absurd (none w t i at)

  -- a write to the header of a number, whose slot may get the block
  pub header_fills : (n : ℕ) (w : PlanWrite) → part_of g w.lbn ≡ Some (Header n) → MayFill own took n w.block → LeavesSlots g own took (w ∷ [])
  header_fills n w there may v (inl e) i at =
      let P : PlanWrite → Type 0 = λ u. part_of g u.lbn ≡ Some (Header i) in
      let one : Some (Header n) ≡ Some (Header i) = sym there ∙ subst P (sym e) at in
      let same : n ≡ i = (cc) in
      subst (λ u. MayFill own took i u.block) e (subst (λ k. MayFill own took k w.block) same may)
  header_fills n w there may v (inr none) i at = absurd none

  -- it may get each block, if the number is a file's
  pub file_fills : (n k : ℕ) (w : PlanWrite) → part_of g w.lbn ≡ Some (Header n) → slice_get own.numbers (n - 1) ≡ Some (InFile k) → LeavesSlots g own took (w ∷ [])
  file_fills n k w there owned = header_fills n w there (OfFile k owned)

  -- or if it was given to the command
  pub given_fills : (n : ℕ) (w : PlanWrite) → part_of g w.lbn ≡ Some (Header n) → Has took.numbers (n - 1) → LeavesSlots g own took (w ∷ [])
  given_fills n w there given = header_fills n w there (Given given)
