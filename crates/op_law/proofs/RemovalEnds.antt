-- What is outside after the writes to a directory's blocks, and the stage after those of a removal.
use Rattle.std.proofs.Common.{◌≡◌, ◌≤◌, ◌<◌, ◌-◌, ℕ, List, [], ◌∷◌, ◌++◌, map, length, take, drop, refl, sym, ap, subst, inl, inr, arith, length-drop}
use Rattle.fx_dir.specs.declared.Move.{Move}
use Rattle.fx_dir.specs.Moves.{removal, packing_writes}
use Rattle.lock_db.specs.declared.name.LockName.{LockName}
use Rattle.plain_cat.specs.declared.entries.DirEnt.{DirEnt}
use Rattle.plain_cat.specs.declared.history.Stage.{Stage}
use Rattle.base_words.specs.Lists.{Has}
use Rattle.vol_spell.specs.Owners.{Things, nothing}
use Rattle.base_words.proofs.Listing.{has_parted}
use Rattle.vol_under.specs.UnderWay.{stage_after, outs_after}
use Rattle.op_law.specs.declared.need.PlanWrite.{PlanWrite}
use Rattle.op_law.specs.Moving.{SeenDir, move_write, moves_at, insertion_moves, insertion_writes, removal_writes}
use Rattle.op_law.specs.Laws.{planned, most_outside, LeaveFew, KeepsOut}
use Rattle.op_law.proofs.Ends.{outs_behind, stage_behind}

-- ---- writes that leave nothing outside

-- after each of these writes nothing is outside
abbrev pub LeaveNothing : List PlanWrite → Type 0
LeaveNothing ws = (w : PlanWrite) → Has ws w → (planned w).outs ≡ nothing

pub both_leave_nothing : (vs ws : List PlanWrite) → LeaveNothing vs → LeaveNothing ws → LeaveNothing (vs ++ ws)
both_leave_nothing vs ws first behind w t = elim (has_parted vs ws w t) [ inl h ↦ first w h | inr h ↦ behind w h ]

-- where nothing is outside before them, nothing is after them
pub nothing_left : (ws : List PlanWrite) → LeaveNothing ws → outs_after nothing (map planned ws) ≡ nothing
nothing_left ws none = along ws nothing refl none where
  along : (vs : List PlanWrite) (o : Things) → o ≡ nothing → LeaveNothing vs → outs_after o (map planned vs) ≡ nothing
  along [] o is none = is
  along (v ∷ vs) o is none = along vs (planned v).outs (none v (inl refl)) (λ w t. none w (inr t))

pub nothing_kept : (given : Things) (locks : List LockName) (ws : List PlanWrite) → LeaveNothing ws → KeepsOut given locks ws
nothing_kept given locks ws none w t = inl (none w t)

-- ---- writes that leave few file numbers outside

pub nothing_few : (ws : List PlanWrite) → LeaveNothing ws → LeaveFew ws
nothing_few ws none w t = subst (λ (o : Things). length o.numbers ≤ most_outside) (sym (none w t)) (omega arith)

pub both_few : (vs ws : List PlanWrite) → LeaveFew vs → LeaveFew ws → LeaveFew (vs ++ ws)
both_few vs ws first behind w t = elim (has_parted vs ws w t) [ inl h ↦ first w h | inr h ↦ behind w h ]

-- ---- moves

moves_leave_nothing : (d : SeenDir) (s : Stage) (ms : List Move) → LeaveNothing (map (move_write d s) ms)
moves_leave_nothing d s [] w t = absurd t
moves_leave_nothing d s (m ∷ ms) w (inl e) = ap (λ (v : PlanWrite). (planned v).outs) (sym e)
moves_leave_nothing d s (m ∷ ms) w (inr t) = moves_leave_nothing d s ms w t

-- of which the first k leave one stage
at_leave_nothing : (d : SeenDir) (before after : Stage) (k : ℕ) (ms : List Move) → LeaveNothing (moves_at d before after k ms)
at_leave_nothing d before after k ms =
    both_leave_nothing (map (move_write d before) (take k ms)) (map (move_write d after) (drop k ms)) (moves_leave_nothing d before (take k ms)) (moves_leave_nothing d after (drop k ms))

pub insertion_leaves_nothing : (d : SeenDir) (e : DirEnt) (before after : Stage) → LeaveNothing (insertion_writes d e before after)
unfolding insertion_writes
insertion_leaves_nothing d e before after = at_leave_nothing d before after (length (insertion_moves d e) - 1) (insertion_moves d e)

pub removal_leaves_nothing : (d : SeenDir) (e : DirEnt) (before after : Stage) → LeaveNothing (removal_writes d e before after)
unfolding removal_writes
removal_leaves_nothing d e before after = at_leave_nothing d before after (packing_writes d.blocks) (removal d.blocks e.name e.ver)

-- ---- a removal, of which some write decides

some_outs : (d : SeenDir) (s : Stage) (ms : List Move) → 0 < length ms → (o : Things) → outs_after o (map planned (map (move_write d s) ms)) ≡ nothing
some_outs d s [] lt o = absurd (omega arith)
some_outs d s (m ∷ []) lt o = refl
some_outs d s (m ∷ n ∷ ms) lt o = some_outs d s (n ∷ ms) (omega arith) nothing

some_stage : (d : SeenDir) (s : Stage) (ms : List Move) → 0 < length ms → (t : Stage) → stage_after t (map planned (map (move_write d s) ms)) ≡ s
some_stage d s [] lt t = absurd (omega arith)
some_stage d s (m ∷ []) lt t = refl
some_stage d s (m ∷ n ∷ ms) lt t = some_stage d s (n ∷ ms) (omega arith) s

-- those behind the packing
some_behind : (k : ℕ) (ms : List Move) → k < length ms → 0 < length (drop k ms)
some_behind k ms lt = let n = length-drop k ms in omega arith

-- after them nothing is outside, whatever was before
pub removal_outs : (d : SeenDir) (e : DirEnt) (before after : Stage) (o : Things) → packing_writes d.blocks < length (removal d.blocks e.name e.ver) → outs_after o (map planned (removal_writes d e before after)) ≡ nothing
unfolding removal_writes
removal_outs d e before after o lt =
    let ms = removal d.blocks e.name e.ver in
    let k = packing_writes d.blocks in
    outs_behind (map (move_write d before) (take k ms)) (map (move_write d after) (drop k ms)) o nothing (some_outs d after (drop k ms) (some_behind k ms lt))

-- and the command stands at the last stage
pub removal_stage : (d : SeenDir) (e : DirEnt) (s before after : Stage) → packing_writes d.blocks < length (removal d.blocks e.name e.ver) → stage_after s (map planned (removal_writes d e before after)) ≡ after
unfolding removal_writes
removal_stage d e s before after lt =
    let ms = removal d.blocks e.name e.ver in
    let k = packing_writes d.blocks in
    stage_behind (map (move_write d before) (take k ms)) (map (move_write d after) (drop k ms)) s after (some_stage d after (drop k ms) (some_behind k ms lt))
