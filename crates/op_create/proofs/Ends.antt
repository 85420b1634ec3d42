-- What a command that makes a file has outside after its writes: nothing. And the last write of a plan is the insertion's.
use Rattle.std.proofs.Common.{◌≡◌, ◌<◌, ◌-◌, ℕ, Bool, true, false, cond, List, [], ◌∷◌, ◌++◌, Option, Some, None, map, length, sym, ap, inl, inr}
use Rattle.std.specs.Prelude.{◌==◌, ◌&&◌}
use Rattle.base_words.specs.Fields.{Block}
use Rattle.fx_dir.specs.Writing.{block_of}
use Rattle.lock_db.specs.declared.name.LockName.{LockName}
use Rattle.lock_db.specs.declared.name.LockName.TheVariants.{S}
use Rattle.plain_cat.specs.declared.command.Cmd.{Cmd}
use Rattle.plain_cat.specs.declared.history.Stage.{Stage}
use Rattle.plain_cat.specs.declared.history.Stage.TheVariants as stage
use Rattle.vol_spell.specs.Owners.{Things, nothing}
use Rattle.vol_spell.specs.Spread.{spread}
use Rattle.vol_parts.specs.declared.geometry.Geometry.{Geometry}
use Rattle.vol_under.specs.UnderWay.{stage_after, outs_after}
use Rattle.op_law.specs.declared.seen.Chan.{Chan}
use Rattle.op_law.specs.Events.{Space, has_space, HasNoSpace, IsGiven}
use Rattle.op_law.specs.declared.need.PlanWrite.{PlanWrite}
use Rattle.op_law.specs.Writing.{holding, header_write, empty_handed, write_at}
use Rattle.op_law.specs.Quotas.{owner_write, changed_write, row_place, row_charged}
use Rattle.vol_spell.specs.Rows.{is_row_of}
use Rattle.op_law.specs.Moving.{SeenDir, insertion_moves, insertion_writes}
use Rattle.op_law.specs.Entering.{NewEntry, cost_of, numbered, entry_for, new_header, body_writes, making_writes}
use Rattle.op_law.specs.Needs.{events_of}
use Rattle.op_law.specs.Fits.{things}
use Rattle.op_law.specs.Laws.{planned, KeepsOut}
use Rattle.op_create.specs.Kinds.{IsMake}
use Rattle.op_create.proofs.Searches.{makes_so}
use Rattle.op_law.proofs.Ends.{outs_behind, stage_behind, insertion_outs, insertion_stage, both_kept, insertion_kept, EndsBy, nothing_given, given_nothing}

-- ---- the writes of a new file

pub making_outs : (g : Geometry) (d : SeenDir) (quota : List Block) (e : NewEntry) (n : ℕ) (qs : List ℕ) (o : Things) → outs_after o (map planned (making_writes g d quota e n qs)) ≡ nothing
unfolding making_writes
making_outs g d quota e n qs o = outs_behind (owner_write g quota e.file.owner (row_charged (cost_of g e.file)) stage.Charged (holding qs (Some n)))
    (body_writes g n e.file qs ++ header_write g n (new_header g d.fid n e qs) stage.Lost empty_handed ∷ insertion_writes d (entry_for n e) stage.Lost stage.Done) o nothing (λ o. outs_behind (body_writes g n e.file qs) (header_write g n (new_header g d.fid n e qs) stage.Lost empty_handed ∷ insertion_writes d (entry_for n e) stage.Lost stage.Done) o nothing (λ o. insertion_outs d (entry_for n e) stage.Lost stage.Done))

pub making_stage_is : (g : Geometry) (d : SeenDir) (quota : List Block) (e : NewEntry) (n : ℕ) (qs : List ℕ) (s : Stage) → length (insertion_moves d (entry_for n e)) - 1 < length (insertion_moves d (entry_for n e))
    → stage_after s (map planned (making_writes g d quota e n qs)) ≡ stage.Done
unfolding making_writes
making_stage_is g d quota e n qs s lt = stage_behind (owner_write g quota e.file.owner (row_charged (cost_of g e.file)) stage.Charged (holding qs (Some n)))
    (body_writes g n e.file qs ++ header_write g n (new_header g d.fid n e qs) stage.Lost empty_handed ∷ insertion_writes d (entry_for n e) stage.Lost stage.Done) s stage.Done (λ s. stage_behind (body_writes g n e.file qs) (header_write g n (new_header g d.fid n e qs) stage.Lost empty_handed ∷ insertion_writes d (entry_for n e) stage.Lost stage.Done) s stage.Done (λ s. insertion_stage d (entry_for n e) stage.Lost stage.Lost stage.Done lt))

-- each of them has outside what was given, or nothing
pub making_kept : (locks : List LockName) (g : Geometry) (d : SeenDir) (quota : List Block) (e : NewEntry) (n : ℕ) (qs : List ℕ) → KeepsOut (things qs (Some n)) locks (making_writes g d quota e n qs)
unfolding making_writes owner_write body_writes
making_kept locks g d quota e n qs =
    both_kept (things qs (Some n)) locks (owner_write g quota e.file.owner (row_charged (cost_of g e.file)) stage.Charged (holding qs (Some n)))
    (body_writes g n e.file qs ++ header_write g n (new_header g d.fid n e qs) stage.Lost empty_handed ∷ insertion_writes d (entry_for n e) stage.Lost stage.Done) (row (row_place (is_row_of e.file.owner) quota))
    (both_kept (things qs (Some n)) locks (body_writes g n e.file qs) (header_write g n (new_header g d.fid n e qs) stage.Lost empty_handed ∷ insertion_writes d (entry_for n e) stage.Lost stage.Done) (body e.file.dir)
    (λ w t. elim t [ inl here ↦ inl (ap (λ (v : PlanWrite). (planned v).outs) (sym here)) | inr more ↦ insertion_kept (things qs (Some n)) locks d (entry_for n e) stage.Lost stage.Done w more ])) where
      row : (o : Option ℕ) → KeepsOut (things qs (Some n)) locks (changed_write g quota (row_charged (cost_of g e.file)) stage.Charged (holding qs (Some n)) o)
      row None w t = absurd t
      row (Some j) w (inl here) = inr (inl (ap (λ (v : PlanWrite). (planned v).outs) (sym here)))
      row (Some j) w (inr none) = absurd none

      each : (ls : List ℕ) → KeepsOut (things qs (Some n)) locks (map (λ l. write_at (S n) l (block_of []) stage.Charged (holding qs (Some n))) ls)
      each [] w t = absurd t
      each (l ∷ ls) w (inl here) = inr (inl (ap (λ (v : PlanWrite). (planned v).outs) (sym here)))
      each (l ∷ ls) w (inr t) = each ls w t

      body : (t : Bool) → KeepsOut (things qs (Some n)) locks (cond t (map (λ l. write_at (S n) l (block_of []) stage.Charged (holding qs (Some n))) (spread g.cluster qs)) [])
      body true = each (spread g.cluster qs)
      body false = λ w t. absurd t

-- a search for a number that is not refused gives one
number_given : (clusters : ℕ) (cs : List ℕ) → has_space clusters true (record { clusters = cs; number = None; short = None }) ≡ true → ⊥
number_given clusters cs e = by_test (length cs == clusters) e where
  by_test : (t : Bool) → (t && false) ≡ true → ⊥
  by_test true e = absurd (cc)
  by_test false e = absurd (cc)

-- after its writes the command has nothing outside
pub makes_end : (x : Cmd) → IsMake x → (g : Geometry) (channel : Option Chan) (space : Space) → EndsBy (things space.clusters space.number) (HasNoSpace space) (events_of g channel x)
makes_end x is g channel space = makes_so (EndsBy (things space.clusters space.number) (HasNoSpace space))
    (λ clusters cs n short es. has_space clusters true (record { clusters = cs; number = n; short = short }) ≡ true → EndsBy (things cs n) (IsGiven cs n short) es)
    (λ name mode next h. h) (λ name lbn next h. h) (λ clusters next h. h) (λ r. nothing_given space)
    (λ clusters cs n r has h. given_nothing cs n r h)
    (λ clusters cs has h. absurd (number_given clusters cs has))
    (λ clusters g d quota e cs n has b h. making_outs g d quota (numbered b e) n cs (things cs (Some n))) x is g channel
