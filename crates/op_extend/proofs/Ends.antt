-- What EXTEND has outside after its writes, and the stage at which it stands: nothing, and the last.
use Rattle.std.proofs.Common.{◌≡◌, ◌∙◌, ℕ, true, List, [], ◌∷◌, Option, Some, None, map, refl, sym, ap, inl, inr}
use Rattle.std.specs.Prelude.{◌*◌, option_map}
use Rattle.base_words.specs.Fields.{Block}
use Rattle.fx_header.specs.Headers.{header_read}
use Rattle.lock_db.specs.declared.name.LockName.{LockName}
use Rattle.plain_cat.specs.declared.ids.Fid.{Fid}
use Rattle.plain_cat.specs.declared.command.Cmd.TheVariants as cmd
use Rattle.plain_cat.specs.declared.history.Stage.{Stage}
use Rattle.plain_cat.specs.declared.history.Stage.TheVariants as stage
use Rattle.vol_spell.specs.Owners.{Things, nothing}
use Rattle.vol_parts.specs.declared.geometry.Geometry.{Geometry}
use Rattle.vol_under.specs.UnderWay.{stage_after, outs_after}
use Rattle.op_law.specs.declared.seen.Chan.{Chan}
use Rattle.op_law.specs.declared.need.PlanWrite.{PlanWrite}
use Rattle.op_law.specs.Events.{Space, has_space, HasNoSpace, IsGiven}
use Rattle.op_law.specs.Entering.{slot_seq}
use Rattle.op_law.specs.Fits.{things}
use Rattle.op_law.specs.Headers.{headers_grown}
use Rattle.op_law.specs.Laws.{planned, KeepsOut}
use Rattle.op_law.specs.Needs.{events_of}
use Rattle.op_law.specs.Quotas.{owner_write, changed_write, row_place, row_charged}
use Rattle.vol_spell.specs.Rows.{is_row_of}
use Rattle.op_law.specs.Refusing.{SeenFile}
use Rattle.op_law.specs.Sizes.{growing_writes, into_headers}
use Rattle.op_law.specs.Writing.{holding}
use Rattle.op_law.proofs.Ends.{outs_behind, stage_behind, both_kept, EndsBy, nothing_given, given_nothing}
use Rattle.op_steps.proofs.HeaderWrites.{grown_keeps_out, grown_ends}
use Rattle.op_extend.proofs.Searches.{extend_so}

module _ (g : Geometry) (f : SeenFile) (quota : List Block) (qs : List ℕ) (k : ℕ) (new : Option (ℕ × ℕ)) where
  abbrev number : Option ℕ
  number = option_map (λ n. n.0) new

  abbrev row_part : List PlanWrite
  row_part = owner_write g quota f.file.owner (row_charged (g.cluster * k)) stage.Charged (holding qs (option_map (λ n. n.0) new))

  pub growing_outs : (o : Things) → outs_after o (map planned (growing_writes g f quota qs k new)) ≡ nothing
  unfolding growing_writes
  growing_outs o = outs_behind row_part (headers_grown g f qs new) o nothing (λ t. (grown_ends g f qs new stage.Nothing t).0)

  pub growing_stage : (s : Stage) → stage_after s (map planned (growing_writes g f quota qs k new)) ≡ stage.Done
  unfolding growing_writes
  growing_stage s = stage_behind row_part (headers_grown g f qs new) s stage.Done (λ t. (grown_ends g f qs new t nothing).1)

  -- after each write before that what was given is outside
  module _ (locks : List LockName) where
    abbrev Keeps : List PlanWrite → Type 0
    Keeps ws = KeepsOut (things qs (option_map (λ n. n.0) new)) locks ws

    one_given : (w : PlanWrite) → (planned w).outs ≡ things qs (option_map (λ n. n.0) new) → Keeps (w ∷ [])
    one_given w is v (inl here) = inr (inl (ap (λ (u : PlanWrite). (planned u).outs) (sym here) ∙ is))
    one_given w is v (inr none) = absurd none

    heads_kept : Keeps (headers_grown g f qs new)
    heads_kept w t = elim (grown_keeps_out g f qs new w t) [ inl none ↦ inl none | inr given ↦ inr (inl given) ]

    pub growing_kept : Keeps (growing_writes g f quota qs k new)
    unfolding growing_writes owner_write
    growing_kept = both_kept (things qs number) locks row_part (headers_grown g f qs new) (row (row_place (is_row_of f.file.owner) quota)) heads_kept where
      row : (o : Option ℕ) → Keeps (changed_write g quota (row_charged (g.cluster * k)) stage.Charged (holding qs number) o)
      row None = λ w t. absurd t
      row (Some j) = one_given _ refl

-- after its writes the command has nothing outside
into_end : (g : Geometry) (f : SeenFile) (quota : List Block) (k : ℕ) (cs : List ℕ) (n : Option ℕ) (given : Type 0) → EndsBy (things cs n) given (into_headers g f quota k cs n)
into_end g f quota k cs None given = λ has. growing_outs g f quota cs k None (things cs None)
into_end g f quota k cs (Some n) given = λ slot has. growing_outs g f quota cs k (Some (n, slot_seq (header_read slot))) (things cs (Some n))

pub extend_end : (file : Fid) (blocks : ℕ) (g : Geometry) (channel : Option Chan) (space : Space) → EndsBy (things space.clusters space.number) (HasNoSpace space) (events_of g channel (cmd.Extend file blocks))
extend_end file blocks g channel space = extend_so (EndsBy (things space.clusters space.number) (HasNoSpace space))
    (λ clusters number cs n short es. has_space clusters number (record { clusters = cs; number = n; short = short }) ≡ true → EndsBy (things cs n) (IsGiven cs n short) es)
    (λ name mode next h. h) (λ name lbn next h. h) (λ clusters number next h. h) (λ r. nothing_given space)
    (λ clusters number cs n r has h. given_nothing cs n r h)
    (λ clusters number g f quota cs n has. into_end g f quota clusters cs n (IsGiven cs n None)) file blocks g channel
