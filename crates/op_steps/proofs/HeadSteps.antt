-- The write of a block that reads as a file's header is a step, and the file's lock guards it.
use Rattle.std.proofs.Common.{◌≡◌, ◌≢◌, ◌∙◌, ℕ, List, ◌∷◌, Option, Some, slice_set, refl, sym, ap, subst, inl, inr}
use Rattle.lock_db.specs.declared.name.LockName.TheVariants.{S}
use Rattle.plain_rules.specs.Changes.{with_slot}
use Rattle.vol_parts.specs.declared.geometry.Geometry.{Geometry}
use Rattle.vol_parts.specs.declared.geometry.Part.{Part}
use Rattle.vol_parts.specs.declared.geometry.Part.TheVariants.{Header}
use Rattle.vol_parts.specs.Parts.{part_of}
use Rattle.base_words.specs.Fields.{Block}
use Rattle.base_words.specs.Lists.{Has}
use Rattle.plain_cat.specs.declared.cat.Cat.{Cat}
use Rattle.plain_cat.specs.declared.cat.Slot.{Slot}
use Rattle.vol_spell.specs.Kinds.{IsHeaderFor}
use Rattle.vol_spell.specs.Owners.{Owners, Things, Outs}
use Rattle.vol_spell.specs.Reading.{IsFileNumber, owner_at, header_place, header_block, told_of, body_blocks}
use Rattle.vol_spell.specs.Spelling.{Spells}
use Rattle.vol_spell.specs.Views.{IsFileAt, IsSameFile, IsHeaderSet}
use Rattle.vol_spell.proofs.Parts.{part_there}
use Rattle.vol_spell.proofs.Viewing.{header_set}
use Rattle.vol_under.specs.Chains.{End, IsStep}
use Rattle.vol_under.specs.Guards.{guard_by}
use Rattle.vol_under.proofs.Reach.{step_kinds}
use Rattle.op_law.specs.declared.need.PlanWrite.{PlanWrite}
use Rattle.op_law.specs.Laws.{planned, KeepsRuns}
use Rattle.op_law.proofs.Naming.{under_lock}
use Rattle.op_steps.specs.Chained.{Chain, StepsOf, StageOf, OthersStay}
use Rattle.op_steps.specs.HeadWrites.{HeadSteps, HeadGuards, HeadLeaves}
use Rattle.op_steps.proofs.ChainFiles.{slot_kept}

pub head_steps : (end : End) → HeadSteps end
head_steps end k n s w ws x bs own new spelt lock place is outs stage rest =
    let g : Geometry = k.geometry in
    let step : IsStep g k.node k.cmd k.locks k.cat k.stock (planned w) bs own new (with_slot x n s) =
    (step_kinds g k.node k.cmd k.locks k.cat k.stock).header (planned w) bs own new x n n s spelt place is lock stage outs in
    let set : IsHeaderSet g bs (slice_set bs w.lbn w.block) n n w.block =
    subst (λ (l : ℕ). IsHeaderSet g bs (slice_set bs l w.block) n n w.block) (sym place) (header_set g bs own new x k.node n n w.block s spelt is) in
    let file : let t = told_of g (slice_set bs w.lbn w.block) n in IsFileAt g (slice_set bs w.lbn w.block) n w.block t (body_blocks bs n t) = record { header = set.header; told = refl; body = set.body } in
    let others : OthersStay g n bs (slice_set bs w.lbn w.block) = λ i number ne. set.others i number ne ne in (
      new,
      with_slot x n s,
      step,
      rest (record {
        spelt = step.spelt;
        outs = outs;
        file = file;
        others = others;
      }),
    )

-- ---- a header slot of a file

-- the header slot m of file n was written: from `bs` to `after`, which spell x with these owners
pub record IsPartWritten (k : Chain) (n m : ℕ) (b : Block) (out : Things) (x : Cat) (bs after : List Block) (new : Owners) : Type 0 where
  pub spelt : Spells k.geometry after new x
  pub outs : Outs k.node new out k.stock
  -- the slot has this block, and each other one the block that stood there
  pub header : header_block k.geometry after m ≡ b
  pub kept : (i : ℕ) → i ≢ m → header_block k.geometry after i ≡ header_block k.geometry bs i
  -- each other file is as it was
  pub others : (i : ℕ) → IsFileNumber k.geometry i → i ≢ n → i ≢ m → IsSameFile k.geometry bs after i

-- The write of a block in header slot m of file n, with which the file's slot is s, is a step. So are the writes behind it that are
-- steps on what it leaves.
pub part_steps : (end : End) (k : Chain) (n m : ℕ) (s : Slot) (w : PlanWrite) (ws : List PlanWrite) (x : Cat) (bs : List Block) (own new : Owners)
    → Spells k.geometry bs own x → Has k.locks (S n) → w.lbn ≡ header_place k.geometry m → IsHeaderFor k.geometry bs k.node n m own new x w.block s
    → Outs k.node new (planned w).outs k.stock → StageOf k w.stage (with_slot x n s)
    → (IsPartWritten k n m w.block (planned w).outs (with_slot x n s) bs (slice_set bs (header_place k.geometry m) w.block) new → StepsOf end k ws (slice_set bs (header_place k.geometry m) w.block) new)
    → StepsOf end k (w ∷ ws) bs own
part_steps end k n m s w ws x bs own new spelt lock place is outs stage rest =
    let g : Geometry = k.geometry in
    let step : IsStep g k.node k.cmd k.locks k.cat k.stock (planned w) bs own new (with_slot x n s) =
    (step_kinds g k.node k.cmd k.locks k.cat k.stock).header (planned w) bs own new x n m s spelt place is lock stage outs in
    let set : IsHeaderSet g bs (slice_set bs (header_place g m) w.block) n m w.block = header_set g bs own new x k.node n m w.block s spelt is in
    let next : StepsOf end k ws (slice_set bs (header_place g m) w.block) new = rest (record {
      spelt = subst (λ (l : ℕ). Spells g (slice_set bs l w.block) new (with_slot x n s)) place step.spelt;
      outs = outs;
      header = set.header;
      kept = λ i ne. slot_kept g bs m i w.block ne;
      others = set.others;
    }) in
    (new, with_slot x n s, step, subst (λ (l : ℕ). StepsOf end k ws (slice_set bs l w.block) new) (sym place) next)

-- ---- what guards it, and what it leaves

pub head_guards : HeadGuards
head_guards g n w x bs own node locks spelt is name place lock v (inr t) = absurd t
head_guards g n w x bs own node locks spelt is name place lock v (inl same) =
    let part : part_of g v.lbn ≡ Some (Header n) = ap (λ (u : PlanWrite). part_of g u.lbn) (sym same) ∙ ap (part_of g) place ∙ part_there g bs own x spelt (Header n) is in
    under_lock node locks g own (S n) v lock (ap (λ (u : PlanWrite). u.lock) (sym same) ∙ name) (ap (λ (p : Option Part). guard_by p (owner_at g own v.lbn)) part)

pub head_leaves : HeadLeaves
head_leaves g n w x bs own spelt is place keeps v (inr t) i at = absurd t
head_leaves g n w x bs own spelt is place keeps v (inl same) i at =
    let part : part_of g v.lbn ≡ Some (Header n) = ap (λ (u : PlanWrite). part_of g u.lbn) (sym same) ∙ ap (part_of g) place ∙ part_there g bs own x spelt (Header n) is in
    let number : n ≡ i = (let both : Some (Header n) ≡ Some (Header i) = sym part ∙ at in cc) in
    subst (λ (j : ℕ). KeepsRuns (header_block g bs j) v.block) number (subst (λ (u : PlanWrite). KeepsRuns (header_block g bs n) u.block) same keeps)
