-- The writes by which a file goes, as they are done on the blocks of a volume.
use Rattle.std.proofs.Common.{◌≡◌, ◌+◌, ◌-◌, ◌*◌, ◌∙◌, inl, ℕ, List, [], ◌++◌, map, refl, sym, ap, subst, arith}
use Rattle.std.proofs.lemmas.List.{append-nil}
use Rattle.base_words.specs.Fields.{Block}
use Rattle.fx_header.specs.declared.slot.Hdr.{Hdr}
use Rattle.lock_db.specs.declared.name.LockName.{LockName}
use Rattle.lock_db.specs.declared.name.LockName.TheVariants.{S, Q, V}
use Rattle.plain_cat.specs.declared.history.Stage.{Stage}
use Rattle.plain_cat.specs.declared.history.Stage.TheVariants as stage
use Rattle.plain_cat.specs.declared.cat.Cat.{Cat}
use Rattle.plain_cat.specs.declared.cat.File.{File}
use Rattle.plain_rules.specs.Changes.{freed}
use Rattle.base_words.specs.Lists.{Has}
use Rattle.vol_spell.specs.Owners.{Owners, Things, Outs}
use Rattle.vol_parts.specs.declared.geometry.Geometry.{Geometry}
use Rattle.vol_parts.specs.Catalogues.{file_of}
use Rattle.vol_spell.specs.Reading.{header_block}
use Rattle.vol_spell.specs.Spelling.{IsBlank, Spells}
use Rattle.vol_under.specs.Chains.{End}
use Rattle.vol_under.specs.Refilling.{HaveBlankSlots}
use Rattle.vol_under.specs.UnderWay.{stage_after, outs_after}
use Rattle.op_law.specs.declared.need.PlanWrite.{PlanWrite}
use Rattle.op_law.specs.Laws.{planned}
use Rattle.op_law.specs.Freeing.{all_clusters, freeing_tail, headers_freed, freeing_writes}
use Rattle.op_law.specs.Headers.{numbers_of}
use Rattle.op_law.specs.Quotas.{owner_write, row_discharged}
use Rattle.op_law.specs.Refusing.{SeenFile}
use Rattle.op_law.specs.SeenFiles.{file_clusters}
use Rattle.op_law.specs.Writing.{empty_handed}
use Rattle.op_law.proofs.Naming.{TouchesNoHeader, both_named, both_leave, no_header_leaves, both_fill, no_header_fills}
use Rattle.op_law.proofs.RemovalEnds.{both_few}
use Rattle.op_steps.specs.Chained.{Chain, StepsOf, StageOf, after_writes, StandsOn}
use Rattle.op_steps.specs.Files.{file_in}
use Rattle.vol_spell.specs.Files.{IsFileThere}
use Rattle.op_steps.specs.GoneWrites.{freed_things}
use Rattle.op_steps.specs.SlotWrites.{AreHeadsWritten, AreFreed}
use Rattle.op_steps.proofs.FreedSteps.{freed_steps}
use Rattle.op_steps.proofs.HeaderWrites.{freed_guards, freed_leaves, freed_fills, freed_leaves_few, freed_ends}
use Rattle.op_steps.specs.BitmapWrites.{brought}
use Rattle.op_steps.specs.Standing.{AreBeside}
use Rattle.op_steps.specs.TailWrites.{tail_writes}
use Rattle.op_steps.proofs.Endings.{rising_clusters, outs_both, stage_both}
use Rattle.op_steps.proofs.Filters.{mapped}
use Rattle.op_steps.proofs.HeaderSlots.{numbers_there, numbers_few, no_q, no_v, headers_outs}
use Rattle.op_steps.proofs.Named.{under_locks}
use Rattle.op_steps.proofs.Tails.{tail_steps, tail_stands, tail_guards, tail_no_header, tail_stage, tail_ends, tail_leaves_few}
use Rattle.op_steps.proofs.Turns.{brought_is}
use Rattle.op_steps.specs.FreeingGoneWrites.{HaveLocks, gone, GoneSteps, GoneGuards, GoneLeaves, GoneFills, GoneLeavesFew, GoneEnds}

-- ---- what guards them, and what they leave

module _ (g : Geometry) (n : ℕ) (h : Hdr) (bs : List Block) where
  abbrev pub sf : SeenFile
  sf = file_in g bs n h

  abbrev pub numbers : List ℕ
  numbers = numbers_of g (file_in g bs n h)

  abbrev pub fewer : ℕ
  fewer = g.cluster * sf.file.clusters + 1

  -- the slots, and the others
  abbrev pub slots : List PlanWrite
  slots = headers_freed g (file_in g bs n h)

  abbrev pub tail_on : List Block → List PlanWrite
  tail_on b = tail_writes g stage.Freed (all_clusters g sf) numbers sf.file.owner fewer stage.Done b

module _ (g : Geometry) (n : ℕ) (h : Hdr) (f : File) (x : Cat) (bs : List Block) (own : Owners) (node : ℕ) (locks : List LockName) (s : Spells g bs own x) (there : IsFileThere g x bs n h f)
    (held : HaveLocks g (file_in g bs n h) locks) where
  beside : (lock : LockName) → (Has (map S (numbers g n h bs)) lock → ⊥) → AreBeside node locks g own (slots g n h bs) lock
  beside lock other = record { named = freed_guards g n h f x bs own node locks s there held; names = map S (numbers g n h bs); under = under_locks.freed g (sf g n h bs); beside = other }

  -- what the last ones go by stands behind the slots
  tail_is : tail_on g n h bs (after_writes (slots g n h bs) bs) ≡ tail_on g n h bs bs
  tail_is = tail_stands node locks g stage.Freed (all_clusters g (sf g n h bs)) (numbers g n h bs) (sf g n h bs).file.owner (fewer g n h bs) stage.Done (slots g n h bs) bs own x s
      (beside V (no_v (numbers g n h bs))) (beside Q (no_q (numbers g n h bs)))

pub gone_guards : GoneGuards
unfolding freeing_writes
gone_guards g n h f x bs own node locks s there held in_q in_v =
    both_named node locks g own (slots g n h bs) (tail_on g n h bs bs) (freed_guards g n h f x bs own node locks s there held)
    (tail_guards g stage.Freed (all_clusters g (sf g n h bs)) (numbers g n h bs) (sf g n h bs).file.owner (fewer g n h bs) stage.Done bs bs own x node locks s in_v in_q)

-- the last ones write to no header
tail_plain : (g : Geometry) (n : ℕ) (h : Hdr) (x : Cat) (bs : List Block) (own : Owners) → Spells g bs own x → TouchesNoHeader g (tail_on g n h bs bs)
tail_plain g n h x bs own s = tail_no_header g stage.Freed (all_clusters g (sf g n h bs)) (numbers g n h bs) (sf g n h bs).file.owner (fewer g n h bs) stage.Done bs bs own x s

pub gone_leaves : GoneLeaves
unfolding freeing_writes
gone_leaves g n h f x bs own s there =
    both_leave g bs (slots g n h bs) (tail_on g n h bs bs) (freed_leaves g n h f x bs own s there) (no_header_leaves g bs (tail_on g n h bs bs) (tail_plain g n h x bs own s))

pub gone_fills : GoneFills
unfolding freeing_writes
gone_fills g n h f x bs own took s there =
    both_fill g own took (slots g n h bs) (tail_on g n h bs bs) (freed_fills g n h f x bs own took s there) (no_header_fills g own took (tail_on g n h bs bs) (tail_plain g n h x bs own s))

pub gone_ends : GoneEnds
unfolding freeing_writes
gone_ends g f s o len =
    let qs = all_clusters g f in
    let ns = numbers_of g f in
    let less = g.cluster * f.file.clusters + 1 in
    let tail = freeing_tail g stage.Freed qs ns s.storage s.index ++ owner_write g s.quota f.file.owner (row_discharged less) stage.Done empty_handed in
    outs_both (headers_freed g f) tail o ∙ ap (λ (t : Things). outs_after t (map planned tail)) (headers_outs g f o)
    ∙ tail_ends g stage.Freed qs ns s.storage s.index s.quota f.file.owner less stage.Done (rising_clusters g (file_clusters g f)).0 len

pub gone_leaves_few : GoneLeavesFew
unfolding freeing_writes
gone_leaves_few g n h f x bs own s there =
    both_few (slots g n h bs) (tail_on g n h bs bs) (freed_leaves_few g n h f x bs own s there)
    (tail_leaves_few g stage.Freed (all_clusters g (sf g n h bs)) (numbers g n h bs) (sf g n h bs).file.owner (fewer g n h bs) stage.Done bs (numbers_few g bs n h))

-- ---- the steps

module _ (end : End) (k : Chain) (n : ℕ) (h : Hdr) (body : List Block) (x : Cat) (bs : List Block) (own : Owners) (on : StandsOn k empty_handed x bs own) (there : IsFileThere k.geometry x bs n h (file_of k.geometry.cluster n h body))
    (held : HaveLocks k.geometry (file_in k.geometry bs n h) k.locks) (free_stage : StageOf k stage.Freed (freed x n (file_of k.geometry.cluster n h body))) (last_stage : StageOf k stage.Done (gone k.geometry x n (file_of k.geometry.cluster n h body))) where
  abbrev g : Geometry
  g = k.geometry

  abbrev f : File
  f = file_of k.geometry.cluster n h body

  abbrev free_cat : Cat
  free_cat = freed x n (file_of k.geometry.cluster n h body)

  abbrev last_cat : Cat
  last_cat = gone k.geometry x n (file_of k.geometry.cluster n h body)

  abbrev next : List Block
  next = after_writes (slots k.geometry n h bs) bs

  abbrev qs : List ℕ
  qs = all_clusters k.geometry (file_in k.geometry bs n h)

  abbrev ns : List ℕ
  ns = numbers k.geometry n h bs

  same_tail : tail_on k.geometry n h bs next ≡ tail_on k.geometry n h bs bs
  same_tail = tail_is k.geometry n h f x bs own k.node k.locks on.spelt there held

  module _ (new : Owners) (written : AreHeadsWritten k ns (freed_things k.geometry (sf k.geometry n h bs)) free_cat bs next new) (free : AreFreed k.geometry next ns)
      (finish : (bs' : List Block) (new' : Owners) → StandsOn k empty_handed last_cat bs' new' → StageOf k (stage_after stage.Nothing (map planned (slots k.geometry n h bs ++ tail_on k.geometry n h bs bs))) last_cat → end bs' new') where
    outs_then : Outs k.node new (brought qs ns) k.stock
    outs_then = subst (λ (t : Things). Outs k.node new t k.stock) (brought_is qs ns) written.outs

    blank_then : HaveBlankSlots k.geometry next (brought qs ns).numbers
    blank_then i t =
        let m = mapped (λ j. j - 1) ns i t in
        let e : m.0 - 1 ≡ i = m.2 in
        let low = (numbers_there k.geometry bs own x on.spelt n h there.number m.0 m.1).from in
        let place : m.0 ≡ i + 1 = omega arith in
        subst (λ (j : ℕ). IsBlank (header_block k.geometry next j)) place (free m.0 m.1)

    stage_so : StageOf k (stage_after stage.Nothing (map planned (slots k.geometry n h bs ++ tail_on k.geometry n h bs bs))) last_cat
    stage_so =
        subst (λ (s : Stage). StageOf k s last_cat)
        (sym (stage_both (slots k.geometry n h bs) (tail_on k.geometry n h bs bs) stage.Nothing
        ∙ ap (λ (s : Stage). stage_after s (map planned (tail_on k.geometry n h bs bs))) (freed_ends k.geometry (sf k.geometry n h bs) stage.Nothing)))
        (subst (λ (ws : List PlanWrite). StageOf k (stage_after stage.Freed (map planned ws)) last_cat) same_tail
        (tail_stage k stage.Freed qs ns f.owner (fewer k.geometry n h bs) stage.Done free_cat next new written.spelt free_stage last_stage))

    tail_chain : StepsOf end k (tail_on k.geometry n h bs bs) next new
    tail_chain =
        subst (λ (ws : List PlanWrite). StepsOf end k ws next new) (append-nil (tail_on k.geometry n h bs next) ∙ same_tail)
        (tail_steps end k stage.Freed qs ns f.owner (fewer k.geometry n h bs) stage.Done [] free_cat next new written.spelt outs_then blank_then free_stage last_stage (λ new' on' stays. finish _ new' on' stage_so))

pub gone_steps : (end : End) → GoneSteps end
unfolding freeing_writes
gone_steps end k n h body x bs own on there held in_q in_v free_stage last_stage finish =
    freed_steps end k n h (file_of k.geometry.cluster n h body) (tail_on k.geometry n h bs bs) x bs own on there (held n (inl refl)) free_stage
    (λ new written free. tail_chain end k n h body x bs own on there held free_stage last_stage new written free finish)
