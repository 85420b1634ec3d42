-- The writes that remove an entry from a directory are steps, and the directory's lock guards them.
use Rattle.std.proofs.Common.{◌≡◌, ◌∙◌, ◌<◌, ◌++◌, List, Some, None, length, ℕ, sym, ap, subst}
use Rattle.base_words.specs.Fields.{Block}
use Rattle.fx_dir.specs.declared.Move.{Move}
use Rattle.fx_dir.specs.Moves.{written as moved, removal, packing_writes}
use Rattle.lock_db.specs.declared.name.LockName.TheVariants.{S}
use Rattle.plain_cat.specs.declared.ids.Fid.{Fid}
use Rattle.plain_cat.specs.declared.entries.DirEnt.{DirEnt}
use Rattle.plain_cat.specs.declared.history.Stage.{Stage}
use Rattle.plain_cat.specs.declared.cat.Cat.{Cat}
use Rattle.plain_cat.specs.declared.cat.File.{File}
use Rattle.plain_rules.specs.Changes.{with_entries}
use Rattle.base_words.specs.Lists.{Has}
use Rattle.vol_spell.specs.Owners.{Owners}
use Rattle.vol_parts.specs.declared.geometry.Geometry.{Geometry}
use Rattle.vol_parts.specs.declared.geometry.Part.TheVariants.{Header}
use Rattle.vol_spell.specs.Reading.{owner_at}
use Rattle.vol_spell.specs.Spelling.{Spells}
use Rattle.vol_spell.specs.Bodies.{IsOfBody}
use Rattle.vol_spell.proofs.Frames.{of_body}
use Rattle.vol_spell.specs.Entries.{blocks_of, AreMovesIn, CanBeRemoved, Leaves}
use Rattle.vol_spell.proofs.EntryGoes.{entry_leaves}
use Rattle.vol_under.specs.Chains.{End}
use Rattle.vol_under.specs.Guards.{guard_by}
use Rattle.op_law.specs.declared.need.PlanWrite.{PlanWrite}
use Rattle.op_law.specs.Writing.{empty_handed}
use Rattle.op_law.proofs.Naming.{under_lock, TouchesNoHeader}
use Rattle.op_law.specs.Moving.{SeenDir, moves_at, removal_writes}
use Rattle.op_steps.specs.Chained.{Chain, StepsOf, StageOf, after_writes, TouchedBy, StandsOn, OthersStay}
use Rattle.op_steps.specs.EntryWrites.{dir_in}
use Rattle.op_steps.specs.RemovalWrites.{RemovalSteps, RemovalGuards}
use Rattle.op_steps.proofs.EntryMoves.{moves_touch, moves_leave, moves_steps}
use Rattle.op_steps.proofs.EntrySteps.{touched_at, moves_locks}

module _ (g : Geometry) (bs : List Block) (own : Owners) (x : Cat) (dir : Fid) (d : File) (e : DirEnt) (s : Spells g bs own x) (can : CanBeRemoved g x dir.num d e) where
  leaves : Leaves g bs dir.num d e
  leaves = entry_leaves g bs own x dir.num d e s can

  moves_in : AreMovesIn g bs own x dir.num d leaves.old leaves.new (packing_writes (blocks_of g bs dir.num)) (removal (blocks_of g bs dir.num) e.name e.ver)
  moves_in = record { spelt = s; number = can.number; file = can.file; dir = can.dir; moves = leaves.lead }

module _ (end : End) (k : Chain) (dir : Fid) (d : File) (before after : Stage) (ws : List PlanWrite) (x : Cat) (bs : List Block) (own : Owners) (j : ℕ) where
  -- moves, of which the first j pack, are steps that lead to these entries
  abbrev LeadTo : List DirEnt → List Move → Type 0
  LeadTo es ms = StageOf k after (with_entries x dir.num d es)
      → (StandsOn k empty_handed (with_entries x dir.num d es) (after_writes (moves_at (dir_in k.geometry bs dir) before after j ms) bs) own
      → OthersStay k.geometry dir.num bs (after_writes (moves_at (dir_in k.geometry bs dir) before after j ms) bs)
      → StepsOf end k ws (after_writes (moves_at (dir_in k.geometry bs dir) before after j ms) bs) own)
      → StepsOf end k (moves_at (dir_in k.geometry bs dir) before after j ms ++ ws) bs own

pub removal_steps : (end : End) → RemovalSteps end
unfolding removal_writes
removal_steps end k dir d e before after ws x bs own s can stage done rest =
    let g = k.geometry in
    let j = packing_writes (blocks_of g bs dir.num) in
    let moves = removal (blocks_of g bs dir.num) e.name e.ver in
    let left = leaves g bs own x dir d e s.spelt can in
    let steps = moves_steps end k dir d before after j moves left.old left.new ws x bs own s.outs (moves_in g bs own x dir d e s.spelt can) stage in
    subst (λ (es : List DirEnt). LeadTo end k dir d before after ws x bs own j es moves) left.entries steps done rest

-- the directory as they leave it: the same header, and the blocks without the entry
pub removal_leaves : (g : Geometry) (dir : Fid) (d : File) (e : DirEnt) (before after : Stage) (x : Cat) (bs : List Block) (own : Owners) → Spells g bs own x → CanBeRemoved g x dir.num d e
    → dir_in g (after_writes (removal_writes (dir_in g bs dir) e before after) bs) dir ≡ record (dir_in g bs dir) { blocks = moved (removal (blocks_of g bs dir.num) e.name e.ver) (blocks_of g bs dir.num) }
unfolding removal_writes
removal_leaves g dir d e before after x bs own s can =
    moves_leave g bs own x dir d before after _ _ (packing_writes (blocks_of g bs dir.num)) (removal (blocks_of g bs dir.num) e.name e.ver) (moves_in g bs own x dir d e s can)

-- one of them decides
pub removal_moved : (g : Geometry) (dir : Fid) (d : File) (e : DirEnt) (x : Cat) (bs : List Block) (own : Owners) → Spells g bs own x → CanBeRemoved g x dir.num d e
    → packing_writes (blocks_of g bs dir.num) < length (removal (blocks_of g bs dir.num) e.name e.ver)
removal_moved g dir d e x bs own s can = (leaves g bs own x dir d e s can).lead.decides

-- what they touch are blocks of the directory
touched_body : (g : Geometry) (dir : Fid) (d : File) (e : DirEnt) (before after : Stage) (x : Cat) (bs : List Block) (own : Owners) (l : ℕ) → Spells g bs own x → CanBeRemoved g x dir.num d e
    → TouchedBy (removal_writes (dir_in g bs dir) e before after) l → IsOfBody g bs own dir.num l
unfolding removal_writes
touched_body g dir d e before after x bs own l s can t =
    let within = moves_touch g bs own x dir d before after _ _ (packing_writes (blocks_of g bs dir.num)) (removal (blocks_of g bs dir.num) e.name e.ver) (moves_in g bs own x dir d e s can) l t in
    of_body g bs own x s dir.num l can.number within

removal_locks : (d : SeenDir) (e : DirEnt) (before after : Stage) (w : PlanWrite) → Has (removal_writes d e before after) w → w.lock ≡ S d.fid.num
unfolding removal_writes
removal_locks d e before after w t = moves_locks d before after (packing_writes d.blocks) (removal d.blocks e.name e.ver) w t

pub removal_guards : RemovalGuards
removal_guards g dir d e before after x bs own node locks s can held w t =
    let ws : List PlanWrite = removal_writes (dir_in g bs dir) e before after in
    let o = touched_body g dir d e before after x bs own w.lbn s can (touched_at ws w t) in
    under_lock node locks g own (S dir.num) w held (removal_locks (dir_in g bs dir) e before after w t)
    (ap (λ p. guard_by p (owner_at g own w.lbn)) o.no_part ∙ ap (λ y. guard_by None y) o.owned)

-- and none is a header
pub removal_no_header : (g : Geometry) (dir : Fid) (d : File) (e : DirEnt) (before after : Stage) (x : Cat) (bs : List Block) (own : Owners) → Spells g bs own x → CanBeRemoved g x dir.num d e
    → TouchesNoHeader g (removal_writes (dir_in g bs dir) e before after)
removal_no_header g dir d e before after x bs own s can w t i at =
    let o = touched_body g dir d e before after x bs own w.lbn s can (touched_at (removal_writes (dir_in g bs dir) e before after) w t) in
    let both : None ≡ Some (Header i) = sym o.no_part ∙ at in
    absurd (cc)
