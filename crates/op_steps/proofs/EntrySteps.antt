-- The writes that enter an entry into a directory are steps, and the directory's lock guards them.
use Rattle.std.proofs.Common.{◌≡◌, ◌∙◌, ◌<◌, ◌-◌, ◌++◌, List, [], ◌∷◌, Some, None, length, map, take, drop, unwrap_or, inl, inr, ℕ, sym, ap, subst}
use Rattle.base_words.specs.Fields.{Block}
use Rattle.fx_dir.specs.declared.Move.{Move}
use Rattle.fx_dir.specs.Moves.{written as moved}
use Rattle.lock_db.specs.declared.name.LockName.TheVariants.{S}
use Rattle.plain_cat.specs.declared.ids.Fid.{Fid}
use Rattle.plain_cat.specs.declared.entries.DirEnt.{DirEnt}
use Rattle.plain_cat.specs.declared.history.Stage.{Stage}
use Rattle.plain_cat.specs.declared.cat.Cat.{Cat}
use Rattle.plain_cat.specs.declared.cat.File.{File}
use Rattle.plain_rules.specs.Directories.{inserted as listed}
use Rattle.plain_rules.specs.Changes.{with_entries}
use Rattle.base_words.specs.Lists.{Has}
use Rattle.vol_spell.specs.Owners.{Owners}
use Rattle.base_words.proofs.Listing.{has_parted}
use Rattle.vol_parts.specs.declared.geometry.Geometry.{Geometry}
use Rattle.vol_parts.specs.declared.geometry.Part.TheVariants.{Header}
use Rattle.vol_spell.specs.Reading.{owner_at}
use Rattle.vol_spell.specs.Spelling.{Spells}
use Rattle.vol_spell.specs.Bodies.{IsOfBody}
use Rattle.vol_spell.proofs.Frames.{of_body}
use Rattle.vol_spell.specs.Entries.{blocks_of, AreMovesIn, CanBeEntered, Enters}
use Rattle.vol_spell.proofs.EntryAdds.{entry_enters}
use Rattle.vol_under.specs.Chains.{End}
use Rattle.vol_under.specs.Guards.{guard_by}
use Rattle.op_law.specs.declared.need.PlanWrite.{PlanWrite}
use Rattle.op_law.specs.Writing.{empty_handed}
use Rattle.op_law.proofs.Naming.{under_lock, TouchesNoHeader}
use Rattle.op_law.specs.Moving.{SeenDir, move_write, moves_at, insertion_moves, insertion_writes, with_new}
use Rattle.op_steps.specs.Chained.{Chain, StepsOf, StageOf, after_writes, TouchedBy, StandsOn, OthersStay}
use Rattle.op_steps.specs.EntryWrites.{dir_in, EntrySteps, EntryGuards}
use Rattle.op_steps.proofs.EntryMoves.{moves_touch, moves_leave, moves_steps}

module _ (g : Geometry) (bs : List Block) (own : Owners) (x : Cat) (dir : Fid) (d : File) (e : DirEnt) (s : Spells g bs own x) (can : CanBeEntered g x dir.num d e) where
  enters : Enters g bs dir.num d e
  enters = entry_enters g bs own x dir.num d e s can

  -- the moves of the insertion
  abbrev ms : List Move
  ms = enters.moves

  moves_are : insertion_moves (dir_in g bs dir) e ≡ ms
  moves_are = ap (λ o. unwrap_or o []) enters.inserted_by

  moves_in : AreMovesIn g bs own x dir.num d enters.old enters.new (length ms - 1) ms
  moves_in = record { spelt = s; number = can.number; file = can.file; dir = can.dir; moves = enters.lead }

module _ (end : End) (k : Chain) (dir : Fid) (d : File) (before after : Stage) (ws : List PlanWrite) (x : Cat) (bs : List Block) (own : Owners) where
  -- moves, of which the last decides, are steps that lead to these entries
  abbrev LeadTo : List DirEnt → List Move → Type 0
  LeadTo es ms = StageOf k after (with_entries x dir.num d es)
      → (StandsOn k empty_handed (with_entries x dir.num d es) (after_writes (moves_at (dir_in k.geometry bs dir) before after (length ms - 1) ms) bs) own
      → OthersStay k.geometry dir.num bs (after_writes (moves_at (dir_in k.geometry bs dir) before after (length ms - 1) ms) bs)
      → StepsOf end k ws (after_writes (moves_at (dir_in k.geometry bs dir) before after (length ms - 1) ms) bs) own)
      → StepsOf end k (moves_at (dir_in k.geometry bs dir) before after (length ms - 1) ms ++ ws) bs own

pub entry_steps : (end : End) → EntrySteps end
unfolding insertion_writes
entry_steps end k dir d e before after ws x bs own s can stage done rest =
    let g = k.geometry in
    let entered = enters g bs own x dir d e s.spelt can in
    let moves = entered.moves in
    let steps = moves_steps end k dir d before after (length moves - 1) moves entered.old entered.new ws x bs own s.outs (moves_in g bs own x dir d e s.spelt can) stage in
    let listed_so = subst (λ (es : List DirEnt). LeadTo end k dir d before after ws x bs own es moves) entered.entries steps in
    subst (λ (ns : List Move). LeadTo end k dir d before after ws x bs own (listed e d.entries) ns) (sym (moves_are g bs own x dir d e s.spelt can)) listed_so done rest

-- the directory as they leave it: the same header, and the blocks with the entry
pub entry_leaves : (g : Geometry) (dir : Fid) (d : File) (e : DirEnt) (before after : Stage) (x : Cat) (bs : List Block) (own : Owners) → Spells g bs own x → CanBeEntered g x dir.num d e
    → dir_in g (after_writes (insertion_writes (dir_in g bs dir) e before after) bs) dir ≡ with_new (dir_in g bs dir) e
unfolding insertion_writes
entry_leaves g dir d e before after x bs own s can =
    let P : List Move → Type 0 = λ ns. dir_in g (after_writes (moves_at (dir_in g bs dir) before after (length ns - 1) ns) bs) dir ≡ record (dir_in g bs dir) { blocks = moved ns (blocks_of g bs dir.num) } in
    subst P (sym (moves_are g bs own x dir d e s can))
    (moves_leave g bs own x dir d before after _ _ _ (ms g bs own x dir d e s can) (moves_in g bs own x dir d e s can))

-- there is a write, so that the last decides
pub entry_moved : (g : Geometry) (dir : Fid) (d : File) (e : DirEnt) (x : Cat) (bs : List Block) (own : Owners) → Spells g bs own x → CanBeEntered g x dir.num d e
    → length (insertion_moves (dir_in g bs dir) e) - 1 < length (insertion_moves (dir_in g bs dir) e)
entry_moved g dir d e x bs own s can = subst (λ (ns : List Move). length ns - 1 < length ns) (sym (moves_are g bs own x dir d e s can)) (enters g bs own x dir d e s can).lead.decides

-- what they touch are blocks of the directory
touched_body : (g : Geometry) (dir : Fid) (d : File) (e : DirEnt) (before after : Stage) (x : Cat) (bs : List Block) (own : Owners) (l : ℕ) → Spells g bs own x → CanBeEntered g x dir.num d e
    → TouchedBy (insertion_writes (dir_in g bs dir) e before after) l → IsOfBody g bs own dir.num l
unfolding insertion_writes
touched_body g dir d e before after x bs own l s can t =
    let u = subst (λ (ns : List Move). TouchedBy (moves_at (dir_in g bs dir) before after (length ns - 1) ns) l) (moves_are g bs own x dir d e s can) t in
    let within = moves_touch g bs own x dir d before after _ _ _ (ms g bs own x dir d e s can) (moves_in g bs own x dir d e s can) l u in
    of_body g bs own x s dir.num l can.number within

-- a write among others touches its block
pub touched_at : (ws : List PlanWrite) (w : PlanWrite) → Has ws w → TouchedBy ws w.lbn
touched_at [] w t = absurd t
touched_at (v ∷ ws) w (inl e) = inl (ap (λ (u : PlanWrite). u.lbn) e)
touched_at (v ∷ ws) w (inr t) = inr (touched_at ws w t)

-- moves are written under the directory's lock
pub moves_locks : (d : SeenDir) (before after : Stage) (k : ℕ) (ms : List Move) (w : PlanWrite) → Has (moves_at d before after k ms) w → w.lock ≡ S d.fid.num
moves_locks d before after k ms w t = elim (has_parted (map (move_write d before) (take k ms)) (map (move_write d after) (drop k ms)) w t) [
  | inl h ↦ each before (take k ms) h
  | inr h ↦ each after (drop k ms) h
] where
  each : (s : Stage) (ns : List Move) → Has (map (move_write d s) ns) w → w.lock ≡ S d.fid.num
  each s [] t = absurd t
  each s (m ∷ ns) (inl e) = ap (λ (v : PlanWrite). v.lock) (sym e)
  each s (m ∷ ns) (inr t) = each s ns t

entry_locks : (d : SeenDir) (e : DirEnt) (before after : Stage) (w : PlanWrite) → Has (insertion_writes d e before after) w → w.lock ≡ S d.fid.num
unfolding insertion_writes
entry_locks d e before after w t = moves_locks d before after (length (insertion_moves d e) - 1) (insertion_moves d e) w t

pub entry_guards : EntryGuards
entry_guards g dir d e before after x bs own node locks s can held w t =
    let ws : List PlanWrite = insertion_writes (dir_in g bs dir) e before after in
    let o = touched_body g dir d e before after x bs own w.lbn s can (touched_at ws w t) in
    under_lock node locks g own (S dir.num) w held (entry_locks (dir_in g bs dir) e before after w t)
    (ap (λ p. guard_by p (owner_at g own w.lbn)) o.no_part ∙ ap (λ y. guard_by None y) o.owned)

-- and none is a header
pub entry_no_header : (g : Geometry) (dir : Fid) (d : File) (e : DirEnt) (before after : Stage) (x : Cat) (bs : List Block) (own : Owners) → Spells g bs own x → CanBeEntered g x dir.num d e
    → TouchesNoHeader g (insertion_writes (dir_in g bs dir) e before after)
entry_no_header g dir d e before after x bs own s can w t i at =
    let o = touched_body g dir d e before after x bs own w.lbn s can (touched_at (insertion_writes (dir_in g bs dir) e before after) w t) in
    let both : None ≡ Some (Header i) = sym o.no_part ∙ at in
    absurd (cc)
