-- The moves of an insertion or a removal as steps.
use Rattle.std.proofs.Common.{◌≡◌, ◌∙◌, ◌≤◌, ◌<◌, ◌++◌, ℕ, zero, suc, List, [], ◌∷◌, length, map, take, take_all, slice_set, refl, sym, ap, subst, arith}
use Rattle.std.specs.Prelude.{◌-◌, slice_index_or}
use Rattle.base_words.specs.Fields.{Block}
use Rattle.fx_dir.specs.declared.RawEnt.{RawEnt}
use Rattle.fx_dir.specs.declared.Move.{Move}
use Rattle.fx_dir.specs.Moves.{written as moved}
use Rattle.plain_cat.specs.declared.ids.Fid.{Fid}
use Rattle.plain_cat.specs.declared.history.Stage.{Stage}
use Rattle.plain_cat.specs.declared.cat.Cat.{Cat}
use Rattle.plain_cat.specs.declared.cat.File.{File}
use Rattle.plain_rules.specs.Changes.{with_entries}
use Rattle.base_words.specs.Lists.{Has, Touches, written}
use Rattle.vol_spell.specs.Owners.{Owners, OwnersMove, Outs}
use Rattle.vol_spell.proofs.Moving.{moves_compose}
use Rattle.vol_parts.specs.declared.geometry.Geometry.{Geometry}
use Rattle.vol_parts.specs.Catalogues.{plain_entry}
use Rattle.vol_spell.specs.Reading.{told_of, body_places}
use Rattle.vol_spell.specs.Spelling.{Spells}
use Rattle.vol_spell.specs.Entries.{places_in, blocks_of, places_written, after_moves, AreMovesIn}
use Rattle.vol_spell.proofs.EntryMoves.{touched, moves_spelt, moves_leave as blocks_leave}
use Rattle.vol_under.specs.Guards.{IsCommandMove}
use Rattle.vol_under.specs.UnderWay.{bare}
use Rattle.vol_under.specs.Chains.{End, IsStep}
use Rattle.op_law.specs.declared.need.PlanWrite.{PlanWrite}
use Rattle.op_law.specs.Fits.{things}
use Rattle.op_law.specs.Laws.{planned}
use Rattle.op_law.specs.Writing.{empty_handed}
use Rattle.op_law.specs.Moving.{SeenDir, move_write, moves_at}
use Rattle.op_steps.specs.Chained.{Chain, StepsOf, StageOf, after_writes, TouchedBy, StandsOn, OthersStay}
use Rattle.op_steps.specs.EntryWrites.{dir_in}

-- the writes are those of the moves, whatever their stages
bare_moves : (d : SeenDir) (before after : Stage) (k : ℕ) (ms : List Move) → bare (map planned (moves_at d before after k ms)) ≡ places_written d.head ms
bare_moves d before after zero [] = refl
bare_moves d before after (suc k) [] = refl
bare_moves d before after zero (m ∷ ms) = ap (λ ws. (slice_index_or (places_in d.head) (m.vbn - 1) 0, m.block) ∷ ws) (bare_moves d before after zero ms)
bare_moves d before after (suc k) (m ∷ ms) = ap (λ ws. (slice_index_or (places_in d.head) (m.vbn - 1) 0, m.block) ∷ ws) (bare_moves d before after k ms)

-- so the blocks after them are those after the moves
made_so : (g : Geometry) (bs : List Block) (dir : Fid) (before after : Stage) (j : ℕ) (ms : List Move) → after_writes (moves_at (dir_in g bs dir) before after j ms) bs ≡ after_moves g dir.num ms bs
made_so g bs dir before after j ms = ap (λ ws. written ws bs) (bare_moves (dir_in g bs dir) before after j ms)

-- what the writes touch are blocks of the directory
pub moves_touch : (g : Geometry) (bs : List Block) (own : Owners) (x : Cat) (dir : Fid) (f : File) (before after : Stage) (old new : List RawEnt) (j : ℕ) (ms : List Move) → AreMovesIn g bs own x dir.num f old new j ms
    → (l : ℕ) → TouchedBy (moves_at (dir_in g bs dir) before after j ms) l → Has (body_places dir.num (told_of g bs dir.num)) l
moves_touch g bs own x dir f before after old new j ms are l t =
    touched g bs own x dir.num f old new j ms are l (subst (λ (ws : List (ℕ × Block)). Touches ws l) (bare_moves (dir_in g bs dir) before after j ms) t)

-- the directory has the same header after them, and the blocks that the moves leave
pub moves_leave : (g : Geometry) (bs : List Block) (own : Owners) (x : Cat) (dir : Fid) (f : File) (before after : Stage) (old new : List RawEnt) (j : ℕ) (ms : List Move) → AreMovesIn g bs own x dir.num f old new j ms
    → dir_in g (after_writes (moves_at (dir_in g bs dir) before after j ms) bs) dir ≡ record (dir_in g bs dir) { blocks = moved ms (blocks_of g bs dir.num) }
moves_leave g bs own x dir f before after old new j ms are =
    let header = blocks_leave.header g bs own x dir.num f old new j ms are in
    let blocks = blocks_leave.blocks g bs own x dir.num f old new j ms are in
    ap (λ (now : List Block). dir_in g now dir) (made_so g bs dir before after j ms) ∙ (λ i. record { fid = dir; head = header i; blocks = blocks i })

-- ---- moves as steps

-- moves as steps of a chain, where the blocks after each number of them spell the catalogue of its stage
module _ (end : End) (k : Chain) (d : SeenDir) (before after : Stage) (ws : List PlanWrite) (x y : Cat) (own : Owners) (outs : Outs k.node own (things empty_handed.clusters empty_handed.number) k.stock) (stage : StageOf k before x) (done : StageOf k after y) where
  still : (own : Owners) → OwnersMove (IsCommandMove k.node k.locks) own own
  still own = (moves_compose (IsCommandMove k.node k.locks)).still own

  in_turn : (j : ℕ) (ms : List Move) (bs : List Block) → ((i : ℕ) → 1 ≤ i → i ≤ j → i ≤ length ms → Spells k.geometry (written (places_written d.head (take i ms)) bs) own x)
      → ((i : ℕ) → j < i → i ≤ length ms → Spells k.geometry (written (places_written d.head (take i ms)) bs) own y)
      → StepsOf end k ws (after_writes (moves_at d before after j ms) bs) own → StepsOf end k (moves_at d before after j ms ++ ws) bs own
  in_turn zero [] bs same other rest = rest
  in_turn (suc j) [] bs same other rest = rest
  in_turn zero (m ∷ ms) bs same other rest =
      let step : IsStep k.geometry k.node k.cmd k.locks k.cat k.stock (planned (move_write d after m)) bs own own y = record { stage = done; spelt = other 1 (omega arith) (omega arith); moves = still own; outs = outs } in
      let behind = in_turn zero ms (slice_set bs (slice_index_or (places_in d.head) (m.vbn - 1) 0) m.block) (λ i from to le. absurd (omega arith)) (λ i lt le. other (suc i) (omega arith) (omega arith)) rest in
      (own, y, step, behind)
  in_turn (suc j) (m ∷ ms) bs same other rest =
      let step : IsStep k.geometry k.node k.cmd k.locks k.cat k.stock (planned (move_write d before m)) bs own own x = record { stage = stage; spelt = same 1 (omega arith) (omega arith) (omega arith); moves = still own; outs = outs } in
      let behind = in_turn j ms (slice_set bs (slice_index_or (places_in d.head) (m.vbn - 1) 0) m.block) (λ i from to le. same (suc i) (omega arith) (omega arith) (omega arith)) (λ i lt le. other (suc i) (omega arith) (omega arith)) rest in
      (own, x, step, behind)

pub moves_steps : (end : End) (k : Chain) (dir : Fid) (f : File) (before after : Stage) (j : ℕ) (ms : List Move) (old new : List RawEnt) (ws : List PlanWrite) (x : Cat) (bs : List Block) (own : Owners)
    → Outs k.node own (things empty_handed.clusters empty_handed.number) k.stock → AreMovesIn k.geometry bs own x dir.num f old new j ms → StageOf k before x → StageOf k after (with_entries x dir.num f (map plain_entry new))
    → (StandsOn k empty_handed (with_entries x dir.num f (map plain_entry new)) (after_writes (moves_at (dir_in k.geometry bs dir) before after j ms) bs) own
    → OthersStay k.geometry dir.num bs (after_writes (moves_at (dir_in k.geometry bs dir) before after j ms) bs) → StepsOf end k ws (after_writes (moves_at (dir_in k.geometry bs dir) before after j ms) bs) own)
    → StepsOf end k (moves_at (dir_in k.geometry bs dir) before after j ms ++ ws) bs own
moves_steps end k dir f before after j ms old new ws x bs own outs are stage done rest =
    let g = k.geometry in
    let y = with_entries x dir.num f (map plain_entry new) in
    let so = sym (made_so g bs dir before after j ms) in
    let lt = are.moves.decides in
    let last : Spells g (after_moves g dir.num ms bs) own y =
    subst (λ (ns : List Move). Spells g (after_moves g dir.num ns bs) own y) (take_all (length ms) ms (omega arith)) (moves_spelt.behind g bs own x dir.num f old new j ms (length ms) are lt (omega arith)) in
    let spelt = subst (λ (bs' : List Block). Spells g bs' own y) so last in
    let stay = subst (λ (bs' : List Block). OthersStay g dir.num bs bs') so (λ i is other. blocks_leave.others g bs own x dir.num f old new j ms i are is other) in
    in_turn end k (dir_in g bs dir) before after ws x y own outs stage done j ms bs (λ i from to le. moves_spelt.before g bs own x dir.num f old new j ms i are to)
    (λ i lt le. moves_spelt.behind g bs own x dir.num f old new j ms i are lt le) (rest (record { spelt = spelt; outs = outs }) stay)
