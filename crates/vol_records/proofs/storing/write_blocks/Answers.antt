use Rattle.std.proofs.Common.{◌≡◌, ◌∙◌, ◌+◌, ℕ, Some, length, suc, sym, ap, subst, arith}
use Rattle.std.specs.Prelude.{slice_index_or}
use Rattle.std.proofs.lemmas.Option.{slice_get-get_or}
use Rattle.base_words.specs.Fields.{Block}
use Rattle.vol_records.specs.Making.{placed}
use Rattle.vol_records.specs.Storing.{chunks, blocks_for}
use Rattle.vol_records.proofs.Chunks.{length-chunks, chunk_at}
use Rattle.vol_records.proofs.Made.{AreMade, first_length, placed_at, length-placed, made_next, all_made, next_failed}
use Rattle.vol_records.proofs.storing.write_blocks.Goals as goal

pub write-requires : goal.write-requires
write-requires g c =
    let lt = c.loop-i-test.true in
    let end = c.blocks_for-i-end.ensures in
    let room = c.requires.room in
    let some = c.requires.size.from in
    let here = c.requires.inside c.loop-i.i 0 (omega (arith, lt, end, room)) in
    let len = first_length _ _ _ _ _ _ _ _ c.loop-i.invariant in
    omega (arith, here, len)

pub returns-in_err-write : goal.returns-in_err-write
returns-in_err-write g c =
    let lt = c.loop-i-test.true in
    let end = c.blocks_for-i-end.ensures in
    let room = c.requires.room in
    let there = slice_get-get_or c.args.places.now c.loop-i.i 0 (omega (arith, lt, end, room)) in
    let block = chunk_at (blocks_for (length c.args.bytes.now)) c.args.bytes.now c.loop-i.i (omega (arith, lt, end)) ∙ ap (λ (b : Block). Some b) (sym c.chunk-b.ensures) in
    let w : ℕ × Block = (slice_index_or c.args.places.now c.loop-i.i 0, c.chunk-b.result) in
    next_failed _ _ _ _ _ _ _ _ _ _ c.loop-i.i w _ c.loop-i.invariant (placed_at c.args.places.now (chunks (blocks_for (length c.args.bytes.now)) c.args.bytes.now) c.loop-i.i w.0 w.1 there block)
    c.in_err-write.ensures.same c.in_err-write.ensures.failed c.in_err-write.ensures.cause.later c.in_err-write.ensures.cause.failed c.from_residual.ensures.0

pub loop-i-preserved : goal.loop-i-preserved
loop-i-preserved g c =
    let lt = c.loop-i-test.true in
    let end = c.blocks_for-i-end.ensures in
    let room = c.requires.room in
    let there = slice_get-get_or c.args.places.now c.loop-i.i 0 (omega (arith, lt, end, room)) in
    let block = chunk_at (blocks_for (length c.args.bytes.now)) c.args.bytes.now c.loop-i.i (omega (arith, lt, end)) ∙ ap (λ (b : Block). Some b) (sym c.chunk-b.ensures) in
    let w : ℕ × Block = (slice_index_or c.args.places.now c.loop-i.i 0, c.chunk-b.result) in
    let next : suc c.loop-i.i ≡ c.loop-i.i + 1 = omega arith in
    subst (λ (k : ℕ). AreMade (placed c.args.places.now (chunks (blocks_for (length c.args.bytes.now)) c.args.bytes.now)) c.args.m.now.blocks c.write.new.self.blocks (g.I.ImageDev.told c.args.m.now.image) (g.I.ImageDev.told c.write.new.self.image) (g.I.ImageDev.faults c.args.m.now.image) (g.I.ImageDev.faults c.write.new.self.image) k) next
    (made_next _ _ _ _ _ _ _ _ _ _ c.loop-i.i w c.loop-i.invariant (placed_at c.args.places.now (chunks (blocks_for (length c.args.bytes.now)) c.args.bytes.now) c.loop-i.i w.0 w.1 there block)
    c.in_ok-write.ensures.ok c.in_ok-write.ensures.image c.in_ok-write.ensures.cause.later)

pub returns : goal.returns
returns g c =
    let not_lt = c.loop-i-test.false in
    let le = c.loop-i.auto.i-end in
    let end = c.blocks_for-i-end.ensures in
    let room = c.requires.room in
    let many = length-chunks (blocks_for (length c.args.bytes.now)) c.args.bytes.now in
    let all = length-placed c.args.places.now (chunks (blocks_for (length c.args.bytes.now)) c.args.bytes.now) (omega (arith, many, room)) in
    all_made _ _ _ _ _ _ _ c.loop-i.i _ c.loop-i.invariant (omega (arith, not_lt, le, end, many, all)) (λ e. absurd (cc e))
