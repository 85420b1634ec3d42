use Rattle.std.proofs.Common.{◌≡◌, ◌<◌, ◌++◌, ℕ, List, [], length, get_or, take, ap, ◌∙◌, arith}
use Rattle.std.proofs.Math.Seq.{take-length}
use Rattle.std.proofs.lemmas.List.{get_or-map, length-map}
use Rattle.base_words.specs.Fields.{Block}
use Rattle.op_law.specs.declared.need.PlanWrite.{PlanWrite}
use Rattle.core_space.specs.Searching.{free_from, with_taken, taken_in, cluster_write, cluster_writes}
use Rattle.core_space.specs.Answering.{blocks_alone}
use Rattle.core_space.proofs.Gathering.{gathering_begins, gather, wrote, wrote_none}
use Rattle.core_space.proofs.taking.take_clusters.Goals as goal
use Rattle.core_space.proofs.taking.take_clusters.Goals.{After-loop-k, then-before-items+in_ok-block_write+in_ok-push, else-before-items}

pub loop-k-init : goal.loop-k-init
loop-k-init c = gathering_begins c.args.geometry.now c.args.wanted c.args.number (blocks_alone c.args.storage.now) c.args.writes.now c.new-taken.result c.new-taken.ensures

pub take_from-requires-clause-rising : goal.take_from-requires-clause-rising
take_from-requires-clause-rising c = c.loop-k.invariant.below

-- the block that is looked at
block_here : (xs : List (ℕ × Block)) (k : ℕ) (d : ℕ × Block) → k < length xs → get_or (blocks_alone xs) k [] ≡ (get_or xs k d).1
block_here xs k d lt = get_or-map (λ (x : ℕ × Block). x.1) xs k d [] lt

pub loop-k-preserved : goal.loop-k-preserved
loop-k-preserved c =
    let g = c.args.geometry.now in
    let bs = blocks_alone c.args.storage.now in
    let b : Block = (get_or c.args.storage.now c.loop-k.k (0, [])).1 in
    let qs = taken_in g c.args.wanted c.loop-k.taken c.loop-k.k b in
    let lt : c.loop-k.k < length bs = (let inside = c.loop-k-test.true in let count = length-map c.args.storage.now (λ (x : ℕ × Block). x.1) in omega (arith, count)) in
    let at = block_here c.args.storage.now c.loop-k.k (0, []) c.loop-k-test.true in
    let left : c.in_ok-block.block ≡ with_taken b qs = c.in_ok-block.ensures.block in
    let after : c.take_from.new.taken ≡ c.loop-k.taken ++ qs = c.in_ok-block.ensures.taken in
    let below = c.in_ok-block.ensures.rising in
    let was = ap (λ (xs : List ℕ). length xs) c.items-before.ensures.items in
    let is = ap (λ (xs : List ℕ). length xs) c.items.ensures.items in
    let writes : c.if-before-items.writes ≡ c.loop-k.writes ++ cluster_write g c.args.number c.loop-k.taken c.loop-k.k b qs = (
    elim c.if-before-items.branch [
      | then-before-items+in_ok-block_write+in_ok-push w ↦
          let grew = w.if-before-items.true in
          w.writes-is ∙ w.in_ok-push.ensures.ok
          ∙ ap (λ (ws : List PlanWrite). c.loop-k.writes ++ ws)
          (wrote g c.args.number c.loop-k.taken c.loop-k.k b qs c.take_from.new.taken c.in_ok-block.block w.in_ok-block_write.field-0 left after (omega (arith, was, is)) w.in_ok-block_write.ensures)
      | else-before-items w ↦
          let same = w.if-before-items.false in
          w.writes-is ∙ wrote_none g c.args.number c.loop-k.taken c.loop-k.k b qs c.take_from.new.taken c.loop-k.writes after (omega (arith, was, is))
    ]
    ) in
    gather g c.args.wanted c.args.number bs c.args.writes.now c.loop-k.taken c.loop-k.writes c.loop-k.k b c.take_from.new.taken c.if-before-items.writes lt at c.loop-k.invariant after writes below

whole_list : (c : After-loop-k) → take c.loop-k.k (blocks_alone c.args.storage.now) ≡ blocks_alone c.args.storage.now
whole_list c =
    let stop = c.loop-k-test.false in
    let le = c.loop-k.auto.k-end in
    let count = length-map c.args.storage.now (λ (x : ℕ × Block). x.1) in
    let all : c.loop-k.k ≡ length (blocks_alone c.args.storage.now) = omega (arith, count) in
    ap (λ n. take n (blocks_alone c.args.storage.now)) all ∙ take-length (blocks_alone c.args.storage.now)

pub returns-clause-taken : goal.returns-clause-taken
returns-clause-taken c = c.loop-k.invariant.taken_is ∙ ap (λ (bs : List Block). take c.args.wanted (free_from c.args.geometry.now 0 bs)) (whole_list c)

pub returns-clause-writes : goal.returns-clause-writes
returns-clause-writes c = c.loop-k.invariant.writes_is ∙ ap (λ (bs : List Block). c.args.writes.now ++ cluster_writes c.args.geometry.now c.args.wanted c.args.number [] 0 bs) (whole_list c)
