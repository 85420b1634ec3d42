use Rattle.std.proofs.Common.{◌+◌, ℕ, List, length, sym, ap, arith}
use Rattle.std.proofs.lemmas.List.{length-map}
use Rattle.base_words.specs.Fields.{Block}
use Rattle.core_space.specs.Answering.{answered, blocks_alone}
use Rattle.core_space.proofs.Concluding.{collected_of, finds_enough, finds_more, finds_short}
use Rattle.core_space.proofs.finding.search_storage.Goals as goal

pub returns-then-clusters-items : goal.returns-then-clusters-items
returns-then-clusters-items c =
    let g = c.args.geometry.now in
    let t = collected_of g c.args.clusters c.args.number c.args.writes c.args.looked.now c.in_ok-taken.taken c.take_clusters.new.writes c.min-count.result c.requires c.min-count.ensures c.in_ok-taken.ensures.taken c.in_ok-taken.ensures.writes in
    let items = ap (λ (xs : List ℕ). length xs) c.items.ensures.items in
    let enough = c.if-clusters-items.true in
    sym (ap (answered (g.bitmap_lbn + 1 + length c.args.looked.now)) (finds_enough g c.args.clusters c.args.number c.args.writes (blocks_alone c.args.looked.now) c.in_ok-taken.taken c.take_clusters.new.writes t (omega (arith, items))))

pub returns-then-looked-storage_blocks : goal.returns-then-looked-storage_blocks
returns-then-looked-storage_blocks c =
    let g = c.args.geometry.now in
    let t = collected_of g c.args.clusters c.args.number c.args.writes c.args.looked.now c.in_ok-taken.taken c.take_clusters.new.writes c.min-count.result c.requires c.min-count.ensures c.in_ok-taken.ensures.taken c.in_ok-taken.ensures.writes in
    let items = ap (λ (xs : List ℕ). length xs) c.items.ensures.items in
    let few = c.if-clusters-items.false in
    let left = c.if-looked-storage_blocks.true in
    let all = c.storage_blocks.ensures in
    let count = length-map c.args.looked.now (λ (x : ℕ × Block). x.1) in
    sym (ap (answered (g.bitmap_lbn + 1 + length c.args.looked.now)) (finds_more g c.args.clusters c.args.number c.args.writes (blocks_alone c.args.looked.now) c.in_ok-taken.taken c.take_clusters.new.writes t (omega (arith, items)) (omega (arith, count, all))))

pub returns : goal.returns
returns c =
    let g = c.args.geometry.now in
    let t = collected_of g c.args.clusters c.args.number c.args.writes c.args.looked.now c.in_ok-taken.taken c.take_clusters.new.writes c.min-count.result c.requires c.min-count.ensures c.in_ok-taken.ensures.taken c.in_ok-taken.ensures.writes in
    let items = ap (λ (xs : List ℕ). length xs) c.items.ensures.items in
    let few = c.if-clusters-items.false in
    let left = c.if-looked-storage_blocks.false in
    let all = c.storage_blocks.ensures in
    let count = length-map c.args.looked.now (λ (x : ℕ × Block). x.1) in
    sym (ap (answered (g.bitmap_lbn + 1 + length c.args.looked.now)) (finds_short g c.args.clusters c.args.number c.args.writes (blocks_alone c.args.looked.now) c.in_ok-taken.taken c.take_clusters.new.writes t (omega (arith, items)) (omega (arith, count, all))))
