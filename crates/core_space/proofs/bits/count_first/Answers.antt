use Rattle.std.proofs.Common.{◌≡◌, ◌∙◌, ◌<◌, ◌+◌, ℕ, [], length, take, get_or, ap, arith}
use Rattle.std.proofs.lemmas.List.{get_or-map, length-map}
use Rattle.base_words.specs.Fields.{Block}
use Rattle.core_space.specs.Searching.{free_in, free_from}
use Rattle.core_space.specs.Answering.{blocks_alone}
use Rattle.core_space.proofs.Loops.{none_free, frees_more}
use Rattle.core_space.proofs.bits.count_first.Goals as goal

pub loop-k-init : goal.loop-k-init
loop-k-init c = (none_free c.args.geometry.now 0, omega arith)

pub loop-k-preserved : goal.loop-k-preserved
loop-k-preserved c =
    let g = c.args.geometry.now in
    let seen = c.args.storage.now in
    let k = c.loop-k.k in
    let count = length-map seen (λ (x : ℕ × Block). x.1) in
    let inside = c.loop-k-test.true in
    let lt : k < length (blocks_alone seen) = omega (arith, count) in
    let at : get_or (blocks_alone seen) k [] ≡ (get_or seen k (0, [])).1 = get_or-map (λ (x : ℕ × Block). x.1) seen k (0, []) [] inside in
    let here : c.count_in-count.result ≡ length (free_in g k (get_or seen k (0, [])).1) = c.count_in-count.ensures.count in
    let most = c.loop-k.invariant.1 in
    let few = c.count_in-count.ensures.most in (
      ap (λ n. n + c.count_in-count.result) c.loop-k.invariant.0 ∙ ap (λ n. length (free_from g 0 (take k (blocks_alone seen))) + n) here ∙ frees_more g (blocks_alone seen) k (get_or seen k (0, [])).1 lt at,
      omega arith,
    )
