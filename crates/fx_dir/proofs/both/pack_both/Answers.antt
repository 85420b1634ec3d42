use Rattle.std.proofs.Common.{◌≡◌, ◌∙◌, ◌+◌, ◌-◌, ◌++◌, [], ℕ, List, take, drop, map, length, slice_index_or, sym, ap, subst, arith}
use Rattle.base_words.specs.Packing.{pack, over}
use Rattle.fx_dir.specs.declared.RawEnt.{RawEnt}
use Rattle.fx_dir.specs.Lists.{Each}
use Rattle.fx_dir.specs.Entries.{without}
use Rattle.fx_dir.specs.Moves.{place, inserted}
use Rattle.fx_dir.specs.Writing.{IsInForm, IsRanged, name_of, block_of}
use Rattle.fx_dir.proofs.Ahead.{spot, shares, pack-before, pack-after, over-after, place-after, group-after, place-most}
use Rattle.fx_dir.proofs.Cover.{each-append}
use Rattle.fx_dir.proofs.Finding.{map-join}
use Rattle.fx_dir.proofs.Greedy.{pack-length}
use Rattle.fx_dir.proofs.Mixing.{each-drop}
use Rattle.fx_dir.proofs.Seeing.{inserted-each}
use Rattle.fx_dir.proofs.both.pack_both.Goals as goal

-- the entries behind those that stand in the first blocks, and the new one among them, are in form
rest-form : (a : ℕ) (e : RawEnt) (es rest all : List RawEnt) → rest ≡ drop a es → all ≡ inserted e rest → Each IsInForm es → IsInForm e → Each IsInForm all
rest-form a e es rest all r i forms form = subst (λ t. Each IsInForm t) (sym (i ∙ ap (inserted e) r)) (inserted-each IsInForm e (drop a es) form (each-drop IsInForm a es forms))

pub lacking_at-requires : goal.lacking_at-requires
lacking_at-requires c = rest-form _ c.args.e.now c.args.es.now _ _ c.split_at-2.ensures.back (c.as_slice.ensures.value ∙ c.in_ok-all.ensures) c.requires.forms c.requires.form

pub pack_onto-requires-2 : goal.pack_onto-requires-2
pack_onto-requires-2 c = rest-form _ c.args.e.now c.args.es.now _ _ c.split_at-2.ensures.back (c.as_slice-3.ensures.value ∙ c.in_ok-all.ensures) c.requires.forms c.requires.form

pub overflow_add-result : goal.overflow_add-result
overflow_add-result c =
    let few = c.in_ok-ahead.ensures.few in
    let m = ap length c.as_slice-same.ensures.value in
    let fits = c.ranges.count.fits in
    omega (arith, c.in_ok-lacking.ensures.at, place-most c.args.e.now (pack name_of (c.args.count - length c.as_slice-same.result.now) c.as_slice.result.now), pack-length (c.args.count - length c.as_slice-same.result.now) c.as_slice.result.now)

pub returns-clause-before : goal.returns-clause-before
returns-clause-before c =
    let es = c.args.es.now in
    let e = c.args.e.now in
    let count = c.args.count in
    let a = c.in_ok-ahead.ahead.entries in
    let m = length c.in_ok-ahead.ahead.blocks.items in
    let s = shares count m a e es c.spot_of.result c.split_at.result.0.now c.spot_of.ensures.spot c.split_at.ensures.front c.in_ok-ahead.ensures.within c.in_ok-ahead.ensures.ahead in
    let n : count - length c.as_slice-same.result.now ≡ count - m = ap (λ k. count - length k) c.as_slice-same.ensures.value in
    let rest : c.split_at-2.result.1.now ≡ drop a es = c.split_at-2.ensures.back in
    let front : c.in_ok-ahead.ahead.blocks.items ≡ map block_of (pack name_of m (take (spot count m a e es) es)) = c.in_ok-ahead.ensures.blocks ∙ ap (λ t. map block_of (pack name_of m t)) (c.split_at.ensures.front ∙ ap (λ k. take k es) c.spot_of.ensures.spot) in
    c.in_ok-pack_onto.ensures.blocks ∙ (λ i. front i ++ map block_of (pack name_of (n i) (rest i)))
    ∙ sym (map-join block_of (pack name_of m (take (spot count m a e es) es)) (pack name_of (count - m) (drop a es))) ∙ ap (map block_of) (sym (pack-before count m a e es s))

pub returns-clause-after : goal.returns-clause-after
returns-clause-after c =
    let es = c.args.es.now in
    let e = c.args.e.now in
    let count = c.args.count in
    let a = c.in_ok-ahead.ahead.entries in
    let m = length c.in_ok-ahead.ahead.blocks.items in
    let s = shares count m a e es c.spot_of.result c.split_at.result.0.now c.spot_of.ensures.spot c.split_at.ensures.front c.in_ok-ahead.ensures.within c.in_ok-ahead.ensures.ahead in
    let n : count - length c.as_slice-same.result.now ≡ count - m = ap (λ k. count - length k) c.as_slice-same.ensures.value in
    let all : c.as_slice-3.result.now ≡ inserted e (drop a es) = c.as_slice-3.ensures.value ∙ c.in_ok-all.ensures ∙ ap (inserted e) c.split_at-2.ensures.back in
    let front : c.in_ok-ahead.ahead.blocks.items ≡ map block_of (pack name_of m (take (spot count m a e es) es)) = c.in_ok-ahead.ensures.blocks ∙ ap (λ t. map block_of (pack name_of m t)) (c.split_at.ensures.front ∙ ap (λ k. take k es) c.spot_of.ensures.spot) in
    c.in_ok-pack_onto-2.ensures.blocks ∙ (λ i. (c.in_ok-blocks.ensures ∙ c.as_slice-2.ensures.value ∙ front) i ++ map block_of (pack name_of (n i) (all i)))
    ∙ sym (map-join block_of (pack name_of m (take (spot count m a e es) es)) (pack name_of (count - m) (inserted e (drop a es)))) ∙ ap (map block_of) (sym (pack-after count m a e es s))

pub returns-clause-ranged : goal.returns-clause-ranged
returns-clause-ranged c =
    let es = c.args.es.now in
    let e = c.args.e.now in
    let count = c.args.count in
    let a = c.in_ok-ahead.ahead.entries in
    let m = length c.in_ok-ahead.ahead.blocks.items in
    let s = shares count m a e es c.spot_of.result c.split_at.result.0.now c.spot_of.ensures.spot c.split_at.ensures.front c.in_ok-ahead.ensures.within c.in_ok-ahead.ensures.ahead in
    let n : count - length c.as_slice-same.result.now ≡ count - m = ap (λ k. count - length k) c.as_slice-same.ensures.value in
    let all : c.as_slice-3.result.now ≡ inserted e (drop a es) = c.as_slice-3.ensures.value ∙ c.in_ok-all.ensures ∙ ap (inserted e) c.split_at-2.ensures.back in
    let front = subst (λ t. Each (λ g. Each IsRanged g) (pack name_of m t)) (c.split_at.ensures.front ∙ ap (λ k. take k es) c.spot_of.ensures.spot) c.in_ok-ahead.ensures.ranged in
    let back : Each (λ g. Each IsRanged g) (pack name_of (count - m) (inserted e (drop a es))) = subst (λ t. t) (λ i. Each (λ g. Each IsRanged g) (pack name_of (n i) (all i))) c.in_ok-pack_onto-2.ensures.ranged in
    subst (λ t. Each (λ g. Each IsRanged g) t) (sym (pack-after count m a e es s)) (each-append (λ g. Each IsRanged g) (pack name_of m (take (spot count m a e es) es)) (pack name_of (count - m) (inserted e (drop a es))) front back)

pub returns-clause-left : goal.returns-clause-left
returns-clause-left c =
    let es = c.args.es.now in
    let e = c.args.e.now in
    let count = c.args.count in
    let a = c.in_ok-ahead.ahead.entries in
    let m = length c.in_ok-ahead.ahead.blocks.items in
    let s = shares count m a e es c.spot_of.result c.split_at.result.0.now c.spot_of.ensures.spot c.split_at.ensures.front c.in_ok-ahead.ensures.within c.in_ok-ahead.ensures.ahead in
    let n : count - length c.as_slice-same.result.now ≡ count - m = ap (λ k. count - length k) c.as_slice-same.ensures.value in
    let all : c.as_slice-3.result.now ≡ inserted e (drop a es) = c.as_slice-3.ensures.value ∙ c.in_ok-all.ensures ∙ ap (inserted e) c.split_at-2.ensures.back in
    c.in_ok-pack_onto-2.ensures.left ∙ (λ i. length (over name_of (n i) (all i))) ∙ ap length (sym (over-after count m a e es s))

pub returns-clause-at : goal.returns-clause-at
returns-clause-at c =
    let es = c.args.es.now in
    let e = c.args.e.now in
    let count = c.args.count in
    let a = c.in_ok-ahead.ahead.entries in
    let m = length c.in_ok-ahead.ahead.blocks.items in
    let s = shares count m a e es c.spot_of.result c.split_at.result.0.now c.spot_of.ensures.spot c.split_at.ensures.front c.in_ok-ahead.ensures.within c.in_ok-ahead.ensures.ahead in
    let n : count - length c.as_slice-same.result.now ≡ count - m = ap (λ k. count - length k) c.as_slice-same.ensures.value in
    let all : c.as_slice.result.now ≡ inserted e (drop a es) = c.as_slice.ensures.value ∙ c.in_ok-all.ensures ∙ ap (inserted e) c.split_at-2.ensures.back in
    let at : c.in_ok-lacking.lacking.at ≡ place e (pack name_of (count - m) (inserted e (drop a es))) = c.in_ok-lacking.ensures.at ∙ (λ i. place e (pack name_of (n i) (all i))) in
    (λ i. length (c.as_slice-same.ensures.value i) + at i) ∙ sym (place-after count m a e es s c.requires.absent)

pub returns-clause-block : goal.returns-clause-block
returns-clause-block c =
    let es = c.args.es.now in
    let e = c.args.e.now in
    let count = c.args.count in
    let a = c.in_ok-ahead.ahead.entries in
    let m = length c.in_ok-ahead.ahead.blocks.items in
    let s = shares count m a e es c.spot_of.result c.split_at.result.0.now c.spot_of.ensures.spot c.split_at.ensures.front c.in_ok-ahead.ensures.within c.in_ok-ahead.ensures.ahead in
    let n : count - length c.as_slice-same.result.now ≡ count - m = ap (λ k. count - length k) c.as_slice-same.ensures.value in
    let all : c.as_slice.result.now ≡ inserted e (drop a es) = c.as_slice.ensures.value ∙ c.in_ok-all.ensures ∙ ap (inserted e) c.split_at-2.ensures.back in
    c.in_ok-lacking.ensures.block ∙ (λ i. block_of (without e (slice_index_or (pack name_of (n i) (all i)) (place e (pack name_of (n i) (all i))) []))) ∙ ap (λ g. block_of (without e g)) (sym (group-after count m a e es s c.requires.absent))
