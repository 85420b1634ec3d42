-- A file whose last header is cut to the blocks that the file has in it keeps its chain, with nothing behind it.
use Rattle.std.proofs.Common.{◌≡◌, ◌≢◌, ◌∙◌, ◌+◌, ◌-◌, ◌*◌, ◌<◌, ◌≤◌, ◌⊎◌, nat_lt, ℕ, zero, suc, true, List, [], ◌∷◌, ◌++◌, Some, All, flat_map, map, refl, sym, ap, subst, inl, inr, arith, append-nil, append_assoc}
use Rattle.std.specs.Prelude.{◌||◌, ◌&&◌, ◌==◌}
use Rattle.std.proofs.lemmas.List.Elements.{All-nil, All-cons, All-head, All-tail}
use Rattle.std.proofs.lemmas.Bool.{le-ltb, or_from}
use Rattle.base_words.specs.Lists.{Has}
use Rattle.base_words.proofs.Listing.{same_or_not}
use Rattle.fx_header.specs.declared.run.Run.{Run}
use Rattle.fx_header.specs.declared.slot.Hdr.{Hdr}
use Rattle.fx_header.specs.Pointers.{blocks_in, merged}
use Rattle.fx_header.proofs.SpellLemmas.{blocks_in-merged}
use Rattle.plain_rules.specs.Lookups.{header_most}
use Rattle.vol_parts.specs.Chains.{Headers, held, follows, next_header, slots_from, cut, most_headers, last_slot, has_link, ends_with_link, are_filled, are_parts_filled, chain_of, is_well_split}
use Rattle.vol_parts.specs.ChainLaws.{HasBlocks, IsSlot, IsSameSlot}
use Rattle.vol_parts.proofs.Cuts.{cut_behind, cut-counts, cut-leaves, blocks-cons}
use Rattle.vol_parts.proofs.Walks.{follows-parts, IsNext, next-is, next-from, walk-enough, walk-more}
use Rattle.vol_mends.specs.Surplus.{unlinked, IsCutAt, EndsAt, AreMerged, IsChainCut, LastIsCut}

-- ---- cuts

pub blocks_joined : (rs ss : List Run) → blocks_in (rs ++ ss) ≡ blocks_in rs + blocks_in ss
blocks_joined [] ss = let e : blocks_in ss ≡ 0 + blocks_in ss = omega arith in e
blocks_joined (r ∷ rs) ss =
    let all = blocks-cons r (rs ++ ss) in
    let first = blocks-cons r rs in
    let rest = blocks_joined rs ss in
    omega (arith, all, first, rest)

each_has : (rs ss : List Run) → All HasBlocks rs → All HasBlocks ss → All HasBlocks (rs ++ ss)
each_has [] ss a b = b
each_has (r ∷ rs) ss a b = All-cons HasBlocks r (rs ++ ss) (All-head HasBlocks r rs a) (each_has rs ss (All-tail HasBlocks r rs a) b)

all_have : (lists : ℕ → List Run) (ns : List ℕ) → ((i : ℕ) → All HasBlocks (lists i)) → All HasBlocks (flat_map lists ns)
all_have lists [] each = All-nil HasBlocks
all_have lists (n ∷ ns) each = each_has (lists n) (flat_map lists ns) (each n) (all_have lists ns each)

-- ---- the last slot

one_header : (a b : Hdr) → Some a ≡ Some b → a ≡ b
one_header a b e = cc e

pub ends_says : (h : Headers) (k n : ℕ) (f : Hdr) (left m : ℕ) (x : Hdr) (rest : ℕ) → h.says n ≡ Some f → EndsAt h k n f left m x rest → (h.says m ≡ Some x) × (f.seg ≤ x.seg)
ends_says h zero n f left m x rest says e = absurd e
ends_says h (suc k) n f left m x rest says (inl e) = (ap h.says (sym e.1) ∙ (says ∙ ap (λ (y : Hdr). Some y) e.2), let same = ap (λ (y : Hdr). y.seg) e.2 in omega (arith, same))
ends_says h (suc k) n f left m x rest says (inr e) =
    let next = next-is h f e.1.0 e.1.1 in
    let on = ends_says h k f.ext e.1.0 (left - held h n) m x rest next.says e.1.2 in
    let up = (follows-parts f e.1.0 next.after).segment in
    let le = on.1 in
    (on.0, omega (arith, up, le))

-- a slot before the last one is another
other_slot : (h : Headers) (k n : ℕ) (f : Hdr) (left m : ℕ) (x y : Hdr) (rest : ℕ) → h.says n ≡ Some f → next_header h f ≡ Some y → EndsAt h k f.ext y left m x rest → n ≢ m
other_slot h k n f left m x y rest says after e same =
    let next = next-is h f y after in
    let on = ends_says h k f.ext y left m x rest next.says e in
    let up = (follows-parts f y next.after).segment in
    let le = on.1 in
    let one = ap (λ (z : Hdr). z.seg) (one_header f x (sym says ∙ (ap h.says same ∙ on.0))) in
    omega (arith, up, le, one)

-- the last slot is one of the walk
pub ends_has : (h : Headers) (k n : ℕ) (f : Hdr) (left m : ℕ) (x : Hdr) (rest : ℕ) → EndsAt h k n f left m x rest → Has (slots_from h k n f left) m
ends_has h zero n f left m x rest e = absurd e
ends_has h (suc k) n f left m x rest (inl e) = subst (λ ns. Has ns m) (sym (walk-enough h k n f left e.0)) (inl e.1)
ends_has h (suc k) n f left m x rest (inr e) = subst (λ ns. Has ns m) (sym (walk-more h k n f left (Some e.1.0) e.0 e.1.1)) (inr (ends_has h k f.ext e.1.0 (left - held h n) m x rest e.1.2))

follows_unlinked : (f y : Hdr) → follows f y ≡ true → follows f (unlinked y) ≡ true
unfolding follows
follows_unlinked f y e = e

-- what a walk of the cut headers has
record IsCutWalk (h g : Headers) (k n : ℕ) (f first : Hdr) (left m : ℕ) : Type 0 where
  others : List ℕ
  slots : slots_from h k n f left ≡ n ∷ others
  same : slots_from g k n first left ≡ n ∷ others
  last : last_slot n others ≡ m
  front : List Run
  back : List Run
  was : cut left (flat_map h.lists (n ∷ others)) ≡ front ++ back
  now : flat_map g.lists (n ∷ others) ≡ front ++ merged back
  split : (full k : ℕ) → are_parts_filled full k (map g.lists (n ∷ others)) ≡ are_parts_filled full k (map h.lists (n ∷ others))
  blocks : blocks_in (flat_map g.lists (n ∷ others)) ≡ left

cut_here : (h g : Headers) (k n : ℕ) (f first : Hdr) (left m : ℕ) (x : Hdr) (rest : ℕ) → left ≤ held h n → n ≡ m → left ≡ rest → IsCutAt h g m x rest → IsCutWalk h g (suc k) n f first left m
cut_here h g k n f first left m x rest enough at all c = record {
  others = [];
  slots = walk-enough h k n f left enough;
  same = walk-enough g k n first left (let e = held_now in omega (arith, e));
  last = at;
  front = [];
  back = cut left (h.lists n);
  was = ap (cut left) (append-nil (h.lists n));
  now = append-nil (g.lists n) ∙ lists;
  split = λ full k. refl;
  blocks = ap blocks_in (append-nil (g.lists n)) ∙ held_now;
} where
  lists : g.lists n ≡ merged (cut left (h.lists n))
  lists = ap g.lists at ∙ (c.lists ∙ (ap (λ k. merged (cut k (h.lists m))) (sym all) ∙ ap (λ j. merged (cut left (h.lists j))) (sym at)))

  held_now : blocks_in (g.lists n) ≡ left
  held_now = let count = ap blocks_in lists ∙ (blocks_in-merged (cut left (h.lists n)) ∙ cut-counts left (h.lists n)) in omega (arith, count, enough)

cut_on : (h g : Headers) (k n : ℕ) (f : Hdr) (left m : ℕ) (y z : Hdr) → IsSameSlot h g n → held h n < left → next_header h f ≡ Some y → next_header g f ≡ Some z
    → IsCutWalk h g k f.ext y z (left - held h n) m → IsCutWalk h g (suc k) n f f left m
cut_on h g k n f left m y z same more was now w = record {
  others = f.ext ∷ w.others;
  slots = walk-more h k n f left (Some y) more was ∙ ap (λ ns. n ∷ ns) w.slots;
  same = walk-more g k n f left (Some z) (let e = count in omega (arith, e, more)) now ∙ (ap (λ j. n ∷ slots_from g k f.ext z (left - j)) count ∙ ap (λ ns. n ∷ ns) w.same);
  last = w.last;
  front = h.lists n ++ w.front;
  back = w.back;
  was = cut_behind left (h.lists n) (flat_map h.lists (f.ext ∷ w.others)) more ∙ (ap (λ xs. h.lists n ++ xs) w.was ∙ sym (append_assoc (h.lists n) w.front w.back));
  now = ap (λ xs. xs ++ flat_map g.lists (f.ext ∷ w.others)) same.lists ∙ (ap (λ xs. h.lists n ++ xs) w.now ∙ sym (append_assoc (h.lists n) w.front (merged w.back)));
  split = λ full k.
      ap (λ xs. (blocks_in xs == full) && are_filled full (k - blocks_in xs) (g.lists f.ext) (map g.lists w.others)) same.lists
      ∙ ap (λ t. (blocks_in (h.lists n) == full) && t) (w.split full (k - blocks_in (h.lists n)));
  blocks = blocks_joined (g.lists n) (flat_map g.lists (f.ext ∷ w.others)) ∙ (let e = count in let rest = w.blocks in omega (arith, e, rest, more));
} where
  count : held g n ≡ held h n
  count = ap blocks_in same.lists

cut_walk : (h g : Headers) (k n : ℕ) (f first : Hdr) (left m : ℕ) (x : Hdr) (rest : ℕ) → h.says n ≡ Some f → EndsAt h k n f left m x rest → IsCutAt h g m x rest → g.says n ≡ Some first → IsCutWalk h g k n f first left m
cut_walk h g zero n f first left m x rest says e c now = absurd e
cut_walk h g (suc k) n f first left m x rest says (inl e) c now = cut_here h g k n f first left m x rest e.0 e.1 e.3 c
cut_walk h g (suc k) n f first left m x rest says (inr e) c now =
    subst (λ (y : Hdr). IsCutWalk h g (suc k) n f y left m) first_is
    (by_place (same_or_not f.ext m) (λ z there. cut_walk h g k f.ext e.1.0 z (left - held h n) m x rest next.says e.1.2 c there))
  where
    next : IsNext h f e.1.0
    next = next-is h f e.1.0 e.1.1

    kept : IsSameSlot h g n
    kept = c.others n (other_slot h k n f (left - held h n) m x e.1.0 rest says e.1.1 e.1.2)

    first_is : f ≡ first
    first_is = one_header f first (sym says ∙ (sym kept.says ∙ now))

    in_g : IsSlot g f.ext
    in_g = let to = next.number.to in let files = c.files in record { from = next.number.from; to = omega (arith, to, files) }

    by_place : (f.ext ≡ m) ⊎ (f.ext ≢ m) → ((z : Hdr) → g.says f.ext ≡ Some z → IsCutWalk h g k f.ext e.1.0 z (left - held h n) m) → IsCutWalk h g (suc k) n f f left m
    by_place (inl same) walk =
        let last = (ends_says h k f.ext e.1.0 (left - held h n) m x rest next.says e.1.2).0 in
        let one : e.1.0 ≡ x = one_header e.1.0 x (sym next.says ∙ (ap h.says same ∙ last)) in
        let there : g.says f.ext ≡ Some (unlinked e.1.0) = ap g.says same ∙ (c.says ∙ ap (λ (y : Hdr). Some (unlinked y)) (sym one)) in
        cut_on h g k n f left m e.1.0 (unlinked e.1.0) kept e.0 e.1.1
        (next-from g f (unlinked e.1.0) (record { number = in_g; says = there; after = follows_unlinked f e.1.0 next.after })) (walk (unlinked e.1.0) there)
    by_place (inr other) walk =
        let there : g.says f.ext ≡ Some e.1.0 = (c.others f.ext other).says ∙ next.says in
        cut_on h g k n f left m e.1.0 e.1.0 kept e.0 e.1.1 (next-from g f e.1.0 (record { number = in_g; says = there; after = next.after })) (walk e.1.0 there)

-- ---- the file

module _ (h g : Headers) (n : ℕ) (f first : Hdr) (m : ℕ) (x : Hdr) (rest : ℕ) (says : h.says n ≡ Some f) (e : EndsAt h most_headers n f f.blocks m x rest) (c : IsCutAt h g m x rest)
    (now : g.says n ≡ Some first) (same : first.blocks ≡ f.blocks) where
  w : IsCutWalk h g most_headers n f first f.blocks m
  w = cut_walk h g most_headers n f first f.blocks m x rest says e c now

  slots : slots_from g most_headers n first first.blocks ≡ n ∷ w.others
  slots = ap (slots_from g most_headers n first) same ∙ w.same

  runs : AreMerged (chain_of h n f).runs (chain_of g n first).runs
  runs = record {
    front = w.front;
    back = w.back;
    was = ap (λ ns. cut f.blocks (flat_map h.lists ns)) w.slots ∙ w.was;
    now = ap (λ ns. cut first.blocks (flat_map g.lists ns)) slots
        ∙ (cut-leaves first.blocks (flat_map g.lists (n ∷ w.others)) (all_have g.lists (n ∷ w.others) c.some) (let count = w.blocks in omega (arith, count, same)) ∙ w.now);
  }

  count : blocks_in (chain_of g n first).runs ≡ blocks_in (chain_of h n f).runs
  count =
      ap blocks_in runs.now ∙ (blocks_joined runs.front (merged runs.back) ∙ (ap (λ k. blocks_in runs.front + k) (blocks_in-merged runs.back)
      ∙ (sym (blocks_joined runs.front runs.back) ∙ ap blocks_in (sym runs.was))))

  split : (factor : ℕ) → is_well_split factor (chain_of g n first) ≡ is_well_split factor (chain_of h n f)
  unfolding is_well_split
  split factor =
      ap (λ k. are_parts_filled (header_most * factor) k (map g.lists (slots_from g most_headers n first first.blocks))) count
      ∙ (ap (λ ns. are_parts_filled (header_most * factor) (blocks_in (chain_of h n f).runs) (map g.lists ns)) slots
      ∙ (w.split (header_most * factor) (blocks_in (chain_of h n f).runs)
      ∙ ap (λ ns. are_parts_filled (header_most * factor) (blocks_in (chain_of h n f).runs) (map h.lists ns)) (sym w.slots)))

  cut_chain : IsChainCut (chain_of h n f) (chain_of g n first)
  cut_chain = record {
    slots = slots ∙ sym w.slots;
    runs = runs;
    split = split;
    surplus = ap (λ ns. ends_with_link g ns || nat_lt first.blocks (blocks_in (flat_map g.lists ns))) slots
        ∙ or_from _ _ (ap (λ j. has_link (g.says j)) w.last ∙ ap has_link c.says) (le-ltb _ _ (let total = w.blocks in omega (arith, total, same)));
  }

pub last_is_cut : LastIsCut
last_is_cut = cut_chain
