-- The last header of a file: where the walk along the chain ends, and what lies in it.
use Rattle.std.proofs.Common.{◌≡◌, ◌∙◌, ◌+◌, ◌-◌, ◌*◌, ◌<◌, ◌≤◌, ◌==◌, ◌||◌, nat_lt, not, ℕ, zero, suc, true, List, [], ◌∷◌, ◌++◌, Some, map, flat_map, refl, sym, ap, subst, inl, inr, arith, append-nil, append_assoc}
use Rattle.std.proofs.lemmas.Bool.{and_parts, leb-true}
use Rattle.std.proofs.lemmas.Bool.Decides.{nat_tests}
use Rattle.fx_header.specs.declared.run.Run.{Run}
use Rattle.fx_header.specs.declared.slot.Hdr.{Hdr}
use Rattle.fx_header.specs.Pointers.{blocks_in}
use Rattle.plain_rules.specs.Lookups.{header_most}
use Rattle.vol_parts.specs.Chains.{Headers, held, next_header, slots_from, cut, most_headers, last_slot, has_link, ends_with_link, are_filled, are_parts_filled, chain_of, is_well_split}
use Rattle.vol_parts.specs.ChainLaws.{IsSlot, IsSameSlot}
use Rattle.vol_parts.proofs.Walks.{next-is, next-from, walk-enough, walk-more}
use Rattle.vol_parts.proofs.Cuts.{cut_behind}
use Rattle.vol_mends.specs.Surplus.{EndsAt}
use Rattle.vol_rebuild.specs.Tails.{IsLast}
use Rattle.vol_mends.proofs.Surplus.{blocks_joined, ends_says}

-- ---- the walk

-- it ends here
pub ends_here : (h : Headers) (k i n : ℕ) (f : Hdr) (left : ℕ) → i < k → left ≤ held h n → IsLast h (k - i) n f left n f left
ends_here h k i n f left more enough =
    let fuel : suc (k - (i + 1)) ≡ k - i = omega (arith, more) in
    record { ends = subst (λ (j : ℕ). EndsAt h j n f left n f left) fuel (inl (enough, refl, refl, refl)) }

-- or where the walk from the next slot on ends
pub ends_on : (h : Headers) (k i n : ℕ) (f y : Hdr) (left m : ℕ) (x : Hdr) (rest : ℕ) → i < k → held h n < left → next_header h f ≡ Some y → IsLast h (k - (i + 1)) f.ext y (left - held h n) m x rest
    → IsLast h (k - i) n f left m x rest
ends_on h k i n f y left m x rest more past next e =
    let fuel : suc (k - (i + 1)) ≡ k - i = omega (arith, more) in
    record { ends = subst (λ (j : ℕ). EndsAt h j n f left m x rest) fuel (inr (past, (y, next, e.ends))) }

-- slots that say and list the same have the same walk
pub ends_same : (h g : Headers) (k n : ℕ) (f : Hdr) (left m : ℕ) (x : Hdr) (rest : ℕ) → g.files ≡ h.files → ((i : ℕ) → IsSlot h i → IsSameSlot h g i) → IsSlot h n → EndsAt h k n f left m x rest
    → EndsAt g k n f left m x rest
ends_same h g zero n f left m x rest files same is e = absurd e
ends_same h g (suc k) n f left m x rest files same is (inl e) =
    let count : held g n ≡ held h n = ap blocks_in (same n is).lists in
    let enough = e.0 in
    inl (omega (arith, count, enough), e.1, e.2, e.3)
ends_same h g (suc k) n f left m x rest files same is (inr e) =
    let count : held g n ≡ held h n = ap blocks_in (same n is).lists in
    let past = e.0 in
    let next = next-is h f e.1.0 e.1.1 in
    let to = next.number.to in
    let on : next_header g f ≡ Some e.1.0 = next-from g f e.1.0 (record {
      number = record { from = next.number.from; to = omega (arith, to, files) };
      says = (same f.ext next.number).says ∙ next.says;
      after = next.after;
    }) in
    inr (omega (arith, count, past), (e.1.0, on, subst (λ (j : ℕ). EndsAt g k f.ext e.1.0 (left - j) m x rest) (sym count) (ends_same h g k f.ext e.1.0 (left - held h n) m x rest files same next.number e.1.2)))

-- ---- what lies in the last header

-- The walk has these slots, the last of which is m. In it lie the last `rest` blocks, which are no more than full, if the other headers are.
pub record EndsIn (h : Headers) (k n : ℕ) (f : Hdr) (left m rest : ℕ) : Type 0 where
  pub others : List ℕ
  pub slots : slots_from h k n f left ≡ n ∷ others
  pub last : last_slot n others ≡ m
  pub front : List Run
  pub runs : cut left (flat_map h.lists (n ∷ others)) ≡ front ++ cut rest (h.lists m)
  pub sum : blocks_in (flat_map h.lists (n ∷ others)) + rest ≡ left + held h m
  pub split : (full : ℕ) → are_parts_filled full left (map h.lists (n ∷ others)) ≡ true → rest ≤ full

ends_first : (h : Headers) (k n : ℕ) (f : Hdr) (left m rest : ℕ) → left ≤ held h n → n ≡ m → left ≡ rest → EndsIn h (suc k) n f left m rest
ends_first h k n f left m rest enough at all = record {
  others = [];
  slots = walk-enough h k n f left enough;
  last = at;
  front = [];
  runs = ap (cut left) (append-nil (h.lists n)) ∙ (λ i. cut (all i) (h.lists (at i)));
  sum = (let every = ap blocks_in (append-nil (h.lists n)) in let same : held h n ≡ held h m = ap (held h) at in omega (arith, every, same, all));
  split = λ full s. let few = leb-true left full s in omega (arith, few, all);
}

ends_later : (h : Headers) (k n : ℕ) (f y : Hdr) (left m rest : ℕ) → held h n < left → next_header h f ≡ Some y → EndsIn h k f.ext y (left - held h n) m rest → EndsIn h (suc k) n f left m rest
ends_later h k n f y left m rest past next w = record {
  others = f.ext ∷ w.others;
  slots = walk-more h k n f left (Some y) past next ∙ ap (λ ns. n ∷ ns) w.slots;
  last = w.last;
  front = h.lists n ++ w.front;
  runs = cut_behind left (h.lists n) (flat_map h.lists (f.ext ∷ w.others)) past
      ∙ (ap (λ rs. h.lists n ++ rs) w.runs ∙ sym (append_assoc (h.lists n) w.front (cut rest (h.lists m))));
  sum = (let all = blocks_joined (h.lists n) (flat_map h.lists (f.ext ∷ w.others)) in let behind = w.sum in omega (arith, all, behind, past));
  split = λ full s. w.split full (and_parts (held h n == full) (are_filled full (left - held h n) (h.lists f.ext) (map h.lists w.others)) s).1;
}

pub ends_in : (h : Headers) (k n : ℕ) (f : Hdr) (left m : ℕ) (x : Hdr) (rest : ℕ) → EndsAt h k n f left m x rest → EndsIn h k n f left m rest
ends_in h zero n f left m x rest e = absurd e
ends_in h (suc k) n f left m x rest (inl e) = ends_first h k n f left m rest e.0 e.1 e.3
ends_in h (suc k) n f left m x rest (inr e) = ends_later h k n f e.1.0 left m rest e.0 e.1.1 (ends_in h k f.ext e.1.0 (left - held h n) m x rest e.1.2)

-- ---- the file

module _ (h : Headers) (n : ℕ) (f : Hdr) (m : ℕ) (x : Hdr) (rest : ℕ) (says : h.says n ≡ Some f) (e : EndsAt h most_headers n f f.blocks m x rest) where
  abbrev w : EndsIn h most_headers n f f.blocks m rest
  w = ends_in h most_headers n f f.blocks m x rest e

  -- the file has surplus exactly where its last header has a link or lists more
  pub surplus_is : (chain_of h n f).surplus ≡ (not (x.ext == 0) || nat_lt rest (held h m))
  surplus_is =
      ap (λ ns. ends_with_link h ns || nat_lt f.blocks (blocks_in (flat_map h.lists ns))) w.slots
      ∙ (λ i. linked i || listed i)
    where
      linked : has_link (h.says (last_slot n w.others)) ≡ not (x.ext == 0)
      linked = ap (λ j. has_link (h.says j)) w.last ∙ ap has_link (ends_says h most_headers n f f.blocks m x rest says e).0

      same_test : (a b c d : ℕ) → b + c ≡ a + d → nat_lt a b ≡ nat_lt c d
      same_test a b c d sum = grind (arith, nat_tests)

      listed : nat_lt f.blocks (blocks_in (flat_map h.lists (n ∷ w.others))) ≡ nat_lt rest (held h m)
      listed = same_test f.blocks (blocks_in (flat_map h.lists (n ∷ w.others))) rest (held h m) w.sum

  -- its last runs lie there
  pub runs_end : (chain_of h n f).runs ≡ w.front ++ cut rest (h.lists m)
  runs_end = ap (λ ns. cut f.blocks (flat_map h.lists ns)) w.slots ∙ w.runs

  -- and are no more than one header can list, if the file is well split
  pub rest_few : (factor : ℕ) → blocks_in (chain_of h n f).runs ≡ f.blocks → is_well_split factor (chain_of h n f) ≡ true → rest ≤ header_most * factor
  unfolding is_well_split
  rest_few factor whole split =
      w.split (header_most * factor)
      (ap (λ ns. are_parts_filled (header_most * factor) f.blocks (map h.lists ns)) (sym w.slots)
      ∙ (ap (λ k. are_parts_filled (header_most * factor) k (map h.lists (slots_from h most_headers n f f.blocks))) (sym whole) ∙ split))
