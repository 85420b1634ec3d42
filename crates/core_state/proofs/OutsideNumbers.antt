-- How many file numbers a node has outside files and bitmaps.
use Rattle.std.proofs.Common.{◌≡◌, ◌≤◌, ◌+◌, ◌-◌, ◌++◌, ◌⊎◌, ℕ, List, Option, Some, None, length, map, sym, ap, subst, ◌∙◌, inl, inr, arith, length-append}
use Rattle.std.proofs.lemmas.List.{length-map}
use Rattle.plain_cat.specs.declared.command.Cmd.{Cmd}
use Rattle.vol_spell.specs.Owners.{Things, nothing}
use Rattle.op_law.specs.declared.need.Need.TheVariants as need
use Rattle.op_law.specs.declared.need.Plan.{Plan}
use Rattle.op_law.specs.Needs.{IsNext}
use Rattle.op_law.specs.Fits.{things}
use Rattle.core_space.specs.Taking.{out_after}
use Rattle.core_space.specs.Answering.{blocks_alone}
use Rattle.core_space.specs.declared.run.Phase.TheVariants as phase
use Rattle.core_state.specs.Worlds.{NodeState, Plain, node_at}
use Rattle.core_state.specs.Stocks.{taken_in, taken_now}
use Rattle.core_state.specs.Searches.{wanted_by, numbered_by, lacks_by, Rules, Served, Given, Shared, Fills, Grabs, Filled, Drains, Alone, Looking, Taking, Taken, Refused, Spaces, Off, Back, Busy}
use Rattle.core_state.specs.Stores.{HasFewNumbers}
use Rattle.core_state.specs.Goods.{Good}
use Rattle.core_state.specs.Deaths.{outside_now}
use Rattle.core_state.specs.Outside.{most_numbers}
use Rattle.core_state.proofs.Standing.{all_taken, part_taken, none_taken, back_taken}
use Rattle.core_state.proofs.Fillings.{fill_few}
use Rattle.core_state.proofs.StockSizes.{few_ready}
use Rattle.core_state.proofs.Outside.{behind, behind_so}

-- a command is given one number at most
one_given : (clusters : List ℕ) (o : Option ℕ) → length (things clusters o).numbers ≤ 1
one_given clusters None = omega arith
one_given clusters (Some m) = omega arith

-- in a stock are its numbers, or one more
nine_at_most : (s : NodeState) → HasFewNumbers s → length s.stock.numbers ≤ 9
nine_at_most s (inl few) = let f : length s.stock.numbers ≤ 8 = few in omega arith
nine_at_most s (inr a) = a.most

-- ---- what is taken and not yet in the stock

-- nothing, or few numbers while the command needs space
abbrev IsTakenFew : NodeState → Type 0
IsTakenFew s = (taken_now s.run ≡ nothing) ⊎ ((length (taken_now s.run).numbers ≤ 9) × ((x : Cmd) → s.cmd ≡ Some x → (p : Plan) → IsNext x s.seen (need.Ready p) → ⊥))

module _ (s : NodeState) where
  -- a command that needs space has not decided
  undecided : (y : Cmd) → s.cmd ≡ Some y → IsNext y s.seen (need.Space (wanted_by y s.seen) (numbered_by y s.seen)) → (x : Cmd) → s.cmd ≡ Some x → (p : Plan) → IsNext x s.seen (need.Ready p) → ⊥
  undecided y is next x cmd p ready =
      let same : y ≡ x = (let f : Some y ≡ Some x = sym is ∙ cmd in cc) in
      let other : IsNext y s.seen (need.Ready p) = subst (λ (z : Cmd). IsNext z s.seen (need.Ready p)) (sym same) ready in
      absurd (let f : need.Space (wanted_by y s.seen) (numbered_by y s.seen) ≡ need.Ready p = sym next ∙ other in cc)

  by_rules : (y : Cmd) → s.cmd ≡ Some y → Rules y s.kept s.claims s.run s.stock s.seen → IsTakenFew s
  by_rules y is (Served h) = inl (ap taken_now h.run)
  by_rules y is (Given h) = inl (ap taken_now h.run)
  by_rules y is (Shared h) = inl (ap taken_now h.run)
  by_rules y is (Fills h) = inl (none_taken s.run.phase s.run.writes s.run.made h.writes h.made)
  by_rules y is (Grabs h) =
      let taken : taken_now s.run ≡ taken_in phase.Fill s.run.writes s.run.made = part_taken s.run.phase s.run.writes s.run.made h.part ∙ ap (λ p. taken_in p s.run.writes s.run.made) h.filling.fill in
      inr (
        subst (λ (t : Things). length t.numbers ≤ 9) (sym taken) (fill_few s.seen.geometry (wanted_by y s.seen) (length s.stock.clusters) (lacks_by y s.seen s.stock) (blocks_alone s.run.looked) s.run.writes s.run.made h.enough),
        undecided y is h.filling.needs.next,
      )
  by_rules y is (Filled h) = inl (all_taken s.run.phase s.run.writes s.run.made h.all)
  by_rules y is (Drains h) = inl (back_taken s.run.phase s.run.writes s.run.made (inl h.drain))
  by_rules y is (Alone h) = inl (ap taken_now h.run)
  by_rules y is (Looking h) = inl (none_taken s.run.phase s.run.writes s.run.made h.writes h.made)
  by_rules y is (Taking h) =
      let taken : taken_now s.run ≡ taken_in phase.Last s.run.writes s.run.made = part_taken s.run.phase s.run.writes s.run.made h.part ∙ ap (λ p. taken_in p s.run.writes s.run.made) h.found.claimed_so.last in
      let out = out_after s.run.writes s.run.made in
      let one = one_given out.clusters out.number in
      inr (subst (λ (t : Things). length t.numbers ≤ 9) (sym taken) (omega arith), undecided y is h.needs.next)
  by_rules y is (Taken h) = inl (all_taken s.run.phase s.run.writes s.run.made h.all)
  by_rules y is (Refused h) = inl (none_taken s.run.phase s.run.writes s.run.made h.writes h.made)

  taken_few : Spaces s.cmd s.kept s.claims s.run s.stock s.seen → IsTakenFew s
  taken_few (Off h) = inl (ap taken_now h.run)
  taken_few (Back h) = inl (back_taken s.run.phase s.run.writes s.run.made (inr h.back))
  taken_few (Busy x is h) = by_rules x is h

-- ---- all of it

module _ (w : Plain) (good : Good w) (n : ℕ) (s : NodeState) (at : node_at w.nodes n ≡ Some s) where
  abbrev back : Things
  back = behind w good n s at

  count : length (outside_now s).numbers ≡ length back.numbers + (length s.stock.numbers + length (taken_now s.run).numbers)
  count =
      let first = length-append back.numbers (map (λ m. m - 1) s.stock.numbers ++ (taken_now s.run).numbers) in
      let second = length-append (map (λ m. m - 1) s.stock.numbers) (taken_now s.run).numbers in
      let same = length-map s.stock.numbers (λ m. m - 1) in
      omega (arith, first, second, same)

  few_numbers : HasFewNumbers s
  few_numbers = (good.running.stocked n s at).few

  -- where what the command has is nothing, or what it was given
  at_rest : length back.numbers ≤ 1 → length (outside_now s).numbers ≤ most_numbers
  at_rest one =
      let stock = nine_at_most s few_numbers in
      elim (taken_few s (good.nodes n s at).space) [
        | inl e ↦ (let none : length (taken_now s.run).numbers ≡ 0 = (λ i. length (e i).numbers) in omega (arith, count, one, stock, none))
        | inr t ↦ (let few = t.0 in omega (arith, count, one, stock, few))
      ]

  pub numbers_few : length (outside_now s).numbers ≤ most_numbers
  numbers_few = elim (behind_so w good n s at) [
    | inl e ↦ elim e [
      | inl f ↦ at_rest (let none : length back.numbers ≡ 0 = (λ i. length (f i).numbers) in omega arith)
      | inr f ↦ at_rest (subst (λ (t : Things). length t.numbers ≤ 1) (sym f) (one_given s.seen.clusters s.seen.number))
    ]
    | inr v ↦ (
        let stock : length s.stock.numbers ≤ 8 = few_ready s v.command v.is v.plan v.next few_numbers in
        let most : length back.numbers ≤ 16 = v.few in
        elim (taken_few s (good.nodes n s at).space) [
          | inl e ↦ (let none : length (taken_now s.run).numbers ≡ 0 = (λ i. length (e i).numbers) in omega (arith, count, stock, most, none))
          | inr t ↦ absurd (t.1 v.command v.is v.plan v.next)
        ])
  ]
