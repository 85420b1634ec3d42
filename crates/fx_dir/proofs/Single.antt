-- No entry of packed blocks stands in two.
use Rattle.std.proofs.Common.{◌≡◌, ◌∙◌, ◌++◌, true, false, List, [], ◌∷◌, None, map, refl, sym, ap, subst}
use Rattle.std.specs.List.{list_any}
use Rattle.base_words.specs.Packing.{pack, over}
use Rattle.fx_dir.specs.declared.RawEnt.{RawEnt}
use Rattle.fx_dir.specs.Lists.{Each, joined}
use Rattle.fx_dir.specs.Entries.{before, rises, has, plain}
use Rattle.fx_dir.specs.Directory.{entries_at}
use Rattle.fx_dir.specs.Writing.{name_of, marked, block_of}
use Rattle.fx_dir.specs.Laws.{has_double, SinglePacked}
use Rattle.fx_dir.proofs.Order.{and_cases}
use Rattle.fx_dir.proofs.Cover.{all-right, rises-left, rises-right}
use Rattle.fx_dir.proofs.Order.{no_or as or-false}
use Rattle.fx_dir.proofs.Finding.{map-join}
use Rattle.fx_dir.proofs.Greedy.{pack-parts}
use Rattle.fx_dir.proofs.Views.{plain-view, rises-view, plain-marked}
use Rattle.fx_dir.proofs.Building.{IsWritable, block-at, pack-writable}
use Rattle.fx_dir.proofs.Merging.{none-there}

lacks : (b w : List RawEnt) → rises (b ++ w) ≡ true → list_any (has w) b ≡ false
lacks [] w r = refl
lacks (x ∷ b) w r = let p = and_cases _ _ r in or-false _ _ (none-there x w (all-right (before x) b w p.0)) (lacks b w p.1)

-- in blocks whose entries rise from one to the next, none stands twice
rising-single : (gs : List (List RawEnt)) → rises (joined gs) ≡ true → has_double gs ≡ false
rising-single [] r = refl
rising-single (g ∷ gs) r = or-false _ _ (lacks g (joined gs) r) (rising-single gs (rises-right g (joined gs) r))

read-back : (gs : List (List RawEnt)) → Each IsWritable gs → map entries_at (map block_of gs) ≡ map (marked None) gs
read-back [] w = refl
read-back (g ∷ gs) w = λ i. block-at g w.0 i ∷ read-back gs w.1 i

plain-joined : (gs : List (List RawEnt)) → map plain (joined (map (marked None) gs)) ≡ map plain (joined gs)
plain-joined [] = refl
plain-joined (g ∷ gs) = map-join plain (marked None g) (joined (map (marked None) gs)) ∙ (λ i. plain-marked None g i ++ plain-joined gs i) ∙ sym (map-join plain g (joined gs))

pub single_packed : SinglePacked
single_packed k es form ranged order =
    let gs = pack name_of k es in
    let r : rises (joined gs) ≡ true = rises-left (joined gs) (over name_of k es) (subst (λ (t : List RawEnt). rises t ≡ true) (sym (pack-parts k es)) order) in
    let m : rises (joined (map (marked None) gs)) ≡ true = sym (rises-view plain plain-view (joined (map (marked None) gs))) ∙ ap rises (plain-joined gs) ∙ rises-view plain plain-view (joined gs) ∙ r in
    ap has_double (read-back gs (pack-writable k es order (record { form = form; ranged = ranged }))) ∙ rising-single (map (marked None) gs) m
