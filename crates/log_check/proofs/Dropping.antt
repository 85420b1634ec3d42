-- Files that are marked for delete go, and nothing else changes.
use Rattle.std.proofs.Common.{◌≡◌, ◌*◌, ◌≤◌, ◌∙◌, ℕ, Bool, true, false, cond, List, [], ◌∷◌, map, get_or, refl, sym, ap, arith}
use Rattle.std.specs.Prelude.{All}
use Rattle.std.specs.List.{count_by}
use Rattle.std.proofs.lemmas.List.Elements.{All-map}
use Rattle.plain_cat.specs.declared.cat.Cat.{Cat}
use Rattle.plain_cat.specs.declared.cat.Slot.{Slot}
use Rattle.plain_cat.specs.declared.cat.Slot.TheVariants.{Used, Free}
use Rattle.plain_cat.specs.declared.cat.QuotaRow.{QuotaRow}
use Rattle.plain_rules.specs.Lookups.{clusters_in}
use Rattle.plain_rules.specs.Accounts.{charge}
use Rattle.plain_rules.specs.Mending.{summed_row, with_sums}
use Rattle.plain_laws.proofs.AgainSteps.{map_same}
use Rattle.plain_tidy.specs.Tidy.{less_marked, without_marked, is_marked_slot}
use Rattle.plain_tidy.proofs.Finishing.{one_if, counted}

fewer : (s : Slot) → clusters_in (less_marked s) ≤ clusters_in s
fewer (Free q) = omega arith
fewer (Used f) = by_mark f.marked where
  by_mark : (b : Bool) → clusters_in (cond b (Free f.seq) (Used f)) ≤ f.clusters
  by_mark true = omega arith
  by_mark false = omega arith

times : (k a b : ℕ) → a ≤ b → k * b ≤ 65536 → k * a ≤ 65536
times k a b less fits = grind (arith, less, fits)

pub still_sized : (k : ℕ) (xs : List Slot) → All (λ (s : Slot). k * clusters_in s ≤ 65536) xs → All (λ (s : Slot). k * clusters_in s ≤ 65536) (map less_marked xs)
still_sized k xs h = All-map (λ (s : Slot). k * clusters_in s ≤ 65536) less_marked xs (λ i d lt. times k (clusters_in (less_marked (get_or xs i d))) (clusters_in (get_or xs i d)) (fewer (get_or xs i d)) (h i d lt))

stays : (x : Slot) → one_if (is_marked_slot x) ≡ 0 → less_marked x ≡ x
unfolding one_if
stays (Free q) h = refl
stays (Used f) h = by_mark f.marked h where
  by_mark : (b : Bool) → one_if b ≡ 0 → cond b (Free f.seq) (Used f) ≡ Used f
  by_mark true e = absurd (cc e)
  by_mark false e = refl

none_goes : (xs : List Slot) → count_by is_marked_slot xs ≡ 0 → map less_marked xs ≡ xs
none_goes [] h = refl
none_goes (x ∷ xs) h =
    let c = counted is_marked_slot x xs in
    let here : one_if (is_marked_slot x) ≡ 0 = omega (arith, c, h) in
    let rest : count_by is_marked_slot xs ≡ 0 = omega (arith, c, h) in
    ap (λ (y : Slot). y ∷ map less_marked xs) (stays x here) ∙ ap (λ ys. x ∷ ys) (none_goes xs rest)

-- where none is marked, and each usage is what the files cost
pub nothing_drops : (c : Cat) → All (λ (r : QuotaRow). r.usage ≡ charge c r.owner) c.quota → count_by is_marked_slot c.files ≡ 0 → c ≡ with_sums (without_marked c)
nothing_drops c usage none =
    let files : without_marked c ≡ c = ap (λ (fs : List Slot). record c { files = fs }) (none_goes c.files none) in
    sym (ap with_sums files
    ∙ ap (λ (rows : List QuotaRow). record c { quota = rows }) (map_same (summed_row c) c.quota (λ k r lt. ap (λ (u : ℕ). record (get_or c.quota k r) { usage = u }) (sym (usage k r lt)))))
