-- The numbers of the headers that were seen along the links of a file are the volume's.
use Rattle.std.proofs.Common.{◌≡◌, ◌≤◌, ◌<◌, ◌+◌, ◌-◌, ◌*◌, ◌∙◌, ℕ, zero, suc, List, [], ◌∷◌, All, length, take, get_or, refl, sym, ap, subst, arith}
use Rattle.base_words.specs.Fields.{Block}
use Rattle.vol_parts.specs.declared.geometry.Geometry.{Geometry}
use Rattle.vol_spell.specs.Reading.{header_place}
use Rattle.op_law.specs.declared.seeing.Rest.{Rest}
use Rattle.op_law.specs.Headers.{slot_at, slots_seen, next_number}
use Rattle.op_steps.specs.Chains.{AreBehind, HasMore}
use Rattle.op_steps.specs.declared.seeing.FileSeen.{FileSeen}
use Rattle.op_steps.specs.FreeingSeeing.{HasNumbers}

all_more : (top n : ℕ) (ns : List ℕ) → n ≤ top → All (λ i. i ≤ top) ns → All (λ i. i ≤ top) (n ∷ ns)
all_more top n ns le all = each where
  each : (k d : ℕ) → k < length (n ∷ ns) → get_or (n ∷ ns) k d ≤ top
  each zero d lt = le
  each (suc k) d lt = all k d (omega arith)

behind_numbers : (g : Geometry) (k : ℕ) (b : Block) (seen : List (ℕ × Block)) → AreBehind g k b seen → All (λ n. n ≤ g.files) (slots_seen g (take k seen))
behind_numbers g zero b seen behind = λ k d lt. absurd (omega arith)
behind_numbers g (suc k) b [] behind = λ k d lt. absurd (omega arith)
behind_numbers g (suc k) b (x ∷ seen) behind =
    let back : 4 * g.cluster + next_number b - 4 * g.cluster ≡ next_number b = omega arith in
    let here : slot_at g x.0 ≡ next_number b = ap (slot_at g) behind.1 ∙ back in
    all_more g.files (slot_at g x.0) (slots_seen g (take k seen)) (subst (λ (n : ℕ). n ≤ g.files) (sym here) behind.0) (behind_numbers g k x.1 seen behind.2)

-- so it is with a file of which so many more were seen
pub more_numbers : (g : Geometry) (k : ℕ) (f : FileSeen) (seen : List (ℕ × Block)) (more : FileSeen) (rest : Rest) → f.num ≤ g.files → AreBehind g k f.head.now seen → HasMore k f seen more rest → HasNumbers g more
more_numbers g k f seen more rest le behind has = record {
  first = subst (λ (n : ℕ). n ≤ g.files) (sym has.number) le;
  others = subst (λ (xs : List (ℕ × Block)). All (λ n. n ≤ g.files) (slots_seen g xs)) (sym has.headers) (behind_numbers g k f.head.now seen behind);
}
