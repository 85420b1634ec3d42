-- A chain that is not broken and well split has headers that tell it.
use Rattle.std.proofs.Common.{◌≡◌, ◌∙◌, ◌+◌, ◌-◌, ◌*◌, ◌<◌, ◌≤◌, ◌++◌, ◌==◌, not, ℕ, zero, suc, true, List, [], ◌∷◌, Some, take, drop, length, map, flat_map, sum_by, refl, sym, ap, subst, inl, inr, arith, append-nil, append_assoc, length-append}
use Rattle.std.proofs.lemmas.Bool.{cases_lt, leb-true, eqb-true, eq-eqb, and_parts}
use Rattle.std.proofs.lemmas.List.{take_at, drop_at}
use Rattle.std.proofs.lemmas.List.Sums.{sum_by-cons}
use Rattle.std.proofs.Math.Nat.{mul-le-mul_left}
use Rattle.fx_header.specs.declared.slot.Hdr.{Hdr}
use Rattle.fx_header.specs.Pointers.{blocks_in}
use Rattle.plain_rules.specs.Lookups.{header_most}
use Rattle.vol_parts.specs.declared.geometry.Geometry.{Geometry}
use Rattle.vol_parts.specs.Chains.{Headers, held, slots_from, cut, are_parts_filled, chain_of, is_well_split}
use Rattle.vol_parts.proofs.Walks.{IsNext, walk, walk-none, walk-begins, slots-few}
use Rattle.vol_parts.proofs.Linked.{whole-listed}
use Rattle.vol_parts.proofs.Cuts.{cut_behind}
use Rattle.vol_spell.specs.Reading.{clusters_of}
use Rattle.vol_spell.specs.Spelling.{AreWhole}
use Rattle.op_steps.proofs.CutClusters.{clusters_both, whole_size, cut_full}
use Rattle.vol_spell.proofs.RunRows.{whole_front, whole_back}
use Rattle.op_steps.proofs.Leading.{IsLast, Lead, HasHeaders, lead_count}

-- the headers along which a walk goes
record HasLead (g : Geometry) (h : Headers) (n : ℕ) (f : Hdr) (left : ℕ) (slots : List ℕ) : Type 0 where
  is : List ℕ
  m : ℕ
  x : Hdr
  cs : List ℕ
  ds : List ℕ
  slots_are : slots ≡ n ∷ is
  lead : Lead g h n f is m x cs
  last : IsLast g h m ds
  few : length ds ≤ header_most
  some : 1 ≤ length is → 1 ≤ length ds
  blocks : left ≡ g.cluster * (length cs + length ds)
  clusters : clusters_of g.cluster (cut left (flat_map h.lists slots)) ≡ cs ++ ds

module _ (g : Geometry) (low : 1 ≤ g.cluster) (h : Headers) where
  -- so many blocks are so many clusters, in one order
  few_clusters : (c : ℕ) → g.cluster * c ≤ 77 * g.cluster → c ≤ 77
  few_clusters c le = elim (cases_lt 77 c) [
    | inl more ↦ let up : g.cluster * 78 ≤ g.cluster * c = mul-le-mul_left g.cluster more in absurd (omega arith)
    | inr few ↦ few
  ]

  some_clusters : (c : ℕ) → 1 ≤ g.cluster * c → 1 ≤ c
  some_clusters zero le = let none : g.cluster * 0 ≡ 0 = omega arith in absurd (omega arith)
  some_clusters (suc c) le = omega arith

  -- the walk ends at this slot
  ends_lead : (n : ℕ) (f : Hdr) (left : ℕ) (slots : List ℕ) → slots ≡ n ∷ [] → left ≤ sum_by (held h) slots → are_parts_filled (header_most * g.cluster) left (map h.lists slots) ≡ true
      → AreWhole g (cut left (flat_map h.lists slots)) → HasLead g h n f left slots
  ends_lead n f left slots one all filled whole =
      let sum : sum_by (held h) slots ≡ held h n + 0 = ap (sum_by (held h)) one ∙ sum_by-cons (held h) n [] in
      let lists : flat_map h.lists slots ≡ h.lists n = ap (flat_map h.lists) one ∙ append-nil (h.lists n) in
      let here : AreWhole g (cut left (h.lists n)) = subst (λ rs. AreWhole g (cut left rs)) lists whole in
      let ds = clusters_of g.cluster (cut left (h.lists n)) in
      let count : left ≡ g.cluster * length ds = sym (cut_full left (h.lists n) (omega arith)) ∙ whole_size g (cut left (h.lists n)) low here in
      let room : left ≤ 77 * g.cluster = leb-true _ _ (ap (λ ns. are_parts_filled (77 * g.cluster) left (map h.lists ns)) (sym one) ∙ filled) in
      record {
        is = [];
        m = n;
        x = f;
        cs = [];
        ds = ds;
        slots_are = one;
        lead = (refl, refl, refl);
        last = record {
          enough = omega arith;
          whole = subst (λ z. AreWhole g (cut z (h.lists n))) count here;
          clusters = ap (λ z. clusters_of g.cluster (cut z (h.lists n))) (sym count);
        };
        few = few_clusters (length ds) (omega arith);
        some = λ any. absurd (omega arith);
        blocks = count ∙ ap (λ z. g.cluster * z) (let e : length ds ≡ 0 + length ds = omega arith in e);
        clusters = ap (λ rs. clusters_of g.cluster (cut left rs)) lists;
      }

  -- it goes on
  goes_lead : (n : ℕ) (f : Hdr) (left : ℕ) (slots rest : List ℕ) (y : Hdr) → slots ≡ n ∷ rest → IsNext h f y → held h n < left → left ≤ sum_by (held h) slots
      → are_parts_filled (header_most * g.cluster) left (map h.lists slots) ≡ true → AreWhole g (cut left (flat_map h.lists slots)) → (held h n ≡ header_most * g.cluster)
      → HasLead g h f.ext y (left - held h n) rest → HasLead g h n f left slots
  goes_lead n f left slots rest y one next more all filled whole full behind =
      let parted : cut left (flat_map h.lists slots) ≡ h.lists n ++ cut (left - held h n) (flat_map h.lists rest) =
      ap (λ ns. cut left (flat_map h.lists ns)) one ∙ cut_behind left (h.lists n) (flat_map h.lists rest) more in
      let both : AreWhole g (h.lists n ++ cut (left - held h n) (flat_map h.lists rest)) = subst (AreWhole g) parted whole in
      let here : AreWhole g (h.lists n) = whole_front g (h.lists n) (cut (left - held h n) (flat_map h.lists rest)) both in
      let front = clusters_of g.cluster (h.lists n) in
      let size : held h n ≡ g.cluster * length front = whole_size g (h.lists n) low here in
      let count : length front ≡ 77 = same_clusters (length front) (omega arith) in
      let lead : Lead g h f.ext y behind.is behind.m behind.x behind.cs = behind.lead in
      let took : take 77 (front ++ behind.cs) ≡ front = take_at front behind.cs 77 count in
      let dropped : drop 77 (front ++ behind.cs) ≡ behind.cs = drop_at front behind.cs 77 count in
      let left_is = behind.blocks in
      let joined = length-append front behind.cs in
      let sum : g.cluster * (length front + (length behind.cs + length behind.ds)) ≡ g.cluster * length front + g.cluster * (length behind.cs + length behind.ds) = omega arith in
      let some_left : 1 ≤ length behind.ds = by_length behind.is behind.ds behind.cs (lead_count g h f.ext y behind.is behind.m behind.x behind.cs lead) behind.some (some_clusters (length behind.cs + length behind.ds) (omega arith)) in
      record {
        is = f.ext ∷ behind.is;
        m = behind.m;
        x = behind.x;
        cs = front ++ behind.cs;
        ds = behind.ds;
        slots_are = one ∙ ap (λ ns. n ∷ ns) behind.slots_are;
        lead = (
          record { whole = here; clusters = sym took; full = ap length took ∙ count },
          refl,
          (y, next, subst (λ qs. Lead g h f.ext y behind.is behind.m behind.x qs) (sym dropped) lead),
        );
        last = behind.last;
        few = behind.few;
        some = λ any. some_left;
        blocks = (let e : left ≡ held h n + (left - held h n) = omega arith in e) ∙ ap (λ z. z + (left - held h n)) size ∙ ap (λ z. g.cluster * length front + z) left_is ∙ sym sum
            ∙ ap (λ z. g.cluster * z) (let e : length front + (length behind.cs + length behind.ds) ≡ length (front ++ behind.cs) + length behind.ds = omega arith in e);
        clusters = ap (clusters_of g.cluster) parted ∙ clusters_both g.cluster (h.lists n) (cut (left - held h n) (flat_map h.lists rest)) ∙ ap (λ xs. front ++ xs) behind.clusters
            ∙ sym (append_assoc front behind.cs behind.ds);
      }
    where
      same_clusters : (c : ℕ) → g.cluster * c ≡ 77 * g.cluster → c ≡ 77
      same_clusters c e =
          let le : c ≤ 77 = few_clusters c (omega arith) in
          elim (cases_lt c 77) [
            | inl less ↦ let up : g.cluster * (c + 1) ≤ g.cluster * 77 = mul-le-mul_left g.cluster (omega arith) in let z : g.cluster * (c + 1) ≡ g.cluster * c + g.cluster = omega arith in absurd (omega arith)
            | inr ge ↦ omega arith
          ]

      by_length : (is ds cs : List ℕ) → length cs ≡ 77 * length is → (1 ≤ length is → 1 ≤ length ds) → 1 ≤ length cs + length ds → 1 ≤ length ds
      by_length [] ds cs count some any = omega arith
      by_length (i ∷ is) ds cs count some any = some (omega arith)

  lead_from : (k n : ℕ) (f : Hdr) (left : ℕ) → 1 ≤ k → left ≤ sum_by (held h) (slots_from h k n f left) → are_parts_filled (header_most * g.cluster) left (map h.lists (slots_from h k n f left)) ≡ true
      → AreWhole g (cut left (flat_map h.lists (slots_from h k n f left))) → HasLead g h n f left (slots_from h k n f left)
  lead_from zero n f left fuel all filled whole = absurd (omega arith)
  lead_from (suc zero) n f left fuel all filled whole = ends_lead n f left (slots_from h 1 n f left) one all filled whole where
    one : slots_from h (suc zero) n f left ≡ n ∷ []
    one =
        elim (walk h zero n f left) [
          | inl w ↦ w.slots ∙ ap (λ ns. n ∷ ns) (walk-none h f.ext w.next (left - held h n))
          | inr e ↦ e.slots
        ]
  lead_from (suc (suc k)) n f left fuel all filled whole =
      elim (walk h (suc k) n f left) [
        | inl w ↦
            let rest = slots_from h (suc k) f.ext w.next (left - held h n) in
            let begins = walk-begins h k f.ext w.next (left - held h n) in
            let slots : slots_from h (suc (suc k)) n f left ≡ n ∷ f.ext ∷ begins.0 = w.slots ∙ ap (λ ns. n ∷ ns) begins.1 in
            let parts = and_parts (held h n == 77 * g.cluster) (are_parts_filled (77 * g.cluster) (left - held h n) (map h.lists (f.ext ∷ begins.0)))
            (ap (λ ns. are_parts_filled (77 * g.cluster) left (map h.lists ns)) (sym slots) ∙ filled) in
            let full : held h n ≡ 77 * g.cluster = eqb-true _ _ parts.0 in
            let more = w.more in
            let sum : sum_by (held h) (slots_from h (suc (suc k)) n f left) ≡ held h n + sum_by (held h) rest = ap (sum_by (held h)) w.slots ∙ sum_by-cons (held h) n rest in
            let filled_on : are_parts_filled (77 * g.cluster) (left - held h n) (map h.lists rest) ≡ true = ap (λ ns. are_parts_filled (77 * g.cluster) (left - held h n) (map h.lists ns)) begins.1 ∙ parts.1 in
            let parted : cut left (flat_map h.lists (slots_from h (suc (suc k)) n f left)) ≡ h.lists n ++ cut (left - held h n) (flat_map h.lists rest) =
            ap (λ ns. cut left (flat_map h.lists ns)) w.slots ∙ cut_behind left (h.lists n) (flat_map h.lists rest) more in
            let whole_on : AreWhole g (cut (left - held h n) (flat_map h.lists rest)) = whole_back g (h.lists n) (cut (left - held h n) (flat_map h.lists rest)) (subst (AreWhole g) parted whole) in
            goes_lead n f left (slots_from h (suc (suc k)) n f left) rest w.next w.slots w.is more all filled whole full
            (lead_from (suc k) f.ext w.next (left - held h n) (omega arith) (omega arith) filled_on whole_on)
        | inr e ↦ ends_lead n f left (slots_from h (suc (suc k)) n f left) e.slots all filled whole
      ]

-- so it is with the chain of a file
pub has_headers : (g : Geometry) (h : Headers) (n : ℕ) (f : Hdr) → 1 ≤ g.cluster → h.says n ≡ Some f → AreWhole g (chain_of h n f).runs → blocks_in (chain_of h n f).runs ≡ f.blocks
    → is_well_split g.cluster (chain_of h n f) ≡ true → HasHeaders g h n f (chain_of h n f).slots (clusters_of g.cluster (chain_of h n f).runs)
unfolding is_well_split
has_headers g h n f low says whole size split =
    let listed = whole-listed h n f (ap not (eq-eqb _ _ size)) in
    let filled : are_parts_filled (77 * g.cluster) f.blocks (chain_of h n f).parts ≡ true = ap (λ b. are_parts_filled (77 * g.cluster) b (chain_of h n f).parts) (sym size) ∙ split in
    let found : HasLead g h n f f.blocks (slots_from h 16 n f f.blocks) = lead_from g low h 16 n f f.blocks (omega arith) listed.0 filled whole in
    let few = slots-few h 16 n f f.blocks in
    let count : length (slots_from h 16 n f f.blocks) ≡ suc (length found.is) = ap length found.slots_are in
    record {
      is = found.is;
      m = found.m;
      x = found.x;
      cs = found.cs;
      ds = found.ds;
      slots = found.slots_are;
      clusters = found.clusters;
      are = record {
        says = says;
        lead = found.lead;
        last = found.last;
        few = found.few;
        some = found.some;
        short = omega arith;
        blocks = found.blocks ∙ ap (λ k. g.cluster * k) (sym (length-append found.cs found.ds));
      };
    }
