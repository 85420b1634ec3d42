-- How many headers a well split chain has.
use Rattle.std.proofs.Common.{◌≡◌, ◌∙◌, ◌+◌, ◌-◌, ◌*◌, ◌/◌, ◌<◌, ◌≤◌, ◌==◌, ◌&&◌, nat_le, ℕ, zero, suc, true, false, List, [], ◌∷◌, Some, length, map, sum_by, refl, sym, ap, subst, inl, inr, arith, mul-le-mul_left}
use Rattle.std.proofs.lemmas.Bool.{cases_lt, leb-true, eqb-true, eq-eqb, ne_eqb, and_parts}
use Rattle.std.proofs.lemmas.List.Sums.{sum_by-cons}
use Rattle.std.proofs.lemmas.List.{nil_from_length}
use Rattle.std.proofs.Math.Nat.{mul-sub}
use Rattle.fx_header.specs.declared.run.Run.{Run}
use Rattle.fx_header.specs.declared.slot.Hdr.{Hdr}
use Rattle.plain_rules.specs.Lookups.{header_most}
use Rattle.vol_parts.specs.Chains.{Headers, held, next_header, slots_from, most_headers, chain_of, is_broken, are_parts_filled, is_well_split}
use Rattle.vol_parts.specs.ChainLaws.{IsSplitOf}
use Rattle.vol_parts.proofs.Walks.{next-from, walk, walk-none, walk-begins, slots-few}
use Rattle.vol_parts.proofs.ChainSteps.{step-ends, step-done}
use Rattle.vol_parts.proofs.Linked.{whole-listed}

-- blocks that a header has room for are of as many clusters
few-clusters : (factor c : ℕ) → 1 ≤ factor → factor * c ≤ 77 * factor → c ≤ 77
few-clusters factor c some h =
    elim (cases_lt 77 c) [
      | inl more ↦ let least : factor * 78 ≤ factor * c = mul-le-mul_left factor more in absurd (omega arith)
      | inr few ↦ few
    ]

many-clusters : (factor c : ℕ) → 77 * factor < factor * c → 77 < c
many-clusters factor c h =
    elim (cases_lt 77 c) [
      | inl more ↦ more
      | inr few ↦ let most : factor * c ≤ factor * 77 = mul-le-mul_left factor few in absurd (omega arith)
    ]

-- the last header of a chain
last-counts : (factor c left : ℕ) (part : List Run) → 1 ≤ factor → left ≡ factor * c → are_parts_filled (77 * factor) left (part ∷ []) ≡ true
    → 1 ≡ suc ((c - 1) / 77)
last-counts factor c left part some blocks filled =
    let room : left ≤ 77 * factor = leb-true _ _ filled in
    let few : c ≤ 77 = few-clusters factor c some (omega arith) in
    omega arith

pub split-counts-from : (h : Headers) (k n : ℕ) (f : Hdr) (factor c left : ℕ) → 1 ≤ factor → left ≡ factor * c
    → left ≤ sum_by (held h) (slots_from h k n f left) → are_parts_filled (77 * factor) left (map h.lists (slots_from h k n f left)) ≡ true
    → 1 ≤ k → length (slots_from h k n f left) ≡ suc ((c - 1) / 77)
split-counts-from h zero n f factor c left some blocks all filled fuel = absurd (omega arith)
split-counts-from h (suc zero) n f factor c left some blocks all filled fuel =
    ap length one ∙ last-counts factor c left (h.lists n) some blocks (ap (λ ns. are_parts_filled (77 * factor) left (map h.lists ns)) (sym one) ∙ filled)
  where
    one : slots_from h (suc zero) n f left ≡ n ∷ []
    one =
        elim (walk h zero n f left) [
          | inl g ↦ g.slots ∙ ap (λ ns. n ∷ ns) (walk-none h f.ext g.next (left - held h n))
          | inr e ↦ e.slots
        ]
split-counts-from h (suc (suc k)) n f factor c left some blocks all filled fuel =
    elim (walk h (suc k) n f left) [
      | inl g ↦
          let rest = slots_from h (suc k) f.ext g.next (left - held h n) in
          let begins = walk-begins h k f.ext g.next (left - held h n) in
          let slots : slots_from h (suc (suc k)) n f left ≡ n ∷ f.ext ∷ begins.0 = g.slots ∙ ap (λ ns. n ∷ ns) begins.1 in
          let parts = and_parts (held h n == 77 * factor) (are_parts_filled (77 * factor) (left - held h n) (map h.lists (f.ext ∷ begins.0)))
          (ap (λ ns. are_parts_filled (77 * factor) left (map h.lists ns)) (sym slots) ∙ filled) in
          let full : held h n ≡ 77 * factor = eqb-true _ _ parts.0 in
          let more = g.more in
          let many : 77 < c = many-clusters factor c (omega arith) in
          let less : factor * (c - 77) ≡ factor * c - factor * 77 = mul-sub factor c 77 in
          let sum : sum_by (held h) (slots_from h (suc (suc k)) n f left) ≡ held h n + sum_by (held h) rest =
          ap (sum_by (held h)) g.slots ∙ sum_by-cons (held h) n rest in
          let behind : length rest ≡ suc ((c - 77 - 1) / 77) =
          split-counts-from h (suc k) f.ext g.next factor (c - 77) (left - held h n) some (omega arith) (omega arith)
          (ap (λ ns. are_parts_filled (77 * factor) (left - held h n) (map h.lists ns)) begins.1 ∙ parts.1) (omega arith) in
          ap length g.slots ∙ omega arith
      | inr e ↦
          ap length e.slots ∙ last-counts factor c left (h.lists n) some blocks (ap (λ ns. are_parts_filled (77 * factor) left (map h.lists ns)) (sym e.slots) ∙ filled)
    ]

pub split-counts : (h : Headers) (n : ℕ) (f : Hdr) (factor clusters : ℕ) → IsSplitOf factor f clusters (chain_of h n f)
    → length (chain_of h n f).slots ≡ suc ((clusters - 1) / header_most)
unfolding is_well_split
split-counts h n f factor clusters is =
    let listed = whole-listed h n f is.whole in
    let parts = (chain_of h n f).parts in
    let filled : are_parts_filled (77 * factor) f.blocks parts ≡ true = ap (λ b. are_parts_filled (77 * factor) b parts) (sym listed.1) ∙ is.split in
    split-counts-from h 16 n f factor clusters f.blocks is.some is.blocks listed.0 filled (omega arith)

pub split-few : (h : Headers) (n : ℕ) (f : Hdr) (factor clusters : ℕ) → IsSplitOf factor f clusters (chain_of h n f)
    → clusters ≤ most_headers * header_most
split-few h n f factor clusters is =
    let count = split-counts h n f factor clusters is in
    let few = slots-few h 16 n f f.blocks in
    omega arith

pub few-in-one : (h : Headers) (n : ℕ) (f : Hdr) (factor clusters : ℕ) → IsSplitOf factor f clusters (chain_of h n f)
    → clusters ≤ header_most → (chain_of h n f).slots ≡ n ∷ []
few-in-one h n f factor clusters is few =
    let count = split-counts h n f factor clusters is in
    let begins = walk-begins h 15 n f f.blocks in
    let long : length (slots_from h 16 n f f.blocks) ≡ suc (length begins.0) = ap length begins.1 in
    let none : length begins.0 ≡ 0 = omega arith in
    begins.1 ∙ ap (λ ns. n ∷ ns) (nil_from_length begins.0 none)

-- ---- a walk along a chain that is not broken

-- blocks are left behind a header, so the walk goes on, and the chain is filled if this header is full and the others are filled
pub record SplitGoesOn (h : Headers) (full j k n : ℕ) (f : Hdr) (left : ℕ) : Type 0 where
  pub next : Hdr
  pub is : next_header h f ≡ Some next
  pub all : left - held h n ≤ sum_by (held h) (slots_from h k f.ext next (left - held h n))
  pub split : are_parts_filled full left (map h.lists (slots_from h j n f left))
      ≡ ((held h n == full) && are_parts_filled full (left - held h n) (map h.lists (slots_from h k f.ext next (left - held h n))))

pub goes-on : (h : Headers) (full k n : ℕ) (f : Hdr) (left : ℕ) → held h n < left → left ≤ sum_by (held h) (slots_from h (suc k) n f left)
    → SplitGoesOn h full (suc k) k n f left
goes-on h full k n f left past all =
    elim (walk h k n f left) [
      | inl g ↦
          let rest = slots_from h k f.ext g.next (left - held h n) in
          let sum : sum_by (held h) (slots_from h (suc k) n f left) ≡ held h n + sum_by (held h) rest =
          ap (sum_by (held h)) g.slots ∙ sum_by-cons (held h) n rest in
          record {
            next = g.next;
            is = next-from h f g.next g.is;
            all = omega arith;
            split = ap (λ ns. are_parts_filled full left (map h.lists ns)) g.slots ∙ by_rest rest (omega arith);
          }
      | inr e ↦
          let sum : sum_by (held h) (slots_from h (suc k) n f left) ≡ held h n + 0 =
          ap (sum_by (held h)) e.slots ∙ sum_by-cons (held h) n [] in
          absurd (omega arith)
    ]
  where
    by_rest : (ns : List ℕ) → 1 ≤ sum_by (held h) ns
        → are_parts_filled full left (map h.lists (n ∷ ns)) ≡ ((held h n == full) && are_parts_filled full (left - held h n) (map h.lists ns))
    by_rest [] some = absurd (omega arith)
    by_rest (m ∷ ms) some = refl

pub split-goes : (h : Headers) (full k i n : ℕ) (f : Hdr) (left : ℕ) → i < k → held h n < left → left ≤ sum_by (held h) (slots_from h (k - i) n f left)
    → SplitGoesOn h full (k - i) (k - (i + 1)) n f left
split-goes h full k i n f left more past all =
    let fuel : suc (k - (i + 1)) ≡ k - i = omega arith in
    subst (λ j. left ≤ sum_by (held h) (slots_from h j n f left) → SplitGoesOn h full j (k - (i + 1)) n f left) fuel (goes-on h full (k - (i + 1)) n f left past) all

-- this header is not full
pub split-short : (h : Headers) (full j k n : ℕ) (f : Hdr) (left : ℕ) → SplitGoesOn h full j k n f left → (held h n ≡ full → ⊥)
    → are_parts_filled full left (map h.lists (slots_from h j n f left)) ≡ false
split-short h full j k n f left g short = g.split ∙ ap (λ t. t && are_parts_filled full (left - held h n) (map h.lists (slots_from h k f.ext g.next (left - held h n)))) (ne_eqb (held h n) full short)

-- it is full
pub split-full : (h : Headers) (full j k n : ℕ) (f : Hdr) (left : ℕ) (g : SplitGoesOn h full j k n f left) → held h n ≡ full
    → are_parts_filled full left (map h.lists (slots_from h j n f left))
    ≡ are_parts_filled full (left - held h n) (map h.lists (slots_from h k f.ext g.next (left - held h n)))
split-full h full j k n f left g is =
    g.split ∙ ap (λ t. t && are_parts_filled full (left - held h n) (map h.lists (slots_from h k f.ext g.next (left - held h n)))) (eq-eqb (held h n) full is)

-- what the last header says
pub split-ends : (h : Headers) (full k i n : ℕ) (f : Hdr) (left : ℕ) → i < k → left ≤ held h n
    → are_parts_filled full left (map h.lists (slots_from h (k - i) n f left)) ≡ nat_le left full
split-ends h full k i n f left more enough = ap (λ ns. are_parts_filled full left (map h.lists ns)) (step-ends h k i n f left more enough)

-- and the walk ends before there are no more headers to take
pub split-over : (h : Headers) (k i n : ℕ) (f : Hdr) (left : ℕ) → k ≤ i → left ≤ sum_by (held h) (slots_from h (k - i) n f left) → left ≡ 0
split-over h k i n f left over all =
    let none : sum_by (held h) (slots_from h (k - i) n f left) ≡ 0 = ap (sum_by (held h)) (step-done h k i n f left over) in
    omega arith

-- the chain as the walk begins
pub record SplitBegins (h : Headers) (factor n : ℕ) (f : Hdr) : Type 0 where
  pub all : f.blocks ≤ sum_by (held h) (slots_from h most_headers n f f.blocks)
  pub split : are_parts_filled (77 * factor) f.blocks (map h.lists (slots_from h most_headers n f f.blocks)) ≡ is_well_split factor (chain_of h n f)

pub split-begins : (h : Headers) (factor n : ℕ) (f : Hdr) → is_broken f (chain_of h n f) ≡ false → SplitBegins h factor n f
unfolding is_well_split
split-begins h factor n f whole =
    let listed = whole-listed h n f whole in
    record {
      all = listed.0;
      split = ap (λ b. are_parts_filled (77 * factor) b (chain_of h n f).parts) (sym listed.1);
    }
