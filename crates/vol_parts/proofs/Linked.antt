-- Chains that are known: of one header, or of headers that are linked; and chains that stay.
use Rattle.std.proofs.Common.{◌≡◌, ◌∙◌, ◌+◌, ◌-◌, ◌<◌, ◌≤◌, ◌⊎◌, ◌==◌, nat_lt, ℕ, zero, suc, false, List, [], ◌∷◌, ◌++◌, Some, All, length, map, take, flat_map, sum_by, refl, sym, ap, subst, inl, inr, arith, append-nil}
use Rattle.std.proofs.lemmas.Bool.{le-ltb, eqb-true, eq-eqb, not-false, not_from_true, or_from}
use Rattle.std.proofs.lemmas.List.Sums.{sum_by-cons, sum_by-append}
use Rattle.base_words.specs.Lists.{Has}
use Rattle.fx_header.specs.declared.run.Run.{Run}
use Rattle.fx_header.specs.declared.slot.Hdr.{Hdr}
use Rattle.fx_header.specs.Pointers.{blocks_in}
use Rattle.vol_parts.specs.Chains.{Headers, held, next_header, slots_from, cut, most_headers, last_slot, has_link, ends_with_link, chain_with, chain_of, is_broken}
use Rattle.vol_parts.specs.ChainLaws.{HasBlocks, IsSlot, AreLinked, EndInLast, IsSameSlot}
use Rattle.vol_parts.proofs.Cuts.{cut-leaves, cut-counts}
use Rattle.vol_parts.proofs.Walks.{next-from, walk, walk-none, walk-enough, walk-more, walk-begins}

-- ---- one header

pub alone-slots : (h : Headers) (k n : ℕ) (f : Hdr) (left : ℕ) → (f.ext ≡ 0) ⊎ (left ≤ held h n) → slots_from h (suc k) n f left ≡ n ∷ []
alone-slots h k n f left why =
    elim why [
      | inl none ↦
          elim (walk h k n f left) [
            | inl g ↦ let some = g.is.number.from in absurd (omega arith)
            | inr e ↦ e.slots
          ]
      | inr enough ↦ walk-enough h k n f left enough
    ]

pub one-alone : (h : Headers) (n : ℕ) (f : Hdr) → (f.ext ≡ 0) ⊎ (f.blocks ≤ held h n) → chain_of h n f ≡ chain_with h f.blocks (n ∷ [])
one-alone h n f why = ap (chain_with h f.blocks) (alone-slots h 15 n f f.blocks why)

pub one-whole : (h : Headers) (n : ℕ) (f : Hdr) → h.says n ≡ Some f → f.ext ≡ 0 → held h n ≡ f.blocks → All HasBlocks (h.lists n)
    → ((chain_of h n f).runs ≡ h.lists n) × ((chain_of h n f).surplus ≡ false)
one-whole h n f says none sum some =
    let alone = one-alone h n f (inl none) in
    let one : flat_map h.lists (n ∷ []) ≡ h.lists n = append-nil (h.lists n) in
    let runs : cut f.blocks (flat_map h.lists (n ∷ [])) ≡ h.lists n =
    ap (cut f.blocks) one ∙ cut-leaves f.blocks (h.lists n) some (omega arith) in
    let linked : has_link (h.says n) ≡ false = ap has_link says ∙ not_from_true (f.ext == 0) (eq-eqb f.ext 0 none) in
    let blocks : blocks_in (flat_map h.lists (n ∷ [])) ≡ f.blocks = ap blocks_in one ∙ sum in
    let behind : nat_lt f.blocks (blocks_in (flat_map h.lists (n ∷ []))) ≡ false = le-ltb _ _ (omega arith) in
    (ap (λ c. c.runs) alone ∙ runs, ap (λ c. c.surplus) alone ∙ or_from _ _ linked behind)

-- ---- headers that are linked

pub linked-chain : (h : Headers) (k n : ℕ) (f : Hdr) (left : ℕ) (others : List (ℕ × Hdr)) → length others < k → AreLinked h f others
    → EndInLast h left n others → slots_from h k n f left ≡ n ∷ map (λ (o : ℕ × Hdr). o.0) others
linked-chain h zero n f left others few linked ends = absurd (omega arith)
linked-chain h (suc k) n f left [] few linked ends = walk-enough h k n f left ends
linked-chain h (suc k) n f left ((m, x) ∷ others) few linked ends =
    let same : f.ext ≡ m = linked.1 in
    let next = next-from h f x (record { number = subst (λ j. IsSlot h j) (sym same) linked.0; says = ap h.says same ∙ linked.2; after = linked.3 }) in
    let behind = linked-chain h k m x (left - held h n) others (omega arith) linked.4 ends.1 in
    walk-more h k n f left (Some x) ends.0 next
    ∙ ap (λ j. n ∷ slots_from h k j x (left - held h n)) same
    ∙ ap (λ ns. n ∷ ns) behind

pub sums-end : (h : Headers) (left n : ℕ) (others : List (ℕ × Hdr))
    → (1 ≤ length others → sum_by (held h) (take (length others) (n ∷ map (λ (o : ℕ × Hdr). o.0) others)) < left)
    → left ≤ sum_by (held h) (n ∷ map (λ (o : ℕ × Hdr). o.0) others) → EndInLast h left n others
sums-end h left n [] less all = let sum = sum_by-cons (held h) n [] in omega arith
sums-end h left n (o ∷ others) less all =
    let numbers = map (λ (p : ℕ × Hdr). p.0) others in
    let first = less (omega arith) in
    let front = sum_by-cons (held h) n (take (length others) (o.0 ∷ numbers)) in
    let whole = sum_by-cons (held h) n (o.0 ∷ numbers) in
    (omega arith, sums-end h (left - held h n) o.0 others (λ some. omega arith) (omega arith))

-- ---- chains that stay

-- the blocks of the runs that slots list
pub blocks-listed : (h : Headers) (ns : List ℕ) → blocks_in (flat_map h.lists ns) ≡ sum_by (held h) ns
blocks-listed h [] = refl
blocks-listed h (n ∷ ns) =
    sum_by-append (λ (r : Run). r.count) (h.lists n) (flat_map h.lists ns) ∙ ap (λ k. held h n + k) (blocks-listed h ns)
    ∙ sym (sum_by-cons (held h) n ns)

-- a chain that is not broken has all blocks in its slots
pub whole-listed : (h : Headers) (n : ℕ) (f : Hdr) → is_broken f (chain_of h n f) ≡ false
    → (f.blocks ≤ sum_by (held h) (slots_from h most_headers n f f.blocks)) × (blocks_in (chain_of h n f).runs ≡ f.blocks)
whole-listed h n f whole =
    let slots = slots_from h most_headers n f f.blocks in
    let same : blocks_in (chain_of h n f).runs ≡ f.blocks = eqb-true _ _ (not-false _ whole) in
    let counted = cut-counts f.blocks (flat_map h.lists slots) in
    let listed = blocks-listed h slots in
    (omega arith, same)

stays-here : (h g : Headers) (k n : ℕ) (f : Hdr) (left : ℕ) → left ≤ held h n → IsSameSlot h g n → slots_from g (suc k) n f left ≡ n ∷ []
stays-here h g k n f left enough same =
    let blocks : held g n ≡ held h n = ap blocks_in same.lists in
    walk-enough g k n f left (omega arith)

-- the last slot has the rest, if no further slot is asked for
enough-here : (h : Headers) (n left : ℕ) (ns : List ℕ) → ns ≡ n ∷ [] → left ≤ sum_by (held h) ns → left ≤ held h n
enough-here h n left ns e all =
    let sum : sum_by (held h) ns ≡ held h n + 0 = ap (sum_by (held h)) e ∙ sum_by-cons (held h) n [] in
    omega arith

pub slots-stay : (h g : Headers) (k n : ℕ) (f : Hdr) (left : ℕ) → g.files ≡ h.files → left ≤ sum_by (held h) (slots_from h k n f left)
    → ((m : ℕ) → Has (slots_from h k n f left) m → IsSameSlot h g m) → slots_from g k n f left ≡ slots_from h k n f left
slots-stay h g zero n f left files all same = walk-none g n f left ∙ sym (walk-none h n f left)
slots-stay h g (suc zero) n f left files all same =
    let one = few_end in
    stays-here h g 0 n f left (enough-here h n left _ one all) (same n (rw one (inl refl))) ∙ sym one
  where
    few_end : slots_from h (suc zero) n f left ≡ n ∷ []
    few_end =
        elim (walk h zero n f left) [
          | inl g ↦ g.slots ∙ ap (λ ns. n ∷ ns) (walk-none h f.ext g.next (left - held h n))
          | inr e ↦ e.slots
        ]
slots-stay h g (suc (suc k)) n f left files all same =
    elim (walk h (suc k) n f left) [
      | inl w ↦
          let rest = slots_from h (suc k) f.ext w.next (left - held h n) in
          let here = same n (rw w.slots (inl refl)) in
          let begins = walk-begins h k f.ext w.next (left - held h n) in
          let there = same f.ext (rw w.slots (inr (rw begins.1 (inl refl)))) in
          let blocks : held g n ≡ held h n = ap blocks_in here.lists in
          let number = w.is.number in
          let to = number.to in
          let next : next_header g f ≡ Some w.next = next-from g f w.next (record {
            number = record { from = number.from; to = omega arith };
            says = there.says ∙ w.is.says;
            after = w.is.after;
          }) in
          let more = w.more in
          let sum : sum_by (held h) (slots_from h (suc (suc k)) n f left) ≡ held h n + sum_by (held h) rest =
          ap (sum_by (held h)) w.slots ∙ sum_by-cons (held h) n rest in
          let behind : slots_from g (suc k) f.ext w.next (left - held h n) ≡ rest =
          slots-stay h g (suc k) f.ext w.next (left - held h n) files (omega arith) (λ m has. same m (rw w.slots (inr has))) in
          walk-more g (suc k) n f left (Some w.next) (omega arith) next
          ∙ ap (λ b. n ∷ slots_from g (suc k) f.ext w.next (left - b)) blocks
          ∙ ap (λ ns. n ∷ ns) behind
          ∙ sym w.slots
      | inr e ↦
          stays-here h g (suc k) n f left (enough-here h n left _ e.slots all) (same n (rw e.slots (inl refl))) ∙ sym e.slots
    ]

same-parts : (h g : Headers) (ns : List ℕ) → ((m : ℕ) → Has ns m → IsSameSlot h g m) → map g.lists ns ≡ map h.lists ns
same-parts h g [] same = refl
same-parts h g (n ∷ ns) same =
    ap (λ rs. rs ∷ map g.lists ns) (same n (inl refl)).lists ∙ ap (λ rss. h.lists n ∷ rss) (same-parts h g ns (λ m has. same m (inr has)))

same-runs : (h g : Headers) (ns : List ℕ) → ((m : ℕ) → Has ns m → IsSameSlot h g m) → flat_map g.lists ns ≡ flat_map h.lists ns
same-runs h g [] same = refl
same-runs h g (n ∷ ns) same =
    ap (λ rs. rs ++ flat_map g.lists ns) (same n (inl refl)).lists ∙ ap (λ rs. h.lists n ++ rs) (same-runs h g ns (λ m has. same m (inr has)))

has-last : (n : ℕ) (ns : List ℕ) → Has (n ∷ ns) (last_slot n ns)
has-last n [] = inl refl
has-last n (m ∷ ms) = inr (has-last m ms)

same-end : (h g : Headers) (ns : List ℕ) → ((m : ℕ) → Has ns m → IsSameSlot h g m) → ends_with_link g ns ≡ ends_with_link h ns
same-end h g [] same = refl
same-end h g (n ∷ ns) same = ap has_link (same (last_slot n ns) (has-last n ns)).says

-- what slots that stay tell of a file stays
pub told-stays : (h g : Headers) (blocks : ℕ) (ns : List ℕ) → ((m : ℕ) → Has ns m → IsSameSlot h g m) → chain_with g blocks ns ≡ chain_with h blocks ns
told-stays h g blocks ns same =
    let runs = same-runs h g ns same in
    rw (same-parts h g ns same, runs, same-end h g ns same) refl

pub chain-stays : (h g : Headers) (n : ℕ) (f : Hdr) → g.files ≡ h.files → is_broken f (chain_of h n f) ≡ false
    → ((m : ℕ) → Has (chain_of h n f).slots m → IsSameSlot h g m) → chain_of g n f ≡ chain_of h n f
chain-stays h g n f files whole same =
    let listed = whole-listed h n f whole in
    ap (chain_with g f.blocks) (slots-stay h g most_headers n f f.blocks files listed.0 same)
    ∙ told-stays h g f.blocks (slots_from h most_headers n f f.blocks) same
