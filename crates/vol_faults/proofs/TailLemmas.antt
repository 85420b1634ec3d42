-- The walk along a chain of headers tells what is listed behind the file's blocks.
use Rattle.std.proofs.Common.{◌≡◌, ◌∙◌, ◌+◌, ◌-◌, ◌<◌, ◌≤◌, ◌++◌, ◌==◌, ◌||◌, nat_lt, ℕ, zero, suc, Bool, true, false, List, [], ◌∷◌, Option, Some, None, filter, map, length, get_or, ◌&&◌, refl, sym, ap, subst, inl, inr, arith}
use Rattle.std.specs.Prelude.{not, if◌then◌else◌}
use Rattle.std.specs.List.{sum_by, range_with_len}
use Rattle.std.proofs.lemmas.Bool.{cases_lt, le-leb, lt-leb, le-ltb, lt-ltb}
use Rattle.std.proofs.lemmas.Bool.Decides.{nat_tests}
use Rattle.std.proofs.lemmas.List.Sums.{sum_by-cons}
use Rattle.std.proofs.lemmas.List.Elements.{filter-append}
use Rattle.std.proofs.lemmas.List.FromFn.{length-map-range_with_len, get_or-map-range_with_len}
use Rattle.fx_header.specs.declared.slot.Hdr.{Hdr}
use Rattle.vol_parts.specs.Volumes.{Volume, IsNumber, numbers, fields, used_slot, headers_of, chain_from, is_in_slots}
use Rattle.vol_parts.specs.Chains.{Headers, held, next_header, slots_from, most_headers, has_link, ends_with_link}
use Rattle.vol_parts.specs.Warnings.{has_surplus, is_further, is_stray}
use Rattle.vol_parts.proofs.Alone.{first-says}
use Rattle.vol_parts.proofs.Linked.{blocks-listed}
use Rattle.vol_parts.proofs.Walks.{walk-none, walk-begins, walk-enough, walk-more, next-is}
use Rattle.vol_faults.specs.Tails.{surplus_behind, surplus_from}
use Rattle.vol_faults.proofs.CountLemmas.{range_more}

-- ---- one step of the walk

pub surplus-none : (h : Headers) (n : ℕ) (f : Hdr) (left : ℕ) → surplus_from h 0 n f left ≡ true
unfolding surplus_from
surplus-none h n f left = refl

pub surplus-enough : (h : Headers) (k n : ℕ) (f : Hdr) (left : ℕ) → left ≤ held h n
    → surplus_from h (suc k) n f left ≡ (not (f.ext == 0) || nat_lt left (held h n))
unfolding surplus_from
surplus-enough h k n f left enough = rw (le-leb left (held h n) enough) refl

pub surplus-more : (h : Headers) (k n : ℕ) (f : Hdr) (left : ℕ) (o : Option Hdr) → held h n < left → next_header h f ≡ o
    → surplus_from h (suc k) n f left ≡ surplus_behind (not (f.ext == 0)) o (λ x. surplus_from h k f.ext x (left - held h n))
unfolding surplus_from
surplus-more h k n f left o more e = rw (lt-leb left (held h n) more, e) refl

-- ---- the loop

pub goes-ends : (h : Headers) (k i n : ℕ) (f : Hdr) (left : ℕ) (whole : Bool) → surplus_from h (k - i) n f left ≡ whole → i < k → left ≤ held h n
    → (not (f.ext == 0) || nat_lt left (held h n)) ≡ whole
goes-ends h k i n f left whole so_far more enough =
    let fuel : k - i ≡ suc (k - (i + 1)) = omega arith in
    sym (ap (λ j. surplus_from h j n f left) fuel ∙ surplus-enough h (k - (i + 1)) n f left enough) ∙ so_far

pub goes-stops : (h : Headers) (k i n : ℕ) (f : Hdr) (left : ℕ) (whole : Bool) → surplus_from h (k - i) n f left ≡ whole → i < k → held h n < left
    → next_header h f ≡ None → not (f.ext == 0) ≡ whole
goes-stops h k i n f left whole so_far more past none =
    let fuel : k - i ≡ suc (k - (i + 1)) = omega arith in
    sym (ap (λ j. surplus_from h j n f left) fuel ∙ surplus-more h (k - (i + 1)) n f left None past none) ∙ so_far

pub goes-goes : (h : Headers) (k i n : ℕ) (f x : Hdr) (left : ℕ) (whole : Bool) → surplus_from h (k - i) n f left ≡ whole → i < k → held h n < left
    → next_header h f ≡ Some x → surplus_from h (k - (i + 1)) f.ext x (left - held h n) ≡ whole
goes-goes h k i n f x left whole so_far more past next =
    let fuel : k - i ≡ suc (k - (i + 1)) = omega arith in
    sym (ap (λ j. surplus_from h j n f left) fuel ∙ surplus-more h (k - (i + 1)) n f left (Some x) past next) ∙ so_far

pub goes-done : (h : Headers) (k i n : ℕ) (f : Hdr) (left : ℕ) (whole : Bool) → surplus_from h (k - i) n f left ≡ whole → k ≤ i → true ≡ whole
goes-done h k i n f left whole so_far over =
    let fuel : k - i ≡ 0 = omega arith in
    sym (ap (λ j. surplus_from h j n f left) fuel ∙ surplus-none h n f left) ∙ so_far

pub or-left : (a b : Bool) → a ≡ true → a ≡ (a || b)
or-left true b e = refl
or-left false b e = absurd (cc)

pub or-right : (a b : Bool) → a ≡ false → b ≡ (a || b)
or-right true b e = absurd (cc)
or-right false b e = refl

-- ---- what the whole walk tells

-- the last of these slots has a link, or they list more blocks than are left
abbrev IsBehind : Headers → List ℕ → ℕ → Bool → Type 0
IsBehind h ns left b = b ≡ (ends_with_link h ns || nat_lt left (sum_by (held h) ns))

or_false : (a b : Bool) → b ≡ false → a ≡ (a || b)
or_false true b e = refl
or_false false b e = sym e

behind_one : (h : Headers) (n : ℕ) (f : Hdr) (left : ℕ) → h.says n ≡ Some f → IsBehind h (n ∷ []) left (not (f.ext == 0) || nat_lt left (held h n))
behind_one h n f left says =
    let sum : sum_by (held h) (n ∷ []) ≡ held h n = let s = sum_by-cons (held h) n [] in omega (arith, s) in
    let link : has_link (h.says n) ≡ not (f.ext == 0) = ap has_link says in
    ap (λ (a : Bool). a || nat_lt left (held h n)) (sym link) ∙ ap (λ k. ends_with_link h (n ∷ []) || nat_lt left k) (sym sum)

behind_short : (h : Headers) (n : ℕ) (f : Hdr) (left : ℕ) → h.says n ≡ Some f → held h n < left → IsBehind h (n ∷ []) left (not (f.ext == 0))
behind_short h n f left says more = or_false (not (f.ext == 0)) (nat_lt left (held h n)) (le-ltb _ _ (omega arith)) ∙ behind_one h n f left says

behind_more : (h : Headers) (n m : ℕ) (ns : List ℕ) (left : ℕ) (b : Bool) → held h n < left → IsBehind h (m ∷ ns) (left - held h n) b → IsBehind h (n ∷ m ∷ ns) left b
behind_more h n m ns left b more is =
    let sum = sum_by-cons (held h) n (m ∷ ns) in
    let same : nat_lt (left - held h n) (sum_by (held h) (m ∷ ns)) ≡ nat_lt left (held h n + sum_by (held h) (m ∷ ns)) = less_by (held h n) left (sum_by (held h) (m ∷ ns)) more in
    is ∙ ap (λ t. ends_with_link h (m ∷ ns) || t) same ∙ ap (λ k. ends_with_link h (m ∷ ns) || nat_lt left k) (sym sum)
  where
    less_by : (a b c : ℕ) → a < b → nat_lt (b - a) c ≡ nat_lt b (a + c)
    less_by a b c less = grind (arith, nat_tests, less)

abbrev Behind : Headers → ℕ → ℕ → Hdr → ℕ → Type 0
Behind h k n f left = IsBehind h (slots_from h k n f left) left (surplus_from h k n f left)

behind_enough : (h : Headers) (k n : ℕ) (f : Hdr) (left : ℕ) → h.says n ≡ Some f → left ≤ held h n → Behind h (suc k) n f left
behind_enough h k n f left says enough =
    rw (walk-enough h k n f left enough, surplus-enough h k n f left enough) (behind_one h n f left says)

behind_alone : (h : Headers) (k n : ℕ) (f : Hdr) (left : ℕ) → h.says n ≡ Some f → held h n < left → next_header h f ≡ None → Behind h (suc k) n f left
behind_alone h k n f left says more e =
    rw (walk-more h k n f left None more e, surplus-more h k n f left None more e) (behind_short h n f left says more)

-- a link to the next header is one
link_there : (h : Headers) (f x : Hdr) → next_header h f ≡ Some x → not (f.ext == 0) ≡ true
link_there h f x e = let number = (next-is h f x e).number in is_some_number f.ext number.from
  where
    is_some_number : (k : ℕ) → 1 ≤ k → not (k == 0) ≡ true
    is_some_number k some = grind (arith, nat_tests, some)

behind_last : (h : Headers) (n : ℕ) (f x : Hdr) (left : ℕ) → h.says n ≡ Some f → held h n < left → next_header h f ≡ Some x → Behind h 1 n f left
behind_last h n f x left says more e =
    let told = behind_short h n f left says more in
    rw (walk-more h 0 n f left (Some x) more e, surplus-more h 0 n f left (Some x) more e, walk-none h f.ext x (left - held h n), surplus-none h f.ext x (left - held h n))
    (sym (link_there h f x e) ∙ told)

behind_next : (h : Headers) (k n : ℕ) (f x : Hdr) (left : ℕ) → held h n < left → next_header h f ≡ Some x
    → Behind h (suc k) f.ext x (left - held h n) → Behind h (suc (suc k)) n f left
behind_next h k n f x left more e behind =
    let begins = walk-begins h k f.ext x (left - held h n) in
    let rest : IsBehind h (f.ext ∷ begins.0) (left - held h n) (surplus_from h (suc k) f.ext x (left - held h n)) =
    subst (λ ns. IsBehind h ns (left - held h n) (surplus_from h (suc k) f.ext x (left - held h n))) begins.1 behind in
    rw (walk-more h (suc k) n f left (Some x) more e, surplus-more h (suc k) n f left (Some x) more e, begins.1)
    (behind_more h n f.ext begins.0 left (surplus_from h (suc k) f.ext x (left - held h n)) more rest)

behind_from : (h : Headers) (k n : ℕ) (f : Hdr) (left : ℕ) → h.says n ≡ Some f → Behind h (suc k) n f left
behind_from h zero n f left says =
    elim (cases_lt (held h n) left) [
      | inl more ↦ by_next (next_header h f) refl more
      | inr enough ↦ behind_enough h 0 n f left says enough
    ]
  where
    by_next : (o : Option Hdr) → next_header h f ≡ o → held h n < left → Behind h 1 n f left
    by_next None e more = behind_alone h 0 n f left says more e
    by_next (Some x) e more = behind_last h n f x left says more e
behind_from h (suc k) n f left says =
    elim (cases_lt (held h n) left) [
      | inl more ↦ by_next (next_header h f) refl more (λ x there. behind_from h k f.ext x (left - held h n) there)
      | inr enough ↦ behind_enough h (suc k) n f left says enough
    ]
  where
    by_next : (o : Option Hdr) → next_header h f ≡ o → held h n < left → ((x : Hdr) → h.says f.ext ≡ Some x → Behind h (suc k) f.ext x (left - held h n))
        → Behind h (suc (suc k)) n f left
    by_next None e more behind = behind_alone h (suc k) n f left says more e
    by_next (Some x) e more behind = behind_next h k n f x left more e (behind x (next-is h f x e).says)

-- ---- files

pub surplus-of-file : (v : Volume) (n : ℕ) (f : Hdr) → fields v n ≡ Some f → surplus_from (headers_of v) most_headers n f f.blocks ≡ has_surplus v n
unfolding has_surplus
surplus-of-file v n f there =
    let h = headers_of v in
    let slots = slots_from h most_headers n f f.blocks in
    behind_from h 15 n f f.blocks (first-says v n f there).1
    ∙ ap (λ k. ends_with_link h slots || nat_lt f.blocks k) (sym (blocks-listed h slots))
    ∙ sym (ap (λ o. (chain_from h n o).surplus) there)

pub surplus-of-none : (v : Volume) (n : ℕ) → fields v n ≡ None → false ≡ has_surplus v n
unfolding has_surplus
surplus-of-none v n none = sym (ap (λ o. (chain_from (headers_of v) n o).surplus) none)

-- ---- headers

pub stray-by : (v : Volume) (n : ℕ) (f : Hdr) → used_slot v n ≡ Some f → 1 ≤ f.seg → not (is_in_slots v n) ≡ is_stray v n
unfolding is_stray
stray-by v n f there some =
    sym (ap (λ o. is_further o && not (is_in_slots v n)) there ∙ ap (λ (t : Bool). t && not (is_in_slots v n)) (lt-ltb 0 f.seg (omega arith)))

-- the flag of a number
pub flag-is : (v : Volume) (n : ℕ) (flags : List Bool) → IsNumber v n → flags ≡ map (is_in_slots v) (numbers v)
    → (n - 1 < length flags) × (get_or flags (n - 1) false ≡ is_in_slots v n)
flag-is v n flags number all =
    let from = number.from in
    let to = number.to in
    let long : length flags ≡ v.home.files = ap length all ∙ length-map-range_with_len (is_in_slots v) 1 v.home.files in
    (omega arith, ap (λ bs. get_or bs (n - 1) false) all ∙ get_or-map-range_with_len (is_in_slots v) 1 v.home.files (n - 1) n false (omega arith) (omega arith))

-- ---- lists of numbers

-- one number further
pub filter-next : (p : ℕ → Bool) (i : ℕ) → filter p (range_with_len 1 (i + 1)) ≡ filter p (range_with_len 1 i) ++ (if p (i + 1) then (i + 1) ∷ [] else [])
filter-next p i =
    let next : i + 1 ≡ suc i = omega arith in
    let same : 1 + i ≡ i + 1 = omega arith in
    ap (λ k. filter p (range_with_len 1 k)) next ∙ ap (filter p) (range_more 1 i) ∙ ap (λ k. filter p (range_with_len 1 i ++ k ∷ [])) same
    ∙ filter-append p (range_with_len 1 i) ((i + 1) ∷ [])
