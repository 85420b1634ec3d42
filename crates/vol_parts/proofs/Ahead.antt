-- The runs of a file that are ahead of a reader, run by run and header by header.
use Rattle.std.proofs.Common.{◌≡◌, ◌∙◌, ◌+◌, ◌-◌, ◌<◌, ◌≤◌, ◌⊎◌, nat_le, ℕ, suc, min, Bool, true, false, List, [], ◌∷◌, ◌++◌, Option, Some, None, flat_map, refl, sym, ap, inl, inr, arith}
use Rattle.std.specs.Prelude.{if◌then◌else◌}
use Rattle.std.proofs.lemmas.Bool.{cases_lt, le-leb, lt-leb}
use Rattle.fx_header.specs.declared.run.Run.{Run}
use Rattle.fx_header.specs.declared.slot.Hdr.{Hdr}
use Rattle.fx_header.specs.Pointers.{blocks_in}
use Rattle.vol_parts.specs.Chains.{Headers, next_header, slots_behind, slots_from, cut, front_of, chain_of}
use Rattle.vol_parts.specs.Iter.{slots_ahead, runs_ahead}
use Rattle.vol_parts.proofs.Cuts.{cut-none, cut-nil, cut-within, cut-past, blocks-cons}

-- ---- nothing is ahead

pub ahead-none : (h : Headers) (k : ℕ) (o : Option Hdr) (rs : List Run) → runs_ahead h k o rs 0 ≡ []
unfolding runs_ahead
ahead-none h k o rs = cut-none _

no_slots : (h : Headers) (k : ℕ) (o : Option Hdr) (left : ℕ) → slots_ahead h k o 0 left ≡ [] → runs_ahead h k o [] left ≡ []
unfolding runs_ahead
no_slots h k o left none = ap (λ ns. cut left (flat_map h.lists ns)) none ∙ cut-nil left

either : (t : Bool) (ns : List ℕ) → ns ≡ [] → (if t then [] else ns) ≡ []
either true ns e = refl
either false ns e = e

pub ahead-last : (h : Headers) (k left : ℕ) → runs_ahead h k None [] left ≡ []
ahead-last h k left = no_slots h k None left refl

pub ahead-ends : (h : Headers) (k : ℕ) (f : Hdr) (left : ℕ) → next_header h f ≡ None → runs_ahead h k (Some f) [] left ≡ []
ahead-ends h k f left none =
    no_slots h k (Some f) left (either (nat_le left 0) _ (ap (λ o. slots_behind o (λ x. slots_from h k f.ext x (left - 0))) none))

pub ahead-full : (h : Headers) (o : Option Hdr) (left : ℕ) → runs_ahead h 0 o [] left ≡ []
unfolding slots_from
ahead-full h None left = ahead-last h 0 left
ahead-full h (Some f) left = no_slots h 0 (Some f) left (either (nat_le left 0) _ (no_more (next_header h f)))
  where
    no_more : (o : Option Hdr) → slots_behind o (λ x. slots_from h 0 f.ext x (left - 0)) ≡ []
    no_more None = refl
    no_more (Some x) = refl

-- ---- the next run

same_slots : (h : Headers) (k : ℕ) (o : Option Hdr) (a b left : ℕ) → a < left → slots_ahead h k o (a + b) left ≡ slots_ahead h k o b (left - a)
same_slots h k None a b left past = refl
same_slots h k (Some f) a b left past =
    let e : left - (a + b) ≡ left - a - b = omega arith in
    elim (cases_lt (a + b) left) [
      | inl more ↦ rw (lt-leb left (a + b) more, lt-leb (left - a) b (omega arith), e) refl
      | inr enough ↦ rw (le-leb left (a + b) enough, le-leb (left - a) b (omega arith)) refl
    ]

pub ahead-run : (h : Headers) (k : ℕ) (o : Option Hdr) (r : Run) (rs : List Run) (left : ℕ) → 1 ≤ left
    → runs_ahead h k o (r ∷ rs) left ≡ front_of r (min r.count left) ∷ runs_ahead h k o rs (left - min r.count left)
unfolding runs_ahead
ahead-run h k o r rs left some =
    elim (cases_lt r.count left) [
      | inl past ↦
          let m : min r.count left ≡ r.count = omega arith in
          let behind : slots_ahead h k o (blocks_in (r ∷ rs)) left ≡ slots_ahead h k o (blocks_in rs) (left - r.count) =
          ap (λ b. slots_ahead h k o b left) (blocks-cons r rs) ∙ same_slots h k o r.count (blocks_in rs) left past in
          cut-past left r _ past ∙ rw (m, behind) refl
      | inr within ↦
          let m : min r.count left ≡ left = omega arith in
          let none : left - left ≡ 0 = omega arith in
          cut-within left r _ some within ∙ rw (m, none, cut-none (rs ++ flat_map h.lists (slots_ahead h k o (blocks_in rs) 0))) refl
    ]

-- ---- the next header

pub ahead-goes : (h : Headers) (k : ℕ) (f x : Hdr) (left : ℕ) → 1 ≤ left → next_header h f ≡ Some x
    → runs_ahead h (suc k) (Some f) [] left ≡ runs_ahead h k (Some x) (h.lists f.ext) left
unfolding runs_ahead slots_from
ahead-goes h k f x left some next =
    let same : left - 0 ≡ left = omega arith in
    rw (lt-leb left 0 some, next, same) refl

-- ---- all runs

pub ahead-all : (h : Headers) (n : ℕ) (f : Hdr) → runs_ahead h 15 (Some f) (h.lists n) f.blocks ≡ (chain_of h n f).runs
unfolding runs_ahead slots_from
ahead-all h n f = refl

-- ---- a header that was read through

pub through-none : (h : Headers) (k : ℕ) (o : Option Hdr) (rs : List Run) (left : ℕ) → (left ≡ 0) ⊎ (rs ≡ []) → runs_ahead h k o [] left ≡ [] → runs_ahead h k o rs left ≡ []
through-none h k o rs left (inl none) e = ap (runs_ahead h k o rs) none ∙ ahead-none h k o rs
through-none h k o rs left (inr none) e = ap (λ xs. runs_ahead h k o xs left) none ∙ e

pub through-goes : (h : Headers) (k : ℕ) (f x : Hdr) (rs : List Run) (left : ℕ) → (left ≡ 0) ⊎ (rs ≡ []) → 1 ≤ left → 1 ≤ k → next_header h f ≡ Some x
    → runs_ahead h (k - 1) (Some x) (h.lists f.ext) left ≡ runs_ahead h k (Some f) rs left
through-goes h k f x rs left (inl none) some more next = absurd (omega arith)
through-goes h k f x rs left (inr none) some more next =
    let fuel : suc (k - 1) ≡ k = omega arith in
    sym (ap (λ xs. runs_ahead h k (Some f) xs left) none ∙ ap (λ j. runs_ahead h j (Some f) [] left) (sym fuel) ∙ ahead-goes h (k - 1) f x left some next)
