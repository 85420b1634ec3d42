-- The walk along a chain of headers, from slot to slot.
use Rattle.std.proofs.Common.{◌≡◌, ◌∙◌, ◌+◌, ◌-◌, ◌<◌, ◌≤◌, ◌⊎◌, ◌==◌, ◌&&◌, nat_le, ℕ, zero, suc, Bool, true, false, List, [], ◌∷◌, Option, Some, None, length, slice_get, refl, sym, ap, subst, inl, inr, arith}
use Rattle.std.specs.Prelude.{if◌then◌else◌}
use Rattle.std.proofs.lemmas.Bool.{cases_lt, le-leb, lt-leb, leb-true, eqb-true, and_parts}
use Rattle.base_words.specs.Lists.{Has, Once}
use Rattle.fx_header.specs.declared.slot.Hdr.{Hdr}
use Rattle.vol_parts.specs.Chains.{Headers, held, follows, only_following, next_header, slots_behind, slots_from}
use Rattle.vol_parts.specs.ChainLaws.{IsSlot, IsSegment}

-- ---- the next header

-- a header that follows another one, by its parts
pub record Follows (f x : Hdr) : Type 0 where
  pub number : x.num ≡ f.ext
  pub sequence : x.seq ≡ f.ext_seq
  pub segment : x.seg ≡ f.seg + 1

pub follows-parts : (f x : Hdr) → follows f x ≡ true → Follows f x
unfolding follows
follows-parts f x e =
    let all = and_parts (x.num == f.ext) ((x.seq == f.ext_seq) && (x.seg == f.seg + 1)) e in
    let last = and_parts (x.seq == f.ext_seq) (x.seg == f.seg + 1) all.1 in
    record { number = eqb-true _ _ all.0; sequence = eqb-true _ _ last.0; segment = eqb-true _ _ last.1 }

-- x is the next header behind f
pub record IsNext (h : Headers) (f x : Hdr) : Type 0 where
  pub number : IsSlot h f.ext
  pub says : h.says f.ext ≡ Some x
  pub after : follows f x ≡ true

where_true : (t : Bool) (o : Option Hdr) (x : Hdr) → (if t then o else None) ≡ Some x → (t ≡ true) × (o ≡ Some x)
where_true true o x e = (refl, e)
where_true false o x e = absurd (cc)

only_is : (f : Hdr) (o : Option Hdr) (x : Hdr) → only_following f o ≡ Some x → (o ≡ Some x) × (follows f x ≡ true)
only_is f None x e = absurd (cc)
only_is f (Some y) x e =
    let p = where_true (follows f y) (Some y) x e in
    let same : y ≡ x = cc in
    (p.1, subst (λ z. follows f z ≡ true) same p.0)

pub next-is : (h : Headers) (f x : Hdr) → next_header h f ≡ Some x → IsNext h f x
unfolding next_header
next-is h f x e =
    let p = where_true (nat_le 1 f.ext && nat_le f.ext h.files) (only_following f (h.says f.ext)) x e in
    let inside = and_parts (nat_le 1 f.ext) (nat_le f.ext h.files) p.0 in
    let there = only_is f (h.says f.ext) x p.1 in
    record {
      number = record { from = leb-true _ _ inside.0; to = leb-true _ _ inside.1 };
      says = there.0;
      after = there.1;
    }

pub next-from : (h : Headers) (f x : Hdr) → IsNext h f x → next_header h f ≡ Some x
unfolding next_header
next-from h f x next =
    rw (le-leb 1 f.ext next.number.from, le-leb f.ext h.files next.number.to, next.says, next.after) refl

-- ---- one slot further

pub walk-none : (h : Headers) (n : ℕ) (f : Hdr) (left : ℕ) → slots_from h 0 n f left ≡ []
unfolding slots_from
walk-none h n f left = refl

pub walk-enough : (h : Headers) (k n : ℕ) (f : Hdr) (left : ℕ) → left ≤ held h n → slots_from h (suc k) n f left ≡ n ∷ []
unfolding slots_from
walk-enough h k n f left enough = rw (le-leb left (held h n) enough) refl

pub walk-more : (h : Headers) (k n : ℕ) (f : Hdr) (left : ℕ) (o : Option Hdr) → held h n < left → next_header h f ≡ o
    → slots_from h (suc k) n f left ≡ n ∷ slots_behind o (λ x. slots_from h k f.ext x (left - held h n))
unfolding slots_from
walk-more h k n f left o more e = rw (lt-leb left (held h n) more, e) refl

-- the walk goes on
pub record GoesOn (h : Headers) (k n : ℕ) (f : Hdr) (left : ℕ) : Type 0 where
  pub next : Hdr
  pub is : IsNext h f next
  pub more : held h n < left
  pub slots : slots_from h (suc k) n f left ≡ n ∷ slots_from h k f.ext next (left - held h n)

-- the walk ends at this slot
pub record EndsHere (h : Headers) (k n : ℕ) (f : Hdr) (left : ℕ) : Type 0 where
  pub why : (left ≤ held h n) ⊎ (next_header h f ≡ None)
  pub slots : slots_from h (suc k) n f left ≡ n ∷ []

pub walk : (h : Headers) (k n : ℕ) (f : Hdr) (left : ℕ) → GoesOn h k n f left ⊎ EndsHere h k n f left
walk h k n f left =
    elim (cases_lt (held h n) left) [
      | inl more ↦ by_next (next_header h f) refl more
      | inr enough ↦ inr (record { why = inl enough; slots = walk-enough h k n f left enough })
    ]
  where
    by_next : (o : Option Hdr) → next_header h f ≡ o → held h n < left → GoesOn h k n f left ⊎ EndsHere h k n f left
    by_next None e more = inr (record { why = inr e; slots = walk-more h k n f left None more e })
    by_next (Some x) e more = inl (record { next = x; is = next-is h f x e; more = more; slots = walk-more h k n f left (Some x) more e })

-- a walk begins at its first slot
pub walk-begins : (h : Headers) (k n : ℕ) (f : Hdr) (left : ℕ) → (ns : List ℕ) × (slots_from h (suc k) n f left ≡ n ∷ ns)
walk-begins h k n f left =
    elim (walk h k n f left) [
      | inl g ↦ (slots_from h k f.ext g.next (left - held h n), g.slots)
      | inr e ↦ ([], e.slots)
    ]

pub begins-there : (h : Headers) (k n : ℕ) (f : Hdr) (left : ℕ) → slice_get (slots_from h (suc k) n f left) 0 ≡ Some n
begins-there h k n f left = let b = walk-begins h k n f left in ap (λ ns. slice_get ns 0) b.1

-- ---- what holds of all slots

pub slots-few : (h : Headers) (k n : ℕ) (f : Hdr) (left : ℕ) → length (slots_from h k n f left) ≤ k
slots-few h zero n f left = rw (walk-none h n f left) (omega arith)
slots-few h (suc k) n f left =
    elim (walk h k n f left) [
      | inl g ↦ let few = slots-few h k f.ext g.next (left - held h n) in rw g.slots (omega arith)
      | inr e ↦ rw e.slots (omega arith)
    ]

pub slots-numbers : (h : Headers) (k n : ℕ) (f : Hdr) (left m : ℕ) → IsSlot h n → Has (slots_from h k n f left) m → IsSlot h m
slots-numbers h zero n f left m number has = absurd (rw (walk-none h n f left) at has)
slots-numbers h (suc k) n f left m number has =
    elim (walk h k n f left) [
      | inl g ↦
          let split : Has (n ∷ slots_from h k f.ext g.next (left - held h n)) m = rw g.slots at has in
          elim split [
            | inl same ↦ subst (λ j. IsSlot h j) same number
            | inr later ↦ slots-numbers h k f.ext g.next (left - held h n) m g.is.number later
          ]
      | inr e ↦
          let split : Has (n ∷ []) m = rw e.slots at has in
          elim split [
            | inl same ↦ subst (λ j. IsSlot h j) same number
            | inr later ↦ absurd later
          ]
    ]

pub slots-rise : (h : Headers) (k n : ℕ) (f : Hdr) (left i m : ℕ) → h.says n ≡ Some f → slice_get (slots_from h k n f left) i ≡ Some m
    → IsSegment h m (f.seg + i)
slots-rise h zero n f left i m says place =
    let none : slice_get (slots_from h 0 n f left) i ≡ None = ap (λ ns. slice_get ns i) (walk-none h n f left) in
    absurd (cc)
slots-rise h (suc k) n f left zero m says place =
    let same : n ≡ m = let first = begins-there h k n f left in cc in
    record { header = f; says = ap h.says (sym same) ∙ says; segment = omega arith }
slots-rise h (suc k) n f left (suc i) m says place =
    elim (walk h k n f left) [
      | inl g ↦
          let later : slice_get (slots_from h k f.ext g.next (left - held h n)) i ≡ Some m = ap (λ ns. slice_get ns (suc i)) (sym g.slots) ∙ place in
          let at_later = slots-rise h k f.ext g.next (left - held h n) i m g.is.says later in
          let up = (follows-parts f g.next g.is.after).segment in
          let risen = at_later.segment in
          record { header = at_later.header; says = at_later.says; segment = omega arith }
      | inr e ↦
          let none : slice_get (slots_from h (suc k) n f left) (suc i) ≡ None = ap (λ ns. slice_get ns (suc i)) e.slots in
          absurd (cc)
    ]

-- each slot has at least the first one's SEG_NUM
pub record NotBelow (h : Headers) (m s : ℕ) : Type 0 where
  pub header : Hdr
  pub says : h.says m ≡ Some header
  pub segment : s ≤ header.seg

not-below : (h : Headers) (k n : ℕ) (f : Hdr) (left m : ℕ) → h.says n ≡ Some f → Has (slots_from h k n f left) m → NotBelow h m f.seg
not-below h zero n f left m says has = absurd (rw (walk-none h n f left) at has)
not-below h (suc k) n f left m says has =
    elim (walk h k n f left) [
      | inl g ↦
          let split : Has (n ∷ slots_from h k f.ext g.next (left - held h n)) m = rw g.slots at has in
          elim split [
            | inl same ↦ record { header = f; says = ap h.says (sym same) ∙ says; segment = omega arith }
            | inr later ↦
                let behind = not-below h k f.ext g.next (left - held h n) m g.is.says later in
                let up = (follows-parts f g.next g.is.after).segment in
                let above = behind.segment in
                record { header = behind.header; says = behind.says; segment = omega arith }
          ]
      | inr e ↦
          let split : Has (n ∷ []) m = rw e.slots at has in
          elim split [
            | inl same ↦ record { header = f; says = ap h.says (sym same) ∙ says; segment = omega arith }
            | inr later ↦ absurd later
          ]
    ]

-- so the first slot does not come again
not-again : (h : Headers) (k n : ℕ) (f x : Hdr) (left : ℕ) → h.says n ≡ Some f → IsNext h f x → Has (slots_from h k f.ext x left) n → ⊥
not-again h k n f x left says next has =
    let behind = not-below h k f.ext x left n next.says has in
    let theirs = behind.says in
    let same : behind.header ≡ f = cc in
    let one : behind.header.seg ≡ f.seg = ap (λ (z : Hdr). z.seg) same in
    let up = (follows-parts f x next.after).segment in
    let above = behind.segment in
    omega arith

pub slots-once : (h : Headers) (k n : ℕ) (f : Hdr) (left : ℕ) → h.says n ≡ Some f → Once (slots_from h k n f left)
slots-once h zero n f left says = rw (walk-none h n f left) tt
slots-once h (suc k) n f left says =
    elim (walk h k n f left) [
      | inl g ↦ rw g.slots (not-again h k n f g.next (left - held h n) says g.is, slots-once h k f.ext g.next (left - held h n) g.is.says)
      | inr e ↦ rw e.slots (λ has. has, tt)
    ]
