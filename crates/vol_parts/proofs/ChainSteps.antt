-- The loops over runs and slots: what is done, and what is left of the cut and of the walk.
use Rattle.std.proofs.Common.{◌≡◌, ◌∙◌, ◌+◌, ◌-◌, ◌<◌, ◌≤◌, ℕ, suc, List, [], ◌∷◌, ◌++◌, Some, None, get_or, drop, length, sym, ap, arith, append-nil, append_assoc}
use Rattle.std.proofs.lemmas.List.{drop_more, drop_all}
use Rattle.fx_header.specs.declared.run.Run.{Run}
use Rattle.fx_header.specs.declared.slot.Hdr.{Hdr}
use Rattle.std.specs.Prelude.{is_some}
use Rattle.vol_parts.specs.Conditions.{IsUsedSlot}
use Rattle.vol_parts.specs.Volumes.{Volume, IsNumber, headers_of}
use Rattle.vol_parts.specs.Chains.{Headers, held, next_header, slots_from, cut, front_of}
use Rattle.vol_parts.proofs.Cuts.{cut-none, cut-nil, cut-within, cut-past}
use Rattle.vol_parts.proofs.Walks.{walk-none, walk-enough, walk-more, next-is}

-- nothing is left behind what is done
at_end : {A : Type 0} (done rest whole : List A) → done ++ rest ≡ whole → rest ≡ [] → done ≡ whole
at_end done rest whole so_far none = sym (append-nil done) ∙ ap (λ xs. done ++ xs) (sym none) ∙ so_far

-- the last one is left
at_last : {A : Type 0} (done rest whole : List A) (x : A) → done ++ rest ≡ whole → rest ≡ x ∷ [] → done ++ x ∷ [] ≡ whole
at_last done rest whole x so_far last = ap (λ xs. done ++ xs) (sym last) ∙ so_far

-- one more is done
one_more : {A : Type 0} (done rest others whole : List A) (x : A) → done ++ rest ≡ whole → rest ≡ x ∷ others → (done ++ x ∷ []) ++ others ≡ whole
one_more done rest others whole x so_far more = append_assoc done (x ∷ []) others ∙ ap (λ xs. done ++ xs) (sym more) ∙ so_far

-- ---- runs

pub cut-ends : (done : List Run) (left i : ℕ) (rs whole : List Run) → done ++ cut left (drop i rs) ≡ whole → left ≡ 0 → done ≡ whole
cut-ends done left i rs whole so_far none =
    at_end done (cut left (drop i rs)) whole so_far (ap (λ k. cut k (drop i rs)) none ∙ cut-none (drop i rs))

pub cut-last : (done : List Run) (left i : ℕ) (rs whole : List Run) (d : Run) → done ++ cut left (drop i rs) ≡ whole → i < length rs
    → 1 ≤ left → left ≤ (get_or rs i d).count → done ++ front_of (get_or rs i d) left ∷ [] ≡ whole
cut-last done left i rs whole d so_far inside some within =
    let r = get_or rs i d in
    at_last done (cut left (drop i rs)) whole (front_of r left) so_far (ap (cut left) (drop_more rs i d inside) ∙ cut-within left r (drop (i + 1) rs) some within)

pub cut-goes : (done : List Run) (left i : ℕ) (rs whole : List Run) (d : Run) → done ++ cut left (drop i rs) ≡ whole → i < length rs
    → (get_or rs i d).count < left → (done ++ get_or rs i d ∷ []) ++ cut (left - (get_or rs i d).count) (drop (i + 1) rs) ≡ whole
cut-goes done left i rs whole d so_far inside past =
    let r = get_or rs i d in
    one_more done (cut left (drop i rs)) (cut (left - r.count) (drop (i + 1) rs)) whole r so_far (ap (cut left) (drop_more rs i d inside) ∙ cut-past left r (drop (i + 1) rs) past)

pub cut-done : (done : List Run) (left i : ℕ) (rs whole : List Run) → done ++ cut left (drop i rs) ≡ whole → length rs ≤ i → done ≡ whole
cut-done done left i rs whole so_far behind =
    at_end done (cut left (drop i rs)) whole so_far (ap (cut left) (drop_all i rs behind) ∙ cut-nil left)

-- ---- slots

pub step-ends : (h : Headers) (k i n : ℕ) (f : Hdr) (left : ℕ) → i < k → left ≤ held h n → slots_from h (k - i) n f left ≡ n ∷ []
step-ends h k i n f left more enough =
    let fuel : k - i ≡ suc (k - (i + 1)) = omega arith in
    ap (λ j. slots_from h j n f left) fuel ∙ walk-enough h (k - (i + 1)) n f left enough

pub step-stops : (h : Headers) (k i n : ℕ) (f : Hdr) (left : ℕ) → i < k → held h n < left → next_header h f ≡ None → slots_from h (k - i) n f left ≡ n ∷ []
step-stops h k i n f left more past none =
    let fuel : k - i ≡ suc (k - (i + 1)) = omega arith in
    ap (λ j. slots_from h j n f left) fuel ∙ walk-more h (k - (i + 1)) n f left None past none

pub step-goes : (h : Headers) (k i n : ℕ) (f x : Hdr) (left : ℕ) → i < k → held h n < left → next_header h f ≡ Some x
    → slots_from h (k - i) n f left ≡ n ∷ slots_from h (k - (i + 1)) f.ext x (left - held h n)
step-goes h k i n f x left more past next =
    let fuel : k - i ≡ suc (k - (i + 1)) = omega arith in
    ap (λ j. slots_from h j n f left) fuel ∙ walk-more h (k - (i + 1)) n f left (Some x) past next

pub step-done : (h : Headers) (k i n : ℕ) (f : Hdr) (left : ℕ) → k ≤ i → slots_from h (k - i) n f left ≡ []
step-done h k i n f left over =
    let fuel : k - i ≡ 0 = omega arith in
    ap (λ j. slots_from h j n f left) fuel ∙ walk-none h n f left

-- the number of the next header is one of the volume
pub next-number : (v : Volume) (f x : Hdr) → next_header (headers_of v) f ≡ Some x → IsNumber v f.ext
next-number v f x e =
    let next = next-is (headers_of v) f x e in
    record { from = next.number.from; to = next.number.to }

-- and its slot is used
pub next-used : (v : Volume) (f x : Hdr) → next_header (headers_of v) f ≡ Some x → IsUsedSlot v f.ext
next-used v f x e = record { used = ap is_some (next-is (headers_of v) f x e).says }
