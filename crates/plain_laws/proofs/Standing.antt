-- What stands under a number, after a change of each slot or of one.
use Rattle.std.proofs.Common.{◌≡◌, ◌==◌, ◌-◌, ◌+◌, ◌<◌, ◌∙◌, ℕ, zero, suc, Bool, true, false, cond, not, List, [], ◌∷◌, Option, Some, None, is_none, slice_get, set, refl, sym, ap, arith}
use Rattle.std.specs.Prelude.{option_map}
use Rattle.std.proofs.lemmas.Bool.Decides.{nat_tests}
use Rattle.std.proofs.lemmas.Bool.{eqb-true, eq-eqb}
use Rattle.std.proofs.lemmas.Option.{cond_some}
use Rattle.plain_cat.specs.declared.ids.Fid.{Fid}
use Rattle.plain_cat.specs.declared.cat.Cat.{Cat}
use Rattle.plain_cat.specs.declared.cat.File.{File}
use Rattle.plain_cat.specs.declared.cat.Slot.{Slot}
use Rattle.plain_cat.specs.declared.cat.Slot.TheVariants.{Used}
use Rattle.plain_rules.specs.Lookups.{slot_at, file_in, file_at, of_seq, in_use, unmarked, live}
use Rattle.plain_rules.specs.Changes.{with_slot}
use Rattle.plain_rules.specs.Mending.{each_from}
use Rattle.plain_rules.proofs.Standing.{stands_at}

-- 0 is no number
pub number_rises : (c : Cat) (n : ℕ) (f : File) → file_at c n ≡ Some f → 0 < n
number_rises c n f h = decide (n == 0) refl h where
  decide : (b : Bool) → b ≡ (n == 0) → file_in (cond b None (slice_get c.files (n - 1))) ≡ Some f → 0 < n
  decide true e k = absurd (cc k)
  decide false e k = grind (arith, nat_tests)

pub stands_from : (c : Cat) (n : ℕ) (s : Slot) → 0 < n → slice_get c.files (n - 1) ≡ Some s → slot_at c n ≡ Some s
stands_from c n s lt at =
    let e : (n == 0) ≡ false = grind (arith, nat_tests) in ap (λ b. cond b None (slice_get c.files (n - 1))) e ∙ at

pub file_from : (c : Cat) (n : ℕ) (f : File) → 0 < n → slice_get c.files (n - 1) ≡ Some (Used f) → file_at c n ≡ Some f
file_from c n f lt at = ap file_in (stands_from c n (Used f) lt at)

each_get : (g : ℕ → Slot → Slot) (n : ℕ) (xs : List Slot) (i : ℕ) → slice_get (each_from g n xs) i ≡ option_map (g (n + i)) (slice_get xs i)
each_get g n [] i = refl
each_get g n (x ∷ xs) zero = let e : n ≡ n + 0 = omega arith in ap (λ k. Some (g k x)) e
each_get g n (x ∷ xs) (suc i) =
    let e : n + 1 + i ≡ n + suc i = omega arith in each_get g (n + 1) xs i ∙ ap (λ k. option_map (g k) (slice_get xs i)) e

-- each slot changes
pub slot_each : (c : Cat) (g : ℕ → Slot → Slot) (n : ℕ) → slot_at (record c { files = each_from g 1 c.files }) n ≡ option_map (g n) (slot_at c n)
slot_each c g n = decide (n == 0) refl where
  decide : (b : Bool) → b ≡ (n == 0) → cond b None (slice_get (each_from g 1 c.files) (n - 1)) ≡ option_map (g n) (cond b None (slice_get c.files (n - 1)))
  decide true e = refl
  decide false e =
      let same : 1 + (n - 1) ≡ n = grind (arith, nat_tests) in
      each_get g 1 c.files (n - 1) ∙ ap (λ k. option_map (g k) (slice_get c.files (n - 1))) same

-- each slot stays
pub each_same : (g : ℕ → Slot → Slot) (n : ℕ) (xs : List Slot) → ((i : ℕ) (s : Slot) → slice_get xs i ≡ Some s → g (n + i) s ≡ s) → each_from g n xs ≡ xs
each_same g n [] h = refl
each_same g n (x ∷ xs) h =
    let e : n ≡ n + 0 = omega arith in
    ap (λ (y : Slot). y ∷ each_from g (n + 1) xs) (ap (λ k. g k x) e ∙ h 0 x refl) ∙ ap (λ ys. x ∷ ys) (each_same g (n + 1) xs (λ i s at.
    let f : n + 1 + i ≡ n + suc i = omega arith in ap (λ k. g k s) f ∙ h (suc i) s at))

pub set_same : (xs : List Slot) (i : ℕ) (v x : Slot) → slice_get xs i ≡ Some x → slice_get (set xs i v) i ≡ Some v
set_same [] i v x h = absurd (cc h)
set_same (y ∷ ys) zero v x h = refl
set_same (y ∷ ys) (suc i) v x h = set_same ys i v x h

pub set_other : (xs : List Slot) (i j : ℕ) (v : Slot) → (i ≡ j → ⊥) → slice_get (set xs i v) j ≡ slice_get xs j
set_other [] i j v h = refl
set_other (y ∷ ys) zero zero v h = absurd (h refl)
set_other (y ∷ ys) zero (suc j) v h = refl
set_other (y ∷ ys) (suc i) zero v h = refl
set_other (y ∷ ys) (suc i) (suc j) v h = set_other ys i j v (λ e. h (ap suc e))

-- the slot of one number changes
pub file_same : (c : Cat) (n : ℕ) (f g : File) → file_at c n ≡ Some f → file_at (with_slot c n (Used g)) n ≡ Some g
file_same c n f g h =
    file_from (with_slot c n (Used g)) n g (number_rises c n f h) (set_same c.files (n - 1) (Used g) (Used f) (stands_at c n f h))

pub file_other : (c : Cat) (n m : ℕ) (s : Slot) → 0 < n → (m ≡ n → ⊥) → file_at (with_slot c n s) m ≡ file_at c m
file_other c n m s lt other = decide (m == 0) refl where
  decide : (b : Bool) → b ≡ (m == 0) → file_in (cond b None (slice_get (set c.files (n - 1) s) (m - 1))) ≡ file_in (cond b None (slice_get c.files (m - 1)))
  decide true e = refl
  decide false e =
      let apart : (n - 1 ≡ m - 1 → ⊥) = λ same. other (grind (arith, nat_tests)) in
      ap file_in (set_other c.files (n - 1) (m - 1) s apart)

-- a live file under an identifier
pub record Alive (c : Cat) (fid : Fid) : Type 0 where
  pub file : File
  pub at : file_at c fid.num ≡ Some file
  pub seq : file.seq ≡ fid.seq
  pub free : file.marked ≡ false

seq_parts : (seq : ℕ) (o : Option File) (f : File) → of_seq seq o ≡ Some f → (o ≡ Some f) × (f.seq ≡ seq)
seq_parts seq None f h = absurd (cc h)
seq_parts seq (Some g) f h =
    let p = cond_some (g.seq == seq) g f h in
    (ap Some p.1, ap (λ (x : File). x.seq) (sym p.1) ∙ eqb-true g.seq seq p.0)

mark_parts : (o : Option File) → not (is_none (unmarked o)) ≡ true → (f : File) × (o ≡ Some f) × (f.marked ≡ false)
mark_parts None h = absurd (cc h)
mark_parts (Some g) h = (g, refl, decide g.marked h) where
  decide : (b : Bool) → not (is_none (cond b None (Some g))) ≡ true → b ≡ false
  decide true k = absurd (cc k)
  decide false k = refl

pub alive_from : (c : Cat) (fid : Fid) → not (is_none (live c fid)) ≡ true → Alive c fid
alive_from c fid h =
    let m = mark_parts (in_use c fid) h in
    let s = seq_parts fid.seq (file_at c fid.num) m.0 m.1 in
    record { file = m.0; at = s.0; seq = s.1; free = m.2 }

pub alive_to : (c : Cat) (fid : Fid) → Alive c fid → not (is_none (live c fid)) ≡ true
alive_to c fid a =
    let same : (a.file.seq == fid.seq) ≡ true = eq-eqb a.file.seq fid.seq a.seq in
    ap (λ o. not (is_none (unmarked (of_seq fid.seq o)))) a.at
    ∙ (ap (λ b. not (is_none (unmarked (cond b (Some a.file) None)))) same ∙ ap (λ b. not (is_none (cond b None (Some a.file)))) a.free)
