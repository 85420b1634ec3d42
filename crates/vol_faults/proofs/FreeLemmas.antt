-- What is known of a volume that can be read, and counts over ranges of numbers.
use Rattle.std.proofs.Common.{◌≡◌, ◌∙◌, ◌+◌, ◌≤◌, ℕ, suc, Bool, true, false, cond, List, Result, Ok, Err, refl, sym, ap, subst, arith, inl, inr}
use Rattle.std.specs.List.{count_by, range_with_len}
use Rattle.std.proofs.lemmas.List.Sums.{sum_by_push}
use Rattle.std.proofs.lemmas.Bool.{cases_Bool}
use Rattle.base_words.specs.Fields.{Block}
use Rattle.fx_header.specs.declared.slot.Slot.{Slot}
use Rattle.fx_header.specs.declared.slot.HeaderFault.{HeaderFault}
use Rattle.fx_home.specs.declared.home.Home.{Home}
use Rattle.fx_home.specs.declared.home.HomeFault.{HomeFault}
use Rattle.fx_home.specs.Homes.{home_read}
use Rattle.vol_parts.specs.declared.finding.Finding.TheVariants as finding
use Rattle.vol_parts.specs.Conditions.{HasSystemFiles}
use Rattle.vol_parts.specs.Volumes.{Volume, volume, IsNumber, head}
use Rattle.vol_parts.specs.Fatal.{is_system_file}
use Rattle.vol_parts.specs.Findings.{home_at, rank, IsFatalBy, IsReadable}
use Rattle.vol_faults.specs.Conditions.{is_bad_slot, is_bad_header, HasHeads}
use Rattle.vol_faults.specs.Whole.{NoneBelow}
use Rattle.vol_faults.proofs.CountLemmas.{range_more}
use Rattle.vol_faults.proofs.FirstLemmas.{wrong-number}

-- one more number
pub count-more : (p : ℕ → Bool) (a q : ℕ) → count_by p (range_with_len a (suc q)) ≡ count_by p (range_with_len a q) + cond (p (a + q)) 1 0
count-more p a q = ap (count_by p) (range_more a q) ∙ sum_by_push (λ x. cond (p x) 1 0) (range_with_len a q) (a + q)

-- the home block of a volume that can be read is one
pub home-read : (bs : List Block) (fault : HomeFault) → IsReadable bs → home_read (home_at bs) ≡ Err fault → ⊥
home-read bs fault readable e =
    let fatal : IsFatalBy bs (home_read (home_at bs)) (finding.Home fault) = subst (λ (x : Result Home HomeFault). IsFatalBy bs x (finding.Home fault)) (sym e) refl in
    let w = readable (finding.Home fault) fatal in
    absurd (cc (w.1))

-- no fatal finding holds of it but one
pub none-of-readable : (bs : List Block) (home : Home) → IsReadable bs → home_read (home_at bs) ≡ Ok home → NoneBelow (volume home bs) 16
none-of-readable bs home readable e g below h =
    let w = readable g (subst (λ (x : Result Home HomeFault). IsFatalBy bs x g) (sym e) h) in
    let is : rank g ≡ 16 = ap rank w.1 in
    absurd (omega arith)

sound-slot : (v : Volume) (n : ℕ) (r : Result Slot HeaderFault) → NoneBelow v 16 → IsNumber v n → head v n ≡ r → is_bad_slot n r ≡ true → ⊥
sound-slot v n (Err fault) none number e bad = none (finding.Header n fault) (omega arith) (number, e)
sound-slot v n (Ok s) none number e bad = none (finding.WrongNumber n) (omega arith) (number, wrong-number n (head v n) s e (subst (λ (x : Result Slot HeaderFault). is_bad_slot n x ≡ true) (sym e) bad))

sound-head : (v : Volume) (n : ℕ) → NoneBelow v 16 → IsNumber v n → is_bad_header v n ≡ false
unfolding is_bad_header
sound-head v n none number = elim (cases_Bool (is_bad_header v n)) [
  | inl bad ↦ absurd (sound-slot v n (head v n) none number refl bad)
  | inr sound ↦ sound
]

pub heads-sound : (v : Volume) → NoneBelow v 16 → HasHeads v
heads-sound v none = record { sound = λ n number. sound-head v n none number }

sound-system : (v : Volume) (n : ℕ) → NoneBelow v 16 → 1 ≤ n → n ≤ 11 → is_system_file v n ≡ true
sound-system v n none from to = elim (cases_Bool (is_system_file v n)) [
  | inl sound ↦ sound
  | inr bad ↦ absurd (none (finding.SystemFile n) (omega arith) (from, to, bad))
]

pub systems-sound : (v : Volume) → NoneBelow v 16 → HasSystemFiles v
systems-sound v none = record { sound = λ n from to. sound-system v n none from to }

-- the next number passes
pub count-one : (p : ℕ → Bool) (a q n : ℕ) → a + q ≡ n → p n ≡ true → count_by p (range_with_len a (q + 1)) ≡ count_by p (range_with_len a q) + 1
count-one p a q n at test =
    let next : q + 1 ≡ suc q = omega arith in
    let here : p (a + q) ≡ true = rw at test in
    rw next (count-more p a q ∙ ap (λ (t : Bool). count_by p (range_with_len a q) + cond t 1 0) here)

-- the next number fails
pub count-same : (p : ℕ → Bool) (a q n : ℕ) → a + q ≡ n → p n ≡ false → count_by p (range_with_len a (q + 1)) ≡ count_by p (range_with_len a q)
count-same p a q n at test =
    let next : q + 1 ≡ suc q = omega arith in
    let here : p (a + q) ≡ false = rw at test in
    let more : count_by p (range_with_len a (suc q)) ≡ count_by p (range_with_len a q) + 0 = count-more p a q ∙ ap (λ (t : Bool). count_by p (range_with_len a q) + cond t 1 0) here in
    rw next (omega (arith, more))
