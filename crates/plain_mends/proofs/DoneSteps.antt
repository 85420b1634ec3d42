-- Where nothing is left to mend, mending does nothing.
use Rattle.std.proofs.Common.{◌≡◌, ◌&&◌, ◌||◌, ◌-◌, ◌+◌, ◌*◌, ◌≤◌, ◌∙◌, ℕ, Bool, true, false, cond, not, List, [], ◌∷◌, Some, length, get_or, slice_get, refl, sym, ap, subst, arith}
use Rattle.std.specs.List.{count_by}
use Rattle.std.proofs.lemmas.Bool.{and_from}
use Rattle.std.proofs.lemmas.Option.{slice_get_within, get_or_from_slice_get}
use Rattle.plain_cat.specs.declared.history.Mended.{Mended}
use Rattle.plain_cat.specs.declared.cat.Cat.{Cat}
use Rattle.plain_cat.specs.declared.cat.File.{File}
use Rattle.plain_cat.specs.declared.cat.Slot.{Slot}
use Rattle.plain_cat.specs.declared.cat.Slot.TheVariants.{Used, Free}
use Rattle.plain_cat.specs.declared.cat.QuotaRow.{QuotaRow}
use Rattle.plain_rules.specs.Lookups.{file_at}
use Rattle.plain_rules.specs.Mending.{places, without_opens, is_empty, is_named, is_lost_slot, lost, with_lost, gone_slot, without_gone, without_leaks, summed_row, with_sums, is_used, is_true, put_right, counts, mended}
use Rattle.plain_laws.specs.Clearing.{IsUnmarked, nothing_done}
use Rattle.plain_mends.specs.Waiting.{IsDone}
use Rattle.base_words.specs.Lists.{Has}
use Rattle.plain_laws.proofs.Standing.{file_from, each_same}
use Rattle.plain_mends.proofs.Frames.{mended_by}
use Rattle.plain_mends.proofs.SlotSteps.{lost_has, nobody_enters}
use Rattle.plain_laws.proofs.AgainSteps.{map_const, map_same, none_true}

module _ (c : Cat) (done : IsDone c) where
  abbrev d : Cat
  d = without_opens c

  lost_none : (empty : Bool) → lost c empty ≡ []
  lost_none true = done.empty
  lost_none false = done.full

  unmarked : (i : ℕ) (f : File) → slice_get c.files i ≡ Some (Used f) → f.marked ≡ false
  unmarked i f at =
      let P : Slot → Type 0 = IsUnmarked in
      subst P (get_or_from_slice_get c.files i (Used f) (Used f) at) (done.marks i (Used f) (slice_get_within c.files i (Used f) at))

  -- a file that is not lost is named
  named : (i : ℕ) (f : File) → slice_get c.files i ≡ Some (Used f) → is_named c (record { num = 1 + i; seq = f.seq }) ≡ true
  named i f at = by_case (is_named c (record { num = 1 + i; seq = f.seq })) refl where
    there : file_at c (1 + i) ≡ Some f
    there = let place : 1 + i - 1 ≡ i = omega arith in file_from c (1 + i) f (omega arith) (ap (λ k. slice_get c.files k) place ∙ at)

    chosen : (b : Bool) → cond b b (not b) ≡ true
    chosen true = refl
    chosen false = refl

    by_case : (b : Bool) → is_named c (record { num = 1 + i; seq = f.seq }) ≡ b → b ≡ true
    by_case true e = refl
    by_case false e =
        let passes : is_lost_slot c (is_empty f) (1 + i) (Used f) ≡ true =
        and_from (not f.marked && not (is_named c (record { num = 1 + i; seq = f.seq }))) (cond (is_empty f) (is_empty f) (not (is_empty f)))
        (and_from (not f.marked) (not (is_named c (record { num = 1 + i; seq = f.seq }))) (ap not (unmarked i f at)) (ap not e)) (chosen (is_empty f)) in
        absurd (subst (λ (ks : List ℕ). Has ks (1 + i)) (lost_none (is_empty f)) (lost_has c (is_empty f) (1 + i) f there passes))

  third_same : without_gone d ≡ d
  third_same = ap (λ (fs : List Slot). record d { files = fs }) (each_same (gone_slot d) 1 c.files keeps) where
    keeps : (i : ℕ) (s : Slot) → slice_get c.files i ≡ Some s → gone_slot d (1 + i) s ≡ s
    keeps i (Free q) at = refl
    keeps i (Used f) at =
        ap (λ b. cond (b || not (is_named c (record { num = 1 + i; seq = f.seq }))) (Free f.seq) (Used f)) (unmarked i f at)
        ∙ ap (λ b. cond (not b) (Free f.seq) (Used f)) (named i f at)

  fourth_same : without_leaks d ≡ d
  fourth_same =
      ap (λ (bs : List Bool). record d { leaked = 0; leaked_numbers = bs }) (map_const false c.leaked_numbers done.numbers)
      ∙ ap (λ (k : ℕ). record d { leaked = k }) (sym done.clusters)

  fifth_same : with_sums d ≡ d
  fifth_same =
      ap (λ (rs : List QuotaRow). record d { quota = rs })
      (map_same (summed_row d) c.quota (λ k r h. ap (λ (u : ℕ). record (get_or c.quota k r) { usage = u }) (sym (done.usage k r h))))

  right_same : put_right d ≡ d
  right_same = ap (λ (x : Cat). with_sums (without_leaks x)) third_same ∙ (ap with_sums fourth_same ∙ fifth_same)

  nothing_counts : counts c d d d ≡ nothing_done
  nothing_counts =
      let entries : length (places c) - length (places c) ≡ 0 = omega arith in
      let files : count_by is_used c.files - count_by is_used c.files ≡ 0 = omega arith in
      ap (λ (k : ℕ). record { entered = k; removed = k; gone = count_by is_used c.files - count_by is_used c.files; clusters = c.leaked; numbers = count_by is_true c.leaked_numbers }) entries
      ∙ (ap (λ (k : ℕ). record { entered = 0; removed = 0; gone = k; clusters = c.leaked; numbers = count_by is_true c.leaked_numbers }) files
      ∙ (ap (λ (k : ℕ). record { entered = 0; removed = 0; gone = 0; clusters = k; numbers = count_by is_true c.leaked_numbers }) done.clusters
      ∙ ap (λ (k : ℕ). record { entered = 0; removed = 0; gone = 0; clusters = 0; numbers = k }) (none_true c.leaked_numbers done.numbers)))

  nobody : (m : ℕ) → Has (lost c true) m → ⊥
  nobody m h = subst (λ (ks : List ℕ). Has ks m) done.empty h

  pub done_mends : mended c ≡ Some (without_opens c, nothing_done)
  done_mends =
      let entered : with_lost d ≡ Some d = ap with_lost (sym done.stay) ∙ nobody_enters c done.stay done.full (λ m h. absurd (nobody m h)) in
      mended_by c d d (sym done.stay) entered
      ∙ (ap (λ (x : Cat). Some (x, counts c d d x)) right_same ∙ ap (λ (m : Mended). Some (d, m)) nothing_counts)
