-- Once all slots that are not kept are free, the clusters of files are those of what is kept.
use Rattle.std.proofs.Common.{◌≡◌, ◌∙◌, ◌<◌, ◌/◌, ℕ, Bool, List, [], ◌∷◌, refl, sym, ap, inl, inr, subst, arith}
use Rattle.std.specs.Prelude.{◌&&◌, ◌||◌, not, nat_le}
use Rattle.std.specs.List.{list_any}
use Rattle.std.proofs.lemmas.Bool.{or_left, or_right, or_from, le-leb, lt-leb}
use Rattle.base_words.specs.Fields.{Block}
use Rattle.base_words.specs.Lists.{Has}
use Rattle.fx_home.specs.declared.home.Home.{Home}
use Rattle.fx_home.specs.Homes.{IsWithinLimits}
use Rattle.vol_parts.specs.Conditions.{HasAllRunsInside}
use Rattle.vol_parts.specs.Volumes.{Volume, volume, IsNumber, total, numbers, Told, runs, first_lbn, bitmap_lbn, is_in_run, is_in_file, is_in_files}
use Rattle.vol_parts.proofs.Alone.{none_told}
use Rattle.vol_faults.specs.Counts.{AreCounts}
use Rattle.vol_faults.specs.Conditions.{has_run_off}
use Rattle.vol_rebuild.proofs.Setting.{none_counted}
use Rattle.vol_sound.specs.Sound.{is_sound}
use Rattle.vol_sound.specs.Freeing.{HasSystem, HasSlotsFreed}
use Rattle.vol_sound.specs.Begun.{is_kept_file, is_in_kept_file, is_in_kept}
use Rattle.vol_sound.proofs.Cuts.{number_of}
use Rattle.vol_sound.proofs.Freed.{in_file_same, system_stays, sound_stays}
use Rattle.vol_sound.proofs.Settled.{kinds, no_bad_runs}
use Rattle.vol_repair.specs.Touched.{IsGround}
use Rattle.vol_repair.specs.BitSteps.{AreKeptCounts}

any_alike : (f g : ℕ → Bool) (xs : List ℕ) → ((x : ℕ) → Has xs x → f x ≡ g x) → list_any f xs ≡ list_any g xs
any_alike f g [] same = refl
any_alike f g (x ∷ xs) same = let a = same x (inl refl) in let b = any_alike f g xs (λ y t. same y (inr t)) in λ i. a i || b i

-- where the storage control block is, while slots become free
pub control_stays : (home : Home) (first now : List Block) → IsWithinLimits home → HasSystem (volume home first) → HasSlotsFreed home first now → bitmap_lbn (volume home now) ≡ bitmap_lbn (volume home first)
unfolding runs
control_stays home first now within system freed = ap (λ (t : Told). first_lbn t.runs) (system_stays home first now within system freed 2 (omega arith) (omega arith)).told

module _ (home : Home) (first now : List Block) (within : IsWithinLimits home) (ground : IsGround home first now) where
  abbrev v : Volume
  v = volume home first

  abbrev p : Volume
  p = volume home now

  in_file_alike : (q n : ℕ) → IsNumber v n → is_in_file p q n ≡ is_in_kept_file v q n
  unfolding is_in_kept_file is_kept_file runs
  in_file_alike q n is = elim (kinds home first now within ground.system ground.freed n is) [
    | inl low ↦ in_file_same home first now q n (system_stays home first now within ground.system ground.freed.freed n is.from low).told ∙ sym (ap (λ t. t && is_in_file v q n) (or_left (nat_le n 11) (is_sound v n) (le-leb n 11 low)))
    | inr more ↦ elim more [
      | inl s ↦ in_file_same home first now q n (sound_stays home first now within ground.system ground.freed.freed n is s.1).told ∙ sym (ap (λ t. t && is_in_file v q n) (or_right (nat_le n 11) (is_sound v n) s.1))
      | inr none ↦ ap (λ (t : Told). list_any (is_in_run home.cluster q) t.runs) (none_told p n none.1) ∙ sym (ap (λ t. t && is_in_file v q n) (or_from (nat_le n 11) (is_sound v n) (lt-leb n 11 none.0) none.2))
    ]
  ]

  pub files_have : (q : ℕ) → is_in_files p q ≡ is_in_kept v q
  unfolding is_in_files is_in_kept
  files_have q = any_alike (is_in_file p q) (is_in_kept_file v q) (numbers v) (λ n t. in_file_alike q n (number_of v n t))

  pub runs_inside : HasAllRunsInside p
  unfolding has_run_off
  runs_inside = record { inside = λ n is. record { inside = no_bad_runs home first now within ground.system ground.freed n (record { from = is.from; to = is.to }) } }

  pub kept_counts : (counts : List ℕ) → AreCounts p counts → AreKeptCounts v counts
  kept_counts counts k =
      let whole : total p ≡ total v = ap (λ n. n / home.cluster) ground.freed.freed.count in
      record {
        all = k.all ∙ whole;
        each = λ q lt. none_counted p counts q k (subst (λ (n : ℕ). q < n) (sym whole) lt) ∙ ap not (files_have q);
      }
