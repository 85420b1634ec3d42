-- The system files but the index file, and the sound files, keep their blocks where slots become free, and a sound file stays sound.
use Rattle.std.proofs.Common.{◌≡◌, ◌∙◌, ◌<◌, ◌≤◌, ℕ, true, List, sym, arith}
use Rattle.base_words.specs.Fields.{Block}
use Rattle.fx_home.specs.declared.home.Home.{Home}
use Rattle.fx_home.specs.Homes.{IsWithinLimits}
use Rattle.vol_parts.specs.Volumes.{Volume, volume, IsNumber, body}
use Rattle.vol_sound.specs.Sound.{has_cut, is_sound}
use Rattle.vol_sound.specs.Freeing.{HasSystem, HasSlotsFreed, LeavesOthers, LeavesFiles}
use Rattle.vol_sound.proofs.Cuts.{cut_parts, cut_from, sound_parts, sound_from, cut_counts, times_some, file_in_total}
use Rattle.vol_sound.proofs.Freed.{runs_off_same, in_file_same, system_stays, sound_stays, times_stay}
use Rattle.vol_sound.proofs.Bodies.{sound_apart, system_apart, body_by, dir_stays}

module _ (home : Home) (old new : List Block) (within : IsWithinLimits home) (system : HasSystem (volume home old)) (freed : HasSlotsFreed home old new) (others : LeavesOthers home old new) where
  abbrev v : Volume
  v = volume home old

  abbrev p : Volume
  p = volume home new

  pub sound_body : (n : ℕ) → IsNumber v n → is_sound v n ≡ true → body p n ≡ body v n
  sound_body n is s = body_by home old new others n (sound_stays home old new within system freed n is s).told (λ l t. sound_apart home old within system n l is s t)

  pub system_body : (n : ℕ) → 1 < n → n ≤ 11 → body p n ≡ body v n
  system_body n a b = body_by home old new others n (system_stays home old new within system freed n (omega arith) b).told (λ l t. system_apart home old within system n l a b t)

  -- a sound file stays sound
  pub still_sound : (n : ℕ) → IsNumber v n → is_sound v n ≡ true → is_sound p n ≡ true
  still_sound n is s =
      let parts = sound_parts v n s in
      let same = sound_stays home old new within system freed n is s in
      let c = cut_parts v n parts.cut in
      let dir = dir_stays home old new n same (sound_body n is s) ∙ parts.dir in
      let cut : has_cut p n ≡ true = cut_from p n (record { header = c.header; used = same.fields ∙ c.used; own = c.own; chain = λ above. same.chain ∙ c.chain above }) in
      sound_from p n (record {
        above = parts.above;
        cut = cut;
        inside = runs_off_same home old new freed.count n same.told ∙ parts.inside;
        dir = dir;
        unshared = λ q lt t.
            let before = parts.unshared q (file_in_total v n q parts.inside (sym (in_file_same home old new q n same.told) ∙ t)) (sym (in_file_same home old new q n same.told) ∙ t) in
            let less = times_stay home old new within system freed q in
            let some = cut_counts p q n cut t in
            let all = times_some p q n (record { from = is.from; to = is.to }) in
            omega arith;
      })

  pub leaves_files : LeavesFiles v p
  leaves_files = record { system = system_body; sound = λ n is s. (sound_body n is s, still_sound n is s) }
