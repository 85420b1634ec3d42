-- The parts of a repair, one after another, lead to blocks with which it begins.
use Rattle.std.proofs.Common.{◌≡◌, ◌≢◌, ◌∙◌, ◌≤◌, ℕ, Bool, true, false, List, flat_map, refl, ap, arith}
use Rattle.base_words.specs.Fields.{Block}
use Rattle.base_words.specs.Lists.{Has}
use Rattle.fx_home.specs.declared.home.Home.{Home}
use Rattle.fx_home.specs.Homes.{IsWithinLimits}
use Rattle.fx_dir.specs.Directory.{directory}
use Rattle.vol_parts.specs.Volumes.{Volume, volume, block_at, body, bitmap_lbn, rows_in, active_rows}
use Rattle.vol_parts.specs.Catalogues.{rows_sorted}
use Rattle.vol_parts.specs.Fatal.{has_two_rows}
use Rattle.vol_sound.specs.Freeing.{HasSystem, LeavesOthers}
use Rattle.vol_sound.specs.Kept.{IsEmptiedWhere, IsPackedWhere, IsBegun}
use Rattle.vol_sound.proofs.Cuts.{sound_parts}
use Rattle.vol_repair.specs.Touched.{places, is_remade}
use Rattle.vol_repair.specs.Phases.{IsAfterDirs, IsAfterRows, IsAfterBits}
use Rattle.vol_repair.specs.Laws.{PhasesLead}
use Rattle.vol_repair.proofs.Places.{IsKeptFile, low_kept_file, sound_kept_file}
use Rattle.vol_repair.proofs.Leaving.{body_same, not_remade, kept_told, home_same, control_in, control_still, rows_leave, bits_leave, from_first, rows_before, bits_before}

module _ (home : Home) (first a b c d : List Block) (within : IsWithinLimits home) (o : LeavesOthers home first a) (x : IsAfterDirs home first a b) (y : IsAfterRows home first b c) (z : IsAfterBits home first c d) where
  abbrev v : Volume
  v = volume home first

  system : HasSystem v
  system = x.ground.system

  low_file : (n : ℕ) → 1 ≤ n → n ≤ 11 → IsKeptFile v n
  low_file n from to = low_kept_file home first within system n from to

  -- the blocks of a file stay from where directories are made to the end
  to_end : (n l : ℕ) → IsKeptFile v n → n ≢ 1 → n ≢ 2 → n ≢ 10 → Has (places v n) l → block_at (volume home d) l ≡ block_at (volume home b) l
  to_end n l k ne nt nn t = bits_leave home first within system c d n l z.others k ne nt t ∙ rows_leave home first within system b c n l y.others k nn t

  -- so the files other than 1, 2 and 10 have at the end what they had when directories were made
  bodies_end : (n : ℕ) → IsKeptFile v n → n ≢ 1 → n ≢ 2 → n ≢ 10 → body (volume home d) n ≡ body (volume home b) n
  bodies_end n k ne nt nn =
      body_same home first b d n (kept_told home first within system b n x.ground.touched.freed k).told (kept_told home first within system d n z.ground.touched.freed k).told (λ l t. to_end n l k ne nt nn t)

  bodies_first : (n : ℕ) → IsKeptFile v n → n ≢ 1 → (is_remade v n ≡ true → ⊥) → body (volume home b) n ≡ body v n
  bodies_first n k ne other = body_same home first first b n refl (kept_told home first within system b n x.ground.touched.freed k).told (λ l t. from_first home first within system a b n l o x.others k ne other t)

  -- the quota blocks have at the end what was made of them
  rows_end : body (volume home d) 10 ≡ body (volume home c) 10
  rows_end =
      let ten = low_file 10 (omega arith) (omega arith) in
      body_same home first c d 10 (kept_told home first within system c 10 y.ground.touched.freed ten).told (kept_told home first within system d 10 z.ground.touched.freed ten).told
      (λ l t. bits_leave home first within system c d 10 l z.others ten (λ e. absurd (omega arith)) (λ e. absurd (omega arith)) t)

  active_end : active_rows (volume home d) ≡ active_rows (volume home c)
  unfolding active_rows
  active_end = ap (flat_map rows_in) rows_end

  -- the storage control block stays
  control_end : block_at (volume home d) (bitmap_lbn v) ≡ block_at v (bitmap_lbn v)
  control_end =
      let two = low_file 2 (omega arith) (omega arith) in
      let t = control_in home first within system in
      z.others.others (bitmap_lbn v) (control_still home first within system)
      ∙ rows_leave home first within system b c 2 (bitmap_lbn v) y.others two (λ e. absurd (omega arith)) t
      ∙ from_first home first within system a b 2 (bitmap_lbn v) o x.others two (λ e. absurd (omega arith)) (not_remade v 2 (omega arith) (λ e. absurd (omega arith)) (λ e. absurd (omega arith))) t

  emptied_end : (t : Bool) (n : ℕ) → body (volume home d) n ≡ body (volume home b) n → IsEmptiedWhere t v (volume home b) n → IsEmptiedWhere t v (volume home d) n
  emptied_end false n same e = same ∙ e
  emptied_end true n same e = ap directory same ∙ e

  packed_end : (t : Bool) → body (volume home d) 4 ≡ body (volume home b) 4 → IsPackedWhere t v (volume home b) → IsPackedWhere t v (volume home d)
  packed_end false same e = same ∙ e
  packed_end true same e = ap directory same ∙ e

  pub is_begun : IsBegun home first d
  is_begun = record {
    freed = z.ground.freed;
    control = control_end;
    sound = λ n is s.
        let above = (sound_parts v n s).above in
        emptied_end _ n (bodies_end n (sound_kept_file home first within system n is s) (λ e. absurd (omega arith)) (λ e. absurd (omega arith)) (λ e. absurd (omega arith))) (x.made.sound n is s);
    system = λ n from to ne.
        let k = low_file n (omega arith) (omega arith) in
        bodies_end n k (λ e. absurd (omega arith)) (λ e. absurd (omega arith)) (λ e. absurd (omega arith))
        ∙ bodies_first n k (λ e. absurd (omega arith)) (not_remade v n (omega arith) ne (λ e. absurd (omega arith)));
    main = packed_end _ (bodies_end 4 (low_file 4 (omega arith) (omega arith)) (λ e. absurd (omega arith)) (λ e. absurd (omega arith)) (λ e. absurd (omega arith))) x.made.main;
    lost = emptied_end _ 11 (bodies_end 11 (low_file 11 (omega arith) (omega arith)) (λ e. absurd (omega arith)) (λ e. absurd (omega arith)) (λ e. absurd (omega arith))) x.made.lost;
    rows = ap rows_sorted active_end ∙ y.made.rows;
    once = λ uic. ap (λ rs. has_two_rows rs uic) active_end ∙ y.made.once uic;
    clusters = z.made.clusters;
    numbers = z.made.numbers;
  }

pub phases_lead : PhasesLead
phases_lead = record {
  home_block = λ home first now within system k. home_same home first within system now k;
  rows = λ home first a b within o x. rows_before home first within x.ground.system a b o x;
  bits = λ home first a b c kept within o x y are. bits_before home first within x.ground.system a b c kept o x y are;
  begun = λ home first a b c d within o x y z. is_begun home first a b c d within o x y z;
}
