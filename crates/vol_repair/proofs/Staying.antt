-- What is touched no more than a repair may touch keeps what was sound, and nothing of it is beyond repair.
use Rattle.std.proofs.Common.{◌≡◌, ◌≢◌, ◌∙◌, ◌≤◌, ◌+◌, ◌*◌, ◌/◌, ◌⊎◌, ℕ, true, false, not, List, [], ◌∷◌, Option, Some, None, length, slice_get, refl, sym, ap, subst, inl, inr, arith, cond}
use Rattle.std.specs.Prelude.{◌==◌, ◌&&◌, ◌||◌, nat_le, Result, Ok, Err}
use Rattle.std.proofs.lemmas.Bool.{and_parts, or_cases, or_left, or_right, eqb-true, eq-eqb}
use Rattle.base_words.specs.Fields.{Block}
use Rattle.base_words.specs.Lists.{Has}
use Rattle.fx_home.specs.declared.home.Home.{Home}
use Rattle.fx_home.specs.declared.home.HomeFault.{HomeFault}
use Rattle.fx_home.specs.declared.scb.Scb.{Scb}
use Rattle.fx_home.specs.declared.scb.ScbFault.{ScbFault}
use Rattle.fx_home.specs.declared.scb.ScbFault.TheVariants as scb
use Rattle.fx_home.specs.Homes.{IsWithinLimits, home_read, scb_read}
use Rattle.fx_header.specs.declared.run.Run.{Run}
use Rattle.fx_header.specs.declared.slot.Hdr.{Hdr}
use Rattle.fx_dir.specs.declared.RawEnt.{RawEnt}
use Rattle.fx_dir.specs.declared.DirFault.{DirFault}
use Rattle.fx_dir.specs.declared.DirFault.TheVariants as dir
use Rattle.fx_dir.specs.Directory.{directory}
use Rattle.plain_cat.specs.declared.cat.File.{File}
use Rattle.plain_cat.specs.declared.cat.Slot.TheVariants.{Used}
use Rattle.plain_rules.specs.SystemFiles.{is_system_directory}
use Rattle.vol_parts.specs.declared.finding.Finding.{Finding}
use Rattle.vol_parts.specs.declared.finding.Finding.TheVariants as finding
use Rattle.vol_parts.specs.Chains.{as_first}
use Rattle.vol_parts.specs.Parts.{storage_blocks}
use Rattle.vol_parts.specs.Volumes.{Volume, volume, IsNumber, block_at, fields_in, fields, Told, told, runs, body, first_lbn, bitmap_lbn}
use Rattle.vol_parts.specs.Catalogues.{file_of, slot_of}
use Rattle.vol_parts.specs.Fatal.{in_whole_clusters, is_one_header, has_one_header, is_system_header, stated_clusters, are_stated, is_system_file, scb_test, scb_fault, IsInRun, has_dir_size, found_in, dir_fault}
use Rattle.vol_parts.specs.Findings.{home_at}
use Rattle.vol_parts.proofs.Alone.{first-says}
use Rattle.vol_faults.specs.Conditions.{has_run_off}
use Rattle.vol_sound.specs.Sound.{has_cut, is_sound}
use Rattle.vol_sound.specs.Beyond.{IsBeyondIn, IsBeyondBy}
use Rattle.vol_sound.specs.Freeing.{HasSystem, IsSameTold}
use Rattle.vol_sound.specs.Kept.{is_marked_for}
use Rattle.vol_sound.proofs.Cuts.{cut_parts, cut_from, sound_parts, sound_from, cut_counts, times_some, file_in_total}
use Rattle.vol_sound.proofs.Freed.{runs_off_same, in_file_same, times_stay}
use Rattle.vol_sound.proofs.Bodies.{dir_stays}
use Rattle.vol_sound.proofs.KeptFiles.{slot_used, sized, fault_in, system_fields}
use Rattle.vol_repair.specs.Touched.{places, is_remade, IsTouchable, IsTouched}
use Rattle.vol_repair.specs.Alike.{bare}
use Rattle.vol_repair.specs.Keeping.{IsStill}
use Rattle.vol_repair.specs.Laws.{TouchedKeeps}
use Rattle.vol_repair.proofs.Places.{IsKeptFile, remade_kinds, low_kept_file, sound_kept_file, touched_in}
use Rattle.vol_repair.proofs.Leaving.{body_same, kept_told, kept_behind, home_same, control_in, control_still, not_remade}

-- ---- nothing is beyond repair

-- where the fixed parts are as the structure of a volume asks, nothing is beyond repair
pub none_beyond : (v : Volume) → HasSystem v → (f : Finding) → IsBeyondIn v f → ⊥
unfolding has_run_off
none_beyond v s (finding.Home fault) b = b.fatal
none_beyond v s (finding.Header n fault) b =
    let c = cut_parts v n (s.cuts n b.fatal.0.from b.fixed) in
    let z : None ≡ Some c.header = sym (ap (λ r. fields_in (as_first r)) b.fatal.1) ∙ c.used in
    absurd (cc)
none_beyond v s (finding.WrongNumber n) b =
    let c = cut_parts v n (s.cuts n b.fatal.0.from b.fixed) in
    let f = b.fatal.1.0 in
    let z : Some f ≡ Some c.header = sym b.fatal.1.1 ∙ (first-says v n c.header c.used).1 in
    let same : f ≡ c.header = cc in
    b.fatal.1.2 (ap (λ (x : Hdr). x.num) same ∙ c.own)
none_beyond v s (finding.SystemFile n) b = let z : true ≡ false = sym (s.files.sound n b.fatal.0 b.fatal.1) ∙ b.fatal.2 in absurd (cc)
none_beyond v s (finding.Scb fault) b = let z : None ≡ Some fault = sym s.control ∙ b.fatal in absurd (cc)
none_beyond v s (finding.Runs n) b = let z : false ≡ true = sym (s.inside n b.fatal.0.from b.fixed) ∙ b.fatal.1 in absurd (cc)
none_beyond v s (finding.SharedCluster q) b =
    let x = b.fixed.shared in
    let one = s.apart q x.n x.i x.m x.j b.fixed.one b.fixed.other x.one x.other in
    elim x.apart [ inl ne ↦ ne one.0 | inr ne ↦ ne one.1 ]
none_beyond v s (finding.DirSize n) b = s.sizes n (system_dir b.fixed) b.fatal.1 where
  system_dir : (n ≡ 4) ⊎ (n ≡ 11) → is_system_directory n ≡ true
  system_dir (inl four) = or_left (n == 4) (n == 11) (eq-eqb n 4 four)
  system_dir (inr last) = or_right (n == 4) (n == 11) (eq-eqb n 11 last)
none_beyond v s f b = b.fixed

-- ---- files 1 to 11

stated_alike : (home : Home) (old new : List Block) (n : ℕ) (o : Option ℕ) (rs : List Run) → length new ≡ length old → are_stated (volume home new) n o rs ≡ are_stated (volume home old) n o rs
stated_alike home old new n None rs count = refl
stated_alike home old new n (Some k) [] count = refl
stated_alike home old new n (Some k) (r ∷ []) count = ap (λ x. (r.count == home.cluster * k) && (nat_le (r.lbn + r.count) (home.cluster * (x / home.cluster)) && (not (n == 1) || (r.lbn == 0)))) count
stated_alike home old new n (Some k) (r ∷ q ∷ rs) count = refl

stated_same : (home : Home) (old new : List Block) (n : ℕ) → length new ≡ length old → stated_clusters (volume home new) n ≡ stated_clusters (volume home old) n
unfolding stated_clusters
stated_same home old new n count =
    ap (λ x. cond (n == 1) (Some (in_whole_clusters home.cluster (4 * home.cluster + 1 + home.files)))
    (cond (n == 2) (Some (in_whole_clusters home.cluster (1 + storage_blocks (x / home.cluster)))) (cond (is_system_directory n || (n == 10)) (Some 1) None))) count

-- a file of which the same is told is as the structure of a volume asks, if it was
pub system_file_stays : (home : Home) (old new : List Block) (n : ℕ) → length new ≡ length old → IsSameTold (volume home old) (volume home new) n → is_system_file (volume home new) n ≡ is_system_file (volume home old) n
unfolding is_system_file runs
system_file_stays home old new n count same =
    let v = volume home old in
    let p = volume home new in
    ap (λ o. is_system_header n o && (has_one_header o (told p n) && are_stated p n (stated_clusters p n) (told p n).runs)) same.fields
    ∙ ap (λ (t : Told). is_system_header n (fields v n) && (has_one_header (fields v n) t && are_stated p n (stated_clusters p n) t.runs)) same.told
    ∙ ap (λ o. is_system_header n (fields v n) && (has_one_header (fields v n) (told v n) && are_stated p n o (told v n).runs)) (stated_same home old new n count)
    ∙ ap (λ t. is_system_header n (fields v n) && (has_one_header (fields v n) (told v n) && t)) (stated_alike home old new n (stated_clusters v n) (told v n).runs count)

-- the fault of a directory's blocks is not its size
not_size : (n : ℕ) (r : Result (List RawEnt) DirFault) → found_in n r ≢ Some (finding.DirSize n)
not_size n (Ok es) e = absurd (let z : None ≡ Some (finding.DirSize n) = e in cc)
not_size n (Err (dir.BadRecord vbn)) e = absurd (let z : Some (finding.DirRecord n) ≡ Some (finding.DirSize n) = e in cc)
not_size n (Err dir.BadOrder) e = absurd (let z : Some (finding.DirOrder n) ≡ Some (finding.DirSize n) = e in cc)
not_size n (Err dir.Clash) e = absurd (let z : Some (finding.DirClash n) ≡ Some (finding.DirSize n) = e in cc)
not_size n (Err dir.NoMemory) e = absurd (let z : None ≡ Some (finding.DirSize n) = e in cc)

module _ (home : Home) (first now : List Block) (within : IsWithinLimits home) (system : HasSystem (volume home first)) (k : IsTouched home first now) where
  abbrev v : Volume
  v = volume home first

  abbrev p : Volume
  p = volume home now

  same_told : (n : ℕ) → IsKeptFile v n → IsSameTold v p n
  same_told n file = kept_told home first within system now n k.freed file

  low_told : (n : ℕ) → 1 ≤ n → n ≤ 11 → IsSameTold v p n
  low_told n a b = same_told n (low_kept_file home first within system n a b)

  cut_stays : (n : ℕ) → IsSameTold v p n → has_cut v n ≡ true → has_cut p n ≡ true
  cut_stays n same cut = let c = cut_parts v n cut in cut_from p n (record { header = c.header; used = same.fields ∙ c.used; own = c.own; chain = λ above. same.chain ∙ c.chain above })

  -- a run was there
  run_was : (q n i : ℕ) → n ≤ 11 → IsInRun p q n i → IsInRun v q n i
  unfolding runs
  run_was q n i few x = record {
    number = record { from = x.number.from; to = x.number.to };
    run = x.run;
    there = sym (ap (λ (t : Told). slice_get t.runs i) (low_told n x.number.from few).told) ∙ x.there;
    inside = x.inside;
  }

  bitmap_same : bitmap_lbn p ≡ bitmap_lbn v
  unfolding runs
  bitmap_same = ap (λ (t : Told). first_lbn t.runs) (low_told 2 (omega arith) (omega arith)).told

  control_same : block_at p (bitmap_lbn v) ≡ block_at v (bitmap_lbn v)
  control_same = k.others (bitmap_lbn v) (kept_behind home first within system 2 (bitmap_lbn v) two (λ e. absurd (omega arith)) t) still where
    two : IsKeptFile v 2
    two = low_kept_file home first within system 2 (omega arith) (omega arith)

    t : Has (places v 2) (bitmap_lbn v)
    t = control_in home first within system

    still : IsTouchable v (bitmap_lbn v) → ⊥
    still (inr (inr b)) = control_still home first within system b
    still other = elim (touched_in home first within system 2 (bitmap_lbn v) two t other) [
      | inl d ↦ not_remade v 2 (omega arith) (λ e. absurd (omega arith)) (λ e. absurd (omega arith)) d
      | inr more ↦ elim more [
        | inl r ↦ omega arith
        | inr b ↦ elim b [
          | inl index ↦ (let z = index.0 in omega arith)
          | inr storage ↦ control_still home first within system (inr storage.1)
        ]
      ]
    ]

  control_stands : scb_fault p ≡ None
  unfolding scb_fault
  control_stands =
      ap (λ l. scb_test p (scb_read (block_at p l))) bitmap_same ∙ ap (λ x. scb_test p (scb_read x)) control_same ∙ tested (scb_read (block_at v (bitmap_lbn v))) ∙ system.control
    where
      tested : (r : Result Scb ScbFault) → scb_test p r ≡ scb_test v r
      tested (Err fault) = refl
      tested (Ok s) = ap (λ c. cond (not (s.cluster == home.cluster)) (Some scb.BadCluster) (cond (not (s.blocks == c)) (Some scb.BadSize) None)) k.freed.count

  sized_still : (n : ℕ) → is_system_directory n ≡ true → 1 ≤ n → n ≤ 11 → dir_fault p n ≢ Some (finding.DirSize n)
  unfolding runs
  sized_still n s a b e =
      let h = system_fields v n (system.files.sound n a b) in
      let same = low_told n a b in
      let d : h.header.dir ≡ true = h.dir ∙ s in
      let fits : (is_one_header h.header (told p n) && has_dir_size home.cluster h.header (told p n).runs) ≡ true =
      ap (λ (t : Told). is_one_header h.header t && has_dir_size home.cluster h.header t.runs) same.told ∙ sized v n h.header h.used d (system.sizes n s) in
      not_size n (directory (body p n)) (sym (fault_in p n h.header (same.fields ∙ h.used) d fits) ∙ e)

  -- the fixed parts are as they were
  pub system_now : HasSystem p
  system_now = record {
    files = record { sound = λ n a b. system_file_stays home first now n k.freed.count (low_told n a b) ∙ system.files.sound n a b };
    cuts = λ n a b. cut_stays n (low_told n a b) (system.cuts n a b);
    inside = λ n a b. runs_off_same home first now k.freed.count n (low_told n a b).told ∙ system.inside n a b;
    apart = λ q n i m j a b x y. system.apart q n i m j a b (run_was q n i a x) (run_was q m j b y);
    control = control_stands;
    sizes = λ n s. by_number n s (or_cases (n == 4) (n == 11) s);
  } where
    by_number : (n : ℕ) → is_system_directory n ≡ true → ((n == 4) ≡ true) ⊎ ((n == 11) ≡ true) → dir_fault p n ≢ Some (finding.DirSize n)
    by_number n s (inl four) = let e = eqb-true n 4 four in sized_still n s (omega arith) (omega arith)
    by_number n s (inr last) = let e = eqb-true n 11 last in sized_still n s (omega arith) (omega arith)

  -- ---- sound files

  -- a sound file that is not marked keeps its blocks
  body_stays : (n : ℕ) (f : File) → IsNumber v n → is_sound v n ≡ true → slot_of v n ≡ Used f → f.marked ≡ false → body p n ≡ body v n
  body_stays n f is s e m = body_same home first first now n refl (same_told n file).told (λ l t. k.others l (kept_behind home first within system n l file not_first t) (still l t)) where
    file : IsKeptFile v n
    file = sound_kept_file home first within system n is s

    not_first : n ≢ 1
    not_first one = let above = (sound_parts v n s).above in omega arith

    unmarked : is_remade v n ≡ true → ⊥
    unmarked r = elim (remade_kinds v n r) [
      | inl main ↦ (let above = (sound_parts v n s).above in omega arith)
      | inr more ↦ elim more [
        | inl lost ↦ (let above = (sound_parts v n s).above in omega arith)
        | inr marked ↦ by_mark marked.1
      ]
    ] where
      by_mark : is_marked_for (fields v n) ≡ true → ⊥
      by_mark t =
          let c = cut_parts v n (sound_parts v n s).cut in
          let both : (c.header.dir && c.header.marked) ≡ true = sym (ap is_marked_for c.used) ∙ t in
          let slots : Used (file_of home.cluster n c.header (body v n)) ≡ Used f = sym (slot_used v n c.header c.used) ∙ e in
          let files : file_of home.cluster n c.header (body v n) ≡ f = cc in
          let z : true ≡ false = sym (and_parts c.header.dir c.header.marked both).1 ∙ ap (λ (x : File). x.marked) files ∙ m in
          absurd (cc)

    still : (l : ℕ) → Has (places v n) l → IsTouchable v l → ⊥
    still l t u =
        let above = (sound_parts v n s).above in
        elim (touched_in home first within system n l file t u) [
          | inl d ↦ unmarked d
          | inr more ↦ elim more [
            | inl r ↦ omega arith
            | inr b ↦ elim b [ inl index ↦ (let z = index.0 in omega arith) | inr storage ↦ (let z = storage.0 in omega arith) ]
          ]
        ]

  -- and stays sound
  still_sound : (n : ℕ) → IsNumber v n → is_sound v n ≡ true → body p n ≡ body v n → is_sound p n ≡ true
  still_sound n is s blocks =
      let parts = sound_parts v n s in
      let same = same_told n (sound_kept_file home first within system n is s) in
      let cut = cut_stays n same parts.cut in
      sound_from p n (record {
        above = parts.above;
        cut = cut;
        inside = runs_off_same home first now k.freed.count n same.told ∙ parts.inside;
        dir = dir_stays home first now n same blocks ∙ parts.dir;
        unshared = λ q lt t.
            let before = parts.unshared q (file_in_total v n q parts.inside (sym (in_file_same home first now q n same.told) ∙ t)) (sym (in_file_same home first now q n same.told) ∙ t) in
            let less = times_stay home first now within system k.freed q in
            let some = cut_counts p q n cut t in
            let all = times_some p q n (record { from = is.from; to = is.to }) in
            omega arith;
      })

  slot_stays : (n : ℕ) (f : Hdr) → fields v n ≡ Some f → fields p n ≡ fields v n → body p n ≡ body v n → slot_of p n ≡ slot_of v n
  slot_stays n f e same blocks = slot_used p n f (same ∙ e) ∙ ap (λ (bs : List Block). Used (file_of home.cluster n f bs)) blocks ∙ sym (slot_used v n f e)

  pub is_still : (n : ℕ) (f : File) → IsNumber v n → is_sound v n ≡ true → slot_of v n ≡ Used f → f.marked ≡ false → IsStill p n f
  is_still n f is s e m =
      let blocks = body_stays n f is s e m in
      let same = same_told n (sound_kept_file home first within system n is s) in
      let c = cut_parts v n (sound_parts v n s).cut in
      record { sound = still_sound n is s blocks; same = ap bare (slot_stays n c.header c.used same.fields blocks ∙ e) }

pub touched_keeps : TouchedKeeps
touched_keeps home first now m k = record {
  home = home;
  read = read;
  cluster = refl;
  numbers = refl;
  none = λ f b. none_beyond (volume home now) (system_now home first now m.within m.system k) f (subst (λ (r : Result Home HomeFault). IsBeyondBy now r f) read b);
  files = λ n f is s e unmarked. inl (is_still home first now m.within m.system k n f is s e unmarked);
} where
  read : home_read (home_at now) ≡ Ok home
  read = ap home_read (home_same home first m.within m.system now k) ∙ m.read
