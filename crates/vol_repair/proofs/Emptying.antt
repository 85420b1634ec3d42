-- A directory that a repair remakes gets the blocks that it is to have, and each other file that is kept has its own.
use Rattle.std.proofs.Common.{◌≡◌, ◌≢◌, ◌∙◌, ◌<◌, ◌≤◌, ◌+◌, ◌-◌, ℕ, Bool, true, false, not, List, [], ◌∷◌, Option, Some, None, length, map, take, append-nil, slice_get, slice_set, refl, sym, ap, subst, inl, inr, arith}
use Rattle.std.specs.Prelude.{◌==◌, ◌&&◌, ◌||◌, is_none, Ok}
use Rattle.std.specs.List.{range_with_len}
use Rattle.std.proofs.lemmas.Bool.{and_parts, and_from, or_left, or_right, eqb-true, eq-eqb, cases_Bool}
use Rattle.base_words.specs.Fields.{Block, AreWholeBlocks}
use Rattle.base_words.specs.Lists.{Has, written, Touches}
use Rattle.base_words.proofs.Listing.{same_or_not, place_of}
use Rattle.base_words.proofs.ListWrites.{length-written}
use Rattle.fx_home.specs.declared.home.Home.{Home}
use Rattle.fx_home.specs.Homes.{IsWithinLimits}
use Rattle.fx_header.specs.declared.run.Run.{Run}
use Rattle.fx_header.specs.declared.slot.Hdr.{Hdr}
use Rattle.fx_header.specs.Pointers.{lbns_in}
use Rattle.fx_dir.specs.declared.RawEnt.{RawEnt}
use Rattle.fx_dir.specs.Directory.{directory}
use Rattle.vol_parts.specs.declared.finding.Finding.TheVariants as finding
use Rattle.vol_parts.specs.Volumes.{Volume, volume, IsNumber, factor, block_at, fields, Told, told, runs, first_lbn, body}
use Rattle.vol_parts.specs.Catalogues.{plain_entries}
use Rattle.vol_parts.specs.Conditions.{HasRunsInside}
use Rattle.vol_parts.specs.Fatal.{is_one_header, is_cluster_run, has_dir_size, dir_fault}
use Rattle.vol_faults.specs.Conditions.{has_run_off}
use Rattle.vol_init.specs.Layouts.{main_entries}
use Rattle.vol_sound.specs.Sound.{is_sound}
use Rattle.vol_sound.specs.Begun.{has_own_entry, lacks_entry}
use Rattle.vol_sound.specs.Kept.{is_marked_for, is_marked_directory}
use Rattle.vol_sound.specs.Freeing.{HasSystem, IsSameTold}
use Rattle.vol_sound.proofs.Cuts.{IsCut, cut_parts, IsSound, sound_parts}
use Rattle.vol_sound.proofs.Freed.{system_stays, sound_stays}
use Rattle.vol_sound.proofs.Bodies.{map_same, dir_stays}
use Rattle.vol_sound.proofs.Settled.{no_bad_runs}
use Rattle.vol_sound.proofs.KeptFiles.{sized, IsSystemHeader, system_fields, main_listed}
use Rattle.vol_repair.specs.Touched.{places, is_remade, IsDirPlace, IsTouched, IsGround}
use Rattle.vol_repair.specs.Laws.{TouchingIsEasy}
use Rattle.vol_repair.specs.Remaking.{laid, lacks_some, Becomes, IsWanted, IsHeld, GotTo, IsRight, IsNext, IsRemade}
use Rattle.vol_repair.proofs.Places.{in_blocks, IsKeptFile, kept_apart, kept_on}
use Rattle.vol_repair.proofs.Laying.{laid_has, laid_touches, same_elsewhere, laid_there, through_all, through_some}

-- ---- one directory

-- the blocks of a file are one cluster in one run, on the volume
pub record IsOneCluster (v : Volume) (n : ℕ) : Type 0 where
  pub run : Run
  pub alone : runs v n ≡ run ∷ []
  pub long : run.count ≡ factor v
  pub on : run.lbn + run.count ≤ length v.blocks

cluster_run : (c : ℕ) (rs : List Run) → is_cluster_run c rs ≡ true → (r : Run) × (rs ≡ r ∷ []) × (r.count ≡ c)
cluster_run c [] e = absurd (let f : false ≡ true = e in cc)
cluster_run c (r ∷ []) e = (r, refl, eqb-true r.count c e)
cluster_run c (r ∷ q ∷ rs) e = absurd (let f : false ≡ true = e in cc)

-- a directory that a repair may write
pub record IsAble (v : Volume) (n : ℕ) : Type 0 where
  pub one : IsOneCluster v n
  pub remade : is_remade v n ≡ true
  pub held : IsHeld v n

-- Whether the file of a number is to have other blocks, and with which entries. If so, it is a directory that a repair may write. With
-- such blocks it is right.
pub record IsTask (v p : Volume) (n : ℕ) (o : Option (List Block)) : Type 0 where
  pub changes : Bool
  pub entries : List RawEnt
  pub becomes : Becomes p n changes entries o
  pub able : changes ≡ true → IsAble v n
  pub right : (x : List Block) → GotTo changes entries (body v n) x → IsRight v n x

got_none : (b : Bool) (es : List RawEnt) (old new : List Block) → new ≡ old → (b ≡ true → directory new ≡ Ok es) → GotTo b es old new
got_none false es old new same listed = same
got_none true es old new same listed = listed refl

got_some : (b : Bool) (es : List RawEnt) (old new : List Block) → b ≡ true → directory new ≡ Ok es → GotTo b es old new
got_some false es old new e listed = absurd (let f : false ≡ true = e in cc)
got_some true es old new e listed = listed

-- a master file directory lacks an entry where its blocks list none
lacks_so : (v : Volume) (f : Hdr) → 4 ≤ v.home.files → fields v 4 ≡ Some f → f.dir ≡ true → lacks_entry v ≡ lacks_some (plain_entries (directory (body v 4)))
unfolding lacks_entry has_own_entry
lacks_so v f four e d = ap lacks_some (main_listed v f four e d)

-- ---- files that are kept

module _ (home : Home) (first now : List Block) (within : IsWithinLimits home) (ground : IsGround home first now) where
  abbrev v : Volume
  v = volume home first

  abbrev p : Volume
  p = volume home now

  abbrev system : HasSystem v
  system = ground.system

  -- of a file that is kept the same is told
  pub held_told : (n : ℕ) → IsNumber v n → IsHeld v n → IsSameTold v p n
  held_told n is (inl low) = system_stays home first now within system ground.touched.freed n is.from low.1
  held_told n is (inr s) = sound_stays home first now within system ground.touched.freed n is s

  pub runs_still : (n : ℕ) → IsNumber v n → IsHeld v n → runs p n ≡ runs v n
  unfolding runs
  runs_still n is held = ap (λ (t : Told). t.runs) (held_told n is held).told

  -- its blocks are those at its first places
  pub body_at : (n : ℕ) → IsNumber v n → IsHeld v n → body p n ≡ map (block_at p) (places v n)
  unfolding body
  body_at n is held = ap (λ rs. map (block_at p) (lbns_in rs)) (runs_still n is held)

  pub runs_inside : (n : ℕ) → IsNumber v n → HasRunsInside p n
  unfolding has_run_off
  runs_inside n is = record { inside = no_bad_runs home first now within system ground.freed n is }

  held_kept : (n : ℕ) → IsNumber v n → IsHeld v n → IsKeptFile v n
  held_kept n is held = record { number = is; kind = elim held [ inl low ↦ inl low.1 | inr s ↦ inr s ] }

  -- a directory that has the size of one has one cluster
  one_cluster : (n : ℕ) (f : Hdr) → IsNumber v n → IsHeld v n → fields v n ≡ Some f → f.dir ≡ true → dir_fault v n ≢ Some (finding.DirSize n) → IsOneCluster v n
  one_cluster n f is held e d right =
      let t = and_parts (is_one_header f (told v n)) (has_dir_size home.cluster f (runs v n)) (sized v n f e d right) in
      let s = and_parts (is_cluster_run home.cluster (runs v n)) ((f.mark == 0) && ((f.end == home.cluster + 1) && (f.byte == 0))) t.1 in
      let h = cluster_run home.cluster (runs v n) s.0 in
      let r = h.0 in
      let low = within.cluster_low in
      let long = h.2 in
      let last = kept_on home first within system n (r.lbn + r.count - 1) (held_kept n is held) (in_blocks (runs v n) 0 (r.lbn + r.count - 1) r (ap (λ xs. slice_get xs 0) h.1) (omega arith) (omega arith)) in
      record { run = r; alone = h.1; long = long; on = omega arith }

  abbrev four : 4 ≤ home.files
  four = let f = within.files_low in omega arith

  -- ---- what is wanted of a file

  module _ (sound : Bool) (n : ℕ) (o : Option (List Block)) (next : IsNext home first sound n now) (wanted : IsWanted p sound n o) where
    main_task : n ≡ 4 → IsTask v p n o
    main_task four_is =
        let held : IsHeld v n = inl (omega arith, omega arith) in
        let h : IsSystemHeader v n = system_fields v n (system.files.sound n next.number.from (omega arith)) in
        let dir : h.header.dir ≡ true = h.dir ∙ or_left (n == 4) (n == 11) (eq-eqb n 4 four_is) in
        let main : lacks_entry v ≡ lacks_some (plain_entries (directory (body v n))) = subst (λ (k : ℕ). fields v k ≡ Some h.header → lacks_entry v ≡ lacks_some (plain_entries (directory (body v k)))) (sym four_is) (λ e. lacks_so v h.header four e dir) h.used in
        record {
          changes = lacks_entry v;
          entries = main_entries;
          becomes = subst (λ b. Becomes p n b main_entries o) (ap (λ bs. lacks_some (plain_entries (directory bs))) (next.still held) ∙ sym main) (wanted.main four_is);
          able = λ _. record { one = one_cluster n h.header next.number held h.used dir (system.sizes n (or_left (n == 4) (n == 11) (eq-eqb n 4 four_is))); remade = or_left (n == 4) _ (eq-eqb n 4 four_is); held = held };
          right = λ x got. record { main = λ _. got; lost = λ e. absurd (omega arith); marked = λ s. let above = (sound_parts v n s).above in absurd (omega arith) };
        }

    lost_task : n ≡ 11 → IsTask v p n o
    lost_task last =
        let held : IsHeld v n = inl (omega arith, omega arith) in
        let h : IsSystemHeader v n = system_fields v n (system.files.sound n next.number.from (omega arith)) in
        let right : (n == 4) || (n == 11) ≡ true = or_right (n == 4) (n == 11) (eq-eqb n 11 last) in
        let same = dir_stays home first now n (held_told n next.number held) (next.still held) in
        record {
          changes = not (is_none (dir_fault v n));
          entries = [];
          becomes = subst (λ b. Becomes p n b [] o) (ap (λ f. not (is_none f)) same) (wanted.lost last);
          able = λ _. record { one = one_cluster n h.header next.number held h.used (h.dir ∙ right) (system.sizes n right); remade = or_right (n == 4) _ (or_left (n == 11) _ (eq-eqb n 11 last)); held = held };
          right = λ x got. record { main = λ e. absurd (omega arith); lost = λ _. got; marked = λ s. let above = (sound_parts v n s).above in absurd (omega arith) };
        }

    marked_task : n ≢ 4 → n ≢ 11 → is_sound v n ≡ true → IsTask v p n o
    marked_task ne nl s = record {
      changes = is_marked_directory v n;
      entries = [];
      becomes = subst (λ b. Becomes p n b [] o) (ap is_marked_for (held_told n next.number (inr s)).fields) (wanted.marked ne nl (next.flag ∙ s));
      able = λ m. record { one = one m; remade = or_right (n == 4) _ (or_right (n == 11) _ (and_from (is_sound v n) (is_marked_directory v n) s m)); held = inr s };
      right = λ x got. record { main = λ e. absurd (ne e); lost = λ e. absurd (nl e); marked = λ _. got };
    } where
      parts : IsSound v n
      parts = sound_parts v n s

      c : IsCut v n
      c = cut_parts v n parts.cut

      sized_so : dir_fault v n ≢ Some (finding.DirSize n)
      sized_so e = let z : None ≡ Some (finding.DirSize n) = sym parts.dir ∙ e in absurd (cc)

      one : is_marked_directory v n ≡ true → IsOneCluster v n
      one m = one_cluster n c.header next.number (inr s) c.used (and_parts c.header.dir c.header.marked (sym (ap is_marked_for c.used) ∙ m)).0 sized_so

    other_task : n ≢ 4 → n ≢ 11 → is_sound v n ≡ false → IsTask v p n o
    other_task ne nl s = record {
      changes = false;
      entries = [];
      becomes = subst (λ q. Becomes p n false [] q) (sym (wanted.other ne nl (next.flag ∙ s))) (λ e. absurd (let f : false ≡ true = e in cc));
      able = λ e. absurd (let f : false ≡ true = e in cc);
      right = λ x got. record { main = λ e. absurd (ne e); lost = λ e. absurd (nl e); marked = λ e. absurd (let f : true ≡ false = sym e ∙ s in cc) };
    }

    pub task : IsTask v p n o
    task = elim (same_or_not n 4) [
      | inl main ↦ main_task main
      | inr ne ↦ elim (same_or_not n 11) [
        | inl last ↦ lost_task last
        | inr nl ↦ elim (cases_Bool (is_sound v n)) [ inl s ↦ marked_task ne nl s | inr s ↦ other_task ne nl s ]
      ]
    ]

-- ---- what was found to be wanted

-- the task, where what is wanted is told of the same blocks, and otherwise
pub task_by : (home : Home) (first all now : List Block) (sound : Bool) (n : ℕ) (o q : Option (List Block)) → IsWithinLimits home → IsNext home first sound n now → all ≡ now → o ≡ q → IsWanted (volume home all) sound n o
    → IsTask (volume home first) (volume home now) n q
task_by home first all now sound n o q within next e f w =
    task home first now within next.ground sound n q next (subst (λ (xs : List Block). IsWanted (volume home xs) sound n q) e (subst (λ (k : Option (List Block)). IsWanted (volume home all) sound n k) f w))

pub task_found : (home : Home) (first all now : List Block) (sound : Bool) (n : ℕ) (o : Option (List Block)) (items bs : List Block) → IsWithinLimits home → IsNext home first sound n now → all ≡ now → o ≡ Some items → bs ≡ items
    → IsWanted (volume home all) sound n o → IsTask (volume home first) (volume home now) n (Some bs)
task_found home first all now sound n o items bs within next e f same w = task_by home first all now sound n o (Some bs) within next e (f ∙ ap (λ (x : List Block). Some x) (sym same)) w

-- the place where a file begins, told of the same blocks
pub begins_by : (home : Home) (all now : List Block) (n lbn : ℕ) → all ≡ now → lbn ≡ first_lbn (runs (volume home all) n) → lbn ≡ first_lbn (runs (volume home now) n)
begins_by home all now n lbn e is = is ∙ ap (λ (xs : List Block). first_lbn (runs (volume home xs) n)) e

-- ---- a directory that stays

-- a file that gets no blocks is right, and nothing changes
pub stays_remade : (home : Home) (first now : List Block) (sound : Bool) (n : ℕ) → IsNext home first sound n now → IsTask (volume home first) (volume home now) n None → IsRemade home first n now now
stays_remade home first now sound n next t = record {
  ground = next.ground;
  right = λ held. t.right (body (volume home now) n) (got_none t.changes t.entries (body (volume home first) n) (body (volume home now) n) (next.still held) t.becomes);
  rest = λ k is held ne. refl;
  others = record { count = refl; others = λ l never. refl };
}

-- ---- a directory that is written

module _ (easy : TouchingIsEasy) (home : Home) (first now : List Block) (within : IsWithinLimits home) (sound : Bool) (n lbn : ℕ) (bs : List Block)
    (next : IsNext home first sound n now) (t : IsTask (volume home first) (volume home now) n (Some bs)) (begins : lbn ≡ first_lbn (runs (volume home now) n)) where
  able : IsAble (volume home first) n
  able = t.able t.becomes.0

  r : Run
  r = able.one.run

  -- the blocks are laid down where the directory is
  begins_so : lbn ≡ r.lbn
  unfolding r
  begins_so = begins ∙ (ap first_lbn (runs_still home first now within next.ground n next.number able.held) ∙ ap first_lbn able.one.alone)

  as_long : length bs ≡ r.count
  unfolding r
  as_long = t.becomes.1 ∙ sym able.one.long

  pub fits : lbn + length bs ≤ length now
  unfolding r
  fits =
      let count = next.ground.touched.freed.count in
      let on = able.one.on in
      let a = begins_so in
      let b = as_long in
      omega arith

  dir_place : (l : ℕ) → lbn ≤ l → l < lbn + length bs → Has (places (volume home first) n) l
  unfolding r
  dir_place l lo hi =
      let a = begins_so in
      let b = as_long in
      in_blocks (runs (volume home first) n) 0 l r (ap (λ xs. slice_get xs 0) able.one.alone) (omega arith) (omega arith)

  is_dir_place : (l : ℕ) → lbn ≤ l → l < lbn + length bs → IsDirPlace (volume home first) l
  is_dir_place l lo hi = record { dir = n; number = next.number; remade = able.remade; block = dir_place l lo hi }

  -- after each number of the writes no more is touched than may be
  pub touched_through : (k : ℕ) → IsTouched home first (written (take k (laid lbn bs)) now)
  touched_through k = through_some (λ x. IsTouched home first x) (laid lbn bs) now each next.ground.touched k where
    each : (w : ℕ × Block) (x : List Block) → Has (laid lbn bs) w → IsTouched home first x → IsTouched home first (slice_set x w.0 w.1)
    each w x has so = let h = laid_has lbn bs w has in easy.touch home first x w.0 w.1 within next.ground.system so (inl (is_dir_place w.0 h.0 h.1))

  ground_behind : AreWholeBlocks bs → IsGround home first (written (laid lbn bs) now)
  ground_behind whole = through_all (λ x. IsGround home first x) (laid lbn bs) now each next.ground where
    each : (w : ℕ × Block) (x : List Block) → Has (laid lbn bs) w → IsGround home first x → IsGround home first (slice_set x w.0 w.1)
    each w x has so =
        let h = laid_has lbn bs w has in
        let at = place_of bs w.1 h.2 in
        easy.ground home first x w.0 w.1 within so (inl (is_dir_place w.0 h.0 h.1)) (whole at.0 w.1 at.1)

  module _ (whole : AreWholeBlocks bs) where
    -- the directory has these blocks
    body_new : body (volume home (written (laid lbn bs) now)) n ≡ bs
    unfolding r
    body_new =
        let at = body_at home first (written (laid lbn bs) now) within (ground_behind whole) n next.number able.held in
        let one : places (volume home first) n ≡ range_with_len lbn (length bs) = ap lbns_in able.one.alone ∙ (append-nil (range_with_len r.lbn r.count) ∙ (λ i. range_with_len (sym begins_so i) (sym as_long i))) in
        at ∙ (ap (map (block_at (volume home (written (laid lbn bs) now)))) one ∙ laid_there lbn bs now fits)

    -- each other file that is kept has its own
    body_other : (k : ℕ) → IsNumber (volume home first) k → IsHeld (volume home first) k → n ≢ k → body (volume home (written (laid lbn bs) now)) k ≡ body (volume home now) k
    body_other k is held ne =
        body_at home first (written (laid lbn bs) now) within (ground_behind whole) k is held
        ∙ (map_same (block_at (volume home (written (laid lbn bs) now))) (block_at (volume home now)) (places (volume home first) k) (λ l here. same_elsewhere (laid lbn bs) now l (apart l here))
        ∙ sym (body_at home first now within next.ground k is held))
      where
        apart : (l : ℕ) → Has (places (volume home first) k) l → Touches (laid lbn bs) l → ⊥
        apart l here u =
            let h = laid_touches lbn bs l u in
            ne (kept_apart home first within next.ground.system n k l (held_kept home first now within next.ground n next.number able.held) (held_kept home first now within next.ground k is held) (dir_place l h.0 h.1) here)

    pub written_remade : IsRemade home first n now (written (laid lbn bs) now)
    written_remade = record {
      ground = ground_behind whole;
      right = λ held. t.right _ (got_some t.changes t.entries (body (volume home first) n) (body (volume home (written (laid lbn bs) now)) n) t.becomes.0 (ap directory body_new ∙ t.becomes.2));
      rest = body_other;
      others = record {
        count = length-written (laid lbn bs) now;
        others = λ l never. same_elsewhere (laid lbn bs) now l (λ u. let h = laid_touches lbn bs l u in never (is_dir_place l h.0 h.1));
      };
    }
