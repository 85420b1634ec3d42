-- Blocks that mend to what the patched catalogue mends to keep what was sound, but for an empty lost file that has no room.
use Rattle.std.proofs.Common.{◌≡◌, ◌∙◌, ◌≤◌, ◌-◌, ◌&&◌, ◌||◌, ◌⊎◌, ℕ, Bool, true, false, cond, not, List, [], ◌∷◌, Option, Some, None, length, slice_get, refl, sym, ap, subst, inl, inr, arith}
use Rattle.std.specs.Prelude.{option_map, option_and_then, unwrap_or, Result, Ok, Err}
use Rattle.std.proofs.lemmas.Bool.{and_from, cases_Bool}
use Rattle.std.proofs.lemmas.List.{length-set, length-map}
use Rattle.std.proofs.lemmas.List.FromFn.{length-map-range_with_len}
use Rattle.base_words.specs.Fields.{Block}
use Rattle.base_words.specs.Lists.{Has}
use Rattle.fx_home.specs.declared.home.Home.{Home}
use Rattle.fx_home.specs.declared.home.HomeFault.{HomeFault}
use Rattle.fx_home.specs.Homes.{home_read}
use Rattle.plain_cat.specs.declared.ids.Fid.{Fid}
use Rattle.plain_cat.specs.declared.cat.Cat.{Cat}
use Rattle.plain_cat.specs.declared.cat.File.{File}
use Rattle.plain_cat.specs.declared.cat.Slot.{Slot}
use Rattle.plain_cat.specs.declared.cat.Slot.TheVariants.{Used}
use Rattle.plain_cat.specs.declared.history.Mended.{Mended}
use Rattle.plain_rules.specs.Lookups.{file_at}
use Rattle.plain_rules.specs.Mending.{without_opens, stripped, is_empty, is_named, lost, less_entries, enter, enter_all, enter_some, with_lost, is_gone, gone_slot, put_right, mended}
use Rattle.plain_rules.proofs.Standing.{stands_at}
use Rattle.plain_rules.proofs.MendSteps.{each_length}
use Rattle.plain_laws.proofs.Standing.{file_from}
use Rattle.plain_laws.proofs.Places.{Names, names_from, names_to}
use Rattle.plain_laws.proofs.Steps.{Like, SameFiles, like_left, like_right, less_same, Entered, entered_in, both_from, kept_from, kept_to, mends_from}
use Rattle.plain_laws.proofs.ClearSteps.{kept_same, kept_in}
use Rattle.plain_mends.proofs.FullSteps.{shape_by}
use Rattle.plain_mends.proofs.SlotSteps.{lost_has}
use Rattle.vol_parts.specs.Volumes.{Volume, volume, IsNumber, factor}
use Rattle.vol_parts.specs.Catalogues.{slot_of, files_of, catalogue}
use Rattle.vol_parts.specs.Findings.{home_at, IsFatalBy, IsCatalogueBy}
use Rattle.vol_mends.specs.Mends.{Mends}
use Rattle.vol_sound.specs.Sound.{is_sound}
use Rattle.vol_sound.specs.Begun.{begun_slot, begun_files, begun, with_owners, without_own, without_loops, patched}
use Rattle.vol_sound.proofs.Cuts.{sound_parts}
use Rattle.vol_repair.specs.Alike.{bare, IsSameBut}
use Rattle.vol_repair.specs.Keeping.{IsStill, IsLeftOut, KeepsSound}
use Rattle.vol_repair.specs.Laws.{IsMendable, MendingKeeps}
use Rattle.vol_repair.proofs.Besides.{AreBeside, none_beyond}
use Rattle.vol_repair.proofs.SlotsAlike.{bare_file, IsUsed, used_in, patched_alike}
use Rattle.vol_repair.proofs.AlikeKeeping.{systems_alike, sound_alike, still_there}
use Rattle.plain_laws.proofs.ClearSteps.{lost_named}

-- ---- the cluster factor and the number of files stay

record IsSized (c d : Cat) : Type 0 where
  factor : d.factor ≡ c.factor
  count : length d.files ≡ length c.files

sized_same : (c : Cat) → IsSized c c
sized_same c = record { factor = refl; count = refl }

sized_on : (c d e : Cat) → IsSized c d → IsSized d e → IsSized c e
sized_on c d e a b = record { factor = b.factor ∙ a.factor; count = b.count ∙ a.count }

enter_sized : (x : Cat) (n : ℕ) (y : Cat) → enter x n ≡ Some y → IsSized x y
enter_sized x n y h =
    let s = shape_by x n y h in
    record { factor = ap (λ (z : Cat). z.factor) s.is; count = ap (λ (z : Cat). length z.files) s.is ∙ length-set x.files 10 _ }

all_sized : (ns : List ℕ) (x y : Cat) → enter_all ns x ≡ Some y → IsSized x y
all_sized [] x y h = let same : x ≡ y = cc h in subst (λ (z : Cat). IsSized x z) same (sized_same x)
all_sized (n ∷ ns) x y h = by_one (enter x n) refl h (λ z k. all_sized ns z y k) where
  by_one : (o : Option Cat) → enter x n ≡ o → option_and_then (enter_all ns) o ≡ Some y → ((z : Cat) → enter_all ns z ≡ Some y → IsSized z y) → IsSized x y
  by_one None at k rest = absurd (let z : None ≡ Some y = k in cc)
  by_one (Some z) at k rest = sized_on x z y (enter_sized x n z at) (rest z k)

some_sized : (ns : List ℕ) (x : Cat) → IsSized x (enter_some ns x)
some_sized [] x = sized_same x
some_sized (n ∷ ns) x = sized_on x (unwrap_or (enter x n) x) (enter_some ns (unwrap_or (enter x n) x)) (by_one (enter x n) refl) (some_sized ns (unwrap_or (enter x n) x)) where
  by_one : (o : Option Cat) → enter x n ≡ o → IsSized x (unwrap_or o x)
  by_one None at = sized_same x
  by_one (Some z) at = enter_sized x n z at

lost_sized : (a b : Cat) → with_lost a ≡ Some b → IsSized a b
lost_sized a b h =
    let t = both_from a b h in
    subst (λ (z : Cat). IsSized a z) t.second
    (sized_on a t.middle (enter_some (lost a true) t.middle) (all_sized (lost a false) a t.middle t.first) (some_sized (lost a true) t.middle))

mended_sized : (c d : Cat) (m : Mended) → mended c ≡ Some (d, m) → IsSized c d
mended_sized c d m h =
    let s = mends_from c d m h in
    let a : IsSized c (stripped c) = record { factor = refl; count = each_length (less_entries (without_opens c)) 1 c.files } in
    let b = lost_sized (stripped c) s.middle s.entered in
    let r : IsSized s.middle (put_right s.middle) = record { factor = refl; count = each_length (gone_slot s.middle) 1 s.middle.files } in
    subst (λ (z : Cat). IsSized c z) s.last (sized_on c s.middle (put_right s.middle) (sized_on c (stripped c) s.middle a b) r)

-- ---- the files that mending leaves

-- each is one that was there, but for its entries
left_was : (c d : Cat) (m : Mended) (n : ℕ) (f : File) → mended c ≡ Some (d, m) → file_at d n ≡ Some f → Like c n f
left_was c d m n f h at =
    let s = mends_from c d m h in
    let k = kept_from s.middle n f (ap (λ (z : Cat). file_at z n) s.last ∙ at) in
    let same : SameFiles c s.middle = λ i. less_same (without_opens c) i ∙ kept_same (stripped c) s.middle s.entered i in
    like_left c s.middle n f same k.0

-- ---- the files that go

kept_names : (a b : Cat) (fid : Fid) → with_lost a ≡ Some b → Names a fid → Names b fid
kept_names a b fid h n = record { place = n.place; within = kept_in a b n.place h n.within; same = n.same }

entered_names : (x y : Cat) (k : ℕ) (fid : Fid) → Entered x y k → Names x fid → Names y fid
entered_names x y k fid e n = record { place = n.place; within = entered_in x y k e n.place n.within; same = n.same }

fid_is : (x : Fid) (k m s t : ℕ) → x ≡ record { num = k; seq = s } → k ≡ m → s ≡ t → x ≡ record { num = m; seq = t }
fid_is x k m s t h e f = h ∙ (ap (λ (n : ℕ). record { num = n; seq = s }) e ∙ ap (λ (q : ℕ). record { num = m; seq = q }) f)

-- a file that goes though it is not marked for delete is lost and empty
module _ (c d : Cat) (m : Mended) (n : ℕ) (f : File) (h : mended c ≡ Some (d, m)) (directory : (g : File) → file_at c 11 ≡ Some g → g.dir ≡ true)
    (at : file_at c n ≡ Some f) (unmarked : f.marked ≡ false) (out : file_at d n ≡ None) where
  abbrev a : Cat
  a = stripped c

  abbrev middle : Cat
  middle = (mends_from c d m h).middle

  entered : with_lost a ≡ Some middle
  entered = (mends_from c d m h).entered

  last : put_right middle ≡ d
  last = (mends_from c d m h).last

  directory_on : (g : File) → file_at a 11 ≡ Some g → g.dir ≡ true
  directory_on g there =
      let l = like_left c a 11 g (less_same (without_opens c)) there in
      ap (λ (z : File). z.dir) (sym l.same) ∙ directory l.file l.at

  before : Like a n f
  before = like_right c a n f (less_same (without_opens c)) at

  after : Like middle n f
  after = like_right c middle n f (λ i. less_same (without_opens c) i ∙ kept_same a middle entered i) at

  goes : is_gone middle n after.file ≡ true
  goes = elim (cases_Bool (is_gone middle n after.file)) [
    | inl gone ↦ gone
    | inr stays ↦ absurd (let z : Some after.file ≡ None = sym (kept_to middle n after.file after.at stays) ∙ ap (λ (y : Cat). file_at y n) last ∙ out in cc)
  ]

  seqs : before.file.seq ≡ after.file.seq
  seqs = ap (λ (z : File). z.seq) before.same ∙ ap (λ (z : File). z.seq) (sym after.same)

  unnamed : Names middle (record { num = n; seq = before.file.seq }) → ⊥
  unnamed named =
      let free : after.file.marked ≡ false = ap (λ (z : File). z.marked) after.same ∙ unmarked in
      let has : is_named middle (record { num = n; seq = after.file.seq }) ≡ true =
      names_to middle (record { num = n; seq = after.file.seq }) (subst (λ (q : ℕ). Names middle (record { num = n; seq = q })) seqs named) in
      let none : is_gone middle n after.file ≡ false = ap (λ b. b || not (is_named middle (record { num = n; seq = after.file.seq }))) free ∙ ap not has in
      let both : false ≡ true = sym none ∙ goes in
      cc both

  missing : is_named a (record { num = n; seq = before.file.seq }) ≡ false
  missing = elim (cases_Bool (is_named a (record { num = n; seq = before.file.seq }))) [
    | inl named ↦ absurd (unnamed (kept_names a middle (record { num = n; seq = before.file.seq }) entered (names_from a (record { num = n; seq = before.file.seq }) named)))
    | inr none ↦ none
  ]

  is_lost_one : not before.file.marked && not (is_named a (record { num = n; seq = before.file.seq })) ≡ true
  is_lost_one = and_from (not before.file.marked) _ (ap (λ (z : File). not z.marked) before.same ∙ ap not unmarked) (ap not missing)

  lost_by : (empty : Bool) → cond empty (is_empty before.file) (not (is_empty before.file)) ≡ true → Has (lost a empty) n
  lost_by empty passes = lost_has a empty n before.file before.at (and_from _ (cond empty (is_empty before.file) (not (is_empty before.file))) is_lost_one passes)

  left_out : Has (lost a true) n
  left_out = elim (cases_Bool (is_empty before.file)) [
    | inl empty ↦ lost_by true empty
    | inr full ↦ absurd (unnamed (lost_named a middle n before.file entered directory_on before.at (lost_by false (ap not full))))
  ]

-- ---- the home block

record IsHomeTold (now : List Block) (c : Cat) (r : Result Home HomeFault) : Type 0 where
  home : Home
  read : r ≡ Ok home
  told : c ≡ catalogue (volume home now)

home_told : (now : List Block) (c : Cat) (r : Result Home HomeFault) → IsCatalogueBy now r c → IsHomeTold now c r
home_told now c (Err fault) t = absurd t
home_told now c (Ok home) t = record { home = home; read = refl; told = t }

told_count : (w : Volume) → length (catalogue w).files ≡ w.home.files
unfolding catalogue files_of
told_count w = length-map-range_with_len (slot_of w) 1 w.home.files

told_factor : (w : Volume) → (catalogue w).factor ≡ factor w
unfolding catalogue
told_factor w = refl

begun_count : (v : Volume) → length (begun v).files ≡ v.home.files
unfolding begun begun_files
begun_count v = length-map-range_with_len (begun_slot v) 1 v.home.files

alike_count : (c d : Cat) → IsSameBut c d → length d.files ≡ length c.files
alike_count c d same = sym (length-map d.files bare) ∙ ap (λ (ss : List Slot). length ss) same ∙ length-map c.files bare

patched_count : (v : Volume) → length (patched v).files ≡ v.home.files
patched_count v = alike_count (begun v) (patched v) (patched_alike v) ∙ begun_count v

patched_factor : (v : Volume) → (patched v).factor ≡ factor v
unfolding patched with_owners without_loops without_own begun
patched_factor v = refl

-- ---- all

module _ (home : Home) (first now : List Block) (z : Cat) (done : Mended) (m : IsMendable home first) (mends : mended (patched (volume home first)) ≡ Some (z, done)) (k : Mends now z) where
  abbrev v : Volume
  v = volume home first

  there : IsHomeTold now k.cat (home_read (home_at now))
  there = home_told now k.cat (home_read (home_at now)) k.told.told

  abbrev w : Volume
  w = volume there.home now

  beside : AreBeside w
  beside f e = absurd (k.told.weak f (subst (λ (r : Result Home HomeFault). IsFatalBy now r f) (sym there.read) e))

  -- the catalogue of the blocks ends at the same one
  sized_now : IsSized k.cat z
  sized_now = mended_sized k.cat z k.ends.0 k.ends.1

  sized_first : IsSized (patched v) z
  sized_first = mended_sized (patched v) z done mends

  cluster : there.home.cluster ≡ home.cluster
  cluster = sym (told_factor w) ∙ ap (λ (c : Cat). c.factor) (sym there.told) ∙ sym sized_now.factor ∙ sized_first.factor ∙ patched_factor v

  numbers : there.home.files ≡ home.files
  numbers = sym (told_count w) ∙ ap (λ (c : Cat). length c.files) (sym there.told) ∙ sym sized_now.count ∙ sized_first.count ∙ patched_count v

  number : (n : ℕ) → IsNumber v n → IsNumber w n
  number n is =
      let from = is.from in
      let to : n ≤ home.files = is.to in
      let same = numbers in
      record { from = from; to = (let le : n ≤ there.home.files = omega arith in le) }

  directory : (g : File) → file_at (patched v) 11 ≡ Some g → g.dir ≡ true
  directory g at =
      let low = m.within.files_low in
      let s = systems_alike v (patched v) m.system (omega arith) (patched_alike v) 11 (omega arith) (omega arith) in
      let both : Some g ≡ Some s.0 = sym at ∙ s.1 in
      let same : g ≡ s.0 = cc both in
      ap (λ (f : File). f.dir) same ∙ s.2.dir

  kept : (n : ℕ) (f : File) → IsNumber v n → is_sound v n ≡ true → slot_of v n ≡ Used f → f.marked ≡ false → IsStill w n f ⊎ IsLeftOut v n
  kept n f is sound e unmarked = by_end (file_at z n) refl where
    u : IsUsed (slice_get (patched v).files (n - 1)) f
    u = used_in (slice_get (patched v).files (n - 1)) f (sound_alike v (patched v) n f (patched_alike v) is sound e unmarked)

    at : file_at (patched v) n ≡ Some u.file
    at = file_from (patched v) n u.file is.from u.at

    stays : (g : File) → file_at z n ≡ Some g → IsStill w n f
    stays g end =
        let a = left_was (patched v) z done n g mends end in
        let b = left_was k.cat z k.ends.0 n g k.ends.1 end in
        let both : Some a.file ≡ Some u.file = sym a.at ∙ at in
        let one : a.file ≡ u.file = cc both in
        let same : bare_file b.file ≡ bare_file f = ap bare_file (b.same ∙ sym a.same) ∙ ap bare_file one ∙ u.same in
        still_there w n f beside (number n is) (sound_parts v n sound).above
        (ap (λ (c : Cat). option_map bare (slice_get c.files (n - 1))) (sym there.told) ∙ ap (λ (o : Option Slot). option_map bare o) (stands_at k.cat n b.file b.at)
        ∙ ap (λ (x : File). Some (Used x)) same)

    by_end : (o : Option File) → file_at z n ≡ o → IsStill w n f ⊎ IsLeftOut v n
    by_end (Some g) end = inl (stays g end)
    by_end None end = inr (record {
      lost = left_out (patched v) z done n u.file mends directory at (ap (λ (x : File). x.marked) u.same ∙ unmarked) end;
      after = z;
      done = done;
      mends = mends;
      out = end;
    })

  keeps : KeepsSound v now
  keeps = record { home = there.home; read = there.read; cluster = cluster; numbers = numbers; none = none_beyond there.home now there.read beside; files = kept }

pub mending_keeps : MendingKeeps
mending_keeps home first now z done m mends k = keeps home first now z done m mends k
