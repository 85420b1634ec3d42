-- The runs of a file that is shown lie inside the whole clusters.
use Rattle.std.proofs.Common.{◌≡◌, ◌∙◌, ◌-◌, ℕ, Bool, true, false, List, Option, Some, None, slice_get, nat_le, refl, sym, ap, subst, inl, inr}
use Rattle.std.specs.Prelude.{◌==◌, ◌||◌, option_map, Result, Ok, if◌then◌else◌}
use Rattle.base_words.specs.Fields.{Block}
use Rattle.fx_home.specs.declared.home.Home.{Home}
use Rattle.fx_home.specs.declared.home.HomeFault.{HomeFault}
use Rattle.fx_home.specs.Homes.{home_read}
use Rattle.plain_cat.specs.declared.ids.Fid.{Fid}
use Rattle.plain_cat.specs.declared.cat.Cat.{Cat}
use Rattle.plain_cat.specs.declared.cat.File.{File}
use Rattle.plain_cat.specs.declared.cat.Slot.{Slot}
use Rattle.plain_cat.specs.declared.cat.Slot.TheVariants.{Used, Free}
use Rattle.plain_rules.specs.Lookups.{file_in, of_seq, in_use}
use Rattle.vol_parts.specs.Volumes.{Volume, volume, IsNumber}
use Rattle.vol_parts.specs.Conditions.{HasRunsInside}
use Rattle.vol_parts.specs.Findings.{home_at, IsFatalBy}
use Rattle.std.proofs.lemmas.Bool.{leb-true}
use Rattle.vol_faults.specs.Conditions.{has_run_off}
use Rattle.vol_analyze.proofs.Weakly.{runs-inside}
use Rattle.vol_sound.specs.Sound.{is_sound}
use Rattle.vol_sound.specs.Freeing.{HasSystem, seq_at}
use Rattle.vol_sound.specs.Begun.{is_kept_file, kept_slot, begun_slot, begun, patched}
use Rattle.vol_sound.proofs.Cuts.{sound_parts}
use Rattle.vol_repair.specs.Alike.{bare}
use Rattle.vol_repair.specs.Laws.{IsMendable}
use Rattle.vol_repair.proofs.SlotsAlike.{used_in, alike_at, begun_at}
use Rattle.vol_repair.proofs.Patched.{patched_alike}
use Rattle.vol_show.specs.Showing.{Shows, is_plain}

-- a slot with a file that is shown
at : (seq : ℕ) (o : Option Slot) → is_plain (of_seq seq (file_in o)) ≡ true → (f : File) × (o ≡ Some (Used f))
at seq None e = absurd (let z : false ≡ true = e in cc)
at seq (Some (Free q)) e = absurd (let z : false ≡ true = e in cc)
at seq (Some (Used f)) e = (f, refl)

slot_there : (c : Cat) (fid : Fid) → is_plain (in_use c fid) ≡ true → (f : File) × (slice_get c.files (fid.num - 1) ≡ Some (Used f))
slot_there c fid e = by (fid.num == 0) e where
  by : (b : Bool) → is_plain (of_seq fid.seq (file_in (if b then None else slice_get c.files (fid.num - 1)))) ≡ true → (f : File) × (slice_get c.files (fid.num - 1) ≡ Some (Used f))
  by true h = absurd (let z : false ≡ true = h in cc)
  by false h = at fid.seq (slice_get c.files (fid.num - 1)) h

-- it is one of a file that is kept
kept_is : (v : Volume) (n : ℕ) (g : File) → begun_slot v n ≡ Used g → is_kept_file v n ≡ true
unfolding begun_slot
kept_is v n g e = by (is_kept_file v n) e where
  by : (b : Bool) → (if b then kept_slot v n else Free (seq_at v n)) ≡ Used g → b ≡ true
  by true h = refl
  by false h = absurd (let z : Free (seq_at v n) ≡ Used g = h in cc)

kept_inside : (v : Volume) (n : ℕ) → HasSystem v → IsNumber v n → is_kept_file v n ≡ true → has_run_off v n ≡ false
unfolding is_kept_file
kept_inside v n system number e = by (nat_le n 11) refl e where
  by : (b : Bool) → nat_le n 11 ≡ b → (b || is_sound v n) ≡ true → has_run_off v n ≡ false
  by true low h = system.inside n number.from (leb-true n 11 low)
  by false high h = (sound_parts v n h).inside

some_is : (a b : Slot) → Some a ≡ Some b → a ≡ b
some_is a b e = cc

-- of the catalogue that a repair mends
salvaged_runs : (home : Home) (bs : List Block) (c : Cat) (fid : Fid) → IsMendable home bs → c ≡ patched (volume home bs) → is_plain (in_use c fid) ≡ true → IsNumber (volume home bs) fid.num
    → HasRunsInside (volume home bs) fid.num
unfolding has_run_off
salvaged_runs home bs c fid m same e number =
    let v = volume home bs in
    let there = slot_there (patched v) fid (subst (λ (x : Cat). is_plain (in_use x fid) ≡ true) same e) in
    let alike = alike_at (begun v) (patched v) (patched_alike v) (fid.num - 1) in
    let u = used_in (slice_get (begun v).files (fid.num - 1)) there.0 (sym alike ∙ ap (λ (o : Option Slot). option_map bare o) there.1) in
    let kept = kept_is v fid.num u.file (some_is (begun_slot v fid.num) (Used u.file) (sym (begun_at v fid.num number) ∙ u.at)) in
    record { inside = kept_inside v fid.num m.system number kept }

ok_is : (a b : Home) → (let r : Result Home HomeFault = Ok a in r ≡ Ok b) → a ≡ b
ok_is a b e = cc

-- of the catalogue that is shown
pub shown_runs : (bs : List Block) (c : Cat) (home : Home) (fid : Fid) → Ok home ≡ home_read (home_at bs) → Shows bs c → is_plain (in_use c fid) ≡ true → IsNumber (volume home bs) fid.num
    → HasRunsInside (volume home bs) fid.num
shown_runs bs c home fid e (inl cat) plain number =
    (runs-inside (volume home bs) (record { none = λ f h. cat.weak f (subst (λ (r : Result Home HomeFault). IsFatalBy bs r f) e h) })).inside fid.num number
shown_runs bs c home fid e (inr s) plain number =
    let same : s.patched.home ≡ home = ok_is s.patched.home home (sym s.patched.mendable.read ∙ sym e) in
    salvaged_runs home bs c fid (subst (λ (h : Home). IsMendable h bs) same s.patched.mendable) (s.patched.same ∙ ap (λ (h : Home). patched (volume h bs)) same) plain number
