-- Blocks that spell the files that a repair begins with keep what was sound, whatever the owners and the entries.
use Rattle.std.proofs.Common.{◌≡◌, ◌∙◌, ◌<◌, ◌≤◌, ◌-◌, ℕ, true, false, List, Option, Some, slice_get, refl, sym, ap, subst, inl, arith}
use Rattle.std.specs.Prelude.{option_map, Result, Ok, Err}
use Rattle.base_words.specs.Fields.{Block}
use Rattle.fx_home.specs.declared.home.Home.{Home}
use Rattle.fx_home.specs.declared.home.HomeFault.{HomeFault}
use Rattle.fx_home.specs.Homes.{home_read}
use Rattle.plain_cat.specs.declared.cat.Cat.{Cat}
use Rattle.plain_cat.specs.declared.cat.File.{File}
use Rattle.plain_cat.specs.declared.cat.Slot.{Slot}
use Rattle.plain_cat.specs.declared.cat.Slot.TheVariants.{Used}
use Rattle.plain_laws.proofs.Standing.{file_from}
use Rattle.vol_parts.specs.declared.geometry.Geometry.{Geometry}
use Rattle.vol_parts.specs.Volumes.{Volume, volume, IsNumber}
use Rattle.vol_parts.specs.Catalogues.{slot_of, catalogue}
use Rattle.vol_parts.specs.Findings.{home_at, IsCatalogueBy}
use Rattle.vol_spell.specs.Owners.{Owners}
use Rattle.vol_spell.specs.Spelling.{IsHomeOf, Spells}
use Rattle.vol_mends.specs.Weak.{NoOuts, shut}
use Rattle.vol_mends.proofs.WeakSteps.{HasSystems, spelt_beside, tells_shut}
use Rattle.vol_sound.specs.Sound.{is_sound}
use Rattle.vol_sound.specs.Freeing.{HasSystem}
use Rattle.vol_sound.specs.Begun.{begun}
use Rattle.vol_sound.proofs.Cuts.{sound_parts}
use Rattle.vol_repair.specs.Alike.{bare, IsSameBut, TellsAlike}
use Rattle.vol_repair.specs.Keeping.{IsStill, KeepsSound}
use Rattle.vol_repair.specs.Laws.{IsMendable, AlikeKeeps}
use Rattle.vol_repair.proofs.Besides.{AreBeside, none_beyond, beside_sound}
use Rattle.vol_repair.proofs.SlotsAlike.{used_in, alike_at, told_at, begun_at, begun_sound, begun_system}

-- the system files are there in each catalogue with the files that a repair begins with
pub systems_alike : (v : Volume) (d : Cat) → HasSystem v → 11 ≤ v.home.files → IsSameBut (begun v) d → HasSystems d
systems_alike v d system enough same n from to =
    let s = begun_system v n system from to in
    let is : IsNumber v n = record { from = from; to = (let le : n ≤ v.home.files = omega arith in le) } in
    let u = used_in (slice_get d.files (n - 1)) s.file (alike_at (begun v) d same (n - 1) ∙ ap (λ (o : Option Slot). option_map bare o) (begun_at v n is) ∙ ap (λ (t : Slot). Some (bare t)) s.used) in (
      u.file,
      file_from d n u.file from u.at,
      record {
        seq = ap (λ (f : File). f.seq) u.same ∙ s.system.seq;
        dir = ap (λ (f : File). f.dir) u.same ∙ s.system.dir;
        unmarked = ap (λ (f : File). f.marked) u.same ∙ s.system.unmarked;
      },
    )

-- a sound file that is not marked for delete is there in each of them
pub sound_alike : (v : Volume) (d : Cat) (n : ℕ) (f : File) → IsSameBut (begun v) d → IsNumber v n → is_sound v n ≡ true → slot_of v n ≡ Used f → f.marked ≡ false
    → option_map bare (slice_get d.files (n - 1)) ≡ Some (bare (Used f))
sound_alike v d n f same is sound e unmarked =
    alike_at (begun v) d same (n - 1) ∙ ap (λ (o : Option Slot). option_map bare o) (begun_at v n is)
    ∙ ap (λ (t : Slot). Some (bare t)) (begun_sound v n f (sound_parts v n sound).above sound e unmarked)

-- a file of the catalogue that the blocks tell is still sound
pub still_there : (w : Volume) (n : ℕ) (f : File) → AreBeside w → IsNumber w n → 11 < n → option_map bare (slice_get (catalogue w).files (n - 1)) ≡ Some (bare (Used f)) → IsStill w n f
still_there w n f beside is above e =
    let u = used_in (slice_get (catalogue w).files (n - 1)) f e in
    let both : Some (slot_of w n) ≡ Some (Used u.file) = sym (told_at w n is) ∙ u.at in
    let there : slot_of w n ≡ Used u.file = cc both in
    record { sound = beside_sound w beside n u.file is above there; same = ap bare there ∙ ap (λ (x : File). Used x) u.same }

-- the home block says the geometry
record IsHomeRead (g : Geometry) (r : Result Home HomeFault) : Type 0 where
  home : Home
  read : r ≡ Ok home
  cluster : home.cluster ≡ g.cluster
  files : home.files ≡ g.files

home_of : (g : Geometry) (r : Result Home HomeFault) → IsHomeOf g r → IsHomeRead g r
home_of g (Err fault) h = absurd h
home_of g (Ok home) h = record { home = home; read = refl; cluster = h.0; files = h.1 }

module _ (home : Home) (first now : List Block) (g : Geometry) (m : IsMendable home first) (cluster : g.cluster ≡ home.cluster) (files : g.files ≡ home.files) (t : TellsAlike g (begun (volume home first)) now) where
  abbrev v : Volume
  v = volume home first

  abbrev own : Owners
  own = t.spelt.own

  spelt : Spells g now own t.cat
  spelt = t.spelt.spelt

  outs : NoOuts own
  outs = t.spelt.none

  there : IsHomeRead g (home_read (home_at now))
  there = home_of g (home_read (home_at now)) spelt.structures.home

  abbrev w : Volume
  w = volume there.home now

  systems : HasSystems t.cat
  systems = let low = m.within.files_low in systems_alike v t.cat m.system (omega arith) t.alike

  beside : AreBeside w
  beside f = spelt_beside g there.home now own t.cat f spelt outs systems there.read

  told : shut t.cat ≡ catalogue w
  told = subst (λ (r : Result Home HomeFault). IsCatalogueBy now r (shut t.cat)) there.read (tells_shut g now own t.cat spelt outs)

  number : (n : ℕ) → IsNumber v n → IsNumber w n
  number n is =
      let from = is.from in
      let to : n ≤ home.files = is.to in
      let same : there.home.files ≡ home.files = there.files ∙ files in
      record { from = from; to = (let le : n ≤ there.home.files = omega arith in le) }

  still : (n : ℕ) (f : File) → IsNumber v n → is_sound v n ≡ true → slot_of v n ≡ Used f → f.marked ≡ false → IsStill w n f
  still n f is sound e unmarked =
      still_there w n f beside (number n is) (sound_parts v n sound).above
      (ap (λ (c : Cat). option_map bare (slice_get c.files (n - 1))) (sym told) ∙ sound_alike v t.cat n f t.alike is sound e unmarked)

  keeps : KeepsSound v now
  keeps = record {
    home = there.home;
    read = there.read;
    cluster = there.cluster ∙ cluster;
    numbers = there.files ∙ files;
    none = none_beyond there.home now there.read beside;
    files = λ n f is sound e unmarked. inl (still n f is sound e unmarked);
  }

pub alike_keeps : AlikeKeeps
alike_keeps home first now g m cluster files t = keeps home first now g m cluster files t
