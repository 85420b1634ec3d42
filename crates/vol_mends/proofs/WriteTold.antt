-- Blocks that can be mended spell their catalogue, with owners of whom none is outside, and the other way round.
use Rattle.std.proofs.Common.{◌≡◌, ◌≢◌, ◌∙◌, ℕ, List, [], Ok, Err, Result, length, slice_set, get_or-set_other, refl, sym, ap, subst}
use Rattle.base_words.specs.Fields.{Block}
use Rattle.fx_home.specs.declared.home.Home.{Home}
use Rattle.fx_home.specs.declared.home.HomeFault.{HomeFault}
use Rattle.fx_home.specs.Homes.{home_read}
use Rattle.plain_cat.specs.declared.cat.Cat.{Cat}
use Rattle.plain_mends.specs.Resuming.{MendsTo}
use Rattle.vol_spell.specs.Owners.{Owners}
use Rattle.vol_parts.specs.declared.geometry.Geometry.{Geometry}
use Rattle.vol_parts.specs.Volumes.{volume, first_lbn, quota_lbn, geometry_of}
use Rattle.vol_parts.specs.Findings.{home_at, IsCatalogueBy, CatOf}
use Rattle.vol_faults.specs.Conditions.{IsSize}
use Rattle.vol_faults.specs.Free.{IsGeometryBy}
use Rattle.vol_spell.specs.Spelling.{IsHomeOf, Spells}
use Rattle.vol_spell.specs.Accepting.{owners_told}
use Rattle.vol_spell.proofs.Accepted.{catalogue_is_spelt}
use Rattle.vol_spell.proofs.Frames.{structure_number}
use Rattle.vol_mends.specs.Weak.{NoOuts}
use Rattle.vol_mends.specs.Going.{Change, Leaked}
use Rattle.vol_mends.proofs.Views.{v, v_runs, v_bitmap}
use Rattle.vol_mends.proofs.AcceptedSteps.{weak_can_mend, told_shut}
use Rattle.vol_mends.proofs.GoingSteps.{goes_on, opens_same, change_mends}
use Rattle.vol_mends.specs.Told.{IsTold, LeadsTo}

-- ---- owners

-- the blocks spell the catalogue, and nobody holds anything outside
pub record Owned (g : Geometry) (bs : List Block) (c : Cat) : Type 0 where
  pub own : Owners
  pub spells : Spells g bs own c
  pub outs : NoOuts own

pub geometry_read : (bs : List Block) (g : Geometry) (home : Home) (r : Result Home HomeFault) → r ≡ Ok home → IsGeometryBy bs r g → g ≡ geometry_of (volume home bs)
geometry_read bs g home (Ok h) e is = let same : h ≡ home = cc in is ∙ ap (λ (k : Home). geometry_of (volume k bs)) same
geometry_read bs g home (Err fault) e is = absurd is

pub owned : (g : Geometry) (bs : List Block) (c : Cat) → IsTold g bs c → Owned g bs c
owned g bs c t =
    let is = catalogue_is_spelt bs c t.size.from t.size.to t.whole t.cat in
    let same = geometry_read bs g is.home (home_read (home_at bs)) is.read t.geometry in
    record { own = owners_told (volume is.home bs); spells = subst (λ (k : Geometry). Spells k bs (owners_told (volume is.home bs)) c) (sym same) is.spelt; outs = is.outs }

-- ---- back to what is told

cat_by : (bs : List Block) (c d : Cat) (r : Result Home HomeFault) → IsCatalogueBy bs r c → IsCatalogueBy bs r d → c ≡ d
cat_by bs c d (Ok home) a b = a ∙ sym b
cat_by bs c d (Err fault) a b = absurd a

-- blocks tell one catalogue
pub one_cat : (bs : List Block) (c d : Cat) → CatOf bs c → CatOf bs d → c ≡ d
one_cat bs c d a b = cat_by bs c d (home_read (home_at bs)) a.told b.told

module _ (g : Geometry) (bs : List Block) (own : Owners) (c : Cat) (s : Spells g bs own c) where
  -- the home block, but for its label
  pub home_told : (home : Home) → home_read (home_at bs) ≡ Ok home → home ≡ record { cluster = g.cluster; files = g.files; label = home.label }
  home_told home e =
      let is : IsHomeOf g (Ok home) = subst (λ r. IsHomeOf g r) e s.structures.home in
      λ i. record { cluster = is.0 i; files = is.1 i; label = home.label }

  quota_there : (label : List ℕ) → quota_lbn (v label g bs own c s) ≡ g.quota_lbn
  quota_there label = ap first_lbn (v_runs label g bs own c s 10 (structure_number g bs own c s 10 refl) ∙ s.structures.quota.run)

  told_geometry : (label : List ℕ) → g ≡ geometry_of (v label g bs own c s)
  told_geometry label =
      let bitmap = sym (v_bitmap label g bs own c s) in
      let quota = sym (quota_there label) in
      let blocks = sym s.counts.blocks in
      λ i. record { blocks = blocks i; cluster = g.cluster; files = g.files; bitmap_lbn = bitmap i; quota_lbn = quota i }

  by_home : (r : Result Home HomeFault) → home_read (home_at bs) ≡ r → IsHomeOf g r → IsGeometryBy bs r g
  by_home (Err fault) e is = absurd is
  by_home (Ok home) e is = told_geometry home.label ∙ ap (λ (h : Home). geometry_of (volume h bs)) (sym (home_told home e))

  pub spelt_geometry : IsGeometryBy bs (home_read (home_at bs)) g
  spelt_geometry = by_home (home_read (home_at bs)) refl s.structures.home

-- ---- writes

-- a write after which the blocks spell the catalogue after one change
pub changed : (g : Geometry) (bs new : List Block) (own : Owners) (c d : Cat) → IsTold g bs c → Change c d → Spells g new own d → NoOuts own → home_at new ≡ home_at bs → LeadsTo g bs c d new
changed g bs new own c d t change s outs home =
    record {
      home = home;
      told = record { size = size; whole = s.whole; cat = tells; geometry = spelt_geometry g new own d s };
      ends = λ z m. goes_on.ends c d z change m;
      mends = λ z m. record { cat = d; told = tells; ends = goes_on.ends c d z change (subst (λ (x : Cat). MendsTo x z) (one_cat bs m.cat c m.told t.cat) m.ends) };
    }
  where
    tells : CatOf new d
    tells = change_mends.tells g new own c d (weak_can_mend bs c t.cat).0 (told_shut bs c t.cat) change s outs

    size : IsSize (length new)
    size = let o = owned g bs c t in subst IsSize (o.spells.counts.blocks ∙ sym s.counts.blocks) t.size

-- and after two changes, the one behind the other
pub changed_on : (g : Geometry) (bs new : List Block) (own : Owners) (c d e : Cat) → IsTold g bs c → Change c d → Change d e → Spells g new own e → NoOuts own → home_at new ≡ home_at bs → LeadsTo g bs c e new
changed_on g bs new own c d e t first second s outs home =
    record {
      home = home;
      told = record { size = size; whole = s.whole; cat = tells; geometry = spelt_geometry g new own e s };
      ends = λ z m. ends z m;
      mends = λ z m. record { cat = e; told = tells; ends = ends z (subst (λ (x : Cat). MendsTo x z) (one_cat bs m.cat c m.told t.cat) m.ends) };
    }
  where
    ends : (z : Cat) → MendsTo c z → MendsTo e z
    ends z m = goes_on.ends d e z second (goes_on.ends c d z first m)

    tells : CatOf new e
    tells =
        let can = (weak_can_mend bs c t.cat).0 in
        let shut = opens_same c d first ∙ told_shut bs c t.cat in
        change_mends.tells g new own d e (goes_on.can c d first can) shut second s outs

    size : IsSize (length new)
    size = let o = owned g bs c t in subst IsSize (o.spells.counts.blocks ∙ sym s.counts.blocks) t.size

-- a write after which they spell the same
pub unchanged : (g : Geometry) (bs new : List Block) (own : Owners) (c : Cat) → IsTold g bs c → Spells g new own c → NoOuts own → home_at new ≡ home_at bs → LeadsTo g bs c c new
unchanged g bs new own c t s outs home = changed g bs new own c c t (Leaked c.leaked c.leaked_numbers refl) s outs home

-- a block that is set elsewhere leaves the home block
pub home_left : (bs : List Block) (l : ℕ) (b : Block) → 1 ≢ l → home_at (slice_set bs l b) ≡ home_at bs
home_left bs l b other = get_or-set_other bs l 1 b [] other
