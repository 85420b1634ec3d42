-- One step of patching after another.
use Rattle.std.proofs.Common.{◌≡◌, List, refl, sym, subst}
use Rattle.base_words.specs.Fields.{Block}
use Rattle.fx_home.specs.declared.home.Home.{Home}
use Rattle.plain_cat.specs.declared.cat.Cat.{Cat}
use Rattle.vol_parts.specs.declared.geometry.Geometry.{Geometry}
use Rattle.vol_parts.specs.Volumes.{volume, geometry_of}
use Rattle.vol_parts.specs.Catalogues.{catalogue}
use Rattle.vol_sound.specs.Begun.{without_own, without_loops, with_owners, patched}
use Rattle.vol_repair.specs.Alike.{IsSameBut, IsSpeltAs, TellsAlike}
use Rattle.vol_repair.specs.Keeping.{KeepsSound}
use Rattle.vol_repair.specs.Laws.{IsMendable, AlikeKeeps}
use Rattle.vol_repair.specs.Patching.{IsSpellable, IsReady}
use Rattle.vol_repair.proofs.Patched.{own_alike, loops_alike, alike_on}
use Rattle.vol_repair.proofs.Spelt.{spellable_spelt, geometry_stays}

-- what is spelt at the start
pub told_spelt : (home : Home) (bs : List Block) (g : Geometry) (c : Cat) → IsSpellable home bs → g ≡ geometry_of (volume home bs) → c ≡ catalogue (volume home bs) → IsSpeltAs g bs c
told_spelt home bs g c r here told =
    subst (λ (x : Geometry). IsSpeltAs x bs c) (sym here) (subst (λ (x : Cat). IsSpeltAs (geometry_of (volume home bs)) bs x) (sym told) (spellable_spelt home bs r))

-- what is alike to a later catalogue is so to an earlier one
pub alike_from : (g : Geometry) (a b : Cat) → IsSameBut a b → (bs : List Block) → TellsAlike g b bs → TellsAlike g a bs
alike_from g a b same bs t = record { cat = t.cat; spelt = t.spelt; alike = alike_on a b t.cat same t.alike }

pub after_own : (a b : Cat) → b ≡ without_own a → IsSameBut a b
after_own a b e = subst (λ (x : Cat). IsSameBut a x) (sym e) (own_alike a)

pub after_loops : (a b c : Cat) → b ≡ without_own a → c ≡ without_loops b → IsSameBut a c
after_loops a b c e f = alike_on a b c (after_own a b e) (subst (λ (x : Cat). IsSameBut b x) (sym f) (loops_alike b))

pub alike_at : (g h : Geometry) (a b : Cat) → g ≡ h → a ≡ b → (bs : List Block) → TellsAlike g a bs → TellsAlike h b bs
alike_at g h a b here told bs t = subst (λ (x : Geometry). TellsAlike x b bs) here (subst (λ (x : Cat). TellsAlike g x bs) told t)

-- ---- with what is kept

-- what is alike to the catalogue that the repair begins with keeps what was sound
pub alike_kept : AlikeKeeps → (home : Home) (first mid : List Block) → IsMendable home first → IsReady home first mid → (now : List Block) → TellsAlike (geometry_of (volume home mid)) (catalogue (volume home mid)) now
    → KeepsSound (volume home first) now
alike_kept law home first mid m r now t = law home first now (geometry_of (volume home mid)) m refl refl (subst (λ (c : Cat). TellsAlike (geometry_of (volume home mid)) c now) r.told t)

-- the patched catalogue is spelt at the end
pub patched_left : (home : Home) (first mid now : List Block) → IsReady home first mid → IsSpeltAs (geometry_of (volume home mid)) now (with_owners (without_loops (without_own (catalogue (volume home mid)))))
    → IsSpeltAs (geometry_of (volume home now)) now (patched (volume home first))
unfolding patched
patched_left home first mid now r s =
    let p : IsSpeltAs (geometry_of (volume home mid)) now (patched (volume home first)) = subst (λ (c : Cat). IsSpeltAs (geometry_of (volume home mid)) now (with_owners (without_loops (without_own c)))) r.told s in
    subst (λ (g : Geometry). IsSpeltAs g now (patched (volume home first))) (sym (geometry_stays home (geometry_of (volume home mid)) now (patched (volume home first)) p refl refl)) p
