-- Blocks that spell a catalogue in order mend as it does.
use Rattle.std.proofs.Common.{◌≡◌, ◌∙◌, List, Option, Some, None, Result, Ok, Err, sym, ap, subst}
use Rattle.base_words.specs.Fields.{Block}
use Rattle.fx_home.specs.declared.home.Home.{Home}
use Rattle.fx_home.specs.declared.home.HomeFault.{HomeFault}
use Rattle.fx_home.specs.Homes.{home_read}
use Rattle.plain_cat.specs.declared.history.Mended.{Mended}
use Rattle.plain_cat.specs.declared.cat.Cat.{Cat}
use Rattle.plain_rules.specs.Mending.{mended}
use Rattle.plain_mends.specs.Resuming.{MendsTo}
use Rattle.plain_mends.specs.Sound.{IsSound}
use Rattle.vol_spell.specs.Owners.{Owners}
use Rattle.vol_parts.specs.declared.geometry.Geometry.{Geometry}
use Rattle.vol_parts.specs.Findings.{home_at, IsCatalogueBy, CatOf}
use Rattle.vol_spell.specs.Spelling.{Spells}
use Rattle.vol_mends.specs.Weak.{NoOuts, shut, CanMend}
use Rattle.vol_mends.proofs.WeakSteps.{tells_shut, spelt_is_weak}
use Rattle.vol_mends.proofs.SoundMends.{sound_can_mend, sound_is_readable, spelt_mends}
use Rattle.vol_rebuild.specs.Rebuilt.{IsRebuilt}
use Rattle.run_engine.specs.Mending.{IsMended, MendsAs}
use Rattle.run_engine.specs.OverLaws.{RebuiltIsMended}

-- blocks tell one catalogue
pub told_once : (bs : List Block) (r : Result Home HomeFault) (c d : Cat) → IsCatalogueBy bs r c → IsCatalogueBy bs r d → c ≡ d
told_once bs (Ok home) c d p q = p ∙ sym q
told_once bs (Err fault) c d p q = absurd p

-- the catalogue after mending, or this one where there is none
abbrev cat_in : Cat → Option (Cat × Mended) → Cat
cat_in c None = c
cat_in c (Some x) = x.0

-- what mending makes of blocks tells the catalogue to which they mend
pub rebuilt_is_mended : RebuiltIsMended
rebuilt_is_mended bs new d done m r =
    let one : r.cat ≡ m.cat = told_once bs (home_read (home_at bs)) r.cat m.cat r.told.told m.told.told in
    let both : Some (r.after, done) ≡ Some (d, m.ends.0) = sym r.mends ∙ (ap mended one ∙ m.ends.1) in
    let same : r.after ≡ d = ap (cat_in d) both in
    (r.accepted, subst (CatOf new) same r.left)

module _ (g : Geometry) (bs : List Block) (own : Owners) (c : Cat) (s : Spells g bs own c) (outs : NoOuts own) (sound : IsSound c) where
  same : mended (shut c) ≡ mended c
  same = sound_is_readable.same c sound

  can : (d : Cat) → MendsTo c d → CanMend (shut c)
  can d ends = sound_can_mend.shut_too c sound (λ none. let both : None ≡ Some (d, ends.0) = sym none ∙ ends.1 in cc both)

  rebuilt : (new : List Block) (done : Mended) → IsRebuilt bs new done → IsMended c new done
  rebuilt new done r =
      let one : r.cat ≡ shut c = told_once bs (home_read (home_at bs)) r.cat (shut c) r.told.told (tells_shut g bs own c s outs) in
      record { after = r.after; mends = sym same ∙ (sym (ap mended one) ∙ r.mends); accepted = r.accepted; left = r.left }

  pub mends_as : MendsAs bs c
  mends_as = record {
    told = λ d ends. spelt_is_weak g bs own c s outs (can d ends);
    same = same;
    mends = λ d ends. spelt_mends g bs own c d s outs (can d ends) (ends.0, same ∙ ends.1);
    rebuilt = rebuilt;
    lacking = sound_is_readable.lacking g bs own c s outs sound;
    roomless = λ f e. sound_is_readable.only g bs own c f s outs sound e;
  }
