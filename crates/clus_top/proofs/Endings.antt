-- The end of a run: on an accepted volume there is one, and there is one alone.
use Rattle.std.proofs.Common.{◌≡◌, ◌≤◌, ◌⊎◌, ◌∙◌, ℕ, List, [], ◌∷◌, Option, Some, None, Result, Ok, Err, length, refl, sym, ap, subst, inl, inr}
use Rattle.base_words.specs.Fields.{Block, AreWholeBlocks}
use Rattle.fx_home.specs.declared.home.Home.{Home}
use Rattle.fx_home.specs.declared.home.HomeFault.{HomeFault}
use Rattle.fx_home.specs.Homes.{home_read}
use Rattle.plain_cat.specs.declared.cat.Cat.{Cat}
use Rattle.plain_cat.specs.declared.script.Script.{Script}
use Rattle.plain_cat.specs.declared.history.Mended.{Mended}
use Rattle.plain_rules.specs.Mending.{mended}
use Rattle.plain_rules.specs.Replaying.{Replays}
use Rattle.vol_parts.specs.declared.finding.Finding.{Finding}
use Rattle.vol_parts.specs.declared.finding.Finding.TheVariants.{NoRoom}
use Rattle.vol_parts.specs.declared.geometry.Geometry.{Geometry}
use Rattle.vol_parts.specs.Volumes.{volume, geometry_of}
use Rattle.vol_parts.specs.Catalogues.{catalogue}
use Rattle.vol_parts.specs.Findings.{home_at, Weak, AreFindings, AreWarningsBy, Accepts, IsCatalogueBy, CatOf, IsFatal, IsFirstFatal}
use Rattle.vol_faults.specs.Free.{IsGeometryBy}
use Rattle.vol_analyze.specs.Having.{HaveFindings}
use Rattle.vol_analyze.proofs.Accepting.{accepted_accounts}
use Rattle.run_script.specs.Lines.{lines_of}
use Rattle.run_script.specs.Laws.{SayOneThing}
use Rattle.run_script.proofs.Formed.{spelt_in_form}
use Rattle.core_state.specs.Worlds.{Plain}
use Rattle.core_state.specs.Goods.{Good, IsAccepted}
use Rattle.core_state.specs.Mounting.{mounted, IsMounted}
use Rattle.core_state.specs.Ends.{AllOver}
use Rattle.core_state.proofs.Accepting.{accepted_near, accepted_sized, accepted_system, told_opens}
use Rattle.core_state.proofs.MountedWorlds.{good_mounted, mounts}
use Rattle.run_engine.specs.Ended.{IsSpelt}
use Rattle.run_engine.specs.Mending.{MendsAs}
use Rattle.run_engine.specs.Scripts.{IsScriptOf}
use Rattle.run_engine.specs.Texts.{IsGood}
use Rattle.run_engine.specs.Walks.{played, rotated, budget_of, IsRotatedIn, Stays}
use Rattle.run_engine.specs.Stops.{report_text}
use Rattle.run_engine.proofs.Ending.{over_is_whole, over_is_spelt}
use Rattle.run_engine.proofs.Enough.{budget_played}
use Rattle.run_engine.proofs.OneEnd.{EndsWithin, one_end, ends_within}
use Rattle.run_engine.proofs.Staying.{plays_stay, walk_stays}
use Rattle.run_engine.proofs.Walked.{over_plays}
use Rattle.run_engine.proofs.Worlds.{over_worlds_mend}
use Rattle.clus_top.specs.declared.run_job.Printed.TheVariants as printed
use Rattle.clus_top.specs.Runs.{HasRunToEnd}
use Rattle.clus_top.specs.MendedRuns.{IsMendableThen, IsUnmendable}
use Rattle.clus_top.proofs.Jobs.{ran_to_end}
use Rattle.clus_top.proofs.Reported.{end_in}
use Rattle.clus_top.proofs.Stopping.{starts_accepted}
use Rattle.clus_top.proofs.Used.{step_keeps, walk_keeps}

-- ---- what blocks tell is one thing

one_geometry : (bs : List Block) (r : Result Home HomeFault) (g h : Geometry) → IsGeometryBy bs r g → IsGeometryBy bs r h → g ≡ h
one_geometry bs (Ok home) g h a b = a ∙ sym b
one_geometry bs (Err fault) g h a b = absurd a

one_catalogue : (bs : List Block) (r : Result Home HomeFault) (c d : Cat) → IsCatalogueBy bs r c → IsCatalogueBy bs r d → c ≡ d
one_catalogue bs (Ok home) c d a b = a ∙ sym b
one_catalogue bs (Err fault) c d a b = absurd a

-- ---- two runs of one script have one end

module _ (bytes : List ℕ) (bs : List Block) (one : SayOneThing (lines_of bytes)) (left right : List Block) (a : HasRunToEnd (IsScriptOf bytes) bs left) (b : HasRunToEnd (IsScriptOf bytes) bs right) where
  script : a.script ≡ b.script
  script = one.one_script a.script b.script a.given b.given

  opening : a.mounted.opening ≡ b.mounted.opening
  opening = one_catalogue bs (home_read (home_at bs)) a.mounted.opening b.mounted.opening a.mounted.told.told b.mounted.told.told

  geometry : a.mounted.geometry ≡ b.mounted.geometry
  geometry =
      sym (ap (λ (v : Plain). v.geometry) a.mounted.is)
      ∙ one_geometry bs (home_read (home_at bs)) a.start.geometry b.start.geometry a.parts b.parts
      ∙ ap (λ (v : Plain). v.geometry) b.mounted.is

  start : a.start ≡ b.start
  start = a.mounted.is ∙ (λ i. mounted bs (script i) (opening i) (geometry i)) ∙ sym b.mounted.is

  after_plays : played a.script.plays a.start ≡ played b.script.plays b.start
  after_plays i = played (script i).plays (start i)

  pub same_world : a.world ≡ b.world
  same_world =
      let x = rotated a.walked.turns 1 (played b.script.plays b.start) in
      let there : a.world ≡ x = a.walked.at ∙ ap (rotated a.walked.turns 1) after_plays in
      there ∙ one_end a.walked.turns b.walked.turns (played b.script.plays b.start) (subst AllOver there a.over) (subst AllOver b.walked.at b.over) ∙ sym b.walked.at

-- the drive at the end of a run mends as the catalogue to which it leads
module _ (IsGiven : Script → Type 0) (bs new : List Block) (a : HasRunToEnd IsGiven bs new) where
  stays : Stays a.start a.world
  stays = walk_stays a.start (played a.script.plays a.start) a.world a.script.plays refl (a.walked.turns, a.walked.at)

  opens : a.world.opening ≡ a.opening
  opens = stays.opening ∙ ap (λ (v : Plain). v.opening) a.mounted.is ∙ one_catalogue bs (home_read (home_at bs)) a.mounted.opening a.opening a.mounted.told.told a.told.told

  runs : a.world.script ≡ a.script
  runs = stays.script ∙ ap (λ (v : Plain). v.script) a.mounted.is

  spelt : IsSpelt a.world.geometry a.world.blocks a.after
  spelt = subst (λ (g : Geometry). IsSpelt g a.world.blocks a.after) (sym stays.geometry) a.left

  pub end_mends : MendsAs a.world.blocks a.after
  end_mends =
      over_worlds_mend a.world spelt.own a.after (subst IsAccepted (sym stays.opening) (starts_accepted bs a.script a.start a.mounted))
      (subst (λ (c : Cat). Replays c a.world.script a.world.history a.after) (sym opens) (subst (λ (s : Script). Replays a.opening s a.world.history a.after) (sym runs) a.replayed)) spelt.spelt spelt.outs

module _ (bytes : List ℕ) (bs : List Block) (one : SayOneThing (lines_of bytes)) where
  -- so a run whose volume can be mended has no end at which it cannot
  pub mendable_once : IsMendableThen (IsScriptOf bytes) bs → (f : Finding) → IsUnmendable (IsScriptOf bytes) bs f → ⊥
  mendable_once m f u =
      let same = same_world bytes bs one m.new u.0 m.ran u.1.ran in
      let lacks = (end_mends (IsScriptOf bytes) bs u.0 u.1.ran).lacking u.1.roomless.none in
      let fatal : IsFatal m.ran.world.blocks (NoRoom lacks.0) = subst (λ (w : Plain). IsFatal w.blocks (NoRoom lacks.0)) (sym same) lacks.1 in
      let none = ((end_mends (IsScriptOf bytes) bs m.new m.ran).roomless (NoRoom lacks.0) fatal).0 in
      let e : None ≡ Some (m.after, m.done) = sym none ∙ m.mends in
      cc e

  -- and one finding says that it cannot
  pub unmendable_once : ((xs : List Block) (fs gs : List Finding) → AreFindings xs fs → AreFindings xs gs → fs ≡ gs) → (f g : Finding) → IsUnmendable (IsScriptOf bytes) bs f → IsUnmendable (IsScriptOf bytes) bs g → g ≡ f
  unmendable_once list f g u v =
      let same = same_world bytes bs one u.0 v.0 u.1.ran v.1.ran in
      let there : IsFirstFatal u.1.ran.world.blocks g = subst (λ (w : Plain). IsFirstFatal w.blocks g) (sym same) v.1.roomless.first in
      let e : g ∷ [] ≡ f ∷ [] = list u.1.ran.world.blocks (g ∷ []) (f ∷ []) (inl (g, there, refl)) (inl (f, u.1.roomless.first, refl)) in
      cc e

-- ---- there is an end

-- an accepted volume tells its catalogue, and where its parts are
pub record IsOpened (bs : List Block) : Type 0 where
  pub cat : Cat
  pub told : CatOf bs cat
  pub geometry : Geometry
  pub parts : IsGeometryBy bs (home_read (home_at bs)) geometry

opened_by : (bs : List Block) → Weak bs → (r : Result Home HomeFault) → home_read (home_at bs) ≡ r → AreWarningsBy bs r [] → IsOpened bs
opened_by bs weak (Err fault) is none = absurd none
opened_by bs weak (Ok home) is none = record {
  cat = catalogue (volume home bs);
  told = record { weak = weak; told = subst (λ (r : Result Home HomeFault). IsCatalogueBy bs r (catalogue (volume home bs))) (sym is) refl };
  geometry = geometry_of (volume home bs);
  parts = subst (λ (r : Result Home HomeFault). IsGeometryBy bs r (geometry_of (volume home bs))) (sym is) refl;
}

pub is_opened : (bs : List Block) → Accepts bs → IsOpened bs
is_opened bs (inl found) = let e : [] ≡ found.0 ∷ [] = found.2 in absurd (cc e)
is_opened bs (inr none) = opened_by bs none.0 (home_read (home_at bs)) refl none.1

module _ (bytes : List ℕ) (bs : List Block) (good : IsGood bytes) (from : 64 ≤ length bs) (to : length bs ≤ 65536) (whole : AreWholeBlocks bs) (accepted : Accepts bs) where
  abbrev s : Script
  s = good.script

  o : IsOpened bs
  o = is_opened bs accepted

  abbrev begun : Plain
  begun = mounted bs s o.cat o.geometry

  is_mounted : IsMounted bs s begun
  is_mounted = record { opening = o.cat; geometry = o.geometry; accepted = accepted; told = o.told; is = refl }

  begun_well : Good begun
  begun_well =
      good_mounted bs s o.cat o.geometry (spelt_in_form (lines_of bytes) s good.spelt) (mounts bs o.cat o.geometry from to whole o.told o.parts) (accepted_accounts bs o.cat from to whole accepted o.told)
      (accepted_near bs o.cat from to whole accepted o.told) (accepted_sized bs o.cat from to whole o.told) (accepted_system bs o.cat from to whole o.told) (told_opens bs o.cat from to whole o.told)

  abbrev turned : Plain
  turned = played s.plays begun

  turned_well : Good turned
  turned_well = over_plays Good step_keeps s.plays begun begun_well

  ending : EndsWithin (budget_of turned) turned
  ending = ends_within step_keeps turned turned_well (subst IsAccepted (sym (plays_stay s.plays begun).opening) (starts_accepted bs s begun is_mounted))

  abbrev last : Plain
  last = rotated ending.turns 1 turned

  walked : IsRotatedIn (budget_of begun) turned last
  walked = record { turns = ending.turns; few = subst (λ (k : ℕ). ending.turns ≤ k) (sym (budget_played begun turned s.plays refl)) ending.few; at = refl }

  last_well : Good last
  last_well = walk_keeps begun begun_well s.plays last (inr (ending.turns, refl))

  pub comes_to_end : (new : List Block) × HasRunToEnd (IsScriptOf bytes) bs new
  comes_to_end =
      let c = over_is_spelt last last_well ending.over in (
        last.blocks,
        ran_to_end (IsScriptOf bytes) s good.spelt bs last.blocks printed.Report (report_text last.history c.0)
            (end_in begun begun_well is_mounted printed.Report last s.plays (report_text last.history c.0) refl walked ending.over last_well (walk_stays begun turned last s.plays refl (ending.turns, refl))
            (over_is_whole last last_well ending.over) (c.0, c.1, refl)),
      )

-- ---- and it can be mended, or not

module _ (IsGiven : Script → Type 0) (bs new : List Block) (a : HasRunToEnd IsGiven bs new) where
  -- the first fatal finding of a drive that cannot be mended
  unmended : mended a.after ≡ None → (fs : List Finding) → AreFindings a.world.blocks fs → (f : Finding) × IsUnmendable IsGiven bs f
  unmended none fs (inl found) =
      let why = ((end_mends IsGiven bs new a).roomless found.0 found.1.fatal).1 in
      (found.0, (new, record { ran = a; roomless = record { none = none; number = why.0; is = why.1; first = found.1 } }))
  unmended none fs (inr clear) = let lacks = (end_mends IsGiven bs new a).lacking none in absurd (clear.0 (NoRoom lacks.0) lacks.1)

  pub ends_somehow : ((xs : List Block) → HaveFindings xs) → IsMendableThen IsGiven bs ⊎ ((f : Finding) × IsUnmendable IsGiven bs f)
  ends_somehow found = by (mended a.after) refl where
    by : (o : Option (Cat × Mended)) → mended a.after ≡ o → IsMendableThen IsGiven bs ⊎ ((f : Finding) × IsUnmendable IsGiven bs f)
    by (Some m) is = inl (record { new = new; ran = a; after = m.0; done = m.1; mends = is })
    by None none = let there = found a.world.blocks in inr (unmended none there.findings there.are)
