-- The last part of a repair: what mending makes of blocks that spell the patched catalogue.
use Rattle.std.proofs.Common.{◌≡◌, ◌∙◌, ◌≤◌, ◌<◌, ◌⊎◌, ℕ, List, Option, Some, None, refl, sym, ap, subst, inl, inr, arith}
use Rattle.std.specs.Prelude.{Result, Ok, Err, IfOk}
use Rattle.base_words.specs.Fields.{Block}
use Rattle.base_words.specs.Faults.{Rose}
use Rattle.blk_drive.specs.Telling.{IsTold as Shows}
use Rattle.blk_drive.specs.Telling.{told_as}
use Rattle.fx_home.specs.declared.home.Home.{Home}
use Rattle.fx_home.specs.declared.home.HomeFault.{HomeFault}
use Rattle.fx_home.specs.Homes.{home_read}
use Rattle.plain_cat.specs.declared.cat.Cat.{Cat}
use Rattle.plain_cat.specs.declared.history.Mended.{Mended}
use Rattle.plain_rules.specs.Mending.{mended}
use Rattle.vol_parts.specs.declared.finding.Finding.{Finding}
use Rattle.vol_parts.specs.declared.finding.Finding.TheVariants as finding
use Rattle.vol_parts.specs.declared.geometry.Geometry.{Geometry}
use Rattle.vol_parts.specs.Fatal.{HasNoRoom}
use Rattle.vol_parts.specs.Findings.{home_at, rank, IsFatal, IsFirstFatal, IsCatalogueBy}
use Rattle.vol_parts.specs.Volumes.{Volume, volume, geometry_of}
use Rattle.vol_faults.specs.Whole.{IsRead}
use Rattle.vol_faults.specs.CatFindings.{IsFatalOf}
use Rattle.vol_faults.proofs.RoomLemmas.{no-room-exact}
use Rattle.vol_mends.specs.Mends.{Mends}
use Rattle.vol_mends.specs.Weak.{shut, CanMend}
use Rattle.vol_mends.proofs.SoundMends.{spelt_mends}
use Rattle.vol_mends.proofs.WeakSteps.{tells_shut, spelt_findings, room_lacks}
use Rattle.vol_rebuild.specs.declared.fault.RebuildFault.{RebuildFault}
use Rattle.vol_rebuild.specs.declared.fault.RebuildFault.TheVariants as rebuild
use Rattle.vol_rebuild.specs.Rebuilt.{IsRebuilt, IsRefusal}
use Rattle.vol_rebuild.specs.Ways.{IsWay as IsMendingWay, IsAhead as IsMendedAhead}
use Rattle.vol_sound.specs.Begun.{patched}
use Rattle.vol_repair.specs.declared.fault.RepairFault.{RepairFault}
use Rattle.vol_repair.specs.declared.fault.RepairFault.TheVariants as fault
use Rattle.vol_repair.specs.Faults.{answer_of}
use Rattle.vol_repair.specs.Keeping.{KeepsSound}
use Rattle.vol_repair.specs.Laws.{AlikeKeeps, MendingKeeps}
use Rattle.vol_repair.specs.Patching.{IsPatched, IsFinished, IsStuck}
use Rattle.vol_repair.specs.Steps.{IsAhead, IsStep}
use Rattle.vol_repair.proofs.Patched.{patched_systems, patched_owners, patched_findings, patched_shut, patched_alike}
use Rattle.vol_repair.proofs.Stepping.{step_none}

-- ---- answers

pub fault_from : (x : Result Mended RebuildFault) → answer_of x ≡ Err fault.ImageFault → x ≡ Err rebuild.ImageFault
fault_from (Ok done) e = absurd (cc e)
fault_from (Err (rebuild.NotMendable f)) e = absurd (cc e)
fault_from (Err rebuild.ImageFault) e = refl
fault_from (Err rebuild.NoMemory) e = absurd (cc e)

pub fault_to : (x : Result Mended RebuildFault) → x ≡ Err rebuild.ImageFault → answer_of x ≡ Err fault.ImageFault
fault_to x e = ap answer_of e

pub room_from : (x : Result Mended RebuildFault) (f : Finding) → answer_of x ≡ Err (fault.NoRoom f) → x ≡ Err (rebuild.NotMendable f)
room_from (Ok done) f e = absurd (cc e)
room_from (Err (rebuild.NotMendable g)) f e = let same : g ≡ f = (let z : Err (fault.NoRoom g) ≡ Err (fault.NoRoom f) = e in cc) in ap (λ (x : Finding). Err (rebuild.NotMendable x)) same
room_from (Err rebuild.ImageFault) f e = absurd (cc e)
room_from (Err rebuild.NoMemory) f e = absurd (cc e)

refusal_is_none : (x : Result Mended RebuildFault) → IsRefusal x → x ≡ Err rebuild.ImageFault → ⊥
refusal_is_none x h e = subst (λ (y : Result Mended RebuildFault). IsRefusal y) e h

-- ---- blocks that spell the patched catalogue

module _ (home : Home) (first now : List Block) (p : IsPatched home first now) where
  abbrev v : Volume
  v = volume home first

  abbrev g : Geometry
  g = geometry_of (volume home now)

  -- the catalogue that they tell is the patched one
  told : IsCatalogueBy now (home_read (home_at now)) (patched v)
  told = subst (λ (c : Cat). IsCatalogueBy now (home_read (home_at now)) c) (patched_shut v) (tells_shut g now p.left.own (patched v) p.left.spelt p.left.none)

  -- a fatal finding is that there is no room for a lost file
  only_room : (f : Finding) → IsFatal now f → (n : ℕ) × (f ≡ finding.NoRoom n) × HasNoRoom (patched v) n
  only_room f e =
      let h : IsFatalOf (patched v) f =
      subst (λ (c : Cat). IsFatalOf c f) (patched_shut v) (spelt_findings g now p.left.own (patched v) f p.left.spelt p.left.none (patched_systems home first p.mendable.within p.mendable.system) (patched_owners v) e) in
      let k = patched_findings home first p.mendable.within p.mendable.system f h in
      (k.0, k.1, subst (λ (x : Finding). IsFatalOf (patched v) x) k.1 h)

  -- so there is none that reading looks for
  pub none_read : (x : Result Cat Finding) (f : Finding) → IsRead now x → x ≡ Err f → ⊥
  none_read x f h e =
      let k : (rank f < 16) × IsFirstFatal now f = subst (λ (y : Result Cat Finding). IsRead now y) e h in
      let room = only_room f k.1.fatal in
      let at : rank f ≡ 16 = ap rank room.1 in
      let below = k.0 in
      absurd (omega arith)

  same_cat : (r : Result Home HomeFault) (c d : Cat) → IsCatalogueBy now r c → IsCatalogueBy now r d → c ≡ d
  same_cat (Err bad) c d a b = absurd a
  same_cat (Ok h) c d a b = a ∙ sym b

  pub read_patched : (c : Cat) → IsRead now (Ok c) → c ≡ patched v
  read_patched c h = same_cat (home_read (home_at now)) c (patched v) h.1 told

  -- and there is one where mending gives up
  room_there : mended (patched v) ≡ None → (n : ℕ) × IsFatal now (finding.NoRoom n)
  room_there e =
      let k = (no-room-exact (patched v)).1 e in
      (k.0, room_lacks g now p.left.own (patched v) k.0 p.left.spelt p.left.none (subst (λ (c : Cat). HasNoRoom c k.0) (sym (patched_shut v)) k.1))

  -- else it can be mended
  can_mend : (z : Cat) (done : Mended) → mended (patched v) ≡ Some (z, done) → CanMend (shut (patched v))
  can_mend z done e = subst (λ (c : Cat). CanMend c) (sym (patched_shut v)) (record {
    systems = patched_systems home first p.mendable.within p.mendable.system;
    owners = patched_owners v;
    sound = λ f h. none f h;
  }) where
    none : (f : Finding) → IsFatalOf (patched v) f → ⊥
    none f h =
        let k = patched_findings home first p.mendable.within p.mendable.system f h in
        let lacks : mended (patched v) ≡ None = (no-room-exact (patched v)).0 (k.0, subst (λ (x : Finding). IsFatalOf (patched v) x) k.1 h) in
        let both : None ≡ Some (z, done) = sym lacks ∙ e in
        cc both

  mends : (z : Cat) (done : Mended) → mended (patched v) ≡ Some (z, done) → Mends now z
  mends z done e =
      spelt_mends g now p.left.own (patched v) z p.left.spelt p.left.none (can_mend z done e) (done, (let same : mended (shut (patched v)) ≡ mended (patched v) = ap mended (patched_shut v) in same ∙ e))

  -- ---- what mending answers

  finished : (new : List Block) (done : Mended) → IsRebuilt now new done → IsFinished v new done
  finished new done r = record {
    after = r.after;
    mends = ap mended (same_cat (home_read (home_at now)) (patched v) r.cat told r.told.told) ∙ r.mends;
    accepted = r.accepted;
    left = r.left;
  }

  pub finished_so : (x : Result Mended RebuildFault) (new : List Block) → IfOk x (IsRebuilt now new) → IfOk (answer_of x) (IsFinished v new)
  finished_so (Ok done) new r = finished new done r
  finished_so (Err (rebuild.NotMendable f)) new r = tt
  finished_so (Err rebuild.ImageFault) new r = tt
  finished_so (Err rebuild.NoMemory) new r = tt

  pub stuck : (new : List Block) (f : Finding) → IsFirstFatal now f → new ≡ now → IsStuck v now new f
  stuck new f h same =
      let k = only_room f h.fatal in
      record { number = k.0; found = k.1; lacks = k.2; same = same; first = subst (λ (x : List Block). IsFirstFatal x f) (sym same) h }

  -- ---- what is kept

  -- what mending does to the drive
  pub record IsMending (x : Result Mended RebuildFault) (new : List Block) (t u : Option (List Block)) (f k : ℕ) : Type 0 where
    pub way : IsMendingWay now new
    pub later : f ≤ k
    pub cause : x ≡ Err rebuild.ImageFault → Rose f k
    pub image : Shows t now → (u ≡ told_as t new) ⊎ ((x ≡ Err rebuild.ImageFault) × IsMendedAhead t u now new)

  module _ (alike_keeps : AlikeKeeps) (mending_keeps : MendingKeeps) where
    kept : KeepsSound v now
    kept = alike_keeps home first now g p.mendable refl refl (record { cat = patched v; spelt = p.left; alike = patched_alike v })

    on_way : (z : Cat) (done : Mended) → mended (patched v) ≡ Some (z, done) → (x : Result Mended RebuildFault) (new : List Block) (t u : Option (List Block)) (f k : ℕ) → IsMending x new t u f k
        → IsStep (KeepsSound v) now new t u f k (answer_of x ≡ Err fault.ImageFault)
    on_way z done e x new t u f k m = record {
      way = record { writes = m.way.writes; made = m.way.made; holds = λ i. mending_keeps home first _ z done p.mendable e (m.way.mends i z (mends z done e)) };
      later = m.later;
      cause = λ q. m.cause (fault_from x q);
      image = λ shown. by_image (m.image shown);
    } where
      by_image : (u ≡ told_as t new) ⊎ ((x ≡ Err rebuild.ImageFault) × IsMendedAhead t u now new) → (u ≡ told_as t new) ⊎ ((answer_of x ≡ Err fault.ImageFault) × IsAhead (KeepsSound v) t u new)
      by_image (inl same) = inl same
      by_image (inr h) = inr (
        fault_to x h.0,
        record {
          place = h.1.place;
          block = h.1.block;
          there = h.1.there;
          holds = mending_keeps home first _ z done p.mendable e (h.1.mends z (mends z done e));
        },
      )

    stays : (x : Result Mended RebuildFault) (new : List Block) (t u : Option (List Block)) (f k : ℕ) → IsRefusal x → new ≡ now → u ≡ t → k ≡ f → IsStep (KeepsSound v) now new t u f k (answer_of x ≡ Err fault.ImageFault)
    stays x new t u f k refused same shown count =
        subst (λ (bs : List Block). IsStep (KeepsSound v) now bs t u f k (answer_of x ≡ Err fault.ImageFault)) (sym same)
        (subst (λ (o : Option (List Block)). IsStep (KeepsSound v) now now t o f k (answer_of x ≡ Err fault.ImageFault)) (sym shown)
        (subst (λ (j : ℕ). IsStep (KeepsSound v) now now t t f j (answer_of x ≡ Err fault.ImageFault)) (sym count)
        (step_none now t f (answer_of x ≡ Err fault.ImageFault) (λ q. refusal_is_none x refused (fault_from x q)) kept)))

    -- after each write of mending every sound file is kept; nothing is written where it gives up
    pub mending_step : (x : Result Mended RebuildFault) (new : List Block) (t u : Option (List Block)) (f k : ℕ) → IsMending x new t u f k
        → ((b : Finding) → IsFatal now b → IsRefusal x × (new ≡ now) × (u ≡ t) × (k ≡ f)) → IsStep (KeepsSound v) now new t u f k (answer_of x ≡ Err fault.ImageFault)
    mending_step x new t u f k m fatal = by_end (mended (patched v)) refl where
      by_end : (o : Option (Cat × Mended)) → mended (patched v) ≡ o → IsStep (KeepsSound v) now new t u f k (answer_of x ≡ Err fault.ImageFault)
      by_end (Some d) e = on_way d.0 d.1 e x new t u f k m
      by_end None e = let r = room_there e in let s = fatal (finding.NoRoom r.0) r.1 in stays x new t u f k s.0 s.1 s.2 s.3

    pub step_as_answered : (x : Result Mended RebuildFault) (y : Result Mended RepairFault) → y ≡ answer_of x → (new : List Block) (t u : Option (List Block)) (f k : ℕ) → IsMending x new t u f k
        → ((b : Finding) → IsFatal now b → IsRefusal x × (new ≡ now) × (u ≡ t) × (k ≡ f)) → IsStep (KeepsSound v) now new t u f k (y ≡ Err fault.ImageFault)
    step_as_answered x y same new t u f k m fatal =
        subst (λ (r : Result Mended RepairFault). IsStep (KeepsSound v) now new t u f k (r ≡ Err fault.ImageFault)) (sym same) (mending_step x new t u f k m fatal)
