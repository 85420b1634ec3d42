-- Of a repair exactly one status is due, but for faults and want of memory.
use Rattle.std.proofs.Common.{◌≡◌, ◌∙◌, ℕ, true, List, Option, Some, None, Result, Ok, Err, refl, sym, ap, subst, inl, inr}
use Rattle.std.specs.Prelude.{◌↔◌}
use Rattle.std.proofs.lemmas.Bool.{false≢true}
use Rattle.base_words.specs.Fields.{Block}
use Rattle.blk_drive.specs.Images.{IsInside, IsOutside}
use Rattle.blk_drive.proofs.Sizes.{is_size, outside}
use Rattle.fx_home.specs.declared.home.Home.{Home}
use Rattle.fx_home.specs.declared.home.HomeFault.{HomeFault}
use Rattle.fx_home.specs.Homes.{home_read}
use Rattle.plain_cat.specs.declared.cat.Cat.{Cat}
use Rattle.plain_cat.specs.declared.history.Mended.{Mended}
use Rattle.plain_rules.specs.Mending.{mended}
use Rattle.vol_parts.specs.declared.finding.Finding.{Finding}
use Rattle.vol_parts.specs.declared.finding.Finding.TheVariants as finding
use Rattle.vol_parts.specs.Volumes.{volume}
use Rattle.vol_parts.specs.Fatal.{HasNoRoom}
use Rattle.vol_parts.specs.Findings.{home_at}
use Rattle.vol_sound.specs.Begun.{patched}
use Rattle.vol_sound.specs.Beyond.{IsBeyondBy, IsFirstBeyond, IsFoundBeyond}
use Rattle.vol_sound.specs.BeyondLaws.{FirstIsOne}
use Rattle.vol_repair.specs.Keeping.{NoneIsBeyond}
use Rattle.run_engine.specs.declared.status.Status.{Status}
use Rattle.run_engine.specs.declared.status.Status.TheVariants as status
use Rattle.run_engine.specs.Verdicts.{is_verdict}
use Rattle.clus_top.specs.Words.{Repair}
use Rattle.clus_top.specs.Repairs.{HasRoom, LacksRoom, IsRepairable, IsRepairDue}
use Rattle.clus_top.specs.Verdicts.{HasOneVerdict}

-- at most one lost file has no room, and there is one exactly where mending gives up
pub record RoomIsTold : Type 0 where
  pub one : (c : Cat) (n m : ℕ) → HasNoRoom c n → HasNoRoom c m → n ≡ m
  pub exact : (c : Cat) → ((n : ℕ) × HasNoRoom c n) ↔ (mended c ≡ None)

-- no other status of a repair is due
abbrev AloneInRepair : ℕ → List Block → Status → Type 0
AloneInRepair size bs s = (other : Status) → is_verdict other ≡ true → IsRepairDue size bs other → other ≡ s

home_one : (bs : List Block) (h k : Home) → home_read (home_at bs) ≡ Ok h → home_read (home_at bs) ≡ Ok k → h ≡ k
home_one bs h k e f = let g : Ok h ≡ Ok k = sym e ∙ f in cc g

module _ (size : ℕ) (bs : List Block) where
  repair_outside : IsOutside size → AloneInRepair size bs (status.BadSize size)
  repair_outside out status.Ok v h = absurd (outside size h.inside out)
  repair_outside out status.ImageFault v h = absurd (false≢true v)
  repair_outside out (status.BadSize m) v h = ap status.BadSize h.0
  repair_outside out (status.NotRepairable g) v h = absurd (outside size h.0 out)
  repair_outside out (status.RepairNoRoom g) v h = absurd (outside size h.0 out)
  repair_outside out status.OutFault v h = absurd (false≢true v)
  repair_outside out status.NoMemory v h = absurd (false≢true v)
  repair_outside out s v h = absurd h

  repair_beyond : (f : Finding) → FirstIsOne → IsInside size → IsFirstBeyond bs f → AloneInRepair size bs (status.NotRepairable f)
  repair_beyond f one inside found status.Ok v h = absurd (h.room.none f found.beyond)
  repair_beyond f one inside found status.ImageFault v h = absurd (false≢true v)
  repair_beyond f one inside found (status.BadSize m) v h = absurd (outside size inside h.1)
  repair_beyond f one inside found (status.NotRepairable g) v h = ap status.NotRepairable (one bs g f h.1 found)
  repair_beyond f one inside found (status.RepairNoRoom g) v h = absurd (h.1.none f found.beyond)
  repair_beyond f one inside found status.OutFault v h = absurd (false≢true v)
  repair_beyond f one inside found status.NoMemory v h = absurd (false≢true v)
  repair_beyond f one inside found s v h = absurd h

  -- a lost file that has no room, and room for all, exclude one another
  lack_once : RoomIsTold → HasRoom bs → (g : Finding) → LacksRoom bs g → ⊥
  lack_once told room g lack =
      let same = home_one bs room.home lack.home room.read lack.read in
      room.mends (ap (λ (h : Home). mended (patched (volume h bs))) same ∙ (told.exact (patched (volume lack.home bs))).0 (lack.number, lack.lacks))

  lack_one : RoomIsTold → (f g : Finding) → LacksRoom bs f → LacksRoom bs g → g ≡ f
  lack_one told f g a b =
      let same = home_one bs b.home a.home b.read a.read in
      let other : HasNoRoom (patched (volume a.home bs)) b.number = subst (λ (h : Home). HasNoRoom (patched (volume h bs)) b.number) same b.lacks in
      b.found ∙ ap finding.NoRoom (told.one (patched (volume a.home bs)) b.number a.number other a.lacks) ∙ sym a.found

  repair_lacks : (f : Finding) → RoomIsTold → IsInside size → LacksRoom bs f → AloneInRepair size bs (status.RepairNoRoom f)
  repair_lacks f told inside lack status.Ok v h = absurd (lack_once told h.room f lack)
  repair_lacks f told inside lack status.ImageFault v h = absurd (false≢true v)
  repair_lacks f told inside lack (status.BadSize m) v h = absurd (outside size inside h.1)
  repair_lacks f told inside lack (status.NotRepairable g) v h = absurd (lack.none g h.1.beyond)
  repair_lacks f told inside lack (status.RepairNoRoom g) v h = ap status.RepairNoRoom (lack_one told f g lack h.1)
  repair_lacks f told inside lack status.OutFault v h = absurd (false≢true v)
  repair_lacks f told inside lack status.NoMemory v h = absurd (false≢true v)
  repair_lacks f told inside lack s v h = absurd h

  repair_goes : RoomIsTold → IsRepairable size bs → AloneInRepair size bs status.Ok
  repair_goes told may status.Ok v h = refl
  repair_goes told may status.ImageFault v h = absurd (false≢true v)
  repair_goes told may (status.BadSize m) v h = absurd (outside size may.inside h.1)
  repair_goes told may (status.NotRepairable g) v h = absurd (may.room.none g h.1.beyond)
  repair_goes told may (status.RepairNoRoom g) v h = absurd (lack_once told may.room g h.1)
  repair_goes told may status.OutFault v h = absurd (false≢true v)
  repair_goes told may status.NoMemory v h = absurd (false≢true v)
  repair_goes told may s v h = absurd h

  -- ---- that one is due

  by_room : (bytes : List ℕ) (home : Home) → RoomIsTold → IsInside size → NoneIsBeyond bs → home_read (home_at bs) ≡ Ok home → (o : Option (Cat × Mended)) → mended (patched (volume home bs)) ≡ o
      → HasOneVerdict (Some Repair) bytes size bs
  by_room bytes home told inside none read (Some x) e =
      let may : IsRepairable size bs = record { inside = inside; room = record { none = none; home = home; read = read; mends = λ lack. (let g : Some x ≡ None = sym e ∙ lack in cc g) } } in
      record { status = status.Ok; verdict = refl; due = may; alone = repair_goes told may }
  by_room bytes home told inside none read None e =
      let lost = (told.exact (patched (volume home bs))).1 e in
      let lack : LacksRoom bs (finding.NoRoom lost.0) = record { none = none; home = home; read = read; number = lost.0; found = refl; lacks = lost.1 } in
      record { status = status.RepairNoRoom (finding.NoRoom lost.0); verdict = refl; due = (inside, lack); alone = repair_lacks (finding.NoRoom lost.0) told inside lack }

  by_home : (bytes : List ℕ) → RoomIsTold → IsInside size → NoneIsBeyond bs → (r : Result Home HomeFault) → home_read (home_at bs) ≡ r → HasOneVerdict (Some Repair) bytes size bs
  by_home bytes told inside none (Ok home) e = by_room bytes home told inside none e (mended (patched (volume home bs))) refl
  by_home bytes told inside none (Err fault) e = absurd (none (finding.Home fault) (subst (λ (x : Result Home HomeFault). IsBeyondBy bs x (finding.Home fault)) (sym e) refl))

  by_found : (bytes : List ℕ) (first : Option Finding) → FirstIsOne → RoomIsTold → IsInside size → IsFoundBeyond bs first → HasOneVerdict (Some Repair) bytes size bs
  by_found bytes (Some f) one told inside found = record { status = status.NotRepairable f; verdict = refl; due = (inside, found); alone = repair_beyond f one inside found }
  by_found bytes None one told inside none = by_home bytes told inside none (home_read (home_at bs)) refl

  pub of_repair_blocks : (bytes : List ℕ) (first : Option Finding) → FirstIsOne → RoomIsTold → IsFoundBeyond bs first → HasOneVerdict (Some Repair) bytes size bs
  of_repair_blocks bytes first one told found =
      elim (is_size size) [
        | inr out ↦ record { status = status.BadSize size; verdict = refl; due = (refl, out); alone = repair_outside out }
        | inl inside ↦ by_found bytes first one told inside found
      ]

pub of_repair : (bytes : List ℕ) (size : ℕ) (bs : List Block) (first : Option Finding) → FirstIsOne → RoomIsTold → IsFoundBeyond bs first → HasOneVerdict (Some Repair) bytes size bs
of_repair bytes size bs first one told found = of_repair_blocks size bs bytes first one told found

-- ---- of a status that is due

pub alone_repair : (size : ℕ) (bs : List Block) (s : Status) → FirstIsOne → RoomIsTold → is_verdict s ≡ true → IsRepairDue size bs s → AloneInRepair size bs s
alone_repair size bs status.Ok one told v d = repair_goes size bs told d
alone_repair size bs status.ImageFault one told v d = absurd (false≢true v)
alone_repair size bs (status.BadSize n) one told v d = subst (λ (m : ℕ). AloneInRepair size bs (status.BadSize m)) (sym d.0) (repair_outside size bs d.1)
alone_repair size bs (status.NotRepairable f) one told v d = repair_beyond size bs f one d.0 d.1
alone_repair size bs (status.RepairNoRoom f) one told v d = repair_lacks size bs f told d.0 d.1
alone_repair size bs status.OutFault one told v d = absurd (false≢true v)
alone_repair size bs status.NoMemory one told v d = absurd (false≢true v)
alone_repair size bs s one told v d = absurd d
