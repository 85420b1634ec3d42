-- Of all statuses exactly one is due, but for faults and want of memory.
use Rattle.std.proofs.Common.{◌≡◌, ◌≤◌, ℕ, true, length, List, [], ◌∷◌, Option, Some, None, refl, sym, ap, subst, ◌∙◌, inl, inr}
use Rattle.std.proofs.lemmas.Bool.{false≢true}
use Rattle.base_words.specs.Fields.{Block, AreWholeBlocks}
use Rattle.blk_drive.specs.Images.{IsInside, IsOutside}
use Rattle.vol_parts.specs.declared.finding.Finding.{Finding}
use Rattle.vol_parts.specs.Findings.{Weak, AreFindings, Accepts, IsFirstFatal}
use Rattle.run_script.specs.Lines.{lines_of}
use Rattle.run_script.specs.Laws.{SayOneThing}
use Rattle.vol_analyze.specs.Having.{HaveFindings}
use Rattle.vol_analyze.specs.Judging.{IsFirstFound}
use Rattle.vol_init.specs.declared.fault.InitFault.{InitFault}
use Rattle.vol_init.specs.Refusals.{refusal}
use Rattle.run_engine.specs.declared.status.Status.{Status}
use Rattle.run_engine.specs.declared.status.Status.TheVariants as status
use Rattle.run_engine.specs.Verdicts.{is_verdict, is_mended_verdict, IsRunDue}
use Rattle.blk_drive.proofs.Sizes.{is_size, outside}
use Rattle.run_engine.specs.Scripts.{IsScriptOf}
use Rattle.run_engine.specs.Texts.{IsWordsDue, IsGood, IsAccepted}
use Rattle.run_engine.proofs.Verdicts.{OneList, unfound, same_first, alone_good, words_alone, run_verdict}
use Rattle.run_engine.proofs.Verdicts.{due_alone as run_alone}
use Rattle.vol_records.specs.Records.{FaultsAreFirst}
use Rattle.vol_sound.specs.BeyondLaws.{FirstIsOne}
use Rattle.vol_repair.specs.Firsts.{FirstBeyondIsThere}
use Rattle.clus_top.specs.Words.{Wanted, Run, RunRebuild, Soak, Analyze, Rebuild, Repair, Records, Store, Init}
use Rattle.clus_top.specs.Statuses.{IsRunRebuildDue, IsSoakDue, IsAnalysisDue, IsRebuildDue, sized, IsPossible, IsInitDue, IsDue}
use Rattle.clus_top.specs.MendedRuns.{IsMendableThen, IsUnmendable}
use Rattle.clus_top.specs.Verdicts.{HasOneVerdict, is_answer_of, RunsGood}
use Rattle.clus_top.proofs.Endings.{mendable_once, unmendable_once, comes_to_end, ends_somehow}
use Rattle.clus_top.proofs.RecordsVerdict.{of_records, alone_records}
use Rattle.clus_top.proofs.RepairVerdict.{RoomIsTold, of_repair, alone_repair}
use Rattle.clus_top.proofs.StoreVerdict.{of_store, alone_store}

-- all blocks have one list of findings
abbrev OneLists : Type 0
OneLists = (bs : List Block) → OneList bs

-- and they have one
abbrev AllHaveFindings : Type 0
AllHaveFindings = (bs : List Block) → HaveFindings bs

-- no other status of an analysis is due
abbrev AloneInAnalysis : ℕ → List Block → Status → Type 0
AloneInAnalysis size bs s = (other : Status) → is_verdict other ≡ true → IsAnalysisDue size bs other → other ≡ s

size_alone : (size : ℕ) (bs : List Block) → IsOutside size → AloneInAnalysis size bs (status.BadSize size)
size_alone size bs out status.Ok v h = absurd (outside size h.inside out)
size_alone size bs out status.ImageFault v h = absurd (false≢true v)
size_alone size bs out (status.BadSize m) v h = ap status.BadSize h.0
size_alone size bs out status.Findings v h = absurd (outside size h.0 out)
size_alone size bs out status.OutFault v h = absurd (false≢true v)
size_alone size bs out status.NoMemory v h = absurd (false≢true v)
size_alone size bs out s v h = absurd h

found_alone : (size : ℕ) (bs : List Block) (f : Finding) → OneList bs → IsInside size → IsFirstFound bs f → AloneInAnalysis size bs status.Findings
found_alone size bs f list inside found status.Ok v h = absurd (unfound bs f list h.accepted found)
found_alone size bs f list inside found status.ImageFault v h = absurd (false≢true v)
found_alone size bs f list inside found (status.BadSize m) v h = absurd (outside size inside h.1)
found_alone size bs f list inside found status.Findings v h = refl
found_alone size bs f list inside found status.OutFault v h = absurd (false≢true v)
found_alone size bs f list inside found status.NoMemory v h = absurd (false≢true v)
found_alone size bs f list inside found s v h = absurd h

none_alone : (size : ℕ) (bs : List Block) → OneList bs → IsInside size → Accepts bs → AloneInAnalysis size bs status.Ok
none_alone size bs list inside none status.Ok v h = refl
none_alone size bs list inside none status.ImageFault v h = absurd (false≢true v)
none_alone size bs list inside none (status.BadSize m) v h = absurd (outside size inside h.1)
none_alone size bs list inside none status.Findings v h = absurd (unfound bs h.1.first list none h.1.found)
none_alone size bs list inside none status.OutFault v h = absurd (false≢true v)
none_alone size bs list inside none status.NoMemory v h = absurd (false≢true v)
none_alone size bs list inside none s v h = absurd h

-- nor of a soak
abbrev AloneInSoak : ℕ → ℕ → List Block → Status → Type 0
AloneInSoak n size bs s = (other : Status) → is_verdict other ≡ true → IsSoakDue n size bs other → other ≡ s

soak_outside : (n size : ℕ) (bs : List Block) → IsOutside size → AloneInSoak n size bs (status.BadSize size)
soak_outside n size bs out status.Ok v h = absurd (outside size h.inside out)
soak_outside n size bs out status.ImageFault v h = absurd (false≢true v)
soak_outside n size bs out (status.BadSize m) v h = ap status.BadSize h.0
soak_outside n size bs out (status.NotAccepted g) v h = absurd (outside size h.0 out)
soak_outside n size bs out status.OutFault v h = absurd (false≢true v)
soak_outside n size bs out status.NoMemory v h = absurd (false≢true v)
soak_outside n size bs out s v h = absurd h

soak_found : (n size : ℕ) (bs : List Block) (f : Finding) → OneList bs → IsInside size → IsFirstFound bs f → AloneInSoak n size bs (status.NotAccepted f)
soak_found n size bs f list inside found status.Ok v h = absurd (unfound bs f list h.accepted found)
soak_found n size bs f list inside found status.ImageFault v h = absurd (false≢true v)
soak_found n size bs f list inside found (status.BadSize m) v h = absurd (outside size inside h.1)
soak_found n size bs f list inside found (status.NotAccepted g) v h = ap status.NotAccepted (same_first bs f g list found h.1)
soak_found n size bs f list inside found status.OutFault v h = absurd (false≢true v)
soak_found n size bs f list inside found status.NoMemory v h = absurd (false≢true v)
soak_found n size bs f list inside found s v h = absurd h

soak_good : (n size : ℕ) (bs : List Block) → OneList bs → IsInside size → Accepts bs → AloneInSoak n size bs status.Ok
soak_good n size bs list inside none status.Ok v h = refl
soak_good n size bs list inside none status.ImageFault v h = absurd (false≢true v)
soak_good n size bs list inside none (status.BadSize m) v h = absurd (outside size inside h.1)
soak_good n size bs list inside none (status.NotAccepted g) v h = absurd (unfound bs g list none h.1)
soak_good n size bs list inside none status.OutFault v h = absurd (false≢true v)
soak_good n size bs list inside none status.NoMemory v h = absurd (false≢true v)
soak_good n size bs list inside none s v h = absurd h

of_run : (bytes : List ℕ) (size : ℕ) (bs : List Block) (fs : List Finding) → SayOneThing (lines_of bytes) → OneList bs → AreFindings bs fs → HasOneVerdict (Some Run) bytes size bs
of_run bytes size bs fs one list found =
    let r = run_verdict bytes size bs fs one list found in
    record { status = r.status; verdict = r.verdict; due = r.due; alone = r.alone }

-- ---- of a run that is mended then

-- the status of the run alone
abbrev as_run : Status → Status
as_run (status.NotMendable f) = status.Ok
as_run s = s

run_is_due : (bytes : List ℕ) (size : ℕ) (bs : List Block) (s : Status) → IsRunRebuildDue bytes size bs s → IsRunDue bytes size bs (as_run s)
run_is_due bytes size bs status.Ok d = (d.0, d.1)
run_is_due bytes size bs (status.NotMendable f) d = (d.0, d.1)
run_is_due bytes size bs status.OutFault d = (d.0, d.1)
run_is_due bytes size bs s d = d

run_is_verdict : (s : Status) → is_verdict s ≡ true → is_verdict (as_run s) ≡ true
run_is_verdict (status.NotMendable f) v = refl
run_is_verdict s v = v

-- a run that can be mended, one that cannot, and one that comes to no end
only_mendable : (bytes : List ℕ) (size : ℕ) (bs : List Block) → SayOneThing (lines_of bytes) → IsMendableThen (IsScriptOf bytes) bs → (other : Status) → IsRunRebuildDue bytes size bs other → as_run other ≡ status.Ok
    → other ≡ status.Ok
only_mendable bytes size bs one m (status.NotMendable g) d e = absurd (mendable_once bytes bs one m g d.2)
only_mendable bytes size bs one m other d e = e

only_unmendable : (bytes : List ℕ) (size : ℕ) (bs : List Block) (f : Finding) → SayOneThing (lines_of bytes) → OneLists → IsUnmendable (IsScriptOf bytes) bs f → (other : Status) → IsRunRebuildDue bytes size bs other
    → as_run other ≡ status.Ok → other ≡ status.NotMendable f
only_unmendable bytes size bs f one lists u status.Ok d e = absurd (mendable_once bytes bs one d.2 f u)
only_unmendable bytes size bs f one lists u (status.NotMendable g) d e = ap status.NotMendable (unmendable_once bytes bs one lists f g u d.2)
only_unmendable bytes size bs f one lists u other d e = absurd (cc e)

only_without_end : (s : Status) → (status.Ok ≡ s → ⊥) → (other : Status) → as_run other ≡ s → other ≡ s
only_without_end s ends (status.NotMendable g) e = absurd (ends e)
only_without_end s ends other e = e

pub alone_run_rebuild : (bytes : List ℕ) (size : ℕ) (bs : List Block) (s : Status) → SayOneThing (lines_of bytes) → OneLists → is_verdict s ≡ true → IsRunRebuildDue bytes size bs s
    → (other : Status) → is_verdict other ≡ true → IsRunRebuildDue bytes size bs other → other ≡ s
alone_run_rebuild bytes size bs s one lists v d other w h =
    let e : as_run other ≡ as_run s = run_alone bytes size bs (as_run s) one (lists bs) (run_is_verdict s v) (run_is_due bytes size bs s d) (as_run other) (run_is_verdict other w) (run_is_due bytes size bs other h) in
    by s d e where
      by : (s : Status) → IsRunRebuildDue bytes size bs s → as_run other ≡ as_run s → other ≡ s
      by status.Ok d e = only_mendable bytes size bs one d.2 other h e
      by (status.NotMendable f) d e = only_unmendable bytes size bs f one lists d.2 other h e
      by s d e = only_without_end s (λ k. cc k) other e

-- a good script on an accepted volume: the run comes to its end, which can be mended or not
of_end : (bytes : List ℕ) (size : ℕ) (bs : List Block) → SayOneThing (lines_of bytes) → OneLists → AllHaveFindings → length bs ≡ size → AreWholeBlocks bs → IsGood bytes → IsAccepted size bs → HasOneVerdict (Some RunRebuild) bytes size bs
of_end bytes size bs one lists found count whole good accepted =
    let end = comes_to_end bytes bs good (subst (λ (k : ℕ). 64 ≤ k) (sym count) accepted.inside.low) (subst (λ (k : ℕ). k ≤ 65536) (sym count) accepted.inside.high) whole accepted.accepted in
    elim (ends_somehow (IsScriptOf bytes) bs end.0 end.1 found) [
      | inl m ↦ record { status = status.Ok; verdict = refl; due = (good, accepted, m); alone = alone_run_rebuild bytes size bs status.Ok one lists refl (good, accepted, m) }
      | inr u ↦ record { status = status.NotMendable u.0; verdict = refl; due = (good, accepted, u.1); alone = alone_run_rebuild bytes size bs (status.NotMendable u.0) one lists refl (good, accepted, u.1) }
    ]

-- by the status of the run alone
of_run_rebuild : (bytes : List ℕ) (size : ℕ) (bs : List Block) → SayOneThing (lines_of bytes) → OneLists → AllHaveFindings → length bs ≡ size → AreWholeBlocks bs → HasOneVerdict (Some RunRebuild) bytes size bs
of_run_rebuild bytes size bs one lists found count whole =
    let there = found bs in
    let r = of_run bytes size bs there.findings one (lists bs) there.are in
    by r.status r.verdict r.due where
      by : (s : Status) → is_verdict s ≡ true → IsRunDue bytes size bs s → HasOneVerdict (Some RunRebuild) bytes size bs
      by status.Ok v d = of_end bytes size bs one lists found count whole d.0 d.1
      by (status.NotMendable f) v d = absurd d
      by status.OutFault v d = absurd (false≢true v)
      by s v d = record { status = s; verdict = v; due = d; alone = alone_run_rebuild bytes size bs s one lists v d }

of_mounted : (n : ℕ) (bytes : List ℕ) (size : ℕ) (bs : List Block) (fs : List Finding) → OneList bs → IsInside size → AreFindings bs fs → HasOneVerdict (Some (Soak n)) bytes size bs
of_mounted n bytes size bs [] list inside none = record {
  status = status.Ok;
  verdict = refl;
  due = record { inside = inside; accepted = none };
  alone = soak_good n size bs list inside none;
}
of_mounted n bytes size bs (f ∷ fs) list inside found =
    let first : IsFirstFound bs f = (fs, found) in
    record { status = status.NotAccepted f; verdict = refl; due = (inside, first); alone = soak_found n size bs f list inside first }

of_soak : (n : ℕ) (bytes : List ℕ) (size : ℕ) (bs : List Block) (fs : List Finding) → OneList bs → AreFindings bs fs → HasOneVerdict (Some (Soak n)) bytes size bs
of_soak n bytes size bs fs list found =
    elim (is_size size) [
      | inr out ↦ record { status = status.BadSize size; verdict = refl; due = (refl, out); alone = soak_outside n size bs out }
      | inl inside ↦ of_mounted n bytes size bs fs list inside found
    ]

of_found : (bytes : List ℕ) (size : ℕ) (bs : List Block) (fs : List Finding) → OneList bs → IsInside size → AreFindings bs fs → HasOneVerdict (Some Analyze) bytes size bs
of_found bytes size bs [] list inside none = record {
  status = status.Ok;
  verdict = refl;
  due = record { inside = inside; accepted = none };
  alone = none_alone size bs list inside none;
}
of_found bytes size bs (f ∷ fs) list inside found =
    let first : IsFirstFound bs f = (fs, found) in
    record {
      status = status.Findings;
      verdict = refl;
      due = (inside, record { first = f; found = first });
      alone = found_alone size bs f list inside first;
    }

of_analysis : (bytes : List ℕ) (size : ℕ) (bs : List Block) (fs : List Finding) → OneList bs → AreFindings bs fs → HasOneVerdict (Some Analyze) bytes size bs
of_analysis bytes size bs fs list found =
    elim (is_size size) [
      | inr out ↦ record { status = status.BadSize size; verdict = refl; due = (refl, out); alone = size_alone size bs out }
      | inl inside ↦ of_found bytes size bs fs list inside found
    ]

-- nor of a format
abbrev AloneInInit : ℕ → ℕ → List ℕ → ℕ → Status → Type 0
AloneInInit cluster files label size s = (other : Status) → is_verdict other ≡ true → IsInitDue cluster files label size other → other ≡ s

no_fault : (o : Option InitFault) (f : InitFault) → o ≡ None → o ≡ Some f → ⊥
no_fault o f h k = let e : None ≡ Some f = sym h ∙ k in cc e

same_fault : (o : Option InitFault) (f g : InitFault) → o ≡ Some f → o ≡ Some g → g ≡ f
same_fault o f g h k = let e : Some f ≡ Some g = sym h ∙ k in cc e

size_alone_in : (cluster files : ℕ) (label : List ℕ) (size : ℕ) → IsOutside size → AloneInInit cluster files label size (status.BadSize size)
size_alone_in cluster files label size out status.Ok v h = absurd (outside size h.inside out)
size_alone_in cluster files label size out status.ImageFault v h = absurd (false≢true v)
size_alone_in cluster files label size out (status.BadSize m) v h = ap status.BadSize h.0
size_alone_in cluster files label size out status.OutFault v h = absurd (false≢true v)
size_alone_in cluster files label size out status.NoMemory v h = absurd (false≢true v)
size_alone_in cluster files label size out (status.BadInit g) v h = absurd (outside size h.0 out)
size_alone_in cluster files label size out s v h = absurd h

refused_alone : (cluster files : ℕ) (label : List ℕ) (size : ℕ) (f : InitFault) → IsInside size → refusal (sized cluster files size) label ≡ Some f → AloneInInit cluster files label size (status.BadInit f)
refused_alone cluster files label size f inside is status.Ok v h = absurd (no_fault (refusal (sized cluster files size) label) f h.possible is)
refused_alone cluster files label size f inside is status.ImageFault v h = absurd (false≢true v)
refused_alone cluster files label size f inside is (status.BadSize m) v h = absurd (outside size inside h.1)
refused_alone cluster files label size f inside is status.OutFault v h = absurd (false≢true v)
refused_alone cluster files label size f inside is status.NoMemory v h = absurd (false≢true v)
refused_alone cluster files label size f inside is (status.BadInit g) v h = ap status.BadInit (same_fault (refusal (sized cluster files size) label) f g is h.1)
refused_alone cluster files label size f inside is s v h = absurd h

possible_alone : (cluster files : ℕ) (label : List ℕ) (size : ℕ) → IsPossible cluster files label size → AloneInInit cluster files label size status.Ok
possible_alone cluster files label size may status.Ok v h = refl
possible_alone cluster files label size may status.ImageFault v h = absurd (false≢true v)
possible_alone cluster files label size may (status.BadSize m) v h = absurd (outside size may.inside h.1)
possible_alone cluster files label size may status.OutFault v h = absurd (false≢true v)
possible_alone cluster files label size may status.NoMemory v h = absurd (false≢true v)
possible_alone cluster files label size may (status.BadInit g) v h = absurd (no_fault (refusal (sized cluster files size) label) g may.possible h.1)
possible_alone cluster files label size may s v h = absurd h

-- what is refused is told, and else the image is formatted
of_format : (cluster files : ℕ) (label : List ℕ) (bytes : List ℕ) (size : ℕ) (bs : List Block) (o : Option InitFault) → IsInside size
    → refusal (sized cluster files size) label ≡ o → HasOneVerdict (Some (Init cluster files label)) bytes size bs
of_format cluster files label bytes size bs (Some f) inside is =
    record { status = status.BadInit f; verdict = refl; due = (inside, is); alone = refused_alone cluster files label size f inside is }
of_format cluster files label bytes size bs None inside is =
    let may : IsPossible cluster files label size = record { inside = inside; possible = is } in
    record { status = status.Ok; verdict = refl; due = may; alone = possible_alone cluster files label size may }

of_init : (cluster files : ℕ) (label : List ℕ) (bytes : List ℕ) (size : ℕ) (bs : List Block) → HasOneVerdict (Some (Init cluster files label)) bytes size bs
of_init cluster files label bytes size bs =
    elim (is_size size) [
      | inr out ↦ record { status = status.BadSize size; verdict = refl; due = (refl, out); alone = size_alone_in cluster files label size out }
      | inl inside ↦ of_format cluster files label bytes size bs (refusal (sized cluster files size) label) inside refl
    ]

-- blocks have one first fatal finding
same_fatal : (bs : List Block) (f g : Finding) → OneList bs → IsFirstFatal bs f → IsFirstFatal bs g → g ≡ f
same_fatal bs f g one found other =
    let e : g ∷ [] ≡ f ∷ [] = one (g ∷ []) (f ∷ []) (inl (g, other, refl)) (inl (f, found, refl)) in cc e

-- nor of a mending
abbrev AloneInRebuild : ℕ → List Block → Status → Type 0
AloneInRebuild size bs s = (other : Status) → is_verdict other ≡ true → IsRebuildDue size bs other → other ≡ s

rebuild_outside : (size : ℕ) (bs : List Block) → IsOutside size → AloneInRebuild size bs (status.BadSize size)
rebuild_outside size bs out status.Ok v h = absurd (outside size h.inside out)
rebuild_outside size bs out status.ImageFault v h = absurd (false≢true v)
rebuild_outside size bs out (status.BadSize m) v h = ap status.BadSize h.0
rebuild_outside size bs out (status.NotMendable g) v h = absurd (outside size h.0 out)
rebuild_outside size bs out status.OutFault v h = absurd (false≢true v)
rebuild_outside size bs out status.NoMemory v h = absurd (false≢true v)
rebuild_outside size bs out s v h = absurd h

rebuild_fatal : (size : ℕ) (bs : List Block) (f : Finding) → OneList bs → IsInside size → IsFirstFatal bs f → AloneInRebuild size bs (status.NotMendable f)
rebuild_fatal size bs f list inside found status.Ok v h = absurd (h.weak f found.fatal)
rebuild_fatal size bs f list inside found status.ImageFault v h = absurd (false≢true v)
rebuild_fatal size bs f list inside found (status.BadSize m) v h = absurd (outside size inside h.1)
rebuild_fatal size bs f list inside found (status.NotMendable g) v h = ap status.NotMendable (same_fatal bs f g list found h.1)
rebuild_fatal size bs f list inside found status.OutFault v h = absurd (false≢true v)
rebuild_fatal size bs f list inside found status.NoMemory v h = absurd (false≢true v)
rebuild_fatal size bs f list inside found s v h = absurd h

rebuild_weak : (size : ℕ) (bs : List Block) → IsInside size → Weak bs → AloneInRebuild size bs status.Ok
rebuild_weak size bs inside weak status.Ok v h = refl
rebuild_weak size bs inside weak status.ImageFault v h = absurd (false≢true v)
rebuild_weak size bs inside weak (status.BadSize m) v h = absurd (outside size inside h.1)
rebuild_weak size bs inside weak (status.NotMendable g) v h = absurd (weak g h.1.fatal)
rebuild_weak size bs inside weak status.OutFault v h = absurd (false≢true v)
rebuild_weak size bs inside weak status.NoMemory v h = absurd (false≢true v)
rebuild_weak size bs inside weak s v h = absurd h

of_blocks : (bytes : List ℕ) (size : ℕ) (bs : List Block) (fs : List Finding) → OneList bs → IsInside size → AreFindings bs fs → HasOneVerdict (Some Rebuild) bytes size bs
of_blocks bytes size bs fs list inside (inl found) = record {
  status = status.NotMendable found.0;
  verdict = refl;
  due = (inside, found.1);
  alone = rebuild_fatal size bs found.0 list inside found.1;
}
of_blocks bytes size bs fs list inside (inr found) = record {
  status = status.Ok;
  verdict = refl;
  due = record { inside = inside; weak = found.0 };
  alone = rebuild_weak size bs inside found.0;
}

of_rebuild : (bytes : List ℕ) (size : ℕ) (bs : List Block) (fs : List Finding) → OneList bs → AreFindings bs fs → HasOneVerdict (Some Rebuild) bytes size bs
of_rebuild bytes size bs fs list found =
    elim (is_size size) [
      | inr out ↦ record { status = status.BadSize size; verdict = refl; due = (refl, out); alone = rebuild_outside size bs out }
      | inl inside ↦ of_blocks bytes size bs fs list inside found
    ]

pub one_verdict : (wanted : Option Wanted) (bytes : List ℕ) (size : ℕ) (bs : List Block) → SayOneThing (lines_of bytes) → OneLists → AllHaveFindings → FaultsAreFirst → FirstBeyondIsThere → FirstIsOne → RoomIsTold → length bs ≡ size → AreWholeBlocks bs
    → HasOneVerdict wanted bytes size bs
one_verdict None bytes size bs one lists found faults there_is first room count whole = record { status = status.BadWords; verdict = refl; due = tt; alone = words_alone }
one_verdict (Some Run) bytes size bs one lists found faults there_is first room count whole = let there = found bs in of_run bytes size bs there.findings one (lists bs) there.are
one_verdict (Some RunRebuild) bytes size bs one lists found faults there_is first room count whole = of_run_rebuild bytes size bs one lists found count whole
one_verdict (Some (Soak n)) bytes size bs one lists found faults there_is first room count whole = let there = found bs in of_soak n bytes size bs there.findings (lists bs) there.are
one_verdict (Some Analyze) bytes size bs one lists found faults there_is first room count whole = let there = found bs in of_analysis bytes size bs there.findings (lists bs) there.are
one_verdict (Some Rebuild) bytes size bs one lists found faults there_is first room count whole = let there = found bs in of_rebuild bytes size bs there.findings (lists bs) there.are
one_verdict (Some Repair) bytes size bs one lists found faults there_is first room count whole = let f = there_is bs in of_repair bytes size bs f.0 first room f.1
one_verdict (Some (Records n seq)) bytes size bs one lists found faults there_is first room count whole = let there = found bs in of_records n seq bytes size bs there.findings faults (lists bs) there.are
one_verdict (Some (Store n seq)) bytes size bs one lists found faults there_is first room count whole = let there = found bs in of_store n seq bytes size bs there.findings (lists bs) there.are
one_verdict (Some (Init cluster files label)) bytes size bs one lists found faults there_is first room count whole = of_init cluster files label bytes size bs

-- ---- of a status that is due

alone_analysis : (size : ℕ) (bs : List Block) (s : Status) → OneList bs → is_verdict s ≡ true → IsAnalysisDue size bs s → AloneInAnalysis size bs s
alone_analysis size bs status.Ok list v d = none_alone size bs list d.inside d.accepted
alone_analysis size bs status.ImageFault list v d = absurd (false≢true v)
alone_analysis size bs (status.BadSize n) list v d = subst (λ (m : ℕ). AloneInAnalysis size bs (status.BadSize m)) (sym d.0) (size_alone size bs d.1)
alone_analysis size bs status.Findings list v d = found_alone size bs d.1.first list d.0 d.1.found
alone_analysis size bs status.OutFault list v d = absurd (false≢true v)
alone_analysis size bs status.NoMemory list v d = absurd (false≢true v)
alone_analysis size bs s list v d = absurd d

alone_soak : (n size : ℕ) (bs : List Block) (s : Status) → OneList bs → is_verdict s ≡ true → IsSoakDue n size bs s → AloneInSoak n size bs s
alone_soak n size bs status.Ok list v d = soak_good n size bs list d.inside d.accepted
alone_soak n size bs status.ImageFault list v d = absurd (false≢true v)
alone_soak n size bs (status.BadSize k) list v d = subst (λ (m : ℕ). AloneInSoak n size bs (status.BadSize m)) (sym d.0) (soak_outside n size bs d.1)
alone_soak n size bs (status.NotAccepted f) list v d = soak_found n size bs f list d.0 d.1
alone_soak n size bs status.OutFault list v d = absurd (false≢true v)
alone_soak n size bs status.NoMemory list v d = absurd (false≢true v)
alone_soak n size bs s list v d = absurd d

alone_rebuild : (size : ℕ) (bs : List Block) (s : Status) → OneList bs → is_verdict s ≡ true → IsRebuildDue size bs s → AloneInRebuild size bs s
alone_rebuild size bs status.Ok list v d = rebuild_weak size bs d.inside d.weak
alone_rebuild size bs status.ImageFault list v d = absurd (false≢true v)
alone_rebuild size bs (status.BadSize n) list v d = subst (λ (m : ℕ). AloneInRebuild size bs (status.BadSize m)) (sym d.0) (rebuild_outside size bs d.1)
alone_rebuild size bs (status.NotMendable f) list v d = rebuild_fatal size bs f list d.0 d.1
alone_rebuild size bs status.OutFault list v d = absurd (false≢true v)
alone_rebuild size bs status.NoMemory list v d = absurd (false≢true v)
alone_rebuild size bs s list v d = absurd d

alone_init : (cluster files : ℕ) (label : List ℕ) (size : ℕ) (s : Status) → is_verdict s ≡ true → IsInitDue cluster files label size s → AloneInInit cluster files label size s
alone_init cluster files label size status.Ok v d = possible_alone cluster files label size d
alone_init cluster files label size status.ImageFault v d = absurd (false≢true v)
alone_init cluster files label size (status.BadSize n) v d = subst (λ (m : ℕ). AloneInInit cluster files label size (status.BadSize m)) (sym d.0) (size_alone_in cluster files label size d.1)
alone_init cluster files label size (status.BadInit f) v d = refused_alone cluster files label size f d.0 d.1
alone_init cluster files label size status.OutFault v d = absurd (false≢true v)
alone_init cluster files label size status.NoMemory v d = absurd (false≢true v)
alone_init cluster files label size s v d = absurd d

alone_words : (s : Status) → is_verdict s ≡ true → IsWordsDue s → (other : Status) → is_verdict other ≡ true → IsWordsDue other → other ≡ s
alone_words status.BadWords v d = words_alone
alone_words status.NoMemory v d = absurd (false≢true v)
alone_words s v d = absurd d

-- no other status is due than one that is
pub due_alone : (wanted : Option Wanted) (bytes : List ℕ) (size : ℕ) (bs : List Block) (s : Status) → SayOneThing (lines_of bytes) → OneLists → FirstIsOne → RoomIsTold → is_verdict s ≡ true → IsDue wanted bytes size bs s
    → (other : Status) → is_verdict other ≡ true → IsDue wanted bytes size bs other → other ≡ s
due_alone None bytes size bs s one lists first room v d = alone_words s v d
due_alone (Some Run) bytes size bs s one lists first room v d = run_alone bytes size bs s one (lists bs) v d
due_alone (Some RunRebuild) bytes size bs s one lists first room v d = alone_run_rebuild bytes size bs s one lists v d
due_alone (Some (Soak n)) bytes size bs s one lists first room v d = alone_soak n size bs s (lists bs) v d
due_alone (Some Analyze) bytes size bs s one lists first room v d = alone_analysis size bs s (lists bs) v d
due_alone (Some Rebuild) bytes size bs s one lists first room v d = alone_rebuild size bs s (lists bs) v d
due_alone (Some Repair) bytes size bs s one lists first room v d = alone_repair size bs s first room v d
due_alone (Some (Records n seq)) bytes size bs s one lists first room v d = alone_records n seq size bs s (lists bs) v d
due_alone (Some (Store n seq)) bytes size bs s one lists first room v d = alone_store n seq bytes size bs s (lists bs) v d
due_alone (Some (Init cluster files label)) bytes size bs s one lists first room v d = alone_init cluster files label size s v d

-- ---- a good script on an accepted volume

-- of a run that is mended then, where its volume can be mended
good_mended : (bytes : List ℕ) (size : ℕ) (bs : List Block) (s : Status) → SayOneThing (lines_of bytes) → OneList bs → IsGood bytes → IsInside size → Accepts bs → is_mended_verdict s ≡ true → IsRunRebuildDue bytes size bs s
    → s ≡ status.Ok
good_mended bytes size bs status.Ok one list good inside none v h = refl
good_mended bytes size bs (status.NotMendable f) one list good inside none v h = absurd (false≢true v)
good_mended bytes size bs status.OutFault one list good inside none v h = absurd (false≢true v)
good_mended bytes size bs s one list good inside none v h = alone_good bytes size bs one list good inside none s v h

pub answered : (wanted : Option Wanted) (bytes : List ℕ) (size : ℕ) (bs : List Block) (s : Status) → SayOneThing (lines_of bytes) → OneList bs → RunsGood wanted bytes → IsInside size → Accepts bs
    → is_answer_of wanted s ≡ true → IsDue wanted bytes size bs s → s ≡ status.Ok
answered None bytes size bs s one list good inside none v h = absurd good
answered (Some Run) bytes size bs s one list good inside none v h = alone_good bytes size bs one list good inside none s v h
answered (Some RunRebuild) bytes size bs s one list good inside none v h = good_mended bytes size bs s one list good inside none v h
answered (Some (Soak n)) bytes size bs s one list good inside none v h = soak_good n size bs list inside none s v h
answered (Some Analyze) bytes size bs s one list good inside none v h = absurd good
answered (Some Rebuild) bytes size bs s one list good inside none v h = absurd good
answered (Some Repair) bytes size bs s one list good inside none v h = absurd good
answered (Some (Records n seq)) bytes size bs s one list good inside none v h = absurd good
answered (Some (Store n seq)) bytes size bs s one list good inside none v h = absurd good
answered (Some (Init cluster files label)) bytes size bs s one list good inside none v h = absurd good
