-- Of the records of a file exactly one status is due, but for faults and want of memory: a file has one stream, and that is records or not.
use Rattle.std.proofs.Common.{◌≡◌, ◌∙◌, ℕ, true, List, [], ◌∷◌, Option, Some, None, Result, Ok, Err, refl, sym, ap, subst, inl, inr}
use Rattle.std.proofs.lemmas.Bool.{false≢true}
use Rattle.base_words.specs.Fields.{Block}
use Rattle.blk_drive.specs.Images.{IsInside, IsOutside}
use Rattle.blk_drive.proofs.Sizes.{is_size, outside}
use Rattle.vol_parts.specs.declared.finding.Finding.{Finding}
use Rattle.vol_parts.specs.Findings.{AreFindings}
use Rattle.vol_analyze.specs.Judging.{IsFirstFound}
use Rattle.vol_records.specs.declared.types.Rec.{Rec}
use Rattle.vol_records.specs.declared.types.RecFault.{RecFault}
use Rattle.vol_records.specs.declared.types.RecFault.TheVariants as fault
use Rattle.vol_records.specs.Records.{records_of, FaultsAreFirst}
use Rattle.vol_records.specs.Streams.{stream_at}
use Rattle.run_engine.specs.declared.status.Status.{Status}
use Rattle.run_engine.specs.declared.status.Status.TheVariants as status
use Rattle.run_engine.specs.Texts.{IsAccepted}
use Rattle.run_engine.specs.Verdicts.{is_verdict}
use Rattle.run_engine.proofs.Verdicts.{OneList, unfound, same_first}
use Rattle.clus_top.specs.Words.{Records}
use Rattle.clus_top.specs.Records.{HasRecords, IsBadAt, HasBadRecord}
use Rattle.clus_top.specs.Statuses.{IsRecordsDue}
use Rattle.clus_top.specs.Verdicts.{HasOneVerdict}

no_stream : (o : Option (List ℕ)) (s : List ℕ) → o ≡ None → o ≡ Some s → ⊥
no_stream o s h k = let e : None ≡ Some s = sym h ∙ k in cc e

one_stream : (o : Option (List ℕ)) (s t : List ℕ) → o ≡ Some s → o ≡ Some t → s ≡ t
one_stream o s t h k = let e : Some s ≡ Some t = sym h ∙ k in cc e

same_byte : (r : Result (List Rec) RecFault) (at other : ℕ) → IsBadAt at r → IsBadAt other r → other ≡ at
same_byte (Ok places) at other h k = absurd h
same_byte (Err (fault.BadCount byte)) at other h k = k ∙ sym h
same_byte (Err (fault.Truncated byte)) at other h k = k ∙ sym h
same_byte (Err fault.NoMemory) at other h k = absurd h

module _ (n seq : ℕ) (bs : List Block) where
  read_by : (g : HasRecords n seq bs) (s : List ℕ) → stream_at bs n seq ≡ Some s → records_of s ≡ Ok g.places
  read_by g s there = subst (λ (x : List ℕ). records_of x ≡ Ok g.places) (one_stream (stream_at bs n seq) g.stream s g.there there) g.read

  not_both : (at : ℕ) → HasRecords n seq bs → HasBadRecord n seq bs at → ⊥
  not_both at g b = subst (IsBadAt at) (read_by g b.stream b.there) b.bad

  one_byte : (at other : ℕ) → HasBadRecord n seq bs at → HasBadRecord n seq bs other → other ≡ at
  one_byte at other a b =
      same_byte (records_of a.stream) at other a.bad
      (subst (λ (x : List ℕ). IsBadAt other (records_of x)) (one_stream (stream_at bs n seq) b.stream a.stream b.there a.there) b.bad)

-- no other status of the records of a file is due
abbrev AloneInRecords : ℕ → ℕ → ℕ → List Block → Status → Type 0
AloneInRecords n seq size bs s = (other : Status) → is_verdict other ≡ true → IsRecordsDue n seq size bs other → other ≡ s

outside_alone : (n seq size : ℕ) (bs : List Block) → IsOutside size → AloneInRecords n seq size bs (status.BadSize size)
outside_alone n seq size bs out status.Ok v h = absurd (outside size h.0.inside out)
outside_alone n seq size bs out status.ImageFault v h = absurd (false≢true v)
outside_alone n seq size bs out (status.BadSize m) v h = ap status.BadSize h.0
outside_alone n seq size bs out (status.NotAccepted g) v h = absurd (outside size h.0 out)
outside_alone n seq size bs out status.NoFile v h = absurd (outside size h.0.inside out)
outside_alone n seq size bs out (status.BadRecord m) v h = absurd (outside size h.0.inside out)
outside_alone n seq size bs out status.OutFault v h = absurd (false≢true v)
outside_alone n seq size bs out status.NoMemory v h = absurd (false≢true v)
outside_alone n seq size bs out s v h = absurd h

found_alone : (n seq size : ℕ) (bs : List Block) (f : Finding) → OneList bs → IsInside size → IsFirstFound bs f → AloneInRecords n seq size bs (status.NotAccepted f)
found_alone n seq size bs f list inside found status.Ok v h = absurd (unfound bs f list h.0.accepted found)
found_alone n seq size bs f list inside found status.ImageFault v h = absurd (false≢true v)
found_alone n seq size bs f list inside found (status.BadSize m) v h = absurd (outside size inside h.1)
found_alone n seq size bs f list inside found (status.NotAccepted g) v h = ap status.NotAccepted (same_first bs f g list found h.1)
found_alone n seq size bs f list inside found status.NoFile v h = absurd (unfound bs f list h.0.accepted found)
found_alone n seq size bs f list inside found (status.BadRecord m) v h = absurd (unfound bs f list h.0.accepted found)
found_alone n seq size bs f list inside found status.OutFault v h = absurd (false≢true v)
found_alone n seq size bs f list inside found status.NoMemory v h = absurd (false≢true v)
found_alone n seq size bs f list inside found s v h = absurd h

-- of an accepted volume
module _ (n seq size : ℕ) (bs : List Block) (list : OneList bs) (accepted : IsAccepted size bs) where
  none_alone : stream_at bs n seq ≡ None → AloneInRecords n seq size bs status.NoFile
  none_alone none status.Ok v h = absurd (no_stream (stream_at bs n seq) h.1.stream none h.1.there)
  none_alone none status.ImageFault v h = absurd (false≢true v)
  none_alone none (status.BadSize m) v h = absurd (outside size accepted.inside h.1)
  none_alone none (status.NotAccepted g) v h = absurd (unfound bs g list accepted.accepted h.1)
  none_alone none status.NoFile v h = refl
  none_alone none (status.BadRecord m) v h = absurd (no_stream (stream_at bs n seq) h.1.stream none h.1.there)
  none_alone none status.OutFault v h = absurd (false≢true v)
  none_alone none status.NoMemory v h = absurd (false≢true v)
  none_alone none s v h = absurd h

  bad_alone : (at : ℕ) → HasBadRecord n seq bs at → AloneInRecords n seq size bs (status.BadRecord at)
  bad_alone at bad status.Ok v h = absurd (not_both n seq bs at h.1 bad)
  bad_alone at bad status.ImageFault v h = absurd (false≢true v)
  bad_alone at bad (status.BadSize m) v h = absurd (outside size accepted.inside h.1)
  bad_alone at bad (status.NotAccepted g) v h = absurd (unfound bs g list accepted.accepted h.1)
  bad_alone at bad status.NoFile v h = absurd (no_stream (stream_at bs n seq) bad.stream h.1 bad.there)
  bad_alone at bad (status.BadRecord m) v h = ap status.BadRecord (one_byte n seq bs at m bad h.1)
  bad_alone at bad status.OutFault v h = absurd (false≢true v)
  bad_alone at bad status.NoMemory v h = absurd (false≢true v)
  bad_alone at bad s v h = absurd h

  good_alone : HasRecords n seq bs → AloneInRecords n seq size bs status.Ok
  good_alone good status.Ok v h = refl
  good_alone good status.ImageFault v h = absurd (false≢true v)
  good_alone good (status.BadSize m) v h = absurd (outside size accepted.inside h.1)
  good_alone good (status.NotAccepted g) v h = absurd (unfound bs g list accepted.accepted h.1)
  good_alone good status.NoFile v h = absurd (no_stream (stream_at bs n seq) good.stream h.1 good.there)
  good_alone good (status.BadRecord m) v h = absurd (not_both n seq bs m good h.1)
  good_alone good status.OutFault v h = absurd (false≢true v)
  good_alone good status.NoMemory v h = absurd (false≢true v)
  good_alone good s v h = absurd h

  module _ (bytes : List ℕ) (faults : FaultsAreFirst) where
    of_bad : (at : ℕ) → HasBadRecord n seq bs at → HasOneVerdict (Some (Records n seq)) bytes size bs
    of_bad at bad = record { status = status.BadRecord at; verdict = refl; due = (accepted, bad); alone = bad_alone at bad }

    -- by what is read of the stream
    of_stream : (stream : List ℕ) → stream_at bs n seq ≡ Some stream → (r : Result (List Rec) RecFault) → records_of stream ≡ r → HasOneVerdict (Some (Records n seq)) bytes size bs
    of_stream stream there (Ok places) is =
        let good : HasRecords n seq bs = record { stream = stream; there = there; places = places; read = is } in
        record { status = status.Ok; verdict = refl; due = (accepted, good); alone = good_alone good }
    of_stream stream there (Err (fault.BadCount at)) is = of_bad at (record { stream = stream; there = there; bad = subst (IsBadAt at) (sym is) refl })
    of_stream stream there (Err (fault.Truncated at)) is = of_bad at (record { stream = stream; there = there; bad = subst (IsBadAt at) (sym is) refl })
    of_stream stream there (Err fault.NoMemory) is = absurd (((faults stream fault.NoMemory).0 is).here)

    of_file : (o : Option (List ℕ)) → stream_at bs n seq ≡ o → HasOneVerdict (Some (Records n seq)) bytes size bs
    of_file None is = record { status = status.NoFile; verdict = refl; due = (accepted, is); alone = none_alone is }
    of_file (Some stream) is = of_stream stream is (records_of stream) refl

of_inside : (n seq : ℕ) (bytes : List ℕ) (size : ℕ) (bs : List Block) (fs : List Finding) → FaultsAreFirst → OneList bs → IsInside size → AreFindings bs fs → HasOneVerdict (Some (Records n seq)) bytes size bs
of_inside n seq bytes size bs [] faults list inside none = of_file n seq size bs list (record { inside = inside; accepted = none }) bytes faults (stream_at bs n seq) refl
of_inside n seq bytes size bs (f ∷ fs) faults list inside found =
    let first : IsFirstFound bs f = (fs, found) in
    record { status = status.NotAccepted f; verdict = refl; due = (inside, first); alone = found_alone n seq size bs f list inside first }

pub of_records : (n seq : ℕ) (bytes : List ℕ) (size : ℕ) (bs : List Block) (fs : List Finding) → FaultsAreFirst → OneList bs → AreFindings bs fs → HasOneVerdict (Some (Records n seq)) bytes size bs
of_records n seq bytes size bs fs faults list found =
    elim (is_size size) [
      | inr out ↦ record { status = status.BadSize size; verdict = refl; due = (refl, out); alone = outside_alone n seq size bs out }
      | inl inside ↦ of_inside n seq bytes size bs fs faults list inside found
    ]

-- no other status is due than one that is
pub alone_records : (n seq size : ℕ) (bs : List Block) (s : Status) → OneList bs → is_verdict s ≡ true → IsRecordsDue n seq size bs s → AloneInRecords n seq size bs s
alone_records n seq size bs status.Ok list v d = good_alone n seq size bs list d.0 d.1
alone_records n seq size bs status.ImageFault list v d = absurd (false≢true v)
alone_records n seq size bs (status.BadSize k) list v d = subst (λ (m : ℕ). AloneInRecords n seq size bs (status.BadSize m)) (sym d.0) (outside_alone n seq size bs d.1)
alone_records n seq size bs (status.NotAccepted f) list v d = found_alone n seq size bs f list d.0 d.1
alone_records n seq size bs status.NoFile list v d = none_alone n seq size bs list d.0 d.1
alone_records n seq size bs (status.BadRecord at) list v d = bad_alone n seq size bs list d.0 at d.1
alone_records n seq size bs status.OutFault list v d = absurd (false≢true v)
alone_records n seq size bs status.NoMemory list v d = absurd (false≢true v)
alone_records n seq size bs s list v d = absurd d
