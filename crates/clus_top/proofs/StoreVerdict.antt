-- Of a store exactly one status is due, but for faults and want of memory: a text is too long, or has a first line that is, or is stored or
-- refused by one thing.
use Rattle.std.proofs.Common.{◌≡◌, ◌≤◌, ◌∙◌, ℕ, Bool, true, false, List, [], ◌∷◌, Option, Some, None, Result, Ok, Err, length, refl, sym, ap, subst, inl, inr, if◌then◌else◌}
use Rattle.std.proofs.lemmas.Bool.{false≢true, cases_lt}
use Rattle.base_words.specs.Fields.{Block}
use Rattle.blk_drive.specs.Images.{IsInside, IsOutside}
use Rattle.blk_drive.proofs.Sizes.{is_size, outside}
use Rattle.fx_home.specs.declared.home.Home.{Home}
use Rattle.fx_home.specs.declared.home.HomeFault.{HomeFault}
use Rattle.fx_home.specs.Homes.{home_read}
use Rattle.vol_parts.specs.Findings.{AreFindings, home_at}
use Rattle.vol_parts.specs.Volumes.{volume}
use Rattle.vol_parts.specs.declared.finding.Finding.{Finding}
use Rattle.vol_analyze.specs.Judging.{IsFirstFound}
use Rattle.vol_records.specs.declared.types.StoreFault.{StoreFault}
use Rattle.vol_records.specs.declared.types.StoreFault.TheVariants as store
use Rattle.run_script.specs.Lines.{lines_of}
use Rattle.vol_records.specs.Lines.{long_line}
use Rattle.vol_records.specs.Storing.{refusal_by, refusal_of, store_refusal, used_file}
use Rattle.vol_records.specs.Records.{spelt}
use Rattle.run_engine.specs.declared.status.Status.{Status}
use Rattle.run_engine.specs.declared.status.Status.TheVariants as status
use Rattle.run_engine.specs.Texts.{IsTooLong, IsAccepted}
use Rattle.run_engine.specs.Verdicts.{is_verdict}
use Rattle.run_engine.proofs.Verdicts.{OneList, unfound, same_first, too_long}
use Rattle.clus_top.specs.Words.{Store}
use Rattle.clus_top.specs.Stores.{IsStorable, HasLongLine, against, IsRefused, IsTaken, IsKeepDue, IsStoreDue, store_status}
use Rattle.clus_top.specs.Verdicts.{HasOneVerdict}
use Rattle.clus_top.proofs.Keeping.{IsRefusal}

-- ---- what stands against lines is a refusal

is_this : (f g : StoreFault) → Some f ≡ Some g → IsRefusal f → IsRefusal g
is_this f g e h = let k : f ≡ g = cc e in subst IsRefusal k h

by_tests : (a b c : Bool) (g : StoreFault) → (if a then Some store.NoPriv else if b then Some store.NotEmpty else if c then Some store.NoRoom else None) ≡ Some g → IsRefusal g
by_tests true b c g e = is_this store.NoPriv g e tt
by_tests false true c g e = is_this store.NotEmpty g e tt
by_tests false false true g e = is_this store.NoRoom g e tt
by_tests false false false g e = let k : None ≡ Some g = e in absurd (cc k)

by_option : {A : Type 0} (P : Option A → Type 0) → P None → ((x : A) → P (Some x)) → (o : Option A) → P o
by_option P none some None = none
by_option P none some (Some x) = some x

by_home : (bs : List Block) (r : Result Home HomeFault) (n seq len : ℕ) (g : StoreFault) → refusal_of bs r n seq len ≡ Some g → IsRefusal g
unfolding store_refusal
by_home bs (Err fault) n seq len g e = is_this store.NoSuchFile g e tt
by_home bs (Ok home) n seq len g e =
    by_option (λ o. refusal_by n len o ≡ Some g → IsRefusal g) (λ k. is_this store.NoSuchFile g k tt) (λ f k. by_tests _ _ _ g k) (used_file (volume home bs) n seq) e

is_refusal : (n seq : ℕ) (lines : List (List ℕ)) (bs : List Block) (g : StoreFault) → against n seq lines bs ≡ Some g → IsRefusal g
is_refusal n seq lines bs g e = by_home bs (home_read (home_at bs)) n seq (length (spelt lines)) g e

-- ---- of lines

no_refusal : (o : Option StoreFault) (f : StoreFault) → o ≡ None → o ≡ Some f → ⊥
no_refusal o f h k = let e : None ≡ Some f = sym h ∙ k in cc e

same_refusal : (o : Option StoreFault) (f g : StoreFault) → o ≡ Some f → o ≡ Some g → g ≡ f
same_refusal o f g h k = let e : Some g ≡ Some f = sym k ∙ h in cc e

-- no other status of lines that are stored is due
abbrev AloneInKeep : ℕ → ℕ → List (List ℕ) → ℕ → List Block → Status → Type 0
AloneInKeep n seq lines size bs s = (other : Status) → is_verdict other ≡ true → IsKeepDue n seq lines size bs other → other ≡ s

module _ (n seq : ℕ) (lines : List (List ℕ)) (size : ℕ) (bs : List Block) where
  outside_alone : IsOutside size → AloneInKeep n seq lines size bs (status.BadSize size)
  outside_alone out status.Ok v h = absurd (outside size h.accepted.inside out)
  outside_alone out status.ImageFault v h = absurd (false≢true v)
  outside_alone out (status.BadSize m) v h = ap status.BadSize h.0
  outside_alone out (status.NotAccepted g) v h = absurd (outside size h.0 out)
  outside_alone out status.NoFile v h = absurd (outside size h.accepted.inside out)
  outside_alone out status.NoPriv v h = absurd (outside size h.accepted.inside out)
  outside_alone out status.NotEmpty v h = absurd (outside size h.accepted.inside out)
  outside_alone out status.NoRoom v h = absurd (outside size h.accepted.inside out)
  outside_alone out status.OutFault v h = absurd (false≢true v)
  outside_alone out status.NoMemory v h = absurd (false≢true v)
  outside_alone out s v h = absurd h

  found_alone : (f : Finding) → OneList bs → IsInside size → IsFirstFound bs f → AloneInKeep n seq lines size bs (status.NotAccepted f)
  found_alone f list inside found status.Ok v h = absurd (unfound bs f list h.accepted.accepted found)
  found_alone f list inside found status.ImageFault v h = absurd (false≢true v)
  found_alone f list inside found (status.BadSize m) v h = absurd (outside size inside h.1)
  found_alone f list inside found (status.NotAccepted g) v h = ap status.NotAccepted (same_first bs f g list found h.1)
  found_alone f list inside found status.NoFile v h = absurd (unfound bs f list h.accepted.accepted found)
  found_alone f list inside found status.NoPriv v h = absurd (unfound bs f list h.accepted.accepted found)
  found_alone f list inside found status.NotEmpty v h = absurd (unfound bs f list h.accepted.accepted found)
  found_alone f list inside found status.NoRoom v h = absurd (unfound bs f list h.accepted.accepted found)
  found_alone f list inside found status.OutFault v h = absurd (false≢true v)
  found_alone f list inside found status.NoMemory v h = absurd (false≢true v)
  found_alone f list inside found s v h = absurd h

  -- of an accepted volume
  module _ (list : OneList bs) where
    refused_alone : (f : StoreFault) → IsRefused n seq lines size bs f → AloneInKeep n seq lines size bs (store_status f)
    refused_alone f r status.Ok v h = absurd (no_refusal (against n seq lines bs) f h.none r.is)
    refused_alone f r status.ImageFault v h = absurd (false≢true v)
    refused_alone f r (status.BadSize m) v h = absurd (outside size r.accepted.inside h.1)
    refused_alone f r (status.NotAccepted g) v h = absurd (unfound bs g list r.accepted.accepted h.1)
    refused_alone f r status.NoFile v h = ap store_status (same_refusal (against n seq lines bs) f store.NoSuchFile r.is h.is)
    refused_alone f r status.NoPriv v h = ap store_status (same_refusal (against n seq lines bs) f store.NoPriv r.is h.is)
    refused_alone f r status.NotEmpty v h = ap store_status (same_refusal (against n seq lines bs) f store.NotEmpty r.is h.is)
    refused_alone f r status.NoRoom v h = ap store_status (same_refusal (against n seq lines bs) f store.NoRoom r.is h.is)
    refused_alone f r status.OutFault v h = absurd (false≢true v)
    refused_alone f r status.NoMemory v h = absurd (false≢true v)
    refused_alone f r s v h = absurd h

    taken_alone : IsTaken n seq lines size bs → AloneInKeep n seq lines size bs status.Ok
    taken_alone t status.Ok v h = refl
    taken_alone t status.ImageFault v h = absurd (false≢true v)
    taken_alone t (status.BadSize m) v h = absurd (outside size t.accepted.inside h.1)
    taken_alone t (status.NotAccepted g) v h = absurd (unfound bs g list t.accepted.accepted h.1)
    taken_alone t status.NoFile v h = absurd (no_refusal (against n seq lines bs) store.NoSuchFile t.none h.is)
    taken_alone t status.NoPriv v h = absurd (no_refusal (against n seq lines bs) store.NoPriv t.none h.is)
    taken_alone t status.NotEmpty v h = absurd (no_refusal (against n seq lines bs) store.NotEmpty t.none h.is)
    taken_alone t status.NoRoom v h = absurd (no_refusal (against n seq lines bs) store.NoRoom t.none h.is)
    taken_alone t status.OutFault v h = absurd (false≢true v)
    taken_alone t status.NoMemory v h = absurd (false≢true v)
    taken_alone t s v h = absurd h

    alone_keep : (s : Status) → is_verdict s ≡ true → IsKeepDue n seq lines size bs s → AloneInKeep n seq lines size bs s
    alone_keep status.Ok v d = taken_alone d
    alone_keep status.ImageFault v d = absurd (false≢true v)
    alone_keep (status.BadSize k) v d = subst (λ (m : ℕ). AloneInKeep n seq lines size bs (status.BadSize m)) (sym d.0) (outside_alone d.1)
    alone_keep (status.NotAccepted f) v d = found_alone f list d.0 d.1
    alone_keep status.NoFile v d = refused_alone store.NoSuchFile d
    alone_keep status.NoPriv v d = refused_alone store.NoPriv d
    alone_keep status.NotEmpty v d = refused_alone store.NotEmpty d
    alone_keep status.NoRoom v d = refused_alone store.NoRoom d
    alone_keep status.OutFault v d = absurd (false≢true v)
    alone_keep status.NoMemory v d = absurd (false≢true v)
    alone_keep s v d = absurd d

-- one of them is due
record HasKeepVerdict (n seq : ℕ) (lines : List (List ℕ)) (size : ℕ) (bs : List Block) : Type 0 where
  status : Status
  verdict : is_verdict status ≡ true
  due : IsKeepDue n seq lines size bs status
  alone : AloneInKeep n seq lines size bs status

module _ (n seq : ℕ) (lines : List (List ℕ)) (size : ℕ) (bs : List Block) (list : OneList bs) where
  of_refusal : (f : StoreFault) → IsRefusal f → IsRefused n seq lines size bs f → HasKeepVerdict n seq lines size bs
  of_refusal store.NoSuchFile p r = record { status = status.NoFile; verdict = refl; due = r; alone = refused_alone n seq lines size bs list store.NoSuchFile r }
  of_refusal store.NoPriv p r = record { status = status.NoPriv; verdict = refl; due = r; alone = refused_alone n seq lines size bs list store.NoPriv r }
  of_refusal store.NotEmpty p r = record { status = status.NotEmpty; verdict = refl; due = r; alone = refused_alone n seq lines size bs list store.NotEmpty r }
  of_refusal store.NoRoom p r = record { status = status.NoRoom; verdict = refl; due = r; alone = refused_alone n seq lines size bs list store.NoRoom r }
  of_refusal store.NoMemory p r = absurd p
  of_refusal store.ImageFault p r = absurd p

  of_accepted : IsAccepted size bs → (o : Option StoreFault) → against n seq lines bs ≡ o → HasKeepVerdict n seq lines size bs
  of_accepted accepted (Some f) is = of_refusal f (is_refusal n seq lines bs f is) (record { accepted = accepted; is = is })
  of_accepted accepted None is =
      let t : IsTaken n seq lines size bs = record { accepted = accepted; none = is } in
      record { status = status.Ok; verdict = refl; due = t; alone = taken_alone n seq lines size bs list t }

  of_inside : (fs : List Finding) → IsInside size → AreFindings bs fs → HasKeepVerdict n seq lines size bs
  of_inside [] inside none = of_accepted (record { inside = inside; accepted = none }) (against n seq lines bs) refl
  of_inside (f ∷ fs) inside found =
      let first : IsFirstFound bs f = (fs, found) in
      record { status = status.NotAccepted f; verdict = refl; due = (inside, first); alone = found_alone n seq lines size bs f list inside first }

  of_lines : (fs : List Finding) → AreFindings bs fs → HasKeepVerdict n seq lines size bs
  of_lines fs found =
      elim (is_size size) [
        | inr out ↦ record { status = status.BadSize size; verdict = refl; due = (refl, out); alone = outside_alone n seq lines size bs out }
        | inl inside ↦ of_inside fs inside found
      ]

-- ---- of a text

no_line : (o : Option ℕ) (k : ℕ) → o ≡ None → o ≡ Some k → ⊥
no_line o k h g = let e : None ≡ Some k = sym h ∙ g in cc e

same_line : (o : Option ℕ) (k m : ℕ) → o ≡ Some k → o ≡ Some m → m ≡ k
same_line o k m h g = let e : Some m ≡ Some k = sym g ∙ h in cc e

-- no other status of a store is due
abbrev AloneInStore : ℕ → ℕ → List ℕ → ℕ → List Block → Status → Type 0
AloneInStore n seq bytes size bs s = (other : Status) → is_verdict other ≡ true → IsStoreDue n seq bytes size bs other → other ≡ s

module _ (n seq : ℕ) (bytes : List ℕ) (size : ℕ) (bs : List Block) where
  long_alone : IsTooLong bytes → AloneInStore n seq bytes size bs status.ScriptTooLong
  long_alone long status.ScriptFault v h = absurd (false≢true v)
  long_alone long status.ScriptTooLong v h = refl
  long_alone long (status.LineLong k) v h = absurd (too_long bytes long h.within)
  long_alone long status.NoMemory v h = absurd (false≢true v)
  long_alone long s v h = absurd (too_long bytes long h.0.within)

  line_alone : (k : ℕ) → HasLongLine k bytes → AloneInStore n seq bytes size bs (status.LineLong k)
  line_alone k first status.ScriptFault v h = absurd (false≢true v)
  line_alone k first status.ScriptTooLong v h = absurd (too_long bytes h first.within)
  line_alone k first (status.LineLong m) v h = ap status.LineLong (same_line (long_line (lines_of bytes)) k m first.first h.first)
  line_alone k first status.NoMemory v h = absurd (false≢true v)
  line_alone k first s v h = absurd (no_line (long_line (lines_of bytes)) k h.0.short first.first)

  storable_alone : IsStorable bytes → (s : Status) → AloneInKeep n seq (lines_of bytes) size bs s → AloneInStore n seq bytes size bs s
  storable_alone good s a status.ScriptFault v h = absurd (false≢true v)
  storable_alone good s a status.ScriptTooLong v h = absurd (too_long bytes h good.within)
  storable_alone good s a (status.LineLong m) v h = absurd (no_line (long_line (lines_of bytes)) m good.short h.first)
  storable_alone good s a status.NoMemory v h = absurd (false≢true v)
  storable_alone good s a other v h = a other v h.1

  storable_due : IsStorable bytes → (s : Status) → IsKeepDue n seq (lines_of bytes) size bs s → IsStoreDue n seq bytes size bs s
  storable_due good status.ScriptFault h = absurd h
  storable_due good status.ScriptTooLong h = absurd h
  storable_due good (status.LineLong k) h = absurd h
  storable_due good status.NoMemory h = tt
  storable_due good s h = (good, h)

  of_text : (fs : List Finding) → OneList bs → AreFindings bs fs → length bytes ≤ 1048576 → (o : Option ℕ) → long_line (lines_of bytes) ≡ o → HasOneVerdict (Some (Store n seq)) bytes size bs
  of_text fs list found within (Some k) is =
      let first : HasLongLine k bytes = record { within = within; first = is } in
      record { status = status.LineLong k; verdict = refl; due = first; alone = line_alone k first }
  of_text fs list found within None is =
      let good : IsStorable bytes = record { within = within; short = is } in
      let k = of_lines n seq (lines_of bytes) size bs list fs found in
      record { status = k.status; verdict = k.verdict; due = storable_due good k.status k.due; alone = storable_alone good k.status k.alone }

pub of_store : (n seq : ℕ) (bytes : List ℕ) (size : ℕ) (bs : List Block) (fs : List Finding) → OneList bs → AreFindings bs fs → HasOneVerdict (Some (Store n seq)) bytes size bs
of_store n seq bytes size bs fs list found =
    elim (cases_lt 1048576 (length bytes)) [
      | inl long ↦ record { status = status.ScriptTooLong; verdict = refl; due = long; alone = long_alone n seq bytes size bs long }
      | inr within ↦ of_text n seq bytes size bs fs list found within (long_line (lines_of bytes)) refl
    ]

-- no other status is due than one that is
pub alone_store : (n seq : ℕ) (bytes : List ℕ) (size : ℕ) (bs : List Block) (s : Status) → OneList bs → is_verdict s ≡ true → IsStoreDue n seq bytes size bs s → AloneInStore n seq bytes size bs s
alone_store n seq bytes size bs status.ScriptFault list v d = absurd (false≢true v)
alone_store n seq bytes size bs status.ScriptTooLong list v d = long_alone n seq bytes size bs d
alone_store n seq bytes size bs (status.LineLong k) list v d = line_alone n seq bytes size bs k d
alone_store n seq bytes size bs status.NoMemory list v d = absurd (false≢true v)
alone_store n seq bytes size bs s list v d = storable_alone n seq bytes size bs d.0 s (alone_keep n seq (lines_of bytes) size bs list s v d.1)
