-- Lines that are stored in a file of an image: what is said of the blocks in memory is said of those that the image has.
use Rattle.std.proofs.Common.{◌≡◌, ◌≤◌, ◌∙◌, ◌*◌, ◌==◌, ◌||◌, not, nat_le, nat_lt, ℕ, Bool, true, false, cond, List, Option, Some, None, Result, Ok, Err, IfOk, length, take, refl, sym, ap, subst, inl, inr}
use Rattle.base_words.specs.Fields.{Block}
use Rattle.base_words.specs.Lists.{written}
use Rattle.blk_drive.specs.Images.{IsInside, IsOutside}
use Rattle.blk_drive.specs.Loads.{HasLoadCause}
use Rattle.blk_drive.specs.Telling.{IsTold, told_as}
use Rattle.blk_drive.specs.declared.mirror.LoadFault.{LoadFault}
use Rattle.blk_drive.specs.declared.mirror.LoadFault.TheVariants as load
use Rattle.fx_home.specs.declared.home.Home.{Home}
use Rattle.fx_home.specs.declared.home.HomeFault.{HomeFault}
use Rattle.fx_home.specs.Homes.{home_read}
use Rattle.fx_header.specs.declared.slot.Hdr.{Hdr}
use Rattle.vol_parts.specs.Volumes.{volume}
use Rattle.vol_parts.specs.Findings.{home_at, Accepts}
use Rattle.vol_records.specs.declared.types.StoreFault.{StoreFault}
use Rattle.vol_records.specs.declared.types.StoreFault.TheVariants as store
use Rattle.run_script.specs.Lines.{lines_of}
use Rattle.vol_records.specs.Making.{IsImageOf}
use Rattle.vol_records.specs.Records.{spelt}
use Rattle.vol_records.specs.Storing.{used_file, refusal_by, store_refusal, refusal_of, refusal_at, Answers, IsStored, IsStoring}
use Rattle.run_engine.specs.Inputs.{Leaves}
use Rattle.run_engine.specs.Stops.{load_status}
use Rattle.run_engine.specs.declared.status.Status.{Status}
use Rattle.run_engine.specs.declared.status.Status.TheVariants as status
use Rattle.run_engine.proofs.Given.{rose_later, stays}
use Rattle.run_engine.proofs.Results.{ok_has, same_err}
use Rattle.clus_top.specs.Ends.{IsJudgedEnd}
use Rattle.clus_top.specs.Stores.{IsStorable, IsReadAs, IsTextEnd, against, IsRefused, IsStoredWith, IsKeepEnd, IsStoredOf, IsStoreEnd, store_status}

-- a refusal: no want of memory, and no fault of the image
abbrev pub IsRefusal : StoreFault → Type 0
IsRefusal store.NoMemory = ⊥
IsRefusal store.ImageFault = ⊥
IsRefusal f = Unit {0}

nothing_against : (o : Option StoreFault) (r : Result ℕ StoreFault) (t : ℕ) → r ≡ Ok t → Answers o r → o ≡ None
nothing_against (Some f) r t e h = let g : Ok t ≡ Err f = sym e ∙ h in absurd (cc g)
nothing_against None r t e h = refl

not_refused : (f : StoreFault) → IsRefusal f → Answers None (Err f) → ⊥
not_refused store.NoMemory p h = p
not_refused store.ImageFault p h = p
not_refused f p h = h

this_against : (o : Option StoreFault) (r : Result ℕ StoreFault) (f : StoreFault) → IsRefusal f → r ≡ Err f → Answers o r → o ≡ Some f
this_against (Some k) r f p e h = ap Some (same_err r k f h e)
this_against None r f p e h = absurd (not_refused f p (subst (Answers None) e h))

-- no refusal is a fault of the image

no_fault_by : (n len : ℕ) (o : Option Hdr) → refusal_by n len o ≡ Some store.ImageFault → ⊥
no_fault_by n len None e = absurd (let g : Some store.NoSuchFile ≡ Some store.ImageFault = e in cc)
no_fault_by n len (Some f) e = by_tests (nat_le n 11 || f.dir) (not (f.mark == 1)) (nat_lt (512 * f.blocks) len) e where
  by_tests : (a b c : Bool) → cond a (Some store.NoPriv) (cond b (Some store.NotEmpty) (cond c (Some store.NoRoom) None)) ≡ Some store.ImageFault → ⊥
  by_tests true b c e = absurd (let g : Some store.NoPriv ≡ Some store.ImageFault = e in cc)
  by_tests false true c e = absurd (let g : Some store.NotEmpty ≡ Some store.ImageFault = e in cc)
  by_tests false false true e = absurd (let g : Some store.NoRoom ≡ Some store.ImageFault = e in cc)
  by_tests false false false e = absurd (let g : None ≡ Some store.ImageFault = e in cc)

no_fault : (bs : List Block) (n seq len : ℕ) → refusal_at bs n seq len ≡ Some store.ImageFault → ⊥
unfolding store_refusal
no_fault bs n seq len e = by_home (home_read (home_at bs)) e where
  by_home : (r : Result Home HomeFault) → refusal_of bs r n seq len ≡ Some store.ImageFault → ⊥
  by_home (Err fault) e = absurd (let g : Some store.NoSuchFile ≡ Some store.ImageFault = e in cc)
  by_home (Ok home) e = no_fault_by n len (used_file (volume home bs) n seq) e

none_at_fault : (o : Option StoreFault) (r : Result ℕ StoreFault) → (o ≡ Some store.ImageFault → ⊥) → r ≡ Err store.ImageFault → Answers o r → o ≡ None
none_at_fault None r never e h = refl
none_at_fault (Some f) r never e h = absurd (never (ap Some (same_err r f store.ImageFault h e)))

-- what a store in blocks in memory has answered, and what came of them
pub record IsKeep (n seq : ℕ) (lines : List (List ℕ)) (told now : Option (List Block)) (old blocks : List Block) (had has : ℕ) (r : Result ℕ StoreFault) : Type 0 where
  pub inside : IsInside (length old)
  pub accepted : Accepts old
  pub shows : IsTold told old
  pub answers : Answers (against n seq lines old) r
  pub refused : (f : StoreFault) → against n seq lines old ≡ Some f → blocks ≡ old
  pub memory : r ≡ Err store.NoMemory → blocks ≡ old
  pub stored : IfOk r (λ t. (t ≡ length (spelt lines)) × IsStored old blocks n seq (spelt lines))
  pub step : IsStoring old blocks n seq (spelt lines) told now had has (r ≡ Err store.ImageFault)

module _ (n seq : ℕ) (lines : List (List ℕ)) (told now : Option (List Block)) (old blocks : List Block) (had has : ℕ) (r : Result ℕ StoreFault) (a : IsKeep n seq lines told now old blocks had has r) where
  -- where no write failed, the image has the blocks in memory
  image : (r ≡ Err store.ImageFault → ⊥) → now ≡ told_as told blocks
  image none = by (a.step.made.image a.shows) where
    by : IsImageOf a.step.writes old told now a.step.made.count (r ≡ Err store.ImageFault) → now ≡ told_as told blocks
    by i =
        elim i.few [
          | inl e ↦ i.there ∙ ap (λ (k : ℕ). told_as told (written (take k a.step.writes) old)) e ∙ ap (told_as told) (sym a.step.made.made)
          | inr f ↦ absurd (none f.0)
        ]

  other_fault : (f : StoreFault) → (f ≡ store.ImageFault → ⊥) → r ≡ Err f → r ≡ Err store.ImageFault → ⊥
  other_fault f differs e k = differs (same_err r f store.ImageFault e k)

  pub kept : (t : ℕ) → r ≡ Ok t → Leaves told now (λ new. IsStored old new n seq (spelt lines))
  kept t e = record { new = blocks; left = image (λ f. let g : Ok t ≡ Err store.ImageFault = sym e ∙ f in cc g); holds = (ok_has r t _ e a.stored).1 }

  pub taken : (t : ℕ) → r ≡ Ok t → against n seq lines old ≡ None
  taken t e = nothing_against (against n seq lines old) r t e a.answers

  refused_is : (f : StoreFault) → IsRefusal f → r ≡ Err f → IsRefused n seq lines (length old) old f × (blocks ≡ old)
  refused_is f p e =
      let is = this_against (against n seq lines old) r f p e a.answers in
      (record { accepted = record { inside = a.inside; accepted = a.accepted }; is = is }, a.refused f is)

  pub end_left : (f : StoreFault) → r ≡ Err f → Leaves told now (λ new. IsKeepEnd n seq lines (length old) old new had has (store_status f))
  end_left store.NoSuchFile e = record { new = blocks; left = image (other_fault store.NoSuchFile (λ k. let g : store.NoSuchFile ≡ store.ImageFault = k in cc) e); holds = refused_is store.NoSuchFile tt e }
  end_left store.NoPriv e = record { new = blocks; left = image (other_fault store.NoPriv (λ k. let g : store.NoPriv ≡ store.ImageFault = k in cc) e); holds = refused_is store.NoPriv tt e }
  end_left store.NotEmpty e = record { new = blocks; left = image (other_fault store.NotEmpty (λ k. let g : store.NotEmpty ≡ store.ImageFault = k in cc) e); holds = refused_is store.NotEmpty tt e }
  end_left store.NoRoom e = record { new = blocks; left = image (other_fault store.NoRoom (λ k. let g : store.NoRoom ≡ store.ImageFault = k in cc) e); holds = refused_is store.NoRoom tt e }
  end_left store.NoMemory e = record { new = blocks; left = image (other_fault store.NoMemory (λ k. let g : store.NoMemory ≡ store.ImageFault = k in cc) e); holds = (tt, a.memory e) }
  end_left store.ImageFault e =
      let i = a.step.made.image a.shows in
      let none = none_at_fault (against n seq lines old) r (no_fault old n seq (length (spelt lines))) e a.answers in
      record {
        new = written (take i.count a.step.writes) old;
        left = i.there;
        holds = (a.step.made.cause e, inr (record { accepted = a.accepted; none = none; safe = a.step.safe i.count }));
      }

-- ---- on an image

-- why blocks were not accepted
pub judged_left : (n seq : ℕ) (lines : List (List ℕ)) (told : Option (List Block)) (bs : List Block) (had has : ℕ) (s : Status) → IsInside (length bs) → IsTold told bs → IsJudgedEnd bs s
    → Leaves told told (λ new. IsKeepEnd n seq lines (length bs) bs new had has s)
judged_left n seq lines told bs had has (status.NotAccepted f) inside shows h = stays told told bs _ shows refl ((inside, h), refl)
judged_left n seq lines told bs had has status.NoMemory inside shows h = stays told told bs _ shows refl (tt, refl)
judged_left n seq lines told bs had has s inside shows h = absurd h

-- why an image was not loaded
pub load_end : (n seq : ℕ) (lines : List (List ℕ)) (size : ℕ) (bs : List Block) (had has : ℕ) (f : LoadFault) → HasLoadCause size had has f → IsKeepEnd n seq lines size bs bs had has (load_status f)
load_end n seq lines size bs had has load.ImageFault cause = (cause, inl refl)
load_end n seq lines size bs had has (load.BadSize k) cause = ((cause.0, subst IsOutside cause.0 cause.1), refl)
load_end n seq lines size bs had has load.NoMemory cause = (tt, refl)

-- why lines were not stored in the blocks in memory is why they were not on the image
later_end : (n seq : ℕ) (lines : List (List ℕ)) (size : ℕ) (old new : List Block) (first had has : ℕ) (s : Status) → first ≤ had → IsKeepEnd n seq lines size old new had has s → IsKeepEnd n seq lines size old new first has s
later_end n seq lines size old new first had has status.Ok le h = h
later_end n seq lines size old new first had has status.OutFault le h = h
later_end n seq lines size old new first had has status.ImageFault le h = (rose_later first had has le h.0, h.1)
later_end n seq lines size old new first had has s le h = h

pub end_from : (n seq : ℕ) (lines : List (List ℕ)) (count size : ℕ) (old new : List Block) (first had has : ℕ) (s : Status) → count ≡ size → first ≤ had → IsKeepEnd n seq lines count old new had has s
    → IsKeepEnd n seq lines size old new first has s
end_from n seq lines count size old new first had has s e le h =
    later_end n seq lines size old new first had has s le (subst (λ (k : ℕ). IsKeepEnd n seq lines k old new had has s) e h)

-- ---- of the text that is read

module _ (n seq : ℕ) (lines : List (List ℕ)) (bytes : List ℕ) (read_as : IsReadAs lines bytes) (size : ℕ) (old new : List Block) where
  storable : IsStorable bytes
  storable = record { within = read_as.within; short = read_as.short }

  pub stored_of : (text : List ℕ) → IsStoredWith n seq lines size old new text → IsStoredOf n seq bytes size old new text
  stored_of text h = record { storable = storable; kept = subst (λ (ls : List (List ℕ)). IsStoredWith n seq ls size old new text) read_as.are h }

  end_by : (read reading had has : ℕ) (s : Status) → IsKeepEnd n seq (lines_of bytes) size old new had has s → IsStoreEnd n seq bytes size old new read reading had has s
  end_by read reading had has status.Ok h = h
  end_by read reading had has status.OutFault h = h
  end_by read reading had has status.ScriptFault h = absurd h.0
  end_by read reading had has status.ScriptTooLong h = absurd h.0
  end_by read reading had has (status.LineLong k) h = absurd h.0
  end_by read reading had has status.ImageFault h = (storable, h.0, h.1)
  end_by read reading had has status.NoMemory h = h
  end_by read reading had has s h = ((storable, h.0), h.1)

  pub end_of : (read reading had has : ℕ) (s : Status) → IsKeepEnd n seq lines size old new had has s → IsStoreEnd n seq bytes size old new read reading had has s
  end_of read reading had has s h = end_by read reading had has s (subst (λ (ls : List (List ℕ)). IsKeepEnd n seq ls size old new had has s) read_as.are h)

-- why it gave no lines, and the image stays
pub text_end : (n seq : ℕ) (bytes : List ℕ) (size : ℕ) (bs : List Block) (read reading had has : ℕ) (s : Status) → IsTextEnd bytes read reading s → IsStoreEnd n seq bytes size bs bs read reading had has s
text_end n seq bytes size bs read reading had has status.ScriptFault h = (h, refl)
text_end n seq bytes size bs read reading had has status.ScriptTooLong h = (h, refl)
text_end n seq bytes size bs read reading had has (status.LineLong k) h = (h, refl)
text_end n seq bytes size bs read reading had has status.NoMemory h = (tt, refl)
text_end n seq bytes size bs read reading had has s h = absurd h
