-- A format of an image: what is said of the blocks in memory is said of those that the image has.
use Rattle.std.proofs.Common.{◌≡◌, ◌≤◌, ℕ, List, Option, Some, None, refl, sym, ap, subst, inl}
use Rattle.base_words.specs.Fields.{Block}
use Rattle.blk_drive.specs.Images.{IsInside, IsOutside}
use Rattle.blk_drive.specs.Loads.{HasLoadCause}
use Rattle.blk_drive.specs.declared.mirror.LoadFault.{LoadFault}
use Rattle.blk_drive.specs.declared.mirror.LoadFault.TheVariants as load
use Rattle.blk_drive.specs.Telling.{IsTold as Shows}
use Rattle.blk_drive.specs.Telling.{told_as}
use Rattle.fx_home.specs.declared.home.Home.{Home}
use Rattle.vol_init.specs.declared.fault.InitFault.{InitFault}
use Rattle.vol_init.specs.declared.fault.InitFault.TheVariants as fault
use Rattle.vol_init.specs.Made.{IsLeft}
use Rattle.vol_init.specs.Refusals.{refusal, home_of, HasInitCause}
use Rattle.run_engine.specs.Inputs.{Leaves}
use Rattle.run_engine.specs.declared.status.Status.{Status}
use Rattle.run_engine.specs.declared.status.Status.TheVariants as status
use Rattle.run_engine.specs.Stops.{load_status}
use Rattle.run_engine.proofs.Given.{rose_later, stays}
use Rattle.clus_top.specs.Ends.{init_status, IsInitEnd}
use Rattle.clus_top.specs.Images.{IsFormatted}
use Rattle.clus_top.specs.Statuses.{sized}

-- what the image has with the new blocks
pub made_left : (told now : Option (List Block)) (old blocks : List Block) → Shows told old → (told ≡ Some old → now ≡ Some blocks) → (told ≡ None → now ≡ None) → now ≡ told_as told blocks
made_left None now old blocks shows some none = none refl
made_left (Some x) now old blocks shows some none = some (ap Some (sym shows))

-- and after a write that failed
pub fault_left : (h : Home) (told now : Option (List Block)) (old : List Block) → Shows told old → (told ≡ Some old → IsLeft h old now) → (told ≡ None → now ≡ None) → Leaves told now (λ new. IsLeft h old (Some new))
fault_left h None now old shows some none = record { new = old; left = none refl; holds = inl refl }
fault_left h (Some x) now old shows some none = by now refl (some (ap Some (sym shows))) where
  by : (o : Option (List Block)) → now ≡ o → IsLeft h old o → Leaves (Some x) now (λ new. IsLeft h old (Some new))
  by None e l = absurd l
  by (Some y) e l = record { new = y; left = e; holds = l }

module _ (cluster files : ℕ) (label : List ℕ) (size : ℕ) (told now : Option (List Block)) (old : List Block) (had has : ℕ) (shows : Shows told old) (inside : IsInside size) where
  abbrev Left : Status → Type 0
  Left s = Leaves told now (λ new. IsInitEnd cluster files label size had has s × IsFormatted (home_of cluster files label) old new s)

  -- why the blocks in memory were not formatted
  pub not_formatted : (f : InitFault) → HasInitCause (refusal (sized cluster files size) label) had has f → ((x : InitFault) → refusal (sized cluster files size) label ≡ Some x → now ≡ told)
      → (f ≡ fault.NoMemory → now ≡ told) → (f ≡ fault.ImageFault → Leaves told now (λ new. IsLeft (home_of cluster files label) old (Some new))) → Left (init_status f)
  not_formatted fault.ImageFault cause kept memory left = let l = left refl in record { new = l.new; left = l.left; holds = (cause.1, l.holds) }
  not_formatted fault.NoMemory cause kept memory left = stays told now old _ shows (memory refl) (tt, inl refl)
  not_formatted fault.BadCluster cause kept memory left = stays told now old _ shows (kept fault.BadCluster cause) ((inside, cause), refl)
  not_formatted fault.BadFiles cause kept memory left = stays told now old _ shows (kept fault.BadFiles cause) ((inside, cause), refl)
  not_formatted fault.BadLabel cause kept memory left = stays told now old _ shows (kept fault.BadLabel cause) ((inside, cause), refl)
  not_formatted fault.TooSmall cause kept memory left = stays told now old _ shows (kept fault.TooSmall cause) ((inside, cause), refl)

-- ---- on an image

-- why an image was not loaded
pub load_end : (cluster files : ℕ) (label : List ℕ) (size : ℕ) (bs : List Block) (had has : ℕ) (f : LoadFault) → HasLoadCause size had has f
    → IsInitEnd cluster files label size had has (load_status f) × IsFormatted (home_of cluster files label) bs bs (load_status f)
load_end cluster files label size bs had has load.ImageFault cause = (cause, inl refl)
load_end cluster files label size bs had has (load.BadSize n) cause = ((cause.0, subst IsOutside cause.0 cause.1), refl)
load_end cluster files label size bs had has load.NoMemory cause = (tt, inl refl)

-- why the blocks in memory were not formatted is why the image was not
pub end_from : (cluster files : ℕ) (label : List ℕ) (count size first had has : ℕ) (s : Status) → count ≡ size → first ≤ had → IsInitEnd cluster files label count had has s → IsInitEnd cluster files label size first has s
end_from cluster files label count size first had has status.ImageFault e le h = rose_later first had has le h
end_from cluster files label count size first had has status.NoMemory e le h = tt
end_from cluster files label count size first had has (status.BadSize n) e le h = subst (λ (m : ℕ). IsInitEnd cluster files label m first has (status.BadSize n)) e h
end_from cluster files label count size first had has (status.BadInit f) e le h = subst (λ (m : ℕ). IsInitEnd cluster files label m first has (status.BadInit f)) e h
end_from cluster files label count size first had has s e le h = absurd h
