-- A refusal is its own cause.
use Rattle.std.proofs.Common.{◌≡◌, ℕ, Bool, true, false, List, Option, Some, None, refl, subst}
use Rattle.std.specs.Prelude.{if◌then◌else◌, not}
use Rattle.std.proofs.lemmas.Option.{same_Some}
use Rattle.vol_init.specs.declared.layout.Layout.{Layout}
use Rattle.vol_init.specs.declared.fault.InitFault.{InitFault}
use Rattle.vol_init.specs.declared.fault.InitFault.TheVariants.{BadCluster, BadFiles, BadLabel, TooSmall}
use Rattle.vol_init.specs.Refusals.{is_cluster, are_files, is_label, is_too_small, refusal, HasInitCause}

-- the first of four refusals
abbrev first : Bool → Bool → Bool → Bool → Option InitFault
first a b c d = if not a then Some BadCluster else if not b then Some BadFiles else if not c then Some BadLabel else if d then Some TooSmall else None

abbrev Caused : Option InitFault → ℕ → ℕ → Type 0
Caused o before now = (f : InitFault) → o ≡ Some f → HasInitCause o before now f

first-caused : (a b c d : Bool) (before now : ℕ) → Caused (first a b c d) before now
first-caused false b c d before now f e = let P : InitFault → Type 0 = λ x. HasInitCause (Some BadCluster) before now x in subst P (same_Some _ _ e) refl
first-caused true false c d before now f e = let P : InitFault → Type 0 = λ x. HasInitCause (Some BadFiles) before now x in subst P (same_Some _ _ e) refl
first-caused true true false d before now f e = let P : InitFault → Type 0 = λ x. HasInitCause (Some BadLabel) before now x in subst P (same_Some _ _ e) refl
first-caused true true true true before now f e = let P : InitFault → Type 0 = λ x. HasInitCause (Some TooSmall) before now x in subst P (same_Some _ _ e) refl
first-caused true true true false before now f e = absurd (cc)

pub refusal-caused : (l : Layout) (label : List ℕ) (before now : ℕ) (f : InitFault) → refusal l label ≡ Some f → HasInitCause (refusal l label) before now f
unfolding refusal
refusal-caused l label before now f e = first-caused (is_cluster l.cluster) (are_files l.files) (is_label label) (is_too_small l) before now f e
