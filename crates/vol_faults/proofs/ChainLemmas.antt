-- The first file whose chain of headers has a fault.
use Rattle.std.proofs.Common.{◌≡◌, ◌∙◌, ◌+◌, ◌-◌, ◌<◌, ◌≤◌, ◌⊎◌, ℕ, Bool, true, false, Option, Some, None, refl, ap, inl, inr, arith}
use Rattle.std.specs.Prelude.{is_some, if◌then◌else◌}
use Rattle.fx_header.specs.declared.slot.Hdr.{Hdr}
use Rattle.vol_parts.specs.declared.finding.Finding.{Finding}
use Rattle.vol_parts.specs.declared.finding.Finding.TheVariants as finding
use Rattle.vol_parts.specs.Volumes.{Volume, IsNumber, factor, fields, headers_of}
use Rattle.vol_parts.specs.Chains.{chain_of, is_broken, is_well_split}
use Rattle.vol_parts.specs.Fatal.{IsFatalIn, chain_test, chain_fault}
use Rattle.vol_parts.specs.Findings.{rank, subject}
use Rattle.vol_parts.specs.Firsts.{IsFirstOf, IsLeastOf}
use Rattle.vol_parts.specs.Lowest.{IsLowest}
use Rattle.vol_faults.specs.Conditions.{has_bad_chain}
use Rattle.vol_faults.proofs.FirstLemmas.{AreFound, none-found, least-found}

kind_if : (n : ℕ) (broken split : Bool) (f : Finding) → (if broken then Some (finding.ChainBroken n) else if split then None else Some (finding.ChainSplit n)) ≡ Some f
    → (f ≡ finding.ChainBroken n) ⊎ (f ≡ finding.ChainSplit n)
kind_if n true split f e = inl (cc)
kind_if n false true f e = absurd (cc)
kind_if n false false f e = inr (cc)

kind_of : (v : Volume) (n : ℕ) (o : Option Hdr) (f : Finding) → chain_test v n o ≡ Some f → (f ≡ finding.ChainBroken n) ⊎ (f ≡ finding.ChainSplit n)
kind_of v n None f e = absurd (cc)
kind_of v n (Some x) f e = kind_if n (is_broken x (chain_of (headers_of v) n x)) (is_well_split (factor v) (chain_of (headers_of v) n x)) f e

-- a fault is one of the two
pub chain-kind : (v : Volume) (n : ℕ) (f : Finding) → chain_fault v n ≡ Some f → (f ≡ finding.ChainBroken n) ⊎ (f ≡ finding.ChainSplit n)
unfolding chain_fault
chain-kind v n f e = kind_of v n (fields v n) f e

bad_chain : (v : Volume) (g : Finding) → rank g ≡ 4 → IsFatalIn v g → (12 ≤ subject g) × (subject g < 12 + (v.home.files - 11)) × (has_bad_chain v (subject g) ≡ true)
bad_chain v (finding.ChainBroken n) e h = let to = h.0.to in (omega (arith, h.1), omega (arith, h.1), ap is_some h.2)
bad_chain v (finding.ChainSplit n) e h = let to = h.0.to in (omega (arith, h.1), omega (arith, h.1), ap is_some h.2)
bad_chain v g e h = absurd (omega arith)

pub chains-found : (v : Volume) → AreFound v 4 (has_bad_chain v) 12 (v.home.files - 11)
chains-found v = record { only = bad_chain v }

-- the fault of the lowest number is the first
pub first-chain : (v : Volume) (n : ℕ) (f : Finding) → 12 ≤ n → n ≤ v.home.files → ((m : ℕ) → 12 ≤ m → m < n → has_bad_chain v m ≡ false)
    → chain_fault v n ≡ Some f → IsLeastOf v 4 f
first-chain v n f from to below e =
    let low : IsLowest (has_bad_chain v) 12 (v.home.files - 11) (Some n) = (from, omega arith, ap is_some e, below) in
    let number : IsNumber v n = record { from = omega arith; to = to } in
    elim (chain-kind v n f e) [
      | inl is ↦
          rw is (least-found v 4 (has_bad_chain v) 12 (v.home.files - 11) n (finding.ChainBroken n) (chains-found v) low refl refl
          (number, omega arith, e ∙ ap Some is))
      | inr is ↦
          rw is (least-found v 4 (has_bad_chain v) 12 (v.home.files - 11) n (finding.ChainSplit n) (chains-found v) low refl refl
          (number, omega arith, e ∙ ap Some is))
    ]

pub no-chain : (v : Volume) → ((m : ℕ) → 12 ≤ m → m < v.home.files + 1 → has_bad_chain v m ≡ false) → IsFirstOf v 4 None
no-chain v none = none-found v 4 (has_bad_chain v) 12 (v.home.files - 11) (chains-found v) (λ n from to. none n from (omega arith))
