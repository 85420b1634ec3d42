-- What the parts leave that are made before the blocks spell a catalogue.
use Rattle.std.proofs.Common.{◌∙◌, ℕ, List, sym, ap, subst}
use Rattle.std.specs.Prelude.{Result, Ok, Err, OnOk}
use Rattle.base_words.specs.Fields.{Block}
use Rattle.fx_home.specs.declared.home.Home.{Home}
use Rattle.fx_home.specs.Homes.{home_read}
use Rattle.vol_faults.specs.Conditions.{IsSize}
use Rattle.vol_parts.specs.Volumes.{volume}
use Rattle.vol_sound.specs.Freeing.{LeavesOthers}
use Rattle.vol_sound.specs.Kept.{IsKeptRight}
use Rattle.vol_sound.proofs.KeptRight.{kept_is_right}
use Rattle.vol_repair.specs.Laws.{IsMendable, PhasesLead}
use Rattle.vol_repair.specs.Patching.{IsReady}
use Rattle.vol_repair.specs.Phases.{IsAfterDirs, IsAfterRows, IsAfterBits}

-- what holds of a good answer
pub on_ok : {A E : Type 0} (r : Result A E) (P Q : Type 0) → (P → Q) → OnOk r P → OnOk r Q
on_ok (Ok a) P Q f p = f p
on_ok (Err e) P Q f p = tt

-- after all parts the blocks tell the catalogue that the repair begins with
pub ready : PhasesLead → (home : Home) (first a b c d : List Block) → IsMendable home first → LeavesOthers home first a → IsAfterDirs home first a b → IsAfterRows home first b c → IsAfterBits home first c d → IsReady home first d
ready lead home first a b c d m others dirs rows bits =
    let right : IsKeptRight (volume home first) (volume home d) = kept_is_right home first d m.within m.system (lead.begun home first a b c d m.within others dirs rows bits) in
    record {
      spellable = record {
        read = ap home_read (lead.home_block home first d m.within m.system bits.ground.touched) ∙ m.read;
        within = m.within;
        size = subst (λ (n : ℕ). IsSize n) (sym bits.ground.touched.freed.count) m.size;
        whole = bits.ground.whole;
        findings = right.findings;
      };
      told = right.catalogue;
    }
