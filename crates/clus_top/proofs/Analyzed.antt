-- What an analysis says of a volume.
use Rattle.std.proofs.Common.{ℕ, List, [], ◌∷◌}
use Rattle.base_words.specs.Fields.{Block}
use Rattle.blk_drive.specs.Images.{IsInside}
use Rattle.vol_parts.specs.declared.finding.Finding.{Finding}
use Rattle.vol_parts.specs.Findings.{AreFindings}
use Rattle.run_engine.specs.declared.status.Status.{Status}
use Rattle.run_engine.specs.declared.status.Status.TheVariants as status
use Rattle.clus_top.specs.Statuses.{IsAnalysisDue}
use Rattle.clus_top.specs.Ends.{IsFoundEnd}

-- the status after findings are told is that of the analysis
pub found_due : (size : ℕ) (bs : List Block) (fs : List Finding) (s : Status) → IsInside size → AreFindings bs fs → IsFoundEnd fs s → IsAnalysisDue size bs s
found_due size bs [] status.Ok inside found end = record { inside = inside; accepted = found }
found_due size bs [] status.OutFault inside found end = record { inside = inside; accepted = found }
found_due size bs [] s inside found end = absurd end
found_due size bs (f ∷ fs) status.Findings inside found end = (inside, record { first = f; found = (fs, found) })
found_due size bs (f ∷ fs) status.NoMemory inside found end = tt
found_due size bs (f ∷ fs) s inside found end = absurd end
