-- How findings are written.
use Rattle.std.specs.Prelude.{◌++◌, ℕ, List, codes, decimal}
use Rattle.fx_home.specs.declared.home.HomeFault.{HomeFault}
use Rattle.fx_home.specs.declared.home.HomeFault.TheVariants as home
use Rattle.fx_home.specs.declared.scb.ScbFault.{ScbFault}
use Rattle.fx_home.specs.declared.scb.ScbFault.TheVariants as scb
use Rattle.fx_header.specs.declared.slot.HeaderFault.{HeaderFault}
use Rattle.fx_header.specs.declared.slot.HeaderFault.TheVariants as header
use Rattle.plain_cat.specs.declared.ids.Uic.{Uic}
use Rattle.plain_texts.specs.Names.{uic_text}
use Rattle.plain_cat.specs.Names.{text_of as entry_text}
use Rattle.vol_parts.specs.declared.finding.Finding.{Finding}
use Rattle.vol_parts.specs.declared.finding.Finding.TheVariants as finding

-- a fault of the home block, by its name
unfoldable pub home_fault_text : HomeFault → List ℕ
home_fault_text home.BadFormat = codes "BadFormat"
home_fault_text home.BadLevel = codes "BadLevel"
home_fault_text home.BadSum1 = codes "BadSum1"
home_fault_text home.BadSum2 = codes "BadSum2"
home_fault_text home.BadCluster = codes "BadCluster"
home_fault_text home.BadFiles = codes "BadFiles"
home_fault_text home.BadLayout = codes "BadLayout"

-- a fault of a header, by its name
unfoldable pub header_fault_text : HeaderFault → List ℕ
header_fault_text header.BadSum = codes "BadSum"
header_fault_text header.BadLevel = codes "BadLevel"
header_fault_text header.BadOffsets = codes "BadOffsets"
header_fault_text header.BadRvn = codes "BadRvn"
header_fault_text header.BadExtension = codes "BadExtension"
header_fault_text header.BadMap = codes "BadMap"
header_fault_text header.BadEnd = codes "BadEnd"

-- a fault of the storage control block, by its name
unfoldable pub scb_fault_text : ScbFault → List ℕ
scb_fault_text scb.BadLevel = codes "BadLevel"
scb_fault_text scb.BadSum = codes "BadSum"
scb_fault_text scb.BadCluster = codes "BadCluster"
scb_fault_text scb.BadSize = codes "BadSize"

-- words, and the number of what they speak of
unfoldable pub numbered : List ℕ → ℕ → List ℕ
numbered words n = words ++ decimal n

-- words, a number, and what is wrong there
unfoldable pub wrong_at : List ℕ → ℕ → List ℕ → List ℕ
wrong_at words n fault = words ++ (decimal n ++ (codes ": " ++ fault))

-- words, and the owner whom they speak of
unfoldable pub owned : List ℕ → Uic → List ℕ
owned words owner = words ++ uic_text owner

-- words, an entry, and the number of its directory
unfoldable pub entry_in : List ℕ → List ℕ → ℕ → ℕ → List ℕ
entry_in words name ver dir = words ++ (entry_text name ver ++ (codes " in " ++ decimal dir))

-- what a quota row has, and what its owner's files cost
unfoldable pub usage_off : Uic → ℕ → ℕ → List ℕ
usage_off owner has should =
    codes "usage of " ++ (uic_text owner ++ (codes ": has " ++ (decimal has ++ (codes ", should be " ++ decimal should))))

-- a finding, on a line of its own without the line's end
unfoldable pub finding_text : Finding → List ℕ
finding_text (finding.Home fault) = codes "home: " ++ home_fault_text fault
finding_text (finding.Header n fault) = wrong_at (codes "header ") n (header_fault_text fault)
finding_text (finding.WrongNumber n) = wrong_at (codes "header ") n (codes "WrongNumber")
finding_text (finding.SystemFile n) = numbered (codes "system file ") n
finding_text (finding.Scb fault) = codes "storage control block: " ++ scb_fault_text fault
finding_text (finding.ChainBroken n) = wrong_at (codes "chain of ") n (codes "Broken")
finding_text (finding.ChainSplit n) = wrong_at (codes "chain of ") n (codes "BadSplit")
finding_text (finding.Runs n) = numbered (codes "runs of ") n
finding_text (finding.Clusters n) = numbered (codes "clusters of ") n
finding_text (finding.SharedCluster q) = numbered (codes "shared cluster ") q
finding_text (finding.DirSize n) = wrong_at (codes "directory ") n (codes "BadSize")
finding_text (finding.DirRecord n) = wrong_at (codes "directory ") n (codes "BadRecord")
finding_text (finding.DirOrder n) = wrong_at (codes "directory ") n (codes "BadOrder")
finding_text (finding.DirClash n) = wrong_at (codes "directory ") n (codes "Clash")
finding_text (finding.QuotaRow owner) = owned (codes "quota row ") owner
finding_text (finding.NoQuotaRow n) = numbered (codes "no quota row for ") n
finding_text (finding.FreeCluster q) = numbered (codes "free cluster ") q ++ codes " in use"
finding_text (finding.FreeNumber n) = numbered (codes "free number ") n ++ codes " in use"
finding_text (finding.SystemEntry n) = numbered (codes "system entry ") n
finding_text (finding.MarkedDir n) = numbered (codes "marked directory ") n
finding_text (finding.DirLoop n) = numbered (codes "directory loop at ") n
finding_text (finding.NoRoom n) = numbered (codes "no room for ") n
finding_text (finding.Marked n) = numbered (codes "marked ") n
finding_text (finding.NamesNone name ver dir) = entry_in (codes "entry ") name ver dir ++ codes " names no file"
finding_text (finding.Second name ver dir) = entry_in (codes "second entry ") name ver dir
finding_text (finding.Doubles n) = numbered (codes "doubles in ") n
finding_text (finding.Lost n) = numbered (codes "lost ") n
finding_text (finding.Surplus n) = numbered (codes "surplus of ") n
finding_text (finding.Stray n) = numbered (codes "stray header ") n
finding_text (finding.LeakedClusters k) = numbered (codes "leaked clusters ") k
finding_text (finding.LeakedNumbers k) = numbered (codes "leaked numbers ") k
finding_text (finding.Usage owner has should) = usage_off owner has should
