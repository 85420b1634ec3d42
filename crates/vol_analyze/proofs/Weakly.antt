-- What holds of a volume in which no fatal finding holds.
use Rattle.std.proofs.Common.{◌≡◌, ◌+◌, ◌*◌, ◌/◌, ◌≤◌, ℕ, Bool, true, false, not, List, Option, Some, None, Result, Ok, Err, length, get_or, refl, sym, subst, inl, inr, arith}
use Rattle.std.specs.Prelude.{◌&&◌, if◌then◌else◌}
use Rattle.std.specs.List.{list_any, sum_by}
use Rattle.std.proofs.lemmas.Bool.{cases_Bool}
use Rattle.std.proofs.lemmas.List.Elements.{All-from_get_or}
use Rattle.std.proofs.lemmas.List.Sums.{get_or-le-sum_by}
use Rattle.std.proofs.Math.Nat.{mul-le-mul_left, mul-div-le}
use Rattle.base_words.specs.Fields.{Block, AreWholeBlocks}
use Rattle.fx_home.specs.declared.home.Home.{Home}
use Rattle.fx_home.specs.declared.home.HomeFault.{HomeFault}
use Rattle.fx_home.specs.Homes.{home_read}
use Rattle.fx_header.specs.declared.slot.Hdr.{Hdr}
use Rattle.fx_dir.specs.declared.RawEnt.{RawEnt}
use Rattle.fx_dir.specs.declared.DirFault.{DirFault}
use Rattle.fx_dir.specs.declared.DirFault.TheVariants as dir
use Rattle.fx_dir.specs.Directory.{directory}
use Rattle.plain_cat.specs.declared.cat.Cat.{Cat}
use Rattle.plain_cat.specs.declared.cat.Slot.{Slot}
use Rattle.plain_cat.specs.declared.cat.Slot.TheVariants.{Free}
use Rattle.plain_rules.specs.Lookups.{clusters_in}
use Rattle.vol_parts.specs.declared.finding.Finding.{Finding}
use Rattle.vol_parts.specs.declared.finding.Finding.TheVariants as finding
use Rattle.vol_parts.specs.Volumes.{Volume, volume, IsNumber, factor, fields, runs, body, told, geometry_of}
use Rattle.vol_parts.specs.Catalogues.{catalogue}
use Rattle.vol_parts.specs.Conditions.{HasRunsInside, HasAllRunsInside}
use Rattle.vol_parts.specs.Fatal.{IsFatalIn, is_off_bounds, is_one_header, has_dir_size, found_in, dir_test, dir_fault}
use Rattle.vol_parts.specs.Findings.{home_at, IsFatalBy, IsCatalogueBy, CatOf}
use Rattle.vol_faults.specs.Conditions.{IsSize}
use Rattle.vol_spell.specs.Accepting.{owners_told}
use Rattle.vol_spell.proofs.Accepted.{catalogue_is_spelt}
use Rattle.vol_spell.proofs.Adds.{clusters_add_up}
use Rattle.vol_analyze.specs.Conditions.{HasFileSizes, HasSoundDirectories}

-- ---- the home block

-- it is read where the blocks tell a catalogue
pub home-read : (bs : List Block) (c : Cat) (fault : HomeFault) → CatOf bs c → home_read (home_at bs) ≡ Err fault → ⊥
home-read bs c fault at e = subst (λ (r : Result Home HomeFault). IsCatalogueBy bs r c) e at.told

pub cat-told : (bs : List Block) (c : Cat) (home : Home) → CatOf bs c → home_read (home_at bs) ≡ Ok home → c ≡ catalogue (volume home bs)
cat-told bs c home at e = subst (λ (r : Result Home HomeFault). IsCatalogueBy bs r c) e at.told

-- ---- runs and directories

-- no fatal finding holds of a volume
pub record IsWeak (v : Volume) : Type 0 where
  pub none : (f : Finding) → IsFatalIn v f → ⊥

pub weak-volume : (bs : List Block) (c : Cat) (home : Home) → CatOf bs c → home_read (home_at bs) ≡ Ok home → IsWeak (volume home bs)
weak-volume bs c home at e = record { none = λ f h. at.weak f (subst (λ (r : Result Home HomeFault). IsFatalBy bs r f) (sym e) h) }

runs-on : (v : Volume) (n : ℕ) → IsWeak v → IsNumber v n → HasRunsInside v n
runs-on v n weak number = elim (cases_Bool (list_any (is_off_bounds v) (runs v n))) [
  | inl off ↦ absurd (weak.none (finding.Runs n) (number, off))
  | inr on ↦ record { inside = on }
]

-- all runs are whole clusters
pub runs-inside : (v : Volume) → IsWeak v → HasAllRunsInside v
runs-inside v weak = record { inside = λ n number. runs-on v n weak number }

found-none : (v : Volume) (n : ℕ) (r : Result (List RawEnt) DirFault) → IsWeak v → IsNumber v n → dir_fault v n ≡ found_in n r → dir_fault v n ≡ None
found-none v n (Ok es) weak number e = e
found-none v n (Err (dir.BadRecord vbn)) weak number e = absurd (weak.none (finding.DirRecord n) (number, e))
found-none v n (Err dir.BadOrder) weak number e = absurd (weak.none (finding.DirOrder n) (number, e))
found-none v n (Err dir.Clash) weak number e = absurd (weak.none (finding.DirClash n) (number, e))
found-none v n (Err dir.NoMemory) weak number e = e

sized-none : (v : Volume) (n : ℕ) (is_dir sized : Bool) → IsWeak v → IsNumber v n
    → dir_fault v n ≡ (if not is_dir then None else if sized then found_in n (directory (body v n)) else Some (finding.DirSize n)) → dir_fault v n ≡ None
sized-none v n true true weak number e = found-none v n (directory (body v n)) weak number e
sized-none v n true false weak number e = absurd (weak.none (finding.DirSize n) (number, e))
sized-none v n false sized weak number e = e

test-none : (v : Volume) (n : ℕ) (o : Option Hdr) → IsWeak v → IsNumber v n → dir_fault v n ≡ dir_test v n o → dir_fault v n ≡ None
test-none v n None weak number e = e
test-none v n (Some f) weak number e = sized-none v n f.dir (is_one_header f (told v n) && has_dir_size (factor v) f (runs v n)) weak number e

fault-none : (v : Volume) (n : ℕ) → IsWeak v → IsNumber v n → dir_fault v n ≡ None
unfolding dir_fault
fault-none v n weak number = test-none v n (fields v n) weak number refl

-- no directory has a fault
pub directories-sound : (v : Volume) → IsWeak v → HasSoundDirectories v
directories-sound v weak = record { sound = λ n number. fault-none v n weak number }

-- ---- sizes

-- some of all clusters, of which there are as many as fit in 65,536 blocks
few-blocks : (f cluster blocks all free outside leaked sum some : ℕ) → f ≡ cluster → all ≡ blocks / cluster → all ≡ free + outside + leaked + sum
    → some ≤ sum → blocks ≤ 65536 → f * some ≤ 65536
few-blocks f cluster blocks all free outside leaked sum some same is adds le small =
    let less : some ≤ blocks / cluster = omega arith in
    let most : cluster * some ≤ cluster * (blocks / cluster) = mul-le-mul_left cluster less in
    let whole : cluster * (blocks / cluster) ≤ blocks = mul-div-le blocks cluster in
    let k : cluster * some ≤ 65536 = omega arith in
    subst (λ (x : ℕ). x * some ≤ 65536) (sym same) k

-- The clusters of the volume are those that are free, those that are leaked and those of its files, so no file has more.
pub file-sizes : (bs : List Block) (c : Cat) → IsSize (length bs) → AreWholeBlocks bs → CatOf bs c → HasFileSizes c
file-sizes bs c size whole at =
    let s = catalogue_is_spelt bs c size.from size.to whole at in
    let v = volume s.home bs in
    let add = clusters_add_up (geometry_of v) bs (owners_told v) c s.spelt in
    record {
      sizes = All-from_get_or (λ (x : Slot). c.factor * clusters_in x ≤ 65536) c.files (Free 0) (λ i h.
          few-blocks c.factor (factor v) (length bs) _ _ _ c.leaked (sum_by clusters_in c.files) (clusters_in (get_or c.files i (Free 0)))
          s.spelt.constants.factor refl add.all (get_or-le-sum_by clusters_in c.files i (Free 0) h) size.to);
    }
