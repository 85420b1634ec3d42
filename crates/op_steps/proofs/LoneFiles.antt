-- A file of which the first header alone was seen.
use Rattle.std.proofs.Common.{◌≡◌, ◌∙◌, List, [], Some, All, sym, ap, subst}
use Rattle.fx_header.specs.declared.run.Run.{Run}
use Rattle.vol_spell.specs.Reading.{fields_told, runs_told}
use Rattle.vol_spell.proofs.Heads.{used_first}
use Rattle.op_law.specs.Readable.{AreInside, EndsInside}
use Rattle.op_law.specs.SeenFiles.{runs_by}
use Rattle.op_law.proofs.SeenRuns.{first_runs}
use Rattle.op_steps.specs.declared.seeing.FileSeen.{FileSeen}
use Rattle.op_steps.specs.Seeing.{file_runs, IsReadable}

-- where that header's runs end inside, so do the file's
pub lone_readable : (f : FileSeen) → f.rest.now ≡ [] → fields_told f.head.now ≡ Some f.fields → AreInside f.head.now → IsReadable f
lone_readable f none told inside =
    let same : file_runs f ≡ runs_told f.head.now = ap (runs_by f.fields.blocks f.head.now) none ∙ first_runs f.head.now f.fields (used_first f.head.now f.fields told) in
    record {
      reads = told;
      inside = subst (λ (rs : List Run). All EndsInside rs) (sym same) inside.runs;
      few = inside.few f.fields told;
    }
