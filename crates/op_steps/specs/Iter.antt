-- What the iterators over the runs of a file have left to yield.
use Rattle.std.specs.Prelude.{◌++◌, List}
use Rattle.std.specs.List.{flat_map}
use Rattle.fx_header.specs.declared.run.Run.{Run}
use Rattle.vol_parts.specs.Chains.{cut}
use Rattle.vol_parts.specs.Iter.{left_in}
use Rattle.op_law.specs.SeenFiles.{runs_listed}
use Rattle.op_steps.specs.declared.runs.HeaderRuns.{HeaderRuns}
use Rattle.op_steps.specs.declared.runs.ListedRuns.{ListedRuns}
use Rattle.op_steps.specs.declared.runs.SeenRuns.{SeenRuns}

-- the runs that are left of one header
abbrev pub header_left : HeaderRuns → List Run
header_left it = left_in it.runs

-- those that are left of the headers of a file
abbrev pub listed_left : ListedRuns → List Run
listed_left it = header_left it.header ++ flat_map (λ x. runs_listed x.1) it.rest.now

-- those that are left of the file
abbrev pub seen_left : SeenRuns → List Run
seen_left it = cut it.blocks (listed_left it.listed)
