use Rattle.std.proofs.Common.{◌≡◌, take}
use Rattle.std.specs.List.{flat_map}
use Rattle.vol_show.specs.Fronts.{raw_line}
use Rattle.vol_show.proofs.fronts.raw_lines.Given as goal

abbrev pub invariant-loop-place : goal.invariant-loop-place
invariant-loop-place l = l.text.items ≡ flat_map (raw_line l.stream) (take l.place-index l.places)
