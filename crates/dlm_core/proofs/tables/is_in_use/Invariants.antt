use Rattle.std.proofs.Common.{◌≡◌, drop}
use Rattle.std.specs.List.{list_any}
use Rattle.dlm_core.specs.Steps.{stands_there}
use Rattle.dlm_core.proofs.tables.is_in_use.Given as goal

abbrev pub invariant-loop-h : goal.invariant-loop-h
invariant-loop-h l = list_any (stands_there l.name l.table) (drop l.h-index l.holds) ≡ list_any (stands_there l.name l.table) l.holds
