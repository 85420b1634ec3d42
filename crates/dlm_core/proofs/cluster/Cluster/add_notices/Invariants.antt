use Rattle.std.proofs.Common.{◌≡◌, ◌++◌, filter, map, take}
use Rattle.dlm_core.specs.Notices.{is_in_way, notice_to}
use Rattle.dlm_core.proofs.cluster.Cluster.add_notices.Given as goal

abbrev pub invariant-loop-h : goal.invariant-loop-h
invariant-loop-h l = l.all.items ≡ l.fn.all.items ++ map (notice_to l.self l.waiter) (filter (is_in_way l.self l.waiter) (take l.h-index l.holds))
