use Rattle.std.proofs.Common.{arith}
use Rattle.core_state.proofs.Sparing.{none_made, one_more}
use Rattle.core_state.proofs.spare.SpareLists.new.Goals as goal

pub loop-init : goal.loop-init
loop-init c = none_made c.new-lists.result.items c.new-lists.ensures.items

pub loop-preserved : goal.loop-preserved
loop-preserved c = one_more c.loop.lists.items c.push.new.self.items c.in_ok-spare_list.field-0 c.loop.counter c.loop.invariant c.in_ok-push.ensures.items c.in_ok-spare_list.ensures.empty c.in_ok-spare_list.ensures.room

pub invariant_of-result : goal.invariant_of-result
invariant_of-result c = c.loop.invariant.spare

pub returns : goal.returns
returns c = let done = c.loop-test.false in let end = c.loop.auto.counter-end in let many = c.loop.invariant.many in omega arith
