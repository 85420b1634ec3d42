use Rattle.std.proofs.Common.{rules}
use Rattle.std.proofs.lemmas.Fn.{always_returns_same}
use Rattle.lock_db.specs.Names.{order_of}
use Rattle.lock_db.specs.declared.resource.Resource.{Resource}
use Rattle.lock_db.proofs.Order.{searched}
use Rattle.lock_db.proofs.table.search.Goals as goal

pub returns : goal.returns
returns c =
    let facts = c.binary_search_by.ensures in
    let by_order = facts.position (λ (r : Resource). order_of r.name c.args.name) (always_returns_same _ _ _ (λ a r g called. search rules)) in
    searched c.args.name c.args.table.now c.binary_search_by.result c.requires facts.bound by_order
