use Rattle.std.proofs.Common.{◌≡◌, ◌∙◌, ◌++◌, [], None, List, sym, subst}
use Rattle.std.specs.Prelude.{OnOk, map}
use Rattle.op_law.specs.declared.need.PlanWrite.{PlanWrite}
use Rattle.op_law.specs.Writing.{with_numbers}
use Rattle.core_space.specs.declared.outcome.Search.TheVariants as search
use Rattle.core_space.specs.Searching.{cluster_writes}
use Rattle.core_space.specs.Answering.{blocks_alone}
use Rattle.core_space.proofs.Loops.{there_are}
use Rattle.core_space.proofs.filling.add_clusters.Goals as goal

pub returns-in-Take : goal.returns-in-Take
returns-in-Take c =
    let all : List PlanWrite = cluster_writes c.args.geometry.now c.args.count None [] 0 (blocks_alone c.args.storage.now) in
    let same : search.Take c.in-Take.list ≡ search.Take all = sym c.in-Take.is ∙ c.in_ok-list.ensures ∙ there_are c.args.geometry.now c.args.count (blocks_alone c.args.storage.now) c.requires.there in
    let list : c.in-Take.list ≡ all = cc in
    subst (λ (ws : List PlanWrite). OnOk c.put_behind.result (c.put_behind.new.writes ≡ c.args.writes.now ++ map (with_numbers c.args.numbers.now) ws)) (c.items.ensures ∙ list) c.put_behind.ensures

pub returns-in_default : goal.returns-in_default
returns-in_default c =
    let all : List PlanWrite = cluster_writes c.args.geometry.now c.args.count None [] 0 (blocks_alone c.args.storage.now) in
    absurd (c.in_default.not-Take all (c.in_ok-list.ensures ∙ there_are c.args.geometry.now c.args.count (blocks_alone c.args.storage.now) c.requires.there))
