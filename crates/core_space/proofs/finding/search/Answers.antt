use Rattle.std.proofs.Common.{◌++◌, Bool, List, [], ◌∷◌, sym, ap, ◌∙◌}
use Rattle.std.proofs.lemmas.Result.{IfOk-weaker}
use Rattle.op_law.specs.declared.need.PlanWrite.{PlanWrite}
use Rattle.core_space.specs.declared.outcome.Search.{Search}
use Rattle.core_space.specs.Answering.{answer, blocks_alone}
use Rattle.core_space.proofs.Concluding.{answer_without, answer_with, found_number_is}
use Rattle.core_space.proofs.finding.search.Goals as goal

pub returns-then-not-number : goal.returns-then-not-number
returns-then-not-number c =
    let g = c.args.geometry.now in
    IfOk-weaker c.search_storage.result _ _ (λ (s : Search) e.
    answer_without g c.args.clusters c.args.looked.now c.new-writes.result s c.new-writes.ensures e
    ∙ ap (λ (b : Bool). answer g c.args.clusters b (blocks_alone c.args.looked.now)) (sym c.if-not-number.true)) c.search_storage.ensures

pub number_write-requires-clause-number : goal.number_write-requires-clause-number
number_write-requires-clause-number c = found_number_is c.args.geometry.now _ c.in-Some.n c.in-Some.ensures

pub returns : goal.returns
returns c =
    let g = c.args.geometry.now in
    let ws = c.in_ok-push.ensures.ok ∙ ap (λ (vs : List PlanWrite). vs ++ c.number_write.result ∷ []) c.new-writes.ensures ∙ ap (λ (w : PlanWrite). w ∷ []) c.number_write.ensures in
    IfOk-weaker c.search_storage-2.result _ _ (λ (s : Search) e.
    answer_with g c.args.clusters c.in-Some.n c.args.looked.now c.push.new.self s c.in-len1-up.len_at_least c.in-Some.ensures ws e
    ∙ ap (λ (b : Bool). answer g c.args.clusters b (blocks_alone c.args.looked.now)) (sym c.if-not-number.false)) c.search_storage-2.ensures
