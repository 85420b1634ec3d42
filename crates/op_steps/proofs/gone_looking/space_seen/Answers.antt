use Rattle.std.proofs.Common.{◌∙◌, ◌≡◌, List, ap, sym}
use Rattle.base_words.specs.Fields.{Block}
use Rattle.op_law.specs.declared.need.Plan.{Plan}
use Rattle.op_law.specs.Behind.{blocks_alone}
use Rattle.op_law.specs.Events.{Events, Make, Space as Given, following}
use Rattle.op_law.specs.Refusing.{SeenFile}
use Rattle.op_law.specs.Freeing.{SeenSpace, all_clusters, through_space}
use Rattle.op_steps.specs.Looking.{through_bitmaps, behind_space}
use Rattle.op_steps.proofs.Mapped.{mapped}
use Rattle.op_steps.proofs.gone_looking.space_seen.Goals as goal

pub returns-in-All-clause-need : goal.returns-in-All-clause-need
returns-in-All-clause-need c =
    let g = c.args.g.now in
    let qs = c.args.clusters.now in
    let quota = blocks_alone c.in-All.quota.now in
    let rest = c.args.rest in
    let more = c.in-All.behind in
    mapped _ _ (λ r. (plan : SeenSpace → Plan) (given : Given) → following (through_bitmaps g qs quota (λ s. Make (plan s))) more.locks.now more.blocks.now given ≡ behind_space plan r)
    (λ r. (f : SeenFile) (plan : SeenSpace → Plan) (given : Given) → qs ≡ all_clusters g f → following (through_space g f (λ s. Make (plan s))) rest.locks.now rest.blocks.now given ≡ behind_space plan r)
    c.bitmaps_seen.result
    (λ r h f plan given e.
    let then : List Block → Events = λ bs. through_bitmaps g (all_clusters g f) bs (λ s. Make (plan s)) in
    c.in-All.ensures.need then given
    ∙ ap (λ cs. following (through_bitmaps g cs quota (λ s. Make (plan s))) more.locks.now more.blocks.now given) (sym e)
    ∙ h plan given)
    c.bitmaps_seen.ensures.need
