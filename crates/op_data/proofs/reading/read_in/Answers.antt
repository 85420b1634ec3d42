use Rattle.std.proofs.Common.{rules, ◌≡◌, ◌∙◌, false, cond, ap, sym}
use Rattle.std.proofs.lemmas.Result.{IfOk-weaker}
use Rattle.base_words.specs.Fields.{Block}
use Rattle.base_words.specs.Tables.{zeros}
use Rattle.plain_cat.specs.declared.reply.Reply.TheVariants as reply
use Rattle.plain_rules.specs.Changes.{is_past_mark}
use Rattle.op_law.specs.Events.{Events, Fetch, space_of, following}
use Rattle.op_law.specs.Rows.{answers}
use Rattle.op_law.specs.SeenFiles.{file_place}
use Rattle.op_steps.specs.Seeing.{file_seen}
use Rattle.op_data.proofs.reading.read_in.Goals as goal

pub returns-in-Next : goal.returns-in-Next
returns-in-Next c =
    let f = file_seen c.args.seen.now.geometry c.args.f.now in
    let space = space_of c.args.seen.now in
    let next : Block → Events = λ b. answers (reply.Bytes b) in
    let below : is_past_mark f.file c.args.vbn ≡ false = search rules in
    sym (
    ap (λ t. following (cond t (answers (reply.Bytes zeros)) (Fetch (file_place f c.args.vbn) next)) c.args.rest.locks.now c.args.rest.blocks.now space) below
    ∙ ap (λ l. following (Fetch l next) c.args.rest.locks.now c.args.rest.blocks.now space) (sym c.file_place.ensures)
    ∙ c.in-Next.ensures next space)

pub returns-in-Seen : goal.returns-in-Seen
returns-in-Seen c =
    let f = file_seen c.args.seen.now.geometry c.args.f.now in
    let space = space_of c.args.seen.now in
    let next : Block → Events = λ b. answers (reply.Bytes b) in
    let below : is_past_mark f.file c.args.vbn ≡ false = search rules in
    IfOk-weaker c.read-in-Seen.result _ _ (λ need is. is ∙ sym (
    ap (λ t. following (cond t (answers (reply.Bytes zeros)) (Fetch (file_place f c.args.vbn) next)) c.args.rest.locks.now c.args.rest.blocks.now space) below
    ∙ ap (λ l. following (Fetch l next) c.args.rest.locks.now c.args.rest.blocks.now space) (sym c.file_place.ensures)
    ∙ c.in-Seen.ensures next space)) c.read-in-Seen.ensures
