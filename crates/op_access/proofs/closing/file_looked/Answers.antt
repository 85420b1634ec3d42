use Rattle.std.proofs.Common.{rules, ◌≡◌, ◌∙◌, ◌/◌, true, false, cond, ap}
use Rattle.plain_cat.specs.declared.mode.Mode.TheVariants.{PW}
use Rattle.plain_cat.specs.declared.reply.Reply.TheVariants as reply
use Rattle.plain_rules.specs.Lookups.{extra}
use Rattle.op_law.specs.Behind.{goes_on_by}
use Rattle.op_law.specs.Channels.{close_in}
use Rattle.op_law.specs.Events.{Events, Space as Given, following}
use Rattle.op_law.specs.Headers.{through_chain}
use Rattle.op_law.specs.Rows.{answers}
use Rattle.op_steps.specs.Chains.{behind_chain}
use Rattle.op_steps.specs.Seeing.{file_seen}
use Rattle.op_steps.proofs.Mapped.{mapped}
use Rattle.op_steps.proofs.FreeingChainNumbers.{more_numbers}
use Rattle.op_access.specs.Seeing.{file_goes}
use Rattle.op_access.proofs.closing.file_looked.Goals as goal

pub chain_seen-requires-clause-headers : goal.chain_seen-requires-clause-headers
chain_seen-requires-clause-headers c = c.requires.followed (search rules)

pub whole_looked-requires-clause-numbers : goal.whole_looked-requires-clause-numbers
whole_looked-requires-clause-numbers c =
    let g = c.args.g.now in
    let f = c.args.f.now in
    let marked : f.fields.marked ≡ true = search rules in
    more_numbers g (extra (f.fields.blocks / g.cluster)) f c.args.rest.blocks.now c.in-File.whole c.in-File.behind c.requires.number (c.requires.followed marked).linked c.in-File.ensures.file

pub whole_looked-requires-clause-readable : goal.whole_looked-requires-clause-readable
whole_looked-requires-clause-readable c = c.in-File.ensures.file.readable

pub returns-in-Next : goal.returns-in-Next
returns-in-Next c = λ given.
    let g = c.args.g.now in
    let f = file_seen g c.args.f.now in
    let next = file_goes g c.args.chan c.args.mode in
    let marked : c.args.f.now.fields.marked ≡ true = search rules in
    ap (λ t. following (cond t (through_chain g PW f next) (answers (reply.Closed false))) c.args.rest.locks.now c.args.rest.blocks.now given) marked
    ∙ c.chain_seen.ensures.need next given
    ∙ ap (behind_chain g next given) c.in-Next.is

pub returns-in-File : goal.returns-in-File
returns-in-File c =
    let g = c.args.g.now in
    let f = file_seen g c.args.f.now in
    let whole = file_seen g c.in-File.whole in
    let next = file_goes g c.args.chan c.args.mode in
    let marked : c.args.f.now.fields.marked ≡ true = search rules in
    mapped _ _ (λ n. (given : Given) → goes_on_by (next whole) c.in-File.behind given ≡ n) (λ n. (given : Given) → goes_on_by (close_in g c.args.chan c.args.mode f) c.args.rest given ≡ n) c.whole_looked.result
    (λ n h given.
    ap (λ t. following (cond t (through_chain g PW f next) (answers (reply.Closed false))) c.args.rest.locks.now c.args.rest.blocks.now given) marked
    ∙ c.chain_seen.ensures.need next given
    ∙ ap (behind_chain g next given) c.in-File.is
    ∙ h given)
    c.whole_looked.ensures
