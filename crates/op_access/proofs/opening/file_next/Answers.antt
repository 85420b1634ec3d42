use Rattle.std.proofs.Common.{◌∙◌}
use Rattle.op_law.specs.Events.{space_of}
use Rattle.op_access.proofs.OpenLaw.{header_events, shows_next, none_next, file_next}
use Rattle.op_access.proofs.opening.file_next.Goals as goal

pub returns-in-Next : goal.returns-in-Next
returns-in-Next c =
    let seen = c.args.seen.now in
    shows_next seen.geometry c.args.chan c.args.file c.args.mode _ _ _ _ (space_of seen) _ c.all.ensures.locks c.all.ensures.blocks
    (c.in-Next.ensures.need (header_events seen.geometry c.args.chan c.args.file c.args.mode) (space_of seen))

pub returns-in-Some : goal.returns-in-Some
returns-in-Some c =
    let seen = c.args.seen.now in
    c.opened.ensures ∙ shows_next seen.geometry c.args.chan c.args.file c.args.mode _ _ _ _ (space_of seen) _ c.all.ensures.locks c.all.ensures.blocks
    (c.in-Seen.ensures.need (header_events seen.geometry c.args.chan c.args.file c.args.mode) (space_of seen)
    ∙ file_next seen.geometry c.args.chan c.args.file c.args.mode c.in-Seen.header.now _ _ (space_of seen) c.in-Some.head c.in-Some.ensures.header)

pub returns-in-None : goal.returns-in-None
returns-in-None c =
    let seen = c.args.seen.now in
    c.refused.ensures ∙ shows_next seen.geometry c.args.chan c.args.file c.args.mode _ _ _ _ (space_of seen) _ c.all.ensures.locks c.all.ensures.blocks
    (c.in-Seen.ensures.need (header_events seen.geometry c.args.chan c.args.file c.args.mode) (space_of seen)
    ∙ none_next seen.geometry c.args.chan c.args.file c.args.mode c.in-Seen.header.now _ _ (space_of seen) c.in-None.ensures.header)
