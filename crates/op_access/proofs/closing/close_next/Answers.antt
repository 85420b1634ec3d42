use Rattle.std.proofs.Common.{◌≡◌, sym, subst}
use Rattle.op_law.specs.Behind.{goes_on_by}
use Rattle.op_law.specs.Channels.{close_on, close_events}
use Rattle.op_law.specs.Events.{Space as Given, next_of}
use Rattle.op_law.specs.Readable.{HeadIsInside}
use Rattle.std.specs.Prelude.{Some}
use Rattle.op_access.specs.Seeing.{HeadIsFollowed}
use Rattle.op_access.proofs.Looking.{close_inside, close_followed, shows_next}
use Rattle.op_steps.proofs.Mapped.{mapped}
use Rattle.op_access.proofs.closing.close_next.Goals as goal

pub open_looked-requires-clause-inside : goal.open_looked-requires-clause-inside
open_looked-requires-clause-inside c =
    subst HeadIsInside (sym c.all.ensures.blocks) (close_inside c.args.chan c.in-Some.channel c.args.seen.now c.in-Some.is c.requires.fits)

pub open_looked-requires-clause-followed : goal.open_looked-requires-clause-followed
open_looked-requires-clause-followed c =
    let seen = c.args.seen.now in
    let p = c.in-Some.channel in
    subst (HeadIsFollowed seen.geometry p.file.seq) (sym c.all.ensures.blocks) (close_followed c.args.chan p seen c.in-Some.is c.requires.fits)

pub returns-in-Some : goal.returns-in-Some
returns-in-Some c =
    let seen = c.args.seen.now in
    let p = c.in-Some.channel in
    mapped _ _ (λ n. (given : Given) → goes_on_by (close_on seen.geometry (Some p) c.args.chan) c.all.result given ≡ n) (λ n. n ≡ next_of (close_events seen.geometry seen.channel c.args.chan) seen) c.open_looked.result
    (λ n h. shows_next seen c.args.chan p c.all.result n c.in-Some.is c.all.ensures.locks c.all.ensures.blocks h) c.open_looked.ensures
