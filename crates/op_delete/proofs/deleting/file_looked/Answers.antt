use Rattle.std.proofs.Common.{◌≡◌, ◌/◌, ◌∙◌, ap, sym, subst}
use Rattle.plain_rules.specs.Lookups.{extra, versions, entry_of}
use Rattle.op_law.specs.Behind.{goes_on_by, FollowsBy}
use Rattle.op_law.specs.Events.{Space as Given}
use Rattle.op_law.specs.Moving.{entries_of}
use Rattle.op_law.specs.Readable.{AreInside}
use Rattle.op_steps.specs.Chains.{behind_chain, FollowsChain}
use Rattle.op_steps.specs.Names.{dir_seen}
use Rattle.op_steps.specs.Seeing.{file_seen}
use Rattle.op_steps.proofs.Mapped.{mapped}
use Rattle.op_steps.proofs.FreeingChainNumbers.{more_numbers}
use Rattle.op_delete.specs.Deleting.{whole_goes, file_goes}
use Rattle.op_delete.proofs.WholeDirs.{dir_whole}
use Rattle.op_delete.proofs.deleting.file_looked.Goals as goal

pub chain_seen-requires-clause-alone : goal.chain_seen-requires-clause-alone
chain_seen-requires-clause-alone c = c.requires.begun.alone

pub chain_seen-requires-clause-readable : goal.chain_seen-requires-clause-readable
chain_seen-requires-clause-readable c = c.requires.begun.readable

pub chain_seen-requires-clause-headers : goal.chain_seen-requires-clause-headers
chain_seen-requires-clause-headers c = c.requires.begun.headers

pub whole_looked-requires-clause-numbers : goal.whole_looked-requires-clause-numbers
whole_looked-requires-clause-numbers c =
    let g = c.args.g.now in
    let f = c.args.f.now in
    more_numbers g (extra (f.fields.blocks / g.cluster)) f c.args.rest.blocks.now c.in-File.whole c.in-File.behind c.requires.begun.number c.requires.begun.headers.linked c.in-File.ensures.file

pub whole_looked-requires-clause-readable : goal.whole_looked-requires-clause-readable
whole_looked-requires-clause-readable c = c.in-File.ensures.file.readable

pub whole_looked-requires-clause-whole : goal.whole_looked-requires-clause-whole
whole_looked-requires-clause-whole c =
    let more = c.in-File.ensures.file in
    dir_whole c.in-File.whole more.readable.reads (subst AreInside (sym more.head) c.requires.begun.inside)

pub returns-in-Next : goal.returns-in-Next
returns-in-Next c = λ given follows.
    let g = c.args.g.now in
    let d = dir_seen c.args.d.now in
    let o = entry_of (versions c.args.name.now (entries_of d)) c.args.ver in
    c.chain_seen.ensures.need (whole_goes g d o) given ∙ ap (behind_chain g (whole_goes g d o) given) c.in-Next.is

pub returns-in-File : goal.returns-in-File
returns-in-File c =
    let g = c.args.g.now in
    let d = dir_seen c.args.d.now in
    let f = file_seen g c.args.f.now in
    let whole = file_seen g c.in-File.whole in
    let o = entry_of (versions c.args.name.now (entries_of d)) c.args.ver in
    mapped _ _ (λ n. (given : Given) → FollowsBy (whole_goes g d o whole) c.in-File.behind given → goes_on_by (whole_goes g d o whole) c.in-File.behind given ≡ n)
    (λ n. (given : Given) → FollowsBy (file_goes g d o f) c.args.rest given → goes_on_by (file_goes g d o f) c.args.rest given ≡ n) c.whole_looked.result
    (λ n h given follows.
    c.chain_seen.ensures.need (whole_goes g d o) given
    ∙ ap (behind_chain g (whole_goes g d o) given) c.in-File.is
    ∙ h given (subst (FollowsChain g (whole_goes g d o) given) c.in-File.is (c.chain_seen.ensures.follows (whole_goes g d o) given follows)))
    c.whole_looked.ensures
