use Rattle.std.proofs.Common.{◌≡◌, ◌∙◌, ℕ, sym, subst, arith}
use Rattle.std.proofs.lemmas.List.{length-map}
use Rattle.base_words.specs.Fields.{Block}
use Rattle.plain_rules.specs.Lookups.{versions, entry_of}
use Rattle.op_law.specs.Events.{Events, Space, space_of, next_of, HasNoSpace, following}
use Rattle.op_law.specs.Behind.{goes_on_by, FollowsBy}
use Rattle.op_law.specs.Moving.{SeenDir, entries_of, through_names}
use Rattle.op_law.specs.Readable.{HeadIsInside, HeadIsReadable}
use Rattle.op_law.specs.Removing.{delete_events}
use Rattle.op_steps.specs.Names.{dir_seen}
use Rattle.op_steps.proofs.Followed.{first_names}
use Rattle.op_delete.proofs.Walks.{behind}
use Rattle.op_delete.proofs.Behind.{order, first_inside, first_readable, dir_few, behind_inside, behind_followed, behind_lone}
use Rattle.op_delete.proofs.Told.{lock_so}
use Rattle.op_steps.proofs.Mapped.{mapped}
use Rattle.op_delete.proofs.deleting.delete_next.Goals as goal

pub names_seen-requires-clause-inside : goal.names_seen-requires-clause-inside
names_seen-requires-clause-inside c =
    subst HeadIsInside (sym c.all.ensures.blocks) (first_inside c.args.dir c.args.name.now c.args.ver c.args.seen.now c.requires.fits)

pub dir_looked-requires-clause-few : goal.dir_looked-requires-clause-few
dir_looked-requires-clause-few c =
    let seen = c.args.seen.now in
    let g = seen.geometry in
    let dir = c.args.dir in
    let name = c.args.name.now in
    let d = dir_seen c.in-All.d in
    let rest = c.in-All.rest in
    let then : SeenDir → Events = behind dir name c.args.ver g in
    let follows = c.in-All.ensures.follows then (space_of seen) (first_names g dir then seen c.all.result c.all.ensures.locks c.all.ensures.blocks (order dir name c.args.ver seen c.requires.fits)) in
    let few = dir_few dir name c.args.ver seen c.requires.fits d rest.locks.now rest.blocks.now
    (λ next. (λ i. following (through_names g dir next) (sym c.all.ensures.locks i) (sym c.all.ensures.blocks i) (space_of seen)) ∙ c.in-All.ensures.need next (space_of seen)) follows in
    let count = length-map c.in-All.d.blocks.now (λ (s : ℕ × Block). s.1) in
    omega arith

pub dir_looked-requires-clause-inside : goal.dir_looked-requires-clause-inside
dir_looked-requires-clause-inside c =
    let seen = c.args.seen.now in
    let g = seen.geometry in
    let dir = c.args.dir in
    let name = c.args.name.now in
    let d = dir_seen c.in-All.d in
    let rest = c.in-All.rest in
    let then : SeenDir → Events = behind dir name c.args.ver g in
    let follows = c.in-All.ensures.follows then (space_of seen) (first_names g dir then seen c.all.result c.all.ensures.locks c.all.ensures.blocks (order dir name c.args.ver seen c.requires.fits)) in
    behind_inside dir name c.args.ver seen c.requires.fits d rest.locks.now rest.blocks.now
    (λ next. (λ i. following (through_names g dir next) (sym c.all.ensures.locks i) (sym c.all.ensures.blocks i) (space_of seen)) ∙ c.in-All.ensures.need next (space_of seen)) follows

pub dir_looked-requires-clause-followed : goal.dir_looked-requires-clause-followed
dir_looked-requires-clause-followed c =
    let seen = c.args.seen.now in
    let g = seen.geometry in
    let dir = c.args.dir in
    let name = c.args.name.now in
    let d = dir_seen c.in-All.d in
    let rest = c.in-All.rest in
    let then : SeenDir → Events = behind dir name c.args.ver g in
    let follows = c.in-All.ensures.follows then (space_of seen) (first_names g dir then seen c.all.result c.all.ensures.locks c.all.ensures.blocks (order dir name c.args.ver seen c.requires.fits)) in
    behind_followed dir name c.args.ver seen c.requires.fits d rest.locks.now rest.blocks.now
    (λ next. (λ i. following (through_names g dir next) (sym c.all.ensures.locks i) (sym c.all.ensures.blocks i) (space_of seen)) ∙ c.in-All.ensures.need next (space_of seen)) follows

pub dir_looked-requires-clause-lone : goal.dir_looked-requires-clause-lone
dir_looked-requires-clause-lone c =
    let seen = c.args.seen.now in
    let g = seen.geometry in
    let dir = c.args.dir in
    let name = c.args.name.now in
    let d = dir_seen c.in-All.d in
    let rest = c.in-All.rest in
    let then : SeenDir → Events = behind dir name c.args.ver g in
    let follows = c.in-All.ensures.follows then (space_of seen) (first_names g dir then seen c.all.result c.all.ensures.locks c.all.ensures.blocks (order dir name c.args.ver seen c.requires.fits)) in
    behind_lone dir name c.args.ver seen c.requires.fits d rest.locks.now rest.blocks.now
    (λ next. (λ i. following (through_names g dir next) (sym c.all.ensures.locks i) (sym c.all.ensures.blocks i) (space_of seen)) ∙ c.in-All.ensures.need next (space_of seen)) follows

pub returns-in-Next : goal.returns-in-Next
unfolding delete_events
returns-in-Next c =
    let seen = c.args.seen.now in
    let g = seen.geometry in
    let dir = c.args.dir in
    let then : SeenDir → Events = behind dir c.args.name.now c.args.ver g in
    sym ((λ i. following (through_names g dir then) (sym c.all.ensures.locks i) (sym c.all.ensures.blocks i) (space_of seen)) ∙ c.in-Next.ensures.need then (space_of seen))

pub dir_looked-requires-clause-locked : goal.dir_looked-requires-clause-locked
dir_looked-requires-clause-locked c =
    let seen = c.args.seen.now in
    let g = seen.geometry in
    let dir = c.args.dir in
    let name = c.args.name.now in
    let d = dir_seen c.in-All.d in
    let rest = c.in-All.rest in
    let then : SeenDir → Events = behind dir name c.args.ver g in
    let follows = c.in-All.ensures.follows then (space_of seen) (first_names g dir then seen c.all.result c.all.ensures.locks c.all.ensures.blocks (order dir name c.args.ver seen c.requires.fits)) in
    let lone = behind_lone dir name c.args.ver seen c.requires.fits d rest.locks.now rest.blocks.now
    (λ next. (λ i. following (through_names g dir next) (sym c.all.ensures.locks i) (sym c.all.ensures.blocks i) (space_of seen)) ∙ c.in-All.ensures.need next (space_of seen)) follows in
    lock_so g d (entry_of (versions name (entries_of d)) c.args.ver) (space_of seen) (HasNoSpace (space_of seen)) rest.locks.now rest.blocks.now lone follows

pub returns-in-All : goal.returns-in-All
unfolding delete_events
returns-in-All c =
    let seen = c.args.seen.now in
    let g = seen.geometry in
    let dir = c.args.dir in
    let name = c.args.name.now in
    let d = dir_seen c.in-All.d in
    let rest = c.in-All.rest in
    let then : SeenDir → Events = behind dir name c.args.ver g in
    let follows = c.in-All.ensures.follows then (space_of seen) (first_names g dir then seen c.all.result c.all.ensures.locks c.all.ensures.blocks (order dir name c.args.ver seen c.requires.fits)) in
    mapped _ _ (λ n. (given : Space) → FollowsBy (then d) rest given → goes_on_by (then d) rest given ≡ n) (λ n. n ≡ next_of (delete_events g dir name c.args.ver) seen) c.dir_looked.result
    (λ n h. sym ((λ i. following (through_names g dir then) (sym c.all.ensures.locks i) (sym c.all.ensures.blocks i) (space_of seen)) ∙ c.in-All.ensures.need then (space_of seen) ∙ h (space_of seen) follows))
    c.dir_looked.ensures

pub dir_looked-requires-clause-read : goal.dir_looked-requires-clause-read
dir_looked-requires-clause-read c =
    c.in-All.ensures.read (subst (HeadIsReadable c.args.dir) (sym c.all.ensures.blocks) (first_readable c.args.dir c.args.name.now c.args.ver c.args.seen.now c.requires.fits))
