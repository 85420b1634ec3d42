use Rattle.std.proofs.Common.{◌≡◌, ◌∙◌, ap, sym, subst}
use Rattle.std.specs.Prelude.{IfOk}
use Rattle.plain_rules.specs.Lookups.{versions}
use Rattle.plain_rules.specs.Directories.{new_version}
use Rattle.plain_rules.specs.Changes.{new_file}
use Rattle.plain_rules.specs.Answers.{first_refusal}
use Rattle.op_law.specs.Events.{space_of}
use Rattle.op_law.specs.Moving.{entries_of}
use Rattle.op_law.specs.Entering.{NewEntry, numbered, made_of, create_refusals}
use Rattle.op_law.specs.Behind.{goes_on_by, blocks_alone}
use Rattle.op_steps.specs.Names.{dir_seen}
use Rattle.op_create.specs.Files.{entry_made}
use Rattle.op_create.specs.Given.{behind_place}
use Rattle.op_create.proofs.Judged.{made_at, place_next}
use Rattle.op_create.proofs.entering.create_judged.Goals as goal

pub returns-in-Next : goal.returns-in-Next
returns-in-Next c =
    let seen = c.args.seen.now in
    let g = seen.geometry in
    let d = dir_seen c.args.d.now in
    let e : NewEntry = record { name = c.args.name.now; ver = new_version c.args.ver (versions c.args.name.now (entries_of d)); file = new_file 0 c.args.owner c.args.clusters } in
    sym (place_next g d e (first_refusal (create_refusals g (entries_of d) c.args.name.now c.args.ver c.args.clusters)) c.args.rest (space_of seen) c.in_ok-need.field-0 c.requires.judged (c.in_ok-need.ensures.need (made_at g d e))
    ∙ ap (behind_place (made_at g d e) (space_of seen)) c.in-Next.is)

pub returns-in-Slot : goal.returns-in-Slot
returns-in-Slot c =
    let seen = c.args.seen.now in
    let g = seen.geometry in
    let d = dir_seen c.args.d.now in
    let name = c.args.name.now in
    let file = new_file 0 c.args.owner c.args.clusters in
    let e : NewEntry = record { name = name; ver = new_version c.args.ver (versions name (entries_of d)); file = file } in
    let path = place_next g d e (first_refusal (create_refusals g (entries_of d) name c.args.ver c.args.clusters)) c.args.rest (space_of seen) c.in_ok-need.field-0 c.requires.judged (c.in_ok-need.ensures.need (made_at g d e))
    ∙ ap (behind_place (made_at g d e) (space_of seen)) c.in-Slot.is in
    let version = c.new_version-ver.ensures.value in
    let file_is : entry_made c.new_file-f.result ≡ e = c.new_file-f.ensures ∙ ap (λ v. record { name = name; ver = v; file = file }) version in
    let numbered_is : entry_made c.numbered.result ≡ numbered c.in-Slot.slot.now e = ap entry_made c.numbered.ensures ∙ ap (numbered c.in-Slot.slot.now) file_is in
    subst (λ x. IfOk c.made.result (λ need. need ≡ x))
    (ap (λ y. goes_on_by (made_of g d (blocks_alone c.in-Slot.quota.now) y c.in-Slot.n seen.clusters) c.in-Slot.last (space_of seen)) numbered_is ∙ sym path)
    c.made.ensures
