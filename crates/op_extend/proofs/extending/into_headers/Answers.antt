use Rattle.std.proofs.Common.{◌≡◌, ◌∙◌, ℕ, Option, Some, sym, ap, subst}
use Rattle.std.specs.Prelude.{IfOk}
use Rattle.base_words.specs.Fields.{Block}
use Rattle.fx_header.specs.Headers.{header_read}
use Rattle.op_law.specs.declared.need.Need.{Need}
use Rattle.op_law.specs.Behind.{goes_on_by, blocks_alone}
use Rattle.op_law.specs.Entering.{slot_seq}
use Rattle.op_law.specs.Events.{Events, space_of}
use Rattle.op_law.specs.Sizes.{grown_by, into_headers}
use Rattle.op_steps.specs.Seeing.{file_seen}
use Rattle.op_extend.proofs.extending.into_headers.Goals as goal

pub returns-in-Next : goal.returns-in-Next
returns-in-Next c =
    let g = c.args.seen.now.geometry in
    let f = file_seen g c.args.f.now in
    let quota = blocks_alone c.args.quota.now in
    let qs = c.args.seen.now.clusters in
    let n = c.in-Some.n in
    let space = space_of c.args.seen.now in
    let next : Block → Events = λ slot. grown_by g f quota c.args.k qs (Some (n, slot_seq (header_read slot))) in
    sym (c.in-Next.ensures.need next space) ∙ ap (λ (o : Option ℕ). goes_on_by (into_headers g f quota c.args.k qs o) c.args.rest space) (sym c.in-Some.is)

pub returns-in-Seen : goal.returns-in-Seen
returns-in-Seen c =
    let g = c.args.seen.now.geometry in
    let f = file_seen g c.args.f.now in
    let quota = blocks_alone c.args.quota.now in
    let qs = c.args.seen.now.clusters in
    let n = c.in-Some.n in
    let space = space_of c.args.seen.now in
    let next : Block → Events = λ slot. grown_by g f quota c.args.k qs (Some (n, slot_seq (header_read slot))) in
    let same = ap (λ s. goes_on_by (grown_by g f quota c.args.k qs (Some (n, s))) c.in-Seen.field-1 space) c.slot_seq.ensures
    ∙ sym (c.in-Seen.ensures.need next space) ∙ ap (λ (o : Option ℕ). goes_on_by (into_headers g f quota c.args.k qs o) c.args.rest space) (sym c.in-Some.is) in
    subst (λ (w : Need). IfOk c.grown-in-Seen.result (λ need. need ≡ w)) same c.grown-in-Seen.ensures
