use Rattle.std.proofs.Common.{◌∙◌, Some, None, sym, ap}
use Rattle.std.specs.Prelude.{is_some}
use Rattle.vol_parts.specs.Iter.{slot_runs_left, runs_ahead}
use Rattle.vol_parts.specs.Volumes.{volume, headers_of, Told, runs}
use Rattle.vol_parts.proofs.Ahead.{ahead-none, ahead-all}
use Rattle.vol_parts.proofs.Alone.{first-says, file_told, none_told}
use Rattle.vol_parts.proofs.bodies.file_runs.Goals as goal

pub returns-in_default : goal.returns-in_default
unfolding runs
returns-in_default c =
    let v = volume c.args.home.now c.args.blocks.now in
    ahead-none (headers_of v) 0 None (slot_runs_left c.no_runs.result) ∙ ap (λ (t : Told). t.runs) (sym (none_told v c.args.n (sym c.fields.ensures ∙ c.in_default.is)))

pub used_slot_runs-requires-clause-used : goal.used_slot_runs-requires-clause-used
used_slot_runs-requires-clause-used c =
    let v = volume c.args.home.now c.args.blocks.now in
    record { used = ap is_some (first-says v c.args.n c.in-Some.first (sym c.fields.ensures ∙ c.in-Some.is)).1 }

pub returns : goal.returns
unfolding runs
returns c =
    let v = volume c.args.home.now c.args.blocks.now in
    let f = c.in-Some.first in
    ap (λ rs. runs_ahead (headers_of v) 15 (Some f) rs f.blocks) c.used_slot_runs.ensures
    ∙ ahead-all (headers_of v) c.args.n f
    ∙ ap (λ (t : Told). t.runs) (sym (file_told v c.args.n f (sym c.fields.ensures ∙ c.in-Some.is)))
