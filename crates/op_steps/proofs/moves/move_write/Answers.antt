use Rattle.std.proofs.Common.{◌≡◌, ◌∙◌, ◌-◌, None, ap, slice_index_or, slice_get}
use Rattle.std.specs.Prelude.{unwrap_or}
use Rattle.std.proofs.lemmas.Option.{unwrap_or-slice_get}
use Rattle.lock_db.specs.declared.name.LockName.TheVariants.{S}
use Rattle.vol_spell.specs.Entries.{places_in}
use Rattle.op_steps.proofs.moves.move_write.Goals as goal

pub returns : goal.returns
returns c =
    let head = c.args.d.now.head.now in
    let m = c.args.m.now in
    let e : c.unwrap_or.result ≡ slice_index_or (places_in head) (m.vbn - 1) 0 =
    c.unwrap_or.ensures ∙ ap (λ o. unwrap_or o 0) (c.place_in.ensures ∙ ap (slice_get (places_in head)) c.saturating_sub-at.ensures) ∙ unwrap_or-slice_get (places_in head) (m.vbn - 1) 0 in
    λ i. record { lock = S c.args.d.now.fid.num; lbn = e i; block = m.block; stage = c.args.stage; clusters = c.new-clusters.ensures i; numbers = c.new-numbers.ensures i; number = None }
