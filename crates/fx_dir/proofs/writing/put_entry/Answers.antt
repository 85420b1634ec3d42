use Rattle.std.proofs.Common.{◌≡◌, ◌∙◌, ◌+◌, ◌%◌, suc, length, sym, ap, arith}
use Rattle.base_words.specs.Packing.{padded}
use Rattle.base_words.specs.Fields.{put}
use Rattle.fx_dir.specs.Writing.{last_name, head_bytes, following}
use Rattle.fx_dir.proofs.Steps.{name-short}
use Rattle.fx_dir.proofs.Written.{length-version}
use Rattle.fx_dir.proofs.Placing.{entry-goes_on, entry-long, entry-put}
use Rattle.fx_dir.proofs.writing.put_entry.Goals as goal

pub put_version-requires-clause-room : goal.put_version-requires-clause-room
put_version-requires-clause-room c =
    let g = sym c.goes_on.ensures ∙ c.if-goes_on.true in
    omega (arith, c.requires.room, ap length (entry-goes_on _ c.args.e.now (suc (following c.args.e.now.name c.args.more.now)) g), length-version c.args.e.now)

pub returns-then-goes_on-clause-end : goal.returns-then-goes_on-clause-end
returns-then-goes_on-clause-end c =
    let g = sym c.goes_on.ensures ∙ c.if-goes_on.true in
    omega (arith, ap length (entry-goes_on _ c.args.e.now (suc (following c.args.e.now.name c.args.more.now)) g), length-version c.args.e.now)

pub put_head-requires-clause-named : goal.put_head-requires-clause-named
put_head-requires-clause-named c = name-short c.args.e.now.name c.requires.form.named

pub put_head-requires-clause-room : goal.put_head-requires-clause-room
put_head-requires-clause-room c =
    let g = sym c.goes_on.ensures ∙ c.if-goes_on.false in
    omega (arith, c.requires.room, entry-long _ c.args.e.now (suc (following c.args.e.now.name c.args.more.now)) g)

pub put_version-requires-2-clause-room : goal.put_version-requires-2-clause-room
put_version-requires-2-clause-room c =
    let g = sym c.goes_on.ensures ∙ c.if-goes_on.false in
    rw c.bytes-name.ensures (omega (arith, c.requires.room, entry-long _ c.args.e.now (suc (following c.args.e.now.name c.args.more.now)) g))

pub returns-clause-text : goal.returns-clause-text
returns-clause-text c =
    let e = c.args.e.now in
    let g = sym c.goes_on.ensures ∙ c.if-goes_on.false in
    let n : 1 + c.following.result ≡ suc (following c.args.e.now.name c.args.more.now) = omega (arith, c.following.ensures.count) in
    let l = c.told-b in
    let p : c.args.at + (6 + (length c.bytes-name.result.now + length c.bytes-name.result.now % 2)) ≡ c.args.at + (6 + padded e.name) = ap (λ name. c.args.at + (6 + (length name + length name % 2))) c.bytes-name.ensures in
    entry-put c.args.b.now _ _ c.args.at (last_name c.args.before.now) e (suc (following e.name c.args.more.now)) _ (omega (arith, c.requires.room)) g (c.put_head.ensures ∙ ap (λ m. put c.args.b.now c.args.at (head_bytes e m)) n) p c.put_version-2.ensures

pub returns-clause-end : goal.returns-clause-end
returns-clause-end c =
    let g = sym c.goes_on.ensures ∙ c.if-goes_on.false in
    rw c.bytes-name.ensures (omega (arith, entry-long _ c.args.e.now (suc (following c.args.e.now.name c.args.more.now)) g))
