use Rattle.std.proofs.Common.{◌≡◌, refl, rules, true}
use Rattle.std.specs.Prelude.{nat_lt}
use Rattle.plain_rules.specs.Lookups.{in_use}
use Rattle.vol_spell.proofs.Accepted.{catalogue_is_spelt}
use Rattle.plain_rules.specs.Opens.{is_plain_file}
use Rattle.rows_ops.proofs.OnChannel.{begins}
use Rattle.rows_ops.proofs.on_channel.begin.Goals as goal

pub returns : goal.returns
returns g c =
    let x = g.O.Operation.cmd_is c.args.op.now in
    let bs = c.args.blocks.now in
    let cat = c.in-Some.cat in
    let told = rw c.in-Some.is at c.in_ok-cat.ensures in
    let above : nat_lt 11 c.args.channel.file.num ≡ true = search rules in
    let plain : is_plain_file (in_use cat c.args.channel.file) ≡ true = search rules in
    let fits = begins x c.requires.of cat c.args.channel c.requires.mode above plain _ bs c.requires.lawful (catalogue_is_spelt bs cat c.requires.size.from c.requires.size.to c.blocks_are_whole.ensures told) (c.is_accounted.ensures.0 (search rules))
    c.geometry.ensures.told refl c.new.ensures c.new-2.ensures (record { clusters = c.new-3.ensures; number = refl; short = refl }) in
    record { fits = fits; short = refl }
