-- What a command was given fits a volume.
use Rattle.std.proofs.Common.{◌≡◌, ◌<◌, ◌-◌, ◌&&◌, ℕ, true, List, Option, Some, None, length, inl, refl, arith}
use Rattle.std.proofs.lemmas.Bool.{and_parts}
use Rattle.std.proofs.lemmas.Bool.Decides.{nat_tests}
use Rattle.std.proofs.lemmas.Option.{slice_get_within}
use Rattle.plain_cat.specs.declared.command.Cmd.{Cmd}
use Rattle.vol_spell.specs.declared.owner.Owner.TheVariants.{Outside}
use Rattle.vol_spell.specs.Owners.{Owners, Things, Outs}
use Rattle.vol_parts.specs.declared.geometry.Geometry.{Geometry}
use Rattle.vol_spell.specs.Reading.{total_of}
use Rattle.op_law.specs.declared.seen.Seen.{Seen}
use Rattle.op_law.specs.Knows.{channel_of, has_channel, is_new_number, wanted, is_short, usages_fit, opens_hold}
use Rattle.op_law.specs.Fits.{things, FitsSeen}
use Rattle.op_steps.specs.Given.{IsOfVolume}

-- what is outside at a node is the volume's
outs_within : (g : Geometry) (node : ℕ) (own : Owners) (clusters : List ℕ) (number : Option ℕ) (stock : Things) → length own.clusters ≡ total_of g → length own.numbers ≡ g.files
    → Outs node own (things clusters number) stock → is_new_number number ≡ true → IsOfVolume g clusters number
outs_within g node own clusters None stock total files outs new = record {
  there = λ q has. let lt = slice_get_within own.clusters q (Outside node) ((outs.clusters.all q).1 (inl has)) in omega arith;
  slot = tt;
}
outs_within g node own clusters (Some n) stock total files outs new =
    let lt = slice_get_within own.numbers (n - 1) (Outside node) ((outs.numbers.all (n - 1)).1 (inl (inl refl))) in
    let above : 11 < n = grind (arith, nat_tests) in
    record {
      there = λ q has. let lt = slice_get_within own.clusters q (Outside node) ((outs.clusters.all q).1 (inl has)) in omega arith;
      slot = record { from = omega arith; to = omega arith };
    }

pub fits_volume : (x : Cmd) (seen : Seen) → FitsSeen x seen → IsOfVolume seen.geometry seen.clusters seen.number
fits_volume x seen f =
    let c = f.cat in
    let more = (and_parts (has_channel c f.node (channel_of x) seen.channel) (is_new_number seen.number && (is_short c (wanted seen x) seen.short && (usages_fit c x && opens_hold c x))) f.on.known).1 in
    let new = (and_parts (is_new_number seen.number) (is_short c (wanted seen x) seen.short && (usages_fit c x && opens_hold c x)) more).0 in
    outs_within seen.geometry f.node f.own seen.clusters seen.number f.on.stock f.on.spelt.counts.clusters f.on.spelt.counts.numbers f.on.outs new
