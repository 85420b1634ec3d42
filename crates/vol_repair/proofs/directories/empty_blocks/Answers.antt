use Rattle.std.proofs.Common.{◌≡◌, List, [], Option, None}
use Rattle.base_words.specs.Fields.{Block}
use Rattle.fx_dir.specs.Writing.{packed}
use Rattle.vol_init.proofs.EntryLemmas.{none-over, given-packed}
use Rattle.vol_repair.proofs.directories.empty_blocks.Goals as goal

pub unreachable-requires : goal.unreachable-requires
unreachable-requires c =
    let none : Option (List Block) = None in
    let given : none ≡ packed c.args.cluster [] = rw c.in-None.is at c.in_ok-blocks.ensures.packing in
    let e = given-packed none c.args.cluster [] (none-over c.args.cluster) given in
    absurd (cc)
