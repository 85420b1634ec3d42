use Rattle.std.proofs.Common.{◌∙◌, sym}
use Rattle.op_law.specs.Rows.{entries_seen}
use Rattle.op_law.specs.Behind.{blocks_alone}
use Rattle.vol_spell.proofs.RemovalLists.{found_there}
use Rattle.op_rename.proofs.Behind.{found_number}
use Rattle.op_rename.proofs.renaming.rename_in.Goals as goal

pub renamed-requires-clause-number : goal.renamed-requires-clause-number
renamed-requires-clause-number c =
    let name = c.args.name.now in
    let found = sym c.in_ok-e.ensures ∙ c.in-Some.is in
    found_number (blocks_alone c.args.d.now.blocks.now) name c.args.ver c.in-Some.e c.in_ok-is_whole.ensures found

pub renamed-requires-clause-there : goal.renamed-requires-clause-there
renamed-requires-clause-there c =
    let name = c.args.name.now in
    let found = sym c.in_ok-e.ensures ∙ c.in-Some.is in
    found_there name c.args.ver (entries_seen (blocks_alone c.args.d.now.blocks.now)) c.in-Some.e found
