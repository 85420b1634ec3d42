use Rattle.std.proofs.Common.{◌≡◌, ◌∙◌, Ok, sym, ap}
use Rattle.fx_dir.specs.Directory.{directory}
use Rattle.op_law.specs.Behind.{blocks_alone}
use Rattle.op_steps.proofs.Entered.{new_there}
use Rattle.op_steps.proofs.moves.insertion_moves.Goals as goal

pub insert_into-requires-clause-new : goal.insert_into-requires-clause-new
insert_into-requires-clause-new c =
    let read : directory (blocks_alone c.args.d.now.blocks.now) ≡ Ok c.as_slice.result.now = ap directory (sym (c.items.ensures ∙ c.in_ok-blocks.ensures)) ∙ c.in_ok-es.ensures.entries ∙ ap Ok (sym c.as_slice.ensures.value) in
    new_there (blocks_alone c.args.d.now.blocks.now) c.args.e.now _ c.as_slice.result.now c.raw_entry.ensures c.requires.new read
