use Rattle.std.proofs.Common.{◌≡◌, ◌∙◌, Ok, sym, ap}
use Rattle.fx_dir.specs.Entries.{has}
use Rattle.fx_dir.specs.Directory.{directory}
use Rattle.fx_dir.specs.Moves.{key}
use Rattle.plain_rules.specs.Lookups.{versions}
use Rattle.plain_rules.specs.Directories.{is_taken}
use Rattle.vol_parts.specs.Catalogues.{plain_entries}
use Rattle.vol_spell.proofs.RemovalLists.{is_there}
use Rattle.op_law.specs.Behind.{blocks_alone}
use Rattle.op_steps.proofs.Entered.{new_there}
use Rattle.op_rename.proofs.moving.rename_writes.Goals as goal

pub rename_into-requires-clause-new : goal.rename_into-requires-clause-new
rename_into-requires-clause-new c =
    let bs = blocks_alone c.args.d.now.blocks.now in
    let read : directory bs ≡ Ok c.as_slice.result.now = ap directory (sym (c.items.ensures ∙ c.in_ok-blocks.ensures)) ∙ c.in_ok-es.ensures.entries ∙ ap Ok (sym c.as_slice.ensures.value) in
    new_there bs c.args.new.now _ c.as_slice.result.now c.raw_entry.ensures c.requires.new read

pub rename_into-requires-clause-there : goal.rename_into-requires-clause-there
rename_into-requires-clause-there c =
    let bs = blocks_alone c.args.d.now.blocks.now in
    let e = c.args.e.now in
    let read : directory bs ≡ Ok c.as_slice.result.now = ap directory (sym (c.items.ensures ∙ c.in_ok-blocks.ensures)) ∙ c.in_ok-es.ensures.entries ∙ ap Ok (sym c.as_slice.ensures.value) in
    ap (λ n. has c.as_slice.result.now (key n e.ver)) c.items-3.ensures
    ∙ is_there e.name e.ver c.as_slice.result.now (ap (λ r. is_taken e.ver (versions e.name (plain_entries r))) (sym read) ∙ c.requires.there)
