use Rattle.std.proofs.Common.{◌≡◌, ◌∙◌, Some, ap}
use Rattle.std.proofs.lemmas.Option.{same_Some}
use Rattle.fx_dir.specs.Directory.{all_entries}
use Rattle.fx_dir.specs.Writing.{packed}
use Rattle.vol_init.proofs.EntryLemmas.{given-packed, packed-listed}
use Rattle.vol_init.proofs.naming.directory_blocks.Goals as goal

pub returns-clause-written : goal.returns-clause-written
returns-clause-written c = rw c.in-Some.is at c.in_ok-blocks.ensures.packing

pub returns-clause-listed : goal.returns-clause-listed
returns-clause-listed c =
    let es = c.args.entries.now in
    let k = c.args.cluster in
    let given : Some c.in-Some.blocks.items ≡ packed k es = rw c.in-Some.is at c.in_ok-blocks.ensures.packing in
    let same = same_Some _ _ (given-packed (Some c.in-Some.blocks.items) k es c.requires.room given) in
    ap all_entries same ∙ packed-listed k es c.requires.room c.requires.order (record { form = c.requires.form; ranged = c.requires.ranged }) c.requires.uniform
