use Rattle.std.proofs.Common.{◌∙◌, ap}
use Rattle.std.specs.Prelude.{option_map}
use Rattle.op_law.specs.Behind.{blocks_alone}
use Rattle.fx_dir.specs.Directory.{all_entries}
use Rattle.fx_dir.specs.Wanted.{wanted_in, version_of}
use Rattle.op_law.proofs.Wanted.{entry-first}
use Rattle.op_law.proofs.events.version_seen.Goals as goal

pub returns : goal.returns
returns c =
    let seen = c.args.seen.now in
    c.first_found.ensures ∙ ap (λ n. option_map version_of (wanted_in n c.args.ver (all_entries (blocks_alone seen)))) c.items.ensures
    ∙ entry-first c.args.name.now c.args.ver seen c.requires
