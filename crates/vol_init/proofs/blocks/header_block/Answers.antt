use Rattle.vol_init.proofs.HeaderLemmas.{header-reads}
use Rattle.vol_init.proofs.blocks.header_block.Goals as goal

pub returns-clause-reads : goal.returns-clause-reads
returns-clause-reads c =
    (header-reads c.args.layout.now c.args.n c.bare_header-b.result c.put_runs.new.b c.requires.layout c.requires.room c.bare_header-b.ensures.area c.bare_header-b.ensures.reads c.put_runs.ensures).0

pub returns-clause-runs : goal.returns-clause-runs
returns-clause-runs c =
    (header-reads c.args.layout.now c.args.n c.bare_header-b.result c.put_runs.new.b c.requires.layout c.requires.room c.bare_header-b.ensures.area c.bare_header-b.ensures.reads c.put_runs.ensures).1
