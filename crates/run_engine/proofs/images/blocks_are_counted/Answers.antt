use Rattle.run_engine.proofs.images.blocks_are_counted.Goals as goal

pub returns : goal.returns
returns g c = g.met.I.ImageDev.counted c.args.image.now
