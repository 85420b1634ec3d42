use Rattle.std.proofs.Common.{arith, refl}
use Rattle.fx_dir.proofs.Placing.{head-put}
use Rattle.fx_dir.proofs.writing.put_head.Goals as goal

pub returns : goal.returns
returns c = head-put c.args.b.now _ _ _ _ _ c.args.at c.args.count _ _ c.args.e.now (let l = c.told-b in omega arith) c.bytes-name.ensures refl c.put_word.ensures c.put_word-2.ensures c.put_bytes.ensures c.put_bytes-2.ensures c.put_bytes-3.ensures
