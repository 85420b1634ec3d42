use Rattle.std.proofs.Common.{arith}
use Rattle.fx_dir.proofs.Placing.{version-put}
use Rattle.fx_dir.proofs.writing.put_version.Goals as goal

pub returns : goal.returns
returns c = version-put c.args.b.now _ _ _ _ c.args.at c.args.e.now (let l = c.told-b in omega arith) c.put_word.ensures c.put_word-2.ensures c.put_word-3.ensures c.put_bytes.ensures
