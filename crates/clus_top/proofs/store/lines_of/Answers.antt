use Rattle.std.proofs.Common.{◌∙◌, Err, ap}
use Rattle.run_engine.proofs.Given.{any_script, too_long}
use Rattle.clus_top.proofs.store.lines_of.Goals as goal

pub returns-in-Err-ReadFault-clause-end : goal.returns-in-Err-ReadFault-clause-end
returns-in-Err-ReadFault-clause-end g c = any_script _ _ (λ bytes. c.read_all.ensures.fault (c.in-Err-ReadFault.is ∙ ap Err c.in-Err-ReadFault.field-0-is))

pub returns-in-Err-TooLong-clause-end : goal.returns-in-Err-TooLong-clause-end
returns-in-Err-TooLong-clause-end g c = too_long _ (c.read_all.ensures.too_long (c.in-Err-TooLong.is ∙ ap Err c.in-Err-TooLong.field-0-is))

pub returns-in-Err-NoMemory-clause-end : goal.returns-in-Err-NoMemory-clause-end
returns-in-Err-NoMemory-clause-end g c = any_script _ _ (λ bytes. tt)
