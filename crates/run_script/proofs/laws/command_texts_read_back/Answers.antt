use Rattle.run_script.proofs.ReadBack.{reads_back_text}
use Rattle.run_script.proofs.laws.command_texts_read_back.Goals as goal

pub returns : goal.returns
returns c = reads_back_text
