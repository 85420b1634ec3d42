use Rattle.std.proofs.Common.{refl}
use Rattle.base_words.specs.Packing as packing
use Rattle.plain_rules.specs.Stages.{staged, command_stage, create_stage, rename_stage}
use Rattle.plain_rules.specs.Answers.{outcome, create_outcome, create_refusal, rename_outcome, rename_refusal, open_outcome}
use Rattle.plain_rules.specs.Directories.{before, is_entry, fits}
use Rattle.plain_rules.specs.Replaying.{dead, closed_channels}
use Rattle.rows_sample.specs.Fresh.{fresh, system_files, main_entries}
use Rattle.rows_sample.proofs.death_laws.a_death_closes_and_leaks.Goals as goal

pub returns : goal.returns
unfolding staged command_stage create_stage rename_stage outcome create_outcome create_refusal rename_outcome rename_refusal open_outcome before is_entry fits packing.cost dead closed_channels fresh system_files main_entries
returns c = (refl, refl)
