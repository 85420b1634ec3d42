use Rattle.plain_mends.proofs.SoundAnswers.{answer_sound}
use Rattle.plain_mends.proofs.SoundStages.{stage_sound}
use Rattle.plain_mends.proofs.SoundMends.{dead_sound, mended_sound, lead_sound, replay_sound}
use Rattle.plain_mends.proofs.sounding.sound_stays.Goals as goal

pub returns : goal.returns
returns _ = record { answers = answer_sound; stages = stage_sound; deaths = dead_sound; mendings = mended_sound; entries = lead_sound; replays = replay_sound }
