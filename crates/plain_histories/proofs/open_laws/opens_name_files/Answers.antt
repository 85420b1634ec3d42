use Rattle.plain_histories.proofs.Naming.{closed_names, all_held, form_has, answer_names, stage_names, dead_names, mended_names}
use Rattle.plain_histories.proofs.Replaying.{lead_names, replay_names}
use Rattle.plain_histories.proofs.open_laws.opens_name_files.Goals as goal

pub returns : goal.returns
returns _ = record {
  closed = closed_names;
  held = all_held;
  form = form_has;
  answers = answer_names;
  stages = stage_names;
  deaths = dead_names;
  mendings = mended_names;
  entries = lead_names;
  replays = replay_names;
}
