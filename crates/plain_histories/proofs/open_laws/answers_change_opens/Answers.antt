use Rattle.plain_histories.proofs.Moving.{answer_moved}
use Rattle.plain_histories.proofs.Having.{opened_by_answer}
use Rattle.plain_histories.proofs.Keeping.{opened_has, closed_has, others_stay, others_keep}
use Rattle.plain_histories.proofs.open_laws.answers_change_opens.Goals as goal

pub returns : goal.returns
returns _ = record {
  exactly = λ c d n x r a. (answer_moved c d n x r a).opens;
  opened = λ c d n chan file mode own count a. opened_has c d n chan file mode own count (opened_by_answer c d n chan file mode a);
  closed = closed_has;
  others = others_stay;
  still = others_keep;
}
