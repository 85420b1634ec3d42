-- What the laws of statuses say of one call.
use Rattle.std.proofs.Common.{ℕ, List, Option, Some, None}
use Rattle.base_words.specs.Fields.{Block}
use Rattle.run_engine.specs.declared.status.Status.{Status}
use Rattle.live_run.specs.declared.words.Job.{Job}
use Rattle.live_run.specs.Calls.{IsAnswer, IsCall}
use Rattle.live_run.specs.Laws.{NoOtherLiveIsDue, GoodLiveRunsAreAnswered, AnswersGood}
use Rattle.live_run.specs.Statuses.{IsDue}

answered_by : (what : Option Job) (bytes : List ℕ) (size : ℕ) (old new : List Block) (s : Status) → IsDue what bytes size old new s → GoodLiveRunsAreAnswered → AnswersGood what bytes size old s
answered_by None bytes size old new s due law = tt
answered_by (Some what) bytes size old new s due law = λ good inside none v. law what bytes size old new s good inside none v due

module _ (what : Option Job) (size : ℕ) (was now : Option (List ℕ)) (read reading had has lost losing before after : ℕ) (s : Status) where
  pub called : NoOtherLiveIsDue → GoodLiveRunsAreAnswered → (bytes : List ℕ) (old new : List Block) → IsAnswer what bytes size old new was now read reading had has lost losing before after s
      → IsCall what bytes size old new was now read reading had has lost losing before after s
  called alone good bytes old new a = record {
    answer = a;
    alone = alone what bytes size old new s a.due;
    answered = answered_by what bytes size old new s a.due good;
  }
