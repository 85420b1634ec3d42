-- What the laws of statuses say of one call.
use Rattle.std.proofs.Common.{ℕ, List, Option}
use Rattle.base_words.specs.Fields.{Block}
use Rattle.run_engine.specs.declared.status.Status.{Status}
use Rattle.clus_top.specs.Words.{Wanted}
use Rattle.clus_top.specs.Calls.{IsAnswer, IsCall}
use Rattle.clus_top.specs.Verdicts.{NoOtherIsDue, GoodRunsAreAnswered}

module _ (wanted : Option Wanted) (size : ℕ) (was now : Option (List ℕ)) (read reading had has lost losing before after : ℕ) (s : Status) where
  pub called : NoOtherIsDue → GoodRunsAreAnswered → (bytes : List ℕ) (old new : List Block) → IsAnswer wanted bytes size old new was now read reading had has lost losing before after s
      → IsCall wanted bytes size old new was now read reading had has lost losing before after s
  called alone good bytes old new a = record {
    answer = a;
    alone = alone wanted bytes size old s a.due;
    answered = λ given inside none v. good wanted bytes size old s given inside none v a.due;
  }
