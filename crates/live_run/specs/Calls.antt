-- What a live call answers, if it returns, and how a call of the program ends, if it does.
use Rattle.std.specs.Prelude.{◌≡◌, ℕ, List, Option}
use Rattle.base_words.specs.Fields.{Block}
use Rattle.base_words.specs.Faults.{Rose}
use Rattle.run_engine.specs.Calls.{Given}
use Rattle.run_engine.specs.Inputs.{OfScript, OfImage}
use Rattle.run_engine.specs.declared.status.Status.{Status}
use Rattle.run_engine.specs.declared.status.Status.TheVariants as ended
use Rattle.run_engine.specs.Statuses.{status_code}
use Rattle.run_engine.specs.Texts.{Writes}
use Rattle.live_run.specs.declared.words.Job.{Job}
use Rattle.live_run.specs.Words.{job_of}
use Rattle.live_run.specs.Laws.{IsAlone, AnswersGood}
use Rattle.live_run.specs.Statuses.{IsDue, IsTextOf, IsFaultTextOf, IsImageAfter}

-- What a call answers of the bytes of a script and of an image of so many blocks: `old` has the blocks of the image before it, and `new`
-- those behind it; `was` and `now` are what the sink was given, if it tells that; and then come the counts of the failed calls of the
-- source and the image, of the image's lost writes, and of the failed calls of the sink, each before and behind it.
pub record IsAnswer (what : Option Job) (bytes : List ℕ) (size : ℕ) (old new : List Block) (was now : Option (List ℕ)) (read reading had has lost losing before after : ℕ) (s : Status) : Type 0 where
  -- What the status says of the words, the script, the image's size and its blocks.
  pub due : IsDue what bytes size old new s
  -- A fault comes only if the count of that very object rose.
  pub script_fault : s ≡ ended.ScriptFault → Rose read reading
  pub image_fault : s ≡ ended.ImageFault → Rose had has
  pub out_fault : s ≡ ended.OutFault → Rose before after
  -- With status 0 the report was written, with a fault of the sink first bytes of it, and else the text of the status; in front of that of
  -- a write that failed the lines of the answers so far, and so in front of that of a drive that cannot be mended.
  pub written : Writes (IsTextOf what bytes old new) (IsFaultTextOf what bytes lost losing old new) old was now before after s
  -- Which blocks the image has.
  pub left : IsImageAfter what bytes old new s

-- What the live top call answers.
pub record IsCall (what : Option Job) (bytes : List ℕ) (size : ℕ) (old new : List Block) (was now : Option (List ℕ)) (read reading had has lost losing before after : ℕ) (s : Status) : Type 0 where
  pub answer : IsAnswer what bytes size old new was now read reading had has lost losing before after s
  -- If the status is no fault, no want of memory and, of a call that mends then, not `NotMendable`, no other such one is due.
  pub alone : IsAlone what bytes size old new s
  -- A good script on an accepted volume is answered: with status 0, unless a call of an object fails or memory runs out, or the volume, if
  -- it is mended then, cannot be mended.
  pub answered : AnswersGood what bytes size old s

-- A call of the program ends with a status, and the number is that of the status. The rest is what the live top call answers.
pub record IsEnd (g : Given) (written : Option (List ℕ)) (image : Option (List Block)) (script_faults image_faults image_lost out_faults number : ℕ) : Type 0 where
  pub status : Status
  pub number_is : number ≡ status_code status
  pub call : OfScript g.left (λ bytes. OfImage g.size g.told image (λ old new.
      IsCall (job_of g.words) bytes g.size old new g.written written g.script_faults script_faults g.image_faults image_faults g.image_lost image_lost g.out_faults out_faults status))
