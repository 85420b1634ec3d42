-- What a call of the program answers, and how it ends.
use Rattle.std.specs.Prelude.{◌≡◌, ℕ, List, Option}
use Rattle.base_words.specs.Fields.{Block}
use Rattle.base_words.specs.Faults.{Rose}
use Rattle.run_engine.specs.Calls.{Given}
use Rattle.run_engine.specs.Inputs.{OfScript, OfImage}
use Rattle.run_engine.specs.declared.status.Status.{Status}
use Rattle.run_engine.specs.declared.status.Status.TheVariants as ended
use Rattle.run_engine.specs.Statuses.{status_code}
use Rattle.run_engine.specs.Texts.{Writes}
use Rattle.clus_top.specs.Words.{Wanted, wanted_by}
use Rattle.clus_top.specs.Images.{IsImageAfter, IsFaultTextOf}
use Rattle.clus_top.specs.Statuses.{IsDue, IsTextOf}
use Rattle.clus_top.specs.Verdicts.{IsAlone, AnswersGood}

-- What a job answers of the bytes of a script and of an image of so many blocks: `old` has the blocks of the image before it, and `new`
-- those behind it; `was` and `now` are what the sink was given, if it tells that; and then come the counts of the failed calls of the
-- source and the image, of the image's lost writes, and of the failed calls of the sink, each before and behind it.
pub record IsAnswer (wanted : Option Wanted) (bytes : List ℕ) (size : ℕ) (old new : List Block) (was now : Option (List ℕ)) (read reading had has lost losing before after : ℕ) (s : Status) : Type 0 where
  -- What the status says of the words, the script, the image's size and its blocks.
  pub due : IsDue wanted bytes size old s
  -- A fault comes only if the count of that very object rose.
  pub script_fault : s ≡ ended.ScriptFault → Rose read reading
  pub image_fault : s ≡ ended.ImageFault → Rose had has
  pub out_fault : s ≡ ended.OutFault → Rose before after
  -- With status 0 the job's text was written, with a fault of the sink first bytes of it, with findings these, and else the text of the
  -- status; in front of that of a write that failed in a run or a soak the lines of the answers before it, and so in front of that of a
  -- run whose volume cannot be mended.
  pub written : Writes (IsTextOf wanted bytes size old new) (IsFaultTextOf wanted bytes lost losing old new) old was now before after s
  -- A run or a soak that has come to its end leaves the drive of its nodes, which spells the catalogue of the report. One that has not
  -- leaves the drive as far as it came; where a write failed its block is the old one or the new one. A mending leaves an accepted
  -- volume, which tells the mended catalogue; after a fault or want of memory the blocks mend to the same as the old ones, and where
  -- these have a fatal finding they are the old ones. A run that is mended then leaves what a mending leaves of the drive of its nodes.
  -- A repair leaves an accepted volume too, which tells the catalogue to which the patched one is mended; where a lost file has no room
  -- the blocks spell the patched one; after a fault or want of memory they keep every sound file, with the same two exceptions as after status 0: one that is marked for
  -- delete, and an empty lost one without room.
  -- A store leaves what its writes make of the old blocks, an accepted volume with the lines in the file; after a fault of the image there
  -- are the old blocks, or what the first of these writes make of them, which tells the old catalogue or that with the lines in the file.
  -- A format leaves a new volume; after a fault or want of memory there are the old blocks, or no home block that is read, or the new
  -- volume. Nothing else changes the image's blocks.
  pub left : IsImageAfter wanted bytes had has old new s

-- What the top call answers.
pub record IsCall (wanted : Option Wanted) (bytes : List ℕ) (size : ℕ) (old new : List Block) (was now : Option (List ℕ)) (read reading had has lost losing before after : ℕ) (s : Status) : Type 0 where
  pub answer : IsAnswer wanted bytes size old new was now read reading had has lost losing before after s
  -- If the status is no fault and no want of memory, no other such one is due.
  pub alone : IsAlone wanted bytes size old s
  -- A good script on an accepted volume is answered: with status 0, unless a call of an object fails or memory runs out, or the volume of
  -- a run that is mended then cannot be mended.
  pub answered : AnswersGood wanted bytes size old s

-- A call of the program ends with a status, and the number is that of the status. The rest is what the top call answers.
pub record IsEnd (g : Given) (written : Option (List ℕ)) (image : Option (List Block)) (script_faults image_faults image_lost out_faults number : ℕ) : Type 0 where
  pub status : Status
  pub number_is : number ≡ status_code status
  pub call : OfScript g.left (λ bytes. OfImage g.size g.told image (λ old new.
      IsCall (wanted_by g.words) bytes g.size old new g.written written g.script_faults script_faults g.image_faults image_faults g.image_lost image_lost g.out_faults out_faults status))
