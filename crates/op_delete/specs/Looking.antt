-- The own blocks of a directory, which the command has looked at before it goes.
use Rattle.std.specs.Prelude.{◌≡◌, true, List, length, if◌then◌else◌}
use Rattle.base_words.specs.Fields.{Block}
use Rattle.plain_cat.specs.declared.reply.Refusal.TheVariants as refusal
use Rattle.plain_rules.specs.Directories.{is_nil}
use Rattle.op_law.specs.declared.need.Need.{Need}
use Rattle.op_law.specs.Events.{Events, Space as Given}
use Rattle.op_law.specs.Rows.{refuses, entries_seen}
use Rattle.op_law.specs.Behind.{goes_on_by}
use Rattle.fx_header.specs.Pointers.{lbns_in}
use Rattle.op_steps.specs.Seeing.{file_runs}
use Rattle.op_steps.specs.declared.seeing.FileSeen.{FileSeen}
use Rattle.op_delete.specs.declared.looking.Empty.{Empty}
use Rattle.op_delete.specs.declared.looking.Empty.TheVariants as empty

-- all runs of a directory were seen
abbrev pub IsWholeDir : FileSeen → Type 0
IsWholeDir f = f.fields.dir ≡ true → length (lbns_in (file_runs f)) ≡ f.fields.blocks

-- behind these blocks of a directory, which show no entry
abbrev pub without_entries : List Block → Events → Events
without_entries bs next = if is_nil (entries_seen bs) then next else refuses refusal.DirNotEmpty

-- behind a file that is no directory with entries
abbrev pub behind_empty : Events → Given → Empty → Need
behind_empty next given (empty.Shown rest) = goes_on_by next rest given
behind_empty next given (empty.Next need) = need
