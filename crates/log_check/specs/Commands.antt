-- The command that words give: as in a script, with its identifiers.
use Rattle.std.specs.Prelude.{◌≡◌, ◌&&◌, ℕ, true, List, Option, Some, None, if◌then◌else◌}
use Rattle.plain_cat.specs.declared.ids.Fid.{Fid}
use Rattle.plain_cat.specs.declared.command.Cmd.{Cmd}
use Rattle.plain_cat.specs.declared.command.Cmd.TheVariants as cmd
use Rattle.plain_cat.specs.declared.script.FileRef.{FileRef}
use Rattle.plain_cat.specs.declared.script.FileRef.TheVariants.{Fixed, Reg}
use Rattle.plain_cat.specs.declared.script.LineCmd.{LineCmd}
use Rattle.plain_cat.specs.declared.script.LineCmd.TheVariants as line
use Rattle.plain_cat.specs.declared.script.Line.{Line}
use Rattle.plain_cat.specs.InForm.{is_eighth, in_form}
use Rattle.run_script.specs.Steps.{with1}
use Rattle.run_script.specs.Fixed.{node_text, has_sequence}
use Rattle.log_check.specs.declared.commands.Given.{Given}

-- the identifier that a reference is; a register is none
abbrev pub fixed_ref : FileRef → Option Fid
fixed_ref (Fixed fid) = Some fid
fixed_ref (Reg reg) = None

-- the command of a line that names no register
abbrev pub unfixed : LineCmd → Option Cmd
unfixed (line.Lookup reg dir name ver) = with1 (fixed_ref dir) (λ d. cmd.Lookup reg d name ver)
unfixed (line.List dir) = with1 (fixed_ref dir) cmd.List
unfixed (line.Stat file) = with1 (fixed_ref file) cmd.Stat
unfixed (line.Create reg dir name ver blocks owner) = with1 (fixed_ref dir) (λ d. cmd.Create reg d name ver blocks owner)
unfixed (line.MkDir reg dir name owner) = with1 (fixed_ref dir) (λ d. cmd.MkDir reg d name owner)
unfixed (line.Extend file blocks) = with1 (fixed_ref file) (λ f. cmd.Extend f blocks)
unfixed (line.Trunc file blocks) = with1 (fixed_ref file) (λ f. cmd.Trunc f blocks)
unfixed (line.Delete dir name ver) = with1 (fixed_ref dir) (λ d. cmd.Delete d name ver)
unfixed (line.Rename dir name ver to to_ver) = with1 (fixed_ref dir) (λ d. cmd.Rename d name ver to to_ver)
unfixed (line.OpenFile chan file mode) = with1 (fixed_ref file) (λ f. cmd.OpenFile chan f mode)
unfixed (line.CloseFile chan) = Some (cmd.CloseFile chan)
unfixed (line.ReadBlock chan vbn) = Some (cmd.ReadBlock chan vbn)
unfixed (line.WriteBlock chan vbn text) = Some (cmd.WriteBlock chan vbn text)
unfixed (line.QuotaSet owner quota over) = Some (cmd.QuotaSet owner quota over)
unfixed (line.QuotaShow owner) = Some (cmd.QuotaShow owner)

-- a node gives a command in form
pub record IsSpeaking (node : ℕ) (c : Cmd) : Type 0 where
  pub node_is : is_eighth node ≡ true
  pub form : in_form c ≡ true
  pub sequence : has_sequence c ≡ true

abbrev pub given : ℕ → Cmd → Given
given node c = record { node = node; cmd = c }

-- a node with a command, where it gives one in form
abbrev pub given_by : ℕ → Option Cmd → Option Given
given_by node None = None
given_by node (Some c) = if in_form c && (has_sequence c && is_eighth node) then Some (given node c) else None

unfoldable pub given_of : Line → Option Given
given_of l = given_by l.node (unfixed l.cmd)

-- the words of a node and its command are read as these
abbrev pub ReadsCommand : List ℕ → Option Given → Type 0
ReadsCommand words read = (node : ℕ) (c : Cmd) → IsSpeaking node c → words ≡ node_text node c → read ≡ Some (given node c)
