-- A command with its identifiers, as the command of a line.
use Rattle.std.specs.Prelude.{◌++◌, ℕ, Bool, true, List, leb, decimal}
use Rattle.plain_cat.specs.declared.command.Cmd.{Cmd}
use Rattle.plain_cat.specs.declared.command.Cmd.TheVariants as cmd
use Rattle.plain_cat.specs.declared.script.FileRef.TheVariants.{Fixed}
use Rattle.plain_cat.specs.declared.script.LineCmd.{LineCmd}
use Rattle.plain_cat.specs.declared.script.LineCmd.TheVariants as line
use Rattle.plain_texts.specs.Commands.{then_word, command_text}

-- its identifiers stand for themselves
abbrev pub fixed_line : Cmd → LineCmd
fixed_line (cmd.Lookup reg dir name ver) = line.Lookup reg (Fixed dir) name ver
fixed_line (cmd.List dir) = line.List (Fixed dir)
fixed_line (cmd.Stat file) = line.Stat (Fixed file)
fixed_line (cmd.Create reg dir name ver blocks owner) = line.Create reg (Fixed dir) name ver blocks owner
fixed_line (cmd.MkDir reg dir name owner) = line.MkDir reg (Fixed dir) name owner
fixed_line (cmd.Extend file blocks) = line.Extend (Fixed file) blocks
fixed_line (cmd.Trunc file blocks) = line.Trunc (Fixed file) blocks
fixed_line (cmd.Delete dir name ver) = line.Delete (Fixed dir) name ver
fixed_line (cmd.Rename dir name ver to to_ver) = line.Rename (Fixed dir) name ver to to_ver
fixed_line (cmd.OpenFile chan file mode) = line.OpenFile chan (Fixed file) mode
fixed_line (cmd.CloseFile chan) = line.CloseFile chan
fixed_line (cmd.ReadBlock chan vbn) = line.ReadBlock chan vbn
fixed_line (cmd.WriteBlock chan vbn text) = line.WriteBlock chan vbn text
fixed_line (cmd.QuotaSet owner quota over) = line.QuotaSet owner quota over
fixed_line (cmd.QuotaShow owner) = line.QuotaShow owner

-- the text of a command, behind its node
abbrev pub node_text : ℕ → Cmd → List ℕ
node_text node c = decimal node ++ then_word (command_text c)

-- the sequence of its identifier has 16 bits, as each that a program holds
abbrev pub has_sequence : Cmd → Bool
has_sequence (cmd.Lookup reg dir name ver) = leb dir.seq 65535
has_sequence (cmd.List dir) = leb dir.seq 65535
has_sequence (cmd.Stat file) = leb file.seq 65535
has_sequence (cmd.Create reg dir name ver blocks owner) = leb dir.seq 65535
has_sequence (cmd.MkDir reg dir name owner) = leb dir.seq 65535
has_sequence (cmd.Extend file blocks) = leb file.seq 65535
has_sequence (cmd.Trunc file blocks) = leb file.seq 65535
has_sequence (cmd.Delete dir name ver) = leb dir.seq 65535
has_sequence (cmd.Rename dir name ver to to_ver) = leb dir.seq 65535
has_sequence (cmd.OpenFile chan file mode) = leb file.seq 65535
has_sequence (cmd.CloseFile chan) = true
has_sequence (cmd.ReadBlock chan vbn) = true
has_sequence (cmd.WriteBlock chan vbn text) = true
has_sequence (cmd.QuotaSet owner quota over) = true
has_sequence (cmd.QuotaShow owner) = true
