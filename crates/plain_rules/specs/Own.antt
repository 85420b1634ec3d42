-- Each node's commands, in the order of its lines.
use Rattle.std.specs.Prelude.{◌≡◌, ◌==◌, ◌-◌, ◌+◌, ℕ, Bool, true, false, List, [], ◌∷◌, ◌++◌, Option, Some, None, slice_get, slice_set, if◌then◌else◌, replicate, unwrap_or}
use Rattle.plain_cat.specs.declared.ids.Fid.{Fid}
use Rattle.plain_cat.specs.declared.command.Cmd.{Cmd}
use Rattle.plain_cat.specs.declared.command.Cmd.TheVariants as cmd
use Rattle.plain_cat.specs.declared.reply.Reply.{Reply}
use Rattle.plain_cat.specs.declared.reply.Reply.TheVariants as reply
use Rattle.plain_cat.specs.declared.history.Entry.{Entry}
use Rattle.plain_cat.specs.declared.history.Entry.TheVariants.{Done, Died, Mended}
use Rattle.plain_cat.specs.declared.script.LineCmd.{LineCmd}
use Rattle.plain_cat.specs.declared.script.LineCmd.TheVariants as line
use Rattle.plain_cat.specs.declared.script.FileRef.{FileRef}
use Rattle.plain_cat.specs.declared.script.FileRef.TheVariants.{Fixed, Reg}
use Rattle.plain_cat.specs.declared.script.Kill.{Kill}
use Rattle.plain_cat.specs.declared.script.Script.{Script}
pub use Rattle.plain_cat.specs.OwnLines.{lines_of}
use Rattle.std.specs.List.{list_any}
use Rattle.plain_rules.specs.Directories.{nowhere}

-- what a node has of its answers so far: registers, which channels are open, how many commands were answered, and whether
-- it is dead
pub record NodePast : Type 0 where
  pub registers : List Fid
  pub channels : List Bool
  pub answered : ℕ
  pub dead : Bool

unfoldable pub newborn : NodePast
newborn = record { registers = replicate 8 nowhere; channels = replicate 8 false; answered = 0; dead = false }

-- the register that a command sets
abbrev pub register_of : Cmd → Option ℕ
register_of (cmd.Lookup reg dir name ver) = Some reg
register_of (cmd.Create reg dir name ver blocks owner) = Some reg
register_of (cmd.MkDir reg dir name owner) = Some reg
register_of c = None

abbrev pub found_fid : Reply → Option Fid
found_fid (reply.Found fid name ver) = Some fid
found_fid r = None

abbrev pub registers_after : List Fid → Option ℕ → Option Fid → List Fid
registers_after regs (Some reg) (Some fid) = slice_set regs (reg - 1) fid
registers_after regs (Some reg) None = regs
registers_after regs None fid = regs

-- the channel that an answer opens
abbrev pub is_opened : Reply → Bool
is_opened reply.Opened = true
is_opened r = false

abbrev pub opened_by : Cmd → Option ℕ
opened_by (cmd.OpenFile chan file mode) = Some chan
opened_by c = None

-- the channel that an answer closes
abbrev pub is_closed : Reply → Bool
is_closed (reply.Closed gone) = true
is_closed r = false

abbrev pub closed_by : Cmd → Option ℕ
closed_by (cmd.CloseFile chan) = Some chan
closed_by c = None

abbrev pub switched : List Bool → Bool → Option ℕ → Bool → List Bool
switched channels true (Some chan) value = slice_set channels (chan - 1) value
switched channels true None value = channels
switched channels false chan value = channels

-- the channels after an answer
abbrev pub channels_after : List Bool → Cmd → Reply → List Bool
channels_after channels c r = switched (switched channels (is_opened r) (opened_by c) true) (is_closed r) (closed_by c) false

-- one answer more
unfoldable pub after_answer : NodePast → Cmd → Reply → NodePast
after_answer p c r = record {
  registers = registers_after p.registers (register_of c) (found_fid r);
  channels = channels_after p.channels c r;
  answered = p.answered + 1;
  dead = p.dead;
}

-- one entry of the history more
abbrev pub after_entry : ℕ → NodePast → Entry → NodePast
after_entry node p (Done n c r) = if n == node then after_answer p c r else p
after_entry node p (Died n s k l) = if n == node then record p { dead = true } else p
after_entry node p (Mended m) = p

abbrev pub past_from : ℕ → NodePast → List Entry → NodePast
past_from node p [] = p
past_from node p (e ∷ es) = past_from node (after_entry node p e) es

-- what a node has of a history
abbrev pub past : ℕ → List Entry → NodePast
past node h = past_from node newborn h

-- the identifier that a reference means
abbrev pub resolved : List Fid → FileRef → Fid
resolved regs (Fixed fid) = fid
resolved regs (Reg r) = unwrap_or (slice_get regs (r - 1)) nowhere

-- the command of a line
unfoldable pub filled : List Fid → LineCmd → Cmd
filled g (line.Lookup reg dir name ver) = cmd.Lookup reg (resolved g dir) name ver
filled g (line.List dir) = cmd.List (resolved g dir)
filled g (line.Stat file) = cmd.Stat (resolved g file)
filled g (line.Create reg dir name ver blocks owner) = cmd.Create reg (resolved g dir) name ver blocks owner
filled g (line.MkDir reg dir name owner) = cmd.MkDir reg (resolved g dir) name owner
filled g (line.Extend file blocks) = cmd.Extend (resolved g file) blocks
filled g (line.Trunc file blocks) = cmd.Trunc (resolved g file) blocks
filled g (line.Delete dir name ver) = cmd.Delete (resolved g dir) name ver
filled g (line.Rename dir name ver to to_ver) = cmd.Rename (resolved g dir) name ver to to_ver
filled g (line.OpenFile chan file mode) = cmd.OpenFile chan (resolved g file) mode
filled g (line.CloseFile chan) = cmd.CloseFile chan
filled g (line.ReadBlock chan vbn) = cmd.ReadBlock chan vbn
filled g (line.WriteBlock chan vbn text) = cmd.WriteBlock chan vbn text
filled g (line.QuotaSet owner quota over) = cmd.QuotaSet owner quota over
filled g (line.QuotaShow owner) = cmd.QuotaShow owner

-- the close of the first channel that is open
abbrev pub close_from : ℕ → List Bool → Option Cmd
close_from chan [] = None
close_from chan (b ∷ bs) = if b then Some (cmd.CloseFile chan) else close_from (chan + 1) bs

abbrev pub or_close : NodePast → Option LineCmd → Option Cmd
or_close p (Some l) = Some (filled p.registers l)
or_close p None = close_from 1 p.channels

-- the command that comes next where a node has this past: its next line, or after its last line a close
abbrev pub command_after : Script → ℕ → NodePast → Option Cmd
command_after s node p = or_close p (slice_get (lines_of node s.lines) p.answered)

-- the next command of a node, after these entries
abbrev pub next_command : Script → ℕ → List Entry → Option Cmd
next_command s node h = command_after s node (past node h)

-- an entry that its node may give after these: an answer of its next command, or its death
abbrev pub IsNext : Script → List Entry → Entry → Type 0
IsNext s h (Done node c r) = ((past node h).dead ≡ false) × (next_command s node h ≡ Some c)
IsNext s h (Died node st k l) = (past node h).dead ≡ false
IsNext s h (Mended m) = Unit {0}

abbrev pub OwnFrom : Script → List Entry → List Entry → Type 0
OwnFrom s h [] = Unit {0}
OwnFrom s h (e ∷ es) = IsNext s h e × OwnFrom s (h ++ e ∷ []) es

-- The answers of each node are of its commands in their order, and a death is its last entry.
abbrev pub Own : Script → List Entry → Type 0
Own s h = OwnFrom s [] h

-- and a node that has not died has no command left
abbrev pub Whole : Script → List Entry → Type 0
Whole s h = Own s h × ((node : ℕ) → (past node h).dead ≡ false → next_command s node h ≡ None)

-- an entry is a mending
unfoldable pub is_mending : Entry → Bool
is_mending (Done n c r) = false
is_mending (Died n st k ns) = false
is_mending (Mended m) = true

-- the script has a kill for the node of a death
abbrev pub IsKill : Script → Entry → Type 0
IsKill s (Done node c r) = Unit {0}
IsKill s (Died node st k l) = list_any (λ (x : Kill). x.node == node) s.kills ≡ true
IsKill s (Mended m) = Unit {0}

-- nodes die only where the script kills them
abbrev pub Killed : Script → List Entry → Type 0
Killed s [] = Unit {0}
Killed s (e ∷ es) = IsKill s e × Killed s es
