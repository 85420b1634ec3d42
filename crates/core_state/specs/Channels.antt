-- What the channels of a node have open.
use Rattle.std.specs.Prelude.{◌≡◌, ◌≤◌, ◌-◌, ◌&&◌, ℕ, Bool, true, false, List, Option, Some, None, is_some, length, map, replicate, slice_index_or, slice_set, if◌then◌else◌}
use Rattle.lock_db.specs.declared.name.LockName.TheVariants.{A}
use Rattle.lock_db.specs.declared.resource.Resource.{Resource}
use Rattle.lock_db.specs.Tables.{released}
use Rattle.plain_cat.specs.InForm.{is_eighth, is_open_mode}
use Rattle.plain_cat.specs.declared.command.Cmd.{Cmd}
use Rattle.plain_cat.specs.declared.command.Cmd.TheVariants as cmd
use Rattle.plain_cat.specs.declared.reply.Reply.{Reply}
use Rattle.plain_cat.specs.declared.cat.Cat.{Cat}
use Rattle.plain_rules.specs.Own.{NodePast, is_opened, is_closed}
use Rattle.op_law.specs.declared.seen.Chan.{Chan}
use Rattle.op_law.specs.Knows.{channel_of, has_channel}

-- the channel that a command names, and the mode in which it opens a file, are in form
abbrev pub names_in_form : Cmd → Bool
names_in_form (cmd.OpenFile chan file mode) = is_eighth chan && is_open_mode mode
names_in_form (cmd.CloseFile chan) = is_eighth chan
names_in_form (cmd.ReadBlock chan vbn) = is_eighth chan
names_in_form (cmd.WriteBlock chan vbn text) = is_eighth chan
names_in_form other = true

-- what a channel has open, of channels from 1
abbrev pub opened : List (Option Chan) → ℕ → Option Chan
opened opens chan = slice_index_or opens (chan - 1) None

abbrev pub opened_by : List (Option Chan) → Option ℕ → Option Chan
opened_by opens None = None
opened_by opens (Some chan) = opened opens chan

-- what the channel that a command names has open
abbrev pub channel_seen : List (Option Chan) → Cmd → Option Chan
channel_seen opens x = opened_by opens (channel_of x)

-- the same of a node's command, which is nothing where it has none
abbrev pub channel_now : List (Option Chan) → Option Cmd → Option Chan
channel_now opens None = None
channel_now opens (Some x) = channel_seen opens x

-- What a node's channels have open after a reply to its command: after OPEN and CLOSE the channel has the file open or nothing, and
-- every other reply leaves them.
abbrev pub opens_then : List (Option Chan) → Cmd → Reply → List (Option Chan)
opens_then opens (cmd.OpenFile chan file mode) r = if is_opened r then slice_set opens (chan - 1) (Some (record { file = file; mode = mode })) else opens
opens_then opens (cmd.CloseFile chan) r = if is_closed r then slice_set opens (chan - 1) None else opens
opens_then opens other r = opens

-- a channel of node n gives back the lock of what it had open, with zeros
abbrev pub let_go : ℕ → ℕ → Option Chan → List Resource → List Resource
let_go n chan None t = t
let_go n chan (Some p) t = released (A p.file.num) (record { node = n; part = chan }) (replicate 16 0) t

-- With the reply of a CLOSE that has closed its channel, which had this open, that lock goes back.
abbrev pub closed_off : ℕ → Option Chan → Cmd → Reply → List Resource → List Resource
closed_off n had (cmd.CloseFile chan) r t = if is_closed r then let_go n chan had t else t
closed_off n had other r t = t

-- of a node's channels those have something open that its answers say, while it lives
abbrev pub HasChannels : NodePast → List (Option Chan) → Type 0
HasChannels p opens = p.dead ≡ false → map is_some opens ≡ p.channels

-- node n has open what the catalogue says
pub record HasOpens (c : Cat) (n : ℕ) (opens : List (Option Chan)) : Type 0 where
  pub count : length opens ≡ 8
  pub each : (chan : ℕ) → 1 ≤ chan → chan ≤ 8 → has_channel c n (Some chan) (opened opens chan) ≡ true
