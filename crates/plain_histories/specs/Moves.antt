-- What an answer makes of the channels.
use Rattle.std.specs.Prelude.{◌≡◌, ◌&&◌, ℕ, Bool, true, List, Option, Some, None, slice_set}
use Rattle.plain_cat.specs.InForm.{is_eighth, is_open_mode}
use Rattle.plain_cat.specs.declared.command.Cmd.{Cmd}
use Rattle.plain_cat.specs.declared.command.Cmd.TheVariants as cmd
use Rattle.plain_cat.specs.declared.reply.Reply.{Reply}
use Rattle.plain_cat.specs.declared.reply.Reply.TheVariants as reply
use Rattle.plain_cat.specs.declared.cat.Open.{Open}
use Rattle.plain_rules.specs.Lookups.{place}
use Rattle.plain_histories.specs.Opens.{IsChannel}

-- the channel and the mode of an OPEN, and the channel of a CLOSE, are in form
abbrev pub has_channel_in_form : Cmd → Bool
has_channel_in_form (cmd.OpenFile chan file mode) = is_eighth chan && is_open_mode mode
has_channel_in_form (cmd.CloseFile chan) = is_eighth chan
has_channel_in_form other = true

-- the channel that a command opens or closes
abbrev pub switched_by : Cmd → Option ℕ
switched_by (cmd.OpenFile chan file mode) = Some chan
switched_by (cmd.CloseFile chan) = Some chan
switched_by other = None

-- the same of a node's command, where it has one
abbrev pub switched_next : Option Cmd → Option ℕ
switched_next None = None
switched_next (Some x) = switched_by x

-- what node m opens or closes is a channel, and not this one
abbrev pub IsElsewhere : ℕ → Option ℕ → ℕ → ℕ → Type 0
IsElsewhere m switched node chan = (k : ℕ) → switched ≡ Some k → IsChannel m k × ((m ≡ node) × (k ≡ chan) → ⊥)

-- What all channels have open after a reply to a node's command: after OPEN and CLOSE the channel has the file open or nothing, and
-- every other reply leaves them.
abbrev pub opens_after : List (Option Open) → ℕ → Cmd → Reply → List (Option Open)
opens_after opens node (cmd.OpenFile chan file mode) reply.Opened = slice_set opens (place node chan) (Some (record { file = file.num; mode = mode }))
opens_after opens node (cmd.CloseFile chan) (reply.Closed gone) = slice_set opens (place node chan) None
opens_after opens node x r = opens
