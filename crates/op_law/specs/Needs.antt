-- What each command needs next: its events in order.
use Rattle.std.specs.Prelude.{◌≡◌, ℕ, List, Option, Some, None}
use Rattle.fx_header.specs.declared.slot.Hdr.{Hdr}
use Rattle.plain_cat.specs.declared.ids.Fid.{Fid}
use Rattle.plain_cat.specs.declared.mode.Mode.TheVariants.{PR}
use Rattle.plain_cat.specs.declared.command.Cmd.{Cmd}
use Rattle.plain_cat.specs.declared.command.Cmd.TheVariants as cmd
use Rattle.plain_cat.specs.declared.reply.Reply.{Reply}
use Rattle.plain_cat.specs.declared.reply.Reply.TheVariants as reply
use Rattle.plain_cat.specs.declared.reply.Refusal.TheVariants as refusal
use Rattle.plain_rules.specs.Lookups.{versions, entry_of, found}
use Rattle.vol_parts.specs.declared.geometry.Geometry.{Geometry}
use Rattle.op_law.specs.declared.need.Need.{Need}
use Rattle.op_law.specs.declared.seen.Seen.{Seen}
use Rattle.op_law.specs.declared.seen.Chan.{Chan}
use Rattle.op_law.specs.Events.{Events, following}
use Rattle.op_law.specs.Events.{space_of}
use Rattle.op_law.specs.Rows.{answers, refuses, live_in, entries_seen, through_header, through_directory}
use Rattle.op_law.specs.Quotas.{quota_set_events, quota_show_events}
use Rattle.op_law.specs.Moving.{rename_events}
use Rattle.op_law.specs.Entering.{create_events, mkdir_events}
use Rattle.op_law.specs.Sizes.{extend_events, trunc_events}
use Rattle.op_law.specs.Removing.{delete_events}
use Rattle.op_law.specs.Channels.{open_events, close_events, read_events, write_events}

-- LOOKUP
unfoldable pub lookup_events : Geometry → Fid → List ℕ → ℕ → Events
lookup_events g dir name ver = through_directory g dir PR (λ h bs. answers (found (entry_of (versions name (entries_seen bs)) ver)))

-- LIST
unfoldable pub list_events : Geometry → Fid → Events
list_events g dir = through_directory g dir PR (λ h bs. answers (reply.Listed (entries_seen bs)))

-- the facts of a header
abbrev pub facts_of : Hdr → Reply
facts_of h = reply.Facts h.dir (record { 0 = h.owner }) h.blocks h.mark h.end h.byte

abbrev pub facts_or_none : Option Hdr → Events
facts_or_none None = refuses refusal.NoSuchFile
facts_or_none (Some h) = answers (facts_of h)

-- STAT
unfoldable pub stat_events : Geometry → Fid → Events
stat_events g file = through_header g file PR (λ b. facts_or_none (live_in file.seq b))

-- The events of a command, where its channel has this open.
unfoldable pub events_of : Geometry → Option Chan → Cmd → Events
events_of g channel (cmd.Lookup reg dir name ver) = lookup_events g dir name ver
events_of g channel (cmd.List dir) = list_events g dir
events_of g channel (cmd.Stat file) = stat_events g file
events_of g channel (cmd.Create reg dir name ver blocks owner) = create_events g dir name ver blocks owner
events_of g channel (cmd.MkDir reg dir name owner) = mkdir_events g dir name owner
events_of g channel (cmd.Extend file blocks) = extend_events g file blocks
events_of g channel (cmd.Trunc file blocks) = trunc_events g file blocks
events_of g channel (cmd.Delete dir name ver) = delete_events g dir name ver
events_of g channel (cmd.Rename dir name ver to to_ver) = rename_events g dir name ver to to_ver
events_of g channel (cmd.OpenFile chan file mode) = open_events g channel chan file mode
events_of g channel (cmd.CloseFile chan) = close_events g channel chan
events_of g channel (cmd.ReadBlock chan vbn) = read_events g channel vbn
events_of g channel (cmd.WriteBlock chan vbn text) = write_events g channel vbn text
events_of g channel (cmd.QuotaSet owner quota over) = quota_set_events g owner quota over
events_of g channel (cmd.QuotaShow owner) = quota_show_events g owner

-- what a command needs next, by what it has seen
abbrev pub need_of : Cmd → Seen → Need
need_of cmd seen = following (events_of seen.geometry seen.channel cmd) seen.locks seen.blocks (space_of seen)

-- the command needs this next
abbrev pub IsNext : Cmd → Seen → Need → Type 0
IsNext cmd seen need = need_of cmd seen ≡ need
