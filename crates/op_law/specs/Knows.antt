-- What a command takes for granted of the catalogue besides the blocks that it has seen.
use Rattle.std.specs.Prelude.{◌==◌, ◌&&◌, ◌+◌, ◌-◌, ◌/◌, not, nat_lt, nat_le, ℕ, Bool, true, false, List, [], ◌∷◌, Option, Some, None, is_none, if◌then◌else◌}
use Rattle.std.specs.List.{list_all}
use Rattle.base_words.specs.Fields.{Block}
use Rattle.plain_cat.specs.Modes.{rank}
use Rattle.plain_cat.specs.declared.command.Cmd.{Cmd}
use Rattle.plain_cat.specs.declared.command.Cmd.TheVariants as cmd
use Rattle.plain_cat.specs.declared.reply.Refusal.{Refusal}
use Rattle.plain_cat.specs.declared.reply.Refusal.TheVariants as refusal
use Rattle.plain_cat.specs.declared.cat.Cat.{Cat}
use Rattle.plain_cat.specs.declared.cat.Open.{Open}
use Rattle.plain_cat.specs.declared.cat.QuotaRow.{QuotaRow}
use Rattle.plain_rules.specs.Lookups.{in_use, channel_at, free_clusters, has_free_number, needs_header}
use Rattle.plain_rules.specs.Accounts.{charge}
pub use Rattle.plain_rules.specs.Answers.{takes_space}
use Rattle.vol_parts.specs.declared.geometry.Geometry.{Geometry}
use Rattle.vol_spell.specs.Reading.{fields_told}
use Rattle.vol_spell.specs.Spelling.{size_in}
use Rattle.op_law.specs.declared.need.Ask.{Ask}
use Rattle.op_law.specs.declared.seen.Seen.{Seen}
use Rattle.op_law.specs.declared.seen.Chan.{Chan}
use Rattle.plain_rules.specs.Opens.{is_plain_file, goes_with, is_held_open}
use Rattle.plain_rules.specs.Laws.{makes_file}

-- ---- the channel that a command names

abbrev pub channel_of : Cmd → Option ℕ
channel_of (cmd.OpenFile chan file mode) = Some chan
channel_of (cmd.CloseFile chan) = Some chan
channel_of (cmd.ReadBlock chan vbn) = Some chan
channel_of (cmd.WriteBlock chan vbn text) = Some chan
channel_of other = None

-- the part of a node that asks for the lock of who has a file open: the channel that the command names, or the file system
abbrev pub asking_part : Option ℕ → ℕ
asking_part None = 0
asking_part (Some chan) = chan

-- The channel has this file open in this mode, which goes with all other opens of it; and the file is in use, no directory and
-- no system file.
abbrev pub is_open_as : Cat → ℕ → ℕ → Chan → Option Open → Bool
is_open_as c node chan p None = false
is_open_as c node chan p (Some o) =
    (o.file == p.file.num) && ((rank o.mode == rank p.mode) && (goes_with c node chan o.file o.mode && (nat_lt 11 p.file.num && is_plain_file (in_use c p.file))))

-- the channel has open what was seen, or nothing
abbrev pub has_channel : Cat → ℕ → Option ℕ → Option Chan → Bool
has_channel c node None seen = true
has_channel c node (Some chan) None = is_none (channel_at c node chan)
has_channel c node (Some chan) (Some p) = is_open_as c node chan p (channel_at c node chan)

-- a command that may ask for the lock of who has a file open
abbrev pub may_ask : Cmd → Bool
may_ask (cmd.Delete dir name ver) = true
may_ask (cmd.OpenFile chan file mode) = true
may_ask (cmd.CloseFile chan) = true
may_ask other = false

-- no open goes with every mode
abbrev pub opens_hold : Cat → Cmd → Bool
opens_hold c x = if may_ask x then list_all is_held_open c.opens else true

-- ---- space that was refused

-- the clusters of so many blocks each that a command searches for
abbrev pub clusters_wanted : ℕ → Cmd → ℕ
clusters_wanted factor (cmd.Create reg dir name ver blocks owner) = (blocks + (factor - 1)) / factor
clusters_wanted factor (cmd.MkDir reg dir name owner) = 1
clusters_wanted factor (cmd.Extend file blocks) = (blocks + (factor - 1)) / factor
clusters_wanted factor other = 0

-- the space that a command wants: so many clusters, and a number or none
pub record Wanted : Type 0 where
  pub clusters : ℕ
  pub number : Bool

-- whether the file whose first header is the first block seen needs one header more with so many clusters more
abbrev pub wants_header : Geometry → ℕ → List (ℕ × Block) → Bool
wants_header g more [] = false
wants_header g more (b ∷ behind) = needs_header (size_in (fields_told b.1) / g.cluster) more

-- A command wants a number for a new file, or for a new header of the file that it extends, by the blocks that the first header says.
abbrev pub wants_number : Seen → Cmd → Bool
wants_number seen (cmd.Extend file blocks) = wants_header seen.geometry (clusters_wanted seen.geometry.cluster (cmd.Extend file blocks)) seen.blocks
wants_number seen other = makes_file other

-- what it wants, by what it has seen
abbrev pub wanted : Seen → Cmd → Wanted
wanted seen x = record { clusters = clusters_wanted seen.geometry.cluster x; number = wants_number seen x }

-- Space was refused for its reason: a number was wanted and none is free, or else the clusters that are free are too few.
abbrev pub is_short : Cat → Wanted → Option Refusal → Bool
is_short c k None = true
is_short c k (Some refusal.IndexFull) = k.number && not (has_free_number c)
is_short c k (Some refusal.DeviceFull) = not (k.number && not (has_free_number c)) && nat_lt (free_clusters c) k.clusters
is_short c k (Some other) = false

-- ---- a number that was given

-- a number for a new file or a new header is above those of the system files
abbrev pub is_new_number : Option ℕ → Bool
is_new_number None = true
is_new_number (Some n) = nat_lt 11 n

-- ---- the quota rows

-- a command that changes usages
abbrev pub changes_usage : Cmd → Bool
changes_usage (cmd.Create reg dir name ver blocks owner) = true
changes_usage (cmd.MkDir reg dir name owner) = true
changes_usage (cmd.Extend file blocks) = true
changes_usage (cmd.Trunc file blocks) = true
changes_usage (cmd.Delete dir name ver) = true
changes_usage (cmd.CloseFile chan) = true
changes_usage other = false

-- the usage of a row is what its owner's files cost, or at most a million more
abbrev pub is_charged : Cat → QuotaRow → Bool
is_charged c r = nat_le (charge c r.owner) r.usage && nat_le r.usage (charge c r.owner + 1000000)

abbrev pub usages_fit : Cat → Cmd → Bool
usages_fit c x = if changes_usage x then list_all (is_charged c) c.quota else true

-- what a command of a node knows of the catalogue once it has seen this
abbrev pub knows : ℕ → Cmd → Seen → Cat → Bool
knows node x seen c =
    has_channel c node (channel_of x) seen.channel && (is_new_number seen.number && (is_short c (wanted seen x) seen.short && (usages_fit c x && opens_hold c x)))

-- the mode of an ask goes with all other opens of the file, so that it is granted
abbrev pub is_granted : ℕ → Ask → Cat → Bool
is_granted node a c = goes_with c node a.chan a.file a.mode
