-- The limits of the numbers, names and texts of a command, a line and a script.
use Rattle.std.specs.Prelude.{◌≤◌, ◌&&◌, ◌||◌, ℕ, Bool, true, false, List, All, IsTrue, length, map, leb, nat_eq}
use Rattle.std.specs.List.{list_all, IsDistinct}
use Rattle.base_words.specs.Names.{is_part, is_name}
use Rattle.plain_cat.specs.declared.ids.Fid.{Fid}
use Rattle.plain_cat.specs.declared.ids.Uic.{Uic}
use Rattle.plain_cat.specs.declared.mode.Mode.{Mode}
use Rattle.plain_cat.specs.declared.mode.Mode.TheVariants.{NL, CR, CW, PR, PW, EX}
use Rattle.plain_cat.specs.declared.command.Cmd.{Cmd}
use Rattle.plain_cat.specs.declared.command.Cmd.TheVariants as cmd
use Rattle.plain_cat.specs.declared.script.FileRef.{FileRef}
use Rattle.plain_cat.specs.declared.script.FileRef.TheVariants.{Fixed, Reg}
use Rattle.plain_cat.specs.declared.script.LineCmd.{LineCmd}
use Rattle.plain_cat.specs.declared.script.LineCmd.TheVariants as line
use Rattle.plain_cat.specs.declared.script.Line.{Line}
use Rattle.plain_cat.specs.declared.script.KillAt.{KillAt}
use Rattle.plain_cat.specs.declared.script.KillAt.TheVariants.{Turn, Write}
use Rattle.plain_cat.specs.declared.script.Kill.{Kill}
use Rattle.plain_cat.specs.declared.script.Script.{Script}

-- from the one number to the other
abbrev pub is_within : ℕ → ℕ → ℕ → Bool
is_within low high n = leb low n && leb n high

-- A to Z and 0 to 9
abbrev pub is_text_char : ℕ → Bool
is_text_char c = is_within 65 90 c || is_within 48 57 c

-- the `NAME` of a new directory, which has 1 to 39 characters
abbrev pub is_dir_name : List ℕ → Bool
is_dir_name bytes = leb 1 (length bytes) && is_part bytes

-- what a block is written with: 1 to 16 characters
abbrev pub is_text : List ℕ → Bool
is_text bytes = is_within 1 16 (length bytes) && list_all is_text_char bytes

-- the number of a register, a channel or a node
abbrev pub is_eighth : ℕ → Bool
is_eighth n = is_within 1 8 n

abbrev pub is_fid : Fid → Bool
is_fid f = leb f.num 16777215

-- a group of at most 14 bits, and a member of 16
abbrev pub is_owner : Uic → Bool
is_owner u = leb u.0 1073741823

-- a version; 0 is the highest, or the next one
abbrev pub is_version : ℕ → Bool
is_version v = leb v 32767

-- a number of blocks, or of a virtual block
abbrev pub is_count : ℕ → Bool
is_count n = leb n 65536

-- blocks of a quota
abbrev pub is_quota : ℕ → Bool
is_quota n = leb n 4294967295

-- a mode in which a file is opened
abbrev pub is_open_mode : Mode → Bool
is_open_mode NL = false
is_open_mode CR = true
is_open_mode CW = true
is_open_mode PR = true
is_open_mode PW = true
is_open_mode EX = true

-- a command
unfoldable pub in_form : Cmd → Bool
in_form (cmd.Lookup reg dir name ver) = is_eighth reg && (is_fid dir && (is_name name && is_version ver))
in_form (cmd.List dir) = is_fid dir
in_form (cmd.Stat file) = is_fid file
in_form (cmd.Create reg dir name ver blocks owner) = is_eighth reg && (is_fid dir && (is_name name && (is_version ver && (is_count blocks && is_owner owner))))
in_form (cmd.MkDir reg dir name owner) = is_eighth reg && (is_fid dir && (is_dir_name name && is_owner owner))
in_form (cmd.Extend file blocks) = is_fid file && is_within 1 65536 blocks
in_form (cmd.Trunc file blocks) = is_fid file && is_count blocks
in_form (cmd.Delete dir name ver) = is_fid dir && (is_name name && is_version ver)
in_form (cmd.Rename dir name ver to to_ver) = is_fid dir && (is_name name && (is_version ver && (is_name to && is_version to_ver)))
in_form (cmd.OpenFile chan file mode) = is_eighth chan && (is_fid file && is_open_mode mode)
in_form (cmd.CloseFile chan) = is_eighth chan
in_form (cmd.ReadBlock chan vbn) = is_eighth chan && is_count vbn
in_form (cmd.WriteBlock chan vbn text) = is_eighth chan && (is_count vbn && is_text text)
in_form (cmd.QuotaSet owner quota over) = is_owner owner && (is_quota quota && is_quota over)
in_form (cmd.QuotaShow owner) = is_owner owner

-- an identifier, or a register
abbrev pub is_file_ref : FileRef → Bool
is_file_ref (Fixed fid) = is_fid fid
is_file_ref (Reg r) = is_eighth r

-- the command of a line
unfoldable pub line_in_form : LineCmd → Bool
line_in_form (line.Lookup reg dir name ver) = is_eighth reg && (is_file_ref dir && (is_name name && is_version ver))
line_in_form (line.List dir) = is_file_ref dir
line_in_form (line.Stat file) = is_file_ref file
line_in_form (line.Create reg dir name ver blocks owner) = is_eighth reg && (is_file_ref dir && (is_name name && (is_version ver && (is_count blocks && is_owner owner))))
line_in_form (line.MkDir reg dir name owner) = is_eighth reg && (is_file_ref dir && (is_dir_name name && is_owner owner))
line_in_form (line.Extend file blocks) = is_file_ref file && is_within 1 65536 blocks
line_in_form (line.Trunc file blocks) = is_file_ref file && is_count blocks
line_in_form (line.Delete dir name ver) = is_file_ref dir && (is_name name && is_version ver)
line_in_form (line.Rename dir name ver to to_ver) = is_file_ref dir && (is_name name && (is_version ver && (is_name to && is_version to_ver)))
line_in_form (line.OpenFile chan file mode) = is_eighth chan && (is_file_ref file && is_open_mode mode)
line_in_form (line.CloseFile chan) = is_eighth chan
line_in_form (line.ReadBlock chan vbn) = is_eighth chan && is_count vbn
line_in_form (line.WriteBlock chan vbn text) = is_eighth chan && (is_count vbn && is_text text)
line_in_form (line.QuotaSet owner quota over) = is_owner owner && (is_quota quota && is_quota over)
line_in_form (line.QuotaShow owner) = is_owner owner

-- the number of a turn or a write at which a node is killed
abbrev pub kill_count : KillAt → ℕ
kill_count (Turn t) = t
kill_count (Write k) = k

-- a script: its nodes, lines, plays and kills, with at most one kill for each node
pub record InForm (s : Script) : Type 0 where
  pub nodes : IsTrue (is_eighth s.nodes)
  pub lines_fit : length s.lines ≤ 4096
  pub lines : All (λ (l : Line). IsTrue (is_within 1 s.nodes l.node && line_in_form l.cmd)) s.lines
  pub plays_fit : length s.plays ≤ 65536
  pub plays : All (λ n. IsTrue (is_within 1 s.nodes n)) s.plays
  pub kills : All (λ (k : Kill). IsTrue (is_within 1 s.nodes k.node && is_within 1 1000000 (kill_count k.at))) s.kills
  pub killed_once : IsDistinct nat_eq (map (λ (k : Kill). k.node) s.kills)
