-- How much a command needs and writes.
use Rattle.std.specs.Prelude.{◌≤◌, ◌+◌, ◌*◌, ℕ, length}
use Rattle.plain_cat.specs.declared.command.Cmd.{Cmd}
use Rattle.plain_cat.specs.declared.command.Cmd.TheVariants as cmd
use Rattle.plain_rules.specs.Lookups.{file_most}
use Rattle.op_law.specs.declared.need.Need.TheVariants as need
use Rattle.op_law.specs.declared.need.Plan.{Plan}
use Rattle.op_law.specs.declared.seen.Seen.{Seen}
use Rattle.op_law.specs.Needs.{IsNext}

-- the most locks that a command takes itself: a DELETE has the directory's, those of the 16 headers of the file, Q and V
abbrev pub most_locks : ℕ
most_locks = 19

-- the most blocks that it looks at itself: a DELETE looks at two headers, the index-file bitmap, and four times at up to 16
-- blocks: of the directory, of the file, where it is a directory, or else of its other headers, of the quota file, and of the storage
-- bitmap
abbrev pub most_looks : ℕ
most_looks = 70

-- The most writes of its plan. A file has up to file_most clusters of 16 blocks, so a WRITE has up to one zero fewer, the block, and
-- the header. A CLOSE has up to 16 headers, up to 16 blocks of the storage bitmap, that of the index file, and a quota block. A DELETE
-- has these, the mark, and a removal of up to 33 writes; a RENAME an insertion and a removal, each of up to 33.
abbrev pub most_writes : Cmd → ℕ
most_writes (cmd.WriteBlock chan vbn text) = 16 * file_most + 1
most_writes (cmd.CloseFile chan) = 40
most_writes other = 120

-- A command that has seen this is brief: it has not more locks, has not looked at more blocks, and its plan has not more writes.
-- An operation shows it for its command, on the blocks of a volume, by a walk along the events that counts them: `Briefs` in
-- proofs/Brief.antt, with the lemmas of proofs/Counting.antt for the events and writes that commands have in common.
pub record IsBrief (cmd : Cmd) (seen : Seen) : Type 0 where
  pub locks : length seen.locks ≤ most_locks
  pub blocks : length seen.blocks ≤ most_looks
  pub writes : (p : Plan) → IsNext cmd seen (need.Ready p) → length p.writes ≤ most_writes cmd
