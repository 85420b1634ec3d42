-- When an owner may believe a mode before it hears of a grant.
use Rattle.std.specs.Prelude.{◌==◌, ◌&&◌, ◌||◌, not, nat_lt, Bool, true, false, Option, Some, None}
use Rattle.plain_cat.specs.declared.mode.Mode.{Mode}
use Rattle.plain_cat.specs.declared.mode.Mode.TheVariants.{CW, PR}
use Rattle.plain_cat.specs.Modes.{rank}
use Rattle.lock_db.specs.Queues.{is_writing}
use Rattle.dlm_core.specs.declared.messages.Letter.{Letter}
use Rattle.dlm_core.specs.declared.messages.Letter.TheVariants.{Ask, Drop, Grant, Claim}

-- CW and PR: neither goes wherever the other goes
abbrev pub is_across : Mode → Mode → Bool
is_across CW PR = true
is_across PR CW = true
is_across old new = false

-- To a smaller mode, or from PW to PW or EX to EX, which writes the value block alone: the new mode goes wherever the old one
-- goes.
abbrev pub is_lowering : Mode → Mode → Bool
is_lowering old new = not (is_across old new) && (nat_lt (rank new) (rank old) || ((rank new == rank old) && is_writing old))

-- the same from what an owner believes
abbrev pub lowers : Option Mode → Mode → Bool
lowers None new = false
lowers (Some old) new = is_lowering old new

-- likewise
abbrev pub crosses : Option Mode → Mode → Bool
crosses None new = false
crosses (Some old) new = is_across old new

-- a call of an owner that has this lock writes the value block
abbrev pub writes : Option Mode → Letter → Bool
writes None l = false
writes (Some old) (Ask new) = is_writing old && is_lowering old new
writes (Some old) Drop = is_writing old
writes (Some old) (Grant new valid) = false
writes (Some old) (Claim node) = false
