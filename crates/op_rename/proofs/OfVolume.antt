-- What a RENAME has seen fits a volume: its first header is one of a directory of it.
use Rattle.std.specs.Prelude.{ℕ, List}
use Rattle.plain_cat.specs.declared.ids.Fid.{Fid}
use Rattle.plain_cat.specs.declared.command.Cmd.{Cmd}
use Rattle.plain_cat.specs.declared.command.Cmd.TheVariants as cmd
use Rattle.op_law.specs.declared.seen.Seen.{Seen}
use Rattle.op_law.specs.Events.{space_of}
use Rattle.op_law.specs.Moving.{rename_events}
use Rattle.op_law.specs.Needs.{events_of}
use Rattle.op_law.specs.Readable.{HeadIsInside, HeadIsReadable}
use Rattle.op_law.specs.Fits.{FitsSeen}
use Rattle.op_law.proofs.Heads.{through_inside}
use Rattle.op_law.proofs.Faultless.{through_readable}
use Rattle.op_rename.specs.Kinds.{IsRename}

-- a directory in which an entry is renamed is read without a fault
pub fits_readable : (dir : Fid) (name : List ℕ) (ver : ℕ) (to : List ℕ) (to_ver : ℕ) (seen : Seen) → FitsSeen (cmd.Rename dir name ver to to_ver) seen → HeadIsReadable dir seen.blocks
unfolding events_of rename_events
fits_readable dir name ver to to_ver seen f =
    through_readable seen.geometry f.blocks f.own f.cat f.on.spelt dir _ (space_of seen) _ _ seen.locks seen.blocks f.on.stands f.order

-- the header that was seen first is the directory's, whose runs end at or before LBN 65,536
pub fits_inside : (x : Cmd) (seen : Seen) → IsRename x → FitsSeen x seen → HeadIsInside seen.blocks
unfolding events_of rename_events
fits_inside (cmd.Rename dir name ver to to_ver) seen is f =
    through_inside seen.geometry f.blocks f.own f.cat f.on.spelt dir _ _ seen.locks seen.blocks (space_of seen) _ f.on.stands f.order
fits_inside other seen is f = absurd is
