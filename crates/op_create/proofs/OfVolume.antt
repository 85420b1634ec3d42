-- What a CREATE or MKDIR has seen fits a volume: its first header.
use Rattle.std.specs.Prelude.{ℕ, List}
use Rattle.plain_cat.specs.declared.ids.Fid.{Fid}
use Rattle.plain_cat.specs.declared.ids.Uic.{Uic}
use Rattle.plain_cat.specs.declared.command.Cmd.{Cmd}
use Rattle.plain_cat.specs.declared.command.Cmd.TheVariants as cmd
use Rattle.op_law.specs.declared.seen.Seen.{Seen}
use Rattle.op_law.specs.Events.{space_of}
use Rattle.op_law.specs.Entering.{create_events, mkdir_events}
use Rattle.op_law.specs.Needs.{events_of}
use Rattle.op_law.specs.Readable.{HeadIsInside, HeadIsReadable}
use Rattle.op_law.specs.Fits.{FitsSeen}
use Rattle.op_law.proofs.Heads.{through_inside}
use Rattle.op_law.proofs.Faultless.{through_readable}
use Rattle.op_create.specs.Kinds.{IsMake}

-- a directory in which a file is made is read without a fault
pub fits_readable : (reg : ℕ) (dir : Fid) (name : List ℕ) (ver blocks : ℕ) (owner : Uic) (seen : Seen) → FitsSeen (cmd.Create reg dir name ver blocks owner) seen → HeadIsReadable dir seen.blocks
unfolding events_of create_events
fits_readable reg dir name ver blocks owner seen f =
    through_readable seen.geometry f.blocks f.own f.cat f.on.spelt dir _ (space_of seen) _ _ seen.locks seen.blocks f.on.stands f.order

-- and so is one in which a directory is made
pub fits_readable_dir : (reg : ℕ) (dir : Fid) (name : List ℕ) (owner : Uic) (seen : Seen) → FitsSeen (cmd.MkDir reg dir name owner) seen → HeadIsReadable dir seen.blocks
unfolding events_of mkdir_events
fits_readable_dir reg dir name owner seen f =
    through_readable seen.geometry f.blocks f.own f.cat f.on.spelt dir _ (space_of seen) _ _ seen.locks seen.blocks f.on.stands f.order

-- the header that was seen first is the directory's, whose runs end at or before LBN 65,536
pub fits_inside : (x : Cmd) (seen : Seen) → IsMake x → FitsSeen x seen → HeadIsInside seen.blocks
unfolding events_of create_events mkdir_events
fits_inside (cmd.Create reg dir name ver blocks owner) seen make f =
    through_inside seen.geometry f.blocks f.own f.cat f.on.spelt dir _ _ seen.locks seen.blocks (space_of seen) _ f.on.stands f.order
fits_inside (cmd.MkDir reg dir name owner) seen make f =
    through_inside seen.geometry f.blocks f.own f.cat f.on.spelt dir _ _ seen.locks seen.blocks (space_of seen) _ f.on.stands f.order
fits_inside other seen make f = absurd make
