-- What a LOOKUP, LIST or STAT has seen.
use Rattle.std.specs.Prelude.{ℕ, List}
use Rattle.plain_cat.specs.declared.ids.Fid.{Fid}
use Rattle.plain_cat.specs.declared.command.Cmd.{Cmd}
use Rattle.plain_cat.specs.declared.command.Cmd.TheVariants as cmd
use Rattle.op_law.specs.declared.seen.Seen.{Seen}
use Rattle.op_law.specs.Events.{space_of}
use Rattle.op_law.specs.Needs.{lookup_events, list_events, stat_events, events_of}
use Rattle.op_law.specs.Readable.{HeadIsInside, HeadIsReadable}
use Rattle.op_law.specs.Fits.{FitsSeen}
use Rattle.op_law.proofs.Heads.{through_inside}
use Rattle.op_law.proofs.Faultless.{through_readable}
use Rattle.op_lookup.specs.Kinds.{IsLook}

-- a directory that is looked up or listed was read without a fault
pub fits_readable : (reg : ℕ) (dir : Fid) (name : List ℕ) (ver : ℕ) (seen : Seen) → FitsSeen (cmd.Lookup reg dir name ver) seen → HeadIsReadable dir seen.blocks
unfolding events_of lookup_events
fits_readable reg dir name ver seen f =
    through_readable seen.geometry f.blocks f.own f.cat f.on.spelt dir _ (space_of seen) _ _ seen.locks seen.blocks f.on.stands f.order

pub list_readable : (dir : Fid) (seen : Seen) → FitsSeen (cmd.List dir) seen → HeadIsReadable dir seen.blocks
unfolding events_of list_events
list_readable dir seen f = through_readable seen.geometry f.blocks f.own f.cat f.on.spelt dir _ (space_of seen) _ _ seen.locks seen.blocks f.on.stands f.order

-- the header that was seen first is the file's, whose runs end at or before LBN 65,536
pub fits_inside : (x : Cmd) (seen : Seen) → IsLook x → FitsSeen x seen → HeadIsInside seen.blocks
unfolding events_of lookup_events list_events stat_events
fits_inside (cmd.Lookup reg dir name ver) seen look f =
    through_inside seen.geometry f.blocks f.own f.cat f.on.spelt dir _ _ seen.locks seen.blocks (space_of seen) _ f.on.stands f.order
fits_inside (cmd.List dir) seen look f = through_inside seen.geometry f.blocks f.own f.cat f.on.spelt dir _ _ seen.locks seen.blocks (space_of seen) _ f.on.stands f.order
fits_inside (cmd.Stat file) seen look f = through_inside seen.geometry f.blocks f.own f.cat f.on.spelt file _ _ seen.locks seen.blocks (space_of seen) _ f.on.stands f.order
fits_inside other seen look f = absurd look
