-- All that was seen, from the directory on.
use Rattle.std.proofs.Common.{◌≡◌, subst, sym}
use Rattle.plain_cat.specs.declared.ids.Fid.{Fid}
use Rattle.vol_parts.specs.declared.geometry.Geometry.{Geometry}
use Rattle.op_law.specs.declared.seen.Seen.{Seen}
use Rattle.op_law.specs.declared.seeing.Rest.{Rest}
use Rattle.op_law.specs.Events.{Events, space_of, HasNoSpace, Follows}
use Rattle.op_law.specs.Moving.{SeenDir, through_names}
use Rattle.op_law.specs.Behind.{FollowsBy, HasFirst}

pub first_names : (g : Geometry) (dir : Fid) (next : SeenDir → Events) (seen : Seen) (rest : Rest) → rest.locks.now ≡ seen.locks → rest.blocks.now ≡ seen.blocks
    → HasFirst (through_names g dir next) seen → FollowsBy (through_names g dir next) rest (space_of seen)
first_names g dir next seen rest locks blocks first =
    subst (λ ls. Follows (through_names g dir next) ls rest.blocks.now (space_of seen) (HasNoSpace (space_of seen))) (sym locks)
    (subst (λ bs. Follows (through_names g dir next) seen.locks bs (space_of seen) (HasNoSpace (space_of seen))) (sym blocks) first)
