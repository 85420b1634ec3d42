use Rattle.std.proofs.Common.{◌≡◌, ◌∙◌, List, Option, Some, ap, subst}
use Rattle.base_words.specs.Fields.{Block}
use Rattle.blk_drive.specs.Telling.{told_as}
use Rattle.run_engine.specs.Mendings.{IsMendImage}
use Rattle.core_state.specs.Worlds.{shown}
use Rattle.std.specs.Prelude.{map}
use Rattle.run_engine.proofs.Rebuilding.{mends_now, one_more, none_mends, way_still, end_well, end_by, image_by, image_well, shows_old, image_kept}
use Rattle.run_engine.proofs.mending.mend.Goals as goal

pub returns-in_default-clause-still : goal.returns-in_default-clause-still
returns-in_default-clause-still g c = λ x h. none_mends c.args.w.world x c.into_parts-history.result.1.blocks c.into_parts-history.ensures.blocks (mends_now c.args.w.world x c.keeps_the_rules.ensures.accepted h)

pub returns-in_default-clause-image : goal.returns-in_default-clause-image
returns-in_default-clause-image g c = λ told x h.
    image_kept _ _ c.into_parts-history.result.1.blocks c.args.w.world.blocks (ap (λ (i : g.row.I.Denot). g.I.ImageDev.told i) c.into_parts-history.ensures.image) c.into_parts-history.ensures.blocks told

pub returns-in-Ok-rebuild-clause-end : goal.returns-in-Ok-rebuild-clause-end
returns-in-Ok-rebuild-clause-end g c = λ x h.
    end_well c.args.w.world x c.into_parts-history.result.1.blocks c.into_parts-history.ensures.blocks (mends_now c.args.w.world x c.keeps_the_rules.ensures.accepted h)
    (map shown c.append.new.self.items) c.rebuild.new.m.blocks c.in-Ok-rebuild.done c.in-Ok-rebuild.ensures.mended
    (one_more c.make_room.new.self.items c.append.new.self.items c.args.w.world.history c.in-Ok-rebuild.done (ap (map shown) c.make_room.ensures.same ∙ c.into_parts-history.ensures.history) c.append.ensures.items)

pub returns-in-Ok-rebuild-clause-still : goal.returns-in-Ok-rebuild-clause-still
returns-in-Ok-rebuild-clause-still g c = λ x h.
    way_still c.args.w.world x c.into_parts-history.result.1.blocks c.into_parts-history.ensures.blocks (mends_now c.args.w.world x c.keeps_the_rules.ensures.accepted h) c.rebuild.result c.rebuild.new.m.blocks c.rebuild.ensures.way
    (λ f e. let k = c.rebuild.ensures.fatal f e in (k.0, ap (λ m. m.blocks) k.1))

pub returns-in-Ok-rebuild-clause-image : goal.returns-in-Ok-rebuild-clause-image
returns-in-Ok-rebuild-clause-image g c = λ told x h.
    let same = ap (λ (i : g.row.I.Denot). g.I.ImageDev.told i) c.into_parts-history.ensures.image in
    subst (λ (t : Option (List Block)). g.I.ImageDev.told c.rebuild.new.m.image ≡ told_as t c.rebuild.new.m.blocks) same
    (image_well _ _ c.into_parts-history.result.1.blocks c.rebuild.new.m.blocks c.rebuild.result c.in-Ok-rebuild.done c.in-Ok-rebuild.is
    (c.rebuild.ensures.image (shows_old _ _ c.into_parts-history.result.1.blocks c.args.w.world.blocks same c.into_parts-history.ensures.blocks told)))

pub returns-in-Err-clause-end : goal.returns-in-Err-clause-end
returns-in-Err-clause-end g c = λ x h.
    end_by c.args.w.world x c.into_parts-history.result.1.blocks c.into_parts-history.ensures.blocks (mends_now c.args.w.world x c.keeps_the_rules.ensures.accepted h)
    (map shown c.make_room.new.self.items) c.rebuild.new.m.blocks c.rebuild.result c.in-Err.fault c.in-Err.is
    (λ f e. ((c.rebuild.ensures.refused f e).0, ap (λ m. m.blocks) (c.rebuild.ensures.refused f e).1))
    (ap (map shown) c.make_room.ensures.same ∙ c.into_parts-history.ensures.history)

pub returns-in-Err-clause-still : goal.returns-in-Err-clause-still
returns-in-Err-clause-still g c = λ x h.
    way_still c.args.w.world x c.into_parts-history.result.1.blocks c.into_parts-history.ensures.blocks (mends_now c.args.w.world x c.keeps_the_rules.ensures.accepted h) c.rebuild.result c.rebuild.new.m.blocks c.rebuild.ensures.way
    (λ f e. let k = c.rebuild.ensures.fatal f e in (k.0, ap (λ m. m.blocks) k.1))

pub returns-in-Err-clause-image : goal.returns-in-Err-clause-image
returns-in-Err-clause-image g c = λ told x h.
    let same = ap (λ (i : g.row.I.Denot). g.I.ImageDev.told i) c.into_parts-history.ensures.image in
    subst (λ (t : Option (List Block)). IsMendImage x c.args.w.world.blocks t (g.I.ImageDev.told c.rebuild.new.m.image) c.rebuild.new.m.blocks (Some c.in-Err.fault)) same
    (image_by c.args.w.world x c.into_parts-history.result.1.blocks c.into_parts-history.ensures.blocks (mends_now c.args.w.world x c.keeps_the_rules.ensures.accepted h)
    _ _ c.rebuild.new.m.blocks c.rebuild.result c.in-Err.fault c.in-Err.is c.rebuild.ensures.way
    (λ f e. let k = c.rebuild.ensures.fatal f e in (k.0, ap (λ m. m.blocks) k.1))
    (c.rebuild.ensures.image (shows_old _ _ c.into_parts-history.result.1.blocks c.args.w.world.blocks same c.into_parts-history.ensures.blocks told)))
