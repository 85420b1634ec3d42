use Rattle.std.proofs.Common.{◌∙◌, ap, arith, ◌++◌, ◌∷◌, []}
use Rattle.plain_cat.proofs.OwnPlaces.{places_stay, places_grow}
use Rattle.plain_cat.proofs.script.Lines.push.Goals as goal

pub invariant_of-self-in_err-note : goal.invariant_of-self-in_err-note
invariant_of-self-in_err-note c = places_stay _ _ _ _ c.reserve.ensures.items c.in_err-note.ensures.err c.self.invariant

pub invariant_of-self-2 : goal.invariant_of-self-2
invariant_of-self-2 c =
    places_grow _ _ _ _ _ _ (c.push_reserved.ensures.items ∙ ap (λ xs. xs ++ c.args.item ∷ []) c.reserve.ensures.items) (omega arith) c.in_ok-note.ensures.ok c.self.invariant
