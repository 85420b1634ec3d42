use Rattle.std.proofs.Common.{◌≡◌, ◌∙◌, ◌++◌, ◌∷◌, [], ℕ, true, false, List, Option, Some, sym, ap, subst, set}
use Rattle.vol_faults.specs.declared.places.Spot.{Spot}
use Rattle.vol_faults.specs.Places.{place_of, is_new, AreFirsts}
use Rattle.vol_faults.proofs.Firsting.{firsts_same, firsts_more}
use Rattle.vol_faults.proofs.keeping.note.Goals as goal

pub returns-then-is_new : goal.returns-then-is_new
returns-then-is_new c = λ ps first.
    let new : is_new c.args.cat.now c.args.table.now.items (place_of c.args.spot.now) ≡ true =
    ap (λ (t : List (Option Spot)). is_new c.args.cat.now t (place_of c.args.spot.now)) (sym c.as_slice.ensures.value)
    ∙ (sym c.is_new.ensures ∙ c.if-is_new.true) in
    subst (λ (k : ℕ). AreFirsts c.args.cat.now (ps ++ place_of c.args.spot.now ∷ []) (set c.args.table.now.items k (Some c.args.spot.now)))
    (sym c.saturating_sub.ensures) (firsts_more c.args.cat.now ps c.args.table.now.items c.args.spot.now new first)

pub returns-else-is_new : goal.returns-else-is_new
returns-else-is_new c = λ ps first.
    let old : is_new c.args.cat.now c.args.table.now.items (place_of c.args.spot.now) ≡ false =
    ap (λ (t : List (Option Spot)). is_new c.args.cat.now t (place_of c.args.spot.now)) (sym c.as_slice.ensures.value)
    ∙ (sym c.is_new.ensures ∙ c.if-is_new.false) in
    firsts_same c.args.cat.now ps c.args.table.now.items (place_of c.args.spot.now) old first
