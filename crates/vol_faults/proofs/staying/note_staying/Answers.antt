use Rattle.std.proofs.Common.{◌≡◌, ◌∙◌, List, true, false, sym, subst, filter}
use Rattle.plain_rules.specs.declared.places.Place.{Place}
use Rattle.plain_rules.specs.Mending.{stays}
use Rattle.vol_faults.specs.Places.{place_of, AreFirsts}
use Rattle.vol_faults.proofs.Firsting.{passing_more, passing_same}
use Rattle.vol_faults.proofs.staying.note_staying.Goals as goal

pub returns-then-stays : goal.returns-then-stays
returns-then-stays c = λ ps first.
    let h : stays c.args.cat.now (place_of c.args.spot.now) ≡ true = sym c.stays.ensures ∙ c.if-stays.true in
    subst (λ (qs : List Place). AreFirsts c.args.cat.now qs c.note.new.table.items)
    (sym (passing_more (stays c.args.cat.now) ps (place_of c.args.spot.now) h))
    (c.note.ensures (filter (stays c.args.cat.now) ps) first)

pub returns-else-stays : goal.returns-else-stays
returns-else-stays c = λ ps first.
    let h : stays c.args.cat.now (place_of c.args.spot.now) ≡ false = sym c.stays.ensures ∙ c.if-stays.false in
    subst (λ (qs : List Place). AreFirsts c.args.cat.now qs c.args.table.now.items)
    (sym (passing_same (stays c.args.cat.now) ps (place_of c.args.spot.now) h)) first
