use Rattle.std.proofs.Common.{◌∙◌, ◌++◌, ◌-◌, List, Option, ℕ, Some, sym, ap}
use Rattle.std.specs.Prelude.{codes, option_map}
use Rattle.vol_faults.specs.Places.{place_of}
use Rattle.vol_show.specs.Listing.{path}
use Rattle.vol_show.proofs.Ways.{no_words, no_first, no_dir, from_main, from_other}
use Rattle.vol_show.proofs.lines.+path.Goals as goal

pub returns-then-most-eq0 : goal.returns-then-most-eq0
returns-then-most-eq0 t c = no_words c.args.cat.now c.args.most c.args.n c.if-most-eq0.true

pub returns-in_default : goal.returns-in_default
returns-in_default t c = no_first c.args.cat.now c.args.most c.args.n c.if-most-eq0.false c.in_default.ensures

pub returns-then-not-is_dir_entry : goal.returns-then-not-is_dir_entry
returns-then-not-is_dir_entry t c =
    no_dir c.args.cat.now c.args.most c.args.n (place_of c.in-Some.spot) c.if-most-eq0.false c.in-Some.ensures (sym c.is_dir_entry.ensures.value ∙ c.if-not-is_dir_entry.true)

pub returns-then-spot-eq4 : goal.returns-then-spot-eq4
returns-then-spot-eq4 t c =
    ap Some (c.in_ok-from_slice.ensures.items ∙ c.dir_word-word.ensures)
    ∙ from_main c.args.cat.now c.args.most c.args.n (place_of c.in-Some.spot) c.if-most-eq0.false c.in-Some.ensures (sym c.is_dir_entry.ensures.value ∙ c.if-not-is_dir_entry.false) c.if-spot-eq4.true

pub returns : goal.returns
returns t c =
    let p = place_of c.in-Some.spot in
    c.in_ok-with_word.ensures
    ∙ ap (λ (o : Option (List ℕ)). option_map (λ x. x ++ (codes "." ++ c.dir_word-word.result.now)) o) c.in_ok-up.ensures
    ∙ ap (λ (w : List ℕ). option_map (λ x. x ++ (codes "." ++ w)) (path c.args.cat.now (c.args.most - 1) p.dir)) c.dir_word-word.ensures
    ∙ from_other c.args.cat.now c.args.most c.args.n p c.if-most-eq0.false c.in-Some.ensures (sym c.is_dir_entry.ensures.value ∙ c.if-not-is_dir_entry.false) c.if-spot-eq4.false
