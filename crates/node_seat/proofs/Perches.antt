-- The yard's own seat rests, and gets up.
use Rattle.std.proofs.Common.{◌≡◌, ℕ, Bool, true, false, sym, refl, ap, ◌∙◌, inl, inr, eqb}
use mathlib.Core.Option.{some}
use lib.ListN.{get_elem?}
use prog.Atomic.{either}
use Rattle.atomic_table.specs.Marked.{Keeps, Comes}
use Rattle.atomic_table.proofs.Lists.{at_set}
use Rattle.node_seat.specs.Yards.{IsFreshFirst}
use Rattle.node_seat.proofs.Changes.{at_end}

apart : false ≡ true → ⊥
apart e = cc

pub rests : (id : ℕ) (v : Bool) → id ≡ 0 → v ≡ true → Keeps IsFreshFirst id v (λ n. either (eqb n 0) 2 n) (λ n w. n ≡ 0)
rests id v first fresh n views rule at small =
    let here : get_elem? views id ≡ some true = at ∙ ap some fresh in (
      false,
      (λ i h. elim (at_set views id i false true h) [ inl t ↦ absurd (apart t.1) | inr t ↦ absurd (t.0 ((rule i t.1).0 ∙ sym first)) ]),
      (rule id here).1,
    )

pub gets_up : Comes IsFreshFirst 0 (λ n w. Unit {0})
gets_up n views rule small = (false, (λ i h. elim (at_end views false true i h) [ inl t ↦ ((rule i t).0, refl) | inr t ↦ absurd (apart (sym t.1)) ]), tt)
