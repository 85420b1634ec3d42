-- Taking the turn keeps the rule.
use Rattle.std.proofs.Common.{◌≡◌, ◌≢◌, ℕ, true, List, [], ◌∷◌, Option, slice_index, slice_set, sym, refl, ap, subst, ◌∙◌, inl, inr, arith, eqb}
use mathlib.Core.Option.{Option as Maybe, some, none}
use prog.Atomic.{either}
use Rattle.atomic_table.specs.Table.{State, Act, takes, keeps, Valid, stepped, carried_after, step, Allows}
use Rattle.atomic_table.proofs.Lists.{set_again, exchanged}
use Rattle.node_seat.specs.declared.views.Start.{Start}
use Rattle.node_seat.specs.declared.views.SeatView.{SeatView}
use Rattle.node_seat.specs.Turns.{IsTurned, Holds, Takes, Has, with_turn}
use Rattle.node_seat.proofs.Changes.{Went, went, same, IsOwn, alike_left, own_number_left, range_left, claimed_left, unsplit_left, positive}

own_view : IsOwn with_turn
own_view = record { number = λ w. refl; start = λ w. refl }

module _ {S : Type 0} (kept : Start → Option S → Type 0) where
  -- who has the turn after it was taken is who took it
  held : (claims id n : ℕ) (home : Maybe (Option S)) (views : List SeatView) (v : SeatView) → IsTurned kept 0 claims home views → Has views id v → v.number ≡ n
      → (i : ℕ) (u : SeatView) → Went with_turn views id v i u → u.turn ≡ true → n ≡ u.number
  held claims id n home views v r at num i u c e =
      elim c.is [ inl t ↦ own t.1 t.2 | inr t ↦ other t.1 ] where
        own : c.was ≡ v → u ≡ with_turn c.was → n ≡ u.number
        own it f =
            let g : u.number ≡ c.was.number = ap (λ (w : SeatView). w.number) f in
            let h : c.was.number ≡ v.number = ap (λ (w : SeatView). w.number) it in omega arith

        other : u ≡ c.was → n ≡ u.number
        other f =
            let old = r.holder i c.was c.at (sym (ap (λ (w : SeatView). w.turn) f) ∙ e) in
            let p = positive kept 0 claims home views r i c.was c.at in absurd (omega arith)

  taken : (claims id n : ℕ) (home : Maybe (Option S)) (views : List SeatView) (v : SeatView) → IsTurned kept 0 claims home views → Has views id v → v.number ≡ n
      → IsTurned kept n claims none (slice_set views id (with_turn v))
  taken claims id n home views v r at num =
      let c = went with_turn views id v at in
      record {
        alike = alike_left kept with_turn own_view 0 claims id home views v r at;
        own_number = own_number_left kept with_turn own_view 0 claims id home views v r at;
        in_range = range_left kept with_turn own_view 0 claims id home views v r at claims (omega arith);
        few = r.few;
        claimed = claimed_left kept with_turn own_view 0 claims id home views v r at (λ w. refl);
        unsplit = unsplit_left kept with_turn own_view 0 claims id home views v r at (λ w. refl);
        holder = λ i a ha e. held claims id n home views v r at num i a (c i a ha) e;
        at_home = λ z. let p = positive kept 0 claims home views r id v at in absurd (omega arith);
        unopened = λ i a ha e.
            let old = r.unopened i (c i a ha).was (c i a ha).at (sym (same with_turn (λ w. w.unopened) (λ w. refl) views id v i a (c i a ha)) ∙ e) in
            let holds = r.holder i (c i a ha).was (c i a ha).at old.1 in
            let p = positive kept 0 claims home views r i (c i a ha).was (c i a ha).at in absurd (omega arith);
      }

  Goal : ℕ → ℕ → SeatView → State (Option S) SeatView → ℕ → Type 0
  Goal id n v s new = (w : SeatView) × (a : Act (Option S)) × Valid s.homes [] a × Holds kept (stepped s 0 new id [] w a) × Takes kept (step 1 0 0 n none) (v, []) (slice_index s.words 0) (w, carried_after [] a)

  plain : ℕ → ℕ → Maybe (Option S) → List SeatView → State (Option S) SeatView
  plain turn claims home views = record { words = turn ∷ claims ∷ []; homes = home ∷ []; views = views }

  hit : (id n : ℕ) (v : SeatView) (turn claims : ℕ) (home : Maybe (Option S)) (views : List SeatView) → IsTurned kept turn claims home views → Has views id v → v.number ≡ n → turn ≡ 0 → Goal id n v (plain turn claims home views) n
  unfolding Goal plain
  hit id n v turn claims home views r at num e =
      let P : ℕ → Type 0 = λ t. IsTurned kept t claims home views in
      let r0 : IsTurned kept 0 claims home views = subst P e r in
      let found = r0.at_home refl id v at in (
        with_turn v,
        takes 0 found.0,
        ap some found.1,
        (n, claims, none, refl, refl, taken claims id n home views v r0 at num),
        inl (e, refl, (found.0, refl, found.2)),
      )

  miss : (id n : ℕ) (v : SeatView) (turn claims : ℕ) (home : Maybe (Option S)) (views : List SeatView) → IsTurned kept turn claims home views → Has views id v → turn ≢ 0 → Goal id n v (plain turn claims home views) turn
  unfolding Goal plain
  miss id n v turn claims home views r at ne =
      let P : List SeatView → Type 0 = λ vs. IsTurned kept turn claims home vs in
      (v, keeps, tt, (turn, claims, home, refl, refl, subst P (sym (set_again views id v at)) r), inr (ne, refl))

  either_way : (id n : ℕ) (v : SeatView) (turn claims : ℕ) (home : Maybe (Option S)) (views : List SeatView) → IsTurned kept turn claims home views → Has views id v → v.number ≡ n → Goal id n v (plain turn claims home views) (either (eqb turn 0) n turn)
  either_way id n v turn claims home views r at num =
      exchanged turn 0 n (Goal id n v (plain turn claims home views)) (hit id n v turn claims home views r at num) (miss id n v turn claims home views r at)

  pub takes_allowed : (slots id n : ℕ) (v : SeatView) → v.number ≡ n → Allows (Holds kept) slots id (v, []) 0 (λ m. either (eqb m 0) n m) (Takes kept (step slots 0 0 n none) (v, []))
  unfolding Goal plain
  takes_allowed slots id n v num s (turn, claims, home, words, homes, r) len at lt =
      let G : State (Option S) SeatView → Type 0 = λ z. Goal id n v z (either (eqb (slice_index z.words 0) 0) n (slice_index z.words 0)) in
      let e : plain turn claims home s.views ≡ s = λ k. record { words = sym words k; homes = sym homes k; views = s.views } in
      subst G e (either_way id n v turn claims home s.views r at num)
