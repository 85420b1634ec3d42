-- Where no kill of the script is of a node, none is due.
use Rattle.std.proofs.Common.{◌≡◌, ◌&&◌, ◌||◌, ℕ, Bool, true, false, not, List, [], ◌∷◌, Option, Some, None, refl, sym, ap, ◌∙◌}
use Rattle.std.specs.List.{list_any}
use Rattle.plain_cat.specs.declared.script.Kill.{Kill}
use Rattle.core_state.specs.Worlds.{NodeState, Plain, node_at}
use Rattle.core_state.specs.Events.{next_event, is_over}
use Rattle.core_state.specs.Deaths.{comes_at, kills_at, is_due}
use Rattle.core_death.specs.Seats.{is_of}

none_of : (n : ℕ) (q : Kill → Bool) (ks : List Kill) → list_any (is_of n) ks ≡ false → list_any (λ k. is_of n k && q k) ks ≡ false
none_of n q [] h = refl
none_of n q (k ∷ ks) h = by_test (is_of n k) h (none_of n q ks) where
  by_test : (b : Bool) → (b || list_any (is_of n) ks) ≡ false → (list_any (is_of n) ks ≡ false → list_any (λ l. is_of n l && q l) ks ≡ false) → ((b && q k) || list_any (λ l. is_of n l && q l) ks) ≡ false
  by_test true e rest = absurd (let f : true ≡ false = e in cc)
  by_test false e rest = rest e

none_at : (w : Plain) (n : ℕ) (o : Option NodeState) → list_any (is_of n) w.script.kills ≡ false → kills_at w n o ≡ false
none_at w n None h = refl
none_at w n (Some s) h = none_of n (λ k. comes_at k.at s (next_event w n)) w.script.kills h

and_none : (b : Bool) → (b && false) ≡ false
and_none true = refl
and_none false = refl

pub none_due : (w : Plain) (n : ℕ) (ks : List Kill) → ks ≡ w.script.kills → list_any (is_of n) ks ≡ false → false ≡ is_due w n
none_due w n ks e h =
    let none = none_at w n (node_at w.nodes n) (ap (list_any (is_of n)) (sym e) ∙ h) in
    sym (ap (λ b. not (is_over w n) && b) none ∙ and_none (not (is_over w n)))
