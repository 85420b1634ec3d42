-- A kill that comes now is one of its node.
use Rattle.std.proofs.Common.{◌≡◌, ◌==◌, ◌||◌, ℕ, Bool, true, false, List, [], ◌∷◌, refl, ap}
use Rattle.std.specs.List.{list_any}
use Rattle.std.proofs.lemmas.Bool.{and_parts}
use Rattle.plain_cat.specs.declared.script.Kill.{Kill}
use Rattle.core_state.specs.Worlds.{NodeState, Plain}
use Rattle.core_state.specs.Deaths.{comes_at, kills}
use Rattle.core_state.specs.Events.{next_event}

pub any_kill : (w : Plain) (n : ℕ) (s : NodeState) (ks : List Kill) → list_any (kills w n s) ks ≡ true → list_any (λ (k : Kill). k.node == n) ks ≡ true
any_kill w n s [] e = e
any_kill w n s (k ∷ ks) e = by_first (kills w n s k) refl e (any_kill w n s ks) where
  either : (b : Bool) → list_any (λ (j : Kill). j.node == n) ks ≡ true → (b || list_any (λ (j : Kill). j.node == n) ks) ≡ true
  either true h = refl
  either false h = h

  by_first : (b : Bool) → kills w n s k ≡ b → (b || list_any (kills w n s) ks) ≡ true → (list_any (kills w n s) ks ≡ true → list_any (λ (j : Kill). j.node == n) ks ≡ true)
      → ((k.node == n) || list_any (λ (j : Kill). j.node == n) ks) ≡ true
  by_first true f g more = ap (λ b. b || list_any (λ (j : Kill). j.node == n) ks) (and_parts (k.node == n) (comes_at k.at s (next_event w n)) f).0
  by_first false f g more = either (k.node == n) (more g)
