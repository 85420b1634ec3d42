-- Whether a give-back comes, by the phase of a node, and by tests that are made only where they matter.
use Rattle.std.proofs.Common.{◌≡◌, ◌&&◌, ◌||◌, ℕ, Bool, true, false, not, refl, sym, ap}
use Rattle.extent_cache.specs.Stock.{Stock}
use Rattle.core_space.specs.Rule.{is_due, is_reader, has_any}
use Rattle.core_space.specs.declared.run.SpaceLocks.{SpaceLocks}
use Rattle.core_space.specs.declared.run.Phase.{Phase}
use Rattle.core_space.specs.declared.run.Phase.TheVariants as phase
use Rattle.core_state.specs.Worlds.{NodeState, Plain}
use Rattle.core_state.specs.Events.{gives_back_in, gives_back}

-- in the midst of a command's rules none does
pub none_gives : (w : Plain) (n : ℕ) (s : NodeState) → (s.run.phase ≡ phase.Off → ⊥) → (s.run.phase ≡ phase.Back → ⊥) → false ≡ gives_back w n s
none_gives w n s off back = by_phase s.run.phase refl where
  by_phase : (p : Phase) → s.run.phase ≡ p → false ≡ gives_back w n s
  by_phase phase.Off e = absurd (off e)
  by_phase phase.Fill e = sym (ap (gives_back_in w n s) e)
  by_phase phase.Drain e = sym (ap (gives_back_in w n s) e)
  by_phase phase.Last e = sym (ap (gives_back_in w n s) e)
  by_phase phase.Back e = absurd (back e)

-- whether another waits matters only where X is held in CR, whether the command is busy only where one does, and whether commands are
-- left only where there is a stock
pub cheap_tests : (l : SpaceLocks) (k : Stock) (w b e : Bool) → is_due l k (is_reader l.x && w) ((is_reader l.x && w) && b) (has_any k && e) ≡ is_due l k w b e
cheap_tests l k w b e = λ i. by_wait (is_reader l.x) w b i || by_end (has_any k) e i where
  by_wait : (r w b : Bool) → (r && ((r && w) && not ((r && w) && b))) ≡ (r && (w && not b))
  by_wait false w b = refl
  by_wait true false b = refl
  by_wait true true b = refl

  by_end : (h e : Bool) → ((h && e) && h) ≡ (e && h)
  by_end true true = refl
  by_end true false = refl
  by_end false true = refl
  by_end false false = refl
