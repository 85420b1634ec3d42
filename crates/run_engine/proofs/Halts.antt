-- The deaths of all nodes that live, one after the other.
use Rattle.std.proofs.Common.{◌≡◌, ◌||◌, ◌+◌, ◌++◌, ℕ, zero, suc, Bool, true, false, List, [], ◌∷◌, Option, Some, length, slice_get, slice_set, refl, sym, ap, subst, ◌∙◌, arith, append_assoc, append-nil}
use Rattle.core_state.specs.Worlds.{NodeState, Plain, node_at, set_node}
use Rattle.core_state.specs.Goods.{Good}
use Rattle.core_state.specs.Events.{is_out, is_over_in, is_over}
use Rattle.core_state.specs.Deaths.{death_of, gone, died_by, died_at}
use Rattle.core_state.proofs.Dying.{dies_keep}
use Rattle.run_engine.specs.Halting.{death_if, deaths_from}

-- ---- a list of nodes, and one behind it

at_seam : (front : List NodeState) (s : NodeState) (ss : List NodeState) → slice_get (front ++ s ∷ ss) (length front) ≡ Some s
at_seam [] s ss = refl
at_seam (x ∷ xs) s ss = at_seam xs s ss

set_seam : (front : List NodeState) (s r : NodeState) (ss : List NodeState) → slice_set (front ++ s ∷ ss) (length front) r ≡ front ++ r ∷ ss
set_seam [] s r ss = refl
set_seam (x ∷ xs) s r ss = ap (λ ys. x ∷ ys) (set_seam xs s r ss)

one_longer : (front : List NodeState) (s : NodeState) → length (front ++ s ∷ []) ≡ suc (length front)
one_longer [] s = refl
one_longer (x ∷ xs) s = ap suc (one_longer xs s)

-- each of these nodes has left or is dead
abbrev AreOut : List NodeState → Type 0
AreOut [] = Unit {0}
AreOut (s ∷ ss) = (is_out s ≡ true) × AreOut ss

one_more_out : (front : List NodeState) (s : NodeState) → AreOut front → is_out s ≡ true → AreOut (front ++ s ∷ [])
one_more_out [] s out e = (e, tt)
one_more_out (x ∷ xs) s out e = (out.0, one_more_out xs s out.1 e)

out_at : (nodes : List NodeState) (k : ℕ) → AreOut nodes → is_over_in (slice_get nodes k) ≡ true
out_at [] k out = refl
out_at (s ∷ ss) zero out = out.0
out_at (s ∷ ss) (suc k) out = out_at ss k out.1

all_over : (nodes : List NodeState) (n : ℕ) → AreOut nodes → is_over_in (node_at nodes n) ≡ true
all_over nodes zero out = refl
all_over nodes (suc k) out = out_at nodes k out

gone_out : (s : NodeState) → is_out (gone s) ≡ true
gone_out s = by s.over where
  by : (b : Bool) → (b || true) ≡ true
  by true = refl
  by false = refl

-- ---- the world that is left

-- a world, after the deaths of these nodes, of which the first has the number n
pub record Halts (w u : Plain) (n : ℕ) (ss : List NodeState) : Type 0 where
  pub good : Good u
  pub opening : u.opening ≡ w.opening
  pub script : u.script ≡ w.script
  pub geometry : u.geometry ≡ w.geometry
  pub blocks : u.blocks ≡ w.blocks
  pub history : u.history ≡ w.history ++ deaths_from n ss
  pub over : (m : ℕ) → is_over u m ≡ true

-- the nodes before node n are out, and node n and those behind it are these
record Comes (w : Plain) (n : ℕ) (front ss : List NodeState) : Type 0 where
  good : Good w
  nodes : w.nodes ≡ front ++ ss
  number : n ≡ suc (length front)
  out : AreOut front

next_number : (n : ℕ) (front : List NodeState) (s : NodeState) → n ≡ suc (length front) → n + 1 ≡ suc (length (front ++ s ∷ []))
next_number n front s e = let k = one_longer front s in omega (arith, e, k)

-- node n, which has left or is dead, is passed over
module _ (w : Plain) (n : ℕ) (front : List NodeState) (s : NodeState) (ss : List NodeState) (at : Comes w n front (s ∷ ss)) where
  passed : is_out s ≡ true → Comes w (n + 1) (front ++ s ∷ []) ss
  passed e = record {
    good = at.good;
    nodes = at.nodes ∙ sym (append_assoc front (s ∷ []) ss);
    number = next_number n front s at.number;
    out = one_more_out front s at.out e;
  }

  after_passed : is_out s ≡ true → (u : Plain) → Halts w u (n + 1) ss → Halts w u n (s ∷ ss)
  after_passed e u h = record {
    good = h.good;
    opening = h.opening;
    script = h.script;
    geometry = h.geometry;
    blocks = h.blocks;
    history = h.history ∙ ap (λ b. w.history ++ (death_if b n s ++ deaths_from (n + 1) ss)) (sym e);
    over = h.over;
  }

  -- a node that lives dies
  stands : node_at w.nodes n ≡ Some s
  stands = ap (node_at w.nodes) at.number ∙ (ap (λ ns. slice_get ns (length front)) at.nodes ∙ at_seam front s ss)

  buried : is_out s ≡ false → Comes (died_by w n s) (n + 1) (front ++ gone s ∷ []) ss
  buried e = record {
    good = subst (λ (o : Option NodeState). Good (died_at w n o)) stands (dies_keep w at.good n (ap is_over_in stands ∙ e));
    nodes = ap (λ k. set_node w.nodes k (gone s)) at.number ∙ (ap (λ ns. slice_set ns (length front) (gone s)) at.nodes ∙ (set_seam front s (gone s) ss ∙ sym (append_assoc front (gone s ∷ []) ss)));
    number = next_number n front (gone s) at.number;
    out = one_more_out front (gone s) at.out (gone_out s);
  }

  after_buried : is_out s ≡ false → (u : Plain) → Halts (died_by w n s) u (n + 1) ss → Halts w u n (s ∷ ss)
  after_buried e u h = record {
    good = h.good;
    opening = h.opening;
    script = h.script;
    geometry = h.geometry;
    blocks = h.blocks;
    history = h.history ∙ (append_assoc w.history (death_of n s ∷ []) (deaths_from (n + 1) ss) ∙ ap (λ b. w.history ++ (death_if b n s ++ deaths_from (n + 1) ss)) (sym e));
    over = h.over;
  }

all_die : (ss front : List NodeState) (n : ℕ) (w : Plain) → Comes w n front ss → (u : Plain) × Halts w u n ss
all_die [] front n w at = (w, record { good = at.good; opening = refl; script = refl; geometry = refl; blocks = refl; history = sym (append-nil w.history); over = over }) where
  over : (m : ℕ) → is_over w m ≡ true
  over m = ap (λ ns. is_over_in (node_at ns m)) (at.nodes ∙ append-nil front) ∙ all_over front m at.out
all_die (s ∷ ss) front n w at = by_out (λ f v c. all_die ss f (n + 1) v c) (is_out s) refl where
  by_out : ((f : List NodeState) (v : Plain) → Comes v (n + 1) f ss → (u : Plain) × Halts v u (n + 1) ss) → (b : Bool) → is_out s ≡ b → (u : Plain) × Halts w u n (s ∷ ss)
  by_out rest true e = let r = rest (front ++ s ∷ []) w (passed w n front s ss at e) in (r.0, after_passed w n front s ss at e r.0 r.1)
  by_out rest false e = let r = rest (front ++ gone s ∷ []) (died_by w n s) (buried w n front s ss at e) in (r.0, after_buried w n front s ss at e r.0 r.1)

-- the world in which each node of a world that lives has died
pub halts : (w : Plain) → Good w → (u : Plain) × Halts w u 1 w.nodes
halts w good = all_die w.nodes [] 1 w (record { good = good; nodes = refl; number = refl; out = tt })
