-- How many file numbers are in a node's stock: the spare ones at most, or one more for a command that needs one.
use Rattle.std.proofs.Common.{◌≡◌, ◌≤◌, ℕ, Bool, true, false, cond, [], Some, None, length, sym, subst, ◌∙◌, inl, inr, arith}
use Rattle.std.specs.Prelude.{◌==◌}
use Rattle.std.proofs.lemmas.List.{length-drop}
use Rattle.plain_cat.specs.declared.command.Cmd.{Cmd}
use Rattle.vol_parts.specs.declared.geometry.Geometry.{Geometry}
use Rattle.vol_parts.specs.declared.geometry.Part.TheVariants.{IndexBitmap}
use Rattle.vol_spell.specs.Places.{place_of}
use Rattle.op_law.specs.declared.need.Need.TheVariants as need
use Rattle.op_law.specs.declared.need.Plan.{Plan}
use Rattle.op_law.specs.declared.seen.Seen.{Seen}
use Rattle.op_law.specs.Needs.{IsNext}
use Rattle.extent_cache.specs.Takings.{numbers_left}
use Rattle.core_space.specs.Filling.{spare_numbers}
use Rattle.core_state.specs.Worlds.{empty_stock, NodeState}
use Rattle.core_state.specs.Stocks.{left_by}
use Rattle.core_state.specs.Stores.{HasFewNumbers}

-- ---- where the command is no matter

-- without a command
pub few_idle : (s : NodeState) → s.cmd ≡ None → HasFewNumbers s → length s.stock.numbers ≤ spare_numbers
few_idle s none (inl few) = few
few_idle s none (inr a) = absurd (let f : None ≡ Some a.command = sym none ∙ a.is in cc)

-- where the command comes to something else
pub few_else : (s : NodeState) (x : Cmd) → s.cmd ≡ Some x → ((k : ℕ) (b : Bool) → IsNext x s.seen (need.Space k b) → ⊥) → HasFewNumbers s → length s.stock.numbers ≤ spare_numbers
few_else s x cmd never (inl few) = few
few_else s x cmd never (inr a) =
    let same : a.command ≡ x = (let f : Some a.command ≡ Some x = sym a.is ∙ cmd in cc) in
    absurd (never a.clusters true (subst (λ (y : Cmd). IsNext y s.seen (need.Space a.clusters true)) same a.next))

pub few_ready : (s : NodeState) (x : Cmd) → s.cmd ≡ Some x → (p : Plan) → IsNext x s.seen (need.Ready p) → HasFewNumbers s → length s.stock.numbers ≤ spare_numbers
few_ready s x cmd p is few = few_else s x cmd (λ k b e. absurd (let f : need.Ready p ≡ need.Space k b = sym is ∙ e in cc)) few

-- ---- what stays

-- a node with the same command, which has seen the same, and as many numbers
pub few_same : (s r : NodeState) → r.cmd ≡ s.cmd → r.seen ≡ s.seen → length r.stock.numbers ≤ length s.stock.numbers → HasFewNumbers s → HasFewNumbers r
few_same s r cmd seen le (inl few) = inl (let f : length s.stock.numbers ≤ 8 = few in omega arith)
few_same s r cmd seen le (inr a) = inr (record {
  command = a.command;
  is = cmd ∙ a.is;
  clusters = a.clusters;
  next = subst (λ (k : Seen). IsNext a.command k (need.Space a.clusters true)) (sym seen) a.next;
  most = (let f : length s.stock.numbers ≤ 9 = a.most in omega arith);
})

pub few_stays : (s r : NodeState) → r.cmd ≡ s.cmd → r.seen ≡ s.seen → r.stock ≡ s.stock → HasFewNumbers s → HasFewNumbers r
few_stays s r cmd seen stock few = few_same s r cmd seen (let e : length r.stock.numbers ≡ length s.stock.numbers = (λ i. length (stock i).numbers) in omega arith) few

pub few_none : (s : NodeState) → s.stock ≡ empty_stock → HasFewNumbers s
few_none s empty = inl (let e : length s.stock.numbers ≡ 0 = (λ i. length (empty i).numbers) in omega arith)

-- a write of a give-back
pub few_left : (s r : NodeState) (g : Geometry) (lbn : ℕ) → r.cmd ≡ s.cmd → r.seen ≡ s.seen → r.stock ≡ left_by g lbn s.stock → HasFewNumbers s → HasFewNumbers r
few_left s r g lbn cmd seen stock few = few_same s r cmd seen (subst (λ n. n ≤ length s.stock.numbers) (sym (λ i. length (stock i).numbers)) (by_place (is_index g lbn))) few where
  is_index : Geometry → ℕ → Bool
  is_index g lbn = place_of g IndexBitmap == lbn

  by_place : (b : Bool) → length (cond b [] s.stock.numbers) ≤ length s.stock.numbers
  by_place true = omega arith
  by_place false = omega arith

-- the command is given what it needs from the stock, its lowest number where it needs one
pub few_served : (s : NodeState) (x : Cmd) → s.cmd ≡ Some x → (k : ℕ) (b : Bool) → IsNext x s.seen (need.Space k b) → HasFewNumbers s → length (numbers_left b s.stock.numbers) ≤ spare_numbers
few_served s x cmd k b is (inl few) = by_number b where
  by_number : (t : Bool) → length (numbers_left t s.stock.numbers) ≤ spare_numbers
  by_number true = let d = length-drop 1 s.stock.numbers in let f : length s.stock.numbers ≤ 8 = few in omega arith
  by_number false = few
few_served s x cmd k true is (inr a) = let d = length-drop 1 s.stock.numbers in let f : length s.stock.numbers ≤ 9 = a.most in omega arith
few_served s x cmd k false is (inr a) =
    let same : a.command ≡ x = (let f : Some a.command ≡ Some x = sym a.is ∙ cmd in cc) in
    let other : IsNext x s.seen (need.Space a.clusters true) = subst (λ (y : Cmd). IsNext y s.seen (need.Space a.clusters true)) same a.next in
    absurd (let f : need.Space k false ≡ need.Space a.clusters true = sym is ∙ other in cc)
