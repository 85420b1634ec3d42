-- What the death of a node leaves at a name.
use Rattle.std.proofs.Common.{◌≡◌, ◌≢◌, ◌≤◌, ◌==◌, ◌||◌, inl, inr, ℕ, Bool, true, false, not, List, Some, None, option_map, refl, ap, sym, subst, ◌∙◌, arith}
use Rattle.std.specs.Prelude.{replicate, MatchBool}
use Rattle.std.proofs.lemmas.Bool.Decides.{nat_tests}
use Rattle.plain_cat.specs.declared.mode.Mode.{Mode}
use Rattle.lock_db.specs.declared.name.LockName.{LockName}
use Rattle.lock_db.specs.declared.name.Owner.{Owner}
use Rattle.lock_db.specs.declared.askers.Standing.TheVariants.{Granted}
use Rattle.lock_db.specs.declared.askers.Asker.{Asker}
use Rattle.lock_db.specs.declared.resource.Resource.{Resource}
use Rattle.lock_db.specs.Names.{same_owner}
use Rattle.lock_db.specs.Queues.{is_queued, without_node, settled, standing_of}
use Rattle.lock_db.specs.Resources.{dropped_of}
use Rattle.lock_db.specs.Tables.{resource_at, all_together, dropped, IsTable}
use Rattle.lock_db.specs.Laws.{stands_at, BlockIs, somebody}
use Rattle.lock_db.proofs.Lists.{find-filter, list_all-every}
use Rattle.lock_db.proofs.Together.{all_together-filter}
use Rattle.lock_db.proofs.Steps.{IsSettled-at}
use Rattle.lock_db.proofs.Blocks.{dropped-at, deaths-clear}
use Rattle.lock_db.proofs.Standings.{deaths-leave}
use Rattle.node_locks.specs.Sequences.{first_sequence, second_sequence}
use Rattle.node_locks.proofs.Served.{settled-served, vacated-standing}
use Rattle.lock_db.proofs.Owners.{Served}

node_apart : (owner : Owner) (n : ℕ) → owner.node ≢ n → (a : Owner) → (a.node == n) ≡ true → same_owner a owner ≡ false
node_apart owner n d a e = grind (arith, nat_tests)

-- an owner of another node stands in a list without this node as it stood
without_other : (owner : Owner) (n : ℕ) (xs : List Asker) → owner.node ≢ n → standing_of owner (without_node n xs) ≡ standing_of owner xs
without_other owner n xs d =
    ap (option_map (λ (a : Asker). a.standing)) (find-filter (λ (a : Asker). same_owner a.owner owner) (λ (a : Asker). not (a.owner.node == n)) xs (list_all-every _ xs (λ a. one a))) where
      one : (a : Asker) → not (a.owner.node == n) || not (same_owner a.owner owner) ≡ true
      one a =
          (elim (a.owner.node == n) as (λ b. (a.owner.node == n) ≡ b → not b || not (same_owner a.owner owner) ≡ true)
          [ true ↦ λ e. rw (node_apart owner n d a.owner e) refl | false ↦ λ e. refl ]) refl

there : (name : LockName) (n : ℕ) (owner : Owner) (t : List Resource) → IsTable t → stands_at name owner (dropped n t) ≡ standing_of owner (settled (without_node n (resource_at name t).askers))
there name n owner t is =
    ap (λ (r : Resource). standing_of owner r.askers) (dropped-at name n t is.ordered)
    ∙ vacated-standing owner (dropped_of n (resource_at name t))

served : (name : LockName) (n : ℕ) (owner : Owner) (t : List Resource) → IsTable t → owner.node ≢ n → Served (stands_at name owner t) (stands_at name owner (dropped n t))
served name n owner t is d =
    let xs : List Asker = (resource_at name t).askers in
    let k = IsSettled-at name t is in
    let together : all_together (without_node n xs) ≡ true = all_together-filter (λ (a : Asker). not (a.owner.node == n)) xs k.together in
    let s : Served (standing_of owner (without_node n xs)) (standing_of owner (settled (without_node n xs))) = settled-served owner (without_node n xs) together in
    rw (there name n owner t is) (rw (without_other owner n xs d) at s)

pub granted_stays : (name : LockName) (n : ℕ) (owner : Owner) (mode : Mode) (t : List Resource) → IsTable t → owner.node ≢ n → stands_at name owner t ≡ Some (Granted mode) → stands_at name owner (dropped n t) ≡ Some (Granted mode)
granted_stays name n owner mode t is d e = by_served (served name n owner t is d) where
  by_served : Served (stands_at name owner t) (stands_at name owner (dropped n t)) → stands_at name owner (dropped n t) ≡ Some (Granted mode)
  by_served (inl same) = same ∙ e
  by_served (inr (s, at, queued, now)) =
      let two : Some s ≡ Some (Granted mode) = sym at ∙ e in
      let f : s ≡ Granted mode = cc in
      absurd (let g : true ≡ false = sym queued ∙ ap is_queued f in cc)

pub nothing_comes : (name : LockName) (n : ℕ) (owner : Owner) (t : List Resource) → IsTable t → owner.node ≢ n → stands_at name owner t ≡ None → stands_at name owner (dropped n t) ≡ None
nothing_comes name n owner t is d e = by_served (served name n owner t is d) where
  by_served : Served (stands_at name owner t) (stands_at name owner (dropped n t)) → stands_at name owner (dropped n t) ≡ None
  by_served (inl same) = same ∙ e
  by_served (inr (s, at, queued, now)) = absurd (let f : Some s ≡ None = sym at ∙ e in cc)

pub own_go : (name : LockName) (n : ℕ) (owner : Owner) (t : List Resource) → IsTable t → owner.node ≡ n → stands_at name owner (dropped n t) ≡ None
own_go name n owner t is e = subst (λ (k : ℕ). stands_at name owner (dropped k t) ≡ None) e (deaths-leave name owner t is)

-- ---- sequences

by_block : (seq : List ℕ → ℕ) (some mark : Bool) (old new : Resource) → seq (replicate 16 0) ≡ 0 → MatchBool some (BlockIs old.value mark new) (BlockIs (replicate 16 0) true new) → seq new.value ≤ seq old.value
by_block seq true mark old new zeros h = let e : seq new.value ≡ seq old.value = ap seq h.bytes_are in omega (arith, e)
by_block seq false mark old new zeros h = let e : seq new.value ≡ 0 = ap seq h.bytes_are ∙ zeros in omega (arith, e)

raised_nowhere : (seq : List ℕ → ℕ) → seq (replicate 16 0) ≡ 0 → (name : LockName) (n : ℕ) (t : List Resource) → IsTable t → seq (resource_at name (dropped n t)).value ≤ seq (resource_at name t).value
raised_nowhere seq zeros name n t is =
    by_block seq (somebody (without_node n (resource_at name t).askers)) _ (resource_at name t) (resource_at name (dropped n t)) zeros (deaths-clear name n t is)

first_zeros : first_sequence (replicate 16 0) ≡ 0
unfolding first_sequence
first_zeros = refl

second_zeros : second_sequence (replicate 16 0) ≡ 0
unfolding second_sequence
second_zeros = refl

pub first_stays : (name : LockName) (n : ℕ) (t : List Resource) → IsTable t → first_sequence (resource_at name (dropped n t)).value ≤ first_sequence (resource_at name t).value
first_stays = raised_nowhere first_sequence first_zeros

pub second_stays : (name : LockName) (n : ℕ) (t : List Resource) → IsTable t → second_sequence (resource_at name (dropped n t)).value ≤ second_sequence (resource_at name t).value
second_stays = raised_nowhere second_sequence second_zeros
