-- What a world is after a look at a block that may be cached, and after a write.
use Rattle.std.proofs.Common.{◌≡◌, ◌≤◌, ◌-◌, ℕ, Bool, true, false, Option, Some, None, cond, List, [], length, map, slice_get, slice_set, refl, sym, ap, ◌∙◌}
use Rattle.std.specs.Prelude.{is_some, IsSome, slice_index_or}
use Rattle.std.proofs.lemmas.Option.{get_or_from_slice_get}
use Rattle.base_words.specs.Fields.{Block}
use Rattle.lock_db.specs.declared.name.LockName.{LockName}
use Rattle.lock_db.specs.declared.name.LockName.TheVariants.{V}
use Rattle.lock_db.specs.declared.resource.Resource.{Resource}
use Rattle.lock_db.specs.Tables.{resource_at}
use Rattle.plain_cat.specs.declared.command.Cmd.{Cmd}
use Rattle.plain_cat.specs.declared.reply.Reply.{Reply}
use Rattle.node_cache.specs.Cached.{Cached, used}
use Rattle.op_law.specs.declared.need.Plan.{Plan}
use Rattle.op_law.specs.declared.need.PlanWrite.{PlanWrite}
use Rattle.op_law.specs.declared.need.Ask.{Ask as PlanAsk}
use Rattle.core_state.specs.Caches.{sequence_now, kept_sequence, kept_with, writes_at, rewritten}
use Rattle.core_state.specs.Worlds.{NodeState, Plain, node_at, set_node}
use Rattle.core_state.specs.Event.{Event}
use Rattle.core_state.specs.Event as event
use Rattle.core_state.specs.Events.{turned, caching, looking, using, writing, space_looking, space_using, space_writing, block_used, has_current, or_use, by_end, by_write, happen}
use Rattle.core_state.proofs.Nodes.{told_at, told_set}
use Rattle.core_step.specs.Memory.{takes_none}
use Rattle.core_step.specs.Spaces.{CanTake}
use Rattle.core_step.proofs.Steps.{happen_here}

-- ---- which event comes: a look is a use where the block is cached

pub used_now : (w : Plain) (s : NodeState) (name : LockName) (lbn : ℕ) → has_current w s name lbn ≡ true → or_use w s (event.Look name lbn) ≡ event.Use name lbn
used_now w s name lbn e = ap (λ (t : Bool). cond t (event.Use name lbn) (event.Look name lbn)) e

pub looked_now : (w : Plain) (s : NodeState) (name : LockName) (lbn : ℕ) → has_current w s name lbn ≡ false → or_use w s (event.Look name lbn) ≡ event.Look name lbn
looked_now w s name lbn e = ap (λ (t : Bool). cond t (event.Use name lbn) (event.Look name lbn)) e

pub space_used_now : (w : Plain) (s : NodeState) (k : ℕ) (b : Bool) (lbn : ℕ) → has_current w s V lbn ≡ true → or_use w s (event.SpaceLook k b lbn) ≡ event.SpaceUse k b lbn
space_used_now w s k b lbn e = ap (λ (t : Bool). cond t (event.SpaceUse k b lbn) (event.SpaceLook k b lbn)) e

pub space_looked_now : (w : Plain) (s : NodeState) (k : ℕ) (b : Bool) (lbn : ℕ) → has_current w s V lbn ≡ false → or_use w s (event.SpaceLook k b lbn) ≡ event.SpaceLook k b lbn
space_looked_now w s k b lbn e = ap (λ (t : Bool). cond t (event.SpaceUse k b lbn) (event.SpaceLook k b lbn)) e

-- an entry that is current is found
pub current_found : (v : Bool) (o : Option Cached) → is_some (cond v o None) ≡ true → IsSome o
current_found true o e = e
current_found false o e = absurd (let f : false ≡ true = e in cc)

-- a use takes memory as a look does
pub takes_or_use : (t : List Resource) (n : ℕ) (w : Plain) (s : NodeState) (e : Event) → takes_none t n (or_use w s e) ≡ takes_none t n e
takes_or_use t n w s (event.Look name lbn) = by_test (has_current w s name lbn) where
  by_test : (b : Bool) → takes_none t n (cond b (event.Use name lbn) (event.Look name lbn)) ≡ false
  by_test true = refl
  by_test false = refl
takes_or_use t n w s (event.SpaceLook k c lbn) = by_test (has_current w s V lbn) where
  by_test : (b : Bool) → takes_none t n (cond b (event.SpaceUse k c lbn) (event.SpaceLook k c lbn)) ≡ false
  by_test true = refl
  by_test false = refl
takes_or_use t n w s other = refl

-- what comes by a plan is no look
end_no_look : (w : Plain) (s : NodeState) (x : Cmd) (r : Reply) (tried : Bool) (o : Option PlanAsk) → or_use w s (by_end x r tried o) ≡ by_end x r tried o
end_no_look w s x r tried None = refl
end_no_look w s x r true (Some a) = refl
end_no_look w s x r false (Some a) = refl

pub write_no_look : (w : Plain) (s : NodeState) (x : Cmd) (p : Plan) (tried : Bool) (o : Option PlanWrite) → or_use w s (by_write x p tried o) ≡ by_write x p tried o
write_no_look w s x p tried None = end_no_look w s x p.reply tried p.ask
write_no_look w s x p tried (Some v) = refl

-- ---- item d of the list xs, which is told as node n of the world w, is d' now

module _ {A : Type 0} (f : A → NodeState) (xs : List A) (w : Plain) (n : ℕ) (d d' : A) (from : 1 ≤ n) (to : n ≤ length (map f xs)) (is : d ≡ slice_index_or xs (n - 1) d) (told : w.nodes ≡ map f xs) where
  abbrev after : List NodeState
  after = map f (slice_set xs (n - 1) d')

  at : node_at w.nodes n ≡ Some (f d)
  at = ap (λ ns. node_at ns n) told ∙ told_at f xs n d from to is

  now : (s : NodeState) → f d' ≡ s → after ≡ set_node w.nodes n s
  now s e = told_set f xs n d' from ∙ ap (set_node (map f xs) n) e ∙ ap (λ ns. set_node ns n s) (sym told)

  -- with which sequence a block is kept that is read now
  abbrev sequence_kept : LockName → ℕ → Option ℕ
  sequence_kept name lbn = kept_sequence (resource_at name w.locks).valid (writes_at n (resource_at name w.locks)) (sequence_now w.geometry w.locks name lbn)

  there_is : (lbn : ℕ) (b : Block) → slice_get w.blocks lbn ≡ Some b → b ≡ slice_index_or w.blocks lbn []
  there_is lbn b there = sym (get_or_from_slice_get w.blocks lbn b [] there)

  pub looked_so : (name : LockName) (lbn : ℕ) (b : Block) (seq : Option ℕ) → slice_get w.blocks lbn ≡ Some b → seq ≡ sequence_kept name lbn
      → f d' ≡ turned (caching (kept_with seq lbn name b (f d).cache) (looking (f d) lbn b)) → record w { nodes = after } ≡ happen w n (event.Look name lbn)
  looked_so name lbn b seq there kept e =
      let block = there_is lbn b there in
      ap (λ ns. record w { nodes = ns }) (now (turned (caching (kept_with (sequence_kept name lbn) lbn name (slice_index_or w.blocks lbn []) (f d).cache) (looking (f d) lbn (slice_index_or w.blocks lbn []))))
      (e ∙ (λ i. turned (caching (kept_with (kept i) lbn name (block i) (f d).cache) (looking (f d) lbn (block i))))))
      ∙ happen_here w n (f d) (event.Look name lbn) at

  pub space_looked_so : (clusters : ℕ) (number : Bool) (lbn : ℕ) (b : Block) (seq : Option ℕ) → slice_get w.blocks lbn ≡ Some b → seq ≡ sequence_kept V lbn
      → f d' ≡ turned (caching (kept_with seq lbn V b (f d).cache) (space_looking (f d) clusters number lbn b)) → record w { nodes = after } ≡ happen w n (event.SpaceLook clusters number lbn)
  space_looked_so clusters number lbn b seq there kept e =
      let block = there_is lbn b there in
      ap (λ ns. record w { nodes = ns }) (now (turned (caching (kept_with (sequence_kept V lbn) lbn V (slice_index_or w.blocks lbn []) (f d).cache) (space_looking (f d) clusters number lbn (slice_index_or w.blocks lbn []))))
      (e ∙ (λ i. turned (caching (kept_with (kept i) lbn V (block i) (f d).cache) (space_looking (f d) clusters number lbn (block i))))))
      ∙ happen_here w n (f d) (event.SpaceLook clusters number lbn) at

  pub used_so : (name : LockName) (lbn : ℕ) (b : Block) (seq : ℕ) → b ≡ block_used w (f d) name lbn → seq ≡ sequence_now w.geometry w.locks name lbn
      → f d' ≡ turned (caching (used lbn name seq (f d).cache) (using (f d) lbn b)) → record w { nodes = after } ≡ happen w n (event.Use name lbn)
  used_so name lbn b seq block same e =
      ap (λ ns. record w { nodes = ns }) (now (turned (caching (used lbn name (sequence_now w.geometry w.locks name lbn) (f d).cache) (using (f d) lbn (block_used w (f d) name lbn))))
      (e ∙ (λ i. turned (caching (used lbn name (same i) (f d).cache) (using (f d) lbn (block i))))))
      ∙ happen_here w n (f d) (event.Use name lbn) at

  pub space_used_so : (clusters : ℕ) (number : Bool) (lbn : ℕ) (b : Block) (seq : ℕ) → b ≡ block_used w (f d) V lbn → seq ≡ sequence_now w.geometry w.locks V lbn
      → f d' ≡ turned (caching (used lbn V seq (f d).cache) (space_using (f d) clusters number lbn b)) → record w { nodes = after } ≡ happen w n (event.SpaceUse clusters number lbn)
  space_used_so clusters number lbn b seq block same e =
      ap (λ ns. record w { nodes = ns }) (now (turned (caching (used lbn V (sequence_now w.geometry w.locks V lbn) (f d).cache) (space_using (f d) clusters number lbn (block_used w (f d) V lbn))))
      (e ∙ (λ i. turned (caching (used lbn V (same i) (f d).cache) (space_using (f d) clusters number lbn (block i))))))
      ∙ happen_here w n (f d) (event.SpaceUse clusters number lbn) at

  pub wrote_so : (v : PlanWrite) (bs : List Block) (es : List Cached) → bs ≡ slice_set w.blocks v.lbn v.block → es ≡ rewritten w.geometry w.locks v (f d).cache → f d' ≡ turned (caching es (writing (f d)))
      → record w { blocks = bs; nodes = after } ≡ happen w n (event.Write v)
  wrote_so v bs es b entries e =
      (λ i. record w { blocks = b i; nodes = now (turned (caching (rewritten w.geometry w.locks v (f d).cache) (writing (f d)))) (e ∙ ap (λ (y : List Cached). turned (caching y (writing (f d)))) entries) i })
      ∙ happen_here w n (f d) (event.Write v) at

  pub space_wrote_so : (v : PlanWrite) (bs : List Block) (es : List Cached) → bs ≡ slice_set w.blocks v.lbn v.block → es ≡ rewritten w.geometry w.locks v (f d).cache → f d' ≡ turned (caching es (space_writing (f d) v))
      → record w { blocks = bs; nodes = after } ≡ happen w n (event.SpaceWrite v)
  space_wrote_so v bs es b entries e =
      (λ i. record w { blocks = b i; nodes = now (turned (caching (rewritten w.geometry w.locks v (f d).cache) (space_writing (f d) v))) (e ∙ ap (λ (y : List Cached). turned (caching y (space_writing (f d) v))) entries) i })
      ∙ happen_here w n (f d) (event.SpaceWrite v) at

-- what a write takes over is no matter of the cache
pub can_take_cached : (s : NodeState) (es : List Cached) (v : PlanWrite) → CanTake s v → CanTake (caching es s) v
can_take_cached s es v can = record { geometry = can.geometry; clusters = can.clusters; numbers = can.numbers; place = can.place; ready = can.ready }
