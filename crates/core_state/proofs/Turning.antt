-- The events of a command that leave the history: each keeps the invariant.
use Rattle.std.proofs.Common.{◌≡◌, ◌≤◌, ◌<◌, ◌+◌, ◌++◌, ◌&&◌, ◌⊎◌, not, ℕ, zero, suc, Bool, true, false, List, [], ◌∷◌, Option, Some, None, length, map, take, slice_get, slice_set, refl, sym, ap, subst, ◌∙◌, inl, inr, arith, ◌≢◌}
use Rattle.std.specs.Prelude.{slice_index_or}
use Rattle.std.proofs.lemmas.Option.{slice_get_within}
use Rattle.base_words.specs.Fields.{Block}
use Rattle.lock_db.specs.declared.name.LockName.{LockName}
use Rattle.lock_db.specs.declared.name.LockName.TheVariants.{S, A, Q, X, V}
use Rattle.lock_db.specs.declared.resource.Resource.{Resource}
use Rattle.plain_cat.specs.Modes.{rank}
use Rattle.plain_cat.specs.declared.mode.Mode.{Mode}
use Rattle.plain_cat.specs.declared.mode.Mode.TheVariants.{NL, CR, CW, PR, PW}
use Rattle.plain_cat.specs.declared.command.Cmd.{Cmd}
use Rattle.plain_cat.specs.declared.cat.Cat.{Cat}
use Rattle.node_locks.specs.Held.{system_of, Row, joined, names_of, HoldsItsLocks, waits_at}
use Rattle.node_locks.specs.Taking.{taken}
use Rattle.node_locks.proofs.Keeping.{rows_stand_still}
use Rattle.node_locks.proofs.Nodes.{has_name_or_not}
use Rattle.base_words.specs.Lists.{Has, Touches, StandsIn}
use Rattle.vol_spell.specs.Owners.{Owners, Things, Outs}
use Rattle.base_words.proofs.ListWrites.{touches_joined, stands_joined}
use Rattle.base_words.proofs.Listing.{has_parted, has_first, has_second}
use Rattle.core_state.specs.Committed.{IsUnderOn, on_its_own, of_it}
use Rattle.vol_parts.specs.declared.geometry.Geometry.{Geometry}
use Rattle.vol_spell.specs.Spelling.{Spells}
use Rattle.vol_under.specs.Guards.{Lock, guard_of, MayWrite, MayLook}
use Rattle.vol_under.specs.UnderWay.{bare, UnderWay, changed, AreSole}
use Rattle.vol_under.specs.Under.{IsLawful, IsUnder}
use Rattle.vol_under.proofs.Guarding.{wider_look, wider_write}
use Rattle.op_law.specs.declared.need.Need.{Need}
use Rattle.op_law.specs.declared.need.Need.TheVariants as need
use Rattle.op_law.specs.declared.need.Plan.{Plan}
use Rattle.op_law.specs.declared.need.PlanWrite.{PlanWrite}
use Rattle.op_law.specs.declared.need.Ask.{Ask as PlanAsk}
use Rattle.op_law.specs.declared.seen.Seen.{Seen}
use Rattle.op_law.specs.Needs.{IsNext}
use Rattle.op_law.specs.Fits.{things, HasSeen, IsSeenOn}
use Rattle.op_law.specs.Going.{GoesOn, with_block}
use Rattle.op_law.specs.Knows.{knows, is_granted}
use Rattle.op_law.specs.Laws.{held_in, planned, under_way, takes_lock, ComesInTurn, MayNeed, IsCacheable, IsNamed, AreGuarded, IsPlan}
use Rattle.op_law.proofs.Going.{seen_goes_on}
use Rattle.plain_rules.specs.Own.{NodePast}
use Rattle.node_cache.specs.Cached.{Cached}
use Rattle.op_law.specs.declared.seen.Chan.{Chan}
use Rattle.core_space.specs.declared.run.Phase.TheVariants as phase
use Rattle.core_space.specs.declared.run.SpaceRun.{SpaceRun}
use Rattle.core_state.specs.Channels.{channel_now, HasChannels}
use Rattle.node_locks.specs.Sequences.{guards_blocks}
use Rattle.core_state.specs.Stores.{HasStore, IsStocked, IsCachedAt}
use Rattle.core_state.specs.Stocks.{looked_now, stock_now}
use Rattle.core_state.specs.Worlds.{NodeState, Plain, node_at, set_node, with_node, rows_of, rows_in, rows_at}
use Rattle.core_state.specs.Event as event
use Rattle.core_state.specs.Asks.{writes_by, writes_now, granted_by, granted_ask, own_of, own_ask, with_ask, knows_now}
use Rattle.core_state.specs.Searches.{IsOfNumber, HasCome, Spaces, Off, Back, Busy}
use Rattle.core_state.specs.Waiting.{WaitsForLock, AsksForNumber, WaitsAside}
use Rattle.core_state.specs.Goods.{under_with, nodes_under, IsAtPlan, IsAt, HasCommand, IsNode, Good, held_by}
use Rattle.core_state.specs.Events.{turned, locking, seeing, planning, caching, writing, cache_written, happens}
use Rattle.core_state.proofs.StockSizes.{few_else, few_ready}
use Rattle.core_state.proofs.Holding.{held_grows, strong_grows}
use Rattle.core_state.proofs.Naming.{none_of, named_by, has_asked_without}
use Rattle.core_state.proofs.Driving.{law_grows}
use Rattle.core_state.proofs.Running.{all_asked, at_locks, under_now, under_here, are_sole}
use Rattle.core_state.proofs.Taking.{its_outs, its_seen, its_guards, becomes, is_committed, decides, writes}
use Rattle.core_state.proofs.SmallWorlds.{owes_so, small_set, small_taken, lock_there}
use Rattle.core_state.specs.Opens.{open_with, open_now}
use Rattle.core_state.proofs.Keeping.{altered, still_driven, rebuilt, held_set, held_same, loses_nothing, row_of_name}
use Rattle.core_state.proofs.CachedPuts.{IsWriteOf, put_cached, put_writes}
use Rattle.core_state.proofs.CachedLooks.{rewritten_store, store_without}
use Rattle.core_state.proofs.CachedTakes.{goes_higher, taken_stays, IsTakenIn, taken_writes, taken_cached}
use Rattle.core_state.proofs.Beginning.{alone, stays_stocked, x_stays_without}
use Rattle.core_state.proofs.Opens.{opens_taken}
use Rattle.core_state.proofs.Rows.{asks_last}
use Rattle.core_state.proofs.Standing.{calm, come_by, claims_are, locks_within, block_seen, comes_behind, lock_seen, is_known}
use Rattle.core_state.proofs.Seeking.{one_more_is}
use Rattle.node_locks.proofs.Standing.{goes-still}

-- a block that there is
pub index_within : (bs : List Block) (l : ℕ) → l < length bs → slice_get bs l ≡ Some (slice_index_or bs l [])
index_within [] l lt = absurd (omega arith)
index_within (b ∷ bs) zero lt = refl
index_within (b ∷ bs) (suc l) lt = index_within bs l (omega arith)

-- a write of a plan, as it is planned
pub planned_at : (ws : List PlanWrite) (k : ℕ) (v : PlanWrite) → slice_get ws k ≡ Some v → slice_get (map planned ws) k ≡ Some (planned v)
planned_at [] k v e = absurd (let f : None ≡ Some v = e in cc)
planned_at (y ∷ ws) zero v e = let f : Some y ≡ Some v = e in let h : y ≡ v = cc in ap (λ z. Some (planned z)) h
planned_at (y ∷ ws) (suc k) v e = planned_at ws k v e

-- what is touched by the first writes is touched by all
touches_first : (k : ℕ) (ws : List PlanWrite) (l : ℕ) → Touches (bare (map planned (take k ws))) l → Touches (bare (map planned ws)) l
touches_first zero ws l t = absurd t
touches_first (suc k) [] l t = absurd t
touches_first (suc k) (w ∷ ws) l (inl e) = inl e
touches_first (suc k) (w ∷ ws) l (inr t) = inr (touches_first k ws l t)

-- the writes of a plan that come before its ask are lawful by what is known without it
pub first_lawful : (n : ℕ) (x : Cmd) (seen : Seen) (p : Plan) (o : Option PlanAsk) → IsPlan n x seen p o → IsLawful seen.geometry n (under_way x seen (writes_by o false p.writes) (knows n x seen))
first_lawful n x seen p None right = right.lawful
first_lawful n x seen p (Some a) right = right.3

-- and guarded, whether it is granted or not
pub first_guarded : (n : ℕ) (x : Cmd) (seen : Seen) (p : Plan) (o : Option PlanAsk) → IsPlan n x seen p o → AreGuarded n (under_way x seen (writes_by o false p.writes) (knows n x seen)) seen.geometry
first_guarded n x seen p None right = right.guarded
first_guarded n x seen p (Some a) right = λ base own c stock spelt known stands outs l t. by_granted base own c stock spelt known stands outs l t (is_granted n a c) refl where
  both : (b d : Bool) → b ≡ true → d ≡ true → (b && d) ≡ true
  both b d e f = ap (λ k. k && d) e ∙ f

  by_granted : (base : List Block) (own : Owners) (c : Cat) (stock : Things) → Spells seen.geometry base own c → knows n x seen c ≡ true → StandsIn base seen.blocks → Outs n own (things seen.clusters seen.number) stock
      → (l : ℕ) → Touches (bare (map planned (take a.at p.writes))) l → (b : Bool) → is_granted n a c ≡ b → MayWrite n (held_in PW seen.locks) (guard_of seen.geometry own l)
  by_granted base own c stock spelt known stands outs l t true e = right.1.guarded base own c stock spelt (both (knows n x seen c) _ known e) stands outs l (touches_first a.at p.writes l t)
  by_granted base own c stock spelt known stands outs l t false e = right.2.guarded base own c stock spelt (both (knows n x seen c) _ known (ap not e)) stands outs l t

-- the first of the first writes are the first of all
pub taken_first : (k m : ℕ) (ws : List PlanWrite) → k ≤ length (take m ws) → take k (map planned ws) ≡ take k (map planned (take m ws))
taken_first zero m ws le = refl
taken_first (suc k) zero ws le = absurd (omega arith)
taken_first (suc k) (suc m) [] le = refl
taken_first (suc k) (suc m) (w ∷ ws) le = ap (λ vs. planned w ∷ vs) (taken_first k m ws (omega arith))

pub taken_first_of : (k m : ℕ) (ws : List PlanWrite) → k ≤ length (take m ws) → take k ws ≡ take k (take m ws)
taken_first_of zero m ws le = refl
taken_first_of (suc k) zero ws le = absurd (omega arith)
taken_first_of (suc k) (suc m) [] le = refl
taken_first_of (suc k) (suc m) (w ∷ ws) le = ap (λ vs. w ∷ vs) (taken_first_of k m ws (omega arith))

pub within_first : (k m : ℕ) (ws : List PlanWrite) → k ≤ length (take m ws) → k ≤ length (map planned ws)
within_first zero m ws le = omega arith
within_first (suc k) zero ws le = absurd (omega arith)
within_first (suc k) (suc m) [] le = absurd (omega arith)
within_first (suc k) (suc m) (w ∷ ws) le = let l = within_first k m ws (omega arith) in omega arith

-- what holds of names and of one more
pub names_of_more : (ls : List (LockName × Mode)) (l : LockName × Mode) (P : LockName → Type 0) → ((name : LockName) → Has (names_of ls) name → P name) → P l.0 → (name : LockName) → Has (names_of (ls ++ l ∷ [])) name → P name
names_of_more [] l P old new name (inl e) = subst P e new
names_of_more [] l P old new name (inr h) = absurd h
names_of_more (k ∷ ls) l P old new name (inl e) = old name (inl e)
names_of_more (k ∷ ls) l P old new name (inr h) = names_of_more ls l P (λ m t. old m (inr t)) new name h

-- a node that has seen a block more, with this cache and these counts
abbrev pub seen_so : NodeState → ℕ → Block → List Cached → ℕ → ℕ → NodeState
seen_so s lbn b es reads hits = turned (record (seeing s lbn b) { cache = es; reads = reads; hits = hits })

-- the locks that cached blocks are under guard blocks
pub guarding_of : (w : Plain) → Good w → (m : ℕ) (q : NodeState) (e : Cached) → node_at w.nodes m ≡ Some q → Has q.cache e → guards_blocks e.lock ≡ true
guarding_of w good m q e at has = (good.nodes m q at).store.guarding e has

-- of a list of nothing the first ones are none
pub take_none : (k : ℕ) → take k (let ws : List PlanWrite = [] in ws) ≡ []
take_none zero = refl
take_none (suc k) = refl

more_first : (ws : List PlanWrite) (k : ℕ) (y : PlanWrite) → Has (take k ws) y → Has (take (suc k) ws) y
more_first ws zero y h = absurd h
more_first [] (suc k) y h = absurd h
more_first (w ∷ ws) (suc k) y (inl e) = inl e
more_first (w ∷ ws) (suc k) y (inr h) = inr (more_first ws k y h)

only_first : (ws : List PlanWrite) (k : ℕ) (v y : PlanWrite) → slice_get ws k ≡ Some v → Has (take (suc k) ws) y → (v ≡ y) ⊎ Has (take k ws) y
only_first [] k v y e h = absurd (let f : None ≡ Some v = e in cc)
only_first (w ∷ ws) zero v y e (inl f) = inl (let g : Some w ≡ Some v = e in let i : w ≡ v = cc in sym i ∙ f)
only_first (w ∷ ws) zero v y e (inr h) = absurd h
only_first (w ∷ ws) (suc k) v y e (inl f) = inr (inl f)
only_first (w ∷ ws) (suc k) v y e (inr h) = elim (only_first ws k v y e h) [ inl f ↦ inl f | inr g ↦ inr (inr g) ]

made_first : (ws : List PlanWrite) (k : ℕ) (v : PlanWrite) → slice_get ws k ≡ Some v → Has (take (suc k) ws) v
made_first [] k v e = absurd (let f : None ≡ Some v = e in cc)
made_first (w ∷ ws) zero v e = inl (let g : Some w ≡ Some v = e in cc)
made_first (w ∷ ws) (suc k) v e = inr (made_first ws k v e)

-- the same, of a list between others
more_of : (ws : List PlanWrite) (k : ℕ) (y : PlanWrite) → Has (take k ws) y → Has (take (k + 1) ws) y
more_of ws k y h = subst (λ (j : ℕ). Has (take j ws) y) (sym (one_more_is k)) (more_first ws k y h)

only_of : (ws : List PlanWrite) (k : ℕ) (v y : PlanWrite) → slice_get ws k ≡ Some v → Has (take (k + 1) ws) y → (v ≡ y) ⊎ Has (take k ws) y
only_of ws k v y e h = only_first ws k v y e (subst (λ (j : ℕ). Has (take j ws) y) (one_more_is k) h)

made_of_it : (ws : List PlanWrite) (k : ℕ) (v : PlanWrite) → slice_get ws k ≡ Some v → Has (take (k + 1) ws) v
made_of_it ws k v e = subst (λ (j : ℕ). Has (take j ws) v) (sym (one_more_is k)) (made_first ws k v e)

pub more_writes : (xs ws : List PlanWrite) (k : ℕ) (y : PlanWrite) → Has (xs ++ take k ws) y → Has (xs ++ take (k + 1) ws) y
more_writes xs ws k y h = elim (has_parted xs (take k ws) y h) [
  | inl a ↦ has_first xs (take (k + 1) ws) y a
  | inr b ↦ has_second xs (take (k + 1) ws) y (more_of ws k y b)
]

pub only_writes : (xs ws : List PlanWrite) (k : ℕ) (v y : PlanWrite) → slice_get ws k ≡ Some v → Has (xs ++ take (k + 1) ws) y → (v ≡ y) ⊎ Has (xs ++ take k ws) y
only_writes xs ws k v y e h = elim (has_parted xs (take (k + 1) ws) y h) [
  | inl a ↦ inr (has_first xs (take k ws) y a)
  | inr b ↦ elim (only_of ws k v y e b) [ inl f ↦ inl f | inr g ↦ inr (has_second xs (take k ws) y g) ]
]

pub made_write : (xs ws : List PlanWrite) (k : ℕ) (v : PlanWrite) → slice_get ws k ≡ Some v → Has (xs ++ take (k + 1) ws) v
made_write xs ws k v e = has_second xs (take (k + 1) ws) v (made_of_it ws k v e)

pub more_before : (ws ys : List PlanWrite) (k : ℕ) (y : PlanWrite) → Has (take k ws ++ ys) y → Has (take (k + 1) ws ++ ys) y
more_before ws ys k y h = elim (has_parted (take k ws) ys y h) [
  | inl a ↦ has_first (take (k + 1) ws) ys y (more_of ws k y a)
  | inr b ↦ has_second (take (k + 1) ws) ys y b
]

pub only_before : (ws ys : List PlanWrite) (k : ℕ) (v y : PlanWrite) → slice_get ws k ≡ Some v → Has (take (k + 1) ws ++ ys) y → (v ≡ y) ⊎ Has (take k ws ++ ys) y
only_before ws ys k v y e h = elim (has_parted (take (k + 1) ws) ys y h) [
  | inl a ↦ elim (only_of ws k v y e a) [ inl f ↦ inl f | inr g ↦ inr (has_first (take k ws) ys y g) ]
  | inr b ↦ inr (has_second (take k ws) ys y b)
]

pub made_before : (ws ys : List PlanWrite) (k : ℕ) (v : PlanWrite) → slice_get ws k ≡ Some v → Has (take (k + 1) ws ++ ys) v
made_before ws ys k v e = has_first (take (k + 1) ws) ys v (made_of_it ws k v e)

-- the names of a node's rows stay as it asks for a lock behind those of its command
pub has_name : (ls : Row) (name : LockName) (mode : Mode) → Has ls (name, mode) → Has (names_of ls) name
has_name [] name mode h = absurd h
has_name (l ∷ ls) name mode (inl e) = inl (ap (λ (k : LockName × Mode). k.0) e)
has_name (l ∷ ls) name mode (inr h) = inr (has_name ls name mode h)

-- what an event of a node's command leaves
pub record Rest : Type 0 where
  pub past : NodePast
  pub opens : List (Option Chan)
  pub over : Bool

abbrev pub rest_of : NodeState → Rest
rest_of s = record { past = s.past; opens = s.opens; over = s.over }

-- ---- an event of a node with a command

module _ (w : Plain) (good : Good w) (n : ℕ) (s : NodeState) (at : node_at w.nodes n ≡ Some s) (x : Cmd) (cmd : s.cmd ≡ Some x) (free : waits_at w.locks n s.asked ≡ false) where
  pub me : IsNode w n s
  me = good.nodes n s at

  pub my_sole : AreSole (nodes_under w.locks w.nodes)
  my_sole = are_sole w.locks w.nodes good.locked.0 good.locked.1

  pub under_command : IsAt w n s x
  under_command = subst (HasCommand w n s) cmd me.command

  -- its rows of locks
  pub mine : HoldsItsLocks w.locks n (rows_of s)
  mine = subst (λ (rs : List Row). HoldsItsLocks w.locks n rs) (ap rows_in at) (good.locked.1 n)

  pub here : nodes_under w.locks w.nodes n ≡ at_locks n s x (held_by w.locks n s)
  here = under_here w.locks w.nodes n s at ∙ ap (under_with w.locks n s) cmd

  abbrev base_now : List Block
  base_now = good.running.drive.base

  abbrev own_now : Owners
  own_now = good.running.drive.own

  -- the drive, by the geometry that the command has seen
  pub drive_on : IsUnderOn s.seen.geometry good.running.cat good.running.drive.base good.running.drive.own (nodes_under w.locks w.nodes) w.blocks
  drive_on = subst (λ (g : Geometry). IsUnderOn g good.running.cat good.running.drive.base good.running.drive.own (nodes_under w.locks w.nodes) w.blocks) (sym me.geometry)
      (on_its_own w.geometry good.running.cat (nodes_under w.locks w.nodes) w.blocks good.running.drive)

  abbrev pub drive : IsUnder s.seen.geometry good.running.cat (nodes_under w.locks w.nodes) w.blocks
  drive = of_it s.seen.geometry good.running.cat good.running.drive.base good.running.drive.own (nodes_under w.locks w.nodes) w.blocks drive_on

  pub back : (v : UnderWay) (bs : List Block) → IsUnderOn s.seen.geometry good.running.cat good.running.drive.base good.running.drive.own (changed (nodes_under w.locks w.nodes) n v) bs
      → IsUnderOn w.geometry good.running.cat good.running.drive.base good.running.drive.own (changed (nodes_under w.locks w.nodes) n v) bs
  back v bs u = subst (λ (g : Geometry). IsUnderOn g good.running.cat good.running.drive.base good.running.drive.own (changed (nodes_under w.locks w.nodes) n v) bs) me.geometry u

  pub outs_now : Outs n drive.own (at_locks n s x (held_by w.locks n s)).took (at_locks n s x (held_by w.locks n s)).stock
  outs_now = its_outs s.seen.geometry good.running.cat (nodes_under w.locks w.nodes) w.blocks n (at_locks n s x (held_by w.locks n s)) here drive

  pub seen_now : StandsIn drive.base (at_locks n s x (held_by w.locks n s)).seen
  seen_now = its_seen s.seen.geometry good.running.cat (nodes_under w.locks w.nodes) w.blocks n (at_locks n s x (held_by w.locks n s)) here drive

  pub guards_now : (l : ℕ) → Touches (at_locks n s x (held_by w.locks n s)).seen l → MayLook (held_in PR (held_by w.locks n s)) (guard_of s.seen.geometry drive.own l)
  guards_now = its_guards s.seen.geometry good.running.cat (nodes_under w.locks w.nodes) w.blocks n (at_locks n s x (held_by w.locks n s)) here drive

  -- what it takes for granted of the catalogue is so
  pub known : knows n x s.seen good.running.cat ≡ true
  known = is_known w good n s at x cmd under_command here drive

  -- what it has seen stands in the committed blocks, which spell the catalogue
  pub seen_on : IsSeenOn n x s.seen drive.base drive.own good.running.cat
  seen_on = record {
    spelt = drive.spelt;
    stands = ((stands_joined drive.base (looked_now s.run) s.seen.blocks).0 seen_now).1;
    stock = stock_now s.stock s.run;
    outs = outs_now;
    known = known;
  }

  -- it waits for nothing
  pub no_wait : (seen : Seen) → {R : Type 0} → waits_at w.locks n s.asked ≡ true → R
  no_wait seen e = absurd (let f : true ≡ false = sym e ∙ free in cc)

  -- how it stands by its rules for space
  pub space_now : Spaces (Some x) s.kept s.claims s.run s.stock s.seen
  space_now = subst (λ (o : Option Cmd). Spaces o s.kept s.claims s.run s.stock s.seen) cmd me.space

  pub stocked_now : IsStocked s
  stocked_now = good.running.stocked n s at

  -- the node with another state, and the same command
  pub is_node : (t : List Resource) (bs : List Block) (r : NodeState) → rest_of r ≡ rest_of s → r.seen.geometry ≡ s.seen.geometry → r.seen.channel ≡ s.seen.channel
      → r.cmd ≡ s.cmd → HasStore r.run.phase r.kept r.cache → waits_at t n r.kept ≡ false → HasSeen x r.seen → ((name : LockName) → Has (names_of r.seen.locks) name → takes_lock x name ≡ true) → IsAtPlan x (waits_at t n r.asked) r.seen r.done r.tried r.plan
      → r.asked ≡ with_ask r.seen.locks (own_ask r.tried r.plan) → Spaces (Some x) r.kept r.claims r.run r.stock r.seen → (waits_at t n r.asked ≡ true → WaitsForLock x r.asked r.seen × WaitsAside r.run.phase r.asked r.seen.number) → IsNode (altered w t bs (set_node w.nodes n r) w.history) n r
  is_node t bs r same g c o keeps rests seen own plan asks space waits = record {
    past = ap (λ (k : Rest). k.past) same ∙ me.past;
    geometry = g ∙ me.geometry;
    channels = subst (λ (k : Rest). HasChannels k.past k.opens) (sym same) me.channels;
    channel = c ∙ me.channel ∙ (λ i. channel_now (sym same i).opens (sym o i));
    store = keeps;
    rests = rests;
    asks = λ e. (waits e).1;
    command = subst (HasCommand (altered w t bs (set_node w.nodes n r) w.history) n r) (sym (o ∙ cmd))
        (record { next = under_command.next; form = under_command.form; lawful = under_command.lawful; seen = seen; own = own; plan = plan; same = asks; waits = λ e. (waits e).0 });
    space = subst (λ (k : Option Cmd). Spaces k r.kept r.claims r.run r.stock r.seen) (sym (o ∙ cmd)) space;
    over = λ e. absurd (busy (me.over (sym (ap (λ (k : Rest). k.over) same) ∙ e)).0.cmd);
    gone = λ e. absurd (busy (me.gone (sym (ap (λ (k : Rest). k.past.dead) same) ∙ e)).cmd);
  } where
    busy : s.cmd ≡ None → ⊥
    busy none = absurd (let h : Some x ≡ None = sym cmd ∙ none in cc)

  pub goes : GoesOn x
  goes = seen_goes_on x under_command.lawful.searches

  -- what it needs next it may need
  pub may_need : (next : Need) → IsNext x s.seen next → MayNeed x s.seen drive.base drive.own good.running.cat next
  may_need next is = under_command.lawful.needs n s.seen drive.base drive.own good.running.cat next under_command.seen seen_on is

  pub not_yet : s.plan ≡ None → s.done ≡ 0
  not_yet no_plan = subst (IsAtPlan x (waits_at w.locks n s.asked) s.seen s.done s.tried) no_plan under_command.plan

  pub plan_stays : (t : List Resource) (r : NodeState) → s.plan ≡ None → r.plan ≡ s.plan → r.done ≡ s.done → IsAtPlan x (waits_at t n r.asked) r.seen r.done r.tried r.plan
  plan_stays t r no_plan p d = subst (IsAtPlan x (waits_at t n r.asked) r.seen r.done r.tried) (sym (p ∙ no_plan)) (d ∙ not_yet no_plan)

  -- without a plan it has asked for the locks of its command alone
  pub asks_now : s.plan ≡ None → s.asked ≡ s.seen.locks
  asks_now no_plan = under_command.same ∙ ap (λ (o : Option Plan). with_ask s.seen.locks (own_ask s.tried o)) no_plan

  pub asks_then : (r : NodeState) → s.plan ≡ None → r.plan ≡ s.plan → r.asked ≡ r.seen.locks → r.asked ≡ with_ask r.seen.locks (own_ask r.tried r.plan)
  asks_then r no_plan p e = e ∙ sym (ap (λ (o : Option Plan). with_ask r.seen.locks (own_ask r.tried o)) (p ∙ no_plan))

  pub no_writes_now : s.plan ≡ None → (at_locks n s x (held_by w.locks n s)).plan ≡ []
  no_writes_now no_plan = ap (λ o. map planned (writes_now s.tried o)) no_plan

  -- it holds the locks of its command
  holds_its : (l : LockName × Mode) → Has s.seen.locks l → Has (held_by w.locks n s) l
  holds_its l h = all_asked w.locks n s l free (locks_within (own_ask s.tried s.plan) s.asked s.seen under_command.same l h)

  pub reads_more : (name : LockName) → Has (held_in PR s.seen.locks) name → Has (held_in PR (held_by w.locks n s)) name
  reads_more name h = held_grows PR s.seen.locks (held_by w.locks n s) name holds_its h

  pub writes_more : (name : LockName) → Has (held_in PW s.seen.locks) name → Has (held_in PW (held_by w.locks n s)) name
  writes_more name h = held_grows PW s.seen.locks (held_by w.locks n s) name holds_its h

  -- ---- a lock

  -- a lock that it takes itself, and has not asked for, it has in NL or not at all
  pub may_take : s.plan ≡ None → (s.run.phase ≡ phase.Back → ⊥) → (name : LockName) → takes_lock x name ≡ true → (Has (names_of s.seen.locks) name → ⊥) → (Has (names_of (joined (rows_of s))) name → ⊥) ⊎ Has s.kept (name, NL)
  may_take no_plan calmly name own new = elim (has_name_or_not (names_of s.kept) name) [ inl h ↦ inr (in_kept h) | inr none ↦ inl (nowhere none) ] where
    not_x : name ≡ X → ⊥
    not_x e = absurd (let f : false ≡ true = sym (ap (takes_lock x) e) ∙ own in cc)

    in_kept : Has (names_of s.kept) name → Has s.kept (name, NL)
    in_kept h =
        let k = named_by s.kept name h in
        elim (me.store.kept (name, k.0) k.1) [
          | inl e ↦
              subst (λ (m : Mode). Has s.kept (name, m)) e.1 k.1
          | inr e ↦ absurd (not_x e.0)
        ]

    not_claimed : Has (names_of s.claims) name → ⊥
    not_claimed h =
        let k = named_by s.claims name h in
        elim (claims_are (Some x) s.kept s.claims s.run s.stock s.seen space_now (name, k.0) k.1) [
          | inl e ↦ not_x e
          | inr e ↦ elim (calm x s.kept s.claims s.run s.stock s.seen calmly space_now) [
            | inl off ↦ none_of s.claims (name, k.0) off.claims k.1
            | inr r ↦ absurd (
                let c = come_by x s.kept s.claims s.run s.stock s.seen r in
                let f : takes_lock x V ≡ true = sym (ap (takes_lock x) e) ∙ own in
                let g : takes_lock x V ≡ false = ap not c.takes in
                let z : true ≡ false = sym f ∙ g in
                cc)
          ]
        ]

    nowhere : (Has (names_of s.kept) name → ⊥) → Has (names_of (joined (rows_of s))) name → ⊥
    nowhere none h = elim (row_of_name s name h) [
      | inl a ↦ none a
      | inr b ↦ elim b [
        | inl c ↦ new (subst (λ (ls : Row). Has (names_of ls) name) (asks_now no_plan) c)
        | inr d ↦ not_claimed d
      ]
    ]

  -- the locks of its command are on no file's opens
  no_open_lock : (name : LockName) → takes_lock x name ≡ true → (f : ℕ) → name ≢ A f
  no_open_lock name own f e = absurd (let g : false ≡ true = sym (ap (takes_lock x) e) ∙ own in cc)

  not_cw : (mode : Mode) → Has (PR ∷ PW ∷ []) mode → mode ≢ CW
  not_cw mode (inl e) f = absurd (let g : PR ≡ CW = e ∙ f in cc)
  not_cw mode (inr (inl e)) f = absurd (let g : PW ≡ CW = e ∙ f in cc)
  not_cw mode (inr (inr e)) f = absurd e

  -- the lock that it asks for, while its rules for space are at work
  for_number : (name : LockName) (mode : Mode) → IsOfNumber s.seen.number name → AsksForNumber (s.asked ++ (name, mode) ∷ []) s.seen.number
  for_number (S k) mode e = record { file = k; mode = mode; given = e; last = record { front = s.asked; last = refl } }
  for_number (A f) mode e = absurd e
  for_number Q mode e = absurd e
  for_number X mode e = absurd e
  for_number V mode e = absurd e

  aside_now : (name : LockName) (mode : Mode) → takes_lock x name ≡ true → (Has (names_of s.seen.locks) name → ⊥) → ComesInTurn s.seen.locks s.seen.number name → Spaces (Some x) s.kept s.claims s.run s.stock s.seen
      → WaitsAside s.run.phase (s.asked ++ (name, mode) ∷ []) s.seen.number
  aside_now name mode own new turn (Off h) = inl (inl (ap (λ (k : SpaceRun). k.phase) h.run))
  aside_now name mode own new turn (Back h) = inl (inr h.back)
  aside_now name mode own new turn (Busy y e r) =
      let f : Some x ≡ Some y = e in
      let z : x ≡ y = cc in
      inr (for_number name mode (comes_behind x s.seen name own new turn (subst (λ (k : Cmd). HasCome k s.seen) (sym z) (come_by y s.kept s.claims s.run s.stock s.seen r))))

  -- a lock is asked for
  pub locks_keep : s.plan ≡ None → (s.run.phase ≡ phase.Back → ⊥) → (name : LockName) (mode : Mode) → IsNext x s.seen (need.Lock name mode)
      → Good (altered w (taken name (system_of n) mode w.locks) w.blocks (set_node w.nodes n (turned (locking s name mode))) w.history)
  locks_keep no_plan calmly name mode is =
      let t : List Resource = taken name (system_of n) mode w.locks in
      let r : NodeState = turned (locking s name mode) in
      let may = may_need (need.Lock name mode) is in
      let it = asks_last w.locks n name mode (rows_at w.nodes) s.kept s.asked s.claims good.locked.0 good.locked.1 (ap rows_in at) me.rests (may_take no_plan calmly name may.own may.new) free in
      let grows : (l : LockName × Mode) → rank CR ≤ rank l.1 → Has (held_by w.locks n s) l → Has (held_by t n r) l = it.took.strong in
      let v : UnderWay = at_locks n s x (held_by t n r) in
      let up = becomes s.seen.geometry good.running.cat (nodes_under w.locks w.nodes) w.blocks n (at_locks n s x (held_by w.locks n s)) here drive (no_writes_now no_plan) v (no_writes_now no_plan) (not_yet no_plan) outs_now seen_now
      (λ l h. wider_look (held_in PR (held_by w.locks n s)) (held_in PR (held_by t n r)) (λ m k. strong_grows PR (held_by w.locks n s) (held_by t n r) m (omega arith) grows k) (guard_of s.seen.geometry drive.own l) (guards_now l h)) in
      let there : v ≡ under_with t n r r.cmd = ap (under_with t n r) (sym cmd) in
      let not_x : name ≢ X = λ e. absurd (let f : false ≡ true = sym (ap (takes_lock x) e) ∙ may.own in cc) in
      let takes : IsTakenIn w n s r t = record {
        at = at;
        strong = grows;
        others = λ m q ne e. rows_stand_still w.locks t m (rows_of q) (λ ls i. it.took.others m ls ne);
        stays = λ other guards. taken_stays n name other mode w.locks it.took.may;
        lasting = it.took.lasting;
        same = refl;
        cache = refl;
      } in
      rebuilt w good n s r at t w.blocks w.history
      (still_driven w good n s r at t w.blocks (λ part o low. refl) refl base_now own_now good.running.blank
      (under_now w.geometry good.running.cat base_now own_now w.locks t w.nodes n s r w.blocks at (λ m q ne e. rows_stand_still w.locks t m (rows_of q) (λ ls i. it.took.others m ls ne))
      (subst (λ (u : UnderWay). IsUnderOn w.geometry good.running.cat base_now own_now (changed (nodes_under w.locks w.nodes) n u) w.blocks) there (back v w.blocks up)))
      (opens_taken name n mode w.locks (open_now good.running.cat w.nodes) good.locked.0 (no_open_lock name may.own) it.took.may (not_cw mode may.in_mode) good.running.opens)
      (taken_cached w my_sole good.writers n s r t takes (are_sole t (set_node w.nodes n r) it.took.table (held_set t w.nodes n s r at it.took.held)) (guarding_of w good) own_now good.running.cat good.running.cached))
      (it.took.table, held_set t w.nodes n s r at it.took.held) good.own
      (small_taken w good.small n s r at name (system_of n) mode w.blocks (lock_there w.locks n name it.took.may) (owes_so s r refl refl refl (has_asked_without X name s.kept not_x)))
      (good.few n) (λ m ne. refl)
      (λ m q ne e ls i. goes-still w.locks t m ls (it.took.others m ls ne))
      (stays_stocked s r refl refl (x_stays_without s.kept name not_x) (λ f. inl (few_else s x cmd (λ k b e. absurd (let g : need.Lock name mode ≡ need.Space k b = sym is ∙ e in cc)) f)) stocked_now)
      (taken_writes w my_sole good.writers n s r t takes)
      (is_node t w.blocks r refl refl refl refl (store_without s.run.phase s.kept s.cache name me.store) it.rests_then (goes.granted s.seen name mode under_command.seen is)
      (names_of_more s.seen.locks (name, mode) (λ m. takes_lock x m ≡ true) under_command.own may.own)
      (plan_stays t r no_plan refl refl)
      (asks_then r no_plan refl (ap (λ ls. ls ++ (name, mode) ∷ []) (asks_now no_plan)))
      (lock_seen x s.kept s.claims s.run s.stock s.seen name mode calmly (λ k b e. absurd (let f : need.Lock name mode ≡ need.Space k b = sym is ∙ e in cc)) (λ c. comes_behind x s.seen name may.own may.new may.turn c) not_x space_now)
      (λ e. (record { name = name; mode = mode; before = s.seen; fits = under_command.seen; next = is; is = refl; last = record { front = s.asked; last = refl } }, aside_now name mode may.own may.new may.turn space_now)))

  -- a block is seen, on the drive or in the cache
  pub sees_keep : s.plan ≡ None → (s.run.phase ≡ phase.Back → ⊥) → (lbn : ℕ) (b : Block) (es : List Cached) (reads hits : ℕ) → HasSeen x (with_block lbn b s.seen) → ((k : ℕ) (b : Bool) → IsNext x s.seen (need.Space k b) → ⊥)
      → MayLook (held_in PR s.seen.locks) (guard_of s.seen.geometry drive.own lbn) → slice_get w.blocks lbn ≡ Some b
      → HasStore s.run.phase s.kept es → ((e : Cached) → Has es e → Has s.cache e ⊎ IsCachedAt (with_node w n (seen_so s lbn b es reads hits)) own_now good.running.cat n (seen_so s lbn b es reads hits) e)
      → Good (with_node w n (seen_so s lbn b es reads hits))
  sees_keep no_plan calmly lbn b es reads hits seen never guarded there_at store entries =
      let r : NodeState = seen_so s lbn b es reads hits in
      let left : List (ℕ × Block) = looked_now s.run in
      let may : MayLook (held_in PR (held_by w.locks n s)) (guard_of s.seen.geometry drive.own lbn) = wider_look (held_in PR s.seen.locks) (held_in PR (held_by w.locks n s)) reads_more (guard_of s.seen.geometry drive.own lbn) guarded in
      let stands : slice_get drive.base lbn ≡ Some b
      = sym (is_committed s.seen.geometry good.running.cat (nodes_under w.locks w.nodes) w.blocks n (at_locks n s x (held_by w.locks n s)) here drive my_sole (no_writes_now no_plan) lbn may) ∙ there_at in
      let old = (stands_joined drive.base left s.seen.blocks).0 seen_now in
      let v = becomes s.seen.geometry good.running.cat (nodes_under w.locks w.nodes) w.blocks n (at_locks n s x (held_by w.locks n s)) here drive (no_writes_now no_plan) (at_locks n r x (held_by w.locks n s)) (no_writes_now no_plan) (not_yet no_plan) outs_now
      ((stands_joined drive.base left (s.seen.blocks ++ (lbn, b) ∷ [])).1 (old.0, (stands_joined drive.base s.seen.blocks ((lbn, b) ∷ [])).1 (old.1, (stands, tt))))
      (λ l t. elim ((touches_joined left (s.seen.blocks ++ (lbn, b) ∷ []) l).0 t) [
        | inl h ↦ guards_now l ((touches_joined left s.seen.blocks l).1 (inl h))
        | inr h ↦ elim ((touches_joined s.seen.blocks ((lbn, b) ∷ []) l).0 h) [
          | inl k ↦ guards_now l ((touches_joined left s.seen.blocks l).1 (inr k))
          | inr k ↦ elim k [ inl e ↦ subst (λ (j : ℕ). MayLook (held_in PR (held_by w.locks n s)) (guard_of s.seen.geometry drive.own j)) e may | inr f ↦ absurd f ]
        ]
      ]) in
      let there : at_locks n r x (held_by w.locks n s) ≡ under_with w.locks n r r.cmd = ap (under_with w.locks n r) (sym cmd) in
      alone w good n s at r refl (λ part o low. refl) refl (owes_so s r refl refl refl refl) (stays_stocked s r refl refl (λ h. h) (λ f. inl (few_else s x cmd never f)) stocked_now)
      (subst (λ (u : UnderWay). IsUnderOn w.geometry good.running.cat base_now own_now (changed (nodes_under w.locks w.nodes) n u) w.blocks) there (back (at_locks n r x (held_by w.locks n s)) w.blocks v))
      refl entries
      (is_node w.locks w.blocks r refl refl refl refl store me.rests seen under_command.own (plan_stays w.locks r no_plan refl refl)
      (asks_then r no_plan refl (asks_now no_plan))
      (block_seen x s.kept s.claims s.run s.stock s.seen lbn b calmly never space_now) (no_wait r.seen))

  -- the plan is made
  pub plans_keep : s.plan ≡ None → (p : Plan) → IsNext x s.seen (need.Ready p) → Good (altered w w.locks w.blocks (set_node w.nodes n (turned (planning s p))) w.history)
  plans_keep no_plan p is =
      let r : NodeState = turned (planning s p) in
      let law : IsPlan n x s.seen p p.ask = under_command.lawful.plans n s.seen p under_command.seen is in
      let ws : List PlanWrite = writes_by p.ask false p.writes in
      let u : UnderWay = record (at_locks n s x (held_by w.locks n s)) { knows = knows n x s.seen } in
      let now : nodes_under w.locks w.nodes n ≡ u = here ∙ (λ i. record (at_locks n s x (held_by w.locks n s)) { knows = knows_now n x s.seen s.tried (no_plan i) }) in
      let left : List (ℕ × Block) = looked_now s.run in
      let v = decides s.seen.geometry good.running.cat (nodes_under w.locks w.nodes) w.blocks n u now drive (no_writes_now no_plan) (not_yet no_plan) (map planned ws)
      (law_grows s.seen.geometry n (under_way x s.seen ws (knows n x s.seen)) (held_in PR (held_by w.locks n s)) (held_in PW (held_by w.locks n s)) left s.done (stock_now s.stock s.run) writes_more (first_lawful n x s.seen p p.ask law))
      (λ base own spelt stands outs l t. wider_write n (held_in PW s.seen.locks) (held_in PW (held_by w.locks n s)) writes_more (guard_of s.seen.geometry own l)
      (first_guarded n x s.seen p p.ask law base own good.running.cat (stock_now s.stock s.run) spelt known ((stands_joined base left s.seen.blocks).0 stands).1 outs l t)) in
      let there : record u { plan = map planned ws } ≡ under_with w.locks n r r.cmd
      = (λ i. record (at_locks n r x (held_by w.locks n s)) { done = not_yet no_plan i }) ∙ ap (under_with w.locks n r) (sym cmd) in
      alone w good n s at r refl (λ part o low. sym (ap (λ q. open_with part (granted_ask s.tried q) o) no_plan)) refl (owes_so s r refl refl refl refl) (stays_stocked s r refl refl (λ h. h) (λ f. inl (few_ready s x cmd p is f)) stocked_now)
      (subst (λ (u : UnderWay). IsUnderOn w.geometry good.running.cat base_now own_now (changed (nodes_under w.locks w.nodes) n u) w.blocks) there (back (record u { plan = map planned ws }) w.blocks v))
      (ap (λ (ws : List PlanWrite). take s.run.made s.run.writes ++ ws) (sym (ap (λ (o : Option Plan). take s.done (writes_now s.tried o)) no_plan ∙ take_none s.done))) (λ e h. inl h)
      (is_node w.locks w.blocks r refl refl refl refl me.store me.rests under_command.seen under_command.own (is, free, omega arith)
      (asks_now no_plan ∙ sym (ap (with_ask s.seen.locks) (none_granted p.ask))) space_now (no_wait s.seen)) where
        none_granted : (o : Option PlanAsk) → own_of (granted_by false o) ≡ None
        none_granted o = refl

  -- what it has decided on
  pub made_of : (p : Plan) → s.plan ≡ Some p → IsAtPlan x (waits_at w.locks n s.asked) s.seen s.done s.tried (Some p)
  made_of p plan = subst (IsAtPlan x (waits_at w.locks n s.asked) s.seen s.done s.tried) plan under_command.plan

  -- a block is written, under a lock that is held in PW
  pub writes_keep : (p : Plan) → s.plan ≡ Some p → (v : PlanWrite) → slice_get (writes_by p.ask s.tried p.writes) s.done ≡ Some v → v.lbn < length w.blocks → IsNamed n (held_in PW (held_by w.locks n s)) v.lock (guard_of w.geometry own_now v.lbn)
      → guards_blocks v.lock ≡ true → Good (happens w n s (event.Write v))
  writes_keep p plan v next within named guards =
      let es : List Cached = cache_written w s v in
      let r : NodeState = turned (caching es (writing s)) in
      let bs : List Block = slice_set w.blocks v.lbn v.block in
      let made = made_of p plan in
      let ws : List PlanWrite = writes_now s.tried s.plan in
      let ws_at : slice_get ws s.done ≡ Some v = ap (λ o. slice_get (writes_now s.tried o) s.done) plan ∙ next in
      let planned_next : slice_get (map planned (writes_now s.tried s.plan)) s.done ≡ Some (planned v) = ap (λ o. slice_get (map planned (writes_now s.tried o)) s.done) plan ∙ planned_at (writes_by p.ask s.tried p.writes) s.done v next in
      let u = writes w.geometry good.running.cat (nodes_under w.locks w.nodes) w.blocks n (at_locks n s x (held_by w.locks n s)) here good.running.drive my_sole (planned v) planned_next in
      let there : at_locks n r x (held_by w.locks n s) ≡ under_with w.locks n r s.cmd = ap (under_with w.locks n r) (sym cmd) in
      let it : IsWriteOf w n s r own_now v = record {
        at = at;
        rows = refl;
        more = λ y h. more_writes (take s.run.made s.run.writes) ws s.done y h;
        only = λ y h. only_writes (take s.run.made s.run.writes) ws s.done v y ws_at h;
        made = made_write (take s.run.made s.run.writes) ws s.done v ws_at;
        holds = named.held;
        within = within;
        guards = named.guards;
        goes_on = goes_higher w good v.lock v.lbn;
        cache = refl;
      } in
      let stays : (name : LockName) (l : ℕ) → guard_of w.geometry own_now l ≡ Some (Lock name) → IsCacheable w.geometry own_now good.running.cat l → (guard_of w.geometry own_now l ≡ Some (Lock name)) × IsCacheable w.geometry own_now good.running.cat l = λ name l g k. (g, k) in
      rebuilt w good n s r at w.locks bs w.history
      (still_driven w good n s r at w.locks bs (λ part o low. refl) refl base_now own_now good.running.blank
      (under_now w.geometry good.running.cat base_now own_now w.locks w.locks w.nodes n s r bs at (λ m q ne e. refl) (subst (λ (u : UnderWay). IsUnderOn w.geometry good.running.cat base_now own_now (changed (nodes_under w.locks w.nodes) n u) bs) there u))
      good.running.opens
      (put_cached w my_sole good.writers n s r own_now own_now good.running.cat good.running.cat v it stays good.running.cached))
      (good.locked.0, held_same w.locks w.nodes n s r at refl good.locked.1) good.own (small_set w good.small n s r at bs (owes_so s r refl refl refl refl)) (good.few n) (λ m ne. refl) (λ m q ne e. loses_nothing w.locks m q)
      (stays_stocked s r refl refl (λ h. h) (λ f. inl (few_ready s x cmd p made.0 f)) stocked_now)
      (put_writes w my_sole good.writers n s r own_now own_now good.running.cat good.running.cat v it stays)
      (is_node w.locks bs r refl refl refl refl (rewritten_store w v s.run.phase s.kept s.cache guards me.store) me.rests under_command.seen under_command.own
      (subst (IsAtPlan x (waits_at w.locks n s.asked) s.seen (s.done + 1) s.tried) (sym plan) (made.0, made.1, (let lt : s.done < length (writes_by p.ask s.tried p.writes) = slice_get_within (writes_by p.ask s.tried p.writes) s.done v next in omega arith)))
      under_command.same space_now (no_wait s.seen))
