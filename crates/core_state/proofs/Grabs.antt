-- A write by the rules for space of a command: it keeps the invariant.
use Rattle.std.proofs.Common.{◌≡◌, ◌≤◌, ◌<◌, ◌+◌, ◌++◌, ◌==◌, ℕ, Bool, true, false, List, [], ◌∷◌, Option, Some, None, is_some, length, map, take, slice_get, slice_set, refl, sym, ap, subst, ◌∙◌, inl, inr, arith}
use Rattle.std.proofs.lemmas.Bool.Decides.{nat_tests}
use Rattle.std.proofs.lemmas.Option.{slice_get_within}
use Rattle.std.proofs.lemmas.List.{append-nil}
use Rattle.base_words.specs.Fields.{Block}
use Rattle.lock_db.specs.declared.name.LockName.{LockName}
use Rattle.lock_db.specs.declared.name.LockName.TheVariants.{X, V}
use Rattle.plain_cat.specs.Modes.{rank}
use Rattle.plain_cat.specs.declared.mode.Mode.{Mode}
use Rattle.plain_cat.specs.declared.mode.Mode.TheVariants.{CR, PR, PW, EX}
use Rattle.plain_cat.specs.declared.command.Cmd.{Cmd}
use Rattle.plain_cat.specs.declared.cat.Cat.{Cat}
use Rattle.node_locks.specs.Held.{Row, names_of, waits_at}
use Rattle.base_words.specs.Lists.{Has, Once, Touches}
use Rattle.vol_spell.specs.Owners.{Owners, Things, nothing, Outs}
use Rattle.base_words.proofs.ListWrites.{touches_joined}
use Rattle.base_words.proofs.Listing.{has_parted, has_first, has_second}
use Rattle.vol_parts.specs.declared.geometry.Geometry.{Geometry}
use Rattle.vol_spell.specs.Spelling.{AreBlank, Spells}
use Rattle.vol_under.specs.Guards.{Lock, guard_of, MayLook}
use Rattle.vol_under.proofs.Guarding.{bitmap_guard}
use Rattle.vol_under.specs.UnderWay.{UnderWay, together, changed}
use Rattle.vol_under.specs.Under.{IsUnder}
use Rattle.vol_under.specs.Keeping.{Refills, IsBitmap}
use Rattle.op_law.specs.declared.need.PlanWrite.{PlanWrite}
use Rattle.op_law.specs.declared.seen.Seen.{Seen}
use Rattle.op_law.specs.Events.{has_number}
use Rattle.op_law.specs.Fits.{things, HasSeen}
use Rattle.op_law.specs.Knows.{clusters_wanted}
use Rattle.op_law.specs.Laws.{held_in, takes_lock, IsCacheable}
use Rattle.op_law.specs.Writing.{Held, holding}
use Rattle.core_space.specs.Taking.{looked, out_after, out_of, IsTaking as Takes}
use Rattle.core_space.specs.Searching.{found}
use Rattle.core_space.specs.Answering.{blocks_alone}
use Rattle.core_space.proofs.Writes.{writes_take, takings_refill}
use Rattle.core_space.proofs.Taken.{takes_all}
use Rattle.core_space.proofs.Apart.{writes_apart}
use Rattle.core_space.specs.declared.run.Phase.{Phase}
use Rattle.core_space.specs.declared.run.Phase.TheVariants as phase
use Rattle.core_space.specs.declared.run.SpaceRun.{SpaceRun}
use Rattle.core_space.specs.Laws.{things_of, taken_with, taken_before, IsFilling as Fillings}
use Rattle.core_space.proofs.Filled.{writes_fill, fillings_refill}
use Rattle.core_state.specs.Worlds.{NodeState, Plain, node_at, set_node, rows_of}
use Rattle.core_state.specs.Asks.{granted_ask, knows_now, writes_now}
use Rattle.core_state.specs.Stocks.{things_in, filled_by, left_by, things_held, taken_in, stock_now, looked_now, unwritten}
use Rattle.core_state.specs.Searches.{wanted_by, numbered_by, lacks_by, NeedsSpace, FillWrites, IsWritingBack, IsDraining, HasClaimed, IsTaking, Rules, Grabs, Filled, Drains, Taking, Taken, Busy}
use Rattle.node_locks.specs.Sequences.{guards_blocks}
use Rattle.core_state.specs.Stores.{hold_writes, HasStore, IsStocked, HasFewNumbers}
use Rattle.core_state.specs.Goods.{under_with, nodes_under, IsAt, IsNode, Good, held_by}
use Rattle.core_state.specs.Events.{turned, ready_left, given_by, stocked_by, is_last, space_writing, caching, cache_written}
use Rattle.base_words.specs.Faults.{next as one_more}
use Rattle.core_state.specs.Committed.{IsUnderOn}
use Rattle.core_state.proofs.Guarded.{spaces_stay}
use Rattle.node_cache.specs.Cached.{Cached}
use Rattle.core_state.proofs.StockSizes.{few_stays, few_left, few_none}
use Rattle.core_state.proofs.CachedPuts.{IsWriteOf, put_cached, put_writes}
use Rattle.core_state.proofs.CachedLooks.{rewritten_store}
use Rattle.core_state.proofs.CachedTakes.{goes_higher}
use Rattle.core_state.proofs.Holding.{is_in_held}
use Rattle.core_state.proofs.Running.{at_locks, under_now, claims_held}
use Rattle.core_state.proofs.Taking.{is_committed, grabs}
use Rattle.core_state.proofs.Seeking.{touches_its, part_stands, stands_its, part_touches, is_left, less_left, not_left, once_at, one_more_is}
use Rattle.core_state.proofs.Switching.{AsksAlike}
use Rattle.core_state.proofs.SmallWorlds.{OwesLess, owes_same, small_set}
use Rattle.core_state.proofs.Keeping.{altered, still_driven, rebuilt, held_same, loses_nothing}
use Rattle.core_state.proofs.Wants.{wants_alike}
use Rattle.core_state.proofs.Standing.{all_taken, part_taken, back_taken, with_nothing}
use Rattle.core_state.proofs.Turning.{my_sole, under_command, here, drive, outs_now, seen_now, guards_now, is_node, goes, not_yet, plan_stays, asks_now, asks_then, no_wait, no_writes_now, me, more_before, only_before, made_before, stocked_now}
use Rattle.core_state.proofs.Serving.{no_number}
use Rattle.core_state.proofs.Fillings.{get_has, fill_once, fill_last, filled_enough, fill_under, few_filled}
use Rattle.core_state.proofs.InStock.{is_once, in_stock}
use Rattle.core_state.proofs.Backs.{IsBackWrite, back_write}
use Rattle.core_state.proofs.Blanks.{bits_blank}

-- ---- small steps

number_there : (b : Bool) (o : Option ℕ) → is_some o ≡ b → has_number b o ≡ true
number_there true o e = e
number_there false None e = refl
number_there false (Some n) e = absurd (let f : true ≡ false = e in cc)

-- what is outside after one write more
pub out_next : (ws : List PlanWrite) (k : ℕ) (w : PlanWrite) → slice_get ws k ≡ Some w → out_after ws (k + 1) ≡ holding w.clusters w.number
out_next ws k w at = ap (out_after ws) (one_more_is k) ∙ ap (λ (o : Option PlanWrite). out_of_some o) at where
  out_of_some : Option PlanWrite → Held
  out_of_some o = out_of o

taken_next : (ws : List PlanWrite) (k : ℕ) (w : PlanWrite) → slice_get ws k ≡ Some w → taken_before ws (k + 1) ≡ things_of w.clusters w.numbers
taken_next ws k w at = ap (taken_before ws) (one_more_is k) ∙ ap taken_with at

-- what is stock is the command's
out_taken : (n : ℕ) (own : Owners) (t : Things) → Outs n own nothing t → Outs n own t nothing
out_taken n own t o = record {
  clusters = record { all = λ q. ((λ h. inl (elim ((o.clusters.all q).0 h) [ inl f ↦ absurd f | inr k ↦ k ])), (λ h. (o.clusters.all q).1 (elim h [ inl k ↦ inr k | inr f ↦ absurd f ]))); once = subst Once (sym (append-nil t.clusters)) o.clusters.once };
  numbers = record { all = λ q. ((λ h. inl (elim ((o.numbers.all q).0 h) [ inl f ↦ absurd f | inr k ↦ k ])), (λ h. (o.numbers.all q).1 (elim h [ inl k ↦ inr k | inr f ↦ absurd f ]))); once = subst Once (sym (append-nil t.numbers)) o.numbers.once };
}

more_there : (a b : ℕ) → a < b → (a + 1 == b) ≡ false → a + 1 < b
more_there a b lt e = grind (arith, nat_tests)

pub all_there : (a b : ℕ) → (a == b) ≡ true → a ≡ b
all_there a b e = grind (arith, nat_tests)

-- ---- a write

module _ (w : Plain) (good : Good w) (n : ℕ) (s : NodeState) (at : node_at w.nodes n ≡ Some s) (x : Cmd) (cmd : s.cmd ≡ Some x) (free : waits_at w.locks n s.asked ≡ false) (no_plan : s.plan ≡ None)
    (granted : waits_at w.locks n s.claims ≡ false) (claims : s.claims ≡ (V, PW) ∷ []) (needs : NeedsSpace x s.seen) (v : PlanWrite) (next : slice_get s.run.writes s.run.made ≡ Some v) where
  abbrev cat : Cat
  cat = good.running.cat

  abbrev g : Geometry
  g = s.seen.geometry

  abbrev u : UnderWay
  u = at_locks n s x (held_by w.locks n s)

  abbrev under : IsUnder g cat (nodes_under w.locks w.nodes) w.blocks
  under = drive w good n s at x cmd free

  now : IsAt w n s x
  now = under_command w good n s at x cmd free

  abbrev ws : List PlanWrite
  ws = s.run.writes

  abbrev t : ℕ
  t = s.run.made

  abbrev left : List (ℕ × Block)
  left = looked_now s.run

  abbrev rest : List (ℕ × Block)
  rest = unwritten (take (t + 1) ws) s.run.looked ++ s.seen.blocks

  -- the node as the write leaves it, in this phase, where it is the last or not
  abbrev grabbed : Phase → Bool → NodeState
  grabbed p last = turned (record s { seen = given_by p last v s.seen; stock = stocked_by p last g v s.stock; run = record s.run { made = t + 1; ready = ready_left p last s.run.ready }; writes = one_more s.writes; cache = cache_written w s v })

  abbrev written : List Block
  written = slice_set w.blocks v.lbn v.block

  abbrev GoodWith : NodeState → Type 0
  GoodWith r = Good (altered w w.locks written (set_node w.nodes n r) w.history)

  none : u.took ≡ nothing
  none = λ i. things (needs.none.clusters i) (needs.none.number i)

  holds : Has (held_in PW (held_by w.locks n s)) V
  holds = is_in_held PW (held_by w.locks n s) V (record { in_mode = PW; has = claims_held w.locks n s (V, PW) granted (subst (λ (ls : Row). Has ls (V, PW)) (sym claims) (inl refl)); strong = omega arith })

  module _ (old : Block) (among : Has s.run.looked (v.lbn, old)) (once : Once (map (λ w. w.lbn) ws)) (bitmap : IsBitmap g v.lbn) where
    seen_it : Has u.seen (v.lbn, old)
    seen_it = has_first left s.seen.blocks (v.lbn, old) (is_left (take t ws) s.run.looked (v.lbn, old) among (once_at ws t v once next))

    look : MayLook (held_in PR (held_by w.locks n s)) (guard_of g under.own v.lbn)
    look = guards_now w good n s at x cmd free v.lbn (touches_its u.seen (v.lbn, old) seen_it)

    pub stood : slice_get under.base v.lbn ≡ Some old
    stood = stands_its under.base u.seen v.lbn old (seen_now w good n s at x cmd free) seen_it

    there_now : slice_get w.blocks v.lbn ≡ Some old
    there_now = is_committed g cat (nodes_under w.locks w.nodes) w.blocks n u (here w good n s at x cmd free) under (my_sole w good n s at x cmd free) (no_writes_now w good n s at x cmd free no_plan) v.lbn look ∙ stood

    some_left : (y : ℕ × Block) → Has rest y → Has u.seen y
    some_left y k = elim (has_parted (unwritten (take (t + 1) ws) s.run.looked) s.seen.blocks y k) [
      | inl m ↦ has_first left s.seen.blocks y (less_left ws t v s.run.looked y next m).0
      | inr m ↦ has_second left s.seen.blocks y m
    ]

    untouched : Touches rest v.lbn → ⊥
    untouched k = elim ((touches_joined (unwritten (take (t + 1) ws) s.run.looked) s.seen.blocks v.lbn).0 k) [
      | inl m ↦ not_left ws t v s.run.looked next m
      | inr m ↦ needs.apart v.lbn m bitmap
    ]

    written_so : (r : NodeState) → v.lock ≡ V → r.cache ≡ cache_written w s v → hold_writes r ≡ take (t + 1) ws ++ take s.done (writes_now s.tried s.plan) → rows_of r ≡ rows_of s → AsksAlike (granted_ask s.tried s.plan) (granted_ask r.tried r.plan) → r.opens ≡ s.opens → OwesLess s r → IsStocked r → (know : Cat → Bool) (mid took stock : Things)
        → (slice_get under.base v.lbn ≡ Some old → Refills g n u.took mid v.lbn v.block under.base under.own cat)
        → ((own : Owners) → Outs n own u.took mid → Outs n own took stock)
        → record u { seen = rest; knows = know; took = took; stock = stock } ≡ under_with w.locks n r r.cmd → IsNode (altered w w.locks written (set_node w.nodes n r) w.history) n r
        → GoodWith r
    written_so r lock cache_is wrote same asks opens owes stocked know mid took stock refill goes_to there node =
        let drive_now = grabs g cat (nodes_under w.locks w.nodes) w.blocks n u (here w good n s at x cmd free) under (my_sole w good n s at x cmd free) (no_writes_now w good n s at x cmd free no_plan) (not_yet w good n s at x cmd free no_plan)
        v.lbn old v.block rest mid bitmap holds untouched
        (part_stands under.base u.seen rest some_left (seen_now w good n s at x cmd free))
        (λ k m. guards_now w good n s at x cmd free k (part_touches u.seen rest some_left k m)) there_now refill know took stock goes_to in
        let at_geometry : IsUnderOn w.geometry cat (slice_set good.running.drive.base v.lbn v.block) drive_now.new (changed (nodes_under w.locks w.nodes) n (record u { seen = rest; knows = know; took = took; stock = stock })) written
        = subst (λ (h : Geometry). IsUnderOn h cat (slice_set good.running.drive.base v.lbn v.block) drive_now.new (changed (nodes_under w.locks w.nodes) n (record u { seen = rest; knows = know; took = took; stock = stock })) written) (me w good n s at x cmd free).geometry drive_now.under in
        let blank : AreBlank w.geometry (slice_set good.running.drive.base v.lbn v.block) drive_now.new
        = bits_blank w.geometry n good.running.drive.base good.running.drive.own drive_now.new cat v.lbn v.block good.running.drive.spelt (subst (λ (h : Geometry). IsBitmap h v.lbn) (me w good n s at x cmd free).geometry bitmap) drive_now.moves good.running.blank in
        let ys : List PlanWrite = take s.done (writes_now s.tried s.plan) in
        let it : IsWriteOf w n s r good.running.drive.own v = record {
          at = at;
          rows = same;
          more = λ y h. subst (λ (zs : List PlanWrite). Has zs y) (sym wrote) (more_before ws ys t y h);
          only = λ y h. only_before ws ys t v y next (subst (λ (zs : List PlanWrite). Has zs y) wrote h);
          made = subst (λ (zs : List PlanWrite). Has zs v) (sym wrote) (made_before ws ys t v next);
          holds = subst (Has (held_in PW (held_by w.locks n s))) (sym lock) holds;
          within = slice_get_within w.blocks v.lbn old there_now;
          guards = inl (bitmap_guard w.geometry good.running.drive.own v.lbn (subst (λ (h : Geometry). IsBitmap h v.lbn) (me w good n s at x cmd free).geometry bitmap) ∙ ap (λ (y : LockName). Some (Lock y)) (sym lock));
          goes_on = goes_higher w good v.lock v.lbn;
          cache = cache_is;
        } in
        let stays : (name : LockName) (l : ℕ) → guard_of w.geometry good.running.drive.own l ≡ Some (Lock name) → IsCacheable w.geometry good.running.drive.own cat l → (guard_of w.geometry drive_now.new l ≡ Some (Lock name)) × IsCacheable w.geometry drive_now.new cat l
        = λ name l a k. let z = spaces_stay w.geometry n good.running.drive.own drive_now.new cat cat name l drive_now.moves refl (record { guard = a; kind = k }) in (z.guard, z.kind) in
        rebuilt w good n s r at w.locks written w.history
        (still_driven w good n s r at w.locks written asks opens (slice_set good.running.drive.base v.lbn v.block) drive_now.new blank
        (under_now w.geometry cat (slice_set good.running.drive.base v.lbn v.block) drive_now.new w.locks w.locks w.nodes n s r written at (λ m q ne e. refl)
        (subst (λ (k : UnderWay). IsUnderOn w.geometry cat (slice_set good.running.drive.base v.lbn v.block) drive_now.new (changed (nodes_under w.locks w.nodes) n k) written) there at_geometry))
        good.running.opens
        (put_cached w (my_sole w good n s at x cmd free) good.writers n s r good.running.drive.own drive_now.new cat cat v it stays good.running.cached))
        (good.locked.0, held_same w.locks w.nodes n s r at same good.locked.1) good.own (small_set w good.small n s r at written owes) (good.few n) (λ m ne. refl) (λ m q ne e. loses_nothing w.locks m q) stocked
        (put_writes w (my_sole w good n s at x cmd free) good.writers n s r good.running.drive.own drive_now.new cat cat v it stays) node

  -- X is held in CR or more
  stocked_by_x : (r : NodeState) (m : Mode) → r.kept ≡ s.kept → Has s.kept (X, m) → rank CR ≤ rank m → (HasFewNumbers s → HasFewNumbers r) → IsStocked r
  stocked_by_x r m same h le few = record {
    holds = inr (subst (λ (ls : Row). Has (held_in CR ls) X) (sym same) (is_in_held CR s.kept X (record { in_mode = m; has = h; strong = le })));
    few = few (stocked_now w good n s at x cmd free).few;
  }

  -- what it keeps, as the write leaves it
  store_so : (p : Phase) (locks : Row) (es : List Cached) → v.lock ≡ V → p ≡ s.run.phase → locks ≡ s.kept → es ≡ cache_written w s v → HasStore p locks es
  store_so p locks es lock ph kept cache = subst (λ (q : Phase). HasStore q locks es) (sym ph) (subst (λ (ls : Row). HasStore s.run.phase ls es) (sym kept) (subst (HasStore s.run.phase s.kept) (sym cache)
      (rewritten_store w v s.run.phase s.kept s.cache (ap guards_blocks lock) (me w good n s at x cmd free).store)))

  -- where the command was given nothing, its node is as it was but for its stock and its run
  node_so : (r : NodeState) → v.lock ≡ V → r.seen ≡ s.seen → r.asked ≡ s.asked → r.kept ≡ s.kept → r.plan ≡ s.plan → r.done ≡ s.done → r.cmd ≡ s.cmd → r.past ≡ s.past → r.opens ≡ s.opens → r.cache ≡ cache_written w s v → r.over ≡ s.over → r.run.phase ≡ s.run.phase
      → Rules x r.kept r.claims r.run r.stock r.seen → IsNode (altered w w.locks written (set_node w.nodes n r) w.history) n r
  node_so r lock seen asked kept plan done same past opens cache over ph rules =
      is_node w good n s at x cmd free w.locks written r (λ i. record { past = past i; opens = opens i; over = over i }) (ap (λ (k : Seen). k.geometry) seen) (ap (λ (k : Seen). k.channel) seen) same
      (store_so r.run.phase r.kept r.cache lock ph kept cache)
      (ap (waits_at w.locks n) kept ∙ (me w good n s at x cmd free).rests)
      (subst (HasSeen x) (sym seen) now.seen) (subst (λ (k : Seen). (name : LockName) → Has (names_of k.locks) name → takes_lock x name ≡ true) (sym seen) now.own)
      (plan_stays w good n s at x cmd free w.locks r no_plan plan done)
      (asks_then w good n s at x cmd free r no_plan plan (asked ∙ asks_now w good n s at x cmd free no_plan ∙ ap (λ (k : Seen). k.locks) (sym seen)))
      (Busy x refl rules)
      (λ e. absurd (let f : true ≡ false = sym e ∙ ap (waits_at w.locks n) asked ∙ free in cc))

  -- ---- while the stock is filled

  module _ (h : FillWrites x s.kept s.claims s.run s.stock s.seen) where
    abbrev lacks : Bool
    lacks = lacks_by x s.seen s.stock

    abbrev bs : List Block
    bs = blocks_alone s.run.looked

    filling : Fillings g (looked g 1 lacks bs) (taken_before ws t) v
    filling = writes_fill g (wanted_by x s.seen) (length s.stock.clusters) lacks bs ws t v under.spelt.counts.geometry h.enough next

    abbrev mid : Things
    mid = together (things_in s.stock) (things_of v.clusters v.numbers)

    stock_is : u.stock ≡ together (things_in s.stock) (taken_before ws t)
    stock_is = ap (together (things_in s.stock)) (part_taken s.run.phase ws t h.part ∙ ap (λ p. taken_in p ws t) h.filling.fill)

    refill : (base : List Block) (own : Owners) → Spells g base own cat → Outs n own u.took u.stock → slice_get base v.lbn ≡ Some filling.old → IsBitmap g v.lbn × Refills g n u.took mid v.lbn v.block base own cat
    refill base own spelt outs stands = fillings_refill g (looked g 1 lacks bs) (taken_before ws t) v filling n u.took (things_in s.stock) base own cat spelt (subst (λ (k : Things). Outs n own u.took k) stock_is outs) stands

    among : Has s.run.looked (v.lbn, filling.old)
    among = subst (λ (ss : List (ℕ × Block)). Has ss (v.lbn, filling.old)) (sym h.filling.in_order) filling.among

    once : Once (map (λ w. w.lbn) ws)
    once = fill_once g (wanted_by x s.seen) (length s.stock.clusters) lacks bs ws under.base under.own cat h.enough under.spelt

    stands_old : slice_get under.base v.lbn ≡ Some filling.old
    stands_old = stands_its under.base u.seen v.lbn filling.old (seen_now w good n s at x cmd free) (has_first left s.seen.blocks (v.lbn, filling.old) (is_left (take t ws) s.run.looked (v.lbn, filling.old) among (once_at ws t v once next)))

    refilled : IsBitmap g v.lbn × Refills g n u.took mid v.lbn v.block under.base under.own cat
    refilled = refill under.base under.own under.spelt (outs_now w good n s at x cmd free) stands_old

    filled_so : (last : Bool) → (t + 1 == length ws) ≡ last → GoodWith (grabbed phase.Fill last)
    filled_so false e =
        let r : NodeState = grabbed phase.Fill false in
        let part : t + 1 < length ws = more_there t (length ws) h.part e in
        let stock_then : stock_now s.stock r.run ≡ mid = ap (together (things_in s.stock)) (part_taken s.run.phase ws (t + 1) part ∙ ap (λ p. taken_in p ws (t + 1)) h.filling.fill ∙ taken_next ws t v next) in
        let there : record u { seen = rest; stock = mid } ≡ under_with w.locks n r s.cmd
        = (λ i. record (at_locks n r x (held_by w.locks n s)) { stock = sym stock_then i }) ∙ ap (under_with w.locks n r) (sym cmd) in
        written_so filling.old among once refilled.0 r filling.lock refl refl refl (λ part o low. refl) refl (owes_same s r refl refl) (stocked_by_x r CR refl h.filling.shared (omega arith) (few_stays s r refl refl refl)) (knows_now n x s.seen s.tried s.plan) mid u.took mid
        (λ stands. (refill under.base under.own under.spelt (outs_now w good n s at x cmd free) stands).1) (λ own o. o) there
        (node_so r filling.lock refl refl refl refl refl refl refl refl refl refl refl
        (Grabs (record { filling = record { fill = h.filling.fill; shared = h.filling.shared; claims = h.filling.claims; needs = h.filling.needs; in_order = h.filling.in_order }; enough = h.enough; part = part })))
    filled_so true e =
        let r : NodeState = grabbed phase.Fill true in
        let all : t + 1 ≡ length ws = all_there (t + 1) (length ws) e in
        let stock_then : stock_now r.stock r.run ≡ together (things_in (filled_by v s.stock)) nothing = ap (together (things_in (filled_by v s.stock))) (all_taken s.run.phase ws (t + 1) all) in
        let left_then : Things = together (things_in (filled_by v s.stock)) nothing in
        let there : record u { seen = rest; stock = left_then } ≡ under_with w.locks n r s.cmd
        = (λ i. record (at_locks n r x (held_by w.locks n s)) { stock = sym stock_then i }) ∙ ap (under_with w.locks n r) (sym cmd) in
        let its = is_once n refilled.1.new v s.stock (subst (λ (k : Things). Outs n refilled.1.new k mid) none refilled.1.outs) in
        written_so filling.old among once refilled.0 r filling.lock refl refl refl (λ part o low. refl) refl (owes_same s r refl refl) (stocked_by_x r CR refl h.filling.shared (omega arith) (few_filled s r x cmd g (wanted_by x s.seen) (length s.stock.clusters) bs ws v h.enough (get_has ws t v next) its.numbers refl refl refl h.filling.needs.next)) (knows_now n x s.seen s.tried s.plan) mid u.took left_then
        (λ stands. (refill under.base under.own under.spelt (outs_now w good n s at x cmd free) stands).1)
        (λ own o. subst (λ (k : Things). Outs n own k left_then) (sym none) (in_stock n own v s.stock (subst (λ (k : Things). Outs n own k mid) none o))) there
        (node_so r filling.lock refl refl refl refl refl refl refl refl refl refl refl
        (Filled (record {
          fill = h.filling.fill;
          shared = h.filling.shared;
          claims = h.filling.claims;
          needs = h.filling.needs;
          all = all;
          locks = fill_under g (wanted_by x s.seen) (length s.stock.clusters) lacks bs ws under.spelt.counts.geometry h.enough;
          enough = filled_enough g (wanted_by x s.seen) (numbered_by x s.seen) s.stock bs v (fill_last g (wanted_by x s.seen) (length s.stock.clusters) lacks bs ws t v h.enough next all) its.clusters its.numbers;
        })))

    pub fill_write_keeps : GoodWith (turned (caching (cache_written w s v) (space_writing s v)))
    fill_write_keeps = subst (λ (p : Phase). GoodWith (grabbed p (is_last s.run))) (sym h.filling.fill) (filled_so (is_last s.run) refl)

  -- ---- while it goes back

  module _ (h : IsDraining x s.kept s.claims s.run s.stock s.seen) (goes_back : IsWritingBack g s.stock s.run) where
    stock_so : u.stock ≡ things_in s.stock
    stock_so = ap (together (things_in s.stock)) (back_taken s.run.phase ws t (inl h.drain)) ∙ with_nothing (things_in s.stock)

    -- the slots of numbers outside are free
    blank_now : AreBlank g under.base under.own
    blank_now = subst (λ (h : Geometry). AreBlank h good.running.drive.base good.running.drive.own) (sym (me w good n s at x cmd free).geometry) good.running.blank

    abbrev r : Bool → NodeState
    r last = grabbed phase.Drain last

    by_last : (last : Bool) → GoodWith (r last)
    by_last last =
        let b : IsBackWrite g n u.took cat s.stock s.run (r last).run v
        = back_write g n u.took cat s.stock s.run (r last).run v under.base under.own under.spelt (subst (λ (k : Things). Outs n under.own u.took k) stock_so (outs_now w good n s at x cmd free)) goes_back next refl refl refl in
        let left_then : Things = things_in (left_by g v.lbn s.stock) in
        let stock_then : stock_now (r last).stock (r last).run ≡ left_then = ap (together left_then) (back_taken s.run.phase ws (t + 1) (inl h.drain)) ∙ with_nothing left_then in
        let there : record u { seen = rest; stock = left_then } ≡ under_with w.locks n (r last) s.cmd
        = (λ i. record (at_locks n (r last) x (held_by w.locks n s)) { stock = sym stock_then i }) ∙ ap (under_with w.locks n (r last)) (sym cmd) in
        written_so b.old b.among goes_back.once b.bitmap (r last) b.lock refl refl refl (λ part o low. refl) refl (owes_same s (r last) refl refl) (stocked_by_x (r last) CR refl h.shared (omega arith) (few_left s (r last) g v.lbn refl refl refl)) (knows_now n x s.seen s.tried s.plan) left_then u.took left_then
        (λ stands. b.refill under.base under.own under.spelt blank_now (subst (λ (k : Things). Outs n under.own u.took k) stock_so (outs_now w good n s at x cmd free)) stands) (λ own o. o) there
        (node_so (r last) b.lock refl refl refl refl refl refl refl refl refl refl refl
        (Drains (record { drain = h.drain; shared = h.shared; claims = h.claims; needs = h.needs; goes = b.goes })))

    pub drain_write_keeps : GoodWith (turned (caching (cache_written w s v) (space_writing s v)))
    drain_write_keeps = subst (λ (p : Phase). GoodWith (grabbed p (is_last s.run))) (sym h.drain) (by_last (is_last s.run))

  -- ---- while all free space is searched

  module _ (h : IsTaking x s.kept s.claims s.run s.stock s.seen) where
    abbrev seen_bs : List Block
    seen_bs = blocks_alone s.run.looked

    abbrev order : List (ℕ × Block)
    order = looked g (wanted_by x s.seen) (numbered_by x s.seen) seen_bs

    taking : Takes g order (out_after ws t) v
    taking = writes_take g (wanted_by x s.seen) (numbered_by x s.seen) seen_bs ws t v under.spelt.counts.geometry h.found.enough next

    abbrev gets : Things
    gets = things v.clusters v.number

    in_last : (k : ℕ) → k < length ws → stock_now s.stock (record s.run { made = k }) ≡ things_held (out_after ws k)
    in_last k lt = λ i. together (things_in (h.found.claimed_so.empty i)) ((part_taken s.run.phase ws k lt ∙ ap (λ p. taken_in p ws k) h.found.claimed_so.last) i)

    refill_last : (base : List Block) (own : Owners) → Spells g base own cat → Outs n own u.took u.stock → slice_get base v.lbn ≡ Some taking.old → IsBitmap g v.lbn × Refills g n u.took gets v.lbn v.block base own cat
    refill_last base own spelt outs stands = takings_refill g order (out_after ws t) v taking n u.took base own cat spelt (subst (λ (k : Things). Outs n own u.took k) (in_last t h.part) outs) stands

    among_last : Has s.run.looked (v.lbn, taking.old)
    among_last = subst (λ (ss : List (ℕ × Block)). Has ss (v.lbn, taking.old)) (sym h.found.claimed_so.in_order) taking.among

    once_last : Once (map (λ w. w.lbn) ws)
    once_last = writes_apart g (wanted_by x s.seen) (numbered_by x s.seen) seen_bs ws under.base under.own cat h.found.enough under.spelt

    stands_last : slice_get under.base v.lbn ≡ Some taking.old
    stands_last = stands_its under.base u.seen v.lbn taking.old (seen_now w good n s at x cmd free) (has_first left s.seen.blocks (v.lbn, taking.old) (is_left (take t ws) s.run.looked (v.lbn, taking.old) among_last (once_at ws t v once_last next)))

    bitmap : IsBitmap g v.lbn
    bitmap = (refill_last under.base under.own under.spelt (outs_now w good n s at x cmd free) stands_last).0

    out_now : out_after ws (t + 1) ≡ holding v.clusters v.number
    out_now = out_next ws t v next

    claimed_on : (run : SpaceRun) (seen : Seen) → run.phase ≡ s.run.phase → run.looked ≡ s.run.looked → seen.geometry ≡ s.seen.geometry → seen.locks ≡ s.seen.locks → seen.blocks ≡ s.seen.blocks → HasClaimed x s.kept s.claims run s.stock seen
    claimed_on run seen ph looks geometry locks blocks =
        let c = h.found.claimed_so in
        record {
          last = ph ∙ c.last;
          alone = c.alone;
          claims = c.claims;
          empty = c.empty;
          come = record { takes = c.come.takes; before = c.come.before; after = c.come.after; locks = locks ∙ c.come.locks; blocks = subst (λ (bs : List (ℕ × Block)). 0 < length bs) (sym blocks) c.come.blocks; quota = c.come.quota; behind = λ l k. absurd (no_number s.seen.number h.needs.none.number l.0 (c.come.behind l k)) };
          in_order = looks ∙ c.in_order ∙ (λ i. looked (sym geometry i) (clusters_wanted (sym geometry i).cluster x) (sym (wants_alike x seen s.seen geometry blocks) i) (blocks_alone (sym looks i)));
        }

    taken_so : (last : Bool) → (t + 1 == length ws) ≡ last → GoodWith (grabbed phase.Last last)
    taken_so false e =
        let r : NodeState = grabbed phase.Last false in
        let part : t + 1 < length ws = more_there t (length ws) h.part e in
        let stock_then : stock_now s.stock r.run ≡ gets = in_last (t + 1) part ∙ ap things_held out_now in
        let there : record u { seen = rest; stock = gets } ≡ under_with w.locks n r s.cmd
        = (λ i. record (at_locks n r x (held_by w.locks n s)) { stock = sym stock_then i }) ∙ ap (under_with w.locks n r) (sym cmd) in
        written_so taking.old among_last once_last bitmap r taking.lock refl refl refl (λ part o low. refl) refl (owes_same s r refl refl) (stocked_by_x r EX refl h.found.claimed_so.alone (omega arith) (few_stays s r refl refl refl)) (knows_now n x s.seen s.tried s.plan) gets u.took gets
        (λ stands. (refill_last under.base under.own under.spelt (outs_now w good n s at x cmd free) stands).1) (λ own o. o) there
        (node_so r taking.lock refl refl refl refl refl refl refl refl refl refl refl
        (Taking (record { found = record { claimed_so = claimed_on r.run s.seen refl refl refl refl refl; enough = h.found.enough; above = h.found.above }; needs = h.needs; part = part; ready = h.ready })))
    taken_so true e =
        let r : NodeState = grabbed phase.Last true in
        let all : t + 1 ≡ length ws = all_there (t + 1) (length ws) e in
        let out_last : out_after ws (length ws) ≡ holding v.clusters v.number = ap (out_after ws) (sym all) ∙ out_now in
        let stock_then : stock_now s.stock r.run ≡ nothing = λ i. together (things_in (h.found.claimed_so.empty i)) (all_taken s.run.phase ws (t + 1) all i) in
        let there : record u { seen = rest; knows = knows_now n x r.seen s.tried s.plan; took = gets; stock = nothing } ≡ under_with w.locks n r s.cmd
        = (λ i. record (at_locks n r x (held_by w.locks n s)) { stock = sym stock_then i }) ∙ ap (under_with w.locks n r) (sym cmd) in
        let all_so = takes_all g (wanted_by x s.seen) (numbered_by x s.seen) seen_bs ws h.found.enough in
        let count : length v.clusters ≡ wanted_by x s.seen = ap (λ (k : Held). length k.clusters) (sym out_last) ∙ all_so.clusters in
        let numbered : has_number (numbered_by x s.seen) v.number ≡ true = number_there (numbered_by x s.seen) v.number (ap (λ (k : Held). is_some k.number) (sym out_last) ∙ all_so.number) in
        written_so taking.old among_last once_last bitmap r taking.lock refl refl refl (λ part o low. refl) refl (owes_same s r refl refl) (stocked_by_x r EX refl h.found.claimed_so.alone (omega arith) (λ f. few_none r h.found.claimed_so.empty)) (knows_now n x r.seen s.tried s.plan) gets gets nothing
        (λ stands. (refill_last under.base under.own under.spelt (outs_now w good n s at x cmd free) stands).1) (λ own o. out_taken n own gets (subst (λ (k : Things). Outs n own k gets) none o)) there
        (is_node w good n s at x cmd free w.locks written r refl refl refl refl (store_so r.run.phase r.kept r.cache taking.lock refl refl refl) (me w good n s at x cmd free).rests
        ((goes w good n s at x cmd free).given s.seen (wanted_by x s.seen) (numbered_by x s.seen) v.clusters v.number now.seen h.needs.next count numbered) now.own (plan_stays w good n s at x cmd free w.locks r no_plan refl refl)
        (asks_then w good n s at x cmd free r no_plan refl (asks_now w good n s at x cmd free no_plan))
        (Busy x refl (Taken (record {
          found = record { claimed_so = claimed_on r.run r.seen refl refl refl refl refl; enough = ap (λ b. found g (wanted_by x s.seen) b seen_bs) (wants_alike x r.seen s.seen refl refl) ∙ h.found.enough; above = h.found.above };
          all = all;
          clusters = ap (λ (k : Held). k.clusters) (sym out_last);
          number = ap (λ (k : Held). k.number) (sym out_last);
          short = refl;
        }))) (no_wait w good n s at x cmd free r.seen))

    pub last_write_keeps : GoodWith (turned (caching (cache_written w s v) (space_writing s v)))
    last_write_keeps = subst (λ (p : Phase). GoodWith (grabbed p (is_last s.run))) (sym h.found.claimed_so.last) (taken_so (is_last s.run) refl)
