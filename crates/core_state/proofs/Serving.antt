-- A command that needs space: what it needs, and how it is given it from its node's stock.
use Rattle.std.proofs.Common.{◌≡◌, ◌≤◌, ◌+◌, ◌++◌, ◌&&◌, ◌||◌, ◌⊎◌, ◌==◌, not, ℕ, zero, suc, Bool, true, false, cond, List, [], ◌∷◌, Option, Some, None, is_some, length, take, drop, slice_get, nat_le, nat_lt, refl, sym, ap, subst, ◌∙◌, inl, inr, arith}
use Rattle.std.specs.Prelude.{◌-◌}
use Rattle.std.proofs.lemmas.Bool.{and_parts}
use Rattle.std.proofs.lemmas.Bool.Decides.{nat_tests}
use Rattle.std.proofs.lemmas.List.{append-nil}
use Rattle.lock_db.specs.declared.name.LockName.{LockName}
use Rattle.lock_db.specs.declared.name.LockName.TheVariants.{S, A, Q, X, V}
use Rattle.plain_cat.specs.Modes.{rank}
use Rattle.plain_cat.specs.declared.mode.Mode.{Mode}
use Rattle.plain_cat.specs.declared.mode.Mode.TheVariants.{NL, CR, PR, PW}
use Rattle.plain_cat.specs.declared.command.Cmd.{Cmd}
use Rattle.plain_cat.specs.declared.cat.Cat.{Cat}
use Rattle.plain_rules.specs.Lookups.{is_free_number}
use Rattle.node_locks.specs.Held.{Row, names_of, waits_at}
use Rattle.base_words.specs.Lists.{Has, Once}
use Rattle.vol_spell.specs.Owners.{Things, nothing, AreOut, Outs}
use Rattle.vol_spell.specs.declared.owner.Owner.{Owner}
use Rattle.base_words.proofs.ListWrites.{touches_joined}
use Rattle.base_words.proofs.Listing.{has_parted}
use Rattle.vol_under.specs.Guards.{guard_of, MayLook}
use Rattle.vol_under.specs.UnderWay.{UnderWay, together, changed}
use Rattle.vol_under.specs.Under.{IsUnder}
use Rattle.core_state.specs.Committed.{IsUnderOn}
use Rattle.vol_under.proofs.Guarding.{bitmap_guard}
use Rattle.vol_under.proofs.Leaking.{number_free}
use Rattle.vol_under.proofs.Short.{out_alike}
use Rattle.op_law.specs.declared.need.Need.TheVariants as need
use Rattle.op_law.specs.declared.seen.Seen.{Seen}
use Rattle.op_law.specs.Events.{space_of, has_number, has_space}
use Rattle.op_law.specs.Needs.{IsNext}
use Rattle.op_law.specs.Fits.{things}
use Rattle.op_law.specs.Knows.{is_new_number}
use Rattle.op_law.specs.Laws.{held_in, takes_lock}
use Rattle.extent_cache.specs.Takings.{holds_enough, numbers_left}
use Rattle.core_space.specs.Laws.{places_of}
use Rattle.core_space.specs.declared.run.Phase.{Phase}
use Rattle.core_space.specs.declared.run.Phase.TheVariants as phase
use Rattle.core_space.specs.declared.run.SpaceRun.{SpaceRun}
use Rattle.core_space.specs.Rule.{no_run}
use Rattle.core_state.specs.Worlds.{Stock, NodeState, Plain, node_at, with_node, rows_of}
use Rattle.core_state.specs.Asks.{is_claiming}
use Rattle.core_state.specs.Small.{lent, owed_in, owed}
use Rattle.core_state.specs.Stocks.{roomless, taken_now, stock_now, looked_now}
use Rattle.core_state.specs.Searches.{begun_run, wanted_by, numbered_by, IsOfNumber, NeedsSpace, Rules, Served, Given, Shared, Fills, Grabs, Filled, Drains, Alone, Looking, Taking, Taken, Refused, Spaces, Busy}
use Rattle.core_state.specs.Stores.{IsKeptLow, HasNothing, IsStocked}
use Rattle.core_state.specs.Goods.{under_with, nodes_under, IsAt, Good, held_by}
use Rattle.core_state.specs.Events.{may_serve, serves, serving}
use Rattle.core_state.proofs.StockSizes.{few_served}
use Rattle.core_state.proofs.Holding.{in_held_is, named_there}
use Rattle.core_state.proofs.Naming.{none_of}
use Rattle.core_state.proofs.Running.{held_among, at_locks}
use Rattle.core_state.proofs.Taking.{becomes}
use Rattle.core_state.proofs.SmallWorlds.{OwesLess, owed_busy}
use Rattle.core_state.proofs.Beginning.{alone}
use Rattle.core_state.proofs.Wants.{wants_alike, search_behind}
use Rattle.core_state.proofs.Standing.{calm, none_taken}
use Rattle.core_state.proofs.Turning.{under_command, here, drive, back, outs_now, seen_now, guards_now, space_now, stocked_now, is_node, goes, may_need, not_yet, plan_stays, asks_now, asks_then, no_wait, no_writes_now, me}

-- ---- lists

split_is : (k : ℕ) (cs : List ℕ) → take k cs ++ (drop k cs ++ []) ≡ cs ++ []
split_is zero cs = refl
split_is (suc k) [] = refl
split_is (suc k) (c ∷ cs) = ap (λ ds. c ∷ ds) (split_is k cs)

pub length_taken : (k : ℕ) (cs : List ℕ) → k ≤ length cs → length (take k cs) ≡ k
length_taken zero cs le = refl
length_taken (suc k) [] le = absurd (omega arith)
length_taken (suc k) (c ∷ cs) le = ap suc (length_taken k cs (omega arith))

numbers_split : (b : Bool) (ns : List ℕ) → (things [] (cond b (slice_get ns 0) None)).numbers ++ (places_of (numbers_left b ns) ++ []) ≡ places_of ns ++ []
numbers_split true [] = refl
numbers_split true (n ∷ ns) = refl
numbers_split false ns = refl

numbers_of_things : (cs : List ℕ) (o : Option ℕ) → (things cs o).numbers ≡ (things [] o).numbers
numbers_of_things cs None = refl
numbers_of_things cs (Some n) = refl

clusters_of_things : (cs : List ℕ) (o : Option ℕ) → (things cs o).clusters ≡ cs
clusters_of_things cs None = refl
clusters_of_things cs (Some n) = refl

some_number : (b : Bool) (ns : List ℕ) → (not b || nat_lt 0 (length ns)) ≡ true → has_number b (cond b (slice_get ns 0) None) ≡ true
some_number true [] e = absurd (let f : false ≡ true = e in cc)
some_number true (n ∷ ns) e = refl
some_number false ns e = refl

-- what was all stock is part given and part stock
out_split : (n : ℕ) (xs : List Owner) (all took left : List ℕ) → took ++ left ≡ all → AreOut n xs [] all → AreOut n xs took left
out_split n xs all took left e out = out_alike n xs [] all took left (subst Once (sym e) out.once) (λ q. (subst (λ (ks : List ℕ). Has ks q) (sym e), subst (λ (ks : List ℕ). Has ks q) e)) out

-- while no number is given, no lock is that of its file
pub no_number : (number : Option ℕ) → number ≡ None → (name : LockName) → IsOfNumber number name → ⊥
no_number number none (S k) is = absurd (let f : Some k ≡ None = sym is ∙ none in cc)
no_number number none (A k) is = is
no_number number none Q is = is
no_number number none X is = is
no_number number none V is = is

-- ---- how a node may serve

-- no lock of free space is claimed, and a rule is not begun or the stock is filled
pub record MayServe (p : Phase) (claims : Row) : Type 0 where
  pub in_phase : (p ≡ phase.Off) ⊎ (p ≡ phase.Fill)
  pub none : claims ≡ []

not_claiming : (claims : Row) → not (is_claiming claims) ≡ true → claims ≡ []
not_claiming [] e = refl
not_claiming (l ∷ ls) e = absurd (let f : false ≡ true = e in cc)

pub may_serve_is : (p : Phase) (claims : Row) → may_serve p (is_claiming claims) ≡ true → MayServe p claims
may_serve_is phase.Off claims e = record { in_phase = inl refl; none = not_claiming claims e }
may_serve_is phase.Fill claims e = record { in_phase = inr refl; none = not_claiming claims e }
may_serve_is phase.Drain claims e = absurd (let f : false ≡ true = e in cc)
may_serve_is phase.Last claims e = absurd (let f : false ≡ true = e in cc)
may_serve_is phase.Back claims e = absurd (let f : false ≡ true = e in cc)

pub not_back : (p : Phase) → (p ≡ phase.Off) ⊎ (p ≡ phase.Fill) → p ≡ phase.Back → ⊥
not_back p (inl e) f = absurd (let g : phase.Off ≡ phase.Back = sym e ∙ f in cc)
not_back p (inr e) f = absurd (let g : phase.Fill ≡ phase.Back = sym e ∙ f in cc)

no_one : (ls : Row) (l : LockName × Mode) → ls ≡ [] → ls ≡ l ∷ [] → ⊥
no_one ls l e f = none_of ls l e (subst (λ (ks : Row). Has ks l) (sym f) (inl refl))

-- such a node has looked at nothing by its rules
pub at_no_rule : (x : Cmd) (kept claims : Row) (run : SpaceRun) (stock : Stock) (seen : Seen) → MayServe run.phase claims → Spaces (Some x) kept claims run stock seen → run ≡ begun_run run.phase
at_no_rule x kept claims run stock seen may stands = elim (calm x kept claims run stock seen (not_back run.phase may.in_phase) stands) [ inl off ↦ off_run off.run | inr r ↦ by_rules r ] where
  off_run : run ≡ no_run → run ≡ begun_run run.phase
  off_run e = e ∙ ap begun_run (ap (λ (h : SpaceRun). h.phase) (sym e))

  begun_so : (p : Phase) → run ≡ begun_run p → run ≡ begun_run run.phase
  begun_so p e = e ∙ ap begun_run (ap (λ (h : SpaceRun). h.phase) (sym e))

  by_rules : Rules x kept claims run stock seen → run ≡ begun_run run.phase
  by_rules (Served h) = begun_so phase.Fill h.run
  by_rules (Given h) = begun_so phase.Fill h.run
  by_rules (Shared h) = absurd (no_one claims (X, CR) may.none h.claims)
  by_rules (Fills h) = absurd (no_one claims (V, PW) may.none h.filling.claims)
  by_rules (Grabs h) = absurd (no_one claims (V, PW) may.none h.filling.claims)
  by_rules (Filled h) = absurd (no_one claims (V, PW) may.none h.claims)
  by_rules (Drains h) = absurd (no_one claims (V, PW) may.none h.claims)
  by_rules (Alone h) = begun_so phase.Last h.run
  by_rules (Looking h) = absurd (no_one claims (V, PW) may.none h.claimed_so.claims)
  by_rules (Taking h) = absurd (no_one claims (V, PW) may.none h.found.claimed_so.claims)
  by_rules (Taken h) = absurd (no_one claims (V, PW) may.none h.found.claimed_so.claims)
  by_rules (Refused h) = absurd (no_one claims (V, PW) may.none h.claimed_so.claims)

-- ---- a node whose command needs space

module _ (w : Plain) (good : Good w) (n : ℕ) (s : NodeState) (at : node_at w.nodes n ≡ Some s) (x : Cmd) (cmd : s.cmd ≡ Some x) (free : waits_at w.locks n s.asked ≡ false) (no_plan : s.plan ≡ None) where
  abbrev cat : Cat
  cat = good.running.cat

  abbrev under : IsUnder s.seen.geometry cat (nodes_under w.locks w.nodes) w.blocks
  under = drive w good n s at x cmd free

  now : IsAt w n s x
  now = under_command w good n s at x cmd free

  -- V is held by its command alone, where it is not claimed
  v_held : s.claims ≡ [] → Has (held_in PR (held_by w.locks n s)) V → Has (names_of s.asked) V
  v_held none h =
      let k = in_held_is PR (held_by w.locks n s) V h in
      elim (has_parted s.kept (s.asked ++ (s.claims ++ [])) (V, k.in_mode) (held_among w.locks n (rows_of s) (V, k.in_mode) k.has)) [
        | inl a ↦ absurd (not_kept k.in_mode a k.strong)
        | inr b ↦ elim (has_parted s.asked (s.claims ++ []) (V, k.in_mode) b) [
          | inl c ↦ named_there s.asked V k.in_mode c
          | inr d ↦ absurd (none_of s.claims (V, k.in_mode) none (subst (λ (ls : Row). Has ls (V, k.in_mode)) (append-nil s.claims) d))
        ]
      ] where
        not_kept : (m : Mode) → Has s.kept (V, m) → rank PR ≤ rank m → ⊥
        not_kept m a strong = elim ((me w good n s at x cmd free).store.kept (V, m) a) [
          | inl e ↦ absurd (let f : rank m ≡ rank NL = ap rank e.1 in omega (arith, f, strong))
          | inr e ↦ absurd (let f : V ≡ X = e.0 in cc)
        ]

  -- what it needs, where it has claimed nothing
  pub record NeedsSo (k : ℕ) (b : Bool) : Type 0 where
    pub needs : NeedsSpace x s.seen
    pub clusters : k ≡ wanted_by x s.seen
    pub number : b ≡ numbered_by x s.seen

  pub needs_now : (k : ℕ) (b : Bool) → IsNext x s.seen (need.Space k b) → s.claims ≡ [] → NeedsSo k b
  needs_now k b is none =
      let may = may_need w good n s at x cmd free (need.Space k b) is in
      record {
        needs = record {
          come = record { takes = may.0.takes; before = s.seen.locks; after = []; locks = sym (append-nil s.seen.locks); blocks = search_behind x s.seen k b may.0.takes is; quota = may.0.quota; behind = λ l h. absurd h };
          next = is ∙ (λ i. need.Space (may.0.clusters_are i) (may.0.number_is i));
          none = may.1;
          apart = λ l touched bitmap.
              let look : MayLook (held_in PR (held_by w.locks n s)) (guard_of s.seen.geometry under.own l) = guards_now w good n s at x cmd free l ((touches_joined (looked_now s.run) s.seen.blocks l).1 (inr touched)) in
              let held : Has (held_in PR (held_by w.locks n s)) V = subst (MayLook (held_in PR (held_by w.locks n s))) (bitmap_guard s.seen.geometry under.own l bitmap) look in
              let own : takes_lock x V ≡ true = now.own V (subst (λ (ls : Row). Has (names_of ls) V) (asks_now w good n s at x cmd free no_plan) (v_held none held)) in
              let not_own : takes_lock x V ≡ false = ap not may.0.takes in
              let f : true ≡ false = sym own ∙ not_own in
              absurd (cc);
        };
        clusters = may.0.clusters_are;
        number = may.0.number_is;
      }

  -- ---- it is given space from the stock

  module _ (k : ℕ) (b : Bool) (is : IsNext x s.seen (need.Space k b)) (may : serves s k b ≡ true) where
    abbrev r : NodeState
    r = serving s k b

    tests : (may_serve s.run.phase (is_claiming s.claims) ≡ true) × (holds_enough k b (roomless s.stock) ≡ true)
    tests = and_parts (may_serve s.run.phase (is_claiming s.claims)) (holds_enough k b (roomless s.stock)) may

    served_so : MayServe s.run.phase s.claims
    served_so = may_serve_is s.run.phase s.claims tests.0

    enough : (nat_le k (length s.stock.clusters) ≡ true) × ((not b || nat_lt 0 (length s.stock.numbers)) ≡ true)
    enough = and_parts (nat_le k (length s.stock.clusters)) (not b || nat_lt 0 (length s.stock.numbers)) tests.1

    count : k ≤ length s.stock.clusters
    count = is_le k (length s.stock.clusters) enough.0 where
      is_le : (a c : ℕ) → nat_le a c ≡ true → a ≤ c
      is_le a c e = grind (arith, nat_tests)

    run_is : s.run ≡ begun_run s.run.phase
    run_is = at_no_rule x s.kept s.claims s.run s.stock s.seen served_so (space_now w good n s at x cmd free)

    pub so : NeedsSo k b
    so = needs_now k b is served_so.none

    abbrev number : Option ℕ
    number = cond b (slice_get s.stock.numbers 0) None

    took_nothing : things s.seen.clusters s.seen.number ≡ nothing
    took_nothing = λ i. things (so.needs.none.clusters i) (so.needs.none.number i)

    taken_before : taken_now s.run ≡ nothing
    taken_before = none_taken s.run.phase s.run.writes s.run.made (ap (λ (h : SpaceRun). h.writes) run_is) (ap (λ (h : SpaceRun). h.made) run_is)

    taken_after : taken_now r.run ≡ nothing
    taken_after = none_taken phase.Fill s.run.writes s.run.made (ap (λ (h : SpaceRun). h.writes) run_is) (ap (λ (h : SpaceRun). h.made) run_is)

    all_stock : Outs n under.own nothing (stock_now s.stock s.run)
    all_stock = subst (λ (t : Things). Outs n under.own t (stock_now s.stock s.run)) took_nothing (outs_now w good n s at x cmd free)

    outs_then : Outs n under.own (things r.seen.clusters r.seen.number) (stock_now r.stock r.run)
    outs_then = record {
      clusters = out_split n under.own.clusters (stock_now s.stock s.run).clusters (things r.seen.clusters r.seen.number).clusters (stock_now r.stock r.run).clusters
          ((λ i. clusters_of_things r.seen.clusters r.seen.number i ++ (drop k s.stock.clusters ++ (taken_after i).clusters)) ∙ split_is k s.stock.clusters ∙ (λ i. s.stock.clusters ++ (sym taken_before i).clusters)) all_stock.clusters;
      numbers = out_split n under.own.numbers (stock_now s.stock s.run).numbers (things r.seen.clusters r.seen.number).numbers (stock_now r.stock r.run).numbers
          ((λ i. numbers_of_things r.seen.clusters r.seen.number i ++ (places_of (numbers_left b s.stock.numbers) ++ (taken_after i).numbers)) ∙ numbers_split b s.stock.numbers ∙ (λ i. places_of s.stock.numbers ++ (sym taken_before i).numbers)) all_stock.numbers;
    }

    -- its number is above those of the system files
    above : is_new_number number ≡ true
    above = by_number number refl where
      is_new : (m : ℕ) → is_free_number cat (m - 1 + 1) ≡ true → nat_lt 11 m ≡ true
      is_new m e = by_test (nat_lt 11 m) refl where
        small : (m : ℕ) → nat_lt 11 m ≡ false → m - 1 + 1 ≤ 11
        small m f = grind (arith, nat_tests)

        by_test : (t : Bool) → nat_lt 11 m ≡ t → nat_lt 11 m ≡ true
        by_test true f = f
        by_test false f = absurd (let g : true ≡ false = sym e ∙ good.running.system (m - 1 + 1) (small m f) in cc)

      by_number : (o : Option ℕ) → number ≡ o → is_new_number number ≡ true
      by_number None e = ap is_new_number e
      by_number (Some m) e =
          let had : Has (things r.seen.clusters r.seen.number).numbers (m - 1) = subst (λ (o : Option ℕ). Has (things r.seen.clusters o).numbers (m - 1)) (sym e) (inl refl) in
          ap is_new_number e ∙ is_new m (number_free s.seen.geometry under.base under.own cat n (m - 1) under.spelt ((outs_then.numbers.all (m - 1)).1 (inl had)))

    given_under : IsUnderOn w.geometry cat good.running.drive.base good.running.drive.own (changed (nodes_under w.locks w.nodes) n (under_with w.locks n r r.cmd)) w.blocks
    given_under =
        let v : UnderWay = at_locks n r x (held_by w.locks n s) in
        let there : v ≡ under_with w.locks n r r.cmd = ap (under_with w.locks n r) (sym cmd) in
        let up = becomes s.seen.geometry cat (nodes_under w.locks w.nodes) w.blocks n (at_locks n s x (held_by w.locks n s)) (here w good n s at x cmd free) under (no_writes_now w good n s at x cmd free no_plan) v (no_writes_now w good n s at x cmd free no_plan) (not_yet w good n s at x cmd free no_plan)
        outs_then (seen_now w good n s at x cmd free) (guards_now w good n s at x cmd free) in
        subst (λ (u : UnderWay). IsUnderOn w.geometry cat good.running.drive.base good.running.drive.own (changed (nodes_under w.locks w.nodes) n u) w.blocks) there (back w good n s at x cmd free v w.blocks up)

    nothing_left : stock_now s.stock s.run ≡ nothing → HasNothing r
    nothing_left e =
        let cs : s.stock.clusters ≡ [] = no_first s.stock.clusters (taken_now s.run).clusters (ap (λ (t : Things). t.clusters) e) in
        let ns : s.stock.numbers ≡ [] = unmapped s.stock.numbers (no_first (places_of s.stock.numbers) (taken_now s.run).numbers (ap (λ (t : Things). t.numbers) e)) in
        record {
          given = (λ i. things (take k (cs i)) (cond b (slice_get (ns i) 0) None)) ∙ none_given k b;
          stock = (λ i. together (record { clusters = drop k (cs i); numbers = places_of (numbers_left b (ns i)) }) (taken_after i)) ∙ none_kept k b;
        } where
          no_first : (xs ys : List ℕ) → xs ++ ys ≡ [] → xs ≡ []
          no_first [] ys f = refl
          no_first (y ∷ xs) ys f = absurd (let g : length (y ∷ (xs ++ ys)) ≡ 0 = ap length f in omega arith)

          unmapped : (ms : List ℕ) → places_of ms ≡ [] → ms ≡ []
          unmapped [] f = refl
          unmapped (m ∷ ms) f = absurd (let g : length (places_of (m ∷ ms)) ≡ 0 = ap length f in omega arith)

          none_given : (j : ℕ) (c : Bool) → things (take j []) (cond c (slice_get (let ms : List ℕ = [] in ms) 0) None) ≡ nothing
          none_given zero true = refl
          none_given zero false = refl
          none_given (suc j) true = refl
          none_given (suc j) false = refl

          none_kept : (j : ℕ) (c : Bool) → together (record { clusters = drop j []; numbers = places_of (numbers_left c []) }) nothing ≡ nothing
          none_kept zero true = refl
          none_kept zero false = refl
          none_kept (suc j) true = refl
          none_kept (suc j) false = refl

    given_stocked : IsStocked r
    given_stocked = record { holds = elim (stocked_now w good n s at x cmd free).holds [ inl e ↦ inl (nothing_left e.stock) | inr h ↦ inr h ]; few = inl (few_served s x cmd k b is (stocked_now w good n s at x cmd free).few) }

    given_owes : OwesLess s r
    given_owes =
        let a = owed_busy s x cmd in
        let c : owed r ≡ 3 = (λ i. cond (is_some (cmd i)) (owed_in phase.Fill (is_claiming (served_so.none i)) (lent r)) (lent r)) in
        omega arith

    same_is : (a : ℕ) → (a == a) ≡ true
    same_is a = grind (arith, nat_tests)

    -- what it was given is what it needs
    pub enough_now : has_space k b (space_of r.seen) ≡ true
    enough_now = (λ i. (length_taken k s.stock.clusters count i == k) && has_number b number) ∙ ap (λ t. t && has_number b number) (same_is k) ∙ some_number b s.stock.numbers enough.1

    pub serve_keeps : Good (with_node w n r)
    serve_keeps = alone w good n s at r refl (λ part o low. refl) refl given_owes given_stocked given_under refl (λ e h. inl h)
        (is_node w good n s at x cmd free w.locks w.blocks r refl refl refl refl (record { kept = kept_so; few = (me w good n s at x cmd free).store.few; cache = (me w good n s at x cmd free).store.cache; guarding = (me w good n s at x cmd free).store.guarding }) (me w good n s at x cmd free).rests
        ((goes w good n s at x cmd free).given s.seen k b (take k s.stock.clusters) number now.seen is (length_taken k s.stock.clusters count) (some_number b s.stock.numbers enough.1))
        now.own (plan_stays w good n s at x cmd free w.locks r no_plan refl refl)
        (asks_then w good n s at x cmd free r no_plan refl (asks_now w good n s at x cmd free no_plan))
        (Busy x refl (Given (record {
          run = λ i. record (run_is i) { phase = phase.Fill };
          claims = served_so.none;
          come = record { takes = so.needs.come.takes; before = so.needs.come.before; after = so.needs.come.after; locks = so.needs.come.locks; blocks = so.needs.come.blocks; quota = so.needs.come.quota; behind = λ l h. absurd (no_number s.seen.number so.needs.none.number l.0 (so.needs.come.behind l h)) };
          has = ap (λ (z : ℕ). has_space z (numbered_by x r.seen) (space_of r.seen)) (sym so.clusters) ∙ ap (λ (z : Bool). has_space k z (space_of r.seen)) (wants_alike x r.seen s.seen refl refl ∙ sym so.number) ∙ enough_now;
          above = above;
          short = refl;
        })))
        (no_wait w good n s at x cmd free r.seen)) where
          kept_so : (l : LockName × Mode) → Has s.kept l → IsKeptLow l ⊎ ((l.0 ≡ X) × ((l.1 ≡ CR) ⊎ (phase.Fill ≡ phase.Last)))
          kept_so l h = elim ((me w good n s at x cmd free).store.kept l h) [
            | inl e ↦ inl e
            | inr e ↦ inr (e.0, elim e.1 [ inl f ↦ inl f | inr f ↦ absurd (not_last served_so.in_phase f) ])
          ] where
            not_last : (s.run.phase ≡ phase.Off) ⊎ (s.run.phase ≡ phase.Fill) → s.run.phase ≡ phase.Last → ⊥
            not_last (inl e) f = absurd (let g : phase.Off ≡ phase.Last = sym e ∙ f in cc)
            not_last (inr e) f = absurd (let g : phase.Fill ≡ phase.Last = sym e ∙ f in cc)
