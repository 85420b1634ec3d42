-- A mounted world keeps the rules.
use Rattle.std.proofs.Common.{◌≡◌, ◌≤◌, ◌+◌, ◌&&◌, ℕ, zero, suc, true, false, List, [], ◌∷◌, Option, Some, None, Result, Ok, length, slice_get, refl, sym, ap, subst, arith, inl}
use Rattle.std.specs.Prelude.{◌==◌, All, IsTrue, replicate}
use Rattle.std.specs.List.{list_any}
use Rattle.std.proofs.lemmas.Bool.Decides.{nat_tests}
use Rattle.base_words.specs.Fields.{Block, AreWholeBlocks}
use Rattle.fx_home.specs.declared.home.Home.{Home}
use Rattle.fx_home.specs.declared.home.HomeFault.{HomeFault}
use Rattle.fx_home.specs.Homes.{home_read}
use Rattle.plain_cat.specs.InForm.{InForm, is_within, line_in_form}
use Rattle.plain_cat.specs.declared.script.Line.{Line}
use Rattle.plain_cat.specs.declared.script.Script.{Script}
use Rattle.plain_cat.specs.declared.cat.Cat.{Cat}
use Rattle.plain_rules.specs.Accounts.{Accounted}
use Rattle.plain_rules.specs.Own.{newborn}
use Rattle.plain_past.proofs.Strangers.{strangers_have_nothing}
use Rattle.node_locks.specs.Held.{joined}
use Rattle.node_locks.proofs.Dying.{nothing_is_held}
use Rattle.vol_faults.specs.Free.{IsGeometryBy}
use Rattle.vol_parts.specs.declared.geometry.Geometry.{Geometry}
use Rattle.vol_parts.specs.Volumes.{volume, geometry_of}
use Rattle.vol_parts.specs.declared.finding.Finding.{Finding}
use Rattle.vol_parts.specs.Findings.{home_at, Accepts, CatOf}
use Rattle.vol_analyze.specs.Judging.{IsJudged}
use Rattle.base_words.specs.Lists.{Has}
use Rattle.vol_spell.specs.Owners.{nothing, Outs}
use Rattle.vol_under.specs.UnderWay.{UnderWay, resting}
use Rattle.vol_under.specs.Under.{IsUnder}
use Rattle.vol_under.proofs.Steps.{mount_stands, nodes_alike}
use Rattle.core_state.specs.Worlds.{NodeState, Plain, node_at, rows_of, rows_in, rows_at}
use Rattle.core_state.specs.Asks.{granted_ask}
use Rattle.core_state.specs.Opens.{open_of, open_with, asked_in, asked_at, open_now}
use Rattle.core_state.specs.Goods.{HasSystemNumbers, HasOnly, under_by, nodes_under, IsNode, Good, IsAccepted, decided, IsWorld}
use Rattle.core_state.specs.Searches.{Off}
use Rattle.core_state.specs.Stores.{IsStocked, hold_writes}
use Rattle.node_cache.proofs.Entries.{cache-nil}
use Rattle.core_state.specs.Mounting.{at_rest, mounted}
use Rattle.core_state.specs.Channels.{HasOpens}
use Rattle.plain_histories.proofs.Naming.{closed_names}
use Rattle.plain_histories.specs.Usages.{AreNear, HasSmallFiles}
use Rattle.core_state.proofs.Falling.{none_fallen}
use Rattle.core_state.proofs.Opens.{opens_none, opens_same}
use Rattle.core_state.proofs.Blanks.{nothing_blank}
use Rattle.core_state.proofs.SmallBegun.{few_newborn}
use Rattle.core_state.proofs.SmallWorlds.{small_mounted}
use Rattle.core_state.proofs.Channels.{none_opened}
use Rattle.plain_cat.specs.declared.command.Cmd.{Cmd}
use Rattle.op_law.proofs.OnlyLooking.{both_first}

-- ---- lists of nodes at rest

rests_at : (k : ℕ) (x : NodeState) (n : ℕ) (s : NodeState) → slice_get (replicate k x) n ≡ Some s → s ≡ x
rests_at zero x n s e = absurd (let f : None ≡ Some s = e in cc)
rests_at (suc k) x zero s e = let f : Some x ≡ Some s = e in cc
rests_at (suc k) x (suc n) s e = rests_at k x n s e

pub at_rest_at : (k : ℕ) (x : NodeState) (n : ℕ) (s : NodeState) → node_at (replicate k x) n ≡ Some s → s ≡ x
at_rest_at k x zero s e = absurd (let f : None ≡ Some s = e in cc)
at_rest_at k x (suc n) s e = rests_at k x n s e

none_behind : (k : ℕ) (x : NodeState) (n : ℕ) → slice_get (replicate k x) n ≡ None → k ≤ n
none_behind zero x n e = omega arith
none_behind (suc k) x zero e = absurd (let f : Some x ≡ None = e in cc)
none_behind (suc k) x (suc n) e = let le = none_behind k x n e in omega arith

length_rest : (k : ℕ) (x : NodeState) → length (replicate k x) ≡ k
length_rest zero x = refl
length_rest (suc k) x = ap suc (length_rest k x)

none_decided : (k : ℕ) (g : Geometry) → decided (replicate k (at_rest g)) ≡ 0
none_decided zero g = refl
none_decided (suc k) g = let e = none_decided k g in counts (decided (replicate k (at_rest g))) e where
  counts : (d : ℕ) → d ≡ 0 → 0 + d ≡ 0
  counts d e = omega arith

-- ---- a number that is no node's has no line

-- a number between others is one of them
within_at : (k : ℕ) (x : NodeState) (n m : ℕ) → node_at (replicate k x) n ≡ None → is_within 1 k m ≡ true → (m == n) ≡ false
within_at k x zero m none is = grind (arith, nat_tests)
within_at k x (suc n) m none is = let le = none_behind k x n none in grind (arith, nat_tests)

no_line : (ls : List Line) (k : ℕ) (x : NodeState) (n : ℕ) → All (λ (l : Line). IsTrue (is_within 1 k l.node && line_in_form l.cmd)) ls → node_at (replicate k x) n ≡ None → list_any (λ (l : Line). l.node == n) ls ≡ false
no_line [] k x n all none = refl
no_line (l ∷ ls) k x n all none = by_first (within_at k x n l.node none (both_first (is_within 1 k l.node) (line_in_form l.cmd) (all 0 l (omega arith)))) (no_line ls k x n (λ i d lt. all (suc i) d (omega arith)) none) where
  by_first : (l.node == n) ≡ false → list_any (λ (l : Line). l.node == n) ls ≡ false → list_any (λ (l : Line). l.node == n) (l ∷ ls) ≡ false
  by_first a b = grind (arith, nat_tests)

-- ---- the world

module _ (bs : List Block) (s : Script) (c : Cat) (g : Geometry) (form : InForm s) (drive : IsUnder g c (λ n. resting nothing) bs) (accounted : Accounted c) (near : AreNear c 0) (sized : HasSmallFiles c) (system : HasSystemNumbers c) (none_open : c.opens ≡ replicate 64 None) where
  abbrev w : Plain
  w = mounted bs s c g

  abbrev x : NodeState
  x = at_rest g

  under : (n : ℕ) → resting nothing ≡ nodes_under [] w.nodes n
  under n = by_node (node_at w.nodes n) refl where
    by_node : (o : Option NodeState) → node_at w.nodes n ≡ o → resting nothing ≡ under_by [] n o
    by_node None e = refl
    by_node (Some r) e = ap (λ y. under_by [] n (Some y)) (sym (at_rest_at s.nodes x n r e))

  drive_now : IsUnder g c (nodes_under [] w.nodes) bs
  drive_now = nodes_alike g c (λ n. resting nothing) (nodes_under [] w.nodes) bs under drive

  no_locks : (n : ℕ) → joined (rows_at w.nodes n) ≡ []
  no_locks n = by_node (node_at w.nodes n) refl where
    by_node : (o : Option NodeState) → node_at w.nodes n ≡ o → joined (rows_in o) ≡ []
    by_node None e = refl
    by_node (Some r) e = ap (λ (y : NodeState). joined (rows_of y)) (at_rest_at s.nodes x n r e)

  no_asks : (n : ℕ) → asked_at w.nodes n ≡ None
  no_asks n = by_node (node_at w.nodes n) refl where
    by_node : (o : Option NodeState) → node_at w.nodes n ≡ o → asked_in o ≡ None
    by_node None e = refl
    by_node (Some r) e = ap (λ (y : NodeState). granted_ask y.tried y.plan) (at_rest_at s.nodes x n r e)

  node : (n : ℕ) → IsNode w n x
  unfolding newborn
  node n = record {
    past = refl;
    geometry = refl;
    channels = λ on. refl;
    channel = refl;
    store = record { kept = λ l h. absurd h; few = omega arith; cache = cache-nil; guarding = λ e h. absurd h };
    rests = refl;
    asks = λ e. absurd (let f : false ≡ true = e in cc);
    command = record { locks = refl; blocks = refl; space = record { clusters = refl; number = refl; short = refl }; asked = refl; plan = refl; done = refl };
    space = Off (record { run = refl; claims = refl; space = record { clusters = refl; number = refl; short = refl } });
    over = λ o. absurd (let f : false ≡ true = o in cc);
    gone = λ o. absurd (let f : false ≡ true = o in cc);
  }

  pub good_mounted : Good w
  good_mounted = record {
    counted = length_rest s.nodes x;
    running = record {
      cat = c;
      replayed = refl;
      drive = drive_now;
      accounted = accounted;
      near = near;
      sized = sized;
      fell = sym (none_fallen s.nodes);
      system = system;
      named = closed_names c none_open;
      opens = opens_same [] (open_of c) (open_now c w.nodes) (λ owner low. ap (λ a. open_with owner.part a (open_of c owner)) (no_asks owner.node)) (opens_none c 64 none_open);
      opened = λ n r e. subst (λ (y : NodeState). HasOpens c n y.opens) (sym (at_rest_at s.nodes x n r e)) (none_opened c 64 n none_open);
      stocked = λ n r e. subst IsStocked (sym (at_rest_at s.nodes x n r e)) (record { holds = inl (record { given = refl; stock = refl }); few = inl (omega arith) });
      cached = λ n r k e has. absurd (subst (λ (y : NodeState). Has y.cache k) (at_rest_at s.nodes x n r e) has);
      blank = nothing_blank g drive_now.base drive_now.own (λ n. subst (λ (u : UnderWay). Outs n drive_now.own u.took u.stock) (sym (under n)) (drive_now.outs n));
    };
    locked = (record { ordered = refl; used = refl; settled_all = tt }, nothing_is_held (rows_at w.nodes) no_locks);
    nodes = λ n r e. subst (λ (y : NodeState). IsNode w n y) (sym (at_rest_at s.nodes x n r e)) (node n);
    own = tt;
    small = small_mounted bs s c g;
    writers = λ n r v e has. absurd (subst (λ (y : NodeState). Has (hold_writes y) v) (at_rest_at s.nodes x n r e) has);
    form = form;
    few = λ n. few_newborn s n;
    strangers = λ n e. strangers_have_nothing s n [] (no_line s.lines s.nodes x n form.lines e) refl;
  }

  few_nodes : s.nodes ≤ 8
  few_nodes = let is = form.nodes in grind (arith, nat_tests)

  pub world_mounted : (takes : Cmd → Type 0) (spare : ℕ) → IsAccepted c → HasOnly takes s → 8 ≤ spare → IsWorld takes w spare
  world_mounted takes spare accepted taken wide = record {
    good = good_mounted;
    accepted = accepted;
    room = record { few = subst (λ (k : ℕ). k ≤ 8) (sym (length_rest s.nodes x)) few_nodes; lines = form.lines_fit; places = (let none = none_decided s.nodes g in let few = few_nodes in omega arith) };
    taken = taken;
  }

-- the geometry that the home block gives is that of the drive as it is mounted
pub mounts : (bs : List Block) (c : Cat) (g : Geometry) → 64 ≤ length bs → length bs ≤ 65536 → AreWholeBlocks bs → CatOf bs c → IsGeometryBy bs (home_read (home_at bs)) g → IsUnder g c (λ n. resting nothing) bs
mounts bs c g from to whole told by =
    let m = mount_stands bs c from to whole told in
    let same : g ≡ geometry_of (volume m.0 bs) = subst (λ (r : Result Home HomeFault). IsGeometryBy bs r g) m.1 by in
    subst (λ (h : Geometry). IsUnder h c (λ n. resting nothing) bs) (sym same) m.2

-- what is judged of blocks that are accepted
pub judged : (all bs : List Block) (r : Result Cat Finding) (c : Cat) → all ≡ bs → r ≡ Ok c → IsJudged all r → Accepts bs × CatOf bs c
judged all bs r c same ok j = subst (λ (xs : List Block). IsJudged xs (Ok c)) same (subst (λ (o : Result Cat Finding). IsJudged all o) ok j)
