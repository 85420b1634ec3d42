-- A node claims a lock of free space: X, or V.
use Rattle.std.proofs.Common.{◌≡◌, ◌≢◌, ◌≤◌, ◌⊎◌, ◌++◌, ℕ, true, false, List, [], ◌∷◌, Option, Some, refl, sym, ap, subst, ◌∙◌, arith}
use Rattle.base_words.specs.Fields.{Block}
use Rattle.lock_db.specs.declared.name.LockName.{LockName}
use Rattle.lock_db.specs.declared.name.LockName.TheVariants.{A, X}
use Rattle.lock_db.specs.declared.resource.Resource.{Resource}
use Rattle.plain_cat.specs.Modes.{rank}
use Rattle.plain_cat.specs.declared.mode.Mode.{Mode}
use Rattle.plain_cat.specs.declared.mode.Mode.TheVariants.{NL, CR, CW, PR, PW}
use Rattle.plain_cat.specs.declared.command.Cmd.{Cmd}
use Rattle.plain_rules.specs.Own.{next_command}
use Rattle.node_locks.specs.Held.{system_of, Row, joined, names_of, HoldsItsLocks, AreHeld, waits_at, with_rows}
use Rattle.node_locks.specs.Taking.{taken}
use Rattle.node_locks.proofs.Keeping.{held_are_granted, rows_stand_still}
use Rattle.base_words.specs.Lists.{Has}
use Rattle.vol_spell.specs.Owners.{Owners}
use Rattle.core_state.specs.Committed.{IsUnderOn}
use Rattle.vol_under.specs.UnderWay.{UnderWay, changed, AreSole}
use Rattle.op_law.specs.Laws.{held_in}
use Rattle.core_space.specs.declared.run.Phase.{Phase}
use Rattle.core_state.specs.Worlds.{Course, course_of, NodeState, Plain, node_at, set_node, rows_of, rows_in, rows_at}
use Rattle.core_state.specs.Channels.{channel_now, HasChannels}
use Rattle.core_state.specs.Opens.{open_now}
use Rattle.core_state.specs.Stores.{HasStore}
use Rattle.core_state.specs.Stocks.{looked_now, stock_now}
use Rattle.core_state.specs.Waiting.{WaitsAside}
use Rattle.core_state.specs.Searches.{begun_run, Spaces}
use Rattle.core_state.specs.Goods.{under_with, nodes_under, HasCourse, HasCommand, IsNode, Good, held_by}
use Rattle.core_state.specs.Events.{is_out, turned, claiming}
use Rattle.core_state.proofs.StockSizes.{few_stays}
use Rattle.core_state.proofs.Holding.{strong_grows}
use Rattle.core_state.proofs.Running.{at_any, under_now, under_here, are_sole}
use Rattle.core_state.proofs.Taking.{widens}
use Rattle.core_state.proofs.SmallWorlds.{OwesLess, small_taken, lock_there}
use Rattle.core_state.proofs.Keeping.{altered, still_driven, rebuilt, held_set, has_waited, course_stays}
use Rattle.core_state.proofs.CachedTakes.{taken_stays, IsTakenIn, taken_writes, taken_cached}
use Rattle.core_state.proofs.Seeking.{neither}
use Rattle.core_state.proofs.Beginning.{stays_stocked}
use Rattle.core_state.proofs.Opens.{opens_taken}
use Rattle.core_state.proofs.Rows.{IsFew, AreMoved, IsClaimed, claims_move, claims_it, rows_twice}
use Rattle.node_locks.proofs.Nodes.{rows_here as own_rows}
use Rattle.core_state.proofs.Turning.{Rest, rest_of, guarding_of}
use Rattle.node_locks.proofs.Standing.{goes-still}

-- ---- an event by the rules for space, which leaves the command as it is

module _ (w : Plain) (good : Good w) (n : ℕ) (s : NodeState) (at : node_at w.nodes n ≡ Some s) (on : is_out s ≡ false) where
  pub mine : HoldsItsLocks w.locks n (rows_of s)
  mine = subst (λ (rs : List Row). HoldsItsLocks w.locks n rs) (ap rows_in at) (good.locked.1 n)

  pub space_node : (t : List Resource) (bs : List Block) (r : NodeState) → rest_of r ≡ rest_of s → r.cmd ≡ s.cmd → course_of r ≡ course_of s → (waits_at w.locks n s.asked ≡ false → waits_at t n s.asked ≡ false)
      → (waits_at w.locks n s.asked ≡ true → WaitsAside s.run.phase s.asked s.seen.number → WaitsAside r.run.phase s.asked s.seen.number)
      → HasStore r.run.phase r.kept r.cache → waits_at t n r.kept ≡ false → Spaces s.cmd r.kept r.claims r.run r.stock r.seen → IsNode (altered w t bs (set_node w.nodes n r) w.history) n r
  space_node t bs r same c course goes asks keeps rests space = record {
    past = ap (λ (k : Rest). k.past) same ∙ me.past;
    geometry = ap (λ (d : Course). d.seen.geometry) course ∙ me.geometry;
    channels = subst (λ (k : Rest). HasChannels k.past k.opens) (sym same) me.channels;
    channel = ap (λ (d : Course). d.seen.channel) course ∙ me.channel ∙ (λ i. channel_now (sym same i).opens (sym c i));
    store = keeps;
    rests = rests;
    asks = subst (λ (d : Course). waits_at t n d.asked ≡ true → WaitsAside r.run.phase d.asked d.seen.number) (sym course)
        (λ e. let was = has_waited (waits_at w.locks n s.asked) (waits_at t n s.asked) goes e in asks was (me.asks was));
    command = subst (λ (o : Option Cmd). HasCommand (altered w t bs (set_node w.nodes n r) w.history) n r o) (sym c)
        (subst (λ (d : Course). HasCourse (next_command w.script n w.history) t n d s.cmd) (sym course)
        (course_stays (next_command w.script n w.history) w.locks t n (course_of s) goes s.cmd me.command));
    space = subst (λ (o : Option Cmd). Spaces o r.kept r.claims r.run r.stock r.seen) (sym c) space;
    over = λ e. absurd (let f : s.over ≡ true = sym (ap (λ (k : Rest). k.over) same) ∙ e in let g : true ≡ false = sym f ∙ (neither s.over s.past.dead on).0 in cc);
    gone = λ e. absurd (let f : s.past.dead ≡ true = sym (ap (λ (k : Rest). k.past.dead) same) ∙ e in let g : true ≡ false = sym f ∙ (neither s.over s.past.dead on).1 in cc);
  } where
    me : IsNode w n s
    me = good.nodes n s at

  -- ---- a claim

  module _ (p : Phase) (name : LockName) (mode : Mode) (few : IsFew s.claims) (free : waits_at w.locks n s.claims ≡ false) (q : Phase) (begun : s.run ≡ begun_run q) (far : (f : ℕ) → name ≢ A f) (not_cw : mode ≢ CW)
      (new : (Has (names_of (joined ((s.kept ++ s.claims) ∷ (s.asked ∷ ([] ∷ []))))) name → ⊥) ⊎ Has (s.kept ++ s.claims) (name, NL)) where
    abbrev t : List Resource
    t = taken name (system_of n) mode w.locks

    abbrev r : NodeState
    r = turned (claiming s p name mode)

    abbrev moved_rows : List Row
    moved_rows = (s.kept ++ s.claims) ∷ (s.asked ∷ ([] ∷ []))

    pub moved : AreMoved w.locks n (rows_at w.nodes) (s.kept ++ s.claims) s.asked
    moved = claims_move w.locks n (rows_at w.nodes) s.kept s.asked s.claims good.locked.1 (ap rows_in at) (good.nodes n s at).rests free few

    abbrev rows_then : ℕ → List Row
    rows_then = with_rows (rows_at w.nodes) n moved_rows

    pub claimed : IsClaimed w.locks n name mode rows_then (s.kept ++ s.claims) s.asked [] good.locked.0 moved.held (own_rows (rows_at w.nodes) n moved_rows) moved.rests new
    claimed = claims_it w.locks n name mode rows_then (s.kept ++ s.claims) s.asked [] good.locked.0 moved.held (own_rows (rows_at w.nodes) n moved_rows) moved.rests new refl

    strong : (l : LockName × Mode) → rank CR ≤ rank l.1 → Has (held_by w.locks n s) l → Has (held_by t n r) l
    strong l le h =
        let its : HoldsItsLocks w.locks n moved_rows = subst (λ (rs : List Row). HoldsItsLocks w.locks n rs) (own_rows (rows_at w.nodes) n moved_rows) (moved.held n) in
        claimed.took.strong l le ((held_are_granted w.locks n l moved_rows its).1 ((held_are_granted w.locks n l (rows_of s) mine).0 h))

    run_then : r.run ≡ begun_run p
    run_then = λ i. record (begun i) { phase = p }

    stock_same : stock_now s.stock r.run ≡ stock_now s.stock s.run
    stock_same = ap (stock_now s.stock) run_then ∙ sym (ap (stock_now s.stock) begun)

    looked_same : looked_now r.run ≡ looked_now s.run
    looked_same = ap looked_now run_then ∙ sym (ap looked_now begun)

    abbrev base : List Block
    base = good.running.drive.base

    abbrev own : Owners
    own = good.running.drive.own

    under_then : IsUnderOn w.geometry good.running.cat base own (changed (nodes_under w.locks w.nodes) n (under_with t n r r.cmd)) w.blocks
    under_then =
        let u : UnderWay = under_with w.locks n s s.cmd in
        let v = widens w.geometry good.running.cat (nodes_under w.locks w.nodes) w.blocks n u (under_here w.locks w.nodes n s at) good.running.drive (held_in PR (held_by t n r)) (held_in PW (held_by t n r))
        (λ m h. strong_grows PR (held_by w.locks n s) (held_by t n r) m (omega arith) strong h) (λ m h. strong_grows PW (held_by w.locks n s) (held_by t n r) m (omega arith) strong h) in
        let there : record u { read = held_in PR (held_by t n r); write = held_in PW (held_by t n r) } ≡ under_with t n r r.cmd
        = λ i. record (at_any n s s.cmd (held_by t n r)) { seen = sym looked_same i ++ s.seen.blocks; stock = sym stock_same i } in
        subst (λ (k : UnderWay). IsUnderOn w.geometry good.running.cat base own (changed (nodes_under w.locks w.nodes) n k) w.blocks) there v

    takes : IsTakenIn w n s r t
    takes = record {
      at = at;
      strong = strong;
      others = λ m y ne e. rows_stand_still w.locks t m (rows_of y) (λ ls i. claimed.took.others m ls ne);
      stays = λ other guards. taken_stays n name other mode w.locks claimed.took.may;
      lasting = claimed.took.lasting;
      same = refl;
      cache = refl;
    }

    sole : AreSole (nodes_under w.locks w.nodes)
    sole = are_sole w.locks w.nodes good.locked.0 good.locked.1

    held_then : AreHeld t (rows_at (set_node w.nodes n r))
    held_then = held_set t w.nodes n s r at (rows_twice t (rows_at w.nodes) n moved_rows (rows_of r) claimed.took.held)

    pub claim_keeps : (waits_at w.locks n s.asked ≡ true → WaitsAside s.run.phase s.asked s.seen.number → WaitsAside p s.asked s.seen.number) → HasStore p r.kept r.cache → (Has (held_in CR s.kept) X → Has (held_in CR r.kept) X) → OwesLess s r → Spaces s.cmd r.kept r.claims r.run s.stock s.seen
        → Good (altered w t w.blocks (set_node w.nodes n r) w.history)
    claim_keeps asks keeps x_stays owes space = rebuilt w good n s r at t w.blocks w.history
        (still_driven w good n s r at t w.blocks (λ part o low. refl) refl base own good.running.blank
        (under_now w.geometry good.running.cat base own w.locks t w.nodes n s r w.blocks at (λ m y ne e. rows_stand_still w.locks t m (rows_of y) (λ ls i. claimed.took.others m ls ne)) under_then)
        (opens_taken name n mode w.locks (open_now good.running.cat w.nodes) good.locked.0 far claimed.took.may not_cw good.running.opens)
        (taken_cached w sole good.writers n s r t takes (are_sole t (set_node w.nodes n r) claimed.took.table held_then) (guarding_of w good) own good.running.cat good.running.cached))
        (claimed.took.table, held_then) good.own
        (small_taken w good.small n s r at name (system_of n) mode w.blocks (lock_there w.locks n name claimed.took.may) owes)
        (good.few n) (λ m ne. refl) (λ m y ne e ls i. goes-still w.locks t m ls (claimed.took.others m ls ne))
        (stays_stocked s r refl stock_same x_stays (few_stays s r refl refl refl) (good.running.stocked n s at))
        (taken_writes w sole good.writers n s r t takes)
        (space_node t w.blocks r refl refl refl (λ e. claimed.asked_still.waits ∙ e) asks keeps claimed.rests_then space)
