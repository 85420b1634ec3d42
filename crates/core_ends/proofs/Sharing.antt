-- Who holds V moves where another one waits for it; and who holds X moves then, or gives it back.
use Rattle.std.proofs.Common.{◌≡◌, ◌≢◌, ◌⊎◌, ◌≤◌, ◌++◌, ◌&&◌, ◌||◌, not, ℕ, Bool, true, false, List, [], ◌∷◌, Option, Some, None, append-nil, refl, sym, ap, subst, ◌∙◌, inl, inr, arith}
use Rattle.lock_db.specs.declared.name.LockName.{LockName}
use Rattle.lock_db.specs.declared.name.LockName.TheVariants.{A, Q, X, V}
use Rattle.plain_cat.specs.Modes.{rank}
use Rattle.plain_cat.specs.declared.mode.Mode.{Mode}
use Rattle.plain_cat.specs.declared.mode.Mode.TheVariants.{NL, CR, PW, EX}
use Rattle.plain_cat.specs.declared.command.Cmd.{Cmd}
use Rattle.base_words.specs.Lists.{Has}
use Rattle.base_words.proofs.Listing.{has_parted}
use Rattle.node_locks.specs.Held.{Row, names_of, waits_at, held_locks, all_held}
use Rattle.node_locks.proofs.Standing.{held-asked}
use Rattle.op_law.specs.Events.{space_of, HasNoSpace}
use Rattle.op_law.specs.declared.need.Ask.{Ask}
use Rattle.op_law.specs.Laws.{held_in, takes_lock, ComesInTurn}
use Rattle.core_space.specs.declared.run.Phase.TheVariants as phase
use Rattle.core_space.specs.declared.run.SpaceRun.{SpaceRun}
use Rattle.core_space.specs.Rule.{is_reader, is_due, has_any}
use Rattle.core_state.specs.Worlds.{NodeState, Plain, node_at, rows_of, rows_in, rows_at}
use Rattle.core_state.specs.Asks.{has_asked, own_ask, with_ask, lock_of_ask}
use Rattle.core_state.specs.Stocks.{roomless}
use Rattle.core_state.specs.Searches.{Rules, Spaces, Off, Back, Busy}
use Rattle.core_state.specs.Goods.{HasCommand, IsNode, Good, held_by}
use Rattle.core_state.specs.Events.{mode_in, space_locks, is_ended, is_wanted, gives_back_in, gives_back, stands}
use Rattle.core_state.proofs.Excluding.{exclusive_is_sole}
use Rattle.core_state.proofs.Running.{kept_held}
use Rattle.core_state.proofs.Naming.{one_of, mode_is, asked_is}
use Rattle.core_state.proofs.Keeping.{kept_once, kept_apart, asked_apart}
use Rattle.core_state.proofs.Standing.{come_by}
use Rattle.core_state.proofs.Turning.{has_name}
use Rattle.core_ends.specs.Moving.{Moves}
use Rattle.core_ends.proofs.Turning.{moves_on}
use Rattle.core_ends.proofs.Holders.{IsHolder, holder}
use Rattle.core_ends.proofs.Standing.{stands_parts, ClaimsX, SharesX, HasX, ClaimsV, claims_so, me, mine, Asks, asks, in_front, quota_front, v_before, no_v_before, held_where, claims_free, not_needing, busy_quota, sole_quota}

none_waits : (w : Plain) (n : ℕ) (ls : Row) → ls ≡ [] → waits_at w.locks n ls ≡ true → ⊥
none_waits w n ls e h = absurd (let f : false ≡ true = sym (ap (waits_at w.locks n) e) ∙ h in cc)

-- the name of a lock that a command has asked for is one that it takes itself, or that of an ask
module _ (w : Plain) (good : Good w) (m : ℕ) (q : NodeState) (there : node_at w.nodes m ≡ Some q) where
  its : IsNode w m q
  its = me w good m q there

  -- a command has asked for what it has
  pub asked_own : (name : LockName) (mode : Mode) → ((f : ℕ) → name ≢ A f) → Has q.asked (name, mode) → (x : Cmd) × (q.cmd ≡ Some x) × (takes_lock x name ≡ true)
  asked_own name mode far h = by_cmd q.cmd refl its.command where
    by_ask : (o : Option Ask) → Has (with_ask q.seen.locks o) (name, mode) → Has q.seen.locks (name, mode)
    by_ask None k = k
    by_ask (Some a) k = elim (has_parted q.seen.locks (lock_of_ask a ∷ []) (name, mode) k) [
      | inl i ↦ i
      | inr i ↦ elim i [ inl e ↦ absurd (far a.file (ap (λ (y : LockName × Mode). y.0) (sym e))) | inr f ↦ absurd f ]
    ]

    by_cmd : (o : Option Cmd) → q.cmd ≡ o → HasCommand w m q o → (x : Cmd) × (q.cmd ≡ Some x) × (takes_lock x name ≡ true)
    by_cmd None e idle = absurd (subst (λ (ls : Row). Has ls (name, mode)) idle.asked h)
    by_cmd (Some x) e i = (x, e, i.own name (has_name q.seen.locks name mode (by_ask (own_ask q.tried q.plan) (subst (λ (ls : Row). Has ls (name, mode)) i.same h))))

  pub no_x_asked : (mode : Mode) → Has q.asked (X, mode) → ⊥
  no_x_asked mode h = let r = asked_own X mode (λ f e. absurd (cc e)) h in absurd (let z : false ≡ true = r.2 in cc)

  -- a command that has asked for V takes no space
  pub v_not_busy : (mode : Mode) → Has q.asked (V, mode) → (x : Cmd) → q.cmd ≡ Some x → Rules x q.kept q.claims q.run q.stock q.seen → ⊥
  v_not_busy mode h x cmd r =
      let k = asked_own V mode (λ f e. absurd (cc e)) h in
      let same : Some x ≡ Some k.0 = sym cmd ∙ k.1 in
      let is : x ≡ k.0 = cc in
      let own : takes_lock x V ≡ true = ap (λ y. takes_lock y V) is ∙ k.2 in
      let free : takes_lock x V ≡ false = ap not (come_by x q.kept q.claims q.run q.stock q.seen r).takes in
      absurd (let z : true ≡ false = sym own ∙ free in cc)

  pub v_gives_none : (mode : Mode) → Has q.asked (V, mode) → HasNoSpace (space_of q.seen)
  v_gives_none mode h = by_space its.space where
    by_space : Spaces q.cmd q.kept q.claims q.run q.stock q.seen → HasNoSpace (space_of q.seen)
    by_space (Off k) = k.space
    by_space (Back k) = k.space
    by_space (Busy x e r) = absurd (v_not_busy mode h x e r)

  -- what it keeps besides X is in NL
  pub kept_x : (name : LockName) (mode : Mode) → mode ≢ NL → Has q.kept (name, mode) → (name ≡ X) × ((mode ≡ CR) ⊎ (q.run.phase ≡ phase.Last))
  kept_x name mode strong h = elim (its.store.kept (name, mode) h) [ inl low ↦ absurd (strong low.1) | inr k ↦ (k.0, k.1) ]

  claims_wait : waits_at w.locks m q.claims ≡ true → ClaimsX q ⊎ ClaimsV q
  claims_wait e = claims_so q its.space (λ none. none_waits w m q.claims none e)

  claims_has : (l : LockName × Mode) → Has q.claims l → ClaimsX q ⊎ ClaimsV q
  claims_has l h = claims_so q its.space (λ none. subst (λ (ls : Row). Has ls l) none h)

  pub claims_there : (l : LockName × Mode) → Has (held_locks w.locks m q.claims) l → ClaimsX q ⊎ ClaimsV q
  claims_there l h = claims_has l (held-asked w.locks m q.claims l h)

  pub claims_waiting : waits_at w.locks m q.claims ≡ true → ClaimsX q ⊎ ClaimsV q
  claims_waiting = claims_wait

module _ (w : Plain) (good : Good w) where
  -- a node waits for V: by its rules, or for its command behind Q in PW
  abbrev pub WaitsForV : ℕ → NodeState → Type 0
  WaitsForV n s = ClaimsV s ⊎ Has (held_in PW (held_by w.locks n s)) Q

  -- ---- who holds V

  module _ (n : ℕ) (s : NodeState) (at : node_at w.nodes n ≡ Some s) (why : WaitsForV n s) (h : IsHolder w good n V) where
    abbrev m : ℕ
    m = h.node

    abbrev q : NodeState
    q = h.state

    in_kept : Has q.kept (V, h.mode) → ⊥
    in_kept k = absurd (let e : V ≡ X = (kept_x w good m q h.at V h.mode h.strong k).0 in cc)

    -- V was claimed, so it does not wait for that
    claimed : Has (held_locks w.locks m q.claims) (V, h.mode) → ClaimsV q
    claimed k = elim (claims_there w good m q h.at (V, h.mode) k) [
      | inl c ↦ absurd (let e : X ≡ V = ap (λ (y : LockName × Mode). y.0) (one_of q.claims (X, c.mode) (V, h.mode) c.claims (held-asked w.locks m q.claims (V, h.mode) k)) in cc)
      | inr c ↦ c
    ]

    -- it does not wait for a lock of its command either
    under_x : waits_at w.locks m q.asked ≡ true → gives_back w m q ≡ false → SharesX q ⊎ HasX q → ⊥
    under_x e gives (inl share) = elim share.why [
      | inl back ↦ absurd (let f : gives_back w m q ≡ true = ap (gives_back_in w m q) back in let z : true ≡ false = sym f ∙ gives in cc)
      | inr busy ↦ not_needing w good m q h.at busy.0 busy.3 busy.2 e
    ]
    under_x e gives (inr alone) = elim why [
      | inl mine_so ↦ by_kept mine_so.under
      | inr quota ↦ h.other (sym (sole_quota w good n m s q at h.at quota (busy_quota w good m q h.at alone.command alone.is alone.rules)))
    ] where
      theirs : Has (all_held w.locks m (rows_at w.nodes m)) (X, EX)
      theirs = subst (λ (rs : List Row). Has (all_held w.locks m rs) (X, EX)) (sym (ap rows_in h.at)) (kept_held w.locks m q (X, EX) (me w good m q h.at).rests alone.alone)

      by_mode : (mode : Mode) → rank CR ≤ rank mode → Has s.kept (X, mode) → ⊥
      by_mode mode le k =
          let ours : Has (all_held w.locks n (rows_at w.nodes n)) (X, mode) = subst (λ (rs : List Row). Has (all_held w.locks n rs) (X, mode)) (sym (ap rows_in at)) (kept_held w.locks n s (X, mode) (me w good n s at).rests k) in
          h.other (sym (exclusive_is_sole w.locks m n X mode (rows_at w.nodes) good.locked.0 good.locked.1 theirs ours le))

      by_kept : SharesX s ⊎ HasX s → ⊥
      by_kept (inl k) = by_mode CR (omega arith) k.shared
      by_kept (inr k) = by_mode EX (omega arith) k.alone

    by_claims : Has (held_locks w.locks m q.claims) (V, h.mode) → (waits_at w.locks m q.claims ≡ true) ⊎ ((gives_back w m q ≡ false) × (waits_at w.locks m q.asked ≡ true)) → ⊥
    by_claims k (inl e) = absurd (let f = claims_free w good m q h.at (V, PW) (V, h.mode) (claimed k).claims k in let z : true ≡ false = sym e ∙ f in cc)
    by_claims k (inr e) = under_x e.1 e.0 (claimed k).under

    by_asked : Has (held_locks w.locks m q.asked) (V, h.mode) → (waits_at w.locks m q.claims ≡ true) ⊎ ((gives_back w m q ≡ false) × (waits_at w.locks m q.asked ≡ true)) → ⊥
    by_asked k (inl e) = elim (claims_waiting w good m q h.at e) [
      | inl c ↦ v_not_busy w good m q h.at h.mode in_asked c.command c.is c.rules
      | inr c ↦ asked_apart q V (mine w good m q h.at).once (has_name q.asked V h.mode in_asked) (subst (λ (ls : Row). Has (names_of ls) V) (sym c.claims) (inl refl))
    ] where
      in_asked : Has q.asked (V, h.mode)
      in_asked = held-asked w.locks m q.asked (V, h.mode) k
    by_asked k (inr e) =
        let a = asks w good m q h.at e.1 in
        no_v_before w good m q h.at e.1 a (v_gives_none w good m q h.at h.mode (held-asked w.locks m q.asked (V, h.mode) k)) h.mode (in_front w good m q h.at e.1 a (V, h.mode) k)

    v_stands : stands w m q ≡ true → ⊥
    v_stands e =
        let parts = stands_parts (waits_at w.locks m q.claims) (gives_back w m q) (waits_at w.locks m q.asked) e in
        elim (held_where w good m q h.at (V, h.mode) h.has) [
          | inl k ↦ in_kept k
          | inr k ↦ elim k [ inl i ↦ by_asked i parts | inr i ↦ by_claims i parts ]
        ]

    pub v_moves : (k : ℕ) × Moves w k
    v_moves = by_stands (stands w m q) refl where
      by_stands : (b : Bool) → stands w m q ≡ b → (k : ℕ) × Moves w k
      by_stands false e = (m, moves_on w m q h.at h.on e)
      by_stands true e = absurd (v_stands e)

  far_v : (f : ℕ) → V ≢ A f
  far_v f e = absurd (cc e)

  far_x : (f : ℕ) → X ≢ A f
  far_x f e = absurd (cc e)

  row_claims : (s : NodeState) → Has (rows_of s) s.claims
  row_claims s = inr (inr (inl refl))

  -- a node that waits for a claim of V: somebody moves
  pub claim_v_moves : (n : ℕ) (s : NodeState) → node_at w.nodes n ≡ Some s → ClaimsV s → waits_at w.locks n s.claims ≡ true → (k : ℕ) × Moves w k
  claim_v_moves n s at c e =
      v_moves n s at (inl c) (holder w good n s (V, PW) [] at (subst (λ (ls : Row). Has (rows_of s) ls) c.claims (row_claims s)) (sym (ap (waits_at w.locks n) c.claims) ∙ e) far_v)

  -- ---- who holds X

  module _ (n : ℕ) (s : NodeState) (at : node_at w.nodes n ≡ Some s) (c : ClaimsX s) (h : IsHolder w good n X) where
    abbrev p : ℕ
    p = h.node

    abbrev r : NodeState
    r = h.state

    not_both : Has (held_in PW (held_by w.locks p r)) Q → ⊥
    not_both k = h.other (sym (sole_quota w good n p s r at h.at (busy_quota w good n s at c.command c.is c.rules) k))

    -- it keeps X
    x_kept : waits_at w.locks p r.claims ≡ true ⊎ (r.claims ≡ []) → Has r.kept (X, h.mode)
    x_kept so = elim (held_where w good p r h.at (X, h.mode) h.has) [
      | inl k ↦ k
      | inr k ↦ elim k [
        | inl i ↦ absurd (no_x_asked w good p r h.at h.mode (held-asked w.locks p r.asked (X, h.mode) i))
        | inr i ↦ absurd (elim so [
          | inl e ↦ by_claims (claims_there w good p r h.at (X, h.mode) i) i e
          | inr none ↦ subst (λ (ls : Row). Has (held_locks w.locks p ls) (X, h.mode)) none i
        ])
      ]
    ] where
      by_claims : ClaimsX r ⊎ ClaimsV r → Has (held_locks w.locks p r.claims) (X, h.mode) → waits_at w.locks p r.claims ≡ true → ⊥
      by_claims (inl d) i e = absurd (let f = claims_free w good p r h.at (X, d.mode) (X, h.mode) d.claims i in let z : true ≡ false = sym e ∙ f in cc)
      by_claims (inr d) i e = absurd (let f = claims_free w good p r h.at (V, PW) (X, h.mode) d.claims i in let z : true ≡ false = sym e ∙ f in cc)

    x_claims : waits_at w.locks p r.claims ≡ true → (k : ℕ) × Moves w k
    x_claims e = elim (claims_waiting w good p r h.at e) [
      | inl d ↦ absurd (kept_apart r X (mine w good p r h.at).once (has_name r.kept X h.mode (x_kept (inl e))) (inr (subst (λ (ls : Row). Has (names_of ls) X) (sym d.claims) (inl refl))))
      | inr d ↦ claim_v_moves p r h.at d e
    ]

    -- where no rule is begun, its give-back is due
    module _ (off : r.run.phase ≡ phase.Off) (none : r.claims ≡ []) (e : waits_at w.locks p r.asked ≡ true) where
      shared : Has r.kept (X, CR)
      shared = by_mode (kept_x w good p r h.at X h.mode h.strong (x_kept (inr none))).1 where
        by_mode : (h.mode ≡ CR) ⊎ (r.run.phase ≡ phase.Last) → Has r.kept (X, CR)
        by_mode (inl f) = subst (λ (y : Mode). Has r.kept (X, y)) f (x_kept (inr none))
        by_mode (inr f) = absurd (let z : phase.Off ≡ phase.Last = sym off ∙ f in cc)

      reads : is_reader (space_locks r).x ≡ true
      reads = ap is_reader (ap (mode_in X) (ap (λ (ls : Row). r.kept ++ ls) none ∙ append-nil r.kept) ∙ mode_is r.kept X CR (kept_once r (mine w good p r h.at).once) shared)

      not_v : has_asked V r.asked ≡ false
      not_v = by_test (has_asked V r.asked) refl where
        a : Asks w good p r h.at
        a = asks w good p r h.at e

        in_row : (ls : Row) → Has (names_of ls) V → (mode : Mode) × Has ls (V, mode)
        in_row [] k = absurd k
        in_row (l ∷ ls) (inl f) = (l.1, inl (ap (λ (y : LockName). (y, l.1)) f))
        in_row (l ∷ ls) (inr k) = let i = in_row ls k in (i.0, inr i.1)

        by_name : (name : LockName) → a.name ≡ name → name ≡ V → ⊥
        by_name name f g =
            not_both (quota_front w good p r h.at e a (subst (λ (y : LockName). ComesInTurn a.before.locks r.seen.number y) (f ∙ g) a.new.turn))

        asked_not : (mode : Mode) → Has r.asked (V, mode) → ⊥
        asked_not mode k = elim (has_parted a.before.locks ((a.name, a.mode) ∷ []) (V, mode) (subst (λ (ls : Row). Has ls (V, mode)) a.asked k)) [
          | inl i ↦ not_both (quota_front w good p r h.at e a (v_before w good p r h.at e a (v_gives_none w good p r h.at mode k) mode i))
          | inr i ↦ elim i [ inl f ↦ by_name a.name refl (ap (λ (y : LockName × Mode). y.0) f) | inr f ↦ f ]
        ]

        by_test : (b : Bool) → has_asked V r.asked ≡ b → has_asked V r.asked ≡ false
        by_test false f = f
        by_test true f = absurd (let k = in_row r.asked (asked_is r.asked V f) in asked_not k.0 k.1)

      due : gives_back w p r ≡ true
      due =
          let is : is_due (space_locks r) (roomless r.stock) (is_wanted w p) (has_asked V r.asked) (is_ended w p r) ≡ true
          = ap (λ b. (b && (is_wanted w p && not (has_asked V r.asked))) || (is_ended w p r && has_any (roomless r.stock))) reads
          ∙ ap (λ b. (b && not (has_asked V r.asked)) || (is_ended w p r && has_any (roomless r.stock))) h.up
          ∙ ap (λ b. not b || (is_ended w p r && has_any (roomless r.stock))) not_v in
          ap (gives_back_in w p r) off ∙ is

    x_asked : gives_back w p r ≡ false → waits_at w.locks p r.asked ≡ true → ⊥
    x_asked gives e = by_space (me w good p r h.at).space where
      by_space : Spaces r.cmd r.kept r.claims r.run r.stock r.seen → ⊥
      by_space (Off k) = absurd (let z : true ≡ false = sym (due (ap (λ (y : SpaceRun). y.phase) k.run) k.claims e) ∙ gives in cc)
      by_space (Back k) = absurd (let f : gives_back w p r ≡ true = ap (gives_back_in w p r) k.back in let z : true ≡ false = sym f ∙ gives in cc)
      by_space (Busy x f k) = not_both (busy_quota w good p r h.at x f k)

    pub x_moves : (k : ℕ) × Moves w k
    x_moves = by_stands (stands w p r) refl where
      by_stands : (b : Bool) → stands w p r ≡ b → (k : ℕ) × Moves w k
      by_stands false e = (p, moves_on w p r h.at h.on e)
      by_stands true e = elim (stands_parts (waits_at w.locks p r.claims) (gives_back w p r) (waits_at w.locks p r.asked) e) [
        | inl f ↦ x_claims f
        | inr f ↦ absurd (x_asked f.0 f.1)
      ]

  -- a node that waits for what its rules have claimed: somebody moves
  pub claims_move : (n : ℕ) (s : NodeState) → node_at w.nodes n ≡ Some s → waits_at w.locks n s.claims ≡ true → (k : ℕ) × Moves w k
  claims_move n s at e = elim (claims_waiting w good n s at e) [
    | inl c ↦ x_moves n s at c (holder w good n s (X, c.mode) [] at (subst (λ (ls : Row). Has (rows_of s) ls) c.claims (row_claims s)) (sym (ap (waits_at w.locks n) c.claims) ∙ e) far_x)
    | inr c ↦ claim_v_moves n s at c e
  ]

  -- a node whose command waits for V: somebody moves
  pub asked_v_moves : (n : ℕ) (s : NodeState) (at : node_at w.nodes n ≡ Some s) (e : waits_at w.locks n s.asked ≡ true) (a : Asks w good n s at) → a.name ≡ V → (k : ℕ) × Moves w k
  asked_v_moves n s at e a is =
      let row : s.asked ≡ a.before.locks ++ (V, a.mode) ∷ [] = a.asked ∙ ap (λ (y : LockName). a.before.locks ++ (y, a.mode) ∷ []) is in
      let quota : Has (held_in PW (held_by w.locks n s)) Q = quota_front w good n s at e a (subst (λ (y : LockName). ComesInTurn a.before.locks s.seen.number y) is a.new.turn) in
      v_moves n s at (inr quota) (holder w good n s (V, a.mode) a.before.locks at (subst (λ (ls : Row). Has (rows_of s) ls) row (inr (inl refl))) (sym (ap (waits_at w.locks n) row) ∙ e) far_v)
