-- Which locks of free space a node claims, and that each claim keeps the invariant.
use Rattle.std.proofs.Common.{◌≡◌, ◌≢◌, ◌≤◌, ◌+◌, ◌*◌, ◌⊎◌, ◌++◌, not, ℕ, true, false, cond, [], ◌∷◌, Option, Some, None, is_some, length, refl, sym, ap, subst, ◌∙◌, inl, inr, arith}
use Rattle.std.proofs.lemmas.List.{append-nil}
use Rattle.lock_db.specs.declared.name.LockName.{LockName}
use Rattle.lock_db.specs.declared.name.LockName.TheVariants.{A, X, V}
use Rattle.plain_cat.specs.Modes.{rank}
use Rattle.plain_cat.specs.declared.mode.Mode.{Mode}
use Rattle.plain_cat.specs.declared.mode.Mode.TheVariants.{NL, CR, CW, PW, EX}
use Rattle.plain_cat.specs.declared.command.Cmd.{Cmd}
use Rattle.node_locks.specs.Held.{Row, joined, names_of, waits_at, without}
use Rattle.node_locks.proofs.Nodes.{has_name_or_not}
use Rattle.base_words.specs.Lists.{Has, Once}
use Rattle.base_words.proofs.Listing.{has_first, has_second, has_parted}
use Rattle.op_law.specs.Events.{space_of}
use Rattle.op_law.specs.Needs.{events_of}
use Rattle.op_law.specs.Laws.{held_in, takes_lock}
use Rattle.core_space.specs.Answering.{blocks_alone}
use Rattle.core_space.specs.declared.run.Phase.{Phase}
use Rattle.core_space.specs.declared.run.Phase.TheVariants as phase
use Rattle.core_space.specs.declared.run.SpaceRun.{SpaceRun}
use Rattle.core_space.specs.Rule.{is_shared}
use Rattle.core_space.specs.Filling.{clusters_to_take, fill_place}
use Rattle.core_state.specs.Worlds.{empty_stock, NodeState, Plain, node_at, set_node}
use Rattle.core_state.specs.Asks.{is_claiming}
use Rattle.core_state.specs.Small.{lent, owed_in, owed, has_command}
use Rattle.core_state.specs.Stores.{IsKeptX, AreKept}
use Rattle.core_state.specs.Searches.{begun_run, wanted_by, numbered_by, lacks_by, is_enough, NeedsSpace, IsOff, AsksShared, Rules, Shared, Fills, Alone, Looking, Busy}
use Rattle.core_state.specs.Goods.{IsNode, Good}
use Rattle.core_state.specs.Events.{mode_in, is_out, turned, claiming}
use Rattle.node_locks.specs.Held.{system_of}
use Rattle.node_locks.specs.Taking.{taken}
use Rattle.core_space.specs.Searching.{found}
use Rattle.core_state.proofs.Holding.{in_held_is, held_grows, held_named}
use Rattle.core_state.proofs.Naming.{none_of, one_of, named_by, stays_without, from_without, mode_is, mode_has}
use Rattle.core_state.proofs.Keeping.{altered, kept_once, names_parted}
use Rattle.core_state.proofs.Beginning.{x_stays_without}
use Rattle.core_state.proofs.SmallWorlds.{OwesLess}
use Rattle.core_state.proofs.Seeking.{first_more, wants_some, none_in_order}
use Rattle.core_state.proofs.Turning.{under_command, drive, asks_now}
use Rattle.core_state.proofs.Claiming.{mine, claim_keeps}
use Rattle.core_state.proofs.CachedLooks.{claimed_store}
use Rattle.core_state.proofs.Fillings.{fill_first}

-- ---- what is kept

-- it is kept in another phase too
pub keeps_on : (q p : Phase) (ls : Row) → (q ≡ phase.Last → ⊥) ⊎ (p ≡ phase.Last) → AreKept q ls → AreKept p ls
keeps_on q p ls which keeps l h = elim (keeps l h) [
  | inl e ↦ inl e
  | inr e ↦ inr (
    e.0,
    elim e.1 [
      | inl f ↦ inl f
      | inr f ↦ elim which [ inl not_last ↦ absurd (not_last f) | inr last ↦ inr last ]
    ],
  )
]

-- where X is kept and all free space is not searched, it is in CR
pub x_in_cr : (p : Phase) (ls : Row) (m : Mode) → (p ≡ phase.Last → ⊥) → AreKept p ls → Has ls (X, m) → Has ls (X, CR)
x_in_cr p ls m not_last keeps h = elim (keeps (X, m) h) [
  | inl e ↦ absurd (let f : false ≡ true = e.0 in cc)
  | inr e ↦ elim e.1 [ inl f ↦ subst (λ (k : Mode). Has ls (X, k)) f h | inr f ↦ absurd (not_last f) ]
]

-- V is kept in NL
pub v_in_nl : (p : Phase) (ls : Row) → AreKept p ls → Has (names_of ls) V → Has ls (V, NL)
v_in_nl p ls keeps h =
    let k = named_by ls V h in
    elim (keeps (V, k.0) k.1) [
      | inl e ↦ subst (λ (m : Mode). Has ls (V, m)) e.1 k.1
      | inr e ↦ absurd (let f : V ≡ X = e.0 in cc)
    ]

pub not_shared : (ls : Row) → Once (names_of ls) → Has ls (X, CR) → is_shared (mode_in X ls) ≡ false → ⊥
not_shared ls once h e = absurd (let f : is_shared (mode_in X ls) ≡ true = ap is_shared (mode_is ls X CR once h) in let g : true ≡ false = sym f ∙ e in cc)

shared_has : (ls : Row) → is_shared (mode_in X ls) ≡ true → (m : Mode) × Has ls (X, m)
shared_has ls e = by_mode (mode_in X ls) refl where
  by_mode : (o : Option Mode) → mode_in X ls ≡ o → (m : Mode) × Has ls (X, m)
  by_mode None f = absurd (let g : true ≡ false = sym e ∙ ap is_shared f in cc)
  by_mode (Some m) f = (m, mode_has ls X m f)

pub x_not_a : (f : ℕ) → X ≢ A f
x_not_a f e = cc

pub v_not_a : (f : ℕ) → V ≢ A f
v_not_a f e = cc

-- ---- what is owed

pub owed_at : (s : NodeState) (x : Cmd) → s.cmd ≡ Some x → owed s ≡ owed_in s.run.phase (is_claiming s.claims) (lent s)
owed_at s x has = ap (λ (o : Option Cmd). cond (is_some o) (owed_in s.run.phase (is_claiming s.claims) (lent s)) (lent s)) has

owes_no_more : (s r : NodeState) → r.cmd ≡ s.cmd → owed r ≤ owed s → OwesLess s r
owes_no_more s r c le = let e : 4 * cond (has_command r) 1 0 ≡ 4 * cond (has_command s) 1 0 = ap (λ (o : Option Cmd). 4 * cond (is_some o) 1 0) c in omega arith

-- ---- a claim of V

module _ (w : Plain) (good : Good w) (n : ℕ) (s : NodeState) (at : node_at w.nodes n ≡ Some s) (on : is_out s ≡ false) where
  me : IsNode w n s
  me = good.nodes n s at

  -- V, of which the node has claimed nothing, and which its command has not
  pub v_new : (Has (names_of s.asked) V → ⊥) → ((l : LockName × Mode) → Has s.claims l → l.0 ≡ X) → (Has (names_of (joined ((s.kept ++ s.claims) ∷ (s.asked ∷ ([] ∷ []))))) V → ⊥) ⊎ Has (s.kept ++ s.claims) (V, NL)
  v_new not_asked claims_x = elim (has_name_or_not (names_of s.kept) V) [
    | inl h ↦ inr (has_first s.kept s.claims (V, NL) (v_in_nl s.run.phase s.kept me.store.kept h))
    | inr none ↦ inl (λ h. elim (names_parted (s.kept ++ s.claims) (s.asked ++ ([] ++ [])) V h) [
      | inl a ↦ elim (names_parted s.kept s.claims V a) [
        | inl b ↦ none b
        | inr b ↦ let k = named_by s.claims V b in absurd (let f : V ≡ X = claims_x (V, k.0) k.1 in cc)
      ]
      | inr c ↦ not_asked (subst (λ (ls : Row). Has (names_of ls) V) (append-nil s.asked) c)
    ])
  ]

  -- what is kept then
  pub v_keeps : (p : Phase) → AreKept p s.kept → ((l : LockName × Mode) → Has s.claims l → IsKeptX p l) → AreKept p (without V (s.kept ++ s.claims))
  v_keeps p keeps claims_x l h = elim (has_parted s.kept s.claims l (from_without (s.kept ++ s.claims) V l h).0) [ inl a ↦ keeps l a | inr b ↦ inr (claims_x l b) ]

  pub v_not_x : V ≢ X
  v_not_x e = cc

  pub x_goes_on : Has (held_in CR s.kept) X → Has (held_in CR (without V (s.kept ++ s.claims))) X
  x_goes_on h = x_stays_without (s.kept ++ s.claims) V v_not_x (held_grows CR s.kept (s.kept ++ s.claims) X (λ l k. has_first s.kept s.claims l k) h)

  pub no_claims : s.claims ≡ [] → (l : LockName × Mode) → Has s.claims l → l.0 ≡ X
  no_claims e l h = absurd (none_of s.claims l e h)

  pub no_claims_kept : (p : Phase) → s.claims ≡ [] → (l : LockName × Mode) → Has s.claims l → IsKeptX p l
  no_claims_kept p e l h = absurd (none_of s.claims l e h)

  -- ---- for its command

  module _ (x : Cmd) (cmd : s.cmd ≡ Some x) (free : waits_at w.locks n s.asked ≡ false) (no_plan : s.plan ≡ None) where
    -- it waits for nothing
    asks_free : {A : Type 0} → waits_at w.locks n s.asked ≡ true → A
    asks_free e = absurd (let f : true ≡ false = sym e ∙ free in cc)

    -- its command takes space, so it has not asked for V itself
    pub v_not_its : NeedsSpace x s.seen → Has (names_of s.asked) V → ⊥
    v_not_its needs h =
        let own : takes_lock x V ≡ true = (under_command w good n s at x cmd free).own V (subst (λ (ls : Row). Has (names_of ls) V) (asks_now w good n s at x cmd free no_plan) h) in
        let not_own : takes_lock x V ≡ false = ap not needs.come.takes in
        absurd (let f : true ≡ false = sym own ∙ not_own in cc)

    pub x_not_its : Has (names_of s.asked) X → ⊥
    x_not_its h = absurd (let f : false ≡ true = (under_command w good n s at x cmd free).own X (subst (λ (ls : Row). Has (names_of ls) X) (asks_now w good n s at x cmd free no_plan) h) in cc)

    -- X in CR, where the stock is not enough and X is not held so
    pub shared_keeps : IsOff s.claims s.run s.seen → NeedsSpace x s.seen → is_enough x s.seen s.stock ≡ false → is_shared (mode_in X (s.kept ++ s.claims)) ≡ false
        → Good (altered w (taken X (system_of n) CR w.locks) w.blocks (set_node w.nodes n (turned (claiming s phase.Fill X CR))) w.history)
    shared_keeps off needs lacking not_held =
        let r : NodeState = turned (claiming s phase.Fill X CR) in
        let bare : s.kept ++ s.claims ≡ s.kept = ap (λ ls. s.kept ++ ls) off.claims ∙ append-nil s.kept in
        let none : Has (names_of s.kept) X → ⊥ = λ h.
        let k = named_by s.kept X h in
        not_shared s.kept (kept_once s (mine w good n s at on).once) (x_in_cr s.run.phase s.kept k.0 (off_not_last off.run) me.store.kept k.1) (ap (λ ls. is_shared (mode_in X ls)) (sym bare) ∙ not_held) in
        let four : 4 + lent s ≡ owed s = sym (owed_at s x cmd ∙ ap (λ (h : SpaceRun). owed_in h.phase (is_claiming s.claims) (lent s)) off.run) in
        let now : owed r ≡ 4 = owed_at r x cmd in
        claim_keeps w good n s at on phase.Fill X CR (inl off.claims) (ap (waits_at w.locks n) off.claims) phase.Off off.run x_not_a (λ e. absurd (let f : CR ≡ CW = e in cc))
        (inl (λ h. elim (names_parted (s.kept ++ s.claims) (s.asked ++ ([] ++ [])) X h) [
          | inl a ↦ none (subst (λ (ls : Row). Has (names_of ls) X) bare a)
          | inr c ↦ x_not_its (subst (λ (ls : Row). Has (names_of ls) X) (append-nil s.asked) c)
        ]))
        asks_free
        (claimed_store s.run.phase phase.Fill s.kept s.claims s.cache X me.store
        (λ l h. keeps_on s.run.phase phase.Fill s.kept (inl (off_not_last off.run)) me.store.kept l (subst (λ (ls : Row). Has ls l) bare (from_without (s.kept ++ s.claims) X l h).0)) (no_claims off.claims))
        (λ h. absurd (none (named_in s.kept h)))
        (owes_no_more s r refl (omega arith))
        (Busy x cmd (Shared (record { run = λ i. record (off.run i) { phase = phase.Fill }; claims = refl; needs = needs; lacking = lacking }))) where
          off_not_last : s.run ≡ begun_run phase.Off → s.run.phase ≡ phase.Last → ⊥
          off_not_last e f = absurd (let g : phase.Off ≡ phase.Last = sym (ap (λ (h : SpaceRun). h.phase) e) ∙ f in cc)

          named_in : (ls : Row) → Has (held_in CR ls) X → Has (names_of ls) X
          named_in ls h = held_named CR ls X h

    -- V behind X in CR
    filling_so : (q : Phase) → s.run ≡ begun_run q → NeedsSpace x s.seen → is_enough x s.seen s.stock ≡ false → Has (s.kept ++ s.claims) (X, CR) → Rules x (without V (s.kept ++ s.claims)) ((V, PW) ∷ []) (record s.run { phase = phase.Fill }) s.stock s.seen
    filling_so q begun needs lacking shared = Fills (record {
      filling = record {
        fill = refl;
        shared = stays_without (s.kept ++ s.claims) V (X, CR) shared (λ e. absurd (let f : X ≡ V = e in cc));
        claims = refl;
        needs = needs;
        in_order = none_in_order s.seen.geometry 1 (lacks_by x s.seen s.stock) s.run.looked (ap (λ (h : SpaceRun). h.looked) begun);
      };
      lacking = lacking;
      more = ap (λ (h : SpaceRun). is_some (fill_place s.seen.geometry (clusters_to_take (wanted_by x s.seen) (length s.stock.clusters)) (lacks_by x s.seen s.stock) (blocks_alone h.looked))) begun
          ∙ fill_first s.seen.geometry (wanted_by x s.seen) (numbered_by x s.seen) s.stock (drive w good n s at x cmd free).spelt.counts.geometry lacking;
      writes = ap (λ (h : SpaceRun). h.writes) begun;
      made = ap (λ (h : SpaceRun). h.made) begun;
    })

    -- where X is held already
    pub fill_keeps : IsOff s.claims s.run s.seen → NeedsSpace x s.seen → is_enough x s.seen s.stock ≡ false → is_shared (mode_in X (s.kept ++ s.claims)) ≡ true
        → Good (altered w (taken V (system_of n) PW w.locks) w.blocks (set_node w.nodes n (turned (claiming s phase.Fill V PW))) w.history)
    fill_keeps off needs lacking held =
        let r : NodeState = turned (claiming s phase.Fill V PW) in
        let bare : s.kept ++ s.claims ≡ s.kept = ap (λ ls. s.kept ++ ls) off.claims ∙ append-nil s.kept in
        let k = shared_has (s.kept ++ s.claims) held in
        let shared : Has s.kept (X, CR) = x_in_cr s.run.phase s.kept k.0 not_last me.store.kept (subst (λ (ls : Row). Has ls (X, k.0)) bare k.1) in
        let four : 4 + lent s ≡ owed s = sym (owed_at s x cmd ∙ ap (λ (h : SpaceRun). owed_in h.phase (is_claiming s.claims) (lent s)) off.run) in
        let now : owed r ≡ 4 = owed_at r x cmd in
        claim_keeps w good n s at on phase.Fill V PW (inl off.claims) (ap (waits_at w.locks n) off.claims) phase.Off off.run v_not_a (λ e. absurd (let f : PW ≡ CW = e in cc))
        (v_new (v_not_its needs) (no_claims off.claims))
        asks_free
        (claimed_store s.run.phase phase.Fill s.kept s.claims s.cache V me.store (v_keeps phase.Fill (keeps_on s.run.phase phase.Fill s.kept (inl not_last) me.store.kept) (no_claims_kept phase.Fill off.claims)) (no_claims off.claims))
        x_goes_on (owes_no_more s r refl (omega arith))
        (Busy x cmd (filling_so phase.Off off.run needs lacking (has_first s.kept s.claims (X, CR) shared))) where
          not_last : s.run.phase ≡ phase.Last → ⊥
          not_last f = absurd (let g : phase.Off ≡ phase.Last = sym (ap (λ (h : SpaceRun). h.phase) off.run) ∙ f in cc)

    -- where X was claimed
    pub claimed_fill_keeps : AsksShared x s.claims s.run s.stock s.seen → waits_at w.locks n s.claims ≡ false → Good (altered w (taken V (system_of n) PW w.locks) w.blocks (set_node w.nodes n (turned (claiming s phase.Fill V PW))) w.history)
    claimed_fill_keeps h granted =
        let r : NodeState = turned (claiming s phase.Fill V PW) in
        let was : owed s ≡ 4 = owed_at s x cmd ∙ (λ i. owed_in (h.run i).phase (is_claiming (h.claims i)) (lent s)) in
        let now : owed r ≡ 4 = owed_at r x cmd in
        claim_keeps w good n s at on phase.Fill V PW (inr ((X, CR), h.claims)) granted phase.Fill h.run v_not_a (λ e. absurd (let f : PW ≡ CW = e in cc))
        (v_new (v_not_its h.needs) (λ l k. ap (λ (y : LockName × Mode). y.0) (sym (one_of s.claims (X, CR) l h.claims k))))
        asks_free
        (claimed_store s.run.phase phase.Fill s.kept s.claims s.cache V me.store
        (v_keeps phase.Fill (keeps_on s.run.phase phase.Fill s.kept (inl not_last) me.store.kept) (λ l k. let e = sym (one_of s.claims (X, CR) l h.claims k) in (ap (λ (y : LockName × Mode). y.0) e, inl (ap (λ (y : LockName × Mode). y.1) e))))
        (λ l k. ap (λ (y : LockName × Mode). y.0) (sym (one_of s.claims (X, CR) l h.claims k))))
        x_goes_on (owes_no_more s r refl (omega arith))
        (Busy x cmd (filling_so phase.Fill h.run h.needs h.lacking (has_second s.kept s.claims (X, CR) (subst (λ (ls : Row). Has ls (X, CR)) (sym h.claims) (inl refl))))) where
          not_last : s.run.phase ≡ phase.Last → ⊥
          not_last f = absurd (let g : phase.Fill ≡ phase.Last = sym (ap (λ (y : SpaceRun). y.phase) h.run) ∙ f in cc)

    -- X in EX, where it was lowered
    pub alone_keeps : (run : s.run ≡ begun_run phase.Last) → s.claims ≡ [] → Has s.kept (X, NL) → s.stock ≡ empty_stock → NeedsSpace x s.seen
        → Good (altered w (taken X (system_of n) EX w.locks) w.blocks (set_node w.nodes n (turned (claiming s phase.Last X EX))) w.history)
    alone_keeps run none has empty needs =
        let r : NodeState = turned (claiming s phase.Last X EX) in
        let bare : s.kept ++ s.claims ≡ s.kept = ap (λ ls. s.kept ++ ls) none ∙ append-nil s.kept in
        let was : owed s ≡ 3 = owed_at s x cmd ∙ ap (λ (h : SpaceRun). owed_in h.phase (is_claiming s.claims) (lent s)) run in
        let now : owed r ≡ 3 = owed_at r x cmd in
        claim_keeps w good n s at on phase.Last X EX (inl none) (ap (waits_at w.locks n) none) phase.Last run x_not_a (λ e. absurd (let f : EX ≡ CW = e in cc))
        (inr (has_first s.kept s.claims (X, NL) has))
        asks_free
        (claimed_store s.run.phase phase.Last s.kept s.claims s.cache X me.store
        (λ l h. keeps_on s.run.phase phase.Last s.kept (inr refl) me.store.kept l (subst (λ (ls : Row). Has ls l) bare (from_without (s.kept ++ s.claims) X l h).0)) (no_claims none))
        (λ h. absurd (weak s.kept (kept_once s (mine w good n s at on).once) has h))
        (owes_no_more s r refl (omega arith))
        (Busy x cmd (Alone (record { run = λ i. record (run i) { phase = phase.Last }; claims = inr refl; empty = empty; needs = needs }))) where
          weak : (ls : Row) → Once (names_of ls) → Has ls (X, NL) → Has (held_in CR ls) X → ⊥
          weak ls once h k =
              let i = in_held_is CR ls X k in
              let same : Some NL ≡ Some i.in_mode = sym (mode_is ls X NL once h) ∙ mode_is ls X i.in_mode once i.has in
              let m : NL ≡ i.in_mode = cc in
              let le : rank CR ≤ rank NL = subst (λ (y : Mode). rank CR ≤ rank y) (sym m) i.strong in
              absurd (omega arith)

    -- and V behind it
    pub last_keeps : (run : s.run ≡ begun_run phase.Last) → s.claims ≡ (X, EX) ∷ [] → waits_at w.locks n s.claims ≡ false → s.stock ≡ empty_stock → NeedsSpace x s.seen
        → Good (altered w (taken V (system_of n) PW w.locks) w.blocks (set_node w.nodes n (turned (claiming s phase.Last V PW))) w.history)
    last_keeps run claims granted empty needs =
        let r : NodeState = turned (claiming s phase.Last V PW) in
        let was : owed s ≡ 3 = owed_at s x cmd ∙ ap (λ (h : SpaceRun). owed_in h.phase (is_claiming s.claims) (lent s)) run in
        let now : owed r ≡ 3 = owed_at r x cmd in
        claim_keeps w good n s at on phase.Last V PW (inr ((X, EX), claims)) granted phase.Last run v_not_a (λ e. absurd (let f : PW ≡ CW = e in cc))
        (v_new (v_not_its needs) (λ l k. ap (λ (y : LockName × Mode). y.0) (sym (one_of s.claims (X, EX) l claims k))))
        asks_free
        (claimed_store s.run.phase phase.Last s.kept s.claims s.cache V me.store
        (v_keeps phase.Last (keeps_on s.run.phase phase.Last s.kept (inr refl) me.store.kept) (λ l k. let e = sym (one_of s.claims (X, EX) l claims k) in (ap (λ (y : LockName × Mode). y.0) e, inr refl)))
        (λ l k. ap (λ (y : LockName × Mode). y.0) (sym (one_of s.claims (X, EX) l claims k))))
        x_goes_on (owes_no_more s r refl (omega arith))
        (Busy x cmd (Looking (record {
          claimed_so = record {
            last = refl;
            alone = stays_without (s.kept ++ s.claims) V (X, EX) (has_second s.kept s.claims (X, EX) (subst (λ (ls : Row). Has ls (X, EX)) (sym claims) (inl refl))) (λ e. absurd (let f : X ≡ V = e in cc));
            claims = refl;
            empty = empty;
            come = needs.come;
            in_order = none_in_order s.seen.geometry (wanted_by x s.seen) (numbered_by x s.seen) s.run.looked (ap (λ (h : SpaceRun). h.looked) run);
          };
          needs = needs;
          more = ap (λ (h : SpaceRun). found s.seen.geometry (wanted_by x s.seen) (numbered_by x s.seen) (blocks_alone h.looked)) run
              ∙ first_more s.seen.geometry (wanted_by x s.seen) (numbered_by x s.seen) (drive w good n s at x cmd free).spelt.counts.geometry
              (wants_some (events_of s.seen.geometry s.seen.channel x) s.seen.locks s.seen.blocks (space_of s.seen) (wanted_by x s.seen) (numbered_by x s.seen) needs.none needs.next);
          writes = ap (λ (h : SpaceRun). h.writes) run;
          made = ap (λ (h : SpaceRun). h.made) run;
        })))
