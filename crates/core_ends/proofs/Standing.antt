-- What a node holds that waits for a lock of its command, or for what its rules for space have claimed.
use Rattle.std.proofs.Common.{◌≡◌, ◌≢◌, ◌⊎◌, ◌≤◌, ◌++◌, ◌||◌, ◌&&◌, not, ℕ, Bool, true, false, cond, List, [], ◌∷◌, Option, Some, None, append-nil, refl, sym, ap, subst, ◌∙◌, inl, inr, arith}
use Rattle.lock_db.specs.declared.name.LockName.{LockName}
use Rattle.lock_db.specs.declared.name.LockName.TheVariants.{S, A, Q, X, V}
use Rattle.plain_cat.specs.Modes.{rank}
use Rattle.plain_cat.specs.declared.mode.Mode.{Mode}
use Rattle.plain_cat.specs.declared.mode.Mode.TheVariants.{NL, CR, PW, EX}
use Rattle.plain_cat.specs.declared.command.Cmd.{Cmd}
use Rattle.plain_cat.specs.declared.cat.Cat.{Cat}
use Rattle.base_words.specs.Fields.{Block}
use Rattle.base_words.specs.Lists.{Has}
use Rattle.vol_spell.specs.Owners.{Owners, Outs}
use Rattle.vol_parts.specs.declared.geometry.Geometry.{Geometry}
use Rattle.base_words.proofs.Listing.{has_parted, has_first, has_second}
use Rattle.base_words.proofs.ListWrites.{stands_joined}
use Rattle.node_locks.specs.Held.{Row, names_of, HoldsItsLocks, is_queued_at, waits_at, held_locks, all_held}
use Rattle.node_locks.proofs.Keeping.{writers_are_sole}
use Rattle.node_locks.proofs.Standing.{waits-push, held-push, held-asked}
use Rattle.op_law.specs.declared.need.Need.TheVariants as need
use Rattle.op_law.specs.declared.need.Plan.{Plan}
use Rattle.op_law.specs.declared.seen.Seen.{Seen}
use Rattle.op_law.specs.Events.{space_of, HasNoSpace}
use Rattle.op_law.specs.Fits.{HasSeen, IsSeenOn}
use Rattle.op_law.specs.Laws.{held_in, takes_lock, ComesInTurn, IsNewLock}
use Rattle.core_space.specs.declared.run.Phase.{Phase}
use Rattle.core_space.specs.declared.run.Phase.TheVariants as phase
use Rattle.core_space.specs.declared.run.SpaceRun.{SpaceRun}
use Rattle.core_state.specs.Worlds.{NodeState, Plain, node_at, rows_of, rows_in, rows_at}
use Rattle.core_state.specs.Asks.{own_ask, with_ask}
use Rattle.core_state.specs.Stocks.{stock_now, looked_now}
use Rattle.core_state.specs.Searches.{begun_run, HasCome, NeedsSpace, Rules, Served, Given, Shared, Fills, Grabs, Filled, Drains, Alone, Looking, Taking, Taken, Refused, Spaces, Off, Back, Busy}
use Rattle.core_state.specs.Waiting.{WaitsForLock, IsAside, AsksForNumber}
use Rattle.core_state.specs.Goods.{under_with, IsAtPlan, IsAt, HasCommand, IsNode, Good, held_by}
use Rattle.core_state.proofs.Holding.{HasIn, in_held_is, is_in_held, held_grows, held_named}
use Rattle.core_state.proofs.Standing.{come_by}
use Rattle.core_state.proofs.Midway.{first_known, drive_so, outs_so, seen_so, wide_so}
use Rattle.core_ends.proofs.Behind.{quota_before}

-- ---- lists

pub last_same : {T : Type 0} (xs ys : List T) (x y : T) → xs ++ x ∷ [] ≡ ys ++ y ∷ [] → x ≡ y
last_same [] [] x y e = cc
last_same [] (z ∷ []) x y e = absurd (cc e)
last_same [] (z ∷ (u ∷ ys)) x y e = absurd (cc e)
last_same (z ∷ []) [] x y e = absurd (cc e)
last_same (z ∷ (u ∷ xs)) [] x y e = absurd (cc e)
last_same (z ∷ xs) (u ∷ ys) x y e = last_same xs ys x y (cc e)

-- a node that stands waits for what its rules have claimed, or else gives nothing back and waits for a lock of its command
pub stands_parts : (claims gives asked : Bool) → (claims || (not gives && asked)) ≡ true → (claims ≡ true) ⊎ ((gives ≡ false) × (asked ≡ true))
stands_parts true gives asked e = inl refl
stands_parts false true asked e = absurd (let f : false ≡ true = e in cc)
stands_parts false false asked e = inr (refl, e)

-- a lock of PW or more holds up nobody by NL
pub not_low : (mode : Mode) → rank PW ≤ rank mode → mode ≢ NL
not_low mode le e = absurd (let f : rank mode ≡ rank NL = ap rank e in omega arith)

s_not_q : (k : ℕ) → S k ≡ Q → ⊥
s_not_q k e = cc

-- ---- rules for space at work

pub at_work : (x : Cmd) (s : NodeState) → Rules x s.kept s.claims s.run s.stock s.seen → IsAside s.run.phase → ⊥
at_work x s r a = by_rules r where
  not_fill : s.run.phase ≡ phase.Fill → ⊥
  not_fill e = elim a [ inl f ↦ absurd (let z : phase.Fill ≡ phase.Off = sym e ∙ f in cc) | inr f ↦ absurd (let z : phase.Fill ≡ phase.Back = sym e ∙ f in cc) ]

  not_drain : s.run.phase ≡ phase.Drain → ⊥
  not_drain e = elim a [ inl f ↦ absurd (let z : phase.Drain ≡ phase.Off = sym e ∙ f in cc) | inr f ↦ absurd (let z : phase.Drain ≡ phase.Back = sym e ∙ f in cc) ]

  not_last : s.run.phase ≡ phase.Last → ⊥
  not_last e = elim a [ inl f ↦ absurd (let z : phase.Last ≡ phase.Off = sym e ∙ f in cc) | inr f ↦ absurd (let z : phase.Last ≡ phase.Back = sym e ∙ f in cc) ]

  of_run : (p : Phase) → s.run ≡ begun_run p → s.run.phase ≡ p
  of_run p e = ap (λ (h : SpaceRun). h.phase) e

  by_rules : Rules x s.kept s.claims s.run s.stock s.seen → ⊥
  by_rules (Served h) = not_fill (of_run phase.Fill h.run)
  by_rules (Given h) = not_fill (of_run phase.Fill h.run)
  by_rules (Shared h) = not_fill (of_run phase.Fill h.run)
  by_rules (Fills h) = not_fill h.filling.fill
  by_rules (Grabs h) = not_fill h.filling.fill
  by_rules (Filled h) = not_fill h.fill
  by_rules (Drains h) = not_drain h.drain
  by_rules (Alone h) = not_last (of_run phase.Last h.run)
  by_rules (Looking h) = not_last h.claimed_so.last
  by_rules (Taking h) = not_last h.found.claimed_so.last
  by_rules (Taken h) = not_last h.found.claimed_so.last
  by_rules (Refused h) = not_last h.claimed_so.last

-- X is claimed for a command that needs space
pub record ClaimsX (s : NodeState) : Type 0 where
  pub command : Cmd
  pub is : s.cmd ≡ Some command
  pub rules : Rules command s.kept s.claims s.run s.stock s.seen
  pub needs : NeedsSpace command s.seen
  pub mode : Mode
  pub claims : s.claims ≡ (X, mode) ∷ []

-- V is claimed under X in CR, for a give-back or for a command that needs space
pub record SharesX (s : NodeState) : Type 0 where
  pub shared : Has s.kept (X, CR)
  pub why : (s.run.phase ≡ phase.Back) ⊎ ((x : Cmd) × (s.cmd ≡ Some x) × Rules x s.kept s.claims s.run s.stock s.seen × NeedsSpace x s.seen)

-- or under X in EX
pub record HasX (s : NodeState) : Type 0 where
  pub alone : Has s.kept (X, EX)
  pub command : Cmd
  pub is : s.cmd ≡ Some command
  pub rules : Rules command s.kept s.claims s.run s.stock s.seen

pub record ClaimsV (s : NodeState) : Type 0 where
  pub claims : s.claims ≡ (V, PW) ∷ []
  pub under : SharesX s ⊎ HasX s

pub claims_so : (s : NodeState) → Spaces s.cmd s.kept s.claims s.run s.stock s.seen → (s.claims ≡ [] → ⊥) → ClaimsX s ⊎ ClaimsV s
claims_so s (Off h) some = absurd (some h.claims)
claims_so s (Back h) some = inr (record { claims = h.claims; under = inl (record { shared = h.shared; why = inl h.back }) })
claims_so s (Busy x e r) some = by_rules r where
  share : Has s.kept (X, CR) → s.claims ≡ (V, PW) ∷ [] → NeedsSpace x s.seen → ClaimsX s ⊎ ClaimsV s
  share k c n = inr (record { claims = c; under = inl (record { shared = k; why = inr (x, e, r, n) }) })

  alone : Has s.kept (X, EX) → s.claims ≡ (V, PW) ∷ [] → ClaimsX s ⊎ ClaimsV s
  alone k c = inr (record { claims = c; under = inr (record { alone = k; command = x; is = e; rules = r }) })

  by_rules : Rules x s.kept s.claims s.run s.stock s.seen → ClaimsX s ⊎ ClaimsV s
  by_rules (Served h) = absurd (some h.claims)
  by_rules (Given h) = absurd (some h.claims)
  by_rules (Shared h) = inl (record { command = x; is = e; rules = r; needs = h.needs; mode = CR; claims = h.claims })
  by_rules (Fills h) = share h.filling.shared h.filling.claims h.filling.needs
  by_rules (Grabs h) = share h.filling.shared h.filling.claims h.filling.needs
  by_rules (Filled h) = share h.shared h.claims h.needs
  by_rules (Drains h) = share h.shared h.claims h.needs
  by_rules (Alone h) = elim h.claims [ inl c ↦ absurd (some c.0) | inr c ↦ inl (record { command = x; is = e; rules = r; needs = h.needs; mode = EX; claims = c }) ]
  by_rules (Looking h) = alone h.claimed_so.alone h.claimed_so.claims
  by_rules (Taking h) = alone h.found.claimed_so.alone h.found.claimed_so.claims
  by_rules (Taken h) = alone h.found.claimed_so.alone h.found.claimed_so.claims
  by_rules (Refused h) = alone h.claimed_so.alone h.claimed_so.claims

module _ (w : Plain) (good : Good w) (n : ℕ) (s : NodeState) (at : node_at w.nodes n ≡ Some s) where
  pub me : IsNode w n s
  me = good.nodes n s at

  abbrev cat : Cat
  cat = good.running.cat

  abbrev base : List Block
  base = (drive_so w good n s at).base

  abbrev own : Owners
  own = (drive_so w good n s at).own

  pub mine : HoldsItsLocks w.locks n (rows_of s)
  mine = subst (λ (rs : List Row). HoldsItsLocks w.locks n rs) (ap rows_in at) (good.locked.1 n)

  -- what its command has seen stands in the committed blocks
  pub seen_on : (x : Cmd) → s.cmd ≡ Some x → IsSeenOn n x s.seen base own cat
  seen_on x cmd = record {
    spelt = (drive_so w good n s at).spelt;
    stands = ((stands_joined base (looked_now s.run) s.seen.blocks).0 (seen_so w good n s at)).1;
    stock = stock_now s.stock s.run;
    outs = subst (λ (o : Option Cmd). Outs n own (under_with w.locks n s o).took (stock_now s.stock s.run)) cmd (outs_so w good n s at);
    known = first_known w good n s at x cmd;
  }

  pub now : (x : Cmd) → s.cmd ≡ Some x → IsAt w n s x
  now x cmd = subst (HasCommand w n s) cmd me.command

  -- ---- it waits for a lock of its command

  -- this one, behind these, which it holds
  pub record Asks : Type 0 where
    pub command : Cmd
    pub is : s.cmd ≡ Some command
    pub name : LockName
    pub mode : Mode
    pub before : Seen
    pub locks : s.seen.locks ≡ before.locks ++ (name, mode) ∷ []
    pub asked : s.asked ≡ before.locks ++ (name, mode) ∷ []
    pub fits : HasSeen command before
    pub on : IsSeenOn n command before base own cat
    pub space : space_of before ≡ space_of s.seen
    pub new : IsNewLock command w.geometry good.running.drive.base good.running.drive.own cat before.locks s.seen.number name mode

  pub asks : waits_at w.locks n s.asked ≡ true → Asks
  asks e = by_cmd s.cmd refl me.command where
    by_seen : (x : Cmd) → s.cmd ≡ Some x → IsAt w n s x → s.asked ≡ s.seen.locks → WaitsForLock x s.asked s.seen → Asks
    by_seen x cmd i bare k =
        let locks : s.seen.locks ≡ k.before.locks ++ (k.name, k.mode) ∷ [] = ap (λ (y : Seen). y.locks) k.is in
        let on : IsSeenOn n x (record k.before { locks = k.before.locks ++ (k.name, k.mode) ∷ [] }) base own cat = subst (λ (y : Seen). IsSeenOn n x y base own cat) k.is (seen_on x cmd) in
        let first : IsSeenOn n x k.before base own cat = record { spelt = on.spelt; stands = on.stands; stock = on.stock; outs = on.outs; known = on.known } in
        let number : s.seen.number ≡ k.before.number = ap (λ (y : Seen). y.number) k.is in
        record {
          command = x;
          is = cmd;
          name = k.name;
          mode = k.mode;
          before = k.before;
          locks = locks;
          asked = bare ∙ locks;
          fits = k.fits;
          on = first;
          space = sym (ap space_of k.is);
          new = subst (λ (o : Option ℕ). IsNewLock x w.geometry base own cat k.before.locks o k.name k.mode) (sym number)
              (subst (λ (g : Geometry). IsNewLock x g base own cat k.before.locks k.before.number k.name k.mode) (sym (ap (λ (y : Seen). y.geometry) k.is) ∙ me.geometry) (i.lawful.needs n k.before base own cat (need.Lock k.name k.mode) k.fits first k.next));
        }

    by_plan : (x : Cmd) → s.cmd ≡ Some x → IsAt w n s x → (o : Option Plan) → s.plan ≡ o → IsAtPlan x (waits_at w.locks n s.asked) s.seen s.done s.tried o → Asks
    by_plan x cmd i None f p = by_seen x cmd i (i.same ∙ ap (λ (o : Option Plan). with_ask s.seen.locks (own_ask s.tried o)) f) (i.waits e)
    by_plan x cmd i (Some d) f p = absurd (let z : true ≡ false = sym e ∙ p.1 in cc)

    by_cmd : (o : Option Cmd) → s.cmd ≡ o → HasCommand w n s o → Asks
    by_cmd None f idle = absurd (let z : true ≡ false = sym e ∙ ap (waits_at w.locks n) idle.asked in cc)
    by_cmd (Some x) f i = by_plan x f i s.plan refl i.plan

  module _ (waiting : waits_at w.locks n s.asked ≡ true) (a : Asks) where
    queued : is_queued_at w.locks n (a.name, a.mode) ≡ true
    queued = sym (waits-push w.locks n a.before.locks (a.name, a.mode)) ∙ sym (ap (waits_at w.locks n) a.asked) ∙ waiting

    held_front : held_locks w.locks n s.asked ≡ a.before.locks
    held_front =
        let e : held_locks w.locks n ((a.name, a.mode) ∷ []) ≡ [] = ap (λ b. cond b [] ((a.name, a.mode) ∷ [])) queued in
        ap (held_locks w.locks n) a.asked ∙ held-push w.locks n a.before.locks (a.name, a.mode) ∙ ap (λ ls. a.before.locks ++ ls) e ∙ append-nil a.before.locks

    -- what it holds of the row is in front, and all of that it holds
    pub in_front : (l : LockName × Mode) → Has (held_locks w.locks n s.asked) l → Has a.before.locks l
    in_front l h = subst (λ (ls : Row). Has ls l) held_front h

    pub front_held : (l : LockName × Mode) → Has a.before.locks l → Has (held_by w.locks n s) l
    front_held l h = has_second (held_locks w.locks n s.kept) (held_locks w.locks n s.asked ++ (held_locks w.locks n s.claims ++ [])) l
        (has_first (held_locks w.locks n s.asked) (held_locks w.locks n s.claims ++ []) l (subst (λ (ls : Row). Has ls l) (sym held_front) h))

    pub quota_front : Has (held_in PW a.before.locks) Q → Has (held_in PW (held_by w.locks n s)) Q
    quota_front h = held_grows PW a.before.locks (held_by w.locks n s) Q front_held h

    -- V behind which it waits stands behind Q in PW
    pub v_before : HasNoSpace (space_of s.seen) → (mode : Mode) → Has a.before.locks (V, mode) → Has (held_in PW a.before.locks) Q
    v_before none mode h = quota_before n a.command a.before base own cat mode (now a.command a.is).lawful a.fits a.on (subst HasNoSpace (sym a.space) none) h

    -- where nothing was given, it holds no V
    pub no_v_before : HasNoSpace (space_of s.seen) → (mode : Mode) → Has a.before.locks (V, mode) → ⊥
    no_v_before none mode h = by_name a.name a.new.own a.new.new a.new.turn where
      quota : Has (names_of a.before.locks) Q
      quota = held_named PW a.before.locks Q (v_before none mode h)

      v_there : Has (names_of a.before.locks) V
      v_there = named a.before.locks h where
        named : (ls : Row) → Has ls (V, mode) → Has (names_of ls) V
        named [] k = absurd k
        named (l ∷ ls) (inl e) = inl (ap (λ (y : LockName × Mode). y.0) e)
        named (l ∷ ls) (inr k) = inr (named ls k)

      by_name : (name : LockName) → takes_lock a.command name ≡ true → (Has (names_of a.before.locks) name → ⊥) → ComesInTurn a.before.locks s.seen.number name → ⊥
      by_name (S k) o new turn = elim turn [ inl f ↦ f quota | inr f ↦ absurd (let z : None ≡ Some k = sym none.number ∙ f in cc) ]
      by_name (A f) o new turn = absurd (let z : false ≡ true = o in cc)
      by_name Q o new turn = new quota
      by_name X o new turn = absurd (let z : false ≡ true = o in cc)
      by_name V o new turn = new v_there

  -- ---- in which row it holds a lock

  pub held_where : (l : LockName × Mode) → Has (held_by w.locks n s) l → Has s.kept l ⊎ (Has (held_locks w.locks n s.asked) l ⊎ Has (held_locks w.locks n s.claims) l)
  held_where l h = elim (has_parted (held_locks w.locks n s.kept) (held_locks w.locks n s.asked ++ (held_locks w.locks n s.claims ++ [])) l h) [
    | inl k ↦ inl (held-asked w.locks n s.kept l k)
    | inr k ↦ elim (has_parted (held_locks w.locks n s.asked) (held_locks w.locks n s.claims ++ []) l k) [
      | inl i ↦ inr (inl i)
      | inr i ↦ inr (inr (subst (λ (ls : Row). Has ls l) (append-nil (held_locks w.locks n s.claims)) i))
    ]
  ]

  -- what its rules have claimed last it does not hold where it waits for it
  pub claims_free : (k l : LockName × Mode) → s.claims ≡ k ∷ [] → Has (held_locks w.locks n s.claims) l → waits_at w.locks n s.claims ≡ false
  claims_free k l one h = by_test (is_queued_at w.locks n k) refl where
    by_test : (b : Bool) → is_queued_at w.locks n k ≡ b → waits_at w.locks n s.claims ≡ false
    by_test false e = ap (waits_at w.locks n) one ∙ e
    by_test true e = absurd (subst (λ (ls : Row). Has ls l) (ap (held_locks w.locks n) one ∙ ap (λ b. cond b [] (k ∷ [])) e) h)

  -- ---- while its rules for space are at work, it holds Q in PW

  pub not_needing : (x : Cmd) → NeedsSpace x s.seen → Rules x s.kept s.claims s.run s.stock s.seen → waits_at w.locks n s.asked ≡ true → ⊥
  not_needing x needs r e = elim (me.asks e) [
    | inl a ↦ at_work x s r a
    | inr k ↦ absurd (let f : None ≡ Some k.file = sym needs.none.number ∙ k.given in cc)
  ]

  pub busy_quota : (x : Cmd) → s.cmd ≡ Some x → Rules x s.kept s.claims s.run s.stock s.seen → Has (held_in PW (held_by w.locks n s)) Q
  busy_quota x cmd r = by_wait (waits_at w.locks n s.asked) refl where
    come : HasCome x s.seen
    come = come_by x s.kept s.claims s.run s.stock s.seen r

    its : HasIn PW come.before Q
    its = in_held_is PW come.before Q come.quota

    in_locks : Has s.seen.locks (Q, its.in_mode)
    in_locks = subst (λ (ls : Row). Has ls (Q, its.in_mode)) (sym come.locks) (has_first come.before come.after (Q, its.in_mode) its.has)

    by_wait : (b : Bool) → waits_at w.locks n s.asked ≡ b → Has (held_in PW (held_by w.locks n s)) Q
    by_wait false e = wide_so w good n s at e Q (is_in_held PW s.seen.locks Q (record { in_mode = its.in_mode; has = in_locks; strong = its.strong }))
    by_wait true e = by_asks (asks e) (me.asks e) where
      by_asks : (a : Asks) → IsAside s.run.phase ⊎ AsksForNumber s.asked s.seen.number → Has (held_in PW (held_by w.locks n s)) Q
      by_asks a (inl aside) = absurd (at_work x s r aside)
      by_asks a (inr k) = quota_front e a (is_in_held PW a.before.locks Q (record {
        in_mode = its.in_mode;
        has = front_of (has_parted a.before.locks ((a.name, a.mode) ∷ []) (Q, its.in_mode) (subst (λ (ls : Row). Has ls (Q, its.in_mode)) a.locks in_locks));
        strong = its.strong;
      })) where
        same : ◌≡◌ {A = LockName × Mode} (a.name, a.mode) (S k.file, k.mode)
        same = last_same a.before.locks k.last.front (a.name, a.mode) (S k.file, k.mode) (sym a.asked ∙ k.last.last)

        front_of : Has {A = LockName × Mode} a.before.locks (Q, its.in_mode) ⊎ Has {A = LockName × Mode} ((a.name, a.mode) ∷ []) (Q, its.in_mode) → Has {A = LockName × Mode} a.before.locks (Q, its.in_mode)
        front_of (inl h) = h
        front_of (inr (inl f)) =
            let z : ◌≡◌ {A = LockName × Mode} (S k.file, k.mode) (Q, its.in_mode) = sym same ∙ f in
            absurd (s_not_q k.file (ap (λ (y : LockName × Mode). y.0) z))
        front_of (inr (inr f)) = absurd f

-- two nodes do not both hold Q in PW
pub sole_quota : (w : Plain) → Good w → (n m : ℕ) (s q : NodeState) → node_at w.nodes n ≡ Some s → node_at w.nodes m ≡ Some q → Has (held_in PW (held_by w.locks n s)) Q → Has (held_in PW (held_by w.locks m q)) Q → n ≡ m
sole_quota w good n m s q at there h k =
    let a = in_held_is PW (held_by w.locks n s) Q h in
    let b = in_held_is PW (held_by w.locks m q) Q k in
    let strong = b.strong in
    writers_are_sole w.locks n m Q a.in_mode b.in_mode (rows_at w.nodes) good.locked.0 good.locked.1
    (subst (λ (rs : List Row). Has (all_held w.locks n rs) (Q, a.in_mode)) (sym (ap rows_in at)) a.has)
    (subst (λ (rs : List Row). Has (all_held w.locks m rs) (Q, b.in_mode)) (sym (ap rows_in there)) b.has) a.strong (omega arith)
