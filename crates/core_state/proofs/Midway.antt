-- What a plan that is under way lets the rules for space do: its law and its guard are by what its command has seen, so the looks and
-- the writes of a give-back leave them.
use Rattle.std.proofs.Common.{◌≡◌, ◌++◌, ◌&&◌, ℕ, Bool, true, false, List, [], ◌∷◌, Option, Some, None, map, slice_get, slice_set, refl, sym, ap, subst, ◌∙◌}
use Rattle.base_words.specs.Fields.{Block}
use Rattle.lock_db.specs.declared.name.LockName.{LockName}
use Rattle.lock_db.specs.declared.name.LockName.TheVariants.{X, V}
use Rattle.plain_cat.specs.declared.mode.Mode.{Mode}
use Rattle.plain_cat.specs.declared.mode.Mode.TheVariants.{PW}
use Rattle.plain_cat.specs.declared.command.Cmd.{Cmd}
use Rattle.plain_cat.specs.declared.cat.Cat.{Cat}
use Rattle.node_locks.specs.Held.{Row, names_of, waits_at}
use Rattle.base_words.specs.Lists.{Has, Touches, StandsIn}
use Rattle.vol_spell.specs.Owners.{Owners, Things, Outs}
use Rattle.base_words.proofs.ListWrites.{stands_joined}
use Rattle.vol_parts.specs.declared.geometry.Geometry.{Geometry}
use Rattle.vol_spell.specs.Spelling.{Spells}
use Rattle.vol_under.specs.Guards.{guard_of, MayWrite, MayLook}
use Rattle.vol_under.specs.UnderWay.{bare, UnderWay, writes_to, changed, AreSole}
use Rattle.vol_under.specs.Under.{IsLawful, IsUnder}
use Rattle.vol_under.specs.Keeping.{Refills, IsBitmap}
use Rattle.vol_under.proofs.Guarding.{bitmap_guard, wider_write}
use Rattle.vol_under.proofs.Nodes.{each, changed_here, done_in}
use Rattle.vol_under.proofs.Steps.{idle_lawful}
use Rattle.op_law.specs.declared.need.Ask.{Ask}
use Rattle.op_law.specs.declared.need.Plan.{Plan}
use Rattle.op_law.specs.Fits.{things}
use Rattle.op_law.specs.Knows.{knows, is_granted}
use Rattle.op_law.specs.Laws.{held_in, planned, under_way, IsPlan}
use Rattle.vol_under.specs.Planned.{IsPlanGuarded}
use Rattle.vol_under.proofs.Planning.{forget_keeps, lower_keeps}
use Rattle.core_state.specs.Committed.{IsUnderOn, on_its_own, of_it}
use Rattle.core_state.proofs.Committed.{alike_on, look_on, bits_keep_on}
use Rattle.core_state.specs.Worlds.{NodeState, Plain, node_at}
use Rattle.core_state.specs.Asks.{writes_by, granted_by, own_ask, known_with, knows_now}
use Rattle.core_state.specs.Stocks.{looked_now}
use Rattle.core_state.specs.Goods.{command_under, under_with, nodes_under, IsAtPlan, IsAt, HasCommand, IsNode, Good, held_by}
use Rattle.core_state.proofs.Holding.{held_grows, held_named}
use Rattle.core_state.proofs.Driving.{law_grows}
use Rattle.core_state.proofs.Running.{all_asked, under_here}
use Rattle.core_state.proofs.Taking.{BitsBy, GrabsBy, its_outs, its_seen, still_sole, changed_twice}
use Rattle.core_state.proofs.Standing.{locks_within, is_known}
use Rattle.core_state.proofs.Turning.{first_lawful, first_guarded}
use Rattle.core_state.proofs.Trying.{still_granted, both}

-- ---- laws of the rules for space, over committed blocks that are named

forget_on : (g : Geometry) (c : Cat) (base : List Block) (own : Owners) (nodes : ℕ → UnderWay) (drive : List Block) (n : ℕ) (seen : List (ℕ × Block)) → IsUnderOn g c base own nodes drive
    → ((b : ℕ × Block) → Has seen b → Has (nodes n).seen b) → IsLawful g n (record (nodes n) { seen = seen }) → IsUnderOn g c base own (changed nodes n (record (nodes n) { seen = seen })) drive
unfolding forget_keeps
forget_on g c base own nodes drive n seen u among law =
    on_its_own g c (changed nodes n (record (nodes n) { seen = seen })) drive (forget_keeps g c nodes drive n seen (of_it g c base own nodes drive u) among law)

lower_on : (g : Geometry) (c : Cat) (base : List Block) (own : Owners) (nodes : ℕ → UnderWay) (drive : List Block) (n : ℕ) (read write : List LockName) → IsUnderOn g c base own nodes drive
    → ((name : LockName) → (name ≡ V → ⊥) → (name ≡ X → ⊥) → Has (nodes n).read name → Has read name) → ((name : LockName) → (name ≡ V → ⊥) → (name ≡ X → ⊥) → Has (nodes n).write name → Has write name)
    → ((l : ℕ) → Touches (nodes n).seen l → IsBitmap g l → ⊥) → ((l : ℕ) → Touches (bare (nodes n).plan) l → IsBitmap g l → ⊥) → IsUnderOn g c base own (changed nodes n (record (nodes n) { read = read; write = write })) drive
unfolding lower_keeps
lower_on g c base own nodes drive n read write u reads writes unseen unplanned =
    on_its_own g c (changed nodes n (record (nodes n) { read = read; write = write })) drive (lower_keeps g c nodes drive n read write (of_it g c base own nodes drive u) reads writes unseen unplanned)

-- ---- a node that is known to stand as u

module _ (g : Geometry) (c : Cat) (base : List Block) (own : Owners) (nodes : ℕ → UnderWay) (drive : List Block) (n : ℕ) (u : UnderWay) (is : nodes n ≡ u) (under : IsUnderOn g c base own nodes drive) where
  looks_more : AreSole nodes → (l : ℕ) (b : Block) → (Touches (writes_to u.done u) l → ⊥) → slice_get drive l ≡ Some b → MayLook u.read (guard_of g own l)
      → IsUnderOn g c base own (changed nodes n (record u { seen = (l, b) ∷ u.seen })) drive
  looks_more sole l b untouched at may =
      let P : UnderWay → Type 0 = λ v. (Touches (writes_to v.done v) l → ⊥) → MayLook v.read (guard_of g own l) → IsUnderOn g c base own (changed nodes n (record v { seen = (l, b) ∷ v.seen })) drive in
      subst P is (λ t m. look_on g c base own nodes drive n l b sole under t at m) untouched may

  forgets : (seen : List (ℕ × Block)) → ((b : ℕ × Block) → Has seen b → Has u.seen b) → IsLawful g n (record u { seen = seen }) → IsUnderOn g c base own (changed nodes n (record u { seen = seen })) drive
  forgets seen among law =
      let P : UnderWay → Type 0 = λ v. ((b : ℕ × Block) → Has seen b → Has v.seen b) → IsLawful g n (record v { seen = seen }) → IsUnderOn g c base own (changed nodes n (record v { seen = seen })) drive in
      subst P is (λ a l. forget_on g c base own nodes drive n seen under a l) among law

  refills : AreSole nodes → (l : ℕ) (old b : Block) (stock : Things) → (Touches (writes_to u.done u) l → ⊥) → IsBitmap g l → Has u.write V → (Touches u.seen l → ⊥) → slice_get drive l ≡ Some old
      → (slice_get base l ≡ Some old → Refills g n u.took stock l b base own c) → IsPlanGuarded g c n (record u { stock = stock }) → BitsBy g c base own nodes drive n u l b stock
  refills sole l old b stock untouched bitmap holds unseen at refill guarded =
      let P : UnderWay → Type 0 = λ v. (Touches (writes_to v.done v) l → ⊥) → Has v.write V → (Touches v.seen l → ⊥) → (slice_get base l ≡ Some old → Refills g n v.took stock l b base own c)
      → IsPlanGuarded g c n (record v { stock = stock }) → BitsBy g c base own nodes drive n v l b stock in
      subst P is (λ t h s r k. let z = bits_keep_on g c base own nodes drive n l old b stock sole under t bitmap h s at r k in record { new = z.new; moves = z.moves; under = z.under }) untouched holds unseen refill guarded

  lowers : (read write : List LockName) → ((name : LockName) → (name ≡ V → ⊥) → (name ≡ X → ⊥) → Has u.read name → Has read name) → ((name : LockName) → (name ≡ V → ⊥) → (name ≡ X → ⊥) → Has u.write name → Has write name)
      → ((l : ℕ) → Touches u.seen l → IsBitmap g l → ⊥) → ((l : ℕ) → Touches (bare u.plan) l → IsBitmap g l → ⊥) → IsUnderOn g c base own (changed nodes n (record u { read = read; write = write })) drive
  lowers read write reads writes unseen unplanned =
      let P : UnderWay → Type 0 = λ v. ((name : LockName) → (name ≡ V → ⊥) → (name ≡ X → ⊥) → Has v.read name → Has read name) → ((name : LockName) → (name ≡ V → ⊥) → (name ≡ X → ⊥) → Has v.write name → Has write name)
      → ((l : ℕ) → Touches v.seen l → IsBitmap g l → ⊥) → ((l : ℕ) → Touches (bare v.plan) l → IsBitmap g l → ⊥) → IsUnderOn g c base own (changed nodes n (record v { read = read; write = write })) drive in
      subst P is (λ r w s p. lower_on g c base own nodes drive n read write under r w s p) reads writes unseen unplanned

twice : (g : Geometry) (c : Cat) (base : List Block) (own : Owners) (nodes : ℕ → UnderWay) (drive : List Block) (n : ℕ) (a b : UnderWay) → IsUnderOn g c base own (changed (changed nodes n a) n b) drive → IsUnderOn g c base own (changed nodes n b) drive
twice g c base own nodes drive n a b u = alike_on g c base own (changed (changed nodes n a) n b) (changed nodes n b) drive (λ m. changed_twice nodes n a b m) u

-- ---- in two steps

module _ (g : Geometry) (c : Cat) (nodes : ℕ → UnderWay) (drive : List Block) (n : ℕ) (u : UnderWay) (is : nodes n ≡ u) (under : IsUnder g c nodes drive) where
  abbrev on : IsUnderOn g c under.base under.own nodes drive
  on = on_its_own g c nodes drive under

  -- it looks at a block, and of what it has seen then these are left
  pub looks : AreSole nodes → (l : ℕ) (b : Block) → (Touches (writes_to u.done u) l → ⊥) → slice_get drive l ≡ Some b → MayLook u.read (guard_of g under.own l)
      → (seen : List (ℕ × Block)) → ((y : ℕ × Block) → Has seen y → Has ((l, b) ∷ u.seen) y) → IsLawful g n (record u { seen = seen }) → IsUnderOn g c under.base under.own (changed nodes n (record u { seen = seen })) drive
  looks sole l b untouched at may seen among law =
      let a : UnderWay = record u { seen = (l, b) ∷ u.seen } in
      twice g c under.base under.own nodes drive n a (record u { seen = seen })
      (forgets g c under.base under.own (changed nodes n a) drive n a (changed_here nodes n a) (looks_more g c under.base under.own nodes drive n u is on sole l b untouched at may) seen among law)

  -- it writes to a bitmap: of what it has seen these are left, and of its stock this
  pub rewrites_it : AreSole nodes
      → (l : ℕ) (old b : Block) (stock : Things) (seen : List (ℕ × Block)) → ((y : ℕ × Block) → Has seen y → Has u.seen y) → IsLawful g n (record u { seen = seen })
      → (Touches (writes_to u.done u) l → ⊥) → IsBitmap g l → Has u.write V → (Touches seen l → ⊥) → slice_get drive l ≡ Some old
      → (slice_get under.base l ≡ Some old → Refills g n u.took stock l b under.base under.own c)
      → IsPlanGuarded g c n (record u { seen = seen; stock = stock }) → GrabsBy g c under.base under.own (changed nodes n (record u { seen = seen; stock = stock })) drive n l b
  rewrites_it sole l old b stock seen among law untouched bitmap holds unseen at refill guarded =
      let a : UnderWay = record u { seen = seen } in
      let same_read = each (λ m (v : UnderWay). v.read ≡ (nodes m).read) nodes n a (sym (ap (λ (v : UnderWay). v.read) is)) (λ m ne. refl) in
      let same_write = each (λ m (v : UnderWay). v.write ≡ (nodes m).write) nodes n a (sym (ap (λ (v : UnderWay). v.write) is)) (λ m ne. refl) in
      let z = refills g c under.base under.own (changed nodes n a) drive n a (changed_here nodes n a) (forgets g c under.base under.own nodes drive n u is on seen among law) (still_sole nodes (changed nodes n a) same_read same_write sole)
      l old b stock untouched bitmap holds unseen at refill guarded in
      record { new = z.new; moves = z.moves; under = twice g c (slice_set under.base l b) z.new nodes (slice_set drive l b) n a (record u { seen = seen; stock = stock }) z.under }

  -- it lowers its locks of free space: of what it has seen these are left
  pub lowers_them : (seen : List (ℕ × Block)) → ((y : ℕ × Block) → Has seen y → Has u.seen y) → IsLawful g n (record u { seen = seen })
      → (read write : List LockName) → ((name : LockName) → (name ≡ V → ⊥) → (name ≡ X → ⊥) → Has u.read name → Has read name) → ((name : LockName) → (name ≡ V → ⊥) → (name ≡ X → ⊥) → Has u.write name → Has write name)
      → ((l : ℕ) → Touches seen l → IsBitmap g l → ⊥) → ((l : ℕ) → Touches (bare u.plan) l → IsBitmap g l → ⊥) → IsUnderOn g c under.base under.own (changed nodes n (record u { seen = seen; read = read; write = write })) drive
  lowers_them seen among law read write reads writes unseen unplanned =
      let a : UnderWay = record u { seen = seen } in
      twice g c under.base under.own nodes drive n a (record u { seen = seen; read = read; write = write })
      (lowers g c under.base under.own (changed nodes n a) drive n a (changed_here nodes n a) (forgets g c under.base under.own nodes drive n u is on seen among law) read write reads writes unseen unplanned)

module _ (w : Plain) (good : Good w) (n : ℕ) (s : NodeState) (at : node_at w.nodes n ≡ Some s) where
  abbrev cat : Cat
  cat = good.running.cat

  me : IsNode w n s
  me = good.nodes n s at

  -- what its command takes for granted of the catalogue is so, and its ask is granted where it was
  module _ (x : Cmd) (cmd_is : s.cmd ≡ Some x) where
    now : IsAt w n s x
    now = subst (HasCommand w n s) cmd_is me.command

    pub first_known : knows n x s.seen cat ≡ true
    first_known = is_known w good n s at x cmd_is now (under_here w.locks w.nodes n s at ∙ ap (under_with w.locks n s) cmd_is)
        (subst (λ (g : Geometry). IsUnder g cat (nodes_under w.locks w.nodes) w.blocks) (sym me.geometry) good.running.drive)

    plan_known : (o : Option Plan) → s.plan ≡ o → IsAtPlan x (waits_at w.locks n s.asked) s.seen s.done s.tried o → knows_now n x s.seen s.tried o cat ≡ true
    plan_known None e i = first_known
    plan_known (Some p) e i = by_tried s.tried refl p.ask refl where
      by_tried : (b : Bool) → s.tried ≡ b → (o : Option Ask) → p.ask ≡ o → known_with n (knows n x s.seen) (granted_by b o) cat ≡ true
      by_tried false t o a = first_known
      by_tried true t None a = first_known
      by_tried true t (Some a) is = both (knows n x s.seen cat) (is_granted n a cat) first_known (still_granted w good n s at x cmd_is i.1 p e a is t)

    pub all_known : knows_now n x s.seen s.tried s.plan cat ≡ true
    all_known = plan_known s.plan refl now.plan

    -- the law of its plan
    abbrev IsLawOf : Bool → Option Plan → Type 0
    IsLawOf tried plan = (more : List (ℕ × Block)) (read write : List LockName) (stock : Things) → (waits_at w.locks n s.asked ≡ false → (name : LockName) → Has (held_in PW s.seen.locks) name → Has write name)
        → IsLawful s.seen.geometry n (record (command_under n s.seen tried plan s.done (Some x)) { read = read; write = write; seen = more ++ s.seen.blocks; stock = stock })

    -- and its guard
    abbrev IsGuardOf : Bool → Option Plan → Type 0
    IsGuardOf tried plan = (base : List Block) (own : Owners) (stock : Things) → Spells s.seen.geometry base own cat → StandsIn base s.seen.blocks → Outs n own (things s.seen.clusters s.seen.number) stock
        → (l : ℕ) → Touches (bare (command_under n s.seen tried plan s.done (Some x)).plan) l → MayWrite n (held_in PW s.seen.locks) (guard_of s.seen.geometry own l)

    -- both of a plan, where its ask was granted or not
    abbrev IsBoth : Plan → Bool → Option Ask → Type 0
    IsBoth p b o = ((more : List (ℕ × Block)) (read write : List LockName) (stock : Things) → (waits_at w.locks n s.asked ≡ false → (name : LockName) → Has (held_in PW s.seen.locks) name → Has write name)
        → IsLawful s.seen.geometry n (record (under_way x s.seen (writes_by o b p.writes) (known_with n (knows n x s.seen) (granted_by b o))) { done = s.done; read = read; write = write; seen = more ++ s.seen.blocks; stock = stock }))
        × ((base : List Block) (own : Owners) (stock : Things) → Spells s.seen.geometry base own cat → StandsIn base s.seen.blocks → Outs n own (things s.seen.clusters s.seen.number) stock
        → (l : ℕ) → Touches (bare (map planned (writes_by o b p.writes))) l → MayWrite n (held_in PW s.seen.locks) (guard_of s.seen.geometry own l))

    plan_law : (o : Option Plan) → s.plan ≡ o → IsAtPlan x (waits_at w.locks n s.asked) s.seen s.done s.tried o → IsLawOf s.tried o × IsGuardOf s.tried o
    plan_law None e i = (
      (λ more read write stock wide. idle_lawful s.seen.geometry n (record (command_under n s.seen s.tried None s.done (Some x)) { read = read; write = write; seen = more ++ s.seen.blocks; stock = stock }) refl),
      (λ base own stock spelt stands outs l t. absurd t),
    )
    plan_law (Some p) e i = by_tried s.tried refl p.ask refl where
      whole : IsPlan n x s.seen p p.ask
      whole = now.lawful.plans n s.seen p now.seen i.0

      first_both : (o : Option Ask) → p.ask ≡ o → IsBoth p false o
      first_both o a =
          let law : IsPlan n x s.seen p o = subst (IsPlan n x s.seen p) a whole in (
            (λ more read write stock wide. law_grows s.seen.geometry n (under_way x s.seen (writes_by o false p.writes) (knows n x s.seen)) read write more s.done stock (wide i.1) (first_lawful n x s.seen p o law)),
            (λ base own stock spelt stands outs l t. first_guarded n x s.seen p o law base own cat stock spelt first_known stands outs l t),
          )

      by_tried : (b : Bool) → s.tried ≡ b → (o : Option Ask) → p.ask ≡ o → IsBoth p b o
      by_tried false t o a = first_both o a
      by_tried true t None a =
          let law : IsPlan n x s.seen p None = subst (IsPlan n x s.seen p) a whole in (
            (λ more read write stock wide. law_grows s.seen.geometry n (under_way x s.seen p.writes (knows n x s.seen)) read write more s.done stock (wide i.1) law.lawful),
            (λ base own stock spelt stands outs l h. law.guarded base own cat stock spelt first_known stands outs l h),
          )
      by_tried true t (Some a) ask =
          let law : IsPlan n x s.seen p (Some a) = subst (IsPlan n x s.seen p) ask whole in
          let known = both (knows n x s.seen cat) (is_granted n a cat) first_known (still_granted w good n s at x cmd_is i.1 p e a ask t) in (
            (λ more read write stock wide. law_grows s.seen.geometry n (under_way x s.seen p.writes (λ c. knows n x s.seen c && is_granted n a c)) read write more s.done stock (wide i.1) law.1.lawful),
            (λ base own stock spelt stands outs l h. law.1.guarded base own cat stock spelt known stands outs l h),
          )

    pub its_law : IsLawOf s.tried s.plan
    its_law = (plan_law s.plan refl now.plan).0

    pub its_guard : IsGuardOf s.tried s.plan
    its_guard = (plan_law s.plan refl now.plan).1

  -- ---- with its command or without one

  abbrev u : UnderWay
  u = under_with w.locks n s s.cmd

  pub here_so : nodes_under w.locks w.nodes n ≡ u
  here_so = under_here w.locks w.nodes n s at

  -- the drive, by the geometry that its command has seen
  pub drive_so_on : IsUnderOn s.seen.geometry cat good.running.drive.base good.running.drive.own (nodes_under w.locks w.nodes) w.blocks
  drive_so_on = subst (λ (g : Geometry). IsUnderOn g cat good.running.drive.base good.running.drive.own (nodes_under w.locks w.nodes) w.blocks) (sym me.geometry) (on_its_own w.geometry cat (nodes_under w.locks w.nodes) w.blocks good.running.drive)

  abbrev pub drive_so : IsUnder s.seen.geometry good.running.cat (nodes_under w.locks w.nodes) w.blocks
  drive_so = of_it s.seen.geometry good.running.cat good.running.drive.base good.running.drive.own (nodes_under w.locks w.nodes) w.blocks drive_so_on

  pub outs_so : Outs n drive_so.own u.took u.stock
  outs_so = its_outs s.seen.geometry cat (nodes_under w.locks w.nodes) w.blocks n u here_so drive_so

  pub seen_so : StandsIn drive_so.base u.seen
  seen_so = its_seen s.seen.geometry cat (nodes_under w.locks w.nodes) w.blocks n u here_so drive_so

  pub law_so : (more : List (ℕ × Block)) (read write : List LockName) (stock : Things) → (waits_at w.locks n s.asked ≡ false → (name : LockName) → Has (held_in PW s.seen.locks) name → Has write name)
      → IsLawful s.seen.geometry n (record u { read = read; write = write; seen = more ++ s.seen.blocks; stock = stock })
  law_so more read write stock wide = by_cmd s.cmd refl where
    by_cmd : (o : Option Cmd) → s.cmd ≡ o → IsLawful s.seen.geometry n (record (command_under n s.seen s.tried s.plan s.done o) { read = read; write = write; seen = more ++ s.seen.blocks; stock = stock })
    by_cmd None e = idle_lawful s.seen.geometry n (record (command_under n s.seen s.tried s.plan s.done None) { read = read; write = write; seen = more ++ s.seen.blocks; stock = stock }) refl
    by_cmd (Some x) e = its_law x e more read write stock wide

  pub guard_so : (base : List Block) (own : Owners) (stock : Things) → Spells s.seen.geometry base own cat → StandsIn base s.seen.blocks → Outs n own u.took stock
      → (l : ℕ) → Touches (bare u.plan) l → MayWrite n (held_in PW s.seen.locks) (guard_of s.seen.geometry own l)
  guard_so = by_cmd s.cmd refl where
    by_cmd : (o : Option Cmd) → s.cmd ≡ o → (base : List Block) (own : Owners) (stock : Things) → Spells s.seen.geometry base own cat → StandsIn base s.seen.blocks → Outs n own (command_under n s.seen s.tried s.plan s.done o).took stock
        → (l : ℕ) → Touches (bare (command_under n s.seen s.tried s.plan s.done o).plan) l → MayWrite n (held_in PW s.seen.locks) (guard_of s.seen.geometry own l)
    by_cmd None e base own stock spelt stands outs l t = absurd t
    by_cmd (Some x) e base own stock spelt stands outs l t = its_guard x e base own stock spelt stands outs l t

  -- the locks of its command are among those that it has asked for
  pub locks_so : (l : LockName × Mode) → Has s.seen.locks l → Has s.asked l
  locks_so l h = by_cmd s.cmd refl me.command where
    by_cmd : (o : Option Cmd) → s.cmd ≡ o → HasCommand w n s o → Has s.asked l
    by_cmd None e idle = absurd (let f : Has (let ls : Row = [] in ls) l = subst (λ (ls : Row). Has ls l) idle.locks h in f)
    by_cmd (Some x) e i = locks_within (own_ask s.tried s.plan) s.asked s.seen i.same l h

  -- and where it does not wait it holds them
  pub wide_so : waits_at w.locks n s.asked ≡ false → (name : LockName) → Has (held_in PW s.seen.locks) name → Has (held_in PW (held_by w.locks n s)) name
  wide_so free name h = held_grows PW s.seen.locks (held_by w.locks n s) name (λ l k. all_asked w.locks n s l free (locks_so l k)) h

  -- a node that writes by a plan does not wait
  plan_free : (l : ℕ) → Touches (bare u.plan) l → waits_at w.locks n s.asked ≡ false
  plan_free l t = by_cmd s.cmd me.command t where
    by_plan : (x : Cmd) (o : Option Plan) → IsAtPlan x (waits_at w.locks n s.asked) s.seen s.done s.tried o → Touches (bare (command_under n s.seen s.tried o s.done (Some x)).plan) l → waits_at w.locks n s.asked ≡ false
    by_plan x None i k = absurd k
    by_plan x (Some p) i k = i.1

    by_cmd : (o : Option Cmd) → HasCommand w n s o → Touches (bare (command_under n s.seen s.tried s.plan s.done o).plan) l → waits_at w.locks n s.asked ≡ false
    by_cmd None i k = absurd k
    by_cmd (Some x) i k = by_plan x s.plan i.plan k

  pub guard_held : (base : List Block) (own : Owners) (stock : Things) → Spells s.seen.geometry base own cat → StandsIn base s.seen.blocks → Outs n own u.took stock
      → (l : ℕ) → Touches (bare u.plan) l → MayWrite n (held_in PW (held_by w.locks n s)) (guard_of s.seen.geometry own l)
  guard_held base own stock spelt stands outs l t =
      wider_write n (held_in PW s.seen.locks) (held_in PW (held_by w.locks n s)) (wide_so (plan_free l t)) (guard_of s.seen.geometry own l) (guard_so base own stock spelt stands outs l t)

  -- where its command has not asked for V, its plan writes to no bitmap
  pub plan_apart : (Has (names_of s.asked) V → ⊥) → (l : ℕ) → Touches (bare u.plan) l → IsBitmap s.seen.geometry l → ⊥
  plan_apart not_asked l t bitmap =
      let may : MayWrite n (held_in PW s.seen.locks) (guard_of s.seen.geometry drive_so.own l)
      = guard_so drive_so.base drive_so.own u.stock drive_so.spelt ((stands_joined drive_so.base (looked_now s.run) s.seen.blocks).0 seen_so).1 outs_so l t in
      let held : Has (held_in PW s.seen.locks) V = subst (MayWrite n (held_in PW s.seen.locks)) (bitmap_guard s.seen.geometry drive_so.own l bitmap) may in
      not_asked (held_named PW s.asked V (held_grows PW s.seen.locks s.asked V locks_so held))

  pub not_done : (Has (names_of s.asked) V → ⊥) → (l : ℕ) → IsBitmap s.seen.geometry l → Touches (writes_to u.done u) l → ⊥
  not_done not_asked l bitmap t = plan_apart not_asked l (done_in u l t) bitmap
