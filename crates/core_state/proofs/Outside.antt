-- What a node has outside files and bitmaps it has under X or V; and who is refused for want of space holds both alone.
use Rattle.std.proofs.Common.{◌≡◌, ◌≤◌, ◌++◌, ◌⊎◌, ◌==◌, not, ℕ, zero, suc, Bool, true, false, List, [], ◌∷◌, Option, Some, None, length, map, take, zip, refl, sym, ap, subst, ◌∙◌, inl, inr, arith}
use Rattle.std.proofs.lemmas.Bool.{and_parts}
use Rattle.std.proofs.lemmas.Bool.Decides.{nat_tests}
use Rattle.std.proofs.lemmas.List.{append-nil}
use Rattle.base_words.specs.Fields.{Block}
use Rattle.lock_db.specs.declared.name.LockName.{LockName}
use Rattle.lock_db.specs.declared.name.LockName.TheVariants.{X, V}
use Rattle.plain_cat.specs.Modes.{rank}
use Rattle.plain_cat.specs.declared.mode.Mode.{Mode}
use Rattle.plain_cat.specs.declared.mode.Mode.TheVariants.{NL, CR, PR, PW, EX}
use Rattle.plain_cat.specs.declared.command.Cmd.{Cmd}
use Rattle.plain_cat.specs.declared.reply.Refusal.{Refusal}
use Rattle.plain_cat.specs.declared.cat.Cat.{Cat}
use Rattle.node_locks.specs.Held.{Row, names_of, HoldsItsLocks, waits_at}
use Rattle.base_words.specs.Lists.{Has, StandsIn}
use Rattle.vol_spell.specs.Owners.{Things, nothing, Outs}
use Rattle.base_words.proofs.ListWrites.{stands_joined}
use Rattle.base_words.proofs.Listing.{has_parted, has_first}
use Rattle.vol_parts.specs.declared.geometry.Geometry.{Geometry}
use Rattle.vol_parts.specs.Parts.{IsGeometry}
use Rattle.vol_under.specs.Guards.{guard_of, MayLook}
use Rattle.vol_under.specs.UnderWay.{UnderWay, outs_after, together}
use Rattle.vol_under.specs.Under.{IsUnder}
use Rattle.op_law.specs.declared.need.Ask.{Ask}
use Rattle.op_law.specs.declared.need.Need.TheVariants as need
use Rattle.op_law.specs.declared.need.Plan.{Plan}
use Rattle.op_law.specs.declared.need.PlanWrite.{PlanWrite}
use Rattle.op_law.specs.Events.{has_number, has_space}
use Rattle.op_law.specs.Fits.{things}
use Rattle.op_law.specs.Knows.{knows, is_granted}
use Rattle.op_law.specs.Needs.{IsNext}
use Rattle.op_law.specs.Laws.{held_in, planned, most_outside, KeepsOut, IsPlan}
use Rattle.core_space.specs.Searching.{More, Short, Enough, places, found, found_clusters, free_from, cluster_writes}
use Rattle.core_space.specs.Answering.{blocks_alone}
use Rattle.core_space.proofs.Looked.{places_lie}
use Rattle.core_state.specs.Worlds.{NodeState, Plain, node_at, rows_of, rows_in}
use Rattle.core_state.specs.Asks.{writes_by, writes_now}
use Rattle.core_state.specs.Stocks.{stock_now, looked_now}
use Rattle.core_state.specs.Searches.{wanted_by, numbered_by, IsRefused, Rules, Served, Given, Shared, Fills, Grabs, Filled, Drains, Alone, Looking, Taking, Taken, Refused, Spaces, Off, Back, Busy}
use Rattle.core_state.specs.Stores.{HasNothing}
use Rattle.core_state.specs.Goods.{held_by, under_with, nodes_under, IsAtPlan, IsAt, HasCommand, IsNode, Good}
use Rattle.core_state.specs.Deaths.{writes_done, outside_now}
use Rattle.core_state.specs.Outside.{IsOutsideLocked, IsSoleOutside}
use Rattle.core_state.proofs.Holding.{HasIn, is_in_held, in_held_is, held_grows, named_there}
use Rattle.core_state.proofs.Naming.{one_of}
use Rattle.core_state.proofs.Running.{held_among, kept_held, under_here, are_sole}
use Rattle.core_state.proofs.Taking.{its_guards}
use Rattle.core_state.proofs.Keeping.{asked_apart}
use Rattle.core_state.proofs.Seeking.{touches_its, all_left, no_space, first_more}
use Rattle.core_state.proofs.Standing.{others_nothing}
use Rattle.core_state.proofs.Trying.{still_granted, both}
use Rattle.core_state.proofs.Midway.{first_known, here_so, drive_so, outs_so, seen_so, wide_so}

-- ---- what is outside behind the writes of a plan

-- it is what was given, or what one of the writes leaves
record IsLeft (given after : Things) (ws : List PlanWrite) : Type 0 where
  write : PlanWrite
  among : Has ws write
  leaves : after ≡ (planned write).outs

left_behind : (given : Things) (ws : List PlanWrite) (k : ℕ) → (outs_after given (take k (map planned ws)) ≡ given) ⊎ IsLeft given (outs_after given (take k (map planned ws))) ws
left_behind given [] zero = inl refl
left_behind given [] (suc k) = inl refl
left_behind given (v ∷ ws) zero = inl refl
left_behind given (v ∷ ws) (suc k) = elim (left_behind (planned v).outs ws k) [
  | inl e ↦ inr (record { write = v; among = inl refl; leaves = e })
  | inr r ↦ inr (record { write = r.write; among = inr r.among; leaves = r.leaves })
]

-- the first writes are among all
pub first_among : (k : ℕ) (ws : List PlanWrite) (v : PlanWrite) → Has (take k ws) v → Has ws v
first_among zero ws v h = absurd h
first_among (suc k) [] v h = absurd h
first_among (suc k) (y ∷ ws) v (inl e) = inl e
first_among (suc k) (y ∷ ws) v (inr h) = inr (first_among k ws v h)

module _ (w : Plain) (good : Good w) (n : ℕ) (s : NodeState) (at : node_at w.nodes n ≡ Some s) where
  abbrev cat : Cat
  cat = good.running.cat

  abbrev given : Things
  given = things s.seen.clusters s.seen.number

  me : IsNode w n s
  me = good.nodes n s at

  all_mine : HoldsItsLocks w.locks n (rows_of s)
  all_mine = subst (λ (rs : List Row). HoldsItsLocks w.locks n rs) (ap rows_in at) (good.locked.1 n)

  -- what it has behind its writes is nothing, or what was given, or it holds V
  keeps_out : (x : Cmd) → s.cmd ≡ Some x → KeepsOut given (held_in PW s.seen.locks) (writes_now s.tried s.plan)
  keeps_out x cmd = by_plan s.plan refl now.plan where
    now : IsAt w n s x
    now = subst (HasCommand w n s) cmd me.command

    outs : Outs n (drive_so w good n s at).own given (stock_now s.stock s.run)
    outs = subst (λ (o : Option Cmd). Outs n (drive_so w good n s at).own (under_with w.locks n s o).took (stock_now s.stock s.run)) cmd (outs_so w good n s at)

    stands : StandsIn (drive_so w good n s at).base s.seen.blocks
    stands = ((stands_joined (drive_so w good n s at).base (looked_now s.run) s.seen.blocks).0 (seen_so w good n s at)).1

    known : knows n x s.seen cat ≡ true
    known = first_known w good n s at x cmd

    by_plan : (o : Option Plan) → s.plan ≡ o → IsAtPlan x (waits_at w.locks n s.asked) s.seen s.done s.tried o → KeepsOut given (held_in PW s.seen.locks) (writes_now s.tried o)
    by_plan None e i = λ v h. absurd h
    by_plan (Some p) e i = by_ask p.ask refl s.tried refl where
      whole : IsPlan n x s.seen p p.ask
      whole = now.lawful.plans n s.seen p now.seen i.0

      all_by : (a : Ask) → p.ask ≡ Some a → is_granted n a cat ≡ true → KeepsOut given (held_in PW s.seen.locks) p.writes
      all_by a ask t =
          let law : IsPlan n x s.seen p (Some a) = subst (IsPlan n x s.seen p) ask whole in
          law.1.kept_out (drive_so w good n s at).base (drive_so w good n s at).own cat (stock_now s.stock s.run) (drive_so w good n s at).spelt (both (knows n x s.seen cat) (is_granted n a cat) known t) stands outs

      part_by : (a : Ask) → p.ask ≡ Some a → is_granted n a cat ≡ false → KeepsOut given (held_in PW s.seen.locks) (take a.at p.writes)
      part_by a ask t =
          let law : IsPlan n x s.seen p (Some a) = subst (IsPlan n x s.seen p) ask whole in
          law.2.kept_out (drive_so w good n s at).base (drive_so w good n s at).own cat (stock_now s.stock s.run) (drive_so w good n s at).spelt (both (knows n x s.seen cat) (not (is_granted n a cat)) known (ap not t)) stands outs

      first_by : (a : Ask) → p.ask ≡ Some a → (b : Bool) → is_granted n a cat ≡ b → KeepsOut given (held_in PW s.seen.locks) (take a.at p.writes)
      first_by a ask true t v h = all_by a ask t v (first_among a.at p.writes v h)
      first_by a ask false t v h = part_by a ask t v h

      by_ask : (o : Option Ask) → p.ask ≡ o → (b : Bool) → s.tried ≡ b → KeepsOut given (held_in PW s.seen.locks) (writes_by o b p.writes)
      by_ask None ask b t =
          let law : IsPlan n x s.seen p None = subst (IsPlan n x s.seen p) ask whole in
          law.kept_out (drive_so w good n s at).base (drive_so w good n s at).own cat (stock_now s.stock s.run) (drive_so w good n s at).spelt known stands outs
      by_ask (Some a) ask false t = first_by a ask (is_granted n a cat) refl
      by_ask (Some a) ask true t = all_by a ask (still_granted w good n s at x cmd i.1 p e a ask t)

  -- behind the writes done
  abbrev pub behind : Things
  behind = outs_after given (writes_done s)

  -- or it holds V, its command has decided, and few file numbers are among it
  pub record IsUnderV : Type 0 where
    pub held : Has (held_in PW (held_by w.locks n s)) V
    pub few : length behind.numbers ≤ most_outside
    pub command : Cmd
    pub is : s.cmd ≡ Some command
    pub plan : Plan
    pub next : IsNext command s.seen (need.Ready plan)

  pub behind_so : ((behind ≡ nothing) ⊎ (behind ≡ given)) ⊎ IsUnderV
  behind_so = elim (left_behind given (writes_now s.tried s.plan) s.done) [ inl e ↦ inl (inr e) | inr r ↦ by_cmd s.cmd refl me.command r ] where
    by_plan : (x : Cmd) (o : Option Plan) → IsAtPlan x (waits_at w.locks n s.asked) s.seen s.done s.tried o → (v : PlanWrite) → Has (writes_now s.tried o) v → (waits_at w.locks n s.asked ≡ false) × ((p : Plan) × IsNext x s.seen (need.Ready p))
    by_plan x None i v h = absurd h
    by_plan x (Some p) i v h = (i.1, (p, i.0))

    by_cmd : (o : Option Cmd) → s.cmd ≡ o → HasCommand w n s o → IsLeft given behind (writes_now s.tried s.plan) → ((behind ≡ nothing) ⊎ (behind ≡ given)) ⊎ IsUnderV
    by_cmd None cmd idle r = absurd (let h : Has (writes_now s.tried None) r.write = subst (λ (o : Option Plan). Has (writes_now s.tried o) r.write) idle.plan r.among in h)
    by_cmd (Some x) cmd now r = elim (keeps_out x cmd r.write r.among) [
      | inl e ↦ inl (inl (r.leaves ∙ e))
      | inr e ↦ elim e [
        | inl f ↦ inl (inr (r.leaves ∙ f))
        | inr f ↦ inr (let made = by_plan x s.plan now.plan r.write r.among in record {
          held = wide_so w good n s at made.0 V f.0;
          few = subst (λ (o : Things). length o.numbers ≤ most_outside) (sym r.leaves) f.1;
          command = x;
          is = cmd;
          plan = made.1.0;
          next = made.1.1;
        })
      ]
    ]

  -- where it was given nothing and has nothing in stock, it has nothing outside, or holds V
  pub nothing_outside : HasNothing s → (outside_now s ≡ nothing) ⊎ Has (held_in PW (held_by w.locks n s)) V
  nothing_outside none = elim behind_so [
    | inl e ↦ inl (elim e [ inl f ↦ (λ i. together (f i) (none.stock i)) | inr f ↦ (λ i. together ((f ∙ none.given) i) (none.stock i)) ])
    | inr h ↦ inr h.held
  ]

  pub locked_so : IsOutsideLocked w n s
  locked_so = elim (good.running.stocked n s at).holds [
    | inl none ↦ elim (nothing_outside none) [ inl e ↦ inl e | inr h ↦ inr (inr h) ]
    | inr h ↦ inr (inl (held_grows CR s.kept (held_by w.locks n s) X (λ l k. kept_held w.locks n s l me.rests k) h))
  ]

-- ---- a shortage

-- a search finds nothing short before it has looked
pub none_wanted : (k : ℕ) (b : Bool) → has_space k b no_space ≡ true → (k ≡ 0) × (b ≡ false)
none_wanted k true e = absurd (let t = and_parts (0 == k) (has_number true None) e in let f : false ≡ true = t.1 in cc)
none_wanted k false e = let t = and_parts (0 == k) (has_number false None) e in (is_zero k t.0, refl) where
  is_zero : (k : ℕ) → (0 == k) ≡ true → k ≡ 0
  is_zero k e = grind (arith, nat_tests)

zero_enough : (g : Geometry) → found g 0 false [] ≡ Enough ([] ++ cluster_writes g 0 None [] 0 [])
unfolding found_clusters free_from
zero_enough g = refl

not_short : (g : Geometry) (k : ℕ) (b : Bool) (r : Refusal) → IsGeometry g → found g k b [] ≡ Short r → ⊥
not_short g k b r is e = by_test (has_space k b no_space) refl where
  by_test : (t : Bool) → has_space k b no_space ≡ t → ⊥
  by_test true f = let z = none_wanted k b f in absurd (let h : Enough ([] ++ cluster_writes g 0 None [] 0 []) ≡ Short r = sym (zero_enough g) ∙ (λ i. found g (sym z.0 i) (sym z.1 i) []) ∙ e in cc)
  by_test false f = absurd (let h : More ≡ Short r = sym (first_more g k b is f) ∙ e in cc)

-- what is looked at in order is among the places
in_places : (ps : List ℕ) (bs : List Block) (y : ℕ × Block) → Has (zip ps bs) y → Has ps y.0
in_places [] bs y h = absurd h
in_places (p ∷ ps) [] y h = absurd h
in_places (p ∷ ps) (b ∷ bs) y (inl e) = inl (ap (λ (z : ℕ × Block). z.0) e)
in_places (p ∷ ps) (b ∷ bs) y (inr h) = inr (in_places ps bs y h)

module _ (w : Plain) (good : Good w) (n : ℕ) (s : NodeState) (at : node_at w.nodes n ≡ Some s) where
  -- whose command was refused by its rules for space
  module _ (x : Cmd) (cmd : s.cmd ≡ Some x) (h : IsRefused x s.kept s.claims s.run s.stock s.seen) where
    abbrev g : Geometry
    g = s.seen.geometry

    my_node : IsNode w n s
    my_node = good.nodes n s at

    under : IsUnder g good.running.cat (nodes_under w.locks w.nodes) w.blocks
    under = drive_so w good n s at

    alone_so : Has (held_in EX (held_by w.locks n s)) X
    alone_so = is_in_held EX (held_by w.locks n s) X (record { in_mode = EX; has = kept_held w.locks n s (X, EX) my_node.rests h.claimed_so.alone; strong = omega arith })

    -- V was granted, as it has looked at a block of a bitmap
    looked_at : (ys : List (ℕ × Block)) → s.run.looked ≡ ys → Has (held_in PW (held_by w.locks n s)) V
    looked_at [] e = absurd (not_short g (wanted_by x s.seen) (numbered_by x s.seen) h.why under.spelt.counts.geometry (ap (λ (zs : List (ℕ × Block)). found g (wanted_by x s.seen) (numbered_by x s.seen) (blocks_alone zs)) (sym e) ∙ h.too_little))
    looked_at (y ∷ ys) e = is_in_held PW (held_by w.locks n s) V (record { in_mode = k.in_mode; has = k.has; strong = strong_so (by_row (has_parted s.kept (s.asked ++ (s.claims ++ [])) (V, k.in_mode) (held_among w.locks n (rows_of s) (V, k.in_mode) k.has))) }) where
      among : Has s.run.looked y
      among = subst (λ (zs : List (ℕ × Block)). Has zs y) (sym e) (inl refl)

      place : Has (places g (wanted_by x s.seen) (numbered_by x s.seen)) y.0
      place = in_places (places g (wanted_by x s.seen) (numbered_by x s.seen)) (blocks_alone s.run.looked) y (subst (λ (zs : List (ℕ × Block)). Has zs y) h.claimed_so.in_order among)

      u : UnderWay
      u = under_with w.locks n s s.cmd

      seen_it : Has u.seen y
      seen_it = has_first (looked_now s.run) s.seen.blocks y (all_left s.run.writes s.run.made s.run.looked y h.writes among)

      look : MayLook (held_in PR (held_by w.locks n s)) (guard_of g under.own y.0)
      look = its_guards g good.running.cat (nodes_under w.locks w.nodes) w.blocks n u (here_so w good n s at) under y.0 (touches_its u.seen y seen_it)

      held : Has (held_in PR (held_by w.locks n s)) V
      held = subst (MayLook (held_in PR (held_by w.locks n s))) (places_lie g (wanted_by x s.seen) (numbered_by x s.seen) y.0 under.base under.own good.running.cat place under.spelt).2 look

      k : HasIn PR (held_by w.locks n s) V
      k = in_held_is PR (held_by w.locks n s) V held

      strong_so : k.in_mode ≡ PW → rank PW ≤ rank k.in_mode
      strong_so f = subst (λ (m : Mode). rank PW ≤ rank m) (sym f) (omega arith)

      not_kept : Has s.kept (V, k.in_mode) → ⊥
      not_kept a = elim (my_node.store.kept (V, k.in_mode) a) [
        | inl f ↦ absurd (let z : rank k.in_mode ≡ rank NL = ap rank f.1 in let st = k.strong in omega arith)
        | inr f ↦ absurd (let z : V ≡ X = f.0 in cc)
      ]

      by_row : Has s.kept (V, k.in_mode) ⊎ Has (s.asked ++ (s.claims ++ [])) (V, k.in_mode) → k.in_mode ≡ PW
      by_row (inl a) = absurd (not_kept a)
      by_row (inr a) = elim (has_parted s.asked (s.claims ++ []) (V, k.in_mode) a) [
        | inl c ↦ absurd (asked_apart s V (all_mine w good n s at).once (named_there s.asked V k.in_mode c) (subst (λ (ls : Row). Has (names_of ls) V) (sym h.claimed_so.claims) (inl refl)))
        | inr c ↦ ap (λ (l : LockName × Mode). l.1) (sym (one_of s.claims (V, PW) (V, k.in_mode) h.claimed_so.claims (subst (λ (ls : Row). Has ls (V, k.in_mode)) (append-nil s.claims) c)))
      ]

    writer_so : Has (held_in PW (held_by w.locks n s)) V
    writer_so = looked_at s.run.looked refl

    now : IsAt w n s x
    now = subst (HasCommand w n s) cmd my_node.command

    sole_so : IsSoleOutside w n s
    sole_so = record {
      alone = alone_so;
      writer = writer_so;
      others = λ m q ne e.
          let none : HasNothing q = others_nothing w good n s at x cmd now (here_so w good n s at ∙ ap (under_with w.locks n s) cmd) under h.claimed_so.alone m q ne e in
          elim (nothing_outside w good m q e none) [
            | inl f ↦ f
            | inr v ↦ absurd (ne (sym ((are_sole w.locks w.nodes good.locked.0 good.locked.1).writers n m V
                (subst (λ (y : UnderWay). Has y.write V) (sym (under_here w.locks w.nodes n s at)) writer_so) (subst (λ (y : UnderWay). Has y.write V) (sym (under_here w.locks w.nodes m q e)) v))))
          ];
    }

  no_refusal : (o : Option Refusal) (r : Refusal) → o ≡ None → o ≡ Some r → ⊥
  no_refusal o r e f = absurd (let g : None ≡ Some r = sym e ∙ f in cc)

  by_rules : (x : Cmd) → s.cmd ≡ Some x → (r : Refusal) → s.seen.short ≡ Some r → Rules x s.kept s.claims s.run s.stock s.seen → IsSoleOutside w n s
  by_rules x cmd r e (Served h) = absurd (no_refusal s.seen.short r h.needs.none.short e)
  by_rules x cmd r e (Given h) = absurd (no_refusal s.seen.short r h.short e)
  by_rules x cmd r e (Shared h) = absurd (no_refusal s.seen.short r h.needs.none.short e)
  by_rules x cmd r e (Fills h) = absurd (no_refusal s.seen.short r h.filling.needs.none.short e)
  by_rules x cmd r e (Grabs h) = absurd (no_refusal s.seen.short r h.filling.needs.none.short e)
  by_rules x cmd r e (Filled h) = absurd (no_refusal s.seen.short r h.needs.none.short e)
  by_rules x cmd r e (Drains h) = absurd (no_refusal s.seen.short r h.needs.none.short e)
  by_rules x cmd r e (Alone h) = absurd (no_refusal s.seen.short r h.needs.none.short e)
  by_rules x cmd r e (Looking h) = absurd (no_refusal s.seen.short r h.needs.none.short e)
  by_rules x cmd r e (Taking h) = absurd (no_refusal s.seen.short r h.needs.none.short e)
  by_rules x cmd r e (Taken h) = absurd (no_refusal s.seen.short r h.short e)
  by_rules x cmd r e (Refused h) = sole_so x cmd h

  pub refused_so : (r : Refusal) → s.seen.short ≡ Some r → IsSoleOutside w n s
  refused_so r e = by_stand (good.nodes n s at).space where
    by_stand : Spaces s.cmd s.kept s.claims s.run s.stock s.seen → IsSoleOutside w n s
    by_stand (Off h) = absurd (no_refusal s.seen.short r h.space.short e)
    by_stand (Back h) = absurd (no_refusal s.seen.short r h.space.short e)
    by_stand (Busy x c h) = by_rules x c r e h
