-- A give-back looks at a block, and writes one, with its node's command under way or without one.
use Rattle.std.proofs.Common.{◌≡◌, ◌⊎◌, ◌+◌, ◌++◌, ℕ, Bool, false, cond, List, [], ◌∷◌, Option, Some, None, take, slice_get, slice_set, refl, sym, ap, subst, ◌∙◌, inl, inr, arith}
use Rattle.base_words.specs.Fields.{Block}
use Rattle.lock_db.specs.declared.name.LockName.{LockName}
use Rattle.lock_db.specs.declared.name.LockName.TheVariants.{X, V}
use Rattle.std.proofs.lemmas.Option.{slice_get_within}
use Rattle.plain_cat.specs.declared.mode.Mode.TheVariants.{CR, PR, PW}
use Rattle.plain_cat.specs.declared.cat.Cat.{Cat}
use Rattle.node_locks.specs.Held.{Row, names_of, waits_at}
use Rattle.base_words.specs.Lists.{Has, Touches}
use Rattle.vol_spell.specs.Owners.{Owners, Things, Outs}
use Rattle.base_words.proofs.ListWrites.{touches_joined, stands_joined}
use Rattle.base_words.proofs.Listing.{has_parted, has_first, has_second}
use Rattle.vol_parts.specs.declared.geometry.Geometry.{Geometry}
use Rattle.vol_spell.specs.Spelling.{AreBlank}
use Rattle.vol_under.specs.Guards.{Guard, Lock, guard_of, MayLook}
use Rattle.core_state.specs.Committed.{IsUnderOn}
use Rattle.core_state.proofs.Guarded.{spaces_stay}
use Rattle.node_cache.specs.Cached.{Cached}
use Rattle.vol_under.specs.UnderWay.{UnderWay, writes_to, together, changed, AreSole}
use Rattle.vol_under.specs.Under.{IsUnder}
use Rattle.vol_under.specs.Keeping.{IsBitmap}
use Rattle.vol_under.proofs.Guarding.{bitmap_guard}
use Rattle.vol_under.proofs.Steps.{held_stands}
use Rattle.op_law.specs.declared.need.PlanWrite.{PlanWrite}
use Rattle.op_law.specs.Laws.{held_in, IsCacheable}
use Rattle.vol_under.specs.Planned.{IsPlanGuarded}
use Rattle.core_space.specs.declared.run.Phase.{Phase}
use Rattle.core_space.specs.declared.run.Phase.TheVariants as phase
use Rattle.core_space.specs.Giving.{give_place, give_writes}
use Rattle.core_space.specs.Rule.{decides, give_by, decision_in}
use Rattle.core_state.specs.Worlds.{NodeState, Plain, node_at, set_node, with_node, rows_of}
use Rattle.node_locks.specs.Sequences.{guards_blocks}
use Rattle.core_state.specs.Stores.{HasStore, IsCachedAt}
use Rattle.core_state.specs.Asks.{is_claiming, writes_now}
use Rattle.core_state.specs.Small.{lent, owed_in, owed, has_command}
use Rattle.core_state.specs.Stocks.{roomless, things_in, left_by, stock_now, looked_now, unwritten}
use Rattle.core_state.specs.Searches.{IsWritingBack, IsGoingBack, LooksOn, WritesBack, IsGivingBack, Back}
use Rattle.core_state.specs.Goods.{under_with, nodes_under, IsNode, Good, held_by}
use Rattle.core_state.specs.Events.{is_out, turned, space_need, ready_left, given_by, stocked_by, is_last, space_writing, caching, cache_written}
use Rattle.base_words.specs.Faults.{next as one_more}
use Rattle.core_state.proofs.StockSizes.{few_stays, few_left}
use Rattle.core_state.proofs.Holding.{is_in_held, held_weaker}
use Rattle.core_state.proofs.Running.{at_any, under_now, claims_held, are_sole}
use Rattle.core_state.proofs.Keeping.{altered, still_driven, rebuilt, held_same, loses_nothing, asked_apart}
use Rattle.core_state.proofs.SmallWorlds.{owes_same, small_set}
use Rattle.core_state.proofs.Beginning.{alone, stays_stocked}
use Rattle.core_state.proofs.Seeking.{stands_its, is_left, all_left, left_of, less_left, not_left, once_at}
use Rattle.core_state.proofs.Standing.{back_taken, with_nothing}
use Rattle.core_state.proofs.Turning.{take_none, more_before, only_before, made_before}
use Rattle.core_state.proofs.Taking.{GrabsBy}
use Rattle.core_state.proofs.CachedPuts.{IsWriteOf, put_cached, put_writes}
use Rattle.core_state.proofs.CachedLooks.{rewritten_store}
use Rattle.core_state.proofs.CachedTakes.{goes_higher}
use Rattle.core_state.proofs.Claiming.{mine, space_node}
use Rattle.core_state.proofs.Claims.{keeps_on}
use Rattle.core_state.proofs.Looks.{taken_zero, come_so, space_seen_so, some_is}
use Rattle.core_state.proofs.Givings.{give_once, give_under}
use Rattle.core_state.proofs.Backs.{IsBackWrite, back_write}
use Rattle.core_state.proofs.Blanks.{bits_blank}
use Rattle.core_state.proofs.Midway.{looks, rewrites_it, here_so, drive_so, outs_so, seen_so, law_so, wide_so, guard_held, not_done}

module _ (w : Plain) (good : Good w) (n : ℕ) (s : NodeState) (at : node_at w.nodes n ≡ Some s) (on : is_out s ≡ false) (granted : waits_at w.locks n s.claims ≡ false) (claims : s.claims ≡ (V, PW) ∷ []) where
  abbrev cat : Cat
  cat = good.running.cat

  abbrev g : Geometry
  g = s.seen.geometry

  abbrev u : UnderWay
  u = under_with w.locks n s s.cmd

  abbrev under : IsUnder g cat (nodes_under w.locks w.nodes) w.blocks
  under = drive_so w good n s at

  me : IsNode w n s
  me = good.nodes n s at

  sole : AreSole (nodes_under w.locks w.nodes)
  sole = are_sole w.locks w.nodes good.locked.0 good.locked.1

  has_v : Has (names_of s.claims) V
  has_v = subst (λ (ls : Row). Has (names_of ls) V) (sym claims) (inl refl)

  -- its command has not asked for V
  pub not_its : Has (names_of s.asked) V → ⊥
  not_its h = asked_apart s V (mine w good n s at on).once h has_v

  pub holds_v : Has (held_in PW (held_by w.locks n s)) V
  holds_v = is_in_held PW (held_by w.locks n s) V (record { in_mode = PW; has = claims_held w.locks n s (V, PW) granted (subst (λ (ls : Row). Has ls (V, PW)) (sym claims) (inl refl)); strong = omega arith })

  pub back_drive : (base : List Block) (own : Owners) (v : UnderWay) (bs : List Block) → IsUnderOn g cat base own (changed (nodes_under w.locks w.nodes) n v) bs → IsUnderOn w.geometry cat base own (changed (nodes_under w.locks w.nodes) n v) bs
  back_drive base own v bs h = subst (λ (k : Geometry). IsUnderOn k cat base own (changed (nodes_under w.locks w.nodes) n v) bs) me.geometry h

  may_look : (own : Owners) (l : ℕ) → IsBitmap g l → MayLook (held_in PR (held_by w.locks n s)) (guard_of g own l)
  may_look own l bitmap =
      let P : Option Guard → Type 0 = λ x. MayLook (held_in PR (held_by w.locks n s)) x in
      subst P (sym (bitmap_guard g own l bitmap)) (held_weaker PW PR (held_by w.locks n s) V (omega arith) holds_v)

  module _ (h : IsGivingBack s.kept s.claims s.run s.stock s.seen) where
    not_last : s.run.phase ≡ phase.Last → ⊥
    not_last f = absurd (let z : phase.Back ≡ phase.Last = sym h.back ∙ f in cc)

    stock_so : u.stock ≡ things_in s.stock
    stock_so = ap (together (things_in s.stock)) (back_taken s.run.phase s.run.writes s.run.made (inr h.back)) ∙ with_nothing (things_in s.stock)

    -- ---- a look

    -- at this block, which the drive has, and its cache becomes this one
    module _ (no_writes : s.run.writes ≡ []) (lbn : ℕ) (b : Block) (es : List Cached) (reads hits : ℕ) (bitmap : IsBitmap g lbn) (there_now : slice_get w.blocks lbn ≡ Some b)
        (store : HasStore s.run.phase s.kept es) (entries : (r : NodeState) → rows_of r ≡ rows_of s → (e : Cached) → Has es e → Has s.cache e ⊎ IsCachedAt (with_node w n r) good.running.drive.own good.running.cat n r e) where
      abbrev more : List (ℕ × Block)
      more = s.run.looked ++ (lbn, b) ∷ []

      -- the node as the look leaves it, with these writes to come
      abbrev r : List PlanWrite → NodeState
      r ws = come_so s more (decides phase.Back ws) es reads hits

      among : (ws : List PlanWrite) (y : ℕ × Block) → Has (unwritten (take 0 ws) more ++ s.seen.blocks) y → Has ((lbn, b) ∷ u.seen) y
      among ws y k = elim (has_parted (unwritten (take 0 ws) more) s.seen.blocks y k) [
        | inl a ↦ elim (has_parted s.run.looked ((lbn, b) ∷ []) y (left_of (take 0 ws) more y a).0) [
          | inl c ↦ inr (has_first (looked_now s.run) s.seen.blocks y (all_left s.run.writes s.run.made s.run.looked y no_writes c))
          | inr c ↦ elim c [ inl e ↦ inl e | inr f ↦ absurd f ]
        ]
        | inr a ↦ inr (has_second (looked_now s.run) s.seen.blocks y a)
      ]

      stock_same : (ws : List PlanWrite) → stock_now s.stock (r ws).run ≡ stock_now s.stock s.run
      stock_same ws = ap (together (things_in s.stock)) (taken_zero phase.Back ws ∙ sym (back_taken s.run.phase s.run.writes s.run.made (inr h.back)))

      owes : (ws : List PlanWrite) → owed (r ws) ≡ owed s
      owes ws = ap (λ (p : Phase). cond (has_command s) (owed_in p (is_claiming s.claims) (lent s)) (lent s)) (sym h.back)

      looked_so : (ws : List PlanWrite) → IsGoingBack g s.stock (r ws).run → Good (with_node w n (r ws))
      looked_so ws goes =
          let new : List (ℕ × Block) = looked_now (r ws).run ++ s.seen.blocks in
          let drive_now = looks g cat (nodes_under w.locks w.nodes) w.blocks n u (here_so w good n s at) under sole lbn b (not_done w good n s at not_its lbn bitmap) there_now (may_look under.own lbn bitmap)
          new (among ws) (law_so w good n s at (looked_now (r ws).run) u.read u.write u.stock (wide_so w good n s at)) in
          let there : record u { seen = new } ≡ under_with w.locks n (r ws) (r ws).cmd = λ i. record (at_any n s s.cmd (held_by w.locks n s)) { seen = new; stock = sym (stock_same ws) i } in
          alone w good n s at (r ws) refl (λ part o low. refl) refl (owes_same s (r ws) (owes ws) refl) (stays_stocked s (r ws) refl (stock_same ws) (λ k. k) (few_stays s (r ws) refl refl refl) (good.running.stocked n s at))
          (subst (λ (k : UnderWay). IsUnderOn w.geometry cat good.running.drive.base good.running.drive.own (changed (nodes_under w.locks w.nodes) n k) w.blocks) there (back_drive under.base under.own (record u { seen = new }) w.blocks drive_now))
          (ap (λ (zs : List PlanWrite). zs ++ take s.done (writes_now s.tried s.plan)) (sym (ap (λ (zs : List PlanWrite). take s.run.made zs) no_writes ∙ take_none s.run.made))) (entries (r ws) refl)
          (space_node w good n s at on w.locks w.blocks (r ws) refl refl refl (λ e. e) (λ e a. inl (inr refl)) (record { kept = keeps_on s.run.phase phase.Back s.kept (inl not_last) store.kept; few = store.few; cache = store.cache; guarding = store.guarding }) me.rests
          (Back (record { back = refl; shared = h.shared; claims = h.claims; space = h.space; apart = h.apart; goes = goes })))

      by_place : (o : Option ℕ) → give_place g s.stock.clusters s.stock.numbers more ≡ o → Good (with_node w n (come_so s more (give_by phase.Back g more (roomless s.stock) o) es reads hits))
      by_place (Some l) e = looked_so [] (LooksOn (some_is (give_place g s.stock.clusters s.stock.numbers more) l e) refl refl)
      by_place None e = looked_so (give_writes g s.stock.clusters s.stock.numbers more) (WritesBack (record {
        rest = refl;
        within = omega arith;
        all = e;
        once = give_once g s.stock.clusters s.stock.numbers more under.base under.own cat under.spelt;
        locks = give_under g s.stock.clusters s.stock.numbers more;
      }))

      pub back_look_keeps : (k : ℕ) (c : Bool) → Good (with_node w n (space_seen_so s k c lbn b es reads hits))
      back_look_keeps k c = subst (λ (p : Phase). Good (with_node w n (come_so s more (decision_in p g more (roomless s.stock) (space_need k c)) es reads hits))) (sym h.back)
          (by_place (give_place g s.stock.clusters s.stock.numbers more) refl)

    -- ---- a write

    module _ (goes_back : IsWritingBack g s.stock s.run) (v : PlanWrite) (next : slice_get s.run.writes s.run.made ≡ Some v) where
      abbrev ws : List PlanWrite
      ws = s.run.writes

      abbrev t : ℕ
      t = s.run.made

      abbrev rest : List (ℕ × Block)
      rest = unwritten (take (t + 1) ws) s.run.looked ++ s.seen.blocks

      abbrev written : List Block
      written = slice_set w.blocks v.lbn v.block

      abbrev grabbed : Phase → Bool → NodeState
      grabbed p last = turned (record s { seen = given_by p last v s.seen; stock = stocked_by p last g v s.stock; run = record s.run { made = t + 1; ready = ready_left p last s.run.ready }; writes = one_more s.writes; cache = cache_written w s v })

      abbrev GoodWith : NodeState → Type 0
      GoodWith q = Good (altered w w.locks written (set_node w.nodes n q) w.history)

      written_so : (last : Bool) → GoodWith (grabbed phase.Back last)
      written_so last = rebuilt w good n s q at w.locks written w.history
          (still_driven w good n s q at w.locks written (λ part o low. refl) refl (slice_set under.base v.lbn v.block) drive_now.new blank_then
          (under_now w.geometry cat (slice_set under.base v.lbn v.block) drive_now.new w.locks w.locks w.nodes n s q written at (λ m y ne e. refl)
          (subst (λ (k : UnderWay). IsUnderOn w.geometry cat (slice_set under.base v.lbn v.block) drive_now.new (changed (nodes_under w.locks w.nodes) n k) written) there (back_drive (slice_set under.base v.lbn v.block) drive_now.new (record u { seen = rest; stock = left_then }) written drive_now.under)))
          good.running.opens
          (put_cached w sole good.writers n s q under.own drive_now.new cat cat v it stays good.running.cached))
          (good.locked.0, held_same w.locks w.nodes n s q at refl good.locked.1) good.own (small_set w good.small n s q at written (owes_same s q refl refl)) (good.few n) (λ m ne. refl) (λ m y ne e. loses_nothing w.locks m y)
          (record { holds = inr (is_in_held CR s.kept X (record { in_mode = CR; has = h.shared; strong = omega arith })); few = few_left s q g v.lbn refl refl refl (good.running.stocked n s at).few })
          (put_writes w sole good.writers n s q under.own drive_now.new cat cat v it stays)
          (space_node w good n s at on w.locks written q refl refl refl (λ e. e) (λ e a. a) (rewritten_store w v s.run.phase s.kept s.cache (ap guards_blocks b.lock) me.store) me.rests
          (Back (record { back = h.back; shared = h.shared; claims = h.claims; space = h.space; apart = h.apart; goes = b.goes }))) where
            q : NodeState
            q = grabbed phase.Back last

            b : IsBackWrite g n u.took cat s.stock s.run q.run v
            b = back_write g n u.took cat s.stock s.run q.run v under.base under.own under.spelt (subst (λ (k : Things). Outs n under.own u.took k) stock_so (outs_so w good n s at)) goes_back next refl refl refl

            left_then : Things
            left_then = things_in (left_by g v.lbn s.stock)

            seen_it : Has u.seen (v.lbn, b.old)
            seen_it = has_first (looked_now s.run) s.seen.blocks (v.lbn, b.old) (is_left (take t ws) s.run.looked (v.lbn, b.old) b.among (once_at ws t v goes_back.once next))

            stood : slice_get under.base v.lbn ≡ Some b.old
            stood = stands_its under.base u.seen v.lbn b.old (seen_so w good n s at) seen_it

            untouched : Touches (writes_to u.done u) v.lbn → ⊥
            untouched = not_done w good n s at not_its v.lbn b.bitmap

            there_now : slice_get w.blocks v.lbn ≡ Some b.old
            there_now = (let P : UnderWay → Type 0 = λ y. (Touches (writes_to y.done y) v.lbn → ⊥) → MayLook y.read (guard_of g under.own v.lbn) → slice_get w.blocks v.lbn ≡ slice_get under.base v.lbn in
                subst P (here_so w good n s at) (λ a m. held_stands g cat (nodes_under w.locks w.nodes) w.blocks n v.lbn sole under a (inr m)) untouched (may_look under.own v.lbn b.bitmap)) ∙ stood

            some_left : (y : ℕ × Block) → Has rest y → Has u.seen y
            some_left y k = elim (has_parted (unwritten (take (t + 1) ws) s.run.looked) s.seen.blocks y k) [
              | inl m ↦ has_first (looked_now s.run) s.seen.blocks y (less_left ws t v s.run.looked y next m).0
              | inr m ↦ has_second (looked_now s.run) s.seen.blocks y m
            ]

            not_seen : Touches rest v.lbn → ⊥
            not_seen k = elim ((touches_joined (unwritten (take (t + 1) ws) s.run.looked) s.seen.blocks v.lbn).0 k) [
              | inl m ↦ not_left ws t v s.run.looked next m
              | inr m ↦ h.apart v.lbn m b.bitmap
            ]

            -- the slots of numbers outside are free
            blank_now : AreBlank g under.base under.own
            blank_now = subst (λ (k : Geometry). AreBlank k good.running.drive.base good.running.drive.own) (sym me.geometry) good.running.blank

            guarded : IsPlanGuarded g cat n (record u { seen = rest; stock = left_then })
            guarded base own spelt stands outs l k = guard_held w good n s at base own left_then spelt ((stands_joined base (unwritten (take (t + 1) ws) s.run.looked) s.seen.blocks).0 stands).1 outs l k

            drive_now : GrabsBy g cat under.base under.own (changed (nodes_under w.locks w.nodes) n (record u { seen = rest; stock = left_then })) w.blocks n v.lbn v.block
            drive_now = rewrites_it g cat (nodes_under w.locks w.nodes) w.blocks n u (here_so w good n s at) under sole v.lbn b.old v.block left_then rest some_left
                (law_so w good n s at (unwritten (take (t + 1) ws) s.run.looked) u.read u.write u.stock (wide_so w good n s at)) untouched b.bitmap holds_v not_seen there_now
                (λ stands. b.refill under.base under.own under.spelt blank_now (subst (λ (k : Things). Outs n under.own u.took k) stock_so (outs_so w good n s at)) stands) guarded

            -- and are so with the write
            blank_then : AreBlank w.geometry (slice_set under.base v.lbn v.block) drive_now.new
            blank_then = bits_blank w.geometry n good.running.drive.base good.running.drive.own drive_now.new cat v.lbn v.block good.running.drive.spelt (subst (λ (k : Geometry). IsBitmap k v.lbn) me.geometry b.bitmap) drive_now.moves good.running.blank

            it : IsWriteOf w n s q under.own v
            it = record {
              at = at;
              rows = refl;
              more = λ y k. more_before ws (take s.done (writes_now s.tried s.plan)) t y k;
              only = λ y k. only_before ws (take s.done (writes_now s.tried s.plan)) t v y next k;
              made = made_before ws (take s.done (writes_now s.tried s.plan)) t v next;
              holds = subst (Has (held_in PW (held_by w.locks n s))) (sym b.lock) holds_v;
              within = slice_get_within w.blocks v.lbn b.old there_now;
              guards = inl (bitmap_guard w.geometry under.own v.lbn (subst (λ (k : Geometry). IsBitmap k v.lbn) me.geometry b.bitmap) ∙ ap (λ (y : LockName). Some (Lock y)) (sym b.lock));
              goes_on = goes_higher w good v.lock v.lbn;
              cache = refl;
            }

            stays : (name : LockName) (l : ℕ) → guard_of w.geometry under.own l ≡ Some (Lock name) → IsCacheable w.geometry under.own cat l → (guard_of w.geometry drive_now.new l ≡ Some (Lock name)) × IsCacheable w.geometry drive_now.new cat l
            stays name l a k = let z = spaces_stay w.geometry n under.own drive_now.new cat cat name l drive_now.moves refl (record { guard = a; kind = k }) in (z.guard, z.kind)

            stock_then : stock_now q.stock q.run ≡ left_then
            stock_then = ap (together left_then) (back_taken s.run.phase ws (t + 1) (inr h.back)) ∙ with_nothing left_then

            there : record u { seen = rest; stock = left_then } ≡ under_with w.locks n q q.cmd
            there = λ i. record (at_any n s s.cmd (held_by w.locks n s)) { seen = rest; stock = sym stock_then i }

      pub back_write_keeps : GoodWith (turned (caching (cache_written w s v) (space_writing s v)))
      back_write_keeps = subst (λ (p : Phase). GoodWith (grabbed p (is_last s.run))) (sym h.back) (written_so (is_last s.run))
