-- A give-back begins: where it is due, and its claim of V.
use Rattle.std.proofs.Common.{◌≡◌, ◌≤◌, ◌+◌, ◌⊎◌, ◌++◌, ◌||◌, ◌&&◌, not, ℕ, true, false, cond, List, [], ◌∷◌, Option, Some, None, is_some, length, map, drop, nat_lt, refl, sym, ap, subst, ◌∙◌, inl, inr, arith}
use Rattle.std.specs.Prelude.{is_none}
use Rattle.std.proofs.lemmas.Bool.{and_parts}
use Rattle.std.proofs.lemmas.List.{append-nil}
use Rattle.lock_db.specs.declared.name.LockName.TheVariants.{X, V}
use Rattle.plain_cat.specs.Modes.{rank}
use Rattle.plain_cat.specs.declared.mode.Mode.{Mode}
use Rattle.plain_cat.specs.declared.mode.Mode.TheVariants.{NL, CR, CW, PR, PW, EX}
use Rattle.plain_cat.specs.declared.command.Cmd.{Cmd}
use Rattle.plain_rules.specs.Own.{next_command}
use Rattle.node_locks.specs.Held.{system_of, Row, names_of, waits_at}
use Rattle.node_locks.specs.Taking.{taken}
use Rattle.base_words.specs.Lists.{Has, Once, Touches}
use Rattle.vol_spell.specs.Owners.{Things, nothing}
use Rattle.base_words.proofs.ListWrites.{touches_joined}
use Rattle.base_words.proofs.Listing.{has_first, has_parted}
use Rattle.vol_parts.specs.declared.geometry.Geometry.{Geometry}
use Rattle.vol_under.specs.Guards.{guard_of, MayLook}
use Rattle.vol_under.specs.UnderWay.{UnderWay}
use Rattle.vol_under.specs.Under.{IsUnder}
use Rattle.vol_under.specs.Keeping.{IsBitmap}
use Rattle.vol_under.proofs.Guarding.{bitmap_guard}
use Rattle.op_law.specs.declared.need.PlanWrite.{PlanWrite}
use Rattle.op_law.specs.declared.seen.Seen.{Seen}
use Rattle.op_law.specs.Laws.{held_in}
use Rattle.core_space.specs.declared.run.Phase.{Phase}
use Rattle.core_space.specs.declared.run.Phase.TheVariants as phase
use Rattle.core_space.specs.declared.run.SpaceRun.{SpaceRun}
use Rattle.core_space.specs.Giving.{give_place, give_writes}
use Rattle.core_space.specs.Rule.{is_reader, has_any}
use Rattle.core_space.specs.Laws.{places_of}
use Rattle.core_state.specs.Worlds.{Stock, NodeState, Plain, node_at, set_node, rows_of, or_next}
use Rattle.core_state.specs.Asks.{has_asked, is_claiming}
use Rattle.core_state.specs.Small.{lent, owed_in, has_command}
use Rattle.core_state.specs.Stocks.{roomless, taken_now, stock_now, looked_now}
use Rattle.core_state.specs.Searches.{begun_run, IsOff, IsGoingBack, LooksOn, WritesBack, Rules, Served, Given, Shared, Fills, Grabs, Filled, Drains, Alone, Looking, Taking, Taken, Refused, Spaces, Off, Back, Busy}
use Rattle.core_state.specs.Stores.{HasNothing}
use Rattle.core_state.specs.Goods.{under_with, nodes_under, HasCommand, IsNode, Good, held_by}
use Rattle.core_state.specs.Events.{mode_in, is_out, is_wanted, is_ended, is_due_in, space_locks, turned, claiming}
use Rattle.core_state.proofs.Holding.{HasIn, in_held_is, named_there}
use Rattle.core_state.proofs.Naming.{none_of, stays_without, mode_has, not_asked, has_asked_without}
use Rattle.core_state.proofs.Keeping.{altered}
use Rattle.core_state.proofs.Running.{held_among, under_here}
use Rattle.core_state.proofs.Taking.{its_guards}
use Rattle.core_state.proofs.SmallWorlds.{OwesLess, owes_same}
use Rattle.core_state.proofs.Claiming.{claim_keeps}
use Rattle.core_state.proofs.CachedLooks.{claimed_store}
use Rattle.core_state.proofs.Claims.{keeps_on, x_in_cr, v_not_a, v_not_x, v_new, v_keeps, x_goes_on, no_claims, no_claims_kept}
use Rattle.core_state.proofs.Givings.{give_none}
use Rattle.op_law.proofs.Asking.{not_so}
use Rattle.plain_rules.proofs.Ordered.{or_cases}

-- ---- where no rule is begun

not_begun : (x : Cmd) (kept claims : Row) (run : SpaceRun) (stock : Stock) (seen : Seen) → run.phase ≡ phase.Off → Rules x kept claims run stock seen → ⊥
not_begun x kept claims run stock seen off rules = by_rules rules where
  at_fill : run.phase ≡ phase.Fill → ⊥
  at_fill e = absurd (let f : phase.Off ≡ phase.Fill = sym off ∙ e in cc)

  at_last : run.phase ≡ phase.Last → ⊥
  at_last e = absurd (let f : phase.Off ≡ phase.Last = sym off ∙ e in cc)

  phase_so : (p : Phase) → run ≡ begun_run p → run.phase ≡ p
  phase_so p e = ap (λ (h : SpaceRun). h.phase) e

  by_rules : Rules x kept claims run stock seen → ⊥
  by_rules (Served h) = at_fill (phase_so phase.Fill h.run)
  by_rules (Given h) = at_fill (phase_so phase.Fill h.run)
  by_rules (Shared h) = at_fill (phase_so phase.Fill h.run)
  by_rules (Fills h) = at_fill h.filling.fill
  by_rules (Grabs h) = at_fill h.filling.fill
  by_rules (Filled h) = at_fill h.fill
  by_rules (Drains h) = absurd (let f : phase.Off ≡ phase.Drain = sym off ∙ h.drain in cc)
  by_rules (Alone h) = at_last (phase_so phase.Last h.run)
  by_rules (Looking h) = at_last h.claimed_so.last
  by_rules (Taking h) = at_last h.found.claimed_so.last
  by_rules (Taken h) = at_last h.found.claimed_so.last
  by_rules (Refused h) = at_last h.claimed_so.last

pub off_so : (o : Option Cmd) (kept claims : Row) (run : SpaceRun) (stock : Stock) (seen : Seen) → run.phase ≡ phase.Off → Spaces o kept claims run stock seen → IsOff claims run seen
off_so o kept claims run stock seen off (Off h) = h
off_so o kept claims run stock seen off (Back h) = absurd (let f : phase.Off ≡ phase.Back = sym off ∙ h.back in cc)
off_so o kept claims run stock seen off (Busy x e r) = absurd (not_begun x kept claims run stock seen off r)

reader_has : (ls : Row) (o : Option Mode) → mode_in X ls ≡ o → is_reader o ≡ true → Has ls (X, CR)
reader_has ls None e t = absurd (let f : false ≡ true = t in cc)
reader_has ls (Some NL) e t = absurd (let f : false ≡ true = t in cc)
reader_has ls (Some CR) e t = mode_has ls X CR e
reader_has ls (Some CW) e t = absurd (let f : false ≡ true = t in cc)
reader_has ls (Some PR) e t = absurd (let f : false ≡ true = t in cc)
reader_has ls (Some PW) e t = absurd (let f : false ≡ true = t in cc)
reader_has ls (Some EX) e t = absurd (let f : false ≡ true = t in cc)

no_first : (xs ys : List ℕ) → xs ++ ys ≡ [] → xs ≡ []
no_first [] ys f = refl
no_first (y ∷ xs) ys f = absurd (let g : length (y ∷ (xs ++ ys)) ≡ 0 = ap length f in omega arith)

unmapped : (ms : List ℕ) → places_of ms ≡ [] → ms ≡ []
unmapped [] f = refl
unmapped (m ∷ ms) f = absurd (let g : length (places_of (m ∷ ms)) ≡ 0 = ap length f in omega arith)

-- where a node has nothing outside, its stock is empty
pub none_in_stock : (stock : Stock) (run : SpaceRun) → stock_now stock run ≡ nothing → has_any (roomless stock) ≡ false
none_in_stock stock run e =
    let cs : stock.clusters ≡ [] = no_first stock.clusters (taken_now run).clusters (ap (λ (t : Things). t.clusters) e) in
    let ns : stock.numbers ≡ [] = unmapped stock.numbers (no_first (places_of stock.numbers) (taken_now run).numbers (ap (λ (t : Things). t.numbers) e)) in
    λ i. nat_lt 0 (length (cs i)) || nat_lt 0 (length (ns i))

-- no rule is begun, X is kept in CR, and the command has not asked for V
pub record IsDue (s : NodeState) : Type 0 where
  pub off : IsOff s.claims s.run s.seen
  pub shared : Has s.kept (X, CR)
  pub not_asked : Has (names_of s.asked) V → ⊥

module _ (w : Plain) (good : Good w) (n : ℕ) (s : NodeState) (at : node_at w.nodes n ≡ Some s) (on : is_out s ≡ false) where
  me : IsNode w n s
  me = good.nodes n s at

  pub due_is : s.run.phase ≡ phase.Off → is_due_in w n s phase.Off ≡ true → IsDue s
  due_is begun due = by_tests (or_cases (is_reader (space_locks s).x && (is_wanted w n && not (has_asked V s.asked))) (is_ended w n s && has_any (roomless s.stock)) due) where
    off : IsOff s.claims s.run s.seen
    off = off_so s.cmd s.kept s.claims s.run s.stock s.seen begun me.space

    not_last : s.run.phase ≡ phase.Last → ⊥
    not_last f = absurd (let g : phase.Off ≡ phase.Last = sym begun ∙ f in cc)

    bare : s.kept ++ s.claims ≡ s.kept
    bare = ap (λ ls. s.kept ++ ls) off.claims ∙ append-nil s.kept

    no_command : (o : Option Cmd) (next : Option Cmd) → is_none (or_next o next) ≡ true → o ≡ None
    no_command None next e = refl
    no_command (Some x) next e = absurd (let f : false ≡ true = e in cc)

    idle : (o : Option Cmd) → o ≡ None → HasCommand w n s o → s.asked ≡ []
    idle None e h = h.asked
    idle (Some x) e h = absurd (let f : Some x ≡ None = e in cc)

    by_holds : has_any (roomless s.stock) ≡ true → HasNothing s ⊎ Has (held_in CR s.kept) X → Has s.kept (X, CR)
    by_holds any (inl none) = absurd (let f : true ≡ false = sym any ∙ none_in_stock s.stock s.run none.stock in cc)
    by_holds any (inr h) = let k = in_held_is CR s.kept X h in x_in_cr s.run.phase s.kept k.in_mode not_last me.store.kept k.has

    by_tests : ((is_reader (space_locks s).x && (is_wanted w n && not (has_asked V s.asked))) ≡ true) ⊎ ((is_ended w n s && has_any (roomless s.stock)) ≡ true) → IsDue s
    by_tests (inl e) =
        let a = and_parts (is_reader (space_locks s).x) (is_wanted w n && not (has_asked V s.asked)) e in
        let b = and_parts (is_wanted w n) (not (has_asked V s.asked)) a.1 in
        record {
          off = off;
          shared = subst (λ (ls : Row). Has ls (X, CR)) bare (reader_has (s.kept ++ s.claims) (mode_in X (s.kept ++ s.claims)) refl a.0);
          not_asked = not_asked s.asked V (not_so (has_asked V s.asked) b.1);
        }
    by_tests (inr e) =
        let a = and_parts (is_ended w n s) (has_any (roomless s.stock)) e in
        let none : s.asked ≡ [] = idle s.cmd (no_command s.cmd (next_command w.script n w.history) a.0) me.command in
        record {
          off = off;
          shared = by_holds a.1 (good.running.stocked n s at).holds;
          not_asked = λ h. absurd (let k : Has (names_of (let ls : Row = [] in ls)) V = subst (λ (ls : Row). Has (names_of ls) V) none h in k);
        }

  -- what it has looked at for its command is of no bitmap
  pub seen_apart : s.claims ≡ [] → (Has (names_of s.asked) V → ⊥) → (l : ℕ) → Touches s.seen.blocks l → IsBitmap s.seen.geometry l → ⊥
  seen_apart none not_its l touched bitmap = by_place (has_parted s.kept (s.asked ++ (s.claims ++ [])) (V, k.in_mode) (held_among w.locks n (rows_of s) (V, k.in_mode) k.has)) where
    under : IsUnder w.geometry good.running.cat (nodes_under w.locks w.nodes) w.blocks
    under = good.running.drive

    u : UnderWay
    u = under_with w.locks n s s.cmd

    look : MayLook (held_in PR (held_by w.locks n s)) (guard_of w.geometry under.own l)
    look = its_guards w.geometry good.running.cat (nodes_under w.locks w.nodes) w.blocks n u (under_here w.locks w.nodes n s at) under l ((touches_joined (looked_now s.run) s.seen.blocks l).1 (inr touched))

    held : Has (held_in PR (held_by w.locks n s)) V
    held = subst (MayLook (held_in PR (held_by w.locks n s))) (bitmap_guard w.geometry under.own l (subst (λ (g : Geometry). IsBitmap g l) me.geometry bitmap)) look

    k : HasIn PR (held_by w.locks n s) V
    k = in_held_is PR (held_by w.locks n s) V held

    not_kept : (m : Mode) → Has s.kept (V, m) → rank PR ≤ rank m → ⊥
    not_kept m a strong = elim (me.store.kept (V, m) a) [
      | inl e ↦ absurd (let f : rank m ≡ rank NL = ap rank e.1 in omega (arith, f, strong))
      | inr e ↦ absurd (let f : V ≡ X = e.0 in cc)
    ]

    by_place : Has s.kept (V, k.in_mode) ⊎ Has (s.asked ++ (s.claims ++ [])) (V, k.in_mode) → ⊥
    by_place (inl a) = not_kept k.in_mode a k.strong
    by_place (inr b) = elim (has_parted s.asked (s.claims ++ []) (V, k.in_mode) b) [
      | inl c ↦ not_its (named_there s.asked V k.in_mode c)
      | inr d ↦ none_of s.claims (V, k.in_mode) none (subst (λ (ls : Row). Has ls (V, k.in_mode)) (append-nil s.claims) d)
    ]

  -- ---- V is claimed

  pub back_claim_keeps : IsDue s → Good (altered w (taken V (system_of n) PW w.locks) w.blocks (set_node w.nodes n (turned (claiming s phase.Back V PW))) w.history)
  back_claim_keeps due = claim_keeps w good n s at on phase.Back V PW (inl due.off.claims) (ap (waits_at w.locks n) due.off.claims) phase.Off due.off.run v_not_a (λ e. absurd (let f : PW ≡ CW = e in cc))
      (v_new w good n s at on due.not_asked (no_claims w good n s at on due.off.claims))
      (λ e a. inl (inr refl))
      (claimed_store s.run.phase phase.Back s.kept s.claims s.cache V me.store
      (v_keeps w good n s at on phase.Back (keeps_on s.run.phase phase.Back s.kept (inl not_last) me.store.kept) (no_claims_kept w good n s at on phase.Back due.off.claims)) (no_claims w good n s at on due.off.claims))
      (x_goes_on w good n s at on) owes
      (Back (record {
        back = refl;
        shared = stays_here;
        claims = refl;
        space = due.off.space;
        apart = seen_apart due.off.claims due.not_asked;
        goes = by_next (give_place s.seen.geometry s.stock.clusters s.stock.numbers []) refl;
      })) where
        r : NodeState
        r = turned (claiming s phase.Back V PW)

        begun : s.run.phase ≡ phase.Off
        begun = ap (λ (h : SpaceRun). h.phase) due.off.run

        not_last : s.run.phase ≡ phase.Last → ⊥
        not_last f = absurd (let g : phase.Off ≡ phase.Last = sym begun ∙ f in cc)

        run_is : record s.run { phase = phase.Back } ≡ begun_run phase.Back
        run_is = λ i. record (due.off.run i) { phase = phase.Back }

        lent_is : lent r ≡ lent s
        lent_is = ap (λ b. cond b 1 0) (has_asked_without X V (s.kept ++ s.claims) (v_not_x w good n s at on) ∙ ap (has_asked X) (ap (λ ls. s.kept ++ ls) due.off.claims ∙ append-nil s.kept))

        owes : OwesLess s r
        owes = owes_same s r ((λ i. cond (has_command s) (4 + lent_is i) (lent_is i)) ∙ sym (ap (λ (p : Phase). cond (has_command s) (owed_in p (is_claiming s.claims) (lent s)) (lent s)) begun)) refl

        stays_here : Has r.kept (X, CR)
        stays_here = stays_without (s.kept ++ s.claims) V (X, CR) (has_first s.kept s.claims (X, CR) due.shared) (λ e. absurd (let f : X ≡ V = e in cc))

        by_next : (o : Option ℕ) → give_place s.seen.geometry s.stock.clusters s.stock.numbers [] ≡ o → IsGoingBack s.seen.geometry s.stock (record s.run { phase = phase.Back })
        by_next (Some l) e = LooksOn (ap is_some ((λ i. give_place s.seen.geometry s.stock.clusters s.stock.numbers (run_is i).looked) ∙ e)) (ap (λ (h : SpaceRun). h.writes) run_is) (ap (λ (h : SpaceRun). h.made) run_is)
        by_next None e =
            let writes : s.run.writes ≡ [] = ap (λ (h : SpaceRun). h.writes) run_is in
            let made : s.run.made ≡ 0 = ap (λ (h : SpaceRun). h.made) run_is in
            let looked : s.run.looked ≡ [] = ap (λ (h : SpaceRun). h.looked) run_is in
            WritesBack (record {
              rest = (λ i. drop (made i) (writes i)) ∙ sym (give_none s.seen.geometry s.stock.clusters s.stock.numbers e) ∙ (λ i. give_writes s.seen.geometry s.stock.clusters s.stock.numbers (sym looked i));
              within = let le : length s.run.writes ≡ 0 = ap length writes in let m = made in omega arith;
              all = (λ i. give_place s.seen.geometry s.stock.clusters s.stock.numbers (looked i)) ∙ e;
              once = subst (λ (ws : List PlanWrite). Once (map (λ v. v.lbn) ws)) (sym writes) tt;
              locks = λ v h. absurd (subst (λ (ws : List PlanWrite). Has ws v) writes h);
            })
