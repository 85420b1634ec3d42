-- What an event by the rules for space asks for is so.
use Rattle.std.proofs.Common.{◌≡◌, ◌≢◌, ◌≤◌, ◌<◌, ◌+◌, ◌++◌, ◌/◌, ◌⊎◌, ℕ, Bool, true, false, List, [], ◌∷◌, Some, None, is_some, length, slice_get, refl, sym, ap, subst, ◌∙◌, inl, inr, arith, append-nil}
use Rattle.std.specs.Prelude.{All, IsSome, drop}
use Rattle.std.proofs.lemmas.List.Elements.{All-nil, All-cons}
use Rattle.base_words.specs.Fields.{Block}
use Rattle.lock_db.specs.declared.name.LockName.{LockName}
use Rattle.lock_db.specs.declared.name.LockName.TheVariants.{A, X, V}
use Rattle.lock_db.specs.Queues.{lock_of}
use Rattle.lock_db.specs.Tables.{resource_at}
use Rattle.plain_cat.specs.declared.mode.Mode.{Mode}
use Rattle.plain_cat.specs.declared.mode.Mode.TheVariants.{NL, CR, CW, PW, EX}
use Rattle.plain_cat.specs.declared.command.Cmd.{Cmd}
use Rattle.plain_cat.specs.declared.cat.Cat.{Cat}
use Rattle.node_locks.specs.Held.{system_of, Row, names_of, joined, waits_at}
use Rattle.node_locks.proofs.Keeping.{held_are_granted}
use Rattle.base_words.specs.Lists.{Has, Once}
use Rattle.vol_spell.specs.Owners.{Owners, Things, Outs}
use Rattle.base_words.proofs.Listing.{has_first}
use Rattle.vol_parts.specs.declared.geometry.Geometry.{Geometry}
use Rattle.vol_parts.specs.declared.geometry.Part.{Part}
use Rattle.vol_parts.specs.declared.geometry.Part.TheVariants.{IndexBitmap, Storage}
use Rattle.vol_parts.specs.Parts.{IsGeometry, part_of}
use Rattle.vol_spell.specs.Reading.{total_of}
use Rattle.vol_spell.specs.Places.{place_of, IsPart}
use Rattle.vol_spell.specs.Spelling.{Spells}
use Rattle.vol_spell.proofs.Parts.{are_parts}
use Rattle.vol_spell.proofs.Frames.{on_volume}
use Rattle.vol_under.specs.UnderWay.{together}
use Rattle.vol_under.specs.Under.{IsUnder}
use Rattle.op_law.specs.declared.need.Need.TheVariants as need
use Rattle.op_law.specs.declared.need.PlanWrite.{PlanWrite}
use Rattle.op_law.specs.Needs.{IsNext}
use Rattle.op_law.specs.Events.{space_of, HasNoSpace}
use Rattle.op_law.specs.Writing.{Held}
use Rattle.core_space.specs.Searching.{places}
use Rattle.core_space.specs.Taking.{out_after}
use Rattle.core_space.specs.Answering.{blocks_alone}
use Rattle.core_space.proofs.Ending.{looks_in_order}
use Rattle.core_space.proofs.Looked.{places_lie}
use Rattle.core_space.proofs.Writes.{writes_take}
use Rattle.core_space.specs.declared.run.Phase.{Phase}
use Rattle.core_space.specs.declared.run.Phase.TheVariants as phase
use Rattle.core_space.specs.declared.run.SpaceRun.{SpaceRun}
use Rattle.core_space.specs.Filling.{clusters_to_take}
use Rattle.core_space.specs.Rule.{is_shared}
use Rattle.core_space.proofs.Refused.{give_looked, fill_looked}
use Rattle.core_space.proofs.Filled.{writes_fill, numbers_within, clusters_within}
use Rattle.core_space.proofs.Given.{outside_within}
use Rattle.core_state.specs.Worlds.{NodeState, Plain, node_at, rows_of}
use Rattle.core_state.specs.Goods.{nodes_under, IsNode, Good, under_with}
use Rattle.core_state.specs.Event.{Event}
use Rattle.core_state.specs.Event as event
use Rattle.core_state.specs.Events.{mode_in, is_out, serves, by_space, by_back, gives_back}
use Rattle.core_state.specs.Stocks.{has_bit_at, things_in, stock_now}
use Rattle.core_state.specs.Searches.{begun_run, wanted_by, numbered_by, lacks_by, NeedsSpace, IsOff, FillWrites, IsWritingBack, IsTaking, Rules, Served, Given, Shared, Fills, Grabs, Filled, Drains, Alone, Looking, Taking, Taken, Refused}
use Rattle.core_state.proofs.Naming.{one_of, named_by}
use Rattle.core_state.proofs.Keeping.{kept_once, names_parted}
use Rattle.core_state.proofs.Rows.{lock_granted, IsFew}
use Rattle.core_state.proofs.Running.{kept_held}
use Rattle.core_state.proofs.Standing.{calm, back_taken, with_nothing}
use Rattle.core_state.proofs.Turning.{may_need, space_now}
use Rattle.core_state.proofs.Serving.{needs_now}
use Rattle.core_state.proofs.Claiming.{mine, claimed}
use Rattle.core_state.proofs.Claims.{x_in_cr, not_shared, x_not_a, v_not_a, v_new, no_claims, v_not_its, x_not_its}
use Rattle.core_state.proofs.Seeking.{next_lies}
use Rattle.core_state.proofs.Givings.{NumbersFirst, ClustersNext, give_step, differ_places}
use Rattle.core_state.proofs.Backs.{drop_at}
use Rattle.core_state.proofs.Grabs.{out_next, all_there}
use Rattle.core_state.proofs.Midway.{drive_so, outs_so}
use Rattle.core_state.proofs.Lowering.{lock_v}
use Rattle.core_state.proofs.Rulings.{taken_not}
use Rattle.core_state.proofs.Comes.{Moves, ClaimsX, ClaimsV, ClaimsBehind, ClaimsAlone, ClaimsLast, FillLook, DrainLook, LastLook, FillWrite, DrainWrite, LastWrite, Lowers, Drained, moves_so, BackMoves, BackClaims, BackLooks, BackWrites, Returns, back_moves_so}
use Rattle.core_step.specs.Spaces.{IsBitmapPlace, Index, InStorage}
use Rattle.core_step.specs.Moving.{IsClaimable, IsNextWrite, CanMove}
use Rattle.core_step.proofs.Few.{kept_few, few_length}

-- ---- small steps

all_by : {A : Type 0} (P : A → Type 0) (xs : List A) → ((x : A) → Has xs x → P x) → All P xs
all_by P [] h = All-nil P
all_by P (x ∷ xs) h = All-cons P x xs (h x (inl refl)) (all_by P xs (λ y t. h y (inr t)))

-- ---- the blocks of the bitmaps

few_clusters : (g : Geometry) → IsGeometry g → total_of g ≤ 65536
few_clusters g is = by_size g.blocks g.cluster is.blocks_to is.cluster_from where
  by_size : (b c : ℕ) → b ≤ 65536 → 1 ≤ c → b / c ≤ 65536
  by_size b c le from = less_parts b c from le where
    less_parts : (b c : ℕ) → 1 ≤ c → b ≤ 65536 → b / c ≤ 65536
    less_parts b c from le = omega arith

few_parts : (total k : ℕ) → total ≤ 65536 → k < (total + 4095) / 4096 → k < 16
few_parts total k le lt = omega arith

part_of_cluster : (c total : ℕ) → c < total → c / 4096 < (total + 4095) / 4096
part_of_cluster c total lt = omega arith

module _ (g : Geometry) (base : List Block) (own : Owners) (c : Cat) (spelt : Spells g base own c) where
  pub place_within : (p : Part) → IsPart g p → (l : ℕ) → l ≡ place_of g p → l < length base
  place_within p is l place =
      let parts = are_parts g base own c spelt in
      let there : part_of g l ≡ Some p = ap (part_of g) place ∙ parts.there p is in
      on_volume g base own c spelt l _ (parts.owned l p there)

  -- what a give-back writes is a bitmap
  back_place : (cs ns : List ℕ) (looked : List (ℕ × Block)) (w : PlanWrite) (ws : List PlanWrite) → ((q : ℕ) → Has cs q → q < total_of g) → NumbersFirst g cs ns looked w ws ⊎ ClustersNext g cs ns looked w ws → IsBitmapPlace g cs w.lbn × (w.lbn < length base)
  back_place cs ns looked w ws inside (inl h) =
      let place : w.lbn ≡ place_of g IndexBitmap = ap (λ (v : PlanWrite). v.lbn) h.is in
      (Index place (λ q t. subst (λ (l : ℕ). has_bit_at g l q ≡ false) (sym place) (differ_places g base own c q spelt (part_of_cluster q (total_of g) (inside q t)))), place_within IndexBitmap tt w.lbn place)
  back_place cs ns looked w ws inside (inr h) =
      let place : w.lbn ≡ place_of g (Storage h.block) = ap (λ (v : PlanWrite). v.lbn) h.is in
      let parts = are_parts g base own c spelt in (
        InStorage h.block (few_parts (total_of g) h.block (few_clusters g spelt.counts.geometry) h.inside) place
            (λ e. absurd (let same : IndexBitmap ≡ Storage h.block = parts.apart IndexBitmap (Storage h.block) tt h.inside (sym e ∙ place) in cc)),
        place_within (Storage h.block) h.inside w.lbn place,
      )

-- ---- the events

abbrev lowers : Event → Bool
lowers event.LowerV = true
lowers event.LowerX = true
lowers event.Return = true
lowers other = false

not_lowered : (e : Event) → lowers e ≡ false → (e ≡ event.LowerV) ⊎ ((e ≡ event.LowerX) ⊎ (e ≡ event.Return)) → ⊥
not_lowered e none (inl f) = absurd (let z : false ≡ true = sym none ∙ ap lowers f in cc)
not_lowered e none (inr (inl f)) = absurd (let z : false ≡ true = sym none ∙ ap lowers f in cc)
not_lowered e none (inr (inr f)) = absurd (let z : false ≡ true = sym none ∙ ap lowers f in cc)

module _ (w : Plain) (good : Good w) (n : ℕ) (s : NodeState) (at : node_at w.nodes n ≡ Some s) (on : is_out s ≡ false) (granted : waits_at w.locks n s.claims ≡ false) where
  me : IsNode w n s
  me = good.nodes n s at

  abbrev g : Geometry
  g = s.seen.geometry

  abbrev under : IsUnder g good.running.cat (nodes_under w.locks w.nodes) w.blocks
  under = drive_so w good n s at

  pub geometry_now : IsGeometry g
  geometry_now = under.spelt.counts.geometry

  pub once_now : Once (names_of (joined (rows_of s)))
  once_now = (mine w good n s at on).once

  within : (l : ℕ) → l < length under.base → l < length w.blocks
  within l lt = subst (λ (k : ℕ). l < k) (sym under.over.count) lt

  looked_within : (l : ℕ) → Has (places g 1 true) l → l < length w.blocks
  looked_within l h = within l (places_lie g 1 true l under.base under.own good.running.cat h under.spelt).0

  -- ---- by the event

  few_now : length s.kept < 127
  few_now = let few = kept_few s.kept (kept_once s once_now) me.store.few in omega (arith, few)

  volume_now : IsGeometry w.geometry
  volume_now = subst (λ (k : Geometry). IsGeometry k) me.geometry geometry_now

  lock_x : (m : Mode) → Has s.kept (X, m) → IsSome (lock_of (system_of n) (resource_at X w.locks).askers)
  lock_x m h = ap is_some (lock_granted w.locks n X m ((held_are_granted w.locks n (X, m) (rows_of s) (mine w good n s at on)).0 (kept_held w.locks n s (X, m) me.rests h)))

  can_claim : (p : Phase) (name : LockName) (mode : Mode) → IsFew s.claims → IsClaimable w n name mode → CanMove w n s (event.Claim p name mode)
  can_claim p name mode few may = record {
    kept = few_now;
    claims = few_length s.claims few;
    geometry = geometry_now;
    volume = volume_now;
    claim = λ q k m e. (let a : name ≡ k = cc in let b : mode ≡ m = cc in subst (λ (j : Mode). IsClaimable w n k j) b (subst (λ (j : LockName). IsClaimable w n j mode) a may));
    look = λ a b l e. absurd (let f : event.Claim p name mode ≡ event.SpaceLook a b l = e in cc);
    write = λ v e. absurd (let f : event.Claim p name mode ≡ event.SpaceWrite v = e in cc);
    bitmaps = λ e. absurd (not_lowered (event.Claim p name mode) refl e);
    stocks = λ e. absurd (not_lowered (event.Claim p name mode) refl (inr e));
  }

  can_look : (clusters : ℕ) (number : Bool) (lbn : ℕ) → IsFew s.claims → lbn < length w.blocks → CanMove w n s (event.SpaceLook clusters number lbn)
  can_look clusters number lbn few lt = record {
    kept = few_now;
    claims = few_length s.claims few;
    geometry = geometry_now;
    volume = volume_now;
    claim = λ q k m e. absurd (let f : event.SpaceLook clusters number lbn ≡ event.Claim q k m = e in cc);
    look = λ a b l e. (let f : lbn ≡ l = cc in subst (λ (j : ℕ). j < length w.blocks) f lt);
    write = λ v e. absurd (let f : event.SpaceLook clusters number lbn ≡ event.SpaceWrite v = e in cc);
    bitmaps = λ e. absurd (not_lowered (event.SpaceLook clusters number lbn) refl e);
    stocks = λ e. absurd (not_lowered (event.SpaceLook clusters number lbn) refl (inr e));
  }

  can_write : (v : PlanWrite) → IsFew s.claims → IsNextWrite w s v → CanMove w n s (event.SpaceWrite v)
  can_write v few is = record {
    kept = few_now;
    claims = few_length s.claims few;
    geometry = geometry_now;
    volume = volume_now;
    claim = λ q k m e. absurd (let f : event.SpaceWrite v ≡ event.Claim q k m = e in cc);
    look = λ a b l e. absurd (let f : event.SpaceWrite v ≡ event.SpaceLook a b l = e in cc);
    write = λ u e. (let f : v ≡ u = cc in subst (λ (j : PlanWrite). IsNextWrite w s j) f is);
    bitmaps = λ e. absurd (not_lowered (event.SpaceWrite v) refl e);
    stocks = λ e. absurd (not_lowered (event.SpaceWrite v) refl (inr e));
  }

  -- V is held in PW, and X kept
  can_lower : (e : Event) → lowers e ≡ true → s.claims ≡ (V, PW) ∷ [] → (m : Mode) → Has s.kept (X, m) → CanMove w n s e
  can_lower e low claims m x = record {
    kept = few_now;
    claims = few_length s.claims (inr ((V, PW), claims));
    geometry = geometry_now;
    volume = volume_now;
    claim = λ q k j f. absurd (let z : true ≡ false = sym low ∙ ap lowers f in cc);
    look = λ a b l f. absurd (let z : true ≡ false = sym low ∙ ap lowers f in cc);
    write = λ v f. absurd (let z : true ≡ false = sym low ∙ ap lowers f in cc);
    bitmaps = λ f. lock_v w good n s at on granted claims;
    stocks = λ f. lock_x m x;
  }

  -- ---- a claim

  claimable : (p q : Phase) (name : LockName) (mode : Mode) → IsFew s.claims → s.run ≡ begun_run q → ((f : ℕ) → name ≢ A f) → mode ≢ CW
      → (Has (names_of (joined ((s.kept ++ s.claims) ∷ (s.asked ∷ ([] ∷ []))))) name → ⊥) ⊎ Has (s.kept ++ s.claims) (name, NL) → IsClaimable w n name mode
  claimable p q name mode few begun far not_cw new =
      let c = claimed w good n s at on p name mode few granted q begun far not_cw new in
      record { may = c.took.may; waits = c.waits }

  none_claimed : s.claims ≡ [] → IsFew s.claims
  none_claimed e = inl e

  one_claimed : (l : LockName × Mode) → s.claims ≡ l ∷ [] → IsFew s.claims
  one_claimed l e = inr (l, e)

  one_x : (m : Mode) → s.claims ≡ (X, m) ∷ [] → (l : LockName × Mode) → Has s.claims l → l.0 ≡ X
  one_x m claims l k = ap (λ (y : LockName × Mode). y.0) (sym (one_of s.claims (X, m) l claims k))

  pw_not_cw : PW ≢ CW
  pw_not_cw e = absurd (let f : PW ≡ CW = e in cc)

  -- ---- a give-back's write

  inside_stock : (s.run.phase ≡ phase.Drain) ⊎ (s.run.phase ≡ phase.Back) → (q : ℕ) → Has s.stock.clusters q → q < total_of g
  inside_stock which q h =
      let same : stock_now s.stock s.run ≡ things_in s.stock = ap (λ t. together_with t) (back_taken s.run.phase s.run.writes s.run.made which) ∙ with_nothing (things_in s.stock) in
      outside_within g n (under_with w.locks n s s.cmd).took s.stock.clusters s.stock.numbers under.base under.own good.running.cat q under.spelt
      (subst (λ (k : Things). Outs n under.own (under_with w.locks n s s.cmd).took k) same (outs_so w good n s at)) h where
        together_with : Things → Things
        together_with t = together (things_in s.stock) t

  back_can : (s.run.phase ≡ phase.Drain) ⊎ (s.run.phase ≡ phase.Back) → IsWritingBack g s.stock s.run → (v : PlanWrite) → slice_get s.run.writes s.run.made ≡ Some v → IsNextWrite w s v
  back_can which back v next =
      let b = back_place g under.base under.own good.running.cat under.spelt s.stock.clusters s.stock.numbers s.run.looked v (drop (s.run.made + 1) s.run.writes) (inside_stock which)
      (give_step g s.stock.clusters s.stock.numbers s.run.looked v (drop (s.run.made + 1) s.run.writes) (sym back.rest ∙ drop_at s.run.writes s.run.made v next)) in
      record {
        next = next;
        within = within v.lbn b.1;
        can = record {
          geometry = geometry_now;
          clusters = λ e. absurd (not_fill which e);
          numbers = λ e. absurd (not_fill which e);
          place = λ e. b.0;
          ready = λ e last. absurd (not_last which e);
        };
      } where
        not_fill : (s.run.phase ≡ phase.Drain) ⊎ (s.run.phase ≡ phase.Back) → s.run.phase ≡ phase.Fill → ⊥
        not_fill (inl e) f = absurd (let z : phase.Drain ≡ phase.Fill = sym e ∙ f in cc)
        not_fill (inr e) f = absurd (let z : phase.Back ≡ phase.Fill = sym e ∙ f in cc)

        not_last : (s.run.phase ≡ phase.Drain) ⊎ (s.run.phase ≡ phase.Back) → s.run.phase ≡ phase.Last → ⊥
        not_last (inl e) f = absurd (let z : phase.Drain ≡ phase.Last = sym e ∙ f in cc)
        not_last (inr e) f = absurd (let z : phase.Back ≡ phase.Last = sym e ∙ f in cc)

  -- ---- a give-back

  by_backing : (e : Event) → BackMoves w good n s at once_now e → CanMove w n s e
  by_backing e (BackClaims due f) = subst (CanMove w n s) (sym f) (can_claim phase.Back V PW (none_claimed due.off.claims)
      (claimable phase.Back phase.Off V PW (none_claimed due.off.claims) due.off.run v_not_a pw_not_cw (v_new w good n s at on due.not_asked (no_claims w good n s at on due.off.claims))))
  by_backing e (BackLooks h writes made lbn next f) = subst (CanMove w n s) (sym f) (can_look 0 false lbn (one_claimed (V, PW) h.claims) (looked_within lbn (give_looked g s.stock.clusters s.stock.numbers s.run.looked lbn next)))
  by_backing e (BackWrites h back v next f) = subst (CanMove w n s) (sym f) (can_write v (one_claimed (V, PW) h.claims) (back_can (inr h.back) back v next))
  by_backing e (Returns h back none f) = subst (CanMove w n s) (sym f) (can_lower event.Return refl h.claims CR h.shared)

  pub back_can_move : gives_back w n s ≡ true → CanMove w n s (by_back s)
  back_can_move gives = by_backing (by_back s) (back_moves_so w good n s at once_now on gives)

  -- ---- for its command

  module _ (x : Cmd) (cmd : s.cmd ≡ Some x) (free : waits_at w.locks n s.asked ≡ false) (no_plan : s.plan ≡ None) (calmly : s.run.phase ≡ phase.Back → ⊥) (is : IsNext x s.seen (need.Space (wanted_by x s.seen) (numbered_by x s.seen)))
      (not_served : serves s (wanted_by x s.seen) (numbered_by x s.seen) ≡ false) where
    has_none : HasNoSpace (space_of s.seen)
    has_none = (may_need w good n s at x cmd free (need.Space (wanted_by x s.seen) (numbered_by x s.seen)) is).1

    at_rest : s.claims ≡ [] → NeedsSpace x s.seen
    at_rest e = (needs_now w good n s at x cmd free no_plan (wanted_by x s.seen) (numbered_by x s.seen) is e).needs

    by_rules : Rules x s.kept s.claims s.run s.stock s.seen → NeedsSpace x s.seen
    by_rules (Served h) = h.needs
    by_rules (Given h) = at_rest h.claims
    by_rules (Shared h) = h.needs
    by_rules (Fills h) = h.filling.needs
    by_rules (Grabs h) = h.filling.needs
    by_rules (Filled h) = h.needs
    by_rules (Drains h) = h.needs
    by_rules (Alone h) = h.needs
    by_rules (Looking h) = h.needs
    by_rules (Taking h) = h.needs
    by_rules (Taken h) = absurd (taken_not w good n s at on x cmd free no_plan granted is not_served h)
    by_rules (Refused h) = absurd (let f : Some h.why ≡ None = sym h.short ∙ has_none.short in cc)

    needs_it : NeedsSpace x s.seen
    needs_it = elim (calm x s.kept s.claims s.run s.stock s.seen calmly (space_now w good n s at x cmd free)) [ inl off ↦ at_rest off.claims | inr r ↦ by_rules r ]

    pub its_moves : Moves w good n s at once_now x (by_space s (wanted_by x s.seen) (numbered_by x s.seen))
    its_moves = moves_so w good n s at once_now x needs_it not_served calmly (space_now w good n s at x cmd free)

    not_asked_v : Has (names_of s.asked) V → ⊥
    not_asked_v = v_not_its w good n s at on x cmd free no_plan needs_it

    -- X is neither kept nor asked for
    x_is_new : IsOff s.claims s.run s.seen → is_shared (mode_in X (s.kept ++ s.claims)) ≡ false → Has (names_of (joined ((s.kept ++ s.claims) ∷ (s.asked ∷ ([] ∷ []))))) X → ⊥
    x_is_new off not_held h =
        let bare : s.kept ++ s.claims ≡ s.kept = ap (λ ls. s.kept ++ ls) off.claims ∙ append-nil s.kept in
        elim (names_parted (s.kept ++ s.claims) (s.asked ++ ([] ++ [])) X h) [
          | inl a ↦ (
              let k = named_by s.kept X (subst (λ (ls : Row). Has (names_of ls) X) bare a) in
              not_shared s.kept (kept_once s once_now) (x_in_cr s.run.phase s.kept k.0 off_not_last me.store.kept k.1) (ap (λ ls. is_shared (mode_in X ls)) (sym bare) ∙ not_held))
          | inr c ↦ x_not_its w good n s at on x cmd free no_plan (subst (λ (ls : Row). Has (names_of ls) X) (append-nil s.asked) c)
        ] where
          off_not_last : s.run.phase ≡ phase.Last → ⊥
          off_not_last f = absurd (let z : phase.Off ≡ phase.Last = sym (ap (λ (y : SpaceRun). y.phase) off.run) ∙ f in cc)

    fill_can : FillWrites x s.kept s.claims s.run s.stock s.seen → (v : PlanWrite) → slice_get s.run.writes s.run.made ≡ Some v → IsNextWrite w s v
    fill_can h v next =
        let k : ℕ = wanted_by x s.seen in
        let lacks : Bool = lacks_by x s.seen s.stock in
        let bs : List Block = blocks_alone s.run.looked in
        let filling = writes_fill g k (length s.stock.clusters) lacks bs s.run.writes s.run.made v geometry_now h.enough next in
        record {
          next = next;
          within = within v.lbn (elim filling.takes [
            | inl a ↦ place_within g under.base under.own good.running.cat under.spelt IndexBitmap tt v.lbn a.place
            | inr a ↦ place_within g under.base under.own good.running.cat under.spelt (Storage a.part) a.inside v.lbn a.place
          ]);
          can = record {
            geometry = geometry_now;
            clusters = λ e. all_by (λ c. c < 65536) v.clusters (λ q t. below q (total_of g) (clusters_within g k (length s.stock.clusters) lacks bs s.run.writes s.run.made v geometry_now h.enough next q t) (few_clusters g geometry_now));
            numbers = λ e. all_by (λ m. (1 ≤ m) × (m ≤ 4096)) v.numbers (λ m t. (
                let its = numbers_within g k (length s.stock.clusters) lacks bs s.run.writes s.run.made v h.enough next m t in (its.0, at_most m g.files its.1 geometry_now.files_to)));
            place = λ e. absurd (not_back e);
            ready = λ e last. absurd (let z : phase.Fill ≡ phase.Last = sym h.filling.fill ∙ e in cc);
          };
        } where
          below : (q t : ℕ) → q < t → t ≤ 65536 → q < 65536
          below q t lt le = omega arith

          at_most : (m f : ℕ) → m ≤ f → f ≤ 4096 → m ≤ 4096
          at_most m f a b = omega arith

          not_back : (s.run.phase ≡ phase.Drain) ⊎ (s.run.phase ≡ phase.Back) → ⊥
          not_back (inl e) = absurd (let z : phase.Fill ≡ phase.Drain = sym h.filling.fill ∙ e in cc)
          not_back (inr e) = absurd (let z : phase.Fill ≡ phase.Back = sym h.filling.fill ∙ e in cc)

    last_can : IsTaking x s.kept s.claims s.run s.stock s.seen → (v : PlanWrite) → slice_get s.run.writes s.run.made ≡ Some v → IsNextWrite w s v
    last_can h v next =
        let taking = writes_take g (wanted_by x s.seen) (numbered_by x s.seen) (blocks_alone s.run.looked) s.run.writes s.run.made v geometry_now h.found.enough next in
        record {
          next = next;
          within = within v.lbn (elim taking.takes [
            | inl a ↦ place_within g under.base under.own good.running.cat under.spelt IndexBitmap tt v.lbn a.place
            | inr a ↦ place_within g under.base under.own good.running.cat under.spelt (Storage a.part) a.inside v.lbn a.place
          ]);
          can = record {
            geometry = geometry_now;
            clusters = λ e. absurd (not_fill e);
            numbers = λ e. absurd (not_fill e);
            place = λ e. absurd (not_back e);
            ready = λ e last. h.ready ∙ ap (λ k. (out_after s.run.writes k).clusters) (sym (all_there (s.run.made + 1) (length s.run.writes) last)) ∙ ap (λ (k : Held). k.clusters) (out_next s.run.writes s.run.made v next);
          };
        } where
          is_at_last : s.run.phase ≡ phase.Last
          is_at_last = h.found.claimed_so.last

          not_fill : s.run.phase ≡ phase.Fill → ⊥
          not_fill e = absurd (let z : phase.Last ≡ phase.Fill = sym is_at_last ∙ e in cc)

          not_back : (s.run.phase ≡ phase.Drain) ⊎ (s.run.phase ≡ phase.Back) → ⊥
          not_back (inl e) = absurd (let z : phase.Last ≡ phase.Drain = sym is_at_last ∙ e in cc)
          not_back (inr e) = absurd (let z : phase.Last ≡ phase.Back = sym is_at_last ∙ e in cc)

    by_moves : (e : Event) → Moves w good n s at once_now x e → CanMove w n s e
    by_moves e (ClaimsX off lacks not_held f) = subst (CanMove w n s) (sym f) (can_claim phase.Fill X CR (none_claimed off.claims)
        (claimable phase.Fill phase.Off X CR (none_claimed off.claims) off.run x_not_a (λ z. absurd (let q : CR ≡ CW = z in cc)) (inl (x_is_new off not_held))))
    by_moves e (ClaimsV off lacks held f) = subst (CanMove w n s) (sym f) (can_claim phase.Fill V PW (none_claimed off.claims)
        (claimable phase.Fill phase.Off V PW (none_claimed off.claims) off.run v_not_a pw_not_cw (v_new w good n s at on not_asked_v (no_claims w good n s at on off.claims))))
    by_moves e (ClaimsBehind h f) = subst (CanMove w n s) (sym f) (can_claim phase.Fill V PW (one_claimed (X, CR) h.claims)
        (claimable phase.Fill phase.Fill V PW (one_claimed (X, CR) h.claims) h.run v_not_a pw_not_cw (v_new w good n s at on not_asked_v (one_x CR h.claims))))
    by_moves e (ClaimsAlone run claims has empty f) = subst (CanMove w n s) (sym f) (can_claim phase.Last X EX (none_claimed claims)
        (claimable phase.Last phase.Last X EX (none_claimed claims) run x_not_a (λ z. absurd (let q : EX ≡ CW = z in cc)) (inr (has_first s.kept s.claims (X, NL) has))))
    by_moves e (ClaimsLast run claims empty f) = subst (CanMove w n s) (sym f) (can_claim phase.Last V PW (one_claimed (X, EX) claims)
        (claimable phase.Last phase.Last V PW (one_claimed (X, EX) claims) run v_not_a pw_not_cw (v_new w good n s at on not_asked_v (one_x EX claims))))
    by_moves e (FillLook h lbn next f) = subst (CanMove w n s) (sym f) (can_look (wanted_by x s.seen) (numbered_by x s.seen) lbn (one_claimed (V, PW) h.filling.claims)
        (looked_within lbn (fill_looked g (clusters_to_take (wanted_by x s.seen) (length s.stock.clusters)) (lacks_by x s.seen s.stock) (blocks_alone s.run.looked) lbn next)))
    by_moves e (DrainLook h writes made lbn next f) = subst (CanMove w n s) (sym f) (can_look (wanted_by x s.seen) (numbered_by x s.seen) lbn (one_claimed (V, PW) h.claims)
        (looked_within lbn (give_looked g s.stock.clusters s.stock.numbers s.run.looked lbn next)))
    by_moves e (LastLook h lbn next f) = subst (CanMove w n s) (sym f) (can_look (wanted_by x s.seen) (numbered_by x s.seen) lbn (one_claimed (V, PW) h.claimed_so.claims)
        (within lbn (next_lies g (wanted_by x s.seen) (numbered_by x s.seen) (length (blocks_alone s.run.looked)) lbn under.base under.own good.running.cat (looks_in_order g (wanted_by x s.seen) (numbered_by x s.seen) (blocks_alone s.run.looked) lbn next) under.spelt).0))
    by_moves e (FillWrite h v next f) = subst (CanMove w n s) (sym f) (can_write v (one_claimed (V, PW) h.filling.claims) (fill_can h v next))
    by_moves e (DrainWrite h back v next f) = subst (CanMove w n s) (sym f) (can_write v (one_claimed (V, PW) h.claims) (back_can (inl h.drain) back v next))
    by_moves e (LastWrite h v next f) = subst (CanMove w n s) (sym f) (can_write v (one_claimed (V, PW) h.found.claimed_so.claims) (last_can h v next))
    by_moves e (Lowers h f) = subst (CanMove w n s) (sym f) (can_lower event.LowerV refl h.claims CR h.shared)
    by_moves e (Drained h back none f) = subst (CanMove w n s) (sym f) (can_lower event.LowerX refl h.claims CR h.shared)

    pub can_move : CanMove w n s (by_space s (wanted_by x s.seen) (numbered_by x s.seen))
    can_move = by_moves (by_space s (wanted_by x s.seen) (numbered_by x s.seen)) its_moves
