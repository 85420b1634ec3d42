-- The locks of a node are put back, row by row.
use Rattle.std.proofs.Common.{◌≡◌, ◌≤◌, ◌+◌, ◌++◌, ◌∙◌, ℕ, Bool, true, false, cond, List, [], ◌∷◌, Some, None, length, refl, sym, ap, subst, arith}
use Rattle.std.specs.Prelude.{not, filter}
use Rattle.std.proofs.lemmas.List.{append_assoc, length-append}
use Rattle.lock_db.specs.declared.resource.Resource.{Resource}
use Rattle.plain_cat.specs.declared.mode.Mode.TheVariants.{NL}
use Rattle.vol_parts.specs.declared.geometry.Geometry.{Geometry}
use Rattle.node_locks.specs.Held.{Row}
use Rattle.node_locks.specs.PuttingBack.{Keeps, Values, put_back, all_back, kept_by, MayPutBack}
use Rattle.node_cache.specs.Cached.{Cached}
use Rattle.op_law.specs.declared.need.Plan.{Plan}
use Rattle.op_law.specs.declared.need.PlanWrite.{PlanWrite}
use Rattle.core_space.specs.Lasting.{stays_by}
use Rattle.core_space.specs.Rule.{has_any}
use Rattle.core_state.specs.Worlds.{NodeState}
use Rattle.core_state.specs.Stocks.{roomless}
use Rattle.core_state.specs.Asks.{writes_by, writes_now}
use Rattle.core_state.specs.Caches.{has_entry, keeps, raised_values, put_back_all, lowered_of}
use Rattle.core_state.specs.Events.{all_writes, staying, going, used_locks, given_back}
use Rattle.core_state.proofs.Sweeps.{back_both}
use Rattle.core_step.specs.Giving.{MayGiveAll, MayPutAllBack}
use Rattle.core_step.proofs.Lists.{length_filter}

-- of the locks that a node keeps, those that do not stay
abbrev pub going_of : Bool → List Cached → Row → Row
going_of stocked es ls = filter (λ l. not (stays_by stocked es l)) ls

-- the writes of a node that has decided on a plan
pub writes_are : (s : NodeState) (p : Plan) (takes ws : List PlanWrite) → s.plan ≡ Some p → takes ≡ s.run.writes → ws ≡ writes_by p.ask s.tried p.writes → takes ++ ws ≡ all_writes s
writes_are s p takes ws plan e f = λ i. e i ++ (f ∙ ap (writes_now s.tried) (sym plan)) i

-- ---- two rows, one after the other

put_first : (n : ℕ) (ke : Keeps) (va : Values) (ls ks : Row) (t : List Resource) → MayPutBack n ke va (ls ++ ks) t → MayPutBack n ke va ls t
put_first n ke va [] ks t may = tt
put_first n ke va (l ∷ ls) ks t may = (may.0, put_first n ke va ls ks (put_back n (va l t) l (ke l) t) may.1)

put_second : (n : ℕ) (ke : Keeps) (va : Values) (ls ks : Row) (t : List Resource) → MayPutBack n ke va (ls ++ ks) t → MayPutBack n ke va ks (all_back n ke va ls t)
put_second n ke va [] ks t may = may
put_second n ke va (l ∷ ls) ks t may = put_second n ke va ls ks (put_back n (va l t) l (ke l) t) may.1

lowered_joined : (es : List Cached) (ls ks : Row) → lowered_of es (ls ++ ks) ≡ lowered_of es ls ++ lowered_of es ks
lowered_joined es [] ks = refl
lowered_joined es (l ∷ ls) ks = by_test (has_entry es l.0) (lowered_joined es ls ks) where
  by_test : (b : Bool) → lowered_of es (ls ++ ks) ≡ lowered_of es ls ++ lowered_of es ks → kept_by l (cond b (Some NL) None) ++ lowered_of es (ls ++ ks) ≡ (kept_by l (cond b (Some NL) None) ++ lowered_of es ls) ++ lowered_of es ks
  by_test true e = ap (λ (y : Row). (l.0, NL) ∷ y) e
  by_test false e = e

lowered_fewer : (es : List Cached) (ls : Row) → length (lowered_of es ls) ≤ length ls
lowered_fewer es [] = omega arith
lowered_fewer es (l ∷ ls) = by_test (has_entry es l.0) (lowered_fewer es ls) where
  by_test : (b : Bool) → length (lowered_of es ls) ≤ length ls → length (kept_by l (cond b (Some NL) None) ++ lowered_of es ls) ≤ length (l ∷ ls)
  by_test true le = omega (arith, le)
  by_test false le = omega (arith, le)

-- ---- what a node keeps behind its answer: what stays of what it kept, and of each row of its command's what is lowered

module _ (s : NodeState) (stocked : Bool) (ls ks ms us : Row) (has : stocked ≡ has_any (roomless s.stock)) (a : ls ≡ s.asked) (b : ks ≡ s.claims) (m : ms ≡ filter (stays_by stocked s.cache) s.kept) where
  pub kept_so : (vs : Row) → us ≡ ms ++ lowered_of s.cache ls → vs ≡ us ++ lowered_of s.cache ks → vs ≡ staying s ++ lowered_of s.cache (used_locks s)
  kept_so vs u v =
      v ∙ ap (λ (y : Row). y ++ lowered_of s.cache ks) (u ∙ ap (λ (y : Row). y ++ lowered_of s.cache ls) m)
      ∙ (λ i. (filter (stays_by (has i) s.cache) s.kept ++ lowered_of s.cache (a i)) ++ lowered_of s.cache (b i))
      ∙ append_assoc (staying s) (lowered_of s.cache s.asked) (lowered_of s.cache s.claims)
      ∙ ap (λ (y : Row). staying s ++ y) (sym (lowered_joined s.cache s.asked s.claims))

  module _ (room : length s.kept + (length s.asked + length s.claims) ≤ 128) where
    stay_few : length ms ≤ length s.kept
    stay_few = subst (λ (y : Row). length y ≤ length s.kept) (sym m) (length_filter (stays_by stocked s.cache) s.kept)

    pub room_asked : length ms + length ls ≤ 128
    room_asked = let few = stay_few in let same : length ls ≡ length s.asked = ap length a in omega (arith, few, same, room)

    pub room_claims : us ≡ ms ++ lowered_of s.cache ls → length us + length ks ≤ 128
    room_claims u =
        let few = stay_few in
        let asked : length ls ≡ length s.asked = ap length a in
        let claims : length ks ≡ length s.claims = ap length b in
        let less = lowered_fewer s.cache ls in
        let sum : length us ≡ length ms + length (lowered_of s.cache ls) = ap length u ∙ length-append ms (lowered_of s.cache ls) in
        omega (arith, few, asked, claims, less, sum, room)

-- ---- these writes, the locks of these rows, and in the last those that do not stay

module _ (g : Geometry) (n : ℕ) (s : NodeState) (t : List Resource) (ws : List PlanWrite) (ls ks ms : Row) (stocked : Bool) (same : ws ≡ all_writes s) (a : ls ≡ s.asked) (b : ks ≡ s.claims) (m : ms ≡ s.kept) (has : stocked ≡ has_any (roomless s.stock)) (may : MayPutAllBack g n s t) where
  -- the locks after those of the command are put back
  abbrev put : List Resource
  put = put_back_all g n (all_writes s) s.cache (used_locks s) t

  used_are : ls ++ ks ≡ used_locks s
  used_are = λ i. a i ++ b i

  going_are : going_of stocked s.cache ms ≡ going s
  going_are = λ i. going_of (has i) s.cache (m i)

  may_used : MayPutBack n (keeps s.cache) (raised_values g ws) (ls ++ ks) t
  may_used = subst (λ (rs : Row). MayPutBack n (keeps s.cache) (raised_values g ws) rs t) (sym used_are) (subst (λ (vs : List PlanWrite). MayPutBack n (keeps s.cache) (raised_values g vs) (used_locks s) t) (sym same) may.puts)

  pub may_asked : MayPutBack n (keeps s.cache) (raised_values g ws) ls t
  may_asked = put_first n (keeps s.cache) (raised_values g ws) ls ks t may_used

  pub may_claims : (u : List Resource) → u ≡ put_back_all g n ws s.cache ls t → MayPutBack n (keeps s.cache) (raised_values g ws) ks u
  may_claims u e = subst (λ (v : List Resource). MayPutBack n (keeps s.cache) (raised_values g ws) ks v) (sym e) (put_second n (keeps s.cache) (raised_values g ws) ls ks t may_used)

  used_back : (u v : List Resource) → u ≡ put_back_all g n ws s.cache ls t → v ≡ put_back_all g n ws s.cache ks u → v ≡ put
  used_back u v e f =
      f ∙ ap (put_back_all g n ws s.cache ks) e ∙ sym (back_both n (keeps s.cache) (raised_values g ws) ls ks t)
      ∙ (λ i. put_back_all g n (same i) s.cache (used_are i) t)

  pub may_rest : (u v : List Resource) → u ≡ put_back_all g n ws s.cache ls t → v ≡ put_back_all g n ws s.cache ks u → MayGiveAll g n ws (going_of stocked s.cache ms) v
  may_rest u v e f =
      subst (λ (y : List Resource). MayGiveAll g n ws (going_of stocked s.cache ms) y) (sym (used_back u v e f))
      (subst (λ (rs : Row). MayGiveAll g n ws rs put) (sym going_are) (subst (λ (vs : List PlanWrite). MayGiveAll g n vs (going s) put) (sym same) may.gives))

  pub all_given : (u v z : List Resource) → u ≡ put_back_all g n ws s.cache ls t → v ≡ put_back_all g n ws s.cache ks u → z ≡ given_back g n ws (going_of stocked s.cache ms) v → z ≡ given_back g n (all_writes s) (going s) put
  all_given u v z e f h = h ∙ (λ i. given_back g n (same i) (going_are i) (used_back u v e f i))
