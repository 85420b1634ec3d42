-- What a search for space has looked at, and where it writes.
use Rattle.std.proofs.Common.{◌≡◌, ◌≢◌, ◌≤◌, ◌<◌, ◌+◌, ◌*◌, ◌/◌, ◌++◌, ◌||◌, ◌&&◌, ℕ, zero, suc, Bool, true, false, cond, List, [], ◌∷◌, Option, Some, None, length, map, take, slice_get, refl, sym, ap, subst, ◌∙◌, inl, inr, arith, ◌⊎◌, nat_le, nat_lt}
use Rattle.std.specs.Prelude.{not, ◌==◌}
use Rattle.std.specs.List.{zip}
use Rattle.std.proofs.lemmas.Bool.Decides.{nat_tests}
use Rattle.base_words.specs.Fields.{Block}
use Rattle.lock_db.specs.declared.name.LockName.{LockName}
use Rattle.lock_db.specs.declared.name.LockName.TheVariants.{V}
use Rattle.plain_cat.specs.declared.mode.Mode.{Mode}
use Rattle.plain_cat.specs.declared.reply.Refusal.{Refusal}
use Rattle.plain_cat.specs.declared.reply.Refusal.TheVariants.{IndexFull, DeviceFull}
use Rattle.plain_cat.specs.declared.cat.Cat.{Cat}
use Rattle.base_words.specs.Lists.{Has, Once, Touches, StandsIn}
use Rattle.vol_spell.specs.Owners.{Owners}
use Rattle.vol_parts.specs.declared.geometry.Geometry.{Geometry}
use Rattle.vol_parts.specs.Parts.{IsGeometry, storage_blocks}
use Rattle.vol_spell.specs.Reading.{total_of}
use Rattle.vol_spell.specs.Spelling.{Spells}
use Rattle.vol_under.specs.Guards.{Lock, guard_of}
use Rattle.vol_under.specs.Keeping.{IsBitmap}
use Rattle.op_law.specs.declared.need.Need.TheVariants as need
use Rattle.op_law.specs.declared.need.PlanWrite.{PlanWrite}
use Rattle.op_law.specs.Events.{Events, Take, Look, Fetch, Find, Make, Space, has_space, HasNoSpace, following}
use Rattle.core_space.specs.Searching.{More, Short, Enough, places, free_number, free_from, number_write, cluster_writes, found_clusters, found_number, found}
use Rattle.core_space.specs.Taking.{looked}
use Rattle.core_space.specs.Answering.{blocks_alone}
use Rattle.core_space.proofs.Ways.{short_of}
use Rattle.core_space.proofs.Looked.{places_lie, looked_grows}
use Rattle.core_space.proofs.Apart.{writes_apart}
use Rattle.core_space.proofs.Taken.{takes_all}
use Rattle.core_state.specs.Stocks.{rewrites, unwritten}
use Rattle.op_law.proofs.Asking.{not_so}

-- ---- blocks that stand

stands_each : (bs : List Block) (ss : List (ℕ × Block)) → StandsIn bs ss → (x : ℕ × Block) → Has ss x → slice_get bs x.0 ≡ Some x.1
stands_each bs [] stands x h = absurd h
stands_each bs (s ∷ ss) stands x (inl e) = subst (λ (y : ℕ × Block). slice_get bs y.0 ≡ Some y.1) e stands.0
stands_each bs (s ∷ ss) stands x (inr h) = stands_each bs ss stands.1 x h

each_stands : (bs : List Block) (ss : List (ℕ × Block)) → ((x : ℕ × Block) → Has ss x → slice_get bs x.0 ≡ Some x.1) → StandsIn bs ss
each_stands bs [] each = tt
each_stands bs (s ∷ ss) each = (each s (inl refl), each_stands bs ss (λ x h. each x (inr h)))

touched : (ss : List (ℕ × Block)) (l : ℕ) → Touches ss l → (b : Block) × Has ss (l, b)
touched [] l t = absurd t
touched (s ∷ ss) l (inl e) = (s.1, inl (ap (λ k. (k, s.1)) e))
touched (s ∷ ss) l (inr t) = let r = touched ss l t in (r.0, inr r.1)

pub touches_its : (ss : List (ℕ × Block)) (x : ℕ × Block) → Has ss x → Touches ss x.0
touches_its [] x h = absurd h
touches_its (s ∷ ss) x (inl e) = inl (ap (λ (y : ℕ × Block). y.0) e)
touches_its (s ∷ ss) x (inr h) = inr (touches_its ss x h)

-- what stands, and is guarded, does so in part
pub part_stands : (bs : List Block) (all part : List (ℕ × Block)) → ((x : ℕ × Block) → Has part x → Has all x) → StandsIn bs all → StandsIn bs part
part_stands bs all part some stands = each_stands bs part (λ x h. stands_each bs all stands x (some x h))

pub stands_its : (bs : List Block) (ss : List (ℕ × Block)) (l : ℕ) (b : Block) → StandsIn bs ss → Has ss (l, b) → slice_get bs l ≡ Some b
stands_its bs ss l b stands h = stands_each bs ss stands (l, b) h

pub part_touches : (all part : List (ℕ × Block)) → ((x : ℕ × Block) → Has part x → Has all x) → (l : ℕ) → Touches part l → Touches all l
part_touches all part some l t = let r = touched part l t in touches_its all (l, r.0) (some (l, r.0) r.1)

pub left_of : (ws : List PlanWrite) (ss : List (ℕ × Block)) (x : ℕ × Block) → Has (unwritten ws ss) x → Has ss x × (rewrites ws x.0 ≡ false)
left_of ws [] x h = absurd h
left_of ws (s ∷ ss) x h = by_test (not (rewrites ws s.0)) refl h (λ t. left_of ws ss x t) where
  by_test : (b : Bool) → not (rewrites ws s.0) ≡ b → Has (cond b (s ∷ unwritten ws ss) (unwritten ws ss)) x → (Has (unwritten ws ss) x → Has ss x × (rewrites ws x.0 ≡ false)) → Has (s ∷ ss) x × (rewrites ws x.0 ≡ false)
  by_test true e (inl f) rest = (inl f, subst (λ (y : ℕ × Block). rewrites ws y.0 ≡ false) f (not_so (rewrites ws s.0) e))
  by_test true e (inr t) rest = let r = rest t in (inr r.0, r.1)
  by_test false e t rest = let r = rest t in (inr r.0, r.1)

pub is_left : (ws : List PlanWrite) (ss : List (ℕ × Block)) (x : ℕ × Block) → Has ss x → rewrites ws x.0 ≡ false → Has (unwritten ws ss) x
is_left ws [] x h none = absurd h
is_left ws (s ∷ ss) x h none = by_test (not (rewrites ws s.0)) refl h (λ t. is_left ws ss x t none) where
  by_test : (b : Bool) → not (rewrites ws s.0) ≡ b → Has (s ∷ ss) x → (Has ss x → Has (unwritten ws ss) x) → Has (cond b (s ∷ unwritten ws ss) (unwritten ws ss)) x
  by_test true e (inl f) rest = inl f
  by_test true e (inr t) rest = inr (rest t)
  by_test false e (inl f) rest = absurd (let g : rewrites ws s.0 ≡ false = subst (λ (y : ℕ × Block). rewrites ws y.0 ≡ false) (sym f) none in let k : false ≡ true = sym e ∙ ap not g in cc)
  by_test false e (inr t) rest = rest t

none_rewritten : (ws : List PlanWrite) (k l : ℕ) → ws ≡ [] → rewrites (take k ws) l ≡ false
none_rewritten ws k l e = ap (λ vs. rewrites (take k vs) l) e ∙ none k where
  none : (k : ℕ) → rewrites (take k (let vs : List PlanWrite = [] in vs)) l ≡ false
  none zero = refl
  none (suc k) = refl

-- where nothing is written all is left
pub all_left : (ws : List PlanWrite) (k : ℕ) (ss : List (ℕ × Block)) (x : ℕ × Block) → ws ≡ [] → Has ss x → Has (unwritten (take k ws) ss) x
all_left ws k ss x e h = is_left (take k ws) ss x h (none_rewritten ws k x.0 e)

pub neither : (a b : Bool) → (a || b) ≡ false → (a ≡ false) × (b ≡ false)
neither true b e = absurd (let f : true ≡ false = e in cc)
neither false b e = (refl, e)

rewrites_next : (ws : List PlanWrite) (k l : ℕ) (w : PlanWrite) → slice_get ws k ≡ Some w → rewrites (take (suc k) ws) l ≡ false → (rewrites (take k ws) l ≡ false) × (w.lbn ≢ l)
rewrites_next [] k l w at e = absurd (let f : None ≡ Some w = at in cc)
rewrites_next (y ∷ ws) zero l w at e =
    let f : Some y ≡ Some w = at in
    let h : y ≡ w = cc in
    let t : (y.lbn == l) ≡ false = (neither (y.lbn == l) false e).0 in
    let u : (w.lbn == l) ≡ false = ap (λ (z : PlanWrite). z.lbn == l) (sym h) ∙ t in
    (refl, other w.lbn l u) where
      other : (a b : ℕ) → (a == b) ≡ false → a ≢ b
      other a b e = grind (arith, nat_tests)
rewrites_next (y ∷ ws) (suc k) l w at e =
    let t = neither (y.lbn == l) (rewrites (take (suc k) ws) l) e in
    let r = rewrites_next ws k l w at t.1 in
    (ap (λ b. b || rewrites (take k ws) l) t.0 ∙ r.0, r.1)

pub one_more_is : (k : ℕ) → k + 1 ≡ suc k
one_more_is k = omega arith

-- one write more leaves no more, and not what it is to
pub less_left : (ws : List PlanWrite) (k : ℕ) (w : PlanWrite) (ss : List (ℕ × Block)) (x : ℕ × Block) → slice_get ws k ≡ Some w → Has (unwritten (take (k + 1) ws) ss) x → Has (unwritten (take k ws) ss) x × (w.lbn ≢ x.0)
less_left ws k w ss x at h =
    let r = left_of (take (k + 1) ws) ss x h in
    let t = rewrites_next ws k x.0 w at (ap (λ j. rewrites (take j ws) x.0) (sym (one_more_is k)) ∙ r.1) in
    (is_left (take k ws) ss x r.0 t.0, t.1)

pub not_left : (ws : List PlanWrite) (k : ℕ) (w : PlanWrite) (ss : List (ℕ × Block)) → slice_get ws k ≡ Some w → Touches (unwritten (take (k + 1) ws) ss) w.lbn → ⊥
not_left ws k w ss at t = let r = touched (unwritten (take (k + 1) ws) ss) w.lbn t in (less_left ws k w ss (w.lbn, r.0) at r.1).1 refl

-- ---- the blocks that are looked at, in order

zip_none : {A B : Type 0} (xs : List A) → zip xs (let ys : List B = [] in ys) ≡ []
zip_none [] = refl
zip_none (x ∷ xs) = refl

pub blocks_next : (ss : List (ℕ × Block)) (l : ℕ) (b : Block) → blocks_alone (ss ++ (l, b) ∷ []) ≡ blocks_alone ss ++ b ∷ []
blocks_next [] l b = refl
blocks_next (s ∷ ss) l b = ap (λ bs. s.1 ∷ bs) (blocks_next ss l b)

-- one more in order
pub next_in_order : (g : Geometry) (clusters : ℕ) (number : Bool) (ss : List (ℕ × Block)) (l : ℕ) (b : Block) → ss ≡ looked g clusters number (blocks_alone ss) → slice_get (places g clusters number) (length (blocks_alone ss)) ≡ Some l
    → ss ++ (l, b) ∷ [] ≡ looked g clusters number (blocks_alone (ss ++ (l, b) ∷ []))
next_in_order g clusters number ss l b is at =
    ap (λ zs. zs ++ (l, b) ∷ []) is ∙ sym (looked_grows g clusters number (blocks_alone ss) l b at) ∙ ap (looked g clusters number) (sym (blocks_next ss l b))

pub none_in_order : (g : Geometry) (clusters : ℕ) (number : Bool) (ss : List (ℕ × Block)) → ss ≡ [] → ss ≡ looked g clusters number (blocks_alone ss)
none_in_order g clusters number ss e = e ∙ sym (zip_none (places g clusters number)) ∙ ap (λ (zs : List (ℕ × Block)). zip (places g clusters number) (blocks_alone zs)) (sym e)

get_has : (xs : List ℕ) (k l : ℕ) → slice_get xs k ≡ Some l → Has xs l
get_has [] k l e = absurd (let f : None ≡ Some l = e in cc)
get_has (x ∷ xs) zero l e = inl (let f : Some x ≡ Some l = e in cc)
get_has (x ∷ xs) (suc k) l e = inr (get_has xs k l e)

-- the block that comes next is of a bitmap inside the volume, and V guards it
pub next_lies : (g : Geometry) (clusters : ℕ) (number : Bool) (k l : ℕ) (base : List Block) (own : Owners) (c : Cat) → slice_get (places g clusters number) k ≡ Some l → Spells g base own c
    → (l < length base) × IsBitmap g l × (guard_of g own l ≡ Some (Lock V))
next_lies g clusters number k l base own c e spelt = places_lie g clusters number l base own c (get_has (places g clusters number) k l e) spelt

-- ---- where it writes

lbn_has : (ws : List PlanWrite) (k : ℕ) (w : PlanWrite) → slice_get ws k ≡ Some w → Has (map (λ w. w.lbn) ws) w.lbn
lbn_has [] k w e = absurd (let f : None ≡ Some w = e in cc)
lbn_has (y ∷ ws) zero w e = inl (let f : Some y ≡ Some w = e in let h : y ≡ w = cc in ap (λ z. z.lbn) h)
lbn_has (y ∷ ws) (suc k) w e = inr (lbn_has ws k w e)

pub not_same : (a b : ℕ) → a ≢ b → (a == b) ≡ false
not_same a b ne = grind (arith, nat_tests)

pub once_at : (ws : List PlanWrite) (k : ℕ) (w : PlanWrite) → Once (map (λ w. w.lbn) ws) → slice_get ws k ≡ Some w → rewrites (take k ws) w.lbn ≡ false
once_at [] k w once e = absurd (let f : None ≡ Some w = e in cc)
once_at (y ∷ ws) zero w once e = refl
once_at (y ∷ ws) (suc k) w once e =
    let ne : y.lbn ≢ w.lbn = λ f. once.0 (subst (Has (map (λ w. w.lbn) ws)) (sym f) (lbn_has ws k w e)) in
    ap (λ u. u || rewrites (take k ws) w.lbn) (not_same y.lbn w.lbn ne) ∙ once_at ws k w once.1 e

-- no write of a search is to a block to which one before it is
pub not_before : (g : Geometry) (clusters : ℕ) (number : Bool) (bs : List Block) (ws : List PlanWrite) (base : List Block) (own : Owners) (c : Cat) (k : ℕ) (w : PlanWrite) → found g clusters number bs ≡ Enough ws → Spells g base own c → slice_get ws k ≡ Some w
    → rewrites (take k ws) w.lbn ≡ false
not_before g clusters number bs ws base own c k w e spelt at = once_at ws k w (writes_apart g clusters number bs ws base own c e spelt) at

-- ---- how it begins and ends

-- the need for space says that none of it is there
pub space_wanted : (es : Events) (locks : List (LockName × Mode)) (blocks : List (ℕ × Block)) (space : Space) (k : ℕ) (b : Bool) → following es locks blocks space ≡ need.Space k b → has_space k b space ≡ false
space_wanted (Take name mode next) [] blocks space k b e = absurd (let f : need.Lock name mode ≡ need.Space k b = e in cc)
space_wanted (Take name mode next) (l ∷ locks) blocks space k b e = space_wanted next locks blocks space k b e
space_wanted (Look name lbn next) locks [] space k b e = absurd (let f : need.Block name lbn ≡ need.Space k b = e in cc)
space_wanted (Look name lbn next) locks (y ∷ blocks) space k b e = space_wanted (next y.1) locks blocks space k b e
space_wanted (Fetch lbn next) locks [] space k b e = absurd (let f : need.Bare lbn ≡ need.Space k b = e in cc)
space_wanted (Fetch lbn next) locks (y ∷ blocks) space k b e = space_wanted (next y.1) locks blocks space k b e
space_wanted (Find c n next) locks blocks space k b e = by_test (has_space c n space) refl e (space_wanted (next space.clusters space.number space.short) locks blocks space k b) where
  by_test : (t : Bool) → has_space c n space ≡ t → cond t (following (next space.clusters space.number space.short) locks blocks space) (need.Space c n) ≡ need.Space k b
      → (following (next space.clusters space.number space.short) locks blocks space ≡ need.Space k b → has_space k b space ≡ false) → has_space k b space ≡ false
  by_test true f e rest = rest e
  by_test false f e rest =
      let g : need.Space c n ≡ need.Space k b = e in
      let h : c ≡ k = cc in
      let i : n ≡ b = cc in
      subst (λ (m : Bool). has_space k m space ≡ false) i (subst (λ (j : ℕ). has_space j n space ≡ false) h f)
space_wanted (Make plan) locks blocks space k b e = absurd (let f : need.Ready plan ≡ need.Space k b = e in cc)

abbrev pub no_space : Space
no_space = record { clusters = []; number = None; short = None }

pub wants_some : (es : Events) (locks : List (LockName × Mode)) (blocks : List (ℕ × Block)) (space : Space) (k : ℕ) (b : Bool) → HasNoSpace space → following es locks blocks space ≡ need.Space k b → has_space k b no_space ≡ false
wants_some es locks blocks space k b none e =
    let same : space ≡ no_space = λ i. record { clusters = none.clusters i; number = none.number i; short = none.short i } in
    subst (λ (s : Space). has_space k b s ≡ false) same (space_wanted es locks blocks space k b e)

pub some_quotient : (b c q : ℕ) → b / c ≡ q → 1 ≤ c → c ≤ 16 → 64 ≤ b → 1 ≤ q
some_quotient b c zero e from to many =
    let none : c * (b / c) ≡ 0 = ap (λ (k : ℕ). c * k) e ∙ (let z : c * 0 ≡ 0 = omega arith in z) in
    absurd (omega arith)
some_quotient b c (suc q) e from to many = omega arith

-- so it looks first
pub first_more : (g : Geometry) (k : ℕ) (b : Bool) → IsGeometry g → has_space k b no_space ≡ false → found g k b [] ≡ More
unfolding found_clusters free_from
first_more g k true is e = refl
first_more g k false is e = by_tests (nat_le k 0) (nat_lt 0 (storage_blocks (total_of g))) (above k e) there where
  above : (k : ℕ) → ((0 == k) && true) ≡ false → nat_le k 0 ≡ false
  above k e = grind (arith, nat_tests)

  some_total : 1 ≤ g.blocks / g.cluster
  some_total = some_quotient g.blocks g.cluster (g.blocks / g.cluster) refl is.cluster_from is.cluster_to is.blocks_from

  some_blocks : (t : ℕ) → 1 ≤ t → nat_lt 0 ((t + 4095) / 4096) ≡ true
  some_blocks t le = let a : 1 ≤ (t + 4095) / 4096 = omega arith in grind (arith, nat_tests)

  there : nat_lt 0 (storage_blocks (total_of g)) ≡ true
  there = some_blocks (total_of g) some_total

  by_tests : (t u : Bool) → t ≡ false → u ≡ true → cond t (Enough ([] ++ cluster_writes g k None [] 0 [])) (cond u More (Short DeviceFull)) ≡ More
  by_tests true u e f = absurd (let h : true ≡ false = e in cc)
  by_tests false true e f = refl
  by_tests false false e f = absurd (let h : false ≡ true = f in cc)

-- who wants nothing does not need to search
pub wants_nothing : (b : Bool) (k : ℕ) → 0 ≡ k → false ≡ b → has_space k b no_space ≡ false → ⊥
wants_nothing true k f g h = let x : false ≡ true = g in absurd (cc)
wants_nothing false k f g h = let x : has_space 0 false no_space ≡ false = subst (λ (j : ℕ). has_space j false no_space ≡ false) (sym f) h in let y : true ≡ false = x in absurd (cc)

-- and a search does not end with nothing to write
pub some_writes : (g : Geometry) (k : ℕ) (b : Bool) (bs : List Block) (ws : List PlanWrite) → has_space k b no_space ≡ false → found g k b bs ≡ Enough ws → 0 < length ws
some_writes g k b bs [] wanted e = absurd (wants_nothing b k (takes_all g k b bs [] e).clusters (takes_all g k b bs [] e).number wanted)
some_writes g k b bs (w ∷ ws) wanted e = omega arith

refused_number : (g : Geometry) (k : ℕ) (index : Block) (n : Option ℕ) (bs : List Block) (r : Refusal) → found_number g k index n bs ≡ Short r → (r ≡ IndexFull) ⊎ (r ≡ DeviceFull)
refused_number g k index None bs r e = inl (let f : Short IndexFull ≡ Short r = e in cc)
refused_number g k index (Some n) bs r e = inr (short_of g k (Some n) (number_write g n index ∷ []) bs r e).2

-- a search is refused for want of a number or of clusters
pub refused_why : (g : Geometry) (k : ℕ) (b : Bool) (bs : List Block) (r : Refusal) → found g k b bs ≡ Short r → (r ≡ IndexFull) ⊎ (r ≡ DeviceFull)
refused_why g k false bs r e = inr (short_of g k None [] bs r e).2
refused_why g k true [] r e = absurd (let f : More ≡ Short r = e in cc)
refused_why g k true (index ∷ bs) r e = refused_number g k index (free_number g index) bs r e
