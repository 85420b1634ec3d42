-- Chains that are followed: what each step of the walk keeps.
use Rattle.std.proofs.Common.{◌≡◌, ◌∙◌, ◌≢◌, ◌+◌, ◌*◌, ◌<◌, ◌≤◌, ◌-◌, ℕ, Bool, true, false, List, [], ◌∷◌, length, get_or, Option, Some, None, Result, Ok, Err, refl, sym, ap, subst, take, drop, arith, cond, inl, inr, ⊎_elim, get_or-set_same, get_or-set_other}
use Rattle.std.proofs.Math.ListN.{set, replicate}
use Rattle.std.specs.Prelude.{◌||◌, ◌==◌, ◌⊎◌, slice_get, IfOk}
use Rattle.std.specs.List.{count_by}
use Rattle.std.proofs.lemmas.Bool.{both_ways, cases_lt, cases_eq, eqb-true, eq-eqb, ne_eqb}
use Rattle.std.proofs.lemmas.List.{take_all, get_or_default, get_or_append_left, get_or_push, get_or-replicate, get_or_past, get_or-take, get_or-drop, length_push, length-replicate, length-set, length-take-le, length-drop}
use Rattle.std.proofs.lemmas.List.Folds.{list_any_at, list_any_more, list_any_kept}
use Rattle.std.proofs.lemmas.List.Sums.{sum_by-set, count_by-le-length}
use Rattle.std.proofs.lemmas.Nat.{mul-le}
use Rattle.std.proofs.Math.Nat.{add-mul}
use Rattle.std.proofs.lemmas.Option.{slice_get_within, get_or_from_slice_get}
use Rattle.plain_cat.specs.declared.entries.DirEnt.{DirEnt}
use Rattle.plain_cat.specs.declared.cat.Cat.{Cat}
use Rattle.vol_parts.specs.Fatal.{Path}
use Rattle.plain_rules.specs.SystemFiles.{entries_of}
use Rattle.vol_parts.specs.Fatal.Path.{One}
use Rattle.vol_faults.specs.Reaching.{is_step, leads, waits}
use Rattle.vol_faults.specs.Walking.{number_at, begin_at, place_of, looked_at, is_new, new_numbers, IsNoHigher, IsOnLoop, IsMet, IsWay, IsWalk, IsPushed, IsLowered, IsJoined, IsBack, IsGone, IsAtEnd, IsAlong, IsOneMore, AreKept, IsLonger, IsLooked, IsShortened, IsFurther, AreClosed, AreLowered, IsShorter, IsLowestOnLoop, left_to_do}
use Rattle.vol_faults.specs.declared.loops.Place.{Place}
use Rattle.vol_faults.specs.declared.loops.Place.TheVariants.{New, At, Closed}
use Rattle.vol_faults.specs.declared.loops.Walk.{Walk}
use Rattle.vol_faults.proofs.ReachLemmas.{leads-names, path-number, step-number, any-place, step-goes}
use Rattle.vol_faults.proofs.WayLemmas.{way-pushed, way-joined, way-lowered, way-looked, way-closed, way-loop, path-on, IsCut}
use Rattle.base_words.proofs.Booleans.{or_false}

-- ---- a walk that has not begun

new-place : (m n : ℕ) → get_or (replicate m New) n New ≡ New
new-place m n = ⊎_elim
    (λ (l : n < m). get_or-replicate m n New New l)
    (λ (l : m ≤ n). get_or_past (replicate m New) n New (rw length-replicate l))
    (cases_lt n m)

no-looks : (m n z : ℕ) → get_or (replicate m z) n z ≡ z
no-looks m n z = ⊎_elim
    (λ (l : n < m). get_or-replicate m n z z l)
    (λ (l : m ≤ n). get_or_past (replicate m z) n z (rw length-replicate l))
    (cases_lt n m)

pub walk-none : (c : Cat) (w : Walk) → w.way.items ≡ [] → w.begins.items ≡ [] → w.places.items ≡ replicate (length c.files + 1) New → w.looked.items ≡ replicate (length c.files + 1) 0
    → w.lowest ≡ None → w.end ≡ 0 → IsWalk c w
walk-none c w way begins places looked low end =
    let size : length w.way.items ≡ 0 = ap length way in
    let new : (n : ℕ) → place_of w n ≡ New = λ n. rw places (new-place (length c.files + 1) n) in
    record {
      all = rw places (length-replicate (length c.files + 1) New);
      looks = rw looked (length-replicate (length c.files + 1) 0);
      begins = rw (way, begins) refl;
      few = omega (arith, count_by-le-length is_new w.places.items, ap length places, length-replicate (length c.files + 1) New);
      way = record {
        placed = λ i l. absurd (omega arith);
        opened = λ n p e. absurd (cc (new n, e));
        fresh = λ n e. rw looked (no-looks (length c.files + 1) n 0);
        forth = λ i j l m. absurd (omega arith);
        back = λ i j l x m. absurd (omega arith);
        low = λ i l. absurd (omega arith);
        nested = λ i j l x m. absurd (omega arith);
        met = λ i m l led. absurd (omega arith);
        closed = λ n m e led. absurd (cc (new n, e));
        told = λ n e p. absurd (cc (new n, e));
        loops = rw low tt;
      };
      end = omega arith;
      last = rw begins (omega arith);
      done = λ i x l. absurd (omega arith);
    }

-- ---- a number more

not-new : (p : Place) → is_new p ≡ false → p ≢ New
not-new p e same = absurd (both_ways (is_new p) e (ap is_new same))

abbrev one-if : Bool → ℕ
one-if b = cond b 1 0

count-put : (ps : List Place) (n : ℕ) (p : Place) → n < length ps → is_new p ≡ false → count_by is_new (set ps n p) + one-if (is_new (get_or ps n New)) ≡ count_by is_new ps
count-put ps n p inside e =
    let h : count_by is_new (set ps n p) + one-if (is_new (get_or ps n New)) ≡ count_by is_new ps + one-if (is_new p) =
    sum_by-set (λ (q : Place). cond (is_new q) 1 0) ps n p New inside in
    let zero-more : one-if (is_new p) ≡ 0 = rw e refl in
    omega (arith, h, zero-more)

place-put : (ps : List Place) (n m : ℕ) (p : Place) → m ≢ n → get_or (set ps n p) m New ≡ get_or ps m New
place-put ps n m p ne = get_or-set_other ps n m p New ne

-- the number of a place has a place of its own
number-inside : (c : Cat) (w : Walk) (i : ℕ) → IsWalk c w → i < length w.way.items → number_at w i < length w.places.items
number-inside c w i h l = ⊎_elim
    (λ (x : number_at w i < length w.places.items). x)
    (λ (x : length w.places.items ≤ number_at w i).
    let past : place_of w (number_at w i) ≡ New = get_or_past w.places.items (number_at w i) New x in
    absurd (cc (past, h.way.placed i l)))
    (cases_lt (number_at w i) (length w.places.items))

put-kept : (w after : Walk) (m : ℕ) (p : Place) → m < length w.places.items → is_new p ≡ false → after.places.items ≡ set w.places.items m p → AreKept w after
put-kept w after m p inside e places = record {
  kept = λ n old. ⊎_elim
      (λ (same : n ≡ m). rw (places, same, get_or-set_same w.places.items m p New inside) e)
      (λ (ne : n ≢ m). rw (places, place-put w.places.items m n p ne) old)
      (cases_eq n m);
}

move-way : (c : Cat) (size size1 : ℕ) (at begin : ℕ → ℕ) (place : ℕ → Place) (looks looks1 : List ℕ) (low low1 : Option ℕ) → size1 ≡ size → looks1 ≡ looks → low1 ≡ low
    → IsWay c size at begin place (λ n. get_or looks n 0) low → IsWay c size1 at begin place (λ n. get_or looks1 n 0) low1
move-way c size size1 at begin place looks looks1 low low1 e f g h = rw (e, f, g) h

pub pushed-walk : (c : Cat) (w after : Walk) (m : ℕ) → IsWalk c w → IsPushed m w after → m < length w.places.items → place_of w m ≡ New
    → ((i : ℕ) → i < length w.way.items → Path c (number_at w i) m) → IsWalk c after
pushed-walk c w after m h p inside new paths =
    let size : length after.way.items ≡ length w.way.items + 1 = rw p.way (length_push w.way.items m) in
    let way = way-pushed c (length w.way.items) m (number_at w) (number_at after) (begin_at w) (begin_at after) (place_of w) (place_of after) (looked_at w) w.lowest h.way
    (λ i l. rw p.way (get_or_append_left w.way.items (m ∷ []) 0 i l))
    (rw p.way (get_or_push w.way.items m 0 (length w.way.items) refl))
    (λ i l. rw p.begins (get_or_append_left w.begins.items (length w.way.items ∷ []) 0 i (omega (arith, h.begins))))
    (rw p.begins (get_or_push w.begins.items (length w.way.items) 0 (length w.way.items) h.begins))
    new
    (rw p.places (get_or-set_same w.places.items m (At (length w.way.items)) New inside))
    (λ n ne. rw p.places (place-put w.places.items m n (At (length w.way.items)) ne))
    paths in
    let count = count-put w.places.items m (At (length w.way.items)) inside refl in
    let one : one-if (is_new (get_or w.places.items m New)) ≡ 1 = rw new refl in
    record {
      all = rw p.places (length-set w.places.items m (At (length w.way.items)) ∙ h.all);
      looks = rw p.looked h.looks;
      begins = rw (p.begins, p.way, length_push w.way.items m, length_push w.begins.items (length w.way.items), h.begins) refl;
      few = rw (p.places, size) (omega (arith, h.few, count, one));
      way = move-way c (length w.way.items + 1) (length after.way.items) (number_at after) (begin_at after) (place_of after) w.looked.items after.looked.items w.lowest after.lowest size p.looked p.lowest way;
      end = omega (arith, p.end, size);
      last = rw size (omega (arith, p.end, way.low (length w.way.items)));
      done = λ i x l. absurd (omega (arith, p.end, size));
    }

pub pushed-kept : (w after : Walk) (m : ℕ) → IsPushed m w after → m < length w.places.items → AreKept w after
pushed-kept w after m p inside = put-kept w after m (At (length w.way.items)) inside refl p.places

pub pushed-new : (w after : Walk) (m : ℕ) → IsPushed m w after → m < length w.places.items → place_of w m ≡ New → new_numbers after + 1 ≡ new_numbers w
pushed-new w after m p inside new =
    let count = count-put w.places.items m (At (length w.way.items)) inside refl in
    let one : one-if (is_new (get_or w.places.items m New)) ≡ 1 = rw new refl in
    rw p.places (omega (arith, count, one))

-- ---- an entry that leads back

lower-loop : (c : Cat) (n : ℕ) (low low1 : Option ℕ) → IsLowered n low low1 → Path c n n → IsOnLoop c low → IsOnLoop c low1
lower-loop c n low low1 h p loop = ⊎_elim
    (λ (e : low1 ≡ low). rw e loop)
    (λ (e : low1 ≡ Some n). rw e p)
    h.one

move-lists : (c : Cat) (way way1 begins begins1 looks looks1 : List ℕ) (places places1 : List Place) (low low1 : Option ℕ) → way1 ≡ way → begins1 ≡ begins → looks1 ≡ looks → places1 ≡ places → low1 ≡ low
    → IsWay c (length way) (λ i. get_or way i 0) (λ i. get_or begins i 0) (λ n. get_or places n New) (λ n. get_or looks n 0) low
    → IsWay c (length way1) (λ i. get_or way1 i 0) (λ i. get_or begins1 i 0) (λ n. get_or places1 n New) (λ n. get_or looks1 n 0) low1
move-lists c way way1 begins begins1 looks looks1 places places1 low low1 e f g h i x = rw (e, f, g, h, i) x

-- what is known once an entry led from number n at the end of the way to this number
pub record IsBeen (c : Cat) (n m : ℕ) (after : Walk) : Type 0 where
  pub walk : IsWalk c after
  pub met : IsMet (number_at after) (begin_at after) after.lowest (after.end - 1) (place_of after m)
  pub last : IsAtEnd n after

-- the number at the end is reached from all of the last loop
to-end : (c : Cat) (n i : ℕ) (w : Walk) → IsWalk c w → IsAtEnd n w → i < length w.way.items → (i ≡ w.end - 1) ⊎ Path c (number_at w i) n
to-end c n i w h a l = ⊎_elim
    (λ (x : i < w.end - 1). inr (rw (sym a.number) (h.way.forth i (w.end - 1) x (omega (arith, h.end)))))
    (λ (x : w.end - 1 ≤ i). ⊎_elim
    (λ (y : w.end - 1 < i).
    let same : begin_at w i ≡ begin_at w (length w.way.items - 1) =
    h.way.nested i (length w.way.items - 1) (omega arith) (omega (arith, a.inside)) (omega arith) in
    inr (rw (sym a.number) (h.way.back i (w.end - 1) l (omega (arith, same, a.inside)) y)))
    (λ (y : i ≤ w.end - 1). inl (omega arith))
    (cases_lt (w.end - 1) i))
    (cases_lt i (w.end - 1))

step-to : (c : Cat) (n m k : ℕ) (w : Walk) → leads c n m ≡ true → number_at w k ≡ m → Path c n (number_at w k)
step-to c n m k w led is = rw is (One (leads-names c n m led))

from-loop : (c : Cat) (n m p i : ℕ) (w : Walk) → IsWalk c w → IsAtEnd n w → leads c n m ≡ true → number_at w p ≡ m → i < length w.way.items → Path c (number_at w i) (number_at w p)
from-loop c n m p i w h a led is l = ⊎_elim
    (λ (x : i ≡ w.end - 1). let at : number_at w i ≡ n = ap (number_at w) x ∙ a.number in rw at (step-to c n m p w led is))
    (λ (x : Path c (number_at w i) n). path-on c (number_at w i) n (number_at w p) x (step-to c n m p w led is))
    (to-end c n i w h a l)

abbrev IsNoted : Cat → ℕ → ℕ → Walk → Walk → Type 0
IsNoted c n p w after = ((m : ℕ) → IsNoHigher w.lowest m → IsNoHigher after.lowest m) × IsOnLoop c after.lowest × (p ≡ w.end - 1 → IsNoHigher after.lowest n)

back-noted : (c : Cat) (n m p : ℕ) (w after : Walk) → IsWalk c w → IsAtEnd n w → IsBack n p w after → leads c n m ≡ true → number_at w p ≡ m → IsNoted c n p w after
back-noted c n m p w after h a b led is = ⊎_elim
    (λ (x : (p + 1 ≡ w.end) × IsLowered n w.lowest after.lowest).
    let at : p ≡ w.end - 1 = omega (arith, x.0) in
    let self : n ≡ m = sym a.number ∙ (ap (number_at w) (sym at) ∙ is) in
    let round : Path c n n = One (leads-names c n n (subst (λ (k : ℕ). leads c n k ≡ true) (sym self) led)) in
    (x.1.kept, lower-loop c n w.lowest after.lowest x.1 round h.way.loops, λ y. x.1.there))
    (λ (x : (p + 1 ≢ w.end) × (after.lowest ≡ w.lowest)).
    (λ k y. rw x.1 y, rw x.1 h.way.loops, λ y. absurd (x.0 (omega (arith, y, a.inside)))))
    b.lowest

abbrev BackBegins : Cat → ℕ → Walk → Walk → Type 0
BackBegins c p w after =
    IsWay c (length w.way.items) (number_at w) (begin_at after) (place_of w) (looked_at w) w.lowest × (begin_at after (w.end - 1) ≤ p)
    × (begin_at after (length w.way.items - 1) < w.end) × (length after.begins.items ≡ length w.way.items)

back-begins : (c : Cat) (n m p : ℕ) (w after : Walk) → IsWalk c w → IsAtEnd n w → IsBack n p w after → leads c n m ≡ true → number_at w p ≡ m → p < length w.way.items → BackBegins c p w after
back-begins c n m p w after h a b led is inside =
    let e = w.end - 1 in
    let near : begin_at w e ≡ begin_at w (length w.way.items - 1) = h.way.nested e (length w.way.items - 1) (omega arith) (omega (arith, a.inside)) (omega (arith, h.end)) in
    ⊎_elim
    (λ (x : IsJoined p w.begins.items after.begins.items).
    let way = way-joined c (length w.way.items) p (number_at w) (begin_at w) (begin_at after) (place_of w) (looked_at w) w.lowest h.way inside x.same
    (λ i y l. x.joined i y (omega (arith, h.begins))) (λ i y l. from-loop c n m p i w h a led is l) in
    let low = h.way.low p inside in
    let end : begin_at after (length w.way.items - 1) ≡ begin_at w p = x.joined (length w.way.items - 1) (omega arith) (omega (arith, h.begins)) in
    let short : begin_at w p < w.end = ⊎_elim
    (λ (y : p < w.end). omega (arith, low))
    (λ (y : w.end ≤ p).
    let same : begin_at w p ≡ begin_at w (length w.way.items - 1) = h.way.nested p (length w.way.items - 1) (omega arith) (omega (arith, a.inside)) (omega arith) in
    omega (arith, same, a.inside))
    (cases_lt p w.end) in
    let met : begin_at after e ≤ p = ⊎_elim
    (λ (y : e < p). omega (arith, x.same e y, h.way.low e (omega (arith, h.end, a.inside))))
    (λ (y : p ≤ e). omega (arith, x.joined e y (omega (arith, h.begins, h.end, a.inside)), low))
    (cases_lt e p) in
    (way, met, omega (arith, end, short), x.long ∙ h.begins))
    (λ (x : (get_or w.begins.items (length w.begins.items - 1) 0 ≤ p) × (after.begins.items ≡ w.begins.items)).
    let all : (i : ℕ) → begin_at after i ≡ begin_at w i = λ i. ap (λ (l : List ℕ). get_or l i 0) x.1 in
    let last : begin_at w (length w.way.items - 1) ≤ p = rw h.begins at x.0 in (
      move-lists c w.way.items w.way.items w.begins.items after.begins.items w.looked.items w.looked.items w.places.items w.places.items w.lowest w.lowest
          refl x.1 refl refl refl h.way,
      omega (arith, all e, near, last),
      omega (arith, all (length w.way.items - 1), a.inside),
      ap length x.1 ∙ h.begins,
    ))
    b.begins

pub back-been : (c : Cat) (n m p : ℕ) (w after : Walk) → IsWalk c w → IsAtEnd n w → IsBack n p w after → place_of w m ≡ At p → leads c n m ≡ true → IsBeen c n m after
back-been c n m p w after h a b there led =
    let o = h.way.opened m p there in
    let noted = back-noted c n m p w after h a b led o.1 in
    let begins = back-begins c n m p w after h a b led o.1 o.0 in
    let size : length after.way.items ≡ length w.way.items = ap length b.same.way in
    let at : (i : ℕ) → number_at after i ≡ number_at w i = λ i. ap (λ (l : List ℕ). get_or l i 0) b.same.way in
    let stands : place_of after m ≡ At p = ap (λ (l : List Place). get_or l m New) b.same.places ∙ there in
    let looks : (i : ℕ) → looked_at after i ≡ looked_at w i = λ i. ap (λ (l : List ℕ). get_or l i 0) b.same.looked in
    let way = way-lowered c (length w.way.items) (number_at w) (begin_at after) (place_of w) (looked_at w) w.lowest after.lowest begins.0 noted.0 noted.1 in
    record {
      walk = record {
        all = rw b.same.places h.all;
        looks = rw b.same.looked h.looks;
        begins = begins.3 ∙ sym size;
        few = rw (b.same.places, b.same.way) h.few;
        way = move-lists c w.way.items after.way.items after.begins.items after.begins.items w.looked.items after.looked.items w.places.items after.places.items after.lowest after.lowest
            b.same.way refl b.same.looked b.same.places refl way;
        end = omega (arith, b.same.end, size, h.end);
        last = rw size (omega (arith, b.same.end, begins.2));
        done = λ i x l. rw (at i, looks (number_at w i)) (h.done i (omega (arith, b.same.end)) (omega (arith, size)));
      };
      met = rw (stands, b.same.end) (begins.1, λ same. rw (at (w.end - 1), a.number) (noted.2 same));
      last = record {
        inside = rw size (omega (arith, b.same.end, begins.2));
        number = rw b.same.end (at (w.end - 1) ∙ a.number);
      };
    }

-- ---- one entry more

pub looked-walk : (c : Cat) (n k : ℕ) (e : DirEnt) (w after : Walk) → IsWalk c w → IsOneMore n w after → k < length w.way.items → number_at w k ≡ n
    → slice_get (entries_of c n) (looked_at w n) ≡ Some e → (is_step c n e ≡ true → IsMet (number_at w) (begin_at w) w.lowest k (place_of w e.fid.num)) → IsWalk c after
looked-walk c n k e w after h m l is there goes =
    let inside : n < length w.looked.items = omega (arith, number-inside c w k h l, is, h.all, h.looks) in
    let size : length after.way.items ≡ length w.way.items = ap length m.way in
    let at : (i : ℕ) → number_at after i ≡ number_at w i = λ i. ap (λ (x : List ℕ). get_or x i 0) m.way in
    let one : looked_at after n ≡ looked_at w n + 1 = rw m.looked (get_or-set_same w.looked.items n (looked_at w n + 1) 0 inside) in
    let others : (i : ℕ) → i ≢ n → looked_at after i ≡ looked_at w i = λ i ne. rw m.looked (get_or-set_other w.looked.items n i (looked_at w n + 1) 0 ne) in
    let more : (i : ℕ) → looked_at w i ≤ looked_at after i = λ i. ⊎_elim
    (λ (same : i ≡ n). rw same (omega (arith, one)))
    (λ (ne : i ≢ n). omega (arith, others i ne))
    (cases_eq i n) in
    let way = way-looked c (length w.way.items) k (number_at w) (begin_at w) (place_of w) (looked_at w) (looked_at after) w.lowest n e h.way l is there one others goes in
    record {
      all = rw m.places h.all;
      looks = rw m.looked (length-set w.looked.items n (looked_at w n + 1) ∙ h.looks);
      begins = rw (m.begins, m.way) h.begins;
      few = rw (m.places, m.way) h.few;
      way = move-lists c w.way.items after.way.items w.begins.items after.begins.items after.looked.items after.looked.items w.places.items after.places.items w.lowest after.lowest
          m.way m.begins refl m.places m.lowest way;
      end = omega (arith, m.end, size, h.end);
      last = rw (size, m.begins) (omega (arith, m.end, h.last));
      done = λ i x y. let all = h.done i (omega (arith, m.end)) (omega (arith, size)) in rw (at i) (omega (arith, all, more (number_at w i)));
    }

-- ---- the last loop is taken off

waits-behind : (way : List ℕ) (b i : ℕ) → b ≤ i → i < length way → waits (drop b way) (get_or way i 0) ≡ true
waits-behind way b i from inside =
    let place : b + (i - b) ≡ i = omega arith in
    let there : get_or (drop b way) (i - b) 0 ≡ get_or way i 0 = get_or-drop b way (i - b) 0 ∙ ap (λ (k : ℕ). get_or way k 0) place in
    list_any_at (λ x. x == get_or way i 0) (drop b way) (i - b) 0 (omega (arith, length-drop b way)) (eq-eqb (get_or (drop b way) (i - b) 0) (get_or way i 0) there)

behind-waits : (way : List ℕ) (b n : ℕ) → waits (drop b way) n ≡ true → (i : ℕ) × (b ≤ i) × (i < length way) × (get_or way i 0 ≡ n)
behind-waits way b n e =
    let w = any-place (λ x. x == n) (drop b way) e in
    let inside : w.0 < length (drop b way) = slice_get_within (drop b way) w.0 w.1 w.2 in
    let there : get_or (drop b way) w.0 0 ≡ w.1 = get_or_from_slice_get (drop b way) w.0 w.1 0 w.2 in
    (b + w.0, omega arith, omega (arith, length-drop b way), sym (get_or-drop b way w.0 0) ∙ (there ∙ eqb-true w.1 n w.3))

shorter-cut : (c : Cat) (b : ℕ) (w after : Walk) (n : ℕ) (t : Bool) → IsWalk c w → AreClosed (drop b w.way.items) w.places.items after.places.items → waits (drop b w.way.items) n ≡ t
    → IsCut b (place_of w n) (place_of after n)
shorter-cut c b w after n true h a e =
    let i = behind-waits w.way.items b n e in
    inl (i.0, sym (ap (place_of w) i.3) ∙ h.way.placed i.0 i.2, i.1, a.closed n e)
shorter-cut c b w after n false h a e = inr (
  λ i there. ⊎_elim
      (λ (x : i < b). x)
      (λ (x : b ≤ i).
      let o = h.way.opened n i there in
      let again : waits (drop b w.way.items) n ≡ true = subst (λ (m : ℕ). waits (drop b w.way.items) m ≡ true) o.1 (waits-behind w.way.items b i x o.0) in
      absurd (cc (again, e)))
      (cases_lt i b),
  a.same n e,
)

cut-kept : (b : ℕ) (p p1 : Place) → IsCut b p p1 → is_new p ≡ false → is_new p1 ≡ false
cut-kept b p p1 (inl h) e = rw h.3 refl
cut-kept b p p1 (inr h) e = rw h.1 e

abbrev IsShortNoted : Cat → ℕ → Walk → Walk → Type 0
IsShortNoted c b w after = ((m : ℕ) → IsNoHigher w.lowest m → IsNoHigher after.lowest m) × IsOnLoop c after.lowest
    × (b + 1 < length w.way.items → (i : ℕ) → b ≤ i → i < length w.way.items → IsNoHigher after.lowest (number_at w i))

shorter-noted : (c : Cat) (b : ℕ) (w after : Walk) → IsWalk c w → begin_at w (length w.way.items - 1) ≡ b → IsShorter b w after → IsShortNoted c b w after
shorter-noted c b w after h last s = ⊎_elim
    (λ (x : (b + 1 < length w.way.items) × AreLowered (drop b w.way.items) w.lowest after.lowest). (
      x.1.kept,
      ⊎_elim
          (λ (e : after.lowest ≡ w.lowest). rw e h.way.loops)
          (λ (e : (n : ℕ) × (waits (drop b w.way.items) n ≡ true) × (after.lowest ≡ Some n)).
          let i = behind-waits w.way.items b e.0 e.1 in
          rw e.2 (subst (λ (n : ℕ). Path c n n) i.3
          (way-loop c (length w.way.items) b i.0 (number_at w) (begin_at w) (place_of w) (looked_at w) w.lowest h.way last x.0 i.1 i.2)))
          x.1.one,
      λ more i from inside. x.1.there (number_at w i) (waits-behind w.way.items b i from inside),
    ))
    (λ (x : (length w.way.items ≤ b + 1) × (after.lowest ≡ w.lowest)).
    (λ m y. rw x.1 y, rw x.1 h.way.loops, λ more. absurd (omega arith)))
    s.lowest

short-last : (begins : List ℕ) (b : ℕ) → b ≤ length begins → ((i : ℕ) → i < b → get_or begins i 0 ≤ i) → get_or (take b begins) (b - 1) 0 ≤ b
short-last begins b inside low = ⊎_elim
    (λ (x : 0 < b). rw (get_or-take b begins (b - 1) 0 (omega arith)) (omega (arith, low (b - 1))))
    (λ (x : b ≤ 0). rw (get_or_past (take b begins) (b - 1) 0 (omega (arith, length-take-le b begins inside))) (omega arith))
    (cases_lt 0 b)

pub shorter-walk : (c : Cat) (b : ℕ) (w after : Walk) → IsWalk c w → b < length w.way.items → begin_at w (length w.way.items - 1) ≡ b → w.end ≡ b → IsShorter b w after → IsWalk c after
shorter-walk c b w after h inside last end s =
    let size : length after.way.items ≡ b = rw s.way (length-take-le b w.way.items (omega arith)) in
    let noted = shorter-noted c b w after h last s in
    let way = way-closed c (length w.way.items) b (number_at w) (number_at after) (begin_at w) (begin_at after) (place_of w) (place_of after) (looked_at w) w.lowest after.lowest h.way
    inside last (λ i x l. h.done i (omega (arith, end)) l)
    (λ i l. rw s.way (get_or-take b w.way.items i 0 l))
    (λ i l. rw s.begins (get_or-take b w.begins.items i 0 l))
    (λ n. shorter-cut c b w after n (waits (drop b w.way.items) n) h s.places refl)
    noted.0 noted.1 noted.2 in
    record {
      all = s.places.long ∙ h.all;
      looks = rw s.looked h.looks;
      begins = rw s.begins (length-take-le b w.begins.items (omega (arith, h.begins))) ∙ sym size;
      few = omega (arith, s.places.few, h.few, size);
      way = move-way c b (length after.way.items) (number_at after) (begin_at after) (place_of after) w.looked.items after.looked.items after.lowest after.lowest size s.looked refl way;
      end = omega (arith, s.end, end, size);
      last = rw (size, s.begins, s.end, end) (short-last w.begins.items b (omega (arith, h.begins)) (λ i l. h.way.low i (omega arith)));
      done = λ i x l. absurd (omega (arith, s.end, end, size));
    }

pub shorter-kept : (c : Cat) (b : ℕ) (w after : Walk) → IsWalk c w → IsShorter b w after → AreKept w after
shorter-kept c b w after h s = record {
  kept = λ n e. cut-kept b (place_of w n) (place_of after n) (shorter-cut c b w after n (waits (drop b w.way.items) n) h s.places refl) e;
}

-- ---- closing numbers, and the lowest of them

waits-more : (ns : List ℕ) (i n m : ℕ) (t : Bool) → i < length ns → n ≡ get_or ns i n → (n == m) ≡ t → waits (take (i + 1) ns) m ≡ (waits (take i ns) m || t)
waits-more ns i n m t inside is e =
    list_any_more (λ x. x == m) ns i n inside ∙ (ap (λ (x : ℕ). waits (take i ns) m || (x == m)) (sym is) ∙ ap (λ (b : Bool). waits (take i ns) m || b) e)

pub or-all : (b : Bool) → (b || true) ≡ true
or-all true = refl
or-all false = refl

waits-same : (ns : List ℕ) (i n : ℕ) → i < length ns → n ≡ get_or ns i n → waits (take (i + 1) ns) n ≡ true
waits-same ns i n inside is = waits-more ns i n n true inside is (eq-eqb n n refl) ∙ or-all (waits (take i ns) n)

waits-other : (ns : List ℕ) (i n m : ℕ) → i < length ns → n ≡ get_or ns i n → n ≢ m → waits (take (i + 1) ns) m ≡ waits (take i ns) m
waits-other ns i n m inside is ne = waits-more ns i n m false inside is (ne_eqb n m ne) ∙ or_false (waits (take i ns) m)

pub closed-none : (ps : List Place) → AreClosed [] ps ps
closed-none ps = record { long = refl; closed = λ n e. absurd (cc); same = λ n e. refl; few = omega arith }

pub closed-more : (ns : List ℕ) (i n : ℕ) (ps0 ps : List Place) → i < length ns → n ≡ get_or ns i n → n < length ps0 → AreClosed (take i ns) ps0 ps
    → AreClosed (take (i + 1) ns) ps0 (set ps n Closed)
closed-more ns i n ps0 ps inside is within a =
    let here : n < length ps = omega (arith, a.long) in
    record {
      long = length-set ps n Closed ∙ a.long;
      closed = λ m e. ⊎_elim
          (λ (same : n ≡ m). rw (sym same) (get_or-set_same ps n Closed New here))
          (λ (ne : n ≢ m). place-put ps n m Closed (λ x. ne (sym x)) ∙ a.closed m (sym (waits-other ns i n m inside is ne) ∙ e))
          (cases_eq n m);
      same = λ m e. ⊎_elim
          (λ (same : n ≡ m). let yes : waits (take (i + 1) ns) m ≡ true = rw (sym same) (waits-same ns i n inside is) in absurd (cc (yes, e)))
          (λ (ne : n ≢ m). place-put ps n m Closed (λ x. ne (sym x)) ∙ a.same m (sym (waits-other ns i n m inside is ne) ∙ e))
          (cases_eq n m);
      few = omega (arith, a.few, count-put ps n Closed here refl);
    }

pub closed-all : (ns : List ℕ) (i : ℕ) (ps0 ps : List Place) → length ns ≤ i → AreClosed (take i ns) ps0 ps → AreClosed ns ps0 ps
closed-all ns i ps0 ps all a = subst (λ (xs : List ℕ). AreClosed xs ps0 ps) (take_all i ns all) a

pub lowered-none : (low : Option ℕ) → AreLowered [] low low
lowered-none low = record { there = λ n e. absurd (cc); kept = λ n h. h; one = inl refl }

abbrev IsOneOf : List ℕ → Option ℕ → Option ℕ → Type 0
IsOneOf ns low after = (after ≡ low) ⊎ ((n : ℕ) × (waits ns n ≡ true) × (after ≡ Some n))

waits-kept : (ns : List ℕ) (i n m : ℕ) → i < length ns → n ≡ get_or ns i n → waits (take i ns) m ≡ true → waits (take (i + 1) ns) m ≡ true
waits-kept ns i n m inside is e = list_any_kept (λ x. x == m) ns i e

one-more : (ns : List ℕ) (i n : ℕ) (low low1 low2 : Option ℕ) → i < length ns → n ≡ get_or ns i n → IsOneOf (take i ns) low low1 → (low2 ≡ low1) ⊎ (low2 ≡ Some n) → IsOneOf (take (i + 1) ns) low low2
one-more ns i n low low1 low2 inside is (inl h) (inl e) = inl (e ∙ h)
one-more ns i n low low1 low2 inside is (inr h) (inl e) = inr (h.0, waits-kept ns i n h.0 inside is h.1, e ∙ h.2)
one-more ns i n low low1 low2 inside is h (inr e) = inr (n, waits-same ns i n inside is, e)

pub lowered-more : (ns : List ℕ) (i n : ℕ) (low low1 low2 : Option ℕ) → i < length ns → n ≡ get_or ns i n → AreLowered (take i ns) low low1 → IsLowered n low1 low2 → AreLowered (take (i + 1) ns) low low2
lowered-more ns i n low low1 low2 inside is a b = record {
  there = λ m e. ⊎_elim
      (λ (same : n ≡ m). rw (sym same) b.there)
      (λ (ne : n ≢ m). b.kept m (a.there m (sym (waits-other ns i n m inside is ne) ∙ e)))
      (cases_eq n m);
  kept = λ m h. b.kept m (a.kept m h);
  one = one-more ns i n low low1 low2 inside is a.one b.one;
}

pub lowered-all : (ns : List ℕ) (i : ℕ) (low low1 : Option ℕ) → length ns ≤ i → AreLowered (take i ns) low low1 → AreLowered ns low low1
lowered-all ns i low low1 all a = subst (λ (xs : List ℕ). AreLowered xs low low1) (take_all i ns all) a

-- ---- what is left to do

pub less-closed : (c : Cat) (b : ℕ) (w after : Walk) → IsShorter b w after → b < length w.way.items → left_to_do c after < left_to_do c w
less-closed c b w after s inside =
    let size : length after.way.items ≡ b = rw s.way (length-take-le b w.way.items (omega arith)) in
    let k = length c.files + 4 in
    let few : new_numbers after * k ≤ new_numbers w * k = mul-le (new_numbers after) k (new_numbers w) k s.places.few (omega arith) in
    omega (arith, few, size, s.end)

more-new : (a b k : ℕ) → a + 1 ≡ b → b * k ≡ a * k + k
more-new a b k e = let x : (a + 1) * k ≡ a * k + 1 * k = add-mul a 1 k in let y : 1 * k ≡ k = omega arith in rw (sym e) (omega (arith, x, y))

pub less-pushed : (c : Cat) (w after : Walk) → IsWalk c w → new_numbers after + 1 ≡ new_numbers w → length after.way.items ≡ length w.way.items + 1 → after.end ≡ length after.way.items
    → left_to_do c after < left_to_do c w
less-pushed c w after h new size end =
    let k = length c.files + 4 in
    let more : new_numbers w * k ≡ new_numbers after * k + k = more-new (new_numbers after) (new_numbers w) k new in
    omega (arith, more, size, end, h.few)

-- ---- where an entry leads

pub along-new : (c : Cat) (n : ℕ) (e : DirEnt) (w after : Walk) → IsWalk c w → IsAtEnd n w → e.fid.num < length w.places.items → leads c n e.fid.num ≡ true → place_of w e.fid.num ≡ New
    → IsPushed e.fid.num w after → IsAlong c n e w after true
along-new c n e w after h a inside led new p =
    let m = e.fid.num in
    let k = w.end - 1 in
    let size : length after.way.items ≡ length w.way.items + 1 = rw p.way (length_push w.way.items m) in
    let to : Path c n m = One (leads-names c n m led) in
    let paths : (i : ℕ) → i < length w.way.items → Path c (number_at w i) m = λ i l. ⊎_elim
    (λ (x : i ≡ w.end - 1). let at : number_at w i ≡ n = ap (number_at w) x ∙ a.number in rw at to)
    (λ (x : Path c (number_at w i) n). path-on c (number_at w i) n m x to)
    (to-end c n i w h a l) in
    let walk = pushed-walk c w after m h p inside new paths in
    let there : k < length w.way.items = omega (arith, a.inside, h.end) in
    let stands : place_of after m ≡ At (length w.way.items) = rw p.places (get_or-set_same w.places.items m (At (length w.way.items)) New inside) in
    record {
      walk = walk;
      longer = (pushed-new w after m p inside new, size, p.end ∙ sym size);
      inside = omega (arith, size, there);
      number = rw p.way (get_or_append_left w.way.items (m ∷ []) 0 k there ∙ a.number);
      met = λ x. rw stands (omega (arith, walk.way.low k (omega (arith, size, there)), there), λ same. absurd (omega (arith, same, there)));
      looked = p.looked;
      last = λ x. absurd (cc);
      kept = pushed-kept w after m p inside;
    }

kept-all : (w after : Walk) → after.places.items ≡ w.places.items → AreKept w after
kept-all w after e = record { kept = λ n old. rw e old }

pub along-back : (c : Cat) (n p : ℕ) (e : DirEnt) (w after : Walk) → IsWalk c w → IsAtEnd n w → leads c n e.fid.num ≡ true → place_of w e.fid.num ≡ At p
    → IsBack n p w after → IsAlong c n e w after false
along-back c n p e w after h a led there b =
    let been = back-been c n e.fid.num p w after h a b there led in
    record {
      walk = been.walk;
      longer = (ap (count_by is_new) b.same.places, b.same.way, b.same.end);
      inside = omega (arith, a.inside, h.end, ap length b.same.way);
      number = ap (λ (l : List ℕ). get_or l (w.end - 1) 0) b.same.way ∙ a.number;
      met = λ x. subst (λ (k : ℕ). IsMet (number_at after) (begin_at after) after.lowest (k - 1) (place_of after e.fid.num)) b.same.end been.met;
      looked = b.same.looked;
      last = λ x. been.last;
      kept = kept-all w after b.same.places;
    }

along-same : (c : Cat) (n : ℕ) (e : DirEnt) (w : Walk) → IsWalk c w → IsAtEnd n w → (is_step c n e ≡ true → place_of w e.fid.num ≡ Closed) → IsAlong c n e w w false
along-same c n e w h a closed = record {
  walk = h;
  longer = (refl, refl, refl);
  inside = omega (arith, a.inside, h.end);
  number = a.number;
  met = λ x. rw (closed x) tt;
  looked = refl;
  last = λ x. a;
  kept = kept-all w w refl;
}

pub along-not : (c : Cat) (n : ℕ) (e : DirEnt) (w : Walk) → IsWalk c w → IsAtEnd n w → is_step c n e ≡ false → IsAlong c n e w w false
along-not c n e w h a not = along-same c n e w h a (λ x. absurd (both_ways (is_step c n e) not x))

gone-by : (c : Cat) (n : ℕ) (e : DirEnt) (w after : Walk) (p : Place) (found : Bool) → IsWalk c w → IsAtEnd n w → e.fid.num < length w.places.items → leads c n e.fid.num ≡ true
    → place_of w e.fid.num ≡ p → IsGone n e.fid.num w after p found → IsAlong c n e w after found
gone-by c n e w after New found h a inside led there g = rw g.0 (along-new c n e w after h a inside led there g.1)
gone-by c n e w after (At p) found h a inside led there g = rw g.0 (along-back c n p e w after h a led there g.1)
gone-by c n e w after Closed found h a inside led there g =
    subst (λ (x : Walk). IsAlong c n e w x found) (sym g.1) (subst (IsAlong c n e w w) (sym g.0) (along-same c n e w h a (λ x. there)))

pub step-inside : (c : Cat) (n : ℕ) (e : DirEnt) (w : Walk) → IsWalk c w → is_step c n e ≡ true → e.fid.num < length w.places.items
step-inside c n e w h s = omega (arith, step-number c n e s, h.all)

pub open-inside : (c : Cat) (w : Walk) (m p : ℕ) → IsWalk c w → place_of w m ≡ At p → p < length w.begins.items
open-inside c w m p h there = omega (arith, (h.way.opened m p there).0, h.begins)

pub gone-along : (c : Cat) (n : ℕ) (e : DirEnt) (w after : Walk) (found : Bool) → IsWalk c w → IsAtEnd n w → slice_get (entries_of c n) (looked_at w n) ≡ Some e → is_step c n e ≡ true
    → IsGone n e.fid.num w after (place_of w e.fid.num) found → IsAlong c n e w after found
gone-along c n e w after found h a there s g =
    gone-by c n e w after (place_of w e.fid.num) found h a (step-inside c n e w h s) (step-goes c n (looked_at w n) e there s) refl g

longer-looked : (w after after2 : Walk) (found : Bool) → IsLonger w after found → after2.places.items ≡ after.places.items → after2.way.items ≡ after.way.items → after2.end ≡ after.end
    → IsLonger w after2 found
longer-looked w after after2 true h places way end = (rw places h.0, rw way h.1, end ∙ (h.2 ∙ sym (ap length way)))
longer-looked w after after2 false h places way end = (rw places h.0, way ∙ h.1, end ∙ h.2)

pub look-done : (c : Cat) (n : ℕ) (e : DirEnt) (w after after2 : Walk) (found : Bool) → IsAlong c n e w after found → slice_get (entries_of c n) (looked_at w n) ≡ Some e
    → IsOneMore n after after2 → IsLooked c n w after2 found
look-done c n e w after after2 found a there m =
    let same : looked_at after n ≡ looked_at w n = ap (λ (l : List ℕ). get_or l n 0) a.looked in
    let inside : n < length after.looked.items = omega (arith, number-inside c after (w.end - 1) a.walk a.inside, a.number, a.walk.all, a.walk.looks) in
    let here : slice_get (entries_of c n) (looked_at after n) ≡ Some e = rw same there in
    record {
      walk = looked-walk c n (w.end - 1) e after after2 a.walk m a.inside a.number here a.met;
      longer = longer-looked w after after2 found a.longer m.places m.way m.end;
      looked = rw m.looked (get_or-set_same after.looked.items n (looked_at after n + 1) 0 inside ∙ ap (λ (k : ℕ). k + 1) same);
      last = λ x. let l = a.last x in record {
        inside = rw (m.begins, m.way) (omega (arith, m.end, l.inside));
        number = rw m.end (ap (λ (i : List ℕ). get_or i (after.end - 1) 0) m.way ∙ l.number);
      };
      kept = record { kept = λ k old. rw m.places (a.kept.kept k old) };
    }

pub along-looks : (c : Cat) (n : ℕ) (e : DirEnt) (w after : Walk) (found : Bool) → IsAlong c n e w after found → n < length after.looked.items
along-looks c n e w after found a = omega (arith, number-inside c after (w.end - 1) a.walk a.inside, a.number, a.walk.all, a.walk.looks)

pub if-ok : {T E : Type 0} (r : Result T E) (P Q : T → Type 0) → ((x : T) → P x → Q x) → IfOk r P → IfOk r Q
if-ok (Ok x) P Q h p = h x p
if-ok (Err e) P Q h p = p

-- ---- the directory at the end

pub at-end : (c : Cat) (w : Walk) → IsWalk c w → begin_at w (length w.way.items - 1) < w.end → IsAtEnd (number_at w (w.end - 1)) w
at-end c w h inside = record { inside = inside; number = refl }

-- all entries of the directory at the end were looked at
pub done-walk : (c : Cat) (n : ℕ) (w after : Walk) → IsWalk c w → IsAtEnd n w → length (entries_of c n) ≤ looked_at w n → IsShortened w after → IsWalk c after
done-walk c n w after h a all s =
    let way = s.way in let begins = s.begins in let places = s.places in let looked = s.looked in let low = s.lowest in let end = s.end in
    let size : length after.way.items ≡ length w.way.items = ap length way in
    let at : (i : ℕ) → number_at after i ≡ number_at w i = λ i. ap (λ (x : List ℕ). get_or x i 0) way in
    let looks : (i : ℕ) → looked_at after i ≡ looked_at w i = λ i. ap (λ (x : List ℕ). get_or x i 0) looked in
    record {
      all = rw places h.all;
      looks = rw looked h.looks;
      begins = rw (begins, way) h.begins;
      few = rw (places, way) h.few;
      way = move-lists c w.way.items after.way.items w.begins.items after.begins.items w.looked.items after.looked.items w.places.items after.places.items w.lowest after.lowest
          way begins looked places low h.way;
      end = omega (arith, end, size, h.end);
      last = rw (size, begins) (omega (arith, a.inside, end));
      done = λ i x l. ⊎_elim
          (λ (y : w.end ≤ i). rw (at i, looks (number_at w i)) (h.done i y (omega (arith, size))))
          (λ (y : i < w.end).
          let e : i ≡ w.end - 1 = omega (arith, end) in
          let n-is : number_at after i ≡ n = at i ∙ (ap (number_at w) e ∙ a.number) in
          rw n-is (omega (arith, all, looks n)))
          (⊎_elim (λ (z : i < w.end). inr z) (λ (z : w.end ≤ i). inl z) (cases_lt i w.end));
    }

pub less-done : (c : Cat) (w after : Walk) → new_numbers after ≡ new_numbers w → length after.way.items ≡ length w.way.items → after.end + 1 ≡ w.end → left_to_do c after < left_to_do c w
less-done c w after new size end = rw new (omega (arith, size, end))

pub kept-on : (w w1 w2 : Walk) → AreKept w w1 → AreKept w1 w2 → AreKept w w2
kept-on w w1 w2 a b = record { kept = λ n e. b.kept n (a.kept n e) }

pub kept-same : (w after : Walk) → after.places.items ≡ w.places.items → AreKept w after
kept-same w after e = kept-all w after e

pub further-end : (c : Cat) (n : ℕ) (w w1 after : Walk) → IsWalk c w1 → IsAtEnd n w1 → new_numbers w1 ≡ new_numbers w → w1.way.items ≡ w.way.items → w1.end ≡ w.end → AreKept w w1
    → length (entries_of c n) ≤ looked_at w1 n → IsShortened w1 after → IsFurther c w after
further-end c n w w1 after h a new way end kept all s =
    record {
      walk = done-walk c n w1 after h a all s;
      less = less-done c w after (ap (count_by is_new) s.places ∙ new) (ap length (s.way ∙ way)) (s.end ∙ end);
      kept = kept-on w w1 after kept (kept-same w1 after s.places);
    }

pub end-looks : (c : Cat) (n : ℕ) (w : Walk) → IsWalk c w → IsAtEnd n w → n < length w.looked.items
end-looks c n w h a = omega (arith, number-inside c w (w.end - 1) h (omega (arith, a.inside, h.end)), a.number, h.all, h.looks)

-- how many entries were looked at, as it is read
pub looks-read : (c : Cat) (n k : ℕ) (w : Walk) → IsWalk c w → IsAtEnd n w → k ≡ get_or w.looked.items n k → k ≡ looked_at w n
looks-read c n k w h a e = e ∙ get_or_default w.looked.items n k 0 (end-looks c n w h a)

pub all-inside : (c : Cat) (w : Walk) → IsWalk c w → (k d : ℕ) → k < length w.way.items → get_or w.way.items k d < length w.places.items
all-inside c w h k d inside =
    let l = number-inside c w k h inside in
    rw (get_or_default w.way.items k d 0 inside) l

pub last-begin : (c : Cat) (w : Walk) (b k : ℕ) → IsWalk c w → 0 < length w.way.items → k ≡ length w.begins.items → b ≡ get_or w.begins.items (k - 1) b
    → (b < length w.way.items) × (begin_at w (length w.way.items - 1) ≡ b)
last-begin c w b k h some size read =
    let at : k - 1 ≡ length w.way.items - 1 = omega (arith, size, h.begins) in
    let inside : length w.way.items - 1 < length w.begins.items = omega (arith, h.begins) in
    let here : b ≡ get_or w.begins.items (length w.way.items - 1) b = read ∙ ap (λ (i : ℕ). get_or w.begins.items i b) at in
    let is : begin_at w (length w.way.items - 1) ≡ b = get_or_default w.begins.items (length w.way.items - 1) 0 b inside ∙ sym here in
    (omega (arith, is, h.way.low (length w.way.items - 1)), is)

no-new : (p : Place) → is_new p ≡ false → ((i : ℕ) → p ≡ At i → ⊥) → p ≡ Closed
no-new New e out = absurd (cc)
no-new (At i) e out = absurd (out i refl)
no-new Closed e out = refl

-- at the end all numbers are closed
pub all-closed : (c : Cat) (w : Walk) (n : ℕ) → IsWalk c w → w.way.items ≡ [] → is_new (place_of w n) ≡ false → place_of w n ≡ Closed
all-closed c w n h none e =
    let size : length w.way.items ≡ 0 = ap length none in
    no-new (place_of w n) e (λ i there. let o = (h.way.opened n i there).0 in absurd (omega arith))

lowest-by : (c : Cat) (low : Option ℕ) → IsOnLoop c low → ((n : ℕ) → Path c n n → IsNoHigher low n) → IsLowestOnLoop c low
lowest-by c None loop all = λ n p. all n p
lowest-by c (Some m) loop all = (loop, all)

pub walk-ends : (c : Cat) (w : Walk) (k : ℕ) → IsWalk c w → w.way.items ≡ [] → length c.files + 1 ≤ k → ((n : ℕ) → 1 ≤ n → n < k → is_new (place_of w n) ≡ false) → IsLowestOnLoop c w.lowest
walk-ends c w k h none all begun = lowest-by c w.lowest h.way.loops (λ n p.
    let number = path-number c n n p in
    h.way.told n (all-closed c w n h none (begun n number.0 (omega arith))) p)

pub begun-more : (w w1 : Walk) (k : ℕ) → AreKept w w1 → is_new (place_of w1 k) ≡ false → ((n : ℕ) → 1 ≤ n → n < k → is_new (place_of w n) ≡ false)
    → (n : ℕ) → 1 ≤ n → n < k + 1 → is_new (place_of w1 n) ≡ false
begun-more w w1 k kept here begun n one below = ⊎_elim
    (λ (x : n < k). kept.kept n (begun n one x))
    (λ (x : k ≤ n). let e : n ≡ k = omega arith in rw e here)
    (cases_lt n k)

pub begin-walk : (c : Cat) (w after : Walk) (n : ℕ) (p : Place) → IsWalk c w → w.way.items ≡ [] → n ≤ length c.files → p ≡ get_or w.places.items n p → p ≡ New → IsPushed n w after → IsWalk c after
begin-walk c w after n p h none number read new pushed =
    let inside : n < length w.places.items = omega (arith, h.all) in
    let size : length w.way.items ≡ 0 = ap length none in
    let stands : place_of w n ≡ New = get_or_default w.places.items n New p inside ∙ (sym read ∙ new) in
    pushed-walk c w after n h pushed inside stands (λ i l. absurd (omega arith))
