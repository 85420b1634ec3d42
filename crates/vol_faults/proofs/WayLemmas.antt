-- The way along chains of entries: what each step keeps.
use Rattle.std.proofs.Common.{◌≡◌, ◌∙◌, ◌≢◌, ◌+◌, ◌<◌, ◌≤◌, ◌-◌, ℕ, true, false, length, get_or, Option, Some, refl, sym, ap, subst, take, arith, inl, inr, ⊎_elim, below_more}
use Rattle.std.specs.Prelude.{◌&&◌, ◌==◌, ◌⊎◌, slice_get}
use Rattle.std.proofs.lemmas.Bool.{and_parts, cases_lt, cases_eq, eqb-true}
use Rattle.std.proofs.lemmas.List.{take_all}
use Rattle.std.proofs.lemmas.Option.{slice_get_within, get_or_from_slice_get}
use Rattle.plain_cat.specs.declared.entries.DirEnt.{DirEnt}
use Rattle.plain_cat.specs.declared.cat.Cat.{Cat}
use Rattle.vol_parts.specs.Fatal.{Path}
use Rattle.plain_rules.specs.SystemFiles.{entries_of}
use Rattle.vol_parts.specs.Fatal.Path.{One, More}
use Rattle.vol_faults.specs.Reaching.{is_step, leads}
use Rattle.vol_faults.specs.Walking.{leads_among, IsNoHigher, IsOnLoop, IsMet, IsWay}
use Rattle.vol_faults.specs.declared.loops.Place.{Place}
use Rattle.vol_faults.specs.declared.loops.Place.TheVariants.{New, At, Closed}
use Rattle.vol_faults.proofs.ReachLemmas.{names-leads, more-leads}
use Rattle.plain_rules.proofs.Ordered.{or_cases}

-- ---- chains

pub path-on : (c : Cat) (n k m : ℕ) → Path c n k → Path c k m → Path c n m
path-on c n k m p (One h) = More p h
path-on c n k m p (More q h) = More (path-on c n k _ p q) h

-- ---- what an entry that was looked at leads to

pub met-moved : (at1 at2 begin1 begin2 : ℕ → ℕ) (low1 low2 : Option ℕ) (i : ℕ) (p : Place) → at2 i ≡ at1 i → begin2 i ≤ begin1 i
    → ((n : ℕ) → IsNoHigher low1 n → IsNoHigher low2 n) → IsMet at1 begin1 low1 i p → IsMet at2 begin2 low2 i p
met-moved at1 at2 begin1 begin2 low1 low2 i New e b kept h = h
met-moved at1 at2 begin1 begin2 low1 low2 i (At p) e b kept h = (omega arith, λ same. rw e (kept (at1 i) (h.1 same)))
met-moved at1 at2 begin1 begin2 low1 low2 i Closed e b kept h = h

met-not-new : (at begin : ℕ → ℕ) (low : Option ℕ) (i : ℕ) (p : Place) → IsMet at begin low i p → p ≢ New
met-not-new at begin low i New h e = h
met-not-new at begin low i (At p) h e = cc
met-not-new at begin low i Closed h e = cc

-- ---- a number more

pub way-pushed : (c : Cat) (size m : ℕ) (at at1 begin begin1 : ℕ → ℕ) (place place1 : ℕ → Place) (looked : ℕ → ℕ) (low : Option ℕ) → IsWay c size at begin place looked low
    → ((i : ℕ) → i < size → at1 i ≡ at i) → at1 size ≡ m → ((i : ℕ) → i < size → begin1 i ≡ begin i) → begin1 size ≡ size
    → place m ≡ New → place1 m ≡ At size → ((n : ℕ) → n ≢ m → place1 n ≡ place n) → ((i : ℕ) → i < size → Path c (at i) m) → IsWay c (size + 1) at1 begin1 place1 looked low
way-pushed c size m at at1 begin begin1 place place1 looked low h ats atm begins beginm new here others paths =
    let other : (n : ℕ) (p : Place) → place n ≡ p → p ≢ New → place1 n ≡ p = λ n p e ne. others n (λ same. ne (sym e ∙ ap place same ∙ new)) ∙ e in
    let back-to : (n : ℕ) (p : Place) → place1 n ≡ p → p ≢ At size → place n ≡ p = λ n p e ne. sym (others n (λ same. ne (sym e ∙ ap place1 same ∙ here))) ∙ e in
    record {
      placed = below_more (λ i. place1 (at1 i) ≡ At i) size (λ i l. ap place1 (ats i l) ∙ other (at i) (At i) (h.placed i l) (λ e. cc)) (ap place1 atm ∙ here);
      opened = λ n p e. ⊎_elim
          (λ (same : n ≡ m). let q : p ≡ size = cc (e, here, ap place1 same) in (omega arith, rw q (atm ∙ sym same)))
          (λ (ne : n ≢ m). let o = h.opened n p (sym (others n ne) ∙ e) in (omega arith, ats p o.0 ∙ o.1))
          (cases_eq n m);
      fresh = λ n e. h.fresh n (back-to n New e (λ x. cc));
      forth = λ i j less inside. below_more (λ k. i < k → Path c (at1 i) (at1 k)) size
          (λ k l il. rw (ats k l, ats i (omega arith)) (h.forth i k il l))
          (λ il. rw (atm, ats i il) (paths i il)) j inside less;
      back = λ i j l b less. below_more (λ i. (j : ℕ) → begin1 i ≤ j → j < i → Path c (at1 i) (at1 j)) size
          (λ i l j b less. rw (ats i l, ats j (omega arith)) (h.back i j l (rw (begins i l) at b) less))
          (λ j b less. absurd (omega arith)) i l j b less;
      low = below_more (λ i. begin1 i ≤ i) size (λ i l. rw (begins i l) (h.low i l)) (rw beginm (omega arith));
      nested = λ i j l b less. below_more (λ k. begin1 k ≤ i → i ≤ k → begin1 i ≡ begin1 k) size
          (λ k l b less. begins i (omega arith) ∙ (h.nested i k l (rw (begins k l) at b) less ∙ sym (begins k l)))
          (λ b less. let e : i ≡ size = omega arith in ap begin1 e) j l b less;
      met = λ i k l led. below_more (λ q. leads_among c (at1 q) (take (looked (at1 q)) (entries_of c (at1 q))) k ≡ true → IsMet at1 begin1 low q (place1 k)) size
          (λ q l led.
          let was : IsMet at begin low q (place k) = h.met q k l (rw (ats q l) at led) in
          rw (other k (place k) refl (met-not-new at begin low q (place k) was))
          (met-moved at at1 begin begin1 low low q (place k) (ats q l) (omega (arith, begins q l)) (λ n x. x) was))
          (λ led. let none : looked (at1 size) ≡ 0 = ap looked atm ∙ h.fresh m new in let never : false ≡ true = rw (none) at led in absurd (cc)) i l led;
      closed = λ n k e led. other k Closed (h.closed n k (back-to n Closed e (λ x. cc)) led) (λ x. cc);
      told = λ n e p. h.told n (back-to n Closed e (λ x. cc)) p;
      loops = h.loops;
    }

-- ---- loops that become one

pub way-joined : (c : Cat) (size p : ℕ) (at begin begin1 : ℕ → ℕ) (place : ℕ → Place) (looked : ℕ → ℕ) (low : Option ℕ) → IsWay c size at begin place looked low
    → p < size → ((i : ℕ) → i < p → begin1 i ≡ begin i) → ((i : ℕ) → p ≤ i → i < size → begin1 i ≡ begin p) → ((i : ℕ) → p < i → i < size → Path c (at i) (at p))
    → IsWay c size at begin1 place looked low
way-joined c size p at begin begin1 place looked low h inside same joined paths =
    let less : (i : ℕ) → i < size → begin1 i ≤ begin i = λ i l. ⊎_elim
    (λ (x : i < p). omega (arith, same i x))
    (λ (x : p ≤ i). ⊎_elim
    (λ (y : p < begin i). omega (arith, joined i x l, h.low p inside))
    (λ (y : begin i ≤ p). omega (arith, joined i x l, h.nested p i l y x))
    (cases_lt p (begin i)))
    (cases_lt i p) in
    record {
      placed = h.placed;
      opened = h.opened;
      fresh = h.fresh;
      forth = h.forth;
      back = λ i j l b under. ⊎_elim
          (λ (x : i < p). h.back i j l (rw (same i x) at b) under)
          (λ (x : p ≤ i).
          let begins : begin p ≤ j = rw (joined i x l) at b in
          ⊎_elim
          (λ (y : p < i).
          let to : Path c (at i) (at p) = paths i y l in
          ⊎_elim
          (λ (z : p < j). path-on c (at i) (at p) (at j) to (h.forth p j z (omega arith)))
          (λ (z : j ≤ p). ⊎_elim
          (λ (e : j ≡ p). rw e to)
          (λ (ne : j ≢ p). path-on c (at i) (at p) (at j) to (h.back p j inside begins (omega arith)))
          (cases_eq j p))
          (cases_lt p j))
          (λ (y : i ≤ p). let e : i ≡ p = omega arith in rw e (h.back p j inside begins (omega arith)))
          (cases_lt p i))
          (cases_lt i p);
      low = λ i l. omega (arith, less i l, h.low i l);
      nested = λ i j l b under. ⊎_elim
          (λ (x : j < p). same i (omega arith) ∙ (h.nested i j l (rw (same j x) at b) under ∙ sym (same j x)))
          (λ (x : p ≤ j).
          let begins : begin p ≤ i = rw (joined j x l) at b in
          ⊎_elim
          (λ (y : i < p). same i y ∙ (h.nested i p inside begins (omega arith) ∙ sym (joined j x l)))
          (λ (y : p ≤ i). joined i y (omega arith) ∙ sym (joined j x l))
          (cases_lt i p))
          (cases_lt j p);
      met = λ i m l led. met-moved at at begin begin1 low low i (place m) refl (less i l) (λ n x. x) (h.met i m l led);
      closed = h.closed;
      told = h.told;
      loops = h.loops;
    }

-- ---- a lower number on a loop

pub way-lowered : (c : Cat) (size : ℕ) (at begin : ℕ → ℕ) (place : ℕ → Place) (looked : ℕ → ℕ) (low low1 : Option ℕ) → IsWay c size at begin place looked low
    → ((n : ℕ) → IsNoHigher low n → IsNoHigher low1 n) → IsOnLoop c low1 → IsWay c size at begin place looked low1
way-lowered c size at begin place looked low low1 h kept loop = record {
  placed = h.placed;
  opened = h.opened;
  fresh = h.fresh;
  forth = h.forth;
  back = h.back;
  low = h.low;
  nested = h.nested;
  met = λ i m l led. met-moved at at begin begin low low1 i (place m) refl (omega arith) kept (h.met i m l led);
  closed = h.closed;
  told = λ n e p. kept n (h.told n e p);
  loops = loop;
}

-- ---- one entry more

same-place : (i j : ℕ) (p : Place) → p ≡ At i → p ≡ At j → i ≡ j
same-place i j p e f = cc

pub way-looked : (c : Cat) (size k : ℕ) (at begin : ℕ → ℕ) (place : ℕ → Place) (looked looked1 : ℕ → ℕ) (low : Option ℕ) (n : ℕ) (e : DirEnt) → IsWay c size at begin place looked low
    → k < size → at k ≡ n → slice_get (entries_of c n) (looked n) ≡ Some e → looked1 n ≡ looked n + 1 → ((m : ℕ) → m ≢ n → looked1 m ≡ looked m)
    → (is_step c n e ≡ true → IsMet at begin low k (place e.fid.num)) → IsWay c size at begin place looked1 low
way-looked c size k at begin place looked looked1 low n e h inside is there one others goes =
    let here : place n ≡ At k = sym (ap place is) ∙ h.placed k inside in
    let within : looked n < length (entries_of c n) = slice_get_within (entries_of c n) (looked n) e there in
    let entry : e ≡ get_or (entries_of c n) (looked n) e = sym (get_or_from_slice_get (entries_of c n) (looked n) e e there) in
    record {
      placed = h.placed;
      opened = h.opened;
      fresh = λ m new. others m (λ same. let bad : New ≡ At k = sym new ∙ (ap place same ∙ here) in absurd (cc)) ∙ h.fresh m new;
      forth = h.forth;
      back = h.back;
      low = h.low;
      nested = h.nested;
      met = λ i m l led. ⊎_elim
          (λ (same : at i ≡ n).
          let at-k : i ≡ k = same-place i k (place n) (sym (ap place same) ∙ h.placed i l) here in
          let led-n : leads_among c n (take (looked n + 1) (entries_of c n)) m ≡ true = rw (same, one) at led in
          ⊎_elim
          (λ (x : leads_among c n (take (looked n) (entries_of c n)) m ≡ true).
          h.met i m l (rw same x))
          (λ (x : (is_step c n e && (e.fid.num == m)) ≡ true).
          let w = and_parts (is_step c n e) (e.fid.num == m) x in
          let to : e.fid.num ≡ m = eqb-true e.fid.num m w.1 in
          rw (at-k, sym to) (goes w.0))
          (or_cases (leads_among c n (take (looked n) (entries_of c n)) m) (is_step c n e && (e.fid.num == m))
          (sym (more-leads c n (looked n) m e (entries_of c n) (is_step c n e) within entry refl) ∙ led-n)))
          (λ (other : at i ≢ n). h.met i m l (rw (others (at i) other) at led))
          (cases_eq (at i) n);
      closed = h.closed;
      told = h.told;
      loops = h.loops;
    }

-- ---- the last loop of the way

abbrev pub IsCut : ℕ → Place → Place → Type 0
IsCut b p p1 = ((i : ℕ) × (p ≡ At i) × (b ≤ i) × (p1 ≡ Closed)) ⊎ (((i : ℕ) → p ≡ At i → i < b) × (p1 ≡ p))

cut-at : (b i : ℕ) (p p1 : Place) → IsCut b p p1 → p1 ≡ At i → (p ≡ At i) × (i < b)
cut-at b i p p1 (inl h) e = absurd (cc (h.3, e))
cut-at b i p p1 (inr h) e = let was : p ≡ At i = sym h.1 ∙ e in (was, h.0 i was)

cut-before : (b i : ℕ) (p p1 : Place) → IsCut b p p1 → p ≡ At i → i < b → p1 ≡ At i
cut-before b i p p1 (inl h) e l = let same : h.0 ≡ i = same-place h.0 i p h.1 e in absurd (omega (arith, h.2))
cut-before b i p p1 (inr h) e l = h.1 ∙ e

cut-behind : (b i : ℕ) (p p1 : Place) → IsCut b p p1 → p ≡ At i → b ≤ i → p1 ≡ Closed
cut-behind b i p p1 (inl h) e l = h.3
cut-behind b i p p1 (inr h) e l = let x : i < b = h.0 i e in absurd (omega arith)

cut-new : (b : ℕ) (p p1 : Place) → IsCut b p p1 → p1 ≡ New → p ≡ New
cut-new b p p1 (inl h) e = absurd (cc (h.3, e))
cut-new b p p1 (inr h) e = sym h.1 ∙ e

cut-closed : (b : ℕ) (p p1 : Place) → IsCut b p p1 → p ≡ Closed → p1 ≡ Closed
cut-closed b p p1 (inl h) e = h.3
cut-closed b p p1 (inr h) e = h.1 ∙ e

cut-was : (b : ℕ) (p p1 : Place) → IsCut b p p1 → p1 ≡ Closed → (p ≡ Closed) ⊎ ((i : ℕ) × (p ≡ At i) × (b ≤ i))
cut-was b p p1 (inl h) e = inr (h.0, h.1, h.2)
cut-was b p p1 (inr h) e = inl (sym h.1 ∙ e)

cut-met : (at at1 begin begin1 : ℕ → ℕ) (low low1 : Option ℕ) (b i : ℕ) (p p1 : Place) → at1 i ≡ at i → begin1 i ≤ begin i → ((n : ℕ) → IsNoHigher low n → IsNoHigher low1 n)
    → IsCut b p p1 → IsMet at begin low i p → IsMet at1 begin1 low1 i p1
cut-met at at1 begin begin1 low low1 b i p p1 e l kept (inl h) m = rw h.3 tt
cut-met at at1 begin begin1 low low1 b i p p1 e l kept (inr h) m = rw h.1 (met-moved at at1 begin begin1 low low1 i p e l kept m)

-- what an entry leads to from a number all of whose entries were looked at
led-met : (c : Cat) (size i m : ℕ) (at begin : ℕ → ℕ) (place : ℕ → Place) (looked : ℕ → ℕ) (low : Option ℕ) → IsWay c size at begin place looked low → i < size
    → length (entries_of c (at i)) ≤ looked (at i) → leads c (at i) m ≡ true → IsMet at begin low i (place m)
unfolding leads
led-met c size i m at begin place looked low h l all led = h.met i m l (rw (take_all (looked (at i)) (entries_of c (at i)) all) led)

met-behind : (at begin : ℕ → ℕ) (low : Option ℕ) (i b : ℕ) (p p1 : Place) → IsCut b p p1 → begin i ≡ b → IsMet at begin low i p → p1 ≡ Closed
met-behind at begin low i b New p1 cut e h = absurd h
met-behind at begin low i b (At q) p1 cut e h = cut-behind b q (At q) p1 cut refl (omega (arith, h.0))
met-behind at begin low i b Closed p1 cut e h = cut-closed b Closed p1 cut refl

-- the last loop has one number: what leads from it is closed, or leads to itself
met-alone : (at begin : ℕ → ℕ) (low : Option ℕ) (i size : ℕ) (p : Place) → begin i ≡ i → ((q : ℕ) → p ≡ At q → q < size) → size ≡ i + 1 → IsMet at begin low i p
    → (p ≡ Closed) ⊎ IsNoHigher low (at i)
met-alone at begin low i size New e within one h = absurd h
met-alone at begin low i size (At q) e within one h = let l : q < size = within q refl in let same : q ≡ i = omega (arith, h.0) in inr (h.1 same)
met-alone at begin low i size Closed e within one h = inl refl

path-alone : (c : Cat) (size i : ℕ) (at begin : ℕ → ℕ) (place : ℕ → Place) (looked : ℕ → ℕ) (low : Option ℕ) (m : ℕ) → IsWay c size at begin place looked low
    → size ≡ i + 1 → begin i ≡ i → length (entries_of c (at i)) ≤ looked (at i) → Path c (at i) m → (place m ≡ Closed) ⊎ IsNoHigher low (at i)
path-alone c size i at begin place looked low m h one e all (One step) =
    met-alone at begin low i size (place m) e (λ q x. (h.opened m q x).0) one
    (led-met c size i m at begin place looked low h (omega arith) all (names-leads c (at i) m step))
path-alone c size i at begin place looked low m h one e all (More p step) = ⊎_elim
    (λ x. inl (h.closed _ m x (names-leads c _ m step)))
    (λ x. inr x)
    (path-alone c size i at begin place looked low _ h one e all p)

pub way-closed : (c : Cat) (size b : ℕ) (at at1 begin begin1 : ℕ → ℕ) (place place1 : ℕ → Place) (looked : ℕ → ℕ) (low low1 : Option ℕ) → IsWay c size at begin place looked low
    → b < size → begin (size - 1) ≡ b → ((i : ℕ) → b ≤ i → i < size → length (entries_of c (at i)) ≤ looked (at i))
    → ((i : ℕ) → i < b → at1 i ≡ at i) → ((i : ℕ) → i < b → begin1 i ≡ begin i) → ((n : ℕ) → IsCut b (place n) (place1 n))
    → ((n : ℕ) → IsNoHigher low n → IsNoHigher low1 n) → IsOnLoop c low1 → (b + 1 < size → (i : ℕ) → b ≤ i → i < size → IsNoHigher low1 (at i))
    → IsWay c b at1 begin1 place1 looked low1
way-closed c size b at at1 begin begin1 place place1 looked low low1 h inside last done ats begins cut kept loop noted =
    let from : (i : ℕ) → b ≤ i → i < size → begin i ≡ b = λ i x l. h.nested i (size - 1) (omega arith) (omega arith) (omega arith) ∙ last in
    record {
      placed = λ i l. cut-before b i (place (at1 i)) (place1 (at1 i)) (cut (at1 i)) (ap place (ats i l) ∙ h.placed i (omega arith)) l;
      opened = λ n i e. let w = cut-at b i (place n) (place1 n) (cut n) e in (w.1, ats i w.1 ∙ (h.opened n i w.0).1);
      fresh = λ n e. h.fresh n (cut-new b (place n) (place1 n) (cut n) e);
      forth = λ i j l m. rw (ats i (omega arith), ats j m) (h.forth i j l (omega arith));
      back = λ i j l x m. rw (ats i l, ats j (omega arith)) (h.back i j (omega arith) (rw (begins i l) at x) m);
      low = λ i l. rw (begins i l) (h.low i (omega arith));
      nested = λ i j l x m. begins i (omega arith) ∙ (h.nested i j (omega arith) (rw (begins j l) at x) m ∙ sym (begins j l));
      met = λ i m l led. cut-met at at1 begin begin1 low low1 b i (place m) (place1 m) (ats i l) (omega (arith, begins i l)) kept (cut m)
          (h.met i m (omega arith) (rw (ats i l) at led));
      closed = λ n m e led. ⊎_elim
          (λ (x : place n ≡ Closed). cut-closed b (place m) (place1 m) (cut m) (h.closed n m x led))
          (λ (x : (i : ℕ) × (place n ≡ At i) × (b ≤ i)).
          let w = h.opened n x.0 x.1 in
          met-behind at begin low x.0 b (place m) (place1 m) (cut m) (from x.0 x.2 w.0)
          (led-met c size x.0 m at begin place looked low h w.0 (done x.0 x.2 w.0) (rw w.1 led)))
          (cut-was b (place n) (place1 n) (cut n) e);
      told = λ n e p. ⊎_elim
          (λ (x : place n ≡ Closed). kept n (h.told n x p))
          (λ (x : (i : ℕ) × (place n ≡ At i) × (b ≤ i)).
          let w = h.opened n x.0 x.1 in
          subst (IsNoHigher low1) w.1 (⊎_elim
          (λ (more : b + 1 < size). noted more x.0 x.2 w.0)
          (λ (one : size ≤ b + 1). ⊎_elim
          (λ (y : place n ≡ Closed). absurd (cc (x.1, y)))
          (λ (y : IsNoHigher low (at x.0)). kept (at x.0) y)
          (path-alone c size x.0 at begin place looked low n h (omega arith) (omega (arith, from x.0 x.2 w.0)) (done x.0 x.2 w.0) (rw w.1 p)))
          (cases_lt (b + 1) size)))
          (cut-was b (place n) (place1 n) (cut n) e);
      loops = loop;
    }

-- all numbers of a loop lead back to themselves
pub way-loop : (c : Cat) (size b i : ℕ) (at begin : ℕ → ℕ) (place : ℕ → Place) (looked : ℕ → ℕ) (low : Option ℕ) → IsWay c size at begin place looked low
    → begin (size - 1) ≡ b → b + 1 < size → b ≤ i → i < size → Path c (at i) (at i)
way-loop c size b i at begin place looked low h last more from inside =
    let here : (j : ℕ) → b ≤ j → j < size → begin j ≡ b = λ j x l. h.nested j (size - 1) (omega arith) (omega arith) (omega arith) ∙ last in
    ⊎_elim
    (λ (x : i < size - 1). path-on c (at i) (at (size - 1)) (at i) (h.forth i (size - 1) x (omega arith)) (h.back (size - 1) i (omega arith) (omega (arith, last)) x))
    (λ (x : size - 1 ≤ i). path-on c (at i) (at b) (at i) (h.back i b inside (omega (arith, here i from inside)) (omega arith)) (h.forth b i (omega arith) inside))
    (cases_lt i (size - 1))
