-- Headers that stay, that change, or that get another one behind them.
use Rattle.std.proofs.Common.{◌≡◌, ◌≢◌, ◌∙◌, ◌+◌, ◌*◌, ◌<◌, ◌≤◌, ◌++◌, ◌⊎◌, ◌==◌, ◌&&◌, ℕ, zero, suc, true, List, [], ◌∷◌, Some, take, drop, length, refl, sym, ap, subst, inl, inr, arith, length-take, append-nil}
use Rattle.std.proofs.lemmas.List.{drop_at, take-append-le, take_all, take-take, drop-append-le, drop-take, drop-drop}
use Rattle.base_words.specs.Lists.{Has}
use Rattle.base_words.proofs.Listing.{same_or_not}
use Rattle.fx_header.specs.declared.run.Run.{Run}
use Rattle.fx_header.specs.declared.slot.Hdr.{Hdr}
use Rattle.fx_header.specs.Pointers.{blocks_in}
use Rattle.plain_rules.specs.Lookups.{header_most}
use Rattle.vol_parts.specs.declared.geometry.Geometry.{Geometry}
use Rattle.vol_parts.specs.Chains.{Headers, follows, cut, last_slot}
use Rattle.vol_parts.specs.ChainLaws.{IsSameSlot}
use Rattle.vol_parts.proofs.Walks.{follows-parts, IsNext}
use Rattle.vol_spell.specs.Reading.{clusters_of}
use Rattle.vol_spell.specs.Spelling.{AreWhole}
use Rattle.op_steps.proofs.Leading.{IsFull, IsLast, Lead}

one_header : (a b : Hdr) → Some a ≡ Some b → a ≡ b
one_header a b e = cc e

-- ---- which headers they are

-- the header in a slot has at least this SEG_NUM
pub record HasSegment (h : Headers) (i s : ℕ) : Type 0 where
  pub header : Hdr
  pub says : h.says i ≡ Some header
  pub segment : s ≤ header.seg

-- each of them has at least the first one's
pub lead_above : (g : Geometry) (h : Headers) (n : ℕ) (f : Hdr) (is : List ℕ) (m : ℕ) (x : Hdr) (cs : List ℕ) (i : ℕ) → h.says n ≡ Some f → Lead g h n f is m x cs → Has (n ∷ is) i → HasSegment h i f.seg
lead_above g h n f is m x cs i says lead (inl e) = record { header = f; says = ap h.says (sym e) ∙ says; segment = omega arith }
lead_above g h n f [] m x cs i says lead (inr t) = absurd t
lead_above g h n f (j ∷ is) m x cs i says lead (inr t) =
    let next = lead.2.1 in
    let up = (follows-parts f lead.2.0 next.after).segment in
    let behind = lead_above g h j lead.2.0 is m x (drop header_most cs) i (ap h.says (sym lead.1) ∙ next.says) lead.2.2 t in
    let le = behind.segment in
    record { header = behind.header; says = behind.says; segment = omega arith }

-- those behind a header are in other slots
pub lead_apart : (g : Geometry) (h : Headers) (n : ℕ) (f : Hdr) (j : ℕ) (is : List ℕ) (m : ℕ) (x : Hdr) (cs : List ℕ) (i : ℕ) → h.says n ≡ Some f → Lead g h n f (j ∷ is) m x cs → Has (j ∷ is) i → i ≢ n
lead_apart g h n f j is m x cs i says lead t same =
    let next = lead.2.1 in
    let up = (follows-parts f lead.2.0 next.after).segment in
    let behind = lead_above g h j lead.2.0 is m x (drop header_most cs) i (ap h.says (sym lead.1) ∙ next.says) lead.2.2 t in
    let le = behind.segment in
    let one : behind.header ≡ f = one_header behind.header f (sym behind.says ∙ ap h.says same ∙ says) in
    let seg = ap (λ (y : Hdr). y.seg) one in
    omega (arith, up, le, seg)

-- the last one
pub record IsEnd (h : Headers) (n : ℕ) (f : Hdr) (is : List ℕ) (m : ℕ) (x : Hdr) : Type 0 where
  pub says : h.says m ≡ Some x
  pub has : Has (n ∷ is) m
  pub segment : x.seg ≡ f.seg + length is

pub lead_end : (g : Geometry) (h : Headers) (n : ℕ) (f : Hdr) (is : List ℕ) (m : ℕ) (x : Hdr) (cs : List ℕ) → h.says n ≡ Some f → Lead g h n f is m x cs → IsEnd h n f is m x
lead_end g h n f [] m x cs says lead = record {
  says = ap h.says (sym lead.0) ∙ says ∙ ap (λ (y : Hdr). Some y) lead.1;
  has = inl lead.0;
  segment = ap (λ (y : Hdr). y.seg) (sym lead.1) ∙ (let e : f.seg ≡ f.seg + 0 = omega arith in e);
}
lead_end g h n f (i ∷ is) m x cs says lead =
    let next = lead.2.1 in
    let up = (follows-parts f lead.2.0 next.after).segment in
    let behind = lead_end g h i lead.2.0 is m x (drop header_most cs) (ap h.says (sym lead.1) ∙ next.says) lead.2.2 in
    let seg = behind.segment in
    record { says = behind.says; has = inr behind.has; segment = omega arith }

-- where there are others it is one of these
pub lead_behind : (g : Geometry) (h : Headers) (n : ℕ) (f : Hdr) (i : ℕ) (is : List ℕ) (m : ℕ) (x : Hdr) (cs : List ℕ) → Lead g h n f (i ∷ is) m x cs → Has (i ∷ is) m
lead_behind g h n f i is m x cs lead = (lead_end g h i lead.2.0 is m x (drop header_most cs) (ap h.says (sym lead.1) ∙ lead.2.1.says) lead.2.2).has

-- and the last one of these slots
pub lead_slot : (g : Geometry) (h : Headers) (n : ℕ) (f : Hdr) (is : List ℕ) (m : ℕ) (x : Hdr) (cs : List ℕ) → Lead g h n f is m x cs → last_slot n is ≡ m
lead_slot g h n f [] m x cs lead = lead.0
lead_slot g h n f (i ∷ is) m x cs lead = lead_slot g h i lead.2.0 is m x (drop header_most cs) lead.2.2

-- ---- headers that stay

full_same : (g : Geometry) (h k : Headers) (n : ℕ) (ds : List ℕ) → k.lists n ≡ h.lists n → IsFull g h n ds → IsFull g k n ds
full_same g h k n ds e is = record { whole = subst (AreWhole g) (sym e) is.whole; clusters = ap (clusters_of g.cluster) e ∙ is.clusters; full = is.full }

pub last_same : (g : Geometry) (h k : Headers) (n : ℕ) (ds : List ℕ) → k.lists n ≡ h.lists n → IsLast g h n ds → IsLast g k n ds
last_same g h k n ds e is =
    let enough = is.enough in
    record {
      enough = subst (λ (rs : List Run). g.cluster * length ds ≤ blocks_in rs) (sym e) enough;
      whole = subst (λ (rs : List Run). AreWhole g (cut (g.cluster * length ds) rs)) (sym e) is.whole;
      clusters = ap (λ (rs : List Run). clusters_of g.cluster (cut (g.cluster * length ds) rs)) e ∙ is.clusters;
    }

next_same : (h k : Headers) (f y : Hdr) → k.files ≡ h.files → k.says f.ext ≡ h.says f.ext → IsNext h f y → IsNext k f y
next_same h k f y files says next =
    let to = next.number.to in
    record { number = record { from = next.number.from; to = omega (arith, to, files) }; says = says ∙ next.says; after = next.after }

pub lead_same : (g : Geometry) (h k : Headers) (n : ℕ) (f : Hdr) (is : List ℕ) (m : ℕ) (x : Hdr) (cs : List ℕ) → k.files ≡ h.files → ((i : ℕ) → Has (n ∷ is) i → IsSameSlot h k i)
    → Lead g h n f is m x cs → Lead g k n f is m x cs
lead_same g h k n f [] m x cs files same lead = lead
lead_same g h k n f (i ∷ is) m x cs files same lead =
    let there : k.says f.ext ≡ h.says f.ext = ap k.says lead.1 ∙ (same i (inr (inl refl))).says ∙ ap h.says (sym lead.1) in (
      full_same g h k n (take header_most cs) (same n (inl refl)).lists lead.0,
      lead.1,
      (lead.2.0, next_same h k f lead.2.0 files there lead.2.1, lead_same g h k i lead.2.0 is m x (drop header_most cs) files (λ j t. same j (inr t)) lead.2.2),
    )

-- ---- the last one changes

-- a header with the number, the sequence and the SEG_NUM of another
pub record IsSameLink (x y : Hdr) : Type 0 where
  pub num : y.num ≡ x.num
  pub seq : y.seq ≡ x.seq
  pub seg : y.seg ≡ x.seg

pub same_link : (x : Hdr) → IsSameLink x x
same_link x = record { num = refl; seq = refl; seg = refl }

follows_same : (f x y : Hdr) → IsSameLink x y → follows f x ≡ true → follows f y ≡ true
unfolding follows
follows_same f x y same e = ap (λ z. (z == f.ext) && ((y.seq == f.ext_seq) && (y.seg == f.seg + 1))) same.num ∙ ap (λ z. (x.num == f.ext) && ((z == f.ext_seq) && (y.seg == f.seg + 1))) same.seq
    ∙ ap (λ z. (x.num == f.ext) && ((x.seq == f.ext_seq) && (z == f.seg + 1))) same.seg ∙ e

-- of all slots that of m alone changes, in which the header y is then
pub record IsLastSet (h k : Headers) (m : ℕ) (x y : Hdr) : Type 0 where
  pub files : k.files ≡ h.files
  pub others : (i : ℕ) → i ≢ m → IsSameSlot h k i
  pub says : k.says m ≡ Some y
  pub link : IsSameLink x y

-- what a slot says then
record SaysNow (k : Headers) (i : ℕ) (y : Hdr) : Type 0 where
  now : Hdr
  says : k.says i ≡ Some now
  link : IsSameLink y now

says_now : (h k : Headers) (m : ℕ) (x z : Hdr) (i : ℕ) (y : Hdr) → IsLastSet h k m x z → h.says m ≡ Some x → h.says i ≡ Some y → SaysNow k i y
says_now h k m x z i y set at says = by (same_or_not i m) where
  by : (i ≡ m) ⊎ (i ≢ m) → SaysNow k i y
  by (inl same) = record { now = z; says = ap k.says same ∙ set.says; link = subst (λ (w : Hdr). IsSameLink w z) (one_header x y (sym at ∙ ap h.says (sym same) ∙ says)) set.link }
  by (inr other) = record { now = y; says = (set.others i other).says ∙ says; link = same_link y }

pub lead_last : (g : Geometry) (h k : Headers) (n : ℕ) (f f' : Hdr) (is : List ℕ) (m : ℕ) (x y : Hdr) (cs : List ℕ) → IsLastSet h k m x y → h.says n ≡ Some f → k.says n ≡ Some f' → Lead g h n f is m x cs
    → Lead g k n f' is m y cs
lead_last g h k n f f' [] m x y cs set says now lead = (lead.0, one_header f' y (sym now ∙ ap k.says lead.0 ∙ set.says), lead.2)
lead_last g h k n f f' (i ∷ is) m x y cs set says now lead =
    let next = lead.2.1 in
    let says_i : h.says i ≡ Some lead.2.0 = ap h.says (sym lead.1) ∙ next.says in
    let end = lead_end g h i lead.2.0 is m x (drop header_most cs) says_i lead.2.2 in
    let other : n ≢ m = λ e. lead_apart g h n f i is m x cs m says lead end.has (sym e) in
    let here = set.others n other in
    let first : f ≡ f' = one_header f f' (sym says ∙ sym here.says ∙ now) in
    let there = says_now h k m x y i lead.2.0 set end.says says_i in
    let to = next.number.to in
    let files = set.files in
    let all : Lead g k n f (i ∷ is) m y cs = (
      full_same g h k n (take header_most cs) here.lists lead.0,
      lead.1,
      (
        there.now,
        record {
          number = record { from = next.number.from; to = omega (arith, to, files) };
          says = ap k.says lead.1 ∙ there.says;
          after = follows_same f lead.2.0 there.now there.link next.after;
        },
        lead_last g h k i lead.2.0 there.now is m x y (drop header_most cs) set says_i there.says lead.2.2,
      ),
    ) in
    subst (λ (z : Hdr). Lead g k n z (i ∷ is) m y cs) first all

-- ---- the first one changes, and another one is the last

-- of all slots that of n alone changes, in which the header y is then, with the same runs and the same link
pub record IsFirstSet (h k : Headers) (n : ℕ) (f y : Hdr) : Type 0 where
  pub files : k.files ≡ h.files
  pub others : (i : ℕ) → i ≢ n → IsSameSlot h k i
  pub lists : k.lists n ≡ h.lists n
  pub ext : y.ext ≡ f.ext
  pub ext_seq : y.ext_seq ≡ f.ext_seq
  pub seg : y.seg ≡ f.seg

follows_first : (f y x : Hdr) → y.ext ≡ f.ext → y.ext_seq ≡ f.ext_seq → y.seg ≡ f.seg → follows f x ≡ true → follows y x ≡ true
unfolding follows
follows_first f y x a b c e = ap (λ z. (x.num == z) && ((x.seq == y.ext_seq) && (x.seg == y.seg + 1))) a ∙ ap (λ z. (x.num == f.ext) && ((x.seq == z) && (x.seg == y.seg + 1))) b
    ∙ ap (λ z. (x.num == f.ext) && ((x.seq == f.ext_seq) && (x.seg == z + 1))) c ∙ e

pub lead_first : (g : Geometry) (h k : Headers) (n : ℕ) (f y : Hdr) (i : ℕ) (is : List ℕ) (m : ℕ) (x : Hdr) (cs : List ℕ) → IsFirstSet h k n f y → h.says n ≡ Some f → Lead g h n f (i ∷ is) m x cs
    → Lead g k n y (i ∷ is) m x cs
lead_first g h k n f y i is m x cs set says lead =
    let next = lead.2.1 in
    let to = next.number.to in
    let from = next.number.from in
    let files = set.files in
    let link : y.ext ≡ i = set.ext ∙ lead.1 in
    let apart : (j : ℕ) → Has (i ∷ is) j → IsSameSlot h k j = λ j t. set.others j (lead_apart g h n f i is m x cs j says lead t) in
    let ext = set.ext in (
      full_same g h k n (take header_most cs) set.lists lead.0,
      link,
      (
        lead.2.0,
        record {
          number = record { from = omega (arith, from, ext); to = omega (arith, to, files, ext) };
          says = ap k.says link ∙ (apart i (inl refl)).says ∙ ap h.says (sym lead.1) ∙ next.says;
          after = follows_first f y lead.2.0 set.ext set.ext_seq set.seg next.after;
        },
        lead_same g h k i lead.2.0 is m x (drop header_most cs) files apart lead.2.2,
      ),
    )

-- ---- one more header behind the last one, and fewer

-- the last one is full, and another one follows it
pub lead_more : (g : Geometry) (h : Headers) (n : ℕ) (f : Hdr) (is : List ℕ) (m : ℕ) (x : Hdr) (cs ds : List ℕ) (i : ℕ) (y : Hdr) → Lead g h n f is m x cs → IsFull g h m ds → x.ext ≡ i → IsNext h x y
    → Lead g h n f (is ++ i ∷ []) i y (cs ++ ds)
lead_more g h n f [] m x cs ds i y lead full link next =
    let all : take header_most (cs ++ ds) ≡ ds = ap (λ qs. take header_most (qs ++ ds)) lead.2 ∙ take_all header_most ds (let e = full.full in omega arith) in
    let none : drop header_most (cs ++ ds) ≡ [] = ap (λ qs. drop header_most (qs ++ ds)) lead.2 ∙ ap (drop header_most) (sym (append-nil ds)) ∙ drop_at ds [] header_most full.full in (
      subst (λ qs. IsFull g h n qs) (sym all) (subst (λ j. IsFull g h j ds) (sym lead.0) full),
      ap (λ (z : Hdr). z.ext) lead.1 ∙ link,
      (y, subst (λ (z : Hdr). IsNext h z y) (sym lead.1) next, (refl, refl, none)),
    )
lead_more g h n f (j ∷ is) m x cs ds i y lead full link next =
    let front : length (take 77 cs) ≡ 77 = lead.0.full in
    let took = length-take 77 cs in
    let long : 77 ≤ length cs = omega arith in (
      subst (λ qs. IsFull g h n qs) (sym (take-append-le 77 cs ds long)) lead.0,
      lead.1,
      (lead.2.0, lead.2.1, subst (λ qs. Lead g h j lead.2.0 (is ++ i ∷ []) i y qs) (sym (drop-append-le 77 cs ds long)) (lead_more g h j lead.2.0 is m x (drop header_most cs) ds i y lead.2.2 full link next)),
    )

-- the first k + 1 of them, which end with a header that is full
pub record HasFront (g : Geometry) (h : Headers) (n : ℕ) (f : Hdr) (is : List ℕ) (cs : List ℕ) (k : ℕ) : Type 0 where
  pub m : ℕ
  pub x : Hdr
  pub lead : Lead g h n f (take k is) m x (take (header_most * k) cs)
  pub full : IsFull g h m (take header_most (drop (header_most * k) cs))

pub lead_front : (g : Geometry) (h : Headers) (n : ℕ) (f : Hdr) (is : List ℕ) (m : ℕ) (x : Hdr) (cs : List ℕ) (k : ℕ) → k < length is → Lead g h n f is m x cs → HasFront g h n f is cs k
lead_front g h n f [] m x cs k lt lead = absurd (omega arith)
lead_front g h n f (i ∷ is) m x cs zero lt lead = record { m = n; x = f; lead = (refl, refl, refl); full = lead.0 }
lead_front g h n f (i ∷ is) m x cs (suc k) lt lead =
    let behind = lead_front g h i lead.2.0 is m x (drop header_most cs) k (omega arith) lead.2.2 in
    let front : length (take 77 cs) ≡ 77 = lead.0.full in
    let took = length-take 77 cs in
    let e : 77 * suc k ≡ 77 + 77 * k = omega arith in
    let taken : take 77 (take (77 * suc k) cs) ≡ take 77 cs = take-take 77 (77 * suc k) cs (omega arith) in
    let rest : drop 77 (take (77 * suc k) cs) ≡ take (77 * k) (drop 77 cs) = ap (λ z. drop 77 (take z cs)) e ∙ drop-take 77 (77 * k) cs in
    let far : drop (77 * suc k) cs ≡ drop (77 * k) (drop 77 cs) = ap (λ z. drop z cs) e ∙ sym (drop-drop (77 * k) 77 cs) in
    record {
      m = behind.m;
      x = behind.x;
      lead = (
        subst (λ qs. IsFull g h n qs) (sym taken) lead.0,
        lead.1,
        (lead.2.0, lead.2.1, subst (λ qs. Lead g h i lead.2.0 (take k is) behind.m behind.x qs) (sym rest) behind.lead),
      );
      full = subst (λ qs. IsFull g h behind.m (take 77 qs)) (sym far) behind.full;
    }
