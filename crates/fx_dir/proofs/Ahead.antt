-- Packings that begin with the same blocks.
use Rattle.std.proofs.Common.{◌≡◌, ◌∙◌, ◌+◌, ◌-◌, ◌≤◌, ◌<◌, ◌++◌, not, Bool, true, false, ℕ, zero, suc, List, [], ◌∷◌, Option, Some, None, take, drop, map, length, slice_index_or, refl, sym, ap, subst, arith, append_assoc, take-append-drop, length-append, length-drop, leb, cond, if◌then◌else◌}
use Rattle.std.specs.List.{position_or_len}
use Rattle.std.proofs.lemmas.List.{drop-drop}
use Rattle.base_words.specs.Fields.{Block}
use Rattle.base_words.specs.Packing.{cost, filled, unfilled, pack, over}
use Rattle.fx_dir.specs.declared.RawEnt.{RawEnt}
use Rattle.fx_dir.specs.Lists.{Each, joined}
use Rattle.fx_dir.specs.Entries.{before, has}
use Rattle.fx_dir.specs.Moves.{place, inserted}
use Rattle.fx_dir.specs.Pieces.{IsAhead}
use Rattle.fx_dir.specs.Writing.{IsRanged, name_of, block_of}
use Rattle.fx_dir.proofs.Cover.{each-append}
use Rattle.fx_dir.proofs.Finding.{map-join}
use Rattle.fx_dir.proofs.Greedy.{pack-parts, pack-length}
use Rattle.fx_dir.proofs.Groups.{none-has}
use Rattle.fx_dir.proofs.Moving.{insert-spot}

-- ---- one block more

pub pack-last : (m : ℕ) (es : List RawEnt) → pack name_of (suc m) es ≡ pack name_of m es ++ filled name_of None 0 (over name_of m es) ∷ []
pack-last zero es = refl
pack-last (suc m) es = λ i. filled name_of None 0 es ∷ pack-last m (unfilled name_of None 0 es) i

pub over-last : (m : ℕ) (es : List RawEnt) → over name_of (suc m) es ≡ unfilled name_of None 0 (over name_of m es)
over-last zero es = refl
over-last (suc m) es = over-last m (unfilled name_of None 0 es)

module _ (more : List RawEnt) where
  -- where an entry had no room, what comes behind it does not matter
  filled-more : (last : Option (List ℕ)) (used : ℕ) (es : List RawEnt) → 0 < length (unfilled name_of last used es)
      → (filled name_of last used (es ++ more) ≡ filled name_of last used es) × (unfilled name_of last used (es ++ more) ≡ unfilled name_of last used es ++ more)
  filled-more last used [] h = absurd (omega arith)
  filled-more last used (e ∷ es) h = by_test (leb (used + cost last e.name) 510) (filled-more (Some e.name) (used + cost last e.name) es) h where
    by_test : (t : Bool)
        → (0 < length (unfilled name_of (Some e.name) (used + cost last e.name) es)
        → (filled name_of (Some e.name) (used + cost last e.name) (es ++ more) ≡ filled name_of (Some e.name) (used + cost last e.name) es) × (unfilled name_of (Some e.name) (used + cost last e.name) (es ++ more) ≡ unfilled name_of (Some e.name) (used + cost last e.name) es ++ more))
        → 0 < length (if t then unfilled name_of (Some e.name) (used + cost last e.name) es else e ∷ es)
        → ((if t then e ∷ filled name_of (Some e.name) (used + cost last e.name) (es ++ more) else []) ≡ (if t then e ∷ filled name_of (Some e.name) (used + cost last e.name) es else []))
        × ((if t then unfilled name_of (Some e.name) (used + cost last e.name) (es ++ more) else e ∷ (es ++ more)) ≡ (if t then unfilled name_of (Some e.name) (used + cost last e.name) es else e ∷ es) ++ more)
    by_test true ih k = let r = ih k in (ap (λ t. e ∷ t) r.0, r.1)
    by_test false ih k = (refl, refl)

pub ahead-none : (count : ℕ) (front : List RawEnt) → IsAhead count front 0 front
ahead-none count front = λ more. let n : count - 0 ≡ count = omega arith in (ap (λ k. pack name_of k (front ++ more)) (sym n), ap (λ k. over name_of k (front ++ more)) (sym n))

pub ahead-more : (count m next : ℕ) (front rest left : List RawEnt) → m < count → next ≡ suc m → over name_of m front ≡ rest → left ≡ unfilled name_of None 0 rest → 0 < length left → IsAhead count front m rest → IsAhead count front next left
ahead-more count m next front rest left h n o l some ahead = λ more.
    let a = ahead more in
    let s : count - m ≡ suc (count - next) = omega arith in
    let f = filled-more more None 0 rest (subst (λ t. 0 < length t) l some) in
    let p : pack name_of (count - m) (rest ++ more) ≡ filled name_of None 0 rest ∷ pack name_of (count - next) (left ++ more) =
    ap (λ k. pack name_of k (rest ++ more)) s ∙ (λ i. f.0 i ∷ pack name_of (count - next) ((f.1 ∙ ap (λ t. t ++ more) (sym l)) i)) in
    let q : over name_of (count - m) (rest ++ more) ≡ over name_of (count - next) (left ++ more) =
    ap (λ k. over name_of k (rest ++ more)) s ∙ ap (over name_of (count - next)) (f.1 ∙ ap (λ t. t ++ more) (sym l)) in
    let g : pack name_of next front ≡ pack name_of m front ++ filled name_of None 0 rest ∷ [] = ap (λ k. pack name_of k front) n ∙ pack-last m front ∙ ap (λ t. pack name_of m front ++ filled name_of None 0 t ∷ []) o in
    (a.0 ∙ ap (λ t. pack name_of m front ++ t) p ∙ sym (append_assoc (pack name_of m front) (filled name_of None 0 rest ∷ []) (pack name_of (count - next) (left ++ more))) ∙ ap (λ t. t ++ pack name_of (count - next) (left ++ more)) (sym g), a.1 ∙ q)

-- these blocks are those that the first entries of `front` fill, of which so many stand in them
pub record Fills (count : ℕ) (front : List RawEnt) (blocks : List Block) (entries : ℕ) : Type 0 where
  pub few : length blocks ≤ count
  pub within : entries ≤ length front
  pub packed : blocks ≡ map block_of (pack name_of (length blocks) front)
  pub ranged : Each (λ g. Each IsRanged g) (pack name_of (length blocks) front)
  pub left : over name_of (length blocks) front ≡ drop entries front
  pub ahead : IsAhead count front (length blocks) (drop entries front)

pub fills-none : (count : ℕ) (front : List RawEnt) (blocks : List Block) → blocks ≡ [] → Fills count front blocks 0
fills-none count front blocks e = subst (λ bs. Fills count front bs 0) (sym e) (record { few = omega arith; within = omega arith; packed = refl; ranged = tt; left = refl; ahead = ahead-none count front })

module _ (count n : ℕ) (front : List RawEnt) (blocks : List Block) (entries : ℕ) (group : List RawEnt) (f : Fills count front blocks entries) where
  abbrev behind : List RawEnt
  behind = drop entries front

  pub fills-more : length blocks < count → n < length behind → group ≡ filled name_of None 0 behind → drop n behind ≡ unfilled name_of None 0 behind → Each IsRanged group → (more : List Block) → more ≡ blocks ++ block_of group ∷ [] → Fills count front more (entries + n)
  fills-more room some g u ranged more e =
      let m = length blocks in
      let long : length more ≡ suc m = ap length e ∙ length-append blocks (block_of group ∷ []) ∙ omega arith in
      let left : drop (entries + n) front ≡ unfilled name_of None 0 behind = sym (drop-drop n entries front) ∙ u in
      let last : pack name_of (length more) front ≡ pack name_of m front ++ group ∷ [] = ap (λ k. pack name_of k front) long ∙ pack-last m front ∙ ap (λ t. pack name_of m front ++ filled name_of None 0 t ∷ []) f.left ∙ ap (λ t. pack name_of m front ++ t ∷ []) (sym g) in
      let within = f.within in
      record {
        few = omega arith;
        within = omega (arith, length-drop entries front);
        packed = e ∙ ap (λ t. t ++ block_of group ∷ []) f.packed ∙ sym (map-join block_of (pack name_of m front) (group ∷ [])) ∙ ap (map block_of) (sym last);
        ranged = subst (λ t. Each (λ g. Each IsRanged g) t) (sym last) (each-append (λ g. Each IsRanged g) (pack name_of m front) (group ∷ []) f.ranged (ranged, tt));
        left = ap (λ k. over name_of k front) long ∙ over-last m front ∙ ap (unfilled name_of None 0) f.left ∙ sym left;
        ahead = ahead-more count m (length more) front behind (drop (entries + n) front) room long f.left left (let d = drop-drop n entries front in omega (arith, length-drop entries front, length-drop (entries + n) front)) f.ahead;
      }

-- ---- one entry more

drop-front : {X : Type 0} (a : ℕ) (xs ys : List X) → a ≤ length xs → drop a (xs ++ ys) ≡ drop a xs ++ ys
drop-front zero xs ys h = refl
drop-front (suc a) [] ys h = absurd (omega arith)
drop-front (suc a) (x ∷ xs) ys h = drop-front a xs ys (omega arith)

-- an entry that comes behind the first of them is put in behind them
inserted-behind : (e : RawEnt) (a : ℕ) (es : List RawEnt) → a ≤ position_or_len (λ x. before e x) es → inserted e (drop a es) ≡ drop a (inserted e es)
inserted-behind e zero es h = refl
inserted-behind e (suc a) [] h = absurd (omega arith)
inserted-behind e (suc a) (x ∷ es) h = by_test (before e x) (inserted-behind e a es) h where
  by_test : (t : Bool) → (a ≤ position_or_len (λ x. before e x) es → inserted e (drop a es) ≡ drop a (inserted e es)) → suc a ≤ cond (not t) (1 + position_or_len (λ x. before e x) es) 0
      → inserted e (drop a es) ≡ drop (suc a) (if t then e ∷ x ∷ es else x ∷ inserted e es)
  by_test true ih k = absurd (omega arith)
  by_test false ih k = ih (omega arith)

has-left : (e : RawEnt) (xs ys : List RawEnt) → has (xs ++ ys) e ≡ false → has xs e ≡ false
has-left e [] ys h = refl
has-left e (x ∷ xs) ys h = let p = none-has e x (xs ++ ys) h in rw (p.0) (has-left e xs ys p.1)

has-right : (e : RawEnt) (xs ys : List RawEnt) → has (xs ++ ys) e ≡ false → has ys e ≡ false
has-right e [] ys h = h
has-right e (x ∷ xs) ys h = has-right e xs ys (none-has e x (xs ++ ys) h).1

groups-lack : (e : RawEnt) (gs : List (List RawEnt)) → has (joined gs) e ≡ false → Each (λ g. has g e ≡ false) gs
groups-lack e [] h = tt
groups-lack e (g ∷ gs) h = (has-left e g (joined gs) h, groups-lack e gs (has-right e g (joined gs) h))

place-behind : (e : RawEnt) (gs hs : List (List RawEnt)) → Each (λ g. has g e ≡ false) gs → place e (gs ++ hs) ≡ length gs + place e hs
place-behind e [] hs n = omega arith
place-behind e (g ∷ gs) hs n = rw (n.0) (let ih = place-behind e gs hs n.1 in omega arith)

index-behind : {X : Type 0} (xs ys : List X) (i : ℕ) (d : X) → slice_index_or (xs ++ ys) (length xs + i) d ≡ slice_index_or ys i d
index-behind [] ys i d = ap (λ n. slice_index_or ys n d) (omega arith)
index-behind (x ∷ xs) ys i d = let n : length (x ∷ xs) + i ≡ suc (length xs + i) = omega arith in rw n (index-behind xs ys i d)

module _ (count m a : ℕ) (e : RawEnt) (es : List RawEnt) where
  abbrev pub spot : ℕ
  spot = position_or_len (λ x. before e x) es

  -- the first m blocks are those of the entries in front of the new one, of which a stand in them
  pub record Shares : Type 0 where
    pub within : a ≤ length (take spot es)
    pub behind : a ≤ spot
    pub ahead : IsAhead count (take spot es) m (drop a (take spot es))

  take-short : {X : Type 0} (n : ℕ) (xs : List X) → length (take n xs) ≤ n
  take-short zero xs = omega arith
  take-short (suc n) [] = omega arith
  take-short (suc n) (x ∷ xs) = let h = take-short n xs in omega arith

  pub shares : (n : ℕ) (front : List RawEnt) → n ≡ spot → front ≡ take n es → a ≤ length front → IsAhead count front m (drop a front) → Shares
  shares n front k f h ahead =
      let t : front ≡ take spot es = f ∙ ap (λ j. take j es) k in
      let w : a ≤ length (take spot es) = subst (λ xs. a ≤ length xs) t h in
      record { within = w; behind = (let l = take-short spot es in omega arith); ahead = subst (λ xs. IsAhead count xs m (drop a xs)) t ahead }

  module _ (s : Shares) where
    whole : take spot es ++ drop spot es ≡ es
    whole = take-append-drop spot es

    rest : drop a (take spot es) ++ drop spot es ≡ drop a es
    rest = sym (drop-front a (take spot es) (drop spot es) s.within) ∙ ap (drop a) whole

    all : inserted e es ≡ take spot es ++ e ∷ drop spot es
    all = sym (insert-spot e es)

    all_rest : drop a (take spot es) ++ e ∷ drop spot es ≡ inserted e (drop a es)
    all_rest = sym (drop-front a (take spot es) (e ∷ drop spot es) s.within) ∙ ap (drop a) (sym all) ∙ sym (inserted-behind e a es s.behind)

    pub pack-before : pack name_of count es ≡ pack name_of m (take spot es) ++ pack name_of (count - m) (drop a es)
    pack-before = ap (pack name_of count) (sym whole) ∙ (s.ahead (drop spot es)).0 ∙ ap (λ t. pack name_of m (take spot es) ++ pack name_of (count - m) t) rest

    pub pack-after : pack name_of count (inserted e es) ≡ pack name_of m (take spot es) ++ pack name_of (count - m) (inserted e (drop a es))
    pack-after = ap (pack name_of count) all ∙ (s.ahead (e ∷ drop spot es)).0 ∙ ap (λ t. pack name_of m (take spot es) ++ pack name_of (count - m) t) all_rest

    pub over-after : over name_of count (inserted e es) ≡ over name_of (count - m) (inserted e (drop a es))
    over-after = ap (over name_of count) all ∙ (s.ahead (e ∷ drop spot es)).1 ∙ ap (over name_of (count - m)) all_rest

    module _ (absent : has es e ≡ false) where
      lacks : Each (λ g. has g e ≡ false) (pack name_of m (take spot es))
      lacks =
          let front : has (take spot es) e ≡ false = has-left e (take spot es) (drop spot es) (ap (λ t. has t e) whole ∙ absent) in
          groups-lack e (pack name_of m (take spot es)) (has-left e (joined (pack name_of m (take spot es))) (over name_of m (take spot es)) (ap (λ t. has t e) (pack-parts m (take spot es)) ∙ front))

      pub place-after : place e (pack name_of count (inserted e es)) ≡ m + place e (pack name_of (count - m) (inserted e (drop a es)))
      place-after = ap (place e) pack-after ∙ place-behind e (pack name_of m (take spot es)) (pack name_of (count - m) (inserted e (drop a es))) lacks ∙ ap (λ n. n + place e (pack name_of (count - m) (inserted e (drop a es)))) (pack-length m (take spot es))

      pub group-after : slice_index_or (pack name_of count (inserted e es)) (place e (pack name_of count (inserted e es))) [] ≡ slice_index_or (pack name_of (count - m) (inserted e (drop a es))) (place e (pack name_of (count - m) (inserted e (drop a es)))) []
      group-after =
          let gs = pack name_of m (take spot es) in
          let hs = pack name_of (count - m) (inserted e (drop a es)) in
          (λ i. slice_index_or (pack-after i) ((place-after ∙ ap (λ n. n + place e hs) (sym (pack-length m (take spot es)))) i) []) ∙ index-behind gs hs (place e hs) []

pub place-most : (e : RawEnt) (gs : List (List RawEnt)) → place e gs ≤ length gs
place-most e [] = omega arith
place-most e (g ∷ gs) = elim (has g e) as (λ q. (if q then 0 else suc (place e gs)) ≤ suc (length gs)) [ true ↦ omega arith | false ↦ (let h = place-most e gs in omega arith) ]
