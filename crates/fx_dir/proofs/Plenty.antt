-- Entries with few enough bytes have room, whatever is left free at the end of each block.
use Rattle.std.proofs.Common.{◌≡◌, ◌⊎◌, ◌∙◌, ◌+◌, ◌*◌, ◌%◌, ◌≤◌, max, ℕ, zero, suc, Bool, true, false, cond, List, [], ◌∷◌, ◌++◌, Option, Some, None, Ok, leb, not, map, length, refl, ap, subst, inl, inr, arith}
use Rattle.std.specs.Str.{bytes_eq}
use Rattle.std.proofs.lemmas.Bool.Decides.{nat_tests}
use Rattle.base_words.specs.Fields.{Block}
use Rattle.base_words.specs.Packing.{padded, cost, size, unfilled, over}
use Rattle.fx_dir.specs.declared.RawEnt.{RawEnt}
use Rattle.fx_dir.specs.Entries.{before, has, fresh}
use Rattle.fx_dir.specs.Directory.{directory, entries_at}
use Rattle.fx_dir.specs.Moves.{inserted}
use Rattle.fx_dir.specs.Writing.{name_of}
use Rattle.fx_dir.proofs.Meeting.{met}
use Rattle.fx_dir.proofs.Finding.{went}
use Rattle.fx_dir.proofs.Greedy.{size-filter}
use Rattle.fx_dir.specs.Plenty.{bytes_of, longest_of, bytes_in, longest_in}
use Rattle.fx_dir.specs.Room.{is_none_left, has_room}
use Rattle.fx_dir.proofs.Counting.{none_over}

-- ---- an entry

-- what an entry of a name of this length takes in a record of its own
abbrev pub own : ℕ → ℕ
own n = 14 + (n + n % 2)

own-rises : (a b : ℕ) → a ≤ b → own a ≤ own b
own-rises a b h = omega arith

cost-own : (last : Option (List ℕ)) (name : List ℕ) → cost last name ≤ own (length name)
unfolding cost
cost-own None name = omega arith
cost-own (Some l) name = by_name (bytes_eq l name) where
  by_name : (t : Bool) → cond t 8 (14 + padded name) ≤ 14 + padded name
  by_name true = omega arith
  by_name false = omega arith

cost-first : (name : List ℕ) → cost None name ≡ own (length name)
unfolding cost
cost-first name = refl

-- ---- packing

-- What a block with `used` bytes in use leaves of ys, none of which has a longer name than n or takes more than m. Where some
-- are left, `511 - m` bytes or more are in use; the first that is left begins a record, whatever is in front of it.
record Leaves (n m used : ℕ) (last : Option (List ℕ)) (ys zs : List RawEnt) : Type 0 where
  longest : longest_of zs ≤ n
  less : (zs ≡ []) ⊎ (bytes_of zs + 511 ≤ used + size name_of last ys + m)

leaves : (n m : ℕ) (last : Option (List ℕ)) (used : ℕ) (ys : List RawEnt) → m ≡ own n → longest_of ys ≤ n → Leaves n m used last ys (unfilled name_of last used ys)
leaves n m last used [] most h = record { longest = h; less = inl refl }
leaves n m last used (e ∷ es) most h = by_fit (leb (used + cost last e.name) 510) refl (leaves n m (Some e.name) (used + cost last e.name) es most (omega arith)) where
  by_fit : (t : Bool) → leb (used + cost last e.name) 510 ≡ t → Leaves n m (used + cost last e.name) (Some e.name) es (unfilled name_of (Some e.name) (used + cost last e.name) es)
      → Leaves n m used last (e ∷ es) (cond t (unfilled name_of (Some e.name) (used + cost last e.name) es) (e ∷ es))
  by_fit true t ih = record {
    longest = ih.longest;
    less = elim ih.less [
      | inl z ↦ inl z
      | inr r ↦ inr (omega arith)
    ];
  }
  by_fit false t ih =
      let le : length e.name ≤ n = omega arith in
      let r = own-rises (length e.name) n le in
      let c = cost-first e.name in
      let o : 511 ≤ used + cost last e.name = grind (arith, nat_tests) in
      record { longest = h; less = inr (omega arith) }

packs : (k free n m : ℕ) (ys : List RawEnt) → m ≡ own n → free + m ≡ 511 → longest_of ys ≤ n → bytes_of ys ≤ k * free → over name_of k ys ≡ []
packs zero free n m [] most r h b = refl
packs zero free n m (e ∷ es) most r h b = let c = cost-first e.name in absurd (omega arith)
packs (suc k) free n m ys most r h b =
    let l = leaves n m None 0 ys most h in
    elim l.less [
      | inl z ↦ ap (over name_of k) z ∙ none_over k
      | inr s ↦ packs k free n m (unfilled name_of None 0 ys) most r l.longest (omega arith)
    ]

-- ---- with the new entry among them

-- the new entry may begin a record, and the one behind it too
inserted-bytes : (n : ℕ) (e : RawEnt) (last : Option (List ℕ)) (es : List RawEnt) → length e.name ≤ n → longest_of es ≤ n
    → size name_of last (inserted e es) ≤ size name_of last es + 2 * own n
inserted-bytes n e last [] le h = let c = cost-own last e.name in let r = own-rises (length e.name) n le in omega arith
inserted-bytes n e last (x ∷ es) le h = by_place (before e x) (inserted-bytes n e (Some x.name) es le (omega arith)) where
  by_place : (t : Bool) → size name_of (Some x.name) (inserted e es) ≤ size name_of (Some x.name) es + 2 * own n
      → size name_of last (cond t (e ∷ x ∷ es) (x ∷ inserted e es)) ≤ (cost last x.name + size name_of (Some x.name) es) + 2 * own n
  by_place true ih =
      let c = cost-own last e.name in
      let r = own-rises (length e.name) n le in
      let d = cost-own (Some e.name) x.name in
      let lx : length x.name ≤ n = omega arith in
      let s = own-rises (length x.name) n lx in
      omega arith
  by_place false ih = omega arith

inserted-longest : (e : RawEnt) (es : List RawEnt) → longest_of (inserted e es) ≡ max (length e.name) (longest_of es)
inserted-longest e [] = refl
inserted-longest e (x ∷ es) = by_place (before e x) (inserted-longest e es) where
  by_place : (t : Bool) → longest_of (inserted e es) ≡ max (length e.name) (longest_of es) → longest_of (cond t (e ∷ x ∷ es) (x ∷ inserted e es)) ≡ max (length e.name) (max (length x.name) (longest_of es))
  by_place true ih = refl
  by_place false ih = omega arith

plenty : (k free n : ℕ) (e : RawEnt) (es : List RawEnt) → free + own n ≡ 511 → max (length e.name) (longest_of es) ≤ n → bytes_of es + 2 * own n ≤ k * free → has_room k e es ≡ true
unfolding has_room
plenty k free n e es r h b =
    let bytes = inserted-bytes n e None es (omega arith) (omega arith) in
    let longest = inserted-longest e es in
    ap is_none_left (packs k free n (own n) (inserted e es) refl r (omega arith) (omega arith))

-- ---- the entries of a directory are some of its blocks'

pub bytes-more : (last : Option (List ℕ)) (xs ys : List RawEnt) → size name_of last (xs ++ ys) ≤ size name_of last xs + bytes_of ys
bytes-more last [] [] = omega arith
bytes-more last [] (y ∷ ys) = let c = cost-own last y.name in let d = cost-first y.name in omega arith
bytes-more last (x ∷ xs) ys = let ih = bytes-more (Some x.name) xs ys in omega arith

pub longest-more : (xs ys : List RawEnt) → longest_of (xs ++ ys) ≡ max (longest_of xs) (longest_of ys)
longest-more [] ys = omega arith
longest-more (x ∷ xs) ys = let ih = longest-more xs ys in omega arith

fresh-longest : (d es : List RawEnt) → longest_of (fresh d es) ≤ longest_of es
fresh-longest d [] = omega arith
fresh-longest d (e ∷ es) = by_has (has d e) (fresh-longest d es) where
  by_has : (t : Bool) → longest_of (fresh d es) ≤ longest_of es → longest_of (cond (not t) (e ∷ fresh d es) (fresh d es)) ≤ max (length e.name) (longest_of es)
  by_has true ih = omega arith
  by_has false ih = omega arith

pub record IsWithin (bytes longest : ℕ) (es : List RawEnt) : Type 0 where
  pub bytes_within : bytes_of es ≤ bytes
  pub longest_within : longest_of es ≤ longest

met-within : (d : List RawEnt) (bs : List Block) → IsWithin (bytes_of d + bytes_in bs) (max (longest_of d) (longest_in bs)) (met d (map entries_at bs))
met-within d [] = record { bytes_within = omega arith; longest_within = omega arith }
met-within d (b ∷ bs) =
    let g = entries_at b in
    let ih = met-within (d ++ fresh d g) bs in
    let f = size-filter (λ e. not (has d e)) None g in
    let few : bytes_of (fresh d g) ≤ bytes_of g = f in
    let l = fresh-longest d g in
    let m = bytes-more None d (fresh d g) in
    let n = longest-more d (fresh d g) in
    record { bytes_within = omega arith; longest_within = omega arith }

directory-within : (bs : List Block) (es : List RawEnt) → directory bs ≡ Ok es → IsWithin (bytes_in bs) (longest_in bs) es
directory-within bs es h =
    let all = met-within [] bs in
    let own : IsWithin (bytes_in bs) (longest_in bs) (met [] (map entries_at bs)) = record { bytes_within = omega arith; longest_within = omega arith } in
    subst (IsWithin (bytes_in bs) (longest_in bs)) (went 1 [] bs es refl h).entries own

pub directory-plenty : (k free n : ℕ) (e : RawEnt) (bs : List Block) (es : List RawEnt) → directory bs ≡ Ok es → free + own n ≡ 511 → max (length e.name) (longest_in bs) ≤ n → bytes_in bs + 2 * own n ≤ k * free
    → has_room k e es ≡ true
directory-plenty k free n e bs es read r h b = let w = directory-within bs es read in plenty k free n e es r (omega arith) (omega arith)
