-- Writes that are made one by one, and one that fails.
use Rattle.std.proofs.Common.{◌≡◌, ◌∙◌, ◌≤◌, ◌+◌, ◌⊎◌, inl, inr, ◌++◌, ℕ, zero, suc, true, false, List, [], ◌∷◌, Option, Some, None, Result, Ok, Err, length, take, slice_get, slice_set, refl, sym, ap, arith, length-append}
use Rattle.std.specs.Prelude.{OnOk, OnErr, IsErr}
use Rattle.std.proofs.lemmas.List.{take-append-le, take_all}
use Rattle.std.proofs.lemmas.Option.{slice_get_within}
use Rattle.std.proofs.Math.Seq.{take-append_seam}
use Rattle.base_words.specs.Fields.{Block}
use Rattle.base_words.specs.Faults.{Rose, HasCause}
use Rattle.base_words.specs.Lists.{written}
use Rattle.base_words.proofs.ListWrites.{length-written}
use Rattle.blk_drive.specs.declared.mirror.ImageFault.{ImageFault}
use Rattle.blk_drive.specs.Images.{told_set}
use Rattle.blk_drive.specs.Telling.{IsTold, told_as}
use Rattle.vol_records.specs.Making.{IsImageOf, IsMade, placed}

-- ---- what an image tells

as_told : (told : Option (List Block)) (bs : List Block) → IsTold told bs → told ≡ told_as told bs
as_told None bs h = refl
as_told (Some x) bs h = ap (λ (ys : List Block). Some ys) (sym h)

set_as : (t : Option (List Block)) (bs : List Block) (l : ℕ) (b : Block) → told_set (told_as t bs) l b ≡ told_as t (slice_set bs l b)
set_as None bs l b = refl
set_as (Some x) bs l b = refl

-- ---- lists

pub written_next : (ws : List (ℕ × Block)) (i : ℕ) (w : ℕ × Block) (bs : List Block) → slice_get ws i ≡ Some w → written (take (suc i) ws) bs ≡ slice_set (written (take i ws) bs) w.0 w.1
written_next [] i w bs at = absurd (cc at)
written_next (x ∷ xs) zero w bs at = let same : x ≡ w = cc at in ap (λ (y : ℕ × Block). slice_set bs y.0 y.1) same
written_next (x ∷ xs) (suc i) w bs at = written_next xs i w (slice_set bs x.0 x.1) at

pub placed_at : (ls : List ℕ) (bs : List Block) (i l : ℕ) (b : Block) → slice_get ls i ≡ Some l → slice_get bs i ≡ Some b → slice_get (placed ls bs) i ≡ Some (l, b)
placed_at [] bs i l b e f = absurd (cc e)
placed_at (x ∷ ls) [] i l b e f = absurd (cc f)
placed_at (x ∷ ls) (y ∷ bs) zero l b e f =
    let first : x ≡ l = cc e in
    let second : y ≡ b = cc f in
    ap (λ (k : ℕ). Some (k, y)) first ∙ ap (λ (z : Block). Some (l, z)) second
placed_at (x ∷ ls) (y ∷ bs) (suc i) l b e f = placed_at ls bs i l b e f

pub length-placed : (ls : List ℕ) (bs : List Block) → length bs ≤ length ls → length (placed ls bs) ≡ length bs
length-placed [] [] few = refl
length-placed [] (b ∷ bs) few = absurd (omega (arith, few))
length-placed (l ∷ ls) [] few = refl
length-placed (l ∷ ls) (b ∷ bs) few = ap suc (length-placed ls bs (omega (arith, few)))

pub at_end : (ws : List (ℕ × Block)) (w : ℕ × Block) → slice_get (ws ++ w ∷ []) (length ws) ≡ Some w
at_end [] w = refl
at_end (x ∷ ws) w = at_end ws w

-- ---- one after the other

-- so far these are made
pub record AreMade (ws : List (ℕ × Block)) (old now : List Block) (t u : Option (List Block)) (f g i : ℕ) : Type 0 where
  pub blocks : now ≡ written (take i ws) old
  pub told : IsTold t old → u ≡ told_as t now
  pub later : f ≤ g

pub none_made : (ws : List (ℕ × Block)) (bs : List Block) (t : Option (List Block)) (f : ℕ) → AreMade ws bs bs t t f f 0
none_made ws bs t f = record { blocks = refl; told = as_told t bs; later = omega arith }

-- one more is made
pub made_next : (ws : List (ℕ × Block)) (old now new : List Block) (t u v : Option (List Block)) (f g h i : ℕ) (w : ℕ × Block) → AreMade ws old now t u f g i → slice_get ws i ≡ Some w
    → new ≡ slice_set now w.0 w.1 → v ≡ told_set u w.0 w.1 → g ≤ h → AreMade ws old new t v f h (suc i)
made_next ws old now new t u v f g h i w a at is told later = record {
  blocks = is ∙ (ap (λ (x : List Block). slice_set x w.0 w.1) a.blocks ∙ sym (written_next ws i w old at));
  told = λ s. told ∙ (ap (λ x. told_set x w.0 w.1) (a.told s) ∙ (set_as t now w.0 w.1 ∙ ap (told_as t) (sym is)));
  later = (let x = a.later in omega (arith, x, later));
}

-- all are made
pub all_made : (ws : List (ℕ × Block)) (old now : List Block) (t u : Option (List Block)) (f g i : ℕ) (P : Type 0) → AreMade ws old now t u f g i → i ≡ length ws → (P → ⊥) → IsMade ws old now t u f g P
all_made ws old now t u f g i P a full well = record {
  count = i;
  within = omega (arith, full);
  made = a.blocks;
  whole = inl full;
  short = λ p. absurd (well p);
  later = a.later;
  cause = λ p. absurd (well p);
  image = λ s. record { count = i; there = a.told s ∙ ap (told_as t) a.blocks; few = inl refl };
}

-- the next one fails
pub next_failed : (ws : List (ℕ × Block)) (old now new : List Block) (t u v : Option (List Block)) (f g h i : ℕ) (w : ℕ × Block) (P : Type 0) → AreMade ws old now t u f g i → slice_get ws i ≡ Some w
    → new ≡ now → (v ≡ u) ⊎ (v ≡ told_set u w.0 w.1) → g ≤ h → Rose g h → P → IsMade ws old new t v f h P
next_failed ws old now new t u v f g h i w P a at same told later rose p =
    record {
      count = i;
      within = (let lt = slice_get_within ws i w at in omega (arith, lt));
      made = same ∙ a.blocks;
      whole = inr p;
      short = λ q. slice_get_within ws i w at;
      later = (let x = a.later in omega (arith, x, later));
      cause = λ q. (let x = a.later in omega (arith, x, rose));
      image = λ s. by_image s told;
    }
  where
    by_image : IsTold t old → (v ≡ u) ⊎ (v ≡ told_set u w.0 w.1) → IsImageOf ws old t v i P
    by_image s (inl e) = record { count = i; there = e ∙ (a.told s ∙ ap (told_as t) a.blocks); few = inl refl }
    by_image s (inr e) = record {
      count = i + 1;
      there = e ∙ (ap (λ x. told_set x w.0 w.1) (a.told s) ∙ (set_as t now w.0 w.1
          ∙ ap (told_as t) (ap (λ (x : List Block). slice_set x w.0 w.1) a.blocks ∙ (sym (written_next ws i w old at) ∙ ap (λ k. written (take k ws) old) (let z : suc i ≡ i + 1 = omega arith in z)))));
      few = inr (p, refl);
    }

-- all were made, where none failed
pub made_full : (ws : List (ℕ × Block)) (old now : List Block) (t u : Option (List Block)) (f g : ℕ) (P : Type 0) → IsMade ws old now t u f g P → (P → ⊥) → now ≡ written ws old
made_full ws old now t u f g P m well =
    m.made ∙ (ap (λ k. written (take k ws) old) (full m.whole) ∙ ap (λ (xs : List (ℕ × Block)). written xs old) (take_all (length ws) ws (omega arith)))
  where
    full : (m.count ≡ length ws) ⊎ P → m.count ≡ length ws
    full (inl e) = e
    full (inr p) = absurd (well p)

-- the first ones, where none of them failed, and more behind them
pub first_made : (ws vs : List (ℕ × Block)) (old now : List Block) (t u : Option (List Block)) (f g : ℕ) (P : Type 0) → IsMade ws old now t u f g P → (P → ⊥) → AreMade (ws ++ vs) old now t u f g (length ws)
first_made ws vs old now t u f g P m well = record {
  blocks = made_full ws old now t u f g P m well ∙ ap (λ (xs : List (ℕ × Block)). written xs old) (sym (take-append_seam ws vs));
  told = λ s. by_image (m.image s);
  later = m.later;
} where
  by_few : (c : ℕ) → u ≡ told_as t (written (take c ws) old) → (c ≡ m.count) ⊎ (P × (c ≡ m.count + 1)) → u ≡ told_as t now
  by_few c e (inl same) = e ∙ ap (told_as t) (ap (λ k. written (take k ws) old) same ∙ sym m.made)
  by_few c e (inr p) = absurd (well p.0)

  by_image : IsImageOf ws old t u m.count P → u ≡ told_as t now
  by_image i = by_few i.count i.there i.few

-- the first ones, where one of them failed, and more behind them
pub first_failed : (ws vs : List (ℕ × Block)) (old now : List Block) (t u : Option (List Block)) (f g : ℕ) (P Q : Type 0) → IsMade ws old now t u f g P → P → Q → IsMade (ws ++ vs) old now t u f g Q
first_failed ws vs old now t u f g P Q m p q = record {
  count = m.count;
  within = (let lt = m.short p in let len = length-append ws vs in omega (arith, lt, len));
  made = m.made ∙ front m.count (let lt = m.short p in omega (arith, lt));
  whole = inr q;
  short = λ r. (let lt = m.short p in let len = length-append ws vs in omega (arith, lt, len));
  later = m.later;
  cause = λ r. m.cause p;
  image = λ s. by_image (m.image s);
} where
  front : (k : ℕ) → k ≤ length ws → written (take k ws) old ≡ written (take k (ws ++ vs)) old
  front k le = ap (λ (xs : List (ℕ × Block)). written xs old) (sym (take-append-le k ws vs le))

  by_image : IsImageOf ws old t u m.count P → IsImageOf (ws ++ vs) old t u m.count Q
  by_image i = record { count = i.count; there = i.there ∙ ap (told_as t) (front i.count (within i.few)); few = more i.few } where
    within : (i.count ≡ m.count) ⊎ (P × (i.count ≡ m.count + 1)) → i.count ≤ length ws
    within (inl e) = let lt = m.short p in omega (arith, lt, e)
    within (inr e) = let lt = m.short p in let k = e.1 in omega (arith, lt, k)

    more : (i.count ≡ m.count) ⊎ (P × (i.count ≡ m.count + 1)) → (i.count ≡ m.count) ⊎ (Q × (i.count ≡ m.count + 1))
    more (inl e) = inl e
    more (inr e) = inr (q, e.1)

-- the same, where failure is told otherwise
pub made_as : (ws : List (ℕ × Block)) (old now : List Block) (t u : Option (List Block)) (f g : ℕ) (P Q : Type 0) → (P → Q) → (Q → P) → IsMade ws old now t u f g P → IsMade ws old now t u f g Q
made_as ws old now t u f g P Q to from m = record {
  count = m.count;
  within = m.within;
  made = m.made;
  whole = by_whole m.whole;
  short = λ q. m.short (from q);
  later = m.later;
  cause = λ q. m.cause (from q);
  image = λ s. by_image (m.image s);
} where
  by_whole : (m.count ≡ length ws) ⊎ P → (m.count ≡ length ws) ⊎ Q
  by_whole (inl e) = inl e
  by_whole (inr p) = inr (to p)

  by_few : (c : ℕ) → (c ≡ m.count) ⊎ (P × (c ≡ m.count + 1)) → (c ≡ m.count) ⊎ (Q × (c ≡ m.count + 1))
  by_few c (inl e) = inl e
  by_few c (inr e) = inr (to e.0, e.1)

  by_image : IsImageOf ws old t u m.count P → IsImageOf ws old t u m.count Q
  by_image i = record { count = i.count; there = i.there; few = by_few i.count i.few }

-- the last one, made or failed
pub last_made : (ws : List (ℕ × Block)) (w : ℕ × Block) (old mid new : List Block) (t u v : Option (List Block)) (f g h : ℕ) (r : Result (Unit {0}) ImageFault) → AreMade (ws ++ w ∷ []) old mid t u f g (length ws)
    → OnOk r (new ≡ slice_set mid w.0 w.1) → OnOk r (v ≡ told_set u w.0 w.1) → OnErr r (new ≡ mid) → OnErr r ((v ≡ u) ⊎ (v ≡ told_set u w.0 w.1)) → HasCause g h r → IsMade (ws ++ w ∷ []) old new t v f h (IsErr r)
last_made ws w old mid new t u v f g h (Ok x) a blocks image same failed cause =
    all_made (ws ++ w ∷ []) old new t v f h (suc (length ws)) (false ≡ true) (made_next (ws ++ w ∷ []) old mid new t u v f g h (length ws) w a (at_end ws w) blocks image cause.later)
    (let len = length-append ws (w ∷ []) in omega (arith, len)) (λ e. absurd (cc e))
last_made ws w old mid new t u v f g h (Err e) a blocks image same failed cause =
    next_failed (ws ++ w ∷ []) old mid new t u v f g h (length ws) w (true ≡ true) a (at_end ws w) same failed cause.later cause.failed refl

-- there are as many blocks as before
pub first_length : (ws : List (ℕ × Block)) (old now : List Block) (t u : Option (List Block)) (f g i : ℕ) → AreMade ws old now t u f g i → length now ≡ length old
first_length ws old now t u f g i a = ap length a.blocks ∙ length-written (take i ws) old

pub made_length : (ws : List (ℕ × Block)) (old now : List Block) (t u : Option (List Block)) (f g : ℕ) (P : Type 0) → IsMade ws old now t u f g P → length now ≡ length old
made_length ws old now t u f g P m = ap length m.made ∙ length-written (take m.count ws) old
