-- Ways and steps, one after another.
use Rattle.std.proofs.Common.{◌≡◌, ◌≤◌, ◌⊎◌, ◌++◌, ◌-◌, ◌+◌, ◌<◌, ◌∙◌, zero, suc, ℕ, List, [], ◌∷◌, Option, Some, None, Result, Ok, Err, ap, All, get_or, length, take, slice_get, slice_set, refl, sym, subst, inl, inr, arith}
use Rattle.std.specs.Prelude.{slice_index_or}
use Rattle.std.proofs.lemmas.Bool.{cases_lt}
use Rattle.std.proofs.lemmas.Option.{slice_get-get_or}
use Rattle.base_words.specs.Fields.{Block}
use Rattle.base_words.specs.Faults.{Rose}
use Rattle.fx_dir.specs.declared.Move.{Move}
use Rattle.blk_drive.specs.Images.{told_set}
use Rattle.plain_cat.specs.declared.cat.Cat.{Cat}
use Rattle.base_words.specs.Lists.{written}
use Rattle.base_words.proofs.ListWrites.{written_joined}
use Rattle.vol_mends.specs.Mends.{Mends}
use Rattle.vol_rebuild.specs.declared.fault.StepFault.{StepFault}
use Rattle.vol_rebuild.specs.declared.fault.StepFault.TheVariants.{ImageFault, NoMemory}
use Rattle.vol_rebuild.specs.Places.{moved_at, written_at}
use Rattle.vol_rebuild.specs.Ways.{IsWay, IsAhead, IsStep}
use Rattle.blk_drive.specs.Telling.{IsTold as Shows}
use Rattle.blk_drive.specs.Telling.{told_as}

-- ---- ways

-- what holds after each number of the writes
through : (R : List Block → Type 0) (ws vs : List (ℕ × Block)) (bs : List Block) → ((n : ℕ) → R (written (take n ws) bs)) → ((n : ℕ) → R (written (take n vs) (written ws bs))) → (n : ℕ) → R (written (take n (ws ++ vs)) bs)
through R [] vs bs f g n = g n
through R (w ∷ ws) vs bs f g zero = f 0
through R (w ∷ ws) vs bs f g (suc n) = through R ws vs (slice_set bs w.0 w.1) (λ m. f (suc m)) g n

none_written : (k : ℕ) (bs : List Block) → written (take k []) bs ≡ bs
none_written zero bs = refl
none_written (suc k) bs = refl

all_written : (R : List Block → Type 0) (ws : List (ℕ × Block)) (bs : List Block) → ((n : ℕ) → R (written (take n ws) bs)) → R (written ws bs)
all_written R [] bs f = f 0
all_written R (w ∷ ws) bs f = all_written R ws (slice_set bs w.0 w.1) (λ n. f (suc n))

pub way_none : (bs : List Block) → IsWay bs bs
way_none bs = record { writes = []; made = refl; mends = λ k z m. subst (λ (x : List Block). Mends x z) (sym (none_written k bs)) m }

pub way_one : (bs : List Block) (l : ℕ) (b : Block) → ((z : Cat) → Mends bs z → Mends (slice_set bs l b) z) → IsWay bs (slice_set bs l b)
way_one bs l b f = record { writes = (l, b) ∷ []; made = refl; mends = λ k z m. each k z m } where
  each : (k : ℕ) (z : Cat) → Mends bs z → Mends (written (take k ((l, b) ∷ [])) bs) z
  each zero z m = m
  each (suc k) z m = subst (λ (x : List Block). Mends x z) (sym (none_written k (slice_set bs l b))) (f z m)

-- what the last blocks mend to
pub way_mends : (a b : List Block) → IsWay a b → (z : Cat) → Mends a z → Mends b z
way_mends a b w z m = subst (λ (x : List Block). Mends x z) (sym w.made) (all_written (λ x. Mends x z) w.writes a (λ n. w.mends n z m))

pub way_on : (a b c : List Block) → IsWay a b → IsWay b c → IsWay a c
way_on a b c w v = record {
  writes = w.writes ++ v.writes;
  made = v.made ∙ sym (written_joined w.writes v.writes a ∙ (λ i. written v.writes (sym w.made i)));
  mends = λ k z m. through (λ x. Mends x z) w.writes v.writes a (λ n. w.mends n z m)
      (λ n. subst (λ (x : List Block). Mends (written (take n v.writes) x) z) w.made (v.mends n z (way_mends a b w z m))) k;
}

-- ---- steps

as_told : (told : Option (List Block)) (bs : List Block) → Shows told bs → told ≡ told_as told bs
as_told None bs h = refl
as_told (Some x) bs h = λ i. Some (sym h i)

told_shows : (told : Option (List Block)) (bs : List Block) → Shows (told_as told bs) bs
told_shows None bs = tt
told_shows (Some x) bs = refl

told_twice : (told : Option (List Block)) (a b : List Block) → told_as (told_as told a) b ≡ told_as told b
told_twice None a b = refl
told_twice (Some x) a b = refl

pub step_none : (bs : List Block) (told : Option (List Block)) (f : ℕ) (Failed : Type 0) → (Failed → ⊥) → IsStep bs bs told told f f Failed
step_none bs told f Failed none = record { way = way_none bs; later = omega arith; cause = λ h. absurd (none h); image = λ s. inl (as_told told bs s) }

-- a step that ended well, and then another one
pub step_on : (a b c : List Block) (t u v : Option (List Block)) (f g h : ℕ) (P Q : Type 0) → (P → ⊥) → IsStep a b t u f g P → IsStep b c u v g h Q → IsStep a c t v f h Q
step_on a b c t u v f g h P Q well s r = record {
  way = way_on a b c s.way r.way;
  later = (let x = s.later in let y = r.later in omega arith);
  cause = λ q. (let rose = r.cause q in let x = s.later in further f g h x rose);
  image = λ shown. by_first shown (s.image shown);
} where
  further : (f g h : ℕ) → f ≤ g → Rose g h → Rose f h
  further f g h le rose = omega (arith, rose)

  ahead : u ≡ told_as t b → IsAhead u v b c → IsAhead t v a c
  ahead e k = record { place = k.place; block = k.block; there = k.there ∙ ((λ i. told_as (e i) (slice_set c k.place k.block)) ∙ told_twice t b (slice_set c k.place k.block)); mends = λ z m. k.mends z (way_mends a b s.way z m) }

  by_second : u ≡ told_as t b → (v ≡ told_as u c) ⊎ (Q × IsAhead u v b c) → (v ≡ told_as t c) ⊎ (Q × IsAhead t v a c)
  by_second e (inl same) = inl (same ∙ ((λ i. told_as (e i) c) ∙ told_twice t b c))
  by_second e (inr k) = inr (k.0, ahead e k.1)

  by_first : Shows t a → (u ≡ told_as t b) ⊎ (P × IsAhead t u a b) → (v ≡ told_as t c) ⊎ (Q × IsAhead t v a c)
  by_first shown (inl e) = by_second e (r.image (subst (λ (x : Option (List Block)). Shows x b) (sym e) (told_shows t b)))
  by_first shown (inr k) = absurd (well k.0)

-- the same step, where its fault is told otherwise
pub step_as : (a b : List Block) (t u : Option (List Block)) (f g : ℕ) (P Q : Type 0) → (P → Q) → (Q → P) → IsStep a b t u f g P → IsStep a b t u f g Q
step_as a b t u f g P Q to from s = record { way = s.way; later = s.later; cause = λ q. s.cause (from q); image = λ shown. told (s.image shown) } where
  told : (u ≡ told_as t b) ⊎ (P × IsAhead t u a b) → (u ≡ told_as t b) ⊎ (Q × IsAhead t u a b)
  told (inl e) = inl e
  told (inr k) = inr (to k.0, k.1)

-- ---- one write

told_put : (t u : Option (List Block)) (bs : List Block) (l : ℕ) (b : Block) → Shows t bs → u ≡ told_set t l b → u ≡ told_as t (slice_set bs l b)
told_put None u bs l b shown e = e
told_put (Some x) u bs l b shown e = e ∙ (λ i. Some (slice_set (sym shown i) l b))

told_same : (t u : Option (List Block)) (bs : List Block) → Shows t bs → u ≡ t → u ≡ told_as t bs
told_same t u bs shown e = e ∙ as_told t bs shown

-- a write
pub wrote : (bs new : List Block) (l : ℕ) (b : Block) (t u : Option (List Block)) (f g : ℕ) (P : Type 0) → ((z : Cat) → Mends bs z → Mends (slice_set bs l b) z)
    → new ≡ slice_set bs l b → u ≡ told_set t l b → f ≤ g → (P → ⊥) → IsStep bs new t u f g P
wrote bs new l b t u f g P mends is told later well =
    record {
      way = subst (λ (x : List Block). IsWay bs x) (sym is) (way_one bs l b mends);
      later = later;
      cause = λ p. absurd (well p);
      image = λ s. inl (told_put t u bs l b s told ∙ (λ i. told_as t (sym is i)));
    }

-- a write that failed
pub failed : (bs new : List Block) (l : ℕ) (b : Block) (t u : Option (List Block)) (f g : ℕ) (P : Type 0) → ((z : Cat) → Mends bs z → Mends (slice_set bs l b) z)
    → new ≡ bs → (u ≡ t) ⊎ (u ≡ told_set t l b) → f ≤ g → Rose f g → P → IsStep bs new t u f g P
failed bs new l b t u f g P mends is told later rose p =
    subst (λ (x : List Block). IsStep bs x t u f g P) (sym is) (record { way = way_none bs; later = later; cause = λ q. rose; image = λ s. by_image s told })
  where
    by_image : Shows t bs → (u ≡ t) ⊎ (u ≡ told_set t l b) → (u ≡ told_as t bs) ⊎ (P × IsAhead t u bs bs)
    by_image s (inl e) = inl (told_same t u bs s e)
    by_image s (inr e) = inr (p, record { place = l; block = b; there = told_put t u bs l b s e; mends = mends })

-- ---- writes, one after another

-- one write more
pub written_next : (ws : List (ℕ × Block)) (i : ℕ) (w : ℕ × Block) (bs : List Block) → slice_get ws i ≡ Some w → written (take (suc i) ws) bs ≡ slice_set (written (take i ws) bs) w.0 w.1
written_next [] i w bs at = absurd (cc at)
written_next (x ∷ xs) zero w bs at = let same : x ≡ w = cc at in λ i. slice_set bs (same i).0 (same i).1
written_next (x ∷ xs) (suc i) w bs at = written_next xs i w (slice_set bs x.0 x.1) at

pub move_next : (ls : List ℕ) (ms : List Move) (i : ℕ) (m : Move) (bs : List Block) → slice_get ms i ≡ Some m
    → written_at ls (take (suc i) ms) bs ≡ slice_set (written_at ls (take i ms) bs) (slice_index_or ls (m.vbn - 1) 0) m.block
move_next ls [] i m bs at = absurd (cc at)
move_next ls (x ∷ xs) zero m bs at = let same : x ≡ m = cc at in λ i. slice_set bs (slice_index_or ls ((same i).vbn - 1) 0) (same i).block
move_next ls (x ∷ xs) (suc i) m bs at = move_next ls xs i m (slice_set bs (slice_index_or ls (x.vbn - 1) 0) x.block) at

-- the first of writes are a way
front : (R : List Block → Type 0) (ls : List ℕ) (ms : List Move) (bs : List Block) → ((n : ℕ) → R (written_at ls (take n ms) bs)) → (i n : ℕ) → R (written (take n (moved_at ls (take i ms))) bs)
front R ls ms bs f zero n = subst R (sym (none_written n bs)) (f 0)
front R ls ms bs f (suc i) zero = f 0
front R ls [] bs f (suc i) (suc n) = f 0
front R ls (m ∷ ms) bs f (suc i) (suc n) = front R ls ms (slice_set bs (slice_index_or ls (m.vbn - 1) 0) m.block) (λ k. f (suc k)) i n

pub way_front : (ls : List ℕ) (ms : List Move) (bs now : List Block) (i : ℕ) → ((k : ℕ) (z : Cat) → Mends bs z → Mends (written_at ls (take k ms) bs) z)
    → now ≡ written_at ls (take i ms) bs → IsWay bs now
way_front ls ms bs now i mends is =
    record { writes = moved_at ls (take i ms); made = is; mends = λ k z m. front (λ x. Mends x z) ls ms bs (λ n. mends n z m) i k }

pub set_as : (t : Option (List Block)) (bs : List Block) (l : ℕ) (b : Block) → told_set (told_as t bs) l b ≡ told_as t (slice_set bs l b)
set_as None bs l b = refl
set_as (Some x) bs l b = refl

-- all moves before number i are made, and the next one failed
pub failed_at : (ls : List ℕ) (ms : List Move) (old now new : List Block) (i : ℕ) (m : Move) (t u v : Option (List Block)) (f g h : ℕ) (P : Type 0)
    → ((k : ℕ) (z : Cat) → Mends old z → Mends (written_at ls (take k ms) old) z) → now ≡ written_at ls (take i ms) old → slice_get ms i ≡ Some m
    → (Shows t old → u ≡ told_as t now) → new ≡ now → (v ≡ u) ⊎ (v ≡ told_set u (slice_index_or ls (m.vbn - 1) 0) m.block) → f ≤ g → g ≤ h → Rose g h → P → IsStep old new t v f h P
failed_at ls ms old now new i m t u v f g h P mends is at image same told first later rose p =
    subst (λ (x : List Block). IsStep old x t v f h P) (sym same) (record {
      way = way_front ls ms old now i mends is;
      later = omega (arith, first, later);
      cause = λ q. omega (arith, first, rose);
      image = λ s. by_image (image s) told;
    })
  where
    l : ℕ
    l = slice_index_or ls (m.vbn - 1) 0

    ahead : u ≡ told_as t now → v ≡ told_set u l m.block → IsAhead t v old now
    ahead e k = record {
      place = l;
      block = m.block;
      there = k ∙ ((λ j. told_set (e j) l m.block) ∙ set_as t now l m.block);
      mends = λ z w. subst (λ (x : List Block). Mends x z) (move_next ls ms i m old at ∙ (λ j. slice_set (sym is j) l m.block)) (mends (suc i) z w);
    }

    by_image : u ≡ told_as t now → (v ≡ u) ⊎ (v ≡ told_set u l m.block) → (v ≡ told_as t now) ⊎ (P × IsAhead t v old now)
    by_image e (inl k) = inl (k ∙ e)
    by_image e (inr k) = inr (p, ahead e k)

-- one more is made
pub told_next : (t u v : Option (List Block)) (now : List Block) (l : ℕ) (b : Block) → u ≡ told_as t now → v ≡ told_set u l b → v ≡ told_as t (slice_set now l b)
told_next t u v now l b e k = k ∙ ((λ j. told_set (e j) l b) ∙ set_as t now l b)

-- all are made
pub all_made : (ls : List ℕ) (ms : List Move) (old now : List Block) (t u : Option (List Block)) (f g : ℕ) (P : Type 0) (i : ℕ)
    → ((k : ℕ) (z : Cat) → Mends old z → Mends (written_at ls (take k ms) old) z) → now ≡ written_at ls (take i ms) old → (Shows t old → u ≡ told_as t now) → f ≤ g → (P → ⊥) → IsStep old now t u f g P
all_made ls ms old now t u f g P i mends is image later well =
    record { way = way_front ls ms old now i mends is; later = later; cause = λ p. absurd (well p); image = λ s. inl (image s) }

-- ---- answers

-- a step that ended well
pub first_well : {A : Type 0} (a b : List Block) (t u : Option (List Block)) (f g : ℕ) (x : Result A StepFault) (v : A) → x ≡ Ok v → IsStep a b t u f g (x ≡ Err ImageFault) → IsStep a b t u f g ⊥
first_well a b t u f g x v is s = step_as a b t u f g (x ≡ Err ImageFault) ⊥ (λ e. cc) (λ n. absurd n) s

-- and then one that ended well
pub next_well : {A : Type 0} (a b c : List Block) (t u v : Option (List Block)) (f g h : ℕ) (x : Result A StepFault) (w : A) → x ≡ Ok w → IsStep a b t u f g ⊥ → IsStep b c u v g h (x ≡ Err ImageFault)
    → IsStep a c t v f h ⊥
next_well a b c t u v f g h x w is s r = step_on a b c t u v f g h ⊥ ⊥ (λ n. n) s (first_well b c u v g h x w is r)

-- and then one whose fault is handed on
pub next_out : {A B : Type 0} (a b c : List Block) (t u v : Option (List Block)) (f g h : ℕ) (x : Result A StepFault) (y : Result B StepFault) (e d : StepFault) → x ≡ Err e → y ≡ Err d → d ≡ e
    → IsStep a b t u f g ⊥ → IsStep b c u v g h (x ≡ Err ImageFault) → IsStep a c t v f h (y ≡ Err ImageFault)
next_out a b c t u v f g h x y e d xe yd same s r =
    step_on a b c t u v f g h ⊥ (y ≡ Err ImageFault) (λ n. n) s (step_as b c u v g h (x ≡ Err ImageFault) (y ≡ Err ImageFault)
    (λ k. let z : e ≡ ImageFault = cc in yd ∙ ap (λ (q : StepFault). Err q) (same ∙ z)) (λ k. let z : d ≡ ImageFault = cc in xe ∙ ap (λ (q : StepFault). Err q) (sym same ∙ z)) r)

-- a fault of the first one
pub first_out : {A B : Type 0} (a b : List Block) (t u : Option (List Block)) (f g : ℕ) (x : Result A StepFault) (y : Result B StepFault) (e d : StepFault) → x ≡ Err e → y ≡ Err d → d ≡ e
    → IsStep a b t u f g (x ≡ Err ImageFault) → IsStep a b t u f g (y ≡ Err ImageFault)
first_out a b t u f g x y e d xe yd same s = next_out a a b t t u f f g x y e d xe yd same (step_none a t f ⊥ (λ n. n)) s

-- all went well
pub ends_well : {B : Type 0} (a b : List Block) (t u : Option (List Block)) (f g : ℕ) (y : Result B StepFault) (w : B) → y ≡ Ok w → IsStep a b t u f g ⊥ → IsStep a b t u f g (y ≡ Err ImageFault)
ends_well a b t u f g y w is s = step_as a b t u f g ⊥ (y ≡ Err ImageFault) (λ n. absurd n) (λ e. cc) s

-- the answer is that of the last one
pub ends_so : {B : Type 0} (a b c : List Block) (t u v : Option (List Block)) (f g h : ℕ) (y : Result B StepFault) → IsStep a b t u f g ⊥ → IsStep b c u v g h (y ≡ Err ImageFault) → IsStep a c t v f h (y ≡ Err ImageFault)
ends_so a b c t u v f g h y s r = step_on a b c t u v f g h ⊥ (y ≡ Err ImageFault) (λ n. n) s r

-- memory ran out, and nothing was written
pub lacking : {B : Type 0} (a : List Block) (t : Option (List Block)) (f : ℕ) (y : Result B StepFault) (d : StepFault) → y ≡ Err d → d ≡ NoMemory → IsStep a a t t f f (y ≡ Err ImageFault)
lacking a t f y d yd lack = step_none a t f (y ≡ Err ImageFault) (λ e. cc)

-- memory ran out after a step
pub lacking_on : {B : Type 0} (a b : List Block) (t u : Option (List Block)) (f g : ℕ) (y : Result B StepFault) (d : StepFault) → y ≡ Err d → d ≡ NoMemory → IsStep a b t u f g ⊥ → IsStep a b t u f g (y ≡ Err ImageFault)
lacking_on a b t u f g y d yd lack s = step_as a b t u f g ⊥ (y ≡ Err ImageFault) (λ n. absurd n) (λ e. cc) s

-- ---- moves at the places of a list

-- a place of a list, and the first block where there is none
pub on_volume : (ls : List ℕ) (n i l : ℕ) → All (λ l. l < n) ls → 0 < n → l ≡ slice_index_or ls i 0 → l < n
on_volume ls n i l inside some e = by_place (cases_lt i (length ls)) where
  past : (xs : List ℕ) (j : ℕ) → length xs ≤ j → slice_index_or xs j 0 ≡ 0
  past [] j h = refl
  past (x ∷ xs) zero h = absurd (omega (arith, h))
  past (x ∷ xs) (suc j) h = past xs j (omega (arith, h))

  by_place : (i < length ls) ⊎ (length ls ≤ i) → l < n
  by_place (inl lt) = let k = inside i 0 lt in omega (arith, k, e)
  by_place (inr le) = let k = past ls i le in omega (arith, k, e, some)

pub move_failed : (ls : List ℕ) (ms : List Move) (old now new : List Block) (i l : ℕ) (d : Move) (t u v : Option (List Block)) (f g h : ℕ) (P : Type 0)
    → ((k : ℕ) (z : Cat) → Mends old z → Mends (written_at ls (take k ms) old) z) → now ≡ written_at ls (take i ms) old → i < length ms → l ≡ slice_index_or ls ((get_or ms i d).vbn - 1) 0
    → (Shows t old → u ≡ told_as t now) → new ≡ now → (v ≡ u) ⊎ (v ≡ told_set u l (get_or ms i d).block) → f ≤ g → g ≤ h → Rose g h → P → IsStep old new t v f h P
move_failed ls ms old now new i l d t u v f g h P mends is lt at image same told first later rose p =
    failed_at ls ms old now new i (get_or ms i d) t u v f g h P mends is (slice_get-get_or ms i d lt) image same
    (subst (λ (k : ℕ). (v ≡ u) ⊎ (v ≡ told_set u k (get_or ms i d).block)) at told) first later rose p

pub move_made : (ls : List ℕ) (ms : List Move) (old now new : List Block) (i l : ℕ) (d : Move) → now ≡ written_at ls (take i ms) old → i < length ms → l ≡ slice_index_or ls ((get_or ms i d).vbn - 1) 0
    → new ≡ slice_set now l (get_or ms i d).block → new ≡ written_at ls (take (i + 1) ms) old
move_made ls ms old now new i l d is lt at made =
    let next : suc i ≡ i + 1 = omega arith in
    made ∙ ((λ j. slice_set (is j) (at j) (get_or ms i d).block)
    ∙ (sym (move_next ls ms i (get_or ms i d) old (slice_get-get_or ms i d lt)) ∙ (λ j. written_at ls (take (next j) ms) old)))

pub move_told : (t u v : Option (List Block)) (old now new : List Block) (l : ℕ) (b : Block) → (Shows t old → u ≡ told_as t now) → new ≡ slice_set now l b → v ≡ told_set u l b → Shows t old → v ≡ told_as t new
move_told t u v old now new l b image made told shown = told_next t u v now l b (image shown) told ∙ (λ j. told_as t (sym made j))

-- all are made
pub moves_made : (ls : List ℕ) (ms : List Move) (old now : List Block) (i : ℕ) → now ≡ written_at ls (take i ms) old → length ms ≤ i → now ≡ written_at ls ms old
moves_made ls ms old now i is le = is ∙ (λ j. written_at ls (all ms i le j) old) where
  all : (xs : List Move) (k : ℕ) → length xs ≤ k → take k xs ≡ xs
  all [] zero h = refl
  all [] (suc k) h = refl
  all (x ∷ xs) zero h = absurd (omega (arith, h))
  all (x ∷ xs) (suc k) h = ap (λ ys. x ∷ ys) (all xs k (omega (arith, h)))
