-- Ways and steps, one after another.
use Rattle.std.proofs.Common.{◌≡◌, ◌≤◌, ◌⊎◌, ◌++◌, ◌-◌, ◌<◌, ◌∙◌, zero, suc, ℕ, List, [], ◌∷◌, Option, Some, None, Result, Ok, Err, ap, get_or, length, take, slice_get, slice_set, refl, sym, subst, inl, inr, arith}
use Rattle.std.specs.Prelude.{slice_index_or}
use Rattle.std.proofs.lemmas.Option.{slice_get-get_or}
use Rattle.base_words.specs.Fields.{Block}
use Rattle.base_words.specs.Faults.{Rose}
use Rattle.fx_dir.specs.declared.Move.{Move}
use Rattle.blk_drive.specs.Images.{told_set}
use Rattle.base_words.specs.Lists.{written}
use Rattle.base_words.proofs.ListWrites.{written_joined}
use Rattle.vol_rebuild.specs.Places.{moved_at, written_at}
use Rattle.vol_repair.specs.declared.fault.StepFault.{StepFault}
use Rattle.vol_repair.specs.declared.fault.StepFault.TheVariants.{ImageFault, NoMemory}
use Rattle.vol_repair.specs.Steps.{IsWay, IsAhead, IsStep}
use Rattle.blk_drive.specs.Telling.{IsTold as Shows}
use Rattle.blk_drive.specs.Telling.{told_as}
use Rattle.vol_rebuild.proofs.Stepping.{set_as}

-- ---- ways

-- what holds after each number of the writes
through : (R : List Block → Type 0) (ws vs : List (ℕ × Block)) (bs : List Block) → ((n : ℕ) → R (written (take n ws) bs)) → ((n : ℕ) → R (written (take n vs) (written ws bs))) → (n : ℕ) → R (written (take n (ws ++ vs)) bs)
through R [] vs bs f g n = g n
through R (w ∷ ws) vs bs f g zero = f 0
through R (w ∷ ws) vs bs f g (suc n) = through R ws vs (slice_set bs w.0 w.1) (λ m. f (suc m)) g n

none_written : (k : ℕ) (bs : List Block) → written (take k []) bs ≡ bs
none_written zero bs = refl
none_written (suc k) bs = refl

all_written : (R : List Block → Type 0) (ws : List (ℕ × Block)) (bs : List Block) → ((n : ℕ) → R (written (take n ws) bs)) → R (written ws bs)
all_written R [] bs f = f 0
all_written R (w ∷ ws) bs f = all_written R ws (slice_set bs w.0 w.1) (λ n. f (suc n))

pub way_none : {P : List Block → Type 0} (bs : List Block) → P bs → IsWay P bs bs
way_none {P} bs h = record { writes = []; made = refl; holds = λ k. subst P (sym (none_written k bs)) h }

pub way_one : {P : List Block → Type 0} (bs : List Block) (l : ℕ) (b : Block) → P bs → P (slice_set bs l b) → IsWay P bs (slice_set bs l b)
way_one {P} bs l b h after = record { writes = (l, b) ∷ []; made = refl; holds = each } where
  each : (k : ℕ) → P (written (take k ((l, b) ∷ [])) bs)
  each zero = h
  each (suc k) = subst P (sym (none_written k (slice_set bs l b))) after

-- what holds of the first blocks
pub way_first : {P : List Block → Type 0} (a b : List Block) → IsWay P a b → P a
way_first a b w = w.holds 0

-- what holds of the last blocks
pub way_last : {P : List Block → Type 0} (a b : List Block) → IsWay P a b → P b
way_last {P} a b w = subst P (sym w.made) (all_written P w.writes a w.holds)

pub way_on : {P : List Block → Type 0} (a b c : List Block) → IsWay P a b → IsWay P b c → IsWay P a c
way_on {P} a b c w v = record {
  writes = w.writes ++ v.writes;
  made = v.made ∙ sym (written_joined w.writes v.writes a ∙ (λ i. written v.writes (sym w.made i)));
  holds = through P w.writes v.writes a w.holds (λ n. subst (λ (x : List Block). P (written (take n v.writes) x)) w.made (v.holds n));
}

-- a way on which more holds
pub way_weaken : {P Q : List Block → Type 0} (a b : List Block) → ((x : List Block) → P x → Q x) → IsWay P a b → IsWay Q a b
way_weaken a b more w = record { writes = w.writes; made = w.made; holds = λ k. more (written (take k w.writes) a) (w.holds k) }

-- ---- steps

as_told : (told : Option (List Block)) (bs : List Block) → Shows told bs → told ≡ told_as told bs
as_told None bs h = refl
as_told (Some x) bs h = λ i. Some (sym h i)

told_shows : (told : Option (List Block)) (bs : List Block) → Shows (told_as told bs) bs
told_shows None bs = tt
told_shows (Some x) bs = refl

told_twice : (told : Option (List Block)) (a b : List Block) → told_as (told_as told a) b ≡ told_as told b
told_twice None a b = refl
told_twice (Some x) a b = refl

-- what holds of the blocks before a step, and of those behind it
pub step_first : {P : List Block → Type 0} (a b : List Block) (t u : Option (List Block)) (f g : ℕ) (F : Type 0) → IsStep P a b t u f g F → P a
step_first a b t u f g F s = way_first a b s.way

pub step_last : {P : List Block → Type 0} (a b : List Block) (t u : Option (List Block)) (f g : ℕ) (F : Type 0) → IsStep P a b t u f g F → P b
step_last a b t u f g F s = way_last a b s.way

pub step_none : {P : List Block → Type 0} (bs : List Block) (told : Option (List Block)) (f : ℕ) (F : Type 0) → (F → ⊥) → P bs → IsStep P bs bs told told f f F
step_none bs told f F none holds = record { way = way_none bs holds; later = omega arith; cause = λ h. absurd (none h); image = λ s. inl (as_told told bs s) }

-- a step that ended well, and then another one
pub step_on : {P : List Block → Type 0} (a b c : List Block) (t u v : Option (List Block)) (f g h : ℕ) (F G : Type 0) → (F → ⊥) → IsStep P a b t u f g F → IsStep P b c u v g h G → IsStep P a c t v f h G
step_on {P} a b c t u v f g h F G well s r = record {
  way = way_on a b c s.way r.way;
  later = (let x = s.later in let y = r.later in omega arith);
  cause = λ q. (let rose = r.cause q in let x = s.later in further f g h x rose);
  image = λ shown. by_first shown (s.image shown);
} where
  further : (f g h : ℕ) → f ≤ g → Rose g h → Rose f h
  further f g h le rose = omega (arith, rose)

  ahead : u ≡ told_as t b → IsAhead P u v c → IsAhead P t v c
  ahead e k = record { place = k.place; block = k.block; there = k.there ∙ ((λ i. told_as (e i) (slice_set c k.place k.block)) ∙ told_twice t b (slice_set c k.place k.block)); holds = k.holds }

  by_second : u ≡ told_as t b → (v ≡ told_as u c) ⊎ (G × IsAhead P u v c) → (v ≡ told_as t c) ⊎ (G × IsAhead P t v c)
  by_second e (inl same) = inl (same ∙ ((λ i. told_as (e i) c) ∙ told_twice t b c))
  by_second e (inr k) = inr (k.0, ahead e k.1)

  by_first : Shows t a → (u ≡ told_as t b) ⊎ (F × IsAhead P t u b) → (v ≡ told_as t c) ⊎ (G × IsAhead P t v c)
  by_first shown (inl e) = by_second e (r.image (subst (λ (x : Option (List Block)). Shows x b) (sym e) (told_shows t b)))
  by_first shown (inr k) = absurd (well k.0)

-- the same step, where its fault is told otherwise
pub step_as : {P : List Block → Type 0} (a b : List Block) (t u : Option (List Block)) (f g : ℕ) (F G : Type 0) → (F → G) → (G → F) → IsStep P a b t u f g F → IsStep P a b t u f g G
step_as {P} a b t u f g F G to from s = record { way = s.way; later = s.later; cause = λ q. s.cause (from q); image = λ shown. told (s.image shown) } where
  told : (u ≡ told_as t b) ⊎ (F × IsAhead P t u b) → (u ≡ told_as t b) ⊎ (G × IsAhead P t u b)
  told (inl e) = inl e
  told (inr k) = inr (to k.0, k.1)

-- a step on which more holds
pub step_weaken : {P Q : List Block → Type 0} (a b : List Block) (t u : Option (List Block)) (f g : ℕ) (F : Type 0) → ((x : List Block) → P x → Q x) → IsStep P a b t u f g F → IsStep Q a b t u f g F
step_weaken {P} {Q} a b t u f g F more s = record { way = way_weaken a b more s.way; later = s.later; cause = s.cause; image = λ shown. told (s.image shown) } where
  told : (u ≡ told_as t b) ⊎ (F × IsAhead P t u b) → (u ≡ told_as t b) ⊎ (F × IsAhead Q t u b)
  told (inl e) = inl e
  told (inr k) = inr (k.0, record { place = k.1.place; block = k.1.block; there = k.1.there; holds = more (slice_set b k.1.place k.1.block) k.1.holds })

-- ---- one write

told_put : (t u : Option (List Block)) (bs : List Block) (l : ℕ) (b : Block) → Shows t bs → u ≡ told_set t l b → u ≡ told_as t (slice_set bs l b)
told_put None u bs l b shown e = e
told_put (Some x) u bs l b shown e = e ∙ (λ i. Some (slice_set (sym shown i) l b))

told_same : (t u : Option (List Block)) (bs : List Block) → Shows t bs → u ≡ t → u ≡ told_as t bs
told_same t u bs shown e = e ∙ as_told t bs shown

-- a write
pub wrote : {P : List Block → Type 0} (bs new : List Block) (l : ℕ) (b : Block) (t u : Option (List Block)) (f g : ℕ) (F : Type 0) → P bs → P (slice_set bs l b)
    → new ≡ slice_set bs l b → u ≡ told_set t l b → f ≤ g → (F → ⊥) → IsStep P bs new t u f g F
wrote {P} bs new l b t u f g F before behind is told later well =
    record {
      way = subst (λ (x : List Block). IsWay P bs x) (sym is) (way_one bs l b before behind);
      later = later;
      cause = λ p. absurd (well p);
      image = λ s. inl (told_put t u bs l b s told ∙ (λ i. told_as t (sym is i)));
    }

-- a write that failed
pub failed : {P : List Block → Type 0} (bs new : List Block) (l : ℕ) (b : Block) (t u : Option (List Block)) (f g : ℕ) (F : Type 0) → P bs → P (slice_set bs l b)
    → new ≡ bs → (u ≡ t) ⊎ (u ≡ told_set t l b) → f ≤ g → Rose f g → F → IsStep P bs new t u f g F
failed {P} bs new l b t u f g F before behind is told later rose p =
    subst (λ (x : List Block). IsStep P bs x t u f g F) (sym is) (record { way = way_none bs before; later = later; cause = λ q. rose; image = λ s. by_image s told })
  where
    by_image : Shows t bs → (u ≡ t) ⊎ (u ≡ told_set t l b) → (u ≡ told_as t bs) ⊎ (F × IsAhead P t u bs)
    by_image s (inl e) = inl (told_same t u bs s e)
    by_image s (inr e) = inr (p, record { place = l; block = b; there = told_put t u bs l b s e; holds = behind })

-- ---- writes, one after another

pub move_next : (ls : List ℕ) (ms : List Move) (i : ℕ) (m : Move) (bs : List Block) → slice_get ms i ≡ Some m
    → written_at ls (take (suc i) ms) bs ≡ slice_set (written_at ls (take i ms) bs) (slice_index_or ls (m.vbn - 1) 0) m.block
move_next ls [] i m bs at = absurd (cc at)
move_next ls (x ∷ xs) zero m bs at = let same : x ≡ m = cc at in λ i. slice_set bs (slice_index_or ls ((same i).vbn - 1) 0) (same i).block
move_next ls (x ∷ xs) (suc i) m bs at = move_next ls xs i m (slice_set bs (slice_index_or ls (x.vbn - 1) 0) x.block) at

-- the first of writes are a way
front : (R : List Block → Type 0) (ls : List ℕ) (ms : List Move) (bs : List Block) → ((n : ℕ) → R (written_at ls (take n ms) bs)) → (i n : ℕ) → R (written (take n (moved_at ls (take i ms))) bs)
front R ls ms bs f zero n = subst R (sym (none_written n bs)) (f 0)
front R ls ms bs f (suc i) zero = f 0
front R ls [] bs f (suc i) (suc n) = f 0
front R ls (m ∷ ms) bs f (suc i) (suc n) = front R ls ms (slice_set bs (slice_index_or ls (m.vbn - 1) 0) m.block) (λ k. f (suc k)) i n

pub way_front : {P : List Block → Type 0} (ls : List ℕ) (ms : List Move) (bs now : List Block) (i : ℕ) → ((k : ℕ) → P (written_at ls (take k ms) bs))
    → now ≡ written_at ls (take i ms) bs → IsWay P bs now
way_front {P} ls ms bs now i holds is =
    record { writes = moved_at ls (take i ms); made = is; holds = front P ls ms bs holds i }

-- all moves before number i are made, and the next one failed
pub failed_at : {P : List Block → Type 0} (ls : List ℕ) (ms : List Move) (old now new : List Block) (i : ℕ) (m : Move) (t u v : Option (List Block)) (f g h : ℕ) (F : Type 0)
    → ((k : ℕ) → P (written_at ls (take k ms) old)) → now ≡ written_at ls (take i ms) old → slice_get ms i ≡ Some m
    → (Shows t old → u ≡ told_as t now) → new ≡ now → (v ≡ u) ⊎ (v ≡ told_set u (slice_index_or ls (m.vbn - 1) 0) m.block) → f ≤ g → g ≤ h → Rose g h → F → IsStep P old new t v f h F
failed_at {P} ls ms old now new i m t u v f g h F holds is at image same told first later rose p =
    subst (λ (x : List Block). IsStep P old x t v f h F) (sym same) (record {
      way = way_front ls ms old now i holds is;
      later = omega (arith, first, later);
      cause = λ q. omega (arith, first, rose);
      image = λ s. by_image (image s) told;
    })
  where
    l : ℕ
    l = slice_index_or ls (m.vbn - 1) 0

    ahead : u ≡ told_as t now → v ≡ told_set u l m.block → IsAhead P t v now
    ahead e k = record {
      place = l;
      block = m.block;
      there = k ∙ ((λ j. told_set (e j) l m.block) ∙ set_as t now l m.block);
      holds = subst P (move_next ls ms i m old at ∙ (λ j. slice_set (sym is j) l m.block)) (holds (suc i));
    }

    by_image : u ≡ told_as t now → (v ≡ u) ⊎ (v ≡ told_set u l m.block) → (v ≡ told_as t now) ⊎ (F × IsAhead P t v now)
    by_image e (inl k) = inl (k ∙ e)
    by_image e (inr k) = inr (p, ahead e k)

-- one more is made
pub told_next : (t u v : Option (List Block)) (now : List Block) (l : ℕ) (b : Block) → u ≡ told_as t now → v ≡ told_set u l b → v ≡ told_as t (slice_set now l b)
told_next t u v now l b e k = k ∙ ((λ j. told_set (e j) l b) ∙ set_as t now l b)

-- all are made
pub all_made : {P : List Block → Type 0} (ls : List ℕ) (ms : List Move) (old now : List Block) (t u : Option (List Block)) (f g : ℕ) (F : Type 0) (i : ℕ)
    → ((k : ℕ) → P (written_at ls (take k ms) old)) → now ≡ written_at ls (take i ms) old → (Shows t old → u ≡ told_as t now) → f ≤ g → (F → ⊥) → IsStep P old now t u f g F
all_made ls ms old now t u f g F i holds is image later well =
    record { way = way_front ls ms old now i holds is; later = later; cause = λ p. absurd (well p); image = λ s. inl (image s) }

-- ---- answers

-- a step that ended well
pub first_well : {P : List Block → Type 0} {A : Type 0} (a b : List Block) (t u : Option (List Block)) (f g : ℕ) (x : Result A StepFault) (v : A) → x ≡ Ok v → IsStep P a b t u f g (x ≡ Err ImageFault) → IsStep P a b t u f g ⊥
first_well a b t u f g x v is s = step_as a b t u f g (x ≡ Err ImageFault) ⊥ (λ e. cc) (λ n. absurd n) s

-- and then one that ended well
pub next_well : {P : List Block → Type 0} {A : Type 0} (a b c : List Block) (t u v : Option (List Block)) (f g h : ℕ) (x : Result A StepFault) (w : A) → x ≡ Ok w → IsStep P a b t u f g ⊥ → IsStep P b c u v g h (x ≡ Err ImageFault)
    → IsStep P a c t v f h ⊥
next_well a b c t u v f g h x w is s r = step_on a b c t u v f g h ⊥ ⊥ (λ n. n) s (first_well b c u v g h x w is r)

-- and then one whose fault is handed on
pub next_out : {P : List Block → Type 0} {A B : Type 0} (a b c : List Block) (t u v : Option (List Block)) (f g h : ℕ) (x : Result A StepFault) (y : Result B StepFault) (e d : StepFault) → x ≡ Err e → y ≡ Err d → d ≡ e
    → IsStep P a b t u f g ⊥ → IsStep P b c u v g h (x ≡ Err ImageFault) → IsStep P a c t v f h (y ≡ Err ImageFault)
next_out a b c t u v f g h x y e d xe yd same s r =
    step_on a b c t u v f g h ⊥ (y ≡ Err ImageFault) (λ n. n) s (step_as b c u v g h (x ≡ Err ImageFault) (y ≡ Err ImageFault)
    (λ k. let z : e ≡ ImageFault = cc in yd ∙ ap (λ (q : StepFault). Err q) (same ∙ z)) (λ k. let z : d ≡ ImageFault = cc in xe ∙ ap (λ (q : StepFault). Err q) (sym same ∙ z)) r)

-- a fault of the first one
pub first_out : {P : List Block → Type 0} {A B : Type 0} (a b : List Block) (t u : Option (List Block)) (f g : ℕ) (x : Result A StepFault) (y : Result B StepFault) (e d : StepFault) → x ≡ Err e → y ≡ Err d → d ≡ e
    → IsStep P a b t u f g (x ≡ Err ImageFault) → IsStep P a b t u f g (y ≡ Err ImageFault)
first_out a b t u f g x y e d xe yd same s = next_out a a b t t u f f g x y e d xe yd same (step_none a t f ⊥ (λ n. n) (way_first a b s.way)) s

-- all went well
pub ends_well : {P : List Block → Type 0} {B : Type 0} (a b : List Block) (t u : Option (List Block)) (f g : ℕ) (y : Result B StepFault) (w : B) → y ≡ Ok w → IsStep P a b t u f g ⊥ → IsStep P a b t u f g (y ≡ Err ImageFault)
ends_well a b t u f g y w is s = step_as a b t u f g ⊥ (y ≡ Err ImageFault) (λ n. absurd n) (λ e. cc) s

-- the answer is that of the last one
pub ends_so : {P : List Block → Type 0} {B : Type 0} (a b c : List Block) (t u v : Option (List Block)) (f g h : ℕ) (y : Result B StepFault) → IsStep P a b t u f g ⊥ → IsStep P b c u v g h (y ≡ Err ImageFault) → IsStep P a c t v f h (y ≡ Err ImageFault)
ends_so a b c t u v f g h y s r = step_on a b c t u v f g h ⊥ (y ≡ Err ImageFault) (λ n. n) s r

-- memory ran out, and nothing was written
pub lacking : {P : List Block → Type 0} {B : Type 0} (a : List Block) (t : Option (List Block)) (f : ℕ) (y : Result B StepFault) (d : StepFault) → y ≡ Err d → d ≡ NoMemory → P a → IsStep P a a t t f f (y ≡ Err ImageFault)
lacking a t f y d yd lack holds = step_none a t f (y ≡ Err ImageFault) (λ e. cc) holds

-- memory ran out after a step
pub lacking_on : {P : List Block → Type 0} {B : Type 0} (a b : List Block) (t u : Option (List Block)) (f g : ℕ) (y : Result B StepFault) (d : StepFault) → y ≡ Err d → d ≡ NoMemory → IsStep P a b t u f g ⊥ → IsStep P a b t u f g (y ≡ Err ImageFault)
lacking_on a b t u f g y d yd lack s = step_as a b t u f g ⊥ (y ≡ Err ImageFault) (λ n. absurd n) (λ e. cc) s

-- ---- moves at the places of a list

pub move_failed : {P : List Block → Type 0} (ls : List ℕ) (ms : List Move) (old now new : List Block) (i l : ℕ) (d : Move) (t u v : Option (List Block)) (f g h : ℕ) (F : Type 0)
    → ((k : ℕ) → P (written_at ls (take k ms) old)) → now ≡ written_at ls (take i ms) old → i < length ms → l ≡ slice_index_or ls ((get_or ms i d).vbn - 1) 0
    → (Shows t old → u ≡ told_as t now) → new ≡ now → (v ≡ u) ⊎ (v ≡ told_set u l (get_or ms i d).block) → f ≤ g → g ≤ h → Rose g h → F → IsStep P old new t v f h F
move_failed ls ms old now new i l d t u v f g h F holds is lt at image same told first later rose p =
    failed_at ls ms old now new i (get_or ms i d) t u v f g h F holds is (slice_get-get_or ms i d lt) image same
    (subst (λ (k : ℕ). (v ≡ u) ⊎ (v ≡ told_set u k (get_or ms i d).block)) at told) first later rose p

pub move_told : (t u v : Option (List Block)) (old now new : List Block) (l : ℕ) (b : Block) → (Shows t old → u ≡ told_as t now) → new ≡ slice_set now l b → v ≡ told_set u l b → Shows t old → v ≡ told_as t new
move_told t u v old now new l b image made told shown = told_next t u v now l b (image shown) told ∙ (λ j. told_as t (sym made j))
