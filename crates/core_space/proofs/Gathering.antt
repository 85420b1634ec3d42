-- The writes of one more block of the storage bitmap.
use Rattle.std.proofs.Common.{◌≡◌, ◌≤◌, ◌<◌, ◌+◌, ◌-◌, ◌*◌, ◌++◌, ℕ, suc, List, [], ◌∷◌, Option, length, get_or, refl, sym, ap, subst, ◌∙◌, arith, append-nil, append_assoc, length-append}
use Rattle.std.specs.Prelude.{take}
use Rattle.std.specs.List.{All}
use Rattle.std.proofs.lemmas.List.{take_more, length-take}
use Rattle.base_words.specs.Fields.{Block}
use Rattle.lock_db.specs.declared.name.LockName.TheVariants.{V}
use Rattle.plain_cat.specs.declared.history.Stage.TheVariants as stage
use Rattle.vol_parts.specs.declared.geometry.Geometry.{Geometry}
use Rattle.vol_parts.specs.declared.geometry.Part.TheVariants.{Storage}
use Rattle.vol_spell.specs.Places.{place_of}
use Rattle.op_law.specs.declared.need.PlanWrite.{PlanWrite}
use Rattle.op_law.specs.Writing.{holding, write_at}
use Rattle.core_space.specs.Searching.{free_in, free_from, with_taken, taken_in, cluster_write, cluster_writes}
use Rattle.core_space.proofs.Taken.{take_none, take_parts, taken_parts}

pub free_more : (g : Geometry) (k : ℕ) (bs : List Block) (b : Block) (i : ℕ) → i ≡ k + length bs → free_from g k (bs ++ b ∷ []) ≡ free_from g k bs ++ free_in g i b
unfolding free_from
free_more g k [] b i e =
    let same : k ≡ i = omega arith in
    append-nil (free_in g k b) ∙ ap (λ j. free_in g j b) same
free_more g k (x ∷ bs) b i e =
    ap (λ (xs : List ℕ). free_in g k x ++ xs) (free_more g (k + 1) bs b i (omega arith)) ∙ sym (append_assoc (free_in g k x) (free_from g (k + 1) bs) (free_in g i b))

-- what is taken with one more block in front
next_taken : (g : Geometry) (wanted : ℕ) (before : List ℕ) (k : ℕ) (x : Block) (bs : List Block)
    → before ++ take (wanted - length before) (free_from g k (x ∷ bs)) ≡ (before ++ taken_in g wanted before k x) ++ take (wanted - length (before ++ taken_in g wanted before k x)) (free_from g (k + 1) bs)
unfolding free_from taken_in
next_taken g wanted before k x bs = sym (taken_parts wanted before (free_in g k x) (free_from g (k + 1) bs))

writes_more : (g : Geometry) (wanted : ℕ) (number : Option ℕ) (before : List ℕ) (k : ℕ) (bs : List Block) (b : Block) (i : ℕ) (after : List ℕ) → i ≡ k + length bs → after ≡ before ++ take (wanted - length before) (free_from g k bs)
    → cluster_writes g wanted number before k (bs ++ b ∷ []) ≡ cluster_writes g wanted number before k bs ++ cluster_write g number after i b (taken_in g wanted after i b)
unfolding cluster_writes free_from
writes_more g wanted number before k [] b i after e f =
    let same : k ≡ i = omega arith in
    let all : before ≡ after = sym (append-nil before) ∙ ap (λ (xs : List ℕ). before ++ xs) (sym (take_none (wanted - length before))) ∙ sym f in
    append-nil (cluster_write g number before k b (taken_in g wanted before k b))
    ∙ ap (λ j. cluster_write g number before j b (taken_in g wanted before j b)) same
    ∙ ap (λ (xs : List ℕ). cluster_write g number xs i b (taken_in g wanted xs i b)) all
writes_more g wanted number before k (x ∷ bs) b i after e f =
    let qs = taken_in g wanted before k x in
    ap (λ (ws : List PlanWrite). cluster_write g number before k x qs ++ ws) (writes_more g wanted number (before ++ qs) (k + 1) bs b i after (omega arith) (f ∙ next_taken g wanted before k x bs))
    ∙ sym (append_assoc (cluster_write g number before k x qs) (cluster_writes g wanted number (before ++ qs) (k + 1) bs) (cluster_write g number after i b (taken_in g wanted after i b)))

-- ---- one more block

pub record Gathered (g : Geometry) (wanted : ℕ) (number : Option ℕ) (bs : List Block) (first : List PlanWrite) (taken : List ℕ) (writes : List PlanWrite) (k : ℕ) : Type 0 where
  pub taken_is : taken ≡ take wanted (free_from g 0 (take k bs))
  pub writes_is : writes ≡ first ++ cluster_writes g wanted number [] 0 (take k bs)
  pub below : All (λ q. q < 4096 * k) taken

-- the writes of a block by what is taken of it
some_taken : (g : Geometry) (number : Option ℕ) (before : List ℕ) (k : ℕ) (b : Block) (qs : List ℕ) → length before < length (before ++ qs) → cluster_write g number before k b qs ≡ write_at V (place_of g (Storage k)) (with_taken b qs) stage.Nothing (holding (before ++ qs) number) ∷ []
some_taken g number before k b [] lt = absurd (let e = ap (λ (xs : List ℕ). length xs) (append-nil before) in omega (arith, e))
some_taken g number before k b (q ∷ qs) lt = refl

none_taken : (g : Geometry) (number : Option ℕ) (before : List ℕ) (k : ℕ) (b : Block) (qs : List ℕ) → length (before ++ qs) ≤ length before → cluster_write g number before k b qs ≡ []
none_taken g number before k b [] le = refl
none_taken g number before k b (q ∷ qs) le = absurd (let e = length-append before (q ∷ qs) in let more : length (q ∷ qs) ≡ suc (length qs) = refl in omega (arith, e, more))

gathered_taken : (g : Geometry) (wanted : ℕ) (free taken : List ℕ) (k : ℕ) (b : Block) → taken ≡ take wanted free → taken ++ taken_in g wanted taken k b ≡ take wanted (free ++ free_in g k b)
unfolding taken_in
gathered_taken g wanted free taken k b e =
    ap (λ (xs : List ℕ). xs ++ take (wanted - length xs) (free_in g k b)) e ∙ sym (take_parts wanted free (free_in g k b))

whole_wanted : (g : Geometry) (wanted : ℕ) (bs : List Block) → take wanted (free_from g 0 bs) ≡ [] ++ take (wanted - 0) (free_from g 0 bs)
whole_wanted g wanted bs = ap (λ n. take n (free_from g 0 bs)) (let e : wanted ≡ wanted - 0 = omega arith in e)

pub gather : (g : Geometry) (wanted : ℕ) (number : Option ℕ) (bs : List Block) (first : List PlanWrite) (taken : List ℕ) (writes : List PlanWrite) (k : ℕ) (b : Block) (after : List ℕ) (more : List PlanWrite) → k < length bs → get_or bs k [] ≡ b
    → Gathered g wanted number bs first taken writes k → after ≡ taken ++ taken_in g wanted taken k b → more ≡ writes ++ cluster_write g number taken k b (taken_in g wanted taken k b) → All (λ q. q < 4096 * (k + 1)) after
    → Gathered g wanted number bs first after more (k + 1)
gather g wanted number bs first taken writes k b after more lt at t e f below =
    let next = take_more bs k [] lt ∙ ap (λ (x : Block). take k bs ++ x ∷ []) at in
    let count = length-take k bs in
    let place : k ≡ 0 + length (take k bs) = omega (arith, count) in
    record {
      taken_is = e ∙ gathered_taken g wanted (free_from g 0 (take k bs)) taken k b t.taken_is ∙ ap (take wanted) (sym (free_more g 0 (take k bs) b k place)) ∙ ap (λ (xs : List Block). take wanted (free_from g 0 xs)) (sym next);
      writes_is = f
          ∙ ap (λ (ws : List PlanWrite). ws ++ cluster_write g number taken k b (taken_in g wanted taken k b)) t.writes_is
          ∙ append_assoc first (cluster_writes g wanted number [] 0 (take k bs)) (cluster_write g number taken k b (taken_in g wanted taken k b))
          ∙ ap (λ (ws : List PlanWrite). first ++ ws) (sym (writes_more g wanted number [] 0 (take k bs) b k taken place (t.taken_is ∙ whole_wanted g wanted (take k bs))))
          ∙ ap (λ (xs : List Block). first ++ cluster_writes g wanted number [] 0 xs) (sym next);
      below = below;
    }

pub gathering_begins : (g : Geometry) (wanted : ℕ) (number : Option ℕ) (bs : List Block) (first : List PlanWrite) (taken : List ℕ) → taken ≡ [] → Gathered g wanted number bs first taken first 0
unfolding free_from cluster_writes
gathering_begins g wanted number bs first taken e = record {
  taken_is = e ∙ sym (take_none wanted);
  writes_is = sym (append-nil first);
  below = λ k d lt. absurd (let count = ap (λ (xs : List ℕ). length xs) e in let none : k < 0 = subst (λ (n : ℕ). k < n) count lt in omega arith);
}

-- the write of a block of which something is taken
pub wrote : (g : Geometry) (number : Option ℕ) (before : List ℕ) (k : ℕ) (b : Block) (qs taken : List ℕ) (left : Block) (w : PlanWrite) → left ≡ with_taken b qs → taken ≡ before ++ qs → length before < length taken
    → w ≡ write_at V (place_of g (Storage k)) left stage.Nothing (holding taken number) → w ∷ [] ≡ cluster_write g number before k b qs
wrote g number before k b qs taken left w e f lt h =
    let more : length before < length (before ++ qs) = subst (λ (xs : List ℕ). length before < length xs) f lt in
    ap (λ (v : PlanWrite). v ∷ []) (h
    ∙ ap (λ (x : Block). write_at V (place_of g (Storage k)) x stage.Nothing (holding taken number)) e
    ∙ ap (λ (xs : List ℕ). write_at V (place_of g (Storage k)) (with_taken b qs) stage.Nothing (holding xs number)) f)
    ∙ sym (some_taken g number before k b qs more)

-- nothing is taken, and nothing is written
pub wrote_none : (g : Geometry) (number : Option ℕ) (before : List ℕ) (k : ℕ) (b : Block) (qs taken : List ℕ) (ws : List PlanWrite) → taken ≡ before ++ qs → length taken ≤ length before → ws ≡ ws ++ cluster_write g number before k b qs
wrote_none g number before k b qs taken ws f le =
    let none : length (before ++ qs) ≤ length before = subst (λ (xs : List ℕ). length xs ≤ length before) f le in
    sym (append-nil ws) ∙ ap (λ (vs : List PlanWrite). ws ++ vs) (sym (none_taken g number before k b qs none))
