-- What the writes of a search have taken in the end.
use Rattle.std.proofs.Common.{◌≡◌, ◌≤◌, ◌<◌, ◌+◌, ◌-◌, ◌*◌, ◌/◌, ◌++◌, ℕ, zero, suc, Bool, true, false, List, [], ◌∷◌, Option, Some, None, length, slice_get, get_or, cond, refl, sym, ap, subst, ◌∙◌, inl, inr, arith, append-nil, append_assoc, length-append, nat_lt}
use Rattle.std.specs.Prelude.{take, is_some, IfSome, count_by, sum_by}
use Rattle.std.proofs.lemmas.Bool.{cases_lt}
use Rattle.std.proofs.lemmas.Bool.Decides.{nat_tests}
use Rattle.std.proofs.lemmas.List.{length-take-le}
use Rattle.std.proofs.lemmas.List.Sums.{get_or-le-sum_by}
use Rattle.std.proofs.lemmas.Option.{get_or_from_slice_get, slice_get_within}
use Rattle.base_words.specs.Fields.{Block}
use Rattle.fx_bitmap.specs.Bits.{bit_at}
use Rattle.plain_cat.specs.declared.cat.Cat.{Cat}
use Rattle.plain_cat.specs.declared.reply.Refusal.TheVariants.{IndexFull}
use Rattle.plain_rules.specs.Lookups.{is_free_number, free_count, has_free_number}
use Rattle.plain_rules.specs.Answers.{IsPick}
use Rattle.plain_rules.proofs.Picks.{pick_of}
use Rattle.vol_spell.specs.declared.owner.Owner.{Owner}
use Rattle.vol_spell.specs.declared.owner.Owner.TheVariants.{Free}
use Rattle.vol_spell.specs.Counts.{is_same_owner}
use Rattle.base_words.specs.Lists.{Has, Once}
use Rattle.vol_spell.specs.Owners.{Owners}
use Rattle.base_words.proofs.Listing.{has_parted, once_in_a_row}
use Rattle.vol_parts.specs.declared.geometry.Geometry.{Geometry}
use Rattle.vol_spell.specs.Reading.{IsFileNumber, number_bit}
use Rattle.vol_spell.specs.Spelling.{Spells}
use Rattle.vol_spell.specs.Adding.{is_outside}
use Rattle.vol_spell.proofs.NumberAdds.{numbers_add_up}
use Rattle.vol_under.proofs.Leaking.{number_free_of}
use Rattle.op_law.specs.declared.need.PlanWrite.{PlanWrite}
use Rattle.op_law.specs.Knows.{is_new_number}
use Rattle.op_law.specs.Writing.{Held, holding, empty_handed}
use Rattle.core_space.specs.Searching.{More, Short, Enough, free_number, free_in, free_from, number_write, taken_in, cluster_write, cluster_writes, found_number, found}
use Rattle.core_space.specs.Taking.{out_of, out_after, IsWanted, TakesAll, NumberIsFree, NumberIsNew}
use Rattle.core_space.proofs.Ways.{enough_of}
use Rattle.core_space.proofs.Chosen.{has_free, once_free, once_taken, free_number_clear}

-- ---- lists

pub take_none : (n : ℕ) → let none : List ℕ = [] in take n none ≡ none
take_none zero = refl
take_none (suc n) = refl

-- the first of two lists in a row
pub take_parts : (n : ℕ) (xs ys : List ℕ) → take n (xs ++ ys) ≡ take n xs ++ take (n - length (take n xs)) ys
take_parts zero xs ys = refl
take_parts (suc n) [] ys = ap (λ k. take k ys) (let e : suc n ≡ suc n - 0 = omega arith in e)
take_parts (suc n) (x ∷ xs) ys =
    let rest = take_parts n xs ys in
    let e : n - length (take n xs) ≡ suc n - suc (length (take n xs)) = omega arith in
    ap (λ zs. x ∷ zs) rest ∙ ap (λ k. x ∷ (take n xs ++ take k ys)) e

-- ---- the last of writes

-- what is outside after all of these writes
last_out : Held → List PlanWrite → Held
last_out out [] = out
last_out out (w ∷ ws) = last_out (holding w.clusters w.number) ws

last_of : (w : PlanWrite) (ws : List PlanWrite) (out : Held) → out_of (slice_get (w ∷ ws) (length ws)) ≡ last_out out (w ∷ ws)
unfolding last_out
last_of w [] out = refl
last_of w (v ∷ ws) out = last_of v ws (holding w.clusters w.number)

last_after : (ws : List PlanWrite) → out_after ws (length ws) ≡ last_out empty_handed ws
unfolding last_out
last_after [] = refl
last_after (w ∷ ws) = last_of w ws empty_handed

last_clusters : (g : Geometry) (number : Option ℕ) (before : List ℕ) (k : ℕ) (b : Block) (qs : List ℕ) (rest : List PlanWrite)
    → last_out (holding before number) (cluster_write g number before k b qs ++ rest) ≡ last_out (holding (before ++ qs) number) rest
unfolding last_out
last_clusters g number before k b [] rest = ap (λ (xs : List ℕ). last_out (holding xs number) rest) (sym (append-nil before))
last_clusters g number before k b (q ∷ qs) rest = refl

-- what is taken of free clusters in a row
pub taken_parts : (wanted : ℕ) (before xs ys : List ℕ) → (before ++ take (wanted - length before) xs) ++ take (wanted - length (before ++ take (wanted - length before) xs)) ys ≡ before ++ take (wanted - length before) (xs ++ ys)
taken_parts wanted before xs ys =
    let qs = take (wanted - length before) xs in
    let count = length-append before qs in
    let left : wanted - length (before ++ qs) ≡ wanted - length before - length qs = omega (arith, count) in
    append_assoc before qs (take (wanted - length (before ++ qs)) ys)
    ∙ ap (λ (n : ℕ). before ++ (qs ++ take n ys)) left
    ∙ ap (λ (zs : List ℕ). before ++ zs) (sym (take_parts (wanted - length before) xs ys))

all_taken : (g : Geometry) (wanted : ℕ) (number : Option ℕ) (before : List ℕ) (k : ℕ) (bs : List Block)
    → last_out (holding before number) (cluster_writes g wanted number before k bs) ≡ holding (before ++ take (wanted - length before) (free_from g k bs)) number
unfolding last_out cluster_writes free_from taken_in
all_taken g wanted number before k [] = ap (λ (xs : List ℕ). holding xs number) (sym (append-nil before) ∙ ap (λ (xs : List ℕ). before ++ xs) (sym (take_none (wanted - length before))))
all_taken g wanted number before k (b ∷ bs) =
    let qs = take (wanted - length before) (free_in g k b) in
    last_clusters g number before k b qs (cluster_writes g wanted number (before ++ qs) (k + 1) bs)
    ∙ all_taken g wanted number (before ++ qs) (k + 1) bs
    ∙ ap (λ (xs : List ℕ). holding xs number) (taken_parts wanted before (free_in g k b) (free_from g (k + 1) bs))

-- ---- each once

pub behind : (g : Geometry) (k : ℕ) (bs : List Block) (q : ℕ) → Has (free_from g k bs) q → k ≤ q / 4096
unfolding free_from
behind g k [] q t = absurd t
behind g k (b ∷ bs) q t = elim (has_parted (free_in g k b) (free_from g (k + 1) bs) q t) [
  | inl u ↦ let l = (has_free g k b q u).0 in let e = l.block in omega arith
  | inr u ↦ let h = behind g (k + 1) bs q u in omega arith
]

pub once_free_from : (g : Geometry) (k : ℕ) (bs : List Block) → Once (free_from g k bs)
unfolding free_from
once_free_from g k [] = tt
once_free_from g k (b ∷ bs) =
    once_in_a_row (free_in g k b) (free_from g (k + 1) bs) (once_free g k b) (once_free_from g (k + 1) bs)
    (λ q t u. let l = (has_free g k b q t).0 in let e = l.block in let h = behind g (k + 1) bs q u in absurd (omega arith))

-- ---- the whole

is_wanted : (g : Geometry) (clusters : ℕ) (number : Option ℕ) (bs : List Block) → clusters ≤ length (free_from g 0 bs) → IsWanted clusters (is_some number) (holding (take (clusters - 0) (free_from g 0 bs)) number)
is_wanted g clusters number bs le =
    let all : clusters - 0 ≡ clusters = omega arith in
    subst (λ (n : ℕ). IsWanted clusters (is_some number) (holding (take n (free_from g 0 bs)) number)) (sym all)
    (record { clusters = length-take-le clusters (free_from g 0 bs) le; once = once_taken clusters (free_from g 0 bs) (once_free_from g 0 bs); number = refl })

ends_wanted : (g : Geometry) (clusters : ℕ) (number : Option ℕ) (bs : List Block) (ws : List PlanWrite) (out : Held) → clusters ≤ length (free_from g 0 bs) → last_out out ws ≡ last_out (holding [] number) (cluster_writes g clusters number [] 0 bs)
    → out_after ws (length ws) ≡ last_out out ws → IsWanted clusters (is_some number) (out_after ws (length ws)) × ((out_after ws (length ws)).number ≡ number)
ends_wanted g clusters number bs ws out le e last =
    let same = last ∙ e ∙ all_taken g clusters number [] 0 bs in
    (subst (λ (h : Held). IsWanted clusters (is_some number) h) (sym same) (is_wanted g clusters number bs le), ap (λ (h : Held). h.number) same)

-- what is outside in the end, by the number that was taken
record Taken (g : Geometry) (clusters : ℕ) (numbered : Bool) (out : Held) (n : Option ℕ) : Type 0 where
  wanted : IsWanted clusters numbered out
  number : out.number ≡ n

without_number : (g : Geometry) (clusters : ℕ) (bs : List Block) (ws : List PlanWrite) → found g clusters false bs ≡ Enough ws → Taken g clusters false (out_after ws (length ws)) None
unfolding last_out
without_number g clusters bs ws e =
    let enough = enough_of g clusters None [] bs ws e in
    let t = ends_wanted g clusters None bs ws empty_handed enough.0 (ap (λ (vs : List PlanWrite). last_out empty_handed vs) enough.1) (last_after ws) in
    record { wanted = t.0; number = t.1 }

with_number : (g : Geometry) (clusters : ℕ) (index : Block) (bs : List Block) (n : Option ℕ) (ws : List PlanWrite) → found_number g clusters index n bs ≡ Enough ws → Taken g clusters true (out_after ws (length ws)) n
unfolding last_out
with_number g clusters index bs None ws e = absurd (let f : Short IndexFull ≡ Enough ws = e in cc)
with_number g clusters index bs (Some n) ws e =
    let enough = enough_of g clusters (Some n) (number_write g n index ∷ []) bs ws e in
    let t = ends_wanted g clusters (Some n) bs ws empty_handed enough.0 (ap (λ (vs : List PlanWrite). last_out empty_handed vs) enough.1) (last_after ws) in
    record { wanted = t.0; number = t.1 }

pub takes_all : TakesAll
takes_all g clusters false bs ws e = (without_number g clusters bs ws e).wanted
takes_all g clusters true [] ws e = absurd (let f : More ≡ Enough ws = e in cc)
takes_all g clusters true (index ∷ bs) ws e = (with_number g clusters index bs (free_number g index) ws e).wanted

-- ---- the number

-- a number whose bit is clear is free by the catalogue
pub clear_is_free : (g : Geometry) (base : List Block) (own : Owners) (c : Cat) (n : ℕ) → Spells g base own c → IsFileNumber g n → number_bit g base n ≡ false → is_free_number c n ≡ true
unfolding is_same_owner
clear_is_free g base own c n s is bit =
    let a = is.from in
    let back : n - 1 + 1 ≡ n = omega arith in
    subst (λ (k : ℕ). is_free_number c k ≡ true) back (number_free_of g base own c Free (n - 1) (λ m e. absurd (cc)) refl s ((s.owners.number_bits n is).0 bit))

-- and a new header can have one
pub clear_is_there : (g : Geometry) (base : List Block) (own : Owners) (c : Cat) (n : ℕ) → Spells g base own c → IsFileNumber g n → number_bit g base n ≡ false → has_free_number c ≡ true
unfolding is_same_owner
clear_is_there g base own c n s is bit =
    let free : Owner → ℕ = λ o. cond (is_same_owner Free o) 1 0 in
    let at : slice_get own.numbers (n - 1) ≡ Some Free = (s.owners.number_bits n is).0 bit in
    let here : free (get_or own.numbers (n - 1) Free) ≡ 1 = ap free (get_or_from_slice_get own.numbers (n - 1) Free Free at) in
    let some : free (get_or own.numbers (n - 1) Free) ≤ sum_by free own.numbers = get_or-le-sum_by free own.numbers (n - 1) Free (slice_get_within own.numbers (n - 1) Free at) in
    there (free_count c) (sum_by free own.numbers) (count_by is_outside own.numbers) (numbers_add_up g base own c s) (omega (arith, here, some)) where
      there : (k a b : ℕ) → k ≡ a + b → 1 ≤ a → nat_lt 0 k ≡ true
      there k a b e le = let lt : 0 < k = omega arith in grind (arith, nat_tests)

-- a bit of the index-file bitmap that was looked at
pub number_bit_seen : (g : Geometry) (base : List Block) (index : Block) (n : ℕ) → slice_get base (4 * g.cluster) ≡ Some index → number_bit g base n ≡ bit_at index (n - 1)
number_bit_seen g base index n at = ap (λ (b : Block). bit_at b (n - 1)) (get_or_from_slice_get base (4 * g.cluster) index [] at)

-- the first number whose bit is clear there is free
number_clear : (g : Geometry) (index : Block) (n : ℕ) (base : List Block) → free_number g index ≡ Some n → slice_get base (4 * g.cluster) ≡ Some index → IsFileNumber g n × (number_bit g base n ≡ false)
number_clear g index n base e at = let h = free_number_clear g index n e in (record { from = h.from; to = h.to }, number_bit_seen g base index n at ∙ h.clear)

number_taken : (g : Geometry) (index : Block) (n : Option ℕ) (base : List Block) (own : Owners) (c : Cat) → free_number g index ≡ n → Spells g base own c → slice_get base (4 * g.cluster) ≡ Some index → IfSome n (λ m. is_free_number c m ≡ true)
number_taken g index None base own c e s at = tt
number_taken g index (Some n) base own c e s at = let h = number_clear g index n base e at in clear_is_free g base own c n s h.0 h.1

-- and a new header can have one
pub number_there : (g : Geometry) (index : Block) (n : ℕ) (base : List Block) (own : Owners) (c : Cat) → free_number g index ≡ Some n → Spells g base own c → slice_get base (4 * g.cluster) ≡ Some index → has_free_number c ≡ true
number_there g index n base own c e s at = let h = number_clear g index n base e at in clear_is_there g base own c n s h.0 h.1

-- so it may be taken
number_to_take : (g : Geometry) (index : Block) (n : Option ℕ) (base : List Block) (own : Owners) (c : Cat) → free_number g index ≡ n → Spells g base own c → slice_get base (4 * g.cluster) ≡ Some index → IfSome n (λ m. IsPick c (Some m))
number_to_take g index None base own c e s at = tt
number_to_take g index (Some n) base own c e s at = pick_of c n (number_taken g index (Some n) base own c e s at) (number_there g index n base own c e s at)

pub number_is_free : NumberIsFree
number_is_free g clusters false bs ws base own c e s stood =
    subst (λ (o : Option ℕ). IfSome o (λ m. IsPick c (Some m))) (sym (without_number g clusters bs ws e).number) tt
number_is_free g clusters true [] ws base own c e s stood = absurd (let f : More ≡ Enough ws = e in cc)
number_is_free g clusters true (index ∷ bs) ws base own c e s stood =
    subst (λ (o : Option ℕ). IfSome o (λ m. IsPick c (Some m))) (sym (with_number g clusters index bs (free_number g index) ws e).number)
    (number_to_take g index (free_number g index) base own c refl s stood.0)

-- a number above those of the system files
is_above : (n : ℕ) → (n ≤ 11 → ⊥) → nat_lt 11 n ≡ true
is_above n above = elim (cases_lt 11 n) [ inl lt ↦ grind (arith, nat_tests) | inr le ↦ absurd (above le) ]

number_above : (g : Geometry) (index : Block) (n : Option ℕ) (base : List Block) (own : Owners) (c : Cat) → free_number g index ≡ n → Spells g base own c → slice_get base (4 * g.cluster) ≡ Some index
    → ((m : ℕ) → 1 ≤ m → m ≤ 11 → is_free_number c m ≡ false) → is_new_number n ≡ true
number_above g index None base own c e s at used = refl
number_above g index (Some n) base own c e s at used =
    let h = free_number_clear g index n e in
    let free : is_free_number c n ≡ true = number_taken g index (Some n) base own c e s at in
    is_above n (λ le. absurd (let f : true ≡ false = sym free ∙ used n h.from le in cc))

pub number_is_new : NumberIsNew
number_is_new g clusters false bs ws base own c e s stood used = ap is_new_number (without_number g clusters bs ws e).number
number_is_new g clusters true [] ws base own c e s stood used = absurd (let f : More ≡ Enough ws = e in cc)
number_is_new g clusters true (index ∷ bs) ws base own c e s stood used =
    ap is_new_number (with_number g clusters index bs (free_number g index) ws e).number ∙ number_above g index (free_number g index) base own c refl s stood.0 used
