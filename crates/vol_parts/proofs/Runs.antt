-- The blocks of runs that lie inside the blocks of a volume.
use Rattle.std.proofs.Common.{◌≡◌, ◌∙◌, ◌+◌, ◌-◌, ◌*◌, ◌%◌, ◌<◌, ◌≤◌, ◌==◌, ◌&&◌, nat_le, ℕ, zero, suc, List, [], ◌∷◌, ◌++◌, length, take, drop, get_or, slice_range, false, map, refl, ap, arith, drop-cons, append-nil}
use Rattle.std.specs.List.{range_with_len, list_any}
use Rattle.std.proofs.lemmas.List.{map-append}
use Rattle.std.proofs.lemmas.List.Concat.{length-flat_map}
use Rattle.std.proofs.lemmas.List.FromFn.{length-range_with_len}
use Rattle.std.proofs.lemmas.Bool.{and_parts, or_parts, leb-true, not-false}
use Rattle.std.proofs.Math.Nat.{mul-div-le}
use Rattle.base_words.specs.Fields.{Block}
use Rattle.fx_header.specs.declared.run.Run.{Run}
use Rattle.fx_header.specs.Pointers.{blocks_in, lbns_in}
use Rattle.vol_parts.specs.Volumes.{Volume, factor, total, block_at, runs, body}
use Rattle.vol_parts.specs.Fatal.{is_off_bounds}

-- the blocks of runs are as many as they say
pub length-lbns_in : (rs : List Run) → length (lbns_in rs) ≡ blocks_in rs
length-lbns_in rs = length-flat_map (λ (r : Run). range_with_len r.lbn r.count) rs ∙ simp length-range_with_len

-- neighbouring blocks are a part of all
taken : (bs : List Block) (a n : ℕ) → a + n ≤ length bs → map (λ k. get_or bs k []) (range_with_len a n) ≡ take n (drop a bs)
taken bs a zero h = refl
taken bs a (suc n) h =
    let next : a + 1 ≡ suc a = omega arith in
    let in_range : a < length bs = omega arith in
    rw (drop-cons bs a []) (ap (λ xs. get_or bs a [] ∷ xs) (taken bs (a + 1) n (omega arith) ∙ ap (λ k. take n (drop k bs)) next))

pub run-range : (v : Volume) (r : Run) → r.lbn + r.count ≤ length v.blocks
    → map (block_at v) (range_with_len r.lbn r.count) ≡ slice_range v.blocks r.lbn (r.lbn + r.count)
run-range v r h =
    let e : r.lbn + r.count - r.lbn ≡ r.count = omega arith in
    rw e (taken v.blocks r.lbn r.count h)

-- the blocks of runs, in order
abbrev pub blocks_of : Volume → List Run → List Block
blocks_of v rs = map (block_at v) (lbns_in rs)

pub blocks_of-cons : (v : Volume) (r : Run) (rs : List Run) → r.lbn + r.count ≤ length v.blocks
    → blocks_of v (r ∷ rs) ≡ slice_range v.blocks r.lbn (r.lbn + r.count) ++ blocks_of v rs
blocks_of-cons v r rs h =
    map-append (block_at v) (range_with_len r.lbn r.count) (lbns_in rs) ∙ ap (λ bs. bs ++ blocks_of v rs) (run-range v r h)

pub body-runs : (v : Volume) (n : ℕ) → body v n ≡ blocks_of v (runs v n)
unfolding body
body-runs v n = refl

-- runs that are not off lie inside the blocks
abbrev pub Inside : Volume → List Run → Type 0
Inside v rs = list_any (is_off_bounds v) rs ≡ false

pub on-inside : (v : Volume) (r : Run) → is_off_bounds v r ≡ false → r.lbn + r.count ≤ length v.blocks
unfolding is_off_bounds
on-inside v r e =
    let ends = nat_le (r.lbn + r.count) (factor v * total v) in
    let all = and_parts (r.lbn % factor v == 0) ((r.count % factor v == 0) && ends) (not-false _ e) in
    let last = and_parts (r.count % factor v == 0) ends all.1 in
    let le : r.lbn + r.count ≤ factor v * total v = leb-true _ _ last.1 in
    let whole : factor v * total v ≤ length v.blocks = mul-div-le (length v.blocks) (factor v) in
    omega arith

-- and so does the first of them, and the others
pub inside-first : (v : Volume) (r : Run) (rs : List Run) → Inside v (r ∷ rs) → r.lbn + r.count ≤ length v.blocks
inside-first v r rs h = on-inside v r (or_parts _ _ h).0

pub inside-others : (v : Volume) (r : Run) (rs : List Run) → Inside v (r ∷ rs) → Inside v rs
inside-others v r rs h = (or_parts _ _ h).1

-- the blocks of a file of one run
pub body-one : (v : Volume) (n : ℕ) (r : Run) → runs v n ≡ r ∷ [] → r.lbn + r.count ≤ length v.blocks
    → body v n ≡ slice_range v.blocks r.lbn (r.lbn + r.count)
body-one v n r e h = body-runs v n ∙ ap (blocks_of v) e ∙ blocks_of-cons v r [] h ∙ append-nil _
