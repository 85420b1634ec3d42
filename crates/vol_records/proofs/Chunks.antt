-- Bytes as blocks.
use Rattle.std.proofs.Common.{◌≡◌, ◌∙◌, ◌≤◌, ◌<◌, ◌+◌, ◌-◌, ◌*◌, ◌++◌, ◌⊎◌, inl, inr, ℕ, zero, suc, List, [], ◌∷◌, Some, length, take, drop, slice_get, refl, ap, subst, arith, append-nil, append_assoc, length-append, lit<}
use Rattle.std.specs.Prelude.{min, replicate}
use Rattle.std.specs.List.{flat_map}
use Rattle.std.proofs.lemmas.Bool.{cases_lt}
use Rattle.std.proofs.lemmas.List.{length-take, length-take-le, length-drop, length-replicate, take-append-drop, take_all, take_min, take_rest, drop-drop, drop-replicate}
use Rattle.std.proofs.lemmas.List.Concat.{flat_map-cons}
use Rattle.std.proofs.Math.Seq.{take-append_seam, take-append-add}
use Rattle.base_words.specs.Fields.{Block, IsBytes, IsWholeBlock, put}
use Rattle.base_words.specs.Tables.{zeros}
use Rattle.vol_parts.proofs.Bytes.{bytes-append, bytes-take, bytes-drop, bytes-replicate}
use Rattle.vol_records.specs.Storing.{filled, chunks, blocks_for}

pub length-chunks : (k : ℕ) (bytes : List ℕ) → length (chunks k bytes) ≡ k
length-chunks zero bytes = refl
length-chunks (suc k) bytes = ap suc (length-chunks k (drop 512 bytes))

pub length-filled : (bytes : List ℕ) → length (filled (take 512 bytes)) ≡ 512
length-filled bytes =
    let a = length-append (take 512 bytes) (replicate (512 - length (take 512 bytes)) 0) in
    let b = length-replicate {A = ℕ} (512 - length (take 512 bytes)) 0 in
    let c = length-take 512 bytes in
    omega (arith, a, b, c)

whole_filled : (bytes : List ℕ) → IsBytes bytes → IsWholeBlock (filled (take 512 bytes))
whole_filled bytes are = record {
  long = length-filled bytes;
  bytes = bytes-append (take 512 bytes) (replicate (512 - length (take 512 bytes)) 0) (bytes-take 512 bytes are) (bytes-replicate (512 - length (take 512 bytes)) 0 (lit< tt));
}

-- each is a whole block
pub whole_chunks : (k : ℕ) (bytes : List ℕ) → IsBytes bytes → (i : ℕ) (b : Block) → slice_get (chunks k bytes) i ≡ Some b → IsWholeBlock b
whole_chunks zero bytes are i b at = absurd (cc at)
whole_chunks (suc k) bytes are zero b at = let same : filled (take 512 bytes) ≡ b = cc at in subst (λ (x : Block). IsWholeBlock x) same (whole_filled bytes are)
whole_chunks (suc k) bytes are (suc i) b at = whole_chunks k (drop 512 bytes) (bytes-drop 512 bytes are) i b at

-- which bytes the block at a place has
pub chunk_at : (k : ℕ) (bytes : List ℕ) (i : ℕ) → i < k → slice_get (chunks k bytes) i ≡ Some (filled (take 512 (drop (512 * i) bytes)))
chunk_at zero bytes i lt = absurd (omega (arith, lt))
chunk_at (suc k) bytes zero lt = refl
chunk_at (suc k) bytes (suc i) lt =
    chunk_at k (drop 512 bytes) i (omega (arith, lt))
    ∙ ap (λ (xs : List ℕ). Some (filled (take 512 xs))) (drop-drop (512 * i) 512 bytes ∙ ap (λ n. drop n bytes) (let e : 512 + 512 * i ≡ 512 * suc i = omega arith in e))

-- the first block, and what is behind it
by_length : (bytes left : List ℕ) → (512 < length bytes → take (length (drop 512 bytes)) left ≡ drop 512 bytes) → (512 < length bytes) ⊎ (length bytes ≤ 512) → take (length bytes) (filled (take 512 bytes) ++ left) ≡ bytes
by_length bytes left next (inr short) =
    let all : take 512 bytes ≡ bytes = take_all 512 bytes short in
    let fill : List ℕ = replicate (512 - length (take 512 bytes)) 0 in
    ap (λ (xs : List ℕ). take (length bytes) ((xs ++ fill) ++ left)) all ∙ (ap (take (length bytes)) (append_assoc bytes fill left) ∙ take-append_seam bytes (fill ++ left))
by_length bytes left next (inl long) =
    let front : length (take 512 bytes) ≡ 512 = length-take-le 512 bytes (omega (arith, long)) in
    let none : 512 - length (take 512 bytes) ≡ 0 = omega (arith, front) in
    let len = length-drop 512 bytes in
    let count : length bytes ≡ length (take 512 bytes) + length (drop 512 bytes) = omega (arith, front, len, long) in
    ap (λ n. take (length bytes) ((take 512 bytes ++ replicate n 0) ++ left)) none
    ∙ (ap (λ (xs : List ℕ). take (length bytes) (xs ++ left)) (append-nil (take 512 bytes))
    ∙ (ap (λ n. take n (take 512 bytes ++ left)) count
    ∙ (take-append-add (take 512 bytes) left (length (drop 512 bytes))
    ∙ (ap (λ xs. take 512 bytes ++ xs) (next long) ∙ take-append-drop 512 bytes))))

-- the bytes of so many blocks begin with all bytes
pub bytes_back : (k : ℕ) (bytes : List ℕ) (rest : List Block) → length bytes ≤ 512 * k → take (length bytes) (flat_map (λ (b : Block). b) (chunks k bytes ++ rest)) ≡ bytes
bytes_back zero [] rest few = refl
bytes_back zero (b ∷ bytes) rest few = absurd (omega (arith, few))
bytes_back (suc k) bytes rest few =
    ap (take (length bytes)) (flat_map-cons (λ (b : Block). b) (filled (take 512 bytes)) (chunks k (drop 512 bytes) ++ rest))
    ∙ by_length bytes (flat_map (λ (b : Block). b) (chunks k (drop 512 bytes) ++ rest)) (λ long. bytes_back k (drop 512 bytes) rest (let len = length-drop 512 bytes in omega (arith, len, few))) (cases_lt 512 (length bytes))

-- there are blocks enough
pub enough : (len : ℕ) → len ≤ 512 * blocks_for len
enough len = omega arith

-- and no more than needed
pub no_more : (len k : ℕ) → len ≤ 512 * k → blocks_for len ≤ k
no_more len k few = omega (arith, few)

-- bytes that are put in front of zeros
pub put_filled : (z part : List ℕ) → z ≡ zeros → length part ≤ 512 → put z 0 part ≡ filled part
unfolding zeros
put_filled z part e few =
    let none : 0 + length part ≡ length part = omega arith in
    ap (λ (x : List ℕ). part ++ drop (0 + length part) x) e
    ∙ (ap (λ n. part ++ drop n (replicate 512 0)) none ∙ ap (λ (x : List ℕ). part ++ x) (drop-replicate {X = ℕ} (length part) 512 0))

-- the part of the bytes that a block has
pub part_of_bytes : (bytes : List ℕ) (i m : ℕ) → m ≡ min (length (take (length bytes - 512 * i) (drop (512 * i) bytes))) 512
    → take m (take (length bytes - 512 * i) (drop (512 * i) bytes)) ≡ take 512 (drop (512 * i) bytes)
part_of_bytes bytes i m is =
    let rest : take (length bytes - 512 * i) (drop (512 * i) bytes) ≡ drop (512 * i) bytes = take_rest bytes (512 * i) in
    let turned : m ≡ min 512 (length (drop (512 * i) bytes)) = (let e : m ≡ min (length (drop (512 * i) bytes)) 512 = is ∙ ap (λ (xs : List ℕ). min (length xs) 512) rest in omega (arith, e)) in
    ap (take m) rest ∙ (ap (λ k. take k (drop (512 * i) bytes)) turned ∙ take_min 512 (drop (512 * i) bytes))
