-- Blocks as chunks of 512 bytes: of a part of the bytes, and after bytes are put in.
use Rattle.std.proofs.Common.{◌≡◌, ◌∙◌, ◌+◌, ◌-◌, ◌*◌, ◌≤◌, ◌++◌, ℕ, zero, suc, List, [], ◌∷◌, length, take, drop, refl, sym, ap, arith}
use Rattle.std.proofs.Math.Path.{ap₂}
use Rattle.std.specs.Prelude.{slice_set}
use Rattle.std.proofs.lemmas.List.{take-take, drop-drop, drop-take, take-append-le, drop-append-le, take_at, drop_at, length-take-le, length-drop, nil_from_length}
use Rattle.std.specs.Simd.{first_chunks}
use Rattle.base_words.specs.Fields.{put}

-- a part behind the first n bytes of the first m ones
pub drop-take-le : {X : Type 0} (n m : ℕ) (xs : List X) → n ≤ m → drop n (take m xs) ≡ take (m - n) (drop n xs)
drop-take-le n m xs h =
    let e : m ≡ n + (m - n) = omega arith in
    ap (λ k. drop n (take k xs)) e ∙ drop-take n (m - n) xs

-- the chunks lie within the first 512 * c bytes
pub chunks-take : (c m : ℕ) (xs : List ℕ) → 512 * c ≤ m → first_chunks 512 c (take m xs) ≡ first_chunks 512 c xs
chunks-take zero m xs h = refl
chunks-take (suc c) m xs h =
    let more : 512 ≤ m = omega arith in
    let rest : 512 * c ≤ m - 512 = omega arith in
    ap₂ (λ b bs. b ∷ bs) (take-take 512 m xs more)
    (ap (first_chunks 512 c) (drop-take-le 512 m xs more) ∙ chunks-take c (m - 512) (drop 512 xs) rest)

-- bytes that are put in behind the first 512 leave these, and are put into the rest
take-put : (o : ℕ) (f b : List ℕ) → 512 ≤ o → o ≤ length f → take 512 (put f o b) ≡ take 512 f
take-put o f b low h =
    let front : length (take o f) ≡ o = length-take-le o f h in
    let inside : 512 ≤ length (take o f) = omega arith in
    take-append-le 512 (take o f) (b ++ drop (o + length b) f) inside ∙ take-take 512 o f low

drop-put : (o : ℕ) (f b : List ℕ) → 512 ≤ o → o ≤ length f → drop 512 (put f o b) ≡ put (drop 512 f) (o - 512) b
drop-put o f b low h =
    let front : length (take o f) ≡ o = length-take-le o f h in
    let inside : 512 ≤ length (take o f) = omega arith in
    let rest : 512 + (o - 512 + length b) ≡ o + length b = omega arith in
    drop-append-le 512 (take o f) (b ++ drop (o + length b) f) inside
    ∙ ap₂ (λ p q. p ++ (b ++ q)) (drop-take-le 512 o f low) (sym (drop-drop (o - 512 + length b) 512 f ∙ ap (λ n. drop n f) rest))

-- putting a block into the bytes sets a chunk
pub chunks-put : (size k : ℕ) (f b : List ℕ) → length b ≡ 512 → 512 * k + 512 ≤ length f → first_chunks 512 size (put f (512 * k) b) ≡ slice_set (first_chunks 512 size f) k b
chunks-put zero k f b l h = refl
chunks-put (suc size) zero f b l h =
    let at : 0 + length b ≡ 512 = omega arith in
    let rest = drop (0 + length b) f in
    ap₂ (λ x xs. x ∷ first_chunks 512 size xs) (take_at b rest 512 l) (drop_at b rest 512 l ∙ ap (λ n. drop n f) at)
chunks-put (suc size) (suc k) f b l h =
    let low : 512 ≤ 512 * suc k = omega arith in
    let inside : 512 * suc k ≤ length f = omega arith in
    let at : 512 * suc k - 512 ≡ 512 * k = omega arith in
    let left : 512 * k + 512 ≤ length (drop 512 f) = omega (arith, length-drop 512 f) in
    ap₂ (λ x xs. x ∷ xs) (take-put (512 * suc k) f b low inside)
    (ap (first_chunks 512 size) (drop-put (512 * suc k) f b low inside ∙ ap (λ n. put (drop 512 f) n b) at) ∙ chunks-put size k (drop 512 f) b l left)

-- the chunks of bytes behind whole chunks
pub chunks-append : (k n : ℕ) (xs ys : List ℕ) → length xs ≡ 512 * k → first_chunks 512 (k + n) (xs ++ ys) ≡ first_chunks 512 k xs ++ first_chunks 512 n ys
chunks-append zero n xs ys l =
    let count : 0 + n ≡ n = omega arith in
    let none : xs ≡ [] = nil_from_length xs (omega (arith, l)) in
    ap₂ (λ m zs. first_chunks 512 m (zs ++ ys)) count none
chunks-append (suc k) n xs ys l =
    let count : suc k + n ≡ suc (k + n) = omega arith in
    let more : 512 ≤ length xs = omega (arith, l) in
    let rest : length (drop 512 xs) ≡ 512 * k = omega (arith, l, length-drop 512 xs) in
    ap (λ m. first_chunks 512 m (xs ++ ys)) count
    ∙ ap₂ (λ b bs. b ∷ bs) (take-append-le 512 xs ys more)
    (ap (first_chunks 512 (k + n)) (drop-append-le 512 xs ys more) ∙ chunks-append k n (drop 512 xs) ys rest)
