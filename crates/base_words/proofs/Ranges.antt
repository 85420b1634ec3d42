-- What bytes of a block are after bytes are put into it.
use Rattle.std.proofs.Common.{◌≡◌, ◌∙◌, ◌+◌, ◌-◌, ◌≤◌, ◌++◌, ℕ, List, length, take, drop, slice_range, ap, sym, arith}
use Rattle.std.proofs.lemmas.List.{take-take, take-append-le, take_at, drop_at, length-take-le}
use Rattle.std.proofs.lemmas.Slice.{between_is}
use Rattle.base_words.specs.Fields.{put}

-- the bytes that were put
pub slice_range-put_same : (b : List ℕ) (o : ℕ) (bytes : List ℕ) (e : ℕ) → o ≤ length b → e ≡ o + length bytes → slice_range (put b o bytes) o e ≡ bytes
slice_range-put_same b o bytes e h len =
    let count : length bytes ≡ e - o = omega arith in
    ap (take (e - o)) (drop_at (take o b) (bytes ++ drop (o + length bytes) b) o (length-take-le o b h))
    ∙ take_at bytes (drop (o + length bytes) b) (e - o) count

-- bytes in front of them stay
pub slice_range-put_below : (b : List ℕ) (o : ℕ) (bytes : List ℕ) (p e : ℕ) → o ≤ length b → e ≤ o → slice_range (put b o bytes) p e ≡ slice_range b p e
slice_range-put_below b o bytes p e h l =
    let front : length (take o b) ≡ o = length-take-le o b h in
    between_is (put b o bytes) p e
    ∙ ap (drop p) (take-append-le e (take o b) (bytes ++ drop (o + length bytes) b) (omega arith) ∙ take-take e o b l)
    ∙ sym (between_is b p e)
