-- A block that is written from its front to its back: what stands in front of each write stays to the end.
use Rattle.std.proofs.Common.{◌≡◌, ◌∙◌, ◌+◌, ◌*◌, ◌≤◌, ℕ, List, length, slice_range, arith, lit≤}
use Rattle.byteorder.specs.Endian.{little_bytes}
use Rattle.byteorder.specs.Numbers.{length-bytes_low_first}
use Rattle.base_words.specs.Fields.{field, put, put_field, checksum, summed}
use Rattle.base_words.proofs.Puts.{length-put, field-put_below, checksum-put}
use Rattle.base_words.proofs.Ranges.{slice_range-put_below}

-- the new block has 512 bytes, and in front of o what the old one has
pub record Keeps (o : ℕ) (old new : List ℕ) : Type 0 where
  pub long : length new ≡ 512
  pub fields : (p w : ℕ) → p + w ≤ o → field new p w ≡ field old p w
  pub ranges : (p e : ℕ) → e ≤ o → slice_range new p e ≡ slice_range old p e
  pub sums : (k : ℕ) → 2 * k ≤ o → checksum new k ≡ checksum old k

pub put-keeps : (o : ℕ) (b bytes : List ℕ) → length b ≡ 512 → o + length bytes ≤ 512 → Keeps o b (put b o bytes)
put-keeps o b bytes l h = record {
  long = length-put b o bytes (omega arith) ∙ l;
  fields = λ p w in_front. field-put_below b o bytes p w (omega arith) in_front;
  ranges = λ p e in_front. slice_range-put_below b o bytes p e (omega arith) in_front;
  sums = λ k in_front. checksum-put b o bytes k (omega arith) in_front;
}

pub put_field-keeps : (o : ℕ) (b : List ℕ) (w n : ℕ) → length b ≡ 512 → o + w ≤ 512 → Keeps o b (put_field b o w n)
put_field-keeps o b w n l h =
    let len = length-bytes_low_first 0 w n in
    put-keeps o b (little_bytes w n) l (omega arith)

pub summed-keeps : (b : List ℕ) → length b ≡ 512 → Keeps 510 b (summed b)
unfolding summed
summed-keeps b l = put_field-keeps 510 b 2 (checksum b 255) l (lit≤ tt)

-- one write after another
pub keeps-keeps : (o p : ℕ) (a b c : List ℕ) → o ≤ p → Keeps o a b → Keeps p b c → Keeps o a c
keeps-keeps o p a b c h first second = record {
  long = second.long;
  fields = λ q w in_front. second.fields q w (omega arith) ∙ first.fields q w in_front;
  ranges = λ q e in_front. second.ranges q e (omega arith) ∙ first.ranges q e in_front;
  sums = λ k in_front. second.sums k (omega arith) ∙ first.sums k in_front;
}
