-- What fields read after bytes are put into a block.
use Rattle.std.proofs.Common.{◌≡◌, ◌∙◌, ◌+◌, ◌-◌, ◌*◌, ◌^◌, ◌<◌, ◌≤◌, ◌++◌, ℕ, zero, suc, List, [], length, take, drop, get_or, refl, sym, ap, arith, lit<, length-append, length-take, length-drop}
use Rattle.std.proofs.Math.Nat.{pow-succ'}
use Rattle.std.proofs.lemmas.List.{get_or_append_left, get_or-append_right, get_or-take, get_or-drop, length-take-le}
use Rattle.byteorder.specs.Endian.{little_from, little_bytes}
use Rattle.byteorder.specs.Numbers.{little_number-reads_back, length-bytes_low_first}
use Rattle.base_words.specs.Fields.{IsBytes, field, put, put_field, word_sum, checksum, summed}

-- a write within a block keeps its length
pub length-put : (b : List ℕ) (o : ℕ) (bytes : List ℕ) → o + length bytes ≤ length b → length (put b o bytes) ≡ length b
length-put b o bytes h =
    omega (arith, length-append (take o b) (bytes ++ drop (o + length bytes) b), length-append bytes (drop (o + length bytes) b), length-take o b, length-drop (o + length bytes) b)

-- the bytes that were put stand there
pub get_or-put_in : (b : List ℕ) (o : ℕ) (bytes : List ℕ) (i k : ℕ) (d : ℕ) → o ≤ length b → i < length bytes → k ≡ o + i → get_or (put b o bytes) k d ≡ get_or bytes i d
get_or-put_in b o bytes i k d h l e =
    let front : length (take o b) ≡ o = length-take-le o b h in
    let past : k - o ≡ i = omega arith in
    get_or-append_right (take o b) (bytes ++ drop (o + length bytes) b) o k d front (omega arith)
    ∙ rw past (get_or_append_left bytes (drop (o + length bytes) b) d i l)

-- those in front of them stay
pub get_or-put_below : (b : List ℕ) (o : ℕ) (bytes : List ℕ) (k : ℕ) (d : ℕ) → o ≤ length b → k < o → get_or (put b o bytes) k d ≡ get_or b k d
get_or-put_below b o bytes k d h l =
    let front : length (take o b) ≡ o = length-take-le o b h in
    get_or_append_left (take o b) (bytes ++ drop (o + length bytes) b) d k (omega arith) ∙ get_or-take o b k d l

-- and those behind them
pub get_or-put_above : (b : List ℕ) (o : ℕ) (bytes : List ℕ) (k : ℕ) (d : ℕ) → o ≤ length b → o + length bytes ≤ k → get_or (put b o bytes) k d ≡ get_or b k d
get_or-put_above b o bytes k d h l =
    let front : length (take o b) ≡ o = length-take-le o b h in
    let same : (o + length bytes) + (k - o - length bytes) ≡ k = omega arith in
    get_or-append_right (take o b) (bytes ++ drop (o + length bytes) b) o k d front (omega arith)
    ∙ get_or-append_right bytes (drop (o + length bytes) b) (length bytes) (k - o) d refl (omega arith)
    ∙ get_or-drop (o + length bytes) b (k - o - length bytes) d
    ∙ ap (λ n. get_or b n d) same

-- numbers of the same bytes are one
pub little_from-same : (i w : ℕ) (xs ys : List ℕ) → ((k : ℕ) → i ≤ k → k < i + w → get_or xs k 0 ≡ get_or ys k 0) → little_from i w xs ≡ little_from i w ys
little_from-same i zero xs ys same = refl
little_from-same i (suc w) xs ys same =
    let here = same i (omega arith) (omega arith) in
    let rest = little_from-same (suc i) w xs ys (λ k h l. same k (omega arith) (omega arith)) in
    rw (here, rest) refl

-- a number of bytes fits them
little_from-lt : (i w : ℕ) (xs : List ℕ) → IsBytes xs → little_from i w xs < 256 ^ w
little_from-lt i zero xs bytes = lit< tt
little_from-lt i (suc w) xs bytes =
    let here = bytes i in
    let rest = little_from-lt (suc i) w xs bytes in
    rw pow-succ' (omega arith)

pub field-lt : (b : List ℕ) (o w : ℕ) → IsBytes b → field b o w < 256 ^ w
field-lt b o w bytes = little_from-lt 0 w (drop o b) (λ k. rw get_or-drop (bytes (o + k)))

-- a field is told by its bytes
pub field-same : (a b : List ℕ) (p w : ℕ) → ((k : ℕ) → p ≤ k → k < p + w → get_or a k 0 ≡ get_or b k 0) → field a p w ≡ field b p w
field-same a b p w same =
    little_from-same 0 w (drop p a) (drop p b) (λ k h l.
    get_or-drop p a k 0 ∙ same (p + k) (omega arith) (omega arith) ∙ sym (get_or-drop p b k 0))

-- the field that was put reads back
pub field-put_same : (b : List ℕ) (o w n : ℕ) → o ≤ length b → n < 256 ^ w → field (put_field b o w n) o w ≡ n
field-put_same b o w n h fits =
    field-same (put_field b o w n) (take o b ++ little_bytes w n) o w (λ k l r.
    let len = length-bytes_low_first 0 w n in
    let front : length (take o b) ≡ o = length-take-le o b h in
    get_or-put_in b o (little_bytes w n) (k - o) k 0 h (omega arith) (omega arith)
    ∙ sym (get_or-append_right (take o b) (little_bytes w n) o k 0 front l))
    ∙ back b o w n h fits
  where
    back : (b : List ℕ) (o w n : ℕ) → o ≤ length b → n < 256 ^ w → field (take o b ++ little_bytes w n) o w ≡ n
    back b o w n h fits =
        let front : length (take o b) ≡ o = length-take-le o b h in
        little_from-same 0 w (drop o (take o b ++ little_bytes w n)) (little_bytes w n ++ []) (λ k l r.
        let len = length-bytes_low_first 0 w n in
        get_or-drop o (take o b ++ little_bytes w n) k 0
        ∙ get_or-append_right (take o b) (little_bytes w n) o (o + k) 0 front (omega arith)
        ∙ (let e : o + k - o ≡ k = omega arith in rw e refl)
        ∙ sym (get_or_append_left (little_bytes w n) [] 0 k (omega arith)))
        ∙ little_number-reads_back w n [] fits

-- a field in front of what was put stays
pub field-put_below : (b : List ℕ) (o : ℕ) (bytes : List ℕ) (p w : ℕ) → o ≤ length b → p + w ≤ o → field (put b o bytes) p w ≡ field b p w
field-put_below b o bytes p w h l = field-same (put b o bytes) b p w (λ k a c. get_or-put_below b o bytes k 0 h (omega arith))

-- and one behind it
pub field-put_above : (b : List ℕ) (o : ℕ) (bytes : List ℕ) (p w : ℕ) → o ≤ length b → o + length bytes ≤ p → field (put b o bytes) p w ≡ field b p w
field-put_above b o bytes p w h l = field-same (put b o bytes) b p w (λ k a c. get_or-put_above b o bytes k 0 h (omega arith))

-- the same for a field that was put
pub field-put_field_above : (b : List ℕ) (o v n p w : ℕ) → o ≤ length b → o + v ≤ p → field (put_field b o v n) p w ≡ field b p w
field-put_field_above b o v n p w h l =
    let len = length-bytes_low_first 0 v n in
    field-put_above b o (little_bytes v n) p w h (omega arith)

pub length-put_field : (b : List ℕ) (o w n : ℕ) → o + w ≤ length b → length (put_field b o w n) ≡ length b
length-put_field b o w n h =
    let len = length-bytes_low_first 0 w n in
    length-put b o (little_bytes w n) (omega arith)

-- words in front of what was put have the same sum
pub word_sum-put : (b : List ℕ) (o : ℕ) (bytes : List ℕ) (k : ℕ) → o ≤ length b → 2 * k ≤ o → word_sum (put b o bytes) k ≡ word_sum b k
unfolding word_sum
word_sum-put b o bytes zero h l = refl
word_sum-put b o bytes (suc k) h l =
    let rest = word_sum-put b o bytes k h (omega arith) in
    let here = field-put_below b o bytes (2 * k) 2 h (omega arith) in
    rw (rest, here) refl

pub checksum-put : (b : List ℕ) (o : ℕ) (bytes : List ℕ) (k : ℕ) → o ≤ length b → 2 * k ≤ o → checksum (put b o bytes) k ≡ checksum b k
unfolding checksum
checksum-put b o bytes k h l = rw (word_sum-put b o bytes k h l) refl

pub checksum-lt : (b : List ℕ) (k : ℕ) → checksum b k < 2 ^ 16
unfolding checksum
checksum-lt b k = omega arith

-- what is written with its checksum has that checksum
pub checksum-summed : (b : List ℕ) → length b ≡ 512 → checksum (summed b) 255 ≡ checksum b 255
unfolding summed
checksum-summed b l = checksum-put b 510 (little_bytes 2 (checksum b 255)) 255 (omega arith) (omega arith)

pub field-summed : (b : List ℕ) → length b ≡ 512 → field (summed b) 510 2 ≡ checksum b 255
unfolding summed
field-summed b l =
    let small = checksum-lt b 255 in
    field-put_same b 510 2 (checksum b 255) (omega arith) (omega arith)

-- and its other fields are as before
pub field-summed_below : (b : List ℕ) (p w : ℕ) → length b ≡ 512 → p + w ≤ 510 → field (summed b) p w ≡ field b p w
unfolding summed
field-summed_below b p w l h = field-put_below b 510 (little_bytes 2 (checksum b 255)) p w (omega arith) h

pub length-summed : (b : List ℕ) → length b ≡ 512 → length (summed b) ≡ 512
unfolding summed
length-summed b l = length-put_field b 510 2 (checksum b 255) (omega arith) ∙ l

-- a byte of a block in front of the checksum stays
pub get_or-summed_below : (b : List ℕ) (k d : ℕ) → length b ≡ 512 → k < 510 → get_or (summed b) k d ≡ get_or b k d
unfolding summed
get_or-summed_below b k d l h = get_or-put_below b 510 (little_bytes 2 (checksum b 255)) k d (omega arith) h
