-- Lists of bytes.
use Rattle.std.proofs.Common.{◌+◌, ◌<◌, ◌++◌, ℕ, zero, suc, List, [], ◌∷◌, take, drop, get_or-drop, replicate, arith, lit<}
use Rattle.byteorder.specs.Endian.{little_bytes}
use Rattle.std.specs.Int.{byte_at, bytes_low_first}
use Rattle.base_words.specs.Fields.{IsBytes}

pub bytes-none : IsBytes []
bytes-none i = lit< tt

pub bytes-cons : (n : ℕ) (xs : List ℕ) → n < 256 → IsBytes xs → IsBytes (n ∷ xs)
bytes-cons n xs small h zero = small
bytes-cons n xs small h (suc i) = h i

pub bytes-append : (xs ys : List ℕ) → IsBytes xs → IsBytes ys → IsBytes (xs ++ ys)
bytes-append [] ys h k = k
bytes-append (n ∷ xs) ys h k = bytes-cons n (xs ++ ys) (h 0) (bytes-append xs ys (λ i. h (suc i)) k)

pub bytes-take : (n : ℕ) (xs : List ℕ) → IsBytes xs → IsBytes (take n xs)
bytes-take zero xs h = bytes-none
bytes-take (suc n) [] h = bytes-none
bytes-take (suc n) (x ∷ xs) h = bytes-cons x (take n xs) (h 0) (bytes-take n xs (λ i. h (suc i)))

pub bytes-drop : (n : ℕ) (xs : List ℕ) → IsBytes xs → IsBytes (drop n xs)
bytes-drop n xs h i = rw (get_or-drop n xs i 0) (h (n + i))

pub bytes-replicate : (n x : ℕ) → x < 256 → IsBytes (replicate n x)
bytes-replicate zero x small = bytes-none
bytes-replicate (suc n) x small = bytes-cons x (replicate n x) small (bytes-replicate n x small)

byte-small : (i n : ℕ) → byte_at i n < 256
byte-small zero n = omega arith
byte-small (suc i) n = omega arith

low-bytes : (i w n : ℕ) → IsBytes (bytes_low_first i w n)
low-bytes i zero n = bytes-none
low-bytes i (suc w) n = bytes-cons (byte_at i n) (bytes_low_first (suc i) w n) (byte-small i n) (low-bytes (suc i) w n)

-- the bytes of a number
pub bytes-little : (w n : ℕ) → IsBytes (little_bytes w n)
bytes-little w n = low-bytes 0 w n
