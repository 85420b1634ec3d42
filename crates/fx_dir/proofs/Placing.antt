-- Bytes that are written into a block one after another.
use Rattle.std.proofs.Common.{◌≡◌, ◌∙◌, ◌+◌, ◌*◌, ◌/◌, ◌%◌, ◌≤◌, ◌<◌, ◌++◌, true, false, ℕ, zero, suc, List, [], ◌∷◌, Option, Some, None, take, drop, length, get_or, refl, sym, ap, arith, append_assoc, append-nil, length-append, drop_of_length-le, replicate, if◌then◌else◌}
use Rattle.std.proofs.lemmas.List.{length-take-le, drop-drop}
use Rattle.std.proofs.Math.Seq.{take-append_seam, drop-append-add}
use Rattle.byteorder.specs.Endian.{little_bytes}
use Rattle.base_words.specs.Fields.{Block, put}
use Rattle.base_words.specs.Tables.{zeros}
use Rattle.base_words.specs.Packing.{padded, size}
use Rattle.fx_dir.specs.declared.RawEnt.{RawEnt}
use Rattle.fx_dir.specs.Writing.{name_of, head_bytes, version_bytes, goes_on, last_name, following, record_bytes, block_of}
use Rattle.fx_dir.specs.Pieces.{entry_bytes}
use Rattle.fx_dir.proofs.Steps.{drop-here, last-more}
use Rattle.fx_dir.proofs.Written.{length-version, length-head, length-records, block-written}

-- two texts one behind the other are one
pub put-join : (b xs ys : List ℕ) (o p : ℕ) → o ≤ length b → p ≡ o + length xs → put (put b o xs) p ys ≡ put b o (xs ++ ys)
put-join b xs ys o p h e =
    let rest = drop (o + length xs) b in
    let front : length (take o b ++ xs) ≡ p = length-append (take o b) xs ∙ ap (λ n. n + length xs) (length-take-le o b h) ∙ sym e in
    let same : put b o xs ≡ (take o b ++ xs) ++ rest = sym (append_assoc (take o b) xs rest) in
    let t : take p (put b o xs) ≡ take o b ++ xs = (λ i. take (sym front i) (same i)) ∙ take-append_seam (take o b ++ xs) rest in
    let d : drop (p + length ys) (put b o xs) ≡ drop (o + length (xs ++ ys)) b =
    (λ i. drop (sym front i + length ys) (same i)) ∙ drop-append-add (take o b ++ xs) rest (length ys) ∙ drop-drop (length ys) (o + length xs) b
    ∙ ap (λ n. drop n b) (omega (arith, length-append xs ys)) in
    (λ i. t i ++ (ys ++ d i)) ∙ append_assoc (take o b) xs (ys ++ drop (o + length (xs ++ ys)) b) ∙ ap (λ l. take o b ++ l) (sym (append_assoc xs ys (drop (o + length (xs ++ ys)) b)))

-- the records of entries, one entry at a time
pub records-one : (last : Option (List ℕ)) (e : RawEnt) (es : List RawEnt) → record_bytes last (e ∷ es) ≡ entry_bytes last e (suc (following e.name es)) ++ record_bytes (Some e.name) es
records-one last e es =
    sym (append_assoc (if goes_on last e then [] else head_bytes e (suc (following e.name es))) (version_bytes e) (record_bytes (Some e.name) es))

-- What stands in the block after i entries: their text, which ends at the place `at`.
pub record Standing (es : List RawEnt) (i at : ℕ) (b : Block) : Type 0 where
  pub text : List ℕ
  pub long : length text ≡ at
  pub stands : b ≡ put zeros 0 text
  pub left : text ++ record_bytes (last_name (take i es)) (drop i es) ≡ record_bytes None es

pub standing-none : (es : List RawEnt) (b : Block) → b ≡ zeros → Standing es 0 0 b
unfolding zeros
standing-none es b z = record { text = []; long = refl; stands = z; left = refl }

-- the records of all entries, where i entries stand
pub standing-room : (es : List RawEnt) (i at : ℕ) (b : Block) (e : RawEnt) → Standing es i at b → size name_of None es ≤ 510 → i < length es → e ≡ get_or es i e
    → at + length (entry_bytes (last_name (take i es)) e (suc (following e.name (drop (i + 1) es)))) ≤ 510
standing-room es i at b e s room h k =
    let rest = record_bytes (Some e.name) (drop (i + 1) es) in
    let d = drop-here es i e h k in
    let one : record_bytes (last_name (take i es)) (drop i es) ≡ entry_bytes (last_name (take i es)) e (suc (following e.name (drop (i + 1) es))) ++ rest =
    ap (record_bytes (last_name (take i es))) d ∙ records-one (last_name (take i es)) e (drop (i + 1) es) in
    let all : length s.text + length (record_bytes (last_name (take i es)) (drop i es)) ≡ size name_of None es =
    sym (length-append s.text (record_bytes (last_name (take i es)) (drop i es))) ∙ ap length s.left ∙ length-records None es in
    let long = s.long in
    omega (arith, ap length one, length-append (entry_bytes (last_name (take i es)) e (suc (following e.name (drop (i + 1) es)))) rest)

-- one entry more
pub standing-more : (es : List RawEnt) (i at next : ℕ) (b c : Block) (e : RawEnt) → Standing es i at b → i < length es → e ≡ get_or es i e
    → c ≡ put b at (entry_bytes (last_name (take i es)) e (suc (following e.name (drop (i + 1) es)))) → next ≡ at + length (entry_bytes (last_name (take i es)) e (suc (following e.name (drop (i + 1) es))))
    → Standing es (i + 1) next c
standing-more es i at next b c e s h k w n =
    let piece = entry_bytes (last_name (take i es)) e (suc (following e.name (drop (i + 1) es))) in
    let rest = record_bytes (Some e.name) (drop (i + 1) es) in
    let d = drop-here es i e h k in
    let one : record_bytes (last_name (take i es)) (drop i es) ≡ piece ++ rest =
    ap (record_bytes (last_name (take i es))) d ∙ records-one (last_name (take i es)) e (drop (i + 1) es) in
    record {
      text = s.text ++ piece;
      long = length-append s.text piece ∙ ap (λ m. m + length piece) s.long ∙ sym n;
      stands = w ∙ ap (λ (t : Block). put t at piece) s.stands ∙ put-join zeros s.text piece 0 at (omega arith) (sym s.long ∙ omega arith);
      left = ap (λ (m : Option (List ℕ)). (s.text ++ piece) ++ record_bytes m (drop (i + 1) es)) (last-more es i e h k) ∙ append_assoc s.text piece rest ∙ ap (λ t. s.text ++ t) (sym one) ∙ s.left;
    }

-- all entries stand, and the word that ends them
pub standing-all : (es : List RawEnt) (i at : ℕ) (b : Block) → Standing es i at b → length es ≤ i → put b at (255 ∷ 255 ∷ []) ≡ block_of es
standing-all es i at b s h =
    let end : s.text ≡ record_bytes None es = sym (append-nil s.text) ∙ ap (λ (t : List RawEnt). s.text ++ record_bytes (last_name (take i es)) t) (sym (drop_of_length-le es h)) ∙ s.left in
    ap (λ (t : Block). put t at (255 ∷ 255 ∷ [])) s.stands ∙ put-join zeros s.text (255 ∷ 255 ∷ []) 0 at (omega arith) (sym s.long ∙ omega arith)
    ∙ block-written (s.text ++ 255 ∷ 255 ∷ []) es (ap (λ t. t ++ 255 ∷ 255 ∷ []) end)

-- and the place behind them
pub standing-end : (es : List RawEnt) (i at : ℕ) (b : Block) → Standing es i at b → size name_of None es ≤ 510 → at ≤ 510
standing-end es i at b s room =
    let all : length s.text + length (record_bytes (last_name (take i es)) (drop i es)) ≡ size name_of None es =
    sym (length-append s.text (record_bytes (last_name (take i es)) (drop i es))) ∙ ap length s.left ∙ length-records None es in
    let long = s.long in
    omega arith

-- at most one zero
pub take-zero : (k : ℕ) → k ≤ 1 → take {A = ℕ} k (0 ∷ []) ≡ replicate k 0
take-zero zero h = refl
take-zero (suc zero) h = refl
take-zero (suc (suc k)) h = absurd (omega arith)

-- ---- one entry

put-four : (b xs ys zs ws : List ℕ) (o p q r : ℕ) → o ≤ length b → p ≡ o + length xs → q ≡ p + length ys → r ≡ q + length zs → put (put (put (put b o xs) p ys) q zs) r ws ≡ put b o (xs ++ (ys ++ (zs ++ ws)))
put-four b xs ys zs ws o p q r h k l m =
    let two = length-append xs ys in
    ap (λ (t : List ℕ). put (put t q zs) r ws) (put-join b xs ys o p h k)
    ∙ ap (λ (t : List ℕ). put t r ws) (put-join b (xs ++ ys) zs o q h (omega arith))
    ∙ put-join b ((xs ++ ys) ++ zs) ws o r h (omega (arith, length-append (xs ++ ys) zs))
    ∙ ap (put b o) (append_assoc (xs ++ ys) zs ws ∙ append_assoc xs ys (zs ++ ws))

put-five : (b xs ys zs ws vs : List ℕ) (o p q r t : ℕ) → o ≤ length b → p ≡ o + length xs → q ≡ p + length ys → r ≡ q + length zs → t ≡ r + length ws
    → put (put (put (put (put b o xs) p ys) q zs) r ws) t vs ≡ put b o (xs ++ (ys ++ (zs ++ (ws ++ vs))))
put-five b xs ys zs ws vs o p q r t h k l m n =
    ap (λ (a : List ℕ). put a t vs) (put-four b xs ys zs ws o p q r h k l m)
    ∙ put-join b (xs ++ (ys ++ (zs ++ ws))) vs o t h (omega (arith, length-append xs (ys ++ (zs ++ ws)), length-append ys (zs ++ ws), length-append zs ws))
    ∙ ap (put b o) (append_assoc xs (ys ++ (zs ++ ws)) vs ∙ ap (λ (a : List ℕ). xs ++ a) (append_assoc ys (zs ++ ws) vs ∙ ap (λ (a : List ℕ). ys ++ a) (append_assoc zs ws vs)))

pub version-put : (a b c d f : Block) (at : ℕ) (e : RawEnt) → at ≤ length a → b ≡ put a at (little_bytes 2 e.ver) → c ≡ put b (at + 2) (little_bytes 2 (e.num % 65536)) → d ≡ put c (at + 4) (little_bytes 2 e.seq)
    → f ≡ put d (at + 6) (0 ∷ e.num / 65536 ∷ []) → f ≡ put a at (version_bytes e)
unfolding version_bytes
version-put a b c d f at e h p q r s =
    rw (s, r, q, p) (put-four a (little_bytes 2 e.ver) (little_bytes 2 (e.num % 65536)) (little_bytes 2 e.seq) (0 ∷ e.num / 65536 ∷ []) at (at + 2) (at + 4) (at + 6) h refl (omega arith) (omega arith))

pub head-put : (a b c d f g : Block) (at n k : ℕ) (name : List ℕ) (e : RawEnt) → at ≤ length a → name ≡ e.name → k ≡ 4 + (length name + length name % 2) + 8 * n
    → b ≡ put a at (little_bytes 2 k) → c ≡ put b (at + 2) (little_bytes 2 e.limit) → d ≡ put c (at + 4) (e.flags ∷ length name ∷ [])
    → f ≡ put d (at + 6) name → g ≡ put f (at + 6 + length name) (take {A = ℕ} (length name % 2) (0 ∷ [])) → g ≡ put a at (head_bytes e n)
unfolding head_bytes
head-put a b c d f g at n k name e h is size p q r s t =
    let z : take {A = ℕ} (length name % 2) (0 ∷ []) ≡ replicate (length name % 2) 0 = take-zero (length name % 2) (omega arith) in
    rw (t, z, s, r, q, p, size, is) (put-five a (little_bytes 2 (4 + (length e.name + length e.name % 2) + 8 * n)) (little_bytes 2 e.limit) (e.flags ∷ length e.name ∷ []) e.name (replicate (length e.name % 2) 0) at (at + 2) (at + 4) (at + 6) (at + 6 + length e.name) h refl (omega arith) (omega arith) refl)

-- in the record in front
pub entry-goes_on : (last : Option (List ℕ)) (e : RawEnt) (n : ℕ) → goes_on last e ≡ true → entry_bytes last e n ≡ version_bytes e
entry-goes_on last e n g = rw g refl

-- in a record of its own
pub entry-begins : (last : Option (List ℕ)) (e : RawEnt) (n : ℕ) → goes_on last e ≡ false → entry_bytes last e n ≡ head_bytes e n ++ version_bytes e
entry-begins last e n g = rw g refl

pub entry-long : (last : Option (List ℕ)) (e : RawEnt) (n : ℕ) → goes_on last e ≡ false → length (entry_bytes last e n) ≡ 6 + padded e.name + 8
entry-long last e n g = ap length (entry-begins last e n g) ∙ length-append (head_bytes e n) (version_bytes e) ∙ (λ i. length-head e n i + length-version e i)

-- its head and its version
pub entry-put : (a b c : Block) (at : ℕ) (last : Option (List ℕ)) (e : RawEnt) (n p : ℕ) → at ≤ length a → goes_on last e ≡ false → b ≡ put a at (head_bytes e n) → p ≡ at + (6 + padded e.name) → c ≡ put b p (version_bytes e)
    → c ≡ put a at (entry_bytes last e n)
entry-put a b c at last e n p h g k l m =
    m ∙ ap (λ (t : Block). put t p (version_bytes e)) k ∙ put-join a (head_bytes e n) (version_bytes e) at p h (omega (arith, length-head e n)) ∙ ap (put a at) (sym (entry-begins last e n g))
