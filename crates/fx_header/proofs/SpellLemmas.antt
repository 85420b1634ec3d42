-- Runs that are spelt by pointers read back.
use Rattle.std.proofs.Common.{◌≡◌, ◌∙◌, ◌+◌, ◌-◌, ◌*◌, ◌/◌, ◌%◌, ◌^◌, ◌<◌, ◌≤◌, ℕ, zero, suc, List, [], ◌∷◌, ◌++◌, drop, length, length-append, append_assoc, Option, Some, refl, sym, ap, inl, inr, arith}
use Rattle.std.specs.Prelude.{flat_map}
use Rattle.std.specs.List.{range_with_len}
use Rattle.std.proofs.lemmas.List.{drop_at}
use Rattle.std.proofs.lemmas.List.Elements.{All-head, All-tail, All-cons}
use Rattle.std.proofs.lemmas.List.Sums.{sum_by-cons}
use Rattle.std.proofs.lemmas.Bool.{eq-eqb, ne_eqb, cases_eq, cases_lt, lt-ltb, le-ltb}
use Rattle.byteorder.specs.Numbers.{little_number-reads_back}
use Rattle.base_words.specs.Fields.{field}
use Rattle.fx_header.specs.declared.run.Run.{Run}
use Rattle.fx_header.specs.Pointers.{format_of, pointer_size, run_from, pointer_run, before, runs_of, rest_of, joined, merged, word, long, first_word, pointer_to, pointer_bytes, map_words, IsRun, AreRuns, lbns_in, blocks_in}
use Rattle.fx_header.proofs.PointerLemmas.{runs_of-whole, rest_of-whole, runs_of-nil, rest_of-nil}

-- a pointer of each format
run-1 : (p : List ℕ) → format_of p ≡ 1 → pointer_run p ≡ run_from (field p 0 2 / 2 ^ 8 % 2 ^ 6 * 2 ^ 16 + field p 2 2) (field p 0 2 % 2 ^ 8)
unfolding pointer_run
run-1 p e = rw e refl

run-2 : (p : List ℕ) → format_of p ≡ 2 → pointer_run p ≡ run_from (field p 2 4) (field p 0 2 % 2 ^ 14)
unfolding pointer_run
run-2 p e = rw e refl

run-3 : (p : List ℕ) → format_of p ≡ 3 → pointer_run p ≡ run_from (field p 4 4) (field p 0 2 % 2 ^ 14 * 2 ^ 16 + field p 2 2)
unfolding pointer_run
run-3 p e = rw e refl

-- the bytes begin with a pointer of these bytes, which spells this run
record Begins (p bytes : List ℕ) (r : Option Run) : Type 0 where
  size : pointer_size p ≡ length bytes
  spells : pointer_run p ≡ r

begins-1 : (lbn n : ℕ) (rest : List ℕ) → lbn < 2 ^ 22 → n < 2 ^ 8
    → Begins (first_word 1 (lbn / 2 ^ 16 * 2 ^ 8 + n) ++ word (lbn % 2 ^ 16) ++ rest) (first_word 1 (lbn / 2 ^ 16 * 2 ^ 8 + n) ++ word (lbn % 2 ^ 16)) (run_from lbn n)
begins-1 lbn n rest low few =
    let p : List ℕ = first_word 1 (lbn / 2 ^ 16 * 2 ^ 8 + n) ++ word (lbn % 2 ^ 16) ++ rest in
    let first : field p 0 2 ≡ 2 ^ 14 + (lbn / 2 ^ 16 * 2 ^ 8 + n) = little_number-reads_back 2 (2 ^ 14 + (lbn / 2 ^ 16 * 2 ^ 8 + n)) (word (lbn % 2 ^ 16) ++ rest) (omega arith) in
    let second : field p 2 2 ≡ lbn % 2 ^ 16 = little_number-reads_back 2 (lbn % 2 ^ 16) rest (omega arith) in
    let format : format_of p ≡ 1 = omega arith in
    let at : field p 0 2 / 2 ^ 8 % 2 ^ 6 * 2 ^ 16 + field p 2 2 ≡ lbn = omega arith in
    let count : field p 0 2 % 2 ^ 8 ≡ n = omega arith in
    record { size = ap (λ f. 2 + 2 * f) format; spells = run-1 p format ∙ ap (λ l. run_from l (field p 0 2 % 2 ^ 8)) at ∙ ap (run_from lbn) count }

begins-2 : (lbn n : ℕ) (rest : List ℕ) → lbn < 2 ^ 32 → n < 2 ^ 14
    → Begins (first_word 2 n ++ long lbn ++ rest) (first_word 2 n ++ long lbn) (run_from lbn n)
begins-2 lbn n rest low few =
    let p : List ℕ = first_word 2 n ++ long lbn ++ rest in
    let first : field p 0 2 ≡ 2 * 2 ^ 14 + n = little_number-reads_back 2 (2 * 2 ^ 14 + n) (long lbn ++ rest) (omega arith) in
    let at : field p 2 4 ≡ lbn = little_number-reads_back 4 lbn rest low in
    let format : format_of p ≡ 2 = omega arith in
    let count : field p 0 2 % 2 ^ 14 ≡ n = omega arith in
    record { size = ap (λ f. 2 + 2 * f) format; spells = run-2 p format ∙ ap (λ l. run_from l (field p 0 2 % 2 ^ 14)) at ∙ ap (run_from lbn) count }

begins-3 : (lbn n : ℕ) (rest : List ℕ) → lbn < 2 ^ 32 → n < 2 ^ 30
    → Begins (first_word 3 (n / 2 ^ 16) ++ word (n % 2 ^ 16) ++ long lbn ++ rest) (first_word 3 (n / 2 ^ 16) ++ word (n % 2 ^ 16) ++ long lbn) (run_from lbn n)
begins-3 lbn n rest low few =
    let p : List ℕ = first_word 3 (n / 2 ^ 16) ++ word (n % 2 ^ 16) ++ long lbn ++ rest in
    let first : field p 0 2 ≡ 3 * 2 ^ 14 + n / 2 ^ 16 = little_number-reads_back 2 (3 * 2 ^ 14 + n / 2 ^ 16) (word (n % 2 ^ 16) ++ long lbn ++ rest) (omega arith) in
    let second : field p 2 2 ≡ n % 2 ^ 16 = little_number-reads_back 2 (n % 2 ^ 16) (long lbn ++ rest) (omega arith) in
    let at : field p 4 4 ≡ lbn = little_number-reads_back 4 lbn rest low in
    let format : format_of p ≡ 3 = omega arith in
    let count : field p 0 2 % 2 ^ 14 * 2 ^ 16 + field p 2 2 ≡ n = omega arith in
    record { size = ap (λ f. 2 + 2 * f) format; spells = run-3 p format ∙ ap (λ l. run_from l (field p 0 2 % 2 ^ 14 * 2 ^ 16 + field p 2 2)) at ∙ ap (run_from lbn) count }

-- the first format that has room is one that reads back
begins-to : (lbn n : ℕ) (rest : List ℕ) → lbn < 2 ^ 22 → n < 2 ^ 30 → Begins (pointer_to lbn n ++ rest) (pointer_to lbn n) (run_from lbn n)
begins-to lbn n rest low few =
    elim (cases_lt n (2 ^ 8)) [
      | inl byte ↦ rw (lt-ltb lbn (2 ^ 22) low, lt-ltb n (2 ^ 8) byte) (begins-1 lbn n rest low byte)
      | inr more ↦ elim (cases_lt n (2 ^ 14)) [
        | inl short ↦ rw (lt-ltb lbn (2 ^ 22) low, le-ltb n (2 ^ 8) more, lt-ltb n (2 ^ 14) short) (begins-2 lbn n rest (omega arith) short)
        | inr long ↦ rw (lt-ltb lbn (2 ^ 22) low, le-ltb n (2 ^ 8) more, le-ltb n (2 ^ 14) long) (begins-3 lbn n rest (omega arith) few)
      ]
    ]

begins-pointer : (r : Run) (rest : List ℕ) → IsRun r → Begins (pointer_bytes r ++ rest) (pointer_bytes r) (Some r)
unfolding pointer_bytes
begins-pointer r rest h =
    let b = begins-to r.lbn (r.count - 1) rest (omega (arith, h.0, h.1)) (omega (arith, h.0, h.1)) in
    let blocks : r.count - 1 + 1 ≡ r.count = omega (arith, h.0) in
    record { size = b.size; spells = b.spells ∙ ap (λ n. Some (record { lbn = r.lbn; count = n })) blocks }

-- runs that are spelt read back, and nothing is left
pub reads-runs : (runs : List Run) → AreRuns runs → (runs_of (flat_map pointer_bytes runs) ≡ runs) × (rest_of (flat_map pointer_bytes runs) ≡ [])
reads-runs [] h = (runs_of-nil, rest_of-nil)
reads-runs (r ∷ runs) h =
    let rest : List ℕ = flat_map pointer_bytes runs in
    let p : List ℕ = pointer_bytes r ++ rest in
    let b = begins-pointer r rest (All-head IsRun r runs h) in
    let whole : pointer_size p ≤ length p = omega (arith, b.size, length-append (pointer_bytes r) rest) in
    let behind : drop (pointer_size p) p ≡ rest = drop_at (pointer_bytes r) rest (pointer_size p) (sym b.size) in
    let others = reads-runs runs (All-tail IsRun r runs h) in (
      runs_of-whole p whole ∙ ap (λ o. before o (runs_of (drop (pointer_size p) p))) b.spells ∙ ap (λ q. r ∷ runs_of q) behind ∙ ap (λ rs. r ∷ rs) others.0,
      rest_of-whole p whole ∙ ap rest_of behind ∙ others.1,
    )

-- pointers are whole words
even-runs : (runs : List Run) → AreRuns runs → length (flat_map pointer_bytes runs) ≡ 2 * (length (flat_map pointer_bytes runs) / 2)
even-runs [] h = refl
even-runs (r ∷ runs) h =
    let rest : List ℕ = flat_map pointer_bytes runs in
    let b = begins-pointer r rest (All-head IsRun r runs h) in
    let others = even-runs runs (All-tail IsRun r runs h) in
    omega (arith, b.size, others, length-append (pointer_bytes r) rest)

-- a pointer takes two bytes at least, and spells 65,536 blocks at most
few-runs : (runs : List Run) → AreRuns runs → 2 * blocks_in runs ≤ 65536 * length (flat_map pointer_bytes runs)
few-runs [] h = omega arith
few-runs (r ∷ runs) h =
    let rest : List ℕ = flat_map pointer_bytes runs in
    let run = All-head IsRun r runs h in
    let b = begins-pointer r rest run in
    let others = few-runs runs (All-tail IsRun r runs h) in
    omega (arith, b.size, others, run.1, length-append (pointer_bytes r) rest, sum_by-cons (λ x. x.count) r runs)

-- merged runs are runs
AreRuns-joined : (r : Run) (runs : List Run) → IsRun r → AreRuns runs → AreRuns (joined r runs)
AreRuns-joined r [] h k = All-cons IsRun r [] h k
AreRuns-joined r (s ∷ runs) h k =
    let at = All-head IsRun s runs k in
    elim (cases_eq (r.lbn + r.count) s.lbn) [
      | inl touch ↦ rw (eq-eqb (r.lbn + r.count) s.lbn touch)
          (All-cons IsRun (record { lbn = r.lbn; count = r.count + s.count }) runs (omega (arith, h.0), omega (arith, touch, at.1)) (All-tail IsRun s runs k))
      | inr apart ↦ rw (ne_eqb (r.lbn + r.count) s.lbn apart) (All-cons IsRun r (s ∷ runs) h k)
    ]

pub AreRuns-merged : (runs : List Run) → AreRuns runs → AreRuns (merged runs)
AreRuns-merged [] h = h
AreRuns-merged (r ∷ runs) h = AreRuns-joined r (merged runs) (All-head IsRun r runs h) (AreRuns-merged runs (All-tail IsRun r runs h))

-- the words of runs
pub runs_of-words : (runs : List Run) → AreRuns runs → runs_of (map_words runs) ≡ merged runs
runs_of-words runs h = (reads-runs (merged runs) (AreRuns-merged runs h)).0

pub rest_of-words : (runs : List Run) → AreRuns runs → rest_of (map_words runs) ≡ []
rest_of-words runs h = (reads-runs (merged runs) (AreRuns-merged runs h)).1

pub even-words : (runs : List Run) → AreRuns runs → length (map_words runs) ≡ 2 * (length (map_words runs) / 2)
even-words runs h = even-runs (merged runs) (AreRuns-merged runs h)

range-split : (a m n : ℕ) → range_with_len a (m + n) ≡ range_with_len a m ++ range_with_len (a + m) n
range-split a zero n = let e : 0 + n ≡ n = omega arith in let at : a + 0 ≡ a = omega arith in rw (e, at) refl
range-split a (suc m) n =
    let e : suc m + n ≡ suc (m + n) = omega arith in
    let at : a + suc m ≡ a + 1 + m = omega arith in
    rw (e, at) (ap (λ xs. a ∷ xs) (range-split (a + 1) m n))

-- merging keeps the blocks, and their number
lbns_in-joined : (r : Run) (runs : List Run) → lbns_in (joined r runs) ≡ range_with_len r.lbn r.count ++ lbns_in runs
lbns_in-joined r [] = refl
lbns_in-joined r (s ∷ runs) =
    elim (cases_eq (r.lbn + r.count) s.lbn) [
      | inl touch ↦ rw (eq-eqb (r.lbn + r.count) s.lbn touch)
          (ap (λ xs. xs ++ lbns_in runs) (range-split r.lbn r.count s.count ∙ ap (λ n. range_with_len r.lbn r.count ++ range_with_len n s.count) touch) ∙ append_assoc (range_with_len r.lbn r.count) (range_with_len s.lbn s.count) (lbns_in runs))
      | inr apart ↦ rw (ne_eqb (r.lbn + r.count) s.lbn apart) refl
    ]

pub lbns_in-merged : (runs : List Run) → lbns_in (merged runs) ≡ lbns_in runs
lbns_in-merged [] = refl
lbns_in-merged (r ∷ runs) = lbns_in-joined r (merged runs) ∙ ap (λ xs. range_with_len r.lbn r.count ++ xs) (lbns_in-merged runs)

blocks_in-joined : (r : Run) (runs : List Run) → blocks_in (joined r runs) ≡ r.count + blocks_in runs
blocks_in-joined r [] = omega arith
blocks_in-joined r (s ∷ runs) =
    let f : Run → ℕ = λ x. x.count in
    let under = sum_by-cons f s runs in
    elim (cases_eq (r.lbn + r.count) s.lbn) [
      | inl touch ↦ rw (eq-eqb (r.lbn + r.count) s.lbn touch) (omega (arith, under, sum_by-cons f (record { lbn = r.lbn; count = r.count + s.count }) runs))
      | inr apart ↦ rw (ne_eqb (r.lbn + r.count) s.lbn apart) (sum_by-cons f r (s ∷ runs))
    ]

pub blocks_in-merged : (runs : List Run) → blocks_in (merged runs) ≡ blocks_in runs
blocks_in-merged [] = refl
blocks_in-merged (r ∷ runs) = blocks_in-joined r (merged runs) ∙ ap (λ n. r.count + n) (blocks_in-merged runs) ∙ sym (sum_by-cons (λ x. x.count) r runs)

pub few-blocks : (runs : List Run) → AreRuns runs → 2 * blocks_in runs ≤ 65536 * length (map_words runs)
few-blocks runs h = let few = few-runs (merged runs) (AreRuns-merged runs h) in omega (arith, few, blocks_in-merged runs)
