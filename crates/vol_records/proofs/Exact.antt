-- A stream reads as the lines of which it is the records, and as no others.
use Rattle.std.proofs.Common.{◌≡◌, ◌∙◌, ◌+◌, ◌-◌, ◌%◌, ◌<◌, ◌≤◌, ℕ, zero, suc, true, false, List, [], ◌∷◌, ◌++◌, length, map, take, drop, nat_lt, Result, Ok, Err, All, IsOkAnd, inl, inr, refl, sym, ap, arith, subst, append_assoc, length-append, length-drop, length-take-le}
use Rattle.std.proofs.lemmas.Bool.{cases_lt}
use Rattle.std.proofs.lemmas.Bool.Decides.{nat_tests}
use Rattle.std.proofs.lemmas.List.{take_at, drop_at, drop-drop, take-append-drop, nil_from_length}
use Rattle.std.proofs.lemmas.List.Elements.{All-nil, All-cons, All-head, All-tail}
use Rattle.byteorder.specs.Endian.{little_number}
use Rattle.byteorder.specs.Numbers.{little_from-append, little_from-take}
use Rattle.vol_records.specs.declared.types.Rec.{Rec}
use Rattle.vol_records.specs.declared.types.RecFault.{RecFault}
use Rattle.vol_records.specs.Records.{room_of, front_record, in_front, and_behind, records_from, records_of, data_at, ReadsAs, BeginsWith, AreRecordsOf, ReadsExactly}
use Rattle.vol_records.proofs.Streams.{records_from-ends, records_from-one, records_from-goes}

abbrev pub IsShort : List ℕ → Type 0
IsShort line = length line ≤ 32767

-- the record of a line at the front is read as it is
pub length-begins : (line stream rest : List ℕ) → BeginsWith line stream rest → length stream ≡ room_of (length line) + length rest
length-begins line stream rest h =
    omega (arith, ap length h.in_order, length-append h.count (line ++ (h.padding ++ rest)), length-append line (h.padding ++ rest), length-append h.padding rest, h.two_bytes, h.even)

pub front_record-begins : (at : ℕ) (line stream rest : List ℕ) → IsShort line → BeginsWith line stream rest → front_record at stream ≡ Ok (record { from = at + 2; len = length line })
unfolding front_record
front_record-begins at line stream rest short h =
    let count : little_number 2 stream ≡ length line = ap (little_number 2) h.in_order ∙ little_from-append 2 h.count (line ++ (h.padding ++ rest)) (omega (arith, h.two_bytes)) ∙ h.says_length in
    let long = length-begins line stream rest h in
    rw (count, long) (grind (arith, nat_tests))

pub drop-begins : (line stream rest : List ℕ) → BeginsWith line stream rest → drop (room_of (length line)) stream ≡ rest
drop-begins line stream rest h =
    let grouped : h.count ++ (line ++ (h.padding ++ rest)) ≡ (h.count ++ (line ++ h.padding)) ++ rest =
    sym (append_assoc h.count (line ++ h.padding) rest ∙ ap (λ l. h.count ++ l) (append_assoc line h.padding rest)) in
    let long : length (h.count ++ (line ++ h.padding)) ≡ room_of (length line) = omega (arith, length-append h.count (line ++ h.padding), length-append line h.padding, h.two_bytes, h.even) in
    ap (drop (room_of (length line))) (h.in_order ∙ grouped) ∙ drop_at (h.count ++ (line ++ h.padding)) rest (room_of (length line)) long

data_at-begins : (front line stream rest : List ℕ) → BeginsWith line stream rest → data_at (front ++ stream) (record { from = length front + 2; len = length line }) ≡ line
data_at-begins front line stream rest h =
    let grouped : front ++ stream ≡ (front ++ h.count) ++ (line ++ (h.padding ++ rest)) = ap (λ l. front ++ l) h.in_order ∙ sym (append_assoc front h.count (line ++ (h.padding ++ rest))) in
    let long : length (front ++ h.count) ≡ length front + 2 = omega (arith, length-append front h.count, h.two_bytes) in
    ap (λ l. take (length line) (drop (length front + 2) l)) grouped
    ∙ ap (take (length line)) (drop_at (front ++ h.count) (line ++ (h.padding ++ rest)) (length front + 2) long)
    ∙ take_at line (h.padding ++ rest) (length line) refl

-- what of a stream is read, and what is behind it
behind-begins : (front line stream rest : List ℕ) → BeginsWith line stream rest → front ++ stream ≡ (front ++ take (room_of (length line)) stream) ++ rest
behind-begins front line stream rest h =
    ap (λ l. front ++ l) (sym (take-append-drop (room_of (length line)) stream) ∙ ap (λ l. take (room_of (length line)) stream ++ l) (drop-begins line stream rest h))
    ∙ sym (append_assoc front (take (room_of (length line)) stream) rest)

length-front : (front line stream rest : List ℕ) → BeginsWith line stream rest → length (front ++ take (room_of (length line)) stream) ≡ length front + room_of (length line)
length-front front line stream rest h =
    let within : room_of (length line) ≤ length stream = omega (arith, length-begins line stream rest h) in
    omega (arith, length-append front (take (room_of (length line)) stream), length-take-le (room_of (length line)) stream within)

-- behind `front` a stream reads as lines
pub record ReadBehind (most : ℕ) (front stream : List ℕ) (lines : List (List ℕ)) : Type 0 where
  pub places : List Rec
  pub read : records_from most (length front) stream ≡ Ok places
  pub told : map (data_at (front ++ stream)) places ≡ lines

read_all : (lines : List (List ℕ)) (most : ℕ) (front stream : List ℕ) → length lines ≤ most → All IsShort lines → AreRecordsOf lines stream → ReadBehind most front stream lines
read_all [] most front stream fuel short h = record { places = []; read = records_from-ends most (length front) stream (ap length h); told = refl }
read_all (line ∷ lines) most front stream fuel short h =
    let rest = h.0 in
    let begins = h.1.0 in
    let r : Rec = record { from = length front + 2; len = length line } in
    let read = take (room_of (length line)) stream in
    let inner = read_all lines (most - 1) (front ++ read) rest (omega arith) (All-tail IsShort line lines short) h.1.1 in
    let some : 0 < length stream = omega (arith, length-begins line stream rest begins) in
    let at = length-front front line stream rest begins in
    let goes = records_from-goes most (length front) stream r (omega arith) some (front_record-begins (length front) line stream rest (All-head IsShort line lines short) begins) in
    let others : records_from (most - 1) (length front + room_of (length line)) (drop (room_of (length line)) stream) ≡ Ok inner.places =
    ap (records_from (most - 1) (length front + room_of (length line))) (drop-begins line stream rest begins)
    ∙ ap (λ n. records_from (most - 1) n rest) (sym at)
    ∙ inner.read in
    let behind : map (data_at (front ++ stream)) inner.places ≡ lines = ap (λ s. map (data_at s) inner.places) (behind-begins front line stream rest begins) ∙ inner.told in
    let first = data_at-begins front line stream rest begins in
    record {
      places = r ∷ inner.places;
      read = goes ∙ ap (in_front (r ∷ [])) others;
      told = cc;
    }

-- there are no more lines than bytes
pub few : (lines : List (List ℕ)) (stream : List ℕ) → AreRecordsOf lines stream → length lines ≤ length stream
few [] stream h = omega arith
few (line ∷ lines) stream h = omega (arith, few lines h.0 h.1.1, length-begins line stream h.0 h.1.0)

pub reads : (stream : List ℕ) (lines : List (List ℕ)) → All IsShort lines → AreRecordsOf lines stream → ReadsAs stream lines
unfolding records_of
reads stream lines short h =
    let all = read_all lines (length stream) [] stream (few lines stream h) short h in
    let P : Result (List Rec) RecFault → Type 0 = λ given. IsOkAnd given (λ places. map (data_at stream) places ≡ lines) in
    subst P (sym all.read) all.told

-- a record at the front, of a stream that is long enough
pub record IsWhole (at : ℕ) (left : List ℕ) (r : Rec) : Type 0 where
  pub two : 2 ≤ length left
  pub short : little_number 2 left ≤ 32767
  pub room : room_of (little_number 2 left) ≤ length left
  pub from : r.from ≡ at + 2
  pub len : r.len ≡ little_number 2 left

pub front_record-whole : (at : ℕ) (left : List ℕ) (r : Rec) → front_record at left ≡ Ok r → IsWhole at left r
unfolding front_record
front_record-whole at left r h = elim (cases_lt (length left) 2) [
  | inl few ↦
      let test : nat_lt (length left) 2 ≡ true = grind (arith, nat_tests) in
      let e = rw test at h in absurd cc
  | inr two ↦
      let test : nat_lt (length left) 2 ≡ false = grind (arith, nat_tests) in
      let h1 = rw test at h in
      elim (cases_lt 32767 (little_number 2 left)) [
        | inl bad ↦
            let test1 : nat_lt 32767 (little_number 2 left) ≡ true = grind (arith, nat_tests) in
            let e = rw test1 at h1 in absurd cc
        | inr good ↦
            let test1 : nat_lt 32767 (little_number 2 left) ≡ false = grind (arith, nat_tests) in
            let h2 = rw test1 at h1 in
            elim (cases_lt (length left) (room_of (little_number 2 left))) [
              | inl cut ↦
                  let test2 : nat_lt (length left) (room_of (little_number 2 left)) ≡ true = grind (arith, nat_tests) in
                  let e = rw test2 at h2 in absurd cc
              | inr whole ↦
                  let test2 : nat_lt (length left) (room_of (little_number 2 left)) ≡ false = grind (arith, nat_tests) in
                  let e = rw test2 at h2 in
                  let same : record { from = at + 2; len = little_number 2 left } ≡ r = cc in
                  record { two = two; short = good; room = whole; from = sym (ap (λ (q : Rec). q.from) same); len = sym (ap (λ (q : Rec). q.len) same) }
            ]
      ]
]

-- what was read first, and what behind it
pub record ReadsFirst (front : Result Rec RecFault) (behind : Rec → Result (List Rec) RecFault) (places : List Rec) : Type 0 where
  pub r : Rec
  pub others : List Rec
  pub first : front ≡ Ok r
  pub rest : behind r ≡ Ok others
  pub all : places ≡ r ∷ others

in_front-Ok : (r : Rec) (given : Result (List Rec) RecFault) (places : List Rec) → in_front (r ∷ []) given ≡ Ok places → (others : List Rec) × ((given ≡ Ok others) × (places ≡ r ∷ others))
in_front-Ok r (Ok others) places h = (others, (refl, cc))
in_front-Ok r (Err fault) places h = absurd cc

and_behind-Ok : (front : Result Rec RecFault) (behind : Rec → Result (List Rec) RecFault) (places : List Rec) → and_behind front behind ≡ Ok places → ReadsFirst front behind places
and_behind-Ok (Ok r) behind places h = let p = in_front-Ok r (behind r) places h in record { r = r; others = p.0; first = refl; rest = p.1.0; all = p.1.1 }
and_behind-Ok (Err fault) behind places h = absurd cc

data_at-whole : (front left : List ℕ) (r : Rec) → IsWhole (length front) left r → data_at (front ++ left) r ≡ take r.len (drop 2 left)
data_at-whole front left r h =
    ap (λ o. take r.len (drop o (front ++ left))) h.from ∙ ap (take r.len) (sym (drop-drop 2 (length front) (front ++ left)) ∙ ap (drop 2) (drop_at front left (length front) refl))

pub length-data_at : (front left : List ℕ) (r : Rec) → IsWhole (length front) left r → length (data_at (front ++ left) r) ≡ r.len
length-data_at front left r h =
    ap length (data_at-whole front left r h) ∙ length-take-le r.len (drop 2 left) (omega (arith, length-drop 2 left, h.room, h.len))

-- a whole record at the front is the record of its data
pub whole-begins : (front left : List ℕ) (r : Rec) → IsWhole (length front) left r → BeginsWith (data_at (front ++ left) r) left (drop (room_of r.len) left)
whole-begins front left r h =
    let n = r.len in
    let inside : room_of n ≤ length left = omega (arith, h.room, h.len) in
    let line = data_at-whole front left r h in
    let behind : drop n (drop 2 left) ≡ drop (2 + n) left = drop-drop n 2 left in
    let rest : drop (n % 2) (drop (2 + n) left) ≡ drop (room_of n) left = drop-drop (n % 2) (2 + n) left in
    let padding : length (take (n % 2) (drop (2 + n) left)) ≡ n % 2 = length-take-le (n % 2) (drop (2 + n) left) (omega (arith, length-drop (2 + n) left)) in
    let in_data : drop 2 left ≡ take n (drop 2 left) ++ drop (2 + n) left = sym (take-append-drop n (drop 2 left)) ∙ ap (λ l. take n (drop 2 left) ++ l) behind in
    let in_padding : drop (2 + n) left ≡ take (n % 2) (drop (2 + n) left) ++ drop (room_of n) left = sym (take-append-drop (n % 2) (drop (2 + n) left)) ∙ ap (λ l. take (n % 2) (drop (2 + n) left) ++ l) rest in
    let all : left ≡ take 2 left ++ (take n (drop 2 left) ++ (take (n % 2) (drop (2 + n) left) ++ drop (room_of n) left)) =
    sym (take-append-drop 2 left) ∙ ap (λ l. take 2 left ++ l) (in_data ∙ ap (λ l. take n (drop 2 left) ++ l) in_padding) in
    let len = length-data_at front left r h in
    record {
      count = take 2 left;
      padding = take (n % 2) (drop (2 + n) left);
      two_bytes = length-take-le 2 left h.two;
      says_length = little_from-take 0 2 2 left (omega arith) ∙ sym h.len ∙ sym len;
      even = padding ∙ ap (λ m. m % 2) (sym len);
      in_order = all ∙ ap (λ d. take 2 left ++ (d ++ (take (n % 2) (drop (2 + n) left) ++ drop (room_of n) left))) (sym line);
    }

-- what is read tells the stream
pub record IsTold (front left : List ℕ) (places : List Rec) : Type 0 where
  pub short : All IsShort (map (data_at (front ++ left)) places)
  pub records : AreRecordsOf (map (data_at (front ++ left)) places) left

told_none : (front left : List ℕ) (places : List Rec) (most : ℕ) → length left ≡ 0 → records_from most (length front) left ≡ Ok places → IsTold front left places
told_none front left places most none h =
    let empty : places ≡ [] = let e = records_from-ends most (length front) left none in cc in
    subst (IsTold front left) (sym empty) (record { short = All-nil IsShort; records = nil_from_length left none })

told_more : (front left : List ℕ) (r : Rec) (others : List Rec) → IsWhole (length front) left r
    → IsTold (front ++ take (room_of r.len) left) (drop (room_of r.len) left) others → IsTold front left (r ∷ others)
told_more front left r others whole inner =
    let line = data_at (front ++ left) r in
    let rest = drop (room_of r.len) left in
    let begins = whole-begins front left r whole in
    let short : IsShort line = omega (arith, length-data_at front left r whole, whole.len, whole.short) in
    let all : (front ++ take (room_of r.len) left) ++ rest ≡ front ++ left = append_assoc front (take (room_of r.len) left) rest ∙ ap (λ l. front ++ l) (take-append-drop (room_of r.len) left) in
    let same : map (data_at ((front ++ take (room_of r.len) left) ++ rest)) others ≡ map (data_at (front ++ left)) others = ap (λ s. map (data_at s) others) all in
    record {
      short = All-cons IsShort line (map (data_at (front ++ left)) others) short (subst (All IsShort) same inner.short);
      records = (rest, (begins, subst (λ ls. AreRecordsOf ls rest) same inner.records));
    }

length-read : (front left : List ℕ) (r : Rec) → IsWhole (length front) left r → length (front ++ take (room_of r.len) left) ≡ length front + room_of r.len
length-read front left r h = omega (arith, length-append front (take (room_of r.len) left), length-take-le (room_of r.len) left (omega (arith, h.room, h.len)))

told_all : (most : ℕ) (front left : List ℕ) (places : List Rec) → length left ≤ most → records_from most (length front) left ≡ Ok places → IsTold front left places
told_all zero front left places fuel h = told_none front left places zero (omega arith) h
told_all (suc most) front left places fuel h = elim (cases_lt 0 (length left)) [
  | inr none ↦ told_none front left places (suc most) (omega arith) h
  | inl some ↦
      let before : suc most - 1 ≡ most = omega arith in
      let p = and_behind-Ok (front_record (length front) left) (λ r. records_from (suc most - 1) (length front + room_of r.len) (drop (room_of r.len) left)) places (sym (records_from-one (suc most) (length front) left (omega arith) some) ∙ h) in
      let whole = front_record-whole (length front) left p.r p.first in
      let read = take (room_of p.r.len) left in
      let rest = drop (room_of p.r.len) left in
      let next : records_from most (length (front ++ read)) rest ≡ Ok p.others =
      ap (λ n. records_from most n rest) (length-read front left p.r whole) ∙ ap (λ k. records_from k (length front + room_of p.r.len) rest) (sym before) ∙ p.rest in
      let inner = told_all most (front ++ read) rest p.others (omega (arith, length-drop (room_of p.r.len) left)) next in
      subst (IsTold front left) (sym p.all) (told_more front left p.r p.others whole inner)
]

tells : (stream : List ℕ) (lines : List (List ℕ)) → ReadsAs stream lines → All IsShort lines × AreRecordsOf lines stream
unfolding records_of
tells stream lines h = from_Ok (records_of stream) refl h
  where
    from_Ok : (given : Result (List Rec) RecFault) → records_from (length stream) 0 stream ≡ given → IsOkAnd given (λ places. map (data_at stream) places ≡ lines) → All IsShort lines × AreRecordsOf lines stream
    from_Ok (Ok places) e same =
        let told = told_all (length stream) [] stream places (omega arith) e in
        (subst (All IsShort) same told.short, subst (λ ls. AreRecordsOf ls stream) same told.records)
    from_Ok (Err fault) e same = absurd same

pub reads_exactly : ReadsExactly
reads_exactly stream lines = (tells stream lines, λ h. reads stream lines h.0 h.1)
