-- A stream has a fault exactly where what stands before it is records, and the fault says what is wrong there.
use Rattle.std.proofs.Common.{◌≡◌, ◌∙◌, ◌+◌, ◌-◌, ◌<◌, ◌≤◌, ◌⊎◌, ℕ, zero, suc, true, false, List, [], ◌∷◌, ◌++◌, length, take, drop, nat_lt, Result, Ok, Err, All, inl, inr, refl, sym, ap, arith, subst, append_assoc, length-append, length-drop, length-take-le}
use Rattle.std.proofs.lemmas.Bool.{cases_lt}
use Rattle.std.proofs.lemmas.Bool.Decides.{nat_tests}
use Rattle.std.proofs.lemmas.List.{take_at, take-append-drop}
use Rattle.std.proofs.lemmas.List.Elements.{All-nil, All-cons, All-head, All-tail}
use Rattle.byteorder.specs.Endian.{little_number}
use Rattle.vol_records.specs.declared.types.Rec.{Rec}
use Rattle.vol_records.specs.declared.types.RecFault.{RecFault}
use Rattle.vol_records.specs.declared.types.RecFault.TheVariants.{BadCount, Truncated, NoMemory}
use Rattle.vol_records.specs.Records.{room_of, front_record, in_front, and_behind, records_from, records_of, data_at, BeginsWith, AreRecordsOf, IsFaultAt, HasFault, FaultsAreFirst}
use Rattle.vol_records.proofs.Streams.{records_from-ends, records_from-one, records_from-goes, records_from-stops}
use Rattle.vol_records.proofs.Exact.{IsShort, IsWhole, length-begins, front_record-begins, drop-begins, few, front_record-whole, whole-begins, length-data_at}

-- why there is no record at the front
front_record-fault : (at : ℕ) (left : List ℕ) (fault : RecFault) → 0 < length left → front_record at left ≡ Err fault → IsFaultAt at left fault
unfolding front_record
front_record-fault at left fault some h = elim (cases_lt (length left) 2) [
  | inl few ↦
      let test : nat_lt (length left) 2 ≡ true = grind (arith, nat_tests) in
      let e = rw test at h in
      let same : Truncated at ≡ fault = cc in
      subst (IsFaultAt at left) same (refl, (some, inl few))
  | inr two ↦
      let test : nat_lt (length left) 2 ≡ false = grind (arith, nat_tests) in
      let h1 = rw test at h in
      elim (cases_lt 32767 (little_number 2 left)) [
        | inl bad ↦
            let test1 : nat_lt 32767 (little_number 2 left) ≡ true = grind (arith, nat_tests) in
            let e = rw test1 at h1 in
            let same : BadCount at ≡ fault = cc in
            subst (IsFaultAt at left) same (refl, (two, bad))
        | inr good ↦
            let test1 : nat_lt 32767 (little_number 2 left) ≡ false = grind (arith, nat_tests) in
            let h2 = rw test1 at h1 in
            elim (cases_lt (length left) (room_of (little_number 2 left))) [
              | inl cut ↦
                  let test2 : nat_lt (length left) (room_of (little_number 2 left)) ≡ true = grind (arith, nat_tests) in
                  let e = rw test2 at h2 in
                  let same : Truncated at ≡ fault = cc in
                  subst (IsFaultAt at left) same (refl, (some, inr (good, cut)))
              | inr whole ↦
                  let test2 : nat_lt (length left) (room_of (little_number 2 left)) ≡ false = grind (arith, nat_tests) in
                  let e = rw test2 at h2 in absurd cc
            ]
      ]
]

-- a fault at the front, or behind it
front_faults : (front : Result Rec RecFault) (behind : Rec → Result (List Rec) RecFault) (fault : RecFault) → and_behind front behind ≡ Err fault
    → (front ≡ Err fault) ⊎ ((r : Rec) × ((front ≡ Ok r) × (behind r ≡ Err fault)))
front_faults (Err other) behind fault h = let same : other ≡ fault = cc in inl (ap (λ f. Err f) same)
front_faults (Ok r) behind fault h = inr (r, (refl, in_front-Err r (behind r) fault h))
  where
    in_front-Err : (r : Rec) (given : Result (List Rec) RecFault) (fault : RecFault) → in_front (r ∷ []) given ≡ Err fault → given ≡ Err fault
    in_front-Err r (Ok others) fault h = absurd cc
    in_front-Err r (Err other) fault h = h

-- a record stays one whatever comes behind it
begins-moved : (line stream rest other : List ℕ) → BeginsWith line stream rest → BeginsWith line (take (room_of (length line)) stream ++ other) other
begins-moved line stream rest other h =
    let grouped : (more : List ℕ) → h.count ++ (line ++ (h.padding ++ more)) ≡ (h.count ++ (line ++ h.padding)) ++ more = λ more.
    sym (append_assoc h.count (line ++ h.padding) more ∙ ap (λ l. h.count ++ l) (append_assoc line h.padding more)) in
    let long : length (h.count ++ (line ++ h.padding)) ≡ room_of (length line) = omega (arith, length-append h.count (line ++ h.padding), length-append line h.padding, h.two_bytes, h.even) in
    let first : take (room_of (length line)) stream ≡ h.count ++ (line ++ h.padding) =
    ap (take (room_of (length line))) (h.in_order ∙ grouped rest) ∙ take_at (h.count ++ (line ++ h.padding)) rest (room_of (length line)) long in
    record {
      count = h.count;
      padding = h.padding;
      two_bytes = h.two_bytes;
      says_length = h.says_length;
      even = h.even;
      in_order = ap (λ l. l ++ other) first ∙ sym (grouped other);
    }

-- a record in front of what has a fault
HasFault-behind : (at : ℕ) (front left : List ℕ) (r : Rec) (fault : RecFault) → IsWhole (length front) left r → HasFault (at + room_of r.len) (drop (room_of r.len) left) fault → HasFault at left fault
HasFault-behind at front left r fault whole h =
    let line = data_at (front ++ left) r in
    let len = length-data_at front left r whole in
    let first = take (room_of r.len) left in
    let begins : BeginsWith line (first ++ h.front) h.front =
    subst (λ n. BeginsWith (data_at (front ++ left) r) (take (room_of n) left ++ h.front) h.front) len
    (begins-moved (data_at (front ++ left) r) left (drop (room_of r.len) left) h.front (whole-begins front left r whole)) in
    let long : length (first ++ h.front) ≡ room_of r.len + length h.front =
    omega (arith, length-append (take (room_of r.len) left) h.front, length-take-le (room_of r.len) left (omega (arith, whole.room, whole.len))) in
    record {
      lines = line ∷ h.lines;
      front = first ++ h.front;
      left = h.left;
      in_order = sym (take-append-drop (room_of r.len) left) ∙ ap (λ l. take (room_of r.len) left ++ l) h.in_order ∙ sym (append_assoc (take (room_of r.len) left) h.front h.left);
      short = All-cons IsShort (data_at (front ++ left) r) h.lines (omega (arith, len, whole.len, whole.short)) h.short;
      records = (h.front, (begins, h.records));
      here = subst (λ n. IsFaultAt n h.left fault) (omega (arith, long)) h.here;
    }

faults_from : (most at : ℕ) (front left : List ℕ) (fault : RecFault) → length front ≡ at → length left ≤ most → records_from most at left ≡ Err fault → HasFault at left fault
faults_from zero at front left fault start fuel h = absurd (let none = records_from-ends zero at left (omega arith) in cc)
faults_from (suc most) at front left fault start fuel h = elim (cases_lt 0 (length left)) [
  | inr none ↦ absurd (let ends = records_from-ends (suc most) at left (omega arith) in cc)
  | inl some ↦
      let before : suc most - 1 ≡ most = omega arith in
      elim (front_faults (front_record at left) (λ r. records_from (suc most - 1) (at + room_of r.len) (drop (room_of r.len) left)) fault (sym (records_from-one (suc most) at left (omega arith) some) ∙ h)) [
        | inl here ↦ record {
          lines = [];
          front = [];
          left = left;
          in_order = refl;
          short = All-nil IsShort;
          records = refl;
          here = subst (λ n. IsFaultAt n left fault) (omega arith) (front_record-fault at left fault some here);
        }
        | inr p ↦
            let r = p.0 in
            let first : front_record (length front) left ≡ Ok r = ap (λ n. front_record n left) start ∙ p.1.0 in
            let whole = front_record-whole (length front) left r first in
            let next = ap (λ k. records_from k (at + room_of r.len) (drop (room_of r.len) left)) (sym before) ∙ p.1.1 in
            let read : length (front ++ take (room_of r.len) left) ≡ at + room_of r.len =
            omega (arith, start, length-append front (take (room_of r.len) left), length-take-le (room_of r.len) left (omega (arith, whole.room, whole.len))) in
            let inner = faults_from most (at + room_of r.len) (front ++ take (room_of r.len) left) (drop (room_of r.len) left) fault read (omega (arith, length-drop (room_of r.len) left)) next in
            HasFault-behind at front left r fault whole inner
      ]
]

-- what is wrong at the front is told
front_record-told : (at : ℕ) (left : List ℕ) (fault : RecFault) → IsFaultAt at left fault → front_record at left ≡ Err fault
unfolding front_record
front_record-told at left (BadCount byte) h =
    let test : nat_lt (length left) 2 ≡ false = let two = h.1.0 in grind (arith, nat_tests) in
    let test1 : nat_lt 32767 (little_number 2 left) ≡ true = let bad = h.1.1 in grind (arith, nat_tests) in
    rw (test, test1) (ap (λ n. Err (BadCount n)) (sym h.0))
front_record-told at left (Truncated byte) h = elim (cases_lt (length left) 2) [
  | inl few ↦
      let test : nat_lt (length left) 2 ≡ true = grind (arith, nat_tests) in
      rw test (ap (λ n. Err (Truncated n)) (sym h.0))
  | inr two ↦ elim h.1.1 [
    | inl few ↦ absurd (omega arith)
    | inr p ↦
        let test : nat_lt (length left) 2 ≡ false = grind (arith, nat_tests) in
        let test1 : nat_lt 32767 (little_number 2 left) ≡ false = let good = p.0 in grind (arith, nat_tests) in
        let test2 : nat_lt (length left) (room_of (little_number 2 left)) ≡ true = let cut = p.1 in grind (arith, nat_tests) in
        rw (test, test1, test2) (ap (λ n. Err (Truncated n)) (sym h.0))
  ]
]
front_record-told at left NoMemory h = absurd h

-- something stands there
IsFaultAt-some : (at : ℕ) (left : List ℕ) (fault : RecFault) → IsFaultAt at left fault → 0 < length left
IsFaultAt-some at left (BadCount byte) h = let two = h.1.0 in omega arith
IsFaultAt-some at left (Truncated byte) h = h.1.0
IsFaultAt-some at left NoMemory h = absurd h

-- a record stays one with more behind the stream
begins-more : (line front rest left : List ℕ) → BeginsWith line front rest → BeginsWith line (front ++ left) (rest ++ left)
begins-more line front rest left h = record {
  count = h.count;
  padding = h.padding;
  two_bytes = h.two_bytes;
  says_length = h.says_length;
  even = h.even;
  in_order =
      ap (λ l. l ++ left) h.in_order
      ∙ append_assoc h.count (line ++ (h.padding ++ rest)) left
      ∙ ap (λ l. h.count ++ l) (append_assoc line (h.padding ++ rest) left)
      ∙ ap (λ l. h.count ++ (line ++ l)) (append_assoc h.padding rest left);
}

-- behind the records of these lines comes this fault
told_behind : (lines : List (List ℕ)) (most at : ℕ) (front left : List ℕ) (fault : RecFault) → length lines < most → All IsShort lines → AreRecordsOf lines front → IsFaultAt (at + length front) left fault
    → records_from most at (front ++ left) ≡ Err fault
told_behind [] most at front left fault fuel short h here =
    let start : at + length front ≡ at = omega (arith, ap length h) in
    let wrong : IsFaultAt at left fault = subst (λ n. IsFaultAt n left fault) start here in
    ap (λ f. records_from most at (f ++ left)) h
    ∙ records_from-stops most at left fault (omega arith) (IsFaultAt-some at left fault wrong) (front_record-told at left fault wrong)
told_behind (line ∷ lines) most at front left fault fuel short h here =
    let rest = h.0 in
    let next = at + room_of (length line) in
    let r : Rec = record { from = at + 2; len = length line } in
    let begins = begins-more line front rest left h.1.0 in
    let some : 0 < length (front ++ left) = omega (arith, length-begins line (front ++ left) (rest ++ left) begins) in
    let long : at + length front ≡ next + length rest = omega (arith, length-begins line front rest h.1.0) in
    let first = front_record-begins at line (front ++ left) (rest ++ left) (All-head IsShort line lines short) begins in
    let inner = told_behind lines (most - 1) next rest left fault (omega arith) (All-tail IsShort line lines short) h.1.1 (subst (λ n. IsFaultAt n left fault) long here) in
    records_from-goes most at (front ++ left) r (omega arith) some first
    ∙ ap (λ l. in_front (r ∷ []) (records_from (most - 1) next l)) (drop-begins line (front ++ left) (rest ++ left) begins)
    ∙ ap (in_front (r ∷ [])) inner

fault-told : (stream : List ℕ) (fault : RecFault) → HasFault 0 stream fault → records_of stream ≡ Err fault
unfolding records_of
fault-told stream fault h =
    let some = IsFaultAt-some (0 + length h.front) h.left fault h.here in
    let fuel : length h.lines < length stream = omega (arith, some, few h.lines h.front h.records, ap length h.in_order, length-append h.front h.left) in
    ap (records_from (length stream) 0) h.in_order ∙ told_behind h.lines (length stream) 0 h.front h.left fault fuel h.short h.records h.here

fault-first : (stream : List ℕ) (fault : RecFault) → records_of stream ≡ Err fault → HasFault 0 stream fault
unfolding records_of
fault-first stream fault h = faults_from (length stream) 0 [] stream fault refl (omega arith) h

pub faults_first : FaultsAreFirst
faults_first stream fault = (fault-first stream fault, fault-told stream fault)
