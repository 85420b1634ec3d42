-- How the records of a stream are read, one after the other.
use Rattle.std.proofs.Common.{◌≡◌, ◌∙◌, ◌+◌, ◌-◌, ◌*◌, ◌%◌, ◌<◌, ◌≤◌, ◌==◌, ℕ, zero, suc, true, false, List, [], ◌∷◌, ◌++◌, length, drop, Result, Ok, Err, All, refl, sym, ap, arith, length-drop, append_assoc, append-nil}
use Rattle.std.proofs.lemmas.Bool.{eq-eqb, ne_eqb}
use Rattle.std.proofs.lemmas.List.{drop-drop, length_push}
use Rattle.std.proofs.lemmas.List.Elements.{All-nil, All-push}
use Rattle.vol_records.specs.declared.types.Rec.{Rec}
use Rattle.vol_records.specs.declared.types.RecFault.{RecFault}
use Rattle.vol_records.specs.Records.{room_of, front_record, in_front, and_behind, records_from, records_of}

-- nothing is left
pub records_from-ends : (most at : ℕ) (left : List ℕ) → length left ≡ 0 → records_from most at left ≡ Ok []
unfolding records_from
records_from-ends zero at left h = refl
records_from-ends (suc most) at left h = let test : (length left == 0) ≡ true = eq-eqb (length left) 0 h in rw test refl

-- something is left
pub records_from-one : (most at : ℕ) (left : List ℕ) → 0 < most → 0 < length left
    → records_from most at left ≡ and_behind (front_record at left) (λ r. records_from (most - 1) (at + room_of r.len) (drop (room_of r.len) left))
unfolding records_from
records_from-one zero at left some h = absurd (omega arith)
records_from-one (suc most) at left some h =
    let test : (length left == 0) ≡ false = ne_eqb (length left) 0 (λ e. omega arith) in
    let before : suc most - 1 ≡ most = omega arith in
    rw (test, before) refl

-- a record stands there
pub records_from-goes : (most at : ℕ) (left : List ℕ) (r : Rec) → 0 < most → 0 < length left → front_record at left ≡ Ok r
    → records_from most at left ≡ in_front (r ∷ []) (records_from (most - 1) (at + room_of r.len) (drop (room_of r.len) left))
records_from-goes most at left r some h e =
    records_from-one most at left some h
    ∙ ap (λ front. and_behind front (λ q. records_from (most - 1) (at + room_of q.len) (drop (room_of q.len) left))) e

-- a fault stands there
pub records_from-stops : (most at : ℕ) (left : List ℕ) (fault : RecFault) → 0 < most → 0 < length left → front_record at left ≡ Err fault
    → records_from most at left ≡ Err fault
records_from-stops most at left fault some h e =
    records_from-one most at left some h
    ∙ ap (λ front. and_behind front (λ q. records_from (most - 1) (at + room_of q.len) (drop (room_of q.len) left))) e

pub in_front-in_front : (ps rs : List Rec) (given : Result (List Rec) RecFault) → in_front ps (in_front rs given) ≡ in_front (ps ++ rs) given
in_front-in_front ps rs (Ok others) = ap (λ all. Ok all) (sym (append_assoc ps rs others))
in_front-in_front ps rs (Err fault) = refl

-- so far these records were read, up to byte `at` of the stream
pub record HasRead (stream : List ℕ) (places : List Rec) (at : ℕ) : Type 0 where
  pub begun : records_of stream ≡ in_front places (records_from (length stream - length places) at (drop at stream))
  pub within : at ≤ length stream
  pub counted : 2 * length places ≤ at
  pub inside : All (λ r. r.from + r.len ≤ length stream) places

in_front-nil : (given : Result (List Rec) RecFault) → given ≡ in_front [] given
in_front-nil (Ok others) = refl
in_front-nil (Err fault) = refl

records_of-begun : (stream : List ℕ) (most : ℕ) → most ≡ length stream → records_of stream ≡ in_front [] (records_from most 0 stream)
unfolding records_of
records_of-begun stream most e = rw e (in_front-nil (records_from (length stream) 0 stream))

pub HasRead-none : (stream : List ℕ) → HasRead stream [] 0
HasRead-none stream = record {
  begun = records_of-begun stream (length stream - 0) (omega arith);
  within = omega arith;
  counted = omega arith;
  inside = All-nil (λ r. r.from + r.len ≤ length stream);
}

pub HasRead-more : (stream : List ℕ) (places : List Rec) (at : ℕ) (r : Rec) → at < length stream → HasRead stream places at
    → front_record at (drop at stream) ≡ Ok r → at + room_of r.len ≤ length stream → r.from ≡ at + 2
    → HasRead stream (places ++ r ∷ []) (r.from + r.len + r.len % 2)
HasRead-more stream places at r more h front inside start =
    let left : 0 < length (drop at stream) = omega (arith, length-drop at stream) in
    let some : 0 < length stream - length places = omega (arith, h.counted) in
    let next = records_from-goes (length stream - length places) at (drop at stream) r some left front in
    let end : at + room_of r.len ≡ r.from + r.len + r.len % 2 = omega arith in
    let fewer : length stream - length places - 1 ≡ length stream - length (places ++ r ∷ []) = omega (arith, length_push places r) in
    let rest : drop (room_of r.len) (drop at stream) ≡ drop (r.from + r.len + r.len % 2) stream = drop-drop (room_of r.len) at stream ∙ ap (λ o. drop o stream) end in
    record {
      begun = h.begun ∙ ap (in_front places) next ∙ in_front-in_front places (r ∷ []) _ ∙ rw (end, rest, fewer) refl;
      within = omega arith;
      counted = omega (arith, length_push places r, h.counted);
      inside = All-push (λ q. q.from + q.len ≤ length stream) places r h.inside (omega arith);
    }

-- all is read
pub HasRead-all : (stream : List ℕ) (places : List Rec) (at : ℕ) → length stream ≤ at → HasRead stream places at → records_of stream ≡ Ok places
HasRead-all stream places at end h =
    let none : length (drop at stream) ≡ 0 = omega (arith, length-drop at stream) in
    h.begun ∙ ap (in_front places) (records_from-ends (length stream - length places) at (drop at stream) none) ∙ ap (λ all. Ok all) (append-nil places)

-- the next record has a fault
pub HasRead-fault : (stream : List ℕ) (places : List Rec) (at : ℕ) (fault : RecFault) → at < length stream → HasRead stream places at
    → front_record at (drop at stream) ≡ Err fault → records_of stream ≡ Err fault
HasRead-fault stream places at fault more h front =
    let left : 0 < length (drop at stream) = omega (arith, length-drop at stream) in
    let some : 0 < length stream - length places = omega (arith, h.counted) in
    h.begun ∙ ap (in_front places) (records_from-stops (length stream - length places) at (drop at stream) fault some left front)
