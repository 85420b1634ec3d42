-- The block of entries reads as these entries.
use Rattle.std.proofs.Common.{◌≡◌, ◌+◌, ◌-◌, ◌*◌, ◌/◌, ◌%◌, ◌≤◌, ◌<◌, ◌++◌, ◌||◌, Bool, true, false, ℕ, zero, suc, List, [], ◌∷◌, Option, Some, None, map, take, drop, length, replicate, get_or, refl, sym, ap, subst, ◌∙◌, arith, append_assoc, length-append, eqb, leb, ltb, get_or-drop, if◌then◌else◌}
use Rattle.std.specs.Prelude.{slice_index}
use Rattle.std.specs.Str.{bytes_eq}
use Rattle.std.proofs.lemmas.List.Sums.{prefix_len-le-length}
use Rattle.std.proofs.lemmas.List.{take_at, drop_at, length-replicate, drop-replicate}
use Rattle.byteorder.specs.Numbers.{little_number-reads_back}
use Rattle.base_words.specs.Fields.{field, put}
use Rattle.base_words.specs.Tables.{zeros}
use Rattle.base_words.specs.Names.{is_name}
use Rattle.base_words.specs.Packing.{padded, cost, size}
use Rattle.fx_dir.specs.declared.RawEnt.{RawEnt}
use Rattle.fx_dir.specs.Lists.{Each}
use Rattle.fx_dir.specs.Entries.{rises}
use Rattle.fx_dir.specs.Records.{record_length, head_length, name_in, is_end, is_whole, is_named, is_version, entry_in, versions_in, record_entries, records_in, block_entries}
use Rattle.fx_dir.specs.Writing.{IsInForm, IsRanged, name_of, head_bytes, version_bytes, goes_on, following, record_bytes, block_of, under, marked}
use Rattle.fx_dir.proofs.Numbers.{leb_yes, ltb_yes, eqb_no}
use Rattle.fx_dir.proofs.Meeting.{Sound}
use Rattle.fx_dir.proofs.Views.{rises-marked}
use Rattle.fx_dir.proofs.Order.{both, or_right, bytes_is}

-- ---- a version

pub length-version : (e : RawEnt) → length (version_bytes e) ≡ 8
unfolding version_bytes
length-version e = refl

drop-version : (e : RawEnt) (tail : List ℕ) → drop 8 (version_bytes e ++ tail) ≡ tail
unfolding version_bytes
drop-version e tail = refl

field-ver : (e : RawEnt) (tail : List ℕ) → e.ver < 65536 → field (version_bytes e ++ tail) 0 2 ≡ e.ver
unfolding version_bytes
field-ver e tail h = little_number-reads_back 2 e.ver (drop 2 (version_bytes e ++ tail)) (omega arith)

field-num : (e : RawEnt) (tail : List ℕ) → field (version_bytes e ++ tail) 2 2 ≡ e.num % 65536
unfolding version_bytes
field-num e tail = little_number-reads_back 2 (e.num % 65536) (drop 4 (version_bytes e ++ tail)) (omega arith)

field-seq : (e : RawEnt) (tail : List ℕ) → e.seq < 65536 → field (version_bytes e ++ tail) 4 2 ≡ e.seq
unfolding version_bytes
field-seq e tail h = little_number-reads_back 2 e.seq (drop 6 (version_bytes e ++ tail)) (omega arith)

byte-rvn : (e : RawEnt) (tail : List ℕ) → slice_index (version_bytes e ++ tail) 6 ≡ 0
unfolding version_bytes
byte-rvn e tail = refl

byte-high : (e : RawEnt) (tail : List ℕ) → slice_index (version_bytes e ++ tail) 7 ≡ e.num / 65536
unfolding version_bytes
byte-high e tail = refl

version-read : (e : RawEnt) (tail : List ℕ) → IsInForm e → is_version (version_bytes e ++ tail) ≡ true
unfolding is_version
version-read e tail form =
    let v : field (version_bytes e ++ tail) 0 2 ≡ e.ver = field-ver e tail (let h = form.to_last in omega arith) in
    rw (byte-rvn e tail, v) (both _ _ refl (both _ _ (leb_yes 1 e.ver form.from_one) (leb_yes e.ver 32767 form.to_last)))

-- a head that begins a record whose first entry is f
record Heads (f : RawEnt) (head : List ℕ) : Type 0 where
  name : name_in head ≡ f.name
  limit : field head 2 2 ≡ f.limit
  flags : slice_index head 4 ≡ f.flags

entry-read : (f e : RawEnt) (head tail : List ℕ) → Heads f head → f.name ≡ e.name → IsInForm e → IsRanged e → entry_in head (version_bytes e ++ tail) ≡ under f e
unfolding entry_in
entry-read f e head tail h n form ranged =
    let v = field-ver e tail (let t = form.to_last in omega arith) in
    let m : field (version_bytes e ++ tail) 2 2 + 65536 * slice_index (version_bytes e ++ tail) 7 ≡ e.num = rw (field-num e tail, byte-high e tail) (omega arith) in
    let s = field-seq e tail ranged.seq in
    let t : name_in head ≡ e.name = h.name ∙ n in
    λ i. record { name = t i; ver = v i; num = m i; seq = s i; limit = h.limit i; flags = h.flags i }

versions_bytes : List RawEnt → List ℕ
versions_bytes [] = []
versions_bytes (e ∷ es) = version_bytes e ++ versions_bytes es

versions-read : (f : RawEnt) (head : List ℕ) (es : List RawEnt) (tail : List ℕ) → Heads f head → Each (λ e. f.name ≡ e.name) es → Each IsInForm es → Each IsRanged es
    → versions_in head (length es) (versions_bytes es ++ tail) ≡ Some (map (under f) es)
unfolding versions_bytes
versions-read f head [] tail h n form ranged = refl
versions-read f head (e ∷ es) tail h n form ranged =
    let rest : versions_in head (length es) (versions_bytes es ++ tail) ≡ Some (map (under f) es) = versions-read f head es tail h n.1 form.1 ranged.1 in
    rw (append_assoc (version_bytes e) (versions_bytes es) tail, version-read e (versions_bytes es ++ tail) form.0, drop-version e (versions_bytes es ++ tail), entry-read f e head (versions_bytes es ++ tail) h n.0 form.0 ranged.0, rest) refl

length-versions : (es : List RawEnt) → length (versions_bytes es) ≡ 8 * length es
unfolding versions_bytes
length-versions [] = refl
length-versions (e ∷ es) = omega (arith, length-append (version_bytes e) (versions_bytes es), length-version e, length-versions es)

-- ---- the head of a record

pub length-head : (e : RawEnt) (n : ℕ) → length (head_bytes e n) ≡ 6 + padded e.name
unfolding head_bytes
length-head e n = omega (arith, length-append e.name (replicate (length e.name % 2) 0), length-replicate {A = ℕ} (length e.name % 2) 0)

field-size : (e : RawEnt) (n : ℕ) (tail : List ℕ) → 4 + padded e.name + 8 * n < 65536 → field (head_bytes e n ++ tail) 0 2 ≡ 4 + padded e.name + 8 * n
unfolding head_bytes
field-size e n tail h = little_number-reads_back 2 (4 + padded e.name + 8 * n) (drop 2 (head_bytes e n ++ tail)) (omega arith)

byte-length : (e : RawEnt) (n : ℕ) (tail : List ℕ) → slice_index (head_bytes e n ++ tail) 5 ≡ length e.name
unfolding head_bytes
byte-length e n tail = refl

heads : (e : RawEnt) (n : ℕ) (tail : List ℕ) → IsRanged e → Heads e (head_bytes e n ++ tail)
unfolding head_bytes
heads e n tail ranged = record {
  name = take-append_assoc e.name (replicate (length e.name % 2) 0) tail;
  limit = little_number-reads_back 2 e.limit (drop 4 (head_bytes e n ++ tail)) (let h = ranged.limit in omega arith);
  flags = refl;
} where
  take-append_assoc : (name pad rest : List ℕ) → take (length name) ((name ++ pad) ++ rest) ≡ name
  take-append_assoc name pad rest = rw (append_assoc name pad rest) (take_at name (pad ++ rest) (length name) refl)

drop-head : (e : RawEnt) (n : ℕ) (tail : List ℕ) → drop (6 + padded e.name) (head_bytes e n ++ tail) ≡ tail
drop-head e n tail = drop_at (head_bytes e n) tail (6 + padded e.name) (length-head e n)

at-end : (xs : List ℕ) (y : ℕ) (ys : List ℕ) (d : ℕ) → get_or (xs ++ y ∷ ys) (length xs) d ≡ y
at-end [] y ys d = refl
at-end (x ∷ xs) y ys d = at-end xs y ys d

-- the byte that makes the name even is zero
pad-zero : (e : RawEnt) (n : ℕ) (tail : List ℕ) → (eqb (length e.name % 2) 0 || eqb (slice_index (head_bytes e n ++ tail) (6 + length e.name)) 0) ≡ true
unfolding head_bytes
pad-zero e n tail = rw (sym (get_or-drop 6 (head_bytes e n ++ tail) (length e.name) 0)) (pad (length e.name % 2)) where
  pad : (m : ℕ) → (eqb m 0 || eqb (get_or ((e.name ++ replicate m 0) ++ tail) (length e.name) 0) 0) ≡ true
  pad zero = refl
  pad (suc m) = rw (append_assoc e.name (0 ∷ replicate m 0) tail, at-end e.name 0 (replicate m 0 ++ tail) 0) (or_right (eqb (suc m) 0) true refl)

named-read : (e : RawEnt) (n : ℕ) (tail : List ℕ) → IsInForm e → IsRanged e → is_named (head_bytes e n ++ tail) ≡ true
unfolding is_named
named-read e n tail form ranged =
    let h = heads e n tail ranged in
    let p = pad-zero e n tail in
    let a : is_name (name_in (head_bytes e n ++ tail)) ≡ true = rw (h.name) form.named in
    let b : (eqb (slice_index (head_bytes e n ++ tail) 5 % 2) 0 || eqb (slice_index (head_bytes e n ++ tail) (6 + slice_index (head_bytes e n ++ tail) 5)) 0) ≡ true = rw (byte-length e n tail) p in
    both _ _ a b

-- ---- a record of the entries g, which begin with e, in front of a tail

record-bytes : RawEnt → List RawEnt → List ℕ → List ℕ
record-bytes e g tail = head_bytes e (length g) ++ (versions_bytes g ++ tail)

length-record : (e : RawEnt) (g : List RawEnt) (tail : List ℕ) → length (record-bytes e g tail) ≡ 6 + padded e.name + 8 * length g + length tail
unfolding record-bytes
length-record e g tail = omega (arith, length-append (head_bytes e (length g)) (versions_bytes g ++ tail), length-append (versions_bytes g) tail, length-head e (length g), length-versions g)

record_length-read : (e : RawEnt) (g : List RawEnt) (tail : List ℕ) → 4 + padded e.name + 8 * length g < 65536 → record_length (record-bytes e g tail) ≡ 6 + padded e.name + 8 * length g
unfolding record-bytes
record_length-read e g tail small = let h = field-size e (length g) (versions_bytes g ++ tail) small in omega arith

head_length-read : (e : RawEnt) (g : List RawEnt) (tail : List ℕ) → head_length (record-bytes e g tail) ≡ 6 + padded e.name
unfolding record-bytes
head_length-read e g tail = rw (byte-length e (length g) (versions_bytes g ++ tail)) refl

whole-read : (e : RawEnt) (g : List RawEnt) (tail : List ℕ) → 4 + padded e.name + 8 * length g < 65536 → 1 ≤ length g → 2 ≤ length tail → is_whole (record-bytes e g tail) ≡ true
unfolding is_whole
whole-read e g tail small some room =
    let r = record_length-read e g tail small in
    let h = head_length-read e g tail in
    let l = length-record e g tail in
    let d : (6 + padded e.name + 8 * length g - (6 + padded e.name)) % 8 ≡ 0 = omega arith in
    let a : leb (6 + padded e.name + 8 * length g + 2) (6 + padded e.name + 8 * length g + length tail) ≡ true = leb_yes (6 + padded e.name + 8 * length g + 2) (6 + padded e.name + 8 * length g + length tail) (omega arith) in
    let b : ltb (6 + padded e.name) (6 + padded e.name + 8 * length g) ≡ true = ltb_yes (6 + padded e.name) (6 + padded e.name + 8 * length g) (omega arith) in
    rw (r, h, l, d) (both _ _ a (both _ _ b refl))

record-read : (e : RawEnt) (g : List RawEnt) (tail : List ℕ) → 4 + padded e.name + 8 * length g < 65536 → 1 ≤ length g → 2 ≤ length tail → IsInForm e → IsRanged e
    → Each (λ x. e.name ≡ x.name) g → Each IsInForm g → Each IsRanged g → record_entries (record-bytes e g tail) ≡ Some (map (under e) g)
unfolding record_entries record-bytes
record-read e g tail small some room form ranged n forms rangeds =
    let r = record_length-read e g tail small in
    let h = head_length-read e g tail in
    let w = whole-read e g tail small some room in
    let m = named-read e (length g) (versions_bytes g ++ tail) form ranged in
    let d : (6 + padded e.name + 8 * length g - (6 + padded e.name)) / 8 ≡ length g = omega arith in
    let f = drop-head e (length g) (versions_bytes g ++ tail) in
    rw (w, m, r, h, d, f) (versions-read e (record-bytes e g tail) g tail (heads e (length g) (versions_bytes g ++ tail) ranged) n forms rangeds)

-- ---- all records of a block

-- the entries that go on with a name, and those behind them
run : List ℕ → List RawEnt → List RawEnt
run name [] = []
run name (e ∷ es) = if bytes_eq name e.name then e ∷ run name es else []

past : List ℕ → List RawEnt → List RawEnt
past name [] = []
past name (e ∷ es) = if bytes_eq name e.name then past name es else e ∷ es

length-run : (name : List ℕ) (es : List RawEnt) → length (run name es) ≡ following name es
unfolding run
length-run name [] = refl
length-run name (e ∷ es) = elim (bytes_eq name e.name) as (λ q. length (if q then e ∷ run name es else []) ≡ (if q then 1 + following name es else 0)) [
  | true ↦ (let h = length-run name es in omega arith)
  | false ↦ refl
]

length-past : (name : List ℕ) (es : List RawEnt) → length (past name es) ≤ length es
unfolding past
length-past name [] = omega arith
length-past name (e ∷ es) = elim (bytes_eq name e.name) as (λ q. length (if q then past name es else e ∷ es) ≤ suc (length es)) [
  | true ↦ (let h = length-past name es in omega arith)
  | false ↦ omega arith
]

run-named : (name : List ℕ) (es : List RawEnt) → Each (λ x. name ≡ x.name) (run name es)
unfolding run
run-named name [] = tt
run-named name (e ∷ es) = step (bytes_eq name e.name) refl (run-named name es) where
  step : (q : Bool) → q ≡ bytes_eq name e.name → Each (λ x. name ≡ x.name) (run name es) → Each (λ x. name ≡ x.name) (if q then e ∷ run name es else [])
  step true h n = (bytes_is name e.name (sym h), n)
  step false h n = tt

run-each : (P : RawEnt → Type 0) (name : List ℕ) (es : List RawEnt) → Each P es → Each P (run name es)
unfolding run
run-each P name [] n = tt
run-each P name (e ∷ es) n = elim (bytes_eq name e.name) as (λ q. Each P (if q then e ∷ run name es else [])) [
  | true ↦ (n.0, run-each P name es n.1)
  | false ↦ tt
]

past-each : (P : RawEnt → Type 0) (name : List ℕ) (es : List RawEnt) → Each P es → Each P (past name es)
unfolding past
past-each P name [] n = tt
past-each P name (e ∷ es) n = elim (bytes_eq name e.name) as (λ q. Each P (if q then past name es else e ∷ es)) [
  | true ↦ past-each P name es n.1
  | false ↦ n
]

-- behind a name, the records of the entries are versions of this name and then records of their own
split-bytes : (name : List ℕ) (es : List RawEnt) → record_bytes (Some name) es ≡ versions_bytes (run name es) ++ record_bytes None (past name es)
unfolding run past versions_bytes goes_on
split-bytes name [] = refl
split-bytes name (e ∷ es) = step (bytes_eq name e.name) refl (split-bytes name es) where
  step : (q : Bool) → q ≡ bytes_eq name e.name → record_bytes (Some name) es ≡ versions_bytes (run name es) ++ record_bytes None (past name es)
      → (if q then [] else head_bytes e (suc (following e.name es))) ++ (version_bytes e ++ record_bytes (Some e.name) es)
      ≡ versions_bytes (if q then e ∷ run name es else []) ++ record_bytes None (if q then past name es else e ∷ es)
  step true h ih =
      let n : name ≡ e.name = bytes_is name e.name (sym h) in
      let k : record_bytes (Some e.name) es ≡ versions_bytes (run name es) ++ record_bytes None (past name es) = subst (λ (m : List ℕ). record_bytes (Some m) es ≡ versions_bytes (run name es) ++ record_bytes None (past name es)) n ih in
      ap (λ (t : List ℕ). version_bytes e ++ t) k ∙ sym (append_assoc (version_bytes e) (versions_bytes (run name es)) (record_bytes None (past name es)))
  step false h ih = refl

split-marked : (f : RawEnt) (es : List RawEnt) → marked (Some f) es ≡ map (under f) (run f.name es) ++ marked None (past f.name es)
unfolding run past
split-marked f [] = refl
split-marked f (e ∷ es) = elim (bytes_eq f.name e.name) as (λ q. (if q then under f e ∷ marked (Some f) es else e ∷ marked (Some e) es) ≡ map (under f) (if q then e ∷ run f.name es else []) ++ marked None (if q then past f.name es else e ∷ es)) [
  | true ↦ λ i. under f e ∷ split-marked f es i
  | false ↦ refl
]

-- the first record and the others
first-record : (e : RawEnt) (es : List RawEnt) (tail : List ℕ) → record_bytes None (e ∷ es) ++ tail ≡ record-bytes e (e ∷ run e.name es) (record_bytes None (past e.name es) ++ tail)
unfolding record-bytes versions_bytes goes_on
first-record e es tail =
    let n : suc (following e.name es) ≡ suc (length (run e.name es)) = ap suc (sym (length-run e.name es)) in
    rw (n, split-bytes e.name es) (simp append_assoc)

cost-least : (last : Option (List ℕ)) (name : List ℕ) → 8 ≤ cost last name
unfolding cost
cost-least None name = omega arith
cost-least (Some last) name = elim (bytes_eq last name) as (λ q. 8 ≤ (if q then 8 else 14 + padded name)) [ true ↦ omega arith | false ↦ omega arith ]

pub size-length : (last : Option (List ℕ)) (es : List RawEnt) → 8 * length es ≤ size name_of last es
size-length last [] = omega arith
size-length last (e ∷ es) = let h = size-length (Some e.name) es in let k = cost-least last e.name in omega arith

pub length-records : (last : Option (List ℕ)) (es : List RawEnt) → length (record_bytes last es) ≡ size name_of last es
unfolding cost goes_on
length-records last [] = refl
length-records None (e ∷ es) =
    let ih = length-records (Some e.name) es in
    omega (arith, length-append (head_bytes e (suc (following e.name es))) (version_bytes e ++ record_bytes (Some e.name) es), length-append (version_bytes e) (record_bytes (Some e.name) es), length-head e (suc (following e.name es)), length-version e)
length-records (Some last) (e ∷ es) =
    let ih = length-records (Some e.name) es in
    let t : length (version_bytes e ++ record_bytes (Some e.name) es) ≡ 8 + size name_of (Some e.name) es = omega (arith, length-append (version_bytes e) (record_bytes (Some e.name) es), length-version e) in
    elim (bytes_eq last e.name) as (λ q. length ((if q then [] else head_bytes e (suc (following e.name es))) ++ (version_bytes e ++ record_bytes (Some e.name) es)) ≡ (if q then 8 else 14 + padded e.name) + size name_of (Some e.name) es) [
      | true ↦ t
      | false ↦ omega (arith, length-append (head_bytes e (suc (following e.name es))) (version_bytes e ++ record_bytes (Some e.name) es), length-head e (suc (following e.name es)))
    ]

drop-record : (e : RawEnt) (g : List RawEnt) (tail : List ℕ) → drop (6 + padded e.name + 8 * length g) (record-bytes e g tail) ≡ tail
unfolding record-bytes
drop-record e g tail =
    let l : length (head_bytes e (length g) ++ versions_bytes g) ≡ 6 + padded e.name + 8 * length g = omega (arith, length-append (head_bytes e (length g)) (versions_bytes g), length-head e (length g), length-versions g) in
    rw (sym (append_assoc (head_bytes e (length g)) (versions_bytes g) tail)) (drop_at (head_bytes e (length g) ++ versions_bytes g) tail (6 + padded e.name + 8 * length g) l)

end-read : (e : RawEnt) (g : List RawEnt) (tail : List ℕ) → 4 + padded e.name + 8 * length g < 65535 → is_end (record-bytes e g tail) ≡ false
unfolding is_end record-bytes
end-read e g tail small = rw (field-size e (length g) (versions_bytes g ++ tail) (omega arith)) (eqb_no (4 + padded e.name + 8 * length g) 65535 (λ h. absurd (omega arith)))

one-more : (m : ℕ) (e : RawEnt) (g : List RawEnt) (rest : List RawEnt) (tail : List ℕ) → 4 + padded e.name + 8 * length g < 65535 → 1 ≤ length g → 2 ≤ length tail → IsInForm e → IsRanged e
    → Each (λ x. e.name ≡ x.name) g → Each IsInForm g → Each IsRanged g → records_in m tail ≡ Some rest → records_in (suc m) (record-bytes e g tail) ≡ Some (map (under e) g ++ rest)
unfolding records_in
one-more m e g rest tail small some room form ranged n forms rangeds h =
    let l = record_length-read e g tail (omega arith) in
    rw (end-read e g tail small, record-read e g tail (omega arith) some room form ranged n forms rangeds, l, drop-record e g tail, h) refl

pub first-cost : (name : List ℕ) → cost None name ≡ 14 + padded name
unfolding cost
first-cost name = refl

pub records-read : (m : ℕ) (es : List RawEnt) (tail : List ℕ) → length es < m → Sound es → size name_of None es ≤ 510
    → records_in m (record_bytes None es ++ (255 ∷ 255 ∷ tail)) ≡ Some (marked None es)
unfolding records_in is_end
records-read zero es tail fuel sound room = absurd (omega arith)
records-read (suc m) [] tail fuel sound room = refl
records-read (suc m) (e ∷ es) tail fuel sound room =
    let name = e.name in
    let rest = past name es in
    let first : cost None name ≡ 14 + padded name = first-cost name in
    let count = size-length (Some name) es in
    let fewer : length (run name es) + length (record_bytes None rest) ≤ size name_of (Some name) es = (
    let whole = ap length (split-bytes name es) in
    omega (arith, whole, length-append (versions_bytes (run name es)) (record_bytes None rest), length-versions (run name es), length-records (Some name) es)
    ) in
    let few : length (run name es) ≤ length es = (let k = length-run name es in let j = prefix_len-le-length (λ x. bytes_eq name x.name) es in omega arith) in
    let smaller : size name_of None rest ≤ 510 = (let k = length-records None rest in omega arith) in
    let less : length rest < m = (let k = length-past name es in omega arith) in
    let ih = records-read m rest tail less (record { form = past-each IsInForm name es sound.form.1; ranged = past-each IsRanged name es sound.ranged.1 }) smaller in
    let long : 2 ≤ length (record_bytes None rest ++ (255 ∷ 255 ∷ tail)) = omega (arith, length-append (record_bytes None rest) (255 ∷ 255 ∷ tail)) in
    let small : 4 + padded name + 8 * length (e ∷ run name es) < 65535 = omega arith in
    let some : 1 ≤ length (e ∷ run name es) = omega arith in
    subst (λ (b : List ℕ). records_in (suc m) b ≡ Some (e ∷ marked (Some e) es)) (sym (first-record e es (255 ∷ 255 ∷ tail)))
    (one-more m e (e ∷ run name es) (marked None rest) (record_bytes None rest ++ (255 ∷ 255 ∷ tail)) small some long sound.form.0 sound.ranged.0 (refl, run-named name es) (sound.form.0, run-each IsInForm name es sound.form.1) (sound.ranged.0, run-each IsRanged name es sound.ranged.1) ih
    ∙ ap (λ (t : List RawEnt). Some (e ∷ t)) (sym (split-marked e es)))

pub length-block : (es : List RawEnt) → size name_of None es ≤ 510 → length (block_of es) ≡ 512
unfolding block_of
length-block es room = omega (arith, length-append (record_bytes None es) (255 ∷ 255 ∷ replicate (510 - length (record_bytes None es)) 0), length-records None es, length-replicate {A = ℕ} (510 - length (record_bytes None es)) 0)

-- the block of entries in order reads as these, with the limits and flags of their records
pub block-read : (es : List RawEnt) → Sound es → rises es ≡ true → size name_of None es ≤ 510 → block_entries (block_of es) ≡ Some (marked None es)
unfolding block_entries block_of
block-read es sound order room =
    let l = length-block es room in
    let few = size-length None es in
    let r : records_in (length (block_of es)) (block_of es) ≡ Some (marked None es) = records-read (length (block_of es)) es (replicate (510 - length (record_bytes None es)) 0) (omega arith) sound room in
    rw (r, rises-marked None es, order) refl

-- a block of zeros with the records and their end word at its front
pub block-written : (text : List ℕ) (es : List RawEnt) → text ≡ record_bytes None es ++ (255 ∷ 255 ∷ []) → put zeros 0 text ≡ block_of es
unfolding zeros block_of
block-written text es t =
    let r = record_bytes None es in
    let n : 512 - (0 + length text) ≡ 510 - length r = (let l : length text ≡ length r + 2 = ap length t ∙ length-append r (255 ∷ 255 ∷ []) in omega arith) in
    let d : drop {A = ℕ} (0 + length text) (replicate 512 0) ≡ replicate (510 - length r) 0 = drop-replicate {X = ℕ} (0 + length text) 512 0 ∙ ap (λ (k : ℕ). replicate {A = ℕ} k 0) n in
    rw (d, t) (append_assoc r (255 ∷ 255 ∷ []) (replicate (510 - length r) 0))
