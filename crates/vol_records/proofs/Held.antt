-- The lines that stand one behind the other, and one more of them.
use Rattle.std.proofs.Common.{◌≡◌, ◌∙◌, ◌+◌, ◌≤◌, ℕ, List, [], ◌∷◌, ◌++◌, length, take, drop, All, refl, ap, arith, length-append, length-drop}
use Rattle.std.proofs.lemmas.List.{take_all, take-append-le, drop_at, drop-append-le, map_push}
use Rattle.std.proofs.lemmas.List.Elements.{All-nil, All-push, All-head, All-tail, All-weaker}
use Rattle.vol_records.specs.declared.types.Rec.{Rec}
use Rattle.vol_records.specs.Records.{room_of, spelt, data_at, lines_at, AreLines}
use Rattle.vol_records.proofs.Spellings.{spelt-none, length-spelt_push}

abbrev pub IsInside : List ℕ → Rec → Type 0
IsInside bytes r = r.from + r.len ≤ length bytes

-- bytes behind those of a place change nothing
data_at-append : (bytes more : List ℕ) (r : Rec) → IsInside bytes r → data_at (bytes ++ more) r ≡ data_at bytes r
data_at-append bytes more r h =
    ap (take r.len) (drop-append-le r.from bytes more (omega arith)) ∙ take-append-le r.len (drop r.from bytes) more (omega (arith, length-drop r.from bytes))

lines_at-append : (bytes more : List ℕ) (places : List Rec) → All (IsInside bytes) places → lines_at (bytes ++ more) places ≡ lines_at bytes places
lines_at-append bytes more [] h = refl
lines_at-append bytes more (r ∷ places) h =
    let first = data_at-append bytes more r (All-head (IsInside bytes) r places h) in
    let others = lines_at-append bytes more places (All-tail (IsInside bytes) r places h) in
    cc

-- the place of a line that is put behind all bytes
abbrev pub place_behind : List ℕ → List ℕ → Rec
place_behind bytes line = record { from = length bytes; len = length line }

pub lines_at-push : (bytes line : List ℕ) (places : List Rec) → All (IsInside bytes) places
    → lines_at (bytes ++ line) (places ++ place_behind bytes line ∷ []) ≡ lines_at bytes places ++ line ∷ []
lines_at-push bytes line places h =
    let last : data_at (bytes ++ line) (place_behind bytes line) ≡ line = ap (take (length line)) (drop_at bytes line (length bytes) refl) ∙ take_all (length line) line (omega arith) in
    map_push (data_at (bytes ++ line)) places (place_behind bytes line)
    ∙ ap (λ all. all ++ data_at (bytes ++ line) (place_behind bytes line) ∷ []) (lines_at-append bytes line places h)
    ∙ ap (λ l. lines_at bytes places ++ l ∷ []) last

pub AreLines-none : AreLines [] [] 0
AreLines-none = record {
  inside = All-nil (IsInside []);
  short = All-nil (λ r. r.len ≤ 32767);
  spelt_len = ap length spelt-none;
}

inside-append : (bytes more : List ℕ) (places : List Rec) → All (IsInside bytes) places → All (IsInside (bytes ++ more)) places
inside-append bytes more places h = All-weaker (IsInside bytes) (IsInside (bytes ++ more)) (λ r within. omega (arith, length-append bytes more, within)) places h

-- bytes that no line has yet
pub AreLines-append : (bytes more : List ℕ) (places : List Rec) (len : ℕ) → AreLines bytes places len → AreLines (bytes ++ more) places len
AreLines-append bytes more places len h = record {
  inside = inside-append bytes more places h.inside;
  short = h.short;
  spelt_len = ap (λ lines. length (spelt lines)) (lines_at-append bytes more places h.inside) ∙ h.spelt_len;
}

pub lines_at-kept : (bytes more : List ℕ) (places : List Rec) (len : ℕ) → AreLines bytes places len → lines_at (bytes ++ more) places ≡ lines_at bytes places
lines_at-kept bytes more places len h = lines_at-append bytes more places h.inside

-- one more line
pub AreLines-push : (bytes line : List ℕ) (places : List Rec) (len : ℕ) → length line ≤ 32767 → AreLines bytes places len
    → AreLines (bytes ++ line) (places ++ place_behind bytes line ∷ []) (len + room_of (length line))
AreLines-push bytes line places len small h = record {
  inside = All-push (IsInside (bytes ++ line)) places (place_behind bytes line) (inside-append bytes line places h.inside) (omega (arith, length-append bytes line));
  short = All-push (λ r. r.len ≤ 32767) places (place_behind bytes line) h.short small;
  spelt_len =
      ap (λ lines. length (spelt lines)) (lines_at-push bytes line places h.inside)
      ∙ length-spelt_push (lines_at bytes places) line
      ∙ ap (λ n. n + room_of (length line)) h.spelt_len;
}
