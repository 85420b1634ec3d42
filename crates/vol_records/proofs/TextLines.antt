-- The lines of a text, taken one after the other.
use Rattle.std.proofs.Common.{◌≡◌, ◌∙◌, ◌+◌, ◌<◌, ℕ, true, false, List, [], ◌∷◌, ◌++◌, length, take, get_or, Some, None, All, ltb, refl, append-nil, append_assoc, length-append, sym, ap, arith, subst}
use Rattle.std.specs.List.{position_or_len}
use Rattle.std.proofs.lemmas.Bool.Decides.{nat_tests}
use Rattle.std.proofs.lemmas.List.{get_or-take, length-take-le, take_at}
use Rattle.std.proofs.Math.Seq.{get_or-append_seam}
use Rattle.std.proofs.lemmas.List.Elements.{All-nil, All-push}
use Rattle.std.proofs.lemmas.List.Sums.{position_or_len_is}
use Rattle.run_script.specs.Lines.{lines_of}
use Rattle.vol_records.specs.Lines.{is_long, long_line}
use Rattle.vol_records.proofs.Exact.{IsShort}

not_long : (line : List ℕ) → IsShort line → is_long line ≡ false
not_long line h = grind (arith, nat_tests)

-- no line is too long
long_line-none : (lines : List (List ℕ)) → All IsShort lines → long_line lines ≡ None
unfolding long_line
long_line-none lines h =
    let at : position_or_len is_long lines ≡ length lines =
    position_or_len_is is_long lines (length lines) [] (omega arith) (λ k within. not_long (get_or lines k []) (h k [] within)) (λ past. absurd (omega (arith, past))) in
    let test : ltb (length lines) (length lines) ≡ false = grind (arith, nat_tests) in
    rw (at, test) refl

-- behind lines that are not, this one is
long_line-first : (lines : List (List ℕ)) (i : ℕ) → i < length lines → All IsShort (take i lines) → 32767 < length (get_or lines i []) → long_line lines ≡ Some (i + 1)
unfolding long_line
long_line-first lines i within h long =
    let front : (k : ℕ) → k < i → is_long (get_or lines k []) ≡ false = λ k below.
    let count : length (take i lines) ≡ i = length-take-le i lines (omega arith) in
    not_long (get_or lines k []) (subst IsShort (get_or-take i lines k [] below) (h k [] (omega (arith, count, below)))) in
    let is_one : is_long (get_or lines i []) ≡ true = grind (arith, nat_tests) in
    let at : position_or_len is_long lines ≡ i = position_or_len_is is_long lines i [] (omega arith) front (λ _. is_one) in
    let test : ltb i (length lines) ≡ true = grind (arith, nat_tests) in
    rw (at, test) refl

-- these lines of a text are taken so far, none of them is too long, and the others are those of the rest
pub record AreTaken (text rest : List ℕ) (lines : List (List ℕ)) : Type 0 where
  pub all : lines ++ lines_of rest ≡ lines_of text
  pub short : All IsShort lines

pub taken_none : (text : List ℕ) → AreTaken text text []
taken_none text = record { all = refl; short = All-nil IsShort }

-- one more
pub taken_more : (text rest line behind : List ℕ) (lines : List (List ℕ)) → AreTaken text rest lines → lines_of rest ≡ line ∷ lines_of behind → IsShort line → AreTaken text behind (lines ++ line ∷ [])
taken_more text rest line behind lines h split small = record {
  all = append_assoc lines (line ∷ []) (lines_of behind) ∙ (ap (λ ls. lines ++ ls) (sym split) ∙ h.all);
  short = All-push IsShort lines line h.short small;
}

-- the next one is too long
pub taken_long : (text rest line behind : List ℕ) (lines : List (List ℕ)) → AreTaken text rest lines → lines_of rest ≡ line ∷ lines_of behind → 32767 < length line → long_line (lines_of text) ≡ Some (length lines + 1)
taken_long text rest line behind lines h split long =
    let here : get_or (lines ++ line ∷ lines_of behind) (length lines) [] ≡ line = get_or-append_seam lines line (lines_of behind) [] in
    let front : take (length lines) (lines ++ line ∷ lines_of behind) ≡ lines = take_at lines (line ∷ lines_of behind) (length lines) refl in
    ap long_line (sym h.all ∙ ap (λ ls. lines ++ ls) split)
    ∙ long_line-first (lines ++ line ∷ lines_of behind) (length lines) (let len = length-append lines (line ∷ lines_of behind) in omega (arith, len)) (subst (All IsShort) (sym front) h.short)
    (subst (λ (l : List ℕ). 32767 < length l) (sym here) long)

-- all are taken
pub taken_all : (text rest : List ℕ) (lines : List (List ℕ)) → AreTaken text rest lines → lines_of rest ≡ [] → lines ≡ lines_of text
taken_all text rest lines h none = sym (append-nil lines) ∙ (ap (λ ls. lines ++ ls) (sym none) ∙ h.all)

pub none_long : (text rest : List ℕ) (lines : List (List ℕ)) → AreTaken text rest lines → lines_of rest ≡ [] → long_line (lines_of text) ≡ None
none_long text rest lines h none = ap long_line (sym (taken_all text rest lines h none)) ∙ long_line-none lines h.short
