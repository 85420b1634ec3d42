-- What is printed of the records of a text's lines.
use Rattle.std.proofs.Common.{◌≡◌, ◌∙◌, ◌<◌, ◌==◌, ◌&&◌, ◌||◌, inl, inr, ℕ, Bool, true, false, cond, List, [], ◌∷◌, ◌++◌, length, map, nat_le, All, refl, sym, ap, arith, subst}
use Rattle.std.specs.Prelude.{IsOkAnd}
use Rattle.std.specs.List.{flat_map}
use Rattle.std.proofs.lemmas.List.{length-map}
use Rattle.std.proofs.lemmas.Bool.Decides.{nat_tests}
use Rattle.std.proofs.lemmas.List.Concat.{flat_map-cons}
use Rattle.std.proofs.lemmas.List.Elements.{All-head, All-tail}
use Rattle.plain_texts.specs.Reports.{newline}
use Rattle.run_script.specs.Lines.{onto_line, lines_of}
use Rattle.vol_records.specs.declared.types.Rec.{Rec}
use Rattle.vol_records.specs.Records.{data_at, spelt, ReadsAs}
use Rattle.vol_records.specs.Texts.{printable, record_line, count_line, is_plain, AllLinesEnd, PrintsBack}
use Rattle.vol_records.proofs.Back.{reads_back}

-- the printed line of these bytes
abbrev line_of : List ℕ → List ℕ
line_of l = map printable l ++ newline

printed : (b : ℕ) → is_plain b ≡ true → (b == 10) ≡ false → printable b ≡ b
unfolding printable
printed b plain other = by_test (nat_le 32 b && nat_le b 126) plain where
  by_test : (t : Bool) → (t || (b == 10)) ≡ true → cond t b 46 ≡ b
  by_test true e = refl
  by_test false e = absurd (let f : false ≡ true = sym other ∙ e in cc)

is_ten : (b : ℕ) → (b == 10) ≡ true → b ≡ 10
is_ten b e = grind (arith, nat_tests)

-- ---- the lines, printed one behind the other

first_more : (x : ℕ) (lines : List (List ℕ)) → 0 < length lines → printable x ≡ x → flat_map line_of (onto_line x lines) ≡ x ∷ flat_map line_of lines
first_more x [] lt e = absurd (omega arith)
first_more x (line ∷ lines) lt e =
    flat_map-cons line_of (x ∷ line) lines
    ∙ ap (λ y. y ∷ (line_of line ++ flat_map line_of lines)) e
    ∙ sym (ap (λ ys. x ∷ ys) (flat_map-cons line_of line lines))

-- a text that ends has a line
some_line : (front : List ℕ) → 0 < length (lines_of (front ++ 10 ∷ []))
some_line [] = omega arith
some_line (x ∷ xs) = by_end (x == 10) (lines_of (xs ++ 10 ∷ [])) where
  by_end : (t : Bool) (lines : List (List ℕ)) → 0 < length (cond t ([] ∷ lines) (onto_line x lines))
  by_end true lines = omega arith
  by_end false [] = omega arith
  by_end false (line ∷ lines) = omega arith

front_prints : (front : List ℕ) → All (λ b. is_plain b ≡ true) (front ++ 10 ∷ []) → flat_map line_of (lines_of (front ++ 10 ∷ [])) ≡ front ++ 10 ∷ []
front_prints [] plain = refl
front_prints (x ∷ xs) plain = by_end (front_prints xs (All-tail (λ b. is_plain b ≡ true) x (xs ++ 10 ∷ []) plain)) (x == 10) refl where
  by_end : flat_map line_of (lines_of (xs ++ 10 ∷ [])) ≡ xs ++ 10 ∷ [] → (t : Bool) → (x == 10) ≡ t
      → flat_map line_of (cond t ([] ∷ lines_of (xs ++ 10 ∷ [])) (onto_line x (lines_of (xs ++ 10 ∷ [])))) ≡ x ∷ (xs ++ 10 ∷ [])
  by_end rest true e =
      flat_map-cons line_of [] (lines_of (xs ++ 10 ∷ []))
      ∙ ap (λ ys. newline ++ ys) rest ∙ ap (λ y. y ∷ (xs ++ 10 ∷ [])) (sym (is_ten x e))
  by_end rest false e =
      first_more x (lines_of (xs ++ 10 ∷ [])) (some_line xs) (printed x (All-head (λ b. is_plain b ≡ true) x (xs ++ 10 ∷ []) plain) e)
      ∙ ap (λ ys. x ∷ ys) rest

lines_print : (text : List ℕ) → All (λ b. is_plain b ≡ true) text → AllLinesEnd text → flat_map line_of (lines_of text) ≡ text
lines_print text plain (inl none) = ap (λ t. flat_map line_of (lines_of t)) none ∙ sym none
lines_print text plain (inr ends) =
    ap (λ t. flat_map line_of (lines_of t)) ends.1 ∙ front_prints ends.0 (subst (All (λ b. is_plain b ≡ true)) ends.1 plain) ∙ sym ends.1

-- ---- the records

-- lines that are read from a stream are printed as they are there
records_print : (stream : List ℕ) (places : List Rec) → flat_map (record_line stream) places ≡ flat_map line_of (map (data_at stream) places)
unfolding record_line
records_print stream [] = refl
records_print stream (r ∷ rs) =
    flat_map-cons (record_line stream) r rs ∙ ap (λ ys. line_of (data_at stream r) ++ ys) (records_print stream rs)
    ∙ sym (flat_map-cons line_of (data_at stream r) (map (data_at stream) rs))

pub prints_back : PrintsBack
prints_back text places plain ends short read =
    let lines = lines_of text in
    let stream = spelt lines in
    let read_so : ReadsAs stream lines = reads_back lines short in
    let same : map (data_at stream) places ≡ lines = subst (λ r. IsOkAnd r (λ ps. map (data_at stream) ps ≡ lines)) read read_so in
    ap (λ ys. ys ++ count_line (length places)) (records_print stream places ∙ ap (flat_map line_of) same ∙ lines_print text plain ends)
    ∙ ap (λ n. text ++ count_line n) (sym (length-map places (data_at stream)) ∙ ap length same)
