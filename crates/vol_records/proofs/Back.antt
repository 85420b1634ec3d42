-- What is spelt reads back.
use Rattle.std.proofs.Common.{◌≡◌, ◌∙◌, ◌+◌, ◌%◌, ◌<◌, ◌≤◌, ℕ, List, [], ◌∷◌, ◌++◌, length, take, get_or, replicate, All, sym, ap, arith, subst, append_assoc, append-nil}
use Rattle.std.proofs.lemmas.List.{take_all, length-replicate}
use Rattle.std.proofs.lemmas.List.Elements.{All-nil, All-head, All-tail, All-more}
use Rattle.byteorder.specs.Endian.{little_number, little_bytes}
use Rattle.byteorder.specs.Numbers.{little_number-reads_back, length-bytes_low_first}
use Rattle.vol_records.specs.Records.{spelt_line, spelt, ReadsAs, ReadsBack, BeginsWith, AreRecordsOf}
use Rattle.vol_records.proofs.Spellings.{spelt-none, spelt-cons, spelt-take_more}
use Rattle.vol_records.proofs.Exact.{IsShort, reads}

-- a line that is spelt is a record of it
spelt_line-begins : (line rest : List ℕ) → IsShort line → BeginsWith line (spelt_line line ++ rest) rest
unfolding spelt_line
spelt_line-begins line rest short =
    let count : List ℕ = little_bytes 2 (length line) in
    let padding : List ℕ = replicate (length line % 2) 0 in
    record {
      count = count;
      padding = padding;
      two_bytes = length-bytes_low_first 0 2 (length line);
      says_length = ap (little_number 2) (sym (append-nil count)) ∙ little_number-reads_back 2 (length line) [] (omega arith);
      even = length-replicate (length line % 2) 0;
      in_order = append_assoc count (line ++ padding) rest ∙ ap (λ l. count ++ l) (append_assoc line padding rest);
    }

-- so the stream of lines is their records
spelt-records : (lines : List (List ℕ)) → All IsShort lines → AreRecordsOf lines (spelt lines)
spelt-records [] h = spelt-none
spelt-records (line ∷ lines) h =
    let begins = subst (λ stream. BeginsWith line stream (spelt lines)) (sym (spelt-cons line lines)) (spelt_line-begins line (spelt lines) (All-head IsShort line lines h)) in
    (spelt lines, (begins, spelt-records lines (All-tail IsShort line lines h)))

pub reads_back : ReadsBack
reads_back lines h = reads (spelt lines) lines h (spelt-records lines h)

-- the stream of the first lines, each as short as a count can tell
pub record AreSpelt (lines : List (List ℕ)) (i : ℕ) (stream : List ℕ) : Type 0 where
  pub same : stream ≡ spelt (take i lines)
  pub short : All IsShort (take i lines)

pub AreSpelt-none : (lines : List (List ℕ)) → AreSpelt lines 0 []
AreSpelt-none lines = record { same = sym spelt-none; short = All-nil IsShort }

pub AreSpelt-more : (lines : List (List ℕ)) (i : ℕ) (stream line : List ℕ) → i < length lines → AreSpelt lines i stream → line ≡ get_or lines i [] → IsShort line
    → AreSpelt lines (i + 1) (stream ++ spelt_line line)
AreSpelt-more lines i stream line within h e small = record {
  same = ap (λ front. front ++ spelt_line line) h.same ∙ ap (λ l. spelt (take i lines) ++ spelt_line l) e ∙ sym (spelt-take_more lines i within);
  short = All-more IsShort lines i [] within h.short (subst IsShort e small);
}

pub AreSpelt-all : (lines : List (List ℕ)) (i : ℕ) (stream : List ℕ) → length lines ≤ i → AreSpelt lines i stream → stream ≡ spelt lines
AreSpelt-all lines i stream end h = h.same ∙ ap spelt (take_all i lines end)

pub AreSpelt-read : (lines : List (List ℕ)) (i : ℕ) (stream : List ℕ) → length lines ≤ i → AreSpelt lines i stream → ReadsAs stream lines
AreSpelt-read lines i stream end h =
    let short : All IsShort lines = subst (All IsShort) (take_all i lines end) h.short in
    subst (λ s. ReadsAs s lines) (sym (AreSpelt-all lines i stream end h)) (reads_back lines short)
