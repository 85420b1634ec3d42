-- How long records are, and one more of them.
use Rattle.std.proofs.Common.{◌≡◌, ◌∙◌, ◌+◌, ◌%◌, ◌<◌, ℕ, List, [], ◌∷◌, ◌++◌, length, take, get_or, replicate, refl, sym, ap, arith, length-append}
use Rattle.std.proofs.lemmas.List.{flat_map_more, take_more, length-replicate}
use Rattle.byteorder.specs.Endian.{little_bytes}
use Rattle.byteorder.specs.Numbers.{length-bytes_low_first}
use Rattle.vol_records.specs.Records.{room_of, spelt_line, spelt}

pub length-spelt_line : (line : List ℕ) → length (spelt_line line) ≡ room_of (length line)
unfolding spelt_line
length-spelt_line line =
    let count : length (little_bytes 2 (length line)) ≡ 2 = length-bytes_low_first 0 2 (length line) in
    omega (arith, count, length-append (little_bytes 2 (length line)) (line ++ replicate (length line % 2) 0), length-append line (replicate (length line % 2) 0), length-replicate {A = ℕ} (length line % 2) 0)

pub spelt-push : (lines : List (List ℕ)) (line : List ℕ) → spelt (lines ++ line ∷ []) ≡ spelt lines ++ spelt_line line
unfolding spelt
spelt-push lines line = sym (flat_map_more spelt_line [] lines line)

pub length-spelt_push : (lines : List (List ℕ)) (line : List ℕ) → length (spelt (lines ++ line ∷ [])) ≡ length (spelt lines) + room_of (length line)
length-spelt_push lines line = ap length (spelt-push lines line) ∙ length-append (spelt lines) (spelt_line line) ∙ ap (λ n. length (spelt lines) + n) (length-spelt_line line)

pub spelt-take_more : (lines : List (List ℕ)) (i : ℕ) → i < length lines → spelt (take (i + 1) lines) ≡ spelt (take i lines) ++ spelt_line (get_or lines i [])
spelt-take_more lines i h = ap spelt (take_more lines i [] h) ∙ spelt-push (take i lines) (get_or lines i [])

pub spelt-none : spelt [] ≡ []
unfolding spelt
spelt-none = refl

pub spelt-cons : (line : List ℕ) (lines : List (List ℕ)) → spelt (line ∷ lines) ≡ spelt_line line ++ spelt lines
unfolding spelt
spelt-cons line lines = refl
