use Rattle.std.proofs.Common.{◌≡◌, ◌+◌, ◌<◌, ◌∙◌, ◌++◌, ℕ, suc, List, ◌∷◌, length, drop, get_or, map, sym, ap, subst, append_assoc, drop-cons, arith}
use Rattle.plain_cat.specs.declared.entries.DirEnt.{DirEnt}
use Rattle.plain_cat.specs.declared.cat.Slot.{Slot}
use Rattle.plain_rules.specs.declared.places.Place.{Place}
use Rattle.plain_rules.specs.Mending.{entries_in, places_from}

abbrev pub placed : ℕ → DirEnt → Place
placed n e = record { dir = n; entry = e }

places_next : (fs : List Slot) (i n : ℕ) (x : Slot) → i < length fs → x ≡ get_or fs i x
    → places_from n (drop i fs) ≡ map (placed n) (entries_in x) ++ places_from (n + 1) (drop (i + 1) fs)
places_next fs i n x lt is =
    let one : suc i ≡ i + 1 = omega arith in
    let e : drop i fs ≡ x ∷ drop (i + 1) fs =
    drop-cons fs i x lt ∙ (ap (λ (y : Slot). y ∷ drop (suc i) fs) (sym is) ∙ ap (λ (k : ℕ). x ∷ drop k fs) one) in
    ap (places_from n) e

-- one slot more
pub places_push : (files items : List Slot) (i : ℕ) (x : Slot) (old new : List Place) (es : List DirEnt) → items ≡ files → i < length items
    → x ≡ get_or items i x → es ≡ entries_in x → new ≡ old ++ map (placed (i + 1)) es
    → old ++ places_from (i + 1) (drop i files) ≡ places_from 1 files → new ++ places_from (i + 1 + 1) (drop (i + 1) files) ≡ places_from 1 files
places_push files items i x old new es same lt is entries grown inv =
    let lt' : i < length files = subst (λ (l : List Slot). i < length l) same lt in
    let is' : x ≡ get_or files i x = subst (λ (l : List Slot). x ≡ get_or l i x) same is in
    let rest : List Place = places_from (i + 1 + 1) (drop (i + 1) files) in
    let all : List Place = map (placed (i + 1)) (entries_in x) in
    ap (λ (z : List Place). z ++ rest) (grown ∙ ap (λ (w : List DirEnt). old ++ map (placed (i + 1)) w) entries)
    ∙ (append_assoc old all rest ∙ (ap (λ (z : List Place). old ++ z) (sym (places_next files i (i + 1) x lt' is')) ∙ inv))
