-- Which block a search looks at next.
use Rattle.std.proofs.Common.{◌≡◌, ℕ, Some, length, refl, ap, ◌∙◌, inl, inr}
use Rattle.std.specs.Prelude.{slice_index_or}
use Rattle.std.proofs.lemmas.Bool.{cases_lt}
use Rattle.std.proofs.lemmas.Option.{slice_get-get_or}
use Rattle.core_space.specs.declared.outcome.Search.TheVariants as search
use Rattle.core_space.specs.Searching.{Found, More, Short, Enough, places, found}
use Rattle.core_space.specs.Answering.{answered, LooksInOrder}
use Rattle.core_space.proofs.Ways.{search_ends}

looks_on : (next lbn : ℕ) (f : Found) → answered next f ≡ search.Look lbn → (f ≡ More) × (next ≡ lbn)
looks_on next lbn More e = (refl, let h : search.Look next ≡ search.Look lbn = e in cc)
looks_on next lbn (Short r) e = absurd (let h : search.Short r ≡ search.Look lbn = e in cc)
looks_on next lbn (Enough ws) e = absurd (let h : search.Take ws ≡ search.Look lbn = e in cc)

pub looks_in_order : LooksInOrder
looks_in_order g clusters number bs lbn e =
    let h = looks_on (slice_index_or (places g clusters number) (length bs) 0) lbn (found g clusters number bs) e in
    elim (cases_lt (length bs) (length (places g clusters number))) [
      | inl lt ↦ slice_get-get_or (places g clusters number) (length bs) 0 lt ∙ ap (λ (n : ℕ). Some n) h.1
      | inr ge ↦ absurd (search_ends g clusters number bs ge h.0)
    ]
