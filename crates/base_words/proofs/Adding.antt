-- Lists to which more was being added when memory ran out.
use Rattle.std.proofs.Common.{◌≡◌, ◌∙◌, ◌++◌, List, [], refl, sym, ap, append-nil, append_assoc}
use Rattle.base_words.specs.Lists.{HoldsPart}

-- nothing was added
pub none_added : {A : Type 0} (old more new : List A) → new ≡ old → HoldsPart old more new
none_added old more new e = record { part = []; rest = more; beginning = refl; held = e ∙ sym (append-nil old) }

-- a beginning of the first of two
pub in_first : {A : Type 0} (old a b new : List A) → HoldsPart old a new → HoldsPart old (a ++ b) new
in_first old a b new h =
    record { part = h.part; rest = h.rest ++ b; beginning = ap (λ t. t ++ b) h.beginning ∙ append_assoc h.part h.rest b; held = h.held }

-- the first of two, and a beginning of the second
pub behind_first : {A : Type 0} (old a b new : List A) → HoldsPart (old ++ a) b new → HoldsPart old (a ++ b) new
behind_first old a b new h =
    record { part = a ++ h.part; rest = h.rest; beginning = ap (λ t. a ++ t) h.beginning ∙ sym (append_assoc a h.part h.rest); held = h.held ∙ append_assoc old a h.part }
