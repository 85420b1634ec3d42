-- Texts that are appended one behind the other.
use Rattle.std.proofs.Common.{◌≡◌, ◌∙◌, ◌++◌, ℕ, List, Result, Ok, Err, OnOk, ap, append_assoc}

pub three_pushed : {A E : Type 0} (r : Result A E) (out one two new a b d : List ℕ) → one ≡ out ++ a → two ≡ one ++ b → OnOk r (new ≡ two ++ d)
    → OnOk r (new ≡ out ++ (a ++ (b ++ d)))
three_pushed (Ok x) out one two new a b d e f h =
    h ∙ (ap (λ (t : List ℕ). t ++ d) (f ∙ ap (λ (t : List ℕ). t ++ b) e) ∙ (append_assoc (out ++ a) b d ∙ append_assoc out a (b ++ d)))
three_pushed (Err x) out one two new a b d e f h = h
