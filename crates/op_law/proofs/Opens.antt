-- What channels have open, and the locks that conflict with it.
use Rattle.std.proofs.Common.{◌≡◌, ◌∙◌, ◌==◌, ◌&&◌, ◌||◌, not, nat_lt, ℕ, Bool, true, false, List, [], ◌∷◌, Option, Some, None, refl, ap}
use Rattle.std.specs.Prelude.{is_none}
use Rattle.std.specs.List.{list_any, list_all}
use Rattle.std.proofs.lemmas.Bool.{and_parts}
use Rattle.plain_cat.specs.Modes.{rank, compatible_modes}
use Rattle.plain_cat.specs.declared.mode.Mode.{Mode}
use Rattle.plain_cat.specs.declared.mode.Mode.TheVariants.{NL, CR, CW, PR, PW, EX}
use Rattle.plain_cat.specs.declared.cat.Open.{Open}
use Rattle.plain_rules.specs.Lookups.{has_file}
use Rattle.plain_rules.specs.Answers.{conflicts}
use Rattle.plain_rules.specs.Opens.{is_held_open}

-- a channel with nothing open
pub none_is : (o : Option Open) → is_none o ≡ true → o ≡ None
none_is None e = refl
none_is (Some o) e = absurd (let f : false ≡ true = e in cc)

-- a lock in EX conflicts with each open that is not in NL
ex_conflicts : (n : ℕ) (o : Option Open) → is_held_open o ≡ true → conflicts n EX o ≡ has_file n o
ex_conflicts n None held = refl
ex_conflicts n (Some o) held = by_mode o.mode held where
  by_file : (t : Bool) → (t && true) ≡ t
  by_file true = refl
  by_file false = refl

  by_mode : (m : Mode) → nat_lt 0 (rank m) ≡ true → ((o.file == n) && not (compatible_modes EX m)) ≡ (o.file == n)
  by_mode NL held = absurd (let f : false ≡ true = held in cc)
  by_mode CR held = by_file (o.file == n)
  by_mode CW held = by_file (o.file == n)
  by_mode PR held = by_file (o.file == n)
  by_mode PW held = by_file (o.file == n)
  by_mode EX held = by_file (o.file == n)

pub any_conflicts : (n : ℕ) (os : List (Option Open)) → list_all is_held_open os ≡ true → list_any (conflicts n EX) os ≡ list_any (has_file n) os
any_conflicts n [] held = refl
any_conflicts n (o ∷ os) held =
    let a = and_parts (is_held_open o) (list_all is_held_open os) held in
    ap (λ b. b || list_any (conflicts n EX) os) (ex_conflicts n o a.0) ∙ ap (λ b. has_file n o || b) (any_conflicts n os a.1)
