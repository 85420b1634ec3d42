-- The directories of all numbers, one after another.
use Rattle.std.proofs.Common.{◌≡◌, ◌≢◌, ◌∙◌, ◌<◌, ◌≤◌, ◌+◌, ◌-◌, ◌⊎◌, ℕ, Bool, true, false, not, List, [], get_or, refl, sym, subst, inl, inr, arith}
use Rattle.std.specs.Prelude.{is_none}
use Rattle.std.proofs.lemmas.Bool.{cases_lt}
use Rattle.base_words.specs.Fields.{Block}
use Rattle.base_words.proofs.Listing.{same_or_not}
use Rattle.fx_home.specs.declared.home.Home.{Home}
use Rattle.fx_home.specs.Homes.{IsWithinLimits}
use Rattle.vol_parts.specs.Volumes.{Volume, volume, IsNumber, body}
use Rattle.vol_parts.specs.Fatal.{dir_fault}
use Rattle.vol_init.specs.Layouts.{main_entries}
use Rattle.vol_sound.specs.Sound.{is_sound}
use Rattle.vol_sound.specs.Begun.{lacks_entry}
use Rattle.vol_sound.specs.Kept.{is_marked_directory, IsEmptiedWhere, IsPackedWhere}
use Rattle.vol_sound.proofs.Still.{system_body, sound_body}
use Rattle.vol_sound.proofs.KeptLemmas.{flag-at}
use Rattle.vol_repair.specs.Touched.{IsDirPlace, IsMadeIn}
use Rattle.vol_repair.specs.Phases.{IsBeforeDirs, IsAfterDirs}
use Rattle.vol_repair.specs.Remaking.{IsHeld, GotTo, IsRight, IsNext, IsRemade, IsSoFar}

made_on : (R : ℕ → Type 0) (a b c : List Block) → IsMadeIn R a b → IsMadeIn R b c → IsMadeIn R a c
made_on R a b c x y = record { count = y.count ∙ x.count; others = λ l never. y.others l never ∙ x.others l never }

-- at first all files have their first blocks
pub so_far_begins : (home : Home) (first : List Block) (sound : List Bool) (old : List Block) → IsWithinLimits home → IsBeforeDirs home first sound old → IsSoFar home first old 1 old
so_far_begins home first sound old within before = record {
  ground = before.ground;
  right = λ k is lt held. absurd (let from = is.from in omega arith);
  still = λ k is le held. still k is held;
  others = record { count = refl; others = λ l never. refl };
} where
  still : (k : ℕ) → IsNumber (volume home first) k → IsHeld (volume home first) k → body (volume home old) k ≡ body (volume home first) k
  still k is (inl low) = system_body home first old within before.ground.system before.ground.touched.freed before.others k low.0 low.1
  still k is (inr s) = sound_body home first old within before.ground.system before.ground.touched.freed before.others k is s

-- the next number
pub next_is : (home : Home) (first : List Block) (sound : List Bool) (old now : List Block) (n : ℕ) (flag : Bool) → IsBeforeDirs home first sound old → IsSoFar home first old n now → 1 ≤ n → n ≤ home.files
    → flag ≡ get_or sound (n - 1) false → IsNext home first flag n now
next_is home first sound old now n flag before so from to e =
    let is : IsNumber (volume home first) n = record { from = from; to = to } in
    record {
      ground = so.ground;
      number = is;
      flag = e ∙ flag-at (is_sound (volume home first)) sound home.files n before.flags from to;
      still = λ held. so.still n is (omega arith) held;
    }

-- one number more
pub so_far_next : (home : Home) (first old now new : List Block) (n : ℕ) → IsSoFar home first old n now → IsRemade home first n now new → IsSoFar home first old (n + 1) new
so_far_next home first old now new n so done = record {
  ground = done.ground;
  right = right;
  still = λ k is le held. done.rest k is held (λ e. omega arith) ∙ so.still k is (omega arith) held;
  others = made_on (IsDirPlace (volume home first)) old now new so.others done.others;
} where
  right : (k : ℕ) → IsNumber (volume home first) k → k < n + 1 → IsHeld (volume home first) k → IsRight (volume home first) k (body (volume home new) k)
  right k is lt held = elim (same_or_not n k) [
    | inl e ↦ subst (λ (m : ℕ). IsHeld (volume home first) m → IsRight (volume home first) m (body (volume home new) m)) e done.right held
    | inr ne ↦ subst (λ (bs : List Block). IsRight (volume home first) k bs) (sym (done.rest k is held ne)) (so.right k is (below ne (cases_lt k n)) held)
  ] where
    below : n ≢ k → (k < n) ⊎ (n ≤ k) → k < n
    below ne (inl less) = less
    below ne (inr more) = absurd (ne (omega arith))

-- ---- all numbers

emptied_where : (b : Bool) (v p : Volume) (n : ℕ) → GotTo b [] (body v n) (body p n) → IsEmptiedWhere b v p n
emptied_where false v p n got = got
emptied_where true v p n got = got

packed_where : (b : Bool) (v p : Volume) → GotTo b main_entries (body v 4) (body p 4) → IsPackedWhere b v p
packed_where false v p got = got
packed_where true v p got = got

pub so_far_ends : (home : Home) (first old now : List Block) (n : ℕ) → IsWithinLimits home → IsSoFar home first old n now → home.files < n → IsAfterDirs home first old now
so_far_ends home first old now n within so last = record {
  ground = so.ground;
  made = record {
    sound = λ k is s. emptied_where (is_marked_directory v k) v p k ((so.right k is (let to : k ≤ home.files = is.to in omega arith) (inr s)).marked s);
    main = packed_where (lacks_entry v) v p ((low 4 (omega arith) (omega arith)).main refl);
    lost = emptied_where (not (is_none (dir_fault v 11))) v p 11 ((low 11 (omega arith) (omega arith)).lost refl);
  };
  others = so.others;
} where
  v : Volume
  v = volume home first

  p : Volume
  p = volume home now

  low : (k : ℕ) → 1 < k → k ≤ 11 → IsRight (volume home first) k (body (volume home now) k)
  low k a b = let f = within.files_low in so.right k (record { from = omega arith; to = (let h : k ≤ home.files = omega arith in h) }) (omega arith) (inl (a, b))
