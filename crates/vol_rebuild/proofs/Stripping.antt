-- One entry less.
use Rattle.std.proofs.Common.{◌≡◌, ◌<◌, ◌≤◌, ◌+◌, ◌-◌, ◌∙◌, zero, suc, ℕ, List, [], ◌∷◌, length, map, drop, get_or, refl, sym, ap, arith, drop-cons}
use Rattle.plain_cat.specs.declared.cat.Cat.{Cat}
use Rattle.plain_cat.specs.declared.cat.File.{File}
use Rattle.plain_rules.specs.declared.places.Place.{Place}
use Rattle.plain_rules.specs.Mending.{places, stripped}
use Rattle.plain_rules.proofs.Standing.{stands_at}
use Rattle.plain_rules.specs.Directories.{without}
use Rattle.plain_mends.specs.Resuming.{Goes, less_one}
use Rattle.plain_mends.proofs.GoneSteps.{entry_first, entry_fewer}
use Rattle.base_words.specs.Fields.{Block}
use Rattle.vol_parts.specs.declared.geometry.Geometry.{Geometry}
use Rattle.vol_mends.specs.Told.{IsTold}
use Rattle.vol_rebuild.specs.declared.entries.Leaver.{Leaver}
use Rattle.vol_rebuild.specs.Leaving.{leavers, place_from}
use Rattle.vol_rebuild.specs.Steps.{used_count}
use Rattle.vol_rebuild.proofs.Counting.{used_still}
use Rattle.vol_rebuild.proofs.Entering.{shut_is}
use Rattle.vol_rebuild.proofs.Reading.{keyed, shut, plain_file}
use Rattle.vol_rebuild.proofs.Removing.{first_goes, leavers_next, none_leaves}

-- the places of the entries from one on
pub next_place : (ls : List Leaver) (i : ℕ) (l : Leaver) → i < length ls → map place_from (drop i ls) ≡ place_from (get_or ls i l) ∷ map place_from (drop (i + 1) ls)
next_place ls i l lt = ap (map place_from) (drop-cons ls i l lt) ∙ ap (λ k. place_from (get_or ls i l) ∷ map place_from (drop k ls)) (let same : suc i ≡ i + 1 = omega arith in same)

-- the first of those that are left
pub item_first : (c : Cat) (ls : List Leaver) (i : ℕ) (l : Leaver) → i < length ls → l ≡ get_or ls i l → map place_from (drop i ls) ≡ leavers c → leavers c ≡ place_from l ∷ map place_from (drop (i + 1) ls)
item_first c ls i l lt is left = sym left ∙ (next_place ls i l lt ∙ ap (λ (x : Leaver). place_from x ∷ map place_from (drop (i + 1) ls)) (sym is))

none_after : (ls : List Leaver) (i : ℕ) → length ls ≤ i → drop i ls ≡ []
none_after [] zero le = refl
none_after [] (suc i) le = refl
none_after (l ∷ ls) zero le = absurd (omega (arith, le))
none_after (l ∷ ls) (suc i) le = none_after ls i (omega (arith, le))

-- none is left
pub items_done : (c : Cat) (ls : List Leaver) (i : ℕ) → length ls ≤ i → map place_from (drop i ls) ≡ leavers c → leavers c ≡ []
items_done c ls i le left = sym left ∙ ap (map place_from) (none_after ls i le)

pub record OneLess (c d : Cat) (rest : List Place) : Type 0 where
  pub left : rest ≡ leavers d
  pub first : stripped d ≡ stripped c
  pub counted : length (places d) + 1 ≡ length (places c)
  pub files : used_count d ≡ used_count c

pub one_less : (g : Geometry) (bs : List Block) (c d : Cat) (p : Place) (rest : List Place) → IsTold g bs c → leavers c ≡ p ∷ rest → ((f : File) → Goes c p f → d ≡ less_one c p f) → OneLess c d rest
one_less g bs c d p rest t e less =
    let w = first_goes c p rest e in
    let is = less w.0 w.1 in
    let key = keyed g bs c t in
    record {
      left = sym (ap leavers is ∙ leavers_next c p rest w.0 key e w.1);
      first = ap stripped is ∙ entry_first c p w.0 key w.1;
      counted = ap (λ (x : Cat). length (places x) + 1) is ∙ entry_fewer c p w.0 key w.1;
      files = ap (λ (x : Cat). used_count x) is ∙ used_still c.files (p.dir - 1) w.0 (record w.0 { entries = without p.entry.name p.entry.ver w.0.entries }) (stands_at c p.dir w.0 w.1.at);
    }

-- where none is left that goes, the catalogue is what the first step of mending leaves
pub all_stripped : (g : Geometry) (bs : List Block) (c : Cat) → IsTold g bs c → leavers c ≡ [] → c ≡ stripped c
all_stripped g bs c t none = sym (none_leaves c none (plain_file g bs c t) ∙ shut_is c (shut g bs c t))
