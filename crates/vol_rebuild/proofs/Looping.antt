-- One lost file more.
use Rattle.std.proofs.Common.{◌≡◌, ◌≤◌, ◌<◌, ◌+◌, ◌++◌, ◌∙◌, ◌⊎◌, inl, inr, zero, suc, ℕ, Bool, true, false, cond, List, [], ◌∷◌, Option, Some, None, length, drop, get_or, append_assoc, drop-cons, refl, sym, ap, subst, arith}
use Rattle.std.specs.Prelude.{option_map, option_and_then, unwrap_or}
use Rattle.std.specs.List.{Contains}
use Rattle.base_words.specs.Fields.{Block}
use Rattle.plain_cat.specs.declared.cat.Cat.{Cat}
use Rattle.plain_rules.specs.Mending.{places, lost, enter, enter_all, enter_some, with_lost}
use Rattle.base_words.specs.Lists.{Has}
use Rattle.base_words.proofs.Listing.{has_from, has_to, has_parted}
use Rattle.plain_mends.specs.Waiting.{Settled, LostIsWritten, AreFull}
use Rattle.plain_mends.proofs.FullSteps.{full_left, empties_left}
use Rattle.plain_mends.proofs.EmptySteps.{none_left, others_left, still_without}
use Rattle.plain_mends.proofs.SettledSteps.{full_settled, empty_settled}
use Rattle.vol_mends.specs.Going.{EnteredFull, EnteredEmpty}
use Rattle.vol_parts.specs.declared.geometry.Geometry.{Geometry}
use Rattle.vol_mends.specs.Told.{IsTold}
use Rattle.vol_rebuild.specs.Steps.{used_count, CanEnterOne, EntersOne, AreSkipped}
use Rattle.vol_rebuild.proofs.Reading.{few_files, shut, ends_at}
use Rattle.vol_rebuild.proofs.Entering.{entered_more, entered_files, finds_room}

-- ---- one that is not empty

pub can_full : (c : Cat) (n : ℕ) (ns : List ℕ) → Settled c → lost c false ≡ n ∷ ns → CanEnterOne c n
can_full c n ns settled waits y e = EnteredFull n ns settled waits e

-- what is so after it is entered
pub record FullOn (c d : Cat) (n : ℕ) (ns : List ℕ) (b : Bool) : Type 0 where
  pub entered : b ≡ true
  pub settled : Settled d
  pub written : LostIsWritten d
  pub left : lost d false ≡ ns
  pub others : lost d true ≡ lost c true
  pub all : enter_all ns d ≡ enter_all (n ∷ ns) c
  pub counted : length (places d) ≡ length (places c) + 1
  pub files : used_count d ≡ used_count c

pub full_on : (g : Geometry) (bs : List Block) (c d : Cat) (n : ℕ) (ns : List ℕ) (b : Bool) → IsTold g bs c → Settled c → LostIsWritten c → lost c false ≡ n ∷ ns → EntersOne c d n b → FullOn c d n ns b
full_on g bs c d n ns true t settled written waits e =
    let s = full_settled c d n ns settled written waits e in
    record {
      entered = refl;
      settled = s.0;
      written = s.1;
      left = full_left c d n ns settled waits e;
      others = empties_left c d n ns settled waits e;
      all = sym (ap (option_and_then (enter_all ns)) e);
      counted = entered_more c d n settled e;
      files = entered_files c d n e;
    }
full_on g bs c d n ns false t settled written waits e =
    let z = ends_at g bs c t in
    let r = finds_room c z.0 n ns settled.stay (shut g bs c t) waits z.1 in
    let both : Some r.0 ≡ None = sym r.1 ∙ e.0 in
    absurd (cc both)

-- ---- one that is empty

pub can_empty : (g : Geometry) (bs : List Block) (c : Cat) (n : ℕ) (ns : List ℕ) → IsTold g bs c → Settled c → lost c false ≡ [] → AreSkipped c (n ∷ ns) → CanEnterOne c n
can_empty g bs c n ns t settled none s y e =
    let few = few_files g bs c t in
    EnteredEmpty s.skipped n ns settled (omega (arith, few)) none s.waits s.full e

pub record EmptyOn (c d : Cat) (n : ℕ) (ns : List ℕ) : Type 0 where
  pub settled : Settled d
  pub written : LostIsWritten d
  pub none : lost d false ≡ []
  pub left : AreSkipped d ns
  pub all : enter_some ns d ≡ enter_some (n ∷ ns) c
  pub files : used_count d ≡ used_count c

full_more : (c : Cat) (ms : List ℕ) (n : ℕ) → AreFull c ms → enter c n ≡ None → AreFull c (ms ++ n ∷ [])
full_more c ms n full e m has = by_place (has_parted ms (n ∷ []) m (has_from (ms ++ n ∷ []) m has)) where
  by_place : Has ms m ⊎ Has (n ∷ []) m → enter c m ≡ None
  by_place (inl h) = full m (has_to ms m h)
  by_place (inr (inl same)) = ap (enter c) (sym same) ∙ e
  by_place (inr (inr h)) = absurd h

pub empty_on : (g : Geometry) (bs : List Block) (c d : Cat) (n : ℕ) (ns : List ℕ) → IsTold g bs c → Settled c → LostIsWritten c → lost c false ≡ [] → AreSkipped c (n ∷ ns) → enter c n ≡ Some d → EmptyOn c d n ns
empty_on g bs c d n ns t settled written none s e =
    let r = empty_settled c d s.skipped n ns settled written s.waits e in
    let few = few_files g bs c t in
    record {
      settled = r.0;
      written = r.1;
      none = none_left c d s.skipped n ns settled none s.waits e;
      left = record { skipped = s.skipped; waits = others_left c d s.skipped n ns settled s.waits e; full = still_without c d s.skipped n ns settled (omega (arith, few)) s.waits s.full e };
      all = sym (ap (λ (o : Option Cat). enter_some ns (unwrap_or o c)) e);
      files = entered_files c d n e;
    }

pub skipped_on : (c d : Cat) (n : ℕ) (ns : List ℕ) → Settled c → LostIsWritten c → lost c false ≡ [] → AreSkipped c (n ∷ ns) → enter c n ≡ None → d ≡ c → EmptyOn c d n ns
skipped_on c d n ns settled written none s e same =
    subst (λ (x : Cat). EmptyOn c x n ns) (sym same) (record {
      settled = settled;
      written = written;
      none = none;
      left = record { skipped = s.skipped ++ n ∷ []; waits = s.waits ∙ sym (append_assoc s.skipped (n ∷ []) ns); full = full_more c s.skipped n s.full e };
      all = sym (ap (λ (o : Option Cat). enter_some ns (unwrap_or o c)) e);
      files = refl;
    })

-- all are entered or skipped
pub all_skipped : (c : Cat) → AreSkipped c [] → AreFull c (lost c true)
all_skipped c s m has = s.full m (subst (λ (ks : List ℕ). Contains ks m) (s.waits ∙ append_nil s.skipped) has) where
  append_nil : (xs : List ℕ) → xs ++ [] ≡ xs
  append_nil [] = refl
  append_nil (x ∷ xs) = ap (λ ys. x ∷ ys) (append_nil xs)

-- ---- numbers that are left

pub rest_at : (ns : List ℕ) (i : ℕ) → i < length ns → drop i ns ≡ get_or ns i 0 ∷ drop (i + 1) ns
rest_at ns i lt = drop-cons ns i 0 lt ∙ ap (λ k. get_or ns i 0 ∷ drop k ns) (let same : suc i ≡ i + 1 = omega arith in same)

pub rest_done : (ns : List ℕ) (i : ℕ) → length ns ≤ i → drop i ns ≡ []
rest_done [] zero le = refl
rest_done [] (suc i) le = refl
rest_done (n ∷ ns) zero le = absurd (omega (arith, le))
rest_done (n ∷ ns) (suc i) le = rest_done ns i (omega (arith, le))

-- an empty one, whether it is entered or not
pub either_on : (g : Geometry) (bs : List Block) (c d : Cat) (n : ℕ) (ns : List ℕ) (b : Bool) → IsTold g bs c → Settled c → LostIsWritten c → lost c false ≡ [] → AreSkipped c (n ∷ ns) → EntersOne c d n b
    → EmptyOn c d n ns × (length (places d) ≡ length (places c) + cond b 1 0)
either_on g bs c d n ns true t settled written none s e = (empty_on g bs c d n ns t settled written none s e, entered_more c d n settled e)
either_on g bs c d n ns false t settled written none s e =
    (skipped_on c d n ns settled written none s e.0 e.1, (ap (λ (x : Cat). length (places x)) e.1 ∙ (let same : length (places c) ≡ length (places c) + 0 = omega arith in same)))

pub none_skipped : (c : Cat) (ns : List ℕ) → ns ≡ lost c true → AreSkipped c ns
none_skipped c ns e = record { skipped = []; waits = sym e; full = λ m has. absurd (has_from [] m has) }

-- ---- all of them

pub with_all : (c d e : Cat) → enter_all (lost c false) c ≡ Some d → lost d true ≡ lost c true → enter_some (lost d true) d ≡ e → with_lost c ≡ Some e
with_all c d e full others some = ap (option_map (enter_some (lost c true))) full ∙ ap (λ (x : Cat). Some x) (ap (λ ks. enter_some ks d) (sym others) ∙ some)
