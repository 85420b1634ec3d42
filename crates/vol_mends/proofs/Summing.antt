-- Quota blocks whose rows say what files cost.
use Rattle.std.proofs.Common.{◌≡◌, ◌≢◌, ◌∙◌, ◌<◌, ◌+◌, ◌++◌, ℕ, zero, suc, Bool, true, false, cond, List, [], ◌∷◌, Some, All, map, slice_get, slice_set, get_or, refl, sym, ap, subst, arith, ◌⊎◌, inl, inr, if◌then◌else◌}
use Rattle.std.specs.Prelude.{◌==◌, ◌||◌, nat_lt, flat_map, slice_index_or}
use Rattle.std.specs.List.{range_with_len, list_any}
use Rattle.std.proofs.lemmas.Bool.{eq-eqb, eqb-true}
use Rattle.std.proofs.lemmas.Option.{slice_get-get_or, slice_get_within}
use Rattle.base_words.specs.Fields.{Block}
use Rattle.fx_quota.specs.declared.types.Row.{Row}
use Rattle.plain_cat.specs.declared.cat.Cat.{Cat}
use Rattle.plain_cat.specs.declared.cat.QuotaRow.{QuotaRow}
use Rattle.plain_rules.specs.Accounts.{charge}
use Rattle.plain_rules.specs.Changes.{with_row}
use Rattle.plain_mends.specs.Resuming.{IsOfUsage, unused}
use Rattle.vol_spell.specs.declared.owner.Owner.TheVariants.{InFile}
use Rattle.base_words.specs.Lists.{Has, Once}
use Rattle.vol_spell.specs.Spread.{blocks_at}
use Rattle.base_words.proofs.Listing.{has_parted, has_first, has_second, once_second, once_apart, place_of as place_in, has_at}
use Rattle.vol_parts.specs.declared.geometry.Geometry.{Geometry}
use Rattle.vol_parts.specs.declared.geometry.Part.TheVariants.{Quota}
use Rattle.vol_parts.specs.Volumes.{rows_in}
use Rattle.vol_parts.specs.Catalogues.{quota_row, rows_sorted}
use Rattle.vol_spell.specs.Reading.{quota_places, rows_told}
use Rattle.vol_spell.specs.Places.{place_of}
use Rattle.vol_spell.specs.Spelling.{Spells}
use Rattle.vol_spell.proofs.Picking.{has_any}
use Rattle.vol_spell.proofs.Parts.{home_owned, part_owned, part_there}
use Rattle.vol_spell.proofs.Frames.{apart_by}
use Rattle.vol_spell.proofs.Viewing.{quota_set}
use Rattle.vol_mends.specs.Going.{Change, Summed}
use Rattle.vol_spell.specs.Rows.{IsRowChange}
use Rattle.vol_spell.proofs.RowKinds.{rows_spelt}
use Rattle.vol_mends.specs.Told.{IsTold}
use Rattle.vol_mends.specs.Rows.{sum_of, summed, quota_block, AreSums, UsageIsSet, RowsAreSummed}
use Rattle.vol_mends.proofs.Basics.{false_by}
use Rattle.vol_mends.proofs.WriteTold.{Owned, owned, changed, home_left}
use Rattle.vol_mends.proofs.Bitmaps.{parts_single, parts_clean, part_on}

abbrev owner_of : Row → ℕ
owner_of r = r.uic

map_both : {X Y : Type 0} (f : X → Y) (xs ys : List X) → map f (xs ++ ys) ≡ map f xs ++ map f ys
map_both f [] ys = refl
map_both f (x ∷ xs) ys = ap (λ zs. f x ∷ zs) (map_both f xs ys)

map_same : {X Y : Type 0} (f h : X → Y) (xs : List X) → ((x : X) → Has xs x → f x ≡ h x) → map f xs ≡ map h xs
map_same f h [] same = refl
map_same f h (x ∷ xs) same = let first = same x (inl refl) in let rest = map_same f h xs (λ y t. same y (inr t)) in λ i. first i ∷ rest i

map_still : {X : Type 0} (f : X → X) (xs : List X) → ((x : X) → Has xs x → f x ≡ x) → map f xs ≡ xs
map_still f [] still = refl
map_still f (x ∷ xs) still = let first = still x (inl refl) in let rest = map_still f xs (λ y t. still y (inr t)) in λ i. first i ∷ rest i

has_image : {X Y : Type 0} (f : X → Y) (xs : List X) (x : X) → Has xs x → Has (map f xs) (f x)
has_image f [] x t = absurd t
has_image f (y ∷ ys) x (inl e) = inl (ap f e)
has_image f (y ∷ ys) x (inr t) = inr (has_image f ys x t)

-- ---- the rows of a block that is set

-- a row of a block is among all rows
in_all : (qs : List Block) (k : ℕ) (q : Block) (r : Row) → slice_get qs k ≡ Some q → Has (rows_in q) r → Has (flat_map rows_in qs) r
in_all [] k q r at t = absurd (cc at)
in_all (x ∷ qs) zero q r at t = let same : x ≡ q = cc at in has_first (rows_in x) (flat_map rows_in qs) r (subst (λ (y : Block). Has (rows_in y) r) (sym same) t)
in_all (x ∷ qs) (suc k) q r at t = has_second (rows_in x) (flat_map rows_in qs) r (in_all qs k q r at t)

-- an owner of its rows is one of theirs
owner_in : (rs : List Row) (u : ℕ) → Has (map owner_of rs) u → (r : Row) × Has rs r × (r.uic ≡ u)
owner_in [] u t = absurd t
owner_in (r ∷ rs) u (inl e) = (r, inl refl, e)
owner_in (r ∷ rs) u (inr t) = let x = owner_in rs u t in (x.0, inr x.1, x.2)

module _ (q b : Block) (f : Row → Row) (here : rows_in b ≡ map f (rows_in q)) (elsewhere : (r : Row) → (Has (map owner_of (rows_in q)) r.uic → ⊥) → f r ≡ r) where
  rows_set : (k : ℕ) (qs : List Block) → slice_get qs k ≡ Some q → Once (map owner_of (flat_map rows_in qs)) → flat_map rows_in (slice_set qs k b) ≡ map f (flat_map rows_in qs)
  rows_set k [] at once = absurd (cc at)
  rows_set zero (x ∷ qs) at once =
      let same : x ≡ q = cc at in
      let parted : Once (map owner_of (rows_in x) ++ map owner_of (flat_map rows_in qs)) = subst (λ (ns : List ℕ). Once ns) (map_both owner_of (rows_in x) (flat_map rows_in qs)) once in
      let now : rows_in b ≡ map f (rows_in x) = here ∙ ap (λ (y : Block). map f (rows_in y)) (sym same) in
      let rest : map f (flat_map rows_in qs) ≡ flat_map rows_in qs =
      map_still f (flat_map rows_in qs) (λ r t. elsewhere r (λ u.
      once_apart (map owner_of (rows_in x)) (map owner_of (flat_map rows_in qs)) parted r.uic (subst (λ (y : Block). Has (map owner_of (rows_in y)) r.uic) (sym same) u) (has_image owner_of (flat_map rows_in qs) r t))) in
      ap (λ rs. rs ++ flat_map rows_in qs) now ∙ (ap (λ rs. map f (rows_in x) ++ rs) (sym rest) ∙ sym (map_both f (rows_in x) (flat_map rows_in qs)))
  rows_set (suc k) (x ∷ qs) at once =
      let parted : Once (map owner_of (rows_in x) ++ map owner_of (flat_map rows_in qs)) = subst (λ (ns : List ℕ). Once ns) (map_both owner_of (rows_in x) (flat_map rows_in qs)) once in
      let first : map f (rows_in x) ≡ rows_in x =
      map_still f (rows_in x) (λ r t. elsewhere r (λ u.
      let w = owner_in (rows_in q) r.uic u in
      once_apart (map owner_of (rows_in x)) (map owner_of (flat_map rows_in qs)) parted r.uic (has_image owner_of (rows_in x) r t)
      (subst (λ (n : ℕ). Has (map owner_of (flat_map rows_in qs)) n) w.2 (has_image owner_of (flat_map rows_in qs) w.0 (in_all qs k q w.0 at w.1))))) in
      let rest = rows_set k qs at (once_second (map owner_of (rows_in x)) (map owner_of (flat_map rows_in qs)) parted) in
      ap (λ rs. rows_in x ++ rs) rest ∙ (ap (λ rs. rs ++ map f (flat_map rows_in qs)) (sym first) ∙ sym (map_both f (rows_in x) (flat_map rows_in qs)))

-- the block at a place of a range
at_range : (bs : List Block) (a n k : ℕ) → k < n → slice_get (blocks_at bs (range_with_len a n)) k ≡ Some (slice_index_or bs (a + k) [])
at_range bs a zero k lt = absurd (omega (arith, lt))
at_range bs a (suc n) zero lt = ap (λ j. Some (slice_index_or bs j [])) (let e : a ≡ a + 0 = omega arith in e)
at_range bs a (suc n) (suc k) lt = at_range bs (a + 1) n k (omega (arith, lt)) ∙ ap (λ j. Some (slice_index_or bs j [])) (let e : a + 1 + k ≡ a + suc k = omega arith in e)

-- ---- a quota block that is written

any_owner : (rs : List Row) (u : ℕ) → list_any (λ (r : Row). r.uic == u) rs ≡ true → Has (map owner_of rs) u
any_owner [] u h = absurd (cc h)
any_owner (r ∷ rs) u h = by (r.uic == u) refl h (any_owner rs u) where
  by : (t : Bool) → (r.uic == u) ≡ t → t || list_any (λ (x : Row). x.uic == u) rs ≡ true → (list_any (λ (x : Row). x.uic == u) rs ≡ true → Has (map owner_of rs) u) → (r.uic ≡ u) ⊎ Has (map owner_of rs) u
  by true e k rest = inl (eqb-true r.uic u e)
  by false e k rest = inr (rest k)

module _ (g : Geometry) (bs : List Block) (c : Cat) (k : ℕ) (b : Block) (are : AreSums g bs c k b) where
  abbrev o : Owned g bs c
  o = owned g bs c are.told

  abbrev l : ℕ
  l = place_of g (Quota k)

  abbrev new : List Block
  new = slice_set bs (place_of g (Quota k)) b

  abbrev q : Block
  q = quota_block g bs k

  -- an owner has a row in the block
  abbrev is_here : ℕ → Bool
  is_here u = list_any (λ (r : Row). r.uic == u) (rows_in (quota_block g bs k))

  abbrev sums : Row → Row
  sums r = if is_here r.uic then summed c r else r

  abbrev usages : QuotaRow → QuotaRow
  usages r = if is_here r.owner.0 then record r { usage = charge c r.owner } else r

  row_change : IsRowChange sums usages
  row_change = record { owner = λ r. same_owner r (is_here r.uic); same = λ r. same_row r (is_here r.uic) } where
    same_owner : (r : Row) (t : Bool) → (cond t (summed c r) r).uic ≡ r.uic
    same_owner r true = refl
    same_owner r false = refl

    same_row : (r : Row) (t : Bool) → quota_row (cond t (summed c r) r) ≡ cond t (record (quota_row r) { usage = charge c (record { 0 = r.uic }) }) (quota_row r)
    same_row r true = refl
    same_row r false = refl

  of_usage : IsOfUsage usages
  of_usage r = by (is_here r.owner.0) where
    by : (t : Bool) → unused (cond t (record r { usage = charge c r.owner }) r) ≡ unused r
    by true = refl
    by false = refl

  here : rows_in b ≡ map sums (rows_in q)
  here = are.rows ∙ map_same (summed c) sums (rows_in q) (λ r t. sym (ap (λ (x : Bool). cond x (summed c r) r) (has_any (λ (x : Row). x.uic == r.uic) (rows_in q) r t (eq-eqb r.uic r.uic refl))))

  elsewhere : (r : Row) → (Has (map owner_of (rows_in (quota_block g bs k))) r.uic → ⊥) → sums r ≡ r
  elsewhere r never = ap (λ (x : Bool). cond x (summed c r) r) (false_by (is_here r.uic) (λ e. never (any_owner (rows_in q) r.uic e)))

  told_now : rows_told g new ≡ map sums (rows_told g bs)
  told_now =
      ap (flat_map rows_in) (quota_set g bs o.own c k (place_of g (Quota k)) b o.spells (part_there g bs o.own c o.spells (Quota k) are.block))
      ∙ rows_set q b sums here elsewhere k (blocks_at bs (quota_places g)) (at_range bs g.quota_lbn g.cluster k are.block) o.spells.rows.once

  spelt : Spells g new o.own (record c { quota = map usages c.quota })
  spelt = rows_spelt g bs o.own c k b sums usages o.spells are.block are.whole row_change told_now

  change : Change c (record c { quota = map usages c.quota })
  change = Summed usages of_usage

  home_apart : 1 ≢ place_of g (Quota k)
  home_apart =
      apart_by g o.own 1 (place_of g (Quota k)) (InFile 1) (InFile 10) (home_owned g bs o.own c o.spells) (part_owned g bs o.own c o.spells (Quota k) are.block) (λ e. cc e)

  usage_set : UsageIsSet g bs c new
  usage_set = record {
    change = usages;
    usages = of_usage;
    leads = changed g bs new o.own c (record c { quota = map usages c.quota }) are.told change spelt o.outs (home_left bs (place_of g (Quota k)) b home_apart);
    singles = parts_single g bs o.own o.own c (record c { quota = map usages c.quota }) (Quota k) b o.spells spelt are.block (λ n e. cc e);
    clean = parts_clean g bs o.own c (Quota k) b o.spells are.block (λ n e. cc e);
  }

-- ---- where each block is summed

-- a row stands in one of the blocks of a range
in_range : (bs : List Block) (a n : ℕ) (r : Row) → Has (flat_map rows_in (blocks_at bs (range_with_len a n))) r → (i : ℕ) × (i < n) × Has (rows_in (slice_index_or bs (a + i) [])) r
in_range bs a zero r t = absurd t
in_range bs a (suc n) r t = by (has_parted (rows_in (slice_index_or bs a [])) (flat_map rows_in (blocks_at bs (range_with_len (a + 1) n))) r t) (in_range bs (a + 1) n r) where
  by : Has (rows_in (slice_index_or bs a [])) r ⊎ Has (flat_map rows_in (blocks_at bs (range_with_len (a + 1) n))) r
      → (Has (flat_map rows_in (blocks_at bs (range_with_len (a + 1) n))) r → (i : ℕ) × (i < n) × Has (rows_in (slice_index_or bs (a + 1 + i) [])) r) → (i : ℕ) × (i < suc n) × Has (rows_in (slice_index_or bs (a + i) [])) r
  by (inl u) rest = (0, omega arith, let e : a ≡ a + 0 = omega arith in subst (λ (j : ℕ). Has (rows_in (slice_index_or bs j [])) r) e u)
  by (inr u) rest =
      let w = rest u in
      let lt = w.1 in
      let e : a + 1 + w.0 ≡ a + suc w.0 = omega arith in
      (suc w.0, omega (arith, lt), subst (λ (j : ℕ). Has (rows_in (slice_index_or bs j [])) r) e w.2)

in_sorted : (row : QuotaRow) (rs : List QuotaRow) (r : QuotaRow) → Has (with_row row rs) r → (row ≡ r) ⊎ Has rs r
in_sorted row [] r (inl e) = inl e
in_sorted row [] r (inr t) = absurd t
in_sorted row (x ∷ rs) r t = by (nat_lt row.owner.0 x.owner.0) t (in_sorted row rs r) where
  by : (s : Bool) → Has (cond s (row ∷ x ∷ rs) (x ∷ with_row row rs)) r → (Has (with_row row rs) r → (row ≡ r) ⊎ Has rs r) → (row ≡ r) ⊎ Has (x ∷ rs) r
  by true (inl e) rest = inl e
  by true (inr u) rest = inr u
  by false (inl e) rest = inr (inl e)
  by false (inr u) rest = next (rest u) where
    next : (row ≡ r) ⊎ Has rs r → (row ≡ r) ⊎ Has (x ∷ rs) r
    next (inl e) = inl e
    next (inr w) = inr (inr w)

all_sorted : (P : QuotaRow → Type 0) (rs : List Row) → ((r : Row) → Has rs r → P (quota_row r)) → (x : QuotaRow) → Has (rows_sorted rs) x → P x
all_sorted P [] each x t = absurd t
all_sorted P (r ∷ rs) each x t = by (in_sorted (quota_row r) (rows_sorted rs) x t) (all_sorted P rs (λ y v. each y (inr v)) x) where
  by : (quota_row r ≡ x) ⊎ Has (rows_sorted rs) x → (Has (rows_sorted rs) x → P x) → P x
  by (inl e) rest = subst P e (each r (inl refl))
  by (inr u) rest = rest u

all_by : {X : Type 0} (P : X → Type 0) (xs : List X) → ((x : X) → Has xs x → P x) → All P xs
all_by P xs each = λ k d lt. each (get_or xs k d) (has_at xs k (get_or xs k d) (slice_get-get_or xs k d lt))

all_at : {X : Type 0} (P : X → Type 0) (xs : List X) (x : X) → All P xs → Has xs x → P x
all_at P xs x all t =
    let w = place_in xs x t in
    let lt = slice_get_within xs w.0 x w.1 in
    let both : Some (get_or xs w.0 x) ≡ Some x = sym (slice_get-get_or xs w.0 x lt) ∙ w.1 in
    subst P (cc both) (all w.0 x lt)

all_summed : (g : Geometry) (bs : List Block) (c : Cat) → IsTold g bs c → ((k : ℕ) → k < g.cluster → All (λ (r : Row). r.usage ≡ sum_of c r) (rows_in (quota_block g bs k))) → All (λ (r : QuotaRow). r.usage ≡ charge c r.owner) c.quota
all_summed g bs c t each =
    let o = owned g bs c t in
    subst (λ (rs : List QuotaRow). All (λ (r : QuotaRow). r.usage ≡ charge c r.owner) rs) (sym o.spells.rows.quota)
    (all_by (λ (r : QuotaRow). r.usage ≡ charge c r.owner) (rows_sorted (rows_told g bs)) (all_sorted (λ (r : QuotaRow). r.usage ≡ charge c r.owner) (rows_told g bs) row))
  where
    row : (r : Row) → Has (rows_told g bs) r → (quota_row r).usage ≡ charge c (quota_row r).owner
    row r h = let w = in_range bs g.quota_lbn g.cluster r h in all_at (λ (x : Row). x.usage ≡ sum_of c x) (rows_in (quota_block g bs w.0)) r (each w.0 w.1) w.2

pub rows_are_summed : RowsAreSummed
rows_are_summed = record { leads = usage_set; all = all_summed; within = λ g bs c k t lt. part_on g bs c (Quota k) t lt }
