-- Files become those of [1,1], one after another.
use Rattle.std.proofs.Common.{◌≡◌, ◌∙◌, ◌++◌, ◌<◌, ◌≤◌, ◌-◌, zero, suc, ℕ, Bool, true, false, cond, List, [], ◌∷◌, Option, Some, None, is_some, length, map, take, drop, slice_get, slice_set, refl, sym, ap, subst, arith}
use Rattle.std.specs.Prelude.{◌==◌, ◌||◌, slice_index_or}
use Rattle.std.specs.List.{list_any}
use Rattle.base_words.specs.Fields.{Block}
use Rattle.base_words.proofs.ListWrites.{set-get}
use Rattle.fx_header.specs.Headers.{with_owner}
use Rattle.plain_cat.specs.declared.ids.Uic.{Uic}
use Rattle.plain_cat.specs.declared.cat.Cat.{Cat}
use Rattle.plain_cat.specs.declared.cat.File.{File}
use Rattle.plain_cat.specs.declared.cat.QuotaRow.{QuotaRow}
use Rattle.plain_cat.specs.declared.cat.Slot.{Slot}
use Rattle.plain_cat.specs.declared.cat.Slot.TheVariants.{Used, Free}
use Rattle.plain_rules.specs.Lookups.{file_in, file_at, row_of}
use Rattle.plain_rules.specs.Changes.{with_slot}
use Rattle.plain_rules.proofs.Standing.{stands_at}
use Rattle.plain_laws.proofs.Standing.{stands_from}
use Rattle.vol_parts.specs.declared.geometry.Geometry.{Geometry}
use Rattle.vol_parts.specs.declared.geometry.Part.TheVariants.{Header}
use Rattle.vol_init.specs.Layouts.{system_owner}
use Rattle.vol_spell.specs.declared.owner.Owner.TheVariants.{InFile}
use Rattle.vol_spell.specs.Kinds.{owned_by}
use Rattle.vol_spell.specs.Reading.{IsFileNumber, header_place, header_block}
use Rattle.vol_spell.proofs.Parts.{part_owned, slot_there}
use Rattle.vol_spell.proofs.Frames.{on_volume}
use Rattle.vol_spell.proofs.HeadOwners.{owner_spelt}
use Rattle.vol_sound.specs.Begun.{has_row, owned, with_owners}
use Rattle.vol_repair.specs.Alike.{bare, IsSpeltAs, TellsAlike}

row_here : (b : Bool) (r : QuotaRow) (o : Option QuotaRow) (t : Bool) → is_some o ≡ t → is_some (cond b (Some r) o) ≡ (b || t)
row_here true r o t e = refl
row_here false r o t e = e

-- an owner has a row where one is found
pub row_found : (owner : Uic) (rows : List QuotaRow) → is_some (row_of owner rows) ≡ list_any (λ (r : QuotaRow). r.owner.0 == owner.0) rows
row_found owner [] = refl
row_found owner (r ∷ rs) = row_here (r.owner.0 == owner.0) r (row_of owner rs) (list_any (λ (x : QuotaRow). x.owner.0 == owner.0) rs) (row_found owner rs)

-- ---- one file

-- blocks that spell a catalogue tell it
pub alike_here : (g : Geometry) (bs : List Block) (c : Cat) → IsSpeltAs g bs c → TellsAlike g c bs
alike_here g bs c s = record { cat = c; spelt = s; alike = refl }

-- the header of a number is on the volume
pub header_on : (g : Geometry) (bs : List Block) (c : Cat) (n : ℕ) → IsSpeltAs g bs c → IsFileNumber g n → header_place g n < length bs
header_on g bs c n s is = on_volume g bs s.own c s.spelt (header_place g n) (InFile 1) (part_owned g bs s.own c s.spelt (Header n) is)

-- a slot that is as another one but for owner and entries stands in its place
set_alike : (xs : List Slot) (k : ℕ) (x y : Slot) → slice_get xs k ≡ Some x → bare y ≡ bare x → map bare (slice_set xs k y) ≡ map bare xs
set_alike [] k x y at same = absurd (cc at)
set_alike (z ∷ xs) zero x y at same = let e : z ≡ x = cc at in (λ i. (same ∙ ap bare (sym e)) i ∷ map bare xs)
set_alike (z ∷ xs) (suc k) x y at same = ap (λ ys. bare z ∷ ys) (set_alike xs k x y at same)

-- what one write leaves
pub record IsOwnerSet (g : Geometry) (c : Cat) (bs : List Block) (n : ℕ) (f : File) : Type 0 where
  pub spelt : IsSpeltAs g bs (with_slot c n (Used (owned_by f system_owner)))
  pub alike : TellsAlike g c bs

pub owner_set : (g : Geometry) (bs : List Block) (c : Cat) (n : ℕ) (f : File) → IsSpeltAs g bs c → IsFileNumber g n → file_at c n ≡ Some f
    → IsOwnerSet g c (slice_set bs (header_place g n) (with_owner (header_block g bs n) system_owner)) n f
owner_set g bs c n f s is at = record { spelt = now; alike = record { cat = with_slot c n (Used (owned_by f system_owner)); spelt = now; alike = set_alike c.files (n - 1) (Used f) (Used (owned_by f system_owner)) (stands_at c n f at) refl } } where
  now : IsSpeltAs g (slice_set bs (header_place g n) (with_owner (header_block g bs n) system_owner)) (with_slot c n (Used (owned_by f system_owner)))
  now = record { own = s.own; spelt = owner_spelt g bs s.own c n system_owner f s.spelt is at (omega arith); none = s.none }

-- the same of equal blocks and files
pub spelt_by : (g : Geometry) (old new : List Block) (c : Cat) (xs ys : List Slot) → IsSpeltAs g old (record c { files = ys }) → new ≡ old → xs ≡ ys → IsSpeltAs g new (record c { files = xs })
spelt_by g old new c xs ys s same files = subst (λ (x : List Block). IsSpeltAs g x (record c { files = xs })) (sym same) (subst (λ (zs : List Slot). IsSpeltAs g old (record c { files = zs })) (sym files) s)

-- ---- the catalogue

-- the slot of a number
pub slot_is : (g : Geometry) (bs : List Block) (c : Cat) (n : ℕ) → IsSpeltAs g bs c → IsFileNumber g n → slice_get c.files (n - 1) ≡ Some (slice_index_or c.files (n - 1) (Free 0))
slot_is g bs c n s is = slot_there g bs s.own c s.spelt n is

-- a slot that is set to what it is
pub set_same : (c : Cat) (n : ℕ) (x y : Slot) → slice_get c.files (n - 1) ≡ Some x → y ≡ x → c ≡ with_slot c n y
set_same c n x y at same = ap (λ (xs : List Slot). record c { files = xs }) (sym (set-get c.files (n - 1) y (at ∙ ap (λ (z : Slot). Some z) (sym same))))

owned_free : (c : Cat) (s : Slot) → file_in (Some s) ≡ None → owned c s ≡ s
owned_free c (Free seq) e = refl
owned_free c (Used f) e = absurd (cc e)

slot_free : (c : Cat) (n : ℕ) (s : Slot) → 1 ≤ n → slice_get c.files (n - 1) ≡ Some s → file_at c n ≡ None → file_in (Some s) ≡ None
slot_free c n s some at none = ap file_in (sym (stands_from c n s (omega (arith, some)) at)) ∙ none

-- a free slot stays
pub free_stays : (c : Cat) (n : ℕ) → 1 ≤ n → slice_get c.files (n - 1) ≡ Some (slice_index_or c.files (n - 1) (Free 0)) → file_at c n ≡ None
    → c ≡ with_slot c n (owned c (slice_index_or c.files (n - 1) (Free 0)))
free_stays c n some at none =
    set_same c n (slice_index_or c.files (n - 1) (Free 0)) (owned c (slice_index_or c.files (n - 1) (Free 0))) at
    (owned_free c (slice_index_or c.files (n - 1) (Free 0)) (slot_free c n (slice_index_or c.files (n - 1) (Free 0)) some at none))

owned_kept : (c : Cat) (f : File) → has_row c f.owner.0 ≡ true → owned c (Used f) ≡ Used f
owned_kept c f e = ap (λ b. cond b (Used f) (Used (owned_by f system_owner))) e

owned_set : (c : Cat) (f : File) → has_row c f.owner.0 ≡ false → owned c (Used f) ≡ Used (owned_by f system_owner)
owned_set c f e = ap (λ b. cond b (Used f) (Used (owned_by f system_owner))) e

one_slot : (s : Slot) (f : File) (o : Option Slot) → o ≡ Some s → o ≡ Some (Used f) → s ≡ Used f
one_slot s f o a b = let e : Some s ≡ Some (Used f) = sym a ∙ b in cc e

-- a file whose owner has a row stays
pub owner_stays : (c : Cat) (n : ℕ) (f : File) → slice_get c.files (n - 1) ≡ Some (slice_index_or c.files (n - 1) (Free 0)) → file_at c n ≡ Some f → has_row c f.owner.0 ≡ true
    → c ≡ with_slot c n (owned c (slice_index_or c.files (n - 1) (Free 0)))
owner_stays c n f at file has =
    let here = one_slot (slice_index_or c.files (n - 1) (Free 0)) f (slice_get c.files (n - 1)) at (stands_at c n f file) in
    set_same c n (slice_index_or c.files (n - 1) (Free 0)) (owned c (slice_index_or c.files (n - 1) (Free 0))) at (ap (owned c) here ∙ owned_kept c f has ∙ sym here)

-- and one whose owner has none changes
pub owner_changes : (c : Cat) (n : ℕ) (f : File) → slice_get c.files (n - 1) ≡ Some (slice_index_or c.files (n - 1) (Free 0)) → file_at c n ≡ Some f → has_row c f.owner.0 ≡ false
    → with_slot c n (Used (owned_by f system_owner)) ≡ with_slot c n (owned c (slice_index_or c.files (n - 1) (Free 0)))
owner_changes c n f at file lacks =
    let here = one_slot (slice_index_or c.files (n - 1) (Free 0)) f (slice_get c.files (n - 1)) at (stands_at c n f file) in
    ap (with_slot c n) (sym (ap (owned c) here ∙ owned_set c f lacks))

-- ---- one after another

-- the catalogue with the files below number k + 1 with their owners
abbrev pub owned_files : Cat → ℕ → List Slot
owned_files c k = map (owned c) (take k c.files) ++ drop k c.files

abbrev pub owned_to : Cat → ℕ → Cat
owned_to c k = record c { files = owned_files c k }

module _ (f : Slot → Slot) where
  parts_none : (xs : List Slot) → map f (take 0 xs) ++ drop 0 xs ≡ xs
  parts_none xs = refl

  parts_next : (xs : List Slot) (k : ℕ) (d : Slot) → k < length xs
      → slice_set (map f (take k xs) ++ drop k xs) k (f (slice_index_or (map f (take k xs) ++ drop k xs) k d)) ≡ map f (take (suc k) xs) ++ drop (suc k) xs
  parts_next [] k d lt = absurd (omega (arith, lt))
  parts_next (x ∷ xs) zero d lt = refl
  parts_next (x ∷ xs) (suc k) d lt = ap (λ ys. f x ∷ ys) (parts_next xs k d (omega (arith, lt)))

  parts_all : (xs : List Slot) (k : ℕ) → k ≡ length xs → map f (take k xs) ++ drop k xs ≡ map f xs
  parts_all [] zero e = refl
  parts_all [] (suc k) e = absurd (omega (arith, e))
  parts_all (x ∷ xs) zero e = absurd (omega (arith, e))
  parts_all (x ∷ xs) (suc k) e = ap (λ ys. f x ∷ ys) (parts_all xs k (omega (arith, e)))

  parts_alike : ((s : Slot) → bare (f s) ≡ bare s) → (xs : List Slot) (k : ℕ) → map bare (map f (take k xs) ++ drop k xs) ≡ map bare xs
  parts_alike same xs zero = refl
  parts_alike same [] (suc k) = refl
  parts_alike same (x ∷ xs) (suc k) = let e = same x in let r = parts_alike same xs k in λ i. e i ∷ r i

bare_owned : (c : Cat) (s : Slot) → bare (owned c s) ≡ bare s
bare_owned c (Free seq) = refl
bare_owned c (Used f) = by_row (has_row c f.owner.0) where
  by_row : (b : Bool) → bare (cond b (Used f) (Used (owned_by f system_owner))) ≡ bare (Used f)
  by_row true = refl
  by_row false = refl

same_rows : (c : Cat) (k : ℕ) (s : Slot) → owned (owned_to c k) s ≡ owned c s
same_rows c k (Free seq) = refl
same_rows c k (Used f) = refl

pub owned_none : (c : Cat) → c ≡ owned_to c 0
owned_none c = refl

owned_from : (c d : Cat) (k n : ℕ) → n - 1 ≡ k → suc k ≡ n → k < length c.files → d ≡ owned_to c k → with_slot d n (owned d (slice_index_or d.files (n - 1) (Free 0))) ≡ owned_to c n
owned_from c d k n e s lt is =
    ap (λ (x : Cat). with_slot x n (owned x (slice_index_or x.files (n - 1) (Free 0)))) is
    ∙ (ap (with_slot (owned_to c k) n) (same_rows c k (slice_index_or (owned_files c k) (n - 1) (Free 0)))
    ∙ (ap (λ (j : ℕ). record c { files = slice_set (owned_files c k) j (owned c (slice_index_or (owned_files c k) j (Free 0))) }) e
    ∙ (ap (λ (xs : List Slot). record c { files = xs }) (parts_next (owned c) c.files k (Free 0) lt)
    ∙ ap (owned_to c) s)))

-- one more
pub owned_next : (c d : Cat) (n : ℕ) → 1 ≤ n → n ≤ length c.files → d ≡ owned_to c (n - 1) → with_slot d n (owned d (slice_index_or d.files (n - 1) (Free 0))) ≡ owned_to c n
owned_next c d n some to is = owned_from c d (n - 1) n refl (omega (arith, some)) (omega (arith, some, to)) is

-- all of them
pub owned_all : (c d : Cat) (k : ℕ) → k ≡ length c.files → d ≡ owned_to c k → d ≡ with_owners c
unfolding with_owners
owned_all c d k all is = is ∙ ap (λ (xs : List Slot). record c { files = xs }) (parts_all (owned c) c.files k all)

-- the files stay but for their owners
pub owned_alike : (g : Geometry) (c d : Cat) (k : ℕ) → d ≡ owned_to c k → (x : List Block) → TellsAlike g d x → TellsAlike g c x
owned_alike g c d k is x t = record { cat = t.cat; spelt = t.spelt; alike = t.alike ∙ (ap (λ (y : Cat). map bare y.files) is ∙ parts_alike (owned c) (bare_owned c) c.files k) }
