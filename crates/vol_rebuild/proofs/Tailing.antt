-- The header slots that become free because no file has them.
use Rattle.std.proofs.Common.{◌≡◌, ◌≢◌, ◌∙◌, ◌≤◌, ◌<◌, ◌+◌, ◌-◌, ◌⊎◌, inl, inr, ℕ, Bool, true, false, List, [], Option, Some, None, Ok, get_or, length, slice_get, refl, sym, ap, subst, arith}
use Rattle.std.specs.Option.{unwrap_or}
use Rattle.std.proofs.lemmas.Option.{unwrap_or-slice_get}
use Rattle.base_words.specs.Fields.{Block, IsWholeBlock}
use Rattle.base_words.specs.Lists.{Has}
use Rattle.base_words.proofs.Listing.{same_or_not}
use Rattle.fx_home.specs.declared.home.Home.{Home}
use Rattle.fx_header.specs.declared.slot.Hdr.{Hdr}
use Rattle.fx_header.specs.declared.slot.Slot.TheVariants.{Free, Used}
use Rattle.fx_header.specs.Headers.{header_read}
use Rattle.plain_cat.specs.declared.cat.Cat.{Cat}
use Rattle.vol_parts.specs.declared.geometry.Geometry.{Geometry}
use Rattle.vol_parts.specs.Volumes.{Told, volume, fields_in, is_in_slots}
use Rattle.vol_spell.specs.Reading.{IsFileNumber, header_place, header_block}
use Rattle.vol_spell.specs.Spelling.{IsBlank}
use Rattle.vol_mends.specs.Told.{IsTold, KeepsSingles}
use Rattle.vol_mends.specs.Clean.{IsNoSlot}
use Rattle.vol_mends.specs.Tails.{IsForStray, IsStrayFreed}
use Rattle.vol_mends.proofs.WriteTold.{owned, home_told}
use Rattle.vol_mends.proofs.Cleaned.{in_slots, slots_in}
use Rattle.vol_rebuild.specs.Space.{AreFlagged}
use Rattle.vol_rebuild.specs.Tails.{NoneHasSurplus, AreFilesKept, IsSlotClear, AreTailsClear}

-- ---- one slot

-- the block that was read stands in the slot
pub slot_read : (g : Geometry) (bs : List Block) (n : ℕ) (h : Block) → slice_get bs (header_place g n) ≡ Some h → header_block g bs n ≡ h
slot_read g bs n h at = sym (unwrap_or-slice_get bs (header_place g n) []) ∙ ap (λ (o : Option Block). unwrap_or o []) at

pub slot_blank : (g : Geometry) (bs : List Block) (n : ℕ) (h : Block) → slice_get bs (header_place g n) ≡ Some h → fields_in (header_read h) ≡ None → IsBlank (header_block g bs n)
slot_blank g bs n h at none = ap (λ (x : Block). fields_in (header_read x)) (slot_read g bs n h at) ∙ none

pub for_stray : (g : Geometry) (bs : List Block) (c : Cat) (n : ℕ) (f : Hdr) (h b : Block) → IsTold g bs c → IsFileNumber g n → IsNoSlot g bs n → slice_get bs (header_place g n) ≡ Some h
    → header_read h ≡ Ok (Used f) → IsWholeBlock b → header_read b ≡ Ok (Free f.seq) → IsForStray g bs c n f b
for_stray g bs c n f h b t is none at used whole free = record {
  told = t;
  stray = record { number = is; used = ap header_read (slot_read g bs n h at) ∙ used; none = none };
  whole = whole;
  free = free;
}

pub slot_stays : (g : Geometry) (bs : List Block) (c : Cat) (n : ℕ) → IsTold g bs c → (IsNoSlot g bs n → IsBlank (header_block g bs n)) → IsSlotClear g c bs bs n
slot_stays g bs c n t clear = record { told = t; singles = λ i is h. h; files = λ i is. refl; clear = clear; others = λ i other. refl }

pub slot_cleared : (g : Geometry) (bs new : List Block) (c : Cat) (n : ℕ) → IsStrayFreed g bs c n new → IsSlotClear g c bs new n
slot_cleared g bs new c n s = record { told = s.leads.told; singles = s.singles; files = s.files; clear = λ none. s.blank; others = s.others }

-- ---- the flags

module _ (g : Geometry) (bs : List Block) (c : Cat) (flags : List Bool) (t : IsTold g bs c) (are : AreFlagged g bs flags) where
  home_is : are.home ≡ record { cluster = g.cluster; files = g.files; label = are.home.label }
  home_is = let o = owned g bs c t in home_told g bs o.own c o.spells are.home are.read

  flag_is : (n : ℕ) → IsFileNumber g n → get_or flags (n - 1) false ≡ is_in_slots (volume (record { cluster = g.cluster; files = g.files; label = are.home.label }) bs) n
  flag_is n is = are.each n is ∙ ap (λ (h : Home). is_in_slots (volume h bs) n) home_is

  pub flag_filed : (n : ℕ) → IsFileNumber g n → get_or flags (n - 1) false ≡ true → IsNoSlot g bs n → ⊥
  flag_filed n is e none = let o = owned g bs c t in let r = in_slots are.home.label g bs o.own c o.spells n (sym (flag_is n is) ∙ e) in none r.file r.number r.slot

  pub flag_spare : (n : ℕ) → IsFileNumber g n → get_or flags (n - 1) false ≡ false → IsNoSlot g bs n
  flag_spare n is e i number h =
      let o = owned g bs c t in
      let both : true ≡ false = sym (slots_in are.home.label g bs o.own c o.spells n i number h) ∙ (sym (flag_is n is) ∙ e) in
      cc both

-- ---- slot by slot

pub no_slot_on : (g : Geometry) (old new : List Block) (m : ℕ) → AreFilesKept g old new → IsNoSlot g old m → IsNoSlot g new m
no_slot_on g old new m kept none n is h = none n is (subst (λ (t : Told). Has t.slots m) (kept n is) h)

pub no_slot_was : (g : Geometry) (old new : List Block) (m : ℕ) → AreFilesKept g old new → IsNoSlot g new m → IsNoSlot g old m
no_slot_was g old new m kept none n is h = none n is (subst (λ (t : Told). Has t.slots m) (sym (kept n is)) h)

pub files_on : (g : Geometry) (a b c : List Block) → AreFilesKept g a b → AreFilesKept g b c → AreFilesKept g a c
files_on g a b c k l n is = l n is ∙ k n is

-- ---- the flag of a place

pub flagged_at : (g : Geometry) (bs seen : List Block) (flags items : List Bool) (c : Cat) → seen ≡ bs → items ≡ flags → ((g : Geometry) (c : Cat) → IsTold g seen c → AreFlagged g seen flags) → IsTold g bs c → AreFlagged g bs items
flagged_at g bs seen flags items c all same are t =
    subst (λ (xs : List Block). AreFlagged g xs items) all (subst (λ (fs : List Bool). AreFlagged g seen fs) (sym same) (are g c (subst (λ (xs : List Block). IsTold g xs c) (sym all) t)))

pub place_number : (g : Geometry) (bs : List Block) (flags : List Bool) (i : ℕ) → AreFlagged g bs flags → i < length flags → IsFileNumber g (i + 1)
place_number g bs flags i are lt = let all = are.all in record { from = omega arith; to = omega (arith, all, lt) }

pub place_filed : (g : Geometry) (bs now : List Block) (c : Cat) (flags : List Bool) (i : ℕ) → IsTold g bs c → AreFlagged g bs flags → i < length flags → AreFilesKept g bs now → get_or flags i false ≡ true → IsNoSlot g now (i + 1) → ⊥
place_filed g bs now c flags i t are lt kept e none =
    let back : i + 1 - 1 ≡ i = omega arith in
    flag_filed g bs c flags t are (i + 1) (place_number g bs flags i are lt) (ap (λ k. get_or flags k false) back ∙ e) (no_slot_was g bs now (i + 1) kept none)

pub place_spare : (g : Geometry) (bs now : List Block) (c : Cat) (flags : List Bool) (i : ℕ) → IsTold g bs c → AreFlagged g bs flags → i < length flags → AreFilesKept g bs now → get_or flags i false ≡ false → IsNoSlot g now (i + 1)
place_spare g bs now c flags i t are lt kept e =
    let back : i + 1 - 1 ≡ i = omega arith in
    no_slot_on g bs now (i + 1) kept (flag_spare g bs c flags t are (i + 1) (place_number g bs flags i are lt) (ap (λ k. get_or flags k false) back ∙ e))

-- one slot more is clear
pub clear_more : (g : Geometry) (old bs new : List Block) (c : Cat) (i : ℕ) → AreFilesKept g old bs → ((j : ℕ) → 1 ≤ j → j ≤ i → IsNoSlot g old j → IsBlank (header_block g bs j)) → IsSlotClear g c bs new (i + 1)
    → (j : ℕ) → 1 ≤ j → j ≤ i + 1 → IsNoSlot g old j → IsBlank (header_block g new j)
clear_more g old bs new c i kept before s j from to none = by (same_or_not j (i + 1)) where
  by : (j ≡ i + 1) ⊎ (j ≢ i + 1) → IsBlank (header_block g new j)
  by (inl same) = subst (λ k. IsBlank (header_block g new k)) (sym same) (s.clear (subst (λ k. IsNoSlot g bs k) same (no_slot_on g old bs j kept none)))
  by (inr other) = subst IsBlank (sym (s.others j other)) (before j from (let le : j ≤ i = omega (arith, to, other) in le) none)

-- all slots are
pub tails_clear : (g : Geometry) (old new : List Block) (c : Cat) → IsTold g new c → KeepsSingles g old new → NoneHasSurplus g old → AreFilesKept g old new → ((j : ℕ) → 1 ≤ j → j ≤ g.files → IsNoSlot g old j → IsBlank (header_block g new j))
    → AreTailsClear g c old new
tails_clear g old new c t singles none kept clear = record {
  told = t;
  singles = singles;
  clean = record { surplus = λ n is. ap (λ (x : Told). x.surplus) (kept n is) ∙ none n is; strays = λ m is no. clear m is.from is.to (no_slot_was g old new m kept no) };
}
