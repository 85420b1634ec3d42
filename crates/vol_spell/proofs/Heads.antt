-- What is told of a file by its headers.
use Rattle.std.proofs.Common.{◌≡◌, ◌≢◌, ◌∙◌, ℕ, true, false, not, List, [], Option, Some, None, refl, sym, ap, subst, inl, inr, slice_set, get_or-set_other}
use Rattle.std.specs.Prelude.{is_some, Ok}
use Rattle.std.proofs.lemmas.Bool.{eq-eqb}
use Rattle.base_words.specs.Fields.{Block}
use Rattle.base_words.specs.Lists.{Has}
use Rattle.base_words.proofs.Listing.{place_of}
use Rattle.fx_header.specs.declared.slot.Hdr.{Hdr}
use Rattle.fx_header.specs.declared.slot.Slot.TheVariants.{Free, Used}
use Rattle.fx_header.specs.Headers.{header_read}
use Rattle.fx_header.specs.Pointers.{blocks_in}
use Rattle.vol_parts.specs.declared.geometry.Geometry.{Geometry}
use Rattle.vol_parts.specs.Chains.{Headers, as_first, chain_of, is_broken}
use Rattle.vol_parts.specs.ChainLaws.{IsSlot, IsSameSlot}
use Rattle.vol_parts.specs.Volumes.{fields_in, runs_with, chain_from, told_with, told_by}
use Rattle.vol_parts.proofs.Walks.{walk-begins, slots-numbers, slots-rise}
use Rattle.vol_parts.proofs.Linked.{chain-stays}
use Rattle.vol_parts.proofs.Alone.{first-used, first-is}
use Rattle.vol_spell.specs.Reading.{header_place, header_block, headers_at, head_told, fields_told, told_of, nobody}
use Rattle.vol_spell.specs.Spelling.{size_in}
use Rattle.vol_spell.specs.Views.{ToldStays}

-- ---- the first header

-- a number whose slot is the first of no file tells of none
pub none_told : (g : Geometry) (bs : List Block) (n seq : ℕ) → head_told (header_block g bs n) ≡ Ok (Free seq) → told_of g bs n ≡ nobody seq
none_told g bs n seq e = ap (told_by (headers_at g bs) n) e

-- a file in use has the header in the slot of its number
pub used_reads : (b : Block) (f : Hdr) → fields_told b ≡ Some f → header_read b ≡ Ok (Used f)
used_reads b f e = (first-is (header_read b) f e).0

pub first_reads : (b : Block) (f : Hdr) → head_told b ≡ Ok (Used f) → header_read b ≡ Ok (Used f)
first_reads b f e = used_reads b f (ap fields_in e)

-- which has SEG_NUM 0
pub first_segment : (b : Block) (f : Hdr) → head_told b ≡ Ok (Used f) → f.seg ≡ 0
first_segment b f e = (first-is (header_read b) f (ap fields_in e)).1

-- and a header that has it is a file's first one
pub reads_first : (b : Block) (f : Hdr) → header_read b ≡ Ok (Used f) → f.seg ≡ 0 → head_told b ≡ Ok (Used f)
reads_first b f e first = ap as_first e ∙ first-used f first

pub used_first : (b : Block) (f : Hdr) → fields_told b ≡ Some f → head_told b ≡ Ok (Used f)
used_first b f e = let is = first-is (header_read b) f e in reads_first b f is.0 is.1

-- and this slot
pub first_there : (g : Geometry) (bs : List Block) (n : ℕ) → is_some (fields_told (header_block g bs n)) ≡ true → Has (told_of g bs n).slots n
first_there g bs n used = by_fields (fields_told (header_block g bs n)) used where
  by_fields : (o : Option Hdr) → is_some o ≡ true → Has (chain_from (headers_at g bs) n o).slots n
  by_fields None e = absurd (let f : false ≡ true = e in cc)
  by_fields (Some f) e = let begins = walk-begins (headers_at g bs) 15 n f f.blocks in subst (λ ns. Has ns n) (sym begins.1) (inl refl)

-- and one that has a slot is in use
pub slots_used : (g : Geometry) (bs : List Block) (n m : ℕ) → Has (told_of g bs n).slots m → is_some (fields_told (header_block g bs n)) ≡ true
slots_used g bs n m t = by_fields (fields_told (header_block g bs n)) t where
  by_fields : (o : Option Hdr) → Has (chain_from (headers_at g bs) n o).slots m → is_some o ≡ true
  by_fields None u = absurd u
  by_fields (Some f) u = refl

-- ---- all headers

-- each slot of a file is that of a number, and is used
pub record IsSlotUsed (g : Geometry) (bs : List Block) (m : ℕ) : Type 0 where
  pub number : IsSlot (headers_at g bs) m
  pub used : is_some (fields_in (header_read (header_block g bs m))) ≡ true

pub slot_used : (g : Geometry) (bs : List Block) (n m : ℕ) → IsSlot (headers_at g bs) n → Has (told_of g bs n).slots m → IsSlotUsed g bs m
slot_used g bs n m is t = by_fields (fields_told (header_block g bs n)) refl t where
  h : Headers
  h = headers_at g bs

  by_fields : (o : Option Hdr) → fields_told (header_block g bs n) ≡ o → Has (chain_from (headers_at g bs) n o).slots m → IsSlotUsed g bs m
  by_fields None e u = absurd u
  by_fields (Some f) e u =
      let says : fields_in (header_read (header_block g bs n)) ≡ Some f = ap fields_in (first-is (header_read (header_block g bs n)) f e).0 in
      let place = place_of (chain_of (headers_at g bs) n f).slots m u in
      let there = slots-rise (headers_at g bs) 16 n f f.blocks place.0 m says place.1 in
      record { number = slots-numbers (headers_at g bs) 16 n f f.blocks m is u; used = ap is_some there.says }

-- what is told of a file stays where none of the blocks in its header slots changes
pub told_stays : ToldStays
told_stays g bs n l b size away =
    ap (λ x. told_by after n (head_told x)) (kept n (away n (inl refl)))
    ∙ ap (told_with (head_told (header_block g bs n))) (by_fields (fields_told (header_block g bs n)) refl)
  where
    before : Headers
    before = headers_at g bs

    after : Headers
    after = headers_at g (slice_set bs l b)

    kept : (m : ℕ) → header_place g m ≢ l → header_block g (slice_set bs l b) m ≡ header_block g bs m
    kept m apart = get_or-set_other bs l (header_place g m) b [] apart

    same : (m : ℕ) → header_block g (slice_set bs l b) m ≡ header_block g bs m → IsSameSlot (headers_at g bs) (headers_at g (slice_set bs l b)) m
    same m e = record { says = ap (λ x. fields_in (header_read x)) e; lists = ap (λ x. runs_with (fields_in (header_read x)) x) e }

    by_fields : (o : Option Hdr) → fields_told (header_block g bs n) ≡ o → chain_from (headers_at g (slice_set bs l b)) n (fields_told (header_block g bs n)) ≡ chain_from (headers_at g bs) n (fields_told (header_block g bs n))
    by_fields None e = ap (chain_from (headers_at g (slice_set bs l b)) n) e ∙ ap (chain_from (headers_at g bs) n) (sym e)
    by_fields (Some f) e =
        let P : Option Hdr → Type 0 = λ o. blocks_in (chain_from (headers_at g bs) n o).runs ≡ size_in o in
        let whole : blocks_in (chain_of (headers_at g bs) n f).runs ≡ f.blocks = subst P e size in
        let unbroken : is_broken f (chain_of (headers_at g bs) n f) ≡ false = ap not (eq-eqb _ _ whole) in
        let S : Option Hdr → Type 0 = λ o. (m : ℕ) → Has (chain_from (headers_at g bs) n o).slots m → header_place g m ≢ l in
        let apart : (m : ℕ) → Has (chain_of (headers_at g bs) n f).slots m → header_place g m ≢ l = subst S e (λ m t. away m (inr t)) in
        ap (chain_from (headers_at g (slice_set bs l b)) n) e
        ∙ chain-stays (headers_at g bs) (headers_at g (slice_set bs l b)) n f refl unbroken (λ m t. same m (kept m (apart m t)))
        ∙ ap (chain_from (headers_at g bs) n) (sym e)
