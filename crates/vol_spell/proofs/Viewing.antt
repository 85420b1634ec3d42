-- What a write leaves of a file's header and blocks, and what it makes of them.
use Rattle.std.proofs.Common.{◌≡◌, ◌≢◌, ℕ, List, ◌∷◌, Some, slice_set, inl, refl, sym, ap, subst, ◌∙◌, get_or-set_other, [], ◌<◌, ◌≤◌, ◌+◌, ◌-◌, ◌*◌, ◌/◌, ◌%◌, zero, suc, length, slice_get, arith}
use Rattle.vol_spell.proofs.Clusters.{once_range}
use Rattle.vol_spell.proofs.Keeping.{header_number, others_told, new_body_away, slot_told}
use Rattle.vol_spell.specs.declared.owner.Owner.TheVariants.{InFile, Outside}
use Rattle.vol_spell.specs.Owners.{Owners}
use Rattle.plain_cat.specs.declared.cat.Cat.{Cat}
use Rattle.fx_header.specs.declared.slot.Hdr.{Hdr}
use Rattle.fx_header.specs.declared.slot.Slot.TheVariants.{Free, Used}
use Rattle.fx_header.specs.Headers.{runs_in}
use Rattle.fx_header.specs.Pointers.{blocks_in}
use Rattle.fx_bitmap.specs.Bits.{bit_at}
use Rattle.std.specs.List.{range_with_len}
use Rattle.std.specs.Prelude.{slice_index_or, Ok}
use Rattle.vol_parts.specs.Parts.{part_of}
use Rattle.vol_parts.specs.Volumes.{fields_in}
use Rattle.base_words.specs.Fields.{Block}
use Rattle.base_words.specs.Lists.{Has}
use Rattle.base_words.proofs.Listing.{has_at}
use Rattle.vol_spell.proofs.Placing.{blocks_stay, blocks_set, index-set_here}
use Rattle.vol_parts.specs.declared.geometry.Geometry.{Geometry}
use Rattle.vol_parts.specs.declared.geometry.Part.TheVariants.{Header, IndexBitmap, Storage, Quota}
use Rattle.vol_spell.specs.Reading.{IsFileNumber, header_place, header_block, head_told, fields_told, told_of, alone, nobody, body_places, body_blocks, owner_at, quota_places}
use Rattle.vol_spell.specs.Views.{IsSameFile, OthersStay, PartsStay, BodySet, OutsideStays, HeaderSet, SlotSet, StorageSet, IndexSet, QuotaSet}
use Rattle.vol_spell.specs.Spelling.{Spells}
use Rattle.vol_spell.proofs.Heads.{none_told, told_stays}
use Rattle.vol_spell.proofs.OneHeader.{enough_slot, told_alone}
use Rattle.vol_spell.proofs.Parts.{told, part_there, part_owned, part_only, part_owner}
use Rattle.vol_spell.proofs.Frames.{body_owned, body_no_part, body_once, of_body, header_apart, heads_apart, told_apart, on_volume}

-- a file of which the same is told, with the blocks that the write leaves
file_same : (g : Geometry) (bs : List Block) (n l : ℕ) (b : Block) → header_place g n ≢ l → told_of g (slice_set bs l b) n ≡ told_of g bs n → (Has (body_places n (told_of g bs n)) l → ⊥) → IsSameFile g bs (slice_set bs l b) n
file_same g bs n l b other told away =
    record { header = get_or-set_other bs l (header_place g n) b [] other; told = told; body = ap (body_blocks (slice_set bs l b) n) told ∙ blocks_stay bs l b (body_places n (told_of g bs n)) away }

module _ (g : Geometry) (bs : List Block) (own : Owners) (c : Cat) (s : Spells g bs own c) where
  -- what is told of a file, and its blocks, stay
  file_left : (n l : ℕ) (b : Block) → IsFileNumber g n → ((m : ℕ) → Has (n ∷ (told_of g bs n).slots) m → header_place g m ≢ l) → (Has (body_places n (told_of g bs n)) l → ⊥) → IsSameFile g bs (slice_set bs l b) n
  file_left n l b is apart away = file_same g bs n l b (apart n (inl refl)) (told_stays g bs n l b (told g bs own c s n is).size apart) away

  not_in_body : (n m : ℕ) → IsFileNumber g n → IsFileNumber g m → Has (body_places n (told_of g bs n)) (header_place g m) → ⊥
  not_in_body n m is is_m t = body_no_part g bs own c s n (header_place g m) (Header m) is t (part_there g bs own c s (Header m) is_m)

pub others_stay : OthersStay
others_stay g bs own c n l b s is apart ne = file_left g bs own c s n l b is apart (λ t. ne (body_owned g bs own c s n l is t).1)

pub parts_stay : PartsStay
parts_stay g bs own c n l p b s is part ne =
    file_left g bs own c s n l b is
    (λ m t e. ne m t (let h : Some p ≡ Some (Header m) = sym part ∙ ap (part_of g) (sym e) ∙ part_there g bs own c s (Header m) (header_number g bs own c s n m is t) in cc))
    (λ t. body_no_part g bs own c s n l p is t part)

pub body_set : BodySet
body_set g bs own c n v l b s is at =
    let has : Has (body_places n (told_of g bs n)) l = has_at (body_places n (told_of g bs n)) v l at in
    let o = of_body g bs own c s n l is has in
    let other : (m : ℕ) → IsFileNumber g m → header_place g m ≢ l = λ m is_m e. body_no_part g bs own c s n l (Header m) is has (ap (part_of g) (sym e) ∙ part_there g bs own c s (Header m) is_m) in
    let h = told_apart g bs own c s l b other n is in
    record {
      header = get_or-set_other bs l (header_place g n) b [] (other n is);
      told = h;
      body = ap (body_blocks (slice_set bs l b) n) h ∙ blocks_set bs l b (body_places n (told_of g bs n)) v at (body_once g bs own c s n is) o.within;
    }

pub outside_stays : OutsideStays
outside_stays g bs own c n node l b s is at =
    others_stay g bs own c n l b s is (heads_apart g bs own c s n l is (header_apart g bs own c s l (Outside node) at (λ e. absurd (cc)))) (λ e. let h : Some (Outside node) ≡ Some (InFile n) = sym at ∙ e in absurd (cc))

-- what is told of a file, in the slot of whose number its one header is set
pub alone_set : (g : Geometry) (bs : List Block) (n : ℕ) (b : Block) (f : Hdr) → header_place g n < length bs → head_told b ≡ Ok (Used f) → f.blocks ≤ blocks_in (runs_in b)
    → told_of g (slice_set bs (header_place g n) b) n ≡ alone n f b
alone_set g bs n b f len reads enough =
    let here = index-set_here bs (header_place g n) b len in
    let used = ap fields_told here ∙ ap fields_in reads in
    let all : f.blocks ≤ blocks_in (runs_in (header_block g (slice_set bs (header_place g n) b) n)) = subst (λ (x : Block). f.blocks ≤ blocks_in (runs_in x)) (sym here) enough in
    told_alone g (slice_set bs (header_place g n) b) n f used (enough_slot g (slice_set bs (header_place g n) b) n f used all) ∙ ap (alone n f) here

-- and of a number in whose slot the first header of no file is set
pub none_set : (g : Geometry) (bs : List Block) (n : ℕ) (b : Block) (seq : ℕ) → header_place g n < length bs → head_told b ≡ Ok (Free seq) → told_of g (slice_set bs (header_place g n) b) n ≡ nobody seq
none_set g bs n b seq len reads = none_told g (slice_set bs (header_place g n) b) n seq (ap head_told (index-set_here bs (header_place g n) b len) ∙ reads)

pub header_set : HeaderSet
header_set g bs own new c node n m b x s h =
    let is_m = header_number g bs own c s n m h.number h.slot in
    let at : owner_at g own (header_place g m) ≡ Some (InFile 1) = part_owned g bs own c s (Header m) is_m in
    let len = on_volume g bs own c s (header_place g m) (InFile 1) at in
    let now = told_of g (slice_set bs (header_place g m) b) n in
    record {
      header = index-set_here bs (header_place g m) b len;
      body = blocks_stay bs (header_place g m) b (body_places n now) (new_body_away g bs own c s new node n m (header_place g m) b x h at);
      others = λ i is ne apart. file_same g bs i (header_place g m) b (λ e. apart (let same : i ≡ m = omega arith in same)) (others_told g bs own c s new node n m b x h i is ne) (not_in_body g bs own c s i m is is_m);
    }

pub slot_set : SlotSet
slot_set g bs own c m b s h =
    let len = on_volume g bs own c s (header_place g m) (InFile 1) (part_owned g bs own c s (Header m) h.number) in
    record {
      header = index-set_here bs (header_place g m) b len;
      told = slot_told g bs own c s m b h m h.number;
      others = λ i is apart. file_same g bs i (header_place g m) b (λ e. apart (let same : i ≡ m = omega arith in same)) (slot_told g bs own c s m b h i is) (not_in_body g bs own c s i m is h.number);
    }

pub storage_set : StorageSet
storage_set g bs own c k l b s part =
    let place : g.bitmap_lbn + 1 + k ≡ l = (part_only g bs own c s l (Storage k) part).1 in
    let len : l < length bs = on_volume g bs own c s l (InFile 2) (part_owner g bs own c s l (Storage k) part) in
    record {
      here = λ q e. ap (λ x. bit_at x (q % 4096)) (ap (λ j. slice_index_or (slice_set bs l b) j []) (let z : g.bitmap_lbn + 1 + q / 4096 ≡ l = omega arith in z) ∙ index-set_here bs l b len);
      elsewhere = λ q ne. ap (λ x. bit_at x (q % 4096)) (get_or-set_other bs l (g.bitmap_lbn + 1 + q / 4096) b [] (let other : g.bitmap_lbn + 1 + q / 4096 ≢ l = (λ e. ne (omega arith)) in other));
    }

pub index_set : IndexSet
index_set g bs own c l b s part n =
    let place : 4 * g.cluster ≡ l = (part_only g bs own c s l IndexBitmap part).1 in
    let len : l < length bs = on_volume g bs own c s l (InFile 1) (part_owner g bs own c s l IndexBitmap part) in
    ap (λ x. bit_at x (n - 1)) (ap (λ j. slice_index_or (slice_set bs l b) j []) place ∙ index-set_here bs l b len)

pub get_range : (a n k : ℕ) → k < n → slice_get (range_with_len a n) k ≡ Some (a + k)
get_range a zero k lt = absurd (omega arith)
get_range a (suc n) zero lt = ap (λ x. Some x) (let e : a ≡ a + 0 = omega arith in e)
get_range a (suc n) (suc k) lt = get_range (a + 1) n k (omega arith) ∙ ap (λ x. Some x) (let e : a + 1 + k ≡ a + suc k = omega arith in e)

pub quota_set : QuotaSet
quota_set g bs own c k l b s part =
    let p = part_only g bs own c s l (Quota k) part in
    let place : g.quota_lbn + k ≡ l = p.1 in
    let len : l < length bs = on_volume g bs own c s l (InFile 10) (part_owner g bs own c s l (Quota k) part) in
    blocks_set bs l b (quota_places g) k (get_range g.quota_lbn g.cluster k p.0 ∙ ap (λ x. Some x) place) (once_range g.quota_lbn g.cluster) len
