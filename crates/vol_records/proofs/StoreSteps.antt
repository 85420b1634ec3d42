-- One write of a block of a file in which nothing shows, and the write of its header.
use Rattle.std.proofs.Common.{◌≡◌, ◌≢◌, ◌∙◌, ◌⊎◌, inl, inr, ◌+◌, ◌-◌, ℕ, Bool, true, false, cond, not, List, Some, Ok, nat_le, slice_get, slice_set, sym, ap, subst, arith}
use Rattle.std.specs.Prelude.{◌==◌, ◌&&◌}
use Rattle.std.proofs.lemmas.Bool.{le-leb}
use Rattle.std.proofs.lemmas.Option.{slice_get_within}
use Rattle.base_words.specs.Fields.{Block, IsWholeBlock}
use Rattle.base_words.proofs.Listing.{has_at, same_or_not}
use Rattle.fx_header.specs.declared.slot.Hdr.{Hdr}
use Rattle.fx_header.specs.declared.slot.Slot.TheVariants as head
use Rattle.fx_header.specs.Pointers.{lbns_in}
use Rattle.plain_cat.specs.declared.cat.Cat.{Cat}
use Rattle.plain_cat.specs.declared.cat.File.{File}
use Rattle.plain_cat.specs.declared.cat.Slot.TheVariants as slot
use Rattle.plain_rules.specs.Changes.{with_file, is_past_mark}
use Rattle.vol_parts.specs.declared.geometry.Geometry.{Geometry}
use Rattle.vol_parts.specs.Volumes.{fields_in, Told}
use Rattle.vol_parts.specs.Catalogues.{slot_with, file_of}
use Rattle.vol_spell.specs.declared.owner.Owner.TheVariants.{InFile}
use Rattle.vol_spell.specs.Owners.{Owners}
use Rattle.vol_spell.specs.Reading.{IsFileNumber, header_place, header_block, head_told, told_of, body_places, body_blocks}
use Rattle.vol_spell.specs.Spread.{blocks_at}
use Rattle.vol_spell.specs.Spelling.{dir_found, Spells}
use Rattle.vol_spell.specs.Kinds.{IsHeaderFor, IsBodyFor}
use Rattle.vol_spell.specs.Views.{IsFileAt, IsSameFile}
use Rattle.vol_spell.proofs.Frames.{of_body, header_apart, heads_apart}
use Rattle.vol_spell.proofs.Keeping.{header_write, body_write}
use Rattle.vol_spell.proofs.Viewing.{others_stay, header_set, body_set}
use Rattle.vol_spell.specs.Files.{with_sizes, blocks_told, showing, IsFileThere, IsResized}
use Rattle.vol_spell.proofs.HeadKept.{sized_for}
use Rattle.vol_spell.proofs.FilePlaces.{places, body, count, no_dir, shows}
use Rattle.vol_spell.proofs.Slots.{slot_same}
use Rattle.vol_mends.specs.Clean.{KeepsClean}
use Rattle.vol_mends.proofs.Cleaned.{clean_kept}
use Rattle.vol_records.specs.Keeping.{with_data, HasPlainFile, AreAccepted}
use Rattle.vol_records.proofs.DataAccepted.{data_is_accepted}
use Rattle.vol_records.proofs.StoreClean.{sizes_clean}

-- A volume is accepted, and its file f of number n, no system file and no directory, shows nothing. The block hb is its header, and says h; its
-- blocks stand at all of these places.
pub record IsBare (g : Geometry) (own : Owners) (c : Cat) (n : ℕ) (h : Hdr) (f : File) (hb : Block) (stands : List ℕ) (bs : List Block) : Type 0 where
  pub has : HasPlainFile g bs own c n f
  pub there : IsFileThere g c bs n h f
  pub mark : f.mark ≡ 1
  pub head : header_block g bs n ≡ hb
  pub places : lbns_in (told_of g bs n).runs ≡ stands

-- it is so after a write of one of its blocks, which is set
pub record IsBlockMade (g : Geometry) (own : Owners) (c : Cat) (n : ℕ) (h : Hdr) (f : File) (hb : Block) (stands : List ℕ) (bs : List Block) (i l : ℕ) (b : Block) : Type 0 where
  pub bare : IsBare g own c n h f hb stands (slice_set bs l b)
  pub blocks : blocks_told g (slice_set bs l b) n ≡ slice_set (blocks_told g bs n) i b

-- a block from the mark on does not show
past_mark : (f : File) (i : ℕ) (b : Block) → f.mark ≡ 1 → showing f (i + 1) b ≡ f
past_mark f i b one =
    let above : nat_le 1 (i + 1) ≡ true = le-leb 1 (i + 1) (omega arith) in
    let past : is_past_mark f (i + 1) ≡ true = ap (λ m. not (m == 0) && nat_le m (i + 1)) one ∙ above in
    ap (λ t. cond t f (record f { written = slice_set f.written (i + 1 - 1) b })) past

module _ (g : Geometry) (own : Owners) (c : Cat) (n : ℕ) (h : Hdr) (f : File) (hb : Block) (stands : List ℕ) (bs : List Block) (is : IsBare g own c n h f hb stands bs) where
  abbrev s : Spells g bs own c
  s = is.has.spells

  abbrev t : IsFileThere g c bs n h f
  t = is.there

  -- another file is as it was after a write of a block of this one
  module _ (i l : ℕ) (b : Block) (whole : IsWholeBlock b) (at : slice_get (lbns_in (told_of g bs n).runs) i ≡ Some l) where
    old : List Block
    old = body_blocks bs n (told_of g bs n)

    place : slice_get (body_places n (told_of g bs n)) i ≡ Some l
    place = ap (λ (ls : List ℕ). slice_get ls i) (places g bs own c n h f s t) ∙ at

    shown : file_of g.cluster n h (slice_set (blocks_told g bs n) i b) ≡ f
    shown =
        let lt = slice_get_within (lbns_in (told_of g bs n).runs) i l at in
        let many = count g bs own c n h f s t in
        let z : i ≡ i + 1 - 1 = omega arith in
        ap (λ k. file_of g.cluster n h (slice_set (blocks_told g bs n) k b)) z
        ∙ (shows g bs own c n h f s t (i + 1) (omega arith) (omega (arith, lt, many)) is.has.flat b ∙ past_mark f i b is.mark)

    body_is : IsBodyFor g bs n i l b (slot.Used f)
    body_is =
        let flat : h.dir ≡ false = no_dir g bs own c n h f s t is.has.flat in
        let says : head_told (header_block g bs n) ≡ Ok (head.Used h) = t.reads in
        record {
          whole = whole;
          number = t.number;
          place = place;
          dir = ap (λ r. dir_found g n (fields_in r) (told_of g bs n) (slice_set (body_blocks bs n (told_of g bs n)) i b)) says
              ∙ ap (λ (d : Bool). dir_found g n (Some (record h { dir = d })) (told_of g bs n) (slice_set (body_blocks bs n (told_of g bs n)) i b)) flat;
          slot = ap (λ r. slot_with g.cluster n r (slice_set (body_blocks bs n (told_of g bs n)) i b)) says
              ∙ (ap (λ (ys : List Block). slot.Used (file_of g.cluster n h (slice_set ys i b))) (body g bs own c n h f s t)
              ∙ ap (λ (y : File). slot.Used y) shown);
        }

    same : with_file c n f ≡ c
    same = slot_same c n f is.has.at

    spelt : Spells g (slice_set bs l b) own (with_file c n f)
    spelt = body_write g bs own c n i l b (slot.Used f) s body_is

    set : IsFileAt g (slice_set bs l b) n (header_block g bs n) (told_of g bs n) (slice_set (body_blocks bs n (told_of g bs n)) i b)
    set = body_set g bs own c n i l b s t.number place

    others : (m : ℕ) → IsFileNumber g m → (m ≡ n → ⊥) → IsSameFile g bs (slice_set bs l b) m
    others m number other =
        let o = of_body g bs own c s n l t.number (has_at (body_places n (told_of g bs n)) i l place) in
        let above = t.above in
        let apart : InFile 1 ≢ InFile n = λ e. (let one : 1 ≡ n = cc e in omega (arith, above, one)) in
        others_stay g bs own c m l b s number (heads_apart g bs own c s m l number (header_apart g bs own c s l (InFile n) o.owned apart))
        (λ e. other (let both : Some (InFile n) ≡ Some (InFile m) = sym o.owned ∙ e in let one : n ≡ m = cc both in sym one))

    clean : KeepsClean g bs (slice_set bs l b)
    clean = clean_kept g bs (slice_set bs l b) (λ m number. same_told m number (same_or_not m n)) (λ m number. same_head m number (same_or_not m n)) where
      same_told : (m : ℕ) → IsFileNumber g m → (m ≡ n) ⊎ (m ≡ n → ⊥) → told_of g (slice_set bs l b) m ≡ told_of g bs m
      same_told m number (inl here) = subst (λ (k : ℕ). told_of g (slice_set bs l b) k ≡ told_of g bs k) (sym here) set.told
      same_told m number (inr other) = (others m number other).told

      same_head : (m : ℕ) → IsFileNumber g m → (m ≡ n) ⊎ (m ≡ n → ⊥) → header_block g (slice_set bs l b) m ≡ header_block g bs m
      same_head m number (inl here) = subst (λ (k : ℕ). header_block g (slice_set bs l b) k ≡ header_block g bs k) (sym here) set.header
      same_head m number (inr other) = (others m number other).header

    after : AreAccepted g (slice_set bs l b) c
    after = subst (λ (x : Cat). AreAccepted g (slice_set bs l b) x) same (data_is_accepted g bs (slice_set bs l b) own c n f f.mark f.end f.byte f.written is.has spelt others clean)

    pub block_made : IsBlockMade g own c n h f hb stands bs i l b
    block_made = record {
      bare = record {
        has = record { accepted = after.accepted; told = after.told; spells = subst (λ (x : Cat). Spells g (slice_set bs l b) own x) same spelt; outs = is.has.outs; at = is.has.at; flat = is.has.flat };
        there = record { number = t.number; above = t.above; reads = ap head_told set.header ∙ t.reads; file = t.file };
        mark = is.mark;
        head = set.header ∙ is.head;
        places = ap (λ (x : Told). lbns_in x.runs) set.told ∙ is.places;
      };
      blocks = ap (λ (x : Told). blocks_at (slice_set bs l b) (lbns_in x.runs)) set.told
          ∙ (ap (blocks_at (slice_set bs l b)) (sym (places g bs own c n h f s t))
          ∙ (ap (body_blocks (slice_set bs l b) n) (sym set.told)
          ∙ (set.body ∙ ap (λ (ys : List Block). slice_set ys i b) (body g bs own c n h f s t))));
    }

  -- ---- the header

  module _ (mark end byte : ℕ) (blocks : List Block) (sizes : IsResized g bs n h f (with_data f mark end byte blocks)) where
    abbrev new : File
    new = with_data f mark end byte blocks

    abbrev b' : Block
    b' = with_sizes (header_block g bs n) (with_data f mark end byte blocks)

    head_is : IsHeaderFor g bs 1 n n own own c (with_sizes (header_block g bs n) (with_data f mark end byte blocks)) (slot.Used (with_data f mark end byte blocks))
    head_is = sized_for g 1 n h f c bs own s t new is.has.flat sizes

    pub header_made : AreAccepted g (slice_set bs (header_place g n) (with_sizes (header_block g bs n) (with_data f mark end byte blocks))) (with_file c n (with_data f mark end byte blocks))
    header_made =
        data_is_accepted g bs (slice_set bs (header_place g n) b') own c n f mark end byte blocks is.has (header_write g bs own own c 1 n n b' (slot.Used new) s head_is)
        (λ m number other. (header_set g bs own own c 1 n n b' (slot.Used new) s head_is).others m number other other)
        (sizes_clean g own c n h f bs s t new is.has.flat sizes)
