-- The moves of a directory: what they write, and what they leave.
use Rattle.std.proofs.Common.{◌≡◌, ◌∙◌, ◌≤◌, ◌<◌, ◌-◌, ℕ, zero, suc, Bool, true, false, List, [], ◌∷◌, Some, None, Ok, length, map, take, slice_get, slice_set, get_or, refl, sym, ap, subst, inl, inr, arith, length-set}
use Rattle.std.specs.Prelude.{nat_le, slice_index_or}
use Rattle.std.proofs.lemmas.Bool.Decides.{nat_tests}
use Rattle.std.proofs.lemmas.Option.{slice_get-get_or}
use Rattle.base_words.specs.Fields.{Block, IsWholeBlock}
use Rattle.fx_dir.specs.declared.RawEnt.{RawEnt}
use Rattle.fx_dir.specs.declared.Move.{Move}
use Rattle.fx_dir.specs.Lists.{Each}
use Rattle.fx_dir.specs.Entries.{plain}
use Rattle.fx_dir.specs.Directory.{plainly, dir_entries}
use Rattle.fx_dir.specs.Moves.{AreChanges, written as moved}
use Rattle.plain_cat.specs.declared.cat.Cat.{Cat}
use Rattle.plain_cat.specs.declared.cat.File.{File}
use Rattle.plain_cat.specs.declared.cat.Slot.{Slot}
use Rattle.plain_cat.specs.declared.cat.Slot.TheVariants as slot
use Rattle.plain_rules.specs.Changes.{with_slot, with_entries}
use Rattle.vol_spell.specs.declared.owner.Owner.TheVariants.{InFile}
use Rattle.base_words.specs.Lists.{Has, Once, Touches, written}
use Rattle.vol_spell.specs.Owners.{Owners}
use Rattle.vol_spell.specs.Spread.{blocks_at}
use Rattle.base_words.proofs.Listing.{has_at}
use Rattle.vol_spell.proofs.Placing.{length-blocks_at, blocks_set, blocks_kept}
use Rattle.base_words.proofs.ListWrites.{set-get}
use Rattle.vol_parts.specs.declared.geometry.Geometry.{Geometry}
use Rattle.vol_parts.specs.declared.geometry.Part.TheVariants.{Header}
use Rattle.vol_parts.specs.Parts.{part_of}
use Rattle.vol_parts.specs.Volumes.{fields_in, Told}
use Rattle.vol_parts.specs.Catalogues.{plain_entry, slot_with}
use Rattle.vol_spell.specs.Reading.{IsFileNumber, header_place, header_block, told_of, body_places, body_blocks, owner_at}
use Rattle.vol_spell.specs.Spelling.{dir_found, Spells}
use Rattle.vol_spell.specs.Kinds.{IsBodyFor}
use Rattle.vol_spell.specs.Views.{IsFileAt, IsSameFile}
use Rattle.vol_spell.proofs.Keeping.{header_number, body_write}
use Rattle.vol_spell.proofs.Parts.{told, part_there}
use Rattle.vol_spell.proofs.Frames.{told_kept, body_owned, body_no_part, body_once, of_body}
use Rattle.vol_spell.proofs.Viewing.{body_set}
use Rattle.vol_spell.specs.Entries.{places_in, blocks_of, places_written, after_moves, AreMovesIn, MovesSpelt, MovesLeave}
use Rattle.vol_spell.proofs.EntryLists.{map_plain}
use Rattle.vol_spell.proofs.EntryDirs.{IsDirAt, dir_at, shows_dir, dir_lists, used_at}

-- ---- writes to blocks of one file leave each header, and the others' blocks

module _ (g : Geometry) (bs : List Block) (own : Owners) (x : Cat) (s : Spells g bs own x) (n : ℕ) (is : IsFileNumber g n)
    (ws : List (ℕ × Block)) (within : (l : ℕ) → Touches ws l → Has (body_places n (told_of g bs n)) l) where
  pub header_kept : (i : ℕ) → IsFileNumber g i → header_block g (written ws bs) i ≡ header_block g bs i
  header_kept i file = ap (λ (ys : List Block). slice_index_or ys 0 []) (blocks_kept ws bs (header_place g i ∷ []) no_header) where
    no_header : (l : ℕ) → Touches ws l → Has (header_place g i ∷ []) l → ⊥
    no_header l t (inl e) = body_no_part g bs own x s n l (Header i) is (within l t) (ap (part_of g) (sym e) ∙ part_there g bs own x s (Header i) file)
    no_header l t (inr none) = none

  pub others_kept : (i : ℕ) → IsFileNumber g i → (i ≡ n → ⊥) → IsSameFile g bs (written ws bs) i
  others_kept i file other = record { header = header_kept i file; told = kept; body = ap (body_blocks (written ws bs) i) kept ∙ blocks_kept ws bs (body_places i (told_of g bs i)) no_block } where
    kept : told_of g (written ws bs) i ≡ told_of g bs i
    kept = told_kept g ws bs i (told g bs own x s i file).size (λ l t m u e. body_no_part g bs own x s n l (Header m) is (within l t) (ap (part_of g) (sym e) ∙ part_there g bs own x s (Header m) (header_number g bs own x s i m file u)))

    no_block : (l : ℕ) → Touches ws l → Has (body_places i (told_of g bs i)) l → ⊥
    no_block l t u =
        let here : owner_at g own l ≡ Some (InFile n) = (body_owned g bs own x s n l is (within l t)).1 in
        let there : owner_at g own l ≡ Some (InFile i) = (body_owned g bs own x s i l file u).1 in
        let same : Some (InFile i) ≡ Some (InFile n) = sym there ∙ here in
        other (cc)

-- ---- where moves are written

-- the place of a block that the directory has
placed : (head : Block) (m : Move) (ms : List Move) (body : List Block) → AreChanges (m ∷ ms) body → length body ≡ length (places_in head)
    → slice_get (places_in head) (m.vbn - 1) ≡ Some (slice_index_or (places_in head) (m.vbn - 1) 0)
placed head m ms body changes count =
    let from : 1 ≤ m.vbn = changes.0.0 in
    let to : m.vbn ≤ length body = changes.0.1 in
    slice_get-get_or (places_in head) (m.vbn - 1) 0 (omega arith)

moves_within : (head : Block) (ms : List Move) (body : List Block) → AreChanges ms body → length body ≡ length (places_in head) → (l : ℕ) → Touches (places_written head ms) l → Has (places_in head) l
moves_within head [] body changes count l t = absurd t
moves_within head (m ∷ ms) body changes count l (inl e) = has_at (places_in head) (m.vbn - 1) l (placed head m ms body changes count ∙ ap (λ k. Some k) e)
moves_within head (m ∷ ms) body changes count l (inr t) =
    moves_within head ms (slice_set body (m.vbn - 1) m.block) changes.1 (length-set body (m.vbn - 1) m.block ∙ count) l t

-- they change the blocks of the directory in turn
moves_placed : (head : Block) (ms : List Move) (body bs : List Block) → Once (places_in head) → ((l : ℕ) → Has (places_in head) l → l < length bs) → AreChanges ms body → length body ≡ length (places_in head)
    → blocks_at (written (places_written head ms) bs) (places_in head) ≡ moved ms (blocks_at bs (places_in head))
moves_placed head [] body bs once within changes count = refl
moves_placed head (m ∷ ms) body bs once within changes count =
    let ls : List ℕ = places_in head in
    let l : ℕ = slice_index_or (places_in head) (m.vbn - 1) 0 in
    let at = placed head m ms body changes count in
    let long : length (slice_set bs l m.block) ≡ length bs = length-set bs l m.block in
    let here = blocks_set bs l m.block ls (m.vbn - 1) at once (within l (has_at ls (m.vbn - 1) l at)) in
    moves_placed head ms (slice_set body (m.vbn - 1) m.block) (slice_set bs l m.block) once (λ p t. let lt = within p t in omega arith) changes.1 (length-set body (m.vbn - 1) m.block ∙ count) ∙ ap (moved ms) here

-- ---- the catalogue after them

-- the second item that is set at a place is the one that stays
pub set_again : {A : Type 0} (xs : List A) (k : ℕ) (a b : A) → slice_set (slice_set xs k a) k b ≡ slice_set xs k b
set_again [] k a b = refl
set_again (x ∷ xs) zero a b = refl
set_again (x ∷ xs) (suc k) a b = ap (λ ys. x ∷ ys) (set_again xs k a b)

slot_again : (x : Cat) (n : ℕ) (s t : Slot) → with_slot (with_slot x n s) n t ≡ with_slot x n t
slot_again x n s t = ap (λ (fs : List Slot). record x { files = fs }) (set_again x.files (n - 1) s t)

module _ (g : Geometry) (own : Owners) (n : ℕ) (h : Block) (t : Told) (is : IsFileNumber g n) (places : body_places n t ≡ places_in h) where
  abbrev shown : List Block → Slot
  shown body = slot_with g.cluster n t.head body

  -- the catalogue has the slot that the header and the blocks tell
  same_slot : (bs body : List Block) (y : Cat) → Spells g bs own y → IsFileAt g bs n h t body → with_slot y n (shown body) ≡ y
  same_slot bs body y s f =
      let slots : length y.files ≡ g.files = s.counts.slots in
      let from = is.from in
      let to = is.to in
      let at : slice_get y.files (n - 1) ≡ Some (get_or y.files (n - 1) (slot.Free 0)) = slice_get-get_or y.files (n - 1) (slot.Free 0) (omega arith) in
      let tells = s.files n (get_or y.files (n - 1) (slot.Free 0)) is at in
      let e : shown body ≡ get_or y.files (n - 1) (slot.Free 0) =
      sym (ap (λ (k : Told). slot_with g.cluster n k.head (body_blocks bs n (told_of g bs n))) f.told ∙ ap shown f.body) ∙ tells.slot in
      ap (λ (fs : List Slot). record y { files = fs }) (set-get y.files (n - 1) (shown body) (at ∙ ap (λ (z : Slot). Some z) (sym e)))

  -- a block of the directory, after which it can be read
  is_body : (bs body : List Block) (v l : ℕ) (b : Block) → IsWholeBlock b → IsFileAt g bs n h t body → slice_get (places_in h) v ≡ Some l → dir_found g n (fields_in t.head) t (slice_set body v b) ≡ None
      → IsBodyFor g bs n v l b (shown (slice_set body v b))
  is_body bs body v l b whole f place dir = record {
    whole = whole;
    number = is;
    place = ap (λ (k : Told). slice_get (body_places n k) v) f.told ∙ ap (λ (ls : List ℕ). slice_get ls v) places ∙ place;
    dir = ap (λ (k : Told). dir_found g n (fields_in k.head) k (slice_set (body_blocks bs n (told_of g bs n)) v b)) f.told ∙ ap (λ (y : List Block). dir_found g n (fields_in t.head) t (slice_set y v b)) f.body ∙ dir;
    slot = ap (λ (k : Told). slot_with g.cluster n k.head (slice_set (body_blocks bs n (told_of g bs n)) v b)) f.told ∙ ap (λ (y : List Block). shown (slice_set y v b)) f.body;
  }

  spelt_after : (k : ℕ) (ms : List Move) (bs body : List Block) (y : Cat) → Each (λ m. IsWholeBlock m.block) ms → AreChanges ms body → length body ≡ length (places_in h) → Spells g bs own y → IsFileAt g bs n h t body
      → ((i : ℕ) → i ≤ length ms → dir_found g n (fields_in t.head) t (moved (take i ms) body) ≡ None)
      → Spells g (written (places_written h (take k ms)) bs) own (with_slot y n (shown (moved (take k ms) body)))
  spelt_after zero ms bs body y whole changes count s f none = subst (λ (z : Cat). Spells g bs own z) (sym (same_slot bs body y s f)) s
  spelt_after (suc k) [] bs body y whole changes count s f none = subst (λ (z : Cat). Spells g bs own z) (sym (same_slot bs body y s f)) s
  spelt_after (suc k) (m ∷ ms) bs body y whole changes count s f none =
      let l : ℕ = slice_index_or (places_in h) (m.vbn - 1) 0 in
      let next : List Block = slice_set body (m.vbn - 1) m.block in
      let for = is_body bs body (m.vbn - 1) l m.block whole.0 f (placed h m ms body changes count) (none 1 (omega arith)) in
      let spelt = body_write g bs own y n (m.vbn - 1) l m.block (shown next) s for in
      let view = body_set g bs own y n (m.vbn - 1) l m.block s is for.place in
      let at : IsFileAt g (slice_set bs l m.block) n h t next = record { header = view.header ∙ f.header; told = view.told ∙ f.told; body = view.body ∙ ap (λ (z : List Block). slice_set z (m.vbn - 1) m.block) f.body } in
      let rest = spelt_after k ms (slice_set bs l m.block) next (with_slot y n (shown next)) whole.1 changes.1 (length-set body (m.vbn - 1) m.block ∙ count) spelt at (λ i le. none (suc i) (omega arith)) in
      subst (λ (z : Cat). Spells g (written (places_written h (take (suc k) (m ∷ ms))) bs) own z) (slot_again y n (shown next) (shown (moved (take k ms) next))) rest

module _ (g : Geometry) (bs : List Block) (own : Owners) (x : Cat) (n : ℕ) (d : File) (old new : List RawEnt) (j : ℕ) (ms : List Move) (are : AreMovesIn g bs own x n d old new j ms) where
  abbrev h : Block
  h = header_block g bs n

  abbrev body : List Block
  body = blocks_of g bs n

  at : IsDirAt g bs n d
  at = dir_at g bs own x are.spelt n are.number d are.file are.dir

  count : length (blocks_of g bs n) ≡ length (places_in (header_block g bs n))
  count = length-blocks_at bs (places_in (header_block g bs n))

  -- entries are read after each number of the moves
  reads : (i : ℕ) → i ≤ length ms → (es : List RawEnt) × (dir_entries (moved (take i ms) (blocks_of g bs n)) ≡ Ok es)
  reads i le = by (nat_le i j) refl where
    by : (b : Bool) → nat_le i j ≡ b → (es : List RawEnt) × (dir_entries (moved (take i ms) (blocks_of g bs n)) ≡ Ok es)
    by true e = (old, are.moves.same i (grind (arith, nat_tests)))
    by false e = (new, are.moves.other i (grind (arith, nat_tests)) le)

  shows : (k : ℕ) (es : List RawEnt) → dir_entries (moved (take k ms) (blocks_of g bs n)) ≡ Ok es → Spells g (after_moves g n (take k ms) bs) own (with_entries x n d (map plain_entry es))
  shows k es read =
      let told = (shows_dir g bs n d at es (moved (take k ms) body) read).slot in
      subst (λ (s : Slot). Spells g (after_moves g n (take k ms) bs) own (with_slot x n s)) told
      (spelt_after g own n h (told_of g bs n) are.number at.places k ms bs body x are.moves.whole are.moves.changes count are.spelt (record { header = refl; told = refl; body = ap (blocks_at bs) at.places })
      (λ i le. let r = reads i le in (shows_dir g bs n d at r.0 (moved (take i ms) body) r.1).none))

  -- the entries are the catalogue's before
  unchanged : with_entries x n d (map plain_entry old) ≡ x
  unchanged =
      let first : dir_entries (blocks_of g bs n) ≡ Ok old = are.moves.same 0 (omega arith) in
      let were : Ok old ≡ Ok (map plain at.entries) = sym first ∙ ap plainly at.read in
      let same : old ≡ map plain at.entries = cc in
      let entries : map plain_entry old ≡ d.entries = ap (map plain_entry) same ∙ map_plain at.entries ∙ sym (dir_lists g bs n d at) in
      ap (with_entries x n d) entries ∙ ap (λ (fs : List Slot). record x { files = fs }) (set-get x.files (n - 1) (slot.Used d) (used_at x n d are.file))

  -- what they touch are blocks of the directory
  pub touched : (l : ℕ) → Touches (places_written (header_block g bs n) ms) l → Has (body_places n (told_of g bs n)) l
  touched l t = subst (λ (ls : List ℕ). Has ls l) (sym at.places) (moves_within h ms body are.moves.changes count l t)

  same_header : header_block g (after_moves g n ms bs) n ≡ header_block g bs n
  same_header = header_kept g bs own x are.spelt n are.number (places_written h ms) touched n are.number

  now_blocks : blocks_of g (after_moves g n ms bs) n ≡ moved ms (blocks_of g bs n)
  now_blocks =
      let once : Once (places_in h) = subst (λ (ks : List ℕ). Once ks) at.places (body_once g bs own x are.spelt n are.number) in
      let within : (l : ℕ) → Has (places_in h) l → l < length bs = λ l t. (of_body g bs own x are.spelt n l are.number (subst (λ (ks : List ℕ). Has ks l) (sym at.places) t)).within in
      ap (λ b. blocks_at (after_moves g n ms bs) (places_in b)) same_header ∙ moves_placed h ms body bs once within are.moves.changes count

pub moves_spelt : MovesSpelt
moves_spelt = record {
  before = λ g bs own x n d old new j ms k are le. subst (λ (c : Cat). Spells g (after_moves g n (take k ms) bs) own c) (unchanged g bs own x n d old new j ms are) (shows g bs own x n d old new j ms are k old (are.moves.same k le));
  behind = λ g bs own x n d old new j ms k are lt le. shows g bs own x n d old new j ms are k new (are.moves.other k lt le);
}

pub moves_leave : MovesLeave
moves_leave = record {
  others = λ g bs own x n d old new j ms i are file other. others_kept g bs own x are.spelt n are.number (places_written (header_block g bs n) ms) (touched g bs own x n d old new j ms are) i file other;
  header = λ g bs own x n d old new j ms are. same_header g bs own x n d old new j ms are;
  blocks = λ g bs own x n d old new j ms are. now_blocks g bs own x n d old new j ms are;
}
