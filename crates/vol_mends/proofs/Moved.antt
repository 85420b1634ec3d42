-- Moves in a directory of blocks that can be mended.
use Rattle.std.proofs.Common.{◌≡◌, ◌∙◌, ◌<◌, ◌≤◌, ◌-◌, ℕ, zero, suc, Bool, true, false, List, [], ◌∷◌, Some, length, map, take, take_all, refl, sym, ap, subst, arith, ◌⊎◌, inl, inr}
use Rattle.std.specs.Prelude.{slice_index_or}
use Rattle.std.proofs.lemmas.Option.{slice_get-get_or, slice_get_within}
use Rattle.base_words.specs.Fields.{Block}
use Rattle.base_words.specs.Packing.{pack}
use Rattle.fx_header.specs.Pointers.{lbns_in}
use Rattle.fx_dir.specs.declared.RawEnt.{RawEnt}
use Rattle.fx_dir.specs.declared.Move.{Move}
use Rattle.fx_dir.specs.Lists.{Each}
use Rattle.fx_dir.specs.Entries.{rises, has}
use Rattle.fx_dir.specs.Moves.{key, written as moved}
use Rattle.fx_dir.specs.Writing.{name_of, block_of}
use Rattle.fx_dir.proofs.Meeting.{Sound}
use Rattle.fx_dir.proofs.Based.{long-from, IsLong}
use Rattle.fx_dir.proofs.Finding.{reads_set}
use Rattle.vol_parts.proofs.WholeRanges.{read-sound}
use Rattle.plain_cat.specs.declared.cat.Cat.{Cat}
use Rattle.plain_cat.specs.declared.cat.File.{File}
use Rattle.plain_cat.specs.declared.cat.Slot.{Slot}
use Rattle.plain_cat.specs.declared.cat.Slot.TheVariants as slot
use Rattle.plain_cat.specs.declared.entries.DirEnt.{DirEnt}
use Rattle.plain_rules.specs.Lookups.{file_at, versions}
use Rattle.plain_rules.specs.Directories.{is_taken}
use Rattle.plain_rules.specs.Changes.{with_entries}
use Rattle.plain_laws.proofs.Standing.{number_rises}
use Rattle.vol_spell.specs.declared.owner.Owner.TheVariants.{InFile}
use Rattle.base_words.specs.Lists.{Has, Touches}
use Rattle.vol_spell.specs.Owners.{Owners}
use Rattle.vol_spell.specs.Spread.{blocks_at}
use Rattle.vol_spell.proofs.Placing.{blocks_kept}
use Rattle.base_words.proofs.ListWrites.{set-get, touches_taken}
use Rattle.vol_parts.specs.declared.geometry.Geometry.{Geometry}
use Rattle.vol_parts.specs.Volumes.{fields_in}
use Rattle.vol_parts.specs.Catalogues.{plain_entry, is_structure}
use Rattle.vol_parts.specs.Findings.{home_at}
use Rattle.vol_spell.proofs.Frames.{body_owned, of_body}
use Rattle.vol_spell.proofs.HeadSlots.{alone_told, dir_slot}
use Rattle.vol_spell.proofs.OneHeader.{alone_whole}
use Rattle.vol_spell.proofs.Parts.{home_owned}
use Rattle.vol_spell.specs.Reading.{IsFileNumber, owner_at, runs_told, runs_first, header_block, head_told, told_of, alone, body_places, body_blocks}
use Rattle.vol_spell.specs.Spelling.{Spells}
use Rattle.vol_spell.specs.Views.{IsSameFile}
use Rattle.vol_mends.specs.Going.{Change}
use Rattle.vol_spell.specs.Entries.{places_in, blocks_of, places_written, after_moves, AreMovesTo, AreMovesIn}
use Rattle.vol_spell.proofs.EntryLists.{not_there}
use Rattle.vol_spell.proofs.RemovalLists.{is_there}
use Rattle.vol_spell.proofs.EntryDirs.{IsDirAt, dir_at, dir_lists, used_at}
use Rattle.vol_spell.proofs.EntryMoves.{moves_spelt, moves_leave, others_kept, touched}
use Rattle.vol_mends.specs.Moving.{HasDir, DirTold, DirIsRead, MovesLead}
use Rattle.vol_mends.proofs.Basics.{lower_or}
use Rattle.vol_mends.proofs.WriteTold.{Owned, owned, changed, unchanged}
use Rattle.vol_mends.proofs.OneWrite.{single_same, single_of}

-- the number of a file that is there is one of the volume's
pub file_number : (g : Geometry) (bs : List Block) (own : Owners) (c : Cat) → Spells g bs own c → (n : ℕ) (f : File) → file_at c n ≡ Some f → IsFileNumber g n
file_number g bs own c s n f at =
    let rises = number_rises c n f at in
    let lt = slice_get_within c.files (n - 1) (slot.Used f) (used_at c n f at) in
    let count = s.counts.slots in
    record { from = omega (arith, rises); to = omega (arith, rises, lt, count) }

-- a directory with the entries that it has is the catalogue
pub as_it_is : (c : Cat) (n : ℕ) (d : File) → file_at c n ≡ Some d → with_entries c n d d.entries ≡ c
as_it_is c n d at = ap (λ (fs : List Slot). record c { files = fs }) (set-get c.files (n - 1) (slot.Used d) (used_at c n d at))

-- the writes of the first moves are the first writes
pub places_taken : (head : Block) (k : ℕ) (ms : List Move) → places_written head (take k ms) ≡ take k (places_written head ms)
places_taken head zero ms = refl
places_taken head (suc k) [] = refl
places_taken head (suc k) (m ∷ ms) = ap (λ ws. (slice_index_or (places_in head) (m.vbn - 1) 0, m.block) ∷ ws) (places_taken head k ms)

module _ (g : Geometry) (bs : List Block) (c : Cat) (n : ℕ) (d : File) (h : HasDir g bs c n d) where
  pub o : Owned g bs c
  o = owned g bs c h.told

  pub number : IsFileNumber g n
  number = file_number g bs o.own c o.spells n d h.file

  pub at : IsDirAt g bs n d
  at = dir_at g bs o.own c o.spells n number d h.file h.dir

  pub lists : d.entries ≡ map plain_entry at.entries
  lists = dir_lists g bs n d at

  pub sound : Sound at.entries
  sound = read-sound (blocks_of g bs n) at.entries at.whole at.read

  pub order : rises at.entries ≡ true
  order = (reads_set (blocks_of g bs n) at.entries at.read).rising

  pub long : Each IsLong (blocks_of g bs n)
  long = long-from (blocks_of g bs n) (λ i lt. (at.whole i _ (slice_get-get_or (blocks_of g bs n) i [] lt)).long)

  has_it : (name : List ℕ) (ver : ℕ) → has at.entries (key name ver) ≡ is_taken ver (versions name d.entries)
  has_it name ver = by (is_taken ver (versions name d.entries)) refl where
    seen : is_taken ver (versions name d.entries) ≡ is_taken ver (versions name (map plain_entry at.entries))
    seen = ap (λ (es : List DirEnt). is_taken ver (versions name es)) lists

    by : (b : Bool) → is_taken ver (versions name d.entries) ≡ b → has at.entries (key name ver) ≡ is_taken ver (versions name d.entries)
    by true e = is_there name ver at.entries (sym seen ∙ e) ∙ sym e
    by false e = not_there (key name ver) at.entries (sym seen ∙ e) ∙ sym e

  told_places : lbns_in (runs_told (header_block g bs n)) ≡ places_in (header_block g bs n)
  told_places = ap lbns_in (ap (λ r. runs_first (fields_in r) (header_block g bs n)) at.header ∙ alone_whole n at.fields (header_block g bs n) at.one)

  inside : (l : ℕ) → Has (places_in (header_block g bs n)) l → l < length bs
  inside l t = (of_body g bs o.own c o.spells n l number (subst (λ (ls : List ℕ). Has ls l) (sym at.places) t)).within

  pub dir_told : DirTold g bs n d
  dir_told = record { number = number; entries = at.entries; read = at.read; lists = lists; has = has_it; count = at.count; places = told_places; within = inside }

  -- moves that leave the catalogue and then lead to another, and leave the entries packed at the end
  module _ (y : Cat) (old new : List RawEnt) (j : ℕ) (ms : List Move) (lead : AreMovesTo (blocks_of g bs n) old new j ms) (change : Change c y) (is : with_entries c n d (map plain_entry new) ≡ y) where
    are : AreMovesIn g bs o.own c n d old new j ms
    are = record { spelt = o.spells; number = number; file = h.file; dir = h.dir; moves = lead }

    spelt_before : (k : ℕ) → k ≤ j → Spells g (after_moves g n (take k ms) bs) o.own c
    spelt_before k le = moves_spelt.before g bs o.own c n d old new j ms k are le

    spelt_behind : (k : ℕ) → j < k → k ≤ length ms → Spells g (after_moves g n (take k ms) bs) o.own y
    spelt_behind k lt le = subst (λ (x : Cat). Spells g (after_moves g n (take k ms) bs) o.own x) is (moves_spelt.behind g bs o.own c n d old new j ms k are lt le)

    spelt_so : (k : ℕ) → k ≤ length ms → (x : Cat) × Spells g (after_moves g n (take k ms) bs) o.own x
    spelt_so k le = by (lower_or k j) where
      by : (k ≤ j) ⊎ (j < k) → (x : Cat) × Spells g (after_moves g n (take k ms) bs) o.own x
      by (inl few) = (c, spelt_before k few)
      by (inr many) = (y, spelt_behind k many le)

    others_so : (k i : ℕ) → IsFileNumber g i → (i ≡ n → ⊥) → IsSameFile g bs (after_moves g n (take k ms) bs) i
    others_so k i file other =
        others_kept g bs o.own c o.spells n number (places_written (header_block g bs n) (take k ms)) (λ l t.
        touched g bs o.own c n d old new j ms are l (touches_taken k (places_written (header_block g bs n) ms) l (subst (λ ws. Touches ws l) (places_taken (header_block g bs n) k ms) t))) i file other

    home_kept : (k : ℕ) → home_at (after_moves g n (take k ms) bs) ≡ home_at bs
    home_kept k = ap (λ (ys : List Block). slice_index_or ys 0 []) (blocks_kept (places_written (header_block g bs n) (take k ms)) bs (1 ∷ []) no_home) where
      no_home : (l : ℕ) → Touches (places_written (header_block g bs n) (take k ms)) l → Has (1 ∷ []) l → ⊥
      no_home l t (inr none) = none
      no_home l t (inl e) =
          let b = body_owned g bs o.own c o.spells n l number (touched g bs o.own c n d old new j ms are l (touches_taken k (places_written (header_block g bs n) ms) l (subst (λ ws. Touches ws l) (places_taken (header_block g bs n) k ms) t))) in
          let mine : Some (InFile n) ≡ Some (InFile 1) = sym b.1 ∙ (ap (owner_at g o.own) (sym e) ∙ home_owned g bs o.own c o.spells) in
          let one : n ≡ 1 = cc mine in
          let structure : is_structure n ≡ true = ap is_structure one in
          absurd (let both : true ≡ false = sym structure ∙ b.0 in cc both)

    whole_run : after_moves g n (take (length ms) ms) bs ≡ after_moves g n ms bs
    whole_run = ap (λ ns. after_moves g n ns bs) (take_all (length ms) ms (omega arith))

    end : Spells g (after_moves g n ms bs) o.own y
    end = subst (λ b. Spells g b o.own y) whole_run (spelt_behind (length ms) lead.decides (omega arith))

    body_now : body_blocks (after_moves g n ms bs) n (told_of g (after_moves g n ms bs) n) ≡ moved ms (blocks_of g bs n)
    body_now =
        let new_blocks : List Block = after_moves g n ms bs in
        let head : header_block g (after_moves g n ms bs) n ≡ header_block g bs n = moves_leave.header g bs o.own c n d old new j ms are in
        let same : told_of g new_blocks n ≡ told_of g bs n = alone_told g new_blocks n at.fields (ap head_told head ∙ at.header) (dir_slot g new_blocks o.own y end n at.fields number (ap head_told head ∙ at.header) at.dir) ∙ (ap (alone n at.fields) head ∙ sym at.told) in
        ap (λ t. blocks_at new_blocks (body_places n t)) same
        ∙ (ap (blocks_at new_blocks) at.places ∙ (sym (ap (λ b. blocks_at new_blocks (places_in b)) head) ∙ moves_leave.blocks g bs o.own c n d old new j ms are))

    pub moved_lead : (k : ℕ) (es : List RawEnt) → Sound es → rises es ≡ true → moved ms (blocks_of g bs n) ≡ map block_of (pack name_of k es) → MovesLead g bs c y n j ms
    moved_lead k es good up packed = record {
      before = λ i le. unchanged g bs (after_moves g n (take i ms) bs) o.own c h.told (spelt_before i le) o.outs (home_kept i);
      behind = λ i lt le. changed g bs (after_moves g n (take i ms) bs) o.own c y h.told change (spelt_behind i lt le) o.outs (home_kept i);
      singles = λ i m le file other single.
          let s = spelt_so i le in single_same g bs (after_moves g n (take i ms) bs) o.own o.own c s.0 o.spells s.1 m file (others_so i m file other) single;
      packed = single_of g (after_moves g n ms bs) o.own y end n k es number good up (body_now ∙ packed);
      within = λ l t. (of_body g bs o.own c o.spells n l number (touched g bs o.own c n d old new j ms are l t)).within;
    }

pub dir_is_read : DirIsRead
dir_is_read g bs c n d h = dir_told g bs c n d h
