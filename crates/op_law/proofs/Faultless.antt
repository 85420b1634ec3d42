-- The directory that was seen first is read without a fault.
use Rattle.std.proofs.Common.{◌≡◌, ◌≤◌, ◌∙◌, ℕ, List, [], ◌∷◌, Some, Ok, length, take, slice_get, Bool, true, false, cond, refl, sym, ap, subst, arith}
use Rattle.std.specs.Prelude.{IsOk}
use Rattle.std.proofs.lemmas.Option.{get_or_from_slice_get}
use Rattle.base_words.specs.Fields.{Block}
use Rattle.base_words.specs.Lists.{StandsIn}
use Rattle.fx_dir.specs.Directory.{directory}
use Rattle.fx_header.specs.declared.slot.Hdr.{Hdr}
use Rattle.fx_header.specs.declared.slot.Slot.TheVariants as head
use Rattle.plain_cat.specs.declared.ids.Fid.{Fid}
use Rattle.plain_cat.specs.declared.mode.Mode.{Mode}
use Rattle.plain_cat.specs.declared.cat.Cat.{Cat}
use Rattle.plain_cat.specs.declared.reply.Refusal.TheVariants as refusal
use Rattle.lock_db.specs.declared.name.LockName.{LockName}
use Rattle.lock_db.specs.declared.name.LockName.TheVariants.{S}
use Rattle.vol_spell.specs.Owners.{Owners}
use Rattle.vol_spell.specs.Spread.{blocks_at}
use Rattle.vol_parts.specs.declared.geometry.Geometry.{Geometry}
use Rattle.vol_parts.specs.Catalogues.{file_of}
use Rattle.vol_spell.specs.Reading.{IsFileNumber, header_place, header_block, head_told}
use Rattle.vol_spell.specs.Spelling.{Spells}
use Rattle.vol_spell.specs.Entries.{places_in}
use Rattle.vol_spell.proofs.EntryDirs.{dir_at}
use Rattle.op_law.specs.Readable.{BodyIsRead, HeadIsReadable}
use Rattle.op_law.specs.Behind.{blocks_alone}
use Rattle.op_law.specs.Events.{Events, Take, Look, Space, Follows}
use Rattle.op_law.specs.Rows.{is_number, refuses, live_in, look_all, in_directory, through_directory}
use Rattle.op_law.proofs.Heads.{header_is}
use Rattle.op_law.proofs.Telling.{number_is, live_reads}
use Rattle.vol_spell.specs.Files.{blocks_told}
use Rattle.vol_spell.proofs.HeadSlots.{file_told_at}

-- blocks that were looked at in turn are those at their places
looked_at : (bs : List Block) (name : LockName) (ls : List ℕ) (next : List Block → Events) (locks : List (LockName × Mode)) (seen : List (ℕ × Block)) (space : Space) (given : Type 0)
    → StandsIn bs seen → Follows (look_all name ls next) locks seen space given → length ls ≤ length seen → blocks_alone (take (length ls) seen) ≡ blocks_at bs ls
looked_at bs name [] next locks seen space given stands f le = refl
looked_at bs name (l ∷ ls) next locks [] space given stands f le = absurd (omega arith)
looked_at bs name (l ∷ ls) next locks (x ∷ seen) space given stands f le =
    let here : slice_get bs l ≡ Some x.1 = subst (λ k. slice_get bs k ≡ Some x.1) f.0 stands.0 in
    let more = looked_at bs name ls (λ ys. next (x.1 ∷ ys)) locks seen space given stands.1 f.1 (omega arith) in
    λ i. sym (get_or_from_slice_get bs l x.1 [] here) i ∷ more i

module _ (g : Geometry) (bs : List Block) (own : Owners) (c : Cat) (s : Spells g bs own c) where
  -- the blocks of a directory in use are read
  body_read : (n : ℕ) (h : Hdr) → IsFileNumber g n → head_told (header_block g bs n) ≡ Ok (head.Used h) → h.dir ≡ true → IsOk (directory (blocks_at bs (places_in (header_block g bs n))))
  body_read n h is e d =
      let at = dir_at g bs own c s n is (file_of g.cluster n h (blocks_told g bs n)) (file_told_at g bs own c s n h is e) d in
      subst IsOk (sym at.read) refl

  module _ (fid : Fid) (next : Block → List Block → Events) (space : Space) (given : Type 0) where
    behind_read : (b : Block) (locks : List (LockName × Mode)) (seen : List (ℕ × Block)) → IsFileNumber g fid.num → slice_get bs (header_place g fid.num) ≡ Some b → StandsIn bs seen
        → Follows (in_directory fid b (next b) (live_in fid.seq b)) locks seen space given → BodyIsRead fid b seen
    behind_read b locks seen is at stands f h live d all =
        let same = header_is g bs fid.num (header_place g fid.num) b refl at in
        let reads : head_told (header_block g bs fid.num) ≡ Ok (head.Used h) = ap head_told same ∙ live_reads fid.seq (head_told b) h live in
        let body : IsOk (directory (blocks_at bs (places_in b))) = subst (λ k. IsOk (directory (blocks_at bs (places_in k)))) same (body_read fid.num h is reads d) in
        let goes = subst (λ t. Follows (cond t (look_all (S fid.num) (places_in b) (next b)) (refuses refusal.NotDir)) locks seen space given) d
        (subst (λ o. Follows (in_directory fid b (next b) o) locks seen space given) live f) in
        subst (λ ys. IsOk (directory ys)) (sym (looked_at bs (S fid.num) (places_in b) (next b) locks seen space given stands goes all)) body

    by_locks : (mode : Mode) (ls : List (LockName × Mode)) (xs : List (ℕ × Block)) → IsFileNumber g fid.num → StandsIn bs xs
        → Follows (Take (S fid.num) mode (Look (S fid.num) (header_place g fid.num) (λ b. in_directory fid b (next b) (live_in fid.seq b)))) ls xs space given → HeadIsReadable fid xs
    by_locks mode [] xs is at f = subst (HeadIsReadable fid) (sym f.0) tt
    by_locks mode (l ∷ ls) [] is at f = tt
    by_locks mode (l ∷ ls) (x ∷ xs) is at f = behind_read x.1 ls xs is (subst (λ k. slice_get bs k ≡ Some x.1) f.1.0 at.0) at.1 f.1.1

    -- what was seen first is the directory, which is read without a fault
    pub through_readable : (mode : Mode) (locks : List (LockName × Mode)) (blocks : List (ℕ × Block)) → StandsIn bs blocks → Follows (through_directory g fid mode next) locks blocks space given → HeadIsReadable fid blocks
    through_readable mode locks blocks stands f = by_number (is_number g fid) refl f where
      by_number : (t : Bool) → is_number g fid ≡ t
          → Follows (cond t (Take (S fid.num) mode (Look (S fid.num) (header_place g fid.num) (λ b. in_directory fid b (next b) (live_in fid.seq b)))) (refuses refusal.NoSuchFile)) locks blocks space given
          → HeadIsReadable fid blocks
      by_number true e f = by_locks mode locks blocks (number_is g fid e) stands f
      by_number false e f = subst (HeadIsReadable fid) (sym f.1) tt
