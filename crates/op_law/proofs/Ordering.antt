-- The file that an entry of a directory names comes behind the directory in the order of the names of locks.
use Rattle.std.proofs.Common.{◌≡◌, ◌<◌, ◌∙◌, ◌⊎◌, inl, inr, ℕ, zero, suc, Bool, true, false, cond, List, [], ◌∷◌, Some, None, refl, sym, ap, subst, arith}
use Rattle.std.specs.Prelude.{◌==◌, ◌&&◌, ◌-◌, Ok, slice_get, is_some, bytes_eq}
use Rattle.std.proofs.lemmas.Bool.Decides.{nat_tests}
use Rattle.base_words.specs.Fields.{Block}
use Rattle.fx_header.specs.declared.slot.Hdr.{Hdr}
use Rattle.fx_header.specs.declared.slot.Slot.TheVariants.{Used}
use Rattle.lock_db.specs.declared.name.LockName.TheVariants.{S}
use Rattle.plain_cat.specs.declared.ids.Fid.{Fid}
use Rattle.plain_cat.specs.declared.entries.DirEnt.{DirEnt}
use Rattle.plain_cat.specs.declared.cat.Cat.{Cat}
use Rattle.plain_rules.specs.Lookups.{file_at, versions, first_with, entry_of, highest}
use Rattle.base_words.specs.Lists.{Has}
use Rattle.vol_spell.specs.Owners.{Owners}
use Rattle.base_words.proofs.Listing.{has_place}
use Rattle.vol_parts.specs.declared.geometry.Geometry.{Geometry}
use Rattle.plain_rules.specs.SystemFiles.{is_system_entry, listed, entries_of}
use Rattle.vol_parts.specs.Volumes.{fields_in}
use Rattle.vol_spell.specs.declared.owner.Owner.TheVariants.{InFile}
use Rattle.vol_spell.specs.Reading.{IsFileNumber, header_block, head_told}
use Rattle.vol_spell.specs.Spelling.{Spells}
use Rattle.op_law.specs.Rows.{entries_seen}
use Rattle.op_law.specs.Order.{NamesNumber, One, place_by, level_by, level, IsBefore, Higher, Named}
use Rattle.op_law.proofs.Telling.{live_reads}
use Rattle.vol_spell.proofs.Heads.{first_reads, first_segment}
use Rattle.vol_spell.proofs.HeadSlots.{reads_fields, file_told_at}
use Rattle.vol_spell.proofs.Parts.{in_use}
use Rattle.op_law.proofs.Through.{file_header, file_told, listed_blocks, IsListed}

-- ---- an entry that is found is there

first_has : (ver : ℕ) (es : List DirEnt) (e : DirEnt) → first_with ver es ≡ Some e → Has es e
first_has ver [] e at = absurd (let f : None ≡ Some e = at in cc)
first_has ver (y ∷ es) e at = by_test (y.ver == ver) at (first_has ver es e) where
  by_test : (t : Bool) → cond t (Some y) (first_with ver es) ≡ Some e → (first_with ver es ≡ Some e → Has es e) → (y ≡ e) ⊎ Has es e
  by_test true k more = inl (let f : Some y ≡ Some e = k in cc)
  by_test false k more = inr (more k)

versions_has : (name : List ℕ) (es : List DirEnt) (e : DirEnt) → Has (versions name es) e → Has es e
versions_has name [] e t = absurd t
versions_has name (y ∷ es) e t = by_test (bytes_eq y.name name) t (versions_has name es e) where
  by_test : (b : Bool) → Has (cond b (y ∷ versions name es) (versions name es)) e → (Has (versions name es) e → Has es e) → (y ≡ e) ⊎ Has es e
  by_test true (inl k) more = inl k
  by_test true (inr k) more = inr (more k)
  by_test false k more = inr (more k)

-- an entry above the system files is none of theirs
no_system : (e : DirEnt) → 11 < e.fid.num → is_system_entry 4 e ≡ false
unfolding is_system_entry
no_system e above = by_own _ (e.fid.num == 4) _ (let h : (e.fid.num == 4) ≡ false = grind (arith, nat_tests) in h) where
  by_own : (a b k : Bool) → b ≡ false → (a && (b && k)) ≡ false
  by_own true b k h = ap (λ t. t && k) h
  by_own false b k h = refl

-- ---- levels

module _ (g : Geometry) (bs : List Block) (own : Owners) (c : Cat) (s : Spells g bs own c) where
  -- the number of a file in use comes first
  pub file_level : (n : ℕ) (h : Hdr) → IsFileNumber g n → head_told (header_block g bs n) ≡ Ok (Used h) → level g bs own (S n) ≡ 0
  file_level n h is reads =
      let b : Block = header_block g bs n in
      let owned : slice_get own.numbers (n - 1) ≡ Some (InFile n) = (in_use g bs own c s n is).0 (ap is_some (reads_fields b h reads)) in
      ap (level_by b) owned ∙ ap (λ r. place_by (fields_in r)) (first_reads b h reads) ∙ first_segment b h reads

-- ---- an entry that is seen

module _ (g : Geometry) (bs : List Block) (own : Owners) (c : Cat) (s : Spells g bs own c) (fid : Fid) (f : Hdr) (dir : IsListed g bs c fid f) where
  -- the catalogue's entries of a live directory are those that its blocks show
  entries_are : entries_of c fid.num ≡ entries_seen (listed_blocks bs g fid)
  entries_are =
      let at : file_at c fid.num ≡ Some (file_told bs g fid f) = file_told_at g bs own c s fid.num f dir.number (live_reads fid.seq (head_told (file_header bs g fid)) f dir.header) in
      ap listed at ∙ ap (λ t. cond t (file_told bs g fid f).entries []) dir.dir ∙ dir.entries

  pub entry_names : (name : List ℕ) (ver : ℕ) (e : DirEnt) → entry_of (versions name (entries_seen (listed_blocks bs g fid))) ver ≡ Some e → 11 < e.fid.num → NamesNumber c fid.num e.fid.num
  entry_names name ver e at above =
      let es : List DirEnt = versions name (entries_seen (listed_blocks bs g fid)) in
      let has : Has (entries_of c fid.num) e = subst (λ (ys : List DirEnt). Has ys e) (sym entries_are) (versions_has name (entries_seen (listed_blocks bs g fid)) e (first_has (cond (ver == 0) (highest es) ver) es e at)) in
      let place = (has_place (entries_of c fid.num) e).0 has in
      record { place = place.0; entry = e; there = place.1; names = refl; other = λ four. no_system e above }

  -- so its lock may be asked for behind the directory's
  pub entry_behind : (name : List ℕ) (ver : ℕ) (e : DirEnt) → entry_of (versions name (entries_seen (listed_blocks bs g fid))) ver ≡ Some e → 11 < e.fid.num → IsBefore g bs own c (S fid.num) (S e.fid.num)
  entry_behind name ver e at above =
      by_level (level g bs own (S e.fid.num)) refl (file_level g bs own c s fid.num f dir.number (live_reads fid.seq (head_told (file_header bs g fid)) f dir.header)) where
        by_level : (k : ℕ) → level g bs own (S e.fid.num) ≡ k → level g bs own (S fid.num) ≡ 0 → IsBefore g bs own c (S fid.num) (S e.fid.num)
        by_level zero there here = Named fid.num e.fid.num refl refl here there (One (entry_names name ver e at above))
        by_level (suc k) there here = Higher (omega (arith, here, there))
