-- Whether an entry of a directory stands in two of its blocks.
use Rattle.std.proofs.Common.{◌≡◌, ◌<◌, ◌+◌, ◌-◌, ◌∙◌, ℕ, false, List, Some, None, Ok, length, map, get_or, slice_get, refl, sym, ap, arith}
use Rattle.std.specs.Prelude.{nat_lt}
use Rattle.std.proofs.lemmas.Option.{slice_get-get_or}
use Rattle.base_words.specs.Fields.{Block}
use Rattle.fx_home.specs.declared.home.Home.{Home}
use Rattle.fx_home.specs.Homes.{home_read}
use Rattle.fx_dir.specs.Lists.{joined}
use Rattle.fx_dir.specs.Directory.{entries_at}
use Rattle.plain_cat.specs.declared.cat.Cat.{Cat}
use Rattle.plain_cat.specs.declared.cat.File.{File}
use Rattle.plain_cat.specs.declared.cat.Slot.{Slot}
use Rattle.plain_cat.specs.declared.cat.Slot.TheVariants.{Used, Free}
use Rattle.plain_rules.specs.Lookups.{file_at}
use Rattle.plain_rules.proofs.Standing.{stands_at}
use Rattle.plain_laws.proofs.Standing.{file_from}
use Rattle.vol_parts.specs.declared.geometry.Geometry.{Geometry}
use Rattle.vol_parts.specs.Volumes.{Volume, volume, IsNumber}
use Rattle.vol_parts.specs.Catalogues.{slot_of}
use Rattle.vol_parts.specs.Findings.{home_at}
use Rattle.vol_spell.specs.Reading.{IsFileNumber}
use Rattle.vol_spell.proofs.Accepted.{catalogue_is_spelt}
use Rattle.vol_analyze.proofs.Told.{told_slot}
use Rattle.vol_analyze.proofs.Weakly.{weak-volume, cat-told, directories-sound}
use Rattle.vol_analyze.proofs.Reading.{doubles_dir, doubles_file, doubles_free}
use Rattle.vol_spell.specs.Entries.{blocks_of}
use Rattle.vol_mends.specs.Told.{IsTold, IsSingle}
use Rattle.vol_mends.specs.Moving.{HasDir}
use Rattle.vol_mends.specs.Seen.{IsSeen}
use Rattle.vol_mends.proofs.Seeing.{volume_is_seen}
use Rattle.vol_rebuild.proofs.Reading.{slots, number}

module _ (g : Geometry) (bs : List Block) (c : Cat) (t : IsTold g bs c) where
  abbrev pub home : Home
  home = (catalogue_is_spelt bs c t.size.from t.size.to t.whole t.cat).home

  pub read : home_read (home_at bs) ≡ Ok home
  read = (catalogue_is_spelt bs c t.size.from t.size.to t.whole t.cat).read

  abbrev v : Volume
  v = volume home bs

  pub sight : IsSeen g home bs c
  sight = volume_is_seen g home bs c t read

  in_volume : (n : ℕ) → IsFileNumber g n → IsNumber v n
  in_volume n is = record { from = is.from; to = (let e : home.files ≡ g.files = ap (λ (x : Geometry). x.files) sight.geometry in let k = is.to in omega (arith, e, k)) }

  slot_told : (n : ℕ) (s : Slot) → IsFileNumber g n → slice_get c.files (n - 1) ≡ Some s → slot_of v n ≡ s
  slot_told n s is at =
      let from = is.from in let to = is.to in let all = slots g bs c t in
      let lt : n - 1 < length c.files = omega (arith, from, to, all) in
      let both : Some s ≡ Some (get_or c.files (n - 1) s) = sym at ∙ slice_get-get_or c.files (n - 1) s lt in
      let here : s ≡ get_or c.files (n - 1) s = cc both in
      let whole : n - 1 + 1 ≡ n = omega (arith, from) in
      sym (told_slot v c c.files (n - 1) s (cat-told bs c home t.cat read) refl lt here ∙ ap (slot_of v) whole)

  -- a directory without more entries in its blocks than it has
  pub single_dir : (n : ℕ) (d : File) → HasDir g bs c n d → nat_lt (length d.entries) (length (joined (map entries_at (blocks_of g bs n)))) ≡ false → IsSingle g bs n
  single_dir n d h less =
      let is = number g bs c t n d h.file in
      sym (sight.doubles n is)
      ∙ (sym (doubles_dir v n d (slot_told n (Used d) is (stands_at c n d h.file)) h.dir ((directories-sound v (weak-volume bs c home t.cat read)).sound n (in_volume n is)))
      ∙ (ap (λ (bs' : List Block). nat_lt (length d.entries) (length (joined (map entries_at bs')))) (sight.bodies n d h.file h.dir) ∙ less))

  -- a file that is no directory
  pub single_file : (n : ℕ) (f : File) → file_at c n ≡ Some f → f.dir ≡ false → IsSingle g bs n
  single_file n f at other =
      let is = number g bs c t n f at in
      sym (sight.doubles n is) ∙ sym (doubles_file v n f (slot_told n (Used f) is (stands_at c n f at)) other)

  -- a number that no file has
  pub single_free : (n : ℕ) → IsFileNumber g n → file_at c n ≡ None → IsSingle g bs n
  single_free n is none = by_slot (get_or c.files (n - 1) (Free 0)) refl where
    there : slice_get c.files (n - 1) ≡ Some (get_or c.files (n - 1) (Free 0))
    there = let from = is.from in let to = is.to in let all = slots g bs c t in slice_get-get_or c.files (n - 1) (Free 0) (omega (arith, from, to, all))

    by_slot : (s : Slot) → get_or c.files (n - 1) (Free 0) ≡ s → IsSingle g bs n
    by_slot (Free q) e = sym (sight.doubles n is) ∙ sym (doubles_free v n q (slot_told n (Free q) is (there ∙ ap (λ (s : Slot). Some s) e)))
    by_slot (Used f) e =
        let from = is.from in
        let here : file_at c n ≡ Some f = file_from c n f (omega (arith, from)) (there ∙ ap (λ (s : Slot). Some s) e) in
        let both : None ≡ Some f = sym none ∙ here in
        absurd (cc both)
