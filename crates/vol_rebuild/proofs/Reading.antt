-- What blocks that tell a catalogue have.
use Rattle.std.proofs.Common.{◌≡◌, ◌≤◌, ◌<◌, ◌-◌, ◌∙◌, ℕ, false, cond, List, [], Option, Some, None, length, replicate, get_or, refl, sym, ap, arith}
use Rattle.std.proofs.lemmas.List.{length-map}
use Rattle.std.proofs.lemmas.Option.{slice_get_within}
use Rattle.base_words.specs.Fields.{Block}
use Rattle.fx_dir.specs.Directory.{directory}
use Rattle.plain_cat.specs.declared.cat.Cat.{Cat}
use Rattle.plain_cat.specs.declared.cat.File.{File}
use Rattle.plain_cat.specs.declared.cat.Slot.TheVariants.{Used, Free}
use Rattle.plain_rules.specs.Lookups.{file_at}
use Rattle.plain_rules.specs.Mending.{mended}
use Rattle.plain_rules.proofs.Standing.{stands_at}
use Rattle.plain_laws.proofs.Standing.{number_rises}
use Rattle.plain_mends.specs.Resuming.{MendsTo, AreKeyed}
use Rattle.vol_spell.specs.declared.owner.Owner.TheVariants.{Leaked, InFile}
use Rattle.vol_spell.specs.Counts.{is_same_owner}
use Rattle.vol_parts.specs.declared.geometry.Geometry.{Geometry}
use Rattle.vol_parts.specs.declared.geometry.Part.TheVariants.{Header}
use Rattle.vol_parts.specs.declared.finding.Finding.TheVariants as finding
use Rattle.vol_parts.specs.Parts.{IsGeometry}
use Rattle.vol_parts.specs.Catalogues.{plain_entries}
use Rattle.vol_faults.proofs.RoomLemmas.{no-room-exact}
use Rattle.vol_spell.specs.Reading.{IsFileNumber, header_place, told_of, body_blocks}
use Rattle.vol_spell.specs.Spelling.{Spells}
use Rattle.vol_spell.proofs.Parts.{slot_there, told, part_owned}
use Rattle.vol_spell.proofs.Frames.{on_volume}
use Rattle.vol_mends.specs.Weak.{CanMend}
use Rattle.vol_mends.proofs.Tests.{TellsFile, tells_file}
use Rattle.vol_mends.proofs.AcceptedSteps.{weak_can_mend, told_shut}
use Rattle.vol_analyze.specs.Conditions.{HasFileSizes}
use Rattle.vol_analyze.proofs.Weakly.{file-sizes}
use Rattle.vol_mends.specs.Told.{IsTold}
use Rattle.vol_mends.proofs.WriteTold.{owned}

module _ (g : Geometry) (bs : List Block) (c : Cat) (t : IsTold g bs c) where
  abbrev s : Spells g bs (owned g bs c t).own c
  s = (owned g bs c t).spells

  pub in_geometry : IsGeometry g
  in_geometry = s.counts.geometry

  pub slots : length c.files ≡ g.files
  slots = s.counts.slots

  -- there are at most 4,096 files
  pub few_files : length c.files ≤ 4096
  few_files = let e = s.counts.slots in let k = s.counts.geometry.files_to in omega (arith, e, k)

  -- and a flag for each
  pub flags : length c.leaked_numbers ≡ length c.files
  flags = ap length s.owners.leaked_numbers ∙ (length-map (owned g bs c t).own.numbers (is_same_owner Leaked) ∙ (s.counts.numbers ∙ sym s.counts.slots))

  pub few_flags : length c.leaked_numbers ≤ 4096
  few_flags = let a = flags in let b = few_files in omega (arith, a, b)

  pub keyed : AreKeyed c
  keyed = (weak_can_mend bs c t.cat).1

  pub shut : c.opens ≡ replicate 64 None
  shut = told_shut bs c t.cat

  -- mending ends somewhere
  pub ends_at : (z : Cat) × MendsTo c z
  ends_at = by_end (mended c) refl where
    can : CanMend c
    can = (weak_can_mend bs c t.cat).0

    by_end : (o : Option (Cat × _)) → mended c ≡ o → (z : Cat) × MendsTo c z
    by_end None e = let r = (no-room-exact c).1 e in absurd (can.sound (finding.NoRoom r.0) r.1)
    by_end (Some r) e = (r.0, (r.1, e))

  pub number : (n : ℕ) (f : File) → file_at c n ≡ Some f → IsFileNumber g n
  number n f at =
      let rises = number_rises c n f at in
      let within = slice_get_within c.files (n - 1) (Used f) (stands_at c n f at) in
      let long = s.counts.slots in
      record { from = omega (arith, rises); to = omega (arith, rises, within, long) }

  -- the header of a file
  pub header_of : (n : ℕ) (f : File) → file_at c n ≡ Some f → TellsFile g.cluster n (told_of g bs n).head (body_blocks bs n (told_of g bs n)) f
  header_of n f at =
      let is = number n f at in
      let both : Some (get_or c.files (n - 1) (Free 0)) ≡ Some (Used f) = sym (slot_there g bs (owned g bs c t).own c s n is) ∙ stands_at c n f at in
      let same : get_or c.files (n - 1) (Free 0) ≡ Used f = cc both in
      tells_file g.cluster n (told_of g bs n).head (body_blocks bs n (told_of g bs n)) f ((told g bs (owned g bs c t).own c s n is).slot ∙ same)

  -- a file that is no directory has no entries
  pub plain_file : (n : ℕ) (f : File) → file_at c n ≡ Some f → f.dir ≡ false → f.entries ≡ []
  plain_file n f at other =
      let h = header_of n f at in
      let dir : h.hdr.dir ≡ false = ap (λ (x : File). x.dir) h.is ∙ other in
      sym (ap (λ (x : File). x.entries) h.is) ∙ ap (λ b. cond b (plain_entries (directory (body_blocks bs n (told_of g bs n)))) []) dir

  -- the header of a number is on the volume
  pub header_on : (n : ℕ) → IsFileNumber g n → header_place g n < length bs
  header_on n is = on_volume g bs (owned g bs c t).own c s (header_place g n) (InFile 1) (part_owned g bs (owned g bs c t).own c s (Header n) is)

  pub sizes : HasFileSizes c
  sizes = file-sizes bs c t.size t.whole t.cat
