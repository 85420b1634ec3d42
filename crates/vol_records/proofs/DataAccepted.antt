-- A volume is accepted still once the data of one of its files have changed.
use Rattle.std.proofs.Common.{◌≡◌, ◌∙◌, ◌⊎◌, inl, inr, ℕ, Bool, true, false, List, [], Option, Some, None, Result, Ok, Err, refl, sym, ap, subst, arith}
use Rattle.std.proofs.lemmas.Bool.{cases_eq}
use Rattle.base_words.specs.Fields.{Block}
use Rattle.base_words.specs.Lists.{Has}
use Rattle.fx_home.specs.declared.home.Home.{Home}
use Rattle.fx_home.specs.declared.home.HomeFault.{HomeFault}
use Rattle.fx_home.specs.Homes.{home_read}
use Rattle.fx_header.specs.declared.slot.Hdr.{Hdr}
use Rattle.plain_cat.specs.declared.cat.Cat.{Cat}
use Rattle.plain_cat.specs.declared.cat.File.{File}
use Rattle.plain_cat.specs.declared.cat.Open.{Open}
use Rattle.plain_cat.specs.declared.cat.Slot.TheVariants.{Used}
use Rattle.plain_rules.specs.Changes.{with_file}
use Rattle.plain_rules.specs.Mending.{without_opens, mended}
use Rattle.plain_rules.proofs.Standing.{stands_at}
use Rattle.plain_laws.specs.Clearing.{nothing_done}
use Rattle.plain_mends.specs.Sound.{IsSound}
use Rattle.plain_mends.specs.Waiting.{IsDone}
use Rattle.plain_mends.proofs.DoneSteps.{done_mends}
use Rattle.plain_mends.proofs.SoundAnswers.{data_sound}
use Rattle.vol_parts.specs.declared.geometry.Geometry.{Geometry}
use Rattle.vol_parts.specs.Volumes.{volume, numbers}
use Rattle.vol_parts.specs.Warnings.{is_double_dir, has_doubles}
use Rattle.vol_parts.specs.Findings.{home_at, CatOf}
use Rattle.vol_faults.specs.Conditions.{IsSize}
use Rattle.vol_spell.specs.Owners.{Owners}
use Rattle.vol_spell.specs.Reading.{IsFileNumber, told_of, body_blocks, header_block, fields_told}
use Rattle.vol_spell.specs.Spelling.{IsHomeOf, Spells}
use Rattle.vol_spell.specs.Views.{IsSameFile}
use Rattle.vol_spell.proofs.Placing.{ranged_has}
use Rattle.vol_mends.specs.Weak.{shut}
use Rattle.vol_mends.specs.Told.{IsTold, IsSingle}
use Rattle.vol_mends.specs.Clean.{KeepsClean}
use Rattle.vol_mends.proofs.NoTails.{accepted_is_clean}
use Rattle.vol_mends.proofs.AcceptedSteps.{accepted_is_sound, told_shut}
use Rattle.vol_mends.proofs.OneWrite.{doubles_told, single_same}
use Rattle.vol_mends.proofs.Finished.{done_is_accepted}
use Rattle.vol_mends.proofs.SoundMends.{sound_can_mend}
use Rattle.vol_mends.proofs.Tests.{tells_file}
use Rattle.vol_mends.proofs.WeakSteps.{spelt_is_weak}
use Rattle.vol_mends.proofs.WriteTold.{home_told, spelt_geometry}
use Rattle.vol_records.specs.Keeping.{with_data, HasPlainFile, AreAccepted, DataIsAccepted}
use Rattle.vol_records.proofs.DataKeeps.{data_at, data_done}
use Rattle.vol_records.proofs.NothingLeft.{file_number, clear}

-- the home block that the blocks have
home_there : (g : Geometry) (r : Result Home HomeFault) → IsHomeOf g r → (home : Home) × (r ≡ Ok home)
home_there g (Err fault) is = absurd is
home_there g (Ok home) is = (home, refl)

not_mended : (c : Cat) → IsDone c → mended c ≡ None → ⊥
not_mended c done e = let both : None ≡ Some (without_opens c, nothing_done) = sym e ∙ done_mends c done in cc both

no_double : (o : Option Hdr) (xs : List Block) → ((h : Hdr) → o ≡ Some h → h.dir ≡ false) → is_double_dir o xs ≡ false
no_double None xs flat = refl
no_double (Some h) xs flat = by_dir h.dir (flat h refl) where
  by_dir : (b : Bool) → b ≡ false → is_double_dir (Some (record h { dir = b })) xs ≡ false
  by_dir true e = absurd (cc e)
  by_dir false e = refl

module _ (g : Geometry) (bs new : List Block) (own : Owners) (c : Cat) (n : ℕ) (f : File) (mark end byte : ℕ) (blocks : List Block) (has : HasPlainFile g bs own c n f)
    (s : Spells g new own (with_file c n (with_data f mark end byte blocks))) (others : (m : ℕ) → IsFileNumber g m → (m ≡ n → ⊥) → IsSameFile g bs new m) (clean : KeepsClean g bs new) where
  abbrev d : Cat
  d = with_file c n (with_data f mark end byte blocks)

  abbrev old_clear : (home : Home) × (home_read (home_at bs) ≡ Ok home)
  old_clear = home_there g (home_read (home_at bs)) has.spells.structures.home

  abbrev both : IsDone c × ((m : ℕ) → Has (numbers (volume old_clear.0 bs)) m → has_doubles (volume old_clear.0 bs) m ≡ false)
  both = clear g bs own c has.spells has.told.cat has.accepted old_clear.0 old_clear.1

  done : IsDone d
  done = data_done c n f mark end byte blocks has.at both.0

  sound : IsSound d
  sound = data_sound c n f (with_data f mark end byte blocks) has.at refl (accepted_is_sound bs c has.accepted has.told.cat)

  closed : shut d ≡ d
  closed = ap (λ (os : List (Option Open)). record d { opens = os }) (sym (told_shut bs c has.told.cat))

  cat : CatOf new d
  cat = subst (λ (x : Cat). CatOf new x) closed (spelt_is_weak g new own d s has.outs (sound_can_mend.shut_too d sound (not_mended d done)))

  told : IsTold g new d
  told = record {
    size = subst IsSize (has.spells.counts.blocks ∙ sym s.counts.blocks) has.told.size;
    whole = s.whole;
    cat = cat;
    geometry = spelt_geometry g new own d s;
  }

  -- no directory had doubles
  was_single : (m : ℕ) → IsFileNumber g m → IsSingle g bs m
  was_single m is =
      let home = old_clear.0 in
      let home_is : home ≡ record { cluster = g.cluster; files = g.files; label = home.label } = home_told g bs own c has.spells home old_clear.1 in
      let files : home.files ≡ g.files = ap (λ (x : Home). x.files) home_is in
      let from = is.from in
      let to = is.to in
      let none : has_doubles (volume home bs) m ≡ false = both.1 m (ranged_has 1 home.files m from (omega (arith, to, files))) in
      doubles_told [] g bs own c has.spells m is ∙ (sym (doubles_told home.label g bs own c has.spells m is) ∙ (sym (ap (λ (h : Home). has_doubles (volume h bs) m) home_is) ∙ none))

  -- the file is no directory
  flat : (h : Hdr) → fields_told (header_block g new n) ≡ Some h → h.dir ≡ false
  flat h e =
      let at = data_at c n f mark end byte blocks has.at in
      let is : IsFileNumber g n = number in
      let t = tells_file g.cluster n (told_of g new n).head (body_blocks new n (told_of g new n)) (with_data f mark end byte blocks) (s.files n (Used (with_data f mark end byte blocks)) is (stands_at d n (with_data f mark end byte blocks) at)).slot in
      let same : Some h ≡ Some t.hdr = sym e ∙ t.at in
      let one : h ≡ t.hdr = cc same in
      ap (λ (x : Hdr). x.dir) one ∙ (ap (λ (x : File). x.dir) t.is ∙ has.flat)
    where
      number : IsFileNumber g n
      number = file_number g bs own c has.spells n f has.at

  single : (m : ℕ) → IsFileNumber g m → IsSingle g new m
  single m is = by_case (cases_eq m n) where
    by_case : (m ≡ n) ⊎ (m ≡ n → ⊥) → IsSingle g new m
    by_case (inl here) =
        let none : is_double_dir (fields_told (header_block g new m)) (body_blocks new m (told_of g new m)) ≡ false =
        no_double (fields_told (header_block g new m)) (body_blocks new m (told_of g new m)) (λ h e. flat h (ap (λ k. fields_told (header_block g new k)) (sym here) ∙ e)) in
        doubles_told [] g new own d s m is ∙ none
    by_case (inr other) = single_same g bs new own own c d has.spells s m is (others m is other) (was_single m is)

  accepted : AreAccepted g new d
  accepted = record { accepted = done_is_accepted.accepted g new d told done (clean (accepted_is_clean g bs c has.told has.accepted)) single; told = told }

pub data_is_accepted : DataIsAccepted
data_is_accepted = accepted
