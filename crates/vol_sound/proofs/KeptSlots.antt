-- The slots that blocks tell once a repair begins, and that each directory can be read.
use Rattle.std.proofs.Common.{◌≡◌, ◌≢◌, ◌∙◌, ◌<◌, ◌≤◌, ◌⊎◌, ℕ, Bool, true, false, not, List, Option, Some, None, length, map, refl, sym, ap, subst, inl, inr, arith, cond}
use Rattle.std.specs.Prelude.{◌==◌, ◌&&◌, ◌||◌, nat_lt, nat_le, is_none, Result, Ok, Err}
use Rattle.std.proofs.lemmas.Bool.{and_parts, or_parts, or_right, or_from, eqb-false, ne_eqb, le-leb, lt-leb, cases_Bool}
use Rattle.base_words.specs.Fields.{Block}
use Rattle.base_words.proofs.Listing.{same_or_not}
use Rattle.fx_home.specs.declared.home.Home.{Home}
use Rattle.fx_home.specs.Homes.{IsWithinLimits}
use Rattle.fx_header.specs.declared.slot.Hdr.{Hdr}
use Rattle.fx_header.specs.declared.slot.Slot.{Slot as Head}
use Rattle.fx_header.specs.declared.slot.Slot.TheVariants as head
use Rattle.fx_header.specs.declared.slot.HeaderFault.{HeaderFault}
use Rattle.fx_header.specs.declared.slot.HeaderFault.TheVariants.{BadSum}
use Rattle.fx_header.specs.Headers.{header_read}
use Rattle.fx_header.proofs.SoundLemmas.{reads-sound}
use Rattle.fx_header.proofs.SetterLemmas.{tells-of}
use Rattle.fx_dir.specs.Directory.{directory}
use Rattle.plain_cat.specs.declared.cat.File.{File}
use Rattle.plain_cat.specs.declared.cat.Slot.TheVariants.{Used, Free}
use Rattle.plain_rules.specs.SystemFiles.{is_system_directory}
use Rattle.vol_parts.specs.declared.finding.Finding.{Finding}
use Rattle.vol_parts.specs.declared.finding.Finding.TheVariants as finding
use Rattle.vol_parts.specs.Chains.{as_first}
use Rattle.vol_parts.specs.Volumes.{Volume, volume, IsNumber, numbers, header_lbn, header_at, head as head_of, first_head, fields_in, used_slot, fields, Told, told, runs, body}
use Rattle.vol_parts.specs.Catalogues.{is_structure, plain_entry, plain_entries, file_of, slot_with, slot_of, files_of}
use Rattle.vol_parts.specs.Fatal.{is_one_header, has_dir_size, found_in, dir_fault, dir_test}
use Rattle.vol_init.specs.Layouts.{main_entries}
use Rattle.vol_sound.specs.Sound.{is_sound, is_kept}
use Rattle.vol_sound.specs.Freeing.{HasSystem, seq_at, IsSameTold}
use Rattle.vol_sound.specs.Begun.{is_kept_file, lacks_entry, with_listed, emptied, kept_slot, begun_slot, begun_files}
use Rattle.vol_sound.specs.Kept.{is_marked_for, is_marked_directory, IsEmptiedWhere, IsPackedWhere, IsBegun}
use Rattle.vol_sound.proofs.Cuts.{number_of, IsCut, cut_parts, sound_parts}
use Rattle.vol_sound.proofs.Freed.{system_stays, sound_stays}
use Rattle.vol_sound.proofs.Bodies.{map_same, dir_stays}
use Rattle.vol_sound.proofs.Settled.{kept_head, kept_own, kinds}
use Rattle.vol_sound.proofs.KeptFiles.{slot_used, file_listed, file_by, file_blind, emptied_open, emptied_flat, emptied_dir, sized, fault_in, flat_fault, no_entries, right_blocks, IsSystemHeader, system_fields, main_listed, main_some}

-- a header says the sequence that stands in its slot
seq_said : (v : Volume) (n : ℕ) (x : Hdr) → used_slot v n ≡ Some x → seq_at v n ≡ x.seq
unfolding head_of
seq_said v n x e = by_place (nat_lt (header_lbn v n) (length v.blocks)) e where
  by_read : (r : Result Head HeaderFault) → header_read (header_at v n) ≡ r → fields_in r ≡ Some x → seq_at v n ≡ x.seq
  by_read (Err fault) u t = absurd (let z : None ≡ Some x = t in cc)
  by_read (Ok (head.Free seq)) u t = absurd (let z : None ≡ Some x = t in cc)
  by_read (Ok (head.Used f)) u t =
      let same : f ≡ x = (let z : Some f ≡ Some x = t in cc) in
      (tells-of (header_at v n) f (reads-sound (header_at v n) f u).fields).seq ∙ ap (λ (h : Hdr). h.seq) same

  by_place : (b : Bool) → fields_in (cond b (header_read (header_at v n)) (Err BadSum)) ≡ Some x → seq_at v n ≡ x.seq
  by_place true t = by_read (header_read (header_at v n)) refl t
  by_place false t = absurd (let z : None ≡ Some x = t in cc)

-- another header than a first one is told as a free slot
further_free : (x : Hdr) → fields_in (as_first (Ok (head.Used x))) ≡ None → ◌≡◌ {A = Result Head HeaderFault} (as_first (Ok (head.Used x))) (Ok (head.Free x.seq))
further_free x e = by_seg (x.seg == 0) e where
  by_seg : (t : Bool) → fields_in (cond t (Ok (head.Used x)) (Ok (head.Free x.seq))) ≡ None → ◌≡◌ {A = Result Head HeaderFault} (cond t (Ok (head.Used x)) (Ok (head.Free x.seq))) (Ok (head.Free x.seq))
  by_seg true u = absurd (let z : Some x ≡ None = u in cc)
  by_seg false u = refl

-- the files 1 to 11 that are no directories and hold none of the volume's own structures
others_low : (n : ℕ) → 1 ≤ n → n ≤ 11 → n ≢ 11 → is_structure n ≡ false → (3 ≤ n) × (n ≤ 9)
others_low n from to last e =
    let a = or_parts (n == 1) ((n == 2) || (n == 10)) e in
    let b = or_parts (n == 2) (n == 10) a.1 in
    let x : n ≢ 1 = eqb-false n 1 a.0 in
    let y : n ≢ 2 = eqb-false n 2 b.0 in
    let z : n ≢ 10 = eqb-false n 10 b.1 in
    (omega arith, omega arith)

no_system_dir : (n : ℕ) → n ≢ 4 → n ≢ 11 → is_system_directory n ≡ false
no_system_dir n a b = or_from (n == 4) (n == 11) (ne_eqb n 4 a) (ne_eqb n 11 b)

module _ (home : Home) (old new : List Block) (within : IsWithinLimits home) (system : HasSystem (volume home old)) (b : IsBegun home old new) where
  abbrev v : Volume
  v = volume home old

  abbrev p : Volume
  p = volume home new

  pub low_same : (n : ℕ) → 1 ≤ n → n ≤ 11 → IsSameTold v p n
  low_same n from to = system_stays home old new within system b.freed.freed n from to

  pub sound_same : (n : ℕ) → IsNumber v n → is_sound v n ≡ true → IsSameTold v p n
  sound_same n is s = sound_stays home old new within system b.freed.freed n is s

  sys : (n : ℕ) → 1 ≤ n → n ≤ 11 → IsSystemHeader v n
  sys n from to = system_fields v n (system.files.sound n from to)

  -- ---- slots

  slot_by : (n : ℕ) (f : Hdr) → fields v n ≡ Some f → fields p n ≡ fields v n → file_of home.cluster n f (body p n) ≡ file_of home.cluster n f (body v n) → slot_of p n ≡ slot_of v n
  slot_by n f e same file = slot_used p n f (same ∙ e) ∙ ap (λ (x : File). Used x) file ∙ sym (slot_used v n f e)

  slot_body : (n : ℕ) (f : Hdr) → fields v n ≡ Some f → fields p n ≡ fields v n → body p n ≡ body v n → slot_of p n ≡ slot_of v n
  slot_body n f e same blocks = slot_by n f e same (ap (file_of home.cluster n f) blocks)

  open_slot : (n : ℕ) (f : Hdr) → fields v n ≡ Some f → f.marked ≡ false → emptied (slot_of v n) ≡ slot_of v n
  open_slot n f e m = ap emptied (slot_used v n f e) ∙ emptied_open home.cluster n f (body v n) m ∙ sym (slot_used v n f e)

  flat_slot : (n : ℕ) (f : Hdr) → fields v n ≡ Some f → f.dir ≡ false → emptied (slot_of v n) ≡ slot_of v n
  flat_slot n f e d = ap emptied (slot_used v n f e) ∙ emptied_flat home.cluster n f (body v n) d ∙ sym (slot_used v n f e)

  sound_slot : (n : ℕ) → IsNumber v n → is_sound v n ≡ true → slot_of p n ≡ emptied (slot_of v n)
  sound_slot n is s = by_mark (is_marked_directory v n) (ap is_marked_for (sym c.used)) (b.sound n is s) where
    c : IsCut v n
    c = cut_parts v n (sound_parts v n s).cut

    same : IsSameTold v p n
    same = sound_same n is s

    by_dir : (c.header.dir && c.header.marked) ≡ false → (c.header.dir ≡ true) ⊎ (c.header.dir ≡ false) → emptied (slot_of v n) ≡ slot_of v n
    by_dir e (inl d) = open_slot n c.header c.used (sym (ap (λ x. x && c.header.marked) d) ∙ e)
    by_dir e (inr d) = flat_slot n c.header c.used d

    by_mark : (t : Bool) → (c.header.dir && c.header.marked) ≡ t → IsEmptiedWhere t v p n → slot_of p n ≡ emptied (slot_of v n)
    by_mark false e h = slot_body n c.header c.used same.fields h ∙ sym (by_dir e (cases_Bool c.header.dir))
    by_mark true e h =
        let a = and_parts c.header.dir c.header.marked e in
        slot_used p n c.header (same.fields ∙ c.used) ∙ emptied_dir home.cluster n c.header (body p n) (body v n) a.0 a.1 h ∙ ap emptied (sym (slot_used v n c.header c.used))

  main_slot : slot_of p 4 ≡ kept_slot v 4
  main_slot = by_lack (lacks_entry v) refl b.main where
    h : IsSystemHeader v 4
    h = sys 4 (omega arith) (omega arith)

    same : IsSameTold v p 4
    same = low_same 4 (omega arith) (omega arith)

    by_lack : (t : Bool) → lacks_entry v ≡ t → IsPackedWhere t v p → slot_of p 4 ≡ cond (lacks_entry v) (with_listed (map plain_entry main_entries) (slot_of v 4)) (emptied (slot_of v 4))
    by_lack true t e =
        slot_used p 4 h.header (same.fields ∙ h.used)
        ∙ ap (λ (x : File). Used x) (file_listed home.cluster 4 h.header (body p 4) (body v 4) main_entries h.dir e)
        ∙ ap (with_listed (map plain_entry main_entries)) (sym (slot_used v 4 h.header h.used))
        ∙ sym (ap (λ x. cond x (with_listed (map plain_entry main_entries) (slot_of v 4)) (emptied (slot_of v 4))) t)
    by_lack false t e =
        slot_body 4 h.header h.used same.fields e ∙ sym (open_slot 4 h.header h.used h.unmarked)
        ∙ sym (ap (λ x. cond x (with_listed (map plain_entry main_entries) (slot_of v 4)) (emptied (slot_of v 4))) t)

  lost_slot : slot_of p 11 ≡ slot_of v 11
  lost_slot = by_fault (not (is_none (dir_fault v 11))) refl b.lost where
    h : IsSystemHeader v 11
    h = sys 11 (omega arith) (omega arith)

    same : IsSameTold v p 11
    same = low_same 11 (omega arith) (omega arith)

    wrong : not (is_none (dir_fault v 11)) ≡ true → found_in 11 (directory (body v 11)) ≢ None
    wrong t e =
        let none = fault_in v 11 h.header h.used h.dir (sized v 11 h.header h.used h.dir (system.sizes 11 refl)) ∙ e in
        let z : false ≡ true = sym (ap (λ o. not (is_none o)) none) ∙ t in
        absurd (cc)

    by_fault : (t : Bool) → not (is_none (dir_fault v 11)) ≡ t → IsEmptiedWhere t v p 11 → slot_of p 11 ≡ slot_of v 11
    by_fault false t e = slot_body 11 h.header h.used same.fields e
    by_fault true t e =
        slot_by 11 h.header h.used same.fields (file_by home.cluster 11 h.header (body p 11) (body v 11) h.dir (ap plain_entries e ∙ sym (no_entries 11 (directory (body v 11)) (wrong t))))

  system_slot : (n : ℕ) → 1 ≤ n → n ≤ 11 → slot_of p n ≡ kept_slot v n
  system_slot n from to = by_main (same_or_not n 4) where
    h : IsSystemHeader v n
    h = sys n from to

    same : IsSameTold v p n
    same = low_same n from to

    other : n ≢ 4 → slot_of p n ≡ slot_of v n → slot_of p n ≡ kept_slot v n
    other ne e =
        e ∙ sym (open_slot n h.header h.used h.unmarked)
        ∙ sym (ap (λ t. cond (t && lacks_entry v) (with_listed (map plain_entry main_entries) (slot_of v n)) (emptied (slot_of v n))) (ne_eqb n 4 ne))

    by_kind : n ≢ 4 → n ≢ 11 → (is_structure n ≡ true) ⊎ (is_structure n ≡ false) → slot_of p n ≡ slot_of v n
    by_kind ne nl (inl st) = slot_by n h.header h.used same.fields (file_blind home.cluster n h.header (body p n) (body v n) (h.dir ∙ no_system_dir n ne nl) st)
    by_kind ne nl (inr st) = let k = others_low n from to nl st in slot_body n h.header h.used same.fields (b.system n k.0 k.1 ne)

    by_lost : n ≢ 4 → (n ≡ 11) ⊎ (n ≢ 11) → slot_of p n ≡ slot_of v n
    by_lost ne (inl last) = subst (λ (k : ℕ). slot_of p k ≡ slot_of v k) (sym last) lost_slot
    by_lost ne (inr nl) = by_kind ne nl (cases_Bool (is_structure n))

    by_main : (n ≡ 4) ⊎ (n ≢ 4) → slot_of p n ≡ kept_slot v n
    by_main (inl four) = subst (λ (k : ℕ). slot_of p k ≡ kept_slot v k) (sym four) main_slot
    by_main (inr ne) = other ne (by_lost ne (same_or_not n 11))

  -- the slot of a number that has no file that is kept
  free_slot : (n : ℕ) → IsNumber v n → fields p n ≡ None → slot_of p n ≡ Free (seq_at v n)
  unfolding slot_of
  free_slot n is none = ap (λ r. slot_with home.cluster n r (body p n)) (by_kept (cases_Bool (is_kept v n))) where
    by_kept : (is_kept v n ≡ true) ⊎ (is_kept v n ≡ false) → first_head p n ≡ Ok (head.Free (seq_at v n))
    by_kept (inr lost) = ap as_first (b.freed.all n is lost)
    by_kept (inl kept) =
        let own = kept_own home old new within system b.freed n is kept in
        let same = kept_head home old new within system b.freed n is kept in
        by_head own.header own.says (head_of v n) refl same
      where
        by_head : (x : Hdr) → used_slot v n ≡ Some x → (r : Result Head HeaderFault) → head_of v n ≡ r → head_of p n ≡ head_of v n → first_head p n ≡ Ok (head.Free (seq_at v n))
        by_head x says (Err fault) u same = absurd (let z : None ≡ Some x = sym (ap fields_in u) ∙ says in cc)
        by_head x says (Ok (head.Free seq)) u same = absurd (let z : None ≡ Some x = sym (ap fields_in u) ∙ says in cc)
        by_head x says (Ok (head.Used f)) u same =
            let here : first_head p n ≡ as_first (Ok (head.Used f)) = ap as_first (same ∙ u) in
            let said : used_slot v n ≡ Some f = ap fields_in u in
            here ∙ further_free f (sym (ap fields_in here) ∙ none) ∙ ap (λ k. Ok (head.Free k)) (sym (seq_said v n f said))

  slot_is : (n : ℕ) → IsNumber v n → slot_of p n ≡ begun_slot v n
  unfolding begun_slot is_kept_file
  slot_is n is = elim (kinds home old new within system b.freed n is) [
    | inl low ↦ system_slot n is.from low ∙ sym (ap (λ t. cond (t || is_sound v n) (kept_slot v n) (Free (seq_at v n))) (le-leb n 11 low))
    | inr more ↦ elim more [
      | inl s ↦ sound_kept_slot s.0 s.1 ∙ sym (ap (λ t. cond t (kept_slot v n) (Free (seq_at v n))) (or_right (nat_le n 11) (is_sound v n) s.1))
      | inr none ↦ free_slot n is none.1 ∙ sym (ap (λ t. cond t (kept_slot v n) (Free (seq_at v n))) (or_from (nat_le n 11) (is_sound v n) (lt-leb n 11 none.0) none.2))
    ]
  ] where
    sound_kept_slot : 11 < n → is_sound v n ≡ true → slot_of p n ≡ kept_slot v n
    sound_kept_slot above s =
        sound_slot n is s
        ∙ sym (ap (λ t. cond (t && lacks_entry v) (with_listed (map plain_entry main_entries) (slot_of v n)) (emptied (slot_of v n))) (ne_eqb n 4 (λ e. omega arith)))

  pub files_are : files_of p ≡ begun_files v
  unfolding files_of begun_files
  files_are = map_same (slot_of p) (begun_slot v) (numbers v) (λ n t. slot_is n (number_of v n t))

  -- ---- directories

  -- a directory that has the size of one, and whose blocks list entries
  right_dir : (n : ℕ) (f : Hdr) → fields v n ≡ Some f → IsSameTold v p n → f.dir ≡ true → dir_fault v n ≢ Some (finding.DirSize n) → found_in n (directory (body p n)) ≡ None → dir_fault p n ≡ None
  unfolding runs
  right_dir n f e same d size right =
      let fits : (is_one_header f (told p n) && has_dir_size home.cluster f (told p n).runs) ≡ true = ap (λ (t : Told). is_one_header f t && has_dir_size home.cluster f t.runs) same.told ∙ sized v n f e d size in
      fault_in p n f (same.fields ∙ e) d fits ∙ right

  sound_dir : (n : ℕ) → IsNumber v n → is_sound v n ≡ true → dir_fault p n ≡ None
  sound_dir n is s = by_mark (is_marked_directory v n) (ap is_marked_for (sym c.used)) (b.sound n is s) where
    c : IsCut v n
    c = cut_parts v n (sound_parts v n s).cut

    sized_so : dir_fault v n ≢ Some (finding.DirSize n)
    sized_so e = let z : None ≡ Some (finding.DirSize n) = sym (sound_parts v n s).dir ∙ e in absurd (cc)

    by_mark : (t : Bool) → (c.header.dir && c.header.marked) ≡ t → IsEmptiedWhere t v p n → dir_fault p n ≡ None
    by_mark false e h = dir_stays home old new n (sound_same n is s) h ∙ (sound_parts v n s).dir
    by_mark true e h = right_dir n c.header c.used (sound_same n is s) (and_parts c.header.dir c.header.marked e).0 sized_so (ap (found_in n) h)

  main_dir : dir_fault p 4 ≡ None
  main_dir = by_lack (lacks_entry v) refl b.main where
    h : IsSystemHeader v 4
    h = sys 4 (omega arith) (omega arith)

    four : 4 ≤ v.home.files
    four = let f = within.files_low in omega arith

    by_lack : (t : Bool) → lacks_entry v ≡ t → IsPackedWhere t v p → dir_fault p 4 ≡ None
    by_lack true t e = right_dir 4 h.header h.used (low_same 4 (omega arith) (omega arith)) h.dir (system.sizes 4 refl) (ap (found_in 4) e)
    by_lack false t e =
        right_dir 4 h.header h.used (low_same 4 (omega arith) (omega arith)) h.dir (system.sizes 4 refl)
        (ap (λ xs. found_in 4 (directory xs)) e ∙ right_blocks 4 (directory (body v 4)) (λ none. main_some v t (main_listed v h.header four h.used h.dir ∙ none)))

  lost_dir : dir_fault p 11 ≡ None
  lost_dir = by_fault (dir_fault v 11) refl b.lost where
    h : IsSystemHeader v 11
    h = sys 11 (omega arith) (omega arith)

    by_fault : (o : Option Finding) → dir_fault v 11 ≡ o → IsEmptiedWhere (not (is_none o)) v p 11 → dir_fault p 11 ≡ None
    by_fault None u e = dir_stays home old new 11 (low_same 11 (omega arith) (omega arith)) e ∙ u
    by_fault (Some f) u e = right_dir 11 h.header h.used (low_same 11 (omega arith) (omega arith)) h.dir (system.sizes 11 refl) (ap (found_in 11) e)

  system_dir : (n : ℕ) → 1 ≤ n → n ≤ 11 → dir_fault p n ≡ None
  system_dir n from to = elim (same_or_not n 4) [
    | inl four ↦ subst (λ (k : ℕ). dir_fault p k ≡ None) (sym four) main_dir
    | inr ne ↦ elim (same_or_not n 11) [
      | inl last ↦ subst (λ (k : ℕ). dir_fault p k ≡ None) (sym last) lost_dir
      | inr nl ↦ (let h = sys n from to in flat_fault p n h.header ((low_same n from to).fields ∙ h.used) (h.dir ∙ no_system_dir n ne nl))
    ]
  ]

  pub dirs_are : (n : ℕ) → IsNumber v n → dir_fault p n ≡ None
  unfolding dir_fault
  dirs_are n is = elim (kinds home old new within system b.freed n is) [
    | inl low ↦ system_dir n is.from low
    | inr more ↦ elim more [
      | inl s ↦ sound_dir n is s.1
      | inr none ↦ ap (dir_test p n) none.1
    ]
  ]
