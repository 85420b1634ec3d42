-- What DELETE answers, told by what was looked at.
use Rattle.std.proofs.Common.{◌≡◌, ◌≢◌, ◌∙◌, ◌==◌, ◌-◌, ◌&&◌, ℕ, Bool, true, false, not, cond, List, [], ◌∷◌, Option, Some, None, slice_get, refl, sym, ap, arith}
use Rattle.std.specs.Prelude.{nat_le, slice_set}
use Rattle.std.proofs.lemmas.Bool.{ne_eqb}
use Rattle.base_words.proofs.ListWrites.{get-set_else}
use Rattle.plain_cat.specs.declared.ids.Fid.{Fid}
use Rattle.plain_cat.specs.declared.entries.DirEnt.{DirEnt}
use Rattle.plain_cat.specs.declared.cat.Cat.{Cat}
use Rattle.plain_cat.specs.declared.cat.File.{File}
use Rattle.plain_cat.specs.declared.cat.Slot.TheVariants.{Used}
use Rattle.plain_cat.specs.declared.reply.Refusal.TheVariants as refusal
use Rattle.plain_rules.specs.declared.outcome.Outcome.{Outcome}
use Rattle.plain_rules.specs.Lookups.{file_in, file_at, in_use, live, versions, entry_of}
use Rattle.plain_rules.specs.Directories.{is_nil, without}
use Rattle.plain_rules.specs.Changes.{with_file}
use Rattle.plain_rules.specs.Answers.{refused, in_directory_file, with_entry, has_entries, unnamed, less_entry, delete_outcome}
use Rattle.plain_rules.proofs.Standing.{stands_at}
use Rattle.plain_vol.specs.declared.naming.Loss.{Loss}
use Rattle.plain_vol.specs.Makings.{Stands, lost, changed_of, unnamed_in}
use Rattle.std.specs.Prelude.{Ok}
use Rattle.plain_vol.proofs.Changing.{in_use_at, live_at}

no_entry : (ver : ℕ) (es : List DirEnt) → is_nil es ≡ true → (name : List ℕ) (e : DirEnt) → entry_of (versions name es) ver ≡ Some e → ⊥
no_entry ver [] h name e found = cc found
no_entry ver (x ∷ es) h name e found = cc h

both : (a b : Bool) → a ≡ true → b ≡ false → (a && not b) ≡ false → ⊥
both true false a_is b_is h = cc h
both true true a_is b_is h = cc b_is
both false b a_is b_is h = cc a_is

-- a directory of which an entry was found has entries
full : (d : File) (name : List ℕ) (ver : ℕ) (e : DirEnt) → d.dir ≡ true → entry_of (versions name d.entries) ver ≡ Some e → has_entries (Some d) ≡ false → ⊥
full d name ver e dir found none = by_nil (is_nil d.entries) refl where
  by_nil : (b : Bool) → is_nil d.entries ≡ b → ⊥
  by_nil true is = no_entry ver d.entries is name e found
  by_nil false is = both d.dir (is_nil d.entries) dir is none

none_at_zero : (c : Cat) (n : ℕ) (f : File) → file_at c n ≡ Some f → n ≢ 0
none_at_zero c n f h e = let at : file_at c 0 ≡ Some f = sym (ap (file_at c) e) ∙ h in cc at

-- another file stands still
other_stands : (c : Cat) (n m : ℕ) (d f new : File) → file_at c n ≡ Some d → file_at c m ≡ Some f → n ≢ m → file_at (with_file c n new) m ≡ Some f
other_stands c n m d f new at_n at_m ne =
    let n_some = none_at_zero c n d at_n in
    let m_some = none_at_zero c m f at_m in
    let apart : n - 1 ≢ m - 1 = λ e. ne (omega (arith, n_some, m_some, e)) in
    let test : (m == 0) ≡ false = ne_eqb m 0 m_some in
    ap (λ (b : Bool). file_in (cond b None (slice_get (slice_set c.files (n - 1) (Used new)) (m - 1)))) test
    ∙ ap file_in (get-set_else c.files (n - 1) (m - 1) (Used new) apart ∙ stands_at c m f at_m)

module _ (c : Cat) (dir : Fid) (name : List ℕ) (ver : ℕ) (d : File) (e : DirEnt) (live_is : live c dir ≡ Some d) (is_dir : d.dir ≡ true)
    (found : entry_of (versions name d.entries) ver ≡ Some e) (empty : has_entries (in_use c e.fid) ≡ false) where
  -- the file that the entry names is not the directory, and so stands still
  named_stands : (o : Option File) (new : File) → in_use c e.fid ≡ o → Stands (with_file c dir.num new) e.fid.num o
  named_stands None new is = tt
  named_stands (Some f) new is =
      let at : file_at c e.fid.num ≡ Some f = in_use_at c e.fid f is in
      let dir_at : file_at c dir.num ≡ Some d = live_at c dir d live_is in
      other_stands c dir.num e.fid.num d f new dir_at at (λ same.
      let one : ◌≡◌ {A = Option File} (Some d) (Some f) = sym dir_at ∙ ap (file_at c) same ∙ at in
      full d name ver e is_dir found (ap has_entries (one ∙ sym is) ∙ empty))

  -- the answer, where the entry names no system file
  pub deletes : (loss : Loss) → nat_le e.fid.num 11 ≡ false
      → ((after : Cat) → after.factor ≡ c.factor → after.opens ≡ c.opens → Stands after e.fid.num (in_use c e.fid) → lost after e.fid.num loss ≡ unnamed after e.fid.num (in_use c e.fid))
      → unnamed_in c dir.num (Ok (record { entry = e; loss = loss })) ≡ delete_outcome c dir name ver
  unfolding delete_outcome
  deletes loss above is =
      let next : DirEnt → Outcome = λ e. cond (has_entries (in_use c e.fid)) (refused c refusal.DirNotEmpty) (unnamed (less_entry c dir.num d e) e.fid.num (in_use c e.fid)) in
      let leave : File → File = λ d. record d { entries = without e.name e.ver d.entries } in
      ap (λ (o : Option File). lost (changed_of c dir.num leave o) e.fid.num loss) (live_at c dir d live_is)
      ∙ is (less_entry c dir.num d e) refl refl (named_stands (in_use c e.fid) (leave d) refl)
      ∙ sym (
      ap (λ (o : Option File). in_directory_file c o (λ d. with_entry c (entry_of (versions name d.entries) ver) (λ e.
      cond (has_entries (in_use c e.fid)) (refused c refusal.DirNotEmpty) (unnamed (less_entry c dir.num d e) e.fid.num (in_use c e.fid))))) live_is
      ∙ ap (λ (b : Bool). cond b (with_entry c (entry_of (versions name d.entries) ver) next) (refused c refusal.NotDir)) is_dir
      ∙ ap (λ (o : Option DirEnt). with_entry c o next) found
      ∙ ap (λ (b : Bool). cond b (refused c refusal.NoPriv) (next e)) above
      ∙ ap (λ (b : Bool). cond b (refused c refusal.DirNotEmpty) (unnamed (less_entry c dir.num d e) e.fid.num (in_use c e.fid))) empty)
