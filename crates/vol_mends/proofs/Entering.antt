-- The moves that enter a lost file in [SYSLOST].
use Rattle.std.proofs.Common.{◌≡◌, ◌∙◌, ◌<◌, ◌≤◌, ◌-◌, ◌^◌, ℕ, Bool, true, false, cond, List, [], ◌∷◌, Some, None, Ok, is_some, length, map, refl, sym, ap, subst, arith}
use Rattle.std.specs.Prelude.{◌&&◌, option_map, option_and_then}
use Rattle.std.proofs.lemmas.Bool.{le-leb}
use Rattle.base_words.specs.Fields.{Block}
use Rattle.base_words.specs.Packing.{pack, over}
use Rattle.fx_dir.specs.declared.RawEnt.{RawEnt}
use Rattle.fx_dir.specs.declared.Move.{Move}
use Rattle.fx_dir.specs.Entries.{rises, has}
use Rattle.fx_dir.specs.Writing.{IsInForm, IsRanged, name_of, block_of, if_fits}
use Rattle.fx_dir.specs.Moves.{written as moved, inserted, as_new, insert_writes, insertion, insertion_on, packed_as, on_entries, Inserts}
use Rattle.fx_dir.proofs.Meeting.{Sound}
use Rattle.fx_dir.proofs.Seeing.{inserted-each, plain-as_new, has-as_new, as_new-form, as_new-ranged}
use Rattle.fx_dir.proofs.Groups.{rises-inserted}
use Rattle.fx_dir.proofs.Inserting.{inserts}
use Rattle.plain_cat.specs.declared.cat.Cat.{Cat}
use Rattle.plain_cat.specs.declared.cat.File.{File}
use Rattle.plain_cat.specs.declared.entries.DirEnt.{DirEnt}
use Rattle.plain_rules.specs.Lookups.{file_at, versions}
use Rattle.plain_rules.specs.Directories.{inserted as listed, is_taken, fits}
use Rattle.plain_rules.specs.Changes.{with_entries}
use Rattle.plain_rules.specs.Mending.{lost_name, lost_entry, with_lost_entry, enter}
use Rattle.vol_parts.specs.declared.geometry.Geometry.{Geometry}
use Rattle.vol_parts.specs.Catalogues.{plain_entry}
use Rattle.vol_spell.specs.Reading.{IsFileNumber}
use Rattle.vol_spell.proofs.Packing.{packing_fits}
use Rattle.vol_mends.specs.Going.{Change}
use Rattle.vol_mends.proofs.AcceptedSteps.{told_shut}
use Rattle.vol_spell.specs.Entries.{blocks_of, raw_entry, CanBeEntered, Enters}
use Rattle.vol_spell.proofs.EntryLists.{inserted_plain, not_there, none_over}
use Rattle.vol_spell.proofs.EntryAdds.{entry_enters}
use Rattle.vol_mends.specs.Moving.{HasDir, MovesLead, CanEnter, LostIsEntered}
use Rattle.vol_mends.proofs.Moved.{file_number, o, number, at, lists, sound, order, long, moved_lead}
use Rattle.vol_mends.proofs.LostEntry.{lost_named, next_is_new, seq_fits}

-- ---- the catalogue with the file entered

-- the file is entered where its entry has room
pub enter_is : (c : Cat) (n : ℕ) (d f : File) → file_at c 11 ≡ Some d → file_at c n ≡ Some f → enter c n ≡ option_map (with_entries c 11 d) (with_lost_entry c.factor d.entries n f.seq)
unfolding enter
enter_is c n d f at own =
    ap (λ o. option_and_then (λ (x : File). option_and_then (λ (y : File). option_map (with_entries c 11 x) (with_lost_entry c.factor x.entries n y.seq)) (file_at c n)) o) at
    ∙ ap (λ o. option_and_then (λ (y : File). option_map (with_entries c 11 d) (with_lost_entry c.factor d.entries n y.seq)) o) own

room_is : (factor : ℕ) (es : List DirEnt) (n seq : ℕ) → (lost_entry es n seq).ver ≤ 32767 → with_lost_entry factor es n seq ≡ cond (fits factor (listed (lost_entry es n seq) es)) (Some (listed (lost_entry es n seq) es)) None
unfolding with_lost_entry
room_is factor es n seq low =
    let e : DirEnt = lost_entry es n seq in
    ap (λ b. cond (b && fits factor (listed e es)) (Some (listed e es)) None) (le-leb e.ver 32767 low)

module _ (g : Geometry) (bs : List Block) (c : Cat) (n : ℕ) (d f : File) (can : CanEnter g bs c n d f) where
  abbrev e : DirEnt
  e = lost_entry d.entries n f.seq

  abbrev r : RawEnt
  r = raw_entry (lost_entry d.entries n f.seq)

  abbrev h : HasDir g bs c 11 d
  h = can.lost

  abbrev old : List Block
  old = blocks_of g bs 11

  abbrev fs : List RawEnt
  fs = (at g bs c 11 d h).entries

  abbrev new : RawEnt
  new = as_new fs r

  own_number : IsFileNumber g n
  own_number = file_number g bs (o g bs c 11 d h).own c (o g bs c 11 d h).spells n f can.file

  small : n ≤ 16777215
  small = let to = own_number.to in let files = (o g bs c 11 d h).spells.counts.geometry.files_to in omega (arith, to, files)

  seq : f.seq < 2 ^ 16
  seq = seq_fits g bs (o g bs c 11 d h).own c (o g bs c 11 d h).spells n f own_number can.file

  opens : length c.opens ≡ 64
  opens = ap length (told_shut bs c h.told.cat)

  pub form : IsInForm r
  form = record { named = lost_named n; from_one = omega arith; to_last = can.version; numbered = small }

  untaken : is_taken e.ver (versions e.name d.entries) ≡ false
  untaken = next_is_new g bs (o g bs c 11 d h).own c (o g bs c 11 d h).spells opens 11 d h.file (lost_name n)

  absent : has fs r ≡ false
  absent = not_there r fs (ap (λ es. is_taken e.ver (versions e.name es)) (sym (lists g bs c 11 d h)) ∙ untaken)

  factor_is : c.factor ≡ g.cluster
  factor_is = (o g bs c 11 d h).spells.constants.factor

  -- whether there is room, on the blocks
  all_listed : map plain_entry (inserted new fs) ≡ listed e d.entries
  all_listed =
      let same : plain_entry new ≡ e = ap plain_entry (plain-as_new fs r) in
      inserted_plain new fs ∙ (let back = sym (lists g bs c 11 d h) in λ i. listed (same i) (back i))

  has_moves : insertion old r ≡ if_fits (over name_of (length old) (inserted new fs)) (insert_writes old (pack name_of (length old) fs) new (pack name_of (length old) (inserted new fs)))
  has_moves = ap (insertion_on old r) (at g bs c 11 d h).read

  some_fits : {X Y : Type 0} (left : List RawEnt) (x : X) (y : Y) → is_some (if_fits left x) ≡ is_some (if_fits left y)
  some_fits [] x y = refl
  some_fits (z ∷ left) x y = refl

  fits_same : is_some (insertion old r) ≡ fits c.factor (listed e d.entries)
  fits_same =
      ap is_some has_moves
      ∙ (some_fits (over name_of (length old) (inserted new fs)) _ (map block_of (pack name_of (length old) (inserted new fs)))
      ∙ (packing_fits (length old) (inserted new fs) ∙ (let k = (at g bs c 11 d h).count ∙ sym factor_is in λ i. fits (k i) (all_listed i))))

  entering : enter c n ≡ option_map (with_entries c 11 d) (cond (fits c.factor (listed e d.entries)) (Some (listed e d.entries)) None)
  entering = enter_is c n d f h.file can.file ∙ ap (option_map (with_entries c 11 d)) (room_is c.factor d.entries n f.seq can.version)

  some_room : (b : Bool) (es : List DirEnt) → b ≡ is_some (option_map (with_entries c 11 d) (cond b (Some es) None))
  some_room true es = refl
  some_room false es = refl

  pub room : is_some (insertion old r) ≡ is_some (enter c n)
  room = fits_same ∙ (some_room (fits c.factor (listed e d.entries)) (listed e d.entries) ∙ ap is_some (sym entering))

  -- where it is entered
  module _ (y : Cat) (entered : enter c n ≡ Some y) where
    by_room : (b : Bool) (es : List DirEnt) → option_map (with_entries c 11 d) (cond b (Some es) None) ≡ Some y → (b ≡ true) × (with_entries c 11 d es ≡ y)
    by_room true es k = (refl, cc k)
    by_room false es k = absurd (cc k)

    fitting : (fits c.factor (listed e d.entries) ≡ true) × (with_entries c 11 d (listed e d.entries) ≡ y)
    fitting = by_room (fits c.factor (listed e d.entries)) (listed e d.entries) (sym entering ∙ entered)

    can_be : CanBeEntered g c 11 d e
    can_be = record {
      number = number g bs c 11 d h;
      file = h.file;
      dir = h.dir;
      name = lost_named n;
      ver_from = omega arith;
      ver_to = can.version;
      num = small;
      seq = seq;
      new = untaken;
      room = ap (λ k. fits k (listed e d.entries)) (sym factor_is) ∙ fitting.0;
    }

    enters : Enters g bs 11 d e
    enters = entry_enters g bs (o g bs c 11 d h).own c 11 d e (o g bs c 11 d h).spells can_be

    none_left : over name_of (length old) (inserted new fs) ≡ []
    none_left = none_over (length old) (inserted new fs) ((let k = (at g bs c 11 d h).count ∙ sym factor_is in λ i. fits (k i) (all_listed i)) ∙ fitting.0)

    all_sound : Sound (inserted new fs)
    all_sound =
        let s = sound g bs c 11 d h in
        record {
          form = inserted-each IsInForm new fs (as_new-form fs r form) s.form;
          ranged = inserted-each IsRanged new fs (as_new-ranged fs r seq s.ranged) s.ranged;
        }

    all_rise : rises (inserted new fs) ≡ true
    all_rise = rises-inserted new fs (has-as_new fs fs r ∙ absent) (order g bs c 11 d h)

    abbrev writes : List Move
    writes = insert_writes old (pack name_of (length old) fs) new (pack name_of (length old) (inserted new fs))

    law : Inserts old r writes
    law = inserts old fs r writes (long g bs c 11 d h) (at g bs c 11 d h).read absent none_left (sound g bs c 11 d h) all_sound refl

    moves_are : insertion old r ≡ Some writes
    moves_are = has_moves ∙ ap (λ left. if_fits left writes) none_left

    packed : (ms : List Move) → insertion old r ≡ Some ms → moved ms old ≡ map block_of (pack name_of (length old) (inserted new fs))
    packed ms is =
        let both : Some ms ≡ Some writes = sym is ∙ moves_are in
        let same : ms ≡ writes = cc both in
        ap (λ (xs : List Move). moved xs old) same ∙ (law.whole ∙ ap (λ q. packed_as old (on_entries (λ es. inserted (as_new es r) es) q)) (at g bs c 11 d h).read)

    enters_decide : (ms : List Move) → insertion old r ≡ Some ms → length ms - 1 < length ms
    enters_decide ms is =
        let both : Some enters.moves ≡ Some ms = sym enters.inserted_by ∙ is in
        let same : enters.moves ≡ ms = cc both in
        subst (λ (xs : List Move). length xs - 1 < length xs) same enters.lead.decides

    enters_lead : (ms : List Move) → insertion old r ≡ Some ms → Change c y → MovesLead g bs c y 11 (length ms - 1) ms
    enters_lead ms is change =
        let both : Some enters.moves ≡ Some ms = sym enters.inserted_by ∙ is in
        let same : enters.moves ≡ ms = cc both in
        subst (λ (xs : List Move). MovesLead g bs c y 11 (length xs - 1) xs) same
        (moved_lead g bs c 11 d h y enters.old enters.new (length enters.moves - 1) enters.moves enters.lead change (ap (with_entries c 11 d) enters.entries ∙ fitting.1)
        (length old) (inserted new fs) all_sound all_rise (packed enters.moves enters.inserted_by))

pub lost_is_entered : LostIsEntered
lost_is_entered = record {
  form = form;
  new = λ g bs c n d f es can read.
      let both : Ok es ≡ Ok (fs g bs c n d f can) = sym read ∙ (at g bs c 11 d can.lost).read in
      let same : es ≡ fs g bs c n d f can = cc both in
      ap (λ (xs : List RawEnt). has xs (raw_entry (lost_entry d.entries n f.seq))) same ∙ absent g bs c n d f can;
  room = room;
  leads = λ g bs c y n d f ms can is entered change. enters_lead g bs c n d f can y entered ms is change;
  decides = λ g bs c y n d f ms can is entered. enters_decide g bs c n d f can y entered ms is;
}
