-- What the blocks of a directory tell of a name, and of the room for one more entry.
use Rattle.std.proofs.Common.{◌≡◌, ◌≤◌, ◌∙◌, ℕ, true, false, cond, List, [], ◌∷◌, Option, Some, None, Result, Ok, Err, option_map, map, not, refl, sym, ap, arith}
use Rattle.std.specs.Prelude.{◌==◌, is_some, IsOk}
use Rattle.std.specs.Result.{result_ok}
use Rattle.std.proofs.lemmas.Bool.Decides.{nat_tests}
use Rattle.base_words.specs.Fields.{Block}
use Rattle.base_words.specs.Packing.{pack, over}
use Rattle.fx_dir.specs.declared.RawEnt.{RawEnt}
use Rattle.fx_dir.specs.declared.DirFault.{DirFault}
use Rattle.fx_dir.specs.Directory.{directory}
use Rattle.fx_dir.specs.Moves.{inserted, key}
use Rattle.fx_dir.specs.Writing.{name_of, block_of, if_fits}
use Rattle.fx_dir.specs.Room.{is_none_left, has_room}
use Rattle.plain_cat.specs.declared.entries.DirEnt.{DirEnt}
use Rattle.plain_rules.specs.Lookups.{highest, first_with, entry_of}
use Rattle.plain_rules.specs.Directories.{is_nil, is_taken, fits, entry, nowhere, inserted as listed}
use Rattle.vol_parts.specs.declared.geometry.Geometry.{Geometry}
use Rattle.vol_parts.specs.Catalogues.{plain_entry, plain_entries}
use Rattle.vol_spell.proofs.EntryLists.{inserted_plain}
use Rattle.vol_spell.proofs.Packing.{packing_fits}
use Rattle.op_law.specs.Moving.{is_full}
use Rattle.op_law.specs.Readable.{version_told}
use Rattle.op_law.specs.Rows.{entries_seen}

-- ---- a name

some_told : (o : Option DirEnt) → is_some (option_map version_told o) ≡ is_some o
some_told None = refl
some_told (Some e) = refl

-- a version, from 1, is taken where it is found
pub taken_seen : (ver : ℕ) (vs : List DirEnt) → 1 ≤ ver → is_some (option_map version_told (entry_of vs ver)) ≡ is_taken ver vs
taken_seen ver vs from =
    let one : (ver == 0) ≡ false = grind (arith, nat_tests) in
    some_told (entry_of vs ver) ∙ ap (λ b. is_some (first_with (cond b (highest vs) ver) vs)) one

-- a name is there where its highest version is found
pub named_seen : (vs : List DirEnt) → is_some (option_map version_told (entry_of vs 0)) ≡ not (is_nil vs)
named_seen [] = refl
named_seen (x ∷ vs) =
    let same : (x.ver == x.ver) ≡ true = grind (arith, nat_tests) in
    ap (λ b. is_some (option_map version_told (cond b (Some x) (first_with x.ver vs)))) same

-- ---- room

none_alike : (left : List RawEnt) (blocks : List Block) → is_none_left left ≡ is_some (if_fits left blocks)
none_alike [] blocks = refl
none_alike (e ∷ es) blocks = refl

-- there is room where the catalogue's entries fit
room_alike : (k : ℕ) (e : RawEnt) (es : List RawEnt) → has_room k e es ≡ fits k (listed (plain_entry e) (map plain_entry es))
unfolding has_room
room_alike k e es =
    none_alike (over name_of k (inserted e es)) (map block_of (pack name_of k (inserted e es))) ∙ packing_fits k (inserted e es) ∙ ap (fits k) (inserted_plain e es)

told_by : (r : Result (List RawEnt) DirFault) (es : List RawEnt) → result_ok r ≡ Some es → map plain_entry es ≡ plain_entries r
told_by (Ok fs) es h = let e : fs ≡ es = cc in ap (map plain_entry) (sym e)
told_by (Err fault) es h = absurd (cc)

pub full_by : (g : Geometry) (bs : List Block) (es : List RawEnt) (name : List ℕ) (ver : ℕ) → result_ok (directory bs) ≡ Some es → not (has_room g.cluster (key name ver) es) ≡ is_full g (entries_seen bs) name ver
unfolding is_full
full_by g bs es name ver read =
    ap not (room_alike g.cluster (key name ver) es ∙ ap (λ l. fits g.cluster (listed (entry name ver nowhere) l)) (told_by (directory bs) es read))

-- blocks that are read without a fault have entries
pub ok_of : (r : Result (List RawEnt) DirFault) → IsOk r → (es : List RawEnt) × (r ≡ Ok es)
ok_of (Ok es) h = (es, refl)
ok_of (Err fault) h = absurd (cc)
