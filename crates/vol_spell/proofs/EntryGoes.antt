-- The moves that remove an entry from a directory.
use Rattle.std.proofs.Common.{◌≡◌, ◌∙◌, ◌<◌, true, List, [], Ok, length, map, ℕ, refl, sym, ap, subst, arith}
use Rattle.std.proofs.lemmas.Option.{slice_get-get_or}
use Rattle.base_words.specs.Fields.{Block}
use Rattle.fx_dir.specs.declared.RawEnt.{RawEnt}
use Rattle.fx_dir.specs.declared.Move.{Move}
use Rattle.fx_dir.specs.Entries.{has, plain, without as without_raw}
use Rattle.fx_dir.specs.Directory.{plainly, dir_entries}
use Rattle.fx_dir.specs.Moves.{removal, removal_of, removal_on, packing_writes, key, on_entries, Removes}
use Rattle.fx_dir.proofs.Based.{long-from}
use Rattle.fx_dir.proofs.Removing.{removes}
use Rattle.vol_parts.specs.Laws.{WriteWholeBlocks}
use Rattle.vol_parts.proofs.WholeRanges.{read-sound}
use Rattle.vol_parts.proofs.Moving.{whole_removal}
use Rattle.plain_cat.specs.declared.entries.DirEnt.{DirEnt}
use Rattle.plain_cat.specs.declared.cat.Cat.{Cat}
use Rattle.plain_cat.specs.declared.cat.File.{File}
use Rattle.plain_rules.specs.Lookups.{versions}
use Rattle.plain_rules.specs.Directories.{without, is_taken}
use Rattle.vol_spell.specs.Owners.{Owners}
use Rattle.vol_parts.specs.declared.geometry.Geometry.{Geometry}
use Rattle.vol_parts.specs.Catalogues.{plain_entry}
use Rattle.vol_spell.specs.Spelling.{Spells}
use Rattle.vol_spell.specs.Entries.{blocks_of, AreMovesTo, CanBeRemoved, EntryLeaves}
use Rattle.vol_spell.proofs.EntryLists.{map_plain}
use Rattle.vol_spell.proofs.EntryDirs.{IsDirAt, dir_at, dir_lists}
use Rattle.vol_spell.proofs.RemovalLists.{without_plain, is_there}

module _ (g : Geometry) (bs : List Block) (own : Owners) (x : Cat) (n : ℕ) (d : File) (e : DirEnt) (s : Spells g bs own x) (can : CanBeRemoved g x n d e) where
  abbrev at : IsDirAt g bs n d
  at = dir_at g bs own x s n can.number d can.file can.dir

  abbrev old : List Block
  old = blocks_of g bs n

  abbrev fs : List RawEnt
  fs = at.entries

  abbrev r : RawEnt
  r = key e.name e.ver

  -- the moves of the removal
  abbrev ms : List Move
  ms = removal_of old fs r

  lists : d.entries ≡ map plain_entry fs
  lists = dir_lists g bs n d at

  moves_are : removal old e.name e.ver ≡ ms
  moves_are = ap (removal_on old r) at.read

  present : has fs r ≡ true
  present = is_there e.name e.ver fs (ap (λ es. is_taken e.ver (versions e.name es)) (sym lists) ∙ can.there)

  law : Removes old r ms
  law = removes old fs r ms (long-from old (λ i lt. (at.whole i _ (slice_get-get_or old i [] lt)).long)) at.read present (read-sound old fs at.whole at.read) refl refl

  were : dir_entries old ≡ Ok (map plain fs)
  were = ap plainly at.read

  pub become : map plain_entry (without_raw r (map plain fs)) ≡ without e.name e.ver d.entries
  become = without_plain e.name e.ver (map plain fs) ∙ ap (without e.name e.ver) (map_plain fs ∙ sym lists)

  -- as many as pack the entries come first
  are_moves : AreMovesTo old (map plain fs) (without_raw r (map plain fs)) (packing_writes old) ms
  are_moves =
      let at_first : law.first ≡ packing_writes old = law.packing in
      let lt : law.first < length ms = law.decides in
      record {
        whole = subst (λ (ns : List Move). WriteWholeBlocks ns) moves_are (whole_removal old e.name e.ver at.whole);
        changes = law.changes;
        decides = omega arith;
        same = λ i le. law.before i (omega arith) ∙ were;
        other = λ i lt le. law.after i (omega arith) ∙ ap (on_entries (without_raw r)) were;
      }

pub entry_leaves : EntryLeaves
entry_leaves g bs own x n d e s can =
    let raw : List RawEnt = fs g bs own x n d e s can in
    record {
      old = map plain raw;
      new = without_raw (key e.name e.ver) (map plain raw);
      lead = subst (λ (ns : List Move). AreMovesTo (blocks_of g bs n) (map plain raw) (without_raw (key e.name e.ver) (map plain raw)) (packing_writes (blocks_of g bs n)) ns) (sym (moves_are g bs own x n d e s can)) (are_moves g bs own x n d e s can);
      entries = become g bs own x n d e s can;
    }
