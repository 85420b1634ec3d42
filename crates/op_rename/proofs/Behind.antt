-- What the code of a RENAME looks at: an entry that was found.
use Rattle.std.proofs.Common.{◌≡◌, ◌≤◌, ℕ, List, [], ◌∷◌, Some, None, Result, Ok, Err, refl}
use Rattle.base_words.specs.Fields.{Block, AreWholeBlocks}
use Rattle.fx_dir.specs.declared.RawEnt.{RawEnt}
use Rattle.fx_dir.specs.declared.DirFault.{DirFault}
use Rattle.fx_dir.specs.Lists.{Each}
use Rattle.fx_dir.specs.Directory.{directory}
use Rattle.fx_dir.specs.Writing.{IsInForm}
use Rattle.vol_parts.proofs.WholeRanges.{read-sound}
use Rattle.plain_cat.specs.declared.entries.DirEnt.{DirEnt}
use Rattle.plain_rules.specs.Lookups.{versions, entry_of}
use Rattle.vol_parts.specs.Catalogues.{plain_entries}
use Rattle.op_law.specs.Rows.{entries_seen}
use Rattle.vol_spell.proofs.RemovalLists.{found_so}

-- its file number is within the limits of the format
pub found_number : (bs : List Block) (name : List ℕ) (ver : ℕ) (e : DirEnt) → AreWholeBlocks bs → entry_of (versions name (entries_seen bs)) ver ≡ Some e → e.fid.num ≤ 16777215
found_number bs name ver e whole found = by_read (directory bs) refl found where
  each : (es : List RawEnt) → Each IsInForm es → Each (λ y. y.num ≤ 16777215) es
  each [] h = tt
  each (y ∷ es) h = (h.0.numbered, each es h.1)

  by_read : (r : Result (List RawEnt) DirFault) → directory bs ≡ r → entry_of (versions name (plain_entries r)) ver ≡ Some e → e.fid.num ≤ 16777215
  by_read (Err fault) read h = absurd (let f : None ≡ Some e = h in cc)
  by_read (Ok es) read h = found_so (λ y. y.fid.num ≤ 16777215) name ver es e (each es (read-sound bs es whole read).form) h
