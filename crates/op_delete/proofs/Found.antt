-- An entry that was found.
use Rattle.std.proofs.Common.{◌≡◌, ◌∙◌, ℕ, true, false, cond, List, Option, Some, ap, subst}
use Rattle.std.specs.Prelude.{nat_le}
use Rattle.std.specs.Result.{ForOk}
use Rattle.base_words.specs.Fields.{Block}
use Rattle.fx_dir.specs.Entries.{has}
use Rattle.fx_dir.specs.Directory.{directory}
use Rattle.fx_dir.specs.Moves.{key}
use Rattle.plain_cat.specs.declared.entries.DirEnt.{DirEnt}
use Rattle.plain_cat.specs.declared.reply.Refusal.TheVariants as refusal
use Rattle.plain_rules.specs.Lookups.{versions, entry_of}
use Rattle.plain_rules.specs.Directories.{is_taken}
use Rattle.vol_parts.specs.declared.geometry.Geometry.{Geometry}
use Rattle.vol_parts.specs.Catalogues.{plain_entries}
use Rattle.vol_spell.proofs.RemovalLists.{found_there, is_there}
use Rattle.op_law.specs.Moving.{SeenDir}
use Rattle.op_law.specs.Refusing.{if_entry}
use Rattle.op_law.specs.Removing.{delete_in}
use Rattle.op_law.specs.Rows.{refuses, entries_seen}

-- the directory's blocks have it
pub found_so : (bs : List Block) (name : List ℕ) (ver : ℕ) (e : DirEnt) → entry_of (versions name (entries_seen bs)) ver ≡ Some e → ForOk (directory bs) (λ es. has es (key e.name e.ver) ≡ true)
found_so bs name ver e found = λ es read. is_there e.name e.ver es (subst (λ r. is_taken e.ver (versions e.name (plain_entries r)) ≡ true) read (found_there name ver (entries_seen bs) e found))

-- what comes behind it, where it names no system file
pub behind_entry : (g : Geometry) (d : SeenDir) (o : Option DirEnt) (e : DirEnt) → o ≡ Some e → nat_le e.fid.num 11 ≡ false → if_entry o (delete_in g d) ≡ delete_in g d e
behind_entry g d o e is plain = ap (λ (x : Option DirEnt). if_entry x (delete_in g d)) is ∙ ap (λ t. cond t (refuses refusal.NoPriv) (delete_in g d e)) plain
