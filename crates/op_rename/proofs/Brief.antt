-- The events of a RENAME, and how much it needs and writes.
use Rattle.std.proofs.Common.{◌≡◌, ◌≤◌, ℕ, Bool, true, false, cond, List, Option, Some, None, length, refl, sym, subst, arith, length-append}
use Rattle.std.specs.Prelude.{nat_le}
use Rattle.base_words.specs.Fields.{Block}
use Rattle.fx_dir.proofs.Changing.{length-written}
use Rattle.plain_cat.specs.declared.ids.Fid.{Fid}
use Rattle.plain_cat.specs.declared.mode.Mode.TheVariants.{PW}
use Rattle.plain_cat.specs.declared.entries.DirEnt.{DirEnt}
use Rattle.plain_cat.specs.declared.command.Cmd.TheVariants as cmd
use Rattle.plain_cat.specs.declared.history.Stage.TheVariants as stage
use Rattle.plain_cat.specs.declared.reply.Refusal.TheVariants as refusal
use Rattle.plain_cat.specs.declared.cat.Cat.{Cat}
use Rattle.plain_rules.specs.Lookups.{versions, entry_of}
use Rattle.plain_rules.specs.Directories.{entry, new_version}
use Rattle.plain_rules.specs.Answers.{first_refusal}
use Rattle.vol_spell.specs.Owners.{Owners}
use Rattle.vol_parts.specs.declared.geometry.Geometry.{Geometry}
use Rattle.vol_spell.specs.Reading.{header_block}
use Rattle.vol_spell.specs.Spelling.{Spells}
use Rattle.op_law.specs.declared.seen.Chan.{Chan}
use Rattle.op_law.specs.Events.{Events, Space, space_of}
use Rattle.op_law.specs.Needs.{events_of}
use Rattle.op_law.specs.Bounds.{most_locks, most_looks}
use Rattle.op_law.specs.Rows.{refuses}
use Rattle.op_law.specs.Refusing.{unless_refused, if_entry}
use Rattle.op_law.specs.Moving.{SeenDir, entries_of, through_names, insertion_moves, insertion_writes, removal_writes, with_new, rename_refusals, rename_writes, renamed_as, rename_events}
use Rattle.op_law.proofs.Brief.{BriefBy, Briefs}
use Rattle.op_law.proofs.Counting.{unless_brief, directory_brief, insertion_few, removal_few}
use Rattle.op_rename.specs.Kinds.{rename_in}

pub rename_events_are : (dir : Fid) (name : List ℕ) (ver : ℕ) (to : List ℕ) (to_ver : ℕ) (g : Geometry) (channel : Option Chan)
    → events_of g channel (cmd.Rename dir name ver to to_ver) ≡ through_names g dir (rename_in g name ver to to_ver)
unfolding events_of rename_events
rename_events_are dir name ver to to_ver g channel = refl

-- an insertion and a removal
rename_few : (d : SeenDir) (e new : DirEnt) → length d.blocks ≤ 16 → length (rename_writes d e new) ≤ 120
unfolding rename_writes
rename_few d e new few =
    let first = insertion_writes d new stage.Nothing stage.Both in
    let behind = removal_writes (with_new d new) e stage.Both stage.Done in
    let a = length-append first behind in
    let same = length-written (insertion_moves d new) d.blocks in
    omega (arith, insertion_few d new stage.Nothing stage.Both few, removal_few (with_new d new) e stage.Both stage.Done (omega arith))

module _ (name : List ℕ) (ver : ℕ) (to : List ℕ) (to_ver : ℕ) (g : Geometry) (bs : List Block) (space : Space) where
  abbrev Within : Events → ℕ → ℕ → Type 0
  Within es locks looks = BriefBy bs space 120 es locks looks

  in_brief : (d : SeenDir) → length d.blocks ≤ 16 → Within (rename_in g name ver to to_ver d) 18 53
  in_brief d few = by_entry (entry_of (versions name (entries_of d)) ver) where
    judged : DirEnt → Events
    judged e = unless_refused (first_refusal (rename_refusals g (entries_of d) to to_ver)) (renamed_as d e to (new_version to_ver (versions to (entries_of d))))

    by_file : (e : DirEnt) (t : Bool) → Within (cond t (refuses refusal.NoPriv) (judged e)) 18 53
    by_file e true = omega arith
    by_file e false =
        unless_brief bs space 120 (first_refusal (rename_refusals g (entries_of d) to to_ver)) (renamed_as d e to (new_version to_ver (versions to (entries_of d)))) 18 53
        (λ order. rename_few d e (entry to (new_version to_ver (versions to (entries_of d))) e.fid) few)

    by_entry : (o : Option DirEnt) → Within (if_entry o judged) 18 53
    by_entry None = omega arith
    by_entry (Some e) = by_file e (nat_le e.fid.num 11)

  names_brief : (own : Owners) (c : Cat) → Spells g bs own c → (dir : Fid) → Within (through_names g dir (rename_in g name ver to to_ver)) 19 70
  names_brief own c s dir = directory_brief bs space 120 g own c s dir PW 19 70 (omega arith) _ (omega arith)
      (λ blocks few. in_brief (record { fid = dir; head = header_block g bs dir.num; blocks = blocks }) few)

pub rename_brief : (dir : Fid) (name : List ℕ) (ver : ℕ) (to : List ℕ) (to_ver : ℕ) → Briefs (cmd.Rename dir name ver to to_ver)
rename_brief dir name ver to to_ver node seen bs own c on =
    let g = seen.geometry in
    subst (λ es. BriefBy bs (space_of seen) 120 es most_locks most_looks) (sym (rename_events_are dir name ver to to_ver g seen.channel))
    (names_brief name ver to to_ver g bs (space_of seen) own c on.spelt dir)
