-- The outcome of a RENAME: the refusals in their order, and what it leaves; and the stage on the way, where both names stand.
use Rattle.std.proofs.Common.{◌≡◌, ◌∙◌, ℕ, true, false, cond, List, Option, Some, None, refl, ap}
use Rattle.std.specs.Prelude.{nat_le, option_and_then}
use Rattle.plain_cat.specs.declared.ids.Fid.{Fid}
use Rattle.plain_cat.specs.declared.entries.DirEnt.{DirEnt}
use Rattle.plain_cat.specs.declared.command.Cmd.{Cmd}
use Rattle.plain_cat.specs.declared.command.Cmd.TheVariants as cmd
use Rattle.plain_cat.specs.declared.history.Stage.{Stage}
use Rattle.plain_cat.specs.declared.history.Stage.TheVariants as stage
use Rattle.plain_cat.specs.declared.reply.Reply.TheVariants as reply
use Rattle.plain_cat.specs.declared.reply.Refusal.{Refusal}
use Rattle.plain_cat.specs.declared.reply.Refusal.TheVariants as refusal
use Rattle.plain_cat.specs.declared.cat.Cat.{Cat}
use Rattle.plain_cat.specs.declared.cat.File.{File}
use Rattle.plain_rules.specs.declared.outcome.Outcome.{Outcome}
use Rattle.plain_rules.specs.Lookups.{live, versions, entry_of}
use Rattle.plain_rules.specs.Directories.{inserted, without, entry, new_version}
use Rattle.plain_rules.specs.Changes.{with_entries}
use Rattle.plain_rules.specs.Answers.{refused, first_refusal, unless, in_directory_file, with_entry, rename_refusal, renamed, rename_outcome, outcome, Answer}
use Rattle.plain_rules.specs.Stages.{renaming_stage, rename_stage, command_stage, stage_of, staged}
use Rattle.plain_rules.proofs.LawSteps.{pick_exists}
use Rattle.vol_parts.specs.declared.geometry.Geometry.{Geometry}
use Rattle.vol_under.specs.UnderWay.{StandsAt}
use Rattle.op_law.specs.Moving.{is_full, rename_refusals}
use Rattle.vol_parts.proofs.Factors.{with_factor}

module _ (g : Geometry) (c : Cat) (factor : c.factor ≡ g.cluster) (node : ℕ) (dir : Fid) (name : List ℕ) (ver : ℕ) (to : List ℕ) (to_ver : ℕ) where
  abbrev x : Cmd
  x = cmd.Rename dir name ver to to_ver

  -- the entry with its new name and version, among these entries
  abbrev pub new_in : List DirEnt → DirEnt → DirEnt
  new_in es e = entry to (new_version to_ver (versions to es)) e.fid

  -- the catalogue with both, and the one with the new name alone
  abbrev pub both_for : File → DirEnt → Cat
  both_for d e = with_entries c dir.num d (inserted (new_in d.entries e) d.entries)

  abbrev pub after_for : File → DirEnt → Cat
  after_for d e = with_entries c dir.num d (inserted (new_in d.entries e) (without e.name e.ver d.entries))

  abbrev renamed_in : File → DirEnt → Outcome
  renamed_in d e = renamed c dir.num d e to (new_version to_ver (versions to d.entries))

  abbrev with_the_entry : File → DirEnt → Outcome
  with_the_entry d e = unless c (rename_refusal c d to to_ver) (renamed_in d e)

  abbrev in_dir : File → Outcome
  in_dir d = with_entry c (entry_of (versions name d.entries) ver) (with_the_entry d)

  outcome_is : (new : Option ℕ) → outcome c node x new ≡ in_directory_file c (live c dir) in_dir
  unfolding outcome rename_outcome
  outcome_is new = refl

  -- the answer is this refusal
  abbrev pub Refuses : Refusal → Type 0
  Refuses r = Answer c node x (reply.Refused r) c

  refuses_by : (r : Refusal) → ((new : Option ℕ) → outcome c node x new ≡ refused c r) → Refuses r
  refuses_by r e = let p = pick_exists c in (p.0, p.1, e p.0)

  pub refuses_none : live c dir ≡ None → Refuses refusal.NoSuchFile
  refuses_none e = refuses_by refusal.NoSuchFile (λ new. outcome_is new ∙ ap (λ o. in_directory_file c o in_dir) e)

  pub refuses_plain : (d : File) → live c dir ≡ Some d → d.dir ≡ false → Refuses refusal.NotDir
  refuses_plain d e plain = refuses_by refusal.NotDir (λ new. outcome_is new ∙ ap (λ o. in_directory_file c o in_dir) e ∙ ap (λ t. cond t (in_dir d) (refused c refusal.NotDir)) plain)

  module _ (d : File) (lives : live c dir ≡ Some d) (is_dir : d.dir ≡ true) where
    comes_to : (new : Option ℕ) (o : Option DirEnt) → entry_of (versions name d.entries) ver ≡ o → outcome c node x new ≡ with_entry c o (with_the_entry d)
    comes_to new o found =
        outcome_is new ∙ ap (λ o. in_directory_file c o in_dir) lives ∙ ap (λ t. cond t (in_dir d) (refused c refusal.NotDir)) is_dir
        ∙ ap (λ o. with_entry c o (with_the_entry d)) found

    pub refuses_missing : entry_of (versions name d.entries) ver ≡ None → Refuses refusal.NoSuchFile
    refuses_missing found = refuses_by refusal.NoSuchFile (λ new. comes_to new None found)

    module _ (e : DirEnt) (found : entry_of (versions name d.entries) ver ≡ Some e) where
      pub refuses_kept : nat_le e.fid.num 11 ≡ true → Refuses refusal.NoPriv
      refuses_kept kept = refuses_by refusal.NoPriv (λ new. comes_to new (Some e) found ∙ ap (λ t. cond t (refused c refusal.NoPriv) (with_the_entry d e)) kept)

      module _ (free : nat_le e.fid.num 11 ≡ false) where
        -- the refusals by the geometry
        judged_as : rename_refusal c d to to_ver ≡ first_refusal (rename_refusals g d.entries to to_ver)
        unfolding rename_refusal is_full
        judged_as = ap (λ w. first_refusal (rename_refusals (with_factor g w) d.entries to to_ver)) factor

        judged_to : (new : Option ℕ) (o : Option Refusal) → first_refusal (rename_refusals g d.entries to to_ver) ≡ o → outcome c node x new ≡ unless c o (renamed_in d e)
        judged_to new o order =
            comes_to new (Some e) found ∙ ap (λ t. cond t (refused c refusal.NoPriv) (with_the_entry d e)) free
            ∙ ap (λ o. unless c o (renamed_in d e)) (judged_as ∙ order)

        pub refuses_shown : (r : Refusal) → first_refusal (rename_refusals g d.entries to to_ver) ≡ Some r → Refuses r
        refuses_shown r order = refuses_by r (λ new. judged_to new (Some r) order)

        module _ (order : first_refusal (rename_refusals g d.entries to to_ver) ≡ None) where
          renames : (new : Option ℕ) → outcome c node x new ≡ renamed_in d e
          renames new = judged_to new None order

          pub renames_answer : Answer c node x (reply.Renamed to (new_version to_ver (versions to d.entries))) (after_for d e)
          renames_answer = let p = pick_exists c in (p.0, p.1, renames p.0)

          -- the stages of the command
          stage_told : (new : Option ℕ) (st : Stage) → stage_of c node x new (outcome c node x new) st ≡ renaming_stage c dir.num d e to (new_version to_ver (versions to d.entries)) (renamed_in d e) st
          unfolding command_stage rename_stage
          stage_told new st =
              ap (λ o. stage_of c node x new o st) (renames new)
              ∙ ap (λ f. option_and_then (λ (d' : File). option_and_then (λ (e' : DirEnt). renaming_stage c dir.num d' e' to (new_version to_ver (versions to d'.entries)) (renamed_in d e) st)
              (entry_of (versions name d'.entries) ver)) f) lives
              ∙ ap (λ f. option_and_then (λ (e' : DirEnt). renaming_stage c dir.num d e' to (new_version to_ver (versions to d.entries)) (renamed_in d e) st) f) found

          pub stands_both : StandsAt c node (Some x) stage.Both (both_for d e)
          unfolding staged
          stands_both = let p = pick_exists c in (p.0, p.1, stage_told p.0 stage.Both)

          pub stands_done : StandsAt c node (Some x) stage.Done (after_for d e)
          unfolding staged
          stands_done = let p = pick_exists c in (p.0, p.1, stage_told p.0 stage.Done)
