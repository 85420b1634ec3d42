-- The outcome of a DELETE: the refusals in their order, and what it leaves; and its stages.
use Rattle.std.proofs.Common.{◌≡◌, ◌∙◌, ℕ, Bool, true, false, cond, List, Option, Some, None, refl, ap}
use Rattle.std.specs.Prelude.{not, nat_le, option_and_then}
use Rattle.plain_cat.specs.declared.ids.Fid.{Fid}
use Rattle.plain_cat.specs.declared.entries.DirEnt.{DirEnt}
use Rattle.plain_cat.specs.declared.command.Cmd.{Cmd}
use Rattle.plain_cat.specs.declared.command.Cmd.TheVariants as cmd
use Rattle.plain_cat.specs.declared.history.Stage.{Stage}
use Rattle.plain_cat.specs.declared.history.Stage.TheVariants as stage
use Rattle.plain_cat.specs.declared.reply.Reply.{Reply}
use Rattle.plain_cat.specs.declared.reply.Reply.TheVariants as reply
use Rattle.plain_cat.specs.declared.reply.Refusal.{Refusal}
use Rattle.plain_cat.specs.declared.reply.Refusal.TheVariants as refusal
use Rattle.plain_cat.specs.declared.cat.Cat.{Cat}
use Rattle.plain_cat.specs.declared.cat.File.{File}
use Rattle.plain_rules.specs.declared.outcome.Outcome.{Outcome}
use Rattle.plain_rules.specs.Lookups.{in_use, live, versions, entry_of, is_open}
use Rattle.plain_rules.specs.Changes.{with_file, freed}
use Rattle.plain_rules.specs.Answers.{told, refused, in_directory_file, with_entry, has_entries, unnamed, less_entry, removed, delete_outcome, outcome, Answer}
use Rattle.plain_rules.specs.Stages.{only_if, entry_stage, unnaming_stage, delete_stage, command_stage, stage_of, staged}
use Rattle.plain_rules.proofs.LawSteps.{pick_exists}
use Rattle.vol_under.specs.UnderWay.{StandsAt}

module _ (c : Cat) (node : ℕ) (dir : Fid) (name : List ℕ) (ver : ℕ) where
  abbrev x : Cmd
  x = cmd.Delete dir name ver

  -- the catalogue without the entry; with its file marked besides; and with the file's slot free
  abbrev pub less : File → DirEnt → Cat
  less d e = less_entry c dir.num d e

  abbrev pub unlinked : File → DirEnt → File → Cat
  unlinked d e f = with_file (less d e) e.fid.num (record f { marked = true })

  abbrev pub without_file : File → DirEnt → File → Cat
  without_file d e f = freed (less d e) e.fid.num f

  abbrev pub gone : File → DirEnt → File → Cat
  gone d e f = removed (less d e) e.fid.num f

  abbrev with_the_entry : File → DirEnt → Outcome
  with_the_entry d e = cond (has_entries (in_use c e.fid)) (refused c refusal.DirNotEmpty) (unnamed (less d e) e.fid.num (in_use c e.fid))

  abbrev in_dir : File → Outcome
  in_dir d = with_entry c (entry_of (versions name d.entries) ver) (with_the_entry d)

  outcome_is : (new : Option ℕ) → outcome c node x new ≡ in_directory_file c (live c dir) in_dir
  unfolding outcome delete_outcome
  outcome_is new = refl

  -- the answer is this refusal
  abbrev pub Refuses : Refusal → Type 0
  Refuses r = Answer c node x (reply.Refused r) c

  answers_by : (r : Reply) (d : Cat) → ((new : Option ℕ) → outcome c node x new ≡ record { reply = r; after = d }) → Answer c node x r d
  answers_by r d e = let p = pick_exists c in (p.0, p.1, e p.0)

  pub refuses_none : live c dir ≡ None → Refuses refusal.NoSuchFile
  refuses_none e = answers_by (reply.Refused refusal.NoSuchFile) c (λ new. outcome_is new ∙ ap (λ o. in_directory_file c o in_dir) e)

  pub refuses_plain : (d : File) → live c dir ≡ Some d → d.dir ≡ false → Refuses refusal.NotDir
  refuses_plain d e plain =
      answers_by (reply.Refused refusal.NotDir) c (λ new. outcome_is new ∙ ap (λ o. in_directory_file c o in_dir) e ∙ ap (λ t. cond t (in_dir d) (refused c refusal.NotDir)) plain)

  module _ (d : File) (lives : live c dir ≡ Some d) (is_dir : d.dir ≡ true) where
    comes_to : (new : Option ℕ) (o : Option DirEnt) → entry_of (versions name d.entries) ver ≡ o → outcome c node x new ≡ with_entry c o (with_the_entry d)
    comes_to new o found =
        outcome_is new ∙ ap (λ o. in_directory_file c o in_dir) lives ∙ ap (λ t. cond t (in_dir d) (refused c refusal.NotDir)) is_dir
        ∙ ap (λ o. with_entry c o (with_the_entry d)) found

    pub refuses_missing : entry_of (versions name d.entries) ver ≡ None → Refuses refusal.NoSuchFile
    refuses_missing found = answers_by (reply.Refused refusal.NoSuchFile) c (λ new. comes_to new None found)

    module _ (e : DirEnt) (found : entry_of (versions name d.entries) ver ≡ Some e) where
      pub refuses_kept : nat_le e.fid.num 11 ≡ true → Refuses refusal.NoPriv
      refuses_kept kept = answers_by (reply.Refused refusal.NoPriv) c (λ new. comes_to new (Some e) found ∙ ap (λ t. cond t (refused c refusal.NoPriv) (with_the_entry d e)) kept)

      module _ (free : nat_le e.fid.num 11 ≡ false) where
        named_so : (new : Option ℕ) (o : Option File) → in_use c e.fid ≡ o → outcome c node x new ≡ cond (has_entries o) (refused c refusal.DirNotEmpty) (unnamed (less d e) e.fid.num o)
        named_so new o uses =
            comes_to new (Some e) found ∙ ap (λ t. cond t (refused c refusal.NoPriv) (with_the_entry d e)) free
            ∙ ap (λ o. cond (has_entries o) (refused c refusal.DirNotEmpty) (unnamed (less d e) e.fid.num o)) uses

        pub refuses_full : (f : File) → in_use c e.fid ≡ Some f → has_entries (Some f) ≡ true → Refuses refusal.DirNotEmpty
        refuses_full f uses full =
            answers_by (reply.Refused refusal.DirNotEmpty) c (λ new. named_so new (Some f) uses ∙ ap (λ t. cond t (refused c refusal.DirNotEmpty) (unnamed (less d e) e.fid.num (Some f))) full)

        -- the stages of the command, where the file is this one or none
        command_told : (new : Option ℕ) (o : Outcome) (st : Stage) (u : Option File) → in_use c e.fid ≡ u → command_stage c node x new o st ≡ entry_stage c dir.num d e u o st
        unfolding command_stage delete_stage
        command_told new o st u uses =
            ap (λ f. option_and_then (λ (d' : File). option_and_then (λ (e' : DirEnt). entry_stage c dir.num d' e' (in_use c e'.fid) o st) (entry_of (versions name d'.entries) ver)) f) lives
            ∙ ap (λ f. option_and_then (λ (e' : DirEnt). entry_stage c dir.num d e' (in_use c e'.fid) o st) f) found
            ∙ ap (λ v. entry_stage c dir.num d e v o st) uses

        -- ---- no file

        module _ (none : in_use c e.fid ≡ None) where
          lone : (new : Option ℕ) → outcome c node x new ≡ told (less d e) reply.EntryRemoved
          lone new = named_so new None none

          pub removes_answer : Answer c node x reply.EntryRemoved (less d e)
          removes_answer = answers_by reply.EntryRemoved (less d e) lone

          pub stands_removed : StandsAt c node (Some x) stage.Done (less d e)
          unfolding staged
          stands_removed =
              let p = pick_exists c in
              (p.0, p.1, ap (λ o. stage_of c node x p.0 o stage.Done) (lone p.0) ∙ command_told p.0 (told (less d e) reply.EntryRemoved) stage.Done None none)

        -- ---- a file, which is no directory with entries

        module _ (f : File) (uses : in_use c e.fid ≡ Some f) (bare : has_entries (Some f) ≡ false) where
          comes : (new : Option ℕ) (t : Bool) → is_open c e.fid.num ≡ t
              → outcome c node x new ≡ cond t (told (unlinked d e f) reply.Marked) (told (gone d e f) reply.Deleted)
          comes new t opened =
              named_so new (Some f) uses ∙ ap (λ b. cond b (refused c refusal.DirNotEmpty) (unnamed (less d e) e.fid.num (Some f))) bare
              ∙ ap (λ b. cond b (told (unlinked d e f) reply.Marked) (told (gone d e f) reply.Deleted)) opened

          pub marks_answer : is_open c e.fid.num ≡ true → Answer c node x reply.Marked (unlinked d e f)
          marks_answer opened = answers_by reply.Marked (unlinked d e f) (λ new. comes new true opened)

          pub deletes_answer : is_open c e.fid.num ≡ false → Answer c node x reply.Deleted (gone d e f)
          deletes_answer shut = answers_by reply.Deleted (gone d e f) (λ new. comes new false shut)

          -- the stage of the outcome, whichever it is
          open_stage : (new : Option ℕ) (st : Stage) → is_open c e.fid.num ≡ true → stage_of c node x new (outcome c node x new) st ≡ unnaming_stage c dir.num d e f (told (unlinked d e f) reply.Marked) st
          open_stage new st opened = ap (λ o. stage_of c node x new o st) (comes new true opened) ∙ command_told new (told (unlinked d e f) reply.Marked) st (Some f) uses

          shut_stage : (new : Option ℕ) (st : Stage) → is_open c e.fid.num ≡ false → stage_of c node x new (outcome c node x new) st ≡ unnaming_stage c dir.num d e f (told (gone d e f) reply.Deleted) st
          shut_stage new st shut = ap (λ o. stage_of c node x new o st) (comes new false shut) ∙ command_told new (told (gone d e f) reply.Deleted) st (Some f) uses

          pub stands_marked : f.marked ≡ false → StandsAt c node (Some x) stage.Marked (with_file c e.fid.num (record f { marked = true }))
          unfolding staged
          stands_marked live = by_open (is_open c e.fid.num) refl where
            at : Option Cat → Type 0
            at o = o ≡ Some (with_file c e.fid.num (record f { marked = true }))

            last : at (only_if (not f.marked) (with_file c e.fid.num (record f { marked = true })))
            last = ap (λ t. only_if (not t) (with_file c e.fid.num (record f { marked = true }))) live

            by_open : (t : Bool) → is_open c e.fid.num ≡ t → StandsAt c node (Some x) stage.Marked (with_file c e.fid.num (record f { marked = true }))
            by_open true opened = let p = pick_exists c in (p.0, p.1, open_stage p.0 stage.Marked opened ∙ last)
            by_open false shut = let p = pick_exists c in (p.0, p.1, shut_stage p.0 stage.Marked shut ∙ last)

          pub stands_unlinked : StandsAt c node (Some x) stage.Unlinked (unlinked d e f)
          unfolding staged
          stands_unlinked = by_open (is_open c e.fid.num) refl where
            by_open : (t : Bool) → is_open c e.fid.num ≡ t → StandsAt c node (Some x) stage.Unlinked (unlinked d e f)
            by_open true opened = let p = pick_exists c in (p.0, p.1, open_stage p.0 stage.Unlinked opened)
            by_open false shut = let p = pick_exists c in (p.0, p.1, shut_stage p.0 stage.Unlinked shut)

          module _ (shut : is_open c e.fid.num ≡ false) where
            pub stands_freed : StandsAt c node (Some x) stage.Freed (without_file d e f)
            unfolding staged
            stands_freed = let p = pick_exists c in (p.0, p.1, shut_stage p.0 stage.Freed shut ∙ ap (λ t. only_if (not t) (without_file d e f)) shut)

            pub stands_gone : StandsAt c node (Some x) stage.Done (gone d e f)
            unfolding staged
            stands_gone = let p = pick_exists c in (p.0, p.1, shut_stage p.0 stage.Done shut ∙ ap (λ t. only_if (not t) (gone d e f)) shut)
