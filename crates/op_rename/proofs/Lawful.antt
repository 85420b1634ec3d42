-- RENAME obeys the law.
use Rattle.std.proofs.Common.{◌≡◌, ◌∙◌, inl, inr, ℕ, Bool, true, false, cond, List, [], ◌∷◌, Option, Some, None, map, refl, sym, ap, subst}
use Rattle.std.specs.Prelude.{nat_le}
use Rattle.base_words.specs.Fields.{Block}
use Rattle.fx_header.specs.declared.slot.Hdr.{Hdr}
use Rattle.lock_db.specs.declared.name.LockName.{LockName}
use Rattle.lock_db.specs.declared.name.LockName.TheVariants.{S}
use Rattle.plain_cat.specs.declared.ids.Fid.{Fid}
use Rattle.plain_cat.specs.declared.mode.Mode.{Mode}
use Rattle.plain_cat.specs.declared.mode.Mode.TheVariants.{PW}
use Rattle.plain_cat.specs.declared.entries.DirEnt.{DirEnt}
use Rattle.plain_cat.specs.declared.command.Cmd.{Cmd}
use Rattle.plain_cat.specs.declared.command.Cmd.TheVariants as cmd
use Rattle.plain_cat.specs.declared.history.Stage.TheVariants as stage
use Rattle.plain_cat.specs.declared.reply.Reply.TheVariants as reply
use Rattle.plain_cat.specs.declared.reply.Refusal.{Refusal}
use Rattle.plain_cat.specs.declared.reply.Refusal.TheVariants as refusal
use Rattle.plain_cat.specs.declared.cat.Cat.{Cat}
use Rattle.plain_cat.specs.declared.cat.File.{File}
use Rattle.plain_rules.specs.Lookups.{versions, entry_of}
use Rattle.plain_rules.specs.Directories.{entry, new_version}
use Rattle.plain_rules.specs.Answers.{first_refusal, Answer}
use Rattle.vol_spell.specs.Owners.{Owners, Things, nothing, Outs}
use Rattle.vol_parts.specs.declared.geometry.Geometry.{Geometry}
use Rattle.vol_spell.specs.Spelling.{Spells}
use Rattle.vol_under.specs.Chains.{Replied}
use Rattle.vol_under.specs.UnderWay.{StandsAt, outs_after}
use Rattle.op_law.specs.declared.need.Plan.{Plan}
use Rattle.op_law.specs.declared.seen.Seen.{Seen}
use Rattle.op_law.specs.declared.seen.Chan.{Chan}
use Rattle.op_law.specs.Events.{Events, Take, Look, Space, HasNoSpace, HasNoSearch}
use Rattle.op_law.specs.Needs.{events_of}
use Rattle.op_law.specs.Fits.{things}
use Rattle.op_law.specs.Rows.{plain_plan, refuses}
use Rattle.op_law.specs.Refusing.{unless_refused, if_entry}
use Rattle.op_law.specs.Writing.{plan_of}
use Rattle.op_law.specs.Moving.{SeenDir, entries_of, through_names, with_new, insertion_writes, removal_writes, rename_refusals, rename_writes, renamed_as}
use Rattle.op_law.specs.Laws.{planned, held_in, Lawful}
use Rattle.op_law.proofs.Walking.{EveryPlan, ObeysBy}
use Rattle.op_law.proofs.Through.{file_told, IsListed, directory_so, directory_obeys}
use Rattle.op_law.proofs.Doing.{busy, IsShaped, IsDone, refusal_done}
use Rattle.op_law.proofs.Ends.{EndsBy, nothing_given}
use Rattle.op_law.proofs.RemovalEnds.{LeaveNothing, both_leave_nothing, nothing_left, nothing_kept, insertion_leaves_nothing, removal_leaves_nothing}
use Rattle.op_law.proofs.Spaceless.{spaceless_lawful}
use Rattle.op_steps.specs.EntryWrites.{dir_in}
use Rattle.op_rename.specs.Kinds.{IsRename, rename_in}
use Rattle.op_rename.proofs.Brief.{rename_events_are, rename_brief}
use Rattle.op_rename.proofs.Outcomes.{after_for, refuses_none, refuses_plain, refuses_missing, refuses_kept, refuses_shown, renames_answer, stands_done}
use Rattle.op_rename.proofs.Chains.{renaming_steps, renaming_named, renaming_leaves, renaming_fills, renaming_outs, renaming_stage_is}

-- after each write of a RENAME nothing is outside
rename_leaves_nothing : (d : SeenDir) (e new : DirEnt) → LeaveNothing (rename_writes d e new)
unfolding rename_writes
rename_leaves_nothing d e new =
    both_leave_nothing (insertion_writes d new stage.Nothing stage.Both) (removal_writes (with_new d new) e stage.Both stage.Done)
    (insertion_leaves_nothing d new stage.Nothing stage.Both) (removal_leaves_nothing (with_new d new) e stage.Both stage.Done)

module _ (dir : Fid) (name : List ℕ) (ver : ℕ) (to : List ℕ) (to_ver : ℕ) where
  abbrev x : Cmd
  x = cmd.Rename dir name ver to to_ver

  abbrev events_are : (g : Geometry) (channel : Option Chan) → events_of g channel x ≡ through_names g dir (rename_in g name ver to to_ver)
  events_are g channel = rename_events_are dir name ver to to_ver g channel

  -- ---- what holds at the end of each row of events

  module _ (T : Events → Type 0) (take : (name : LockName) (mode : Mode) (next : Events) → T next → T (Take name mode next))
      (look : (name : LockName) (lbn : ℕ) (next : Block → Events) → ((b : Block) → T (next b)) → T (Look name lbn next))
      (refused : (r : Refusal) → T (refuses r)) (renamed : (d : SeenDir) (e : DirEnt) (v : ℕ) → T (renamed_as d e to v)) (g : Geometry) where
    in_so : (d : SeenDir) → T (rename_in g name ver to to_ver d)
    in_so d = by_entry (entry_of (versions name (entries_of d)) ver) where
      by_refusal : (e : DirEnt) (o : Option Refusal) → T (unless_refused o (renamed_as d e to (new_version to_ver (versions to (entries_of d)))))
      by_refusal e None = renamed d e (new_version to_ver (versions to (entries_of d)))
      by_refusal e (Some r) = refused r

      by_file : (e : DirEnt) (t : Bool) → T (cond t (refuses refusal.NoPriv) (unless_refused (first_refusal (rename_refusals g (entries_of d) to to_ver)) (renamed_as d e to (new_version to_ver (versions to (entries_of d))))))
      by_file e true = refused refusal.NoPriv
      by_file e false = by_refusal e (first_refusal (rename_refusals g (entries_of d) to to_ver))

      by_entry : (o : Option DirEnt)
          → T (if_entry o (λ e. unless_refused (first_refusal (rename_refusals g (entries_of d) to to_ver)) (renamed_as d e to (new_version to_ver (versions to (entries_of d))))))
      by_entry None = refused refusal.NoSuchFile
      by_entry (Some e) = by_file e (nat_le e.fid.num 11)

    rename_so : (channel : Option Chan) → T (events_of g channel x)
    rename_so channel = subst T (sym (events_are g channel))
        (directory_so T take look g dir PW _ (refused refusal.NoSuchFile) (refused refusal.NotDir) (λ h bs. in_so (record { fid = dir; head = h; blocks = bs })))

  no_search : (g : Geometry) (channel : Option Chan) → HasNoSearch (events_of g channel x)
  no_search g channel = rename_so HasNoSearch (λ name mode next h. h) (λ name lbn next h. h) (λ r. tt) (λ d e v. tt) g channel

  shaped : (g : Geometry) (channel : Option Chan) → EveryPlan IsShaped (events_of g channel x)
  shaped g channel =
      rename_so (EveryPlan IsShaped) (λ name mode next h. h) (λ name lbn next h. h) (λ r. record { ask = refl; refused = (refl, refl) }) (λ d e v. record { ask = refl; refused = tt }) g channel

  ends : (g : Geometry) (channel : Option Chan) (space : Space) → EndsBy (things space.clusters space.number) (HasNoSpace space) (events_of g channel x)
  ends g channel space =
      rename_so (EndsBy (things space.clusters space.number) (HasNoSpace space)) (λ name mode next h. h) (λ name lbn next h. h) (λ r. nothing_given space)
      (λ d e v h. subst (λ t. outs_after t (map planned (rename_writes d e (entry to v e.fid))) ≡ nothing) (sym (nothing_given space h))
      (nothing_left (rename_writes d e (entry to v e.fid)) (rename_leaves_nothing d e (entry to v e.fid)))) g channel

  -- ---- on the blocks of a volume

  module _ (is : IsRename x) (node : ℕ) (seen : Seen) (bs : List Block) (own : Owners) (c : Cat) (stock : Things) (s : Spells seen.geometry bs own c)
      (given : things seen.clusters seen.number ≡ nothing) (outs : Outs node own nothing stock) where
    abbrev g : Geometry
    g = seen.geometry

    abbrev Done : List (LockName × Mode) → Plan → Type 0
    Done held p = IsDone x node seen bs own c stock held p

    abbrev O : Events → List (LockName × Mode) → Type 0
    O es held = ObeysBy x g bs own c seen Done es held

    abbrev locks : List (LockName × Mode)
    locks = (S dir.num, PW) ∷ []

    no : (r : Refusal) → Answer c node x (reply.Refused r) c → (held : List (LockName × Mode)) → Done held (plain_plan (reply.Refused r))
    no r answer held = refusal_done x node seen bs own c stock s (subst (λ t. Outs node own t stock) (sym given) outs) r answer held

    module _ (f : Hdr) (listed : IsListed g bs c dir f) where
      abbrev d : File
      d = file_told bs g dir f

      abbrev dd : SeenDir
      dd = dir_in g bs dir

      abbrev es : List DirEnt
      es = entries_of dd

      module _ (e : DirEnt) where
        -- the plan by these entries
        abbrev plan_in : List DirEnt → Plan
        plan_in xs = let v = new_version to_ver (versions to xs) in plan_of (rename_writes dd e (entry to v e.fid)) (reply.Renamed to v)

        module _ (found : entry_of (versions name d.entries) ver ≡ Some e) (free : nat_le e.fid.num 11 ≡ false) (order : first_refusal (rename_refusals g d.entries to to_ver) ≡ None) where
          abbrev after : Cat
          after = after_for g c s.constants.factor node dir name ver to to_ver d e

          abbrev p : Plan
          p = plan_in d.entries

          finish : (bs' : List Block) → Spells g bs' own after → Replied g node (busy x node seen p) x p.reply c stock bs' own
          finish bs' spelt =
              let stage_is = renaming_stage_is node g bs own c s stock outs dir name ver to to_ver is f listed e found free order stage.Nothing in
              let outs_are = renaming_outs node g bs own c s stock outs dir name ver to to_ver is f listed e found free order (things seen.clusters seen.number) in (
                after,
                subst (λ st. StandsAt c node (Some x) st after) (sym stage_is) (stands_done g c s.constants.factor node dir name ver to to_ver d listed.live listed.dir e found free order),
                spelt,
                subst (λ t. Outs node own t stock) (sym outs_are) outs,
                c.opens,
                renames_answer g c s.constants.factor node dir name ver to to_ver d listed.live listed.dir e found free order,
              )

          renamed_done : Done locks p
          renamed_done = record {
            named = renaming_named node g bs own c s stock outs dir name ver to to_ver is f listed e found free order;
            dirs = renaming_leaves node g bs own c s stock outs dir name ver to to_ver is f listed e found free order;
            slots = renaming_fills node g bs own c s stock outs dir name ver to to_ver is f listed e found free order (things seen.clusters seen.number);
            kept_out = nothing_kept (things seen.clusters seen.number) (held_in PW locks) p.writes (rename_leaves_nothing dd e (entry to (new_version to_ver (versions to d.entries)) e.fid));
            steps = renaming_steps node g bs own c s stock outs dir name ver to to_ver is f listed e found free order (Replied g node (busy x node seen p) x p.reply c stock) finish;
          }

      -- the entries that were seen are the catalogue's
      found_in : (o : Option DirEnt) → entry_of (versions name es) ver ≡ o → entry_of (versions name d.entries) ver ≡ o
      found_in o h = ap (λ xs. entry_of (versions name xs) ver) listed.entries ∙ h

      order_in : (o : Option Refusal) → first_refusal (rename_refusals g es to to_ver) ≡ o → first_refusal (rename_refusals g d.entries to to_ver) ≡ o
      order_in o h = ap (λ xs. first_refusal (rename_refusals g xs to to_ver)) listed.entries ∙ h

      abbrev judged : DirEnt → Option Refusal → Events
      judged e o = unless_refused o (renamed_as dd e to (new_version to_ver (versions to es)))

      by_refusal : (e : DirEnt) → entry_of (versions name es) ver ≡ Some e → nat_le e.fid.num 11 ≡ false → (o : Option Refusal) → first_refusal (rename_refusals g es to to_ver) ≡ o → O (judged e o) locks
      by_refusal e found free (Some r) order = no r (refuses_shown g c s.constants.factor node dir name ver to to_ver d listed.live listed.dir e (found_in (Some e) found) free r (order_in (Some r) order)) locks
      by_refusal e found free None order = subst (λ xs. Done locks (plan_in e xs)) listed.entries (renamed_done e (found_in (Some e) found) free (order_in None order))

      by_file : (e : DirEnt) → entry_of (versions name es) ver ≡ Some e → (t : Bool) → nat_le e.fid.num 11 ≡ t
          → O (cond t (refuses refusal.NoPriv) (judged e (first_refusal (rename_refusals g es to to_ver)))) locks
      by_file e found true kept = no refusal.NoPriv (refuses_kept g c s.constants.factor node dir name ver to to_ver d listed.live listed.dir e (found_in (Some e) found) kept) locks
      by_file e found false free = by_refusal e found free (first_refusal (rename_refusals g es to to_ver)) refl

      by_entry : (o : Option DirEnt) → entry_of (versions name es) ver ≡ o → O (if_entry o (λ e. judged e (first_refusal (rename_refusals g es to to_ver)))) locks
      by_entry None found = no refusal.NoSuchFile (refuses_missing g c s.constants.factor node dir name ver to to_ver d listed.live listed.dir (found_in None found)) locks
      by_entry (Some e) found = by_file e found (nat_le e.fid.num 11) refl

    obeys : O (events_of g seen.channel x) []
    obeys =
        let factor = s.constants.factor in
        subst (λ (es : Events). O es []) (sym (events_are g seen.channel))
        (directory_obeys x g bs own c s seen Done dir [] (λ h. h) (inl (λ h. h)) (λ other h. absurd h) PW (inr (inl refl)) (λ h blocks. rename_in g name ver to to_ver (record { fid = dir; head = h; blocks = blocks }))
        (λ none. no refusal.NoSuchFile (refuses_none g c factor node dir name ver to to_ver none))
        (λ h lives plain. no refusal.NotDir (refuses_plain g c factor node dir name ver to to_ver (file_told bs g dir h) lives plain) locks)
        (λ h listed. by_entry h listed (entry_of (versions name (entries_of (dir_in g bs dir))) ver) refl))

  renames_lawful : IsRename x → Lawful x
  renames_lawful is = spaceless_lawful x (record {
    searches = no_search;
    shaped = shaped;
    ends = ends;
    obeys = λ node seen bs own c stock s given outs known. obeys is node seen bs own c stock s given outs;
    brief = rename_brief dir name ver to to_ver;
  })

pub rename_lawful : (x : Cmd) → IsRename x → Lawful x
rename_lawful (cmd.Rename dir name ver to to_ver) is = renames_lawful dir name ver to to_ver is
rename_lawful other is = absurd is
