-- DELETE obeys the law.
use Rattle.op_law.proofs.SeenRuns.{seen_runs}
use Rattle.op_law.specs.SeenFiles.{file_places}
use Rattle.std.proofs.Common.{◌≡◌, ◌<◌, ◌∙◌, inl, inr, ℕ, Bool, true, false, cond, List, [], ◌∷◌, ◌++◌, Option, Some, None, length, refl, sym, ap, subst, arith}
use Rattle.std.specs.Prelude.{◌==◌, ◌&&◌, not, nat_le, option_map, Ok}
use Rattle.std.specs.List.{list_all}
use Rattle.std.proofs.lemmas.Bool.{and_parts}
use Rattle.std.proofs.lemmas.Bool.Decides.{nat_tests}
use Rattle.base_words.specs.Fields.{Block}
use Rattle.fx_header.specs.declared.slot.Hdr.{Hdr}
use Rattle.fx_header.specs.declared.slot.Slot.TheVariants as head
use Rattle.fx_header.specs.Headers.{runs_in}
use Rattle.fx_header.specs.Pointers.{lbns_in}
use Rattle.fx_dir.specs.Directory.{directory}
use Rattle.lock_db.specs.declared.name.LockName.{LockName}
use Rattle.lock_db.specs.declared.name.LockName.TheVariants.{S, Q, V}
use Rattle.plain_cat.specs.declared.ids.Fid.{Fid}
use Rattle.plain_cat.specs.declared.mode.Mode.{Mode}
use Rattle.plain_cat.specs.declared.mode.Mode.TheVariants.{PR, PW, EX}
use Rattle.plain_cat.specs.declared.entries.DirEnt.{DirEnt}
use Rattle.plain_cat.specs.declared.command.Cmd.{Cmd}
use Rattle.plain_cat.specs.declared.command.Cmd.TheVariants as cmd
use Rattle.plain_cat.specs.declared.reply.Reply.TheVariants as reply
use Rattle.plain_cat.specs.declared.reply.Refusal.{Refusal}
use Rattle.plain_cat.specs.declared.reply.Refusal.TheVariants as refusal
use Rattle.plain_cat.specs.declared.cat.Cat.{Cat}
use Rattle.plain_cat.specs.declared.cat.File.{File}
use Rattle.plain_rules.specs.Lookups.{file_at, in_use, versions, entry_of, is_open}
use Rattle.plain_rules.specs.Directories.{is_nil}
use Rattle.plain_rules.specs.Answers.{has_entries, Answer}
use Rattle.base_words.specs.Lists.{Has}
use Rattle.vol_spell.specs.Files.{blocks_told}
use Rattle.vol_spell.specs.Owners.{Owners, Things, nothing, Outs}
use Rattle.vol_spell.specs.Spread.{blocks_at}
use Rattle.vol_parts.specs.declared.geometry.Geometry.{Geometry}
use Rattle.vol_parts.specs.Catalogues.{plain_entries}
use Rattle.vol_spell.specs.Reading.{IsFileNumber, header_place, header_block, head_told, fields_told, runs_told}
use Rattle.vol_spell.specs.Spelling.{Spells}
use Rattle.op_law.specs.declared.need.Plan.{Plan}
use Rattle.op_law.specs.declared.need.PlanWrite.{PlanWrite}
use Rattle.op_law.specs.declared.seen.Seen.{Seen}
use Rattle.op_law.specs.Events.{Events, Take, Look, Make, space_of, HasNoSpace}
use Rattle.op_law.specs.Needs.{events_of}
use Rattle.op_law.specs.Fits.{HasSeen, things}
use Rattle.op_law.specs.Knows.{knows, is_granted, is_new_number, is_short, usages_fit, opens_hold, wanted}
use Rattle.plain_rules.specs.Opens.{is_held_open}
use Rattle.op_law.specs.Laws.{held_in, IsLockedLook, Lawful}
use Rattle.op_law.specs.Order.{IsBefore}
use Rattle.op_law.specs.Headers.{through_chain, locks_behind}
use Rattle.op_law.specs.Rows.{plain_plan, refuses, is_number, look_all, entries_seen}
use Rattle.vol_spell.specs.Entries.{places_in}
use Rattle.op_law.specs.Refusing.{SeenFile, seen_file, used_in, if_file, if_entry}
use Rattle.op_law.specs.Moving.{SeenDir, entries_of}
use Rattle.op_law.specs.Freeing.{SeenSpace, through_space, freeing_writes}
use Rattle.op_law.specs.Removing.{under_lock, if_empty, delete_plan, entry_removed, delete_in, unnaming_writes}
use Rattle.op_law.proofs.Walking.{ObeysBy, kept}
use Rattle.op_law.proofs.Levels.{AreUpTo, none_held, up_to_more}
use Rattle.op_law.proofs.Links.{held_with, chain_obeys, chain_up_to}
use Rattle.op_law.proofs.Telling.{number_is, live_reads}
use Rattle.vol_spell.proofs.HeadSlots.{reads_fields, file_told_at, dir_runs}
use Rattle.op_law.proofs.Looks.{header_under, block_under}
use Rattle.op_law.proofs.Heads.{header_is, listed_inside}
use Rattle.op_law.proofs.Through.{file_told, IsListed, directory_obeys, number_obeys, all_obeys}
use Rattle.op_law.proofs.Ordering.{file_level, entry_behind}
use Rattle.op_law.proofs.Ends.{nothing_given}
use Rattle.op_law.proofs.Doing.{AreDone, refusal_done}
use Rattle.op_law.proofs.Asking.{IsDoneBy, asks_lawful}
use Rattle.op_steps.specs.EntryWrites.{dir_in}
use Rattle.op_steps.proofs.Chaining.{live_at}
use Rattle.op_steps.specs.Files.{file_in}
use Rattle.op_steps.specs.FreeingGoneWrites.{HaveLocks, space_at}
use Rattle.op_steps.proofs.Looks.{chain_locks, last, last_q, last_v, last_locks, space_obeys}
use Rattle.op_delete.specs.Kinds.{IsDelete}
use Rattle.op_delete.proofs.Slots.{first_writes}
use Rattle.op_delete.proofs.Outcomes.{refuses_none, refuses_plain, refuses_missing, refuses_kept, refuses_full}
use Rattle.op_delete.proofs.Plans.{lone_done, refused_done, granted_done}
use Rattle.op_steps.proofs.Uses.{used_reads, used_is, not_used}
use Rattle.op_delete.proofs.Walks.{behind, events_are, no_search, shaped, ends}
use Rattle.op_delete.proofs.Brief.{delete_brief}
use Rattle.op_law.proofs.Spaceless.{once}
use Rattle.op_law.proofs.Opens.{any_conflicts}
use Rattle.base_words.proofs.Booleans.{not_false}

-- an entry that was found is one
some_entries : (name : List ℕ) (ver : ℕ) (es : List DirEnt) (e : DirEnt) → entry_of (versions name es) ver ≡ Some e → is_nil es ≡ false
some_entries name ver [] e found = absurd (cc)
some_entries name ver (y ∷ es) e found = refl

not_true : (t : Bool) → not t ≡ true → t ≡ false
not_true true e = absurd (cc)
not_true false e = refl

module _ (dir : Fid) (name : List ℕ) (ver : ℕ) where
  abbrev x : Cmd
  x = cmd.Delete dir name ver

  module _ (node : ℕ) (seen : Seen) (bs : List Block) (own : Owners) (c : Cat) (stock : Things) (s : Spells seen.geometry bs own c)
      (given : things seen.clusters seen.number ≡ nothing) (outs : Outs node own nothing stock) (hold : list_all is_held_open c.opens ≡ true) where
    abbrev g : Geometry
    g = seen.geometry

    abbrev Done : List (LockName × Mode) → Plan → Type 0
    Done held p = IsDoneBy x node seen bs own c stock held p p.ask

    abbrev O : Events → List (LockName × Mode) → Type 0
    O es held = ObeysBy x g bs own c seen Done es held

    abbrev first : List (LockName × Mode)
    first = (S dir.num, PW) ∷ []

    no : (r : Refusal) → Answer c node x (reply.Refused r) c → (held : List (LockName × Mode)) → Done held (plain_plan (reply.Refused r))
    no r answer held = refusal_done x node seen bs own c stock s (subst (λ t. Outs node own t stock) (sym given) outs) r answer held

    module _ (fh : Hdr) (listed : IsListed g bs c dir fh) where
      abbrev d : File
      d = file_told bs g dir fh

      abbrev dd : SeenDir
      dd = dir_in g bs dir

      abbrev es : List DirEnt
      es = entries_of dd

      module _ (e : DirEnt) (seen_so : entry_of (versions name es) ver ≡ Some e) (free : nat_le e.fid.num 11 ≡ false) where
        found : entry_of (versions name d.entries) ver ≡ Some e
        found = ap (λ ys. entry_of (versions name ys) ver) listed.entries ∙ seen_so

        lone : (held : List (LockName × Mode)) → Has (held_in PW held) (S dir.num) → in_use c e.fid ≡ None → O (entry_removed dd e) held
        lone held has none = lone_done node seen bs own c s stock outs dir name ver fh listed e found free held has none

        module _ (number : IsFileNumber g e.fid.num) where
          abbrev hb : Block
          hb = header_block g bs e.fid.num

          module _ (h : Hdr) (used : used_in e.fid.seq hb ≡ Some h) where
            abbrev f : File
            f = file_told bs g e.fid h

            abbrev sf : SeenFile
            sf = file_in g bs e.fid.num h

            reads : head_told hb ≡ Ok (head.Used h)
            reads = used_reads e.fid.seq hb h used

            uses : in_use c e.fid ≡ Some f
            uses = used_is g bs own c s e.fid number ∙ ap (option_map (λ h. file_told bs g e.fid h)) used

            at_file : file_at c e.fid.num ≡ Some f
            at_file = file_told_at g bs own c s e.fid.num h number reads

            -- a file without entries is not the directory, which has this one
            others : has_entries (Some f) ≡ false → dir.num ≡ e.fid.num → ⊥
            others bare same =
                let one : file_at c e.fid.num ≡ Some d = ap (file_at c) (sym same) ∙ live_at c dir d listed.live in
                let both : Some f ≡ Some d = sym at_file ∙ one in
                let is : f ≡ d = cc in
                let full : has_entries (Some d) ≡ true = ap (λ t. t && not (is_nil d.entries)) listed.dir ∙ ap not (some_entries name ver d.entries e found) in
                let wrong : false ≡ true = sym bare ∙ ap (λ y. has_entries (Some y)) is ∙ full in
                absurd (cc)

            abbrev next : Events
            next = through_space g sf (λ sp. Make (delete_plan g dd e sf sp))

            used_told : fields_told hb ≡ Some h
            used_told = reads_fields hb h reads

            above : 11 < e.fid.num
            above = grind (arith, nat_tests)

            -- ---- the plan, where these locks are held

            module _ (bare : has_entries (Some f) ≡ false) (held : List (LockName × Mode)) (in_dir : Has (held_in PW held) (S dir.num)) (in_all : HaveLocks seen.geometry (file_in seen.geometry bs e.fid.num h) (held_in PW held))
                (in_q : Has (held_in PW held) Q) (in_v : Has (held_in PW held) V) where
              abbrev sp : SeenSpace
              sp = space_at seen.geometry bs e.fid.num h

              abbrev us : List PlanWrite
              us = unnaming_writes g dd e sf

              apart : dir.num ≡ e.fid.num → ⊥
              apart = others bare

              -- the ask is granted exactly where no channel has the file open
              asked : is_granted node (record { at = length us; file = e.fid.num; chan = 0; mode = EX; refused = reply.Marked }) c ≡ not (is_open c e.fid.num)
              asked = ap not (any_conflicts e.fid.num c.opens hold)

              plan_done : Done held (delete_plan g dd e sf sp)
              plan_done = record {
                granted = λ yes. granted_done node seen bs own c s stock outs dir name ver fh listed e found free h number reads held in_dir in_all in_q in_v uses bare apart (not_true (is_open c e.fid.num) (sym asked ∙ yes));
                refused = λ not_so. subst (λ ws. AreDone x node seen bs own c stock held ws reply.Marked) (sym (first_writes us (freeing_writes g sf sp)))
                    (refused_done node seen bs own c s stock outs dir name ver fh listed e found free h number reads held in_dir in_all in_q in_v uses bare apart (not_false (is_open c e.fid.num) (sym asked ∙ not_so)));
              }

            -- Where the locks of the directory and the file are held: those of the file's other headers, Q and V, and the plan.
            module _ (bare : has_entries (Some f) ≡ false) (held : List (LockName × Mode)) (low : AreUpTo seen.geometry bs own 0 held) (in_dir : Has (held_in PW held) (S dir.num)) (in_file : Has (held_in PW held) (S e.fid.num)) where
              abbrev all : List (LockName × Mode)
              all = held ++ locks_behind seen.geometry bs e.fid.num PW

              up : AreUpTo seen.geometry bs own 15 (held ++ locks_behind seen.geometry bs e.fid.num PW)
              up = chain_up_to g bs own c s e.fid.num h number used_told PW held low

              dir_held : Has (held_in PW (last x g bs own c s seen Done refl (held ++ locks_behind seen.geometry bs e.fid.num PW) up)) (S dir.num)
              dir_held = held_with PW (all ++ (Q, PW) ∷ []) ((V, PW) ∷ []) (S dir.num) (held_with PW all ((Q, PW) ∷ []) (S dir.num) (held_with PW held (locks_behind g bs e.fid.num PW) (S dir.num) in_dir))

              room_obeys : O next (held ++ locks_behind seen.geometry bs e.fid.num PW)
              room_obeys =
                  space_obeys x g bs own c s seen Done refl all up e.fid.num h (λ sp. delete_plan g dd e sf sp)
                  (plan_done bare (last x g bs own c s seen Done refl all up) dir_held
                  (last_locks x g bs own c s seen Done refl all up sf (chain_locks g bs e.fid.num h held in_file))
                  (last_q x g bs own c s seen Done refl all up) (last_v x g bs own c s seen Done refl all up))

            -- ---- a file in use, whichever locks are held

            module _ (held : List (LockName × Mode)) (has : Has (held_in PR held) (S e.fid.num)) (go : has_entries (Some f) ≡ false → O next held) where
              -- a directory has all runs that its header lists
              dir_listed : h.dir ≡ true → runs_told hb ≡ runs_in hb
              dir_listed is = (listed_inside g bs own c s e.fid.num number).dir h (reads_fields hb h reads) is

              entries_are : h.dir ≡ true → f.entries ≡ entries_seen (blocks_at bs (places_in hb))
              entries_are is =
                  ap (λ t. cond t (plain_entries (directory (blocks_told g bs e.fid.num))) []) is
                  ∙ ap (λ rs. entries_seen (blocks_at bs (lbns_in rs))) (dir_runs g bs own c s e.fid.num h number reads is)

              by_nil : h.dir ≡ true → (t : Bool) → is_nil (entries_seen (blocks_at bs (places_in hb))) ≡ t → O (cond t next (refuses refusal.DirNotEmpty)) held
              by_nil is true none = go (ap (λ t. t && not (is_nil f.entries)) is ∙ ap (λ ys. not (is_nil ys)) (entries_are is) ∙ ap not none)
              by_nil is false some =
                  no refusal.DirNotEmpty (refuses_full c node dir name ver d listed.live listed.dir e found free f uses
                  (ap (λ t. t && not (is_nil f.entries)) is ∙ ap (λ ys. not (is_nil ys)) (entries_are is) ∙ ap not some)) held

              under_file : h.dir ≡ true → (l : ℕ) → Has (places_in hb) l → IsLockedLook g bs own c held (S e.fid.num) l
              under_file is l t =
                  let places : lbns_in (runs_told hb) ≡ places_in hb = ap lbns_in (dir_listed is) in
                  let u = block_under g bs own c s e.fid.num l h number reads is (subst (λ ls. Has ls l) (sym places) t) in
                  record { kind = u.kind; guard = u.guard; held = has; within = u.within }

              -- where its blocks stand
              dir_places : h.dir ≡ true → file_places sf ≡ places_in hb
              dir_places is = ap lbns_in (seen_runs g bs e.fid.num h used_told ∙ dir_runs g bs own c s e.fid.num h number reads is)

              empty_obeys : O (if_empty sf next) held
              empty_obeys = by_dir h.dir refl where
                behind : List Block → Events
                behind bs = cond (is_nil (entries_seen bs)) next (refuses refusal.DirNotEmpty)

                by_dir : (t : Bool) → h.dir ≡ t → O (cond t (look_all (S e.fid.num) (file_places sf) behind) next) held
                by_dir true is =
                    subst (λ (ls : List ℕ). O (look_all (S e.fid.num) ls behind) held) (sym (dir_places is))
                    (all_obeys x g bs own c s seen Done (S e.fid.num) held (places_in hb) behind (under_file is) (by_nil is (is_nil (entries_seen (blocks_at bs (places_in hb)))) refl))
                by_dir false is = go (ap (λ t. t && not (is_nil f.entries)) is)

          -- behind the header of the file
          abbrev whole : SeenFile → Events
          whole f = if_empty f (through_space g f (λ sp. Make (delete_plan g dd e f sp)))

          abbrev looking : Block → Events
          looking b = if_file (entry_removed dd e) (λ first. through_chain g PW first whole) (option_map (seen_file g e.fid.num b) (used_in e.fid.seq b))

          -- the file by its header, where these locks are held
          used_obeys : (held : List (LockName × Mode)) → ((h : Hdr) → used_in e.fid.seq hb ≡ Some h → AreUpTo g bs own 0 held) → Has (held_in PW held) (S dir.num) → Has (held_in PR held) (S e.fid.num)
              → ((h : Hdr) → used_in e.fid.seq hb ≡ Some h → has_entries (Some (file_told bs g e.fid h)) ≡ false
              → O (through_space g (file_in g bs e.fid.num h) (λ sp. Make (delete_plan g dd e (file_in g bs e.fid.num h) sp))) (held ++ locks_behind g bs e.fid.num PW))
              → O (looking hb) held
          used_obeys held low in_dir has go = by_used (used_in e.fid.seq hb) refl where
            by_used : (o : Option Hdr) → used_in e.fid.seq hb ≡ o → O (if_file (entry_removed dd e) (λ first. through_chain g PW first whole) (option_map (seen_file g e.fid.num hb) o)) held
            by_used None is = lone held in_dir (used_is g bs own c s e.fid number ∙ ap (option_map (λ h. file_told bs g e.fid h)) is)
            by_used (Some h) is =
                chain_obeys x g bs own c s seen Done e.fid.num h number (used_told h is) PW (inr (inl refl)) held (low h is) whole (above h is)
                (empty_obeys h is (held ++ locks_behind g bs e.fid.num PW) (held_with PR held (locks_behind g bs e.fid.num PW) (S e.fid.num) has) (go h is))

          abbrev both_held : List (LockName × Mode)
          both_held = (S dir.num, PW) ∷ (S e.fid.num, PW) ∷ []

          -- directories and files come first
          dir_low : AreUpTo g bs own 0 first
          dir_low =
              let here = file_level g bs own c s dir.num fh listed.number (live_reads dir.seq (head_told (header_block g bs dir.num)) fh listed.header) in
              up_to_more g bs own 0 0 [] (S dir.num) PW (none_held g bs own 0) (omega arith) (omega arith)

          both_low : (h : Hdr) → used_in e.fid.seq hb ≡ Some h → AreUpTo g bs own 0 both_held
          both_low h is =
              let here = file_level g bs own c s e.fid.num h number (reads h is) in
              up_to_more g bs own 0 0 first (S e.fid.num) PW dir_low (omega arith) (omega arith)

          -- its lock comes behind the directory's, unless it is the same
          lock_obeys : (t : Bool) → (e.fid.num == dir.num) ≡ t → O (cond t (Look (S e.fid.num) (header_place g e.fid.num) looking) (Take (S e.fid.num) PW (Look (S e.fid.num) (header_place g e.fid.num) looking))) first
          lock_obeys true same =
              let is : dir.num ≡ e.fid.num = grind (arith, nat_tests) in
              let u = header_under g bs own c s e.fid.num number in
              let has : Has (S dir.num ∷ []) (S e.fid.num) = inl (ap S is) in (
                record { kind = u.kind; guard = u.guard; held = has; within = u.within },
                λ b at. subst (λ y. O (looking y) first) (header_is g bs e.fid.num (header_place g e.fid.num) b refl at)
                    (used_obeys first (λ h used. dir_low) (inl refl) has (λ h used bare. absurd (others h used bare is))),
              )
          lock_obeys false same =
              let ne : dir.num ≡ e.fid.num → ⊥ = λ is. let same_so : (e.fid.num == dir.num) ≡ true = grind (arith, nat_tests) in cc in
              number_obeys x g bs own c s seen Done first PW (inr (inl refl)) e.fid.num looking
              (λ t. elim t [ inl is ↦ ne (let z : S dir.num ≡ S e.fid.num = is in cc) | inr none ↦ none ])
              (inl (λ t. elim t [ inl is ↦ (let z : S dir.num ≡ Q = is in cc) | inr none ↦ none ]))
              (λ other t. elim t [ inl is ↦ subst (λ l. IsBefore g bs own c l (S e.fid.num)) is (entry_behind g bs own c s dir fh listed name ver e seen_so (grind (arith, nat_tests))) | inr none ↦ absurd none ])
              number (used_obeys both_held both_low (inl refl) (inr (inl refl)) (λ h used bare. room_obeys h used bare both_held (both_low h used) (inl refl) (inr (inl refl))))

        named_obeys : (t : Bool) → is_number g e.fid ≡ t → O (cond t (under_lock g dir.num e.fid.num (λ b. if_file (entry_removed dd e)
            (λ first. through_chain g PW first (λ f. if_empty f (through_space g f (λ sp. Make (delete_plan g dd e f sp))))) (option_map (seen_file g e.fid.num b) (used_in e.fid.seq b)))) (entry_removed dd e)) first
        named_obeys true is = lock_obeys (number_is g e.fid is) (e.fid.num == dir.num) refl
        named_obeys false is = lone first (inl refl) (not_used g bs own c s e.fid is)

      found_in : (o : Option DirEnt) → entry_of (versions name es) ver ≡ o → entry_of (versions name d.entries) ver ≡ o
      found_in o h = ap (λ ys. entry_of (versions name ys) ver) listed.entries ∙ h

      by_file : (e : DirEnt) → entry_of (versions name es) ver ≡ Some e → (t : Bool) → nat_le e.fid.num 11 ≡ t → O (cond t (refuses refusal.NoPriv) (delete_in g dd e)) first
      by_file e at true kept = no refusal.NoPriv (refuses_kept c node dir name ver d listed.live listed.dir e (found_in (Some e) at) kept) first
      by_file e at false free = named_obeys e at free (is_number g e.fid) refl

      by_entry : (o : Option DirEnt) → entry_of (versions name es) ver ≡ o → O (if_entry o (delete_in g dd)) first
      by_entry None at = no refusal.NoSuchFile (refuses_missing c node dir name ver d listed.live listed.dir (found_in None at)) first
      by_entry (Some e) at = by_file e at (nat_le e.fid.num 11) refl

    obeys : O (events_of g seen.channel x) []
    obeys =
        subst (λ (es : Events). O es []) (sym (events_are dir name ver g seen.channel))
        (directory_obeys x g bs own c s seen Done dir [] (λ h. h) (inl (λ h. h)) (λ other h. absurd h) PW (inr (inl refl)) (λ h blocks. behind dir name ver g (record { fid = dir; head = h; blocks = blocks }))
        (λ none. no refusal.NoSuchFile (refuses_none c node dir name ver none))
        (λ h lives plain. no refusal.NotDir (refuses_plain c node dir name ver (file_told bs g dir h) lives plain) first)
        (λ h listed. by_entry h listed (entry_of (versions name (entries_of (dir_in g bs dir))) ver) refl))

  -- nothing was given
  none_given : (seen : Seen) → HasSeen x seen → things seen.clusters seen.number ≡ nothing
  none_given seen has = nothing_given (space_of seen)
      (kept (events_of seen.geometry seen.channel x) (space_of seen) (HasNoSpace (space_of seen)) seen.locks seen.blocks (no_search dir name ver seen.geometry seen.channel) has)

  -- no open is in NL
  held_open : (node : ℕ) (seen : Seen) (c : Cat) → knows node x seen c ≡ true → list_all is_held_open c.opens ≡ true
  held_open node seen c known =
      let a = and_parts (is_new_number seen.number) (is_short c (wanted seen x) seen.short && (usages_fit c x && opens_hold c x)) known in
      let b = and_parts (is_short c (wanted seen x) seen.short) (usages_fit c x && opens_hold c x) a.1 in
      (and_parts (usages_fit c x) (opens_hold c x) b.1).1

  deletes_lawful : Lawful x
  deletes_lawful = asks_lawful x (record {
    searches = λ g channel. once (events_of g channel x) (no_search dir name ver g channel);
    shaped = shaped dir name ver;
    ends = ends dir name ver;
    obeys = λ node seen bs own c stock s outs known has.
        let given = none_given seen has in
        obeys node seen bs own c stock s given (subst (λ t. Outs node own t stock) given outs) (held_open node seen c known);
    brief = delete_brief dir name ver;
  })

pub delete_lawful : (x : Cmd) → IsDelete x → Lawful x
delete_lawful (cmd.Delete dir name ver) is = deletes_lawful dir name ver
delete_lawful other is = absurd is
