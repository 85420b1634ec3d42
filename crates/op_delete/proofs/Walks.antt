-- What holds at the end of each row of events of a DELETE, and what its plans leave outside.
use Rattle.std.proofs.Common.{◌≡◌, ◌∙◌, inl, inr, ℕ, Bool, true, false, cond, List, [], ◌∷◌, ◌++◌, Option, Some, None, map, length, take, refl, sym, ap, subst, arith}
use Rattle.std.specs.Prelude.{◌==◌, nat_le, option_map}
use Rattle.std.proofs.lemmas.Bool.Decides.{nat_tests}
use Rattle.std.proofs.lemmas.List.{length-map, length-append}
use Rattle.base_words.specs.Fields.{Block}
use Rattle.fx_header.specs.declared.slot.Hdr.{Hdr}
use Rattle.fx_header.specs.Headers.{marked}
use Rattle.lock_db.specs.declared.name.LockName.{LockName}
use Rattle.lock_db.specs.declared.name.LockName.TheVariants.{S, Q, V}
use Rattle.plain_cat.specs.declared.ids.Fid.{Fid}
use Rattle.plain_cat.specs.declared.mode.Mode.{Mode}
use Rattle.plain_cat.specs.declared.mode.Mode.TheVariants.{PW}
use Rattle.plain_cat.specs.declared.entries.DirEnt.{DirEnt}
use Rattle.plain_cat.specs.declared.command.Cmd.{Cmd}
use Rattle.plain_cat.specs.declared.command.Cmd.TheVariants as cmd
use Rattle.plain_cat.specs.declared.history.Stage.TheVariants as stage
use Rattle.plain_cat.specs.declared.reply.Refusal.{Refusal}
use Rattle.plain_cat.specs.declared.reply.Refusal.TheVariants as refusal
use Rattle.plain_rules.specs.Lookups.{versions, entry_of, extra}
use Rattle.plain_rules.specs.Directories.{is_nil}
use Rattle.base_words.specs.Lists.{Has}
use Rattle.vol_spell.specs.Owners.{Things, nothing}
use Rattle.vol_parts.specs.declared.geometry.Geometry.{Geometry}
use Rattle.vol_parts.specs.declared.geometry.Part.TheVariants.{Storage, IndexBitmap}
use Rattle.vol_spell.specs.Reading.{header_place, quota_places}
use Rattle.vol_spell.specs.Places.{place_of}
use Rattle.vol_under.specs.UnderWay.{outs_after}
use Rattle.op_law.specs.declared.need.PlanWrite.{PlanWrite}
use Rattle.op_law.specs.declared.seen.Chan.{Chan}
use Rattle.op_law.specs.Events.{Events, Take, Look, Make, Space, HasNoSpace, HasNoSearch}
use Rattle.op_law.specs.Fits.{things}
use Rattle.op_law.specs.Laws.{planned, held_in}
use Rattle.op_law.specs.Needs.{events_of}
use Rattle.op_law.specs.Rows.{is_number, live_in, look_all, refuses, in_directory, entries_seen}
use Rattle.vol_spell.specs.Entries.{places_in}
use Rattle.op_law.specs.Refusing.{SeenFile, seen_file, used_in, if_file, if_entry}
use Rattle.op_law.specs.Writing.{empty_handed, header_write}
use Rattle.op_law.specs.Moving.{SeenDir, entries_of, through_names, removal_writes}
use Rattle.op_law.specs.SeenFiles.{file_places}
use Rattle.op_law.specs.Headers.{through_chain}
use Rattle.op_law.specs.Freeing.{SeenSpace, blocks_for, all_clusters, through_space, freeing_writes}
use Rattle.op_law.specs.Removing.{under_lock, if_empty, marking_writes, unnaming_writes, delete_plan, entry_removed, delete_in, delete_events}
use Rattle.op_law.proofs.Asking.{EveryEnd, IsShapedBy}
use Rattle.op_law.proofs.Ends.{EndsBy, outs_behind, nothing_given}
use Rattle.op_law.proofs.Links.{held_with, links_held_so}
use Rattle.op_law.proofs.RemovalEnds.{LeaveNothing, both_leave_nothing, nothing_left, removal_leaves_nothing}
use Rattle.op_steps.proofs.GoneSteps.{gone_ends}
use Rattle.op_delete.proofs.Slots.{first_writes}

-- ---- what its plans leave outside

mark_leaves_nothing : (g : Geometry) (f : SeenFile) → LeaveNothing (marking_writes g f)
mark_leaves_nothing g f = by_mark f.file.marked where
  by_mark : (t : Bool) → LeaveNothing (cond t [] (header_write g f.num (marked f.head) stage.Marked empty_handed ∷ []))
  by_mark true = λ w t. absurd t
  by_mark false = λ w t. elim t [ inl is ↦ ap (λ (v : PlanWrite). (planned v).outs) (sym is) | inr none ↦ absurd none ]

pub first_leave_nothing : (g : Geometry) (d : SeenDir) (e : DirEnt) (f : SeenFile) → LeaveNothing (unnaming_writes g d e f)
unfolding unnaming_writes
first_leave_nothing g d e f =
    both_leave_nothing (marking_writes g f) (removal_writes d e (cond f.file.marked stage.Nothing stage.Marked) stage.Unlinked)
    (mark_leaves_nothing g f) (removal_leaves_nothing d e (cond f.file.marked stage.Nothing stage.Marked) stage.Unlinked)

pub whole_outs : (g : Geometry) (d : SeenDir) (e : DirEnt) (f : SeenFile) (s : SeenSpace) → length s.storage ≡ length (blocks_for g (all_clusters g f)) → (o : Things)
    → outs_after o (map planned (unnaming_writes g d e f ++ freeing_writes g f s)) ≡ nothing
whole_outs g d e f s len o = outs_behind (unnaming_writes g d e f) (freeing_writes g f s) o nothing (λ t. gone_ends g f s t len)

module _ (dir : Fid) (name : List ℕ) (ver : ℕ) where
  abbrev x : Cmd
  x = cmd.Delete dir name ver

  -- what comes behind the directory
  abbrev pub behind : Geometry → SeenDir → Events
  behind g d = if_entry (entry_of (versions name (entries_of d)) ver) (delete_in g d)

  pub events_are : (g : Geometry) (channel : Option Chan) → events_of g channel x ≡ through_names g dir (behind g)
  unfolding events_of delete_events
  events_are g channel = refl

  -- ---- what holds at the end of each row of events, by the locks that are held there

  abbrev Held : Type 0
  Held = List (LockName × Mode)

  module _ (T : Events → Held → Type 0) (takes : (lock : LockName) (mode : Mode) (next : Events) (held : Held) → T next (held ++ (lock, mode) ∷ []) → T (Take lock mode next) held)
      (looks : (lock : LockName) (lbn : ℕ) (next : Block → Events) (held : Held) → ((b : Block) → T (next b) held) → T (Look lock lbn next) held)
      (refused : (r : Refusal) (held : Held) → T (refuses r) held) (lone : (d : SeenDir) (e : DirEnt) (held : Held) → T (entry_removed d e) held) (g : Geometry)
      (whole : (d : SeenDir) (e : DirEnt) (f : SeenFile) (s : SeenSpace) (held : Held) → length s.storage ≡ length (blocks_for g (all_clusters g f)) → Has (held_in PW held) (S f.num) → T (Make (delete_plan g d e f s)) held) where
    all_so : (lock : LockName) (ls : List ℕ) (next : List Block → Events) (held : Held) → ((bs : List Block) → length bs ≡ length ls → T (next bs) held) → T (look_all lock ls next) held
    all_so lock [] next held so = so [] refl
    all_so lock (l ∷ ls) next held so = looks lock l (λ b. look_all lock ls (λ bs. next (b ∷ bs))) held (λ b. all_so lock ls (λ bs. next (b ∷ bs)) held (λ bs e. so (b ∷ bs) (omega arith)))

    space_so : (d : SeenDir) (e : DirEnt) (f : SeenFile) (held : Held) → Has (held_in PW held) (S f.num) → T (through_space g f (λ s. Make (delete_plan g d e f s))) held
    space_so d e f held has =
        let ks = blocks_for g (all_clusters g f) in
        let with_q = held ++ (Q, PW) ∷ [] in
        let last = with_q ++ (V, PW) ∷ [] in
        takes Q PW _ held (all_so Q (quota_places g) _ with_q (λ quota q.
        takes V PW _ with_q (looks V (place_of g IndexBitmap) _ last (λ index.
        all_so V (map (λ k. place_of g (Storage k)) ks) _ last (λ storage len.
        whole d e f (record { quota = quota; index = index; storage = storage }) last (len ∙ length-map ks (λ k. place_of g (Storage k)))
        (held_with PW with_q ((V, PW) ∷ []) (S f.num) (held_with PW held ((Q, PW) ∷ []) (S f.num) has)))))))

    abbrev goes : SeenDir → DirEnt → SeenFile → Events
    goes d e f = if_empty f (through_space g f (λ s. Make (delete_plan g d e f s)))

    empty_so : (d : SeenDir) (e : DirEnt) (f : SeenFile) (held : Held) → Has (held_in PW held) (S f.num) → T (goes d e f) held
    empty_so d e f held has = by_dir f.file.dir where
      next : Events
      next = through_space g f (λ s. Make (delete_plan g d e f s))

      by_nil : (t : Bool) → T (cond t next (refuses refusal.DirNotEmpty)) held
      by_nil true = space_so d e f held has
      by_nil false = refused refusal.DirNotEmpty held

      by_dir : (t : Bool) → T (cond t (look_all (S f.num) (file_places f) (λ bs. cond (is_nil (entries_seen bs)) next (refuses refusal.DirNotEmpty))) next) held
      by_dir true = all_so (S f.num) (file_places f) _ held (λ bs len. by_nil (is_nil (entries_seen bs)))
      by_dir false = space_so d e f held has

    file_so : (d : SeenDir) (e : DirEnt) (f : SeenFile) (held : Held) → Has (held_in PW held) (S f.num) → T (through_chain g PW f (goes d e)) held
    file_so d e f held has =
        links_held_so T takes looks g PW (extra f.file.clusters) f.head f (goes d e) held (λ rest more len. empty_so d e (record f { rest = rest }) (held ++ more) (held_with PW held more (S f.num) has))

    used_so : (d : SeenDir) (e : DirEnt) (b : Block) (held : Held) → Has (held_in PW held) (S e.fid.num)
        → T (if_file (entry_removed d e) (λ first. through_chain g PW first (goes d e)) (option_map (seen_file g e.fid.num b) (used_in e.fid.seq b))) held
    used_so d e b held has = by_used (used_in e.fid.seq b) where
      by_used : (o : Option Hdr) → T (if_file (entry_removed d e) (λ first. through_chain g PW first (goes d e)) (option_map (seen_file g e.fid.num b) o)) held
      by_used None = lone d e held
      by_used (Some h) = file_so d e (seen_file g e.fid.num b h) held has

    abbrev first : Held
    first = (S dir.num, PW) ∷ []

    named_so : (d : SeenDir) (e : DirEnt) → d.fid.num ≡ dir.num → T (delete_in g d e) first
    named_so d e of = by_number (is_number g e.fid) where
      next : Block → Events
      next b = if_file (entry_removed d e) (λ first. through_chain g PW first (goes d e)) (option_map (seen_file g e.fid.num b) (used_in e.fid.seq b))

      by_same : (t : Bool) → (e.fid.num == d.fid.num) ≡ t
          → T (cond t (Look (S e.fid.num) (header_place g e.fid.num) next) (Take (S e.fid.num) PW (Look (S e.fid.num) (header_place g e.fid.num) next))) first
      by_same true same =
          let is : dir.num ≡ e.fid.num = grind (arith, nat_tests) in
          looks (S e.fid.num) (header_place g e.fid.num) next first (λ b. used_so d e b first (inl (ap S is)))
      by_same false same =
          takes (S e.fid.num) PW _ first (looks (S e.fid.num) (header_place g e.fid.num) next (first ++ (S e.fid.num, PW) ∷ []) (λ b. used_so d e b (first ++ (S e.fid.num, PW) ∷ []) (inr (inl refl))))

      by_number : (t : Bool) → T (cond t (under_lock g d.fid.num e.fid.num next) (entry_removed d e)) first
      by_number true = by_same (e.fid.num == d.fid.num) refl
      by_number false = lone d e first

    behind_so : (d : SeenDir) → d.fid.num ≡ dir.num → T (behind g d) first
    behind_so d of = by_entry (entry_of (versions name (entries_of d)) ver) where
      by_kept : (e : DirEnt) (t : Bool) → T (cond t (refuses refusal.NoPriv) (delete_in g d e)) first
      by_kept e true = refused refusal.NoPriv first
      by_kept e false = named_so d e of

      by_entry : (o : Option DirEnt) → T (if_entry o (delete_in g d)) first
      by_entry None = refused refusal.NoSuchFile first
      by_entry (Some e) = by_kept e (nat_le e.fid.num 11)

    names_so : T (through_names g dir (behind g)) []
    names_so = by_number (is_number g dir) where
      by_dir : (b : Block) (t : Bool) → T (cond t (look_all (S dir.num) (places_in b) (λ bs. behind g (record { fid = dir; head = b; blocks = bs }))) (refuses refusal.NotDir)) first
      by_dir b true = all_so (S dir.num) (places_in b) _ first (λ bs len. behind_so (record { fid = dir; head = b; blocks = bs }) refl)
      by_dir b false = refused refusal.NotDir first

      by_live : (b : Block) (o : Option Hdr) → T (in_directory dir b (λ bs. behind g (record { fid = dir; head = b; blocks = bs })) o) first
      by_live b None = refused refusal.NoSuchFile first
      by_live b (Some h) = by_dir b h.dir

      looking : Block → Events
      looking b = in_directory dir b (λ bs. behind g (record { fid = dir; head = b; blocks = bs })) (live_in dir.seq b)

      by_number : (t : Bool) → T (cond t (Take (S dir.num) PW (Look (S dir.num) (header_place g dir.num) looking)) (refuses refusal.NoSuchFile)) []
      by_number true = takes (S dir.num) PW _ [] (looks (S dir.num) (header_place g dir.num) looking first (λ b. by_live b (live_in dir.seq b)))
      by_number false = refused refusal.NoSuchFile []

    pub delete_so : (channel : Option Chan) → T (events_of g channel x) []
    delete_so channel = subst (λ es. T es []) (sym (events_are g channel)) names_so

  pub no_search : (g : Geometry) (channel : Option Chan) → HasNoSearch (events_of g channel x)
  no_search g channel =
      delete_so (λ es held. HasNoSearch es) (λ lock mode next held h. h) (λ lock lbn next held h. h) (λ r held. tt) (λ d e held. tt) g (λ d e f s held len has. tt) channel

  pub shaped : (g : Geometry) (channel : Option Chan) → EveryEnd (λ held p. IsShapedBy x held p p.ask) (events_of g channel x) []
  shaped g channel =
      delete_so (EveryEnd (λ held p. IsShapedBy x held p p.ask)) (λ lock mode next held h. h) (λ lock lbn next held h. h) (λ r held. (refl, refl)) (λ d e held. tt) g
      (λ d e f s held len has. let n = length-append (unnaming_writes g d e f) (freeing_writes g f s) in record { may = refl; by = refl; held = has; within = omega arith; refused = tt }) channel

  pub ends : (g : Geometry) (channel : Option Chan) (space : Space) → EndsBy (things space.clusters space.number) (HasNoSpace space) (events_of g channel x)
  ends g channel space =
      delete_so (λ es held. EndsBy (things space.clusters space.number) (HasNoSpace space) es) (λ lock mode next held h. h) (λ lock lbn next held h. h) (λ r held. nothing_given space)
      (λ d e held none. subst (λ t. outs_after t (map planned (removal_writes d e stage.Nothing stage.Done)) ≡ nothing) (sym (nothing_given space none)) (nothing_left (removal_writes d e stage.Nothing stage.Done) (removal_leaves_nothing d e stage.Nothing stage.Done))) g
      (λ d e f s held len has none. (
        whole_outs g d e f s len (things space.clusters space.number),
        subst (λ t. outs_after t (map planned (take (length (unnaming_writes g d e f)) (unnaming_writes g d e f ++ freeing_writes g f s))) ≡ nothing) (sym (nothing_given space none))
            (subst (λ ws. outs_after nothing (map planned ws) ≡ nothing) (sym (first_writes (unnaming_writes g d e f) (freeing_writes g f s))) (nothing_left (unnaming_writes g d e f) (first_leave_nothing g d e f))),
      )) channel
