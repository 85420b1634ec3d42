-- The law of EXTEND.
use Rattle.std.proofs.Common.{◌≡◌, ◌∙◌, ◌≤◌, ◌+◌, inl, inr, ℕ, Bool, true, false, List, [], ◌∷◌, ◌++◌, Option, Some, None, length, refl, sym, ap, subst}
use Rattle.std.specs.Prelude.{◌&&◌, is_some, is_none, option_map, IfSome}
use Rattle.std.specs.List.{list_all}
use Rattle.std.proofs.lemmas.Bool.{and_parts}
use Rattle.base_words.specs.Fields.{Block}
use Rattle.base_words.specs.Lists.{Has}
use Rattle.base_words.proofs.Listing.{has_parted}
use Rattle.fx_header.specs.declared.slot.Hdr.{Hdr}
use Rattle.lock_db.specs.declared.name.LockName.{LockName}
use Rattle.lock_db.specs.declared.name.LockName.TheVariants.{S, Q}
use Rattle.plain_cat.specs.declared.ids.Fid.{Fid}
use Rattle.plain_cat.specs.declared.mode.Mode.{Mode}
use Rattle.plain_cat.specs.declared.mode.Mode.TheVariants.{PW}
use Rattle.plain_cat.specs.declared.command.Cmd.{Cmd}
use Rattle.plain_cat.specs.declared.command.Cmd.TheVariants as cmd
use Rattle.plain_cat.specs.declared.history.Stage.TheVariants as stage
use Rattle.plain_cat.specs.declared.reply.Reply.TheVariants as reply
use Rattle.plain_cat.specs.declared.reply.Refusal.{Refusal}
use Rattle.plain_cat.specs.declared.reply.Refusal.TheVariants as refusal
use Rattle.plain_cat.specs.declared.cat.Cat.{Cat}
use Rattle.plain_cat.specs.declared.cat.File.{File}
use Rattle.plain_rules.specs.Lookups.{free_clusters, needs_header}
use Rattle.plain_rules.specs.Answers.{first_refusal, IsPick, Answer}
use Rattle.plain_rules.proofs.LawSteps.{pick_exists}
use Rattle.vol_spell.specs.Owners.{Owners, Things, nothing, Outs}
use Rattle.vol_spell.specs.Spread.{blocks_at}
use Rattle.vol_parts.specs.declared.geometry.Geometry.{Geometry}
use Rattle.vol_spell.specs.Reading.{header_block, quota_places, fields_told}
use Rattle.vol_spell.specs.Spelling.{Spells}
use Rattle.vol_under.specs.Chains.{Replied}
use Rattle.vol_under.specs.UnderWay.{StandsAt}
use Rattle.op_law.specs.declared.need.Plan.{Plan}
use Rattle.op_law.specs.declared.need.PlanWrite.{PlanWrite}
use Rattle.op_law.specs.declared.seen.Seen.{Seen}
use Rattle.op_law.specs.Events.{has_number}
use Rattle.op_law.specs.Fits.{things}
use Rattle.op_law.specs.Headers.{numbers_of}
use Rattle.op_law.specs.Knows.{channel_of, has_channel, wanted, is_short, is_new_number, is_charged, usages_fit, opens_hold, knows}
use Rattle.op_law.specs.Laws.{held_in, KeepsOut, LeavesSlots, Lawful}
use Rattle.op_law.specs.Needs.{events_of}
use Rattle.op_law.specs.Rows.{is_number, plain_plan}
use Rattle.op_law.specs.Sizes.{size_shown, growing_writes}
use Rattle.op_law.specs.Writing.{plan_of, clusters_for}
use Rattle.op_law.proofs.Doing.{busy, IsDone, refusal_done}
use Rattle.op_law.proofs.Links.{held_with}
use Rattle.op_law.proofs.Spaces.{IsKnown, clusters_given, space_given, known_space}
use Rattle.op_law.proofs.Telling.{not_live}
use Rattle.op_law.proofs.Through.{file_told}
use Rattle.op_law.proofs.Walking.{ObeysBy}
use Rattle.op_steps.specs.Files.{file_in}
use Rattle.op_steps.specs.GrownWrites.{IsNewSlot, grown_numbers}
use Rattle.op_extend.specs.Kinds.{IsExtend}
use Rattle.op_extend.proofs.Searches.{extend_once, extend_shaped}
use Rattle.op_extend.proofs.Ends.{growing_outs, growing_stage, growing_kept, extend_end}
use Rattle.op_extend.proofs.Locks.{quota_locks, locks_with, slot_for, slot_number, quota_held, file_in_quota}
use Rattle.op_extend.proofs.Replies.{head_checks, draft_checks, after_for, refuses_none, refuses_shown, refuses_unpaid, refuses_short, stands_done, grows_answer, suits_given}
use Rattle.op_extend.proofs.Growing.{IsLive, growing_steps, growing_named, growing_leaves, growing_fills}
use Rattle.op_extend.proofs.Walks.{WasGiven, plan, extend_obeys}
use Rattle.op_extend.proofs.Wanting.{WantsBy, extend_fine}
use Rattle.op_extend.proofs.Brief.{extend_brief}
use Rattle.op_extend.proofs.Fine.{lawful_by_seen}
use Rattle.op_steps.proofs.Looks.{held_last}

-- the usages are near what the files cost
usages : (node : ℕ) (file : Fid) (blocks : ℕ) (seen : Seen) (c : Cat) → knows node (cmd.Extend file blocks) seen c ≡ true → list_all (is_charged c) c.quota ≡ true
usages node file blocks seen c e =
    let x : Cmd = cmd.Extend file blocks in
    let a = and_parts (has_channel c node (channel_of x) seen.channel) (is_new_number seen.number && (is_short c (wanted seen x) seen.short && (usages_fit c x && opens_hold c x))) e in
    let b = and_parts (is_new_number seen.number) (is_short c (wanted seen x) seen.short && (usages_fit c x && opens_hold c x)) a.1 in
    let d = and_parts (is_short c (wanted seen x) seen.short) (usages_fit c x && opens_hold c x) b.1 in
    (and_parts (usages_fit c x) (opens_hold c x) d.1).0

module _ (file : Fid) (blocks : ℕ) (node : ℕ) (seen : Seen) (bs : List Block) (own : Owners) (c : Cat) (stock : Things) (s : Spells seen.geometry bs own c) (outs : Outs node own (things seen.clusters seen.number) stock)
    (fits : list_all (is_charged c) c.quota ≡ true) where
  abbrev g : Geometry
  g = seen.geometry

  abbrev x : Cmd
  x = cmd.Extend file blocks

  abbrev k : ℕ
  k = clusters_for seen.geometry blocks

  abbrev Done : List (LockName × Mode) → Plan → Type 0
  Done held p = IsDone (cmd.Extend file blocks) node seen bs own c stock held p

  refuses : (r : Refusal) → Answer c node (cmd.Extend file blocks) (reply.Refused r) c → (held : List (LockName × Mode)) → Done held (plain_plan (reply.Refused r))
  refuses r answer held = refusal_done x node seen bs own c stock s outs r answer held

  module _ (h : Hdr) (lives : IsLive seen.geometry bs c file h) (order : first_refusal (head_checks file.num (file_told bs seen.geometry file h) (clusters_for seen.geometry blocks)) ≡ None)
      (paid : first_refusal (draft_checks seen.geometry c (file_told bs seen.geometry file h) (clusters_for seen.geometry blocks)) ≡ None) (qs : List ℕ) where
    abbrev f : File
    f = file_told bs seen.geometry file h

    -- with these clusters, the slot of this number, and these locks, where this pick suits
    module _ (new : Option (ℕ × ℕ)) (out : Outs node own (things qs (option_map (λ p. p.0) new)) stock) (count : length qs ≡ clusters_for seen.geometry blocks) (enough : clusters_for seen.geometry blocks ≤ free_clusters c)
        (slot : IfSome new (IsNewSlot seen.geometry bs)) (needed : is_some new ≡ needs_header (file_told bs seen.geometry file h).clusters (clusters_for seen.geometry blocks)) (number : Option ℕ) (pick : IsPick c number)
        (suits : (needs_header (file_told bs seen.geometry file h).clusters (clusters_for seen.geometry blocks) && is_none number) ≡ false) (locks : List (LockName × Mode))
        (held : (m : ℕ) → Has (grown_numbers seen.geometry (file_in seen.geometry bs file.num h) new) m → Has (held_in PW locks) (S m)) (held_q : Has (held_in PW locks) Q)
        (same : things seen.clusters seen.number ≡ things qs (option_map (λ p. p.0) new)) where
      abbrev writes : List PlanWrite
      writes = growing_writes seen.geometry (file_in seen.geometry bs file.num h) (blocks_at bs (quota_places seen.geometry)) qs (clusters_for seen.geometry blocks) new

      abbrev grown_plan : Plan
      grown_plan = plan_of writes (size_shown seen.geometry ((file_told bs seen.geometry file h).clusters + clusters_for seen.geometry blocks))

      finish : (bs' : List Block) (own' : Owners) → Spells seen.geometry bs' own' (after_for seen.geometry c file.num f k) → Outs node own' nothing stock
          → Replied seen.geometry node (busy (cmd.Extend file blocks) node seen grown_plan) (cmd.Extend file blocks) (size_shown seen.geometry (f.clusters + k)) c stock bs' own'
      finish bs' own' spelt outs' =
          let stage_is = growing_stage g (file_in g bs file.num h) (blocks_at bs (quota_places g)) qs k new stage.Nothing in
          let outs_are = growing_outs g (file_in g bs file.num h) (blocks_at bs (quota_places g)) qs k new (things seen.clusters seen.number) in (
            after_for g c file.num f k,
            subst (λ st. StandsAt c node (Some (cmd.Extend file blocks)) st (after_for g c file.num f k)) (sym stage_is)
                (stands_done g c s.constants.factor node file blocks f lives.live order paid enough number pick suits),
            spelt,
            subst (λ t. Outs node own' t stock) (sym outs_are) outs',
            c.opens,
            grows_answer g c s.constants.factor node file blocks f lives.live order paid enough number pick suits,
          )

      grown_done : Done locks grown_plan
      grown_done =
          let names = held_in PW locks in
          record {
            named = growing_named node file blocks g bs own c s stock h lives order paid fits qs new out count enough slot needed number pick suits names held held_q;
            dirs = growing_leaves node file blocks g bs own c s stock h lives order paid fits qs new out count enough slot needed number pick suits names held held_q;
            slots = subst (λ (t : Things). LeavesSlots g own t writes) (sym same)
                (growing_fills node file blocks g bs own c s stock h lives order paid fits qs new out count enough slot needed number pick suits names held held_q);
            kept_out = subst (λ (t : Things). KeepsOut t names writes) (sym same) (growing_kept g (file_in g bs file.num h) (blocks_at bs (quota_places g)) qs k new names);
            steps = growing_steps node file blocks g bs own c s stock h lives order paid fits qs new out count enough slot needed number pick suits names held held_q
                (Replied g node (busy x node seen grown_plan) x (size_shown g (f.clusters + k)) c stock) finish;
          }

-- ---- by the number that was given

-- there is a slot exactly where a number is wanted
slot_needed : (g : Geometry) (bs : List Block) (w : Bool) (number : Option ℕ) → has_number w number ≡ true → is_some (slot_for g bs number) ≡ w
slot_needed g bs true None e = e
slot_needed g bs true (Some m) e = refl
slot_needed g bs false None e = refl
slot_needed g bs false (Some m) e = absurd (let f : false ≡ true = e in cc)

module _ (g : Geometry) (bs : List Block) (own : Owners) (c : Cat) (s : Spells g bs own c) (node : ℕ) (stock : Things) where
  slot_new : (qs : List ℕ) (number : Option ℕ) → Outs node own (things qs number) stock → is_new_number number ≡ true → IfSome (slot_for g bs number) (IsNewSlot g bs)
  slot_new qs None outs new = tt
  slot_new qs (Some m) outs new = let space = space_given g bs own c node qs m stock s outs new in record { number = space.number; above = space.above; seq = refl }

  -- a pick of the catalogue that suits
  pub record HasPick (w : Bool) : Type 0 where
    pub number : Option ℕ
    pub pick : IsPick c number
    pub suits : (w && is_none number) ≡ false

  pick_given : (w : Bool) (qs : List ℕ) (number : Option ℕ) → Outs node own (things qs number) stock → is_new_number number ≡ true → has_number w number ≡ true → HasPick w
  pick_given w qs (Some m) outs new e = record { number = Some m; pick = (space_given g bs own c node qs m stock s outs new).pick; suits = suits_given w (Some m) e }
  pick_given true qs None outs new e = absurd (let f : false ≡ true = e in cc)
  pick_given false qs None outs new e = let p = pick_exists c in record { number = p.0; pick = p.1; suits = refl }

-- the locks of the plan
plan_held : (g : Geometry) (bs : List Block) (n : ℕ) (h : Hdr) (number : Option ℕ) (m : ℕ) → Has (grown_numbers g (file_in g bs n h) (slot_for g bs number)) m → Has (held_in PW (locks_with g bs n number)) (S m)
plan_held g bs n h None m t = file_in_quota g bs n h m t
plan_held g bs n h (Some j) m t = elim (has_parted (numbers_of g (file_in g bs n h)) (j ∷ []) m t) [
  | inl u ↦ held_with PW (quota_locks g bs n) ((S j, PW) ∷ []) (S m) (file_in_quota g bs n h m u)
  | inr u ↦ by_new u
]
  where
    by_new : Has (j ∷ []) m → Has (held_in PW (quota_locks g bs n ++ (S j, PW) ∷ [])) (S m)
    by_new (inl e) = subst (λ i. Has (held_in PW (quota_locks g bs n ++ (S j, PW) ∷ [])) (S i)) e (held_last (quota_locks g bs n) (S j))
    by_new (inr none) = absurd none

plan_quota : (g : Geometry) (bs : List Block) (n : ℕ) (number : Option ℕ) → Has (held_in PW (locks_with g bs n number)) Q
plan_quota g bs n None = quota_held g bs n
plan_quota g bs n (Some j) = held_with PW (quota_locks g bs n) ((S j, PW) ∷ []) Q (quota_held g bs n)

module _ (file : Fid) (blocks : ℕ) (node : ℕ) (seen : Seen) (bs : List Block) (own : Owners) (c : Cat) (stock : Things) (s : Spells seen.geometry bs own c) (outs : Outs node own (things seen.clusters seen.number) stock)
    (known : knows node (cmd.Extend file blocks) seen c ≡ true) where
  abbrev So : List (LockName × Mode) → Plan → Type 0
  So held p = IsDone (cmd.Extend file blocks) node seen bs own c stock held p

  abbrev space_known : IsKnown node (cmd.Extend file blocks) seen own c stock
  space_known = known_space node (cmd.Extend file blocks) seen own c stock outs known

  fits_known : list_all (is_charged c) c.quota ≡ true
  fits_known = usages node file blocks seen c known

  made : (h : Hdr) → IsLive seen.geometry bs c file h → first_refusal (head_checks file.num (file_told bs seen.geometry file h) (clusters_for seen.geometry blocks)) ≡ None → (qs : List ℕ) (number : Option ℕ)
      → first_refusal (draft_checks seen.geometry c (file_told bs seen.geometry file h) (clusters_for seen.geometry blocks)) ≡ None → WasGiven file blocks node seen bs own c s stock space_known So h qs number
      → So (locks_with seen.geometry bs file.num number) (plan file blocks node seen bs own c s stock space_known So h qs number)
  made h lives order qs number paid given =
      let g = seen.geometry in
      let w = needs_header (file_told bs g file h).clusters (clusters_for g blocks) in
      let new = slot_for g bs number in
      let is = slot_number g bs number in
      let all : length qs ≤ free_clusters c = clusters_given g bs own c node qs number stock s given.outs in
      let p = pick_given g bs own c s node stock w qs number given.outs given.new given.given.number in
      grown_done file blocks node seen bs own c stock s outs fits_known h lives order paid qs new (subst (λ (o : Option ℕ). Outs node own (things qs o) stock) (sym is) given.outs) given.given.count
      (subst (λ z. z ≤ free_clusters c) given.given.count all) (slot_new g bs own c s node stock qs number given.outs given.new) (slot_needed g bs w number given.given.number) p.number p.pick p.suits
      (locks_with g bs file.num number) (plan_held g bs file.num h number) (plan_quota g bs file.num number) (given.same ∙ ap (things qs) (sym is))

  no_file : is_number seen.geometry file ≡ false → (held : List (LockName × Mode)) → So held (plain_plan (reply.Refused refusal.NoSuchFile))
  no_file e held =
      refuses file blocks node seen bs own c stock s outs fits_known refusal.NoSuchFile
      (refuses_none seen.geometry c s.constants.factor node file blocks (not_live seen.geometry bs own c s file e)) held

  -- on these blocks the command needs what it may, and its plan is done
  obeys : ((h : Hdr) → fields_told (header_block seen.geometry bs file.num) ≡ Some h → WantsBy file blocks seen h) → ObeysBy (cmd.Extend file blocks) seen.geometry bs own c seen So (events_of seen.geometry seen.channel (cmd.Extend file blocks)) []
  obeys wants =
      let g = seen.geometry in
      let w = s.constants.factor in
      let no_more : (r : Refusal) → Answer c node (cmd.Extend file blocks) (reply.Refused r) c → (held : List (LockName × Mode)) → So held (plain_plan (reply.Refused r)) = refuses file blocks node seen bs own c stock s outs fits_known in
      extend_obeys file blocks node seen bs own c s stock space_known So wants
      (λ none. no_more refusal.NoSuchFile (refuses_none g c w node file blocks none))
      (λ h lives r shows. no_more r (refuses_shown g c w node file blocks (file_told bs g file h) lives.live r shows))
      (λ h lives order r paid. no_more r (refuses_unpaid g c w node file blocks (file_told bs g file h) lives.live order r paid))
      (λ h lives order paid r short. no_more r (refuses_short g c w node file blocks (file_told bs g file h) lives.live order paid r short))
      (λ h lives order qs number paid given. made h lives order qs number paid given)

-- EXTEND is lawful
pub extend_lawful : (x : Cmd) → IsExtend x → Lawful x
extend_lawful (cmd.Extend file blocks) is = lawful_by_seen (cmd.Extend file blocks) (record {
  searches = extend_once file blocks;
  shaped = extend_shaped file blocks;
  ends = extend_end file blocks;
  fine = λ node seen has bs own c stock next s known stands outs goes.
      extend_fine file blocks seen bs own c s (IsDone (cmd.Extend file blocks) node seen bs own c stock) stands (no_file file blocks node seen bs own c stock s outs known) (obeys file blocks node seen bs own c stock s outs known) has next goes;
  brief = extend_brief file blocks;
})
extend_lawful other is = absurd is
