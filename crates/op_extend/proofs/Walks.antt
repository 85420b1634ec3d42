-- The events of EXTEND, walked along on blocks that have what it has seen.
use Rattle.std.proofs.Common.{◌≡◌, ◌<◌, ◌+◌, ◌-◌, ◌*◌, ◌/◌, ◌∙◌, inl, inr, ℕ, Bool, true, List, [], ◌∷◌, Option, Some, None, length, slice_get, refl, sym, ap, subst, arith}
use Rattle.std.specs.Prelude.{◌==◌, Ok, option_map}
use Rattle.std.proofs.lemmas.Bool.{and_parts, eqb-true}
use Rattle.base_words.specs.Fields.{Block}
use Rattle.fx_header.specs.declared.slot.Hdr.{Hdr}
use Rattle.fx_header.specs.declared.slot.Slot.TheVariants as head
use Rattle.fx_header.specs.Headers.{header_read}
use Rattle.lock_db.specs.declared.name.LockName.{LockName}
use Rattle.lock_db.specs.declared.name.LockName.TheVariants.{S, Q}
use Rattle.plain_cat.specs.declared.ids.Fid.{Fid}
use Rattle.plain_cat.specs.declared.mode.Mode.{Mode}
use Rattle.plain_cat.specs.declared.mode.Mode.TheVariants.{PW}
use Rattle.plain_cat.specs.declared.command.Cmd.{Cmd}
use Rattle.plain_cat.specs.declared.command.Cmd.TheVariants as cmd
use Rattle.plain_cat.specs.declared.reply.Reply.TheVariants as reply
use Rattle.plain_cat.specs.declared.reply.Refusal.{Refusal}
use Rattle.plain_cat.specs.declared.reply.Refusal.TheVariants as refusal
use Rattle.plain_cat.specs.declared.cat.Cat.{Cat}
use Rattle.plain_cat.specs.declared.cat.QuotaRow.{QuotaRow}
use Rattle.plain_rules.specs.Lookups.{live, row_of, needs_header}
use Rattle.plain_rules.specs.Answers.{first_refusal, over_draft}
use Rattle.vol_spell.specs.declared.owner.Owner.TheVariants.{Outside}
use Rattle.vol_spell.specs.Owners.{Owners, Things, Outs}
use Rattle.vol_spell.specs.Spread.{blocks_at}
use Rattle.vol_parts.specs.declared.geometry.Geometry.{Geometry}
use Rattle.vol_spell.specs.Reading.{IsFileNumber, header_block, quota_places, head_told, fields_told}
use Rattle.vol_spell.specs.Spelling.{Spells}
use Rattle.vol_spell.proofs.HeadSlots.{reads_fields}
use Rattle.op_law.specs.declared.need.Plan.{Plan}
use Rattle.op_law.specs.declared.seen.Seen.{Seen}
use Rattle.op_law.specs.Entering.{slot_seq}
use Rattle.op_law.specs.Events.{Events, Find, Space, space_of, has_number, has_space}
use Rattle.op_law.specs.Fits.{things}
use Rattle.op_law.specs.Headers.{through_chain}
use Rattle.op_law.specs.Knows.{Wanted, wanted, is_short, is_new_number}
use Rattle.op_law.specs.Needs.{events_of}
use Rattle.op_law.specs.Refusing.{seen_file, unless_refused, if_file, if_given}
use Rattle.op_law.specs.Rows.{plain_plan, refuses, live_in}
use Rattle.op_law.specs.Sizes.{size_shown, growing_writes, grown_by, into_headers, growing_events, extend_in, extend_events}
use Rattle.op_law.specs.Quotas.{rows_seen}
use Rattle.op_law.specs.Writing.{plan_of, clusters_for}
use Rattle.op_law.proofs.Levels.{AreUpTo, none_held, up_to_more, new_above, behind_above, outside_level}
use Rattle.op_law.proofs.Links.{chain_obeys, chain_up_to}
use Rattle.op_law.proofs.Ordering.{file_level}
use Rattle.op_law.proofs.Refusals.{passed}
use Rattle.op_law.proofs.Spaces.{IsKnown, space_given}
use Rattle.op_law.proofs.Telling.{live_is, not_live}
use Rattle.op_law.proofs.Through.{file_told, number_obeys, header_obeys, quota_obeys}
use Rattle.op_law.proofs.Walking.{ObeysBy}
use Rattle.op_steps.specs.Files.{file_in}
use Rattle.op_extend.proofs.Growing.{IsLive, reads_live, kept_out}
use Rattle.op_extend.proofs.Locks.{head_locks, quota_locks, locks_with, slot_for, quota_held}
use Rattle.op_extend.proofs.Replies.{head_checks, draft_checks, within}
use Rattle.op_extend.proofs.Wanting.{WantsBy}

-- what a search for so many clusters, and a number or none, gives where it is not refused
pub record IsGivenAs (clusters : ℕ) (wants : Bool) (cs : List ℕ) (n : Option ℕ) : Type 0 where
  pub count : length cs ≡ clusters
  pub number : has_number wants n ≡ true

pub given_as : (clusters : ℕ) (wants : Bool) (cs : List ℕ) (n : Option ℕ) → has_space clusters wants (record { clusters = cs; number = n; short = None }) ≡ true → IsGivenAs clusters wants cs n
given_as clusters wants cs n e =
    let parts = and_parts (length cs == clusters) (has_number wants n) e in
    record { count = eqb-true (length cs) clusters parts.0; number = parts.1 }

module _ (file : Fid) (blocks : ℕ) (node : ℕ) (seen : Seen) (bs : List Block) (own : Owners) (c : Cat) (s : Spells seen.geometry bs own c) (stock : Things) (known : IsKnown node (cmd.Extend file blocks) seen own c stock)
    (P : List (LockName × Mode) → Plan → Type 0) where
  abbrev x : Cmd
  x = cmd.Extend file blocks

  abbrev g : Geometry
  g = seen.geometry

  abbrev n : ℕ
  n = file.num

  abbrev k : ℕ
  k = clusters_for seen.geometry blocks

  abbrev O : Events → List (LockName × Mode) → Type 0
  O es held = ObeysBy (cmd.Extend file blocks) seen.geometry bs own c seen P es held

  -- a refusal is so, whatever locks are held
  abbrev pub No : Refusal → Type 0
  No r = (ls : List (LockName × Mode)) → P ls (plain_plan (reply.Refused r))

  abbrev quota : List Block
  quota = blocks_at bs (quota_places seen.geometry)

  -- the refusals that the header shows, and those of the quota rows
  abbrev pub Shows : Hdr → Option Refusal → Type 0
  Shows h o = first_refusal (head_checks file.num (file_told bs seen.geometry file h) (clusters_for seen.geometry blocks)) ≡ o

  abbrev pub Paid : Hdr → Option Refusal → Type 0
  Paid h o = first_refusal (draft_checks seen.geometry c (file_told bs seen.geometry file h) (clusters_for seen.geometry blocks)) ≡ o

  -- whether the file needs a new header
  abbrev pub needs : Hdr → Bool
  needs h = needs_header (h.blocks / seen.geometry.cluster) (clusters_for seen.geometry blocks)

  -- the plan with these clusters and this number
  abbrev pub plan : Hdr → List ℕ → Option ℕ → Plan
  plan h qs number = plan_of (growing_writes seen.geometry (file_in seen.geometry bs file.num h) (blocks_at bs (quota_places seen.geometry)) qs (clusters_for seen.geometry blocks) (slot_for seen.geometry bs number))
      (size_shown seen.geometry ((file_told bs seen.geometry file h).clusters + clusters_for seen.geometry blocks))

  -- what was given: outside at the node, as many clusters as are wanted, and a number if one is
  pub record WasGiven (h : Hdr) (qs : List ℕ) (number : Option ℕ) : Type 0 where
    pub outs : Outs node own (things qs number) stock
    pub new : is_new_number number ≡ true
    pub given : IsGivenAs (clusters_for seen.geometry blocks) (needs h) qs number
    pub same : things seen.clusters seen.number ≡ things qs number

  -- what comes behind the quota blocks
  abbrev by_rows : Hdr → List Block → List QuotaRow → Events
  by_rows h qs rs =
      unless_refused (first_refusal ((over_draft (row_of (file_told bs seen.geometry file h).owner rs) (seen.geometry.cluster * clusters_for seen.geometry blocks), refusal.ExQuota) ∷ []))
      (Find (clusters_for seen.geometry blocks) (needs h) (if_given (into_headers seen.geometry (file_in seen.geometry bs file.num h) qs (clusters_for seen.geometry blocks))))

  module _ (h : Hdr) (lives : IsLive seen.geometry bs c file h) (wants : WantsBy file blocks seen h) (order : Shows h None)
      (unpaid : (r : Refusal) → Paid h (Some r) → No r) (short : Paid h None → (r : Refusal) → is_short c (record { clusters = clusters_for seen.geometry blocks; number = needs h }) (Some r) ≡ true → No r)
      (made : (qs : List ℕ) (number : Option ℕ) → Paid h None → WasGiven h qs number → P (locks_with seen.geometry bs file.num number) (plan h qs number)) where
    reads : head_told (header_block seen.geometry bs file.num) ≡ Ok (head.Used h)
    reads = reads_live g bs c file h lives

    used : fields_told (header_block seen.geometry bs file.num) ≡ Some h
    used = reads_fields (header_block g bs n) h reads

    above : 11 < file.num
    above = (kept_out n h.dir (passed (head_checks n (file_told bs g file h) k) order).0).0

    -- the locks that are held come before Q, and before a number that no file has
    low : AreUpTo seen.geometry bs own 0 ((S file.num, PW) ∷ [])
    low = let first = file_level g bs own c s n h lives.number reads in up_to_more g bs own 0 0 [] (S n) PW (none_held g bs own 0) (omega arith) (omega arith)

    up : AreUpTo seen.geometry bs own 15 (head_locks seen.geometry bs file.num)
    up = chain_up_to g bs own c s n h lives.number used PW ((S n, PW) ∷ []) low

    up_q : AreUpTo seen.geometry bs own 16 (quota_locks seen.geometry bs file.num)
    up_q = up_to_more g bs own 15 16 (head_locks g bs n) Q PW up (omega arith) (omega arith)

    into : (qs : List ℕ) (number : Option ℕ) → Paid h None → WasGiven h qs number → seen.number ≡ number → O (into_headers seen.geometry (file_in seen.geometry bs file.num h) quota (clusters_for seen.geometry blocks) qs number) (quota_locks seen.geometry bs file.num)
    into qs None paid given is = made qs None paid given
    into qs (Some m) paid given is =
        let space = space_given g bs own c node qs m stock s given.outs given.new in
        let out : slice_get own.numbers (m - 1) ≡ Some (Outside node) = (given.outs.numbers.all (m - 1)).1 (inl (inl refl)) in
        let last = outside_level g bs own m node out in
        number_obeys x g bs own c s seen P (quota_locks g bs n) PW (inr (inl refl)) m (λ slot. grown_by g (file_in g bs n h) quota k qs (Some (m, slot_seq (header_read slot))))
        (new_above g bs own 16 (quota_locks g bs n) (S m) up_q (omega arith)) (inr is) (behind_above g bs own c 16 (quota_locks g bs n) (S m) up_q (omega arith)) space.number (made qs (Some m) paid given)

    wanted_is : wanted seen (cmd.Extend file blocks) ≡ record { clusters = clusters_for seen.geometry blocks; number = needs h }
    wanted_is = ap (λ w. record { clusters = k; number = w }) wants

    by_space : Paid h None → (cs : List ℕ) (m : Option ℕ) (why : Option Refusal) → space_of seen ≡ record { clusters = cs; number = m; short = why }
        → has_space (clusters_for seen.geometry blocks) (needs h) (record { clusters = cs; number = m; short = why }) ≡ true
        → O (if_given (into_headers seen.geometry (file_in seen.geometry bs file.num h) quota (clusters_for seen.geometry blocks)) cs m why) (quota_locks seen.geometry bs file.num)
    by_space paid cs m (Some r) is_so has =
        let why : is_short c (wanted seen x) (Some r) ≡ true = subst (λ (y : Space). is_short c (wanted seen (cmd.Extend file blocks)) y.short ≡ true) is_so known.short in
        short paid r (subst (λ (w : Wanted). is_short c w (Some r) ≡ true) wanted_is why) (quota_locks g bs n)
    by_space paid cs m None is_so has =
        let same : things seen.clusters seen.number ≡ things cs m = ap (λ (y : Space). things y.clusters y.number) is_so in
        let number : seen.number ≡ m = ap (λ (y : Space). y.number) is_so in
        into cs m paid (record {
          outs = subst (λ t. Outs node own t stock) same known.outs;
          new = subst (λ o. is_new_number o ≡ true) number known.new;
          given = given_as k (needs h) cs m has;
          same = same;
        }) number

    by_quota : (o : Option Refusal) → Paid h o
        → O (unless_refused o (Find (clusters_for seen.geometry blocks) (needs h) (if_given (into_headers seen.geometry (file_in seen.geometry bs file.num h) quota (clusters_for seen.geometry blocks))))) (quota_locks seen.geometry bs file.num)
    by_quota (Some r) paid = unpaid r paid (quota_locks g bs n)
    by_quota None paid = (
      record { takes = refl; quota = quota_held g bs n; few = (within n (file_told bs g file h) k order).growth; clusters_are = refl; number_is = sym wants },
      λ has given. by_space paid seen.clusters seen.number seen.short refl has,
    )

    behind_heads : O (growing_events seen.geometry (clusters_for seen.geometry blocks) (file_in seen.geometry bs file.num h)) (head_locks seen.geometry bs file.num)
    behind_heads =
        let rows : c.quota ≡ rows_seen quota = s.rows.quota in
        quota_obeys x g bs own c s seen P (head_locks g bs n) PW (inr (inl refl)) (λ qs. by_rows h qs (rows_seen qs))
        (new_above g bs own 15 (head_locks g bs n) Q up (omega arith)) (behind_above g bs own c 15 (head_locks g bs n) Q up (omega arith))
        (subst (λ rs. O (by_rows h quota rs) (quota_locks g bs n)) rows (by_quota (first_refusal (draft_checks g c (file_told bs g file h) k)) refl))

    behind_header : O (extend_in seen.geometry (clusters_for seen.geometry blocks) (seen_file seen.geometry file.num (header_block seen.geometry bs file.num) h)) ((S file.num, PW) ∷ [])
    behind_header =
        let sf = seen_file g n (header_block g bs n) h in
        subst (λ (o : Option Refusal). O (unless_refused o (through_chain g PW sf (growing_events g k))) ((S n, PW) ∷ [])) (sym order)
        (chain_obeys x g bs own c s seen P n h lives.number used PW (inr (inl refl)) ((S n, PW) ∷ []) low (growing_events g k) above behind_heads)

  module _ (wants : (h : Hdr) → fields_told (header_block seen.geometry bs file.num) ≡ Some h → WantsBy file blocks seen h) (none : live c file ≡ None → No refusal.NoSuchFile)
      (shows : (h : Hdr) → IsLive seen.geometry bs c file h → (r : Refusal) → Shows h (Some r) → No r)
      (unpaid : (h : Hdr) → IsLive seen.geometry bs c file h → Shows h None → (r : Refusal) → Paid h (Some r) → No r)
      (short : (h : Hdr) → IsLive seen.geometry bs c file h → Shows h None → Paid h None → (r : Refusal) → is_short c (record { clusters = clusters_for seen.geometry blocks; number = needs h }) (Some r) ≡ true → No r)
      (made : (h : Hdr) → IsLive seen.geometry bs c file h → Shows h None → (qs : List ℕ) (number : Option ℕ) → Paid h None → WasGiven h qs number → P (locks_with seen.geometry bs file.num number) (plan h qs number)) where
    by_order : (h : Hdr) → IsLive seen.geometry bs c file h → (o : Option Refusal) → Shows h o
        → O (extend_in seen.geometry (clusters_for seen.geometry blocks) (seen_file seen.geometry file.num (header_block seen.geometry bs file.num) h)) ((S file.num, PW) ∷ [])
    by_order h lives None order =
        behind_header h lives (wants h (reads_fields (header_block g bs n) h (reads_live g bs c file h lives))) order (unpaid h lives order) (short h lives order) (made h lives order)
    by_order h lives (Some r) order =
        subst (λ (o : Option Refusal). O (unless_refused o (through_chain g PW (seen_file g n (header_block g bs n) h) (growing_events g k))) ((S n, PW) ∷ [])) (sym order) (shows h lives r order ((S n, PW) ∷ []))

    lives_so : IsFileNumber seen.geometry file.num → (o : Option Hdr) → live_in file.seq (header_block seen.geometry bs file.num) ≡ o → live c file ≡ option_map (file_told bs seen.geometry file) o
    lives_so is o e = live_is g bs own c s file is ∙ ap (option_map (file_told bs g file)) e

    by_live : IsFileNumber seen.geometry file.num → (o : Option Hdr) → live_in file.seq (header_block seen.geometry bs file.num) ≡ o
        → O (if_file (refuses refusal.NoSuchFile) (extend_in seen.geometry (clusters_for seen.geometry blocks)) (option_map (seen_file seen.geometry file.num (header_block seen.geometry bs file.num)) o)) ((S file.num, PW) ∷ [])
    by_live is None e = none (lives_so is None e) ((S n, PW) ∷ [])
    by_live is (Some h) e = by_order h (record { number = is; header = e; live = lives_so is (Some h) e }) (first_refusal (head_checks n (file_told bs g file h) k)) refl

    pub extend_obeys : O (events_of seen.geometry seen.channel (cmd.Extend file blocks)) []
    unfolding events_of extend_events
    extend_obeys = header_obeys x g bs own c s seen P file [] (λ t. t) (inl (λ t. t)) (λ other t. absurd t) PW (inr (inl refl))
        (λ b. if_file (refuses refusal.NoSuchFile) (extend_in g k) (option_map (seen_file g n b) (live_in file.seq b)))
        (λ e. none (not_live g bs own c s file e) []) (λ is. by_live is (live_in file.seq (header_block g bs n)) refl)
