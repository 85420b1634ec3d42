-- The value blocks of locks as a node puts back its own at its answer: a lock that it holds in PW writes its block, raised by what was
-- written under it, and the block of each other lock stays that somebody has still.
use Rattle.std.proofs.Common.{◌≡◌, ◌⊎◌, ◌≤◌, ◌++◌, ℕ, Bool, true, false, cond, not, List, [], Option, Some, None, MatchBool, refl, sym, ap, subst, ◌∙◌, inl, inr, arith}
use Rattle.std.proofs.lemmas.List.{append-nil}
use Rattle.lock_db.specs.declared.name.LockName.{LockName}
use Rattle.lock_db.specs.declared.name.LockName.TheVariants.{A}
use Rattle.lock_db.specs.declared.resource.Resource.{Resource}
use Rattle.lock_db.specs.Queues.{is_writing, without, lock_of}
use Rattle.lock_db.specs.Tables.{resource_at}
use Rattle.lock_db.specs.Laws.{BlockIs, BlockStays, somebody}
use Rattle.lock_db.proofs.Blocks.{released-leaves}
use Rattle.plain_cat.specs.Modes.{rank}
use Rattle.plain_cat.specs.declared.mode.Mode.{Mode}
use Rattle.plain_cat.specs.declared.mode.Mode.TheVariants.{NL, CR, CW, PR, PW, EX}
use Rattle.plain_cat.specs.declared.command.Cmd.{Cmd}
use Rattle.plain_cat.specs.declared.command.Cmd.TheVariants as command
use Rattle.plain_cat.specs.declared.reply.Reply.{Reply}
use Rattle.plain_rules.specs.Own.{is_closed}
use Rattle.base_words.specs.Lists.{Has, Once}
use Rattle.base_words.proofs.Listing.{has_parted}
use Rattle.node_locks.specs.Held.{Row, system_of, joined, names_of, HoldsItsLocks, waits_at}
use Rattle.node_locks.specs.PuttingBack.{Values, all_back, MayPutBack}
use Rattle.node_locks.specs.Sequences.{raised_block, guards_blocks}
use Rattle.node_locks.proofs.Keeping.{may_change}
use Rattle.node_locks.proofs.Nodes.{has_name_or_not}
use Rattle.op_law.specs.declared.seen.Chan.{Chan}
use Rattle.core_state.specs.Worlds.{NodeState, Plain, node_at, rows_of, rows_in}
use Rattle.core_state.specs.Raises.{raise_of}
use Rattle.core_state.specs.Channels.{let_go, closed_off}
use Rattle.core_state.specs.Caches.{has_entry, keeps, raised_values}
use Rattle.core_state.specs.Stores.{IsWriter}
use Rattle.core_state.specs.Goods.{held_by, Good}
use Rattle.core_state.specs.Events.{all_writes, stays, going, used_locks, all_put_back}
use Rattle.core_state.proofs.Holding.{in_held_is, is_in_held, named_there}
use Rattle.core_state.proofs.Naming.{named_by}
use Rattle.core_state.proofs.Running.{kept_held, all_asked, claims_held, held_among}
use Rattle.core_state.proofs.Keeping.{names_parted, kept_once, asked_once, claims_once, kept_apart, asked_apart}
use Rattle.core_state.proofs.Sweeps.{has_filter, filter_names, filter_once, once_names}
use Rattle.core_state.proofs.CachedTables.{IsThere, Kept, Shared, all_back_leaves, all_back_block, by_its_resource}
use Rattle.core_state.proofs.CachedAnswers.{BlockGoes, Raised, Unraised}
use Rattle.core_state.proofs.PutBacks.{low_keeps, keeps_entry, keeps_none, stays_under, may_locked, all_go, given_is}

-- ---- modes

pub writes_pw : (m : Mode) → rank PW ≤ rank m → is_writing m ≡ true
writes_pw NL le = absurd (omega (arith, le))
writes_pw CR le = absurd (omega (arith, le))
writes_pw CW le = absurd (omega (arith, le))
writes_pw PR le = absurd (omega (arith, le))
writes_pw PW le = refl
writes_pw EX le = refl

pub pw_writes : (m : Mode) → is_writing m ≡ true → rank PW ≤ rank m
pw_writes NL e = absurd (let f : false ≡ true = e in cc)
pw_writes CR e = absurd (let f : false ≡ true = e in cc)
pw_writes CW e = absurd (let f : false ≡ true = e in cc)
pw_writes PR e = absurd (let f : false ≡ true = e in cc)
pw_writes PW e = omega arith
pw_writes EX e = omega arith

-- ---- the lock of a channel is none that guards blocks

pub closed_leaves : (n : ℕ) (had : Option Chan) (x : Cmd) (r : Reply) (t : List Resource) (name : LockName) → guards_blocks name ≡ true → resource_at name (closed_off n had x r t) ≡ resource_at name t
closed_leaves n had (command.CloseFile chan) r t name guards = by_reply (is_closed r) had where
  by_reply : (b : Bool) (o : Option Chan) → resource_at name (cond b (let_go n chan o t) t) ≡ resource_at name t
  by_reply false o = refl
  by_reply true None = refl
  by_reply true (Some p) = released-leaves (A p.file.num) (record { node = n; part = chan }) _ t name (λ e. absurd (let f : true ≡ false = sym guards ∙ ap guards_blocks e in cc))
closed_leaves n had y r t name guards = refl

module _ (w : Plain) (good : Good w) (n : ℕ) (s : NodeState) (at : node_at w.nodes n ≡ Some s) (free : waits_at w.locks n s.asked ≡ false) (granted : waits_at w.locks n s.claims ≡ false) where
  abbrev used : Row
  used = used_locks s

  abbrev gone : Row
  gone = going s

  abbrev values : Values
  values = raised_values w.geometry (all_writes s)

  abbrev mid : List Resource
  mid = all_back n (keeps s.cache) values used w.locks

  abbrev last : List Resource
  last = all_back n all_go values gone mid

  all_mine : HoldsItsLocks w.locks n (rows_of s)
  all_mine = subst (λ (rs : List Row). HoldsItsLocks w.locks n rs) (ap rows_in at) (good.locked.1 n)

  -- ---- the table has all of these locks

  used_held : (l : LockName × Mode) → Has used l → Has (held_by w.locks n s) l
  used_held l h = elim (has_parted s.asked s.claims l h) [ inl a ↦ all_asked w.locks n s l free a | inr c ↦ claims_held w.locks n s l granted c ]

  used_locked : (l : LockName × Mode) → Has used l → lock_of (system_of n) (resource_at l.0 w.locks).askers ≡ Some l.1
  used_locked l h = may_change w.locks n l (rows_of s) all_mine (used_held l h)

  kept_locked : (l : LockName × Mode) → Has s.kept l → lock_of (system_of n) (resource_at l.0 w.locks).askers ≡ Some l.1
  kept_locked l h = may_change w.locks n l (rows_of s) all_mine (kept_held w.locks n s l (good.nodes n s at).rests h)

  pub used_once : Once (names_of used)
  used_once = once_names s.asked s.claims (asked_once s all_mine.once) (claims_once s all_mine.once) (λ name a c. asked_apart s name all_mine.once a c)

  pub gone_once : Once (names_of gone)
  gone_once = filter_once (λ l. not (stays s l)) s.kept (kept_once s all_mine.once)

  pub used_apart : (name : LockName) → Has (names_of s.kept) name → Has (names_of used) name → ⊥
  used_apart name a h = kept_apart s name all_mine.once a (names_parted s.asked s.claims name h)

  pub gone_apart : (name : LockName) → Has (names_of gone) name → Has (names_of used) name → ⊥
  gone_apart name a h = used_apart name (filter_names (λ l. not (stays s l)) s.kept name a) h

  pub used_may : MayPutBack n (keeps s.cache) values used w.locks
  used_may = may_locked n (keeps s.cache) values (low_keeps s.cache) used w.locks used_once used_locked

  gone_leaves : (name : LockName) → (Has (names_of gone) name → ⊥) → resource_at name last ≡ resource_at name mid
  gone_leaves name none = all_back_leaves n all_go values (λ l. inl refl) gone mid name none

  used_leaves : (name : LockName) → (Has (names_of used) name → ⊥) → resource_at name mid ≡ resource_at name w.locks
  used_leaves name none = all_back_leaves n (keeps s.cache) values (low_keeps s.cache) used w.locks name none

  gone_may : MayPutBack n all_go values gone mid
  gone_may = may_locked n all_go values (λ l. inl refl) gone mid gone_once
      (λ l h. ap (λ (r : Resource). lock_of (system_of n) r.askers) (used_leaves l.0 (λ k. gone_apart l.0 (named_there gone l.0 l.1 h) k)) ∙ kept_locked l (has_filter (λ l. not (stays s l)) s.kept l h).0)

  -- ---- who writes

  -- what it keeps, of the locks that guard blocks, is in NL
  kept_low : (name : LockName) (mode : Mode) → guards_blocks name ≡ true → Has s.kept (name, mode) → mode ≡ NL
  kept_low name mode guards h = elim ((good.nodes n s at).store.kept (name, mode) h) [ inl low ↦ low.1 | inr x ↦ absurd (let f : true ≡ false = sym guards ∙ ap guards_blocks x.0 in cc) ]

  -- a lock of the command or of its rules, in a mode that writes
  record IsUsedToWrite (name : LockName) : Type 0 where
    in_mode : Mode
    has : Has used (name, in_mode)
    writing : is_writing in_mode ≡ true

  writer_used : (name : LockName) → guards_blocks name ≡ true → IsWriter w n s name → IsUsedToWrite name
  writer_used name guards h =
      let k = in_held_is PW (held_by w.locks n s) name h in
      let l : LockName × Mode = (name, k.in_mode) in
      let there : Has (joined (rows_of s)) l = held_among w.locks n (rows_of s) l k.has in
      elim (has_parted s.kept (s.asked ++ (s.claims ++ [])) l there) [
        | inl a ↦ absurd (let e : rank k.in_mode ≡ rank NL = ap rank (kept_low name k.in_mode guards a) in let le : rank PW ≤ rank k.in_mode = k.strong in omega (arith, e, le))
        | inr b ↦ record { in_mode = k.in_mode; has = subst (λ (ls : Row). Has (s.asked ++ ls) l) (append-nil s.claims) b; writing = writes_pw k.in_mode k.strong }
      ]

  used_writer : (name : LockName) (mode : Mode) → Has used (name, mode) → is_writing mode ≡ true → IsWriter w n s name
  used_writer name mode h e = is_in_held PW (held_by w.locks n s) name (record { in_mode = mode; has = used_held (name, mode) h; strong = pw_writes mode e })

  used_reader : (name : LockName) (mode : Mode) → guards_blocks name ≡ true → Has used (name, mode) → is_writing mode ≡ false → IsWriter w n s name → ⊥
  used_reader name mode guards h e writer =
      let k = writer_used name guards writer in
      let f : Some k.in_mode ≡ Some mode = sym (used_locked (name, k.in_mode) k.has) ∙ used_locked (name, mode) h in
      let same : k.in_mode ≡ mode = cc in
      absurd (let g : true ≡ false = sym k.writing ∙ ap is_writing same ∙ e in cc)

  -- ---- the blocks

  -- the node has an entry under the lock, or somebody else is at it
  abbrev pub IsWatched : LockName → Type 0
  IsWatched name = (has_entry s.cache name ≡ true) ⊎ (somebody (without (system_of n) (resource_at name w.locks).askers) ≡ true)

  module _ (name : LockName) (guards : guards_blocks name ≡ true) (watched : IsWatched name) where
    abbrev Goes : List Resource → Type 0
    Goes t = BlockGoes w n s (all_writes s) name t

    -- a lock that was used
    used_there : (mode : Mode) → IsThere n name w.locks (keeps s.cache (name, mode))
    used_there mode = by_entry (has_entry s.cache name) refl watched where
      by_entry : (b : Bool) → has_entry s.cache name ≡ b → IsWatched name → IsThere n name w.locks (keeps s.cache (name, mode))
      by_entry true e h = Kept (keeps_entry s.cache (name, mode) e)
      by_entry false e (inl f) = absurd (let g : true ≡ false = sym f ∙ e in cc)
      by_entry false e (inr some) = Shared (keeps_none s.cache (name, mode) e) some

    used_goes : (mode : Mode) → Has used (name, mode) → Goes last
    used_goes mode h = by_mode (is_writing mode) refl (all_back_block n (keeps s.cache) values (low_keeps s.cache) (by_its_resource w.geometry (all_writes s)) used w.locks used_once used_may (name, mode) h (used_there mode) (is_writing mode) refl) where
      same : resource_at name last ≡ resource_at name mid
      same = gone_leaves name (λ a. gone_apart name a (named_there used name mode h))

      by_mode : (b : Bool) → is_writing mode ≡ b → MatchBool b (BlockIs (raised_block name (raise_of w.geometry name (all_writes s)) (resource_at name w.locks)) true (resource_at name mid)) (BlockStays (resource_at name w.locks) (resource_at name mid)) → Goes last
      by_mode true e is = Raised (used_writer name mode h e) (subst (BlockIs (raised_block name (raise_of w.geometry name (all_writes s)) (resource_at name w.locks)) true) (sym same) is)
      by_mode false e stay = Unraised (used_reader name mode guards h e) (subst (BlockStays (resource_at name w.locks)) (sym same) stay)

    -- one that was not
    module _ (none : Has (names_of used) name → ⊥) where
      not_writer : IsWriter w n s name → ⊥
      not_writer writer = let k = writer_used name guards writer in none (named_there used name k.in_mode k.has)

      kept_goes : (mode : Mode) → Has gone (name, mode) → Goes last
      kept_goes mode h = by_watch watched where
        its : Has s.kept (name, mode) × (not (stays s (name, mode)) ≡ true)
        its = has_filter (λ l. not (stays s l)) s.kept (name, mode) h

        by_watch : IsWatched name → Goes last
        by_watch (inl entry) = absurd (let f : false ≡ true = sym (ap not (stays_under s name mode guards entry)) ∙ its.1 in cc)
        by_watch (inr some) =
            let left : resource_at name mid ≡ resource_at name w.locks = used_leaves name none in
            let there : IsThere n name mid (all_go (name, mode)) = Shared refl (ap (λ (r : Resource). somebody (without (system_of n) r.askers)) left ∙ some) in
            let low : is_writing mode ≡ false = ap is_writing (kept_low name mode guards its.0) in
            let stay : BlockStays (resource_at name mid) (resource_at name last) = all_back_block n all_go values (λ l. inl refl) (by_its_resource w.geometry (all_writes s)) gone mid gone_once gone_may (name, mode) h there false low in
            Unraised not_writer (subst (λ (r : Resource). BlockStays r (resource_at name last)) left stay)

      left_goes : (Has (names_of gone) name → ⊥) → Goes last
      left_goes far =
          let left : resource_at name last ≡ resource_at name w.locks = gone_leaves name far ∙ used_leaves name none in
          Unraised not_writer (record { bytes = ap (λ (r : Resource). r.value) left; mark = ap (λ (r : Resource). r.valid) left })

      unused_goes : Goes last
      unused_goes = elim (has_name_or_not (names_of gone) name) [ inl h ↦ let k = named_by gone name h in kept_goes k.0 k.1 | inr far ↦ left_goes far ]

    last_goes : Goes last
    last_goes = elim (has_name_or_not (names_of used) name) [ inl h ↦ let k = named_by used name h in used_goes k.0 k.1 | inr none ↦ unused_goes none ]

    pub block_goes : Goes (all_put_back w n s)
    block_goes = subst Goes (sym (given_is w.geometry n (all_writes s) gone mid)) last_goes
