-- The events of a command that makes a file, walked along on blocks that have what it has seen.
use Rattle.std.proofs.Common.{◌≡◌, inl, inr, ℕ, Bool, true, false, List, [], ◌∷◌, Option, Some, None, length, refl, sym, ap, subst, arith}
use Rattle.std.specs.Prelude.{◌==◌, ◌-◌, ◌&&◌}
use Rattle.std.proofs.lemmas.Bool.Decides.{nat_tests}
use Rattle.base_words.specs.Fields.{Block}
use Rattle.fx_header.specs.declared.slot.Hdr.{Hdr}
use Rattle.lock_db.specs.declared.name.LockName.{LockName}
use Rattle.lock_db.specs.declared.name.LockName.TheVariants.{S, Q}
use Rattle.plain_cat.specs.declared.mode.Mode.{Mode}
use Rattle.plain_cat.specs.declared.mode.Mode.TheVariants.{PW}
use Rattle.plain_cat.specs.declared.entries.DirEnt.{DirEnt}
use Rattle.plain_cat.specs.declared.command.Cmd.{Cmd}
use Rattle.plain_cat.specs.declared.reply.Reply.TheVariants as reply
use Rattle.plain_cat.specs.declared.reply.Refusal.{Refusal}
use Rattle.plain_cat.specs.declared.reply.Refusal.TheVariants as refusal
use Rattle.plain_cat.specs.declared.cat.Cat.{Cat}
use Rattle.plain_cat.specs.declared.cat.QuotaRow.{QuotaRow}
use Rattle.plain_rules.specs.Lookups.{live}
use Rattle.plain_rules.specs.Answers.{first_refusal, shown}
use Rattle.base_words.specs.Lists.{Has}
use Rattle.vol_spell.specs.Owners.{Owners, Things, Outs}
use Rattle.vol_spell.specs.Spread.{blocks_at}
use Rattle.vol_parts.specs.declared.geometry.Geometry.{Geometry}
use Rattle.vol_spell.specs.Reading.{header_block, head_told, quota_places}
use Rattle.vol_spell.specs.Spelling.{Spells}
use Rattle.op_law.specs.declared.need.Plan.{Plan}
use Rattle.op_law.specs.declared.seen.Seen.{Seen}
use Rattle.op_law.specs.Events.{Events, Find, Space, space_of, has_space}
use Rattle.op_law.specs.Knows.{wanted, is_short, is_new_number}
use Rattle.op_law.specs.Rows.{plain_plan}
use Rattle.op_law.specs.Refusing.{unless_refused, if_space}
use Rattle.op_law.specs.Writing.{plan_of}
use Rattle.op_law.specs.Quotas.{rows_seen}
use Rattle.op_law.specs.Moving.{SeenDir, entries_of}
use Rattle.op_law.specs.Entering.{numbered, entry_for, making_writes, quota_refusals, made_of, into_slot, making_events}
use Rattle.op_law.specs.Fits.{things}
use Rattle.op_law.specs.Order.{level, IsBefore, Higher}
use Rattle.op_law.proofs.Levels.{outside_level}
use Rattle.op_law.proofs.Ordering.{file_level}
use Rattle.op_law.proofs.Telling.{live_reads}
use Rattle.op_law.proofs.Walking.{ObeysBy}
use Rattle.op_law.proofs.Through.{file_header, file_told, IsListed, number_obeys, quota_obeys, directory_obeys}
use Rattle.op_steps.specs.EntryWrites.{dir_in}
use Rattle.op_create.specs.Kinds.{IsMake}
use Rattle.op_create.proofs.Makers.{Maker, to_make, maker_events, maker}
use Rattle.op_create.proofs.Forms.{in_order, is_wanted}
use Rattle.op_law.proofs.Spaces.{not_live_number, IsSpace, space_given, IsShort, space_refused, IsKnown}

-- a search that is not refused gives as many clusters as were wanted
pub given_all : (clusters : ℕ) (cs : List ℕ) (n : ℕ) → has_space clusters true (record { clusters = cs; number = Some n; short = None }) ≡ true → length cs ≡ clusters
given_all clusters cs n e = by_test (length cs == clusters) refl e where
  by_test : (t : Bool) → (length cs == clusters) ≡ t → (t && true) ≡ true → length cs ≡ clusters
  by_test true is k = grind (arith, nat_tests)
  by_test false is k = absurd (cc)

none_given : (clusters : ℕ) (cs : List ℕ) → has_space clusters true (record { clusters = cs; number = None; short = None }) ≡ true → ⊥
none_given clusters cs e = by_test (length cs == clusters) e where
  by_test : (t : Bool) → (t && false) ≡ true → ⊥
  by_test true k = absurd (cc)
  by_test false k = absurd (cc)

module _ (x : Cmd) (is : IsMake x) (node : ℕ) (seen : Seen) (bs : List Block) (own : Owners) (c : Cat) (s : Spells seen.geometry bs own c) (stock : Things) (known : IsKnown node x seen own c stock) (P : List (LockName × Mode) → Plan → Type 0) where
  abbrev g : Geometry
  g = seen.geometry

  abbrev m : Maker
  m = maker g x is

  abbrev O : Events → List (LockName × Mode) → Type 0
  O es held = ObeysBy x g bs own c seen P es held

  -- a refusal is so, whatever locks are held
  abbrev pub No : Refusal → Type 0
  No r = (ls : List (LockName × Mode)) → P ls (plain_plan (reply.Refused r))

  -- the directory, its entries and the quota blocks, as they were seen
  abbrev pub d : SeenDir
  d = dir_in g bs m.dir

  abbrev pub es : List DirEnt
  es = entries_of d

  abbrev pub quota : List Block
  quota = blocks_at bs (quota_places g)

  -- no refusal of the quota blocks
  abbrev pub Paid : Option Refusal → Type 0
  Paid o = first_refusal (quota_refusals g (to_make m es) c.quota) ≡ o

  abbrev pub locks : ℕ → List (LockName × Mode)
  locks n = (S m.dir.num, PW) ∷ (Q, PW) ∷ (S n, PW) ∷ []

  -- these clusters and this number are those that were given
  pub record IsOfSpace (n : ℕ) (qs : List ℕ) : Type 0 where
    pub clusters : seen.clusters ≡ qs
    pub number : seen.number ≡ Some n

  -- the plan, with the slot of the number as it was seen
  abbrev pub plan : ℕ → List ℕ → Plan
  plan n qs =
      let e = numbered (header_block g bs n) (to_make m es) in
      plan_of (making_writes g d quota e n qs) (shown (entry_for n e))

  module _ (f : Hdr) (dir : IsListed g bs c m.dir f) (order : first_refusal (m.refusals es) ≡ None)
      (unpaid : (r : Refusal) → Paid (Some r) → No r) (short : (r : Refusal) → Paid None → IsShort c m.file.clusters r → No r)
      (made : (n : ℕ) (qs : List ℕ) → Paid None → IsSpace g c qs n → Outs node own (things qs (Some n)) stock → length qs ≡ m.file.clusters → IsOfSpace n qs → P (locks n) (plan n qs)) where
    -- the directory is a file in use
    dir_level : level g bs own (S m.dir.num) ≡ 0
    dir_level = file_level g bs own c s m.dir.num f dir.number (live_reads m.dir.seq (head_told (file_header bs g m.dir)) f dir.header)

    abbrev two : List (LockName × Mode)
    two = (S m.dir.num, PW) ∷ (Q, PW) ∷ []

    into : (n : ℕ) (qs : List ℕ) → Paid None → IsSpace g c qs n → Outs node own (things qs (Some n)) stock → length qs ≡ m.file.clusters → IsOfSpace n qs → O (into_slot g d quota (to_make m es) qs n) two
    into n qs paid given outs count of_space =
        number_obeys x g bs own c s seen P two PW (inr (inl refl)) n (λ slot. made_of g d quota (numbered slot (to_make m es)) n qs) new (inr of_space.number) after given.number (made n qs paid given outs count of_space) where
          new : Has (S m.dir.num ∷ Q ∷ []) (S n) → ⊥
          new (inl e) = not_live_number c m.dir (file_told bs g m.dir f) n given.free dir.live (let h : S m.dir.num ≡ S n = e in cc)
          new (inr (inl e)) = absurd (cc)
          new (inr (inr t)) = t

          last : level g bs own (S n) ≡ 20
          last = outside_level g bs own n node ((outs.numbers.all (n - 1)).1 (inl (inl refl)))

          after : (other : LockName) → Has (S m.dir.num ∷ Q ∷ []) other → IsBefore g bs own c other (S n)
          after other (inl e) = subst (λ y. IsBefore g bs own c y (S n)) e (Higher (let a = dir_level in let b = last in omega arith))
          after other (inr (inl e)) = subst (λ y. IsBefore g bs own c y (S n)) e (Higher (let b = last in omega arith))
          after other (inr (inr t)) = absurd t

    by_space : Paid None → (cs : List ℕ) (n : Option ℕ) (why : Option Refusal) → space_of seen ≡ record { clusters = cs; number = n; short = why } → has_space m.file.clusters true (record { clusters = cs; number = n; short = why }) ≡ true
        → O (if_space (into_slot g d quota (to_make m es)) cs n why) two
    by_space paid cs n (Some r) is_so has =
        let want = is_wanted seen x is in
        short r paid (subst (λ k. IsShort c k r) (sym want.clusters) (space_refused c (wanted seen x) r (sym want.number) (subst (λ (y : Space). is_short c (wanted seen x) y.short ≡ true) is_so known.short))) two
    by_space paid cs None None is_so has = absurd (none_given m.file.clusters cs has)
    by_space paid cs (Some n) None is_so has =
        let out : Outs node own (things cs (Some n)) stock = subst (λ (y : Space). Outs node own (things y.clusters y.number) stock) is_so known.outs in
        let new : is_new_number (Some n) ≡ true = subst (λ (y : Space). is_new_number y.number ≡ true) is_so known.new in
        into n cs paid (space_given g bs own c node cs n stock s out new) out (given_all m.file.clusters cs n has)
        (record { clusters = ap (λ (y : Space). y.clusters) is_so; number = ap (λ (y : Space). y.number) is_so })

    by_quota : (o : Option Refusal) → Paid o → O (unless_refused o (Find m.file.clusters true (if_space (into_slot g d quota (to_make m es))))) two
    by_quota (Some r) paid = unpaid r paid two
    by_quota None paid =
        let want = is_wanted seen x is in (
          record { takes = want.takes; quota = inr (inl refl); few = (in_order g x is es order).few; clusters_are = want.clusters; number_is = want.number },
          λ has given. by_space paid seen.clusters seen.number seen.short refl has,
        )

    -- what comes behind the quota blocks
    abbrev by_rows : List Block → List QuotaRow → Events
    by_rows qs rs = unless_refused (first_refusal (quota_refusals g (to_make m es) rs)) (Find m.file.clusters true (if_space (into_slot g d qs (to_make m es))))

    making_obeys : O (making_events g d (to_make m es)) ((S m.dir.num, PW) ∷ [])
    making_obeys =
        let rows : c.quota ≡ rows_seen quota = s.rows.quota in
        quota_obeys x g bs own c s seen P ((S m.dir.num, PW) ∷ []) PW (inr (inl refl)) (λ qs. by_rows qs (rows_seen qs)) new behind_dir
        (subst (λ rs. O (by_rows quota rs) two) rows
        (by_quota (first_refusal (quota_refusals g (to_make m es) c.quota)) refl)) where
          new : Has (S m.dir.num ∷ []) Q → ⊥
          new (inl e) = absurd (cc)
          new (inr t) = t

          behind_dir : (other : LockName) → Has (S m.dir.num ∷ []) other → IsBefore g bs own c other Q
          behind_dir other (inl e) = subst (λ y. IsBefore g bs own c y Q) e (Higher (let a = dir_level in omega arith))
          behind_dir other (inr t) = absurd t

  module _ (none : live c m.dir ≡ None → No refusal.NoSuchFile)
      (plain : (f : Hdr) → live c m.dir ≡ Some (file_told bs g m.dir f) → f.dir ≡ false → No refusal.NotDir)
      (shows : (f : Hdr) → IsListed g bs c m.dir f → (r : Refusal) → first_refusal (m.refusals es) ≡ Some r → No r)
      (unpaid : (f : Hdr) → IsListed g bs c m.dir f → first_refusal (m.refusals es) ≡ None → (r : Refusal) → Paid (Some r) → No r)
      (short : (f : Hdr) → IsListed g bs c m.dir f → first_refusal (m.refusals es) ≡ None → (r : Refusal) → Paid None → IsShort c m.file.clusters r → No r)
      (made : (f : Hdr) → IsListed g bs c m.dir f → first_refusal (m.refusals es) ≡ None → (n : ℕ) (qs : List ℕ) → Paid None → IsSpace g c qs n → Outs node own (things qs (Some n)) stock → length qs ≡ m.file.clusters
      → IsOfSpace n qs → P (locks n) (plan n qs)) where
    by_order : (f : Hdr) → IsListed g bs c m.dir f → (o : Option Refusal) → first_refusal (m.refusals es) ≡ o → O (unless_refused o (making_events g d (to_make m es))) ((S m.dir.num, PW) ∷ [])
    by_order f dir None order = making_obeys f dir order (unpaid f dir order) (short f dir order) (made f dir order)
    by_order f dir (Some r) order = shows f dir r order ((S m.dir.num, PW) ∷ [])

    -- what comes behind the directory
    abbrev behind : Block → List Block → Events
    behind h blocks = let seen : SeenDir = record { fid = m.dir; head = h; blocks = blocks } in unless_refused (first_refusal (m.refusals (entries_of seen))) (making_events g seen (to_make m (entries_of seen)))

    pub makes_obey : O (maker_events g m) []
    makes_obey = directory_obeys x g bs own c s seen P m.dir [] (λ h. h) (inl (λ h. h)) (λ other h. absurd h) PW (inr (inl refl)) behind none (λ f lives e. plain f lives e _) (λ f dir. by_order f dir (first_refusal (m.refusals es)) refl)
