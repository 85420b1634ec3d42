-- What a command looks at before a file goes: it may do so, and that is not much.
use Rattle.std.specs.Prelude.{not, nat_le, filter}
use Rattle.std.proofs.Common.{◌≡◌, ◌≤◌, ◌<◌, ◌+◌, ◌-◌, ◌++◌, ◌∙◌, Bool, true, false, cond, inl, inr, ℕ, List, [], ◌∷◌, Some, map, length, refl, ap, subst, arith}
use Rattle.std.proofs.lemmas.List.{length-map}
use Rattle.std.proofs.lemmas.Option.{get_or_from_slice_get}
use Rattle.base_words.specs.Fields.{Block}
use Rattle.fx_header.specs.declared.slot.Hdr.{Hdr}
use Rattle.lock_db.specs.declared.name.LockName.{LockName}
use Rattle.lock_db.specs.declared.name.LockName.TheVariants.{S, Q, V}
use Rattle.plain_cat.specs.Modes.{rank}
use Rattle.plain_cat.specs.declared.mode.Mode.{Mode}
use Rattle.plain_cat.specs.declared.mode.Mode.TheVariants.{PR, PW}
use Rattle.plain_cat.specs.declared.command.Cmd.{Cmd}
use Rattle.plain_cat.specs.declared.cat.Cat.{Cat}
use Rattle.plain_rules.specs.Lookups.{extra}
use Rattle.vol_spell.specs.declared.owner.Owner.TheVariants.{InFile}
use Rattle.base_words.specs.Lists.{Has}
use Rattle.vol_spell.specs.Owners.{Owners}
use Rattle.vol_parts.specs.declared.geometry.Geometry.{Geometry}
use Rattle.vol_parts.specs.declared.geometry.Part.{Part}
use Rattle.vol_parts.specs.declared.geometry.Part.TheVariants.{Storage, IndexBitmap}
use Rattle.vol_spell.specs.Places.{place_of, IsPart, file_of_part}
use Rattle.vol_spell.specs.Spelling.{Spells}
use Rattle.vol_spell.proofs.Parts.{part_there, part_owned}
use Rattle.vol_spell.proofs.Frames.{on_volume}
use Rattle.vol_under.specs.Guards.{Lock, guard_of}
use Rattle.op_law.specs.declared.need.Plan.{Plan}
use Rattle.op_law.specs.declared.seen.Seen.{Seen}
use Rattle.op_law.specs.Events.{Make, Space}
use Rattle.op_law.specs.Freeing.{SeenSpace, blocks_for, all_clusters, through_space}
use Rattle.op_law.specs.Headers.{through_chain, others_told, locks_behind}
use Rattle.op_law.specs.Knows.{takes_space}
use Rattle.op_law.specs.Laws.{held_in, Fixed, IsLockedLook}
use Rattle.op_law.specs.Refusing.{SeenFile}
use Rattle.op_law.proofs.Brief.{BriefBy, brief_more}
use Rattle.op_law.proofs.Counting.{all_brief, quota_brief, bitmap_few}
use Rattle.op_law.proofs.Levels.{AreUpTo, up_to_more, new_above, behind_above}
use Rattle.op_law.proofs.Links.{held_with, links_brief}
use Rattle.op_law.proofs.Through.{last_held, quota_obeys, all_obeys}
use Rattle.op_law.proofs.Walking.{ObeysBy}
use Rattle.op_steps.specs.Files.{file_in}
use Rattle.op_steps.proofs.Filters.{mapped}
use Rattle.op_steps.proofs.Named.{guarded, for_part}
use Rattle.op_steps.specs.FreeingGoneWrites.{HaveLocks, space_at}
use Rattle.op_steps.proofs.HeaderSlots.{seen_numbers}

-- a lock that was taken last in PW is held so
pub held_last : (held : List (LockName × Mode)) (name : LockName) → Has (held_in PW (held ++ (name, PW) ∷ [])) name
held_last [] name = inl refl
held_last (l ∷ held) name = by_test (nat_le (rank PW) (rank l.1)) (held_last held name) where
  by_test : (t : Bool) → Has (held_in PW (held ++ (name, PW) ∷ [])) name
      → Has (map (λ k. k.0) (cond t (l ∷ filter (λ k. nat_le (rank PW) (rank k.1)) (held ++ (name, PW) ∷ [])) (filter (λ k. nat_le (rank PW) (rank k.1)) (held ++ (name, PW) ∷ [])))) name
  by_test true h = inr h
  by_test false h = h

held_behind : (mode : Mode) (held more : List (LockName × Mode)) (name : LockName) → Has (held_in mode more) name → Has (held_in mode (held ++ more)) name
held_behind mode [] more name t = t
held_behind mode (l ∷ held) more name t = by_test (nat_le (rank mode) (rank l.1)) (held_behind mode held more name t) where
  by_test : (w : Bool) → Has (held_in mode (held ++ more)) name
      → Has (map (λ k. k.0) (cond w (l ∷ filter (λ k. nat_le (rank mode) (rank k.1)) (held ++ more)) (filter (λ k. nat_le (rank mode) (rank k.1)) (held ++ more)))) name
  by_test true u = inr u
  by_test false u = u

numbers_held : (ns : List ℕ) (m : ℕ) → Has ns m → Has (held_in PW (map (λ i. (S i, PW)) ns)) (S m)
numbers_held [] m t = absurd t
numbers_held (n ∷ ns) m (inl e) = inl (ap S e)
numbers_held (n ∷ ns) m (inr t) = inr (numbers_held ns m t)

-- behind the links of a file whose lock is held, those of all its headers are
pub chain_locks : (g : Geometry) (bs : List Block) (n : ℕ) (h : Hdr) (held : List (LockName × Mode)) → Has (held_in PW held) (S n) → HaveLocks g (file_in g bs n h) (held_in PW (held ++ locks_behind g bs n PW))
chain_locks g bs n h held has m (inl e) = held_with PW held (locks_behind g bs n PW) (S m) (subst (λ (i : ℕ). Has (held_in PW held) (S i)) e has)
chain_locks g bs n h held has m (inr t) =
    held_behind PW held (locks_behind g bs n PW) (S m) (numbers_held (others_told g bs n) m (subst (λ (ns : List ℕ). Has ns m) (seen_numbers g bs (others_told g bs n)) t))

-- ---- it may look

module _ (x : Cmd) (g : Geometry) (bs : List Block) (own : Owners) (c : Cat) (s : Spells g bs own c) (seen : Seen) (P : List (LockName × Mode) → Plan → Type 0) where
  -- a part of the volume under V
  part_look : (held : List (LockName × Mode)) → Has (held_in PR held) V → (p : Part) → IsPart g p → guard_of g own (place_of g p) ≡ Some (Lock V) → IsLockedLook g bs own c held V (place_of g p)
  part_look held has p is guard = record {
    kind = Fixed p (part_there g bs own c s p is);
    guard = guard;
    held = has;
    within = on_volume g bs own c s (place_of g p) (InFile (file_of_part p)) (part_owned g bs own c s p is);
  }

  -- Where the locks that are held come before Q: Q and the quota blocks, and V and the bitmap blocks, and a plan that is so by what
  -- these have.
  module _ (own_v : takes_space x ≡ false) (held : List (LockName × Mode)) (up : AreUpTo g bs own 15 held) where
    abbrev with_q : List (LockName × Mode)
    with_q = held ++ (Q, PW) ∷ []

    abbrev pub last : List (LockName × Mode)
    last = (held ++ (Q, PW) ∷ []) ++ (V, PW) ∷ []

    up_q : AreUpTo g bs own 16 (held ++ (Q, PW) ∷ [])
    up_q = up_to_more g bs own 15 16 held Q PW up (omega arith) (omega arith)

    pub last_q : Has (held_in PW ((held ++ (Q, PW) ∷ []) ++ (V, PW) ∷ [])) Q
    last_q = held_with PW (held ++ (Q, PW) ∷ []) ((V, PW) ∷ []) Q (held_last held Q)

    pub last_v : Has (held_in PW ((held ++ (Q, PW) ∷ []) ++ (V, PW) ∷ [])) V
    last_v = held_last (held ++ (Q, PW) ∷ []) V

    pub last_locks : (f : SeenFile) → HaveLocks g f (held_in PW held) → HaveLocks g f (held_in PW ((held ++ (Q, PW) ∷ []) ++ (V, PW) ∷ []))
    last_locks f has m t = held_with PW (held ++ (Q, PW) ∷ []) ((V, PW) ∷ []) (S m) (held_with PW held ((Q, PW) ∷ []) (S m) (has m t))

    pub space_obeys : (n : ℕ) (h : Hdr) (plan : SeenSpace → Plan) → P last (plan (space_at g bs n h)) → ObeysBy x g bs own c seen P (through_space g (file_in g bs n h) (λ sp. Make (plan sp))) held
    space_obeys n h plan done =
        let by = guarded g bs own c s in
        let qs = all_clusters g (file_in g bs n h) in
        let ks = blocks_for g qs in
        let has_v : Has (held_in PR last) V = last_held with_q V PW (inr (inl refl)) in
        quota_obeys x g bs own c s seen P held PW (inr (inl refl)) _ (new_above g bs own 15 held Q up (omega arith)) (behind_above g bs own c 15 held Q up (omega arith)) (
          record {
            new = new_above g bs own 16 with_q V up_q (omega arith);
            in_mode = inr (inl refl);
            own = ap (λ t. not t) own_v;
            turn = held_last held Q;
            after = behind_above g bs own c 16 with_q V up_q (omega arith);
          },
          (
            part_look last has_v IndexBitmap tt by.index,
            λ b at. all_obeys x g bs own c s seen P V last (map (λ k. place_of g (Storage k)) ks) _
                (λ l t. let m = mapped (λ k. place_of g (Storage k)) ks l t in
                subst (λ y. IsLockedLook g bs own c last V y) m.2 (part_look last has_v (Storage m.0) (for_part g qs m.0 m.1) (ap (guard_of g own) m.2 ∙ by.storage qs l t)))
                (subst (λ y. P last (plan (record (space_at g bs n h) { index = y }))) (get_or_from_slice_get bs (place_of g IndexBitmap) b [] at) done),
          ),
        )

-- ---- how much that is

module _ (g : Geometry) (bs : List Block) (own : Owners) (c : Cat) (s : Spells g bs own c) (space : Space) (most : ℕ) where
  pub space_brief : (f : SeenFile) (plan : SeenSpace → Plan) (locks looks : ℕ) → 2 ≤ locks → 33 ≤ looks → ((sp : SeenSpace) → length (plan sp).writes ≤ most)
      → BriefBy bs space most (through_space g f (λ sp. Make (plan sp))) locks looks
  space_brief f plan locks looks two fits few =
      let ks = blocks_for g (all_clusters g f) in
      let m = length-map ks (λ k. place_of g (Storage k)) in
      let k = bitmap_few g (all_clusters g f) s.counts.geometry in
      quota_brief bs space most g own c s PW _ locks looks (omega arith) (omega arith)
      (λ quota q. (
        omega arith,
        (
          omega arith,
          λ index at. all_brief bs space most V (map (λ k. place_of g (Storage k)) ks) _ 16 (locks - 1 - 1) (looks - 16 - 1) (omega arith) (omega arith)
              (λ storage len. few (record { quota = quota; index = index; storage = storage })),
        ),
      ))

  -- along the headers of the file besides
  pub chain_brief : (f : SeenFile) (plan : SeenFile → SeenSpace → Plan) (locks looks : ℕ) → extra f.file.clusters + 2 ≤ locks → extra f.file.clusters + 33 ≤ looks
      → ((rest : List (ℕ × Block)) (sp : SeenSpace) → length rest ≡ length f.rest + extra f.file.clusters → length (plan (record f { rest = rest }) sp).writes ≤ most)
      → BriefBy bs space most (through_chain g PW f (λ whole. through_space g whole (λ sp. Make (plan whole sp)))) locks looks
  chain_brief f plan locks looks two fits few =
      let k = extra f.file.clusters in
      brief_more bs space most (through_chain g PW f (λ whole. through_space g whole (λ sp. Make (plan whole sp)))) (k + 2) (k + 33) locks looks two fits
      (links_brief bs space most g PW k f.head f (λ whole. through_space g whole (λ sp. Make (plan whole sp))) 2 33
      (λ rest len. space_brief (record f { rest = rest }) (plan (record f { rest = rest })) 2 33 (omega arith) (omega arith) (λ sp. few rest sp len)))
