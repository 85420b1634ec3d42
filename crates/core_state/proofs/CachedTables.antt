-- What the locks that a node puts back at its answer leave of the value blocks: a lock that is lowered or given back from PW writes its
-- block, raised by what was written under it, and all other blocks stay.
use Rattle.std.proofs.Common.{◌≡◌, ◌≢◌, ◌≤◌, ◌+◌, ◌∙◌, ◌⊎◌, ℕ, Bool, true, false, cond, List, [], ◌∷◌, Option, Some, None, IsSome, MatchBool, refl, sym, ap, subst, inl, inr}
use Rattle.std.specs.Prelude.{is_some, replicate, unwrap_or}
use Rattle.lock_db.specs.declared.name.LockName.{LockName}
use Rattle.lock_db.specs.declared.resource.Resource.{Resource}
use Rattle.lock_db.specs.Queues.{is_writing, is_upward, without, lock_of}
use Rattle.lock_db.specs.Resources.{conversion_writes, mode_held}
use Rattle.lock_db.specs.Tables.{resource_at, converted, released}
use Rattle.lock_db.specs.Laws.{BlockIs, BlockStays, somebody}
use Rattle.lock_db.proofs.Blocks.{conversions-write, releases-write, converted-leaves, released-leaves}
use Rattle.plain_cat.specs.declared.mode.Mode.{Mode}
use Rattle.plain_cat.specs.declared.mode.Mode.TheVariants.{NL, CR, CW, PR, PW, EX}
use Rattle.base_words.specs.Lists.{Has, Once}
use Rattle.vol_parts.specs.declared.geometry.Geometry.{Geometry}
use Rattle.node_locks.specs.Held.{Row, system_of, names_of}
use Rattle.node_locks.specs.PuttingBack.{Keeps, Values, put_back, all_back, MayPutBack}
use Rattle.node_locks.specs.Sequences.{HasSequences, rise, raised, first_sequence, second_sequence, block_with, guards_blocks, raised_block}
use Rattle.node_locks.proofs.ReadingBack.{sequences_read_back}
use Rattle.op_law.specs.declared.need.PlanWrite.{PlanWrite}
use Rattle.core_state.specs.Raises.{is_first_part, raise_of}
use Rattle.core_state.specs.Caches.{part_sequence, raised_values}
use Rattle.core_state.specs.Small.{GoesOn}
use Rattle.core_state.specs.Stores.{part_raise}
use Rattle.core_state.proofs.SmallTables.{raised_fits}

-- ---- one lock

-- a lock that a node keeps in NL, or at which somebody else is
pub data IsThere (n : ℕ) (name : LockName) (t : List Resource) (o : Option Mode) : Type 0 where
  Kept : o ≡ Some NL → IsThere n name t o
  Shared : o ≡ None → somebody (without (system_of n) (resource_at name t).askers) ≡ true → IsThere n name t o

-- no mode is below NL, so none is raised to it
pub to_nl : (m : Mode) → is_upward m NL ≡ false
to_nl NL = refl
to_nl CR = refl
to_nl CW = refl
to_nl PR = refl
to_nl PW = refl
to_nl EX = refl

nl_writes : (m : Mode) (b : Bool) → is_writing m ≡ b → conversion_writes m NL ≡ b
nl_writes NL b e = e
nl_writes CR b e = e
nl_writes CW b e = e
nl_writes PR b e = e
nl_writes PW b e = e
nl_writes EX b e = e

some_lock : (o : Option Mode) (m : Mode) → o ≡ Some m → IsSome o
some_lock o m e = ap is_some e

module _ (n : ℕ) (t : List Resource) (l : LockName × Mode) (value : List ℕ) (granted : lock_of (system_of n) (resource_at l.0 t).askers ≡ Some l.1) where
  abbrev r : Resource
  r = resource_at l.0 t

  its_mode : mode_held (system_of n) r ≡ l.1
  its_mode = ap (λ o. unwrap_or o NL) granted

  lowered : (b : Bool) → is_writing l.1 ≡ b → MatchBool b (BlockIs value true (resource_at l.0 (converted l.0 (system_of n) NL value t))) (BlockStays r (resource_at l.0 (converted l.0 (system_of n) NL value t)))
  lowered b e =
      let w : conversion_writes (mode_held (system_of n) r) NL ≡ b = ap (λ m. conversion_writes m NL) its_mode ∙ nl_writes l.1 b e in
      subst (λ x. MatchBool x (BlockIs value true (resource_at l.0 (converted l.0 (system_of n) NL value t))) (BlockStays r (resource_at l.0 (converted l.0 (system_of n) NL value t)))) w
      (conversions-write l.0 (system_of n) NL value t (some_lock (lock_of (system_of n) r.askers) l.1 granted))

  gone : somebody (without (system_of n) r.askers) ≡ true → (b : Bool) → is_writing l.1 ≡ b
      → MatchBool b (BlockIs value true (resource_at l.0 (released l.0 (system_of n) value t))) (BlockStays r (resource_at l.0 (released l.0 (system_of n) value t)))
  gone some b e =
      let new : Resource = resource_at l.0 (released l.0 (system_of n) value t) in
      let h = releases-write l.0 (system_of n) value t in
      let w : is_writing (mode_held (system_of n) r) ≡ b = ap is_writing its_mode ∙ e in
      subst (λ x. MatchBool x (BlockIs value true new) (BlockStays r new)) w (subst (λ x. MatchBool x (MatchBool (is_writing (mode_held (system_of n) r)) (BlockIs value true new) (BlockStays r new)) (BlockIs (replicate 16 0) true new)) some h)

  -- its own block
  pub put_back_block : (o : Option Mode) → IsThere n l.0 t o → (b : Bool) → is_writing l.1 ≡ b
      → MatchBool b (BlockIs value true (resource_at l.0 (put_back n value l o t))) (BlockStays r (resource_at l.0 (put_back n value l o t)))
  put_back_block o (Kept is) b e = subst (λ x. MatchBool b (BlockIs value true (resource_at l.0 (put_back n value l x t))) (BlockStays r (resource_at l.0 (put_back n value l x t)))) (sym is) (lowered b e)
  put_back_block o (Shared is some) b e = subst (λ x. MatchBool b (BlockIs value true (resource_at l.0 (put_back n value l x t))) (BlockStays r (resource_at l.0 (put_back n value l x t)))) (sym is) (gone some b e)

-- and those of all other names
pub put_back_leaves : (n : ℕ) (value : List ℕ) (l : LockName × Mode) (o : Option Mode) (t : List Resource) (other : LockName) → other ≢ l.0 → (o ≡ None) ⊎ (o ≡ Some NL) → resource_at other (put_back n value l o t) ≡ resource_at other t
put_back_leaves n value l None t other ne is = released-leaves l.0 (system_of n) value t other ne
put_back_leaves n value l (Some m) t other ne is = converted-leaves l.0 (system_of n) m value t other ne

-- ---- the locks of a row

module _ (n : ℕ) (keeps : Keeps) (values : Values) (low : (l : LockName × Mode) → (keeps l ≡ None) ⊎ (keeps l ≡ Some NL)) where
  -- a name that is on none of them
  pub all_back_leaves : (ls : Row) (t : List Resource) (name : LockName) → (Has (names_of ls) name → ⊥) → resource_at name (all_back n keeps values ls t) ≡ resource_at name t
  all_back_leaves [] t name none = refl
  all_back_leaves (l ∷ ls) t name none =
      all_back_leaves ls (put_back n (values l t) l (keeps l) t) name (λ h. none (inr h)) ∙ put_back_leaves n (values l t) l (keeps l) t name (λ e. none (inl (sym e))) (low l)

  -- where what is written goes by the resource alone
  module _ (by_resource : (l : LockName × Mode) (t u : List Resource) → resource_at l.0 u ≡ resource_at l.0 t → values l u ≡ values l t) where
    pub all_back_block : (ls : Row) (t : List Resource) → Once (names_of ls) → MayPutBack n keeps values ls t → (l : LockName × Mode) → Has ls l → IsThere n l.0 t (keeps l) → (b : Bool) → is_writing l.1 ≡ b
        → MatchBool b (BlockIs (values l t) true (resource_at l.0 (all_back n keeps values ls t))) (BlockStays (resource_at l.0 t) (resource_at l.0 (all_back n keeps values ls t)))
    all_back_block [] t once may l h there b e = absurd h
    all_back_block (k ∷ ls) t once may l (inl is) there b e =
        subst (λ x. MatchBool b (BlockIs (values l t) true x) (BlockStays (resource_at l.0 t) x)) (sym (all_back_leaves ls (put_back n (values k t) k (keeps k) t) l.0 (λ h. once.0 (subst (λ (y : LockName × Mode). Has (names_of ls) y.0) (sym is) h))))
        (subst (λ (y : LockName × Mode). MatchBool b (BlockIs (values l t) true (resource_at l.0 (put_back n (values y t) y (keeps y) t))) (BlockStays (resource_at l.0 t) (resource_at l.0 (put_back n (values y t) y (keeps y) t)))) (sym is)
        (put_back_block n t l (values l t) (subst (λ (y : LockName × Mode). lock_of (system_of n) (resource_at y.0 t).askers ≡ Some y.1) is may.0) (keeps l) there b e))
    all_back_block (k ∷ ls) t once may l (inr h) there b e =
        let u : List Resource = put_back n (values k t) k (keeps k) t in
        let same : resource_at l.0 u ≡ resource_at l.0 t = put_back_leaves n (values k t) k (keeps k) t l.0 (λ f. once.0 (subst (Has (names_of ls)) f (name_in ls h))) (low k) in
        let rest = all_back_block ls u once.1 may.1 l h (there_on (keeps l) same there) b e in
        subst (λ v. MatchBool b (BlockIs v true (resource_at l.0 (all_back n keeps values ls u))) (BlockStays (resource_at l.0 t) (resource_at l.0 (all_back n keeps values ls u)))) (by_resource l t u same)
        (subst (λ x. MatchBool b (BlockIs (values l u) true (resource_at l.0 (all_back n keeps values ls u))) (BlockStays x (resource_at l.0 (all_back n keeps values ls u)))) same rest) where
          name_in : (xs : Row) → Has xs l → Has (names_of xs) l.0
          name_in [] t = absurd t
          name_in (x ∷ xs) (inl f) = inl (ap (λ (y : LockName × Mode). y.0) f)
          name_in (x ∷ xs) (inr t) = inr (name_in xs t)

          there_on : (o : Option Mode) → resource_at l.0 (put_back n (values k t) k (keeps k) t) ≡ resource_at l.0 t → IsThere n l.0 t o → IsThere n l.0 (put_back n (values k t) k (keeps k) t) o
          there_on o same (Kept is) = Kept is
          there_on o same (Shared is some) = Shared is (subst (λ (x : Resource). somebody (without (system_of n) x.askers) ≡ true) (sym same) some)

-- what the writes under a lock write goes by its resource alone
pub by_its_resource : (g : Geometry) (ws : List PlanWrite) (l : LockName × Mode) (t u : List Resource) → resource_at l.0 u ≡ resource_at l.0 t → raised_values g ws l u ≡ raised_values g ws l t
by_its_resource g ws l t u same = ap (λ r. raised_block l.0 (raise_of g l.0 ws) r) same

-- ---- the sequence of a part

-- In a block that was raised by some writes the sequence of a part is higher by just so much, where it goes on.
pub part_is_raised : (g : Geometry) (name : LockName) (lbn : ℕ) (ws : List PlanWrite) (old new : Resource) → guards_blocks name ≡ true → GoesOn (first_sequence old.value) → GoesOn (second_sequence old.value)
    → BlockIs (raised_block name (raise_of g name ws) old) true new → (raise_of g name ws).first ≤ 2 → (raise_of g name ws).second ≤ 2 → part_sequence g name lbn new ≡ part_sequence g name lbn old + rise old.valid (part_raise g name lbn ws)
part_is_raised g name lbn ws old new guards first second is few_first few_second = by_part (is_first_part g name lbn) where
  bytes : List ℕ
  bytes = block_with (raised old.valid (raise_of g name ws).first (first_sequence old.value)) (raised old.valid (raise_of g name ws).second (second_sequence old.value))

  now : new.value ≡ bytes
  now = is.bytes_are ∙ ap (λ (b : Bool). cond b bytes old.value) guards

  both : HasSequences (raised old.valid (raise_of g name ws).first (first_sequence old.value)) (raised old.valid (raise_of g name ws).second (second_sequence old.value)) bytes
  both = sequences_read_back (raised old.valid (raise_of g name ws).first (first_sequence old.value)) (raised old.valid (raise_of g name ws).second (second_sequence old.value))
      (raised_fits old.valid (raise_of g name ws).first (first_sequence old.value)) (raised_fits old.valid (raise_of g name ws).second (second_sequence old.value))

  by_part : (b : Bool) → cond b (first_sequence new.value) (second_sequence new.value) ≡ cond b (first_sequence old.value) (second_sequence old.value) + rise old.valid (cond b (raise_of g name ws).first (raise_of g name ws).second)
  by_part true = ap first_sequence now ∙ both.first_is ∙ first old.valid (raise_of g name ws).first few_first
  by_part false = ap second_sequence now ∙ both.second_is ∙ second old.valid (raise_of g name ws).second few_second
