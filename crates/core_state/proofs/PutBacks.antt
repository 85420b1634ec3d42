-- The locks that a node puts back at its answer: each is lowered to NL, where a cached block is under it, and else it goes back.
use Rattle.std.proofs.Common.{◌≡◌, ◌≢◌, ◌⊎◌, ◌||◌, ◌++◌, ℕ, Bool, true, false, cond, List, [], ◌∷◌, Option, Some, None, is_some, refl, sym, ap, subst, ◌∙◌, inl, inr}
use Rattle.std.specs.List.{list_any}
use Rattle.lock_db.specs.declared.name.LockName.{LockName}
use Rattle.lock_db.specs.declared.name.LockName.TheVariants.{S, A, Q, X, V}
use Rattle.lock_db.specs.declared.name.Owner.{Owner}
use Rattle.lock_db.specs.declared.resource.Resource.{Resource}
use Rattle.lock_db.specs.Queues.{lock_of}
use Rattle.lock_db.specs.Tables.{IsTable, resource_at, converted, released}
use Rattle.lock_db.proofs.Names.{is_same-refl, is_same-same}
use Rattle.lock_db.proofs.Steps.{IsTable-converted, IsTable-released}
use Rattle.plain_cat.specs.declared.mode.Mode.{Mode}
use Rattle.plain_cat.specs.declared.mode.Mode.TheVariants.{NL, CW}
use Rattle.plain_cat.specs.declared.cat.Open.{Open}
use Rattle.base_words.specs.Lists.{Has, Once}
use Rattle.base_words.proofs.Listing.{has_first, has_second}
use Rattle.vol_parts.specs.declared.geometry.Geometry.{Geometry}
use Rattle.node_locks.specs.Held.{Row, system_of, names_of}
use Rattle.node_locks.specs.PuttingBack.{Keeps, Values, put_back, all_back, kept_by, kept_of, IsLow, MayPutBack}
use Rattle.node_locks.specs.Sequences.{raised_block, guards_blocks}
use Rattle.node_cache.specs.Cached.{Cached, is_under}
use Rattle.op_law.specs.declared.need.PlanWrite.{PlanWrite}
use Rattle.core_state.specs.Worlds.{NodeState}
use Rattle.core_state.specs.Opens.{AreOpensLocked}
use Rattle.core_state.specs.Raises.{raise_of}
use Rattle.core_state.specs.Caches.{has_entry, keeps, raised_values, lowered_of}
use Rattle.core_state.specs.Events.{given_back, stays}
use Rattle.core_state.proofs.Holding.{named_there}
use Rattle.core_state.proofs.Opens.{opens_released, opens_converted}
use Rattle.core_state.proofs.CachedTables.{to_nl, put_back_leaves}
use Rattle.plain_rules.proofs.Ordered.{or_right}

-- ---- which are kept

keep_or_not : (b : Bool) → (cond b (Some NL) None ≡ None) ⊎ (cond b (Some NL) None ≡ Some NL)
keep_or_not true = inr refl
keep_or_not false = inl refl

pub low_keeps : (es : List Cached) (l : LockName × Mode) → (keeps es l ≡ None) ⊎ (keeps es l ≡ Some NL)
low_keeps es l = keep_or_not (has_entry es l.0)

low_by : (m : Mode) (b : Bool) → IsLow m (cond b (Some NL) None)
low_by m true = (to_nl m, λ e f. absurd (let g : NL ≡ CW = f in cc))
low_by m false = tt

pub is_low : (es : List Cached) (l : LockName × Mode) → IsLow l.1 (keeps es l)
is_low es l = low_by l.1 (has_entry es l.0)

pub keeps_entry : (es : List Cached) (l : LockName × Mode) → has_entry es l.0 ≡ true → keeps es l ≡ Some NL
keeps_entry es l e = ap (λ (b : Bool). cond b (Some NL) None) e

pub keeps_none : (es : List Cached) (l : LockName × Mode) → has_entry es l.0 ≡ false → keeps es l ≡ None
keeps_none es l e = ap (λ (b : Bool). cond b (Some NL) None) e

pub entry_under : (es : List Cached) (e : Cached) → Has es e → has_entry es e.lock ≡ true
entry_under [] e h = absurd h
entry_under (x ∷ es) e (inl is) = ap (λ (b : Bool). b || list_any (is_under e.lock) es) (subst (λ (y : Cached). is_under e.lock y ≡ true) (sym is) (is_same-refl e.lock))
entry_under (x ∷ es) e (inr t) = or_right (is_under e.lock x) (has_entry es e.lock) (entry_under es e t)

-- a lock with a cached block under it guards blocks
pub under_guards : (es : List Cached) → ((e : Cached) → Has es e → guards_blocks e.lock ≡ true) → (name : LockName) → has_entry es name ≡ true → guards_blocks name ≡ true
under_guards [] guarding name h = absurd (let f : false ≡ true = h in cc)
under_guards (e ∷ es) guarding name h = by_test (is_under name e) refl (under_guards es (λ y t. guarding y (inr t)) name) h where
  by_test : (b : Bool) → is_under name e ≡ b → (has_entry es name ≡ true → guards_blocks name ≡ true) → (b || list_any (is_under name) es) ≡ true → guards_blocks name ≡ true
  by_test true same rest f = subst (λ (k : LockName). guards_blocks k ≡ true) (sym (is_same-same name e.lock same)) (guarding e (inl refl))
  by_test false same rest f = rest f

-- a kept lock that guards blocks stays where there is one
pub stays_under : (s : NodeState) (name : LockName) (mode : Mode) → guards_blocks name ≡ true → has_entry s.cache name ≡ true → stays s (name, mode) ≡ true
stays_under s (S n) mode guards e = e
stays_under s (A n) mode guards e = absurd (let f : false ≡ true = guards in cc)
stays_under s Q mode guards e = e
stays_under s X mode guards e = absurd (let f : false ≡ true = guards in cc)
stays_under s V mode guards e = e

-- ---- what is kept of a row

pub has_lowered : (keeps : Keeps) (ls : Row) (l : LockName × Mode) (m : Mode) → Has ls l → keeps l ≡ Some m → Has (kept_of keeps ls) (l.0, m)
has_lowered keeps [] l m h e = absurd h
has_lowered keeps (k ∷ ls) l m (inl is) e = has_first (kept_by k (keeps k)) (kept_of keeps ls) (l.0, m)
    (subst (λ (y : LockName × Mode). Has (kept_by y (keeps y)) (l.0, m)) (sym is) (subst (λ (o : Option Mode). Has (kept_by l o) (l.0, m)) (sym e) (inl refl)))
has_lowered keeps (k ∷ ls) l m (inr t) e = has_second (kept_by k (keeps k)) (kept_of keeps ls) (l.0, m) (has_lowered keeps ls l m t e)

pub lowered_is : (es : List Cached) (ls : Row) (l : LockName × Mode) → Has (lowered_of es ls) l → (has_entry es l.0 ≡ true) × (l.1 ≡ NL)
lowered_is es [] l h = absurd h
lowered_is es (k ∷ ls) l h = by_entry (has_entry es k.0) refl (lowered_is es ls l) h where
  by_entry : (b : Bool) → has_entry es k.0 ≡ b → (Has (lowered_of es ls) l → (has_entry es l.0 ≡ true) × (l.1 ≡ NL)) → Has (kept_by k (cond b (Some NL) None) ++ lowered_of es ls) l → (has_entry es l.0 ≡ true) × (l.1 ≡ NL)
  by_entry true e rest (inl is) = (subst (λ (name : LockName). has_entry es name ≡ true) (ap (λ (y : LockName × Mode). y.0) is) e, ap (λ (y : LockName × Mode). y.1) (sym is))
  by_entry true e rest (inr t) = rest t
  by_entry false e rest t = rest t

-- ---- one by one

-- where the table has each of them, each may be put back as its turn comes
pub may_locked : (n : ℕ) (keeps : Keeps) (values : Values) → ((l : LockName × Mode) → (keeps l ≡ None) ⊎ (keeps l ≡ Some NL)) → (ls : Row) (t : List Resource) → Once (names_of ls)
    → ((l : LockName × Mode) → Has ls l → lock_of (system_of n) (resource_at l.0 t).askers ≡ Some l.1) → MayPutBack n keeps values ls t
may_locked n keeps values low [] t once locked = tt
may_locked n keeps values low (l ∷ ls) t once locked = (
  locked l (inl refl),
  may_locked n keeps values low ls (put_back n (values l t) l (keeps l) t) once.1
      (λ k h. ap (λ (r : Resource). lock_of (system_of n) r.askers) (put_back_leaves n (values l t) l (keeps l) t k.0 (λ e. once.0 (subst (Has (names_of ls)) e (named_there ls k.0 k.1 h))) (low l)) ∙ locked k (inr h)),
)

-- locks that all go back
abbrev pub all_go : Keeps
all_go l = None

pub given_is : (g : Geometry) (n : ℕ) (ws : List PlanWrite) (ls : Row) (t : List Resource) → given_back g n ws ls t ≡ all_back n all_go (raised_values g ws) ls t
given_is g n ws [] t = refl
given_is g n ws (l ∷ ls) t = given_is g n ws ls (released l.0 (system_of n) (raised_block l.0 (raise_of g l.0 ws) (resource_at l.0 t)) t)

-- ---- who has a file open

no_open : (name : LockName) → guards_blocks name ≡ true → (f : ℕ) → name ≢ A f
no_open name guards f e = absurd (let g : true ≡ false = sym guards ∙ ap guards_blocks e in cc)

-- after a row the table is one, and each channel has the lock of what it has open
abbrev pub OpensStay : ℕ → Keeps → Values → Row → (Owner → Option Open) → List Resource → Type 0
OpensStay n keeps values ls having t = IsTable (all_back n keeps values ls t) × AreOpensLocked (all_back n keeps values ls t) having

pub opens_back : (n : ℕ) (es : List Cached) (values : Values) (having : Owner → Option Open) → ((e : Cached) → Has es e → guards_blocks e.lock ≡ true) → (ls : Row) (t : List Resource) → IsTable t → MayPutBack n (keeps es) values ls t
    → AreOpensLocked t having → OpensStay n (keeps es) values ls having t
opens_back n es values having guarding [] t is may opens = (is, opens)
opens_back n es values having guarding (l ∷ ls) t is may opens = by_entry (has_entry es l.0) refl (λ u k m o. opens_back n es values having guarding ls u k m o) may.1 where
  by_entry : (b : Bool) → has_entry es l.0 ≡ b → ((u : List Resource) → IsTable u → MayPutBack n (keeps es) values ls u → AreOpensLocked u having → OpensStay n (keeps es) values ls having u)
      → MayPutBack n (keeps es) values ls (put_back n (values l t) l (cond b (Some NL) None) t) → OpensStay n (keeps es) values ls having (put_back n (values l t) l (cond b (Some NL) None) t)
  by_entry true e rest more =
      rest (converted l.0 (system_of n) NL (values l t) t) (IsTable-converted l.0 (system_of n) NL (values l t) t is (ap is_some may.0) (λ h f. absurd (let g : NL ≡ CW = f in cc))) more
      (opens_converted l.0 n l.1 NL (values l t) t having is (no_open l.0 (under_guards es guarding l.0 e)) may.0 (λ f. absurd (let g : NL ≡ CW = f in cc)) opens)
  by_entry false e rest more = rest (released l.0 (system_of n) (values l t) t) (IsTable-released l.0 (system_of n) (values l t) t is) more (opens_released l.0 n (values l t) t having is opens)
