-- The locks of who has a file open: what the calls of the lock manager leave of them, and which asks go.
use Rattle.std.proofs.Common.{◌≡◌, ◌≢◌, ◌≤◌, ◌<◌, ◌+◌, ◌-◌, ◌*◌, ◌==◌, ◌&&◌, ◌||◌, ◌⊎◌, ℕ, zero, suc, Bool, true, false, cond, not, List, [], ◌∷◌, Option, Some, None, IsSome, find, option_map, option_and_then, slice_get, slice_set, refl, ap, sym, subst, ◌∙◌, inl, inr, arith}
use Rattle.std.specs.Prelude.{nat_le, nat_lt, replicate, is_some}
use Rattle.std.specs.List.{list_all, list_any}
use Rattle.std.proofs.lemmas.Bool.Decides.{nat_tests}
use Rattle.vol_parts.specs.declared.geometry.Geometry.{Geometry}
use Rattle.base_words.proofs.Listing.{same_or_not}
use Rattle.base_words.proofs.ListWrites.{get-set_else}
use Rattle.plain_cat.specs.declared.mode.Mode.{Mode}
use Rattle.plain_cat.specs.declared.mode.Mode.TheVariants.{NL, PR, CW}
use Rattle.plain_cat.specs.Modes.{compatible_modes}
use Rattle.plain_cat.specs.declared.cat.Cat.{Cat}
use Rattle.plain_cat.specs.declared.cat.Open.{Open}
use Rattle.plain_rules.specs.Lookups.{place, joined, channel_at}
use Rattle.plain_rules.specs.Answers.{conflicts}
use Rattle.plain_histories.proofs.Having.{same_place, no_conflict, compatible_in}
use Rattle.plain_histories.proofs.Lists.{set_there, any_none}
use Rattle.lock_db.specs.declared.name.LockName.{LockName}
use Rattle.lock_db.specs.declared.name.LockName.TheVariants.{A}
use Rattle.lock_db.specs.declared.name.Owner.{Owner}
use Rattle.lock_db.specs.declared.askers.Standing.{Standing}
use Rattle.lock_db.specs.declared.askers.Standing.TheVariants.{Granted, Converting}
use Rattle.lock_db.specs.declared.askers.Asker.{Asker}
use Rattle.lock_db.specs.declared.resource.Resource.{Resource}
use Rattle.lock_db.specs.Names.{is_same, same_owner}
use Rattle.lock_db.specs.Queues.{held, waits, converts, is_queued, is_upward, is_waiting, is_converting, goes, goes_beside, with_standing, without, settled, settled_mode, standing_of, mode_of, lock_of}
use Rattle.lock_db.specs.Resources.{goes_at_once, converts_at_once, conversion_writes, written, regranted, queued_up, mode_held, converted_of, first_standing, released_of}
use Rattle.lock_db.specs.Tables.{resource_at, all_together, stand_together, asked, converts_now, converted, released, IsTable}
use Rattle.lock_db.specs.Laws.{stands_at}
use Rattle.lock_db.proofs.Lists.{and-left, and-right, and-both, or-right, not-true, find-push_no, find-passes, find-absent, list_any-none, list_all-find}
use Rattle.lock_db.proofs.Names.{is_same-same}
use Rattle.lock_db.proofs.Owners.{same_owner-refl, same_owner-same}
use Rattle.lock_db.proofs.Together.{lets, goes-held, all_together-head, all_together-tail, all_together-filter, all_together-granted}
use Rattle.lock_db.proofs.Blocks.{asked-at, asked-leaves, converted-at, converted-leaves, released-at, released-leaves}
use Rattle.lock_db.proofs.Places.{written-askers}
use Rattle.lock_db.proofs.Standings.{requests-stand, conversions-stand, releases-leave}
use Rattle.lock_db.proofs.Steps.{IsSettled-at, IsTable-asked, IsTable-converted, IsTable-released, HasLock, HasLock-lock_of, lock-is, converts-goes}
use Rattle.node_locks.specs.Held.{has_lock, system_of}
use Rattle.node_locks.specs.Sequences.{raised_block}
use Rattle.node_locks.specs.Taking.{taken, taken_now, MayTake}
use Rattle.node_locks.proofs.Taking.{no-lock}
use Rattle.node_locks.proofs.Served.{settled-served, vacated-standing, without-other, with-other}
use Rattle.lock_db.proofs.Owners.{Served}
use Rattle.node_locks.proofs.Nodes.{name_or_not}
use Rattle.op_law.specs.declared.need.PlanWrite.{PlanWrite}
use Rattle.op_law.specs.declared.seen.Chan.{Chan}
use Rattle.plain_rules.specs.Opens.{others_open}
use Rattle.core_state.specs.Raises.{raise_of}
use Rattle.core_state.specs.Opens.{is_channel, open_of, open_stands, AreOpensLocked}
use Rattle.core_state.specs.Channels.{let_go}
use Rattle.core_state.specs.Events.{given_back, left_alone}
use Rattle.base_words.proofs.Booleans.{at_most}

-- ---- the calls of one owner, and how another stands

-- a file system is no channel
pub apart : (n : ℕ) (owner : Owner) → 1 ≤ owner.part → same_owner (system_of n) owner ≡ false
apart n owner le = grind (arith, nat_tests)

turned_round : (a b : Owner) → same_owner a b ≡ false → same_owner b a ≡ false
turned_round a b e = grind (arith, nat_tests)

module _ (me owner : Owner) (far : same_owner me owner ≡ false) where
  not_mine : (a : Asker) → same_owner a.owner me ≡ true → same_owner a.owner owner ≡ false
  not_mine a e = ap (λ o. same_owner o owner) (same_owner-same a.owner me e) ∙ far

  asked_apart : (name other : LockName) (mode : Mode) (t : List Resource) → stands_at other owner (asked name me mode t) ≡ stands_at other owner t
  asked_apart name other mode t = elim (name_or_not other name) [ inl e ↦ rw e here | inr ne ↦ ap (λ (r : Resource). standing_of owner r.askers) (asked-leaves name me mode t other ne) ] where
    here : stands_at name owner (asked name me mode t) ≡ stands_at name owner t
    here =
        let xs : List Asker = (resource_at name t).askers in
        let b : Asker = record { owner = me; standing = first_standing (goes_at_once me mode xs) mode } in
        ap (λ (r : Resource). standing_of owner r.askers) (asked-at name me mode t)
        ∙ ap (option_map (λ (a : Asker). a.standing)) (find-push_no (λ (a : Asker). same_owner a.owner owner) xs b far)

  released_apart : (name other : LockName) (value : List ℕ) (t : List Resource) → IsTable t → Served (stands_at other owner t) (stands_at other owner (released name me value t))
  released_apart name other value t is = elim (name_or_not other name) [
    | inl e ↦ rw e here
    | inr ne ↦ inl (ap (λ (r : Resource). standing_of owner r.askers) (released-leaves name me value t other ne))
  ] where
    there : stands_at name owner (released name me value t) ≡ standing_of owner (settled (without me (resource_at name t).askers))
    there =
        let r : Resource = resource_at name t in
        ap (λ (s : Resource). standing_of owner s.askers) (released-at name me value t)
        ∙ vacated-standing owner (released_of me value r)
        ∙ ap (standing_of owner) (written-askers _ value (record r { askers = settled (without me r.askers) }))

    here : Served (stands_at name owner t) (stands_at name owner (released name me value t))
    here =
        let xs : List Asker = (resource_at name t).askers in
        let k = IsSettled-at name t is in
        let together : all_together (without me xs) ≡ true = all_together-filter (λ a. not (same_owner a.owner me)) xs k.together in
        let served : Served (standing_of owner (without me xs)) (standing_of owner (settled (without me xs))) = settled-served owner (without me xs) together in
        rw there (rw (without-other me owner xs not_mine) at served)

  converted_apart : (name other : LockName) (old mode : Mode) (value : List ℕ) (t : List Resource) → IsTable t → lock_of me (resource_at name t).askers ≡ Some old → (old ≡ PR → mode ≡ CW → ⊥) → converts_now name me mode t ≡ true
      → Served (stands_at other owner t) (stands_at other owner (converted name me mode value t))
  converted_apart name other old mode value t is lock across now = elim (name_or_not other name) [
    | inl e ↦ rw e here
    | inr ne ↦ inl (ap (λ (r : Resource). standing_of owner r.askers) (converted-leaves name me mode value t other ne))
  ] where
    r : Resource
    r = resource_at name t

    xs : List Asker
    xs = r.askers

    ys : List Asker
    ys = with_standing me (Granted mode) xs

    some : IsSome (lock_of me xs)
    some = ap is_some lock

    askers_are : (converted_of me mode value r).askers ≡ settled ys
    askers_are = rw now (written-askers (conversion_writes (mode_held me r) mode) value (regranted me mode r))

    there : stands_at name owner (converted name me mode value t) ≡ standing_of owner (settled ys)
    there = ap (λ (s : Resource). standing_of owner s.askers) (converted-at name me mode value t some) ∙ ap (standing_of owner) askers_are

    here : Served (stands_at name owner t) (stands_at name owner (converted name me mode value t))
    here =
        let k = IsSettled-at name t is in
        let lets_go : converts_at_once me old mode xs ≡ true = ap (λ m. converts_at_once me m mode xs) (sym (lock-is me r old lock)) ∙ now in
        let goes_so : goes me mode xs ≡ true = converts-goes me old mode xs k.together (HasLock-lock_of me old xs lock) across lets_go in
        let together : all_together ys ≡ true = all_together-granted me mode xs k.together goes_so in
        let served : Served (standing_of owner ys) (standing_of owner (settled ys)) = settled-served owner ys together in
        rw there (rw (with-other me owner (Granted mode) xs not_mine) at served)

-- who has an open waits for nothing
never_queued : (name : LockName) (o : Option Open) (s : Standing) → open_stands name o ≡ Some s → is_queued s ≡ true → ⊥
never_queued name None s e q = absurd (let f : None ≡ Some s = e in cc)
never_queued name (Some o) s e q = by_name (is_same name (A o.file)) e where
  by_name : (b : Bool) → cond b (Some (Granted o.mode)) None ≡ Some s → ⊥
  by_name true f = absurd (let g : Granted o.mode ≡ s = cc in let h : false ≡ true = ap is_queued g ∙ q in cc)
  by_name false f = absurd (let g : None ≡ Some s = f in cc)

served_open : (name : LockName) (o : Option Open) (before after : Option Standing) → Served before after → before ≡ open_stands name o → after ≡ open_stands name o
served_open name o before after (inl e) is = e ∙ is
served_open name o before after (inr k) is = absurd (never_queued name o k.0 (sym is ∙ k.1) k.2)

-- ---- requests and releases of a node's file system

pub opens_asked : (name : LockName) (n : ℕ) (mode : Mode) (t : List Resource) (having : Owner → Option Open) → AreOpensLocked t having → AreOpensLocked (asked name (system_of n) mode t) having
opens_asked name n mode t having opens other owner le = asked_apart (system_of n) owner (apart n owner le) name other mode t ∙ opens other owner le

pub opens_released : (name : LockName) (n : ℕ) (value : List ℕ) (t : List Resource) (having : Owner → Option Open) → IsTable t → AreOpensLocked t having → AreOpensLocked (released name (system_of n) value t) having
opens_released name n value t having is opens other owner le =
    served_open other (having owner) (stands_at other owner t) (stands_at other owner (released name (system_of n) value t)) (released_apart (system_of n) owner (apart n owner le) name other value t is) (opens other owner le)

-- ---- a lock of no file's opens is converted: nobody with an open stands there

pub no_open : (name : LockName) → ((f : ℕ) → name ≢ A f) → (o : Option Open) → open_stands name o ≡ None
no_open name far None = refl
no_open name far (Some o) = by_name (is_same name (A o.file)) refl where
  by_name : (b : Bool) → is_same name (A o.file) ≡ b → cond b (Some (Granted o.mode)) None ≡ None
  by_name true e = absurd (far o.file (is_same-same name (A o.file) e))
  by_name false e = refl

served_none : (before after : Option Standing) → Served before after → before ≡ None → after ≡ None
served_none before after (inl e) is = e ∙ is
served_none before after (inr k) is = absurd (let f : Some k.0 ≡ None = sym k.1 ∙ is in cc)

module _ (me owner : Owner) (far : same_owner me owner ≡ false) where
  -- one that stands nowhere does not come to stand
  converted_none : (name : LockName) (old mode : Mode) (value : List ℕ) (t : List Resource) → IsTable t → lock_of me (resource_at name t).askers ≡ Some old → mode ≢ CW → stands_at name owner t ≡ None → stands_at name owner (converted name me mode value t) ≡ None
  converted_none name old mode value t is lock across none = by_now (converts_now name me mode t) refl where
    r : Resource
    r = resource_at name t

    some : IsSome (lock_of me r.askers)
    some = ap is_some lock

    by_now : (b : Bool) → converts_now name me mode t ≡ b → stands_at name owner (converted name me mode value t) ≡ None
    by_now true now = served_none (stands_at name owner t) (stands_at name owner (converted name me mode value t)) (converted_apart me owner far name name old mode value t is lock (λ p q. across q) now) none
    by_now false now =
        ap (λ (q : Resource). standing_of owner q.askers) (converted-at name me mode value t some)
        ∙ ap (λ (b : Bool). standing_of owner (cond b (written (conversion_writes (mode_held me r) mode) value (regranted me mode r)) (queued_up me (mode_held me r) mode r)).askers) now
        ∙ ap (option_map (λ (a : Asker). a.standing)) (find-push_no (λ (a : Asker). same_owner a.owner owner) (without me r.askers) (record { owner = me; standing = Converting (mode_held me r) mode }) far)
        ∙ without-other me owner r.askers (not_mine me owner far) ∙ none

pub opens_converted : (name : LockName) (n : ℕ) (old mode : Mode) (value : List ℕ) (t : List Resource) (having : Owner → Option Open) → IsTable t → ((f : ℕ) → name ≢ A f) → lock_of (system_of n) (resource_at name t).askers ≡ Some old → mode ≢ CW
    → AreOpensLocked t having → AreOpensLocked (converted name (system_of n) mode value t) having
opens_converted name n old mode value t having is far lock across opens other owner le = elim (name_or_not other name) [
  | inl e ↦ subst (λ (x : LockName). stands_at x owner (converted name (system_of n) mode value t) ≡ open_stands x (having owner)) (sym e)
      (converted_none (system_of n) owner (apart n owner le) name old mode value t is lock across (opens name owner le ∙ no_open name far (having owner)) ∙ sym (no_open name far (having owner)))
  | inr ne ↦ ap (λ (r : Resource). standing_of owner r.askers) (converted-leaves name (system_of n) mode value t other ne) ∙ opens other owner le
]

granted_nl : (st : Standing) → settled_mode st ≡ Some NL → held st ≡ Some NL
granted_nl st e = grind arith

nl_lock : (name : LockName) (owner : Owner) (t : List Resource) → lock_of owner (resource_at name t).askers ≡ Some NL → has_lock name owner t ≡ true
nl_lock name owner t e =
    (elim (standing_of owner (resource_at name t).askers) as (λ o. option_and_then settled_mode o ≡ Some NL → is_some (option_and_then held o) ≡ true)
    [ None ↦ λ g. cc | Some st ↦ λ g. rw (granted_nl st g) refl ]) e

pub opens_taken : (name : LockName) (n : ℕ) (mode : Mode) (t : List Resource) (having : Owner → Option Open) → IsTable t → ((f : ℕ) → name ≢ A f) → MayTake name (system_of n) t → mode ≢ CW
    → AreOpensLocked t having → AreOpensLocked (taken name (system_of n) mode t) having
opens_taken name n mode t having is far (inl none) across opens =
    subst (λ (b : Bool). AreOpensLocked (cond b (converted name (system_of n) mode (resource_at name t).value t) (asked name (system_of n) mode t)) having) (sym (no-lock name (system_of n) t none)) (opens_asked name n mode t having opens)
opens_taken name n mode t having is far (inr lock) across opens =
    subst (λ (b : Bool). AreOpensLocked (cond b (converted name (system_of n) mode (resource_at name t).value t) (asked name (system_of n) mode t)) having) (sym (nl_lock name (system_of n) t lock))
    (opens_converted name n NL mode (resource_at name t).value t having is far lock across opens)

-- each lock goes back with its own value block
pub left_table : (n : ℕ) (ls : List (LockName × Mode)) (t : List Resource) → IsTable t → IsTable (left_alone n ls t)
left_table n [] t is = is
left_table n (l ∷ ls) t is = left_table n ls (released l.0 (system_of n) (resource_at l.0 t).value t) (IsTable-released l.0 (system_of n) (resource_at l.0 t).value t is)

pub opens_left : (n : ℕ) (ls : List (LockName × Mode)) (t : List Resource) (having : Owner → Option Open) → IsTable t → AreOpensLocked t having → AreOpensLocked (left_alone n ls t) having
opens_left n [] t having is opens = opens
opens_left n (l ∷ ls) t having is opens =
    let value : List ℕ = (resource_at l.0 t).value in
    opens_left n ls (released l.0 (system_of n) value t) having (IsTable-released l.0 (system_of n) value t is) (opens_released l.0 n value t having is opens)

pub given_table : (g : Geometry) (n : ℕ) (ws : List PlanWrite) (ls : List (LockName × Mode)) (t : List Resource) → IsTable t → IsTable (given_back g n ws ls t)
given_table g n ws [] t is = is
given_table g n ws (l ∷ ls) t is =
    let value : List ℕ = raised_block l.0 (raise_of g l.0 ws) (resource_at l.0 t) in
    given_table g n ws ls (released l.0 (system_of n) value t) (IsTable-released l.0 (system_of n) value t is)

pub opens_given : (g : Geometry) (n : ℕ) (ws : List PlanWrite) (ls : List (LockName × Mode)) (t : List Resource) (having : Owner → Option Open) → IsTable t → AreOpensLocked t having → AreOpensLocked (given_back g n ws ls t) having
opens_given g n ws [] t having is opens = opens
opens_given g n ws (l ∷ ls) t having is opens =
    let value : List ℕ = raised_block l.0 (raise_of g l.0 ws) (resource_at l.0 t) in
    opens_given g n ws ls (released l.0 (system_of n) value t) having (IsTable-released l.0 (system_of n) value t is) (opens_released l.0 n value t having is opens)

-- where the owners have the same open
pub opens_same : (t : List Resource) (before after : Owner → Option Open) → ((owner : Owner) → 1 ≤ owner.part → after owner ≡ before owner) → AreOpensLocked t before → AreOpensLocked t after
opens_same t before after same opens name owner le = opens name owner le ∙ ap (open_stands name) (sym (same owner le))

pub none_open : (k i : ℕ) → joined (slice_get (replicate k None) i) ≡ None
none_open zero i = refl
none_open (suc k) zero = refl
none_open (suc k) (suc i) = none_open k i

-- where nothing is open, there is no lock
pub opens_none : (c : Cat) (k : ℕ) → c.opens ≡ replicate k None → AreOpensLocked [] (open_of c)
opens_none c k is name owner le = ap (open_stands name) (sym (by_channel (is_channel owner))) where
  by_channel : (b : Bool) → cond b (channel_at c owner.node owner.part) None ≡ None
  by_channel true = ap (λ os. joined (slice_get os (place owner.node owner.part))) is ∙ none_open k (place owner.node owner.part)
  by_channel false = refl

-- ---- a channel's request, its conversion and its release

same_name : (a b : ℕ) → (a == b) ≡ true → is_same (A b) (A a) ≡ true
same_name a b e = grind (arith, nat_tests)

same_number : (a b : ℕ) → is_same (A b) (A a) ≡ true → (a == b) ≡ true
same_number a b e = grind (arith, nat_tests)

other_name : (name : LockName) (f : ℕ) → name ≢ A f → is_same name (A f) ≡ false
other_name name f ne = by_test (is_same name (A f)) refl where
  by_test : (b : Bool) → is_same name (A f) ≡ b → is_same name (A f) ≡ false
  by_test true e = absurd (ne (is_same-same name (A f) e))
  by_test false e = e

same_self : (f : ℕ) → is_same (A f) (A f) ≡ true
same_self f = grind (arith, nat_tests)

-- how an owner with an open of file f stands
pub stands_there : (f : ℕ) (m : Mode) → open_stands (A f) (Some (record { file = f; mode = m })) ≡ Some (Granted m)
stands_there f m = ap (λ b. cond b (Some (Granted m)) None) (same_self f)

stands_elsewhere : (name : LockName) (f : ℕ) (o : Open) → o.file ≡ f → name ≢ A f → open_stands name (Some o) ≡ None
stands_elsewhere name f o e ne = ap (λ k. cond (is_same name (A k)) (Some (Granted o.mode)) None) e ∙ ap (λ b. cond b (Some (Granted o.mode)) None) (other_name name f ne)

-- two owners are one or not
same_or_apart : (a b : Owner) → (a ≡ b) ⊎ (same_owner a b ≡ false)
same_or_apart a b = by_test (same_owner a b) refl where
  by_test : (t : Bool) → same_owner a b ≡ t → (a ≡ b) ⊎ (same_owner a b ≡ false)
  by_test true e = inl (same_owner-same a b e)
  by_test false e = inr e

-- a channel has nothing open, or this file
abbrev pub HasNoOther : Option Open → ℕ → Type 0
HasNoOther None f = Unit {0}
HasNoOther (Some o) f = o.file ≡ f

pub none_elsewhere : (name : LockName) (f : ℕ) (o : Option Open) → HasNoOther o f → name ≢ A f → open_stands name o ≡ None
none_elsewhere name f None h ne = refl
none_elsewhere name f (Some o) h ne = stands_elsewhere name f o h ne

-- what an owner has after its request or conversion, which is granted at once
pub record Taken (t : List Resource) (me : Owner) (f : ℕ) (mode : Mode) (having : Owner → Option Open) : Type 0 where
  pub table : IsTable (taken (A f) me mode t)
  pub opens : (after : Owner → Option Open) → after me ≡ Some (record { file = f; mode = mode }) → ((owner : Owner) → same_owner me owner ≡ false → after owner ≡ having owner) → AreOpensLocked (taken (A f) me mode t) after

by_owner : (t u : List Resource) (me : Owner) (f : ℕ) (mode : Mode) (having after : Owner → Option Open) → AreOpensLocked t having → HasNoOther (having me) f → after me ≡ Some (record { file = f; mode = mode })
    → ((owner : Owner) → same_owner me owner ≡ false → after owner ≡ having owner) → stands_at (A f) me u ≡ Some (Granted mode) → ((name : LockName) → name ≢ A f → stands_at name me u ≡ stands_at name me t)
    → ((name : LockName) (owner : Owner) → same_owner me owner ≡ false → Served (stands_at name owner t) (stands_at name owner u)) → AreOpensLocked u after
by_owner t u me f mode having after opens only mine others here else_same served name owner low = elim (same_or_apart me owner) [ inl e ↦ own e | inr far ↦ other far ] where
  own : me ≡ owner → stands_at name owner u ≡ open_stands name (after owner)
  own e = subst (λ (o : Owner). stands_at name o u ≡ open_stands name (after o)) e (elim (name_or_not name (A f)) [
    | inl n ↦ ap (λ k. stands_at k me u) n ∙ here ∙ sym (ap (λ k. open_stands k (after me)) n ∙ ap (open_stands (A f)) mine ∙ stands_there f mode)
    | inr ne ↦
        let le : 1 ≤ me.part = subst (λ (o : Owner). 1 ≤ o.part) (sym e) low in
        else_same name ne ∙ opens name me le ∙ none_elsewhere name f (having me) only ne ∙ sym (ap (open_stands name) mine ∙ stands_elsewhere name f (record { file = f; mode = mode }) refl ne)
  ])

  other : same_owner me owner ≡ false → stands_at name owner u ≡ open_stands name (after owner)
  other far = served_open name (having owner) (stands_at name owner t) (stands_at name owner u) (served name owner far) (opens name owner low) ∙ ap (open_stands name) (sym (others owner far))

pub no_lock : (owner : Owner) (xs : List Asker) → standing_of owner xs ≡ None → is_some (mode_of owner xs) ≡ false
no_lock owner xs e = rw e refl

pub has_its : (owner : Owner) (xs : List Asker) (m : Mode) → standing_of owner xs ≡ Some (Granted m) → is_some (mode_of owner xs) ≡ true
has_its owner xs m e = rw e refl

pub locked : (owner : Owner) (xs : List Asker) (m : Mode) → standing_of owner xs ≡ Some (Granted m) → lock_of owner xs ≡ Some m
locked owner xs m e = rw e refl

-- a new lock of an owner that has nothing open
pub takes_new : (t : List Resource) (me : Owner) (f : ℕ) (mode : Mode) (having : Owner → Option Open) → IsTable t → AreOpensLocked t having → HasNoOther (having me) f → stands_at (A f) me t ≡ None → taken_now (A f) me mode t ≡ true → Taken t me f mode having
takes_new t me f mode having is opens only none goes_now = record {
  table = subst IsTable (sym to) (IsTable-asked (A f) me mode t is none);
  opens = λ after mine others. subst (λ (u : List Resource). AreOpensLocked u after) (sym to)
      (by_owner t (asked (A f) me mode t) me f mode having after opens only mine others
      (requests-stand (A f) me mode t none ∙ ap (λ b. Some (first_standing b mode)) at_once)
      (λ name ne. ap (λ (r : Resource). standing_of me r.askers) (asked-leaves (A f) me mode t name ne))
      (λ name owner far. inl (asked_apart me owner far (A f) name mode t)));
} where
  no : has_lock (A f) me t ≡ false
  no = no_lock me (resource_at (A f) t).askers none

  to : taken (A f) me mode t ≡ asked (A f) me mode t
  to = ap (λ b. cond b (converted (A f) me mode (resource_at (A f) t).value t) (asked (A f) me mode t)) no

  at_once : goes_at_once me mode (resource_at (A f) t).askers ≡ true
  at_once = sym (ap (λ b. cond b (converts_now (A f) me mode t) (goes_at_once me mode (resource_at (A f) t).askers)) no) ∙ goes_now

-- the conversion of one that it has
pub takes_up : (t : List Resource) (me : Owner) (f : ℕ) (old mode : Mode) (having : Owner → Option Open) → IsTable t → AreOpensLocked t having → HasNoOther (having me) f → stands_at (A f) me t ≡ Some (Granted old) → (mode ≡ CW → ⊥) → taken_now (A f) me mode t ≡ true
    → Taken t me f mode having
takes_up t me f old mode having is opens only has across goes_now = record {
  table = subst IsTable (sym to) (IsTable-converted (A f) me mode value t is some (λ e f. across f));
  opens = λ after mine others. subst (λ (u : List Resource). AreOpensLocked u after) (sym to)
      (by_owner t (converted (A f) me mode value t) me f mode having after opens only mine others
      (conversions-stand (A f) me old mode value t is lock (λ e f. across f) ∙ ap (λ b. Some (cond b (Granted mode) (Converting old mode))) at_once)
      (λ name ne. ap (λ (r : Resource). standing_of me r.askers) (converted-leaves (A f) me mode value t name ne))
      (λ name owner far. converted_apart me owner far (A f) name old mode value t is lock (λ e f. across f) at_once));
} where
  value : List ℕ
  value = (resource_at (A f) t).value

  lock : lock_of me (resource_at (A f) t).askers ≡ Some old
  lock = locked me (resource_at (A f) t).askers old has

  some : IsSome (lock_of me (resource_at (A f) t).askers)
  some = ap is_some lock

  yes : has_lock (A f) me t ≡ true
  yes = has_its me (resource_at (A f) t).askers old has

  to : taken (A f) me mode t ≡ converted (A f) me mode value t
  to = ap (λ b. cond b (converted (A f) me mode value t) (asked (A f) me mode t)) yes

  at_once : converts_now (A f) me mode t ≡ true
  at_once = sym (ap (λ b. cond b (converts_now (A f) me mode t) (goes_at_once me mode (resource_at (A f) t).askers)) yes) ∙ goes_now

-- a channel gives back the lock of what it has open
pub opens_let_go : (t : List Resource) (n chan : ℕ) (had : Option Chan) (having after : Owner → Option Open) → IsTable t → AreOpensLocked t having → ((p : Chan) → had ≡ Some p → HasNoOther (having (record { node = n; part = chan })) p.file.num)
    → (had ≡ None → having (record { node = n; part = chan }) ≡ None) → after (record { node = n; part = chan }) ≡ None → ((owner : Owner) → same_owner (record { node = n; part = chan }) owner ≡ false → after owner ≡ having owner)
    → AreOpensLocked (let_go n chan had t) after
opens_let_go t n chan None having after is opens only nothing gone others name owner low = opens name owner low ∙ ap (open_stands name) (sym (elim (same_or_apart me owner) [
  | inl e ↦ subst (λ (o : Owner). after o ≡ having o) e (gone ∙ sym (nothing refl))
  | inr far ↦ others owner far
])) where
  me : Owner
  me = record { node = n; part = chan }
opens_let_go t n chan (Some p) having after is opens only nothing gone others name owner low = elim (same_or_apart me owner) [ inl e ↦ own e | inr far ↦ other far ] where
  me : Owner
  me = record { node = n; part = chan }

  u : List Resource
  u = released (A p.file.num) me (replicate 16 0) t

  own : me ≡ owner → stands_at name owner u ≡ open_stands name (after owner)
  own e = subst (λ (o : Owner). stands_at name o u ≡ open_stands name (after o)) e (elim (name_or_not name (A p.file.num)) [
    | inl k ↦ ap (λ j. stands_at j me u) k ∙ releases-leave (A p.file.num) me (replicate 16 0) t ∙ ap (open_stands name) (sym gone)
    | inr ne ↦
        let le : 1 ≤ me.part = subst (λ (o : Owner). 1 ≤ o.part) (sym e) low in
        ap (λ (r : Resource). standing_of me r.askers) (released-leaves (A p.file.num) me (replicate 16 0) t name ne) ∙ opens name me le ∙ none_elsewhere name p.file.num (having me) (only p refl) ne ∙ ap (open_stands name) (sym gone)
  ])

  other : same_owner me owner ≡ false → stands_at name owner u ≡ open_stands name (after owner)
  other far = served_open name (having owner) (stands_at name owner t) (stands_at name owner u) (released_apart me owner far (A p.file.num) name (replicate 16 0) t is) (opens name owner low) ∙ ap (open_stands name) (sym (others owner far))

-- ---- each place is a channel's

record IsPlaced (i : ℕ) : Type 0 where
  node : ℕ
  part : ℕ
  from : 1 ≤ node
  low : 1 ≤ part
  high : part ≤ 8
  at : place node part ≡ i

next_placed : (i : ℕ) → IsPlaced i → IsPlaced (suc i)
next_placed i p = by_part (nat_lt p.part 8) refl where
  less : (k : ℕ) → nat_lt k 8 ≡ true → k < 8
  less k e = grind (arith, nat_tests)

  last : (k : ℕ) → nat_lt k 8 ≡ false → 8 ≤ k
  last k e = grind (arith, nat_tests)

  further : (n k : ℕ) → 1 ≤ k → 8 * (n - 1) + (k - 1) ≡ i → 8 * (n - 1) + (k + 1 - 1) ≡ suc i
  further n k le e = omega arith

  again : (n k : ℕ) → 1 ≤ n → k ≤ 8 → 8 ≤ k → 8 * (n - 1) + (k - 1) ≡ i → 8 * (n + 1 - 1) + (1 - 1) ≡ suc i
  again n k le high low e = omega arith

  by_part : (b : Bool) → nat_lt p.part 8 ≡ b → IsPlaced (suc i)
  by_part true e = let lt = less p.part e in let low = p.low in record { node = p.node; part = p.part + 1; from = p.from; low = omega arith; high = omega arith; at = further p.node p.part p.low p.at }
  by_part false e = let from = p.from in record { node = p.node + 1; part = 1; from = omega arith; low = omega arith; high = omega arith; at = again p.node p.part p.from p.high (last p.part e) p.at }

placed : (i : ℕ) → IsPlaced i
placed zero = record { node = 1; part = 1; from = omega arith; low = omega arith; high = omega arith; at = refl }
placed (suc i) = next_placed i (placed i)

-- ---- which modes go with what the other owners have open

-- a mode goes with each open of a file of another owner
abbrev AllGo : Cat → Owner → ℕ → Mode → Type 0
AllGo c me f mode = (owner : Owner) (o : Open) → 1 ≤ owner.part → same_owner owner me ≡ false → open_of c owner ≡ Some o → (o.file == f) ≡ true → compatible_modes mode o.mode ≡ true

none_any : {X : Type 0} (p : X → Bool) (xs : List X) → ((i : ℕ) (x : X) → slice_get xs i ≡ Some x → p x ≡ false) → list_any p xs ≡ false
none_any p [] h = refl
none_any p (x ∷ xs) h = ap (λ b. b || list_any p xs) (h 0 x refl) ∙ none_any p xs (λ i y e. h (suc i) y e)

-- a part of a node that asks: the file system or a channel
pub record IsPart (n chan : ℕ) : Type 0 where
  pub from : 1 ≤ n
  pub to : chan ≤ 8

some_in : (x : Option (Option Open)) (o : Open) → joined x ≡ Some o → x ≡ Some (Some o)
some_in None o e = absurd (let g : None ≡ Some o = e in cc)
some_in (Some x) o e = ap Some e

pub channel_parts : (owner : Owner) → is_channel owner ≡ true → (1 ≤ owner.node) × (1 ≤ owner.part) × (owner.part ≤ 8)
channel_parts owner e =
    let a = and-left (nat_le 1 owner.node) _ e in
    let b = and-right (nat_le 1 owner.node) _ e in
    (le_is 1 owner.node a, le_is 1 owner.part (and-left (nat_le 1 owner.part) _ b), le_is owner.part 8 (and-right (nat_le 1 owner.part) _ b)) where
      le_is : (a b : ℕ) → nat_le a b ≡ true → a ≤ b
      le_is a b e = grind (arith, nat_tests)

module _ (c : Cat) (n chan f : ℕ) (mode : Mode) (part : IsPart n chan) where
  abbrev asker : Owner
  asker = record { node = n; part = chan }

  others_are : (b : Bool) → (chan == 0) ≡ b → others_open c n chan ≡ cond b c.opens (slice_set c.opens (place n chan) None)
  others_are b e = ap (λ t. cond t c.opens (slice_set c.opens (place n chan) None)) e

  all_go : AllGo c asker f mode → list_any (conflicts f mode) (others_open c n chan) ≡ false
  all_go go = by_part (chan == 0) refl where
    at_place : (i : ℕ) (o : Open) → slice_get c.opens i ≡ Some (Some o) → same_owner (record { node = (placed i).node; part = (placed i).part }) asker ≡ false → conflicts f mode (Some o) ≡ false
    at_place i o e far = no_conflict (o.file == f) (compatible_modes mode o.mode) (λ is. go owner o p.low far has is) where
      p : IsPlaced i
      p = placed i

      owner : Owner
      owner = record { node = p.node; part = p.part }

      has : open_of c owner ≡ Some o
      has =
          let is : is_channel owner ≡ true = and-both (nat_le 1 p.node) _ (at_most 1 p.node p.from) (and-both (nat_le 1 p.part) _ (at_most 1 p.part p.low) (at_most p.part 8 p.high)) in
          ap (λ b. cond b (channel_at c p.node p.part) None) is ∙ ap (λ k. joined (slice_get c.opens k)) p.at ∙ ap joined e

    no_channel : (owner : Owner) → 1 ≤ owner.part → (chan == 0) ≡ true → same_owner owner asker ≡ false
    no_channel owner low e = grind (arith, nat_tests)

    not_there : (i : ℕ) → (place n chan ≡ i → ⊥) → same_owner (record { node = (placed i).node; part = (placed i).part }) asker ≡ false
    not_there i ne = by_test (same_owner owner asker) refl where
      owner : Owner
      owner = record { node = (placed i).node; part = (placed i).part }

      by_test : (b : Bool) → same_owner owner asker ≡ b → same_owner owner asker ≡ false
      by_test true e =
          let is : owner ≡ asker = same_owner-same owner asker e in
          absurd (ne (ap (λ (k : Owner). place k.node k.part) (sym is) ∙ (placed i).at))
      by_test false e = e

    by_part : (b : Bool) → (chan == 0) ≡ b → list_any (conflicts f mode) (others_open c n chan) ≡ false
    by_part true e = ap (list_any (conflicts f mode)) (others_are true e) ∙ none_any (conflicts f mode) c.opens one where
      one : (i : ℕ) (x : Option Open) → slice_get c.opens i ≡ Some x → conflicts f mode x ≡ false
      one i None at = refl
      one i (Some o) at = at_place i o at (no_channel (record { node = (placed i).node; part = (placed i).part }) (placed i).low e)
    by_part false e = ap (list_any (conflicts f mode)) (others_are false e) ∙ none_any (conflicts f mode) (slice_set c.opens (place n chan) None) one where
      one : (i : ℕ) (x : Option Open) → slice_get (slice_set c.opens (place n chan) None) i ≡ Some x → conflicts f mode x ≡ false
      one i None at = refl
      one i (Some o) at = elim (same_or_not i (place n chan)) [
        | inl k ↦ absurd (let g : Some o ≡ None = set_there c.opens (place n chan) None (Some o) (ap (slice_get (slice_set c.opens (place n chan) None)) (sym k) ∙ at) in cc)
        | inr ne ↦ at_place i o (sym (get-set_else c.opens (place n chan) i None (λ k. ne (sym k))) ∙ at) (not_there i (λ k. ne (sym k)))
      ]

  go_all : list_any (conflicts f mode) (others_open c n chan) ≡ false → AllGo c asker f mode
  go_all none owner o low far has file = by_channel (is_channel owner) refl has where
    by_part : is_channel owner ≡ true → slice_get c.opens (place owner.node owner.part) ≡ Some (Some o) → (b : Bool) → (chan == 0) ≡ b → compatible_modes mode o.mode ≡ true
    by_part is there true e = compatible_in (o.file == f) (compatible_modes mode o.mode) (any_none (conflicts f mode) c.opens (place owner.node owner.part) (Some o) (sym (ap (list_any (conflicts f mode)) (others_are true e)) ∙ none) there) file
    by_part is there false e = compatible_in (o.file == f) (compatible_modes mode o.mode)
        (any_none (conflicts f mode) (slice_set c.opens (place n chan) None) (place owner.node owner.part) (Some o) (sym (ap (list_any (conflicts f mode)) (others_are false e)) ∙ none) (get-set_else c.opens (place n chan) (place owner.node owner.part) None elsewhere ∙ there)) file where
          from_one : (k : ℕ) → (k == 0) ≡ false → 1 ≤ k
          from_one k e = grind (arith, nat_tests)

          elsewhere : place n chan ≡ place owner.node owner.part → ⊥
          elsewhere k =
              let parts = channel_parts owner is in
              let same = same_place n chan owner.node owner.part part.from parts.0 (from_one chan e) part.to parts.1 parts.2 k in
              let one : owner ≡ asker = λ i. record { node = sym same.0 i; part = sym same.1 i } in
              let yes : same_owner owner asker ≡ true = ap (λ (w : Owner). same_owner w asker) one ∙ same_owner-refl asker in
              absurd (let g : true ≡ false = sym yes ∙ far in cc)

    by_channel : (b : Bool) → is_channel owner ≡ b → cond b (channel_at c owner.node owner.part) None ≡ Some o → compatible_modes mode o.mode ≡ true
    by_channel true is e = by_part is (some_in (slice_get c.opens (place owner.node owner.part)) o e) (chan == 0) refl
    by_channel false is e = absurd (let g : None ≡ Some o = e in cc)

-- ---- by the lock table

-- a mode that goes with all others' locks at a name goes with this one
goes_by_one : (own other : Owner) (m k : Mode) (xs : List Asker) → same_owner other own ≡ false → goes own m xs ≡ true → standing_of other xs ≡ Some (Granted k) → compatible_modes m k ≡ true
goes_by_one own other m k xs apart all stands =
    let two : HasLock other k xs = HasLock-lock_of other k xs (locked other xs k stands) in
    let its : two.asker.owner ≡ other = same_owner-same two.asker.owner other (find-passes (λ (x : Asker). same_owner x.owner other) xs two.asker two.found) in
    let far : same_owner two.asker.owner own ≡ false = ap (λ o. same_owner o own) its ∙ apart in
    let let_by : lets own m two.asker ≡ true = list_all-find (lets own m) (λ (x : Asker). same_owner x.owner other) xs two.asker all two.found in
    let goes_so : goes_beside m (held two.asker.standing) ≡ true = or-right (same_owner two.asker.owner own) (goes_beside m (held two.asker.standing)) let_by far in
    rw two.stands at goes_so

-- what holds of each asker by how its owner stands holds of all
all_found : (p : Asker → Bool) (xs : List Asker) → all_together xs ≡ true → ((a : Asker) → find (λ (x : Asker). same_owner x.owner a.owner) xs ≡ Some a → p a ≡ true) → list_all p xs ≡ true
all_found p [] e h = refl
all_found p (x ∷ xs) e h =
    let first : find (λ (y : Asker). same_owner y.owner x.owner) (x ∷ xs) ≡ Some x = ap (λ b. cond b (Some x) (find (λ (y : Asker). same_owner y.owner x.owner) xs)) (same_owner-refl x.owner) in
    and-both (p x) (list_all p xs) (h x first) (all_found p xs (all_together-tail x xs e) (λ a f. h a (later a f))) where
      later : (a : Asker) → find (λ (y : Asker). same_owner y.owner a.owner) xs ≡ Some a → find (λ (y : Asker). same_owner y.owner a.owner) (x ∷ xs) ≡ Some a
      later a f =
          let t = list_all-find (stand_together x) (λ (y : Asker). same_owner y.owner a.owner) xs a (all_together-head x xs e) f in
          let far : same_owner x.owner a.owner ≡ false = not-true (same_owner x.owner a.owner) (and-left _ _ t) in
          ap (λ b. cond b (Some x) (find (λ (y : Asker). same_owner y.owner a.owner) xs)) far ∙ f

-- an asker at a file's lock that is a channel with the file open
record IsOpenAsker (c : Cat) (f : ℕ) (a : Asker) : Type 0 where
  low : 1 ≤ a.owner.part
  opened : Open
  has : open_of c a.owner ≡ Some opened
  file : (opened.file == f) ≡ true
  stands : a.standing ≡ Granted opened.mode

-- At the lock of file f the other owners than this one stand as the catalogue says, and no other file system stands there.
pub record OthersStand (t : List Resource) (c : Cat) (me : Owner) (f : ℕ) : Type 0 where
  pub opens : (owner : Owner) → 1 ≤ owner.part → same_owner owner me ≡ false → stands_at (A f) owner t ≡ open_stands (A f) (open_of c owner)
  pub free : (m : ℕ) → same_owner (system_of m) me ≡ false → stands_at (A f) (system_of m) t ≡ None

module _ (t : List Resource) (c : Cat) (n chan f : ℕ) (mode : Mode) (part : IsPart n chan) (is : IsTable t) (others : OthersStand t c (record { node = n; part = chan }) f) where
  abbrev xs : List Asker
  xs = (resource_at (A f) t).askers

  abbrev me : Owner
  me = record { node = n; part = chan }

  together : all_together xs ≡ true
  together = let s = IsSettled-at (A f) t is in s.together

  asker_is : (a : Asker) → find (λ (x : Asker). same_owner x.owner a.owner) xs ≡ Some a → same_owner a.owner me ≡ false → IsOpenAsker c f a
  asker_is a there far = by_part a.owner.part refl where
    stands : stands_at (A f) a.owner t ≡ Some a.standing
    stands = ap (option_map (λ (x : Asker). x.standing)) there

    by_name : (low : 1 ≤ a.owner.part) (o : Open) → open_of c a.owner ≡ Some o → (b : Bool) → is_same (A f) (A o.file) ≡ b → cond b (Some (Granted o.mode)) None ≡ Some a.standing → IsOpenAsker c f a
    by_name low o has true same e = record { low = low; opened = o; has = has; file = same_number o.file f same; stands = (let g : Granted o.mode ≡ a.standing = cc in sym g) }
    by_name low o has false same e = absurd (let g : None ≡ Some a.standing = e in cc)

    by_open : (low : 1 ≤ a.owner.part) (o : Option Open) → open_of c a.owner ≡ o → open_stands (A f) o ≡ Some a.standing → IsOpenAsker c f a
    by_open low None has e = absurd (let g : None ≡ Some a.standing = e in cc)
    by_open low (Some o) has e = by_name low o has (is_same (A f) (A o.file)) refl e

    by_part : (k : ℕ) → a.owner.part ≡ k → IsOpenAsker c f a
    by_part zero e = absurd (
        let own : system_of a.owner.node ≡ a.owner = λ i. record { node = a.owner.node; part = sym e i } in
        let off : same_owner (system_of a.owner.node) me ≡ false = ap (λ o. same_owner o me) own ∙ far in
        let none : None ≡ Some a.standing = sym (others.free a.owner.node off) ∙ ap (λ o. stands_at (A f) o t) own ∙ stands in cc)
    by_part (suc k) e = let low : 1 ≤ a.owner.part = omega arith in by_open low (open_of c a.owner) refl (sym (others.opens a.owner low far) ∙ stands)

  all_let : AllGo c me f mode → goes me mode xs ≡ true
  all_let go = all_found (lets me mode) xs together one where
    one : (a : Asker) → find (λ (x : Asker). same_owner x.owner a.owner) xs ≡ Some a → lets me mode a ≡ true
    one a there = by_test (same_owner a.owner me) refl where
      by_test : (b : Bool) → same_owner a.owner me ≡ b → (b || goes_beside mode (held a.standing)) ≡ true
      by_test true e = refl
      by_test false e = let o = asker_is a there e in ap (λ s. goes_beside mode (held s)) o.stands ∙ go a.owner o.opened o.low e o.has o.file

  let_all : goes me mode xs ≡ true → AllGo c me f mode
  let_all all owner o low far has file =
      goes_by_one me owner mode o.mode xs far all (others.opens owner low far ∙ ap (open_stands (A f)) has ∙ ap (λ b. cond b (Some (Granted o.mode)) None) (same_name o.file f file))

  either : (a b : Bool) → (a ≡ true → b ≡ true) → (b ≡ true → a ≡ true) → a ≡ b
  either true b to back = sym (to refl)
  either false true to back = back refl
  either false false to back = refl

  not_false : (b : Bool) → not b ≡ true → b ≡ false
  not_false true e = absurd (let g : false ≡ true = e in cc)
  not_false false e = refl

  -- the mode goes with all other locks exactly where it goes with all other opens
  goes_so : goes me mode xs ≡ not (list_any (conflicts f mode) (others_open c n chan))
  goes_so = either (goes me mode xs) (not (list_any (conflicts f mode) (others_open c n chan)))
      (λ e. ap not (all_go c n chan f mode part (let_all e))) (λ e. all_let (go_all c n chan f mode part (not_false (list_any (conflicts f mode) (others_open c n chan)) e)))

  -- a mode that it has goes with all other opens
  pub granted_goes : stands_at (A f) me t ≡ Some (Granted mode) → not (list_any (conflicts f mode) (others_open c n chan)) ≡ true
  granted_goes mine =
      let one : HasLock me mode xs = HasLock-lock_of me mode xs (locked me xs mode mine) in
      sym goes_so ∙ goes-held me mode xs one.asker together one.found (ap held one.stands)

  -- nobody waits there
  module _ (mine : (stands_at (A f) me t ≡ None) ⊎ ((m : Mode) × (stands_at (A f) me t ≡ Some (Granted m)))) where
    granted_each : (a : Asker) → find (λ (x : Asker). same_owner x.owner a.owner) xs ≡ Some a → (m : Mode) × (a.standing ≡ Granted m)
    granted_each a there = by_test (same_owner a.owner me) refl where
      stands : stands_at (A f) a.owner t ≡ Some a.standing
      stands = ap (option_map (λ (x : Asker). x.standing)) there

      by_mine : stands_at (A f) me t ≡ Some a.standing → (stands_at (A f) me t ≡ None) ⊎ ((m : Mode) × (stands_at (A f) me t ≡ Some (Granted m))) → (m : Mode) × (a.standing ≡ Granted m)
      by_mine s (inl none) = absurd (let g : None ≡ Some a.standing = sym none ∙ s in cc)
      by_mine s (inr k) = let g : Some a.standing ≡ Some (Granted k.0) = sym s ∙ k.1 in let h : a.standing ≡ Granted k.0 = cc in (k.0, h)

      by_test : (b : Bool) → same_owner a.owner me ≡ b → (m : Mode) × (a.standing ≡ Granted m)
      by_test true e = by_mine (ap (λ o. stands_at (A f) o t) (sym (same_owner-same a.owner me e)) ∙ stands) mine
      by_test false e = let o = asker_is a there e in (o.opened.mode, o.stands)

    none_so : (p : Asker → Bool) → ((a : Asker) (m : Mode) → a.standing ≡ Granted m → p a ≡ false) → list_any p xs ≡ false
    none_so p h = list_any-none p xs (find-absent p xs (all_found (λ a. not (p a)) xs together (λ a there. let g = granted_each a there in ap not (h a g.0 g.1))))

    no_conversion : list_any is_converting xs ≡ false
    no_conversion = none_so is_converting (λ a m e. ap converts e)

    no_wait : list_any is_waiting xs ≡ false
    no_wait = none_so is_waiting (λ a m e. ap waits e)

    pub at_once_is : goes_at_once me mode xs ≡ goes me mode xs
    at_once_is = ap (λ b. not b && (not (list_any is_waiting xs) && goes me mode xs)) no_conversion ∙ ap (λ b. not b && goes me mode xs) no_wait

    -- an ask goes at once exactly where its mode goes with all other opens
    pub goes_exactly : goes_at_once me mode xs ≡ not (list_any (conflicts f mode) (others_open c n chan))
    goes_exactly = at_once_is ∙ goes_so

  -- so it is of a request
  pub asks_new : stands_at (A f) me t ≡ None → taken_now (A f) me mode t ≡ goes_at_once me mode xs
  asks_new none = ap (λ b. cond b (converts_now (A f) me mode t) (goes_at_once me mode xs)) (no_lock me xs none)

  -- and of a conversion upward
  pub asks_up : (old : Mode) → stands_at (A f) me t ≡ Some (Granted old) → is_upward old mode ≡ true → taken_now (A f) me mode t ≡ goes_at_once me mode xs
  asks_up old has up =
      ap (λ b. cond b (converts_now (A f) me mode t) (goes_at_once me mode xs)) (has_its me xs old has)
      ∙ ap (λ m. converts_at_once me m mode xs) (lock-is me (resource_at (A f) t) old (locked me xs old has))
      ∙ ap (λ b. not b || (not (list_any is_converting xs) && goes me mode xs)) up
      ∙ ap (λ b. not b && goes me mode xs) (no_conversion (inr (old, has)))
      ∙ sym (at_once_is (inr (old, has)))
