-- What an event of one node leaves of the invariant.
use Rattle.std.proofs.Common.{◌≡◌, ◌≢◌, ◌⊎◌, ◌++◌, ℕ, Bool, true, List, [], ◌∷◌, Option, Some, None, refl, sym, ap, subst, ◌∙◌, inl, inr, arith, false}
use Rattle.std.proofs.lemmas.Bool.Decides.{nat_tests}
use Rattle.std.proofs.lemmas.List.{append-nil}
use Rattle.base_words.specs.Fields.{Block}
use Rattle.lock_db.specs.declared.name.LockName.{LockName}
use Rattle.lock_db.specs.declared.resource.Resource.{Resource}
use Rattle.plain_cat.specs.declared.command.Cmd.{Cmd}
use Rattle.plain_cat.specs.declared.cat.Cat.{Cat}
use Rattle.plain_rules.specs.Accounts.{Accounted}
use Rattle.plain_rules.specs.Replaying.{Replays}
use Rattle.vol_spell.specs.Owners.{Owners}
use Rattle.vol_spell.specs.Spelling.{AreBlank}
use Rattle.core_state.specs.Committed.{IsUnderOn, of_it}
use Rattle.plain_cat.specs.declared.history.Entry.{Entry}
use Rattle.plain_rules.specs.Own.{past, command_after, next_command, Own}
use Rattle.node_locks.specs.Held.{Row, joined, names_of, HoldsItsLocks, AreHeld, waits_at, with_rows}
use Rattle.node_locks.specs.HeldLaws.{GoesOn}
use Rattle.base_words.specs.Lists.{Has, Once}
use Rattle.base_words.proofs.Listing.{same_or_not}
use Rattle.op_law.specs.declared.need.Plan.{Plan}
use Rattle.core_state.specs.Worlds.{Course, NodeState, Plain, node_at, set_node, rows_of, rows_in, rows_at}
use Rattle.core_state.specs.Asks.{granted_ask}
use Rattle.core_state.specs.Stores.{IsStocked, AreCached, AreHeldWrites}
use Rattle.core_state.specs.Channels.{HasOpens}
use Rattle.core_state.specs.Opens.{open_now, AreOpensLocked}
use Rattle.core_state.specs.Small.{AreSmall}
use Rattle.core_state.specs.Fallen.{falls, fallen}
use Rattle.plain_histories.specs.Usages.{AreNear, HasSmallFiles}
use Rattle.core_state.specs.Goods.{nodes_under, HasSystemNumbers, AreLocked, IsAtPlan, HasCourse, HasCommand, IsNode, HasFewAnswers, Good}
use Rattle.plain_histories.specs.Opens.{OpensNameFiles}
use Rattle.core_state.proofs.Opens.{opens_same}
use Rattle.core_state.proofs.Switching.{AsksAlike, now_alike}
use Rattle.core_state.proofs.Nodes.{at_here, at_else, all_set, length_node}
use Rattle.node_locks.proofs.Standing.{goes-same}

-- the world after an event: other locks, blocks, nodes and history
abbrev pub altered : Plain → List Resource → List Block → List NodeState → List Entry → Plain
altered w t bs ns h = record w { locks = t; blocks = bs; nodes = ns; history = h }

-- a node loses nothing of its rows, and does not come to wait in one
abbrev pub LosesNothing : List Resource → List Resource → ℕ → NodeState → Type 0
LosesNothing t u m q = (ls : Row) → Has (rows_of q) ls → GoesOn t u m ls

-- as where the table stays
pub loses_nothing : (t : List Resource) (m : ℕ) (q : NodeState) → LosesNothing t t m q
loses_nothing t m q ls i = goes-same t m ls

has_kept_row : (s : NodeState) → Has (rows_of s) s.kept
has_kept_row s = inl refl

pub has_asked_row : (s : NodeState) → Has (rows_of s) s.asked
has_asked_row s = inr (inl refl)

-- a name that is in two lists is in one of them
pub names_parted : (xs ys : Row) (name : LockName) → Has (names_of (xs ++ ys)) name → Has (names_of xs) name ⊎ Has (names_of ys) name
names_parted [] ys name h = inr h
names_parted (x ∷ xs) ys name (inl e) = inl (inl e)
names_parted (x ∷ xs) ys name (inr h) = elim (names_parted xs ys name h) [ inl a ↦ inl (inr a) | inr b ↦ inr b ]

pub names_first : (xs ys : Row) (name : LockName) → Has (names_of xs) name → Has (names_of (xs ++ ys)) name
names_first [] ys name h = absurd h
names_first (x ∷ xs) ys name (inl e) = inl e
names_first (x ∷ xs) ys name (inr h) = inr (names_first xs ys name h)

pub names_second : (xs ys : Row) (name : LockName) → Has (names_of ys) name → Has (names_of (xs ++ ys)) name
names_second [] ys name h = h
names_second (x ∷ xs) ys name h = inr (names_second xs ys name h)

-- in which row of a node a name is
pub row_of_name : (s : NodeState) (name : LockName) → Has (names_of (joined (rows_of s))) name → Has (names_of s.kept) name ⊎ (Has (names_of s.asked) name ⊎ Has (names_of s.claims) name)
row_of_name s name h = elim (names_parted s.kept (s.asked ++ (s.claims ++ [])) name h) [
  | inl a ↦ inl a
  | inr b ↦ elim (names_parted s.asked (s.claims ++ []) name b) [
    | inl c ↦ inr (inl c)
    | inr d ↦ inr (inr (subst (λ (ls : Row). Has (names_of ls) name) (append-nil s.claims) d))
  ]
]

pub kept_named : (s : NodeState) (name : LockName) → Has (names_of s.kept) name → Has (names_of (joined (rows_of s))) name
kept_named s name h = names_first s.kept (s.asked ++ (s.claims ++ [])) name h

pub asked_named : (s : NodeState) (name : LockName) → Has (names_of s.asked) name → Has (names_of (joined (rows_of s))) name
asked_named s name h = names_second s.kept (s.asked ++ (s.claims ++ [])) name (names_first s.asked (s.claims ++ []) name h)

pub claims_named : (s : NodeState) (name : LockName) → Has (names_of s.claims) name → Has (names_of (joined (rows_of s))) name
claims_named s name h = names_second s.kept (s.asked ++ (s.claims ++ [])) name (names_second s.asked (s.claims ++ []) name (names_first s.claims [] name h))

-- what is named once in two lists is named once in each, and in one of them alone
once_first : (xs ys : Row) → Once (names_of (xs ++ ys)) → Once (names_of xs)
once_first [] ys o = tt
once_first (x ∷ xs) ys o = ((λ h. o.0 (names_first xs ys x.0 h)), once_first xs ys o.1)

once_second : (xs ys : Row) → Once (names_of (xs ++ ys)) → Once (names_of ys)
once_second [] ys o = o
once_second (x ∷ xs) ys o = once_second xs ys o.1

once_apart : (xs ys : Row) (name : LockName) → Once (names_of (xs ++ ys)) → Has (names_of xs) name → Has (names_of ys) name → ⊥
once_apart [] ys name o a b = a
once_apart (x ∷ xs) ys name o (inl e) b = o.0 (names_second xs ys x.0 (subst (Has (names_of ys)) (sym e) b))
once_apart (x ∷ xs) ys name o (inr a) b = once_apart xs ys name o.1 a b

pub kept_once : (s : NodeState) → Once (names_of (joined (rows_of s))) → Once (names_of s.kept)
kept_once s o = once_first s.kept (s.asked ++ (s.claims ++ [])) o

pub asked_once : (s : NodeState) → Once (names_of (joined (rows_of s))) → Once (names_of s.asked)
asked_once s o = once_first s.asked (s.claims ++ []) (once_second s.kept (s.asked ++ (s.claims ++ [])) o)

pub claims_once : (s : NodeState) → Once (names_of (joined (rows_of s))) → Once (names_of s.claims)
claims_once s o = once_first s.claims [] (once_second s.asked (s.claims ++ []) (once_second s.kept (s.asked ++ (s.claims ++ [])) o))

pub kept_apart : (s : NodeState) (name : LockName) → Once (names_of (joined (rows_of s))) → Has (names_of s.kept) name → Has (names_of s.asked) name ⊎ Has (names_of s.claims) name → ⊥
kept_apart s name o a b = once_apart s.kept (s.asked ++ (s.claims ++ [])) name o a (elim b [
  | inl c ↦ names_first s.asked (s.claims ++ []) name c
  | inr d ↦ names_second s.asked (s.claims ++ []) name (names_first s.claims [] name d)
])

pub asked_apart : (s : NodeState) (name : LockName) → Once (names_of (joined (rows_of s))) → Has (names_of s.asked) name → Has (names_of s.claims) name → ⊥
asked_apart s name o a b = once_apart s.asked (s.claims ++ []) name (once_second s.kept (s.asked ++ (s.claims ++ [])) o) a (names_first s.claims [] name b)

-- who waits where it does not come to wait has waited before
pub has_waited : (before after : Bool) → (before ≡ false → after ≡ false) → after ≡ true → before ≡ true
has_waited true after stays e = refl
has_waited false after stays e = absurd (let f : true ≡ false = sym e ∙ stays refl in cc)

-- a node that has had no part in an event
pub still_node : (w : Plain) (t : List Resource) (bs : List Block) (ns : List NodeState) (h : List Entry) (m : ℕ) (r : NodeState) → past m h ≡ past m w.history
    → LosesNothing w.locks t m r → IsNode w m r → IsNode (altered w t bs ns h) m r
still_node w t bs ns h m r same goes p = record {
  past = p.past ∙ sym same;
  geometry = p.geometry;
  channels = p.channels;
  channel = p.channel;
  store = p.store;
  rests = (goes r.kept (has_kept_row r)).waits p.rests;
  asks = λ e. p.asks (has_waited (waits_at w.locks m r.asked) (waits_at t m r.asked) asked_goes.waits e);
  command = by_cmd r.cmd p.command;
  space = p.space;
  over = λ o. ((p.over o).0, next ∙ (p.over o).1);
  gone = p.gone;
} where
  next : next_command w.script m h ≡ next_command w.script m w.history
  next = ap (λ x. command_after w.script m x) same

  asked_goes : GoesOn w.locks t m r.asked
  asked_goes = goes r.asked (has_asked_row r)

  by_plan : (x : Cmd) (o : Option Plan) → IsAtPlan x (waits_at w.locks m r.asked) r.seen r.done r.tried o → IsAtPlan x (waits_at t m r.asked) r.seen r.done r.tried o
  by_plan x None e = e
  by_plan x (Some q) e = (e.0, asked_goes.waits e.1, e.2)

  by_cmd : (o : Option Cmd) → HasCommand w m r o → HasCommand (altered w t bs ns h) m r o
  by_cmd None i = i
  by_cmd (Some x) a = record { next = next ∙ a.next; form = a.form; lawful = a.lawful; seen = a.seen; own = a.own; plan = by_plan x r.plan a.plan; same = a.same; waits = λ e. a.waits (has_waited (waits_at w.locks m r.asked) (waits_at t m r.asked) asked_goes.waits e) }

-- a command that has come so far, where its node waits for none of its locks for which it did not wait
pub course_stays : (next : Option Cmd) (t u : List Resource) (n : ℕ) (d : Course) → (waits_at t n d.asked ≡ false → waits_at u n d.asked ≡ false) → (o : Option Cmd) → HasCourse next t n d o → HasCourse next u n d o
course_stays next t u n d goes None i = i
course_stays next t u n d goes (Some x) a = record { next = a.next; form = a.form; lawful = a.lawful; seen = a.seen; own = a.own; plan = by_plan d.plan a.plan; same = a.same; waits = λ e. a.waits (has_waited (waits_at t n d.asked) (waits_at u n d.asked) goes e) } where
  by_plan : (o : Option Plan) → IsAtPlan x (waits_at t n d.asked) d.seen d.done d.tried o → IsAtPlan x (waits_at u n d.asked) d.seen d.done d.tried o
  by_plan None e = e
  by_plan (Some q) e = (e.0, goes e.1, e.2)

-- what an event makes of the catalogue, of the drive, of what the channels have open, of the cached blocks, and of free header slots
pub record IsDriven (w : Plain) (t : List Resource) (bs : List Block) (ns : List NodeState) (h : List Entry) : Type 0 where
  pub cat : Cat
  pub replayed : Replays w.opening w.script h cat
  pub base : List Block
  pub own : Owners
  pub drive : IsUnderOn w.geometry cat base own (nodes_under t ns) bs
  pub accounted : Accounted cat
  pub near : AreNear cat (falls h)
  pub sized : HasSmallFiles cat
  pub fell : falls h ≡ fallen h w.script.nodes
  pub system : HasSystemNumbers cat
  pub named : OpensNameFiles cat
  pub opens : AreOpensLocked t (open_now cat ns)
  pub opened : (m : ℕ) (q : NodeState) → node_at ns m ≡ Some q → HasOpens cat m q.opens
  pub cached : AreCached (altered w t bs ns h) own cat
  pub blank : AreBlank w.geometry base own

-- an event that leaves the history, and what each channel has open
pub still_driven : (w : Plain) (good : Good w) → (n : ℕ) (s r : NodeState) → node_at w.nodes n ≡ Some s → (t : List Resource) (bs : List Block) → AsksAlike (granted_ask s.tried s.plan) (granted_ask r.tried r.plan) → r.opens ≡ s.opens
    → (base : List Block) (own : Owners) → AreBlank w.geometry base own → IsUnderOn w.geometry good.running.cat base own (nodes_under t (set_node w.nodes n r)) bs → AreOpensLocked t (open_now good.running.cat w.nodes)
    → AreCached (altered w t bs (set_node w.nodes n r) w.history) own good.running.cat → IsDriven w t bs (set_node w.nodes n r) w.history
still_driven w good n s r at t bs alike same base own blank drive opens cached = record {
  cat = good.running.cat;
  replayed = good.running.replayed;
  base = base;
  own = own;
  drive = drive;
  cached = cached;
  blank = blank;
  accounted = good.running.accounted;
  near = good.running.near;
  sized = good.running.sized;
  fell = good.running.fell;
  system = good.running.system;
  named = good.running.named;
  opens = opens_same t (open_now good.running.cat w.nodes) (open_now good.running.cat (set_node w.nodes n r)) (now_alike good.running.cat w.nodes n s r at alike) opens;
  opened = all_set w.nodes n s r at (λ m q. HasOpens good.running.cat m q.opens) (subst (HasOpens good.running.cat n) (sym same) (good.running.opened n s at)) (λ m q ne e. good.running.opened m q e);
}

-- The invariant after an event of node n, which stood as s and stands as r: it is enough to show what the event is about.
pub rebuilt : (w : Plain) (good : Good w) → (n : ℕ) (s r : NodeState) → node_at w.nodes n ≡ Some s → (t : List Resource) (bs : List Block) (h : List Entry)
    → IsDriven w t bs (set_node w.nodes n r) h → AreLocked (altered w t bs (set_node w.nodes n r) h) → Own w.script h → AreSmall (altered w t bs (set_node w.nodes n r) h) → HasFewAnswers w.script n (past n h)
    → ((m : ℕ) → m ≢ n → past m h ≡ past m w.history)
    → ((m : ℕ) (q : NodeState) → m ≢ n → node_at w.nodes m ≡ Some q → LosesNothing w.locks t m q)
    → IsStocked r → AreHeldWrites (altered w t bs (set_node w.nodes n r) h) → IsNode (altered w t bs (set_node w.nodes n r) h) n r → Good (altered w t bs (set_node w.nodes n r) h)
rebuilt w good n s r at t bs h driven locked own small few others goes stocked writers node = record {
  counted = length_node w.nodes n r ∙ good.counted;
  running = record {
    cat = driven.cat;
    replayed = driven.replayed;
    drive = of_it w.geometry driven.cat driven.base driven.own (nodes_under t (set_node w.nodes n r)) bs driven.drive;
    accounted = driven.accounted;
    near = driven.near;
    sized = driven.sized;
    fell = driven.fell;
    system = driven.system;
    named = driven.named;
    opens = driven.opens;
    opened = driven.opened;
    stocked = all_set w.nodes n s r at (λ m q. IsStocked q) stocked (λ m q ne e. good.running.stocked m q e);
    cached = driven.cached;
    blank = driven.blank;
  };
  locked = locked;
  nodes = nodes;
  own = own;
  small = small;
  writers = writers;
  form = good.form;
  few = few_all;
  strangers = strangers;
} where
  ns : List NodeState
  ns = set_node w.nodes n r

  nodes : (m : ℕ) (q : NodeState) → node_at ns m ≡ Some q → IsNode (altered w t bs ns h) m q
  nodes = all_set w.nodes n s r at (λ m q. IsNode (altered w t bs ns h) m q) node (λ m q ne e. still_node w t bs ns h m q (others m ne) (goes m q ne e) (good.nodes m q e))

  few_all : (m : ℕ) → HasFewAnswers w.script m (past m h)
  few_all m = elim (same_or_not m n) [
    | inl f ↦ subst (λ (k : ℕ). HasFewAnswers w.script k (past k h)) (sym f) few
    | inr ne ↦ subst (HasFewAnswers w.script m) (sym (others m ne)) (good.few m)
  ]

  strangers : (m : ℕ) → node_at ns m ≡ None → next_command w.script m h ≡ None
  strangers m e = elim (same_or_not m n) [
    | inl f ↦ absurd (let x : Some r ≡ None = sym (at_here w.nodes n r s at) ∙ sym (ap (node_at ns) f) ∙ e in cc)
    | inr ne ↦ ap (λ x. command_after w.script m x) (others m ne) ∙ good.strangers m (sym (at_else w.nodes n m r ne) ∙ e)
  ]

-- the rows of the nodes where node n, which stood as s, stands as r
pub rows_set : (nodes : List NodeState) (n : ℕ) (s r : NodeState) → node_at nodes n ≡ Some s → (m : ℕ) → with_rows (rows_at nodes) n (rows_of r) m ≡ rows_at (set_node nodes n r) m
rows_set nodes n s r at m = elim (same_or_not m n) [ inl f ↦ here f | inr ne ↦ there ne ] where
  here : m ≡ n → with_rows (rows_at nodes) n (rows_of r) m ≡ rows_at (set_node nodes n r) m
  here f =
      let a : with_rows (rows_at nodes) n (rows_of r) m ≡ rows_of r = grind (arith, nat_tests) in
      let b : rows_at (set_node nodes n r) m ≡ rows_of r = ap (λ k. rows_in (node_at (set_node nodes n r) k)) f ∙ ap rows_in (at_here nodes n r s at) in
      a ∙ sym b

  there : m ≢ n → with_rows (rows_at nodes) n (rows_of r) m ≡ rows_at (set_node nodes n r) m
  there ne =
      let a : with_rows (rows_at nodes) n (rows_of r) m ≡ rows_at nodes m = grind (arith, nat_tests) in
      a ∙ sym (ap rows_in (at_else nodes n m r ne))

pub held_set : (t : List Resource) (nodes : List NodeState) (n : ℕ) (s r : NodeState) → node_at nodes n ≡ Some s → AreHeld t (with_rows (rows_at nodes) n (rows_of r)) → AreHeld t (rows_at (set_node nodes n r))
held_set t nodes n s r at held m = subst (λ (rs : List Row). HoldsItsLocks t m rs) (rows_set nodes n s r at m) (held m)

-- a node that has asked for no other lock
pub held_same : (t : List Resource) (nodes : List NodeState) (n : ℕ) (s r : NodeState) → node_at nodes n ≡ Some s → rows_of r ≡ rows_of s → AreHeld t (rows_at nodes) → AreHeld t (rows_at (set_node nodes n r))
held_same t nodes n s r at same held m = elim (same_or_not m n) [ inl f ↦ here f | inr ne ↦ there ne ] where
  here : m ≡ n → HoldsItsLocks t m (rows_at (set_node nodes n r) m)
  here f =
      let a : rows_at nodes m ≡ rows_of s = ap (λ k. rows_at nodes k) f ∙ ap rows_in at in
      let b : rows_at (set_node nodes n r) m ≡ rows_of r = ap (λ k. rows_in (node_at (set_node nodes n r) k)) f ∙ ap rows_in (at_here nodes n r s at) in
      subst (λ (rs : List Row). HoldsItsLocks t m rs) (a ∙ sym same ∙ sym b) (held m)

  there : m ≢ n → HoldsItsLocks t m (rows_at (set_node nodes n r) m)
  there ne = subst (λ (rs : List Row). HoldsItsLocks t m rs) (sym (ap rows_in (at_else nodes n m r ne))) (held m)
