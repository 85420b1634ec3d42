-- What ends of recoveries leave as it is: the rule, and names that are not being recovered.
use Rattle.std.proofs.Common.{◌≡◌, ◌≢◌, ◌++◌, ◌≤◌, ℕ, ◌-◌, true, false, List, [], ◌∷◌, Option, Some, None, is_some, find, length, refl, ap, sym, ◌∙◌, if◌then◌else◌}
use Rattle.std.specs.List.{range_with_len}
use Rattle.std.proofs.lemmas.List.{length-set}
use Rattle.plain_cat.specs.declared.mode.Mode.{Mode}
use Rattle.lock_db.specs.declared.name.LockName.{LockName}
use Rattle.lock_db.specs.declared.resource.Resource.{Resource}
use Rattle.lock_db.specs.Tables.{resource_at, recovered}
use Rattle.lock_db.specs.Laws.{LeavesOthers}
use Rattle.lock_db.proofs.Blocks.{asked-leaves, converted-leaves, released-leaves, recovered-leaves}
use Rattle.dlm_core.specs.declared.messages.Letter.{Letter}
use Rattle.dlm_core.specs.declared.messages.Letter.TheVariants.{Ask, Drop, Grant, Claim}
use Rattle.dlm_core.specs.declared.messages.Message.{Message}
use Rattle.dlm_core.specs.declared.holds.Hold.{Hold}
use Rattle.dlm_core.specs.declared.events.Event.{Event}
use Rattle.dlm_core.specs.declared.events.Event.TheVariants as event
use Rattle.dlm_core.specs.declared.rules.BlockRule.TheVariants.{OfHolders}
use Rattle.dlm_core.specs.Modes.{crosses}
use Rattle.dlm_core.specs.States.{State, home, recovery, table_at, told_at, hold_at, asked_hold, is_between, past_first, start}
use Rattle.dlm_core.specs.Steps.{called, ask_after, drop_after, served, taken}
use Rattle.dlm_core.specs.Recoveries.{is_open, closed, ended, ended_if, all_ended}
use Rattle.dlm_core.specs.Deaths.{bereft, bereft_tables, killed}
use Rattle.dlm_core.specs.Events.{arrived, received, pass_after, names_living, played, after}
use Rattle.dlm_core.specs.Lanes.{IsSound}
use Rattle.dlm_core.specs.Runs.{MakesCall, IsDue, claimed_block, IsStep, AreSteps}
use Rattle.dlm_core.specs.Runs.MakesCall.{Requests, Converts, Releases}
use Rattle.dlm_core.specs.Runs.IsStep.{Restores, Keeps}
use Rattle.dlm_core.proofs.Shapes.{length-bereft}
use Rattle.dlm_core.proofs.Sending.{own-recovers}
use Rattle.dlm_core.proofs.Takes.{told-other}
use Rattle.dlm_core.proofs.Recovering.{still-closed}
use Rattle.dlm_core.proofs.Trails.{ended-stays, recovery-is, taken-stays, killed-goes}

-- ---- the rule

called-rule : (s : State) (h : Hold) (mode : Mode) (fill : ℕ) → (ask_after h mode fill s).rule ≡ s.rule
called-rule s h mode fill =
    (elim (is_some h.wait) as (λ b. (if b then s else if crosses h.belief mode then s else called h.belief (asked_hold h mode) (Ask mode) fill s).rule ≡ s.rule) [
      | true ↦ refl
      | false ↦ (elim (crosses h.belief mode) as (λ b. (if b then s else called h.belief (asked_hold h mode) (Ask mode) fill s).rule ≡ s.rule) [ true ↦ refl | false ↦ refl ])
    ])

dropped-rule : (s : State) (h : Hold) (fill : ℕ) → (drop_after h fill s).rule ≡ s.rule
dropped-rule s h fill =
    (elim (is_some h.wait) as (λ b. (if b then s else if is_some h.belief then called h.belief (record h { belief = None }) Drop fill s else s).rule ≡ s.rule) [
      | true ↦ refl
      | false ↦ (elim (is_some h.belief) as (λ b. (if b then called h.belief (record h { belief = None }) Drop fill s else s).rule ≡ s.rule) [ true ↦ refl | false ↦ refl ])
    ])

ended-rule : (d : ℕ) (s : State) → (ended_if d s).rule ≡ s.rule
ended-rule d s = (elim (is_open d s.awaited) as (λ b. (if b then s else ended d s).rule ≡ s.rule) [ true ↦ refl | false ↦ (ended-stays d s).rule ])

all-ended-rule : (ds : List ℕ) (s : State) → (all_ended ds s).rule ≡ s.rule
all-ended-rule [] s = refl
all-ended-rule (d ∷ ds) s = all-ended-rule ds (ended_if d s) ∙ ended-rule d s

arrived-rule : (m : Message) (s : State) → (arrived m s).rule ≡ s.rule
arrived-rule m s = (elim (is_some (recovery m.name s)) as (λ b. (if b then record s { kept = s.kept ++ (m ∷ []) } else taken m s).rule ≡ s.rule) [ true ↦ refl | false ↦ (taken-stays m.letter m _ _ s).rule ])

received-rule : (m : Message) (l : Letter) (s : State) → (received m l s).rule ≡ s.rule
received-rule m (Ask w) s = arrived-rule m s
received-rule m Drop s = arrived-rule m s
received-rule m (Grant w v) s = refl
received-rule m (Claim d) s = all-ended-rule s.recoveries _

pass-rule : (from to : ℕ) (f : Option Message) (s : State) → (pass_after from to f s).rule ≡ s.rule
pass-rule from to None s = refl
pass-rule from to (Some m) s = received-rule m m.letter (record s { mail = past_first (is_between from to) s.mail })

played-rule : (e : Event) (s : State) → (played e s).rule ≡ s.rule
played-rule (event.Ask owner name mode fill) s = called-rule s (hold_at owner name s.holds) mode fill
played-rule (event.Drop owner name fill) s = dropped-rule s (hold_at owner name s.holds) fill
played-rule (event.Pass from to) s = pass-rule from to (find (is_between from to) s.mail) s
played-rule (event.Kill d) s = all-ended-rule (served (bereft d s)).recoveries (served (bereft d s))

pub rule-stays : (e : Event) (s : State) → (after e s).rule ≡ s.rule
rule-stays e s = (elim (names_living e s) as (λ b. (if b then played e s else s).rule ≡ s.rule) [ true ↦ played-rule e s | false ↦ refl ])

-- ---- names that are not being recovered

still-open : (x : LockName) (d : ℕ) (s : State) → recovery x s ≡ None → recovery x (ended_if d s) ≡ None
still-open x d s n =
    (elim (is_open d s.awaited) as (λ b. recovery x (if b then s else ended d s) ≡ None) [
      | true ↦ n
      | false ↦ recovery-is x (closed d s) (ended d s) (ended-stays d s) ∙ still-closed d x s (rw n refl) ∙ n
    ])

all-open : (x : LockName) (ds : List ℕ) (s : State) → recovery x s ≡ None → recovery x (all_ended ds s) ≡ None
all-open x [] s n = n
all-open x (d ∷ ds) s n = all-open x ds (ended_if d s) (still-open x d s n)

pub killed-open : (x : LockName) (d : ℕ) (s : State) → recovery x (bereft d s) ≡ None → recovery x (killed d s) ≡ None
killed-open x d s n = all-open x (served (bereft d s)).recoveries (served (bereft d s)) n

makes-leaves : (m : Message) (t t2 : List Resource) → MakesCall m t t2 → LeavesOthers m.name t t2
makes-leaves m t t2 (Requests mode l n e) = rw e (asked-leaves m.name m.owner mode t)
makes-leaves m t t2 (Converts old mode l n c e) = rw e (converted-leaves m.name m.owner mode m.value t)
makes-leaves m t t2 (Releases old l n e) = rw e (released-leaves m.name m.owner m.value t)

due-other : (r : State) (x y : LockName) → recovery x r ≡ None → IsDue r y → x ≢ y
due-other r x y n d e = let k : Some d.dead ≡ None = sym d.recovers ∙ ap (λ (z : LockName). recovery z r) (sym e) ∙ n in cc

step-told : (x : LockName) (n : ℕ) (r : State) (m : Message) (ts us : List (List Resource)) → 1 ≤ n → length ts ≡ n → recovery x r ≡ None → IsStep n r m ts us
    → (length us ≡ n) × (resource_at x (table_at (home n x) us) ≡ resource_at x (table_at (home n x) ts))
step-told x n r m ts us l len o (Restores t due claim makes e) =
    let t2 : List Resource = recovered m.name m.value (claimed_block r m.name).valid t in
    let leaves : LeavesOthers m.name (table_at (home n m.name) ts) t2 = λ y d. recovered-leaves m.name m.value (claimed_block r m.name).valid t y d ∙ makes-leaves m (table_at (home n m.name) ts) t makes y d in
    rw e (length-set ts (home n m.name - 1) t2 ∙ len, told-other n m.name x ts t2 l len (due-other r x m.name o due) leaves)
step-told x n r m ts us l len o (Keeps t due kept makes e) =
    rw e (length-set ts (home n m.name - 1) t ∙ len, told-other n m.name x ts t l len (due-other r x m.name o due) (makes-leaves m (table_at (home n m.name) ts) t makes))

steps-told : (x : LockName) (n : ℕ) (r : State) (vs : List (List (List Resource))) (ts us : List (List Resource)) → 1 ≤ n → length ts ≡ n → recovery x r ≡ None → AreSteps n r ts vs us
    → resource_at x (table_at (home n x) us) ≡ resource_at x (table_at (home n x) ts)
steps-told x n r [] ts us l len o a = ap (λ (z : List (List Resource)). resource_at x (table_at (home n x) z)) a
steps-told x n r (v ∷ vs) ts us l len o a =
    let k = step-told x n r a.0.0 ts v l len o a.0.1 in
    steps-told x n r vs v us l k.0 o a.1 ∙ k.1

killed-nodes : (d : ℕ) (s : State) → (killed d s).nodes ≡ s.nodes
killed-nodes d s = all-nodes (served (bereft d s)).recoveries (served (bereft d s))
  where
    all-nodes : (ds : List ℕ) (z : State) → (all_ended ds z).nodes ≡ z.nodes
    all-nodes [] z = refl
    all-nodes (k ∷ ds) z = all-nodes ds (ended_if k z) ∙ (elim (is_open k z.awaited) as (λ b. (if b then z else ended k z).nodes ≡ z.nodes) [ true ↦ refl | false ↦ (ended-stays k z).nodes ])

pub killed-told : (x : LockName) (d : ℕ) (s : State) → IsSound s → recovery x (bereft d s) ≡ None → told_at x (killed d s) ≡ told_at x (bereft d s)
killed-told x d s i n =
    let k = killed-goes d s i in
    ap (λ (j : ℕ). resource_at x (table_at (home j x) (killed d s).tables)) (killed-nodes d s)
    ∙ steps-told x s.nodes (bereft d s) k.chain.stops (bereft_tables d s.homes s.tables) (killed d s).tables i.some_node (length-bereft d s.homes s.tables ∙ i.each_has_one) n k.chain.steps

-- ---- the start

pub start-recovers : (n : ℕ) (x : LockName) → recovery x (start OfHolders n) ≡ None
start-recovers n x = own-recovers (range_with_len 1 n) (home n x - 1)
