-- By which steps the tables change when recoveries end, and at a death.
use Rattle.std.proofs.Common.{◌≡◌, ◌++◌, ◌&&◌, ◌==◌, ◌-◌, inr, ℕ, Bool, true, false, not, List, [], ◌∷◌, Option, Some, None, is_some, map, filter, set, find, refl, ap, sym, subst, ◌∙◌, cond, if◌then◌else◌, append_assoc, Contains}
use Rattle.std.specs.List.{list_all, list_any}
use Rattle.std.proofs.lemmas.List.{append-nil}
use Rattle.plain_cat.specs.declared.mode.Mode.{Mode}
use Rattle.lock_db.specs.declared.name.LockName.{LockName}
use Rattle.lock_db.specs.declared.name.Owner.{Owner}
use Rattle.lock_db.specs.declared.askers.Standing.{Standing}
use Rattle.lock_db.specs.declared.askers.Standing.TheVariants.{Granted}
use Rattle.lock_db.specs.declared.resource.Resource.{Resource}
use Rattle.lock_db.specs.Names.{is_same}
use Rattle.lock_db.specs.Queues.{standing_of, mode_of}
use Rattle.lock_db.specs.Resources.{fresh, is_used, is_writer_of, dropped_of}
use Rattle.lock_db.specs.Tables.{resource_at, released, dropped, recovered, IsTable}
use Rattle.lock_db.specs.Laws.{LeavesOthers}
use Rattle.lock_db.proofs.Lists.{and-left, and-right, not-true, list_all-head, list_all-tail, list_all-passing}
use Rattle.lock_db.proofs.Names.{is_same-same}
use Rattle.lock_db.proofs.Order.{vacated}
use Rattle.lock_db.proofs.Blocks.{recovered-leaves, dropped-at}
use Rattle.dlm_core.specs.declared.messages.Letter.{Letter}
use Rattle.dlm_core.specs.declared.messages.Letter.TheVariants.{Ask, Drop, Grant, Claim}
use Rattle.dlm_core.specs.declared.messages.Message.{Message}
use Rattle.dlm_core.specs.declared.holds.Hold.{Hold}
use Rattle.dlm_core.specs.declared.homes.Home.{Home}
use Rattle.dlm_core.specs.declared.rules.BlockRule.{BlockRule}
use Rattle.dlm_core.specs.declared.rules.BlockRule.TheVariants.{OfHolders, OfAll}
use Rattle.dlm_core.specs.declared.blocks.Block.{Block}
use Rattle.dlm_core.specs.declared.blocks.Seen.{Seen}
use Rattle.dlm_core.specs.declared.queue.Waiter.{Waiter}
use Rattle.dlm_core.specs.States.{State, home, home_at, master, recovery, table_at, told_at, version_at, in_turn}
use Rattle.dlm_core.specs.Steps.{is_grant, is_call, ask_made, drop_made, put_last, with_table, versions_after, is_served, grant_of, grants_of, served, taken_from, taken, taken_all}
use Rattle.dlm_core.specs.Recoveries.{is_of_recovery, is_with, is_name_of, better, not_valid, is_strong, block_for, again, made_again, reclaimed_lock, reclaimed, asked_again, all_asked_again, closed, ended, is_open, ended_if, all_ended}
use Rattle.dlm_core.specs.Deaths.{lowest, bereft, bereft_tables, is_lost, was_master, claim_from, with_ended, killed}
use Rattle.dlm_core.specs.Lanes.{IsSound}
use Rattle.dlm_core.specs.Runs.{claimed_block, IsDue, IsClaimOf, IsStep, BringsClaimed, Leads, MakesCall, Gave, GivesByDeath}
use Rattle.dlm_core.specs.Runs.IsStep.{Restores, Keeps}
use Rattle.dlm_core.proofs.Others.{can-mode}
use Rattle.dlm_core.proofs.Passing.{First, call-first, ask-call, drop-call, head-ask, head-drop, can-drop, CanAsk, CanDrop}
use Rattle.dlm_core.proofs.Takes.{eq-of, served-sound}
use Rattle.dlm_core.proofs.Dying.{table-stays, bereft-pre}
use Rattle.dlm_core.proofs.Tracing.{Each, each-both, each-contained, each-filter, each-stood, queue-waits, queue-open, WaitsIn, Says, Stood, IsNew, Goes, goes-none, goes-join, leads-here, leads-one, ask-makes, drop-makes}
use Rattle.dlm_core.proofs.ByCalls.{Passes, passes-old, passes-put, each-passing, true-false}
use Rattle.dlm_core.proofs.Recovering.{IsClaimable, front, find-front, none-some, is_open_call, asks_one, asks_of, with_tables, asked-next, one-taken, reclaim-all, restore-start, restored-sound, open-claims, open-kept, open-closed, still-closed, recovery-asked, ended-sound, all-asked, asked-nodes, all-asked-nodes, version-here}

-- ---- calls, one after the other

first-at : (m : Message) (ms : List Message) (z : State) → list_all (is_open_call z) (m ∷ ms) ≡ true → IsSound (front (m ∷ ms) z) → First (front (m ∷ ms) z) m.from m.to m
first-at m ms z n i =
    let first = list_all-head (is_open_call z) m ms n in
    call-first (front (m ∷ ms) z) m.from m.to m i (find-front m (ms ++ z.mail)) (and-left (is_call m.letter) (not (is_some (recovery m.name z))) first)
    (none-some (recovery m.name z) (not-true (is_some (recovery m.name z)) (and-right (is_call m.letter) (not (is_some (recovery m.name z))) first)))

-- ---- the grants that are sent once the tables have changed by a step

grants-new : (z r s : State) (m : Message) (ws : List Waiter) → z.nodes ≡ s.nodes → (st : IsStep s.nodes r m s.tables z.tables) → ((u : Waiter) → u.name ≡ m.name → BringsClaimed s.nodes r m s.tables z.tables st (grant_of z u)) → Each (Passes s m z) ws → Each (λ (w : Waiter). is_served z w ≡ true) ws
    → Each (Stood z) (map (grant_of z) ws) → Each (IsNew s.nodes r s.tables z.tables) (map (grant_of z) ws)
grants-new z r s m [] e st v a b c = tt
grants-new z r s m (w ∷ ws) e st v a b c =
    let now : Gave z.nodes z.tables w.owner w.name w.mode (told_at w.name z).value (told_at w.name z).valid = record { granted = c.0; block = refl; mark = refl } in
    let there : Gave s.nodes z.tables w.owner w.name w.mode (told_at w.name z).value (told_at w.name z).valid =
    subst (λ (n : ℕ). Gave n z.tables w.owner w.name w.mode (told_at w.name z).value (told_at w.name z).valid) e now in (
      record {
        before = s.tables;
        behind = z.tables;
        call = m;
        starts = leads-here s.nodes r s.tables s.tables refl;
        step = st;
        ends = leads-here s.nodes r z.tables z.tables refl;
        on_name = sym (a.0.1 b.0);
        asks = a.0.0;
        gave = there;
        version = v w (a.0.1 b.0);
      },
      grants-new z r s m ws e st v a.1 b.1 c.1,
    )

serve-goes : (r s z : State) (m : Message) → z.nodes ≡ s.nodes → (st : IsStep s.nodes r m s.tables z.tables) → ((u : Waiter) → u.name ≡ m.name → BringsClaimed s.nodes r m s.tables z.tables st (grant_of z u)) → z.mail ≡ s.mail → Each (Passes s m z) z.queue → Each (Stood z) (grants_of z z.queue) → Goes s.nodes r s (served z)
serve-goes r s z m e st v f a b = record {
  chain = leads-one s.nodes r m s.tables z.tables st;
  sent = grants_of z z.queue;
  sends = ap (λ (ms : List Message). ms ++ grants_of z z.queue) f;
  given = grants-new z r s m (filter (is_served z) z.queue) e st v (each-filter (Passes s m z) (is_served z) z.queue a) (each-passing (is_served z) z.queue) b;
}

-- a message was kept back for a name whose recovery ends
record IsKeepable (r : State) (m : Message) : Type 0 where
  kept : Contains r.kept m
  due : IsDue r m.name

-- a message that was kept back is taken, while these are in front of the mail
take-goes : (l : Letter) (r : State) (m : Message) (ms : List Message) (s : State) → m.letter ≡ l → IsKeepable r m → IsSound (front (m ∷ ms) s) → First (front (m ∷ ms) s) m.from m.to m
    → IsSound (front ms (taken_from m l (mode_of m.owner (told_at m.name s).askers) (table_at (home s.nodes m.name) s.tables) s))
    → Goes s.nodes r s (taken_from m l (mode_of m.owner (told_at m.name s).askers) (table_at (home s.nodes m.name) s.tables) s)
take-goes (Ask w) r m ms s l k i a j =
    let y : State = front (m ∷ ms) s in
    let t : List Resource = table_at (home s.nodes m.name) s.tables in
    let old : Option Mode = mode_of m.owner (told_at m.name s).askers in
    let t2 : List Resource = ask_made m old w t in
    let q : List Waiter = put_last m old w s.queue in
    let pre : State = with_table m.name t2 (record s { queue = q; versions = versions_after m old t s.holds s.versions }) in
    let c : CanAsk m w t = head-ask m w t _ _ _ _ _ l a.head in
    let makes : MakesCall m t t2 = ask-makes m w t c old l (can-mode c.lock (standing_of m.owner (resource_at m.name t).askers) c.stands) in
    let call = ask-call y m.from m.to m w i a l in
    let all : Each (Passes s m pre) s.queue = passes-old s m t2 pre s.queue i.some_node i.each_has_one call.others refl refl (queue-waits y i) in
    serve-goes r s pre m refl (Keeps t2 k.due k.kept makes refl) (λ u n. tt) refl (passes-put s m pre old w s.queue l all)
    (each-stood (front ms (served pre)) (ms ++ s.mail) (grants_of pre q) j (sym (append_assoc ms s.mail (grants_of pre q))))
take-goes Drop r m ms s l k i a j =
    let y : State = front (m ∷ ms) s in
    let t : List Resource = table_at (home s.nodes m.name) s.tables in
    let old : Option Mode = mode_of m.owner (told_at m.name s).askers in
    let t2 : List Resource = released m.name m.owner m.value t in
    let pre : State = with_table m.name (drop_made m old t) (record s { versions = versions_after m old t s.holds s.versions }) in
    let c : CanDrop m t = head-drop m t _ _ _ _ _ l a.head in
    let is : drop_made m old t ≡ t2 = can-drop m t old refl c in
    let at : pre.tables ≡ set s.tables (home s.nodes m.name - 1) t2 = ap (λ (u : List Resource). set s.tables (home s.nodes m.name - 1) u) is in
    let call = drop-call y m.from m.to m i a l in
    let all : Each (Passes s m pre) s.queue = passes-old s m t2 pre s.queue i.some_node i.each_has_one call.others refl at (queue-waits y i) in
    serve-goes r s pre m refl (Keeps t2 k.due k.kept (drop-makes m t c l) at) (λ u n. tt) refl all
    (each-stood (front ms (served pre)) (ms ++ s.mail) (grants_of pre s.queue) j (sym (append_assoc ms s.mail (grants_of pre s.queue))))
take-goes (Grant w v) r m ms s l k i a j = goes-none s.nodes r s s refl refl
take-goes (Claim d) r m ms s l k i a j = goes-none s.nodes r s s refl refl

-- the call that it makes of its table
pub record MakesSo (m : Message) (l : Letter) (s : State) (ts : List (List Resource)) : Type 0 where
  pub table : List Resource
  pub makes : MakesCall m (table_at (home s.nodes m.name) s.tables) table
  pub becomes : ts ≡ set s.tables (home s.nodes m.name - 1) table

pub take-makes : (l : Letter) (from to : ℕ) (m : Message) (zm : List Message) (s : State) → m.letter ≡ l → is_call l ≡ true → First s from to m
    → MakesSo m l s (taken_from m l (mode_of m.owner (told_at m.name s).askers) (table_at (home s.nodes m.name) s.tables) (record s { mail = zm })).tables
take-makes (Ask w) from to m zm s l k a =
    let t : List Resource = table_at (home s.nodes m.name) s.tables in
    let old : Option Mode = mode_of m.owner (told_at m.name s).askers in
    let c : CanAsk m w t = head-ask m w t _ _ _ _ _ l a.head in
    record { table = ask_made m old w t; makes = ask-makes m w t c old l (can-mode c.lock (standing_of m.owner (resource_at m.name t).askers) c.stands); becomes = refl }
take-makes Drop from to m zm s l k a =
    let t : List Resource = table_at (home s.nodes m.name) s.tables in
    let old : Option Mode = mode_of m.owner (told_at m.name s).askers in
    let c : CanDrop m t = head-drop m t _ _ _ _ _ l a.head in
    record { table = released m.name m.owner m.value t; makes = drop-makes m t c l; becomes = ap (λ (u : List Resource). set s.tables (home s.nodes m.name - 1) u) (can-drop m t old refl c) }
take-makes (Grant w v) from to m zm s l k a = cc
take-makes (Claim d) from to m zm s l k a = cc

-- what is known of the state after it
record Further (ms : List Message) (y : State) : Type 0 where
  open_calls : list_all (is_open_call y) ms ≡ true
  sound : IsSound (front ms y)

further : (m : Message) (ms : List Message) (z : State) → list_all (is_open_call z) (m ∷ ms) ≡ true → IsSound (front (m ∷ ms) z) → Further ms (taken m z)
further m ms z n i = one-taken (λ y. Further ms y) m ms z n i (λ y t j. record { open_calls = t; sound = j })

taken-goes : (r : State) (m : Message) (ms : List Message) (z : State) → IsKeepable r m → list_all (is_open_call z) (m ∷ ms) ≡ true → IsSound (front (m ∷ ms) z) → Goes z.nodes r z (taken m z)
taken-goes r m ms z k n i = take-goes m.letter r m ms z refl k i (first-at m ms z n i) (further m ms z n i).sound

-- nodes stay
taken-nodes : (l : Letter) (m : Message) (old : Option Mode) (t : List Resource) (z : State) → (taken_from m l old t z).nodes ≡ z.nodes
taken-nodes (Ask w) m old t z = refl
taken-nodes Drop m old t z = refl
taken-nodes (Grant w v) m old t z = refl
taken-nodes (Claim d) m old t z = refl

all-taken-goes : (n : ℕ) (r : State) (ms : List Message) (z : State) → z.nodes ≡ n → Each (IsKeepable r) ms → list_all (is_open_call z) ms ≡ true → IsSound (front ms z) → Goes n r z (taken_all ms z)
all-taken-goes n r [] z e k c i = goes-none n r z z refl refl
all-taken-goes n r (m ∷ ms) z e k c i =
    let f = further m ms z c i in
    let one : Goes n r z (taken m z) = subst (λ (j : ℕ). Goes j r z (taken m z)) e (taken-goes r m ms z k.0 c i) in
    let same : (taken m z).nodes ≡ n = taken-nodes m.letter m (mode_of m.owner (told_at m.name z).askers) (table_at (home z.nodes m.name) z.tables) z ∙ e in
    goes-join n r z (taken m z) (taken_all ms (taken m z)) one (all-taken-goes n r ms (taken m z) same k.1 f.open_calls f.sound)

-- ---- claimed asks

record FurtherAsked (bs : LockName → Seen) (hs : List Hold) (ms : List Message) (y : State) : Type 0 where
  open_names : list_all (λ k. not (is_some (recovery k.name y))) hs ≡ true
  sound : IsSound (front (asks_of bs (λ x. master x y) hs ++ ms) y)

ask-goes : (w : Option Mode) (r : State) (h : Hold) (hs : List Hold) (bs : LockName → Seen) (ms : List Message) (z : State) → h.wait ≡ w → IsClaimable r bs h → recovery h.name z ≡ None
    → IsSound (front ((asks_one w (bs h.name) (master h.name z) h ++ asks_of bs (λ x. master x z) hs) ++ ms) z)
    → FurtherAsked bs hs ms (asked_again h w (bs h.name) z) → Goes z.nodes r z (asked_again h w (bs h.name) z)
ask-goes None r h hs bs ms z u k n i f = goes-none z.nodes r z z refl refl
ask-goes (Some w) r h hs bs ms z u k n i f =
    let b : Seen = bs h.name in
    let m : Message = again h w b z in
    let rest : List Message = asks_of bs (λ x. master x z) hs ++ ms in
    let y : State = front (m ∷ rest) z in
    let t : List Resource = table_at (home z.nodes m.name) z.tables in
    let old : Option Mode = mode_of m.owner (told_at m.name z).askers in
    let t2 : List Resource = made_again b.valid m old w t in
    let q : List Waiter = put_last m old w z.queue in
    let after : State = asked_again h (Some w) b z in
    let pre : State = with_table m.name t2 (record z { queue = q; versions = after.versions }) in
    let a = call-first y m.from m.to m i (find-front m (rest ++ z.mail)) refl n in
    let c : CanAsk m w t = head-ask m w t _ _ _ _ _ refl a.head in
    let makes : MakesCall m t (ask_made m old w t) = ask-makes m w t c old refl (can-mode c.lock (standing_of m.owner (resource_at m.name t).askers) c.stands) in
    let claim : IsClaimOf r m = record { claim = h; made = k.made; of_owner = refl; on_name = refl; mode = w; asks = refl; claims = inr u; block = ap (λ (v : Seen). v.value) k.block } in
    let call = ask-call y m.from m.to m w i a refl in
    let leaves : LeavesOthers m.name t t2 = λ x d. recovered-leaves m.name m.value b.valid (ask_made m old w t) x d ∙ call.others x d in
    let all : Each (Passes z m pre) z.queue = passes-old z m t2 pre z.queue i.some_node i.each_has_one leaves refl refl (queue-waits y i) in
    let brings : (u2 : Waiter) → u2.name ≡ h.name → version_at u2.name pre.versions ≡ (claimed_block r u2.name).version =
    λ u2 d. ap (λ (x : LockName). version_at x pre.versions) d ∙ version-here h.name b.version z.versions ∙ ap (λ (v : Seen). v.version) k.block ∙ ap (λ (x : LockName). (claimed_block r x).version) (sym d) in
    serve-goes r z pre m refl (Restores (ask_made m old w t) k.due claim makes (ap (λ (v : Seen). set z.tables (home z.nodes m.name - 1) (recovered m.name m.value v.valid (ask_made m old w t))) k.block)) brings refl (passes-put z m pre old w z.queue refl all)
    (each-stood (front rest (served pre)) (rest ++ z.mail) (grants_of pre q) f.sound (sym (append_assoc rest z.mail (grants_of pre q))))

all-asked-goes : (n : ℕ) (r : State) (hs : List Hold) (bs : LockName → Seen) (ms : List Message) (z : State) → z.nodes ≡ n → Each (IsClaimable r bs) hs → list_all (λ k. not (is_some (recovery k.name z))) hs ≡ true
    → IsSound (front (asks_of bs (λ x. master x z) hs ++ ms) z) → Goes n r z (all_asked_again bs hs z)
all-asked-goes n r [] bs ms z e k c i = goes-none n r z z refl refl
all-asked-goes n r (h ∷ hs) bs ms z e k c i =
    let b : Seen = bs h.name in
    let o : recovery h.name z ≡ None = none-some (recovery h.name z) (not-true (is_some (recovery h.name z)) (list_all-head (λ (j : Hold). not (is_some (recovery j.name z))) h hs c)) in
    let rest = list_all-tail (λ (j : Hold). not (is_some (recovery j.name z))) h hs c in
    let y : State = asked_again h h.wait b z in
    let f : FurtherAsked bs hs ms y = asked-next (λ x. FurtherAsked bs hs ms x) h.wait h hs bs ms z o rest i (λ x t j. record { open_names = t; sound = j }) in
    let one : Goes n r z y = subst (λ (j : ℕ). Goes j r z y) e (ask-goes h.wait r h hs bs ms z refl k.0 o i f) in
    goes-join n r z y (all_asked_again bs hs y) one (all-asked-goes n r hs bs ms y (asked-nodes h.wait h b z ∙ e) k.1 f.open_names f.sound)

-- ---- what recoveries have left, while they end one after the other

-- What is still to be recovered was so at first, with the same claims and what was kept back.
record IsLeft (r s : State) : Type 0 where
  nodes : s.nodes ≡ r.nodes
  recovers : (x : LockName) (d : ℕ) → recovery x s ≡ Some d → recovery x r ≡ Some d
  awaited : s.awaited ≡ r.awaited
  claims : Each (Contains r.claims) s.claims
  blocks : (x : LockName) → is_some (recovery x s) ≡ true → claimed_block s x ≡ claimed_block r x
  kept : Each (Contains r.kept) s.kept

left-all : (r : State) → IsLeft r r
left-all r = record { nodes = refl; recovers = λ x d e. e; awaited = refl; claims = each-contained r.claims; blocks = λ x e. refl; kept = each-contained r.kept }

-- what is claimed of a name is all that its value block needs
module _ {X : Type 0} where
  named-kept : (p q : LockName → Bool) (name : X → LockName) (x : LockName) (xs : List X) → ((y : LockName) → q y ≡ true → y ≡ x) → p x ≡ true → filter (λ k. q (name k)) (filter (λ k. p (name k)) xs) ≡ filter (λ k. q (name k)) xs
  named-kept p q name x [] h e = refl
  named-kept p q name x (b ∷ bs) h e =
      let rest = named-kept p q name x bs h e in
      (elim (q (name b)) as (λ c. q (name b) ≡ c → filter (λ k. q (name k)) (filter (λ k. p (name k)) (b ∷ bs)) ≡ cond c (b ∷ filter (λ k. q (name k)) bs) (filter (λ k. q (name k)) bs)) [
        | true ↦ λ f. rw (ap p (h (name b) f) ∙ e, f) (ap (λ (ks : List X). b ∷ ks) rest)
        | false ↦ λ f. (elim (p (name b)) as (λ c. filter (λ k. q (name k)) (cond c (b ∷ filter (λ k. p (name k)) bs) (filter (λ k. p (name k)) bs)) ≡ filter (λ k. q (name k)) bs) [ true ↦ rw f rest | false ↦ rest ])
      ]) refl

  filter-both : (p q : X → Bool) (xs : List X) → filter q (filter p xs) ≡ filter (λ k. p k && q k) xs
  filter-both p q [] = refl
  filter-both p q (x ∷ xs) =
      let t = filter-both p q xs in
      (elim (p x) as (λ c. filter q (cond c (x ∷ filter p xs) (filter p xs)) ≡ cond (c && q x) (x ∷ filter (λ k. p k && q k) xs) (filter (λ k. p k && q k) xs)) [
        | true ↦ (elim (q x) as (λ c. cond c (x ∷ filter q (filter p xs)) (filter q (filter p xs)) ≡ cond c (x ∷ filter (λ k. p k && q k) xs) (filter (λ k. p k && q k) xs)) [ true ↦ ap (λ (ks : List X). x ∷ ks) t | false ↦ t ])
        | false ↦ t
      ])

  find-both : (p q : X → Bool) (xs : List X) → find q (filter p xs) ≡ find (λ k. p k && q k) xs
  find-both p q [] = refl
  find-both p q (x ∷ xs) =
      let t = find-both p q xs in
      (elim (p x) as (λ c. find q (cond c (x ∷ filter p xs) (filter p xs)) ≡ cond (c && q x) (Some x) (find (λ k. p k && q k) xs)) [
        | true ↦ (elim (q x) as (λ c. cond c (Some x) (find q (filter p xs)) ≡ cond c (Some x) (find (λ k. p k && q k) xs)) [ true ↦ refl | false ↦ t ])
        | false ↦ t
      ])

named-blocks : (p : LockName → Bool) (x : LockName) (bs : List Block) → p x ≡ true → filter (λ (b : Block). is_same b.name x) (filter (λ (b : Block). p b.name) bs) ≡ filter (λ (b : Block). is_same b.name x) bs
named-blocks p x bs e = named-kept p (λ y. is_same y x) (λ (b : Block). b.name) x bs (λ y f. is_same-same y x f) e

named-claims : (p : LockName → Bool) (x : LockName) (hs : List Hold) → p x ≡ true → filter (λ (h : Hold). is_same h.name x) (filter (λ (h : Hold). p h.name) hs) ≡ filter (λ (h : Hold). is_same h.name x) hs
named-claims p x hs e = named-kept p (λ y. is_same y x) (λ (h : Hold). h.name) x hs (λ y f. is_same-same y x f) e

block-left : (rule : BlockRule) (p : LockName → Bool) (x : LockName) (hs : List Hold) (bs : List Block) → p x ≡ true → block_for rule (filter (λ h. p h.name) hs) (filter (λ b. p b.name) bs) x ≡ block_for rule hs bs x
block-left OfAll p x hs bs e = ap (λ (cs : List Block). not_valid (in_turn better cs None)) (named-blocks p x bs e)
block-left OfHolders p x hs bs e =
    let mine : Hold → Bool = λ h. is_same h.name x in
    let fewer : List Hold = filter (λ h. p h.name) hs in
    let strong : find (λ (h : Hold). mine h && is_strong h.belief) fewer ≡ find (λ (h : Hold). mine h && is_strong h.belief) hs =
    sym (find-both mine (λ h. is_strong h.belief) fewer) ∙ ap (find (λ (h : Hold). is_strong h.belief)) (named-claims p x hs e) ∙ find-both mine (λ h. is_strong h.belief) hs in
    let believed : filter (λ (h : Hold). mine h && is_some h.belief) fewer ≡ filter (λ (h : Hold). mine h && is_some h.belief) hs =
    sym (filter-both mine (λ h. is_some h.belief) fewer) ∙ ap (filter (λ (h : Hold). is_some h.belief)) (named-claims p x hs e) ∙ filter-both mine (λ h. is_some h.belief) hs in
    rw (strong, believed) refl

pub of-recovery : (d : ℕ) (o : Option ℕ) → is_of_recovery d o ≡ true → o ≡ Some d
of-recovery d None e = cc
of-recovery d (Some k) e = ap (λ (j : ℕ). Some j) (eq-of k d e)

due-of : (r s : State) (d : ℕ) (x : LockName) → IsLeft r s → is_open d s.awaited ≡ false → is_name_of d s x ≡ true → IsDue r x
due-of r s d x l o e = record { dead = d; recovers = l.recovers x d (of-recovery d (recovery x s) e); all_came = ap (is_open d) (sym l.awaited) ∙ o }

claimable : (r s : State) (d : ℕ) → IsLeft r s → is_open d s.awaited ≡ false → Each (IsClaimable r (block_for s.rule (filter (λ h. is_with true d s h.name) s.claims) (filter (λ b. is_with true d s b.name) s.claimed_blocks))) (filter (λ h. is_with true d s h.name) s.claims)
claimable r s d l o =
    let mine : Hold → Bool = λ h. is_name_of d s h.name in
    let bs : LockName → Seen = block_for s.rule (filter mine s.claims) (filter (λ b. is_name_of d s b.name) s.claimed_blocks) in
    each-both (Contains r.claims) (λ (h : Hold). mine h ≡ true) (IsClaimable r bs) (filter mine s.claims)
    (λ h c e. record {
      made = c;
      due = due-of r s d h.name l o e;
      block = block-left s.rule (is_name_of d s) h.name s.claims s.claimed_blocks e ∙ l.blocks h.name (ap is_some (of-recovery d (recovery h.name s) e));
    }) (each-filter (Contains r.claims) mine s.claims l.claims) (each-passing mine s.claims)

keepable : (r s : State) (d : ℕ) → IsLeft r s → is_open d s.awaited ≡ false → Each (IsKeepable r) (filter (λ m. is_with true d s m.name) s.kept)
keepable r s d l o =
    let mine : Message → Bool = λ m. is_name_of d s m.name in
    each-both (Contains r.kept) (λ (m : Message). mine m ≡ true) (IsKeepable r) (filter mine s.kept)
    (λ m c e. record { kept = c; due = due-of r s d m.name l o e }) (each-filter (Contains r.kept) mine s.kept l.kept) (each-passing mine s.kept)

-- ---- a recovery

ended-goes : (r : State) (d : ℕ) (s : State) → IsSound s → IsLeft r s → is_open d s.awaited ≡ false → Goes s.nodes r s (ended d s)
ended-goes p d s i l o =
    let c : State = closed d s in
    let bs : LockName → Seen = block_for s.rule (filter (λ h. is_with true d s h.name) s.claims) (filter (λ b. is_with true d s b.name) s.claimed_blocks) in
    let hs : List Hold = filter (λ h. is_with true d s h.name) s.claims in
    let ks : List Message = filter (λ m. is_with true d s m.name) s.kept in
    let r = reclaim-all d bs s hs [] s.tables s.versions i refl (list_all-passing (λ h. is_name_of d s h.name) s.claims) (restore-start d bs s i) in
    let z : State = with_tables c r.tables r.versions in
    let a : State = all_asked_again bs hs z in
    let so = restored-sound d bs s r.tables r.versions i r.all in
    let opened = open-claims d s z (λ x e. open-closed d x s e) in
    let first : Goes s.nodes p s z = record { chain = r.steps p (claimable p s d l o); sent = []; sends = sym (append-nil s.mail); given = tt } in
    let second : Goes s.nodes p z a = all-asked-goes s.nodes p hs bs ks z refl (claimable p s d l o) opened so in
    let kept1 = open-kept d s a i.kept_back (λ x e. recovery-asked hs bs z x ∙ open-closed d x s e) in
    let third : Goes s.nodes p a (taken_all ks a) = all-taken-goes s.nodes p ks a (all-asked-nodes hs bs z) (keepable p s d l o) kept1 (all-asked hs bs ks z opened so) in
    subst (λ (y : State). Goes s.nodes p s (taken_all ks (all_asked_again bs hs y))) (sym r.is) (goes-join s.nodes p s z (taken_all ks a) first (goes-join s.nodes p z a (taken_all ks a) second third))

-- what a recovery leaves as it is, once it is closed
pub record IsBeside (s t : State) : Type 0 where
  pub rule : t.rule ≡ s.rule
  pub nodes : t.nodes ≡ s.nodes
  pub living : t.living ≡ s.living
  pub homes : t.homes ≡ s.homes
  pub awaited : t.awaited ≡ s.awaited
  pub claims : t.claims ≡ s.claims
  pub blocks : t.claimed_blocks ≡ s.claimed_blocks
  pub kept : t.kept ≡ s.kept

stays-same : (s : State) → IsBeside s s
stays-same s = record { rule = refl; nodes = refl; living = refl; homes = refl; awaited = refl; claims = refl; blocks = refl; kept = refl }

stays-on : (s t u : State) → IsBeside s t → IsBeside t u → IsBeside s u
stays-on s t u a b = record { rule = b.rule ∙ a.rule; nodes = b.nodes ∙ a.nodes; living = b.living ∙ a.living; homes = b.homes ∙ a.homes; awaited = b.awaited ∙ a.awaited; claims = b.claims ∙ a.claims; blocks = b.blocks ∙ a.blocks; kept = b.kept ∙ a.kept }

pub taken-stays : (l : Letter) (m : Message) (old : Option Mode) (t : List Resource) (z : State) → IsBeside z (taken_from m l old t z)
taken-stays (Ask w) m old t z = record { rule = refl; nodes = refl; living = refl; homes = refl; awaited = refl; claims = refl; blocks = refl; kept = refl }
taken-stays Drop m old t z = record { rule = refl; nodes = refl; living = refl; homes = refl; awaited = refl; claims = refl; blocks = refl; kept = refl }
taken-stays (Grant w v) m old t z = stays-same z
taken-stays (Claim d) m old t z = stays-same z

all-taken-stays : (ms : List Message) (z : State) → IsBeside z (taken_all ms z)
all-taken-stays [] z = stays-same z
all-taken-stays (m ∷ ms) z =
    stays-on z (taken m z) (taken_all ms (taken m z)) (taken-stays m.letter m (mode_of m.owner (told_at m.name z).askers) (table_at (home z.nodes m.name) z.tables) z) (all-taken-stays ms (taken m z))

asked-stays : (w : Option Mode) (h : Hold) (b : Seen) (z : State) → IsBeside z (asked_again h w b z)
asked-stays None h b z = stays-same z
asked-stays (Some w) h b z = record { rule = refl; nodes = refl; living = refl; homes = refl; awaited = refl; claims = refl; blocks = refl; kept = refl }

all-asked-stays : (hs : List Hold) (bs : LockName → Seen) (z : State) → IsBeside z (all_asked_again bs hs z)
all-asked-stays [] bs z = stays-same z
all-asked-stays (h ∷ hs) bs z =
    let y : State = asked_again h h.wait (bs h.name) z in
    stays-on z y (all_asked_again bs hs y) (asked-stays h.wait h (bs h.name) z) (all-asked-stays hs bs y)

reclaimed-stays : (be : Option Mode) (h : Hold) (b : Seen) (z : State) → IsBeside z (reclaimed_lock h be b z)
reclaimed-stays None h b z = stays-same z
reclaimed-stays (Some m) h b z = record { rule = refl; nodes = refl; living = refl; homes = refl; awaited = refl; claims = refl; blocks = refl; kept = refl }

all-reclaimed-stays : (hs : List Hold) (bs : LockName → Seen) (z : State) → IsBeside z (reclaimed bs hs z)
all-reclaimed-stays [] bs z = stays-same z
all-reclaimed-stays (h ∷ hs) bs z =
    let y : State = reclaimed_lock h h.belief (bs h.name) z in
    stays-on z y (reclaimed bs hs y) (reclaimed-stays h.belief h (bs h.name) z) (all-reclaimed-stays hs bs y)

pub ended-stays : (d : ℕ) (s : State) → IsBeside (closed d s) (ended d s)
ended-stays d s =
    let bs : LockName → Seen = block_for s.rule (filter (λ h. is_with true d s h.name) s.claims) (filter (λ b. is_with true d s b.name) s.claimed_blocks) in
    let hs : List Hold = filter (λ h. is_with true d s h.name) s.claims in
    let ks : List Message = filter (λ m. is_with true d s m.name) s.kept in
    let y : State = reclaimed bs hs (closed d s) in
    let a : State = all_asked_again bs hs y in
    stays-on (closed d s) y (taken_all ks a) (all-reclaimed-stays hs bs (closed d s)) (stays-on y a (taken_all ks a) (all-asked-stays hs bs y) (all-taken-stays ks a))

pub recovery-is : (x : LockName) (s t : State) → IsBeside s t → recovery x t ≡ recovery x s
recovery-is x s t e = ap (λ (k : ℕ). (home_at (home k x) t.homes).recovers) e.nodes ∙ ap (λ (hs : List Home). (home_at (home s.nodes x) hs).recovers) e.homes

-- a name that is still being recovered is none of the dead node
still-of : (d : ℕ) (x : LockName) (s : State) → is_some (recovery x (closed d s)) ≡ true → is_name_of d s x ≡ false
still-of d x s e =
    (elim (is_name_of d s x) as (λ b. is_name_of d s x ≡ b → b ≡ false) [
      | true ↦ λ f. absurd (let q : true ≡ false = sym e ∙ ap is_some (open-closed d x s f) in true-false q)
      | false ↦ λ f. refl
    ]) refl

left-closed : (r s : State) (d : ℕ) → IsLeft r s → IsLeft r (closed d s)
left-closed r s d l = record {
  nodes = l.nodes;
  recovers = λ x k e. l.recovers x k (sym (still-closed d x s (still-of d x s (ap is_some e))) ∙ e);
  awaited = l.awaited;
  claims = each-filter (Contains r.claims) (λ (h : Hold). is_with false d s h.name) s.claims l.claims;
  blocks = λ x e.
      let f : is_name_of d s x ≡ false = still-of d x s e in
      block-left s.rule (λ y. not (is_name_of d s y)) x s.claims s.claimed_blocks (ap not f) ∙ l.blocks x (sym (ap is_some (still-closed d x s f)) ∙ e);
  kept = each-filter (Contains r.kept) (λ (m : Message). is_with false d s m.name) s.kept l.kept;
}

block-on : (x : LockName) (s t : State) → IsBeside s t → claimed_block t x ≡ claimed_block s x
block-on x s t e =
    ap (λ (k : BlockRule). block_for k t.claims t.claimed_blocks x) e.rule ∙ ap (λ (hs : List Hold). block_for s.rule hs t.claimed_blocks x) e.claims ∙ ap (λ (bs : List Block). block_for s.rule s.claims bs x) e.blocks

left-on : (r s t : State) → IsBeside s t → IsLeft r s → IsLeft r t
left-on r s t e l = record {
  nodes = e.nodes ∙ l.nodes;
  recovers = λ x d q. l.recovers x d (sym (recovery-is x s t e) ∙ q);
  awaited = e.awaited ∙ l.awaited;
  claims = subst (λ (hs : List Hold). Each (Contains r.claims) hs) (sym e.claims) l.claims;
  blocks = λ x q. block-on x s t e ∙ l.blocks x (sym (ap is_some (recovery-is x s t e)) ∙ q);
  kept = subst (λ (ms : List Message). Each (Contains r.kept) ms) (sym e.kept) l.kept;
}

record EndsSo (n : ℕ) (r s y : State) : Type 0 where
  goes : Goes n r s y
  sound : IsSound y
  nodes : y.nodes ≡ n
  left : IsLeft r y

ends-if : (n : ℕ) (r : State) (d : ℕ) (s : State) → s.nodes ≡ n → IsSound s → IsLeft r s → EndsSo n r s (ended_if d s)
ends-if n r d s e i l =
    (elim (is_open d s.awaited) as (λ b. is_open d s.awaited ≡ b → EndsSo n r s (if b then s else ended d s)) [
      | true ↦ λ o. record { goes = goes-none n r s s refl refl; sound = i; nodes = e; left = l }
      | false ↦ λ o. record {
        goes = subst (λ (k : ℕ). Goes k r s (ended d s)) e (ended-goes r d s i l o);
        sound = ended-sound d s i;
        nodes = (ended-stays d s).nodes ∙ e;
        left = left-on r (closed d s) (ended d s) (ended-stays d s) (left-closed r s d l);
      }
    ]) refl

all-ended-goes : (n : ℕ) (r : State) (ds : List ℕ) (s : State) → s.nodes ≡ n → IsSound s → IsLeft r s → Goes n r s (all_ended ds s)
all-ended-goes n r [] s e i l = goes-none n r s s refl refl
all-ended-goes n r (d ∷ ds) s e i l =
    let f = ends-if n r d s e i l in
    goes-join n r s (ended_if d s) (all_ended ds (ended_if d s)) f.goes (all-ended-goes n r ds (ended_if d s) f.nodes f.sound f.left)

ended-living : (ds : List ℕ) (s : State) → (all_ended ds s).living ≡ s.living
ended-living [] s = refl
ended-living (d ∷ ds) s =
    ended-living ds (ended_if d s) ∙ (elim (is_open d s.awaited) as (λ b. (if b then s else ended d s).living ≡ s.living) [ true ↦ refl | false ↦ (ended-stays d s).living ])

-- Recoveries end in a state that has of them what another one has, to which the steps refer.
pub with-ended-goes : (r s : State) → IsSound s → IsBeside r s → Goes s.nodes r s (with_ended s)
with-ended-goes r s i e = all-ended-goes s.nodes r s.recoveries s refl i (left-on r r s e (left-all r))

-- ---- a death

-- the state in which the dead node's messages are gone, and nothing else
abbrev pub bereft_mail : ℕ → State → State
bereft_mail d s = record s { mail = filter (λ m. not (is_lost d m)) s.mail }

all-plain : (d n : ℕ) (ns : List ℕ) → Each (λ (m : Message). is_grant m.letter ≡ false) (map (claim_from d n) ns)
all-plain d n [] = tt
all-plain d n (k ∷ ns) = (refl, all-plain d n ns)

-- the mark of a name goes with a writer of the dead node
mark-dropped : (x : LockName) (d : ℕ) (o : Owner) (t : List Resource) (st : Standing) → IsTable t → standing_of o (resource_at x (dropped d t)).askers ≡ Some st
    → list_any (is_writer_of d) (resource_at x t).askers ≡ true → (resource_at x (dropped d t)).valid ≡ false
mark-dropped x d o t st i e w =
    let r : Resource = resource_at x t in
    let new : Resource = dropped_of d r in
    let at : resource_at x (dropped d t) ≡ vacated new = dropped-at x d t i.ordered in
    let off : new.valid ≡ false = ap (λ (c : Bool). r.valid && not c) w ∙ off-mark r.valid in
    ap (λ (z : Resource). z.valid) at
    ∙ (elim (is_used new) as (λ b. standing_of o (if b then new else fresh new.name).askers ≡ Some st → (if b then new else fresh new.name).valid ≡ false) [
      | true ↦ λ q. off
      | false ↦ λ q. cc
    ]) (ap (λ (z : Resource). standing_of o z.askers) (sym at) ∙ e)
  where
    off-mark : (b : Bool) → (b && false) ≡ false
    off-mark true = refl
    off-mark false = refl

-- who is granted by the death itself
abbrev ByDeath1 : ℕ → State → Waiter → Type 0
ByDeath1 d s w = WaitsIn s w × ((recovery w.name s ≡ None) × (was_master d s w.name ≡ false))

abbrev DeathGives : ℕ → State → Message → Type 0
DeathGives d s m = Says (λ w v. GivesByDeath s d m w v) m.letter

grants-by_death : (d : ℕ) (s : State) (ws : List Waiter) → IsSound s → Each (ByDeath1 d s) ws → Each (Stood (bereft d s)) (map (grant_of (bereft d s)) ws) → Each (DeathGives d s) (map (grant_of (bereft d s)) ws)
grants-by_death d s [] i a b = tt
grants-by_death d s (w ∷ ws) i a b =
    let z : State = bereft d s in
    let x : LockName = w.name in
    let t : List Resource = table_at (home s.nodes x) s.tables in
    let at : table_at (home s.nodes x) z.tables ≡ dropped d t = table-stays d s i x a.0.1.1 in
    let now : Gave s.nodes (bereft_tables d s.homes s.tables) w.owner x w.mode (told_at x z).value (told_at x z).valid = record { granted = b.0; block = refl; mark = refl } in
    let st : standing_of w.owner (resource_at x (dropped d t)).askers ≡ Some (Granted w.mode) = ap (λ (u : List Resource). standing_of w.owner (resource_at x u).askers) (sym at) ∙ b.0 in (
      record {
        open_name = a.0.1.0;
        stays = a.0.1.1;
        waited = a.0.0;
        gave = now;
        cleared = λ q. ap (λ (u : List Resource). (resource_at x u).valid) at ∙ mark-dropped x d w.owner t (Granted w.mode) (i.tables_are (home s.nodes x)) st q;
        version = refl;
      },
      grants-by_death d s ws i a.1 b.1,
    )

-- what is sent at a death: by the death, by recoveries that end with it, and the claims
pub record Killed (d : ℕ) (s : State) : Type 0 where
  pub chain : Leads s.nodes (bereft d s) (bereft_tables d s.homes s.tables) (killed d s).tables
  pub first : List Message
  pub later : List Message
  pub last : List Message
  pub sends : (killed d s).mail ≡ (bereft_mail d s).mail ++ (first ++ (later ++ last))
  pub by_death : Each (λ (m : Message). Says (λ w v. GivesByDeath s d m w v) m.letter) first
  pub in_recovery : Each (IsNew s.nodes (bereft d s) (bereft_tables d s.homes s.tables) (killed d s).tables) later
  pub claims : Each (λ (m : Message). is_grant m.letter ≡ false) last
  pub living : (killed d s).living ≡ (bereft d s).living

pub killed-goes : (d : ℕ) (s : State) → IsSound s → Killed d s
killed-goes d s i =
    let b : State = bereft d s in
    let so : IsSound (served b) = served-sound b (bereft-pre d s i) in
    let g : Goes s.nodes b (served b) (with_ended (served b)) = with-ended-goes b (served b) so (record { rule = refl; nodes = refl; living = refl; homes = refl; awaited = refl; claims = refl; blocks = refl; kept = refl }) in
    let left : Waiter → Bool = λ w. not (w.owner.node == d) && not (was_master d s w.name) in
    let all : Each (ByDeath1 d s) b.queue =
    each-both (λ (w : Waiter). WaitsIn s w × (recovery w.name s ≡ None)) (λ (w : Waiter). left w ≡ true) (ByDeath1 d s) b.queue
    (λ w p e. (p.0, (p.1, not-true (was_master d s w.name) (and-right (not (w.owner.node == d)) (not (was_master d s w.name)) e))))
    (each-filter (λ (w : Waiter). WaitsIn s w × (recovery w.name s ≡ None)) left s.queue (each-both (WaitsIn s) (λ (w : Waiter). recovery w.name s ≡ None) (λ (w : Waiter). WaitsIn s w × (recovery w.name s ≡ None)) s.queue (λ w p q. (p, q)) (queue-waits s i) (queue-open s i)))
    (each-passing left s.queue) in
    let stood = each-stood (served b) b.mail (grants_of b b.queue) so refl in
    let ends : State = with_ended (served b) in
    let cs : List Message = map (claim_from d (lowest ends.living)) ends.living in
    record {
      chain = g.chain;
      first = grants_of b b.queue;
      later = g.sent;
      last = cs;
      sends = ap (λ (ms : List Message). ms ++ cs) g.sends ∙ append_assoc (b.mail ++ grants_of b b.queue) g.sent cs ∙ append_assoc b.mail (grants_of b b.queue) (g.sent ++ cs);
      by_death = grants-by_death d s (filter (is_served b) b.queue) i (each-filter (ByDeath1 d s) (is_served b) b.queue all) stood;
      in_recovery = g.given;
      claims = all-plain d (lowest ends.living) ends.living;
      living = ended-living (served b).recoveries (served b);
    }
