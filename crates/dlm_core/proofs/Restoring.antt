-- The claimed locks are all granted.
use Rattle.std.proofs.Common.{◌≡◌, ◌≢◌, ◌==◌, ◌&&◌, ◌||◌, ◌++◌, ℕ, ◌-◌, ◌≤◌, Bool, true, false, not, List, [], ◌∷◌, Option, Some, None, is_some, find, length, set, get_or, append_assoc, refl, ap, sym, subst, ◌∙◌, unwrap_or, option_map}
use Rattle.std.specs.List.{list_all, list_any}
use Rattle.std.proofs.lemmas.List.{length-set}
use Rattle.plain_cat.specs.declared.mode.Mode.{Mode}
use Rattle.lock_db.specs.declared.name.LockName.{LockName}
use Rattle.lock_db.specs.declared.name.Owner.{Owner}
use Rattle.lock_db.specs.declared.askers.Standing.{Standing}
use Rattle.lock_db.specs.declared.askers.Standing.TheVariants.{Granted}
use Rattle.lock_db.specs.declared.askers.Asker.{Asker}
use Rattle.lock_db.specs.declared.resource.Resource.{Resource}
use Rattle.lock_db.specs.Names.{is_same, same_owner}
use Rattle.lock_db.specs.Queues.{held, converts, waits, is_converting, is_waiting, goes_beside, goes, standing_of, mode_of}
use Rattle.lock_db.specs.Resources.{goes_at_once, first_standing}
use Rattle.lock_db.specs.Tables.{resource_at, IsTable, asked, recovered, stand_together, all_together}
use Rattle.lock_db.specs.Laws.{LeavesOthers}
use Rattle.lock_db.proofs.Lists.{and-left, and-right, and-both, not-true, or-false_left, or-false_right, list_all-head, list_all-parts, list_any-none, find-none, find-absent, find-push_yes, find-push_no, find-append}
use Rattle.lock_db.proofs.Owners.{same_owner-same, same_owner-refl}
use Rattle.lock_db.proofs.Names.{is_same-same, is_same-refl}
use Rattle.lock_db.proofs.Together.{all_together-head, all_together-tail}
use Rattle.lock_db.proofs.Steps.{IsSettled-at, IsTable-asked, IsTable-recovered}
use Rattle.lock_db.proofs.Blocks.{asked-leaves, recovered-leaves, recovered-at}
use Rattle.lock_db.proofs.Standings.{requests-stand}
use Rattle.dlm_core.specs.declared.holds.Hold.{Hold}
use Rattle.dlm_core.specs.declared.blocks.Seen.{Seen}
use Rattle.dlm_core.specs.declared.homes.Home.{Home}
use Rattle.dlm_core.specs.declared.messages.Message.{Message}
use Rattle.dlm_core.specs.States.{home, home_at, table_at, is_at, unseen, hold_at}
use Rattle.dlm_core.specs.Steps.{stands_as}
use Rattle.dlm_core.specs.Recoveries.{made_again}
use Rattle.dlm_core.specs.Lanes.{each_once, GoTogether}
use Rattle.dlm_core.specs.Restored.{has_lock, IsRead}
use Rattle.dlm_core.proofs.Beliefs.{at-owner, at-name, at-itself, at-turned}
use Rattle.dlm_core.proofs.Others.{can-mode, fits-so, asked-other}
use Rattle.lock_db.proofs.Owners.{owned}
use Rattle.dlm_core.proofs.Takes.{home-low, home-high, tables-set, told-here, told-other, eq-of, ne-of, table-other}
use Rattle.dlm_core.proofs.Passing.{used-by, askers-recovered}

-- what holds of each by where it stands in the whole list
module _ {X : Type 0} where
  all-where : (p : X → Bool) (all before xs : List X) → all ≡ before ++ xs → ((as1 bs : List X) (x : X) → all ≡ as1 ++ (x ∷ bs) → p x ≡ true) → list_all p xs ≡ true
  all-where p all before [] e h = refl
  all-where p all before (x ∷ xs) e h = and-both (p x) (list_all p xs) (h before xs x e) (all-where p all (before ++ (x ∷ [])) xs (e ∙ sym (append_assoc before (x ∷ []) xs)) h)

-- each asker is found by its owner
find-own : (before rest : List Asker) (a : Asker) → all_together (before ++ (a ∷ rest)) ≡ true → find (owned a.owner) (before ++ (a ∷ rest)) ≡ Some a
find-own [] rest a t = rw (same_owner-refl a.owner) refl
find-own (b ∷ before) rest a t =
    let heads = all_together-head b (before ++ (a ∷ rest)) t in
    let one : stand_together b a ≡ true = list_all-head (stand_together b) a rest (list_all-parts (stand_together b) before (a ∷ rest) heads).1 in
    let apart : same_owner b.owner a.owner ≡ false = not-true (same_owner b.owner a.owner) (and-left (not (same_owner b.owner a.owner)) _ one) in
    rw apart (find-own before rest a (all_together-tail b (before ++ (a ∷ rest)) t))

pub standing-own : (xs before rest : List Asker) (a : Asker) → all_together xs ≡ true → xs ≡ before ++ (a ∷ rest) → standing_of a.owner xs ≡ Some a.standing
standing-own xs before rest a t e = ap (option_map (λ (z : Asker). z.standing)) (ap (find (owned a.owner)) e ∙ find-own before rest a (subst (λ (ys : List Asker). all_together ys ≡ true) e t))

-- none stands before
none-before : (done rest : List Hold) (h : Hold) → each_once (done ++ (h ∷ rest)) ≡ true → list_any (is_at h.owner h.name) done ≡ false
none-before [] rest h e = refl
none-before (k ∷ done) rest h e =
    let all : List Hold = done ++ (h ∷ rest) in
    let first : list_any (is_at k.owner k.name) all ≡ false = not-true (list_any (is_at k.owner k.name) all) (and-left (not (list_any (is_at k.owner k.name) all)) (each_once all) e) in
    let here : is_at k.owner k.name h ≡ false = any-part (is_at k.owner k.name) done rest h first in
    rw (at-turned k h here) (none-before done rest h (and-right (not (list_any (is_at k.owner k.name) all)) (each_once all) e))
  where
    any-part : (p : Hold → Bool) (done rest : List Hold) (h : Hold) → list_any p (done ++ (h ∷ rest)) ≡ false → p h ≡ false
    any-part p [] rest h e = or-false_left (p h) (list_any p rest) e
    any-part p (k ∷ done) rest h e = any-part p done rest h (or-false_right (p k) (list_any p (done ++ (h ∷ rest))) e)

-- what is believed by what stands in the list so far
abbrev pub nothing_of : Owner → LockName → Hold
nothing_of o x = record { owner = o; name = x; belief = None; wait = None; seen = unseen }

pub hold-none : (o : Owner) (x : LockName) (hs : List Hold) → list_any (is_at o x) hs ≡ false → hold_at o x hs ≡ nothing_of o x
hold-none o x hs e = ap (λ (f : Option Hold). unwrap_or f (nothing_of o x)) (find-none (is_at o x) hs e)

hold-here : (h : Hold) (done : List Hold) → list_any (is_at h.owner h.name) done ≡ false → hold_at h.owner h.name (done ++ (h ∷ [])) ≡ h
hold-here h done e = ap (λ (f : Option Hold). unwrap_or f (nothing_of h.owner h.name)) (find-push_yes (is_at h.owner h.name) done h (at-itself h) (find-none (is_at h.owner h.name) done e))

hold-other : (o : Owner) (x : LockName) (h : Hold) (done : List Hold) → is_at o x h ≡ false → hold_at o x (done ++ (h ∷ [])) ≡ hold_at o x done
hold-other o x h done e = ap (λ (f : Option Hold). unwrap_or f (nothing_of o x)) (find-push_no (is_at o x) done h e)

hold-longer : (o : Owner) (x : LockName) (done rest : List Hold) (m : Mode) → (hold_at o x done).belief ≡ Some m → (hold_at o x (done ++ rest)).belief ≡ Some m
hold-longer o x done rest m e =
    (elim (find (is_at o x) done) as (λ f. find (is_at o x) done ≡ f → (unwrap_or f (nothing_of o x)).belief ≡ Some m → (hold_at o x (done ++ rest)).belief ≡ Some m) [
      | None ↦ λ f g. cc
      | Some k ↦ λ f g. rw (find-append (is_at o x) done rest, f) g
    ]) refl e

hold-next : (h : Hold) (done rest : List Hold) → list_any (is_at h.owner h.name) done ≡ false → hold_at h.owner h.name (done ++ (h ∷ rest)) ≡ h
hold-next h done rest e = rw (find-append (is_at h.owner h.name) done (h ∷ rest), find-none (is_at h.owner h.name) done e, at-itself h) refl

-- a claimed lock is granted at once
granted-belief : (be : Option Mode) (s : Standing) → stands_as be ≡ Some s → (m : Mode) × (be ≡ Some m) × (s ≡ Granted m)
granted-belief None s e = cc
granted-belief (Some m) s e = (m, refl, cc)

not-converting : (a : Asker) (m : Mode) → a.standing ≡ Granted m → is_converting a ≡ false
not-converting a m e = ap converts e

not-waiting : (a : Asker) (m : Mode) → a.standing ≡ Granted m → is_waiting a ≡ false
not-waiting a m e = ap waits e

module _ (x : LockName) (done rest : List Hold) (h : Hold) (b : Mode) (xs : List Asker) (together : all_together xs ≡ true) (named : h.name ≡ x) (bel : h.belief ≡ Some b)
    (once : each_once (done ++ (h ∷ rest)) ≡ true) (go : GoTogether (done ++ (h ∷ rest))) (stand : (o : Owner) → standing_of o xs ≡ stands_as (hold_at o x done).belief) where
  each-granted : (as1 bs : List Asker) (a : Asker) → xs ≡ as1 ++ (a ∷ bs) → (m : Mode) × ((hold_at a.owner x done).belief ≡ Some m) × (a.standing ≡ Granted m)
  each-granted as1 bs a e = granted-belief (hold_at a.owner x done).belief a.standing (sym (stand a.owner) ∙ standing-own xs as1 bs a together e)

  none-converts : list_any is_converting xs ≡ false
  none-converts = list_any-none is_converting xs (find-absent is_converting xs (all-where (λ a. not (is_converting a)) xs [] xs refl (λ as1 bs a e. let g = each-granted as1 bs a e in ap not (not-converting a g.0 g.2))))

  none-waits : list_any is_waiting xs ≡ false
  none-waits = list_any-none is_waiting xs (find-absent is_waiting xs (all-where (λ a. not (is_waiting a)) xs [] xs refl (λ as1 bs a e. let g = each-granted as1 bs a e in ap not (not-waiting a g.0 g.2))))

  own-belief : (hold_at h.owner x (done ++ (h ∷ rest))).belief ≡ Some b
  own-belief = subst (λ (y : LockName). (hold_at h.owner y (done ++ (h ∷ rest))).belief ≡ Some b) named (ap (λ (k : Hold). k.belief) (hold-next h done rest (none-before done rest h once)) ∙ bel)

  goes-with : (as1 bs : List Asker) (a : Asker) → xs ≡ as1 ++ (a ∷ bs) → (same_owner a.owner h.owner || goes_beside b (held a.standing)) ≡ true
  goes-with as1 bs a e =
      let g = each-granted as1 bs a e in
      (elim (same_owner a.owner h.owner) as (λ c. same_owner a.owner h.owner ≡ c → (c || goes_beside b (held a.standing)) ≡ true) [
        | true ↦ λ f. refl
        | false ↦ λ f.
            let d : h.owner ≢ a.owner = λ k. absurd (let t : true ≡ false = sym (same_owner-refl a.owner) ∙ ap (same_owner a.owner) (sym k) ∙ f in cc) in
            rw g.2 (go h.owner a.owner x b g.0 d own-belief (hold-longer a.owner x done (h ∷ rest) g.0 g.1))
      ]) refl

  all-go : goes h.owner b xs ≡ true
  all-go = all-where (λ (a : Asker). same_owner a.owner h.owner || goes_beside b (held a.standing)) xs [] xs refl goes-with

  at-once : goes_at_once h.owner b xs ≡ true
  at-once = rw (none-converts, none-waits, all-go) refl

-- a claimed lock of one more owner
has-push : (p : Hold → Bool) (h : Hold) (done : List Hold) → p h ≡ false → list_any p (done ++ (h ∷ [])) ≡ true → list_any p done ≡ true
has-push p h [] n e = let k : (p h || false) ≡ false = rw n refl in absurd (let q : true ≡ false = sym e ∙ k in cc)
has-push p h (k ∷ done) n e =
    (elim (p k) as (λ b. (b || list_any p (done ++ (h ∷ []))) ≡ true → (b || list_any p done) ≡ true) [ true ↦ λ f. refl | false ↦ λ f. has-push p h done n f ]) e

pub not-lock : (x : LockName) (h : Hold) → h.belief ≡ None → (is_same h.name x && is_some h.belief) ≡ false
not-lock x h e = rw e (elim (is_same h.name x) as (λ b. (b && false) ≡ false) [ true ↦ refl | false ↦ refl ])

pub other-lock : (x : LockName) (h : Hold) → is_same h.name x ≡ false → (is_same h.name x && is_some h.belief) ≡ false
other-lock x h e = rw e refl

-- What the tables have while the claimed locks are granted: of the names that are recovered, the locks so far; of all others what
-- they had.
pub record Restored (mine : LockName → Bool) (vals : LockName → Seen) (n : ℕ) (homes : List Home) (old : List (List Resource)) (done : List Hold) (ts : List (List Resource)) : Type 0 where
  pub length_is : length ts ≡ n
  pub tables_are : (k : ℕ) → IsTable (table_at k ts)
  pub ours : (o : Owner) (x : LockName) → mine x ≡ true → standing_of o (resource_at x (table_at (home n x) ts)).askers ≡ stands_as (hold_at o x done).belief
  pub blocks : (x : LockName) → mine x ≡ true → has_lock x done ≡ true → IsRead (vals x) (resource_at x (table_at (home n x) ts))
  pub others : (x : LockName) → mine x ≡ false → resource_at x (table_at (home n x) ts) ≡ resource_at x (table_at (home n x) old)
  pub lost : (k : ℕ) → is_some (home_at k homes).recovers ≡ true → table_at k ts ≡ []

-- a claim without a lock
belief-none : (o : Owner) (x : LockName) (h : Hold) (done : List Hold) → h.belief ≡ None → list_any (is_at h.owner h.name) done ≡ false → (hold_at o x (done ++ (h ∷ []))).belief ≡ (hold_at o x done).belief
belief-none o x h done e n =
    (elim (is_at o x h) as (λ b. is_at o x h ≡ b → (hold_at o x (done ++ (h ∷ []))).belief ≡ (hold_at o x done).belief) [
      | true ↦ λ a. rw (← at-owner o x h a, ← at-name o x h a) (ap (λ (k : Hold). k.belief) (hold-here h done n) ∙ e ∙ sym (ap (λ (k : Hold). k.belief) (hold-none h.owner h.name done n)))
      | false ↦ λ a. ap (λ (k : Hold). k.belief) (hold-other o x h done a)
    ]) refl

pub restore-none : (mine : LockName → Bool) (vals : LockName → Seen) (n : ℕ) (homes : List Home) (old : List (List Resource)) (done rest : List Hold) (h : Hold) (ts : List (List Resource)) → each_once (done ++ (h ∷ rest)) ≡ true → h.belief ≡ None
    → Restored mine vals n homes old done ts → Restored mine vals n homes old (done ++ (h ∷ [])) ts
restore-none mine vals n homes old done rest h ts once e r = record {
  length_is = r.length_is;
  tables_are = r.tables_are;
  ours = λ o x m. r.ours o x m ∙ ap stands_as (sym (belief-none o x h done e (none-before done rest h once)));
  blocks = λ x m f. r.blocks x m (has-push (λ (k : Hold). is_same k.name x && is_some k.belief) h done (not-lock x h e) f);
  others = r.others;
  lost = r.lost;
}

-- a claimed lock
pub record Grant1 (h : Hold) (b : Mode) (v : Seen) (t t2 : List Resource) : Type 0 where
  pub table : IsTable t2
  pub leaves : LeavesOthers h.name t t2
  pub own : standing_of h.owner (resource_at h.name t2).askers ≡ Some (Granted b)
  pub block : IsRead v (resource_at h.name t2)
  pub beside : (p : Owner) → same_owner h.owner p ≡ false → standing_of p (resource_at h.name t2).askers ≡ standing_of p (resource_at h.name t).askers

grant-one : (h : Hold) (b : Mode) (v : Seen) (m : Message) (t : List Resource) → m.value ≡ v.value → m.owner ≡ h.owner → m.name ≡ h.name → IsTable t → standing_of h.owner (resource_at h.name t).askers ≡ None → goes_at_once h.owner b (resource_at h.name t).askers ≡ true
    → Grant1 h b v t (made_again v.valid m (mode_of m.owner (resource_at m.name t).askers) b t)
grant-one h b v m t mv mo mn tab none go =
    let o : Owner = h.owner in
    let x : LockName = h.name in
    let t1 : List Resource = asked x o b t in
    let stand : standing_of o (resource_at x t1).askers ≡ Some (Granted b) = requests-stand x o b t none ∙ ap (λ (c : Bool). Some (first_standing c b)) go in
    let same : (resource_at x (recovered x m.value v.valid t1)).askers ≡ (resource_at x t1).askers = askers-recovered x m.value v.valid t1 (used-by x o t1 (Granted b) stand) in
    let fits = fits-so (record m { owner = o; name = x }) b None t none refl in
    let g : Grant1 h b v t (recovered x m.value v.valid t1) = record {
      table = IsTable-recovered x m.value v.valid t1 (IsTable-asked x o b t tab none);
      leaves = λ y d. recovered-leaves x m.value v.valid t1 y d ∙ asked-leaves x o b t y d;
      own = rw same stand;
      block = rw (recovered-at x m.value v.valid t1 (used-by x o t1 (Granted b) stand)) (record { bytes_are = mv; mark_is = refl });
      beside = λ p d. rw same (asked-other x p o b t d);
    } in
    let old : mode_of o (resource_at x t).askers ≡ None = can-mode None (standing_of o (resource_at x t).askers) none in
    rw (mo, mn, old, fits) g

pub claim-none : (mine : LockName → Bool) (vals : LockName → Seen) (n : ℕ) (homes : List Home) (old : List (List Resource)) (done rest : List Hold) (h : Hold) (ts : List (List Resource)) → each_once (done ++ (h ∷ rest)) ≡ true → mine h.name ≡ true
    → Restored mine vals n homes old done ts → standing_of h.owner (resource_at h.name (table_at (home n h.name) ts)).askers ≡ None
claim-none mine vals n homes old done rest h ts once mi r = r.ours h.owner h.name mi ∙ ap (λ (k : Hold). stands_as k.belief) (hold-none h.owner h.name done (none-before done rest h once))

pub restore-one : (mine : LockName → Bool) (vals : LockName → Seen) (n : ℕ) (homes : List Home) (old : List (List Resource)) (done rest : List Hold) (h : Hold) (b : Mode) (m : Message) (ts : List (List Resource))
    → 1 ≤ n → each_once (done ++ (h ∷ rest)) ≡ true → GoTogether (done ++ (h ∷ rest)) → mine h.name ≡ true → h.belief ≡ Some b → m.owner ≡ h.owner → m.name ≡ h.name → m.value ≡ (vals h.name).value
    → (home_at (home n h.name) homes).recovers ≡ None
    → Restored mine vals n homes old done ts
    → Restored mine vals n homes old (done ++ (h ∷ [])) (set ts (home n h.name - 1) (made_again (vals h.name).valid m (mode_of m.owner (resource_at m.name (table_at (home n h.name) ts)).askers) b (table_at (home n h.name) ts)))
restore-one mine vals n homes old done rest h b m ts l once go mi be mo mn mv op r =
    let x : LockName = h.name in
    let t : List Resource = table_at (home n x) ts in
    let tab = r.tables_are (home n x) in
    let gone = none-before done rest h once in
    let none : standing_of h.owner (resource_at x t).askers ≡ None = r.ours h.owner x mi ∙ ap (λ (k : Hold). stands_as k.belief) (hold-none h.owner x done gone) in
    let goes_on = at-once x done rest h b (resource_at x t).askers (IsSettled-at x t tab).together refl be once go (λ o. r.ours o x mi) in
    let g = grant-one h b (vals x) m t mv mo mn tab none goes_on in
    let t2 : List Resource = made_again (vals x).valid m (mode_of m.owner (resource_at m.name t).askers) b t in
    let now : List (List Resource) = set ts (home n x - 1) t2 in
    let here : (o : Owner) → standing_of o (resource_at x (table_at (home n x) now)).askers ≡ stands_as (hold_at o x (done ++ (h ∷ []))).belief =
    λ o. ap (λ (z : Resource). standing_of o z.askers) (told-here n x ts t2 l r.length_is) ∙ own-or-other h b done o (vals x) t t2 g gone be (r.ours o x mi) in
    record {
      length_is = length-set ts (home n x - 1) t2 ∙ r.length_is;
      tables_are = tables-set ts (home n x) t2 (home-low n x) (rw r.length_is (home-high n x l)) g.table r.tables_are;
      ours = λ o y my. (elim (is_same x y) as (λ c. is_same x y ≡ c → standing_of o (resource_at y (table_at (home n y) now)).askers ≡ stands_as (hold_at o y (done ++ (h ∷ []))).belief) [
        | true ↦ λ e. subst (λ (z : LockName). standing_of o (resource_at z (table_at (home n z) now)).askers ≡ stands_as (hold_at o z (done ++ (h ∷ []))).belief) (is_same-same x y e) (here o)
        | false ↦ λ e.
            let d : y ≢ x = λ k. absurd (let f : true ≡ false = sym (is_same-refl x) ∙ ap (is_same x) (sym k) ∙ e in cc) in
            let out : is_at o y h ≡ false = (elim (same_owner h.owner o) as (λ c. (c && is_same x y) ≡ false) [ true ↦ e | false ↦ refl ]) in
            ap (λ (z : Resource). standing_of o z.askers) (told-other n x y ts t2 l r.length_is d g.leaves) ∙ r.ours o y my ∙ ap (λ (k : Hold). stands_as k.belief) (sym (hold-other o y h done out))
      ]) refl;
      blocks = λ y my f. (elim (is_same x y) as (λ c. is_same x y ≡ c → IsRead (vals y) (resource_at y (table_at (home n y) now))) [
        | true ↦ λ e. subst (λ (z : LockName). IsRead (vals z) (resource_at z (table_at (home n z) now))) (is_same-same x y e) (rw (told-here n x ts t2 l r.length_is) g.block)
        | false ↦ λ e.
            let d : y ≢ x = λ k. absurd (let q : true ≡ false = sym (is_same-refl x) ∙ ap (is_same x) (sym k) ∙ e in cc) in
            rw (told-other n x y ts t2 l r.length_is d g.leaves) (r.blocks y my (has-push (λ (k : Hold). is_same k.name y && is_some k.belief) h done (other-lock y h e) f))
      ]) refl;
      others = λ y my.
          let d : y ≢ x = λ k. absurd (let f : true ≡ false = sym mi ∙ ap mine (sym k) ∙ my in cc) in
          told-other n x y ts t2 l r.length_is d g.leaves ∙ r.others y my;
      lost = λ k e. lost-still homes n x ts t2 op k e (r.lost k e);
    }
  where
    own-or-other : (h : Hold) (b : Mode) (done : List Hold) (o : Owner) (v : Seen) (t t2 : List Resource) → Grant1 h b v t t2 → list_any (is_at h.owner h.name) done ≡ false → h.belief ≡ Some b
        → standing_of o (resource_at h.name t).askers ≡ stands_as (hold_at o h.name done).belief → standing_of o (resource_at h.name t2).askers ≡ stands_as (hold_at o h.name (done ++ (h ∷ []))).belief
    own-or-other h b done o v t t2 g gone be before =
        (elim (same_owner h.owner o) as (λ c. same_owner h.owner o ≡ c → standing_of o (resource_at h.name t2).askers ≡ stands_as (hold_at o h.name (done ++ (h ∷ []))).belief) [
          | true ↦ λ e. subst (λ (z : Owner). standing_of z (resource_at h.name t2).askers ≡ stands_as (hold_at z h.name (done ++ (h ∷ []))).belief) (same_owner-same h.owner o e)
              (g.own ∙ sym (ap (λ (k : Hold). stands_as k.belief) (hold-here h done gone) ∙ ap stands_as be))
          | false ↦ λ e.
              let out : is_at o h.name h ≡ false = rw e refl in
              g.beside o e ∙ before ∙ ap (λ (k : Hold). stands_as k.belief) (sym (hold-other o h.name h done out))
        ]) refl

    lost-still : (homes : List Home) (n : ℕ) (x : LockName) (ts : List (List Resource)) (t2 : List Resource) → (home_at (home n x) homes).recovers ≡ None → (k : ℕ) → is_some (home_at k homes).recovers ≡ true → table_at k ts ≡ [] → table_at k (set ts (home n x - 1) t2) ≡ []
    lost-still homes n x ts t2 op k e was =
        (elim (k - 1 == home n x - 1) as (λ b. (k - 1 == home n x - 1) ≡ b → table_at k (set ts (home n x - 1) t2) ≡ []) [
          | true ↦ λ q.
              let is : k - 1 ≡ home n x - 1 = eq-of (k - 1) (home n x - 1) q in
              let same : (home_at k homes).recovers ≡ None = ap (λ (i : ℕ). (get_or homes i (record { master = 0; recovers = None })).recovers) is ∙ op in
              absurd (let f : true ≡ false = sym e ∙ ap is_some same in cc)
          | false ↦ λ q. table-other ts (home n x) k t2 (ne-of (k - 1) (home n x - 1) q) ∙ was
        ]) refl
