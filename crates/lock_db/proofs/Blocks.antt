-- What a call leaves of the resource of its name, and of all others.
use Rattle.std.proofs.Common.{◌≡◌, ◌≢◌, ◌==◌, ◌&&◌, ℕ, Bool, true, false, not, List, [], ◌∷◌, Option, Some, None, IsSome, MatchBool, find, if◌then◌else◌, refl, cond, ap, sym, ◌∙◌, unwrap_or, option_and_then, replicate}
use Rattle.std.specs.List.{list_all, list_any}
use Rattle.plain_cat.specs.declared.mode.Mode.{Mode}
use Rattle.lock_db.specs.declared.name.LockName.{LockName}
use Rattle.lock_db.specs.declared.name.Owner.{Owner}
use Rattle.lock_db.specs.declared.askers.Asker.{Asker}
use Rattle.lock_db.specs.declared.resource.Resource.{Resource}
use Rattle.lock_db.specs.Names.{is_same}
use Rattle.lock_db.specs.Queues.{is_upward, is_writing, granted_upto, settled, without, without_node, lock_of}
use Rattle.lock_db.specs.Resources.{fresh, is_used, goes_at_once, asked_of, converts_at_once, written, conversion_writes, regranted, queued_up, mode_held, converted_of, released_of, is_writer_of, dropped_of, recovered_of}
use Rattle.lock_db.specs.Tables.{resource_at, placed, asked, tried, converted, converts_now, try_converted, released, dropped, recovered, is_ordered, IsTable, IsSettled}
use Rattle.lock_db.specs.Laws.{BlockStays, BlockIs, somebody, RequestsKeepTheBlock, TriesKeepTheBlock, ConversionsWriteTheBlock, ReleasesWriteTheBlock, DeathsClearTheMark, RecoveriesWriteTheBlock, LeavesOthers, DeathLeavesOthers}
use Rattle.lock_db.proofs.Lists.{and-left, and-right, or-false_left, or-false_right, list_all-weaker, find-absent, find-passes, list_all-find}
use Rattle.lock_db.proofs.Names.{is_same-same, is_after-not_same}
use Rattle.lock_db.proofs.Heads.{settled-same}
use Rattle.lock_db.proofs.Places.{used-asked, used-regranted, used-converted, converted_of-name, written-name, written-askers, length-settled}
use Rattle.lock_db.proofs.Order.{same, after, vacated, placed-here, placed-other}
use Rattle.lock_db.proofs.Steps.{IsSettled-at}

pub resource_at-named : (name : LockName) (t : List Resource) → (resource_at name t).name ≡ name
resource_at-named name t =
    (elim (find (same name) t) as (λ o. find (same name) t ≡ o → (unwrap_or o (fresh name)).name ≡ name)
    [ None ↦ λ e. refl | Some r ↦ λ e. is_same-same r.name name (find-passes (same name) t r e) ]) refl

placed-at : (name : LockName) (r : Resource) (t : List Resource) → r.name ≡ name → resource_at name (placed r t) ≡ vacated r
placed-at name r t n = rw (← n) (placed-here r t)

vacated-used : (r : Resource) → is_used r ≡ true → vacated r ≡ r
vacated-used r u = rw u refl

pub asked-at : (name : LockName) (owner : Owner) (mode : Mode) (t : List Resource) → resource_at name (asked name owner mode t) ≡ asked_of owner mode (resource_at name t)
unfolding asked
asked-at name owner mode t =
    let r : Resource = resource_at name t in
    placed-at name (asked_of owner mode r) t (resource_at-named name t) ∙ vacated-used (asked_of owner mode r) (used-asked owner mode r)

pub converted-at : (name : LockName) (owner : Owner) (mode : Mode) (value : List ℕ) (t : List Resource) → IsSome (lock_of owner (resource_at name t).askers) → resource_at name (converted name owner mode value t) ≡ converted_of owner mode value (resource_at name t)
unfolding converted
converted-at name owner mode value t l =
    let r : Resource = resource_at name t in
    placed-at name (converted_of owner mode value r) t (converted_of-name owner mode value r ∙ resource_at-named name t) ∙ vacated-used (converted_of owner mode value r) (used-converted owner mode value r l)

pub released-at : (name : LockName) (owner : Owner) (value : List ℕ) (t : List Resource) → resource_at name (released name owner value t) ≡ vacated (released_of owner value (resource_at name t))
unfolding released
released-at name owner value t =
    placed-at name (released_of owner value (resource_at name t)) t (written-name _ value _ ∙ resource_at-named name t)

pub recovered-at : (name : LockName) (value : List ℕ) (valid : Bool) (t : List Resource) → is_used (resource_at name t) ≡ true → resource_at name (recovered name value valid t) ≡ recovered_of value valid (resource_at name t)
unfolding recovered
recovered-at name value valid t u =
    let r : Resource = resource_at name t in
    placed-at name (recovered_of value valid r) t (resource_at-named name t) ∙ vacated-used (recovered_of value valid r) u

pub recoveries-write : RecoveriesWriteTheBlock
recoveries-write name value valid t u = rw (recovered-at name value valid t u) (record { bytes_are = refl; mark_is = refl }, refl)

pub requests-keep : RequestsKeepTheBlock
unfolding tried
requests-keep name owner mode t =
    let stays : BlockStays (resource_at name t) (resource_at name (asked name owner mode t)) = rw (asked-at name owner mode t) (record { bytes = refl; mark = refl }) in (
      stays,
      (elim (goes_at_once owner mode (resource_at name t).askers) as (λ b. BlockStays (resource_at name t) (resource_at name (if b then asked name owner mode t else t)))
          [ true ↦ stays | false ↦ record { bytes = refl; mark = refl } ]),
    )

pub tries-keep : TriesKeepTheBlock
unfolding try_converted
tries-keep name owner mode t l =
    let r : Resource = resource_at name t in
    let at : resource_at name (placed (regranted owner mode r) t) ≡ regranted owner mode r =
    placed-at name (regranted owner mode r) t (resource_at-named name t) ∙ vacated-used (regranted owner mode r) (used-regranted owner mode r l) in
    (elim (converts_now name owner mode t) as (λ b. BlockStays r (resource_at name (if b then placed (regranted owner mode r) t else t)))
    [ true ↦ rw at (record { bytes = refl; mark = refl }) | false ↦ record { bytes = refl; mark = refl } ])

written-yes : (b : Bool) (value : List ℕ) (r : Resource) → b ≡ true → BlockIs value true (written b value r)
written-yes true value r e = record { bytes_are = refl; mark_is = refl }
written-yes false value r e = cc

written-no : (b : Bool) (value : List ℕ) (r : Resource) → b ≡ false → BlockStays r (written b value r)
written-no true value r e = cc
written-no false value r e = record { bytes = refl; mark = refl }

converted-block : (owner : Owner) (mode : Mode) (value : List ℕ) (r : Resource) → MatchBool (conversion_writes (mode_held owner r) mode) (BlockIs value true (converted_of owner mode value r)) (BlockStays r (converted_of owner mode value r))
converted-block owner mode value r =
    let old : Mode = mode_held owner r in
    let new : Resource = converted_of owner mode value r in
    (elim (conversion_writes old mode) as (λ w. conversion_writes old mode ≡ w → MatchBool w (BlockIs value true new) (BlockStays r new)) [
      | true ↦ λ e.
          let level : not (is_upward old mode) ≡ true = and-right (is_writing old) (not (is_upward old mode)) e in
          let now : converts_at_once owner old mode r.askers ≡ true = rw level refl in
          let done : new ≡ written (conversion_writes old mode) value (regranted owner mode r) = rw now refl in
          rw done (written-yes (conversion_writes old mode) value (regranted owner mode r) e)
      | false ↦ λ e.
          (elim (converts_at_once owner old mode r.askers) as (λ b. BlockStays r (if b then written (conversion_writes old mode) value (regranted owner mode r) else queued_up owner old mode r)) [
            | true ↦ let s = written-no (conversion_writes old mode) value (regranted owner mode r) e in record { bytes = s.bytes; mark = s.mark }
            | false ↦ record { bytes = refl; mark = refl }
          ])
    ]) refl

pub conversions-write : ConversionsWriteTheBlock
conversions-write name owner mode value t l = rw (converted-at name owner mode value t l) (converted-block owner mode value (resource_at name t))

released-used : (owner : Owner) (value : List ℕ) (r : Resource) → is_used (released_of owner value r) ≡ somebody (without owner r.askers)
released-used owner value r = rw (written-askers (is_writing (mode_held owner r)) value (record r { askers = settled (without owner r.askers) }), length-settled (without owner r.askers)) refl

released-block : (w : Bool) (value : List ℕ) (s r : Resource) → s.value ≡ r.value → s.valid ≡ r.valid → MatchBool w (BlockIs value true (written w value s)) (BlockStays r (written w value s))
released-block true value s r e f = record { bytes_are = refl; mark_is = refl }
released-block false value s r e f = record { bytes = e; mark = f }

pub releases-write : ReleasesWriteTheBlock
releases-write name owner value t =
    let r : Resource = resource_at name t in
    let new : Resource = released_of owner value r in
    let at = released-at name owner value t in
    let writes : Bool = is_writing (mode_held owner r) in
    rw at (
    (elim (somebody (without owner r.askers)) as (λ b. is_used new ≡ b → MatchBool b (MatchBool writes (BlockIs value true (vacated new)) (BlockStays r (vacated new))) (BlockIs (replicate 16 0) true (vacated new))) [
      | true ↦ λ u. rw (vacated-used new u) (released-block writes value (record r { askers = settled (without owner r.askers) }) r refl refl)
      | false ↦ λ u. rw u (record { bytes_are = refl; mark_is = refl })
    ]) (released-used owner value r))

-- what a death leaves of a name
dropped-found : (name : LockName) (node : ℕ) (t : List Resource) → is_ordered t ≡ true → find (same name) (dropped node t) ≡ option_and_then (λ r. if is_used (dropped_of node r) then Some (dropped_of node r) else None) (find (same name) t)
unfolding dropped
dropped-found name node [] o = refl
dropped-found name node (r ∷ t) o =
    let rest = dropped-found name node t (and-right (list_all (after r.name) t) (is_ordered t) o) in
    let later = and-left (list_all (after r.name) t) (is_ordered t) o in
    let new : Resource = dropped_of node r in
    let keep : Option Resource → Option Resource = option_and_then (λ (s : Resource). if is_used (dropped_of node s) then Some (dropped_of node s) else None) in
    (elim (is_used new) as (λ b. is_used new ≡ b → find (same name) (cond b (new ∷ dropped node t) (dropped node t)) ≡ keep (cond (same name r) (Some r) (find (same name) t))) [
      | true ↦ λ u.
          (elim (same name r) as (λ b. cond b (Some new) (find (same name) (dropped node t)) ≡ keep (cond b (Some r) (find (same name) t)))
          [ true ↦ rw u refl | false ↦ rest ])
      | false ↦ λ u.
          (elim (same name r) as (λ b. same name r ≡ b → find (same name) (dropped node t) ≡ keep (cond b (Some r) (find (same name) t))) [
            | true ↦ λ h.
                let here : r.name ≡ name = is_same-same r.name name h in
                let past : list_all (after name) t ≡ true = rw here at later in
                let none : find (same name) t ≡ None = find-absent (same name) t (list_all-weaker (after name) (λ s. not (same name s)) t (λ s k. rw (is_after-not_same name s.name k) refl) past) in
                rest ∙ rw (none, u) refl
            | false ↦ λ h. rest
          ]) refl
    ]) refl

pub dropped-at : (name : LockName) (node : ℕ) (t : List Resource) → is_ordered t ≡ true → resource_at name (dropped node t) ≡ vacated (dropped_of node (resource_at name t))
unfolding granted_upto
dropped-at name node t o =
    ap (λ f. unwrap_or f (fresh name)) (dropped-found name node t o)
    ∙ (elim (find (same name) t) as (λ f. find (same name) t ≡ f → unwrap_or (option_and_then (λ (r : Resource). if is_used (dropped_of node r) then Some (dropped_of node r) else None) f) (fresh name) ≡ vacated (dropped_of node (unwrap_or f (fresh name)))) [
      | None ↦ λ e. refl
      | Some r ↦ λ e.
          let n : r.name ≡ name = is_same-same r.name name (find-passes (same name) t r e) in
          (elim (is_used (dropped_of node r)) as (λ b. unwrap_or (if b then Some (dropped_of node r) else None) (fresh name) ≡ (if b then dropped_of node r else fresh r.name))
          [ true ↦ refl | false ↦ ap fresh (sym n) ])
    ]) refl

pub deaths-clear : DeathsClearTheMark
deaths-clear name node t s =
    let r : Resource = resource_at name t in
    let new : Resource = dropped_of node r in
    let used : is_used new ≡ somebody (without_node node r.askers) = rw (length-settled (without_node node r.askers)) refl in
    rw (dropped-at name node t s.ordered) (
    (elim (somebody (without_node node r.askers)) as (λ b. is_used new ≡ b → MatchBool b (BlockIs r.value (r.valid && not (list_any (is_writer_of node) r.askers)) (vacated new)) (BlockIs (replicate 16 0) true (vacated new))) [
      | true ↦ λ u. rw (vacated-used new u) (record { bytes_are = refl; mark_is = refl })
      | false ↦ λ u. rw u (record { bytes_are = refl; mark_is = refl })
    ]) used)

-- no asker of a node is there, so none is its writer, and none is taken out
nobody-writes : (node : ℕ) (xs : List Asker) → list_any (λ (a : Asker). a.owner.node == node) xs ≡ false → list_any (is_writer_of node) xs ≡ false
nobody-writes node [] e = refl
nobody-writes node (a ∷ xs) e =
    let first = or-false_left (a.owner.node == node) (list_any (λ (x : Asker). x.owner.node == node) xs) e in
    rw (first, nobody-writes node xs (or-false_right (a.owner.node == node) (list_any (λ (x : Asker). x.owner.node == node) xs) e)) refl

nobody-goes : (node : ℕ) (xs : List Asker) → list_any (λ (a : Asker). a.owner.node == node) xs ≡ false → without_node node xs ≡ xs
nobody-goes node [] e = refl
nobody-goes node (a ∷ xs) e =
    let first = or-false_left (a.owner.node == node) (list_any (λ (x : Asker). x.owner.node == node) xs) e in
    rw first (ap (λ ys. a ∷ ys) (nobody-goes node xs (or-false_right (a.owner.node == node) (list_any (λ (x : Asker). x.owner.node == node) xs) e)))

and-true : (b : Bool) → (b && true) ≡ b
and-true true = refl
and-true false = refl

dropped-same : (node : ℕ) (r : Resource) → IsSettled r.askers → list_any (λ (a : Asker). a.owner.node == node) r.askers ≡ false → dropped_of node r ≡ r
dropped-same node r s e =
    ap (λ xs. record r { askers = settled xs; valid = r.valid && not (list_any (is_writer_of node) r.askers) }) (nobody-goes node r.askers e)
    ∙ ap (λ xs. record r { askers = xs; valid = r.valid && not (list_any (is_writer_of node) r.askers) }) (settled-same r.askers s.idle)
    ∙ ap (λ b. record r { valid = r.valid && not b }) (nobody-writes node r.askers e)
    ∙ ap (λ b. record r { valid = b }) (and-true r.valid)

at-vacated : (name : LockName) (t : List Resource) → IsTable t → vacated (resource_at name t) ≡ resource_at name t
at-vacated name t s =
    (elim (find (same name) t) as (λ o. find (same name) t ≡ o → vacated (unwrap_or o (fresh name)) ≡ unwrap_or o (fresh name))
    [ None ↦ λ e. refl | Some r ↦ λ e. vacated-used r (list_all-find is_used (same name) t r s.used e) ]) refl

pub death-leaves : DeathLeavesOthers
death-leaves name node t s e =
    dropped-at name node t s.ordered ∙ ap vacated (dropped-same node (resource_at name t) (IsSettled-at name t s) e) ∙ at-vacated name t s

not-same : (name other : LockName) → other ≢ name → is_same name other ≡ false
not-same name other n = (elim (is_same name other) as (λ b. is_same name other ≡ b → b ≡ false) [ true ↦ λ e. absurd (n (sym (is_same-same name other e))) | false ↦ λ e. refl ]) refl

pub placed-leaves : (name : LockName) (r : Resource) (t : List Resource) → r.name ≡ name → LeavesOthers name t (placed r t)
placed-leaves name r t e other n = placed-other other r t (rw e (not-same name other n))

pub asked-leaves : (name : LockName) (owner : Owner) (mode : Mode) (t : List Resource) → LeavesOthers name t (asked name owner mode t)
unfolding asked
asked-leaves name owner mode t = placed-leaves name (asked_of owner mode (resource_at name t)) t (resource_at-named name t)

pub tried-leaves : (name : LockName) (owner : Owner) (mode : Mode) (t : List Resource) → LeavesOthers name t (tried name owner mode t)
unfolding tried
tried-leaves name owner mode t =
    (elim (goes_at_once owner mode (resource_at name t).askers) as (λ b. LeavesOthers name t (if b then asked name owner mode t else t))
    [ true ↦ asked-leaves name owner mode t | false ↦ λ other n. refl ])

pub converted-leaves : (name : LockName) (owner : Owner) (mode : Mode) (value : List ℕ) (t : List Resource) → LeavesOthers name t (converted name owner mode value t)
unfolding converted
converted-leaves name owner mode value t = placed-leaves name (converted_of owner mode value (resource_at name t)) t (converted_of-name owner mode value (resource_at name t) ∙ resource_at-named name t)

pub try_converted-leaves : (name : LockName) (owner : Owner) (mode : Mode) (t : List Resource) → LeavesOthers name t (try_converted name owner mode t)
unfolding try_converted
try_converted-leaves name owner mode t =
    (elim (converts_now name owner mode t) as (λ b. LeavesOthers name t (if b then placed (regranted owner mode (resource_at name t)) t else t))
    [ true ↦ placed-leaves name (regranted owner mode (resource_at name t)) t (resource_at-named name t) | false ↦ λ other n. refl ])

pub recovered-leaves : (name : LockName) (value : List ℕ) (valid : Bool) (t : List Resource) → LeavesOthers name t (recovered name value valid t)
unfolding recovered
recovered-leaves name value valid t = placed-leaves name (recovered_of value valid (resource_at name t)) t (resource_at-named name t)

pub released-leaves : (name : LockName) (owner : Owner) (value : List ℕ) (t : List Resource) → LeavesOthers name t (released name owner value t)
unfolding released
released-leaves name owner value t = placed-leaves name (released_of owner value (resource_at name t)) t (written-name _ value _ ∙ resource_at-named name t)
