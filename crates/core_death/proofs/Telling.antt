-- What a node has outside, and its stage, are told by the last of its writes done.
use Rattle.std.proofs.Common.{◌≡◌, ◌≤◌, ◌<◌, ◌==◌, ◌+◌, ◌++◌, ◌||◌, ℕ, zero, suc, Bool, true, false, cond, List, [], ◌∷◌, Option, Some, None, length, map, take, slice_get, refl, sym, ap, ◌∙◌, arith}
use Rattle.std.specs.List.{list_any}
use Rattle.plain_cat.specs.declared.history.Stage.{Stage}
use Rattle.plain_cat.specs.declared.history.Entry.TheVariants.{Died}
use Rattle.vol_spell.specs.Owners.{Things, nothing}
use Rattle.vol_under.specs.UnderWay.{first_stage, stage_after, outs_after, together}
use Rattle.op_law.specs.declared.need.Ask.{Ask}
use Rattle.op_law.specs.declared.need.Plan.{Plan}
use Rattle.op_law.specs.declared.need.PlanWrite.{PlanWrite}
use Rattle.op_law.specs.declared.seen.Seen.{Seen}
use Rattle.op_law.specs.Fits.{things}
use Rattle.op_law.specs.Laws.{numbers_before, planned}
use Rattle.core_space.specs.Taking.{out_of}
use Rattle.core_space.specs.declared.run.Phase.{Phase}
use Rattle.core_space.specs.declared.run.Phase.TheVariants as phase
use Rattle.core_space.specs.declared.run.SpaceRun.{SpaceRun}
use Rattle.core_space.specs.Laws.{places_of, things_of, taken_with}
use Rattle.core_state.specs.Worlds.{NodeState}
use Rattle.core_state.specs.Asks.{writes_by, writes_now}
use Rattle.core_state.specs.Stocks.{things_in, things_held, taken_in, taken_now}
use Rattle.core_state.specs.Deaths.{stage_now, outside_now, has_number, numbers_that, numbers_of, death_of}
use Rattle.core_state.proofs.Turning.{taken_first}
use Rattle.core_death.specs.Lasts.{last_of, last_in, stage_or, clusters_or, taken_by, clusters_by, is_number, is_this, number_or, number_by, stage_told, clusters_told, number_told, death_told}
use Rattle.base_words.proofs.Booleans.{or_false}

-- ---- the last of the first writes

there : (ws : List PlanWrite) (k : ℕ) → k < length ws → (v : PlanWrite) × (slice_get ws k ≡ Some v)
there [] k lt = absurd (omega arith)
there (w ∷ ws) zero lt = (w, refl)
there (w ∷ ws) (suc k) lt = there ws k (omega arith)

-- what is outside after a write, or else was
abbrev outs_or : Option PlanWrite → Things → Things
outs_or None t = t
outs_or (Some w) t = (planned w).outs

stage_last : (s : Stage) (ws : List PlanWrite) (k : ℕ) → k ≤ length ws → stage_after s (take k (map planned ws)) ≡ stage_or (last_of ws k) s
stage_last s ws zero le = refl
stage_last s [] (suc k) le = absurd (omega arith)
stage_last s (w ∷ ws) (suc zero) le = refl
stage_last s (w ∷ ws) (suc (suc k)) le =
    let v = there ws k (omega arith) in
    stage_last w.stage ws (suc k) (omega arith) ∙ ap (λ o. stage_or o w.stage) v.1 ∙ sym (ap (λ o. stage_or o s) v.1)

outs_last : (t : Things) (ws : List PlanWrite) (k : ℕ) → k ≤ length ws → outs_after t (take k (map planned ws)) ≡ outs_or (last_of ws k) t
outs_last t ws zero le = refl
outs_last t [] (suc k) le = absurd (omega arith)
outs_last t (w ∷ ws) (suc zero) le = refl
outs_last t (w ∷ ws) (suc (suc k)) le =
    let v = there ws k (omega arith) in
    outs_last (planned w).outs ws (suc k) (omega arith) ∙ ap (λ o. outs_or o (planned w).outs) v.1 ∙ sym (ap (λ o. outs_or o t) v.1)

-- ---- of a plan

within_all : (k m : ℕ) (ws : List PlanWrite) → k ≤ length (take m ws) → k ≤ length ws
within_all zero m ws le = omega arith
within_all (suc k) zero ws le = absurd (omega arith)
within_all (suc k) (suc m) [] le = absurd (omega arith)
within_all (suc k) (suc m) (w ∷ ws) le = let l = within_all k m ws (omega arith) in omega arith

writes_within : (o : Option Ask) (tried : Bool) (ws : List PlanWrite) (k : ℕ) → k ≤ length (writes_by o tried ws) → k ≤ length ws
writes_within None tried ws k le = le
writes_within (Some a) true ws k le = le
writes_within (Some a) false ws k le = within_all k a.at ws le

writes_first : (o : Option Ask) (tried : Bool) (ws : List PlanWrite) (k : ℕ) → k ≤ length (writes_by o tried ws) → take k (map planned (writes_by o tried ws)) ≡ take k (map planned ws)
writes_first None tried ws k le = refl
writes_first (Some a) true ws k le = refl
writes_first (Some a) false ws k le = sym (taken_first k a.at ws le)

-- no more writes are done than a plan has
abbrev pub HasDone : Bool → ℕ → Option Plan → Type 0
HasDone tried k o = (p : Plan) → o ≡ Some p → k ≤ length (writes_by p.ask tried p.writes)

none_taken : (k : ℕ) → take k (map planned (let ws : List PlanWrite = [] in ws)) ≡ []
none_taken zero = refl
none_taken (suc k) = refl

stage_done : (tried : Bool) (k : ℕ) (o : Option Plan) (s : Stage) → HasDone tried k o → stage_after s (take k (map planned (writes_now tried o))) ≡ stage_or (last_in o k) s
stage_done tried k None s has = ap (stage_after s) (none_taken k)
stage_done tried k (Some p) s has =
    let le = has p refl in ap (stage_after s) (writes_first p.ask tried p.writes k le) ∙ stage_last s p.writes k (writes_within p.ask tried p.writes k le)

outs_done : (tried : Bool) (k : ℕ) (o : Option Plan) (t : Things) → HasDone tried k o → outs_after t (take k (map planned (writes_now tried o))) ≡ outs_or (last_in o k) t
outs_done tried k None t has = ap (outs_after t) (none_taken k)
outs_done tried k (Some p) t has =
    let le = has p refl in ap (outs_after t) (writes_first p.ask tried p.writes k le) ∙ outs_last t p.writes k (writes_within p.ask tried p.writes k le)

-- ---- of the rules for space

abbrev things_taken : Phase → PlanWrite → Things
things_taken phase.Fill w = things_of w.clusters w.numbers
things_taken phase.Last w = things w.clusters w.number
things_taken other w = nothing

abbrev things_by : Phase → Option PlanWrite → Things
things_by p None = nothing
things_by p (Some w) = things_taken p w

fill_last : (o : Option PlanWrite) → taken_with o ≡ things_by phase.Fill o
fill_last None = refl
fill_last (Some w) = refl

search_last : (o : Option PlanWrite) → things_held (out_of o) ≡ things_by phase.Last o
search_last None = refl
search_last (Some w) = refl

off_last : (o : Option PlanWrite) → nothing ≡ things_by phase.Off o
off_last None = refl
off_last (Some w) = refl

drain_last : (o : Option PlanWrite) → nothing ≡ things_by phase.Drain o
drain_last None = refl
drain_last (Some w) = refl

back_last : (o : Option PlanWrite) → nothing ≡ things_by phase.Back o
back_last None = refl
back_last (Some w) = refl

taken_last : (p : Phase) (ws : List PlanWrite) (k : ℕ) → taken_in p ws k ≡ things_by p (last_of ws k)
taken_last phase.Fill ws zero = refl
taken_last phase.Fill ws (suc k) = fill_last (slice_get ws k)
taken_last phase.Last ws zero = refl
taken_last phase.Last ws (suc k) = search_last (slice_get ws k)
taken_last phase.Off ws k = off_last (last_of ws k)
taken_last phase.Drain ws k = drain_last (last_of ws k)
taken_last phase.Back ws k = back_last (last_of ws k)

stock_taken : (run : SpaceRun) → taken_now run ≡ things_by run.phase (taken_by run)
stock_taken run = by_test (run.made == length run.writes) where
  by_test : (b : Bool) → cond b nothing (taken_in run.phase run.writes run.made) ≡ things_by run.phase (cond b None (last_of run.writes run.made))
  by_test true = refl
  by_test false = taken_last run.phase run.writes run.made

-- ---- the clusters

length_both : {A : Type 0} (xs ys : List A) → length (xs ++ ys) ≡ length xs + length ys
length_both [] ys = omega arith
length_both (x ∷ xs) ys = let e = length_both xs ys in omega arith

clusters_things : (qs : List ℕ) (o : Option ℕ) → (things qs o).clusters ≡ qs
clusters_things qs None = refl
clusters_things qs (Some i) = refl

clusters_before : (ns : List ℕ) (t : Things) → (numbers_before ns t).clusters ≡ t.clusters
clusters_before [] t = refl
clusters_before (n ∷ ns) t = clusters_before ns t

clusters_own : (o : Option PlanWrite) (seen : Seen) → length (outs_or o (things seen.clusters seen.number)).clusters ≡ clusters_or o seen
clusters_own None seen = ap (λ (qs : List ℕ). length qs) (clusters_things seen.clusters seen.number)
clusters_own (Some w) seen = ap (λ (qs : List ℕ). length qs) (clusters_before w.numbers (things w.clusters w.number) ∙ clusters_things w.clusters w.number)

clusters_searched : (p : Phase) (o : Option PlanWrite) → length (things_by p o).clusters ≡ clusters_by p o
clusters_searched p None = refl
clusters_searched phase.Fill (Some w) = refl
clusters_searched phase.Last (Some w) = ap (λ (qs : List ℕ). length qs) (clusters_things w.clusters w.number)
clusters_searched phase.Off (Some w) = refl
clusters_searched phase.Drain (Some w) = refl
clusters_searched phase.Back (Some w) = refl

or_three : (a b c : Bool) → ((a || b) || c) ≡ (a || (b || c))
or_three true b c = refl
or_three false b c = refl

any_both : (p : ℕ → Bool) (xs ys : List ℕ) → list_any p (xs ++ ys) ≡ (list_any p xs || list_any p ys)
any_both p [] ys = refl
any_both p (x ∷ xs) ys = ap (λ b. p x || b) (any_both p xs ys) ∙ sym (or_three (p x) (list_any p xs) (list_any p ys))

number_things : (qs : List ℕ) (o : Option ℕ) (n : ℕ) → has_number (things qs o) n ≡ is_this n o
number_things qs None n = refl
number_things qs (Some i) n = or_false (is_number n i)

number_before : (ns : List ℕ) (t : Things) (n : ℕ) → has_number (numbers_before ns t) n ≡ (list_any (is_number n) ns || has_number t n)
number_before [] t n = refl
number_before (i ∷ ns) t n = ap (λ b. is_number n i || b) (number_before ns t n) ∙ sym (or_three (is_number n i) (list_any (is_number n) ns) (has_number t n))

number_own : (o : Option PlanWrite) (seen : Seen) (n : ℕ) → has_number (outs_or o (things seen.clusters seen.number)) n ≡ number_or n o seen
number_own None seen n = number_things seen.clusters seen.number n
number_own (Some w) seen n = number_before w.numbers (things w.clusters w.number) n ∙ ap (λ b. list_any (is_number n) w.numbers || b) (number_things w.clusters w.number n)

number_places : (ns : List ℕ) (n : ℕ) → list_any (λ i. i + 1 == n) (places_of ns) ≡ list_any (is_number n) ns
number_places [] n = refl
number_places (i ∷ ns) n = ap (λ b. is_number n i || b) (number_places ns n)

number_searched : (p : Phase) (o : Option PlanWrite) (n : ℕ) → has_number (things_by p o) n ≡ number_by n p o
number_searched p None n = refl
number_searched phase.Fill (Some w) n = number_places w.numbers n
number_searched phase.Last (Some w) n = number_things w.clusters w.number n
number_searched phase.Off (Some w) n = refl
number_searched phase.Drain (Some w) n = refl
number_searched phase.Back (Some w) n = refl

-- ---- of a node

module _ (s : NodeState) (has : HasDone s.tried s.done s.plan) where
  abbrev own : Things
  own = outs_or (last_in s.plan s.done) (things s.seen.clusters s.seen.number)

  abbrev stocked : Things
  stocked = things_in s.stock

  abbrev searched : Things
  searched = things_by s.run.phase (taken_by s.run)

  pub outside_is : outside_now s ≡ together own (together stocked searched)
  outside_is = λ i. together (outs_done s.tried s.done s.plan (things s.seen.clusters s.seen.number) has i) (together stocked (stock_taken s.run i))

  pub stage_is : stage_now s ≡ stage_told s
  stage_is = stage_done s.tried s.done s.plan (first_stage s.cmd) has

  pub clusters_is : length (outside_now s).clusters ≡ clusters_told s
  clusters_is =
      ap (λ (t : Things). length t.clusters) outside_is ∙ length_both own.clusters (stocked.clusters ++ searched.clusters)
      ∙ ap (λ k. length own.clusters + k) (length_both stocked.clusters searched.clusters)
      ∙ (λ i. clusters_own (last_in s.plan s.done) s.seen i + (length s.stock.clusters + clusters_searched s.run.phase (taken_by s.run) i))

  number_is : (n : ℕ) → has_number (outside_now s) n ≡ number_told s n
  number_is n =
      ap (λ t. has_number t n) outside_is ∙ any_both (λ i. i + 1 == n) own.numbers (stocked.numbers ++ searched.numbers)
      ∙ ap (λ b. has_number own n || b) (any_both (λ i. i + 1 == n) stocked.numbers searched.numbers)
      ∙ (λ i. number_own (last_in s.plan s.done) s.seen n i || (number_places s.stock.numbers n i || number_searched s.run.phase (taken_by s.run) n i))
      ∙ sym (or_three (number_or n (last_in s.plan s.done) s.seen) (list_any (is_number n) s.stock.numbers) (number_by n s.run.phase (taken_by s.run)))

  numbers_is : numbers_of (outside_now s) ≡ numbers_that (number_told s) 4096
  numbers_is = λ i. numbers_that (λ n. number_is n i) 4096

  pub death_is : (n : ℕ) → death_told n s ≡ death_of n s
  death_is n = λ i. Died n (sym stage_is i) (sym clusters_is i) (record { items = sym numbers_is i; room = 0 })
