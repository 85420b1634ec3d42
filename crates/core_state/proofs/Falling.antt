-- Deaths along a history: each is that of one node, and answers are none.
use Rattle.std.proofs.Common.{◌≡◌, ◌≢◌, ◌==◌, ◌≤◌, ◌<◌, ◌+◌, ◌++◌, ◌∙◌, ℕ, zero, suc, Bool, true, false, cond, eqb, List, [], ◌∷◌, refl, sym, ap, arith}
use Rattle.std.specs.List.{count_by, range_with_len}
use Rattle.std.proofs.lemmas.Bool.Decides.{nat_tests}
use Rattle.std.proofs.lemmas.List.Sums.{sum_by-cons}
use Rattle.plain_cat.specs.declared.command.Cmd.{Cmd}
use Rattle.plain_cat.specs.declared.reply.Reply.{Reply}
use Rattle.plain_cat.specs.declared.history.Stage.{Stage}
use Rattle.plain_cat.specs.Spared.{Spared}
use Rattle.plain_cat.specs.declared.history.Entry.{Entry}
use Rattle.plain_cat.specs.declared.history.Entry.TheVariants.{Done, Died}
use Rattle.plain_rules.specs.Own.{NodePast, newborn, past, after_answer, after_entry}
use Rattle.plain_past.proofs.Growing.{past_grows}
use Rattle.core_state.specs.Fallen.{is_fall, falls, fallen}
use Rattle.core_state.proofs.SmallCounts.{sum_more}

abbrev one : Bool → ℕ
one b = cond b 1 0

pub answers_fell : (h : List Entry) (n : ℕ) (x : Cmd) (r : Reply) → falls (h ++ Done n x r ∷ []) ≡ falls h
answers_fell h n x r = let e : falls (h ++ Done n x r ∷ []) ≡ falls h + 0 = sum_more (λ e. one (is_fall e)) h (Done n x r) in omega arith

pub death_fell : (h : List Entry) (n : ℕ) (stage : Stage) (clusters : ℕ) (numbers : Spared ℕ) → falls (h ++ Died n stage clusters numbers ∷ []) ≡ falls h + 1
death_fell h n stage clusters numbers = sum_more (λ e. one (is_fall e)) h (Died n stage clusters numbers)

-- ---- the nodes that are dead

-- tests that are the same for each number
count_same : (p q : ℕ → Bool) → ((n : ℕ) → p n ≡ q n) → (a k : ℕ) → count_by p (range_with_len a k) ≡ count_by q (range_with_len a k)
count_same p q same a zero = refl
count_same p q same a (suc k) =
    let rest = count_same p q same (a + 1) k in
    let i : count_by p (range_with_len a (suc k)) ≡ one (p a) + count_by p (range_with_len (a + 1) k) = sum_by-cons (λ n. one (p n)) a (range_with_len (a + 1) k) in
    let j : count_by q (range_with_len a (suc k)) ≡ one (q a) + count_by q (range_with_len (a + 1) k) = sum_by-cons (λ n. one (q n)) a (range_with_len (a + 1) k) in
    let e : one (p a) ≡ one (q a) = ap one (same a) in
    omega arith

-- a number below the first is no matter
count_apart : (p q : ℕ → Bool) (m : ℕ) → ((n : ℕ) → n ≢ m → p n ≡ q n) → (a k : ℕ) → m < a → count_by p (range_with_len a k) ≡ count_by q (range_with_len a k)
count_apart p q m same a zero lt = refl
count_apart p q m same a (suc k) lt =
    let rest = count_apart p q m same (a + 1) k (omega arith) in
    let i : count_by p (range_with_len a (suc k)) ≡ one (p a) + count_by p (range_with_len (a + 1) k) = sum_by-cons (λ n. one (p n)) a (range_with_len (a + 1) k) in
    let j : count_by q (range_with_len a (suc k)) ≡ one (q a) + count_by q (range_with_len (a + 1) k) = sum_by-cons (λ n. one (q n)) a (range_with_len (a + 1) k) in
    let e : one (p a) ≡ one (q a) = ap one (same a (far lt)) in
    omega arith where
      far : m < a → a ≢ m
      far lt e = omega arith

-- one more passes
count_one : (p q : ℕ → Bool) (m : ℕ) → ((n : ℕ) → n ≢ m → p n ≡ q n) → p m ≡ false → q m ≡ true → (a k : ℕ) → a ≤ m → m < a + k → count_by q (range_with_len a k) ≡ count_by p (range_with_len a k) + 1
count_one p q m same fails passes a zero low high = absurd (omega arith)
count_one p q m same fails passes a (suc k) low high = by_first (a == m) refl (λ more. count_one p q m same fails passes (a + 1) k more (omega arith)) where
  i : count_by p (range_with_len a (suc k)) ≡ one (p a) + count_by p (range_with_len (a + 1) k)
  i = sum_by-cons (λ n. one (p n)) a (range_with_len (a + 1) k)

  j : count_by q (range_with_len a (suc k)) ≡ one (q a) + count_by q (range_with_len (a + 1) k)
  j = sum_by-cons (λ n. one (q n)) a (range_with_len (a + 1) k)

  is_same : (a == m) ≡ true → a ≡ m
  is_same e = grind (arith, nat_tests)

  is_other : (a == m) ≡ false → a ≢ m
  is_other e f = grind (arith, nat_tests)

  here : a ≡ m → count_by q (range_with_len a (suc k)) ≡ count_by p (range_with_len a (suc k)) + 1
  here e =
      let rest = count_apart p q m same (a + 1) k (omega arith) in
      let f : one (p a) ≡ 0 = ap one (ap p e ∙ fails) in
      let g : one (q a) ≡ 1 = ap one (ap q e ∙ passes) in
      let x = i in
      let y = j in
      omega arith

  above : a ≢ m → a + 1 ≤ m
  above ne = omega arith

  there : a ≢ m → (a + 1 ≤ m → count_by q (range_with_len (a + 1) k) ≡ count_by p (range_with_len (a + 1) k) + 1) → count_by q (range_with_len a (suc k)) ≡ count_by p (range_with_len a (suc k)) + 1
  there ne more =
      let rest = more (above ne) in
      let f : one (p a) ≡ one (q a) = ap one (same a ne) in
      let x = i in
      let y = j in
      omega arith

  by_first : (b : Bool) → (a == m) ≡ b → (a + 1 ≤ m → count_by q (range_with_len (a + 1) k) ≡ count_by p (range_with_len (a + 1) k) + 1) → count_by q (range_with_len a (suc k)) ≡ count_by p (range_with_len a (suc k)) + 1
  by_first true e more = here (is_same e)
  by_first false e more = there (is_other e) more

count_all : (p : ℕ → Bool) (b k : ℕ) → count_by p (range_with_len b k) ≤ k
count_all p b zero = omega arith
count_all p b (suc k) =
    let rest = count_all p (b + 1) k in
    let e : count_by p (range_with_len b (suc k)) ≡ one (p b) + count_by p (range_with_len (b + 1) k) = sum_by-cons (λ n. one (p n)) b (range_with_len (b + 1) k) in
    let f : one (p b) ≤ 1 = at_most (p b) in
    omega arith where
      at_most : (t : Bool) → one t ≤ 1
      at_most true = omega arith
      at_most false = omega arith

-- not all pass, where one does not
count_few : (p : ℕ → Bool) (m : ℕ) → p m ≡ false → (a k : ℕ) → a ≤ m → m < a + k → count_by p (range_with_len a k) < k
count_few p m fails a zero low high = absurd (omega arith)
count_few p m fails a (suc k) low high = by_first (a == m) refl (λ more. count_few p m fails (a + 1) k more (omega arith)) where
  i : count_by p (range_with_len a (suc k)) ≡ one (p a) + count_by p (range_with_len (a + 1) k)
  i = sum_by-cons (λ n. one (p n)) a (range_with_len (a + 1) k)

  one_at_most : (t : Bool) → one t ≤ 1
  one_at_most true = omega arith
  one_at_most false = omega arith

  is_same : (a == m) ≡ true → a ≡ m
  is_same e = grind (arith, nat_tests)

  is_above : (a == m) ≡ false → a + 1 ≤ m
  is_above e = grind (arith, nat_tests)

  by_first : (b : Bool) → (a == m) ≡ b → (a + 1 ≤ m → count_by p (range_with_len (a + 1) k) < k) → count_by p (range_with_len a (suc k)) < suc k
  by_first true e more = let f : one (p a) ≡ 0 = ap one (ap p (is_same e) ∙ fails) in let g = count_all p (a + 1) k in let x = i in omega arith
  by_first false e more = let rest = more (is_above e) in let f = one_at_most (p a) in let x = i in omega arith

-- ---- along a history

still_dead : (m n : ℕ) (p : NodePast) (x : Cmd) (r : Reply) → (after_entry m p (Done n x r)).dead ≡ p.dead
unfolding after_answer
still_dead m n p x r = by_node (eqb n m) where
  by_node : (b : Bool) → (cond b (after_answer p x r) p).dead ≡ p.dead
  by_node true = refl
  by_node false = refl

pub answers_left : (h : List Entry) (n : ℕ) (x : Cmd) (r : Reply) (last : ℕ) → fallen (h ++ Done n x r ∷ []) last ≡ fallen h last
answers_left h n x r last =
    count_same (λ m. (past m (h ++ Done n x r ∷ [])).dead) (λ m. (past m h).dead) (λ m. ap (λ (p : NodePast). p.dead) (past_grows m h (Done n x r)) ∙ still_dead m n (past m h) x r) 1 last

dies_now : (n : ℕ) (p : NodePast) (stage : Stage) (clusters : ℕ) (numbers : Spared ℕ) → (after_entry n p (Died n stage clusters numbers)).dead ≡ true
dies_now n p stage clusters numbers = ap (λ b. (cond b (record p { dead = true }) p).dead) (same n) where
  same : (k : ℕ) → eqb k k ≡ true
  same k = grind (arith, nat_tests)

dies_not : (m n : ℕ) (p : NodePast) (stage : Stage) (clusters : ℕ) (numbers : Spared ℕ) → m ≢ n → (after_entry m p (Died n stage clusters numbers)).dead ≡ p.dead
dies_not m n p stage clusters numbers ne = ap (λ b. (cond b (record p { dead = true }) p).dead) (other n m (λ e. ne (sym e))) where
  other : (a b : ℕ) → (a ≡ b → ⊥) → eqb a b ≡ false
  other a b d = grind (arith, nat_tests)

pub death_left : (h : List Entry) (n : ℕ) (stage : Stage) (clusters : ℕ) (numbers : Spared ℕ) (last : ℕ) → (past n h).dead ≡ false → 1 ≤ n → n ≤ last → fallen (h ++ Died n stage clusters numbers ∷ []) last ≡ fallen h last + 1
death_left h n stage clusters numbers last on from to =
    let e : Entry = Died n stage clusters numbers in
    count_one (λ m. (past m h).dead) (λ m. (past m (h ++ e ∷ [])).dead) n
    (λ m ne. sym (ap (λ (p : NodePast). p.dead) (past_grows m h e) ∙ dies_not m n (past m h) stage clusters numbers ne)) on
    (ap (λ (p : NodePast). p.dead) (past_grows n h e) ∙ dies_now n (past n h) stage clusters numbers) 1 last from (omega arith)

pub fewer_fallen : (h : List Entry) (n last : ℕ) → (past n h).dead ≡ false → 1 ≤ n → n ≤ last → fallen h last < last
fewer_fallen h n last on from to = count_few (λ m. (past m h).dead) n on 1 last from (omega arith)

pub none_fallen : (last : ℕ) → fallen [] last ≡ 0
unfolding newborn
none_fallen last = none 1 last where
  none : (a k : ℕ) → count_by (λ (n : ℕ). false) (range_with_len a k) ≡ 0
  none a zero = refl
  none a (suc k) = none (a + 1) k
