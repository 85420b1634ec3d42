-- How many commands a history can have: each node's entries are its answers, and one death at most; and its answers are few.
use Rattle.std.proofs.Common.{◌≡◌, ◌==◌, ◌≤◌, ◌<◌, ◌+◌, ◌*◌, ◌++◌, not, ℕ, zero, suc, Bool, true, false, cond, eqb, List, [], ◌∷◌, Option, Some, None, IsSome, length, slice_get, refl, sym, ap, subst, ◌∙◌, inl, inr, arith}
use Rattle.std.specs.Prelude.{◌⊎◌, ◌-◌, is_some, slice_set}
use Rattle.std.specs.List.{list_any, sum_by, count_by}
use Rattle.std.proofs.lemmas.Bool.{eqb-true}
use Rattle.std.proofs.lemmas.Bool.Decides.{nat_tests}
use Rattle.std.proofs.lemmas.List.{append_assoc, append-nil}
use Rattle.std.proofs.lemmas.List.Sums.{sum_by-cons, count_by-le-length}
use Rattle.plain_cat.specs.declared.command.Cmd.{Cmd}
use Rattle.plain_cat.specs.declared.reply.Reply.{Reply}
use Rattle.plain_cat.specs.declared.cat.Cat.{Cat}
use Rattle.plain_cat.specs.declared.history.Stage.{Stage}
use Rattle.plain_cat.specs.declared.history.Stage.TheVariants as stage
use Rattle.plain_cat.specs.declared.history.Entry.{Entry}
use Rattle.plain_cat.specs.declared.history.Entry.TheVariants.{Done, Died, Mended}
use Rattle.plain_cat.specs.declared.script.Line.{Line}
use Rattle.plain_cat.specs.declared.script.LineCmd.{LineCmd}
use Rattle.plain_cat.specs.declared.script.Script.{Script}
use Rattle.plain_rules.specs.Stages.{staged}
use Rattle.plain_cat.specs.declared.command.Cmd.TheVariants as cmd
use Rattle.plain_rules.specs.Mending.{is_true}
use Rattle.plain_rules.specs.Own.{NodePast, newborn, past, after_answer, after_entry, is_opened, is_closed, switched, channels_after, lines_of, or_close, command_after, next_command, IsNext, OwnFrom, Own}
use Rattle.plain_rules.specs.Replaying.{Leads, ReplaysFrom, Replays}
use Rattle.plain_past.specs.Laws.{is_of, has_line}
use Rattle.plain_past.proofs.Growing.{past_grows, own_grows}
use Rattle.plain_past.proofs.Strangers.{own_strangers}
use Rattle.core_state.specs.Small.{is_begun}
use Rattle.core_state.specs.Fallen.{is_fall, falls}
use Rattle.core_state.specs.Goods.{HasFewAnswers}
use Rattle.core_state.proofs.Commands.{closes_one}

-- ---- sums

abbrev one : Bool → ℕ
one b = cond b 1 0

sum_plus : {A : Type 0} (f g k : A → ℕ) → ((x : A) → k x ≡ f x + g x) → (xs : List A) → sum_by k xs ≡ sum_by f xs + sum_by g xs
sum_plus f g k e [] = refl
sum_plus f g k e (x ∷ xs) =
    let rest = sum_plus f g k e xs in
    let a : sum_by f (x ∷ xs) ≡ f x + sum_by f xs = sum_by-cons f x xs in
    let b : sum_by g (x ∷ xs) ≡ g x + sum_by g xs = sum_by-cons g x xs in
    let c : sum_by k (x ∷ xs) ≡ k x + sum_by k xs = sum_by-cons k x xs in
    let d : k x ≡ f x + g x = e x in
    omega arith

sum_at_most : {A : Type 0} (f : A → ℕ) (most : ℕ) → ((x : A) → f x ≤ most) → (xs : List A) → sum_by f xs ≤ length xs * most
sum_at_most f most le [] = omega arith
sum_at_most f most le (x ∷ xs) =
    let rest = sum_at_most f most le xs in
    let a : sum_by f (x ∷ xs) ≡ f x + sum_by f xs = sum_by-cons f x xs in
    let b : f x ≤ most = le x in
    let c : suc (length xs) * most ≡ most + length xs * most = omega arith in
    omega arith

any_counts : {A : Type 0} (p : A → Bool) (xs : List A) → list_any p xs ≡ true → 1 ≤ sum_by (λ x. one (p x)) xs
any_counts p [] e = absurd (let f : false ≡ true = e in cc)
any_counts p (x ∷ xs) e =
    let a : sum_by (λ y. one (p y)) (x ∷ xs) ≡ one (p x) + sum_by (λ y. one (p y)) xs = sum_by-cons (λ y. one (p y)) x xs in
    by_test (p x) refl (λ none. any_counts p xs (rw none at e)) (sum_by (λ y. one (p y)) (x ∷ xs)) (sum_by (λ y. one (p y)) xs) a refl where
      by_test : (b : Bool) → p x ≡ b → (p x ≡ false → 1 ≤ sum_by (λ y. one (p y)) xs) → (all behind : ℕ) → all ≡ one (p x) + behind → behind ≡ sum_by (λ y. one (p y)) xs → 1 ≤ all
      by_test true t rest all behind a b = let c : one (p x) ≡ 1 = ap one t in omega arith
      by_test false t rest all behind a b = let c : 1 ≤ sum_by (λ y. one (p y)) xs = rest t in omega arith

-- ---- the entries of a node

abbrev shown : NodePast → ℕ
shown p = p.answered + one p.dead

-- one entry more, and its node has one answer more, or is dead
shown_next : (s : Script) (n : ℕ) (h : List Entry) (e : Entry) → IsNext s h e → one (is_of n e) + shown (past n h) ≡ shown (after_entry n (past n h) e)
unfolding after_answer
shown_next s n h (Done m x r) next = by_node (eqb m n) where
  by_node : (b : Bool) → one b + shown (past n h) ≡ shown (cond b (after_answer (past n h) x r) (past n h))
  by_node true = omega arith
  by_node false = omega arith
shown_next s n h (Died m st k l) next = by_node (eqb m n) refl where
  by_node : (b : Bool) → eqb m n ≡ b → one b + shown (past n h) ≡ shown (cond b (record (past n h) { dead = true }) (past n h))
  by_node true e =
      let alive : (past n h).dead ≡ false = subst (λ (k : ℕ). (past k h).dead ≡ false) (eqb-true m n e) next in
      let none : one (past n h).dead ≡ 0 = ap one alive in
      omega arith
  by_node false e = omega arith
shown_next s n h (Mended m) next = omega arith

shown_all : (s : Script) (n : ℕ) (h es : List Entry) → OwnFrom s h es → count_by (is_of n) es + shown (past n h) ≡ shown (past n (h ++ es))
shown_all s n h [] own = let e : shown (past n h) ≡ shown (past n (h ++ [])) = ap (λ (k : List Entry). shown (past n k)) (sym (append-nil h)) in let z : count_by (is_of n) [] ≡ 0 = refl in omega arith
shown_all s n h (e ∷ es) own =
    let rest = shown_all s n (h ++ e ∷ []) es own.1 in
    let a : count_by (is_of n) (e ∷ es) ≡ one (is_of n e) + count_by (is_of n) es = sum_by-cons (λ x. one (is_of n x)) e es in
    let b : one (is_of n e) + shown (past n h) ≡ shown (after_entry n (past n h) e) = shown_next s n h e own.0 in
    let c : shown (past n (h ++ e ∷ [])) ≡ shown (after_entry n (past n h) e) = ap shown (past_grows n h e) in
    let d : shown (past n ((h ++ e ∷ []) ++ es)) ≡ shown (past n (h ++ e ∷ es)) = ap (λ (k : List Entry). shown (past n k)) (append_assoc h (e ∷ []) es) in
    omega arith

-- a node has as many entries as answers, and one more at most
pub entries_of : (s : Script) (n : ℕ) (h : List Entry) → Own s h → count_by (is_of n) h ≤ (past n h).answered + 1
unfolding newborn
entries_of s n h own = let e = shown_all s n [] h own in let z : shown (past n []) ≡ 0 = refl in let le : one (past n h).dead ≤ 1 = at_most (past n h).dead in omega arith where
  at_most : (b : Bool) → one b ≤ 1
  at_most true = omega arith
  at_most false = omega arith

-- ---- each entry of a command is of a node that has a line

-- no command was under way
abbrev is_idle : Stage → Bool
is_idle stage.Idle = true
is_idle other = false

-- an entry that ends a command
abbrev is_command : Entry → Bool
is_command (Done n x r) = true
is_command (Died n stage clusters numbers) = not (is_idle stage)
is_command (Mended m) = false

abbrev HasLine : Script → Entry → Type 0
HasLine s e = (is_command e ≡ false) ⊎ (list_any (λ (l : Line). is_of l.node e) s.lines ≡ true)

abbrev AllHaveLines : Script → List Entry → Type 0
AllHaveLines s [] = Unit {0}
AllHaveLines s (e ∷ es) = HasLine s e × AllHaveLines s es

same_test : (a b : ℕ) → (a == b) ≡ (b == a)
same_test a b = grind (arith, nat_tests)

either_way : (n : ℕ) (ls : List Line) → list_any (λ (l : Line). l.node == n) ls ≡ list_any (λ (l : Line). n == l.node) ls
either_way n [] = refl
either_way n (l ∷ ls) = rw (same_test l.node n, either_way n ls) refl

has_command : (s : Script) (n : ℕ) (h : List Entry) → Own s h → IsSome (next_command s n h) → list_any (λ (l : Line). n == l.node) s.lines ≡ true
has_command s n h own some = sym (either_way n s.lines) ∙ by_test (has_line n s) refl where
  by_test : (b : Bool) → has_line n s ≡ b → has_line n s ≡ true
  by_test true e = e
  by_test false e = absurd (let none : next_command s n h ≡ None = own_strangers s n h e own in let f : false ≡ true = subst IsSome none some in cc)

stage_begun : (c : Cat) (n : ℕ) (next : Option Cmd) (s : Stage) (new : Option ℕ) (d : Cat) → staged c n next s new ≡ Some d → is_idle s ≡ false → IsSome next
unfolding staged
stage_begun c n (Some x) s new d e begun = refl
stage_begun c n None stage.Idle new d e begun = absurd (let f : true ≡ false = begun in cc)
stage_begun c n None other new d e begun = absurd (let f : None ≡ Some d = e in cc)

entry_line : (s : Script) (h : List Entry) (c d : Cat) (e : Entry) → Own s h → IsNext s h e → Leads s h c e d → HasLine s e
entry_line s h c d (Done n x r) own next leads = inr (has_command s n h own (rw next.1 refl))
entry_line s h c d (Died n st k l) own next leads = by_stage (is_idle st) refl where
  by_stage : (b : Bool) → is_idle st ≡ b → HasLine s (Died n st k l)
  by_stage true e = inl (ap not e)
  by_stage false e = inr (has_command s n h own (stage_begun c n (next_command s n h) st leads.0 leads.1 leads.3 e))
entry_line s h c d (Mended m) own next leads = inl refl

all_lines : (s : Script) (h es : List Entry) (c d : Cat) → Own s h → OwnFrom s h es → ReplaysFrom s h c es d → AllHaveLines s es
all_lines s h [] c d own next replays = tt
all_lines s h (e ∷ es) c d own next replays =
    (entry_line s h c replays.0 e own next.0 replays.1, all_lines s (h ++ e ∷ []) es replays.0 d (own_grows s h e own next.0) next.1 replays.2)

-- so the entries of commands are among those of the nodes of all lines
by_lines : (s : Script) (es : List Entry) → AllHaveLines s es → count_by is_command es ≤ sum_by (λ (l : Line). count_by (is_of l.node) es) s.lines
by_lines s [] all = omega arith
by_lines s (e ∷ es) all =
    let rest = by_lines s es all.1 in
    let first : one (is_command e) ≤ sum_by (λ (l : Line). one (is_of l.node e)) s.lines = by_line all.0 in
    let a : count_by is_command (e ∷ es) ≡ one (is_command e) + count_by is_command es = sum_by-cons (λ x. one (is_command x)) e es in
    let b : sum_by (λ (l : Line). count_by (is_of l.node) (e ∷ es)) s.lines ≡ sum_by (λ (l : Line). one (is_of l.node e)) s.lines + sum_by (λ (l : Line). count_by (is_of l.node) es) s.lines
    = sum_plus (λ (l : Line). one (is_of l.node e)) (λ (l : Line). count_by (is_of l.node) es) (λ (l : Line). count_by (is_of l.node) (e ∷ es)) (λ l. sum_by-cons (λ x. one (is_of l.node x)) e es) s.lines in
    omega arith where
      by_line : HasLine s e → one (is_command e) ≤ sum_by (λ (l : Line). one (is_of l.node e)) s.lines
      by_line (inl none) = let z : one (is_command e) ≡ 0 = ap one none in omega arith
      by_line (inr some) = let le = any_counts (λ (l : Line). is_of l.node e) s.lines some in let m : one (is_command e) ≤ 1 = at_most (is_command e) in omega arith where
        at_most : (b : Bool) → one b ≤ 1
        at_most true = omega arith
        at_most false = omega arith

-- ---- a node's answers are at most its lines

few_lines : (n : ℕ) (ls : List Line) → length (lines_of n ls) ≤ length ls
few_lines n [] = omega arith
few_lines n (l ∷ ls) = by_test (l.node == n) refl (few_lines n ls) where
  by_test : (t : Bool) → (l.node == n) ≡ t → length (lines_of n ls) ≤ length ls → length (cond t (l.cmd ∷ lines_of n ls) (lines_of n ls)) ≤ suc (length ls)
  by_test true e r = omega arith
  by_test false e r = omega arith

pub there_within : {A : Type 0} (xs : List A) (k : ℕ) → IsSome (slice_get xs k) → k < length xs
there_within [] k i = absurd (let f : false ≡ true = i in cc)
there_within (x ∷ xs) zero i = omega arith
there_within (x ∷ xs) (suc k) i = let lt = there_within xs k i in omega arith

-- few answers are at most eight more than lines
pub few_so : (s : Script) (n : ℕ) (p : NodePast) → HasFewAnswers s n p → p.answered ≤ length (lines_of n s.lines) + 8
few_so s n p (inl le) = omega arith
few_so s n p (inr le) = omega arith

-- and less than 32 bits
pub answers_fit : (s : Script) (n : ℕ) (p : NodePast) → length s.lines ≤ 4096 → HasFewAnswers s n p → p.answered < 4294967295
answers_fit s n p lines few = let a = few_so s n p few in let b = few_lines n s.lines in omega arith

-- a node without an answer has few
pub few_newborn : (s : Script) (n : ℕ) → HasFewAnswers s n newborn
unfolding newborn
few_newborn s n = inl (omega arith)

-- ---- one answer more

-- one of the channels is closed
closed_one : (channels : List Bool) (k : ℕ) → slice_get channels k ≡ Some true → count_by is_true (slice_set channels k false) + 1 ≡ count_by is_true channels
closed_one [] k e = absurd (let f : None ≡ Some true = e in cc)
closed_one (b ∷ channels) zero e =
    let f : Some b ≡ Some true = e in
    let g : b ≡ true = cc in
    let h : one b ≡ 1 = ap one g in
    let i : sum_by (λ x. one (is_true x)) (false ∷ channels) ≡ 0 + sum_by (λ x. one (is_true x)) channels = sum_by-cons (λ x. one (is_true x)) false channels in
    let j : sum_by (λ x. one (is_true x)) (b ∷ channels) ≡ one b + sum_by (λ x. one (is_true x)) channels = sum_by-cons (λ x. one (is_true x)) b channels in
    omega arith
closed_one (b ∷ channels) (suc k) e =
    let rest : sum_by (λ x. one (is_true x)) (slice_set channels k false) + 1 ≡ sum_by (λ x. one (is_true x)) channels = closed_one channels k e in
    let i : sum_by (λ x. one (is_true x)) (b ∷ slice_set channels k false) ≡ one b + sum_by (λ x. one (is_true x)) (slice_set channels k false) = sum_by-cons (λ x. one (is_true x)) b (slice_set channels k false) in
    let j : sum_by (λ x. one (is_true x)) (b ∷ channels) ≡ one b + sum_by (λ x. one (is_true x)) channels = sum_by-cons (λ x. one (is_true x)) b channels in
    omega arith

count_few : (channels : List Bool) → count_by is_true channels ≤ length channels
count_few channels = count_by-le-length is_true channels

-- A node that has answered a command of one of its lines, or that has closed an open channel behind them, has few answers still.
pub few_go_on : (s : Script) (n : ℕ) (p : NodePast) (x : Cmd) (r : Reply) → length p.channels ≡ 8 → command_after s n p ≡ Some x → ((chan : ℕ) → x ≡ cmd.CloseFile chan → slice_get p.channels (chan - 1) ≡ Some true → is_closed r ≡ true)
    → HasFewAnswers s n p → HasFewAnswers s n (after_answer p x r)
unfolding after_answer
few_go_on s n p x r eight next closes few = by_line (slice_get (lines_of n s.lines) p.answered) refl next where
  -- it has a line still, or has come to the end of them
  by_line : (o : Option LineCmd) → slice_get (lines_of n s.lines) p.answered ≡ o → or_close p o ≡ Some x → HasFewAnswers s n (after_answer p x r)
  by_line (Some l) at e = inl (let lt : p.answered < length (lines_of n s.lines) = there_within (lines_of n s.lines) p.answered (ap is_some at) in omega arith)
  by_line None at e =
      let c = closes_one 1 p.channels x e in
      let closed : is_closed r ≡ true = closes c.chan c.is c.open_now in
      let channels : channels_after p.channels x r ≡ slice_set p.channels (c.chan - 1) false = ap (λ y. channels_after p.channels y r) c.is ∙ closing c.chan r closed in
      let count : count_by is_true (slice_set p.channels (c.chan - 1) false) + 1 ≡ count_by is_true p.channels = closed_one p.channels (c.chan - 1) c.open_now in
      let same : count_by is_true (channels_after p.channels x r) ≡ count_by is_true (slice_set p.channels (c.chan - 1) false) = ap (count_by is_true) channels in
      let most = count_few p.channels in
      inr (by_few count same most few) where
        closing : (chan : ℕ) (q : Reply) → is_closed q ≡ true → channels_after p.channels (cmd.CloseFile chan) q ≡ slice_set p.channels (chan - 1) false
        closing chan q e = (λ i. switched (switched p.channels (is_opened q) None true) (e i) (Some chan) false) ∙ ap (λ cs. slice_set cs (chan - 1) false) (none_switched p.channels (is_opened q)) where
          none_switched : (channels : List Bool) (does : Bool) → switched channels does None true ≡ channels
          none_switched channels true = refl
          none_switched channels false = refl

        by_few : {k m : ℕ} → k + 1 ≡ count_by is_true p.channels → m ≡ k → count_by is_true p.channels ≤ length p.channels → HasFewAnswers s n p → p.answered + 1 + m ≤ length (lines_of n s.lines) + 8
        by_few count same most (inl le) = omega arith
        by_few count same most (inr le) = omega arith

-- ---- the commands of a history

-- few of its entries end a command
few_commands : (s : Script) (h : List Entry) (c d : Cat) → Own s h → Replays c s h d → length s.lines ≤ 4096 → ((n : ℕ) → (past n h).answered ≤ length (lines_of n s.lines) + 8) → count_by is_command h ≤ 4096 * 4105
unfolding newborn
few_commands s h c d own replays lines answers =
    let a = by_lines s h (all_lines s [] h c d tt own replays) in
    let b : sum_by (λ (l : Line). count_by (is_of l.node) h) s.lines ≤ length s.lines * 4105 = sum_at_most (λ (l : Line). count_by (is_of l.node) h) 4105 (λ l. each l.node) s.lines in
    omega arith where
      each : (n : ℕ) → count_by (is_of n) h ≤ 4105
      each n = let e = entries_of s n h own in let f = answers n in let g = few_lines n s.lines in omega arith

-- an entry that ends a command is an answer, or else a death
ends_one : (e : Entry) → one (is_begun e) ≤ one (is_command e) + one (is_fall e)
ends_one (Done n x r) = omega arith
ends_one (Died n stage clusters numbers) = omega arith
ends_one (Mended m) = omega arith

ends_all : (h : List Entry) → count_by is_begun h ≤ count_by is_command h + falls h
ends_all [] = omega arith
ends_all (e ∷ h) =
    let rest = ends_all h in
    let first = ends_one e in
    let a : count_by is_begun (e ∷ h) ≡ one (is_begun e) + count_by is_begun h = sum_by-cons (λ x. one (is_begun x)) e h in
    let b : count_by is_command (e ∷ h) ≡ one (is_command e) + count_by is_command h = sum_by-cons (λ x. one (is_command x)) e h in
    let c : falls (e ∷ h) ≡ one (is_fall e) + falls h = sum_by-cons (λ x. one (is_fall x)) e h in
    omega arith

-- Where each node has no more answers than lines, and eight closes, a history of a script of 4,096 lines has few commands.
pub few_begun : (s : Script) (h : List Entry) (c d : Cat) → Own s h → Replays c s h d → length s.lines ≤ 4096 → ((n : ℕ) → (past n h).answered ≤ length (lines_of n s.lines) + 8) → count_by is_begun h ≤ 4096 * 4105 + falls h
few_begun s h c d own replays lines answers = let a = few_commands s h c d own replays lines answers in let b = ends_all h in omega arith
