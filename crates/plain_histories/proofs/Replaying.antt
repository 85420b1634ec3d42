-- Opens along a history, and the channels by a node's answers.
use Rattle.std.proofs.Common.{◌≡◌, ◌-◌, ◌≤◌, ◌<◌, ◌==◌, ◌++◌, inl, inr, ℕ, zero, suc, Bool, true, false, cond, List, [], ◌∷◌, Option, Some, None, length, slice_get, slice_set, refl, sym, ap, subst, ◌∙◌, arith}
use Rattle.std.specs.Prelude.{replicate, is_some, slice_index_or, leb}
use Rattle.std.proofs.lemmas.Bool.Decides.{nat_tests}
use Rattle.plain_cat.specs.InForm.{is_eighth, is_open_mode, InForm}
use Rattle.plain_cat.specs.declared.command.Cmd.{Cmd}
use Rattle.plain_cat.specs.declared.command.Cmd.TheVariants as cmd
use Rattle.plain_cat.specs.declared.reply.Reply.{Reply}
use Rattle.plain_cat.specs.declared.reply.Reply.TheVariants as reply
use Rattle.plain_cat.specs.declared.history.Entry.{Entry}
use Rattle.plain_cat.specs.declared.history.Entry.TheVariants.{Done, Died, Mended}
use Rattle.plain_cat.specs.declared.script.Script.{Script}
use Rattle.plain_cat.specs.declared.cat.Cat.{Cat}
use Rattle.plain_cat.specs.declared.cat.Open.{Open}
use Rattle.plain_rules.specs.Lookups.{joined, channel_at, place}
use Rattle.plain_rules.specs.Answers.{Answer}
use Rattle.plain_rules.specs.Own.{NodePast, newborn, is_opened, is_closed, switched, after_answer, after_entry, past_from, past, next_command, IsNext, OwnFrom, Own}
use Rattle.plain_rules.specs.Replaying.{Leads, ReplaysFrom, Replays}
use Rattle.plain_past.proofs.Growing.{past_grows}
use Rattle.plain_histories.specs.Opens.{IsChannel, OpensNameFiles}
use Rattle.plain_histories.specs.Moves.{has_channel_in_form, switched_by, switched_next, IsElsewhere, opens_after}
use Rattle.plain_histories.specs.Pasts.{IsOfNode, AreOfNodes, is_open_by, AreOpenBy}
use Rattle.plain_histories.proofs.Lists.{left, right, same_number, other_number, same_or_other, set_else, set_here}
use Rattle.plain_histories.proofs.Moving.{answer_moved}
use Rattle.plain_histories.proofs.Staging.{stage_kept}
use Rattle.plain_histories.proofs.Having.{same_place}
use Rattle.plain_histories.proofs.Keeping.{answer_apart, stage_apart, dead_still}
use Rattle.plain_histories.proofs.Naming.{closed_names, answer_names, stage_names, dead_names, mended_names}
use Rattle.plain_histories.proofs.Commanding.{past_count, next_has}

-- ---- opens name files along a history

pub lead_names : (s : Script) (h : List Entry) (c : Cat) (e : Entry) (d : Cat) → InForm s → IsNext s h e → OpensNameFiles c → Leads s h c e d → OpensNameFiles d
lead_names s h c (Done n x r) d form next names is = answer_names c d n x r (next_has s n h x form next.1) names is
lead_names s h c (Died n st k ns) d form next names (new, x, pick, is, may, same) =
    subst OpensNameFiles (sym same) (dead_names x n k ns.items (stage_names c x n (next_command s n h) st new names pick is))
lead_names s h c (Mended m) d form next names is = mended_names c d m names is

names_from : (s : Script) (h es : List Entry) (c d : Cat) → InForm s → OwnFrom s h es → OpensNameFiles c → ReplaysFrom s h c es d → OpensNameFiles d
names_from s h [] c d form own names is = subst OpensNameFiles (sym is) names
names_from s h (e ∷ es) c d form own names (x, leads, rest) = names_from s (h ++ e ∷ []) es x d form own.1 (lead_names s h c e x form own.0 names leads) rest

pub replay_names : (c : Cat) (s : Script) (h : List Entry) (d : Cat) → InForm s → Own s h → OpensNameFiles c → Replays c s h d → OpensNameFiles d
replay_names c s h d form own names is = names_from s [] h c d form own names is

-- ---- one's own answer

index_here : (bs : List Bool) (i : ℕ) (v : Bool) → i < length bs → slice_index_or (slice_set bs i v) i false ≡ v
index_here [] i v lt = absurd (omega arith)
index_here (b ∷ bs) zero v lt = refl
index_here (b ∷ bs) (suc i) v lt = index_here bs i v (omega arith)

index_else : (bs : List Bool) (i j : ℕ) (v : Bool) → (i ≡ j → ⊥) → slice_index_or (slice_set bs i v) j false ≡ slice_index_or bs j false
index_else [] i j v ne = refl
index_else (b ∷ bs) zero zero v ne = absurd (ne refl)
index_else (b ∷ bs) zero (suc j) v ne = refl
index_else (b ∷ bs) (suc i) zero v ne = refl
index_else (b ∷ bs) (suc i) (suc j) v ne = index_else bs i j v (λ e. ne (ap suc e))

-- channels and opens of one node, of which one is switched
one_switched : (os : List (Option Open)) (bs : List Bool) (n k chan : ℕ) (o : Option Open) → length os ≡ 64 → length bs ≡ 8 → IsChannel n k → IsChannel n chan
    → is_some (joined (slice_get os (place n chan))) ≡ slice_index_or bs (chan - 1) false
    → is_some (joined (slice_get (slice_set os (place n k) o) (place n chan))) ≡ slice_index_or (slice_set bs (k - 1) (is_some o)) (chan - 1) false
one_switched os bs n k chan o count eight mine own before = elim (same_or_other k chan) [ inl e ↦ subst At e here | inr ne ↦ there ne ] where
  At : ℕ → Type 0
  At j = is_some (joined (slice_get (slice_set os (place n k) o) (place n j))) ≡ slice_index_or (slice_set bs (k - 1) (is_some o)) (j - 1) false

  within : (l m : ℕ) → l ≡ 64 → m ≡ 8 → (place n k < l) × (k - 1 < m)
  within l m a b = let c = mine.node_to in let d = mine.to in let f = mine.from in (omega (arith, a, c, d), omega (arith, b, d, f))

  here : At k
  here =
      let w = within (length os) (length bs) count eight in
      ap (λ p. is_some (joined p)) (set_here os (place n k) o w.0) ∙ sym (index_here bs (k - 1) (is_some o) w.1)

  there : (k ≡ chan → ⊥) → At chan
  there ne =
      let apart : place n k ≡ place n chan → ⊥ = λ e. ne (same_place n k n chan mine.node_from own.node_from mine.from mine.to own.from own.to e).1 in
      let less : k - 1 ≡ chan - 1 → ⊥ = λ e. (let a = mine.from in let b = own.from in ne (omega (arith, a, b, e))) in
      ap (λ p. is_some (joined p)) (set_else os (place n k) (place n chan) o apart) ∙ (before ∙ sym (index_else bs (k - 1) (chan - 1) (is_some o) less))

low_of : (k : ℕ) → is_eighth k ≡ true → (1 ≤ k) × (k ≤ 8)
low_of k e = (low k (left (leb 1 k) (leb k 8) e), high k (right (leb 1 k) (leb k 8) e)) where
  low : (i : ℕ) → leb 1 i ≡ true → 1 ≤ i
  low i h = grind (arith, nat_tests)

  high : (i : ℕ) → leb i 8 ≡ true → i ≤ 8
  high i h = grind (arith, nat_tests)

channel_of : (n k : ℕ) → (1 ≤ n) × (n ≤ 8) → is_eighth k ≡ true → IsChannel n k
channel_of n k node e = let l = low_of k e in record { node_from = node.0; node_to = node.1; from = l.0; to = l.1 }

-- no channel is named
unswitched : (cs : List Bool) (a b : Bool) → switched (switched cs a None true) b None false ≡ cs
unswitched cs true true = refl
unswitched cs true false = refl
unswitched cs false true = refl
unswitched cs false false = refl

-- what a node's own answer makes of its channels
own_answer : (os : List (Option Open)) (p : NodePast) (n chan : ℕ) (x : Cmd) (r : Reply) → length os ≡ 64 → length p.channels ≡ 8 → (1 ≤ n) × (n ≤ 8) → has_channel_in_form x ≡ true → IsChannel n chan
    → is_some (joined (slice_get os (place n chan))) ≡ is_open_by p chan
    → is_some (joined (slice_get (opens_after os n x r) (place n chan))) ≡ is_open_by (after_answer p x r) chan
unfolding after_answer
own_answer os p n chan (cmd.OpenFile k file mode) reply.Opened count eight node form own before =
    one_switched os p.channels n k chan (Some (record { file = file.num; mode = mode })) count eight (channel_of n k node (left (is_eighth k) (is_open_mode mode) form)) own before
own_answer os p n chan (cmd.CloseFile k) (reply.Closed gone) count eight node form own before =
    one_switched os p.channels n k chan None count eight (channel_of n k node form) own before
own_answer os p n chan (cmd.OpenFile k file mode) r count eight node form own before = before
own_answer os p n chan (cmd.CloseFile k) r count eight node form own before = before
own_answer os p n chan x r count eight node form own before = before ∙ sym (ap (λ (cs : List Bool). slice_index_or cs (chan - 1) false) (unswitched p.channels (is_opened r) (is_closed r)))

-- ---- another node's entry

switched_in : (x : Cmd) (k : ℕ) → has_channel_in_form x ≡ true → switched_by x ≡ Some k → is_eighth k ≡ true
switched_in (cmd.OpenFile chan file mode) k form e = let f : chan ≡ k = (let g : Some chan ≡ Some k = e in cc) in subst (λ (i : ℕ). is_eighth i ≡ true) f (left (is_eighth chan) (is_open_mode mode) form)
switched_in (cmd.CloseFile chan) k form e = let f : chan ≡ k = (let g : Some chan ≡ Some k = e in cc) in subst (λ (i : ℕ). is_eighth i ≡ true) f form
switched_in other k form e = absurd (let f : None ≡ Some k = e in cc)

elsewhere : (m n chan : ℕ) (sw : Option ℕ) → (1 ≤ m) × (m ≤ 8) → (m ≡ n → ⊥) → ((k : ℕ) → sw ≡ Some k → is_eighth k ≡ true) → IsElsewhere m sw n chan
elsewhere m n chan sw node ne form k is = (channel_of m k node (form k is), λ same. ne same.0)

next_in : (s : Script) (m : ℕ) (h : List Entry) (k : ℕ) → InForm s → switched_next (next_command s m h) ≡ Some k → is_eighth k ≡ true
next_in s m h k form e = by_next (next_command s m h) refl e where
  by_next : (o : Option Cmd) → next_command s m h ≡ o → switched_next o ≡ Some k → is_eighth k ≡ true
  by_next None is f = absurd (let g : None ≡ Some k = f in cc)
  by_next (Some x) is f = switched_in x k (next_has s m h x form is) f

-- ---- one entry

entry_opens : (s : Script) (h : List Entry) (c : Cat) (e : Entry) (d : Cat) (n : ℕ) → InForm s → IsNext s h e → IsOfNode e → OpensNameFiles c → AreOpenBy c n (past n h)
    → (after_entry n (past n h) e).dead ≡ false → Leads s h c e d → AreOpenBy d n (after_entry n (past n h) e)
entry_opens s h c (Done m x r) d n form next node names before alive a = by_node (m == n) refl where
  has : has_channel_in_form x ≡ true
  has = next_has s m h x form next.1

  by_node : (b : Bool) → (m == n) ≡ b → AreOpenBy d n (cond b (after_answer (past n h) x r) (past n h))
  by_node true e chan own =
      let same : m ≡ n = same_number m n e in
      let mine : Answer c n x r d = subst (λ (i : ℕ). Answer c i x r d) same a in
      let here : (1 ≤ n) × (n ≤ 8) = subst (λ (i : ℕ). (1 ≤ i) × (i ≤ 8)) same node in
      ap (λ (os : List (Option Open)). is_some (joined (slice_get os (place n chan)))) (answer_moved c d n x r mine).opens
      ∙ own_answer c.opens (past n h) n chan x r names.places (past_count n h) here has own (before chan own)
  by_node false e chan own =
      let far : IsElsewhere m (switched_by x) n chan = elsewhere m n chan (switched_by x) node (other_number m n e) (λ k is. switched_in x k has is) in
      ap is_some (answer_apart c d m n chan x r own far a).still ∙ before chan own
entry_opens s h c (Died m st k ns) d n form next node names before alive (new, y, pick, is, may, same) = by_node (m == n) refl alive where
  by_node : (b : Bool) → (m == n) ≡ b → (cond b (record (past n h) { dead = true }) (past n h)).dead ≡ false → AreOpenBy d n (cond b (record (past n h) { dead = true }) (past n h))
  by_node true e no_death chan own = absurd (let f : true ≡ false = no_death in cc)
  by_node false e no_death chan own =
      let ne : m ≡ n → ⊥ = other_number m n e in
      let far : IsElsewhere m (switched_next (next_command s m h)) n chan = elsewhere m n chan (switched_next (next_command s m h)) node ne (λ i f. next_in s m h i form f) in
      ap (λ (z : Cat). is_some (channel_at z n chan)) same
      ∙ (ap is_some (dead_still y m n chan k ns.items node.0 own ne)
      ∙ (ap is_some (stage_apart c y m n chan (next_command s m h) own far (stage_kept c y m (next_command s m h) st new pick is)).still ∙ before chan own))
entry_opens s h c (Mended m) d n form next node names before alive is = absurd node

-- ---- all entries

entry_alive : (n : ℕ) (p : NodePast) (e : Entry) → (after_entry n p e).dead ≡ false → p.dead ≡ false
unfolding after_answer
entry_alive n p (Done m x r) h = by_node (m == n) h where
  by_node : (b : Bool) → (cond b (after_answer p x r) p).dead ≡ false → p.dead ≡ false
  by_node true k = k
  by_node false k = k
entry_alive n p (Died m st k ns) h = by_node (m == n) h where
  by_node : (b : Bool) → (cond b (record p { dead = true }) p).dead ≡ false → p.dead ≡ false
  by_node true k = absurd (let f : true ≡ false = k in cc)
  by_node false k = k
entry_alive n p (Mended m) h = h

was_alive : (n : ℕ) (p : NodePast) (es : List Entry) → (past_from n p es).dead ≡ false → p.dead ≡ false
was_alive n p [] h = h
was_alive n p (e ∷ es) h = entry_alive n p e (was_alive n (after_entry n p e) es h)

opens_from : (s : Script) (h es : List Entry) (c d : Cat) (n : ℕ) → InForm s → OwnFrom s h es → AreOfNodes es → OpensNameFiles c → AreOpenBy c n (past n h)
    → (past_from n (past n h) es).dead ≡ false → ReplaysFrom s h c es d → AreOpenBy d n (past_from n (past n h) es)
opens_from s h [] c d n form own nodes names before alive is = subst (λ (x : Cat). AreOpenBy x n (past n h)) (sym is) before
opens_from s h (e ∷ es) c d n form own nodes names before alive (x, leads, rest) =
    let after : past n (h ++ e ∷ []) ≡ after_entry n (past n h) e = past_grows n h e in
    let now : (after_entry n (past n h) e).dead ≡ false = was_alive n (after_entry n (past n h) e) es alive in
    let one : AreOpenBy x n (after_entry n (past n h) e) = entry_opens s h c e x n form own.0 nodes.0 names before now leads in
    subst (λ (p : NodePast). AreOpenBy d n (past_from n p es)) after
    (opens_from s (h ++ e ∷ []) es x d n form own.1 nodes.1 (lead_names s h c e x form own.0 names leads) (subst (AreOpenBy x n) (sym after) one)
    (ap (λ (p : NodePast). (past_from n p es).dead) after ∙ alive) rest)

none_open : (k j : ℕ) → is_some (joined (slice_get (replicate k (let o : Option Open = None in o)) j)) ≡ false
none_open zero j = refl
none_open (suc k) zero = refl
none_open (suc k) (suc j) = none_open k j

none_by : (k j : ℕ) → slice_index_or (replicate k false) j false ≡ false
none_by zero j = refl
none_by (suc k) zero = refl
none_by (suc k) (suc j) = none_by k j

born_open : (c : Cat) (n : ℕ) → c.opens ≡ replicate 64 None → AreOpenBy c n (past n [])
unfolding newborn
born_open c n is chan own = ap (λ (os : List (Option Open)). is_some (joined (slice_get os (place n chan)))) is ∙ (none_open 64 (place n chan) ∙ sym (none_by 8 (chan - 1)))

pub replay_opens : (c : Cat) (s : Script) (h : List Entry) (d : Cat) (n : ℕ) → InForm s → Own s h → AreOfNodes h → c.opens ≡ replicate 64 None → (past n h).dead ≡ false → Replays c s h d → AreOpenBy d n (past n h)
replay_opens c s h d n form own nodes none alive is = opens_from s [] h c d n form own nodes (closed_names c none) (born_open c n none) alive is
