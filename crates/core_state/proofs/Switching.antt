-- What the owners of locks have open while commands are under way, and after an answer.
use Rattle.std.proofs.Common.{◌≡◌, ◌≢◌, ◌≤◌, ◌<◌, ◌==◌, ◌⊎◌, ℕ, Bool, true, false, cond, List, Option, Some, None, length, slice_get, slice_set, refl, sym, ap, subst, ◌∙◌, inl, inr, arith}
use Rattle.std.proofs.lemmas.Bool.{and_parts}
use Rattle.std.proofs.lemmas.Bool.Decides.{nat_tests}
use Rattle.lock_db.specs.declared.name.Owner.{Owner}
use Rattle.lock_db.specs.declared.resource.Resource.{Resource}
use Rattle.lock_db.specs.Names.{same_owner}
use Rattle.lock_db.specs.Tables.{IsTable}
use Rattle.lock_db.proofs.Owners.{same_owner-refl, same_owner-same}
use Rattle.plain_cat.specs.InForm.{is_eighth}
use Rattle.plain_cat.specs.declared.command.Cmd.{Cmd}
use Rattle.plain_cat.specs.declared.command.Cmd.TheVariants as cmd
use Rattle.plain_cat.specs.declared.reply.Reply.{Reply}
use Rattle.plain_cat.specs.declared.cat.Cat.{Cat}
use Rattle.plain_cat.specs.declared.cat.Open.{Open}
use Rattle.plain_rules.specs.Lookups.{place, joined, channel_at}
use Rattle.plain_rules.specs.Own.{is_opened, is_closed}
use Rattle.plain_histories.specs.Moves.{switched_by, opens_after}
use Rattle.plain_histories.proofs.Moving.{kept_reply}
use Rattle.plain_histories.proofs.Having.{same_place}
use Rattle.base_words.proofs.Listing.{same_or_not}
use Rattle.base_words.proofs.ListWrites.{get-set_here, get-set_else}
use Rattle.op_law.specs.declared.need.Ask.{Ask}
use Rattle.op_law.specs.declared.seen.Chan.{Chan}
use Rattle.op_law.specs.Channels.{first_ask, close_ask}
use Rattle.op_law.specs.Knows.{has_channel}
use Rattle.core_state.specs.Worlds.{NodeState, node_at, set_node}
use Rattle.core_state.specs.Asks.{granted_ask}
use Rattle.core_state.specs.Opens.{is_channel, open_of, open_asked, open_with, asked_in, asked_at, open_now, AreOpensLocked}
use Rattle.core_state.specs.Channels.{names_in_form, channel_seen, let_go, closed_off, HasOpens}
use Rattle.core_state.proofs.Nodes.{at_here, at_else}
use Rattle.core_state.proofs.Opens.{apart, opens_same, opens_let_go, HasNoOther}
use Rattle.core_state.proofs.Channels.{IsOpenAt, open_at, channel_from, IsNodeNumber}
use Rattle.core_state.proofs.Ends.{EndsSo, Opened, Closed, Refused, NoSwitch}
use Rattle.core_state.proofs.Seeking.{not_same}

-- ---- a node that changes

asked_here : (nodes : List NodeState) (n : ℕ) (s r : NodeState) → node_at nodes n ≡ Some s → asked_at (set_node nodes n r) n ≡ granted_ask r.tried r.plan
asked_here nodes n s r at = ap asked_in (at_here nodes n r s at)

asked_else : (nodes : List NodeState) (n m : ℕ) (r : NodeState) → m ≢ n → asked_at (set_node nodes n r) m ≡ asked_at nodes m
asked_else nodes n m r ne = ap asked_in (at_else nodes n m r ne)

-- two asks leave each channel with the same open
abbrev pub AsksAlike : Option Ask → Option Ask → Type 0
AsksAlike old new = (part : ℕ) (o : Option Open) → 1 ≤ part → open_with part new o ≡ open_with part old o

-- where a node asks as it asked, each owner has open what it had
pub now_alike : (c : Cat) (nodes : List NodeState) (n : ℕ) (s r : NodeState) → node_at nodes n ≡ Some s → AsksAlike (granted_ask s.tried s.plan) (granted_ask r.tried r.plan) → (owner : Owner) → 1 ≤ owner.part → open_now c (set_node nodes n r) owner ≡ open_now c nodes owner
now_alike c nodes n s r at alike owner low = elim (same_or_not owner.node n) [ inl e ↦ here e | inr ne ↦ ap (λ a. open_with owner.part a (open_of c owner)) (asked_else nodes n owner.node r ne) ] where
  here : owner.node ≡ n → open_now c (set_node nodes n r) owner ≡ open_now c nodes owner
  here e =
      ap (λ a. open_with owner.part a (open_of c owner)) (ap (asked_at (set_node nodes n r)) e ∙ asked_here nodes n s r at)
      ∙ alike owner.part (open_of c owner) low
      ∙ sym (ap (λ a. open_with owner.part a (open_of c owner)) (ap (asked_at nodes) e ∙ ap asked_in at))

-- an ask of the file system is no channel's
pub own_with : (a : Ask) (part : ℕ) (o : Option Open) → a.chan ≡ 0 → 1 ≤ part → open_with part (Some a) o ≡ o
own_with a part o e low = ap (λ b. cond b (Some (open_asked a)) o) (zero_part a.chan part e low) where
  zero_part : (k part : ℕ) → k ≡ 0 → 1 ≤ part → (k == part) ≡ false
  zero_part k part e low = grind (arith, nat_tests)

-- an ask of one part leaves the others
pub with_else : (part : ℕ) (ask : Option Ask) (o : Option Open) → ((a : Ask) → ask ≡ Some a → a.chan ≢ part) → open_with part ask o ≡ o
with_else part None o far = refl
with_else part (Some a) o far = ap (λ b. cond b (Some (open_asked a)) o) (not_same a.chan part (far a refl))

-- and gives its own the open that it asked for
pub with_here : (a : Ask) (part : ℕ) (o : Option Open) → a.chan ≡ part → open_with part (Some a) o ≡ Some (open_asked a)
with_here a part o e = ap (λ b. cond b (Some (open_asked a)) o) (same_part a.chan part e) where
  same_part : (a b : ℕ) → a ≡ b → (a == b) ≡ true
  same_part a b e = grind (arith, nat_tests)

-- ---- by the catalogue

pub channel_test : (n chan : ℕ) → 1 ≤ n → 1 ≤ chan → chan ≤ 8 → is_channel (record { node = n; part = chan }) ≡ true
channel_test n chan a b c = grind (arith, nat_tests)

module _ (c d : Cat) (n chan : ℕ) (v : Option Open) (node : IsNodeNumber n) (low : 1 ≤ chan) (high : chan ≤ 8) (set : d.opens ≡ slice_set c.opens (place n chan) v) where
  abbrev me : Owner
  me = record { node = n; part = chan }

  is_one : is_channel me ≡ true
  is_one = channel_test n chan node.from low high

  -- the channel has this now
  pub of_here : length c.opens ≡ 64 → open_of d me ≡ v
  of_here count =
      let from = node.from in
      let to = node.to in
      let lt : place n chan < length c.opens = omega arith in
      ap (λ b. cond b (channel_at d n chan) None) is_one ∙ ap (λ os. joined (slice_get os (place n chan))) set ∙ ap joined (get-set_here c.opens (place n chan) v lt)

  -- and each other what it had
  pub of_else : (owner : Owner) → same_owner me owner ≡ false → open_of d owner ≡ open_of c owner
  of_else owner far = by_channel (is_channel owner) refl where
    parts : is_channel owner ≡ true → (1 ≤ owner.node) × (1 ≤ owner.part) × (owner.part ≤ 8)
    parts e = (one owner e, two owner e, three owner e) where
      one : (o : Owner) → is_channel o ≡ true → 1 ≤ o.node
      one o e = grind (arith, nat_tests)

      two : (o : Owner) → is_channel o ≡ true → 1 ≤ o.part
      two o e = grind (arith, nat_tests)

      three : (o : Owner) → is_channel o ≡ true → o.part ≤ 8
      three o e = grind (arith, nat_tests)

    elsewhere : is_channel owner ≡ true → place n chan ≡ place owner.node owner.part → ⊥
    elsewhere is k =
        let p = parts is in
        let same = same_place n chan owner.node owner.part node.from p.0 low high p.1 p.2 k in
        let one : me ≡ owner = λ i. record { node = same.0 i; part = same.1 i } in
        let yes : same_owner me owner ≡ true = ap (λ (w : Owner). same_owner w owner) one ∙ same_owner-refl owner in
        absurd (let g : true ≡ false = sym yes ∙ far in cc)

    by_channel : (b : Bool) → is_channel owner ≡ b → cond b (channel_at d owner.node owner.part) None ≡ cond b (channel_at c owner.node owner.part) None
    by_channel true is = ap (λ os. joined (slice_get os (place owner.node owner.part))) set ∙ ap joined (get-set_else c.opens (place n chan) (place owner.node owner.part) v (elsewhere is))
    by_channel false is = refl

pub of_same : (c d : Cat) → d.opens ≡ c.opens → (owner : Owner) → open_of d owner ≡ open_of c owner
of_same c d same owner = ap (λ os. cond (is_channel owner) (joined (slice_get os (place owner.node owner.part))) None) same

-- ---- after an answer of node n

pub far_part : (n chan : ℕ) (owner : Owner) → same_owner (record { node = n; part = chan }) owner ≡ false → owner.node ≡ n → chan ≢ owner.part
far_part n chan owner far e f =
    let one : record { node = n; part = chan } ≡ owner = λ i. record { node = sym e i; part = f i } in
    let yes : same_owner (record { node = n; part = chan }) owner ≡ true = ap (λ (w : Owner). same_owner w owner) one ∙ same_owner-refl owner in
    absurd (let g : true ≡ false = sym yes ∙ far in cc)

module _ (c d : Cat) (nodes : List NodeState) (n : ℕ) (s r : NodeState) (at : node_at nodes n ≡ Some s) (rests : granted_ask r.tried r.plan ≡ None) where
  abbrev ask : Option Ask
  ask = granted_ask s.tried s.plan

  ask_is : asked_at nodes n ≡ ask
  ask_is = ap asked_in at

  -- it asks no more: its channels have open what the catalogue says
  now_own : (owner : Owner) → owner.node ≡ n → open_now d (set_node nodes n r) owner ≡ open_of d owner
  now_own owner e = ap (λ a. open_with owner.part a (open_of d owner)) (ap (asked_at (set_node nodes n r)) e ∙ asked_here nodes n s r at ∙ rests)

  -- each owner but the one that had asked has open what it had
  now_else : (chan : ℕ) → ((a : Ask) → ask ≡ Some a → a.chan ≡ chan) → (owner : Owner) → same_owner (record { node = n; part = chan }) owner ≡ false → open_of d owner ≡ open_of c owner → open_now d (set_node nodes n r) owner ≡ open_now c nodes owner
  now_else chan by owner far same = elim (same_or_not owner.node n) [ inl e ↦ own e | inr ne ↦ other ne ] where
    own : owner.node ≡ n → open_now d (set_node nodes n r) owner ≡ open_now c nodes owner
    own e = now_own owner e ∙ same ∙ sym (ap (λ a. open_with owner.part a (open_of c owner)) (ap (asked_at nodes) e ∙ ask_is)
        ∙ with_else owner.part ask (open_of c owner) (λ a f k. far_part n chan owner far e (sym (by a f) ∙ k)))

    other : owner.node ≢ n → open_now d (set_node nodes n r) owner ≡ open_now c nodes owner
    other ne = (λ i. open_with owner.part (asked_else nodes n owner.node r ne i) (same i))

  -- where no channel is switched
  all_alike : ((a : Ask) → ask ≡ Some a → a.chan ≡ 0) → d.opens ≡ c.opens → (owner : Owner) → 1 ≤ owner.part → open_now d (set_node nodes n r) owner ≡ open_now c nodes owner
  all_alike own same owner low = now_else 0 own owner (apart n owner low) (of_same c d same owner)

  -- ---- how the locks of channels stand

  module _ (x : Cmd) (reply : Reply) (t : List Resource) (table : IsTable t) (opens : AreOpensLocked t (open_now c nodes)) (moved : d.opens ≡ opens_after c.opens n x reply) (count : length c.opens ≡ 64) (node : IsNodeNumber n)
      (form : names_in_form x ≡ true) (has : HasOpens c n s.opens) where
    abbrev had : Option Chan
    had = channel_seen s.opens x

    unswitched : (y : Cmd) → switched_by y ≡ None → closed_off n had y reply t ≡ t
    unswitched (cmd.CloseFile chan) e = absurd (let f : Some chan ≡ None = e in cc)
    unswitched other e = refl

    unmoved : (y : Cmd) (os : List (Option Open)) → switched_by y ≡ None → opens_after os n y reply ≡ os
    unmoved (cmd.OpenFile chan file mode) os e = absurd (let f : Some chan ≡ None = e in cc)
    unmoved (cmd.CloseFile chan) os e = absurd (let f : Some chan ≡ None = e in cc)
    unmoved other os e = refl

    unclosed : (y : Cmd) → is_closed reply ≡ false → closed_off n had y reply t ≡ t
    unclosed (cmd.CloseFile chan) e = ap (λ b. cond b (let_go n chan had t) t) e
    unclosed other e = refl

    by_chan : (a : Ask) (chan : ℕ) (p : Chan) → ask ≡ Some a → (ask ≡ None) ⊎ (ask ≡ Some (close_ask p.file.num chan)) → a.chan ≡ chan
    by_chan a chan p e (inl none) = absurd (let f : None ≡ Some a = sym none ∙ e in cc)
    by_chan a chan p e (inr some) = let f : Some (close_ask p.file.num chan) ≡ Some a = sym some ∙ e in let g : close_ask p.file.num chan ≡ a = cc in ap (λ (z : Ask). z.chan) (sym g)

    -- the channel of a close has the file open, by the catalogue or by its ask
    mine : (chan : ℕ) (p : Chan) → 1 ≤ chan → chan ≤ 8 → IsOpenAt c n chan p → (ask ≡ None) ⊎ (ask ≡ Some (close_ask p.file.num chan)) → HasNoOther (open_now c nodes (record { node = n; part = chan })) p.file.num
    mine chan p low high o (inl none) = subst (λ (w : Option Open). HasNoOther w p.file.num)
        (sym (ap (λ a. open_with chan a (open_of c (record { node = n; part = chan }))) (ask_is ∙ none) ∙ ap (λ b. cond b (channel_at c n chan) None) (channel_test n chan node.from low high) ∙ o.at)) o.file
    mine chan p low high o (inr some) = subst (λ (w : Option Open). HasNoOther w p.file.num)
        (sym (ap (λ a. open_with chan a (open_of c (record { node = n; part = chan }))) (ask_is ∙ some) ∙ with_here (close_ask p.file.num chan) chan (open_of c (record { node = n; part = chan })) refl)) refl

    pub locks_go_on : EndsSo x had ask reply → AreOpensLocked (closed_off n had x reply t) (open_now d (set_node nodes n r))
    locks_go_on (Opened o) =
        let its : is_eighth o.chan ≡ true = (and_parts (is_eighth o.chan) _ (subst (λ (y : Cmd). names_in_form y ≡ true) o.is form)).0 in
        let k = channel_from o.chan its in
        let set : d.opens ≡ slice_set c.opens (place n o.chan) (Some (record { file = o.file.num; mode = o.mode })) = moved ∙ (λ i. opens_after c.opens n (o.is i) (o.reply i)) in
        let me : Owner = record { node = n; part = o.chan } in
        let its_ask = o.ask_is in
        let here : open_now d (set_node nodes n r) me ≡ open_now c nodes me
        = now_own me refl ∙ of_here c d n o.chan (Some (record { file = o.file.num; mode = o.mode })) node k.0 k.1 set count
        ∙ sym (ap (λ a. open_with o.chan a (open_of c me)) (ask_is ∙ its_ask) ∙ with_here (first_ask o.file.num o.chan o.mode) o.chan (open_of c me) refl) in
        let by : (a : Ask) → ask ≡ Some a → a.chan ≡ o.chan = λ a e. asks_here a o.chan (first_ask o.file.num o.chan o.mode) (sym its_ask ∙ e) refl in
        let same : (owner : Owner) → 1 ≤ owner.part → open_now d (set_node nodes n r) owner ≡ open_now c nodes owner
        = λ owner low. by_owner me owner here (λ far. now_else o.chan by owner far (of_else c d n o.chan (Some (record { file = o.file.num; mode = o.mode })) node k.0 k.1 set owner far)) in
        subst (λ (u : List Resource). AreOpensLocked u (open_now d (set_node nodes n r))) (sym (unclosed x (ap is_closed o.reply))) (opens_same t (open_now c nodes) (open_now d (set_node nodes n r)) same opens) where
          asks_here : (a : Ask) (chan : ℕ) (b : Ask) → Some b ≡ Some a → b.chan ≡ chan → a.chan ≡ chan
          asks_here a chan b e f = let g : b ≡ a = cc in ap (λ (z : Ask). z.chan) (sym g) ∙ f

          by_owner : (me owner : Owner) → open_now d (set_node nodes n r) me ≡ open_now c nodes me → (same_owner me owner ≡ false → open_now d (set_node nodes n r) owner ≡ open_now c nodes owner) → open_now d (set_node nodes n r) owner ≡ open_now c nodes owner
          by_owner me owner here there = by_test (same_owner me owner) refl where
            by_test : (b : Bool) → same_owner me owner ≡ b → open_now d (set_node nodes n r) owner ≡ open_now c nodes owner
            by_test true e = subst (λ (w : Owner). open_now d (set_node nodes n r) w ≡ open_now c nodes w) (same_owner-same me owner e) here
            by_test false e = there e
    locks_go_on (Closed o) =
        let its : is_eighth o.chan ≡ true = subst (λ (y : Cmd). names_in_form y ≡ true) o.is form in
        let k = channel_from o.chan its in
        let set : d.opens ≡ slice_set c.opens (place n o.chan) None = moved ∙ (λ i. opens_after c.opens n (o.is i) (o.reply i)) in
        let me : Owner = record { node = n; part = o.chan } in
        let off : closed_off n had x reply t ≡ let_go n o.chan (Some o.had) t = (λ i. closed_off n (o.has i) (o.is i) (o.reply i) t) in
        let seen : channel_seen s.opens (cmd.CloseFile o.chan) ≡ Some o.had = ap (channel_seen s.opens) (sym o.is) ∙ o.has in
        let open_there : IsOpenAt c n o.chan o.had = open_at c n o.chan o.had (sym (ap (has_channel c n (Some o.chan)) seen) ∙ has.each o.chan k.0 k.1) in
        let by : (a : Ask) → ask ≡ Some a → a.chan ≡ o.chan = λ a e. by_chan a o.chan o.had e o.ask_is in
        subst (λ (u : List Resource). AreOpensLocked u (open_now d (set_node nodes n r))) (sym off)
        (opens_let_go t n o.chan (Some o.had) (open_now c nodes) (open_now d (set_node nodes n r)) table opens
        (λ p e. let f : Some o.had ≡ Some p = e in let g : o.had ≡ p = cc in subst (λ (q : Chan). HasNoOther (open_now c nodes me) q.file.num) g (mine o.chan o.had k.0 k.1 open_there o.ask_is))
        (λ e. absurd (let f : Some o.had ≡ None = e in cc))
        (now_own me refl ∙ of_here c d n o.chan None node k.0 k.1 set count)
        (λ owner far. now_else o.chan by owner far (of_else c d n o.chan None node k.0 k.1 set owner far)))
    locks_go_on (Refused o) =
        let same : d.opens ≡ c.opens = moved ∙ kept_reply c.opens n x reply (ap is_opened o.reply) (ap is_closed o.reply) in
        subst (λ (u : List Resource). AreOpensLocked u (open_now d (set_node nodes n r))) (sym (unclosed x (ap is_closed o.reply)))
        (opens_same t (open_now c nodes) (open_now d (set_node nodes n r)) (all_alike (λ a e. absurd (let f : None ≡ Some a = sym o.none ∙ e in cc)) same) opens)
    locks_go_on (NoSwitch o) =
        let same : d.opens ≡ c.opens = moved ∙ unmoved x c.opens o.none in
        subst (λ (u : List Resource). AreOpensLocked u (open_now d (set_node nodes n r))) (sym (unswitched x o.none))
        (opens_same t (open_now c nodes) (open_now d (set_node nodes n r)) (all_alike o.own same) opens)
