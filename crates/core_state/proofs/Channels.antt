-- What the channels of nodes have open, by the nodes and by the catalogue.
use Rattle.std.proofs.Common.{◌≡◌, ◌≢◌, ◌≤◌, ◌<◌, ◌-◌, ◌&&◌, ◌==◌, ◌⊎◌, inl, inr, ℕ, zero, suc, Bool, true, false, cond, List, [], ◌∷◌, Option, Some, None, length, map, slice_get, slice_set, refl, sym, ap, subst, ◌∙◌, arith}
use Rattle.std.specs.Prelude.{is_some, is_none, replicate, slice_index_or, nat_lt, leb}
use Rattle.std.specs.List.{list_all}
use Rattle.std.proofs.lemmas.Bool.{and_parts}
use Rattle.std.proofs.lemmas.Bool.Decides.{nat_tests}
use Rattle.plain_cat.specs.Modes.{rank}
use Rattle.plain_cat.specs.InForm.{is_eighth}
use Rattle.plain_cat.specs.declared.command.Cmd.{Cmd}
use Rattle.plain_cat.specs.declared.command.Cmd.TheVariants as cmd
use Rattle.plain_cat.specs.declared.reply.Reply.{Reply}
use Rattle.plain_cat.specs.declared.reply.Reply.TheVariants as reply
use Rattle.plain_cat.specs.declared.cat.Cat.{Cat}
use Rattle.plain_cat.specs.declared.cat.File.{File}
use Rattle.plain_cat.specs.declared.cat.Open.{Open}
use Rattle.plain_rules.specs.Lookups.{in_use, joined, place, channel_at}
use Rattle.plain_rules.specs.Answers.{Answer}
use Rattle.plain_rules.specs.Own.{NodePast, is_opened, opened_by, is_closed, closed_by, switched, channels_after}
use Rattle.plain_histories.specs.Opens.{IsChannel, OpensNameFiles, has_open, is_open_as as open_as}
use Rattle.plain_rules.specs.Opens.{is_plain_file as plain_file}
use Rattle.plain_rules.specs.Opens.{is_held_open as held_open}
use Rattle.plain_histories.specs.Moves.{switched_by, IsElsewhere}
use Rattle.plain_histories.proofs.Having.{opened_by_answer}
use Rattle.plain_histories.proofs.Keeping.{answer_apart, answer_keeps, opened_has, closed_has, others_stay, others_keep}
use Rattle.plain_histories.proofs.Naming.{all_held}
use Rattle.op_law.specs.declared.need.Ask.{Ask}
use Rattle.op_law.specs.declared.seen.Chan.{Chan}
use Rattle.op_law.specs.Knows.{channel_of, has_channel, is_open_as}
use Rattle.plain_rules.specs.Opens.{is_plain_file}
use Rattle.plain_rules.specs.Opens.{goes_with}
use Rattle.plain_rules.specs.Opens.{is_held_open}
use Rattle.core_state.specs.Channels.{names_in_form, opened, channel_seen, opens_then, HasOpens}
use Rattle.core_state.proofs.Opens.{none_open}
use Rattle.core_state.proofs.Ends.{EndsSo, Opened, Closed, Refused, NoSwitch}
use Rattle.op_law.proofs.Opens.{none_is}

-- ---- the words of the catalogue's laws

same_plain : (f : Option File) → is_plain_file f ≡ plain_file f
same_plain None = refl
same_plain (Some f) = refl

same_open : (c : Cat) (n chan : ℕ) (p : Chan) (o : Option Open) → is_open_as c n chan p o ≡ open_as c n chan p.file p.mode o
same_open c n chan p None = refl
same_open c n chan p (Some o) = ap (λ b. (o.file == p.file.num) && ((rank o.mode == rank p.mode) && (goes_with c n chan o.file o.mode && (nat_lt 11 p.file.num && b)))) (same_plain (in_use c p.file))

pub as_open : (c : Cat) (n chan : ℕ) (p : Chan) → has_channel c n (Some chan) (Some p) ≡ has_open c n chan p.file p.mode
as_open c n chan p = same_open c n chan p (channel_at c n chan)

same_held : (o : Option Open) → is_held_open o ≡ held_open o
same_held None = refl
same_held (Some o) = refl

all_same_held : (os : List (Option Open)) → list_all is_held_open os ≡ list_all held_open os
all_same_held [] = refl
all_same_held (o ∷ os) = (λ i. same_held o i && all_same_held os i)

-- no open goes with every mode
pub opens_hold : (c : Cat) → OpensNameFiles c → list_all is_held_open c.opens ≡ true
opens_hold c named = all_same_held c.opens ∙ all_held c named

-- ---- what a channel has open

-- nothing
pub closed_at : (c : Cat) (n chan : ℕ) → has_channel c n (Some chan) None ≡ true → channel_at c n chan ≡ None
closed_at c n chan e = none_is (channel_at c n chan) e

-- or a file in a mode
pub record IsOpenAt (c : Cat) (n chan : ℕ) (p : Chan) : Type 0 where
  pub open_is : Open
  pub at : channel_at c n chan ≡ Some open_is
  pub file : open_is.file ≡ p.file.num
  pub mode : rank open_is.mode ≡ rank p.mode

pub open_at : (c : Cat) (n chan : ℕ) (p : Chan) → has_channel c n (Some chan) (Some p) ≡ true → IsOpenAt c n chan p
open_at c n chan p e = by_open (channel_at c n chan) refl e where
  same : (a b : ℕ) → (a == b) ≡ true → a ≡ b
  same a b e = grind (arith, nat_tests)

  by_open : (o : Option Open) → channel_at c n chan ≡ o → is_open_as c n chan p o ≡ true → IsOpenAt c n chan p
  by_open None at f = absurd (let g : false ≡ true = f in cc)
  by_open (Some o) at f =
      let a = and_parts (o.file == p.file.num) _ f in
      let b = and_parts (rank o.mode == rank p.mode) _ a.1 in
      record { open_is = o; at = at; file = same o.file p.file.num a.0; mode = same (rank o.mode) (rank p.mode) b.0 }

pub channel_from : (chan : ℕ) → is_eighth chan ≡ true → (1 ≤ chan) × (chan ≤ 8)
channel_from chan e = let p = and_parts (leb 1 chan) (leb chan 8) e in (low chan p.0, high chan p.1) where
  low : (k : ℕ) → leb 1 k ≡ true → 1 ≤ k
  low k e = grind (arith, nat_tests)

  high : (k : ℕ) → leb k 8 ≡ true → k ≤ 8
  high k e = grind (arith, nat_tests)

-- the channel that a command names has open what the node has
pub channel_known : (c : Cat) (n : ℕ) (opens : List (Option Chan)) (x : Cmd) → names_in_form x ≡ true → HasOpens c n opens → has_channel c n (channel_of x) (channel_seen opens x) ≡ true
channel_known c n opens (cmd.Lookup reg dir name ver) form h = refl
channel_known c n opens (cmd.List dir) form h = refl
channel_known c n opens (cmd.Stat file) form h = refl
channel_known c n opens (cmd.Create reg dir name ver blocks owner) form h = refl
channel_known c n opens (cmd.MkDir reg dir name owner) form h = refl
channel_known c n opens (cmd.Extend file blocks) form h = refl
channel_known c n opens (cmd.Trunc file blocks) form h = refl
channel_known c n opens (cmd.Delete dir name ver) form h = refl
channel_known c n opens (cmd.Rename dir name ver to to_ver) form h = refl
channel_known c n opens (cmd.OpenFile chan file mode) form h = let k = channel_from chan (and_parts (is_eighth chan) _ form).0 in h.each chan k.0 k.1
channel_known c n opens (cmd.CloseFile chan) form h = let k = channel_from chan form in h.each chan k.0 k.1
channel_known c n opens (cmd.ReadBlock chan vbn) form h = let k = channel_from chan form in h.each chan k.0 k.1
channel_known c n opens (cmd.WriteBlock chan vbn text) form h = let k = channel_from chan form in h.each chan k.0 k.1
channel_known c n opens (cmd.QuotaSet owner quota over) form h = refl
channel_known c n opens (cmd.QuotaShow owner) form h = refl

-- ---- where nothing is open

pub none_there : (k j : ℕ) → slice_index_or (replicate k (let o : Option Chan = None in o)) j None ≡ None
none_there zero j = refl
none_there (suc k) zero = refl
none_there (suc k) (suc j) = none_there k j

pub none_opened : (c : Cat) (k n : ℕ) → c.opens ≡ replicate k None → HasOpens c n (replicate 8 None)
none_opened c k n is = record {
  count = refl;
  each = λ chan low high. ap (has_channel c n (Some chan)) (none_there 8 (chan - 1)) ∙ ap is_none (ap (λ os. joined (slice_get os (place n chan))) is ∙ none_open k (place n chan));
}

-- ---- after an answer

length_set : {A : Type 0} (xs : List A) (k : ℕ) (x : A) → length (slice_set xs k x) ≡ length xs
length_set [] k x = refl
length_set (y ∷ xs) zero x = refl
length_set (y ∷ xs) (suc k) x = ap suc (length_set xs k x)

index_here : {A : Type 0} (xs : List A) (k : ℕ) (x d : A) → k < length xs → slice_index_or (slice_set xs k x) k d ≡ x
index_here [] k x d lt = absurd (omega arith)
index_here (y ∷ xs) zero x d lt = refl
index_here (y ∷ xs) (suc k) x d lt = index_here xs k x d (omega arith)

index_else : {A : Type 0} (xs : List A) (k j : ℕ) (x d : A) → k ≢ j → slice_index_or (slice_set xs k x) j d ≡ slice_index_or xs j d
index_else [] k j x d ne = refl
index_else (y ∷ xs) zero zero x d ne = absurd (ne refl)
index_else (y ∷ xs) zero (suc j) x d ne = refl
index_else (y ∷ xs) (suc k) zero x d ne = refl
index_else (y ∷ xs) (suc k) (suc j) x d ne = index_else xs k j x d (λ e. ne (ap suc e))

map_set : (xs : List (Option Chan)) (k : ℕ) (x : Option Chan) → map is_some (slice_set xs k x) ≡ slice_set (map is_some xs) k (is_some x)
map_set [] k x = refl
map_set (y ∷ xs) zero x = refl
map_set (y ∷ xs) (suc k) x = ap (λ ys. is_some y ∷ ys) (map_set xs k x)

-- two numbers are one or not
same_or_else : (a b : ℕ) → (a ≡ b) ⊎ (a ≢ b)
same_or_else a b = by_test (a == b) refl where
  same : (a == b) ≡ true → a ≡ b
  same e = grind (arith, nat_tests)

  other : (a == b) ≡ false → a ≢ b
  other e f = grind (arith, nat_tests)

  by_test : (t : Bool) → (a == b) ≡ t → (a ≡ b) ⊎ (a ≢ b)
  by_test true e = inl (same e)
  by_test false e = inr (other e)

apart_before : (a b : ℕ) → 1 ≤ a → 1 ≤ b → a ≢ b → a - 1 ≢ b - 1
apart_before a b la lb ne e = ne (omega arith)

-- a channel other than that which a command switches has open what it had
pub still_has : (c d : Cat) (m n chan : ℕ) (x : Cmd) (r : Reply) (p : Option Chan) → IsChannel n chan → IsElsewhere m (switched_by x) n chan → Answer c m x r d → has_channel c n (Some chan) p ≡ true → has_channel d n (Some chan) p ≡ true
still_has c d m n chan x r None is far a e = ap is_none ((answer_apart c d m n chan x r is far a).still) ∙ e
still_has c d m n chan x r (Some p) is far a e = as_open d n chan p ∙ answer_keeps c d m n chan x r p.file p.mode is far a (sym (as_open c n chan p) ∙ e)

-- and so has each where the reply switches none
pub still_all : (c d : Cat) (m n chan : ℕ) (x : Cmd) (r : Reply) (p : Option Chan) → is_opened r ≡ false → is_closed r ≡ false → IsChannel n chan → Answer c m x r d → has_channel c n (Some chan) p ≡ true → has_channel d n (Some chan) p ≡ true
still_all c d m n chan x r None no_open no_close is a e = ap (λ os. is_none (joined (slice_get os (place n chan)))) (others_stay c d m x r no_open no_close a) ∙ e
still_all c d m n chan x r (Some p) no_open no_close is a e = as_open d n chan p ∙ others_keep c d m n chan x r p.file p.mode no_open no_close is a (sym (as_open c n chan p) ∙ e)

-- the node of a channel, of nodes from 1 to 8
pub record IsNodeNumber (n : ℕ) : Type 0 where
  pub from : 1 ≤ n
  pub to : n ≤ 8

pub channel_is : (n chan : ℕ) → IsNodeNumber n → 1 ≤ chan → chan ≤ 8 → IsChannel n chan
channel_is n chan node low high = record { node_from = node.from; node_to = node.to; from = low; to = high }

no_switch : (x : Cmd) (opens : List (Option Chan)) (r : Reply) → switched_by x ≡ None → opens_then opens x r ≡ opens
no_switch (cmd.Lookup reg dir name ver) opens r none = refl
no_switch (cmd.List dir) opens r none = refl
no_switch (cmd.Stat file) opens r none = refl
no_switch (cmd.Create reg dir name ver blocks owner) opens r none = refl
no_switch (cmd.MkDir reg dir name owner) opens r none = refl
no_switch (cmd.Extend file blocks) opens r none = refl
no_switch (cmd.Trunc file blocks) opens r none = refl
no_switch (cmd.Delete dir name ver) opens r none = refl
no_switch (cmd.Rename dir name ver to to_ver) opens r none = refl
no_switch (cmd.OpenFile chan file mode) opens r none = absurd (let f : Some chan ≡ None = none in cc)
no_switch (cmd.CloseFile chan) opens r none = absurd (let f : Some chan ≡ None = none in cc)
no_switch (cmd.ReadBlock chan vbn) opens r none = refl
no_switch (cmd.WriteBlock chan vbn text) opens r none = refl
no_switch (cmd.QuotaSet owner quota over) opens r none = refl
no_switch (cmd.QuotaShow owner) opens r none = refl

no_reply : (x : Cmd) (opens : List (Option Chan)) (r : Reply) → is_opened r ≡ false → is_closed r ≡ false → opens_then opens x r ≡ opens
no_reply (cmd.Lookup reg dir name ver) opens r e f = refl
no_reply (cmd.List dir) opens r e f = refl
no_reply (cmd.Stat file) opens r e f = refl
no_reply (cmd.Create reg dir name ver blocks owner) opens r e f = refl
no_reply (cmd.MkDir reg dir name owner) opens r e f = refl
no_reply (cmd.Extend file blocks) opens r e f = refl
no_reply (cmd.Trunc file blocks) opens r e f = refl
no_reply (cmd.Delete dir name ver) opens r e f = refl
no_reply (cmd.Rename dir name ver to to_ver) opens r e f = refl
no_reply (cmd.OpenFile chan file mode) opens r e f = ap (λ b. cond b (slice_set opens (chan - 1) (Some (record { file = file; mode = mode }))) opens) e
no_reply (cmd.CloseFile chan) opens r e f = ap (λ b. cond b (slice_set opens (chan - 1) None) opens) f
no_reply (cmd.ReadBlock chan vbn) opens r e f = refl
no_reply (cmd.WriteBlock chan vbn text) opens r e f = refl
no_reply (cmd.QuotaSet owner quota over) opens r e f = refl
no_reply (cmd.QuotaShow owner) opens r e f = refl

module _ (c d : Cat) (n : ℕ) (opens : List (Option Chan)) (x : Cmd) (r : Reply) (a : Answer c n x r d) (node : IsNodeNumber n) (form : names_in_form x ≡ true) (named : OpensNameFiles c) (h : HasOpens c n opens) where
  -- a channel is set to what the catalogue has
  set_one : (chan : ℕ) (p : Option Chan) → 1 ≤ chan → chan ≤ 8 → switched_by x ≡ Some chan → has_channel d n (Some chan) p ≡ true → HasOpens d n (slice_set opens (chan - 1) p)
  set_one chan p low high switched there = record { count = length_set opens (chan - 1) p ∙ h.count; each = λ k from to. elim (same_or_else chan k) [ inl e ↦ here k e | inr ne ↦ apart_one k from to ne ] } where
    here : (k : ℕ) → chan ≡ k → has_channel d n (Some k) (opened (slice_set opens (chan - 1) p) k) ≡ true
    here k e = subst (λ (j : ℕ). has_channel d n (Some j) (opened (slice_set opens (chan - 1) p) j) ≡ true) e
        (ap (has_channel d n (Some chan)) (index_here opens (chan - 1) p None (let count = h.count in omega arith)) ∙ there)

    apart_one : (k : ℕ) → 1 ≤ k → k ≤ 8 → chan ≢ k → has_channel d n (Some k) (opened (slice_set opens (chan - 1) p) k) ≡ true
    apart_one k from to ne = ap (has_channel d n (Some k)) (index_else opens (chan - 1) (k - 1) p None (apart_before chan k low from ne))
        ∙ still_has c d n n k x r (opened opens k) (channel_is n k node from to) (λ j e. let f : Some chan ≡ Some j = sym switched ∙ e in let g : chan ≡ j = cc in (subst (IsChannel n) g (channel_is n chan node low high), λ both. absurd (ne (g ∙ both.1)))) a (h.each k from to)

  all_still : opens_then opens x r ≡ opens → ((chan : ℕ) → 1 ≤ chan → chan ≤ 8 → has_channel d n (Some chan) (opened opens chan) ≡ true) → HasOpens d n (opens_then opens x r)
  all_still same each = subst (HasOpens d n) (sym same) (record { count = h.count; each = each })

  -- the node goes on to have open what the catalogue says
  pub opens_go_on : (channel : Option Chan) (ask : Option Ask) → EndsSo x channel ask r → HasOpens d n (opens_then opens x r)
  opens_go_on channel ask (Opened o) =
      let its : is_eighth o.chan ≡ true = (and_parts (is_eighth o.chan) _ (subst (λ (y : Cmd). names_in_form y ≡ true) o.is form)).0 in
      let k = channel_from o.chan its in
      let after : opens_then opens x r ≡ slice_set opens (o.chan - 1) (Some (record { file = o.file; mode = o.mode })) = λ i. opens_then opens (o.is i) (o.reply i) in
      let answer : Answer c n (cmd.OpenFile o.chan o.file o.mode) reply.Opened d = subst (λ (y : Cmd). Answer c n y reply.Opened d) o.is (subst (λ (q : Reply). Answer c n x q d) o.reply a) in
      let has : has_open d n o.chan o.file o.mode ≡ true = opened_has c d n o.chan o.file o.mode (channel_is n o.chan node k.0 k.1) named.places (opened_by_answer c d n o.chan o.file o.mode answer) in
      subst (HasOpens d n) (sym after) (set_one o.chan (Some (record { file = o.file; mode = o.mode })) k.0 k.1 (ap switched_by o.is) (as_open d n o.chan (record { file = o.file; mode = o.mode }) ∙ has))
  opens_go_on channel ask (Closed o) =
      let its : is_eighth o.chan ≡ true = subst (λ (y : Cmd). names_in_form y ≡ true) o.is form in
      let k = channel_from o.chan its in
      let after : opens_then opens x r ≡ slice_set opens (o.chan - 1) None = λ i. opens_then opens (o.is i) (o.reply i) in
      let answer : Answer c n (cmd.CloseFile o.chan) (reply.Closed o.gone) d = subst (λ (y : Cmd). Answer c n y (reply.Closed o.gone) d) o.is (subst (λ (q : Reply). Answer c n x q d) o.reply a) in
      subst (HasOpens d n) (sym after) (set_one o.chan None k.0 k.1 (ap switched_by o.is) (ap is_none (closed_has c d n o.chan o.gone answer)))
  opens_go_on channel ask (Refused o) = all_still (no_reply x opens r (ap is_opened o.reply) (ap is_closed o.reply))
      (λ chan low high. still_all c d n n chan x r (opened opens chan) (ap is_opened o.reply) (ap is_closed o.reply) (channel_is n chan node low high) a (h.each chan low high))
  opens_go_on channel ask (NoSwitch o) = all_still (no_switch x opens r o.none)
      (λ chan low high. still_has c d n n chan x r (opened opens chan) (channel_is n chan node low high) (λ k e. let f : None ≡ Some k = sym o.none ∙ e in absurd (cc)) a (h.each chan low high))

  -- and so do the others
  pub others_go_on : (m : ℕ) (theirs : List (Option Chan)) → IsNodeNumber m → m ≢ n → HasOpens c m theirs → HasOpens d m theirs
  others_go_on m theirs number ne o = record {
    count = o.count;
    each = λ chan low high. still_has c d n m chan x r (opened theirs chan) (channel_is m chan number low high) (λ k e. (switches k e x refl, λ both. ne (sym both.0))) a (o.each chan low high);
  } where
    switches : (k : ℕ) → switched_by x ≡ Some k → (y : Cmd) → x ≡ y → IsChannel n k
    switches k e (cmd.OpenFile chan file mode) is =
        let f : Some chan ≡ Some k = sym (ap switched_by is) ∙ e in
        let g : chan ≡ k = cc in
        let its = channel_from chan (and_parts (is_eighth chan) _ (subst (λ (y : Cmd). names_in_form y ≡ true) is form)).0 in
        subst (IsChannel n) g (channel_is n chan node its.0 its.1)
    switches k e (cmd.CloseFile chan) is =
        let f : Some chan ≡ Some k = sym (ap switched_by is) ∙ e in
        let g : chan ≡ k = cc in
        let its = channel_from chan (subst (λ (y : Cmd). names_in_form y ≡ true) is form) in
        subst (IsChannel n) g (channel_is n chan node its.0 its.1)
    switches k e (cmd.Lookup reg dir name ver) is = absurd (let f : None ≡ Some k = sym (ap switched_by is) ∙ e in cc)
    switches k e (cmd.List dir) is = absurd (let f : None ≡ Some k = sym (ap switched_by is) ∙ e in cc)
    switches k e (cmd.Stat file) is = absurd (let f : None ≡ Some k = sym (ap switched_by is) ∙ e in cc)
    switches k e (cmd.Create reg dir name ver blocks owner) is = absurd (let f : None ≡ Some k = sym (ap switched_by is) ∙ e in cc)
    switches k e (cmd.MkDir reg dir name owner) is = absurd (let f : None ≡ Some k = sym (ap switched_by is) ∙ e in cc)
    switches k e (cmd.Extend file blocks) is = absurd (let f : None ≡ Some k = sym (ap switched_by is) ∙ e in cc)
    switches k e (cmd.Trunc file blocks) is = absurd (let f : None ≡ Some k = sym (ap switched_by is) ∙ e in cc)
    switches k e (cmd.Delete dir name ver) is = absurd (let f : None ≡ Some k = sym (ap switched_by is) ∙ e in cc)
    switches k e (cmd.Rename dir name ver to to_ver) is = absurd (let f : None ≡ Some k = sym (ap switched_by is) ∙ e in cc)
    switches k e (cmd.ReadBlock chan vbn) is = absurd (let f : None ≡ Some k = sym (ap switched_by is) ∙ e in cc)
    switches k e (cmd.WriteBlock chan vbn text) is = absurd (let f : None ≡ Some k = sym (ap switched_by is) ∙ e in cc)
    switches k e (cmd.QuotaSet owner quota over) is = absurd (let f : None ≡ Some k = sym (ap switched_by is) ∙ e in cc)
    switches k e (cmd.QuotaShow owner) is = absurd (let f : None ≡ Some k = sym (ap switched_by is) ∙ e in cc)

-- ---- by the answers

switched_none : (channels : List Bool) (does value : Bool) → switched channels does None value ≡ channels
switched_none channels true value = refl
switched_none channels false value = refl

-- the channels of a command that switches none
pub stays_closed : (x : Cmd) → switched_by x ≡ None → (channels : List Bool) (r : Reply) → channels_after channels x r ≡ channels
stays_closed x none channels r =
    (λ i. switched (switched channels (is_opened r) (no_opened x none i) true) (is_closed r) (no_closed x none i) false)
    ∙ switched_none (switched channels (is_opened r) None true) (is_closed r) false ∙ switched_none channels (is_opened r) true where
      no_opened : (y : Cmd) → switched_by y ≡ None → opened_by y ≡ None
      no_opened (cmd.OpenFile chan file mode) e = absurd (let f : Some chan ≡ None = e in cc)
      no_opened other e = refl

      no_closed : (y : Cmd) → switched_by y ≡ None → closed_by y ≡ None
      no_closed (cmd.CloseFile chan) e = absurd (let f : Some chan ≡ None = e in cc)
      no_closed other e = refl

-- what a node has open goes on to be what its answers say
pub channels_go_on : (p : NodePast) (opens : List (Option Chan)) (x : Cmd) (channel : Option Chan) (ask : Option Ask) (r : Reply) → EndsSo x channel ask r → map is_some opens ≡ p.channels → map is_some (opens_then opens x r) ≡ channels_after p.channels x r
channels_go_on p opens x channel ask r (Opened o) told =
    (λ i. map is_some (opens_then opens (o.is i) (o.reply i))) ∙ map_set opens (o.chan - 1) (Some (record { file = o.file; mode = o.mode })) ∙ ap (λ cs. slice_set cs (o.chan - 1) true) told
    ∙ sym (λ i. channels_after p.channels (o.is i) (o.reply i))
channels_go_on p opens x channel ask r (Closed o) told =
    (λ i. map is_some (opens_then opens (o.is i) (o.reply i))) ∙ map_set opens (o.chan - 1) None ∙ ap (λ cs. slice_set cs (o.chan - 1) false) told
    ∙ sym (λ i. channels_after p.channels (o.is i) (o.reply i))
channels_go_on p opens x channel ask r (Refused o) told =
    ap (map is_some) (no_reply x opens r (ap is_opened o.reply) (ap is_closed o.reply)) ∙ told ∙ sym (ap (channels_after p.channels x) o.reply)
channels_go_on p opens x channel ask r (NoSwitch o) told = ap (map is_some) (no_switch x opens r o.none) ∙ told ∙ sym (stays_closed x o.none p.channels r)
