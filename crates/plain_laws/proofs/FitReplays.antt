use Rattle.std.proofs.Common.{◌≡◌, ◌+◌, ◌≤◌, ◌++◌, ℕ, zero, suc, Bool, true, false, cond, List, [], ◌∷◌, Option, Some, None, drop, refl, sym, ap, subst, arith}
use Rattle.std.specs.Prelude.{option_and_then, option_map, unwrap_or}
use Rattle.std.specs.List.{sum_by}
use Rattle.std.proofs.lemmas.List.Sums.{sum_by-cons}
use Rattle.std.proofs.lemmas.Option.{some_pair_parts}
use Rattle.plain_cat.specs.declared.command.Cmd.{Cmd}
use Rattle.plain_cat.specs.declared.reply.Reply.{Reply}
use Rattle.plain_cat.specs.declared.history.Entry.{Entry}
use Rattle.plain_cat.specs.declared.history.Entry.TheVariants.{Done, Died, Mended}
use Rattle.plain_cat.specs.declared.history.Mended.{Mended as Work}
use Rattle.plain_cat.specs.declared.cat.Cat.{Cat}
use Rattle.plain_cat.specs.declared.cat.File.{File}
use Rattle.plain_cat.specs.declared.cat.Slot.{Slot}
use Rattle.plain_cat.specs.declared.cat.Slot.TheVariants.{Used, Free}
use Rattle.plain_cat.specs.declared.script.Script.{Script}
use Rattle.plain_rules.specs.declared.outcome.Outcome.{Outcome}
use Rattle.plain_rules.specs.Lookups.{file_at, clusters_in}
use Rattle.plain_rules.specs.Changes.{with_entries}
use Rattle.plain_rules.specs.Answers.{Answer}
use Rattle.plain_rules.specs.Mending.{less_entries, each_from, without_opens, without_entries, lost, with_lost_entry, enter, enter_all, enter_some, with_lost, gone_slot, put_right, counts, mended, mended_from}
use Rattle.plain_rules.specs.Own.{next_command}
use Rattle.plain_rules.specs.Replaying.{MayLeak, dead, Leads, ReplaysFrom, Replays}
use Rattle.plain_laws.specs.Fitting.{Fits}
use Rattle.plain_rules.proofs.Standing.{some_map, stands_at}
use Rattle.plain_laws.proofs.FitAnswers.{entries_fit, outcome_fits}
use Rattle.plain_laws.proofs.FitStages.{FitsIf, staged_fits}

-- each slot keeps its clusters, or has fewer
each_sum : (g : ℕ → Slot → Slot) → ((n : ℕ) (s : Slot) → clusters_in (g n s) ≤ clusters_in s) → (j n : ℕ) (xs : List Slot)
    → sum_by clusters_in (drop j (each_from g n xs)) ≤ sum_by clusters_in (drop j xs)
each_sum g less zero n [] = omega arith
each_sum g less (suc j) n [] = omega arith
each_sum g less zero n (x ∷ xs) =
    omega (arith, sum_by-cons clusters_in (g n x) (each_from g (n + 1) xs), sum_by-cons clusters_in x xs, less n x, each_sum g less zero (n + 1) xs)
each_sum g less (suc j) n (x ∷ xs) = each_sum g less j (n + 1) xs

each_fits : (c : Cat) (g : ℕ → Slot → Slot) → ((n : ℕ) (s : Slot) → clusters_in (g n s) ≤ clusters_in s) → Fits c → Fits (record c { files = each_from g 1 c.files })
each_fits c g less h = let e = each_sum g less 11 1 c.files in omega (arith, e, h)

less_entries_fit : (c : Cat) (n : ℕ) (s : Slot) → clusters_in (less_entries c n s) ≤ clusters_in s
less_entries_fit c n (Free q) = omega arith
less_entries_fit c n (Used f) = omega arith

gone_if : (b : Bool) (f : File) → clusters_in (cond b (Free f.seq) (Used f)) ≤ f.clusters
gone_if true f = omega arith
gone_if false f = omega arith

gone_fits : (c : Cat) (n : ℕ) (s : Slot) → clusters_in (gone_slot c n s) ≤ clusters_in s
gone_fits c n (Free q) = omega arith
gone_fits c n (Used f) = gone_if _ f

then_fits : {X : Type 0} (o : Option X) (next : X → Option Cat) (b : Cat) → option_and_then next o ≡ Some b
    → ((x : X) → o ≡ Some x → next x ≡ Some b → Fits b) → Fits b
then_fits None next b h k = absurd (cc h)
then_fits (Some x) next b h k = k x refl h

enter_fits : (c : Cat) (n : ℕ) (b : Cat) → enter c n ≡ Some b → Fits c → Fits b
unfolding enter
enter_fits c n b h a = then_fits (file_at c 11) _ b h (λ d at k. then_fits (file_at c n) _ b k (λ f own l.
    let w = some_map (with_lost_entry c.factor d.entries n f.seq) (with_entries c 11 d) b l in
    subst Fits w.2 (entries_fit c 11 d w.0 a (stands_at c 11 d at))))

enter_all_fits : (ns : List ℕ) (c b : Cat) → enter_all ns c ≡ Some b → Fits c → Fits b
enter_all_fits [] c b h a = let e : c ≡ b = cc h in subst Fits e a
enter_all_fits (n ∷ ns) c b h a = then_fits (enter c n) (enter_all ns) b h (λ x at k. enter_all_fits ns x b k (enter_fits c n x at a))

unwrap_fits : (o : Option Cat) (c : Cat) → ((b : Cat) → o ≡ Some b → Fits b) → Fits c → Fits (unwrap_or o c)
unwrap_fits None c k a = a
unwrap_fits (Some b) c k a = k b refl

enter_some_fits : (ns : List ℕ) (c : Cat) → Fits c → Fits (enter_some ns c)
enter_some_fits [] c a = a
enter_some_fits (n ∷ ns) c a = enter_some_fits ns (unwrap_or (enter c n) c) (unwrap_fits (enter c n) c (λ b h. enter_fits c n b h a) a)

some_fits : (o : Option Cat) (ns : List ℕ) (b : Cat) → option_map (enter_some ns) o ≡ Some b → ((x : Cat) → o ≡ Some x → Fits x) → Fits b
some_fits None ns b h k = absurd (cc h)
some_fits (Some x) ns b h k = let e : enter_some ns x ≡ b = cc h in subst Fits e (enter_some_fits ns x (k x refl))

lost_fits : (c b : Cat) → with_lost c ≡ Some b → Fits c → Fits b
lost_fits c b h a = some_fits (enter_all (lost c false) c) (lost c true) b h (λ x at. enter_all_fits (lost c false) c x at a)

right_fits : (c : Cat) → Fits c → Fits (put_right c)
right_fits c a = let h : Fits (record c { files = each_from (gone_slot c) 1 c.files }) = each_fits c (gone_slot c) (gone_fits c) a in omega (arith, h)

from_fits : (c a : Cat) (o : Option Cat) (d : Cat) (m : Work) → mended_from c a o ≡ Some (d, m) → ((b : Cat) → o ≡ Some b → Fits b) → Fits d
from_fits c a None d m h k = absurd (cc h)
from_fits c a (Some b) d m h k =
    let e : put_right b ≡ d = (some_pair_parts (put_right b) d (counts c a b (put_right b)) m h).0 in subst Fits e (right_fits b (k b refl))

mended_fits : (c d : Cat) (m : Work) → mended c ≡ Some (d, m) → Fits c → Fits d
unfolding mended
mended_fits c d m h a =
    let first : Fits (without_entries (without_opens c)) = each_fits (without_opens c) (less_entries (without_opens c)) (less_entries_fit (without_opens c)) a in
    from_fits c (without_entries (without_opens c)) (with_lost (without_entries (without_opens c))) d m h (λ b at. lost_fits (without_entries (without_opens c)) b at first)

dead_fits : (c : Cat) (node clusters : ℕ) (numbers : List ℕ) → Fits c → MayLeak c clusters numbers → Fits (dead c node clusters numbers)
unfolding dead
dead_fits c node clusters numbers h may = let few = may.0 in omega (arith, h, few)

-- the catalogue after an answer fits
pub answer_fits : (c d : Cat) (node : ℕ) (x : Cmd) (r : Reply) → Fits c → Answer c node x r d → Fits d
answer_fits c d node x r h (new, pick, is) = subst Fits (ap (λ (o : Outcome). o.after) is) (outcome_fits c node x new h pick)

-- and after any entry
pub lead_fits : (s : Script) (hist : List Entry) (c : Cat) (e : Entry) (d : Cat) → Fits c → Leads s hist c e d → Fits d
lead_fits s hist c (Done node x r) d h is = answer_fits c d node x r h is
lead_fits s hist c (Died node st k ns) d h (new, x, pick, is, may, same) =
    subst Fits (sym same) (dead_fits x node k ns.items (subst FitsIf is (staged_fits c node (next_command s node hist) st new h pick)) may)
lead_fits s hist c (Mended m) d h is = mended_fits c d m is h

from_here : (s : Script) (hist : List Entry) (es : List Entry) (c d : Cat) → Fits c → ReplaysFrom s hist c es d → Fits d
from_here s hist [] c d h is = subst Fits (sym is) h
from_here s hist (e ∷ es) c d h (x, leads, rest) = from_here s (hist ++ e ∷ []) es x d (lead_fits s hist c e x h leads) rest

-- and so along a replay
pub replay_fits : (c : Cat) (s : Script) (hist : List Entry) (d : Cat) → Fits c → Replays c s hist d → Fits d
replay_fits c s hist d h is = from_here s [] hist c d h is
