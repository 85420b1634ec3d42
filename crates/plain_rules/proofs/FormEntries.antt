-- What a death, a mending and so any legal entry makes of a catalogue in its one form.
use Rattle.std.proofs.Common.{◌≡◌, ◌-◌, ◌∙◌, ℕ, zero, suc, Bool, true, false, cond, List, [], ◌∷◌, Option, Some, None, length, map, nat_le, slice_set, refl, sym, ap, subst}
use Rattle.std.specs.Prelude.{◌&&◌, option_and_then, option_map, unwrap_or}
use Rattle.std.proofs.lemmas.List.{length-set, length-map}
use Rattle.std.proofs.lemmas.Option.{some_pair_parts}
use Rattle.plain_cat.specs.declared.history.Mended.{Mended as Work}
use Rattle.plain_cat.specs.declared.history.Entry.{Entry}
use Rattle.plain_cat.specs.declared.history.Entry.TheVariants.{Done, Died, Mended}
use Rattle.plain_cat.specs.declared.entries.DirEnt.{DirEnt}
use Rattle.plain_cat.specs.declared.cat.Cat.{Cat}
use Rattle.plain_cat.specs.declared.cat.File.{File}
use Rattle.plain_cat.specs.declared.cat.Slot.{Slot}
use Rattle.plain_cat.specs.declared.cat.Slot.TheVariants.{Used, Free}
use Rattle.plain_cat.specs.declared.cat.Open.{Open}
use Rattle.plain_rules.specs.declared.outcome.Outcome.{Outcome}
use Rattle.plain_rules.specs.Lookups.{file_at, place}
use Rattle.plain_rules.specs.Directories.{inserted, fits}
use Rattle.plain_rules.specs.Changes.{with_entries}
use Rattle.plain_rules.specs.Mending.{stays, less_entries, each_from, without_opens, without_entries, lost_entry, with_lost_entry, enter, enter_all, lost, enter_some, with_lost, is_gone, gone_slot, without_gone, without_leaks, summed_row, put_right, counts, mended_from, mended}
use Rattle.plain_rules.specs.Replaying.{closed_channels, flagged, dead}
use Rattle.plain_rules.specs.Checks.{IsLegal}
use Rattle.plain_rules.specs.OneForm.{rises, HasOrder, HasOneForm}
use Rattle.plain_rules.proofs.Standing.{some_if, some_map, stands_at}
use Rattle.plain_rules.proofs.MendSteps.{each_length, each_all}
use Rattle.plain_rules.proofs.Ordered.{rises_kept, rises_inserted, next_absent}
use Rattle.plain_rules.proofs.FormSteps.{form_slot, form_rows, form_opens, stands_in_order, outcome_form}

-- ---- deaths

closed_length : (node k : ℕ) (os : List (Option Open)) → length (closed_channels node k os) ≡ length os
unfolding closed_channels
closed_length node zero os = refl
closed_length node (suc k) os = length-set (closed_channels node k os) (place node (suc k)) None ∙ closed_length node k os

flagged_length : (flags : List Bool) (ns : List ℕ) → length (flagged flags ns) ≡ length flags
flagged_length flags [] = refl
flagged_length flags (n ∷ ns) = flagged_length (slice_set flags (n - 1) true) ns ∙ length-set flags (n - 1) true

-- a node is dead
pub dead_form : (c : Cat) (node clusters : ℕ) (numbers : List ℕ) → HasOneForm c → HasOneForm (dead c node clusters numbers)
unfolding dead
dead_form c node clusters numbers f = record {
  entries = f.entries;
  rows = f.rows;
  opens = closed_length node 8 c.opens ∙ f.opens;
  flags = flagged_length c.leaked_numbers numbers ∙ f.flags;
}

-- ---- mending

-- each slot changes, and keeps its order
form_each : (c : Cat) (g : ℕ → Slot → Slot) → ((n : ℕ) (s : Slot) → HasOrder s → HasOrder (g n s)) → HasOneForm c → HasOneForm (record c { files = each_from g 1 c.files })
form_each c g keeps f = record {
  entries = each_all HasOrder HasOrder g keeps 1 c.files f.entries;
  rows = f.rows;
  opens = f.opens;
  flags = f.flags ∙ sym (each_length g 1 c.files);
}

less_order : (c : Cat) (n : ℕ) (s : Slot) → HasOrder s → HasOrder (less_entries c n s)
less_order c n (Free q) h = tt
less_order c n (Used f) h = rises_kept (λ e. stays c (record { dir = n; entry = e })) f.entries h

cleared_form : (c : Cat) → HasOneForm c → HasOneForm (without_entries (without_opens c))
cleared_form c f =
    let shut : HasOneForm (without_opens c) = form_opens c (map (λ o. None) c.opens) (length-map c.opens (λ o. None)) f in
    form_each (without_opens c) (less_entries (without_opens c)) (less_order (without_opens c)) shut

lost_order : (factor : ℕ) (es : List DirEnt) (n seq : ℕ) (left : List DirEnt) → rises es ≡ true → with_lost_entry factor es n seq ≡ Some left → rises left ≡ true
unfolding with_lost_entry
lost_order factor es n seq left h is =
    let e = lost_entry es n seq in
    let same = some_if (nat_le e.ver 32767 && fits factor (inserted e es)) (inserted e es) left is in
    subst (λ (x : List DirEnt). rises x ≡ true) same (rises_inserted e es h (next_absent e.name es h))

then_form : {X : Type 0} (o : Option X) (next : X → Option Cat) (b : Cat) → option_and_then next o ≡ Some b → ((x : X) → o ≡ Some x → next x ≡ Some b → HasOneForm b) → HasOneForm b
then_form None next b h k = absurd (cc h)
then_form (Some x) next b h k = k x refl h

enter_form : (c : Cat) (n : ℕ) (b : Cat) → enter c n ≡ Some b → HasOneForm c → HasOneForm b
unfolding enter
enter_form c n b h f = then_form (file_at c 11) _ b h (λ d at k. then_form (file_at c n) _ b k (λ x own l.
    let w = some_map (with_lost_entry c.factor d.entries n x.seq) (with_entries c 11 d) b l in
    let order = lost_order c.factor d.entries n x.seq w.0 (stands_in_order c 11 d f (stands_at c 11 d at)) w.1 in
    subst HasOneForm w.2 (form_slot c 11 (Used (record d { entries = w.0 })) f order)))

enter_all_form : (ns : List ℕ) (c b : Cat) → enter_all ns c ≡ Some b → HasOneForm c → HasOneForm b
enter_all_form [] c b h f = let e : c ≡ b = cc h in subst HasOneForm e f
enter_all_form (n ∷ ns) c b h f = then_form (enter c n) (enter_all ns) b h (λ x at k. enter_all_form ns x b k (enter_form c n x at f))

unwrap_form : (o : Option Cat) (c : Cat) → ((b : Cat) → o ≡ Some b → HasOneForm b) → HasOneForm c → HasOneForm (unwrap_or o c)
unwrap_form None c k f = f
unwrap_form (Some b) c k f = k b refl

enter_some_form : (ns : List ℕ) (c : Cat) → HasOneForm c → HasOneForm (enter_some ns c)
enter_some_form [] c f = f
enter_some_form (n ∷ ns) c f = enter_some_form ns (unwrap_or (enter c n) c) (unwrap_form (enter c n) c (λ b h. enter_form c n b h f) f)

some_form : (o : Option Cat) (ns : List ℕ) (b : Cat) → option_map (enter_some ns) o ≡ Some b → ((x : Cat) → o ≡ Some x → HasOneForm x) → HasOneForm b
some_form None ns b h k = absurd (cc h)
some_form (Some x) ns b h k = let e : enter_some ns x ≡ b = cc h in subst HasOneForm e (enter_some_form ns x (k x refl))

lost_form : (c b : Cat) → with_lost c ≡ Some b → HasOneForm c → HasOneForm b
lost_form c b h f = some_form (enter_all (lost c false) c) (lost c true) b h (λ x at. enter_all_form (lost c false) c x at f)

order_if : (b : Bool) (f : File) → rises f.entries ≡ true → HasOrder (cond b (Free f.seq) (Used f))
order_if true f h = tt
order_if false f h = h

gone_order : (c : Cat) (n : ℕ) (s : Slot) → HasOrder s → HasOrder (gone_slot c n s)
gone_order c n (Free q) h = tt
gone_order c n (Used f) h = order_if (is_gone c n f) f h

right_form : (c : Cat) → HasOneForm c → HasOneForm (put_right c)
right_form c f =
    let gone : HasOneForm (without_gone c) = form_each c (gone_slot c) (gone_order c) f in
    let whole : HasOneForm (without_leaks (without_gone c)) = record {
      entries = gone.entries;
      rows = gone.rows;
      opens = gone.opens;
      flags = length-map c.leaked_numbers (λ b. false) ∙ gone.flags;
    } in
    form_rows (without_leaks (without_gone c)) (summed_row (without_leaks (without_gone c))) (λ r. refl) whole

from_form : (c a : Cat) (o : Option Cat) (d : Cat) (m : Work) → mended_from c a o ≡ Some (d, m) → ((b : Cat) → o ≡ Some b → HasOneForm b) → HasOneForm d
from_form c a None d m h k = absurd (cc h)
from_form c a (Some b) d m h k = subst HasOneForm (some_pair_parts (put_right b) d (counts c a b (put_right b)) m h).0 (right_form b (k b refl))

-- the catalogue after mending
pub mended_form : (c d : Cat) (m : Work) → mended c ≡ Some (d, m) → HasOneForm c → HasOneForm d
unfolding mended
mended_form c d m h f =
    from_form c (without_entries (without_opens c)) (with_lost (without_entries (without_opens c))) d m h
    (λ b at. lost_form (without_entries (without_opens c)) b at (cleared_form c f))

-- ---- any legal entry

pub legal_form : (c : Cat) (e : Entry) (d : Cat) → HasOneForm c → IsLegal c e d → HasOneForm d
legal_form c (Done node x r) d f (known, (new, pick, is)) = subst HasOneForm (ap (λ (o : Outcome). o.after) is) (outcome_form c node x new f)
legal_form c (Died node st k ns) d f (known, quiet, may, same) = subst HasOneForm (sym same) (dead_form c node k ns.items f)
legal_form c (Mended m) d f is = mended_form c d m is f
