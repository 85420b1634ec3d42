-- What a table of first entries says of the entries that stay and of the files that are lost.
use Rattle.std.proofs.Common.{◌≡◌, ◌≤◌, ◌-◌, ◌∙◌, ◌&&◌, ◌||◌, ℕ, Bool, true, false, not, List, [], ◌∷◌, Option, Some, None, length, refl, sym, ap, subst, arith}
use Rattle.std.proofs.lemmas.Bool.{false≢true, eqb-true, ne_eqb}
use Rattle.std.proofs.lemmas.Option.{slice_get_within}
use Rattle.std.specs.Prelude.{◌==◌, nat_le, is_some, is_none, slice_get, if◌then◌else◌}
use Rattle.std.specs.List.{list_any}
use Rattle.plain_cat.specs.declared.ids.Fid.{Fid}
use Rattle.plain_cat.specs.declared.cat.Cat.{Cat}
use Rattle.plain_cat.specs.declared.cat.File.{File}
use Rattle.plain_cat.specs.declared.cat.Slot.{Slot}
use Rattle.plain_cat.specs.declared.cat.Slot.TheVariants.{Used}
use Rattle.plain_rules.specs.declared.places.Place.{Place}
use Rattle.plain_rules.specs.Lookups.{file_at, in_use, live, of_seq, unmarked}
use Rattle.plain_rules.specs.Mending.{same_fid, same_place, is_own, is_first, stays, places}
use Rattle.vol_parts.specs.Warnings.{is_second, is_lost_file}
use Rattle.vol_faults.specs.declared.places.Spot.{Spot}
use Rattle.vol_faults.specs.Places.{first_of, first_in, place_in, first_at, AreFirsts, is_there, is_kept}
use Rattle.vol_faults.proofs.Firsting.{in_use_from, in_use_to, is_some_if}

there_if : (b : Bool) (p q : Place) (rest : Option Place) (r : Bool) → r ≡ is_there p rest
    → (if b then same_place q p else r) ≡ is_there p (if b then Some q else rest)
there_if true p q rest r e = refl
there_if false p q rest r e = e

-- an entry is the first one of its file, as the first one is told
first_is : (p : Place) (ps : List Place) → is_first p ps ≡ is_there p (first_of p.entry.fid ps)
first_is p [] = refl
first_is p (q ∷ qs) = there_if (same_fid q.entry.fid p.entry.fid) p q (first_of p.entry.fid qs) (is_first p qs) (first_is p qs)

any_if : (b : Bool) (q : Place) (rest : Option Place) (r : Bool) → r ≡ is_some rest → (b || r) ≡ is_some (if b then Some q else rest)
any_if true q rest r e = refl
any_if false q rest r e = e

-- a file has a first entry where an entry names it
named_is : (fid : Fid) (ps : List Place) → list_any (λ p. same_fid p.entry.fid fid) ps ≡ is_some (first_of fid ps)
named_is fid [] = refl
named_is fid (q ∷ qs) =
    any_if (same_fid q.entry.fid fid) q (first_of fid qs) (list_any (λ p. same_fid p.entry.fid fid) qs) (named_is fid qs)

-- the first entry of the number is that of the file in use
read_of : (fid : Fid) (o : Option File) (ps : List Place) → is_some (of_seq fid.seq o) ≡ true → first_in ps fid.num o ≡ first_of fid ps
read_of fid None ps h = absurd (false≢true h)
read_of fid (Some f) ps h =
    let e : f.seq ≡ fid.seq = eqb-true f.seq fid.seq (sym (is_some_if (f.seq == fid.seq) f) ∙ h) in
    ap (λ (s : ℕ). first_of (record { num = fid.num; seq = s }) ps) e

live_used : (o : Option File) → is_some (unmarked o) ≡ true → is_some o ≡ true
live_used None h = h
live_used (Some f) h = refl

kept_if : (b own there first : Bool) → there ≡ first → (if b then own else there) ≡ (if b then own else first)
kept_if true own there first e = refl
kept_if false own there first e = e

second_of : (l : Option File) (kept first : Bool) → (is_some l ≡ true → kept ≡ first)
    → (is_some l && not kept) ≡ (not (is_none l) && not (not (is_none l) && first))
second_of None kept first h = refl
second_of (Some f) kept first h = ap not (h refl)

kept_is : (c : Cat) (table : List (Option Spot)) (p : Place) → AreFirsts c (places c) table → is_some (live c p.entry.fid) ≡ true
    → is_kept table p ≡ (if nat_le p.entry.fid.num 11 then is_own p else is_first p (places c))
kept_is c table p first h =
    let used : is_some (in_use c p.entry.fid) ≡ true = live_used (in_use c p.entry.fid) h in
    let to : p.entry.fid.num ≤ length table = subst (λ (k : ℕ). p.entry.fid.num ≤ k) (sym first.long) (in_use_to c p.entry.fid used) in
    kept_if (nat_le p.entry.fid.num 11) (is_own p) (is_there p (place_in (first_at table p.entry.fid.num))) (is_first p (places c))
    (ap (is_there p) (first.each p.entry.fid.num (in_use_from c p.entry.fid used) to
    ∙ read_of p.entry.fid (file_at c p.entry.fid.num) (places c) used)
    ∙ sym (first_is p (places c)))

-- an entry of a live file is a second one where its file does not keep it
pub second_is : (c : Cat) (table : List (Option Spot)) (p : Place) → AreFirsts c (places c) table
    → (is_some (live c p.entry.fid) && not (is_kept table p)) ≡ is_second c p
unfolding is_second stays
second_is c table p first =
    second_of (live c p.entry.fid) (is_kept table p) (if nat_le p.entry.fid.num 11 then is_own p else is_first p (places c)) (kept_is c table p first)

pub second_then : (c : Cat) (table : List (Option Spot)) (p : Place) (l k : Bool) → AreFirsts c (places c) table
    → l ≡ is_some (live c p.entry.fid) → l ≡ true → k ≡ is_kept table p → not k ≡ is_second c p
second_then c table p l k first e t ek =
    ap not ek ∙ (ap (λ (b : Bool). b && not (is_kept table p)) (sym t ∙ e) ∙ second_is c table p first)

pub second_else : (c : Cat) (table : List (Option Spot)) (p : Place) (l : Bool) → AreFirsts c (places c) table
    → l ≡ is_some (live c p.entry.fid) → l ≡ false → l ≡ is_second c p
second_else c table p l first e t =
    t ∙ (ap (λ (b : Bool). b && not (is_kept table p)) (sym t ∙ e) ∙ second_is c table p first)

stays_of : (l : Option File) (kept first : Bool) → (is_some l ≡ true → kept ≡ first) → (is_some l && kept) ≡ (not (is_none l) && first)
stays_of None kept first h = refl
stays_of (Some f) kept first h = h refl

-- and it stays where its file keeps it
pub stays_is : (c : Cat) (table : List (Option Spot)) (p : Place) → AreFirsts c (places c) table
    → (is_some (live c p.entry.fid) && is_kept table p) ≡ stays c p
unfolding stays
stays_is c table p first =
    stays_of (live c p.entry.fid) (is_kept table p) (if nat_le p.entry.fid.num 11 then is_own p else is_first p (places c)) (kept_is c table p first)

pub stays_then : (c : Cat) (table : List (Option Spot)) (p : Place) (l k : Bool) → AreFirsts c (places c) table
    → l ≡ is_some (live c p.entry.fid) → l ≡ true → k ≡ is_kept table p → k ≡ stays c p
stays_then c table p l k first e t ek =
    ek ∙ (ap (λ (b : Bool). b && is_kept table p) (sym t ∙ e) ∙ stays_is c table p first)

pub stays_else : (c : Cat) (table : List (Option Spot)) (p : Place) (l : Bool) → AreFirsts c (places c) table
    → l ≡ is_some (live c p.entry.fid) → l ≡ false → l ≡ stays c p
stays_else c table p l first e t =
    t ∙ (ap (λ (b : Bool). b && is_kept table p) (sym t ∙ e) ∙ stays_is c table p first)

none_some : (x : Option Place) → is_none x ≡ not (is_some x)
none_some None = refl
none_some (Some p) = refl

none_in : (x : Option Spot) → is_none x ≡ is_none (place_in x)
none_in None = refl
none_in (Some s) = refl

-- a file is named by none of these entries where the table of their first ones has none of it
pub unnamed_is : (c : Cat) (ps : List Place) (table : List (Option Spot)) (n : ℕ) (f : File) → AreFirsts c ps table → 1 ≤ n
    → slice_get c.files (n - 1) ≡ Some (Used f)
    → is_none (first_at table n) ≡ not (list_any (λ p. same_fid p.entry.fid (record { num = n; seq = f.seq })) ps)
unnamed_is c ps table n f first from here =
    let there : (n == 0) ≡ false = ne_eqb n 0 (λ z. absurd (omega arith)) in
    let at : file_at c n ≡ Some f = rw (there, here) refl in
    let to : n ≤ length table = omega (arith, slice_get_within c.files (n - 1) (Used f) here, first.long) in
    let fid : Fid = record { num = n; seq = f.seq } in
    none_in (first_at table n)
    ∙ (ap (λ (x : Option Place). is_none x) (first.each n from to ∙ ap (first_in ps n) at)
    ∙ (none_some (first_of fid ps) ∙ ap not (sym (named_is fid ps))))

-- a file is lost where the table has no entry of it
pub lost_is : (c : Cat) (table : List (Option Spot)) (n : ℕ) (f : File) → AreFirsts c (places c) table → 1 ≤ n
    → slice_get c.files (n - 1) ≡ Some (Used f) → (not f.marked && is_none (first_at table n)) ≡ is_lost_file c n (Used f)
lost_is c table n f first from here = ap (λ (b : Bool). not f.marked && b) (unnamed_is c (places c) table n f first from here)

pub lost_then : (c : Cat) (table : List (Option Spot)) (n : ℕ) (f : File) (s : Slot) → AreFirsts c (places c) table → 1 ≤ n
    → slice_get c.files (n - 1) ≡ Some s → s ≡ Used f → f.marked ≡ false → is_none (first_at table n) ≡ is_lost_file c n s
lost_then c table n f s first from here is unmarked =
    let h : slice_get c.files (n - 1) ≡ Some (Used f) = here ∙ ap (λ (x : Slot). Some x) is in
    ap (λ (b : Bool). not b && is_none (first_at table n)) (sym unmarked)
    ∙ (lost_is c table n f first from h ∙ ap (is_lost_file c n) (sym is))

pub none_of : (x : Option Spot) (r : Bool) → is_some x ≡ not r → r ≡ is_none x
none_of None true h = refl
none_of None false h = absurd (false≢true h)
none_of (Some s) true h = absurd (false≢true (sym h))
none_of (Some s) false h = refl
