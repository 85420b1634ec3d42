-- The catalogue once the entries that go are gone: its entries are those that stay, and which of its files are lost.
use Rattle.std.proofs.Common.{◌≡◌, ◌≤◌, ◌+◌, ◌-◌, ◌∙◌, ◌++◌, ◌&&◌, ℕ, Bool, true, false, cond, not, List, [], ◌∷◌, Option, Some, map, filter, refl, sym, ap}
use Rattle.std.proofs.lemmas.List.Elements.{filter-append}
use Rattle.std.specs.Prelude.{is_none, slice_get}
use Rattle.std.specs.List.{list_any}
use Rattle.plain_cat.specs.declared.entries.DirEnt.{DirEnt}
use Rattle.plain_cat.specs.declared.cat.Cat.{Cat}
use Rattle.plain_cat.specs.declared.cat.File.{File}
use Rattle.plain_cat.specs.declared.cat.Slot.{Slot}
use Rattle.plain_cat.specs.declared.cat.Slot.TheVariants.{Used, Free}
use Rattle.plain_rules.specs.declared.places.Place.{Place}
use Rattle.plain_rules.specs.Mending.{entries_in, places_from, places, same_fid, stays, less_entries, each_from, without_opens, is_empty, is_named, is_lost_slot, numbers_from, lost, stripped}
use Rattle.vol_faults.specs.declared.places.Spot.{Spot}
use Rattle.vol_faults.specs.Places.{first_at, AreFirsts}
use Rattle.vol_faults.specs.Waiting.{staying, is_waiting}
use Rattle.vol_faults.proofs.Kept.{unnamed_is}
use Rattle.plain_rules.proofs.Placing.{placed}

-- open channels are no matter of entries
stays_shut : (c : Cat) → stays (without_opens c) ≡ stays c
unfolding stays
stays_shut c = refl

map_kept : (n : ℕ) (p : Place → Bool) (e : DirEnt) (es : List DirEnt) (rest : List Place) (b : Bool) → map (placed n) es ≡ rest
    → map (placed n) (cond b (e ∷ es) es) ≡ cond b (placed n e ∷ rest) rest
map_kept n p e es rest true h = ap (λ (ps : List Place). placed n e ∷ ps) h
map_kept n p e es rest false h = h

filter_placed : (n : ℕ) (p : Place → Bool) (es : List DirEnt) → map (placed n) (filter (λ e. p (placed n e)) es) ≡ filter p (map (placed n) es)
filter_placed n p [] = refl
filter_placed n p (e ∷ es) =
    map_kept n p e (filter (λ e. p (placed n e)) es) (filter p (map (placed n) es)) (p (placed n e)) (filter_placed n p es)

filter_if : (b : Bool) (p : DirEnt → Bool) (es : List DirEnt) → cond b (filter p es) [] ≡ filter p (cond b es [])
filter_if true p es = refl
filter_if false p es = refl

entries_less : (c : Cat) (n : ℕ) (s : Slot) → entries_in (less_entries c n s) ≡ filter (λ e. stays c (placed n e)) (entries_in s)
entries_less c n (Free seq) = refl
entries_less c n (Used f) = filter_if f.dir (λ e. stays c (placed n e)) f.entries

places_less : (c : Cat) (n : ℕ) (ss : List Slot) → places_from n (each_from (less_entries c) n ss) ≡ filter (stays c) (places_from n ss)
places_less c n [] = refl
places_less c n (s ∷ ss) =
    ap (λ (es : List DirEnt). map (placed n) es ++ places_from (n + 1) (each_from (less_entries c) (n + 1) ss)) (entries_less c n s)
    ∙ (ap (λ (ps : List Place). ps ++ places_from (n + 1) (each_from (less_entries c) (n + 1) ss)) (filter_placed n (stays c) (entries_in s))
    ∙ (ap (λ (ps : List Place). filter (stays c) (map (placed n) (entries_in s)) ++ ps) (places_less c (n + 1) ss)
    ∙ sym (filter-append (stays c) (map (placed n) (entries_in s)) (places_from (n + 1) ss))))

-- its entries are those that stay
pub places_stripped : (c : Cat) → places (stripped c) ≡ filter (stays c) (places c)
places_stripped c =
    places_less (without_opens c) 1 c.files ∙ ap (λ (p : Place → Bool). filter p (places c)) (stays_shut c)

-- and so are those of one directory
pub staying_shut : (c : Cat) (n : ℕ) (es : List DirEnt) → staying (without_opens c) n es ≡ staying c n es
staying_shut c n es = ap (λ (p : Place → Bool). filter (λ e. p (placed n e)) es) (stays_shut c)

numbers_if : (b : Bool) (n : ℕ) (xs ys : List ℕ) → xs ≡ ys → cond b (n ∷ xs) xs ≡ cond b (n ∷ ys) ys
numbers_if b n xs ys e = ap (λ (zs : List ℕ). cond b (n ∷ zs) zs) e

numbers_each : (p : ℕ → Slot → Bool) (g : ℕ → Slot → Slot) (q : ℕ → Slot → Bool) → ((n : ℕ) (s : Slot) → p n (g n s) ≡ q n s)
    → (n : ℕ) (ss : List Slot) → numbers_from p n (each_from g n ss) ≡ numbers_from q n ss
numbers_each p g q h n [] = refl
numbers_each p g q h n (s ∷ ss) =
    let rest = numbers_from p (n + 1) (each_from g (n + 1) ss) in
    ap (λ (b : Bool). cond b (n ∷ rest) rest) (h n s)
    ∙ numbers_if (q n s) n rest (numbers_from q (n + 1) ss) (numbers_each p g q h (n + 1) ss)

waiting_by : (c : Cat) (n : ℕ) (s : Slot) → is_lost_slot (stripped c) false n (less_entries (without_opens c) n s) ≡ is_waiting c n s
unfolding is_waiting
waiting_by c n s = refl

-- the numbers of its lost files that are not empty
pub waiting_is : (c : Cat) → numbers_from (is_waiting c) 1 c.files ≡ lost (stripped c) false
waiting_is c = sym (numbers_each (is_lost_slot (stripped c) false) (less_entries (without_opens c)) (is_waiting c) (waiting_by c) 1 c.files)

-- whether a file in use is one of them
waits : (c : Cat) (named : List (Option Spot)) (n : ℕ) (f : File) (s : Slot) → AreFirsts c (filter (stays c) (places c)) named → 1 ≤ n
    → slice_get c.files (n - 1) ≡ Some s → s ≡ Used f
    → (not f.marked && is_none (first_at named n)) && not (is_empty (record f { entries = staying c n f.entries })) ≡ is_waiting c n s
unfolding is_waiting
waits c named n f s first from here is =
    let h : slice_get c.files (n - 1) ≡ Some (Used f) = here ∙ ap (λ (x : Slot). Some x) is in
    let none : is_none (first_at named n) ≡ not (is_named (stripped c) (record { num = n; seq = f.seq })) =
    unnamed_is c (filter (stays c) (places c)) named n f first from h
    ∙ ap (λ (ps : List Place). not (list_any (λ p. same_fid p.entry.fid (record { num = n; seq = f.seq })) ps)) (sym (places_stripped c)) in
    ap (λ (b : Bool). (not f.marked && b) && not (is_empty (record f { entries = staying c n f.entries }))) none
    ∙ (ap (λ (es : List DirEnt). (not f.marked && not (is_named (stripped c) (record { num = n; seq = f.seq }))) && not (is_empty (record f { entries = es })))
    (sym (staying_shut c n f.entries))
    ∙ ap (λ (x : Slot). is_lost_slot (stripped c) false n (less_entries (without_opens c) n x)) (sym is))

pub free_waits : (c : Cat) (n seq : ℕ) (s : Slot) → s ≡ Free seq → false ≡ is_waiting c n s
unfolding is_waiting
free_waits c n seq s is = ap (λ (x : Slot). is_lost_slot (stripped c) false n (less_entries (without_opens c) n x)) (sym is)

abbrev is_unnamed : List (Option Spot) → ℕ → File → Bool
is_unnamed named n f = not f.marked && is_none (first_at named n)

abbrev is_left_empty : Cat → ℕ → File → Bool
is_left_empty c n f = is_empty (record f { entries = staying c n f.entries })

pub waits_then : (c : Cat) (named : List (Option Spot)) (n : ℕ) (f : File) (s : Slot) (u e : Bool) → AreFirsts c (filter (stays c) (places c)) named → 1 ≤ n
    → slice_get c.files (n - 1) ≡ Some s → s ≡ Used f → u ≡ is_unnamed named n f → u ≡ true → e ≡ is_left_empty c n f → not e ≡ is_waiting c n s
waits_then c named n f s u e first from here is eu t ee =
    ap not ee ∙ (ap (λ (b : Bool). b && not (is_left_empty c n f)) (sym t ∙ eu) ∙ waits c named n f s first from here is)

pub waits_else : (c : Cat) (named : List (Option Spot)) (n : ℕ) (f : File) (s : Slot) (u : Bool) → AreFirsts c (filter (stays c) (places c)) named → 1 ≤ n
    → slice_get c.files (n - 1) ≡ Some s → s ≡ Used f → u ≡ is_unnamed named n f → u ≡ false → u ≡ is_waiting c n s
waits_else c named n f s u first from here is eu t =
    t ∙ (ap (λ (b : Bool). b && not (is_left_empty c n f)) (sym t ∙ eu) ∙ waits c named n f s first from here is)
