-- The entries of a catalogue.
use Rattle.std.proofs.Common.{◌≡◌, ◌==◌, ◌&&◌, ◌-◌, ◌+◌, ◌<◌, ◌⊎◌, inl, inr, ◌∙◌, ℕ, zero, suc, Bool, true, false, cond, List, [], ◌∷◌, Option, Some, None, map, slice_get, refl, sym, ap, subst, arith}
use Rattle.std.specs.Str.{bytes_eq}
use Rattle.std.proofs.lemmas.Bool.{and_parts, and_from, eqb-true, eq-eqb}
use Rattle.std.proofs.lemmas.Slice.Eq.{bytes_eq-Decides}
use Rattle.plain_cat.specs.declared.ids.Fid.{Fid}
use Rattle.plain_cat.specs.declared.entries.DirEnt.{DirEnt}
use Rattle.plain_cat.specs.declared.cat.Cat.{Cat}
use Rattle.plain_cat.specs.declared.cat.File.{File}
use Rattle.plain_cat.specs.declared.cat.Slot.{Slot}
use Rattle.plain_cat.specs.declared.cat.Slot.TheVariants.{Used, Free}
use Rattle.plain_rules.specs.declared.places.Place.{Place}
use Rattle.plain_rules.specs.Lookups.{file_at}
use Rattle.plain_rules.specs.Directories.{before, inserted}
use Rattle.plain_rules.specs.Mending.{entries_in, places_from, places, same_fid, same_place, system_names, is_name_of, is_own, is_first, is_named}
use Rattle.plain_rules.proofs.Standing.{stands_at}
use Rattle.base_words.specs.Lists.{Has}
use Rattle.base_words.proofs.Listing.{has_first, has_second, has_parted, has_map, has_mapped, any_has, has_any}
use Rattle.plain_laws.proofs.Standing.{number_rises, file_from}
use Rattle.plain_rules.proofs.Placing.{placed}

-- an entry stands in a directory
pub record In (c : Cat) (p : Place) : Type 0 where
  pub file : File
  pub at : file_at c p.dir ≡ Some file
  pub dir : file.dir ≡ true
  pub entry : Has file.entries p.entry

entries_if : (b : Bool) (es : List DirEnt) (e : DirEnt) → Has (cond b es []) e → (b ≡ true) × Has es e
entries_if true es e h = (refl, h)
entries_if false es e h = absurd h

entries_slot : (s : Slot) (e : DirEnt) → Has (entries_in s) e → (f : File) × (s ≡ Used f) × (f.dir ≡ true) × Has f.entries e
entries_slot (Free q) e h = absurd h
entries_slot (Used f) e h = let r = entries_if f.dir f.entries e h in (f, refl, r.0, r.1)

if_entries : (b : Bool) (es : List DirEnt) (e : DirEnt) → b ≡ true → Has es e → Has (cond b es []) e
if_entries true es e h k = k
if_entries false es e h k = absurd (cc h)

-- where an entry stands among the slots
record Within (n : ℕ) (ss : List Slot) (p : Place) : Type 0 where
  place : ℕ
  file : File
  at : slice_get ss place ≡ Some (Used file)
  dir : file.dir ≡ true
  entry : Has file.entries p.entry
  number : p.dir ≡ n + place

from_within : (n : ℕ) (ss : List Slot) (p : Place) → Has (places_from n ss) p → Within n ss p
from_within n [] p h = absurd h
from_within n (s ∷ ss) p h = by_case (has_parted (map (placed n) (entries_in s)) (places_from (n + 1) ss) p h) (λ k. from_within (n + 1) ss p k) where
  by_case : Has (map (placed n) (entries_in s)) p ⊎ Has (places_from (n + 1) ss) p → (Has (places_from (n + 1) ss) p → Within (n + 1) ss p) → Within n (s ∷ ss) p
  by_case (inl k) rest =
      let m = has_mapped (placed n) (entries_in s) p k in
      let r = entries_slot s m.0 m.1 in
      record {
        place = 0;
        file = r.0;
        at = ap Some r.1;
        dir = r.2;
        entry = subst (λ (e : DirEnt). Has r.0.entries e) (ap (λ (q : Place). q.entry) m.2) r.3;
        number = let e : n ≡ p.dir = ap (λ (q : Place). q.dir) m.2 in omega (arith, e);
      }
  by_case (inr k) rest =
      let w = rest k in
      record { place = suc w.place; file = w.file; at = w.at; dir = w.dir; entry = w.entry; number = let e = w.number in omega (arith, e) }

to_within : (n : ℕ) (ss : List Slot) (i : ℕ) (f : File) (e : DirEnt) → slice_get ss i ≡ Some (Used f) → f.dir ≡ true → Has f.entries e
    → Has (places_from n ss) (placed (n + i) e)
to_within n [] i f e at dir h = absurd (cc at)
to_within n (s ∷ ss) zero f e at dir h =
    let same : s ≡ Used f = cc at in
    let here : n ≡ n + 0 = omega arith in
    let k : Has (entries_in (Used f)) e = if_entries f.dir f.entries e dir h in
    let l : Has (entries_in s) e = subst (λ (x : Slot). Has (entries_in x) e) (sym same) k in
    subst (λ (m : ℕ). Has (places_from n (s ∷ ss)) (placed m e)) here
    (has_first (map (placed n) (entries_in s)) (places_from (n + 1) ss) (placed n e) (has_map (placed n) (entries_in s) e l))
to_within n (s ∷ ss) (suc i) f e at dir h =
    let there : n + 1 + i ≡ n + suc i = omega arith in
    subst (λ (m : ℕ). Has (places_from n (s ∷ ss)) (placed m e)) there
    (has_second (map (placed n) (entries_in s)) (places_from (n + 1) ss) (placed (n + 1 + i) e) (to_within (n + 1) ss i f e at dir h))

pub in_from : (c : Cat) (p : Place) → Has (places c) p → In c p
in_from c p h =
    let w = from_within 1 c.files p h in
    let e = w.number in
    let place : w.place ≡ p.dir - 1 = omega (arith, e) in
    record {
      file = w.file;
      at = file_from c p.dir w.file (omega (arith, e)) (subst (λ (i : ℕ). slice_get c.files i ≡ Some (Used w.file)) place w.at);
      dir = w.dir;
      entry = w.entry;
    }

pub in_to : (c : Cat) (p : Place) → In c p → Has (places c) p
in_to c p i =
    let rises : 0 < p.dir = number_rises c p.dir i.file i.at in
    let same : 1 + (p.dir - 1) ≡ p.dir = omega (arith, rises) in
    subst (λ (n : ℕ). Has (places c) (placed n p.entry)) same (to_within 1 c.files (p.dir - 1) i.file p.entry (stands_at c p.dir i.file i.at) i.dir i.entry)

pub fid_same : (a b : Fid) → same_fid a b ≡ true → a ≡ b
unfolding same_fid
fid_same a b h =
    let p = and_parts (a.num == b.num) (a.seq == b.seq) h in
    ap (λ (n : ℕ). record { num = n; seq = a.seq }) (eqb-true a.num b.num p.0) ∙ ap (λ (s : ℕ). record { num = b.num; seq = s }) (eqb-true a.seq b.seq p.1)

pub same_fid-refl : (a b : Fid) → a ≡ b → same_fid a b ≡ true
unfolding same_fid
same_fid-refl a b e = and_from (a.num == b.num) (a.seq == b.seq) (eq-eqb a.num b.num (ap (λ (x : Fid). x.num) e)) (eq-eqb a.seq b.seq (ap (λ (x : Fid). x.seq) e))

-- an entry has this identifier
pub record Names (c : Cat) (fid : Fid) : Type 0 where
  pub place : Place
  pub within : In c place
  pub same : place.entry.fid ≡ fid

pub names_from : (c : Cat) (fid : Fid) → is_named c fid ≡ true → Names c fid
names_from c fid h =
    let r = any_has (λ (p : Place). same_fid p.entry.fid fid) (places c) h in
    record { place = r.0; within = in_from c r.0 r.1; same = fid_same r.0.entry.fid fid r.2 }

pub names_to : (c : Cat) (fid : Fid) → Names c fid → is_named c fid ≡ true
names_to c fid n =
    has_any (λ (p : Place). same_fid p.entry.fid fid) (places c) n.place (in_to c n.place n.within) (same_fid-refl n.place.entry.fid fid n.same)

-- places with the same directory, name, version and identifier
pub place_same : (p q : Place) → p.dir ≡ q.dir → p.entry.name ≡ q.entry.name → p.entry.ver ≡ q.entry.ver → p.entry.fid ≡ q.entry.fid → p ≡ q
place_same p q d n v f =
    ap (λ (x : ℕ). record { dir = x; entry = p.entry }) d
    ∙ (ap (λ (x : List ℕ). record { dir = q.dir; entry = record { name = x; ver = p.entry.ver; fid = p.entry.fid } }) n
    ∙ (ap (λ (x : ℕ). record { dir = q.dir; entry = record { name = q.entry.name; ver = x; fid = p.entry.fid } }) v
    ∙ ap (λ (x : Fid). record { dir = q.dir; entry = record { name = q.entry.name; ver = q.entry.ver; fid = x } }) f))

pub place_equal : (p q : Place) → same_place p q ≡ true → p.entry.fid ≡ q.entry.fid → p ≡ q
unfolding same_place
place_equal p q h f =
    let a = and_parts (p.dir == q.dir) (bytes_eq p.entry.name q.entry.name && (p.entry.ver == q.entry.ver)) h in
    let b = and_parts (bytes_eq p.entry.name q.entry.name) (p.entry.ver == q.entry.ver) a.1 in
    place_same p q (eqb-true p.dir q.dir a.0) ((bytes_eq-Decides p.entry.name q.entry.name).0 b.0) (eqb-true p.entry.ver q.entry.ver b.1) f

pub same_place-refl : (p q : Place) → p ≡ q → same_place p q ≡ true
unfolding same_place
same_place-refl p q e =
    and_from (p.dir == q.dir) (bytes_eq p.entry.name q.entry.name && (p.entry.ver == q.entry.ver)) (eq-eqb p.dir q.dir (ap (λ (x : Place). x.dir) e))
    (and_from (bytes_eq p.entry.name q.entry.name) (p.entry.ver == q.entry.ver) ((bytes_eq-Decides p.entry.name q.entry.name).1 (ap (λ (x : Place). x.entry.name) e))
    (eq-eqb p.entry.ver q.entry.ver (ap (λ (x : Place). x.entry.ver) e)))

-- an identifier has one first entry
pub first_is : (p : Place) (qs : List Place) → is_first p qs ≡ true → Has qs p
first_is p [] h = absurd (cc h)
first_is p (q ∷ qs) h = decide (same_fid q.entry.fid p.entry.fid) refl h (λ k. first_is p qs k) where
  decide : (b : Bool) → b ≡ same_fid q.entry.fid p.entry.fid → cond b (same_place q p) (is_first p qs) ≡ true → (is_first p qs ≡ true → Has qs p) → Has (q ∷ qs) p
  decide true e k rest = inl (place_equal q p k (fid_same q.entry.fid p.entry.fid (sym e)))
  decide false e k rest = inr (rest k)

pub first_one : (p r : Place) (qs : List Place) → p.entry.fid ≡ r.entry.fid → is_first p qs ≡ true → is_first r qs ≡ true → p ≡ r
first_one p r [] f h k = absurd (cc h)
first_one p r (q ∷ qs) f h k = decide (same_fid q.entry.fid p.entry.fid) refl h (subst (λ (x : Fid). cond (same_fid q.entry.fid x) (same_place q r) (is_first r qs) ≡ true) (sym f) k)
    (λ g l. first_one p r qs f g l) where
      decide : (b : Bool) → b ≡ same_fid q.entry.fid p.entry.fid → cond b (same_place q p) (is_first p qs) ≡ true → cond b (same_place q r) (is_first r qs) ≡ true
          → (is_first p qs ≡ true → is_first r qs ≡ true → p ≡ r) → p ≡ r
      decide true e g l rest =
          let a : q.entry.fid ≡ p.entry.fid = fid_same q.entry.fid p.entry.fid (sym e) in
          sym (place_equal q p g a) ∙ place_equal q r l (a ∙ f)
      decide false e g l rest = rest g l

pub first_to : (p : Place) (qs : List Place) → Has qs p → ((q : Place) → Has qs q → q.entry.fid ≡ p.entry.fid → q ≡ p) → is_first p qs ≡ true
first_to p [] h one = absurd h
first_to p (q ∷ qs) h one = decide (same_fid q.entry.fid p.entry.fid) refl h (λ k. first_to p qs k (λ x l f. one x (inr l) f)) where
  decide : (b : Bool) → b ≡ same_fid q.entry.fid p.entry.fid → Has (q ∷ qs) p → (Has qs p → is_first p qs ≡ true) → cond b (same_place q p) (is_first p qs) ≡ true
  decide true e k rest = same_place-refl q p (one q (inl refl) (fid_same q.entry.fid p.entry.fid (sym e)))
  decide false e (inl k) rest =
      let both : false ≡ true = e ∙ same_fid-refl q.entry.fid p.entry.fid (ap (λ (x : Place). x.entry.fid) k) in absurd (cc both)
  decide false e (inr k) rest = rest k

pub name_of : (name : List ℕ) (o : Option (List ℕ)) → is_name_of name o ≡ true → o ≡ Some name
name_of name None h = absurd (cc h)
name_of name (Some own) h = ap Some (sym ((bytes_eq-Decides name own).0 h))

-- a system file has one own entry
pub own_one : (p q : Place) → is_own p ≡ true → is_own q ≡ true → p.entry.fid ≡ q.entry.fid → p ≡ q
unfolding is_own
own_one p q h k f =
    let a = and_parts (p.dir == 4) ((p.entry.ver == 1) && is_name_of p.entry.name (slice_get system_names (p.entry.fid.num - 1))) h in
    let b = and_parts (p.entry.ver == 1) (is_name_of p.entry.name (slice_get system_names (p.entry.fid.num - 1))) a.1 in
    let x = and_parts (q.dir == 4) ((q.entry.ver == 1) && is_name_of q.entry.name (slice_get system_names (q.entry.fid.num - 1))) k in
    let y = and_parts (q.entry.ver == 1) (is_name_of q.entry.name (slice_get system_names (q.entry.fid.num - 1))) x.1 in
    let names : Some p.entry.name ≡ Some q.entry.name =
    sym (name_of p.entry.name (slice_get system_names (p.entry.fid.num - 1)) b.1)
    ∙ (ap (λ (z : Fid). slice_get system_names (z.num - 1)) f ∙ name_of q.entry.name (slice_get system_names (q.entry.fid.num - 1)) y.1) in
    let name : p.entry.name ≡ q.entry.name = cc names in
    place_same p q (eqb-true p.dir 4 a.0 ∙ sym (eqb-true q.dir 4 x.0)) name (eqb-true p.entry.ver 1 b.0 ∙ sym (eqb-true q.entry.ver 1 y.0)) f

-- the entries of a directory with one more
either_has : {X : Type 0} (b : Bool) (e z x : X) (zs rest : List X) → (Has rest x → (e ≡ x) ⊎ Has zs x) → Has (cond b (e ∷ z ∷ zs) (z ∷ rest)) x → (e ≡ x) ⊎ Has (z ∷ zs) x
either_has true e z x zs rest h k = k
either_has false e z x zs rest h (inl k) = inr (inl k)
either_has {X} false e z x zs rest h (inr k) = deeper (h k) where
  deeper : (e ≡ x) ⊎ Has zs x → (e ≡ x) ⊎ Has (z ∷ zs) x
  deeper (inl l) = inl l
  deeper (inr l) = inr (inr l)

pub inserted_has : (e : DirEnt) (xs : List DirEnt) (x : DirEnt) → Has (inserted e xs) x → (e ≡ x) ⊎ Has xs x
inserted_has e [] x h = h
inserted_has e (z ∷ zs) x h = either_has (before e z) e z x zs (inserted e zs) (λ k. inserted_has e zs x k) h

has_either_way : {X : Type 0} (b : Bool) (e z x : X) (zs rest : List X) → ((e ≡ x) ⊎ Has zs x → Has rest x) → (e ≡ x) ⊎ Has (z ∷ zs) x → Has (cond b (e ∷ z ∷ zs) (z ∷ rest)) x
has_either_way true e z x zs rest h k = k
has_either_way false e z x zs rest h (inl k) = inr (h (inl k))
has_either_way false e z x zs rest h (inr (inl k)) = inl k
has_either_way false e z x zs rest h (inr (inr k)) = inr (h (inr k))

pub has_inserted : (e : DirEnt) (xs : List DirEnt) (x : DirEnt) → (e ≡ x) ⊎ Has xs x → Has (inserted e xs) x
has_inserted e [] x h = h
has_inserted e (z ∷ zs) x h = has_either_way (before e z) e z x zs (inserted e zs) (λ k. has_inserted e zs x k) h
