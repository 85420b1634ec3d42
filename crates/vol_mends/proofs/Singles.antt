-- Each directory that the blocks tell has a name and version once.
use Rattle.std.proofs.Common.{◌≡◌, ◌≤◌, ◌+◌, ◌++◌, ◌∙◌, ◌⊎◌, inl, inr, ℕ, zero, suc, Bool, true, false, cond, List, [], ◌∷◌, Some, map, slice_get, refl, sym, ap, subst, arith}
use Rattle.std.specs.Prelude.{◌==◌, ◌&&◌, Result, Ok, Err}
use Rattle.std.specs.List.{list_all}
use Rattle.std.specs.Str.{bytes_eq}
use Rattle.std.proofs.lemmas.Bool.{and_parts, and_from, eq-eqb, eqb-true}
use Rattle.base_words.specs.Fields.{Block}
use Rattle.fx_header.specs.declared.slot.Slot.{Slot as Head}
use Rattle.fx_header.specs.declared.slot.Slot.TheVariants as head
use Rattle.fx_header.specs.declared.slot.HeaderFault.{HeaderFault}
use Rattle.fx_dir.specs.declared.RawEnt.{RawEnt}
use Rattle.fx_dir.specs.declared.DirFault.{DirFault}
use Rattle.fx_dir.specs.Entries.{same, before, rises}
use Rattle.fx_dir.specs.Directory.{directory}
use Rattle.fx_dir.proofs.Order.{bytes_refl, bytes_is, before-other}
use Rattle.fx_dir.proofs.Finding.{reads_set}
use Rattle.plain_cat.specs.declared.entries.DirEnt.{DirEnt}
use Rattle.plain_cat.specs.declared.cat.Slot.{Slot}
use Rattle.plain_rules.specs.declared.places.Place.{Place}
use Rattle.plain_rules.specs.Mending.{entries_in, places_from, same_place}
use Rattle.base_words.specs.Lists.{Has}
use Rattle.base_words.proofs.Listing.{has_parted, has_mapped}
use Rattle.vol_parts.specs.Catalogues.{plain_entry, plain_entries, slot_with}

abbrev pub placed : ℕ → DirEnt → Place
placed n e = record { dir = n; entry = e }

-- no two of these places are one directory, name and version
abbrev pub Single : List Place → Type 0
Single [] = Unit {0}
Single (p ∷ ps) = ((q : Place) → Has ps q → same_place p q ≡ true → ⊥) × Single ps

-- ---- the same place

pub place_parts : (p q : Place) → same_place p q ≡ true → (p.dir ≡ q.dir) × (p.entry.name ≡ q.entry.name) × (p.entry.ver ≡ q.entry.ver)
unfolding same_place
place_parts p q h =
    let a = and_parts (p.dir == q.dir) (bytes_eq p.entry.name q.entry.name && (p.entry.ver == q.entry.ver)) h in
    let b = and_parts (bytes_eq p.entry.name q.entry.name) (p.entry.ver == q.entry.ver) a.1 in
    (eqb-true p.dir q.dir a.0, bytes_is p.entry.name q.entry.name b.0, eqb-true p.entry.ver q.entry.ver b.1)

pub place_made : (p q : Place) → p.dir ≡ q.dir → p.entry.name ≡ q.entry.name → p.entry.ver ≡ q.entry.ver → same_place p q ≡ true
unfolding same_place
place_made p q d n v =
    and_from (p.dir == q.dir) (bytes_eq p.entry.name q.entry.name && (p.entry.ver == q.entry.ver)) (eq-eqb p.dir q.dir d)
    (and_from (bytes_eq p.entry.name q.entry.name) (p.entry.ver == q.entry.ver) (subst (λ (m : List ℕ). bytes_eq p.entry.name m ≡ true) n (bytes_refl p.entry.name))
    (eq-eqb p.entry.ver q.entry.ver v))

same_back : (p q : Place) → same_place p q ≡ true → same_place q p ≡ true
same_back p q h = let r = place_parts p q h in place_made q p (sym r.0) (sym r.1) (sym r.2)

-- ---- what single places give

place_has : {X : Type 0} (xs : List X) (k : ℕ) (x : X) → slice_get xs k ≡ Some x → Has xs x
place_has [] k x h = absurd (cc h)
place_has (y ∷ ys) zero x h = inl (cc h)
place_has (y ∷ ys) (suc k) x h = inr (place_has ys k x h)

-- one place in the list
pub single_keyed : (ps : List Place) → Single ps → (i j : ℕ) (p q : Place) → slice_get ps i ≡ Some p → slice_get ps j ≡ Some q → same_place p q ≡ true → i ≡ j
single_keyed [] s i j p q a b h = absurd (cc a)
single_keyed (x ∷ xs) s zero zero p q a b h = refl
single_keyed (x ∷ xs) s zero (suc j) p q a b h = let e : x ≡ p = cc a in absurd (s.0 q (place_has xs j q b) (ap (λ (r : Place). same_place r q) e ∙ h))
single_keyed (x ∷ xs) s (suc i) zero p q a b h = let e : x ≡ q = cc b in absurd (s.0 p (place_has xs i p a) (ap (λ (r : Place). same_place r p) e ∙ same_back p q h))
single_keyed (x ∷ xs) s (suc i) (suc j) p q a b h = ap suc (single_keyed xs s.1 i j p q a b h)

-- and one entry
pub single_one : (ps : List Place) → Single ps → (p q : Place) → Has ps p → Has ps q → same_place p q ≡ true → p ≡ q
single_one [] s p q a b h = absurd a
single_one (x ∷ xs) s p q (inl a) (inl b) h = sym a ∙ b
single_one (x ∷ xs) s p q (inl a) (inr b) h = absurd (s.0 q b (ap (λ (r : Place). same_place r q) a ∙ h))
single_one (x ∷ xs) s p q (inr a) (inl b) h = absurd (s.0 p a (ap (λ (r : Place). same_place r p) b ∙ same_back p q h))
single_one (x ∷ xs) s p q (inr a) (inr b) h = single_one xs s.1 p q a b h

-- ---- where places are single

single_join : (xs ys : List Place) → Single xs → Single ys → ((p q : Place) → Has xs p → Has ys q → same_place p q ≡ true → ⊥) → Single (xs ++ ys)
single_join [] ys a b apart = b
single_join (x ∷ xs) ys a b apart = (first, single_join xs ys a.1 b (λ p q h k. apart p q (inr h) k)) where
  first : (q : Place) → Has (xs ++ ys) q → same_place x q ≡ true → ⊥
  first q h one = by_case (has_parted xs ys q h) where
    by_case : Has xs q ⊎ Has ys q → ⊥
    by_case (inl k) = a.0 q k one
    by_case (inr k) = apart x q (inl refl) k one

all_has : (p : RawEnt → Bool) (es : List RawEnt) (x : RawEnt) → list_all p es ≡ true → Has es x → p x ≡ true
all_has p [] x a h = absurd h
all_has p (e ∷ es) x a (inl h) = ap p (sym h) ∙ (and_parts (p e) (list_all p es) a).0
all_has p (e ∷ es) x a (inr h) = all_has p es x (and_parts (p e) (list_all p es) a).1 h

same_made : (a b : RawEnt) → a.name ≡ b.name → a.ver ≡ b.ver → same a b ≡ true
unfolding same
same_made a b n v =
    and_from (bytes_eq a.name b.name) (a.ver == b.ver) (subst (λ (m : List ℕ). bytes_eq a.name m ≡ true) n (bytes_refl a.name)) (eq-eqb a.ver b.ver v)

clash : (b : Bool) → b ≡ true → b ≡ false → ⊥
clash b t f = let both : true ≡ false = sym t ∙ f in cc both

-- entries in order
single_rising : (n : ℕ) (es : List RawEnt) → rises es ≡ true → Single (map (placed n) (map plain_entry es))
single_rising n [] r = tt
single_rising n (e ∷ es) r = (first, single_rising n es (and_parts (list_all (before e) es) (rises es) r).1) where
  first : (q : Place) → Has (map (placed n) (map plain_entry es)) q → same_place (placed n (plain_entry e)) q ≡ true → ⊥
  first q h one =
      let m = has_mapped (placed n) (map plain_entry es) q h in
      let k = has_mapped plain_entry es m.0 m.1 in
      let earlier = all_has (before e) es k.0 (and_parts (list_all (before e) es) (rises es) r).0 k.1 in
      let t = place_parts (placed n (plain_entry e)) q one in
      let name : k.0.name ≡ q.entry.name = ap (λ (d : DirEnt). d.name) k.2 ∙ ap (λ (p : Place). p.entry.name) m.2 in
      let ver : k.0.ver ≡ q.entry.ver = ap (λ (d : DirEnt). d.ver) k.2 ∙ ap (λ (p : Place). p.entry.ver) m.2 in
      clash (same k.0 e) (same_made k.0 e (name ∙ sym t.1) (ver ∙ sym t.2)) (before-other e k.0 earlier)

-- the entries of a slot
pub single_slot : (m k n : ℕ) (r : Result Head HeaderFault) (blocks : List Block) → Single (map (placed m) (entries_in (slot_with k n r blocks)))
single_slot m k n (Ok (head.Used h)) blocks = by_dir h.dir where
  by_read : (r : Result (List RawEnt) DirFault) → directory blocks ≡ r → Single (map (placed m) (plain_entries r))
  by_read (Ok es) e = single_rising m es (reads_set blocks es e).rising
  by_read (Err fault) e = tt

  by_dir : (b : Bool) → Single (map (placed m) (cond b (cond b (plain_entries (directory blocks)) []) []))
  by_dir true = by_read (directory blocks) refl
  by_dir false = tt
single_slot m k n (Ok (head.Free seq)) blocks = tt
single_slot m k n (Err fault) blocks = tt

number_from : (m : ℕ) (ss : List Slot) (r : Place) → Has (places_from m ss) r → m ≤ r.dir
number_from m [] r h = absurd h
number_from m (s ∷ ss) r h = by_case (has_parted (map (placed m) (entries_in s)) (places_from (m + 1) ss) r h) (λ k. number_from (m + 1) ss r k) where
  by_case : Has (map (placed m) (entries_in s)) r ⊎ Has (places_from (m + 1) ss) r → (Has (places_from (m + 1) ss) r → m + 1 ≤ r.dir) → m ≤ r.dir
  by_case (inl k) rest = let t = has_mapped (placed m) (entries_in s) r k in let e : m ≡ r.dir = ap (λ (q : Place). q.dir) t.2 in omega (arith, e)
  by_case (inr k) rest = let e = rest k in omega (arith, e)

-- the entries of slots, each of which has single entries
pub single_slots : (n : ℕ) (ss : List Slot) → ((k : ℕ) (s : Slot) → slice_get ss k ≡ Some s → Single (map (placed (n + k)) (entries_in s))) → Single (places_from n ss)
single_slots n [] each = tt
single_slots n (s ∷ ss) each =
    single_join (map (placed n) (entries_in s)) (places_from (n + 1) ss) here
    (single_slots (n + 1) ss (λ k x at. let z : n + suc k ≡ n + 1 + k = omega arith in subst (λ (m : ℕ). Single (map (placed m) (entries_in x))) z (each (suc k) x at)))
    apart
  where
    here : Single (map (placed n) (entries_in s))
    here = let z : n + 0 ≡ n = omega arith in subst (λ (m : ℕ). Single (map (placed m) (entries_in s))) z (each 0 s refl)

    apart : (p q : Place) → Has (map (placed n) (entries_in s)) p → Has (places_from (n + 1) ss) q → same_place p q ≡ true → ⊥
    apart p q h k one =
        let t = has_mapped (placed n) (entries_in s) p h in
        let d : n ≡ p.dir = ap (λ (x : Place). x.dir) t.2 in
        let low = number_from (n + 1) ss q k in
        let e = (place_parts p q one).0 in
        omega (arith, d, low, e)
