-- The clusters and the number of a file that go to another owner.
use Rattle.std.proofs.Common.{◌≡◌, ◌∙◌, ◌+◌, ◌<◌, ◌≤◌, ℕ, Bool, true, false, cond, List, [], Some, map, length, get_or, slice_get, refl, sym, ap, subst, arith, ◌⊎◌, inl, inr, if◌then◌else◌}
use Rattle.std.specs.Prelude.{◌==◌, ◌≢◌, ◌↔◌, ◌||◌, count_by}
use Rattle.std.specs.List.{list_any}
use Rattle.std.proofs.lemmas.List.{ext_get_or, get_or-map, length-map}
use Rattle.std.proofs.lemmas.Option.{slice_get-get_or, get_or_from_slice_get}
use Rattle.base_words.specs.Lists.{Has}
use Rattle.base_words.proofs.Listing.{any_has, has_any}
use Rattle.vol_parts.specs.Catalogues.{flagged}
use Rattle.vol_parts.proofs.Flagging.{flagged-at, length-flagged}
use Rattle.std.proofs.lemmas.Bool.{eq-eqb, eqb-true}
use Rattle.vol_spell.specs.declared.owner.Owner.{Owner}
use Rattle.vol_spell.specs.declared.owner.Owner.TheVariants.{Free, InFile, Outside, Leaked}
use Rattle.vol_spell.specs.Owners.{Owners, OwnersMove, IsFileMove, IsDeathMove}
use Rattle.vol_spell.specs.Counts.{is_same_owner}
use Rattle.vol_mends.specs.Weak.{NoOuts}
use Rattle.vol_mends.proofs.Basics.{clash}
use Rattle.vol_mends.proofs.Turned.{turned, turned_count, turned_was, turned_is, turned_moves, turned_on, none_outside, count_turned}

-- what file n has goes to this owner
abbrev pub out_of : ℕ → Owner → Owner → Owner
out_of n to Free = Free
out_of n to (InFile i) = if n == i then to else InFile i
out_of n to (Outside m) = Outside m
out_of n to Leaked = Leaked

abbrev pub each_out : ℕ → Owner → ℕ → Owner → Owner
each_out n to q x = out_of n to x

abbrev pub parted : ℕ → Owner → Owners → Owners
parted n to own = record { clusters = turned (each_out n to) 0 own.clusters; numbers = turned (each_out n to) 0 own.numbers }

-- ---- moves

leaves_file : (n : ℕ) (x : Owner) → (out_of n (Outside 0) x ≡ x) ⊎ (IsFileMove 0 n (Some x) × IsFileMove 0 n (Some (out_of n (Outside 0) x)))
leaves_file n Free = inl refl
leaves_file n (Outside m) = inl refl
leaves_file n Leaked = inl refl
leaves_file n (InFile i) = by (n == i) refl where
  by : (b : Bool) → (n == i) ≡ b → (cond b (Outside 0) (InFile i) ≡ InFile i) ⊎ ((i ≡ n) × IsFileMove 0 n (Some (cond b (Outside 0) (InFile i))))
  by true e = inr (sym (eqb-true n i e), refl)
  by false e = inl refl

dies : (n : ℕ) (x : Owner) → (out_of n Leaked x ≡ out_of n (Outside 0) x) ⊎ (IsDeathMove 0 (Some (out_of n (Outside 0) x)) × IsDeathMove 0 (Some (out_of n Leaked x)))
dies n Free = inl refl
dies n (Outside m) = inl refl
dies n Leaked = inl refl
dies n (InFile i) = by (n == i) where
  by : (b : Bool) → (cond b Leaked (InFile i) ≡ cond b (Outside 0) (InFile i)) ⊎ (IsDeathMove 0 (Some (cond b (Outside 0) (InFile i))) × IsDeathMove 0 (Some (cond b Leaked (InFile i))))
  by true = inr (refl, tt)
  by false = inl refl

-- to a node, by a write of the file's header
pub to_node : (n : ℕ) (own : Owners) → OwnersMove (IsFileMove 0 n) own (parted n (Outside 0) own)
to_node n own = record {
  clusters = turned_moves (IsFileMove 0 n) (each_out n (Outside 0)) own.clusters (λ q x at. leaves_file n x);
  numbers = turned_moves (IsFileMove 0 n) (each_out n (Outside 0)) own.numbers (λ q x at. leaves_file n x);
}

-- and from there they leak
pub to_leaks : (n : ℕ) (own : Owners) → OwnersMove (IsDeathMove 0) (parted n (Outside 0) own) (parted n Leaked own)
to_leaks n own = record {
  clusters = turned_on (IsDeathMove 0) (each_out n (Outside 0)) (each_out n Leaked) own.clusters (λ q x at. dies n x);
  numbers = turned_on (IsDeathMove 0) (each_out n (Outside 0)) (each_out n Leaked) own.numbers (λ q x at. dies n x);
}

-- ---- what is left

not_file : (n : ℕ) (to x : Owner) → to ≢ InFile n → out_of n to x ≡ InFile n → ⊥
not_file n to Free ne e = cc e
not_file n to (Outside m) ne e = cc e
not_file n to Leaked ne e = cc e
not_file n to (InFile i) ne e = by (n == i) refl e where
  by : (b : Bool) → (n == i) ≡ b → cond b to (InFile i) ≡ InFile n → ⊥
  by true h k = ne k
  by false h k = let same : i ≡ n = cc k in clash (n == i) (eq-eqb n i (sym same)) h

-- the file has nothing
pub nothing_left : (n : ℕ) (to : Owner) (xs : List Owner) (q : ℕ) → to ≢ InFile n → slice_get (turned (each_out n to) 0 xs) q ≡ Some (InFile n) → ⊥
nothing_left n to xs q ne e = let r = turned_was (each_out n to) xs q (InFile n) e in not_file n to r.0 ne r.2

was_out : (n m : ℕ) (x : Owner) → out_of n Leaked x ≡ Outside m → x ≡ Outside m
was_out n m Free e = absurd (cc e)
was_out n m (Outside k) e = e
was_out n m Leaked e = absurd (cc e)
was_out n m (InFile i) e = by (n == i) e where
  by : (b : Bool) → cond b Leaked (InFile i) ≡ Outside m → InFile i ≡ Outside m
  by true k = absurd (cc k)
  by false k = k

-- a cluster and a number of no node
pub no_cluster_out : (own : Owners) → NoOuts own → (q node : ℕ) → slice_get own.clusters q ≡ Some (Outside node) → ⊥
no_cluster_out own outs q node e = by (((outs node).clusters.all q).0 e) where
  by : ⊥ ⊎ ⊥ → ⊥
  by (inl h) = h
  by (inr h) = h

pub no_number_out : (own : Owners) → NoOuts own → (q node : ℕ) → slice_get own.numbers q ≡ Some (Outside node) → ⊥
no_number_out own outs q node e = by (((outs node).numbers.all q).0 e) where
  by : ⊥ ⊎ ⊥ → ⊥
  by (inl h) = h
  by (inr h) = h

-- nobody holds anything once they have leaked
pub leaks_out : (n : ℕ) (own : Owners) → NoOuts own → NoOuts (parted n Leaked own)
leaks_out n own outs node = record {
  clusters = none_outside node (turned (each_out n Leaked) 0 own.clusters) (λ q e. let r = turned_was (each_out n Leaked) own.clusters q (Outside node) e in no_cluster_out own outs q node (r.1 ∙ ap (λ x. Some x) (was_out n node r.0 r.2)));
  numbers = none_outside node (turned (each_out n Leaked) 0 own.numbers) (λ q e. let r = turned_was (each_out n Leaked) own.numbers q (Outside node) e in no_number_out own outs q node (r.1 ∙ ap (λ x. Some x) (was_out n node r.0 r.2)));
}

-- ---- how much leaks

each_counts : (n : ℕ) (x : Owner) → cond (is_same_owner Leaked (out_of n Leaked x)) 1 0 ≡ cond (is_same_owner Leaked x) 1 0 + cond (is_same_owner (InFile n) x) 1 0
unfolding is_same_owner
each_counts n Free = refl
each_counts n (Outside m) = refl
each_counts n Leaked = refl
each_counts n (InFile i) = by (n == i) where
  by : (b : Bool) → cond (is_same_owner Leaked (cond b Leaked (InFile i))) 1 0 ≡ 0 + cond b 1 0
  by true = refl
  by false = refl

pub leaks_count : (n : ℕ) (xs : List Owner) → count_by (is_same_owner Leaked) (turned (each_out n Leaked) 0 xs) ≡ count_by (is_same_owner Leaked) xs + count_by (is_same_owner (InFile n)) xs
leaks_count n xs = count_turned (is_same_owner Leaked) (is_same_owner (InFile n)) (each_out n Leaked) 0 xs (λ q x. each_counts n x)

flag_kept : (n : ℕ) (x : Owner) → (x ≡ InFile n → ⊥) → is_same_owner Leaked (out_of n Leaked x) ≡ is_same_owner Leaked x
flag_kept n Free ne = refl
flag_kept n (Outside m) ne = refl
flag_kept n Leaked ne = refl
flag_kept n (InFile i) ne = by (n == i) refl where
  by : (b : Bool) → (n == i) ≡ b → is_same_owner Leaked (cond b Leaked (InFile i)) ≡ is_same_owner Leaked (InFile i)
  by true e = absurd (ne (ap (λ k. InFile k) (sym (eqb-true n i e))))
  by false e = refl

flag_set : (n : ℕ) → is_same_owner Leaked (out_of n Leaked (InFile n)) ≡ true
unfolding is_same_owner
flag_set n = ap (λ b. is_same_owner Leaked (cond b Leaked (InFile n))) (eq-eqb n n refl)

-- the numbers of the file are leaked, and the others are as they were
pub flags_set : (n : ℕ) (xs : List Owner) (ns : List ℕ) → ((m : ℕ) → Has ns m → 1 ≤ m) → ((q : ℕ) → Has ns (q + 1) ↔ (slice_get xs q ≡ Some (InFile n)))
    → map (is_same_owner Leaked) (turned (each_out n Leaked) 0 xs) ≡ flagged ns (map (is_same_owner Leaked) xs)
flags_set n xs ns from are = ext_get_or false _ _ (count ∙ sym (length-flagged ns old ∙ length-map xs (is_same_owner Leaked))) each where
  old : List Bool
  old = map (is_same_owner Leaked) xs

  count : length (map (is_same_owner Leaked) (turned (each_out n Leaked) 0 xs)) ≡ length xs
  count = length-map (turned (each_out n Leaked) 0 xs) (is_same_owner Leaked) ∙ turned_count (each_out n Leaked) 0 xs

  or_true : (t : Bool) → true ≡ (t || true)
  or_true true = refl
  or_true false = refl

  or_false : (t : Bool) → t ≡ (t || false)
  or_false true = refl
  or_false false = refl

  by_slot : (i : ℕ) (x : Owner) → slice_get xs i ≡ Some x → (t : Bool) → list_any (λ k. k == i + 1) ns ≡ t → is_same_owner Leaked (out_of n Leaked x) ≡ (is_same_owner Leaked x || t)
  by_slot i x at true e =
      let r = any_has (λ k. k == i + 1) ns e in
      let mine = (are i).0 (subst (λ (k : ℕ). Has ns k) (eqb-true r.0 (i + 1) r.2) r.1) in
      let both : Some x ≡ Some (InFile n) = sym at ∙ mine in
      let is : x ≡ InFile n = cc both in
      ap (λ y. is_same_owner Leaked (out_of n Leaked y)) is ∙ (flag_set n ∙ or_true (is_same_owner Leaked x))
  by_slot i x at false e =
      flag_kept n x (λ is. clash _ (has_any (λ k. k == i + 1) ns (i + 1) ((are i).1 (at ∙ ap (λ y. Some y) is)) (eq-eqb (i + 1) (i + 1) refl)) e)
      ∙ or_false (is_same_owner Leaked x)

  each : (i : ℕ) → i < length (map (is_same_owner Leaked) (turned (each_out n Leaked) 0 xs)) → get_or (map (is_same_owner Leaked) (turned (each_out n Leaked) 0 xs)) i false ≡ get_or (flagged ns old) i false
  each i lt =
      let all = count in
      let long = turned_count (each_out n Leaked) 0 xs in
      let known = length-map xs (is_same_owner Leaked) in
      let inside : i < length xs = omega (arith, lt, all) in
      let x = get_or xs i Free in
      let at : slice_get xs i ≡ Some x = slice_get-get_or xs i Free inside in
      get_or-map (is_same_owner Leaked) (turned (each_out n Leaked) 0 xs) i Free false (omega (arith, inside, long))
      ∙ (ap (is_same_owner Leaked) (get_or_from_slice_get (turned (each_out n Leaked) 0 xs) i (out_of n Leaked x) Free (turned_is (each_out n Leaked) xs i x at))
      ∙ (by_slot i x at (list_any (λ k. k == i + 1) ns) refl
      ∙ (ap (λ t. t || list_any (λ k. k == i + 1) ns) (sym (get_or-map (is_same_owner Leaked) xs i Free false inside))
      ∙ sym (flagged-at ns old i from (omega (arith, inside, known))))))
