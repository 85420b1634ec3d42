-- What the writes of a give-back come to.
use Rattle.std.proofs.Common.{◌≡◌, ◌≢◌, ◌≤◌, ◌<◌, ◌+◌, ◌/◌, ◌⊎◌, ◌++◌, ◌&&◌, ◌||◌, ◌==◌, not, ℕ, zero, suc, Bool, true, false, cond, List, [], ◌∷◌, Option, Some, None, find, filter, length, map, nat_lt, option_map, refl, sym, ap, subst, ◌∙◌, inl, inr, arith}
use Rattle.std.specs.List.{range_with_len}
use Rattle.std.proofs.lemmas.Bool.{and_parts}
use Rattle.std.proofs.lemmas.Bool.Decides.{nat_tests}
use Rattle.base_words.specs.Fields.{Block}
use Rattle.lock_db.specs.declared.name.LockName.TheVariants.{V}
use Rattle.plain_cat.specs.declared.cat.Cat.{Cat}
use Rattle.base_words.specs.Lists.{Has, Once}
use Rattle.vol_spell.specs.Owners.{Owners}
use Rattle.base_words.proofs.Listing.{filtered, has_parted}
use Rattle.vol_spell.proofs.Placing.{has_ranged}
use Rattle.vol_parts.specs.declared.geometry.Geometry.{Geometry}
use Rattle.vol_parts.specs.declared.geometry.Part.TheVariants.{IndexBitmap, Storage}
use Rattle.vol_parts.specs.Parts.{storage_blocks}
use Rattle.vol_spell.specs.Reading.{total_of}
use Rattle.vol_spell.specs.Places.{place_of, IsPart}
use Rattle.vol_spell.specs.Spelling.{Spells}
use Rattle.vol_spell.proofs.Clusters.{once_range}
use Rattle.vol_spell.proofs.Parts.{are_parts}
use Rattle.op_law.specs.declared.need.PlanWrite.{PlanWrite}
use Rattle.op_law.specs.Freeing.{with_free}
use Rattle.extent_cache.specs.Stock.{is_covered}
use Rattle.core_space.specs.Giving.{is_seen, found_block, block_seen, has_covered, is_wanting, storage_range, clusters_place, give_place, numbers_back, clusters_back, index_back, give_writes}
use Rattle.core_state.specs.Worlds.{Stock}
use Rattle.core_state.specs.Stocks.{has_bit_at, left_by}
use Rattle.core_state.specs.Searches.{AreUnderV}
use Rattle.core_state.proofs.Seeking.{not_same}
use Rattle.base_words.proofs.Booleans.{nat_same}

abbrev pub lbns : List PlanWrite → List ℕ
lbns ws = map (λ w. w.lbn) ws

-- ---- lists

has_filtered : {A : Type 0} (p : A → Bool) (xs : List A) (x : A) → Has (filter p xs) x → Has xs x × (p x ≡ true)
has_filtered p [] x h = absurd h
has_filtered {A} p (y ∷ xs) x h = by_test (p y) refl h (λ t. has_filtered p xs x t) where
  by_test : (b : Bool) → p y ≡ b → Has (cond b (y ∷ filter p xs) (filter p xs)) x → (Has (filter p xs) x → Has xs x × (p x ≡ true)) → Has (y ∷ xs) x × (p x ≡ true)
  by_test true e (inl f) rest = (inl f, sym (ap p f) ∙ e)
  by_test true e (inr t) rest = let r = rest t in (inr r.0, r.1)
  by_test false e t rest = let r = rest t in (inr r.0, r.1)

-- where each passes, all stay; and where none does, none
all_pass : (p : ℕ → Bool) (xs : List ℕ) → ((x : ℕ) → Has xs x → p x ≡ true) → filter p xs ≡ xs
all_pass p [] each = refl
all_pass p (x ∷ xs) each = ap (λ b. cond b (x ∷ filter p xs) (filter p xs)) (each x (inl refl)) ∙ ap (λ ys. x ∷ ys) (all_pass p xs (λ y h. each y (inr h)))

none_pass : (p : ℕ → Bool) (xs : List ℕ) → ((x : ℕ) → Has xs x → p x ≡ false) → filter p xs ≡ []
none_pass p [] each = refl
none_pass p (x ∷ xs) each = ap (λ b. cond b (x ∷ filter p xs) (filter p xs)) (each x (inl refl)) ∙ none_pass p xs (λ y h. each y (inr h))

-- nothing is found where none passes, and so none does
found_none : (p : ℕ → Bool) (xs : List ℕ) → find p xs ≡ None → (x : ℕ) → Has xs x → p x ≡ false
found_none p [] e x h = absurd h
found_none p (y ∷ xs) e x h = by_test (p y) refl e h (λ f t. found_none p xs f x t) where
  by_test : (b : Bool) → p y ≡ b → cond b (Some y) (find p xs) ≡ None → Has (y ∷ xs) x → (find p xs ≡ None → Has xs x → p x ≡ false) → p x ≡ false
  by_test true f g t rest = absurd (let z : Some y ≡ None = g in cc)
  by_test false f g (inl t) rest = sym (ap p t) ∙ f
  by_test false f g (inr t) rest = rest g t

none_found : (p : ℕ → Bool) (xs : List ℕ) → ((x : ℕ) → Has xs x → p x ≡ false) → find p xs ≡ None
none_found p [] each = refl
none_found p (x ∷ xs) each = ap (λ b. cond b (Some x) (find p xs)) (each x (inl refl)) ∙ none_found p xs (λ y h. each y (inr h))

-- ---- what has its bits in a block

covers : (cs : List ℕ) (k c : ℕ) → Has cs c → is_covered k c ≡ true → has_covered cs k ≡ true
covers [] k c h e = absurd h
covers (x ∷ cs) k c h e = by_has h (covers cs k c) where
  first : (a b : Bool) → a ≡ true → (a || b) ≡ true
  first true b f = refl
  first false b f = absurd (let z : false ≡ true = f in cc)

  second : (a b : Bool) → b ≡ true → (a || b) ≡ true
  second true b f = refl
  second false b f = f

  by_has : Has (x ∷ cs) c → (Has cs c → is_covered k c ≡ true → has_covered cs k ≡ true) → (is_covered k x || has_covered cs k) ≡ true
  by_has (inl f) rest = first (is_covered k x) (has_covered cs k) (ap (is_covered k) f ∙ e)
  by_has (inr t) rest = second (is_covered k x) (has_covered cs k) (rest t e)

covered_by : (cs : List ℕ) (k : ℕ) → has_covered cs k ≡ true → (c : ℕ) × Has cs c × (is_covered k c ≡ true)
covered_by [] k e = absurd (let f : false ≡ true = e in cc)
covered_by (x ∷ cs) k e = by_test (is_covered k x) refl e (covered_by cs k) where
  by_test : (b : Bool) → is_covered k x ≡ b → (b || has_covered cs k) ≡ true → (has_covered cs k ≡ true → (c : ℕ) × Has cs c × (is_covered k c ≡ true)) → (c : ℕ) × Has (x ∷ cs) c × (is_covered k c ≡ true)
  by_test true f g rest = (x, inl refl, f)
  by_test false f g rest = let r = rest g in (r.0, inr r.1, r.2)

-- without what has its bits in block k
abbrev pub without_block : ℕ → List ℕ → List ℕ
without_block k cs = filter (λ q. not (is_covered k q)) cs

other_block : (j k c : ℕ) → j ≢ k → is_covered k c ≡ true → is_covered j c ≡ false
other_block j k c ne e = grind (arith, nat_tests)

covered_else : (j k : ℕ) (cs : List ℕ) → j ≢ k → filter (λ q. is_covered j q) (without_block k cs) ≡ filter (λ q. is_covered j q) cs
covered_else j k [] ne = refl
covered_else j k (c ∷ cs) ne = by_test (is_covered k c) refl (covered_else j k cs ne) where
  by_test : (b : Bool) → is_covered k c ≡ b → filter (λ q. is_covered j q) (without_block k cs) ≡ filter (λ q. is_covered j q) cs
      → filter (λ q. is_covered j q) (cond (not b) (c ∷ without_block k cs) (without_block k cs)) ≡ cond (is_covered j c) (c ∷ filter (λ q. is_covered j q) cs) (filter (λ q. is_covered j q) cs)
  by_test true e rest = rest ∙ sym (ap (λ b. cond b (c ∷ filter (λ q. is_covered j q) cs) (filter (λ q. is_covered j q) cs)) (other_block j k c ne e))
  by_test false e rest = ap (λ ds. cond (is_covered j c) (c ∷ ds) ds) rest

has_else : (j k : ℕ) (cs : List ℕ) → j ≢ k → has_covered (without_block k cs) j ≡ has_covered cs j
has_else j k [] ne = refl
has_else j k (c ∷ cs) ne = by_test (is_covered k c) refl (has_else j k cs ne) where
  by_test : (b : Bool) → is_covered k c ≡ b → has_covered (without_block k cs) j ≡ has_covered cs j → has_covered (cond (not b) (c ∷ without_block k cs) (without_block k cs)) j ≡ (is_covered j c || has_covered cs j)
  by_test true e rest = rest ∙ sym (ap (λ b. b || has_covered cs j) (other_block j k c ne e))
  by_test false e rest = ap (λ b. is_covered j c || b) rest

false_or_true : (b : Bool) → (b ≡ true → ⊥) → b ≡ false
false_or_true true f = absurd (f refl)
false_or_true false f = refl

has_gone : (k : ℕ) (cs : List ℕ) → has_covered (without_block k cs) k ≡ false
has_gone k cs = false_or_true (has_covered (without_block k cs) k) (λ e.
    let r = covered_by (without_block k cs) k e in
    let p = (has_filtered (λ q. not (is_covered k q)) cs r.0 r.1).1 in
    let f : not true ≡ true = sym (ap not r.2) ∙ p in
    absurd (cc))

has_less : (p : ℕ → Bool) (cs : List ℕ) (j : ℕ) → has_covered (filter p cs) j ≡ true → has_covered cs j ≡ true
has_less p cs j e = let r = covered_by (filter p cs) j e in covers cs j r.0 (has_filtered p cs r.0 r.1).0 r.2

-- ---- the writes of the storage bitmap

-- the writes of so many blocks from block a on
abbrev back_from : Geometry → List ℕ → List (ℕ × Block) → ℕ → ℕ → List PlanWrite
back_from g cs looked a c = map (clusters_back g cs looked) (filter (has_covered cs) (range_with_len a c))

-- behind block k they are those of what has its bits elsewhere
back_behind : (g : Geometry) (cs : List ℕ) (looked : List (ℕ × Block)) (k a c : ℕ) → k < a → back_from g cs looked a c ≡ back_from g (without_block k cs) looked a c
back_behind g cs looked k a zero lt = refl
back_behind g cs looked k a (suc c) lt = by_test (has_covered cs a) refl (back_behind g cs looked k (a + 1) c (omega arith)) where
  ne : (x y : ℕ) → x < y → y ≢ x
  ne x y lt e = absurd (omega arith)

  same : has_covered (without_block k cs) a ≡ has_covered cs a
  same = has_else a k cs (ne k a lt)

  write_same : clusters_back g (without_block k cs) looked a ≡ clusters_back g cs looked a
  write_same = ap (λ (qs : List ℕ). clusters_back_of qs) (covered_else a k cs (ne k a lt)) where
    clusters_back_of : List ℕ → PlanWrite
    clusters_back_of qs = record (clusters_back g cs looked a) { block = with_free (block_seen looked (place_of g (Storage a))) qs }

  by_test : (b : Bool) → has_covered cs a ≡ b → back_from g cs looked (a + 1) c ≡ back_from g (without_block k cs) looked (a + 1) c
      → map (clusters_back g cs looked) (cond (has_covered cs a) (a ∷ filter (has_covered cs) (range_with_len (a + 1) c)) (filter (has_covered cs) (range_with_len (a + 1) c)))
      ≡ map (clusters_back g (without_block k cs) looked) (cond (has_covered (without_block k cs) a) (a ∷ filter (has_covered (without_block k cs)) (range_with_len (a + 1) c)) (filter (has_covered (without_block k cs)) (range_with_len (a + 1) c)))
  by_test true e rest =
      ap (λ b. map (clusters_back g cs looked) (cond b (a ∷ filter (has_covered cs) (range_with_len (a + 1) c)) (filter (has_covered cs) (range_with_len (a + 1) c)))) e
      ∙ (λ i. sym write_same i ∷ rest i)
      ∙ sym (ap (λ b. map (clusters_back g (without_block k cs) looked) (cond b (a ∷ filter (has_covered (without_block k cs)) (range_with_len (a + 1) c)) (filter (has_covered (without_block k cs)) (range_with_len (a + 1) c)))) (same ∙ e))
  by_test false e rest =
      ap (λ b. map (clusters_back g cs looked) (cond b (a ∷ filter (has_covered cs) (range_with_len (a + 1) c)) (filter (has_covered cs) (range_with_len (a + 1) c)))) e
      ∙ rest
      ∙ sym (ap (λ b. map (clusters_back g (without_block k cs) looked) (cond b (a ∷ filter (has_covered (without_block k cs)) (range_with_len (a + 1) c)) (filter (has_covered (without_block k cs)) (range_with_len (a + 1) c)))) (same ∙ e))

-- the first of them, and what comes behind it
record IsStep (g : Geometry) (cs : List ℕ) (looked : List (ℕ × Block)) (a c : ℕ) (w : PlanWrite) (ws : List PlanWrite) : Type 0 where
  block : ℕ
  from : a ≤ block
  to : block < a + c
  covered : has_covered cs block ≡ true
  is : w ≡ clusters_back g cs looked block
  rest : ws ≡ back_from g (without_block block cs) looked a c

back_step : (g : Geometry) (cs : List ℕ) (looked : List (ℕ × Block)) (a c : ℕ) (w : PlanWrite) (ws : List PlanWrite) → back_from g cs looked a c ≡ w ∷ ws → IsStep g cs looked a c w ws
back_step g cs looked a zero w ws e = absurd (let f : 0 ≡ suc (length ws) = ap length e in omega arith)
back_step g cs looked a (suc c) w ws e = by_test (has_covered cs a) refl e (back_step g cs looked (a + 1) c w ws) where
  abbrev_head : PlanWrite → List PlanWrite → PlanWrite
  abbrev_head d [] = d
  abbrev_head d (v ∷ vs) = v

  abbrev_tail : List PlanWrite → List PlanWrite
  abbrev_tail [] = []
  abbrev_tail (v ∷ vs) = vs

  skipped : (k : ℕ) → has_covered (without_block k cs) a ≡ false → back_from g (without_block k cs) looked (a + 1) c ≡ back_from g (without_block k cs) looked a (suc c)
  skipped k f = sym (ap (λ b. map (clusters_back g (without_block k cs) looked) (cond b (a ∷ filter (has_covered (without_block k cs)) (range_with_len (a + 1) c)) (filter (has_covered (without_block k cs)) (range_with_len (a + 1) c)))) f)

  by_test : (b : Bool) → has_covered cs a ≡ b → map (clusters_back g cs looked) (cond b (a ∷ filter (has_covered cs) (range_with_len (a + 1) c)) (filter (has_covered cs) (range_with_len (a + 1) c))) ≡ w ∷ ws
      → (back_from g cs looked (a + 1) c ≡ w ∷ ws → IsStep g cs looked (a + 1) c w ws) → IsStep g cs looked a (suc c) w ws
  by_test true f h next = record {
    block = a;
    from = omega arith;
    to = omega arith;
    covered = f;
    is = sym (ap (abbrev_head w) h);
    rest = sym (ap abbrev_tail h) ∙ back_behind g cs looked a (a + 1) c (omega arith) ∙ skipped a (has_gone a cs);
  }
  by_test false f h next =
      let s = next h in
      let low = s.from in
      let high = s.to in
      record {
        block = s.block;
        from = omega arith;
        to = omega arith;
        covered = s.covered;
        is = s.is;
        rest = s.rest ∙ skipped s.block (false_or_true (has_covered (without_block s.block cs) a) (λ g. absurd (let z : true ≡ false = sym (has_less (λ q. not (is_covered s.block q)) cs a g) ∙ f in cc)));
      }

-- ---- all of them

-- the numbers go first
pub record NumbersFirst (g : Geometry) (cs ns : List ℕ) (looked : List (ℕ × Block)) (w : PlanWrite) (ws : List PlanWrite) : Type 0 where
  pub some : 0 < length ns
  pub is : w ≡ numbers_back g ns looked
  pub rest : ws ≡ give_writes g cs [] looked

-- and then the clusters, block by block
pub record ClustersNext (g : Geometry) (cs ns : List ℕ) (looked : List (ℕ × Block)) (w : PlanWrite) (ws : List PlanWrite) : Type 0 where
  pub none : ns ≡ []
  pub block : ℕ
  pub inside : IsPart g (Storage block)
  pub covered : has_covered cs block ≡ true
  pub is : w ≡ clusters_back g cs looked block
  pub rest : ws ≡ give_writes g (without_block block cs) [] looked

abbrev head_of : PlanWrite → List PlanWrite → PlanWrite
head_of d [] = d
head_of d (v ∷ vs) = v

abbrev tail_of : List PlanWrite → List PlanWrite
tail_of [] = []
tail_of (v ∷ vs) = vs

some_number : (k : ℕ) → nat_lt 0 (suc k) ≡ true
some_number k = grind (arith, nat_tests)

give_more : (g : Geometry) (cs : List ℕ) (n : ℕ) (ns : List ℕ) (looked : List (ℕ × Block)) → give_writes g cs (n ∷ ns) looked ≡ numbers_back g (n ∷ ns) looked ∷ give_writes g cs [] looked
unfolding give_writes
give_more g cs n ns looked = ap (λ (b : Bool). cond b (numbers_back g (n ∷ ns) looked ∷ []) [] ++ map (clusters_back g cs looked) (filter (has_covered cs) (storage_range g))) (some_number (length ns))

pub give_step : (g : Geometry) (cs ns : List ℕ) (looked : List (ℕ × Block)) (w : PlanWrite) (ws : List PlanWrite) → give_writes g cs ns looked ≡ w ∷ ws → NumbersFirst g cs ns looked w ws ⊎ ClustersNext g cs ns looked w ws
unfolding give_writes
give_step g cs (n ∷ ns) looked w ws e = let f = sym (give_more g cs n ns looked) ∙ e in inl (record { some = omega arith; is = sym (ap (head_of w) f); rest = sym (ap tail_of f) })
give_step g cs [] looked w ws e =
    let s = back_step g cs looked 0 (storage_blocks (total_of g)) w ws e in
    let to = s.to in
    let inside : s.block < storage_blocks (total_of g) = omega arith in
    inr (record { none = refl; block = s.block; inside = inside; covered = s.covered; is = s.is; rest = s.rest })

none_covered : (cs : List ℕ) (ks : List ℕ) → length (filter (has_covered cs) ks) ≡ 0 → (k : ℕ) → Has ks k → has_covered cs k ≡ false
none_covered cs [] e k h = absurd h
none_covered cs (j ∷ ks) e k h = by_test (has_covered cs j) refl e h (none_covered cs ks) where
  by_test : (b : Bool) → has_covered cs j ≡ b → length (cond b (j ∷ filter (has_covered cs) ks) (filter (has_covered cs) ks)) ≡ 0 → Has (j ∷ ks) k → (length (filter (has_covered cs) ks) ≡ 0 → (i : ℕ) → Has ks i → has_covered cs i ≡ false) → has_covered cs k ≡ false
  by_test true f z t rest = absurd (omega arith)
  by_test false f z (inl t) rest = sym (ap (has_covered cs) t) ∙ f
  by_test false f z (inr t) rest = rest z k t

has_range : (a c x : ℕ) → a ≤ x → x < a + c → Has (range_with_len a c) x
has_range a zero x low high = absurd (omega arith)
has_range a (suc c) x low high = by_first (a == x) refl (λ more. has_range (a + 1) c x more (omega arith)) where
  is_same : (a == x) ≡ true → a ≡ x
  is_same e = grind (arith, nat_tests)

  is_above : (a == x) ≡ false → a + 1 ≤ x
  is_above e = grind (arith, nat_tests)

  by_first : (b : Bool) → (a == x) ≡ b → (a + 1 ≤ x → Has (range_with_len (a + 1) c) x) → Has (range_with_len a (suc c)) x
  by_first true e more = inl (is_same e)
  by_first false e more = inr (more (is_above e))

length_mapped : (f : ℕ → PlanWrite) (ks : List ℕ) → length (map f ks) ≡ length ks
length_mapped f [] = refl
length_mapped f (k ∷ ks) = ap suc (length_mapped f ks)

-- where nothing is to be written, nothing of the volume is in the stock
pub give_nothing : (g : Geometry) (cs ns : List ℕ) (looked : List (ℕ × Block)) → give_writes g cs ns looked ≡ [] → ((q : ℕ) → Has cs q → q < total_of g) → (cs ≡ []) × (ns ≡ [])
unfolding give_writes
give_nothing g cs (n ∷ ns) looked e inside = absurd (let f : suc (length (give_writes g cs [] looked)) ≡ 0 = ap length (sym (give_more g cs n ns looked) ∙ e) in omega arith)
give_nothing g [] [] looked e inside = (refl, refl)
give_nothing g (c ∷ cs) [] looked e inside =
    let none : length (filter (has_covered (c ∷ cs)) (storage_range g)) ≡ 0 = sym (length_mapped (clusters_back g (c ∷ cs) looked) (filter (has_covered (c ∷ cs)) (storage_range g))) ∙ ap length e in
    let lt = inside c (inl refl) in
    let there : Has (storage_range g) (c / 4096) = has_range 0 (storage_blocks (total_of g)) (c / 4096) (omega arith) (in_bitmap c (total_of g) lt) in
    let f : true ≡ false = sym (covers (c ∷ cs) (c / 4096) c (inl refl) (is_same (c / 4096))) ∙ none_covered (c ∷ cs) (storage_range g) none (c / 4096) there in
    absurd (cc) where
      in_bitmap : (q total : ℕ) → q < total → q / 4096 < 0 + (total + 4095) / 4096
      in_bitmap q total lt = omega arith

      is_same : (a : ℕ) → (a == a) ≡ true
      is_same a = grind (arith, nat_tests)

-- ---- what is looked at

-- a block that was looked at is what was seen there
pub seen_has : (looked : List (ℕ × Block)) (lbn : ℕ) → is_seen looked lbn ≡ true → Has looked (lbn, block_seen looked lbn)
seen_has [] lbn e = absurd (let f : false ≡ true = e in cc)
seen_has (b ∷ looked) lbn e = by_test (b.0 == lbn) refl e (seen_has looked lbn) where
  is_same : (x y : ℕ) → (x == y) ≡ true → x ≡ y
  is_same x y e = grind (arith, nat_tests)

  by_test : (t : Bool) → (b.0 == lbn) ≡ t → (t || is_seen looked lbn) ≡ true → (is_seen looked lbn ≡ true → Has looked (lbn, block_seen looked lbn)) → Has (b ∷ looked) (lbn, found_block (cond t (Some b) (find (λ k. k.0 == lbn) looked)))
  by_test true f g rest = inl (ap (λ k. (k, b.1)) (is_same b.0 lbn f))
  by_test false f g rest = inr (rest g)

-- what is wanting of a part of the stock is wanting of all of it
none_wanting : (g : Geometry) (cs : List ℕ) (looked : List (ℕ × Block)) → clusters_place g cs looked ≡ None → (k : ℕ) → Has (storage_range g) k → is_wanting g cs looked k ≡ false
none_wanting g cs looked e k h = found_none (is_wanting g cs looked) (storage_range g) (by_found (find (is_wanting g cs looked) (storage_range g)) e) k h where
  by_found : (o : Option ℕ) → option_map (λ k. place_of g (Storage k)) o ≡ None → o ≡ None
  by_found None f = refl
  by_found (Some j) f = absurd (let z : Some (place_of g (Storage j)) ≡ None = f in cc)

-- all of the stock was looked at
pub record AllSeen (g : Geometry) (cs ns : List ℕ) (looked : List (ℕ × Block)) : Type 0 where
  pub index : 0 < length ns → is_seen looked (place_of g IndexBitmap) ≡ true
  pub clusters : clusters_place g cs looked ≡ None

pub all_seen : (g : Geometry) (cs ns : List ℕ) (looked : List (ℕ × Block)) → give_place g cs ns looked ≡ None → AllSeen g cs ns looked
unfolding give_place
all_seen g cs ns looked e = by_test (nat_lt 0 (length ns) && not (is_seen looked (place_of g IndexBitmap))) refl e where
  seen : (a b : Bool) → (a && not b) ≡ false → a ≡ true → b ≡ true
  seen true true f h = refl
  seen true false f h = absurd (let z : true ≡ false = f in cc)
  seen false b f h = absurd (let z : false ≡ true = h in cc)

  some : (k : ℕ) → 0 < k → nat_lt 0 k ≡ true
  some k lt = grind (arith, nat_tests)

  by_test : (b : Bool) → (nat_lt 0 (length ns) && not (is_seen looked (place_of g IndexBitmap))) ≡ b → cond b (Some (place_of g IndexBitmap)) (clusters_place g cs looked) ≡ None → AllSeen g cs ns looked
  by_test true f h = absurd (let z : Some (place_of g IndexBitmap) ≡ None = h in cc)
  by_test false f h = record { index = λ lt. seen (nat_lt 0 (length ns)) (is_seen looked (place_of g IndexBitmap)) f (some (length ns) lt); clusters = h }

seen_all : (g : Geometry) (cs : List ℕ) (looked : List (ℕ × Block)) → clusters_place g cs looked ≡ None → give_place g cs [] looked ≡ None
unfolding give_place
seen_all g cs looked e = e

-- a block that has bits of the stock was looked at
pub covered_seen : (g : Geometry) (cs ns : List ℕ) (looked : List (ℕ × Block)) (k : ℕ) → AllSeen g cs ns looked → IsPart g (Storage k) → has_covered cs k ≡ true → is_seen looked (place_of g (Storage k)) ≡ true
covered_seen g cs ns looked k all inside covered = seen (has_covered cs k) (is_seen looked (place_of g (Storage k))) (none_wanting g cs looked all.clusters k (has_range 0 (storage_blocks (total_of g)) k (omega arith) (above k (storage_blocks (total_of g)) inside))) covered where
  above : (a b : ℕ) → a < b → a < 0 + b
  above a b lt = omega arith

  seen : (a b : Bool) → (a && not b) ≡ false → a ≡ true → b ≡ true
  seen true true f h = refl
  seen true false f h = absurd (let z : true ≡ false = f in cc)
  seen false b f h = absurd (let z : false ≡ true = h in cc)

-- so it is of what is left of it
pub less_seen : (g : Geometry) (cs : List ℕ) (looked : List (ℕ × Block)) (k : ℕ) → clusters_place g cs looked ≡ None → give_place g (without_block k cs) [] looked ≡ None
less_seen g cs looked k e = seen_all g (without_block k cs) looked (ap (option_map (λ j. place_of g (Storage j))) (none_found (is_wanting g (without_block k cs) looked) (storage_range g) (λ j h. false_or_true (is_wanting g (without_block k cs) looked j) (λ t.
    let p = and_parts (has_covered (without_block k cs) j) (not (is_seen looked (place_of g (Storage j)))) t in
    let f : true ≡ false = sym (λ i. has_less (λ q. not (is_covered k q)) cs j p.0 i && p.1 i) ∙ none_wanting g cs looked e j h in
    absurd (cc)))))

pub no_numbers_seen : (g : Geometry) (cs : List ℕ) (looked : List (ℕ × Block)) → clusters_place g cs looked ≡ None → give_place g cs [] looked ≡ None
no_numbers_seen g cs looked e = seen_all g cs looked e

-- before anything is looked at, there is nothing to write where there is nothing to look at
pub give_none : (g : Geometry) (cs ns : List ℕ) → give_place g cs ns [] ≡ None → give_writes g cs ns [] ≡ []
unfolding give_writes
give_none g cs (n ∷ ns) e = absurd (let a = (all_seen g cs (n ∷ ns) [] e).index (omega arith) in let f : false ≡ true = a in cc)
give_none g cs [] e = ap (map (clusters_back g cs [])) (none_pass (has_covered cs) (storage_range g) (λ k h. unseen_none (has_covered cs k) (none_wanting g cs [] (all_seen g cs [] [] e).clusters k h))) where
  unseen_none : (a : Bool) → (a && not false) ≡ false → a ≡ false
  unseen_none true f = absurd (let z : true ≡ false = f in cc)
  unseen_none false f = refl

-- ---- they are to blocks that lie apart

once_places : (g : Geometry) (ks : List ℕ) → Once ks → Once (map (λ k. place_of g (Storage k)) ks)
once_places g [] o = tt
once_places g (k ∷ ks) o = ((λ t. o.0 (at_place ks k t)), once_places g ks o.1) where
  at_place : (js : List ℕ) (i : ℕ) → Has (map (λ k. place_of g (Storage k)) js) (place_of g (Storage i)) → Has js i
  at_place [] i t = absurd t
  at_place (j ∷ js) i (inl e) = let same : g.bitmap_lbn + 1 + j ≡ g.bitmap_lbn + 1 + i = e in inl (let f : j ≡ i = omega arith in f)
  at_place (j ∷ js) i (inr t) = inr (at_place js i t)

lbns_back : (g : Geometry) (cs : List ℕ) (looked : List (ℕ × Block)) (ks : List ℕ) → lbns (map (clusters_back g cs looked) ks) ≡ map (λ k. place_of g (Storage k)) ks
lbns_back g cs looked [] = refl
lbns_back g cs looked (k ∷ ks) = ap (λ ls. place_of g (Storage k) ∷ ls) (lbns_back g cs looked ks)

place_has : (g : Geometry) (ks : List ℕ) (l : ℕ) → Has (map (λ k. place_of g (Storage k)) ks) l → (k : ℕ) × Has ks k × (place_of g (Storage k) ≡ l)
place_has g [] l t = absurd t
place_has g (k ∷ ks) l (inl e) = (k, inl refl, e)
place_has g (k ∷ ks) l (inr t) = let r = place_has g ks l t in (r.0, inr r.1, r.2)

storage_once : (g : Geometry) (cs : List ℕ) (looked : List (ℕ × Block)) → Once (lbns (give_writes g cs [] looked))
unfolding give_writes
storage_once g cs looked =
    subst Once (sym (lbns_back g cs looked (filter (has_covered cs) (storage_range g)))) (once_places g (filter (has_covered cs) (storage_range g)) (filtered.once (has_covered cs) (storage_range g) (once_range 0 (storage_blocks (total_of g)))))

not_there : (g : Geometry) (cs : List ℕ) (looked : List (ℕ × Block)) (base : List Block) (own : Owners) (c : Cat) → Spells g base own c → Has (lbns (give_writes g cs [] looked)) (place_of g IndexBitmap) → ⊥
unfolding give_writes
not_there g cs looked base own c s t =
    let r = place_has g (filter (has_covered cs) (storage_range g)) (place_of g IndexBitmap) (subst (λ (ls : List ℕ). Has ls (place_of g IndexBitmap)) (lbns_back g cs looked (filter (has_covered cs) (storage_range g))) t) in
    let h = has_ranged 0 (storage_blocks (total_of g)) r.0 (has_filtered (has_covered cs) (storage_range g) r.0 r.1).0 in
    let inside : r.0 < storage_blocks (total_of g) = above r.0 (storage_blocks (total_of g)) h.1 in
    let parts = are_parts g base own c s in
    absurd (let same : IndexBitmap ≡ Storage r.0 = parts.apart IndexBitmap (Storage r.0) tt inside (sym r.2) in cc) where
      above : (a b : ℕ) → a < 0 + b → a < b
      above a b lt = omega arith

pub give_once : (g : Geometry) (cs ns : List ℕ) (looked : List (ℕ × Block)) (base : List Block) (own : Owners) (c : Cat) → Spells g base own c → Once (map (λ w. w.lbn) (give_writes g cs ns looked))
give_once g cs [] looked base own c s = storage_once g cs looked
give_once g cs (n ∷ ns) looked base own c s = subst (λ (ws : List PlanWrite). Once (lbns ws)) (sym (give_more g cs n ns looked)) (not_there g cs looked base own c s, storage_once g cs looked)

-- all of them are under V
pub give_under : (g : Geometry) (cs ns : List ℕ) (looked : List (ℕ × Block)) → AreUnderV (give_writes g cs ns looked)
unfolding give_writes
give_under g cs ns looked w h = elim (has_parted (index_back g ns looked) (map (clusters_back g cs looked) (filter (has_covered cs) (storage_range g))) w h) [
  | inl a ↦ of_index (nat_lt 0 (length ns)) a
  | inr b ↦ of_blocks (filter (has_covered cs) (storage_range g)) b
] where
  of_index : (b : Bool) → Has (cond b (numbers_back g ns looked ∷ []) []) w → w.lock ≡ V
  of_index true (inl e) = ap (λ (v : PlanWrite). v.lock) (sym e)
  of_index true (inr f) = absurd f
  of_index false f = absurd f

  of_blocks : (ks : List ℕ) → Has (map (clusters_back g cs looked) ks) w → w.lock ≡ V
  of_blocks [] f = absurd f
  of_blocks (k ∷ ks) (inl e) = ap (λ (v : PlanWrite). v.lock) (sym e)
  of_blocks (k ∷ ks) (inr f) = of_blocks ks f

-- ---- what stays in the stock

not_index : (g : Geometry) (base : List Block) (own : Owners) (c : Cat) (k : ℕ) → Spells g base own c → IsPart g (Storage k) → place_of g IndexBitmap ≡ place_of g (Storage k) → ⊥
not_index g base own c k s inside e = let parts = are_parts g base own c s in absurd (let same : IndexBitmap ≡ Storage k = parts.apart IndexBitmap (Storage k) tt inside e in cc)

-- no cluster of the volume has its bit in the index-file bitmap
pub differ_places : (g : Geometry) (base : List Block) (own : Owners) (c : Cat) (q : ℕ) → Spells g base own c → q / 4096 < storage_blocks (total_of g) → has_bit_at g (place_of g IndexBitmap) q ≡ false
differ_places g base own c q s inside = not_same (place_of g (Storage (q / 4096))) (place_of g IndexBitmap) (λ f. not_index g base own c (q / 4096) s inside (sym f))

-- with the write of the index-file bitmap the clusters stay
pub numbers_leave : (g : Geometry) (base : List Block) (own : Owners) (c : Cat) (stock : Stock) (w : PlanWrite) → Spells g base own c → ((q : ℕ) → Has stock.clusters q → q < total_of g) → w.lbn ≡ place_of g IndexBitmap
    → left_by g w.lbn stock ≡ record { clusters = stock.clusters; numbers = [] }
numbers_leave g base own c stock w s inside e =
    ap (λ l. left_by g l stock) e
    ∙ (λ i. record {
      clusters = all_pass (λ q. not (has_bit_at g (place_of g IndexBitmap) q)) stock.clusters (λ q h. ap not (not_same (place_of g (Storage (q / 4096))) (place_of g IndexBitmap) (λ f. not_index g base own c (q / 4096) s (in_bitmap q (total_of g) (inside q h)) (sym f)))) i;
      numbers = cond (nat_same (place_of g IndexBitmap) (place_of g IndexBitmap) refl i) [] stock.numbers;
    }) where
      in_bitmap : (q total : ℕ) → q < total → q / 4096 < (total + 4095) / 4096
      in_bitmap q total lt = omega arith

-- and with that of a block of the storage bitmap the others
pub clusters_leave : (g : Geometry) (base : List Block) (own : Owners) (c : Cat) (stock : Stock) (w : PlanWrite) (k : ℕ) → Spells g base own c → IsPart g (Storage k) → w.lbn ≡ place_of g (Storage k)
    → left_by g w.lbn stock ≡ record { clusters = without_block k stock.clusters; numbers = stock.numbers }
clusters_leave g base own c stock w k s inside e =
    ap (λ l. left_by g l stock) e
    ∙ (λ i. record {
      clusters = filter (λ q. not (same_block (g.bitmap_lbn + 1) (q / 4096) k i)) stock.clusters;
      numbers = cond (not_same (place_of g IndexBitmap) (place_of g (Storage k)) (λ f. not_index g base own c k s inside f) i) [] stock.numbers;
    }) where
      same_block : (first a b : ℕ) → (first + a == first + b) ≡ (a == b)
      same_block first a b = grind (arith, nat_tests)
