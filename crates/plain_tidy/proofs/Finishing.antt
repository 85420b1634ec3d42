-- What mending makes of a tidy catalogue, and that a catalogue in which nothing is left to mend is tidy.
use Rattle.std.proofs.Common.{◌≡◌, ◌&&◌, ◌||◌, ◌-◌, ◌+◌, ◌⊎◌, inl, inr, ◌∙◌, ℕ, suc, Bool, true, false, cond, not, List, [], ◌∷◌, Some, None, map, length, slice_get, refl, sym, ap, subst, arith}
use Rattle.std.specs.List.{Contains, count_by}
use Rattle.std.proofs.lemmas.Bool.{cases_Bool, and_from, and_parts}
use Rattle.std.proofs.lemmas.List.Sums.{sum_by-cons}
use Rattle.plain_cat.specs.declared.history.Mended.{Mended}
use Rattle.plain_cat.specs.declared.cat.Cat.{Cat}
use Rattle.plain_cat.specs.declared.cat.File.{File}
use Rattle.plain_cat.specs.declared.cat.Slot.{Slot}
use Rattle.plain_cat.specs.declared.cat.Slot.TheVariants.{Used, Free}
use Rattle.plain_rules.specs.declared.places.Place.{Place}
use Rattle.plain_rules.specs.Lookups.{file_at}
use Rattle.plain_rules.specs.Mending.{places, is_named, same_place, each_from, without_opens, is_empty, is_lost_slot, lost, enter, with_lost, is_gone, gone_slot, without_gone, without_leaks, with_sums, is_used, is_true, counts, put_right, mended}
use Rattle.plain_rules.specs.Answers.{has_entries}
use Rattle.plain_rules.specs.Replaying.{dead}
use Rattle.plain_mends.specs.Resuming.{AreKeyed}
use Rattle.plain_mends.specs.Sound.{IsSound}
use Rattle.plain_mends.specs.Waiting.{IsDone}
use Rattle.base_words.specs.Lists.{Has}
use Rattle.base_words.proofs.Listing.{has_from, place_of}
use Rattle.plain_laws.proofs.Standing.{file_from}
use Rattle.plain_laws.proofs.Places.{In}
use Rattle.plain_laws.proofs.Steps.{has_number, kept_from, kept_to}
use Rattle.plain_mends.proofs.Frames.{mended_by}
use Rattle.plain_mends.proofs.SlotSteps.{lost_has, nobody_enters}
use Rattle.plain_mends.proofs.SoundMends.{dead_sound, mended_sound}
use Rattle.plain_tidy.specs.Tidy.{IsTidy, less_marked, without_marked, is_marked_slot, tidied, tidy_counts}
use Rattle.plain_tidy.proofs.Neat.{Neat, neat_from, tidy_from}
use Rattle.plain_tidy.proofs.Answering.{beside_neat, no_entry}

-- ---- where nothing is left to mend

-- a file that is not lost is named
not_lost : (c : Cat) → IsDone c → (n : ℕ) (f : File) → file_at c n ≡ Some f → f.marked ≡ false → (b : Bool) → is_named c (record { num = n; seq = f.seq }) ≡ b → b ≡ true
not_lost c done n f at free true is = refl
not_lost c done n f at free false is =
    let passes : is_lost_slot c (is_empty f) n (Used f) ≡ true =
    and_from (not f.marked && not (is_named c (record { num = n; seq = f.seq }))) (cond (is_empty f) (is_empty f) (not (is_empty f)))
    (and_from (not f.marked) (not (is_named c (record { num = n; seq = f.seq }))) (ap not free) (ap not is)) (chosen (is_empty f)) in
    absurd (subst (λ (ks : List ℕ). Has ks n) (none (is_empty f)) (lost_has c (is_empty f) n f at passes))
  where
    chosen : (b : Bool) → cond b b (not b) ≡ true
    chosen true = refl
    chosen false = refl

    none : (empty : Bool) → lost c empty ≡ []
    none true = done.empty
    none false = done.full

-- by places, and not by where they stand
pub keyed_places : (c : Cat) → AreKeyed c → (p q : Place) → Contains (places c) p → Contains (places c) q → same_place p q ≡ true → p ≡ q
keyed_places c keyed p q has also same =
    let i = place_of (places c) p (has_from (places c) p has) in
    let j = place_of (places c) q (has_from (places c) q also) in
    let both : Some p ≡ Some q = sym i.1 ∙ (ap (λ k. slice_get (places c) k) (keyed i.0 j.0 p q i.1 j.1 same) ∙ j.1) in
    cc both

pub done_tidy : (c : Cat) → IsSound c → AreKeyed c → IsDone c → IsTidy c
done_tidy c sound keyed done = record {
  sound = sound;
  stay = done.stay;
  keyed = keyed_places c keyed;
  named = λ n f at free. not_lost c done n f at free (is_named c (record { num = n; seq = f.seq })) refl;
}

-- ---- deaths

dead_files : (c : Cat) (n k : ℕ) (numbers : List ℕ) → (dead c n k numbers).files ≡ c.files
unfolding dead
dead_files c n k numbers = refl

pub dead_tidy : (c : Cat) (n k : ℕ) (numbers : List ℕ) → IsTidy c → IsTidy (dead c n k numbers)
dead_tidy c n k numbers t = tidy_from (dead c n k numbers) (dead_sound c n k numbers t.sound) (beside_neat c (dead c n k numbers) 0 (dead_files c n k numbers) (neat_from c t))

-- ---- what mending does

none_has : (xs : List ℕ) → ((x : ℕ) → Has xs x → ⊥) → xs ≡ []
none_has [] h = refl
none_has (x ∷ xs) h = absurd (h x (inl refl))

each_map : (g : ℕ → Slot → Slot) (h : Slot → Slot) (n : ℕ) (xs : List Slot) → ((i : ℕ) (s : Slot) → slice_get xs i ≡ Some s → g (n + i) s ≡ h s) → each_from g n xs ≡ map h xs
each_map g h n [] same = refl
each_map g h n (x ∷ xs) same =
    let here : n ≡ n + 0 = omega arith in
    ap (λ (y : Slot). y ∷ each_from g (n + 1) xs) (ap (λ k. g k x) here ∙ same 0 x refl)
    ∙ ap (λ ys. h x ∷ ys) (each_map g h (n + 1) xs (λ i s at. let there : n + 1 + i ≡ n + suc i = omega arith in ap (λ k. g k s) there ∙ same (suc i) s at))

unfoldable pub one_if : Bool → ℕ
one_if b = cond b 1 0

pub counted : (p : Slot → Bool) (x : Slot) (xs : List Slot) → count_by p (x ∷ xs) ≡ one_if (p x) + count_by p xs
unfolding one_if
counted p x xs = sum_by-cons (λ (s : Slot). one_if (p s)) x xs

-- a file in use is marked for delete or left
one_of_both : (x : Slot) → one_if (is_used x) ≡ one_if (is_marked_slot x) + one_if (is_used (less_marked x))
unfolding one_if
one_of_both (Free q) = refl
one_of_both (Used f) = by_mark f.marked where
  by_mark : (b : Bool) → 1 ≡ one_if b + one_if (is_used (cond b (Free f.seq) (Used f)))
  by_mark true = refl
  by_mark false = refl

used_count : (xs : List Slot) → count_by is_used xs ≡ count_by is_marked_slot xs + count_by is_used (map less_marked xs)
used_count [] = refl
used_count (x ∷ xs) =
    let a = counted is_used x xs in
    let b = counted is_marked_slot x xs in
    let d = counted is_used (less_marked x) (map less_marked xs) in
    let e = one_of_both x in
    let rest = used_count xs in
    omega (arith, a, b, d, e, rest)

module _ (c : Cat) (t : IsTidy c) where
  abbrev shut : Cat
  shut = without_opens c

  stands : (i : ℕ) (f : File) → slice_get c.files i ≡ Some (Used f) → file_at c (1 + i) ≡ Some f
  stands i f at = let place : i ≡ 1 + i - 1 = omega arith in file_from c (1 + i) f (omega arith) (ap (λ k. slice_get c.files k) (sym place) ∙ at)

  lost_none : (empty : Bool) → lost c empty ≡ []
  lost_none empty = none_has (lost c empty) (λ n has. let r = has_number (is_lost_slot c empty) 1 c.files n has in by_slot n r.place r.slot r.at r.number r.passed) where
    by_mark : (n : ℕ) (f : File) → file_at c n ≡ Some f → is_lost_slot c empty n (Used f) ≡ true → (f.marked ≡ true) ⊎ (f.marked ≡ false) → ⊥
    by_mark n f at passed (inl marked) =
        let a = (and_parts (not f.marked) (not (is_named c (record { num = n; seq = f.seq }))) (and_parts (not f.marked && not (is_named c (record { num = n; seq = f.seq }))) _ passed).0).0 in
        let both : false ≡ true = ap not (sym marked) ∙ a in
        absurd (cc both)
    by_mark n f at passed (inr free) =
        let a = (and_parts (not f.marked) (not (is_named c (record { num = n; seq = f.seq }))) (and_parts (not f.marked && not (is_named c (record { num = n; seq = f.seq }))) _ passed).0).1 in
        let both : false ≡ true = ap not (sym (t.named n f at free)) ∙ a in
        absurd (cc both)

    by_slot : (n i : ℕ) (s : Slot) → slice_get c.files i ≡ Some s → n ≡ 1 + i → is_lost_slot c empty n s ≡ true → ⊥
    by_slot n i (Free q) at number passed = let both : false ≡ true = passed in absurd (cc both)
    by_slot n i (Used f) at number passed = by_mark n f (ap (λ k. file_at c k) number ∙ stands i f at) passed (cases_Bool f.marked)

  no_one : (m : ℕ) → Has (lost c true) m → enter c m ≡ None
  no_one m has = absurd (subst (λ (ks : List ℕ). Has ks m) (lost_none true) has)

  gone_is : without_gone shut ≡ without_marked shut
  gone_is = ap (λ (fs : List Slot). record shut { files = fs }) (each_map (gone_slot shut) less_marked 1 c.files same) where
    by_mark : (n : ℕ) (f : File) → file_at c n ≡ Some f → (f.marked ≡ true) ⊎ (f.marked ≡ false) → cond (is_gone shut n f) (Free f.seq) (Used f) ≡ cond f.marked (Free f.seq) (Used f)
    by_mark n f at (inl marked) =
        ap (λ b. cond (b || not (is_named shut (record { num = n; seq = f.seq }))) (Free f.seq) (Used f)) marked ∙ ap (λ b. cond b (Free f.seq) (Used f)) (sym marked)
    by_mark n f at (inr free) =
        ap (λ b. cond (b || not (is_named shut (record { num = n; seq = f.seq }))) (Free f.seq) (Used f)) free
        ∙ (ap (λ b. cond (not b) (Free f.seq) (Used f)) (t.named n f at free) ∙ ap (λ b. cond b (Free f.seq) (Used f)) (sym free))

    same : (i : ℕ) (s : Slot) → slice_get c.files i ≡ Some s → gone_slot shut (1 + i) s ≡ less_marked s
    same i (Free q) at = refl
    same i (Used f) at = by_mark (1 + i) f (stands i f at) (cases_Bool f.marked)

  pub right_is : put_right shut ≡ tidied c
  right_is = ap (λ (x : Cat). with_sums (without_leaks x)) gone_is

  counts_are : counts c shut shut (tidied c) ≡ tidy_counts c
  counts_are =
      let none : length (places c) - length (places c) ≡ 0 = omega arith in
      let sum = used_count c.files in
      let gone : count_by is_used c.files - count_by is_used (map less_marked c.files) ≡ count_by is_marked_slot c.files = omega (arith, sum) in
      ap (λ (k : ℕ). record { entered = k; removed = k; gone = count_by is_used c.files - count_by is_used (map less_marked c.files); clusters = c.leaked; numbers = count_by is_true c.leaked_numbers }) none
      ∙ ap (λ (k : ℕ). record { entered = 0; removed = 0; gone = k; clusters = c.leaked; numbers = count_by is_true c.leaked_numbers }) gone

  pub tidy_mended : mended c ≡ Some (tidied c, tidy_counts c)
  tidy_mended =
      mended_by c shut shut (sym t.stay) (ap with_lost (sym t.stay) ∙ nobody_enters c t.stay (lost_none false) no_one)
      ∙ (ap (λ (x : Cat). Some (x, counts c shut shut x)) right_is ∙ ap (λ (m : Mended). Some (tidied c, m)) counts_are)

  -- ---- and what it leaves

  h : Neat c 0
  h = neat_from c t

  abbrev left : Cat
  left = put_right shut

  was : (n : ℕ) (f : File) → file_at left n ≡ Some f → (file_at c n ≡ Some f) × (is_gone shut n f ≡ false)
  was n f at = kept_from shut n f at

  is_left : (n : ℕ) (f : File) → file_at c n ≡ Some f → f.marked ≡ false → file_at left n ≡ Some f
  is_left n f at free = kept_to shut n f at (ap (λ b. b || not (is_named shut (record { num = n; seq = f.seq }))) free ∙ ap not (t.named n f at free))

  in_was : (p : Place) → In left p → In c p
  in_was p i = record { file = i.file; at = (was p.dir i.file i.at).0; dir = i.dir; entry = i.entry }

  -- a directory with an entry is not marked for delete
  holder : (p : Place) (i : In c p) → (i.file.marked ≡ true) ⊎ (i.file.marked ≡ false) → i.file.marked ≡ false
  holder p i (inr free) = free
  holder p i (inl marked) = absurd (no_entry i.file (none (has_entries (Some i.file)) refl) p.entry i.dir i.entry) where
    none : (b : Bool) → has_entries (Some i.file) ≡ b → b ≡ false
    none false is = refl
    none true is = let both : true ≡ false = sym marked ∙ t.sound.closed p.dir i.file i.at is in absurd (cc both)

  in_is : (p : Place) → In c p → In left p
  in_is p i = record { file = i.file; at = is_left p.dir i.file i.at (holder p i (cases_Bool i.file.marked)); dir = i.dir; entry = i.entry }

  left_neat : Neat left 0
  left_neat = record {
    placed = λ n f e at has. h.placed n f e (was n f at).0 has;
    one = λ p q i j same high. h.one p q (in_was p i) (in_was q j) same high;
    own = λ p i low. h.own p (in_was p i) low;
    alive = λ p i. let a = h.alive p (in_was p i) in record { file = a.file; at = is_left p.entry.fid.num a.file a.at a.free; seq = a.seq; free = a.free };
    keyed = λ p q i j m. h.keyed p q (in_was p i) (in_was q j) m;
    named = λ n f at free apart. let w = h.named n f (was n f at).0 free apart in record { place = w.place; within = in_is w.place w.within; same = w.same };
  }

  pub tidied_tidy : IsTidy (tidied c)
  tidied_tidy = tidy_from (tidied c) (mended_sound c (tidied c) (tidy_counts c) t.sound tidy_mended) (subst (λ (x : Cat). Neat x 0) right_is left_neat)
