use Rattle.std.proofs.Common.{◌≡◌, ◌&&◌, ◌||◌, ◌-◌, ◌+◌, ◌*◌, ◌≤◌, ◌⊎◌, inl, inr, ◌∙◌, ℕ, suc, Bool, true, false, cond, not, List, [], ◌∷◌, Option, Some, None, length, map, nat_le, get_or, slice_get, refl, sym, ap, subst, arith}
use Rattle.std.specs.Prelude.{All, option_map}
use Rattle.std.specs.List.{count_by}
use Rattle.std.proofs.lemmas.List.Elements.{All-head, All-tail}
use Rattle.std.proofs.lemmas.List.Sums.{sum_by-le}
use Rattle.std.proofs.lemmas.Option.{slice_get_within, get_or_from_slice_get}
use Rattle.std.proofs.lemmas.Bool.{cases_Bool, leb-true, leb-false}
use Rattle.plain_cat.specs.declared.entries.DirEnt.{DirEnt}
use Rattle.plain_cat.specs.declared.history.Mended.{Mended}
use Rattle.plain_cat.specs.declared.cat.Cat.{Cat}
use Rattle.plain_cat.specs.declared.cat.File.{File}
use Rattle.plain_cat.specs.declared.cat.Slot.{Slot}
use Rattle.plain_cat.specs.declared.cat.Slot.TheVariants.{Used, Free}
use Rattle.plain_cat.specs.declared.cat.Open.{Open}
use Rattle.plain_cat.specs.declared.cat.QuotaRow.{QuotaRow}
use Rattle.plain_rules.specs.declared.places.Place.{Place}
use Rattle.plain_rules.specs.Lookups.{file_at}
use Rattle.plain_rules.specs.Mending.{places, is_own, is_first, stays, less_entries, each_from, without_opens, without_entries, is_empty, is_named, is_lost_slot, numbers_from, lost, enter_all, enter_some, with_lost, gone_slot, without_gone, without_leaks, summed_row, with_sums, is_used, is_true, counts, put_right, mended}
use Rattle.plain_laws.specs.Clearing.{IsUnmarked, Cleared, AreNamed, KeepsNames, AreOwned, nothing_done}
use Rattle.base_words.specs.Lists.{Has}
use Rattle.base_words.proofs.Listing.{filter_all}
use Rattle.plain_laws.proofs.Standing.{file_from, each_same, Alive}
use Rattle.plain_laws.proofs.Places.{In, in_from, in_to, first_to, Names}
use Rattle.plain_laws.proofs.Steps.{stays_from, kept_from, kept_to, mends_from}
use Rattle.plain_laws.proofs.ClearSteps.{not_gone, mended_cleared, mended_named}
use Rattle.plain_laws.proofs.Unfinished.{Unfinished, finished}

-- each entry stays
entry_stays : (b : Cat) → Unfinished [] b → (n : ℕ) (f : File) (e : DirEnt) → file_at (put_right b) n ≡ Some f → Has f.entries e
    → stays (without_opens (put_right b)) (record { dir = n; entry = e }) ≡ true
entry_stays b u n f e at has = stays_from z p alive (how (cases_Bool (nat_le e.fid.num 11))) where
  z : Cat
  z = without_opens (put_right b)

  p : Place
  p = record { dir = n; entry = e }

  within : In b p
  within = let r = kept_from b n f at in record { file = f; at = r.0; dir = u.placed n f e r.0 has; entry = has }

  inside : In z p
  inside = record { file = f; at = at; dir = within.dir; entry = has }

  alive : Alive z e.fid
  alive =
      let l = u.alive p within in
      let fid : e.fid ≡ record { num = e.fid.num; seq = l.file.seq } = ap (λ s. record { num = e.fid.num; seq = s }) (sym l.seq) in
      let named : Names b (record { num = e.fid.num; seq = l.file.seq }) = record { place = p; within = within; same = fid } in
      record { file = l.file; at = kept_to b e.fid.num l.file l.at (not_gone b e.fid.num l.file l.free named); seq = l.seq; free = l.free }

  back : (q : Place) → In z q → In b q
  back q i = record { file = i.file; at = (kept_from b q.dir i.file i.at).0; dir = i.dir; entry = i.entry }

  how : (nat_le e.fid.num 11 ≡ true) ⊎ (nat_le e.fid.num 11 ≡ false) → cond (nat_le e.fid.num 11) (is_own p) (is_first p (places z)) ≡ true
  how (inl low) = ap (λ x. cond x (is_own p) (is_first p (places z))) low ∙ u.own p within (leb-true e.fid.num 11 low)
  how (inr high) =
      ap (λ x. cond x (is_own p) (is_first p (places z))) high
      ∙ first_to p (places z) (in_to z p inside) (λ q h same.
      sym (u.one p q within (back q (in_from z q h)) (sym same) (leb-false e.fid.num 11 high)))

-- the slots stay
less_none : (z : Cat) → ((n : ℕ) (f : File) (e : DirEnt) → file_at z n ≡ Some f → Has f.entries e → stays z (record { dir = n; entry = e }) ≡ true)
    → each_from (less_entries z) 1 z.files ≡ z.files
less_none z h = each_same (less_entries z) 1 z.files keeps where
  keeps : (i : ℕ) (s : Slot) → slice_get z.files i ≡ Some s → less_entries z (1 + i) s ≡ s
  keeps i (Free q) at = refl
  keeps i (Used f) at =
      let place : i ≡ 1 + i - 1 = omega arith in
      let stands : file_at z (1 + i) ≡ Some f = file_from z (1 + i) f (omega arith) (ap (λ k. slice_get z.files k) (sym place) ∙ at) in
      let same = filter_all (λ e. stays z (record { dir = 1 + i; entry = e })) f.entries (λ e has. h (1 + i) f e stands has) in
      ap (λ (es : List DirEnt). Used (record f { entries = es })) same

pub map_const : {X : Type 0} (y : X) (xs : List X) → All (λ x. x ≡ y) xs → map (λ (x : X). y) xs ≡ xs
map_const y [] h = refl
map_const {X} y (x ∷ xs) h =
    ap (λ (z : X). z ∷ map (λ (x : X). y) xs) (sym (All-head (λ x. x ≡ y) x xs h)) ∙ ap (λ zs. x ∷ zs) (map_const y xs (All-tail (λ x. x ≡ y) x xs h))

pub map_same : {X : Type 0} (g : X → X) (xs : List X) → All (λ x. g x ≡ x) xs → map g xs ≡ xs
map_same g [] h = refl
map_same {X} g (x ∷ xs) h =
    ap (λ (z : X). z ∷ map g xs) (All-head (λ x. g x ≡ x) x xs h) ∙ ap (λ zs. x ∷ zs) (map_same g xs (All-tail (λ x. g x ≡ x) x xs h))

-- step 1 changes nothing
first_same : (d : Cat) → Cleared d → each_from (less_entries (without_opens d)) 1 d.files ≡ d.files → without_entries (without_opens d) ≡ d
first_same d c files =
    ap (λ (fs : List Slot). record d { opens = map (λ (o : Option Open). None) d.opens; files = fs }) files
    ∙ ap (λ (os : List (Option Open)). record d { opens = os }) (map_const None d.opens c.opens)

numbers_none : (passes : ℕ → Slot → Bool) (n : ℕ) (ss : List Slot) → ((i : ℕ) (s : Slot) → slice_get ss i ≡ Some s → passes (n + i) s ≡ false)
    → numbers_from passes n ss ≡ []
numbers_none passes n [] h = refl
numbers_none passes n (s ∷ ss) h =
    let here : n ≡ n + 0 = omega arith in
    let fails : passes n s ≡ false = ap (λ k. passes k s) here ∙ h 0 s refl in
    ap (λ b. cond b (n ∷ numbers_from passes (n + 1) ss) (numbers_from passes (n + 1) ss)) fails
    ∙ numbers_none passes (n + 1) ss (λ i t at. let there : n + 1 + i ≡ n + suc i = omega arith in ap (λ k. passes k t) there ∙ h (suc i) t at)

not_lost : (m named b : Bool) → named ≡ true → (not m && not named) && b ≡ false
not_lost true named b h = refl
not_lost false true b h = refl
not_lost false false b h = absurd (cc h)

stands_in : (d : Cat) (i : ℕ) (f : File) → slice_get d.files i ≡ Some (Used f) → file_at d (1 + i) ≡ Some f
stands_in d i f at =
    let place : i ≡ 1 + i - 1 = omega arith in file_from d (1 + i) f (omega arith) (ap (λ k. slice_get d.files k) (sym place) ∙ at)

none_lost : (d : Cat) (empty : Bool) → AreNamed d → lost d empty ≡ []
none_lost d empty named = numbers_none (is_lost_slot d empty) 1 d.files fails where
  fails : (i : ℕ) (s : Slot) → slice_get d.files i ≡ Some s → is_lost_slot d empty (1 + i) s ≡ false
  fails i (Free q) at = refl
  fails i (Used f) at =
      not_lost f.marked (is_named d (record { num = 1 + i; seq = f.seq })) (cond empty (is_empty f) (not (is_empty f))) (named (1 + i) f (stands_in d i f at))

-- step 2 changes nothing
second_same : (d : Cat) → AreNamed d → with_lost d ≡ Some d
second_same d named =
    ap (λ ns. option_map (enter_some (lost d true)) (enter_all ns d)) (none_lost d false named) ∙ ap (λ ns. Some (enter_some ns d)) (none_lost d true named)

not_gone_one : (m named : Bool) → m ≡ false → named ≡ true → m || not named ≡ false
not_gone_one true named h k = h
not_gone_one false true h k = refl
not_gone_one false false h k = absurd (cc k)

unmarked_at : (d : Cat) → Cleared d → (i : ℕ) (f : File) → slice_get d.files i ≡ Some (Used f) → f.marked ≡ false
unmarked_at d c i f at =
    let P : Slot → Type 0 = IsUnmarked in
    subst P (get_or_from_slice_get d.files i (Used f) (Used f) at) (c.marks i (Used f) (slice_get_within d.files i (Used f) at))

-- step 3 changes nothing
third_same : (d : Cat) → Cleared d → AreNamed d → without_gone d ≡ d
third_same d c named = ap (λ (fs : List Slot). record d { files = fs }) (each_same (gone_slot d) 1 d.files keeps) where
  keeps : (i : ℕ) (s : Slot) → slice_get d.files i ≡ Some s → gone_slot d (1 + i) s ≡ s
  keeps i (Free q) at = refl
  keeps i (Used f) at =
      ap (λ b. cond b (Free f.seq) (Used f))
      (not_gone_one f.marked (is_named d (record { num = 1 + i; seq = f.seq })) (unmarked_at d c i f at) (named (1 + i) f (stands_in d i f at)))

-- steps 4 and 5 change nothing
fourth_same : (d : Cat) → Cleared d → without_leaks d ≡ d
fourth_same d c =
    ap (λ (bs : List Bool). record d { leaked = 0; leaked_numbers = bs }) (map_const false d.leaked_numbers c.numbers)
    ∙ ap (λ (k : ℕ). record d { leaked = k }) (sym c.clusters)

fifth_same : (d : Cat) → Cleared d → with_sums d ≡ d
fifth_same d c =
    ap (λ (rs : List QuotaRow). record d { quota = rs })
    (map_same (summed_row d) d.quota (λ k r h. ap (λ (u : ℕ). record (get_or d.quota k r) { usage = u }) (sym (c.usage k r h))))

right_same : (d : Cat) → Cleared d → AreNamed d → d ≡ put_right d
right_same d c named =
    sym (ap (λ (x : Cat). with_sums (without_leaks x)) (third_same d c named) ∙ (ap with_sums (fourth_same d c) ∙ fifth_same d c))

-- the steps, one after the other
mended_is : (c a b d : Cat) → a ≡ without_entries (without_opens c) → with_lost a ≡ Some b → d ≡ put_right b → mended c ≡ Some (d, counts c a b d)
unfolding mended
mended_is c a b d first second third =
    let P : Cat → Type 0 = λ x. with_lost x ≡ Some b → mended c ≡ Some (put_right b, counts c x b (put_right b)) in
    let whole : mended c ≡ Some (put_right b, counts c a b (put_right b)) = subst P (sym first) (λ h. rw h refl) second in
    whole ∙ ap (λ (x : Cat). Some (x, counts c a b x)) (sym third)

pub none_true : (bs : List Bool) → All (λ b. b ≡ false) bs → count_by is_true bs ≡ 0
none_true bs h =
    let few : count_by is_true bs ≤ length bs * 0 = sum_by-le (λ b. cond (is_true b) 1 0) 0 bs (λ k d lt. zero_if (get_or bs k d) (h k d lt)) in
    omega (arith, few) where
      zero_if : (b : Bool) → b ≡ false → cond (is_true b) 1 0 ≤ 0
      zero_if true e = absurd (cc e)
      zero_if false e = omega arith

nothing_counts : (d : Cat) → Cleared d → counts d d d d ≡ nothing_done
nothing_counts d c =
    let entries : length (places d) - length (places d) ≡ 0 = omega arith in
    let files : count_by is_used d.files - count_by is_used d.files ≡ 0 = omega arith in
    ap (λ (k : ℕ). record { entered = k; removed = k; gone = count_by is_used d.files - count_by is_used d.files; clusters = d.leaked; numbers = count_by is_true d.leaked_numbers }) entries
    ∙ (ap (λ (k : ℕ). record { entered = 0; removed = 0; gone = k; clusters = d.leaked; numbers = count_by is_true d.leaked_numbers }) files
    ∙ (ap (λ (k : ℕ). record { entered = 0; removed = 0; gone = 0; clusters = k; numbers = count_by is_true d.leaked_numbers }) c.clusters
    ∙ ap (λ (k : ℕ). record { entered = 0; removed = 0; gone = 0; clusters = 0; numbers = k }) (none_true d.leaked_numbers c.numbers)))

again : (d : Cat) → Cleared d → AreNamed d → each_from (less_entries (without_opens d)) 1 d.files ≡ d.files → mended d ≡ Some (d, nothing_done)
again d c named files =
    mended_is d d d d (sym (first_same d c files)) (second_same d named) (right_same d c named) ∙ ap (λ (m : Mended). Some (d, m)) (nothing_counts d c)

-- mending a second time does nothing
pub mended_again : (c d : Cat) (m : Mended) → KeepsNames c → AreOwned c → mended c ≡ Some (d, m) → mended d ≡ Some (d, nothing_done)
mended_again c d m keeps owned h =
    let s = mends_from c d m h in
    let u = finished c s.middle keeps owned s.entered in
    let P : Cat → Type 0 = λ x. each_from (less_entries (without_opens x)) 1 x.files ≡ x.files in
    let files : P (put_right s.middle) = less_none (without_opens (put_right s.middle)) (entry_stays s.middle u) in
    again d (mended_cleared c d m h) (mended_named c d m keeps h) (subst P s.last files)
