-- Mending ends the same once the slot of a file is free that is marked, or named by no entry.
use Rattle.std.proofs.Common.{◌≡◌, ◌≢◌, ◌==◌, ◌&&◌, ◌||◌, ◌-◌, ◌+◌, ◌<◌, ◌⊎◌, inl, inr, ◌++◌, ◌∙◌, ℕ, zero, suc, Bool, true, false, cond, not, List, [], ◌∷◌, Option, Some, None, map, slice_get, set, nat_le, refl, sym, ap, subst, arith}
use Rattle.std.specs.Prelude.{option_map, option_and_then, unwrap_or}
use Rattle.std.specs.List.{Contains, list_any}
use Rattle.std.proofs.lemmas.Bool.{and_from, eqb-true, eq-eqb, cases_eq, ne_eqb}
use Rattle.plain_cat.specs.declared.ids.Fid.{Fid}
use Rattle.plain_cat.specs.declared.entries.DirEnt.{DirEnt}
use Rattle.plain_cat.specs.declared.cat.Cat.{Cat}
use Rattle.plain_cat.specs.declared.cat.File.{File}
use Rattle.plain_cat.specs.declared.cat.Slot.{Slot}
use Rattle.plain_cat.specs.declared.cat.Slot.TheVariants.{Used, Free}
use Rattle.plain_rules.specs.declared.places.Place.{Place}
use Rattle.plain_rules.specs.Lookups.{file_at}
use Rattle.plain_rules.specs.Directories.{is_nil}
use Rattle.plain_rules.specs.Changes.{with_entries}
use Rattle.plain_rules.specs.Mending.{entries_in, places_from, places, same_fid, is_own, is_first, stays, each_from, without_opens, is_empty, is_named, is_lost_slot, lost, with_lost_entry, enter, enter_all, enter_some, with_lost, is_gone, gone_slot, with_sums, put_right, stripped}
use Rattle.plain_laws.specs.Clearing.{HasOwnEntry}
use Rattle.plain_mends.specs.Resuming.{MendsTo, AllStay, leaving}
use Rattle.plain_mends.specs.Waiting.{Settled, AreFull}
use Rattle.plain_rules.proofs.Standing.{stands_at}
use Rattle.base_words.specs.Lists.{Has}
use Rattle.base_words.proofs.Listing.{has_from, has_to, has_filtered}
use Rattle.plain_laws.proofs.Standing.{number_rises, set_same, set_other, file_other, Alive}
use Rattle.plain_laws.proofs.Places.{In, in_to, Names, names_to}
use Rattle.plain_laws.proofs.Steps.{stays_parts, stays_from, number_has}
use Rattle.plain_mends.proofs.Frames.{ends_alike}
use Rattle.plain_mends.proofs.GoneSteps.{each_alike}
use Rattle.plain_mends.proofs.Standing.{all_stay, stays_each, own_names, unfinished}
use Rattle.plain_laws.proofs.Unfinished.{same_file}
use Rattle.plain_mends.proofs.FullSteps.{but, numbers_set, and_false}
use Rattle.plain_mends.proofs.EmptySteps.{full_shut}
use Rattle.plain_laws.proofs.ClearSteps.{not_nil}

-- ---- lists

pub places_set : (m : ℕ) (ss : List Slot) (i : ℕ) (s v : Slot) → slice_get ss i ≡ Some s → entries_in v ≡ entries_in s → places_from m (set ss i v) ≡ places_from m ss
places_set m [] i s v at h = absurd (cc at)
places_set m (t ∷ ss) zero s v at h =
    let same : s ≡ t = let e : t ≡ s = cc at in sym e in
    ap (λ es. map (λ (e : DirEnt). record { dir = m; entry = e }) es ++ places_from (m + 1) ss) (h ∙ ap entries_in same)
places_set m (t ∷ ss) (suc i) s v at h = ap (λ ps. map (λ (e : DirEnt). record { dir = m; entry = e }) (entries_in t) ++ ps) (places_set (m + 1) ss i s v at h)

flags_set : (bs : List Bool) (i : ℕ) (b : Bool) → map (λ (x : Bool). false) (set bs i b) ≡ map (λ (x : Bool). false) bs
flags_set [] i b = refl
flags_set (x ∷ bs) zero b = refl
flags_set (x ∷ bs) (suc i) b = ap (λ cs. false ∷ cs) (flags_set bs i b)

skip_all : (ms : List ℕ) (c : Cat) → ((m : ℕ) → Has ms m → enter c m ≡ None) → enter_some ms c ≡ c
skip_all [] c full = refl
skip_all (m ∷ ms) c full = ap (λ o. enter_some ms (unwrap_or o c)) (full m (inl refl)) ∙ skip_all ms c (λ k h. full k (inr h))

not_true : (b : Bool) → not b ≡ true → (b ≡ true → ⊥)
not_true true h e = absurd (cc h)
not_true false h e = absurd (cc e)

pub not_empty : (f : File) (e : DirEnt) → f.mark ≢ 1 → Has f.entries e → is_empty f ≡ false
not_empty f e mark has =
    let first : (f.mark == 1) ≡ false = ne_eqb f.mark 1 mark in
    ap (λ b. b || (f.dir && is_nil f.entries)) first ∙ and_false f.dir (is_nil f.entries) (not_nil f.entries e has)

pub lost_has : (c : Cat) (empty : Bool) (n : ℕ) (f : File) → file_at c n ≡ Some f → is_lost_slot c empty n (Used f) ≡ true → Has (lost c empty) n
lost_has c empty n f at passes =
    let rises : 0 < n = number_rises c n f at in
    let same : 1 + (n - 1) ≡ n = omega (arith, rises) in
    subst (λ (k : ℕ). Has (lost c empty) k) same
    (number_has (is_lost_slot c empty) 1 c.files (n - 1) (Used f) (stands_at c n f at) (ap (λ k. is_lost_slot c empty k (Used f)) same ∙ passes))

-- ---- no room, in a catalogue with the same two files

enter_none : (x y : Cat) (m : ℕ) → y.factor ≡ x.factor → file_at y 11 ≡ file_at x 11 → file_at y m ≡ file_at x m → enter x m ≡ None → enter y m ≡ None
unfolding enter
enter_none x y m factor at own h =
    ap (λ o. option_and_then (λ (d : File). option_and_then (λ (f : File). option_map (with_entries y 11 d) (with_lost_entry y.factor d.entries m f.seq)) (file_at y m)) o) at
    ∙ (ap (λ p. option_and_then (λ (d : File). option_and_then (λ (f : File). option_map (with_entries y 11 d) (with_lost_entry y.factor d.entries m f.seq)) p) (file_at x 11)) own
    ∙ of_directory (file_at x 11) (file_at x m) h)
  where
    of_room : (d : File) (o : Option (List DirEnt)) → option_map (with_entries x 11 d) o ≡ None → option_map (with_entries y 11 d) o ≡ None
    of_room d None k = refl
    of_room d (Some es) k = absurd (cc k)

    of_directory : (o p : Option File) → option_and_then (λ (d : File). option_and_then (λ (f : File). option_map (with_entries x 11 d) (with_lost_entry x.factor d.entries m f.seq)) p) o ≡ None
        → option_and_then (λ (d : File). option_and_then (λ (f : File). option_map (with_entries y 11 d) (with_lost_entry y.factor d.entries m f.seq)) p) o ≡ None
    of_directory None p k = refl
    of_directory (Some d) None k = refl
    of_directory (Some d) (Some f) k =
        ap (λ j. option_map (with_entries y 11 d) (with_lost_entry j d.entries m f.seq)) factor ∙ of_room d (with_lost_entry x.factor d.entries m f.seq) k

-- ---- the slot that goes

module _ (c : Cat) (n : ℕ) (f : File) (settled : Settled c) (none : lost c false ≡ []) (at : file_at c n ≡ Some f) (gone : is_gone c n f ≡ true) where
  abbrev y : Cat
  y = leaving c n f

  abbrev fid : Fid
  fid = record { num = n; seq = f.seq }

  rises : 0 < n
  rises = number_rises c n f at

  stands : slice_get c.files (n - 1) ≡ Some (Used f)
  stands = stands_at c n f at

  -- it is no named file that is not marked
  is_none : f.marked ≡ false → Names c fid → ⊥
  is_none free named =
      let h : f.marked || not (is_named c fid) ≡ false = ap (λ b. b || not (is_named c fid)) free ∙ ap not (names_to c fid named) in
      let both : true ≡ false = sym gone ∙ h in
      absurd (cc both)

  -- and so no entry has its number
  unnamed : (q : Place) → In c q → q.entry.fid.num ≡ n → ⊥
  unnamed q i number =
      let l = (stays_parts c q (stays_each c settled.stay q.dir i.file q.entry i.at i.entry)).0 in
      let same : l.file ≡ f = same_file c n l.file f (ap (λ k. file_at c k) (sym number) ∙ l.at) at in
      let name : q.entry.fid ≡ fid =
      ap (λ k. record { num = k; seq = q.entry.fid.seq }) number ∙ ap (λ s. record { num = n; seq = s }) (sym l.seq ∙ ap (λ (g : File). g.seq) same) in
      is_none (ap (λ (g : File). g.marked) (sym same) ∙ l.free) (record { place = q; within = i; same = name })

  -- it has no entries either
  holds_none : (e : DirEnt) → f.dir ≡ true → Has f.entries e → ⊥
  holds_none e dir has = by_mark f.marked refl (is_named c fid) refl where
    p : Place
    p = record { dir = n; entry = e }

    inside : Has (places c) p
    inside = in_to c p (record { file = f; at = at; dir = dir; entry = has })

    free : f.marked ≡ false
    free = settled.names.unmarked p f (has_to (places c) p inside) at

    full : is_empty f ≡ false
    full = not_empty f e (settled.names.written p f (has_to (places c) p inside) at) has

    by_mark : (m : Bool) → f.marked ≡ m → (b : Bool) → is_named c fid ≡ b → ⊥
    by_mark true g b k = let both : true ≡ false = sym g ∙ free in absurd (cc both)
    by_mark false g true k = let h : true ≡ false = sym gone ∙ (ap (λ x. x || not (is_named c fid)) g ∙ ap not k) in absurd (cc h)
    by_mark false g false k =
        let passes : is_lost_slot c false n (Used f) ≡ true =
        and_from (not f.marked && not (is_named c fid)) (not (is_empty f)) (and_from (not f.marked) (not (is_named c fid)) (ap not g) (ap not k)) (ap not full) in
        subst (λ (ks : List ℕ). Has ks n) none (lost_has c false n f at passes)

  bare : entries_in (Used f) ≡ []
  bare = by_case f.dir refl f.entries refl where
    by_case : (b : Bool) → f.dir ≡ b → (es : List DirEnt) → f.entries ≡ es → cond b es [] ≡ []
    by_case false d es h = refl
    by_case true d [] h = refl
    by_case true d (e ∷ es) h = absurd (holds_none e d (subst (λ (xs : List DirEnt). Has xs e) (sym h) (inl refl)))

  places_same : places y ≡ places c
  places_same = places_set 1 c.files (n - 1) (Used f) (Free f.seq) stands (sym bare)

  file_y : (k : ℕ) → (k ≡ n → ⊥) → file_at y k ≡ file_at c k
  file_y k other = file_other c n k (Free f.seq) rises other

  none_y : (g : File) → file_at y n ≡ Some g → ⊥
  none_y g h =
      let both : Some (Free f.seq) ≡ Some (Used g) = sym (set_same c.files (n - 1) (Free f.seq) (Used f) stands) ∙ stands_at y n g h in
      absurd (cc both)

  stay_y : AllStay y
  stay_y = all_stay y each where
    each : (m : ℕ) (g : File) (e : DirEnt) → file_at y m ≡ Some g → Has g.entries e → stays y (record { dir = m; entry = e }) ≡ true
    each m g e there has =
        let other : m ≡ n → ⊥ = λ same. none_y g (ap (λ k. file_at y k) (sym same) ∙ there) in
        let before : file_at c m ≡ Some g = sym (file_y m other) ∙ there in
        let q : Place = record { dir = m; entry = e } in
        let i : In c q = record { file = g; at = before; dir = (unfinished c settled).placed m g e before has; entry = has } in
        let s = stays_parts c q (stays_each c settled.stay m g e before has) in
        let a : Alive y e.fid = record { file = s.0.file; at = file_y e.fid.num (unnamed q i) ∙ s.0.at; seq = s.0.seq; free = s.0.free } in
        stays_from y q a (ap (λ ps. cond (nat_le e.fid.num 11) (is_own q) (is_first q ps)) places_same ∙ s.1)

  lost_y : (empty : Bool) → lost y empty ≡ but n (lost c empty)
  lost_y empty = numbers_set (is_lost_slot c empty) (is_lost_slot y empty) n 1 c.files (n - 1) (Used f) (Free f.seq) stands here others where
    number : 1 + (n - 1) ≡ n
    number = let r = rises in omega (arith, r)

    here : false ≡ (is_lost_slot c empty (1 + (n - 1)) (Used f) && not (1 + (n - 1) == n))
    here = sym (and_false (is_lost_slot c empty (1 + (n - 1)) (Used f)) (not (1 + (n - 1) == n)) (ap not (eq-eqb (1 + (n - 1)) n number)))

    alike : (k : ℕ) (t : Slot) → is_lost_slot y empty k t ≡ is_lost_slot c empty k t
    alike k (Free q) = refl
    alike k (Used g) =
        ap (λ ps. (not g.marked && not (list_any (λ (p : Place). same_fid p.entry.fid (record { num = k; seq = g.seq })) ps)) && cond empty (is_empty g) (not (is_empty g))) places_same

    others : (j : ℕ) (t : Slot) → (j ≡ n - 1 → ⊥) → slice_get c.files j ≡ Some t → is_lost_slot y empty (1 + j) t ≡ (is_lost_slot c empty (1 + j) t && not (1 + j == n))
    others j t other there = alike (1 + j) t ∙ sym (passed (is_lost_slot c empty (1 + j) t) (1 + j == n) refl) where
      passed : (a b : Bool) → (1 + j == n) ≡ b → a && not b ≡ a
      passed a true e = absurd (other (let w = eqb-true (1 + j) n e in omega (arith, w)))
      passed true false e = refl
      passed false false e = refl

  none_lost : lost y false ≡ []
  none_lost = lost_y false ∙ ap (but n) none

  not_eleven : n ≡ 11 → ⊥
  not_eleven e =
      let l = settled.names.lost f (ap (λ k. file_at c k) (sym e) ∙ at) in
      let own : HasOwnEntry c n f = subst (λ (k : ℕ). HasOwnEntry c k f) (sym e) l.own in
      is_none l.unmarked (own_names c n f own)

  full_y : ((m : ℕ) → Has (lost c true) m → enter c m ≡ None) → (m : ℕ) → Has (lost y true) m → enter y m ≡ None
  full_y full m h =
      let r = has_filtered (λ k. not (k == n)) (lost c true) m (subst (λ (ks : List ℕ). Has ks m) (lost_y true) h) in
      enter_none c y m refl (file_y 11 (λ e. not_eleven (sym e))) (file_y m (λ e. not_true (m == n) r.1 (eq-eqb m n e))) (full m r.0)

  -- names and own entries are as before
  there : (p : Place) → Contains (places y) p → Contains (places c) p
  there p h = subst (λ (ps : List Place). Contains ps p) places_same h

  back : (k : ℕ) (g : File) → file_at y k ≡ Some g → file_at c k ≡ Some g
  back k g h = sym (file_y k (λ e. none_y g (ap (λ j. file_at y j) (sym e) ∙ h))) ∙ h

  own_y : (k : ℕ) (g : File) → HasOwnEntry c k g → HasOwnEntry y k g
  own_y k g (p, has, own, name) = (p, subst (λ (ps : List Place). Contains ps p) (sym places_same) has, own, name)

  settled_y : Settled y
  settled_y = record {
    stay = stay_y;
    names = record {
      unmarked = λ p g has h. settled.names.unmarked p g (there p has) (back p.dir g h);
      written = λ p g has h. settled.names.written p g (there p has) (back p.dir g h);
      lost = λ g h. let l = settled.names.lost g (back 11 g h) in record { directory = l.directory; unmarked = l.unmarked; own = own_y 11 g l.own };
    };
    owned = λ k g low h free. own_y k g (settled.owned k g low (back k g h) free);
  }

  -- what the last steps leave is the same
  gone_each : (k : ℕ) (s : Slot) → gone_slot (without_opens y) k s ≡ gone_slot (without_opens c) k s
  gone_each k (Free q) = refl
  gone_each k (Used g) =
      ap (λ ps. cond (g.marked || not (list_any (λ (p : Place). same_fid p.entry.fid (record { num = k; seq = g.seq })) ps)) (Free g.seq) (Used g)) places_same

  gone_files : each_from (gone_slot (without_opens y)) 1 y.files ≡ each_from (gone_slot (without_opens c)) 1 c.files
  gone_files = each_alike (gone_slot (without_opens y)) (gone_slot (without_opens c)) 1 y.files c.files (λ i. by_case i (cases_eq i (n - 1))) where
    option_alike : (k : ℕ) (o : Option Slot) → option_map (gone_slot (without_opens y) k) o ≡ option_map (gone_slot (without_opens c) k) o
    option_alike k None = refl
    option_alike k (Some s) = ap (λ (t : Slot). Some t) (gone_each k s)

    by_case : (i : ℕ) → (i ≡ n - 1) ⊎ (i ≡ n - 1 → ⊥) → option_map (gone_slot (without_opens y) (1 + i)) (slice_get y.files i) ≡ option_map (gone_slot (without_opens c) (1 + i)) (slice_get c.files i)
    by_case i (inl here) =
        let number : 1 + i ≡ n = let r = rises in omega (arith, here, r) in
        ap (λ k. option_map (gone_slot (without_opens y) (1 + i)) (slice_get y.files k)) here
        ∙ (ap (λ o. option_map (gone_slot (without_opens y) (1 + i)) o) (set_same c.files (n - 1) (Free f.seq) (Used f) stands)
        ∙ sym (ap (λ k. option_map (gone_slot (without_opens c) (1 + i)) (slice_get c.files k)) here
        ∙ (ap (λ o. option_map (gone_slot (without_opens c) (1 + i)) o) stands
        ∙ (ap (λ k. Some (gone_slot (without_opens c) k (Used f))) number
        ∙ ap (λ b. Some (cond b (Free f.seq) (Used f))) gone))))
    by_case i (inr other) =
        ap (λ o. option_map (gone_slot (without_opens y) (1 + i)) o) (set_other c.files (n - 1) i (Free f.seq) (λ e. other (sym e)))
        ∙ option_alike (1 + i) (slice_get c.files i)

  right_y : put_right (without_opens y) ≡ put_right (without_opens c)
  right_y =
      ap (λ (fs : List Slot). with_sums (record (without_opens c) { files = fs; leaked = 0; leaked_numbers = map (λ (b : Bool). false) y.leaked_numbers })) gone_files
      ∙ ap (λ (bs : List Bool). with_sums (record (without_opens c) { files = each_from (gone_slot (without_opens c)) 1 c.files; leaked = 0; leaked_numbers = bs })) (flags_set c.leaked_numbers (n - 1) true)

-- where nobody who waits has room, step 2 changes nothing
pub nobody_enters : (x : Cat) → AllStay x → lost x false ≡ [] → ((m : ℕ) → Has (lost x true) m → enter x m ≡ None) → with_lost (stripped x) ≡ Some (without_opens x)
nobody_enters x stay none full =
    ap with_lost stay
    ∙ (ap (λ fs. option_map (enter_some (lost x true)) (enter_all fs (without_opens x))) none
    ∙ ap (λ (z : Cat). Some z) (skip_all (lost x true) (without_opens x) (λ m h. full_shut x m (full m h))))

pub slot_ends : (c : Cat) (n : ℕ) (f : File) (z : Cat) → Settled c → lost c false ≡ [] → AreFull c (lost c true) → file_at c n ≡ Some f → is_gone c n f ≡ true
    → MendsTo c z → MendsTo (leaving c n f) z
slot_ends c n f z settled none full at gone = ends_alike c (leaving c n f) z (λ b h.
    let all : (m : ℕ) → Has (lost c true) m → enter c m ≡ None = λ m has. full m (has_to (lost c true) m has) in
    let both : Some (without_opens c) ≡ Some b = sym (nobody_enters c settled.stay none all) ∙ h in
    let same : without_opens c ≡ b = cc both in
    record {
      middle = without_opens (leaving c n f);
      entered = nobody_enters (leaving c n f) (stay_y c n f settled none at gone) (none_lost c n f settled none at gone) (full_y c n f settled none at gone all);
      right = right_y c n f settled none at gone ∙ ap put_right same;
    })

pub slot_stays : (c : Cat) (n : ℕ) (f : File) → Settled c → lost c false ≡ [] → file_at c n ≡ Some f → is_gone c n f ≡ true → AllStay (leaving c n f)
slot_stays = stay_y

pub slot_settled : (c : Cat) (n : ℕ) (f : File) → Settled c → lost c false ≡ [] → file_at c n ≡ Some f → is_gone c n f ≡ true → Settled (leaving c n f)
slot_settled = settled_y

pub slot_none : (c : Cat) (n : ℕ) (f : File) → Settled c → lost c false ≡ [] → file_at c n ≡ Some f → is_gone c n f ≡ true → lost (leaving c n f) false ≡ []
slot_none = none_lost

pub slot_full : (c : Cat) (n : ℕ) (f : File) → Settled c → lost c false ≡ [] → AreFull c (lost c true) → file_at c n ≡ Some f → is_gone c n f ≡ true
    → AreFull (leaving c n f) (lost (leaving c n f) true)
slot_full c n f settled none full at gone m has =
    full_y c n f settled none at gone (λ k h. full k (has_to (lost c true) k h)) m (has_from (lost (leaving c n f) true) m has)
