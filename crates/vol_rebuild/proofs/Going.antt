-- The files that go, one after another.
use Rattle.std.proofs.Common.{◌≡◌, ◌==◌, ◌&&◌, ◌||◌, ◌-◌, ◌+◌, ◌<◌, inl, ◌∙◌, ℕ, Bool, true, false, cond, not, List, [], ◌∷◌, Some, None, All, map, slice_get, refl, sym, ap, subst, arith}
use Rattle.std.specs.Prelude.{option_map}
use Rattle.std.specs.List.{list_any}
use Rattle.std.proofs.lemmas.Bool.{and_from, eqb-true, eq-eqb}
use Rattle.std.proofs.lemmas.List.Elements.{All-nil, All-cons}
use Rattle.plain_cat.specs.declared.ids.Fid.{Fid}
use Rattle.plain_cat.specs.declared.entries.DirEnt.{DirEnt}
use Rattle.plain_cat.specs.declared.cat.Cat.{Cat}
use Rattle.plain_cat.specs.declared.cat.File.{File}
use Rattle.plain_cat.specs.declared.cat.Slot.{Slot}
use Rattle.plain_cat.specs.declared.cat.Slot.TheVariants.{Used, Free}
use Rattle.plain_rules.specs.declared.places.Place.{Place}
use Rattle.plain_rules.specs.Mending.{entries_in, places, same_fid, is_empty, is_named, is_lost_slot, numbers_from, lost}
use Rattle.plain_rules.specs.Changes.{freed}
use Rattle.plain_laws.specs.Clearing.{IsUnmarked}
use Rattle.plain_mends.specs.Resuming.{leaving}
use Rattle.plain_mends.specs.Waiting.{Settled, AreFull}
use Rattle.plain_rules.proofs.Standing.{stands_at}
use Rattle.base_words.specs.Lists.{Has, Once}
use Rattle.base_words.proofs.Listing.{has_to}
use Rattle.plain_laws.proofs.Standing.{number_rises, file_from}
use Rattle.plain_laws.proofs.Places.{in_to}
use Rattle.plain_laws.proofs.Steps.{Passes, has_number}
use Rattle.plain_laws.proofs.Unfinished.{numbers_distinct}
use Rattle.plain_mends.proofs.FullSteps.{but, but_first, numbers_set, and_false}
use Rattle.plain_mends.proofs.SlotSteps.{lost_has, slot_settled, slot_none, slot_full, places_set, not_empty}
use Rattle.vol_rebuild.specs.Leaving.{is_gone_slot, gone_numbers}
use Rattle.plain_mends.proofs.Frames.{beside, enter_beside, stripped_beside}
use Rattle.vol_rebuild.specs.Steps.{leaking, IsGone, used_count}
use Rattle.vol_rebuild.proofs.Counting.{used_less}

-- what is leaked is no matter of which entries stay
pub settled_aside : (c : Cat) (k : ℕ) (flags : List Bool) → Settled c → Settled (leaking c k flags)
settled_aside c k flags s = record {
  stay = stripped_beside k flags c.quota c.opens c ∙ ap (beside k flags c.quota (map (λ o. None) c.opens)) s.stay;
  names = record {
    unmarked = s.names.unmarked;
    written = s.names.written;
    lost = λ f at. let l = s.names.lost f at in record { directory = l.directory; unmarked = l.unmarked; own = l.own };
  };
  owned = s.owned;
}

-- nor of which files have room in [SYSLOST]
pub full_aside : (c : Cat) (k : ℕ) (flags : List Bool) → AreFull c (lost c true) → AreFull (leaking c k flags) (lost (leaking c k flags) true)
full_aside c k flags full n has = enter_beside k flags c.quota c.opens c n ∙ ap (option_map (beside k flags c.quota c.opens)) (full n has)

-- nor of which files go
pub gone_aside : (c : Cat) (k : ℕ) (flags : List Bool) (n : ℕ) → IsGone c n → IsGone (leaking c k flags) n
gone_aside c k flags n h = record { settled = settled_aside c k flags h.settled; none = h.none; full = full_aside c k flags h.full; file = h.file; at = h.at; gone = h.gone }

-- the first of the files that go
pub first_gone : (c : Cat) (n : ℕ) (ns : List ℕ) → Settled c → lost c false ≡ [] → AreFull c (lost c true) → gone_numbers c ≡ n ∷ ns → IsGone c n
first_gone c n ns settled none full e = by_slot p.slot refl where
  p : Passes (is_gone_slot c) 1 c.files n
  p = has_number (is_gone_slot c) 1 c.files n (subst (λ (ks : List ℕ). Has ks n) (sym e) (inl refl))

  by_slot : (s : Slot) → p.slot ≡ s → IsGone c n
  by_slot (Free q) same = let k : true ≡ false = sym p.passed ∙ ap (is_gone_slot c n) same in absurd (cc k)
  by_slot (Used f) same =
      let number = p.number in
      let place : n - 1 ≡ p.place = omega (arith, number) in
      let rises : 0 < n = omega (arith, number) in
      let here : slice_get c.files (n - 1) ≡ Some (Used f) = ap (slice_get c.files) place ∙ (p.at ∙ ap (λ (s : Slot). Some s) same) in
      record { settled = settled; none = none; full = full; file = f; at = file_from c n f rises here; gone = ap (is_gone_slot c n) (sym same) ∙ p.passed }

module _ (c : Cat) (n : ℕ) (h : IsGone c n) where
  abbrev f : File
  f = h.file

  abbrev pub y : Cat
  y = freed c n f

  rises : 0 < n
  rises = number_rises c n f h.at

  stands : slice_get c.files (n - 1) ≡ Some (Used f)
  stands = stands_at c n f h.at

  abbrev fid : Fid
  fid = record { num = n; seq = f.seq }

  -- it has no entries
  holds_none : (e : DirEnt) → f.dir ≡ true → Has f.entries e → ⊥
  holds_none e dir has = by_mark f.marked refl (is_named c fid) refl where
    p : Place
    p = record { dir = n; entry = e }

    inside : Has (places c) p
    inside = in_to c p (record { file = f; at = h.at; dir = dir; entry = has })

    free : f.marked ≡ false
    free = h.settled.names.unmarked p f (has_to (places c) p inside) h.at

    full : is_empty f ≡ false
    full = not_empty f e (h.settled.names.written p f (has_to (places c) p inside) h.at) has

    by_mark : (m : Bool) → f.marked ≡ m → (b : Bool) → is_named c fid ≡ b → ⊥
    by_mark true g b k = let both : true ≡ false = sym g ∙ free in absurd (cc both)
    by_mark false g true k = let z : true ≡ false = sym h.gone ∙ (ap (λ x. x || not (is_named c fid)) g ∙ ap not k) in absurd (cc z)
    by_mark false g false k =
        let passes : is_lost_slot c false n (Used f) ≡ true =
        and_from (not f.marked && not (is_named c fid)) (not (is_empty f)) (and_from (not f.marked) (not (is_named c fid)) (ap not g) (ap not k)) (ap not full) in
        subst (λ (ks : List ℕ). Has ks n) h.none (lost_has c false n f h.at passes)

  bare : entries_in (Used f) ≡ []
  bare = by_case f.dir refl f.entries refl where
    by_case : (b : Bool) → f.dir ≡ b → (es : List DirEnt) → f.entries ≡ es → cond b es [] ≡ []
    by_case false d es k = refl
    by_case true d [] k = refl
    by_case true d (e ∷ es) k = absurd (holds_none e d (subst (λ (xs : List DirEnt). Has xs e) (sym k) (inl refl)))

  places_same : places y ≡ places c
  places_same = places_set 1 c.files (n - 1) (Used f) (Free f.seq) stands (sym bare)

  alike : (k : ℕ) (t : Slot) → is_gone_slot y k t ≡ is_gone_slot c k t
  alike k (Free q) = refl
  alike k (Used g) = ap (λ ps. g.marked || not (list_any (λ (p : Place). same_fid p.entry.fid (record { num = k; seq = g.seq })) ps)) places_same

  gone_y : gone_numbers y ≡ but n (gone_numbers c)
  gone_y = numbers_set (is_gone_slot c) (is_gone_slot y) n 1 c.files (n - 1) (Used f) (Free f.seq) stands here others where
    number : 1 + (n - 1) ≡ n
    number = let r = rises in omega (arith, r)

    here : false ≡ (is_gone_slot c (1 + (n - 1)) (Used f) && not (1 + (n - 1) == n))
    here = sym (and_false (is_gone_slot c (1 + (n - 1)) (Used f)) (not (1 + (n - 1) == n)) (ap not (eq-eqb (1 + (n - 1)) n number)))

    others : (j : ℕ) (t : Slot) → (j ≡ n - 1 → ⊥) → slice_get c.files j ≡ Some t → is_gone_slot y (1 + j) t ≡ (is_gone_slot c (1 + j) t && not (1 + j == n))
    others j t other there = alike (1 + j) t ∙ sym (passed (is_gone_slot c (1 + j) t) (1 + j == n) refl) where
      passed : (a b : Bool) → (1 + j == n) ≡ b → a && not b ≡ a
      passed a true e = absurd (other (let w = eqb-true (1 + j) n e in omega (arith, w)))
      passed true false e = refl
      passed false false e = refl

  -- once its slot is free, the others are left
  pub gone_next : (ns : List ℕ) → gone_numbers c ≡ n ∷ ns → gone_numbers y ≡ ns
  gone_next ns e = gone_y ∙ (ap (but n) e ∙ but_first n ns (subst (λ (ks : List ℕ). Once ks) e (numbers_distinct (is_gone_slot c) 1 c.files)))

  pub used_fewer : used_count y + 1 ≡ used_count c
  used_fewer = used_less c.files (n - 1) f f.seq stands

  pub settled_on : Settled y
  settled_on = settled_aside (leaving c n f) c.leaked c.leaked_numbers (slot_settled c n f h.settled h.none h.at h.gone)

  pub none_on : lost y false ≡ []
  none_on = slot_none c n f h.settled h.none h.at h.gone

  pub full_on : AreFull y (lost y true)
  full_on = full_aside (leaving c n f) c.leaked c.leaked_numbers (slot_full c n f h.settled h.none h.full h.at h.gone)

-- ---- where none is left

none_pass : (g k : ℕ → Slot → Bool) (m : ℕ) (ss : List Slot) → ((i : ℕ) (s : Slot) → k i s ≡ true → g i s ≡ true) → numbers_from g m ss ≡ [] → numbers_from k m ss ≡ []
none_pass g k m [] h e = refl
none_pass g k m (s ∷ ss) h e = by_case (g m s) (k m s) (h m s) e (λ r. none_pass g k (m + 1) ss h r) where
  by_case : (a b : Bool) → (b ≡ true → a ≡ true) → cond a (m ∷ numbers_from g (m + 1) ss) (numbers_from g (m + 1) ss) ≡ []
      → (numbers_from g (m + 1) ss ≡ [] → numbers_from k (m + 1) ss ≡ []) → cond b (m ∷ numbers_from k (m + 1) ss) (numbers_from k (m + 1) ss) ≡ []
  by_case true b r e ih = absurd (cc e)
  by_case false true r e ih = let z : false ≡ true = r refl in absurd (cc z)
  by_case false false r e ih = ih e

lost_goes : (c : Cat) (empty : Bool) (n : ℕ) (s : Slot) → is_lost_slot c empty n s ≡ true → is_gone_slot c n s ≡ true
lost_goes c empty n (Free q) h = absurd (cc h)
lost_goes c empty n (Used f) h = by_case f.marked (is_named c (record { num = n; seq = f.seq })) (cond empty (is_empty f) (not (is_empty f))) h where
  by_case : (a b d : Bool) → (not a && not b) && d ≡ true → a || not b ≡ true
  by_case true b d k = refl
  by_case false true d k = absurd (cc k)
  by_case false false d k = refl

-- no file is lost
pub none_lost : (c : Cat) (empty : Bool) → gone_numbers c ≡ [] → lost c empty ≡ []
none_lost c empty e = none_pass (is_gone_slot c) (is_lost_slot c empty) 1 c.files (λ i s h. lost_goes c empty i s h) e

none_marked : (g : ℕ → Slot → Bool) (m : ℕ) (ss : List Slot) → ((i : ℕ) (f : File) → f.marked ≡ true → g i (Used f) ≡ true) → numbers_from g m ss ≡ [] → All IsUnmarked ss
none_marked g m [] h e = All-nil IsUnmarked
none_marked g m (Free q ∷ ss) h e = All-cons IsUnmarked (Free q) ss tt (none_marked g (m + 1) ss h (by_case (g m (Free q)) e)) where
  by_case : (a : Bool) → cond a (m ∷ numbers_from g (m + 1) ss) (numbers_from g (m + 1) ss) ≡ [] → numbers_from g (m + 1) ss ≡ []
  by_case true k = absurd (cc k)
  by_case false k = k
none_marked g m (Used f ∷ ss) h e = let r = by_case (g m (Used f)) f.marked (h m f) e in All-cons IsUnmarked (Used f) ss r.0 (none_marked g (m + 1) ss h r.1) where
  by_case : (a b : Bool) → (b ≡ true → a ≡ true) → cond a (m ∷ numbers_from g (m + 1) ss) (numbers_from g (m + 1) ss) ≡ [] → (b ≡ false) × (numbers_from g (m + 1) ss ≡ [])
  by_case true b r k = absurd (cc k)
  by_case false true r k = let z : false ≡ true = r refl in absurd (cc z)
  by_case false false r k = (refl, k)

-- and none is marked
pub unmarked_left : (c : Cat) → gone_numbers c ≡ [] → All IsUnmarked c.files
unmarked_left c e = none_marked (is_gone_slot c) 1 c.files (λ i f h. ap (λ b. b || not (is_named c (record { num = i; seq = f.seq }))) h) e
