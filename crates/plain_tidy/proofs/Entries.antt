-- What a change of a directory's entries leaves of a tidy catalogue.
use Rattle.std.proofs.Common.{◌≡◌, ◌==◌, ◌<◌, ◌≤◌, ◌⊎◌, inl, inr, ◌∙◌, ℕ, Bool, true, false, cond, not, List, [], ◌∷◌, Some, refl, sym, ap, subst, arith}
use Rattle.std.specs.Prelude.{is_some}
use Rattle.std.specs.Str.{bytes_eq}
use Rattle.std.proofs.lemmas.Bool.{cases_eq, and_parts, and_from, eqb-true, eq-eqb}
use Rattle.std.proofs.lemmas.Slice.Eq.{bytes_eq-Decides}
use Rattle.plain_cat.specs.declared.ids.Fid.{Fid}
use Rattle.plain_cat.specs.declared.entries.DirEnt.{DirEnt}
use Rattle.plain_cat.specs.declared.cat.Cat.{Cat}
use Rattle.plain_cat.specs.declared.cat.File.{File}
use Rattle.plain_cat.specs.declared.cat.Slot.TheVariants.{Used}
use Rattle.plain_rules.specs.declared.places.Place.{Place}
use Rattle.plain_rules.specs.Lookups.{file_at, versions, first_with}
use Rattle.plain_rules.specs.Directories.{inserted, is_entry, without, is_taken}
use Rattle.plain_rules.specs.Changes.{with_entries}
use Rattle.plain_rules.specs.Mending.{is_own}
use Rattle.base_words.specs.Lists.{Has}
use Rattle.base_words.proofs.Listing.{has_filtered, has_passed}
use Rattle.plain_laws.proofs.Standing.{number_rises, file_same, file_other, Alive}
use Rattle.plain_laws.proofs.Places.{In, Names, inserted_has, has_inserted}
use Rattle.plain_mends.proofs.SoundSteps.{at_after}
use Rattle.plain_tidy.proofs.Neat.{Matches, Neat}
use Rattle.plain_tidy.proofs.Edits.{one_file}

-- ---- names and versions

-- an entry by its name and its version
entry_is : (name : List ℕ) (ver : ℕ) (x : DirEnt) → is_entry name ver x ≡ true → (x.name ≡ name) × (x.ver ≡ ver)
unfolding is_entry
entry_is name ver x h =
    let a = and_parts (bytes_eq x.name name) (x.ver == ver) h in
    ((bytes_eq-Decides x.name name).0 a.0, eqb-true x.ver ver a.1)

is_itself : (x : DirEnt) → is_entry x.name x.ver x ≡ true
unfolding is_entry
is_itself x = and_from (bytes_eq x.name x.name) (x.ver == x.ver) ((bytes_eq-Decides x.name x.name).1 refl) (eq-eqb x.ver x.ver refl)

-- a version that is there is taken
first_there : (ver : ℕ) (es : List DirEnt) (x : DirEnt) → Has es x → x.ver ≡ ver → is_some (first_with ver es) ≡ false → ⊥
first_there ver [] x has is none = absurd has
first_there ver (y ∷ ys) x has is none = by_case (y.ver == ver) refl has none (λ h k. first_there ver ys x h is k) where
  by_case : (b : Bool) → (y.ver == ver) ≡ b → Has (y ∷ ys) x → is_some (cond b (Some y) (first_with ver ys)) ≡ false → (Has ys x → is_some (first_with ver ys) ≡ false → ⊥) → ⊥
  by_case true e h k rest = absurd (cc k)
  by_case false e (inr h) k rest = rest h k
  by_case false e (inl same) k rest = let both : true ≡ false = sym (eq-eqb y.ver ver (ap (λ (z : DirEnt). z.ver) same ∙ is)) ∙ e in absurd (cc both)

not_taken : (name : List ℕ) (ver : ℕ) (es : List DirEnt) → is_taken ver (versions name es) ≡ false → (x : DirEnt) → Has es x → x.name ≡ name → x.ver ≡ ver → ⊥
not_taken name ver es free x has names vers =
    first_there ver (versions name es) x (has_passed (λ (y : DirEnt). bytes_eq y.name name) es x has ((bytes_eq-Decides x.name name).1 names)) vers free

-- ---- a directory with other entries

-- What the entries `es` are that the directory n has then: old ones, and new ones of files that are there. Afterwards it is left open of file
-- m whether an entry names it.
pub record Edited (c : Cat) (n : ℕ) (d : File) (es : List DirEnt) (m : ℕ) (New : DirEnt → Type 0) : Type 0 where
  pub at : file_at c n ≡ Some d
  pub dir : d.dir ≡ true
  pub back : (e : DirEnt) → Has es e → Has d.entries e ⊎ New e
  pub high : (e : DirEnt) → New e → 11 < e.fid.num
  pub alive : (e : DirEnt) → New e → Alive c e.fid
  pub fid : (e : DirEnt) (q : Place) → New e → In (with_entries c n d es) q → e.fid ≡ q.entry.fid → record { dir = n; entry = e } ≡ q
  pub key : (e x : DirEnt) → New e → Has es x → e.name ≡ x.name → e.ver ≡ x.ver → e ≡ x
  pub named : (j : ℕ) (g : File) → file_at c j ≡ Some g → g.marked ≡ false → (j ≡ m → ⊥) → Names (with_entries c n d es) (record { num = j; seq = g.seq })

module _ (c : Cat) (n : ℕ) (d : File) (es : List DirEnt) (at : file_at c n ≡ Some d) where
  abbrev new : Cat
  new = with_entries c n d es

  abbrev listing : File
  listing = record d { entries = es }

  rises : 0 < n
  rises = number_rises c n d at

  pub there : file_at new n ≡ Some listing
  there = file_same c n d listing at

  -- an entry of the new catalogue
  pub in_new : (p : Place) → In new p → ((p.dir ≡ n) × Has es p.entry) ⊎ ((p.dir ≡ n → ⊥) × In c p)
  in_new p i = by_case (at_after c n p.dir (Used listing) i.file rises i.at) where
    by_case : ((p.dir ≡ n) × (Used listing ≡ Used i.file)) ⊎ ((p.dir ≡ n → ⊥) × (file_at c p.dir ≡ Some i.file)) → ((p.dir ≡ n) × Has es p.entry) ⊎ ((p.dir ≡ n → ⊥) × In c p)
    by_case (inl (here, same)) = let is : listing ≡ i.file = cc same in inl (here, subst (λ (x : File). Has x.entries p.entry) (sym is) i.entry)
    by_case (inr (other, old)) = inr (other, record { file = i.file; at = old; dir = i.dir; entry = i.entry })

  -- an old one in another directory, or one that the directory has
  pub to_new : (p : Place) → In c p → (p.dir ≡ n → Has es p.entry) → In new p
  to_new p i has = by_case (cases_eq p.dir n) where
    by_case : (p.dir ≡ n) ⊎ (p.dir ≡ n → ⊥) → In new p
    by_case (inl here) =
        let same : i.file ≡ d = one_file c n i.file d (ap (λ k. file_at c k) (sym here) ∙ i.at) at in
        record { file = listing; at = ap (λ k. file_at new k) here ∙ there; dir = ap (λ (x : File). x.dir) (sym same) ∙ i.dir; entry = has here }
    by_case (inr other) = record { file = i.file; at = file_other c n p.dir (Used listing) rises other ∙ i.at; dir = i.dir; entry = i.entry }

  pub mine : (e : DirEnt) → d.dir ≡ true → Has es e → In new (record { dir = n; entry = e })
  mine e dir has = record { file = listing; at = there; dir = dir; entry = has }

  pub still_alive : (fid : Fid) → Alive c fid → Alive new fid
  still_alive fid a = by_case (cases_eq fid.num n) where
    by_case : (fid.num ≡ n) ⊎ (fid.num ≡ n → ⊥) → Alive new fid
    by_case (inl here) =
        let same : a.file ≡ d = one_file c n a.file d (ap (λ k. file_at c k) (sym here) ∙ a.at) at in
        record { file = listing; at = ap (λ k. file_at new k) here ∙ there; seq = ap (λ (x : File). x.seq) (sym same) ∙ a.seq; free = ap (λ (x : File). x.marked) (sym same) ∙ a.free }
    by_case (inr other) = record { file = a.file; at = file_other c n fid.num (Used listing) rises other ∙ a.at; seq = a.seq; free = a.free }

  -- a file of the new catalogue was there
  file_was : (j : ℕ) (g : File) → file_at new j ≡ Some g → (x : File) × (file_at c j ≡ Some x) × (x.seq ≡ g.seq) × (x.marked ≡ g.marked)
  file_was j g is = by_case (at_after c n j (Used listing) g rises is) where
    by_case : ((j ≡ n) × (Used listing ≡ Used g)) ⊎ ((j ≡ n → ⊥) × (file_at c j ≡ Some g)) → (x : File) × (file_at c j ≡ Some x) × (x.seq ≡ g.seq) × (x.marked ≡ g.marked)
    by_case (inl (here, same)) =
        let one : listing ≡ g = cc same in
        (d, ap (λ k. file_at c k) here ∙ at, ap (λ (z : File). z.seq) one, ap (λ (z : File). z.marked) one)
    by_case (inr (other, old)) = (g, old, refl, refl)

module _ (c : Cat) (n : ℕ) (d : File) (es : List DirEnt) (k m : ℕ) (New : DirEnt → Type 0) (t : Edited c n d es m New) (h : Neat c k) where
  old_in : (e : DirEnt) → Has d.entries e → In c (record { dir = n; entry = e })
  old_in e has = record { file = d; at = t.at; dir = t.dir; entry = has }

  -- an entry is an old one, or a new one of the directory
  which : (p : Place) → In (with_entries c n d es) p → In c p ⊎ ((p.dir ≡ n) × New p.entry)
  which p i = by_place (in_new c n d es t.at p i) where
    by_kind : p.dir ≡ n → Has d.entries p.entry ⊎ New p.entry → In c p ⊎ ((p.dir ≡ n) × New p.entry)
    by_kind here (inl has) = inl (record { file = d; at = ap (λ z. file_at c z) here ∙ t.at; dir = t.dir; entry = has })
    by_kind here (inr fresh) = inr (here, fresh)

    by_place : ((p.dir ≡ n) × Has es p.entry) ⊎ ((p.dir ≡ n → ⊥) × In c p) → In c p ⊎ ((p.dir ≡ n) × New p.entry)
    by_place (inl (here, has)) = by_kind here (t.back p.entry has)
    by_place (inr (other, old)) = inl old

  placed_at : (p : Place) → p.dir ≡ n → record { dir = n; entry = p.entry } ≡ p
  placed_at p here = ap (λ (x : ℕ). record { dir = x; entry = p.entry }) (sym here)

  pub entries_neat : Neat (with_entries c n d es) m
  entries_neat = record {
    placed = λ j g e is has. placed j g e is has (at_after c n j (Used (record d { entries = es })) g (number_rises c n d t.at) is);
    one = λ p q i j same high. one p q i j same high (which p i) (which q j);
    own = λ p i low. own p low (which p i);
    alive = λ p i. still_alive c n d es t.at p.entry.fid (alive p (which p i));
    keyed = λ p q i j match. keyed p q i j match (which p i) (which q j);
    named = λ j g is free apart.
        let x = file_was c n d es t.at j g is in
        subst (λ z. Names (with_entries c n d es) (record { num = j; seq = z })) x.2 (t.named j x.0 x.1 (x.3 ∙ free) apart);
  } where
    placed : (j : ℕ) (g : File) (e : DirEnt) → file_at (with_entries c n d es) j ≡ Some g → Has g.entries e
        → ((j ≡ n) × (Used (record d { entries = es }) ≡ Used g)) ⊎ ((j ≡ n → ⊥) × (file_at c j ≡ Some g)) → g.dir ≡ true
    placed j g e is has (inl (here, same)) = let one : record d { entries = es } ≡ g = cc same in ap (λ (z : File). z.dir) (sym one) ∙ t.dir
    placed j g e is has (inr (other, old)) = h.placed j g e old has

    one : (p q : Place) → In (with_entries c n d es) p → In (with_entries c n d es) q → p.entry.fid ≡ q.entry.fid → 11 < p.entry.fid.num
        → In c p ⊎ ((p.dir ≡ n) × New p.entry) → In c q ⊎ ((q.dir ≡ n) × New q.entry) → p ≡ q
    one p q i j same high (inl a) (inl b) = h.one p q a b same high
    one p q i j same high (inr (here, fresh)) b = sym (placed_at p here) ∙ t.fid p.entry q fresh j same
    one p q i j same high (inl a) (inr (here, fresh)) = sym (sym (placed_at q here) ∙ t.fid q.entry p fresh i (sym same))

    own : (p : Place) → p.entry.fid.num ≤ 11 → In c p ⊎ ((p.dir ≡ n) × New p.entry) → is_own p ≡ true
    own p low (inl a) = h.own p a low
    own p low (inr (here, fresh)) = let high = t.high p.entry fresh in absurd (omega (arith, low, high))

    alive : (p : Place) → In c p ⊎ ((p.dir ≡ n) × New p.entry) → Alive c p.entry.fid
    alive p (inl a) = h.alive p a
    alive p (inr (here, fresh)) = t.alive p.entry fresh

    -- a new entry and another one of the directory
    keyed_new : (p q : Place) → p.dir ≡ n → New p.entry → In (with_entries c n d es) q → Matches p q → p ≡ q
    keyed_new p q here fresh j match = by_place (in_new c n d es t.at q j) where
      by_place : ((q.dir ≡ n) × Has es q.entry) ⊎ ((q.dir ≡ n → ⊥) × In c q) → p ≡ q
      by_place (inl (there, has)) =
          sym (placed_at p here) ∙ (ap (λ (x : DirEnt). record { dir = n; entry = x }) (t.key p.entry q.entry fresh has match.name match.ver) ∙ placed_at q there)
      by_place (inr (other, old)) = absurd (other (sym match.dir ∙ here))

    keyed : (p q : Place) → In (with_entries c n d es) p → In (with_entries c n d es) q → Matches p q → In c p ⊎ ((p.dir ≡ n) × New p.entry) → In c q ⊎ ((q.dir ≡ n) × New q.entry) → p ≡ q
    keyed p q i j match (inl a) (inl b) = h.keyed p q a b match
    keyed p q i j match (inr (here, fresh)) b = keyed_new p q here fresh j match
    keyed p q i j match (inl a) (inr (here, fresh)) = sym (keyed_new q p here fresh i (record { dir = sym match.dir; name = sym match.name; ver = sym match.ver }))

-- ---- an entry leaves

-- an entry of a directory, with its file above the system's
pub record Leaves (c : Cat) (n : ℕ) (d : File) (e : DirEnt) : Type 0 where
  pub at : file_at c n ≡ Some d
  pub dir : d.dir ≡ true
  pub has : Has d.entries e
  pub high : 11 < e.fid.num

module _ (c : Cat) (n : ℕ) (d : File) (e : DirEnt) (l : Leaves c n d e) (h : Neat c 0) where
  abbrev left : List DirEnt
  left = without e.name e.ver d.entries

  abbrev place : Place
  place = record { dir = n; entry = e }

  pub in_place : In c place
  in_place = record { file = d; at = l.at; dir = l.dir; entry = l.has }

  was_there : (x : DirEnt) → Has left x → Has d.entries x
  was_there x has = (has_filtered (λ (y : DirEnt). not (is_entry e.name e.ver y)) d.entries x has).0

  -- the entry itself is gone
  pub not_left : Has left e → ⊥
  not_left has =
      let r = has_filtered (λ (y : DirEnt). not (is_entry e.name e.ver y)) d.entries e has in
      let both : false ≡ true = ap not (sym (is_itself e)) ∙ r.1 in
      absurd (cc both)

  -- every other one of the directory is left
  pub others_left : (p : Place) → In c p → p.dir ≡ n → (p ≡ place → ⊥) → Has left p.entry
  others_left p i here other = by_case (is_entry e.name e.ver p.entry) refl where
    has : Has d.entries p.entry
    has = subst (λ (x : File). Has x.entries p.entry) (one_file c n i.file d (ap (λ z. file_at c z) (sym here) ∙ i.at) l.at) i.entry

    by_case : (b : Bool) → is_entry e.name e.ver p.entry ≡ b → Has left p.entry
    by_case false is = has_passed (λ (y : DirEnt). not (is_entry e.name e.ver y)) d.entries p.entry has (ap not is)
    by_case true is =
        let r = entry_is e.name e.ver p.entry is in
        absurd (other (h.keyed p place i in_place (record { dir = here; name = r.0; ver = r.1 })))

  -- what names the same file is this entry
  pub same_file : (p : Place) → In c p → p.entry.fid ≡ e.fid → p ≡ place
  same_file p i same = sym (h.one place p in_place i (sym same) l.high)

  less_edited : Edited c n d left e.fid.num (λ x. ⊥)
  less_edited = record {
    at = l.at;
    dir = l.dir;
    back = λ x has. inl (was_there x has);
    high = λ x none. absurd none;
    alive = λ x none. absurd none;
    fid = λ x q none i same. absurd none;
    key = λ x y none has a b. absurd none;
    named = λ j g at free apart.
        let w = h.named j g at free (λ zero. let up = number_rises c j g at in absurd (omega (arith, up, zero))) in
        record {
          place = w.place;
          within = to_new c n d left l.at w.place w.within (λ here. others_left w.place w.within here (λ is.
              apart (sym (ap (λ (x : Fid). x.num) w.same) ∙ ap (λ (x : Place). x.entry.fid.num) is)));
          same = w.same;
        };
  }

  pub leaves_neat : Neat (with_entries c n d left) e.fid.num
  leaves_neat = entries_neat c n d left 0 e.fid.num (λ x. ⊥) less_edited h

  -- no entry names the file any more
  pub nobody_left : (p : Place) → In (with_entries c n d left) p → p.entry.fid.num ≡ e.fid.num → ⊥
  nobody_left p i number = by_place (in_new c n d left l.at p i) where
    from_old : In c p → p ≡ place
    from_old old =
        let a = h.alive p old in
        let b = h.alive place in_place in
        let one : a.file ≡ b.file = one_file c e.fid.num a.file b.file (ap (λ z. file_at c z) (sym number) ∙ a.at) b.at in
        let seq : p.entry.fid.seq ≡ e.fid.seq = sym a.seq ∙ (ap (λ (x : File). x.seq) one ∙ b.seq) in
        same_file p old (ap (λ (x : ℕ). record { num = x; seq = p.entry.fid.seq }) number ∙ ap (λ (x : ℕ). record { num = e.fid.num; seq = x }) seq)

    by_place : ((p.dir ≡ n) × Has left p.entry) ⊎ ((p.dir ≡ n → ⊥) × In c p) → ⊥
    by_place (inl (here, has)) =
        let old : In c p = record { file = d; at = ap (λ z. file_at c z) here ∙ l.at; dir = l.dir; entry = was_there p.entry has } in
        not_left (subst (λ (x : Place). Has left x.entry) (from_old old) has)
    by_place (inr (other, old)) = other (ap (λ (x : Place). x.dir) (from_old old))

  -- ---- it gets another name

  module _ (name : List ℕ) (ver : ℕ) (untaken : is_taken ver (versions name d.entries) ≡ false) where
    abbrev renamed : DirEnt
    renamed = record { name = name; ver = ver; fid = e.fid }

    abbrev both : List DirEnt
    both = inserted renamed left

    new_place : (p : Place) → In c p → p ≡ place → (fid : Fid) → p.entry.fid ≡ fid → Names (with_entries c n d both) fid
    new_place p i is fid same = record {
      place = record { dir = n; entry = renamed };
      within = mine c n d both l.at renamed l.dir (has_inserted renamed left renamed (inl refl));
      same = ap (λ (x : Place). x.entry.fid) (sym is) ∙ same;
    }

    rename_edited : Edited c n d both 0 (λ x. renamed ≡ x)
    rename_edited = record {
      at = l.at;
      dir = l.dir;
      back = λ x has. back x (inserted_has renamed left x has);
      high = λ x is. subst (λ (y : DirEnt). 11 < y.fid.num) is l.high;
      alive = λ x is. subst (λ (y : DirEnt). Alive c y.fid) is (h.alive place in_place);
      fid = λ x q is i same. fid x q is same (in_new c n d both l.at q i);
      key = λ x y is has a b. key x y is a b (inserted_has renamed left y has);
      named = λ j g at free apart. named j g at (h.named j g at free apart);
    } where
      back : (x : DirEnt) → (renamed ≡ x) ⊎ Has left x → Has d.entries x ⊎ (renamed ≡ x)
      back x (inl is) = inr is
      back x (inr has) = inl (was_there x has)

      fid : (x : DirEnt) (q : Place) → renamed ≡ x → x.fid ≡ q.entry.fid → ((q.dir ≡ n) × Has both q.entry) ⊎ ((q.dir ≡ n → ⊥) × In c q) → record { dir = n; entry = x } ≡ q
      fid x q is same (inr (other, old)) = absurd (other (ap (λ (z : Place). z.dir) (same_file q old (sym (ap (λ (z : DirEnt). z.fid) is ∙ same)))))
      fid x q is same (inl (here, has)) = by_kind (inserted_has renamed left q.entry has) where
        by_kind : (renamed ≡ q.entry) ⊎ Has left q.entry → record { dir = n; entry = x } ≡ q
        by_kind (inl this) = ap (λ (z : DirEnt). record { dir = n; entry = z }) (sym is ∙ this) ∙ ap (λ (z : ℕ). record { dir = z; entry = q.entry }) (sym here)
        by_kind (inr kept) =
            let old : In c q = record { file = d; at = ap (λ z. file_at c z) here ∙ l.at; dir = l.dir; entry = was_there q.entry kept } in
            let one : q ≡ place = same_file q old (sym (ap (λ (z : DirEnt). z.fid) is ∙ same)) in
            absurd (not_left (subst (λ (z : Place). Has left z.entry) one kept))

      key : (x y : DirEnt) → renamed ≡ x → x.name ≡ y.name → x.ver ≡ y.ver → (renamed ≡ y) ⊎ Has left y → x ≡ y
      key x y is a b (inl this) = sym is ∙ this
      key x y is a b (inr kept) = absurd (not_taken name ver d.entries untaken y (was_there y kept) (sym a ∙ ap (λ (z : DirEnt). z.name) (sym is)) (sym b ∙ ap (λ (z : DirEnt). z.ver) (sym is)))

      -- who was named by the entry is named by it under its new name
      named : (j : ℕ) (g : File) → file_at c j ≡ Some g → Names c (record { num = j; seq = g.seq }) → Names (with_entries c n d both) (record { num = j; seq = g.seq })
      named j g at w = by_case (is_entry e.name e.ver w.place.entry) refl (cases_eq w.place.dir n) where
        p : Place
        p = w.place

        stay : (p.dir ≡ n → Has both p.entry) → Names (with_entries c n d both) (record { num = j; seq = g.seq })
        stay has = record { place = p; within = to_new c n d both l.at p w.within has; same = w.same }

        has_old : p.dir ≡ n → Has d.entries p.entry
        has_old here = subst (λ (x : File). Has x.entries p.entry) (one_file c n w.within.file d (ap (λ z. file_at c z) (sym here) ∙ w.within.at) l.at) w.within.entry

        by_case : (b : Bool) → is_entry e.name e.ver p.entry ≡ b → (p.dir ≡ n) ⊎ (p.dir ≡ n → ⊥) → Names (with_entries c n d both) (record { num = j; seq = g.seq })
        by_case b is (inr other) = stay (λ here. absurd (other here))
        by_case false is (inl here) = stay (λ same. has_inserted renamed left p.entry (inr (has_passed (λ (y : DirEnt). not (is_entry e.name e.ver y)) d.entries p.entry (has_old here) (ap not is))))
        by_case true is (inl here) =
            let r = entry_is e.name e.ver p.entry is in
            new_place p w.within (h.keyed p place w.within in_place (record { dir = here; name = r.0; ver = r.1 })) (record { num = j; seq = g.seq }) w.same

    pub renamed_neat : Neat (with_entries c n d both) 0
    renamed_neat = entries_neat c n d both 0 0 (λ x. renamed ≡ x) rename_edited h

-- ---- an entry is entered, of a file that no entry names

module _ (c : Cat) (n : ℕ) (d : File) (e : DirEnt) (f : File) (at : file_at c n ≡ Some d) (dir : d.dir ≡ true) (high : 11 < e.fid.num) (own : file_at c e.fid.num ≡ Some f)
    (seq : f.seq ≡ e.fid.seq) (free : f.marked ≡ false) (unnamed : (p : Place) → In c p → p.entry.fid.num ≡ e.fid.num → ⊥) (untaken : is_taken e.ver (versions e.name d.entries) ≡ false) (h : Neat c e.fid.num) where
  abbrev more : List DirEnt
  more = inserted e d.entries

  more_edited : Edited c n d more 0 (λ x. e ≡ x)
  more_edited = record {
    at = at;
    dir = dir;
    back = λ x has. back x (inserted_has e d.entries x has);
    high = λ x is. subst (λ (y : DirEnt). 11 < y.fid.num) is high;
    alive = λ x is. subst (λ (y : DirEnt). Alive c y.fid) is (record { file = f; at = own; seq = seq; free = free });
    fid = λ x q is i same. fid x q is same (in_new c n d more at q i);
    key = λ x y is has a b. key x y is a b (inserted_has e d.entries y has);
    named = λ j g there unmarked apart. named j g there unmarked (cases_eq j e.fid.num);
  } where
    back : (x : DirEnt) → (e ≡ x) ⊎ Has d.entries x → Has d.entries x ⊎ (e ≡ x)
    back x (inl is) = inr is
    back x (inr has) = inl has

    fid : (x : DirEnt) (q : Place) → e ≡ x → x.fid ≡ q.entry.fid → ((q.dir ≡ n) × Has more q.entry) ⊎ ((q.dir ≡ n → ⊥) × In c q) → record { dir = n; entry = x } ≡ q
    fid x q is same (inr (other, old)) = absurd (unnamed q old (ap (λ (z : Fid). z.num) (sym (ap (λ (z : DirEnt). z.fid) is ∙ same))))
    fid x q is same (inl (here, has)) = by_kind (inserted_has e d.entries q.entry has) where
      by_kind : (e ≡ q.entry) ⊎ Has d.entries q.entry → record { dir = n; entry = x } ≡ q
      by_kind (inl this) = ap (λ (z : DirEnt). record { dir = n; entry = z }) (sym is ∙ this) ∙ ap (λ (z : ℕ). record { dir = z; entry = q.entry }) (sym here)
      by_kind (inr kept) =
          let old : In c q = record { file = d; at = ap (λ z. file_at c z) here ∙ at; dir = dir; entry = kept } in
          absurd (unnamed q old (ap (λ (z : Fid). z.num) (sym (ap (λ (z : DirEnt). z.fid) is ∙ same))))

    key : (x y : DirEnt) → e ≡ x → x.name ≡ y.name → x.ver ≡ y.ver → (e ≡ y) ⊎ Has d.entries y → x ≡ y
    key x y is a b (inl this) = sym is ∙ this
    key x y is a b (inr kept) = absurd (not_taken e.name e.ver d.entries untaken y kept (sym a ∙ ap (λ (z : DirEnt). z.name) (sym is)) (sym b ∙ ap (λ (z : DirEnt). z.ver) (sym is)))

    named : (j : ℕ) (g : File) → file_at c j ≡ Some g → g.marked ≡ false → (j ≡ e.fid.num) ⊎ (j ≡ e.fid.num → ⊥) → Names (with_entries c n d more) (record { num = j; seq = g.seq })
    named j g there unmarked (inl here) =
        let one : f ≡ g = one_file c e.fid.num f g own (ap (λ z. file_at c z) (sym here) ∙ there) in
        record {
          place = record { dir = n; entry = e };
          within = mine c n d more at e dir (has_inserted e d.entries e (inl refl));
          same = ap (λ (x : ℕ). record { num = x; seq = e.fid.seq }) (sym here) ∙ ap (λ (x : ℕ). record { num = j; seq = x }) (sym seq ∙ ap (λ (z : File). z.seq) one);
        }
    named j g there unmarked (inr other) =
        let w = h.named j g there unmarked other in
        record {
          place = w.place;
          within = to_new c n d more at w.place w.within (λ here. has_inserted e d.entries w.place.entry (inr (
              subst (λ (x : File). Has x.entries w.place.entry) (one_file c n w.within.file d (ap (λ z. file_at c z) (sym here) ∙ w.within.at) at) w.within.entry)));
          same = w.same;
        }

  pub enters_neat : Neat (with_entries c n d more) 0
  enters_neat = entries_neat c n d more e.fid.num 0 (λ x. e ≡ x) more_edited h
