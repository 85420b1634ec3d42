-- What a change of one slot leaves of a tidy catalogue.
use Rattle.std.proofs.Common.{◌≡◌, ◌<◌, ◌⊎◌, inl, inr, ◌∙◌, ℕ, true, false, List, [], Some, refl, sym, ap, subst, arith}
use Rattle.std.proofs.lemmas.Bool.{cases_eq}
use Rattle.plain_cat.specs.declared.ids.Fid.{Fid}
use Rattle.plain_cat.specs.declared.entries.DirEnt.{DirEnt}
use Rattle.plain_cat.specs.declared.cat.Cat.{Cat}
use Rattle.plain_cat.specs.declared.cat.File.{File}
use Rattle.plain_cat.specs.declared.cat.Slot.{Slot}
use Rattle.plain_cat.specs.declared.cat.Slot.TheVariants.{Used}
use Rattle.plain_rules.specs.declared.places.Place.{Place}
use Rattle.plain_rules.specs.Lookups.{file_at}
use Rattle.plain_rules.specs.Changes.{with_slot, with_file}
use Rattle.base_words.specs.Lists.{Has}
use Rattle.plain_laws.proofs.Standing.{number_rises, file_same, file_other, Alive}
use Rattle.plain_laws.proofs.Places.{In, Names}
use Rattle.plain_mends.proofs.SoundSteps.{at_after}
use Rattle.plain_tidy.proofs.Neat.{Neat}

-- ---- another slot

in_after : (c : Cat) (n : ℕ) (s : Slot) (p : Place) → 0 < n → (p.dir ≡ n → ⊥) → In c p → In (with_slot c n s) p
in_after c n s p rises other i = record { file = i.file; at = file_other c n p.dir s rises other ∙ i.at; dir = i.dir; entry = i.entry }

in_before : (c : Cat) (n : ℕ) (s : Slot) (p : Place) → 0 < n → (p.dir ≡ n → ⊥) → In (with_slot c n s) p → In c p
in_before c n s p rises other i = record { file = i.file; at = sym (file_other c n p.dir s rises other) ∙ i.at; dir = i.dir; entry = i.entry }

alive_after : (c : Cat) (n : ℕ) (s : Slot) (fid : Fid) → 0 < n → (fid.num ≡ n → ⊥) → Alive c fid → Alive (with_slot c n s) fid
alive_after c n s fid rises other a = record { file = a.file; at = file_other c n fid.num s rises other ∙ a.at; seq = a.seq; free = a.free }

names_after : (c : Cat) (n : ℕ) (s : Slot) (fid : Fid) (w : Names c fid) → 0 < n → (w.place.dir ≡ n → ⊥) → Names (with_slot c n s) fid
names_after c n s fid w rises other = record { place = w.place; within = in_after c n s w.place rises other w.within; same = w.same }

-- one file under a number
pub one_file : (c : Cat) (n : ℕ) (f g : File) → file_at c n ≡ Some f → file_at c n ≡ Some g → f ≡ g
one_file c n f g at there = let both : Some f ≡ Some g = sym at ∙ there in cc both

-- ---- a free slot gets a file without entries

module _ (c : Cat) (n : ℕ) (f : File) (rises : 0 < n) (none : (g : File) → file_at c n ≡ Some g → ⊥) (bare : f.entries ≡ []) where
  abbrev more : Cat
  more = with_file c n f

  nothing_has : (e : DirEnt) → Has f.entries e → ⊥
  nothing_has e has = subst (λ (es : List DirEnt). Has es e) bare has

  in_old : (p : Place) → In more p → In c p
  in_old p i = by_case (at_after c n p.dir (Used f) i.file rises i.at) where
    by_case : ((p.dir ≡ n) × (Used f ≡ Used i.file)) ⊎ ((p.dir ≡ n → ⊥) × (file_at c p.dir ≡ Some i.file)) → In c p
    by_case (inl (here, same)) = let is : f ≡ i.file = cc same in absurd (nothing_has p.entry (subst (λ (x : File). Has x.entries p.entry) (sym is) i.entry))
    by_case (inr (other, at)) = record { file = i.file; at = at; dir = i.dir; entry = i.entry }

  not_there : (p : Place) → In c p → p.dir ≡ n → ⊥
  not_there p i here = none i.file (ap (λ k. file_at c k) (sym here) ∙ i.at)

  -- no entry names the number
  pub nobody_names : Neat c 0 → (p : Place) → In more p → p.entry.fid.num ≡ n → ⊥
  nobody_names h p i number = let a = h.alive p (in_old p i) in none a.file (ap (λ k. file_at c k) (sym number) ∙ a.at)

  pub placed_neat : Neat c 0 → Neat more n
  placed_neat h = record {
    placed = λ k g e at has. placed k g e has (at_after c n k (Used f) g rises at);
    one = λ p q i j same high. h.one p q (in_old p i) (in_old q j) same high;
    own = λ p i low. h.own p (in_old p i) low;
    alive = λ p i. alive_after c n (Used f) p.entry.fid rises (nobody_names h p i) (h.alive p (in_old p i));
    keyed = λ p q i j m. h.keyed p q (in_old p i) (in_old q j) m;
    named = λ k g at free apart. named k g free apart (at_after c n k (Used f) g rises at);
  } where
    placed : (k : ℕ) (g : File) (e : DirEnt) → Has g.entries e → ((k ≡ n) × (Used f ≡ Used g)) ⊎ ((k ≡ n → ⊥) × (file_at c k ≡ Some g)) → g.dir ≡ true
    placed k g e has (inl (here, same)) = let is : f ≡ g = cc same in absurd (nothing_has e (subst (λ (x : File). Has x.entries e) (sym is) has))
    placed k g e has (inr (other, at)) = h.placed k g e at has

    named : (k : ℕ) (g : File) → g.marked ≡ false → (k ≡ n → ⊥) → ((k ≡ n) × (Used f ≡ Used g)) ⊎ ((k ≡ n → ⊥) × (file_at c k ≡ Some g)) → Names more (record { num = k; seq = g.seq })
    named k g free apart (inl (here, same)) = absurd (apart here)
    named k g free apart (inr (other, at)) =
        let w = h.named k g at free (λ zero. let up = number_rises c k g at in absurd (omega (arith, up, zero))) in
        names_after c n (Used f) (record { num = k; seq = g.seq }) w rises (not_there w.place w.within)

-- ---- a slot that no entry names, of a file without entries, becomes free or is marked

module _ (c : Cat) (k n : ℕ) (f : File) (s : Slot) (at : file_at c n ≡ Some f) (bare : (e : DirEnt) → f.dir ≡ true → Has f.entries e → ⊥)
    (unnamed : (p : Place) → In c p → p.entry.fid.num ≡ n → ⊥) (gone : (g : File) → s ≡ Used g → (g.marked ≡ true) × (g.dir ≡ f.dir) × (g.entries ≡ f.entries)) (only : (m : ℕ) → (m ≡ n → ⊥) → m ≡ k → m ≡ 0) where
  abbrev less : Cat
  less = with_slot c n s

  up : 0 < n
  up = number_rises c n f at

  not_in : (p : Place) → In c p → p.dir ≡ n → ⊥
  not_in p i here =
      let same : i.file ≡ f = one_file c n i.file f (ap (λ m. file_at c m) (sym here) ∙ i.at) at in
      bare p.entry (ap (λ (x : File). x.dir) (sym same) ∙ i.dir) (subst (λ (x : File). Has x.entries p.entry) same i.entry)

  in_less : (p : Place) → In less p → In c p
  in_less p i = by_case (at_after c n p.dir s i.file up i.at) where
    by_case : ((p.dir ≡ n) × (s ≡ Used i.file)) ⊎ ((p.dir ≡ n → ⊥) × (file_at c p.dir ≡ Some i.file)) → In c p
    by_case (inl (here, same)) =
        let g = gone i.file same in
        absurd (bare p.entry (sym g.1 ∙ i.dir) (subst (λ (es : List DirEnt). Has es p.entry) g.2 i.entry))
    by_case (inr (other, there)) = record { file = i.file; at = there; dir = i.dir; entry = i.entry }

  pub gone_neat : Neat c k → Neat less 0
  gone_neat h = record {
    placed = λ m g e there has. placed m g e has (at_after c n m s g up there);
    one = λ p q i j same high. h.one p q (in_less p i) (in_less q j) same high;
    own = λ p i low. h.own p (in_less p i) low;
    alive = λ p i. alive_after c n s p.entry.fid up (unnamed p (in_less p i)) (h.alive p (in_less p i));
    keyed = λ p q i j m. h.keyed p q (in_less p i) (in_less q j) m;
    named = λ m g there free apart. named m g free apart (at_after c n m s g up there);
  } where
    placed : (m : ℕ) (g : File) (e : DirEnt) → Has g.entries e → ((m ≡ n) × (s ≡ Used g)) ⊎ ((m ≡ n → ⊥) × (file_at c m ≡ Some g)) → g.dir ≡ true
    placed m g e has (inl (here, same)) =
        let w = gone g same in w.1 ∙ h.placed n f e at (subst (λ (es : List DirEnt). Has es e) w.2 has)
    placed m g e has (inr (other, there)) = h.placed m g e there has

    named : (m : ℕ) (g : File) → g.marked ≡ false → (m ≡ 0 → ⊥) → ((m ≡ n) × (s ≡ Used g)) ⊎ ((m ≡ n → ⊥) × (file_at c m ≡ Some g)) → Names less (record { num = m; seq = g.seq })
    named m g free apart (inl (here, same)) = let both : true ≡ false = sym (gone g same).0 ∙ free in absurd (cc both)
    named m g free apart (inr (other, there)) =
        let w = h.named m g there free (λ is. apart (only m other is)) in
        names_after c n s (record { num = m; seq = g.seq }) w up (not_in w.place w.within)

-- ---- a file whose entries stay

module _ (c : Cat) (k n : ℕ) (f g : File) (at : file_at c n ≡ Some f) (seq : g.seq ≡ f.seq) (marked : g.marked ≡ f.marked) (dir : g.dir ≡ f.dir) (entries : g.entries ≡ f.entries) where
  abbrev new : Cat
  new = with_file c n g

  -- a file of the one is a file of the other
  pub was : (m : ℕ) (x : File) → file_at new m ≡ Some x → (y : File) × (file_at c m ≡ Some y) × (y.seq ≡ x.seq) × (y.marked ≡ x.marked) × (y.dir ≡ x.dir) × (y.entries ≡ x.entries)
  was m x there = by_case (at_after c n m (Used g) x (number_rises c n f at) there) where
    by_case : ((m ≡ n) × (Used g ≡ Used x)) ⊎ ((m ≡ n → ⊥) × (file_at c m ≡ Some x)) → (y : File) × (file_at c m ≡ Some y) × (y.seq ≡ x.seq) × (y.marked ≡ x.marked) × (y.dir ≡ x.dir) × (y.entries ≡ x.entries)
    by_case (inl (here, same)) =
        let is : g ≡ x = cc same in
        (f, ap (λ z. file_at c z) here ∙ at, sym seq ∙ ap (λ (z : File). z.seq) is, sym marked ∙ ap (λ (z : File). z.marked) is, sym dir ∙ ap (λ (z : File). z.dir) is, sym entries ∙ ap (λ (z : File). z.entries) is)
    by_case (inr (other, is)) = (x, is, refl, refl, refl, refl)

  pub is : (m : ℕ) (x : File) → file_at c m ≡ Some x → (y : File) × (file_at new m ≡ Some y) × (y.seq ≡ x.seq) × (y.marked ≡ x.marked) × (y.dir ≡ x.dir) × (y.entries ≡ x.entries)
  is m x there = by_case (cases_eq m n) where
    by_case : (m ≡ n) ⊎ (m ≡ n → ⊥) → (y : File) × (file_at new m ≡ Some y) × (y.seq ≡ x.seq) × (y.marked ≡ x.marked) × (y.dir ≡ x.dir) × (y.entries ≡ x.entries)
    by_case (inl here) =
        let same : f ≡ x = one_file c n f x at (ap (λ z. file_at c z) (sym here) ∙ there) in
        (g, ap (λ z. file_at new z) here ∙ file_same c n f g at, seq ∙ ap (λ (z : File). z.seq) same, marked ∙ ap (λ (z : File). z.marked) same, dir ∙ ap (λ (z : File). z.dir) same, entries ∙ ap (λ (z : File). z.entries) same)
    by_case (inr other) = (x, file_other c n m (Used g) (number_rises c n f at) other ∙ there, refl, refl, refl, refl)

  in_was : (p : Place) → In new p → In c p
  in_was p i = let y = was p.dir i.file i.at in record { file = y.0; at = y.1; dir = y.4 ∙ i.dir; entry = subst (λ (es : List DirEnt). Has es p.entry) (sym y.5) i.entry }

  in_is : (p : Place) → In c p → In new p
  in_is p i = let y = is p.dir i.file i.at in record { file = y.0; at = y.1; dir = y.4 ∙ i.dir; entry = subst (λ (es : List DirEnt). Has es p.entry) (sym y.5) i.entry }

  pub data_neat : Neat c k → Neat new k
  data_neat h = record {
    placed = λ m x e there has. let y = was m x there in sym y.4 ∙ h.placed m y.0 e y.1 (subst (λ (es : List DirEnt). Has es e) (sym y.5) has);
    one = λ p q i j same high. h.one p q (in_was p i) (in_was q j) same high;
    own = λ p i low. h.own p (in_was p i) low;
    alive = λ p i. let a = h.alive p (in_was p i) in let y = is p.entry.fid.num a.file a.at in record { file = y.0; at = y.1; seq = y.2 ∙ a.seq; free = y.3 ∙ a.free };
    keyed = λ p q i j m. h.keyed p q (in_was p i) (in_was q j) m;
    named = λ m x there free apart.
        let y = was m x there in
        let w = h.named m y.0 y.1 (y.3 ∙ free) apart in
        record { place = w.place; within = in_is w.place w.within; same = w.same ∙ ap (λ z. record { num = m; seq = z }) y.2 };
  }
