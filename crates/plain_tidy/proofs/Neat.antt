-- A tidy catalogue by its entries and files, and what keeps it so.
use Rattle.std.proofs.Common.{◌≡◌, ◌==◌, ◌&&◌, ◌<◌, ◌≤◌, ◌⊎◌, inl, inr, ◌∙◌, ℕ, true, false, cond, List, Some, nat_le, sym, ap, subst, arith}
use Rattle.std.proofs.lemmas.Bool.{cases_Bool, and_parts, and_from, eqb-true, eq-eqb, leb-true, leb-false}
use Rattle.std.specs.Str.{bytes_eq}
use Rattle.std.proofs.lemmas.Slice.Eq.{bytes_eq-Decides}
use Rattle.plain_cat.specs.declared.ids.Fid.{Fid}
use Rattle.plain_cat.specs.declared.entries.DirEnt.{DirEnt}
use Rattle.plain_cat.specs.declared.cat.Cat.{Cat}
use Rattle.plain_cat.specs.declared.cat.File.{File}
use Rattle.plain_rules.specs.declared.places.Place.{Place}
use Rattle.plain_rules.specs.Lookups.{file_at}
use Rattle.plain_rules.specs.Mending.{places, same_place, is_own, is_first, stays}
use Rattle.plain_rules.specs.SystemFiles.{is_system_entry, system_seq, entries_of}
use Rattle.plain_mends.specs.Sound.{IsSound}
use Rattle.base_words.specs.Lists.{Has}
use Rattle.base_words.proofs.Listing.{has_from, has_to, any_has}
use Rattle.plain_laws.proofs.Standing.{number_rises, Alive}
use Rattle.plain_laws.proofs.Places.{In, in_from, in_to, first_is, first_one, first_to, own_one, Names, names_from, names_to}
use Rattle.plain_laws.proofs.Steps.{stays_parts, stays_from}
use Rattle.plain_mends.proofs.Standing.{all_stay, stays_each}
use Rattle.plain_mends.proofs.SoundSteps.{listed_is}
use Rattle.plain_tidy.specs.Tidy.{IsTidy}

-- a directory, a name and a version are the same
pub record Matches (p q : Place) : Type 0 where
  pub dir : p.dir ≡ q.dir
  pub name : p.entry.name ≡ q.entry.name
  pub ver : p.entry.ver ≡ q.entry.ver

-- the entries and the files of a tidy catalogue; of a file number it is left open whether an entry names it (0 is none)
pub record Neat (c : Cat) (k : ℕ) : Type 0 where
  pub placed : (n : ℕ) (f : File) (e : DirEnt) → file_at c n ≡ Some f → Has f.entries e → f.dir ≡ true
  pub one : (p q : Place) → In c p → In c q → p.entry.fid ≡ q.entry.fid → 11 < p.entry.fid.num → p ≡ q
  pub own : (p : Place) → In c p → p.entry.fid.num ≤ 11 → is_own p ≡ true
  pub alive : (p : Place) → In c p → Alive c p.entry.fid
  pub keyed : (p q : Place) → In c p → In c q → Matches p q → p ≡ q
  pub named : (n : ℕ) (f : File) → file_at c n ≡ Some f → f.marked ≡ false → (n ≡ k → ⊥) → Names c (record { num = n; seq = f.seq })

-- ---- from the definition, and to it

-- the own entry of a system file stands in the master file directory
own_is : (c : Cat) (n : ℕ) → IsSound c → 1 ≤ n → n ≤ 11 → (e : DirEnt) × In c (record { dir = 4; entry = e }) × (is_system_entry n e ≡ true)
own_is c n h from to =
    let r = any_has (is_system_entry n) (entries_of c 4) (h.entries n from to) in
    let s = h.systems 4 (omega arith) (omega arith) in
    let has : Has s.0.entries r.0 = subst (λ (es : List DirEnt). Has es r.0) (listed_is c 4 s.0 s.1 s.2.dir) r.1 in
    (r.0, record { file = s.0; at = s.1; dir = s.2.dir; entry = has }, r.2)

own_parts : (n : ℕ) (e : DirEnt) → is_system_entry n e ≡ true → (is_own (record { dir = 4; entry = e }) ≡ true) × (e.fid.num ≡ n) × (e.fid.seq ≡ system_seq n)
unfolding is_system_entry
own_parts n e h =
    let a = and_parts (is_own (record { dir = 4; entry = e })) ((e.fid.num == n) && (e.fid.seq == system_seq n)) h in
    let b = and_parts (e.fid.num == n) (e.fid.seq == system_seq n) a.1 in
    (a.0, eqb-true e.fid.num n b.0, eqb-true e.fid.seq (system_seq n) b.1)

fid_by : (a b : Fid) → a.num ≡ b.num → a.seq ≡ b.seq → a ≡ b
fid_by a b n q = ap (λ (x : ℕ). record { num = x; seq = a.seq }) n ∙ ap (λ (x : ℕ). record { num = b.num; seq = x }) q

pub matches_from : (p q : Place) → same_place p q ≡ true → Matches p q
unfolding same_place
matches_from p q h =
    let a = and_parts (p.dir == q.dir) (bytes_eq p.entry.name q.entry.name && (p.entry.ver == q.entry.ver)) h in
    let b = and_parts (bytes_eq p.entry.name q.entry.name) (p.entry.ver == q.entry.ver) a.1 in
    record { dir = eqb-true p.dir q.dir a.0; name = (bytes_eq-Decides p.entry.name q.entry.name).0 b.0; ver = eqb-true p.entry.ver q.entry.ver b.1 }

matches_same : (p q : Place) → Matches p q → same_place p q ≡ true
unfolding same_place
matches_same p q m =
    and_from (p.dir == q.dir) (bytes_eq p.entry.name q.entry.name && (p.entry.ver == q.entry.ver)) (eq-eqb p.dir q.dir m.dir)
    (and_from (bytes_eq p.entry.name q.entry.name) (p.entry.ver == q.entry.ver) ((bytes_eq-Decides p.entry.name q.entry.name).1 m.name) (eq-eqb p.entry.ver q.entry.ver m.ver))

-- what stays is the own entry of a system file, or the first one of its identifier
stays_how : (c : Cat) (p : Place) → stays c p ≡ true → ((p.entry.fid.num ≤ 11) × (is_own p ≡ true)) ⊎ ((11 < p.entry.fid.num) × (is_first p (places c) ≡ true))
stays_how c p h = by_case (cases_Bool (nat_le p.entry.fid.num 11)) where
  how : cond (nat_le p.entry.fid.num 11) (is_own p) (is_first p (places c)) ≡ true
  how = (stays_parts c p h).1

  by_case : (nat_le p.entry.fid.num 11 ≡ true) ⊎ (nat_le p.entry.fid.num 11 ≡ false) → ((p.entry.fid.num ≤ 11) × (is_own p ≡ true)) ⊎ ((11 < p.entry.fid.num) × (is_first p (places c) ≡ true))
  by_case (inl low) = inl (leb-true p.entry.fid.num 11 low, sym (ap (λ b. cond b (is_own p) (is_first p (places c))) low) ∙ how)
  by_case (inr high) = inr (leb-false p.entry.fid.num 11 high, sym (ap (λ b. cond b (is_own p) (is_first p (places c))) high) ∙ how)

module _ (c : Cat) (t : IsTidy c) where
  abbrev stays_at : (n : ℕ) (f : File) (e : DirEnt) → file_at c n ≡ Some f → Has f.entries e → stays c (record { dir = n; entry = e }) ≡ true
  stays_at n f e at has = stays_each c t.stay n f e at has

  stays_in : (p : Place) → In c p → stays c p ≡ true
  stays_in p i = stays_at p.dir i.file p.entry i.at i.entry

  -- an entry of a system file that stays is its own
  low_in : (p : Place) → Alive c p.entry.fid → p.entry.fid.num ≤ 11 → is_own p ≡ true → In c p
  low_in p a low own =
      let n : ℕ = p.entry.fid.num in
      let rises = number_rises c n a.file a.at in
      let q = own_is c n t.sound (omega (arith, rises)) low in
      let parts = own_parts n q.0 q.2 in
      let s = t.sound.systems n (omega (arith, rises)) low in
      let both : Some s.0 ≡ Some a.file = sym s.1 ∙ a.at in
      let same : s.0 ≡ a.file = cc both in
      let seq : p.entry.fid.seq ≡ q.0.fid.seq = sym a.seq ∙ (ap (λ (f : File). f.seq) (sym same) ∙ (s.2.seq ∙ sym parts.2)) in
      let fid : p.entry.fid ≡ q.0.fid = fid_by p.entry.fid q.0.fid (sym parts.1) seq in
      subst (λ (x : Place). In c x) (sym (own_one p (record { dir = 4; entry = q.0 }) own parts.0 fid)) q.1

  stood : (n : ℕ) (f : File) (e : DirEnt) → file_at c n ≡ Some f → Has f.entries e → In c (record { dir = n; entry = e })
  stood n f e at has = by_case (stays_how c p (stays_at n f e at has)) where
    p : Place
    p = record { dir = n; entry = e }

    by_case : ((e.fid.num ≤ 11) × (is_own p ≡ true)) ⊎ ((11 < e.fid.num) × (is_first p (places c) ≡ true)) → In c p
    by_case (inl (low, own)) = low_in p (stays_parts c p (stays_at n f e at has)).0 low own
    by_case (inr (high, first)) = in_from c p (first_is p (places c) first)

  pub neat_from : Neat c 0
  neat_from = record {
    placed = λ n f e at has. let i = stood n f e at has in let both : Some i.file ≡ Some f = sym i.at ∙ at in let same : i.file ≡ f = cc both in ap (λ (x : File). x.dir) (sym same) ∙ i.dir;
    one = λ p q i j same high. one p q i j same high (stays_how c p (stays_in p i)) (stays_how c q (stays_in q j));
    own = λ p i low. own p low (stays_how c p (stays_in p i));
    alive = λ p i. (stays_parts c p (stays_in p i)).0;
    keyed = λ p q i j m. t.keyed p q (has_to (places c) p (in_to c p i)) (has_to (places c) q (in_to c q j)) (matches_same p q m);
    named = λ n f at free apart. names_from c (record { num = n; seq = f.seq }) (t.named n f at free);
  } where
    one : (p q : Place) → In c p → In c q → p.entry.fid ≡ q.entry.fid → 11 < p.entry.fid.num → ((p.entry.fid.num ≤ 11) × (is_own p ≡ true)) ⊎ ((11 < p.entry.fid.num) × (is_first p (places c) ≡ true))
        → ((q.entry.fid.num ≤ 11) × (is_own q ≡ true)) ⊎ ((11 < q.entry.fid.num) × (is_first q (places c) ≡ true)) → p ≡ q
    one p q i j same high (inl (low, own)) k = absurd (omega (arith, low, high))
    one p q i j same high (inr h) (inl (low, own)) = let number = ap (λ (x : Fid). x.num) same in absurd (omega (arith, low, high, number))
    one p q i j same high (inr (a, first)) (inr (b, other)) = first_one p q (places c) same first other

    own : (p : Place) → p.entry.fid.num ≤ 11 → ((p.entry.fid.num ≤ 11) × (is_own p ≡ true)) ⊎ ((11 < p.entry.fid.num) × (is_first p (places c) ≡ true)) → is_own p ≡ true
    own p low (inl (a, is)) = is
    own p low (inr (high, first)) = absurd (omega (arith, low, high))

pub tidy_from : (c : Cat) → IsSound c → Neat c 0 → IsTidy c
tidy_from c sound n = record {
  sound = sound;
  stay = all_stay c stays_at;
  keyed = λ p q has also same. n.keyed p q (in_from c p (has_from (places c) p has)) (in_from c q (has_from (places c) q also)) (matches_from p q same);
  named = λ m f at free. names_to c (record { num = m; seq = f.seq }) (n.named m f at free (λ none. let rises = number_rises c m f at in absurd (omega (arith, rises, none))));
} where
  stays_at : (m : ℕ) (f : File) (e : DirEnt) → file_at c m ≡ Some f → Has f.entries e → stays c (record { dir = m; entry = e }) ≡ true
  stays_at m f e at has = stays_from c p (n.alive p i) (by_case (cases_Bool (nat_le e.fid.num 11))) where
    p : Place
    p = record { dir = m; entry = e }

    i : In c p
    i = record { file = f; at = at; dir = n.placed m f e at has; entry = has }

    by_case : (nat_le e.fid.num 11 ≡ true) ⊎ (nat_le e.fid.num 11 ≡ false) → cond (nat_le e.fid.num 11) (is_own p) (is_first p (places c)) ≡ true
    by_case (inl low) = ap (λ b. cond b (is_own p) (is_first p (places c))) low ∙ n.own p i (leb-true e.fid.num 11 low)
    by_case (inr high) = ap (λ b. cond b (is_own p) (is_first p (places c))) high
        ∙ first_to p (places c) (in_to c p i) (λ q h same. sym (n.one p q i (in_from c q h) (sym same) (leb-false e.fid.num 11 high)))
