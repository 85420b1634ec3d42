-- The steps of mending.
use Rattle.std.proofs.Common.{◌≡◌, ◌+◌, ◌⊎◌, inl, inr, ◌++◌, ◌∙◌, ℕ, zero, suc, Bool, true, false, cond, not, List, [], ◌∷◌, Option, Some, None, is_none, nat_le, slice_get, refl, sym, ap, subst, arith}
use Rattle.std.specs.Prelude.{filter, option_map, option_and_then, unwrap_or}
use Rattle.std.proofs.lemmas.Bool.{and_parts, and_from, cases_eq}
use Rattle.std.proofs.lemmas.Option.{some_pair_parts}
use Rattle.plain_cat.specs.declared.entries.DirEnt.{DirEnt}
use Rattle.plain_cat.specs.declared.history.Mended.{Mended}
use Rattle.plain_cat.specs.declared.cat.Cat.{Cat}
use Rattle.plain_cat.specs.declared.cat.File.{File}
use Rattle.plain_cat.specs.declared.cat.Slot.{Slot}
use Rattle.plain_cat.specs.declared.cat.Slot.TheVariants.{Used, Free}
use Rattle.plain_rules.specs.declared.places.Place.{Place}
use Rattle.plain_rules.specs.Lookups.{slot_at, file_in, file_at, live}
use Rattle.plain_rules.specs.Directories.{inserted}
use Rattle.plain_rules.specs.Changes.{with_entries}
use Rattle.plain_rules.specs.Mending.{places, is_own, is_first, stays, less_entries, without_opens, without_entries, numbers_from, lost, lost_entry, with_lost_entry, enter, enter_all, enter_some, with_lost, is_gone, gone_slot, without_gone, put_right, counts, mended, mended_from}
use Rattle.plain_rules.proofs.Standing.{some_if, some_map, stands_at}
use Rattle.base_words.specs.Lists.{Has}
use Rattle.base_words.proofs.Listing.{has_filtered, has_passed}
use Rattle.plain_laws.proofs.Standing.{number_rises, stands_from, slot_each, file_same, file_other, Alive, alive_from, alive_to}
use Rattle.plain_laws.proofs.Places.{In, inserted_has, has_inserted}

-- a file without its entries, which mending leaves as it is until the file is gone
abbrev pub bare : File → File
bare f = record f { entries = [] }

-- a file of the one catalogue is there in the other, but for its entries
pub record Like (x : Cat) (n : ℕ) (f : File) : Type 0 where
  pub file : File
  pub at : file_at x n ≡ Some file
  pub same : bare file ≡ bare f

like_some : (x : Cat) (n : ℕ) (o : Option File) (f : File) → file_at x n ≡ o → option_map bare o ≡ Some (bare f) → Like x n f
like_some x n None f at h = absurd (cc h)
like_some x n (Some g) f at h = record { file = g; at = at; same = cc h }

-- the same files, but for their entries
abbrev pub SameFiles : Cat → Cat → Type 0
SameFiles x y = (n : ℕ) → option_map bare (file_at x n) ≡ option_map bare (file_at y n)

pub like_left : (x y : Cat) (n : ℕ) (f : File) → SameFiles x y → file_at y n ≡ Some f → Like x n f
like_left x y n f same at = like_some x n (file_at x n) f refl (same n ∙ ap (λ o. option_map bare o) at)

pub like_right : (x y : Cat) (n : ℕ) (f : File) → SameFiles x y → file_at x n ≡ Some f → Like y n f
like_right x y n f same at = like_some y n (file_at y n) f refl (sym (same n) ∙ ap (λ o. option_map bare o) at)

-- step 1
abbrev pub less_file : Cat → ℕ → File → File
less_file c n f = record f { entries = filter (λ e. stays c (record { dir = n; entry = e })) f.entries }

less_in : (c : Cat) (n : ℕ) (s : Option Slot) → file_in (option_map (less_entries c n) s) ≡ option_map (less_file c n) (file_in s)
less_in c n None = refl
less_in c n (Some (Free q)) = refl
less_in c n (Some (Used f)) = refl

pub less_at : (c : Cat) (n : ℕ) → file_at (without_entries c) n ≡ option_map (less_file c n) (file_at c n)
less_at c n = ap file_in (slot_each c (less_entries c) n) ∙ less_in c n (slot_at c n)

-- a file after step 1, and what it was
pub record Less (c : Cat) (n : ℕ) (f : File) : Type 0 where
  pub file : File
  pub at : file_at c n ≡ Some file
  pub same : less_file c n file ≡ f

less_some : (c : Cat) (n : ℕ) (o : Option File) (f : File) → file_at c n ≡ o → option_map (less_file c n) o ≡ Some f → Less c n f
less_some c n None f at h = absurd (cc h)
less_some c n (Some g) f at h = record { file = g; at = at; same = cc h }

pub less_from : (c : Cat) (n : ℕ) (f : File) → file_at (without_entries c) n ≡ Some f → Less c n f
less_from c n f h = less_some c n (file_at c n) f refl (sym (less_at c n) ∙ h)

bare_less : (c : Cat) (n : ℕ) (o : Option File) → option_map bare o ≡ option_map bare (option_map (less_file c n) o)
bare_less c n None = refl
bare_less c n (Some f) = refl

pub less_same : (c : Cat) → SameFiles c (without_entries c)
less_same c n = bare_less c n (file_at c n) ∙ ap (λ o. option_map bare o) (sym (less_at c n))

-- an entry that stays
pub record Stayed (c : Cat) (p : Place) : Type 0 where
  pub before : In c p
  pub stays : stays c p ≡ true

pub in_less : (c : Cat) (p : Place) → In (without_entries c) p → Stayed c p
in_less c p i =
    let l = less_from c p.dir i.file i.at in
    let es : Has (less_file c p.dir l.file).entries p.entry = subst (λ (f : File). Has f.entries p.entry) (sym l.same) i.entry in
    let r = has_filtered (λ (e : DirEnt). stays c (record { dir = p.dir; entry = e })) l.file.entries p.entry es in
    record {
      before = record { file = l.file; at = l.at; dir = ap (λ (f : File). f.dir) l.same ∙ i.dir; entry = r.0 };
      stays = r.1;
    }

pub less_in_to : (c : Cat) (p : Place) → In c p → stays c p ≡ true → In (without_entries c) p
less_in_to c p i h = record {
  file = less_file c p.dir i.file;
  at = less_at c p.dir ∙ ap (λ o. option_map (less_file c p.dir) o) i.at;
  dir = i.dir;
  entry = has_passed (λ (e : DirEnt). stays c (record { dir = p.dir; entry = e })) i.file.entries p.entry i.entry h;
}

-- what an entry that stays has
pub stays_parts : (c : Cat) (p : Place) → stays c p ≡ true → Alive c p.entry.fid × (cond (nat_le p.entry.fid.num 11) (is_own p) (is_first p (places c)) ≡ true)
unfolding stays
stays_parts c p h =
    let r = and_parts (not (is_none (live c p.entry.fid))) (cond (nat_le p.entry.fid.num 11) (is_own p) (is_first p (places c))) h in
    (alive_from c p.entry.fid r.0, r.1)

pub stays_from : (c : Cat) (p : Place) → Alive c p.entry.fid → cond (nat_le p.entry.fid.num 11) (is_own p) (is_first p (places c)) ≡ true → stays c p ≡ true
unfolding stays
stays_from c p a h =
    and_from (not (is_none (live c p.entry.fid))) (cond (nat_le p.entry.fid.num 11) (is_own p) (is_first p (places c))) (alive_to c p.entry.fid a) h

-- step 2: one lost file is entered
pub record Entered (x y : Cat) (m : ℕ) : Type 0 where
  pub lost : File
  pub own : File
  pub entry : DirEnt
  pub lost_at : file_at x 11 ≡ Some lost
  pub own_at : file_at x m ≡ Some own
  pub fid : entry.fid ≡ record { num = m; seq = own.seq }
  pub after : file_at y 11 ≡ Some (record lost { entries = inserted entry lost.entries })
  pub others : (n : ℕ) → (n ≡ 11 → ⊥) → file_at y n ≡ file_at x n
  pub opens : y.opens ≡ x.opens

then_entered : {X : Type 0} (o : Option X) (next : X → Option Cat) (x y : Cat) (m : ℕ) → option_and_then next o ≡ Some y
    → ((z : X) → o ≡ Some z → next z ≡ Some y → Entered x y m) → Entered x y m
then_entered None next x y m h k = absurd (cc h)
then_entered (Some z) next x y m h k = k z refl h

entered_as : (x : Cat) (m : ℕ) (d f : File) (e : DirEnt) → file_at x 11 ≡ Some d → file_at x m ≡ Some f → e.fid ≡ record { num = m; seq = f.seq }
    → Entered x (with_entries x 11 d (inserted e d.entries)) m
entered_as x m d f e at own fid = record {
  lost = d;
  own = f;
  entry = e;
  lost_at = at;
  own_at = own;
  fid = fid;
  after = file_same x 11 d (record d { entries = inserted e d.entries }) at;
  others = λ n other. file_other x 11 n (Used (record d { entries = inserted e d.entries })) (omega arith) other;
  opens = refl;
}

pub entered_by : (x : Cat) (m : ℕ) (y : Cat) → enter x m ≡ Some y → Entered x y m
unfolding enter with_lost_entry
entered_by x m y h = then_entered (file_at x 11) _ x y m h (λ d at k. then_entered (file_at x m) _ x y m k (λ f own l.
    let w = some_map (with_lost_entry x.factor d.entries m f.seq) (with_entries x 11 d) y l in
    let e = lost_entry d.entries m f.seq in
    let room : inserted e d.entries ≡ w.0 = some_if _ (inserted e d.entries) w.0 w.1 in
    subst (λ (z : Cat). Entered x z m) w.2
    (subst (λ (es : List DirEnt). Entered x (with_entries x 11 d es) m) room (entered_as x m d f e at own refl))))

pub entered_same : (x y : Cat) (m : ℕ) → Entered x y m → SameFiles x y
entered_same x y m e n = by_case (cases_eq n 11) where
  by_case : (n ≡ 11) ⊎ (n ≡ 11 → ⊥) → option_map bare (file_at x n) ≡ option_map bare (file_at y n)
  by_case (inl here) =
      ap (λ k. option_map bare (file_at x k)) here ∙ (ap (λ o. option_map bare o) e.lost_at
      ∙ (sym (ap (λ o. option_map bare o) e.after) ∙ ap (λ k. option_map bare (file_at y k)) (sym here)))
  by_case (inr other) = ap (λ o. option_map bare o) (sym (e.others n other))

-- the entry that is new
abbrev pub new_place : DirEnt → Place
new_place e = record { dir = 11; entry = e }

pub in_entered : (x y : Cat) (m : ℕ) (e : Entered x y m) (p : Place) → In y p → In x p ⊎ (p ≡ new_place e.entry)
in_entered x y m e p i = by_case (cases_eq p.dir 11) where
  at_eleven : p.dir ≡ 11 → (e.entry ≡ p.entry) ⊎ Has e.lost.entries p.entry → In x p ⊎ (p ≡ new_place e.entry)
  at_eleven here (inl new) = inr (ap (λ (k : ℕ). record { dir = k; entry = p.entry }) here ∙ ap (λ (z : DirEnt). new_place z) (sym new))
  at_eleven here (inr old) =
      let both : Some i.file ≡ Some (record e.lost { entries = inserted e.entry e.lost.entries }) = sym i.at ∙ (ap (λ k. file_at y k) here ∙ e.after) in
      let same : i.file ≡ record e.lost { entries = inserted e.entry e.lost.entries } = cc both in
      inl (record { file = e.lost; at = ap (λ k. file_at x k) here ∙ e.lost_at; dir = ap (λ (f : File). f.dir) (sym same) ∙ i.dir; entry = old })

  by_case : (p.dir ≡ 11) ⊎ (p.dir ≡ 11 → ⊥) → In x p ⊎ (p ≡ new_place e.entry)
  by_case (inl here) =
      let both : Some i.file ≡ Some (record e.lost { entries = inserted e.entry e.lost.entries }) = sym i.at ∙ (ap (λ k. file_at y k) here ∙ e.after) in
      let same : i.file ≡ record e.lost { entries = inserted e.entry e.lost.entries } = cc both in
      at_eleven here (inserted_has e.entry e.lost.entries p.entry (subst (λ (f : File). Has f.entries p.entry) same i.entry))
  by_case (inr other) = inl (record { file = i.file; at = sym (e.others p.dir other) ∙ i.at; dir = i.dir; entry = i.entry })

pub entered_in : (x y : Cat) (m : ℕ) (e : Entered x y m) (p : Place) → In x p → In y p
entered_in x y m e p i = by_case (cases_eq p.dir 11) where
  by_case : (p.dir ≡ 11) ⊎ (p.dir ≡ 11 → ⊥) → In y p
  by_case (inl here) =
      let both : Some i.file ≡ Some e.lost = sym i.at ∙ (ap (λ k. file_at x k) here ∙ e.lost_at) in
      let same : i.file ≡ e.lost = cc both in
      record {
        file = record e.lost { entries = inserted e.entry e.lost.entries };
        at = ap (λ k. file_at y k) here ∙ e.after;
        dir = ap (λ (f : File). f.dir) (sym same) ∙ i.dir;
        entry = has_inserted e.entry e.lost.entries p.entry (inr (subst (λ (f : File). Has f.entries p.entry) same i.entry));
      }
  by_case (inr other) = record { file = i.file; at = e.others p.dir other ∙ i.at; dir = i.dir; entry = i.entry }

pub entered_new : (x y : Cat) (m : ℕ) (e : Entered x y m) → e.lost.dir ≡ true → In y (new_place e.entry)
entered_new x y m e dir = record {
  file = record e.lost { entries = inserted e.entry e.lost.entries };
  at = e.after;
  dir = dir;
  entry = has_inserted e.entry e.lost.entries e.entry (inl refl);
}

-- what holds on from one entered file to the next, where the numbers that are left are told
pub all_on : (P : List ℕ → Cat → Type 0) → ((m : ℕ) (ms : List ℕ) (x y : Cat) → Entered x y m → P (m ∷ ms) x → P ms y)
    → (ns ms : List ℕ) (x y : Cat) → enter_all ns x ≡ Some y → P (ns ++ ms) x → P ms y
all_on P step [] ms x y h p = let e : x ≡ y = cc h in subst (P ms) e p
all_on P step (n ∷ ns) ms x y h p = onward (enter x n) refl h (λ z l q. all_on P step ns ms z y l q) where
  onward : (o : Option Cat) → enter x n ≡ o → option_and_then (enter_all ns) o ≡ Some y
      → ((z : Cat) → enter_all ns z ≡ Some y → P (ns ++ ms) z → P ms y) → P ms y
  onward None at k rest = absurd (cc k)
  onward (Some z) at k rest = rest z k (step n (ns ++ ms) x z (entered_by x n z at) p)

pub some_on : (P : List ℕ → Cat → Type 0) → ((m : ℕ) (ms : List ℕ) (x y : Cat) → Entered x y m → P (m ∷ ms) x → P ms y)
    → ((m : ℕ) (ms : List ℕ) (x : Cat) → P (m ∷ ms) x → P ms x) → (ms : List ℕ) (x : Cat) → P ms x → P [] (enter_some ms x)
some_on P step skip [] x p = p
some_on P step skip (m ∷ ms) x p = some_on P step skip ms (unwrap_or (enter x m) x) (onward (enter x m) refl) where
  onward : (o : Option Cat) → enter x m ≡ o → P ms (unwrap_or o x)
  onward None at = skip m ms x p
  onward (Some y) at = step m ms x y (entered_by x m y at) p

-- both parts of step 2
pub record Both (a b : Cat) : Type 0 where
  pub middle : Cat
  pub first : enter_all (lost a false) a ≡ Some middle
  pub second : enter_some (lost a true) middle ≡ b

both_some : (a b : Cat) (o : Option Cat) → enter_all (lost a false) a ≡ o → option_map (enter_some (lost a true)) o ≡ Some b → Both a b
both_some a b None at h = absurd (cc h)
both_some a b (Some x) at h = record { middle = x; first = at; second = cc h }

pub both_from : (a b : Cat) → with_lost a ≡ Some b → Both a b
both_from a b h = both_some a b (enter_all (lost a false) a) refl h

pub lost_on : (P : List ℕ → Cat → Type 0) → ((m : ℕ) (ms : List ℕ) (x y : Cat) → Entered x y m → P (m ∷ ms) x → P ms y)
    → ((m : ℕ) (ms : List ℕ) (x : Cat) → P (m ∷ ms) x → P ms x) → (a b : Cat) → with_lost a ≡ Some b → P (lost a false ++ lost a true) a → P [] b
lost_on P step skip a b h p =
    let t = both_from a b h in
    subst (P []) t.second (some_on P step skip (lost a true) t.middle (all_on P step (lost a false) (lost a true) a t.middle t.first p))

-- step 3
record Here (c : Cat) (n : ℕ) (f : File) : Type 0 where
  slot : slot_at c n ≡ Some (Used f)
  gone : is_gone c n f ≡ false

gone_if : (c : Cat) (n : ℕ) (b : Bool) (f g : File) → file_in (Some (cond b (Free f.seq) (Used f))) ≡ Some g → (b ≡ false) × (f ≡ g)
gone_if c n true f g h = absurd (cc h)
gone_if c n false f g h = (refl, cc h)

gone_some : (c : Cat) (n : ℕ) (s : Option Slot) (f : File) → slot_at c n ≡ s → file_in (option_map (gone_slot c n) s) ≡ Some f → Here c n f
gone_some c n None f at h = absurd (cc h)
gone_some c n (Some (Free q)) f at h = absurd (cc h)
gone_some c n (Some (Used g)) f at h =
    let r = gone_if c n (is_gone c n g) g f h in
    record {
      slot = at ∙ ap (λ (x : File). Some (Used x)) r.1;
      gone = ap (λ (x : File). is_gone c n x) (sym r.1) ∙ r.0;
    }

pub kept_from : (c : Cat) (n : ℕ) (f : File) → file_at (without_gone c) n ≡ Some f → (file_at c n ≡ Some f) × (is_gone c n f ≡ false)
kept_from c n f h =
    let r = gone_some c n (slot_at c n) f refl (ap file_in (sym (slot_each c (gone_slot c) n)) ∙ h) in (ap file_in r.slot, r.gone)

pub kept_to : (c : Cat) (n : ℕ) (f : File) → file_at c n ≡ Some f → is_gone c n f ≡ false → file_at (without_gone c) n ≡ Some f
kept_to c n f h k =
    let s : slot_at c n ≡ Some (Used f) = stands_from c n (Used f) (number_rises c n f h) (stands_at c n f h) in
    ap file_in (slot_each c (gone_slot c) n ∙ ap (λ o. option_map (gone_slot c n) o) s) ∙ ap (λ b. file_in (Some (cond b (Free f.seq) (Used f)))) k

-- all steps
pub record Mends (c d : Cat) : Type 0 where
  pub middle : Cat
  pub entered : with_lost (without_entries (without_opens c)) ≡ Some middle
  pub last : put_right middle ≡ d

mends_some : (c a d : Cat) (m : Mended) (o : Option Cat) → a ≡ without_entries (without_opens c) → with_lost a ≡ o → mended_from c a o ≡ Some (d, m) → Mends c d
mends_some c a d m None is at h = absurd (cc h)
mends_some c a d m (Some b) is at h =
    record { middle = b; entered = ap with_lost (sym is) ∙ at; last = (some_pair_parts (put_right b) d (counts c a b (put_right b)) m h).0 }

pub mends_from : (c d : Cat) (m : Mended) → mended c ≡ Some (d, m) → Mends c d
unfolding mended
mends_from c d m h =
    mends_some c (without_entries (without_opens c)) d m (with_lost (without_entries (without_opens c))) refl refl h

-- the numbers of slots that pass
pub number_has : (passes : ℕ → Slot → Bool) (n : ℕ) (ss : List Slot) (i : ℕ) (s : Slot) → slice_get ss i ≡ Some s → passes (n + i) s ≡ true
    → Has (numbers_from passes n ss) (n + i)
number_has passes n [] i s at h = absurd (cc at)
number_has passes n (x ∷ xs) zero s at h =
    let same : x ≡ s = cc at in
    let here : n ≡ n + 0 = omega arith in
    let p : passes n x ≡ true = ap (λ k. passes k x) here ∙ (ap (λ z. passes (n + 0) z) same ∙ h) in
    subst (λ (b : Bool). Has (cond b (n ∷ numbers_from passes (n + 1) xs) (numbers_from passes (n + 1) xs)) (n + 0)) (sym p) (inl here)
number_has passes n (x ∷ xs) (suc i) s at h =
    let there : n + 1 + i ≡ n + suc i = omega arith in
    let rest : Has (numbers_from passes (n + 1) xs) (n + suc i) =
    subst (λ (k : ℕ). Has (numbers_from passes (n + 1) xs) k) there (number_has passes (n + 1) xs i s at (ap (λ k. passes k s) there ∙ h)) in
    either (passes n x) rest where
      either : (b : Bool) → Has (numbers_from passes (n + 1) xs) (n + suc i) → Has (cond b (n ∷ numbers_from passes (n + 1) xs) (numbers_from passes (n + 1) xs)) (n + suc i)
      either true k = inr k
      either false k = k

pub record Passes (passes : ℕ → Slot → Bool) (n : ℕ) (ss : List Slot) (m : ℕ) : Type 0 where
  pub place : ℕ
  pub slot : Slot
  pub at : slice_get ss place ≡ Some slot
  pub number : m ≡ n + place
  pub passed : passes m slot ≡ true

pub has_number : (passes : ℕ → Slot → Bool) (n : ℕ) (ss : List Slot) (m : ℕ) → Has (numbers_from passes n ss) m → Passes passes n ss m
has_number passes n [] m h = absurd h
has_number passes n (x ∷ xs) m h = by_case (passes n x) refl h (λ k. has_number passes (n + 1) xs m k) where
  later : Passes passes (n + 1) xs m → Passes passes n (x ∷ xs) m
  later r = record { place = suc r.place; slot = r.slot; at = r.at; number = let e = r.number in omega (arith, e); passed = r.passed }

  by_case : (b : Bool) → b ≡ passes n x → Has (cond b (n ∷ numbers_from passes (n + 1) xs) (numbers_from passes (n + 1) xs)) m
      → (Has (numbers_from passes (n + 1) xs) m → Passes passes (n + 1) xs m) → Passes passes n (x ∷ xs) m
  by_case true e (inl k) rest =
      record { place = 0; slot = x; at = refl; number = omega (arith, k); passed = ap (λ z. passes z x) (sym k) ∙ sym e }
  by_case true e (inr k) rest = later (rest k)
  by_case false e k rest = later (rest k)
