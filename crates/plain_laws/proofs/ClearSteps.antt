use Rattle.std.proofs.Common.{◌≡◌, ◌≢◌, ◌==◌, ◌&&◌, ◌||◌, ◌-◌, ◌+◌, ◌<◌, ◌≤◌, ◌⊎◌, inl, inr, ◌∙◌, ℕ, Bool, true, false, cond, not, List, [], ◌∷◌, Option, Some, None, map, nat_le, refl, sym, ap, subst, arith}
use Rattle.std.specs.Prelude.{All}
use Rattle.std.specs.List.{Contains}
use Rattle.std.proofs.lemmas.List.Elements.{All-map, All-cons}
use Rattle.std.proofs.lemmas.Bool.{and_from, cases_Bool, cases_eq, le-leb, ne_eqb}
use Rattle.plain_cat.specs.declared.ids.Fid.{Fid}
use Rattle.plain_cat.specs.declared.entries.DirEnt.{DirEnt}
use Rattle.plain_cat.specs.declared.history.Mended.{Mended}
use Rattle.plain_cat.specs.declared.cat.Cat.{Cat}
use Rattle.plain_cat.specs.declared.cat.File.{File}
use Rattle.plain_cat.specs.declared.cat.Slot.{Slot}
use Rattle.plain_cat.specs.declared.cat.Slot.TheVariants.{Used, Free}
use Rattle.plain_cat.specs.declared.cat.Open.{Open}
use Rattle.plain_cat.specs.declared.cat.QuotaRow.{QuotaRow}
use Rattle.plain_rules.specs.declared.places.Place.{Place}
use Rattle.plain_rules.specs.Lookups.{file_at}
use Rattle.plain_rules.specs.Directories.{is_nil}
use Rattle.plain_rules.specs.Accounts.{charge}
use Rattle.plain_rules.specs.Mending.{places, is_own, is_first, each_from, without_opens, without_entries, is_empty, is_named, is_lost_slot, lost, with_lost, is_gone, gone_slot, without_gone, without_leaks, summed_row, put_right, mended}
use Rattle.plain_laws.specs.Clearing.{IsUnmarked, Cleared, AreNamed, HasOwnEntry, KeepsNames}
use Rattle.plain_rules.proofs.Standing.{stands_at}
use Rattle.base_words.specs.Lists.{Has}
use Rattle.base_words.proofs.Listing.{has_from, has_to, has_first}
use Rattle.plain_laws.proofs.Standing.{number_rises, Alive}
use Rattle.plain_laws.proofs.Places.{In, in_from, in_to, Names, names_from, names_to}
use Rattle.plain_laws.proofs.Steps.{Like, SameFiles, like_left, less_same, in_less, less_in_to, stays_from, Entered, entered_same, new_place, entered_in, entered_new, all_on, some_on, both_from, lost_on, kept_from, kept_to, mends_from, number_has}

pub kept_opens : (a b : Cat) → with_lost a ≡ Some b → b.opens ≡ a.opens
kept_opens a b h = lost_on (λ ns x. x.opens ≡ a.opens) (λ m ms x y e p. e.opens ∙ p) (λ m ms x p. p) a b h refl

unmarked_if : (c : Cat) (n : ℕ) (b m : Bool) (f : File) → m || b ≡ false → m ≡ false
unmarked_if c n b true f h = h
unmarked_if c n b false f h = refl

slot_unmarked : (b : Bool) (f : File) → (b ≡ false → f.marked ≡ false) → IsUnmarked (cond b (Free f.seq) (Used f))
slot_unmarked true f h = tt
slot_unmarked false f h = h refl

gone_unmarked : (c : Cat) (n : ℕ) (s : Slot) → IsUnmarked (gone_slot c n s)
gone_unmarked c n (Free q) = tt
gone_unmarked c n (Used f) =
    slot_unmarked (is_gone c n f) f (unmarked_if c n (not (is_named c (record { num = n; seq = f.seq }))) f.marked f)

each_is : (P : Slot → Type 0) (g : ℕ → Slot → Slot) → ((n : ℕ) (s : Slot) → P (g n s)) → (n : ℕ) (xs : List Slot) → All P (each_from g n xs)
each_is P g is n [] = λ k d h. absurd (omega (arith, h))
each_is P g is n (x ∷ xs) = All-cons P (g n x) (each_from g (n + 1) xs) (is n x) (each_is P g is (n + 1) xs)

no_opens : (os : List (Option Open)) → All (λ (o : Option Open). o ≡ None) (map (λ (o : Option Open). None) os)
no_opens os = All-map (λ (o : Option Open). o ≡ None) (λ (o : Option Open). None) os (λ k d h. refl)

no_numbers : (bs : List Bool) → All (λ (b : Bool). b ≡ false) (map (λ (b : Bool). false) bs)
no_numbers bs = All-map (λ (b : Bool). b ≡ false) (λ (b : Bool). false) bs (λ k d h. refl)

right_cleared : (c b : Cat) → with_lost (without_entries (without_opens c)) ≡ Some b → Cleared (put_right b)
right_cleared c b h = record {
  opens = subst (λ (os : List (Option Open)). All (λ (o : Option Open). o ≡ None) os) (sym (kept_opens (without_entries (without_opens c)) b h)) (no_opens c.opens);
  clusters = refl;
  numbers = no_numbers b.leaked_numbers;
  marks = each_is IsUnmarked (gone_slot b) (gone_unmarked b) 1 b.files;
  usage = All-map (λ (r : QuotaRow). r.usage ≡ charge (put_right b) r.owner) (summed_row (without_leaks (without_gone b))) b.quota (λ k d h. refl);
}

-- what mending leaves whatever it is given
pub mended_cleared : (c d : Cat) (m : Mended) → mended c ≡ Some (d, m) → Cleared d
mended_cleared c d m h = let s = mends_from c d m h in subst Cleared s.last (right_cleared c s.middle s.entered)

-- step 2 keeps files and entries
pub kept_same : (a b : Cat) → with_lost a ≡ Some b → SameFiles a b
kept_same a b h = lost_on (λ ns x. SameFiles a x) (λ m ms x y e p n. p n ∙ entered_same x y m e n) (λ m ms x p. p) a b h (λ n. refl)

pub kept_in : (a b : Cat) (p : Place) → with_lost a ≡ Some b → In a p → In b p
kept_in a b p h i = lost_on (λ ns x. In x p) (λ m ms x y e q. entered_in x y m e p q) (λ m ms x q. q) a b h i

kept_elsewhere : (a b : Cat) (n : ℕ) → with_lost a ≡ Some b → (n ≡ 11 → ⊥) → file_at b n ≡ file_at a n
kept_elsewhere a b n h other =
    lost_on (λ ns x. file_at x n ≡ file_at a n) (λ m ms x y e q. e.others n other ∙ q) (λ m ms x q. q) a b h refl

kept_names : (a b : Cat) (fid : Fid) → with_lost a ≡ Some b → Names a fid → Names b fid
kept_names a b fid h n = record { place = n.place; within = kept_in a b n.place h n.within; same = n.same }

entered_names : (x y : Cat) (m : ℕ) (fid : Fid) → Entered x y m → Names x fid → Names y fid
entered_names x y m fid e n = record { place = n.place; within = entered_in x y m e n.place n.within; same = n.same }

fid_is : (x : Fid) (k m s t : ℕ) → x ≡ record { num = k; seq = s } → k ≡ m → s ≡ t → x ≡ record { num = m; seq = t }
fid_is x k m s t h e f = h ∙ (ap (λ (n : ℕ). record { num = n; seq = s }) e ∙ ap (λ (q : ℕ). record { num = m; seq = q }) f)

-- an entered file is named
new_names : (a x y : Cat) (k m : ℕ) (f : File) → SameFiles a x → ((g : File) → file_at a 11 ≡ Some g → g.dir ≡ true) → file_at a m ≡ Some f → k ≡ m
    → Entered x y k → Names y (record { num = m; seq = f.seq })
new_names a x y k m f same dir at number e =
    let l = like_left a x 11 e.lost same e.lost_at in
    let d : e.lost.dir ≡ true = ap (λ (z : File). z.dir) (sym l.same) ∙ dir l.file l.at in
    let o = like_left a x k e.own same e.own_at in
    let both : Some f ≡ Some o.file = sym at ∙ (ap (λ n. file_at a n) (sym number) ∙ o.at) in
    let one : f ≡ o.file = cc both in
    let seq : e.own.seq ≡ f.seq = ap (λ (z : File). z.seq) (sym o.same) ∙ ap (λ (z : File). z.seq) (sym one) in
    record {
      place = new_place e.entry;
      within = entered_new x y k e d;
      same = fid_is e.entry.fid k m e.own.seq f.seq e.fid number seq;
    }

-- a file to be entered, or named by now
abbrev Ready : Cat → ℕ → Fid → List ℕ → Cat → Type 0
Ready a m fid ns x = SameFiles a x × (Names x fid ⊎ Has ns m)

pub lost_named : (a b : Cat) (m : ℕ) (f : File) → with_lost a ≡ Some b → ((g : File) → file_at a 11 ≡ Some g → g.dir ≡ true) → file_at a m ≡ Some f
    → Has (lost a false) m → Names b (record { num = m; seq = f.seq })
lost_named a b m f h dir at has =
    let t = both_from a b h in
    let first : Ready a m fid [] t.middle =
    all_on (Ready a m fid) step (lost a false) [] a t.middle t.first (λ n. refl, inr (has_first (lost a false) [] m has)) in
    let named : Names t.middle fid = done t.middle first.1 in
    subst (λ (z : Cat). Names z fid) t.second
    (some_on (λ ns x. Names x fid) (λ k ms x y e n. entered_names x y k fid e n) (λ k ms x n. n) (lost a true) t.middle named) where
      fid : Fid
      fid = record { num = m; seq = f.seq }

      done : (x : Cat) → Names x fid ⊎ Has [] m → Names x fid
      done x (inl n) = n
      done x (inr h) = absurd h

      step : (k : ℕ) (ms : List ℕ) (x y : Cat) → Entered x y k → Ready a m fid (k ∷ ms) x → Ready a m fid ms y
      step k ms x y e (same, inl n) = (λ i. same i ∙ entered_same x y k e i, inl (entered_names x y k fid e n))
      step k ms x y e (same, inr (inl number)) = (λ i. same i ∙ entered_same x y k e i, inl (new_names a x y k m f same dir at number e))
      step k ms x y e (same, inr (inr rest)) = (λ i. same i ∙ entered_same x y k e i, inr rest)

-- the own entry of a system file stays
pub own_names : (c : Cat) (n : ℕ) (f : File) → n ≤ 11 → file_at c n ≡ Some f → f.marked ≡ false → HasOwnEntry c n f
    → Names (without_entries (without_opens c)) (record { num = n; seq = f.seq })
own_names c n f few at free (p, has, own, fid) =
    let number : p.entry.fid.num ≡ n = ap (λ (z : Fid). z.num) fid in
    let low : nat_le p.entry.fid.num 11 ≡ true = le-leb p.entry.fid.num 11 (omega (arith, number, few)) in
    let alive : Alive (without_opens c) p.entry.fid =
    record { file = f; at = ap (λ k. file_at c k) number ∙ at; seq = sym (ap (λ (z : Fid). z.seq) fid); free = free } in
    let how : cond (nat_le p.entry.fid.num 11) (is_own p) (is_first p (places (without_opens c))) ≡ true =
    ap (λ b. cond b (is_own p) (is_first p (places (without_opens c)))) low ∙ own in
    record {
      place = p;
      within = less_in_to (without_opens c) p (in_from (without_opens c) p (has_from (places c) p has)) (stays_from (without_opens c) p alive how);
      same = fid;
    }

pub not_nil : (es : List DirEnt) (e : DirEnt) → Has es e → is_nil es ≡ false
not_nil [] e h = absurd h
not_nil (x ∷ xs) e h = refl

not_empty : (f : File) (e : DirEnt) → f.mark ≢ 1 → Has f.entries e → is_empty f ≡ false
not_empty f e mark has =
    let first : (f.mark == 1) ≡ false = ne_eqb f.mark 1 mark in
    ap (λ b. b || (f.dir && is_nil f.entries)) first ∙ (ap (λ b. f.dir && b) (not_nil f.entries e has) ∙ no_and f.dir) where
      no_and : (b : Bool) → b && false ≡ false
      no_and true = refl
      no_and false = refl

lost_passes : (a : Cat) (n : ℕ) (f : File) → f.marked ≡ false → is_named a (record { num = n; seq = f.seq }) ≡ false → is_empty f ≡ false
    → is_lost_slot a false n (Used f) ≡ true
lost_passes a n f free named full =
    and_from (not f.marked && not (is_named a (record { num = n; seq = f.seq }))) (not (is_empty f))
    (and_from (not f.marked) (not (is_named a (record { num = n; seq = f.seq }))) (ap not free) (ap not named)) (ap not full)

lost_has : (a : Cat) (n : ℕ) (f : File) → file_at a n ≡ Some f → is_lost_slot a false n (Used f) ≡ true → Has (lost a false) n
lost_has a n f at passes =
    let rises : 0 < n = number_rises a n f at in
    let same : 1 + (n - 1) ≡ n = omega (arith, rises) in
    subst (λ (k : ℕ). Has (lost a false) k) same
    (number_has (is_lost_slot a false) 1 a.files (n - 1) (Used f) (stands_at a n f at) (ap (λ k. is_lost_slot a false k (Used f)) same ∙ passes))

pub not_gone : (b : Cat) (n : ℕ) (f : File) → f.marked ≡ false → Names b (record { num = n; seq = f.seq }) → is_gone b n f ≡ false
not_gone b n f free named =
    ap (λ m. m || not (is_named b (record { num = n; seq = f.seq }))) free ∙ ap not (names_to b (record { num = n; seq = f.seq }) named)

-- a directory with an entry is not gone
pub holder_stays : (c b : Cat) → KeepsNames c → with_lost (without_entries (without_opens c)) ≡ Some b → (p : Place) (i : In b p)
    → is_gone b p.dir i.file ≡ false
holder_stays c b k h p i = by_case (cases_eq p.dir 11) where
  a : Cat
  a = without_entries (without_opens c)

  same : SameFiles c b
  same n = less_same (without_opens c) n ∙ kept_same a b h n

  directory : (g : File) → file_at a 11 ≡ Some g → g.dir ≡ true
  directory g at =
      let l = like_left c a 11 g (less_same (without_opens c)) at in
      let d = k.lost l.file l.at in ap (λ (z : File). z.dir) (sym l.same) ∙ d.directory

  inside : p.dir ≡ 11 → is_gone b p.dir i.file ≡ false
  inside here =
      let at : file_at b 11 ≡ Some i.file = ap (λ n. file_at b n) (sym here) ∙ i.at in
      let l = like_left c b 11 i.file same at in
      let d = k.lost l.file l.at in
      let named : Names b (record { num = 11; seq = l.file.seq }) =
      kept_names a b (record { num = 11; seq = l.file.seq }) h (own_names c 11 l.file (omega arith) l.at d.unmarked d.own) in
      let fid : ◌≡◌ {A = Fid} (record { num = 11; seq = l.file.seq }) (record { num = p.dir; seq = i.file.seq }) =
      ap (λ n. record { num = n; seq = l.file.seq }) (sym here) ∙ ap (λ (z : File). record { num = p.dir; seq = z.seq }) l.same in
      not_gone b p.dir i.file (ap (λ (z : File). z.marked) (sym l.same) ∙ d.unmarked) (subst (λ (z : Fid). Names b z) fid named)

  elsewhere : (p.dir ≡ 11 → ⊥) → is_gone b p.dir i.file ≡ false
  elsewhere other = not_gone b p.dir i.file free (named (cases_Bool (is_named a fid))) where
    fid : Fid
    fid = record { num = p.dir; seq = i.file.seq }

    at : file_at a p.dir ≡ Some i.file
    at = sym (kept_elsewhere a b p.dir h other) ∙ i.at

    before : Contains (places c) p
    before =
        let s = in_less (without_opens c) p (record { file = i.file; at = at; dir = i.dir; entry = i.entry }) in
        has_to (places c) p (in_to (without_opens c) p s.before)

    like : Like c p.dir i.file
    like = like_left c a p.dir i.file (less_same (without_opens c)) at

    free : i.file.marked ≡ false
    free = ap (λ (z : File). z.marked) (sym like.same) ∙ k.unmarked p like.file before like.at

    mark : i.file.mark ≢ 1
    mark = λ one. k.written p like.file before like.at (ap (λ (z : File). z.mark) like.same ∙ one)

    named : (is_named a fid ≡ true) ⊎ (is_named a fid ≡ false) → Names b fid
    named (inl already) = kept_names a b fid h (names_from a fid already)
    named (inr missing) =
        lost_named a b p.dir i.file h directory at
        (lost_has a p.dir i.file at (lost_passes a p.dir i.file free missing (not_empty i.file p.entry mark i.entry)))

  by_case : (p.dir ≡ 11) ⊎ (p.dir ≡ 11 → ⊥) → is_gone b p.dir i.file ≡ false
  by_case (inl here) = inside here
  by_case (inr other) = elsewhere other

named_if : (m b : Bool) → m || not b ≡ false → b ≡ true
named_if true b h = absurd (cc h)
named_if false true h = refl
named_if false false h = absurd (cc h)

-- what stays in the last step
pub kept_entry : (c b : Cat) → KeepsNames c → with_lost (without_entries (without_opens c)) ≡ Some b → (p : Place) → In b p → In (put_right b) p
kept_entry c b k h p i =
    record { file = i.file; at = kept_to b p.dir i.file i.at (holder_stays c b k h p i); dir = i.dir; entry = i.entry }

right_named : (c b : Cat) → KeepsNames c → with_lost (without_entries (without_opens c)) ≡ Some b → AreNamed (put_right b)
right_named c b k h n f at =
    let r = kept_from b n f at in
    let s = names_from b (record { num = n; seq = f.seq }) (named_if f.marked (is_named b (record { num = n; seq = f.seq })) r.1) in
    names_to (put_right b) (record { num = n; seq = f.seq })
    (record { place = s.place; within = kept_entry c b k h s.place s.within; same = s.same })

-- each file is named after mending
pub mended_named : (c d : Cat) (m : Mended) → KeepsNames c → mended c ≡ Some (d, m) → AreNamed d
mended_named c d m k h = let s = mends_from c d m h in subst AreNamed s.last (right_named c s.middle k s.entered)
