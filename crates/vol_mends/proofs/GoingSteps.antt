-- A catalogue that can be mended can be mended after each small change that mending makes.
use Rattle.std.proofs.Common.{◌≡◌, ◌==◌, ◌&&◌, ◌||◌, ◌<◌, ◌≤◌, ◌⊎◌, inl, inr, ◌∙◌, ℕ, suc, Bool, true, false, cond, not, List, [], ◌∷◌, Option, Some, None, map, replicate, nat_le, slice_get, refl, sym, ap, subst, arith}
use Rattle.std.specs.Prelude.{is_some}
use Rattle.std.specs.List.{list_any}
use Rattle.std.proofs.lemmas.Bool.{and_parts, and_from, cases_eq, cases_lt, eqb-true, eq-eqb, le-leb}
use Rattle.base_words.specs.Fields.{Block}
use Rattle.plain_cat.specs.declared.ids.Fid.{Fid}
use Rattle.plain_cat.specs.declared.ids.Uic.{Uic}
use Rattle.plain_cat.specs.declared.entries.DirEnt.{DirEnt}
use Rattle.plain_cat.specs.declared.history.Mended.{Mended}
use Rattle.plain_cat.specs.declared.cat.Cat.{Cat}
use Rattle.plain_cat.specs.declared.cat.File.{File}
use Rattle.plain_cat.specs.declared.cat.Slot.{Slot}
use Rattle.plain_cat.specs.declared.cat.Slot.TheVariants.{Used, Free}
use Rattle.plain_cat.specs.declared.cat.Open.{Open}
use Rattle.plain_cat.specs.declared.cat.QuotaRow.{QuotaRow}
use Rattle.plain_rules.specs.declared.places.Place.{Place}
use Rattle.plain_rules.specs.Lookups.{file_at, in_use, of_seq, row_of}
use Rattle.plain_rules.specs.Directories.{inserted, is_entry, without, is_nil}
use Rattle.plain_rules.specs.Answers.{has_entries}
use Rattle.plain_rules.specs.Mending.{places, is_own, is_first, stays, is_named, same_place, enter, is_gone, mended}
use Rattle.base_words.specs.Lists.{Has}
use Rattle.base_words.proofs.Listing.{has_from, has_filtered, has_passed, any_has, has_any}
use Rattle.plain_laws.proofs.Standing.{number_rises, file_same, file_other, Alive}
use Rattle.plain_laws.proofs.Places.{In, in_to, names_to}
use Rattle.plain_laws.proofs.Steps.{stays_parts, stays_from}
use Rattle.plain_mends.specs.Resuming.{MendsTo, AllStay, AreKeyed, Goes, less_one, leaving}
use Rattle.plain_mends.specs.Sound.{IsSystemFile}
use Rattle.plain_rules.specs.SystemFiles.{is_system_entry}
use Rattle.plain_rules.specs.SystemFiles.{system_seq}
use Rattle.plain_rules.specs.SystemFiles.{listed}
use Rattle.plain_rules.specs.SystemFiles.{entries_of}
use Rattle.plain_mends.proofs.Standing.{stays_each}
use Rattle.plain_mends.proofs.GoneSteps.{entry_ends}
use Rattle.plain_mends.proofs.FullSteps.{Shape, shape_by, full_ends, full_stays}
use Rattle.plain_mends.proofs.EmptySteps.{empty_ends, empty_stays}
use Rattle.plain_mends.proofs.SlotSteps.{slot_ends}
use Rattle.plain_mends.proofs.Frames.{leaks_end, usage_end}
use Rattle.plain_mends.proofs.SoundSteps.{if_listed, listed_if, at_after}
use Rattle.plain_mends.proofs.SoundAnswers.{rows_map}
use Rattle.vol_spell.specs.Owners.{Owners}
use Rattle.vol_parts.specs.declared.finding.Finding.{Finding}
use Rattle.vol_parts.specs.declared.finding.Finding.TheVariants as finding
use Rattle.vol_parts.specs.declared.geometry.Geometry.{Geometry}
use Rattle.vol_parts.specs.Fatal.{is_marked_dir, NamesFile, Path}
use Rattle.plain_rules.specs.SystemFiles.{is_system_entry as is_entry_of_system}
use Rattle.vol_parts.specs.Fatal.Path.{One, More}
use Rattle.vol_parts.specs.Findings.{CatOf}
use Rattle.vol_faults.specs.CatFindings.{IsFatalOf}
use Rattle.vol_faults.proofs.RoomLemmas.{no-room-exact}
use Rattle.vol_spell.specs.Spelling.{Spells}
use Rattle.vol_mends.specs.Weak.{NoOuts, shut, CanMend}
use Rattle.vol_mends.specs.Mends.{Mends}
use Rattle.vol_mends.specs.Going.{Change, GoesOn, ChangeMends}
use Rattle.vol_mends.specs.Going.Change.{Removed, EnteredFull, EnteredEmpty, Freed, Leaked, Summed}
use Rattle.vol_mends.proofs.SoundMends.{place_has, marked}
use Rattle.vol_mends.proofs.Basics.{clash}
use Rattle.vol_mends.proofs.WeakSteps.{spelt_is_weak}
use Rattle.vol_mends.proofs.AcceptedSteps.{entry_place}
use Rattle.plain_mends.proofs.SoundMends.{whole_system, dir_four}
use Rattle.vol_mends.proofs.Telling.{is_true}

-- ---- what a catalogue that can be mended has

pub system_whole : (k : ℕ) (e : DirEnt) → is_system_entry k e ≡ true → (is_own (record { dir = 4; entry = e }) ≡ true) × ((e.fid.num ≡ k) × (e.fid.seq ≡ system_seq k))
unfolding is_system_entry
system_whole k e h =
    let a = and_parts (is_own (record { dir = 4; entry = e })) ((e.fid.num == k) && (e.fid.seq == system_seq k)) h in
    let b = and_parts (e.fid.num == k) (e.fid.seq == system_seq k) a.1 in
    (a.0, (eqb-true e.fid.num k b.0, eqb-true e.fid.seq (system_seq k) b.1))

-- each system file has its own entry
pub entries : (c : Cat) → CanMend c → (n : ℕ) → 1 ≤ n → n ≤ 11 → list_any (is_system_entry n) (entries_of c 4) ≡ true
entries c h n from to =
    is_true (list_any (is_system_entry n) (entries_of c 4)) (λ e. h.sound (finding.SystemEntry n) (from, to, e))

-- which stays
pub system_stays : (c : Cat) (k : ℕ) (e : DirEnt) → CanMend c → 1 ≤ k → k ≤ 11 → is_system_entry k e ≡ true → stays c (record { dir = 4; entry = e }) ≡ true
system_stays c k e h from to is =
    let w = system_whole k e is in
    let r = h.systems k from to in
    let a : Alive c e.fid = record { file = r.0; at = ap (λ n. file_at c n) w.1.0 ∙ r.1; seq = r.2.seq ∙ sym w.1.1; free = r.2.unmarked } in
    let number = w.1.0 in
    let low : nat_le e.fid.num 11 ≡ true = le-leb e.fid.num 11 (omega (arith, number, to)) in
    stays_from c (record { dir = 4; entry = e }) a (ap (λ b. cond b (is_own (record { dir = 4; entry = e })) (is_first (record { dir = 4; entry = e }) (places c))) low ∙ w.0)

pub in_of : (x : Cat) (n : ℕ) (e : DirEnt) → Has (entries_of x n) e → In x (record { dir = n; entry = e })
in_of x n e has = by_file (file_at x n) refl has where
  by_file : (o : Option File) → file_at x n ≡ o → Has (listed o) e → In x (record { dir = n; entry = e })
  by_file None at k = absurd k
  by_file (Some f) at k = let r = if_listed f.dir f.entries e k in record { file = f; at = at; dir = r.0; entry = r.1 }

system_named : (c : Cat) (n : ℕ) (f : File) → CanMend c → file_at c n ≡ Some f → n ≤ 11 → (f.marked ≡ false) × (is_named c (record { num = n; seq = f.seq }) ≡ true)
system_named c n f h at low =
    let rises = number_rises c n f at in
    let from : 1 ≤ n = omega (arith, rises) in
    let r = any_has (is_system_entry n) (entries_of c 4) (entries c h n from low) in
    let w = system_whole n r.0 r.2 in
    let s = h.systems n from low in
    let both : Some s.0 ≡ Some f = sym s.1 ∙ at in
    let same : s.0 ≡ f = cc both in
    let seq : r.0.fid.seq ≡ f.seq = w.1.1 ∙ (sym s.2.seq ∙ ap (λ (x : File). x.seq) same) in (
      ap (λ (x : File). x.marked) (sym same) ∙ s.2.unmarked,
      names_to c (record { num = n; seq = f.seq }) (record {
        place = record { dir = 4; entry = r.0 };
        within = in_of c 4 r.0 r.1;
        same = ap (λ (k : ℕ). record { num = k; seq = r.0.fid.seq }) w.1.0 ∙ ap (λ (q : ℕ). record { num = n; seq = q }) seq;
      }),
    )

-- there is room for the lost files that are not empty
ends_somewhere : (c : Cat) → CanMend c → (z : Cat) × MendsTo c z
ends_somewhere c h = by_end (mended c) refl where
  by_end : (o : Option (Cat × Mended)) → mended c ≡ o → (z : Cat) × MendsTo c z
  by_end None e = let r = (no-room-exact c).1 e in absurd (h.sound (finding.NoRoom r.0) r.1)
  by_end (Some r) e = (r.0, (r.1, e))

has_room : (c z : Cat) → MendsTo c z → (n : ℕ) → IsFatalOf c (finding.NoRoom n) → ⊥
has_room c z ends n e = let both : Some (z, ends.0) ≡ None = sym ends.1 ∙ (no-room-exact c).0 (n, e) in cc both

-- ---- files and entries that are fewer

-- a file has all that another one has, and no entry but of it
record IsLess (f g : File) : Type 0 where
  seq : g.seq ≡ f.seq
  owner : g.owner ≡ f.owner
  dir : g.dir ≡ f.dir
  marked : g.marked ≡ f.marked
  few : (e : DirEnt) → Has g.entries e → Has f.entries e

record Lessens (c d : Cat) : Type 0 where
  files : (n : ℕ) (g : File) → file_at d n ≡ Some g → (f : File) × (file_at c n ≡ Some f) × IsLess f g
  low : (n : ℕ) (f : File) → 1 ≤ n → n ≤ 11 → file_at c n ≡ Some f → (g : File) × (file_at d n ≡ Some g) × IsLess f g
  own : (k : ℕ) (e : DirEnt) → 1 ≤ k → k ≤ 11 → Has (entries_of c 4) e → is_system_entry k e ≡ true → Has (entries_of d 4) e
  rows : (o : Uic) → is_some (row_of o c.quota) ≡ true → is_some (row_of o d.quota) ≡ true

same_less : (f : File) → IsLess f f
same_less f = record { seq = refl; owner = refl; dir = refl; marked = refl; few = λ e h. h }

used_seq : (f g : File) (q : ℕ) → g.seq ≡ f.seq → is_some (of_seq q (Some g)) ≡ true → is_some (of_seq q (Some f)) ≡ true
used_seq f g q same h = by_case (f.seq == q) (ap (λ s. is_some (cond (s == q) (Some g) None)) (sym same) ∙ h) where
  by_case : (b : Bool) → is_some (cond b (Some g) None) ≡ true → is_some (cond b (Some f) None) ≡ true
  by_case true k = refl
  by_case false k = absurd (cc k)

full : (es ds : List DirEnt) → ((e : DirEnt) → Has ds e → Has es e) → not (is_nil ds) ≡ true → not (is_nil es) ≡ true
full es [] h k = absurd (let x : false ≡ true = k in cc x)
full [] (d ∷ ds) h k = absurd (h d (inl refl))
full (e ∷ es) (d ∷ ds) h k = refl

module _ (c d : Cat) (less : Lessens c d) where
  used : (fid : Fid) → is_some (in_use d fid) ≡ true → is_some (in_use c fid) ≡ true
  used fid h = by_file (file_at d fid.num) refl h where
    by_file : (o : Option File) → file_at d fid.num ≡ o → is_some (of_seq fid.seq o) ≡ true → is_some (in_use c fid) ≡ true
    by_file None at k = absurd (let x : false ≡ true = k in cc x)
    by_file (Some g) at k = let r = less.files fid.num g at in ap (λ o. is_some (of_seq fid.seq o)) r.1 ∙ used_seq r.0 g fid.seq r.2.seq k

  was : (n : ℕ) (e : DirEnt) → Has (entries_of d n) e → Has (entries_of c n) e
  was n e has = by_file (file_at d n) refl has where
    by_file : (o : Option File) → file_at d n ≡ o → Has (listed o) e → Has (entries_of c n) e
    by_file None at k = absurd k
    by_file (Some g) at k =
        let r = less.files n g at in
        let t = if_listed g.dir g.entries e k in
        subst (λ (o : Option File). Has (listed o) e) (sym r.1) (listed_if r.0.dir r.0.entries e (sym r.2.dir ∙ t.0) (r.2.few e t.1))

  names : (n m : ℕ) → NamesFile d n m → NamesFile c n m
  names n m l =
      let p = entry_place (entries_of c n) l.entry (was n l.entry (place_has (entries_of d n) l.place l.entry l.there)) in
      record { place = p.0; entry = l.entry; there = p.1; used = used l.entry.fid l.used; names = l.names; other = l.other }

  path : (n m : ℕ) → Path d n m → Path c n m
  path n m (One l) = One (names n m l)
  path n m (More {k} p l) = More (path n k p) (names k m l)

  less_can : (z : Cat) → MendsTo d z → CanMend c → CanMend d
  less_can z ends h = record { systems = systems; owners = owners; sound = sound } where
    systems : (n : ℕ) → 1 ≤ n → n ≤ 11 → (f : File) × (file_at d n ≡ Some f) × IsSystemFile n f
    systems n from to =
        let s = h.systems n from to in
        let r = less.low n s.0 from to s.1 in
        (r.0, r.1, record { seq = r.2.seq ∙ s.2.seq; dir = r.2.dir ∙ s.2.dir; unmarked = r.2.marked ∙ s.2.unmarked })

    owners : (n : ℕ) (f : File) → file_at d n ≡ Some f → is_some (row_of f.owner d.quota) ≡ true
    owners n g at =
        let r = less.files n g at in
        ap (λ (o : Uic). is_some (row_of o d.quota)) r.2.owner ∙ less.rows r.0.owner (h.owners n r.0 r.1)

    own : (k : ℕ) → 1 ≤ k → k ≤ 11 → list_any (is_system_entry k) (entries_of d 4) ≡ true
    own k from to =
        let r = any_has (is_system_entry k) (entries_of c 4) (entries c h k from to) in
        has_any (is_system_entry k) (entries_of d 4) r.0 (less.own k r.0 from to r.1 r.2) r.2

    sound : (f : Finding) → IsFatalOf d f → ⊥
    sound (finding.SystemEntry n) e = clash (list_any (is_system_entry n) (entries_of d 4)) (own n e.0 e.1) e.2
    sound (finding.MarkedDir n) e =
        let m = marked (file_at d n) e in
        let r = less.files n m.0 m.1 in
        let some = and_parts m.0.dir (not (is_nil m.0.entries)) m.3 in
        h.sound (finding.MarkedDir n) (ap is_marked_dir r.1 ∙ and_from r.0.marked (has_entries (Some r.0)) (sym r.2.marked ∙ m.2)
        (and_from r.0.dir (not (is_nil r.0.entries)) (sym r.2.dir ∙ some.0) (full r.0.entries m.0.entries r.2.few some.1)))
    sound (finding.DirLoop n) e = h.sound (finding.DirLoop n) (path n n e)
    sound (finding.NoRoom n) e = has_room d z ends n e
    sound f e = e

-- the files are the same
same_files : (c d : Cat) → d.files ≡ c.files → ((o : Uic) → is_some (row_of o c.quota) ≡ true → is_some (row_of o d.quota) ≡ true) → Lessens c d
same_files c d files rows = record {
  files = λ n g at. (g, sym (here n) ∙ at, same_less g);
  low = λ n f from to at. (f, here n ∙ at, same_less f);
  own = λ k e from to has is. subst (λ (o : Option File). Has (listed o) e) (sym (here 4)) has;
  rows = rows;
} where
  here : (n : ℕ) → file_at d n ≡ file_at c n
  here n = ap (λ (fs : List Slot). file_at (record c { files = fs }) n) files

-- ---- an entry is gone

module _ (c : Cat) (p : Place) (f : File) (keyed : AreKeyed c) (goes : Goes c p f) (h : CanMend c) where
  abbrev d : Cat
  d = less_one c p f

  abbrev g : File
  g = record f { entries = without p.entry.name p.entry.ver f.entries }

  rises : 0 < p.dir
  rises = number_rises c p.dir f goes.at

  g_less : IsLess f g
  g_less = record { seq = refl; owner = refl; dir = refl; marked = refl; few = λ e has. (has_filtered (λ (x : DirEnt). not (is_entry p.entry.name p.entry.ver x)) f.entries e has).0 }

  one_has : {X : Type 0} (xs : List X) (x : X) → Has xs x → (i : ℕ) × (slice_get xs i ≡ Some x)
  one_has [] x k = absurd k
  one_has (y ∷ ys) x (inl e) = (0, ap Some e)
  one_has (y ∷ ys) x (inr k) = let r = one_has ys x k in (suc r.0, r.1)

  keyed_one : (q r : Place) → Has (places c) q → Has (places c) r → same_place q r ≡ true → q ≡ r
  keyed_one q r a b same =
      let s = one_has (places c) q a in
      let t = one_has (places c) r b in
      let number : s.0 ≡ t.0 = keyed s.0 t.0 q r s.1 t.1 same in
      let both : Some q ≡ Some r = sym s.1 ∙ (ap (slice_get (places c)) number ∙ t.1) in
      cc both

  entry_same : (e : DirEnt) → p.dir ≡ 4 → is_entry p.entry.name p.entry.ver e ≡ true → same_place (record { dir = 4; entry = e }) p ≡ true
  unfolding is_entry same_place
  entry_same e four is =
      let b = and_parts _ (e.ver == p.entry.ver) is in
      and_from (4 == p.dir) _ (eq-eqb 4 p.dir (sym four)) (and_from _ (e.ver == p.entry.ver) b.0 b.1)

  -- the own entry of a system file is another one
  kept : (k : ℕ) (e : DirEnt) → 1 ≤ k → k ≤ 11 → p.dir ≡ 4 → Has f.entries e → is_system_entry k e ≡ true → not (is_entry p.entry.name p.entry.ver e) ≡ true
  kept k e from to four has is = by_case (is_entry p.entry.name p.entry.ver e) refl where
    by_case : (b : Bool) → is_entry p.entry.name p.entry.ver e ≡ b → not b ≡ true
    by_case false x = refl
    by_case true x =
        let q : Place = record { dir = 4; entry = e } in
        let at : file_at c 4 ≡ Some f = ap (λ n. file_at c n) (sym four) ∙ goes.at in
        let one : q ≡ p = keyed_one q p (in_to c q (record { file = f; at = at; dir = goes.dir; entry = has })) (in_to c p (record { file = f; at = goes.at; dir = goes.dir; entry = has_from f.entries p.entry goes.entry })) (entry_same e four x) in
        absurd (clash (stays c q) (system_stays c k e h from to is) (ap (stays c) one ∙ goes.goes))

  removed_less : Lessens c d
  removed_less = record {
    files = λ n x at. files n x (at_after c p.dir n (Used g) x rises at);
    low = λ n x from to at. low n x at (cases_eq n p.dir);
    own = λ k e from to has is. own k e from to has is (cases_eq 4 p.dir);
    rows = λ o r. r;
  } where
    files : (n : ℕ) (x : File) → ((n ≡ p.dir) × (Used g ≡ Used x)) ⊎ ((n ≡ p.dir → ⊥) × (file_at c n ≡ Some x)) → (y : File) × (file_at c n ≡ Some y) × IsLess y x
    files n x (inl (here, is)) = let same : g ≡ x = cc is in (f, ap (λ z. file_at c z) here ∙ goes.at, subst (λ (y : File). IsLess f y) same g_less)
    files n x (inr (other, at)) = (x, at, same_less x)

    after : file_at d p.dir ≡ Some g
    after = file_same c p.dir f g goes.at

    low : (n : ℕ) (x : File) → file_at c n ≡ Some x → (n ≡ p.dir) ⊎ (n ≡ p.dir → ⊥) → (y : File) × (file_at d n ≡ Some y) × IsLess x y
    low n x at (inl here) =
        let both : Some f ≡ Some x = sym goes.at ∙ (ap (λ z. file_at c z) (sym here) ∙ at) in
        let same : f ≡ x = cc both in
        (g, ap (λ z. file_at d z) here ∙ after, subst (λ (y : File). IsLess y g) same g_less)
    low n x at (inr other) = (x, file_other c p.dir n (Used g) rises other ∙ at, same_less x)

    own : (k : ℕ) (e : DirEnt) → 1 ≤ k → k ≤ 11 → Has (entries_of c 4) e → is_system_entry k e ≡ true → (4 ≡ p.dir) ⊎ (4 ≡ p.dir → ⊥) → Has (entries_of d 4) e
    own k e from to has is (inr other) = subst (λ (o : Option File). Has (listed o) e) (sym (file_other c p.dir 4 (Used g) rises other)) has
    own k e from to has is (inl here) =
        let t = if_listed f.dir f.entries e (subst (λ (o : Option File). Has (listed o) e) (ap (λ z. file_at c z) here ∙ goes.at) has) in
        let left : Has g.entries e = has_passed (λ (x : DirEnt). not (is_entry p.entry.name p.entry.ver x)) f.entries e t.1 (kept k e from to (sym here) t.1 is) in
        subst (λ (o : Option File). Has (listed o) e) (sym (ap (λ z. file_at d z) here ∙ after)) (listed_if g.dir g.entries e t.0 left)

-- ---- a slot is free

module _ (c : Cat) (n : ℕ) (f : File) (at : file_at c n ≡ Some f) (gone : is_gone c n f ≡ true) (h : CanMend c) where
  high : 11 < n
  high = by_case (cases_lt 11 n) where
    by_case : (11 < n) ⊎ (n ≤ 11) → 11 < n
    by_case (inl lt) = lt
    by_case (inr low) =
        let r = system_named c n f h at low in
        let stays_there : is_gone c n f ≡ false = ap (λ b. b || not (is_named c (record { num = n; seq = f.seq }))) r.0 ∙ ap not r.1 in
        absurd (clash (is_gone c n f) gone stays_there)

  positive : 0 < n
  positive = let k = high in omega (arith, k)

  apart : (k : ℕ) → k ≤ 11 → k ≡ n → ⊥
  apart k to e = let x = high in omega (arith, to, e, x)

  freed_less : Lessens c (leaving c n f)
  freed_less = record {
    files = λ k x there. files k x (at_after c n k (Free f.seq) x positive there);
    low = λ k x from to there. (x, file_other c n k (Free f.seq) positive (apart k to) ∙ there, same_less x);
    own = λ k e from to has is. subst (λ (o : Option File). Has (listed o) e) (sym (file_other c n 4 (Free f.seq) positive (apart 4 (omega arith)))) has;
    rows = λ o r. r;
  } where
    files : (k : ℕ) (x : File) → ((k ≡ n) × (Free f.seq ≡ Used x)) ⊎ ((k ≡ n → ⊥) × (file_at c k ≡ Some x)) → (y : File) × (file_at c k ≡ Some y) × IsLess y x
    files k x (inl (here, is)) = absurd (cc is)
    files k x (inr (other, there)) = (x, there, same_less x)

-- where each entry stays, nothing leads to a system file but its own entry
module _ (y : Cat) (stay : AllStay y) (systems : (n : ℕ) → 1 ≤ n → n ≤ 11 → (f : File) × (file_at y n ≡ Some f) × IsSystemFile n f) where
  from_four : (k m : ℕ) → 1 ≤ m → m ≤ 11 → (l : NamesFile y k m) → (k ≡ 4) × (is_system_entry m l.entry ≡ true)
  from_four k m from to l =
      let p : Place = record { dir = k; entry = l.entry } in
      let i = in_of y k l.entry (place_has (entries_of y k) l.place l.entry l.there) in
      let w = stays_parts y p (stays_each y stay k i.file l.entry i.at i.entry) in
      let number = l.names in
      let low : nat_le l.entry.fid.num 11 ≡ true = le-leb l.entry.fid.num 11 (omega (arith, number, to)) in
      let own : is_own p ≡ true = ap (λ b. cond b (is_own p) (is_first p (places y))) (sym low) ∙ w.1 in
      let four : k ≡ 4 = dir_four p own in
      let mine : is_own (record { dir = 4; entry = l.entry }) ≡ true = subst (λ (n : ℕ). is_own (record { dir = n; entry = l.entry }) ≡ true) four own in
      let s = systems m from to in
      let both : Some s.0 ≡ Some w.0.file = sym s.1 ∙ (ap (λ n. file_at y n) (sym number) ∙ w.0.at) in
      let same : s.0 ≡ w.0.file = cc both in
      let seq : l.entry.fid.seq ≡ system_seq m = sym w.0.seq ∙ (ap (λ (f : File). f.seq) (sym same) ∙ s.2.seq) in
      (four, whole_system m l.entry mine number seq)

  no_edge : (k : ℕ) → NamesFile y k 4 → ⊥
  no_edge k l = let r = from_four k 4 (omega arith) (omega arith) l in clash (is_system_entry 4 l.entry) r.1 (l.other r.0)

  to_four : (k : ℕ) → Path y k 4 → ⊥
  to_four k (One l) = no_edge k l
  to_four k (More {k = j} p l) = no_edge j l

  to_lost : (k : ℕ) → Path y k 11 → k ≡ 4
  to_lost k (One l) = (from_four k 11 (omega arith) (omega arith) l).0
  to_lost k (More {k = j} p l) = absurd (to_four k (subst (λ (i : ℕ). Path y k i) (from_four j 11 (omega arith) (omega arith) l).0 p))

module _ (x y : Cat) (n : ℕ) (entered : enter x n ≡ Some y) (stay : AllStay y) (h : CanMend x) where
  sh : Shape x y n
  sh = shape_by x n y entered

  abbrev new : File
  new = record sh.dir { entries = inserted sh.entry sh.dir.entries }

  after : file_at y 11 ≡ Some new
  after = ap (λ (z : Cat). file_at z 11) sh.is ∙ file_same x 11 sh.dir new sh.dir_at

  others : (k : ℕ) → (k ≡ 11 → ⊥) → file_at y k ≡ file_at x k
  others k other = ap (λ (z : Cat). file_at z k) sh.is ∙ file_other x 11 k (Used new) (omega arith) other

  rows_same : y.quota ≡ x.quota
  rows_same = ap (λ (z : Cat). z.quota) sh.is

  -- a file that is there was there, with the same entries unless it is [SYSLOST]
  file_was : (k : ℕ) (g : File) → file_at y k ≡ Some g
      → (f : File) × (file_at x k ≡ Some f) × (g.seq ≡ f.seq) × (g.owner ≡ f.owner) × (g.dir ≡ f.dir) × (g.marked ≡ f.marked)
  file_was k g at = by_case (cases_eq k 11) where
    by_case : (k ≡ 11) ⊎ (k ≡ 11 → ⊥) → (f : File) × (file_at x k ≡ Some f) × (g.seq ≡ f.seq) × (g.owner ≡ f.owner) × (g.dir ≡ f.dir) × (g.marked ≡ f.marked)
    by_case (inr other) = (g, sym (others k other) ∙ at, refl, refl, refl, refl)
    by_case (inl here) =
        let both : Some g ≡ Some new = sym at ∙ (ap (λ i. file_at y i) here ∙ after) in
        let same : g ≡ new = cc both in
        (sh.dir, ap (λ i. file_at x i) here ∙ sh.dir_at, ap (λ (z : File). z.seq) same, ap (λ (z : File). z.owner) same, ap (λ (z : File). z.dir) same, ap (λ (z : File). z.marked) same)

  systems_on : (k : ℕ) → 1 ≤ k → k ≤ 11 → (f : File) × (file_at y k ≡ Some f) × IsSystemFile k f
  systems_on k from to = by_case (cases_eq k 11) where
    by_case : (k ≡ 11) ⊎ (k ≡ 11 → ⊥) → (f : File) × (file_at y k ≡ Some f) × IsSystemFile k f
    by_case (inr other) = let s = h.systems k from to in (s.0, others k other ∙ s.1, s.2)
    by_case (inl here) =
        let s = h.systems k from to in
        let both : Some s.0 ≡ Some sh.dir = sym s.1 ∙ (ap (λ i. file_at x i) here ∙ sh.dir_at) in
        let same : s.0 ≡ sh.dir = cc both in (
          new,
          ap (λ i. file_at y i) here ∙ after,
          record {
            seq = ap (λ (z : File). z.seq) (sym same) ∙ s.2.seq;
            dir = ap (λ (z : File). z.dir) (sym same) ∙ s.2.dir;
            unmarked = ap (λ (z : File). z.marked) (sym same) ∙ s.2.unmarked;
          },
        )

  used_was : (fid : Fid) → is_some (in_use y fid) ≡ true → is_some (in_use x fid) ≡ true
  used_was fid u = by_file (file_at y fid.num) refl u where
    by_file : (o : Option File) → file_at y fid.num ≡ o → is_some (of_seq fid.seq o) ≡ true → is_some (in_use x fid) ≡ true
    by_file None at k = absurd (let z : false ≡ true = k in cc z)
    by_file (Some g) at k = let r = file_was fid.num g at in ap (λ o. is_some (of_seq fid.seq o)) r.1 ∙ used_seq r.0 g fid.seq r.2 k

  edge : (k m : ℕ) → NamesFile y k m → NamesFile x k m ⊎ (k ≡ 11)
  edge k m l = by_case (cases_eq k 11) where
    by_case : (k ≡ 11) ⊎ (k ≡ 11 → ⊥) → NamesFile x k m ⊎ (k ≡ 11)
    by_case (inl here) = inr here
    by_case (inr other) = inl (record {
      place = l.place;
      entry = l.entry;
      there = ap (λ o. slice_get (listed o) l.place) (sym (others k other)) ∙ l.there;
      used = used_was l.entry.fid l.used;
      names = l.names;
      other = l.other;
    })

  -- a chain is an old one, or it begins at [SYSLOST] or at the master file directory
  chain : (k m : ℕ) → Path y k m → Path x k m ⊎ (k ≡ 11) ⊎ (k ≡ 4)
  chain k m (One l) = first (edge k m l) where
    first : NamesFile x k m ⊎ (k ≡ 11) → Path x k m ⊎ (k ≡ 11) ⊎ (k ≡ 4)
    first (inl e) = inl (One e)
    first (inr e) = inr (inl e)
  chain k m (More {k = j} p l) = next (chain k j p) (edge j m l) where
    next : Path x k j ⊎ (k ≡ 11) ⊎ (k ≡ 4) → NamesFile x j m ⊎ (j ≡ 11) → Path x k m ⊎ (k ≡ 11) ⊎ (k ≡ 4)
    next (inr e) q = inr e
    next (inl p) (inl e) = inl (More p e)
    next (inl q) (inr e) = inr (inr (to_lost y stay systems_on k (subst (λ (i : ℕ). Path y k i) e p)))

  no_loop : (k : ℕ) → Path y k k → ⊥
  no_loop k p = by_case (chain k k p) where
    by_case : Path x k k ⊎ (k ≡ 11) ⊎ (k ≡ 4) → ⊥
    by_case (inl q) = h.sound (finding.DirLoop k) q
    by_case (inr (inl e)) = let four = to_lost y stay systems_on k (subst (λ (i : ℕ). Path y k i) e p) in omega (arith, e, four)
    by_case (inr (inr e)) = to_four y stay systems_on k (subst (λ (i : ℕ). Path y k i) e p)

  entered_can : (z : Cat) → MendsTo y z → CanMend y
  entered_can z ends = record { systems = systems_on; owners = owners; sound = sound } where
    owners : (k : ℕ) (g : File) → file_at y k ≡ Some g → is_some (row_of g.owner y.quota) ≡ true
    owners k g at =
        let r = file_was k g at in
        ap (λ rs. is_some (row_of g.owner rs)) rows_same ∙ (ap (λ (o : Uic). is_some (row_of o x.quota)) r.3 ∙ h.owners k r.0 r.1)

    four : entries_of y 4 ≡ entries_of x 4
    four = ap listed (others 4 (λ e. omega (arith, e)))

    sound : (f : Finding) → IsFatalOf y f → ⊥
    sound (finding.SystemEntry k) e = h.sound (finding.SystemEntry k) (e.0, e.1, ap (λ es. list_any (is_entry_of_system k) es) (sym four) ∙ e.2)
    sound (finding.MarkedDir k) e = by_case (cases_eq k 11) where
      by_case : (k ≡ 11) ⊎ (k ≡ 11 → ⊥) → ⊥
      by_case (inr other) = h.sound (finding.MarkedDir k) (ap is_marked_dir (sym (others k other)) ∙ e)
      by_case (inl here) =
          let m = marked (file_at y k) e in
          let s = systems_on 11 (omega arith) (omega arith) in
          let both : Some m.0 ≡ Some s.0 = sym m.1 ∙ (ap (λ i. file_at y i) here ∙ s.1) in
          let same : m.0 ≡ s.0 = cc both in
          clash m.0.marked m.2 (ap (λ (z : File). z.marked) same ∙ s.2.unmarked)
    sound (finding.DirLoop k) e = no_loop k e
    sound (finding.NoRoom k) e = has_room y z ends k e
    sound f e = e

-- ---- each change

ends : (c d z : Cat) → Change c d → MendsTo c z → MendsTo d z
ends c d z (Removed p f keyed goes) m = entry_ends c p f z keyed goes m
ends c d z (EnteredFull n ns settled waits entered) m = full_ends c d n ns z settled waits entered m
ends c d z (EnteredEmpty ms n ns settled few none waits full entered) m = empty_ends c d ms n ns z settled few none waits full entered m
ends c d z (Freed n f settled none full at gone) m = slot_ends c n f z settled none full at gone m
ends c d z (Leaked k flags same) m = leaks_end c k flags z same m
ends c d z (Summed change is) m = usage_end c change z is m

can_of : (c d z : Cat) → Change c d → MendsTo d z → CanMend c → CanMend d
can_of c d z (Removed p f keyed goes) m h = less_can c (less_one c p f) (removed_less c p f keyed goes h) z m h
can_of c d z (EnteredFull n ns settled waits entered) m h = entered_can c d n entered (full_stays c d n ns settled waits entered) h z m
can_of c d z (EnteredEmpty ms n ns settled few none waits room entered) m h = entered_can c d n entered (empty_stays c d ms n ns settled waits entered) h z m
can_of c d z (Freed n f settled none room at gone) m h = less_can c (leaving c n f) (freed_less c n f at gone h) z m h
can_of c d z (Leaked k flags same) m h = less_can c (record c { leaked = k; leaked_numbers = flags }) (same_files c (record c { leaked = k; leaked_numbers = flags }) refl (λ o r. r)) z m h
can_of c d z (Summed change is) m h =
    less_can c (record c { quota = map change c.quota })
    (same_files c (record c { quota = map change c.quota }) refl (λ o r. rows_map change (λ q. ap (λ (x : QuotaRow). x.owner) (is q)) o c.quota r)) z m h

can : (c d : Cat) → Change c d → CanMend c → CanMend d
can c d change h = let e = ends_somewhere c h in can_of c d e.0 change (ends c d e.0 change e.1) h

pub goes_on : GoesOn
goes_on = record { ends = ends; can = can }

-- ---- blocks

pub opens_same : (c d : Cat) → Change c d → d.opens ≡ c.opens
opens_same c d (Removed p f keyed goes) = refl
opens_same c d (EnteredFull n ns settled waits entered) = ap (λ (z : Cat). z.opens) (shape_by c n d entered).is
opens_same c d (EnteredEmpty ms n ns settled few none waits full entered) = ap (λ (z : Cat). z.opens) (shape_by c n d entered).is
opens_same c d (Freed n f settled none full at gone) = refl
opens_same c d (Leaked k flags same) = refl
opens_same c d (Summed change is) = refl

closed : (c d : Cat) → Change c d → c.opens ≡ replicate 64 None → d ≡ shut d
closed c d change none = ap (λ (os : List (Option Open)). record d { opens = os }) (opens_same c d change ∙ none)

pub change_mends : ChangeMends
change_mends = record { tells = tells; mends = mends } where
  tells : (g : Geometry) (bs : List Block) (own : Owners) (c d : Cat) → CanMend c → c.opens ≡ replicate 64 None → Change c d → Spells g bs own d → NoOuts own → CatOf bs d
  tells g bs own c d h none change spells outs =
      let e = closed c d change none in
      subst (λ (x : Cat). CatOf bs x) (sym e) (spelt_is_weak g bs own d spells outs (subst CanMend e (can c d change h)))

  mends : (g : Geometry) (bs : List Block) (own : Owners) (c d z : Cat) → CanMend c → c.opens ≡ replicate 64 None → Change c d → Spells g bs own d → NoOuts own → MendsTo c z → Mends bs z
  mends g bs own c d z h none change spells outs m =
      record { cat = d; told = tells g bs own c d h none change spells outs; ends = ends c d z change m }
