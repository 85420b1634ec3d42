-- Deaths and mending keep a catalogue in order, and so do all entries of a history.
use Rattle.std.proofs.Common.{◌≡◌, ◌==◌, ◌&&◌, ◌||◌, ◌-◌, ◌+◌, ◌*◌, ◌<◌, ◌≤◌, ◌⊎◌, inl, inr, ◌++◌, ◌∙◌, ℕ, zero, suc, Bool, true, false, cond, not, List, [], ◌∷◌, Option, Some, None, length, nat_le, refl, sym, ap, subst, arith}
use Rattle.std.specs.Prelude.{filter, option_map, option_and_then, unwrap_or}
use Rattle.std.specs.List.{list_any}
use Rattle.std.proofs.lemmas.List.{length-set, length-map}
use Rattle.std.proofs.lemmas.Bool.{and_parts, and_from, cases_lt, eqb-true, eq-eqb, le-leb}
use Rattle.plain_cat.specs.declared.ids.Fid.{Fid}
use Rattle.plain_cat.specs.declared.entries.DirEnt.{DirEnt}
use Rattle.plain_cat.specs.declared.history.Entry.{Entry}
use Rattle.plain_cat.specs.declared.history.Entry.TheVariants.{Done, Died, Mended}
use Rattle.plain_cat.specs.declared.history.Mended.{Mended as Work}
use Rattle.plain_cat.specs.declared.cat.Cat.{Cat}
use Rattle.plain_cat.specs.declared.cat.File.{File}
use Rattle.plain_cat.specs.declared.cat.Open.{Open}
use Rattle.plain_cat.specs.declared.script.Script.{Script}
use Rattle.plain_rules.specs.declared.places.Place.{Place}
use Rattle.plain_rules.specs.Lookups.{file_at}
use Rattle.plain_rules.specs.Directories.{inserted, is_nil}
use Rattle.plain_rules.specs.Changes.{with_entries}
use Rattle.plain_rules.specs.Answers.{has_entries}
use Rattle.plain_rules.specs.Mending.{places, is_own, is_first, stays, without_opens, without_entries, is_named, lost, enter, enter_all, enter_some, with_lost, without_gone, without_leaks, summed_row, put_right, mended, stripped}
use Rattle.plain_rules.specs.Own.{next_command}
use Rattle.plain_rules.specs.Replaying.{closed_channels, dead, Leads, ReplaysFrom, Replays}
use Rattle.plain_mends.specs.Sound.{LeadsTo, NumberPath, IsSound}
use Rattle.plain_rules.specs.SystemFiles.{is_system_entry}
use Rattle.plain_rules.specs.SystemFiles.{system_seq}
use Rattle.plain_rules.specs.SystemFiles.{listed}
use Rattle.plain_rules.specs.SystemFiles.{entries_of}
use Rattle.plain_mends.specs.Sound.NumberPath.{One, More}
use Rattle.base_words.specs.Lists.{Has}
use Rattle.base_words.proofs.Listing.{has_from, has_to, has_filtered, has_passed, any_has, has_any}
use Rattle.plain_laws.proofs.Standing.{number_rises, Alive}
use Rattle.plain_laws.proofs.Places.{In, names_to}
use Rattle.plain_laws.proofs.Steps.{less_file, less_at, less_from, in_less, stays_parts, stays_from, entered_by, new_place, in_entered, both_from, kept_from, kept_to, mends_from}
use Rattle.plain_laws.proofs.Unfinished.{lost_file}
use Rattle.plain_mends.proofs.FullSteps.{Shape, shape_by}
use Rattle.plain_mends.proofs.SoundSteps.{Comes, sound_on, same_comes, beside_follows, edit_sound, listed_is, if_listed, listed_if}
use Rattle.plain_mends.proofs.SoundAnswers.{rows_map, is_unmarked, more_edit, answer_sound}
use Rattle.plain_mends.proofs.SoundStages.{stage_sound}

-- ---- deaths

closed_count : (node k : ℕ) (os : List (Option Open)) → length (closed_channels node k os) ≡ length os
unfolding closed_channels
closed_count node zero os = refl
closed_count node (suc k) os = length-set (closed_channels node k os) (8 * (node - 1) + (suc k - 1)) None ∙ closed_count node k os

pub dead_sound : (c : Cat) (n k : ℕ) (numbers : List ℕ) → IsSound c → IsSound (dead c n k numbers)
unfolding dead
dead_sound c n k numbers h = beside_follows c (dead c n k numbers) refl (λ o r. r) (closed_count n 8 c.opens) h

-- ---- step 1

shut_sound : (c : Cat) → IsSound c → IsSound (without_opens c)
shut_sound c h = beside_follows c (without_opens c) refl (λ o r. r) (length-map c.opens (λ (o : Option Open). None)) h

system_whole : (k : ℕ) (e : DirEnt) → is_system_entry k e ≡ true → (is_own (record { dir = 4; entry = e }) ≡ true) × ((e.fid.num ≡ k) × (e.fid.seq ≡ system_seq k))
unfolding is_system_entry
system_whole k e h =
    let a = and_parts (is_own (record { dir = 4; entry = e })) ((e.fid.num == k) && (e.fid.seq == system_seq k)) h in
    let b = and_parts (e.fid.num == k) (e.fid.seq == system_seq k) a.1 in
    (a.0, (eqb-true e.fid.num k b.0, eqb-true e.fid.seq (system_seq k) b.1))

pub whole_system : (k : ℕ) (e : DirEnt) → is_own (record { dir = 4; entry = e }) ≡ true → e.fid.num ≡ k → e.fid.seq ≡ system_seq k → is_system_entry k e ≡ true
unfolding is_system_entry
whole_system k e own number seq =
    and_from (is_own (record { dir = 4; entry = e })) ((e.fid.num == k) && (e.fid.seq == system_seq k)) own
    (and_from (e.fid.num == k) (e.fid.seq == system_seq k) (eq-eqb e.fid.num k number) (eq-eqb e.fid.seq (system_seq k) seq))

-- the entry of a system file stays
system_stays : (c : Cat) (k : ℕ) (e : DirEnt) → IsSound c → 1 ≤ k → k ≤ 11 → is_system_entry k e ≡ true → stays c (record { dir = 4; entry = e }) ≡ true
system_stays c k e h from to is =
    let w = system_whole k e is in
    let r = h.systems k from to in
    let a : Alive c e.fid = record { file = r.0; at = ap (λ n. file_at c n) w.1.0 ∙ r.1; seq = r.2.seq ∙ sym w.1.1; free = r.2.unmarked } in
    let number = w.1.0 in
    let low : nat_le e.fid.num 11 ≡ true = le-leb e.fid.num 11 (omega (arith, number, to)) in
    stays_from c (record { dir = 4; entry = e }) a (ap (λ b. cond b (is_own (record { dir = 4; entry = e })) (is_first (record { dir = 4; entry = e }) (places c))) low ∙ w.0)

less_sound : (c : Cat) → IsSound c → IsSound (without_entries c)
less_sound c h = sound_on c a 0 (record {
  files = λ n g at. let l = less_from c n g at in subst (λ (x : File). Comes c 0 n x) l.same (comes n l.file l.at);
  low = λ n f from to at is. (less_file c n f, less_at c n ∙ ap (λ o. option_map (less_file c n) o) at, record { seq = is.seq; dir = is.dir; unmarked = is.unmarked });
  own = own;
  named = λ e n from to has is. h.named e n from to (has_to (entries_of c 4) e (before e has)) is;
  rows = λ o r. r;
  channels = refl;
}) h where
  a : Cat
  a = without_entries c

  keep : ℕ → DirEnt → Bool
  keep n e = stays c (record { dir = n; entry = e })

  -- an entry that is left was there
  was : (n : ℕ) (f : File) (e : DirEnt) → Has (listed (Some (less_file c n f))) e → Has (listed (Some f)) e
  was n f e has = let r = if_listed f.dir (less_file c n f).entries e has in listed_if f.dir f.entries e r.0 (has_filtered (λ (x : DirEnt). stays c (record { dir = n; entry = x })) f.entries e r.1).0

  some_left : (n : ℕ) (f : File) → has_entries (Some (less_file c n f)) ≡ true → has_entries (Some f) ≡ true
  some_left n f has = let r = and_parts f.dir (not (is_nil (less_file c n f).entries)) has in and_from f.dir (not (is_nil f.entries)) r.0 (full f.entries r.1) where
    full : (es : List DirEnt) → not (is_nil (filter (λ (x : DirEnt). stays c (record { dir = n; entry = x })) es)) ≡ true → not (is_nil es) ≡ true
    full [] k = absurd (cc k)
    full (x ∷ xs) k = refl

  comes : (n : ℕ) (f : File) → file_at c n ≡ Some f → Comes c 0 n (less_file c n f)
  comes n f at =
      let s = same_comes c 0 n f h at in
      record { size = s.size; owner = s.owner; closed = λ has. s.closed (some_left n f has); edges = λ e has other. s.edges e (was n f e has) other }

  four : (f : File) → file_at c 4 ≡ Some f → file_at a 4 ≡ Some (less_file c 4 f)
  four f at = less_at c 4 ∙ ap (λ o. option_map (less_file c 4) o) at

  own : (k : ℕ) → 1 ≤ k → k ≤ 11 → list_any (is_system_entry k) (entries_of c 4) ≡ true → list_any (is_system_entry k) (entries_of a 4) ≡ true
  own k from to any =
      let m = h.systems 4 (omega arith) (omega arith) in
      let r = any_has (is_system_entry k) (entries_of c 4) any in
      let mine : Has m.0.entries r.0 = subst (λ (es : List DirEnt). Has es r.0) (listed_is c 4 m.0 m.1 m.2.dir) r.1 in
      let left : Has (less_file c 4 m.0).entries r.0 = has_passed (λ (x : DirEnt). stays c (record { dir = 4; entry = x })) m.0.entries r.0 mine (system_stays c k r.0 h from to r.2) in
      let there : Has (entries_of a 4) r.0 = subst (λ (o : Option File). Has (listed o) r.0) (sym (four m.0 m.1)) (listed_if m.0.dir (less_file c 4 m.0).entries r.0 m.2.dir left) in
      has_any (is_system_entry k) (entries_of a 4) r.0 there r.2

  before : (e : DirEnt) → Has (entries_of a 4) e → Has (entries_of c 4) e
  before e has =
      let m = h.systems 4 (omega arith) (omega arith) in
      subst (λ (o : Option File). Has (listed o) e) (sym m.1) (was 4 m.0 e (subst (λ (o : Option File). Has (listed o) e) (four m.0 m.1) has))

-- ---- step 2

-- an entry that names a system file is its own
abbrev Owned : Cat → Type 0
Owned x = (p : Place) → In x p → p.entry.fid.num ≤ 11 → (p.dir ≡ 4) × (is_system_entry p.entry.fid.num p.entry ≡ true)

pub dir_four : (p : Place) → is_own p ≡ true → p.dir ≡ 4
unfolding is_own
dir_four p h = eqb-true p.dir 4 (and_parts (p.dir == 4) _ h).0

less_owned : (c : Cat) → IsSound c → Owned (without_entries c)
less_owned c h p i low =
    let s = in_less c p i in
    let w = stays_parts c p s.stays in
    let own : is_own p ≡ true = ap (λ b. cond b (is_own p) (is_first p (places c))) (sym (le-leb p.entry.fid.num 11 low)) ∙ w.1 in
    let four : p.dir ≡ 4 = dir_four p own in
    let mine : is_own (record { dir = 4; entry = p.entry }) ≡ true = subst (λ (n : ℕ). is_own (record { dir = n; entry = p.entry }) ≡ true) four own in
    let rises = number_rises c p.entry.fid.num w.0.file w.0.at in
    let r = h.systems p.entry.fid.num (omega (arith, rises)) low in
    let both : Some r.0 ≡ Some w.0.file = sym r.1 ∙ w.0.at in
    let same : r.0 ≡ w.0.file = cc both in
    (four, whole_system p.entry.fid.num p.entry mine refl (sym w.0.seq ∙ (ap (λ (f : File). f.seq) (sym same) ∙ r.2.seq)))

in_of : (x : Cat) (n : ℕ) (e : DirEnt) → Has (entries_of x n) e → In x (record { dir = n; entry = e })
in_of x n e has = by_file (file_at x n) refl has where
  by_file : (o : Option File) → file_at x n ≡ o → Has (listed o) e → In x (record { dir = n; entry = e })
  by_file None at k = absurd k
  by_file (Some f) at k = let r = if_listed f.dir f.entries e k in record { file = f; at = at; dir = r.0; entry = r.1 }

module _ (x : Cat) (owned : Owned x) (n : ℕ) (high : 11 < n) where
  leads : (k m : ℕ) → m ≤ 11 → (l : LeadsTo x k m) → (k ≡ 4) × (is_system_entry m l.entry ≡ true)
  leads k m low l =
      let i = in_of x k l.entry (has_from (entries_of x k) l.entry l.there) in
      let number = l.names in
      let r = owned (record { dir = k; entry = l.entry }) i (omega (arith, number, low)) in
      (r.0, subst (λ (j : ℕ). is_system_entry j l.entry ≡ true) number r.1)

  not_from : (k : ℕ) → n ≡ k → k ≡ 4 → ⊥
  not_from k e f = omega (arith, e, f, high)

  -- nothing comes to the master file directory from above, nor to [SYSLOST]
  to_four : NumberPath x n 4 → ⊥
  to_four (One l) = not_from n refl (leads n 4 (omega arith) l).0
  to_four (More {k} p l) =
      let r = leads k 4 (omega arith) l in
      let both : true ≡ false = sym r.1 ∙ l.other r.0 in
      absurd (cc both)

  to_lost : NumberPath x n 11 → ⊥
  to_lost (One l) = not_from n refl (leads n 11 (omega arith) l).0
  to_lost (More {k} p l) = to_four (subst (λ (j : ℕ). NumberPath x n j) (leads k 11 (omega arith) l).0 p)

record Ready (x : Cat) : Type 0 where
  sound : IsSound x
  owned : Owned x

enter_ready : (x y : Cat) (m : ℕ) → 11 < m → enter x m ≡ Some y → Ready x → Ready y
enter_ready x y m high entered r = record { sound = subst IsSound (sym sh.is) sound; owned = λ p i low. owned p low (in_entered x y m (entered_by x m y entered) p i) } where
  sh : Shape x y m
  sh = shape_by x m y entered

  sound : IsSound (with_entries x 11 sh.dir (inserted sh.entry sh.dir.entries))
  sound =
      let number : sh.entry.fid.num ≡ m = ap (λ (f : Fid). f.num) sh.fid in
      edit_sound x 11 sh.dir (record sh.dir { entries = inserted sh.entry sh.dir.entries }) sh.dir_at
      (λ h. more_edit x 11 sh.dir sh.entry sh.dir.entries sh.dir_at (is_unmarked x 11 sh.dir h sh.dir_at (omega arith)) (λ e i. i) (λ here k from to any. any)
      (λ here k from to is. let e : 11 ≡ 4 = here in omega (arith, e))
      (inr ((λ e. omega (arith, e, number, high)), (λ q. to_lost x r.owned m high (subst (λ (j : ℕ). NumberPath x j 11) number q)))) h)
      r.sound

  owned : (p : Place) → p.entry.fid.num ≤ 11 → In x p ⊎ (p ≡ new_place (entered_by x m y entered).entry) → (p.dir ≡ 4) × (is_system_entry p.entry.fid.num p.entry ≡ true)
  owned p low (inl i) = r.owned p i low
  owned p low (inr new) =
      let number : p.entry.fid.num ≡ m = ap (λ (q : Place). q.entry.fid.num) new ∙ ap (λ (f : Fid). f.num) (entered_by x m y entered).fid in
      absurd (omega (arith, number, low, high))

all_ready : (ns : List ℕ) (x y : Cat) → ((m : ℕ) → Has ns m → 11 < m) → enter_all ns x ≡ Some y → Ready x → Ready y
all_ready [] x y high h r = let e : x ≡ y = cc h in subst Ready e r
all_ready (n ∷ ns) x y high h r = onward (enter x n) refl h (λ z l q. all_ready ns z y (λ m has. high m (inr has)) l q) where
  onward : (o : Option Cat) → enter x n ≡ o → option_and_then (enter_all ns) o ≡ Some y → ((z : Cat) → enter_all ns z ≡ Some y → Ready z → Ready y) → Ready y
  onward None at k rest = absurd (cc k)
  onward (Some z) at k rest = rest z k (enter_ready x z n (high n (inl refl)) at r)

some_ready : (ns : List ℕ) (x : Cat) → ((m : ℕ) → Has ns m → 11 < m) → Ready x → Ready (enter_some ns x)
some_ready [] x high r = r
some_ready (n ∷ ns) x high r = some_ready ns (unwrap_or (enter x n) x) (λ m has. high m (inr has)) (onward (enter x n) refl) where
  onward : (o : Option Cat) → enter x n ≡ o → Ready (unwrap_or o x)
  onward None at = r
  onward (Some z) at = enter_ready x z n (high n (inl refl)) at r

-- a system file is named
system_named : (c : Cat) (n : ℕ) (f : File) → IsSound c → file_at c n ≡ Some f → n ≤ 11 → is_named c (record { num = n; seq = f.seq }) ≡ true
system_named c n f h at low =
    let rises = number_rises c n f at in
    let from : 1 ≤ n = omega (arith, rises) in
    let r = any_has (is_system_entry n) (entries_of c 4) (h.entries n from low) in
    let w = system_whole n r.0 r.2 in
    let s = h.systems n from low in
    let both : Some s.0 ≡ Some f = sym s.1 ∙ at in
    let same : s.0 ≡ f = cc both in
    let seq : r.0.fid.seq ≡ f.seq = w.1.1 ∙ (sym s.2.seq ∙ ap (λ (x : File). x.seq) same) in
    names_to c (record { num = n; seq = f.seq }) (record {
      place = record { dir = 4; entry = r.0 };
      within = in_of c 4 r.0 r.1;
      same = ap (λ (k : ℕ). record { num = k; seq = r.0.fid.seq }) w.1.0 ∙ ap (λ (q : ℕ). record { num = n; seq = q }) seq;
    })

lost_high : (a : Cat) (empty : Bool) (m : ℕ) → IsSound a → Has (lost a empty) m → 11 < m
lost_high a empty m h has = by_case (cases_lt 11 m) where
  by_case : (11 < m) ⊎ (m ≤ 11) → 11 < m
  by_case (inl lt) = lt
  by_case (inr low) =
      let f = lost_file a empty m has in
      let both : true ≡ false = sym (system_named a m f.file h f.at low) ∙ f.missing in
      absurd (cc both)

lost_ready : (a b : Cat) → with_lost a ≡ Some b → Ready a → Ready b
lost_ready a b h r =
    let t = both_from a b h in
    let first : Ready t.middle = all_ready (lost a false) a t.middle (λ m has. lost_high a false m r.sound has) t.first r in
    subst Ready t.second (some_ready (lost a true) t.middle (λ m has. lost_high a true m r.sound has) first)

-- ---- steps 3 to 5

gone_sound : (b : Cat) → IsSound b → IsSound (without_gone b)
gone_sound b h = sound_on b d 0 (record {
  files = λ n g at. same_comes b 0 n g h (kept_from b n g at).0;
  low = λ n f from to at is. (f, stays_low n f to at, is);
  own = λ k from to any. ap (λ o. list_any (is_system_entry k) (listed o)) four ∙ any;
  named = λ e n from to has. h.named e n from to (has_to (entries_of b 4) e (subst (λ (o : Option File). Has (listed o) e) four has));
  rows = λ o r. r;
  channels = refl;
}) h where
  d : Cat
  d = without_gone b

  stays_low : (n : ℕ) (f : File) → n ≤ 11 → file_at b n ≡ Some f → file_at d n ≡ Some f
  stays_low n f to at =
      kept_to b n f at (ap (λ m. m || not (is_named b (record { num = n; seq = f.seq }))) (is_unmarked b n f h at to) ∙ ap not (system_named b n f h at to))

  four : file_at d 4 ≡ file_at b 4
  four = let m = h.systems 4 (omega arith) (omega arith) in stays_low 4 m.0 (omega arith) m.1 ∙ sym m.1

right_sound : (b : Cat) → IsSound b → IsSound (put_right b)
right_sound b h = beside_follows (without_gone b) (put_right b) refl (λ o r. rows_map (summed_row (without_leaks (without_gone b))) (λ q. refl) o b.quota r) refl (gone_sound b h)

pub mended_sound : (c d : Cat) (m : Work) → IsSound c → mended c ≡ Some (d, m) → IsSound d
mended_sound c d m h is =
    let w = mends_from c d m is in
    let shut = shut_sound c h in
    let ready : Ready (stripped c) = record { sound = less_sound (without_opens c) shut; owned = less_owned (without_opens c) shut } in
    subst IsSound w.last (right_sound w.middle (lost_ready (stripped c) w.middle w.entered ready).sound)

-- ---- histories

pub lead_sound : (s : Script) (hist : List Entry) (c : Cat) (e : Entry) (d : Cat) → IsSound c → Leads s hist c e d → IsSound d
lead_sound s hist c (Done node x r) d h is = answer_sound c d node x r h is
lead_sound s hist c (Died node st k ns) d h (new, x, pick, is, may, same) =
    subst IsSound (sym same) (dead_sound x node k ns.items (stage_sound c x node (next_command s node hist) st new h pick is))
lead_sound s hist c (Mended m) d h is = mended_sound c d m h is

from_here : (s : Script) (hist : List Entry) (es : List Entry) (c d : Cat) → IsSound c → ReplaysFrom s hist c es d → IsSound d
from_here s hist [] c d h is = subst IsSound (sym is) h
from_here s hist (e ∷ es) c d h (x, leads, rest) = from_here s (hist ++ e ∷ []) es x d (lead_sound s hist c e x h leads) rest

pub replay_sound : (c : Cat) (s : Script) (hist : List Entry) (d : Cat) → IsSound c → Replays c s hist d → IsSound d
replay_sound c s hist d h is = from_here s [] hist c d h is
