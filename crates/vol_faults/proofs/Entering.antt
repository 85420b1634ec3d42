-- Lost files that are entered one after the other, with their entries alone in view.
use Rattle.std.proofs.Common.{◌≡◌, ◌<◌, ◌+◌, ◌∙◌, ◌++◌, ◌⊎◌, inl, inr, ℕ, suc, true, false, List, [], ◌∷◌, Option, Some, None, take, drop, length, get_or, refl, sym, ap, subst, drop-cons, arith}
use Rattle.std.proofs.lemmas.Bool.{cases_eq}
use Rattle.std.proofs.lemmas.List.{take-append-drop, take_more}
use Rattle.std.specs.Prelude.{option_map, option_and_then, slice_get}
use Rattle.plain_cat.specs.declared.entries.DirEnt.{DirEnt}
use Rattle.plain_cat.specs.declared.cat.Cat.{Cat}
use Rattle.plain_cat.specs.declared.cat.File.{File}
use Rattle.plain_cat.specs.declared.cat.Slot.TheVariants.{Used}
use Rattle.plain_rules.specs.Lookups.{file_at}
use Rattle.plain_rules.specs.Changes.{with_entries}
use Rattle.plain_rules.specs.Mending.{without_opens, lost, with_lost_entry, enter, enter_all, enter_some, with_lost, mended_from, mended, stripped}
use Rattle.plain_laws.proofs.Standing.{file_same, file_other}
use Rattle.plain_laws.proofs.Steps.{less_file, less_at}
use Rattle.vol_parts.specs.Fatal.{HasNoRoom}
use Rattle.vol_faults.proofs.RoomLemmas.{no-room-exact, same-some}
use Rattle.vol_faults.specs.Waiting.{staying, AreEntered, IsRoomless}
use Rattle.vol_faults.proofs.Stripping.{staying_shut}

abbrev seq_of : Option File → Option ℕ
seq_of o = option_map (λ (f : File). f.seq) o

-- ---- one file

then_none : (o : Option File) (next : File → Option Cat) → ((f : File) → next f ≡ None) → option_and_then next o ≡ None
then_none None next h = refl
then_none (Some f) next h = h f

enter_is : (x : Cat) (n : ℕ) (d f : File) → file_at x 11 ≡ Some d → file_at x n ≡ Some f
    → enter x n ≡ option_map (with_entries x 11 d) (with_lost_entry x.factor d.entries n f.seq)
unfolding enter
enter_is x n d f at own =
    ap (λ (o : Option File). option_and_then (λ (d : File). option_and_then (λ (f : File).
    option_map (with_entries x 11 d) (with_lost_entry x.factor d.entries n f.seq)) (file_at x n)) o) at
    ∙ ap (λ (o : Option File). option_and_then (λ (f : File). option_map (with_entries x 11 d) (with_lost_entry x.factor d.entries n f.seq)) o) own

-- a number without a file
enter_missing : (x : Cat) (n : ℕ) → file_at x n ≡ None → enter x n ≡ None
unfolding enter
enter_missing x n none =
    then_none (file_at x 11) (λ (d : File). option_and_then (λ (f : File).
    option_map (with_entries x 11 d) (with_lost_entry x.factor d.entries n f.seq)) (file_at x n))
    (λ d. ap (λ (o : Option File). option_and_then (λ (f : File). option_map (with_entries x 11 d) (with_lost_entry x.factor d.entries n f.seq)) o) none)

-- a volume without [SYSLOST]
enter_nowhere : (x : Cat) (n : ℕ) → file_at x 11 ≡ None → enter x n ≡ None
unfolding enter
enter_nowhere x n none =
    ap (λ (o : Option File). option_and_then (λ (d : File). option_and_then (λ (f : File).
    option_map (with_entries x 11 d) (with_lost_entry x.factor d.entries n f.seq)) (file_at x n)) o) none

seq_some : (o : Option File) (k : ℕ) → seq_of o ≡ Some k → (f : File) × (o ≡ Some f) × (f.seq ≡ k)
seq_some None k h = absurd (cc h)
seq_some (Some f) k h = (f, refl, cc h)

seq_none : (o : Option File) → seq_of o ≡ None → o ≡ None
seq_none None h = refl
seq_none (Some f) h = absurd (cc h)

enter_more : (ns : List ℕ) (n : ℕ) (a b d : Cat) → enter_all ns a ≡ Some b → enter b n ≡ Some d → enter_all (ns ++ n ∷ []) a ≡ Some d
enter_more [] n a b d all e =
    let start : a ≡ b = same-some a b all in
    ap (λ (o : Option Cat). option_and_then (enter_all []) o) (ap (λ (x : Cat). enter x n) start ∙ e)
enter_more (m ∷ ns) n a b d all e = onward (enter a m) all (λ z h. enter_more ns n z b d h e) where
  onward : (o : Option Cat) → option_and_then (enter_all ns) o ≡ Some b → ((z : Cat) → enter_all ns z ≡ Some b → enter_all (ns ++ n ∷ []) z ≡ Some d)
      → option_and_then (enter_all (ns ++ n ∷ [])) o ≡ Some d
  onward None h rest = absurd (cc h)
  onward (Some z) h rest = rest z h

seq_less : (c : Cat) (n : ℕ) (o : Option File) → seq_of (option_map (less_file c n) o) ≡ seq_of o
seq_less c n None = refl
seq_less c n (Some f) = refl

-- none is entered yet
pub entered_start : (c : Cat) (d : File) (es : List DirEnt) → file_at c 11 ≡ Some d → es ≡ staying c 11 d.entries → AreEntered c [] es
entered_start c d es at is = record {
  after = stripped c;
  dir = less_file (without_opens c) 11 d;
  entered = refl;
  there = less_at (without_opens c) 11 ∙ ap (λ (o : Option File). option_map (less_file (without_opens c) 11) o) at;
  entries = staying_shut c 11 d.entries ∙ sym is;
  factor = refl;
  same = λ n. ap seq_of (less_at (without_opens c) n) ∙ seq_less (without_opens c) n (file_at c n);
}

-- the entry of one more
entry_as : (c : Cat) (ns : List ℕ) (es : List DirEnt) (n : ℕ) (f g : File) (o : Option (List DirEnt)) (a : AreEntered c ns es) → g.seq ≡ f.seq
    → with_lost_entry c.factor es n f.seq ≡ o → with_lost_entry a.after.factor a.dir.entries n g.seq ≡ o
entry_as c ns es n f g o a seq h =
    ap (λ (k : ℕ). with_lost_entry k a.dir.entries n g.seq) a.factor
    ∙ (ap (λ (xs : List DirEnt). with_lost_entry c.factor xs n g.seq) a.entries
    ∙ (ap (λ (k : ℕ). with_lost_entry c.factor es n k) seq ∙ h))

entered_as : (c : Cat) (ns : List ℕ) (es : List DirEnt) (n : ℕ) (f : File) (o : Option (List DirEnt)) (a : AreEntered c ns es) → file_at c n ≡ Some f
    → with_lost_entry c.factor es n f.seq ≡ o → enter a.after n ≡ option_map (with_entries a.after 11 a.dir) o
entered_as c ns es n f o a at h =
    let w = seq_some (file_at a.after n) f.seq (a.same n ∙ ap seq_of at) in
    enter_is a.after n a.dir w.0 a.there w.1
    ∙ ap (λ (x : Option (List DirEnt)). option_map (with_entries a.after 11 a.dir) x) (entry_as c ns es n f w.0 o a w.2 h)

-- one more is entered
pub entered_next : (c : Cat) (ns : List ℕ) (es more : List DirEnt) (n : ℕ) (f : File) → AreEntered c ns es → file_at c n ≡ Some f
    → with_lost_entry c.factor es n f.seq ≡ Some more → AreEntered c (ns ++ n ∷ []) more
entered_next c ns es more n f a at h = record {
  after = next;
  dir = grown;
  entered = enter_more ns n (stripped c) a.after next a.entered (entered_as c ns es n f (Some more) a at h);
  there = file_same a.after 11 a.dir grown a.there;
  entries = refl;
  factor = a.factor;
  same = λ m. by_case m (cases_eq m 11);
} where
  grown : File
  grown = record a.dir { entries = more }

  next : Cat
  next = with_entries a.after 11 a.dir more

  by_case : (m : ℕ) → (m ≡ 11) ⊎ (m ≡ 11 → ⊥) → seq_of (file_at next m) ≡ seq_of (file_at c m)
  by_case m (inl here) =
      ap (λ (k : ℕ). seq_of (file_at next k)) here
      ∙ (ap seq_of (file_same a.after 11 a.dir grown a.there)
      ∙ (sym (ap seq_of a.there) ∙ (a.same 11 ∙ ap (λ (k : ℕ). seq_of (file_at c k)) (sym here))))
  by_case m (inr other) = ap seq_of (file_other a.after 11 m (Used grown) (omega arith) other) ∙ a.same m

-- ---- the one without room

some_more : (ws : List ℕ) (i : ℕ) → i < length ws → ws ≡ take i ws ++ get_or ws i 0 ∷ drop (i + 1) ws
some_more ws i lt =
    let one : suc i ≡ i + 1 = omega arith in
    sym (take-append-drop i ws)
    ∙ ap (λ (xs : List ℕ). take i ws ++ xs) (drop-cons ws i 0 lt ∙ ap (λ (k : ℕ). get_or ws i 0 ∷ drop k ws) one)

no_room : (c : Cat) (ws : List ℕ) (es : List DirEnt) (i : ℕ) (a : AreEntered c (take i ws) es) → ws ≡ lost (stripped c) false
    → i < length ws → enter a.after (get_or ws i 0) ≡ None → HasNoRoom c (get_or ws i 0)
no_room c ws es i a waits lt full = record {
  earlier = take i ws;
  later = drop (i + 1) ws;
  after = a.after;
  waiting = sym waits ∙ some_more ws i lt;
  entered = a.entered;
  full = full;
}

-- there is none for its entry
pub no_room_at : (c : Cat) (ws : List ℕ) (es : List DirEnt) (i : ℕ) (f : File) → AreEntered c (take i ws) es → ws ≡ lost (stripped c) false
    → i < length ws → file_at c (get_or ws i 0) ≡ Some f → with_lost_entry c.factor es (get_or ws i 0) f.seq ≡ None → HasNoRoom c (get_or ws i 0)
no_room_at c ws es i f a waits lt at h = no_room c ws es i a waits lt (entered_as c (take i ws) es (get_or ws i 0) f None a at h)

-- the number has no file
pub no_file_at : (c : Cat) (ws : List ℕ) (es : List DirEnt) (i : ℕ) → AreEntered c (take i ws) es → ws ≡ lost (stripped c) false
    → i < length ws → file_at c (get_or ws i 0) ≡ None → HasNoRoom c (get_or ws i 0)
no_file_at c ws es i a waits lt none =
    no_room c ws es i a waits lt
    (enter_missing a.after (get_or ws i 0) (seq_none (file_at a.after (get_or ws i 0)) (a.same (get_or ws i 0) ∙ ap seq_of none)))

-- one more has room
pub room_at : (c : Cat) (ws : List ℕ) (es more : List DirEnt) (i : ℕ) (f : File) → AreEntered c (take i ws) es
    → i < length ws → file_at c (get_or ws i 0) ≡ Some f → with_lost_entry c.factor es (get_or ws i 0) f.seq ≡ Some more
    → AreEntered c (take (i + 1) ws) more
room_at c ws es more i f a lt at h =
    subst (λ (ns : List ℕ). AreEntered c ns more) (sym (take_more ws i 0 lt))
    (entered_next c (take i ws) es more (get_or ws i 0) f a at h)

not_mended : (c b : Cat) → enter_all (lost (stripped c) false) (stripped c) ≡ Some b → mended c ≡ None → ⊥
unfolding mended
not_mended c b all none =
    let w : with_lost (stripped c) ≡ Some (enter_some (lost (stripped c) true) b) =
    ap (λ (o : Option Cat). option_map (enter_some (lost (stripped c) true)) o) all in
    let r : mended_from c (stripped c) (Some (enter_some (lost (stripped c) true) b)) ≡ None = ap (mended_from c (stripped c)) (sym w) ∙ none in
    absurd (cc r)

-- each has room
pub all_have_room : (c : Cat) (ws : List ℕ) (es : List DirEnt) → AreEntered c ws es → ws ≡ lost (stripped c) false → (n : ℕ) → HasNoRoom c n → ⊥
all_have_room c ws es a waits n h =
    not_mended c a.after (ap (λ (ns : List ℕ). enter_all ns (stripped c)) (sym waits) ∙ a.entered) ((no-room-exact c).0 (n, h))

nothing_waits : (earlier later : List ℕ) (n : ℕ) → [] ≡ earlier ++ n ∷ later → ⊥
nothing_waits [] later n h = cc h
nothing_waits (x ∷ xs) later n h = cc h

none_waits : (c : Cat) → [] ≡ lost (stripped c) false → (n : ℕ) → HasNoRoom c n → ⊥
none_waits c waits n h = nothing_waits h.earlier h.later n (waits ∙ h.waiting)

-- where there is no [SYSLOST], the first has none
pub no_room_nowhere : (c : Cat) (ws : List ℕ) → ws ≡ lost (stripped c) false → file_at c 11 ≡ None → IsRoomless c (slice_get ws 0)
no_room_nowhere c [] waits none = none_waits c waits
no_room_nowhere c (n ∷ ns) waits none = record {
  earlier = [];
  later = ns;
  after = stripped c;
  waiting = sym waits;
  entered = refl;
  full = enter_nowhere (stripped c) n (less_at (without_opens c) 11 ∙ ap (λ (o : Option File). option_map (less_file (without_opens c) 11) o) none);
}
