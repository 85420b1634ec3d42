-- Mending ends the same once a lost file that is empty is entered.
use Rattle.std.proofs.Common.{◌≡◌, ◌==◌, ◌<◌, inl, inr, ◌++◌, ◌∙◌, ℕ, Bool, true, false, cond, not, List, [], ◌∷◌, Option, Some, None, length, refl, sym, ap, subst, arith}
use Rattle.std.specs.Prelude.{option_map, option_and_then, unwrap_or}
use Rattle.std.specs.Str.{bytes_eq}
use Rattle.std.proofs.lemmas.Bool.{eqb-true}
use Rattle.std.proofs.lemmas.Option.{slice_get_within}
use Rattle.std.proofs.lemmas.Slice.Eq.{bytes_eq-Decides}
use Rattle.plain_cat.specs.declared.entries.DirEnt.{DirEnt}
use Rattle.plain_cat.specs.declared.cat.Cat.{Cat}
use Rattle.plain_cat.specs.declared.cat.File.{File}
use Rattle.plain_cat.specs.declared.cat.Slot.TheVariants.{Used}
use Rattle.plain_rules.specs.Lookups.{file_at}
use Rattle.plain_rules.specs.Directories.{inserted}
use Rattle.plain_rules.specs.Changes.{with_entries}
use Rattle.plain_rules.specs.Mending.{is_lost_slot, lost, lost_name, with_lost_entry, enter, enter_all, enter_some, without_opens, with_lost, stripped}
use Rattle.plain_mends.specs.Resuming.{MendsTo, AllStay}
use Rattle.plain_mends.specs.Waiting.{Settled, AreFull}
use Rattle.base_words.specs.Lists.{Has, Once}
use Rattle.base_words.proofs.Listing.{has_from, has_to, has_first, has_second}
use Rattle.plain_laws.proofs.Standing.{file_same, file_other}
use Rattle.plain_laws.proofs.Steps.{entered_by, has_number}
use Rattle.plain_laws.proofs.Unfinished.{Unfinished}
use Rattle.plain_mends.proofs.Frames.{ends_alike}
use Rattle.plain_mends.proofs.Standing.{is_lost_in, unfinished, step}
use Rattle.plain_laws.proofs.Unfinished.{lost_file, numbers_distinct}
use Rattle.plain_mends.proofs.FullSteps.{Shape, shape_by, but, but_first, unfinished_stay, narrow, shut_enter, lost_left}
use Rattle.plain_mends.proofs.Skipping.{still_full, names_differ}

has_mid : (ms : List ℕ) (n : ℕ) (ns : List ℕ) → Has (ms ++ n ∷ ns) n
has_mid [] n ns = inl refl
has_mid (m ∷ ms) n ns = inr (has_mid ms n ns)

but_mid : (ms : List ℕ) (n : ℕ) (ns : List ℕ) → Once (ms ++ n ∷ ns) → but n (ms ++ n ∷ ns) ≡ ms ++ ns
but_mid [] n ns d = but_first n ns d
but_mid (m ∷ ms) n ns d = ap (λ b. cond b (m ∷ but n (ms ++ n ∷ ns)) (but n (ms ++ n ∷ ns))) (other (m == n) refl) ∙ ap (λ ks. m ∷ ks) (but_mid ms n ns d.1) where
  other : (b : Bool) → (m == n) ≡ b → not b ≡ true
  other true e = absurd (d.0 (subst (λ (k : ℕ). Has (ms ++ n ∷ ns) k) (sym (eqb-true m n e)) (has_mid ms n ns)))
  other false e = refl

-- the first ones differ from the one behind them
apart_mid : (ms : List ℕ) (n : ℕ) (ns : List ℕ) → Once (ms ++ n ∷ ns) → (m : ℕ) → Has ms m → m ≡ n → ⊥
apart_mid [] n ns d m h e = absurd h
apart_mid (k ∷ ms) n ns d m (inl h) e = d.0 (subst (λ (z : ℕ). Has (ms ++ n ∷ ns) z) (sym (h ∙ e)) (has_mid ms n ns))
apart_mid (k ∷ ms) n ns d m (inr h) e = apart_mid ms n ns d.1 m h e

-- those without room are passed over
pub skip : (ms rest : List ℕ) (c : Cat) → ((m : ℕ) → Has ms m → enter c m ≡ None) → enter_some (ms ++ rest) c ≡ enter_some rest c
skip [] rest c full = refl
skip (m ∷ ms) rest c full = ap (λ o. enter_some (ms ++ rest) (unwrap_or o c)) (full m (inl refl)) ∙ skip ms rest c (λ k h. full k (inr h))

pub full_shut : (x : Cat) (m : ℕ) → enter x m ≡ None → enter (without_opens x) m ≡ None
full_shut x m h = shut_enter x m ∙ ap (λ o. option_map without_opens o) h

pub full_has : (x : Cat) (ms : List ℕ) → ((m : ℕ) → Has ms m → enter x m ≡ None) → AreFull x ms
full_has x ms full m h = full m (has_from ms m h)

enter_is : (x : Cat) (m : ℕ) (d f : File) → file_at x 11 ≡ Some d → file_at x m ≡ Some f
    → enter x m ≡ option_map (with_entries x 11 d) (with_lost_entry x.factor d.entries m f.seq)
unfolding enter
enter_is x m d f at own =
    ap (λ o. option_and_then (λ (e : File). option_and_then (λ (g : File). option_map (with_entries x 11 e) (with_lost_entry x.factor e.entries m g.seq)) (file_at x m)) o) at
    ∙ ap (λ o. option_and_then (λ (g : File). option_map (with_entries x 11 d) (with_lost_entry x.factor d.entries m g.seq)) o) own

none_map : {X Y : Type 0} (o : Option X) (f : X → Y) → option_map f o ≡ None → o ≡ None
none_map None f h = refl
none_map (Some x) f h = absurd (cc h)

few_number : (x : Cat) (empty : Bool) (m : ℕ) → length x.files < 100000 → Has (lost x empty) m → m < 100000
few_number x empty m few h =
    let r = has_number (is_lost_slot x empty) 1 x.files m h in
    let lt = slice_get_within x.files r.place r.slot r.at in
    let e = r.number in
    omega (arith, lt, e, few)

-- no room for m once n is entered
still_none : (x y : Cat) (n m : ℕ) (f : File) → length x.files < 100000 → enter x n ≡ Some y → n < 100000 → m < 100000 → (m ≡ n → ⊥) → (m ≡ 11 → ⊥)
    → file_at x m ≡ Some f → enter x m ≡ None → enter y m ≡ None
still_none x y n m f few entered n-few m-few other high at none =
    let sh = shape_by x n y entered in
    let es : List DirEnt = inserted sh.entry sh.dir.entries in
    let lacks : with_lost_entry x.factor sh.dir.entries m f.seq ≡ None = none_map (with_lost_entry x.factor sh.dir.entries m f.seq) (with_entries x 11 sh.dir) (sym (enter_is x m sh.dir f sh.dir_at at) ∙ none) in
    let still = still_full x.factor sh.dir.entries sh.entry m f.seq (name sh (bytes_eq sh.entry.name (lost_name m)) refl) lacks in
    let z : Cat = with_entries x 11 sh.dir es in
    let dir_at : file_at z 11 ≡ Some (record sh.dir { entries = es }) = file_same x 11 sh.dir (record sh.dir { entries = es }) sh.dir_at in
    let own_at : file_at z m ≡ Some f = file_other x 11 m (Used (record sh.dir { entries = es })) (omega arith) high ∙ at in
    subst (λ (c : Cat). enter c m ≡ None) (sym sh.is)
    (enter_is z m (record sh.dir { entries = es }) f dir_at own_at ∙ ap (λ o. option_map (with_entries z 11 (record sh.dir { entries = es })) o) still)
  where
    name : (sh : Shape x y n) (b : Bool) → bytes_eq sh.entry.name (lost_name m) ≡ b → b ≡ false
    name sh true e =
        let same : lost_name n ≡ lost_name m = sym sh.name ∙ (bytes_eq-Decides sh.entry.name (lost_name m)).0 e in
        absurd (other (sym (names_differ n m n-few m-few same)))
    name sh false e = refl

module _ (x y : Cat) (ms : List ℕ) (n : ℕ) (ns : List ℕ) (settled : Settled x) (waits : lost x true ≡ ms ++ n ∷ ns) (entered : enter x n ≡ Some y) where
  has_n : Has (lost x true) n
  has_n = subst (λ (ks : List ℕ). Has ks n) (sym waits) (has_mid ms n ns)

  once : Once (ms ++ n ∷ ns)
  once = subst (λ (ks : List ℕ). Once ks) waits (numbers_distinct (is_lost_slot x true) 1 x.files)

  stay_y : AllStay y
  stay_y =
      let all : Unfinished (lost x true) x =
      narrow (lost x false ++ lost x true) (lost x true) x (unfinished x settled) (λ k h. has_second (lost x false) (lost x true) k h) (numbers_distinct (is_lost_slot x true) 1 x.files) in
      let u : Unfinished (ms ++ n ∷ ns) x = subst (λ (ks : List ℕ). Unfinished ks x) waits all in
      unfinished_stay (ms ++ ns) y (step ms n ns x y (entered_by x n y entered) u)

  none_y : lost x false ≡ [] → lost y false ≡ []
  none_y none = lost_left x y n false true settled has_n entered ∙ ap (but n) none

  empty_y : lost y true ≡ ms ++ ns
  empty_y = lost_left x y n true true settled has_n entered ∙ (ap (but n) waits ∙ but_mid ms n ns once)

  full_y : length x.files < 100000 → ((m : ℕ) → Has ms m → enter x m ≡ None) → (m : ℕ) → Has ms m → enter y m ≡ None
  full_y few full m h =
      let has_m : Has (lost x true) m = subst (λ (ks : List ℕ). Has ks m) (sym waits) (has_first ms (n ∷ ns) m h) in
      let f = lost_file x true m has_m in
      let high = (is_lost_in x settled true m has_m).high in
      still_none x y n m f.file few entered (few_number x true n few has_n) (few_number x true m few has_m) (apart_mid ms n ns once m h) (λ e. omega (arith, e, high)) f.at (full m h)

  same_y : length x.files < 100000 → lost x false ≡ [] → ((m : ℕ) → Has ms m → enter x m ≡ None) → with_lost (stripped y) ≡ with_lost (stripped x)
  same_y few none full =
      let wx : Cat = without_opens x in
      let wy : Cat = without_opens y in
      ap with_lost stay_y
      ∙ (ap (λ fs. option_map (enter_some (lost y true)) (enter_all fs wy)) (none_y none)
      ∙ (ap (λ es. Some (enter_some es wy)) empty_y
      ∙ (ap (λ (z : Cat). Some z) (skip ms ns wy (λ m h. full_shut y m (full_y few full m h)))
      ∙ (sym (ap (λ fs. option_map (enter_some (lost x true)) (enter_all fs wx)) none
      ∙ (ap (λ es. Some (enter_some es wx)) waits
      ∙ (ap (λ (z : Cat). Some z) (skip ms (n ∷ ns) wx (λ m h. full_shut x m (full m h)))
      ∙ ap (λ o. Some (enter_some ns (unwrap_or o wx))) (shut_enter x n ∙ ap (λ o. option_map without_opens o) entered))))
      ∙ sym (ap with_lost settled.stay)))))

has_full : (x : Cat) (ms : List ℕ) → AreFull x ms → (m : ℕ) → Has ms m → enter x m ≡ None
has_full x ms full m h = full m (has_to ms m h)

pub empty_ends : (x y : Cat) (ms : List ℕ) (n : ℕ) (ns : List ℕ) (z : Cat) → Settled x → length x.files < 100000 → lost x false ≡ [] → lost x true ≡ ms ++ n ∷ ns
    → AreFull x ms → enter x n ≡ Some y → MendsTo x z → MendsTo y z
empty_ends x y ms n ns z settled few none waits full entered = ends_alike x y z (λ b h.
    record { middle = b; entered = same_y x y ms n ns settled waits entered few none (has_full x ms full) ∙ h; right = refl })

pub empty_stays : (x y : Cat) (ms : List ℕ) (n : ℕ) (ns : List ℕ) → Settled x → lost x true ≡ ms ++ n ∷ ns → enter x n ≡ Some y → AllStay y
empty_stays = stay_y

pub none_left : (x y : Cat) (ms : List ℕ) (n : ℕ) (ns : List ℕ) → Settled x → lost x false ≡ [] → lost x true ≡ ms ++ n ∷ ns → enter x n ≡ Some y → lost y false ≡ []
none_left x y ms n ns settled none waits entered = none_y x y ms n ns settled waits entered none

pub others_left : (x y : Cat) (ms : List ℕ) (n : ℕ) (ns : List ℕ) → Settled x → lost x true ≡ ms ++ n ∷ ns → enter x n ≡ Some y → lost y true ≡ ms ++ ns
others_left = empty_y

pub still_without : (x y : Cat) (ms : List ℕ) (n : ℕ) (ns : List ℕ) → Settled x → length x.files < 100000 → lost x true ≡ ms ++ n ∷ ns → AreFull x ms
    → enter x n ≡ Some y → AreFull y ms
still_without x y ms n ns settled few waits full entered = full_has y ms (full_y x y ms n ns settled waits entered few (has_full x ms full))
