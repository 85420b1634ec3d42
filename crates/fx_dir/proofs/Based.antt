-- What a directory that is read without a fault is as a list of lists of entries.
use Rattle.std.proofs.Common.{◌≡◌, ◌∙◌, ◌+◌, ◌-◌, ◌*◌, ◌/◌, ◌%◌, ◌≤◌, ◌<◌, ◌&&◌, Bool, true, false, ℕ, zero, suc, List, [], ◌∷◌, ◌++◌, Option, Some, None, Ok, option_map, map, drop, length, refl, sym, ap, subst, inl, inr, arith, length-take, length-drop, slice_index_or, if◌then◌else◌}
use Rattle.std.specs.Prelude.{option_and_then, slice_index}
use Rattle.std.specs.Str.{bytes_eq}
use Rattle.std.proofs.lemmas.List.{length-map}
use Rattle.base_words.specs.Fields.{Block}
use Rattle.base_words.specs.Packing.{padded, cost, size, over}
use Rattle.fx_dir.specs.declared.RawEnt.{RawEnt}
use Rattle.fx_dir.specs.Lists.{Each, In}
use Rattle.fx_dir.specs.Entries.{rises, plain}
use Rattle.fx_dir.specs.Records.{record_length, head_length, name_in, is_end, is_whole, is_named, is_version, entry_in, versions_in, record_entries, records_in, if_rising, block_entries}
use Rattle.fx_dir.specs.Directory.{directory, entries_at, all_entries}
use Rattle.fx_dir.specs.Writing.{IsUniform, name_of}
use Rattle.fx_dir.proofs.Meeting.{met, Reads}
use Rattle.fx_dir.proofs.Order.{and_cases, eqb_eq, bytes_is, bytes_refl}
use Rattle.fx_dir.proofs.Finding.{went, each-at, each-from, each-within, met-sound}
use Rattle.fx_dir.proofs.Views.{IsView, plain-view, rises-view, size-view, met-view, over-view}
use Rattle.fx_dir.proofs.Mixing.{pack-fits}
use Rattle.fx_dir.proofs.Building.{map-own}
use Rattle.fx_dir.proofs.Showing.{IsParsed, seen}
use Rattle.fx_dir.proofs.Numbers.{leb_says, ltb_says}
use Rattle.fx_dir.proofs.Written.{first-cost}

-- ---- the entries of a block have room in it

cost-most : (last : Option (List ℕ)) (name : List ℕ) → cost last name ≤ 14 + padded name
unfolding cost
cost-most None name = omega arith
cost-most (Some last) name = step (bytes_eq last name) where
  step : (q : Bool) → (if q then 8 else 14 + padded name) ≤ 14 + padded name
  step true = omega arith
  step false = omega arith

cost-same : (name : List ℕ) → cost (Some name) name ≡ 8
unfolding cost
cost-same name = rw (bytes_refl name) refl

size-first : (last : Option (List ℕ)) (es : List RawEnt) → size name_of last es ≤ size name_of None es
size-first last [] = omega arith
size-first last (e ∷ es) = let h = cost-most last e.name in let k = first-cost e.name in omega arith

size-append : (last : Option (List ℕ)) (xs ys : List RawEnt) → size name_of last (xs ++ ys) ≤ size name_of last xs + size name_of None ys
size-append last [] ys = let h = size-first last ys in omega arith
size-append last (e ∷ xs) ys = let h = size-append (Some e.name) xs ys in omega arith

entry-name : (head bytes : List ℕ) → (entry_in head bytes).name ≡ name_in head
unfolding entry_in
entry-name head bytes = refl

-- versions behind the first of their name
versions-size : (head : List ℕ) (n : ℕ) (bytes : List ℕ) (es : List RawEnt) → versions_in head n bytes ≡ Some es → size name_of (Some (name_in head)) es ≡ 8 * n
versions-size head zero bytes es h = let e : [] ≡ es = cc in subst (λ (t : List RawEnt). size name_of (Some (name_in head)) t ≡ 0) e refl
versions-size head (suc n) bytes es h = go (is_version bytes) (versions_in head n (drop 8 bytes)) refl (versions-size head n (drop 8 bytes)) h where
  go : (q : Bool) → (o : Option (List RawEnt)) → o ≡ versions_in head n (drop 8 bytes) → ((fs : List RawEnt) → versions_in head n (drop 8 bytes) ≡ Some fs → size name_of (Some (name_in head)) fs ≡ 8 * n)
      → (if q then option_map (λ es. entry_in head bytes ∷ es) o else None) ≡ Some es → size name_of (Some (name_in head)) es ≡ 8 * suc n
  go false o l ih r = absurd (cc)
  go true None l ih r = absurd (cc)
  go true (Some fs) l ih r =
      let e : entry_in head bytes ∷ fs ≡ es = cc in
      let s : size name_of (Some (name_in head)) fs ≡ 8 * n = ih fs (sym l) in
      let c : cost (Some (name_in head)) (name_in head) ≡ 8 = cost-same (name_in head) in
      let t : size name_of (Some (name_in head)) (entry_in head bytes ∷ fs) ≡ 8 * suc n = rw (entry-name head bytes) (omega arith) in
      subst (λ (t : List RawEnt). size name_of (Some (name_in head)) t ≡ 8 * suc n) e t

cost-head : (name other : List ℕ) → cost None other ≤ 6 + padded name + cost (Some name) other
unfolding cost
cost-head name other = step (bytes_eq name other) refl where
  step : (q : Bool) → q ≡ bytes_eq name other → 14 + padded other ≤ 6 + padded name + (if q then 8 else 14 + padded other)
  step true h = let n : name ≡ other = bytes_is name other (sym h) in let p : padded name ≡ padded other = ap padded n in omega arith
  step false h = omega arith

size-head : (name : List ℕ) (es : List RawEnt) → size name_of None es ≤ 6 + padded name + size name_of (Some name) es
size-head name [] = omega arith
size-head name (e ∷ es) = let h = cost-head name e.name in omega arith

pub record Room (bytes : List ℕ) : Type 0 where
  pub room : record_length bytes + 2 ≤ length bytes
  pub head : head_length bytes < record_length bytes
  pub whole : (record_length bytes - head_length bytes) % 8 ≡ 0

is_whole-room : (bytes : List ℕ) → is_whole bytes ≡ true → Room bytes
unfolding is_whole
is_whole-room bytes t =
    let p = and_cases _ _ t in
    let q = and_cases _ _ p.1 in
    record {
      room = leb_says (record_length bytes + 2) (length bytes) p.0;
      head = ltb_says (head_length bytes) (record_length bytes) q.0;
      whole = eqb_eq ((record_length bytes - head_length bytes) % 8) 0 q.1;
    }

length-name : (bytes : List ℕ) → Room bytes → length (name_in bytes) ≡ slice_index bytes 5
length-name bytes r =
    let h = r.head in
    let l = r.room in
    omega (arith, length-take (slice_index bytes 5) (drop 6 bytes), length-drop 6 bytes)

record-size : (bytes : List ℕ) (es : List RawEnt) → record_entries bytes ≡ Some es → (size name_of None es ≤ record_length bytes) × Room bytes
unfolding record_entries
record-size bytes es r = go (is_whole bytes && is_named bytes) refl r where
  go : (q : Bool) → q ≡ (is_whole bytes && is_named bytes) → (if q then versions_in bytes ((record_length bytes - head_length bytes) / 8) (drop (head_length bytes) bytes) else None) ≡ Some es → (size name_of None es ≤ record_length bytes) × Room bytes
  go false k r = absurd (cc)
  go true k r =
      let room = is_whole-room bytes (and_cases _ _ (sym k)).0 in
      let n = (record_length bytes - head_length bytes) / 8 in
      let v : size name_of (Some (name_in bytes)) es ≡ 8 * n = versions-size bytes n (drop (head_length bytes) bytes) es r in
      let h = size-head (name_in bytes) es in
      let l = length-name bytes room in
      let p : padded (name_in bytes) ≡ slice_index bytes 5 + slice_index bytes 5 % 2 = rw l refl in
      let a = room.head in
      let w = room.whole in
      (omega arith, room)

records-size : (n : ℕ) (bytes : List ℕ) (es : List RawEnt) → 2 ≤ length bytes → records_in n bytes ≡ Some es → size name_of None es + 2 ≤ length bytes
unfolding records_in
records-size zero bytes es l r = absurd (cc)
records-size (suc n) bytes es l r = go (is_end bytes) (λ gs. records-size n (drop (record_length bytes) bytes) gs) r where
  go : (q : Bool) → ((gs : List RawEnt) → 2 ≤ length (drop (record_length bytes) bytes) → records_in n (drop (record_length bytes) bytes) ≡ Some gs → size name_of None gs + 2 ≤ length (drop (record_length bytes) bytes))
      → (if q then Some [] else option_and_then (λ es. option_map (λ fs. es ++ fs) (records_in n (drop (record_length bytes) bytes))) (record_entries bytes)) ≡ Some es → size name_of None es + 2 ≤ length bytes
  go true ih r = let e : [] ≡ es = cc in subst (λ (t : List RawEnt). size name_of None t + 2 ≤ length bytes) e l
  go false ih r = first (record_entries bytes) refl (records_in n (drop (record_length bytes) bytes)) refl r where
    first : (o : Option (List RawEnt)) → o ≡ record_entries bytes → (p : Option (List RawEnt)) → p ≡ records_in n (drop (record_length bytes) bytes) → option_and_then (λ es. option_map (λ fs. es ++ fs) p) o ≡ Some es → size name_of None es + 2 ≤ length bytes
    first None k p m r = absurd (cc)
    first (Some fs) k None m r = absurd (cc)
    first (Some fs) k (Some gs) m r =
        let e : fs ++ gs ≡ es = cc in
        let a = record-size bytes fs (sym k) in
        let b : size name_of None fs ≤ record_length bytes = a.0 in
        let c : record_length bytes + 2 ≤ length bytes = a.1.room in
        let d = length-drop (record_length bytes) bytes in
        let f = ih gs (omega arith) (sym m) in
        let g = size-append None fs gs in
        subst (λ (t : List RawEnt). size name_of None t + 2 ≤ length bytes) e (omega arith)

pub block-room : (b : Block) (es : List RawEnt) → length b ≡ 512 → block_entries b ≡ Some es → size name_of None es ≤ 510
unfolding block_entries
block-room b es l r = go (records_in (length b) b) refl r where
  go : (o : Option (List RawEnt)) → o ≡ records_in (length b) b → option_and_then if_rising o ≡ Some es → size name_of None es ≤ 510
  go None k r = absurd (cc)
  go (Some fs) k r = test (rises fs) r where
    test : (q : Bool) → (if q then Some fs else None) ≡ Some es → size name_of None es ≤ 510
    test true r =
        let e : fs ≡ es = cc in
        let s = records-size (length b) b fs (omega arith) (sym k) in
        subst (λ (t : List RawEnt). size name_of None t ≤ 510) e (omega arith)
    test false r = absurd (cc)

-- ---- the directory as lists of what is seen of its blocks

abbrev pub IsLong : Block → Type 0
IsLong b = length b ≡ 512

seen-map : (v : RawEnt → RawEnt) (bs : List Block) → map (seen v) bs ≡ map (map v) (map entries_at bs)
seen-map v [] = refl
seen-map v (b ∷ bs) = λ i. map v (entries_at b) ∷ seen-map v bs i

each-rises : (v : RawEnt → RawEnt) (view : IsView v) (gs : List (List RawEnt)) → Each (λ g. rises g ≡ true) gs → Each (λ g. rises g ≡ true) (map (map v) gs)
each-rises v view [] n = tt
each-rises v view (g ∷ gs) n = (rises-view v view g ∙ n.0, each-rises v view gs n.1)

each-mapped : (v : RawEnt → RawEnt) (P : RawEnt → Type 0) (g : List RawEnt) → Each (λ e. P (v e)) g → Each P (map v g)
each-mapped v P [] n = tt
each-mapped v P (e ∷ g) n = (n.0, each-mapped v P g n.1)

each-group : (v : RawEnt → RawEnt) (P : RawEnt → Type 0) (gs : List (List RawEnt)) → Each (λ g. Each (λ e. P (v e)) g) gs → Each (λ g. Each P g) (map (map v) gs)
each-group v P [] n = tt
each-group v P (g ∷ gs) n = (each-mapped v P g n.0, each-group v P gs n.1)

each-room : (v : RawEnt → RawEnt) (view : IsView v) (bs : List Block) → Each IsLong bs → Each IsParsed bs → Each (λ g. size name_of None g ≤ 510) (map (seen v) bs)
unfolding IsParsed
each-room v view [] l p = tt
each-room v view (b ∷ bs) l p = (
  (let s = size-view v view None (entries_at b) in let r = block-room b (entries_at b) l.0 p.0 in omega arith),
  each-room v view bs l.1 p.1,
)

parsed-of : (bs : List Block) → Each (λ b. block_entries b ≡ Some (entries_at b)) bs → Each IsParsed bs
unfolding IsParsed
parsed-of bs n = n

-- every entry of every record is seen among those that were read
abbrev pub Seen : (RawEnt → RawEnt) → List RawEnt → List Block → Type 0
Seen v fs bs = Each (λ g. Each (λ e. In (map v fs) (v e)) g) (map entries_at bs)

pub based : (v : RawEnt → RawEnt) (view : IsView v) (bs : List Block) (fs : List RawEnt) → Each IsLong bs → directory bs ≡ Ok fs → Seen v fs bs → Reads (map v fs) (map (seen v) bs)
based v view bs fs long read among =
    let w = went 1 [] bs fs refl read in
    let m : met [] (map (seen v) bs) ≡ map v fs = ap (met []) (seen-map v bs) ∙ met-view v view [] (map entries_at bs) ∙ ap (map v) w.entries in
    record {
      entries = m;
      order = rises-view v view fs ∙ w.order;
      blocks = subst (λ (t : List (List RawEnt)). Each (λ g. rises g ≡ true) t) (sym (seen-map v bs)) (each-rises v view (map entries_at bs) w.blocks);
      no_clash = subst (λ (t : List (List RawEnt)). Each (λ g. Each (λ e. In (map v fs) e) g) t) (sym (seen-map v bs)) (each-group v (λ e. In (map v fs) e) (map entries_at bs) among);
      room = each-room v view bs long (parsed-of bs w.parsed);
    }

pub read-parsed : (bs : List Block) (fs : List RawEnt) → directory bs ≡ Ok fs → Each IsParsed bs
read-parsed bs fs read = parsed-of bs (went 1 [] bs fs refl read).parsed

pub read-order : (bs : List Block) (fs : List RawEnt) → directory bs ≡ Ok fs → rises fs ≡ true
read-order bs fs read = (went 1 [] bs fs refl read).order

pub seen-plain : (bs : List Block) (fs : List RawEnt) → directory bs ≡ Ok fs → Seen plain fs bs
seen-plain bs fs read = (went 1 [] bs fs refl read).plainly

read-sound : (bs : List Block) (fs : List RawEnt) → directory bs ≡ Ok fs → Each (λ e. In (all_entries bs) e) fs
read-sound bs fs read =
    let w = went 1 [] bs fs refl read in
    subst (λ (t : List RawEnt). Each (λ e. In (all_entries bs) e) t) w.entries (met-sound [] (map entries_at bs) (all_entries bs) tt (each-within (map entries_at bs)))

-- of two entries of one directory that agree in all but limit and flags, each is the other
in-plain : (all fs : List RawEnt) (e : RawEnt) → IsUniform all → Each (λ x. In all x) fs → In all e → In (map plain fs) (plain e) → In fs e
in-plain all [] e u n i h = absurd h
in-plain all (x ∷ fs) e u n i (inl k) =
    let m = u x e n.0 i (ap (λ (y : RawEnt). y.name) k) in
    inl (λ j. record { name = (k j).name; ver = (k j).ver; num = (k j).num; seq = (k j).seq; limit = m.0 j; flags = m.1 j })
in-plain all (x ∷ fs) e u n i (inr h) = inr (in-plain all fs e u n.1 i h)

pub seen-own : (bs : List Block) (fs : List RawEnt) → directory bs ≡ Ok fs → IsUniform (all_entries bs) → Seen (λ e. e) fs bs
seen-own bs fs read u =
    let all = all_entries bs in
    let p = seen-plain bs fs read in
    let w = each-within (map entries_at bs) in
    let s = read-sound bs fs read in
    each-from _ (map entries_at bs) (λ g i.
    each-from _ g (λ e j.
    subst (λ (t : List RawEnt). In t e) (sym (map-own fs)) (in-plain all fs e u s (each-at _ g e (each-at _ (map entries_at bs) g w i) j) (each-at _ g e (each-at _ (map entries_at bs) g p i) j))))

pub read-uniform : (bs : List Block) (fs : List RawEnt) → directory bs ≡ Ok fs → IsUniform (all_entries bs) → IsUniform fs
read-uniform bs fs read u = λ a b i j n. let s = read-sound bs fs read in u a b (each-at _ fs a s i) (each-at _ fs b s j) n

pub map-nil : {A B : Type 0} (f : A → B) (xs : List A) → map f xs ≡ [] → xs ≡ []
map-nil f [] h = refl
map-nil f (x ∷ xs) h = absurd (cc)

pub long-from : (bs : List Block) → ((i : ℕ) → i < length bs → length (slice_index_or bs i []) ≡ 512) → Each IsLong bs
long-from [] f = tt
long-from (b ∷ bs) f = (f 0 (omega arith), long-from bs (λ i h. f (suc i) (omega arith)))

-- what was read has room in as many blocks
pub read-fits : (bs : List Block) (fs : List RawEnt) → Each IsLong bs → directory bs ≡ Ok fs → over name_of (length bs) fs ≡ []
read-fits bs fs long read =
    let b = based plain plain-view bs fs long read (seen-plain bs fs read) in
    map-nil plain _ (sym (over-view plain plain-view (length bs) fs) ∙ pack-fits (length bs) (map plain fs) (map (seen plain) bs) (omega (arith, length-map bs (seen plain))) b)
