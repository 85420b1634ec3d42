-- The law of an insertion.
use Rattle.std.proofs.Common.{◌≡◌, ◌∙◌, ◌-◌, ◌<◌, true, false, ℕ, suc, List, [], ◌++◌, Some, Result, Ok, map, take, length, slice_get, slice_set, slice_index_or, refl, sym, ap, subst, arith}
use Rattle.std.proofs.lemmas.List.{length-map}
use Rattle.base_words.specs.Fields.{Block}
use Rattle.base_words.specs.Packing.{pack, over}
use Rattle.fx_dir.specs.declared.RawEnt.{RawEnt}
use Rattle.fx_dir.specs.declared.Move.{Move}
use Rattle.fx_dir.specs.declared.DirFault.{DirFault}
use Rattle.fx_dir.specs.Lists.{Each, In, joined}
use Rattle.fx_dir.specs.Entries.{rises, has, without, plain}
use Rattle.fx_dir.specs.Directory.{directory, plainly, all_entries}
use Rattle.fx_dir.specs.Writing.{IsUniform, name_of, block_of}
use Rattle.fx_dir.specs.Moves.{written, rising, falling, less_last, place, inserted, as_new, insert_writes, packed_as, AreChanges, Inserts, on_entries}
use Rattle.fx_dir.proofs.Order.{not_both}
use Rattle.fx_dir.proofs.Meeting.{Reads, Sound}
use Rattle.fx_dir.proofs.Cover.{each-append, each-imp}
use Rattle.fx_dir.proofs.Greedy.{pack-length}
use Rattle.fx_dir.proofs.Mixing.{each-take, take-all, pack-joined, pack-reads, pack-fits}
use Rattle.fx_dir.proofs.Views.{IsView, plain-view, own-view, has-view, pack-view, over-view}
use Rattle.fx_dir.proofs.Showing.{IsParsed, seen, shows}
use Rattle.fx_dir.proofs.Building.{IsWritable, Keeps, keeps-plain, keeps-uniform, block-parsed, blocks-parsed, blocks-seen, pack-writable, pack-seen, map-own, none-writable, index-seen}
use Rattle.fx_dir.proofs.Groups.{has-inserted, has-within, place-has, place-within, put-back, rises-inserted, each-got}
use Rattle.fx_dir.proofs.Images.{rising-whole}
use Rattle.fx_dir.proofs.Passing.{first-reads, insert-before, insert-done, insert-after}
use Rattle.fx_dir.proofs.Based.{IsLong, map-nil, based, read-parsed, read-order, read-uniform, seen-plain, seen-own}
use Rattle.fx_dir.proofs.Changing.{changes-append, rising-changes, falling-changes, less_last-changes, length-written, written-each, rising-each, falling-each, less_last-each, get-map}
use Rattle.fx_dir.proofs.Seeing.{inserted-view, withouts-view, map-set_at, each-index, in-inserted, withouts-each, withouts-writable, plain-as_new, has-as_new, as_new-uniform}

module _ (v : RawEnt → RawEnt) (view : IsView v) (old : List Block) (fs : List RawEnt) (e : RawEnt)
    (read : directory old ≡ Ok fs) (base : Reads (map v fs) (map (seen v) old)) (absent : has fs e ≡ false)
    (fits : over name_of (length old) (inserted e fs) ≡ []) (sound : Sound fs) (all-sound : Sound (inserted e fs))
    (keeps : (gs : List (List RawEnt)) → Each (λ g. Each (λ x. In (inserted e fs) x) g) gs → Keeps v gs) where
  abbrev k : ℕ
  k = length old

  abbrev gs : List (List RawEnt)
  gs = pack name_of k fs

  abbrev hs : List (List RawEnt)
  hs = pack name_of k (inserted e fs)

  abbrev ts : List (List RawEnt)
  ts = map (without e) hs

  abbrev left : List Block
  left = map block_of gs

  abbrev right : List Block
  right = map block_of ts

  abbrev at : ℕ
  at = place e hs

  abbrev last : Block
  last = block_of (slice_index_or hs at [])

  abbrev first : List Move
  first = rising 1 old left ++ less_last (suc at) (falling 1 left right)

  abbrev writes : List Move
  writes = insert_writes old gs e hs

  order : rises fs ≡ true
  order = read-order old fs read

  all-order : rises (inserted e fs) ≡ true
  all-order = rises-inserted e fs absent order

  old-fits : over name_of k fs ≡ []
  old-fits = map-nil v _ (sym (over-view v view k fs) ∙ pack-fits k (map v fs) (map (seen v) old) (omega (arith, length-map old (seen v))) base)

  gs-in : Each (λ g. Each (λ x. In (inserted e fs) x) g) gs
  gs-in = each-imp _ _ gs (λ g n. each-imp _ _ g (λ x i. in-inserted e fs x i) n) (pack-reads k fs old-fits order).no_clash

  hs-in : Each (λ g. Each (λ x. In (inserted e fs) x) g) hs
  hs-in = (pack-reads k (inserted e fs) fits all-order).no_clash

  hs-writable : Each IsWritable hs
  hs-writable = pack-writable k (inserted e fs) all-order all-sound

  ts-writable : Each IsWritable ts
  ts-writable = withouts-writable e hs hs-writable

  seen-all : pack name_of k (inserted (v e) (map v fs)) ≡ map (map v) hs
  seen-all = ap (pack name_of k) (sym (inserted-view v view e fs)) ∙ pack-view v view k (inserted e fs)

  left-seen : map (seen v) left ≡ pack name_of k (map v fs)
  left-seen = pack-seen v view k fs order sound (keeps gs gs-in)

  new-seen : map (seen v) (map block_of hs) ≡ pack name_of k (inserted (v e) (map v fs))
  new-seen = blocks-seen v hs hs-writable (keeps hs hs-in) ∙ sym seen-all

  right-seen : map (seen v) right ≡ map (without (v e)) (pack name_of k (inserted (v e) (map v fs)))
  right-seen =
      blocks-seen v ts ts-writable (keeps ts (withouts-each (λ x. In (inserted e fs) x) e hs hs-in)) ∙ withouts-view v view e hs ∙ ap (map (without (v e))) (sym seen-all)

  joined-hs : joined hs ≡ inserted e fs
  joined-hs = pack-joined k (inserted e fs) fits

  back : slice_set right at last ≡ map block_of hs
  back = map-set_at block_of ts at (slice_index_or hs at []) ∙ ap (map block_of) (put-back e hs (subst (λ (t : List RawEnt). rises t ≡ true) (sym joined-hs) all-order))

  absent-seen : has (map v fs) (v e) ≡ false
  absent-seen = has-view v view fs e ∙ absent

  fits-seen : over name_of k (inserted (v e) (map v fs)) ≡ []
  fits-seen = ap (over name_of k) (sym (inserted-view v view e fs)) ∙ over-view v view k (inserted e fs) ∙ ap (map v) fits

  -- every block is read as a list of records at every moment
  writes-parsed : Each (λ w. IsParsed w.block) writes
  writes-parsed =
      let left-parsed = blocks-parsed gs (pack-writable k fs order sound) in
      let right-parsed = blocks-parsed ts ts-writable in
      let last-parsed = block-parsed (slice_index_or hs at []) (each-index IsWritable hs at [] none-writable hs-writable) in
      each-append (λ w. IsParsed w.block) first _
      (each-append (λ w. IsParsed w.block) (rising 1 old left) _ (rising-each IsParsed 1 old left left-parsed) (less_last-each IsParsed (suc at) (falling 1 left right) (falling-each IsParsed 1 left right right-parsed)))
      (last-parsed, tt)

  parsed : (ws : List Move) → Each (λ w. IsParsed w.block) ws → Each IsParsed (written ws old)
  parsed ws n = written-each IsParsed ws old (read-parsed old fs read) n

  pub before-all : (n : ℕ) → n < length writes → (gs : List RawEnt) × (directory (written (take n writes) old) ≡ Ok gs) × (map v gs ≡ map v fs)
  before-all n h =
      shows v view (written (take n writes) old) (map v fs) (parsed (take n writes) (each-take (λ w. IsParsed w.block) n writes writes-parsed))
      (insert-before v old left right (map block_of hs) (map v fs) (v e) at last base absent-seen fits-seen left-seen right-seen new-seen back n h)

  pub after-all : (gs : List RawEnt) × (directory (written writes old) ≡ Ok gs) × (map v gs ≡ inserted (v e) (map v fs))
  after-all =
      shows v view (written writes old) (inserted (v e) (map v fs)) (parsed writes writes-parsed)
      (insert-after v old left right (map block_of hs) (map v fs) (v e) at last base absent-seen fits-seen left-seen right-seen new-seen back)

  pub whole-all : written writes old ≡ map block_of hs
  whole-all = insert-done v old left right (map block_of hs) (map v fs) (v e) at last base absent-seen fits-seen left-seen right-seen new-seen back

  -- ---- each write changes its block
  left-count : length left ≡ k
  left-count = length-map gs block_of ∙ pack-length k fs

  right-count : length right ≡ k
  right-count = length-map ts block_of ∙ length-map hs (without e) ∙ pack-length k (inserted e fs)

  there : has (joined hs) e ≡ true
  there = subst (λ (t : List RawEnt). has t e ≡ true) (sym joined-hs) (has-inserted e fs)

  seen-last : seen v last ≡ map v (slice_index_or hs at [])
  seen-last = index-seen v hs at hs-writable (keeps hs hs-in)

  last-changes : slice_get (written first old) (suc at - 1) ≡ Some last → ⊥
  last-changes g =
      let s : suc at - 1 ≡ at = omega arith in
      let r : Reads (map v fs) (map (seen v) (written first old)) = subst (λ (t : List Move). Reads (map v fs) (map (seen v) (written t old))) (take-all (length first) first (omega arith))
      (first-reads v old left right (map block_of hs) (map v fs) (v e) at last base absent-seen fits-seen left-seen right-seen new-seen back (length first)) in
      let m : Each (λ x. In (map v fs) x) (seen v last) = each-got _ (map (seen v) (written first old)) (suc at - 1) (seen v last) r.no_clash (get-map (seen v) (written first old) (suc at - 1) last g) in
      let h : has (seen v last) (v e) ≡ true = rw seen-last (has-view v view (slice_index_or hs at []) e ∙ place-has e hs there) in
      not_both _ (has-within (map v fs) (seen v last) (v e) m h) absent-seen

  pub all-changes : AreChanges writes old
  all-changes =
      let a : AreChanges (rising 1 old left) old = rising-changes old left [] 1 (sym left-count) refl in
      let b : AreChanges (less_last (suc at) (falling 1 left right)) left = less_last-changes (suc at) (falling 1 left right) left (falling-changes left right [] 1 (left-count ∙ sym right-count) refl) in
      let c : AreChanges (less_last (suc at) (falling 1 left right)) (written (rising 1 old left) old) = subst (λ (t : List Block). AreChanges (less_last (suc at) (falling 1 left right)) t) (sym (rising-whole old left [] 1 (sym left-count) refl)) b in
      let p : at < length hs = place-within e hs there in
      let l = length-written first old in
      let n = pack-length k (inserted e fs) in
      changes-append first _ old (changes-append (rising 1 old left) (less_last (suc at) (falling 1 left right)) old a c) ((omega arith, omega arith, last-changes), tt)

-- the writes of an insertion keep its law
pub inserts : (old : List Block) (fs : List RawEnt) (e : RawEnt) (ws : List Move) → Each IsLong old → directory old ≡ Ok fs → has fs e ≡ false
    → over name_of (length old) (inserted (as_new fs e) fs) ≡ [] → Sound fs → Sound (inserted (as_new fs e) fs)
    → ws ≡ insert_writes old (pack name_of (length old) fs) (as_new fs e) (pack name_of (length old) (inserted (as_new fs e) fs)) → Inserts old e ws
inserts old fs e ws long read absent fits sound all-sound is =
    subst (λ (t : List Move). Inserts old e t) (sym is) (record {
      before = λ n h. let b = before-all plain plain-view old fs new read base absent-new fits sound all-sound plainly-kept n h in ap plainly b.1 ∙ ap Ok b.2 ∙ sym (ap plainly read);
      after = (let a = after-all plain plain-view old fs new read base absent-new fits sound all-sound plainly-kept in ap plainly a.1 ∙ ap Ok (a.2 ∙ ap (λ (x : RawEnt). inserted x (map plain fs)) (plain-as_new fs e)) ∙ sym (ap (λ r. on_entries (inserted (plain e)) (plainly r)) read));
      kept_before = λ u n h. let b = before-all (λ x. x) own-view old fs new read (own-base u) absent-new fits sound all-sound (own-kept u) n h in b.1 ∙ ap Ok (sym (map-own b.0) ∙ b.2 ∙ map-own fs) ∙ sym read;
      kept_after = λ u. let a = after-all (λ x. x) own-view old fs new read (own-base u) absent-new fits sound all-sound (own-kept u) in a.1 ∙ ap Ok (sym (map-own a.0) ∙ a.2 ∙ ap (inserted new) (map-own fs)) ∙ sym (ap (on_entries (λ es. inserted (as_new es e) es)) read);
      whole = whole-all plain plain-view old fs new read base absent-new fits sound all-sound plainly-kept ∙ sym (ap (λ (r : Result (List RawEnt) DirFault). packed_as old (on_entries (λ es. inserted (as_new es e) es) r)) read);
      changes = all-changes plain plain-view old fs new read base absent-new fits sound all-sound plainly-kept;
    })
  where
    new : RawEnt
    new = as_new fs e

    absent-new : has fs new ≡ false
    absent-new = has-as_new fs fs e ∙ absent

    base : Reads (map plain fs) (map (seen plain) old)
    base = based plain plain-view old fs long read (seen-plain old fs read)

    plainly-kept : (gs : List (List RawEnt)) → Each (λ g. Each (λ x. In (inserted new fs) x) g) gs → Keeps plain gs
    plainly-kept gs n = keeps-plain gs

    own-base : IsUniform (all_entries old) → Reads (map (λ x. x) fs) (map (seen (λ x. x)) old)
    own-base u = based (λ x. x) own-view old fs long read (seen-own old fs read u)

    own-kept : IsUniform (all_entries old) → (gs : List (List RawEnt)) → Each (λ g. Each (λ x. In (inserted new fs) x) g) gs → Keeps (λ x. x) gs
    own-kept u gs n = keeps-uniform (inserted new fs) gs (as_new-uniform fs e (read-uniform old fs read u)) n

-- the entry is in a block of its packing
pub insert-there : (k : ℕ) (fs : List RawEnt) (e : RawEnt) → over name_of k (inserted e fs) ≡ [] → place e (pack name_of k (inserted e fs)) < length (pack name_of k (inserted e fs))
insert-there k fs e fits = place-within e _ (subst (λ (t : List RawEnt). has t e ≡ true) (sym (pack-joined k (inserted e fs) fits)) (has-inserted e fs))
