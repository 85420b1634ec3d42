-- The law of a removal.
use Rattle.std.proofs.Common.{◌≡◌, ◌∙◌, ◌-◌, ◌<◌, ◌≤◌, true, false, ℕ, suc, List, [], ◌∷◌, Some, Result, Ok, map, take, length, slice_get, slice_set, slice_index_or, refl, sym, ap, subst, arith, length-append}
use Rattle.std.proofs.lemmas.List.{length-map}
use Rattle.base_words.specs.Fields.{Block}
use Rattle.base_words.specs.Packing.{pack, over}
use Rattle.fx_dir.specs.declared.RawEnt.{RawEnt}
use Rattle.fx_dir.specs.declared.Move.{Move}
use Rattle.fx_dir.specs.declared.DirFault.{DirFault}
use Rattle.fx_dir.specs.Lists.{Each, In, joined}
use Rattle.fx_dir.specs.Entries.{rises, has, without, plain}
use Rattle.fx_dir.specs.Directory.{directory, plainly, all_entries}
use Rattle.fx_dir.specs.Writing.{IsInForm, IsRanged, IsUniform, name_of, block_of}
use Rattle.fx_dir.specs.Moves.{written, rising, place, packed_as, remove_writes, AreChanges, Removes, on_entries}
use Rattle.fx_dir.proofs.Order.{not_both}
use Rattle.fx_dir.proofs.Meeting.{Reads, Sound}
use Rattle.fx_dir.proofs.Cover.{each-append, each-imp}
use Rattle.fx_dir.proofs.Greedy.{pack-length, pack-room}
use Rattle.fx_dir.proofs.Mixing.{each-take, parts-read, pack-joined, pack-reads, pack-fits}
use Rattle.fx_dir.proofs.Views.{IsView, plain-view, own-view, has-view, pack-view, over-view}
use Rattle.fx_dir.proofs.Showing.{IsParsed, seen, shows}
use Rattle.fx_dir.proofs.Building.{IsWritable, Keeps, keeps-plain, keeps-uniform, block-parsed, blocks-parsed, blocks-seen, pack-writable, pack-seen, map-own, none-writable, block-seen}
use Rattle.fx_dir.proofs.Groups.{joined-without, without-room, has-without, place-has, place-within, take-out, rises-filter, get-index}
use Rattle.fx_dir.proofs.Images.{rising-whole}
use Rattle.fx_dir.proofs.Passing.{remove-before, remove-after, remove-done}
use Rattle.fx_dir.proofs.Based.{IsLong, map-nil, based, read-parsed, read-order, read-uniform, seen-plain, seen-own}
use Rattle.fx_dir.proofs.Changing.{changes-append, rising-changes, written-each, rising-each, get-map}
use Rattle.fx_dir.proofs.Seeing.{without-view, withouts-view, map-set_at, each-index, without-each, without-in, withouts-each, without-writable, withouts-writable}

module _ (v : RawEnt → RawEnt) (view : IsView v) (old : List Block) (fs : List RawEnt) (e : RawEnt)
    (read : directory old ≡ Ok fs) (base : Reads (map v fs) (map (seen v) old)) (there : has fs e ≡ true) (sound : Sound fs)
    (keeps : (gs : List (List RawEnt)) → Each (λ g. Each (λ x. In fs x) g) gs → Keeps v gs) where
  abbrev k : ℕ
  k = length old

  abbrev gs : List (List RawEnt)
  gs = pack name_of k fs

  abbrev ts : List (List RawEnt)
  ts = map (without e) gs

  abbrev rest : List RawEnt
  rest = without e fs

  abbrev hs : List (List RawEnt)
  hs = pack name_of k rest

  abbrev left : List Block
  left = map block_of gs

  abbrev right : List Block
  right = map block_of ts

  abbrev new : List Block
  new = map block_of hs

  abbrev at : ℕ
  at = place e gs

  abbrev held : List RawEnt
  held = slice_index_or gs at []

  abbrev decides : Block
  decides = block_of (without e held)

  abbrev pass : List Move
  pass = rising 1 old left

  abbrev writes : List Move
  writes = remove_writes old gs e hs

  order : rises fs ≡ true
  order = read-order old fs read

  rest-order : rises rest ≡ true
  rest-order = rises-filter _ fs order

  fits : over name_of k fs ≡ []
  fits = map-nil v _ (sym (over-view v view k fs) ∙ pack-fits k (map v fs) (map (seen v) old) (omega (arith, length-map old (seen v))) base)

  gs-in : Each (λ g. Each (λ x. In fs x) g) gs
  gs-in = (pack-reads k fs fits order).no_clash

  gs-writable : Each IsWritable gs
  gs-writable = pack-writable k fs order sound

  ts-writable : Each IsWritable ts
  ts-writable = withouts-writable e gs gs-writable

  rest-sound : Sound rest
  rest-sound = record { form = without-each IsInForm e fs sound.form; ranged = without-each IsRanged e fs sound.ranged }

  left-seen : map (seen v) left ≡ pack name_of k (map v fs)
  left-seen = pack-seen v view k fs order sound (keeps gs gs-in)

  right-seen : map (seen v) right ≡ map (without (v e)) (pack name_of k (map v fs))
  right-seen =
      blocks-seen v ts ts-writable (keeps ts (withouts-each (λ x. In fs x) e gs gs-in)) ∙ withouts-view v view e gs ∙ ap (map (without (v e))) (sym (pack-view v view k fs))

  joined-gs : joined gs ≡ fs
  joined-gs = pack-joined k fs fits

  out : slice_set left at decides ≡ right
  out = map-set_at block_of gs at (without e held) ∙ ap (map block_of) (take-out e gs (subst (λ (t : List RawEnt). rises t ≡ true) (sym joined-gs) order))

  -- the rest has room in as many blocks
  rest-fits : over name_of k rest ≡ []
  rest-fits =
      let r : Reads rest ts = parts-read rest ts (joined-without e gs ∙ ap (without e) joined-gs) rest-order (without-room e gs (pack-room k fs)) in
      pack-fits k rest ts (omega (arith, length-map gs (without e), pack-length k fs)) r

  hs-in : Each (λ g. Each (λ x. In fs x) g) hs
  hs-in = each-imp _ _ hs (λ g n. each-imp _ _ g (λ x i. without-in e fs x i) n) (pack-reads k rest rest-fits rest-order).no_clash

  new-seen : map (seen v) new ≡ pack name_of k (without (v e) (map v fs))
  new-seen = pack-seen v view k rest rest-order rest-sound (keeps hs hs-in) ∙ ap (pack name_of k) (without-view v view e fs)

  writes-parsed : Each (λ w. IsParsed w.block) writes
  writes-parsed =
      let held-writable = without-writable e held (each-index IsWritable gs at [] none-writable gs-writable) in
      each-append (λ w. IsParsed w.block) pass _ (rising-each IsParsed 1 old left (blocks-parsed gs gs-writable))
      (block-parsed (without e held) held-writable, rising-each IsParsed 1 right new (blocks-parsed hs (pack-writable k rest rest-order rest-sound)))

  parsed : (n : ℕ) → Each IsParsed (written (take n writes) old)
  parsed n = written-each IsParsed (take n writes) old (read-parsed old fs read) (each-take (λ w. IsParsed w.block) n writes writes-parsed)

  pub before-decided : (n : ℕ) → n ≤ length pass → (gs : List RawEnt) × (directory (written (take n writes) old) ≡ Ok gs) × (map v gs ≡ map v fs)
  before-decided n h =
      shows v view (written (take n writes) old) (map v fs) (parsed n) (remove-before v old left right new (map v fs) (v e) at decides base left-seen right-seen new-seen out n h)

  pub after-decided : (n : ℕ) → length pass < n → (gs : List RawEnt) × (directory (written (take n writes) old) ≡ Ok gs) × (map v gs ≡ without (v e) (map v fs))
  after-decided n h =
      shows v view (written (take n writes) old) (without (v e) (map v fs)) (parsed n) (remove-after v old left right new (map v fs) (v e) at decides base left-seen right-seen new-seen out n h)

  pub whole-rest : written writes old ≡ new
  whole-rest = remove-done v old left right new (map v fs) (v e) at decides base left-seen right-seen new-seen out

  -- ---- each write changes its block
  left-count : length left ≡ k
  left-count = length-map gs block_of ∙ pack-length k fs

  right-count : length right ≡ k
  right-count = length-map ts block_of ∙ length-map gs (without e) ∙ pack-length k fs

  new-count : length new ≡ k
  new-count = length-map hs block_of ∙ pack-length k rest

  has-entry : has (joined gs) e ≡ true
  has-entry = subst (λ (t : List RawEnt). has t e ≡ true) (sym joined-gs) there

  held-in : Each (λ x. In fs x) held
  held-in = each-index (λ g. Each (λ x. In fs x) g) gs at [] tt gs-in

  held-writable : IsWritable held
  held-writable = each-index IsWritable gs at [] none-writable gs-writable

  decides-changes : slice_get left (suc at - 1) ≡ Some decides → ⊥
  decides-changes g =
      let s : suc at - 1 ≡ at = omega arith in
      let p : at < length gs = place-within e gs has-entry in
      let h : slice_get left at ≡ Some (block_of held) = get-map block_of gs at held (get-index gs at p) in
      let same : Some (block_of held) ≡ Some decides = sym h ∙ ap (slice_get left) (sym s) ∙ g in
      let k : block_of held ≡ decides = cc in
      let a : seen v (block_of held) ≡ map v held = block-seen v held held-writable (keeps (held ∷ []) (held-in, tt)) in
      let b : seen v decides ≡ map v (without e held) = block-seen v (without e held) (without-writable e held held-writable) (keeps (without e held ∷ []) (without-each (λ x. In fs x) e held held-in, tt)) in
      let m : map v held ≡ map v (without e held) = sym a ∙ ap (seen v) k ∙ b in
      let t : has (map v held) (v e) ≡ true = has-view v view held e ∙ place-has e gs has-entry in
      let f : has (map v (without e held)) (v e) ≡ false = has-view v view (without e held) e ∙ has-without e held in
      not_both _ (subst (λ (x : List RawEnt). has x (v e) ≡ true) m t) f

  pub all-changes : AreChanges writes old
  all-changes =
      let s : suc at - 1 ≡ at = omega arith in
      let a : AreChanges pass old = rising-changes old left [] 1 (sym left-count) refl in
      let p : at < length gs = place-within e gs has-entry in
      let l = pack-length k fs in
      let n = length-map gs block_of in
      let o : slice_set left (suc at - 1) decides ≡ right = ap (λ (i : ℕ). slice_set left i decides) s ∙ out in
      let b : AreChanges (rising 1 right new) (slice_set left (suc at - 1) decides) = subst (λ (t : List Block). AreChanges (rising 1 right new) t) (sym o) (rising-changes right new [] 1 (right-count ∙ sym new-count) refl) in
      let c : AreChanges (record { vbn = suc at; block = decides } ∷ rising 1 right new) left = ((omega arith, omega arith, decides-changes), b) in
      changes-append pass _ old a (subst (λ (t : List Block). AreChanges (record { vbn = suc at; block = decides } ∷ rising 1 right new) t) (sym (rising-whole old left [] 1 (sym left-count) refl)) c)

-- the writes of a removal keep its law
pub removes : (old : List Block) (fs : List RawEnt) (e : RawEnt) (ws : List Move) → Each IsLong old → directory old ≡ Ok fs → has fs e ≡ true → Sound fs → plain e ≡ e
    → ws ≡ remove_writes old (pack name_of (length old) fs) e (pack name_of (length old) (without e fs)) → Removes old e ws
removes old fs e ws long read there sound key is =
    subst (λ (t : List Move). Removes old e t) (sym is) (record {
      first = length pass-writes;
      packing = ap (λ r. length (rising 1 old (packed_as old r))) (sym read);
      decides = omega (arith, length-append pass-writes (record { vbn = suc (place e (pack name_of (length old) fs)); block = block_of (without e (slice_index_or (pack name_of (length old) fs) (place e (pack name_of (length old) fs)) [])) } ∷ rising 1 (map block_of (map (without e) (pack name_of (length old) fs))) (map block_of (pack name_of (length old) (without e fs)))));
      before = λ n h. let b = before-decided plain plain-view old fs e read base there sound plainly-kept n h in ap plainly b.1 ∙ ap Ok b.2 ∙ sym (ap plainly read);
      after = λ n h. let a = after-decided plain plain-view old fs e read base there sound plainly-kept n h in ap plainly a.1 ∙ ap Ok (a.2 ∙ ap (λ (x : RawEnt). without x (map plain fs)) key) ∙ sym (ap (λ r. on_entries (without e) (plainly r)) read);
      kept_before = λ u n h. let b = before-decided (λ x. x) own-view old fs e read (own-base u) there sound (own-kept u) n h in b.1 ∙ ap Ok (sym (map-own b.0) ∙ b.2 ∙ map-own fs) ∙ sym read;
      kept_after = λ u n h. let a = after-decided (λ x. x) own-view old fs e read (own-base u) there sound (own-kept u) n h in a.1 ∙ ap Ok (sym (map-own a.0) ∙ a.2 ∙ ap (without e) (map-own fs)) ∙ sym (ap (on_entries (without e)) read);
      whole = whole-rest plain plain-view old fs e read base there sound plainly-kept ∙ sym (ap (λ (r : Result (List RawEnt) DirFault). packed_as old (on_entries (without e) r)) read);
      changes = all-changes plain plain-view old fs e read base there sound plainly-kept;
    })
  where
    pass-writes : List Move
    pass-writes = rising 1 old (map block_of (pack name_of (length old) fs))

    base : Reads (map plain fs) (map (seen plain) old)
    base = based plain plain-view old fs long read (seen-plain old fs read)

    plainly-kept : (gs : List (List RawEnt)) → Each (λ g. Each (λ x. In fs x) g) gs → Keeps plain gs
    plainly-kept gs n = keeps-plain gs

    own-base : IsUniform (all_entries old) → Reads (map (λ x. x) fs) (map (seen (λ x. x)) old)
    own-base u = based (λ x. x) own-view old fs long read (seen-own old fs read u)

    own-kept : IsUniform (all_entries old) → (gs : List (List RawEnt)) → Each (λ g. Each (λ x. In fs x) g) gs → Keeps (λ x. x) gs
    own-kept u gs n = keeps-uniform fs gs (read-uniform old fs read u) n

-- the entry is in a block of the packing
pub remove-there : (k : ℕ) (fs : List RawEnt) (e : RawEnt) → over name_of k fs ≡ [] → has fs e ≡ true → place e (pack name_of k fs) < length (pack name_of k fs)
remove-there k fs e fits there = place-within e _ (subst (λ (t : List RawEnt). has t e ≡ true) (sym (pack-joined k fs fits)) there)
