-- What a catalogue shows of the streams of a volume.
use Rattle.std.proofs.Common.{◌≡◌, ◌∙◌, ◌+◌, ◌-◌, ◌*◌, ◌/◌, ◌%◌, ◌==◌, ◌&&◌, ◌||◌, nat_lt, nat_le, ℕ, Bool, true, false, not, List, [], ◌∷◌, ◌++◌, length, take, map, slice_get, Option, Some, None, Result, Ok, Err, refl, sym, ap, inl, inr, arith, append-nil}
use Rattle.std.specs.Prelude.{if◌then◌else◌, replicate, option_map}
use Rattle.std.specs.List.{range_with_len}
use Rattle.std.proofs.lemmas.Bool.{cases_lt, or_parts, and_from, lt-ltb, le-leb, le-ltb, lt-leb, eq-eqb, ne_eqb}
use Rattle.std.proofs.lemmas.List.{length-take}
use Rattle.std.proofs.lemmas.List.FromFn.{length-map-range_with_len}
use Rattle.std.proofs.lemmas.List.Sums.{sum_by-cons}
use Rattle.std.proofs.lemmas.Option.{slice_get_past}
use Rattle.std.proofs.Math.Nat.{zero-mod, add-mod-mod, mod-add-div'}
use Rattle.base_words.specs.Fields.{Block}
use Rattle.base_words.specs.Tables.{zeros}
use Rattle.fx_home.specs.declared.home.Home.{Home}
use Rattle.fx_home.specs.declared.home.HomeFault.{HomeFault}
use Rattle.fx_home.specs.Homes.{home_read}
use Rattle.fx_header.specs.declared.run.Run.{Run}
use Rattle.fx_header.specs.declared.slot.Hdr.{Hdr}
use Rattle.fx_header.specs.declared.slot.Slot.{Slot as Head}
use Rattle.fx_header.specs.declared.slot.Slot.TheVariants as head
use Rattle.fx_header.specs.declared.slot.HeaderFault.{HeaderFault}
use Rattle.fx_header.specs.Pointers.{blocks_in}
use Rattle.plain_cat.specs.declared.cat.Cat.{Cat}
use Rattle.plain_cat.specs.declared.cat.File.{File}
use Rattle.plain_cat.specs.declared.cat.Slot.{Slot}
use Rattle.plain_rules.specs.Lookups.{file_in, of_seq, in_use}
use Rattle.vol_parts.specs.Volumes.{Volume, volume, IsNumber, factor, first_head, fields_in, fields, runs, body}
use Rattle.vol_parts.specs.Catalogues.{is_structure, file_of, slot_with, slot_of, files_of, catalogue}
use Rattle.vol_parts.specs.Conditions.{HasRunsInside}
use Rattle.vol_parts.specs.Findings.{home_at}
use Rattle.vol_parts.proofs.Runs.{Inside, inside-others}
use Rattle.vol_parts.proofs.Sizes.{length-body}
use Rattle.vol_faults.proofs.CountLemmas.{on-bounds}
use Rattle.vol_spell.proofs.Picking.{get_along}
use Rattle.vol_analyze.proofs.Weakly.{IsWeak, home-read, cat-told, weak-volume, runs-inside}
use Rattle.vol_records.proofs.WholeFiles.{file-whole}
use Rattle.vol_records.specs.Streams.{shown_blocks, bytes_before, stream_in, plain_fields, plain_file, stream_of, stream_by, plain_only, shown_stream, ShowsStreams}

-- ---- sizes

-- runs of whole clusters have whole clusters together
whole-blocks : (v : Volume) (rs : List Run) → Inside v rs → blocks_in rs % factor v ≡ 0
whole-blocks v [] inside = zero-mod (factor v)
whole-blocks v (r ∷ rs) inside =
    let here = (on-bounds v r (or_parts _ _ inside).0).1 in
    let others = whole-blocks v rs (inside-others v r rs inside) in
    let none : r.count + 0 ≡ r.count = omega arith in
    ap (λ k. k % factor v) (sum_by-cons (λ (s : Run). s.count) r rs)
    ∙ sym (add-mod-mod r.count (blocks_in rs) (factor v))
    ∙ ap (λ k. (r.count + k) % factor v) others
    ∙ ap (λ k. k % factor v) none
    ∙ here

left-out : (a b c : ℕ) → a ≡ 0 → a + b ≡ c → b ≡ c
left-out a b c none e = omega arith

-- the clusters of a file are its blocks
clusters-blocks : (v : Volume) (n : ℕ) (f : Hdr) → IsWeak v → IsNumber v n → fields v n ≡ Some f → f.blocks / factor v * factor v ≡ length (body v n)
clusters-blocks v n f weak number e =
    let same = file-whole v n f weak number e in
    let inside : HasRunsInside v n = (runs-inside v weak).inside n number in
    let whole : f.blocks % factor v ≡ 0 = ap (λ k. k % factor v) (same ∙ length-body v n) ∙ whole-blocks v (runs v n) inside.inside in
    left-out (f.blocks % factor v) (f.blocks / factor v * factor v) f.blocks whole (mod-add-div' f.blocks (factor v)) ∙ same

and_else : (a b : Bool) → b ≡ false → (a && b) ≡ false
and_else true b e = e
and_else false b e = refl

-- ---- blocks

-- zeros behind the blocks that count as written
filled : (mark room : ℕ) (bs : List Block) → room ≡ length bs
    → (if mark == 0 then bs else take (mark - 1) bs) ++ replicate (room - length (if mark == 0 then bs else take (mark - 1) bs)) zeros ≡ shown_blocks mark bs
unfolding shown_blocks
filled mark room bs size = by_mark (mark == 0) where
  by_mark : (t : Bool)
      → (if t then bs else take (mark - 1) bs) ++ replicate (room - length (if t then bs else take (mark - 1) bs)) zeros
      ≡ (if t then bs else take (mark - 1) bs ++ replicate (length bs - (mark - 1)) zeros)
  by_mark true = let none : room - length bs ≡ 0 = omega arith in rw none (append-nil bs)
  by_mark false =
      let len = length-take (mark - 1) bs in
      let rest : room - length (take (mark - 1) bs) ≡ length bs - (mark - 1) = omega arith in
      ap (λ k. take (mark - 1) bs ++ replicate k zeros) rest

-- a file that is no directory and holds no structure of the volume
file-shown : (n room : ℕ) (f : Hdr) (bs : List Block) (is_dir structure : Bool) → is_dir ≡ false → structure ≡ false → room ≡ length bs
    → (if is_dir || structure then [] else if f.mark == 0 then bs else take (f.mark - 1) bs)
    ++ replicate (room - length (if is_dir || structure then [] else if f.mark == 0 then bs else take (f.mark - 1) bs)) zeros
    ≡ shown_blocks f.mark bs
file-shown n room f bs true structure d s size = absurd (let e : true ≡ false = d in cc)
file-shown n room f bs false true d s size = absurd (let e : true ≡ false = s in cc)
file-shown n room f bs false false d s size = filled f.mark room bs size

stream-shown : (v : Volume) (n : ℕ) (f : Hdr) → is_structure n ≡ false → IsWeak v → IsNumber v n → fields v n ≡ Some f → f.dir ≡ false
    → stream_in f (body v n) ≡ shown_stream (factor v) (file_of (factor v) n f (body v n))
unfolding stream_in shown_stream
stream-shown v n f plain weak number e d =
    ap (λ bs. bytes_before f.end f.byte bs)
    (sym (file-shown n (f.blocks / factor v * factor v) f (body v n) f.dir (is_structure n) d plain (clusters-blocks v n f weak number e)))

-- ---- files

-- what is told of a slot
slot-shown : (v : Volume) (n seq : ℕ) (r : Result Head HeaderFault) → first_head v n ≡ r → is_structure n ≡ false → IsWeak v → IsNumber v n
    → option_map (λ (f : Hdr). stream_in f (body v n)) (plain_fields seq (fields_in r))
    ≡ option_map (shown_stream (factor v)) (plain_only (of_seq seq (file_in (Some (slot_with (factor v) n r (body v n))))))
slot-shown v n seq (Ok (head.Used f)) e plain weak number = by_tests (f.seq == seq) f.dir refl where
  file : File
  file = file_of (factor v) n f (body v n)

  shown_if : Bool → Option (List ℕ)
  shown_if is_dir = option_map (shown_stream (factor v)) (if is_dir then None else Some file)

  by_tests : (same is_dir : Bool) → f.dir ≡ is_dir
      → option_map (λ (g : Hdr). stream_in g (body v n)) (if same && not is_dir then Some f else None)
      ≡ option_map (shown_stream (factor v)) (plain_only (if same then Some file else None))
  by_tests true true d = sym (ap shown_if d)
  by_tests true false d = ap (λ s. Some s) (stream-shown v n f plain weak number (ap fields_in e) d) ∙ sym (ap shown_if d)
  by_tests false is_dir d = refl
slot-shown v n seq (Ok (head.Free last)) e plain weak number = refl
slot-shown v n seq (Err fault) e plain weak number = refl

-- what is told of a number
number-shown : (v : Volume) (n seq : ℕ) → is_structure n ≡ false → IsWeak v
    → stream_of v n seq ≡ option_map (shown_stream (catalogue v).factor) (plain_only (in_use (catalogue v) (record { num = n; seq = seq })))
unfolding plain_file catalogue files_of slot_of
number-shown v n seq plain weak = elim (cases_lt 0 n) [
  | inl some ↦ elim (cases_lt v.home.files n) [
    | inl beyond ↦
        let lacks = and_else (nat_lt 0 n) (nat_le n v.home.files) (lt-leb n v.home.files beyond) in
        let past = slice_get_past slots (n - 1) (let size = length-map-range_with_len (slot_of v) 1 v.home.files in omega arith) in
        ap told lacks ∙ sym (ap (λ t. shows t (slice_get slots (n - 1))) (ne_eqb n 0 (λ e. omega arith)) ∙ ap (λ s. shows false s) past)
    | inr within ↦
        let has = and_from (nat_lt 0 n) (nat_le n v.home.files) (lt-ltb 0 n some) (le-leb n v.home.files within) in
        let same : 1 + (n - 1) ≡ n = omega arith in
        let there = get_along (slot_of v) 1 v.home.files (n - 1) (omega arith) ∙ ap (λ k. Some (slot_of v k)) same in
        let number : IsNumber v n = record { from = omega arith; to = within } in
        ap told has ∙ slot-shown v n seq (first_head v n) refl plain weak number
        ∙ sym (ap (λ t. shows t (slice_get slots (n - 1))) (ne_eqb n 0 (λ e. omega arith)) ∙ ap (λ s. shows false s) there)
  ]
  | inr none ↦
      let zeroth : n ≡ 0 = omega arith in
      ap told (ap (λ t. t && nat_le n v.home.files) (le-ltb 0 n none)) ∙ sym (ap (λ t. shows t (slice_get slots (n - 1))) (eq-eqb n 0 zeroth))
] where
  slots : List Slot
  slots = map (slot_of v) (range_with_len 1 v.home.files)

  told : Bool → Option (List ℕ)
  told is_number = option_map (λ (f : Hdr). stream_in f (body v n)) (if is_number then plain_fields seq (fields v n) else None)

  shows : Bool → Option Slot → Option (List ℕ)
  shows is_zero slot = option_map (shown_stream (factor v)) (plain_only (of_seq seq (file_in (if is_zero then None else slot))))

-- of a volume that tells a catalogue
pub streams-shown : ShowsStreams
streams-shown bs c n seq at plain = by_home (home_read (home_at bs)) refl where
  by_home : (r : Result Home HomeFault) → home_read (home_at bs) ≡ r
      → stream_by bs r n seq ≡ option_map (shown_stream c.factor) (plain_only (in_use c (record { num = n; seq = seq })))
  by_home (Ok home) e =
      let v = volume home bs in
      number-shown v n seq plain (weak-volume bs c home at e)
      ∙ ap (λ (d : Cat). option_map (shown_stream d.factor) (plain_only (in_use d (record { num = n; seq = seq })))) (sym (cat-told bs c home at e))
  by_home (Err fault) e = absurd (home-read bs c fault at e)
