-- Bytes are stored safely.
use Rattle.std.proofs.Common.{◌≡◌, ◌∙◌, ◌≤◌, ◌<◌, ◌+◌, ◌-◌, ◌*◌, ◌/◌, ◌%◌, ◌++◌, ◌⊎◌, inl, inr, ℕ, zero, suc, Bool, true, false, cond, not, List, [], ◌∷◌, Option, Some, None, Ok, Err, All, length, take, nat_lt, nat_le, slice_get, slice_set, is_some, refl, sym, ap, subst, arith}
use Rattle.std.specs.Prelude.{◌==◌, ◌&&◌, ◌||◌, replicate, option_map}
use Rattle.std.specs.List.{flat_map}
use Rattle.std.proofs.lemmas.Bool.{and_parts, eqb-true, eq-eqb, leb-true}
use Rattle.std.proofs.lemmas.Bool.Decides.{nat_tests}
use Rattle.std.proofs.Math.Nat.{mod-lt, div-add-mod}
use Rattle.base_words.specs.Fields.{Block, IsBytes, AreWholeBlocks}
use Rattle.base_words.specs.Lists.{written}
use Rattle.base_words.specs.Tables.{zeros}
use Rattle.base_words.proofs.Listing.{has_at, all_from}
use Rattle.base_words.proofs.ListWrites.{written_joined}
use Rattle.fx_home.specs.declared.home.Home.{Home}
use Rattle.fx_home.specs.Homes.{home_read}
use Rattle.fx_header.specs.declared.slot.Hdr.{Hdr}
use Rattle.fx_header.specs.declared.slot.Slot.TheVariants as head
use Rattle.fx_header.specs.declared.slot.HeaderFault.TheVariants.{BadSum}
use Rattle.fx_header.specs.Headers.{header_read}
use Rattle.fx_header.specs.Pointers.{lbns_in}
use Rattle.plain_cat.specs.declared.cat.Cat.{Cat}
use Rattle.plain_cat.specs.declared.cat.File.{File}
use Rattle.plain_rules.specs.Lookups.{file_at, in_use, of_seq}
use Rattle.plain_rules.specs.Changes.{with_file}
use Rattle.vol_faults.specs.Conditions.{IsSize}
use Rattle.vol_faults.specs.Free.{IsGeometryBy}
use Rattle.vol_parts.specs.declared.finding.Finding.{Finding}
use Rattle.vol_parts.specs.declared.geometry.Geometry.{Geometry}
use Rattle.vol_parts.specs.declared.geometry.Part.TheVariants.{Header}
use Rattle.vol_parts.specs.Volumes.{Volume, volume, IsNumber, factor, head as head_of, fields, runs, header_lbn, header_at, geometry_of}
use Rattle.vol_parts.specs.Catalogues.{is_structure, file_of, written_blocks, catalogue}
use Rattle.vol_parts.specs.Findings.{home_at, Weak, IsFirstFatal, Accepts, AreWarningsBy, IsCatalogueBy, CatOf}
use Rattle.vol_parts.proofs.Alone.{first-is}
use Rattle.vol_parts.proofs.Sizes.{fields-head}
use Rattle.vol_spell.specs.declared.owner.Owner.TheVariants.{InFile}
use Rattle.vol_spell.specs.Reading.{IsFileNumber, header_place, header_block, head_told, told_of, body_places}
use Rattle.vol_spell.proofs.Frames.{of_body, on_volume}
use Rattle.vol_spell.proofs.Parts.{part_owned}
use Rattle.vol_mends.specs.Told.{IsTold}
use Rattle.vol_mends.proofs.Views.{v_runs}
use Rattle.vol_mends.proofs.WriteTold.{Owned, owned, one_cat}
use Rattle.vol_spell.specs.Lbns.{is_file, lbns_by, lbns_at}
use Rattle.vol_spell.specs.Files.{with_sizes, blocks_told, IsFileThere, IsResized}
use Rattle.vol_spell.proofs.HeadSlots.{file_told_at}
use Rattle.vol_spell.proofs.HeadFiles.{not_structure}
use Rattle.vol_spell.proofs.FilePlaces.{places, size, count}
use Rattle.vol_spell.proofs.Heads.{reads_first}
use Rattle.vol_records.specs.declared.types.StoreFault.TheVariants as refusal
use Rattle.vol_records.specs.Keeping.{AreAccepted}
use Rattle.vol_records.specs.Making.{placed}
use Rattle.vol_records.specs.Streams.{end_at, plain_only, all_blocks, shown_stream}
use Rattle.vol_records.specs.Storing.{of_sequence, used_file, refusal_by, store_refusal, chunks, blocks_for, stored, IsStored, IsUntouched, IsSafe, stored_header, store_writes, writes_by, writes_at}
use Rattle.vol_records.proofs.Chunks.{length-chunks, whole_chunks, bytes_back, enough, no_more}
use Rattle.vol_records.proofs.DataKeeps.{data_at}
use Rattle.vol_records.proofs.Shown.{streams-shown}
use Rattle.vol_records.proofs.StoreClean.{low_blocks}
use Rattle.vol_records.proofs.StoreSteps.{IsBare, header_made}
use Rattle.vol_records.proofs.StoreWrites.{AreWritten, are_written, through}

-- ---- what is promised

-- Bytes can be stored in the file of number n and sequence seq of these blocks, which are accepted.
pub record CanStore (home : Home) (bs : List Block) (n seq : ℕ) (bytes : List ℕ) : Type 0 where
  pub size : IsSize (length bs)
  pub whole : AreWholeBlocks bs
  pub accepted : Accepts bs
  pub read : home_read (home_at bs) ≡ Ok home
  pub free : store_refusal (volume home bs) n seq (length bytes) ≡ None
  pub ranged : IsBytes bytes

-- The blocks of the file and its header are on the volume, and the bytes have room. After each number of the writes the blocks are
-- accepted, and tell the old catalogue or that with the bytes stored; after all of them they tell that.
pub record StoresSafely (home : Home) (bs : List Block) (n seq : ℕ) (bytes : List ℕ) : Type 0 where
  pub number : IsNumber (volume home bs) n
  pub inside : All (λ l. l < length bs) (lbns_in (runs (volume home bs) n))
  pub room : blocks_for (length bytes) ≤ length (lbns_in (runs (volume home bs) n))
  pub few : length bytes ≤ 33554432
  pub header : header_lbn (volume home bs) n < length bs
  pub writes : writes_at bs n bytes ≡ store_writes (volume home bs) n bytes
  pub safe : (k : ℕ) → IsSafe bs n seq bytes (written (take k (writes_at bs n bytes)) bs)
  pub all : IsStored bs (written (writes_at bs n bytes) bs) n seq bytes

abbrev pub StoringIsSafe : Type 0
StoringIsSafe = (home : Home) (bs : List Block) (n seq : ℕ) (bytes : List ℕ) → CanStore home bs n seq bytes → StoresSafely home bs n seq bytes

-- ---- what is not refused

-- the fields of a file in which bytes of this length are stored
record Allowed (n len : ℕ) (o : Option Hdr) : Type 0 where
  hdr : Hdr
  is : o ≡ Some hdr
  above : 11 < n
  flat : hdr.dir ≡ false
  mark : hdr.mark ≡ 1
  room : len ≤ 512 * hdr.blocks

or_none : (a b : Bool) → a || b ≡ false → (a ≡ false) × (b ≡ false)
or_none true b e = absurd (cc e)
or_none false b e = (refl, e)

tests : (a b d : Bool) → cond a (Some refusal.NoPriv) (cond (not b) (Some refusal.NotEmpty) (cond d (Some refusal.NoRoom) None)) ≡ None → (a ≡ false) × ((b ≡ true) × (d ≡ false))
tests true b d e = absurd (cc e)
tests false false d e = absurd (cc e)
tests false true true e = absurd (cc e)
tests false true false e = (refl, (refl, refl))

no_less : (a b : ℕ) → nat_lt a b ≡ false → b ≤ a
no_less a b e = grind (arith, nat_tests)

no_low : (n : ℕ) → nat_le n 11 ≡ false → 11 < n
no_low n e = grind (arith, nat_tests)

allowed : (n len : ℕ) (o : Option Hdr) → refusal_by n len o ≡ None → Allowed n len o
allowed n len None e = absurd (cc e)
allowed n len (Some f) e =
    let r = tests (nat_le n 11 || f.dir) (f.mark == 1) (nat_lt (512 * f.blocks) len) e in
    let low = or_none (nat_le n 11) f.dir r.0 in
    record { hdr = f; is = refl; above = no_low n low.0; flat = low.1; mark = eqb-true f.mark 1 r.1.0; room = no_less (512 * f.blocks) len r.1.1 }

-- a number of the volume, and the header of its file
record IsUsed (v : Volume) (n seq : ℕ) (f : Hdr) : Type 0 where
  number : IsNumber v n
  fields : fields v n ≡ Some f
  right : f.seq ≡ seq

of_sequence_is : (seq : ℕ) (o : Option Hdr) (f : Hdr) → of_sequence seq o ≡ Some f → (o ≡ Some f) × (f.seq ≡ seq)
of_sequence_is seq None f e = absurd (cc e)
of_sequence_is seq (Some g) f e = by_seq (g.seq == seq) refl e where
  by_seq : (b : Bool) → (g.seq == seq) ≡ b → cond b (Some g) None ≡ Some f → (Some g ≡ Some f) × (f.seq ≡ seq)
  by_seq true t h = (h, (let same : g ≡ f = cc h in ap (λ (x : Hdr). x.seq) (sym same) ∙ eqb-true g.seq seq t))
  by_seq false t h = absurd (cc h)

used_is : (v : Volume) (n seq : ℕ) (f : Hdr) → used_file v n seq ≡ Some f → IsUsed v n seq f
unfolding used_file
used_is v n seq f e = by_number (nat_lt 0 n && nat_le n v.home.files) refl e where
  by_number : (b : Bool) → nat_lt 0 n && nat_le n v.home.files ≡ b → cond b (of_sequence seq (fields v n)) None ≡ Some f → IsUsed v n seq f
  by_number false t h = absurd (cc h)
  by_number true t h =
      let p = and_parts (nat_lt 0 n) (nat_le n v.home.files) t in
      let r = of_sequence_is seq (fields v n) f h in
      let some : nat_lt 0 n ≡ true = p.0 in
      record { number = record { from = grind (arith, nat_tests); to = leb-true n v.home.files p.1 }; fields = r.0; right = r.1 }

-- a file in use has the number
used_listed : (v : Volume) (n seq : ℕ) (f : Hdr) → used_file v n seq ≡ Some f → is_file v n ≡ true
unfolding is_file
used_listed v n seq f e =
    let u = used_is v n seq f e in
    let from = u.number.from in
    let to = u.number.to in
    and_true (nat_lt 0 n) (nat_le n v.home.files && is_some (fields v n)) (grind (arith, nat_tests)) (and_true (nat_le n v.home.files) (is_some (fields v n)) (grind (arith, nat_tests)) (ap is_some u.fields))
  where
    and_true : (a b : Bool) → a ≡ true → b ≡ true → a && b ≡ true
    and_true a b x y = rw (x, y) refl

-- where nothing is refused, the number is one of the volume's
pub number_of : (v : Volume) (n seq len : ℕ) → store_refusal v n seq len ≡ None → IsNumber v n
unfolding store_refusal
number_of v n seq len e = let a = allowed n len (used_file v n seq) e in (used_is v n seq a.hdr a.is).number

-- and the LBNs of the blocks of its file are told
pub lbns_told : (home : Home) (bs : List Block) (n seq len : ℕ) → home_read (home_at bs) ≡ Ok home → store_refusal (volume home bs) n seq len ≡ None → lbns_at bs n ≡ Some (lbns_in (runs (volume home bs) n))
unfolding store_refusal
lbns_told home bs n seq len read free =
    let v = volume home bs in
    let a = allowed n len (used_file v n seq) free in
    ap (λ r. lbns_by bs r n) read ∙ ap (λ t. cond t (Some (lbns_in (runs v n))) None) (used_listed v n seq a.hdr a.is)

-- the header that tells fields can be read
head_reads : (v : Volume) (n : ℕ) (f : Hdr) → fields v n ≡ Some f → header_read (header_at v n) ≡ Ok (head.Used f)
unfolding head_of
head_reads v n f e = by_place (nat_lt (header_lbn v n) (length v.blocks)) (fields-head v n f e) where
  by_place : (b : Bool) → cond b (header_read (header_at v n)) (Err BadSum) ≡ Ok (head.Used f) → header_read (header_at v n) ≡ Ok (head.Used f)
  by_place true h = h
  by_place false h = absurd (cc h)

-- ---- what shows by a mark

shown_by : (n k : ℕ) (f : Hdr) (blocks : List Block) → f.dir ≡ false → is_structure n ≡ false → written_blocks n (record f { mark = k + 1 }) blocks ≡ take k blocks
shown_by n k f blocks flat plain =
    let some : (k + 1 == 0) ≡ false = grind (arith, nat_tests) in
    let less : k + 1 - 1 ≡ k = omega arith in
    ap (λ d. cond (d || is_structure n) [] (cond (k + 1 == 0) blocks (take (k + 1 - 1) blocks))) flat
    ∙ (ap (λ s. cond (false || s) [] (cond (k + 1 == 0) blocks (take (k + 1 - 1) blocks))) plain
    ∙ (ap (λ b. cond b blocks (take (k + 1 - 1) blocks)) some ∙ ap (λ m. take m blocks) less))

-- the bytes stand in front of the end
back : (factor : ℕ) (f : File) (bytes : List ℕ) → shown_stream factor (stored f bytes) ≡ bytes
unfolding shown_stream end_at
back factor f bytes =
    let len = length bytes in
    let some : (len / 512 + 1 == 0) ≡ false = grind (arith, nat_tests) in
    let parts = div-add-mod len 512 in
    let end : 512 * (len / 512 + 1 - 1) + len % 512 ≡ len = omega (arith, parts) in
    ap (λ b. take (cond b 0 (512 * (len / 512 + 1 - 1) + len % 512)) (flat_map (λ (x : Block). x) (all_blocks factor (stored f bytes)))) some
    ∙ (ap (λ k. take k (flat_map (λ (x : Block). x) (all_blocks factor (stored f bytes)))) end
    ∙ bytes_back (blocks_for len) bytes (replicate (f.clusters * factor - length (chunks (blocks_for len) bytes)) zeros) (enough len))

-- ---- the volume

-- nothing fatal is found in an accepted one
pub accepted_weak : (bs : List Block) → Accepts bs → Weak bs
accepted_weak bs accepted = by_case accepted where
  by_case : ((f : Finding) × IsFirstFatal bs f × ([] ≡ f ∷ [])) ⊎ (Weak bs × AreWarningsBy bs (home_read (home_at bs)) []) → Weak bs
  by_case (inl k) = absurd (cc (k.2))
  by_case (inr k) = k.0

module _ (home : Home) (bs : List Block) (n seq : ℕ) (bytes : List ℕ) (can : CanStore home bs n seq bytes) where
  abbrev v : Volume
  v = volume home bs

  abbrev g : Geometry
  g = geometry_of (volume home bs)

  abbrev c : Cat
  c = catalogue (volume home bs)

  abbrev hb : Block
  hb = header_at (volume home bs) n

  allows : Allowed n (length bytes) (used_file (volume home bs) n seq)
  unfolding store_refusal
  allows = allowed n (length bytes) (used_file v n seq) can.free

  abbrev h : Hdr
  h = allows.hdr

  -- where the blocks of the file stand
  abbrev all_places : List ℕ
  all_places = lbns_in (runs (volume home bs) n)

  used : IsUsed (volume home bs) n seq allows.hdr
  used = used_is v n seq allows.hdr allows.is

  reads : head_told (header_block (geometry_of (volume home bs)) bs n) ≡ Ok (head.Used allows.hdr)
  reads = reads_first (header_block g bs n) allows.hdr (head_reads v n allows.hdr used.fields) (first-is (head_of v n) allows.hdr used.fields).1

  told : IsTold (geometry_of (volume home bs)) bs (catalogue (volume home bs))
  told = record {
    size = can.size;
    whole = can.whole;
    cat = record { weak = accepted_weak bs can.accepted; told = subst (λ r. IsCatalogueBy bs r c) (sym can.read) refl };
    geometry = subst (λ r. IsGeometryBy bs r g) (sym can.read) refl;
  }

  abbrev o : Owned (geometry_of (volume home bs)) bs (catalogue (volume home bs))
  o = owned g bs c told

  abbrev f : File
  f = file_of (geometry_of (volume home bs)).cluster n allows.hdr (blocks_told (geometry_of (volume home bs)) bs n)

  number : IsFileNumber (geometry_of (volume home bs)) n
  number = record { from = used.number.from; to = used.number.to }

  at : file_at (catalogue (volume home bs)) n ≡ Some f
  at = file_told_at g bs o.own c o.spells n allows.hdr number reads

  there : IsFileThere (geometry_of (volume home bs)) (catalogue (volume home bs)) bs n allows.hdr f
  there = record { number = number; above = allows.above; reads = reads; file = at }

  -- its blocks stand where the volume has them
  places_are : lbns_in (told_of (geometry_of (volume home bs)) bs n).runs ≡ lbns_in (runs (volume home bs) n)
  places_are = ap lbns_in (sym (v_runs home.label g bs o.own c o.spells n number))

  bare : IsBare (geometry_of (volume home bs)) o.own (catalogue (volume home bs)) n allows.hdr f (header_at (volume home bs) n) (lbns_in (runs (volume home bs) n)) bs
  bare = record {
    has = record { accepted = can.accepted; told = told; spells = o.spells; outs = o.outs; at = at; flat = allows.flat };
    there = there;
    mark = allows.mark;
    head = refl;
    places = places_are;
  }

  many : length (lbns_in (runs (volume home bs) n)) ≡ h.blocks
  many = ap length (sym places_are) ∙ count g bs o.own c n h f o.spells there ∙ sym (size g bs o.own c n h f o.spells there)

  room : blocks_for (length bytes) ≤ length (lbns_in (runs (volume home bs) n))
  room = let fits = no_more (length bytes) h.blocks allows.room in let e = many in omega (arith, fits, e)

  abbrev cs : List Block
  cs = chunks (blocks_for (length bytes)) bytes

  abbrev front : List (ℕ × Block)
  front = placed (lbns_in (runs (volume home bs) n)) (chunks (blocks_for (length bytes)) bytes)

  wrote : AreWritten (geometry_of (volume home bs)) o.own (catalogue (volume home bs)) n allows.hdr f (header_at (volume home bs) n) (lbns_in (runs (volume home bs) n)) 0 (placed (lbns_in (runs (volume home bs) n)) (chunks (blocks_for (length bytes)) bytes)) (chunks (blocks_for (length bytes)) bytes) bs
  wrote =
      let len = length-chunks (blocks_for (length bytes)) bytes in
      let fits = room in
      are_written g o.own c n h f hb all_places all_places cs 0 bs bare refl (omega (arith, len, fits)) (whole_chunks (blocks_for (length bytes)) bytes can.ranged)

  abbrev mid : List Block
  mid = written (placed (lbns_in (runs (volume home bs) n)) (chunks (blocks_for (length bytes)) bytes)) bs

  -- the header's sizes are within the file
  sizes : IsResized (geometry_of (volume home bs)) mid n allows.hdr f (stored f bytes)
  sizes =
      let blocks = size g bs o.own c n h f o.spells there in
      let fits = no_more (length bytes) h.blocks allows.room in
      let byte : length bytes % 512 < 512 = mod-lt (length bytes) (let few : 0 < 512 = omega arith in few) in
      let k = blocks_for (length bytes) in
      let len = length-chunks k bytes in
      let first : take (0 + length cs) (blocks_told g mid n) ≡ cs = wrote.blocks in
      record {
        same = refl;
        mark = omega (arith, blocks, fits);
        end = (let room = allows.room in omega (arith, blocks, room));
        byte = omega (arith, byte);
        written = shown_by n k h (blocks_told g mid n) allows.flat (not_structure n allows.above) ∙ (ap (λ m. take m (blocks_told g mid n)) (let z : k ≡ 0 + length cs = omega (arith, len) in z) ∙ first);
      }

  after : AreAccepted (geometry_of (volume home bs)) (slice_set mid (header_place (geometry_of (volume home bs)) n) (stored_header (header_at (volume home bs) n) (length bytes))) (with_file (catalogue (volume home bs)) n (stored f bytes))
  after =
      let k = blocks_for (length bytes) in
      subst (λ (x : Block). AreAccepted g (slice_set mid (header_place g n) (with_sizes x (stored f bytes))) (with_file c n (stored f bytes))) wrote.all.head
      (header_made g o.own c n h f hb all_places mid wrote.all (k + 1) (length bytes / 512 + 1) (length bytes % 512) cs sizes)

  in_use_is : (x : Cat) (k : File) → file_at x n ≡ Some k → k.seq ≡ seq → in_use x (record { num = n; seq = seq }) ≡ Some k
  in_use_is x k e same = ap (of_seq seq) e ∙ ap (λ b. cond b (Some k) None) (eq-eqb k.seq seq same)

  abbrev all_writes : List ℕ → List (ℕ × Block)
  all_writes ls = placed ls (chunks (blocks_for (length bytes)) bytes) ++ (header_lbn (volume home bs) n, stored_header (header_at (volume home bs) n) (length bytes)) ∷ []

  writes_are : all_writes (lbns_in (runs (volume home bs) n)) ≡ writes_at bs n bytes
  writes_are = ap (λ r. writes_by bs r n bytes) (sym can.read)

  -- the blocks after all of them
  abbrev full : List Block
  full = slice_set mid (header_place (geometry_of (volume home bs)) n) (stored_header (header_at (volume home bs) n) (length bytes))

  all_made : full ≡ written (writes_at bs n bytes) bs
  all_made =
      sym (written_joined front ((header_lbn v n, stored_header hb (length bytes)) ∷ []) bs) ∙ ap (λ (ws : List (ℕ × Block)). written ws bs) writes_are

  stores : IsStored bs full n seq bytes
  stores =
      let a = after in
      let d : Cat = with_file c n (stored f bytes) in
      let here : in_use d (record { num = n; seq = seq }) ≡ Some (stored f bytes) =
      in_use_is d (stored f bytes) (data_at c n f (blocks_for (length bytes) + 1) (length bytes / 512 + 1) (length bytes % 512) cs at) used.right in
      let plain : plain_only (Some (stored f bytes)) ≡ Some (stored f bytes) = ap (λ b. cond b None (Some (stored f bytes))) allows.flat in
      record {
        made = all_made;
        cat = c;
        file = f;
        told = told.cat;
        at = in_use_is c f at used.right;
        accepted = a.accepted;
        left = a.told.cat;
        stream = streams-shown full d n seq a.told.cat (not_structure n allows.above)
            ∙ (ap (λ (x : Option File). option_map (shown_stream d.factor) (plain_only x)) here
            ∙ (ap (λ (x : Option File). option_map (shown_stream d.factor) x) plain ∙ ap (λ (xs : List ℕ). Some xs) (back d.factor f bytes)));
      }

  untouched : (k : ℕ) → IsBare g o.own (catalogue (volume home bs)) n allows.hdr f (header_at (volume home bs) n) (lbns_in (runs (volume home bs) n)) (written (take k (writes_at bs n bytes)) bs)
      → IsUntouched bs (written (take k (writes_at bs n bytes)) bs) n bytes
  untouched k b = record {
    count = k;
    made = refl;
    accepted = b.has.accepted;
    left = λ d t. subst (λ (y : Cat). CatOf (written (take k (writes_at bs n bytes)) bs) y) (sym (one_cat bs d c t told.cat)) b.has.told.cat;
  }

  -- after each number of the writes the file shows nothing still, or they are all made
  abbrev AreSafe : List Block → Type 0
  AreSafe x = IsBare g o.own (catalogue (volume home bs)) n allows.hdr f (header_at (volume home bs) n) (lbns_in (runs (volume home bs) n)) x ⊎ (x ≡ full)

  last : (k : ℕ) → AreSafe (written (take k ((header_lbn (volume home bs) n, stored_header (header_at (volume home bs) n) (length bytes)) ∷ [])) mid)
  last zero = inl wrote.all
  last (suc zero) = inr refl
  last (suc (suc k)) = inr refl

  each : (k : ℕ) → AreSafe (written (take k (writes_at bs n bytes)) bs)
  each k = subst (λ (ws : List (ℕ × Block)). AreSafe (written (take k ws) bs)) writes_are
      (through (λ x. AreSafe x) front ((header_lbn v n, stored_header hb (length bytes)) ∷ []) bs (λ m. inl (wrote.bare m)) last k)

  safe : (k : ℕ) → IsSafe bs n seq bytes (written (take k (writes_at bs n bytes)) bs)
  safe k = by_case (each k) where
    by_case : AreSafe (written (take k (writes_at bs n bytes)) bs) → IsSafe bs n seq bytes (written (take k (writes_at bs n bytes)) bs)
    by_case (inl bare) = inl (untouched k bare)
    by_case (inr done) = inr (subst (λ (x : List Block). IsStored bs x n seq bytes) (sym done) stores)

  whole : IsStored bs (written (writes_at bs n bytes) bs) n seq bytes
  whole = subst (λ (x : List Block). IsStored bs x n seq bytes) all_made stores

  each_inside : (k l : ℕ) → slice_get (lbns_in (runs (volume home bs) n)) k ≡ Some l → l < length bs
  each_inside k l e = (of_body g bs o.own c o.spells n l number (has_at (body_places n (told_of g bs n)) k l (ap (λ (ls : List ℕ). slice_get ls k) (places g bs o.own c n h f o.spells there ∙ places_are) ∙ e))).within

  pub stores_safely : StoresSafely home bs n seq bytes
  stores_safely = record {
    number = used.number;
    inside = all_from (λ l. l < length bs) all_places each_inside;
    room = room;
    few = (let fits = allows.room in let e = many in let top = low_blocks g o.own c n h f bs o.spells there in omega (arith, fits, e, top));
    header = on_volume g bs o.own c o.spells (header_place g n) (InFile 1) (part_owned g bs o.own c o.spells (Header n) number);
    writes = ap (λ r. writes_by bs r n bytes) can.read;
    safe = safe;
    all = whole;
  }

pub storing_is_safe : StoringIsSafe
storing_is_safe = stores_safely
