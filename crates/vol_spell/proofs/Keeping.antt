-- The kinds of writes.
use Rattle.std.proofs.Common.{◌≡◌, ◌≢◌, ◌<◌, ◌+◌, ◌*◌, ◌-◌, ◌/◌, ◌⊎◌, ℕ, zero, suc, Bool, true, false, List, [], ◌∷◌, Option, Some, length, map, slice_get, slice_set, refl, sym, ap, subst, ◌∙◌, inl, inr, arith, length-set, cond}
use Rattle.std.specs.Prelude.{◌↔◌, ◌==◌, count_by, Result, Ok, Err}
use Rattle.base_words.specs.Fields.{Block, IsWholeBlock, AreWholeBlocks}
use Rattle.fx_header.specs.declared.run.Run.{Run}
use Rattle.fx_header.specs.declared.slot.Slot.{Slot as Head}
use Rattle.fx_header.specs.declared.slot.Slot.TheVariants as head
use Rattle.fx_header.specs.declared.slot.HeaderFault.{HeaderFault}
use Rattle.fx_header.specs.Pointers.{lbns_in}
use Rattle.fx_quota.specs.declared.types.Row.{Row}
use Rattle.plain_cat.specs.declared.cat.Cat.{Cat}
use Rattle.plain_cat.specs.declared.cat.Slot.{Slot}
use Rattle.plain_cat.specs.declared.cat.Slot.TheVariants as slot
use Rattle.plain_rules.specs.Lookups.{clusters_in}
use Rattle.plain_rules.specs.Changes.{with_slot}
use Rattle.vol_spell.specs.declared.owner.Owner.{Owner}
use Rattle.vol_spell.specs.declared.owner.Owner.TheVariants.{Free, InFile, Outside, Leaked}
use Rattle.base_words.specs.Lists.{Has, Once}
use Rattle.vol_spell.specs.Owners.{Owners, Moves, OwnersMove, IsFileMove, IsSpaceMove, IsDeathMove}
use Rattle.vol_spell.specs.Counts.{is_same_owner}
use Rattle.vol_spell.proofs.Moving.{owner_stays}
use Rattle.base_words.proofs.Listing.{has_at, same_or_not}
use Rattle.vol_spell.proofs.Placing.{blocks_stay, blocks_set, index-set_here}
use Rattle.vol_parts.specs.declared.geometry.Geometry.{Geometry}
use Rattle.vol_parts.specs.declared.geometry.Part.TheVariants.{Header, IndexBitmap, Storage, Quota}
use Rattle.vol_parts.specs.Parts.{part_of}
use Rattle.vol_parts.specs.Volumes.{Told}
use Rattle.vol_parts.specs.Catalogues.{is_structure, slot_with, rows_sorted}
use Rattle.vol_spell.specs.Reading.{IsFileNumber, total_of, owner_at, header_place, header_block, head_told, told_of, body_places, body_blocks, cluster_bit, number_bit, rows_told}
use Rattle.vol_spell.specs.Spelling.{IsHead, IsBlank, Tells, IsStructure, Spells}
use Rattle.vol_spell.specs.Kinds.{OutsideWrite, QuotaWrite, with_rows, StorageWrite, IndexWrite, IsHeaderFor, HeaderWrite, IsSlotFor, SlotWrite, IsBodyFor, BodyWrite, with_leaks, DeathLeaks}
use Rattle.vol_spell.proofs.Runs.{has_cluster}
use Rattle.vol_spell.proofs.Heads.{none_told, told_stays}
use Rattle.vol_spell.proofs.Parts.{differ, low, told, slot_number, part_owned, part_owner, part_only}
use Rattle.vol_spell.proofs.Frames.{file_kept, file_stays, tells_on, structure_stays, structures_set, structures_stay, slots_stay, slots_set, on_volume, body_owned, body_once, cluster_bits_stay, rows_stay, header_apart, heads_apart, told_apart, slots_apart, index_apart, home_apart, control_apart, structure_number, away_by, number_bits_stay, set_case, reserved_stays}
use Rattle.vol_spell.proofs.Leaks.{leaks_stay, leak_flags_stay}

-- what one test says, another says that is the same
same_bit : (v a b : Bool) (A : Type 0) → b ≡ a → ((a ≡ v) ↔ A) → ((b ≡ v) ↔ A)
same_bit v a b A e h = ((λ t. h.0 (sym e ∙ t)), (λ x. e ∙ h.1 x))

iff : {A B C : Type 0} → (A ↔ B) → (C ↔ B) → (A ↔ C)
iff x y = ((λ a. y.1 (x.0 a)), (λ c. x.1 (y.0 c)))

-- a file that holds parts is no other one
not_structure : (k n : ℕ) → is_structure k ≡ true → is_structure n ≡ false → k ≢ n
not_structure k n a b e = let f : true ≡ false = sym a ∙ ap is_structure e ∙ b in absurd (cc)

other_file : (k n : ℕ) → is_structure k ≡ true → is_structure n ≡ false → InFile n ≢ InFile k
other_file k n a b e = not_structure k n a b (let f : n ≡ k = cc in sym f)

two_files : (a b : ℕ) → (a == b) ≡ false → InFile a ≢ InFile b
two_files a b t e = differ a b t (let f : a ≡ b = cc in f)

-- a file that has a cluster after a move had one before, or may have one
known_stays : (g : Geometry) (P : Option Owner → Type 0) (xs ys : List Owner) → Moves P xs ys → ((n : ℕ) → P (Some (InFile n)) → IsFileNumber g n) → ((q n : ℕ) → slice_get xs q ≡ Some (InFile n) → IsFileNumber g n)
    → (q n : ℕ) → slice_get ys q ≡ Some (InFile n) → IsFileNumber g n
known_stays g P xs ys moves may old q n e = elim (moves.each q) [ inl same ↦ old q n (sym same ∙ e) | inr m ↦ may n (subst P e m.1) ]

-- blocks stay whole where a whole block is written
pub whole_set : (bs : List Block) (l : ℕ) (b : Block) → AreWholeBlocks bs → IsWholeBlock b → AreWholeBlocks (slice_set bs l b)
whole_set [] l b all whole k x e = all k x e
whole_set (a ∷ bs) zero b all whole zero x e = let h : b ≡ x = cc in subst IsWholeBlock h whole
whole_set (a ∷ bs) zero b all whole (suc k) x e = all (suc k) x e
whole_set (a ∷ bs) (suc l) b all whole zero x e = all zero x e
whole_set (a ∷ bs) (suc l) b all whole (suc k) x e = whole_set bs l b (λ j y f. all (suc j) y f) whole k x e

module _ (g : Geometry) (bs : List Block) (own : Owners) (c : Cat) (s : Spells g bs own c) where
  -- ---- a block in a file's body, or outside: all but the one file stays

  pub outside_write_lem : (node l : ℕ) (b : Block) → IsWholeBlock b → owner_at g own l ≡ Some (Outside node) → Spells g (slice_set bs l b) own c
  outside_write_lem node l b whole at =
      let rows : rows_told g (slice_set bs l b) ≡ rows_told g bs = rows_stay g bs own c s l b (Outside node) at (λ e. absurd (cc)) in
      let heads : (m : ℕ) → IsFileNumber g m → header_place g m ≢ l = header_apart g bs own c s l (Outside node) at (λ e. absurd (cc)) in
      let P : List Row → Type 0 = λ rs. Once (map (λ r. r.uic) rs) in
      record {
        counts = record {
          geometry = s.counts.geometry;
          blocks = length-set bs l b ∙ s.counts.blocks;
          clusters = s.counts.clusters;
          numbers = s.counts.numbers;
          slots = s.counts.slots;
        };
        whole = whole_set bs l b s.whole whole;
        structures = structures_stay g bs l b (home_apart g bs own c s l (Outside node) at (λ e. absurd (cc))) (control_apart g bs own c s l (Outside node) at (λ e. absurd (cc)))
            (λ n st. told_apart g bs own c s l b heads n (structure_number g bs own c s n st)) s.structures;
        constants = s.constants;
        files = λ n x is h. file_stays g own bs l b n x (heads_apart g bs own c s n l is heads) (away_by g bs own c s n l (Outside node) is at (λ p e. absurd (cc))) (s.files n x is h);
        slots = slots_stay g bs own own l b heads s.slots.blank s.slots;
        rows = record {
          quota = s.rows.quota ∙ ap rows_sorted (sym rows);
          once = subst P (sym rows) s.rows.once;
        };
        owners = record {
          cluster_bits = λ q lt. same_bit true _ _ _ (cluster_bits_stay g bs own c s l b (Outside node) at (λ e. absurd (cc)) q lt) (s.owners.cluster_bits q lt);
          number_bits = λ n is. same_bit false _ _ _ (number_bits_stay g bs l b n (index_apart g bs own c s l (Outside node) at (λ e. absurd (cc)))) (s.owners.number_bits n is);
          known = s.owners.known;
          known_numbers = s.owners.known_numbers;
          leaked = s.owners.leaked;
          leaked_numbers = s.owners.leaked_numbers;
        };
      }

  pub quota_write_lem : (k l : ℕ) (b : Block) → IsWholeBlock b → part_of g l ≡ Some (Quota k) → Once (map (λ r. r.uic) (rows_told g (slice_set bs l b))) → Spells g (slice_set bs l b) own (with_rows g (slice_set bs l b) c)
  quota_write_lem k l b whole part once =
      let at : owner_at g own l ≡ Some (InFile 10) = part_owner g bs own c s l (Quota k) part in
      let one : InFile 1 ≢ InFile 10 = two_files 1 10 refl in
      let two : InFile 2 ≢ InFile 10 = two_files 2 10 refl in
      let heads : (m : ℕ) → IsFileNumber g m → header_place g m ≢ l = header_apart g bs own c s l (InFile 10) at one in
      record {
        counts = record {
          geometry = s.counts.geometry;
          blocks = length-set bs l b ∙ s.counts.blocks;
          clusters = s.counts.clusters;
          numbers = s.counts.numbers;
          slots = s.counts.slots;
        };
        whole = whole_set bs l b s.whole whole;
        structures = structures_stay g bs l b (home_apart g bs own c s l (InFile 10) at one) (control_apart g bs own c s l (InFile 10) at two)
            (λ n st. told_apart g bs own c s l b heads n (structure_number g bs own c s n st)) s.structures;
        constants = record { factor = s.constants.factor; total = s.constants.total; reserved = s.constants.reserved; rows = s.constants.rows };
        files = λ n x is h. file_stays g own bs l b n x (heads_apart g bs own c s n l is heads) (away_by g bs own c s n l (InFile 10) is at (λ p. other_file 10 n refl p)) (s.files n x is h);
        slots = slots_stay g bs own own l b heads s.slots.blank s.slots;
        rows = record {
          quota = refl;
          once = once;
        };
        owners = record {
          cluster_bits = λ q lt. same_bit true _ _ _ (cluster_bits_stay g bs own c s l b (InFile 10) at two q lt) (s.owners.cluster_bits q lt);
          number_bits = λ n is. same_bit false _ _ _ (number_bits_stay g bs l b n (index_apart g bs own c s l (InFile 10) at one)) (s.owners.number_bits n is);
          known = s.owners.known;
          known_numbers = s.owners.known_numbers;
          leaked = s.owners.leaked;
          leaked_numbers = s.owners.leaked_numbers;
        };
      }

  -- ---- the bitmaps: what is free or outside at the node moves

  pub storage_write_lem : (new : Owners) (node k l : ℕ) (b : Block) → IsWholeBlock b → part_of g l ≡ Some (Storage k) → Moves (IsSpaceMove node) own.clusters new.clusters → new.numbers ≡ own.numbers
      → ((q : ℕ) → q < total_of g → (cluster_bit g (slice_set bs l b) q ≡ true) ↔ (slice_get new.clusters q ≡ Some Free)) → Spells g (slice_set bs l b) new c
  storage_write_lem new node k l b whole part moves same bits =
      let at : owner_at g own l ≡ Some (InFile 2) = part_owner g bs own c s l (Storage k) part in
      let place : g.bitmap_lbn + 1 + k ≡ l = (part_only g bs own c s l (Storage k) part).1 in
      let one : InFile 1 ≢ InFile 2 = two_files 1 2 refl in
      let ten : InFile 10 ≢ InFile 2 = two_files 10 2 refl in
      let heads : (m : ℕ) → IsFileNumber g m → header_place g m ≢ l = header_apart g bs own c s l (InFile 2) at one in
      let rows : rows_told g (slice_set bs l b) ≡ rows_told g bs = rows_stay g bs own c s l b (InFile 2) at ten in
      let P : List Row → Type 0 = λ rs. Once (map (λ r. r.uic) rs) in
      record {
        counts = record {
          geometry = s.counts.geometry;
          blocks = length-set bs l b ∙ s.counts.blocks;
          clusters = moves.count ∙ s.counts.clusters;
          numbers = ap (λ xs. length xs) same ∙ s.counts.numbers;
          slots = s.counts.slots;
        };
        whole = whole_set bs l b s.whole whole;
        structures = structures_stay g bs l b (home_apart g bs own c s l (InFile 2) at one) (let ne : g.bitmap_lbn ≢ l = omega arith in ne)
            (λ n st. told_apart g bs own c s l b heads n (structure_number g bs own c s n st)) s.structures;
        constants = s.constants;
        files = λ n x is h. tells_on g own new n _ _ x (owner_stays (IsSpaceMove node) own.clusters new.clusters (Some (InFile n)) moves (λ f. f)) (λ i. number_same new i (InFile n) same)
            (file_stays g own bs l b n x (heads_apart g bs own c s n l is heads) (away_by g bs own c s n l (InFile 2) is at (λ p. other_file 2 n refl p)) (s.files n x is h));
        slots = slots_stay g bs own new l b heads (λ m is e. s.slots.blank m is ((number_same new (m - 1) Free same).0 e)) s.slots;
        rows = record {
          quota = s.rows.quota ∙ ap rows_sorted (sym rows);
          once = subst P (sym rows) s.rows.once;
        };
        owners = record {
          cluster_bits = bits;
          number_bits = λ n is. iff (same_bit false _ _ _ (number_bits_stay g bs l b n (index_apart g bs own c s l (InFile 2) at one)) (s.owners.number_bits n is)) (number_same new (n - 1) Free same);
          known = known_stays g (IsSpaceMove node) own.clusters new.clusters moves (λ n f. absurd f) s.owners.known;
          known_numbers = λ i n e. s.owners.known_numbers i n ((number_same new i (InFile n) same).0 e);
          leaked = s.owners.leaked ∙ sym (leaks_stay (IsSpaceMove node) own.clusters new.clusters (λ f. f) moves);
          leaked_numbers = s.owners.leaked_numbers ∙ ap (λ xs. map (is_same_owner Leaked) xs) (sym same);
        };
      } where
        number_same : (new : Owners) (i : ℕ) (o : Owner) → new.numbers ≡ own.numbers → (slice_get new.numbers i ≡ Some o) ↔ (slice_get own.numbers i ≡ Some o)
        number_same new i o e = let h : slice_get new.numbers i ≡ slice_get own.numbers i = ap (λ xs. slice_get xs i) e in ((λ t. sym h ∙ t), (λ t. h ∙ t))

  pub index_write_lem : (new : Owners) (node l : ℕ) (b : Block) → IsWholeBlock b → part_of g l ≡ Some IndexBitmap → new.clusters ≡ own.clusters → Moves (IsSpaceMove node) own.numbers new.numbers
      → ((n : ℕ) → IsFileNumber g n → (number_bit g (slice_set bs l b) n ≡ false) ↔ (slice_get new.numbers (n - 1) ≡ Some Free))
      → ((n : ℕ) → IsFileNumber g n → slice_get own.numbers (n - 1) ≢ Some Free → slice_get new.numbers (n - 1) ≡ Some Free → IsBlank (header_block g bs n)) → Spells g (slice_set bs l b) new c
  index_write_lem new node l b whole part same moves bits blank =
      let at : owner_at g own l ≡ Some (InFile 1) = part_owner g bs own c s l IndexBitmap part in
      let place : 4 * g.cluster ≡ l = (part_only g bs own c s l IndexBitmap part).1 in
      let one = low g bs own c s in
      let two : InFile 2 ≢ InFile 1 = two_files 2 1 refl in
      let ten : InFile 10 ≢ InFile 1 = two_files 10 1 refl in
      let rows : rows_told g (slice_set bs l b) ≡ rows_told g bs = rows_stay g bs own c s l b (InFile 1) at ten in
      let P : List Row → Type 0 = λ rs. Once (map (λ r. r.uic) rs) in
      let other : (n : ℕ) → IsFileNumber g n → header_place g n ≢ l = λ n is. let a = is.from in omega arith in
      record {
        counts = record {
          geometry = s.counts.geometry;
          blocks = length-set bs l b ∙ s.counts.blocks;
          clusters = ap (λ xs. length xs) same ∙ s.counts.clusters;
          numbers = moves.count ∙ s.counts.numbers;
          slots = s.counts.slots;
        };
        whole = whole_set bs l b s.whole whole;
        structures = structures_stay g bs l b (let ne : 1 ≢ l = omega arith in ne) (control_apart g bs own c s l (InFile 1) at two)
            (λ n st. told_apart g bs own c s l b other n (structure_number g bs own c s n st)) s.structures;
        constants = s.constants;
        files = λ n x is h. tells_on g own new n _ _ x (λ q. cluster_same new q (InFile n) same) (owner_stays (IsSpaceMove node) own.numbers new.numbers (Some (InFile n)) moves (λ f. f))
            (file_stays g own bs l b n x (heads_apart g bs own c s n l is other) (away_by g bs own c s n l (InFile 1) is at (λ p. other_file 1 n refl p)) (s.files n x is h));
        slots = slots_stay g bs own new l b other (λ m is e. was_blank m is e (number_bit g bs m) refl) s.slots;
        rows = record {
          quota = s.rows.quota ∙ ap rows_sorted (sym rows);
          once = subst P (sym rows) s.rows.once;
        };
        owners = record {
          cluster_bits = λ q lt. iff (same_bit true _ _ _ (cluster_bits_stay g bs own c s l b (InFile 1) at two q lt) (s.owners.cluster_bits q lt)) (cluster_same new q Free same);
          number_bits = bits;
          known = λ q n e. s.owners.known q n ((cluster_same new q (InFile n) same).0 e);
          known_numbers = λ i n e. s.owners.known_numbers i n ((owner_stays (IsSpaceMove node) own.numbers new.numbers (Some (InFile n)) moves (λ f. f) i).0 e);
          leaked = s.owners.leaked ∙ ap (λ xs. count_by (is_same_owner Leaked) xs) (sym same);
          leaked_numbers = s.owners.leaked_numbers ∙ sym (leak_flags_stay (IsSpaceMove node) own.numbers new.numbers (λ f. f) moves);
        };
      } where
        was_blank : (m : ℕ) → IsFileNumber g m → slice_get new.numbers (m - 1) ≡ Some Free → (t : Bool) → number_bit g bs m ≡ t → IsBlank (header_block g bs m)
        was_blank m is e false at = s.slots.blank m is ((s.owners.number_bits m is).0 at)
        was_blank m is e true at = blank m is (λ f. let h : false ≡ true = sym ((s.owners.number_bits m is).1 f) ∙ at in cc) e

        cluster_same : (new : Owners) (i : ℕ) (o : Owner) → new.clusters ≡ own.clusters → (slice_get new.clusters i ≡ Some o) ↔ (slice_get own.clusters i ≡ Some o)
        cluster_same new i o e = let h : slice_get new.clusters i ≡ slice_get own.clusters i = ap (λ xs. slice_get xs i) e in ((λ t. sym h ∙ t), (λ t. h ∙ t))

  -- ---- a header

  -- the number of the slot, which is the file's or outside at the node
  pub header_number : (n m : ℕ) → IsFileNumber g n → Has (n ∷ (told_of g bs n).slots) m → IsFileNumber g m
  header_number n m is (inl e) = subst (λ (k : ℕ). IsFileNumber g k) e is
  header_number n m is (inr u) = slot_number g bs own c s n m is u

  not_of_other : (node n m k : ℕ) → IsFileMove node n (slice_get own.numbers (m - 1)) → k ≢ n → slice_get own.numbers (m - 1) ≢ Some (InFile k)
  not_of_other node n m k owned ne e = ne (subst (IsFileMove node n) e owned)

  -- what is told of another file stays
  pub others_told : (new : Owners) (node n m : ℕ) (b : Block) (x : Slot) → IsHeaderFor g bs node n m own new c b x → (k : ℕ) → IsFileNumber g k → k ≢ n → told_of g (slice_set bs (header_place g m) b) k ≡ told_of g bs k
  others_told new node n m b x h k is ne = elim (same_or_not k m) [
    | inl e ↦ subst (λ (j : ℕ). told_of g (slice_set bs (header_place g m) b) j ≡ told_of g bs j) (sym e) (h.alike (λ f. ne (e ∙ f)))
    | inr other ↦ told_stays g bs k (header_place g m) b (told g bs own c s k is).size (slots_apart g bs own c s k m is other (not_of_other node n m k h.owned ne))
  ]

  -- the blocks that a file has by a new header are apart from the header's own place
  pub new_body_away : (new : Owners) (node n m l : ℕ) (b : Block) (x : Slot) → IsHeaderFor g bs node n m own new c b x → owner_at g own l ≡ Some (InFile 1) → Has (body_places n (told_of g (slice_set bs (header_place g m) b) n)) l → ⊥
  new_body_away new node n m l b x h at t = by_kind (is_structure n) refl where
    now : Told
    now = told_of g (slice_set bs (header_place g m) b) n

    R : Bool → Type 0
    R k = Has (cond k [] (lbns_in now.runs)) l

    by_kind : (k : Bool) → is_structure n ≡ k → ⊥
    by_kind true e = let none : R true = subst R e t in none
    by_kind false e =
        let u : R false = subst R e t in
        let mine : owner_at g new l ≡ Some (InFile n) = (h.tells.runs (l / g.cluster)).0 (has_cluster g now l (low g bs own c s) h.tells.whole u) in
        let ne : 1 ≢ n = not_structure 1 n refl e in
        let kept : owner_at g new l ≡ Some (InFile 1) = (owner_stays (IsFileMove node n) own.clusters new.clusters (Some (InFile 1)) h.moves.clusters (λ f. ne f) (l / g.cluster)).1 at in
        ne (let f : Some (InFile 1) ≡ Some (InFile n) = sym kept ∙ mine in cc)

  -- each file that holds parts of the volume is as it has to be
  structure_set : (new : Owners) (node n m : ℕ) (b : Block) (x : Slot) → IsHeaderFor g bs node n m own new c b x → (k : ℕ) (r : Run) → is_structure k ≡ true → IsStructure g bs k r
      → IsStructure g (slice_set bs (header_place g m) b) k r
  structure_set new node n m b x h k r st is = by_number (same_or_not k n) where
    bs' : List Block
    bs' = slice_set bs (header_place g m) b

    by_number : (k ≡ n) ⊎ (k ≢ n) → IsStructure g (slice_set bs (header_place g m) b) k r
    by_number (inr ne) = structure_stays g bs bs' k r (others_told new node n m b x h k (structure_number g bs own c s k st) ne) is
    by_number (inl e) =
        let kept = h.parts (ap is_structure (sym e) ∙ st) in
        let was : IsStructure g bs n r = subst (λ (j : ℕ). IsStructure g bs j r) e is in
        subst (λ (j : ℕ). IsStructure g bs' j r) (sym e) (record { header = kept.header ∙ was.header; run = kept.runs ∙ was.run })

  pub header_write_lem : (new : Owners) (node n m : ℕ) (b : Block) (x : Slot) → IsHeaderFor g bs node n m own new c b x → Spells g (slice_set bs (header_place g m) b) new (with_slot c n x)
  header_write_lem new node n m b x h =
      let l = header_place g m in
      let number = header_number n m h.number h.slot in
      let at : owner_at g own (header_place g m) ≡ Some (InFile 1) = part_owned g bs own c s (Header m) number in
      let lo = h.number.from in
      let hi = h.number.to in
      let first = number.from in
      let low = low g bs own c s in
      let two : InFile 2 ≢ InFile 1 = two_files 2 1 refl in
      let ten : InFile 10 ≢ InFile 1 = two_files 10 1 refl in
      let rows : rows_told g (slice_set bs l b) ≡ rows_told g bs = rows_stay g bs own c s l b (InFile 1) at ten in
      let free : (i : ℕ) → (slice_get new.numbers i ≡ Some Free) ↔ (slice_get own.numbers i ≡ Some Free) = owner_stays (IsFileMove node n) own.numbers new.numbers (Some Free) h.moves.numbers (λ f. f) in
      let P : List Row → Type 0 = λ rs. Once (map (λ r. r.uic) rs) in
      let inside : n - 1 < length c.files = (let e = s.counts.slots in omega arith) in
      record {
        counts = record {
          geometry = s.counts.geometry;
          blocks = length-set bs l b ∙ s.counts.blocks;
          clusters = h.moves.clusters.count ∙ s.counts.clusters;
          numbers = h.moves.numbers.count ∙ s.counts.numbers;
          slots = length-set c.files (n - 1) x ∙ s.counts.slots;
        };
        whole = whole_set bs l b s.whole h.whole;
        structures = structures_set g bs l b (let ne : 1 ≢ header_place g m = omega arith in ne) (control_apart g bs own c s l (InFile 1) at two)
            (structure_set new node n m b x h) s.structures;
        constants = record {
          factor = s.constants.factor;
          total = s.constants.total;
          reserved = s.constants.reserved ∙ sym (reserved_stays 11 c.files (n - 1) x (λ old lt e. h.reserved old (omega arith) e));
          rows = s.constants.rows;
        };
        files = λ k y is e. elim (set_case c.files (n - 1) (k - 1) x y inside e) [
          | inl same ↦ written k y at (let f = same.0 in let a = is.from in let j : n ≡ k = omega arith in j) same.1
          | inr other ↦ (let f = other.0 in let ne : k ≢ n = (λ j. f (ap (λ z. z - 1) (sym j))) in
              tells_on g own new k _ _ y (owner_stays (IsFileMove node n) own.clusters new.clusters (Some (InFile k)) h.moves.clusters ne)
              (owner_stays (IsFileMove node n) own.numbers new.numbers (Some (InFile k)) h.moves.numbers ne)
              (file_kept g own bs l b k y (others_told new node n m b x h k is ne) (away_by g bs own c s k l (InFile 1) is at (λ p. other_file 1 k refl p)) (s.files k y is other.1)))
        ];
        slots = slots_set g bs own new m b (on_volume g bs own c s l (InFile 1) at) h.head (λ e. absurd (subst (IsFileMove node n) ((free (m - 1)).0 e) h.owned)) (λ i e. (free i).0 e) s.slots;
        rows = record {
          quota = s.rows.quota ∙ ap rows_sorted (sym rows);
          once = subst P (sym rows) s.rows.once;
        };
        owners = record {
          cluster_bits = λ q lt. iff (same_bit true _ _ _ (cluster_bits_stay g bs own c s l b (InFile 1) at two q lt) (s.owners.cluster_bits q lt)) (owner_stays (IsFileMove node n) own.clusters new.clusters (Some Free) h.moves.clusters (λ f. f) q);
          number_bits = λ k is. iff (same_bit false _ _ _ (number_bits_stay g bs l b k (let ne : 4 * g.cluster ≢ header_place g m = omega arith in ne)) (s.owners.number_bits k is)) (free (k - 1));
          known = known_stays g (IsFileMove node n) own.clusters new.clusters h.moves.clusters (λ k e. subst (λ (j : ℕ). IsFileNumber g j) (sym e) h.number) s.owners.known;
          known_numbers = known_stays g (IsFileMove node n) own.numbers new.numbers h.moves.numbers (λ k e. subst (λ (j : ℕ). IsFileNumber g j) (sym e) h.number) s.owners.known_numbers;
          leaked = s.owners.leaked ∙ sym (leaks_stay (IsFileMove node n) own.clusters new.clusters (λ f. f) h.moves.clusters);
          leaked_numbers = s.owners.leaked_numbers ∙ sym (leak_flags_stay (IsFileMove node n) own.numbers new.numbers (λ f. f) h.moves.numbers);
        };
      } where
        written : (k : ℕ) (y : Slot) → owner_at g own (header_place g m) ≡ Some (InFile 1) → n ≡ k → x ≡ y
            → Tells g new k (told_of g (slice_set bs (header_place g m) b) k) (body_blocks (slice_set bs (header_place g m) b) k (told_of g (slice_set bs (header_place g m) b) k)) y
        written k y at e f =
            let now : Told = told_of g (slice_set bs (header_place g m) b) n in
            let P : ℕ → Type 0 = λ j. Tells g new j (told_of g (slice_set bs (header_place g m) b) j) (body_blocks (slice_set bs (header_place g m) b) j (told_of g (slice_set bs (header_place g m) b) j)) y in
            let Q : Slot → Type 0 = λ z. Tells g new n now (body_blocks (slice_set bs (header_place g m) b) n now) z in
            let B : List Block → Type 0 = λ zs. Tells g new n now zs x in
            subst P e (subst Q f (subst B (sym (blocks_stay bs (header_place g m) b (body_places n now) (new_body_away new node n m (header_place g m) b x h at))) h.tells))

  -- ---- a header slot that is no file's

  -- where a number has a free slot in the catalogue, its header slot says so
  free_head : (factor n seq : ℕ) (r : Result Head HeaderFault) (blocks : List Block) → IsHead n r → slot_with factor n r blocks ≡ slot.Free seq → r ≡ Ok (head.Free seq)
  free_head factor n seq (Ok (head.Used f)) blocks is e = absurd (cc)
  free_head factor n seq (Ok (head.Free k)) blocks is e = ap (λ (j : ℕ). Ok (head.Free j)) (let same : k ≡ seq = cc in same)
  free_head factor n seq (Err fault) blocks is e = absurd is

  pub slot_told : (m : ℕ) (b : Block) → IsSlotFor g bs m own c b → (k : ℕ) → IsFileNumber g k → told_of g (slice_set bs (header_place g m) b) k ≡ told_of g bs k
  slot_told m b h k is = elim (same_or_not k m) [
    | inl e ↦ subst (λ (j : ℕ). told_of g (slice_set bs (header_place g m) b) j ≡ told_of g bs j) (sym e) here
    | inr ne ↦ told_stays g bs k (header_place g m) b (told g bs own c s k is).size (slots_apart g bs own c s k m is ne (h.no_file k))
  ] where
    here : told_of g (slice_set bs (header_place g m) b) m ≡ told_of g bs m
    here =
        let t = s.files m (slot.Free h.seq) h.number h.slot in
        let len : header_place g m < length bs = on_volume g bs own c s (header_place g m) (InFile 1) (part_owned g bs own c s (Header m) h.number) in
        none_told g (slice_set bs (header_place g m) b) m h.seq (ap head_told (index-set_here bs (header_place g m) b len) ∙ h.reads)
        ∙ sym (none_told g bs m h.seq (free_head g.cluster m h.seq (told_of g bs m).head _ t.reads t.slot))

  pub slot_write_lem : (m : ℕ) (b : Block) → IsSlotFor g bs m own c b → Spells g (slice_set bs (header_place g m) b) own c
  slot_write_lem m b h =
      let l = header_place g m in
      let at : owner_at g own (header_place g m) ≡ Some (InFile 1) = part_owned g bs own c s (Header m) h.number in
      let first = h.number.from in
      let low = low g bs own c s in
      let two : InFile 2 ≢ InFile 1 = two_files 2 1 refl in
      let ten : InFile 10 ≢ InFile 1 = two_files 10 1 refl in
      let rows : rows_told g (slice_set bs l b) ≡ rows_told g bs = rows_stay g bs own c s l b (InFile 1) at ten in
      let P : List Row → Type 0 = λ rs. Once (map (λ r. r.uic) rs) in
      record {
        counts = record {
          geometry = s.counts.geometry;
          blocks = length-set bs l b ∙ s.counts.blocks;
          clusters = s.counts.clusters;
          numbers = s.counts.numbers;
          slots = s.counts.slots;
        };
        whole = whole_set bs l b s.whole h.whole;
        structures = structures_stay g bs l b (let ne : 1 ≢ header_place g m = omega arith in ne) (control_apart g bs own c s l (InFile 1) at two)
            (λ k st. slot_told m b h k (structure_number g bs own c s k st)) s.structures;
        constants = s.constants;
        files = λ k y is e. file_kept g own bs l b k y (slot_told m b h k is) (away_by g bs own c s k l (InFile 1) is at (λ p. other_file 1 k refl p)) (s.files k y is e);
        slots = slots_set g bs own own m b (on_volume g bs own c s l (InFile 1) at) h.head h.blank (λ i e. e) s.slots;
        rows = record {
          quota = s.rows.quota ∙ ap rows_sorted (sym rows);
          once = subst P (sym rows) s.rows.once;
        };
        owners = record {
          cluster_bits = λ q lt. same_bit true _ _ _ (cluster_bits_stay g bs own c s l b (InFile 1) at two q lt) (s.owners.cluster_bits q lt);
          number_bits = λ k is. same_bit false _ _ _ (number_bits_stay g bs l b k (let ne : 4 * g.cluster ≢ header_place g m = omega arith in ne)) (s.owners.number_bits k is);
          known = s.owners.known;
          known_numbers = s.owners.known_numbers;
          leaked = s.owners.leaked;
          leaked_numbers = s.owners.leaked_numbers;
        };
      }

  -- ---- a block of a file

  -- a slot's clusters are told by the header alone
  same_clusters : (factor n : ℕ) (r : Result Head HeaderFault) (xs ys : List Block) → clusters_in (slot_with factor n r xs) ≡ clusters_in (slot_with factor n r ys)
  same_clusters factor n (Ok (head.Used f)) xs ys = refl
  same_clusters factor n (Ok (head.Free seq)) xs ys = refl
  same_clusters factor n (Err fault) xs ys = refl

  pub body_write_lem : (n v l : ℕ) (b : Block) (x : Slot) → IsBodyFor g bs n v l b x → Spells g (slice_set bs l b) own (with_slot c n x)
  body_write_lem n v l b x h =
      let lo = h.number.from in
      let hi = h.number.to in
      let has : Has (body_places n (told_of g bs n)) l = has_at (body_places n (told_of g bs n)) v l h.place in
      let mine = body_owned g bs own c s n l h.number has in
      let at : owner_at g own l ≡ Some (InFile n) = mine.1 in
      let len : l < length bs = on_volume g bs own c s l (InFile n) at in
      let one : InFile 1 ≢ InFile n = (λ e. other_file 1 n refl mine.0 (sym e)) in
      let two : InFile 2 ≢ InFile n = (λ e. other_file 2 n refl mine.0 (sym e)) in
      let ten : InFile 10 ≢ InFile n = (λ e. other_file 10 n refl mine.0 (sym e)) in
      let heads : (m : ℕ) → IsFileNumber g m → header_place g m ≢ l = header_apart g bs own c s l (InFile n) at one in
      let rows : rows_told g (slice_set bs l b) ≡ rows_told g bs = rows_stay g bs own c s l b (InFile n) at ten in
      let P : List Row → Type 0 = λ rs. Once (map (λ r. r.uic) rs) in
      let inside : n - 1 < length c.files = (let e = s.counts.slots in omega arith) in
      record {
        counts = record {
          geometry = s.counts.geometry;
          blocks = length-set bs l b ∙ s.counts.blocks;
          clusters = s.counts.clusters;
          numbers = s.counts.numbers;
          slots = length-set c.files (n - 1) x ∙ s.counts.slots;
        };
        whole = whole_set bs l b s.whole h.whole;
        structures = structures_stay g bs l b (home_apart g bs own c s l (InFile n) at one) (control_apart g bs own c s l (InFile n) at two)
            (λ m st. told_apart g bs own c s l b heads m (structure_number g bs own c s m st)) s.structures;
        constants = record {
          factor = s.constants.factor;
          total = s.constants.total;
          reserved = s.constants.reserved ∙ sym (reserved_stays 11 c.files (n - 1) x (λ old lt e. kept old e));
          rows = s.constants.rows;
        };
        files = λ m y is e. elim (set_case c.files (n - 1) (m - 1) x y inside e) [
          | inl same ↦ written m y heads len (let f = same.0 in let a = is.from in let k : n ≡ m = omega arith in k) same.1
          | inr other ↦ (let f = other.0 in let ne : n ≢ m = (λ k. f (ap (λ z. z - 1) k)) in
              file_stays g own bs l b m y (heads_apart g bs own c s m l is heads) (away_by g bs own c s m l (InFile n) is at (λ p e. ne (let k : m ≡ n = cc in sym k))) (s.files m y is other.1))
        ];
        slots = slots_stay g bs own own l b heads s.slots.blank s.slots;
        rows = record {
          quota = s.rows.quota ∙ ap rows_sorted (sym rows);
          once = subst P (sym rows) s.rows.once;
        };
        owners = record {
          cluster_bits = λ q lt. same_bit true _ _ _ (cluster_bits_stay g bs own c s l b (InFile n) at two q lt) (s.owners.cluster_bits q lt);
          number_bits = λ m is. same_bit false _ _ _ (number_bits_stay g bs l b m (index_apart g bs own c s l (InFile n) at one)) (s.owners.number_bits m is);
          known = s.owners.known;
          known_numbers = s.owners.known_numbers;
          leaked = s.owners.leaked;
          leaked_numbers = s.owners.leaked_numbers;
        };
      } where
        kept : (old : Slot) → slice_get c.files (n - 1) ≡ Some old → clusters_in x ≡ clusters_in old
        kept old e =
            let t = s.files n old h.number e in
            ap clusters_in (sym h.slot) ∙ same_clusters g.cluster n (told_of g bs n).head _ _ ∙ ap clusters_in t.slot

        written : (m : ℕ) (y : Slot) → ((j : ℕ) → IsFileNumber g j → header_place g j ≢ l) → l < length bs → n ≡ m → x ≡ y
            → Tells g own m (told_of g (slice_set bs l b) m) (body_blocks (slice_set bs l b) m (told_of g (slice_set bs l b) m)) y
        written m y heads len e f =
            let t = told g bs own c s n h.number in
            let here = told_apart g bs own c s l b heads n h.number in
            let P : ℕ → Type 0 = λ k. Tells g own k (told_of g (slice_set bs l b) k) (body_blocks (slice_set bs l b) k (told_of g (slice_set bs l b) k)) y in
            let Q : Slot → Type 0 = λ z. Tells g own n (told_of g (slice_set bs l b) n) (body_blocks (slice_set bs l b) n (told_of g (slice_set bs l b) n)) z in
            let H : Told → Type 0 = λ z. Tells g own n z (body_blocks (slice_set bs l b) n z) x in
            let B : List Block → Type 0 = λ zs. Tells g own n (told_of g bs n) zs x in
            let now : Tells g own n (told_of g bs n) (slice_set (body_blocks bs n (told_of g bs n)) v b) x =
            record { reads = t.reads; whole = t.whole; once = t.once; runs = t.runs; few = t.few; split = t.split; system = t.system; slots = t.slots; size = t.size; dir = h.dir; slot = h.slot } in
            subst P e (subst Q f (subst H (sym here) (subst B (sym (blocks_set bs l b (body_places n (told_of g bs n)) v h.place (body_once g bs own c s n h.number) len)) now)))

  -- ---- the death of a node

  pub death_leaks_lem : (new : Owners) (node : ℕ) → OwnersMove (IsDeathMove node) own new → Spells g bs new (with_leaks new c)
  death_leaks_lem new node moves =
      let clusters : (q : ℕ) (o : Owner) → (IsDeathMove node (Some o) → ⊥) → (slice_get new.clusters q ≡ Some o) ↔ (slice_get own.clusters q ≡ Some o) =
      λ q o never. owner_stays (IsDeathMove node) own.clusters new.clusters (Some o) moves.clusters never q in
      let numbers : (i : ℕ) (o : Owner) → (IsDeathMove node (Some o) → ⊥) → (slice_get new.numbers i ≡ Some o) ↔ (slice_get own.numbers i ≡ Some o) =
      λ i o never. owner_stays (IsDeathMove node) own.numbers new.numbers (Some o) moves.numbers never i in
      record {
        counts = record {
          geometry = s.counts.geometry;
          blocks = s.counts.blocks;
          clusters = moves.clusters.count ∙ s.counts.clusters;
          numbers = moves.numbers.count ∙ s.counts.numbers;
          slots = s.counts.slots;
        };
        whole = s.whole;
        structures = s.structures;
        constants = record { factor = s.constants.factor; total = s.constants.total; reserved = s.constants.reserved; rows = s.constants.rows };
        files = λ n x is h. tells_on g own new n _ _ x (λ q. clusters q (InFile n) (λ f. f)) (λ i. numbers i (InFile n) (λ f. f)) (s.files n x is h);
        slots = record {
          heads = s.slots.heads;
          blank = λ m is e. s.slots.blank m is ((numbers (m - 1) Free (λ f. f)).0 e);
        };
        rows = record { quota = s.rows.quota; once = s.rows.once };
        owners = record {
          cluster_bits = λ q lt. iff (s.owners.cluster_bits q lt) (clusters q Free (λ f. f));
          number_bits = λ n is. iff (s.owners.number_bits n is) (numbers (n - 1) Free (λ f. f));
          known = known_stays g (IsDeathMove node) own.clusters new.clusters moves.clusters (λ n f. absurd f) s.owners.known;
          known_numbers = λ i n e. s.owners.known_numbers i n ((numbers i (InFile n) (λ f. f)).0 e);
          leaked = refl;
          leaked_numbers = refl;
        };
      }

pub outside_write : OutsideWrite
outside_write g bs own c node l b s whole at = outside_write_lem g bs own c s node l b whole at

pub quota_write : QuotaWrite
quota_write g bs own c k l b s whole part once = quota_write_lem g bs own c s k l b whole part once

pub storage_write : StorageWrite
storage_write g bs own new c node k l b s whole part moves same bits = storage_write_lem g bs own c s new node k l b whole part moves same bits

pub index_write : IndexWrite
index_write g bs own new c node l b s whole part same moves bits blank = index_write_lem g bs own c s new node l b whole part same moves bits blank

pub header_write : HeaderWrite
header_write g bs own new c node n m b x s h = header_write_lem g bs own c s new node n m b x h

pub slot_write : SlotWrite
slot_write g bs own c m b s h = slot_write_lem g bs own c s m b h

pub body_write : BodyWrite
body_write g bs own c n v l b x s h = body_write_lem g bs own c s n v l b x h

pub death_leaks : DeathLeaks
death_leaks g bs own new c node s moves = death_leaks_lem g bs own c s new node moves
