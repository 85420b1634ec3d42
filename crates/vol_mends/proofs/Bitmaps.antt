-- Bitmap blocks that say what the headers say.
use Rattle.std.proofs.Common.{◌≡◌, ◌≢◌, ◌∙◌, ◌<◌, ◌≤◌, ◌-◌, ◌↔◌, ℕ, suc, Bool, true, false, cond, List, [], ◌∷◌, Some, None, Ok, Err, Result, length, map, slice_get, slice_set, refl, sym, ap, subst, arith, ◌⊎◌, inl, inr}
use Rattle.std.specs.Prelude.{◌==◌, is_some}
use Rattle.std.proofs.lemmas.Bool.Decides.{nat_tests}
use Rattle.std.proofs.lemmas.List.{length-map}
use Rattle.base_words.specs.Fields.{Block}
use Rattle.fx_home.specs.declared.home.Home.{Home}
use Rattle.fx_header.specs.declared.slot.Slot.{Slot as Head}
use Rattle.fx_header.specs.declared.slot.Slot.TheVariants as head
use Rattle.fx_header.specs.declared.slot.HeaderFault.{HeaderFault}
use Rattle.fx_bitmap.specs.Bits.{bit_at}
use Rattle.plain_cat.specs.declared.cat.Cat.{Cat}
use Rattle.plain_rules.specs.Lookups.{file_in, file_at}
use Rattle.vol_spell.specs.declared.owner.Owner.{Owner}
use Rattle.vol_spell.specs.declared.owner.Owner.TheVariants.{Free, InFile, Outside, Leaked}
use Rattle.vol_spell.specs.Owners.{Owners, Moves, IsSpaceMove, IsDeathMove}
use Rattle.vol_spell.specs.Counts.{is_same_owner}
use Rattle.vol_spell.proofs.Moving.{still}
use Rattle.vol_parts.specs.declared.geometry.Geometry.{Geometry}
use Rattle.vol_parts.specs.declared.geometry.Part.{Part}
use Rattle.vol_parts.specs.declared.geometry.Part.TheVariants.{Header, IndexBitmap}
use Rattle.vol_parts.specs.Volumes.{volume, fields_in, is_in_slots}
use Rattle.vol_parts.specs.Catalogues.{slot_with}
use Rattle.vol_spell.specs.Reading.{IsFileNumber, header_block, fields_told, told_of, body_blocks, number_bit}
use Rattle.vol_spell.specs.Places.{place_of, IsPart, file_of_part}
use Rattle.vol_spell.specs.Spelling.{IsBlank, Spells}
use Rattle.vol_spell.specs.Kinds.{with_leaks}
use Rattle.vol_spell.specs.Owning.{IsNumberOf}
use Rattle.vol_spell.proofs.Owned.{each_is_owned}
use Rattle.vol_spell.proofs.Parts.{slot_there, told, part_owned, part_there}
use Rattle.vol_spell.proofs.Frames.{on_volume}
use Rattle.vol_spell.proofs.Viewing.{parts_stay, index_set}
use Rattle.vol_spell.proofs.Keeping.{index_write, death_leaks}
use Rattle.vol_mends.specs.Weak.{NoOuts}
use Rattle.vol_mends.specs.Going.{Change, Leaked as Leaks}
use Rattle.vol_mends.specs.Told.{IsTold, LeadsTo, KeepsSingles}
use Rattle.vol_mends.specs.Bits.{AreFileBits, numbers_left, NumbersAreSet}
use Rattle.vol_mends.proofs.WriteTold.{Owned, owned, changed, home_left, home_told}
use Rattle.vol_mends.proofs.OneWrite.{single_same}
use Rattle.vol_mends.proofs.Basics.{false_by}
use Rattle.vol_mends.proofs.Turned.{turned, turned_was, turned_is, turned_moves, turned_on, none_outside}
use Rattle.vol_mends.proofs.Parting.{no_number_out}
use Rattle.vol_mends.specs.Clean.{KeepsClean}
use Rattle.vol_mends.proofs.Cleaned.{clean_same, in_slots, slots_in}

-- ---- what is leaked goes to a node, and is free

abbrev pub taken : Owner → Owner
taken Free = Free
taken (InFile i) = InFile i
taken (Outside m) = Outside m
taken Leaked = Outside 0

abbrev pub given : Owner → Owner
given Free = Free
given (InFile i) = InFile i
given (Outside m) = Outside m
given Leaked = Free

pub take_moves : (x : Owner) → (taken x ≡ x) ⊎ (IsDeathMove 0 (Some x) × IsDeathMove 0 (Some (taken x)))
take_moves Free = inl refl
take_moves (InFile i) = inl refl
take_moves (Outside m) = inl refl
take_moves Leaked = inr (tt, refl)

pub give_moves : (x : Owner) → (given x ≡ taken x) ⊎ (IsSpaceMove 0 (Some (taken x)) × IsSpaceMove 0 (Some (given x)))
give_moves Free = inl refl
give_moves (InFile i) = inl refl
give_moves (Outside m) = inl refl
give_moves Leaked = inr (refl, tt)

pub given_out : (m : ℕ) (x : Owner) → given x ≡ Outside m → x ≡ Outside m
given_out m Free e = absurd (cc e)
given_out m (InFile i) e = absurd (cc e)
given_out m (Outside k) e = e
given_out m Leaked e = absurd (cc e)

not_leaked : (x : Owner) → is_same_owner Leaked (taken x) ≡ false
unfolding is_same_owner
not_leaked Free = refl
not_leaked (InFile i) = refl
not_leaked (Outside m) = refl
not_leaked Leaked = refl

-- a write to another part than a header leaves directories
pub parts_single : (g : Geometry) (bs : List Block) (own now : Owners) (c d : Cat) (p : Part) (b : Block) → Spells g bs own c → Spells g (slice_set bs (place_of g p) b) now d → IsPart g p → ((n : ℕ) → p ≢ Header n) → KeepsSingles g bs (slice_set bs (place_of g p) b)
parts_single g bs own now c d p b s t is other n number single =
    single_same g bs (slice_set bs (place_of g p) b) own now c d s t n number (parts_stay g bs own c n (place_of g p) p b s number (part_there g bs own c s p is) (λ m t. other m)) single

-- and clean blocks
pub parts_clean : (g : Geometry) (bs : List Block) (own : Owners) (c : Cat) (p : Part) (b : Block) → Spells g bs own c → IsPart g p → ((n : ℕ) → p ≢ Header n) → KeepsClean g bs (slice_set bs (place_of g p) b)
parts_clean g bs own c p b s is other =
    clean_same g bs (slice_set bs (place_of g p) b) (λ n number. parts_stay g bs own c n (place_of g p) p b s number (part_there g bs own c s p is) (λ m t. other m))

-- ---- numbers

slot_used : (k n : ℕ) (r : Result Head HeaderFault) (blocks : List Block) → is_some (file_in (Some (slot_with k n r blocks))) ≡ is_some (fields_in r)
slot_used k n (Ok (head.Used f)) blocks = refl
slot_used k n (Ok (head.Free seq)) blocks = refl
slot_used k n (Err fault) blocks = refl

-- a file is there where its header is in use
pub file_used : (g : Geometry) (bs : List Block) (own : Owners) (c : Cat) → Spells g bs own c → (n : ℕ) → IsFileNumber g n → is_some (file_at c n) ≡ is_some (fields_told (header_block g bs n))
file_used g bs own c s n is =
    let from = is.from in
    let some : (n == 0) ≡ false = not_zero n from in
    ap (λ b. is_some (file_in (cond b None (slice_get c.files (n - 1))))) some
    ∙ (ap (λ x. is_some (file_in x)) (slot_there g bs own c s n is ∙ ap (λ x. Some x) (sym (told g bs own c s n is).slot))
    ∙ slot_used g.cluster n (told_of g bs n).head (body_blocks bs n (told_of g bs n)))
  where
    not_zero : (n : ℕ) → 1 ≤ n → (n == 0) ≡ false
    not_zero n low = grind (arith, nat_tests)

-- whether what has this owner is a file's
abbrev pub is_filed : Owner → Bool
is_filed Free = false
is_filed (InFile i) = true
is_filed (Outside m) = false
is_filed Leaked = false

module _ (g : Geometry) (bs : List Block) (c : Cat) (home : Home) (b : Block) (are : AreFileBits g bs c home b) where
  abbrev o : Owned g bs c
  o = owned g bs c are.told

  abbrev new : List Block
  new = slice_set bs (place_of g IndexBitmap) b

  abbrev mid : Owners
  mid = record { clusters = (owned g bs c are.told).own.clusters; numbers = turned (λ q. taken) 0 (owned g bs c are.told).own.numbers }

  abbrev end : Owners
  end = record { clusters = (owned g bs c are.told).own.clusters; numbers = turned (λ q. given) 0 (owned g bs c are.told).own.numbers }

  held : Spells g bs mid (with_leaks mid c)
  held = death_leaks g bs o.own mid c 0 o.spells (record { clusters = still (IsDeathMove 0) o.own.clusters; numbers = turned_moves (IsDeathMove 0) (λ q. taken) o.own.numbers (λ q x at. take_moves x) })

  part : IsPart g IndexBitmap
  part = tt

  home_is : home ≡ record { cluster = g.cluster; files = g.files; label = home.label }
  home_is = home_told g bs o.own c o.spells home are.read

  -- a number that is not a file's is in no slots
  not_in : (n : ℕ) (x : Owner) → IsNumberOf g bs n x → ((i : ℕ) → x ≡ InFile i → ⊥) → is_in_slots (volume (record { cluster = g.cluster; files = g.files; label = home.label }) bs) n ≡ false
  not_in n x k other = false_by _ (λ e. let r = in_slots home.label g bs o.own c o.spells n e in other r.file ((k.slots r.file r.number).0 r.slot))

  filed : (n : ℕ) (x : Owner) → IsNumberOf g bs n x → is_in_slots (volume (record { cluster = g.cluster; files = g.files; label = home.label }) bs) n ≡ is_filed x
  filed n (InFile i) k = let is = k.known i refl in slots_in home.label g bs o.own c o.spells n i is ((k.slots i is).1 refl)
  filed n Free k = not_in n Free k (λ i e. cc e)
  filed n (Outside m) k = not_in n (Outside m) k (λ i e. cc e)
  filed n Leaked k = not_in n Leaked k (λ i e. cc e)

  -- the bit of a number whose owner is told
  bit_of : (n : ℕ) → IsFileNumber g n → (x : Owner) → IsNumberOf g bs n x → bit_at b (n - 1) ≡ is_filed x
  bit_of n is x k = are.bits n is ∙ (ap (λ (h : Home). is_in_slots (volume h bs) n) home_is ∙ filed n x k)

  free_bits : (n : ℕ) → IsFileNumber g n → (number_bit g new n ≡ false) ↔ (slice_get end.numbers (n - 1) ≡ Some Free)
  free_bits n is =
      let r = each_is_owned.numbers g bs o.own c n o.spells is in
      let seen : number_bit g new n ≡ bit_at b (n - 1) = index_set g bs o.own c (place_of g IndexBitmap) b o.spells (part_there g bs o.own c o.spells IndexBitmap part) n in
      let now : slice_get end.numbers (n - 1) ≡ Some (given r.0) = turned_is (λ q. given) o.own.numbers (n - 1) r.0 r.1 in (
        (λ e. now ∙ ap (λ x. Some x) (free_by r.0 r.1 (sym (bit_of n is r.0 r.2) ∙ (sym seen ∙ e)))),
        (λ e. let both : Some (given r.0) ≡ Some Free = sym now ∙ e in seen ∙ (bit_of n is r.0 r.2 ∙ bit_free r.0 (cc both))),
      )
    where
      free_by : (x : Owner) → slice_get o.own.numbers (n - 1) ≡ Some x → is_filed x ≡ false → given x ≡ Free
      free_by Free at e = refl
      free_by Leaked at e = refl
      free_by (InFile i) at e = absurd (let h : true ≡ false = e in cc h)
      free_by (Outside m) at e = absurd (no_number_out o.own o.outs (n - 1) m at)

      bit_free : (x : Owner) → given x ≡ Free → is_filed x ≡ false
      bit_free Free e = refl
      bit_free Leaked e = refl
      bit_free (InFile i) e = absurd (cc e)
      bit_free (Outside m) e = absurd (cc e)

  -- the slot of a number that is free then is no file's, so it is free
  blank : (n : ℕ) → IsFileNumber g n → slice_get mid.numbers (n - 1) ≢ Some Free → slice_get end.numbers (n - 1) ≡ Some Free → IsBlank (header_block g bs n)
  blank n is was e =
      let r = each_is_owned.numbers g bs o.own c n o.spells is in
      let now : slice_get end.numbers (n - 1) ≡ Some (given r.0) = turned_is (λ q. given) o.own.numbers (n - 1) r.0 r.1 in
      let both : Some (given r.0) ≡ Some Free = sym now ∙ e in
      are.clean.strays n is (λ i number t. no_file r.0 i (cc both) ((r.2.slots i number).0 t))
    where
      no_file : (x : Owner) (i : ℕ) → given x ≡ Free → x ≡ InFile i → ⊥
      no_file Free i e f = cc f
      no_file (InFile j) i e f = cc e
      no_file (Outside m) i e f = cc f
      no_file Leaked i e f = cc f

  moves : Moves (IsSpaceMove 0) mid.numbers end.numbers
  moves = turned_on (IsSpaceMove 0) (λ q. taken) (λ q. given) o.own.numbers (λ q x at. give_moves x)

  set_now : Spells g new end (with_leaks mid c)
  set_now =
      index_write g bs mid end (with_leaks mid c) 0 (place_of g IndexBitmap) b held are.whole (part_there g bs o.own c o.spells IndexBitmap part) refl moves free_bits blank

  no_flags : (i : ℕ) (xs : List Owner) → map (is_same_owner Leaked) (turned (λ q. taken) i xs) ≡ map (λ (t : Bool). false) (map (is_same_owner Leaked) xs)
  no_flags i [] = refl
  no_flags i (x ∷ xs) = let first = not_leaked x in let rest = no_flags (suc i) xs in λ j. first j ∷ rest j

  cat_is : with_leaks mid c ≡ numbers_left c
  cat_is =
      let k = sym o.spells.owners.leaked in
      let ns = no_flags 0 o.own.numbers ∙ ap (λ xs. map (λ (t : Bool). false) xs) (sym o.spells.owners.leaked_numbers) in
      λ i. record c { leaked = k i; leaked_numbers = ns i }

  spelt : Spells g new end (numbers_left c)
  spelt = subst (λ (x : Cat). Spells g new end x) cat_is set_now

  change : Change c (numbers_left c)
  change = Leaks c.leaked (map (λ (t : Bool). false) c.leaked_numbers) (length-map c.leaked_numbers (λ (t : Bool). false))

  outs : NoOuts end
  outs node = record {
    clusters = (o.outs node).clusters;
    numbers = none_outside node end.numbers (λ q e. let r = turned_was (λ q. given) o.own.numbers q (Outside node) e in no_number_out o.own o.outs q node (r.1 ∙ ap (λ x. Some x) (given_out node r.0 r.2)));
  }

  home_apart : 1 ≢ place_of g IndexBitmap
  home_apart e = let low = o.spells.counts.geometry.cluster_from in omega (arith, e, low)

  index_leads : LeadsTo g bs c (numbers_left c) new
  index_leads = changed g bs new end c (numbers_left c) are.told change spelt outs (home_left bs (place_of g IndexBitmap) b home_apart)

  index_singles : KeepsSingles g bs new
  index_singles = parts_single g bs o.own end c (numbers_left c) IndexBitmap b o.spells spelt part (λ n e. cc e)

  index_clean : KeepsClean g bs new
  index_clean = parts_clean g bs o.own c IndexBitmap b o.spells part (λ n e. cc e)

pub part_on : (g : Geometry) (bs : List Block) (c : Cat) (p : Part) → IsTold g bs c → IsPart g p → place_of g p < length bs
part_on g bs c p t is = let o = owned g bs c t in on_volume g bs o.own c o.spells (place_of g p) (InFile (file_of_part p)) (part_owned g bs o.own c o.spells p is)

pub numbers_are_set : NumbersAreSet
numbers_are_set = record { leads = index_leads; singles = index_singles; clean = index_clean; within = λ g bs c t. part_on g bs c IndexBitmap t tt }
