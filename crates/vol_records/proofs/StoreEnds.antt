-- What is known when bytes are to be stored, and how it ends.
use Rattle.std.proofs.Common.{◌≡◌, ◌∙◌, ◌≤◌, ◌<◌, ◌+◌, ◌*◌, ◌++◌, ℕ, false, true, List, [], ◌∷◌, Option, Some, None, Result, Ok, Err, length, take, slice_get, refl, sym, ap, subst, inl, All, arith, Bool, cond, not, nat_le, nat_lt}
use Rattle.std.specs.Prelude.{slice_index_or, ◌==◌, ◌||◌}
use Rattle.std.proofs.lemmas.List.{take_all}
use Rattle.std.proofs.lemmas.Option.{get_or_from_slice_get}
use Rattle.base_words.specs.Fields.{Block, IsBytes, AreWholeBlocks}
use Rattle.base_words.specs.Lists.{written}
use Rattle.fx_home.specs.declared.home.Home.{Home}
use Rattle.fx_home.specs.Homes.{home_read}
use Rattle.fx_header.specs.declared.slot.Hdr.{Hdr}
use Rattle.fx_header.specs.Pointers.{lbns_in}
use Rattle.vol_faults.specs.Conditions.{IsSize}
use Rattle.vol_parts.specs.Volumes.{volume, IsNumber, runs}
use Rattle.vol_parts.specs.Findings.{home_at, Accepts, IsReadable}
use Rattle.vol_spell.specs.Lbns.{lbns_at}
use Rattle.vol_records.specs.declared.types.StoreFault.{StoreFault}
use Rattle.vol_records.specs.declared.types.StoreFault.TheVariants.{NoPriv, NotEmpty, NoRoom, NoMemory, ImageFault}
use Rattle.vol_records.specs.Making.{placed, IsMade}
use Rattle.vol_records.specs.Storing.{used_file, refusal_by, store_refusal, chunks, blocks_for, IsSafe, IsStored, IsStoring, stored_header, store_writes, writes_at}
use Rattle.vol_records.proofs.Made.{none_made, all_made, made_as, made_full}
use Rattle.vol_records.proofs.StoreSafe.{StoresSafely, number_of, storing_is_safe, accepted_weak, lbns_told}
use Rattle.vol_records.proofs.StoreWrites.{none_written}

-- what was read of the drive, and what was found: no refusal
pub record IsFree (home : Home) (bs all : List Block) (b : Block) (n seq len : ℕ) (bytes : List ℕ) : Type 0 where
  pub size : IsSize (length bs)
  pub whole : AreWholeBlocks bs
  pub accepted : Accepts bs
  pub first : slice_get bs 1 ≡ Some b
  pub read : Ok home ≡ home_read b
  pub all_is : all ≡ bs
  pub len_is : len ≡ length bytes
  pub free : None ≡ store_refusal (volume home all) n seq len

module _ (home : Home) (bs all : List Block) (b : Block) (n seq len : ℕ) (bytes : List ℕ) (is : IsFree home bs all b n seq len bytes) where
  free_here : store_refusal (volume home bs) n seq (length bytes) ≡ None
  free_here = ap (λ k. store_refusal (volume home bs) n seq k) (sym is.len_is) ∙ (ap (λ (x : List Block). store_refusal (volume home x) n seq len) (sym is.all_is) ∙ sym is.free)

  home_here : home_read (home_at bs) ≡ Ok home
  home_here = ap home_read (get_or_from_slice_get bs 1 b [] is.first) ∙ sym is.read

  pub number_is : (other : List Block) → IsNumber (volume home other) n
  number_is other = let k = number_of (volume home bs) n seq (length bytes) free_here in record { from = k.from; to = k.to }

  told_here : lbns_at bs n ≡ Some (lbns_in (runs (volume home bs) n))
  told_here = lbns_told home bs n seq (length bytes) home_here free_here

  -- what is told of the LBNs of the file's blocks
  pub listed : (other : List Block) (o : Option (List ℕ)) (ls : List ℕ) → other ≡ bs → o ≡ lbns_at other n → o ≡ Some ls → ls ≡ lbns_in (runs (volume home bs) n)
  listed other o ls other_is told at =
      let both : Some ls ≡ Some (lbns_in (runs (volume home bs) n)) = sym at ∙ (told ∙ (ap (λ (x : List Block). lbns_at x n) other_is ∙ told_here)) in
      cc both

  pub always_listed : (other : List Block) (o : Option (List ℕ)) → other ≡ bs → o ≡ lbns_at other n → o ≡ None → ⊥
  always_listed other o other_is told at =
      let both : None ≡ Some (lbns_in (runs (volume home bs) n)) = sym at ∙ (told ∙ (ap (λ (x : List Block). lbns_at x n) other_is ∙ told_here)) in
      absurd (cc both)

  pub safe_is : IsBytes bytes → StoresSafely home bs n seq bytes
  safe_is ranged = storing_is_safe home bs n seq bytes (record {
    size = is.size;
    whole = is.whole;
    accepted = is.accepted;
    read = home_here;
    free = free_here;
    ranged = ranged;
  })

-- ---- the blocks of the file

-- an accepted volume can be read
pub readable : (bs : List Block) → Accepts bs → IsReadable bs
readable bs accepted f fatal = absurd (accepted_weak bs accepted f fatal)

-- what is to be written
pub record IsPlanned (home : Home) (bs : List Block) (n len lbn : ℕ) (bytes items : List ℕ) (ls : List ℕ) (head hb : Block) : Type 0 where
  pub places : ls ≡ lbns_in (runs (volume home bs) n)
  pub items_are : items ≡ bytes
  pub lbn_is : lbn ≡ 4 * home.cluster + n
  pub there : slice_get bs lbn ≡ Some hb
  pub head_is : head ≡ stored_header hb len
  pub len_is : len ≡ length bytes

pub planned : (home : Home) (bs : List Block) (n len lbn : ℕ) (bytes items : List ℕ) (ls : List ℕ) (head hb : Block) → IsPlanned home bs n len lbn bytes items ls head hb
    → placed ls (chunks (blocks_for (length items)) items) ++ (lbn, head) ∷ [] ≡ store_writes (volume home bs) n bytes
planned home bs n len lbn bytes items ls head hb p =
    let hb_is = get_or_from_slice_get bs lbn hb [] p.there in
    let head_at = p.head_is ∙ (ap (λ k. stored_header hb k) p.len_is ∙ (ap (λ (x : Block). stored_header x (length bytes)) (sym hb_is) ∙ ap (λ l. stored_header (slice_index_or bs l []) (length bytes)) p.lbn_is)) in
    ap (λ (xs : List ℕ). placed xs (chunks (blocks_for (length items)) items) ++ (lbn, head) ∷ []) p.places
    ∙ (ap (λ (xs : List ℕ). placed (lbns_in (runs (volume home bs) n)) (chunks (blocks_for (length xs)) xs) ++ (lbn, head) ∷ []) p.items_are
    ∙ (ap (λ (x : Block). placed (lbns_in (runs (volume home bs) n)) (chunks (blocks_for (length bytes)) bytes) ++ (lbn, x) ∷ []) head_at
    ∙ ap (λ l. placed (lbns_in (runs (volume home bs) n)) (chunks (blocks_for (length bytes)) bytes) ++ (l, stored_header (slice_index_or bs (4 * home.cluster + n) []) (length bytes)) ∷ []) p.lbn_is))

-- ---- ends

-- what was made of writes that are safe is safe, on the drive and on the image
is_storing : (old new : List Block) (n seq : ℕ) (bytes : List ℕ) (ws : List (ℕ × Block)) (t u : Option (List Block)) (f g : ℕ) (P : Type 0) → (k : ℕ) × (ws ≡ take k (writes_at old n bytes))
    → ((k : ℕ) → IsSafe old n seq bytes (written (take k ws) old)) → IsMade ws old new t u f g P → IsStoring old new n seq bytes t u f g P
is_storing old new n seq bytes ws t u f g P first safe made = record {
  writes = ws;
  first = first;
  safe = safe;
  made = made;
  left = subst (λ (x : List Block). IsSafe old n seq bytes x) (sym made.made) (safe made.count);
  image = λ s. (let i = made.image s in record { blocks = written (take i.count ws) old; there = i.there; safe = safe i.count });
}

-- nothing is written
pub nothing_stored : (bs : List Block) (n seq : ℕ) (bytes : List ℕ) (t : Option (List Block)) (f : ℕ) (P : Type 0) → Accepts bs → (P → ⊥) → IsStoring bs bs n seq bytes t t f f P
nothing_stored bs n seq bytes t f P accepted none =
    is_storing bs bs n seq bytes [] t t f f P (0, refl) (λ k. subst (λ (x : List Block). IsSafe bs n seq bytes x) (sym (none_written k bs)) (inl (record { count = 0; made = refl; accepted = accepted; left = λ c told. told })))
    (all_made [] bs bs t t f f 0 P (none_made [] bs t f) refl none)

-- memory ran out, so no write failed
pub no_write : (r : Result ℕ StoreFault) (x : StoreFault) → r ≡ Err x → x ≡ NoMemory → r ≡ Err ImageFault → ⊥
no_write r x e none f =
    let both : Err NoMemory ≡ Err ImageFault = ap (λ (y : StoreFault). Err y) (sym none) ∙ (sym e ∙ f) in
    absurd (cc both)

-- the writes were made, or one failed
pub storing : (home : Home) (old new : List Block) (n seq : ℕ) (bytes : List ℕ) (ws : List (ℕ × Block)) (t u : Option (List Block)) (f g : ℕ) (P Q : Type 0) → StoresSafely home old n seq bytes
    → ws ≡ store_writes (volume home old) n bytes → (P → Q) → (Q → P) → IsMade ws old new t u f g P → IsStoring old new n seq bytes t u f g Q
storing home old new n seq bytes ws t u f g P Q safe same to from made =
    is_storing old new n seq bytes (writes_at old n bytes) t u f g Q (length (writes_at old n bytes), sym (take_all (length (writes_at old n bytes)) (writes_at old n bytes) (omega arith))) safe.safe
    (subst (λ (vs : List (ℕ × Block)). IsMade vs old new t u f g Q) (same ∙ sym safe.writes) (made_as ws old new t u f g P Q to from made))

-- all were made
pub stored_all : (home : Home) (old new : List Block) (n seq : ℕ) (bytes : List ℕ) (ws : List (ℕ × Block)) (t u : Option (List Block)) (f g : ℕ) (P : Type 0) → StoresSafely home old n seq bytes
    → ws ≡ store_writes (volume home old) n bytes → (P → ⊥) → IsMade ws old new t u f g P → IsStored old new n seq bytes
stored_all home old new n seq bytes ws t u f g P safe same well made =
    subst (λ (x : List Block). IsStored old x n seq bytes) (sym (made_full ws old new t u f g P made well ∙ ap (λ (vs : List (ℕ × Block)). written vs old) (same ∙ sym safe.writes))) safe.all

-- what the writes ask for
pub record AreAsked (bs : List Block) (len lbn : ℕ) (items ls : List ℕ) : Type 0 where
  pub inside : All (λ l. l < length bs) ls
  pub room : blocks_for (length items) ≤ length ls
  pub few : length items ≤ 33554432
  pub header : lbn < length bs
  pub short : len ≤ 33554432

pub asked : (home : Home) (bs : List Block) (n seq len lbn : ℕ) (bytes items ls : List ℕ) → StoresSafely home bs n seq bytes → ls ≡ lbns_in (runs (volume home bs) n) → items ≡ bytes
    → lbn ≡ 4 * home.cluster + n → len ≡ length bytes → AreAsked bs len lbn items ls
asked home bs n seq len lbn bytes items ls safe here items_are lbn_is len_is =
    let many : length items ≡ length bytes = ap length items_are in
    let enough = safe.room in
    let few = safe.few in
    let head = safe.header in
    record {
      inside = subst (λ (xs : List ℕ). All (λ l. l < length bs) xs) (sym here) safe.inside;
      room = subst (λ (xs : List ℕ). blocks_for (length items) ≤ length xs) (sym here) (subst (λ k. blocks_for k ≤ length (lbns_in (runs (volume home bs) n))) (sym many) enough);
      few = omega (arith, many, few);
      header = omega (arith, lbn_is, head);
      short = omega (arith, len_is, few);
    }

-- a refusal is no fault of the image
pub not_fault : (home : Home) (bs : List Block) (n seq len : ℕ) (fault : StoreFault) → Some fault ≡ store_refusal (volume home bs) n seq len → ◌≡◌ {A = Result ℕ StoreFault} (Err fault) (Err ImageFault) → ⊥
unfolding store_refusal
not_fault home bs n seq len fault is same =
    let one : fault ≡ ImageFault = cc same in
    never (used_file (volume home bs) n seq) (sym is ∙ ap (λ (x : StoreFault). Some x) one)
  where
    by_tests : (a b d : Bool) → cond a (Some NoPriv) (cond (not b) (Some NotEmpty) (cond d (Some NoRoom) None)) ≡ Some ImageFault → ⊥
    by_tests true b d e = absurd (cc e)
    by_tests false false d e = absurd (cc e)
    by_tests false true true e = absurd (cc e)
    by_tests false true false e = absurd (cc e)

    never : (o : Option Hdr) → refusal_by n len o ≡ Some ImageFault → ⊥
    never None e = absurd (cc e)
    never (Some f) e = by_tests (nat_le n 11 || f.dir) (f.mark == 1) (nat_lt (512 * f.blocks) len) e
