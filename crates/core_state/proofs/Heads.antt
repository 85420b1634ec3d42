-- The headers after writes that leave the runs of directories.
use Rattle.std.proofs.Common.{◌≡◌, ◌<◌, ◌⊎◌, ◌∙◌, ℕ, zero, suc, Bool, true, false, List, [], ◌∷◌, Option, Some, None, Result, Ok, length, map, slice_get, slice_set, length-set, refl, sym, ap, subst, inl, inr, arith}
use Rattle.std.specs.Prelude.{slice_index_or}
use Rattle.std.proofs.lemmas.Option.{slice_get_within}
use Rattle.base_words.specs.Fields.{Block}
use Rattle.fx_header.specs.declared.slot.Slot.{Slot as Head}
use Rattle.fx_header.specs.declared.slot.Slot.TheVariants as head
use Rattle.fx_header.specs.declared.slot.HeaderFault.{HeaderFault}
use Rattle.fx_header.specs.Headers.{header_read}
use Rattle.lock_db.specs.declared.name.LockName.{LockName}
use Rattle.lock_db.specs.declared.name.LockName.TheVariants.{S}
use Rattle.plain_cat.specs.declared.cat.Cat.{Cat}
use Rattle.base_words.specs.Lists.{Has, written}
use Rattle.vol_spell.specs.Owners.{Owners}
use Rattle.base_words.proofs.Listing.{same_or_not}
use Rattle.base_words.proofs.ListWrites.{get-set_else, get-set_here, length-written}
use Rattle.vol_parts.specs.declared.geometry.Geometry.{Geometry}
use Rattle.vol_parts.specs.declared.geometry.Part.TheVariants.{Header}
use Rattle.vol_parts.specs.Parts.{part_of}
use Rattle.vol_parts.specs.Chains.{as_first}
use Rattle.vol_parts.specs.Volumes.{fields_in}
use Rattle.vol_spell.specs.Reading.{IsFileNumber, owner_at, header_place, header_block, fields_told}
use Rattle.vol_spell.specs.Spelling.{Spells}
use Rattle.vol_spell.proofs.Parts.{part_there}
use Rattle.vol_under.specs.Guards.{Guard, Lock, Stock, guard_by, guard_of}
use Rattle.vol_under.specs.UnderWay.{bare}
use Rattle.op_law.specs.declared.need.PlanWrite.{PlanWrite}
use Rattle.op_law.specs.Laws.{planned, AreNamed, is_dir_told, KeepsRuns, NoDir, Same, LeavesDirs}
use Rattle.core_state.specs.Staying.{HeadsStay, IsFreed, HeadsLeft, IsFreedBy, GuardedOrFreed}
use Rattle.core_state.proofs.Guarded.{dirs_stay}

-- ---- a block after writes

-- it is as it was, or what one of the writes has made it
written_at : (ws : List PlanWrite) (bs : List Block) (l : ℕ) → l < length bs
    → (slice_get (written (bare (map planned ws)) bs) l ≡ slice_get bs l) ⊎ ((w : PlanWrite) × Has ws w × (w.lbn ≡ l) × (slice_get (written (bare (map planned ws)) bs) l ≡ Some w.block))
written_at [] bs l lt = inl refl
written_at (w ∷ ws) bs l lt = by_rest (written_at ws (slice_set bs w.lbn w.block) l (let e : length (slice_set bs w.lbn w.block) ≡ length bs = length-set bs w.lbn w.block in omega (arith, e, lt))) where
  by_rest : (slice_get (written (bare (map planned ws)) (slice_set bs w.lbn w.block)) l ≡ slice_get (slice_set bs w.lbn w.block) l) ⊎ ((v : PlanWrite) × Has ws v × (v.lbn ≡ l) × (slice_get (written (bare (map planned ws)) (slice_set bs w.lbn w.block)) l ≡ Some v.block))
      → (slice_get (written (bare (map planned ws)) (slice_set bs w.lbn w.block)) l ≡ slice_get bs l) ⊎ ((v : PlanWrite) × Has (w ∷ ws) v × (v.lbn ≡ l) × (slice_get (written (bare (map planned ws)) (slice_set bs w.lbn w.block)) l ≡ Some v.block))
  by_rest (inr h) = inr (h.0, inr h.1, h.2, h.3)
  by_rest (inl e) = elim (same_or_not w.lbn l) [
    | inl is ↦ inr (w, inl refl, is, e ∙ subst (λ (k : ℕ). slice_get (slice_set bs w.lbn w.block) k ≡ Some w.block) is (get-set_here bs w.lbn w.block (subst (λ (k : ℕ). k < length bs) (sym is) lt)))
    | inr ne ↦ inl (e ∙ get-set_else bs w.lbn l w.block ne)
  ]

block_or : Option Block → Block → Block
block_or None d = d
block_or (Some b) d = b

got : (bs : List Block) (l : ℕ) (d : Block) → slice_index_or bs l d ≡ block_or (slice_get bs l) d
unfolding block_or
got [] l d = refl
got (b ∷ bs) zero d = refl
got (b ∷ bs) (suc l) d = got bs l d

some_got : (bs : List Block) (l : ℕ) (d b : Block) → slice_get bs l ≡ Some b → slice_index_or bs l d ≡ b
unfolding block_or
some_got bs l d b e = got bs l d ∙ ap (λ o. block_or o d) e

same_got : (xs ys : List Block) (l : ℕ) (d : Block) → slice_get xs l ≡ slice_get ys l → slice_index_or xs l d ≡ slice_index_or ys l d
same_got xs ys l d e = got xs l d ∙ ap (λ o. block_or o d) e ∙ sym (got ys l d)

-- a header is as it was, or what one of the writes has made it
pub head_after : (g : Geometry) (ws : List PlanWrite) (bs : List Block) (i : ℕ) → (header_block g (written (bare (map planned ws)) bs) i ≡ header_block g bs i)
    ⊎ ((w : PlanWrite) × Has ws w × (w.lbn ≡ header_place g i) × (header_block g (written (bare (map planned ws)) bs) i ≡ w.block))
head_after g ws bs i = by_old (slice_get bs (header_place g i)) refl where
  new : List Block
  new = written (bare (map planned ws)) bs

  by_new : (o : Option Block) → slice_get (written (bare (map planned ws)) bs) (header_place g i) ≡ o → slice_get bs (header_place g i) ≡ None → slice_get (written (bare (map planned ws)) bs) (header_place g i) ≡ slice_get bs (header_place g i)
  by_new None e none = e ∙ sym none
  by_new (Some b) e none =
      let lt = slice_get_within (written (bare (map planned ws)) bs) (header_place g i) b e in
      let len : length (written (bare (map planned ws)) bs) ≡ length bs = length-written (bare (map planned ws)) bs in
      elim (written_at ws bs (header_place g i) (let a : header_place g i < length bs = omega (arith, lt, len) in a)) [ inl f ↦ f | inr h ↦ absurd (beyond bs (header_place g i) (let a : header_place g i < length bs = omega (arith, lt, len) in a) none) ] where
        beyond : (xs : List Block) (l : ℕ) → l < length xs → slice_get xs l ≡ None → ⊥
        beyond [] l lt e = absurd (omega arith)
        beyond (x ∷ xs) zero lt e = absurd (let f : Some x ≡ None = e in cc)
        beyond (x ∷ xs) (suc l) lt e = beyond xs l (omega arith) e

  by_old : (o : Option Block) → slice_get bs (header_place g i) ≡ o → (header_block g (written (bare (map planned ws)) bs) i ≡ header_block g bs i)
      ⊎ ((w : PlanWrite) × Has ws w × (w.lbn ≡ header_place g i) × (header_block g (written (bare (map planned ws)) bs) i ≡ w.block))
  by_old None e = inl (same_got (written (bare (map planned ws)) bs) bs (header_place g i) [] (by_new (slice_get (written (bare (map planned ws)) bs) (header_place g i)) refl e))
  by_old (Some b) e = elim (written_at ws bs (header_place g i) (slice_get_within bs (header_place g i) b e)) [
    | inl f ↦ inl (same_got (written (bare (map planned ws)) bs) bs (header_place g i) [] f)
    | inr h ↦ inr (h.0, h.1, h.2, some_got (written (bare (map planned ws)) bs) (header_place g i) [] h.0.block h.3)
  ]

-- ---- the runs of directories

-- a header leaves its own runs
its_own : (b : Block) → KeepsRuns b b
its_own b = by_dir (is_dir_told (fields_told b)) refl where
  by_dir : (t : Bool) → is_dir_told (fields_told b) ≡ t → KeepsRuns b b
  by_dir false e = NoDir e
  by_dir true e = Same e refl

module _ (g : Geometry) (base : List Block) (own : Owners) (c : Cat) (s : Spells g base own c) where
  header_part : (i : ℕ) → IsFileNumber g i → part_of g (header_place g i) ≡ Some (Header i)
  header_part i number = part_there g base own c s (Header i) number

  heads_so : (ws : List PlanWrite) → LeavesDirs g base ws → HeadsStay g base (written (bare (map planned ws)) base)
  heads_so ws leaves i number = elim (head_after g ws base i) [
    | inl e ↦ subst (KeepsRuns (header_block g base i)) (sym e) (its_own (header_block g base i))
    | inr h ↦ subst (KeepsRuns (header_block g base i)) (sym h.3) (leaves h.0 h.1 i (ap (part_of g) h.2 ∙ header_part i number))
  ]

pub heads_left : HeadsLeft
heads_left g base own c ws s leaves = heads_so g base own c s ws leaves

pub guard_lock : (a b : LockName) → Some (Lock a) ≡ Some (Lock b) → a ≡ b
guard_lock a b e = ap name_in e where
  name_in : Option Guard → LockName
  name_in (Some (Lock y)) = y
  name_in (Some (Stock m)) = a
  name_in None = a

pub no_stock : (a : LockName) (n : ℕ) → Some (Lock a) ≡ Some (Stock n) → ⊥
no_stock a n e = absurd (let f : true ≡ false = ap is_lock e in cc) where
  is_lock : Option Guard → Bool
  is_lock (Some (Lock y)) = true
  is_lock (Some (Stock m)) = false
  is_lock None = false

-- a slot that was a directory's, and has become free, was freed by a write under the lock of its file
freed_by : (g : Geometry) (base : List Block) (own : Owners) (c : Cat) (node : ℕ) (locks : List LockName) (ws : List PlanWrite) (name : LockName) → Spells g base own c → AreNamed node locks g own ws
    → IsFreed g base (written (bare (map planned ws)) base) name → IsFreedBy g ws name
freed_by g base own c node locks ws name s named freed = elim (head_after g ws base freed.number) [
  | inl e ↦ absurd (not_both (header_read (header_block g base freed.number)) freed.last (ap header_read (sym e) ∙ freed.slot) freed.was)
  | inr h ↦
      let part : part_of g h.0.lbn ≡ Some (Header freed.number) = ap (part_of g) h.2 ∙ header_part g base own c s freed.number freed.valid in
      let guard : guard_of g own h.0.lbn ≡ Some (Lock (S freed.number)) = ap (λ p. guard_by p (owner_at g own h.0.lbn)) part in
      record {
        number = freed.number;
        is = freed.is;
        write = h.0;
        has = h.1;
        lock = elim (named h.0 h.1).guards [
          | inl f ↦ guard_lock h.0.lock (S freed.number) (sym f ∙ guard) ∙ sym freed.is
          | inr f ↦ absurd (no_stock (S freed.number) node (sym guard ∙ f))
        ];
        place = h.2;
        last = freed.last;
        slot = ap header_read (sym h.3) ∙ freed.slot;
      }
] where
  not_both : (said : Result Head HeaderFault) (last : ℕ) → said ≡ Ok (head.Free last) → is_dir_told (fields_in (as_first said)) ≡ true → ⊥
  not_both said last e dir = absurd (let f : false ≡ true = sym (ap (λ x. is_dir_told (fields_in (as_first x))) e) ∙ dir in cc)

pub guarded_or_freed : GuardedOrFreed
guarded_or_freed g base own other c d node locks ws name l s after named leaves is =
    elim (dirs_stay g base (written (bare (map planned ws)) base) own other c d name l s after (heads_so g base own c s ws leaves) is) [
      | inl h ↦ inl h
      | inr freed ↦ inr (freed_by g base own c node locks ws name s named freed)
    ]
