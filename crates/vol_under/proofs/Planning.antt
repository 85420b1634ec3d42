-- What the rules for space leave of the drive under way.
use Rattle.std.proofs.Common.{◌≡◌, ◌≢◌, ◌≤◌, ℕ, List, [], ◌∷◌, Option, Some, None, length, slice_get, slice_set, refl, sym, ap, subst, ◌∙◌, inl, inr}
use Rattle.base_words.specs.Fields.{Block}
use Rattle.lock_db.specs.declared.name.LockName.{LockName}
use Rattle.lock_db.specs.declared.name.LockName.TheVariants.{S, Q, X, V}
use Rattle.plain_cat.specs.declared.cat.Cat.{Cat}
use Rattle.vol_spell.specs.declared.owner.Owner.{Owner}
use Rattle.vol_spell.specs.declared.owner.Owner.TheVariants.{Free, InFile, Outside, Leaked}
use Rattle.base_words.specs.Lists.{Has, Touches, StandsIn}
use Rattle.vol_spell.specs.Owners.{Owners, OwnersMove, IsSpaceMove, Things, Outs}
use Rattle.vol_spell.proofs.Moving.{moves_grow}
use Rattle.base_words.proofs.ListWrites.{stands_still}
use Rattle.vol_parts.specs.declared.geometry.Geometry.{Geometry}
use Rattle.vol_parts.specs.declared.geometry.Part.{Part}
use Rattle.vol_parts.specs.declared.geometry.Part.TheVariants.{Header, IndexBitmap, Storage, Quota}
use Rattle.vol_parts.specs.Parts.{part_of}
use Rattle.vol_spell.specs.Reading.{owner_at}
use Rattle.vol_under.specs.Guards.{Guard, guard_by_owner, guard_by, guard_of, MayWrite, MayLook, IsCommandMove}
use Rattle.vol_under.specs.UnderWay.{bare, UnderWay, writes_to, changed, AreSole}
use Rattle.vol_under.specs.Under.{IsLawful, IsUnder}
use Rattle.vol_under.specs.Keeping.{IsBitmap}
use Rattle.vol_under.proofs.Guarding.{guard_stays, command_write, command_look, space_look, space_command, alone, unlooked, outs_stay, bitmap_guard}
use Rattle.vol_under.proofs.Lying.{over_base, over_same}
use Rattle.vol_under.proofs.Nodes.{each, done_alike, done_in}
use Rattle.vol_under.specs.Planned.{BitsKeepWithPlan, LookKeepsWithPlan, ForgetKeeps, LowerKeeps}

-- ---- what stays

-- the law of a plan stays the node's with other stock
lawful_stock : (g : Geometry) (n : ℕ) (u : UnderWay) (kept : Things) → IsLawful g n u → IsLawful g n (record u { stock = kept })
lawful_stock g n u kept law base own c stock k spelt knows stands outs le =
    let h = law base own c stock k spelt knows stands outs le in
    record { new = h.new; cat = h.cat; stage = h.stage; spelt = h.spelt; moves = h.moves; outs = h.outs }

-- and where it has seen more
pub lawful_seen : (g : Geometry) (n : ℕ) (u : UnderWay) (l : ℕ) (b : Block) → IsLawful g n u → IsLawful g n (record u { seen = (l, b) ∷ u.seen })
lawful_seen g n u l b law base own c stock k spelt knows stands outs le =
    let h = law base own c stock k spelt knows stands.1 outs le in
    record { new = h.new; cat = h.cat; stage = h.stage; spelt = h.spelt; moves = h.moves; outs = h.outs }

-- and where it holds other locks, but those of files all the same
pub lawful_locks : (g : Geometry) (n : ℕ) (u : UnderWay) (read write : List LockName) → ((o : Option Owner) → IsCommandMove n u.write o → IsCommandMove n write o) → IsLawful g n u → IsLawful g n (record u { read = read; write = write })
lawful_locks g n u read write wider law base own c stock k spelt knows stands outs le =
    let h = law base own c stock k spelt knows stands outs le in
    record { new = h.new; cat = h.cat; stage = h.stage; spelt = h.spelt; moves = moves_grow (IsCommandMove n u.write) (IsCommandMove n write) wider own h.new h.moves; outs = h.outs }

-- what node n moves as a command leaves the guards of the other nodes
pub others_write : (g : Geometry) (nodes : ℕ → UnderWay) (own new : Owners) (n m l : ℕ) → AreSole nodes → OwnersMove (IsCommandMove n (nodes n).write) own new → m ≢ n → MayWrite m (nodes m).write (guard_of g own l) → MayWrite m (nodes m).write (guard_of g new l)
others_write g nodes own new n m l sole moves ne h =
    guard_stays (IsCommandMove n (nodes n).write) (λ x. MayWrite m (nodes m).write x) g own new l (command_write n m (nodes n).write (nodes m).write ne (λ x s t. ne (sym (sole.writers n m x s t)))) moves h

pub others_look : (g : Geometry) (nodes : ℕ → UnderWay) (own new : Owners) (n m l : ℕ) → AreSole nodes → OwnersMove (IsCommandMove n (nodes n).write) own new → m ≢ n → MayLook (nodes m).read (guard_of g own l) → MayLook (nodes m).read (guard_of g new l)
others_look g nodes own new n m l sole moves ne h =
    guard_stays (IsCommandMove n (nodes n).write) (λ x. MayLook (nodes m).read x) g own new l (command_look n (nodes n).write (nodes m).read (λ x s t. ne (sym (sole.readers n m x s t)))) moves h

pub stands_else : (base : List Block) (l : ℕ) (b : Block) (ss : List (ℕ × Block)) → (Touches ss l → ⊥) → StandsIn base ss → StandsIn (slice_set base l b) ss
stands_else base l b ss away s = stands_still ((l, b) ∷ []) base ss (λ k t u. away (elim t [ inl e ↦ subst (λ (j : ℕ). Touches ss j) (sym e) u | inr f ↦ absurd f ])) s

-- where no node but n may write to a block, and n has not written it, no node has
unwritten : (g : Geometry) (c : Cat) (nodes : ℕ → UnderWay) (drive : List Block) (n l : ℕ) (u : IsUnder g c nodes drive) → ((m : ℕ) → MayWrite m (nodes m).write (guard_of g u.own l) → m ≡ n)
    → (Touches (writes_to (nodes n).done (nodes n)) l → ⊥) → (m : ℕ) → Touches (writes_to (nodes m).done (nodes m)) l → ⊥
unwritten g c nodes drive n l u mine untouched m t =
    untouched (subst (λ (k : ℕ). Touches (writes_to (nodes k).done (nodes k)) l) (mine m (u.plan_guarded m l (done_in (nodes m) l t))) t)

-- ---- a bitmap write

pub bits_keep_with_plan : BitsKeepWithPlan
bits_keep_with_plan g c nodes drive n l old b stock sole u untouched bitmap holds unseen at refill guarded =
    let next : UnderWay = record (nodes n) { stock = stock } in
    let same : slice_get drive l ≡ slice_get u.base l = u.over.elsewhere l free in
    let law = refill u.base u.own u.spelt (u.outs n) (sym same ∙ at) in
    let moves : OwnersMove (IsCommandMove n (nodes n).write) u.own law.new = moves_grow (IsSpaceMove n) (IsCommandMove n (nodes n).write) (space_command n (nodes n).write) u.own law.new law.moves in
    let stands : StandsIn (slice_set u.base l b) (nodes n).seen = stands_else u.base l b (nodes n).seen unseen (u.stands n) in
    record {
      base = slice_set u.base l b;
      own = law.new;
      spelt = law.spelt;
      over = over_base (λ m. writes_to (nodes m).done (nodes m)) (λ m. writes_to (changed nodes n next m).done (changed nodes n next m)) u.base drive l b u.over (done_alike nodes n next refl) free;
      within = each (λ m v. v.done ≤ length v.plan) nodes n next (u.within n) (λ m ne. u.within m);
      stands = each (λ m v. StandsIn (slice_set u.base l b) v.seen) nodes n next stands
          (λ m ne. stands_else u.base l b (nodes m).seen (λ t. ne (sym (unlooked nodes sole n m (guard_of g u.own l) mine (u.seen_guarded m l t)))) (u.stands m));
      outs = each (λ m v. Outs m law.new v.took v.stock) nodes n next law.outs (λ m ne. outs_stay (IsCommandMove n (nodes n).write) m u.own law.new (nodes m).took (nodes m).stock moves ne (u.outs m));
      lawful = each (λ m v. IsLawful g m v) nodes n next (lawful_stock g n (nodes n) stock (u.lawful n)) (λ m ne. u.lawful m);
      plan_guarded = each (λ m v. (k : ℕ) → Touches (bare v.plan) k → MayWrite m v.write (guard_of g law.new k)) nodes n next (guarded (slice_set u.base l b) law.new law.spelt stands law.outs)
          (λ m ne k t. others_write g nodes u.own law.new n m k sole moves ne (u.plan_guarded m k t));
      seen_guarded = each (λ m v. (k : ℕ) → Touches v.seen k → MayLook v.read (guard_of g law.new k)) nodes n next
          (λ k t. guard_stays (IsSpaceMove n) (λ x. MayLook (nodes n).read x) g u.own law.new k (space_look n (nodes n).read) law.moves (u.seen_guarded n k t))
          (λ m ne k t. others_look g nodes u.own law.new n m k sole moves ne (u.seen_guarded m k t));
    } where
      mine : MayWrite n (nodes n).write (guard_of g u.own l)
      mine = let P : Option Guard → Type 0 = λ x. MayWrite n (nodes n).write x in subst P (sym (bitmap_guard g u.own l bitmap)) holds

      free : (m : ℕ) → Touches (writes_to (nodes m).done (nodes m)) l → ⊥
      free = unwritten g c nodes drive n l u (λ m may. alone nodes sole m n (guard_of g u.own l) may mine) untouched

-- ---- a look

pub look_keeps_with_plan : LookKeepsWithPlan
look_keeps_with_plan g c nodes drive n l b sole u untouched at guarded =
    let more : UnderWay = record (nodes n) { seen = (l, b) ∷ (nodes n).seen } in
    record {
      base = u.base;
      own = u.own;
      spelt = u.spelt;
      over = over_same (λ m. writes_to (nodes m).done (nodes m)) (λ m. writes_to (changed nodes n more m).done (changed nodes n more m)) u.base drive u.over (done_alike nodes n more refl);
      within = each (λ m v. v.done ≤ length v.plan) nodes n more (u.within n) (λ m ne. u.within m);
      stands = each (λ m v. StandsIn u.base v.seen) nodes n more (sym (u.over.elsewhere l free) ∙ at, u.stands n) (λ m ne. u.stands m);
      outs = each (λ m v. Outs m u.own v.took v.stock) nodes n more (u.outs n) (λ m ne. u.outs m);
      lawful = each (λ m v. IsLawful g m v) nodes n more (lawful_seen g n (nodes n) l b (u.lawful n)) (λ m ne. u.lawful m);
      plan_guarded = each (λ m v. (k : ℕ) → Touches (bare v.plan) k → MayWrite m v.write (guard_of g u.own k)) nodes n more (u.plan_guarded n) (λ m ne. u.plan_guarded m);
      seen_guarded = each (λ m v. (k : ℕ) → Touches v.seen k → MayLook v.read (guard_of g u.own k)) nodes n more
          (λ k t. elim t [ inl e ↦ subst (λ (j : ℕ). MayLook (nodes n).read (guard_of g u.own j)) e here | inr s ↦ u.seen_guarded n k s ]) (λ m ne. u.seen_guarded m);
    } where
      here : MayLook (nodes n).read (guard_of g u.own l)
      here = guarded u.base u.own u.spelt (u.stands n)

      free : (m : ℕ) → Touches (writes_to (nodes m).done (nodes m)) l → ⊥
      free = unwritten g c nodes drive n l u (λ m may. unlooked nodes sole m n (guard_of g u.own l) may here) untouched

-- ---- fewer blocks seen

pub stands_fewer : (base : List Block) (all : List (ℕ × Block)) (ss : List (ℕ × Block)) → ((b : ℕ × Block) → Has ss b → Has all b) → StandsIn base all → StandsIn base ss
stands_fewer base all [] among s = tt
stands_fewer base all (b ∷ ss) among s = (stood all (among b (inl refl)) s, stands_fewer base all ss (λ x t. among x (inr t)) s) where
  stood : (xs : List (ℕ × Block)) → Has xs b → StandsIn base xs → slice_get base b.0 ≡ Some b.1
  stood [] t s = absurd t
  stood (x ∷ xs) (inl e) s = subst (λ (y : ℕ × Block). slice_get base y.0 ≡ Some y.1) e s.0
  stood (x ∷ xs) (inr t) s = stood xs t s.1

touches_has : (ss : List (ℕ × Block)) (l : ℕ) → Touches ss l → (b : ℕ × Block) × Has ss b × (b.0 ≡ l)
touches_has [] l t = absurd t
touches_has (b ∷ ss) l (inl e) = (b, inl refl, e)
touches_has (b ∷ ss) l (inr t) = let h = touches_has ss l t in (h.0, inr h.1, h.2)

has_touches : (ss : List (ℕ × Block)) (b : ℕ × Block) → Has ss b → Touches ss b.0
has_touches [] b t = absurd t
has_touches (x ∷ ss) b (inl e) = inl (ap (λ (y : ℕ × Block). y.0) e)
has_touches (x ∷ ss) b (inr t) = inr (has_touches ss b t)

pub touches_fewer : (all ss : List (ℕ × Block)) (l : ℕ) → ((b : ℕ × Block) → Has ss b → Has all b) → Touches ss l → Touches all l
touches_fewer all ss l among t = let h = touches_has ss l t in subst (λ (k : ℕ). Touches all k) h.2 (has_touches all h.0 (among h.0 h.1))

unfoldable pub forget_keeps : ForgetKeeps
forget_keeps g c nodes drive n seen u among law =
    let fewer : UnderWay = record (nodes n) { seen = seen } in
    record {
      base = u.base;
      own = u.own;
      spelt = u.spelt;
      over = over_same (λ m. writes_to (nodes m).done (nodes m)) (λ m. writes_to (changed nodes n fewer m).done (changed nodes n fewer m)) u.base drive u.over (done_alike nodes n fewer refl);
      within = each (λ m v. v.done ≤ length v.plan) nodes n fewer (u.within n) (λ m ne. u.within m);
      stands = each (λ m v. StandsIn u.base v.seen) nodes n fewer (stands_fewer u.base (nodes n).seen seen among (u.stands n)) (λ m ne. u.stands m);
      outs = each (λ m v. Outs m u.own v.took v.stock) nodes n fewer (u.outs n) (λ m ne. u.outs m);
      lawful = each (λ m v. IsLawful g m v) nodes n fewer law (λ m ne. u.lawful m);
      plan_guarded = each (λ m v. (k : ℕ) → Touches (bare v.plan) k → MayWrite m v.write (guard_of g u.own k)) nodes n fewer (u.plan_guarded n) (λ m ne. u.plan_guarded m);
      seen_guarded = each (λ m v. (k : ℕ) → Touches v.seen k → MayLook v.read (guard_of g u.own k)) nodes n fewer
          (λ k t. u.seen_guarded n k (touches_fewer (nodes n).seen seen k among t)) (λ m ne. u.seen_guarded m);
    }

-- ---- fewer locks

-- the other locks stay
abbrev Stays : List LockName → List LockName → Type 0
Stays old new = (name : LockName) → (name ≡ V → ⊥) → (name ≡ X → ⊥) → Has old name → Has new name

file_stays : (old new : List LockName) (i : ℕ) → Stays old new → Has old (S i) → Has new (S i)
file_stays old new i stays h = stays (S i) (λ e. absurd (cc)) (λ e. absurd (cc)) h

quota_stays : (old new : List LockName) → Stays old new → Has old Q → Has new Q
quota_stays old new stays h = stays Q (λ e. absurd (cc)) (λ e. absurd (cc)) h

pub moves_stay : (n : ℕ) (old new : List LockName) → Stays old new → (o : Option Owner) → IsCommandMove n old o → IsCommandMove n new o
moves_stay n old new stays None a = a
moves_stay n old new stays (Some Free) a = a
moves_stay n old new stays (Some (InFile i)) a = file_stays old new i stays a
moves_stay n old new stays (Some (Outside m)) a = a
moves_stay n old new stays (Some Leaked) a = a

-- a part that is no bitmap
abbrev IsOther : Option Part → Type 0
IsOther p = (p ≡ Some IndexBitmap → ⊥) × ((k : ℕ) → p ≡ Some (Storage k) → ⊥)

write_by_owner : (n : ℕ) (old new : List LockName) → Stays old new → (o : Option Owner) → MayWrite n old (guard_by_owner o) → MayWrite n new (guard_by_owner o)
write_by_owner n old new stays None a = a
write_by_owner n old new stays (Some Free) a = a
write_by_owner n old new stays (Some (InFile i)) a = file_stays old new i stays a
write_by_owner n old new stays (Some (Outside m)) a = a
write_by_owner n old new stays (Some Leaked) a = a

pub write_by : (n : ℕ) (old new : List LockName) (p : Option Part) (o : Option Owner) → Stays old new → IsOther p → MayWrite n old (guard_by p o) → MayWrite n new (guard_by p o)
write_by n old new None o stays other a = write_by_owner n old new stays o a
write_by n old new (Some (Header m)) o stays other a = file_stays old new m stays a
write_by n old new (Some IndexBitmap) o stays other a = absurd (other.0 refl)
write_by n old new (Some (Storage k)) o stays other a = absurd (other.1 k refl)
write_by n old new (Some (Quota k)) o stays other a = quota_stays old new stays a

look_by_owner : (old new : List LockName) → Stays old new → (o : Option Owner) → MayLook old (guard_by_owner o) → MayLook new (guard_by_owner o)
look_by_owner old new stays None a = a
look_by_owner old new stays (Some Free) a = a
look_by_owner old new stays (Some (InFile i)) a = file_stays old new i stays a
look_by_owner old new stays (Some (Outside m)) a = a
look_by_owner old new stays (Some Leaked) a = a

pub look_by : (old new : List LockName) (p : Option Part) (o : Option Owner) → Stays old new → IsOther p → MayLook old (guard_by p o) → MayLook new (guard_by p o)
look_by old new None o stays other a = look_by_owner old new stays o a
look_by old new (Some (Header m)) o stays other a = file_stays old new m stays a
look_by old new (Some IndexBitmap) o stays other a = absurd (other.0 refl)
look_by old new (Some (Storage k)) o stays other a = absurd (other.1 k refl)
look_by old new (Some (Quota k)) o stays other a = quota_stays old new stays a

pub is_other : (g : Geometry) (l : ℕ) → (IsBitmap g l → ⊥) → IsOther (part_of g l)
is_other g l away = ((λ e. away (inl e)), (λ k e. away (inr (k, e))))

unfoldable pub lower_keeps : LowerKeeps
lower_keeps g c nodes drive n read write u reads writes unseen unplanned =
    let next : UnderWay = record (nodes n) { read = read; write = write } in
    record {
      base = u.base;
      own = u.own;
      spelt = u.spelt;
      over = over_same (λ m. writes_to (nodes m).done (nodes m)) (λ m. writes_to (changed nodes n next m).done (changed nodes n next m)) u.base drive u.over (done_alike nodes n next refl);
      within = each (λ m v. v.done ≤ length v.plan) nodes n next (u.within n) (λ m ne. u.within m);
      stands = each (λ m v. StandsIn u.base v.seen) nodes n next (u.stands n) (λ m ne. u.stands m);
      outs = each (λ m v. Outs m u.own v.took v.stock) nodes n next (u.outs n) (λ m ne. u.outs m);
      lawful = each (λ m v. IsLawful g m v) nodes n next (lawful_locks g n (nodes n) read write (moves_stay n (nodes n).write write writes) (u.lawful n)) (λ m ne. u.lawful m);
      plan_guarded = each (λ m v. (k : ℕ) → Touches (bare v.plan) k → MayWrite m v.write (guard_of g u.own k)) nodes n next
          (λ k t. write_by n (nodes n).write write (part_of g k) (owner_at g u.own k) writes (is_other g k (unplanned k t)) (u.plan_guarded n k t)) (λ m ne. u.plan_guarded m);
      seen_guarded = each (λ m v. (k : ℕ) → Touches v.seen k → MayLook v.read (guard_of g u.own k)) nodes n next
          (λ k t. look_by (nodes n).read read (part_of g k) (owner_at g u.own k) reads (is_other g k (unseen k t)) (u.seen_guarded n k t)) (λ m ne. u.seen_guarded m);
    }
