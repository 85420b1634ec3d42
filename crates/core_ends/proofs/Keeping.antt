-- The give-back to which a node may come, by the locks that it keeps.
use Rattle.std.proofs.Common.{◌≡◌, ◌≢◌, ◌≤◌, ◌++◌, not, Bool, true, false, cond, [], ◌∷◌, Option, Some, None, filter, find, List, refl, sym, ap, ◌∙◌, inl, inr, arith}
use Rattle.lock_db.specs.declared.name.LockName.{LockName}
use Rattle.lock_db.specs.declared.name.LockName.TheVariants.{X}
use Rattle.lock_db.specs.Names.{is_same}
use Rattle.lock_db.proofs.Names.{is_same-same}
use Rattle.plain_cat.specs.declared.mode.Mode.{Mode}
use Rattle.plain_cat.specs.declared.mode.Mode.TheVariants.{NL, CR, CW, PR, PW, EX}
use Rattle.base_words.specs.Lists.{Has}
use Rattle.base_words.proofs.Listing.{has_parted}
use Rattle.vol_parts.specs.declared.geometry.Geometry.{Geometry}
use Rattle.node_locks.specs.Held.{Row, names_of, without}
use Rattle.node_locks.specs.PuttingBack.{kept_by}
use Rattle.node_cache.specs.Cached.{Cached}
use Rattle.core_space.specs.declared.run.Phase.{Phase}
use Rattle.core_space.specs.declared.run.Phase.TheVariants as phase
use Rattle.core_space.specs.declared.run.SpaceRun.{SpaceRun}
use Rattle.core_space.specs.Rule.{is_reader}
use Rattle.base_words.specs.Lists.{Once}
use Rattle.core_state.specs.Worlds.{Stock, NodeState}
use Rattle.core_state.specs.Caches.{has_entry, keeps, lowered_of}
use Rattle.core_state.specs.Events.{mode_of_lock, mode_in, stays, staying, used_locks}
use Rattle.core_state.proofs.Naming.{mode_is, mode_has}
use Rattle.core_ends.specs.Measure.{return_by, return_left}

-- the mode of the lock on X is no matter of a lock on another name
pub mode_without : (name : LockName) (ls : Row) → name ≢ X → mode_in X (without name ls) ≡ mode_in X ls
mode_without name [] ne = refl
mode_without name (k ∷ ls) ne = by_test (is_same k.0 name) refl (mode_without name ls ne) where
  apart : is_same k.0 name ≡ true → (b : Bool) → is_same k.0 X ≡ b → is_same k.0 X ≡ false
  apart e true f = absurd (ne (sym (is_same-same k.0 name e) ∙ is_same-same k.0 X f))
  apart e false f = f

  by_test : (b : Bool) → is_same k.0 name ≡ b → mode_in X (without name ls) ≡ mode_in X ls → mode_in X (cond (not b) (k ∷ without name ls) (without name ls)) ≡ mode_in X (k ∷ ls)
  by_test true e rest = rest ∙ sym (ap (λ t. mode_of_lock (cond t (Some k) (find (λ (l : LockName × Mode). is_same l.0 X) ls))) (apart e (is_same k.0 X) refl))
  by_test false e rest = by_x (is_same k.0 X) where
    by_x : (t : Bool) → mode_of_lock (cond t (Some k) (find (λ (l : LockName × Mode). is_same l.0 X) (without name ls))) ≡ mode_of_lock (cond t (Some k) (find (λ (l : LockName × Mode). is_same l.0 X) ls))
    by_x true = refl
    by_x false = rest

pub reader_has : (ls : Row) → is_reader (mode_in X ls) ≡ true → Has ls (X, CR)
reader_has ls t = by_mode (mode_in X ls) refl t where
  by_mode : (o : Option Mode) → mode_in X ls ≡ o → is_reader o ≡ true → Has ls (X, CR)
  by_mode None e f = absurd (let g : false ≡ true = f in cc)
  by_mode (Some NL) e f = absurd (let g : false ≡ true = f in cc)
  by_mode (Some CR) e f = mode_has ls X CR e
  by_mode (Some CW) e f = absurd (let g : false ≡ true = f in cc)
  by_mode (Some PR) e f = absurd (let g : false ≡ true = f in cc)
  by_mode (Some PW) e f = absurd (let g : false ≡ true = f in cc)
  by_mode (Some EX) e f = absurd (let g : false ≡ true = f in cc)

pub has_reader : (ls : Row) → Once (names_of ls) → Has ls (X, CR) → is_reader (mode_in X ls) ≡ true
has_reader ls once h = ap is_reader (mode_is ls X CR once h)

-- X is kept in CR, so the give-back counts; or it is not
pub reads_left : (g : Geometry) (stock : Stock) (kept : Row) (run : SpaceRun) → is_reader (mode_in X kept) ≡ true → return_left g stock kept run ≡ return_by g stock run run.phase
reads_left g stock kept run e = ap (λ b. cond b (return_by g stock run run.phase) 0) e

pub none_left : (g : Geometry) (stock : Stock) (kept : Row) (run : SpaceRun) → is_reader (mode_in X kept) ≡ false → return_left g stock kept run ≡ 0
none_left g stock kept run e = ap (λ b. cond b (return_by g stock run run.phase) 0) e

pub not_back : (g : Geometry) (stock : Stock) (run : SpaceRun) (p : Phase) → (p ≡ phase.Back → ⊥) → return_by g stock run p ≡ 80
not_back g stock run phase.Off ne = refl
not_back g stock run phase.Fill ne = refl
not_back g stock run phase.Drain ne = refl
not_back g stock run phase.Last ne = refl
not_back g stock run phase.Back ne = absurd (ne refl)

-- where X is kept in CR only where it was, there is no more to give back in a phase that is no give-back
pub no_more : (g h : Geometry) (stock left : Stock) (kept less : Row) (run after : SpaceRun) → (run.phase ≡ phase.Back → ⊥) → (after.phase ≡ phase.Back → ⊥) → (is_reader (mode_in X less) ≡ true → is_reader (mode_in X kept) ≡ true)
    → return_left h left less after ≤ return_left g stock kept run
no_more g h stock left kept less run after ne na goes = by_test (is_reader (mode_in X less)) refl where
  by_test : (b : Bool) → is_reader (mode_in X less) ≡ b → return_left h left less after ≤ return_left g stock kept run
  by_test false e = let z = none_left h left less after e in omega arith
  by_test true e =
      let a = reads_left h left less after e in
      let b = not_back h left after after.phase na in
      let c = reads_left g stock kept run (goes e) in
      let d = not_back g stock run run.phase ne in
      omega arith

-- ---- behind an answer

from_filter : (p : LockName × Mode → Bool) (ls : Row) (l : LockName × Mode) → Has (filter p ls) l → Has ls l
from_filter p [] l h = h
from_filter p (k ∷ ls) l h = by_test (p k) h (from_filter p ls l) where
  by_test : (b : Bool) → Has (cond b (k ∷ filter p ls) (filter p ls)) l → (Has (filter p ls) l → Has ls l) → Has (k ∷ ls) l
  by_test true (inl e) rest = inl e
  by_test true (inr h) rest = inr (rest h)
  by_test false h rest = inr (rest h)

-- what is lowered is in NL
low_all : (es : List Cached) (ls : Row) (l : LockName × Mode) → Has (lowered_of es ls) l → l.1 ≡ NL
low_all es [] l h = absurd h
low_all es (k ∷ ls) l h = elim (has_parted (kept_by k (keeps es k)) (lowered_of es ls) l h) [
  | inl i ↦ by_test (has_entry es k.0) i
  | inr i ↦ low_all es ls l i
] where
  by_test : (b : Bool) → Has (kept_by k (cond b (Some NL) None)) l → l.1 ≡ NL
  by_test true (inl e) = ap (λ (y : LockName × Mode). y.1) (sym e)
  by_test true (inr f) = absurd f
  by_test false f = absurd f

pub answer_keeps : (s : NodeState) → Once (names_of s.kept) → is_reader (mode_in X (staying s ++ lowered_of s.cache (used_locks s))) ≡ true → is_reader (mode_in X s.kept) ≡ true
answer_keeps s once e = has_reader s.kept once (elim (has_parted (staying s) (lowered_of s.cache (used_locks s)) (X, CR) (reader_has (staying s ++ lowered_of s.cache (used_locks s)) e)) [
  | inl h ↦ from_filter (stays s) s.kept (X, CR) h
  | inr h ↦ absurd (let f : CR ≡ NL = low_all s.cache (used_locks s) (X, CR) h in cc)
])
