-- Locks by their level in the order of names: a name of a higher level than all that are held is new, and comes behind them.
use Rattle.std.proofs.Common.{◌≡◌, ◌≤◌, ◌<◌, ◌-◌, inl, inr, ℕ, Some, List, [], ◌∷◌, ◌++◌, map, slice_get, ap, subst, arith}
use Rattle.std.proofs.lemmas.List.{map-append}
use Rattle.base_words.specs.Fields.{Block}
use Rattle.base_words.specs.Lists.{Has}
use Rattle.base_words.proofs.Listing.{has_parted}
use Rattle.lock_db.specs.declared.name.LockName.{LockName}
use Rattle.lock_db.specs.declared.name.LockName.TheVariants.{S}
use Rattle.plain_cat.specs.declared.mode.Mode.{Mode}
use Rattle.plain_cat.specs.declared.cat.Cat.{Cat}
use Rattle.vol_parts.specs.declared.geometry.Geometry.{Geometry}
use Rattle.vol_spell.specs.declared.owner.Owner.TheVariants.{Outside}
use Rattle.vol_spell.specs.Owners.{Owners}
use Rattle.vol_spell.specs.Reading.{header_block}
use Rattle.op_law.specs.Order.{level_by, level, IsBefore, Higher}

module _ (g : Geometry) (bs : List Block) (own : Owners) where
  -- none of these locks has a higher level
  abbrev pub AreUpTo : ℕ → List (LockName × Mode) → Type 0
  AreUpTo k held = (other : LockName) → Has (map (λ l. l.0) held) other → level g bs own other ≤ k

  pub none_held : (k : ℕ) → AreUpTo k []
  none_held k other t = absurd t

  -- locks that are held together
  pub up_to_both : (k : ℕ) (held more : List (LockName × Mode)) → AreUpTo k held → AreUpTo k more → AreUpTo k (held ++ more)
  up_to_both k held more first behind other t =
      elim (has_parted (map (λ l. l.0) held) (map (λ l. l.0) more) other (subst (λ (names : List LockName). Has names other) (map-append (λ (l : LockName × Mode). l.0) held more) t)) [
        | inl h ↦ first other h
        | inr h ↦ behind other h
      ]

  -- with one lock more
  pub up_to_more : (k j : ℕ) (held : List (LockName × Mode)) (name : LockName) (mode : Mode) → AreUpTo k held → k ≤ j → level g bs own name ≤ j → AreUpTo j (held ++ (name, mode) ∷ [])
  up_to_more k j held name mode up le here =
      up_to_both j held ((name, mode) ∷ []) (λ other t. let low = up other t in omega arith)
      (λ other t. elim t [ inl e ↦ subst (λ y. level g bs own y ≤ j) e here | inr none ↦ absurd none ])

  -- a name of a higher level is none of theirs
  pub new_above : (k : ℕ) (held : List (LockName × Mode)) (name : LockName) → AreUpTo k held → k < level g bs own name → Has (map (λ l. l.0) held) name → ⊥
  new_above k held name up higher t = let low = up name t in omega arith

  -- and comes behind all of them
  pub behind_above : (c : Cat) (k : ℕ) (held : List (LockName × Mode)) (name : LockName) → AreUpTo k held → k < level g bs own name → (other : LockName) → Has (map (λ l. l.0) held) other → IsBefore g bs own c other name
  behind_above c k held name up higher other t = let low = up other t in Higher (omega arith)

  -- a number that a node has outside comes behind files and their headers, Q, X and V
  pub outside_level : (m node : ℕ) → slice_get own.numbers (m - 1) ≡ Some (Outside node) → level g bs own (S m) ≡ 20
  outside_level m node e = ap (level_by (header_block g bs m)) e
