-- What goes into a file, or out of it, with a new header.
use Rattle.std.specs.Prelude.{◌≡◌, ◌⊎◌, ◌↔◌, ℕ, Some, slice_get}
use Rattle.vol_spell.specs.declared.owner.Owner.TheVariants.{InFile, Outside}
use Rattle.base_words.specs.Lists.{Has, Once}
use Rattle.vol_spell.specs.Owners.{Owners, OwnersMove, IsFileMove, Things, nothing, Outs}
use Rattle.vol_spell.specs.Hands.{handed, AreOf}
use Rattle.vol_under.specs.UnderWay.{together}

-- the owners after these things went into file i
abbrev pub filed : ℕ → Things → Owners → Owners
filed i t own = record { clusters = handed t.clusters (InFile i) own.clusters; numbers = handed t.numbers (InFile i) own.numbers }

-- the owners after these things went outside to node n
abbrev pub brought_out : ℕ → Things → Owners → Owners
brought_out n t own = record { clusters = handed t.clusters (Outside n) own.clusters; numbers = handed t.numbers (Outside n) own.numbers }

-- File i has all that node n's command took, besides what it had, and the stock alone is left outside.
pub record Takes (n i : ℕ) (own new : Owners) (took stock : Things) : Type 0 where
  pub moves : OwnersMove (IsFileMove n i) own new
  pub outs : Outs n new nothing stock
  pub clusters : (q : ℕ) → (slice_get new.clusters q ≡ Some (InFile i)) ↔ (Has took.clusters q ⊎ (slice_get own.clusters q ≡ Some (InFile i)))
  pub numbers : (p : ℕ) → (slice_get new.numbers p ≡ Some (InFile i)) ↔ (Has took.numbers p ⊎ (slice_get own.numbers p ≡ Some (InFile i)))

abbrev pub FileTakes : Type 0
FileTakes = (n i : ℕ) (own : Owners) (took stock : Things) → Outs n own took stock → Takes n i own (filed i took own) took stock

-- File i has what it had but what is gone, and that is outside at node n, besides what the command had there.
pub record Gives (n i : ℕ) (own new : Owners) (took gone stock : Things) : Type 0 where
  pub moves : OwnersMove (IsFileMove n i) own new
  pub outs : Outs n new (together took gone) stock
  pub clusters : (q : ℕ) → (slice_get new.clusters q ≡ Some (InFile i)) ↔ ((slice_get own.clusters q ≡ Some (InFile i)) × (Has gone.clusters q → ⊥))
  pub numbers : (p : ℕ) → (slice_get new.numbers p ≡ Some (InFile i)) ↔ ((slice_get own.numbers p ≡ Some (InFile i)) × (Has gone.numbers p → ⊥))

-- these things are file i's, each named once
pub record AreFiled (i : ℕ) (own : Owners) (gone : Things) : Type 0 where
  pub clusters : AreOf gone.clusters (InFile i) own.clusters
  pub numbers : AreOf gone.numbers (InFile i) own.numbers
  pub clusters_once : Once gone.clusters
  pub numbers_once : Once gone.numbers

abbrev pub FileGives : Type 0
FileGives = (n i : ℕ) (own : Owners) (took gone stock : Things) → AreFiled i own gone → Outs n own took stock → Gives n i own (brought_out n gone own) took gone stock
