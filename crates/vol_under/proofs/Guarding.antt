-- Guards while owners move.
use Rattle.std.proofs.Common.{◌≡◌, ◌≢◌, ◌/◌, ◌⊎◌, ℕ, List, Option, Some, None, sym, ap, subst, ◌∙◌, inl, inr}
use Rattle.lock_db.specs.declared.name.LockName.{LockName}
use Rattle.lock_db.specs.declared.name.LockName.TheVariants.{S, V}
use Rattle.vol_spell.specs.declared.owner.Owner.{Owner}
use Rattle.vol_spell.specs.declared.owner.Owner.TheVariants.{Free, InFile, Outside, Leaked}
use Rattle.base_words.specs.Lists.{Has}
use Rattle.vol_spell.specs.Owners.{Owners, OwnersMove, IsSpaceMove, IsDeathMove, Things, Outs}
use Rattle.vol_spell.proofs.Moving.{out_stays}
use Rattle.vol_parts.specs.declared.geometry.Geometry.{Geometry}
use Rattle.vol_parts.specs.declared.geometry.Part.{Part}
use Rattle.vol_parts.specs.Parts.{part_of}
use Rattle.vol_spell.specs.Reading.{owner_at}
use Rattle.vol_under.specs.Guards.{Guard, Lock, Stock, guard_by_owner, guard_by, guard_of, MayWrite, MayLook, IsCommandMove}
use Rattle.vol_under.specs.UnderWay.{UnderWay, AreSole}
use Rattle.vol_under.specs.Keeping.{IsBitmap}

-- what is said of a guard stays true where the owners that move have no such guard
by_part : (P : Option Owner → Type 0) (Q : Option Guard → Type 0) (p : Option Part) (a b : Option Owner) → ((o : Option Owner) → P o → Q (guard_by_owner o) → ⊥) → (b ≡ a) ⊎ (P a × P b) → Q (guard_by p a) → Q (guard_by p b)
by_part P Q (Some p) a b clash h q = q
by_part P Q None a b clash (inl e) q = subst (λ (o : Option Owner). Q (guard_by_owner o)) (sym e) q
by_part P Q None a b clash (inr m) q = absurd (clash a m.0 q)

pub guard_stays : (P : Option Owner → Type 0) (Q : Option Guard → Type 0) (g : Geometry) (own new : Owners) (l : ℕ) → ((o : Option Owner) → P o → Q (guard_by_owner o) → ⊥) → OwnersMove P own new → Q (guard_of g own l) → Q (guard_of g new l)
guard_stays P Q g own new l clash moves q = by_part P Q (part_of g l) (owner_at g own l) (owner_at g new l) clash (moves.clusters.each (l / g.cluster)) q

-- what a command moves, no other node may write to or look at
pub command_write : (n m : ℕ) (locks theirs : List LockName) → m ≢ n → ((x : LockName) → Has locks x → Has theirs x → ⊥) → (o : Option Owner) → IsCommandMove n locks o → MayWrite m theirs (guard_by_owner o) → ⊥
command_write n m locks theirs ne apart None a b = a
command_write n m locks theirs ne apart (Some Free) a b = b
command_write n m locks theirs ne apart (Some (InFile i)) a b = apart (S i) a b
command_write n m locks theirs ne apart (Some (Outside k)) a b = ne (sym b ∙ a)
command_write n m locks theirs ne apart (Some Leaked) a b = a

pub command_look : (n : ℕ) (locks theirs : List LockName) → ((x : LockName) → Has locks x → Has theirs x → ⊥) → (o : Option Owner) → IsCommandMove n locks o → MayLook theirs (guard_by_owner o) → ⊥
command_look n locks theirs apart None a b = a
command_look n locks theirs apart (Some Free) a b = b
command_look n locks theirs apart (Some (InFile i)) a b = apart (S i) a b
command_look n locks theirs apart (Some (Outside k)) a b = b
command_look n locks theirs apart (Some Leaked) a b = a

-- what the space rule moves nobody has looked at
pub space_look : (n : ℕ) (theirs : List LockName) (o : Option Owner) → IsSpaceMove n o → MayLook theirs (guard_by_owner o) → ⊥
space_look n theirs None a b = a
space_look n theirs (Some Free) a b = b
space_look n theirs (Some (InFile i)) a b = a
space_look n theirs (Some (Outside k)) a b = b
space_look n theirs (Some Leaked) a b = a

-- what a death moves no other node writes, and nobody has looked at
pub death_write : (n m : ℕ) (theirs : List LockName) → m ≢ n → (o : Option Owner) → IsDeathMove n o → MayWrite m theirs (guard_by_owner o) → ⊥
death_write n m theirs ne None a b = a
death_write n m theirs ne (Some Free) a b = a
death_write n m theirs ne (Some (InFile i)) a b = a
death_write n m theirs ne (Some (Outside k)) a b = ne (sym b ∙ a)
death_write n m theirs ne (Some Leaked) a b = b

pub death_look : (n : ℕ) (theirs : List LockName) (o : Option Owner) → IsDeathMove n o → MayLook theirs (guard_by_owner o) → ⊥
death_look n theirs None a b = a
death_look n theirs (Some Free) a b = a
death_look n theirs (Some (InFile i)) a b = a
death_look n theirs (Some (Outside k)) a b = b
death_look n theirs (Some Leaked) a b = b

-- what the space rule moves, and what a command with fewer locks moves, a command may move
pub space_command : (n : ℕ) (locks : List LockName) (o : Option Owner) → IsSpaceMove n o → IsCommandMove n locks o
space_command n locks None a = a
space_command n locks (Some Free) a = a
space_command n locks (Some (InFile i)) a = absurd a
space_command n locks (Some (Outside k)) a = a
space_command n locks (Some Leaked) a = a

pub wider_command : (n : ℕ) (locks more : List LockName) → ((x : LockName) → Has locks x → Has more x) → (o : Option Owner) → IsCommandMove n locks o → IsCommandMove n more o
wider_command n locks more wider None a = a
wider_command n locks more wider (Some Free) a = a
wider_command n locks more wider (Some (InFile i)) a = wider (S i) a
wider_command n locks more wider (Some (Outside k)) a = a
wider_command n locks more wider (Some Leaked) a = a

-- more locks, more leave
pub wider_write : (n : ℕ) (locks more : List LockName) → ((x : LockName) → Has locks x → Has more x) → (x : Option Guard) → MayWrite n locks x → MayWrite n more x
wider_write n locks more wider None a = a
wider_write n locks more wider (Some (Lock x)) a = wider x a
wider_write n locks more wider (Some (Stock m)) a = a

pub wider_look : (locks more : List LockName) → ((x : LockName) → Has locks x → Has more x) → (x : Option Guard) → MayLook locks x → MayLook more x
wider_look locks more wider None a = a
wider_look locks more wider (Some (Lock x)) a = wider x a
wider_look locks more wider (Some (Stock m)) a = a

-- what a node may write, no other may write or look at
pub alone : (nodes : ℕ → UnderWay) → AreSole nodes → (n m : ℕ) (x : Option Guard) → MayWrite n (nodes n).write x → MayWrite m (nodes m).write x → n ≡ m
alone nodes sole n m None a b = absurd a
alone nodes sole n m (Some (Lock x)) a b = sole.writers n m x a b
alone nodes sole n m (Some (Stock k)) a b = sym a ∙ b

pub unlooked : (nodes : ℕ → UnderWay) → AreSole nodes → (n m : ℕ) (x : Option Guard) → MayWrite n (nodes n).write x → MayLook (nodes m).read x → n ≡ m
unlooked nodes sole n m None a b = absurd a
unlooked nodes sole n m (Some (Lock x)) a b = sole.readers n m x a b
unlooked nodes sole n m (Some (Stock k)) a b = absurd b

-- a move that leaves a node's things leaves what it has outside
pub outs_stay : (P : Option Owner → Type 0) (m : ℕ) (own new : Owners) (took stock : Things) → OwnersMove P own new → (P (Some (Outside m)) → ⊥) → Outs m own took stock → Outs m new took stock
outs_stay P m own new took stock moves not h = record {
  clusters = out_stays P m own.clusters new.clusters took.clusters stock.clusters moves.clusters not h.clusters;
  numbers = out_stays P m own.numbers new.numbers took.numbers stock.numbers moves.numbers not h.numbers;
}

-- a bitmap is guarded by V
pub bitmap_guard : (g : Geometry) (own : Owners) (l : ℕ) → IsBitmap g l → guard_of g own l ≡ Some (Lock V)
bitmap_guard g own l (inl e) = ap (λ p. guard_by p (owner_at g own l)) e
bitmap_guard g own l (inr e) = ap (λ p. guard_by p (owner_at g own l)) e.1
