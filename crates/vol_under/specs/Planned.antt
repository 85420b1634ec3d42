-- A node that keeps its rules for space in the middle of a plan: what its looks, its bitmap writes and the locks that it lowers leave
-- of the drive under way.
use Rattle.std.specs.Prelude.{◌≡◌, ℕ, List, ◌∷◌, Some, slice_get, slice_set}
use Rattle.base_words.specs.Fields.{Block}
use Rattle.lock_db.specs.declared.name.LockName.{LockName}
use Rattle.lock_db.specs.declared.name.LockName.TheVariants.{X, V}
use Rattle.plain_cat.specs.declared.cat.Cat.{Cat}
use Rattle.base_words.specs.Lists.{Has, Touches, StandsIn}
use Rattle.vol_spell.specs.Owners.{Owners, Outs, Things}
use Rattle.vol_parts.specs.declared.geometry.Geometry.{Geometry}
use Rattle.vol_spell.specs.Spelling.{Spells}
use Rattle.vol_under.specs.Guards.{guard_of, MayWrite, MayLook}
use Rattle.vol_under.specs.UnderWay.{bare, UnderWay, writes_to, changed, AreSole}
use Rattle.vol_under.specs.Under.{IsLawful, IsUnder}
use Rattle.vol_under.specs.Keeping.{Refills, IsBitmap}

-- On all blocks that spell the catalogue, in which stands what the node has seen, and where its things are outside, its plan writes
-- only to blocks that it may write to.
abbrev pub IsPlanGuarded : Geometry → Cat → ℕ → UnderWay → Type 0
IsPlanGuarded g c n u = (base : List Block) (own : Owners) → Spells g base own c → StandsIn base u.seen → Outs n own u.took u.stock → (l : ℕ) → Touches (bare u.plan) l → MayWrite n u.write (guard_of g own l)

-- a bitmap write of a node that has not written the block by its plan, nor seen it for its command, is committed at once
abbrev pub BitsKeepWithPlan : Type 0
BitsKeepWithPlan = (g : Geometry) (c : Cat) (nodes : ℕ → UnderWay) (drive : List Block) (n l : ℕ) (old b : Block) (stock : Things) → AreSole nodes → IsUnder g c nodes drive
    → (Touches (writes_to (nodes n).done (nodes n)) l → ⊥) → IsBitmap g l → Has (nodes n).write V → (Touches (nodes n).seen l → ⊥) → slice_get drive l ≡ Some old
    → ((base : List Block) (own : Owners) → Spells g base own c → Outs n own (nodes n).took (nodes n).stock → slice_get base l ≡ Some old → Refills g n (nodes n).took stock l b base own c)
    → IsPlanGuarded g c n (record (nodes n) { stock = stock })
    → IsUnder g c (changed nodes n (record (nodes n) { stock = stock })) (slice_set drive l b)

-- a node looks at a block whose lock it holds, and which it has not written by its plan
abbrev pub LookKeepsWithPlan : Type 0
LookKeepsWithPlan = (g : Geometry) (c : Cat) (nodes : ℕ → UnderWay) (drive : List Block) (n l : ℕ) (b : Block) → AreSole nodes → IsUnder g c nodes drive
    → (Touches (writes_to (nodes n).done (nodes n)) l → ⊥) → slice_get drive l ≡ Some b
    → ((base : List Block) (own : Owners) → Spells g base own c → StandsIn base (nodes n).seen → MayLook (nodes n).read (guard_of g own l))
    → IsUnder g c (changed nodes n (record (nodes n) { seen = (l, b) ∷ (nodes n).seen })) drive

-- a node forgets blocks that it has seen, where its plan is lawful by the others
abbrev pub ForgetKeeps : Type 0
ForgetKeeps = (g : Geometry) (c : Cat) (nodes : ℕ → UnderWay) (drive : List Block) (n : ℕ) (seen : List (ℕ × Block)) → IsUnder g c nodes drive
    → ((b : ℕ × Block) → Has seen b → Has (nodes n).seen b) → IsLawful g n (record (nodes n) { seen = seen })
    → IsUnder g c (changed nodes n (record (nodes n) { seen = seen })) drive

-- A node lowers the lock of the bitmaps and that of the stocks, or gives them back, and keeps its other locks. No block that it has
-- seen is a bitmap's, and its plan writes to none.
abbrev pub LowerKeeps : Type 0
LowerKeeps = (g : Geometry) (c : Cat) (nodes : ℕ → UnderWay) (drive : List Block) (n : ℕ) (read write : List LockName) → IsUnder g c nodes drive
    → ((name : LockName) → (name ≡ V → ⊥) → (name ≡ X → ⊥) → Has (nodes n).read name → Has read name)
    → ((name : LockName) → (name ≡ V → ⊥) → (name ≡ X → ⊥) → Has (nodes n).write name → Has write name)
    → ((l : ℕ) → Touches (nodes n).seen l → IsBitmap g l → ⊥) → ((l : ℕ) → Touches (bare (nodes n).plan) l → IsBitmap g l → ⊥)
    → IsUnder g c (changed nodes n (record (nodes n) { read = read; write = write })) drive
