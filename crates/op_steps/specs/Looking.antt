-- What the command has looked at before a file goes.
use Rattle.std.specs.Prelude.{◌≡◌, ◌≤◌, ℕ, List, length}
use Rattle.base_words.specs.Fields.{Block}
use Rattle.lock_db.specs.declared.name.LockName.TheVariants.{V}
use Rattle.plain_cat.specs.declared.mode.Mode.TheVariants.{PW}
use Rattle.vol_parts.specs.declared.geometry.Geometry.{Geometry}
use Rattle.vol_parts.specs.declared.geometry.Part.TheVariants.{IndexBitmap}
use Rattle.vol_spell.specs.Places.{place_of}
use Rattle.op_law.specs.declared.need.Need.{Need}
use Rattle.op_law.specs.declared.need.Need.TheVariants as need
use Rattle.op_law.specs.declared.need.Plan.{Plan}
use Rattle.op_law.specs.Events.{Events, Take, Look}
use Rattle.op_law.specs.Behind.{blocks_alone}
use Rattle.op_law.specs.Freeing.{SeenSpace, blocks_for, look_storage}
use Rattle.op_steps.specs.declared.gone_looking.SpaceSeen.{SpaceSeen}
use Rattle.op_steps.specs.declared.gone_looking.Space.{Space}
use Rattle.op_steps.specs.declared.gone_looking.Space.TheVariants as space

-- the blocks as the row of events has them
abbrev pub space_seen : SpaceSeen → SeenSpace
space_seen s = record { quota = blocks_alone s.quota.now; index = s.index.now; storage = blocks_alone s.storage.now }

-- the lock of the bitmaps, the looks behind it, and what comes next
abbrev pub through_bitmaps : Geometry → List ℕ → List Block → (SeenSpace → Events) → Events
through_bitmaps g qs quota next = Take V PW (Look V (place_of g IndexBitmap) (λ index.
    look_storage g (blocks_for g qs) (λ storage. next (record { quota = quota; index = index; storage = storage }))))

-- behind all of them comes a plan
abbrev pub behind_space : (SeenSpace → Plan) → Space → Need
behind_space plan (space.All s) = need.Ready (plan (space_seen s))
behind_space plan (space.Next need) = need

-- the quota blocks are these, and there are as many blocks of the storage bitmap as have bits of the clusters
abbrev pub HasBitmaps : Geometry → List ℕ → List (ℕ × Block) → Space → Type 0
HasBitmaps g qs quota (space.All s) = (s.quota.now ≡ quota) × (length s.storage.now ≡ length (blocks_for g qs))
HasBitmaps g qs quota (space.Next need) = Unit {0}

-- there are at most as many quota blocks as a cluster has
pub record IsWhole (g : Geometry) (qs : List ℕ) (s : SpaceSeen) : Type 0 where
  pub quota : length s.quota.now ≤ g.cluster
  pub storage : length s.storage.now ≡ length (blocks_for g qs)

abbrev pub HasSpace : Geometry → List ℕ → Space → Type 0
HasSpace g qs (space.All s) = IsWhole g qs s
HasSpace g qs (space.Next need) = Unit {0}
