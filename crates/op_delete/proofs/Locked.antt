-- The header of a number whose lock is not the directory's is behind a lock of its own; else the lock is held.
use Rattle.std.proofs.Common.{◌≡◌, ℕ, true, false, cond, List, ap}
use Rattle.std.specs.Prelude.{◌==◌}
use Rattle.base_words.specs.Fields.{Block}
use Rattle.lock_db.specs.declared.name.LockName.{LockName}
use Rattle.lock_db.specs.declared.name.LockName.TheVariants.{S}
use Rattle.plain_cat.specs.declared.mode.Mode.{Mode}
use Rattle.plain_cat.specs.declared.mode.Mode.TheVariants.{PW}
use Rattle.vol_parts.specs.declared.geometry.Geometry.{Geometry}
use Rattle.vol_spell.specs.Reading.{header_place}
use Rattle.op_law.specs.Events.{Events, Take, Look, Space, following}
use Rattle.op_law.specs.Removing.{under_lock}

pub same_lock : (g : Geometry) (dir n : ℕ) (next : Block → Events) → (n == dir) ≡ true → under_lock g dir n next ≡ Look (S n) (header_place g n) next
same_lock g dir n next e = ap (λ t. cond t (Look (S n) (header_place g n) next) (Take (S n) PW (Look (S n) (header_place g n) next))) e

pub own_lock : (g : Geometry) (dir n : ℕ) (next : Block → Events) → (n == dir) ≡ false → under_lock g dir n next ≡ Take (S n) PW (Look (S n) (header_place g n) next)
own_lock g dir n next e = ap (λ t. cond t (Look (S n) (header_place g n) next) (Take (S n) PW (Look (S n) (header_place g n) next))) e

pub own_following : (g : Geometry) (dir n : ℕ) (next : Block → Events) (locks : List (LockName × Mode)) (blocks : List (ℕ × Block)) (space : Space) → (n == dir) ≡ false
    → following (under_lock g dir n next) locks blocks space ≡ following (Take (S n) PW (Look (S n) (header_place g n) next)) locks blocks space
own_following g dir n next locks blocks space e = ap (λ es. following es locks blocks space) (own_lock g dir n next e)
