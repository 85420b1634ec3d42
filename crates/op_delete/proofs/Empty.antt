-- A directory's own blocks, behind which a lock was seen: they show no entry.
use Rattle.std.proofs.Common.{◌≡◌, ℕ, Bool, true, false, cond, List, [], refl}
use Rattle.base_words.specs.Fields.{Block}
use Rattle.lock_db.specs.declared.name.LockName.{LockName}
use Rattle.plain_cat.specs.declared.mode.Mode.{Mode}
use Rattle.plain_cat.specs.declared.reply.Refusal.TheVariants as refusal
use Rattle.plain_rules.specs.Directories.{is_nil}
use Rattle.op_law.specs.Events.{Events, Space, following, Follows}
use Rattle.op_law.specs.Rows.{refuses, entries_seen}
use Rattle.op_delete.specs.Looking.{without_entries}

pub none_there : (bs : List Block) (next : Events) (locks : List (LockName × Mode)) (blocks : List (ℕ × Block)) (space : Space) (given : Type 0) → (locks ≡ [] → ⊥)
    → Follows (without_entries bs next) locks blocks space given → following (without_entries bs next) locks blocks space ≡ following next locks blocks space
none_there bs next locks blocks space given held follows = by_nil (is_nil (entries_seen bs)) follows where
  by_nil : (t : Bool) → Follows (cond t next (refuses refusal.DirNotEmpty)) locks blocks space given → following (cond t next (refuses refusal.DirNotEmpty)) locks blocks space ≡ following next locks blocks space
  by_nil true follows = refl
  by_nil false follows = absurd (held follows.0)
