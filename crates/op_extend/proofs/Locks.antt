-- The locks that an EXTEND or a TRUNC holds: those of all headers of the file, Q, and that of a number that was given.
use Rattle.std.proofs.Common.{◌≡◌, ◌++◌, inl, ℕ, List, [], ◌∷◌, Option, Some, None, refl}
use Rattle.std.specs.Prelude.{option_map}
use Rattle.base_words.specs.Fields.{Block}
use Rattle.base_words.specs.Lists.{Has}
use Rattle.fx_header.specs.Headers.{header_read}
use Rattle.fx_header.specs.declared.slot.Hdr.{Hdr}
use Rattle.lock_db.specs.declared.name.LockName.{LockName}
use Rattle.lock_db.specs.declared.name.LockName.TheVariants.{S, Q, V}
use Rattle.plain_cat.specs.declared.mode.Mode.{Mode}
use Rattle.plain_cat.specs.declared.mode.Mode.TheVariants.{PW}
use Rattle.vol_parts.specs.declared.geometry.Geometry.{Geometry}
use Rattle.vol_spell.specs.Reading.{header_block}
use Rattle.op_law.specs.Entering.{slot_seq}
use Rattle.op_law.specs.Headers.{locks_behind, numbers_of}
use Rattle.op_law.specs.Laws.{held_in}
use Rattle.op_law.proofs.Links.{held_with}
use Rattle.op_steps.specs.Files.{file_in}
use Rattle.op_steps.proofs.Looks.{chain_locks, held_last}

-- those of the file's headers, Q besides, and the lock of a number besides
abbrev pub head_locks : Geometry → List Block → ℕ → List (LockName × Mode)
head_locks g bs n = ((S n, PW) ∷ []) ++ locks_behind g bs n PW

abbrev pub quota_locks : Geometry → List Block → ℕ → List (LockName × Mode)
quota_locks g bs n = head_locks g bs n ++ (Q, PW) ∷ []

abbrev pub bitmap_locks : Geometry → List Block → ℕ → List (LockName × Mode)
bitmap_locks g bs n = quota_locks g bs n ++ (V, PW) ∷ []

abbrev pub locks_with : Geometry → List Block → ℕ → Option ℕ → List (LockName × Mode)
locks_with g bs n None = quota_locks g bs n
locks_with g bs n (Some m) = quota_locks g bs n ++ (S m, PW) ∷ []

module _ (g : Geometry) (bs : List Block) (n : ℕ) where
  pub quota_held : Has (held_in PW (quota_locks g bs n)) Q
  quota_held = held_last (head_locks g bs n) Q

  -- and those of the file's headers
  pub file_in_quota : (h : Hdr) (m : ℕ) → Has (numbers_of g (file_in g bs n h)) m → Has (held_in PW (quota_locks g bs n)) (S m)
  file_in_quota h m t = held_with PW (head_locks g bs n) ((Q, PW) ∷ []) (S m) (chain_locks g bs n h ((S n, PW) ∷ []) (inl refl) m t)

  -- and where V is held too
  pub bitmaps_held : Has (held_in PW (bitmap_locks g bs n)) V
  bitmaps_held = held_last (quota_locks g bs n) V

  pub quota_in_bitmaps : Has (held_in PW (bitmap_locks g bs n)) Q
  quota_in_bitmaps = held_with PW (quota_locks g bs n) ((V, PW) ∷ []) Q quota_held

  pub file_in_bitmaps : (h : Hdr) (m : ℕ) → Has (numbers_of g (file_in g bs n h)) m → Has (held_in PW (bitmap_locks g bs n)) (S m)
  file_in_bitmaps h m t = held_with PW (quota_locks g bs n) ((V, PW) ∷ []) (S m) (file_in_quota h m t)

-- ---- a number that was given

-- with the sequence that its slot has
abbrev pub slot_for : Geometry → List Block → Option ℕ → Option (ℕ × ℕ)
slot_for g bs None = None
slot_for g bs (Some m) = Some (m, slot_seq (header_read (header_block g bs m)))

pub slot_number : (g : Geometry) (bs : List Block) (number : Option ℕ) → option_map (λ (p : ℕ × ℕ). p.0) (slot_for g bs number) ≡ number
slot_number g bs None = refl
slot_number g bs (Some m) = refl
