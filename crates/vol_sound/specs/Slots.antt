-- The header slots that stay, file by file.
use Rattle.std.specs.Prelude.{nat_le, ℕ, Bool, List, [], map, if◌then◌else◌}
use Rattle.std.specs.List.{range_with_len}
use Rattle.vol_parts.specs.Volumes.{Volume, told}
use Rattle.vol_sound.specs.Sound.{is_sound}

-- the header slots of the file of a number, if it is sound
unfoldable pub sound_slots : Volume → ℕ → List ℕ
sound_slots v n = if is_sound v n then (told v n).slots else []

-- of so many numbers whether each is that of a system file
unfoldable pub system_slots : ℕ → List Bool
system_slots count = map (λ n. nat_le n 11) (range_with_len 1 count)
