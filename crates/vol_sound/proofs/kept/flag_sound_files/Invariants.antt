use Rattle.std.proofs.Common.{◌≡◌, ◌-◌, length, flat_map}
use Rattle.std.specs.List.{range_with_len}
use Rattle.vol_parts.specs.Catalogues.{flagged}
use Rattle.vol_parts.specs.Volumes.{volume}
use Rattle.vol_sound.specs.Slots.{sound_slots, system_slots}
use Rattle.vol_sound.proofs.kept.flag_sound_files.Given as goal

-- the slots of the sound files so far are flagged, beside those of the system files
abbrev pub invariant-loop-n : goal.invariant-loop-n
invariant-loop-n l = record {
  all : length l.flags ≡ l.home.files;
  whole : l.flags ≡ flagged (flat_map (sound_slots (volume l.home l.blocks)) (range_with_len 1 (l.n - 1))) (system_slots l.home.files);
}
