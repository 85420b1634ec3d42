use Rattle.std.proofs.Common.{◌≡◌, ◌-◌, length}
use Rattle.vol_parts.specs.Catalogues.{flagged}
use Rattle.vol_parts.specs.Volumes.{volume, IsNumber, headers_of}
use Rattle.vol_parts.specs.Chains.{slots_from, most_headers}
use Rattle.vol_sound.proofs.kept.flag_chain.Given as goal

-- the flags so far, and those of the slots of the walk that is left
abbrev pub invariant-loop-count : goal.invariant-loop-count
invariant-loop-count l = record {
  number : IsNumber (volume l.home l.blocks) l.at;
  all : length l.flags ≡ l.home.files;
  whole : flagged (slots_from (headers_of (volume l.home l.blocks)) (most_headers - l._count) l.at l.header l.left) l.flags
      ≡ flagged (slots_from (headers_of (volume l.home l.blocks)) most_headers l.n l.first l.first.blocks) l.fn.flags;
}
