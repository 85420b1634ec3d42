-- Whether something is listed behind the blocks of a file, told by one walk along its chain of headers.
use Rattle.std.specs.Prelude.{◌-◌, ◌==◌, ◌||◌, not, nat_le, nat_lt, ℕ, zero, suc, Bool, true, Option, Some, None, if◌then◌else◌}
use Rattle.fx_header.specs.declared.slot.Hdr.{Hdr}
use Rattle.vol_parts.specs.Chains.{Headers, held, next_header}

abbrev pub surplus_behind : Bool → Option Hdr → (Hdr → Bool) → Bool
surplus_behind linked None walk = linked
surplus_behind linked (Some x) walk = walk x

-- Something is listed behind the `left` blocks of a file that are ahead at the slot n, whose header says f, or the last header has a
-- link. The walk goes along k slots at most; where it would go on behind the last of these, that one has a link.
unfoldable pub surplus_from : Headers → ℕ → ℕ → Hdr → ℕ → Bool
surplus_from h zero n f left = true
surplus_from h (suc k) n f left =
    if nat_le left (held h n) then not (f.ext == 0) || nat_lt left (held h n)
    else surplus_behind (not (f.ext == 0)) (next_header h f) (λ x. surplus_from h k f.ext x (left - held h n))
