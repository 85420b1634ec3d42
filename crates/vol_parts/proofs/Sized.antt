-- The fault of a directory of the right size.
use Rattle.std.proofs.Common.{◌≡◌, ℕ, List, Some, true, refl}
use Rattle.fx_header.specs.declared.slot.Hdr.{Hdr}
use Rattle.fx_dir.specs.Directory.{directory}
use Rattle.base_words.specs.Fields.{Block}
use Rattle.vol_parts.specs.Volumes.{Volume, factor, fields, told, runs, body}
use Rattle.vol_parts.specs.Fatal.{is_one_header, has_dir_size, found_in, dir_fault}

pub dir_fault-sized : (v : Volume) (n : ℕ) (f : Hdr) (bs : List Block) → fields v n ≡ Some f → f.dir ≡ true → is_one_header f (told v n) ≡ true
    → has_dir_size (factor v) f (runs v n) ≡ true → body v n ≡ bs → dir_fault v n ≡ found_in n (directory bs)
unfolding dir_fault
dir_fault-sized v n f bs e dir one size blocks = rw (e, dir, one, size, blocks) refl
