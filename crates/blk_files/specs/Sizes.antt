-- An image in a file tells as many blocks as it has.
use Rattle.std.specs.Prelude.{◌≡◌, ℕ, zero, suc, List, Option, None, Some, length, drop, option_map, refl}
use Rattle.std.proofs.Common.{ap}
use Rattle.std.specs.Simd.{first_chunks}
use Rattle.blk_drive.specs.Images.{HasSize}
use Rattle.blk_files.specs.Files.{Known, bytes_of}
use Rattle.blk_files.specs.Views.{told_by, size_of}

pub length-chunks : (k : ℕ) (xs : List ℕ) → length (first_chunks 512 k xs) ≡ k
length-chunks zero xs = refl
length-chunks (suc k) xs = ap (λ n. suc n) (length-chunks k (drop 512 xs))

has_size : (size : ℕ) (bytes : Option (List ℕ)) → HasSize (option_map (first_chunks 512 size) bytes) size
has_size size None = tt
has_size size (Some f) = length-chunks size f

-- where the blocks are told, there are so many
pub counted : {F : Type 0} (tells : F → Option (List ℕ)) (known : Option (Known F)) → HasSize (told_by tells known) (size_of known)
counted tells None = tt
counted tells (Some image) = has_size image.size (bytes_of tells image)
