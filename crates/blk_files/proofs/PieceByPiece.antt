-- Reading a file piece by piece.
use Rattle.std.proofs.Common.{◌≡◌, ◌∙◌, ◌+◌, ◌-◌, ◌*◌, ◌≤◌, ◌++◌, ℕ, List, length, take, drop, refl, sym, ap, subst, arith, length-append, append-nil, le_refl}
use Rattle.std.proofs.Math.Path.{ap₂}
use Rattle.std.proofs.Math.Seq.{take-add}
use Rattle.std.specs.Prelude.{Option, None, Some, IfSome}
use Rattle.std.specs.Option.{ForSome, option_or}
use Rattle.std.specs.Simd.{first_chunks}
use Rattle.std.proofs.lemmas.Option.{same_Some}
use Rattle.std.proofs.lemmas.List.{take_all, drop_all}
use Rattle.base_words.specs.Fields.{put}
use Rattle.blk_files.specs.Files.{Holds, IsOver}
use Rattle.blk_files.specs.Reading.{IsRead}
use Rattle.blk_files.proofs.Chunks.{chunks-append, chunks-take}
use Rattle.blk_files.proofs.Options.{of_some}

-- bytes that are noted behind all others are appended
put-end : (noted : List ℕ) (at : ℕ) (bytes : List ℕ) → length noted ≡ at → put noted at bytes ≡ noted ++ bytes
put-end noted at bytes l =
    let past : length noted ≤ at + length bytes = omega arith in
    ap₂ (λ p q. p ++ (bytes ++ q)) (take_all at noted (omega arith)) (drop_all (at + length bytes) noted past)
    ∙ ap (λ q. noted ++ q) (append-nil bytes)

-- the blocks of a piece are read behind the others
pub read-more : (count n : ℕ) (tells : Option (List ℕ)) (noted : List ℕ) (blocks : List (List ℕ)) (piece : List ℕ)
    → length piece ≡ 512 * n → IfSome tells (λ f. Holds f (512 * count) piece)
    → IsRead count tells noted blocks → IsRead (count + n) tells (put noted (512 * count) piece) (blocks ++ first_chunks 512 n piece)
read-more count n tells noted blocks piece long has h =
    let at = 512 * count in
    let end : at + length piece ≡ 512 * (count + n) = omega (arith, long) in
    let is = put-end noted at piece h.whole in
    subst (λ bytes. IsRead (count + n) tells bytes (blocks ++ first_chunks 512 n piece)) (sym is) record {
      whole = length-append noted piece ∙ ap (λ m. m + length piece) h.whole ∙ end;
      same = λ f e.
          let there = of_some tells (λ f. Holds f at piece) f has e in
          let length_is : at + length piece - at ≡ length piece = omega arith in
          ap₂ (λ p q. p ++ q) (h.same f e) (sym there.same ∙ ap (λ m. take m (drop at f)) length_is)
          ∙ sym (take-add at (length piece) f)
          ∙ ap (λ m. take m f) end;
      blocks_of = ap (λ bs. bs ++ first_chunks 512 n piece) h.blocks_of ∙ sym (chunks-append count n noted piece h.whole);
    }

-- all blocks are the first ones
first-all : (size : ℕ) (blocks : List (List ℕ)) (f : List ℕ) → blocks ≡ first_chunks 512 size f → blocks ≡ take (length blocks) (first_chunks 512 size f)
first-all size blocks f e = sym (take_all (length blocks) blocks (le_refl (length blocks))) ∙ ap (take (length blocks)) e

-- what was read of all blocks is of the file, where it tells its bytes
pub over-read : (size : ℕ) (tells : Option (List ℕ)) (noted : List ℕ) (blocks : List (List ℕ)) → ForSome tells (λ f. size * 512 ≤ length f)
    → IsRead size tells noted blocks → ForSome (option_or tells (Some noted)) (IsOver size blocks)
over-read size None noted blocks h read f e =
    let is = same_Some noted f e in
    subst (IsOver size blocks) is record { within = omega (arith, read.whole); first = first-all size blocks noted read.blocks_of }
over-read size (Some told) noted blocks h read f e =
    let is = same_Some told f e in
    let blocks_is = read.blocks_of ∙ ap (first_chunks 512 size) (read.same told refl) ∙ chunks-take size (512 * size) told (le_refl (512 * size)) in
    subst (IsOver size blocks) is record { within = h told refl; first = first-all size blocks told blocks_is }
