-- The block that shows of a file below its mark, or where there is none, is the one that stands there.
use Rattle.std.proofs.Common.{◌≡◌, ◌≤◌, ◌<◌, ◌-◌, ◌∙◌, ℕ, zero, suc, Bool, true, false, cond, List, [], ◌∷◌, Some, take, slice_get, refl, sym, ap, arith}
use Rattle.std.specs.Prelude.{◌==◌, ◌&&◌, not, nat_le, option_map, slice_index_or}
use Rattle.std.proofs.lemmas.Bool.Decides.{nat_tests}
use Rattle.std.proofs.lemmas.Option.{slice_get-map, get_or_from_slice_get}
use Rattle.base_words.specs.Fields.{Block}
use Rattle.base_words.specs.Tables.{zeros}
use Rattle.fx_header.specs.declared.slot.Hdr.{Hdr}
use Rattle.fx_header.specs.Pointers.{lbns_in}
use Rattle.plain_cat.specs.declared.cat.Cat.{Cat}
use Rattle.plain_cat.specs.declared.cat.File.{File}
use Rattle.plain_rules.specs.Changes.{is_past_mark, block_of}
use Rattle.vol_spell.specs.Owners.{Owners}
use Rattle.vol_parts.specs.declared.geometry.Geometry.{Geometry}
use Rattle.vol_spell.specs.Reading.{told_of}
use Rattle.vol_spell.specs.Spelling.{Spells}
use Rattle.vol_spell.specs.Files.{blocks_told as blocks_in}
use Rattle.op_law.specs.SeenFiles.{file_place}
use Rattle.op_steps.specs.Files.{file_in}
use Rattle.op_steps.specs.BlockWrites.{HasBlock}
use Rattle.vol_spell.proofs.Shown.{shown_by, flat_file, flat_told}
use Rattle.op_steps.proofs.Places.{place}
use Rattle.vol_spell.proofs.FilePlaces.{plain, file, no_dir}

get_taken : {A : Type 0} (k i : ℕ) (xs : List A) → i < k → slice_get (take k xs) i ≡ slice_get xs i
get_taken zero i xs lt = absurd (omega arith)
get_taken (suc k) i [] lt = refl
get_taken (suc k) zero (x ∷ xs) lt = refl
get_taken (suc k) (suc i) (x ∷ xs) lt = get_taken k i xs (omega arith)

pub block_shows : (g : Geometry) (bs : List Block) (own : Owners) (x : Cat) (n : ℕ) (h : Hdr) (f : File) (vbn : ℕ) (b : Block) → Spells g bs own x → HasBlock g x bs n h f vbn → is_past_mark f vbn ≡ false
    → slice_get bs (file_place (file_in g bs n h) vbn) ≡ Some b → block_of f vbn ≡ b
block_shows g bs own x n h f vbn b s has past at =
    let from = has.from in
    let l : ℕ = file_place (file_in g bs n h) vbn in
    let told : f ≡ flat_file g.cluster h (shown_by h.mark (blocks_in g bs n)) =
    file g bs own x n h f s has.there ∙ flat_told g.cluster n h (blocks_in g bs n) (plain g bs own x n h f s has.there) (no_dir g bs own x n h f s has.there has.flat) in
    let here : slice_get (blocks_in g bs n) (vbn - 1) ≡ Some b =
    slice_get-map (λ l. slice_index_or bs l []) (lbns_in (told_of g bs n).runs) (vbn - 1)
    ∙ ap (option_map (λ l. slice_index_or bs l [])) (place g bs own x n h f s has.there vbn has.from has.to)
    ∙ ap (λ (y : Block). Some y) (get_or_from_slice_get bs l b [] at) in
    let marks : not (h.mark == 0) && nat_le h.mark vbn ≡ false = sym (ap (λ (y : File). is_past_mark y vbn) told) ∙ past in
    ap (λ (t : Bool). cond t zeros (slice_index_or f.written (vbn - 1) zeros)) past
    ∙ ap (λ (y : File). slice_index_or y.written (vbn - 1) zeros) told
    ∙ get_or_from_slice_get (shown_by h.mark (blocks_in g bs n)) (vbn - 1) b zeros (by_mark (h.mark == 0) refl marks from here) where
      by_mark : (t : Bool) → (h.mark == 0) ≡ t → (not t && nat_le h.mark vbn) ≡ false → 1 ≤ vbn → slice_get (blocks_in g bs n) (vbn - 1) ≡ Some b → slice_get (cond t (blocks_in g bs n) (take (h.mark - 1) (blocks_in g bs n))) (vbn - 1) ≡ Some b
      by_mark true e marks from here = here
      by_mark false e marks from here =
          let lt : vbn < h.mark = grind (arith, nat_tests) in
          get_taken (h.mark - 1) (vbn - 1) (blocks_in g bs n) (omega arith) ∙ here
