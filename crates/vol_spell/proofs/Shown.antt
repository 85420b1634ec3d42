-- What shows of the blocks of a file that is no directory, and where one of them is set.
use Rattle.std.proofs.Common.{◌≡◌, ◌≤◌, ◌<◌, ◌-◌, ◌/◌, ℕ, Bool, true, false, cond, List, [], take, slice_set, refl, ap, arith}
use Rattle.std.specs.Prelude.{◌==◌, ◌&&◌, not, nat_le}
use Rattle.std.proofs.lemmas.Bool.Decides.{nat_tests}
use Rattle.std.proofs.lemmas.List.{take-set-le}
use Rattle.std.proofs.Math.Seq.{take-set-lt}
use Rattle.base_words.specs.Fields.{Block}
use Rattle.fx_header.specs.declared.slot.Hdr.{Hdr}
use Rattle.plain_cat.specs.declared.cat.File.{File}
use Rattle.vol_parts.specs.Catalogues.{is_structure, file_of}
use Rattle.vol_spell.specs.Files.{showing}

-- the blocks that show by a mark
abbrev pub shown_by : ℕ → List Block → List Block
shown_by mark body = cond (mark == 0) body (take (mark - 1) body)

-- a file that is no directory, by its header, where these blocks show
abbrev pub flat_file : ℕ → Hdr → List Block → File
flat_file factor h w = record {
  seq = h.seq;
  owner = record { 0 = h.owner };
  dir = false;
  clusters = h.blocks / factor;
  mark = h.mark;
  end = h.end;
  byte = h.byte;
  marked = h.marked;
  written = w;
  entries = [];
}

pub flat_told : (factor n : ℕ) (h : Hdr) (body : List Block) → is_structure n ≡ false → h.dir ≡ false → file_of factor n h body ≡ flat_file factor h (shown_by h.mark body)
flat_told factor n h body plain flat = rw (flat, plain) refl

-- a block at or above the mark does not show, and another one shows alone
pub flat_shows : (factor : ℕ) (h : Hdr) (body : List Block) (vbn : ℕ) (b : Block) → 1 ≤ vbn
    → flat_file factor h (shown_by h.mark (slice_set body (vbn - 1) b)) ≡ showing (flat_file factor h (shown_by h.mark body)) vbn b
flat_shows factor h body vbn b from = by_mark (h.mark == 0) refl where
  by_past : (u : Bool) → (h.mark == 0) ≡ false → nat_le h.mark vbn ≡ u
      → flat_file factor h (take (h.mark - 1) (slice_set body (vbn - 1) b)) ≡ cond u (flat_file factor h (take (h.mark - 1) body)) (flat_file factor h (slice_set (take (h.mark - 1) body) (vbn - 1) b))
  by_past true some e =
      let le : h.mark ≤ vbn = grind (arith, nat_tests) in
      ap (flat_file factor h) (take-set-le (h.mark - 1) body (vbn - 1) b (omega arith))
  by_past false some e =
      let lt : vbn < h.mark = grind (arith, nat_tests) in
      ap (flat_file factor h) (take-set-lt (h.mark - 1) body (vbn - 1) b (omega arith))

  by_mark : (t : Bool) → (h.mark == 0) ≡ t
      → flat_file factor h (cond t (slice_set body (vbn - 1) b) (take (h.mark - 1) (slice_set body (vbn - 1) b)))
      ≡ cond (not t && nat_le h.mark vbn) (flat_file factor h (cond t body (take (h.mark - 1) body))) (flat_file factor h (slice_set (cond t body (take (h.mark - 1) body)) (vbn - 1) b))
  by_mark true e = refl
  by_mark false e = by_past (nat_le h.mark vbn) e refl
