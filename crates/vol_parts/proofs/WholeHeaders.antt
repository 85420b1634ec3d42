-- Headers, and their slots when they are free.
use Rattle.std.proofs.Common.{◌≡◌, ◌+◌, ◌-◌, ◌*◌, ◌/◌, ◌^◌, ◌≤◌, ◌%◌, ◌++◌, ◌&&◌, ℕ, Bool, true, false, List, [], ◌∷◌, take, drop, length, replicate, nat_lt, if◌then◌else◌, refl, arith, lit<}
use Rattle.std.specs.Prelude.{flat_map}
use Rattle.base_words.specs.Fields.{Block, IsBytes, IsWholeBlock, put, put_field}
use Rattle.base_words.specs.Tables.{zeros, laid}
use Rattle.base_words.proofs.Tables.{rises}
use Rattle.fx_header.specs.declared.run.Run.{Run}
use Rattle.fx_header.specs.declared.slot.Hdr.{Hdr}
use Rattle.fx_header.specs.Pointers.{word, long, first_word, pointer_bytes, merged, map_words, blocks_in}
use Rattle.fx_header.specs.Headers.{has_offsets, map_offset, map_area, high_first_rows, id_rows, area_rows, size_rows, owner_rows, new_rows, filled, with_name, header_bytes, with_flags, marked, scattered, with_mark, with_owner, with_end, with_words, with_runs, with_map, with_blocks, with_link, freed}
use Rattle.fx_header.proofs.SoundLemmas.{areas-of}
use Rattle.vol_parts.specs.Laws.{WholeHeader, WholeRuns, WholeMap, WholeBlocks, WholeLink, WholeMark, WholeOwner, WholeEnd, WholeMarked, WholeScattered, WholeFreed}
use Rattle.vol_parts.proofs.Bytes.{bytes-none, bytes-append, bytes-take, bytes-drop, bytes-replicate, bytes-little}
use Rattle.vol_parts.proofs.WholeFields.{whole_zeros, whole_put, whole_field, whole_summed, whole-laid}
use Rattle.fx_header.proofs.NewLemmas.{length-filled}

-- a number whose high word stands first
whole-high : (b : Block) (o n : ℕ) → IsWholeBlock b → o + 4 ≤ 512 → IsWholeBlock (laid (high_first_rows o n) b)
whole-high b o n whole fits =
    whole_field (put_field b o 2 (n / 2 ^ 16)) (o + 2) 2 (n % 2 ^ 16) (whole_field b o 2 (n / 2 ^ 16) whole (omega arith)) (omega arith)

pub whole_freed : WholeFreed
unfolding freed
whole_freed seq = whole_summed (put_field zeros 10 2 seq) (whole_field zeros 10 2 seq whole_zeros (omega arith))

whole-flags : (b : Block) (flags : ℕ) → IsWholeBlock b → IsWholeBlock (with_flags b flags)
whole-flags b flags whole = whole_summed (put_field b 52 4 flags) (whole_field b 52 4 flags whole (omega arith))

pub whole_marked : WholeMarked
unfolding marked
whole_marked b whole = whole-flags b _ whole

pub whole_scattered : WholeScattered
unfolding scattered
whole_scattered b whole = whole-flags b _ whole

pub whole_mark : WholeMark
unfolding with_mark
whole_mark b mark whole = whole_summed (put_field b 76 4 mark) (whole_field b 76 4 mark whole (omega arith))

pub whole_owner : WholeOwner
unfolding with_owner
whole_owner b owner whole = whole_summed (put_field b 60 4 owner) (whole_field b 60 4 owner whole (omega arith))

pub whole_end : WholeEnd
unfolding with_end
whole_end b end byte whole =
    whole_summed (put_field (laid (high_first_rows 28 end) b) 32 2 byte)
    (whole_field (laid (high_first_rows 28 end) b) 32 2 byte (whole-high b 28 end whole (omega arith)) (omega arith))

-- a text of bytes, filled with spaces
bytes-filled : (n : ℕ) (text : List ℕ) → IsBytes text → IsBytes (filled n text)
bytes-filled n text are =
    bytes-append (take n text) (replicate (n - length text) 32) (bytes-take n text are) (bytes-replicate (n - length text) 32 (lit< tt))

whole-named : (b : Block) (text : List ℕ) → IsWholeBlock b → IsBytes text → IsWholeBlock (with_name b text)
whole-named b text whole are =
    let front = length-filled 20 text in
    let back = length-filled 66 (drop 20 text) in
    whole_put (put b 80 (filled 20 text)) 134 (filled 66 (drop 20 text)) (whole_put b 80 (filled 20 text) whole (bytes-filled 20 text are) (omega arith))
    (bytes-filled 66 (drop 20 text) (bytes-drop 20 text are)) (omega arith)

rows-rise : (h : Hdr) (parent : ℕ × ℕ) → rises 0 (new_rows h parent) ≡ true
unfolding area_rows size_rows owner_rows
rows-rise h parent = refl

pub whole_header : WholeHeader
unfolding header_bytes
whole_header h text parent are =
    whole_summed (with_name (laid (new_rows h parent) zeros) text)
    (whole-named (laid (new_rows h parent) zeros) text (whole-laid 0 (new_rows h parent) zeros (rows-rise h parent) whole_zeros) are)

-- the pointers of runs are bytes
bytes-pointer : (r : Run) → IsBytes (pointer_bytes r)
unfolding pointer_bytes
bytes-pointer r = by_format (nat_lt r.lbn (2 ^ 22) && nat_lt (r.count - 1) (2 ^ 8)) (nat_lt (r.count - 1) (2 ^ 14)) where
  by_format : (small middle : Bool) → IsBytes (
      if small then first_word 1 (r.lbn / 2 ^ 16 * 2 ^ 8 + (r.count - 1)) ++ word (r.lbn % 2 ^ 16)
      else if middle then first_word 2 (r.count - 1) ++ long r.lbn
      else first_word 3 ((r.count - 1) / 2 ^ 16) ++ word ((r.count - 1) % 2 ^ 16) ++ long r.lbn)
  by_format true middle = bytes-append (first_word 1 (r.lbn / 2 ^ 16 * 2 ^ 8 + (r.count - 1))) (word (r.lbn % 2 ^ 16)) (bytes-little 2 (1 * 2 ^ 14 + (r.lbn / 2 ^ 16 * 2 ^ 8 + (r.count - 1)))) (bytes-little 2 (r.lbn % 2 ^ 16))
  by_format false true = bytes-append (first_word 2 (r.count - 1)) (long r.lbn) (bytes-little 2 (2 * 2 ^ 14 + (r.count - 1))) (bytes-little 4 r.lbn)
  by_format false false =
      bytes-append (first_word 3 ((r.count - 1) / 2 ^ 16)) (word ((r.count - 1) % 2 ^ 16) ++ long r.lbn) (bytes-little 2 (3 * 2 ^ 14 + (r.count - 1) / 2 ^ 16))
      (bytes-append (word ((r.count - 1) % 2 ^ 16)) (long r.lbn) (bytes-little 2 ((r.count - 1) % 2 ^ 16)) (bytes-little 4 r.lbn))

bytes-pointers : (runs : List Run) → IsBytes (flat_map pointer_bytes runs)
bytes-pointers [] = bytes-none
bytes-pointers (r ∷ runs) = bytes-append (pointer_bytes r) (flat_map pointer_bytes runs) (bytes-pointer r) (bytes-pointers runs)

-- the map area ends within the block
area-ends : (b : Block) → has_offsets b ≡ true → 2 * map_offset b + 2 * map_area b ≤ 510
area-ends b off = let areas = areas-of b off in omega (arith, areas.inside, areas.reserved)

whole-words : (b : Block) (runs : List Run) → IsWholeBlock b → has_offsets b ≡ true → length (map_words runs) ≤ 2 * map_area b
    → IsWholeBlock (with_words b (map_words runs))
whole-words b runs whole off room =
    let start : ℕ = 2 * map_offset b in
    let words : List ℕ = map_words runs in
    let p : Block = put b start words in
    let ends = area-ends b off in
    let whole_p : IsWholeBlock p = whole_put b start words whole (bytes-pointers (merged runs)) (omega arith) in
    whole_field p 58 1 (length words / 2) whole_p (omega arith)

pub whole_runs : WholeRuns
unfolding with_runs
whole_runs b runs whole off room =
    let q : Block = with_words b (map_words runs) in
    whole_summed (laid (high_first_rows 24 (blocks_in runs)) q) (whole-high q 24 (blocks_in runs) (whole-words b runs whole off room) (omega arith))

pub whole_map : WholeMap
unfolding with_map
whole_map b runs whole off room = whole_summed (with_words b (map_words runs)) (whole-words b runs whole off room)

pub whole_blocks : WholeBlocks
unfolding with_blocks
whole_blocks b blocks whole = whole_summed (laid (high_first_rows 24 blocks) b) (whole-high b 24 blocks whole (omega arith))

pub whole_link : WholeLink
unfolding with_link
whole_link b num seq whole = whole_summed (laid (id_rows 14 num seq) b) (whole-laid 14 (id_rows 14 num seq) b refl whole)
