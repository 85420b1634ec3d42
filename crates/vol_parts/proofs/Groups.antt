-- Blocks of entries.
use Rattle.std.proofs.Common.{◌+◌, ◌-◌, ◌*◌, ◌/◌, ◌%◌, ◌≤◌, ◌<◌, ◌++◌, Bool, true, false, ℕ, suc, List, [], ◌∷◌, Option, Some, None, length, replicate, if◌then◌else◌, arith, lit<}
use Rattle.byteorder.specs.Endian.{little_bytes}
use Rattle.base_words.specs.Fields.{IsBytes, IsWholeBlock}
use Rattle.base_words.specs.Packing.{padded, size}
use Rattle.fx_dir.specs.declared.RawEnt.{RawEnt}
use Rattle.fx_dir.specs.Lists.{Each}
use Rattle.fx_dir.specs.Writing.{IsInForm, IsRanged, name_of, head_bytes, version_bytes, goes_on, following, record_bytes, block_of}
use Rattle.fx_dir.proofs.Cover.{each-imp}
use Rattle.fx_dir.proofs.Steps.{name-short}
use Rattle.fx_dir.proofs.Written.{length-block}
use Rattle.vol_parts.specs.Laws.{WholeEntries}
use Rattle.vol_parts.proofs.Bytes.{bytes-none, bytes-cons, bytes-append, bytes-replicate, bytes-little}
use Rattle.vol_parts.proofs.Names.{bytes-name}

-- the flags of an entry are a byte
abbrev pub HasByte : RawEnt → Type 0
HasByte e = e.flags < 256

bytes-head : (e : RawEnt) (n : ℕ) → IsInForm e → HasByte e → IsBytes (head_bytes e n)
unfolding head_bytes
bytes-head e n form flags =
    let short = name-short e.name form.named in
    let pad : List ℕ = replicate (length e.name % 2) 0 in
    let name = bytes-append e.name pad (bytes-name e.name form.named) (bytes-replicate (length e.name % 2) 0 (lit< tt)) in
    let text : List ℕ = e.flags ∷ length e.name ∷ (e.name ++ pad) in
    bytes-append (little_bytes 2 (4 + padded e.name + 8 * n)) (little_bytes 2 e.limit ++ text) (bytes-little 2 (4 + padded e.name + 8 * n))
    (bytes-append (little_bytes 2 e.limit) text (bytes-little 2 e.limit)
    (bytes-cons e.flags (length e.name ∷ (e.name ++ pad)) flags (bytes-cons (length e.name) (e.name ++ pad) (omega arith) name)))

bytes-version : (e : RawEnt) → IsInForm e → IsBytes (version_bytes e)
unfolding version_bytes
bytes-version e form =
    let numbered = form.numbered in
    let last : IsBytes (0 ∷ e.num / 65536 ∷ []) = bytes-cons 0 (e.num / 65536 ∷ []) (lit< tt) (bytes-cons (e.num / 65536) [] (omega arith) bytes-none) in
    bytes-append (little_bytes 2 e.ver) (little_bytes 2 (e.num % 65536) ++ (little_bytes 2 e.seq ++ (0 ∷ e.num / 65536 ∷ []))) (bytes-little 2 e.ver)
    (bytes-append (little_bytes 2 (e.num % 65536)) (little_bytes 2 e.seq ++ (0 ∷ e.num / 65536 ∷ [])) (bytes-little 2 (e.num % 65536))
    (bytes-append (little_bytes 2 e.seq) (0 ∷ e.num / 65536 ∷ []) (bytes-little 2 e.seq) last))

bytes-records : (last : Option (List ℕ)) (es : List RawEnt) → Each IsInForm es → Each HasByte es → IsBytes (record_bytes last es)
bytes-records last [] form flags = bytes-none
bytes-records last (e ∷ es) form flags =
    let head = bytes-head e (suc (following e.name es)) form.0 flags.0 in
    bytes-append (if goes_on last e then [] else head_bytes e (suc (following e.name es))) (version_bytes e ++ record_bytes (Some e.name) es)
    (step (goes_on last e) head)
    (bytes-append (version_bytes e) (record_bytes (Some e.name) es) (bytes-version e form.0) (bytes-records (Some e.name) es form.1 flags.1))
  where
    step : (q : Bool) → IsBytes (head_bytes e (suc (following e.name es))) → IsBytes (if q then [] else head_bytes e (suc (following e.name es)))
    step true h = bytes-none
    step false h = h

pub whole-block : (es : List RawEnt) → Each IsInForm es → Each HasByte es → size name_of None es ≤ 510 → IsWholeBlock (block_of es)
unfolding block_of
whole-block es form flags room =
    let n = 510 - length (record_bytes None es) in
    let behind : IsBytes (255 ∷ 255 ∷ replicate n 0) = bytes-cons 255 (255 ∷ replicate n 0) (lit< tt) (bytes-cons 255 (replicate n 0) (lit< tt) (bytes-replicate n 0 (lit< tt))) in
    record {
      long = length-block es room;
      bytes = bytes-append (record_bytes None es) (255 ∷ 255 ∷ replicate n 0) (bytes-records None es form flags) behind;
    }

pub have-bytes : (es : List RawEnt) → Each IsRanged es → Each HasByte es
have-bytes es ranged = each-imp IsRanged HasByte es (λ e r. r.flags) ranged

pub whole_entries : WholeEntries
whole_entries es form ranged room = whole-block es form (have-bytes es ranged) room
