-- The bytes of records and their longest name, counted record by record and block by block.
use Rattle.std.proofs.Common.{◌≡◌, ◌∙◌, ◌+◌, ◌-◌, ◌*◌, ◌/◌, ◌^◌, ◌<◌, ◌≤◌, min, max, ℕ, zero, suc, true, false, cond, List, ◌∷◌, ◌++◌, Option, Some, None, Ok, leb, refl, sym, ap, subst, arith, append-nil, append_assoc, drop, drop-cons, get_or, length, length-take, length-drop, slice_index}
use Rattle.std.proofs.Math.Nat.{mul-le-mul}
use Rattle.std.specs.Prelude.{IsSome}
use Rattle.base_words.specs.Fields.{Block}
use Rattle.base_words.specs.Packing.{padded, cost, size}
use Rattle.fx_dir.specs.declared.RawEnt.{RawEnt}
use Rattle.fx_dir.specs.Lists.{Each}
use Rattle.fx_dir.specs.Records.{name_in, record_length, head_length, is_end, entry_in, versions_in, record_entries}
use Rattle.fx_dir.specs.Directory.{directory, entries_at}
use Rattle.fx_dir.specs.Moves.{key}
use Rattle.fx_dir.specs.Writing.{name_of}
use Rattle.fx_dir.proofs.Numbers.{leb_says}
use Rattle.fx_dir.proofs.Order.{bytes_refl}
use Rattle.fx_dir.proofs.Wanted.{record-versions}
use Rattle.fx_dir.specs.Plenty.{bytes_of, longest_of, bytes_in, longest_in}
use Rattle.fx_dir.specs.Room.{has_room}
use Rattle.fx_dir.specs.Walk.{read_in, blocks_alone, IsBlockRead}
use Rattle.fx_dir.proofs.Plenty.{own, bytes-more, longest-more, directory-plenty}
use Rattle.fx_dir.proofs.RoomStreams.{TakesInTurn, RecordsLeft, none_behind, record-here, record-passed, records-none, version-step}

-- ---- a record

module _ (head : List ℕ) where
  cost-goes-on : (name : List ℕ) → cost (Some name) name ≡ 8
  unfolding cost
  cost-goes-on name = ap (λ t. cond t 8 (14 + padded name)) (bytes_refl name)

  next-bytes : (last : Option (List ℕ)) (bytes : List ℕ) (n : ℕ) → IsSome (versions_in head (suc n) bytes)
      → size name_of last (read_in (versions_in head (suc n) bytes)) ≡ cost last (name_in head) + size name_of (Some (name_in head)) (read_in (versions_in head n (drop 8 bytes)))
  unfolding entry_in
  next-bytes last bytes n h = ap (size name_of last) (version-step head bytes n h).1

  next-longest : (bytes : List ℕ) (n : ℕ) → IsSome (versions_in head (suc n) bytes)
      → longest_of (read_in (versions_in head (suc n) bytes)) ≡ max (length (name_in head)) (longest_of (read_in (versions_in head n (drop 8 bytes))))
  unfolding entry_in
  next-longest bytes n h = ap longest_of (version-step head bytes n h).1

  more-bytes : (n : ℕ) (bytes : List ℕ) → IsSome (versions_in head n bytes) → size name_of (Some (name_in head)) (read_in (versions_in head n bytes)) ≡ 8 * n
  more-bytes zero bytes h = refl
  more-bytes (suc n) bytes h =
      let f = next-bytes (Some (name_in head)) bytes n h in
      let g = cost-goes-on (name_in head) in
      let ih = more-bytes n (drop 8 bytes) (version-step head bytes n h).0 in
      omega arith

  versions-bytes : (n : ℕ) (bytes : List ℕ) → IsSome (versions_in head n bytes) → bytes_of (read_in (versions_in head n bytes)) ≤ 6 + padded (name_in head) + 8 * n
  unfolding cost
  versions-bytes zero bytes h = omega arith
  versions-bytes (suc n) bytes h =
      let f = next-bytes None bytes n h in
      let m = more-bytes n (drop 8 bytes) (version-step head bytes n h).0 in
      omega arith

  versions-longest : (n : ℕ) (bytes : List ℕ) → IsSome (versions_in head n bytes) → longest_of (read_in (versions_in head n bytes)) ≤ length (name_in head)
  versions-longest zero bytes h = omega arith
  versions-longest (suc n) bytes h =
      let f = next-longest bytes n h in
      let ih = versions-longest n (drop 8 bytes) (version-step head bytes n h).0 in
      omega arith

record RecordCounted (bytes : List ℕ) : Type 0 where
  few : bytes_of (read_in (record_entries bytes)) ≤ record_length bytes
  longest : longest_of (read_in (record_entries bytes)) ≤ length (name_in bytes)

record-counted : (bytes : List ℕ) → IsSome (record_entries bytes) → RecordCounted bytes
record-counted bytes some =
    let v = record-versions bytes some in
    let n = (record_length bytes - head_length bytes) / 8 in
    let at = drop (head_length bytes) bytes in
    let is : IsSome (versions_in bytes n at) = subst IsSome v.entries some in
    let name : length (name_in bytes) ≡ slice_index bytes 5 = omega (arith, length-take (slice_index bytes 5) (drop 6 bytes), length-drop 6 bytes) in
    let head : 6 + padded (name_in bytes) ≡ head_length bytes = rw name (omega arith) in
    let b = versions-bytes bytes n at is in
    let l = versions-longest bytes n at is in
    record {
      few = rw (v.entries) (omega arith);
      longest = rw (v.entries) l;
    }

-- ---- a block

abbrev pub together : List RawEnt → List RawEnt → List RawEnt
together past es = past ++ es

turns : TakesInTurn together
turns = record { none = λ now. append-nil now; more = λ now xs ys. sym (append_assoc now xs ys) }

-- what is counted where the records from here on are left of a block
pub record BlockCounted (all : List RawEnt) (room longest : ℕ) (rest : List ℕ) : Type 0 where
  pub past : List RawEnt
  pub left : RecordsLeft together all past rest
  pub bytes : bytes_of past + length rest ≤ room
  pub names : longest_of past ≤ longest

pub block-passed : (all : List RawEnt) (room longest : ℕ) (rest : List ℕ) → 2 ≤ length rest → is_end rest ≡ false → BlockCounted all room longest rest
    → BlockCounted all room (max longest (length (name_in rest))) (drop (record_length rest) rest)
block-passed all room longest rest long goes c =
    let here = record-here rest long together all c.past c.left goes in
    let v = record-versions rest here in
    let r = record-counted rest here in
    let es = read_in (record_entries rest) in
    let d = length-drop (record_length rest) rest in
    let m = bytes-more None c.past es in
    let n = longest-more c.past es in
    record {
      past = c.past ++ es;
      left = record-passed rest long together all c.past c.left goes (c.past ++ es) refl (omega arith) turns;
      bytes = omega arith;
      names = omega arith;
    }

pub block-done : (all : List RawEnt) (room longest : ℕ) (rest : List ℕ) → 2 ≤ length rest → is_end rest ≡ true → BlockCounted all room longest rest → (bytes_of all ≤ room - length rest) × (longest_of all ≤ longest)
block-done all room longest rest long ends c =
    let is = records-none rest long together all c.past c.left ends turns in
    let b = c.bytes in
    let n = c.names in
    (subst (λ es. bytes_of es ≤ room - length rest) is (omega arith), subst (λ es. longest_of es ≤ longest) is n)

-- ---- blocks

pub record BlocksCounted (all seen : List (ℕ × Block)) (bytes longest : ℕ) : Type 0 where
  pub read : Each IsBlockRead (blocks_alone seen)
  pub few : min (bytes_in (blocks_alone all)) (2 ^ 64 - 1) ≤ bytes + bytes_in (blocks_alone seen)
  pub names : longest_in (blocks_alone all) ≤ max longest (longest_in (blocks_alone seen))

pub blocks-next : (all seen : List (ℕ × Block)) (bytes longest i : ℕ) (d : ℕ × Block) → i < length seen → BlocksCounted all (drop i seen) bytes longest → BlocksCounted all (get_or seen i d ∷ drop (i + 1) seen) bytes longest
blocks-next all seen bytes longest i d lt c =
    let s : i + 1 ≡ suc i = omega arith in
    let split : drop i seen ≡ get_or seen i d ∷ drop (i + 1) seen = drop-cons seen i d lt ∙ λ j. get_or seen i d ∷ drop (sym s j) seen in
    subst (λ l. BlocksCounted all l bytes longest) split c

pub blocks-more : (all : List (ℕ × Block)) (x : ℕ × Block) (rest : List (ℕ × Block)) (bytes longest b n : ℕ) → BlocksCounted all (x ∷ rest) bytes longest → bytes_of (entries_at x.1) ≤ b → longest_of (entries_at x.1) ≤ n
    → BlocksCounted all rest (min (bytes + b) (2 ^ 64 - 1)) (max longest n)
blocks-more all x rest bytes longest b n c few names =
    let f = c.few in
    let l = c.names in
    record { read = c.read.1; few = omega arith; names = omega arith }

pub blocks-done : (all : List (ℕ × Block)) (bytes longest i : ℕ) → length all ≤ i → BlocksCounted all (drop i all) bytes longest
    → (min (bytes_in (blocks_alone all)) (2 ^ 64 - 1) ≤ bytes) × (longest_in (blocks_alone all) ≤ longest)
blocks-done all bytes longest i le c =
    let none = subst (λ l. BlocksCounted all l bytes longest) (none_behind all i le) c in
    let f = none.few in
    let l = none.names in
    (omega arith, omega arith)

-- ---- a directory

-- a product in 64 bits is one of the numbers that are counted in full
bounded : (k free : ℕ) → k < 2 ^ 32 → free ≤ 511 → k * free < 2 ^ 64 - 1
bounded k free b f = let le : k ≤ 2 ^ 32 = omega arith in let m : k * free ≤ 2 ^ 32 * 511 = mul-le-mul le f in omega arith

pub told_plenty : (k ver bytes most n : ℕ) (name : List ℕ) (bs : List Block) (es : List RawEnt) → k < 2 ^ 32 → directory bs ≡ Ok es → min (bytes_in bs) (2 ^ 64 - 1) ≤ bytes → max (length name) (longest_in bs) ≤ n → n ≤ 255
    → most ≡ own n → leb (min (bytes + 2 * most) (2 ^ 64 - 1)) (k * (511 - most)) ≡ true → has_room k (key name ver) es ≡ true
told_plenty k ver bytes most n name bs es small read few names short is less =
    let b = bounded k (511 - most) small (omega arith) in
    let l : min (bytes + 2 * most) (2 ^ 64 - 1) ≤ k * (511 - most) = leb_says _ _ less in
    directory-plenty k (511 - most) n (key name ver) bs es read (omega arith) names (omega arith)
