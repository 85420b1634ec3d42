-- What a header of a file lists has room in it, and the last header that was seen.
use Rattle.std.proofs.Common.{◌≡◌, ◌<◌, ◌≤◌, ◌+◌, ◌++◌, ℕ, true, zero, suc, List, [], ◌∷◌, inl, inr, length, take, drop, get_or, All, refl, subst, arith, length-append, length-take, length-drop, take-append-drop}
use Rattle.std.specs.Prelude.{◌*◌, IsTrue}
use Rattle.std.proofs.lemmas.Bool.Decides.{nat_tests}
use Rattle.base_words.specs.Fields.{Block}
use Rattle.base_words.specs.Lists.{Has}
use Rattle.base_words.proofs.Listing.{has_parted, has_first, has_second}
use Rattle.fx_header.specs.Headers.{has_offsets, HasRoom}
use Rattle.fx_header.proofs.SoundLemmas.{areas-of, reads-sound}
use Rattle.plain_rules.specs.Lookups.{header_most, file_most, extra, needs_header}
use Rattle.vol_parts.specs.declared.geometry.Geometry.{Geometry}
use Rattle.vol_parts.specs.Parts.{IsGeometry}
use Rattle.vol_spell.specs.Reading.{total_of}
use Rattle.vol_spell.proofs.Heads.{used_reads}
use Rattle.op_law.specs.Headers.{slot_at, slots_seen, last_header, tail_of, room_for}
use Rattle.op_law.specs.Writing.{runs_for}
use Rattle.op_steps.proofs.FileRuns.{are_runs_for, short_words}
use Rattle.op_steps.specs.Seeing.{IsReadable}
use Rattle.op_steps.specs.declared.seeing.FileSeen.{FileSeen}
use Rattle.op_extend.specs.Seeing.{AreSlots}

-- ---- parts of lists

pub has_taken : {A : Type 0} (k : ℕ) (xs : List A) (x : A) → Has (take k xs) x → Has xs x
has_taken k xs x t = subst (λ ys. Has ys x) (take-append-drop k xs) (has_first (take k xs) (drop k xs) x t)

pub has_dropped : {A : Type 0} (k : ℕ) (xs : List A) (x : A) → Has (drop k xs) x → Has xs x
has_dropped k xs x t = subst (λ ys. Has ys x) (take-append-drop k xs) (has_second (take k xs) (drop k xs) x t)

pub listed : {A : Type 0} (xs : List A) (k : ℕ) (d : A) → k < length xs → Has xs (get_or xs k d)
listed [] k d lt = absurd (omega arith)
listed (x ∷ xs) zero d lt = inl refl
listed (x ∷ xs) (suc k) d lt = inr (listed xs k d (omega arith))

-- ---- the clusters of a header

-- a last header lists no more than a header can
pub tail_few : (k : ℕ) (qs : List ℕ) → length (tail_of k qs) ≤ header_most
tail_few k qs = omega (arith, length-take k qs, length-drop (header_most * extra k) (take k qs))

-- nor does it with the new ones that have room there
pub grown_few : (k : ℕ) (qs new : List ℕ) → length (tail_of k qs ++ take (room_for k) new) ≤ header_most
grown_few k qs new =
    omega (arith, length-take k qs, length-drop (header_most * extra k) (take k qs), length-take (room_for k) new, length-append (tail_of k qs) (take (room_for k) new))

-- they are the volume's
pub tail_there : (n k : ℕ) (qs : List ℕ) → ((q : ℕ) → Has qs q → q < n) → (q : ℕ) → Has (tail_of k qs) q → q < n
tail_there n k qs there q t = there q (has_taken k qs q (has_dropped (header_most * extra k) (take k qs) q t))

pub grown_there : (n k : ℕ) (qs new : List ℕ) → ((q : ℕ) → Has qs q → q < n) → ((q : ℕ) → Has new q → q < n) → (q : ℕ) → Has (tail_of k qs ++ take (room_for k) new) q → q < n
grown_there n k qs new there there' q t =
    elim (has_parted (tail_of k qs) (take (room_for k) new) q t) [ inl u ↦ tail_there n k qs there q u | inr u ↦ there' q (has_taken (room_for k) new q u) ]

-- a header has room for the runs of as many clusters as it can list
pub has_room : (g : Geometry) (b : Block) (qs : List ℕ) → IsGeometry g → IsTrue (has_offsets b) → length qs ≤ header_most → ((q : ℕ) → Has qs q → q < total_of g) → HasRoom b (runs_for g qs)
has_room g b qs geometry offsets few there =
    let words = short_words g geometry.cluster_from qs there geometry.cluster_to geometry.blocks_to in
    let room = (areas-of b offsets).room in
    (are_runs_for g geometry.cluster_from qs there geometry.blocks_to, omega arith)

-- ---- the headers that were seen

-- the first header has the areas of one
pub head_offsets : (f : FileSeen) → IsReadable f → IsTrue (has_offsets f.head.now)
head_offsets f readable = (reads-sound f.head.now f.fields (used_reads f.head.now f.fields readable.reads)).offsets

-- so has the last one
pub last_offsets : (g : Geometry) (n : ℕ) (b : Block) (rest : List (ℕ × Block)) → IsTrue (has_offsets b) → AreSlots g rest → IsTrue (has_offsets (last_header g n b rest).1)
last_offsets g n b [] offsets are = offsets
last_offsets g n b (x ∷ rest) offsets are = last_offsets g (slot_at g x.0) x.1 rest (are x (inl refl)).offsets (λ y t. are y (inr t))

-- and its number is one of the volume's
pub last_number : (g : Geometry) (n : ℕ) (b : Block) (rest : List (ℕ × Block)) → n ≤ g.files → AreSlots g rest → (last_header g n b rest).0 ≤ g.files
last_number g n b [] le are = le
last_number g n b (x ∷ rest) le are = last_number g (slot_at g x.0) x.1 rest (are x (inl refl)).number (λ y t. are y (inr t))

-- the headers that were seen from the k-th on, or before it, are slots too
pub kept_slots : (g : Geometry) (k : ℕ) (rest : List (ℕ × Block)) → AreSlots g rest → AreSlots g (take k rest)
kept_slots g k rest are x t = are x (has_taken k rest x t)

pub gone_slots : (g : Geometry) (k : ℕ) (rest : List (ℕ × Block)) → AreSlots g rest → AreSlots g (drop k rest)
gone_slots g k rest are x t = are x (has_dropped k rest x t)

-- their numbers are those of a volume
pub numbers_few : (g : Geometry) (rest : List (ℕ × Block)) → IsGeometry g → AreSlots g rest → All (λ n. n ≤ 4096) (slots_seen g rest)
numbers_few g [] geometry are k d lt = absurd (omega arith)
numbers_few g (x ∷ rest) geometry are zero d lt = let number = (are x (inl refl)).number in let few = geometry.files_to in omega arith
numbers_few g (x ∷ rest) geometry are (suc k) d lt = numbers_few g rest geometry (λ y t. are y (inr t)) k d (omega arith)

-- a new header is one of the 16 that a file may have
pub place_few : (k more : ℕ) → k + more ≤ file_most → needs_header k more ≡ true → extra k + 1 ≤ 15
place_few k more all needs = let later : extra k < extra (k + more) = grind (arith, nat_tests) in omega arith
