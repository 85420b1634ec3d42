-- Where the parts of a volume lie: one behind the other, and all inside the blocks.
use Rattle.std.proofs.Common.{◌≡◌, ◌+◌, ◌-◌, ◌*◌, ◌/◌, ◌<◌, ◌≤◌, ◌==◌, ℕ, zero, suc, true, false, None, Some, refl, arith}
use Rattle.std.proofs.lemmas.Bool.{ne_eqb, eq-eqb, and_from, and_left, and_right, le-leb, lt-leb, lt-ltb, le-ltb}
use Rattle.std.proofs.Math.Nat.{mul-le-mul_left}
use Rattle.vol_parts.specs.Parts.{storage_blocks, is_among}
use Rattle.vol_parts.specs.Fatal.{in_whole_clusters}
use Rattle.vol_init.specs.declared.layout.Layout.{Layout}
use Rattle.vol_init.specs.Layouts.{IsLayout, total, reserved_clusters, index_clusters, bitmap_clusters, clusters_of, first_cluster}
use Rattle.vol_init.specs.declared.part.Part.TheVariants.{HomeCopy, HeaderCopy, Numbers, Header, Control, Storage, Main, Lost, Quota}
use Rattle.vol_init.specs.Parts.{first_block, part_of}

-- the files lie one behind the other, each with room for its blocks
pub record Places (l : Layout) : Type 0 where
  pub some : 1 ≤ l.cluster
  pub index : 4 * l.cluster + 1 + l.files ≤ first_block l 2
  pub bitmap : first_block l 2 + 1 + storage_blocks (total l) ≤ first_block l 4
  pub main : first_block l 11 ≡ first_block l 4 + l.cluster
  pub lost : first_block l 10 ≡ first_block l 11 + l.cluster
  pub quota : first_block l 10 + l.cluster ≤ l.blocks

whole : (factor blocks : ℕ) → 1 ≤ factor → blocks ≤ factor * in_whole_clusters factor blocks
whole factor blocks some = omega arith

index-room : (l : Layout) → 1 ≤ l.cluster → 4 * l.cluster + 1 + l.files ≤ l.cluster * index_clusters l
unfolding index_clusters
index-room l some = whole l.cluster (4 * l.cluster + 1 + l.files) some

bitmap-room : (l : Layout) → 1 ≤ l.cluster → 1 + storage_blocks (total l) ≤ l.cluster * bitmap_clusters l
unfolding bitmap_clusters
bitmap-room l some = whole l.cluster (1 + storage_blocks (total l)) some

some-factor : (a b : ℕ) → 1 ≤ a * b → 1 ≤ b
some-factor a zero h = absurd (omega arith)
some-factor a (suc b) h = omega arith

pub bitmap-some : (l : Layout) → 1 ≤ l.cluster → 1 ≤ clusters_of l 2
unfolding clusters_of
bitmap-some l some = some-factor l.cluster (bitmap_clusters l) (omega (arith, bitmap-room l some))

pub places : (l : Layout) → IsLayout l → reserved_clusters l ≤ total l → Places l
unfolding first_cluster
places l h room =
    let index = index-room l h.cluster_low in
    let bitmap = bitmap-room l h.cluster_low in
    let whole_blocks : l.cluster * (l.blocks / l.cluster) ≤ l.blocks = omega (arith, h.cluster_low) in
    let inside : l.cluster * reserved_clusters l ≤ l.cluster * (l.blocks / l.cluster) = mul-le-mul_left l.cluster room in
    record {
      some = h.cluster_low;
      index = omega (arith, index);
      bitmap = omega (arith, bitmap);
      main = omega arith;
      lost = omega arith;
      quota = omega (arith, inside, whole_blocks);
    }

-- ---- the tests of part_of

among : (first n lbn : ℕ) → first ≤ lbn → lbn < first + n → is_among first n lbn ≡ true
among first n lbn low high = and_from _ _ (le-leb first lbn low) (lt-ltb lbn (first + n) high)

below : (first n lbn : ℕ) → lbn < first → is_among first n lbn ≡ false
below first n lbn low = and_left _ _ (lt-leb first lbn low)

past : (first n lbn : ℕ) → first + n ≤ lbn → is_among first n lbn ≡ false
past first n lbn high = and_right _ _ (le-ltb lbn (first + n) high)

other : (a b : ℕ) → (a ≡ b → ⊥) → (a == b) ≡ false
other a b h = ne_eqb a b h

pub part-home-copy : (l : Layout) → part_of l (2 * l.cluster) ≡ Some HomeCopy
unfolding part_of
part-home-copy l =
    let lbn = 2 * l.cluster in
    let same = eq-eqb lbn lbn refl in
    rw same refl

pub part-header-copy : (l : Layout) → Places l → part_of l (3 * l.cluster) ≡ Some HeaderCopy
unfolding part_of
part-header-copy l p =
    let lbn = 3 * l.cluster in
    let copy = other lbn (2 * l.cluster) (λ e. omega (arith, p.some)) in
    let same = eq-eqb lbn lbn refl in
    rw (copy, same) refl

pub part-numbers : (l : Layout) → Places l → part_of l (4 * l.cluster) ≡ Some Numbers
unfolding part_of
part-numbers l p =
    let lbn = 4 * l.cluster in
    let copy = other lbn (2 * l.cluster) (λ e. omega (arith, p.some)) in
    let header = other lbn (3 * l.cluster) (λ e. omega (arith, p.some)) in
    let same = eq-eqb lbn lbn refl in
    rw (copy, header, same) refl

pub part-header : (l : Layout) (n : ℕ) → Places l → 1 ≤ n → n ≤ l.files → part_of l (4 * l.cluster + n) ≡ Some (Header n)
unfolding part_of
part-header l n p from to =
    let lbn = 4 * l.cluster + n in
    let copy = other lbn (2 * l.cluster) (λ e. omega arith) in
    let header = other lbn (3 * l.cluster) (λ e. omega arith) in
    let numbers = other lbn (4 * l.cluster) (λ e. omega arith) in
    let there = among (4 * l.cluster + 1) l.files lbn (omega arith) (omega arith) in
    let number : lbn - 4 * l.cluster ≡ n = omega arith in
    rw (copy, header, numbers, there, number) refl

-- an LBN behind the headers
record Behind (l : Layout) (lbn : ℕ) : Type 0 where
  copy : (lbn == 2 * l.cluster) ≡ false
  header : (lbn == 3 * l.cluster) ≡ false
  numbers : (lbn == 4 * l.cluster) ≡ false
  headers : is_among (4 * l.cluster + 1) l.files lbn ≡ false

behind : (l : Layout) (lbn : ℕ) → Places l → first_block l 2 ≤ lbn → Behind l lbn
behind l lbn p h = record {
  copy = other lbn (2 * l.cluster) (λ e. omega (arith, p.index));
  header = other lbn (3 * l.cluster) (λ e. omega (arith, p.index));
  numbers = other lbn (4 * l.cluster) (λ e. omega (arith, p.index));
  headers = past (4 * l.cluster + 1) l.files lbn (omega (arith, p.index));
}

pub part-control : (l : Layout) → Places l → part_of l (first_block l 2) ≡ Some Control
unfolding part_of
part-control l p =
    let lbn = first_block l 2 in
    let b = behind l lbn p (omega arith) in
    let same = eq-eqb lbn lbn refl in
    rw (b.copy, b.header, b.numbers, b.headers, same) refl

pub part-storage : (l : Layout) (k : ℕ) → Places l → k < storage_blocks (total l) → part_of l (first_block l 2 + 1 + k) ≡ Some (Storage k)
unfolding part_of
part-storage l k p h =
    let lbn = first_block l 2 + 1 + k in
    let b = behind l lbn p (omega arith) in
    let control = other lbn (first_block l 2) (λ e. omega arith) in
    let there = among (first_block l 2 + 1) (storage_blocks (total l)) lbn (omega arith) (omega arith) in
    let number : lbn - (first_block l 2 + 1) ≡ k = omega arith in
    rw (b.copy, b.header, b.numbers, b.headers, control, there, number) refl

-- an LBN behind the storage bitmap
record Beyond (l : Layout) (lbn : ℕ) : Type 0 where
  front : Behind l lbn
  control : (lbn == first_block l 2) ≡ false
  storage : is_among (first_block l 2 + 1) (storage_blocks (total l)) lbn ≡ false

beyond : (l : Layout) (lbn : ℕ) → Places l → first_block l 4 ≤ lbn → Beyond l lbn
beyond l lbn p h = record {
  front = behind l lbn p (omega (arith, p.bitmap));
  control = other lbn (first_block l 2) (λ e. omega (arith, p.bitmap));
  storage = past (first_block l 2 + 1) (storage_blocks (total l)) lbn (omega (arith, p.bitmap));
}

pub part-main : (l : Layout) (k : ℕ) → Places l → k < l.cluster → part_of l (first_block l 4 + k) ≡ Some (Main k)
unfolding part_of
part-main l k p h =
    let lbn = first_block l 4 + k in
    let b = beyond l lbn p (omega arith) in
    let there = among (first_block l 4) l.cluster lbn (omega arith) (omega arith) in
    let number : lbn - first_block l 4 ≡ k = omega arith in
    rw (b.front.copy, b.front.header, b.front.numbers, b.front.headers, b.control, b.storage, there, number) refl

pub part-lost : (l : Layout) (k : ℕ) → Places l → k < l.cluster → part_of l (first_block l 11 + k) ≡ Some (Lost k)
unfolding part_of
part-lost l k p h =
    let lbn = first_block l 11 + k in
    let b = beyond l lbn p (omega (arith, p.main)) in
    let main = past (first_block l 4) l.cluster lbn (omega (arith, p.main)) in
    let there = among (first_block l 11) l.cluster lbn (omega arith) (omega arith) in
    let number : lbn - first_block l 11 ≡ k = omega arith in
    rw (b.front.copy, b.front.header, b.front.numbers, b.front.headers, b.control, b.storage, main, there, number) refl

pub part-quota : (l : Layout) (k : ℕ) → Places l → k < l.cluster → part_of l (first_block l 10 + k) ≡ Some (Quota k)
unfolding part_of
part-quota l k p h =
    let lbn = first_block l 10 + k in
    let b = beyond l lbn p (omega (arith, p.main, p.lost)) in
    let main = past (first_block l 4) l.cluster lbn (omega (arith, p.main, p.lost)) in
    let lost = past (first_block l 11) l.cluster lbn (omega (arith, p.lost)) in
    let there = among (first_block l 10) l.cluster lbn (omega arith) (omega arith) in
    let number : lbn - first_block l 10 ≡ k = omega arith in
    rw (b.front.copy, b.front.header, b.front.numbers, b.front.headers, b.control, b.storage, main, lost, there, number) refl

-- an LBN behind the system files is no part's
pub part-none : (l : Layout) (lbn : ℕ) → Places l → first_block l 10 + l.cluster ≤ lbn → part_of l lbn ≡ None
unfolding part_of
part-none l lbn p h =
    let b = beyond l lbn p (omega (arith, p.main, p.lost)) in
    let main = past (first_block l 4) l.cluster lbn (omega (arith, p.main, p.lost)) in
    let lost = past (first_block l 11) l.cluster lbn (omega (arith, p.lost)) in
    let quota = past (first_block l 10) l.cluster lbn h in
    rw (b.front.copy, b.front.header, b.front.numbers, b.front.headers, b.control, b.storage, main, lost, quota) refl

-- QUOTA.SYS is the last of them
pub parts-end : (l : Layout) → l.cluster * reserved_clusters l ≡ first_block l 10 + l.cluster
unfolding first_cluster
parts-end l = omega arith
