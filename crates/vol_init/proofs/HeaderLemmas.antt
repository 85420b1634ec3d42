-- The header of a system file: its run fits, and it reads back.
use Rattle.std.proofs.Common.{◌≡◌, ◌∙◌, ◌+◌, ◌-◌, ◌*◌, ◌/◌, ◌%◌, ◌^◌, ◌≤◌, ◌&&◌, IsTrue, nat_le, nat_lt, ℕ, Bool, true, false, List, [], ◌∷◌, ◌++◌, length, Ok, refl, sym, ap, subst, inl, inr, arith, rules, append-nil}
use Rattle.std.specs.Prelude.{if◌then◌else◌}
use Rattle.std.proofs.lemmas.Bool.{cases_eq, ne_eqb, eq-eqb, le-leb}
use Rattle.std.proofs.Math.Nat.{mul-le-mul_left}
use Rattle.base_words.specs.Fields.{Block}
use Rattle.fx_header.specs.declared.run.Run.{Run}
use Rattle.fx_header.specs.declared.slot.Slot.TheVariants.{Used}
use Rattle.fx_header.specs.Headers.{header_read, runs_in, map_area, with_runs, EndsWithin, ReadsBack}
use Rattle.fx_header.specs.Pointers.{AreRuns, IsRun, merged, map_words, pointer_bytes, first_word, word, long, blocks_in}
use Rattle.vol_init.specs.declared.layout.Layout.{Layout}
use Rattle.vol_init.specs.Layouts.{IsLayout, total, reserved_clusters, clusters_of, first_cluster, blocks_of, header_of, runs_of}
use Rattle.vol_init.specs.Parts.{first_block}
use Rattle.vol_init.proofs.PlaceLemmas.{Places, places}

-- files without clusters
no-clusters : (l : Layout) (n : ℕ) → (n ≡ 1 → ⊥) → (n ≡ 2 → ⊥) → (n ≡ 4 → ⊥) → (n ≡ 10 → ⊥) → (n ≡ 11 → ⊥) → clusters_of l n ≡ 0
unfolding clusters_of
no-clusters l n a b c d e = rw (ne_eqb n 1 a, ne_eqb n 2 b, ne_eqb n 4 c, ne_eqb n 11 e, ne_eqb n 10 d) refl

abbrev EndsInside : Layout → ℕ → Type 0
EndsInside l n = 1 ≤ clusters_of l n → first_block l n + l.cluster * clusters_of l n ≤ l.blocks

inside-1 : (l : Layout) → Places l → EndsInside l 1
unfolding clusters_of first_cluster
inside-1 l p some = omega (arith, p.bitmap, p.main, p.lost, p.quota)

inside-2 : (l : Layout) → Places l → EndsInside l 2
unfolding clusters_of first_cluster
inside-2 l p some = omega (arith, p.bitmap, p.main, p.lost, p.quota)

inside-4 : (l : Layout) → Places l → EndsInside l 4
unfolding clusters_of first_cluster
inside-4 l p some = omega (arith, p.bitmap, p.main, p.lost, p.quota)

inside-10 : (l : Layout) → Places l → EndsInside l 10
unfolding clusters_of first_cluster
inside-10 l p some = omega (arith, p.bitmap, p.main, p.lost, p.quota)

inside-11 : (l : Layout) → Places l → EndsInside l 11
unfolding clusters_of first_cluster
inside-11 l p some = omega (arith, p.bitmap, p.main, p.lost, p.quota)

-- the run of each file ends inside the blocks
pub ends-inside : (l : Layout) (n : ℕ) → Places l → EndsInside l n
ends-inside l n p = elim (cases_eq n 1) [
  | inl e ↦ (let P : ℕ → Type 0 = λ k. EndsInside l k in subst P (sym e) (inside-1 l p))
  | inr one ↦ elim (cases_eq n 2) [
    | inl e ↦ (let P : ℕ → Type 0 = λ k. EndsInside l k in subst P (sym e) (inside-2 l p))
    | inr two ↦ elim (cases_eq n 4) [
      | inl e ↦ (let P : ℕ → Type 0 = λ k. EndsInside l k in subst P (sym e) (inside-4 l p))
      | inr four ↦ elim (cases_eq n 10) [
        | inl e ↦ (let P : ℕ → Type 0 = λ k. EndsInside l k in subst P (sym e) (inside-10 l p))
        | inr ten ↦ elim (cases_eq n 11) [
          | inl e ↦ (let P : ℕ → Type 0 = λ k. EndsInside l k in subst P (sym e) (inside-11 l p))
          | inr eleven ↦ λ some. absurd (omega (arith, no-clusters l n one two four ten eleven, some))
        ]
      ]
    ]
  ]
]

pub few-blocks : (l : Layout) (n : ℕ) → IsLayout l → reserved_clusters l ≤ total l → l.cluster * clusters_of l n ≤ 65536
few-blocks l n h room = elim (cases_eq (clusters_of l n) 0) [
  | inl none ↦ rw none (omega arith)
  | inr some ↦ (let inside = ends-inside l n (places l h room) (omega arith) in omega (arith, inside, h.blocks_high))
]

-- ---- one pointer

short-to : (a b : Bool) (x y z : List ℕ) → length x ≤ 8 → length y ≤ 8 → length z ≤ 8 → length (if a then x else if b then y else z) ≤ 8
short-to true b x y z hx hy hz = hx
short-to false true x y z hx hy hz = hy
short-to false false x y z hx hy hz = hz

pub pointer-short : (r : Run) → length (pointer_bytes r) ≤ 8
unfolding pointer_bytes
pointer-short r =
    let n : ℕ = r.count - 1 in
    let x : List ℕ = first_word 1 (r.lbn / 2 ^ 16 * 2 ^ 8 + n) ++ word (r.lbn % 2 ^ 16) in
    let y : List ℕ = first_word 2 n ++ long r.lbn in
    let z : List ℕ = first_word 3 (n / 2 ^ 16) ++ word (n % 2 ^ 16) ++ long r.lbn in
    short-to (nat_lt r.lbn (2 ^ 22) && nat_lt n (2 ^ 8)) (nat_lt n (2 ^ 14)) x y z (omega arith) (omega arith) (omega arith)

pub record RunsFit (l : Layout) (n : ℕ) (rs : List Run) : Type 0 where
  pub are : AreRuns rs
  pub short : length (map_words rs) ≤ 8
  pub count : blocks_in rs ≡ blocks_of l n
  pub same : merged rs ≡ rs

fit-none : (l : Layout) (n : ℕ) → clusters_of l n ≡ 0 → RunsFit l n []
fit-none l n e = record { are = search rules; short = omega arith; count = rw e (omega arith); same = refl }

pub fit-one : (l : Layout) (n : ℕ) → IsLayout l → reserved_clusters l ≤ total l → 1 ≤ clusters_of l n
    → RunsFit l n (record { lbn = first_block l n; count = l.cluster * clusters_of l n } ∷ [])
fit-one l n h room some =
    let r : Run = record { lbn = first_block l n; count = l.cluster * clusters_of l n } in
    let inside = ends-inside l n (places l h room) some in
    let least : l.cluster * 1 ≤ l.cluster * clusters_of l n = mul-le-mul_left l.cluster some in
    let is_run : IsRun r = (omega (arith, least, h.cluster_low), omega (arith, inside, h.blocks_high)) in
    record { are = search rules; short = rw (append-nil (pointer_bytes r)) (pointer-short r); count = omega arith; same = refl }

pub runs-fit : (l : Layout) (n : ℕ) → IsLayout l → reserved_clusters l ≤ total l → RunsFit l n (runs_of l n)
unfolding runs_of
runs-fit l n h room = elim (cases_eq (clusters_of l n) 0) [
  | inl none ↦ rw (eq-eqb (clusters_of l n) 0 none) (fit-none l n none)
  | inr some ↦ rw (ne_eqb (clusters_of l n) 0 some) (fit-one l n h room (omega arith))
]

pub runs-some : (l : Layout) (n : ℕ) → 1 ≤ clusters_of l n → runs_of l n ≡ record { lbn = first_block l n; count = l.cluster * clusters_of l n } ∷ []
unfolding runs_of
runs-some l n some = rw (ne_eqb (clusters_of l n) 0 (λ e. omega arith)) refl

-- the run of a file with clusters is written
pub run-written : (l : Layout) (n : ℕ) (b new : Block) (fits : Bool) (r : Run) → IsLayout l → reserved_clusters l ≤ total l → 1 ≤ clusters_of l n
    → r ≡ record { lbn = first_block l n; count = l.cluster * clusters_of l n } → map_area b ≡ 155
    → fits ≡ nat_le (length (map_words (r ∷ []))) (2 * map_area b) → (IsTrue fits → new ≡ with_runs b (r ∷ [])) → new ≡ with_runs b (runs_of l n)
run-written l n b new fits r h room some e area test written =
    let P : Run → Type 0 = λ s. RunsFit l n (s ∷ []) in
    let fit : RunsFit l n (r ∷ []) = subst P (sym e) (fit-one l n h room some) in
    let yes : fits ≡ true = test ∙ le-leb _ _ (omega (arith, fit.short, area)) in
    written yes ∙ ap (with_runs b) (ap (λ (s : Run). s ∷ []) e ∙ sym (runs-some l n some))

-- the header with as many blocks as it says, and its end, which is after them
with-blocks : (l : Layout) (n blocks : ℕ) → blocks ≡ blocks_of l n → record (header_of l n) { blocks = blocks } ≡ header_of l n
unfolding header_of
with-blocks l n blocks e = rw e refl

ends-within : (l : Layout) (n : ℕ) → EndsWithin (header_of l n)
unfolding header_of
ends-within l n first = (omega arith, omega arith)

pub header-reads : (l : Layout) (n : ℕ) (bare b : Block) → IsLayout l → reserved_clusters l ≤ total l → map_area bare ≡ 155
    → ReadsBack bare (header_of l n) → b ≡ with_runs bare (runs_of l n)
    → (header_read b ≡ Ok (Used (header_of l n))) × (runs_in b ≡ runs_of l n)
header-reads l n bare b h room area reads e =
    let fit : RunsFit l n (runs_of l n) = runs-fit l n h room in
    let same : record (header_of l n) { blocks = blocks_in (runs_of l n) } ≡ header_of l n = with-blocks l n (blocks_in (runs_of l n)) fit.count in
    let back = reads.runs (runs_of l n) (fit.are, omega (arith, fit.short, area)) (subst EndsWithin (sym same) (ends-within l n)) in
    (ap header_read e ∙ back.0 ∙ ap (λ h. Ok (Used h)) same, ap runs_in e ∙ back.1 ∙ fit.same)
