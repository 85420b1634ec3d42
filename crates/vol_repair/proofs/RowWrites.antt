-- The quota file has one run of one cluster, so its blocks stand one behind another; what a write of one of them leaves.
use Rattle.std.proofs.Common.{◌≡◌, ◌∙◌, ◌+◌, ◌*◌, ◌/◌, ◌%◌, ◌≤◌, ◌<◌, ℕ, zero, suc, true, false, List, [], ◌∷◌, Option, Some, length, map, cond, refl, sym, ap, subst, inl, inr, arith, append-nil, eq-eqb, ne_eqb, slice_get, slice_set, length-set, get_or-set_other}
use Rattle.std.specs.Prelude.{◌==◌, ◌&&◌, ◌||◌, not, nat_le, slice_index_or, if◌then◌else◌}
use Rattle.std.specs.List.{range_with_len}
use Rattle.std.proofs.Math.Nat.{mul-div-le}
use Rattle.std.proofs.lemmas.Bool.{and_parts, eqb-true, leb-true}
use Rattle.std.proofs.lemmas.List.{get_or-set_same}
use Rattle.std.proofs.lemmas.List.FromFn.{length-range_with_len}
use Rattle.std.proofs.lemmas.List.{length-map}
use Rattle.std.proofs.lemmas.Option.{get_or_from_slice_get}
use Rattle.base_words.specs.Fields.{Block, IsWholeBlock}
use Rattle.base_words.specs.Lists.{Has}
use Rattle.base_words.proofs.Listing.{same_or_not}
use Rattle.fx_home.specs.declared.home.Home.{Home}
use Rattle.fx_home.specs.Homes.{IsWithinLimits}
use Rattle.fx_header.specs.declared.run.Run.{Run}
use Rattle.fx_header.specs.Pointers.{lbns_in}
use Rattle.fx_quota.specs.declared.types.Row.{Row}
use Rattle.fx_quota.specs.Rows.{row_at, IsRowPut}
use Rattle.vol_parts.specs.Volumes.{Volume, volume, IsNumber, factor, total, block_at, fields, Told, told, runs, body, first_lbn, quota_lbn}
use Rattle.vol_parts.specs.Fatal.{is_system_header, has_one_header, stated_clusters, are_stated, is_system_file}
use Rattle.vol_spell.specs.Rows.{block_with, row_seen}
use Rattle.vol_spell.proofs.Runs.{in_one_run}
use Rattle.vol_sound.specs.Freeing.{HasSystem}
use Rattle.vol_sound.proofs.Freed.{system_stays}
use Rattle.vol_repair.specs.Touched.{IsRowPlace, IsTouchable, IsMadeIn, IsTouched, IsGround}
use Rattle.vol_repair.specs.Laws.{TouchingIsEasy}
use Rattle.vol_repair.specs.Rows.{numbered_row, IsRowSet}

-- ---- blocks that stand one behind another

-- so many blocks from a first one on
abbrev pub view : List Block → ℕ → ℕ → List Block
view bs q c = map (λ l. slice_index_or bs l []) (range_with_len q c)

view_length : (bs : List Block) (q c : ℕ) → length (view bs q c) ≡ c
view_length bs q c = length-map (range_with_len q c) (λ l. slice_index_or bs l []) ∙ length-range_with_len q c

view_at : (bs : List Block) (q c k : ℕ) → k < c → slice_index_or (view bs q c) k [] ≡ slice_index_or bs (q + k) []
view_at bs q zero k lt = absurd (omega arith)
view_at bs q (suc c) zero lt = let e : q ≡ q + 0 = omega arith in ap (λ l. slice_index_or bs l []) e
view_at bs q (suc c) (suc k) lt =
    let e : q + 1 + k ≡ q + suc k = omega arith in
    view_at bs (q + 1) c k (omega arith) ∙ ap (λ l. slice_index_or bs l []) e

-- a block in front of them is no matter
view_behind : (bs : List Block) (q c l : ℕ) (b : Block) → l < q → view (slice_set bs l b) q c ≡ view bs q c
view_behind bs q zero l b lt = refl
view_behind bs q (suc c) l b lt =
    ap (λ x. x ∷ view (slice_set bs l b) (q + 1) c) (get_or-set_other bs l q b [] (λ e. omega (arith, e, lt)))
    ∙ ap (λ xs. slice_index_or bs q [] ∷ xs) (view_behind bs (q + 1) c l b (omega arith))

view_set : (bs : List Block) (q c k : ℕ) (b : Block) → k < c → q + c ≤ length bs → view (slice_set bs (q + k) b) q c ≡ slice_set (view bs q c) k b
view_set bs q zero k b lt few = absurd (omega arith)
view_set bs q (suc c) zero b lt few =
    let e : q + 0 ≡ q = omega arith in
    ap (λ l. view (slice_set bs l b) q (suc c)) e
    ∙ ap (λ x. x ∷ view (slice_set bs q b) (q + 1) c) (get_or-set_same bs q b [] (omega arith))
    ∙ ap (λ xs. b ∷ xs) (view_behind bs (q + 1) c q b (omega arith))
view_set bs q (suc c) (suc k) b lt few =
    let e : q + suc k ≡ q + 1 + k = omega arith in
    ap (λ x. x ∷ view (slice_set bs (q + suc k) b) (q + 1) c) (get_or-set_other bs (q + suc k) q b [] (λ h. omega (arith, h)))
    ∙ ap (λ l. slice_index_or bs q [] ∷ view (slice_set bs l b) (q + 1) c) e
    ∙ ap (λ xs. slice_index_or bs q [] ∷ xs) (view_set bs (q + 1) c k b (omega arith) (omega arith))

-- ---- a row of one of them

-- one row of a block is another: so it is among the rows of all blocks
seen_set : (qs : List Block) (j i : ℕ) (b : Block) (row : Option Row) → j / 16 < length qs → IsRowPut (block_with qs j) b (j % 16) row
    → row_seen (slice_set qs (j / 16) b) i ≡ (if i == j then row else row_seen qs i)
seen_set qs j i b row inside put = elim (same_or_not (i / 16) (j / 16)) [
  | inl e ↦
      let test : (i % 16 == j % 16) ≡ (i == j) = same_row e in
      ap (λ k. row_at (slice_index_or (slice_set qs (j / 16) b) k []) (i % 16)) e
      ∙ ap (λ x. row_at x (i % 16)) (get_or-set_same qs (j / 16) b [] inside)
      ∙ put (i % 16) (omega arith)
      ∙ ap (λ t. cond t row (row_at (block_with qs j) (i % 16))) test
      ∙ ap (λ k. cond (i == j) row (row_at (slice_index_or qs k []) (i % 16))) (sym e)
  | inr away ↦
      ap (λ x. row_at x (i % 16)) (get_or-set_other qs (j / 16) (i / 16) b [] away)
      ∙ ap (λ t. cond t row (row_seen qs i)) (sym (ne_eqb i j (λ e. away (ap (λ k. k / 16) e))))
] where
  same_row : i / 16 ≡ j / 16 → (i % 16 == j % 16) ≡ (i == j)
  same_row e = elim (same_or_not i j) [
    | inl same ↦ eq-eqb (i % 16) (j % 16) (ap (λ k. k % 16) same) ∙ sym (eq-eqb i j same)
    | inr other ↦ ne_eqb (i % 16) (j % 16) (λ f. other (omega (arith, e, f))) ∙ sym (ne_eqb i j other)
  ]

-- ---- the run of the quota file

-- one run of one cluster, inside the whole clusters
pub record IsQuotaRun (v : Volume) (r : Run) : Type 0 where
  pub one : runs v 10 ≡ r ∷ []
  pub count : r.count ≡ factor v
  pub inside : r.lbn + r.count ≤ length v.blocks

stated_run : (v : Volume) (rs : List Run) → are_stated v 10 (Some 1) rs ≡ true → (r : Run) × (rs ≡ r ∷ []) × (r.count ≡ factor v) × (r.lbn + r.count ≤ length v.blocks)
stated_run v [] e = absurd (let f : false ≡ true = e in cc)
stated_run v (r ∷ []) e =
    let a = and_parts (r.count == factor v * 1) (nat_le (r.lbn + r.count) (factor v * total v) && (not (10 == 1) || (r.lbn == 0))) e in
    let b = and_parts (nat_le (r.lbn + r.count) (factor v * total v)) (not (10 == 1) || (r.lbn == 0)) a.1 in
    let count : r.count ≡ factor v * 1 = eqb-true _ _ a.0 in
    let low : r.lbn + r.count ≤ factor v * total v = leb-true _ _ b.0 in
    let all : factor v * total v ≤ length v.blocks = mul-div-le (length v.blocks) (factor v) in
    (r, refl, omega arith, omega arith)
stated_run v (r ∷ q ∷ rs) e = absurd (let f : false ≡ true = e in cc)

pub quota_run : (v : Volume) → HasSystem v → (r : Run) × IsQuotaRun v r
unfolding is_system_file stated_clusters
quota_run v system =
    let p = and_parts (is_system_header 10 (fields v 10)) (has_one_header (fields v 10) (told v 10) && are_stated v 10 (stated_clusters v 10) (runs v 10)) (system.files.sound 10 (omega arith) (omega arith)) in
    let q = and_parts (has_one_header (fields v 10) (told v 10)) (are_stated v 10 (stated_clusters v 10) (runs v 10)) p.1 in
    let s = stated_run v (runs v 10) q.1 in
    (s.0, record { one = s.1; count = s.2; inside = s.3 })

module _ (home : Home) (first : List Block) (within : IsWithinLimits home) where
  abbrev v : Volume
  v = volume home first

  pub quota_number : (bs : List Block) → IsNumber (volume home bs) 10
  quota_number bs = let few = within.files_low in record { from = omega arith; to = (let h : 10 ≤ home.files = omega arith in h) }

  -- the blocks of the quota file, once slots are freed and some of them written
  module _ (now : List Block) (ground : IsGround home first now) where
    abbrev pub run : Run
    run = (quota_run v ground.system).0

    abbrev is : IsQuotaRun v run
    is = (quota_run v ground.system).1

    pub run_now : runs (volume home now) 10 ≡ run ∷ []
    unfolding runs
    run_now = ap (λ (t : Told). t.runs) (system_stays home first now within ground.system ground.touched.freed 10 (omega arith) (omega arith)).told ∙ is.one

    pub count_now : length now ≡ length first
    count_now = ground.touched.freed.count

    -- where it begins
    pub begins : quota_lbn (volume home now) ≡ run.lbn
    begins = ap first_lbn run_now

    pub body_now : body (volume home now) 10 ≡ view now run.lbn home.cluster
    unfolding body
    body_now =
        ap (λ rs. map (block_at (volume home now)) (lbns_in rs)) run_now
        ∙ ap (λ ls. map (block_at (volume home now)) ls) (append-nil (range_with_len run.lbn run.count))
        ∙ ap (λ k. view now run.lbn k) is.count

    pub body_length : length (body (volume home now) 10) ≡ home.cluster
    body_length = ap length body_now ∙ view_length now run.lbn home.cluster

    -- the block of a row stands in the volume
    pub row_inside : (j l : ℕ) → j < 16 * home.cluster → l ≡ quota_lbn (volume home now) → l + j / 16 < length now
    row_inside j l lt e =
        let a = is.inside in
        let b = is.count in
        let c = count_now in
        let d : l ≡ run.lbn = e ∙ begins in
        omega arith

    module _ (j l : ℕ) (old : Block) (lt : j < 16 * home.cluster) (place : l ≡ quota_lbn (volume home now) + j / 16) (at : slice_get now l ≡ Some old) where
      place_is : l ≡ run.lbn + j / 16
      place_is = place ∙ ap (λ q. q + j / 16) begins

      block_is : block_with (body (volume home now) 10) j ≡ old
      block_is =
          ap (λ qs. block_with qs j) body_now ∙ view_at now run.lbn home.cluster (j / 16) (omega arith) ∙ ap (λ k. slice_index_or now k []) (sym place_is)
          ∙ get_or_from_slice_get now l old [] at

      -- the row that is read of its block
      pub row_there : row_at old (j % 16) ≡ numbered_row home now j
      row_there = ap (λ x. row_at x (j % 16)) (sym block_is)

      -- ---- a write

      module _ (easy : TouchingIsEasy) (b : Block) (row : Option Row) (whole : IsWholeBlock b) (put : IsRowPut old b (j % 16) row) where
        abbrev new : List Block
        new = slice_set now l b

        is_place : IsRowPlace v l
        is_place =
            let c = is.count in
            let e = place_is in
            subst (λ (rs : List Run). Has (lbns_in rs) l) (sym is.one) (in_one_run run l (omega arith) (omega arith))

        touchable : IsTouchable v l
        touchable = inr (inl is_place)

        pub row_touched : IsTouched home first new
        row_touched = easy.touch home first now l b within ground.system ground.touched touchable

        ground_new : IsGround home first new
        ground_new = easy.ground home first now l b within ground touchable whole

        body_view : body (volume home new) 10 ≡ view new run.lbn home.cluster
        unfolding body runs
        body_view =
            ap (λ (t : Told). map (block_at (volume home new)) (lbns_in t.runs)) (system_stays home first new within ground_new.system ground_new.touched.freed 10 (omega arith) (omega arith)).told
            ∙ ap (λ rs. map (block_at (volume home new)) (lbns_in rs)) is.one
            ∙ ap (λ ls. map (block_at (volume home new)) ls) (append-nil (range_with_len run.lbn run.count))
            ∙ ap (λ k. view new run.lbn k) is.count

        body_new : body (volume home new) 10 ≡ slice_set (body (volume home now) 10) (j / 16) b
        body_new =
            let a = is.inside in
            let c = is.count in
            let n = count_now in
            body_view ∙ ap (λ k. view (slice_set now k b) run.lbn home.cluster) place_is ∙ view_set now run.lbn home.cluster (j / 16) b (omega arith) (omega arith)
            ∙ ap (λ qs. slice_set qs (j / 16) b) (sym body_now)

        pub row_set : IsRowSet home first now new j row
        row_set = record {
          ground = ground_new;
          count = ap length body_new ∙ length-set (body (volume home now) 10) (j / 16) b;
          rows = λ i.
              let long = body_length in
              ap (λ qs. row_seen qs i) body_new
              ∙ seen_set (body (volume home now) 10) j i b row (omega arith) (subst (λ (x : Block). IsRowPut x b (j % 16) row) (sym block_is) put);
          others = record {
            count = length-set now l b;
            others = λ k away. get_or-set_other now l k b [] (λ e. away (subst (λ (n : ℕ). IsRowPlace v n) (sym e) is_place));
          };
        }

-- ---- writes, one after another

pub made_none : (R : ℕ → Type 0) (a : List Block) → IsMadeIn R a a
made_none R a = record { count = refl; others = λ l away. refl }

pub made_on : (R : ℕ → Type 0) (a b c : List Block) → IsMadeIn R a b → IsMadeIn R b c → IsMadeIn R a c
made_on R a b c m n = record { count = n.count ∙ m.count; others = λ l away. n.others l away ∙ m.others l away }

-- nothing is written, and the row is this one
pub row_stays : (home : Home) (first now : List Block) (j : ℕ) (row : Option Row) → IsGround home first now → numbered_row home now j ≡ row → IsRowSet home first now now j row
row_stays home first now j row ground is = record {
  ground = ground;
  count = refl;
  rows = λ i. elim (same_or_not i j) [
    | inl e ↦ ap (numbered_row home now) e ∙ is ∙ ap (λ t. cond t row (numbered_row home now i)) (sym (eq-eqb i j e))
    | inr ne ↦ ap (λ t. cond t row (numbered_row home now i)) (sym (ne_eqb i j ne))
  ];
  others = made_none (IsRowPlace (volume home first)) now;
}
