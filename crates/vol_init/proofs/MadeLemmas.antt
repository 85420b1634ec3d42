-- From the writes to the volume that they make, and what an image has when one of them fails.
use Rattle.std.proofs.Common.{◌≡◌, ◌≢◌, ◌⊎◌, ◌∙◌, ◌<◌, ℕ, List, [], length, get_or, Option, Some, None, Ok, Err, refl, sym, ap, subst, inl, inr, arith, get_or-set_same, get_or-set_other}
use Rattle.std.specs.Prelude.{slice_set, Result, IsErr, OnErr}
use Rattle.std.proofs.Math.ListN.{set, length-set}
use Rattle.std.proofs.lemmas.Bool.{cases_lt}
use Rattle.std.proofs.lemmas.Option.{get_or_from_slice_get, slice_get-get_or}
use Rattle.base_words.specs.Fields.{Block}
use Rattle.base_words.specs.Tables.{zeros}
use Rattle.blk_drive.specs.Images.{told_set}
use Rattle.fx_home.specs.declared.home.Home.{Home}
use Rattle.fx_home.specs.Homes.{home_read, home_bytes}
use Rattle.vol_parts.specs.Findings.{home_at, Accepts, CatOf}
use Rattle.vol_parts.specs.Volumes.{volume}
use Rattle.vol_init.specs.declared.layout.Layout.{Layout}
use Rattle.vol_init.specs.Layouts.{fresh as fresh_of}
use Rattle.vol_init.specs.Fresh.{layout_of}
use Rattle.vol_init.proofs.Accepted.{accepts_fresh, tells_fresh}
use Rattle.vol_init.specs.Refusals.{layout_for, home_of}
use Rattle.vol_init.specs.declared.part.Part.{Part}
use Rattle.vol_init.specs.declared.plan.Plan.{Plan}
use Rattle.vol_init.specs.Parts.{part_of, Says}
use Rattle.base_words.specs.Fields.{block_at as block_in}
use Rattle.vol_init.specs.Plans.{IsPlan, SaysAt, IsAt, ArePut, told_at}
use Rattle.vol_init.specs.Made.{IsMade, IsLeft}
use Rattle.vol_init.proofs.ZeroLemmas.{zeros-home}
use Rattle.vol_init.proofs.FreshLemmas.{Stands, fresh, clear, exact}

same-layout : (l : Layout) (cluster files blocks : ℕ) → cluster ≡ l.cluster → files ≡ l.files → blocks ≡ l.blocks
    → ◌≡◌ {A = Layout} (record { cluster = cluster; files = files; blocks = blocks }) l
same-layout l cluster files blocks c f b = rw (c, f, b) refl

says-some : (p : Plan) (lbn : ℕ) (part : Part) (old new : Block) → part_of p.layout lbn ≡ Some part → IsAt p lbn old new → Says p.layout p.home p.main.items p.lost.items part new
says-some p lbn part old new e h =
    let P : Option Part → Type 0 = λ o. SaysAt p o old new in
    subst P e h

says-none : (p : Plan) (lbn : ℕ) (old new : Block) → part_of p.layout lbn ≡ None → IsAt p lbn old new → new ≡ old
says-none p lbn old new e h =
    let P : Option Part → Type 0 = λ o. SaysAt p o old new in
    subst P e h

-- what the parts that are written leave of a block that is none of them
stays : (p : Plan) (old cleared put : List Block) (lbn : ℕ) → cleared ≡ slice_set old 1 zeros → ArePut p (length cleared) cleared put
    → ((k : ℕ) → k < 2 → block_in put k ≡ block_in cleared k) → lbn ≢ 1 → part_of p.layout lbn ≡ None → block_in put lbn ≡ block_in old lbn
stays p old cleared put lbn c w low ne e =
    let same : block_in cleared lbn ≡ block_in old lbn = ap (λ bs. block_in bs lbn) c ∙ get_or-set_other old 1 lbn zeros [] ne in
    elim (cases_lt lbn 2) [
      | inl small ↦ low lbn small ∙ same
      | inr large ↦ elim (cases_lt lbn (length cleared)) [
        | inl inside ↦ says-none p lbn _ _ e (w.there lbn (omega arith) inside) ∙ same
        | inr outside ↦ w.rest lbn outside ∙ same
      ]
    ]

pub made : (p : Plan) (old cleared put : List Block) (b : Block) → IsPlan p → p.layout.blocks ≡ length old → 1 < length old
    → cleared ≡ slice_set old 1 zeros → ArePut p (length cleared) cleared put → ((k : ℕ) → k < 2 → block_in put k ≡ block_in cleared k)
    → length put ≡ length cleared → b ≡ home_bytes p.home → home_read b ≡ Ok p.home → IsMade p.home old (slice_set put 1 b)
made p old cleared put b plan size some c w low count bytes reads =
    let new : List Block = slice_set put 1 b in
    let cleared_size : length cleared ≡ length old = ap length c ∙ length-set old 1 zeros in
    let new_size : length new ≡ length put = length-set put 1 b in
    let inside : 1 < length put = omega arith in
    let home : home_at new ≡ b = get_or-set_same put 1 b [] inside in
    let layout : layout_of (volume p.home new) ≡ p.layout = same-layout p.layout p.home.cluster p.home.files (length new) plan.cluster plan.files (omega arith) in
    let stands : Stands p.layout p.main.items p.lost.items (volume p.home new) = record {
      limits = plan.limits;
      room = plan.room;
      main_count = plan.main_count;
      main = plan.main;
      listed = plan.listed;
      main_packed = plan.main_packed;
      lost_count = plan.lost_count;
      lost = plan.lost;
      lost_packed = plan.lost_packed;
      says = λ lbn part e behind below.
          (let ne : lbn ≢ 1 = omega arith in
          let same : block_in new lbn ≡ block_in put lbn = get_or-set_other put 1 lbn b [] ne in
          let P : Block → Type 0 = λ x. Says p.layout p.home p.main.items p.lost.items part x in
          subst P (sym same) (says-some p lbn part _ _ e (w.there lbn behind (omega arith))));
    } in
    let all = exact (volume p.home new) p.layout p.main.items p.lost.items layout stands in
    record {
      count = omega arith;
      home = ap home_read home ∙ reads;
      bytes = home ∙ bytes;
      home_copy = all.home_copy;
      header_copy = all.header_copy;
      headers = all.headers;
      slots = all.slots;
      control = all.control;
      main = all.main;
      lost = all.lost;
      quota = all.quota;
      fresh = fresh (volume p.home new) p.layout p.main.items p.lost.items layout stands;
      clear = clear (volume p.home new) p.layout p.main.items p.lost.items layout stands;
      others = λ lbn ne e.
          (let none : part_of p.layout lbn ≡ None = ap (λ k. part_of k lbn) (sym layout) ∙ e in
          get_or-set_other put 1 lbn b [] ne ∙ stays p old cleared put lbn c w low ne none);
    }

-- ---- what is read of a volume that is made

pub made-accepts : (h : Home) (old new : List Block) → IsMade h old new → Accepts new
made-accepts h old new m = accepts_fresh new h m.home m.fresh

pub made-tells : (cluster files : ℕ) (label : List ℕ) (old new : List Block) → IsMade (home_of cluster files label) old new
    → CatOf new (fresh_of (layout_for cluster files old))
made-tells cluster files label old new m =
    let P : ℕ → Type 0 = λ n. CatOf new (fresh_of (record { cluster = cluster; files = files; blocks = n })) in
    subst P m.count (tells_fresh new (home_of cluster files label) m.home m.fresh)

-- ---- the image after a fault

err-zeros : (b : Block) → b ≡ zeros → IsErr (home_read b)
err-zeros b e = rw (ap home_read e ∙ zeros-home) refl

pub left-cleared : (h : Home) (old : List Block) (told : Option (List Block)) → told_at told 1 ≡ Some zeros → IsLeft h old told
left-cleared h old None e = absurd (cc)
left-cleared h old (Some bs) e = inr (inl (err-zeros (home_at bs) (get_or_from_slice_get bs 1 zeros [] e)))

-- the home block was to be cleared
pub left-first : (h : Home) (old : List Block) (z : Block) (told told' : Option (List Block)) → z ≡ zeros → told ≡ Some old → 1 < length old
    → (told' ≡ told) ⊎ (told' ≡ told_set told 1 z) → IsLeft h old told'
left-first h old z told told' n e some (inl same) = rw (same, e) (inl refl)
left-first h old z told told' n e some (inr set) = rw (set, e) (inr (inl (err-zeros _ (get_or-set_same old 1 z [] some ∙ n))))

-- the home block was to be written
pub left-last : (h : Home) (old put : List Block) (b : Block) (told told' : Option (List Block)) → told ≡ Some put → told_at told 1 ≡ Some zeros
    → IsMade h old (slice_set put 1 b) → (told' ≡ told) ⊎ (told' ≡ told_set told 1 b) → IsLeft h old told'
left-last h old put b told told' e cleared m (inl same) = rw same (left-cleared h old told cleared)
left-last h old put b told told' e cleared m (inr set) = rw (set, e) (inr (inr m))

-- the image after the home block is cleared
pub told-cleared : (old cleared : List Block) (z : Block) (told told' : Option (List Block)) → told ≡ Some old → told' ≡ told_set told 1 z
    → cleared ≡ slice_set old 1 z → told' ≡ Some cleared
told-cleared old cleared z told told' e set c = set ∙ ap (λ t. told_set t 1 z) e ∙ ap (λ bs. Some bs) (sym c)

-- and after the parts are written
pub still-cleared : (old cleared : List Block) (z : Block) (told told' : Option (List Block)) → z ≡ zeros → told ≡ Some cleared
    → cleared ≡ slice_set old 1 z → 1 < length old → told_at told' 1 ≡ told_at told 1 → told_at told' 1 ≡ Some zeros
still-cleared old cleared z told told' n e c some same =
    let long : 1 < length cleared = omega (arith, ap length c, length-set old 1 z) in
    let read : get_or cleared 1 [] ≡ zeros = ap (λ bs. get_or bs 1 []) c ∙ get_or-set_same old 1 z [] some ∙ n in
    same ∙ ap (λ t. told_at t 1) e ∙ slice_get-get_or cleared 1 [] long ∙ ap (λ x. Some x) read

pub always : {T E : Type 0} (r : Result T E) (P : Type 0) → P → OnErr r P
always (Ok x) P p = tt
always (Err y) P p = p
