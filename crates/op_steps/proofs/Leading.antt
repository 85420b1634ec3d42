-- The headers of a file from its first one along the links: what each of them lists, and what all of them tell together.
use Rattle.std.proofs.Common.{◌≡◌, ◌∙◌, ◌+◌, ◌-◌, ◌*◌, ◌<◌, ◌≤◌, ◌++◌, ◌==◌, ℕ, zero, suc, true, List, [], ◌∷◌, Some, take, drop, length, map, flat_map, sym, ap, subst, arith, append-nil, append_assoc, length-append, length-take, length-drop, min}
use Rattle.std.proofs.lemmas.Bool.{le-leb, eq-eqb, and_from}
use Rattle.std.proofs.lemmas.List.{take-append-drop, take_all}
use Rattle.std.proofs.Math.Nat.{mul-le-mul_left}
use Rattle.fx_header.specs.declared.slot.Hdr.{Hdr}
use Rattle.fx_header.specs.Pointers.{blocks_in}
use Rattle.plain_rules.specs.Lookups.{header_most}
use Rattle.vol_parts.specs.declared.geometry.Geometry.{Geometry}
use Rattle.vol_parts.specs.Chains.{Headers, HeaderChain, held, slots_from, cut, are_parts_filled, chain_of, is_well_split}
use Rattle.vol_parts.proofs.Walks.{IsNext, next-from, walk-enough, walk-more}
use Rattle.vol_parts.proofs.Cuts.{cut_behind}
use Rattle.vol_spell.specs.Reading.{clusters_of}
use Rattle.vol_spell.specs.Spelling.{AreWhole}
use Rattle.op_steps.proofs.CutClusters.{clusters_both, whole_size, cut_again, HasFirst, first_clusters}
use Rattle.vol_spell.proofs.RunRows.{whole_both}

-- ---- what a header lists

-- the header in slot n lists these clusters, as many as a header can
pub record IsFull (g : Geometry) (h : Headers) (n : ℕ) (ds : List ℕ) : Type 0 where
  pub whole : AreWhole g (h.lists n)
  pub clusters : clusters_of g.cluster (h.lists n) ≡ ds
  pub full : length ds ≡ header_most

-- the header in slot n lists these clusters, and maybe more behind them
pub record IsLast (g : Geometry) (h : Headers) (n : ℕ) (ds : List ℕ) : Type 0 where
  pub enough : g.cluster * length ds ≤ held h n
  pub whole : AreWhole g (cut (g.cluster * length ds) (h.lists n))
  pub clusters : clusters_of g.cluster (cut (g.cluster * length ds) (h.lists n)) ≡ ds

-- From slot n, whose header says f, the links lead along these slots to slot m, whose header says x. Each header before the last
-- one lists as many clusters as a header can; these are their clusters together.
abbrev pub Lead : Geometry → Headers → ℕ → Hdr → List ℕ → ℕ → Hdr → List ℕ → Type 0
Lead g h n f [] m x cs = (n ≡ m) × (f ≡ x) × (cs ≡ [])
Lead g h n f (i ∷ is) m x cs = IsFull g h n (take header_most cs) × (f.ext ≡ i) × ((y : Hdr) × IsNext h f y × Lead g h i y is m x (drop header_most cs))

-- The headers of a file: the first one in slot n, which says f, the others in these slots, the last of all in slot m, which says x.
-- The headers before the last one list the clusters cs, and the last one ds.
pub record AreHeaders (g : Geometry) (h : Headers) (n : ℕ) (f : Hdr) (is : List ℕ) (m : ℕ) (x : Hdr) (cs ds : List ℕ) : Type 0 where
  pub says : h.says n ≡ Some f
  pub lead : Lead g h n f is m x cs
  pub last : IsLast g h m ds
  pub few : length ds ≤ header_most
  pub some : 1 ≤ length is → 1 ≤ length ds
  pub short : length is ≤ 15
  pub blocks : f.blocks ≡ g.cluster * length (cs ++ ds)

-- The headers of a file are in these slots, the first one's first, and list these clusters, which are the file's.
pub record HasHeaders (g : Geometry) (h : Headers) (n : ℕ) (f : Hdr) (ns qs : List ℕ) : Type 0 where
  pub is : List ℕ
  pub m : ℕ
  pub x : Hdr
  pub cs : List ℕ
  pub ds : List ℕ
  pub slots : ns ≡ n ∷ is
  pub clusters : qs ≡ cs ++ ds
  pub are : AreHeaders g h n f is m x cs ds

-- ---- what they are told to be

-- what is told of a file with these slots and these clusters
pub record IsChainWith (g : Geometry) (f : Hdr) (ns cs : List ℕ) (c : HeaderChain) : Type 0 where
  pub slots : c.slots ≡ ns
  pub whole : AreWhole g c.runs
  pub clusters : clusters_of g.cluster c.runs ≡ cs
  pub size : blocks_in c.runs ≡ f.blocks
  pub split : is_well_split g.cluster c ≡ true

full_holds : (g : Geometry) (h : Headers) (n : ℕ) (ds : List ℕ) → 1 ≤ g.cluster → IsFull g h n ds → held h n ≡ g.cluster * header_most
full_holds g h n ds low is = whole_size g (h.lists n) low is.whole ∙ ap (λ k. g.cluster * k) (ap length is.clusters ∙ is.full)

-- a header that is full may be the last
pub full_last : (g : Geometry) (h : Headers) (n : ℕ) (ds : List ℕ) → 1 ≤ g.cluster → IsFull g h n ds → IsLast g h n ds
full_last g h n ds low is =
    let first : HasFirst g (length ds) (h.lists n) (cut (g.cluster * length ds) (h.lists n)) = first_clusters g low (length ds) (h.lists n) is.whole in
    let all = full_holds g h n ds low is in
    let same : g.cluster * length ds ≡ g.cluster * header_most = ap (λ k. g.cluster * k) is.full in
    record {
      enough = omega arith;
      whole = first.whole;
      clusters = first.clusters ∙ ap (take (length ds)) is.clusters ∙ take_all (length ds) ds (omega arith);
    }

-- a last header has the first of its clusters too
pub last_less : (g : Geometry) (h : Headers) (n k : ℕ) (ds : List ℕ) → 1 ≤ g.cluster → k ≤ length ds → IsLast g h n ds → IsLast g h n (take k ds)
last_less g h n k ds low le is =
    let count : length (take k ds) ≡ k = length-take k ds ∙ (let e : min k (length ds) ≡ k = omega arith in e) in
    let up : g.cluster * k ≤ g.cluster * length ds = mul-le-mul_left g.cluster le in
    let all = is.enough in
    let first : HasFirst g k (cut (g.cluster * length ds) (h.lists n)) (cut (g.cluster * k) (cut (g.cluster * length ds) (h.lists n))) =
    first_clusters g low k (cut (g.cluster * length ds) (h.lists n)) is.whole in
    let once : cut (g.cluster * k) (cut (g.cluster * length ds) (h.lists n)) ≡ cut (g.cluster * k) (h.lists n) = cut_again (g.cluster * k) (g.cluster * length ds) (h.lists n) up in
    let same : cut (g.cluster * length (take k ds)) (h.lists n) ≡ cut (g.cluster * k) (cut (g.cluster * length ds) (h.lists n)) = ap (λ z. cut (g.cluster * z) (h.lists n)) count ∙ sym once in
    record {
      enough = rw count (omega arith);
      whole = subst (AreWhole g) (sym same) first.whole;
      clusters = ap (clusters_of g.cluster) same ∙ first.clusters ∙ ap (take k) is.clusters;
    }

-- the headers before the last one have header_most clusters each
pub lead_count : (g : Geometry) (h : Headers) (n : ℕ) (f : Hdr) (is : List ℕ) (m : ℕ) (x : Hdr) (cs : List ℕ) → Lead g h n f is m x cs → length cs ≡ header_most * length is
lead_count g h n f [] m x cs lead = ap length lead.2
lead_count g h n f (i ∷ is) m x cs lead =
    let front : length (take 77 cs) ≡ 77 = lead.0.full in
    let took = length-take 77 cs in
    let behind = lead_count g h i lead.2.0 is m x (drop 77 cs) lead.2.2 in
    let rest = length-drop 77 cs in
    omega arith

-- of so many blocks the walk ends in the last one
module _ (g : Geometry) (low : 1 ≤ g.cluster) (h : Headers) where
  lead_slots : (k n : ℕ) (f : Hdr) (is : List ℕ) (m : ℕ) (x : Hdr) (cs ds : List ℕ) (left : ℕ) → length is < k → Lead g h n f is m x cs → IsLast g h m ds → (1 ≤ length is → 1 ≤ length ds)
      → left ≡ g.cluster * (length cs + length ds) → slots_from h k n f left ≡ n ∷ is
  lead_slots zero n f is m x cs ds left few lead last some size = absurd (omega arith)
  lead_slots (suc k) n f [] m x cs ds left few lead last some size =
      let none : length cs ≡ 0 = ap length lead.2 in
      let same : left ≡ g.cluster * length ds = size ∙ ap (λ z. g.cluster * z) (let e : length cs + length ds ≡ length ds = omega arith in e) in
      let all = last.enough in
      let here : held h n ≡ held h m = ap (held h) lead.0 in
      walk-enough h k n f left (omega arith)
  lead_slots (suc k) n f (i ∷ is) m x cs ds left few lead last some size =
      let all = full_holds g h n (take 77 cs) low lead.0 in
      let front : length (take 77 cs) ≡ 77 = lead.0.full in
      let took = length-take 77 cs in
      let rest = length-drop 77 cs in
      let any = some (omega arith) in
      let up : g.cluster * 78 ≤ g.cluster * (length cs + length ds) = mul-le-mul_left g.cluster (omega arith) in
      let parted : g.cluster * (length cs + length ds) ≡ g.cluster * 77 + g.cluster * (length (drop 77 cs) + length ds) =
      ap (λ z. g.cluster * z) (let e : length cs + length ds ≡ 77 + (length (drop 77 cs) + length ds) = omega arith in e) ∙ (let e : g.cluster * (77 + (length (drop 77 cs) + length ds)) ≡ g.cluster * 77 + g.cluster * (length (drop 77 cs) + length ds) = omega arith in e) in
      let behind = lead_slots k i lead.2.0 is m x (drop 77 cs) ds (left - held h n) (omega arith) lead.2.2 last (λ one. any) (omega arith) in
      walk-more h k n f left (Some lead.2.0) (omega arith) (next-from h f lead.2.0 lead.2.1)
      ∙ ap (λ j. n ∷ slots_from h k j lead.2.0 (left - held h n)) lead.1
      ∙ ap (λ ns. n ∷ ns) behind

  -- the runs of the file
  lead_runs : (n : ℕ) (f : Hdr) (is : List ℕ) (m : ℕ) (x : Hdr) (cs ds : List ℕ) (left : ℕ) → Lead g h n f is m x cs → IsLast g h m ds → (1 ≤ length is → 1 ≤ length ds)
      → left ≡ g.cluster * (length cs + length ds) → AreWhole g (cut left (flat_map h.lists (n ∷ is))) × (clusters_of g.cluster (cut left (flat_map h.lists (n ∷ is))) ≡ cs ++ ds)
  lead_runs n f [] m x cs ds left lead last some size =
      let none : length cs ≡ 0 = ap length lead.2 in
      let same : left ≡ g.cluster * length ds = size ∙ ap (λ z. g.cluster * z) (let e : length cs + length ds ≡ length ds = omega arith in e) in
      let one : cut left (flat_map h.lists (n ∷ [])) ≡ cut (g.cluster * length ds) (h.lists m) =
      ap (cut left) (append-nil (h.lists n)) ∙ ap (λ j. cut left (h.lists j)) lead.0 ∙ ap (λ z. cut z (h.lists m)) same in
      (subst (AreWhole g) (sym one) last.whole, ap (clusters_of g.cluster) one ∙ last.clusters ∙ ap (λ xs. xs ++ ds) (sym lead.2))
  lead_runs n f (i ∷ is) m x cs ds left lead last some size =
      let all = full_holds g h n (take 77 cs) low lead.0 in
      let front : length (take 77 cs) ≡ 77 = lead.0.full in
      let took = length-take 77 cs in
      let rest = length-drop 77 cs in
      let any = some (omega arith) in
      let up : g.cluster * 78 ≤ g.cluster * (length cs + length ds) = mul-le-mul_left g.cluster (omega arith) in
      let parted : g.cluster * (length cs + length ds) ≡ g.cluster * 77 + g.cluster * (length (drop 77 cs) + length ds) =
      ap (λ z. g.cluster * z) (let e : length cs + length ds ≡ 77 + (length (drop 77 cs) + length ds) = omega arith in e) ∙ (let e : g.cluster * (77 + (length (drop 77 cs) + length ds)) ≡ g.cluster * 77 + g.cluster * (length (drop 77 cs) + length ds) = omega arith in e) in
      let behind = lead_runs i lead.2.0 is m x (drop 77 cs) ds (left - held h n) lead.2.2 last (λ one. any) (omega arith) in
      let cut_is : cut left (flat_map h.lists (n ∷ i ∷ is)) ≡ h.lists n ++ cut (left - held h n) (flat_map h.lists (i ∷ is)) = cut_behind left (h.lists n) (flat_map h.lists (i ∷ is)) (omega arith) in (
        subst (AreWhole g) (sym cut_is) (whole_both g (h.lists n) (cut (left - held h n) (flat_map h.lists (i ∷ is))) lead.0.whole behind.0),
        ap (clusters_of g.cluster) cut_is ∙ clusters_both g.cluster (h.lists n) (cut (left - held h n) (flat_map h.lists (i ∷ is)))
            ∙ ap (λ xs. xs ++ clusters_of g.cluster (cut (left - held h n) (flat_map h.lists (i ∷ is)))) lead.0.clusters
            ∙ ap (λ xs. take 77 cs ++ xs) behind.1 ∙ sym (append_assoc (take 77 cs) (drop 77 cs) ds) ∙ ap (λ xs. xs ++ ds) (take-append-drop 77 cs),
      )

  -- and how they are split
  lead_filled : (n : ℕ) (f : Hdr) (is : List ℕ) (m : ℕ) (x : Hdr) (cs ds : List ℕ) (left : ℕ) → Lead g h n f is m x cs → IsLast g h m ds → length ds ≤ header_most
      → left ≡ g.cluster * (length cs + length ds) → are_parts_filled (header_most * g.cluster) left (map h.lists (n ∷ is)) ≡ true
  lead_filled n f [] m x cs ds left lead last few size =
      let none : length cs ≡ 0 = ap length lead.2 in
      let same : left ≡ g.cluster * length ds = size ∙ ap (λ z. g.cluster * z) (let e : length cs + length ds ≡ length ds = omega arith in e) in
      let up : g.cluster * length ds ≤ g.cluster * 77 = mul-le-mul_left g.cluster few in
      le-leb left (77 * g.cluster) (omega arith)
  lead_filled n f (i ∷ is) m x cs ds left lead last few size =
      let all = full_holds g h n (take 77 cs) low lead.0 in
      let front : length (take 77 cs) ≡ 77 = lead.0.full in
      let took = length-take 77 cs in
      let rest = length-drop 77 cs in
      let parted : g.cluster * (length cs + length ds) ≡ g.cluster * 77 + g.cluster * (length (drop 77 cs) + length ds) =
      ap (λ z. g.cluster * z) (let e : length cs + length ds ≡ 77 + (length (drop 77 cs) + length ds) = omega arith in e) ∙ (let e : g.cluster * (77 + (length (drop 77 cs) + length ds)) ≡ g.cluster * 77 + g.cluster * (length (drop 77 cs) + length ds) = omega arith in e) in
      let behind = lead_filled i lead.2.0 is m x (drop 77 cs) ds (left - held h n) lead.2.2 last few (omega arith) in
      and_from (held h n == 77 * g.cluster) _ (eq-eqb (held h n) (77 * g.cluster) (omega arith)) behind

-- The headers of a file tell its chain.
they_tell : (g : Geometry) (h : Headers) (n : ℕ) (f : Hdr) (is : List ℕ) (m : ℕ) (x : Hdr) (cs ds : List ℕ) → 1 ≤ g.cluster → AreHeaders g h n f is m x cs ds
    → IsChainWith g f (n ∷ is) (cs ++ ds) (chain_of h n f)
unfolding is_well_split
they_tell g h n f is m x cs ds low are =
    let size : f.blocks ≡ g.cluster * (length cs + length ds) = are.blocks ∙ ap (λ k. g.cluster * k) (length-append cs ds) in
    let short = are.short in
    let slots : slots_from h 16 n f f.blocks ≡ n ∷ is = lead_slots g low h 16 n f is m x cs ds f.blocks (omega arith) are.lead are.last are.some size in
    let runs : (chain_of h n f).runs ≡ cut f.blocks (flat_map h.lists (n ∷ is)) = ap (λ ns. cut f.blocks (flat_map h.lists ns)) slots in
    let told = lead_runs g low h n f is m x cs ds f.blocks are.lead are.last are.some size in
    let whole : AreWhole g (chain_of h n f).runs = subst (AreWhole g) (sym runs) told.0 in
    let clusters : clusters_of g.cluster (chain_of h n f).runs ≡ cs ++ ds = ap (clusters_of g.cluster) runs ∙ told.1 in
    let all : blocks_in (chain_of h n f).runs ≡ f.blocks = whole_size g (chain_of h n f).runs low whole ∙ ap (λ xs. g.cluster * length xs) clusters ∙ sym are.blocks in
    record {
      slots = slots;
      whole = whole;
      clusters = clusters;
      size = all;
      split = ap (λ b. are_parts_filled (77 * g.cluster) b (map h.lists (slots_from h 16 n f f.blocks))) all
          ∙ ap (λ ns. are_parts_filled (77 * g.cluster) f.blocks (map h.lists ns)) slots
          ∙ lead_filled g low h n f is m x cs ds f.blocks are.lead are.last are.few size;
    }

pub headers_tell : (g : Geometry) (h : Headers) (n : ℕ) (f : Hdr) (ns qs : List ℕ) → 1 ≤ g.cluster → HasHeaders g h n f ns qs → IsChainWith g f ns qs (chain_of h n f)
headers_tell g h n f ns qs low has =
    subst (λ (ms : List ℕ). IsChainWith g f ms qs (chain_of h n f)) (sym has.slots)
    (subst (λ (rs : List ℕ). IsChainWith g f (n ∷ has.is) rs (chain_of h n f)) (sym has.clusters) (they_tell g h n f has.is has.m has.x has.cs has.ds low has.are))
