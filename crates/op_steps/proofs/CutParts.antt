-- The headers that a file keeps which loses clusters: up to the one with the last cluster that stays.
use Rattle.std.proofs.Common.{◌≡◌, ◌∙◌, ◌+◌, ◌-◌, ◌*◌, ◌/◌, ◌<◌, ◌≤◌, ◌++◌, ◌⊎◌, ℕ, zero, suc, List, [], ◌∷◌, min, take, drop, length, map, refl, sym, ap, subst, inl, inr, arith, length-append, length-take}
use Rattle.std.proofs.lemmas.Bool.{cases_lt}
use Rattle.std.proofs.lemmas.List.{take-append-drop, take_all, drop_at, take-take, take-append-le, drop-take}
use Rattle.fx_header.specs.declared.slot.Hdr.{Hdr}
use Rattle.plain_rules.specs.Lookups.{extra, header_most}
use Rattle.vol_parts.specs.declared.geometry.Geometry.{Geometry}
use Rattle.vol_parts.specs.Chains.{Headers}
use Rattle.op_steps.proofs.GrownChain.{IsShared, extra_is}
use Rattle.op_steps.proofs.LeadMoves.{HasFront, lead_front}
use Rattle.op_steps.proofs.Leading.{IsLast, Lead, AreHeaders, lead_count, full_last, last_less}

-- ---- lists

-- the first items of a longer list
take_behind : (cs ds : List ℕ) (k : ℕ) → length cs ≤ k → take k (cs ++ ds) ≡ cs ++ take (k - length cs) ds
take_behind [] ds k le = let e : k - 0 ≡ k = omega arith in ap (λ z. take z ds) (sym e)
take_behind (c ∷ cs) ds zero le = absurd (omega arith)
take_behind (c ∷ cs) ds (suc k) le = let e : suc k - suc (length cs) ≡ k - length cs = omega arith in ap (λ z. c ∷ z) (take_behind cs ds k (omega arith)) ∙ ap (λ z. c ∷ (cs ++ take z ds)) (sym e)

pub drop-map : {A B : Type 0} (f : A → B) (k : ℕ) (xs : List A) → drop k (map f xs) ≡ map f (drop k xs)
drop-map f zero xs = refl
drop-map f (suc k) [] = refl
drop-map f (suc k) (x ∷ xs) = drop-map f k xs

-- ---- the headers

-- The headers that stay, the first one and those in the slots ks, and what the last of them lists of the clusters that stay.
pub record IsCutHere (g : Geometry) (hs : Headers) (n : ℕ) (h : Hdr) (ks all : List ℕ) (kept : ℕ) : Type 0 where
  pub m : ℕ
  pub x : Hdr
  pub cs : List ℕ
  pub ds : List ℕ
  pub lead : Lead g hs n h ks m x cs
  pub last : IsLast g hs m ds
  pub parts : take kept all ≡ cs ++ ds
  pub tail : drop (header_most * extra kept) (take kept all) ≡ ds
  pub few : length ds ≤ header_most
  pub some : 1 ≤ length ks → 1 ≤ length ds
  pub short : length ks ≤ 15

module _ (g : Geometry) (low : 1 ≤ g.cluster) (hs : Headers) (n : ℕ) (h : Hdr) (is : List ℕ) (m : ℕ) (y : Hdr) (cs ds : List ℕ) (are : AreHeaders g hs n h is m y cs ds) (kept : ℕ) (le : kept ≤ length (cs ++ ds)) where
  abbrev j : ℕ
  j = (kept - 1) / 77

  count : length cs ≡ 77 * length is
  count = lead_count g hs n h is m y cs are.lead

  short : j ≤ length is
  short =
      let joined = length-append cs ds in
      let c = count in
      let shared : IsShared (length is) (length ds) = record { few = are.few; some = are.some } in
      let e : (length (cs ++ ds) - 1) / 77 ≡ length is = extra_is (length is) (length ds) (length (cs ++ ds)) shared (omega arith) in
      omega arith

  -- it is one before the last
  before : j < length is → IsCutHere g hs n h (take j is) (cs ++ ds) kept
  before lt =
      let c = count in
      let front : HasFront g hs n h is cs j = lead_front g hs n h is m y cs j lt are.lead in
      let size : ℕ = kept - 77 * j in
      let all : take kept (cs ++ ds) ≡ take kept cs = take-append-le kept cs ds (omega arith) in
      let sum : kept ≡ 77 * j + size = omega arith in
      let tail : drop (77 * j) (take kept cs) ≡ take size (drop (77 * j) cs) = ap (λ z. drop (77 * j) (take z cs)) sum ∙ drop-take (77 * j) size cs in
      let here : List ℕ = take 77 (drop (77 * j) cs) in
      let full : length here ≡ 77 = front.full.full in
      let less : IsLast g hs front.m (take size here) = last_less g hs front.m size here low (omega arith) (full_last g hs front.m here low front.full) in
      let same : take size here ≡ take size (drop (77 * j) cs) = take-take size 77 (drop (77 * j) cs) (omega arith) in
      let part : List ℕ = drop (77 * j) (take kept cs) in
      let to_part : take size here ≡ part = same ∙ sym tail in
      let first : take (77 * j) cs ≡ take (77 * j) (take kept cs) = sym (take-take (77 * j) kept cs (omega arith)) in
      let long : length part ≡ size = ap length (sym to_part) ∙ length-take size here ∙ (let e : min size (length here) ≡ size = omega arith in e) in
      let fewer = length-take j is in
      record {
        m = front.m;
        x = front.x;
        cs = take (77 * j) cs;
        ds = part;
        lead = front.lead;
        last = subst (λ qs. IsLast g hs front.m qs) to_part less;
        parts = all ∙ sym (take-append-drop (77 * j) (take kept cs)) ∙ ap (λ qs. qs ++ part) (sym first);
        tail = ap (drop (77 * j)) all;
        few = omega arith;
        some = λ any. omega arith;
        short = let a = are.short in omega arith;
      }

  -- it is the last
  at_last : length is ≤ j → IsCutHere g hs n h (take j is) (cs ++ ds) kept
  at_last ge =
      let c = count in
      let least = short in
      let same : j ≡ length is = omega arith in
      let joined = length-append cs ds in
      let here : 77 * j ≡ length cs = omega arith in
      by_many (cases_lt 0 (length is)) same here
    where
      all_slots : j ≡ length is → take j is ≡ is
      all_slots same = take_all j is (omega arith)

      build : length cs ≤ kept → j ≡ length is → 77 * j ≡ length cs → (1 ≤ length is → length cs < kept) → IsCutHere g hs n h (take j is) (cs ++ ds) kept
      build down same here any =
          let joined = length-append cs ds in
          let size : ℕ = kept - length cs in
          let parts : take kept (cs ++ ds) ≡ cs ++ take size ds = take_behind cs ds kept down in
          let took = length-take size ds in
          let few = are.few in
          let least = short in
          record {
            m = m;
            x = y;
            cs = cs;
            ds = take size ds;
            lead = subst (λ ns. Lead g hs n h ns m y cs) (sym (all_slots same)) are.lead;
            last = last_less g hs m size ds low (omega arith) are.last;
            parts = parts;
            tail = ap (drop (77 * j)) parts ∙ ap (λ z. drop z (cs ++ take size ds)) here ∙ drop_at cs (take size ds) (length cs) refl;
            few = omega arith;
            some = λ one. let more = any (subst (λ ns. 1 ≤ length ns) (all_slots same) one) in omega arith;
            short = let a = are.short in let b = length-take j is in omega arith;
          }

      by_many : (0 < length is) ⊎ (length is ≤ 0) → j ≡ length is → 77 * j ≡ length cs → IsCutHere g hs n h (take j is) (cs ++ ds) kept
      by_many (inl some) same here = build (omega arith) same here (λ one. omega arith)
      by_many (inr none) same here = build (let c = count in omega arith) same here (λ one. absurd (omega arith))

  pub cut_here : IsCutHere g hs n h (take j is) (cs ++ ds) kept
  cut_here = elim (cases_lt j (length is)) [ inl lt ↦ before lt | inr ge ↦ at_last ge ]
