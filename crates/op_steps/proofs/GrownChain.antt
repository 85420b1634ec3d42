-- The headers of a file that gets clusters: how many go into its last header, and what all of them list then.
use Rattle.std.proofs.Common.{◌≡◌, ◌∙◌, ◌+◌, ◌-◌, ◌*◌, ◌/◌, ◌<◌, ◌≤◌, ◌++◌, nat_lt, ℕ, true, false, List, [], ◌∷◌, Option, Some, None, take, drop, length, refl, sym, ap, subst, inl, inr, arith, append_assoc, length-append, length-take, length-drop}
use Rattle.std.specs.Prelude.{IfSome}
use Rattle.std.proofs.lemmas.Bool.{cases_lt, eq-eqb, and_from}
use Rattle.std.proofs.lemmas.Bool.Decides.{nat_tests}
use Rattle.std.proofs.lemmas.List.{take-append-drop, take_all, drop_at}
use Rattle.base_words.specs.Lists.{Has}
use Rattle.base_words.proofs.Listing.{has_parted, has_first, has_second}
use Rattle.fx_header.specs.declared.slot.Hdr.{Hdr}
use Rattle.fx_header.specs.Pointers.{merged}
use Rattle.plain_rules.specs.Lookups.{extra, file_most, needs_header}
use Rattle.vol_parts.specs.declared.geometry.Geometry.{Geometry}
use Rattle.vol_parts.specs.Chains.{Headers, follows}
use Rattle.vol_parts.specs.ChainLaws.{IsSlot}
use Rattle.vol_parts.specs.Parts.{IsGeometry}
use Rattle.vol_parts.proofs.Walks.{IsNext}
use Rattle.vol_spell.specs.Reading.{total_of}
use Rattle.op_law.specs.Headers.{tail_of, room_for, link_to}
use Rattle.op_law.specs.Writing.{runs_for}
use Rattle.op_steps.proofs.HeaderBlocks.{lists_last, lists_full}
use Rattle.op_steps.proofs.LeadMoves.{lead_more}
use Rattle.op_steps.proofs.Leading.{Lead, HasHeaders, lead_count}

-- ---- how many clusters each header has

-- a file whose last header has the last d of its clusters, and the others 77 each
pub record IsShared (e d : ℕ) : Type 0 where
  pub few : d ≤ 77
  pub some : 1 ≤ e → 1 ≤ d

pub extra_is : (e d c : ℕ) → IsShared e d → c ≡ 77 * e + d → extra c ≡ e
extra_is e d c is count =
    let few = is.few in
    elim (cases_lt 0 e) [
      | inl one ↦ let any = is.some one in omega arith
      | inr none ↦ omega arith
    ]

-- its last header has room for more
pub room_is : (e d c : ℕ) → IsShared e d → c ≡ 77 * e + d → room_for c ≡ 77 - d
room_is e d c is count =
    let same : (c - 1) / 77 ≡ e = extra_is e d c is count in
    let few = is.few in
    ap (λ z. 77 * (z + 1) - c) same ∙ (let z : 77 * (e + 1) - c ≡ 77 - d = omega arith in z)

-- it needs a header for k more exactly where they do not fit into its last one
pub needs_none : (e d c k : ℕ) → IsShared e d → c ≡ 77 * e + d → false ≡ needs_header c k → d + k ≤ 77
needs_none e d c k is count needs =
    let same : (c - 1) / 77 ≡ e = extra_is e d c is count in
    let few = is.few in
    let le : (c + k - 1) / 77 ≤ (c - 1) / 77 = not_less ((c - 1) / 77) ((c + k - 1) / 77) (sym needs) in
    omega arith
  where
    not_less : (a b : ℕ) → nat_lt a b ≡ false → b ≤ a
    not_less a b h = grind (arith, nat_tests)

pub needs_some : (e d c k : ℕ) → IsShared e d → c ≡ 77 * e + d → true ≡ needs_header c k → 77 < d + k
needs_some e d c k is count needs =
    let same : (c - 1) / 77 ≡ e = extra_is e d c is count in
    let few = is.few in
    let lt : (c - 1) / 77 < (c + k - 1) / 77 = less ((c - 1) / 77) ((c + k - 1) / 77) (sym needs) in
    omega arith
  where
    less : (a b : ℕ) → nat_lt a b ≡ true → a < b
    less a b h = grind (arith, nat_tests)

-- what its last header lists
pub tail_is : (e c : ℕ) (cs ds : List ℕ) → IsShared e (length ds) → length cs ≡ 77 * e → c ≡ length (cs ++ ds) → tail_of c (cs ++ ds) ≡ ds
tail_is e c cs ds is count all =
    let joined = length-append cs ds in
    let same : 77 * ((c - 1) / 77) ≡ length cs = ap (λ z. 77 * z) (extra_is e (length ds) c is (omega arith)) ∙ sym count in
    ap (λ z. drop z (take c (cs ++ ds))) same ∙ ap (drop (length cs)) (take_all c (cs ++ ds) (omega arith)) ∙ drop_at cs ds (length cs) refl

-- ---- what all headers list then

-- the fields that a link leads to, and those that come there
pub record IsLinked (h : Headers) (y : Hdr) (new : ℕ × ℕ) : Type 0 where
  pub z : Hdr
  pub number : IsSlot h new.0
  pub says : h.says new.0 ≡ Some z
  pub num : z.num ≡ new.0
  pub seq : z.seq ≡ new.1
  pub seg : z.seg ≡ y.seg + 1

-- The first header says all blocks; the last one of those that were there lists its own clusters and those that fit into it, with a
-- link to the new one, if there is one, which lists the rest.
pub record AreGrown (g : Geometry) (h : Headers) (n : ℕ) (f : Hdr) (is : List ℕ) (m : ℕ) (y : Hdr) (cs ds qs : List ℕ) (new : Option (ℕ × ℕ)) : Type 0 where
  pub says : h.says n ≡ Some f
  pub blocks : f.blocks ≡ g.cluster * length ((cs ++ ds) ++ qs)
  pub lead : Lead g h n f is m y cs
  pub lists : h.lists m ≡ merged (runs_for g (ds ++ take (77 - length ds) qs))
  pub link : (y.ext ≡ (link_to new).0) × (y.ext_seq ≡ (link_to new).1)
  pub more : IfSome new (IsLinked h y)
  pub rest : IfSome new (λ p. h.lists p.0 ≡ merged (runs_for g (drop (77 - length ds) qs)))

follows_by : (a b : Hdr) → b.num ≡ a.ext → b.seq ≡ a.ext_seq → b.seg ≡ a.seg + 1 → follows a b ≡ true
unfolding follows
follows_by a b num seq seg = and_from _ _ (eq-eqb _ _ num) (and_from _ _ (eq-eqb _ _ seq) (eq-eqb _ _ seg))

module _ (g : Geometry) (geometry : IsGeometry g) (h : Headers) (n : ℕ) (f : Hdr) (is : List ℕ) (m : ℕ) (y : Hdr) (cs ds qs : List ℕ) (shared : IsShared (length is) (length ds)) (within : (q : ℕ) → Has (ds ++ qs) q → q < total_of g)
    (file : length (cs ++ ds) + length qs ≤ file_most) where
  pub grown_in_last : length ds + length qs ≤ 77 → AreGrown g h n f is m y cs ds qs None → HasHeaders g h n f (n ∷ is) ((cs ++ ds) ++ qs)
  grown_in_last fit are =
      let joined = length-append ds qs in
      let both = length-append cs ds in
      let count : length cs ≡ 77 * length is = lead_count g h n f is m y cs are.lead in
      let all : take (77 - length ds) qs ≡ qs = take_all (77 - length ds) qs (omega arith) in
      let lists : h.lists m ≡ merged (runs_for g (ds ++ qs)) = are.lists ∙ ap (λ xs. merged (runs_for g (ds ++ xs))) all in
      let some = shared.some in
      let assoc : (cs ++ ds) ++ qs ≡ cs ++ (ds ++ qs) = append_assoc cs ds qs in
      record {
        is = is;
        m = m;
        x = y;
        cs = cs;
        ds = ds ++ qs;
        slots = refl;
        clusters = assoc;
        are = record {
          says = are.says;
          lead = are.lead;
          last = lists_last g (ds ++ qs) geometry within h m lists;
          few = omega arith;
          some = λ any. let one = some any in omega arith;
          short = elim (cases_lt 0 (length is)) [ inl one ↦ let any = some one in omega arith | inr none ↦ omega arith ];
          blocks = are.blocks ∙ ap (λ xs. g.cluster * length xs) assoc;
        };
      }

  pub grown_in_new : (new : ℕ × ℕ) → 77 < length ds + length qs → length qs ≤ 77 → AreGrown g h n f is m y cs ds qs (Some new) → HasHeaders g h n f (n ∷ (is ++ new.0 ∷ [])) ((cs ++ ds) ++ qs)
  grown_in_new new over most are =
      let room : ℕ = 77 - length ds in
      let front : List ℕ = take (77 - length ds) qs in
      let back : List ℕ = drop (77 - length ds) qs in
      let few = shared.few in
      let both = length-append cs ds in
      let count : length cs ≡ 77 * length is = lead_count g h n f is m y cs are.lead in
      let took = length-take (77 - length ds) qs in
      let left = length-drop (77 - length ds) qs in
      let joined = length-append ds front in
      let full : length (ds ++ front) ≡ 77 = omega arith in
      let parts : front ++ back ≡ qs = take-append-drop (77 - length ds) qs in
      let in_qs : (q : ℕ) → Has qs q → q < total_of g = λ q t. within q (has_second ds qs q t) in
      let in_front : (q : ℕ) → Has (ds ++ front) q → q < total_of g =
      λ q t.
      elim (has_parted ds front q t) [
        | inl u ↦ within q (has_first ds qs q u)
        | inr u ↦ in_qs q (subst (λ xs. Has xs q) parts (has_first front back q u))
      ] in
      let in_back : (q : ℕ) → Has back q → q < total_of g = λ q t. in_qs q (subst (λ xs. Has xs q) parts (has_second front back q t)) in
      let next : IsNext h y are.more.z = record {
        number = subst (λ (j : ℕ). IsSlot h j) (sym are.link.0) are.more.number;
        says = ap h.says are.link.0 ∙ are.more.says;
        after = follows_by y are.more.z (are.more.num ∙ sym are.link.0) (are.more.seq ∙ sym are.link.1) are.more.seg;
      } in
      let more : Lead g h n f (is ++ new.0 ∷ []) new.0 are.more.z (cs ++ (ds ++ front)) =
      lead_more g h n f is m y cs (ds ++ front) new.0 are.more.z are.lead (lists_full g (ds ++ front) geometry in_front h m full are.lists) are.link.0 next in
      let assoc : (cs ++ ds) ++ qs ≡ (cs ++ (ds ++ front)) ++ back =
      ap (λ xs. (cs ++ ds) ++ xs) (sym parts) ∙ sym (append_assoc (cs ++ ds) front back) ∙ ap (λ xs. xs ++ back) (append_assoc cs ds front) in
      let longer = length-append is (new.0 ∷ []) in
      record {
        is = is ++ new.0 ∷ [];
        m = new.0;
        x = are.more.z;
        cs = cs ++ (ds ++ front);
        ds = back;
        slots = refl;
        clusters = assoc;
        are = record {
          says = are.says;
          lead = more;
          last = lists_last g back geometry in_back h new.0 are.rest;
          few = omega arith;
          some = λ any. omega arith;
          short = omega arith;
          blocks = are.blocks ∙ ap (λ xs. g.cluster * length xs) assoc;
        };
      }
