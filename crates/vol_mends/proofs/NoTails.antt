-- Clean blocks have no file with surplus and no stray header, and blocks without these are clean.
use Rattle.std.proofs.Common.{◌≡◌, ◌≢◌, ◌∙◌, ◌++◌, ◌&&◌, ◌==◌, nat_lt, ℕ, Bool, true, false, List, [], Option, Some, None, Result, Ok, Err, filter, map, not, refl, sym, ap, subst, inl, inr, arith}
use Rattle.std.specs.Prelude.{is_some, count_by}
use Rattle.std.proofs.lemmas.Bool.{eqb-false, lt-ltb, and_from}
use Rattle.std.proofs.lemmas.Option.{same_Some}
use Rattle.base_words.specs.Fields.{Block}
use Rattle.base_words.specs.Lists.{Has}
use Rattle.fx_home.specs.declared.home.Home.{Home}
use Rattle.fx_home.specs.declared.home.HomeFault.{HomeFault}
use Rattle.fx_home.specs.Homes.{home_read}
use Rattle.fx_header.specs.declared.slot.Hdr.{Hdr}
use Rattle.fx_header.specs.declared.slot.Slot.{Slot as Head}
use Rattle.fx_header.specs.declared.slot.Slot.TheVariants as head
use Rattle.fx_header.specs.declared.slot.HeaderFault.{HeaderFault}
use Rattle.fx_header.specs.Headers.{header_read}
use Rattle.plain_cat.specs.declared.cat.Cat.{Cat}
use Rattle.plain_rules.specs.Mending.{places, numbers_from, is_true}
use Rattle.vol_parts.specs.declared.finding.Finding.{Finding}
use Rattle.vol_parts.specs.declared.finding.Finding.TheVariants as finding
use Rattle.vol_parts.specs.declared.geometry.Geometry.{Geometry}
use Rattle.vol_parts.specs.Chains.{as_first}
use Rattle.vol_parts.specs.Volumes.{Volume, volume, Told, fields_in, used_slot, numbers, is_in_slots}
use Rattle.vol_parts.specs.Catalogues.{catalogue}
use Rattle.vol_parts.specs.Findings.{home_at, AreWarningsBy}
use Rattle.vol_parts.specs.Warnings.{is_marked, names_none, is_second, names_none_found, second_found, has_doubles, is_lost_file, has_surplus, is_further, is_stray, if_any, is_miscounted, usage_found, warnings}
use Rattle.vol_spell.specs.Owners.{Owners}
use Rattle.vol_spell.specs.Reading.{IsFileNumber, header_block, fields_told}
use Rattle.vol_spell.specs.Spelling.{IsBlank, Spells}
use Rattle.vol_spell.proofs.Heads.{first_there}
use Rattle.vol_spell.proofs.Placing.{ranged_has}
use Rattle.base_words.proofs.Listing.{has_map, has_passed, none_left, none_right}
use Rattle.vol_mends.specs.Told.{IsTold}
use Rattle.vol_mends.specs.Clean.{IsClean, IsNoSlot, AcceptedIsClean}
use Rattle.vol_mends.proofs.Cleaned.{in_slots, slots_in}
use Rattle.vol_mends.proofs.Views.{v, v_head, v_told}
use Rattle.vol_mends.proofs.WriteTold.{owned, home_told}

-- ---- lists of which nothing passes

none_mapped : (f : ℕ → Finding) (p : ℕ → Bool) (ns : List ℕ) (n : ℕ) → [] ≡ map f (filter p ns) → Has ns n → p n ≡ false
none_mapped f p ns n none has = by_test (p n) refl where
  by_test : (b : Bool) → p n ≡ b → p n ≡ false
  by_test false e = e
  by_test true e = absurd (subst (λ (fs : List Finding). Has fs (f n)) (sym none) (has_map f (filter p ns) n (has_passed p ns n has e)))

-- ---- clean blocks

no_and : (a b : Bool) → (b ≡ false → a ≡ false) → (a && not b) ≡ false
no_and true true none = refl
no_and true false none = none refl
no_and false b none = refl

-- the findings from surplus on
abbrev from_surplus : Volume → List Finding
from_surplus x =
    map finding.Surplus (filter (has_surplus x) (numbers x)) ++ (map finding.Stray (filter (is_stray x) (numbers x))
    ++ (if_any finding.LeakedClusters (catalogue x).leaked ++ (if_any finding.LeakedNumbers (count_by is_true (catalogue x).leaked_numbers)
    ++ map (usage_found (catalogue x)) (filter (is_miscounted (catalogue x)) (catalogue x).quota))))

-- the fields of a header with SEG_NUM 0 are those of a first one
first_fields : (r : Result Head HeaderFault) (f : Hdr) → fields_in r ≡ Some f → (f.seg == 0) ≡ true → fields_in (as_first r) ≡ Some f
first_fields (Ok (head.Used x)) f e z =
    let same : x ≡ f = same_Some x f e in
    let seg : (x.seg == 0) ≡ true = ap (λ (y : Hdr). y.seg == 0) same ∙ z in
    rw seg e
first_fields (Ok (head.Free seq)) f e z = absurd (cc e)
first_fields (Err fault) f e z = absurd (cc e)

module _ (label : List ℕ) (g : Geometry) (bs : List Block) (own : Owners) (c : Cat) (s : Spells g bs own c) where
  abbrev w : Volume
  w = v label g bs own c s

  pub no_surplus : IsClean g bs → (n : ℕ) → IsFileNumber g n → has_surplus w n ≡ false
  unfolding has_surplus
  no_surplus clean n is = ap (λ (t : Told). t.surplus) (v_told label g bs own c s n is) ∙ clean.surplus n is

  used_is : (m : ℕ) → IsFileNumber g m → used_slot w m ≡ fields_in (header_read (header_block g bs m))
  used_is m is = ap fields_in (v_head label g bs own c s m is)

  not_in : (m : ℕ) → is_in_slots w m ≡ false → IsNoSlot g bs m
  not_in m none n is has = let both : true ≡ false = sym (slots_in label g bs own c s m n is has) ∙ none in cc both

  pub no_stray : IsClean g bs → (m : ℕ) → IsFileNumber g m → is_stray w m ≡ false
  unfolding is_stray
  no_stray clean m is = no_and (is_further (used_slot w m)) (is_in_slots w m) (λ none. ap is_further (used_is m is ∙ clean.strays m is (not_in m none)))

  -- ---- blocks without the two findings

  -- a header in a slot that is no file's is not a first one
  further : (m : ℕ) (f : Hdr) → IsNoSlot g bs m → IsFileNumber g m → fields_in (header_read (header_block g bs m)) ≡ Some f → is_further (Some f) ≡ true
  further m f none is at = by_seg (f.seg == 0) refl where
    by_seg : (t : Bool) → (f.seg == 0) ≡ t → nat_lt 0 f.seg ≡ true
    by_seg true e =
        let first : fields_told (header_block g bs m) ≡ Some f = first_fields (header_read (header_block g bs m)) f at e in
        absurd (none m is (first_there g bs m (ap is_some first)))
    by_seg false e = lt-ltb 0 f.seg (let some : f.seg ≢ 0 = eqb-false f.seg 0 e in omega arith)

  no_slot_in : (m : ℕ) → IsNoSlot g bs m → is_in_slots w m ≡ false
  no_slot_in m none = by_test (is_in_slots w m) refl where
    by_test : (b : Bool) → is_in_slots w m ≡ b → is_in_slots w m ≡ false
    by_test false e = e
    by_test true e = let r = in_slots label g bs own c s m e in absurd (none r.file r.number r.slot)

  pub clean_without : ((n : ℕ) → IsFileNumber g n → has_surplus w n ≡ false) → ((m : ℕ) → IsFileNumber g m → is_stray w m ≡ false) → IsClean g bs
  unfolding has_surplus is_stray
  clean_without no_more none_stray = record {
    surplus = λ n is. ap (λ (t : Told). t.surplus) (sym (v_told label g bs own c s n is)) ∙ no_more n is;
    strays = λ m is none. by_fields m is none (fields_in (header_read (header_block g bs m))) refl;
  } where
    by_fields : (m : ℕ) → IsFileNumber g m → IsNoSlot g bs m → (o : Option Hdr) → fields_in (header_read (header_block g bs m)) ≡ o → IsBlank (header_block g bs m)
    by_fields m is none None e = e
    by_fields m is none (Some f) e =
        let used : is_further (used_slot w m) ≡ true = ap is_further (used_is m is ∙ e) ∙ further m f none is e in
        let out : not (is_in_slots w m) ≡ true = ap not (no_slot_in m none) in
        let both : true ≡ false = sym (and_from (is_further (used_slot w m)) (not (is_in_slots w m)) used out) ∙ none_stray m is in
        absurd (cc both)

-- ---- accepted volumes

behind_lost : (x : Volume) → [] ≡ warnings x → [] ≡ from_surplus x
unfolding warnings
behind_lost x e =
    none_right (map finding.Lost (numbers_from (is_lost_file (catalogue x)) 1 (catalogue x).files)) _
    (none_right (map finding.Doubles (filter (has_doubles x) (numbers x))) _
    (none_right (map second_found (filter (is_second (catalogue x)) (places (catalogue x)))) _
    (none_right (map names_none_found (filter (names_none (catalogue x)) (places (catalogue x)))) _
    (none_right (map finding.Marked (numbers_from is_marked 1 (catalogue x).files)) _ e))))

no_surplus_warned : (x : Volume) → [] ≡ warnings x → (n : ℕ) → Has (numbers x) n → has_surplus x n ≡ false
unfolding warnings
no_surplus_warned x e n has =
    none_mapped finding.Surplus (has_surplus x) (numbers x) n (none_left (map finding.Surplus (filter (has_surplus x) (numbers x))) _ (behind_lost x e)) has

no_stray_warned : (x : Volume) → [] ≡ warnings x → (n : ℕ) → Has (numbers x) n → is_stray x n ≡ false
unfolding warnings
no_stray_warned x e n has =
    none_mapped finding.Stray (is_stray x) (numbers x) n
    (none_left (map finding.Stray (filter (is_stray x) (numbers x))) _ (none_right (map finding.Surplus (filter (has_surplus x) (numbers x))) _ (behind_lost x e))) has

accepted_by : (g : Geometry) (bs : List Block) (c : Cat) → IsTold g bs c → (r : Result Home HomeFault) → home_read (home_at bs) ≡ r → AreWarningsBy bs r [] → IsClean g bs
accepted_by g bs c t (Err fault) e none = absurd none
accepted_by g bs c t (Ok home) e none =
    let o = owned g bs c t in
    let home_is = home_told g bs o.own c o.spells home e in
    let quiet : [] ≡ warnings (v home.label g bs o.own c o.spells) = none ∙ ap (λ (h : Home). warnings (volume h bs)) home_is in
    clean_without home.label g bs o.own c o.spells
    (λ n is. no_surplus_warned (v home.label g bs o.own c o.spells) quiet n (let from = is.from in let to = is.to in ranged_has 1 g.files n from (omega (arith, to))))
    (λ m is. no_stray_warned (v home.label g bs o.own c o.spells) quiet m (let from = is.from in let to = is.to in ranged_has 1 g.files m from (omega (arith, to))))

pub accepted_is_clean : AcceptedIsClean
accepted_is_clean g bs c t (inl f) = absurd (cc (f.2))
accepted_is_clean g bs c t (inr w) = accepted_by g bs c t (home_read (home_at bs)) refl w.1
