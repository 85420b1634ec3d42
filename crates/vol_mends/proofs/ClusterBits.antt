-- Blocks of the storage bitmap that say what the headers say.
use Rattle.std.proofs.Common.{◌≡◌, ◌≢◌, ◌∙◌, ◌<◌, ◌/◌, ◌↔◌, ℕ, Bool, true, false, cond, not, List, Some, Ok, slice_get, slice_set, refl, sym, ap, subst, arith, ◌⊎◌, inl, if◌then◌else◌}
use Rattle.std.specs.Prelude.{◌==◌, count_by}
use Rattle.std.proofs.lemmas.Bool.{eq-eqb, eqb-true}
use Rattle.std.proofs.lemmas.Option.{slice_get_within}
use Rattle.base_words.specs.Fields.{Block}
use Rattle.fx_home.specs.declared.home.Home.{Home}
use Rattle.fx_home.specs.Homes.{home_read}
use Rattle.plain_cat.specs.declared.cat.Cat.{Cat}
use Rattle.vol_spell.specs.declared.owner.Owner.{Owner}
use Rattle.vol_spell.specs.declared.owner.Owner.TheVariants.{Free, InFile, Outside, Leaked}
use Rattle.base_words.specs.Lists.{Has}
use Rattle.vol_spell.specs.Owners.{Owners, IsSpaceMove, IsDeathMove}
use Rattle.vol_spell.specs.Counts.{is_same_owner}
use Rattle.vol_spell.proofs.Moving.{still}
use Rattle.vol_parts.specs.declared.geometry.Geometry.{Geometry}
use Rattle.vol_parts.specs.declared.geometry.Part.TheVariants.{Storage}
use Rattle.vol_parts.specs.Parts.{part_of}
use Rattle.vol_parts.specs.Volumes.{volume, numbers, runs, is_in_run, is_in_file, is_in_files, is_free_cluster}
use Rattle.vol_parts.specs.Findings.{home_at}
use Rattle.vol_spell.specs.Reading.{IsFileNumber, total_of, told_of, clusters_told, cluster_bit}
use Rattle.vol_spell.specs.Places.{place_of}
use Rattle.vol_spell.specs.Spelling.{Spells}
use Rattle.vol_spell.specs.Owning.{IsClusterOf}
use Rattle.vol_spell.specs.Views.{IsStorageSet}
use Rattle.vol_spell.proofs.Placing.{ranged_has}
use Rattle.vol_spell.proofs.Picking.{has_any, place_any}
use Rattle.vol_spell.proofs.Clusters.{run_of}
use Rattle.vol_spell.proofs.Owned.{each_is_owned}
use Rattle.vol_spell.proofs.Parts.{home_owned, part_owned, part_there, told}
use Rattle.vol_spell.proofs.Frames.{apart_by}
use Rattle.vol_spell.proofs.Viewing.{parts_stay, storage_set}
use Rattle.vol_spell.proofs.Keeping.{storage_write, death_leaks}
use Rattle.vol_mends.specs.Weak.{NoOuts}
use Rattle.vol_mends.specs.Going.{Change, Leaked as Leaks}
use Rattle.vol_mends.proofs.Views.{v, v_runs, v_cluster_bit}
use Rattle.vol_mends.proofs.Telling.{same_free, in_files}
use Rattle.vol_mends.specs.Told.{IsTold}
use Rattle.vol_mends.specs.Bits.{AreSpaceBits, SpaceIsSet, ClustersAreSet}
use Rattle.vol_mends.proofs.WriteTold.{Owned, owned, changed, home_left, home_told}
use Rattle.vol_mends.proofs.Basics.{clash, false_by}
use Rattle.plain_mends.proofs.GoneSteps.{both_ways as same_bool}
use Rattle.vol_mends.proofs.Turned.{turned, turned_was, turned_is, turned_moves, turned_on, none_outside, count_none}
use Rattle.vol_mends.proofs.Parting.{no_cluster_out}
use Rattle.vol_mends.proofs.Bitmaps.{taken, given, take_moves, give_moves, given_out, parts_single, parts_clean, is_filed, part_on}

-- those alone whose bits are in block k
abbrev taken_in : ℕ → ℕ → Owner → Owner
taken_in k q x = if q / 4096 == k then taken x else x

abbrev given_in : ℕ → ℕ → Owner → Owner
given_in k q x = if q / 4096 == k then given x else x

take_in_moves : (k q : ℕ) (x : Owner) → (taken_in k q x ≡ x) ⊎ (IsDeathMove 0 (Some x) × IsDeathMove 0 (Some (taken_in k q x)))
take_in_moves k q x = by (q / 4096 == k) where
  by : (b : Bool) → (cond b (taken x) x ≡ x) ⊎ (IsDeathMove 0 (Some x) × IsDeathMove 0 (Some (cond b (taken x) x)))
  by true = take_moves x
  by false = inl refl

give_in_moves : (k q : ℕ) (x : Owner) → (given_in k q x ≡ taken_in k q x) ⊎ (IsSpaceMove 0 (Some (taken_in k q x)) × IsSpaceMove 0 (Some (given_in k q x)))
give_in_moves k q x = by (q / 4096 == k) where
  by : (b : Bool) → (cond b (given x) x ≡ cond b (taken x) x) ⊎ (IsSpaceMove 0 (Some (cond b (taken x) x)) × IsSpaceMove 0 (Some (cond b (given x) x)))
  by true = give_moves x
  by false = inl refl

given_in_out : (k q m : ℕ) (x : Owner) → given_in k q x ≡ Outside m → x ≡ Outside m
given_in_out k q m x e = by (q / 4096 == k) e where
  by : (b : Bool) → cond b (given x) x ≡ Outside m → x ≡ Outside m
  by true h = given_out m x h
  by false h = h

module _ (label : List ℕ) (g : Geometry) (bs : List Block) (own : Owners) (c : Cat) (s : Spells g bs own c) where
  -- a cluster of a file is in a run of it
  pub files_in : (q n : ℕ) → IsFileNumber g n → Has (clusters_told g (told_of g bs n)) q → is_in_files (v label g bs own c s) q ≡ true
  unfolding is_in_files
  files_in q n is h =
      let r = run_of g (told_of g bs n).runs q s.counts.geometry.cluster_from (told g bs own c s n is).whole h in
      let at = ap (λ rs. slice_get rs r.place) (v_runs label g bs own c s n is) ∙ r.there in
      let from = is.from in
      let to = is.to in
      has_any (is_in_file (v label g bs own c s) q) (numbers (v label g bs own c s)) n (ranged_has 1 g.files n from (omega (arith, to)))
      (place_any (is_in_run g.cluster q) (runs (v label g bs own c s) n) r.place r.run at r.inside)

  pub filed_by : (q : ℕ) (x : Owner) → IsClusterOf g bs q x → is_in_files (v label g bs own c s) q ≡ is_filed x
  filed_by q (InFile i) k = let is = k.known i refl in files_in q i is ((k.files i is).1 refl)
  filed_by q Free k = false_by _ (λ t. let r = in_files label g bs own c s q t in let e : Free ≡ InFile r.0 = (k.files r.0 r.1).0 r.2 in cc e)
  filed_by q (Outside m) k = false_by _ (λ t. let r = in_files label g bs own c s q t in let e : Outside m ≡ InFile r.0 = (k.files r.0 r.1).0 r.2 in cc e)
  filed_by q Leaked k = false_by _ (λ t. let r = in_files label g bs own c s q t in let e : Leaked ≡ InFile r.0 = (k.files r.0 r.1).0 r.2 in cc e)

-- ---- a block that is written

module _ (g : Geometry) (bs : List Block) (c : Cat) (home : Home) (k : ℕ) (b : Block) (are : AreSpaceBits g bs c home k b) where
  abbrev o : Owned g bs c
  o = owned g bs c are.told

  abbrev l : ℕ
  l = place_of g (Storage k)

  abbrev new : List Block
  new = slice_set bs (place_of g (Storage k)) b

  abbrev mid : Owners
  mid = record { clusters = turned (taken_in k) 0 (owned g bs c are.told).own.clusters; numbers = (owned g bs c are.told).own.numbers }

  abbrev end : Owners
  end = record { clusters = turned (given_in k) 0 (owned g bs c are.told).own.clusters; numbers = (owned g bs c are.told).own.numbers }

  abbrev left : ℕ
  left = count_by (is_same_owner Leaked) (turned (taken_in k) 0 (owned g bs c are.told).own.clusters)

  abbrev after : Cat
  after = record c { leaked = left }

  held : Spells g bs mid after
  held =
      let flags = sym o.spells.owners.leaked_numbers in
      subst (λ (ns : List Bool). Spells g bs mid (record c { leaked = left; leaked_numbers = ns })) flags
      (death_leaks g bs o.own mid c 0 o.spells (record { clusters = turned_moves (IsDeathMove 0) (taken_in k) o.own.clusters (λ q x at. take_in_moves k q x); numbers = still (IsDeathMove 0) o.own.numbers }))

  there : part_of g (place_of g (Storage k)) ≡ Some (Storage k)
  there = part_there g bs o.own c o.spells (Storage k) are.block

  home_is : home ≡ record { cluster = g.cluster; files = g.files; label = home.label }
  home_is = home_told g bs o.own c o.spells home are.read

  filed_is : (q : ℕ) (x : Owner) → IsClusterOf g bs q x → is_in_files (volume home bs) q ≡ is_filed x
  filed_is q x is = ap (λ (h : Home). is_in_files (volume h bs) q) home_is ∙ filed_by home.label g bs o.own c o.spells q x is

  free_bits : (q : ℕ) → q < total_of g → (cluster_bit g new q ≡ true) ↔ (slice_get end.clusters q ≡ Some Free)
  unfolding is_same_owner
  free_bits q lt = by_block (q / 4096 == k) refl where
    r : (x : Owner) × (slice_get o.own.clusters q ≡ Some x) × IsClusterOf g bs q x
    r = each_is_owned.clusters g bs o.own c q o.spells lt

    now : slice_get end.clusters q ≡ Some (given_in k q r.0)
    now = turned_is (given_in k) o.own.clusters q r.0 r.1

    seen : IsStorageSet g bs (slice_set bs (place_of g (Storage k)) b) k b
    seen = storage_set g bs o.own c k (place_of g (Storage k)) b o.spells there

    given_free : (x : Owner) → slice_get o.own.clusters q ≡ Some x → not (is_filed x) ≡ true → given x ≡ Free
    given_free Free at e = refl
    given_free Leaked at e = refl
    given_free (InFile i) at e = absurd (cc e)
    given_free (Outside m) at e = absurd (no_cluster_out o.own o.outs q m at)

    free_given : (x : Owner) → given x ≡ Free → not (is_filed x) ≡ true
    free_given Free e = refl
    free_given Leaked e = refl
    free_given (InFile i) e = absurd (cc e)
    free_given (Outside m) e = absurd (cc e)

    here_free : (x : Owner) → is_same_owner Free x ≡ true → x ≡ Free
    here_free x e = same_free x e

    free_here : (x : Owner) → x ≡ Free → is_same_owner Free x ≡ true
    free_here x e = ap (is_same_owner Free) e

    by_block : (t : Bool) → (q / 4096 == k) ≡ t → (cluster_bit g new q ≡ true) ↔ (slice_get end.clusters q ≡ Some Free)
    by_block true e =
        let same : q / 4096 ≡ k = eqb-true (q / 4096) k e in
        let bit : cluster_bit g new q ≡ not (is_filed r.0) = seen.here q same ∙ (are.bits q lt same ∙ ap not (filed_is q r.0 r.2)) in
        let mine : slice_get end.clusters q ≡ Some (given r.0) = now ∙ ap (λ t. Some (cond t (given r.0) r.0)) e in
        ((λ h. mine ∙ ap (λ x. Some x) (given_free r.0 r.1 (sym bit ∙ h))), (λ h. let both : Some (given r.0) ≡ Some Free = sym mine ∙ h in bit ∙ free_given r.0 (cc both)))
    by_block false e =
        let other : q / 4096 ≢ k = λ h. clash (q / 4096 == k) (eq-eqb (q / 4096) k h) e in
        let bit : cluster_bit g new q ≡ is_same_owner Free r.0 = seen.elsewhere q other ∙ r.2.bit in
        let mine : slice_get end.clusters q ≡ Some r.0 = now ∙ ap (λ t. Some (cond t (given r.0) r.0)) e in
        ((λ h. mine ∙ ap (λ x. Some x) (here_free r.0 (sym bit ∙ h))), (λ h. let both : Some r.0 ≡ Some Free = sym mine ∙ h in bit ∙ free_here r.0 (cc both)))

  spelt : Spells g new end after
  spelt =
      storage_write g bs mid end after 0 k (place_of g (Storage k)) b held are.whole there (turned_on (IsSpaceMove 0) (taken_in k) (given_in k) o.own.clusters (λ q x at. give_in_moves k q x)) refl free_bits

  change : Change c after
  change = Leaks left c.leaked_numbers refl

  outs : NoOuts end
  outs node = record {
    clusters = none_outside node end.clusters (λ q e. let r = turned_was (given_in k) o.own.clusters q (Outside node) e in no_cluster_out o.own o.outs q node (r.1 ∙ ap (λ x. Some x) (given_in_out k q node r.0 r.2)));
    numbers = (o.outs node).numbers;
  }

  home_apart : 1 ≢ place_of g (Storage k)
  home_apart =
      apart_by g o.own 1 (place_of g (Storage k)) (InFile 1) (InFile 2) (home_owned g bs o.own c o.spells) (part_owned g bs o.own c o.spells (Storage k) are.block) (λ e. cc e)

  file_same : (n : ℕ) → IsFileNumber g n → told_of g new n ≡ told_of g bs n
  file_same n is = (parts_stay g bs o.own c n (place_of g (Storage k)) (Storage k) b o.spells is there (λ m t e. cc e)).told

  filed_same : (q : ℕ) → is_in_files (v home.label g new end after spelt) q ≡ is_in_files (v home.label g bs o.own c o.spells) q
  filed_same q =
      same_bool _ _
      (λ e. let r = in_files home.label g new end after spelt q e in files_in home.label g bs o.own c o.spells q r.0 r.1 (subst (λ t. Has (clusters_told g t) q) (file_same r.0 r.1) r.2))
      (λ e. let r = in_files home.label g bs o.own c o.spells q e in files_in home.label g new end after spelt q r.0 r.1 (subst (λ t. Has (clusters_told g t) q) (sym (file_same r.0 r.1)) r.2))

  by_label : (ys : List Block) (q : ℕ) → is_free_cluster (volume home ys) q ≡ is_free_cluster (volume (record { cluster = g.cluster; files = g.files; label = home.label }) ys) q
  by_label ys q = ap (λ (h : Home). is_free_cluster (volume h ys) q) home_is

  free_now : (q : ℕ) → is_free_cluster (volume home new) q ≡ cluster_bit g new q
  free_now q = by_label new q ∙ v_cluster_bit home.label g new end after spelt q

  free_before : (q : ℕ) → is_free_cluster (volume home bs) q ≡ cluster_bit g bs q
  free_before q = by_label bs q ∙ v_cluster_bit home.label g bs o.own c o.spells q

  is_set : SpaceIsSet g bs c home k b new
  is_set = record {
    left = left;
    leads = changed g bs new end c after are.told change spelt outs (home_left bs (place_of g (Storage k)) b home_apart);
    singles = parts_single g bs o.own end c after (Storage k) b o.spells spelt are.block (λ n e. cc e);
    clean = parts_clean g bs o.own c (Storage k) b o.spells are.block (λ n e. cc e);
    same = λ q. ap (λ (h : Home). is_in_files (volume h new) q) home_is ∙ (filed_same q ∙ sym (ap (λ (h : Home). is_in_files (volume h bs) q) home_is));
    here = λ q e. free_now q ∙ (storage_set g bs o.own c k (place_of g (Storage k)) b o.spells there).here q e;
    elsewhere = λ q ne. free_now q ∙ ((storage_set g bs o.own c k (place_of g (Storage k)) b o.spells there).elsewhere q ne ∙ sym (free_before q));
  }

-- ---- where each bit says what the headers say

module _ (g : Geometry) (bs : List Block) (c : Cat) (home : Home) (t : IsTold g bs c) (read : home_read (home_at bs) ≡ Ok home) (right : (q : ℕ) → q < total_of g → is_free_cluster (volume home bs) q ≡ not (is_in_files (volume home bs) q)) where
  p : Owned g bs c
  p = owned g bs c t

  home_so : home ≡ record { cluster = g.cluster; files = g.files; label = home.label }
  home_so = home_told g bs p.own c p.spells home read

  not_one : (q : ℕ) (x : Owner) → slice_get p.own.clusters q ≡ Some x → is_same_owner Leaked x ≡ false
  unfolding is_same_owner
  not_one q x at =
      let lt = slice_get_within p.own.clusters q x at in
      let count = p.spells.counts.clusters in
      let small : q < total_of g = omega (arith, lt, count) in
      let r = each_is_owned.clusters g bs p.own c q p.spells small in
      let both : Some r.0 ≡ Some x = sym r.1 ∙ at in
      by x (subst (λ y. IsClusterOf g bs q y) (cc both) r.2) small
    where
      by : (y : Owner) → IsClusterOf g bs q y → q < total_of g → is_same_owner Leaked y ≡ false
      by Free k small = refl
      by (InFile i) k small = refl
      by (Outside m) k small = refl
      by Leaked k small =
          let bit : is_free_cluster (volume home bs) q ≡ false = ap (λ (h : Home). is_free_cluster (volume h bs) q) home_so ∙ (v_cluster_bit home.label g bs p.own c p.spells q ∙ k.bit) in
          let filed : is_in_files (volume home bs) q ≡ false = ap (λ (h : Home). is_in_files (volume h bs) q) home_so ∙ filed_by home.label g bs p.own c p.spells q Leaked k in
          absurd (clash (is_free_cluster (volume home bs) q) (right q small ∙ ap not filed) bit)

  none_leaks : c.leaked ≡ 0
  none_leaks = p.spells.owners.leaked ∙ count_none (is_same_owner Leaked) p.own.clusters not_one

pub clusters_are_set : ClustersAreSet
clusters_are_set = record { leads = is_set; none = none_leaks; within = λ g bs c k t lt. part_on g bs c (Storage k) t lt }
