-- The catalogue that the blocks tell is the one that they spell, with nothing open.
use Rattle.std.proofs.Common.{◌≡◌, ◌≤◌, ◌+◌, ◌-◌, ◌*◌, ◌∙◌, ℕ, Bool, true, false, not, List, [], Some, None, length, map, slice_get, take, replicate, refl, sym, ap, subst, arith, ◌⊎◌, inl, inr}
use Rattle.std.specs.Prelude.{◌&&◌, ◌==◌, count_by, sum_by}
use Rattle.std.specs.List.{range_with_len, list_any}
use Rattle.std.proofs.lemmas.List.FromFn.{length-range_with_len}
use Rattle.std.proofs.lemmas.Option.{slice_get_within}
use Rattle.std.proofs.lemmas.Bool.{eqb-true, eq-eqb}
use Rattle.base_words.specs.Fields.{Block}
use Rattle.plain_cat.specs.declared.cat.Cat.{Cat}
use Rattle.plain_cat.specs.declared.cat.Slot.{Slot}
use Rattle.plain_cat.specs.declared.cat.QuotaRow.{QuotaRow}
use Rattle.plain_rules.specs.Lookups.{clusters_in}
use Rattle.vol_spell.specs.declared.owner.Owner.{Owner}
use Rattle.vol_spell.specs.declared.owner.Owner.TheVariants.{Free, InFile, Outside, Leaked}
use Rattle.base_words.specs.Lists.{Has}
use Rattle.vol_spell.specs.Owners.{Owners}
use Rattle.vol_spell.specs.Counts.{is_same_owner}
use Rattle.base_words.proofs.Listing.{has_at}
use Rattle.vol_spell.proofs.Placing.{has_ranged, ranged_has, length-blocks_at}
use Rattle.vol_parts.specs.declared.geometry.Geometry.{Geometry}
use Rattle.vol_parts.specs.Volumes.{Volume, total, numbers, told as told_in, is_slot_of, is_in_slots, runs, body, is_in_run, is_in_file, is_in_files, is_free_cluster, is_used_number, active_rows}
use Rattle.vol_parts.specs.Catalogues.{rows_sorted, is_outside_cluster, is_outside_number, catalogue}
use Rattle.vol_spell.specs.Reading.{IsFileNumber, told_of, clusters_told, quota_places}
use Rattle.vol_spell.specs.Spelling.{Spells}
use Rattle.vol_spell.specs.Owning.{IsClusterOf, IsNumberOf}
use Rattle.vol_spell.proofs.Owned.{each_is_owned}
use Rattle.vol_spell.proofs.Parts.{told}
use Rattle.vol_spell.proofs.Picking.{any_place, has_any, place_any}
use Rattle.vol_spell.proofs.Clusters.{run_of, of_run}
use Rattle.vol_mends.specs.Weak.{NoOuts, shut}
use Rattle.vol_mends.proofs.Views.{v, v_told, v_runs, v_quota_body, v_rows, v_total, v_cluster_bit, v_number_bit, v_files}
use Rattle.vol_mends.proofs.Tests.{count_range, map_range}

pub same_free : (o : Owner) → is_same_owner Free o ≡ true → o ≡ Free
unfolding is_same_owner
same_free Free e = refl
same_free (InFile n) e = absurd (cc e)
same_free (Outside n) e = absurd (cc e)
same_free Leaked e = absurd (cc e)

pub is_true : (b : Bool) → (b ≡ false → ⊥) → b ≡ true
is_true true h = refl
is_true false h = absurd (h refl)

pub is_false : (b : Bool) → (b ≡ true → ⊥) → b ≡ false
is_false true h = absurd (h refl)
is_false false h = refl

module _ (label : List ℕ) (g : Geometry) (bs : List Block) (own : Owners) (c : Cat) (s : Spells g bs own c) where
  abbrev w : Volume
  w = v label g bs own c s

  low : 1 ≤ g.cluster
  low = s.counts.geometry.cluster_from

  number_of : (n : ℕ) → Has (numbers w) n → IsFileNumber g n
  number_of n h = let r = has_ranged 1 g.files n h in let a = r.0 in let b = r.1 in record { from = a; to = omega (arith, b) }

  -- a cluster in a file is its own
  pub in_files : (q : ℕ) → is_in_files w q ≡ true → (n : ℕ) × IsFileNumber g n × Has (clusters_told g (told_of g bs n)) q
  unfolding is_in_files
  in_files q e =
      let p = any_place (is_in_file w q) (numbers w) e in
      let is = number_of p.item (has_at (numbers w) p.place p.item p.there) in
      let r = any_place (is_in_run g.cluster q) (runs w p.item) p.passes in
      let at = ap (λ rs. slice_get rs r.place) (sym (v_runs label g bs own c s p.item is)) ∙ r.there in
      (p.item, is, of_run g (told_of g bs p.item).runs q r.place r.item low (told g bs own c s p.item is).whole at r.passes)

  files_in : (q n : ℕ) → IsFileNumber g n → Has (clusters_told g (told_of g bs n)) q → is_in_files w q ≡ true
  unfolding is_in_files
  files_in q n is h =
      let r = run_of g (told_of g bs n).runs q low (told g bs own c s n is).whole h in
      let at = ap (λ rs. slice_get rs r.place) (v_runs label g bs own c s n is) ∙ r.there in
      let from = is.from in
      let to = is.to in
      has_any (is_in_file w q) (numbers w) n (ranged_has 1 g.files n from (omega (arith, to))) (place_any (is_in_run g.cluster q) (runs w n) r.place r.run at r.inside)

  module _ (outs : NoOuts own) where
    none_out : (q node : ℕ) → slice_get own.clusters q ≡ Some (Outside node) → ⊥
    none_out q node e = by_case (((outs node).clusters.all q).0 e) where
      by_case : Has [] q ⊎ Has [] q → ⊥
      by_case (inl h) = h
      by_case (inr h) = h

    no_number_out : (q node : ℕ) → slice_get own.numbers q ≡ Some (Outside node) → ⊥
    no_number_out q node e = by_case (((outs node).numbers.all q).0 e) where
      by_case : Has [] q ⊎ Has [] q → ⊥
      by_case (inl h) = h
      by_case (inr h) = h

    -- a cluster is outside exactly where it is leaked
    leaked_cluster : (q : ℕ) (o : Owner) → slice_get own.clusters q ≡ Some o → is_outside_cluster w q ≡ is_same_owner Leaked o
    unfolding is_outside_cluster is_same_owner
    leaked_cluster q o at =
        let lt = slice_get_within own.clusters q o at in
        let count = s.counts.clusters in
        let r = each_is_owned.clusters g bs own c q s (omega (arith, lt, count)) in
        let both : Some r.0 ≡ Some o = sym r.1 ∙ at in
        let same : r.0 ≡ o = cc both in
        by_owner o at (subst (λ (x : Owner). IsClusterOf g bs q x) same r.2)
      where
        free_is : (p : Owner) → IsClusterOf g bs q p → is_free_cluster w q ≡ is_same_owner Free p
        free_is p k = v_cluster_bit label g bs own c s q ∙ k.bit

        by_owner : (p : Owner) → slice_get own.clusters q ≡ Some p → IsClusterOf g bs q p → not (is_free_cluster w q) && not (is_in_files w q) ≡ is_same_owner Leaked p
        by_owner Free e k = ap (λ b. not b && not (is_in_files w q)) (free_is Free k)
        by_owner (InFile n) e k =
            let is = k.known n refl in
            ap (λ b. not b && not (is_in_files w q)) (free_is (InFile n) k) ∙ ap not (files_in q n is ((k.files n is).1 refl))
        by_owner (Outside node) e k = absurd (none_out q node e)
        by_owner Leaked e k =
            ap (λ b. not b && not (is_in_files w q)) (free_is Leaked k)
            ∙ ap not (is_false (is_in_files w q) (λ t. let r = in_files q t in let owned : Leaked ≡ InFile r.0 = (k.files r.0 r.1).0 r.2 in absurd (cc owned)))

    -- a number is outside exactly where it is leaked
    leaked_number : (n : ℕ) (o : Owner) → IsFileNumber g n → slice_get own.numbers (n - 1) ≡ Some o → is_outside_number w n ≡ is_same_owner Leaked o
    unfolding is_outside_number is_same_owner is_in_slots
    leaked_number n o is at =
        let r = each_is_owned.numbers g bs own c n s is in
        let both : Some r.0 ≡ Some o = sym r.1 ∙ at in
        let same : r.0 ≡ o = cc both in
        by_owner o at (subst (λ (x : Owner). IsNumberOf g bs n x) same r.2)
      where
        used_is : (p : Owner) → IsNumberOf g bs n p → is_used_number w n ≡ not (is_same_owner Free p)
        used_is p k = v_number_bit label g bs own c s n ∙ k.bit

        told_is : (m : ℕ) → IsFileNumber g m → told_in w m ≡ told_of g bs m
        told_is m k = v_told label g bs own c s m k

        slots_to : (m : ℕ) → IsFileNumber g m → Has (told_of g bs m).slots n → is_in_slots w n ≡ true
        slots_to m k h =
            let from = k.from in
            let to = k.to in
            has_any (is_slot_of w n) (numbers w) m (ranged_has 1 g.files m from (omega (arith, to)))
            (ap (λ t. list_any (λ j. j == n) t.slots) (told_is m k) ∙ has_any (λ j. j == n) (told_of g bs m).slots n h (eq-eqb n n refl))

        slots_from : is_in_slots w n ≡ true → (m : ℕ) × IsFileNumber g m × Has (told_of g bs m).slots n
        slots_from e =
            let p = any_place (is_slot_of w n) (numbers w) e in
            let k = number_of p.item (has_at (numbers w) p.place p.item p.there) in
            let r = any_place (λ j. j == n) (told_of g bs p.item).slots (ap (λ t. list_any (λ j. j == n) t.slots) (sym (told_is p.item k)) ∙ p.passes) in
            let same : r.item ≡ n = eqb-true r.item n r.passes in
            (p.item, k, subst (λ (j : ℕ). Has (told_of g bs p.item).slots j) same (has_at (told_of g bs p.item).slots r.place r.item r.there))

        by_owner : (p : Owner) → slice_get own.numbers (n - 1) ≡ Some p → IsNumberOf g bs n p → is_used_number w n && not (is_in_slots w n) ≡ is_same_owner Leaked p
        by_owner Free e k = ap (λ b. b && not (is_in_slots w n)) (used_is Free k)
        by_owner (InFile m) e k =
            let own_is : IsFileNumber g m = k.known m refl in
            ap (λ b. b && not (is_in_slots w n)) (used_is (InFile m) k) ∙ ap not (slots_to m own_is ((k.slots m own_is).1 refl))
        by_owner (Outside node) e k = absurd (no_number_out (n - 1) node e)
        by_owner Leaked e k =
            ap (λ b. b && not (is_in_slots w n)) (used_is Leaked k)
            ∙ ap not (is_false (is_in_slots w n) (λ t. let r = slots_from t in let owned : Leaked ≡ InFile r.0 = (k.slots r.0 r.1).0 r.2 in absurd (cc owned)))

    leaked_count : count_by (is_outside_cluster w) (range_with_len 0 (total w)) ≡ c.leaked
    leaked_count =
        count_range (is_same_owner Leaked) (is_outside_cluster w) 0 (total w) own.clusters (s.counts.clusters ∙ sym (v_total label g bs own c s)) (λ i o at. ap (λ q. is_outside_cluster w q) (let z : 0 + i ≡ i = omega arith in z) ∙ leaked_cluster i o at)
        ∙ sym s.owners.leaked

    leaked_flags : map (is_outside_number w) (numbers w) ≡ c.leaked_numbers
    leaked_flags =
        map_range (is_same_owner Leaked) (is_outside_number w) 1 g.files own.numbers s.counts.numbers (λ i o at.
        let lt = slice_get_within own.numbers i o at in
        let count = s.counts.numbers in
        let place : 1 + i - 1 ≡ i = omega arith in
        leaked_number (1 + i) o (record { from = omega arith; to = omega (arith, lt, count) }) (ap (slice_get own.numbers) place ∙ at))
        ∙ sym s.owners.leaked_numbers

    row_count : 16 * length (body w 10) ≡ c.rows
    row_count =
        ap (λ k. 16 * k) (ap (λ xs. length xs) (v_quota_body label g bs own c s) ∙ (length-blocks_at bs (quota_places g) ∙ length-range_with_len g.quota_lbn g.cluster)) ∙ sym s.constants.rows

    pub catalogue_is : shut c ≡ catalogue w
    unfolding catalogue
    catalogue_is = sym (
        ap (λ (fs : List Slot). record {
          factor = g.cluster;
          total = total w;
          reserved = sum_by clusters_in (take 11 fs);
          rows = 16 * length (body w 10);
          files = fs;
          quota = rows_sorted (active_rows w);
          opens = replicate 64 None;
          leaked = count_by (is_outside_cluster w) (range_with_len 0 (total w));
          leaked_numbers = map (is_outside_number w) (numbers w);
        }) (sym (v_files label g bs own c s))
        ∙ (ap (λ (k : ℕ). record {
          factor = k;
          total = total w;
          reserved = sum_by clusters_in (take 11 c.files);
          rows = 16 * length (body w 10);
          files = c.files;
          quota = rows_sorted (active_rows w);
          opens = replicate 64 None;
          leaked = count_by (is_outside_cluster w) (range_with_len 0 (total w));
          leaked_numbers = map (is_outside_number w) (numbers w);
        }) (sym s.constants.factor)
        ∙ (ap (λ (k : ℕ). record {
          factor = c.factor;
          total = k;
          reserved = sum_by clusters_in (take 11 c.files);
          rows = 16 * length (body w 10);
          files = c.files;
          quota = rows_sorted (active_rows w);
          opens = replicate 64 None;
          leaked = count_by (is_outside_cluster w) (range_with_len 0 (total w));
          leaked_numbers = map (is_outside_number w) (numbers w);
        }) (v_total label g bs own c s ∙ sym s.constants.total)
        ∙ (ap (λ (k : ℕ). record {
          factor = c.factor;
          total = c.total;
          reserved = k;
          rows = 16 * length (body w 10);
          files = c.files;
          quota = rows_sorted (active_rows w);
          opens = replicate 64 None;
          leaked = count_by (is_outside_cluster w) (range_with_len 0 (total w));
          leaked_numbers = map (is_outside_number w) (numbers w);
        }) (sym s.constants.reserved)
        ∙ (ap (λ (k : ℕ). record {
          factor = c.factor;
          total = c.total;
          reserved = c.reserved;
          rows = k;
          files = c.files;
          quota = rows_sorted (active_rows w);
          opens = replicate 64 None;
          leaked = count_by (is_outside_cluster w) (range_with_len 0 (total w));
          leaked_numbers = map (is_outside_number w) (numbers w);
        }) row_count
        ∙ (ap (λ (qs : List QuotaRow). record {
          factor = c.factor;
          total = c.total;
          reserved = c.reserved;
          rows = c.rows;
          files = c.files;
          quota = qs;
          opens = replicate 64 None;
          leaked = count_by (is_outside_cluster w) (range_with_len 0 (total w));
          leaked_numbers = map (is_outside_number w) (numbers w);
        }) (ap rows_sorted (v_rows label g bs own c s) ∙ sym s.rows.quota)
        ∙ (ap (λ (k : ℕ). record {
          factor = c.factor;
          total = c.total;
          reserved = c.reserved;
          rows = c.rows;
          files = c.files;
          quota = c.quota;
          opens = replicate 64 None;
          leaked = k;
          leaked_numbers = map (is_outside_number w) (numbers w);
        }) leaked_count
        ∙ ap (λ (fl : List Bool). record {
          factor = c.factor;
          total = c.total;
          reserved = c.reserved;
          rows = c.rows;
          files = c.files;
          quota = c.quota;
          opens = replicate 64 None;
          leaked = c.leaked;
          leaked_numbers = fl;
        }) leaked_flags)))))))
