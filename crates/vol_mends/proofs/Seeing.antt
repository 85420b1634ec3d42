-- The volume by its home block, in the words of the geometry.
use Rattle.std.proofs.Common.{◌≡◌, ◌∙◌, ◌<◌, ◌+◌, ℕ, zero, suc, true, List, [], ◌∷◌, Some, Ok, sym, ap, arith, append-nil}
use Rattle.std.specs.Prelude.{is_some, slice_index_or}
use Rattle.std.specs.List.{range_with_len}
use Rattle.std.proofs.lemmas.Bool.{and_parts}
use Rattle.base_words.specs.Fields.{Block}
use Rattle.fx_home.specs.declared.home.Home.{Home}
use Rattle.fx_home.specs.Homes.{home_read}
use Rattle.fx_header.specs.Headers.{runs_in}
use Rattle.fx_header.specs.Pointers.{lbns_in}
use Rattle.plain_cat.specs.declared.cat.Cat.{Cat}
use Rattle.plain_cat.specs.declared.cat.File.{File}
use Rattle.plain_rules.specs.Lookups.{file_at}
use Rattle.vol_spell.specs.Spread.{blocks_at}
use Rattle.vol_parts.specs.declared.geometry.Geometry.{Geometry}
use Rattle.vol_parts.specs.Volumes.{Told, volume, first_lbn, runs, body, fields}
use Rattle.vol_parts.specs.Fatal.{is_cluster_run}
use Rattle.vol_parts.specs.Warnings.{has_doubles}
use Rattle.vol_parts.specs.Findings.{home_at}
use Rattle.vol_spell.specs.Reading.{IsFileNumber, header_block, told_of}
use Rattle.vol_mends.proofs.Views.{v_fields, v_runs, v_body}
use Rattle.vol_mends.proofs.Tests.{cluster_run}
use Rattle.vol_spell.specs.Entries.{places_in, blocks_of}
use Rattle.vol_mends.specs.Told.{IsTold}
use Rattle.vol_mends.specs.Moving.{HasDir}
use Rattle.vol_mends.specs.Seen.{IsSeen, VolumeIsSeen}
use Rattle.vol_mends.proofs.WriteTold.{Owned, owned, home_told, geometry_read}
use Rattle.vol_mends.proofs.OneWrite.{doubles_told}
use Rattle.vol_mends.proofs.Moved.{number, at}
use Rattle.vol_spell.proofs.OneHeader.{alone_whole}
use Rattle.vol_mends.proofs.Bitmaps.{file_used}

-- the number at a place of a range
in_range : (a n k : ℕ) → k < n → slice_index_or (range_with_len a n) k 0 ≡ a + k
in_range a zero k lt = absurd (omega (arith, lt))
in_range a (suc n) zero lt = omega arith
in_range a (suc n) (suc k) lt = in_range (a + 1) n k (omega (arith, lt)) ∙ omega arith

module _ (g : Geometry) (home : Home) (bs : List Block) (c : Cat) (t : IsTold g bs c) (read : home_read (home_at bs) ≡ Ok home) where
  abbrev o : Owned g bs c
  o = owned g bs c t

  home_is : home ≡ record { cluster = g.cluster; files = g.files; label = home.label }
  home_is = home_told g bs o.own c o.spells home read

  used : (n : ℕ) → IsFileNumber g n → is_some (fields (volume home bs) n) ≡ is_some (file_at c n)
  used n is =
      ap (λ (h : Home). is_some (fields (volume h bs) n)) home_is
      ∙ (ap is_some (v_fields home.label g bs o.own c o.spells n is) ∙ sym (file_used g bs o.own c o.spells n is))

  module _ (n : ℕ) (d : File) (file : file_at c n ≡ Some d) (dir : d.dir ≡ true) where
    has : HasDir g bs c n d
    has = record { told = t; file = file; dir = dir }

    is : IsFileNumber g n
    is = number g bs c n d has

    runs_are : (told_of g bs n).runs ≡ runs_in (header_block g bs n)
    runs_are =
        let a = at g bs c n d has in
        ap (λ (t : Told). t.runs) a.told ∙ alone_whole n a.fields (header_block g bs n) a.one

    bodies : body (volume home bs) n ≡ blocks_of g bs n
    bodies =
        ap (λ (h : Home). body (volume h bs) n) home_is
        ∙ (v_body home.label g bs o.own c o.spells n is ∙ ap (λ rs. blocks_at bs (lbns_in rs)) runs_are)

    places : (i : ℕ) → i < g.cluster → slice_index_or (places_in (header_block g bs n)) i 0 ≡ first_lbn (runs (volume home bs) n) + i
    places i lt =
        let sized = (at g bs c n d has).size in
        let r = cluster_run g.cluster (runs_in (header_block g bs n)) (and_parts (is_cluster_run g.cluster (runs_in (header_block g bs n))) _ sized).0 in
        let count = r.count in
        let start : runs (volume home bs) n ≡ r.run ∷ [] = ap (λ (h : Home). runs (volume h bs) n) home_is ∙ (v_runs home.label g bs o.own c o.spells n is ∙ (runs_are ∙ r.one)) in
        ap (λ rs. slice_index_or (lbns_in rs) i 0) r.one
        ∙ (ap (λ ls. slice_index_or ls i 0) (append-nil (range_with_len r.run.lbn r.run.count))
        ∙ (in_range r.run.lbn r.run.count i (omega (arith, lt, count)) ∙ ap (λ rs. first_lbn rs + i) (sym start)))

  seen : IsSeen g home bs c
  seen = record {
    geometry = sym (geometry_read bs g home (home_read (home_at bs)) read t.geometry);
    used = used;
    bodies = bodies;
    places = λ n d i file dir lt. places n d file dir i lt;
    doubles = λ n is.
        ap (λ (h : Home). has_doubles (volume h bs) n) home_is
        ∙ (doubles_told home.label g bs o.own c o.spells n is ∙ sym (doubles_told [] g bs o.own c o.spells n is));
  }

pub volume_is_seen : VolumeIsSeen
volume_is_seen g home bs c t read = seen g home bs c t read
