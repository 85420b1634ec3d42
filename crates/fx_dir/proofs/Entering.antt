-- An insertion from the packings of the entries without and with the new one.
use Rattle.std.proofs.Common.{◌≡◌, ◌∙◌, ◌≤◌, ◌<◌, false, ℕ, List, [], Some, None, Ok, length, map, slice_index_or, sym, ap, subst, arith}
use Rattle.base_words.specs.Fields.{Block}
use Rattle.base_words.specs.Packing.{pack, over}
use Rattle.fx_dir.specs.declared.RawEnt.{RawEnt}
use Rattle.fx_dir.specs.declared.Move.{Move}
use Rattle.fx_dir.specs.Lists.{Each}
use Rattle.fx_dir.specs.Entries.{has, without}
use Rattle.fx_dir.specs.Directory.{directory}
use Rattle.fx_dir.specs.Moves.{place, inserted, as_new, insert_writes, insertion, insertion_on, Inserts}
use Rattle.fx_dir.specs.Writing.{IsInForm, IsRanged, name_of, block_of, if_fits}
use Rattle.fx_dir.specs.Pieces.{insertion_by}
use Rattle.fx_dir.proofs.Meeting.{Sound}
use Rattle.fx_dir.proofs.Greedy.{pack-length}
use Rattle.fx_dir.proofs.Groups.{rises-inserted}
use Rattle.fx_dir.proofs.Seeing.{as_new-form, has-as_new, inserted-each, inserted-back}
use Rattle.fx_dir.proofs.Based.{IsLong, read-order}
use Rattle.fx_dir.proofs.Inserting.{inserts, insert-there}
use Rattle.fx_dir.proofs.Filling.{none-left, some-left, length-blocks, insertion-is, pack-rises, pack-ranged}

module _ (old : List Block) (fs : List RawEnt) (e : RawEnt) where
  abbrev new : RawEnt
  new = as_new fs e

  abbrev pub with_new : List RawEnt
  with_new = inserted new fs

  abbrev k : ℕ
  k = length old

  abbrev groups : List (List RawEnt)
  groups = pack name_of k with_new

  -- what packing tells: the blocks without and with the entry n, how many entries had no room, and the block of n without it
  pub record Packed (n : RawEnt) (before after : List Block) (left at : ℕ) (block : Block) : Type 0 where
    pub entry : n ≡ as_new fs e
    pub blocks : before ≡ map block_of (pack name_of k fs)
    pub packed : after ≡ map block_of (pack name_of k (inserted n fs))
    pub ranged : Each (λ g. Each IsRanged g) (pack name_of k (inserted n fs))
    pub over_is : left ≡ length (over name_of k (inserted n fs))
    pub place_is : at ≡ place n (pack name_of k (inserted n fs))
    pub lacking : block ≡ block_of (without n (slice_index_or (pack name_of k (inserted n fs)) (place n (pack name_of k (inserted n fs))) []))

  module _ (n : RawEnt) (before after : List Block) (left at : ℕ) (block : Block) (p : Packed n before after left at block) (read : directory old ≡ Ok fs) where
    pub none-entered : 0 < left → insertion old e ≡ None
    none-entered h = ap (insertion_on old e) read ∙ some-left (over name_of k with_new) left _ (p.over_is ∙ ap (λ x. length (over name_of k (inserted x fs))) p.entry) h

    module _ (room : left ≤ 0) where
      pub all-fit : over name_of k with_new ≡ []
      all-fit = none-left _ left (p.over_is ∙ ap (λ x. length (over name_of k (inserted x fs))) p.entry) room

      pub after-is : after ≡ map block_of groups
      after-is = p.packed ∙ ap (λ x. map block_of (pack name_of k (inserted x fs))) p.entry

      at-is : at ≡ place new groups
      at-is = p.place_is ∙ ap (λ x. place x (pack name_of k (inserted x fs))) p.entry

      block-is : block ≡ block_of (without new (slice_index_or groups (place new groups) []))
      block-is = p.lacking ∙ ap (λ x. block_of (without x (slice_index_or (pack name_of k (inserted x fs)) (place x (pack name_of k (inserted x fs))) []))) p.entry

      pub before-long : length before ≡ length old
      before-long = ap length p.blocks ∙ length-blocks k fs

      pub after-long : length after ≡ length old
      after-long = ap length after-is ∙ length-blocks k with_new

      pub there : at < length after
      there = rw (at-is, after-is) (omega (arith, insert-there k fs new all-fit, length-blocks k with_new, pack-length k with_new))

      module _ (absent : has fs e ≡ false) (ws : List Move) (is : ws ≡ insertion_by old before after at block) where
        writes-are : ws ≡ insert_writes old (pack name_of k fs) new groups
        writes-are =
            let risen = pack-rises k with_new all-fit (rises-inserted new fs (has-as_new fs fs e ∙ absent) (read-order old fs read)) in
            is ∙ (λ i. insertion_by old (p.blocks i) (after-is i) (at-is i) (block-is i)) ∙ insertion-is old (pack name_of k fs) new groups risen (insert-there k fs new all-fit)

        pub entered : Some ws ≡ insertion old e
        entered = ap Some writes-are ∙ sym (ap (insertion_on old e) read ∙ ap (λ o. if_fits o (insert_writes old (pack name_of k fs) new groups)) all-fit)

        module _ (forms : Each IsInForm fs) (form : IsInForm e) where
          pub new-sound : Sound with_new
          new-sound = record {
            form = inserted-each IsInForm new fs (as_new-form fs e form) forms;
            ranged = pack-ranged k with_new all-fit (subst (λ x. Each (λ g. Each IsRanged g) (pack name_of k (inserted x fs))) p.entry p.ranged);
          }

          pub law : Each IsLong old → Inserts old e ws
          law long = inserts old fs e ws long read absent all-fit (record { form = forms; ranged = inserted-back IsRanged new fs new-sound.ranged }) new-sound writes-are
