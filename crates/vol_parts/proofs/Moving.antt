-- The blocks that the moves of an insertion and of a removal write.
use Rattle.std.proofs.Common.{◌≡◌, ◌≤◌, ◌++◌, ℕ, suc, List, [], ◌∷◌, Some, None, Result, Ok, Err, map, length, slice_index_or, true, false, if◌then◌else◌, refl, sym, subst, arith, lit<}
use Rattle.std.specs.Str.{bytes_eq}
use Rattle.base_words.specs.Fields.{Block, IsWholeBlock}
use Rattle.base_words.specs.Packing.{size, pack, over}
use Rattle.fx_dir.specs.declared.RawEnt.{RawEnt}
use Rattle.fx_dir.specs.declared.DirFault.{DirFault}
use Rattle.fx_dir.specs.declared.Move.{Move}
use Rattle.fx_dir.specs.Lists.{Each}
use Rattle.fx_dir.specs.Entries.{without}
use Rattle.fx_dir.specs.Directory.{directory}
use Rattle.fx_dir.specs.Writing.{IsInForm, name_of, block_of, if_fits}
use Rattle.fx_dir.specs.Moves.{rising, falling, less_last, place, inserted, as_new, insert_writes, insertion_on, remove_writes, removal_on, key}
use Rattle.fx_dir.proofs.Meeting.{Sound}
use Rattle.fx_dir.proofs.Cover.{each-append}
use Rattle.fx_dir.proofs.Greedy.{pack-room}
use Rattle.fx_dir.proofs.Building.{pack-each}
use Rattle.fx_dir.proofs.Groups.{without-room}
use Rattle.fx_dir.proofs.Changing.{rising-each, falling-each, less_last-each}
use Rattle.fx_dir.proofs.Seeing.{each-index, inserted-each, without-each, withouts-each, as_new-form}
use Rattle.vol_parts.specs.Laws.{WriteWholeBlocks, WholeInsertion, WholeRemoval}
use Rattle.vol_parts.proofs.WholeRanges.{read-sound}
use Rattle.vol_parts.proofs.Groups.{HasByte, have-bytes, whole-block}

-- groups of entries of which whole blocks are made
record Groups (gs : List (List RawEnt)) : Type 0 where
  form : Each (λ g. Each IsInForm g) gs
  flags : Each (λ g. Each HasByte g) gs
  room : Each (λ g. size name_of None g ≤ 510) gs

packed-groups : (k : ℕ) (es : List RawEnt) → Each IsInForm es → Each HasByte es → Groups (pack name_of k es)
packed-groups k es form flags = record { form = pack-each IsInForm k es form; flags = pack-each HasByte k es flags; room = pack-room k es }

lacking-groups : (e : RawEnt) (gs : List (List RawEnt)) → Groups gs → Groups (map (without e) gs)
lacking-groups e gs w = record { form = withouts-each IsInForm e gs w.form; flags = withouts-each HasByte e gs w.flags; room = without-room e gs w.room }

whole-groups : (gs : List (List RawEnt)) → Groups gs → Each IsWholeBlock (map block_of gs)
whole-groups [] w = tt
whole-groups (g ∷ gs) w =
    (whole-block g w.form.0 w.flags.0 w.room.0, whole-groups gs (record { form = w.form.1; flags = w.flags.1; room = w.room.1 }))

-- the block of one of the groups, or of none
whole-group : (gs : List (List RawEnt)) (i : ℕ) → Groups gs → IsWholeBlock (block_of (slice_index_or gs i []))
whole-group gs i w =
    whole-block (slice_index_or gs i []) (each-index (λ g. Each IsInForm g) gs i [] tt w.form) (each-index (λ g. Each HasByte g) gs i [] tt w.flags)
    (each-index (λ g. size name_of None g ≤ 510) gs i [] (omega arith) w.room)

-- the same without an entry
whole-lacking : (e : RawEnt) (gs : List (List RawEnt)) (i : ℕ) → Groups gs → IsWholeBlock (block_of (without e (slice_index_or gs i [])))
whole-lacking e gs i w =
    let held : Groups (slice_index_or gs i [] ∷ []) = record {
      form = (each-index (λ g. Each IsInForm g) gs i [] tt w.form, tt);
      flags = (each-index (λ g. Each HasByte g) gs i [] tt w.flags, tt);
      room = (each-index (λ g. size name_of None g ≤ 510) gs i [] (omega arith) w.room, tt);
    } in
    (whole-groups (without e (slice_index_or gs i []) ∷ []) (lacking-groups e (slice_index_or gs i [] ∷ []) held)).0

whole-insert : (old : List Block) (left : List (List RawEnt)) (e : RawEnt) (new : List (List RawEnt)) → Groups left → Groups new → WriteWholeBlocks (insert_writes old left e new)
whole-insert old left e new l n =
    let target : List Block = map block_of (map (without e) new) in
    let back : List Move = falling 1 (map block_of left) target in
    each-append (λ w. IsWholeBlock w.block) (rising 1 old (map block_of left) ++ less_last (suc (place e new)) back) _
    (each-append (λ w. IsWholeBlock w.block) (rising 1 old (map block_of left)) (less_last (suc (place e new)) back)
    (rising-each IsWholeBlock 1 old (map block_of left) (whole-groups left l))
    (less_last-each IsWholeBlock (suc (place e new)) back
    (falling-each IsWholeBlock 1 (map block_of left) target (whole-groups (map (without e) new) (lacking-groups e new n)))))
    (whole-group new (place e new) n, tt)

whole-remove : (old : List Block) (left : List (List RawEnt)) (e : RawEnt) (rest : List (List RawEnt)) → Groups left → Groups rest → WriteWholeBlocks (remove_writes old left e rest)
whole-remove old left e rest l r =
    each-append (λ w. IsWholeBlock w.block) (rising 1 old (map block_of left)) _ (rising-each IsWholeBlock 1 old (map block_of left) (whole-groups left l))
    (whole-lacking e left (place e left) l, rising-each IsWholeBlock 1 (map block_of (map (without e) left)) (map block_of rest) (whole-groups rest r))

as_new-flags : (es : List RawEnt) (e : RawEnt) → Each HasByte es → HasByte (as_new es e)
as_new-flags [] e n = lit< tt
as_new-flags (x ∷ es) e n =
    elim (bytes_eq x.name e.name) as (λ q. HasByte (if q then record e { limit = x.limit; flags = x.flags } else as_new es e)) [
      | true ↦ n.0
      | false ↦ as_new-flags es e n.1
    ]

pub whole_insertion : WholeInsertion
whole_insertion old e ws whole form is = by_read (directory old) refl is where
  k : ℕ
  k = length old

  by_room : (fs : List RawEnt) → Sound fs → (left : List RawEnt)
      → if_fits left (insert_writes old (pack name_of k fs) (as_new fs e) (pack name_of k (inserted (as_new fs e) fs))) ≡ Some ws → WriteWholeBlocks ws
  by_room fs s (x ∷ left) h = absurd (cc)
  by_room fs s [] h =
      let new : RawEnt = as_new fs e in
      let flags : Each HasByte fs = have-bytes fs s.ranged in
      let forms : Each IsInForm (inserted new fs) = inserted-each IsInForm new fs (as_new-form fs e form) s.form in
      let all : Each HasByte (inserted new fs) = inserted-each HasByte new fs (as_new-flags fs e flags) flags in
      let same : insert_writes old (pack name_of k fs) new (pack name_of k (inserted new fs)) ≡ ws = cc in
      subst (λ (t : List Move). WriteWholeBlocks t) same
      (whole-insert old (pack name_of k fs) new (pack name_of k (inserted new fs)) (packed-groups k fs s.form flags) (packed-groups k (inserted new fs) forms all))

  by_read : (r : Result (List RawEnt) DirFault) → r ≡ directory old → insertion_on old e r ≡ Some ws → WriteWholeBlocks ws
  by_read (Err fault) m h = absurd (cc)
  by_read (Ok fs) m h = by_room fs (read-sound old fs whole (sym m)) (over name_of (length old) (inserted (as_new fs e) fs)) h

pub whole_removal : WholeRemoval
whole_removal old name ver whole = by_read (directory old) refl where
  k : ℕ
  k = length old

  e : RawEnt
  e = key name ver

  by_read : (r : Result (List RawEnt) DirFault) → r ≡ directory old → WriteWholeBlocks (removal_on old e r)
  by_read (Err fault) m = tt
  by_read (Ok fs) m =
      let s : Sound fs = read-sound old fs whole (sym m) in
      let flags : Each HasByte fs = have-bytes fs s.ranged in
      whole-remove old (pack name_of k fs) e (pack name_of k (without e fs)) (packed-groups k fs s.form flags)
      (packed-groups k (without e fs) (without-each IsInForm e fs s.form) (without-each HasByte e fs flags))
