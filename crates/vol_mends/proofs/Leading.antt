-- What moves that lead to a catalogue leave, as it is wanted where they are written.
use Rattle.std.proofs.Common.{◌≡◌, ◌∙◌, ◌<◌, ◌≤◌, ◌≢◌, ℕ, List, length, take, take_all, sym, ap, subst, arith, ◌⊎◌, inl, inr}
use Rattle.base_words.specs.Fields.{Block}
use Rattle.fx_dir.specs.declared.Move.{Move}
use Rattle.plain_cat.specs.declared.cat.Cat.{Cat}
use Rattle.base_words.proofs.Listing.{same_or_not}
use Rattle.vol_parts.specs.declared.geometry.Geometry.{Geometry}
use Rattle.vol_mends.specs.Mends.{Mends}
use Rattle.vol_spell.specs.Entries.{after_moves}
use Rattle.vol_mends.specs.Told.{IsTold, IsSingle, KeepsSingles}
use Rattle.vol_mends.specs.Moving.{MovesLead, MovesMend}
use Rattle.vol_mends.proofs.Basics.{lower_or}

module _ (g : Geometry) (bs : List Block) (c d : Cat) (n j : ℕ) (ms : List Move) (lead : MovesLead g bs c d n j ms) where
  all_of : after_moves g n (take (length ms) ms) bs ≡ after_moves g n ms bs
  all_of = ap (λ (ns : List Move). after_moves g n ns bs) (take_all (length ms) ms (omega arith))

  some_mend : (k : ℕ) (z : Cat) → k ≤ length ms → Mends bs z → Mends (after_moves g n (take k ms) bs) z
  some_mend k z le m = by (lower_or k j) where
    by : (k ≤ j) ⊎ (j < k) → Mends (after_moves g n (take k ms) bs) z
    by (inl few) = (lead.before k few).mends z m
    by (inr many) = (lead.behind k many le).mends z m

  -- after each number of the moves the blocks mend to the same
  each_mends : (k : ℕ) (z : Cat) → Mends bs z → Mends (after_moves g n (take k ms) bs) z
  each_mends k z m = by (lower_or k (length ms)) where
    by : (k ≤ length ms) ⊎ (length ms < k) → Mends (after_moves g n (take k ms) bs) z
    by (inl le) = some_mend k z le m
    by (inr lt) =
        let over : after_moves g n (take k ms) bs ≡ after_moves g n ms bs = ap (λ (ns : List Move). after_moves g n ns bs) (take_all k ms (omega (arith, lt))) in
        subst (λ (ys : List Block). Mends ys z) (all_of ∙ sym over) (some_mend (length ms) z (omega arith) m)

  -- after all of them no directory has got entries that stand in two blocks
  moves_keep : KeepsSingles g bs (after_moves g n ms bs)
  moves_keep i is single = by (same_or_not i n) where
    by : (i ≡ n) ⊎ (i ≢ n) → IsSingle g (after_moves g n ms bs) i
    by (inl same) = subst (λ (k : ℕ). IsSingle g (after_moves g n ms bs) k) (sym same) lead.packed
    by (inr other) = subst (λ (ys : List Block). IsSingle g ys i) all_of (lead.singles (length ms) i (omega arith) is other single)

  -- and they tell the other catalogue, where one decides
  moves_end : j < length ms → IsTold g (after_moves g n ms bs) d
  moves_end lt = subst (λ (ys : List Block). IsTold g ys d) all_of (lead.behind (length ms) lt (omega arith)).told

  -- or the same, where none does
  moves_stay : length ms ≤ j → IsTold g (after_moves g n ms bs) c
  moves_stay le = subst (λ (ys : List Block). IsTold g ys c) all_of (lead.before (length ms) le).told

pub moves_mend : MovesMend
moves_mend = record {
  each = λ g bs c d n j ms k z lead m. each_mends g bs c d n j ms lead k z m;
  singles = λ g bs c d n j ms lead. moves_keep g bs c d n j ms lead;
  other = λ g bs c d n j ms lead lt. moves_end g bs c d n j ms lead lt;
  same = λ g bs c d n j ms lead le. moves_stay g bs c d n j ms lead le;
}
