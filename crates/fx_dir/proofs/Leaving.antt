-- A removal from blocks that are packed.
use Rattle.std.proofs.Common.{◌≡◌, ◌∙◌, ◌⊎◌, ◌&&◌, Bool, true, false, List, [], ◌∷◌, Result, Ok, Err, IsOk, map, length, unwrap_or, Some, None, inl, inr, refl, sym, ap, subst, eqb, if◌then◌else◌}
use Rattle.base_words.specs.Fields.{Block}
use Rattle.base_words.specs.Packing.{pack, over}
use Rattle.fx_dir.specs.declared.RawEnt.{RawEnt}
use Rattle.fx_dir.specs.declared.DirFault.{DirFault}
use Rattle.fx_dir.specs.declared.Move.{Move}
use Rattle.fx_dir.specs.Lists.{In}
use Rattle.fx_dir.specs.Entries.{same, before, rises, has, plain}
use Rattle.fx_dir.specs.Directory.{directory, dir_entries, plainly}
use Rattle.fx_dir.specs.Moves.{inserted, as_new, packed_as, on_entries, written, insertion, Inserts}
use Rattle.fx_dir.specs.Writing.{IsUniform, name_of, block_of}
use Rattle.fx_dir.specs.Pieces.{has_new_marks}
use Rattle.fx_dir.proofs.Building.{packed-reads, packed-keeps}
use Rattle.fx_dir.proofs.Meeting.{Sound}
use Rattle.fx_dir.proofs.Order.{and_cases, or_cases, or_left, or_right, eqb_eq}
use Rattle.fx_dir.proofs.Views.{has-view, plain-view}

marks-of : (es : List RawEnt) (a : RawEnt) → has_new_marks es ≡ true → In es a → (a.limit ≡ 32767) × (a.flags ≡ 0)
marks-of [] a h i = absurd i
marks-of (x ∷ es) a h (inl e) =
    let p = and_cases (eqb x.limit 32767) (eqb x.flags 0) (and_cases _ (has_new_marks es) h).0 in
    subst (λ (t : RawEnt). (t.limit ≡ 32767) × (t.flags ≡ 0)) e (eqb_eq x.limit 32767 p.0, eqb_eq x.flags 0 p.1)
marks-of (x ∷ es) a h (inr i) = marks-of es a (and_cases (eqb x.limit 32767 && eqb x.flags 0) _ h).1 i

-- the records of one name agree where all have the marks of a new one
pub new-uniform : (es : List RawEnt) → has_new_marks es ≡ true → IsUniform es
new-uniform es h = λ a b i j n. let m = marks-of es a h i in let o = marks-of es b h j in (m.0 ∙ sym o.0, m.1 ∙ sym o.1)

module _ (now : List Block) (es : List RawEnt) (packed : now ≡ map block_of (pack name_of (length now) es)) (fits : over name_of (length now) es ≡ []) (order : rises es ≡ true) (sound : Sound es) where
  -- packed blocks are read as what was packed, where the records of one name agree
  pub read-packed : has_new_marks es ≡ true → directory now ≡ Ok es
  read-packed h = ap directory packed ∙ packed-keeps (length now) es fits order sound (new-uniform es h)

  plain-read : dir_entries now ≡ Ok (map plain es)
  plain-read = ap dir_entries packed ∙ packed-reads (length now) es fits order sound

  -- and else as the same entries but for version limits and flags
  pub read-anyhow : IsOk (directory now)
  read-anyhow = by_result (directory now) plain-read where
    by_result : (r : Result (List RawEnt) DirFault) → plainly r ≡ Ok (map plain es) → IsOk r
    by_result (Ok gs) h = refl
    by_result (Err fault) h = absurd (cc)

  pub still-has : (gs : List RawEnt) (e : RawEnt) → directory now ≡ Ok gs → has es e ≡ true → has gs e ≡ true
  still-has gs e read h =
      let r : Ok (map plain gs) ≡ Ok (map plain es) = sym (ap plainly read) ∙ plain-read in
      let m : map plain gs ≡ map plain es = cc r in
      sym (has-view plain plain-view gs e) ∙ ap (λ t. has t (plain e)) m ∙ has-view plain plain-view es e ∙ h

-- what was there is there with one more
pub has-kept : (e x : RawEnt) (es : List RawEnt) → has es x ≡ true → has (inserted e es) x ≡ true
has-kept e x [] h = absurd (cc)
has-kept e x (y ∷ es) h = by_test (before e y) (or_cases (same x y) (has es x) h) (has-kept e x es) where
  by_test : (t : Bool) → (same x y ≡ true) ⊎ (has es x ≡ true) → (has es x ≡ true → has (inserted e es) x ≡ true) → has (if t then e ∷ y ∷ es else y ∷ inserted e es) x ≡ true
  by_test true k more = or_right (same x e) _ h
  by_test false (inl s) more = or_left (same x y) _ s
  by_test false (inr k) more = or_right (same x y) _ (more k)

module _ (old : List Block) (e : RawEnt) where
  pub entered-none : insertion old e ≡ None → old ≡ written (unwrap_or (insertion old e) []) old
  entered-none h = sym (ap (λ o. written (unwrap_or o []) old) h)

  pub entered-some : (ws : List Move) → Some ws ≡ insertion old e → ws ≡ unwrap_or (insertion old e) []
  entered-some ws h = ap (λ o. unwrap_or o []) h

  -- an insertion leaves the entries packed
  pub entered-packed : (fs : List RawEnt) (ws : List Move) → directory old ≡ Ok fs → Some ws ≡ insertion old e → Inserts old e ws
      → map block_of (pack name_of (length old) (inserted (as_new fs e) fs)) ≡ written (unwrap_or (insertion old e) []) old
  entered-packed fs ws read is law =
      sym (law.whole ∙ ap (λ r. packed_as old (on_entries (λ es. inserted (as_new es e) es) r)) read) ∙ ap (λ t. written t old) (entered-some ws is)
