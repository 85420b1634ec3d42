-- The greedy packing looks at the names alone.
use Rattle.std.proofs.Common.{◌≡◌, ◌∙◌, ◌+◌, ℕ, zero, suc, Bool, true, false, cond, List, [], ◌∷◌, Option, Some, None, map, refl, sym, ap}
use Rattle.std.specs.Prelude.{leb, is_some}
use Rattle.base_words.specs.Fields.{Block}
use Rattle.base_words.specs.Packing.{cost, unfilled, over}
use Rattle.fx_dir.specs.declared.RawEnt.{RawEnt}
use Rattle.fx_dir.specs.Writing.{name_of, if_fits}
use Rattle.plain_cat.specs.declared.entries.DirEnt.{DirEnt}
use Rattle.plain_rules.specs.Directories.{is_nil, fits}
use Rattle.vol_parts.specs.Catalogues.{plain_entry}
use Rattle.vol_spell.specs.Packing.{PackingFits}

abbrev plain_name : DirEnt → List ℕ
plain_name e = e.name

unfilled_plain : (last : Option (List ℕ)) (used : ℕ) (es : List RawEnt) → unfilled plain_name last used (map plain_entry es) ≡ map plain_entry (unfilled name_of last used es)
unfilled_plain last used [] = refl
unfilled_plain last used (e ∷ es) = step (leb (used + cost last e.name) 510) _ _ (unfilled_plain (Some e.name) (used + cost last e.name) es) where
  step : (t : Bool) (xs : List DirEnt) (ys : List RawEnt) → xs ≡ map plain_entry ys
      → cond t xs (map plain_entry (e ∷ es)) ≡ map plain_entry (cond t ys (e ∷ es))
  step true xs ys same = same
  step false xs ys same = refl

over_plain : (k : ℕ) (es : List RawEnt) → over plain_name k (map plain_entry es) ≡ map plain_entry (over name_of k es)
over_plain zero es = refl
over_plain (suc k) es = ap (over plain_name k) (unfilled_plain None 0 es) ∙ over_plain k (unfilled name_of None 0 es)

none_left : (left : List RawEnt) (blocks : List Block) → is_some (if_fits left blocks) ≡ is_nil (map plain_entry left)
none_left [] blocks = refl
none_left (e ∷ es) blocks = refl

pub packing_fits : PackingFits
unfolding fits
packing_fits k es = none_left (over name_of k es) _ ∙ ap is_nil (sym (over_plain k es))
