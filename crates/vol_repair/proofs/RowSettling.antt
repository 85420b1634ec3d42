-- Quota rows once the first rows of them are settled, one by one; once all are; and once [1,1] has one.
use Rattle.std.proofs.Common.{◌≡◌, ◌≢◌, ◌∙◌, ◌+◌, ◌*◌, ◌≤◌, ◌++◌, ℕ, Bool, true, false, List, [], ◌∷◌, Option, Some, None, length, cond, refl, sym, ap, subst, arith, append-nil, eq-eqb, ne_eqb}
use Rattle.std.specs.Prelude.{◌==◌, flat_map}
use Rattle.std.specs.List.{range_with_len, list_any, filter_map, cons_option}
use Rattle.std.proofs.lemmas.List.{map-append}
use Rattle.base_words.specs.Fields.{Block}
use Rattle.base_words.specs.Lists.{Once}
use Rattle.fx_home.specs.declared.home.Home.{Home}
use Rattle.fx_home.specs.Homes.{IsWithinLimits}
use Rattle.fx_quota.specs.declared.types.Row.{Row}
use Rattle.vol_parts.specs.Volumes.{volume, body, rows_in, active_rows}
use Rattle.vol_parts.specs.Catalogues.{rows_sorted}
use Rattle.vol_parts.proofs.Ranges.{filter_map-more}
use Rattle.vol_init.specs.Layouts.{system_owner}
use Rattle.vol_spell.proofs.Placing.{has_ranged}
use Rattle.vol_spell.proofs.RowBlocks.{rows_numbered}
use Rattle.vol_sound.specs.Begun.{first_rows, system_row, with_system_row, most_rows, begun_rows}
use Rattle.vol_repair.specs.Phases.{IsBeforeRows, IsAfterRows}
use Rattle.vol_repair.specs.Rows.{numbered_row, settled, owner_in, IsRowSet, IsRowSettled, AreRowsSettled, IsSystemPlace}
use Rattle.vol_repair.specs.Touched.{IsRowPlace, IsMadeIn, IsGround}
use Rattle.vol_repair.proofs.RowFirsts.{owners, first_more, first_once, once_rowed}
use Rattle.vol_repair.proofs.RowSystem.{given_same, system_there, IsSystemMade, system_made}
use Rattle.vol_repair.proofs.RowWrites.{body_length, made_none, made_on, row_stays}

-- ---- all rows, by number

-- the active ones of the rows below a number
abbrev pub rows_below : Home → List Block → ℕ → List Row
rows_below home bs n = filter_map (numbered_row home bs) (range_with_len 0 n)

pub active_below : (home : Home) (bs : List Block) (n : ℕ) → length (body (volume home bs) 10) ≡ n → active_rows (volume home bs) ≡ rows_below home bs (16 * n)
unfolding active_rows
active_below home bs n long = rows_numbered (body (volume home bs) 10) ∙ ap (λ k. rows_below home bs (16 * k)) long

owners_more : (rs : List Row) (o : Option Row) → owners (rs ++ cons_option o []) ≡ owners rs ++ owner_in o
owners_more rs None = map-append (λ (r : Row). r.uic) rs []
owners_more rs (Some r) = map-append (λ (r : Row). r.uic) rs (r ∷ [])

-- ---- one by one

-- The rows below a number are settled: of those of each owner the first one is active, and these are their owners. The others are the same.
pub record AreSettledTo (home : Home) (first old now : List Block) (j : ℕ) (seen : List ℕ) : Type 0 where
  pub ground : IsGround home first now
  pub count : length (body (volume home now) 10) ≡ length (body (volume home old) 10)
  pub done : rows_below home now j ≡ first_rows (rows_below home old j)
  pub noted : seen ≡ owners (rows_below home now j)
  pub left : (i : ℕ) → j ≤ i → numbered_row home now i ≡ numbered_row home old i
  pub others : IsMadeIn (IsRowPlace (volume home first)) old now

pub settled_none : (home : Home) (first old : List Block) → IsGround home first old → AreSettledTo home first old old 0 []
settled_none home first old ground = record {
  ground = ground;
  count = refl;
  done = refl;
  noted = refl;
  left = λ i le. refl;
  others = made_none (IsRowPlace (volume home first)) old;
}

pub settled_more : (home : Home) (first old now new : List Block) (j : ℕ) (seen more : List ℕ) → AreSettledTo home first old now j seen → IsRowSettled home first now new j seen more → AreSettledTo home first old new (j + 1) more
settled_more home first old now new j seen more w s = record {
  ground = s.set.ground;
  count = s.set.count ∙ w.count;
  done = below ∙ ap (λ rs. rs ++ cons_option kept []) w.done ∙ ap (λ o. first_rows (rows_below home old j) ++ cons_option o []) kept_is ∙ sym (ap first_rows (filter_map-more (numbered_row home old) j) ∙ first_more (rows_below home old j) (numbered_row home old j));
  noted = s.noted ∙ ap (λ ns. ns ++ owner_in kept) w.noted ∙ sym (ap owners below ∙ owners_more (rows_below home now j) kept);
  left = λ i le. elsewhere i (omega (arith, le)) ∙ w.left i (omega (arith, le));
  others = made_on (IsRowPlace (volume home first)) old now new w.others s.set.others;
} where
  kept : Option Row
  kept = settled seen (numbered_row home now j)

  here : numbered_row home new j ≡ kept
  here = s.set.rows j ∙ ap (λ t. cond t kept (numbered_row home now j)) (eq-eqb j j refl)

  elsewhere : (i : ℕ) → i ≢ j → numbered_row home new i ≡ numbered_row home now i
  elsewhere i ne = s.set.rows i ∙ ap (λ t. cond t kept (numbered_row home now i)) (ne_eqb i j ne)

  below : rows_below home new (j + 1) ≡ rows_below home now j ++ cons_option kept []
  below =
      filter_map-more (numbered_row home new) j ∙ ap (λ o. rows_below home new j ++ cons_option o []) here
      ∙ ap (λ rs. rs ++ cons_option kept [])
      (given_same (numbered_row home now) (numbered_row home new) (range_with_len 0 j) (λ i t. elsewhere i (let lt = (has_ranged 0 j i t).1 in omega (arith, lt))))

  kept_is : kept ≡ settled (owners (first_rows (rows_below home old j))) (numbered_row home old j)
  kept_is = ap (settled seen) (w.left j (omega arith)) ∙ ap (λ ns. settled ns (numbered_row home old j)) (w.noted ∙ ap owners w.done)

-- a row that is not active is settled
pub settled_still : (home : Home) (first now : List Block) (j : ℕ) (seen : List ℕ) → IsGround home first now → numbered_row home now j ≡ None → IsRowSettled home first now now j seen seen
settled_still home first now j seen ground is = record {
  set = row_stays home first now j (settled seen (numbered_row home now j)) ground (is ∙ ap (settled seen) (sym is));
  noted = sym (append-nil seen) ∙ ap (λ o. seen ++ owner_in (settled seen o)) (sym is);
}

-- and so is one that is not any more, since its owner has been seen
pub settled_cleared : (home : Home) (first now new : List Block) (j : ℕ) (seen ns : List ℕ) (r : Row) (found : Bool) → numbered_row home now j ≡ Some r → ns ≡ seen → found ≡ list_any (λ n. n == r.uic) ns → found ≡ true
    → IsRowSet home first now new j None → IsRowSettled home first now new j seen seen
settled_cleared home first now new j seen ns r found is same told holds s =
    let any : list_any (λ n. n == r.uic) seen ≡ true = ap (list_any (λ n. n == r.uic)) (sym same) ∙ sym told ∙ holds in
    let none : None ≡ settled seen (numbered_row home now j) = sym (ap (settled seen) is ∙ ap (λ t. cond t None (Some r)) any) in
    record { set = subst (λ (o : Option Row). IsRowSet home first now new j o) none s; noted = sym (append-nil seen) ∙ ap (λ o. seen ++ owner_in o) none }

-- and the first one of an owner
pub settled_kept : (home : Home) (first now : List Block) (j : ℕ) (seen : List ℕ) (r : Row) → IsGround home first now → numbered_row home now j ≡ Some r → list_any (λ n. n == r.uic) seen ≡ false
    → IsRowSettled home first now now j seen (seen ++ r.uic ∷ [])
settled_kept home first now j seen r ground is any =
    let kept : Some r ≡ settled seen (numbered_row home now j) = sym (ap (settled seen) is ∙ ap (λ t. cond t None (Some r)) any) in
    record { set = row_stays home first now j (settled seen (numbered_row home now j)) ground (is ∙ kept); noted = ap (λ o. seen ++ owner_in o) kept }

-- all of them
pub settled_all : (home : Home) (first old now : List Block) (n j : ℕ) (seen : List ℕ) → length (body (volume home old) 10) ≡ n → j ≡ 16 * n → AreSettledTo home first old now j seen → AreRowsSettled home first old now seen
settled_all home first old now n j seen long end w =
    let is : active_rows (volume home now) ≡ rows_below home now j = active_below home now n (w.count ∙ long) ∙ ap (rows_below home now) (sym end) in
    let was : active_rows (volume home old) ≡ rows_below home old j = active_below home old n long ∙ ap (rows_below home old) (sym end) in
    record {
      ground = w.ground;
      count = w.count;
      rows = is ∙ w.done ∙ ap first_rows (sym was);
      noted = w.noted ∙ ap owners (sym is);
      others = w.others;
    }

-- ---- the whole

module _ (home : Home) (first old mid : List Block) (seen : List ℕ) (within : IsWithinLimits home) (before : IsBeforeRows home first old) (s : AreRowsSettled home first old mid seen) where
  same_rows : active_rows (volume home old) ≡ active_rows (volume home first)
  unfolding active_rows
  same_rows = ap (flat_map rows_in) before.rows

  rows_mid : active_rows (volume home mid) ≡ first_rows (active_rows (volume home first))
  rows_mid = s.rows ∙ ap first_rows same_rows

  most_is : most_rows (volume home first) ≡ 16 * home.cluster
  most_is = ap (λ qs. 16 * length qs) (sym before.rows) ∙ ap (λ k. 16 * k) (body_length home first within old before.ground)

  begun_is : begun_rows (volume home first) ≡ with_system_row (16 * home.cluster) (active_rows (volume home mid))
  unfolding begun_rows
  begun_is = ap (λ k. with_system_row k (first_rows (active_rows (volume home first)))) most_is ∙ ap (with_system_row (16 * home.cluster)) (sym rows_mid)

  once_mid : Once (owners (active_rows (volume home mid)))
  once_mid = subst (λ (rs : List Row). Once (owners rs)) (sym rows_mid) (first_once (active_rows (volume home first)))

  -- [1,1] has a row
  pub after_settled : list_any (λ n. n == system_owner) seen ≡ true → IsAfterRows home first old mid
  after_settled there = record {
    ground = s.ground;
    made = record {
      rows = sym (ap rows_sorted (begun_is ∙ system_there (16 * home.cluster) (active_rows (volume home mid)) (ap (list_any (λ n. n == system_owner)) (sym s.noted) ∙ there)));
      once = λ u. once_rowed u (active_rows (volume home mid)) once_mid;
    };
    others = s.others;
  }

  -- [1,1] gets one
  pub after_set : (new : List Block) (j : ℕ) → list_any (λ n. n == system_owner) seen ≡ false → IsSystemPlace home mid j → IsRowSet home first mid new j (Some system_row) → IsAfterRows home first old new
  after_set new j none at set = record {
    ground = set.ground;
    made = record {
      rows = ap rows_sorted is ∙ made.sorted ∙ ap (λ rs. rows_sorted (with_system_row (16 * home.cluster) rs)) (sym was) ∙ sym (ap rows_sorted begun_is);
      once = λ u. once_rowed u (active_rows (volume home new)) (subst (λ (rs : List Row). Once (owners rs)) (sym is) made.once);
    };
    others = made_on (IsRowPlace (volume home first)) old mid new s.others set.others;
  } where
    long : length (body (volume home mid) 10) ≡ home.cluster
    long = body_length home first within mid s.ground

    was : active_rows (volume home mid) ≡ rows_below home mid (16 * home.cluster)
    was = active_below home mid home.cluster long

    is : active_rows (volume home new) ≡ rows_below home new (16 * home.cluster)
    is = active_below home new home.cluster (set.count ∙ long)

    made : IsSystemMade (16 * home.cluster) (rows_below home mid (16 * home.cluster)) (rows_below home new (16 * home.cluster))
    made = system_made (numbered_row home mid) (numbered_row home new) (16 * home.cluster) j at.inside set.rows
        (ap (λ rs. list_any (λ n. n == system_owner) (owners rs)) (sym was) ∙ ap (list_any (λ n. n == system_owner)) (sym s.noted) ∙ none)
        (subst (λ (rs : List Row). Once (owners rs)) was once_mid) at.free
