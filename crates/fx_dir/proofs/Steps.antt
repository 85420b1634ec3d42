-- Steps of the loops that write and pack.
use Rattle.std.proofs.Common.{◌≡◌, ◌∙◌, ◌+◌, ◌-◌, ◌≤◌, ◌<◌, ◌++◌, true, ℕ, zero, suc, List, [], ◌∷◌, Option, Some, option_map, slice_get, take, drop, length, get_or, drop-cons, length-drop, length-append, append_assoc, refl, sym, ap, subst, arith, eqb, leb}
use Rattle.std.specs.List.{prefix_len, list_all}
use Rattle.std.proofs.lemmas.List.{take_more}
use Rattle.base_words.specs.Names.{is_character, is_part, is_tail, is_name}
use Rattle.base_words.specs.Packing.{cost, filled, unfilled}
use Rattle.fx_dir.specs.declared.RawEnt.{RawEnt}
use Rattle.fx_dir.specs.Lists.{Each}
use Rattle.fx_dir.specs.Writing.{name_of, last_name}
use Rattle.fx_dir.proofs.Numbers.{leb_yes, leb_says}
use Rattle.fx_dir.proofs.Order.{and_cases}

-- a name has at most 79 characters
pub name-short : (text : List ℕ) → is_name text ≡ true → length text ≤ 79
unfolding is_name is_part
name-short text h =
    let p = and_cases _ _ h in
    let n = prefix_len is_character text in
    let front : n ≤ 39 = leb_says n 39 p.0 in
    let t : length (drop n text) ≤ 40 = back (drop n text) p.1 in
    omega (arith, length-drop n text)
  where
    back : (rest : List ℕ) → is_tail rest ≡ true → length rest ≤ 40
    back [] t = omega arith
    back (c ∷ rest) t =
        let s : length rest ≤ 39 = leb_says (length rest) 39 (and_cases (leb (length rest) 39) (list_all is_character rest) (and_cases (eqb c 46) (is_part rest) t).1).0 in
        omega arith

pub each-get : (P : RawEnt → Type 0) (es : List RawEnt) (i : ℕ) (d : RawEnt) → Each P es → i < length es → P (get_or es i d)
each-get P [] i d n h = absurd (omega arith)
each-get P (e ∷ es) zero d n h = n.0
each-get P (e ∷ es) (suc i) d n h = each-get P es i d n.1 (omega arith)

last-end : (b : List RawEnt) (e : RawEnt) → option_map name_of (slice_get (b ++ e ∷ []) (length b)) ≡ Some e.name
last-end [] e = refl
last-end (x ∷ b) e = last-end b e

pub last-push : (b : List RawEnt) (e : RawEnt) → last_name (b ++ e ∷ []) ≡ Some e.name
last-push b e =
    let n : length (b ++ e ∷ []) - 1 ≡ length b = omega (arith, length-append b (e ∷ [])) in
    subst (λ (n : ℕ). option_map name_of (slice_get (b ++ e ∷ []) n) ≡ Some e.name) (sym n) (last-end b e)

pub drop-here : (es : List RawEnt) (n : ℕ) (e : RawEnt) → n < length es → e ≡ get_or es n e → drop n es ≡ e ∷ drop (n + 1) es
drop-here es n e h k =
    let d : drop n es ≡ get_or es n e ∷ drop (suc n) es = drop-cons es n e h in
    let s : n + 1 ≡ suc n = omega arith in
    subst (λ (m : ℕ). drop n es ≡ e ∷ drop m es) (sym s) (d ∙ λ i. sym k i ∷ drop (suc n) es)

pub last-more : (es : List RawEnt) (n : ℕ) (e : RawEnt) → n < length es → e ≡ get_or es n e → last_name (take (n + 1) es) ≡ Some e.name
last-more es n e h k =
    let t : take (n + 1) es ≡ take n es ++ e ∷ [] = take_more es n e h ∙ λ i. take n es ++ sym k i ∷ [] in
    subst (λ (b : List RawEnt). last_name b ≡ Some e.name) (sym t) (last-push (take n es) e)

pub filled-goes : (last : Option (List ℕ)) (used : ℕ) (e : RawEnt) (es : List RawEnt) → used + cost last e.name ≤ 510 → filled name_of last used (e ∷ es) ≡ e ∷ filled name_of (Some e.name) (used + cost last e.name) es
filled-goes last used e es h = rw (leb_yes (used + cost last e.name) 510 h) refl

pub unfilled-goes : (last : Option (List ℕ)) (used : ℕ) (e : RawEnt) (es : List RawEnt) → used + cost last e.name ≤ 510 → unfilled name_of last used (e ∷ es) ≡ unfilled name_of (Some e.name) (used + cost last e.name) es
unfilled-goes last used e es h = rw (leb_yes (used + cost last e.name) 510 h) refl

regroup : (xs ys : List RawEnt) (e : RawEnt) → xs ++ e ∷ ys ≡ (xs ++ e ∷ []) ++ ys
regroup xs ys e = sym (append_assoc xs (e ∷ []) ys)

-- one entry more in the current block
pub filled-step : (all list more_list : List RawEnt) (used more n : ℕ) (e : RawEnt) (es : List RawEnt) → n < length es → e ≡ get_or es n e → more_list ≡ list ++ e ∷ [] → more ≡ cost (last_name list) e.name → used + more ≤ 510
    → all ≡ list ++ filled name_of (last_name list) used (drop n es) → all ≡ more_list ++ filled name_of (last_name more_list) (used + more) (drop (n + 1) es)
filled-step all list more_list used more n e es h k l m r i =
    let f : filled name_of (last_name list) used (e ∷ drop (n + 1) es) ≡ e ∷ filled name_of (Some e.name) (used + cost (last_name list) e.name) (drop (n + 1) es) = filled-goes (last_name list) used e (drop (n + 1) es) (subst (λ (c : ℕ). used + c ≤ 510) m r) in
    let a : all ≡ (list ++ e ∷ []) ++ filled name_of (Some e.name) (used + cost (last_name list) e.name) (drop (n + 1) es) =
    i ∙ ap (λ (t : List RawEnt). list ++ filled name_of (last_name list) used t) (drop-here es n e h k) ∙ ap (λ (t : List RawEnt). list ++ t) f ∙ regroup list _ e in
    let b : all ≡ (list ++ e ∷ []) ++ filled name_of (last_name (list ++ e ∷ [])) (used + more) (drop (n + 1) es) = rw (m, last-push list e) a in
    subst (λ (t : List RawEnt). all ≡ t ++ filled name_of (last_name t) (used + more) (drop (n + 1) es)) (sym l) b

pub unfilled-step : (all list more_list : List RawEnt) (used more n : ℕ) (e : RawEnt) (es : List RawEnt) → n < length es → e ≡ get_or es n e → more_list ≡ list ++ e ∷ [] → more ≡ cost (last_name list) e.name → used + more ≤ 510
    → all ≡ unfilled name_of (last_name list) used (drop n es) → all ≡ unfilled name_of (last_name more_list) (used + more) (drop (n + 1) es)
unfilled-step all list more_list used more n e es h k l m r i =
    let f : unfilled name_of (last_name list) used (e ∷ drop (n + 1) es) ≡ unfilled name_of (Some e.name) (used + cost (last_name list) e.name) (drop (n + 1) es) = unfilled-goes (last_name list) used e (drop (n + 1) es) (subst (λ (c : ℕ). used + c ≤ 510) m r) in
    let a : all ≡ unfilled name_of (Some e.name) (used + cost (last_name list) e.name) (drop (n + 1) es) =
    i ∙ ap (λ (t : List RawEnt). unfilled name_of (last_name list) used t) (drop-here es n e h k) ∙ f in
    let b : all ≡ unfilled name_of (last_name (list ++ e ∷ [])) (used + more) (drop (n + 1) es) = rw (m, last-push list e) a in
    subst (λ (t : List RawEnt). all ≡ unfilled name_of (last_name t) (used + more) (drop (n + 1) es)) (sym l) b
