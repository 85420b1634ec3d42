-- Things that go from one owner to another.
use Rattle.std.proofs.Common.{◌≡◌, ◌≢◌, ◌<◌, ◌⊎◌, ℕ, List, [], ◌∷◌, ◌++◌, Option, Some, length, slice_get, slice_set, refl, sym, subst, ◌∙◌, inl, inr, arith, length-set, append_assoc}
use Rattle.std.proofs.lemmas.Option.{slice_get_within}
use Rattle.vol_spell.specs.declared.owner.Owner.{Owner}
use Rattle.vol_spell.specs.declared.owner.Owner.TheVariants.{Free, InFile, Outside, Leaked}
use Rattle.base_words.specs.Lists.{Has, Once, Parts}
use Rattle.vol_spell.specs.Owners.{Moves, AreOut}
use Rattle.vol_spell.specs.Hands.{handed, AreOf, AreHanded}
use Rattle.vol_spell.specs.OwnerLaws.{HandsOver, HandingMoves, OutSwaps, OutRegroups, OutsideToFile, FileToOutside, OutsideToFree, FreeToStock, OutsideToLeaked}
use Rattle.base_words.proofs.Listing.{has_or_not, has_parted, has_first, has_second, once_in_a_row, once_first, once_second, once_apart}
use Rattle.base_words.proofs.ListWrites.{get-set_else, get-set_here}

pub length-handed : (qs : List ℕ) (o : Owner) (xs : List Owner) → length (handed qs o xs) ≡ length xs
length-handed [] o xs = refl
length-handed (q ∷ qs) o xs = length-handed qs o (slice_set xs q o) ∙ length-set xs q o

pub get-handed_else : (qs : List ℕ) (o : Owner) (xs : List Owner) (q : ℕ) → (Has qs q → ⊥) → slice_get (handed qs o xs) q ≡ slice_get xs q
get-handed_else [] o xs q away = refl
get-handed_else (x ∷ qs) o xs q away = get-handed_else qs o (slice_set xs x o) q (λ t. away (inr t)) ∙ get-set_else xs x q o (λ e. away (inl e))

pub get-handed_here : (qs : List ℕ) (o : Owner) (xs : List Owner) (q : ℕ) → Has qs q → q < length xs → slice_get (handed qs o xs) q ≡ Some o
get-handed_here [] o xs q t lt = absurd t
get-handed_here (x ∷ qs) o xs q t lt = elim (has_or_not qs q) [
  | inl u ↦ get-handed_here qs o (slice_set xs x o) q u (let e = length-set xs x o in omega arith)
  | inr f ↦ elim t [
    | inl e ↦ get-handed_else qs o (slice_set xs x o) q f ∙ subst (λ (k : ℕ). slice_get (slice_set xs x o) k ≡ Some o) e (get-set_here xs x o (let h = lt in omega arith))
    | inr u ↦ absurd (f u)
  ]
]

module _ (qs : List ℕ) (a o : Owner) (xs : List Owner) (at : AreOf qs a xs) where
  pub handed_here : (q : ℕ) → Has qs q → slice_get (handed qs o xs) q ≡ Some o
  handed_here q t = get-handed_here qs o xs q t (slice_get_within xs q a (at q t))

  pub handed_moves : (P : Option Owner → Type 0) → P (Some a) → P (Some o) → Moves P xs (handed qs o xs)
  handed_moves P pa po = record {
    count = length-handed qs o xs;
    each = λ q. elim (has_or_not qs q) [ inr f ↦ inl (get-handed_else qs o xs q f) | inl t ↦ inr (subst P (sym (at q t)) pa, subst P (sym (handed_here q t)) po) ];
  }

  pub are_handed : o ≢ a → AreHanded qs a o xs (handed qs o xs)
  are_handed ne = record {
    to = λ q. (
      (λ e. elim (has_or_not qs q) [ inl t ↦ inl t | inr f ↦ inr (sym (get-handed_else qs o xs q f) ∙ e) ]),
      (λ t. elim (has_or_not qs q) [ inl u ↦ handed_here q u | inr f ↦ elim t [ inl u ↦ absurd (f u) | inr e ↦ get-handed_else qs o xs q f ∙ e ] ]),
    );
    from = λ q. (
      (λ e. elim (has_or_not qs q) [ inl t ↦ absurd (ne (same o a (sym (handed_here q t) ∙ e))) | inr f ↦ (sym (get-handed_else qs o xs q f) ∙ e, f) ]),
      (λ p. get-handed_else qs o xs q p.1 ∙ p.0),
    );
    others = λ b q not_a not_o. elim (has_or_not qs q) [
      | inl t ↦ ((λ e. absurd (not_o (same b o (sym e ∙ handed_here q t)))), (λ e. absurd (not_a (same b a (sym e ∙ at q t)))))
      | inr f ↦ ((λ e. sym (get-handed_else qs o xs q f) ∙ e), (λ e. get-handed_else qs o xs q f ∙ e))
    ];
  } where
    same : (x y : Owner) → Some x ≡ Some y → x ≡ y
    same x y e = cc

pub hands_over : HandsOver
hands_over qs a o xs ne at = are_handed qs a o xs at ne

pub handing_moves : (P : Option Owner → Type 0) → HandingMoves P
handing_moves P qs a o xs pa po at = handed_moves qs a o xs at P pa po

pub out_swaps : OutSwaps
out_swaps n xs took stock out = record {
  all = λ q. ((λ e. elim ((out.all q).0 e) [ inl t ↦ inr t | inr t ↦ inl t ]), (λ t. (out.all q).1 (elim t [ inl u ↦ inr u | inr u ↦ inl u ])));
  once = once_in_a_row stock took (once_second took stock out.once) (once_first took stock out.once) (λ q t u. once_apart took stock out.once q u t);
}

pub out_regroups : OutRegroups
out_regroups n xs took some stock = (there, back) where
  there : AreOut n xs took (some ++ stock) → AreOut n xs (took ++ some) stock
  there out = record {
    all = λ q. (
      (λ e. elim ((out.all q).0 e) [ inl t ↦ inl (has_first took some q t) | inr t ↦ elim (has_parted some stock q t) [ inl u ↦ inl (has_second took some q u) | inr u ↦ inr u ] ]),
      (λ t. (out.all q).1 (elim t [ inl u ↦ elim (has_parted took some q u) [ inl v ↦ inl v | inr v ↦ inr (has_first some stock q v) ] | inr u ↦ inr (has_second some stock q u) ])),
    );
    once = let P : List ℕ → Type 0 = λ l. Once l in subst P (sym (append_assoc took some stock)) out.once;
  }

  back : AreOut n xs (took ++ some) stock → AreOut n xs took (some ++ stock)
  back out = record {
    all = λ q. (
      (λ e. elim ((out.all q).0 e) [ inl t ↦ elim (has_parted took some q t) [ inl u ↦ inl u | inr u ↦ inr (has_first some stock q u) ] | inr t ↦ inr (has_second some stock q t) ]),
      (λ t. (out.all q).1 (elim t [ inl u ↦ inl (has_first took some q u) | inr u ↦ elim (has_parted some stock q u) [ inl v ↦ inl (has_second took some q v) | inr v ↦ inr v ] ])),
    );
    once = let P : List ℕ → Type 0 = λ l. Once l in subst P (append_assoc took some stock) out.once;
  }

-- a part of what a command took goes to an owner elsewhere, and the rest stays outside
pub part_leaves : (n : ℕ) (o : Owner) (qs rest took stock : List ℕ) (xs : List Owner) → o ≢ Outside n → Parts took qs rest → Once rest → AreOut n xs took stock → AreOut n (handed qs o xs) rest stock
part_leaves n o qs rest took stock xs ne parts once out =
    let at : AreOf qs (Outside n) xs = λ q t. (out.all q).1 (inl (parts.part_in q t)) in
    let h = are_handed qs (Outside n) o xs at ne in
    record {
      all = λ q. (
        (λ e. let f = (h.from q).0 e in elim ((out.all q).0 f.0) [ inl t ↦ elim (parts.each q t) [ inl u ↦ absurd (f.1 u) | inr u ↦ inl u ] | inr u ↦ inr u ]),
        (λ t. (h.from q).1 (elim t [ inl u ↦ ((out.all q).1 (inl (parts.rest_in q u)), λ v. parts.apart q v u) | inr u ↦ ((out.all q).1 (inr u), λ v. once_apart took stock out.once q (parts.part_in q v) u) ])),
      );
      once = once_in_a_row rest stock once (once_second took stock out.once) (λ q t u. once_apart took stock out.once q (parts.rest_in q t) u);
    }

-- a whole list is a part of itself
pub whole : (xs : List ℕ) → Parts xs xs []
whole xs = record { each = λ x t. inl t; part_in = λ x t. t; rest_in = λ x t. absurd t; apart = λ x t u. u }

pub outside_to_file : OutsideToFile
outside_to_file n i qs stock xs out = part_leaves n (InFile i) qs [] qs stock xs (λ e. absurd (cc)) (whole qs) tt out

pub outside_to_free : OutsideToFree
outside_to_free n qs rest took stock xs parts once out = part_leaves n Free qs rest took stock xs (λ e. absurd (cc)) parts once out

pub outside_to_leaked : OutsideToLeaked
outside_to_leaked n took stock xs out =
    let whole_stock : AreOut n xs [] (took ++ stock) = (out_regroups n xs [] took stock).1 out in
    part_leaves n Leaked (took ++ stock) [] (took ++ stock) [] xs (λ e. absurd (cc)) (whole (took ++ stock)) tt (out_swaps n xs [] (took ++ stock) whole_stock)

-- things of another owner go outside, and count to what the command took
pub come_out : (n : ℕ) (a : Owner) (qs took stock : List ℕ) (xs : List Owner) → a ≢ Outside n → Once qs → AreOf qs a xs → AreOut n xs took stock → AreOut n (handed qs (Outside n) xs) (took ++ qs) stock
come_out n a qs took stock xs ne single at out =
    let h = are_handed qs a (Outside n) xs at (λ e. ne (sym e)) in
    record {
      all = λ q. (
        (λ e. elim ((h.to q).0 e) [ inl t ↦ inl (has_second took qs q t) | inr f ↦ elim ((out.all q).0 f) [ inl t ↦ inl (has_first took qs q t) | inr u ↦ inr u ] ]),
        (λ t. (h.to q).1 (elim t [ inl u ↦ elim (has_parted took qs q u) [ inl v ↦ inr ((out.all q).1 (inl v)) | inr v ↦ inl v ] | inr u ↦ inr ((out.all q).1 (inr u)) ])),
      );
      once = once_in_a_row (took ++ qs) stock
          (once_in_a_row took qs (once_first took stock out.once) single (λ q t u. not_out q u (inl t)))
          (once_second took stock out.once)
          (λ q t u. elim (has_parted took qs q t) [ inl v ↦ once_apart took stock out.once q v u | inr v ↦ not_out q v (inr u) ]);
    } where
      not_out : (q : ℕ) → Has qs q → Has took q ⊎ Has stock q → ⊥
      not_out q t u = ne (same (sym (at q t) ∙ (out.all q).1 u)) where
        same : Some a ≡ Some (Outside n) → a ≡ Outside n
        same e = cc

pub file_to_outside : FileToOutside
file_to_outside n i qs took stock xs single at out = come_out n (InFile i) qs took stock xs (λ e. absurd (cc)) single at out

pub free_to_stock : FreeToStock
free_to_stock n qs took stock xs single at out =
    out_swaps n (handed qs (Outside n) xs) (stock ++ qs) took (come_out n Free qs stock took xs (λ e. absurd (cc)) single at (out_swaps n xs took stock out))
