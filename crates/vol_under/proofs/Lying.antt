-- Writes done that lie over committed blocks.
use Rattle.std.proofs.Common.{◌≡◌, ◌≢◌, ◌⊎◌, ℕ, List, [], ◌∷◌, ◌++◌, length, slice_get, slice_set, refl, sym, ap, subst, ◌∙◌, inl, inr, length-set}
use Rattle.base_words.specs.Fields.{Block}
use Rattle.base_words.specs.Lists.{written, Touches}
use Rattle.base_words.proofs.Listing.{same_or_not}
use Rattle.base_words.proofs.ListWrites.{get-set_else, get-written_else, length-written, written_joined, touches_joined, touched_alike, touches_or_not}
use Rattle.vol_under.specs.Under.{IsOver}

on_list : (a b : List (ℕ × Block)) (l : ℕ) → a ≡ b → Touches a l → Touches b l
on_list a b l e t = subst (λ (ws : List (ℕ × Block)). Touches ws l) e t

-- the same block at one place of two lists
set_same : (bs cs : List Block) (l : ℕ) (b : Block) → length bs ≡ length cs → slice_get (slice_set bs l b) l ≡ slice_get (slice_set cs l b) l
set_same bs cs l b len = touched_alike ((l, b) ∷ []) bs cs l len (inl refl)

-- the writes of the node itself, with one more
self_there : (ws : List (ℕ × Block)) (base drive : List Block) (k : ℕ) (b : Block) → length drive ≡ length base
    → ((l : ℕ) → Touches ws l → slice_get drive l ≡ slice_get (written ws base) l)
    → (l : ℕ) → Touches (ws ++ (k, b) ∷ []) l → slice_get (slice_set drive k b) l ≡ slice_get (written (ws ++ (k, b) ∷ []) base) l
self_there ws base drive k b len old l t =
    let e : written (ws ++ (k, b) ∷ []) base ≡ slice_set (written ws base) k b = written_joined ws ((k, b) ∷ []) base in
    by_place (same_or_not k l) ∙ ap (λ (xs : List Block). slice_get xs l) (sym e) where
      by_place : (k ≡ l) ⊎ (k ≢ l) → slice_get (slice_set drive k b) l ≡ slice_get (slice_set (written ws base) k b) l
      by_place (inl e) = subst (λ (j : ℕ). slice_get (slice_set drive k b) j ≡ slice_get (slice_set (written ws base) k b) j) e (set_same drive (written ws base) k b (len ∙ sym (length-written ws base)))
      by_place (inr ne) =
          let old_t : Touches ws l = elim ((touches_joined ws ((k, b) ∷ []) l).0 t) [ inl u ↦ u | inr u ↦ elim u [ inl e ↦ absurd (ne e) | inr f ↦ absurd f ] ] in
          get-set_else drive k l b ne ∙ old l old_t ∙ sym (get-set_else (written ws base) k l b ne)

-- one more write of node n, to a place where no other has written
pub over_write : (done new : ℕ → List (ℕ × Block)) (base drive : List Block) (n k : ℕ) (b : Block) → IsOver done base drive
    → new n ≡ done n ++ (k, b) ∷ [] → ((m : ℕ) → m ≢ n → new m ≡ done m) → ((m : ℕ) → m ≢ n → Touches (done m) k → ⊥)
    → IsOver new base (slice_set drive k b)
over_write done new base drive n k b over mine others apart =
    record {
      count = length-set drive k b ∙ over.count;
      there = λ m l t. at_node m l t (same_or_not m n);
      elsewhere = λ l never.
          let ne : k ≢ l = λ e. never n (on_list _ _ l (sym mine) ((touches_joined (done n) ((k, b) ∷ []) l).1 (inr (inl e)))) in
          get-set_else drive k l b ne ∙ over.elsewhere l (λ m t. never m (grows m l t (same_or_not m n)));
    } where
      grows : (m l : ℕ) → Touches (done m) l → (m ≡ n) ⊎ (m ≢ n) → Touches (new m) l
      grows m l t (inl e) = subst (λ (j : ℕ). Touches (new j) l) (sym e) (on_list _ _ l (sym mine) ((touches_joined (done n) ((k, b) ∷ []) l).1 (inl (subst (λ (j : ℕ). Touches (done j) l) e t))))
      grows m l t (inr ne) = on_list _ _ l (sym (others m ne)) t

      at_node : (m l : ℕ) → Touches (new m) l → (m ≡ n) ⊎ (m ≢ n) → slice_get (slice_set drive k b) l ≡ slice_get (written (new m) base) l
      at_node m l t (inl e) =
          let P : ℕ → Type 0 = λ j. Touches (new j) l → slice_get (slice_set drive k b) l ≡ slice_get (written (new j) base) l in
          let R : List (ℕ × Block) → Type 0 = λ ws. Touches ws l → slice_get (slice_set drive k b) l ≡ slice_get (written ws base) l in
          subst P (sym e) (subst R (sym mine) (self_there (done n) base drive k b over.count (λ j s. over.there n j s) l)) t
      at_node m l t (inr ne) =
          let t0 : Touches (done m) l = on_list _ _ l (others m ne) t in
          let far : k ≢ l = λ e. apart m ne (subst (λ (j : ℕ). Touches (done m) j) (sym e) t0) in
          get-set_else drive k l b far ∙ over.there m l t0 ∙ ap (λ (ws : List (ℕ × Block)). slice_get (written ws base) l) (sym (others m ne))

-- the writes of node n are committed
pub over_commit : (done new : ℕ → List (ℕ × Block)) (base drive : List Block) (n : ℕ) → IsOver done base drive → new n ≡ [] → ((m : ℕ) → m ≢ n → new m ≡ done m)
    → IsOver new (written (done n) base) drive
over_commit done new base drive n over mine others =
    record {
      count = over.count ∙ sym (length-written (done n) base);
      there = λ m l t. at_node m l t (same_or_not m n);
      elsewhere = λ l never. elim (touches_or_not (done n) l) [
        | inl t ↦ over.there n l t
        | inr f ↦ over.elsewhere l (λ m t. stays m l t never f (same_or_not m n)) ∙ sym (get-written_else (done n) base l f)
      ];
    } where
      at_node : (m l : ℕ) → Touches (new m) l → (m ≡ n) ⊎ (m ≢ n) → slice_get drive l ≡ slice_get (written (new m) (written (done n) base)) l
      at_node m l t (inl e) = absurd (on_list _ _ l mine (subst (λ (j : ℕ). Touches (new j) l) e t))
      at_node m l t (inr ne) =
          let t0 : Touches (done m) l = on_list _ _ l (others m ne) t in
          over.there m l t0 ∙ touched_alike (done m) base (written (done n) base) l (sym (length-written (done n) base)) t0
          ∙ ap (λ (ws : List (ℕ × Block)). slice_get (written ws (written (done n) base)) l) (sym (others m ne))

      stays : (m l : ℕ) → Touches (done m) l → ((j : ℕ) → Touches (new j) l → ⊥) → (Touches (done n) l → ⊥) → (m ≡ n) ⊎ (m ≢ n) → ⊥
      stays m l t never f (inl e) = f (subst (λ (j : ℕ). Touches (done j) l) e t)
      stays m l t never f (inr ne) = never m (on_list _ _ l (sym (others m ne)) t)

-- a write to a place where no node has written is committed at once
pub over_base : (done new : ℕ → List (ℕ × Block)) (base drive : List Block) (k : ℕ) (b : Block) → IsOver done base drive → ((m : ℕ) → new m ≡ done m) → ((m : ℕ) → Touches (done m) k → ⊥)
    → IsOver new (slice_set base k b) (slice_set drive k b)
over_base done new base drive k b over same free =
    record {
      count = length-set drive k b ∙ over.count ∙ sym (length-set base k b);
      there = λ m l t.
          let t0 : Touches (done m) l = on_list _ _ l (same m) t in
          let ne : k ≢ l = λ e. free m (subst (λ (j : ℕ). Touches (done m) j) (sym e) t0) in
          get-set_else drive k l b ne ∙ over.there m l t0 ∙ touched_alike (done m) base (slice_set base k b) l (sym (length-set base k b)) t0
          ∙ ap (λ (ws : List (ℕ × Block)). slice_get (written ws (slice_set base k b)) l) (sym (same m));
      elsewhere = λ l never. by_place l never (same_or_not k l);
    } where
      by_place : (l : ℕ) → ((m : ℕ) → Touches (new m) l → ⊥) → (k ≡ l) ⊎ (k ≢ l) → slice_get (slice_set drive k b) l ≡ slice_get (slice_set base k b) l
      by_place l never (inl e) = subst (λ (j : ℕ). slice_get (slice_set drive k b) j ≡ slice_get (slice_set base k b) j) e (set_same drive base k b over.count)
      by_place l never (inr ne) = get-set_else drive k l b ne ∙ over.elsewhere l (λ m t. never m (on_list _ _ l (sym (same m)) t)) ∙ sym (get-set_else base k l b ne)

-- the same writes done
pub over_same : (done new : ℕ → List (ℕ × Block)) (base drive : List Block) → IsOver done base drive → ((m : ℕ) → new m ≡ done m) → IsOver new base drive
over_same done new base drive over same =
    let e : done ≡ new = λ i m. sym (same m) i in
    subst (λ (d : ℕ → List (ℕ × Block)). IsOver d base drive) e over

-- no writes done
pub over_none : (base : List Block) → IsOver (λ n. []) base base
over_none base = record { count = refl; there = λ n l t. absurd t; elsewhere = λ l never. refl }
