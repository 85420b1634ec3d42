-- Changes of lists of entries, seen through a view; the limit and the flags of a new entry.
use Rattle.std.proofs.Common.{◌≡◌, ◌∙◌, ◌<◌, ◌⊎◌, not, Bool, true, false, ℕ, zero, suc, List, [], ◌∷◌, None, map, slice_set, slice_index_or, refl, sym, ap, subst, inl, inr, cond, arith, lit<, if◌then◌else◌}
use Rattle.std.specs.Str.{bytes_eq}
use Rattle.fx_dir.specs.declared.RawEnt.{RawEnt}
use Rattle.fx_dir.specs.Lists.{Each, In}
use Rattle.fx_dir.specs.Entries.{same, before, has, without, plain}
use Rattle.fx_dir.specs.Writing.{IsInForm, IsRanged, IsUniform}
use Rattle.fx_dir.specs.Moves.{inserted, as_new}
use Rattle.fx_dir.proofs.Order.{bytes_is, bytes_refl, not_both}
use Rattle.fx_dir.proofs.Greedy.{size-filter}
use Rattle.fx_dir.proofs.Views.{IsView, plain-view, same-view, before-view, has-view}
use Rattle.fx_dir.proofs.Building.{IsWritable}
use Rattle.fx_dir.proofs.Groups.{rises-filter}

module _ (v : RawEnt → RawEnt) (view : IsView v) where
  pub inserted-view : (e : RawEnt) (es : List RawEnt) → map v (inserted e es) ≡ inserted (v e) (map v es)
  inserted-view e [] = refl
  inserted-view e (x ∷ es) = rw (before-view v view e x) (step (before e x) (inserted-view e es)) where
    step : (q : Bool) → map v (inserted e es) ≡ inserted (v e) (map v es) → map v (if q then e ∷ x ∷ es else x ∷ inserted e es) ≡ (if q then v e ∷ v x ∷ map v es else v x ∷ inserted (v e) (map v es))
    step true ih = refl
    step false ih = λ i. v x ∷ ih i

  pub without-view : (e : RawEnt) (es : List RawEnt) → map v (without e es) ≡ without (v e) (map v es)
  without-view e [] = refl
  without-view e (x ∷ es) = rw (same-view v view e x) (step (same e x) (without-view e es)) where
    step : (q : Bool) → map v (without e es) ≡ without (v e) (map v es) → map v (cond (not q) (x ∷ without e es) (without e es)) ≡ cond (not q) (v x ∷ without (v e) (map v es)) (without (v e) (map v es))
    step true ih = ih
    step false ih = λ i. v x ∷ ih i

  pub withouts-view : (e : RawEnt) (gs : List (List RawEnt)) → map (map v) (map (without e) gs) ≡ map (without (v e)) (map (map v) gs)
  withouts-view e [] = refl
  withouts-view e (g ∷ gs) = λ i. without-view e g i ∷ withouts-view e gs i

pub map-set_at : {A B : Type 0} (f : A → B) (xs : List A) (j : ℕ) (x : A) → slice_set (map f xs) j (f x) ≡ map f (slice_set xs j x)
map-set_at f [] j x = refl
map-set_at f (y ∷ xs) zero x = refl
map-set_at f (y ∷ xs) (suc j) x = λ i. f y ∷ map-set_at f xs j x i

pub each-index : {X : Type 0} (P : X → Type 0) (xs : List X) (i : ℕ) (d : X) → P d → Each P xs → P (slice_index_or xs i d)
each-index P [] i d p n = p
each-index P (x ∷ xs) zero d p n = n.0
each-index P (x ∷ xs) (suc i) d p n = each-index P xs i d p n.1

pub in-inserted : (e : RawEnt) (es : List RawEnt) (x : RawEnt) → In es x → In (inserted e es) x
in-inserted e [] x h = absurd h
in-inserted e (y ∷ es) x h = elim (before e y) as (λ q. In (if q then e ∷ y ∷ es else y ∷ inserted e es) x) [
  | true ↦ inr h
  | false ↦ elim h [ inl k ↦ inl k | inr k ↦ inr (in-inserted e es x k) ]
]

pub inserted-in : (e : RawEnt) (es : List RawEnt) (x : RawEnt) → In (inserted e es) x → (e ≡ x) ⊎ In es x
inserted-in e [] x h = h
inserted-in e (y ∷ es) x h = go (before e y) h (inserted-in e es x) where
  go : (q : Bool) → In (if q then e ∷ y ∷ es else y ∷ inserted e es) x → (In (inserted e es) x → (e ≡ x) ⊎ In es x) → (e ≡ x) ⊎ ((y ≡ x) ⊎ In es x)
  go true h ih = h
  go false (inl k) ih = inr (inl k)
  go false (inr k) ih = elim (ih k) [ inl m ↦ inl m | inr m ↦ inr (inr m) ]

pub without-in : (e : RawEnt) (es : List RawEnt) (x : RawEnt) → In (without e es) x → In es x
without-in e [] x h = h
without-in e (y ∷ es) x h = go (without-in e es x) (same e y) h where
  go : (In (without e es) x → In es x) → (q : Bool) → In (cond (not q) (y ∷ without e es) (without e es)) x → (y ≡ x) ⊎ In es x
  go ih true k = inr (ih k)
  go ih false (inl k) = inl k
  go ih false (inr k) = inr (ih k)

pub inserted-each : (P : RawEnt → Type 0) (e : RawEnt) (es : List RawEnt) → P e → Each P es → Each P (inserted e es)
inserted-each P e [] p n = (p, tt)
inserted-each P e (x ∷ es) p n = elim (before e x) as (λ q. Each P (if q then e ∷ x ∷ es else x ∷ inserted e es)) [
  | true ↦ (p, n)
  | false ↦ (n.0, inserted-each P e es p n.1)
]

pub inserted-back : (P : RawEnt → Type 0) (e : RawEnt) (es : List RawEnt) → Each P (inserted e es) → Each P es
inserted-back P e [] n = tt
inserted-back P e (x ∷ es) n = go (before e x) n (inserted-back P e es) where
  go : (q : Bool) → Each P (if q then e ∷ x ∷ es else x ∷ inserted e es) → (Each P (inserted e es) → Each P es) → P x × Each P es
  go true n ih = n.1
  go false n ih = (n.0, ih n.1)

pub without-each : (P : RawEnt → Type 0) (e : RawEnt) (es : List RawEnt) → Each P es → Each P (without e es)
without-each P e [] n = tt
without-each P e (x ∷ es) n = elim (not (same e x)) as (λ q. Each P (cond q (x ∷ without e es) (without e es))) [
  | true ↦ (n.0, without-each P e es n.1)
  | false ↦ without-each P e es n.1
]

pub withouts-each : (P : RawEnt → Type 0) (e : RawEnt) (gs : List (List RawEnt)) → Each (λ g. Each P g) gs → Each (λ g. Each P g) (map (without e) gs)
withouts-each P e [] n = tt
withouts-each P e (g ∷ gs) n = (without-each P e g n.0, withouts-each P e gs n.1)

pub without-writable : (e : RawEnt) (g : List RawEnt) → IsWritable g → IsWritable (without e g)
without-writable e g w = record {
  sound = record { form = without-each IsInForm e g w.sound.form; ranged = without-each IsRanged e g w.sound.ranged };
  order = rises-filter _ g w.order;
  room = (let h = size-filter (λ x. not (same e x)) None g in let r = w.room in omega arith);
}

pub withouts-writable : (e : RawEnt) (gs : List (List RawEnt)) → Each IsWritable gs → Each IsWritable (map (without e) gs)
withouts-writable e [] w = tt
withouts-writable e (g ∷ gs) w = (without-writable e g w.0, withouts-writable e gs w.1)

-- ---- the limit and the flags of a new entry

pub plain-as_new : (es : List RawEnt) (e : RawEnt) → plain (as_new es e) ≡ plain e
plain-as_new [] e = refl
plain-as_new (x ∷ es) e = step (bytes_eq x.name e.name) (plain-as_new es e) where
  step : (q : Bool) → plain (as_new es e) ≡ plain e → plain (if q then record e { limit = x.limit; flags = x.flags } else as_new es e) ≡ plain e
  step true ih = refl
  step false ih = ih

pub as_new-form : (es : List RawEnt) (e : RawEnt) → IsInForm e → IsInForm (as_new es e)
as_new-form es e f =
    let p = plain-as_new es e in
    let n : (as_new es e).name ≡ e.name = ap (λ (x : RawEnt). x.name) p in
    let r : (as_new es e).ver ≡ e.ver = ap (λ (x : RawEnt). x.ver) p in
    let m : (as_new es e).num ≡ e.num = ap (λ (x : RawEnt). x.num) p in
    record { named = rw n f.named; from_one = rw r f.from_one; to_last = rw r f.to_last; numbered = rw m f.numbered }

pub as_new-ranged : (es : List RawEnt) (e : RawEnt) → e.seq < 65536 → Each IsRanged es → IsRanged (as_new es e)
as_new-ranged [] e s n = record { seq = s; limit = lit< tt; flags = lit< tt }
as_new-ranged (x ∷ es) e s n = step (bytes_eq x.name e.name) (as_new-ranged es e s n.1) where
  step : (q : Bool) → IsRanged (as_new es e) → IsRanged (if q then record e { limit = x.limit; flags = x.flags } else as_new es e)
  step true ih = record { seq = s; limit = n.0.limit; flags = n.0.flags }
  step false ih = ih

pub has-as_new : (es fs : List RawEnt) (e : RawEnt) → has es (as_new fs e) ≡ has es e
has-as_new es fs e =
    sym (has-view plain plain-view es (as_new fs e)) ∙ ap (has (map plain es)) (plain-as_new fs e) ∙ has-view plain plain-view es e

as_new-agrees : (es : List RawEnt) (e b : RawEnt) → IsUniform es → In es b → e.name ≡ b.name → ((as_new es e).limit ≡ b.limit) × ((as_new es e).flags ≡ b.flags)
as_new-agrees [] e b u i n = absurd i
as_new-agrees (x ∷ es) e b u i n = step (bytes_eq x.name e.name) refl i (λ j. as_new-agrees es e b (λ a c k l m. u a c (inr k) (inr l) m) j n) where
  step : (q : Bool) → q ≡ bytes_eq x.name e.name → (x ≡ b) ⊎ In es b → (In es b → ((as_new es e).limit ≡ b.limit) × ((as_new es e).flags ≡ b.flags))
      → ((if q then record e { limit = x.limit; flags = x.flags } else as_new es e).limit ≡ b.limit) × ((if q then record e { limit = x.limit; flags = x.flags } else as_new es e).flags ≡ b.flags)
  step true h j ih = u x b (inl refl) j (bytes_is x.name e.name (sym h) ∙ n)
  step false h (inl k) ih =
      let m : x.name ≡ e.name = ap (λ (y : RawEnt). y.name) k ∙ sym n in
      absurd (not_both (bytes_eq x.name e.name) (subst (λ (t : List ℕ). bytes_eq x.name t ≡ true) m (bytes_refl x.name)) (sym h))
  step false h (inr k) ih = ih k

-- the new entry has the limit and the flags of its name
pub as_new-uniform : (es : List RawEnt) (e : RawEnt) → IsUniform es → IsUniform (inserted (as_new es e) es)
as_new-uniform es e u = λ a b i j n. go a b (inserted-in (as_new es e) es a i) (inserted-in (as_new es e) es b j) n where
  name : (as_new es e).name ≡ e.name
  name = ap (λ (x : RawEnt). x.name) (plain-as_new es e)

  go : (a b : RawEnt) → (as_new es e ≡ a) ⊎ In es a → (as_new es e ≡ b) ⊎ In es b → a.name ≡ b.name → (a.limit ≡ b.limit) × (a.flags ≡ b.flags)
  go a b (inl k) (inl l) n = let m : a ≡ b = sym k ∙ l in (ap (λ (x : RawEnt). x.limit) m, ap (λ (x : RawEnt). x.flags) m)
  go a b (inl k) (inr j) n =
      let p = as_new-agrees es e b u j (sym name ∙ ap (λ (x : RawEnt). x.name) k ∙ n) in
      (ap (λ (x : RawEnt). x.limit) (sym k) ∙ p.0, ap (λ (x : RawEnt). x.flags) (sym k) ∙ p.1)
  go a b (inr i) (inl l) n =
      let p = as_new-agrees es e a u i (sym name ∙ ap (λ (x : RawEnt). x.name) l ∙ sym n) in
      (sym p.0 ∙ ap (λ (x : RawEnt). x.limit) l, sym p.1 ∙ ap (λ (x : RawEnt). x.flags) l)
  go a b (inr i) (inr j) n = u a b i j n
