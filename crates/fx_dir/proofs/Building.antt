-- Blocks that are built of groups of entries.
use Rattle.std.proofs.Common.{◌≡◌, ◌∙◌, ◌≤◌, Bool, true, false, ℕ, zero, suc, List, [], ◌∷◌, ◌++◌, Option, Some, None, unwrap_or, map, slice_index_or, refl, sym, ap, subst, arith, Ok, if◌then◌else◌}
use Rattle.std.specs.Str.{bytes_eq}
use Rattle.base_words.specs.Packing.{size, filled, unfilled, pack, over}
use Rattle.fx_dir.specs.declared.RawEnt.{RawEnt}
use Rattle.fx_dir.specs.Lists.{Each, In}
use Rattle.fx_dir.specs.Entries.{rises, plain}
use Rattle.fx_dir.specs.Directory.{entries_at, directory, dir_entries}
use Rattle.fx_dir.specs.Writing.{IsInForm, IsRanged, IsUniform, name_of, under, marked, block_of}
use Rattle.fx_dir.proofs.Meeting.{Reads, Sound}
use Rattle.fx_dir.proofs.Order.{bytes_is}
use Rattle.fx_dir.proofs.Cover.{each-left, each-right, rises-left}
use Rattle.fx_dir.proofs.Greedy.{fill-parts, pack-parts, pack-room}
use Rattle.fx_dir.proofs.Mixing.{pack-reads, each-rises}
use Rattle.fx_dir.proofs.Views.{IsView, plain-view, own-view, rises-view, pack-view, over-view, plain-marked}
use Rattle.fx_dir.proofs.Showing.{IsParsed, seen, shows, shows-plain}
use Rattle.fx_dir.proofs.Written.{block-read}

-- a group of entries of which a block can be built
pub record IsWritable (es : List RawEnt) : Type 0 where
  pub sound : Sound es
  pub order : rises es ≡ true
  pub room : size name_of None es ≤ 510

-- what is seen of each is not changed by what a record makes of its entries
pub Keeps : (RawEnt → RawEnt) → List (List RawEnt) → Type 0
Keeps v gs = Each (λ g. map v (marked None g) ≡ map v g) gs

pub keeps-plain : (gs : List (List RawEnt)) → Keeps plain gs
unfolding Keeps
keeps-plain [] = tt
keeps-plain (g ∷ gs) = (plain-marked None g, keeps-plain gs)

uniform-marked : (es : List RawEnt) (f : RawEnt) (g : List RawEnt) → IsUniform es → In es f → Each (λ e. In es e) g → marked (Some f) g ≡ g
uniform-marked es f [] u i n = refl
uniform-marked es f (e ∷ g) u i n = step (bytes_eq f.name e.name) refl (uniform-marked es f g u i n.1) (uniform-marked es e g u n.0 n.1) where
  step : (q : Bool) → q ≡ bytes_eq f.name e.name → marked (Some f) g ≡ g → marked (Some e) g ≡ g → (if q then under f e ∷ marked (Some f) g else e ∷ marked (Some e) g) ≡ e ∷ g
  step true h a b =
      let p = u f e i n.0 (bytes_is f.name e.name (sym h)) in
      let m : under f e ≡ e = λ k. record { name = e.name; ver = e.ver; num = e.num; seq = e.seq; limit = p.0 k; flags = p.1 k } in
      λ k. m k ∷ a k
  step false h a b = λ k. e ∷ b k

pub map-own : {X : Type 0} (xs : List X) → map (λ x. x) xs ≡ xs
map-own [] = refl
map-own (x ∷ xs) = λ i. x ∷ map-own xs i

-- where records of one name agree, nothing is changed
pub keeps-uniform : (es : List RawEnt) (gs : List (List RawEnt)) → IsUniform es → Each (λ g. Each (λ e. In es e) g) gs → Keeps (λ e. e) gs
unfolding Keeps
keeps-uniform es [] u n = tt
keeps-uniform es (g ∷ gs) u n = (map-own (marked None g) ∙ none g n.0 ∙ sym (map-own g), keeps-uniform es gs u n.1) where
  none : (g : List RawEnt) → Each (λ e. In es e) g → marked None g ≡ g
  none [] n = refl
  none (e ∷ g) n = λ i. e ∷ uniform-marked es e g u n.0 n.1 i

pub block-at : (g : List RawEnt) → IsWritable g → entries_at (block_of g) ≡ marked None g
block-at g w = ap (λ (o : Option (List RawEnt)). unwrap_or o []) (block-read g w.sound w.order w.room)

pub block-parsed : (g : List RawEnt) → IsWritable g → IsParsed (block_of g)
unfolding IsParsed
block-parsed g w = block-read g w.sound w.order w.room ∙ ap Some (sym (block-at g w))

pub blocks-parsed : (gs : List (List RawEnt)) → Each IsWritable gs → Each IsParsed (map block_of gs)
blocks-parsed [] w = tt
blocks-parsed (g ∷ gs) w = (block-parsed g w.0, blocks-parsed gs w.1)

pub blocks-seen : (v : RawEnt → RawEnt) (gs : List (List RawEnt)) → Each IsWritable gs → Keeps v gs → map (seen v) (map block_of gs) ≡ map (map v) gs
unfolding Keeps
blocks-seen v [] w k = refl
blocks-seen v (g ∷ gs) w k = let h : seen v (block_of g) ≡ map v g = ap (map v) (block-at g w.0) ∙ k.0 in λ i. h i ∷ blocks-seen v gs w.1 k.1 i

pub none-writable : IsWritable []
none-writable = record { sound = record { form = tt; ranged = tt }; order = refl; room = omega arith }

pub block-seen : (v : RawEnt → RawEnt) (g : List RawEnt) → IsWritable g → Keeps v (g ∷ []) → seen v (block_of g) ≡ map v g
unfolding Keeps
block-seen v g w k = ap (map v) (block-at g w) ∙ k.0

pub index-seen : (v : RawEnt → RawEnt) (gs : List (List RawEnt)) (i : ℕ) → Each IsWritable gs → Keeps v gs → seen v (block_of (slice_index_or gs i [])) ≡ map v (slice_index_or gs i [])
unfolding Keeps
index-seen v [] i w k = ap (map v) (block-at [] none-writable)
index-seen v (g ∷ gs) zero w k = ap (map v) (block-at g w.0) ∙ k.0
index-seen v (g ∷ gs) (suc i) w k = index-seen v gs i w.1 k.1

pub pack-each : (P : RawEnt → Type 0) (k : ℕ) (es : List RawEnt) → Each P es → Each (λ g. Each P g) (pack name_of k es)
pack-each P zero es n = tt
pack-each P (suc k) es n =
    let f = filled name_of None 0 es in
    let u = unfilled name_of None 0 es in
    let m : Each P (f ++ u) = subst (λ (t : List RawEnt). Each P t) (sym (fill-parts None 0 es)) n in
    (each-left P f u m, pack-each P k u (each-right P f u m))

pub writable : (gs : List (List RawEnt)) → Each (λ g. Each IsInForm g) gs → Each (λ g. Each IsRanged g) gs → Each (λ g. rises g ≡ true) gs → Each (λ g. size name_of None g ≤ 510) gs → Each IsWritable gs
writable [] f r o s = tt
writable (g ∷ gs) f r o s = (record { sound = record { form = f.0; ranged = r.0 }; order = o.0; room = s.0 }, writable gs f.1 r.1 o.1 s.1)

pub pack-writable : (k : ℕ) (es : List RawEnt) → rises es ≡ true → Sound es → Each IsWritable (pack name_of k es)
pack-writable k es r s =
    let p = pack-parts k es in
    let o = each-rises (pack name_of k es) (rises-left _ (over name_of k es) (subst (λ (t : List RawEnt). rises t ≡ true) (sym p) r)) in
    writable (pack name_of k es) (pack-each IsInForm k es s.form) (pack-each IsRanged k es s.ranged) o (pack-room k es)

-- what is seen of the packing is the packing of what is seen
pub pack-seen : (v : RawEnt → RawEnt) (view : IsView v) (k : ℕ) (es : List RawEnt) → rises es ≡ true → Sound es → Keeps v (pack name_of k es) → map (seen v) (map block_of (pack name_of k es)) ≡ pack name_of k (map v es)
pack-seen v view k es r s keeps = blocks-seen v (pack name_of k es) (pack-writable k es r s) keeps ∙ sym (pack-view v view k es)

-- the packing reads as what was packed
pub packed-reads : (k : ℕ) (es : List RawEnt) → over name_of k es ≡ [] → rises es ≡ true → Sound es → dir_entries (map block_of (pack name_of k es)) ≡ Ok (map plain es)
packed-reads k es o r s =
    let o2 : over name_of k (map plain es) ≡ [] = over-view plain plain-view k es ∙ ap (map plain) o in
    let r2 : rises (map plain es) ≡ true = rises-view plain plain-view es ∙ r in
    shows-plain (map block_of (pack name_of k es)) (map plain es) (blocks-parsed (pack name_of k es) (pack-writable k es r s))
    (subst (λ (t : List (List RawEnt)). Reads (map plain es) t) (sym (pack-seen plain plain-view k es r s (keeps-plain (pack name_of k es)))) (pack-reads k (map plain es) o2 r2))

-- and as the very entries where records of one name agree
pub packed-keeps : (k : ℕ) (es : List RawEnt) → over name_of k es ≡ [] → rises es ≡ true → Sound es → IsUniform es → directory (map block_of (pack name_of k es)) ≡ Ok es
packed-keeps k es o r s u =
    let reads = pack-reads k es o r in
    let seen_as : map (seen (λ e. e)) (map block_of (pack name_of k es)) ≡ pack name_of k es =
    pack-seen (λ e. e) own-view k es r s (keeps-uniform es (pack name_of k es) u reads.no_clash) ∙ ap (pack name_of k) (map-own es) in
    let shown = shows (λ e. e) own-view (map block_of (pack name_of k es)) es (blocks-parsed (pack name_of k es) (pack-writable k es r s)) (subst (λ (t : List (List RawEnt)). Reads es t) (sym seen_as) reads) in
    shown.1 ∙ ap Ok (sym (map-own shown.0) ∙ shown.2)
