-- What the reader finds in blocks without a fault.
use Rattle.std.proofs.Common.{◌≡◌, ◌&&◌, ◌||◌, ◌⊎◌, not, Bool, true, false, ℕ, List, [], ◌∷◌, ◌++◌, Option, Some, None, Result, Ok, Err, IsOk, map, length, unwrap_or, refl, sym, ap, subst, ◌∙◌, inl, inr, cond, eqb, if◌then◌else◌}
use Rattle.std.specs.List.{list_any}
use Rattle.std.specs.Str.{bytes_eq}
use Rattle.std.specs.Prelude.{option_and_then}
use Rattle.base_words.specs.Fields.{Block}
use Rattle.fx_dir.specs.declared.RawEnt.{RawEnt}
use Rattle.fx_dir.specs.declared.DirFault.{DirFault}
use Rattle.fx_dir.specs.declared.DirFault.TheVariants.{BadOrder, Clash}
use Rattle.fx_dir.specs.Lists.{Each, In, joined}
use Rattle.fx_dir.specs.Entries.{same, clash, rises, has, fresh, any_clash, plain}
use Rattle.fx_dir.specs.Records.{block_entries, records_in, if_rising}
use Rattle.fx_dir.specs.Directory.{read_on, one_more, and_then, next_vbn, entries_at, all_entries, ReadsSet}
use Rattle.fx_dir.proofs.Meeting.{met}
use Rattle.fx_dir.proofs.Order.{is_true_or, not_both, and_cases, or_cases, bytes_is, eqb_eq}
use Rattle.fx_dir.proofs.Cover.{each-imp, each-append, met-more}

pub in-front : {X : Type 0} (xs ys : List X) (x : X) → In xs x → In (xs ++ ys) x
in-front [] ys x h = absurd h
in-front (a ∷ xs) ys x (inl e) = inl e
in-front (a ∷ xs) ys x (inr h) = inr (in-front xs ys x h)

pub in-back : {X : Type 0} (xs ys : List X) (x : X) → In ys x → In (xs ++ ys) x
in-back [] ys x h = h
in-back (a ∷ xs) ys x h = inr (in-back xs ys x h)

pub in-map : {X Y : Type 0} (f : X → Y) (xs : List X) (x : X) → In xs x → In (map f xs) (f x)
in-map f [] x h = h
in-map f (a ∷ xs) x (inl e) = inl (ap f e)
in-map f (a ∷ xs) x (inr h) = inr (in-map f xs x h)

pub map-join : {X Y : Type 0} (f : X → Y) (xs ys : List X) → map f (xs ++ ys) ≡ map f xs ++ map f ys
map-join f [] ys = refl
map-join f (x ∷ xs) ys = λ i. f x ∷ map-join f xs ys i

pub in-own : {X : Type 0} (xs : List X) → Each (λ x. In xs x) xs
in-own [] = tt
in-own (a ∷ xs) = (inl refl, each-imp (λ x. In xs x) (λ x. In (a ∷ xs) x) xs (λ x h. inr h) (in-own xs))

pub each-from : {X : Type 0} (P : X → Type 0) (xs : List X) → ((x : X) → In xs x → P x) → Each P xs
each-from P [] f = tt
each-from P (x ∷ xs) f = (f x (inl refl), each-from P xs (λ y h. f y (inr h)))

pub each-at : {X : Type 0} (P : X → Type 0) (xs : List X) (x : X) → Each P xs → In xs x → P x
each-at P [] x n h = absurd h
each-at P (a ∷ xs) x n (inl e) = subst P e n.0
each-at P (a ∷ xs) x n (inr h) = each-at P xs x n.1 h

-- what is there has the same plain entry, unless it clashes
plain-same : (e x : RawEnt) → same e x ≡ true → clash e x ≡ false → plain e ≡ plain x
unfolding same clash
plain-same e x s c =
    let p = and_cases _ _ s in
    let q = no_clash (bytes_eq e.name x.name && eqb e.ver x.ver) _ s c in
    let r = and_cases _ _ q in
    let n : e.name ≡ x.name = bytes_is e.name x.name p.0 in
    let v : e.ver ≡ x.ver = eqb_eq e.ver x.ver p.1 in
    let m : e.num ≡ x.num = eqb_eq e.num x.num r.0 in
    let k : e.seq ≡ x.seq = eqb_eq e.seq x.seq r.1 in
    λ i. record { name = n i; ver = v i; num = m i; seq = k i; limit = 0; flags = 0 }
  where
    no_clash : (a b : Bool) → a ≡ true → (a && not b) ≡ false → b ≡ true
    no_clash true true e f = refl
    no_clash true false e f = absurd (let g : true ≡ false = f in cc)
    no_clash false b e f = absurd (let g : false ≡ true = e in cc)

pub neither : (p q : Bool) → (p || q) ≡ false → (p ≡ false) × (q ≡ false)
neither true q e = absurd (let g : true ≡ false = e in cc)
neither false q e = (refl, e)

any-none : (e : RawEnt) (es : List RawEnt) → has es e ≡ true → list_any (clash e) es ≡ false → In (map plain es) (plain e)
any-none e [] h c = absurd (let g : false ≡ true = h in cc)
any-none e (x ∷ es) h c =
    let n = neither (clash e x) (list_any (clash e) es) c in
    elim (or_cases (same e x) (has es e) h) [
      | inl s ↦ inl (sym (plain-same e x s n.0))
      | inr k ↦ inr (any-none e es k n.1)
    ]

clash-none : (d b : List RawEnt) (e : RawEnt) → any_clash d b ≡ false → In b e → list_any (clash e) d ≡ false
clash-none d [] e c i = absurd i
clash-none d (a ∷ b) e c (inl k) = subst (λ (y : RawEnt). list_any (clash y) d ≡ false) k (neither (list_any (clash a) d) (any_clash d b) c).0
clash-none d (a ∷ b) e c (inr k) = clash-none d b e (neither (list_any (clash a) d) (any_clash d b) c).1 k

pub fresh-in : (d b : List RawEnt) (e : RawEnt) → has d e ≡ false → In b e → In (fresh d b) e
fresh-in d [] e h i = i
fresh-in d (a ∷ b) e h i = go (has d a) refl i (fresh-in d b e h) where
  go : (q : Bool) → q ≡ has d a → (a ≡ e) ⊎ In b e → (In b e → In (fresh d b) e) → In (cond (not q) (a ∷ fresh d b) (fresh d b)) e
  go true q (inl k) ih = absurd (not_both (has d e) (subst (λ (y : RawEnt). has d y ≡ true) k (sym q)) h)
  go true q (inr k) ih = ih k
  go false q (inl k) ih = inl k
  go false q (inr k) ih = inr (ih k)

pub in-fresh : (d b : List RawEnt) (e : RawEnt) → In (fresh d b) e → In b e
in-fresh d [] e i = i
in-fresh d (a ∷ b) e i = go (has d a) i (in-fresh d b e) where
  go : (q : Bool) → In (cond (not q) (a ∷ fresh d b) (fresh d b)) e → (In (fresh d b) e → In b e) → (a ≡ e) ⊎ In b e
  go true i ih = inr (ih i)
  go false (inl k) ih = inl k
  go false (inr k) ih = inr (ih k)

-- what the reader has gone through
pub record Went (d : List RawEnt) (bs : List Block) (es : List RawEnt) : Type 0 where
  pub parsed : Each (λ b. block_entries b ≡ Some (entries_at b)) bs
  pub entries : met d (map entries_at bs) ≡ es
  pub order : rises es ≡ true
  pub blocks : Each (λ b. rises b ≡ true) (map entries_at bs)
  pub plainly : Each (λ b. Each (λ e. In (map plain es) (plain e)) b) (map entries_at bs)

pub block-rises : (b : Block) (es : List RawEnt) → block_entries b ≡ Some es → rises es ≡ true
unfolding block_entries
block-rises b es h = go (records_in (length b) b) h where
  go : (o : Option (List RawEnt)) → option_and_then if_rising o ≡ Some es → rises es ≡ true
  go None h = absurd (cc)
  go (Some fs) h = test (rises fs) refl h where
    test : (q : Bool) → q ≡ rises fs → (if q then Some fs else None) ≡ Some es → rises es ≡ true
    test true k h = let e : fs ≡ es = cc in subst (λ (t : List RawEnt). rises t ≡ true) e (sym k)
    test false k h = absurd (cc)

pub went : (vbn : ℕ) (d : List RawEnt) (bs : List Block) (es : List RawEnt) → rises d ≡ true → read_on vbn d bs ≡ Ok es → Went d bs es
went vbn d [] es s h = let e : d ≡ es = cc in record { parsed = tt; entries = e; order = subst (λ (v : List RawEnt). rises v ≡ true) e s; blocks = tt; plainly = tt }
went vbn d (b ∷ bs) es s h = parse (block_entries b) refl h (λ fs. went (next_vbn vbn) (d ++ fresh d fs) bs es) where
  parse : (o : Option (List RawEnt)) → o ≡ block_entries b → and_then (one_more vbn d o) (λ fs. read_on (next_vbn vbn) fs bs) ≡ Ok es
      → ((fs : List RawEnt) → rises (d ++ fresh d fs) ≡ true → read_on (next_vbn vbn) (d ++ fresh d fs) bs ≡ Ok es → Went (d ++ fresh d fs) bs es) → Went d (b ∷ bs) es
  parse None k h ih = absurd (cc)
  parse (Some fs) k h ih = go (rises (d ++ fresh d fs)) (any_clash d fs) refl refl h where
    go : (q r : Bool) → q ≡ rises (d ++ fresh d fs) → r ≡ any_clash d fs
        → and_then (if q then (if r then Err Clash else Ok (d ++ fresh d fs)) else Err BadOrder) (λ fs. read_on (next_vbn vbn) fs bs) ≡ Ok es → Went d (b ∷ bs) es
    go false r hq hr h = absurd (cc)
    go true true hq hr h = absurd (cc)
    go true false hq hr h =
        let w = ih fs (sym hq) h in
        let at : fs ≡ entries_at b = ap (λ o. unwrap_or o []) k in
        let y = met-more (d ++ fresh d fs) (map entries_at bs) in
        let e : es ≡ (d ++ fresh d fs) ++ y.0 = sym w.entries ∙ y.1 in
        let within : (x : RawEnt) → In fs x → In (map plain es) (plain x) = λ x i. subst (λ (v : List RawEnt). In (map plain v) (plain x)) (sym e) (elim (is_true_or (has d x)) [
          | inl t ↦ (let p = any-none x d t (clash-none d fs x (sym hr) i) in rw map-join (in-front (map plain (d ++ fresh d fs)) (map plain y.0) (plain x) (rw map-join (in-front (map plain d) (map plain (fresh d fs)) (plain x) p))))
          | inr t ↦ in-map plain ((d ++ fresh d fs) ++ y.0) x (in-front (d ++ fresh d fs) y.0 x (in-back d (fresh d fs) x (fresh-in d fs x t i)))
        ]) in
        record {
          parsed = (sym k ∙ ap Some at, w.parsed);
          entries = subst (λ (v : List RawEnt). met (d ++ fresh d v) (map entries_at bs) ≡ es) at w.entries;
          order = w.order;
          blocks = (subst (λ (v : List RawEnt). rises v ≡ true) at (block-rises b fs (sym k)), w.blocks);
          plainly = (subst (λ (v : List RawEnt). Each (λ e. In (map plain es) (plain e)) v) at (each-from (λ x. In (map plain es) (plain x)) fs within), w.plainly);
        }

-- each entry met comes from a record
pub met-sound : (d : List RawEnt) (bs : List (List RawEnt)) (all : List RawEnt) → Each (λ e. In all e) d → Each (λ b. Each (λ e. In all e) b) bs → Each (λ e. In all e) (met d bs)
met-sound d [] all n m = n
met-sound d (b ∷ bs) all n m =
    met-sound (d ++ fresh d b) bs all (each-append (λ e. In all e) d (fresh d b) n (each-from (λ e. In all e) (fresh d b) (λ e i. each-at (λ e. In all e) b e m.0 (in-fresh d b e i)))) m.1

pub each-joined : {X : Type 0} (P : X → Type 0) (bs : List (List X)) → Each (λ b. Each P b) bs → Each P (joined bs)
each-joined P [] n = tt
each-joined P (b ∷ bs) n = each-append P b (joined bs) n.0 (each-joined P bs n.1)

pub each-within : {X : Type 0} (bs : List (List X)) → Each (λ b. Each (λ e. In (joined bs) e) b) bs
each-within [] = tt
each-within (b ∷ bs) = (
  each-imp (λ e. In b e) (λ e. In (b ++ joined bs) e) b (λ e h. in-front b (joined bs) e h) (in-own b),
  each-imp (λ c. Each (λ e. In (joined bs) e) c) (λ c. Each (λ e. In (b ++ joined bs) e) c) bs (λ c n. each-imp (λ e. In (joined bs) e) (λ e. In (b ++ joined bs) e) c (λ e h. in-back b (joined bs) e h) n) (each-within bs),
)

pub reads_set : ReadsSet
reads_set bs es h =
    let w = went 1 [] bs es refl h in
    record {
      rising = w.order;
      sound = subst (λ (v : List RawEnt). Each (λ e. In (all_entries bs) e) v) w.entries (met-sound [] (map entries_at bs) (all_entries bs) tt (each-within (map entries_at bs)));
      complete = each-joined (λ e. In (map plain es) (plain e)) (map entries_at bs) w.plainly;
    }

-- ---- a directory without a fault

-- a block that is read is a list of records in order
pub block-is : (vbn : ℕ) (es : List RawEnt) (o : Option (List RawEnt)) → IsOk (one_more vbn es o) → o ≡ Some (unwrap_or o [])
block-is vbn es None h = absurd (cc)
block-is vbn es (Some fs) h = refl

-- what a block adds is the same under each number
pub any-vbn : (vbn : ℕ) (es new : List RawEnt) (o : Option (List RawEnt)) → one_more 0 es o ≡ Ok new → one_more vbn es o ≡ Ok new
any-vbn vbn es new None h = absurd (cc)
any-vbn vbn es new (Some fs) h = h

-- in a directory without a fault each block is read
pub one-sound : (vbn : ℕ) (es : List RawEnt) (o : Option (List RawEnt)) (f : List RawEnt → Result (List RawEnt) DirFault) → IsOk (and_then (one_more vbn es o) f) → IsOk (one_more 0 es o)
one-sound vbn es None f h = absurd (cc)
one-sound vbn es (Some fs) f h = by_result (one_more 0 es (Some fs)) h where
  by_result : (r : Result (List RawEnt) DirFault) → IsOk (and_then r f) → IsOk r
  by_result (Ok gs) h = refl
  by_result (Err fault) h = absurd (cc)
