-- Blocks that read as entries have no fault for the reader.
use Rattle.std.proofs.Common.{◌≡◌, ◌∙◌, ◌&&◌, not, Bool, true, false, ℕ, List, [], ◌∷◌, ◌++◌, Some, Result, Ok, map, refl, sym, ap, subst, inl, inr, eqb}
use Rattle.std.specs.List.{list_any, list_all}
use Rattle.base_words.specs.Fields.{Block}
use Rattle.fx_dir.specs.declared.RawEnt.{RawEnt}
use Rattle.fx_dir.specs.Lists.{Each, In}
use Rattle.fx_dir.specs.Entries.{same, before, clash, rises, fresh, any_clash, plain}
use Rattle.fx_dir.specs.Records.{block_entries}
use Rattle.fx_dir.specs.Directory.{read_on, one_more, and_then, next_vbn, directory, entries_at, plainly, dir_entries}
use Rattle.fx_dir.proofs.Meeting.{met, Reads}
use Rattle.fx_dir.proofs.Order.{not_both, and_cases, eqb_refl, same-self, same-both, before-other}
use Rattle.fx_dir.proofs.Cover.{each-append, met-more, rises-left}
use Rattle.fx_dir.proofs.Order.{no_or as or-false}
use Rattle.fx_dir.proofs.Finding.{each-at, each-from, in-fresh, map-join}
use Rattle.fx_dir.proofs.Views.{IsView, plain-view, same-view, rises-view, fresh-view}

in-all : {X : Type 0} (p : X → Bool) (es : List X) (x : X) → list_all p es ≡ true → In es x → p x ≡ true
in-all p [] x h i = absurd i
in-all p (a ∷ es) x h (inl e) = subst (λ (y : _). p y ≡ true) e (and_cases _ _ h).0
in-all p (a ∷ es) x h (inr i) = in-all p es x (and_cases _ _ h).1 i

same-sym : (a b : RawEnt) → same a b ≡ true → same b a ≡ true
same-sym a b s = same-both a a b (same-self a) s

-- entries in order have a name and version once
unique : (es : List RawEnt) (a b : RawEnt) → rises es ≡ true → In es a → In es b → same a b ≡ true → a ≡ b
unique [] a b r i j s = absurd i
unique (c ∷ es) a b r (inl e) (inl f) s = sym e ∙ f
unique (c ∷ es) a b r (inl e) (inr j) s =
    let l : before c b ≡ true = in-all (before c) es b (and_cases _ _ r).0 j in
    absurd (not_both (same b c) (subst (λ (x : RawEnt). same b x ≡ true) (sym e) (same-sym a b s)) (before-other c b l))
unique (c ∷ es) a b r (inr i) (inl f) s =
    let l : before c a ≡ true = in-all (before c) es a (and_cases _ _ r).0 i in
    absurd (not_both (same a c) (subst (λ (x : RawEnt). same a x ≡ true) (sym f) s) (before-other c a l))
unique (c ∷ es) a b r (inr i) (inr j) s = unique es a b (and_cases _ _ r).1 i j s

-- what is seen of a block
abbrev pub seen : (RawEnt → RawEnt) → Block → List RawEnt
seen v b = map v (entries_at b)

unfoldable pub IsParsed : Block → Type 0
IsParsed b = block_entries b ≡ Some (entries_at b)

module _ (v : RawEnt → RawEnt) (view : IsView v) where
  no-clash : (es : List RawEnt) (e x : RawEnt) → rises es ≡ true → In es (v e) → In es (v x) → clash e x ≡ false
  unfolding clash
  no-clash es e x r i j = step (same e x) refl where
    step : (q : Bool) → q ≡ same e x → (q && not (eqb e.num x.num && eqb e.seq x.seq)) ≡ false
    step false h = refl
    step true h =
        let s : v e ≡ v x = unique es (v e) (v x) r i j (same-view v view e x ∙ sym h) in
        let n : e.num ≡ x.num = sym (view.num e) ∙ ap (λ (y : RawEnt). y.num) s ∙ view.num x in
        let m : e.seq ≡ x.seq = sym (view.seq e) ∙ ap (λ (y : RawEnt). y.seq) s ∙ view.seq x in
        rw (n, m, eqb_refl x.num, eqb_refl x.seq) refl

  no-clashes : (es d : List RawEnt) (e : RawEnt) → rises es ≡ true → In es (v e) → Each (λ x. In es x) (map v d) → list_any (clash e) d ≡ false
  no-clashes es [] e r i n = refl
  no-clashes es (x ∷ d) e r i n = or-false _ _ (no-clash es e x r i n.0) (no-clashes es d e r i n.1)

  no-any : (es d fs : List RawEnt) → rises es ≡ true → Each (λ x. In es x) (map v d) → Each (λ x. In es x) (map v fs) → any_clash d fs ≡ false
  no-any es d [] r n m = refl
  no-any es d (e ∷ fs) r n m = or-false _ _ (no-clashes es d e r m.0 n) (no-any es d fs r n m.1)

  map-each : (P : RawEnt → Type 0) (fs gs : List RawEnt) → ((x : RawEnt) → In gs x → In fs x) → Each P (map v fs) → Each P (map v gs)
  map-each P fs gs f n = back gs (each-from (λ x. P (v x)) gs (λ x i. each-at (λ x. P (v x)) fs x (forth fs n) (f x i))) where
    forth : (fs : List RawEnt) → Each P (map v fs) → Each (λ x. P (v x)) fs
    forth [] n = tt
    forth (e ∷ fs) n = (n.0, forth fs n.1)

    back : (gs : List RawEnt) → Each (λ x. P (v x)) gs → Each P (map v gs)
    back [] n = tt
    back (e ∷ gs) n = (n.0, back gs n.1)

  read-on : (vbn : ℕ) (d : List RawEnt) (bs : List Block) (es : List RawEnt) → Each IsParsed bs → met (map v d) (map (seen v) bs) ≡ es → rises es ≡ true
      → Each (λ x. In es x) (map v d) → Each (λ b. Each (λ x. In es x) b) (map (seen v) bs) → (fs : List RawEnt) × (read_on vbn d bs ≡ Ok fs) × (map v fs ≡ es)
  unfolding IsParsed
  read-on vbn d [] es parsed m r n w = (d, refl, m)
  read-on vbn d (b ∷ bs) es parsed m r n w =
      let fs = entries_at b in
      let x = fresh d fs in
      let e : map v d ++ fresh (map v d) (map v fs) ≡ map v (d ++ x) = ap (λ (t : List RawEnt). map v d ++ t) (fresh-view v view d fs) ∙ sym (map-join v d x) in
      let m2 : met (map v (d ++ x)) (map (seen v) bs) ≡ es = ap (λ (t : List RawEnt). met t (map (seen v) bs)) (sym e) ∙ m in
      let y = met-more (map v (d ++ x)) (map (seen v) bs) in
      let k : es ≡ map v (d ++ x) ++ y.0 = sym m2 ∙ y.1 in
      let r1 : rises (map v (d ++ x)) ≡ true = rises-left (map v (d ++ x)) y.0 (subst (λ (t : List RawEnt). rises t ≡ true) k r) in
      let r2 : rises (d ++ x) ≡ true = sym (rises-view v view (d ++ x)) ∙ r1 in
      let c : any_clash d fs ≡ false = no-any es d fs r n w.0 in
      let n2 : Each (λ x. In es x) (map v (d ++ x)) = subst (λ (t : List RawEnt). Each (λ x. In es x) t) (sym (map-join v d x)) (each-append (λ x. In es x) (map v d) (map v x) n (map-each (λ x. In es x) fs x (λ e i. in-fresh d fs e i) w.0)) in
      let go = read-on (next_vbn vbn) (d ++ x) bs es parsed.1 m2 r n2 w.1 in
      let o : one_more vbn d (block_entries b) ≡ Ok (d ++ x) = ap (one_more vbn d) parsed.0 ∙ rw (r2, c) refl in
      (go.0, ap (λ (t : Result (List RawEnt) _). and_then t (λ fs. read_on (next_vbn vbn) fs bs)) o ∙ go.1, go.2)

  -- the reader gives these entries
  pub shows : (bs : List Block) (es : List RawEnt) → Each IsParsed bs → Reads es (map (seen v) bs) → (fs : List RawEnt) × (directory bs ≡ Ok fs) × (map v fs ≡ es)
  shows bs es parsed reads = read-on 1 [] bs es parsed reads.entries reads.order tt reads.no_clash

pub shows-plain : (bs : List Block) (es : List RawEnt) → Each IsParsed bs → Reads es (map (seen plain) bs) → dir_entries bs ≡ Ok es
shows-plain bs es parsed reads = let s = shows plain plain-view bs es parsed reads in ap plainly s.1 ∙ ap Ok s.2
