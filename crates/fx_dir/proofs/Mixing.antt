-- Blocks mixed of two directories with the same entries read as these entries.
use Rattle.std.proofs.Common.{◌≡◌, ◌≤◌, true, ℕ, zero, suc, List, [], ◌∷◌, ◌++◌, None, take, drop, length, refl, sym, ap, subst, ◌∙◌, arith, append_assoc, append-nil}
use Rattle.base_words.specs.Packing.{size, pack, over}
use Rattle.fx_dir.specs.declared.RawEnt.{RawEnt}
use Rattle.fx_dir.specs.Lists.{Each, In, joined}
use Rattle.fx_dir.specs.Entries.{rises}
use Rattle.fx_dir.specs.Writing.{name_of}
use Rattle.fx_dir.proofs.Meeting.{met, Reads}
use Rattle.fx_dir.proofs.Cover.{each-append, each-left, each-right, rises-left, rises-right, met-more, append-is_nil, append-nils, ahead}
use Rattle.fx_dir.proofs.Finding.{each-within}
use Rattle.fx_dir.proofs.Greedy.{pack-room, pack-parts, take-pack, ends-after, met-joined, met-append}

halves : {X : Type 0} (j : ℕ) (xs : List X) → take j xs ++ drop j xs ≡ xs
halves zero xs = refl
halves (suc j) [] = refl
halves (suc j) (x ∷ xs) = λ i. x ∷ halves j xs i

pub take-all : {X : Type 0} (j : ℕ) (xs : List X) → length xs ≤ j → take j xs ≡ xs
take-all zero [] h = refl
take-all zero (x ∷ xs) h = absurd (omega arith)
take-all (suc j) [] h = refl
take-all (suc j) (x ∷ xs) h = λ i. x ∷ take-all j xs (omega arith) i

pub each-take : {X : Type 0} (P : X → Type 0) (j : ℕ) (xs : List X) → Each P xs → Each P (take j xs)
each-take P j xs n = each-left P (take j xs) (drop j xs) (subst (λ (v : List _). Each P v) (sym (halves j xs)) n)

pub each-drop : {X : Type 0} (P : X → Type 0) (j : ℕ) (xs : List X) → Each P xs → Each P (drop j xs)
each-drop P j xs n = each-right P (take j xs) (drop j xs) (subst (λ (v : List _). Each P v) (sym (halves j xs)) n)

mixed-entries : (j : ℕ) (es : List RawEnt) (xs ys : List (List RawEnt)) → rises es ≡ true → (v : List RawEnt) → met [] (take j xs) ≡ met [] (take j ys) ++ v → met [] xs ≡ es → met [] ys ≡ es → met [] (take j xs ++ drop j ys) ≡ es
mixed-entries j es xs ys r v e hx hy =
    let d = met [] (take j ys) in
    let mx : met (met [] (take j xs)) (drop j xs) ≡ es = sym (met-append [] (take j xs) (drop j xs)) ∙ ap (met []) (halves j xs) ∙ hx in
    let my : met d (drop j ys) ≡ es = sym (met-append [] (take j ys) (drop j ys)) ∙ ap (met []) (halves j ys) ∙ hy in
    let m = met-more (met [] (take j xs)) (drop j xs) in
    let w = m.0 in
    let e1 : es ≡ (d ++ v) ++ w = sym mx ∙ m.1 ∙ ap (λ (t : List RawEnt). t ++ w) e in
    let e2 : es ≡ d ++ (v ++ w) = e1 ∙ append_assoc d v w in
    let a : met (d ++ v) (drop j ys) ≡ d ++ (v ++ w) = ahead d v w (drop j ys) (subst (λ (t : List RawEnt). rises t ≡ true) e2 r) (my ∙ e2) in
    met-append [] (take j xs) (drop j ys) ∙ ap (λ (t : List RawEnt). met t (drop j ys)) e ∙ a ∙ sym e2

pub mixed : (j : ℕ) (es : List RawEnt) (xs ys : List (List RawEnt)) (v : List RawEnt) → met [] (take j xs) ≡ met [] (take j ys) ++ v → Reads es xs → Reads es ys → Reads es (take j xs ++ drop j ys)
mixed j es xs ys v e hx hy =
    record {
      entries = mixed-entries j es xs ys hx.order v e hx.entries hy.entries;
      order = hx.order;
      blocks = each-append _ (take j xs) (drop j ys) (each-take _ j xs hx.blocks) (each-drop _ j ys hy.blocks);
      no_clash = each-append _ (take j xs) (drop j ys) (each-take _ j xs hx.no_clash) (each-drop _ j ys hy.no_clash);
      room = each-append _ (take j xs) (drop j ys) (each-take _ j xs hx.room) (each-drop _ j ys hy.room);
    }

pub each-rises : (bs : List (List RawEnt)) → rises (joined bs) ≡ true → Each (λ b. rises b ≡ true) bs
each-rises [] r = tt
each-rises (b ∷ bs) r = (rises-left b (joined bs) r, each-rises bs (rises-right b (joined bs) r))

-- a division of entries in order into blocks with room reads as these entries
pub parts-read : (es : List RawEnt) (bs : List (List RawEnt)) → joined bs ≡ es → rises es ≡ true → Each (λ b. size name_of None b ≤ 510) bs → Reads es bs
parts-read es bs e r n =
    let re : rises (joined bs) ≡ true = subst (λ (v : List RawEnt). rises v ≡ true) (sym e) r in
    record {
      entries = met-joined [] bs re ∙ e;
      order = r;
      blocks = each-rises bs re;
      no_clash = subst (λ (v : List RawEnt). Each (λ b. Each (λ e. In v e) b) bs) e (each-within bs);
      room = n;
    }

pub pack-joined : (k : ℕ) (es : List RawEnt) → over name_of k es ≡ [] → joined (pack name_of k es) ≡ es
pack-joined k es o = sym (append-nil (joined (pack name_of k es))) ∙ ap (λ (v : List RawEnt). joined (pack name_of k es) ++ v) (sym o) ∙ pack-parts k es

-- the packing reads as what it packs
pub pack-reads : (k : ℕ) (es : List RawEnt) → over name_of k es ≡ [] → rises es ≡ true → Reads es (pack name_of k es)
pack-reads k es o r = parts-read es (pack name_of k es) (pack-joined k es o) r (pack-room k es)

-- the packing is ahead of each other directory
pub pack-ahead : (j k : ℕ) (es : List RawEnt) (bs : List (List RawEnt)) → j ≤ k → Reads es bs → (v : List RawEnt) × (met [] (take j (pack name_of k es)) ≡ met [] (take j bs) ++ v)
pack-ahead j k es bs h reads =
    let s = ends-after j bs [] [] es reads.entries reads.room in
    let p : joined (pack name_of j es) ++ over name_of j es ≡ es = pack-parts j es in
    let r : rises (joined (pack name_of j es)) ≡ true = rises-left (joined (pack name_of j es)) (over name_of j es) (subst (λ (v : List RawEnt). rises v ≡ true) (sym p) reads.order) in
    (s.0, ap (met []) (take-pack j k es h) ∙ met-joined [] (pack name_of j es) r ∙ s.1)

-- what stood in k blocks packs into k blocks
pub pack-fits : (k : ℕ) (es : List RawEnt) (bs : List (List RawEnt)) → length bs ≤ k → Reads es bs → over name_of k es ≡ []
pack-fits k es bs h reads =
    let s = ends-after k bs [] [] es reads.entries reads.room in
    let e : met [] (take k bs) ≡ es = ap (met []) (take-all k bs h) ∙ reads.entries in
    let p : joined (pack name_of k es) ≡ es ++ s.0 = s.1 ∙ ap (λ (t : List RawEnt). t ++ s.0) e in
    let q : es ≡ es ++ (s.0 ++ over name_of k es) = sym (pack-parts k es) ∙ ap (λ (t : List RawEnt). t ++ over name_of k es) p ∙ append_assoc es s.0 (over name_of k es) in
    (append-nils s.0 (over name_of k es) (append-is_nil es (s.0 ++ over name_of k es) q)).1
