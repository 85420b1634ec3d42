use Rattle.std.proofs.Common.{◌≡◌, ◌∙◌, ◌++◌, ◌-◌, Bool, true, false, ℕ, List, take, drop, replicate, refl, sym, ap, subst, take-append-drop}
use Rattle.std.specs.Str.{bytes_eq}
use Rattle.fx_dir.proofs.Order.{bytes_is, bytes_refl}
use Rattle.fx_dir.proofs.RawName.is_same.Goals as goal

-- with the same bytes behind them, two texts are the same if all bytes are, and only then
module _ (n m : ℕ) (a b : List ℕ) (l : n ≡ m) (d : drop n a ≡ drop m b) where
  all-same : bytes_eq (take n a) (take m b) ≡ true → a ≡ b
  all-same e = let t = bytes_is (take n a) (take m b) e in sym (take-append-drop n a) ∙ (λ i. t i ++ d i) ∙ take-append-drop m b

  text-decides : bytes_eq a b ≡ bytes_eq (take n a) (take m b)
  text-decides = by_both (bytes_eq a b) (bytes_eq (take n a) (take m b)) refl refl where
    by_both : (p q : Bool) → bytes_eq a b ≡ p → bytes_eq (take n a) (take m b) ≡ q → p ≡ q
    by_both true true e f = λ i. true
    by_both false false e f = λ i. false
    by_both true false e f =
        let t : take n a ≡ take m b = λ i. take (l i) (bytes_is a b e i) in
        sym (subst (λ x. bytes_eq (take n a) x ≡ true) t (bytes_refl (take n a))) ∙ f
    by_both false true e f = sym e ∙ subst (λ x. bytes_eq a x ≡ true) (all-same f) (bytes_refl a)

-- the bytes behind texts of one length
zeros_behind : (n m : ℕ) (a b : List ℕ) → n ≡ m → drop n a ≡ replicate (79 - n) 0 → drop m b ≡ replicate (79 - m) 0 → drop n a ≡ drop m b
zeros_behind n m a b l za zb = za ∙ ap (λ k. replicate {A = ℕ} (79 - k) 0) l ∙ sym zb

pub returns-then-read_u64 : goal.returns-then-read_u64
returns-then-read_u64 c =
    let a = c.self.inside in
    let b = c.other.inside in
    let zeros = zeros_behind a.len b.len a.bytes b.bytes c.if-self-other.false c.self.invariant.2 c.other.invariant.2 in
    differs (bytes_eq c.args.self.now c.args.other.now) (λ e.
    let bytes : a.bytes ≡ b.bytes = all-same a.len b.len a.bytes b.bytes c.if-self-other.false zeros ((λ i. bytes_eq (c.self.view_is i) (c.other.view_is i)) ∙ e) in
    c.if-read_u64.true (cc (bytes, c.read_u64.ensures, c.read_u64-2.ensures)))
  where
    differs : (t : Bool) → (t ≡ true → ⊥) → false ≡ t
    differs false not_so = λ i. false
    differs true not_so = absurd (not_so (λ i. true))

pub returns : goal.returns
returns c =
    let a = c.self.inside in
    let b = c.other.inside in
    let zeros = zeros_behind a.len b.len a.bytes b.bytes c.if-self-other.false c.self.invariant.2 c.other.invariant.2 in
    c.eq.ensures ∙ text-decides a.len b.len a.bytes b.bytes c.if-self-other.false zeros ∙ λ i. bytes_eq (c.self.view_is i) (c.other.view_is i)
