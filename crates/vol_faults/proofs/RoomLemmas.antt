-- Lost files that find no room: the first of them is one, and is there exactly where mending gives up.
use Rattle.std.proofs.Common.{◌≡◌, ◌∙◌, ◌↔◌, ℕ, true, false, List, [], ◌∷◌, ◌++◌, Option, Some, None, refl, sym, ap, subst}
use Rattle.std.specs.Prelude.{option_map, option_and_then}
use Rattle.plain_cat.specs.declared.cat.Cat.{Cat}
use Rattle.plain_rules.specs.Mending.{lost, enter, enter_all, enter_some, with_lost, mended_from, mended, stripped}
use Rattle.vol_parts.specs.Fatal.{HasNoRoom}

-- of these numbers n is the first for which there is no room, from the catalogue a on
pub record StopsAt (ns : List ℕ) (a : Cat) (n : ℕ) : Type 0 where
  pub earlier : List ℕ
  pub later : List ℕ
  pub after : Cat
  pub waiting : ns ≡ earlier ++ n ∷ later
  pub entered : enter_all earlier a ≡ Some after
  pub full : enter after n ≡ None

head-is : (x n : ℕ) (xs ns : List ℕ) → x ∷ xs ≡ n ∷ ns → (x ≡ n) × (xs ≡ ns)
head-is x n xs ns e = (cc, cc)

entered-on : (ns : List ℕ) (o : Option Cat) (b : Cat) → option_and_then (enter_all ns) o ≡ Some b → (a : Cat) × (o ≡ Some a) × (enter_all ns a ≡ Some b)
entered-on ns None b e = absurd (cc)
entered-on ns (Some a) b e = (a, refl, e)

pub same-some : (a b : Cat) → Some a ≡ Some b → a ≡ b
same-some a b e = cc

-- two stops among the same numbers are one
one-stop : (n m : ℕ) (e f g h : List ℕ) (a b d : Cat) → e ++ n ∷ f ≡ g ++ m ∷ h → enter_all e a ≡ Some b → enter b n ≡ None → enter_all g a ≡ Some d → enter d m ≡ None
    → n ≡ m
one-stop n m [] f [] h a b d same eb en gd gm = (head-is n m f h same).0
one-stop n m [] f (y ∷ g) h a b d same eb en gd gm =
    let w = entered-on g (enter a y) d gd in
    let first : n ≡ y = (head-is n y f (g ++ m ∷ h) same).0 in
    let start : a ≡ b = same-some a b eb in
    let none : enter a y ≡ None = subst (λ (x : Cat). enter x y ≡ None) (sym start) (subst (λ (k : ℕ). enter b k ≡ None) first en) in
    absurd (cc)
one-stop n m (x ∷ e) f [] h a b d same eb en gd gm =
    let w = entered-on e (enter a x) b eb in
    let first : x ≡ m = (head-is x m (e ++ n ∷ f) h same).0 in
    let start : a ≡ d = same-some a d gd in
    let none : enter a x ≡ None = subst (λ (z : Cat). enter z x ≡ None) (sym start) (subst (λ (k : ℕ). enter d k ≡ None) (sym first) gm) in
    absurd (cc)
one-stop n m (x ∷ e) f (y ∷ g) h a b d same eb en gd gm =
    let both = head-is x y (e ++ n ∷ f) (g ++ m ∷ h) same in
    let w = entered-on e (enter a x) b eb in
    let u = entered-on g (enter a y) d gd in
    let next : Some u.0 ≡ Some w.0 = sym u.1 ∙ ap (enter a) (sym both.0) ∙ w.1 in
    one-stop n m e f g h w.0 b d both.1 w.2 en (subst (λ (z : Cat). enter_all g z ≡ Some d) (same-some u.0 w.0 next) u.2) gm

pub no-room-once : (c : Cat) (n m : ℕ) → HasNoRoom c n → HasNoRoom c m → n ≡ m
no-room-once c n m p q =
    one-stop n m p.earlier p.later q.earlier q.later (stripped c) p.after q.after (sym p.waiting ∙ q.waiting) p.entered p.full q.entered q.full

-- ---- where one stops, there is no catalogue after all are entered

stop-none : (n : ℕ) (e f : List ℕ) (a b : Cat) → enter_all e a ≡ Some b → enter b n ≡ None → enter_all (e ++ n ∷ f) a ≡ None
stop-none n [] f a b eb en = let start : a ≡ b = same-some a b eb in rw (start, en) refl
stop-none n (x ∷ e) f a b eb en =
    let w = entered-on e (enter a x) b eb in
    rw w.1 (stop-none n e f w.0 b w.2 en)

stop-later : (x n : ℕ) (ns : List ℕ) (a b : Cat) → enter a x ≡ Some b → StopsAt ns b n → StopsAt (x ∷ ns) a n
stop-later x n ns a b e s = record {
  earlier = x ∷ s.earlier;
  later = s.later;
  after = s.after;
  waiting = ap (λ (xs : List ℕ). x ∷ xs) s.waiting;
  entered = rw e s.entered;
  full = s.full;
}

none-stop-at : (x : ℕ) (ns : List ℕ) (a : Cat) (o : Option Cat) → enter a x ≡ o → option_and_then (enter_all ns) o ≡ None
    → ((b : Cat) → enter_all ns b ≡ None → (n : ℕ) × StopsAt ns b n) → (n : ℕ) × StopsAt (x ∷ ns) a n
none-stop-at x ns a None e none rest = (x, record { earlier = []; later = ns; after = a; waiting = refl; entered = refl; full = e })
none-stop-at x ns a (Some b) e none rest = let w = rest b none in (w.0, stop-later x w.0 ns a b e w.1)

none-stop : (ns : List ℕ) (a : Cat) → enter_all ns a ≡ None → (n : ℕ) × StopsAt ns a n
none-stop [] a e = absurd (cc)
none-stop (x ∷ ns) a e = none-stop-at x ns a (enter a x) refl e (none-stop ns)

map-none : (f : Cat → Cat) (o : Option Cat) → option_map f o ≡ None → o ≡ None
map-none f None e = refl
map-none f (Some a) e = absurd (cc)

mended-none : (c a : Cat) (o : Option Cat) → mended_from c a o ≡ None → o ≡ None
mended-none c a None e = refl
mended-none c a (Some b) e = absurd (cc)

room-none : (c : Cat) (n : ℕ) → HasNoRoom c n → mended c ≡ None
unfolding mended
room-none c n h =
    let all : enter_all (lost (stripped c) false) (stripped c) ≡ None = rw h.waiting (stop-none n h.earlier h.later (stripped c) h.after h.entered h.full) in
    rw all refl

none-room : (c : Cat) → mended c ≡ None → (n : ℕ) × HasNoRoom c n
unfolding mended
none-room c e =
    let all = map-none (enter_some (lost (stripped c) true)) (enter_all (lost (stripped c) false) (stripped c)) (mended-none c (stripped c) (with_lost (stripped c)) e) in
    let w = none-stop (lost (stripped c) false) (stripped c) all in
    let s = w.1 in
    (w.0, record { earlier = s.earlier; later = s.later; after = s.after; waiting = s.waiting; entered = s.entered; full = s.full })

pub no-room-exact : (c : Cat) → ((n : ℕ) × HasNoRoom c n) ↔ (mended c ≡ None)
no-room-exact c = (λ w. room-none c w.0 w.1, none-room c)
