use Rattle.std.proofs.Common.{◌≡◌, ◌+◌, ◌*◌, ◌≤◌, ◌<◌, ◌++◌, ◌∙◌, ℕ, zero, suc, take, Bool, true, false, cond, List, [], ◌∷◌, Option, Some, None, length, map, get_or, refl, sym, ap, subst, arith}
use Rattle.std.specs.Prelude.{All, option_map, option_and_then, unwrap_or}
use Rattle.std.specs.List.{sum_by}
use Rattle.std.proofs.lemmas.List.Elements.{All-map, All-cons}
use Rattle.std.proofs.lemmas.List.Sums.{sum_by-cons}
use Rattle.plain_cat.specs.declared.ids.Uic.{Uic}
use Rattle.plain_cat.specs.declared.history.Mended.{Mended}
use Rattle.plain_cat.specs.declared.cat.Cat.{Cat}
use Rattle.plain_cat.specs.declared.cat.File.{File}
use Rattle.plain_cat.specs.declared.cat.Slot.{Slot}
use Rattle.plain_cat.specs.declared.cat.Slot.TheVariants.{Used, Free}
use Rattle.plain_cat.specs.declared.cat.QuotaRow.{QuotaRow}
use Rattle.plain_rules.specs.Lookups.{file_at, clusters_in}
use Rattle.plain_rules.specs.Changes.{with_entries}
use Rattle.plain_rules.specs.Accounts.{share, charge, HasRow, IsCharged, Accounted}
use Rattle.plain_rules.specs.Mending.{less_entries, each_from, without_opens, without_entries, lost, with_lost_entry, enter, enter_all, enter_some, with_lost, gone_slot, without_gone, without_leaks, summed_row, put_right, counts, mended}
use Rattle.plain_rules.proofs.Standing.{some_map, stands_at}
use Rattle.plain_rules.proofs.Accounting.{has_row-map}
use Rattle.plain_rules.proofs.Kept.{entries_keep, opens_keep}

pub each_length : (g : ℕ → Slot → Slot) (n : ℕ) (xs : List Slot) → length (each_from g n xs) ≡ length xs
each_length g n [] = refl
each_length g n (x ∷ xs) = ap suc (each_length g (n + 1) xs)

slots_rest : (P : Slot → Type 0) (x : Slot) (xs : List Slot) → All P (x ∷ xs) → All P xs
slots_rest P x xs all k d h = all (suc k) d (omega (arith, h))

pub each_all : (P Q : Slot → Type 0) (g : ℕ → Slot → Slot) → ((n : ℕ) (s : Slot) → P s → Q (g n s)) → (n : ℕ) (xs : List Slot) → All P xs → All Q (each_from g n xs)
each_all P Q g keeps n [] all = λ k d h. absurd (omega (arith, h))
each_all P Q g keeps n (x ∷ xs) all =
    All-cons Q (g n x) (each_from g (n + 1) xs) (keeps n x (all 0 x (omega arith))) (each_all P Q g keeps (n + 1) xs (slots_rest P x xs all))

each_sum : (f : Slot → ℕ) (g : ℕ → Slot → Slot) → ((n : ℕ) (s : Slot) → f (g n s) ≡ f s) → (n : ℕ) (xs : List Slot) → sum_by f (each_from g n xs) ≡ sum_by f xs
each_sum f g same n [] = refl
each_sum f g same n (x ∷ xs) =
    let head = same n x in
    let rest = each_sum f g same (n + 1) xs in
    omega (arith, sum_by-cons f (g n x) (each_from g (n + 1) xs), sum_by-cons f x xs, head, rest)

less_share : (c : Cat) (owner : Uic) (n : ℕ) (s : Slot) → share c owner (less_entries c n s) ≡ share c owner s
less_share c owner n (Free q) = refl
less_share c owner n (Used f) = refl

less_size : (c : Cat) (n : ℕ) (s : Slot) → c.factor * clusters_in s ≤ 65536 → c.factor * clusters_in (less_entries c n s) ≤ 65536
less_size c n (Free q) h = h
less_size c n (Used f) h = h

less_row : (c : Cat) (n : ℕ) (s : Slot) → HasRow c.quota s → HasRow c.quota (less_entries c n s)
less_row c n (Free q) h = tt
less_row c n (Used f) h = h

less_keeps : (c : Cat) → Accounted c → Accounted (without_entries c)
less_keeps c a = record {
  factor_from = a.factor_from;
  factor_to = a.factor_to;
  numbers = rw (each_length (less_entries c) 1 c.files) a.numbers;
  sizes = each_all (λ (s : Slot). c.factor * clusters_in s ≤ 65536) (λ (s : Slot). c.factor * clusters_in s ≤ 65536) (less_entries c) (less_size c) 1 c.files a.sizes;
  owners = each_all (HasRow c.quota) (HasRow c.quota) (less_entries c) (less_row c) 1 c.files a.owners;
  usage = λ k d h. row (get_or c.quota k d) (a.usage k d h);
} where
  row : (r : QuotaRow) → IsCharged c r → IsCharged (without_entries c) r
  row r h =
      let e : sum_by (share c r.owner) (each_from (less_entries c) 1 c.files) ≡ charge c r.owner = each_sum (share c r.owner) (less_entries c) (less_share c r.owner) 1 c.files in
      (omega (arith, e, h.0), omega (arith, e, h.1))

-- the first step keeps the accounts
pub cleared_keeps : (c : Cat) → Accounted c → Accounted (without_entries (without_opens c))
cleared_keeps c a = less_keeps (without_opens c) (opens_keep c _ a)

then_keeps : {X : Type 0} (o : Option X) (next : X → Option Cat) (b : Cat) → option_and_then next o ≡ Some b → ((x : X) → o ≡ Some x → next x ≡ Some b → Accounted b) → Accounted b
then_keeps None next b h k = absurd (cc h)
then_keeps (Some x) next b h k = k x refl h

enter_keeps : (c : Cat) (n : ℕ) (b : Cat) → enter c n ≡ Some b → Accounted c → Accounted b
unfolding enter
enter_keeps c n b h a = then_keeps (file_at c 11) _ b h (λ d at k. then_keeps (file_at c n) _ b k (λ f own l.
    let w = some_map (with_lost_entry c.factor d.entries n f.seq) (with_entries c 11 d) b l in
    subst Accounted w.2 (entries_keep c 11 d w.0 a (stands_at c 11 d at))))

enter_all_keeps : (ns : List ℕ) (c b : Cat) → enter_all ns c ≡ Some b → Accounted c → Accounted b
enter_all_keeps [] c b h a = let e : c ≡ b = cc h in subst Accounted e a
enter_all_keeps (n ∷ ns) c b h a = then_keeps (enter c n) (enter_all ns) b h (λ x at k. enter_all_keeps ns x b k (enter_keeps c n x at a))

unwrap_keeps : (o : Option Cat) (c : Cat) → ((b : Cat) → o ≡ Some b → Accounted b) → Accounted c → Accounted (unwrap_or o c)
unwrap_keeps None c k a = a
unwrap_keeps (Some b) c k a = k b refl

enter_some_keeps : (ns : List ℕ) (c : Cat) → Accounted c → Accounted (enter_some ns c)
enter_some_keeps [] c a = a
enter_some_keeps (n ∷ ns) c a = enter_some_keeps ns (unwrap_or (enter c n) c) (unwrap_keeps (enter c n) c (λ b h. enter_keeps c n b h a) a)

some_keeps : (o : Option Cat) (ns : List ℕ) (b : Cat) → option_map (enter_some ns) o ≡ Some b → ((x : Cat) → o ≡ Some x → Accounted x) → Accounted b
some_keeps None ns b h k = absurd (cc h)
some_keeps (Some x) ns b h k = let e : enter_some ns x ≡ b = cc h in subst Accounted e (enter_some_keeps ns x (k x refl))

-- the second step keeps the accounts
pub lost_keeps : (c b : Cat) → with_lost c ≡ Some b → Accounted c → Accounted b
lost_keeps c b h a = some_keeps (enter_all (lost c false) c) (lost c true) b h (λ x at. enter_all_keeps (lost c false) c x at a)

size_if : (b : Bool) (k : ℕ) (f : File) → k * f.clusters ≤ 65536 → k * clusters_in (cond b (Free f.seq) (Used f)) ≤ 65536
size_if true k f h = omega arith
size_if false k f h = h

gone_size : (c : Cat) (n : ℕ) (s : Slot) → c.factor * clusters_in s ≤ 65536 → c.factor * clusters_in (gone_slot c n s) ≤ 65536
gone_size c n (Free q) h = h
gone_size c n (Used f) h = size_if _ c.factor f h

row_if : (b : Bool) (rows : List QuotaRow) (f : File) → HasRow rows (Used f) → HasRow rows (cond b (Free f.seq) (Used f))
row_if true rows f h = tt
row_if false rows f h = h

gone_row : (c : Cat) (rows : List QuotaRow) (n : ℕ) (s : Slot) → HasRow rows s → HasRow rows (gone_slot c n s)
gone_row c rows n (Free q) h = tt
gone_row c rows n (Used f) h = row_if _ rows f h

pub gone_numbers : (c : Cat) → Accounted c → length (each_from (gone_slot c) 1 c.files) ≤ 4096
gone_numbers c a = rw (each_length (gone_slot c) 1 c.files) a.numbers

pub gone_sizes : (c : Cat) → Accounted c → All (λ (s : Slot). c.factor * clusters_in s ≤ 65536) (each_from (gone_slot c) 1 c.files)
gone_sizes c a =
    each_all (λ (s : Slot). c.factor * clusters_in s ≤ 65536) (λ (s : Slot). c.factor * clusters_in s ≤ 65536) (gone_slot c) (gone_size c) 1 c.files a.sizes

-- the last steps keep the accounts
pub right_keeps : (c : Cat) → Accounted c → Accounted (put_right c)
right_keeps c a = record {
  factor_from = a.factor_from;
  factor_to = a.factor_to;
  numbers = gone_numbers c a;
  sizes = gone_sizes c a;
  owners = each_all (HasRow c.quota) (HasRow (map (summed_row left) c.quota)) (gone_slot c)
      (λ n s h. has_row-map (summed_row left) (λ r. refl) c.quota (gone_slot c n s) (gone_row c c.quota n s h)) 1 c.files a.owners;
  usage = All-map (IsCharged (put_right c)) (summed_row left) c.quota (λ k d h. (omega arith, omega arith));
} where
  left : Cat
  left = without_leaks (without_gone c)

-- the steps, one after the other
pub mended_is : (c a b d : Cat) → a ≡ without_entries (without_opens c) → with_lost a ≡ Some b → d ≡ put_right b → mended c ≡ Some (d, counts c a b d)
unfolding mended
mended_is c a b d first second third =
    let P : Cat → Type 0 = λ x. with_lost x ≡ Some b → mended c ≡ Some (put_right b, counts c x b (put_right b)) in
    let whole : mended c ≡ Some (put_right b, counts c a b (put_right b)) = subst P (sym first) (λ h. rw h refl) second in
    whole ∙ ap (λ (x : Cat). Some (x, counts c a b x)) (sym third)

pub mended_none : (c a : Cat) → a ≡ without_entries (without_opens c) → with_lost a ≡ None → mended c ≡ None
unfolding mended
mended_none c a first second =
    let P : Cat → Type 0 = λ x. with_lost x ≡ None → mended c ≡ None in subst P (sym first) (λ h. rw h refl) second

-- one element more, where each becomes the same
pub same_more : {X Y : Type 0} (y : Y) (xs : List X) (i : ℕ) → i < length xs → map (λ (x : X). y) (take (i + 1) xs) ≡ map (λ (x : X). y) (take i xs) ++ y ∷ []
same_more y [] i h = absurd (omega (arith, h))
same_more y (x ∷ xs) zero h = refl
same_more y (x ∷ xs) (suc i) h =
    let e : suc i + 1 ≡ suc (i + 1) = omega arith in
    let lt : i < length xs = omega (arith, h) in
    rw e (ap (λ ys. y ∷ ys) (same_more y xs i lt))

abbrev second_of : Option (Cat × Mended) → Mended → Mended
second_of None m = m
second_of (Some p) m = p.1

-- mending does something else
pub other_counts : (c d e : Cat) (m n : Mended) → mended c ≡ Some (d, m) → (m ≡ n → ⊥) → mended c ≡ Some (e, n) → ⊥
other_counts c d e m n is differs other = differs (ap (λ (o : Option (Cat × Mended)). second_of o m) (sym is ∙ other))
