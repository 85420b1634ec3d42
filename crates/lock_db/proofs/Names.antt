-- The order of names is a strict total order.
use Rattle.std.proofs.Common.{◌≡◌, ◌==◌, ◌&&◌, ◌||◌, true, false, arith, ℕ, nat_lt}
use Rattle.lock_db.specs.declared.name.LockName.{LockName}
use Rattle.lock_db.specs.Names.{kind_of, number_of, is_same, is_before}

pub is_same-refl : (a : LockName) → is_same a a ≡ true
is_same-refl a = grind arith

pub is_same-same : (a b : LockName) → is_same a b ≡ true → a ≡ b
is_same-same a b e = grind arith

-- pairs of numbers in order: by the first, and then by the second
pairs-trans : (i j k a b c : ℕ) → (nat_lt i j || ((i == j) && nat_lt a b)) ≡ true → (nat_lt j k || ((j == k) && nat_lt b c)) ≡ true → (nat_lt i k || ((i == k) && nat_lt a c)) ≡ true
pairs-trans i j k a b c e f = grind arith

pub is_before-trans : (a b c : LockName) → is_before a b ≡ true → is_before b c ≡ true → is_before a c ≡ true
is_before-trans a b c e f = pairs-trans (kind_of a) (kind_of b) (kind_of c) (number_of a) (number_of b) (number_of c) e f

pub is_before-not_same : (a b : LockName) → is_before a b ≡ true → is_same a b ≡ false
is_before-not_same a b e = grind arith

pub is_after-not_same : (a b : LockName) → is_before a b ≡ true → is_same b a ≡ false
is_after-not_same a b e = grind arith

pub is_before-not_after : (a b : LockName) → is_before a b ≡ true → is_before b a ≡ false
is_before-not_after a b e = grind arith

pub is_before-other : (a b : LockName) → is_same a b ≡ false → is_before a b ≡ false → is_before b a ≡ true
is_before-other a b e f = grind arith

pub is_before-itself : (a : LockName) → is_before a a ≡ false
is_before-itself a = grind arith
