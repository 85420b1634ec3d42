-- The names of resources, the order in which they stand in the table, and the owners of locks.
use Rattle.std.specs.Prelude.{◌==◌, nat_lt, ◌&&◌, ◌||◌, ℕ, Bool, if◌then◌else◌}
use Rattle.std.specs.declared.cmp.Ordering.{Ordering}
use Rattle.std.specs.declared.cmp.Ordering.TheVariants.{Less, Equal, Greater}
use Rattle.lock_db.specs.declared.name.LockName.{LockName}
use Rattle.lock_db.specs.declared.name.LockName.TheVariants.{S, A, Q, X, V}
use Rattle.lock_db.specs.declared.name.Owner.{Owner}

-- the kinds of names, in order
abbrev pub kind_of : LockName → ℕ
kind_of (S n) = 0
kind_of (A n) = 1
kind_of Q = 2
kind_of X = 3
kind_of V = 4

-- the number of the file that a name is of, where it is of one
abbrev pub number_of : LockName → ℕ
number_of (S n) = n
number_of (A n) = n
number_of Q = 0
number_of X = 0
number_of V = 0

-- whether two names are one
abbrev pub is_same : LockName → LockName → Bool
is_same a b = (kind_of a == kind_of b) && (number_of a == number_of b)

-- whether a name comes before another: by kind, and names of one kind by number
abbrev pub is_before : LockName → LockName → Bool
is_before a b = nat_lt (kind_of a) (kind_of b) || ((kind_of a == kind_of b) && nat_lt (number_of a) (number_of b))

-- the same as an ordering
abbrev pub order_of : LockName → LockName → Ordering
order_of a b = if is_before a b then Less else (if is_same a b then Equal else Greater)

-- whether two owners are one
abbrev pub same_owner : Owner → Owner → Bool
same_owner a b = (a.node == b.node) && (a.part == b.part)
