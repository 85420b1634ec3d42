-- What granting the heads of queues does.
use Rattle.std.proofs.Common.{◌≡◌, ℕ, zero, suc, List, Some, None, refl}
use Rattle.lock_db.specs.declared.askers.Asker.{Asker}
use Rattle.lock_db.specs.Queues.{granted_upto, one_grant}

pub granted_upto_stop : (k : ℕ) (xs : List Asker) → one_grant xs ≡ None → granted_upto k xs ≡ xs
unfolding granted_upto
granted_upto_stop zero xs e = refl
granted_upto_stop (suc k) xs e = rw e refl

pub granted_upto_on : (k : ℕ) (xs ys : List Asker) → one_grant xs ≡ Some ys → granted_upto (suc k) xs ≡ granted_upto k ys
unfolding granted_upto
granted_upto_on k xs ys e = rw e refl
