-- The order of names is a strict one, where no chain of entries returns.
use Rattle.std.proofs.Common.{◌≡◌, ℕ, zero, suc, List, [], ◌∷◌, Some, None, Contains, slice_get, refl, sym, subst, ◌∙◌, arith}
use Rattle.base_words.specs.Fields.{Block}
use Rattle.lock_db.specs.declared.name.LockName.{LockName}
use Rattle.lock_db.specs.declared.name.LockName.TheVariants.{S}
use Rattle.plain_cat.specs.declared.entries.DirEnt.{DirEnt}
use Rattle.plain_cat.specs.declared.cat.Cat.{Cat}
use Rattle.plain_mends.specs.Sound.{LeadsTo, IsSound}
use Rattle.plain_mends.specs.Sound as sound
use Rattle.plain_rules.specs.SystemFiles.{entries_of}
use Rattle.vol_parts.specs.declared.geometry.Geometry.{Geometry}
use Rattle.vol_spell.specs.Owners.{Owners}
use Rattle.op_law.specs.Order.{NamesNumber, NumberPath, One, More, IsBefore, Higher, Named}

get_contains : (es : List DirEnt) (k : ℕ) (e : DirEnt) → slice_get es k ≡ Some e → Contains es e
get_contains [] k e at = absurd (let f : None ≡ Some e = at in cc)
get_contains (d ∷ es) zero e at = let f : Some d ≡ Some e = at in let g : d ≡ e = cc in subst (λ (y : DirEnt). Contains (d ∷ es) y) g (0, (omega arith), refl)
get_contains (d ∷ es) (suc k) e at = let r = get_contains es k e at in (suc r.0, (let l = r.1 in omega arith), r.2)

leads : (c : Cat) (n m : ℕ) → NamesNumber c n m → LeadsTo c n m
leads c n m h = record { entry = h.entry; there = get_contains (entries_of c n) h.place h.entry h.there; names = h.names; other = h.other }

path : (c : Cat) (n m : ℕ) → NumberPath c n m → sound.NumberPath c n m
path c n m (One l) = sound.One (leads c n m l)
path c n m (More {k} p l) = sound.More (path c n k p) (leads c k m l)

-- two chains in a row
joined : (c : Cat) (a b d : ℕ) → NumberPath c a b → NumberPath c b d → NumberPath c a d
joined c a b d p (One l) = More p l
joined c a b d p (More {k} q l) = More (joined c a b k p q) l

pub then : (g : Geometry) (bs : List Block) (own : Owners) (c : Cat) (a b d : LockName) → IsBefore g bs own c a b → IsBefore g bs own c b d → IsBefore g bs own c a d
then g bs own c a b d (Higher p) (Higher q) = Higher (omega arith)
then g bs own c a b d (Higher p) (Named y m f e low high q) = absurd (omega arith)
then g bs own c a b d (Named x n f e low high p) (Higher q) = Higher (omega arith)
then g bs own c a b d (Named x n f e low high p) (Named y m f' e' low' high' q) =
    let both : S n ≡ S y = sym e ∙ f' in
    let same : n ≡ y = cc in
    Named x m f e' low high' (joined c x n m p (subst (λ (k : ℕ). NumberPath c k m) (sym same) q))

pub never : (g : Geometry) (bs : List Block) (own : Owners) (c : Cat) (a : LockName) → IsSound c → IsBefore g bs own c a a → ⊥
never g bs own c a s (Higher p) = absurd (omega arith)
never g bs own c a s (Named x n f e low high p) =
    let both : S n ≡ S x = sym e ∙ f in
    let same : n ≡ x = cc in
    s.ordered x (path c x x (subst (λ (k : ℕ). NumberPath c x k) same p))
