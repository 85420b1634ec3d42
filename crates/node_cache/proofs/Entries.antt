-- Lists of entries in which no block stands twice.
use Rattle.std.proofs.Common.{◌≡◌, ◌∙◌, ◌≤◌, ◌<◌, ◌==◌, ◌&&◌, ◌||◌, ℕ, zero, suc, Bool, true, false, List, [], ◌∷◌, length, map, take, filter, find, not, nat_eq, Option, Some, None, is_some, option_map, if◌then◌else◌, refl, sym, ap, subst, arith}
use Rattle.std.specs.List.{IsDistinct, AllByRecursion, list_any}
use Rattle.std.specs.Option.{option_map_or}
use Rattle.std.proofs.lemmas.Map.Keys.{IsDistinct-head, IsDistinct-tail, IsDistinct-cons}
use Rattle.std.proofs.lemmas.Bool.Decides.{nat_tests}
use Rattle.std.proofs.lemmas.List.{length-take, length-map}
use Rattle.lock_db.specs.declared.name.LockName.{LockName}
use Rattle.lock_db.proofs.Names.{is_same-refl}
use Rattle.node_cache.specs.Cached.{Cached, IsCache, is_for, is_under, is_of, found, without, moved_to_front, used, kept, replaced, without_lock}

-- the blocks of entries
abbrev pub blocks_of : List Cached → List ℕ
blocks_of es = map (λ (e : Cached). e.lbn) es

abbrev pub AreApart : List Cached → Type 0
AreApart es = IsDistinct nat_eq (blocks_of es)

-- none of the entries is for the block
abbrev pub NoneFor : ℕ → List Cached → Type 0
NoneFor lbn es = AllByRecursion (λ (e : Cached). is_for lbn e ≡ false) es

none_for-head : (e : Cached) (es : List Cached) → AllByRecursion (λ n. nat_eq e.lbn n ≡ false) (blocks_of es) → NoneFor e.lbn es
none_for-head e [] h = h
none_for-head e (x ∷ es) h = (h.0, none_for-head e es h.1)

-- the first entry's block has no other
pub apart-first : (lbn : ℕ) (e : Cached) (es : List Cached) → AreApart (e ∷ es) → is_for lbn e ≡ true → NoneFor lbn es
apart-first lbn e es apart here =
    let same : e.lbn ≡ lbn = grind (arith, nat_tests) in
    subst (λ n. NoneFor n es) same (none_for-head e es (IsDistinct-head nat_eq e.lbn (blocks_of es) apart))

pub apart-rest : (e : Cached) (es : List Cached) → AreApart (e ∷ es) → AreApart es
apart-rest e es apart = IsDistinct-tail nat_eq e.lbn (blocks_of es) apart

-- where none is for the block
pub none-without : (lbn : ℕ) (es : List Cached) → NoneFor lbn es → without lbn es ≡ es
none-without lbn [] h = refl
none-without lbn (e ∷ es) h = rw h.0 (ap (λ l. e ∷ l) (none-without lbn es h.1))

pub none-find : (lbn : ℕ) (es : List Cached) → NoneFor lbn es → find (is_for lbn) es ≡ None
none-find lbn [] h = refl
none-find lbn (e ∷ es) h = rw h.0 (none-find lbn es h.1)

pub none-found : (lbn : ℕ) (lock : LockName) (seq : ℕ) (es : List Cached) → NoneFor lbn es → found lbn lock seq es ≡ None
none-found lbn lock seq [] h = refl
none-found lbn lock seq (e ∷ es) h = rw h.0 (none-found lbn lock seq es h.1)

-- the first entry for the block left out
abbrev pub first_out : ℕ → List Cached → List Cached
first_out lbn [] = []
first_out lbn (e ∷ es) = if is_for lbn e then es else e ∷ first_out lbn es

pub first_out-without : (lbn : ℕ) (es : List Cached) → AreApart es → first_out lbn es ≡ without lbn es
first_out-without lbn [] apart = refl
first_out-without lbn (e ∷ es) apart = (elim (is_for lbn e) as (λ b. is_for lbn e ≡ b → first_out lbn (e ∷ es) ≡ without lbn (e ∷ es)) [
  | true ↦ λ t. rw t (sym (none-without lbn es (apart-first lbn e es apart t)))
  | false ↦ λ t. rw t (ap (λ l. e ∷ l) (first_out-without lbn es (apart-rest e es apart)))
]) refl

-- the entry of the block, where it is under the lock and has the sequence
abbrev pub passed : LockName → ℕ → Option Cached → Option Cached
passed lock seq None = None
passed lock seq (Some e) = if is_under lock e && (seq == e.seq) then Some e else None

pub found-find : (lbn : ℕ) (lock : LockName) (seq : ℕ) (es : List Cached) → AreApart es → found lbn lock seq es ≡ passed lock seq (find (is_for lbn) es)
found-find lbn lock seq [] apart = refl
found-find lbn lock seq (e ∷ es) apart = (elim (is_for lbn e) as (λ b. is_for lbn e ≡ b → found lbn lock seq (e ∷ es) ≡ passed lock seq (find (is_for lbn) (e ∷ es))) [
  | true ↦ λ t. rw (t, none-found lbn lock seq es (apart-first lbn e es apart t)) refl
  | false ↦ λ t. rw t (found-find lbn lock seq es (apart-rest e es apart))
]) refl

-- ---- what stays apart
fresh-filter : (p : Cached → Bool) (n : ℕ) (es : List Cached) → AllByRecursion (λ m. nat_eq n m ≡ false) (blocks_of es) → AllByRecursion (λ m. nat_eq n m ≡ false) (blocks_of (filter p es))
fresh-filter p n [] h = h
fresh-filter p n (e ∷ es) h = elim (p e) as (λ b. AllByRecursion (λ m. nat_eq n m ≡ false) (blocks_of (if b then e ∷ filter p es else filter p es))) [
  | true ↦ (h.0, fresh-filter p n es h.1)
  | false ↦ fresh-filter p n es h.1
]

pub apart-filter : (p : Cached → Bool) (es : List Cached) → AreApart es → AreApart (filter p es)
apart-filter p [] apart = apart
apart-filter p (e ∷ es) apart = elim (p e) as (λ b. AreApart (if b then e ∷ filter p es else filter p es)) [
  | true ↦ IsDistinct-cons nat_eq e.lbn (blocks_of (filter p es)) (fresh-filter p e.lbn es (IsDistinct-head nat_eq e.lbn (blocks_of es) apart)) (apart-filter p es (apart-rest e es apart))
  | false ↦ apart-filter p es (apart-rest e es apart)
]

fresh-take : (k n : ℕ) (es : List Cached) → AllByRecursion (λ m. nat_eq n m ≡ false) (blocks_of es) → AllByRecursion (λ m. nat_eq n m ≡ false) (blocks_of (take k es))
fresh-take zero n es h = tt
fresh-take (suc k) n [] h = h
fresh-take (suc k) n (e ∷ es) h = (h.0, fresh-take k n es h.1)

pub apart-nil : AreApart []
unfolding IsDistinct
apart-nil = tt

pub apart-take : (k : ℕ) (es : List Cached) → AreApart es → AreApart (take k es)
apart-take zero es apart = apart-nil
apart-take (suc k) [] apart = apart
apart-take (suc k) (e ∷ es) apart =
    IsDistinct-cons nat_eq e.lbn (blocks_of (take k es)) (fresh-take k e.lbn es (IsDistinct-head nat_eq e.lbn (blocks_of es) apart)) (apart-take k es (apart-rest e es apart))

fresh-without : (lbn : ℕ) (es : List Cached) → AllByRecursion (λ m. nat_eq lbn m ≡ false) (blocks_of (without lbn es))
fresh-without lbn [] = tt
fresh-without lbn (e ∷ es) = (elim (is_for lbn e) as (λ b. is_for lbn e ≡ b → AllByRecursion (λ m. nat_eq lbn m ≡ false) (blocks_of (if not b then e ∷ without lbn es else without lbn es))) [
  | true ↦ λ t. fresh-without lbn es
  | false ↦ λ t. (t, fresh-without lbn es)
]) refl

-- an entry in front of some that are not for its block
pub apart-in_front : (e : Cached) (k : ℕ) (es : List Cached) → AreApart es → AreApart (e ∷ take k (without e.lbn es))
apart-in_front e k es apart =
    IsDistinct-cons nat_eq e.lbn (blocks_of (take k (without e.lbn es))) (fresh-take k e.lbn (without e.lbn es) (fresh-without e.lbn es))
    (apart-take k (without e.lbn es) (apart-filter (λ x. not (is_for e.lbn x)) es apart))

-- ---- what is a cache
pub length-filter : (p : Cached → Bool) (es : List Cached) → length (filter p es) ≤ length es
length-filter p [] = omega arith
length-filter p (e ∷ es) = elim (p e) as (λ b. length (if b then e ∷ filter p es else filter p es) ≤ length (e ∷ es)) [
  | true ↦ omega (arith, length-filter p es)
  | false ↦ omega (arith, length-filter p es)
]

pub cache-nil : IsCache []
cache-nil = record { fits = omega arith; apart = apart-nil }

pub cache-filter : (p : Cached → Bool) (es : List Cached) → IsCache es → IsCache (filter p es)
cache-filter p es h = record { fits = omega (arith, length-filter p es); apart = apart-filter p es h.apart }

pub cache-kept : (e : Cached) (es : List Cached) → IsCache es → IsCache (kept e es)
cache-kept e es h = record { fits = omega (arith, length-take 63 (without e.lbn es)); apart = apart-in_front e 63 es h.apart }

-- one entry less, where there is one for the block
pub length-without : (lbn : ℕ) (es : List Cached) → is_some (find (is_for lbn) es) ≡ true → length (without lbn es) < length es
length-without lbn [] h = absurd cc
length-without lbn (e ∷ es) h = (elim (is_for lbn e) as (λ b. is_for lbn e ≡ b → length (if not b then e ∷ without lbn es else without lbn es) < length (e ∷ es)) [
  | true ↦ λ t. omega (arith, length-filter (λ x. not (is_for lbn x)) es)
  | false ↦ λ t. let g : is_some (find (is_for lbn) es) ≡ true = rw t at h in omega (arith, length-without lbn es g)
]) refl

-- the entry that a look finds
pub find-first : (lbn : ℕ) (es : List Cached) (e : Cached) → find (is_for lbn) es ≡ Some e → is_for lbn e ≡ true
find-first lbn [] e h = absurd cc
find-first lbn (x ∷ es) e h = (elim (is_for lbn x) as (λ b. is_for lbn x ≡ b → is_for lbn e ≡ true) [
  | true ↦ λ t. let g = rw t at h in let same : x ≡ e = cc in subst (λ y. is_for lbn y ≡ true) same t
  | false ↦ λ t. find-first lbn es e (rw t at h)
]) refl

pub is_for-same : (lbn : ℕ) (e : Cached) → is_for lbn e ≡ true → e.lbn ≡ lbn
is_for-same lbn e t = grind (arith, nat_tests)

pub find-none : (lbn : ℕ) (es : List Cached) → find (is_for lbn) es ≡ None → NoneFor lbn es
find-none lbn [] h = tt
find-none lbn (e ∷ es) h = (elim (is_for lbn e) as (λ b. is_for lbn e ≡ b → NoneFor lbn (e ∷ es)) [
  | true ↦ λ t. let g = rw t at h in absurd cc
  | false ↦ λ t. (t, find-none lbn es (rw t at h))
]) refl

passed-some : (lock : LockName) (seq : ℕ) (o : Option Cached) (e : Cached) → passed lock seq o ≡ Some e → o ≡ Some e
passed-some lock seq None e h = absurd cc
passed-some lock seq (Some x) e h = (elim (is_under lock x && (seq == x.seq)) as (λ b. (if b then Some x else None) ≡ Some e → Some x ≡ Some e) [
  | true ↦ λ g. g
  | false ↦ λ g. absurd cc
]) h

pub found-some : (lbn : ℕ) (lock : LockName) (seq : ℕ) (es : List Cached) (e : Cached) → AreApart es → found lbn lock seq es ≡ Some e → find (is_for lbn) es ≡ Some e
found-some lbn lock seq es e apart h = passed-some lock seq (find (is_for lbn) es) e (sym (found-find lbn lock seq es apart) ∙ h)

-- the entry of a block in front
pub cache-front : (lbn : ℕ) (e : Cached) (es : List Cached) → IsCache es → find (is_for lbn) es ≡ Some e → IsCache (moved_to_front e es)
cache-front lbn e es h first =
    let same = is_for-same lbn e (find-first lbn es e first) in
    let there : is_some (find (is_for e.lbn) es) ≡ true = rw (same, first) refl in
    record {
      fits = omega (arith, length-without e.lbn es there);
      apart =
          IsDistinct-cons nat_eq e.lbn (blocks_of (without e.lbn es)) (fresh-without e.lbn es)
          (apart-filter (λ x. not (is_for e.lbn x)) es h.apart);
    }

used-at : (lbn : ℕ) (lock : LockName) (seq : ℕ) (es : List Cached) (o : Option Cached) → IsCache es → found lbn lock seq es ≡ o → IsCache (option_map_or (λ e. moved_to_front e es) o es)
used-at lbn lock seq es None h at = h
used-at lbn lock seq es (Some e) h at = cache-front lbn e es h (found-some lbn lock seq es e h.apart at)

pub cache-used : (lbn : ℕ) (lock : LockName) (seq : ℕ) (es : List Cached) → IsCache es → IsCache (used lbn lock seq es)
cache-used lbn lock seq es h = used-at lbn lock seq es (found lbn lock seq es) h refl

-- ---- an entry with new bytes
pub none-replaced : (new : Cached) (es : List Cached) → NoneFor new.lbn es → replaced new es ≡ es
none-replaced new [] h = refl
none-replaced new (e ∷ es) h = rw h.0 (ap (λ l. e ∷ l) (none-replaced new es h.1))

replaced-block : (new e : Cached) → (if is_of new.lbn new.lock e then new else e).lbn ≡ e.lbn
replaced-block new e = (elim (is_for new.lbn e) as (λ b. is_for new.lbn e ≡ b → (if b && is_under new.lock e then new else e).lbn ≡ e.lbn) [
  | true ↦ λ t. elim (is_under new.lock e) as (λ b. (if b then new else e).lbn ≡ e.lbn) [
    | true ↦ sym (is_for-same new.lbn e t)
    | false ↦ refl
  ]
  | false ↦ λ t. refl
]) refl

blocks-replaced : (new : Cached) (es : List Cached) → blocks_of (replaced new es) ≡ blocks_of es
blocks-replaced new [] = refl
blocks-replaced new (e ∷ es) = λ i. replaced-block new e i ∷ blocks-replaced new es i

pub cache-replaced : (new : Cached) (es : List Cached) → IsCache es → IsCache (replaced new es)
cache-replaced new es h = record {
  fits = rw length-map h.fits;
  apart = rw (blocks-replaced new es) h.apart;
}

-- ---- the entries under a lock
none-first : (lbn : ℕ) (lock : LockName) (es : List Cached) → NoneFor lbn es → option_map (λ (e : Cached). e.lbn) (find (is_under lock) es) ≡ Some lbn → ⊥
none-first lbn lock [] h f = absurd cc
none-first lbn lock (e ∷ es) h f = (elim (is_under lock e) as (λ b. is_under lock e ≡ b → ⊥) [
  | true ↦ λ t. let g = rw t at f in let same : e.lbn ≡ lbn = cc in let other = h.0 in grind (arith, nat_tests)
  | false ↦ λ t. none-first lbn lock es h.1 (rw t at f)
]) refl

-- the block of the first entry under the lock left out
pub record IsLeftOut (lock : LockName) (old new : List Cached) : Type 0 where
  pub others : without_lock lock new ≡ without_lock lock old
  pub fewer : length new < length old

pub first_out-under : (lbn : ℕ) (lock : LockName) (es : List Cached) → AreApart es → option_map (λ (e : Cached). e.lbn) (find (is_under lock) es) ≡ Some lbn → IsLeftOut lock es (first_out lbn es)
first_out-under lbn lock [] apart f = absurd cc
first_out-under lbn lock (e ∷ es) apart f = (elim (is_under lock e) as (λ b. is_under lock e ≡ b → IsLeftOut lock (e ∷ es) (first_out lbn (e ∷ es))) [
  | true ↦ λ t.
      let g = rw t at f in
      let same : e.lbn ≡ lbn = cc in
      let here : is_for lbn e ≡ true = grind (arith, nat_tests) in
      rw here (record { others = rw t refl; fewer = omega arith })
  | false ↦ λ t.
      (elim (is_for lbn e) as (λ b. is_for lbn e ≡ b → IsLeftOut lock (e ∷ es) (if b then es else e ∷ first_out lbn es)) [
        | true ↦ λ here. absurd (none-first lbn lock es (apart-first lbn e es apart here) (rw t at f))
        | false ↦ λ other.
            let rest = first_out-under lbn lock es (apart-rest e es apart) (rw t at f) in
            record { others = rw t (ap (λ l. e ∷ l) rest.others); fewer = omega (arith, rest.fewer) }
      ]) refl
]) refl

pub none-under : (lock : LockName) (es : List Cached) → option_map (λ (e : Cached). e.lbn) (find (is_under lock) es) ≡ None → without_lock lock es ≡ es
none-under lock [] f = refl
none-under lock (e ∷ es) f = (elim (is_under lock e) as (λ b. is_under lock e ≡ b → without_lock lock (e ∷ es) ≡ e ∷ es) [
  | true ↦ λ t. let g = rw t at f in absurd cc
  | false ↦ λ t. rw t (ap (λ l. e ∷ l) (none-under lock es (rw t at f)))
]) refl

pub is_some-find : (lock : LockName) (es : List Cached) → is_some (option_map (λ (e : Cached). e.lbn) (find (is_under lock) es)) ≡ list_any (is_under lock) es
is_some-find lock [] = refl
is_some-find lock (e ∷ es) = elim (is_under lock e) as (λ b. is_some (option_map (λ (x : Cached). x.lbn) (if b then Some e else find (is_under lock) es)) ≡ (b || list_any (is_under lock) es)) [
  | true ↦ refl
  | false ↦ is_some-find lock es
]

-- what was just kept
pub found-kept : (e : Cached) (es : List Cached) → found e.lbn e.lock e.seq (kept e es) ≡ Some e
found-kept e es =
    let number : (e.lbn == e.lbn) ≡ true = grind arith in
    let sequence : (e.seq == e.seq) ≡ true = grind arith in
    rw (number, is_same-refl e.lock, sequence) refl
