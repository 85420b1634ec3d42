-- Blocks in memory that are the first ones of a file, as they are read and written.
use Rattle.std.proofs.Common.{◌≡◌, ◌∙◌, ◌+◌, ◌-◌, ◌*◌, ◌<◌, ◌≤◌, ℕ, zero, suc, List, [], ◌∷◌, length, take, drop, set, refl, sym, ap, subst, inl, inr, arith, length-set}
use Rattle.std.specs.Prelude.{◌⊎◌, Option, None, Some, slice_get, slice_range, option_map}
use Rattle.std.specs.Option.{ForSome}
use Rattle.std.specs.Simd.{first_chunks}
use Rattle.std.proofs.lemmas.Option.{none-some, same_Some}
use Rattle.std.proofs.lemmas.List.{take-take}
use Rattle.base_words.specs.Fields.{put}
use Rattle.base_words.proofs.Puts.{length-put}
use Rattle.blk_drive.specs.Images.{told_set}
use Rattle.blk_files.specs.Files.{IsOver, put_in}
use Rattle.blk_files.proofs.Chunks.{drop-take-le, chunks-put}

slice_get-take : {X : Type 0} (n : ℕ) (xs : List X) (i : ℕ) (x : X) → slice_get (take n xs) i ≡ Some x → slice_get xs i ≡ Some x
slice_get-take zero xs i x e = absurd (none-some x e)
slice_get-take (suc n) [] i x e = e
slice_get-take (suc n) (y ∷ ys) zero x e = e
slice_get-take (suc n) (y ∷ ys) (suc i) x e = slice_get-take n ys i x e

take-set : {X : Type 0} (n : ℕ) (xs : List X) (i : ℕ) (x : X) → set (take n xs) i x ≡ take n (set xs i x)
take-set zero xs i x = refl
take-set (suc n) [] i x = refl
take-set (suc n) (y ∷ ys) zero x = refl
take-set (suc n) (y ∷ ys) (suc i) x = ap (λ zs. y ∷ zs) (take-set n ys i x)

-- a block in memory is the file's
pub get-over : (size : ℕ) (blocks : List (List ℕ)) (f : List ℕ) (lbn : ℕ) (b : List ℕ) → IsOver size blocks f → slice_get blocks lbn ≡ Some b → slice_get (first_chunks 512 size f) lbn ≡ Some b
get-over size blocks f lbn b h e = slice_get-take (length blocks) (first_chunks 512 size f) lbn b (sym (ap (λ xs. slice_get xs lbn) h.first) ∙ e)

-- a range of them too
pub range-over : (size : ℕ) (blocks : List (List ℕ)) (f : List ℕ) (start end : ℕ) → IsOver size blocks f → start ≤ end → end ≤ length blocks → slice_range blocks start end ≡ slice_range (first_chunks 512 size f) start end
range-over size blocks f start end h low high =
    let all = first_chunks 512 size f in
    let n = length blocks in
    let few : end - start ≤ n - start = omega arith in
    ap (λ xs. take (end - start) (drop start xs)) h.first
    ∙ ap (take (end - start)) (drop-take-le start n all (omega arith))
    ∙ take-take (end - start) (n - start) (drop start all) few

-- with no block in memory
pub over-none : (size : ℕ) (blocks : List (List ℕ)) (f : List ℕ) → IsOver size blocks f → IsOver size [] f
over-none size blocks f h = record { within = h.within; first = refl }

-- once a block is put into the file, and set in memory
over-put : (size : ℕ) (blocks : List (List ℕ)) (lbn : ℕ) (f b : List ℕ) → lbn < size → length b ≡ 512 → IsOver size blocks f → IsOver size (set blocks lbn b) (put f (512 * lbn) b)
over-put size blocks lbn f b small l h =
    let inside : 512 * lbn + 512 ≤ length f = omega (arith, h.within) in
    let long : length (put f (512 * lbn) b) ≡ length f = length-put f (512 * lbn) b (omega arith) in
    let all = first_chunks 512 size f in
    record {
      within = omega (arith, h.within);
      first =
          ap (λ xs. set xs lbn b) h.first
          ∙ take-set (length blocks) all lbn b
          ∙ ap (take (length blocks)) (sym (chunks-put size lbn f b l inside))
          ∙ ap (λ n. take n (first_chunks 512 size (put f (512 * lbn) b))) (sym (length-set blocks lbn b));
    }

-- after one that succeeded, the blocks in memory are the file's once the block is set there
pub over-written : (size : ℕ) (blocks : List (List ℕ)) (lbn : ℕ) (b : List ℕ) (old new : Option (List ℕ)) → lbn < size → length b ≡ 512 → ForSome old (IsOver size blocks)
    → new ≡ put_in old (512 * lbn) b → ForSome new (IsOver size (set blocks lbn b))
over-written size blocks lbn b None new small l h there f e = absurd (none-some f (sym there ∙ e))
over-written size blocks lbn b (Some was) new small l h there f e =
    subst (IsOver size (set blocks lbn b)) (same_Some (put was (512 * lbn) b) f (sym there ∙ e)) (over-put size blocks lbn was b small l (h was refl))

-- after a write of a block, that failed or not, no block in memory is the file's
pub over-failed : (size : ℕ) (blocks : List (List ℕ)) (lbn : ℕ) (b : List ℕ) (old new : Option (List ℕ)) → lbn < size → length b ≡ 512 → ForSome old (IsOver size blocks)
    → (new ≡ old) ⊎ (new ≡ put_in old (512 * lbn) b) → ForSome new (IsOver size [])
over-failed size blocks lbn b old new small l h (inl same) f e = over-none size blocks f (h f (sym same ∙ e))
over-failed size blocks lbn b old new small l h (inr there) f e = over-none size (set blocks lbn b) f (over-written size blocks lbn b old new small l h there f e)

-- bytes put in set a block of those that are told
pub told-put : (size : ℕ) (blocks : List (List ℕ)) (lbn : ℕ) (b : List ℕ) (old : Option (List ℕ)) → lbn < size → length b ≡ 512 → ForSome old (IsOver size blocks)
    → option_map (first_chunks 512 size) (put_in old (512 * lbn) b) ≡ told_set (option_map (first_chunks 512 size) old) lbn b
told-put size blocks lbn b None small l h = refl
told-put size blocks lbn b (Some f) small l h =
    let over = h f refl in
    let inside : 512 * lbn + 512 ≤ length f = omega (arith, over.within) in
    ap (λ bs. Some bs) (chunks-put size lbn f b l inside)
