-- The next need where some of the first events are seen.
use Rattle.std.proofs.Common.{◌≡◌, ◌≤◌, ◌-◌, ◌∙◌, ℕ, zero, suc, true, cond, List, [], ◌∷◌, Some, None, length, take, drop, slice_get, min, refl, sym, ap, subst, arith}
use Rattle.std.proofs.lemmas.List.{take_rest}
use Rattle.base_words.specs.Fields.{Block}
use Rattle.lock_db.specs.declared.name.LockName.{LockName}
use Rattle.lock_db.specs.declared.name.LockName.TheVariants.{S}
use Rattle.plain_cat.specs.declared.ids.Fid.{Fid}
use Rattle.plain_cat.specs.declared.mode.Mode.{Mode}
use Rattle.plain_cat.specs.declared.reply.Refusal.TheVariants as refusal
use Rattle.vol_parts.specs.declared.geometry.Geometry.{Geometry}
use Rattle.vol_spell.specs.Reading.{header_place}
use Rattle.op_law.specs.declared.need.Need.TheVariants as need
use Rattle.op_law.specs.Events.{Events, Take, Look, Space, following, Follows}
use Rattle.op_law.specs.Rows.{is_number, refuses, look_all, through_header}
use Rattle.op_law.specs.Behind.{blocks_alone}

-- one of the places is not seen yet
pub one_unseen : (name : LockName) (ls : List ℕ) (next : List Block → Events) (locks : List (LockName × Mode)) (blocks : List (ℕ × Block)) (space : Space) (l : ℕ)
    → slice_get ls (length blocks) ≡ Some l → following (look_all name ls next) locks blocks space ≡ need.Block name l
one_unseen name [] next locks [] space l at = absurd (let f : None ≡ Some l = at in cc)
one_unseen name [] next locks (b ∷ blocks) space l at = absurd (let f : None ≡ Some l = at in cc)
one_unseen name (y ∷ ls) next locks [] space l at = let f : Some y ≡ Some l = at in let e : y ≡ l = cc in ap (λ k. need.Block name k) e
one_unseen name (y ∷ ls) next locks (b ∷ blocks) space l at = one_unseen name ls (λ bs. next (b.1 ∷ bs)) locks blocks space l at

-- all of the places are seen
all_seen : (name : LockName) (ls : List ℕ) (next : List Block → Events) (locks : List (LockName × Mode)) (blocks : List (ℕ × Block)) (space : Space)
    → slice_get ls (length blocks) ≡ None → following (look_all name ls next) locks blocks space ≡ following (next (blocks_alone (take (length ls) blocks))) locks (drop (length ls) blocks) space
all_seen name [] next locks blocks space none = refl
all_seen name (y ∷ ls) next locks [] space none = absurd (let f : Some y ≡ None = none in cc)
all_seen name (y ∷ ls) next locks (b ∷ blocks) space none = all_seen name ls (λ bs. next (b.1 ∷ bs)) locks blocks space none

no_fewer : (ls : List ℕ) (k : ℕ) → slice_get ls k ≡ None → length ls ≤ k
no_fewer [] k none = omega arith
no_fewer (y ∷ ls) zero none = absurd (let f : Some y ≡ None = none in cc)
no_fewer (y ∷ ls) (suc k) none = let h = no_fewer ls k none in omega arith

pub all_seen_to : (name : LockName) (ls : List ℕ) (next : List Block → Events) (locks : List (LockName × Mode)) (blocks : List (ℕ × Block)) (space : Space) (count all : ℕ)
    → length ls ≡ count → slice_get ls (length blocks) ≡ None → all ≡ min count (length blocks)
    → following (look_all name ls next) locks blocks space ≡ following (next (blocks_alone (take all blocks))) locks (take (length blocks - all) (drop all blocks)) space
all_seen_to name ls next locks blocks space count all size none is =
    let le = no_fewer ls (length blocks) none in
    let e : length ls ≡ all = omega arith in
    all_seen name ls next locks blocks space none
    ∙ ap (λ n. following (next (blocks_alone (take n blocks))) locks (drop n blocks) space) e
    ∙ ap (λ bs. following (next (blocks_alone (take all blocks))) locks bs space) (sym (take_rest blocks all))

-- ---- and what was seen behind them

all_follow : (name : LockName) (ls : List ℕ) (next : List Block → Events) (locks : List (LockName × Mode)) (blocks : List (ℕ × Block)) (space : Space) (given : Type 0)
    → slice_get ls (length blocks) ≡ None → Follows (look_all name ls next) locks blocks space given → Follows (next (blocks_alone (take (length ls) blocks))) locks (drop (length ls) blocks) space given
all_follow name [] next locks blocks space given none f = f
all_follow name (y ∷ ls) next locks [] space given none f = absurd (let k : Some y ≡ None = none in cc)
all_follow name (y ∷ ls) next locks (b ∷ blocks) space given none f = all_follow name ls (λ bs. next (b.1 ∷ bs)) locks blocks space given none f.1

pub all_follow_to : (name : LockName) (ls : List ℕ) (next : List Block → Events) (locks : List (LockName × Mode)) (blocks : List (ℕ × Block)) (space : Space) (given : Type 0) (count all : ℕ)
    → length ls ≡ count → slice_get ls (length blocks) ≡ None → all ≡ min count (length blocks) → Follows (look_all name ls next) locks blocks space given
    → Follows (next (blocks_alone (take all blocks))) locks (take (length blocks - all) (drop all blocks)) space given
all_follow_to name ls next locks blocks space given count all size none is f =
    let le = no_fewer ls (length blocks) none in
    let e : length ls ≡ all = omega arith in
    let there = all_follow name ls next locks blocks space given none f in
    subst (λ bs. Follows (next (blocks_alone (take all blocks))) locks bs space given) (sym (take_rest blocks all))
    (subst (λ n. Follows (next (blocks_alone (take n blocks))) locks (drop n blocks) space given) e there)

-- ---- a header

-- a file's lock and its header, where the number is one of the volume's
pub through_number : (g : Geometry) (fid : Fid) (mode : Mode) (next : Block → Events) (locks : List (LockName × Mode)) (blocks : List (ℕ × Block)) (space : Space) → is_number g fid ≡ true
    → following (through_header g fid mode next) locks blocks space ≡ following (Take (S fid.num) mode (Look (S fid.num) (header_place g fid.num) next)) locks blocks space
through_number g fid mode next locks blocks space e =
    ap (λ t. following (cond t (Take (S fid.num) mode (Look (S fid.num) (header_place g fid.num) next)) (refuses refusal.NoSuchFile)) locks blocks space) e

pub through_follows : (g : Geometry) (fid : Fid) (mode : Mode) (next : Block → Events) (locks : List (LockName × Mode)) (blocks : List (ℕ × Block)) (space : Space) (given : Type 0) → is_number g fid ≡ true
    → Follows (through_header g fid mode next) locks blocks space given → Follows (Take (S fid.num) mode (Look (S fid.num) (header_place g fid.num) next)) locks blocks space given
through_follows g fid mode next locks blocks space given e f =
    subst (λ t. Follows (cond t (Take (S fid.num) mode (Look (S fid.num) (header_place g fid.num) next)) (refuses refusal.NoSuchFile)) locks blocks space given) e f
