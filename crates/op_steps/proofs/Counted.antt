-- How many blocks were looked at: as many as were to be. A row of events that carries its blocks to its plan shows it.
use Rattle.std.proofs.Common.{◌≡◌, ◌∙◌, ◌<◌, ◌+◌, ℕ, Bool, true, false, List, [], ◌∷◌, length, map, All, sym, ap, arith}
use Rattle.std.proofs.lemmas.List.{length-map, get_or_default}
use Rattle.base_words.specs.Fields.{Block}
use Rattle.lock_db.specs.declared.name.LockName.{LockName}
use Rattle.lock_db.specs.declared.name.LockName.TheVariants.{V}
use Rattle.plain_cat.specs.declared.mode.Mode.{Mode}
use Rattle.plain_cat.specs.declared.history.Stage.TheVariants as stage
use Rattle.plain_cat.specs.declared.reply.Reply.TheVariants as reply
use Rattle.vol_parts.specs.declared.geometry.Geometry.{Geometry}
use Rattle.vol_parts.specs.Parts.{IsGeometry}
use Rattle.op_law.specs.declared.need.Need.{Need}
use Rattle.op_law.specs.declared.need.Need.TheVariants as need
use Rattle.op_law.specs.declared.need.Plan.{Plan}
use Rattle.op_law.specs.declared.seeing.Listed.{Listed}
use Rattle.op_law.specs.declared.seeing.Listed.TheVariants as listed
use Rattle.op_law.specs.Events.{Events, Make, Space, following}
use Rattle.op_law.specs.Rows.{look_all}
use Rattle.op_law.specs.Writing.{plan_of, write_at, empty_handed}
use Rattle.op_law.specs.Behind.{behind_all, blocks_alone}
use Rattle.op_law.specs.Freeing.{blocks_for}
use Rattle.op_steps.specs.Looked.{HasAll}
use Rattle.op_steps.proofs.Pushing.{few_blocks}

-- a plan that carries these blocks
abbrev pub carry : List Block → Plan
carry bs = plan_of (map (λ b. write_at V 0 b stage.Done empty_handed) bs) reply.Deleted

abbrev pub is_ready : Need → Bool
is_ready (need.Ready p) = true
is_ready other = false

abbrev pub count_of : Need → ℕ
count_of (need.Ready p) = length p.writes
count_of other = 0

pub carries_as_many : (bs seen : List Block) → need.Ready (carry bs) ≡ need.Ready (carry seen) → length bs ≡ length seen
carries_as_many bs seen e =
    sym (length-map bs (λ b. write_at V 0 b stage.Done empty_handed)) ∙ ap count_of e ∙ length-map seen (λ b. write_at V 0 b stage.Done empty_handed)

all_counted : (name : LockName) (places : List ℕ) (f : List Block → List Block) (n : ℕ) → ((bs : List Block) → length (f bs) ≡ n + length bs)
    → (locks : List (LockName × Mode)) (blocks : List (ℕ × Block)) (space : Space) (seen : List Block)
    → following (look_all name places (λ bs. Make (carry (f bs)))) locks blocks space ≡ need.Ready (carry seen) → length seen ≡ n + length places
all_counted name [] f n law locks blocks space seen e = sym (carries_as_many (f []) seen e) ∙ law []
all_counted name (l ∷ ls) f n law locks [] space seen e = absurd (let t : false ≡ true = ap is_ready e in cc)
all_counted name (l ∷ ls) f n law locks (x ∷ xs) space seen e =
    let more = all_counted name ls (λ bs. f (x.1 ∷ bs)) (n + 1) (λ bs. let one = law (x.1 ∷ bs) in omega arith) locks xs space seen e in
    omega arith

pub has_all : (name : LockName) (places : List ℕ) (locks : List (LockName × Mode)) (blocks : List (ℕ × Block)) (space : Space) (l : Listed)
    → ((next : List Block → Events) → following (look_all name places next) locks blocks space ≡ behind_all next space l) → HasAll (length places) l
has_all name places locks blocks space (listed.All seen rest) same =
    let count = length-map seen.now (λ (s : ℕ × Block). s.1) in
    let all = all_counted name places (λ bs. bs) 0 (λ bs. omega arith) locks blocks space (blocks_alone seen.now) (same (λ bs. Make (carry bs))) in
    omega arith
has_all name places locks blocks space (listed.Next need) same = tt

-- no volume has more than 16 blocks of the storage bitmap
pub all_few : (g : Geometry) (qs : List ℕ) → IsGeometry g → All (λ k. k < 16) (blocks_for g qs)
all_few g qs geometry = λ k d lt. rw (get_or_default (blocks_for g qs) k d 0 lt) (few_blocks g qs k geometry lt)
