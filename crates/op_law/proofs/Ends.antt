-- What is outside after the writes of a plan, and the stage after them.
use Rattle.std.proofs.Common.{◌≡◌, ◌∙◌, ◌<◌, ◌-◌, ℕ, zero, suc, Bool, true, false, cond, List, [], ◌∷◌, ◌++◌, Option, Some, None, map, length, take, drop, refl, sym, ap, subst, inl, inr, arith}
use Rattle.std.specs.Prelude.{MatchBool}
use Rattle.base_words.specs.Fields.{Block}
use Rattle.fx_dir.specs.declared.Move.{Move}
use Rattle.lock_db.specs.declared.name.LockName.{LockName}
use Rattle.plain_cat.specs.declared.entries.DirEnt.{DirEnt}
use Rattle.plain_cat.specs.declared.mode.Mode.{Mode}
use Rattle.plain_cat.specs.declared.history.Stage.{Stage}
use Rattle.plain_cat.specs.declared.reply.Refusal.{Refusal}
use Rattle.plain_cat.specs.declared.reply.Refusal.TheVariants as refusal
use Rattle.vol_spell.specs.Owners.{Things, nothing}
use Rattle.base_words.proofs.Listing.{has_parted}
use Rattle.vol_under.specs.UnderWay.{stage_after, outs_after}
use Rattle.op_law.specs.declared.need.Need.TheVariants as need
use Rattle.op_law.specs.declared.need.Plan.{Plan}
use Rattle.op_law.specs.declared.need.PlanWrite.{PlanWrite}
use Rattle.op_law.specs.declared.need.Ask.{Ask}
use Rattle.op_law.specs.Events.{Events, Take, Look, Fetch, Find, Make, Space, has_space, HasNoSpace, IsGiven, following, Follows}
use Rattle.op_law.specs.Moving.{SeenDir, move_write, insertion_moves, insertion_writes}
use Rattle.op_law.specs.Fits.{things}
use Rattle.op_law.specs.Laws.{planned, KeepsOut}

-- ---- writes behind writes

-- what is outside, and the stage, after writes are those after the writes behind them, where these say them whatever comes before
pub outs_behind : (vs ws : List PlanWrite) (o t : Things) → ((o : Things) → outs_after o (map planned ws) ≡ t) → outs_after o (map planned (vs ++ ws)) ≡ t
outs_behind [] ws o t e = e o
outs_behind (v ∷ vs) ws o t e = outs_behind vs ws (planned v).outs t e

pub stage_behind : (vs ws : List PlanWrite) (s t : Stage) → ((s : Stage) → stage_after s (map planned ws) ≡ t) → stage_after s (map planned (vs ++ ws)) ≡ t
stage_behind [] ws s t e = e s
stage_behind (v ∷ vs) ws s t e = stage_behind vs ws v.stage t e

-- moves leave nothing outside
moves_outs : (d : SeenDir) (s : Stage) (ms : List Move) (ws : List PlanWrite) → outs_after nothing (map planned ws) ≡ nothing → outs_after nothing (map planned (map (move_write d s) ms ++ ws)) ≡ nothing
moves_outs d s [] ws e = e
moves_outs d s (m ∷ ms) ws e = moves_outs d s ms ws e

last_moves_outs : (d : SeenDir) (s : Stage) (ms : List Move) → outs_after nothing (map planned (map (move_write d s) ms)) ≡ nothing
last_moves_outs d s [] = refl
last_moves_outs d s (m ∷ ms) = last_moves_outs d s ms

-- the last of them decides
last_moves_stage : (d : SeenDir) (s t : Stage) (m : Move) (ms : List Move) → stage_after s (map planned (map (move_write d t) (m ∷ ms))) ≡ t
last_moves_stage d s t m [] = refl
last_moves_stage d s t m (n ∷ ms) = last_moves_stage d t t n ms

moves_stage : (d : SeenDir) (s before after : Stage) (ms : List Move) (k : ℕ) → k < length ms → stage_after s (map planned (map (move_write d before) (take k ms) ++ map (move_write d after) (drop k ms))) ≡ after
moves_stage d s before after [] k lt = absurd (omega arith)
moves_stage d s before after (m ∷ ms) zero lt = last_moves_stage d s after m ms
moves_stage d s before after (m ∷ ms) (suc k) lt = moves_stage d before before after ms k (omega arith)

pub insertion_outs : (d : SeenDir) (e : DirEnt) (before after : Stage) → outs_after nothing (map planned (insertion_writes d e before after)) ≡ nothing
unfolding insertion_writes
insertion_outs d e before after =
    let ms = insertion_moves d e in
    moves_outs d before (take (length ms - 1) ms) (map (move_write d after) (drop (length ms - 1) ms)) (last_moves_outs d after (drop (length ms - 1) ms))

pub insertion_stage : (d : SeenDir) (e : DirEnt) (s before after : Stage) → length (insertion_moves d e) - 1 < length (insertion_moves d e) → stage_after s (map planned (insertion_writes d e before after)) ≡ after
unfolding insertion_writes
insertion_stage d e s before after lt = let ms = insertion_moves d e in moves_stage d s before after ms (length ms - 1) lt

-- ---- what is outside after each write

module _ (given : Things) (locks : List LockName) where
  -- writes behind writes
  pub both_kept : (vs ws : List PlanWrite) → KeepsOut given locks vs → KeepsOut given locks ws → KeepsOut given locks (vs ++ ws)
  both_kept vs ws first behind w t = elim (has_parted vs ws w t) [ inl h ↦ first w h | inr h ↦ behind w h ]

  moves_kept : (d : SeenDir) (s : Stage) (ms : List Move) → KeepsOut given locks (map (move_write d s) ms)
  moves_kept d s [] w t = absurd t
  moves_kept d s (m ∷ ms) w (inl e) = inl (ap (λ (v : PlanWrite). (planned v).outs) (sym e))
  moves_kept d s (m ∷ ms) w (inr t) = moves_kept d s ms w t

  pub insertion_kept : (d : SeenDir) (e : DirEnt) (before after : Stage) → KeepsOut given locks (insertion_writes d e before after)
  unfolding insertion_writes
  insertion_kept d e before after =
      let ms = insertion_moves d e in
      both_kept (map (move_write d before) (take (length ms - 1) ms)) (map (move_write d after) (drop (length ms - 1) ms))
      (moves_kept d before (take (length ms - 1) ms)) (moves_kept d after (drop (length ms - 1) ms))

-- ---- what every plan leaves outside

-- after the writes of a plan nothing is outside, where this was taken, nor after those before its ask
abbrev pub LeavesNothing : Things → Plan → Option Ask → Type 0
LeavesNothing took p None = outs_after took (map planned p.writes) ≡ nothing
LeavesNothing took p (Some a) = (outs_after took (map planned p.writes) ≡ nothing) × (outs_after took (map planned (take a.at p.writes)) ≡ nothing)

-- each plan leaves nothing outside, where this was taken and where what holds at its place in the events holds
abbrev pub EndsBy : Things → Type 0 → Events → Type 0
EndsBy took given (Take name mode next) = EndsBy took given next
EndsBy took given (Look name lbn next) = (b : Block) → EndsBy took given (next b)
EndsBy took given (Fetch lbn next) = (b : Block) → EndsBy took given (next b)
EndsBy took given (Find clusters number next) =
    (cs : List ℕ) (n : Option ℕ) (short : Option Refusal) → has_space clusters number (record { clusters = cs; number = n; short = short }) ≡ true → EndsBy (things cs n) (IsGiven cs n short) (next cs n short)
EndsBy took given (Make plan) = given → LeavesNothing took plan plan.ask

module _ (space : Space) (p : Plan) where
  abbrev took : Things
  took = things space.clusters space.number

  abbrev IsLeft : Type 0
  IsLeft = LeavesNothing took p p.ask

  pub left_by : (es : Events) (given : Type 0) (locks : List (LockName × Mode)) (blocks : List (ℕ × Block)) → EndsBy took given es → Follows es locks blocks space given → following es locks blocks space ≡ need.Ready p → IsLeft
  left_by (Take name mode next) given [] blocks ends f e = absurd (let k : need.Lock name mode ≡ need.Ready p = e in cc)
  left_by (Take name mode next) given (l ∷ locks) blocks ends f e = left_by next given locks blocks ends f.1 e
  left_by (Look name lbn next) given locks [] ends f e = absurd (let k : need.Block name lbn ≡ need.Ready p = e in cc)
  left_by (Look name lbn next) given locks (b ∷ blocks) ends f e = left_by (next b.1) given locks blocks (ends b.1) f.1 e
  left_by (Fetch lbn next) given locks [] ends f e = absurd (let k : need.Bare lbn ≡ need.Ready p = e in cc)
  left_by (Fetch lbn next) given locks (b ∷ blocks) ends f e = left_by (next b.1) given locks blocks (ends b.1) f.1 e
  left_by (Find clusters number next) given locks blocks ends f e =
      by_test (left_by (next space.clusters space.number space.short) (IsGiven space.clusters space.number space.short) locks blocks) (has_space clusters number space) refl f e where
        by_test : (EndsBy took (IsGiven space.clusters space.number space.short) (next space.clusters space.number space.short)
            → Follows (next space.clusters space.number space.short) locks blocks space (IsGiven space.clusters space.number space.short)
            → following (next space.clusters space.number space.short) locks blocks space ≡ need.Ready p → IsLeft) → (t : Bool) → has_space clusters number space ≡ t
            → MatchBool t (Follows (next space.clusters space.number space.short) locks blocks space (IsGiven space.clusters space.number space.short)) ((locks ≡ []) × (blocks ≡ []) × given)
            → cond t (following (next space.clusters space.number space.short) locks blocks space) (need.Space clusters number) ≡ need.Ready p → IsLeft
        by_test more true has f e = more (ends space.clusters space.number space.short has) f e
        by_test more false has f e = absurd (let k : need.Space clusters number ≡ need.Ready p = e in cc)
  left_by (Make plan) given locks blocks ends f e =
      let k : need.Ready plan ≡ need.Ready p = e in
      let same : plan ≡ p = cc in
      subst (λ (q : Plan). LeavesNothing took q q.ask) same (ends f.2)

-- before a search nothing was given
pub nothing_given : (space : Space) → HasNoSpace space → things space.clusters space.number ≡ nothing
nothing_given space h = ap (λ m. things space.clusters m) h.number ∙ ap (λ xs. things xs None) h.clusters

-- what a refusal of space leaves is nothing
pub given_nothing : (cs : List ℕ) (n : Option ℕ) (r : Refusal) → IsGiven cs n (Some r) → things cs n ≡ nothing
given_nothing cs n r h = let e = given_parts r h in ap (λ m. things cs m) e.1 ∙ ap (λ xs. things xs None) e.0 where
  given_parts : (r : Refusal) → IsGiven cs n (Some r) → (cs ≡ []) × (n ≡ None)
  given_parts refusal.IndexFull h = h
  given_parts refusal.DeviceFull h = h
  given_parts other h = absurd h
