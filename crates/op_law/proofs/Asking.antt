-- The law of a command that writes, and may ask for the lock of who has a file open.
use Rattle.std.proofs.Common.{◌≡◌, ◌≤◌, ◌∙◌, ℕ, zero, suc, Bool, true, false, cond, List, [], ◌∷◌, ◌++◌, Option, Some, None, map, length, take, append_assoc, refl, sym, ap, subst, arith}
use Rattle.std.specs.Prelude.{◌&&◌, not, MatchBool}
use Rattle.std.proofs.lemmas.List.{append-nil}
use Rattle.base_words.specs.Fields.{Block}
use Rattle.lock_db.specs.declared.name.LockName.{LockName}
use Rattle.lock_db.specs.declared.name.LockName.TheVariants.{S}
use Rattle.plain_cat.specs.declared.mode.Mode.{Mode}
use Rattle.plain_cat.specs.declared.mode.Mode.TheVariants.{PW}
use Rattle.plain_cat.specs.declared.command.Cmd.{Cmd}
use Rattle.plain_cat.specs.declared.history.Stage.TheVariants as stage
use Rattle.plain_cat.specs.declared.reply.Refusal.{Refusal}
use Rattle.plain_cat.specs.declared.cat.Cat.{Cat}
use Rattle.base_words.specs.Lists.{Has, StandsIn, written}
use Rattle.vol_spell.specs.Owners.{Owners, Things, Outs}
use Rattle.vol_parts.specs.declared.geometry.Geometry.{Geometry}
use Rattle.vol_spell.specs.Spelling.{Spells}
use Rattle.vol_under.specs.UnderWay.{PlannedWrite, StandsAt, bare, stage_after, outs_after}
use Rattle.vol_under.specs.Under.{Leaves, IsLawful}
use Rattle.op_law.specs.declared.need.Need.{Need}
use Rattle.op_law.specs.declared.need.Need.TheVariants as need
use Rattle.op_law.specs.declared.need.Plan.{Plan}
use Rattle.op_law.specs.declared.need.PlanWrite.{PlanWrite}
use Rattle.op_law.specs.declared.need.Ask.{Ask}
use Rattle.op_law.specs.declared.seen.Seen.{Seen}
use Rattle.op_law.specs.declared.seen.Chan.{Chan}
use Rattle.op_law.specs.Events.{Events, Take, Look, Fetch, Find, Make, Space, space_of, has_space, HasNoSpace, IsGiven, SearchesOnce, following, Follows}
use Rattle.op_law.specs.Knows.{channel_of, asking_part, may_ask, knows, is_granted}
use Rattle.op_law.specs.Needs.{events_of, IsNext}
use Rattle.op_law.specs.Fits.{HasSeen, things, IsSeenOn}
use Rattle.op_law.specs.Laws.{held_in, planned, under_way, MayNeed, IsRight, WritesNothing, IsPlan, Lawful}
use Rattle.op_law.proofs.Walking.{ObeysBy, IsFine, next_fine, may_need}
use Rattle.op_law.proofs.Brief.{Briefs, briefs}
use Rattle.op_law.proofs.Ends.{LeavesNothing, EndsBy, left_by}
use Rattle.op_law.proofs.Doing.{AreDone, done_right}

-- ---- every plan, with the locks that are held by then

-- each plan at the end of these events is so, with these locks and those that are taken
abbrev pub EveryEnd : (List (LockName × Mode) → Plan → Type 0) → Events → List (LockName × Mode) → Type 0
EveryEnd P (Take name mode next) held = EveryEnd P next (held ++ (name, mode) ∷ [])
EveryEnd P (Look name lbn next) held = (b : Block) → EveryEnd P (next b) held
EveryEnd P (Fetch lbn next) held = (b : Block) → EveryEnd P (next b) held
EveryEnd P (Find clusters number next) held = (cs : List ℕ) (n : Option ℕ) (short : Option Refusal) → EveryEnd P (next cs n short) held
EveryEnd P (Make plan) held = P held plan

module _ (P : List (LockName × Mode) → Plan → Type 0) (space : Space) (p : Plan) where
  every_end : (es : Events) (given : Type 0) (held locks : List (LockName × Mode)) (blocks : List (ℕ × Block)) → EveryEnd P es held → Follows es locks blocks space given → following es locks blocks space ≡ need.Ready p
      → P (held ++ locks) p
  every_end (Take name mode next) given held [] blocks every f e = absurd (let k : need.Lock name mode ≡ need.Ready p = e in cc)
  every_end (Take name mode next) given held (l ∷ locks) blocks every f e =
      subst (λ ls. P ls p) (append_assoc held ((name, mode) ∷ []) locks ∙ ap (λ k. held ++ k ∷ locks) (sym f.0)) (every_end next given (held ++ (name, mode) ∷ []) locks blocks every f.1 e)
  every_end (Look name lbn next) given held locks [] every f e = absurd (let k : need.Block name lbn ≡ need.Ready p = e in cc)
  every_end (Look name lbn next) given held locks (b ∷ blocks) every f e = every_end (next b.1) given held locks blocks (every b.1) f.1 e
  every_end (Fetch lbn next) given held locks [] every f e = absurd (let k : need.Bare lbn ≡ need.Ready p = e in cc)
  every_end (Fetch lbn next) given held locks (b ∷ blocks) every f e = every_end (next b.1) given held locks blocks (every b.1) f.1 e
  every_end (Find clusters number next) given held locks blocks every f e =
      by_test (every_end (next space.clusters space.number space.short) (IsGiven space.clusters space.number space.short) held locks blocks (every space.clusters space.number space.short)) (has_space clusters number space) f e where
        by_test : (Follows (next space.clusters space.number space.short) locks blocks space (IsGiven space.clusters space.number space.short)
            → following (next space.clusters space.number space.short) locks blocks space ≡ need.Ready p → P (held ++ locks) p) → (t : Bool)
            → MatchBool t (Follows (next space.clusters space.number space.short) locks blocks space (IsGiven space.clusters space.number space.short)) ((locks ≡ []) × (blocks ≡ []) × given)
            → cond t (following (next space.clusters space.number space.short) locks blocks space) (need.Space clusters number) ≡ need.Ready p → P (held ++ locks) p
        by_test more true f e = more f e
        by_test more false f e = absurd (let k : need.Space clusters number ≡ need.Ready p = e in cc)
  every_end (Make plan) given held locks blocks every f e =
      let k : need.Ready plan ≡ need.Ready p = e in
      let same : plan ≡ p = cc in
      subst (λ ls. P ls p) (sym (append-nil held) ∙ ap (λ ls. held ++ ls) (sym f.0)) (subst (λ (q : Plan). P held q) same every)

-- ---- a plan with an ask or none

-- an ask of the command, behind so many of the writes, for who has a file open whose lock is held in PW
pub record IsOwnAsk (x : Cmd) (locks : List (LockName × Mode)) (p : Plan) (a : Ask) : Type 0 where
  pub may : may_ask x ≡ true
  pub by : a.chan ≡ asking_part (channel_of x)
  pub held : Has (held_in PW locks) (S a.file)
  pub within : a.at ≤ length p.writes
  pub refused : WritesNothing p p.reply

-- a plan asks for nothing, or as the command may; and where it is refused it writes nothing
abbrev pub IsShapedBy : Cmd → List (LockName × Mode) → Plan → Option Ask → Type 0
IsShapedBy x locks p None = WritesNothing p p.reply
IsShapedBy x locks p (Some a) = IsOwnAsk x locks p a

module _ (x : Cmd) (node : ℕ) (seen : Seen) where
  -- Where the ask is granted on this catalogue all writes of the plan are done, with its reply; where it is not, those before it,
  -- with its refusal.
  pub record IsDoneEither (bs : List Block) (own : Owners) (c : Cat) (stock : Things) (held : List (LockName × Mode)) (p : Plan) (a : Ask) : Type 0 where
    pub granted : is_granted node a c ≡ true → AreDone x node seen bs own c stock held p.writes p.reply
    pub refused : is_granted node a c ≡ false → AreDone x node seen bs own c stock held (take a.at p.writes) a.refused

  -- the same of a plan with an ask or none
  abbrev pub IsDoneBy : List Block → Owners → Cat → Things → List (LockName × Mode) → Plan → Option Ask → Type 0
  IsDoneBy bs own c stock held p None = AreDone x node seen bs own c stock held p.writes p.reply
  IsDoneBy bs own c stock held p (Some a) = IsDoneEither bs own c stock held p a

-- A command that searches for space at most once, whose plans ask as it may, refuse without a write and leave nothing outside,
-- and which on all blocks that have what it has seen needs what it may, is brief, and has a plan that is done, whether its ask is
-- granted or not.
pub record Asks (x : Cmd) : Type 0 where
  pub searches : (g : Geometry) (channel : Option Chan) → SearchesOnce (events_of g channel x)
  pub shaped : (g : Geometry) (channel : Option Chan) → EveryEnd (λ held p. IsShapedBy x held p p.ask) (events_of g channel x) []
  pub ends : (g : Geometry) (channel : Option Chan) (space : Space) → EndsBy (things space.clusters space.number) (HasNoSpace space) (events_of g channel x)
  pub obeys : (node : ℕ) (seen : Seen) (bs : List Block) (own : Owners) (c : Cat) (stock : Things) → Spells seen.geometry bs own c → Outs node own (things seen.clusters seen.number) stock → knows node x seen c ≡ true → HasSeen x seen
      → ObeysBy x seen.geometry bs own c seen (λ held p. IsDoneBy x node seen bs own c stock held p p.ask) (events_of seen.geometry seen.channel x) []
  pub brief : Briefs x

-- ---- the first writes of a plan

within_all : (k m : ℕ) (ws : List PlanWrite) → k ≤ length (map planned (take m ws)) → k ≤ length (map planned ws)
within_all zero m ws le = omega arith
within_all (suc k) zero ws le = absurd (omega arith)
within_all (suc k) (suc m) [] le = absurd (omega arith)
within_all (suc k) (suc m) (w ∷ ws) le = let h = within_all k m ws (omega arith) in omega arith

same_first : (k m : ℕ) (ws : List PlanWrite) → k ≤ length (map planned (take m ws)) → take k (map planned ws) ≡ take k (map planned (take m ws))
same_first zero m ws le = refl
same_first (suc k) zero ws le = absurd (omega arith)
same_first (suc k) (suc m) [] le = refl
same_first (suc k) (suc m) (w ∷ ws) le = ap (λ us. planned w ∷ us) (same_first k m ws (omega arith))

pub both : (a b : Bool) → a ≡ true → b ≡ true → (a && b) ≡ true
both a b p q = subst (λ t. (t && b) ≡ true) (sym p) q

pub parted : (a b : Bool) → (a && b) ≡ true → (a ≡ true) × (b ≡ true)
parted true b e = (refl, e)
parted false b e = absurd (let f : false ≡ true = e in cc)

pub not_so : (b : Bool) → not b ≡ true → b ≡ false
not_so true e = absurd (let f : false ≡ true = e in cc)
not_so false e = refl

-- ---- the law

module _ (x : Cmd) (asks : Asks x) (node : ℕ) (seen : Seen) (has : HasSeen x seen) where
  abbrev took : Things
  took = things seen.clusters seen.number

  fine : (bs : List Block) (own : Owners) (c : Cat) (stock : Things) (next : Need) → Spells seen.geometry bs own c → knows node x seen c ≡ true → StandsIn bs seen.blocks → Outs node own (things seen.clusters seen.number) stock → IsNext x seen next
      → IsFine x seen bs own c (λ held p. IsDoneBy x node seen bs own c stock held p p.ask) next
  fine bs own c stock next s known stands outs goes =
      next_fine x seen bs own c (λ held p. IsDoneBy x node seen bs own c stock held p p.ask) next (asks.searches seen.geometry seen.channel) (asks.obeys node seen bs own c stock s outs known has) stands has goes

  may : (bs : List Block) (own : Owners) (c : Cat) (next : Need) → IsSeenOn node x seen bs own c → IsNext x seen next → MayNeed x seen bs own c next
  may bs own c next on goes =
      may_need x seen bs own c (λ held p. IsDoneBy x node seen bs own c on.stock held p p.ask) next (fine bs own c on.stock next on.spelt on.known on.stands on.outs goes)

  module _ (p : Plan) (ready : IsNext x seen (need.Ready p)) where
    shaped_so : IsShapedBy x seen.locks p p.ask
    shaped_so = every_end (λ held q. IsShapedBy x held q q.ask) (space_of seen) p (events_of seen.geometry seen.channel x) (HasNoSpace (space_of seen)) [] seen.locks seen.blocks (asks.shaped seen.geometry seen.channel) has ready

    left_so : LeavesNothing took p p.ask
    left_so = left_by (space_of seen) p (events_of seen.geometry seen.channel x) (HasNoSpace (space_of seen)) seen.locks seen.blocks (asks.ends seen.geometry seen.channel (space_of seen)) has ready

    -- on all blocks of the plan's law
    abbrev IsMade : Option Ask → Type 0
    IsMade o = (base : List Block) (own : Owners) (c : Cat) (stock : Things) → Spells seen.geometry base own c → knows node x seen c ≡ true → StandsIn base seen.blocks → Outs node own took stock → IsDoneBy x node seen base own c stock seen.locks p o

    module _ (a : Ask) (own_ask : IsOwnAsk x seen.locks p a) (left : LeavesNothing took p (Some a)) (made : IsMade (Some a)) where
      granted : IsRight node x seen.geometry p.writes (under_way x seen p.writes (λ c. knows node x seen c && is_granted node a c)) p.reply
      granted = done_right x node seen (λ c. knows node x seen c && is_granted node a c) p.writes p.reply
          (λ base own c stock s known stands outs. let parts = parted (knows node x seen c) (is_granted node a c) known in (made base own c stock s parts.0 stands outs).granted parts.1) left.0

      refused : IsRight node x seen.geometry (take a.at p.writes) (under_way x seen (take a.at p.writes) (λ c. knows node x seen c && not (is_granted node a c))) a.refused
      refused = done_right x node seen (λ c. knows node x seen c && not (is_granted node a c)) (take a.at p.writes) a.refused
          (λ base own c stock s known stands outs. let parts = parted (knows node x seen c) (not (is_granted node a c)) known in (made base own c stock s parts.0 stands outs).refused (not_so (is_granted node a c) parts.1)) left.1

      -- the writes before the ask are lawful whether it is granted or not
      first : IsLawful seen.geometry node (under_way x seen (take a.at p.writes) (knows node x seen))
      first base own c stock k s known stands outs le = by_granted (is_granted node a c) refl where
        by_granted : (t : Bool) → is_granted node a c ≡ t → Leaves seen.geometry node (under_way x seen (take a.at p.writes) (knows node x seen)) base own c stock k
        by_granted false e =
            let h = refused.lawful base own c stock k s (both (knows node x seen c) _ known (ap not e)) stands outs le in
            record { new = h.new; cat = h.cat; stage = h.stage; spelt = h.spelt; moves = h.moves; outs = h.outs }
        by_granted true e =
            let h = granted.lawful base own c stock k s (both (knows node x seen c) _ known e) stands outs (within_all k a.at p.writes le) in
            let same : take k (map planned p.writes) ≡ take k (map planned (take a.at p.writes)) = same_first k a.at p.writes le in
            record {
              new = h.new;
              cat = h.cat;
              stage = subst (λ (vs : List PlannedWrite). StandsAt c node (Some x) (stage_after stage.Nothing vs) h.cat) same h.stage;
              spelt = subst (λ (vs : List PlannedWrite). Spells seen.geometry (written (bare vs) base) h.new h.cat) same h.spelt;
              moves = h.moves;
              outs = subst (λ (vs : List PlannedWrite). Outs node h.new (outs_after took vs) stock) same h.outs;
            }

      asked : IsPlan node x seen p (Some a)
      asked = (record { may = own_ask.may; by = own_ask.by; held = own_ask.held; within = own_ask.within }, granted, refused, first)

    by_ask : (o : Option Ask) → IsShapedBy x seen.locks p o → LeavesNothing took p o → IsMade o → IsPlan node x seen p o
    by_ask None shaped left made = done_right x node seen (knows node x seen) p.writes p.reply made left
    by_ask (Some a) shaped left made = asked a shaped left made

    plan_right : IsPlan node x seen p p.ask
    plan_right = by_ask p.ask shaped_so left_so (λ base own c stock s known stands outs. fine base own c stock (need.Ready p) s known stands outs ready)

    nothing_written : WritesNothing p p.reply
    nothing_written = of_ask p.ask shaped_so where
      of_ask : (o : Option Ask) → IsShapedBy x seen.locks p o → WritesNothing p p.reply
      of_ask None shaped = shaped
      of_ask (Some a) shaped = shaped.refused

pub asks_lawful : (x : Cmd) → Asks x → Lawful x
asks_lawful x asks = record {
  searches = asks.searches;
  needs = λ node seen bs own c next has on goes. may x asks node seen has bs own c next on goes;
  plans = λ node seen p has ready. plan_right x asks node seen has p ready;
  refusals = λ seen p has ready. nothing_written x asks 0 seen has p ready;
  brief = briefs x asks.brief;
}
