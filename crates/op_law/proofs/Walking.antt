-- A walk along the events of a command: what each may need, and its plan.
use Rattle.std.proofs.Common.{◌≡◌, ◌∙◌, ℕ, Bool, true, false, cond, List, [], ◌∷◌, ◌++◌, Option, Some, slice_get, append_assoc, refl, sym, ap, subst}
use Rattle.std.specs.Prelude.{MatchBool}
use Rattle.std.proofs.lemmas.List.{append-nil}
use Rattle.base_words.specs.Fields.{Block}
use Rattle.lock_db.specs.declared.name.LockName.{LockName}
use Rattle.plain_cat.specs.declared.mode.Mode.{Mode}
use Rattle.plain_cat.specs.declared.command.Cmd.{Cmd}
use Rattle.plain_cat.specs.declared.cat.Cat.{Cat}
use Rattle.plain_cat.specs.declared.reply.Refusal.{Refusal}
use Rattle.base_words.specs.Lists.{StandsIn}
use Rattle.vol_spell.specs.Owners.{Owners}
use Rattle.op_law.specs.declared.need.Need.{Need}
use Rattle.op_law.specs.declared.need.Need.TheVariants as need
use Rattle.op_law.specs.declared.need.Plan.{Plan}
use Rattle.op_law.specs.declared.seen.Seen.{Seen}
use Rattle.vol_parts.specs.declared.geometry.Geometry.{Geometry}
use Rattle.op_law.specs.Events.{Events, Take, Look, Fetch, Find, Make, Space, space_of, has_space, HasNoSpace, IsGiven, HasNoSearch, SearchesOnce, following, Follows}
use Rattle.op_law.specs.Needs.{events_of, IsNext}
use Rattle.op_law.specs.Knows.{wanted}
use Rattle.op_law.specs.Fits.{HasSeen}
use Rattle.op_law.specs.Laws.{IsNewLock, IsLockedLook, IsGuardedLook, IsSearch, MayNeed}
use Rattle.op_law.proofs.Going.{Ready, ready_more, ready}

-- ---- what every plan is that a command may come to

-- each plan at the end of these events is so
abbrev pub EveryPlan : (Plan → Type 0) → Events → Type 0
EveryPlan P (Take name mode next) = EveryPlan P next
EveryPlan P (Look name lbn next) = (b : Block) → EveryPlan P (next b)
EveryPlan P (Fetch lbn next) = (b : Block) → EveryPlan P (next b)
EveryPlan P (Find clusters number next) = (cs : List ℕ) (n : Option ℕ) (short : Option Refusal) → EveryPlan P (next cs n short)
EveryPlan P (Make plan) = P plan

-- a need is a plan that is so, or no plan
abbrev IsPlanSo : (Plan → Type 0) → Need → Type 0
IsPlanSo P (need.Ready p) = P p
IsPlanSo P (need.Lock name mode) = Unit {0}
IsPlanSo P (need.Block name lbn) = Unit {0}
IsPlanSo P (need.Bare lbn) = Unit {0}
IsPlanSo P (need.Space clusters number) = Unit {0}

every_need : (P : Plan → Type 0) (es : Events) (locks : List (LockName × Mode)) (blocks : List (ℕ × Block)) (space : Space) → EveryPlan P es → IsPlanSo P (following es locks blocks space)
every_need P (Take name mode next) [] blocks space every = tt
every_need P (Take name mode next) (l ∷ locks) blocks space every = every_need P next locks blocks space every
every_need P (Look name lbn next) locks [] space every = tt
every_need P (Look name lbn next) locks (b ∷ blocks) space every = every_need P (next b.1) locks blocks space (every b.1)
every_need P (Fetch lbn next) locks [] space every = tt
every_need P (Fetch lbn next) locks (b ∷ blocks) space every = every_need P (next b.1) locks blocks space (every b.1)
every_need P (Find clusters number next) locks blocks space every =
    by_test (has_space clusters number space) (every_need P (next space.clusters space.number space.short) locks blocks space (every space.clusters space.number space.short)) where
      by_test : (t : Bool) → IsPlanSo P (following (next space.clusters space.number space.short) locks blocks space)
          → IsPlanSo P (cond t (following (next space.clusters space.number space.short) locks blocks space) (need.Space clusters number))
      by_test true so = so
      by_test false so = tt
every_need P (Make plan) locks blocks space every = every

pub every_plan : (P : Plan → Type 0) (es : Events) (locks : List (LockName × Mode)) (blocks : List (ℕ × Block)) (space : Space) (p : Plan) → EveryPlan P es → following es locks blocks space ≡ need.Ready p → P p
every_plan P es locks blocks space p every e = subst (IsPlanSo P) e (every_need P es locks blocks space every)

-- ---- what a command may need on the blocks of a volume

module _ (x : Cmd) (g : Geometry) (bs : List Block) (own : Owners) (c : Cat) (seen : Seen) (P : List (LockName × Mode) → Plan → Type 0) where
  -- The events of the command, which holds these locks by then, are such as it may need on these blocks, and with the space
  -- that was given each plan that it may come to on them, holding locks, is so.
  abbrev pub ObeysBy : Events → List (LockName × Mode) → Type 0
  ObeysBy (Take name mode next) held = IsNewLock x g bs own c held seen.number name mode × ObeysBy next (held ++ (name, mode) ∷ [])
  ObeysBy (Look name lbn next) held = IsLockedLook g bs own c held name lbn × ((b : Block) → slice_get bs lbn ≡ Some b → ObeysBy (next b) held)
  ObeysBy (Fetch lbn next) held = IsGuardedLook g bs own held lbn × ((b : Block) → slice_get bs lbn ≡ Some b → ObeysBy (next b) held)
  ObeysBy (Find clusters number next) held = IsSearch x held (wanted seen x) clusters number
      × (has_space clusters number (space_of seen) ≡ true → IsGiven seen.clusters seen.number seen.short → ObeysBy (next seen.clusters seen.number seen.short) held)
  ObeysBy (Make plan) held = P held plan

-- the same where only the plan matters
abbrev pub Obeys : Cmd → Geometry → List Block → Owners → Cat → Seen → (Plan → Type 0) → Events → List (LockName × Mode) → Type 0
Obeys x g bs own c seen P = ObeysBy x g bs own c seen (λ held. P)

-- what holds before a search holds on, where there is none
pub kept : (es : Events) (space : Space) (given : Type 0) (locks : List (LockName × Mode)) (blocks : List (ℕ × Block)) → HasNoSearch es → Follows es locks blocks space given → given
kept (Take name mode next) space given [] blocks once f = f.1
kept (Take name mode next) space given (l ∷ locks) blocks once f = kept next space given locks blocks once f.1
kept (Look name lbn next) space given locks [] once f = f.1
kept (Look name lbn next) space given locks (b ∷ blocks) once f = kept (next b.1) space given locks blocks (once b.1) f.1
kept (Fetch lbn next) space given locks [] once f = f.1
kept (Fetch lbn next) space given locks (b ∷ blocks) once f = kept (next b.1) space given locks blocks (once b.1) f.1
kept (Find clusters number next) space given locks blocks once f = absurd once
kept (Make plan) space given locks blocks once f = f.2

module _ (x : Cmd) (seen : Seen) (bs : List Block) (own : Owners) (c : Cat) (P : List (LockName × Mode) → Plan → Type 0) where
  -- the need is one that the command may have, or a plan that is so with the locks that are held
  abbrev pub IsFine : Need → Type 0
  IsFine (need.Ready p) = P seen.locks p
  IsFine (need.Lock name mode) = MayNeed x seen bs own c (need.Lock name mode)
  IsFine (need.Block name lbn) = MayNeed x seen bs own c (need.Block name lbn)
  IsFine (need.Bare lbn) = MayNeed x seen bs own c (need.Bare lbn)
  IsFine (need.Space clusters number) = MayNeed x seen bs own c (need.Space clusters number)

  -- the locks held by now are all
  all_held : (held locks : List (LockName × Mode)) → seen.locks ≡ held ++ locks → locks ≡ [] → held ≡ seen.locks
  all_held held locks e none = sym (append-nil held) ∙ ap (λ ls. held ++ ls) (sym none) ∙ sym e

  abbrev Walks : Events → Type 0 → List (LockName × Mode) → List (LockName × Mode) → List (ℕ × Block) → Type 0
  Walks es given held locks blocks = seen.locks ≡ held ++ locks → StandsIn bs blocks → Ready es (space_of seen) given
      → ObeysBy x seen.geometry bs own c seen P es held → Follows es locks blocks (space_of seen) given → IsFine (following es locks blocks (space_of seen))

  walks : (es : Events) (given : Type 0) (held locks : List (LockName × Mode)) (blocks : List (ℕ × Block)) → Walks es given held locks blocks
  walks (Take name mode next) given held [] blocks e stands r o f =
      let all = all_held held [] e refl in
      subst (λ ls. IsNewLock x seen.geometry bs own c ls seen.number name mode) all o.0
  walks (Take name mode next) given held (l ∷ locks) blocks e stands r o f =
      walks next given (held ++ (name, mode) ∷ []) locks blocks (e ∙ ap (λ k. held ++ k ∷ locks) f.0 ∙ sym (append_assoc held ((name, mode) ∷ []) locks)) stands r o.1 f.1
  walks (Look name lbn next) given held locks [] e stands r o f =
      let all = all_held held locks e f.0 in
      subst (λ ls. IsLockedLook seen.geometry bs own c ls name lbn) all o.0
  walks (Look name lbn next) given held locks (b ∷ blocks) e stands r o f =
      walks (next b.1) given held locks blocks e stands.1 (r b.1) (o.1 b.1 (subst (λ l. slice_get bs l ≡ Some b.1) f.0 stands.0)) f.1
  walks (Fetch lbn next) given held locks [] e stands r o f =
      let all = all_held held locks e f.0 in
      subst (λ ls. IsGuardedLook seen.geometry bs own ls lbn) all o.0
  walks (Fetch lbn next) given held locks (b ∷ blocks) e stands r o f =
      walks (next b.1) given held locks blocks e stands.1 (r b.1) (o.1 b.1 (subst (λ l. slice_get bs l ≡ Some b.1) f.0 stands.0)) f.1
  walks (Find clusters number next) given held locks blocks e stands r o f =
      by_test (walks (next seen.clusters seen.number seen.short) (IsGiven seen.clusters seen.number seen.short) held locks blocks)
      (has_space clusters number (space_of seen)) refl f where
        by_test : Walks (next seen.clusters seen.number seen.short) (IsGiven seen.clusters seen.number seen.short) held locks blocks → (t : Bool) → has_space clusters number (space_of seen) ≡ t
            → MatchBool t (Follows (next seen.clusters seen.number seen.short) locks blocks (space_of seen) (IsGiven seen.clusters seen.number seen.short)) ((locks ≡ []) × (blocks ≡ []) × given)
            → IsFine (cond t (following (next seen.clusters seen.number seen.short) locks blocks (space_of seen)) (need.Space clusters number))
        by_test more true has f =
            more e stands (ready_more (next seen.clusters seen.number seen.short) (space_of seen) (IsGiven seen.clusters seen.number seen.short) (r.1 seen.clusters seen.number seen.short))
            (o.1 has (kept (next seen.clusters seen.number seen.short) (space_of seen) (IsGiven seen.clusters seen.number seen.short) locks blocks (r.1 seen.clusters seen.number seen.short) f)) f
        by_test more false has f =
            let all = all_held held locks e f.0 in
            (subst (λ ls. IsSearch x ls (wanted seen x) clusters number) all o.0, r.0 f.2)
  walks (Make plan) given held locks blocks e stands r o f = subst (λ ls. P ls plan) (all_held held locks e f.0) o

  -- on blocks that have what a command has seen, whatever it needs next is fine
  pub next_fine : (next : Need) → SearchesOnce (events_of seen.geometry seen.channel x) → ObeysBy x seen.geometry bs own c seen P (events_of seen.geometry seen.channel x) [] → StandsIn bs seen.blocks
      → HasSeen x seen → IsNext x seen next → IsFine next
  next_fine next once o stands has is =
      let es = events_of seen.geometry seen.channel x in
      subst IsFine is (walks es (HasNoSpace (space_of seen)) [] seen.locks seen.blocks refl stands (ready es (space_of seen) once) o has)

  pub may_need : (next : Need) → IsFine next → MayNeed x seen bs own c next
  may_need (need.Ready p) f = tt
  may_need (need.Lock name mode) f = f
  may_need (need.Block name lbn) f = f
  may_need (need.Bare lbn) f = f
  may_need (need.Space clusters number) f = f
