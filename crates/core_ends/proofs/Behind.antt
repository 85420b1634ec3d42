-- A command that has asked for V has asked for Q in PW before it.
use Rattle.std.proofs.Common.{◌≡◌, ◌++◌, ◌∙◌, ℕ, Bool, true, false, cond, List, [], ◌∷◌, refl, sym, ap, subst, inl, inr}
use Rattle.std.specs.Prelude.{MatchBool, ◌&&◌, Option}
use Rattle.base_words.specs.Fields.{Block}
use Rattle.lock_db.specs.declared.name.LockName.{LockName}
use Rattle.lock_db.specs.declared.name.LockName.TheVariants.{Q, V}
use Rattle.plain_cat.specs.declared.mode.Mode.{Mode}
use Rattle.plain_cat.specs.declared.mode.Mode.TheVariants.{PW}
use Rattle.plain_cat.specs.declared.command.Cmd.{Cmd}
use Rattle.plain_cat.specs.declared.reply.Refusal.{Refusal}
use Rattle.plain_cat.specs.declared.cat.Cat.{Cat}
use Rattle.base_words.specs.Lists.{Has, StandsIn}
use Rattle.vol_spell.specs.Owners.{Owners}
use Rattle.base_words.proofs.Listing.{has_first}
use Rattle.op_law.specs.declared.need.Need.TheVariants as need
use Rattle.op_law.specs.declared.seen.Seen.{Seen}
use Rattle.op_law.specs.Events.{Events, Take, Look, Fetch, Find, Make, Space, space_of, has_space, HasNoSpace, IsGiven, following, Follows}
use Rattle.op_law.specs.Needs.{events_of}
use Rattle.op_law.specs.Knows.{channel_of, has_channel, opens_hold, Wanted, wanted, is_short, is_new_number, usages_fit, knows}
use Rattle.op_law.specs.Fits.{HasSeen, IsSeenOn}
use Rattle.op_law.specs.Laws.{held_in, Lawful}
use Rattle.core_state.proofs.Holding.{held_grows}

module _ (base : List Block) (space : Space) (none : HasNoSpace space) where
  -- where V is needed next, behind these events, so it is of the locks before it
  abbrev IsSoAtV : (List (LockName × Mode) → Type 0) → Events → Type 0 → Type 0
  IsSoAtV P es given = (locks : List (LockName × Mode)) (blocks : List (ℕ × Block)) (mode : Mode) → StandsIn base blocks → Follows es locks blocks space given → following es locks blocks space ≡ need.Lock V mode → P locks

  -- then it is so of all locks where V is among them
  walks : (es : Events) (P : List (LockName × Mode) → Type 0) (given : Type 0) → given → ((xs ys : List (LockName × Mode)) → P xs → P (xs ++ ys)) → IsSoAtV P es given
      → (locks : List (LockName × Mode)) (blocks : List (ℕ × Block)) (mode : Mode) → StandsIn base blocks → Follows es locks blocks space given → Has locks (V, mode) → P locks
  walks (Take name kind next) P given g more so [] blocks mode stands f h = absurd h
  walks (Take name kind next) P given g more so (l ∷ locks) blocks mode stands f (inl e) =
      let is : (name, kind) ≡ (V, mode) = sym f.0 ∙ e in
      more [] (l ∷ locks) (so [] [] mode tt (refl, g) (λ i. need.Lock (is i).0 (is i).1))
  walks (Take name kind next) P given g more so (l ∷ locks) blocks mode stands f (inr h) =
      walks next (λ xs. P (l ∷ xs)) given g (λ xs ys. more (l ∷ xs) ys) (λ xs bs m st fo is. so (l ∷ xs) bs m st (f.0, fo) is) locks blocks mode stands f.1 h
  walks (Look name lbn next) P given g more so locks [] mode stands f h = absurd (subst (λ (ls : List (LockName × Mode)). Has ls (V, mode)) f.0 h)
  walks (Look name lbn next) P given g more so locks (b ∷ blocks) mode stands f h =
      walks (next b.1) P given g more (λ xs bs m st fo is. so xs (b ∷ bs) m (stands.0, st) (f.0, fo) is) locks blocks mode stands.1 f.1 h
  walks (Fetch lbn next) P given g more so locks [] mode stands f h = absurd (subst (λ (ls : List (LockName × Mode)). Has ls (V, mode)) f.0 h)
  walks (Fetch lbn next) P given g more so locks (b ∷ blocks) mode stands f h =
      walks (next b.1) P given g more (λ xs bs m st fo is. so xs (b ∷ bs) m (stands.0, st) (f.0, fo) is) locks blocks mode stands.1 f.1 h
  walks (Find clusters number next) P given g more so locks blocks mode stands f h =
      by_test (has_space clusters number space) refl f (walks (next space.clusters space.number space.short) P (IsGiven space.clusters space.number space.short)) where
        Behind : List (LockName × Mode) → List (ℕ × Block) → Type 0
        Behind ls bs = Follows (next space.clusters space.number space.short) ls bs space (IsGiven space.clusters space.number space.short)

        given_so : IsGiven space.clusters space.number space.short
        given_so = subst (IsGiven space.clusters space.number) (sym none.short) tt

        by_test : (b : Bool) → has_space clusters number space ≡ b → MatchBool b (Behind locks blocks) ((locks ≡ []) × (blocks ≡ []) × given)
            → (IsGiven space.clusters space.number space.short → ((xs ys : List (LockName × Mode)) → P xs → P (xs ++ ys)) → IsSoAtV P (next space.clusters space.number space.short) (IsGiven space.clusters space.number space.short)
            → (ls : List (LockName × Mode)) (bs : List (ℕ × Block)) (m : Mode) → StandsIn base bs → Behind ls bs → Has ls (V, m) → P ls)
            → P locks
        by_test true e fo rest = rest given_so more
            (λ xs bs m st behind is. so xs bs m st (subst (λ b. MatchBool b (Behind xs bs) ((xs ≡ []) × (bs ≡ []) × given)) (sym e) behind) ((λ i. cond (e i) (following (next space.clusters space.number space.short) xs bs space) (need.Space clusters number)) ∙ is))
            locks blocks mode stands fo h
        by_test false e fo rest = absurd (subst (λ (ls : List (LockName × Mode)). Has ls (V, mode)) fo.0 h)
  walks (Make plan) P given g more so locks blocks mode stands f h = absurd (subst (λ (ls : List (LockName × Mode)). Has ls (V, mode)) f.0 h)

-- a command to which no space was refused knew of the catalogue at first what it knows now
knows_before : (node : ℕ) (x : Cmd) (seen : Seen) (locks : List (LockName × Mode)) (blocks : List (ℕ × Block)) (c : Cat) → HasNoSpace (space_of seen) → knows node x seen c ≡ true → knows node x (record seen { locks = locks; blocks = blocks }) c ≡ true
knows_before node x seen locks blocks c none known =
    let before : Seen = record seen { locks = locks; blocks = blocks } in
    let P : Wanted → Option Refusal → Bool = λ k short. has_channel c node (channel_of x) seen.channel && (is_new_number seen.number && (is_short c k short && (usages_fit c x && opens_hold c x))) in
    ap (P (wanted before x)) none.short ∙ ap (P (wanted seen x)) (sym none.short) ∙ known

-- a command that was given nothing and has asked for V has asked for Q in PW
pub quota_before : (node : ℕ) (x : Cmd) (seen : Seen) (bs : List Block) (own : Owners) (c : Cat) (mode : Mode) → Lawful x → HasSeen x seen → IsSeenOn node x seen bs own c → HasNoSpace (space_of seen) → Has seen.locks (V, mode) → Has (held_in PW seen.locks) Q
quota_before node x seen bs own c mode law has on none h =
    walks bs (space_of seen) none (events_of seen.geometry seen.channel x) (λ ls. Has (held_in PW ls) Q) (HasNoSpace (space_of seen)) none
    (λ xs ys q. held_grows PW xs (xs ++ ys) Q (λ l k. has_first xs ys l k) q)
    (λ ls some m stands follows is. (law.needs node (record seen { locks = ls; blocks = some }) bs own c (need.Lock V m) follows (record { spelt = on.spelt; stands = stands; stock = on.stock; outs = on.outs; known = knows_before node x seen ls some c none on.known }) is).turn)
    seen.locks seen.blocks mode on.stands has h
