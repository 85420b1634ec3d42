-- What was seen stays the first of what a command needs while its needs are met.
use Rattle.std.proofs.Common.{◌≡◌, ◌∙◌, ℕ, Bool, true, false, cond, List, [], ◌∷◌, ◌++◌, Option, Some, None, length, refl, sym, ap, subst, ◌⊎◌, inl, inr, arith}
use Rattle.std.proofs.lemmas.Bool.Decides.{nat_tests}
use Rattle.std.specs.Prelude.{◌==◌, ◌&&◌, MatchBool}
use Rattle.base_words.specs.Fields.{Block}
use Rattle.lock_db.specs.declared.name.LockName.{LockName}
use Rattle.plain_cat.specs.declared.mode.Mode.{Mode}
use Rattle.plain_cat.specs.declared.reply.Refusal.{Refusal}
use Rattle.plain_cat.specs.declared.reply.Refusal.TheVariants.{IndexFull, DeviceFull}
use Rattle.op_law.specs.declared.need.Need.TheVariants as need
use Rattle.op_law.specs.Events.{Events, Take, Look, Fetch, Find, Make, Space, space_of, has_number, has_space, HasNoSpace, IsGiven, HasNoSearch, SearchesOnce, following, Follows}
use Rattle.op_law.specs.Needs.{events_of}
use Rattle.op_law.specs.Going.{IsLookAt, SeenGoesOn}

-- Where nothing more is seen it may stay so, from each of these events on: what holds before a search says that no space was given.
abbrev pub Ready : Events → Space → Type 0 → Type 0
Ready (Take name mode next) space given = Ready next space given
Ready (Look name lbn next) space given = (b : Block) → Ready (next b) space given
Ready (Fetch lbn next) space given = (b : Block) → Ready (next b) space given
Ready (Find clusters number next) space given = (given → HasNoSpace space) × ((cs : List ℕ) (n : Option ℕ) (short : Option Refusal) → HasNoSearch (next cs n short))
Ready (Make plan) space given = Unit {0}

pub ready_more : (es : Events) (space : Space) (given : Type 0) → HasNoSearch es → Ready es space given
ready_more (Take name mode next) space given once = ready_more next space given once
ready_more (Look name lbn next) space given once = λ b. ready_more (next b) space given (once b)
ready_more (Fetch lbn next) space given once = λ b. ready_more (next b) space given (once b)
ready_more (Find clusters number next) space given once = absurd once
ready_more (Make plan) space given once = tt

pub ready : (es : Events) (space : Space) → SearchesOnce es → Ready es space (HasNoSpace space)
ready (Take name mode next) space once = ready next space once
ready (Look name lbn next) space once = λ b. ready (next b) space (once b)
ready (Fetch lbn next) space once = λ b. ready (next b) space (once b)
ready (Find clusters number next) space once = (λ h. h, once)
ready (Make plan) space once = tt

-- what holds behind a search
abbrev Behind : Space → Type 0
Behind space = IsGiven space.clusters space.number space.short

start : (es : Events) (space : Space) (given : Type 0) → Ready es space given → given → Follows es [] [] space given
start (Take name mode next) space given r h = (refl, h)
start (Look name lbn next) space given r h = (refl, h)
start (Fetch lbn next) space given r h = (refl, h)
start (Find clusters number next) space given r h =
    let none = r.0 h in
    let first : Behind space = subst (λ s. IsGiven space.clusters space.number s) (sym none.short) tt in
    by_test (start (next space.clusters space.number space.short) space (Behind space) (ready_more (next space.clusters space.number space.short) space (Behind space) (r.1 space.clusters space.number space.short)) first)
    (has_space clusters number space) where
      by_test : Follows (next space.clusters space.number space.short) [] [] space (Behind space) → (t : Bool)
          → MatchBool t (Follows (next space.clusters space.number space.short) [] [] space (Behind space)) ((◌≡◌ {A = List (LockName × Mode)} [] []) × (◌≡◌ {A = List (ℕ × Block)} [] []) × given)
      by_test there true = there
      by_test there false = (refl, refl, h)
start (Make plan) space given r h = (refl, refl, h)

module _ (space : Space) (name : LockName) (mode : Mode) where
  granted : (es : Events) (given : Type 0) (locks : List (LockName × Mode)) (blocks : List (ℕ × Block)) → Ready es space given → Follows es locks blocks space given
      → following es locks blocks space ≡ need.Lock name mode → Follows es (locks ++ (name, mode) ∷ []) blocks space given
  granted (Take n m next) given [] blocks r f e =
      let k : need.Lock n m ≡ need.Lock name mode = e in
      let a : name ≡ n = cc in
      let b : mode ≡ m = cc in
      ((λ i. (a i, b i)), subst (λ bs. Follows next [] bs space given) (sym f.0) (start next space given r f.1))
  granted (Take n m next) given (l ∷ locks) blocks r f e = (f.0, granted next given locks blocks r f.1 e)
  granted (Look n lbn next) given locks [] r f e = absurd (let k : need.Block n lbn ≡ need.Lock name mode = e in cc)
  granted (Look n lbn next) given locks (b ∷ blocks) r f e = (f.0, granted (next b.1) given locks blocks (r b.1) f.1 e)
  granted (Fetch lbn next) given locks [] r f e = absurd (let k : need.Bare lbn ≡ need.Lock name mode = e in cc)
  granted (Fetch lbn next) given locks (b ∷ blocks) r f e = (f.0, granted (next b.1) given locks blocks (r b.1) f.1 e)
  granted (Find clusters number next) given locks blocks r f e =
      by_test (granted (next space.clusters space.number space.short) (Behind space) locks blocks (ready_more (next space.clusters space.number space.short) space (Behind space) (r.1 space.clusters space.number space.short)))
      (has_space clusters number space) f e where
        there : Type 0
        there = Follows (next space.clusters space.number space.short) locks blocks space (Behind space) → following (next space.clusters space.number space.short) locks blocks space ≡ need.Lock name mode
            → Follows (next space.clusters space.number space.short) (locks ++ (name, mode) ∷ []) blocks space (Behind space)

        by_test : there → (t : Bool) → MatchBool t (Follows (next space.clusters space.number space.short) locks blocks space (Behind space)) ((locks ≡ []) × (blocks ≡ []) × given)
            → cond t (following (next space.clusters space.number space.short) locks blocks space) (need.Space clusters number) ≡ need.Lock name mode
            → MatchBool t (Follows (next space.clusters space.number space.short) (locks ++ (name, mode) ∷ []) blocks space (Behind space)) ((locks ++ (name, mode) ∷ [] ≡ []) × (blocks ≡ []) × given)
        by_test more true f e = more f e
        by_test more false f e = absurd (let k : need.Space clusters number ≡ need.Lock name mode = e in cc)
  granted (Make plan) given locks blocks r f e = absurd (let k : need.Ready plan ≡ need.Lock name mode = e in cc)

module _ (space : Space) (lbn : ℕ) (x : Block) where
  looked : (es : Events) (given : Type 0) (locks : List (LockName × Mode)) (blocks : List (ℕ × Block)) → Ready es space given → Follows es locks blocks space given
      → IsLookAt lbn (following es locks blocks space) → Follows es locks (blocks ++ (lbn, x) ∷ []) space given
  looked (Take n m next) given [] blocks r f e = absurd e
  looked (Take n m next) given (l ∷ locks) blocks r f e = (f.0, looked next given locks blocks r f.1 e)
  looked (Look n l next) given locks [] r f e = (sym e, subst (λ ls. Follows (next x) ls [] space given) (sym f.0) (start (next x) space given (r x) f.1))
  looked (Look n l next) given locks (b ∷ blocks) r f e = (f.0, looked (next b.1) given locks blocks (r b.1) f.1 e)
  looked (Fetch l next) given locks [] r f e = (sym e, subst (λ ls. Follows (next x) ls [] space given) (sym f.0) (start (next x) space given (r x) f.1))
  looked (Fetch l next) given locks (b ∷ blocks) r f e = (f.0, looked (next b.1) given locks blocks (r b.1) f.1 e)
  looked (Find clusters number next) given locks blocks r f e =
      by_test (looked (next space.clusters space.number space.short) (Behind space) locks blocks (ready_more (next space.clusters space.number space.short) space (Behind space) (r.1 space.clusters space.number space.short)))
      (has_space clusters number space) f e where
        there : Type 0
        there = Follows (next space.clusters space.number space.short) locks blocks space (Behind space) → IsLookAt lbn (following (next space.clusters space.number space.short) locks blocks space)
            → Follows (next space.clusters space.number space.short) locks (blocks ++ (lbn, x) ∷ []) space (Behind space)

        by_test : there → (t : Bool) → MatchBool t (Follows (next space.clusters space.number space.short) locks blocks space (Behind space)) ((locks ≡ []) × (blocks ≡ []) × given)
            → IsLookAt lbn (cond t (following (next space.clusters space.number space.short) locks blocks space) (need.Space clusters number))
            → MatchBool t (Follows (next space.clusters space.number space.short) locks (blocks ++ (lbn, x) ∷ []) space (Behind space)) ((locks ≡ []) × (blocks ++ (lbn, x) ∷ [] ≡ []) × given)
        by_test more true f e = more f e
        by_test more false f e = absurd e
  looked (Make plan) given locks blocks r f e = absurd e

-- no search, no need of space
no_space_need : (space : Space) (clusters : ℕ) (number : Bool) (es : Events) (locks : List (LockName × Mode)) (blocks : List (ℕ × Block)) → HasNoSearch es
    → following es locks blocks space ≡ need.Space clusters number → ⊥
no_space_need space c n (Take name mode next) [] blocks once e = absurd (let k : need.Lock name mode ≡ need.Space c n = e in cc)
no_space_need space c n (Take name mode next) (l ∷ locks) blocks once e = no_space_need space c n next locks blocks once e
no_space_need space c n (Look name lbn next) locks [] once e = absurd (let k : need.Block name lbn ≡ need.Space c n = e in cc)
no_space_need space c n (Look name lbn next) locks (b ∷ blocks) once e = no_space_need space c n (next b.1) locks blocks (once b.1) e
no_space_need space c n (Fetch lbn next) locks [] once e = absurd (let k : need.Bare lbn ≡ need.Space c n = e in cc)
no_space_need space c n (Fetch lbn next) locks (b ∷ blocks) once e = no_space_need space c n (next b.1) locks blocks (once b.1) e
no_space_need space c n (Find clusters number next) locks blocks once e = once
no_space_need space c n (Make plan) locks blocks once e = absurd (let k : need.Ready plan ≡ need.Space c n = e in cc)

module _ (space got : Space) (clusters : ℕ) (number : Bool) (has : has_space clusters number got ≡ true) (allowed : Behind got) where
  given_space : (es : Events) (given other : Type 0) (locks : List (LockName × Mode)) (blocks : List (ℕ × Block)) → SearchesOnce es → Follows es locks blocks space given
      → following es locks blocks space ≡ need.Space clusters number → Follows es locks blocks got other
  given_space (Take n m next) given other [] blocks once f e = absurd (let k : need.Lock n m ≡ need.Space clusters number = e in cc)
  given_space (Take n m next) given other (l ∷ locks) blocks once f e = (f.0, given_space next given other locks blocks once f.1 e)
  given_space (Look n lbn next) given other locks [] once f e = absurd (let k : need.Block n lbn ≡ need.Space clusters number = e in cc)
  given_space (Look n lbn next) given other locks (b ∷ blocks) once f e = (f.0, given_space (next b.1) given other locks blocks (once b.1) f.1 e)
  given_space (Fetch lbn next) given other locks [] once f e = absurd (let k : need.Bare lbn ≡ need.Space clusters number = e in cc)
  given_space (Fetch lbn next) given other locks (b ∷ blocks) once f e = (f.0, given_space (next b.1) given other locks blocks (once b.1) f.1 e)
  given_space (Find c n next) given other locks blocks once f e = by_test (has_space c n space) f e where
    end : Events
    end = next got.clusters got.number got.short

    Goal : Bool → Type 0
    Goal t = MatchBool t (Follows end locks blocks got (Behind got)) ((locks ≡ []) × (blocks ≡ []) × other)

    at_end : Follows end [] [] got (Behind got)
    at_end = start end got (Behind got) (ready_more end got (Behind got) (once got.clusters got.number got.short)) allowed

    by_test : (t : Bool) → MatchBool t (Follows (next space.clusters space.number space.short) locks blocks space (Behind space)) ((locks ≡ []) × (blocks ≡ []) × given)
        → cond t (following (next space.clusters space.number space.short) locks blocks space) (need.Space c n) ≡ need.Space clusters number → Goal (has_space c n got)
    by_test true f e = absurd (no_space_need space clusters number (next space.clusters space.number space.short) locks blocks (once space.clusters space.number space.short) e)
    by_test false f e =
        let k : need.Space c n ≡ need.Space clusters number = e in
        let a : c ≡ clusters = cc in
        let b : n ≡ number = cc in
        let here : has_space c n got ≡ true = ap (λ x. has_space x n got) a ∙ ap (λ x. has_space clusters x got) b ∙ has in
        let there : Follows end locks blocks got (Behind got) =
        subst (λ ls. Follows end ls blocks got (Behind got)) (sym f.0) (subst (λ bs. Follows end [] bs got (Behind got)) (sym f.1) at_end) in
        subst Goal (sym here) there
  given_space (Make plan) given other locks blocks once f e = absurd (let k : need.Ready plan ≡ need.Space clusters number = e in cc)

has_given : (clusters : ℕ) (number : Bool) (cs : List ℕ) (n : Option ℕ) → length cs ≡ clusters → has_number number n ≡ true
    → has_space clusters number (record { clusters = cs; number = n; short = None }) ≡ true
has_given clusters number cs n e f = let a : (length cs == clusters) ≡ true = grind (arith, nat_tests) in ap (λ t. t && has_number number n) a ∙ f

why_given : (why : Refusal) → (why ≡ IndexFull) ⊎ (why ≡ DeviceFull) → IsGiven [] None (Some why)
why_given why (inl e) = subst (λ r. IsGiven [] None (Some r)) (sym e) (refl, refl)
why_given why (inr e) = subst (λ r. IsGiven [] None (Some r)) (sym e) (refl, refl)

pub seen_goes_on : SeenGoesOn
seen_goes_on cmd once =
    record {
      first = λ seen e f h. subst (λ ls. Follows (events_of seen.geometry seen.channel cmd) ls seen.blocks (space_of seen) (HasNoSpace (space_of seen))) (sym e)
          (subst (λ bs. Follows (events_of seen.geometry seen.channel cmd) [] bs (space_of seen) (HasNoSpace (space_of seen))) (sym f)
          (start _ (space_of seen) _ (ready (events_of seen.geometry seen.channel cmd) (space_of seen) (once seen.geometry seen.channel)) h));
      granted = λ seen name mode f e. granted (space_of seen) name mode (events_of seen.geometry seen.channel cmd) _ seen.locks seen.blocks (ready (events_of seen.geometry seen.channel cmd) (space_of seen) (once seen.geometry seen.channel)) f e;
      looked = λ seen lbn b f e. looked (space_of seen) lbn b (events_of seen.geometry seen.channel cmd) _ seen.locks seen.blocks (ready (events_of seen.geometry seen.channel cmd) (space_of seen) (once seen.geometry seen.channel)) f e;
      given = λ seen clusters number cs n f e size wanted. given_space (space_of seen) (record { clusters = cs; number = n; short = None }) clusters number (has_given clusters number cs n size wanted) tt
          (events_of seen.geometry seen.channel cmd) _ _ seen.locks seen.blocks (once seen.geometry seen.channel) f e;
      refused = λ seen clusters number why f e reason. given_space (space_of seen) (record { clusters = []; number = None; short = Some why }) clusters number refl (why_given why reason)
          (events_of seen.geometry seen.channel cmd) _ _ seen.locks seen.blocks (once seen.geometry seen.channel) f e;
    }
