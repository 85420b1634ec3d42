-- What the value block of a name will be once an owner's calls on their way are taken.
use Rattle.std.proofs.Common.{◌≡◌, ◌≢◌, ◌++◌, ◌⊎◌, inl, inr, ℕ, Bool, true, false, List, [], ◌∷◌, Option, Some, None, map, refl, arith, ap, sym, subst, ◌∙◌, if◌then◌else◌, option_and_then, Contains}
use Rattle.plain_cat.specs.declared.mode.Mode.{Mode}
use Rattle.plain_cat.specs.Modes.{compatible_modes}
use Rattle.lock_db.specs.declared.name.Owner.{Owner}
use Rattle.lock_db.specs.Names.{same_owner}
use Rattle.lock_db.specs.Queues.{is_writing}
use Rattle.lock_db.specs.Resources.{is_writing_held, conversion_writes}
use Rattle.lock_db.proofs.Lists.{and-left}
use Rattle.lock_db.proofs.Owners.{same_owner-same, same_owner-refl}
use Rattle.dlm_core.specs.declared.messages.Letter.{Letter}
use Rattle.dlm_core.specs.declared.messages.Letter.TheVariants.{Ask, Drop, Grant, Claim}
use Rattle.dlm_core.specs.declared.messages.Message.{Message}
use Rattle.dlm_core.specs.Modes.{is_across, is_lowering, writes}
use Rattle.dlm_core.specs.Recoveries.{is_strong}
use Rattle.dlm_core.specs.Lanes.{lowered, raises, last_ask, MayWait}
use Rattle.dlm_core.proofs.Modes.{raises-not_lower}

-- a block that is valid, or nothing
abbrev pub marked : Bool → List ℕ → Option (List ℕ)
marked true v = Some v
marked false v = None

-- it may be read
abbrev pub OK : List (List ℕ) → Option (List ℕ) → Type 0
OK vs None = Unit {0}
OK vs (Some v) = Contains vs v

abbrev pub wrote_then : Bool → List ℕ → Option (List ℕ) → Option (List ℕ)
wrote_then true v cur = Some v
wrote_then false v cur = cur

-- the lock behind a call
abbrev pub next_lock : Option Mode → Letter → Option Mode
next_lock None l = None
next_lock (Some k) (Ask w) = if is_lowering k w then Some w else Some k
next_lock (Some k) Drop = None
next_lock (Some k) (Grant w v) = Some k
next_lock (Some k) (Claim d) = Some k

abbrev pub lock_behind : Option Mode → List Letter → Option Mode
lock_behind lock [] = lock
lock_behind lock (l ∷ ls) = lock_behind (next_lock lock l) ls

abbrev pub letters : List Message → List Letter
letters ms = map (λ (m : Message). m.letter) ms

-- the block behind calls
abbrev pub ahead : Option Mode → List Message → Option (List ℕ) → Option (List ℕ)
ahead lock [] cur = cur
ahead lock (m ∷ ms) cur = ahead (next_lock lock m.letter) ms (wrote_then (writes lock m.letter) m.value cur)

quiet-lower : (k w : Mode) → is_lowering k w ≡ true → is_writing k ≡ false → is_writing w ≡ false
quiet-lower k w l q = grind arith

writes-quiet : (lock : Option Mode) (l : Letter) → is_writing_held lock ≡ false → writes lock l ≡ false
writes-quiet None l e = refl
writes-quiet (Some k) (Ask w) e = rw e refl
writes-quiet (Some k) Drop e = e
writes-quiet (Some k) (Grant w v) e = refl
writes-quiet (Some k) (Claim d) e = refl

next-quiet : (lock : Option Mode) (l : Letter) → is_writing_held lock ≡ false → is_writing_held (next_lock lock l) ≡ false
next-quiet None l e = refl
next-quiet (Some k) (Ask w) e =
    (elim (is_lowering k w) as (λ b. is_lowering k w ≡ b → is_writing_held (if b then Some w else Some k) ≡ false) [ true ↦ λ f. quiet-lower k w f e | false ↦ λ f. e ]) refl
next-quiet (Some k) Drop e = refl
next-quiet (Some k) (Grant w v) e = e
next-quiet (Some k) (Claim d) e = e

-- a lock that does not write leaves the block
pub ahead-quiet : (lock : Option Mode) (ms : List Message) (cur : Option (List ℕ)) → is_writing_held lock ≡ false → ahead lock ms cur ≡ cur
ahead-quiet lock [] cur e = refl
ahead-quiet lock (m ∷ ms) cur e = rw (writes-quiet lock m.letter e) (ahead-quiet (next_lock lock m.letter) ms cur (next-quiet lock m.letter e))

pub behind-quiet : (lock : Option Mode) (ls : List Letter) → is_writing_held lock ≡ false → is_writing_held (lock_behind lock ls) ≡ false
behind-quiet lock [] e = e
behind-quiet lock (l ∷ ls) e = behind-quiet (next_lock lock l) ls (next-quiet lock l e)

-- who writes behind its calls has such a lock
pub behind-writes : (lock be : Option Mode) (ms : List Letter) → lock_behind lock ms ≡ be → is_writing_held be ≡ true → is_writing_held lock ≡ true
behind-writes lock be ms e w =
    (elim (is_writing_held lock) as (λ b. is_writing_held lock ≡ b → b ≡ true) [
      | true ↦ λ f. refl
      | false ↦ λ f. sym (behind-quiet lock ms f) ∙ ap is_writing_held e ∙ w
    ]) refl

-- a block that is not valid any more may be read where it might be before
pub ahead-unmarked : (vs : List (List ℕ)) (lock : Option Mode) (ms : List Message) (cur : Option (List ℕ)) → OK vs (ahead lock ms cur) → OK vs (ahead lock ms None)
ahead-unmarked vs lock [] cur a = tt
ahead-unmarked vs lock (m ∷ ms) cur a =
    (elim (writes lock m.letter) as (λ b. OK vs (ahead (next_lock lock m.letter) ms (wrote_then b m.value cur)) → OK vs (ahead (next_lock lock m.letter) ms (wrote_then b m.value None)))
    [ true ↦ λ k. k | false ↦ λ k. ahead-unmarked vs (next_lock lock m.letter) ms cur k ]) a

-- one more call
pub ahead-append : (lock : Option Mode) (ms : List Message) (m : Message) (cur : Option (List ℕ)) → ahead lock (ms ++ (m ∷ [])) cur ≡ wrote_then (writes (lock_behind lock (letters ms)) m.letter) m.value (ahead lock ms cur)
ahead-append lock [] m cur = refl
ahead-append lock (k ∷ ms) m cur = ahead-append (next_lock lock k.letter) ms m (wrote_then (writes lock k.letter) k.value cur)

-- the calls of a lane lower its lock
pub behind-lowered : (lock be : Option Mode) (ls : List Letter) → lowered lock ls ≡ Some be → lock_behind lock ls ≡ be
behind-lowered lock be [] l = cc
behind-lowered None be (k ∷ ls) l = cc
behind-lowered (Some h) be (Ask w ∷ ls) l =
    (elim (is_lowering h w) as (λ b. option_and_then (λ (u : Option Mode). lowered u ls) (if b then Some (Some w) else None) ≡ Some be → lock_behind (if b then Some w else Some h) ls ≡ be)
    [ true ↦ λ g. behind-lowered (Some w) be ls g | false ↦ λ g. cc ]) l
behind-lowered (Some h) be (Drop ∷ ls) l = behind-lowered None be ls l
behind-lowered (Some h) be (Grant w v ∷ ls) l = cc
behind-lowered (Some h) be (Claim d ∷ ls) l = cc

-- an ask that is waited for lowers nothing
pub behind-asked : (be wa : Option Mode) (ls : List Letter) → MayWait be wa → lock_behind be (last_ask wa ++ ls) ≡ lock_behind be ls
behind-asked be None ls m = refl
behind-asked None (Some w) ls m = refl
behind-asked (Some b) (Some w) ls m = let k : is_lowering b w ≡ false = raises-not_lower (Some b) w m in rw k refl

-- ---- a name's locks, and the calls of their owners

-- no other owner may write
abbrev pub IsFree : (Owner → Option Mode) → Owner → Type 0
IsFree lock o = (p : Owner) → p ≢ o → is_writing_held (lock p) ≡ false

-- behind the calls of who alone may write, what is there may be read
abbrev pub Val : List (List ℕ) → (Owner → Option Mode) → (Owner → List Message) → Option (List ℕ) → Type 0
Val vs lock calls cur = (o : Owner) → IsFree lock o → OK vs (ahead (lock o) (calls o) cur)

-- who writes stands alone
abbrev pub IsAlone : (Owner → Option Mode) → Type 0
IsAlone lock = (p q : Owner) → p ≢ q → is_writing_held (lock p) ≡ true → is_writing_held (lock q) ≡ false

ok-of : (vs : List (List ℕ)) (a b : Option (List ℕ)) → b ≡ a → OK vs a → OK vs b
ok-of vs a b e k = subst (λ (z : Option (List ℕ)). OK vs z) (sym e) k

-- the lock and the calls of an owner stay, or it has none on their way
abbrev pub Stays : Option Mode → Option Mode → List Message → List Message → Type 0
Stays l l2 c c2 = ((l2 ≡ l) × (c2 ≡ c)) ⊎ ((c ≡ []) × (c2 ≡ []))

pub ahead-stays : (l l2 : Option Mode) (c c2 : List Message) (cur : Option (List ℕ)) → Stays l l2 c c2 → ahead l2 c2 cur ≡ ahead l c cur
ahead-stays l l2 c c2 cur (inl e) = rw (e.0, e.1) refl
ahead-stays l l2 c c2 cur (inr e) = rw (e.0, e.1) refl

-- and behind a lock that does not write nothing has changed
stays-quiet : (l l2 : Option Mode) (c c2 : List Message) (cur : Option (List ℕ)) → Stays l l2 c c2 → is_writing_held l ≡ false → ahead l2 c2 cur ≡ cur
stays-quiet l l2 c c2 cur s q = ahead-stays l l2 c c2 cur s ∙ ahead-quiet l c cur q

not-owner : (p o : Owner) → same_owner p o ≡ false → p ≢ o
not-owner p o e h = let k : true ≡ false = sym (same_owner-refl o) ∙ ap (λ (z : Owner). same_owner z o) (sym h) ∙ e in cc

-- One owner's call is taken.
pub step-val : (vs : List (List ℕ)) (L L2 : Owner → Option Mode) (C C2 : Owner → List Message) (cur cur2 : Option (List ℕ)) (o : Owner)
    → ((p : Owner) → p ≢ o → is_writing_held (L2 p) ≡ false → is_writing_held (L p) ≡ false)
    → ((p : Owner) → p ≢ o → Stays (L p) (L2 p) (C p) (C2 p))
    → ahead (L2 o) (C2 o) cur2 ≡ ahead (L o) (C o) cur
    → (is_writing_held (L o) ≡ false → cur2 ≡ cur)
    → IsAlone L → Val vs L C cur → Val vs L2 C2 cur2
step-val vs L L2 C C2 cur cur2 o rises stays own quiet alone v p free =
    (elim (same_owner p o) as (λ b. same_owner p o ≡ b → OK vs (ahead (L2 p) (C2 p) cur2)) [
      | true ↦ λ e.
          let is : p ≡ o = same_owner-same p o e in
          let f : IsFree L2 o = subst (λ (z : Owner). IsFree L2 z) is free in
          subst (λ (z : Owner). OK vs (ahead (L2 z) (C2 z) cur2)) (sym is) (ok-of vs _ _ own (v o (λ q d. rises q d (f q d))))
      | false ↦ λ e.
          let d : p ≢ o = not-owner p o e in
          let od : o ≢ p = λ k. d (sym k) in
          (elim (is_writing_held (L o)) as (λ b. is_writing_held (L o) ≡ b → OK vs (ahead (L2 p) (C2 p) cur2)) [
            | true ↦ λ w.
                let all : OK vs (ahead (L2 o) (C2 o) cur2) = ok-of vs _ _ own (v o (λ q k. alone o q (λ h. k (sym h)) w)) in
                let now : OK vs cur2 = ok-of vs _ _ (sym (ahead-quiet (L2 o) (C2 o) cur2 (free o od))) all in
                ok-of vs _ _ (stays-quiet (L p) (L2 p) (C p) (C2 p) cur2 (stays p d) (alone o p od w)) now
            | false ↦ λ w.
                let before : IsFree L p = λ q k. (elim (same_owner q o) as (λ b. same_owner q o ≡ b → is_writing_held (L q) ≡ false) [
                  | true ↦ λ h. subst (λ (z : Owner). is_writing_held (L z) ≡ false) (sym (same_owner-same q o h)) w
                  | false ↦ λ h. rises q (not-owner q o h) (free q k)
                ]) refl in
                ok-of vs _ _ (ap (ahead (L2 p) (C2 p)) (quiet w) ∙ ahead-stays (L p) (L2 p) (C p) (C2 p) cur (stays p d)) (v p before)
          ]) refl
    ]) refl

-- Owners die. Where one of them may write the mark goes, and else the block stays.
pub death-val : (vs : List (List ℕ)) (L L2 : Owner → Option Mode) (C C2 : Owner → List Message) (cur cur2 : Option (List ℕ)) (dead : Owner → Bool)
    → ((p : Owner) → dead p ≡ false → is_writing_held (L2 p) ≡ false → is_writing_held (L p) ≡ false)
    → ((p : Owner) → dead p ≡ false → Stays (L p) (L2 p) (C p) (C2 p))
    → ((p : Owner) → dead p ≡ true → C2 p ≡ [])
    → ((cur2 ≡ None) × ((q : Owner) × ((dead q ≡ true) × (is_writing_held (L q) ≡ true)))) ⊎ ((cur2 ≡ cur) × ((q : Owner) → dead q ≡ true → is_writing_held (L q) ≡ false))
    → IsAlone L → Val vs L C cur → Val vs L2 C2 cur2
death-val vs L L2 C C2 cur cur2 dead rises stays gone (inl w) alone v p free =
    let q : Owner = w.1.0 in
    rw w.0 (
    (elim (dead p) as (λ b. dead p ≡ b → OK vs (ahead (L2 p) (C2 p) None)) [
      | true ↦ λ e. ok-of vs None _ (ap (λ (c : List Message). ahead (L2 p) c None) (gone p e)) tt
      | false ↦ λ e.
          let d : q ≢ p = λ k. absurd (let z : true ≡ false = sym w.1.1.0 ∙ ap dead k ∙ e in cc) in
          ok-of vs None _ (stays-quiet (L p) (L2 p) (C p) (C2 p) None (stays p e) (alone q p d w.1.1.1)) tt
    ]) refl)
death-val vs L L2 C C2 cur cur2 dead rises stays gone (inr w) alone v p free =
    let before : IsFree L p = λ q k. (elim (dead q) as (λ b. dead q ≡ b → is_writing_held (L q) ≡ false) [ true ↦ λ e. w.1 q e | false ↦ λ e. rises q e (free q k) ]) refl in
    let now : OK vs (ahead (L p) (C p) cur) = v p before in
    rw w.0 (
    (elim (dead p) as (λ b. dead p ≡ b → OK vs (ahead (L2 p) (C2 p) cur)) [
      | true ↦ λ e. ok-of vs _ _ (ap (λ (c : List Message). ahead (L2 p) c cur) (gone p e) ∙ sym (ahead-quiet (L p) (C p) cur (w.1 p e))) now
      | false ↦ λ e. ok-of vs _ _ (ahead-stays (L p) (L2 p) (C p) (C2 p) cur (stays p e)) now
    ]) refl)

-- what is read once this is written, if something is
abbrev pub wrote : Option (List ℕ) → List (List ℕ) → List (List ℕ)
wrote None vs = vs
wrote (Some v) vs = v ∷ []

pub writes-held : (old : Option Mode) (l : Letter) → writes old l ≡ true → is_writing_held old ≡ true
writes-held None l e = cc
writes-held (Some k) (Ask w) e = and-left (is_writing k) (is_lowering k w) e
writes-held (Some k) Drop e = e
writes-held (Some k) (Grant w v) e = cc
writes-held (Some k) (Claim d) e = cc

contains-one : (v : List ℕ) → Contains (v ∷ []) v
contains-one v = (0, omega arith, refl)

-- One owner's call is sent. If it writes, that is what may be read.
pub push-val : (vs : List (List ℕ)) (L : Owner → Option Mode) (C C2 : Owner → List Message) (cur : Option (List ℕ)) (o : Owner) (m : Message) (old : Option Mode) (b : Bool)
    → lock_behind (L o) (letters (C o)) ≡ old → writes old m.letter ≡ b → C2 o ≡ C o ++ (m ∷ []) → ((p : Owner) → p ≢ o → C2 p ≡ C p)
    → Val vs L C cur → Val (wrote (if b then Some m.value else None) vs) L C2 cur
push-val vs L C C2 cur o m old b lb wb own others v p free =
    let next : ahead (L o) (C2 o) cur ≡ wrote_then b m.value (ahead (L o) (C o) cur) =
    ap (λ (c : List Message). ahead (L o) c cur) own ∙ ahead-append (L o) (C o) m cur ∙ ap (λ (z : Bool). wrote_then z m.value (ahead (L o) (C o) cur)) (ap (λ (z : Option Mode). writes z m.letter) lb ∙ wb) in
    (elim (same_owner p o) as (λ e. same_owner p o ≡ e → OK (wrote (if b then Some m.value else None) vs) (ahead (L p) (C2 p) cur)) [
      | true ↦ λ e.
          let is : p ≡ o = same_owner-same p o e in
          let f : IsFree L o = subst (λ (z : Owner). IsFree L z) is free in
          subst (λ (z : Owner). OK (wrote (if b then Some m.value else None) vs) (ahead (L z) (C2 z) cur)) (sym is) (ok-of (wrote (if b then Some m.value else None) vs) _ _ next (here b (v o f)))
      | false ↦ λ e.
          let d : p ≢ o = not-owner p o e in
          ok-of (wrote (if b then Some m.value else None) vs) _ _ (ap (λ (c : List Message). ahead (L p) c cur) (others p d)) (there b wb d)
    ]) refl
  where
    here : (b : Bool) → OK vs (ahead (L o) (C o) cur) → OK (wrote (if b then Some m.value else None) vs) (wrote_then b m.value (ahead (L o) (C o) cur))
    here true a = contains-one m.value
    here false a = a

    there : (b : Bool) → writes old m.letter ≡ b → p ≢ o → OK (wrote (if b then Some m.value else None) vs) (ahead (L p) (C p) cur)
    there true w d = absurd (let q : true ≡ false = sym (behind-writes (L o) old (letters (C o)) lb (writes-held old m.letter w)) ∙ free o (λ h. d (sym h)) in cc)
    there false w d = v p free

-- nobody is left
pub gone-val : (vs : List (List ℕ)) (L : Owner → Option Mode) (C : Owner → List Message) (cur : Option (List ℕ)) → ((p : Owner) → is_writing_held (L p) ≡ false) → OK vs cur → Val vs L C cur
gone-val vs L C cur q a p free = ok-of vs _ _ (ahead-quiet (L p) (C p) cur (q p)) a

-- the mark goes, and nothing else
pub unmarked-val : (vs : List (List ℕ)) (L : Owner → Option Mode) (C : Owner → List Message) (cur : Option (List ℕ)) → Val vs L C cur → Val vs L C None
unmarked-val vs L C cur v p free = ahead-unmarked vs (L p) (C p) cur (v p free)

-- ---- modes

-- who may write goes with no strong mode
pub writing-strong : (m n : Mode) → compatible_modes m n ≡ true → is_writing m ≡ true → is_strong (Some n) ≡ false
writing-strong m n c w = grind arith

-- a lowering from a mode that does not write is not strong
pub lower-weak : (k w : Mode) → is_lowering k w ≡ true → is_writing k ≡ false → is_strong (Some w) ≡ false
lower-weak k w l q = grind arith

-- a raise keeps the right to write
pub raise-writes : (be w : Mode) → raises (Some be) w ≡ true → is_writing w ≡ false → is_writing be ≡ false
raise-writes be w r q = grind arith

-- a mode that is not strong does not write
pub weak-quiet : (l : Option Mode) → is_strong l ≡ false → is_writing_held l ≡ false
weak-quiet l e = grind arith

pub quiet-or : (l : Option Mode) → is_writing_held l ≡ true → is_strong l ≡ true
quiet-or l e = grind arith

-- a raise writes nothing, and a lowering writes from a mode that may write
pub raise-keeps : (k w : Mode) → raises (Some k) w ≡ true → conversion_writes k w ≡ false
raise-keeps k w r = grind arith

pub lower-writes : (k w : Mode) → is_lowering k w ≡ true → conversion_writes k w ≡ is_writing k
lower-writes k w l = grind arith

-- a conversion writes as its ask does
pub conv-writes : (k w : Mode) → is_across k w ≡ false → conversion_writes k w ≡ writes (Some k) (Ask w)
conv-writes k w e = grind arith
