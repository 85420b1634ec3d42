-- Each answer is true.
use Rattle.std.proofs.Common.{◌≡◌, ◌==◌, ◌||◌, ℕ, Bool, true, false, not, List, Option, Some, None, find, filter, replicate, refl, ap, sym, subst, ◌∙◌, if◌then◌else◌, unwrap_or}
use Rattle.lock_db.specs.declared.name.LockName.{LockName}
use Rattle.lock_db.specs.declared.name.Owner.{Owner}
use Rattle.lock_db.specs.Names.{is_same}
use Rattle.lock_db.proofs.Lists.{and-left, and-right, find-push_yes, find-push_no, find-absent, find-filter, list_all-every, list_all-passing}
use Rattle.lock_db.proofs.Names.{is_same-same, is_same-refl}
use Rattle.plain_cat.specs.declared.mode.Mode.{Mode}
use Rattle.dlm_core.specs.declared.messages.Letter.{Letter}
use Rattle.dlm_core.specs.declared.messages.Letter.TheVariants.{Ask, Drop, Grant, Claim}
use Rattle.dlm_core.specs.declared.messages.Message.{Message}
use Rattle.dlm_core.specs.declared.holds.Hold.{Hold}
use Rattle.dlm_core.specs.declared.blocks.Block.{Block}
use Rattle.dlm_core.specs.declared.blocks.Seen.{Seen}
use Rattle.dlm_core.specs.declared.events.Event.{Event}
use Rattle.dlm_core.specs.declared.events.Event.TheVariants as event
use Rattle.dlm_core.specs.declared.events.Told.TheVariants as told
use Rattle.dlm_core.specs.Modes.{lowers, crosses, writes}
use Rattle.dlm_core.specs.States.{State, is_between, hold_at, asked_hold, is_block_of, block_at, noted_block}
use Rattle.dlm_core.specs.Steps.{next_version, last_version, version_of, seen_after, call_to, called, ask_told, ask_after, drop_told, drop_after}
use Rattle.dlm_core.specs.Events.{received_told, pass_told, pass_after, names_living, answer_of, played}
use Rattle.dlm_core.specs.Answers.{NotesBlock, Wrote, IsCalled, believed, waited, AskIsAnswered, DropIsAnswered, PassIsAnswered, IsAnswered, AnswersAreTrue}
use Rattle.dlm_core.proofs.Beliefs.{noted-here, noted-other, hold-owner, hold-name}
use Rattle.dlm_core.proofs.Serving.{eq-self}
use Rattle.dlm_core.proofs.Takes.{eq-of}

-- ---- the value block that a node notes

block-itself : (b : Block) → is_block_of b.node b.name b ≡ true
block-itself b = rw (eq-self b.node, is_same-refl b.name) refl

block-node : (n : ℕ) (x : LockName) (b : Block) → is_block_of n x b ≡ true → b.node ≡ n
block-node n x b e = eq-of b.node n (and-left (b.node == n) (is_same b.name x) e)

block-name : (n : ℕ) (x : LockName) (b : Block) → is_block_of n x b ≡ true → b.name ≡ x
block-name n x b e = is_same-same b.name x (and-right (b.node == n) (is_same b.name x) e)

abbrev no_block : ℕ → LockName → Block
no_block n x = record { node = n; name = x; value = replicate 16 0; version = 0 }

block-here : (b : Block) (bs : List Block) → block_at b.node b.name (noted_block b bs) ≡ b
block-here b bs =
    let p : Block → Bool = is_block_of b.node b.name in
    let gone : find p (filter (λ (c : Block). not (p c)) bs) ≡ None = find-absent p (filter (λ (c : Block). not (p c)) bs) (list_all-passing (λ (c : Block). not (p c)) bs) in
    ap (λ (f : Option Block). unwrap_or f (no_block b.node b.name)) (find-push_yes p (filter (λ (c : Block). not (p c)) bs) b (block-itself b) gone)

block-apart : (n : ℕ) (x : LockName) (b c : Block) → is_block_of n x b ≡ false → (not (is_block_of b.node b.name c) || not (is_block_of n x c)) ≡ true
block-apart n x b c e =
    (elim (is_block_of b.node b.name c) as (λ a. is_block_of b.node b.name c ≡ a → (not a || not (is_block_of n x c)) ≡ true) [
      | true ↦ λ a.
          (elim (is_block_of n x c) as (λ d. is_block_of n x c ≡ d → not d ≡ true) [
            | true ↦ λ d.
                let bn : b.node ≡ n = sym (block-node b.node b.name c a) ∙ block-node n x c d in
                let bx : b.name ≡ x = sym (block-name b.node b.name c a) ∙ block-name n x c d in
                let t : is_block_of n x b ≡ true = rw (← bn, ← bx) (block-itself b) in
                cc
            | false ↦ λ d. refl
          ]) refl
      | false ↦ λ a. refl
    ]) refl

block-other : (n : ℕ) (x : LockName) (b : Block) (bs : List Block) → is_block_of n x b ≡ false → block_at n x (noted_block b bs) ≡ block_at n x bs
block-other n x b bs e =
    let kept : List Block = filter (λ (c : Block). not (is_block_of b.node b.name c)) bs in
    ap (λ (f : Option Block). unwrap_or f (no_block n x))
    (find-push_no (is_block_of n x) kept b e ∙ find-filter (is_block_of n x) (λ (c : Block). not (is_block_of b.node b.name c)) bs (list_all-every (λ (c : Block). not (is_block_of b.node b.name c) || not (is_block_of n x c)) bs (λ c. block-apart n x b c e)))

block-noted : (b : Block) (bs now : List Block) → now ≡ noted_block b bs → NotesBlock bs now b
block-noted b bs now e = record { here = ap (block_at b.node b.name) e ∙ block-here b bs; others = λ n x q. ap (block_at n x) e ∙ block-other n x b bs q }

-- ---- a call

abbrev block_of : Owner → LockName → ℕ → ℕ → Block
block_of owner name fill version = record { node = owner.node; name = name; value = replicate 16 fill; version = version }

wrote-so : (b : Bool) (owner : Owner) (name : LockName) (fill : ℕ) (s next : State) (seen : Seen) → seen ≡ (hold_at owner name s.holds).seen
    → next.blocks ≡ (if b then noted_block (block_of owner name fill (if b then next_version (last_version s.rule owner name s) else 0)) s.blocks else s.blocks)
    → Wrote b owner name fill s next (if b then next_version (last_version s.rule owner name s) else 0) (if b then record { value = replicate 16 fill; valid = true; version = if b then next_version (last_version s.rule owner name s) else 0 } else seen)
wrote-so true owner name fill s next seen es e = (refl, block-noted (block_of owner name fill (next_version (last_version s.rule owner name s))) s.blocks next.blocks e, refl)
wrote-so false owner name fill s next seen es e = (refl, e, es)

called-so : (s : State) (old : Option Mode) (h : Hold) (l : Letter) (fill : ℕ) → h.seen ≡ (hold_at h.owner h.name s.holds).seen → IsCalled s (called old h l fill s) h.owner h.name old l fill h.belief h.wait
called-so s old h l fill es = record {
  version = version_of h.owner h.name old l s;
  seen = seen_after old h (call_to h.owner h.name old l fill s);
  sends = refl;
  notes = record { here = noted-here (record h { seen = seen_after old h (call_to h.owner h.name old l fill s) }) s.holds; others = λ o x e. noted-other o x (record h { seen = seen_after old h (call_to h.owner h.name old l fill s) }) s.holds e };
  wrote = wrote-so (writes old l) h.owner h.name fill s (called old h l fill s) h.seen es refl;
  stays = refl;
}

abbrev hold_of : Owner → LockName → Option Mode → Option Mode → Seen → Hold
hold_of owner name belief wait seen = record { owner = owner; name = name; belief = belief; wait = wait; seen = seen }

asked-so : (owner : Owner) (name : LockName) (be : Option Mode) (mode : Mode) (fill : ℕ) (seen : Seen) (s : State) → seen ≡ (hold_at owner name s.holds).seen
    → IsCalled s (called be (asked_hold (hold_of owner name be None seen) mode) (Ask mode) fill s) owner name be (Ask mode) fill (believed be mode) (waited be mode)
asked-so owner name be mode fill seen s es =
    let h : Hold = hold_of owner name be None seen in
    (elim (lowers be mode) as (λ b. IsCalled s (called be (if b then record h { belief = Some mode } else record h { wait = Some mode }) (Ask mode) fill s) owner name be (Ask mode) fill (if b then Some mode else be) (if b then None else Some mode)) [
      | true ↦ called-so s be (record h { belief = Some mode }) (Ask mode) fill es
      | false ↦ called-so s be (record h { wait = Some mode }) (Ask mode) fill es
    ])

-- ---- each event

ask-answered : (owner : Owner) (name : LockName) (be wa : Option Mode) (mode : Mode) (fill : ℕ) (seen : Seen) (s : State) → seen ≡ (hold_at owner name s.holds).seen
    → AskIsAnswered owner name be wa mode fill s (ask_after (hold_of owner name be wa seen) mode fill s) (ask_told (hold_of owner name be wa seen) mode)
ask-answered owner name be (Some w) mode fill seen s es = (refl, refl)
ask-answered owner name be None mode fill seen s es =
    (elim (crosses be mode) as (λ b. crosses be mode ≡ b
    → AskIsAnswered owner name be None mode fill s (if b then s else called be (asked_hold (hold_of owner name be None seen) mode) (Ask mode) fill s) (if b then told.BadConvert else told.Done)) [
      | true ↦ λ e. (e, refl)
      | false ↦ λ e. (refl, asked-so owner name be mode fill seen s es)
    ]) refl

drop-answered : (owner : Owner) (name : LockName) (be wa : Option Mode) (fill : ℕ) (seen : Seen) (s : State) → seen ≡ (hold_at owner name s.holds).seen
    → DropIsAnswered owner name be wa fill s (drop_after (hold_of owner name be wa seen) fill s) (drop_told (hold_of owner name be wa seen))
drop-answered owner name be (Some w) fill seen s es = (refl, refl)
drop-answered owner name None None fill seen s es = (refl, refl)
drop-answered owner name (Some m) None fill seen s es = (refl, called-so s (Some m) (hold_of owner name None None seen) Drop fill es)

received-answered : (from to : ℕ) (s next : State) (m : Message) (l : Letter) → find (is_between from to) s.mail ≡ Some m → PassIsAnswered from to s next (received_told m l)
received-answered from to s next m (Ask w) f = (m, f)
received-answered from to s next m Drop f = (m, f)
received-answered from to s next m (Grant w v) f = (m, f)
received-answered from to s next m (Claim d) f = (m, f)

pass-answered : (from to : ℕ) (o : Option Message) (s : State) → find (is_between from to) s.mail ≡ o → PassIsAnswered from to s (pass_after from to o s) (pass_told o)
pass-answered from to None s f = (f, refl)
pass-answered from to (Some m) s f = received-answered from to s (pass_after from to (Some m) s) m m.letter f

-- what is noted of an owner and a name is about them
hold-is : (h : Hold) (owner : Owner) (name : LockName) → h.owner ≡ owner → h.name ≡ name → h ≡ hold_of owner name h.belief h.wait h.seen
hold-is h owner name a b = rw (← a, ← b) refl

hold-at_is : (owner : Owner) (name : LockName) (s : State) → hold_at owner name s.holds ≡ hold_of owner name (hold_at owner name s.holds).belief (hold_at owner name s.holds).wait (hold_at owner name s.holds).seen
hold-at_is owner name s = hold-is (hold_at owner name s.holds) owner name (hold-owner owner name s.holds) (hold-name owner name s.holds)

played-answered : (e : Event) (s : State) → names_living e s ≡ true → IsAnswered e s (played e s) (answer_of e s)
played-answered (event.Ask owner name mode fill) s n =
    let h : Hold = hold_at owner name s.holds in
    subst (λ (k : Hold). AskIsAnswered owner name h.belief h.wait mode fill s (ask_after k mode fill s) (ask_told k mode)) (sym (hold-at_is owner name s)) (ask-answered owner name h.belief h.wait mode fill h.seen s refl)
played-answered (event.Drop owner name fill) s n =
    let h : Hold = hold_at owner name s.holds in
    subst (λ (k : Hold). DropIsAnswered owner name h.belief h.wait fill s (drop_after k fill s) (drop_told k)) (sym (hold-at_is owner name s)) (drop-answered owner name h.belief h.wait fill h.seen s refl)
played-answered (event.Pass from to) s n = pass-answered from to (find (is_between from to) s.mail) s refl
played-answered (event.Kill node) s n = n

dead-answered : (e : Event) (s : State) → names_living e s ≡ false → IsAnswered e s s told.Dead
dead-answered (event.Ask owner name mode fill) s n = (n, refl)
dead-answered (event.Drop owner name fill) s n = (n, refl)
dead-answered (event.Pass from to) s n = (n, refl)
dead-answered (event.Kill node) s n = (n, refl)

pub all-answered : AnswersAreTrue
all-answered s e =
    (elim (names_living e s) as (λ b. names_living e s ≡ b → IsAnswered e s (if b then played e s else s) (if b then answer_of e s else told.Dead)) [
      | true ↦ λ n. played-answered e s n
      | false ↦ λ n. dead-answered e s n
    ]) refl
