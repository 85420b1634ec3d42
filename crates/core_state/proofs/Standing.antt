-- How a node that stands by its rules for space goes with the locks, the blocks and the knowledge of its command.
use Rattle.std.proofs.Common.{◌≡◌, ◌≢◌, ◌<◌, ◌++◌, ℕ, Bool, true, false, cond, List, [], ◌∷◌, Option, Some, None, length, refl, sym, ap, subst, ◌∙◌, inl, inr, arith, ◌⊎◌}
use Rattle.std.specs.Prelude.{◌==◌, not}
use Rattle.std.proofs.lemmas.Bool.Decides.{nat_tests}
use Rattle.std.proofs.lemmas.List.{append-nil}
use Rattle.base_words.specs.Fields.{Block}
use Rattle.lock_db.specs.declared.name.LockName.{LockName}
use Rattle.lock_db.specs.declared.name.LockName.TheVariants.{S, A, Q, X, V}
use Rattle.plain_cat.specs.declared.mode.Mode.{Mode}
use Rattle.plain_cat.specs.declared.mode.Mode.TheVariants.{CR, PW, EX}
use Rattle.plain_cat.specs.declared.command.Cmd.{Cmd}
use Rattle.node_locks.specs.Held.{Row, names_of, all_held, without}
use Rattle.base_words.specs.Lists.{Has, StandsIn}
use Rattle.vol_spell.specs.Owners.{Things, nothing, Outs}
use Rattle.base_words.proofs.ListWrites.{stands_joined}
use Rattle.base_words.proofs.Listing.{same_or_not, has_parted, has_first, has_second}
use Rattle.vol_under.specs.UnderWay.{UnderWay, together}
use Rattle.vol_under.specs.Under.{IsUnder}
use Rattle.op_law.specs.declared.need.Need.TheVariants as need
use Rattle.op_law.specs.declared.need.PlanWrite.{PlanWrite}
use Rattle.op_law.specs.declared.need.Ask.{Ask}
use Rattle.op_law.specs.declared.seen.Seen.{Seen}
use Rattle.op_law.specs.Events.{space_of, has_space}
use Rattle.op_law.specs.Needs.{IsNext}
use Rattle.op_law.specs.Fits.{things}
use Rattle.op_law.specs.Going.{with_block, with_lock}
use Rattle.op_law.specs.Knows.{channel_of, has_channel, wanted, is_new_number, is_short, knows}
use Rattle.op_law.specs.Laws.{held_in, takes_lock, ComesInTurn}
use Rattle.core_space.specs.Searching.{Found, found}
use Rattle.core_space.specs.Taking.{looked}
use Rattle.core_space.specs.Answering.{blocks_alone}
use Rattle.core_space.proofs.Shortage.{shortage_is_exact, command_is_short}
use Rattle.core_space.specs.declared.run.Phase.{Phase}
use Rattle.core_space.specs.declared.run.Phase.TheVariants as phase
use Rattle.core_space.specs.declared.run.SpaceRun.{SpaceRun}
use Rattle.core_state.specs.Worlds.{Stock, NodeState, Plain, node_at, rows_in}
use Rattle.core_state.specs.Asks.{lock_of_ask, with_ask}
use Rattle.core_state.specs.Stocks.{things_in, taken_in, taken_by, taken_now, stock_now, looked_now}
use Rattle.core_state.specs.Searches.{wanted_by, numbered_by, IsOfNumber, HasCome, IsOff, IsGivingBack, IsRefused, Rules, Served, Given, Shared, Fills, Grabs, Filled, Drains, Alone, Looking, Taking, Taken, Refused, Spaces, Off, Back, Busy}
use Rattle.core_state.specs.Stores.{HasNothing}
use Rattle.core_state.specs.Goods.{under_with, under_by, nodes_under, IsAt, Good, held_by}
use Rattle.core_state.proofs.Holding.{in_held_is, held_named}
use Rattle.core_state.proofs.Wants.{wants_alike, wants_still}
use Rattle.core_state.proofs.Knowing.{knows_all}
use Rattle.core_state.proofs.Channels.{opens_hold, channel_known}
use Rattle.core_state.specs.Channels.{channel_now}
use Rattle.core_state.proofs.Naming.{none_of, one_of, stays_without}
use Rattle.core_state.proofs.Excluding.{exclusive_is_sole}
use Rattle.core_state.proofs.Running.{kept_held, at_locks}
use Rattle.core_state.proofs.Seeking.{all_left, part_stands}
use Rattle.core_state.proofs.Keeping.{names_first}
use Rattle.base_words.proofs.Booleans.{nat_same}

-- ---- its locks

-- a lock stays among them with that of an ask
has_with : (ls : Row) (ask : Option Ask) (l : LockName × Mode) → Has ls l → Has (with_ask ls ask) l
has_with ls None l h = h
has_with ls (Some a) l h = has_first ls (lock_of_ask a ∷ []) l h

-- the locks of its command are among those that it has asked for
pub locks_within : (ask : Option Ask) (asked : Row) (seen : Seen) → asked ≡ with_ask seen.locks ask → (l : LockName × Mode) → Has seen.locks l → Has asked l
locks_within ask asked seen same l h = subst (λ (ls : Row). Has ls l) (sym same) (has_with seen.locks ask l h)

-- a name that is among these locks and one more
names_last : (ls : Row) (l : LockName × Mode) (name : LockName) → Has (names_of (ls ++ l ∷ [])) name → Has (names_of ls) name ⊎ (l.0 ≡ name)
names_last [] l name (inl e) = inr e
names_last [] l name (inr h) = absurd h
names_last (k ∷ ls) l name (inl e) = inl (inl e)
names_last (k ∷ ls) l name (inr h) = elim (names_last ls l name h) [ inl a ↦ inl (inr a) | inr b ↦ inr b ]

-- the lock of who has a file open is asked for by a granted ask alone
pub record IsAskOf (ask : Option Ask) (f : ℕ) : Type 0 where
  pub made : Ask
  pub is : ask ≡ Some made
  pub file : made.file ≡ f

same_file : (n m : ℕ) → A n ≡ A m → n ≡ m
same_file n m e = cc

by_ask : (ls : Row) (ask : Option Ask) (f : ℕ) → Has (names_of (with_ask ls ask)) (A f) → Has (names_of ls) (A f) ⊎ IsAskOf ask f
by_ask ls None f h = inl h
by_ask ls (Some a) f h = elim (names_last ls (lock_of_ask a) (A f) h) [ inl k ↦ inl k | inr e ↦ inr (record { made = a; is = refl; file = same_file a.file f e }) ]

pub asks_open : (x : Cmd) (ask : Option Ask) (asked : Row) (seen : Seen) → asked ≡ with_ask seen.locks ask → ((name : LockName) → Has (names_of seen.locks) name → takes_lock x name ≡ true) → (f : ℕ) → Has (names_of asked) (A f) → IsAskOf ask f
asks_open x ask asked seen same own f h = elim (by_ask seen.locks ask f (subst (λ (ls : Row). Has (names_of ls) (A f)) same h)) [
  | inl k ↦ absurd (let e : false ≡ true = own (A f) k in cc)
  | inr a ↦ a
]

-- the lock of a granted ask is among those that are asked for
has_last : (ls : Row) (ask : Option Ask) (a : Ask) → ask ≡ Some a → Has (with_ask ls ask) (lock_of_ask a)
has_last ls None a e = absurd (let f : None ≡ Some a = e in cc)
has_last ls (Some b) a e = let f : Some b ≡ Some a = e in let g : b ≡ a = cc in has_second ls (lock_of_ask b ∷ []) (lock_of_ask a) (inl (ap lock_of_ask g))

pub asked_last : (ask : Option Ask) (asked : Row) (seen : Seen) → asked ≡ with_ask seen.locks ask → (a : Ask) → ask ≡ Some a → Has asked (lock_of_ask a)
asked_last ask asked seen same a e = subst (λ (ls : Row). Has ls (lock_of_ask a)) (sym same) (has_last seen.locks ask a e)

-- the other names among them are the command's
pub asked_own : (ask : Option Ask) (asked : Row) (seen : Seen) → asked ≡ with_ask seen.locks ask → (name : LockName) → ((f : ℕ) → name ≢ A f) → Has (names_of asked) name → Has (names_of seen.locks) name
asked_own None asked seen same name far h = subst (λ (ls : Row). Has (names_of ls) name) same h
asked_own (Some a) asked seen same name far h = elim (names_last seen.locks (lock_of_ask a) name (subst (λ (ls : Row). Has (names_of ls) name) same h)) [ inl k ↦ k | inr e ↦ absurd (far a.file (sym e)) ]

-- ---- how it stands

-- how a node stands that gives nothing back
pub calm : (x : Cmd) (kept claims : Row) (run : SpaceRun) (stock : Stock) (seen : Seen) → (run.phase ≡ phase.Back → ⊥) → Spaces (Some x) kept claims run stock seen → IsOff claims run seen ⊎ Rules x kept claims run stock seen
calm x kept claims run stock seen calmly (Off h) = inl h
calm x kept claims run stock seen calmly (Back h) = absurd (calmly h.back)
calm x kept claims run stock seen calmly (Busy y e r) = let f : Some x ≡ Some y = e in let g : x ≡ y = cc in inr (subst (λ (z : Cmd). Rules z kept claims run stock seen) (sym g) r)

-- a node without a command is off or gives its stock back
pub at_rest_so : (kept claims : Row) (run : SpaceRun) (stock : Stock) (seen : Seen) → Spaces None kept claims run stock seen → IsOff claims run seen ⊎ IsGivingBack kept claims run stock seen
at_rest_so kept claims run stock seen (Off h) = inl h
at_rest_so kept claims run stock seen (Back h) = inr h
at_rest_so kept claims run stock seen (Busy y e r) = absurd (let f : None ≡ Some y = e in cc)

-- what is claimed is X or V
x_or_v : (ls : Row) (name : LockName) (mode : Mode) → (name ≡ X) ⊎ (name ≡ V) → ls ≡ (name, mode) ∷ [] → (l : LockName × Mode) → Has ls l → (l.0 ≡ X) ⊎ (l.0 ≡ V)
x_or_v ls name mode which e l h =
    let f : (name, mode) ≡ l = one_of ls (name, mode) l e h in
    let g : l.0 ≡ name = ap (λ (k : LockName × Mode). k.0) (sym f) in
    elim which [ inl a ↦ inl (g ∙ a) | inr b ↦ inr (g ∙ b) ]

nothing_there : (ls : Row) → ls ≡ [] → (l : LockName × Mode) → Has ls l → (l.0 ≡ X) ⊎ (l.0 ≡ V)
nothing_there ls e l h = absurd (none_of ls l e h)

rules_claim : (x : Cmd) (kept claims : Row) (run : SpaceRun) (stock : Stock) (seen : Seen) → Rules x kept claims run stock seen → (l : LockName × Mode) → Has claims l → (l.0 ≡ X) ⊎ (l.0 ≡ V)
rules_claim x kept claims run stock seen (Served h) = nothing_there claims h.claims
rules_claim x kept claims run stock seen (Given h) = nothing_there claims h.claims
rules_claim x kept claims run stock seen (Shared h) = x_or_v claims X CR (inl refl) h.claims
rules_claim x kept claims run stock seen (Fills h) = x_or_v claims V PW (inr refl) h.filling.claims
rules_claim x kept claims run stock seen (Grabs h) = x_or_v claims V PW (inr refl) h.filling.claims
rules_claim x kept claims run stock seen (Filled h) = x_or_v claims V PW (inr refl) h.claims
rules_claim x kept claims run stock seen (Drains h) = x_or_v claims V PW (inr refl) h.claims
rules_claim x kept claims run stock seen (Alone h) = λ l k. elim h.claims [ inl e ↦ nothing_there claims e.0 l k | inr e ↦ x_or_v claims X EX (inl refl) e l k ]
rules_claim x kept claims run stock seen (Looking h) = x_or_v claims V PW (inr refl) h.claimed_so.claims
rules_claim x kept claims run stock seen (Taking h) = x_or_v claims V PW (inr refl) h.found.claimed_so.claims
rules_claim x kept claims run stock seen (Taken h) = x_or_v claims V PW (inr refl) h.found.claimed_so.claims
rules_claim x kept claims run stock seen (Refused h) = x_or_v claims V PW (inr refl) h.claimed_so.claims

pub claims_are : (o : Option Cmd) (kept claims : Row) (run : SpaceRun) (stock : Stock) (seen : Seen) → Spaces o kept claims run stock seen → (l : LockName × Mode) → Has claims l → (l.0 ≡ X) ⊎ (l.0 ≡ V)
claims_are o kept claims run stock seen (Off h) = nothing_there claims h.claims
claims_are o kept claims run stock seen (Back h) = x_or_v claims V PW (inr refl) h.claims
claims_are o kept claims run stock seen (Busy x e r) = rules_claim x kept claims run stock seen r

-- by its rules a command has come to them
pub come_by : (x : Cmd) (kept claims : Row) (run : SpaceRun) (stock : Stock) (seen : Seen) → Rules x kept claims run stock seen → HasCome x seen
come_by x kept claims run stock seen (Served h) = h.needs.come
come_by x kept claims run stock seen (Given h) = h.come
come_by x kept claims run stock seen (Shared h) = h.needs.come
come_by x kept claims run stock seen (Fills h) = h.filling.needs.come
come_by x kept claims run stock seen (Grabs h) = h.filling.needs.come
come_by x kept claims run stock seen (Filled h) = h.needs.come
come_by x kept claims run stock seen (Drains h) = h.needs.come
come_by x kept claims run stock seen (Alone h) = h.needs.come
come_by x kept claims run stock seen (Looking h) = h.claimed_so.come
come_by x kept claims run stock seen (Taking h) = h.found.claimed_so.come
come_by x kept claims run stock seen (Taken h) = h.found.claimed_so.come
come_by x kept claims run stock seen (Refused h) = h.claimed_so.come

less_false : (a b : ℕ) → a < b → (a == b) ≡ false
less_false a b lt = grind (arith, nat_tests)

-- nothing where all writes are made
pub all_taken : (p : Phase) (ws : List PlanWrite) (k : ℕ) → k ≡ length ws → taken_by p ws k ≡ nothing
all_taken p ws k e = ap (λ t. cond t nothing (taken_in p ws k)) (nat_same k (length ws) e)

pub part_taken : (p : Phase) (ws : List PlanWrite) (k : ℕ) → k < length ws → taken_by p ws k ≡ taken_in p ws k
part_taken p ws k lt = ap (λ t. cond t nothing (taken_in p ws k)) (less_false k (length ws) lt)

-- where nothing is written yet
pub none_taken : (p : Phase) (ws : List PlanWrite) (k : ℕ) → ws ≡ [] → k ≡ 0 → taken_by p ws k ≡ nothing
none_taken p ws k e f = all_taken p ws k (f ∙ sym (ap length e))

-- a give-back takes nothing
pub back_taken : (p : Phase) (ws : List PlanWrite) (k : ℕ) → (p ≡ phase.Drain) ⊎ (p ≡ phase.Back) → taken_by p ws k ≡ nothing
back_taken p ws k which = elim which [ inl e ↦ ap (λ q. taken_by q ws k) e ∙ either (k == length ws) | inr e ↦ ap (λ q. taken_by q ws k) e ∙ either (k == length ws) ] where
  either : (b : Bool) → cond b nothing nothing ≡ nothing
  either true = refl
  either false = refl

pub with_nothing : (t : Things) → together t nothing ≡ t
with_nothing t = λ i. record { clusters = append-nil t.clusters i; numbers = append-nil t.numbers i }

-- ---- its command goes on

come_more : (x : Cmd) (seen : Seen) (name : LockName) (mode : Mode) → HasCome x seen → IsOfNumber seen.number name → HasCome x (with_lock name mode seen)
come_more x seen name mode c own = record {
  takes = c.takes;
  before = c.before;
  after = c.after ++ (name, mode) ∷ [];
  locks = ap (λ ls. ls ++ (name, mode) ∷ []) c.locks ∙ assoc c.before c.after ((name, mode) ∷ []);
  blocks = c.blocks;
  quota = c.quota;
  behind = λ l h. elim (has_parted c.after ((name, mode) ∷ []) l h) [
    | inl k ↦ c.behind l k
    | inr k ↦ elim k [ inl e ↦ subst (λ (m : LockName × Mode). IsOfNumber seen.number m.0) e own | inr f ↦ absurd f ]
  ];
} where
  assoc : (xs ys zs : Row) → (xs ++ ys) ++ zs ≡ xs ++ (ys ++ zs)
  assoc [] ys zs = refl
  assoc (x ∷ xs) ys zs = ap (λ ws. x ∷ ws) (assoc xs ys zs)

-- behind its rules for space a command takes no lock but that of the file whose number it was given
pub comes_behind : (x : Cmd) (seen : Seen) (name : LockName) → takes_lock x name ≡ true → (Has (names_of seen.locks) name → ⊥) → ComesInTurn seen.locks seen.number name → HasCome x seen → IsOfNumber seen.number name
comes_behind x seen (S k) own new turn c = elim turn [
  | inl none ↦ absurd (none (subst (λ (ls : Row). Has (names_of ls) Q) (sym c.locks) (names_first c.before c.after Q (held_named PW c.before Q c.quota))))
  | inr is ↦ is
]
comes_behind x seen (A f) own new turn c = absurd (let e : false ≡ true = own in cc)
comes_behind x seen Q own new turn c = absurd (new (subst (λ (ls : Row). Has (names_of ls) Q) (sym c.locks) (names_first c.before c.after Q (held_named PW c.before Q c.quota))))
comes_behind x seen X own new turn c = absurd (let e : false ≡ true = own in cc)
comes_behind x seen V own new turn c = absurd (let e : false ≡ true = sym (ap not c.takes) ∙ own in cc)

-- where it wants what it wanted, it has the space that it had
space_still : (x : Cmd) (seen then : Seen) → numbered_by x then ≡ numbered_by x seen → has_space (wanted_by x seen) (numbered_by x seen) (space_of seen) ≡ true → has_space (wanted_by x seen) (numbered_by x then) (space_of seen) ≡ true
space_still x seen then same has = ap (λ number. has_space (wanted_by x seen) number (space_of seen)) same ∙ has

-- what its search looks at, with a number or none, and what it has found
abbrev looks_for : Cmd → SpaceRun → Seen → Bool → List (ℕ × Block)
looks_for x run seen number = looked seen.geometry (wanted_by x seen) number (blocks_alone run.looked)

abbrev finds : Cmd → SpaceRun → Seen → Bool → Found
finds x run seen number = found seen.geometry (wanted_by x seen) number (blocks_alone run.looked)

-- the command asks for a lock
rules_lock : (x : Cmd) (kept claims : Row) (run : SpaceRun) (stock : Stock) (seen : Seen) (name : LockName) (mode : Mode) → ((k : ℕ) (number : Bool) → IsNext x seen (need.Space k number) → ⊥) → (HasCome x seen → IsOfNumber seen.number name) → name ≢ X
    → Rules x kept claims run stock seen → Rules x (without name kept) claims run stock (with_lock name mode seen)
rules_lock x kept claims run stock seen name mode never behind ne (Served h) = absurd (never _ _ h.needs.next)
rules_lock x kept claims run stock seen name mode never behind ne (Given h) = Given (record { run = h.run; claims = h.claims; come = come_more x seen name mode h.come (behind h.come); has = space_still x seen (with_lock name mode seen) (wants_alike x (with_lock name mode seen) seen refl refl) h.has; above = h.above; short = h.short })
rules_lock x kept claims run stock seen name mode never behind ne (Shared h) = absurd (never _ _ h.needs.next)
rules_lock x kept claims run stock seen name mode never behind ne (Fills h) = absurd (never _ _ h.filling.needs.next)
rules_lock x kept claims run stock seen name mode never behind ne (Grabs h) = absurd (never _ _ h.filling.needs.next)
rules_lock x kept claims run stock seen name mode never behind ne (Filled h) = absurd (never _ _ h.needs.next)
rules_lock x kept claims run stock seen name mode never behind ne (Drains h) = absurd (never _ _ h.needs.next)
rules_lock x kept claims run stock seen name mode never behind ne (Alone h) = absurd (never _ _ h.needs.next)
rules_lock x kept claims run stock seen name mode never behind ne (Looking h) = absurd (never _ _ h.needs.next)
rules_lock x kept claims run stock seen name mode never behind ne (Taking h) = absurd (never _ _ h.needs.next)
rules_lock x kept claims run stock seen name mode never behind ne (Taken h) =
    let c = h.found.claimed_so in
    let same = wants_alike x (with_lock name mode seen) seen refl refl in
    Taken (record {
      found = record {
        claimed_so = record { last = c.last; alone = stays_without kept name (X, EX) c.alone (λ e. ne (sym e)); claims = c.claims; empty = c.empty; come = come_more x seen name mode c.come (behind c.come); in_order = c.in_order ∙ ap (looks_for x run seen) (sym same) };
        enough = ap (finds x run seen) same ∙ h.found.enough;
        above = h.found.above;
      };
      all = h.all;
      clusters = h.clusters;
      number = h.number;
      short = h.short;
    })
rules_lock x kept claims run stock seen name mode never behind ne (Refused h) =
    let c = h.claimed_so in
    let same = wants_alike x (with_lock name mode seen) seen refl refl in
    Refused (record {
      claimed_so = record { last = c.last; alone = stays_without kept name (X, EX) c.alone (λ e. ne (sym e)); claims = c.claims; empty = c.empty; come = come_more x seen name mode c.come (behind c.come); in_order = c.in_order ∙ ap (looks_for x run seen) (sym same) };
      why = h.why;
      too_little = ap (finds x run seen) same ∙ h.too_little;
      writes = h.writes;
      made = h.made;
      clusters = h.clusters;
      number = h.number;
      short = h.short;
    })

pub lock_seen : (x : Cmd) (kept claims : Row) (run : SpaceRun) (stock : Stock) (seen : Seen) (name : LockName) (mode : Mode) → (run.phase ≡ phase.Back → ⊥) → ((k : ℕ) (number : Bool) → IsNext x seen (need.Space k number) → ⊥) → (HasCome x seen → IsOfNumber seen.number name) → name ≢ X
    → Spaces (Some x) kept claims run stock seen → Spaces (Some x) (without name kept) claims run stock (with_lock name mode seen)
lock_seen x kept claims run stock seen name mode calmly never behind ne stands = elim (calm x kept claims run stock seen calmly stands) [
  | inl h ↦ Off (record { run = h.run; claims = h.claims; space = record { clusters = h.space.clusters; number = h.space.number; short = h.space.short } })
  | inr r ↦ Busy x refl (rules_lock x kept claims run stock seen name mode never behind ne r)
]

-- it looks at a block
come_on : (x : Cmd) (seen : Seen) (lbn : ℕ) (b : Block) → HasCome x seen → HasCome x (with_block lbn b seen)
come_on x seen lbn b c = record { takes = c.takes; before = c.before; after = c.after; locks = c.locks; blocks = longer seen.blocks (lbn, b) c.blocks; quota = c.quota; behind = c.behind } where
  longer : (bs : List (ℕ × Block)) (y : ℕ × Block) → 0 < length bs → 0 < length (bs ++ y ∷ [])
  longer [] y some = absurd (omega arith)
  longer (z ∷ bs) y some = omega arith

rules_block : (x : Cmd) (kept claims : Row) (run : SpaceRun) (stock : Stock) (seen : Seen) (lbn : ℕ) (b : Block) → ((k : ℕ) (number : Bool) → IsNext x seen (need.Space k number) → ⊥) → Rules x kept claims run stock seen → Rules x kept claims run stock (with_block lbn b seen)
rules_block x kept claims run stock seen lbn b never (Served h) = absurd (never _ _ h.needs.next)
rules_block x kept claims run stock seen lbn b never (Given h) = Given (record { run = h.run; claims = h.claims; come = come_on x seen lbn b h.come; has = space_still x seen (with_block lbn b seen) (wants_still x seen lbn b h.come.blocks) h.has; above = h.above; short = h.short })
rules_block x kept claims run stock seen lbn b never (Shared h) = absurd (never _ _ h.needs.next)
rules_block x kept claims run stock seen lbn b never (Fills h) = absurd (never _ _ h.filling.needs.next)
rules_block x kept claims run stock seen lbn b never (Grabs h) = absurd (never _ _ h.filling.needs.next)
rules_block x kept claims run stock seen lbn b never (Filled h) = absurd (never _ _ h.needs.next)
rules_block x kept claims run stock seen lbn b never (Drains h) = absurd (never _ _ h.needs.next)
rules_block x kept claims run stock seen lbn b never (Alone h) = absurd (never _ _ h.needs.next)
rules_block x kept claims run stock seen lbn b never (Looking h) = absurd (never _ _ h.needs.next)
rules_block x kept claims run stock seen lbn b never (Taking h) = absurd (never _ _ h.needs.next)
rules_block x kept claims run stock seen lbn b never (Taken h) =
    let c = h.found.claimed_so in
    let same = wants_still x seen lbn b c.come.blocks in
    Taken (record {
      found = record {
        claimed_so = record { last = c.last; alone = c.alone; claims = c.claims; empty = c.empty; come = come_on x seen lbn b c.come; in_order = c.in_order ∙ ap (looks_for x run seen) (sym same) };
        enough = ap (finds x run seen) same ∙ h.found.enough;
        above = h.found.above;
      };
      all = h.all;
      clusters = h.clusters;
      number = h.number;
      short = h.short;
    })
rules_block x kept claims run stock seen lbn b never (Refused h) =
    let c = h.claimed_so in
    let same = wants_still x seen lbn b c.come.blocks in
    Refused (record {
      claimed_so = record { last = c.last; alone = c.alone; claims = c.claims; empty = c.empty; come = come_on x seen lbn b c.come; in_order = c.in_order ∙ ap (looks_for x run seen) (sym same) };
      why = h.why;
      too_little = ap (finds x run seen) same ∙ h.too_little;
      writes = h.writes;
      made = h.made;
      clusters = h.clusters;
      number = h.number;
      short = h.short;
    })

pub block_seen : (x : Cmd) (kept claims : Row) (run : SpaceRun) (stock : Stock) (seen : Seen) (lbn : ℕ) (b : Block) → (run.phase ≡ phase.Back → ⊥) → ((k : ℕ) (number : Bool) → IsNext x seen (need.Space k number) → ⊥)
    → Spaces (Some x) kept claims run stock seen → Spaces (Some x) kept claims run stock (with_block lbn b seen)
block_seen x kept claims run stock seen lbn b calmly never stands = elim (calm x kept claims run stock seen calmly stands) [
  | inl h ↦ Off (record { run = h.run; claims = h.claims; space = record { clusters = h.space.clusters; number = h.space.number; short = h.space.short } })
  | inr r ↦ Busy x refl (rules_block x kept claims run stock seen lbn b never r)
]

-- ---- what the command takes for granted of the catalogue

above_by : (x : Cmd) (kept claims : Row) (run : SpaceRun) (stock : Stock) (seen : Seen) → Rules x kept claims run stock seen → is_new_number seen.number ≡ true
above_by x kept claims run stock seen (Served h) = ap is_new_number h.needs.none.number
above_by x kept claims run stock seen (Given h) = h.above
above_by x kept claims run stock seen (Shared h) = ap is_new_number h.needs.none.number
above_by x kept claims run stock seen (Fills h) = ap is_new_number h.filling.needs.none.number
above_by x kept claims run stock seen (Grabs h) = ap is_new_number h.filling.needs.none.number
above_by x kept claims run stock seen (Filled h) = ap is_new_number h.needs.none.number
above_by x kept claims run stock seen (Drains h) = ap is_new_number h.needs.none.number
above_by x kept claims run stock seen (Alone h) = ap is_new_number h.needs.none.number
above_by x kept claims run stock seen (Looking h) = ap is_new_number h.needs.none.number
above_by x kept claims run stock seen (Taking h) = ap is_new_number h.needs.none.number
above_by x kept claims run stock seen (Taken h) = ap is_new_number h.number ∙ h.found.above
above_by x kept claims run stock seen (Refused h) = ap is_new_number h.number

pub is_above : (o : Option Cmd) (kept claims : Row) (run : SpaceRun) (stock : Stock) (seen : Seen) → Spaces o kept claims run stock seen → is_new_number seen.number ≡ true
is_above o kept claims run stock seen (Off h) = ap is_new_number h.space.number
is_above o kept claims run stock seen (Back h) = ap is_new_number h.space.number
is_above o kept claims run stock seen (Busy x e r) = above_by x kept claims run stock seen r

module _ (w : Plain) (good : Good w) (n : ℕ) (s : NodeState) (at : node_at w.nodes n ≡ Some s) (x : Cmd) (has : s.cmd ≡ Some x) (now : IsAt w n s x) (here : nodes_under w.locks w.nodes n ≡ at_locks n s x (held_by w.locks n s))
    (drive : IsUnder s.seen.geometry good.running.cat (nodes_under w.locks w.nodes) w.blocks) where
  -- where this node has X in EX, no other has anything outside, as it would keep X
  pub others_nothing : Has s.kept (X, EX) → (m : ℕ) (q : NodeState) → m ≢ n → node_at w.nodes m ≡ Some q → HasNothing q
  others_nothing alone m q ne e = elim (good.running.stocked m q e).holds [ inl h ↦ h | inr k ↦ absurd (no_other k) ] where
    no_other : Has (held_in CR q.kept) X → ⊥
    no_other k =
        let i = in_held_is CR q.kept X k in
        let mine : Has (all_held w.locks n (rows_in (node_at w.nodes n))) (X, EX) = subst (λ (o : Option NodeState). Has (all_held w.locks n (rows_in o)) (X, EX)) (sym at) (kept_held w.locks n s (X, EX) (good.nodes n s at).rests alone) in
        let its : Has (all_held w.locks m (rows_in (node_at w.nodes m))) (X, i.in_mode) = subst (λ (o : Option NodeState). Has (all_held w.locks m (rows_in o)) (X, i.in_mode)) (sym e) (kept_held w.locks m q (X, i.in_mode) (good.nodes m q e).rests i.has) in
        ne (exclusive_is_sole w.locks n m X i.in_mode (λ k. rows_in (node_at w.nodes k)) good.locked.0 good.locked.1 mine its i.strong)

  nothing_by : (m : ℕ) (o : Option NodeState) → m ≢ n → node_at w.nodes m ≡ o → Has s.kept (X, EX) → Outs m drive.own (under_by w.locks m o).took (under_by w.locks m o).stock → Outs m drive.own nothing nothing
  nothing_by m None ne e alone h = h
  nothing_by m (Some q) ne e alone h =
      let none = others_nothing alone m q ne e in
      subst (λ (k : Things). Outs m drive.own nothing k) none.stock (subst (λ (k : Things). Outs m drive.own k (stock_now q.stock q.run)) (by_cmd q.cmd none) h) where
        by_cmd : (o : Option Cmd) → HasNothing q → (under_with w.locks m q o).took ≡ nothing
        by_cmd None i = refl
        by_cmd (Some y) i = i.given

  nobody_outside : (r : IsRefused x s.kept s.claims s.run s.stock s.seen) → (m : ℕ) → Outs m drive.own nothing nothing
  nobody_outside r m = elim (same_or_not m n) [ inl e ↦ subst (λ (k : ℕ). Outs k drive.own nothing nothing) (sym e) its | inr ne ↦ nothing_by m (node_at w.nodes m) ne refl r.claimed_so.alone (drive.outs m) ] where
    its : Outs n drive.own nothing nothing
    its =
        let o : Outs n drive.own (at_locks n s x (held_by w.locks n s)).took (at_locks n s x (held_by w.locks n s)).stock = subst (λ (u : UnderWay). Outs n drive.own u.took u.stock) here (drive.outs n) in
        let took : things s.seen.clusters s.seen.number ≡ nothing = λ i. things (r.clusters i) (r.number i) in
        let stock : stock_now s.stock s.run ≡ nothing = (λ i. together (things_in (r.claimed_so.empty i)) (taken_now s.run)) ∙ none_taken s.run.phase s.run.writes s.run.made r.writes r.made in
        subst (λ (k : Things). Outs n drive.own nothing k) stock (subst (λ (k : Things). Outs n drive.own k (stock_now s.stock s.run)) took o)

  -- what was looked at stands, where nothing is written yet
  pub looked_stands : s.run.writes ≡ [] → StandsIn drive.base s.run.looked
  looked_stands none =
      let both : StandsIn drive.base (at_locks n s x (held_by w.locks n s)).seen = subst (λ (u : UnderWay). StandsIn drive.base u.seen) here (drive.stands n) in
      let left = ((stands_joined drive.base (looked_now s.run) s.seen.blocks).0 both).0 in
      part_stands drive.base (looked_now s.run) s.run.looked (λ y h. all_left s.run.writes s.run.made s.run.looked y none h) left

  by_none : s.seen.short ≡ None → is_short good.running.cat (wanted s.seen x) s.seen.short ≡ true
  by_none e = ap (is_short good.running.cat (wanted s.seen x)) e

  by_rules : Rules x s.kept s.claims s.run s.stock s.seen → is_short good.running.cat (wanted s.seen x) s.seen.short ≡ true
  by_rules (Served h) = by_none h.needs.none.short
  by_rules (Given h) = by_none h.short
  by_rules (Shared h) = by_none h.needs.none.short
  by_rules (Fills h) = by_none h.filling.needs.none.short
  by_rules (Grabs h) = by_none h.filling.needs.none.short
  by_rules (Filled h) = by_none h.needs.none.short
  by_rules (Drains h) = by_none h.needs.none.short
  by_rules (Alone h) = by_none h.needs.none.short
  by_rules (Looking h) = by_none h.needs.none.short
  by_rules (Taking h) = by_none h.needs.none.short
  by_rules (Taken h) = by_none h.short
  by_rules (Refused h) =
      let stood : StandsIn drive.base (looked s.seen.geometry (wanted_by x s.seen) (numbered_by x s.seen) (blocks_alone s.run.looked)) = subst (StandsIn drive.base) h.claimed_so.in_order (looked_stands h.writes) in
      let exact = shortage_is_exact s.seen.geometry (wanted_by x s.seen) (numbered_by x s.seen) (blocks_alone s.run.looked) h.why drive.base drive.own good.running.cat h.too_little drive.spelt (nobody_outside h) stood in
      ap (is_short good.running.cat (wanted s.seen x)) h.short
      ∙ command_is_short good.running.cat (wanted s.seen x) h.why exact

  short_by : Spaces (Some x) s.kept s.claims s.run s.stock s.seen → is_short good.running.cat (wanted s.seen x) s.seen.short ≡ true
  short_by (Off h) = by_none h.space.short
  short_by (Back h) = by_none h.space.short
  short_by (Busy y e r) = let f : Some x ≡ Some y = e in let g : x ≡ y = cc in by_rules (subst (λ (z : Cmd). Rules z s.kept s.claims s.run s.stock s.seen) (sym g) r)

  space_so : Spaces (Some x) s.kept s.claims s.run s.stock s.seen
  space_so = subst (λ (o : Option Cmd). Spaces o s.kept s.claims s.run s.stock s.seen) has (good.nodes n s at).space

  pub is_known : knows n x s.seen good.running.cat ≡ true
  is_known = knows_all x n s.seen good.running.cat good.running.accounted (opens_hold good.running.cat good.running.named) channel
      (is_above (Some x) s.kept s.claims s.run s.stock s.seen space_so) (short_by space_so) where
        channel : has_channel good.running.cat n (channel_of x) s.seen.channel ≡ true
        channel = ap (has_channel good.running.cat n (channel_of x)) ((good.nodes n s at).channel ∙ ap (channel_now s.opens) has) ∙ channel_known good.running.cat n s.opens x now.form (good.running.opened n s at)
