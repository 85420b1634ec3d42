-- How many locks a node has.
use Rattle.std.proofs.Common.{◌≡◌, ◌≤◌, ◌+◌, ◌++◌, not, [], ◌∷◌, Option, Some, None, length, ap, inl, inr, arith}
use Rattle.lock_db.specs.declared.name.LockName.{LockName}
use Rattle.lock_db.specs.declared.name.LockName.TheVariants.{X, V}
use Rattle.lock_db.specs.Names.{is_same}
use Rattle.plain_cat.specs.declared.mode.Mode.{Mode}
use Rattle.plain_cat.specs.declared.mode.Mode.TheVariants.{CR, PW, EX}
use Rattle.plain_cat.specs.declared.command.Cmd.{Cmd}
use Rattle.base_words.specs.Lists.{Once}
use Rattle.node_locks.specs.Held.{Row, names_of, without}
use Rattle.op_law.specs.declared.need.Ask.{Ask as PlanAsk}
use Rattle.op_law.specs.declared.seen.Seen.{Seen}
use Rattle.core_space.specs.declared.run.SpaceRun.{SpaceRun}
use Rattle.core_state.specs.Asks.{with_ask, lock_of_ask}
use Rattle.core_state.specs.Searches.{Rules, Served, Given, Shared, Fills, Grabs, Filled, Drains, Alone, Looking, Taking, Taken, Refused, Spaces, Off, Back, Busy}
use Rattle.core_state.specs.Worlds.{Stock}
use Rattle.core_state.proofs.Rows.{IsFew}
use Rattle.core_state.proofs.Sweeps.{filter_once}
use Rattle.core_state.proofs.KeptReplies.{one_less}

-- besides X and V it keeps 64 at most
pub kept_few : (ls : Row) → Once (names_of ls) → length (without X (without V ls)) ≤ 64 → length ls ≤ 66
kept_few ls once few =
    let a = one_less V ls once in
    let b = one_less X (without V ls) (filter_once (λ l. not (is_same l.0 V)) ls once) in
    omega (arith, a, b, few)

one_longer : (ls : Row) (l : LockName × Mode) → length (ls ++ l ∷ []) ≤ length ls + 1
one_longer [] l = omega arith
one_longer (k ∷ ls) l = let rest = one_longer ls l in omega (arith, rest)

pub ask_more : (ls : Row) (o : Option PlanAsk) → length (with_ask ls o) ≤ length ls + 1
ask_more ls None = omega arith
ask_more ls (Some a) = one_longer ls (lock_of_ask a)

-- it claims one at most
rules_claim : {x : Cmd} {kept claimed : Row} {run : SpaceRun} {stock : Stock} {seen : Seen} → Rules x kept claimed run stock seen → IsFew claimed
rules_claim (Served h) = inl h.claims
rules_claim (Given h) = inl h.claims
rules_claim (Shared h) = inr ((X, CR), h.claims)
rules_claim (Fills h) = inr ((V, PW), h.filling.claims)
rules_claim (Grabs h) = inr ((V, PW), h.filling.claims)
rules_claim (Filled h) = inr ((V, PW), h.claims)
rules_claim (Drains h) = inr ((V, PW), h.claims)
rules_claim (Alone h) = elim h.claims [ inl e ↦ inl e.0 | inr e ↦ inr ((X, EX), e) ]
rules_claim (Looking h) = inr ((V, PW), h.claimed_so.claims)
rules_claim (Taking h) = inr ((V, PW), h.found.claimed_so.claims)
rules_claim (Taken h) = inr ((V, PW), h.found.claimed_so.claims)
rules_claim (Refused h) = inr ((V, PW), h.claimed_so.claims)

pub claims_few : {o : Option Cmd} {kept claimed : Row} {run : SpaceRun} {stock : Stock} {seen : Seen} → Spaces o kept claimed run stock seen → IsFew claimed
claims_few (Off h) = inl h.claims
claims_few (Back h) = inr ((V, PW), h.claims)
claims_few (Busy x e h) = rules_claim h

pub few_length : (ls : Row) → IsFew ls → length ls ≤ 1
few_length ls (inl e) = let f : length ls ≡ 0 = ap length e in omega (arith, f)
few_length ls (inr k) = let f : length ls ≡ 1 = ap length k.1 in omega (arith, f)
