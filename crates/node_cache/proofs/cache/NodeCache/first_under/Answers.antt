use Rattle.std.proofs.Common.{◌∙◌, rules, tests, ℕ, Bool, Option, option_map, Bor, ap, sym}
use Rattle.std.proofs.lemmas.Iterator.Search.{find_from_yields_List}
use Rattle.std.proofs.lemmas.Iterator.Consumers.{YieldsList-from_rest}
use Rattle.std.specs.Map.Iter.{deref_pair}
use Rattle.lock_db.specs.Names.{is_same}
use Rattle.node_cache.specs.declared.held.Held.{Held}
use Rattle.node_cache.proofs.Pairs.{find-under}
use Rattle.node_cache.proofs.cache.NodeCache.first_under.Goals as goal

-- the block of what is found
abbrev block_of : Option (Bor ℕ × Bor Held) → Option ℕ
block_of o = option_map (λ (p : ℕ × Held). p.0) (option_map deref_pair o)

pub returns-in_err-lbn-clause-first : goal.returns-in_err-lbn-clause-first
returns-in_err-lbn-clause-first c =
    let pairs = c.self.inside.cache.entries in
    let test : ℕ × Held → Bool = λ p. is_same c.args.lock p.1.lock in
    let found = find_from_yields_List test _ _ c.find.result c.find.ensures.ran (YieldsList-from_rest pairs c.iter.ensures.rest) (λ x b q k. search (rules, tests)) in
    rw (← c.self.view_is) (c.from_residual.ensures ∙ sym (ap block_of c.in_err-lbn.was) ∙ ap (option_map (λ (p : ℕ × Held). p.0)) found ∙ find-under c.args.lock pairs)

pub returns-clause-first : goal.returns-clause-first
returns-clause-first c =
    let pairs = c.self.inside.cache.entries in
    let test : ℕ × Held → Bool = λ p. is_same c.args.lock p.1.lock in
    let found = find_from_yields_List test _ _ c.find.result c.find.ensures.ran (YieldsList-from_rest pairs c.iter.ensures.rest) (λ x b q k. search (rules, tests)) in
    rw (← c.self.view_is) (sym (ap block_of c.in_ok-lbn.was) ∙ ap (option_map (λ (p : ℕ × Held). p.0)) found ∙ find-under c.args.lock pairs)
