use Rattle.std.proofs.Common.{◌∙◌, ◌&&◌, Bool, false, nat_le, Option, ap, sym}
use Rattle.std.specs.Option.{option_map_or}
use Rattle.lock_db.specs.Names.{is_same}
use Rattle.node_cache.specs.declared.held.Held.{Held}
use Rattle.node_cache.proofs.Pairs.{is-since}
use Rattle.node_cache.proofs.cache.NodeCache.holds_since.Goals as goal

pub returns-in-Some : goal.returns-in-Some
returns-in-Some c =
    let answer : Option Held → Bool = λ o. option_map_or (λ (h : Held). is_same c.args.lock h.lock && nat_le c.args.seq h.seq) o false in
    rw (← c.self.view_is) (c.is_since.ensures ∙ ap answer c.in-Some.ensures ∙ sym (is-since c.args.lbn c.args.lock c.args.seq c.self.inside.cache.entries c.self.invariant.0.apart))

pub returns-in-None : goal.returns-in-None
returns-in-None c =
    let answer : Option Held → Bool = λ o. option_map_or (λ (h : Held). is_same c.args.lock h.lock && nat_le c.args.seq h.seq) o false in
    rw (← c.self.view_is) (ap answer c.in-None.ensures ∙ sym (is-since c.args.lbn c.args.lock c.args.seq c.self.inside.cache.entries c.self.invariant.0.apart))
