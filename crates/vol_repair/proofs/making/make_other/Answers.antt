-- One write, unless the block is there already.
use Rattle.std.proofs.Common.{◌≡◌, ◌∙◌, Some, sym, ap}
use Rattle.std.proofs.lemmas.Slice.Eq.{bytes_eq-Decides}
use Rattle.base_words.specs.Fields.{Block}
use Rattle.base_words.proofs.ListWrites.{set-get}
use Rattle.vol_repair.proofs.Stepping.{step_none}
use Rattle.vol_repair.proofs.making.make_other.Goals as goal

pub returns-then-is_same-clause-step : goal.returns-then-is_same-clause-step
returns-then-is_same-clause-step g c a before behind = step_none _ _ _ _ (λ e. absurd (cc e)) before

pub returns-then-is_same-clause-ok : goal.returns-then-is_same-clause-ok
returns-then-is_same-clause-ok g c =
    let same : c.read.result.now ≡ c.args.b.now = (bytes_eq-Decides c.read.result.now c.args.b.now).0 (sym c.is_same.ensures ∙ c.if-is_same.true) in
    sym (set-get c.args.m.now.blocks c.args.lbn c.args.b.now (c.read.ensures ∙ ap (λ (b : Block). Some b) same))
