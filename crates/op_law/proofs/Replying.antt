-- The reply of a command that writes nothing.
use Rattle.std.proofs.Common.{◌≡◌, ◌∙◌, List, Option, inl, refl, sym, ap, subst, length}
use Rattle.vol_spell.specs.declared.owner.Owner.{Owner}
use Rattle.vol_spell.specs.Owners.{Moves}
use Rattle.vol_under.specs.Guards.{IsCommandMove}
use Rattle.vol_under.specs.Answering.{Replies}
use Rattle.vol_under.proofs.Steps.{stands_first}
use Rattle.op_law.specs.Looking.{LooksReply}

still : (P : Option Owner → Type 0) (xs : List Owner) → Moves P xs xs
still P xs = record { count = refl; each = λ q. inl refl }

pub looks_reply : LooksReply
looks_reply g n u x r no_plan answers base own c stock k spelt knows stands outs at =
    let none : 0 ≡ k = sym (at ∙ ap (λ ws. length ws) no_plan) in
    subst (λ j. Replies g n u x r base own c stock j) none (record {
      leaves = record { new = own; cat = c; stage = stands_first c n u.cmd; spelt = spelt; moves = record { clusters = still (IsCommandMove n u.write) own.clusters; numbers = still (IsCommandMove n u.write) own.numbers }; outs = outs };
      opens = c.opens;
      answer = answers base own c spelt knows stands;
    })
