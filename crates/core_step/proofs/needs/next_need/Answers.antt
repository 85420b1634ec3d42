use Rattle.std.proofs.Common.{◌≡◌, ◌∙◌, ℕ, Bool, Some, refl, sym, ap, subst}
use Rattle.std.specs.Prelude.{option_map}
use Rattle.plain_cat.specs.declared.command.Cmd.{Cmd}
use Rattle.core_state.specs.Worlds.{state_of}
use Rattle.core_step.specs.Ready.{IsSearching}
use Rattle.core_step.proofs.Ready.{searched_told}
use Rattle.core_step.proofs.Wanting.{always_err}
use Rattle.core_step.proofs.needs.next_need.Goals as goal

pub returns-in-Some-searched_for : goal.returns-in-Some-searched_for
returns-in-Some-searched_for g c =
    let s = state_of g.O.Operation.cmd_is c.args.node.now in
    let x = c.cmd.result.now in
    let there : option_map g.O.Operation.cmd_is c.args.node.now.op ≡ Some x = ap (option_map g.O.Operation.cmd_is) c.in-Some.is ∙ ap Some (sym c.cmd.ensures) in
    let is : IsSearching s x c.in-Some-searched_for.clusters c.in-Some-searched_for.number = c.in-Some-searched_for.ensures.some in
    record { need = searched_told g.O.Operation.cmd_is c.args.node.now.op s x c.in-Some-searched_for.clusters c.in-Some-searched_for.number refl there c.requires.searches is; memory = tt }

pub returns-clause-memory : goal.returns-clause-memory
returns-clause-memory g c =
    let s = state_of g.O.Operation.cmd_is c.args.node.now in
    let x = c.cmd.result.now in
    let there : option_map g.O.Operation.cmd_is c.args.node.now.op ≡ Some x = ap (option_map g.O.Operation.cmd_is) c.in-Some.is ∙ ap Some (sym c.cmd.ensures) in
    always_err c.next.result _ (λ (y : Cmd) (k : ℕ) (b : Bool) has is few.
    let f : Some x ≡ Some y = sym there ∙ has in
    let e : y ≡ x = cc in
    c.searched_for.ensures.none c.in_default-searched_for.is k b (subst (λ (z : Cmd). IsSearching s z k b) e is) few)
