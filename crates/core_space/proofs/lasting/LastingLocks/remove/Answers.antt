use Rattle.std.proofs.Common.{◌≡◌, ◌∙◌, not, filter, None, if◌then◌else◌, Bool, Option, ap, sym, rules}
use Rattle.std.proofs.lemmas.Fn.{filter_same}
use Rattle.lock_db.specs.declared.name.LockName.TheVariants.{X, V}
use Rattle.lock_db.specs.Names.{is_same}
use Rattle.plain_cat.specs.declared.mode.Mode.{Mode}
use Rattle.core_space.specs.Lasting.{mode_on}
use Rattle.core_space.proofs.Modes.{mode_on-remove}
use Rattle.core_space.proofs.lasting.LastingLocks.remove.Goals as goal

abbrev left : Bool → Option Mode → Option Mode
left gone mode = if gone then None else mode

pub invariant_of-self : goal.invariant_of-self
invariant_of-self c =
    let ls = c.self.inside.list.items in
    let rest : c.retain.new.self.items ≡ filter (λ l. not (is_same l.0 c.args.name)) ls = filter_same _ _ _ (λ x b f' k. search rules) _ _ c.retain.ensures.filtered in (
      rw (c.retain.ensures.capacity) c.self.invariant.0,
      c.unless-self-inside.ensures ∙ (λ i. left (c.is_one.ensures i) (c.self.invariant.1 i)) ∙ mode_on-remove X c.args.name ls ∙ ap (mode_on X) (sym rest),
      c.unless-self-inside-2.ensures ∙ (λ i. left (c.is_one-2.ensures i) (c.self.invariant.2 i)) ∙ mode_on-remove V c.args.name ls ∙ ap (mode_on V) (sym rest),
    )

pub returns : goal.returns
returns c = rw (← c.self.view_is) (filter_same _ _ _ (λ x b f' k. search rules) _ _ c.retain.ensures.filtered)
