use Rattle.std.proofs.Common.{◌≡◌, ◌∙◌, None, not, filter, if◌then◌else◌, Bool, Option, ap, sym}
use Rattle.lock_db.specs.declared.name.LockName.TheVariants.{X, V}
use Rattle.plain_cat.specs.declared.mode.Mode.{Mode}
use Rattle.core_space.specs.Lasting.{mode_on, stays_by}
use Rattle.core_space.proofs.Staying.{cut}
use Rattle.core_space.proofs.Modes.{mode_on-staying}
use Rattle.core_space.proofs.lasting.LastingLocks.keep_staying.Goals as goal

abbrev left : Bool → Option Mode → Option Mode
left stays mode = if not stays then None else mode

pub invariant_of-self : goal.invariant_of-self
invariant_of-self c =
    let ls = c.self.inside.list.items in
    let rest : c.truncate.new.self.items ≡ filter (stays_by c.args.stocked c.args.cache.now) ls =
    c.truncate.ensures.items ∙ cut c.move_staying-kept.result c.self.inside.list.len c.move_staying-kept.new.locks _ (sym (c.move_staying-kept.auto.locks ∙ c.deref_mut.ensures.len)) ∙ c.move_staying-kept.ensures.front
    ∙ ap (filter (stays_by c.args.stocked c.args.cache.now)) c.deref_mut.ensures.value in (
      rw (c.truncate.ensures.capacity) c.self.invariant.0,
      c.unless-self-inside.ensures ∙ ap (left c.args.stocked) c.self.invariant.1 ∙ mode_on-staying X c.args.stocked c.args.cache.now ls ∙ ap (mode_on X) (sym rest),
      c.unless-self-inside-2.ensures ∙ (λ i. left (c.holds_under.ensures.held i) (c.self.invariant.2 i)) ∙ mode_on-staying V c.args.stocked c.args.cache.now ls ∙ ap (mode_on V) (sym rest),
    )

pub returns : goal.returns
returns c =
    rw (← c.self.view_is) (
    c.truncate.ensures.items ∙ cut c.move_staying-kept.result c.self.inside.list.len c.move_staying-kept.new.locks _ (sym (c.move_staying-kept.auto.locks ∙ c.deref_mut.ensures.len)) ∙ c.move_staying-kept.ensures.front
    ∙ ap (filter (stays_by c.args.stocked c.args.cache.now)) c.deref_mut.ensures.value
    )
