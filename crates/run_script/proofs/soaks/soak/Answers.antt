use Rattle.std.proofs.Common.{◌≡◌, ◌*◌, map, refl, ap, ◌∙◌, arith}
use Rattle.std.specs.List.{range_with_len}
use Rattle.run_script.specs.Soaks.{state_after, soak_line}
use Rattle.run_script.proofs.SoakLemmas.{line_more, soak_in_form}
use Rattle.run_script.proofs.soaks.soak.Goals as goal

pub loop-i-init : goal.loop-i-init
unfolding state_after
loop-i-init c = record { drawn = refl; made = c.new-lines.ensures }

pub loop-i-preserved : goal.loop-i-preserved
loop-i-preserved c =
    let drawn = rw (c.next-kind.ensures.value, c.next.ensures.value, c.next-file.ensures.value, c.next-size.ensures.value) at c.in_ok-cmd.ensures in
    let more = line_more c.args.n c.loop-i.i c.loop-i.draws.state c.next-kind.new.self.state c.next.new.self.state c.next-file.new.self.state c.next-size.new.self.state
    c.in_ok-cmd.cmd c.loop-i.lines c.loop-i.invariant.drawn c.next-kind.ensures.state c.next.ensures.state c.next-file.ensures.state c.next-size.ensures.state drawn c.loop-i.invariant.made in
    record { drawn = more.0; made = c.in_ok-push.ensures.ok ∙ more.1 }

pub returns-clause-form : goal.returns-clause-form
returns-clause-form c =
    let all : c.loop-i.i ≡ 16 * c.args.n = omega (arith, c.from-i-end.ensures) in
    let made : c.loop-i.lines ≡ map (soak_line c.args.n) (range_with_len 0 (16 * c.args.n)) = c.loop-i.invariant.made ∙ ap (λ k. map (soak_line c.args.n) (range_with_len 0 k)) all in
    λ le. rw (made, c.new.ensures, c.new-2.ensures) (soak_in_form c.args.n le)
