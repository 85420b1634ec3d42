use Rattle.std.proofs.Common.{◌≡◌, ◌++◌, count_by, map, ap, ◌∙◌}
use Rattle.core_state.specs.Worlds.{shown}
use Rattle.run_engine.specs.Reports.{is_answer, is_death, closing_text}
use Rattle.run_engine.proofs.Showing.{answers_shown, deaths_shown}
use Rattle.run_engine.proofs.reports.report.Goals as goal

pub returns : goal.returns
returns c =
    let answered : c.answers.result ≡ count_by is_answer (map shown c.args.h.now.items) = c.answers.ensures ∙ ap (count_by is_answer) c.items-entries.ensures ∙ answers_shown c.args.h.now.items in
    let died : c.deaths.result ≡ count_by is_death (map shown c.args.h.now.items) = c.deaths.ensures ∙ ap (count_by is_death) c.items-entries.ensures ∙ deaths_shown c.args.h.now.items in
    c.in_ok-push_closing.ensures ∙ (λ i. c.in_ok-text.ensures i ++ closing_text (answered i) (died i) c.args.free)
