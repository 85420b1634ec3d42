use Rattle.std.proofs.Common.{Option, None, Some, refl, sym, subst, inl, inr}
use Rattle.vol_parts.specs.declared.finding.Finding.{Finding}
use Rattle.vol_parts.specs.Volumes.{volume}
use Rattle.vol_sound.specs.Ranks.{IsBeyondOf}
use Rattle.vol_sound.proofs.RankLemmas.{step, none-first, of-system, of-parts, no-chain, through-runs}
use Rattle.vol_sound.proofs.beyond.first_of_files.Goals as goal

pub returns-in-Some-clause-first : goal.returns-in-Some-clause-first
returns-in-Some-clause-first c =
    let v = volume c.args.home.now c.args.blocks.now in
    let one = of-system v 1 c.first_bad_header.result (inl refl) c.first_bad_header.ensures.first in
    step v 1 2 (Some c.in-Some.found) (none-first v) (subst (λ (o : Option Finding). IsBeyondOf v 1 o) (sym c.in-Some.ensures) one) refl

pub returns-in-Some-first_bad_system_file-clause-first : goal.returns-in-Some-first_bad_system_file-clause-first
returns-in-Some-first_bad_system_file-clause-first c =
    let v = volume c.args.home.now c.args.blocks.now in
    let one = of-system v 1 c.first_bad_header.result (inl refl) c.first_bad_header.ensures.first in
    let two = step v 1 2 None (none-first v) (subst (λ (o : Option Finding). IsBeyondOf v 1 o) (sym c.in_default.ensures) one) refl in
    let f = c.in-Some-first_bad_system_file in
    step v 2 3 (Some f.found) two (of-parts v 2 (Some f.found) (inl refl) f.ensures.first) refl

pub returns-in-Some-first_bad_control_block-clause-first : goal.returns-in-Some-first_bad_control_block-clause-first
returns-in-Some-first_bad_control_block-clause-first c =
    let v = volume c.args.home.now c.args.blocks.now in
    let one = of-system v 1 c.first_bad_header.result (inl refl) c.first_bad_header.ensures.first in
    let two = step v 1 2 None (none-first v) (subst (λ (o : Option Finding). IsBeyondOf v 1 o) (sym c.in_default.ensures) one) refl in
    let three = step v 2 3 None two (of-parts v 2 None (inl refl) c.in_default-first_bad_system_file.ensures.first) refl in
    let f = c.in-Some-first_bad_control_block in
    step v 3 4 (Some f.found) three (of-parts v 3 (Some f.found) (inr refl) f.ensures) refl

pub returns-clause-first : goal.returns-clause-first
returns-clause-first c =
    let v = volume c.args.home.now c.args.blocks.now in
    let one = of-system v 1 c.first_bad_header.result (inl refl) c.first_bad_header.ensures.first in
    let two = step v 1 2 None (none-first v) (subst (λ (o : Option Finding). IsBeyondOf v 1 o) (sym c.in_default.ensures) one) refl in
    let three = step v 2 3 None two (of-parts v 2 None (inl refl) c.in_default-first_bad_system_file.ensures.first) refl in
    let four = step v 3 4 None three (of-parts v 3 None (inr refl) c.in_default-first_bad_control_block.ensures) refl in
    let five = step v 4 5 None four (no-chain v) refl in
    through-runs v c.first_run_off.result c.only_of_system-2.result five c.first_run_off.ensures.first c.only_of_system-2.ensures
