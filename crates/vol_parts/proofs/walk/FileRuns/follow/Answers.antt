use Rattle.std.proofs.Common.{◌≡◌, ◌∙◌, ◌-◌, [], Some, None, sym, ap, arith}
use Rattle.vol_parts.specs.Chains.{next_header}
use Rattle.vol_parts.specs.Iter.{slot_runs_left, runs_ahead}
use Rattle.vol_parts.specs.Volumes.{volume, headers_of}
use Rattle.vol_parts.proofs.Ahead.{ahead-none, ahead-last, ahead-ends, ahead-full, through-none, through-goes}
use Rattle.vol_parts.proofs.ChainSteps.{next-number, next-used}
use Rattle.vol_parts.proofs.walk.FileRuns.follow.Goals as goal
use Rattle.vol_parts.proofs.walk.FileRuns.follow.Goals.{then-self-eq0-via-then-self-eq0, then-self-eq0-via-else-self-eq0+then-self-eq0-2}

pub returns-then-self-eq0-clause-none : goal.returns-then-self-eq0-clause-none
returns-then-self-eq0-clause-none c = λ _.
    let s = c.args.self.now in
    let h = headers_of (volume s.home.now s.blocks.now) in
    let rs = slot_runs_left s.runs in
    let none : runs_ahead h s.more s.header rs s.left ≡ [] = elim c.then-self-eq0.branch [
      | then-self-eq0-via-then-self-eq0 w ↦ ap (runs_ahead h s.more s.header rs) w.if-self-eq0.true ∙ ahead-none h s.more s.header rs
      | then-self-eq0-via-else-self-eq0+then-self-eq0-2 w ↦
          through-none h s.more s.header rs s.left c.requires (ap (λ k. runs_ahead h k s.header [] s.left) w.if-self-eq0-2.true ∙ ahead-full h s.header s.left)
    ] in
    (none, none)

pub returns-in_default-clause-none : goal.returns-in_default-clause-none
returns-in_default-clause-none c = λ _.
    let s = c.args.self.now in
    let h = headers_of (volume s.home.now s.blocks.now) in
    let none = through-none h s.more s.header (slot_runs_left s.runs) s.left c.requires (ap (λ o. runs_ahead h s.more o [] s.left) c.in_default.is ∙ ahead-last h s.more s.left) in
    (none, none)

pub returns-in_default-next_header-clause-none : goal.returns-in_default-next_header-clause-none
returns-in_default-next_header-clause-none c = λ _.
    let s = c.args.self.now in
    let h = headers_of (volume s.home.now s.blocks.now) in
    let ends : next_header h c.in-Some.header ≡ None = sym c.next_header.ensures ∙ c.in_default-next_header.is in
    let none = through-none h s.more s.header (slot_runs_left s.runs) s.left c.requires
    (ap (λ o. runs_ahead h s.more o [] s.left) c.in-Some.is ∙ ahead-ends h s.more c.in-Some.header s.left ends) in
    (none, none)

pub used_slot_runs-self-requires-clause-number : goal.used_slot_runs-self-requires-clause-number
used_slot_runs-self-requires-clause-number c =
    let s = c.args.self.now in
    next-number (volume s.home.now s.blocks.now) c.in-Some.header c.in-Some-next_header.next (sym c.next_header.ensures ∙ c.in-Some-next_header.is)

pub used_slot_runs-self-requires-clause-used : goal.used_slot_runs-self-requires-clause-used
used_slot_runs-self-requires-clause-used c =
    let s = c.args.self.now in
    next-used (volume s.home.now s.blocks.now) c.in-Some.header c.in-Some-next_header.next (sym c.next_header.ensures ∙ c.in-Some-next_header.is)

pub returns-clause-went : goal.returns-clause-went
returns-clause-went c = λ _.
    let s = c.args.self.now in
    let h = headers_of (volume s.home.now s.blocks.now) in
    let next : next_header h c.in-Some.header ≡ Some c.in-Some-next_header.next = sym c.next_header.ensures ∙ c.in-Some-next_header.is in
    let goes = through-goes h s.more c.in-Some.header c.in-Some-next_header.next (slot_runs_left s.runs) s.left c.requires (omega arith) (omega arith) next in (
      ap (λ rs. runs_ahead h (s.more - 1) (Some c.in-Some-next_header.next) rs s.left) c.used_slot_runs-self.ensures ∙ goes
          ∙ ap (λ o. runs_ahead h s.more o (slot_runs_left s.runs) s.left) (sym c.in-Some.is),
      omega arith,
    )
