use Rattle.std.proofs.Common.{rules, ◌≡◌, ◌∙◌, false, ap, sym, subst}
use Rattle.std.specs.Prelude.{nat_le}
use Rattle.plain_rules.specs.Lookups.{versions, entry_of}
use Rattle.op_law.specs.Events.{Space as Given}
use Rattle.op_law.specs.Behind.{goes_on_by, blocks_alone, FollowsBy}
use Rattle.op_law.specs.Moving.{entries_of}
use Rattle.op_law.specs.Refusing.{if_entry}
use Rattle.op_law.specs.Removing.{delete_in}
use Rattle.op_steps.specs.Names.{dir_seen}
use Rattle.op_delete.proofs.Found.{found_so, behind_entry}
use Rattle.op_steps.proofs.Mapped.{mapped}
use Rattle.op_delete.proofs.deleting.entry_looked.Goals as goal

pub delete_in-requires-clause-entry : goal.delete_in-requires-clause-entry
delete_in-requires-clause-entry c =
    let name = c.args.name.now in
    let found = sym c.in_ok-e.ensures ∙ c.in-Some.is in
    record {
      readable = c.requires.readable;
      read = c.requires.read;
      few = c.requires.few;
      there = found_so (blocks_alone c.args.d.now.blocks.now) name c.args.ver c.in-Some.e found;
    }

pub delete_in-requires-clause-found : goal.delete_in-requires-clause-found
delete_in-requires-clause-found c = sym c.in_ok-e.ensures ∙ c.in-Some.is

pub returns : goal.returns
returns c =
    let g = c.args.g.now in
    let d = dir_seen c.args.d.now in
    let e = c.in-Some.e in
    let name = c.args.name.now in
    let rest = c.args.rest in
    let o = entry_of (versions name (entries_of d)) c.args.ver in
    let found = sym c.in_ok-e.ensures ∙ c.in-Some.is in
    let plain : nat_le e.fid.num 11 ≡ false = search rules in
    let is = behind_entry g d o e found plain in
    mapped _ _ (λ n. (given : Given) → FollowsBy (delete_in g d e) rest given → goes_on_by (delete_in g d e) rest given ≡ n)
    (λ n. (given : Given) → FollowsBy (if_entry o (delete_in g d)) rest given → goes_on_by (if_entry o (delete_in g d)) rest given ≡ n) c.delete_in.result
    (λ n h given follows. ap (λ es. goes_on_by es rest given) is ∙ h given (subst (λ es. FollowsBy es rest given) is follows)) c.delete_in.ensures
