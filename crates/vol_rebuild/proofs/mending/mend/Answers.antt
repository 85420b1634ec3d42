use Rattle.std.proofs.Common.{refl, sym, subst}
use Rattle.std.proofs.lemmas.Result.{err_from_is_err_and}
use Rattle.plain_cat.specs.declared.cat.Cat.{Cat}
use Rattle.plain_rules.specs.Mending.{without_leaks}
use Rattle.plain_mends.specs.Waiting.{Settled, LostIsWritten}
use Rattle.vol_mends.proofs.StartSteps.{start_is_settled}
use Rattle.vol_rebuild.specs.Steps.{leaking, IsOfFiles}
use Rattle.vol_rebuild.proofs.Reading.{few_flags}
use Rattle.vol_rebuild.proofs.Stepping.{first_well, next_well, next_out, ends_well}
use Rattle.vol_rebuild.proofs.Finishing.{rebuilt}
use Rattle.vol_rebuild.proofs.mending.mend.Goals as goal

pub leaked_numbers-numbers-requires : goal.leaked_numbers-numbers-requires
leaked_numbers-numbers-requires g c = few_flags c.args.g.now c.args.m.now.blocks c.args.cat.now c.requires.told

pub returns-in_err-pack_doubles-clause-step : goal.returns-in_err-pack_doubles-clause-step
returns-in_err-pack_doubles-clause-step g c =
    let p = err_from_is_err_and c.from_residual-in_err-pack_doubles.result c.from_residual-in_err-pack_doubles.ensures.1 in
    let s1 = first_well _ _ _ _ _ _ _ _ refl c.in_ok-removed.ensures.step in
    next_out _ _ _ _ _ _ _ _ _ _ _ _ _ refl p.1 p.2 s1 c.in_err-pack_doubles.ensures.step

pub enter_lost-requires-clause-settled : goal.enter_lost-requires-clause-settled
enter_lost-requires-clause-settled g c =
    subst (λ (x : Cat). Settled x) (sym c.in_ok-removed.ensures.ok.first) (start_is_settled c.args.m.now.blocks c.args.cat.now c.requires.told.cat).0

pub enter_lost-requires-clause-written : goal.enter_lost-requires-clause-written
enter_lost-requires-clause-written g c =
    subst (λ (x : Cat). LostIsWritten x) (sym c.in_ok-removed.ensures.ok.first) (start_is_settled c.args.m.now.blocks c.args.cat.now c.requires.told.cat).1

pub returns-in_err-entered-clause-step : goal.returns-in_err-entered-clause-step
returns-in_err-entered-clause-step g c =
    let p = err_from_is_err_and c.from_residual-in_err-entered.result c.from_residual-in_err-entered.ensures.1 in
    let s1 = first_well _ _ _ _ _ _ _ _ refl c.in_ok-removed.ensures.step in
    let s2 = next_well _ _ _ _ _ _ _ _ _ _ _ refl s1 c.in_ok-pack_doubles.ensures.step in
    next_out _ _ _ _ _ _ _ _ _ _ _ _ _ refl p.1 p.2 s2 c.in_err-entered.ensures.step

pub returns-in_err-gone-clause-step : goal.returns-in_err-gone-clause-step
returns-in_err-gone-clause-step g c =
    let p = err_from_is_err_and c.from_residual-in_err-gone.result c.from_residual-in_err-gone.ensures.1 in
    let s1 = first_well _ _ _ _ _ _ _ _ refl c.in_ok-removed.ensures.step in
    let s2 = next_well _ _ _ _ _ _ _ _ _ _ _ refl s1 c.in_ok-pack_doubles.ensures.step in
    let s3 = next_well _ _ _ _ _ _ _ _ _ _ _ refl s2 c.in_ok-entered.ensures.step in
    next_out _ _ _ _ _ _ _ _ _ _ _ _ _ refl p.1 p.2 s3 c.in_err-gone.ensures.step

pub clear_tails-requires-clause-told : goal.clear_tails-requires-clause-told
clear_tails-requires-clause-told g c = let t = c.in_ok-gone.ensures.ok.told in (leaking c.free_slots.new.cat t.leaked t.flags, t.told)

pub returns-in_err-clear_tails-clause-step : goal.returns-in_err-clear_tails-clause-step
returns-in_err-clear_tails-clause-step g c =
    let p = err_from_is_err_and c.from_residual-in_err-clear_tails.result c.from_residual-in_err-clear_tails.ensures.1 in
    let s1 = first_well _ _ _ _ _ _ _ _ refl c.in_ok-removed.ensures.step in
    let s2 = next_well _ _ _ _ _ _ _ _ _ _ _ refl s1 c.in_ok-pack_doubles.ensures.step in
    let s3 = next_well _ _ _ _ _ _ _ _ _ _ _ refl s2 c.in_ok-entered.ensures.step in
    let s4 = next_well _ _ _ _ _ _ _ _ _ _ _ refl s3 c.in_ok-gone.ensures.step in
    next_out _ _ _ _ _ _ _ _ _ _ _ _ _ refl p.1 p.2 s4 c.in_err-clear_tails.ensures.step

pub set_all_bits-requires-clause-told : goal.set_all_bits-requires-clause-told
set_all_bits-requires-clause-told g c =
    let t = c.in_ok-gone.ensures.ok.told in
    let x = leaking c.free_slots.new.cat t.leaked t.flags in
    (x, (c.in_ok-clear_tails.ensures.ok x t.told).told)

pub set_all_bits-requires-clause-clean : goal.set_all_bits-requires-clause-clean
set_all_bits-requires-clause-clean g c =
    let t = c.in_ok-gone.ensures.ok.told in
    (c.in_ok-clear_tails.ensures.ok (leaking c.free_slots.new.cat t.leaked t.flags) t.told).clean

pub returns-in_err-set_all_bits-clause-step : goal.returns-in_err-set_all_bits-clause-step
returns-in_err-set_all_bits-clause-step g c =
    let p = err_from_is_err_and c.from_residual-in_err-set_all_bits.result c.from_residual-in_err-set_all_bits.ensures.1 in
    let s1 = first_well _ _ _ _ _ _ _ _ refl c.in_ok-removed.ensures.step in
    let s2 = next_well _ _ _ _ _ _ _ _ _ _ _ refl s1 c.in_ok-pack_doubles.ensures.step in
    let s3 = next_well _ _ _ _ _ _ _ _ _ _ _ refl s2 c.in_ok-entered.ensures.step in
    let s4 = next_well _ _ _ _ _ _ _ _ _ _ _ refl s3 c.in_ok-gone.ensures.step in
    let s5 = next_well _ _ _ _ _ _ _ _ _ _ _ refl s4 c.in_ok-clear_tails.ensures.step in
    next_out _ _ _ _ _ _ _ _ _ _ _ _ _ refl p.1 p.2 s5 c.in_err-set_all_bits.ensures.step

pub set_usages-requires-clause-told : goal.set_usages-requires-clause-told
set_usages-requires-clause-told g c =
    let t = c.in_ok-gone.ensures.ok.told in
    let x = leaking c.free_slots.new.cat t.leaked t.flags in
    (without_leaks x, record { same = refl; factor = refl }, (c.in_ok-set_all_bits.ensures.ok x (c.in_ok-clear_tails.ensures.ok x t.told).told).told)

pub returns-in_err-set_usages-clause-step : goal.returns-in_err-set_usages-clause-step
returns-in_err-set_usages-clause-step g c =
    let p = err_from_is_err_and c.from_residual-in_err-set_usages.result c.from_residual-in_err-set_usages.ensures.1 in
    let s1 = first_well _ _ _ _ _ _ _ _ refl c.in_ok-removed.ensures.step in
    let s2 = next_well _ _ _ _ _ _ _ _ _ _ _ refl s1 c.in_ok-pack_doubles.ensures.step in
    let s3 = next_well _ _ _ _ _ _ _ _ _ _ _ refl s2 c.in_ok-entered.ensures.step in
    let s4 = next_well _ _ _ _ _ _ _ _ _ _ _ refl s3 c.in_ok-gone.ensures.step in
    let s5 = next_well _ _ _ _ _ _ _ _ _ _ _ refl s4 c.in_ok-clear_tails.ensures.step in
    let s6 = next_well _ _ _ _ _ _ _ _ _ _ _ refl s5 c.in_ok-set_all_bits.ensures.step in
    next_out _ _ _ _ _ _ _ _ _ _ _ _ _ refl p.1 p.2 s6 c.in_err-set_usages.ensures.step

pub returns-clause-step : goal.returns-clause-step
returns-clause-step g c =
    let s1 = first_well _ _ _ _ _ _ _ _ refl c.in_ok-removed.ensures.step in
    let s2 = next_well _ _ _ _ _ _ _ _ _ _ _ refl s1 c.in_ok-pack_doubles.ensures.step in
    let s3 = next_well _ _ _ _ _ _ _ _ _ _ _ refl s2 c.in_ok-entered.ensures.step in
    let s4 = next_well _ _ _ _ _ _ _ _ _ _ _ refl s3 c.in_ok-gone.ensures.step in
    let s5 = next_well _ _ _ _ _ _ _ _ _ _ _ refl s4 c.in_ok-clear_tails.ensures.step in
    let s6 = next_well _ _ _ _ _ _ _ _ _ _ _ refl s5 c.in_ok-set_all_bits.ensures.step in
    let s7 = next_well _ _ _ _ _ _ _ _ _ _ _ refl s6 c.in_ok-set_usages.ensures.step in
    ends_well _ _ _ _ _ _ _ _ refl s7

pub returns-clause-mended : goal.returns-clause-mended
returns-clause-mended g c =
    let s1 = first_well _ _ _ _ _ _ _ _ refl c.in_ok-removed.ensures.step in
    let s2 = next_well _ _ _ _ _ _ _ _ _ _ _ refl s1 c.in_ok-pack_doubles.ensures.step in
    let s3 = next_well _ _ _ _ _ _ _ _ _ _ _ refl s2 c.in_ok-entered.ensures.step in
    let s4 = next_well _ _ _ _ _ _ _ _ _ _ _ refl s3 c.in_ok-gone.ensures.step in
    let s5 = next_well _ _ _ _ _ _ _ _ _ _ _ refl s4 c.in_ok-clear_tails.ensures.step in
    let s6 = next_well _ _ _ _ _ _ _ _ _ _ _ refl s5 c.in_ok-set_all_bits.ensures.step in
    let s7 = next_well _ _ _ _ _ _ _ _ _ _ _ refl s6 c.in_ok-set_usages.ensures.step in
    let t = c.in_ok-gone.ensures.ok.told in
    let x = leaking c.free_slots.new.cat t.leaked t.flags in
    let files : IsOfFiles c.free_slots.new.cat (without_leaks x) = record { same = refl; factor = refl } in
    rebuilt c.args.g.now c.args.m.now.blocks c.set_usages.new.m.blocks c.args.cat.now
    (record { entered = c.in_ok-entered.entered; removed = c.in_ok-removed.removed; gone = c.in_ok-gone.gone; clusters = c.args.cat.now.leaked; numbers = c.leaked_numbers-numbers.result })
    (record {
      told = c.requires.told;
      way = s7.way;
      first = c.strip.new.cat;
      second = c.enter_lost.new.cat;
      third = c.free_slots.new.cat;
      stripped_blocks = c.strip.new.m.blocks;
      packed_blocks = c.pack_doubles.new.m.blocks;
      entered_blocks = c.enter_lost.new.m.blocks;
      freed_blocks = c.free_slots.new.m.blocks;
      tidy_blocks = c.set_all_bits.new.m.blocks;
      strips = c.in_ok-removed.ensures.ok;
      packs = c.in_ok-pack_doubles.ensures.singles;
      enters = c.in_ok-entered.ensures.ok;
      frees = c.in_ok-gone.ensures.ok;
      cleared_blocks = c.clear_tails.new.m.blocks;
      clears = c.in_ok-clear_tails.ensures.ok x t.told;
      tidies = c.in_ok-set_all_bits.ensures.ok x (c.in_ok-clear_tails.ensures.ok x t.told).told;
      sums = c.in_ok-set_usages.ensures.ok (without_leaks x) files (c.in_ok-set_all_bits.ensures.ok x (c.in_ok-clear_tails.ensures.ok x t.told).told).told;
      clusters = refl;
      numbers = c.leaked_numbers-numbers.ensures;
    })
