use Rattle.std.proofs.Common.{refl}
use Rattle.std.proofs.lemmas.Result.{err_from_is_err_and}
use Rattle.vol_repair.specs.Patching.{IsReady}
use Rattle.vol_repair.specs.Phases.{IsBeforeDirs, IsAfterBits}
use Rattle.vol_repair.proofs.Phasing.{on_ok, ready}
use Rattle.vol_repair.proofs.Stepping.{first_well, next_well, next_out, ends_so}
use Rattle.vol_repair.proofs.phases.make_ready.Goals as goal

pub returns-in_err-make_directories-clause-step : goal.returns-in_err-make_directories-clause-step
returns-in_err-make_directories-clause-step g c =
    let first = c.args.m.now.blocks in
    let p = err_from_is_err_and c.from_residual-in_err-make_directories.result c.from_residual-in_err-make_directories.ensures.1 in
    let s1 = first_well _ _ _ _ _ _ _ _ refl c.in_ok-free_slots.ensures.step in
    next_out _ _ _ _ _ _ _ _ _ _ _ _ _ refl p.1 p.2 s1
    (c.in_err-make_directories.ensures.step first (record { ground = c.in_ok-free_slots.ensures.ground; others = c.in_ok-free_slots.ensures.others; flags = c.requires.sound }))

pub returns-in_err-make_rows-clause-step : goal.returns-in_err-make_rows-clause-step
returns-in_err-make_rows-clause-step g c =
    let first = c.args.m.now.blocks in
    let p = err_from_is_err_and c.from_residual-in_err-make_rows.result c.from_residual-in_err-make_rows.ensures.1 in
    let free = c.in_ok-free_slots.ensures in
    let dirs = c.in_ok-make_directories.ensures in
    let s1 = first_well _ _ _ _ _ _ _ _ refl free.step in
    let s2 = next_well _ _ _ _ _ _ _ _ _ _ _ refl s1 (dirs.step first (record { ground = free.ground; others = free.others; flags = c.requires.sound })) in
    let made = dirs.ok first (record { ground = free.ground; others = free.others; flags = c.requires.sound }) in
    next_out _ _ _ _ _ _ _ _ _ _ _ _ _ refl p.1 p.2 s2
    (c.in_err-make_rows.ensures.step first (c.phases_lead.ensures.rows c.args.home.now first c.free_slots.new.m.blocks c.make_directories.new.m.blocks c.requires.mendable.within free.others made))

pub returns-clause-step : goal.returns-clause-step
returns-clause-step g c =
    let first = c.args.m.now.blocks in
    let within = c.requires.mendable.within in
    let free = c.in_ok-free_slots.ensures in
    let dirs = c.in_ok-make_directories.ensures in
    let rows = c.in_ok-make_rows.ensures in
    let before : IsBeforeDirs c.args.home.now first c.args.sound.now c.free_slots.new.m.blocks = record { ground = free.ground; others = free.others; flags = c.requires.sound } in
    let made = dirs.ok first before in
    let cleared = c.phases_lead.ensures.rows c.args.home.now first c.free_slots.new.m.blocks c.make_directories.new.m.blocks within free.others made in
    let s1 = first_well _ _ _ _ _ _ _ _ refl free.step in
    let s2 = next_well _ _ _ _ _ _ _ _ _ _ _ refl s1 (dirs.step first before) in
    let s3 = next_well _ _ _ _ _ _ _ _ _ _ _ refl s2 (rows.step first cleared) in
    ends_so _ _ _ _ _ _ _ _ _ _ s3
    (c.make_bits.ensures.step first (c.phases_lead.ensures.bits c.args.home.now first c.free_slots.new.m.blocks c.make_directories.new.m.blocks c.make_rows.new.m.blocks c.args.kept.now within free.others made (rows.ok first cleared) c.requires.kept))

pub returns-clause-ok : goal.returns-clause-ok
returns-clause-ok g c =
    let first = c.args.m.now.blocks in
    let home = c.args.home.now in
    let within = c.requires.mendable.within in
    let free = c.in_ok-free_slots.ensures in
    let made = c.in_ok-make_directories.ensures.ok first (record { ground = free.ground; others = free.others; flags = c.requires.sound }) in
    let rows = c.in_ok-make_rows.ensures.ok first (c.phases_lead.ensures.rows home first c.free_slots.new.m.blocks c.make_directories.new.m.blocks within free.others made) in
    let before = c.phases_lead.ensures.bits home first c.free_slots.new.m.blocks c.make_directories.new.m.blocks c.make_rows.new.m.blocks c.args.kept.now within free.others made rows c.requires.kept in
    on_ok c.make_bits.result (IsAfterBits home first c.make_rows.new.m.blocks c.make_bits.new.m.blocks) (IsReady home first c.make_bits.new.m.blocks)
    (λ bits. ready c.phases_lead.ensures home first c.free_slots.new.m.blocks c.make_directories.new.m.blocks c.make_rows.new.m.blocks c.make_bits.new.m.blocks c.requires.mendable free.others made rows bits)
    (c.make_bits.ensures.ok first before)
