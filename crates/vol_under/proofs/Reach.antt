-- Plans as chains of writes.
use Rattle.std.proofs.Common.{◌≡◌, ℕ, zero, suc, List, [], ◌∷◌, Option, Some, None, length, take, take_all, slice_set, sym, subst, arith}
use Rattle.lock_db.specs.declared.name.LockName.{LockName}
use Rattle.lock_db.specs.declared.name.LockName.TheVariants.{S}
use Rattle.plain_cat.specs.declared.command.Cmd.{Cmd}
use Rattle.plain_cat.specs.declared.cat.Cat.{Cat}
use Rattle.plain_rules.specs.Changes.{with_slot}
use Rattle.vol_spell.specs.declared.owner.Owner.{Owner}
use Rattle.vol_spell.specs.declared.owner.Owner.TheVariants.{Free, InFile, Outside, Leaked}
use Rattle.base_words.specs.Lists.{Has, written}
use Rattle.vol_spell.specs.Owners.{Owners, Moves, OwnersMove, IsFileMove, IsSpaceMove, Things, Outs}
use Rattle.vol_spell.proofs.Moving.{still, grown, moves_grow, moves_compose}
use Rattle.base_words.specs.Fields.{Block}
use Rattle.vol_parts.specs.declared.geometry.Geometry.{Geometry}
use Rattle.vol_spell.specs.Spelling.{Spells}
use Rattle.vol_spell.proofs.Keeping.{outside_write, quota_write, header_write, slot_write, body_write, storage_write, index_write}
use Rattle.vol_under.specs.Guards.{IsCommandMove}
use Rattle.vol_under.specs.UnderWay.{PlannedWrite, bare, first_stage, stage_after, outs_after, StandsAt}
use Rattle.vol_under.specs.Chains.{End, Steps, Replied, StepsReach, StepsLawful, StepsReply, StepKinds}
use Rattle.vol_under.proofs.Guarding.{space_command}
use Rattle.vol_under.proofs.Steps.{stands_first}

pub steps_reach : (end : End) → StepsReach end
steps_reach end g n cmd locks c stock [] start took x bs own zero at s o steps le = record { new = own; cat = x; stage = at; spelt = s; moves = (moves_compose (IsCommandMove n locks)).still own; outs = o }
steps_reach end g n cmd locks c stock [] start took x bs own (suc k) at s o steps le = absurd (omega arith)
steps_reach end g n cmd locks c stock (w ∷ ws) start took x bs own zero at s o steps le = record { new = own; cat = x; stage = at; spelt = s; moves = (moves_compose (IsCommandMove n locks)).still own; outs = o }
steps_reach end g n cmd locks c stock (w ∷ ws) start took x bs own (suc k) at s o steps le =
    let h = steps.2 in
    let r = steps_reach end g n cmd locks c stock ws w.stage w.outs steps.1 _ steps.0 k h.stage h.spelt h.outs steps.3 (omega arith) in
    record { new = r.new; cat = r.cat; stage = r.stage; spelt = r.spelt; moves = (moves_compose (IsCommandMove n locks)).chain own steps.0 r.new h.moves r.moves; outs = r.outs }

pub steps_lawful : StepsLawful
steps_lawful g n u x r chain base own c stock k spelt knows stands outs le =
    let r = steps_reach (Replied g n u x r c stock) g n u.cmd u.write c stock u.plan (first_stage u.cmd) u.took c base own k (stands_first c n u.cmd) spelt outs (chain base own c stock spelt knows stands outs) le in
    record { new = r.new; cat = r.cat; stage = r.stage; spelt = r.spelt; moves = r.moves; outs = r.outs }

-- what a chain ends with, with owners that the command may move
steps_end : (end : End) (g : Geometry) (n : ℕ) (cmd : Option Cmd) (locks : List LockName) (c : Cat) (stock : Things) (ws : List PlannedWrite) (bs : List Block) (own : Owners)
    → Steps end g n cmd locks c stock ws bs own → (new : Owners) × OwnersMove (IsCommandMove n locks) own new × end (written (bare ws) bs) new
steps_end end g n cmd locks c stock [] bs own e = (own, (moves_compose (IsCommandMove n locks)).still own, e)
steps_end end g n cmd locks c stock (w ∷ ws) bs own steps =
    let r = steps_end end g n cmd locks c stock ws (slice_set bs w.lbn w.block) steps.0 steps.3 in
    (r.0, (moves_compose (IsCommandMove n locks)).chain own steps.0 r.0 steps.2.moves r.1, r.2)

-- all writes of a plan
all_writes : (ws : List PlannedWrite) (k : ℕ) → k ≡ length ws → take k ws ≡ ws
all_writes ws k e = take_all k ws (omega arith)

pub steps_reply : StepsReply
steps_reply g n u x r chain base own c stock k spelt knows stands outs whole =
    let e = steps_end (Replied g n u x r c stock) g n u.cmd u.write c stock u.plan base own (chain base own c stock spelt knows stands outs) in
    let all : take k u.plan ≡ u.plan = all_writes u.plan k whole in
    let end = e.2 in
    record {
      leaves = record {
        new = e.0;
        cat = end.0;
        stage = subst (λ (ws : List PlannedWrite). StandsAt c n u.cmd (stage_after (first_stage u.cmd) ws) end.0) (sym all) end.1;
        spelt = subst (λ (ws : List PlannedWrite). Spells g (written (bare ws) base) e.0 end.0) (sym all) end.2;
        moves = e.1;
        outs = subst (λ (ws : List PlannedWrite). Outs n e.0 (outs_after u.took ws) stock) (sym all) end.3;
      };
      opens = end.4;
      answer = end.5;
    }

-- what a header's write moves, a command may move that holds the file's lock
file_command : (n i : ℕ) (locks : List LockName) → Has locks (S i) → (o : Option Owner) → IsFileMove n i o → IsCommandMove n locks o
file_command n i locks holds None a = a
file_command n i locks holds (Some Free) a = tt
file_command n i locks holds (Some (InFile j)) a = subst (λ (k : ℕ). Has locks (S k)) (sym a) holds
file_command n i locks holds (Some (Outside m)) a = a
file_command n i locks holds (Some Leaked) a = a

space_moves : (n : ℕ) (locks : List LockName) (xs ys : List Owner) → Moves (IsSpaceMove n) xs ys → Moves (IsCommandMove n locks) xs ys
space_moves n locks xs ys m = grown (IsSpaceMove n) (IsCommandMove n locks) xs ys (space_command n locks) m

same_moves : (n : ℕ) (locks : List LockName) (xs ys : List Owner) → ys ≡ xs → Moves (IsCommandMove n locks) xs ys
same_moves n locks xs ys e = let P : List Owner → Type 0 = λ zs. Moves (IsCommandMove n locks) xs zs in subst P (sym e) (still (IsCommandMove n locks) xs)

pub step_kinds : (g : Geometry) (n : ℕ) (cmd : Option Cmd) (locks : List LockName) (c : Cat) (stock : Things) → StepKinds g n cmd locks c stock
step_kinds g n cmd locks c stock = record {
  outside = λ w bs own x s whole owner stage outs. record { stage = stage; spelt = outside_write g bs own x n w.lbn w.block s whole owner; moves = stays own; outs = outs };
  quota = λ w bs own x k s whole part once stage outs. record { stage = stage; spelt = quota_write g bs own x k w.lbn w.block s whole part once; moves = stays own; outs = outs };
  header = λ w bs own new x i m slot s place is holds stage outs. record {
    stage = stage;
    spelt = subst (λ (l : ℕ). Spells g (slice_set bs l w.block) new (with_slot x i slot)) (sym place) (header_write g bs own new x n i m w.block slot s is);
    moves = moves_grow (IsFileMove n i) (IsCommandMove n locks) (file_command n i locks holds) own new is.moves;
    outs = outs;
  };
  slot = λ w bs own x m s place is stage outs. record {
    stage = stage;
    spelt = subst (λ (l : ℕ). Spells g (slice_set bs l w.block) own x) (sym place) (slot_write g bs own x m w.block s is);
    moves = stays own;
    outs = outs;
  };
  body = λ w bs own x i v slot s is stage outs. record { stage = stage; spelt = body_write g bs own x i v w.lbn w.block slot s is; moves = stays own; outs = outs };
  storage = λ w bs own new x k s whole part moves same bits stage outs. record {
    stage = stage;
    spelt = storage_write g bs own new x n k w.lbn w.block s whole part moves same bits;
    moves = record { clusters = space_moves n locks own.clusters new.clusters moves; numbers = same_moves n locks own.numbers new.numbers same };
    outs = outs;
  };
  index = λ w bs own new x s whole part same moves bits blank stage outs. record {
    stage = stage;
    spelt = index_write g bs own new x n w.lbn w.block s whole part same moves bits blank;
    moves = record { clusters = same_moves n locks own.clusters new.clusters same; numbers = space_moves n locks own.numbers new.numbers moves };
    outs = outs;
  };
} where
  stays : (own : Owners) → OwnersMove (IsCommandMove n locks) own own
  stays own = (moves_compose (IsCommandMove n locks)).still own
