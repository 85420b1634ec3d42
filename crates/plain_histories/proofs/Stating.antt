-- The laws, in the words of the specifications.
use Rattle.std.proofs.Common.{◌≡◌, ◌-◌, ◌+◌, ◌*◌, ◌≤◌, ℕ, List, Option, Some, slice_get, ap, ◌∙◌, arith}
use Rattle.std.specs.Prelude.{All}
use Rattle.plain_cat.specs.declared.command.Cmd.{Cmd}
use Rattle.plain_cat.specs.declared.reply.Reply.{Reply}
use Rattle.plain_cat.specs.declared.history.Stage.{Stage}
use Rattle.plain_cat.specs.declared.cat.Cat.{Cat}
use Rattle.plain_cat.specs.declared.cat.Slot.TheVariants.{Used, Free}
use Rattle.plain_cat.specs.declared.cat.QuotaRow.{QuotaRow}
use Rattle.plain_rules.specs.Accounts.{charge, death_cost}
use Rattle.plain_rules.specs.Answers.{IsPick, Answer}
use Rattle.plain_rules.specs.Stages.{staged}
use Rattle.plain_rules.specs.Replaying.{dead}
use Rattle.plain_rules.proofs.Standing.{stands_at}
use Rattle.plain_histories.specs.Opens.{OpensNameFiles}
use Rattle.plain_histories.proofs.Files.{file_here}
use Rattle.plain_histories.specs.Usages.{AreNear, HasSmallFiles}
use Rattle.plain_histories.proofs.Rows.{AreSmall, wider}
use Rattle.plain_histories.proofs.Near.{answer_keeps}
use Rattle.plain_histories.proofs.Stages.{stage_adds}

small_from : (c : Cat) → HasSmallFiles c → AreSmall c.files
small_from c h j (Free q) le at = omega arith
small_from c h j (Used f) le at =
    let back : (j + 1) - 1 ≡ j = omega arith in
    let from : 1 ≤ j + 1 = omega arith in
    h.files (j + 1) f (omega (arith, le)) (file_here c (j + 1) f from (ap (slice_get c.files) back ∙ at))

small_to : (c : Cat) → c.factor ≤ 16 → AreSmall c.files → HasSmallFiles c
small_to c factor small = record { factor = factor; files = λ n f above at. small (n - 1) (Used f) (omega (arith, above)) (stands_at c n f at) }

pub answer_small : (c d : Cat) (n : ℕ) (x : Cmd) (r : Reply) → HasSmallFiles c → Answer c n x r d → HasSmallFiles d
answer_small c d n x r h a =
    let k = answer_keeps c d n x r a in
    let same = k.factor in
    let factor = h.factor in
    small_to d (omega (arith, same, factor)) (k.small (small_from c h))

pub stage_small : (c d : Cat) (n : ℕ) (x : Option Cmd) (s : Stage) (new : Option ℕ) → HasSmallFiles c → IsPick c new → staged c n x s new ≡ Some d → HasSmallFiles d
stage_small c d n x s new h pick is =
    let k = stage_adds c d n x s new pick is in
    let same = k.factor in
    let factor = h.factor in
    small_to d (omega (arith, same, factor)) (k.small (small_from c h))

pub dead_small : (c : Cat) (n k : ℕ) (numbers : List ℕ) → HasSmallFiles c → HasSmallFiles (dead c n k numbers)
unfolding dead
dead_small c n k numbers h = record { factor = h.factor; files = λ i f above at. h.files i f above at }

pub answer_near : (c d : Cat) (n : ℕ) (x : Cmd) (r : Reply) (k : ℕ) → AreNear c k → Answer c n x r d → AreNear d k
answer_near c d n x r k h a = (answer_keeps c d n x r a).near (death_cost * k) h

one_more : (k : ℕ) → death_cost * k + death_cost ≤ death_cost * (k + 1)
one_more k = omega arith

pub stage_near : (c d : Cat) (n : ℕ) (x : Option Cmd) (s : Stage) (new : Option ℕ) (k : ℕ) → HasSmallFiles c → OpensNameFiles c → IsPick c new → AreNear c k → staged c n x s new ≡ Some d → AreNear d (k + 1)
stage_near c d n x s new k small names pick h is =
    wider d (death_cost * k + death_cost) (death_cost * (k + 1)) (one_more k)
    ((stage_adds c d n x s new pick is).near names small.factor (small_from c small) (death_cost * k) h)

pub dead_near : (c : Cat) (n m : ℕ) (numbers : List ℕ) (k : ℕ) → AreNear c k → AreNear (dead c n m numbers) k
unfolding dead
dead_near c n m numbers k h = h

eight_deaths : (k : ℕ) → k ≤ 8 → death_cost * k ≤ 1000000
eight_deaths k le = omega (arith, le)

pub eight_near : (c : Cat) (k : ℕ) → k ≤ 8 → AreNear c k → All (λ (r : QuotaRow). r.usage ≤ charge c r.owner + 1000000) c.quota
eight_near c k le h = wider c (death_cost * k) 1000000 (eight_deaths k le) h
