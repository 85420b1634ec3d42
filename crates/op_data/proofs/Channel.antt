-- What a channel has open, by what the command knows.
use Rattle.std.proofs.Common.{◌≡◌, ◌∙◌, ◌<◌, ℕ, Bool, true, false, Option, Some, None, sym, refl, ap, arith}
use Rattle.std.specs.Prelude.{◌==◌, ◌&&◌, ◌||◌, not, nat_lt}
use Rattle.std.proofs.lemmas.Bool.Decides.{nat_tests}
use Rattle.plain_cat.specs.Modes.{rank}
use Rattle.plain_cat.specs.declared.mode.Mode.{Mode}
use Rattle.plain_cat.specs.declared.mode.Mode.TheVariants.{NL, CR, CW, PR, PW, EX}
use Rattle.plain_cat.specs.declared.cat.Cat.{Cat}
use Rattle.plain_cat.specs.declared.cat.File.{File}
use Rattle.plain_cat.specs.declared.cat.Open.{Open}
use Rattle.plain_rules.specs.Lookups.{in_use, channel_at}
use Rattle.plain_rules.specs.Answers.{is_reading}
use Rattle.op_law.specs.declared.seen.Chan.{Chan}
use Rattle.op_law.specs.Knows.{is_open_as}
use Rattle.plain_rules.specs.Opens.{goes_with}
use Rattle.plain_rules.specs.Opens.{is_plain_file}

-- The channel has the file of this number open, in a mode that reads alone exactly where the one that was seen does; and the file is
-- in use, no system file and no directory.
pub record HasOpen (c : Cat) (node chan : ℕ) (p : Chan) : Type 0 where
  pub mode : Mode
  pub at : channel_at c node chan ≡ Some (record { file = p.file.num; mode = mode })
  pub same : is_reading mode ≡ is_reading p.mode
  pub above : 11 < p.file.num
  pub file : File
  pub used : in_use c p.file ≡ Some file
  pub flat : file.dir ≡ false

pub both_hold : (a b : Bool) → (a && b) ≡ true → (a ≡ true) × (b ≡ true)
both_hold true b e = (refl, e)
both_hold false b e = absurd (let f : false ≡ true = e in cc)

-- a mode reads alone by its rank
by_rank : (m : Mode) → is_reading m ≡ (rank m == 1) || (rank m == 3)
by_rank NL = refl
by_rank CR = refl
by_rank CW = refl
by_rank PR = refl
by_rank PW = refl
by_rank EX = refl

same_reading : (a b : Mode) → rank a ≡ rank b → is_reading a ≡ is_reading b
same_reading a b e = by_rank a ∙ ap (λ r. (r == 1) || (r == 3)) e ∙ sym (by_rank b)

plain_there : (o : Option File) → is_plain_file o ≡ true → (f : File) × (o ≡ Some f) × (f.dir ≡ false)
plain_there None e = absurd (let f : false ≡ true = e in cc)
plain_there (Some f) e = (f, refl, by_dir f.dir e) where
  by_dir : (t : Bool) → not t ≡ true → t ≡ false
  by_dir true e = absurd (let f : false ≡ true = e in cc)
  by_dir false e = refl

pub open_as : (c : Cat) (node chan : ℕ) (p : Chan) (o : Option Open) → channel_at c node chan ≡ o → is_open_as c node chan p o ≡ true → HasOpen c node chan p
open_as c node chan p None at e = absurd (let f : false ≡ true = e in cc)
open_as c node chan p (Some o) at e =
    let one = both_hold (o.file == p.file.num) ((rank o.mode == rank p.mode) && (goes_with c node chan o.file o.mode && (nat_lt 11 p.file.num && is_plain_file (in_use c p.file)))) e in
    let two = both_hold (rank o.mode == rank p.mode) (goes_with c node chan o.file o.mode && (nat_lt 11 p.file.num && is_plain_file (in_use c p.file))) one.1 in
    let three = both_hold (goes_with c node chan o.file o.mode) (nat_lt 11 p.file.num && is_plain_file (in_use c p.file)) two.1 in
    let four = both_hold (nat_lt 11 p.file.num) (is_plain_file (in_use c p.file)) three.1 in
    let there = plain_there (in_use c p.file) four.1 in
    let number : o.file ≡ p.file.num = (let t = one.0 in grind (arith, nat_tests)) in
    let ranks : rank o.mode ≡ rank p.mode = (let t = two.0 in grind (arith, nat_tests)) in
    record {
      mode = o.mode;
      at = at ∙ ap (λ n. Some (record o { file = n })) number;
      same = same_reading o.mode p.mode ranks;
      above = (let t = four.0 in grind (arith, nat_tests));
      file = there.0;
      used = there.1;
      flat = there.2;
    }
