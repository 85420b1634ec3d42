-- What a channel has open, and what the others have once it is closed.
use Rattle.std.proofs.Common.{◌≡◌, ◌<◌, ◌∙◌, ℕ, zero, suc, Bool, true, false, cond, List, [], ◌∷◌, Option, Some, None, slice_set, refl, sym, ap, arith}
use Rattle.std.specs.Prelude.{◌==◌, ◌&&◌, not, nat_lt, leb}
use Rattle.std.specs.List.{list_any, list_all}
use Rattle.std.proofs.lemmas.Bool.{and_parts}
use Rattle.std.proofs.lemmas.Bool.Decides.{nat_tests}
use Rattle.plain_cat.specs.InForm.{is_eighth}
use Rattle.plain_cat.specs.declared.command.Cmd.TheVariants as cmd
use Rattle.plain_cat.specs.Modes.{rank}
use Rattle.plain_cat.specs.declared.mode.Mode.{Mode}
use Rattle.plain_cat.specs.declared.mode.Mode.TheVariants.{NL, CR, CW, PR, PW, EX}
use Rattle.plain_cat.specs.declared.cat.Cat.{Cat}
use Rattle.plain_cat.specs.declared.cat.File.{File}
use Rattle.plain_cat.specs.declared.cat.Open.{Open}
use Rattle.plain_rules.specs.Lookups.{in_use, channel_at, place, is_open}
use Rattle.plain_rules.specs.Changes.{with_channel}
use Rattle.plain_rules.specs.Answers.{conflicts}
use Rattle.op_law.specs.declared.seen.Chan.{Chan}
use Rattle.op_law.specs.declared.seen.Seen.{Seen}
use Rattle.op_law.specs.Knows.{is_open_as, has_channel, is_new_number, is_short, usages_fit, opens_hold, wanted, knows}
use Rattle.plain_rules.specs.Opens.{is_plain_file}
use Rattle.plain_rules.specs.Opens.{others_open}
use Rattle.plain_rules.specs.Opens.{goes_with}
use Rattle.plain_rules.specs.Opens.{is_held_open}
use Rattle.op_law.proofs.Opens.{any_conflicts}

-- ---- modes

abbrev of_rank : ℕ → Mode
of_rank k = cond (k == 0) NL (cond (k == 1) CR (cond (k == 2) CW (cond (k == 3) PR (cond (k == 4) PW EX))))

ranked : (m : Mode) → of_rank (rank m) ≡ m
ranked NL = refl
ranked CR = refl
ranked CW = refl
ranked PR = refl
ranked PW = refl
ranked EX = refl

same_mode : (a b : Mode) → rank a ≡ rank b → a ≡ b
same_mode a b e = sym (ranked a) ∙ ap of_rank e ∙ ranked b

-- ---- a channel with a file open

-- The channel has this file open in this mode, which goes with all other opens of it; and the file is in use, and no system file.
pub record HasOpen (c : Cat) (node chan : ℕ) (p : Chan) : Type 0 where
  pub at : channel_at c node chan ≡ Some (record { file = p.file.num; mode = p.mode })
  pub goes : goes_with c node chan p.file.num p.mode ≡ true
  pub above : 11 < p.file.num
  pub told : File
  pub used : in_use c p.file ≡ Some told

module _ (c : Cat) (node chan : ℕ) (p : Chan) where
  by_used : (u : Option File) → in_use c p.file ≡ u → is_plain_file u ≡ true → (o : Open) → channel_at c node chan ≡ Some o → o.file ≡ p.file.num → o.mode ≡ p.mode
      → goes_with c node chan o.file o.mode ≡ true → 11 < p.file.num → HasOpen c node chan p
  by_used None used plain o at file mode goes above = absurd (let f : false ≡ true = plain in cc)
  by_used (Some f) used plain o at file mode goes above = record {
    at = at ∙ ap (λ (n : ℕ). Some (record { file = n; mode = o.mode })) file ∙ ap (λ (m : Mode). Some (record { file = p.file.num; mode = m })) mode;
    goes = sym (ap (λ (n : ℕ). goes_with c node chan n o.mode) file ∙ ap (λ (m : Mode). goes_with c node chan p.file.num m) mode) ∙ goes;
    above = above;
    told = f;
    used = used;
  }

  by_open : (o : Option Open) → channel_at c node chan ≡ o → is_open_as c node chan p o ≡ true → HasOpen c node chan p
  by_open None at e = absurd (let f : false ≡ true = e in cc)
  by_open (Some o) at e =
      let plain : Bool = is_plain_file (in_use c p.file) in
      let a = and_parts (o.file == p.file.num) ((rank o.mode == rank p.mode) && (goes_with c node chan o.file o.mode && (nat_lt 11 p.file.num && plain))) e in
      let b = and_parts (rank o.mode == rank p.mode) (goes_with c node chan o.file o.mode && (nat_lt 11 p.file.num && plain)) a.1 in
      let d = and_parts (goes_with c node chan o.file o.mode) (nat_lt 11 p.file.num && plain) b.1 in
      let f = and_parts (nat_lt 11 p.file.num) plain d.1 in
      let same : rank o.mode ≡ rank p.mode = grind (arith, nat_tests, b.0) in
      by_used (in_use c p.file) refl f.1 o at (grind (arith, nat_tests, a.0)) (same_mode o.mode p.mode same) d.0 (grind (arith, nat_tests, f.0))

  pub has_open : is_open_as c node chan p (channel_at c node chan) ≡ true → HasOpen c node chan p
  has_open = by_open (channel_at c node chan) refl

-- what a CLOSE knows of its channel
pub channel_known : (chan node : ℕ) (seen : Seen) (c : Cat) → knows node (cmd.CloseFile chan) seen c ≡ true → has_channel c node (Some chan) seen.channel ≡ true
channel_known chan node seen c known =
    let x = cmd.CloseFile chan in
    (and_parts (has_channel c node (Some chan) seen.channel) (is_new_number seen.number && (is_short c (wanted seen x) seen.short && (usages_fit c x && opens_hold c x))) known).0

pub known_open : (chan node : ℕ) (seen : Seen) (c : Cat) → knows node (cmd.CloseFile chan) seen c ≡ true → (p : Chan) → seen.channel ≡ Some p → HasOpen c node chan p
known_open chan node seen c known p is = has_open c node chan p (ap (has_channel c node (Some chan)) (sym is) ∙ channel_known chan node seen c known)

-- ---- whether an ask is granted

-- one that is closed is in no mode
held_less : (os : List (Option Open)) (k : ℕ) → list_all is_held_open os ≡ true → list_all is_held_open (slice_set os k None) ≡ true
held_less [] k held = held
held_less (o ∷ os) zero held = (and_parts (is_held_open o) (list_all is_held_open os) held).1
held_less (o ∷ os) (suc k) held =
    let a = and_parts (is_held_open o) (list_all is_held_open os) held in
    ap (λ t. t && list_all is_held_open (slice_set os k None)) a.0 ∙ held_less os k a.1

module _ (c : Cat) (node chan n : ℕ) (is : is_eighth chan ≡ true) (hold : list_all is_held_open c.opens ≡ true) where
  -- what the others have open is what stays open once the channel is closed
  others_closed : others_open c node chan ≡ (with_channel c node chan None).opens
  others_closed =
      let a = and_parts (leb 1 chan) (leb chan 8) is in
      let apart : (chan == 0) ≡ false = grind (arith, nat_tests, a.0) in
      ap (λ t. cond t c.opens (slice_set c.opens (place node chan) None)) apart

  -- EX goes with them exactly where none has the file open
  pub alone_is : goes_with c node chan n EX ≡ not (is_open (with_channel c node chan None) n)
  alone_is = ap not (ap (list_any (conflicts n EX)) others_closed ∙ any_conflicts n (with_channel c node chan None).opens (held_less c.opens (place node chan) hold))
