-- What a channel has open, part by part, and what leaves it.
use Rattle.std.proofs.Common.{◌≡◌, ◌≤◌, ◌==◌, ◌&&◌, ◌||◌, ◌⊎◌, inl, inr, ℕ, Bool, true, false, cond, not, List, [], ◌∷◌, Option, Some, None, nat_lt, nat_le, slice_get, slice_set, refl, sym, ap, ◌∙◌, arith}
use Rattle.std.specs.Prelude.{is_some}
use Rattle.std.specs.List.{list_any}
use Rattle.std.proofs.lemmas.Bool.Decides.{nat_tests}
use Rattle.plain_cat.specs.Modes.{compatible_modes, rank}
use Rattle.plain_cat.specs.declared.ids.Fid.{Fid}
use Rattle.plain_cat.specs.declared.mode.Mode.{Mode}
use Rattle.plain_cat.specs.declared.mode.Mode.TheVariants.{NL, CR, CW, PR, PW, EX}
use Rattle.plain_cat.specs.declared.command.Cmd.TheVariants as cmd
use Rattle.plain_cat.specs.declared.reply.Reply.TheVariants as reply
use Rattle.plain_cat.specs.declared.reply.Refusal.TheVariants as refusal
use Rattle.plain_cat.specs.declared.cat.Cat.{Cat}
use Rattle.plain_cat.specs.declared.cat.File.{File}
use Rattle.plain_cat.specs.declared.cat.Open.{Open}
use Rattle.plain_rules.specs.declared.outcome.Outcome.{Outcome}
use Rattle.plain_rules.specs.Lookups.{in_use, live, joined, channel_at, has_file, is_open, place}
use Rattle.plain_rules.specs.Changes.{with_channel}
use Rattle.plain_rules.specs.Answers.{told, refused, first_refusal, unless, is_kept, conflicts, open_of, open_outcome, outcome, Answer}
use Rattle.plain_rules.specs.Own.{is_opened}
use Rattle.plain_histories.specs.Opens.{is_open_as, has_open}
use Rattle.plain_rules.specs.Opens.{is_plain_file}
use Rattle.plain_rules.specs.Opens.{others_open}
use Rattle.plain_rules.specs.Opens.{goes_with}
use Rattle.plain_histories.proofs.Lists.{both, left, right, not_true, same_number, number_same, same_or_other, set_else, set_there, none_any, any_none, any_there}
use Rattle.plain_histories.proofs.Files.{OpenStay, plain_stays}

-- ---- places

pub same_place : (m k n chan : ℕ) → 1 ≤ m → 1 ≤ n → 1 ≤ k → k ≤ 8 → 1 ≤ chan → chan ≤ 8 → place m k ≡ place n chan → (m ≡ n) × (k ≡ chan)
same_place m k n chan m1 n1 k1 k8 c1 c8 e = (omega arith, omega arith)

pub channel_in : (o : Option (Option Open)) (p : Open) → joined o ≡ Some p → o ≡ Some (Some p)
channel_in None p e = absurd (let f : None ≡ Some p = e in cc)
channel_in (Some o) p e = ap Some e

-- a file that a channel has open is open
pub open_there : (c : Cat) (i n : ℕ) (o : Open) → slice_get c.opens i ≡ Some (Some o) → (o.file == n) ≡ true → is_open c n ≡ true
open_there c i n o at same = any_there (has_file n) c.opens i (Some o) at same

-- ---- the mode goes with all other opens

-- a mode goes with each open of a file at another place
abbrev pub GoesAt : List (Option Open) → ℕ → ℕ → Mode → Type 0
GoesAt os i file mode = (j : ℕ) (o : Open) → (i ≡ j → ⊥) → slice_get os j ≡ Some (Some o) → (o.file == file) ≡ true → compatible_modes mode o.mode ≡ true

pub compatible_in : (a b : Bool) → (a && not b) ≡ false → a ≡ true → b ≡ true
compatible_in a b e is = grind arith

pub no_conflict : (a b : Bool) → (a ≡ true → b ≡ true) → (a && not b) ≡ false
no_conflict true b h = ap not (h refl)
no_conflict false b h = refl

-- no open of a list conflicts
pub goes_at : (os : List (Option Open)) (j file : ℕ) (mode : Mode) (o : Open) → list_any (conflicts file mode) os ≡ false → slice_get os j ≡ Some (Some o) → (o.file == file) ≡ true → compatible_modes mode o.mode ≡ true
goes_at os j file mode o none at same = compatible_in (o.file == file) (compatible_modes mode o.mode) (any_none (conflicts file mode) os j (Some o) none at) same

from_set : (os : List (Option Open)) (i file : ℕ) (mode : Mode) → list_any (conflicts file mode) (slice_set os i None) ≡ false → GoesAt os i file mode
from_set os i file mode none j o ne at same = goes_at (slice_set os i None) j file mode o none (set_else os i j None ne ∙ at) same

to_set : (os : List (Option Open)) (i file : ℕ) (mode : Mode) → GoesAt os i file mode → list_any (conflicts file mode) (slice_set os i None) ≡ false
to_set os i file mode goes = none_any (conflicts file mode) (slice_set os i None) one where
  one : (j : ℕ) (x : Option Open) → slice_get (slice_set os i None) j ≡ Some x → conflicts file mode x ≡ false
  one j None at = refl
  one j (Some o) at = elim (same_or_other i j) [ inl e ↦ here e | inr ne ↦ there ne ] where
    here : i ≡ j → conflicts file mode (Some o) ≡ false
    here e = absurd (let f : Some o ≡ None = set_there os i None (Some o) (ap (slice_get (slice_set os i None)) e ∙ at) in cc)

    there : (i ≡ j → ⊥) → conflicts file mode (Some o) ≡ false
    there ne = no_conflict (o.file == file) (compatible_modes mode o.mode) (goes j o ne (sym (set_else os i j None ne) ∙ at))

no_zero : (chan : ℕ) → 1 ≤ chan → (chan == 0) ≡ false
no_zero chan le = grind (arith, nat_tests)

others_are : (c : Cat) (n chan : ℕ) → 1 ≤ chan → others_open c n chan ≡ slice_set c.opens (place n chan) None
others_are c n chan le = ap (λ b. cond b c.opens (slice_set c.opens (place n chan) None)) (no_zero chan le)

pub goes_from : (c : Cat) (n chan file : ℕ) (mode : Mode) → 1 ≤ chan → goes_with c n chan file mode ≡ true → GoesAt c.opens (place n chan) file mode
goes_from c n chan file mode le e = from_set c.opens (place n chan) file mode (ap (list_any (conflicts file mode)) (sym (others_are c n chan le)) ∙ not_true (list_any (conflicts file mode) (others_open c n chan)) e)

pub goes_to : (c : Cat) (n chan file : ℕ) (mode : Mode) → 1 ≤ chan → GoesAt c.opens (place n chan) file mode → goes_with c n chan file mode ≡ true
goes_to c n chan file mode le goes = ap not (ap (list_any (conflicts file mode)) (others_are c n chan le) ∙ to_set c.opens (place n chan) file mode goes)

-- two modes go together in either order
pub both_ways : (a b : Mode) → compatible_modes a b ≡ true → compatible_modes b a ≡ true
both_ways NL NL e = e
both_ways NL CR e = e
both_ways NL CW e = e
both_ways NL PR e = e
both_ways NL PW e = e
both_ways NL EX e = e
both_ways CR NL e = e
both_ways CR CR e = e
both_ways CR CW e = e
both_ways CR PR e = e
both_ways CR PW e = e
both_ways CR EX e = e
both_ways CW NL e = e
both_ways CW CR e = e
both_ways CW CW e = e
both_ways CW PR e = e
both_ways CW PW e = e
both_ways CW EX e = e
both_ways PR NL e = e
both_ways PR CR e = e
both_ways PR CW e = e
both_ways PR PR e = e
both_ways PR PW e = e
both_ways PR EX e = e
both_ways PW NL e = e
both_ways PW CR e = e
both_ways PW CW e = e
both_ways PW PR e = e
both_ways PW PW e = e
both_ways PW EX e = e
both_ways EX NL e = e
both_ways EX CR e = e
both_ways EX CW e = e
both_ways EX PR e = e
both_ways EX PW e = e
both_ways EX EX e = e

-- ---- the parts

pub record Parts (c : Cat) (n chan : ℕ) (fid : Fid) (mode : Mode) (o : Open) : Type 0 where
  pub number : (o.file == fid.num) ≡ true
  pub rank : (rank o.mode == rank mode) ≡ true
  pub goes : goes_with c n chan o.file o.mode ≡ true
  pub above : nat_lt 11 fid.num ≡ true
  pub plain : is_plain_file (in_use c fid) ≡ true

parts : (c : Cat) (n chan : ℕ) (fid : Fid) (mode : Mode) (o : Open) → is_open_as c n chan fid mode (Some o) ≡ true → Parts c n chan fid mode o
parts c n chan fid mode o e =
    let a : Bool = (o.file == fid.num) in
    let b : Bool = (rank o.mode == rank mode) in
    let g : Bool = goes_with c n chan o.file o.mode in
    let h : Bool = nat_lt 11 fid.num in
    let p : Bool = is_plain_file (in_use c fid) in
    let e1 : (b && (g && (h && p))) ≡ true = right a (b && (g && (h && p))) e in
    let e2 : (g && (h && p)) ≡ true = right b (g && (h && p)) e1 in
    let e3 : (h && p) ≡ true = right g (h && p) e2 in
    record { number = left a (b && (g && (h && p))) e; rank = left b (g && (h && p)) e1; goes = left g (h && p) e2; above = left h p e3; plain = right h p e3 }

made : (c : Cat) (n chan : ℕ) (fid : Fid) (mode : Mode) (o : Open) → Parts c n chan fid mode o → is_open_as c n chan fid mode (Some o) ≡ true
made c n chan fid mode o p =
    both (o.file == fid.num) _ p.number (both (rank o.mode == rank mode) _ p.rank (both (goes_with c n chan o.file o.mode) _ p.goes (both (nat_lt 11 fid.num) _ p.above p.plain)))

-- the open of a channel that has one
pub record Has (c : Cat) (n chan : ℕ) (fid : Fid) (mode : Mode) : Type 0 where
  opened : Open
  at : channel_at c n chan ≡ Some opened
  parts : Parts c n chan fid mode opened

has : (c : Cat) (n chan : ℕ) (fid : Fid) (mode : Mode) → has_open c n chan fid mode ≡ true → Has c n chan fid mode
has c n chan fid mode e = by_open (channel_at c n chan) refl e where
  by_open : (o : Option Open) → channel_at c n chan ≡ o → is_open_as c n chan fid mode o ≡ true → Has c n chan fid mode
  by_open None at h = absurd (let f : false ≡ true = h in cc)
  by_open (Some o) at h = record { opened = o; at = at; parts = parts c n chan fid mode o h }

pub had : (c : Cat) (n chan : ℕ) (fid : Fid) (mode : Mode) (o : Open) → channel_at c n chan ≡ Some o → Parts c n chan fid mode o → has_open c n chan fid mode ≡ true
had c n chan fid mode o at p = ap (is_open_as c n chan fid mode) at ∙ made c n chan fid mode o p

-- each open of d at another place than i was there, or is new and conflicts with none
abbrev pub OpensGo : Cat → Cat → ℕ → Type 0
OpensGo c d i = (j : ℕ) (o : Open) → (i ≡ j → ⊥) → slice_get d.opens j ≡ Some (Some o) → (slice_get c.opens j ≡ Some (Some o)) ⊎ (list_any (conflicts o.file o.mode) c.opens ≡ false)

-- what a channel has open stays
pub has_stays : (c d : Cat) (n chan : ℕ) (fid : Fid) (mode : Mode) → 1 ≤ chan → OpenStay c.files d → channel_at d n chan ≡ channel_at c n chan → OpensGo c d (place n chan)
    → has_open c n chan fid mode ≡ true → has_open d n chan fid mode ≡ true
has_stays c d n chan fid mode le stay still others e =
    let h = has c n chan fid mode e in
    let o : Open = h.opened in
    let now : channel_at d n chan ≡ Some o = still ∙ h.at in
    let old : slice_get c.opens (place n chan) ≡ Some (Some o) = channel_in (slice_get c.opens (place n chan)) o h.at in
    let new : slice_get d.opens (place n chan) ≡ Some (Some o) = channel_in (slice_get d.opens (place n chan)) o now in
    had d n chan fid mode o now (record {
      number = h.parts.number;
      rank = h.parts.rank;
      goes = goes_to d n chan o.file o.mode le (go o old (goes_from c n chan o.file o.mode le h.parts.goes));
      above = h.parts.above;
      plain = plain_stays c d fid stay (open_there d (place n chan) fid.num o new h.parts.number) h.parts.plain;
    }) where
      swapped : (a b : ℕ) → (a == b) ≡ true → (b == a) ≡ true
      swapped a b s = number_same b a (sym (same_number a b s))

      go : (o : Open) → slice_get c.opens (place n chan) ≡ Some (Some o) → GoesAt c.opens (place n chan) o.file o.mode → GoesAt d.opens (place n chan) o.file o.mode
      go o old goes j p ne at same = by_origin (others j p ne at) where
        by_origin : (slice_get c.opens j ≡ Some (Some p)) ⊎ (list_any (conflicts p.file p.mode) c.opens ≡ false) → compatible_modes o.mode p.mode ≡ true
        by_origin (inl was) = goes j p ne was same
        by_origin (inr none) = both_ways p.mode o.mode (goes_at c.opens (place n chan) p.file p.mode o none old (swapped p.file o.file same))

-- ---- an OPEN that is answered so

pub record Opened (c : Cat) (node chan : ℕ) (fid : Fid) (mode : Mode) (d : Cat) : Type 0 where
  pub file : File
  pub live : live c fid ≡ Some file
  pub above : nat_le fid.num 11 ≡ false
  pub plain : file.dir ≡ false
  pub goes : list_any (conflicts fid.num mode) c.opens ≡ false
  pub after : d ≡ with_channel c node chan (Some (record { file = fid.num; mode = mode }))

neither : (a b : Bool) → (a || b) ≡ false → (a ≡ false) × (b ≡ false)
neither false b h = (refl, h)
neither true b h = absurd (let f : true ≡ false = h in cc)

opened_of : (c d : Cat) (node chan : ℕ) (fid : Fid) (mode : Mode) (f : Option File) → live c fid ≡ f → open_of c node chan fid.num f mode ≡ record { reply = reply.Opened; after = d } → Opened c node chan fid mode d
opened_of c d node chan fid mode None at e = absurd (refused_not (ap (λ (o : Outcome). is_opened o.reply) e)) where
  refused_not : false ≡ true → ⊥
  refused_not h = cc h
opened_of c d node chan fid mode (Some f) at e = by_kept (is_kept fid.num f) (list_any (conflicts fid.num mode) c.opens) refl refl e where
  new : Outcome
  new = told (with_channel c node chan (Some (record { file = fid.num; mode = mode }))) reply.Opened

  by_kept : (a b : Bool) → is_kept fid.num f ≡ a → list_any (conflicts fid.num mode) c.opens ≡ b
      → unless c (first_refusal ((a, refusal.NoPriv) ∷ (b, refusal.AccConflict) ∷ [])) new ≡ record { reply = reply.Opened; after = d } → Opened c node chan fid mode d
  by_kept true b p q h = absurd (let x : false ≡ true = ap (λ (o : Outcome). is_opened o.reply) h in cc)
  by_kept false true p q h = absurd (let x : false ≡ true = ap (λ (o : Outcome). is_opened o.reply) h in cc)
  by_kept false false p q h =
      let parts = neither (nat_le fid.num 11) f.dir p in
      record { file = f; live = at; above = parts.0; plain = parts.1; goes = q; after = sym (ap (λ (o : Outcome). o.after) h) }

pub opened_by_answer : (c d : Cat) (node chan : ℕ) (fid : Fid) (mode : Mode) → Answer c node (cmd.OpenFile chan fid mode) reply.Opened d → Opened c node chan fid mode d
unfolding outcome open_outcome
opened_by_answer c d node chan fid mode (new, pick, is) = by_busy (is_some (channel_at c node chan)) is where
  by_busy : (b : Bool) → cond b (refused c refusal.ChanBusy) (open_of c node chan fid.num (live c fid) mode) ≡ record { reply = reply.Opened; after = d } → Opened c node chan fid mode d
  by_busy true h = absurd (let x : false ≡ true = ap (λ (o : Outcome). is_opened o.reply) h in cc)
  by_busy false h = opened_of c d node chan fid mode (live c fid) refl h
