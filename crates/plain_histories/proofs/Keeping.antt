-- What a channel has open stays, and what OPEN gives it.
use Rattle.std.proofs.Common.{◌≡◌, ◌-◌, ◌+◌, ◌*◌, ◌≤◌, ◌<◌, ◌⊎◌, inl, inr, ℕ, zero, suc, Bool, true, false, cond, not, List, Option, Some, None, nat_lt, nat_le, slice_get, slice_set, refl, sym, ap, subst, ◌∙◌, arith}
use Rattle.std.specs.Prelude.{length}
use Rattle.std.specs.List.{list_any}
use Rattle.std.proofs.lemmas.Bool.Decides.{nat_tests}
use Rattle.plain_cat.specs.Modes.{rank}
use Rattle.plain_cat.specs.declared.ids.Fid.{Fid}
use Rattle.plain_cat.specs.declared.mode.Mode.{Mode}
use Rattle.plain_cat.specs.declared.command.Cmd.{Cmd}
use Rattle.plain_cat.specs.declared.command.Cmd.TheVariants as cmd
use Rattle.plain_cat.specs.declared.reply.Reply.{Reply}
use Rattle.plain_cat.specs.declared.reply.Reply.TheVariants as reply
use Rattle.plain_cat.specs.declared.history.Stage.{Stage}
use Rattle.plain_cat.specs.declared.cat.Cat.{Cat}
use Rattle.plain_cat.specs.declared.cat.File.{File}
use Rattle.plain_cat.specs.declared.cat.Open.{Open}
use Rattle.plain_rules.specs.Lookups.{in_use, unmarked, live, joined, channel_at, place}
use Rattle.plain_rules.specs.Changes.{with_channel}
use Rattle.plain_rules.specs.Answers.{conflicts, IsPick, Answer}
use Rattle.plain_rules.specs.Stages.{staged}
use Rattle.plain_rules.specs.Own.{is_opened, is_closed}
use Rattle.plain_rules.specs.Replaying.{closed_channels, dead}
use Rattle.plain_histories.specs.Opens.{IsChannel, has_open}
use Rattle.plain_rules.specs.Opens.{is_plain_file}
use Rattle.plain_histories.specs.Moves.{switched_by, switched_next, IsElsewhere, opens_after}
use Rattle.plain_histories.proofs.Lists.{number_same, same_or_other, set_else, set_here, set_there}
use Rattle.plain_histories.proofs.Files.{OpenStay, same_stay}
use Rattle.plain_histories.proofs.Moving.{answer_moved, kept_reply}
use Rattle.plain_histories.proofs.Staging.{StageKept, stage_kept}
use Rattle.plain_histories.proofs.Having.{same_place, OpensGo, goes_at, goes_to, Opened, opened_by_answer, has_stays, had}

-- ---- what a reply switches

pub data Switch (os : List (Option Open)) (m : ℕ) (x : Cmd) (r : Reply) : Type 0 where
  stays : opens_after os m x r ≡ os → Switch os m x r
  closes : (k : ℕ) → x ≡ cmd.CloseFile k → opens_after os m x r ≡ slice_set os (place m k) None → Switch os m x r
  opens : (k : ℕ) (file : Fid) (mode : Mode) → x ≡ cmd.OpenFile k file mode → r ≡ reply.Opened → opens_after os m x r ≡ slice_set os (place m k) (Some (record { file = file.num; mode = mode })) → Switch os m x r

pub switch : (os : List (Option Open)) (m : ℕ) (x : Cmd) (r : Reply) → Switch os m x r
switch os m (cmd.OpenFile k file mode) reply.Opened = opens k file mode refl refl refl
switch os m (cmd.CloseFile k) (reply.Closed gone) = closes k refl refl
switch os m x r = stays refl

-- an OPEN by its command and reply
pub opened_by : (c d : Cat) (m k : ℕ) (file : Fid) (mode : Mode) (x : Cmd) (r : Reply) → x ≡ cmd.OpenFile k file mode → r ≡ reply.Opened → Answer c m x r d → Opened c m k file mode d
opened_by c d m k file mode x r is by a = opened_by_answer c d m k file mode (subst (λ (s : Reply). Answer c m (cmd.OpenFile k file mode) s d) by (subst (λ (y : Cmd). Answer c m y r d) is a))

-- ---- the opens at other places

pub same_go : (c d : Cat) (i : ℕ) → d.opens ≡ c.opens → OpensGo c d i
same_go c d i same j o ne at = inl (ap (λ (os : List (Option Open)). slice_get os j) (sym same) ∙ at)

pub closed_go : (c d : Cat) (i q : ℕ) → d.opens ≡ slice_set c.opens q None → OpensGo c d i
closed_go c d i q is j o ne at = elim (same_or_other q j) [ inl e ↦ here e | inr ne ↦ inl (sym (set_else c.opens q j None ne) ∙ now) ] where
  now : slice_get (slice_set c.opens q None) j ≡ Some (Some o)
  now = ap (λ (os : List (Option Open)). slice_get os j) (sym is) ∙ at

  here : q ≡ j → (slice_get c.opens j ≡ Some (Some o)) ⊎ (list_any (conflicts o.file o.mode) c.opens ≡ false)
  here e = absurd (let f : Some o ≡ None = set_there c.opens q None (Some o) (ap (slice_get (slice_set c.opens q None)) e ∙ now) in cc)

pub opened_go : (c d : Cat) (i q : ℕ) (new : Open) → d.opens ≡ slice_set c.opens q (Some new) → list_any (conflicts new.file new.mode) c.opens ≡ false → OpensGo c d i
opened_go c d i q new is none j o ne at = elim (same_or_other q j) [ inl e ↦ here e | inr ne ↦ inl (sym (set_else c.opens q j (Some new) ne) ∙ now) ] where
  now : slice_get (slice_set c.opens q (Some new)) j ≡ Some (Some o)
  now = ap (λ (os : List (Option Open)). slice_get os j) (sym is) ∙ at

  here : q ≡ j → (slice_get c.opens j ≡ Some (Some o)) ⊎ (list_any (conflicts o.file o.mode) c.opens ≡ false)
  here e =
      let f : Some o ≡ Some new = set_there c.opens q (Some new) (Some o) (ap (slice_get (slice_set c.opens q (Some new))) e ∙ now) in
      let g : o ≡ new = cc f in
      inr (subst (λ (p : Open). list_any (conflicts p.file p.mode) c.opens ≡ false) (sym g) none)

still_same : (c d : Cat) (n chan : ℕ) → d.opens ≡ c.opens → channel_at d n chan ≡ channel_at c n chan
still_same c d n chan same = ap (λ (os : List (Option Open)). joined (slice_get os (place n chan))) same

still_else : (c d : Cat) (n chan q : ℕ) (v : Option Open) → d.opens ≡ slice_set c.opens q v → (q ≡ place n chan → ⊥) → channel_at d n chan ≡ channel_at c n chan
still_else c d n chan q v is ne = ap (λ (os : List (Option Open)). joined (slice_get os (place n chan))) is ∙ ap joined (set_else c.opens q (place n chan) v ne)

-- ---- answers

-- the place that is switched is not this channel's
pub place_apart : (m n chan k : ℕ) (sw : Option ℕ) → IsChannel n chan → IsElsewhere m sw n chan → sw ≡ Some k → place m k ≡ place n chan → ⊥
place_apart m n chan k sw own far is same =
    let f = far k is in
    f.1 (same_place m k n chan f.0.node_from own.node_from f.0.from f.0.to own.from own.to same)

-- what one channel sees of a move
pub record Apart (c d : Cat) (n chan : ℕ) : Type 0 where
  pub still : channel_at d n chan ≡ channel_at c n chan
  pub others : OpensGo c d (place n chan)

pub answer_apart : (c d : Cat) (m n chan : ℕ) (x : Cmd) (r : Reply) → IsChannel n chan → IsElsewhere m (switched_by x) n chan → Answer c m x r d → Apart c d n chan
answer_apart c d m n chan x r own far a = by_switch (switch c.opens m x r) where
  now : d.opens ≡ opens_after c.opens m x r
  now = (answer_moved c d m x r a).opens

  by_switch : Switch c.opens m x r → Apart c d n chan
  by_switch (stays e) = record { still = still_same c d n chan (now ∙ e); others = same_go c d (place n chan) (now ∙ e) }
  by_switch (closes k is e) =
      let ne : place m k ≡ place n chan → ⊥ = place_apart m n chan k (switched_by x) own far (ap switched_by is) in
      record { still = still_else c d n chan (place m k) None (now ∙ e) ne; others = closed_go c d (place n chan) (place m k) (now ∙ e) }
  by_switch (opens k file mode is by e) =
      let ne : place m k ≡ place n chan → ⊥ = place_apart m n chan k (switched_by x) own far (ap switched_by is) in
      let new : Open = record { file = file.num; mode = mode } in
      record {
        still = still_else c d n chan (place m k) (Some new) (now ∙ e) ne;
        others = opened_go c d (place n chan) (place m k) new (now ∙ e) (opened_by c d m k file mode x r is by a).goes;
      }

pub answer_keeps : (c d : Cat) (m n chan : ℕ) (x : Cmd) (r : Reply) (fid : Fid) (mode : Mode) → IsChannel n chan → IsElsewhere m (switched_by x) n chan → Answer c m x r d
    → has_open c n chan fid mode ≡ true → has_open d n chan fid mode ≡ true
answer_keeps c d m n chan x r fid mode own far a e =
    let p = answer_apart c d m n chan x r own far a in
    has_stays c d n chan fid mode own.from (answer_moved c d m x r a).files p.still p.others e

-- ---- stages

pub stage_apart : (c d : Cat) (m n chan : ℕ) (x : Option Cmd) → IsChannel n chan → IsElsewhere m (switched_next x) n chan → StageKept c m x d → Apart c d n chan
stage_apart c d m n chan x own far (inl k) = record { still = still_same c d n chan k.opens; others = same_go c d (place n chan) k.opens }
stage_apart c d m n chan x own far (inr (k, is, kept)) = record {
  still = still_else c d n chan (place m k) None kept.opens (place_apart m n chan k (switched_next x) own far is);
  others = closed_go c d (place n chan) (place m k) kept.opens;
}

pub stage_files : (c d : Cat) (m : ℕ) (x : Option Cmd) → StageKept c m x d → OpenStay c.files d
stage_files c d m x (inl k) = k.files
stage_files c d m x (inr (k, is, kept)) = kept.files

pub stage_keeps : (c d : Cat) (m n chan : ℕ) (x : Option Cmd) (s : Stage) (new : Option ℕ) (fid : Fid) (mode : Mode) → IsChannel n chan → IsElsewhere m (switched_next x) n chan
    → IsPick c new → staged c m x s new ≡ Some d → has_open c n chan fid mode ≡ true → has_open d n chan fid mode ≡ true
stage_keeps c d m n chan x s new fid mode own far pick is e =
    let k = stage_kept c d m x s new pick is in
    let p = stage_apart c d m n chan x own far k in
    has_stays c d n chan fid mode own.from (stage_files c d m x k) p.still p.others e

-- ---- deaths

-- an open that is left was there
pub closed_left : (m k : ℕ) (os : List (Option Open)) (j : ℕ) (o : Open) → slice_get (closed_channels m k os) j ≡ Some (Some o) → slice_get os j ≡ Some (Some o)
unfolding closed_channels
closed_left m zero os j o at = at
closed_left m (suc k) os j o at = elim (same_or_other (place m (suc k)) j) [ inl e ↦ here e | inr ne ↦ closed_left m k os j o (sym (set_else (closed_channels m k os) (place m (suc k)) j None ne) ∙ at) ] where
  here : place m (suc k) ≡ j → slice_get os j ≡ Some (Some o)
  here e = absurd (let f : Some o ≡ None = set_there (closed_channels m k os) (place m (suc k)) None (Some o) (ap (slice_get (slice_set (closed_channels m k os) (place m (suc k)) None)) e ∙ at) in cc)

-- the channels of other nodes stay
closed_else : (m k n chan : ℕ) (os : List (Option Open)) → 1 ≤ m → k ≤ 8 → IsChannel n chan → (m ≡ n → ⊥) → slice_get (closed_channels m k os) (place n chan) ≡ slice_get os (place n chan)
unfolding closed_channels
closed_else m zero n chan os from le own ne = refl
closed_else m (suc k) n chan os from le own ne =
    let low : 1 ≤ suc k = omega arith in
    let less : k ≤ 8 = omega arith in
    set_else (closed_channels m k os) (place m (suc k)) (place n chan) None (λ e. ne (same_place m (suc k) n chan from own.node_from low le own.from own.to e).0)
    ∙ closed_else m k n chan os from less own ne

pub dead_still : (c : Cat) (m n chan k : ℕ) (numbers : List ℕ) → 1 ≤ m → IsChannel n chan → (m ≡ n → ⊥) → channel_at (dead c m k numbers) n chan ≡ channel_at c n chan
unfolding dead
dead_still c m n chan k numbers from own ne = let le : 8 ≤ 8 = omega arith in ap joined (closed_else m 8 n chan c.opens from le own ne)

pub dead_keeps : (c : Cat) (m n chan k : ℕ) (numbers : List ℕ) (fid : Fid) (mode : Mode) → 1 ≤ m → IsChannel n chan → (m ≡ n → ⊥)
    → has_open c n chan fid mode ≡ true → has_open (dead c m k numbers) n chan fid mode ≡ true
unfolding dead
dead_keeps c m n chan k numbers fid mode from own ne e =
    has_stays c (dead c m k numbers) n chan fid mode own.from (λ j f at is. same_stay c.files j f at) (dead_still c m n chan k numbers from own ne)
    (λ j o apart at. inl (closed_left m 8 c.opens j o at)) e

-- ---- one's own answer

live_in : (o : Option File) (f : File) → unmarked o ≡ Some f → o ≡ Some f
live_in None f e = e
live_in (Some g) f e = by_mark g.marked e where
  by_mark : (b : Bool) → cond b None (Some g) ≡ Some f → Some g ≡ Some f
  by_mark true h = absurd (let x : None ≡ Some f = h in cc)
  by_mark false h = h

pub used_by : (c : Cat) (fid : Fid) (f : File) → live c fid ≡ Some f → in_use c fid ≡ Some f
used_by c fid f e = live_in (in_use c fid) f e

pub above_eleven : (n : ℕ) → nat_le n 11 ≡ false → nat_lt 11 n ≡ true
above_eleven n e = grind (arith, nat_tests)

pub opened_has : (c d : Cat) (n chan : ℕ) (fid : Fid) (mode : Mode) → IsChannel n chan → length c.opens ≡ 64 → Opened c n chan fid mode d → has_open d n chan fid mode ≡ true
opened_has c d n chan fid mode own count o = subst (λ (x : Cat). has_open x n chan fid mode ≡ true) (sym o.after) (had after n chan fid mode new at (record {
  number = number_same fid.num fid.num refl;
  rank = number_same (rank mode) (rank mode) refl;
  goes = goes_to after n chan fid.num mode own.from (λ j p ne there same. goes_at c.opens j fid.num mode p o.goes (sym (set_else c.opens (place n chan) j (Some new) ne) ∙ there) same);
  above = above_eleven fid.num o.above;
  plain = ap is_plain_file (used_by c fid o.file o.live) ∙ ap not o.plain;
})) where
  new : Open
  new = record { file = fid.num; mode = mode }

  after : Cat
  after = with_channel c n chan (Some new)

  within : (k : ℕ) → k ≡ 64 → 8 * (n - 1) + (chan - 1) < k
  within k is = let a = own.node_to in let b = own.to in omega (arith, a, b, is)

  at : channel_at after n chan ≡ Some new
  at = ap joined (set_here c.opens (place n chan) (Some new) (within (length c.opens) count))

pub closed_has : (c d : Cat) (n chan : ℕ) (gone : Bool) → Answer c n (cmd.CloseFile chan) (reply.Closed gone) d → channel_at d n chan ≡ None
closed_has c d n chan gone a = ap (λ (os : List (Option Open)). joined (slice_get os (place n chan))) (answer_moved c d n (cmd.CloseFile chan) (reply.Closed gone) a).opens ∙ empty (slice_get (slice_set c.opens (place n chan) None) (place n chan)) refl where
  empty : (o : Option (Option Open)) → slice_get (slice_set c.opens (place n chan) None) (place n chan) ≡ o → joined o ≡ None
  empty None e = refl
  empty (Some p) e = set_there c.opens (place n chan) None p e

pub others_stay : (c d : Cat) (m : ℕ) (x : Cmd) (r : Reply) → is_opened r ≡ false → is_closed r ≡ false → Answer c m x r d → d.opens ≡ c.opens
others_stay c d m x r e k a = (answer_moved c d m x r a).opens ∙ kept_reply c.opens m x r e k

pub others_keep : (c d : Cat) (m n chan : ℕ) (x : Cmd) (r : Reply) (fid : Fid) (mode : Mode) → is_opened r ≡ false → is_closed r ≡ false → IsChannel n chan → Answer c m x r d
    → has_open c n chan fid mode ≡ true → has_open d n chan fid mode ≡ true
others_keep c d m n chan x r fid mode e k own a h =
    let same = others_stay c d m x r e k a in
    has_stays c d n chan fid mode own.from (answer_moved c d m x r a).files (still_same c d n chan same) (same_go c d (place n chan) same) h
