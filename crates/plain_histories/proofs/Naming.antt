-- Opens name files, and go together.
use Rattle.std.proofs.Common.{◌≡◌, ◌-◌, ◌≤◌, ◌<◌, ◌==◌, ◌&&◌, ◌⊎◌, inl, inr, ℕ, zero, suc, Bool, true, false, cond, List, [], ◌∷◌, Option, Some, None, nat_lt, slice_get, slice_set, refl, sym, ap, subst, ◌∙◌, arith}
use Rattle.std.specs.Prelude.{length, replicate, map}
use Rattle.std.specs.List.{list_all}
use Rattle.plain_cat.specs.Modes.{compatible_modes, rank}
use Rattle.plain_cat.specs.InForm.{is_open_mode, is_eighth, is_fid, in_form}
use Rattle.plain_cat.specs.declared.ids.Fid.{Fid}
use Rattle.plain_cat.specs.declared.mode.Mode.{Mode}
use Rattle.plain_cat.specs.declared.mode.Mode.TheVariants.{NL, CR, CW, PR, PW, EX}
use Rattle.plain_cat.specs.declared.command.Cmd.{Cmd}
use Rattle.plain_cat.specs.declared.command.Cmd.TheVariants as cmd
use Rattle.plain_cat.specs.declared.reply.Reply.{Reply}
use Rattle.plain_cat.specs.declared.history.Stage.{Stage}
use Rattle.plain_cat.specs.declared.history.Mended.{Mended}
use Rattle.plain_cat.specs.declared.cat.Cat.{Cat}
use Rattle.plain_cat.specs.declared.cat.File.{File}
use Rattle.plain_cat.specs.declared.cat.Open.{Open}
use Rattle.plain_rules.specs.Lookups.{file_at, of_seq, in_use, is_open, place}
use Rattle.plain_rules.specs.Changes.{with_channel}
use Rattle.plain_rules.specs.Answers.{IsPick, Answer}
use Rattle.plain_rules.specs.Stages.{staged}
use Rattle.plain_rules.specs.Mending.{without_opens, without_entries, put_right, mended}
use Rattle.plain_rules.specs.Replaying.{closed_channels, dead}
use Rattle.plain_rules.proofs.Standing.{stands_at}
use Rattle.plain_laws.proofs.Steps.{mends_from}
use Rattle.plain_histories.specs.Opens.{NamesFile, OpensNameFiles}
use Rattle.plain_rules.specs.Opens.{is_held_open}
use Rattle.plain_histories.specs.Moves.{has_channel_in_form}
use Rattle.plain_histories.proofs.Lists.{left, right, both, number_same, same_or_other, set_else, set_there, set_count, same_there, same_count, all_there}
use Rattle.plain_histories.proofs.Files.{OpenStay, same_stay, file_here}
use Rattle.plain_histories.proofs.Moving.{Kept, Moved, answer_moved}
use Rattle.plain_histories.proofs.Staging.{StageKept, stage_kept}
use Rattle.plain_histories.proofs.Having.{open_there, both_ways, goes_at, Opened}
use Rattle.plain_histories.proofs.Keeping.{Switch, stays, closes, opens, switch, opened_by, closed_left, used_by}
use Rattle.base_words.proofs.Booleans.{above_from}
use Rattle.plain_laws.proofs.ClearSteps.{kept_opens}

-- ---- nothing is open

pub names_none : (c : Cat) → length c.opens ≡ 64 → ((j : ℕ) (o : Open) → slice_get c.opens j ≡ Some (Some o) → ⊥) → OpensNameFiles c
names_none c count none = record {
  places = count;
  files = λ j o at. absurd (none j o at);
  together = λ i j o p ne at there same. absurd (none i o at);
}

pub closed_names : (c : Cat) → c.opens ≡ replicate 64 None → OpensNameFiles c
closed_names c is = names_none c (ap length is ∙ same_count 64 (let o : Option Open = None in o)) (λ j o at. empty (same_there 64 j None (Some o) (ap (λ (os : List (Option Open)). slice_get os j) (sym is) ∙ at))) where
  empty : {o : Open} → Some o ≡ None → ⊥
  empty e = cc e

held_open : (m : Mode) → is_open_mode m ≡ true → nat_lt 0 (rank m) ≡ true
held_open NL e = absurd (let f : false ≡ true = e in cc)
held_open CR e = refl
held_open CW e = refl
held_open PR e = refl
held_open PW e = refl
held_open EX e = refl

pub all_held : (c : Cat) → OpensNameFiles c → list_all is_held_open c.opens ≡ true
all_held c names = all_there is_held_open c.opens one where
  one : (i : ℕ) (x : Option Open) → slice_get c.opens i ≡ Some x → is_held_open x ≡ true
  one i None at = refl
  one i (Some o) at = held_open o.mode (names.files i o at).held

pub form_has : (x : Cmd) → in_form x ≡ true → has_channel_in_form x ≡ true
unfolding in_form
form_has (cmd.OpenFile chan file mode) e =
    let rest : (is_fid file && is_open_mode mode) ≡ true = right (is_eighth chan) (is_fid file && is_open_mode mode) e in
    both (is_eighth chan) (is_open_mode mode) (left (is_eighth chan) (is_fid file && is_open_mode mode) e) (right (is_fid file) (is_open_mode mode) rest)
form_has (cmd.CloseFile chan) e = e
form_has other e = refl

-- ---- what is left of the opens

-- the file of an open stays
names_file : (c d : Cat) (j : ℕ) (o : Open) → OpenStay c.files d → slice_get d.opens j ≡ Some (Some o) → NamesFile c o → NamesFile d o
names_file c d j o stay at n =
    let above = n.above in
    let from : 1 ≤ o.file = omega (arith, above) in
    let back : suc (o.file - 1) ≡ o.file = omega (arith, above) in
    let k = stay (o.file - 1) n.file (stands_at c o.file n.file n.used) (ap (is_open d) back ∙ open_there d j o.file o at (number_same o.file o.file refl)) in
    record { above = above; file = k.file; used = file_here d o.file k.file from k.at; plain = k.dir ∙ n.plain; held = n.held }

-- the opens of d were there
pub less_names : (c d : Cat) → length d.opens ≡ length c.opens → ((j : ℕ) (o : Open) → slice_get d.opens j ≡ Some (Some o) → slice_get c.opens j ≡ Some (Some o))
    → OpenStay c.files d → OpensNameFiles c → OpensNameFiles d
less_names c d count were stay names = record {
  places = count ∙ names.places;
  files = λ j o at. names_file c d j o stay at (names.files j o (were j o at));
  together = λ i j o p ne at there same. names.together i j o p ne (were i o at) (were j p there) same;
}

pub same_names : (c d : Cat) → Kept c d → OpensNameFiles c → OpensNameFiles d
same_names c d k names = less_names c d (ap length k.opens) (λ j o at. ap (λ (os : List (Option Open)). slice_get os j) (sym k.opens) ∙ at) k.files names

-- an open that is left once a place is closed
set_left : (os : List (Option Open)) (q j : ℕ) (o : Open) → slice_get (slice_set os q None) j ≡ Some (Some o) → slice_get os j ≡ Some (Some o)
set_left os q j o at = elim (same_or_other q j) [ inl e ↦ here e | inr ne ↦ sym (set_else os q j None ne) ∙ at ] where
  here : q ≡ j → slice_get os j ≡ Some (Some o)
  here e = absurd (let f : Some o ≡ None = set_there os q None (Some o) (ap (slice_get (slice_set os q None)) e ∙ at) in cc)

pub less_one : (c d : Cat) (q : ℕ) → d.opens ≡ slice_set c.opens q None → OpenStay c.files d → OpensNameFiles c → OpensNameFiles d
less_one c d q is stay names = less_names c d (ap length is ∙ set_count c.opens q None)
    (λ j o at. set_left c.opens q j o (ap (λ (os : List (Option Open)). slice_get os j) (sym is) ∙ at)) stay names

closed_count : (m k : ℕ) (os : List (Option Open)) → length (closed_channels m k os) ≡ length os
unfolding closed_channels
closed_count m zero os = refl
closed_count m (suc k) os = set_count (closed_channels m k os) (place m (suc k)) None ∙ closed_count m k os

pub dead_names : (c : Cat) (n k : ℕ) (numbers : List ℕ) → OpensNameFiles c → OpensNameFiles (dead c n k numbers)
unfolding dead
dead_names c n k numbers names = less_names c (dead c n k numbers) (closed_count n 8 c.opens) (λ j o at. closed_left n 8 c.opens j o at) (λ j f at is. same_stay c.files j f at) names

-- ---- one more

numbered : (c : Cat) (fid : Fid) (f : File) → in_use c fid ≡ Some f → file_at c fid.num ≡ Some f
numbered c fid f e = by_file (file_at c fid.num) e where
  by_seq : (b : Bool) (g : File) → cond b (Some g) None ≡ Some f → Some g ≡ Some f
  by_seq true g h = h
  by_seq false g h = absurd (let x : None ≡ Some f = h in cc)

  by_file : (o : Option File) → of_seq fid.seq o ≡ Some f → o ≡ Some f
  by_file None h = h
  by_file (Some g) h = by_seq (g.seq == fid.seq) g h

-- a channel opens a file that goes with all opens
pub more_names : (c : Cat) (n chan : ℕ) (fid : Fid) (mode : Mode) (d : Cat) → is_open_mode mode ≡ true → Opened c n chan fid mode d → OpensNameFiles c → OpensNameFiles d
more_names c n chan fid mode d held o names = subst OpensNameFiles (sym o.after) (record {
  places = set_count c.opens q (Some new) ∙ names.places;
  files = λ j p at. elim (from j p at) [ inl e ↦ subst (NamesFile after) (sym e.1) named | inr was ↦ stays p (names.files j p was) ];
  together = λ i j a b ne at there same. pair i j a b ne same at there (from i a at) (from j b there);
}) where
  new : Open
  new = record { file = fid.num; mode = mode }

  q : ℕ
  q = place n chan

  after : Cat
  after = with_channel c n chan (Some new)

  named : NamesFile after new
  named = record { above = above_from fid.num o.above; file = o.file; used = numbered c fid o.file (used_by c fid o.file o.live); plain = o.plain; held = held }

  stays : (p : Open) → NamesFile c p → NamesFile after p
  stays p f = record { above = f.above; file = f.file; used = f.used; plain = f.plain; held = f.held }

  -- an open is the new one, or was there
  from : (j : ℕ) (p : Open) → slice_get (slice_set c.opens q (Some new)) j ≡ Some (Some p) → ((q ≡ j) × (p ≡ new)) ⊎ (slice_get c.opens j ≡ Some (Some p))
  from j p at = elim (same_or_other q j) [ inl e ↦ here e | inr ne ↦ inr (sym (set_else c.opens q j (Some new) ne) ∙ at) ] where
    here : q ≡ j → ((q ≡ j) × (p ≡ new)) ⊎ (slice_get c.opens j ≡ Some (Some p))
    here e = let f : Some p ≡ Some new = set_there c.opens q (Some new) (Some p) (ap (slice_get (slice_set c.opens q (Some new))) e ∙ at) in inl (e, cc f)

  -- the new one goes with each that was there
  goes : (j : ℕ) (p : Open) → slice_get c.opens j ≡ Some (Some p) → p.file ≡ fid.num → compatible_modes mode p.mode ≡ true
  goes j p was same = goes_at c.opens j fid.num mode p o.goes was (number_same p.file fid.num same)

  pair : (i j : ℕ) (a b : Open) → (i ≡ j → ⊥) → a.file ≡ b.file → slice_get (slice_set c.opens q (Some new)) i ≡ Some (Some a) → slice_get (slice_set c.opens q (Some new)) j ≡ Some (Some b)
      → ((q ≡ i) × (a ≡ new)) ⊎ (slice_get c.opens i ≡ Some (Some a)) → ((q ≡ j) × (b ≡ new)) ⊎ (slice_get c.opens j ≡ Some (Some b)) → compatible_modes a.mode b.mode ≡ true
  pair i j a b ne same at there (inl e) (inr was) =
      subst (λ (x : Open). compatible_modes x.mode b.mode ≡ true) (sym e.1) (goes j b was (sym same ∙ ap (λ (x : Open). x.file) e.1))
  pair i j a b ne same at there (inr was) (inl e) =
      subst (λ (x : Open). compatible_modes a.mode x.mode ≡ true) (sym e.1) (both_ways mode a.mode (goes i a was (same ∙ ap (λ (x : Open). x.file) e.1)))
  pair i j a b ne same at there (inr was) (inr were) = names.together i j a b ne was were same
  pair i j a b ne same at there (inl e) (inl f) = absurd (ne (sym e.0 ∙ f.0))

-- ---- answers, stages and mendings

pub answer_names : (c d : Cat) (n : ℕ) (x : Cmd) (r : Reply) → has_channel_in_form x ≡ true → OpensNameFiles c → Answer c n x r d → OpensNameFiles d
answer_names c d n x r form names a = by_switch (switch c.opens n x r) where
  moved : Moved c n x (record { reply = r; after = d })
  moved = answer_moved c d n x r a

  by_switch : Switch c.opens n x r → OpensNameFiles d
  by_switch (stays e) = same_names c d (record { opens = moved.opens ∙ e; files = moved.files }) names
  by_switch (closes k is e) = less_one c d (place n k) (moved.opens ∙ e) moved.files names
  by_switch (opens k file mode is by e) =
      more_names c n k file mode d (right (is_eighth k) (is_open_mode mode) (subst (λ (y : Cmd). has_channel_in_form y ≡ true) is form)) (opened_by c d n k file mode x r is by a) names

kept_names : (c d : Cat) (n : ℕ) (x : Option Cmd) → StageKept c n x d → OpensNameFiles c → OpensNameFiles d
kept_names c d n x (inl k) names = same_names c d k names
kept_names c d n x (inr (k, is, kept)) names = less_one c d (place n k) kept.opens kept.files names

pub stage_names : (c d : Cat) (n : ℕ) (x : Option Cmd) (s : Stage) (new : Option ℕ) → OpensNameFiles c → IsPick c new → staged c n x s new ≡ Some d → OpensNameFiles d
stage_names c d n x s new names pick is = kept_names c d n x (stage_kept c d n x s new pick is) names

none_there : (os : List (Option Open)) (j : ℕ) (o : Open) → slice_get (map (λ (p : Option Open). let q : Option Open = None in q) os) j ≡ Some (Some o) → ⊥
none_there [] j o e = cc e
none_there (x ∷ os) zero o e = cc e
none_there (x ∷ os) (suc j) o e = none_there os j o e

map_count : (os : List (Option Open)) → length (map (λ (p : Option Open). let q : Option Open = None in q) os) ≡ length os
map_count [] = refl
map_count (x ∷ os) = ap suc (map_count os)

pub mended_names : (c d : Cat) (m : Mended) → OpensNameFiles c → mended c ≡ Some (d, m) → OpensNameFiles d
mended_names c d m names is =
    let e = mends_from c d m is in
    let opens : e.middle.opens ≡ map (λ (p : Option Open). let q : Option Open = None in q) c.opens = kept_opens (without_entries (without_opens c)) e.middle e.entered in
    subst OpensNameFiles e.last (names_none (put_right e.middle) (ap length opens ∙ (map_count c.opens ∙ names.places))
    (λ j o at. none_there c.opens j o (ap (λ (os : List (Option Open)). slice_get os j) (sym opens) ∙ at)))
