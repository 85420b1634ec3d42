-- The commands to which a script in form can come name channels and modes that are in form.
use Rattle.std.proofs.Common.{◌≡◌, ◌≤◌, ◌<◌, ◌+◌, ◌-◌, ◌&&◌, ◌==◌, ℕ, zero, suc, Bool, true, false, cond, List, [], ◌∷◌, Option, Some, None, length, slice_get, refl, sym, ap, subst, ◌∙◌, arith}
use Rattle.std.specs.List.{list_all}
use Rattle.std.proofs.lemmas.Bool.{and_parts}
use Rattle.std.proofs.lemmas.Bool.Decides.{nat_tests}
use Rattle.std.proofs.lemmas.List.Sums.{list_all-from_AllPass}
use Rattle.plain_cat.specs.InForm.{is_eighth, is_open_mode, is_file_ref, is_within, line_in_form, InForm}
use Rattle.plain_cat.specs.declared.ids.Fid.{Fid}
use Rattle.plain_cat.specs.declared.command.Cmd.{Cmd}
use Rattle.plain_cat.specs.declared.command.Cmd.TheVariants as cmd
use Rattle.plain_cat.specs.declared.history.Entry.{Entry}
use Rattle.plain_cat.specs.declared.script.LineCmd.{LineCmd}
use Rattle.plain_cat.specs.declared.script.LineCmd.TheVariants as line
use Rattle.plain_cat.specs.declared.script.Line.{Line}
use Rattle.plain_cat.specs.declared.script.Script.{Script}
use Rattle.plain_rules.specs.Own.{past, filled, lines_of, close_from, or_close, next_command}
use Rattle.plain_histories.proofs.Commanding.{past_count}
use Rattle.plain_histories.specs.Moves.{has_channel_in_form}
use Rattle.core_state.specs.Channels.{names_in_form}

-- ---- a close is of one of them

-- the channel of a close
pub record IsCloseOf (k : ℕ) (channels : List Bool) (x : Cmd) : Type 0 where
  pub chan : ℕ
  pub is : x ≡ cmd.CloseFile chan
  pub from : k ≤ chan
  pub to : chan < k + length channels
  pub open_now : slice_get channels (chan - k) ≡ Some true

pub closes_one : (k : ℕ) (channels : List Bool) (x : Cmd) → close_from k channels ≡ Some x → IsCloseOf k channels x
closes_one k [] x e = absurd (let f : None ≡ Some x = e in cc)
closes_one k (b ∷ channels) x e = by_open b e (closes_one (k + 1) channels x) where
  by_open : (b : Bool) → cond b (Some (cmd.CloseFile k)) (close_from (k + 1) channels) ≡ Some x → (close_from (k + 1) channels ≡ Some x → IsCloseOf (k + 1) channels x) → IsCloseOf k (b ∷ channels) x
  by_open true e rest =
      let f : cmd.CloseFile k ≡ x = cc in
      let z : k - k ≡ 0 = omega arith in
      record { chan = k; is = sym f; from = omega arith; to = omega arith; open_now = ap (slice_get (true ∷ channels)) z }
  by_open false e rest =
      let c = rest e in
      let from = c.from in
      let to = c.to in
      let z : c.chan - k ≡ suc (c.chan - (k + 1)) = omega arith in
      record { chan = c.chan; is = c.is; from = omega arith; to = omega arith; open_now = ap (slice_get (false ∷ channels)) z ∙ c.open_now }

eighth : (chan : ℕ) → 1 ≤ chan → chan < 1 + 8 → is_eighth chan ≡ true
eighth chan from to = grind (arith, nat_tests)

-- ---- a line in form

pub joins : (a b : Bool) → a ≡ true → b ≡ true → (a && b) ≡ true
joins a b e f = ap (λ t. t && b) e ∙ f

line_names : (g : List Fid) (l : LineCmd) → line_in_form l ≡ true → names_in_form (filled g l) ≡ true
unfolding filled line_in_form
line_names g (line.Lookup reg dir name ver) form = refl
line_names g (line.List dir) form = refl
line_names g (line.Stat file) form = refl
line_names g (line.Create reg dir name ver blocks owner) form = refl
line_names g (line.MkDir reg dir name owner) form = refl
line_names g (line.Extend file blocks) form = refl
line_names g (line.Trunc file blocks) form = refl
line_names g (line.Delete dir name ver) form = refl
line_names g (line.Rename dir name ver to to_ver) form = refl
line_names g (line.OpenFile chan file mode) form =
    let p = and_parts (is_eighth chan) (is_file_ref file && is_open_mode mode) form in
    joins (is_eighth chan) (is_open_mode mode) p.0 (and_parts (is_file_ref file) (is_open_mode mode) p.1).1
line_names g (line.CloseFile chan) form = form
line_names g (line.ReadBlock chan vbn) form = (and_parts (is_eighth chan) _ form).0
line_names g (line.WriteBlock chan vbn text) form = (and_parts (is_eighth chan) _ form).0
line_names g (line.QuotaSet owner quota over) form = refl
line_names g (line.QuotaShow owner) form = refl

-- the lines of a node are in form
lines_form : (node nodes : ℕ) (ls : List Line) → list_all (λ (l : Line). is_within 1 nodes l.node && line_in_form l.cmd) ls ≡ true → list_all line_in_form (lines_of node ls) ≡ true
lines_form node nodes [] h = refl
lines_form node nodes (l ∷ ls) h =
    let parts = and_parts (is_within 1 nodes l.node && line_in_form l.cmd) (list_all (λ (l : Line). is_within 1 nodes l.node && line_in_form l.cmd) ls) h in
    by_node (l.node == node) (and_parts (is_within 1 nodes l.node) (line_in_form l.cmd) parts.0).1 (lines_form node nodes ls parts.1) where
      by_node : (b : Bool) → line_in_form l.cmd ≡ true → list_all line_in_form (lines_of node ls) ≡ true → list_all line_in_form (cond b (l.cmd ∷ lines_of node ls) (lines_of node ls)) ≡ true
      by_node true e rest = joins (line_in_form l.cmd) (list_all line_in_form (lines_of node ls)) e rest
      by_node false e rest = rest

pub one_form : (p : LineCmd → Bool) (ls : List LineCmd) (i : ℕ) (l : LineCmd) → list_all p ls ≡ true → slice_get ls i ≡ Some l → p l ≡ true
one_form p [] i l h e = absurd (let f : None ≡ Some l = e in cc)
one_form p (x ∷ xs) zero l h e = let f : Some x ≡ Some l = e in let same : x ≡ l = cc in subst (λ y. p y ≡ true) same (and_parts (p x) (list_all p xs) h).0
one_form p (x ∷ xs) (suc i) l h e = one_form p xs i l (and_parts (p x) (list_all p xs) h).1 e

-- ---- the next command of a node

pub next_names : (s : Script) → InForm s → (n : ℕ) (h : List Entry) (x : Cmd) → next_command s n h ≡ Some x → names_in_form x ≡ true
next_names s form n h x e = by_line (slice_get (lines_of n s.lines) (past n h).answered) refl e where
  by_line : (o : Option LineCmd) → slice_get (lines_of n s.lines) (past n h).answered ≡ o → or_close (past n h) o ≡ Some x → names_in_form x ≡ true
  by_line None at f =
      let c = closes_one 1 (past n h).channels x f in
      let to = c.to in
      let eight = past_count n h in
      subst (λ (y : Cmd). names_in_form y ≡ true) (sym c.is) (eighth c.chan c.from (subst (λ (k : ℕ). c.chan < 1 + k) eight to))
  by_line (Some l) at f =
      let same : filled (past n h).registers l ≡ x = cc in
      subst (λ (y : Cmd). names_in_form y ≡ true) same (line_names (past n h).registers l (one_form line_in_form (lines_of n s.lines) (past n h).answered l (lines_form n s.nodes s.lines (list_all-from_AllPass _ s.lines form.lines)) at))

-- so its channel and mode are
pub names_channel : (x : Cmd) → names_in_form x ≡ true → has_channel_in_form x ≡ true
names_channel (cmd.Lookup reg dir name ver) form = refl
names_channel (cmd.List dir) form = refl
names_channel (cmd.Stat file) form = refl
names_channel (cmd.Create reg dir name ver blocks owner) form = refl
names_channel (cmd.MkDir reg dir name owner) form = refl
names_channel (cmd.Extend file blocks) form = refl
names_channel (cmd.Trunc file blocks) form = refl
names_channel (cmd.Delete dir name ver) form = refl
names_channel (cmd.Rename dir name ver to to_ver) form = refl
names_channel (cmd.OpenFile chan file mode) form = form
names_channel (cmd.CloseFile chan) form = form
names_channel (cmd.ReadBlock chan vbn) form = refl
names_channel (cmd.WriteBlock chan vbn text) form = refl
names_channel (cmd.QuotaSet owner quota over) form = refl
names_channel (cmd.QuotaShow owner) form = refl
