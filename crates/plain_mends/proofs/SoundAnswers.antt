-- Answers keep a catalogue in order.
use Rattle.std.proofs.Common.{◌≡◌, ◌==◌, ◌&&◌, ◌||◌, ◌-◌, ◌+◌, ◌*◌, ◌<◌, ◌≤◌, ◌⊎◌, inl, inr, ◌∙◌, ℕ, zero, suc, Bool, true, false, cond, not, min, List, [], ◌∷◌, Option, Some, None, length, map, slice_get, set, nat_le, nat_lt, refl, sym, ap, subst, arith}
use Rattle.std.specs.Prelude.{is_some}
use Rattle.std.specs.List.{list_any}
use Rattle.std.specs.Str.{bytes_eq}
use Rattle.std.proofs.lemmas.Bool.{and_parts, cases_lt, eqb-true, eq-eqb}
use Rattle.std.proofs.lemmas.Bool.Decides.{nat_tests}
use Rattle.std.proofs.lemmas.List.{length-set}
use Rattle.std.proofs.lemmas.Slice.Eq.{bytes_eq-Decides}
use Rattle.plain_cat.specs.declared.ids.Fid.{Fid}
use Rattle.plain_cat.specs.declared.ids.Uic.{Uic}
use Rattle.plain_cat.specs.declared.mode.Mode.{Mode}
use Rattle.plain_cat.specs.declared.entries.DirEnt.{DirEnt}
use Rattle.plain_cat.specs.declared.command.Cmd.{Cmd}
use Rattle.plain_cat.specs.declared.command.Cmd.TheVariants as cmd
use Rattle.plain_cat.specs.declared.reply.Reply.{Reply}
use Rattle.plain_cat.specs.declared.reply.Reply.TheVariants as reply
use Rattle.plain_cat.specs.declared.reply.Refusal.{Refusal}
use Rattle.plain_cat.specs.declared.reply.Refusal.TheVariants as refusal
use Rattle.plain_cat.specs.declared.cat.Cat.{Cat}
use Rattle.plain_cat.specs.declared.cat.File.{File}
use Rattle.plain_cat.specs.declared.cat.Slot.{Slot}
use Rattle.plain_cat.specs.declared.cat.Slot.TheVariants.{Used, Free}
use Rattle.plain_cat.specs.declared.cat.Open.{Open}
use Rattle.plain_cat.specs.declared.cat.QuotaRow.{QuotaRow}
use Rattle.plain_rules.specs.declared.outcome.Outcome.{Outcome}
use Rattle.plain_rules.specs.Lookups.{slot_at, last_seq, file_at, of_seq, in_use, unmarked, live, versions, first_with, entry_of, highest, channel_at, is_open, row_of, is_free_number, header_most, file_most}
use Rattle.plain_rules.specs.Directories.{inserted, is_entry, without, is_nil, fits, entry, nowhere, new_version, is_last_version, is_taken}
use Rattle.plain_rules.specs.Changes.{in_clusters, cost, with_file, freed, raised, lowered, charged, discharged, new_fid, new_file, new_dir, grown, cut, block_of, is_past_mark, marked_up, written, with_channel, with_row, allowed}
use Rattle.plain_rules.specs.Mending.{system_names, is_name_of, is_own}
use Rattle.plain_rules.specs.Answers.{told, refused, first_refusal, unless, in_directory_file, lookup_outcome, list_outcome, stat_of, stat_outcome, create_checks, create_refusal, create_made, create_outcome, dir_name, mkdir_checks, mkdir_refusal, mkdir_made, mkdir_outcome, extend_checks, extend_refusal, extended, extend_of, extend_outcome, is_kept, truncated, trunc_of, trunc_outcome, removed, entered, with_entry, has_entries, unnamed, less_entry, delete_outcome, rename_refusal, rename_outcome, conflicts, open_of, open_outcome, closed, close_of, close_outcome, is_outside, read_of, read_open, read_outcome, is_reading, write_of, write_open, write_outcome, quota_set_of, quota_set_outcome, quota_shown, quota_show_outcome, outcome, IsPick, Answer}
use Rattle.plain_mends.specs.Sound.{HasOwnName, IsSound}
use Rattle.plain_rules.specs.SystemFiles.{is_system_entry}
use Rattle.plain_rules.specs.SystemFiles.{entries_of}
use Rattle.plain_rules.proofs.Picks.{pick_is_free}
use Rattle.plain_rules.proofs.Standing.{stands_at, stands_free}
use Rattle.plain_rules.proofs.Kept.{are_false}
use Rattle.base_words.specs.Lists.{Has}
use Rattle.base_words.proofs.Listing.{has_to, has_filtered, has_passed, any_has, has_any}
use Rattle.plain_laws.proofs.Places.{inserted_has, has_inserted, name_of}
use Rattle.plain_laws.proofs.Standing.{number_rises, file_from, file_other}
use Rattle.plain_mends.proofs.SoundSteps.{Edge, Edit, edit_sound, slot_sound, beside_follows, no_way, listed_is}
use Rattle.plain_rules.proofs.Keeps.{there as has_row}

-- a catalogue in order is in order afterwards
abbrev pub Keeps : Cat → Cat → Type 0
Keeps c d = IsSound c → IsSound d

same_keeps : (c : Cat) → Keeps c c
same_keeps c h = h

if_keeps : (c : Cat) (t : Bool) (x y : Outcome) → (t ≡ true → Keeps c x.after) → (t ≡ false → Keeps c y.after) → Keeps c (cond t x y).after
if_keeps c true x y h k = h refl
if_keeps c false x y h k = k refl

unless_keeps : (c : Cat) (r : Option Refusal) (o : Outcome) → (r ≡ None → Keeps c o.after) → Keeps c (unless c r o).after
unless_keeps c None o h = h refl
unless_keeps c (Some r) o h = same_keeps c

in_keeps : (c : Cat) (f : Option File) (next : File → Outcome) → ((d : File) → f ≡ Some d → d.dir ≡ true → Keeps c (next d).after) → Keeps c (in_directory_file c f next).after
in_keeps c None next h = same_keeps c
in_keeps c (Some d) next h = if_keeps c d.dir (next d) (refused c refusal.NotDir) (h d refl) (λ e. same_keeps c)

entry_keeps : (c : Cat) (e : Option DirEnt) (next : DirEnt → Outcome) → ((x : DirEnt) → e ≡ Some x → 11 < x.fid.num → Keeps c (next x).after) → Keeps c (with_entry c e next).after
entry_keeps c None next h = same_keeps c
entry_keeps c (Some e) next h = if_keeps c (nat_le e.fid.num 11) (refused c refusal.NoPriv) (next e) (λ k. same_keeps c) (λ k. h e refl (above e.fid.num k)) where
  above : (n : ℕ) → nat_le n 11 ≡ false → 11 < n
  above n e = grind (arith, nat_tests)

-- ---- what is found

some_cond : {X : Type 0} (b : Bool) (x y : X) → cond b (Some x) None ≡ Some y → (b ≡ true) × (x ≡ y)
some_cond true x y h = (refl, cc h)
some_cond false x y h = absurd (cc h)

none_cond : {X : Type 0} (b : Bool) (x y : X) → cond b None (Some x) ≡ Some y → (b ≡ false) × (x ≡ y)
none_cond true x y h = absurd (cc h)
none_cond false x y h = (refl, cc h)

of_seq_is : (seq : ℕ) (o : Option File) (f : File) → of_seq seq o ≡ Some f → o ≡ Some f
of_seq_is seq None f h = h
of_seq_is seq (Some g) f h = ap (λ (x : File). Some x) (some_cond (g.seq == seq) g f h).1

pub used_part : (c : Cat) (fid : Fid) (f : File) → in_use c fid ≡ Some f → file_at c fid.num ≡ Some f
used_part c fid f h = of_seq_is fid.seq (file_at c fid.num) f h

unmarked_is : (o : Option File) (f : File) → unmarked o ≡ Some f → (o ≡ Some f) × (f.marked ≡ false)
unmarked_is None f h = absurd (cc h)
unmarked_is (Some g) f h = let r = none_cond g.marked g f h in (ap (λ (x : File). Some x) r.1, ap (λ (x : File). x.marked) (sym r.1) ∙ r.0)

pub live_parts : (c : Cat) (fid : Fid) (f : File) → live c fid ≡ Some f → (file_at c fid.num ≡ Some f) × (f.marked ≡ false)
live_parts c fid f h = let r = unmarked_is (in_use c fid) f h in (used_part c fid f r.0, r.1)

first_has : (ver : ℕ) (es : List DirEnt) (e : DirEnt) → first_with ver es ≡ Some e → Has es e
first_has ver [] e h = absurd (cc h)
first_has ver (x ∷ xs) e h = by_case (x.ver == ver) h (λ k. first_has ver xs e k) where
  by_case : (b : Bool) → cond b (Some x) (first_with ver xs) ≡ Some e → (first_with ver xs ≡ Some e → Has xs e) → Has (x ∷ xs) e
  by_case true k rest = inl (cc k)
  by_case false k rest = inr (rest k)

pub entry_has : (name : List ℕ) (es : List DirEnt) (ver : ℕ) (e : DirEnt) → entry_of (versions name es) ver ≡ Some e → Has es e
entry_has name es ver e h =
    (has_filtered (λ (x : DirEnt). bytes_eq x.name name) es e (first_has (cond (ver == 0) (highest (versions name es)) ver) (versions name es) e h)).0

has_first : (ver : ℕ) (es : List DirEnt) (e : DirEnt) → Has es e → e.ver ≡ ver → is_some (first_with ver es) ≡ true
has_first ver [] e h k = absurd h
has_first ver (x ∷ xs) e (inl same) k =
    ap (λ b. is_some (cond b (Some x) (first_with ver xs))) (eq-eqb x.ver ver (ap (λ (y : DirEnt). y.ver) same ∙ k))
has_first ver (x ∷ xs) e (inr h) k = by_case (x.ver == ver) (has_first ver xs e h k) where
  by_case : (b : Bool) → is_some (first_with ver xs) ≡ true → is_some (cond b (Some x) (first_with ver xs)) ≡ true
  by_case true r = refl
  by_case false r = r

taken : (name : List ℕ) (ver : ℕ) (es : List DirEnt) (x : DirEnt) → Has es x → x.name ≡ name → x.ver ≡ ver → is_taken ver (versions name es) ≡ true
taken name ver es x has names is =
    has_first ver (versions name es) x (has_passed (λ (y : DirEnt). bytes_eq y.name name) es x has ((bytes_eq-Decides x.name name).1 names)) is

-- ---- rows

pub rows_map : (g : QuotaRow → QuotaRow) → ((r : QuotaRow) → (g r).owner ≡ r.owner) → (o : Uic) (rs : List QuotaRow) → is_some (row_of o rs) ≡ true → is_some (row_of o (map g rs)) ≡ true
rows_map g keeps o [] h = h
rows_map g keeps o (r ∷ rs) h =
    ap (λ (u : Uic). is_some (cond (u.0 == o.0) (Some (g r)) (row_of o (map g rs)))) (keeps r) ∙ by_case (r.owner.0 == o.0) h (λ k. rows_map g keeps o rs k) where
      by_case : (b : Bool) → is_some (cond b (Some r) (row_of o rs)) ≡ true → (is_some (row_of o rs) ≡ true → is_some (row_of o (map g rs)) ≡ true)
          → is_some (cond b (Some (g r)) (row_of o (map g rs))) ≡ true
      by_case true k rest = refl
      by_case false k rest = rest k

rows_more : (o : Uic) (row : QuotaRow) (rs : List QuotaRow) → is_some (row_of o rs) ≡ true → is_some (row_of o (with_row row rs)) ≡ true
rows_more o row [] h = absurd (let e : false ≡ true = h in cc e)
rows_more o row (r ∷ rs) h = by_order (nat_lt row.owner.0 r.owner.0) h (λ k. rows_more o row rs k) where
  by_row : (b : Bool) (q : QuotaRow) (rest : Option QuotaRow) → is_some rest ≡ true → is_some (cond b (Some q) rest) ≡ true
  by_row true q rest k = refl
  by_row false q rest k = k

  onward : (b : Bool) → is_some (cond b (Some r) (row_of o rs)) ≡ true → (is_some (row_of o rs) ≡ true → is_some (row_of o (with_row row rs)) ≡ true) → is_some (cond b (Some r) (row_of o (with_row row rs))) ≡ true
  onward true k rest = refl
  onward false k rest = rest k

  by_order : (b : Bool) → is_some (row_of o (r ∷ rs)) ≡ true → (is_some (row_of o rs) ≡ true → is_some (row_of o (with_row row rs)) ≡ true)
      → is_some (row_of o (cond b (row ∷ r ∷ rs) (r ∷ with_row row rs))) ≡ true
  by_order true k rest = by_row (row.owner.0 == o.0) row (row_of o (r ∷ rs)) k
  by_order false k rest = onward (r.owner.0 == o.0) k rest

owner_if : (b : Bool) (x y : QuotaRow) (o : Uic) → x.owner ≡ o → y.owner ≡ o → (cond b x y).owner ≡ o
owner_if true x y o h k = h
owner_if false x y o h k = k

raised_owner : (owner : Uic) (k : ℕ) (r : QuotaRow) → (raised owner k r).owner ≡ r.owner
raised_owner owner k r = owner_if (r.owner.0 == owner.0) (record r { usage = r.usage + k }) r r.owner refl refl

lowered_owner : (owner : Uic) (k : ℕ) (r : QuotaRow) → (lowered owner k r).owner ≡ r.owner
lowered_owner owner k r = owner_if (r.owner.0 == owner.0) (record r { usage = r.usage - k }) r r.owner refl refl

allowed_owner : (owner : Uic) (quota over : ℕ) (r : QuotaRow) → (allowed owner quota over r).owner ≡ r.owner
allowed_owner owner quota over r = owner_if (r.owner.0 == owner.0) (record r { quota = quota; over = over }) r r.owner refl refl

pub charged_sound : (c : Cat) (o : Uic) (k : ℕ) → Keeps c (charged c o k)
charged_sound c o k = beside_follows c (charged c o k) refl (λ p h. rows_map (raised o k) (raised_owner o k) p c.quota h) refl

discharged_sound : (c : Cat) (o : Uic) (k : ℕ) → Keeps c (discharged c o k)
discharged_sound c o k = beside_follows c (discharged c o k) refl (λ p h. rows_map (lowered o k) (lowered_owner o k) p c.quota h) refl

pub channel_sound : (c : Cat) (n chan : ℕ) (o : Option Open) → Keeps c (with_channel c n chan o)
channel_sound c n chan o = beside_follows c (with_channel c n chan o) refl (λ p h. h) (length-set c.opens (8 * (n - 1) + (chan - 1)) o)

-- ---- names of system files

own_name : (n : ℕ) (e : DirEnt) → is_own (record { dir = 4; entry = e }) ≡ true → e.fid.num ≡ n → HasOwnName n e
unfolding is_own
own_name n e h number = subst (λ (k : ℕ). (e.ver == 1) && is_name_of e.name (slice_get system_names (k - 1)) ≡ true) number h

system_parts : (n : ℕ) (e : DirEnt) → is_system_entry n e ≡ true → HasOwnName n e × (e.fid.num ≡ n)
unfolding is_system_entry
system_parts n e h =
    let a = and_parts (is_own (record { dir = 4; entry = e })) ((e.fid.num == n) && (e.fid.seq == cond (nat_le n 9) n 1)) h in
    let b = and_parts (e.fid.num == n) (e.fid.seq == cond (nat_le n 9) n 1) a.1 in
    let number = eqb-true e.fid.num n b.0 in
    (own_name n e a.0 number, number)

-- two entries with a system file's name
one_name : (n : ℕ) (x e : DirEnt) → HasOwnName n x → HasOwnName n e → (x.name ≡ e.name) × (x.ver ≡ e.ver)
unfolding is_own
one_name n x e h k =
    let a = and_parts (x.ver == 1) (is_name_of x.name (slice_get system_names (n - 1))) h in
    let b = and_parts (e.ver == 1) (is_name_of e.name (slice_get system_names (n - 1))) k in
    let names : Some x.name ≡ Some e.name = sym (name_of x.name (slice_get system_names (n - 1)) a.1) ∙ name_of e.name (slice_get system_names (n - 1)) b.1 in
    (cc names, eqb-true x.ver 1 a.0 ∙ sym (eqb-true e.ver 1 b.0))

move_name : (n : ℕ) (x e : DirEnt) → x.name ≡ e.name → x.ver ≡ e.ver → HasOwnName n x → HasOwnName n e
move_name n x e names vers h = subst (λ (v : ℕ). is_own (record { dir = 4; entry = record { name = e.name; ver = v; fid = record { num = n; seq = 0 } } }) ≡ true) vers
    (subst (λ (m : List ℕ). is_own (record { dir = 4; entry = record { name = m; ver = x.ver; fid = record { num = n; seq = 0 } } }) ≡ true) names h)

is_entry_parts : (name : List ℕ) (ver : ℕ) (x : DirEnt) → is_entry name ver x ≡ true → (x.name ≡ name) × (x.ver ≡ ver)
unfolding is_entry
is_entry_parts name ver x h = let a = and_parts (bytes_eq x.name name) (x.ver == ver) h in ((bytes_eq-Decides x.name name).0 a.0, eqb-true x.ver ver a.1)

-- ---- edits of one file

pub four_is : (c : Cat) (f : File) → IsSound c → file_at c 4 ≡ Some f → f.dir ≡ true
four_is c f h at =
    let r = h.systems 4 (omega arith) (omega arith) in
    let both : Some r.0 ≡ Some f = sym r.1 ∙ at in
    let same : r.0 ≡ f = cc both in
    ap (λ (x : File). x.dir) (sym same) ∙ r.2.dir

pub is_unmarked : (c : Cat) (n : ℕ) (f : File) → IsSound c → file_at c n ≡ Some f → n ≤ 11 → f.marked ≡ false
is_unmarked c n f h at low =
    let rises = number_rises c n f at in
    let r = h.systems n (omega (arith, rises)) low in
    let both : Some r.0 ≡ Some f = sym r.1 ∙ at in
    let same : r.0 ≡ f = cc both in
    ap (λ (x : File). x.marked) (sym same) ∙ r.2.unmarked

-- the entries of file 4, when it is the file in hand
own_entries : (c : Cat) (n : ℕ) (f : File) → IsSound c → file_at c n ≡ Some f → n ≡ 4 → entries_of c 4 ≡ f.entries
own_entries c n f h at here =
    let at4 : file_at c 4 ≡ Some f = ap (λ k. file_at c k) (sym here) ∙ at in
    listed_is c 4 f at4 (four_is c f h at4)

named_old : (c : Cat) (n : ℕ) (f : File) → IsSound c → file_at c n ≡ Some f → n ≡ 4 → (e : DirEnt) (k : ℕ) → 1 ≤ k → k ≤ 11 → Has f.entries e → HasOwnName k e → e.fid.num ≡ k
named_old c n f h at here e k from to has = h.named e k from to (has_to (entries_of c 4) e (subst (λ (es : List DirEnt). Has es e) (sym (own_entries c n f h at here)) has))

-- the same but for clusters, mark, end and contents
pub same_edit : (c : Cat) (n : ℕ) (f g : File) → file_at c n ≡ Some f → g.seq ≡ f.seq → g.dir ≡ f.dir → g.owner ≡ f.owner → g.entries ≡ f.entries → g.marked ≡ f.marked
    → (11 < n → g.clusters ≤ file_most) → IsSound c → Edit c n f g
same_edit c n f g at seq dir owner entries marked size h = record {
  seq = seq;
  dir = dir;
  owner = owner;
  size = size;
  low = λ low. marked ∙ is_unmarked c n f h at low;
  closed = λ has. marked ∙ h.closed n f at (sym (ap (λ es. g.dir && not (is_nil es)) entries ∙ ap (λ b. b && not (is_nil f.entries)) dir) ∙ has);
  own = λ here k from to has. subst (λ (es : List DirEnt). list_any (is_system_entry k) es ≡ true) (sym entries) has;
  named = λ here e k from to has. named_old c n f h at here e k from to (subst (λ (es : List DirEnt). Has es e) entries has);
  edges = λ e has. inl (e, subst (λ (es : List DirEnt). Has es e) entries has, refl, λ k. k);
}

pub mark_edit : (c : Cat) (n : ℕ) (f : File) → file_at c n ≡ Some f → 11 < n → has_entries (Some f) ≡ false → IsSound c → Edit c n f (record f { marked = true })
mark_edit c n f at high bare h = record {
  seq = refl;
  dir = refl;
  owner = refl;
  size = λ lt. h.sizes n f lt at;
  low = λ low. absurd (omega (arith, low, high));
  closed = λ has. let both : false ≡ true = sym bare ∙ has in absurd (cc both);
  own = λ here k from to has. has;
  named = λ here e k from to has. named_old c n f h at here e k from to has;
  edges = λ e has. inl (e, has, refl, λ k. k);
}

-- a directory without an entry, which names no system file
without_system : (c : Cat) (n : ℕ) (d : File) (e : DirEnt) → IsSound c → file_at c n ≡ Some d → Has d.entries e → 11 < e.fid.num → n ≡ 4 → (k : ℕ) → 1 ≤ k → k ≤ 11
    → list_any (is_system_entry k) d.entries ≡ true → list_any (is_system_entry k) (without e.name e.ver d.entries) ≡ true
without_system c n d e h at has high here k from to any =
    let r = any_has (is_system_entry k) d.entries any in
    let p = system_parts k r.0 r.2 in
    has_any (is_system_entry k) (without e.name e.ver d.entries) r.0
    (has_passed (λ (x : DirEnt). not (is_entry e.name e.ver x)) d.entries r.0 r.1 (kept r.0 p (is_entry e.name e.ver r.0) refl)) r.2
  where
    kept : (x : DirEnt) → HasOwnName k x × (x.fid.num ≡ k) → (b : Bool) → is_entry e.name e.ver x ≡ b → not b ≡ true
    kept x p false is = refl
    kept x p true is =
        let q = is_entry_parts e.name e.ver x is in
        let number = named_old c n d h at here e k from to has (move_name k x e q.0 q.1 p.0) in
        absurd (omega (arith, number, to, high))

pub less_edit : (c : Cat) (n : ℕ) (d : File) (e : DirEnt) → file_at c n ≡ Some d → d.marked ≡ false → Has d.entries e → 11 < e.fid.num → IsSound c
    → Edit c n d (record d { entries = without e.name e.ver d.entries })
less_edit c n d e at free has high h = record {
  seq = refl;
  dir = refl;
  owner = refl;
  size = λ lt. h.sizes n d lt at;
  low = λ low. free;
  closed = λ some. free;
  own = λ here k from to any. without_system c n d e h at has high here k from to any;
  named = λ here x k from to in_less. named_old c n d h at here x k from to (has_filtered (λ (y : DirEnt). not (is_entry e.name e.ver y)) d.entries x in_less).0;
  edges = λ x in_less. inl (x, (has_filtered (λ (y : DirEnt). not (is_entry e.name e.ver y)) d.entries x in_less).0, refl, λ k. k);
}

-- a directory with one entry more, which has no system file's name
pub more_edit : (c : Cat) (n : ℕ) (d : File) (e : DirEnt) (es : List DirEnt) → file_at c n ≡ Some d → d.marked ≡ false → ((x : DirEnt) → Has es x → Has d.entries x)
    → (n ≡ 4 → (k : ℕ) → 1 ≤ k → k ≤ 11 → list_any (is_system_entry k) d.entries ≡ true → list_any (is_system_entry k) es ≡ true)
    → (n ≡ 4 → (k : ℕ) → 1 ≤ k → k ≤ 11 → HasOwnName k e → ⊥) → Edge c n d e → IsSound c → Edit c n d (record d { entries = inserted e es })
more_edit c n d e es at free among kept new edge h = record {
  seq = refl;
  dir = refl;
  owner = refl;
  size = λ lt. h.sizes n d lt at;
  low = λ low. free;
  closed = λ some. free;
  own = λ here k from to any.
      let r = any_has (is_system_entry k) es (kept here k from to any) in
      has_any (is_system_entry k) (inserted e es) r.0 (has_inserted e es r.0 (inr r.1)) r.2;
  named = λ here x k from to has is. named here x k from to is (inserted_has e es x has);
  edges = λ x has. edges x (inserted_has e es x has);
} where
  named : n ≡ 4 → (x : DirEnt) (k : ℕ) → 1 ≤ k → k ≤ 11 → HasOwnName k x → (e ≡ x) ⊎ Has es x → x.fid.num ≡ k
  named here x k from to is (inl same) = absurd (new here k from to (subst (λ (y : DirEnt). HasOwnName k y) (sym same) is))
  named here x k from to is (inr has) = named_old c n d h at here x k from to (among x has) is

  edges : (x : DirEnt) → (e ≡ x) ⊎ Has es x → Edge c n d x
  edges x (inl same) = subst (λ (y : DirEnt). Edge c n d y) same edge
  edges x (inr has) = inl (x, among x has, refl, λ k. k)

-- a version that is not taken is no system file's
pub fresh_name : (c : Cat) (n : ℕ) (d : File) (e : DirEnt) → IsSound c → file_at c n ≡ Some d → is_taken e.ver (versions e.name d.entries) ≡ false
    → n ≡ 4 → (k : ℕ) → 1 ≤ k → k ≤ 11 → HasOwnName k e → ⊥
fresh_name c n d e h at untaken here k from to is =
    let any : list_any (is_system_entry k) d.entries ≡ true = ap (λ es. list_any (is_system_entry k) es) (sym (own_entries c n d h at here)) ∙ h.entries k from to in
    let r = any_has (is_system_entry k) d.entries any in
    let p = system_parts k r.0 r.2 in
    let q = one_name k r.0 e p.0 is in
    let both : false ≡ true = sym untaken ∙ taken e.name e.ver d.entries r.0 r.1 q.0 q.1 in
    absurd (cc both)

-- ---- new files

free_high : (c : Cat) (n : ℕ) → IsSound c → is_free_number c n ≡ true → 11 < n
free_high c n h free = by_case (cases_lt 11 n) n refl where
  by_case : (11 < n) ⊎ (n ≤ 11) → (m : ℕ) → n ≡ m → 11 < n
  by_case (inl lt) m e = lt
  by_case (inr low) zero e = let none : is_free_number c 0 ≡ true = subst (λ (k : ℕ). is_free_number c k ≡ true) e free in absurd (let both : false ≡ true = none in cc both)
  by_case (inr low) (suc m) e =
      let r = h.systems n (omega (arith, e)) low in
      let both : Some (Free (last_seq (slot_at c n))) ≡ Some (Used r.0) = sym (stands_free c n free) ∙ stands_at c n r.0 r.1 in
      absurd (cc both)

pub placed_sound : (c : Cat) (n : ℕ) (f : File) → is_free_number c n ≡ true → f.clusters ≤ file_most → f.entries ≡ [] → is_some (row_of f.owner c.quota) ≡ true
    → Keeps c (with_file (charged c f.owner (cost c f.clusters)) n f)
placed_sound c n f free few bare row h =
    let c0 : Cat = charged c f.owner (cost c f.clusters) in
    slot_sound c0 n (Used f) (free_high c n h free) (λ g is.
    let same : f ≡ g = cc is in
    subst (λ (x : File). (x.clusters ≤ file_most) × (is_some (row_of x.owner c0.quota) ≡ true) × (x.entries ≡ [])) same
    (few, rows_map (raised f.owner (cost c f.clusters)) (raised_owner f.owner (cost c f.clusters)) f.owner c.quota row, bare))
    (charged_sound c f.owner (cost c f.clusters) h)

pub entered_sound : (c : Cat) (dir : ℕ) (d : File) (e : DirEnt) (f : File) → file_at c dir ≡ Some d → d.marked ≡ false → is_free_number c e.fid.num ≡ true → f.clusters ≤ file_most → f.entries ≡ []
    → is_some (row_of f.owner c.quota) ≡ true → is_taken e.ver (versions e.name d.entries) ≡ false → Keeps c (entered c dir d e f)
entered_sound c dir d e f at unmarked free few bare row untaken h =
    edit_sound c1 dir d (record d { entries = inserted e d.entries }) at1
    (λ h1. more_edit c1 dir d e d.entries at1 unmarked (λ x has. has) (λ here k from to any. any) (fresh_name c1 dir d e h1 at1 untaken)
    (inr ((λ same. apart (sym same)), no_way c1 n dir f (file_from c1 n f rises new) bare)) h1)
    (placed_sound c n f free few bare row h)
  where
    n : ℕ
    n = e.fid.num

    c0 : Cat
    c0 = charged c f.owner (cost c f.clusters)

    c1 : Cat
    c1 = with_file c0 n f

    rises : 0 < n
    rises = let lt = free_high c n h free in omega (arith, lt)

    apart : dir ≡ n → ⊥
    apart e =
        let both : Some (Free (last_seq (slot_at c n))) ≡ Some (Used d) = sym (stands_free c n free) ∙ stands_at c n d (ap (λ k. file_at c k) (sym e) ∙ at) in
        cc both

    at1 : file_at c1 dir ≡ Some d
    at1 = file_other c0 n dir (Used f) rises apart ∙ at

    set_free : (xs : List Slot) (i : ℕ) (x v : Slot) → slice_get xs i ≡ Some x → slice_get (set xs i v) i ≡ Some v
    set_free [] i x v k = absurd (cc k)
    set_free (y ∷ ys) zero x v k = refl
    set_free (y ∷ ys) (suc i) x v k = set_free ys i x v k

    new : slice_get c1.files (n - 1) ≡ Some (Used f)
    new = set_free c.files (n - 1) (Free (last_seq (slot_at c n))) (Used f) (stands_free c n free)

pub removed_sound : (c : Cat) (n : ℕ) (f : File) → 11 < n → Keeps c (freed c n f)
removed_sound c n f high = slot_sound c n (Free f.seq) high (λ g is. absurd (cc is))

gone_sound : (c : Cat) (n : ℕ) (f : File) → 11 < n → Keeps c (removed c n f)
gone_sound c n f high h = removed_sound (discharged c f.owner (cost c f.clusters)) n f high (discharged_sound c f.owner (cost c f.clusters) h)

-- ---- commands

-- what is not refused
pub record MayCreate (c : Cat) (d : File) (name : List ℕ) (ver : ℕ) (owner : Uic) : Type 0 where
  pub untaken : is_taken ver (versions name d.entries) ≡ false
  pub row : is_some (row_of owner c.quota) ≡ true

pub create_may : (c : Cat) (d : File) (name : List ℕ) (ver blocks : ℕ) (owner : Uic) (new : Option ℕ) → create_refusal c d name ver blocks owner new ≡ None
    → MayCreate c d name (new_version ver (versions name d.entries)) owner × (in_clusters c blocks ≤ header_most)
unfolding create_refusal
create_may c d name ver blocks owner new h =
    let f = are_false (create_checks c d name ver blocks owner new) h in
    let limit : nat_lt header_most (in_clusters c blocks) ≡ false = f.1.1.0 in
    (record { untaken = f.1.0; row = has_row (row_of owner c.quota) f.1.1.1.1.0 }, few (in_clusters c blocks) limit) where
      few : (k : ℕ) → nat_lt header_most k ≡ false → k ≤ header_most
      few k e = grind (arith, nat_tests)

nothing_taken : (ver : ℕ) (es : List DirEnt) → not (is_nil es) ≡ false → is_taken ver es ≡ false
nothing_taken ver [] h = refl
nothing_taken ver (e ∷ es) h = absurd (cc h)

pub mkdir_may : (c : Cat) (d : File) (name : List ℕ) (owner : Uic) (new : Option ℕ) → mkdir_refusal c d name owner new ≡ None → MayCreate c d name 1 owner
unfolding mkdir_refusal
mkdir_may c d name owner new h =
    let f = are_false (mkdir_checks c d name owner new) h in
    record { untaken = nothing_taken 1 (versions name d.entries) f.0; row = has_row (row_of owner c.quota) f.1.1.0 }

create_keeps : (c : Cat) (dir : ℕ) (d : File) (name : List ℕ) (ver blocks : ℕ) (owner : Uic) (new : Option ℕ) → IsPick c new → file_at c dir ≡ Some d → d.marked ≡ false
    → MayCreate c d name (new_version ver (versions name d.entries)) owner × (in_clusters c blocks ≤ header_most) → Keeps c (create_made c dir d name ver blocks owner new).after
create_keeps c dir d name ver blocks owner None pick at free may = same_keeps c
create_keeps c dir d name ver blocks owner (Some n) pick at free may =
    entered_sound c dir d (entry name (new_version ver (versions name d.entries)) (new_fid c n)) (new_file (new_fid c n).seq owner (in_clusters c blocks)) at free
    (pick_is_free c n pick) (omega (arith, may.1)) refl may.0.row may.0.untaken

mkdir_keeps : (c : Cat) (dir : ℕ) (d : File) (name : List ℕ) (owner : Uic) (new : Option ℕ) → IsPick c new → file_at c dir ≡ Some d → d.marked ≡ false
    → MayCreate c d name 1 owner → Keeps c (mkdir_made c dir d name owner new).after
mkdir_keeps c dir d name owner None pick at free may = same_keeps c
mkdir_keeps c dir d name owner (Some n) pick at free may =
    entered_sound c dir d (entry name 1 (new_fid c n)) (new_dir (new_fid c n).seq owner c.factor) at free (pick_is_free c n pick) (omega arith) refl may.row may.untaken

later_false : (a b : Bool) → (a || b) ≡ false → b ≡ false
later_false true b h = absurd (cc h)
later_false false b h = h

extend_few : (c : Cat) (n : ℕ) (f : File) (blocks : ℕ) (new : Option ℕ) → extend_refusal c n f blocks new ≡ None → f.clusters + in_clusters c blocks ≤ file_most
unfolding extend_refusal
extend_few c n f blocks new h =
    let g = are_false (extend_checks c n f (in_clusters c blocks) new) h in
    let limit : nat_lt file_most (f.clusters + in_clusters c blocks) ≡ false = later_false (nat_lt header_most (in_clusters c blocks)) _ g.1.0 in
    few (f.clusters + in_clusters c blocks) limit where
      few : (k : ℕ) → nat_lt file_most k ≡ false → k ≤ file_most
      few k e = grind (arith, nat_tests)

stat_keeps : (c : Cat) (f : Option File) → Keeps c (stat_of c f).after
stat_keeps c None = same_keeps c
stat_keeps c (Some f) = same_keeps c

extend_keeps : (c : Cat) (n : ℕ) (f : Option File) (blocks : ℕ) (new : Option ℕ) → ((g : File) → f ≡ Some g → file_at c n ≡ Some g) → Keeps c (extend_of c n f blocks new).after
extend_keeps c n None blocks new at = same_keeps c
extend_keeps c n (Some f) blocks new at = unless_keeps c (extend_refusal c n f blocks new) (extended c n f (in_clusters c blocks)) (λ passed h.
    let k : ℕ = in_clusters c blocks in
    let c0 : Cat = charged c f.owner (c.factor * k) in
    edit_sound c0 n f (grown c f k) (at f refl) (same_edit c0 n f (grown c f k) (at f refl) refl refl refl refl refl (λ high. extend_few c n f blocks new passed))
    (charged_sound c f.owner (c.factor * k) h))

pub cut_sound : (c : Cat) (n : ℕ) (f : File) (k : ℕ) → file_at c n ≡ Some f → k ≤ f.clusters → Keeps c (with_file c n (cut c f k))
cut_sound c n f k at less h =
    edit_sound c n f (cut c f k) at (same_edit c n f (cut c f k) at refl refl refl refl refl (λ high. let few = h.sizes n f high at in omega (arith, few, less))) h

trunc_keeps : (c : Cat) (n : ℕ) (f : Option File) (blocks : ℕ) → ((g : File) → f ≡ Some g → file_at c n ≡ Some g) → Keeps c (trunc_of c n f blocks).after
trunc_keeps c n None blocks at = same_keeps c
trunc_keeps c n (Some f) blocks at =
    let k : ℕ = min f.clusters (in_clusters c blocks) in
    if_keeps c (is_kept n f) (refused c refusal.NoPriv) (truncated c n f k) (λ e. same_keeps c) (λ e h.
    let c0 : Cat = discharged c f.owner (c.factor * (f.clusters - k)) in
    cut_sound c0 n f k (at f refl) (omega arith) (discharged_sound c f.owner (c.factor * (f.clusters - k)) h))

-- a file without entries is not the directory that has lost its entry
pub apart_file : (c : Cat) (dir n : ℕ) (d f : File) (e : DirEnt) → file_at c dir ≡ Some d → d.dir ≡ true → Has d.entries e → file_at c n ≡ Some f → has_entries (Some f) ≡ false → n ≡ dir → ⊥
apart_file c dir n d f e at is has own bare same =
    let both : Some d ≡ Some f = sym at ∙ (ap (λ k. file_at c k) (sym same) ∙ own) in
    let one : d ≡ f = cc both in
    let full : has_entries (Some d) ≡ true = ap (λ b. b && not (is_nil d.entries)) is ∙ ap not (not_nil d.entries has) in
    let clash : true ≡ false = sym full ∙ (ap (λ (x : File). has_entries (Some x)) one ∙ bare) in
    absurd (cc clash) where
      not_nil : (es : List DirEnt) → Has es e → is_nil es ≡ false
      not_nil [] k = absurd k
      not_nil (x ∷ xs) k = refl

pub record Loses (c : Cat) (dir : ℕ) (d : File) (e : DirEnt) : Type 0 where
  pub at : file_at c dir ≡ Some d
  pub free : d.marked ≡ false
  pub dir_is : d.dir ≡ true
  pub has : Has d.entries e
  pub high : 11 < e.fid.num

pub less_sound : (c : Cat) (dir : ℕ) (d : File) (e : DirEnt) → Loses c dir d e → Keeps c (less_entry c dir d e)
less_sound c dir d e l = edit_sound c dir d (record d { entries = without e.name e.ver d.entries }) l.at (less_edit c dir d e l.at l.free l.has l.high)

pub less_at : (c : Cat) (dir : ℕ) (d : File) (e : DirEnt) (f : File) → Loses c dir d e → file_at c e.fid.num ≡ Some f → has_entries (Some f) ≡ false → file_at (less_entry c dir d e) e.fid.num ≡ Some f
less_at c dir d e f l own bare =
    file_other c dir e.fid.num (Used (record d { entries = without e.name e.ver d.entries })) (number_rises c dir d l.at) (apart_file c dir e.fid.num d f e l.at l.dir_is l.has own bare) ∙ own

pub unlinked_sound : (c : Cat) (dir : ℕ) (d : File) (e : DirEnt) (f : File) → Loses c dir d e → file_at c e.fid.num ≡ Some f → has_entries (Some f) ≡ false
    → Keeps c (with_file (less_entry c dir d e) e.fid.num (record f { marked = true }))
unlinked_sound c dir d e f l own bare h =
    let less : Cat = less_entry c dir d e in
    let there = less_at c dir d e f l own bare in
    edit_sound less e.fid.num f (record f { marked = true }) there (mark_edit less e.fid.num f there l.high bare) (less_sound c dir d e l h)

unnamed_keeps : (c : Cat) (dir : ℕ) (d : File) (e : DirEnt) (f : Option File) → Loses c dir d e → ((g : File) → f ≡ Some g → file_at c e.fid.num ≡ Some g) → has_entries f ≡ false
    → Keeps c (unnamed (less_entry c dir d e) e.fid.num f).after
unnamed_keeps c dir d e None l own bare = less_sound c dir d e l
unnamed_keeps c dir d e (Some f) l own bare =
    let less : Cat = less_entry c dir d e in
    if_keeps c (is_open less e.fid.num) (told (with_file less e.fid.num (record f { marked = true })) reply.Marked) (told (removed less e.fid.num f) reply.Deleted)
    (λ k. unlinked_sound c dir d e f l (own f refl) bare) (λ k h. gone_sound less e.fid.num f l.high (less_sound c dir d e l h))

delete_keeps : (c : Cat) (dir : Fid) (name : List ℕ) (ver : ℕ) → Keeps c (delete_outcome c dir name ver).after
unfolding delete_outcome
delete_keeps c dir name ver = in_keeps c (live c dir) _ (λ d at is. entry_keeps c (entry_of (versions name d.entries) ver) _ (λ e found high.
    if_keeps c (has_entries (in_use c e.fid)) (refused c refusal.DirNotEmpty) (unnamed (less_entry c dir.num d e) e.fid.num (in_use c e.fid)) (λ k. same_keeps c) (λ bare.
    let p = live_parts c dir d at in
    unnamed_keeps c dir.num d e (in_use c e.fid) (record { at = p.0; free = p.1; dir_is = is; has = entry_has name d.entries ver e found; high = high })
    (λ g own. used_part c e.fid g own) bare)))

-- RENAME: a new name for an entry that is there
pub renamed_edge : (c : Cat) (n : ℕ) (d : File) (e : DirEnt) (to : List ℕ) (ver : ℕ) → Has d.entries e → 11 < e.fid.num → Edge c n d (entry to ver e.fid)
renamed_edge c n d e to ver has high = inl (e, has, refl, λ k. other (is_system_entry 4 e) refl) where
  other : (b : Bool) → is_system_entry 4 e ≡ b → b ≡ false
  other false is = refl
  other true is = let number = (system_parts 4 e is).1 in absurd (omega (arith, number, high))

pub rename_may : (c : Cat) (d : File) (to : List ℕ) (to_ver : ℕ) → rename_refusal c d to to_ver ≡ None → is_taken (new_version to_ver (versions to d.entries)) (versions to d.entries) ≡ false
unfolding rename_refusal
rename_may c d to to_ver h =
    let es : List DirEnt = versions to d.entries in
    let f =
    are_false ((is_last_version to_ver es, refusal.BadVersion) ∷ (is_taken (new_version to_ver es) es, refusal.DupFile)
    ∷ (not (fits c.factor (inserted (entry to (new_version to_ver es) nowhere) d.entries)), refusal.DirFull) ∷ []) h in
    f.1.0

rename_keeps : (c : Cat) (dir : Fid) (name : List ℕ) (ver : ℕ) (to : List ℕ) (to_ver : ℕ) → Keeps c (rename_outcome c dir name ver to to_ver).after
unfolding rename_outcome
rename_keeps c dir name ver to to_ver = in_keeps c (live c dir) _ (λ d at is. entry_keeps c (entry_of (versions name d.entries) ver) _ (λ e found high.
    unless_keeps c (rename_refusal c d to to_ver) _ (λ passed.
    let p = live_parts c dir d at in
    let has = entry_has name d.entries ver e found in
    let new : DirEnt = entry to (new_version to_ver (versions to d.entries)) e.fid in
    edit_sound c dir.num d (record d { entries = inserted new (without e.name e.ver d.entries) }) p.0 (λ h.
    more_edit c dir.num d new (without e.name e.ver d.entries) p.0 p.1 (λ x k. (has_filtered (λ (y : DirEnt). not (is_entry e.name e.ver y)) d.entries x k).0)
    (without_system c dir.num d e h p.0 has high) (fresh_name c dir.num d new h p.0 (rename_may c d to to_ver passed)) (renamed_edge c dir.num d e to (new_version to_ver (versions to d.entries)) has high) h))))

open_keeps : (c : Cat) (n chan k : ℕ) (f : Option File) (mode : Mode) → Keeps c (open_of c n chan k f mode).after
open_keeps c n chan k None mode = same_keeps c
open_keeps c n chan k (Some f) mode =
    unless_keeps c (first_refusal ((is_kept k f, refusal.NoPriv) ∷ (list_any (conflicts k mode) c.opens, refusal.AccConflict) ∷ []))
    (told (with_channel c n chan (Some (record { file = k; mode = mode }))) reply.Opened) (λ passed. channel_sound c n chan (Some (record { file = k; mode = mode })))

-- a marked file is none of the system's
pub marked_high : (c : Cat) (n : ℕ) (f : File) → IsSound c → file_at c n ≡ Some f → f.marked ≡ true → 11 < n
marked_high c n f h at marked = by_case (cases_lt 11 n) where
  by_case : (11 < n) ⊎ (n ≤ 11) → 11 < n
  by_case (inl lt) = lt
  by_case (inr low) = let both : true ≡ false = sym marked ∙ is_unmarked c n f h at low in absurd (cc both)

closed_keeps : (c : Cat) (n : ℕ) (f : Option File) → ((g : File) → f ≡ Some g → file_at c n ≡ Some g) → Keeps c (closed c n f).after
closed_keeps c n None at = same_keeps c
closed_keeps c n (Some f) at =
    if_keeps c (f.marked && not (is_open c n)) (told (removed c n f) (reply.Closed true)) (told c (reply.Closed false))
    (λ e h. gone_sound c n f (marked_high c n f h (at f refl) (and_parts f.marked (not (is_open c n)) e).0) h) (λ e. same_keeps c)

close_keeps : (c : Cat) (n chan : ℕ) (o : Option Open) → Keeps c (close_of c n chan o).after
close_keeps c n chan None h = h
close_keeps c n chan (Some o) h =
    closed_keeps (with_channel c n chan None) o.file (file_at c o.file) (λ g at. at) (channel_sound c n chan None h)

read_keeps : (c : Cat) (f : Option File) (vbn : ℕ) → Keeps c (read_of c f vbn).after
read_keeps c None vbn = same_keeps c
read_keeps c (Some f) vbn = if_keeps c (is_outside c f vbn) (refused c refusal.EndOfFile) (told c (reply.Bytes (block_of f vbn))) (λ e. same_keeps c) (λ e. same_keeps c)

read_open_keeps : (c : Cat) (o : Option Open) (vbn : ℕ) → Keeps c (read_open c o vbn).after
read_open_keeps c None vbn = same_keeps c
read_open_keeps c (Some o) vbn = read_keeps c (file_at c o.file) vbn

-- what WRITE leaves of a file as it is
abbrev shape : File → File
shape f = record f { mark = 0; end = 0; byte = 0; written = [] }

shape_if : (b : Bool) (x y : File) → shape x ≡ shape y → shape (cond b x y) ≡ shape y
shape_if true x y h = h
shape_if false x y h = refl

shape_written : (f : File) (vbn : ℕ) (text : List ℕ) → shape (written f vbn text) ≡ shape f
shape_written f vbn text = shape_if (nat_le (marked_up f vbn).end vbn) (record (marked_up f vbn) { end = vbn + 1; byte = 0 }) (marked_up f vbn) refl
    ∙ shape_if (is_past_mark f vbn) (record f { mark = vbn + 1 }) f refl

pub data_sound : (c : Cat) (n : ℕ) (f g : File) → file_at c n ≡ Some f → shape g ≡ shape f → Keeps c (with_file c n g)
data_sound c n f g at same h = edit_sound c n f g at (same_edit c n f g at (ap (λ (x : File). x.seq) same) (ap (λ (x : File). x.dir) same) (ap (λ (x : File). x.owner) same)
    (ap (λ (x : File). x.entries) same) (ap (λ (x : File). x.marked) same) (λ high. let few = h.sizes n f high at in let e : g.clusters ≡ f.clusters = ap (λ (x : File). x.clusters) same in omega (arith, few, e))) h

write_keeps : (c : Cat) (n : ℕ) (f : Option File) (vbn : ℕ) (text : List ℕ) → ((g : File) → f ≡ Some g → file_at c n ≡ Some g) → Keeps c (write_of c n f vbn text).after
write_keeps c n None vbn text at = same_keeps c
write_keeps c n (Some f) vbn text at = if_keeps c (is_outside c f vbn) (refused c refusal.EndOfFile) (told (with_file c n (written f vbn text)) reply.Written) (λ e. same_keeps c)
    (λ e. data_sound c n f (written f vbn text) (at f refl) (shape_written f vbn text))

write_open_keeps : (c : Cat) (o : Option Open) (vbn : ℕ) (text : List ℕ) → Keeps c (write_open c o vbn text).after
write_open_keeps c None vbn text = same_keeps c
write_open_keeps c (Some o) vbn text = if_keeps c (is_reading o.mode) (refused c refusal.NoPriv) (write_of c o.file (file_at c o.file) vbn text) (λ e. same_keeps c)
    (λ e. write_keeps c o.file (file_at c o.file) vbn text (λ g at. at))

quota_set_keeps : (c : Cat) (r : Option QuotaRow) (owner : Uic) (quota over : ℕ) → Keeps c (quota_set_of c r owner quota over).after
quota_set_keeps c (Some r) owner quota over =
    beside_follows c (record c { quota = map (allowed owner quota over) c.quota }) refl (λ p h. rows_map (allowed owner quota over) (allowed_owner owner quota over) p c.quota h) refl
quota_set_keeps c None owner quota over =
    let row : QuotaRow = record { owner = owner; usage = 0; quota = quota; over = over } in
    if_keeps c (nat_le c.rows (length c.quota)) (refused c refusal.QuotaFull) (told (record c { quota = with_row row c.quota }) reply.QuotaKept) (λ e. same_keeps c)
    (λ e. beside_follows c (record c { quota = with_row row c.quota }) refl (λ p h. rows_more p row c.quota h) refl)

quota_show_keeps : (c : Cat) (r : Option QuotaRow) → Keeps c (quota_shown c r).after
quota_show_keeps c None = same_keeps c
quota_show_keeps c (Some r) = same_keeps c

pub outcome_sound : (c : Cat) (n : ℕ) (x : Cmd) (new : Option ℕ) → IsPick c new → Keeps c (outcome c n x new).after
unfolding outcome lookup_outcome list_outcome stat_outcome create_outcome mkdir_outcome extend_outcome trunc_outcome open_outcome close_outcome read_outcome write_outcome quota_set_outcome quota_show_outcome
outcome_sound c n (cmd.Lookup reg dir name ver) new pick = in_keeps c (live c dir) _ (λ d at is. same_keeps c)
outcome_sound c n (cmd.List dir) new pick = in_keeps c (live c dir) _ (λ d at is. same_keeps c)
outcome_sound c n (cmd.Stat file) new pick = stat_keeps c (live c file)
outcome_sound c n (cmd.Create reg dir name ver blocks owner) new pick = in_keeps c (live c dir) _ (λ d at is.
    unless_keeps c (create_refusal c d name ver blocks owner new) (create_made c dir.num d name ver blocks owner new) (λ passed.
    let p = live_parts c dir d at in create_keeps c dir.num d name ver blocks owner new pick p.0 p.1 (create_may c d name ver blocks owner new passed)))
outcome_sound c n (cmd.MkDir reg dir name owner) new pick = in_keeps c (live c dir) _ (λ d at is.
    unless_keeps c (mkdir_refusal c d (dir_name name) owner new) (mkdir_made c dir.num d (dir_name name) owner new) (λ passed.
    let p = live_parts c dir d at in mkdir_keeps c dir.num d (dir_name name) owner new pick p.0 p.1 (mkdir_may c d (dir_name name) owner new passed)))
outcome_sound c n (cmd.Extend file blocks) new pick = extend_keeps c file.num (live c file) blocks new (λ g at. (live_parts c file g at).0)
outcome_sound c n (cmd.Trunc file blocks) new pick = trunc_keeps c file.num (live c file) blocks (λ g at. (live_parts c file g at).0)
outcome_sound c n (cmd.Delete dir name ver) new pick = delete_keeps c dir name ver
outcome_sound c n (cmd.Rename dir name ver to to_ver) new pick = rename_keeps c dir name ver to to_ver
outcome_sound c n (cmd.OpenFile chan file mode) new pick = if_keeps c (is_some (channel_at c n chan)) (refused c refusal.ChanBusy) (open_of c n chan file.num (live c file) mode) (λ e. same_keeps c)
    (λ e. open_keeps c n chan file.num (live c file) mode)
outcome_sound c n (cmd.CloseFile chan) new pick = close_keeps c n chan (channel_at c n chan)
outcome_sound c n (cmd.ReadBlock chan vbn) new pick = read_open_keeps c (channel_at c n chan) vbn
outcome_sound c n (cmd.WriteBlock chan vbn text) new pick = write_open_keeps c (channel_at c n chan) vbn text
outcome_sound c n (cmd.QuotaSet owner quota over) new pick = quota_set_keeps c (row_of owner c.quota) owner quota over
outcome_sound c n (cmd.QuotaShow owner) new pick = quota_show_keeps c (row_of owner c.quota)

pub answer_sound : (c d : Cat) (n : ℕ) (x : Cmd) (r : Reply) → IsSound c → Answer c n x r d → IsSound d
answer_sound c d n x r h (new, pick, is) = subst (λ (o : Outcome). IsSound o.after) is (outcome_sound c n x new pick h)
