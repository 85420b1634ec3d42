use Rattle.std.proofs.Common.{◌≡◌, ◌==◌, ◌+◌, ◌-◌, ◌≤◌, ◌∙◌, ◌||◌, ℕ, suc, Bool, true, false, cond, min, List, [], ◌∷◌, Option, Some, None, is_some, is_none, map, nat_lt, slice_get, get_or, refl, sym, ap, subst, arith}
use Rattle.std.specs.Prelude.{All}
use Rattle.std.proofs.lemmas.Bool.Decides.{nat_tests}
use Rattle.std.proofs.lemmas.List.Elements.{All-map, All-cons}
use Rattle.std.proofs.lemmas.List.Sums.{sum_by-le}
use Rattle.plain_cat.specs.declared.ids.Fid.{Fid}
use Rattle.plain_cat.specs.declared.ids.Uic.{Uic}
use Rattle.plain_cat.specs.declared.mode.Mode.{Mode}
use Rattle.plain_cat.specs.declared.entries.DirEnt.{DirEnt}
use Rattle.plain_cat.specs.declared.command.Cmd.{Cmd}
use Rattle.plain_cat.specs.declared.command.Cmd.TheVariants as cmd
use Rattle.plain_cat.specs.declared.cat.Cat.{Cat}
use Rattle.plain_cat.specs.declared.cat.File.{File}
use Rattle.plain_cat.specs.declared.cat.Slot.{Slot}
use Rattle.plain_cat.specs.declared.cat.Slot.TheVariants.{Used, Free}
use Rattle.plain_cat.specs.declared.cat.Open.{Open}
use Rattle.plain_cat.specs.declared.cat.QuotaRow.{QuotaRow}
use Rattle.plain_rules.specs.declared.outcome.Outcome.{Outcome}
use Rattle.plain_rules.specs.Lookups.{slot_at, last_seq, file_at, in_use, live, versions, entry_of, channel_at, row_of, header_most, file_most}
use Rattle.plain_rules.specs.Directories.{without, entry, new_version}
use Rattle.plain_rules.specs.Changes.{in_clusters, new_fid, new_file, new_dir, written, with_channel, with_row, allowed, cost}
use Rattle.plain_rules.specs.Accounts.{share, charge, HasRow, IsCharged, Accounted}
use Rattle.plain_rules.specs.Answers.{lookup_outcome, list_outcome, stat_of, stat_outcome, create_checks, create_refusal, create_made, create_outcome, dir_name, mkdir_checks, mkdir_refusal, mkdir_made, mkdir_outcome, extend_checks, extend_refusal, extend_of, extend_outcome, trunc_of, trunc_outcome, less_entry, unnamed, with_entry, delete_outcome, rename_refusal, rename_outcome, open_of, open_outcome, closed, close_of, close_outcome, read_of, read_open, read_outcome, write_of, write_open, write_outcome, quota_set_of, quota_set_outcome, quota_shown, quota_show_outcome, outcome, IsPick}
use Rattle.plain_rules.proofs.Picks.{pick_is_free}
use Rattle.plain_rules.proofs.Standing.{stands_at, stands_in_use, stands_live, stands_free}
use Rattle.plain_rules.proofs.Usages.{product_le}
use Rattle.plain_rules.proofs.Accounting.{has_row-map}
use Rattle.plain_rules.proofs.Kept.{kept_if, kept_unless, kept_in, are_false, size_at, row_at, entries_keep, entered_keep, stands, stands_less, removed_keep, file_keeps, grown_keep, cut_keep, opens_keep, written-owner, written-clusters}

pub there : (o : Option QuotaRow) → is_none o ≡ false → is_some o ≡ true
there None h = absurd (cc h)
there (Some r) h = refl

lookup_keeps : (c : Cat) (dir : Fid) (name : List ℕ) (ver : ℕ) → Accounted c → Accounted (lookup_outcome c dir name ver).after
unfolding lookup_outcome
lookup_keeps c dir name ver a = kept_in c (live c dir) _ a (λ d at. a)

list_keeps : (c : Cat) (dir : Fid) → Accounted c → Accounted (list_outcome c dir).after
unfolding list_outcome
list_keeps c dir a = kept_in c (live c dir) _ a (λ d at. a)

stat_keeps : (c : Cat) (f : Option File) → Accounted c → Accounted (stat_of c f).after
stat_keeps c None a = a
stat_keeps c (Some f) a = a

create_row : (c : Cat) (d : File) (name : List ℕ) (ver blocks : ℕ) (owner : Uic) (new : Option ℕ) → create_refusal c d name ver blocks owner new ≡ None
    → (in_clusters c blocks ≤ header_most) × (is_some (row_of owner c.quota) ≡ true)
unfolding create_refusal
create_row c d name ver blocks owner new h =
    let f = are_false (create_checks c d name ver blocks owner new) h in
    let limit : nat_lt header_most (in_clusters c blocks) ≡ false = f.1.1.0 in
    (grind (arith, nat_tests), there (row_of owner c.quota) f.1.1.1.1.0)

create_made_keeps : (c : Cat) (dir : ℕ) (d : File) (name : List ℕ) (ver blocks : ℕ) (owner : Uic) (new : Option ℕ) → Accounted c → IsPick c new
    → slice_get c.files (dir - 1) ≡ Some (Used d) → in_clusters c blocks ≤ header_most → is_some (row_of owner c.quota) ≡ true
    → Accounted (create_made c dir d name ver blocks owner new).after
create_made_keeps c dir d name ver blocks owner None a pick at few row = a
create_made_keeps c dir d name ver blocks owner (Some n) a pick at few row =
    entered_keep c dir d (entry name (new_version ver (versions name d.entries)) (new_fid c n)) (new_file (new_fid c n).seq owner (in_clusters c blocks))
    (last_seq (slot_at c n)) a at (stands_free c n (pick_is_free c n pick)) (omega (arith, product_le c.factor (in_clusters c blocks) a.factor_to (omega (arith, few)))) row

create_keeps : (c : Cat) (dir : Fid) (name : List ℕ) (ver blocks : ℕ) (owner : Uic) (new : Option ℕ) → Accounted c → IsPick c new
    → Accounted (create_outcome c dir name ver blocks owner new).after
unfolding create_outcome
create_keeps c dir name ver blocks owner new a pick = kept_in c (live c dir) _ a (λ d at.
    kept_unless c (create_refusal c d name ver blocks owner new) (create_made c dir.num d name ver blocks owner new) a (λ passed.
    let facts = create_row c d name ver blocks owner new passed in
    create_made_keeps c dir.num d name ver blocks owner new a pick (stands_live c dir d at) facts.0 facts.1))

mkdir_row : (c : Cat) (d : File) (name : List ℕ) (owner : Uic) (new : Option ℕ) → mkdir_refusal c d name owner new ≡ None
    → is_some (row_of owner c.quota) ≡ true
unfolding mkdir_refusal
mkdir_row c d name owner new h =
    let f = are_false (mkdir_checks c d name owner new) h in there (row_of owner c.quota) f.1.1.0

mkdir_made_keeps : (c : Cat) (dir : ℕ) (d : File) (name : List ℕ) (owner : Uic) (new : Option ℕ) → Accounted c → IsPick c new
    → slice_get c.files (dir - 1) ≡ Some (Used d) → is_some (row_of owner c.quota) ≡ true
    → Accounted (mkdir_made c dir d name owner new).after
mkdir_made_keeps c dir d name owner None a pick at row = a
mkdir_made_keeps c dir d name owner (Some n) a pick at row =
    entered_keep c dir d (entry name 1 (new_fid c n)) (new_dir (new_fid c n).seq owner c.factor)
    (last_seq (slot_at c n)) a at (stands_free c n (pick_is_free c n pick)) (omega (arith, a.factor_to)) row

mkdir_keeps : (c : Cat) (dir : Fid) (name : List ℕ) (owner : Uic) (new : Option ℕ) → Accounted c → IsPick c new
    → Accounted (mkdir_outcome c dir name owner new).after
unfolding mkdir_outcome
mkdir_keeps c dir name owner new a pick = kept_in c (live c dir) _ a (λ d at.
    kept_unless c (mkdir_refusal c d (dir_name name) owner new) (mkdir_made c dir.num d (dir_name name) owner new) a (λ passed.
    mkdir_made_keeps c dir.num d (dir_name name) owner new a pick (stands_live c dir d at) (mkdir_row c d (dir_name name) owner new passed)))

later_false : (a b : Bool) → (a || b) ≡ false → b ≡ false
later_false true b h = absurd (cc h)
later_false false b h = h

extend_few : (c : Cat) (n : ℕ) (f : File) (blocks : ℕ) (new : Option ℕ) → extend_refusal c n f blocks new ≡ None → f.clusters + in_clusters c blocks ≤ file_most
unfolding extend_refusal
extend_few c n f blocks new h =
    let g = are_false (extend_checks c n f (in_clusters c blocks) new) h in
    let limit : nat_lt file_most (f.clusters + in_clusters c blocks) ≡ false = later_false (nat_lt header_most (in_clusters c blocks)) _ g.1.0 in
    grind (arith, nat_tests)

extend_keeps : (c : Cat) (n : ℕ) (f : Option File) (blocks : ℕ) (new : Option ℕ) → Accounted c → ((g : File) → f ≡ Some g → slice_get c.files (n - 1) ≡ Some (Used g))
    → Accounted (extend_of c n f blocks new).after
extend_keeps c n None blocks new a at = a
extend_keeps c n (Some f) blocks new a at = kept_unless c (extend_refusal c n f blocks new) _ a (λ passed.
    grown_keep c n f (in_clusters c blocks) a (at f refl) (extend_few c n f blocks new passed))

trunc_keeps : (c : Cat) (n : ℕ) (f : Option File) (blocks : ℕ) → Accounted c → ((g : File) → f ≡ Some g → slice_get c.files (n - 1) ≡ Some (Used g))
    → Accounted (trunc_of c n f blocks).after
trunc_keeps c n None blocks a at = a
trunc_keeps c n (Some f) blocks a at =
    kept_if _ _ _ a (cut_keep c n f (min f.clusters (in_clusters c blocks)) a (at f refl) (omega arith))

entry_keeps : (c : Cat) (e : Option DirEnt) (next : DirEnt → Outcome) → Accounted c → ((x : DirEnt) → Accounted (next x).after)
    → Accounted (with_entry c e next).after
entry_keeps c None next a h = a
entry_keeps c (Some e) next a h = kept_if _ _ _ a (h e)

unnamed_keeps : (c : Cat) (dir : ℕ) (d : File) (e : DirEnt) (n : ℕ) (f : Option File) → Accounted c → slice_get c.files (dir - 1) ≡ Some (Used d)
    → ((g : File) → f ≡ Some g → slice_get c.files (n - 1) ≡ Some (Used g)) → Accounted (unnamed (less_entry c dir d e) n f).after
unnamed_keeps c dir d e n None a at own = entries_keep c dir d (without e.name e.ver d.entries) a at
unnamed_keeps c dir d e n (Some f) a at own =
    let less = without e.name e.ver d.entries in
    let accounts : Accounted (less_entry c dir d e) = entries_keep c dir d less a at in
    let s = stands_less c dir n d f less at (own f refl) in
    kept_if _ _ _
    (file_keeps (less_entry c dir d e) n f (record f { marked = true }) accounts s (row_at c (n - 1) (Used f) a (own f refl)) (size_at c (n - 1) (Used f) a (own f refl)) refl refl)
    (removed_keep (less_entry c dir d e) n f accounts s)

delete_keeps : (c : Cat) (dir : Fid) (name : List ℕ) (ver : ℕ) → Accounted c → Accounted (delete_outcome c dir name ver).after
unfolding delete_outcome
delete_keeps c dir name ver a = kept_in c (live c dir) _ a (λ d at.
    entry_keeps c (entry_of (versions name d.entries) ver) _ a (λ e. kept_if _ _ _ a
    (unnamed_keeps c dir.num d e e.fid.num (in_use c e.fid) a (stands_live c dir d at) (λ g own. stands_in_use c e.fid g own))))

rename_keeps : (c : Cat) (dir : Fid) (name : List ℕ) (ver : ℕ) (to : List ℕ) (to_ver : ℕ) → Accounted c
    → Accounted (rename_outcome c dir name ver to to_ver).after
unfolding rename_outcome
rename_keeps c dir name ver to to_ver a = kept_in c (live c dir) _ a (λ d at.
    entry_keeps c (entry_of (versions name d.entries) ver) _ a (λ e. kept_unless c (rename_refusal c d to to_ver) _ a (λ passed.
    entries_keep c dir.num d _ a (stands_live c dir d at))))

open_keeps : (c : Cat) (node chan n : ℕ) (f : Option File) (mode : Mode) → Accounted c → Accounted (open_of c node chan n f mode).after
open_keeps c node chan n None mode a = a
open_keeps c node chan n (Some f) mode a = kept_unless c _ _ a (λ passed. opens_keep c _ a)

closed_keeps : (c : Cat) (n : ℕ) (f : Option File) → Accounted c → ((g : File) → f ≡ Some g → slice_get c.files (n - 1) ≡ Some (Used g))
    → Accounted (closed c n f).after
closed_keeps c n None a at = a
closed_keeps c n (Some f) a at = kept_if _ _ _ (removed_keep c n f a (stands c n f (at f refl))) a

close_keeps : (c : Cat) (node chan : ℕ) (o : Option Open) → Accounted c → Accounted (close_of c node chan o).after
close_keeps c node chan None a = a
close_keeps c node chan (Some o) a =
    closed_keeps (with_channel c node chan None) o.file (file_at c o.file) (opens_keep c _ a) (λ g at. stands_at c o.file g at)

read_keeps : (c : Cat) (f : Option File) (vbn : ℕ) → Accounted c → Accounted (read_of c f vbn).after
read_keeps c None vbn a = a
read_keeps c (Some f) vbn a = kept_if _ _ _ a a

read_open_keeps : (c : Cat) (o : Option Open) (vbn : ℕ) → Accounted c → Accounted (read_open c o vbn).after
read_open_keeps c None vbn a = a
read_open_keeps c (Some o) vbn a = read_keeps c (file_at c o.file) vbn a

write_keeps : (c : Cat) (n : ℕ) (f : Option File) (vbn : ℕ) (text : List ℕ) → Accounted c → ((g : File) → f ≡ Some g → slice_get c.files (n - 1) ≡ Some (Used g))
    → Accounted (write_of c n f vbn text).after
write_keeps c n None vbn text a at = a
write_keeps c n (Some f) vbn text a at = kept_if _ _ _ a
    (file_keeps c n f (written f vbn text) a (stands c n f (at f refl)) (row_at c (n - 1) (Used f) a (at f refl)) (size_at c (n - 1) (Used f) a (at f refl))
    (written-owner f vbn text) (written-clusters f vbn text))

write_open_keeps : (c : Cat) (o : Option Open) (vbn : ℕ) (text : List ℕ) → Accounted c → Accounted (write_open c o vbn text).after
write_open_keeps c None vbn text a = a
write_open_keeps c (Some o) vbn text a = kept_if _ _ _ a (write_keeps c o.file (file_at c o.file) vbn text a (λ g at. stands_at c o.file g at))

allowed-owner : (b : Bool) (r : QuotaRow) (quota over : ℕ) → (cond b (record r { quota = quota; over = over }) r).owner ≡ r.owner
allowed-owner true r quota over = refl
allowed-owner false r quota over = refl

allowed-usage : (b : Bool) (r : QuotaRow) (quota over : ℕ) → (cond b (record r { quota = quota; over = over }) r).usage ≡ r.usage
allowed-usage true r quota over = refl
allowed-usage false r quota over = refl

-- rows that keep owner and usage
rows_keep : (c : Cat) (g : QuotaRow → QuotaRow) → Accounted c → ((r : QuotaRow) → (g r).owner ≡ r.owner) → ((r : QuotaRow) → (g r).usage ≡ r.usage)
    → Accounted (record c { quota = map g c.quota })
rows_keep c g a owner usage = record {
  factor_from = a.factor_from;
  factor_to = a.factor_to;
  numbers = a.numbers;
  sizes = a.sizes;
  owners = λ k d h. has_row-map g owner c.quota (get_or c.files k d) (a.owners k d h);
  usage = All-map (IsCharged (record c { quota = map g c.quota })) g c.quota (λ k d h. row (get_or c.quota k d) (a.usage k d h));
} where
  row : (r : QuotaRow) → IsCharged c r → IsCharged c (g r)
  row r h =
      let P : Uic → Type 0 = λ u. (charge c u ≤ (g r).usage) × ((g r).usage ≤ charge c u + 1000000) in
      subst P (sym (owner r)) (let e = usage r in (omega (arith, e, h.0), omega (arith, e, h.1)))

some_either : (b : Bool) (x : QuotaRow) (o : Option QuotaRow) → is_some o ≡ true → is_some (cond b (Some x) o) ≡ true
some_either true x o k = refl
some_either false x o k = k

some_later : (b : Bool) (x : QuotaRow) (o p : Option QuotaRow) → (is_some o ≡ true → is_some p ≡ true) → is_some (cond b (Some x) o) ≡ true
    → is_some (cond b (Some x) p) ≡ true
some_later true x o p k l = refl
some_later false x o p k l = k l

some_before : (b : Bool) (row r : QuotaRow) (owner : Uic) (rs : List QuotaRow)
    → (is_some (row_of owner rs) ≡ true → is_some (row_of owner (with_row row rs)) ≡ true) → is_some (row_of owner (r ∷ rs)) ≡ true
    → is_some (row_of owner (cond b (row ∷ r ∷ rs) (r ∷ with_row row rs))) ≡ true
some_before true row r owner rs k h = some_either (row.owner.0 == owner.0) row (row_of owner (r ∷ rs)) h
some_before false row r owner rs k h = some_later (r.owner.0 == owner.0) r (row_of owner rs) (row_of owner (with_row row rs)) k h

some_with_row : (row : QuotaRow) (owner : Uic) (rows : List QuotaRow) → is_some (row_of owner rows) ≡ true → is_some (row_of owner (with_row row rows)) ≡ true
some_with_row row owner [] h = absurd (cc h)
some_with_row row owner (r ∷ rs) h = some_before (nat_lt row.owner.0 r.owner.0) row r owner rs (some_with_row row owner rs) h

pub all_rest : (P : QuotaRow → Type 0) (r : QuotaRow) (rs : List QuotaRow) → All P (r ∷ rs) → All P rs
all_rest P r rs all k d h = all (suc k) d (omega (arith, h))

pub all_before : (P : QuotaRow → Type 0) (b : Bool) (row r : QuotaRow) (rs rest : List QuotaRow) → P row → All P (r ∷ rs) → All P rest
    → All P (cond b (row ∷ r ∷ rs) (r ∷ rest))
all_before P true row r rs rest p all more = All-cons P row (r ∷ rs) p all
all_before P false row r rs rest p all more = All-cons P r rest (all 0 r (omega arith)) more

pub all_with_row : (P : QuotaRow → Type 0) (row : QuotaRow) (rows : List QuotaRow) → P row → All P rows → All P (with_row row rows)
all_with_row P row [] p all = All-cons P row [] p all
all_with_row P row (r ∷ rs) p all =
    all_before P (nat_lt row.owner.0 r.owner.0) row r rs (with_row row rs) p all (all_with_row P row rs p (all_rest P r rs all))

-- an owner without a row has no file
no_share : (c : Cat) (owner : Uic) → row_of owner c.quota ≡ None → (s : Slot) → HasRow c.quota s → share c owner s ≤ 0
no_share c owner gone (Free q) h = omega arith
no_share c owner gone (Used f) h = decide (owner.0 == f.owner.0) refl where
  decide : (b : Bool) → b ≡ (owner.0 == f.owner.0) → cond b (cost c f.clusters) 0 ≤ 0
  decide true e =
      let same : owner.0 ≡ f.owner.0 = grind (arith, nat_tests) in
      let none : row_of f.owner c.quota ≡ None = subst (λ (x : ℕ). row_of (record { 0 = x }) c.quota ≡ None) same gone in
      let both : false ≡ true = sym (ap is_some none) ∙ h in
      absurd (cc both)
  decide false e = omega arith

charge_none : (c : Cat) (owner : Uic) → Accounted c → row_of owner c.quota ≡ None → charge c owner ≡ 0
charge_none c owner a gone =
    let each : All (λ (s : Slot). share c owner s ≤ 0) c.files = λ k d h. no_share c owner gone (get_or c.files k d) (a.owners k d h) in
    let sum : charge c owner ≤ _ = sum_by-le (share c owner) 0 c.files each in
    omega (arith, sum)

row_keeps : (c : Cat) (row : QuotaRow) → Accounted c → row_of row.owner c.quota ≡ None → row.usage ≡ 0 → Accounted (record c { quota = with_row row c.quota })
row_keeps c row a gone new = record {
  factor_from = a.factor_from;
  factor_to = a.factor_to;
  numbers = a.numbers;
  sizes = a.sizes;
  owners = λ k d h. has (get_or c.files k d) (a.owners k d h);
  usage = all_with_row (IsCharged (record c { quota = with_row row c.quota })) row c.quota own a.usage;
} where
  has : (s : Slot) → HasRow c.quota s → HasRow (with_row row c.quota) s
  has (Free q) h = tt
  has (Used f) h = some_with_row row f.owner c.quota h

  own : IsCharged (record c { quota = with_row row c.quota }) row
  own = let e = charge_none c row.owner a gone in (omega (arith, e, new), omega (arith, e, new))

quota_set_keeps : (c : Cat) (r : Option QuotaRow) (owner : Uic) (quota over : ℕ) → Accounted c → row_of owner c.quota ≡ r
    → Accounted (quota_set_of c r owner quota over).after
quota_set_keeps c (Some r) owner quota over a is =
    rows_keep c (allowed owner quota over) a (λ x. allowed-owner (x.owner.0 == owner.0) x quota over) (λ x. allowed-usage (x.owner.0 == owner.0) x quota over)
quota_set_keeps c None owner quota over a is =
    kept_if _ _ _ a (row_keeps c (record { owner = owner; usage = 0; quota = quota; over = over }) a is refl)

quota_show_keeps : (c : Cat) (r : Option QuotaRow) → Accounted c → Accounted (quota_shown c r).after
quota_show_keeps c None a = a
quota_show_keeps c (Some r) a = a

-- the catalogue after any answer is accounted for again
pub accounts_kept : (c : Cat) (node : ℕ) (x : Cmd) (new : Option ℕ) → Accounted c → IsPick c new → Accounted (outcome c node x new).after
unfolding outcome stat_outcome extend_outcome trunc_outcome open_outcome close_outcome read_outcome write_outcome quota_set_outcome quota_show_outcome
accounts_kept c node (cmd.Lookup reg dir name ver) new a pick = lookup_keeps c dir name ver a
accounts_kept c node (cmd.List dir) new a pick = list_keeps c dir a
accounts_kept c node (cmd.Stat file) new a pick = stat_keeps c (live c file) a
accounts_kept c node (cmd.Create reg dir name ver blocks owner) new a pick = create_keeps c dir name ver blocks owner new a pick
accounts_kept c node (cmd.MkDir reg dir name owner) new a pick = mkdir_keeps c dir name owner new a pick
accounts_kept c node (cmd.Extend file blocks) new a pick = extend_keeps c file.num (live c file) blocks new a (λ g at. stands_live c file g at)
accounts_kept c node (cmd.Trunc file blocks) new a pick = trunc_keeps c file.num (live c file) blocks a (λ g at. stands_live c file g at)
accounts_kept c node (cmd.Delete dir name ver) new a pick = delete_keeps c dir name ver a
accounts_kept c node (cmd.Rename dir name ver to to_ver) new a pick = rename_keeps c dir name ver to to_ver a
accounts_kept c node (cmd.OpenFile chan file mode) new a pick = kept_if _ _ _ a (open_keeps c node chan file.num (live c file) mode a)
accounts_kept c node (cmd.CloseFile chan) new a pick = close_keeps c node chan (channel_at c node chan) a
accounts_kept c node (cmd.ReadBlock chan vbn) new a pick = read_open_keeps c (channel_at c node chan) vbn a
accounts_kept c node (cmd.WriteBlock chan vbn text) new a pick = write_open_keeps c (channel_at c node chan) vbn text a
accounts_kept c node (cmd.QuotaSet owner quota over) new a pick = quota_set_keeps c (row_of owner c.quota) owner quota over a refl
accounts_kept c node (cmd.QuotaShow owner) new a pick = quota_show_keeps c (row_of owner c.quota) a
