-- What keeps a catalogue in order.
use Rattle.std.proofs.Common.{◌≡◌, ◌&&◌, ◌-◌, ◌<◌, ◌≤◌, ◌⊎◌, inl, inr, ◌∙◌, ℕ, zero, suc, Bool, true, false, cond, not, List, [], ◌∷◌, Option, Some, None, length, slice_get, set, refl, sym, ap, subst, arith}
use Rattle.std.specs.Prelude.{is_some}
use Rattle.std.specs.List.{list_any}
use Rattle.std.proofs.lemmas.Bool.{cases_eq}
use Rattle.plain_cat.specs.declared.ids.Uic.{Uic}
use Rattle.plain_cat.specs.declared.entries.DirEnt.{DirEnt}
use Rattle.plain_cat.specs.declared.cat.Cat.{Cat}
use Rattle.plain_cat.specs.declared.cat.File.{File}
use Rattle.plain_cat.specs.declared.cat.Slot.{Slot}
use Rattle.plain_cat.specs.declared.cat.Slot.TheVariants.{Used}
use Rattle.plain_rules.specs.Lookups.{file_at, row_of, file_most}
use Rattle.plain_rules.specs.Directories.{is_nil}
use Rattle.plain_rules.specs.Changes.{with_slot, with_file}
use Rattle.plain_rules.specs.Answers.{has_entries}
use Rattle.plain_mends.specs.Sound.{IsSystemFile, HasOwnName, LeadsTo, NumberPath, IsSound}
use Rattle.plain_rules.specs.SystemFiles.{is_system_entry}
use Rattle.plain_rules.specs.SystemFiles.{listed}
use Rattle.plain_rules.specs.SystemFiles.{entries_of}
use Rattle.plain_mends.specs.Sound.NumberPath.{One, More}
use Rattle.plain_rules.proofs.Standing.{stands_at}
use Rattle.base_words.specs.Lists.{Has}
use Rattle.base_words.proofs.Listing.{has_from, has_to}
use Rattle.plain_laws.proofs.Standing.{number_rises, file_same, file_other}

-- what a file of the later catalogue is by the earlier one, where new chains begin at s
pub record Comes (c : Cat) (s n : ℕ) (g : File) : Type 0 where
  pub size : 11 < n → g.clusters ≤ file_most
  pub owner : is_some (row_of g.owner c.quota) ≡ true
  pub closed : has_entries (Some g) ≡ true → g.marked ≡ false
  pub edges : (e : DirEnt) → Has (listed (Some g)) e → (n ≡ 4 → is_system_entry 4 e ≡ false)
      → LeadsTo c n e.fid.num ⊎ ((n ≡ s) × (e.fid.num ≡ s → ⊥) × (NumberPath c e.fid.num s → ⊥))

pub record Follows (c d : Cat) (s : ℕ) : Type 0 where
  pub files : (n : ℕ) (g : File) → file_at d n ≡ Some g → Comes c s n g
  pub low : (n : ℕ) (f : File) → 1 ≤ n → n ≤ 11 → file_at c n ≡ Some f → IsSystemFile n f → (g : File) × (file_at d n ≡ Some g) × IsSystemFile n g
  pub own : (n : ℕ) → 1 ≤ n → n ≤ 11 → list_any (is_system_entry n) (entries_of c 4) ≡ true → list_any (is_system_entry n) (entries_of d 4) ≡ true
  pub named : (e : DirEnt) (n : ℕ) → 1 ≤ n → n ≤ 11 → Has (entries_of d 4) e → HasOwnName n e → e.fid.num ≡ n
  pub rows : (o : Uic) → is_some (row_of o c.quota) ≡ true → is_some (row_of o d.quota) ≡ true
  pub channels : length d.opens ≡ length c.opens

listed_from : (o : Option File) (e : DirEnt) → Has (listed o) e → (f : File) × (o ≡ Some f) × Has (listed (Some f)) e
listed_from None e h = absurd h
listed_from (Some f) e h = (f, refl, h)

-- where a new chain comes from
record Around (c : Cat) (s a b : ℕ) : Type 0 where
  m : ℕ
  apart : m ≡ s → ⊥
  clear : NumberPath c m s → ⊥
  before : (a ≡ s) ⊎ NumberPath c a s
  after : (m ≡ b) ⊎ NumberPath c m b

module _ (c d : Cat) (s : ℕ) (follows : Follows c d s) where
  edge : (n m : ℕ) → LeadsTo d n m → LeadsTo c n m ⊎ ((n ≡ s) × (m ≡ s → ⊥) × (NumberPath c m s → ⊥))
  edge n m l =
      let r = listed_from (file_at d n) l.entry (has_from (entries_of d n) l.entry l.there) in
      subst (λ (k : ℕ). LeadsTo c n k ⊎ ((n ≡ s) × (k ≡ s → ⊥) × (NumberPath c k s → ⊥))) l.names ((follows.files n r.0 r.1).edges l.entry r.2 l.other)

  chain : (a b : ℕ) → NumberPath d a b → NumberPath c a b ⊎ Around c s a b
  chain a b (One l) = first (edge a b l) where
    first : LeadsTo c a b ⊎ ((a ≡ s) × (b ≡ s → ⊥) × (NumberPath c b s → ⊥)) → NumberPath c a b ⊎ Around c s a b
    first (inl k) = inl (One k)
    first (inr k) = inr (record { m = b; apart = k.1; clear = k.2; before = inl k.0; after = inl refl })
  chain a b (More {k} p l) = next (chain a k p) (edge k b l) where
    on : (m : ℕ) → (m ≡ k) ⊎ NumberPath c m k → LeadsTo c k b → NumberPath c m b
    on m (inl e) q = subst (λ (z : ℕ). NumberPath c z b) (sym e) (One q)
    on m (inr e) q = More e q

    here : (m : ℕ) → (m ≡ s → ⊥) → (NumberPath c m s → ⊥) → (m ≡ k) ⊎ NumberPath c m k → k ≡ s → ⊥
    here m apart clear (inl e) is = apart (e ∙ is)
    here m apart clear (inr e) is = clear (subst (λ (z : ℕ). NumberPath c m z) is e)

    next : NumberPath c a k ⊎ Around c s a k → LeadsTo c k b ⊎ ((k ≡ s) × (b ≡ s → ⊥) × (NumberPath c b s → ⊥)) → NumberPath c a b ⊎ Around c s a b
    next (inl q) (inl e) = inl (More q e)
    next (inl q) (inr e) = inr (record { m = b; apart = e.1; clear = e.2; before = inr (subst (λ (z : ℕ). NumberPath c a z) e.0 q); after = inl refl })
    next (inr r) (inl e) = inr (record { m = r.m; apart = r.apart; clear = r.clear; before = r.before; after = inr (on r.m r.after e) })
    next (inr r) (inr e) = absurd (here r.m r.apart r.clear r.after e.0)

joined : (c : Cat) (a k : ℕ) (b : ℕ) → NumberPath c a k → NumberPath c k b → NumberPath c a b
joined c a k b p (One l) = More p l
joined c a k b p (More q l) = More (joined c a k _ p q) l

pub sound_on : (c d : Cat) (s : ℕ) → Follows c d s → IsSound c → IsSound d
sound_on c d s f h = record {
  systems = λ n from to. let r = h.systems n from to in f.low n r.0 from to r.1 r.2;
  sizes = λ n g high at. (f.files n g at).size high;
  owners = λ n g at. f.rows g.owner (f.files n g at).owner;
  entries = λ n from to. f.own n from to (h.entries n from to);
  named = λ e n from to has. f.named e n from to (has_from (entries_of d 4) e has);
  closed = λ n g at. (f.files n g at).closed;
  ordered = λ n p. returns n (chain c d s f n n p);
  channels = f.channels ∙ h.channels;
} where
  around : (n : ℕ) → (m : ℕ) → (m ≡ s → ⊥) → (NumberPath c m s → ⊥) → (n ≡ s) ⊎ NumberPath c n s → (m ≡ n) ⊎ NumberPath c m n → ⊥
  around n m apart clear (inl b) (inl a) = apart (a ∙ b)
  around n m apart clear (inl b) (inr a) = clear (subst (λ (z : ℕ). NumberPath c m z) b a)
  around n m apart clear (inr b) (inl a) = clear (subst (λ (z : ℕ). NumberPath c z s) (sym a) b)
  around n m apart clear (inr b) (inr a) = clear (joined c m n s a b)

  returns : (n : ℕ) → NumberPath c n n ⊎ Around c s n n → ⊥
  returns n (inl p) = h.ordered n p
  returns n (inr r) = around n r.m r.apart r.clear r.before r.after

-- a file that was there before
pub same_comes : (c : Cat) (s n : ℕ) (g : File) → IsSound c → file_at c n ≡ Some g → Comes c s n g
same_comes c s n g h at = record {
  size = λ high. h.sizes n g high at;
  owner = h.owners n g at;
  closed = h.closed n g at;
  edges = λ e has other. inl (record { entry = e; there = has_to (entries_of c n) e (subst (λ (o : Option File). Has (listed o) e) (sym at) has); names = refl; other = other });
}

-- rows and channels change, and no file
pub beside_follows : (c d : Cat) → d.files ≡ c.files → ((o : Uic) → is_some (row_of o c.quota) ≡ true → is_some (row_of o d.quota) ≡ true) → length d.opens ≡ length c.opens
    → IsSound c → IsSound d
beside_follows c d files rows channels h = sound_on c d 0 (record {
  files = λ n g at. same_comes c 0 n g h (sym (here n) ∙ at);
  low = λ n f from to at is. (f, here n ∙ at, is);
  own = λ n from to has. ap (λ o. list_any (is_system_entry n) (listed o)) (here 4) ∙ has;
  named = λ e n from to has. h.named e n from to (has_to (entries_of c 4) e (subst (λ (o : Option File). Has (listed o) e) (here 4) has));
  rows = rows;
  channels = channels;
}) h where
  here : (n : ℕ) → file_at d n ≡ file_at c n
  here n = ap (λ (fs : List Slot). file_at (record c { files = fs }) n) files

set_there : (xs : List Slot) (i : ℕ) (v x : Slot) → slice_get (set xs i v) i ≡ Some x → v ≡ x
set_there [] i v x h = absurd (cc h)
set_there (y ∷ ys) zero v x h = cc h
set_there (y ∷ ys) (suc i) v x h = set_there ys i v x h

-- what stands under a number once a slot has changed
pub at_after : (c : Cat) (n k : ℕ) (v : Slot) (g : File) → 0 < n → file_at (with_slot c n v) k ≡ Some g → ((k ≡ n) × (v ≡ Used g)) ⊎ ((k ≡ n → ⊥) × (file_at c k ≡ Some g))
at_after c n k v g rises at = by_case (cases_eq k n) where
  by_case : (k ≡ n) ⊎ (k ≡ n → ⊥) → ((k ≡ n) × (v ≡ Used g)) ⊎ ((k ≡ n → ⊥) × (file_at c k ≡ Some g))
  by_case (inl e) = inl (e, set_there c.files (n - 1) v (Used g) (stands_at (with_slot c n v) n g (ap (λ z. file_at (with_slot c n v) z) (sym e) ∙ at)))
  by_case (inr e) = inr (e, sym (file_other c n k v rises e) ∙ at)

-- ---- one file changes

-- an entry that leads where an old one did, or to where no chain comes back
abbrev pub Edge : Cat → ℕ → File → DirEnt → Type 0
Edge c n f e =
    ((x : DirEnt) × Has f.entries x × (x.fid.num ≡ e.fid.num) × (is_system_entry 4 e ≡ false → is_system_entry 4 x ≡ false))
    ⊎ ((e.fid.num ≡ n → ⊥) × (NumberPath c e.fid.num n → ⊥))

pub record Edit (c : Cat) (n : ℕ) (f g : File) : Type 0 where
  pub seq : g.seq ≡ f.seq
  pub dir : g.dir ≡ f.dir
  pub owner : g.owner ≡ f.owner
  pub size : 11 < n → g.clusters ≤ file_most
  pub low : n ≤ 11 → g.marked ≡ false
  pub closed : has_entries (Some g) ≡ true → g.marked ≡ false
  pub own : n ≡ 4 → (k : ℕ) → 1 ≤ k → k ≤ 11 → list_any (is_system_entry k) f.entries ≡ true → list_any (is_system_entry k) g.entries ≡ true
  pub named : n ≡ 4 → (e : DirEnt) (k : ℕ) → 1 ≤ k → k ≤ 11 → Has g.entries e → HasOwnName k e → e.fid.num ≡ k
  pub edges : (e : DirEnt) → Has g.entries e → Edge c n f e

pub if_listed : (b : Bool) (es : List DirEnt) (e : DirEnt) → Has (cond b es []) e → (b ≡ true) × Has es e
if_listed true es e h = (refl, h)
if_listed false es e h = absurd h

pub listed_if : (b : Bool) (es : List DirEnt) (e : DirEnt) → b ≡ true → Has es e → Has (cond b es []) e
listed_if true es e h k = k
listed_if false es e h k = absurd (cc h)

-- the entries of a directory
pub listed_is : (c : Cat) (n : ℕ) (f : File) → file_at c n ≡ Some f → f.dir ≡ true → entries_of c n ≡ f.entries
listed_is c n f at dir = ap listed at ∙ ap (λ b. cond b f.entries []) dir

any_listed : (b d : Bool) (xs ys : List DirEnt) (p : DirEnt → Bool) → d ≡ b → (list_any p xs ≡ true → list_any p ys ≡ true) → list_any p (cond b xs []) ≡ true → list_any p (cond d ys []) ≡ true
any_listed true true xs ys p e on h = on h
any_listed true false xs ys p e on h = absurd (cc e)
any_listed false d xs ys p e on h = absurd (cc h)

pub edit_sound : (c : Cat) (n : ℕ) (f g : File) → file_at c n ≡ Some f → (IsSound c → Edit c n f g) → IsSound c → IsSound (with_file c n g)
edit_sound c n f g at edits h = sound_on c d n (record {
  files = λ k x there. comes k x there (at_after c n k (Used g) x rises there);
  low = low;
  own = λ k from to. own k from to (cases_eq 4 n);
  named = λ e k from to has. named e k from to has (cases_eq 4 n);
  rows = λ o r. r;
  channels = refl;
}) h where
  d : Cat
  d = with_file c n g

  t : Edit c n f g
  t = edits h

  rises : 0 < n
  rises = number_rises c n f at

  after : file_at d n ≡ Some g
  after = file_same c n f g at

  old_edge : (k : ℕ) (e : DirEnt) → k ≡ n → g.dir ≡ true → (k ≡ 4 → is_system_entry 4 e ≡ false) → Edge c n f e → LeadsTo c k e.fid.num ⊎ ((k ≡ n) × (e.fid.num ≡ n → ⊥) × (NumberPath c e.fid.num n → ⊥))
  old_edge k e here dir other (inr new) = inr (here, new.0, new.1)
  old_edge k e here dir other (inl (x, has, names, kept)) = inl (record {
    entry = x;
    there = has_to (entries_of c k) x (subst (λ (o : Option File). Has (listed o) x) (sym (ap (λ z. file_at c z) here ∙ at)) (listed_if f.dir f.entries x (sym t.dir ∙ dir) has));
    names = names;
    other = λ is. kept (other is);
  })

  comes : (k : ℕ) (x : File) → file_at d k ≡ Some x → ((k ≡ n) × (Used g ≡ Used x)) ⊎ ((k ≡ n → ⊥) × (file_at c k ≡ Some x)) → Comes c n k x
  comes k x there (inr old) = same_comes c n k x h old.1
  comes k x there (inl (here, is)) =
      let same : g ≡ x = cc is in
      subst (λ (y : File). Comes c n k y) same (record {
        size = λ high. t.size (subst (λ (z : ℕ). 11 < z) here high);
        owner = ap (λ (o : Uic). is_some (row_of o c.quota)) t.owner ∙ h.owners n f at;
        closed = t.closed;
        edges = λ e has other. let r = if_listed g.dir g.entries e has in old_edge k e here r.0 other (t.edges e r.1);
      })

  low : (k : ℕ) (x : File) → 1 ≤ k → k ≤ 11 → file_at c k ≡ Some x → IsSystemFile k x → (y : File) × (file_at d k ≡ Some y) × IsSystemFile k y
  low k x from to there is = by_case (cases_eq k n) where
    by_case : (k ≡ n) ⊎ (k ≡ n → ⊥) → (y : File) × (file_at d k ≡ Some y) × IsSystemFile k y
    by_case (inl here) =
        let both : Some f ≡ Some x = sym at ∙ (ap (λ z. file_at c z) (sym here) ∙ there) in
        let same : f ≡ x = cc both in (
          g,
          ap (λ z. file_at d z) here ∙ after,
          record {
            seq = t.seq ∙ (ap (λ (y : File). y.seq) same ∙ is.seq);
            dir = t.dir ∙ (ap (λ (y : File). y.dir) same ∙ is.dir);
            unmarked = t.low (subst (λ (z : ℕ). z ≤ 11) here to);
          },
        )
    by_case (inr other) = (x, file_other c n k (Used g) rises other ∙ there, is)

  own : (k : ℕ) → 1 ≤ k → k ≤ 11 → (4 ≡ n) ⊎ (4 ≡ n → ⊥) → list_any (is_system_entry k) (entries_of c 4) ≡ true → list_any (is_system_entry k) (entries_of d 4) ≡ true
  own k from to (inr other) has = ap (λ o. list_any (is_system_entry k) (listed o)) (file_other c n 4 (Used g) rises other) ∙ has
  own k from to (inl here) has =
      let before : list_any (is_system_entry k) (listed (Some f)) ≡ true = sym (ap (λ o. list_any (is_system_entry k) (listed o)) (ap (λ z. file_at c z) here ∙ at)) ∙ has in
      ap (λ o. list_any (is_system_entry k) (listed o)) (ap (λ z. file_at d z) here ∙ after)
      ∙ any_listed f.dir g.dir f.entries g.entries (is_system_entry k) t.dir (t.own (sym here) k from to) before

  named : (e : DirEnt) (k : ℕ) → 1 ≤ k → k ≤ 11 → Has (entries_of d 4) e → (4 ≡ n) ⊎ (4 ≡ n → ⊥) → HasOwnName k e → e.fid.num ≡ k
  named e k from to has (inr other) is =
      h.named e k from to (has_to (entries_of c 4) e (subst (λ (o : Option File). Has (listed o) e) (file_other c n 4 (Used g) rises other) has)) is
  named e k from to has (inl here) is =
      let mine : Has (listed (Some g)) e = subst (λ (o : Option File). Has (listed o) e) (ap (λ z. file_at d z) here ∙ after) has in
      t.named (sym here) e k from to (if_listed g.dir g.entries e mine).1 is

-- ---- a slot gets a file without entries, or none

no_start : (c : Cat) (n m : ℕ) → ((e : DirEnt) → Has (entries_of c n) e → ⊥) → NumberPath c n m → ⊥
no_start c n m bare (One l) = bare l.entry (has_from (entries_of c n) l.entry l.there)
no_start c n m bare (More p l) = no_start c n _ bare p

pub no_way : (c : Cat) (n m : ℕ) (f : File) → file_at c n ≡ Some f → f.entries ≡ [] → NumberPath c n m → ⊥
no_way c n m f at bare = no_start c n m (λ e has.
    let mine : Has (listed (Some f)) e = subst (λ (o : Option File). Has (listed o) e) at has in
    subst (λ (es : List DirEnt). Has es e) bare (if_listed f.dir f.entries e mine).1)

-- the number of a slot that changes is above those of the system
pub slot_sound : (c : Cat) (n : ℕ) (v : Slot) → 11 < n → ((g : File) → v ≡ Used g → (g.clusters ≤ file_most) × (is_some (row_of g.owner c.quota) ≡ true) × (g.entries ≡ [])) → IsSound c → IsSound (with_slot c n v)
slot_sound c n v high new h = sound_on c d n (record {
  files = λ k x there. comes k x (at_after c n k v x rises there);
  low = λ k x from to there is. (x, file_other c n k v rises (λ e. omega (arith, e, to, high)) ∙ there, is);
  own = λ k from to has. ap (λ o. list_any (is_system_entry k) (listed o)) four ∙ has;
  named = λ e k from to has. h.named e k from to (has_to (entries_of c 4) e (subst (λ (o : Option File). Has (listed o) e) four has));
  rows = λ o r. r;
  channels = refl;
}) h where
  d : Cat
  d = with_slot c n v

  rises : 0 < n
  rises = omega (arith, high)

  four : file_at d 4 ≡ file_at c 4
  four = file_other c n 4 v rises (λ e. omega (arith, e, high))

  no_entries : (g : File) → g.entries ≡ [] → has_entries (Some g) ≡ false
  no_entries g bare = ap (λ es. g.dir && not (is_nil es)) bare ∙ nothing g.dir where
    nothing : (b : Bool) → b && false ≡ false
    nothing true = refl
    nothing false = refl

  comes : (k : ℕ) (x : File) → ((k ≡ n) × (v ≡ Used x)) ⊎ ((k ≡ n → ⊥) × (file_at c k ≡ Some x)) → Comes c n k x
  comes k x (inr old) = same_comes c n k x h old.1
  comes k x (inl (here, is)) =
      let r = new x is in
      record {
        size = λ high. r.0;
        owner = r.1;
        closed = λ has. let both : false ≡ true = sym (no_entries x r.2) ∙ has in absurd (cc both);
        edges = λ e has other. absurd (subst (λ (es : List DirEnt). Has es e) r.2 (if_listed x.dir x.entries e has).1);
      }
