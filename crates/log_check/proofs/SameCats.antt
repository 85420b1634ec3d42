-- Whether two catalogues are the same.
use Rattle.std.proofs.Common.{◌≡◌, ◌∙◌, ◌⊎◌, ℕ, Bool, true, false, List, [], ◌∷◌, Option, Some, None, cond, eqb, refl, sym, ap, inl, inr}
use Rattle.std.proofs.lemmas.Bool.{both_ways, eqb-true, eq-eqb}
use Rattle.base_words.specs.Fields.{Block}
use Rattle.plain_cat.specs.declared.ids.Fid.{Fid}
use Rattle.plain_cat.specs.declared.ids.Uic.{Uic}
use Rattle.plain_cat.specs.declared.mode.Mode.{Mode}
use Rattle.plain_cat.specs.declared.mode.Mode.TheVariants.{NL, CR, CW, PR, PW, EX}
use Rattle.plain_cat.specs.declared.entries.DirEnt.{DirEnt}
use Rattle.plain_cat.specs.declared.cat.Cat.{Cat}
use Rattle.plain_cat.specs.declared.cat.File.{File}
use Rattle.plain_cat.specs.declared.cat.Slot.{Slot}
use Rattle.plain_cat.specs.declared.cat.Slot.TheVariants.{Used, Free}
use Rattle.plain_cat.specs.declared.cat.Open.{Open}
use Rattle.plain_cat.specs.declared.cat.QuotaRow.{QuotaRow}

-- two things are the same, or they are not
abbrev Same : (A : Type 0) → A → A → Type 0
Same A a b = (a ≡ b) ⊎ (a ≡ b → ⊥)

-- so it is of any two
abbrev Decided : Type 0 → Type 0
Decided A = (a b : A) → Same A a b

numbers : Decided ℕ
numbers a b = by (eqb a b) refl
  where
    by : (t : Bool) → eqb a b ≡ t → Same ℕ a b
    by true e = inl (eqb-true a b e)
    by false e = inr (λ h. both_ways (eqb a b) e (eq-eqb a b h))

-- things that are told by others
told_by : (A B : Type 0) (to : A → B) (from : B → A) → ((a : A) → from (to a) ≡ a) → Decided B → Decided A
told_by A B to from back d a b = by (d (to a) (to b))
  where
    by : Same B (to a) (to b) → Same A a b
    by (inl e) = inl (sym (back a) ∙ ap from e ∙ back b)
    by (inr never) = inr (λ e. never (ap to e))

pairs : (A B : Type 0) → Decided A → Decided B → Decided (A × B)
pairs A B d e p q = by (d p.0 q.0) (e p.1 q.1)
  where
    by : Same A p.0 q.0 → Same B p.1 q.1 → Same (A × B) p q
    by (inl f) (inl g) = inl (λ i. (f i, g i))
    by (inl f) (inr never) = inr (λ h. never (ap (λ (x : A × B). x.1) h))
    by (inr never) g = inr (λ h. never (ap (λ (x : A × B). x.0) h))

some_is : (A : Type 0) (a b : A) → ◌≡◌ {A = Option A} (Some a) (Some b) → a ≡ b
some_is A a b h = cc

some_not : (A : Type 0) (a : A) → ◌≡◌ {A = Option A} (Some a) None → ⊥
some_not A a h = cc

options : (A : Type 0) → Decided A → Decided (Option A)
options A d None None = inl refl
options A d None (Some b) = inr (λ h. some_not A b (sym h))
options A d (Some a) None = inr (some_not A a)
options A d (Some a) (Some b) = by (d a b)
  where
    by : Same A a b → Same (Option A) (Some a) (Some b)
    by (inl e) = inl (ap (λ (a : A). Some a) e)
    by (inr never) = inr (λ h. never (some_is A a b h))

head_is : (A : Type 0) (x b : A) (xs bs : List A) → ◌≡◌ {A = List A} (x ∷ xs) (b ∷ bs) → x ≡ b
head_is A x b xs bs e = cc

tail_is : (A : Type 0) (x b : A) (xs bs : List A) → ◌≡◌ {A = List A} (x ∷ xs) (b ∷ bs) → xs ≡ bs
tail_is A x b xs bs e = cc

some_none : (A : Type 0) (x : A) (xs : List A) → ◌≡◌ {A = List A} (x ∷ xs) [] → ⊥
some_none A x xs e = cc

lists : (A : Type 0) → Decided A → Decided (List A)
lists A d [] [] = inl refl
lists A d [] (b ∷ bs) = inr (λ h. some_none A b bs (sym h))
lists A d (x ∷ xs) [] = inr (some_none A x xs)
lists A d (x ∷ xs) (b ∷ bs) = by (d x b) (lists A d xs bs)
  where
    by : Same A x b → Same (List A) xs bs → Same (List A) (x ∷ xs) (b ∷ bs)
    by (inl e) (inl f) = inl (λ i. e i ∷ f i)
    by (inl e) (inr never) = inr (λ h. never (tail_is A x b xs bs h))
    by (inr never) f = inr (λ h. never (head_is A x b xs bs h))

abbrev bool_number : Bool → ℕ
bool_number true = 1
bool_number false = 0

abbrev number_bool : ℕ → Bool
number_bool n = eqb n 1

bools_back : (b : Bool) → number_bool (bool_number b) ≡ b
bools_back true = refl
bools_back false = refl

bools : Decided Bool
bools = told_by Bool ℕ bool_number number_bool bools_back numbers

abbrev mode_number : Mode → ℕ
mode_number NL = 0
mode_number CR = 1
mode_number CW = 2
mode_number PR = 3
mode_number PW = 4
mode_number EX = 5

abbrev number_mode : ℕ → Mode
number_mode n = cond (eqb n 0) NL (cond (eqb n 1) CR (cond (eqb n 2) CW (cond (eqb n 3) PR (cond (eqb n 4) PW EX))))

modes_back : (m : Mode) → number_mode (mode_number m) ≡ m
modes_back NL = refl
modes_back CR = refl
modes_back CW = refl
modes_back PR = refl
modes_back PW = refl
modes_back EX = refl

modes : Decided Mode
modes = told_by Mode ℕ mode_number number_mode modes_back numbers

owners : Decided Uic
owners = told_by Uic ℕ (λ u. u.0) (λ n. let u : Uic = record { 0 = n } in u) (λ u. refl) numbers

fids : Decided Fid
fids = told_by Fid (ℕ × ℕ) (λ f. (f.num, f.seq)) (λ p. let f : Fid = record { num = p.0; seq = p.1 } in f) (λ f. refl) (pairs ℕ ℕ numbers numbers)

texts : Decided (List ℕ)
texts = lists ℕ numbers

entries : Decided DirEnt
entries =
    told_by DirEnt (List ℕ × (ℕ × Fid)) (λ e. (e.name, (e.ver, e.fid))) (λ p. let e : DirEnt = record { name = p.0; ver = p.1.0; fid = p.1.1 } in e) (λ e. refl)
    (pairs (List ℕ) (ℕ × Fid) texts (pairs ℕ Fid numbers fids))

-- what a file is, part by part
abbrev FileParts : Type 0
FileParts = ℕ × (Uic × (Bool × (ℕ × (ℕ × (ℕ × (ℕ × (Bool × (List Block × List DirEnt))))))))

abbrev file_parts : File → FileParts
file_parts f = (f.seq, (f.owner, (f.dir, (f.clusters, (f.mark, (f.end, (f.byte, (f.marked, (f.written, f.entries)))))))))

abbrev parts_file : FileParts → File
parts_file p = record {
  seq = p.0;
  owner = p.1.0;
  dir = p.1.1.0;
  clusters = p.1.1.1.0;
  mark = p.1.1.1.1.0;
  end = p.1.1.1.1.1.0;
  byte = p.1.1.1.1.1.1.0;
  marked = p.1.1.1.1.1.1.1.0;
  written = p.1.1.1.1.1.1.1.1.0;
  entries = p.1.1.1.1.1.1.1.1.1;
}

parts_decided : Decided FileParts
parts_decided =
    pairs ℕ _ numbers (pairs Uic _ owners (pairs Bool _ bools (pairs ℕ _ numbers (pairs ℕ _ numbers (pairs ℕ _ numbers (pairs ℕ _ numbers (pairs Bool _ bools
    (pairs (List Block) (List DirEnt) (lists Block texts) (lists DirEnt entries)))))))))

files : Decided File
files = told_by File FileParts file_parts parts_file (λ f. refl) parts_decided

abbrev slot_parts : Slot → Option File × ℕ
slot_parts (Used f) = (Some f, 0)
slot_parts (Free seq) = (None, seq)

abbrev slot_by : Option File → ℕ → Slot
slot_by None seq = Free seq
slot_by (Some f) seq = Used f

abbrev parts_slot : Option File × ℕ → Slot
parts_slot p = slot_by p.0 p.1

slots_back : (s : Slot) → parts_slot (slot_parts s) ≡ s
slots_back (Used f) = refl
slots_back (Free seq) = refl

slots : Decided Slot
slots = told_by Slot (Option File × ℕ) slot_parts parts_slot slots_back (pairs (Option File) ℕ (options File files) numbers)

abbrev row_parts : QuotaRow → Uic × (ℕ × (ℕ × ℕ))
row_parts r = (r.owner, (r.usage, (r.quota, r.over)))

abbrev parts_row : Uic × (ℕ × (ℕ × ℕ)) → QuotaRow
parts_row p = record { owner = p.0; usage = p.1.0; quota = p.1.1.0; over = p.1.1.1 }

rows : Decided QuotaRow
rows = told_by QuotaRow (Uic × (ℕ × (ℕ × ℕ))) row_parts parts_row (λ r. refl) (pairs Uic _ owners (pairs ℕ _ numbers (pairs ℕ ℕ numbers numbers)))

abbrev open_parts : Open → ℕ × Mode
open_parts o = (o.file, o.mode)

abbrev parts_open : ℕ × Mode → Open
parts_open p = record { file = p.0; mode = p.1 }

opens : Decided Open
opens = told_by Open (ℕ × Mode) open_parts parts_open (λ o. refl) (pairs ℕ Mode numbers modes)

-- what a catalogue is, part by part
abbrev CatParts : Type 0
CatParts = ℕ × (ℕ × (ℕ × (ℕ × (List Slot × (List QuotaRow × (List (Option Open) × (ℕ × List Bool)))))))

abbrev cat_parts : Cat → CatParts
cat_parts c = (c.factor, (c.total, (c.reserved, (c.rows, (c.files, (c.quota, (c.opens, (c.leaked, c.leaked_numbers))))))))

abbrev parts_cat : CatParts → Cat
parts_cat p = record {
  factor = p.0;
  total = p.1.0;
  reserved = p.1.1.0;
  rows = p.1.1.1.0;
  files = p.1.1.1.1.0;
  quota = p.1.1.1.1.1.0;
  opens = p.1.1.1.1.1.1.0;
  leaked = p.1.1.1.1.1.1.1.0;
  leaked_numbers = p.1.1.1.1.1.1.1.1;
}

cat_decided : Decided CatParts
cat_decided =
    pairs ℕ _ numbers (pairs ℕ _ numbers (pairs ℕ _ numbers (pairs ℕ _ numbers (pairs (List Slot) _ (lists Slot slots) (pairs (List QuotaRow) _ (lists QuotaRow rows)
    (pairs (List (Option Open)) _ (lists (Option Open) (options Open opens)) (pairs ℕ (List Bool) numbers (lists Bool bools))))))))

pub cats : (c d : Cat) → (c ≡ d) ⊎ (c ≡ d → ⊥)
cats = told_by Cat CatParts cat_parts parts_cat (λ c. refl) cat_decided
