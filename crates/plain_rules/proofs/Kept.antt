use Rattle.std.proofs.Common.{◌≡◌, ◌≢◌, ◌==◌, ◌+◌, ◌-◌, ◌*◌, ◌≤◌, ◌<◌, ◌∙◌, ◌⊎◌, inl, inr, ℕ, Bool, true, false, cond, List, [], ◌∷◌, Option, Some, None, length, slice_get, set, get_or, refl, sym, ap, subst, arith}
use Rattle.std.proofs.lemmas.Bool.Decides.{nat_tests}
use Rattle.std.proofs.lemmas.List.{length-set, get_or-set_same, get_or-set_other}
use Rattle.std.proofs.lemmas.Option.{slice_get_within, slice_get-get_or, get_or_from_slice_get}
use Rattle.plain_cat.specs.declared.ids.Uic.{Uic}
use Rattle.plain_cat.specs.declared.entries.DirEnt.{DirEnt}
use Rattle.plain_cat.specs.declared.reply.Refusal.{Refusal}
use Rattle.plain_cat.specs.declared.cat.Cat.{Cat}
use Rattle.plain_cat.specs.declared.cat.File.{File}
use Rattle.plain_cat.specs.declared.cat.Slot.{Slot}
use Rattle.plain_cat.specs.declared.cat.Slot.TheVariants.{Used, Free}
use Rattle.plain_cat.specs.declared.cat.Open.{Open}
use Rattle.plain_rules.specs.declared.outcome.Outcome.{Outcome}
use Rattle.plain_rules.specs.Lookups.{clusters_in, file_most}
use Rattle.plain_rules.specs.Directories.{inserted}
use Rattle.plain_rules.specs.Changes.{cost, with_file, with_entries, charged, discharged, grown, cut, marked_up, written}
use Rattle.plain_rules.specs.Accounts.{share, HasRow, Accounted}
use Rattle.plain_rules.specs.Answers.{first_refusal, unless, in_directory_file, removed, entered}
use Rattle.plain_rules.specs.Replaying.{dead}
use Rattle.plain_rules.proofs.Usages.{product_le}
use Rattle.plain_rules.proofs.Accounting.{charge_accounts, discharge_accounts, same_accounts}

-- either outcome is accounted for
pub kept_if : (b : Bool) (x y : Outcome) → Accounted x.after → Accounted y.after → Accounted (cond b x y).after
kept_if true x y h k = h
kept_if false x y h k = k

pub kept_unless : (c : Cat) (r : Option Refusal) (o : Outcome) → Accounted c → (r ≡ None → Accounted o.after) → Accounted (unless c r o).after
kept_unless c None o a h = h refl
kept_unless c (Some r) o a h = a

pub kept_in : (c : Cat) (f : Option File) (next : File → Outcome) → Accounted c → ((d : File) → f ≡ Some d → Accounted (next d).after)
    → Accounted (in_directory_file c f next).after
kept_in c None next a h = a
kept_in c (Some d) next a h = kept_if d.dir (next d) _ (h d refl) a

-- no test holds
abbrev pub AreFalse : List (Bool × Refusal) → Type 0
AreFalse [] = Unit {0}
AreFalse (check ∷ checks) = (check.0 ≡ false) × AreFalse checks

pub passes : (t : Bool) (r : Refusal) (o : Option Refusal) → cond t (Some r) o ≡ None → (t ≡ false) × (o ≡ None)
passes true r o h = absurd (cc h)
passes false r o h = (refl, h)

-- nothing is refused, so no test holds
pub are_false : (checks : List (Bool × Refusal)) → first_refusal checks ≡ None → AreFalse checks
are_false [] h = tt
are_false (check ∷ checks) h = let p = passes check.0 check.1 (first_refusal checks) h in (p.0, are_false checks p.1)

pub size_at : (c : Cat) (i : ℕ) (s : Slot) → Accounted c → slice_get c.files i ≡ Some s → c.factor * clusters_in s ≤ 65536
size_at c i s a at =
    let P : Slot → Type 0 = λ x. c.factor * clusters_in x ≤ 65536 in
    subst P (get_or_from_slice_get c.files i s s at) (a.sizes i s (slice_get_within c.files i s at))

pub row_at : (c : Cat) (i : ℕ) (s : Slot) → Accounted c → slice_get c.files i ≡ Some s → HasRow c.quota s
row_at c i s a at =
    subst (HasRow c.quota) (get_or_from_slice_get c.files i s s at) (a.owners i s (slice_get_within c.files i s at))

-- what stands at a place after a write
pub get_set : (xs : List Slot) (i j : ℕ) (y x : Slot) → slice_get xs j ≡ Some x
    → (slice_get (set xs i y) j ≡ Some x) ⊎ ((i ≡ j) × (slice_get (set xs i y) j ≡ Some y))
get_set xs i j y x at = decide (i == j) refl where
  here : j < length xs
  here = slice_get_within xs j x at

  there : j < length (set xs i y)
  there = rw (length-set xs i y) here

  decide : (b : Bool) → b ≡ (i == j) → (slice_get (set xs i y) j ≡ Some x) ⊎ ((i ≡ j) × (slice_get (set xs i y) j ≡ Some y))
  decide true e =
      let same : i ≡ j = grind (arith, nat_tests) in
      let inside : i < length xs = omega (arith, same, here) in
      inr (same, slice_get-get_or (set xs i y) j x there ∙ ap Some (subst (λ (k : ℕ). get_or (set xs i y) k x ≡ y) same (get_or-set_same xs i y x inside)))
  decide false e =
      let other : j ≢ i = grind (arith, nat_tests) in
      inl (slice_get-get_or (set xs i y) j x there ∙ ap Some (get_or-set_other xs i j y x other ∙ get_or_from_slice_get xs j x x at))

-- a directory gets other entries
pub entries_keep : (c : Cat) (n : ℕ) (d : File) (es : List DirEnt) → Accounted c → slice_get c.files (n - 1) ≡ Some (Used d)
    → Accounted (with_entries c n d es)
entries_keep c n d es a at =
    same_accounts c n (Used d) (Used (record d { entries = es })) a at (size_at c (n - 1) (Used d) a at) (row_at c (n - 1) (Used d) a at) (λ p. refl)

-- a new file under a free number, with its entry in a directory
pub entered_keep : (c : Cat) (dir : ℕ) (d : File) (e : DirEnt) (f : File) (q : ℕ) → Accounted c → slice_get c.files (dir - 1) ≡ Some (Used d)
    → slice_get c.files (e.fid.num - 1) ≡ Some (Free q) → c.factor * f.clusters ≤ 65536 → HasRow c.quota (Used f)
    → Accounted (entered c dir d e f)
entered_keep c dir d e f q a at free size row =
    entries_keep next dir d (inserted e d.entries) accounts (still (get_set c.files (e.fid.num - 1) (dir - 1) (Used f) (Used d) at)) where
      next : Cat
      next = with_file (charged c f.owner (cost c f.clusters)) e.fid.num f

      accounts : Accounted next
      accounts = charge_accounts c e.fid.num (Free q) (Used f) f.owner (cost c f.clusters) a free size row (λ p. omega arith)

      still : (slice_get (set c.files (e.fid.num - 1) (Used f)) (dir - 1) ≡ Some (Used d))
          ⊎ ((e.fid.num - 1 ≡ dir - 1) × (slice_get (set c.files (e.fid.num - 1) (Used f)) (dir - 1) ≡ Some (Used f)))
          → slice_get (set c.files (e.fid.num - 1) (Used f)) (dir - 1) ≡ Some (Used d)
      still (inl h) = h
      still (inr h) =
          let both : Some (Free q) ≡ Some (Used d) = sym free ∙ (ap (slice_get c.files) h.0 ∙ at) in
          absurd (cc both)

-- a file under a number has no entry more in a directory, and what stands there costs the same
pub record Stands (c : Cat) (n : ℕ) (f : File) : Type 0 where
  pub slot : Slot
  pub at : slice_get c.files (n - 1) ≡ Some slot
  pub shares : (p : Uic) → share c p slot ≡ share c p (Used f)

pub stands_less : (c : Cat) (dir n : ℕ) (d f : File) (es : List DirEnt) → slice_get c.files (dir - 1) ≡ Some (Used d)
    → slice_get c.files (n - 1) ≡ Some (Used f) → Stands (with_entries c dir d es) n f
stands_less c dir n d f es at own = pick (get_set c.files (dir - 1) (n - 1) (Used (record d { entries = es })) (Used f) own) where
  pick : (slice_get (set c.files (dir - 1) (Used (record d { entries = es }))) (n - 1) ≡ Some (Used f))
      ⊎ ((dir - 1 ≡ n - 1) × (slice_get (set c.files (dir - 1) (Used (record d { entries = es }))) (n - 1) ≡ Some (Used (record d { entries = es }))))
      → Stands (with_entries c dir d es) n f
  pick (inl h) = record { slot = Used f; at = h; shares = λ p. refl }
  pick (inr h) =
      let both : Some (Used d) ≡ Some (Used f) = sym at ∙ (ap (slice_get c.files) h.0 ∙ own) in
      let e : d ≡ f = cc both in
      record { slot = Used (record d { entries = es }); at = h.1; shares = λ p. ap (λ (x : File). share c p (Used x)) e }

-- the file is gone
pub removed_keep : (c : Cat) (n : ℕ) (f : File) → Accounted c → Stands c n f → Accounted (removed c n f)
removed_keep c n f a s =
    discharge_accounts c n s.slot (Free f.seq) f.owner (cost c f.clusters) a s.at (omega arith) tt (λ p. let e = s.shares p in omega (arith, e))

-- the file changes, and keeps its owner and its clusters
pub file_keeps : (c : Cat) (n : ℕ) (f g : File) → Accounted c → Stands c n f → HasRow c.quota (Used f) → c.factor * f.clusters ≤ 65536
    → g.owner ≡ f.owner → g.clusters ≡ f.clusters → Accounted (with_file c n g)
file_keeps c n f g a s row size o k =
    same_accounts c n s.slot (Used g) a s.at
    (subst (λ (x : ℕ). c.factor * x ≤ 65536) (sym k) size)
    (subst (λ (x : Uic). HasRow c.quota (Used (record f { owner = x }))) (sym o) row)
    (λ p. (ap (λ (x : Uic). cond (p.0 == x.0) (cost c g.clusters) 0) o ∙ ap (λ (x : ℕ). cond (p.0 == f.owner.0) (cost c x) 0) k) ∙ sym (s.shares p))

pub stands : (c : Cat) (n : ℕ) (f : File) → slice_get c.files (n - 1) ≡ Some (Used f) → Stands c n f
stands c n f at = record { slot = Used f; at = at; shares = λ p. refl }

pub grows : (b : Bool) (f k m : ℕ) → cond b (f * (k + m) + 1) 0 ≡ cond b (f * k + 1) 0 + cond b (f * m) 0
grows true f k m = omega arith
grows false f k m = refl

-- a file gets k clusters more
pub grown_keep : (c : Cat) (n : ℕ) (f : File) (k : ℕ) → Accounted c → slice_get c.files (n - 1) ≡ Some (Used f) → f.clusters + k ≤ file_most
    → Accounted (with_file (charged c f.owner (c.factor * k)) n (grown c f k))
grown_keep c n f k a at few =
    charge_accounts c n (Used f) (Used (grown c f k)) f.owner (c.factor * k) a at
    (omega (arith, product_le c.factor (f.clusters + k) a.factor_to few)) (row_at c (n - 1) (Used f) a at)
    (λ p. grows (p.0 == f.owner.0) c.factor f.clusters k)

shrinks : (b : Bool) (f k m : ℕ) → cond b (f * (k + m) + 1) 0 ≡ cond b (f * k + 1) 0 + cond b (f * m) 0
shrinks = grows

-- a file is cut to k clusters
pub cut_keep : (c : Cat) (n : ℕ) (f : File) (k : ℕ) → Accounted c → slice_get c.files (n - 1) ≡ Some (Used f) → k ≤ f.clusters
    → Accounted (with_file (discharged c f.owner (c.factor * (f.clusters - k))) n (cut c f k))
cut_keep c n f k a at few =
    discharge_accounts c n (Used f) (Used (cut c f k)) f.owner (c.factor * (f.clusters - k)) a at
    (omega (arith, below, size_at c (n - 1) (Used f) a at)) (row_at c (n - 1) (Used f) a at)
    (λ p. ap (λ (x : ℕ). cond (p.0 == f.owner.0) (c.factor * x + 1) 0) parts ∙ shrinks (p.0 == f.owner.0) c.factor k (f.clusters - k)) where
      parts : f.clusters ≡ k + (f.clusters - k)
      parts = omega arith

      below : c.factor * k ≤ c.factor * f.clusters
      below = let e : c.factor * f.clusters ≡ c.factor * k + c.factor * (f.clusters - k) = ap (λ (x : ℕ). c.factor * x) parts ∙ (omega arith) in omega (arith, e)

-- the channels are no part of the accounts
pub opens_keep : (c : Cat) (os : List (Option Open)) → Accounted c → Accounted (record c { opens = os })
opens_keep c os a = record {
  factor_from = a.factor_from;
  factor_to = a.factor_to;
  numbers = a.numbers;
  sizes = a.sizes;
  owners = a.owners;
  usage = a.usage;
}

ended-owner : (b : Bool) (f g : File) → g.owner ≡ f.owner → (cond b g f).owner ≡ f.owner
ended-owner true f g h = h
ended-owner false f g h = refl

pub ended-clusters : (b : Bool) (f g : File) → g.clusters ≡ f.clusters → (cond b g f).clusters ≡ f.clusters
ended-clusters true f g h = h
ended-clusters false f g h = refl

pub written-owner : (f : File) (vbn : ℕ) (text : List ℕ) → (written f vbn text).owner ≡ f.owner
written-owner f vbn text = ended-owner _ (marked_up f vbn) _ refl ∙ ended-owner _ f _ refl

pub written-clusters : (f : File) (vbn : ℕ) (text : List ℕ) → (written f vbn text).clusters ≡ f.clusters
written-clusters f vbn text = ended-clusters _ (marked_up f vbn) _ refl ∙ ended-clusters _ f _ refl

-- nor are the leaks
pub dead_keeps : (c : Cat) (node clusters : ℕ) (numbers : List ℕ) → Accounted c → Accounted (dead c node clusters numbers)
unfolding dead
dead_keeps c node clusters numbers a = record {
  factor_from = a.factor_from;
  factor_to = a.factor_to;
  numbers = a.numbers;
  sizes = a.sizes;
  owners = a.owners;
  usage = a.usage;
}
