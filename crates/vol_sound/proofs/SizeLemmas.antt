-- The size of a system directory, where the system files are what the structure of a volume asks.
use Rattle.std.proofs.Common.{◌≡◌, ◌∙◌, ◌*◌, ◌≤◌, ◌⊎◌, ℕ, Bool, true, false, List, [], ◌∷◌, Option, None, Some, Result, Ok, Err, refl, sym, ap, subst, inl, inr, arith}
use Rattle.std.specs.Prelude.{◌==◌, ◌&&◌, ◌||◌, not, if◌then◌else◌}
use Rattle.std.proofs.lemmas.Bool.{false≢true, and_parts, eqb-true, eq-eqb, not-true, not-false}
use Rattle.fx_header.specs.declared.run.Run.{Run}
use Rattle.fx_header.specs.declared.slot.Hdr.{Hdr}
use Rattle.fx_dir.specs.declared.RawEnt.{RawEnt}
use Rattle.fx_dir.specs.declared.DirFault.{DirFault}
use Rattle.fx_dir.specs.declared.DirFault.TheVariants as dir
use Rattle.fx_dir.specs.Directory.{directory}
use Rattle.vol_parts.specs.declared.finding.Finding.{Finding}
use Rattle.vol_parts.specs.declared.finding.Finding.TheVariants as finding
use Rattle.vol_parts.specs.Volumes.{Volume, factor, fields, told, runs, body}
use Rattle.plain_rules.specs.SystemFiles.{is_system_directory}
use Rattle.vol_parts.specs.Conditions.{HasSystemFiles}
use Rattle.vol_parts.specs.Findings.{rank, subject}
use Rattle.vol_parts.specs.Fatal.{is_one_header, has_one_header, stated_clusters, are_stated, is_system_header, is_system_file, is_cluster_run, found_in, dir_test, dir_fault}
use Rattle.vol_sound.specs.Beyond.{IsBeyondIn}
use Rattle.vol_sound.specs.Ranks.{ends_after_cluster, IsBeyondOf, IsLeastBeyond}

-- ---- what a system directory is

first-run : (k : ℕ) (r : Run) → (r.count == k * 1) ≡ true → (r.count == k) ≡ true
first-run k r e = let same : r.count ≡ k * 1 = eqb-true r.count (k * 1) e in eq-eqb r.count k (omega arith)

one-run : (v : Volume) (n : ℕ) (rs : List Run) → are_stated v n (Some 1) rs ≡ true → is_cluster_run (factor v) rs ≡ true
one-run v n [] e = absurd (false≢true e)
one-run v n (r ∷ []) e = first-run (factor v) r (and_parts (r.count == factor v * 1) _ e).0
one-run v n (r ∷ q ∷ rs) e = absurd (false≢true e)

-- the size of a system directory is stated: one cluster
stated-one : (v : Volume) (n : ℕ) → (n ≡ 4) ⊎ (n ≡ 11) → stated_clusters v n ≡ Some 1
unfolding stated_clusters
stated-one v n (inl e) = rw e refl
stated-one v n (inr e) = rw e refl

-- and it is a directory
is-dir : (n : ℕ) (f : Hdr) → (n ≡ 4) ⊎ (n ≡ 11) → is_system_header n (Some f) ≡ true → f.dir ≡ true
is-dir n f is e = or_second f.dir (is_system_directory n) (system is) (and_parts _ _ (and_parts _ _ (and_parts _ _ e).1).1).0 where
  system : (n ≡ 4) ⊎ (n ≡ 11) → is_system_directory n ≡ true
  system (inl x) = rw x refl
  system (inr x) = rw x refl

  or_second : (a b : Bool) → b ≡ true → (a || not b) ≡ true → a ≡ true
  or_second true b s h = refl
  or_second false true s h = absurd (false≢true h)
  or_second false false s h = absurd (false≢true s)

-- ---- its fault

pick : {A : Type 0} (a b c d : Bool) (none some other : A) → a ≡ true → b ≡ true → c ≡ true
    → (if not a then none else if b && (c && d) then some else other) ≡ (if d then some else other)
pick a b c d none some other x y z = rw (x, y, z) refl

-- the fault of its size is that of its end
fault-is : (v : Volume) (n : ℕ) (f : Hdr) → (n ≡ 4) ⊎ (n ≡ 11) → fields v n ≡ Some f → is_system_file v n ≡ true
    → dir_fault v n ≡ (if ends_after_cluster (factor v) f then found_in n (directory (body v n)) else Some (finding.DirSize n))
unfolding dir_fault is_system_file
fault-is v n f is e system =
    let parts = and_parts (is_system_header n (fields v n)) (has_one_header (fields v n) (told v n) && are_stated v n (stated_clusters v n) (runs v n)) system in
    let later = and_parts (has_one_header (fields v n) (told v n)) (are_stated v n (stated_clusters v n) (runs v n)) parts.1 in
    let header : is_system_header n (Some f) ≡ true = subst (λ (o : Option Hdr). is_system_header n o ≡ true) e parts.0 in
    let alone : is_one_header f (told v n) ≡ true = subst (λ (o : Option Hdr). has_one_header o (told v n) ≡ true) e later.0 in
    let stated : are_stated v n (Some 1) (runs v n) ≡ true = subst (λ (o : Option ℕ). are_stated v n o (runs v n) ≡ true) (stated-one v n is) later.1 in
    ap (dir_test v n) e
    ∙ pick f.dir (is_one_header f (told v n)) (is_cluster_run (factor v) (runs v n)) (ends_after_cluster (factor v) f) None
    (found_in n (directory (body v n))) (Some (finding.DirSize n)) (is-dir n f is header) alone (one-run v n (runs v n) stated)

-- no fault of a directory's blocks is that of its size
no-size : (n : ℕ) (r : Result (List RawEnt) DirFault) → found_in n r ≡ Some (finding.DirSize n) → ⊥
no-size n (Ok es) e = cc
no-size n (Err (dir.BadRecord vbn)) e = cc
no-size n (Err dir.BadOrder) e = cc
no-size n (Err dir.Clash) e = cc
no-size n (Err dir.NoMemory) e = cc

pub ends-badly : (v : Volume) (n : ℕ) (f : Hdr) → (n ≡ 4) ⊎ (n ≡ 11) → fields v n ≡ Some f → is_system_file v n ≡ true → ends_after_cluster (factor v) f ≡ false
    → dir_fault v n ≡ Some (finding.DirSize n)
ends-badly v n f is e system bad =
    fault-is v n f is e system ∙ ap (λ (t : Bool). if t then found_in n (directory (body v n)) else Some (finding.DirSize n)) bad

pub ends-well : (v : Volume) (n : ℕ) (f : Hdr) → (n ≡ 4) ⊎ (n ≡ 11) → fields v n ≡ Some f → is_system_file v n ≡ true → ends_after_cluster (factor v) f ≡ true
    → dir_fault v n ≡ Some (finding.DirSize n) → ⊥
ends-well v n f is e system good fault =
    no-size n (directory (body v n))
    (sym (ap (λ (t : Bool). if t then found_in n (directory (body v n)) else Some (finding.DirSize n)) good) ∙ sym (fault-is v n f is e system) ∙ fault)

-- a system file has fields
pub in-use : (v : Volume) (n : ℕ) → is_system_file v n ≡ true → fields v n ≡ None → ⊥
unfolding is_system_file
in-use v n system none =
    let parts = and_parts (is_system_header n (fields v n)) (has_one_header (fields v n) (told v n) && are_stated v n (stated_clusters v n) (runs v n)) system in
    false≢true (subst (λ (o : Option Hdr). is_system_header n o ≡ true) none parts.0)

-- ---- the first

pub size-four : (v : Volume) → 11 ≤ v.home.files → dir_fault v 4 ≡ Some (finding.DirSize 4) → IsLeastBeyond v 8 (finding.DirSize 4)
size-four v most fault = record {
  rank_is = refl;
  beyond = record { fatal = (record { from = omega arith; to = omega arith }, fault); fixed = inl refl };
  least = no_less;
}
  where
    no_less : (g : Finding) → rank g ≡ 8 → IsBeyondIn v g → 4 ≤ subject g
    no_less (finding.DirSize m) r b = elim b.fixed [ inl e ↦ omega arith | inr e ↦ omega arith ]
    no_less (finding.DirRecord m) r b = absurd b.fixed
    no_less (finding.DirOrder m) r b = absurd b.fixed
    no_less (finding.DirClash m) r b = absurd b.fixed
    no_less g r b = absurd (omega arith)

-- the only one where that of directory 4 is none
only-eleven : (v : Volume) → (dir_fault v 4 ≡ Some (finding.DirSize 4) → ⊥) → (g : Finding) → rank g ≡ 8 → IsBeyondIn v g
    → (subject g ≡ 11) × (dir_fault v 11 ≡ Some (finding.DirSize 11))
only-eleven v four (finding.DirSize m) r b =
    elim b.fixed [
      | inl e ↦ absurd (four (subst (λ (k : ℕ). dir_fault v k ≡ Some (finding.DirSize k)) e b.fatal.1))
      | inr e ↦ (e, subst (λ (k : ℕ). dir_fault v k ≡ Some (finding.DirSize k)) e b.fatal.1)
    ]
only-eleven v four (finding.DirRecord m) r b = absurd b.fixed
only-eleven v four (finding.DirOrder m) r b = absurd b.fixed
only-eleven v four (finding.DirClash m) r b = absurd b.fixed
only-eleven v four g r b = absurd (omega arith)

pub size-eleven : (v : Volume) → 11 ≤ v.home.files → (dir_fault v 4 ≡ Some (finding.DirSize 4) → ⊥) → dir_fault v 11 ≡ Some (finding.DirSize 11)
    → IsLeastBeyond v 8 (finding.DirSize 11)
size-eleven v most four fault = record {
  rank_is = refl;
  beyond = record { fatal = (record { from = omega arith; to = omega arith }, fault); fixed = inr refl };
  least = λ g r b. let h = only-eleven v four g r b in omega (arith, h.0);
}

pub size-none : (v : Volume) → (dir_fault v 4 ≡ Some (finding.DirSize 4) → ⊥) → (dir_fault v 11 ≡ Some (finding.DirSize 11) → ⊥) → IsBeyondOf v 8 None
size-none v four eleven = λ g r b. eleven (only-eleven v four g r b).1

-- ---- by the test of its end

system-is : (v : Volume) (n : ℕ) → HasSystemFiles v → (n ≡ 4) ⊎ (n ≡ 11) → is_system_file v n ≡ true
system-is v n systems (inl e) = systems.sound n (omega arith) (omega arith)
system-is v n systems (inr e) = systems.sound n (omega arith) (omega arith)

pub told-badly : (v : Volume) (n : ℕ) (f : Hdr) (b : Bool) → HasSystemFiles v → (n ≡ 4) ⊎ (n ≡ 11) → fields v n ≡ Some f
    → b ≡ ends_after_cluster (factor v) f → not b ≡ true → dir_fault v n ≡ Some (finding.DirSize n)
told-badly v n f b systems is e same bad = ends-badly v n f is e (system-is v n systems is) (sym same ∙ not-true b bad)

pub told-well : (v : Volume) (n : ℕ) (f : Hdr) (b : Bool) → HasSystemFiles v → (n ≡ 4) ⊎ (n ≡ 11) → fields v n ≡ Some f
    → b ≡ ends_after_cluster (factor v) f → not b ≡ false → dir_fault v n ≡ Some (finding.DirSize n) → ⊥
told-well v n f b systems is e same good = ends-well v n f is e (system-is v n systems is) (sym same ∙ not-false b good)

pub told-none : (v : Volume) (n : ℕ) → HasSystemFiles v → (n ≡ 4) ⊎ (n ≡ 11) → fields v n ≡ None → ⊥
told-none v n systems is none = in-use v n (system-is v n systems is) none
