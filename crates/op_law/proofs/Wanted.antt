-- The entry of a name and version, in the blocks of a directory that were seen.
use Rattle.std.proofs.Common.{◌≡◌, ◌∙◌, ◌+◌, ◌<◌, ℕ, suc, Bool, true, false, cond, List, [], ◌∷◌, Option, Some, None, Result, Ok, Err, option_map, map, drop, length, refl, sym, ap, subst, arith, drop-cons}
use Rattle.std.specs.Prelude.{◌==◌, ◌&&◌, ◌||◌, IsOk, get_or}
use Rattle.std.specs.List.{find}
use Rattle.std.specs.Option.{option_or}
use Rattle.std.specs.Str.{bytes_eq}
use Rattle.std.proofs.lemmas.List.Folds.{find-append}
use Rattle.std.proofs.lemmas.Bool.Decides.{nat_tests}
use Rattle.base_words.specs.Fields.{Block}
use Rattle.fx_dir.specs.declared.RawEnt.{RawEnt}
use Rattle.fx_dir.specs.declared.Version.{Version}
use Rattle.fx_dir.specs.declared.DirFault.{DirFault}
use Rattle.fx_dir.specs.Lists.{Each}
use Rattle.fx_dir.specs.Records.{block_entries}
use Rattle.fx_dir.specs.Directory.{directory, entries_at, all_entries}
use Rattle.fx_dir.specs.Wanted.{is_of, is_wanted, wanted_in, version_of}
use Rattle.fx_dir.proofs.Finding.{went}
use Rattle.fx_dir.proofs.Order.{bytes_is}
use Rattle.fx_dir.proofs.Wanted.{wanted-directory}
use Rattle.plain_cat.specs.declared.entries.DirEnt.{DirEnt}
use Rattle.plain_rules.specs.Lookups.{versions, highest, first_with, entry_of}
use Rattle.vol_parts.specs.Catalogues.{plain_entry, plain_entries}
use Rattle.op_law.specs.Behind.{blocks_alone}
use Rattle.op_law.specs.Readable.{IsRead, version_told}
use Rattle.op_law.specs.Rows.{entries_seen}

-- ---- among the entries of a directory

same-number : (n : ℕ) → (n == n) ≡ true
same-number n = grind (arith, nat_tests)

module _ (name : List ℕ) (ver : ℕ) where
  abbrev named : List RawEnt → List DirEnt
  named es = versions name (map plain_entry es)

  abbrev first : List DirEnt → Option DirEnt
  first [] = None
  first (x ∷ xs) = Some x

  -- the highest version comes first
  highest-first : (xs : List DirEnt) → first_with (highest xs) xs ≡ first xs
  highest-first [] = refl
  highest-first (x ∷ xs) = ap (λ t. cond t (Some x) (first_with x.ver xs)) (same-number x.ver)

  each-version : (es : List RawEnt) → first (named es) ≡ option_map plain_entry (find (λ e. bytes_eq e.name name && (true || (e.ver == ver))) es)
  each-version [] = refl
  each-version (e ∷ es) = by_name (bytes_eq e.name name) (each-version es) where
    by_name : (t : Bool) → first (named es) ≡ option_map plain_entry (find (λ e. bytes_eq e.name name && (true || (e.ver == ver))) es)
        → first (cond t (plain_entry e ∷ named es) (named es)) ≡ option_map plain_entry (cond (t && (true || (e.ver == ver))) (Some e) (find (λ e. bytes_eq e.name name && (true || (e.ver == ver))) es))
    by_name true more = refl
    by_name false more = more

  one-version : (es : List RawEnt) → first_with ver (named es) ≡ option_map plain_entry (find (λ e. bytes_eq e.name name && (false || (e.ver == ver))) es)
  one-version [] = refl
  one-version (e ∷ es) = by_name (bytes_eq e.name name) (e.ver == ver) refl (one-version es) where
    by_name : (t u : Bool) → (e.ver == ver) ≡ u → first_with ver (named es) ≡ option_map plain_entry (find (λ e. bytes_eq e.name name && (false || (e.ver == ver))) es)
        → first_with ver (cond t (plain_entry e ∷ named es) (named es)) ≡ option_map plain_entry (cond (t && (false || u)) (Some e) (find (λ e. bytes_eq e.name name && (false || (e.ver == ver))) es))
    by_name true true k more = ap (λ b. cond b (Some (plain_entry e)) (first_with ver (named es))) k
    by_name true false k more = ap (λ b. cond b (Some (plain_entry e)) (first_with ver (named es))) k ∙ more
    by_name false u k more = more

  wanted-versions : (es : List RawEnt) → entry_of (named es) ver ≡ option_map plain_entry (wanted_in name ver es)
  unfolding is_wanted is_of
  wanted-versions es = by_zero (ver == 0) where
    by_zero : (t : Bool) → first_with (cond t (highest (named es)) ver) (named es) ≡ option_map plain_entry (find (λ e. bytes_eq e.name name && (t || (e.ver == ver))) es)
    by_zero true = highest-first (named es) ∙ each-version es
    by_zero false = one-version es

  -- an entry among the versions of a name has that name
  first-named : (k : ℕ) (es : List DirEnt) (e : DirEnt) → first_with k (versions name es) ≡ Some e → e.name ≡ name
  first-named k [] e h = absurd (cc)
  first-named k (x ∷ es) e h = by_name (bytes_eq x.name name) refl (first-named k es e) h where
    by_version : (t : Bool) → bytes_eq x.name name ≡ true → (first_with k (versions name es) ≡ Some e → e.name ≡ name) → cond t (Some x) (first_with k (versions name es)) ≡ Some e → e.name ≡ name
    by_version true n more f = let s : x ≡ e = cc in subst (λ (y : DirEnt). y.name ≡ name) s (bytes_is x.name name n)
    by_version false n more f = more f

    by_name : (t : Bool) → bytes_eq x.name name ≡ t → (first_with k (versions name es) ≡ Some e → e.name ≡ name) → first_with k (cond t (x ∷ versions name es) (versions name es)) ≡ Some e → e.name ≡ name
    by_name true n more f = by_version (x.ver == k) n more f
    by_name false n more f = more f

  pub entry-named : (es : List DirEnt) (e : DirEnt) → entry_of (versions name es) ver ≡ Some e → e.name ≡ name
  entry-named es e h = first-named (cond (ver == 0) (highest (versions name es)) ver) es e h

-- ---- in the blocks that were seen

ok-of : (r : Result (List RawEnt) DirFault) → IsOk r → (es : List RawEnt) × (r ≡ Ok es)
ok-of (Ok es) h = (es, refl)
ok-of (Err fault) h = absurd (cc)

-- each block of a directory that is read without a fault is read
pub blocks-read : (seen : List (ℕ × Block)) → IsRead seen → Each (λ b. block_entries b ≡ Some (entries_at b)) (blocks_alone seen)
blocks-read seen h = let r = ok-of (directory (blocks_alone seen)) h in (went 1 [] (blocks_alone seen) r.0 refl r.1).parsed

module _ (name : List ℕ) (ver : ℕ) (seen : List (ℕ × Block)) where
  version-same : (o : Option RawEnt) → option_map version_told (option_map plain_entry o) ≡ option_map version_of o
  version-same None = refl
  version-same (Some e) = refl

  -- the first block that has the entry decides
  pub entry-first : IsRead seen → option_map version_of (wanted_in name ver (all_entries (blocks_alone seen))) ≡ option_map version_told (entry_of (versions name (entries_seen (blocks_alone seen))) ver)
  entry-first h =
      let r = ok-of (directory (blocks_alone seen)) h in
      ap (option_map version_of) (sym (wanted-directory name ver (blocks_alone seen) r.0 r.1))
      ∙ sym (version-same (wanted_in name ver r.0)) ∙ ap (option_map version_told) (sym (wanted-versions name ver r.0))
      ∙ ap (λ q. option_map version_told (entry_of (versions name (plain_entries q)) ver)) (sym r.1)

-- the highest version, by the entry that is looked for with version 0
pub highest-seen : (vs : List DirEnt) (v : Version) → option_map version_told (entry_of vs 0) ≡ Some v → highest vs ≡ v.ver
highest-seen [] v h = absurd (cc)
highest-seen (x ∷ vs) v h =
    let t : option_map version_told (Some x) ≡ Some v = sym (ap (λ b. option_map version_told (cond b (Some x) (first_with x.ver vs))) (same-number x.ver)) ∙ h in
    let e : version_told x ≡ v = cc in
    ap (λ (w : Version). w.ver) e

pub highest-none : (vs : List DirEnt) → option_map version_told (entry_of vs 0) ≡ None → highest vs ≡ 0
highest-none [] h = refl
highest-none (x ∷ vs) h =
    let t : option_map version_told (Some x) ≡ None = sym (ap (λ b. option_map version_told (cond b (Some x) (first_with x.ver vs))) (same-number x.ver)) ∙ h in
    absurd (cc)

-- what is found in the blocks from here on is what is found in all, and each of them is read
pub record IsLeft (name : List ℕ) (ver : ℕ) (all here : List (ℕ × Block)) : Type 0 where
  pub read : Each (λ b. block_entries b ≡ Some (entries_at b)) (blocks_alone here)
  pub same : wanted_in name ver (all_entries (blocks_alone all)) ≡ wanted_in name ver (all_entries (blocks_alone here))

module _ (name : List ℕ) (ver : ℕ) (all rest : List (ℕ × Block)) (x : ℕ × Block) (left : IsLeft name ver all (x ∷ rest)) where
  here : wanted_in name ver (all_entries (blocks_alone all)) ≡ option_or (wanted_in name ver (entries_at x.1)) (wanted_in name ver (all_entries (blocks_alone rest)))
  here = left.same ∙ find-append (is_wanted name ver) (entries_at x.1) (all_entries (blocks_alone rest))

  pub block-tells : (v : Version) → option_map version_of (wanted_in name ver (entries_at x.1)) ≡ Some v → option_map version_of (wanted_in name ver (all_entries (blocks_alone all))) ≡ Some v
  block-tells v h = by_found (wanted_in name ver (entries_at x.1)) h here where
    by_found : (o : Option RawEnt) → option_map version_of o ≡ Some v → wanted_in name ver (all_entries (blocks_alone all)) ≡ option_or o (wanted_in name ver (all_entries (blocks_alone rest)))
        → option_map version_of (wanted_in name ver (all_entries (blocks_alone all))) ≡ Some v
    by_found None k e = absurd (cc)
    by_found (Some y) k e = ap (option_map version_of) e ∙ k

  pub block-passed : option_map version_of (wanted_in name ver (entries_at x.1)) ≡ None → IsLeft name ver all rest
  block-passed h = record { read = left.read.1; same = by_found (wanted_in name ver (entries_at x.1)) h here } where
    by_found : (o : Option RawEnt) → option_map version_of o ≡ None → wanted_in name ver (all_entries (blocks_alone all)) ≡ option_or o (wanted_in name ver (all_entries (blocks_alone rest)))
        → wanted_in name ver (all_entries (blocks_alone all)) ≡ wanted_in name ver (all_entries (blocks_alone rest))
    by_found None k e = e
    by_found (Some y) k e = absurd (cc)

-- the entry is told by its name and what it says besides
pub entry-told : (name : List ℕ) (ver : ℕ) (es : List DirEnt) (v : Version) → option_map version_told (entry_of (versions name es) ver) ≡ Some v
    → entry_of (versions name es) ver ≡ Some (record { name = name; ver = v.ver; fid = record { num = v.num; seq = v.seq } })
entry-told name ver es v h = by_entry (entry_of (versions name es) ver) refl h where
  by_entry : (o : Option DirEnt) → entry_of (versions name es) ver ≡ o → option_map version_told o ≡ Some v
      → entry_of (versions name es) ver ≡ Some (record { name = name; ver = v.ver; fid = record { num = v.num; seq = v.seq } })
  by_entry None e k = absurd (cc)
  by_entry (Some x) e k =
      let n : x.name ≡ name = entry-named name ver es x e in
      let t : version_told x ≡ v = cc in
      e ∙ λ i. Some (record { name = n i; ver = (t i).ver; fid = record { num = (t i).num; seq = (t i).seq } })

pub entry-missing : (o : Option DirEnt) → option_map version_told o ≡ None → o ≡ None
entry-missing None h = refl
entry-missing (Some x) h = absurd (cc)

-- the blocks from one on are it and those behind it
pub left-here : (name : List ℕ) (ver : ℕ) (all : List (ℕ × Block)) (i : ℕ) (d : ℕ × Block) → i < length all → IsLeft name ver all (drop i all) → IsLeft name ver all (get_or all i d ∷ drop (i + 1) all)
left-here name ver all i d lt left =
    let s : i + 1 ≡ suc i = omega arith in
    let e : drop i all ≡ get_or all i d ∷ drop (i + 1) all = drop-cons all i d lt ∙ λ j. get_or all i d ∷ drop (sym s j) all in
    subst (IsLeft name ver all) e left

pub left-first : (name : List ℕ) (ver : ℕ) (seen : List (ℕ × Block)) → IsRead seen → IsLeft name ver seen seen
left-first name ver seen h = record { read = blocks-read seen h; same = refl }
