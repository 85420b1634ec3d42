-- The entry that is looked for: in the versions of a record, in the records of a block, and in the blocks of a directory.
use Rattle.std.proofs.Common.{◌≡◌, ◌+◌, ◌*◌, ◌≤◌, ◌<◌, ◌++◌, ◌&&◌, ◌||◌, Bool, true, false, cond, ℕ, zero, suc, List, [], ◌∷◌, Option, Some, None, Ok, option_map, drop, length, map, unwrap_or, refl, sym, ap, subst, ◌∙◌, arith}
use Rattle.std.specs.Prelude.{option_and_then, IsSome, not, ◌/◌, ◌-◌}
use Rattle.std.specs.List.{find}
use Rattle.std.specs.Option.{option_or}
use Rattle.std.specs.Str.{bytes_eq}
use Rattle.std.proofs.lemmas.List.{drop-drop}
use Rattle.std.proofs.lemmas.List.Folds.{find-append}
use Rattle.base_words.specs.Fields.{Block}
use Rattle.fx_dir.specs.declared.RawEnt.{RawEnt}
use Rattle.fx_dir.specs.declared.Version.{Version}
use Rattle.fx_dir.specs.Lists.{joined}
use Rattle.fx_dir.specs.Entries.{same, rises, has, fresh}
use Rattle.fx_dir.specs.Records.{name_in, record_length, head_length, is_end, is_whole, is_named, is_version, entry_in, versions_in, record_entries, records_in, if_rising, block_entries}
use Rattle.fx_dir.specs.Directory.{directory, entries_at, all_entries}
use Rattle.fx_dir.specs.Wanted.{is_of, is_wanted, wanted_in, version_of}
use Rattle.fx_dir.proofs.Meeting.{met}
use Rattle.fx_dir.proofs.Finding.{went}
use Rattle.fx_dir.proofs.Numbers.{leb_says}
use Rattle.std.specs.Prelude.{leb, ltb}
use Rattle.std.proofs.lemmas.Bool.Decides.{nat_tests}
use Rattle.fx_dir.proofs.Order.{and_cases, bytes_is, eqb_eq}

-- ---- versions

-- the first entry that passes a test
abbrev pub first_in : (RawEnt → Bool) → Option (List RawEnt) → Option RawEnt
first_in p o = option_and_then (find p) o

-- what is found among these versions is what is found from here on
pub record VersionsLeft (p : RawEnt → Bool) (all here : Option (List RawEnt)) : Type 0 where
  pub some : IsSome here
  pub same : first_in p all ≡ first_in p here

module _ (p : RawEnt → Bool) (head bytes : List ℕ) (n : ℕ) where
  abbrev here : Option (List RawEnt)
  here = versions_in head (suc n) bytes

  -- a version at which all are read is one
  pub version-here : IsSome here → is_version bytes ≡ true
  version-here h = by_test (is_version bytes) refl h where
    by_test : (t : Bool) → is_version bytes ≡ t → IsSome (cond t (option_map (λ es. entry_in head bytes ∷ es) (versions_in head n (drop 8 bytes))) None) → is_version bytes ≡ true
    by_test true e h = e
    by_test false e h = absurd (cc)

  version-first : IsSome here → (es : Option (List RawEnt)) → versions_in head n (drop 8 bytes) ≡ es → IsSome es × (first_in p here ≡ cond (p (entry_in head bytes)) (Some (entry_in head bytes)) (first_in p es))
  version-first h es e =
      let v = version-here h in
      let w : here ≡ option_map (λ fs. entry_in head bytes ∷ fs) es = rw (v, e) refl in
      by_rest es w (subst IsSome w h) where
        by_rest : (es : Option (List RawEnt)) → here ≡ option_map (λ fs. entry_in head bytes ∷ fs) es → IsSome (option_map (λ fs. entry_in head bytes ∷ fs) es)
            → IsSome es × (first_in p here ≡ cond (p (entry_in head bytes)) (Some (entry_in head bytes)) (first_in p es))
        by_rest None w k = absurd (cc)
        by_rest (Some fs) w k = (refl, ap (first_in p) w)

  pub version-found : IsSome here → p (entry_in head bytes) ≡ true → first_in p here ≡ Some (entry_in head bytes)
  version-found h t = (version-first h (versions_in head n (drop 8 bytes)) refl).1 ∙ ap (λ b. cond b (Some (entry_in head bytes)) (first_in p (versions_in head n (drop 8 bytes)))) t

  pub version-passed : IsSome here → p (entry_in head bytes) ≡ false → VersionsLeft p here (versions_in head n (drop 8 bytes))
  version-passed h t =
      let r = version-first h (versions_in head n (drop 8 bytes)) refl in
      record { some = r.0; same = r.1 ∙ ap (λ b. cond b (Some (entry_in head bytes)) (first_in p (versions_in head n (drop 8 bytes)))) t }

module _ (p : RawEnt → Bool) (all : Option (List RawEnt)) (head bytes at : List ℕ) (k n : ℕ) (a : at ≡ drop (8 * k) bytes) (left : VersionsLeft p all (versions_in head (suc n) (drop (8 * k) bytes))) where
  pub versions-found : p (entry_in head at) ≡ true → first_in p all ≡ Some (entry_in head at)
  versions-found t = left.same ∙ version-found p head (drop (8 * k) bytes) n left.some (subst (λ b. p (entry_in head b) ≡ true) a t) ∙ ap (λ b. Some (entry_in head b)) (sym a)

  pub versions-passed : p (entry_in head at) ≡ false → VersionsLeft p all (versions_in head n (drop (8 * (k + 1)) bytes))
  versions-passed t =
      let e : 8 * k + 8 ≡ 8 * (k + 1) = omega arith in
      let d : drop 8 (drop (8 * k) bytes) ≡ drop (8 * (k + 1)) bytes = drop-drop 8 (8 * k) bytes ∙ ap (λ o. drop o bytes) e in
      let r = version-passed p head (drop (8 * k) bytes) n left.some (subst (λ b. p (entry_in head b) ≡ false) a t) in
      record { some = subst (λ b. IsSome (versions_in head n b)) d r.some; same = left.same ∙ r.same ∙ ap (λ b. first_in p (versions_in head n b)) d }

-- ---- a record

ltb_says : (n m : ℕ) → ltb n m ≡ true → n < m
ltb_says n m e = grind (arith, nat_tests)

-- a record that is read leaves room for its parts, and gives the entries of its versions
pub record HasVersions (bytes : List ℕ) : Type 0 where
  pub room : record_length bytes + 2 ≤ length bytes
  pub head : head_length bytes < record_length bytes
  pub named : is_named bytes ≡ true
  pub entries : record_entries bytes ≡ versions_in bytes ((record_length bytes - head_length bytes) / 8) (drop (head_length bytes) bytes)

pub record-versions : (bytes : List ℕ) → IsSome (record_entries bytes) → HasVersions bytes
unfolding record_entries is_whole
record-versions bytes h = by_test (is_whole bytes && is_named bytes) refl h where
  by_test : (t : Bool) → (is_whole bytes && is_named bytes) ≡ t → IsSome (cond t (versions_in bytes ((record_length bytes - head_length bytes) / 8) (drop (head_length bytes) bytes)) None) → HasVersions bytes
  by_test false e h = absurd (cc)
  by_test true e h =
      let whole = (and_cases _ _ e).0 in
      let p = and_cases (leb (record_length bytes + 2) (length bytes)) _ whole in
      let q = and_cases (ltb (head_length bytes) (record_length bytes)) _ p.1 in
      record {
        room = leb_says (record_length bytes + 2) (length bytes) p.0;
        head = ltb_says (head_length bytes) (record_length bytes) q.0;
        named = (and_cases _ _ e).1;
        entries = ap (λ b. cond b (versions_in bytes ((record_length bytes - head_length bytes) / 8) (drop (head_length bytes) bytes)) None) e;
      }

module _ (name : List ℕ) (ver : ℕ) (head : List ℕ) where
  abbrev pub by_version : RawEnt → Bool
  by_version e = is_of ver e.ver

  named : (bytes : List ℕ) (t : Bool) → bytes_eq (name_in head) name ≡ t → is_wanted name ver (entry_in head bytes) ≡ (t && by_version (entry_in head bytes))
  unfolding is_wanted entry_in
  named bytes t e = ap (λ b. b && by_version (entry_in head bytes)) e

  -- under this name the version decides
  pub versions-named : (n : ℕ) (bytes : List ℕ) → bytes_eq (name_in head) name ≡ true → first_in (is_wanted name ver) (versions_in head n bytes) ≡ first_in by_version (versions_in head n bytes)
  versions-named zero bytes e = refl
  versions-named (suc n) bytes e = by_test (is_version bytes) (versions_in head n (drop 8 bytes)) (versions-named n (drop 8 bytes) e) where
    by_test : (t : Bool) (o : Option (List RawEnt)) → first_in (is_wanted name ver) o ≡ first_in by_version o
        → first_in (is_wanted name ver) (cond t (option_map (λ es. entry_in head bytes ∷ es) o) None) ≡ first_in by_version (cond t (option_map (λ es. entry_in head bytes ∷ es) o) None)
    by_test false o more = refl
    by_test true None more = refl
    by_test true (Some es) more = λ i. cond (named bytes true e i) (Some (entry_in head bytes)) (more i)

  -- and under another there is none
  pub versions-other : (n : ℕ) (bytes : List ℕ) → bytes_eq (name_in head) name ≡ false → first_in (is_wanted name ver) (versions_in head n bytes) ≡ None
  versions-other zero bytes e = refl
  versions-other (suc n) bytes e = by_test (is_version bytes) (versions_in head n (drop 8 bytes)) (versions-other n (drop 8 bytes) e) where
    by_test : (t : Bool) (o : Option (List RawEnt)) → first_in (is_wanted name ver) o ≡ None → first_in (is_wanted name ver) (cond t (option_map (λ es. entry_in head bytes ∷ es) o) None) ≡ None
    by_test false o more = refl
    by_test true None more = refl
    by_test true (Some es) more = ap (λ t. cond t (Some (entry_in head bytes)) (find (is_wanted name ver) es)) (named bytes false e) ∙ more

-- ---- the records of a block

-- what is found among all of them is what is found from here on, where at most as many come as there are bytes
pub record RecordsLeft (p : RawEnt → Bool) (all : Option (List RawEnt)) (bytes : List ℕ) : Type 0 where
  pub count : ℕ
  pub few : length bytes ≤ count
  pub some : IsSome (records_in count bytes)
  pub same : first_in p all ≡ first_in p (records_in count bytes)

-- what is behind the record that begins here
abbrev behind : List ℕ → List ℕ
behind bytes = drop (record_length bytes) bytes

module _ (p : RawEnt → Bool) (all : Option (List RawEnt)) (bytes : List ℕ) (long : 2 ≤ length bytes) where
  pub records-none : is_end bytes ≡ true → RecordsLeft p all bytes → first_in p all ≡ None
  unfolding records_in
  records-none t left = by_count left.count left.few left.same where
    by_count : (n : ℕ) → length bytes ≤ n → first_in p all ≡ first_in p (records_in n bytes) → first_in p all ≡ None
    by_count zero few same = absurd (omega arith)
    by_count (suc n) few same = same ∙ rw t refl

  module _ (t : is_end bytes ≡ false) (left : RecordsLeft p all bytes) where
    -- a record that was read, and those behind it
    record IsRead : Type 0 where
      n : ℕ
      few : length bytes ≤ suc n
      here : IsSome (record_entries bytes)
      more : IsSome (records_in n (behind bytes))
      same : first_in p all ≡ option_or (first_in p (record_entries bytes)) (first_in p (records_in n (behind bytes)))

    is_read : IsRead
    unfolding records_in
    is_read = by_count left.count left.few left.some left.same where
      by_parts : (n : ℕ) → length bytes ≤ suc n → (o r : Option (List RawEnt)) → record_entries bytes ≡ o → records_in n (behind bytes) ≡ r
          → IsSome (option_and_then (λ es. option_map (λ fs. es ++ fs) r) o) → first_in p all ≡ first_in p (option_and_then (λ es. option_map (λ fs. es ++ fs) r) o) → IsRead
      by_parts n few None r e f some same = absurd (cc)
      by_parts n few (Some es) None e f some same = absurd (cc)
      by_parts n few (Some es) (Some fs) e f some same = record {
        n = n;
        few = few;
        here = subst IsSome (sym e) refl;
        more = subst IsSome (sym f) refl;
        same = same ∙ find-append p es fs ∙ λ i. option_or (first_in p (sym e i)) (first_in p (sym f i));
      }

      by_count : (n : ℕ) → length bytes ≤ n → IsSome (records_in n bytes) → first_in p all ≡ first_in p (records_in n bytes) → IsRead
      by_count zero few some same = absurd (omega arith)
      by_count (suc n) few some same =
          let w : records_in (suc n) bytes ≡ option_and_then (λ es. option_map (λ fs. es ++ fs) (records_in n (behind bytes))) (record_entries bytes) = rw t refl in
          by_parts n few (record_entries bytes) (records_in n (behind bytes)) refl refl (subst IsSome w some) (same ∙ ap (first_in p) w)

    pub record-here : IsSome (record_entries bytes)
    record-here = is_read.here

    -- what the record tells is told
    pub record-tells : (v : Version) → option_map version_of (first_in p (record_entries bytes)) ≡ Some v → option_map version_of (first_in p all) ≡ Some v
    record-tells v f = by_found (first_in p (record_entries bytes)) refl f where
      by_found : (o : Option RawEnt) → first_in p (record_entries bytes) ≡ o → option_map version_of o ≡ Some v → option_map version_of (first_in p all) ≡ Some v
      by_found None e k = absurd (cc)
      by_found (Some x) e k = ap (option_map version_of) (is_read.same ∙ ap (λ o. option_or o (first_in p (records_in is_read.n (behind bytes)))) e) ∙ k

    none-back : (o : Option RawEnt) → option_map version_of o ≡ None → o ≡ None
    none-back None e = refl
    none-back (Some x) e = absurd (cc)

    -- and where it tells nothing, those behind it do
    pub record-passed : option_map version_of (first_in p (record_entries bytes)) ≡ None → length (behind bytes) < length bytes → RecordsLeft p all (behind bytes)
    record-passed k fewer =
        let f = none-back (first_in p (record_entries bytes)) k in
        let few = is_read.few in
        record {
          count = is_read.n;
          few = omega arith;
          some = is_read.more;
          same = is_read.same ∙ ap (λ o. option_or o (first_in p (records_in is_read.n (behind bytes)))) f;
        }

-- a block whose entries are read has records, and those are its entries
pub record-block : (b : Block) (p : RawEnt → Bool) → IsSome (block_entries b) → RecordsLeft p (Some (entries_at b)) b
unfolding block_entries
record-block b p h = by_records (records_in (length b) b) refl h where
  by_rising : (es : List RawEnt) (t : Bool) → IsSome (cond t (Some es) None) → unwrap_or (cond t (Some es) None) [] ≡ es
  by_rising es true k = refl
  by_rising es false k = absurd (cc)

  by_records : (o : Option (List RawEnt)) → records_in (length b) b ≡ o → IsSome (option_and_then if_rising o) → RecordsLeft p (Some (entries_at b)) b
  by_records None e k = absurd (cc)
  by_records (Some es) e k = record {
    count = length b;
    few = omega arith;
    some = subst IsSome (sym e) refl;
    same = ap (λ o. find p (unwrap_or (option_and_then if_rising o) [])) e ∙ ap (find p) (by_rising es (rises es) k) ∙ ap (first_in p) (sym e);
  }

-- ---- a directory

wanted-same : (name : List ℕ) (ver : ℕ) (a x : RawEnt) → same a x ≡ true → is_wanted name ver a ≡ is_wanted name ver x
unfolding same is_wanted
wanted-same name ver a x s =
    let p = and_cases _ _ s in
    let n : a.name ≡ x.name = bytes_is a.name x.name p.0 in
    let v : a.ver ≡ x.ver = eqb_eq a.ver x.ver p.1 in
    λ i. bytes_eq (n i) name && is_of ver (v i)

module _ (name : List ℕ) (ver : ℕ) where
  abbrev p : RawEnt → Bool
  p = is_wanted name ver

  -- what was not met is met in no entry of the same name and version
  not-met : (d : List RawEnt) (a : RawEnt) → find p d ≡ None → has d a ≡ true → p a ≡ false
  not-met [] a none h = absurd (let g : false ≡ true = h in cc)
  not-met (x ∷ d) a none h = by_test (p x) refl none (λ n k. not-met d a n k) where
    by_same : (t : Bool) → same a x ≡ t → p x ≡ false → (has d a ≡ true → p a ≡ false) → p a ≡ false
    by_same true s f more = wanted-same name ver a x s ∙ f
    by_same false s f more = more (subst (λ t. (t || has d a) ≡ true) s h)

    by_test : (t : Bool) → p x ≡ t → cond t (Some x) (find p d) ≡ None → (find p d ≡ None → has d a ≡ true → p a ≡ false) → p a ≡ false
    by_test true e n more = absurd (cc)
    by_test false e n more = by_same (same a x) refl e (more n)

  find-fresh : (d fs : List RawEnt) → find p d ≡ None → find p (fresh d fs) ≡ find p fs
  find-fresh d [] none = refl
  find-fresh d (a ∷ fs) none = by_has (has d a) refl (find-fresh d fs none) where
    by_has : (t : Bool) → has d a ≡ t → find p (fresh d fs) ≡ find p fs → find p (cond (not t) (a ∷ fresh d fs) (fresh d fs)) ≡ cond (p a) (Some a) (find p fs)
    by_has true e more = more ∙ ap (λ b. cond b (Some a) (find p fs)) (sym (not-met d a none e))
    by_has false e more = ap (λ o. cond (p a) (Some a) o) more

  or-none : (o : Option RawEnt) → option_or o None ≡ o
  or-none None = refl
  or-none (Some e) = refl

  find-met : (d : List RawEnt) (gs : List (List RawEnt)) → find p (met d gs) ≡ option_or (find p d) (find p (joined gs))
  find-met d [] = sym (or-none (find p d))
  find-met d (b ∷ gs) =
      find-met (d ++ fresh d b) gs ∙ ap (λ o. option_or o (find p (joined gs))) (find-append p d (fresh d b)) ∙ by_found (find p d) refl
      ∙ ap (option_or (find p d)) (sym (find-append p b (joined gs))) where
        by_found : (o : Option RawEnt) → find p d ≡ o → option_or (option_or o (find p (fresh d b))) (find p (joined gs)) ≡ option_or o (option_or (find p b) (find p (joined gs)))
        by_found (Some e) k = refl
        by_found None k = ap (λ o. option_or o (find p (joined gs))) (find-fresh d b k)

  -- the entry of a directory is that of the first block that has it
  pub wanted-directory : (bs : List Block) (es : List RawEnt) → directory bs ≡ Ok es → wanted_in name ver es ≡ wanted_in name ver (all_entries bs)
  wanted-directory bs es h = let w = went 1 [] bs es refl h in ap (find p) (sym w.entries) ∙ find-met [] (map entries_at bs)
