-- The versions of a record, the records of a block, and the blocks of a directory, gone through in turn.
use Rattle.std.proofs.Common.{◌≡◌, ◌∙◌, ◌+◌, ◌*◌, ◌<◌, ◌≤◌, ℕ, zero, suc, Bool, true, false, cond, List, [], ◌∷◌, ◌++◌, Option, Some, None, Result, Ok, Err, option_map, drop, length, get_or, unwrap_or, refl, sym, ap, subst, arith, drop-cons}
use Rattle.std.specs.Prelude.{IsSome, IsOk, option_and_then}
use Rattle.std.proofs.lemmas.List.{drop-drop}
use Rattle.base_words.specs.Fields.{Block, field}
use Rattle.fx_dir.specs.declared.RawEnt.{RawEnt}
use Rattle.fx_dir.specs.declared.DirFault.{DirFault}
use Rattle.fx_dir.specs.Lists.{Each}
use Rattle.fx_dir.specs.Entries.{before, rises}
use Rattle.fx_dir.specs.Records.{name_in, record_length, is_end, is_version, entry_in, versions_in, record_entries, records_in, if_rising, block_entries}
use Rattle.fx_dir.specs.Directory.{directory, entries_at, all_entries}
use Rattle.fx_dir.specs.Moves.{key}
use Rattle.fx_dir.proofs.Cover.{each-imp}
use Rattle.fx_dir.proofs.Finding.{went}
use Rattle.fx_dir.specs.Filling.{taken_in}
use Rattle.fx_dir.specs.Walk.{Walked, is_behind, taken_on, walked, read_in, blocks_alone, IsBlockRead}
use Rattle.fx_dir.proofs.Walks.{walked-more}

-- ---- an entry

behind_key : (o : Option RawEnt) (x : RawEnt) → is_behind o (key x.name x.ver) ≡ is_behind o x
unfolding before
behind_key None x = refl
behind_key (Some m) x = refl

-- its name and version are enough
as_key : (e : RawEnt) (w : Walked) (x : RawEnt) → taken_on e w (key x.name x.ver) ≡ taken_on e w x
unfolding taken_on taken_in before
as_key e w x = ap (λ b. cond {A = Walked} b (record { tried = taken_in e w.tried x; met = Some (key x.name x.ver) }) w) (behind_key w.met x)

-- ---- versions

pub version-step : (head bytes : List ℕ) (n : ℕ) → IsSome (versions_in head (suc n) bytes)
    → IsSome (versions_in head n (drop 8 bytes)) × (read_in (versions_in head (suc n) bytes) ≡ entry_in head bytes ∷ read_in (versions_in head n (drop 8 bytes)))
version-step head bytes n h = by_test (is_version bytes) (versions_in head n (drop 8 bytes)) h where
  by_test : (t : Bool) (o : Option (List RawEnt)) → IsSome (cond t (option_map (λ es. entry_in head bytes ∷ es) o) None)
      → IsSome o × (read_in (cond t (option_map (λ es. entry_in head bytes ∷ es) o) None) ≡ entry_in head bytes ∷ read_in o)
  by_test true (Some es) h = (refl, refl)
  by_test true None h = absurd (cc)
  by_test false o h = absurd (cc)

-- with the entries from here on all ends so
pub record VersionsLeft (e : RawEnt) (end now : Walked) (o : Option (List RawEnt)) : Type 0 where
  pub some : IsSome o
  pub same : walked e now (read_in o) ≡ end

pub versions-passed : (e : RawEnt) (end now next : Walked) (head bytes at : List ℕ) (k n : ℕ) → at ≡ drop (8 * k) bytes → VersionsLeft e end now (versions_in head (suc n) (drop (8 * k) bytes))
    → next ≡ taken_on e now (key (name_in head) (field at 0 2)) → VersionsLeft e end next (versions_in head n (drop (8 * (k + 1)) bytes))
unfolding entry_in
versions-passed e end now next head bytes at k n a left is =
    let from : List ℕ = drop (8 * k) bytes in
    let s = version-step head from n left.some in
    let step : 8 * k + 8 ≡ 8 * (k + 1) = omega arith in
    let d : drop 8 from ≡ drop (8 * (k + 1)) bytes = drop-drop 8 (8 * k) bytes ∙ ap (λ o. drop o bytes) step in
    let taken : next ≡ taken_on e now (entry_in head from) = is ∙ ap (λ b. taken_on e now (key (name_in head) (field b 0 2))) a ∙ as_key e now (entry_in head from) in
    let rest : List RawEnt = read_in (versions_in head n (drop 8 from)) in
    subst (λ b. VersionsLeft e end next (versions_in head n b)) d
    (record { some = s.0; same = ap (λ w. walked e w rest) taken ∙ ap (walked e now) (sym s.1) ∙ left.same })

-- ---- entries that are taken in turn, whatever is made of them

-- none change nothing, and those of two lists are taken as those of one
pub record TakesInTurn {A : Type 0} (feed : A → List RawEnt → A) : Type 0 where
  pub none : (now : A) → feed now [] ≡ now
  pub more : (now : A) (xs ys : List RawEnt) → feed now (xs ++ ys) ≡ feed (feed now xs) ys

pub walks : (e : RawEnt) → TakesInTurn (walked e)
walks e = record { none = λ now. refl; more = walked-more e }

-- ---- records

abbrev behind : List ℕ → List ℕ
behind bytes = drop (record_length bytes) bytes

pub record RecordsLeft {A : Type 0} (feed : A → List RawEnt → A) (end now : A) (bytes : List ℕ) : Type 0 where
  pub count : ℕ
  pub few : length bytes ≤ count
  pub some : IsSome (records_in count bytes)
  pub same : feed now (read_in (records_in count bytes)) ≡ end

-- a record, and those behind it
record IsRead (bytes : List ℕ) (all : List RawEnt) : Type 0 where
  n : ℕ
  few : length bytes ≤ suc n
  here : IsSome (record_entries bytes)
  more : IsSome (records_in n (behind bytes))
  parts : all ≡ read_in (record_entries bytes) ++ read_in (records_in n (behind bytes))

module _ (bytes : List ℕ) (long : 2 ≤ length bytes) where
  is_read : is_end bytes ≡ false → (count : ℕ) → length bytes ≤ count → IsSome (records_in count bytes) → IsRead bytes (read_in (records_in count bytes))
  unfolding records_in
  is_read t zero few some = absurd (omega arith)
  is_read t (suc n) few some =
      subst (λ o. IsRead bytes (read_in o)) (sym w) (by_parts (record_entries bytes) (records_in n (behind bytes)) refl refl (subst IsSome w some))
    where
      w : records_in (suc n) bytes ≡ option_and_then (λ es. option_map (λ fs. es ++ fs) (records_in n (behind bytes))) (record_entries bytes)
      w = rw t refl

      by_parts : (o r : Option (List RawEnt)) → record_entries bytes ≡ o → records_in n (behind bytes) ≡ r → IsSome (option_and_then (λ es. option_map (λ fs. es ++ fs) r) o)
          → IsRead bytes (read_in (option_and_then (λ es. option_map (λ fs. es ++ fs) (records_in n (behind bytes))) (record_entries bytes)))
      by_parts None r e f some = absurd (cc)
      by_parts (Some es) None e f some = absurd (cc)
      by_parts (Some es) (Some fs) e f some = record {
        n = n;
        few = few;
        here = subst IsSome (sym e) refl;
        more = subst IsSome (sym f) refl;
        parts = (λ i. read_in (option_and_then (λ xs. option_map (λ ys. xs ++ ys) (f i)) (e i))) ∙ λ i. read_in (sym e i) ++ read_in (sym f i);
      }

  module _ {A : Type 0} (feed : A → List RawEnt → A) (end now : A) (left : RecordsLeft feed end now bytes) where
    pub record-here : is_end bytes ≡ false → IsSome (record_entries bytes)
    record-here t = (is_read t left.count left.few left.some).here

    pub record-passed : is_end bytes ≡ false → (next : A) → next ≡ feed now (read_in (record_entries bytes)) → length (behind bytes) < length bytes → TakesInTurn feed → RecordsLeft feed end next (behind bytes)
    record-passed t next is fewer turn =
        let r = is_read t left.count left.few left.some in
        let few = r.few in
        let rest : List RawEnt = read_in (records_in r.n (behind bytes)) in
        record {
          count = r.n;
          few = omega arith;
          some = r.more;
          same = ap (λ w. feed w rest) is ∙ sym (turn.more now (read_in (record_entries bytes)) rest) ∙ ap (feed now) (sym r.parts) ∙ left.same;
        }

    pub records-none : is_end bytes ≡ true → TakesInTurn feed → now ≡ end
    unfolding records_in
    records-none t turn = by_count left.count left.few left.same where
      by_count : (n : ℕ) → length bytes ≤ n → feed now (read_in (records_in n bytes)) ≡ end → now ≡ end
      by_count zero few same = absurd (omega arith)
      by_count (suc n) few same =
          let none : records_in (suc n) bytes ≡ Some [] = rw t refl in
          sym (turn.none now) ∙ sym (ap (λ o. feed now (read_in o)) none) ∙ same

pub records-first : {A : Type 0} (feed : A → List RawEnt → A) (w : A) (b : Block) → IsSome (block_entries b) → RecordsLeft feed (feed w (entries_at b)) w b
unfolding block_entries
records-first feed w b h = by_records (records_in (length b) b) refl h where
  by_rising : (es : List RawEnt) (t : Bool) → IsSome (cond t (Some es) None) → unwrap_or (cond t (Some es) None) [] ≡ es
  by_rising es true k = refl
  by_rising es false k = absurd (cc)

  by_records : (o : Option (List RawEnt)) → records_in (length b) b ≡ o → IsSome (option_and_then if_rising o) → RecordsLeft feed (feed w (entries_at b)) w b
  by_records None r k = absurd (cc)
  by_records (Some es) r k = record {
    count = length b;
    few = omega arith;
    some = subst IsSome (sym r) refl;
    same = ap (λ o. feed w (read_in o)) r ∙ sym (ap (λ o. feed w (unwrap_or (option_and_then if_rising o) [])) r ∙ ap (feed w) (by_rising es (rises es) k));
  }

-- ---- blocks

pub record BlocksLeft {A : Type 0} (feed : A → List RawEnt → A) (end now : A) (seen : List (ℕ × Block)) : Type 0 where
  pub read : Each IsBlockRead (blocks_alone seen)
  pub same : feed now (all_entries (blocks_alone seen)) ≡ end

pub blocks-here : {A : Type 0} (feed : A → List RawEnt → A) (end now : A) (seen : List (ℕ × Block)) (i : ℕ) (d : ℕ × Block) → i < length seen → BlocksLeft feed end now (drop i seen) → BlocksLeft feed end now (get_or seen i d ∷ drop (i + 1) seen)
blocks-here feed end now seen i d lt left =
    let s : i + 1 ≡ suc i = omega arith in
    let split : drop i seen ≡ get_or seen i d ∷ drop (i + 1) seen = drop-cons seen i d lt ∙ λ j. get_or seen i d ∷ drop (sym s j) seen in
    subst (BlocksLeft feed end now) split left

pub blocks-passed : {A : Type 0} (feed : A → List RawEnt → A) (end now next : A) (x : ℕ × Block) (rest : List (ℕ × Block)) → BlocksLeft feed end now (x ∷ rest) → next ≡ feed now (entries_at x.1) → TakesInTurn feed → BlocksLeft feed end next rest
blocks-passed feed end now next x rest left is turn = record {
  read = left.read.1;
  same = ap (λ w. feed w (all_entries (blocks_alone rest))) is ∙ sym (turn.more now (entries_at x.1) (all_entries (blocks_alone rest))) ∙ left.same;
}

pub none_behind : (seen : List (ℕ × Block)) (i : ℕ) → length seen ≤ i → drop i seen ≡ []
none_behind [] zero le = refl
none_behind [] (suc i) le = refl
none_behind (x ∷ seen) zero le = absurd (omega arith)
none_behind (x ∷ seen) (suc i) le = none_behind seen i (omega arith)

pub blocks-none : {A : Type 0} (feed : A → List RawEnt → A) (end now : A) (seen : List (ℕ × Block)) (i : ℕ) → length seen ≤ i → BlocksLeft feed end now (drop i seen) → TakesInTurn feed → now ≡ end
blocks-none feed end now seen i le left turn = sym (turn.none now) ∙ sym (ap (λ l. feed now (all_entries (blocks_alone l))) (none_behind seen i le)) ∙ left.same

-- ---- a directory

ok-of : (r : Result (List RawEnt) DirFault) → IsOk r → (es : List RawEnt) × (r ≡ Ok es)
ok-of (Ok es) h = (es, refl)
ok-of (Err fault) h = absurd (cc)

pub blocks-read : (bs : List Block) → IsOk (directory bs) → Each IsBlockRead bs
blocks-read bs h =
    let r = ok-of (directory bs) h in
    each-imp (λ b. block_entries b ≡ Some (entries_at b)) IsBlockRead bs (λ b is. subst IsSome (sym is) refl) (went 1 [] bs r.0 refl r.1).parsed
