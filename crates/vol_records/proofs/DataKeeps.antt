-- Where nothing is left to mend, nothing is once the data of one file have changed.
use Rattle.std.proofs.Common.{◌≡◌, ◌∙◌, ◌<◌, ◌+◌, ◌-◌, ◌++◌, ◌⊎◌, inl, inr, ℕ, zero, suc, Bool, true, false, cond, not, List, [], ◌∷◌, Some, map, get_or, set, slice_get, nat_le, refl, sym, ap, subst}
use Rattle.std.specs.Prelude.{◌&&◌}
use Rattle.std.specs.List.{sum_by, list_any}
use Rattle.std.proofs.lemmas.Bool.{cases_eq}
use Rattle.std.proofs.lemmas.List.Sums.{sum_by-cons}
use Rattle.base_words.specs.Fields.{Block}
use Rattle.base_words.specs.Lists.{Has}
use Rattle.base_words.proofs.Listing.{all_at, all_from}
use Rattle.plain_cat.specs.declared.ids.Fid.{Fid}
use Rattle.plain_cat.specs.declared.ids.Uic.{Uic}
use Rattle.plain_cat.specs.declared.entries.DirEnt.{DirEnt}
use Rattle.plain_cat.specs.declared.cat.Cat.{Cat}
use Rattle.plain_cat.specs.declared.cat.File.{File}
use Rattle.plain_cat.specs.declared.cat.Slot.{Slot}
use Rattle.plain_cat.specs.declared.cat.Slot.TheVariants.{Used, Free}
use Rattle.plain_rules.specs.declared.places.Place.{Place}
use Rattle.plain_rules.specs.Lookups.{file_at}
use Rattle.plain_rules.specs.Changes.{with_file}
use Rattle.plain_rules.specs.Accounts.{share, charge}
use Rattle.plain_rules.specs.Mending.{entries_in, places_from, places, same_fid, is_own, is_first, stays, is_empty, is_named, is_lost, is_lost_slot}
use Rattle.plain_rules.proofs.Standing.{stands_at}
use Rattle.plain_rules.proofs.Placing.{placed}
use Rattle.plain_laws.specs.Clearing.{IsUnmarked}
use Rattle.plain_laws.proofs.Standing.{number_rises, set_same, set_other, file_same, file_other, Alive}
use Rattle.plain_laws.proofs.Steps.{stays_parts, stays_from}
use Rattle.plain_mends.specs.Waiting.{IsDone}
use Rattle.plain_mends.proofs.Standing.{stays_each, all_stay}
use Rattle.plain_mends.proofs.Numbers.{no_numbers, none_passes}
use Rattle.vol_records.specs.Keeping.{with_data}

-- ---- lists

places_set : (k i : ℕ) (ss : List Slot) (s t : Slot) → slice_get ss i ≡ Some s → entries_in t ≡ entries_in s → places_from k (set ss i t) ≡ places_from k ss
places_set k i [] s t at e = refl
places_set k zero (x ∷ ss) s t at e = let same : x ≡ s = cc at in ap (λ es. map (placed k) es ++ places_from (k + 1) ss) (e ∙ ap entries_in (sym same))
places_set k (suc i) (x ∷ ss) s t at e = ap (λ ps. map (placed k) (entries_in x) ++ ps) (places_set (k + 1) i ss s t at e)

-- ---- one file

module _ (c : Cat) (n : ℕ) (f : File) (mark end byte : ℕ) (blocks : List Block) (at : file_at c n ≡ Some f) where
  abbrev pub h : File
  h = with_data f mark end byte blocks

  abbrev pub d : Cat
  d = with_file c n (with_data f mark end byte blocks)

  rises : 0 < n
  rises = number_rises c n f at

  stands : slice_get c.files (n - 1) ≡ Some (Used f)
  stands = stands_at c n f at

  pub data_at : file_at (with_file c n (with_data f mark end byte blocks)) n ≡ Some (with_data f mark end byte blocks)
  data_at = file_same c n f h at

  pub data_other : (m : ℕ) → (m ≡ n → ⊥) → file_at (with_file c n (with_data f mark end byte blocks)) m ≡ file_at c m
  data_other m other = file_other c n m (Used h) rises other

  places_same : places d ≡ places c
  places_same = places_set 1 (n - 1) c.files (Used f) (Used h) stands refl

  alive : (fid : Fid) → Alive c fid → Alive d fid
  alive fid a = by_case (cases_eq fid.num n) where
    by_case : (fid.num ≡ n) ⊎ (fid.num ≡ n → ⊥) → Alive d fid
    by_case (inl here) =
        let both : Some f ≡ Some a.file = sym at ∙ (ap (λ z. file_at c z) (sym here) ∙ a.at) in
        let same : f ≡ a.file = cc both in
        record {
          file = h;
          at = ap (λ z. file_at d z) here ∙ data_at;
          seq = ap (λ (x : File). x.seq) same ∙ a.seq;
          free = ap (λ (x : File). x.marked) same ∙ a.free;
        }
    by_case (inr other) = record { file = a.file; at = data_other fid.num other ∙ a.at; seq = a.seq; free = a.free }

  stays_still : (p : Place) → stays c p ≡ true → stays d p ≡ true
  stays_still p s =
      let r = stays_parts c p s in
      stays_from d p (alive p.entry.fid r.0) (ap (λ ps. cond (nat_le p.entry.fid.num 11) (is_own p) (is_first p ps)) places_same ∙ r.1)

  named_same : (fid : Fid) → is_named d fid ≡ is_named c fid
  named_same fid = ap (λ ps. list_any (λ (p : Place). same_fid p.entry.fid fid) ps) places_same

  -- what stands in a slot
  slot_was : (k : ℕ) (s : Slot) → slice_get (with_file c n (with_data f mark end byte blocks)).files k ≡ Some s → ((k ≡ n - 1) × (s ≡ Used (with_data f mark end byte blocks))) ⊎ (slice_get c.files k ≡ Some s)
  slot_was k s there = by_case (cases_eq k (n - 1)) where
    by_case : (k ≡ n - 1) ⊎ (k ≡ n - 1 → ⊥) → ((k ≡ n - 1) × (s ≡ Used h)) ⊎ (slice_get c.files k ≡ Some s)
    by_case (inl here) =
        let both : Some s ≡ Some (Used h) = sym there ∙ (ap (slice_get d.files) here ∙ set_same c.files (n - 1) (Used h) (Used f) stands) in
        inl (here, cc both)
    by_case (inr other) = inr (sym (set_other c.files (n - 1) k (Used h) (λ e. other (sym e))) ∙ there)

  -- ---- what it costs

  share_same : (o : Uic) (s : Slot) → share d o s ≡ share c o s
  share_same o (Free q) = refl
  share_same o (Used x) = refl

  share_set : (o : Uic) (i : ℕ) (ss : List Slot) (s t : Slot) → slice_get ss i ≡ Some s → share c o t ≡ share c o s → sum_by (share d o) (set ss i t) ≡ sum_by (share c o) ss
  share_set o i [] s t there e = refl
  share_set o zero (x ∷ ss) s t there e =
      let same : x ≡ s = cc there in
      sum_by-cons (share d o) t ss
      ∙ (ap (λ k. k + sum_by (share d o) ss) (share_same o t ∙ (e ∙ ap (share c o) (sym same)))
      ∙ (ap (λ k. share c o x + k) (shares o ss) ∙ sym (sum_by-cons (share c o) x ss)))
    where
      shares : (o : Uic) (ss : List Slot) → sum_by (share d o) ss ≡ sum_by (share c o) ss
      shares o [] = refl
      shares o (y ∷ ys) = sum_by-cons (share d o) y ys ∙ (ap (λ k. k + sum_by (share d o) ys) (share_same o y) ∙ (ap (λ k. share c o y + k) (shares o ys) ∙ sym (sum_by-cons (share c o) y ys)))
  share_set o (suc i) (x ∷ ss) s t there e =
      sum_by-cons (share d o) x (set ss i t)
      ∙ (ap (λ k. k + sum_by (share d o) (set ss i t)) (share_same o x)
      ∙ (ap (λ k. share c o x + k) (share_set o i ss s t there e) ∙ sym (sum_by-cons (share c o) x ss)))

  charge_same : (o : Uic) → charge d o ≡ charge c o
  charge_same o = share_set o (n - 1) c.files (Used f) (Used h) stands refl

  -- ---- nothing is left

  module _ (done : IsDone c) where
    no_loss : (x y : Bool) → x && not y ≡ false → x && y ≡ false → x ≡ false
    no_loss false y a b = refl
    no_loss true true a b = absurd (cc b)
    no_loss true false a b = absurd (cc a)

    kept : (k : ℕ) (x : File) → slice_get c.files k ≡ Some (Used x) → is_lost c (1 + k) x ≡ false
    kept k x there =
        no_loss (is_lost c (1 + k) x) (is_empty x) (none_passes (is_lost_slot c false) 1 c.files done.full k (Used x) there)
        (none_passes (is_lost_slot c true) 1 c.files done.empty k (Used x) there)

    lost_same : (k : ℕ) (x y : File) → x.marked ≡ y.marked → x.seq ≡ y.seq → is_lost d (1 + k) x ≡ is_lost c (1 + k) y
    lost_same k x y marks seqs =
        ap (λ b. not b && not (is_named d (record { num = 1 + k; seq = x.seq }))) marks
        ∙ (ap (λ (q : ℕ). not y.marked && not (is_named d (record { num = 1 + k; seq = q }))) seqs
        ∙ ap (λ b. not y.marked && not b) (named_same (record { num = 1 + k; seq = y.seq })))

    not_lost : (empty : Bool) (k : ℕ) (s : Slot) → slice_get d.files k ≡ Some s → is_lost_slot d empty (1 + k) s ≡ false
    not_lost empty k (Free q) there = refl
    not_lost empty k (Used x) there = by_case (slot_was k (Used x) there) where
      by_case : ((k ≡ n - 1) × (Used x ≡ Used (with_data f mark end byte blocks))) ⊎ (slice_get c.files k ≡ Some (Used x)) → is_lost_slot d empty (1 + k) (Used x) ≡ false
      by_case (inl (here, is)) =
          let same : x ≡ h = cc is in
          let old = kept k f (ap (slice_get c.files) here ∙ stands) in
          ap (λ b. b && cond empty (is_empty x) (not (is_empty x))) (lost_same k x f (ap (λ (y : File). y.marked) same) (ap (λ (y : File). y.seq) same) ∙ old)
      by_case (inr old) = ap (λ b. b && cond empty (is_empty x) (not (is_empty x))) (lost_same k x x refl refl ∙ kept k x old)

    unmarked : (k : ℕ) (s : Slot) → slice_get d.files k ≡ Some s → IsUnmarked s
    unmarked k s there = by_case (slot_was k s there) where
      by_case : ((k ≡ n - 1) × (s ≡ Used (with_data f mark end byte blocks))) ⊎ (slice_get c.files k ≡ Some s) → IsUnmarked s
      by_case (inl (here, is)) =
          let P : Slot → Type 0 = IsUnmarked in
          let old : f.marked ≡ false = all_at IsUnmarked c.files done.marks (n - 1) (Used f) stands in
          subst P (sym is) old
      by_case (inr old) = all_at IsUnmarked c.files done.marks k s old

    each_stays : (m : ℕ) (x : File) (e : DirEnt) → file_at d m ≡ Some x → Has x.entries e → stays d (record { dir = m; entry = e }) ≡ true
    each_stays m x e there has = stays_still (record { dir = m; entry = e }) (by_case (cases_eq m n)) where
      by_case : (m ≡ n) ⊎ (m ≡ n → ⊥) → stays c (record { dir = m; entry = e }) ≡ true
      by_case (inl here) =
          let both : Some x ≡ Some h = sym there ∙ (ap (λ z. file_at d z) here ∙ data_at) in
          let same : x ≡ h = cc both in
          stays_each c done.stay m f e (ap (λ z. file_at c z) here ∙ at) (subst (λ (es : List DirEnt). Has es e) (ap (λ (y : File). y.entries) same) has)
      by_case (inr other) = stays_each c done.stay m x e (sym (data_other m other) ∙ there) has

    pub data_done : IsDone (with_file c n (with_data f mark end byte blocks))
    data_done = record {
      stay = all_stay d each_stays;
      full = no_numbers (is_lost_slot d false) 1 d.files (not_lost false);
      empty = no_numbers (is_lost_slot d true) 1 d.files (not_lost true);
      marks = all_from IsUnmarked d.files unmarked;
      clusters = done.clusters;
      numbers = done.numbers;
      usage = λ k r lt. done.usage k r lt ∙ sym (charge_same (get_or c.quota k r).owner);
    }
