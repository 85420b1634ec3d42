-- What is told of files where slots that are not kept become free.
use Rattle.std.proofs.Common.{◌≡◌, ◌∙◌, ◌<◌, ◌≤◌, ◌+◌, ◌-◌, ◌*◌, ◌/◌, ◌%◌, ◌⊎◌, ℕ, zero, suc, Bool, true, false, List, [], ◌∷◌, Some, None, length, slice_get, refl, sym, ap, subst, inl, inr, arith}
use Rattle.std.specs.Prelude.{◌==◌, ◌&&◌, ◌||◌, not, nat_le, Ok}
use Rattle.std.specs.List.{count_by, list_any}
use Rattle.std.proofs.lemmas.Bool.{cases_lt, cases_Bool}
use Rattle.base_words.specs.Fields.{Block}
use Rattle.base_words.specs.Lists.{Has}
use Rattle.base_words.proofs.Listing.{place_of}
use Rattle.fx_home.specs.declared.home.Home.{Home}
use Rattle.fx_home.specs.Homes.{IsWithinLimits}
use Rattle.fx_header.specs.declared.run.Run.{Run}
use Rattle.fx_header.specs.declared.slot.Hdr.{Hdr}
use Rattle.fx_header.specs.declared.slot.Slot.TheVariants.{Used}
use Rattle.vol_parts.specs.Chains.{Headers, as_first, held, slots_from, chain_of}
use Rattle.vol_parts.specs.ChainLaws.{IsSameSlot}
use Rattle.vol_parts.specs.Volumes.{Volume, volume, IsNumber, factor, numbers, header_at, head, fields_in, used_slot, fields, headers_of, Told, runs_with, told_with, told, runs, is_in_run, is_in_file}
use Rattle.vol_parts.specs.Fatal.{chain_fault, is_off_bounds}
use Rattle.vol_parts.proofs.Walks.{walk, walk-none, walk-begins, begins-there, slots-numbers, slots-rise, follows-parts}
use Rattle.vol_parts.proofs.Linked.{chain-stays}
use Rattle.vol_parts.proofs.Alone.{first-is, first-says, file_told}
use Rattle.vol_faults.specs.Counts.{times_in}
use Rattle.vol_faults.specs.Conditions.{has_run_off}
use Rattle.vol_sound.specs.Sound.{has_cut, times_in_cut, times_cut, is_sound, is_kept}
use Rattle.vol_sound.specs.Freeing.{HasSystem, HasSlotsFreed, IsSameTold, IsFreeing}
use Rattle.vol_sound.proofs.Cuts.{sum_less, number_of, IsCut, cut_parts, cut_from, chain_alike, IsWholeFile, whole_above, cut_whole, system_header, system_slots, system_whole, sound_parts, sound_kept, low_kept}

-- ---- the slots of one chain

-- a number whose slot is used by a header that has it
pub record IsOwn (h : Headers) (m : ℕ) : Type 0 where
  pub header : Hdr
  pub says : h.says m ≡ Some header
  pub own : header.num ≡ m

-- each header of a chain, the first of which has its number, has its number
pub slots_own : (h : Headers) (k n : ℕ) (f : Hdr) (left m : ℕ) → h.says n ≡ Some f → f.num ≡ n → Has (slots_from h k n f left) m → IsOwn h m
slots_own h zero n f left m says own t = absurd (subst (λ (ns : List ℕ). Has ns m) (walk-none h n f left) t)
slots_own h (suc k) n f left m says own t =
    elim (walk h k n f left) [
      | inl g ↦
          elim (subst (λ (ns : List ℕ). Has ns m) g.slots t) [
            | inl same ↦ subst (λ (j : ℕ). IsOwn h j) same (record { header = f; says = says; own = own })
            | inr u ↦ slots_own h k f.ext g.next (left - held h n) m g.is.says (follows-parts f g.next g.is.after).number u
          ]
      | inr e ↦
          elim (subst (λ (ns : List ℕ). Has ns m) e.slots t) [
            | inl same ↦ subst (λ (j : ℕ). IsOwn h j) same (record { header = f; says = says; own = own })
            | inr none ↦ absurd none
          ]
    ]

-- each slot of a file's chain is one of the volume, and is used
pub record IsUsedNumber (v : Volume) (m : ℕ) : Type 0 where
  pub number : IsNumber v m
  pub header : Hdr
  pub says : used_slot v m ≡ Some header

pub chain_used : (v : Volume) (n m : ℕ) (f : Hdr) → IsNumber v n → fields v n ≡ Some f → Has (chain_of (headers_of v) n f).slots m → IsUsedNumber v m
chain_used v n m f is used t =
    let place = place_of (chain_of (headers_of v) n f).slots m t in
    let there = slots-rise (headers_of v) 16 n f f.blocks place.0 m (first-says v n f used).1 place.1 in
    let number = slots-numbers (headers_of v) 16 n f f.blocks m (record { from = is.from; to = is.to }) t in
    record { number = record { from = number.from; to = number.to }; header = there.header; says = there.says }

-- a first header is in its own chain alone
pub first_of : (v : Volume) (k n : ℕ) (x f : Hdr) → fields v k ≡ Some x → fields v n ≡ Some f → Has (chain_of (headers_of v) k x).slots n → n ≡ k
first_of v k n x f theirs mine t =
    let place = place_of (slots_from (headers_of v) 16 k x x.blocks) n t in
    let a = first-is (head v k) x theirs in
    let b = first-is (head v n) f mine in
    let there = slots-rise (headers_of v) 16 k x x.blocks place.0 n (first-says v k x theirs).1 place.1 in
    let same : Some there.header ≡ Some f = sym there.says ∙ (first-says v n f mine).1 in
    let one : there.header.seg ≡ f.seg = (let e : there.header ≡ f = cc in ap (λ (y : Hdr). y.seg) e) in
    let first : place.0 ≡ 0 = omega (arith, there.segment, one, a.1, b.1) in
    let both : Some n ≡ Some k = sym place.1 ∙ ap (slice_get (slots_from (headers_of v) 16 k x x.blocks)) first ∙ begins-there (headers_of v) 15 k x x.blocks in
    cc

-- what is told of a whole file is told by its chain
pub whole_slots : (v : Volume) (n : ℕ) (w : IsWholeFile v n) → (told v n).slots ≡ (chain_of (headers_of v) n w.header).slots
whole_slots v n w = ap (λ (t : Told). t.slots) (file_told v n w.header w.used)

pub whole_used : (v : Volume) (n m : ℕ) → IsNumber v n → IsWholeFile v n → Has (told v n).slots m → IsUsedNumber v m
whole_used v n m is w t = chain_used v n m w.header is w.used (subst (λ (ns : List ℕ). Has ns m) (whole_slots v n w) t)

-- ---- two volumes

-- a file has the same first header, the same chain, and the same is told of it
pub record IsSameChain (v p : Volume) (n : ℕ) (f : Hdr) : Type 0 where
  pub used : fields p n ≡ Some f
  pub chain : chain_of (headers_of p) n f ≡ chain_of (headers_of v) n f
  pub told : told p n ≡ told v n

-- a cluster is in a file of which the same is told
pub in_file_same : (home : Home) (xs ys : List Block) (q n : ℕ) → told (volume home ys) n ≡ told (volume home xs) n → is_in_file (volume home ys) q n ≡ is_in_file (volume home xs) q n
unfolding runs
in_file_same home xs ys q n same = ap (λ (t : Told). list_any (is_in_run home.cluster q) t.runs) same

any_same : (f g : Run → Bool) (rs : List Run) → ((r : Run) → f r ≡ g r) → list_any f rs ≡ list_any g rs
any_same f g [] same = refl
any_same f g (r ∷ rs) same = let a = same r in let b = any_same f g rs same in λ i. a i || b i

module _ (home : Home) (xs ys : List Block) (count : length ys ≡ length xs) where
  pub head_by : (n : ℕ) → header_at (volume home ys) n ≡ header_at (volume home xs) n → head (volume home ys) n ≡ head (volume home xs) n
  unfolding head
  head_by n e = rw (count, e) refl

  slot_by : (m : ℕ) → header_at (volume home ys) m ≡ header_at (volume home xs) m → IsSameSlot (headers_of (volume home xs)) (headers_of (volume home ys)) m
  slot_by m e =
      let said : used_slot (volume home ys) m ≡ used_slot (volume home xs) m = ap fields_in (head_by m e) in
      record { says = said; lists = ap (λ o. runs_with o (header_at (volume home ys) m)) said ∙ ap (runs_with (used_slot (volume home xs) m)) e }

  -- a whole file whose slots have the same blocks is told the same
  pub told_by_slots : (n : ℕ) (w : IsWholeFile (volume home xs) n) → ((m : ℕ) → Has (told (volume home xs) n).slots m → header_at (volume home ys) m ≡ header_at (volume home xs) m)
      → IsSameChain (volume home xs) (volume home ys) n w.header
  told_by_slots n w same =
      let f = w.header in
      let at : (m : ℕ) → Has (chain_of (headers_of (volume home xs)) n w.header).slots m → header_at (volume home ys) m ≡ header_at (volume home xs) m = (λ m t. same m (subst (λ (ns : List ℕ). Has ns m) (sym (whole_slots (volume home xs) n w)) t)) in
      let begins = walk-begins (headers_of (volume home xs)) 15 n f f.blocks in
      let first = at n (subst (λ (ns : List ℕ). Has ns n) (sym begins.1) (inl refl)) in
      let used : fields (volume home ys) n ≡ Some w.header = ap (λ r. fields_in (as_first r)) (head_by n first) ∙ w.used in
      let chain = chain-stays (headers_of (volume home xs)) (headers_of (volume home ys)) n f refl w.whole (λ m t. slot_by m (at m t)) in
      record {
        used = used;
        chain = chain;
        told = file_told (volume home ys) n f used ∙ ap (told_with (Ok (Used f))) chain ∙ sym (file_told (volume home xs) n f w.used);
      }

  -- the bounds of runs are those of as many blocks
  off_same : (r : Run) → is_off_bounds (volume home ys) r ≡ is_off_bounds (volume home xs) r
  unfolding is_off_bounds
  off_same r = ap (λ k. not ((r.lbn % home.cluster == 0) && ((r.count % home.cluster == 0) && nat_le (r.lbn + r.count) (home.cluster * (k / home.cluster))))) count

  pub runs_off_same : (n : ℕ) → told (volume home ys) n ≡ told (volume home xs) n → has_run_off (volume home ys) n ≡ has_run_off (volume home xs) n
  unfolding has_run_off runs
  runs_off_same n same = ap (λ (t : Told). list_any (is_off_bounds (volume home ys)) t.runs) same ∙ any_same (is_off_bounds (volume home ys)) (is_off_bounds (volume home xs)) (told (volume home xs) n).runs off_same

-- ---- slots that become free

module _ (home : Home) (old new : List Block) (within : IsWithinLimits home) (system : HasSystem (volume home old)) (freed : HasSlotsFreed home old new) where
  abbrev v : Volume
  v = volume home old

  abbrev p : Volume
  p = volume home new

  -- a slot that is used afterwards has the same block
  pub used_same : (m : ℕ) (f : Hdr) → IsNumber v m → used_slot p m ≡ Some f → header_at p m ≡ header_at v m
  used_same m f is e = elim (freed.slots m is) [
    | inl same ↦ same
    | inr gone ↦ absurd (let z : None ≡ Some f = sym (ap fields_in gone.1) ∙ e in cc)
  ]

  -- and so has one that is kept
  pub kept_same : (m : ℕ) → IsNumber v m → is_kept v m ≡ true → header_at p m ≡ header_at v m
  kept_same m is k = elim (freed.slots m is) [
    | inl same ↦ same
    | inr gone ↦ absurd (let z : true ≡ false = sym k ∙ gone.0 in cc)
  ]

  -- a whole file whose slots are kept
  stays : (n : ℕ) (w : IsWholeFile v n) → IsNumber v n → ((m : ℕ) → Has (told v n).slots m → is_kept v m ≡ true) → IsSameChain v p n w.header
  stays n w is kept = told_by_slots home old new freed.count n w (λ m t. kept_same m (whole_used v n m is w t).number (kept m t))

  low_number : (n : ℕ) → 1 ≤ n → n ≤ 11 → IsNumber v n
  low_number n a b = let f = within.files_low in record { from = a; to = (let h : n ≤ home.files = omega arith in h) }

  same_told : (n : ℕ) (f : Hdr) → fields v n ≡ Some f → IsSameChain v p n f → IsSameTold v p n
  same_told n f used h = record { fields = h.used ∙ sym used; told = h.told; chain = chain_alike v p n f used h.used refl h.chain }

  pub system_stays : (n : ℕ) → 1 ≤ n → n ≤ 11 → IsSameTold v p n
  system_stays n a b =
      let h = system_header v n (system.files.sound n a b) in
      let w : IsWholeFile v n = record { header = h.header; used = h.used; whole = system_whole v n h } in
      same_told n h.header h.used (stays n w (low_number n a b) (λ m t. elim (subst (λ (ns : List ℕ). Has ns m) (system_slots v n h) t) [ inl same ↦ low_kept v m (omega arith) | inr none ↦ absurd none ]))

  pub sound_stays : (n : ℕ) → IsNumber v n → is_sound v n ≡ true → IsSameTold v p n
  sound_stays n is s =
      let w = cut_whole v n system is (sound_parts v n s).cut in
      same_told n w.header w.used (stays n w is (λ m t. sound_kept v n m is s t))

  -- a cut that there is afterwards was there
  pub cut_was : (n : ℕ) → IsNumber v n → has_cut p n ≡ true → (has_cut v n ≡ true) × IsSameTold v p n
  cut_was n is cut = elim (cases_lt 11 n) [
    | inl above ↦ was_above above
    | inr low ↦ (system.cuts n is.from low, system_stays n is.from low)
  ] where
    c : IsCut p n
    c = cut_parts p n cut

    was_above : 11 < n → (has_cut v n ≡ true) × IsSameTold v p n
    was_above above =
        let w : IsWholeFile p n = whole_above p n c above in
        let is_p : IsNumber p n = record { from = is.from; to = is.to } in
        let h = told_by_slots home new old (sym freed.count) n w (λ m t. let u = whole_used p n m is_p w t in sym (used_same m u.header (record { from = u.number.from; to = u.number.to }) u.says)) in
        let same : w.header ≡ c.header = (let e : Some w.header ≡ Some c.header = sym w.used ∙ c.used in cc) in
        let fault : chain_fault v n ≡ chain_fault p n = chain_alike p v n w.header w.used h.used refl h.chain in (
          cut_from v n (record { header = w.header; used = h.used; own = ap (λ (x : Hdr). x.num) same ∙ c.own; chain = λ _. fault ∙ c.chain above }),
          record { fields = w.used ∙ sym h.used; told = sym h.told; chain = sym fault },
        )

  -- no cut counts more than it did
  times_less : (q n : ℕ) → IsNumber v n → times_in_cut p q n ≤ times_in_cut v q n
  unfolding times_in_cut times_in runs
  times_less q n is = by_cut (cases_Bool (has_cut p n)) where
    by_cut : (has_cut p n ≡ true) ⊎ (has_cut p n ≡ false) → times_in_cut p q n ≤ times_in_cut v q n
    by_cut (inl cut) =
        let h = cut_was n is cut in
        let same : count_by (is_in_run (factor p) q) (told p n).runs ≡ count_by (is_in_run (factor v) q) (told v n).runs = ap (λ (t : Told). count_by (is_in_run home.cluster q) t.runs) h.1.told in
        rw (cut, h.0) (omega arith)
    by_cut (inr none) = rw none (omega arith)

  pub times_stay : (q : ℕ) → times_cut p q ≤ times_cut v q
  unfolding times_cut
  times_stay q = sum_less (times_in_cut p q) (times_in_cut v q) (numbers v) (λ n t. times_less q n (number_of v n t))

  pub is_freeing : IsFreeing v p
  is_freeing = record { system = system_stays; sound = sound_stays; cuts = cut_was; times = times_stay }
