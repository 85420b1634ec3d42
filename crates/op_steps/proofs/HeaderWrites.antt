-- The writes of headers: which locks guard them, and what they leave.
use Rattle.std.proofs.Common.{◌≡◌, ◌≢◌, ◌∙◌, ◌≤◌, ◌<◌, ◌-◌, ◌/◌, ◌^◌, ◌++◌, ◌⊎◌, ℕ, true, false, List, [], ◌∷◌, Option, Some, None, drop, map, length, slice_get, refl, sym, ap, subst, inl, inr, arith, length-drop}
use Rattle.std.specs.Prelude.{IfSome, is_some}
use Rattle.std.proofs.lemmas.List.{take-append-drop, length-map}
use Rattle.base_words.specs.Fields.{Block}
use Rattle.base_words.specs.Lists.{Has}
use Rattle.base_words.proofs.Listing.{has_parted, has_first, has_second, has_map, has_mapped}
use Rattle.fx_header.specs.declared.slot.Hdr.{Hdr}
use Rattle.fx_header.specs.Headers.{header_read, freed}
use Rattle.fx_header.proofs.NewLemmas.{freed-reads}
use Rattle.lock_db.specs.declared.name.LockName.{LockName}
use Rattle.lock_db.specs.declared.name.LockName.TheVariants.{S}
use Rattle.plain_cat.specs.declared.cat.Cat.{Cat}
use Rattle.plain_cat.specs.declared.cat.File.{File}
use Rattle.plain_cat.specs.declared.history.Stage.{Stage}
use Rattle.plain_cat.specs.declared.history.Stage.TheVariants as stage
use Rattle.vol_parts.specs.declared.geometry.Geometry.{Geometry}
use Rattle.vol_parts.specs.declared.geometry.Part.TheVariants.{Header}
use Rattle.vol_parts.specs.Parts.{part_of}
use Rattle.vol_spell.specs.declared.owner.Owner.TheVariants.{InFile, Outside}
use Rattle.vol_spell.specs.Files.{IsFileThere}
use Rattle.vol_spell.specs.Owners.{Owners, Things, nothing}
use Rattle.vol_spell.specs.Reading.{IsFileNumber, header_place, header_block, fields_told, told_of}
use Rattle.vol_spell.specs.Spelling.{Spells}
use Rattle.vol_spell.proofs.Heads.{first_reads}
use Rattle.vol_spell.proofs.HeadSlots.{reads_fields}
use Rattle.vol_spell.proofs.Parts.{part_there, in_use}
use Rattle.vol_under.specs.UnderWay.{outs_after, stage_after}
use Rattle.op_law.specs.declared.need.PlanWrite.{PlanWrite}
use Rattle.op_law.specs.Entering.{slot_seq}
use Rattle.op_law.specs.Fits.{things}
use Rattle.op_law.specs.Freeing.{all_clusters, headers_freed}
use Rattle.op_law.specs.Headers.{slot_at, slots_seen, numbers_of, last_header, kept_headers, gone_headers, slots_freed, new_header_writes, old_header_writes, headers_grown}
use Rattle.op_law.specs.Laws.{planned, numbers_before, AreNamed, is_dir_told, KeepsRuns, NoDir, Freed, LeavesDirs, MayFill, OfFile, Given, LeavesSlots}
use Rattle.op_law.specs.Refusing.{SeenFile}
use Rattle.op_law.specs.Sizes.{cut_last_writes, cut_clusters, cut_numbers, headers_cut}
use Rattle.op_law.proofs.Naming.{header_fills}
use Rattle.op_steps.specs.Files.{file_in}
use Rattle.op_steps.specs.GoneWrites.{FreedGuards, FreedLeaves, FreedFills, FreedLeavesFew, FreedEnds, CutGuards, CutLeaves, CutFills, CutLeavesFew, CutEnds}
use Rattle.op_steps.specs.GrownWrites.{number_of, IsNewSlot, with_new, grown_numbers, GrownGuards, GrownLeaves, GrownFills, GrownKeepsOut, GrownEnds}
use Rattle.op_steps.specs.SlotWrites.{AreToHeaders}
use Rattle.op_steps.proofs.ChainFiles.{slot_whole, chain_file}
use Rattle.op_steps.proofs.ChainNumbers.{before_are, numbers_few, numbers_owned, behind_once}
use Rattle.op_steps.proofs.HeadSteps.{head_guards, head_leaves}
use Rattle.op_steps.proofs.Sequences.{sequence_low}
use Rattle.op_steps.proofs.WholeFiles.{slots_placed, numbers_are}

-- ---- where they go

-- the number of a header among these
seen_has : (g : Geometry) (seen : List (ℕ × Block)) (x : ℕ × Block) → Has seen x → Has (slots_seen g seen) (slot_at g x.0)
seen_has g seen x t = has_map (λ y. slot_at g y.0) seen x t

last_has : (g : Geometry) (x : ℕ × Block) (seen : List (ℕ × Block)) → Has (slots_seen g (x ∷ seen)) (last_header g (slot_at g x.0) x.1 seen).0
last_has g x [] = inl refl
last_has g x (y ∷ seen) = inr (last_has g y seen)

-- those of a part of these are among them
part_has : (g : Geometry) (front back all : List (ℕ × Block)) (m : ℕ) → front ++ back ≡ all → Has (slots_seen g front) m ⊎ Has (slots_seen g back) m → Has (slots_seen g all) m
part_has g front back all m e (inl t) =
    let x = has_mapped (λ y. slot_at g y.0) front m t in
    subst (λ j. Has (slots_seen g all) j) x.2 (seen_has g all x.0 (subst (λ xs. Has xs x.0) e (has_first front back x.0 x.1)))
part_has g front back all m e (inr t) =
    let x = has_mapped (λ y. slot_at g y.0) back m t in
    subst (λ j. Has (slots_seen g all) j) x.2 (seen_has g all x.0 (subst (λ xs. Has xs x.0) e (has_second front back x.0 x.1)))

both_to : (g : Geometry) (ns : List ℕ) (vs ws : List PlanWrite) → AreToHeaders g ns vs → AreToHeaders g ns ws → AreToHeaders g ns (vs ++ ws)
both_to g ns vs ws a b w t = elim (has_parted vs ws w t) [ inl u ↦ a w u | inr u ↦ b w u ]

more_to : (g : Geometry) (ns ms : List ℕ) (ws : List PlanWrite) → ((m : ℕ) → Has ns m → Has ms m) → AreToHeaders g ns ws → AreToHeaders g ms ws
more_to g ns ms ws in_ms a w t = let h = a w t in (h.0, in_ms h.0 h.1, h.2, h.3)

slots_to : (g : Geometry) (s : Stage) (qs ns : List ℕ) (seen : List (ℕ × Block)) → AreToHeaders g (slots_seen g seen) (slots_freed g s qs ns seen)
slots_to g s qs ns [] w t = absurd t
slots_to g s qs ns (x ∷ seen) w (inl e) = (slot_at g x.0, inl refl, ap (λ (u : PlanWrite). u.lock) (sym e), ap (λ (u : PlanWrite). u.lbn) (sym e))
slots_to g s qs ns (x ∷ seen) w (inr t) = let h = slots_to g s qs ns seen w t in (h.0, inr h.1, h.2, h.3)

pub freed_to : (g : Geometry) (f : SeenFile) → AreToHeaders g (numbers_of g f) (headers_freed g f)
unfolding headers_freed
freed_to g f w (inl e) = (f.num, inl refl, ap (λ (u : PlanWrite). u.lock) (sym e), ap (λ (u : PlanWrite). u.lbn) (sym e))
freed_to g f w (inr t) = let h = slots_to g stage.Freed (all_clusters g f) (numbers_of g f) f.rest w t in (h.0, inr h.1, h.2, h.3)

cut_last_to : (g : Geometry) (f : SeenFile) (kept : ℕ) (qs ns : List ℕ) (seen : List (ℕ × Block)) → AreToHeaders g (slots_seen g seen) (cut_last_writes g f kept qs ns seen)
cut_last_to g f kept qs ns [] w t = absurd t
cut_last_to g f kept qs ns (x ∷ seen) w (inl e) = ((last_header g (slot_at g x.0) x.1 seen).0, last_has g x seen, ap (λ (u : PlanWrite). u.lock) (sym e), ap (λ (u : PlanWrite). u.lbn) (sym e))
cut_last_to g f kept qs ns (x ∷ seen) w (inr none) = absurd none

pub cut_to : (g : Geometry) (f : SeenFile) (kept : ℕ) → AreToHeaders g (numbers_of g f) (headers_cut g f kept)
unfolding headers_cut
cut_to g f kept w t = by_first t where
  all : kept_headers f kept ++ gone_headers f kept ≡ f.rest
  all = take-append-drop _ f.rest

  behind : Has (cut_last_writes g f kept (cut_clusters g f kept) (cut_numbers g f kept) (kept_headers f kept) ++ slots_freed g stage.Shortened (cut_clusters g f kept) (cut_numbers g f kept) (gone_headers f kept)) w
      → (m : ℕ) × Has (numbers_of g f) m × (w.lock ≡ S m) × (w.lbn ≡ header_place g m)
  behind u =
      both_to g (numbers_of g f) (cut_last_writes g f kept (cut_clusters g f kept) (cut_numbers g f kept) (kept_headers f kept)) (slots_freed g stage.Shortened (cut_clusters g f kept) (cut_numbers g f kept) (gone_headers f kept))
      (more_to g (slots_seen g (kept_headers f kept)) (numbers_of g f) _ (λ m v. inr (part_has g (kept_headers f kept) (gone_headers f kept) f.rest m all (inl v))) (cut_last_to g f kept (cut_clusters g f kept) (cut_numbers g f kept) (kept_headers f kept)))
      (more_to g (slots_seen g (gone_headers f kept)) (numbers_of g f) _ (λ m v. inr (part_has g (kept_headers f kept) (gone_headers f kept) f.rest m all (inr v))) (slots_to g stage.Shortened (cut_clusters g f kept) (cut_numbers g f kept) (gone_headers f kept)))
      w u

  by_first : Has (headers_cut g f kept) w → (m : ℕ) × Has (numbers_of g f) m × (w.lock ≡ S m) × (w.lbn ≡ header_place g m)
  by_first (inl e) = (f.num, inl refl, ap (λ (u : PlanWrite). u.lock) (sym e), ap (λ (u : PlanWrite). u.lbn) (sym e))
  by_first (inr u) = behind u

-- what is in the first of these is in all of them
in_new : (ns : List ℕ) (new : Option (ℕ × ℕ)) (m : ℕ) → Has ns m → Has (with_new ns new) m
in_new ns None m t = t
in_new ns (Some p) m t = has_first ns (p.0 ∷ []) m t

pub grown_to : (g : Geometry) (f : SeenFile) (qs : List ℕ) (new : Option (ℕ × ℕ)) → AreToHeaders g (grown_numbers g f new) (headers_grown g f qs new)
unfolding headers_grown
grown_to g f qs new = both_to g (grown_numbers g f new) (new_header_writes g f qs new) (old_header_writes g f qs new f.rest) (by_new new) (more_to g (numbers_of g f) (grown_numbers g f new) _ (in_new (numbers_of g f) new) (by_rest f.rest)) where
  by_new : (o : Option (ℕ × ℕ)) → AreToHeaders g (with_new (numbers_of g f) o) (new_header_writes g f qs o)
  by_new None w t = absurd t
  by_new (Some p) w (inl e) = (p.0, has_second (numbers_of g f) (p.0 ∷ []) p.0 (inl refl), ap (λ (u : PlanWrite). u.lock) (sym e), ap (λ (u : PlanWrite). u.lbn) (sym e))
  by_new (Some p) w (inr none) = absurd none

  by_rest : (seen : List (ℕ × Block)) → AreToHeaders g (f.num ∷ slots_seen g seen) (old_header_writes g f qs new seen)
  by_rest [] w (inl e) = (f.num, inl refl, ap (λ (u : PlanWrite). u.lock) (sym e), ap (λ (u : PlanWrite). u.lbn) (sym e))
  by_rest [] w (inr none) = absurd none
  by_rest (x ∷ seen) w (inl e) = ((last_header g (slot_at g x.0) x.1 seen).0, inr (last_has g x seen), ap (λ (u : PlanWrite). u.lock) (sym e), ap (λ (u : PlanWrite). u.lbn) (sym e))
  by_rest (x ∷ seen) w (inr (inl e)) = (f.num, inl refl, ap (λ (u : PlanWrite). u.lock) (sym e), ap (λ (u : PlanWrite). u.lbn) (sym e))
  by_rest (x ∷ seen) w (inr (inr none)) = absurd none

-- ---- on blocks that spell a catalogue

module _ (g : Geometry) (ns : List ℕ) (ws : List PlanWrite) (x : Cat) (bs : List Block) (own : Owners) (s : Spells g bs own x) (to : AreToHeaders g ns ws) (numbers : (m : ℕ) → Has ns m → IsFileNumber g m) where
  -- each is guarded by the lock of its number
  headers_guard : (node : ℕ) (locks : List LockName) → ((m : ℕ) → Has ns m → Has locks (S m)) → AreNamed node locks g own ws
  headers_guard node locks held w t =
      let m = to w t in
      head_guards g m.0 w x bs own node locks s (numbers m.0 m.1) m.2 m.3 (held m.0 m.1) w (inl refl)

  -- leaves the runs of directories, where its slot tells none
  headers_leave : ((w : PlanWrite) → Has ws w → (m : ℕ) → Has ns m → w.lbn ≡ header_place g m → KeepsRuns (header_block g bs m) w.block) → LeavesDirs g bs ws
  headers_leave keeps w t =
      let m = to w t in
      head_leaves g m.0 w x bs own s (numbers m.0 m.1) m.3 (keeps w t m.0 m.1 m.3) w (inl refl)

  -- and is to a slot that it may fill
  headers_fill : (took : Things) → ((w : PlanWrite) (m : ℕ) → Has ns m → MayFill own took m w.block) → LeavesSlots g own took ws
  headers_fill took may w t =
      let m = to w t in
      header_fills g own took m.0 w (ap (part_of g) m.3 ∙ part_there g bs own x s (Header m.0) (numbers m.0 m.1)) (may w m.0 m.1) w (inl refl)

-- ---- of a file

module _ (g : Geometry) (n : ℕ) (h : Hdr) (f : File) (x : Cat) (bs : List Block) (own : Owners) (s : Spells g bs own x) (there : IsFileThere g x bs n h f) where
  abbrev all_numbers : List ℕ
  all_numbers = numbers_of g (file_in g bs n h)

  file_number : (m : ℕ) → Has all_numbers m → IsFileNumber g m × (slice_get own.numbers (m - 1) ≡ Some (InFile n))
  file_number m t = (numbers_owned g bs own x n h s there.number there.reads m).0 (subst (λ is. Has is m) (numbers_are g bs n h there.reads) t)

  -- a slot of the file that is not its first one tells no file
  told_first : (m : ℕ) → Has all_numbers m → is_some (fields_told (header_block g bs m)) ≡ true → m ≡ n
  told_first m t used =
      let at = file_number m t in
      let both : Some (InFile m) ≡ Some (InFile n) = sym ((in_use g bs own x s m at.0).0 used) ∙ at.1 in
      cc

  no_dir_by : (m : ℕ) (o : Option Hdr) → fields_told (header_block g bs m) ≡ o → (is_some o ≡ true → is_dir_told o ≡ false) → is_dir_told (fields_told (header_block g bs m)) ≡ false
  no_dir_by m None e why = ap is_dir_told e
  no_dir_by m (Some z) e why = ap is_dir_told e ∙ why refl

  dir_is : h.dir ≡ f.dir
  dir_is = ap (λ (z : File). z.dir) (sym (chain_file g bs own x n h s there.number there.above there.reads f there.file))

  first_fields : fields_told (header_block g bs n) ≡ Some h
  first_fields = reads_fields (header_block g bs n) h there.reads

  no_dir : f.dir ≡ false → (m : ℕ) → Has all_numbers m → is_dir_told (fields_told (header_block g bs m)) ≡ false
  no_dir flat m t = no_dir_by m (fields_told (header_block g bs m)) refl (λ used.
      let same = told_first m t used in
      ap (λ j. is_dir_told (fields_told (header_block g bs j))) same ∙ ap is_dir_told first_fields ∙ dir_is ∙ flat)

  other_no_dir : (m : ℕ) → Has all_numbers m → m ≢ n → is_dir_told (fields_told (header_block g bs m)) ≡ false
  other_no_dir m t other = no_dir_by m (fields_told (header_block g bs m)) refl (λ used. absurd (other (told_first m t used)))

  few : length all_numbers ≤ 16
  few = subst (λ is. length is ≤ 16) (sym (numbers_are g bs n h there.reads)) (numbers_few g bs own x n h s there.number there.reads)

-- ---- a file that goes whole

pub freed_guards : FreedGuards
freed_guards g n h f x bs own node locks s there held =
    let sf = file_in g bs n h in
    headers_guard g (numbers_of g sf) (headers_freed g sf) x bs own s (freed_to g sf) (λ m t. (file_number g n h f x bs own s there m t).0) node locks held

pub freed_leaves : FreedLeaves
unfolding headers_freed
freed_leaves g n h f x bs own s there =
    headers_leave g (numbers_of g (file_in g bs n h)) (headers_freed g (file_in g bs n h)) x bs own s (freed_to g (file_in g bs n h)) (λ m t. (file_number g n h f x bs own s there m t).0) keeps
  where
    seq_low : h.seq < 2 ^ 16
    seq_low = subst (λ r. slot_seq r < 2 ^ 16) (first_reads (header_block g bs n) h there.reads) (sequence_low (header_block g bs n) (slot_whole g bs own x n s there.number).bytes)

    first_keeps : (w : PlanWrite) (m : ℕ) → w.block ≡ freed h.seq → KeepsRuns (header_block g bs m) w.block
    first_keeps w m e = Freed h.seq (ap header_read e ∙ freed-reads h.seq seq_low)

    -- the others' slots tell no file
    seen_other : (m : ℕ) → Has (slots_seen g (file_in g bs n h).rest) m → m ≢ n
    seen_other m t e =
        let is = drop 1 (told_of g bs n).slots in
        let u : Has is m = subst (λ js. Has js m) (slots_placed g bs is) t in
        (behind_once g bs own x n h s there.number there.reads).0 (subst (λ j. Has is j) e u)

    keeps : (w : PlanWrite) → Has (headers_freed g (file_in g bs n h)) w → (m : ℕ) → Has (numbers_of g (file_in g bs n h)) m → w.lbn ≡ header_place g m → KeepsRuns (header_block g bs m) w.block
    keeps w (inl e) m t place = first_keeps w m (ap (λ (u : PlanWrite). u.block) (sym e))
    keeps w (inr u) m t place =
        let at = slots_to g stage.Freed (all_clusters g (file_in g bs n h)) (numbers_of g (file_in g bs n h)) (file_in g bs n h).rest w u in
        let both : header_place g at.0 ≡ header_place g m = sym at.3 ∙ place in
        let same : at.0 ≡ m = omega (arith, both) in
        NoDir (other_no_dir g n h f x bs own s there m t (subst (λ j. j ≢ n) same (seen_other at.0 at.1)))

pub freed_fills : FreedFills
freed_fills g n h f x bs own took s there =
    let sf = file_in g bs n h in
    headers_fill g (numbers_of g sf) (headers_freed g sf) x bs own s (freed_to g sf) (λ m t. (file_number g n h f x bs own s there m t).0) took (λ w m t. OfFile n (file_number g n h f x bs own s there m t).1)

-- each of these writes has these numbers
few_in : (g : Geometry) (s : Stage) (qs ns : List ℕ) (seen : List (ℕ × Block)) (w : PlanWrite) → Has (slots_freed g s qs ns seen) w → (planned w).outs ≡ numbers_before ns (things qs None)
few_in g s qs ns [] w t = absurd t
few_in g s qs ns (x ∷ seen) w (inl e) = ap (λ (u : PlanWrite). (planned u).outs) (sym e)
few_in g s qs ns (x ∷ seen) w (inr t) = few_in g s qs ns seen w t

few_before : (ns qs : List ℕ) (o : Things) → o ≡ numbers_before ns (things qs None) → length ns ≤ 16 → length o.numbers ≤ 16
few_before ns qs o e few = let count : length o.numbers ≡ length ns = ap (λ (t : Things). length t.numbers) (e ∙ before_are ns qs) ∙ length-map ns (λ n. n - 1) in omega arith

pub freed_leaves_few : FreedLeavesFew
unfolding headers_freed
freed_leaves_few g n h f x bs own s there w t = by_first t where
  by_first : Has (headers_freed g (file_in g bs n h)) w → length (planned w).outs.numbers ≤ 16
  by_first (inl e) = few_before (numbers_of g (file_in g bs n h)) (all_clusters g (file_in g bs n h)) (planned w).outs (ap (λ (u : PlanWrite). (planned u).outs) (sym e)) (few g n h f x bs own s there)
  by_first (inr u) =
      few_before (numbers_of g (file_in g bs n h)) (all_clusters g (file_in g bs n h)) (planned w).outs
      (few_in g stage.Freed (all_clusters g (file_in g bs n h)) (numbers_of g (file_in g bs n h)) (file_in g bs n h).rest w u) (few g n h f x bs own s there)

-- the stage behind slots that become free is theirs
slots_end : (g : Geometry) (s : Stage) (qs ns : List ℕ) (seen : List (ℕ × Block)) → stage_after s (map planned (slots_freed g s qs ns seen)) ≡ s
slots_end g s qs ns [] = refl
slots_end g s qs ns (x ∷ seen) = slots_end g s qs ns seen

pub freed_ends : FreedEnds
unfolding headers_freed
freed_ends g f s = slots_end g stage.Freed (all_clusters g f) (numbers_of g f) f.rest

-- ---- a file that loses clusters

pub cut_guards : CutGuards
cut_guards g n h f kept x bs own node locks s there held =
    let sf = file_in g bs n h in
    headers_guard g (numbers_of g sf) (headers_cut g sf kept) x bs own s (cut_to g sf kept) (λ m t. (file_number g n h f x bs own s there m t).0) node locks held

pub cut_leaves : CutLeaves
cut_leaves g n h f kept x bs own s there flat =
    let sf = file_in g bs n h in
    headers_leave g (numbers_of g sf) (headers_cut g sf kept) x bs own s (cut_to g sf kept) (λ m t. (file_number g n h f x bs own s there m t).0) (λ w t m u place. NoDir (no_dir g n h f x bs own s there flat m u))

pub cut_fills : CutFills
cut_fills g n h f kept x bs own took s there =
    let sf = file_in g bs n h in
    headers_fill g (numbers_of g sf) (headers_cut g sf kept) x bs own s (cut_to g sf kept) (λ m t. (file_number g n h f x bs own s there m t).0) took (λ w m t. OfFile n (file_number g n h f x bs own s there m t).1)

last_outs : (g : Geometry) (f : SeenFile) (kept : ℕ) (qs ns : List ℕ) (seen : List (ℕ × Block)) (w : PlanWrite) → Has (cut_last_writes g f kept qs ns seen) w → (planned w).outs ≡ numbers_before ns (things qs None)
last_outs g f kept qs ns [] w t = absurd t
last_outs g f kept qs ns (x ∷ seen) w (inl e) = ap (λ (u : PlanWrite). (planned u).outs) (sym e)
last_outs g f kept qs ns (x ∷ seen) w (inr none) = absurd none

pub cut_leaves_few : CutLeavesFew
unfolding headers_cut
cut_leaves_few g n h f kept x bs own s there w t = by_first t where
  fewer : length (cut_numbers g (file_in g bs n h) kept) ≤ 16
  fewer =
      let rest = (file_in g bs n h).rest in
      let all : length (slots_seen g rest) ≡ length rest = length-map rest (λ y. slot_at g y.0) in
      let part : length (cut_numbers g (file_in g bs n h) kept) ≡ length (gone_headers (file_in g bs n h) kept) = length-map (gone_headers (file_in g bs n h) kept) (λ y. slot_at g y.0) in
      let left = length-drop ((kept - 1) / 77) rest in
      let most = few g n h f x bs own s there in
      omega arith

  by_part : Has (cut_last_writes g (file_in g bs n h) kept (cut_clusters g (file_in g bs n h) kept) (cut_numbers g (file_in g bs n h) kept) (kept_headers (file_in g bs n h) kept)) w
      ⊎ Has (slots_freed g stage.Shortened (cut_clusters g (file_in g bs n h) kept) (cut_numbers g (file_in g bs n h) kept) (gone_headers (file_in g bs n h) kept)) w → length (planned w).outs.numbers ≤ 16
  by_part (inl u) =
      few_before (cut_numbers g (file_in g bs n h) kept) (cut_clusters g (file_in g bs n h) kept) (planned w).outs
      (last_outs g (file_in g bs n h) kept (cut_clusters g (file_in g bs n h) kept) (cut_numbers g (file_in g bs n h) kept) (kept_headers (file_in g bs n h) kept) w u) fewer
  by_part (inr u) =
      few_before (cut_numbers g (file_in g bs n h) kept) (cut_clusters g (file_in g bs n h) kept) (planned w).outs
      (few_in g stage.Shortened (cut_clusters g (file_in g bs n h) kept) (cut_numbers g (file_in g bs n h) kept) (gone_headers (file_in g bs n h) kept) w u) fewer

  by_first : Has (headers_cut g (file_in g bs n h) kept) w → length (planned w).outs.numbers ≤ 16
  by_first (inl e) = few_before (cut_numbers g (file_in g bs n h) kept) (cut_clusters g (file_in g bs n h) kept) (planned w).outs (ap (λ (u : PlanWrite). (planned u).outs) (sym e)) fewer
  by_first (inr u) =
      by_part (has_parted (cut_last_writes g (file_in g bs n h) kept (cut_clusters g (file_in g bs n h) kept) (cut_numbers g (file_in g bs n h) kept) (kept_headers (file_in g bs n h) kept)) _ w u)

pub cut_ends : CutEnds
unfolding headers_cut
cut_ends g f kept s = by_kept (kept_headers f kept) where
  by_kept : (seen : List (ℕ × Block)) → stage_after stage.Shortened (map planned (cut_last_writes g f kept (cut_clusters g f kept) (cut_numbers g f kept) seen ++ slots_freed g stage.Shortened (cut_clusters g f kept) (cut_numbers g f kept) (gone_headers f kept))) ≡ stage.Shortened
  by_kept [] = slots_end g stage.Shortened (cut_clusters g f kept) (cut_numbers g f kept) (gone_headers f kept)
  by_kept (x ∷ seen) = slots_end g stage.Shortened (cut_clusters g f kept) (cut_numbers g f kept) (gone_headers f kept)

-- ---- a file that gets clusters

-- each number is one of the volume
new_number : (g : Geometry) (bs : List Block) (ns : List ℕ) (new : Option (ℕ × ℕ)) (P : ℕ → Type 0) → ((m : ℕ) → Has ns m → P m) → IfSome new (λ p. P p.0) → (m : ℕ) → Has (with_new ns new) m → P m
new_number g bs ns None P old one m t = old m t
new_number g bs ns (Some p) P old one m t = elim (has_parted ns (p.0 ∷ []) m t) [
  | inl u ↦ old m u
  | inr (inl e) ↦ subst P e one
  | inr (inr none) ↦ absurd none
]

each_new : (g : Geometry) (bs : List Block) (new : Option (ℕ × ℕ)) (P : ℕ → Type 0) → IfSome new (IsNewSlot g bs) → ((p : ℕ × ℕ) → new ≡ Some p → IsNewSlot g bs p → P p.0) → IfSome new (λ p. P p.0)
each_new g bs None P slot each = tt
each_new g bs (Some p) P slot each = each p refl slot

pub grown_guards : GrownGuards
grown_guards g n h f qs new x bs own node locks s there slot held =
    let sf = file_in g bs n h in
    headers_guard g (grown_numbers g sf new) (headers_grown g sf qs new) x bs own s (grown_to g sf qs new)
    (new_number g bs (numbers_of g sf) new (IsFileNumber g) (λ m t. (file_number g n h f x bs own s there m t).0) (each_new g bs new (IsFileNumber g) slot (λ p e is_new. is_new.number))) node locks held

pub grown_leaves : GrownLeaves
grown_leaves k n h f qs new x bs own on there flat slot =
    let g : Geometry = k.geometry in
    let sf = file_in g bs n h in
    let s = on.spelt in
    let NoDirs : ℕ → Type 0 = λ m. is_dir_told (fields_told (header_block g bs m)) ≡ false in
    let outside : (p : ℕ × ℕ) → new ≡ Some p → IsNewSlot g bs p → NoDirs p.0 =
    λ p e is_new.
    let at : slice_get own.numbers (p.0 - 1) ≡ Some (Outside k.node) = (on.outs.numbers.all (p.0 - 1)).1 (inl (subst (λ (o : Option (ℕ × ℕ)). Has (things qs (number_of o)).numbers (p.0 - 1)) (sym e) (inl refl))) in
    no_dir_by g n h f x bs own s there p.0 (fields_told (header_block g bs p.0)) refl
    (λ used. absurd (let both : Some (InFile p.0) ≡ Some (Outside k.node) = sym ((in_use g bs own x s p.0 is_new.number).0 used) ∙ at in cc)) in
    headers_leave g (grown_numbers g sf new) (headers_grown g sf qs new) x bs own s (grown_to g sf qs new)
    (new_number g bs (numbers_of g sf) new (IsFileNumber g) (λ m t. (file_number g n h f x bs own s there m t).0) (each_new g bs new (IsFileNumber g) slot (λ p e is_new. is_new.number)))
    (λ w t m u place. NoDir (new_number g bs (numbers_of g sf) new NoDirs (no_dir g n h f x bs own s there flat) (each_new g bs new NoDirs slot outside) m u))

pub grown_fills : GrownFills
grown_fills g n h f qs new x bs own s there slot =
    let sf = file_in g bs n h in
    let took = things qs (number_of new) in
    headers_fill g (grown_numbers g sf new) (headers_grown g sf qs new) x bs own s (grown_to g sf qs new)
    (new_number g bs (numbers_of g sf) new (IsFileNumber g) (λ m t. (file_number g n h f x bs own s there m t).0) (each_new g bs new (IsFileNumber g) slot (λ p e is_new. is_new.number))) took
    (λ w m t. new_number g bs (numbers_of g sf) new (λ j. MayFill own took j w.block) (λ j u. OfFile n (file_number g n h f x bs own s there j u).1)
    (each_new g bs new (λ j. MayFill own took j w.block) slot (λ p e is_new. Given (subst (λ (o : Option (ℕ × ℕ)). Has (things qs (number_of o)).numbers (p.0 - 1)) (sym e) (inl refl)))) m t)

pub grown_keeps_out : GrownKeepsOut
unfolding headers_grown
grown_keeps_out g f qs new w t = by_part (has_parted (new_header_writes g f qs new) (old_header_writes g f qs new f.rest) w t) where
  by_new : (o : Option (ℕ × ℕ)) → Has (new_header_writes g f qs o) w → (planned w).outs ≡ things qs (number_of o)
  by_new None u = absurd u
  by_new (Some p) (inl e) = ap (λ (v : PlanWrite). (planned v).outs) (sym e)
  by_new (Some p) (inr none) = absurd none

  by_rest : (seen : List (ℕ × Block)) → Has (old_header_writes g f qs new seen) w → ((planned w).outs ≡ nothing) ⊎ ((planned w).outs ≡ things qs (number_of new))
  by_rest [] (inl e) = inl (ap (λ (v : PlanWrite). (planned v).outs) (sym e))
  by_rest [] (inr none) = absurd none
  by_rest (x ∷ seen) (inl e) = inr (ap (λ (v : PlanWrite). (planned v).outs) (sym e))
  by_rest (x ∷ seen) (inr (inl e)) = inl (ap (λ (v : PlanWrite). (planned v).outs) (sym e))
  by_rest (x ∷ seen) (inr (inr none)) = absurd none

  by_part : Has (new_header_writes g f qs new) w ⊎ Has (old_header_writes g f qs new f.rest) w → ((planned w).outs ≡ nothing) ⊎ ((planned w).outs ≡ things qs (number_of new))
  by_part (inl u) = inr (by_new new u)
  by_part (inr u) = by_rest f.rest u

pub grown_ends : GrownEnds
unfolding headers_grown
grown_ends g f qs new s o = by_new new s o where
  by_rest : (new' : Option (ℕ × ℕ)) (seen : List (ℕ × Block)) (s' : Stage) (o' : Things) → (outs_after o' (map planned (old_header_writes g f qs new' seen)) ≡ nothing) × (stage_after s' (map planned (old_header_writes g f qs new' seen)) ≡ stage.Done)
  by_rest new' [] s' o' = (refl, refl)
  by_rest new' (x ∷ seen) s' o' = (refl, refl)

  by_new : (new' : Option (ℕ × ℕ)) (s' : Stage) (o' : Things)
      → (outs_after o' (map planned (new_header_writes g f qs new' ++ old_header_writes g f qs new' f.rest)) ≡ nothing) × (stage_after s' (map planned (new_header_writes g f qs new' ++ old_header_writes g f qs new' f.rest)) ≡ stage.Done)
  by_new None s' o' = by_rest None f.rest s' o'
  by_new (Some p) s' o' = by_rest (Some p) f.rest stage.Charged _
