-- The headers of a file behind its first one, on blocks that spell a catalogue. Let n be the number of a file in use, and `others_told`
-- the numbers of its other headers, in order. They are linked from one to the next (`next_is`), each is a number of the volume
-- (`other_number`) that is the file's (`other_owned`), none stands twice (`others_once`) or is n (`others_apart`), the header at a place
-- says that place (`header_at`), which is the level of its lock (`slot_level`, `other_level`). There are as many as the file's clusters
-- ask for (`others_count`), at most 15 (`others_few`).
use Rattle.std.proofs.Common.{◌≡◌, ◌≤◌, ◌<◌, ◌+◌, ◌-◌, ◌*◌, ◌/◌, ◌∙◌, inl, inr, ℕ, zero, suc, List, [], ◌∷◌, Some, None, length, map, drop, slice_get, refl, sym, ap, subst, arith}
use Rattle.std.specs.Prelude.{Result, Ok, Err}
use Rattle.base_words.specs.Fields.{Block}
use Rattle.base_words.specs.Lists.{Has, Once}
use Rattle.base_words.proofs.Listing.{has_at}
use Rattle.fx_header.specs.declared.slot.Hdr.{Hdr}
use Rattle.fx_header.specs.declared.slot.HeaderFault.{HeaderFault}
use Rattle.fx_header.specs.declared.slot.Slot.{Slot as Head}
use Rattle.fx_header.specs.declared.slot.Slot.TheVariants.{Free, Used}
use Rattle.fx_header.specs.Headers.{header_read}
use Rattle.lock_db.specs.declared.name.LockName.TheVariants.{S}
use Rattle.plain_cat.specs.declared.cat.Cat.{Cat}
use Rattle.plain_rules.specs.Lookups.{extra}
use Rattle.vol_parts.specs.declared.geometry.Geometry.{Geometry}
use Rattle.vol_parts.specs.Chains.{Headers, held, slots_from}
use Rattle.vol_parts.specs.ChainLaws.{AreLinked}
use Rattle.vol_parts.specs.Volumes.{fields_in, chain_from}
use Rattle.vol_parts.proofs.Walks.{walk, walk-none, slots-few, slots-rise, slots-once}
use Rattle.vol_spell.specs.declared.owner.Owner.TheVariants.{InFile}
use Rattle.vol_spell.specs.Owners.{Owners}
use Rattle.vol_spell.specs.Reading.{IsFileNumber, header_block, headers_at, fields_told, told_of, clusters_told}
use Rattle.vol_spell.specs.Spelling.{IsHead, size_in, Spells}
use Rattle.vol_spell.proofs.Heads.{used_reads}
use Rattle.vol_spell.proofs.HeadSlots.{quotient}
use Rattle.vol_spell.proofs.OneHeader.{split_slots}
use Rattle.vol_spell.proofs.Parts.{told, slot_number}
use Rattle.vol_spell.proofs.Runs.{size_of_runs}
use Rattle.vol_parts.proofs.Alone.{first-is}
use Rattle.op_law.specs.Headers.{others_told, link_in, next_number}
use Rattle.op_law.specs.Order.{place_by, level_by, level}

-- ---- along the links

-- the slots of a chain behind its first one, each with what its header says, are linked behind it
pub record IsChain (hs : Headers) (n : ℕ) (f : Hdr) (slots : List ℕ) : Type 0 where
  pub others : List (ℕ × Hdr)
  pub linked : AreLinked hs f others
  pub slots_are : slots ≡ n ∷ map (λ (o : ℕ × Hdr). o.0) others

walk_linked : (hs : Headers) (k n : ℕ) (f : Hdr) (left : ℕ) → IsChain hs n f (slots_from hs (suc k) n f left)
walk_linked hs zero n f left = elim (walk hs zero n f left) [
  | inl w ↦ record { others = []; linked = tt; slots_are = w.slots ∙ ap (λ ns. n ∷ ns) (walk-none hs f.ext w.next (left - held hs n)) }
  | inr e ↦ record { others = []; linked = tt; slots_are = e.slots }
]
walk_linked hs (suc k) n f left = elim (walk hs (suc k) n f left) [
  | inl w ↦
      let behind = walk_linked hs k f.ext w.next (left - held hs n) in
      record {
        others = (f.ext, w.next) ∷ behind.others;
        linked = (w.is.number, refl, w.is.says, w.is.after, behind.linked);
        slots_are = w.slots ∙ ap (λ ns. n ∷ ns) behind.slots_are;
      }
  | inr e ↦ record { others = []; linked = tt; slots_are = e.slots }
]

-- each link leads to the next slot
links_on : (hs : Headers) (n : ℕ) (f : Hdr) (others : List (ℕ × Hdr)) (i m next : ℕ) → AreLinked hs f others → hs.says n ≡ Some f → slice_get (n ∷ map (λ (o : ℕ × Hdr). o.0) others) i ≡ Some m
    → slice_get (map (λ (o : ℕ × Hdr). o.0) others) i ≡ Some next → link_in (hs.says m) ≡ next
links_on hs n f [] i m next linked says here there = absurd (cc)
links_on hs n f ((j, x) ∷ others) zero m next linked says here there =
    let same : n ≡ m = (let e : Some n ≡ Some m = here in cc) in
    let after : j ≡ next = (let e : Some j ≡ Some next = there in cc) in
    ap (λ k. link_in (hs.says k)) (sym same) ∙ ap link_in says ∙ linked.1 ∙ after
links_on hs n f ((j, x) ∷ others) (suc i) m next linked says here there = links_on hs j x others i m next linked.4 linked.2 here there

-- a slot with these fields is used
used_slot : (r : Result Head HeaderFault) (f : Hdr) → fields_in r ≡ Some f → r ≡ Ok (Used f)
used_slot (Ok (Used g)) f e = let same : g ≡ f = (let q : Some g ≡ Some f = e in cc) in ap (λ (x : Hdr). Ok (Used x)) same
used_slot (Ok (Free seq)) f e = absurd (let q : None ≡ Some f = e in cc)
used_slot (Err fault) f e = absurd (let q : None ≡ Some f = e in cc)

-- ---- the chain of a file

module _ (g : Geometry) (bs : List Block) (n : ℕ) (h : Hdr) (used : fields_told (header_block g bs n) ≡ Some h) where
  slots_are : (told_of g bs n).slots ≡ slots_from (headers_at g bs) 16 n h h.blocks
  slots_are = ap (λ o. (chain_from (headers_at g bs) n o).slots) used

  pub file_chain : IsChain (headers_at g bs) n h (told_of g bs n).slots
  file_chain = subst (IsChain (headers_at g bs) n h) (sym slots_are) (walk_linked (headers_at g bs) 15 n h h.blocks)

  pub says_first : (headers_at g bs).says n ≡ Some h
  says_first = ap fields_in (used_reads (header_block g bs n) h used)

  -- the file's slots are that of its number, and the others
  pub slots_begin : (told_of g bs n).slots ≡ n ∷ others_told g bs n
  slots_begin = let e = file_chain.slots_are in e ∙ ap (λ ns. n ∷ ns) (sym (ap (drop 1) e))

  pub others_are : others_told g bs n ≡ map (λ (o : ℕ × Hdr). o.0) file_chain.others
  others_are = ap (drop 1) file_chain.slots_are

  -- they are at most 15
  pub others_few : length (others_told g bs n) ≤ 15
  others_few =
      let all : length (told_of g bs n).slots ≡ suc (length (others_told g bs n)) = ap length slots_begin in
      let few : length (told_of g bs n).slots ≤ 16 = subst (λ (ns : List ℕ). length ns ≤ 16) (sym slots_are) (slots-few (headers_at g bs) 16 n h h.blocks) in
      omega arith

  all_once : Once (n ∷ others_told g bs n)
  all_once = subst (λ (ns : List ℕ). Once ns) (sym slots_are ∙ slots_begin) (slots-once (headers_at g bs) 16 n h h.blocks says_first)

  -- none stands twice
  pub others_once : Once (others_told g bs n)
  others_once = all_once.1

  -- none is the file's number
  pub others_apart : Has (others_told g bs n) n → ⊥
  others_apart = all_once.0

  -- the link of each header leads to the next one
  pub next_is : (i m next : ℕ) → slice_get (n ∷ others_told g bs n) i ≡ Some m → slice_get (others_told g bs n) i ≡ Some next → next_number (header_block g bs m) ≡ next
  next_is i m next here there =
      links_on (headers_at g bs) n h file_chain.others i m next file_chain.linked says_first
      (ap (λ ns. slice_get (n ∷ ns) i) (sym others_are) ∙ here) (ap (λ ns. slice_get ns i) (sym others_are) ∙ there)

-- the header of a slot that is in use: the slot's number, its place in the file
pub record IsHeaderAt (g : Geometry) (bs : List Block) (i m : ℕ) : Type 0 where
  pub fields : Hdr
  pub reads : header_read (header_block g bs m) ≡ Ok (Used fields)
  pub number : fields.num ≡ m
  pub segment : fields.seg ≡ i

module _ (g : Geometry) (bs : List Block) (own : Owners) (c : Cat) (s : Spells g bs own c) (n : ℕ) (h : Hdr) (is : IsFileNumber g n) (used : fields_told (header_block g bs n) ≡ Some h) where
  slot_of_other : (m : ℕ) → Has (others_told g bs n) m → Has (told_of g bs n).slots m
  slot_of_other m t = let Q : List ℕ → Type 0 = λ ns. Has ns m in subst Q (sym (slots_begin g bs n h used)) (inr t)

  slot_there : (i m : ℕ) → slice_get (n ∷ others_told g bs n) i ≡ Some m → Has (told_of g bs n).slots m
  slot_there i m here = let Q : List ℕ → Type 0 = λ ns. Has ns m in subst Q (sym (slots_begin g bs n h used)) (has_at (n ∷ others_told g bs n) i m here)

  -- each is a number of the volume
  pub other_number : (m : ℕ) → Has (others_told g bs n) m → IsFileNumber g m
  other_number m t = slot_number g bs own c s n m is (slot_of_other m t)

  -- and the file's
  pub other_owned : (m : ℕ) → Has (others_told g bs n) m → slice_get own.numbers (m - 1) ≡ Some (InFile n)
  other_owned m t = (((told g bs own c s n is).slots m).0 (slot_of_other m t)).1

  -- the header at a place of the file, which counts from 0, says so
  pub header_at : (i m : ℕ) → slice_get (n ∷ others_told g bs n) i ≡ Some m → IsHeaderAt g bs i m
  header_at i m here =
      let place : slice_get (slots_from (headers_at g bs) 16 n h h.blocks) i ≡ Some m = ap (λ ns. slice_get ns i) (sym (slots_are g bs n h used) ∙ slots_begin g bs n h used) ∙ here in
      let segment = slots-rise (headers_at g bs) 16 n h h.blocks i m (says_first g bs n h used) place in
      let first : h.seg ≡ 0 = (first-is (header_read (header_block g bs n)) h used).1 in
      let at = segment.segment in
      let reads = used_slot (header_read (header_block g bs m)) segment.header segment.says in
      record {
        fields = segment.header;
        reads = reads;
        number = subst (IsHead m) reads (s.slots.heads m (slot_number g bs own c s n m is (slot_there i m here)));
        segment = omega arith;
      }

  -- it is the level of its lock
  pub slot_level : (i m : ℕ) → slice_get (n ∷ others_told g bs n) i ≡ Some m → level g bs own (S m) ≡ i
  slot_level i m here =
      let at = header_at i m here in
      ap (level_by (header_block g bs m)) (((told g bs own c s n is).slots m).0 (slot_there i m here)).1 ∙ ap (λ r. place_by (fields_in r)) at.reads ∙ at.segment

  pub other_level : (i m : ℕ) → slice_get (others_told g bs n) i ≡ Some m → level g bs own (S m) ≡ i + 1
  other_level i m here = let e : suc i ≡ i + 1 = omega arith in slot_level (suc i) m here ∙ e

  -- the blocks that the first header says are those of its clusters
  pub size_counted : h.blocks / g.cluster ≡ length (clusters_told g (told_of g bs n))
  size_counted =
      let t = told g bs own c s n is in
      let low = s.counts.geometry.cluster_from in
      let size = size_of_runs g (told_of g bs n).runs low t.whole ∙ t.size ∙ ap size_in used in
      ap (λ k. k / g.cluster) (sym size) ∙ quotient (length (clusters_told g (told_of g bs n))) g.cluster low

  pub size_whole : h.blocks / g.cluster * g.cluster ≡ h.blocks
  size_whole =
      let t = told g bs own c s n is in
      ap (λ k. k * g.cluster) size_counted ∙ size_of_runs g (told_of g bs n).runs s.counts.geometry.cluster_from t.whole ∙ t.size ∙ ap size_in used

  -- above number 11 there are as many other headers as the file's clusters ask for
  pub others_count : 11 < n → length (others_told g bs n) ≡ extra (h.blocks / g.cluster)
  others_count above =
      let t = told g bs own c s n is in
      let qs : List ℕ = clusters_told g (told_of g bs n) in
      let all : suc (length (others_told g bs n)) ≡ suc (extra (length qs)) =
      ap length (sym (slots_begin g bs n h used)) ∙ split_slots g bs n h used s.counts.geometry.cluster_from t.whole t.size (t.split above) in
      let same : extra (h.blocks / g.cluster) ≡ extra (length qs) = ap extra size_counted in
      omega arith

  -- which are at most 15
  pub extra_few : 11 < n → extra (h.blocks / g.cluster) ≤ 15
  extra_few above = let count = others_count above in let few = others_few g bs n h used in omega arith
