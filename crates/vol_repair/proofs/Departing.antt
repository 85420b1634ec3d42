-- The moves by which an entry of a directory goes, of blocks that spell a catalogue.
use Rattle.std.proofs.Common.{◌≡◌, ◌≤◌, ◌<◌, ◌&&◌, ◌∙◌, ◌⊎◌, inl, inr, zero, suc, ℕ, Bool, true, false, cond, List, [], ◌∷◌, Some, Result, Ok, Err, All, length, map, take, refl, sym, ap, subst, arith}
use Rattle.std.specs.Prelude.{◌==◌, ◌||◌, is_some}
use Rattle.std.specs.Str.{bytes_eq}
use Rattle.std.specs.Result.{IsOk, ForOk}
use Rattle.std.proofs.lemmas.Bool.{cases_lt}
use Rattle.std.proofs.lemmas.List.Elements.{All-nil, All-cons}
use Rattle.base_words.specs.Fields.{Block}
use Rattle.base_words.specs.Lists.{Has}
use Rattle.fx_header.specs.declared.slot.Hdr.{Hdr}
use Rattle.fx_header.specs.declared.slot.Slot.{Slot as Head}
use Rattle.fx_header.specs.declared.slot.Slot.TheVariants as head
use Rattle.fx_header.specs.declared.slot.HeaderFault.{HeaderFault}
use Rattle.fx_header.specs.Headers.{header_read}
use Rattle.fx_header.specs.Pointers.{lbns_in}
use Rattle.fx_dir.specs.declared.RawEnt.{RawEnt}
use Rattle.fx_dir.specs.declared.DirFault.{DirFault}
use Rattle.fx_dir.specs.declared.Move.{Move}
use Rattle.fx_dir.specs.Entries.{has}
use Rattle.fx_dir.specs.Directory.{directory}
use Rattle.fx_dir.specs.Moves.{key, removal, packing_writes}
use Rattle.plain_cat.specs.declared.entries.DirEnt.{DirEnt}
use Rattle.plain_cat.specs.declared.cat.Cat.{Cat}
use Rattle.plain_cat.specs.declared.cat.File.{File}
use Rattle.plain_rules.specs.declared.places.Place.{Place}
use Rattle.plain_rules.specs.Lookups.{versions, first_with}
use Rattle.plain_rules.specs.Directories.{is_entry, is_taken, without}
use Rattle.plain_rules.specs.Changes.{with_entries}
use Rattle.vol_parts.specs.declared.geometry.Geometry.{Geometry}
use Rattle.vol_parts.specs.declared.geometry.Part.TheVariants.{Header}
use Rattle.vol_parts.specs.Volumes.{fields_in}
use Rattle.vol_parts.specs.Chains.{as_first}
use Rattle.vol_parts.specs.Catalogues.{plain_entry}
use Rattle.vol_spell.specs.declared.owner.Owner.TheVariants.{InFile}
use Rattle.vol_spell.specs.Spread.{blocks_at}
use Rattle.vol_spell.specs.Reading.{IsFileNumber, header_block, header_place}
use Rattle.vol_spell.specs.Spelling.{Spells}
use Rattle.vol_spell.specs.Entries.{places_in, blocks_of, after_moves, AreMovesIn, CanBeRemoved, Leaves}
use Rattle.vol_spell.proofs.EntryDirs.{IsDirAt, dir_at, dir_lists}
use Rattle.vol_spell.proofs.EntryMoves.{moves_spelt}
use Rattle.vol_spell.proofs.EntryGoes.{entry_leaves}
use Rattle.vol_spell.proofs.RemovalLists.{is_there}
use Rattle.vol_spell.proofs.Frames.{of_body, on_volume}
use Rattle.vol_spell.proofs.Parts.{part_owned}
use Rattle.vol_mends.proofs.Moved.{file_number}
use Rattle.vol_rebuild.specs.Places.{written_at}
use Rattle.vol_repair.specs.Alike.{bare, IsSameBut, IsSpeltAs, TellsAlike}
use Rattle.vol_repair.specs.Listed.{places_listed, IsThere}
use Rattle.vol_parts.specs.Volumes.{runs_with}
use Rattle.vol_repair.specs.Removing.{without_told, lists, IsListed, MovesSpell}
use Rattle.vol_repair.proofs.Relisting.{told_listed, each_same}

-- ---- small facts

-- a first header in use is one in use
first_used : (r : Result Head HeaderFault) (f : Hdr) → as_first r ≡ Ok (head.Used f) → fields_in r ≡ Some f
first_used (Ok (head.Used x)) f e = by (x.seg == 0) e where
  by : (b : Bool) → cond {A = Result Head HeaderFault} b (Ok (head.Used x)) (Ok (head.Free x.seq)) ≡ Ok (head.Used f) → Some x ≡ Some f
  by true k = let same : x ≡ f = cc k in ap (λ (y : Hdr). Some y) same
  by false k = absurd (cc k)
first_used (Ok (head.Free seq)) f e = absurd (cc e)
first_used (Err fault) f e = absurd (cc e)

-- an entry of a name and version that is there is a version of the name that is taken
taken_by : (p : Place) (es : List DirEnt) → lists p es ≡ true → is_taken p.entry.ver (versions p.entry.name es) ≡ true
unfolding is_entry
taken_by p [] h = absurd (cc h)
taken_by p (x ∷ es) h = by (bytes_eq x.name p.entry.name) (x.ver == p.entry.ver) refl h (λ k. taken_by p es k) where
  by : (a b : Bool) → (x.ver == p.entry.ver) ≡ b → ((a && b) || lists p es) ≡ true → (lists p es ≡ true → is_taken p.entry.ver (versions p.entry.name es) ≡ true)
      → is_taken p.entry.ver (cond a (x ∷ versions p.entry.name es) (versions p.entry.name es)) ≡ true
  by true true e k rest = ap (λ q. is_some (cond q (Some x) (first_with p.entry.ver (versions p.entry.name es)))) e
  by true false e k rest = ap (λ q. is_some (cond q (Some x) (first_with p.entry.ver (versions p.entry.name es)))) e ∙ rest k
  by false b e k rest = rest k

all_has : {A : Type 0} (P : A → Type 0) (xs : List A) → ((x : A) → Has xs x → P x) → All P xs
all_has P [] h = All-nil P
all_has P (x ∷ xs) h = All-cons P x xs (h x (inl refl)) (all_has P xs (λ y k. h y (inr k)))

take_past : (k : ℕ) (ms : List Move) → length ms ≤ k → take k ms ≡ ms
take_past zero [] h = refl
take_past zero (m ∷ ms) h = absurd (omega (arith, h))
take_past (suc k) [] h = refl
take_past (suc k) (m ∷ ms) h = ap (λ xs. m ∷ xs) (take_past k ms (omega (arith, h)))

-- ---- an entry that goes

module _ (g : Geometry) (bs : List Block) (c : Cat) (p : Place) (d : File) (t : IsSpeltAs g bs c) (is : IsListed c p d) where
  abbrev s : Spells g bs t.own c
  s = t.spelt

  number : IsFileNumber g p.dir
  number = file_number g bs t.own c s p.dir d is.at

  dir : IsDirAt g bs p.dir d
  dir = dir_at g bs t.own c s p.dir number d is.at is.dir

  places_are : places_listed (header_block g bs p.dir) ≡ places_in (header_block g bs p.dir)
  places_are = ap (λ o. lbns_in (runs_with o (header_block g bs p.dir))) (first_used (header_read (header_block g bs p.dir)) dir.fields dir.header)

  inside : (l : ℕ) → Has (places_in (header_block g bs p.dir)) l → l < length bs
  inside l h = (of_body g bs t.own c s p.dir l number (subst (λ (ls : List ℕ). Has ls l) (sym dir.places) h)).within

  -- its header and its blocks are on the volume
  pub dir_there : IsThere g bs p.dir
  dir_there = record {
    header = on_volume g bs t.own c s (header_place g p.dir) (InFile 1) (part_owned g bs t.own c s (Header p.dir) number);
    blocks = all_has (λ l. l < length bs) (places_listed (header_block g bs p.dir)) (λ l h. inside l (subst (λ (ls : List ℕ). Has ls l) places_are h));
  }

  taken : is_taken p.entry.ver (versions p.entry.name d.entries) ≡ true
  taken = taken_by p d.entries is.there

  can : CanBeRemoved g c p.dir d p.entry
  can = record { number = number; file = is.at; dir = is.dir; there = taken }

  leaves : Leaves g bs p.dir d p.entry
  leaves = entry_leaves g bs t.own c p.dir d p.entry s can

  abbrev old : List Block
  old = blocks_of g bs p.dir

  abbrev all : List Move
  all = removal old p.entry.name p.entry.ver

  abbrev less : Cat
  less = with_entries c p.dir d (without p.entry.name p.entry.ver d.entries)

  are : AreMovesIn g bs t.own c p.dir d leaves.old leaves.new (packing_writes old) all
  are = record { spelt = s; number = number; file = is.at; dir = is.dir; moves = leaves.lead }

  before : (k : ℕ) → k ≤ packing_writes old → IsSpeltAs g (after_moves g p.dir (take k all) bs) c
  before k le = record { own = t.own; spelt = moves_spelt.before g bs t.own c p.dir d leaves.old leaves.new (packing_writes old) all k are le; none = t.none }

  behind : (k : ℕ) → packing_writes old < k → k ≤ length all → IsSpeltAs g (after_moves g p.dir (take k all) bs) less
  behind k lt le =
      record {
        own = t.own;
        spelt = subst (λ (es : List DirEnt). Spells g (after_moves g p.dir (take k all) bs) t.own (with_entries c p.dir d es)) leaves.entries
            (moves_spelt.behind g bs t.own c p.dir d leaves.old leaves.new (packing_writes old) all k are lt le);
        none = t.none;
      }

  at_end : IsSpeltAs g (after_moves g p.dir all bs) less
  at_end = subst (λ (ms : List Move). IsSpeltAs g (after_moves g p.dir ms bs) less) (take_past (length all) all (omega arith)) (behind (length all) leaves.lead.decides (omega arith))

  -- the catalogue with the entry and the one without it have the same files
  less_alike : map bare less.files ≡ map bare c.files
  less_alike = ap (λ (x : Cat). map bare x.files) (told_listed c p d is.at) ∙ each_same (without_told (p ∷ [])) c

  after : (k : ℕ) → TellsAlike g c (after_moves g p.dir (take k all) bs)
  after k = by (cases_lt (packing_writes old) k) (cases_lt (length all) k) where
    by : (packing_writes old < k) ⊎ (k ≤ packing_writes old) → (length all < k) ⊎ (k ≤ length all) → TellsAlike g c (after_moves g p.dir (take k all) bs)
    by (inr early) any = record { cat = c; spelt = before k early; alike = refl }
    by (inl late) (inr in_time) = record { cat = less; spelt = behind k late in_time; alike = less_alike }
    by (inl late) (inl past) = record { cat = less; spelt = subst (λ (ms : List Move). IsSpeltAs g (after_moves g p.dir ms bs) less) (sym (take_past k all (omega (arith, past)))) at_end; alike = less_alike }

  module _ (ls : List ℕ) (found : List Block) (places : ls ≡ places_listed (header_block g bs p.dir)) (blocks : found ≡ blocks_at bs (places_listed (header_block g bs p.dir))) where
    blocks_are : found ≡ blocks_of g bs p.dir
    blocks_are = blocks ∙ ap (blocks_at bs) places_are

    pub numbered : length found < 4294967296
    numbered =
        let e : length found ≡ g.cluster = ap length blocks_are ∙ dir.count in
        let k = s.counts.geometry.cluster_to in
        omega (arith, e, k)

    pub reads : IsOk (directory found)
    reads = subst (λ (r : Result (List RawEnt) DirFault). IsOk r) (sym (ap directory blocks_are ∙ dir.read)) refl

    pub has_entry : ForOk (directory found) (λ (es : List RawEnt). has es (key p.entry.name p.entry.ver) ≡ true)
    has_entry es e =
        let both : Ok dir.entries ≡ Ok es = sym (ap directory blocks_are ∙ dir.read) ∙ e in
        let same : dir.entries ≡ es = cc both in
        let lists_so : d.entries ≡ map plain_entry dir.entries = dir_lists g bs p.dir d dir in
        subst (λ (xs : List RawEnt). has xs (key p.entry.name p.entry.ver) ≡ true) same
        (is_there p.entry.name p.entry.ver dir.entries (ap (λ (xs : List DirEnt). is_taken p.entry.ver (versions p.entry.name xs)) (sym lists_so) ∙ taken))

    -- the moves take it out
    pub removal_spells : (ms : List Move) → ms ≡ removal found p.entry.name p.entry.ver → MovesSpell g bs c less ls ms
    removal_spells ms e =
        let same : all ≡ ms = sym (e ∙ ap (λ (xs : List Block). removal xs p.entry.name p.entry.ver) blocks_are) in
        let at : places_in (header_block g bs p.dir) ≡ ls = sym (places ∙ places_are) in
        subst (λ (ns : List Move). MovesSpell g bs c less ls ns) same (record {
          inside = subst (λ (xs : List ℕ). All (λ l. l < length bs) xs) (sym places) dir_there.blocks;
          alike = λ k. subst (λ (xs : List ℕ). TellsAlike g c (written_at xs (take k all) bs)) at (after k);
          spelt = subst (λ (xs : List ℕ). IsSpeltAs g (written_at xs all bs) less) at at_end;
        })

-- the same moves, told otherwise
pub spell_as : (g : Geometry) (as_read bs : List Block) (c d : Cat) (ls ks : List ℕ) (ms ns : List Move) → as_read ≡ bs → ks ≡ ls → ns ≡ ms → MovesSpell g as_read c d ls ms → MovesSpell g bs c d ks ns
spell_as g as_read bs c d ls ks ms ns same e f h =
    subst (λ (xs : List Block). MovesSpell g xs c d ks ns) same (subst (λ (xs : List ℕ). MovesSpell g as_read c d xs ns) (sym e) (subst (λ (ys : List Move). MovesSpell g as_read c d ls ys) (sym f) h))

-- the blocks after each number of them tell the files of any catalogue that has the same
pub alike_so : (g : Geometry) (bs : List Block) (a c d : Cat) (ls : List ℕ) (ms : List Move) → MovesSpell g bs c d ls ms → IsSameBut a c → (k : ℕ) → TellsAlike g a (written_at ls (take k ms) bs)
alike_so g bs a c d ls ms h same k = let t = h.alike k in record { cat = t.cat; spelt = t.spelt; alike = t.alike ∙ same }

-- blocks that spell one catalogue tell the files of another that has the same
pub tells_so : (g : Geometry) (bs : List Block) (a c : Cat) → IsSpeltAs g bs c → IsSameBut a c → TellsAlike g a bs
tells_so g bs a c t same = record { cat = c; spelt = t; alike = same }
