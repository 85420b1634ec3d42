-- The moves by which a directory changes, from what its blocks are.
use Rattle.std.proofs.Common.{◌≡◌, ◌≤◌, ◌<◌, ◌-◌, ◌&&◌, ◌∙◌, ℕ, Bool, true, false, cond, List, [], ◌∷◌, Some, None, Result, Ok, All, length, nat_le, refl, sym, ap, subst, inl, inr, arith}
use Rattle.std.specs.Prelude.{option_map, is_some}
use Rattle.std.specs.Result.{IsOk, ForOk}
use Rattle.std.proofs.lemmas.Bool.{and_parts, leb-true}
use Rattle.base_words.specs.Fields.{Block}
use Rattle.fx_dir.specs.declared.RawEnt.{RawEnt}
use Rattle.fx_dir.specs.declared.DirFault.{DirFault}
use Rattle.fx_dir.specs.declared.Move.{Move}
use Rattle.fx_dir.specs.Entries.{has}
use Rattle.fx_dir.specs.Directory.{directory}
use Rattle.fx_dir.specs.Moves.{key, insertion, removal, repacking, packing_writes}
use Rattle.fx_dir.specs.Writing.{IsInForm}
use Rattle.plain_cat.specs.declared.entries.DirEnt.{DirEnt}
use Rattle.plain_cat.specs.declared.cat.Cat.{Cat}
use Rattle.plain_cat.specs.declared.cat.File.{File}
use Rattle.plain_rules.specs.declared.places.Place.{Place}
use Rattle.plain_rules.specs.Lookups.{file_at, versions}
use Rattle.plain_rules.specs.Directories.{inserted, fits, is_taken}
use Rattle.plain_rules.specs.Changes.{with_entries}
use Rattle.plain_rules.specs.Mending.{enter, lost_entry, if_room, with_lost_entry}
use Rattle.plain_mends.specs.Resuming.{Goes, less_one}
use Rattle.std.proofs.lemmas.List.Elements.{All-nil, All-cons}
use Rattle.base_words.specs.Lists.{Has}
use Rattle.base_words.proofs.Listing.{has_from}
use Rattle.vol_spell.specs.Spread.{blocks_at}
use Rattle.vol_parts.specs.declared.geometry.Geometry.{Geometry}
use Rattle.vol_spell.specs.Reading.{header_block}
use Rattle.vol_mends.proofs.AcceptedSteps.{weak_can_mend}
use Rattle.vol_spell.specs.Entries.{places_in, blocks_of, raw_entry}
use Rattle.vol_mends.specs.Told.{IsTold}
use Rattle.vol_mends.specs.Moving.{HasDir, DirTold, CanEnter}
use Rattle.vol_mends.proofs.Moved.{dir_is_read}
use Rattle.vol_mends.proofs.MovedSteps.{dir_is_packed, taken, entry_goes}
use Rattle.vol_mends.proofs.Entering.{enter_is, lost_is_entered}
use Rattle.vol_rebuild.specs.Places.{places_told, IsThere, DirLeads}
use Rattle.vol_rebuild.specs.Steps.{CanEnterOne}
use Rattle.vol_rebuild.proofs.Reading.{in_geometry, header_on}
use Rattle.vol_rebuild.proofs.Leading.{leads_by, packs_by}

-- ---- a directory that is read

all_has : {A : Type 0} (P : A → Type 0) (xs : List A) → ((x : A) → Has xs x → P x) → All P xs
all_has P [] h = All-nil P
all_has P (x ∷ xs) h = All-cons P x xs (h x (inl refl)) (all_has P xs (λ y k. h y (inr k)))

module _ (g : Geometry) (bs : List Block) (c : Cat) (n : ℕ) (d : File) (h : HasDir g bs c n d) where
  pub seen : DirTold g bs n d
  seen = dir_is_read g bs c n d h

  -- its header and its blocks are on the volume
  pub dir_there : IsThere g bs n
  dir_there = record {
    header = header_on g bs c h.told n seen.number;
    blocks = all_has (λ l. l < length bs) (places_told (header_block g bs n)) (λ l t. seen.within l (subst (λ (ls : List ℕ). Has ls l) seen.places t));
  }

  module _ (ls : List ℕ) (found : List Block) (is : ls ≡ places_told (header_block g bs n)) (blocks : found ≡ blocks_at bs (places_told (header_block g bs n))) where
    pub places_are : ls ≡ places_in (header_block g bs n)
    places_are = is ∙ seen.places

    pub within : All (λ l. l < length bs) ls
    within = subst (λ (xs : List ℕ). All (λ l. l < length bs) xs) (sym is) dir_there.blocks

    pub blocks_are : found ≡ blocks_of g bs n
    blocks_are = blocks ∙ ap (blocks_at bs) seen.places

    pub numbered : length found < 4294967296
    numbered =
        let e : length found ≡ g.cluster = ap length blocks_are ∙ seen.count in
        let k = (in_geometry g bs c h.told).cluster_to in
        omega (arith, e, k)

    pub reads : IsOk (directory found)
    reads = subst (λ (r : Result (List RawEnt) DirFault). IsOk r) (sym (ap directory blocks_are ∙ seen.read)) refl

    pub has_entry : (name : List ℕ) (ver : ℕ) → is_taken ver (versions name d.entries) ≡ true → ForOk (directory found) (λ (es : List RawEnt). has es (key name ver) ≡ true)
    has_entry name ver t es e =
        let both : Ok seen.entries ≡ Ok es = sym (ap directory blocks_are ∙ seen.read) ∙ e in
        let same : seen.entries ≡ es = cc both in
        subst (λ (xs : List RawEnt). has xs (key name ver) ≡ true) same (seen.has name ver ∙ t)

    -- the moves that pack it
    pub packing_leads : (ms : List Move) → ms ≡ repacking found → DirLeads g bs c n ls ms
    packing_leads ms e =
        let same : repacking (blocks_of g bs n) ≡ ms = sym (e ∙ ap repacking blocks_are) in
        subst (λ (xs : List Move). DirLeads g bs c n ls xs) same
        (packs_by g bs c c n (length (repacking (blocks_of g bs n))) (repacking (blocks_of g bs n)) (dir_is_packed g bs c n d h) ls (omega arith) places_are within)

-- ---- an entry that goes

module _ (g : Geometry) (bs : List Block) (c : Cat) (p : Place) (d : File) (t : IsTold g bs c) (goes : Goes c p d) where
  pub has_dir : HasDir g bs c p.dir d
  has_dir = record { told = t; file = goes.at; dir = goes.dir }

  pub is_there : is_taken p.entry.ver (versions p.entry.name d.entries) ≡ true
  is_there = taken d.entries p.entry (has_from d.entries p.entry goes.entry)

  pub removal_leads : (ls : List ℕ) (found : List Block) (ms : List Move) → ls ≡ places_told (header_block g bs p.dir) → found ≡ blocks_at bs (places_told (header_block g bs p.dir))
      → ms ≡ removal found p.entry.name p.entry.ver → DirLeads g bs (less_one c p d) p.dir ls ms
  removal_leads ls found ms is blocks e =
      let all = removal (blocks_of g bs p.dir) p.entry.name p.entry.ver in
      let same : all ≡ ms = sym (e ∙ ap (λ (xs : List Block). removal xs p.entry.name p.entry.ver) (blocks_are g bs c p.dir d has_dir ls found is blocks)) in
      subst (λ (xs : List Move). DirLeads g bs (less_one c p d) p.dir ls xs) same
      (leads_by g bs c (less_one c p d) p.dir (packing_writes (blocks_of g bs p.dir)) all (entry_goes.leads g bs c p d t goes) ls (entry_goes.decides g bs c p d t goes)
      (places_are g bs c p.dir d has_dir ls found is blocks) (within g bs c p.dir d has_dir ls found is blocks))

-- ---- a lost file that is entered

-- where there is room the version is one that a name can have
room_version : (factor : ℕ) (es : List DirEnt) (e : DirEnt) (more : List DirEnt) → if_room factor es e ≡ Some more → e.ver ≤ 32767
room_version factor es e more h = by_case (nat_le e.ver 32767 && fits factor (inserted e es)) refl h where
  by_case : (b : Bool) → (nat_le e.ver 32767 && fits factor (inserted e es)) ≡ b → cond b (Some (inserted e es)) None ≡ Some more → e.ver ≤ 32767
  by_case true k r = leb-true e.ver 32767 (and_parts (nat_le e.ver 32767) (fits factor (inserted e es)) k).0
  by_case false k r = absurd (cc r)

pub version_room : (factor : ℕ) (es : List DirEnt) (n seq : ℕ) (more : List DirEnt) → with_lost_entry factor es n seq ≡ Some more → (lost_entry es n seq).ver ≤ 32767
unfolding with_lost_entry
version_room factor es n seq more h = room_version factor es (lost_entry es n seq) more h

module _ (g : Geometry) (bs : List Block) (c : Cat) (n : ℕ) (d f : File) (more : List DirEnt) (t : IsTold g bs c) (at : file_at c 11 ≡ Some d) (own : file_at c n ≡ Some f)
    (room : with_lost_entry c.factor d.entries n f.seq ≡ Some more) where
  pub lost_dir : HasDir g bs c 11 d
  lost_dir =
      let s = (weak_can_mend bs c t.cat).0.systems 11 (omega arith) (omega arith) in
      let both : Some s.0 ≡ Some d = sym s.1 ∙ at in
      let same : s.0 ≡ d = cc both in
      record { told = t; file = at; dir = ap (λ (x : File). x.dir) (sym same) ∙ s.2.dir }

  pub can_enter : CanEnter g bs c n d f
  can_enter = record { lost = lost_dir; file = own; version = version_room c.factor d.entries n f.seq more room }

  pub enters : enter c n ≡ Some (with_entries c 11 d more)
  enters = enter_is c n d f at own ∙ ap (option_map (with_entries c 11 d)) room

  abbrev raw : RawEnt
  raw = raw_entry (lost_entry d.entries n f.seq)

  pub in_form : IsInForm raw
  in_form = lost_is_entered.form g bs c n d f can_enter

  module _ (ls : List ℕ) (found : List Block) (is : ls ≡ places_told (header_block g bs 11)) (blocks : found ≡ blocks_at bs (places_told (header_block g bs 11))) where
    abbrev same_blocks : found ≡ blocks_of g bs 11
    same_blocks = blocks_are g bs c 11 d lost_dir ls found is blocks

    pub is_new : ForOk (directory found) (λ (es : List RawEnt). has es raw ≡ false)
    is_new es e = lost_is_entered.new g bs c n d f es can_enter (sym (ap directory same_blocks) ∙ e)

    pub has_moves : is_some (insertion found raw) ≡ true
    has_moves = ap (λ (xs : List Block). is_some (insertion xs raw)) same_blocks ∙ lost_is_entered.room g bs c n d f can_enter ∙ ap is_some enters

    pub insertion_leads : (ms : List Move) → insertion found raw ≡ Some ms → CanEnterOne c n → DirLeads g bs (with_entries c 11 d more) 11 ls ms
    insertion_leads ms e change =
        let by : insertion (blocks_of g bs 11) raw ≡ Some ms = ap (λ (xs : List Block). insertion xs raw) (sym same_blocks) ∙ e in
        leads_by g bs c (with_entries c 11 d more) 11 (length ms - 1) ms
        (lost_is_entered.leads g bs c (with_entries c 11 d more) n d f ms can_enter by enters (change (with_entries c 11 d more) enters)) ls
        (lost_is_entered.decides g bs c (with_entries c 11 d more) n d f ms can_enter by enters)
        (places_are g bs c 11 d lost_dir ls found is blocks) (within g bs c 11 d lost_dir ls found is blocks)
