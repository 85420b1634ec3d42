-- What the code sees behind the directory. It knows what comes behind a directory for any row of events; so rows are taken that carry to
-- their plan what they show. By them what was seen behind the directory stands on the volume: the blocks of the directory are few, and
-- the header there is one whose runs are inside, with the other headers of its file behind it.
use Rattle.std.proofs.Common.{◌≡◌, ◌≤◌, ◌<◌, ◌/◌, ◌∙◌, ℕ, zero, suc, Bool, true, false, cond, List, [], ◌∷◌, Option, Some, None, Ok, length, map, take, slice_get, refl, sym, ap, subst, arith}
use Rattle.std.specs.Prelude.{◌==◌, nat_le, option_map, MatchBool}
use Rattle.std.proofs.lemmas.Bool.Decides.{nat_tests}
use Rattle.std.proofs.lemmas.List.{length-map}
use Rattle.std.proofs.Math.Nat.{div-le_self}
use Rattle.base_words.specs.Fields.{Block}
use Rattle.fx_header.specs.declared.slot.Hdr.{Hdr}
use Rattle.fx_header.specs.declared.slot.Slot.TheVariants.{Used}
use Rattle.fx_header.specs.Headers.{runs_in}
use Rattle.fx_header.specs.Pointers.{blocks_in}
use Rattle.vol_parts.proofs.Sizes.{length-lbns_in}
use Rattle.lock_db.specs.declared.name.LockName.{LockName}
use Rattle.lock_db.specs.declared.name.LockName.TheVariants.{S, V}
use Rattle.plain_cat.specs.declared.ids.Fid.{Fid}
use Rattle.plain_cat.specs.declared.mode.Mode.{Mode}
use Rattle.plain_cat.specs.declared.mode.Mode.TheVariants.{PW}
use Rattle.plain_cat.specs.declared.entries.DirEnt.{DirEnt}
use Rattle.plain_cat.specs.declared.command.Cmd.TheVariants as cmd
use Rattle.plain_cat.specs.declared.history.Stage.TheVariants as stage
use Rattle.plain_cat.specs.declared.reply.Reply.TheVariants as reply
use Rattle.plain_cat.specs.declared.reply.Refusal.{Refusal}
use Rattle.plain_cat.specs.declared.reply.Refusal.TheVariants as refusal
use Rattle.plain_cat.specs.declared.cat.Cat.{Cat}
use Rattle.plain_rules.specs.Lookups.{versions, entry_of, extra}
use Rattle.base_words.specs.Lists.{StandsIn}
use Rattle.vol_spell.specs.Owners.{Owners}
use Rattle.vol_parts.specs.declared.geometry.Geometry.{Geometry}
use Rattle.vol_spell.specs.Reading.{IsFileNumber, header_place, header_block, fields_told, head_told}
use Rattle.vol_spell.proofs.HeadSlots.{reads_fields}
use Rattle.vol_spell.specs.Spelling.{Spells}
use Rattle.op_law.specs.declared.need.Need.{Need}
use Rattle.op_law.specs.declared.need.Need.TheVariants as need
use Rattle.op_law.specs.declared.need.Plan.{Plan}
use Rattle.op_law.specs.declared.need.PlanWrite.{PlanWrite}
use Rattle.op_law.specs.Behind.{blocks_alone}
use Rattle.op_law.specs.Headers.{others_told, through_links, through_chain}
use Rattle.op_law.specs.declared.seen.Seen.{Seen}
use Rattle.op_law.specs.Events.{Events, Take, Look, Fetch, Find, Make, Space, space_of, has_space, HasNoSpace, IsGiven, following, Follows}
use Rattle.op_law.specs.Fits.{FitsSeen}
use Rattle.op_law.specs.Moving.{SeenDir, entries_of, through_names, removal_writes}
use Rattle.op_law.specs.Readable.{AreInside, HeadIsInside, HeadIsReadable}
use Rattle.op_law.specs.Refusing.{SeenFile, seen_file, header_of_seq, used_in, if_file, if_entry}
use Rattle.op_law.specs.Freeing.{through_space}
use Rattle.op_law.specs.Removing.{under_lock, entry_removed, if_empty, delete_plan, delete_in}
use Rattle.op_law.specs.Rows.{plain_plan, is_number, refuses, live_in, look_all, in_directory}
use Rattle.vol_spell.specs.Entries.{places_in}
use Rattle.op_law.specs.Writing.{plan_of, write_at, empty_handed}
use Rattle.op_law.proofs.Counting.{few_places}
use Rattle.op_law.proofs.Faultless.{through_readable}
use Rattle.op_law.proofs.Chains.{others_count}
use Rattle.op_law.proofs.Heads.{header_is, listed_inside, header_inside, through_inside}
use Rattle.op_law.proofs.Telling.{number_is, live_reads}
use Rattle.op_steps.specs.Chains.{AreHeaders}
use Rattle.op_steps.proofs.SeenHeaders.{seen_headers}
use Rattle.op_delete.specs.Naming.{IsLone}
use Rattle.op_delete.specs.Seeing.{IsFollowed, HeadIsFollowed}
use Rattle.op_delete.proofs.Walks.{behind, events_are}

abbrev Locks : Type 0
Locks = List (LockName × Mode)

abbrev Blocks : Type 0
Blocks = List (ℕ × Block)

-- ---- plans that show what was seen

-- a plan that carries a directory, and these blocks
abbrev carry : SeenDir → List Block → Plan
carry d bs = plan_of (write_at (S d.fid.num) d.fid.seq d.head stage.Done empty_handed ∷ map (λ b. write_at V 0 b stage.Done empty_handed) bs) reply.Deleted

abbrev writes_of : Need → List PlanWrite
writes_of (need.Ready p) = p.writes
writes_of other = []

abbrev number_of : LockName → ℕ
number_of (S n) = n
number_of other = 0

abbrev dir_carried : List PlanWrite → SeenDir
dir_carried [] = record { fid = record { num = 0; seq = 0 }; head = []; blocks = [] }
dir_carried (w ∷ ws) = record { fid = record { num = number_of w.lock; seq = w.lbn }; head = w.block; blocks = map (λ v. v.block) ws }

carried_is : (bs : List Block) → map (λ (v : PlanWrite). v.block) (map (λ b. write_at V 0 b stage.Done empty_handed) bs) ≡ bs
carried_is [] = refl
carried_is (b ∷ bs) = ap (λ cs. b ∷ cs) (carried_is bs)

-- what a plan carries is what another one does that is the same
carries : (d e : SeenDir) (bs cs : List Block) → need.Ready (carry d bs) ≡ need.Ready (carry e cs) → record d { blocks = bs } ≡ record e { blocks = cs }
carries d e bs cs same =
    ap (λ xs. record d { blocks = xs }) (sym (carried_is bs)) ∙ ap (λ n. dir_carried (writes_of n)) same ∙ ap (λ xs. record e { blocks = xs }) (carried_is cs)

abbrev is_ready : Need → Bool
is_ready (need.Ready p) = true
is_ready other = false

-- the directory
abbrev show : SeenDir → Events
show d = Make (carry d d.blocks)

-- as many blocks behind it
abbrev show_behind : List ℕ → SeenDir → Events
show_behind ls d = look_all V ls (λ bs. Make (carry d bs))

module _ (d : SeenDir) (space : Space) where
  all_shown : (ls : List ℕ) (f : List Block → List Block) (locks : Locks) (blocks : Blocks) → length ls ≡ length blocks
      → following (look_all V ls (λ bs. Make (carry d (f bs)))) locks blocks space ≡ need.Ready (carry d (f (blocks_alone blocks)))
  all_shown [] f locks [] e = refl
  all_shown [] f locks (x ∷ xs) e = absurd (omega arith)
  all_shown (l ∷ ls) f locks [] e = absurd (omega arith)
  all_shown (l ∷ ls) f locks (x ∷ xs) e = all_shown ls (λ bs. f (x.1 ∷ bs)) locks xs (omega arith)

  all_are : (ls : List ℕ) (f : List Block → List Block) (cs : List Block) (locks : Locks) (xs : Blocks)
      → following (look_all V ls (λ bs. Make (carry d (f bs)))) locks xs space ≡ need.Ready (carry d cs) → f (take (length ls) (blocks_alone xs)) ≡ cs
  all_are [] f cs locks xs e = ap (λ (y : SeenDir). y.blocks) (carries d d (f []) cs e)
  all_are (l ∷ ls) f cs locks [] e = absurd (let t : false ≡ true = ap is_ready e in cc)
  all_are (l ∷ ls) f cs locks (x ∷ xs) e = all_are ls (λ bs. f (x.1 ∷ bs)) cs locks xs e

-- ---- the places of blocks

stands_first : (bs : List Block) (n : ℕ) (xs : Blocks) → StandsIn bs xs → StandsIn bs (take n xs)
stands_first bs zero xs stands = tt
stands_first bs (suc n) [] stands = tt
stands_first bs (suc n) (x ∷ xs) stands = (stands.0, stands_first bs n xs stands.1)

-- by the same events the same blocks stand at the same places
same_places : (es : Events) (ks ls : Locks) (xs ys : Blocks) (space : Space) (given : Type 0) → Follows es ks xs space given → Follows es ls ys space given → take (length ys) (blocks_alone xs) ≡ blocks_alone ys → take (length ys) xs ≡ ys
same_places es ks ls xs [] space given fs gs e = refl
same_places es ks ls [] (y ∷ ys) space given fs gs e = absurd (let none : [] ≡ y.1 ∷ blocks_alone ys = e in let t : 0 ≡ length (y.1 ∷ blocks_alone ys) = ap length none in omega arith)
same_places (Take name mode next) [] ls (x ∷ xs) (y ∷ ys) space given fs gs e = absurd (let t : length (x ∷ xs) ≡ 0 = ap length fs.0 in omega arith)
same_places (Take name mode next) (k ∷ ks) [] (x ∷ xs) (y ∷ ys) space given fs gs e = absurd (let t : length (y ∷ ys) ≡ 0 = ap length gs.0 in omega arith)
same_places (Take name mode next) (k ∷ ks) (l ∷ ls) (x ∷ xs) (y ∷ ys) space given fs gs e = same_places next ks ls (x ∷ xs) (y ∷ ys) space given fs.1 gs.1 e
same_places (Look name lbn next) ks ls (x ∷ xs) (y ∷ ys) space given fs gs e =
    let all : ◌≡◌ {A = List Block} (x.1 ∷ take (length ys) (blocks_alone xs)) (y.1 ∷ blocks_alone ys) = e in
    let block : x.1 ≡ y.1 = cc in
    let behind : take (length ys) (blocks_alone xs) ≡ blocks_alone ys = cc in
    let place : x.0 ≡ y.0 = fs.0 ∙ sym gs.0 in
    let rest = same_places (next x.1) ks ls xs ys space given fs.1 (subst (λ b. Follows (next b) ls ys space given) (sym block) gs.1) behind in
    λ i. (place i, block i) ∷ rest i
same_places (Fetch lbn next) ks ls (x ∷ xs) (y ∷ ys) space given fs gs e =
    let all : ◌≡◌ {A = List Block} (x.1 ∷ take (length ys) (blocks_alone xs)) (y.1 ∷ blocks_alone ys) = e in
    let block : x.1 ≡ y.1 = cc in
    let behind : take (length ys) (blocks_alone xs) ≡ blocks_alone ys = cc in
    let place : x.0 ≡ y.0 = fs.0 ∙ sym gs.0 in
    let rest = same_places (next x.1) ks ls xs ys space given fs.1 (subst (λ b. Follows (next b) ls ys space given) (sym block) gs.1) behind in
    λ i. (place i, block i) ∷ rest i
same_places (Find clusters number next) ks ls (x ∷ xs) (y ∷ ys) space given fs gs e =
    by_test (has_space clusters number space) fs gs (same_places (next space.clusters space.number space.short) ks ls (x ∷ xs) (y ∷ ys) space (IsGiven space.clusters space.number space.short)) where
      Behind : Locks → Blocks → Type 0
      Behind ms zs = Follows (next space.clusters space.number space.short) ms zs space (IsGiven space.clusters space.number space.short)

      by_test : (t : Bool) → MatchBool t (Behind ks (x ∷ xs)) ((ks ≡ []) × ((x ∷ xs) ≡ []) × given) → MatchBool t (Behind ls (y ∷ ys)) ((ls ≡ []) × ((y ∷ ys) ≡ []) × given)
          → (Behind ks (x ∷ xs) → Behind ls (y ∷ ys) → take (length (y ∷ ys)) (blocks_alone (x ∷ xs)) ≡ blocks_alone (y ∷ ys) → take (length (y ∷ ys)) (x ∷ xs) ≡ y ∷ ys) → take (length (y ∷ ys)) (x ∷ xs) ≡ y ∷ ys
      by_test true fs gs more = more fs gs e
      by_test false fs gs more = absurd (let t : length (y ∷ ys) ≡ 0 = ap length gs.1 in omega arith)
same_places (Make plan) ks ls (x ∷ xs) (y ∷ ys) space given fs gs e = absurd (let t : length (y ∷ ys) ≡ 0 = ap length gs.1 in omega arith)

-- ---- behind a directory

-- This was seen behind the directory d, which has few blocks, and stands on the volume.
pub record IsRest (g : Geometry) (bs : List Block) (dir : Fid) (d : SeenDir) (blocks : Blocks) : Type 0 where
  pub fid : d.fid ≡ dir
  pub few : length d.blocks ≤ 16
  pub stands : StandsIn bs blocks
  pub number : IsFileNumber g dir.num
  pub header : Hdr
  pub reads : head_told (header_block g bs dir.num) ≡ Ok (Used header)
  pub is_dir : header.dir ≡ true

module _ (g : Geometry) (bs : List Block) (own : Owners) (c : Cat) (s : Spells g bs own c) (space : Space) (given : Type 0) (dir : Fid) where
  module _ (nx : SeenDir → Events) (d : SeenDir) (locks : Locks) (blocks : Blocks) (follows : Follows (nx d) locks blocks space given) where
    -- what comes next by these events, whatever comes behind the directory, is what comes next behind d
    abbrev Same : ((SeenDir → Events) → Events) → Locks → Blocks → Type 0
    Same es ks xs = (next : SeenDir → Events) → following (es next) ks xs space ≡ following (next d) locks blocks space

    abbrev Goal : Type 0
    Goal = IsRest g bs dir d blocks

    not_ready : (n : Need) → is_ready n ≡ false → n ≡ need.Ready (carry d d.blocks) → Goal
    not_ready n none e = absurd (let t : false ≡ true = sym none ∙ ap is_ready e in cc)

    refusing : (r : Refusal) → need.Ready (plain_plan (reply.Refused r)) ≡ need.Ready (carry d d.blocks) → Goal
    refusing r e = absurd (let t : 0 ≡ suc (length (map (λ b. write_at V 0 b stage.Done empty_handed) d.blocks)) = ap (λ n. length (writes_of n)) e in omega arith)

    at_end : (e : SeenDir) → e.fid ≡ dir → length e.blocks ≤ 16 → (h : Hdr) → IsFileNumber g dir.num → head_told (header_block g bs dir.num) ≡ Ok (Used h) → h.dir ≡ true
        → (ks : Locks) (xs : Blocks) → StandsIn bs xs → Follows (nx e) ks xs space given → Same (λ next. next e) ks xs → Goal
    at_end e named few h number reads is_dir ks xs stands fs same =
        let is : e ≡ d = carries e d e.blocks d.blocks (same show) in
        let ls : List ℕ = map (λ x. x.0) blocks in
        let count : length ls ≡ length blocks = length-map blocks (λ (x : ℕ × Block). x.0) in
        let shown : following (show_behind ls d) ks xs space ≡ need.Ready (carry d (blocks_alone blocks)) =
        ap (λ y. following (show_behind ls y) ks xs space) (sym is) ∙ same (show_behind ls) ∙ all_shown d space ls (λ ys. ys) locks blocks count in
        let alone : take (length blocks) (blocks_alone xs) ≡ blocks_alone blocks = ap (λ n. take n (blocks_alone xs)) (sym count) ∙ all_are d space ls (λ ys. ys) (blocks_alone blocks) ks xs shown in
        let places : take (length blocks) xs ≡ blocks = same_places (nx d) ks locks xs blocks space given (subst (λ y. Follows (nx y) ks xs space given) is fs) follows alone in
        record {
          fid = ap (λ (y : SeenDir). y.fid) (sym is) ∙ named;
          few = subst (λ (y : SeenDir). length y.blocks ≤ 16) is few;
          stands = subst (StandsIn bs) places (stands_first bs (length blocks) xs stands);
          number = number;
          header = h;
          reads = reads;
          is_dir = is_dir;
        }

    all_blocks : (ls : List ℕ) (f : List Block → SeenDir) (ks : Locks) (xs : Blocks) → StandsIn bs xs
        → ((ys : List Block) → length ys ≡ length ls → (ms : Locks) (zs : Blocks) → StandsIn bs zs → Follows (nx (f ys)) ms zs space given → Same (λ next. next (f ys)) ms zs → Goal)
        → Follows (look_all (S dir.num) ls (λ ys. nx (f ys))) ks xs space given → Same (λ next. look_all (S dir.num) ls (λ ys. next (f ys))) ks xs → Goal
    all_blocks [] f ks xs stands end fs same = end [] refl ks xs stands fs same
    all_blocks (l ∷ ls) f ks [] stands end fs same = not_ready (need.Block (S dir.num) l) refl (same show)
    all_blocks (l ∷ ls) f ks (x ∷ xs) stands end fs same = all_blocks ls (λ ys. f (x.1 ∷ ys)) ks xs stands.1 (λ ys e. end (x.1 ∷ ys) (omega arith)) fs.1 same

    abbrev with_blocks : Block → (SeenDir → Events) → List Block → Events
    with_blocks b next ys = next (record { fid = dir; head = b; blocks = ys })

    in_dir : (b : Block) (ks : Locks) (xs : Blocks) → IsFileNumber g dir.num → header_block g bs dir.num ≡ b → StandsIn bs xs
        → Follows (in_directory dir b (with_blocks b nx) (live_in dir.seq b)) ks xs space given → Same (λ next. in_directory dir b (with_blocks b next) (live_in dir.seq b)) ks xs → Goal
    in_dir b ks xs is here stands fs same = by_live (live_in dir.seq b) refl fs same where
      by_dir : (h : Hdr) → live_in dir.seq b ≡ Some h → (t : Bool) → h.dir ≡ t
          → Follows (cond t (look_all (S dir.num) (places_in b) (with_blocks b nx)) (refuses refusal.NotDir)) ks xs space given
          → Same (λ next. cond t (look_all (S dir.num) (places_in b) (with_blocks b next)) (refuses refusal.NotDir)) ks xs → Goal
      by_dir h live true d fs same =
          let reads : head_told (header_block g bs dir.num) ≡ Ok (Used h) = ap head_told here ∙ live_reads dir.seq (head_told b) h live in
          let few : length (places_in b) ≤ 16 = subst (λ y. length (places_in y) ≤ 16) here (few_places g bs own c s dir.num is h reads d) in
          all_blocks (places_in b) (λ ys. record { fid = dir; head = b; blocks = ys }) ks xs stands
          (λ ys len. at_end (record { fid = dir; head = b; blocks = ys }) refl (omega arith) h is reads d) fs same
      by_dir h live false d fs same = refusing refusal.NotDir (same show)

      by_live : (o : Option Hdr) → live_in dir.seq b ≡ o → Follows (in_directory dir b (with_blocks b nx) o) ks xs space given → Same (λ next. in_directory dir b (with_blocks b next) o) ks xs → Goal
      by_live None live fs same = refusing refusal.NoSuchFile (same show)
      by_live (Some h) live fs same = by_dir h live h.dir refl fs same

    pub names_rest : (ks : Locks) (xs : Blocks) → StandsIn bs xs → Follows (through_names g dir nx) ks xs space given → Same (through_names g dir) ks xs → Goal
    names_rest ks xs stands fs same = by_number (is_number g dir) refl fs same where
      looking : (SeenDir → Events) → Block → Events
      looking next b = in_directory dir b (with_blocks b next) (live_in dir.seq b)

      by_locks : (ms : Locks) (zs : Blocks) → IsFileNumber g dir.num → StandsIn bs zs → Follows (Take (S dir.num) PW (Look (S dir.num) (header_place g dir.num) (looking nx))) ms zs space given
          → Same (λ next. Take (S dir.num) PW (Look (S dir.num) (header_place g dir.num) (looking next))) ms zs → Goal
      by_locks [] zs is at fs same = not_ready (need.Lock (S dir.num) PW) refl (same show)
      by_locks (m ∷ ms) [] is at fs same = not_ready (need.Block (S dir.num) (header_place g dir.num)) refl (same show)
      by_locks (m ∷ ms) (z ∷ zs) is at fs same = in_dir z.1 ms zs is (header_is g bs dir.num z.0 z.1 fs.1.0 at.0) at.1 fs.1.1 same

      by_number : (t : Bool) → is_number g dir ≡ t → Follows (cond t (Take (S dir.num) PW (Look (S dir.num) (header_place g dir.num) (looking nx))) (refuses refusal.NoSuchFile)) ks xs space given
          → Same (λ next. cond t (Take (S dir.num) PW (Look (S dir.num) (header_place g dir.num) (looking next))) (refuses refusal.NoSuchFile)) ks xs → Goal
      by_number true is fs same = by_locks ks xs (number_is g dir is) stands fs same
      by_number false is fs same = refusing refusal.NoSuchFile (same show)

  -- ---- the header behind it

  module _ (name : List ℕ) (ver : ℕ) (d : SeenDir) where
    abbrev whole : DirEnt → SeenFile → Events
    whole e f = if_empty f (through_space g f (λ sp. Make (delete_plan g d e f sp)))

    abbrev looking : DirEnt → Block → Events
    looking e b = if_file (entry_removed d e) (λ first. through_chain g PW first (whole e)) (option_map (seen_file g e.fid.num b) (used_in e.fid.seq b))

    -- along links of which none was seen
    none_seen : (k : ℕ) (b : Block) (f : SeenFile) (p : Plan) → Follows (through_links g PW k b f (λ y. Make p)) [] [] space (Unit {0})
    none_seen zero b f p = (refl, refl, tt)
    none_seen (suc k) b f p = (refl, tt)

    -- behind the header of a file its other headers were seen, or the first of them
    headers_so : (e : DirEnt) → 11 < e.fid.num → IsFileNumber g e.fid.num → (b : Block) (ks : Locks) (xs : Blocks) → header_block g bs e.fid.num ≡ b → StandsIn bs xs → Follows (looking e b) ks xs space given → IsFollowed g b xs
    headers_so e above number b ks xs here stands fs h told =
        by_seq (h.seq == e.fid.seq)
        (subst (λ o. Follows (if_file (entry_removed d e) (λ first. through_chain g PW first (whole e)) (option_map (seen_file g e.fid.num b) (header_of_seq e.fid.seq o))) ks xs space given) told fs) where
          k : ℕ
          k = extra (h.blocks / g.cluster)

          used : fields_told (header_block g bs e.fid.num) ≡ Some h
          used = ap fields_told here ∙ told

          le : extra (h.blocks / g.cluster) ≤ length (others_told g bs e.fid.num)
          le = let count = others_count g bs own c s e.fid.num h number used above in omega arith

          by_seq : (t : Bool) → Follows (if_file (entry_removed d e) (λ first. through_chain g PW first (whole e)) (option_map (seen_file g e.fid.num b) (cond t (Some h) None))) ks xs space given
              → AreHeaders g (extra (h.blocks / g.cluster)) h b xs
          by_seq true fs =
              subst (λ y. AreHeaders g (extra (h.blocks / g.cluster)) h y xs) here
              (seen_headers g bs own c s e.fid.num h number used PW (extra (h.blocks / g.cluster)) (whole e) ks xs space given le stands
              (subst (λ y. Follows (through_chain g PW (seen_file g e.fid.num y h) (whole e)) ks xs space given) (sym here) fs))
          by_seq false fs =
              let p = plan_of (removal_writes d e stage.Nothing stage.Done) reply.EntryRemoved in
              let hb = header_block g bs e.fid.num in
              subst (λ ys. AreHeaders g (extra (h.blocks / g.cluster)) h b ys) (sym fs.1)
              (subst (λ y. AreHeaders g (extra (h.blocks / g.cluster)) h y []) here
              (seen_headers g bs own c s e.fid.num h number used PW (extra (h.blocks / g.cluster)) (λ y. Make p) [] [] space (Unit {0}) le tt
              (none_seen (extra (h.blocks / g.cluster)) hb (seen_file g e.fid.num hb h) p)))

    -- the block that is looked at there is the header of the file, in any case
    pub head_so : (ks : Locks) (x : ℕ × Block) (xs : Blocks) → StandsIn bs (x ∷ xs) → Follows (behind dir name ver g d) ks (x ∷ xs) space given → AreInside x.1 × IsFollowed g x.1 xs
    head_so ks x xs stands fs = by_entry (entry_of (versions name (entries_of d)) ver) fs where
      Right : Type 0
      Right = AreInside x.1 × IsFollowed g x.1 xs

      none : (p : Plan) → Follows (Make p) ks (x ∷ xs) space given → Right
      none p fs = absurd (let t : length (x ∷ xs) ≡ 0 = ap length fs.1 in omega arith)

      by_header : (e : DirEnt) → 11 < e.fid.num → IsFileNumber g e.fid.num → (ms : Locks) → Follows (Look (S e.fid.num) (header_place g e.fid.num) (looking e)) ms (x ∷ xs) space given → Right
      by_header e above is ms fs = (
        header_inside g bs own c s e.fid.num x.1 is (subst (λ l. slice_get bs l ≡ Some x.1) fs.0 stands.0),
        headers_so e above is x.1 ms xs (header_is g bs e.fid.num x.0 x.1 fs.0 stands.0) stands.1 fs.1,
      )

      by_lock : (e : DirEnt) → 11 < e.fid.num → IsFileNumber g e.fid.num → (ms : Locks) → Follows (Take (S e.fid.num) PW (Look (S e.fid.num) (header_place g e.fid.num) (looking e))) ms (x ∷ xs) space given → Right
      by_lock e above is [] fs = absurd (let t : length (x ∷ xs) ≡ 0 = ap length fs.0 in omega arith)
      by_lock e above is (m ∷ ms) fs = by_header e above is ms fs.1

      by_same : (e : DirEnt) → 11 < e.fid.num → IsFileNumber g e.fid.num → (t : Bool)
          → Follows (cond t (Look (S e.fid.num) (header_place g e.fid.num) (looking e)) (Take (S e.fid.num) PW (Look (S e.fid.num) (header_place g e.fid.num) (looking e)))) ks (x ∷ xs) space given → Right
      by_same e above is true fs = by_header e above is ks fs
      by_same e above is false fs = by_lock e above is ks fs

      by_number : (e : DirEnt) → 11 < e.fid.num → (t : Bool) → is_number g e.fid ≡ t → Follows (cond t (under_lock g d.fid.num e.fid.num (looking e)) (entry_removed d e)) ks (x ∷ xs) space given → Right
      by_number e above true is fs = by_same e above (number_is g e.fid is) (e.fid.num == d.fid.num) fs
      by_number e above false is fs = none (plan_of (removal_writes d e stage.Nothing stage.Done) reply.EntryRemoved) fs

      by_kept : (e : DirEnt) (t : Bool) → nat_le e.fid.num 11 ≡ t → Follows (cond t (refuses refusal.NoPriv) (delete_in g d e)) ks (x ∷ xs) space given → Right
      by_kept e true kept fs = none (plain_plan (reply.Refused refusal.NoPriv)) fs
      by_kept e false free fs = by_number e (grind (arith, nat_tests)) (is_number g e.fid) refl fs

      by_entry : (o : Option DirEnt) → Follows (if_entry o (delete_in g d)) ks (x ∷ xs) space given → Right
      by_entry None fs = none (plain_plan (reply.Refused refusal.NoSuchFile)) fs
      by_entry (Some e) fs = by_kept e (nat_le e.fid.num 11) refl fs

-- a directory has one header
pub dir_lone : (g : Geometry) (bs : List Block) (own : Owners) (c : Cat) (n : ℕ) (h : Hdr) → Spells g bs own c → IsFileNumber g n → head_told (header_block g bs n) ≡ Ok (Used h) → h.dir ≡ true → extra (h.blocks / g.cluster) ≡ 0
dir_lone g bs own c n h s is reads dir =
    let hb = header_block g bs n in
    let few : length (places_in hb) ≤ 16 = few_places g bs own c s n is h reads dir in
    let listed : h.blocks ≤ blocks_in (runs_in hb) = (listed_inside g bs own c s n is).enough h (reads_fields hb h reads) dir in
    let count : length (places_in hb) ≡ blocks_in (runs_in hb) = length-lbns_in (runs_in hb) in
    let less : h.blocks / g.cluster ≤ h.blocks = div-le_self h.blocks g.cluster in
    omega arith

-- ---- what the code has seen

module _ (dir : Fid) (name : List ℕ) (ver : ℕ) (seen : Seen) (f : FitsSeen (cmd.Delete dir name ver) seen) where
  abbrev g : Geometry
  g = seen.geometry

  pub order : Follows (through_names g dir (behind dir name ver g)) seen.locks seen.blocks (space_of seen) (HasNoSpace (space_of seen))
  order = subst (λ es. Follows es seen.locks seen.blocks (space_of seen) (HasNoSpace (space_of seen))) (events_are dir name ver g seen.channel) f.order

  pub first_inside : HeadIsInside seen.blocks
  first_inside = through_inside g f.blocks f.own f.cat f.on.spelt dir _ _ seen.locks seen.blocks (space_of seen) _ f.on.stands order

  -- the directory that was seen is read without a fault
  pub first_readable : HeadIsReadable dir seen.blocks
  first_readable = through_readable g f.blocks f.own f.cat f.on.spelt dir _ (space_of seen) _ _ seen.locks seen.blocks f.on.stands order

  module _ (d : SeenDir) (locks : Locks) (blocks : Blocks)
      (same : (next : SeenDir → Events) → following (through_names seen.geometry dir next) seen.locks seen.blocks (space_of seen) ≡ following (next d) locks blocks (space_of seen))
      (follows : Follows (behind dir name ver seen.geometry d) locks blocks (space_of seen) (HasNoSpace (space_of seen))) where
    rest : IsRest seen.geometry f.blocks dir d blocks
    rest = names_rest g f.blocks f.own f.cat f.on.spelt (space_of seen) (HasNoSpace (space_of seen)) dir (behind dir name ver g) d locks blocks follows seen.locks seen.blocks f.on.stands order same

    pub dir_few : length d.blocks ≤ 16
    dir_few = rest.few

    first_so : (x : ℕ × Block) (xs : Blocks) → blocks ≡ x ∷ xs → AreInside x.1 × IsFollowed g x.1 xs
    first_so x xs is =
        head_so g f.blocks f.own f.cat f.on.spelt (space_of seen) (HasNoSpace (space_of seen)) dir name ver d locks x xs (subst (StandsIn f.blocks) is rest.stands)
        (subst (λ ys. Follows (behind dir name ver g d) locks ys (space_of seen) (HasNoSpace (space_of seen))) is follows)

    pub behind_inside : HeadIsInside blocks
    behind_inside = by_blocks blocks refl where
      by_blocks : (xs : Blocks) → blocks ≡ xs → HeadIsInside xs
      by_blocks [] is = tt
      by_blocks (x ∷ xs) is = (first_so x xs is).0

    pub behind_followed : HeadIsFollowed seen.geometry blocks
    behind_followed = by_blocks blocks refl where
      by_blocks : (xs : Blocks) → blocks ≡ xs → HeadIsFollowed g xs
      by_blocks [] is = tt
      by_blocks (x ∷ xs) is = (first_so x xs is).1

    -- where the header there is the directory's own, it has no other
    pub behind_lone : IsLone seen.geometry d.fid.num blocks
    behind_lone = by_blocks blocks refl where
      by_blocks : (xs : Blocks) → blocks ≡ xs → IsLone g d.fid.num xs
      by_blocks [] is = tt
      by_blocks (x ∷ xs) is = λ place h told.
          let at = (subst (StandsIn f.blocks) is rest.stands).0 in
          let here : header_block g f.blocks dir.num ≡ x.1 = header_is g f.blocks dir.num x.0 x.1 (place ∙ ap (λ (fid : Fid). header_place g fid.num) rest.fid) at in
          let own : fields_told x.1 ≡ Some rest.header = ap fields_told (sym here) ∙ reads_fields (header_block g f.blocks dir.num) rest.header rest.reads in
          let both : Some h ≡ Some rest.header = sym told ∙ own in
          let header : rest.header ≡ h = cc in
          subst (λ (y : Hdr). extra (y.blocks / g.cluster) ≡ 0) header (dir_lone g f.blocks f.own f.cat dir.num rest.header f.on.spelt rest.number rest.reads rest.is_dir)
