-- The events and the writes that commands have in common, counted. A directory and the quota file have one cluster, of up to 16
-- blocks; the storage bitmap has up to 16 blocks; a file above number 11 has up to file_most clusters.
use Rattle.std.proofs.Common.{◌≡◌, ◌≤◌, ◌<◌, ◌-◌, ◌+◌, ◌*◌, ◌/◌, ◌∙◌, ℕ, zero, suc, Bool, true, false, cond, List, [], ◌∷◌, ◌++◌, Option, Some, None, length, map, take, drop, refl, sym, ap, subst, arith, length-append, length-take, length-drop}
use Rattle.std.specs.Prelude.{◌==◌, ◌&&◌, not, option_map, slice_index_or, unwrap_or, filter, if◌then◌else◌, Result, Ok, Err}
use Rattle.std.specs.Str.{bytes_eq}
use Rattle.std.specs.List.{list_any, range_with_len}
use Rattle.std.proofs.lemmas.Bool.{and_parts}
use Rattle.std.proofs.Math.Nat.{div-le_self}
use Rattle.std.proofs.lemmas.List.{length-map}
use Rattle.std.proofs.lemmas.List.FromFn.{length-range_with_len}
use Rattle.base_words.specs.Fields.{Block}
use Rattle.base_words.specs.Packing.{unfilled, pack, over}
use Rattle.fx_dir.specs.declared.RawEnt.{RawEnt}
use Rattle.fx_dir.specs.declared.Move.{Move}
use Rattle.fx_dir.specs.declared.DirFault.{DirFault}
use Rattle.fx_dir.specs.Directory.{directory}
use Rattle.fx_dir.specs.Entries.{without}
use Rattle.fx_dir.specs.Writing.{name_of, block_of, if_fits}
use Rattle.fx_dir.specs.Moves.{rising, falling, less_last, place, inserted, as_new, insertion_on, insert_writes, key, removal_on, removal, packing_writes}
use Rattle.fx_header.specs.declared.run.Run.{Run}
use Rattle.fx_header.specs.declared.slot.Hdr.{Hdr}
use Rattle.fx_header.specs.declared.slot.Slot.TheVariants as head
use Rattle.fx_header.specs.Headers.{runs_in}
use Rattle.fx_quota.specs.declared.types.Row.{Row}
use Rattle.lock_db.specs.declared.name.LockName.{LockName}
use Rattle.lock_db.specs.declared.name.LockName.TheVariants.{S, Q}
use Rattle.plain_cat.specs.declared.ids.Fid.{Fid}
use Rattle.plain_cat.specs.declared.ids.Uic.{Uic}
use Rattle.plain_cat.specs.declared.mode.Mode.{Mode}
use Rattle.plain_cat.specs.declared.entries.DirEnt.{DirEnt}
use Rattle.plain_cat.specs.declared.history.Stage.{Stage}
use Rattle.plain_cat.specs.declared.history.Stage.TheVariants as stage
use Rattle.plain_cat.specs.declared.reply.Reply.{Reply}
use Rattle.plain_cat.specs.declared.reply.Refusal.{Refusal}
use Rattle.plain_cat.specs.declared.reply.Refusal.TheVariants as refusal
use Rattle.plain_cat.specs.declared.cat.Cat.{Cat}
use Rattle.vol_spell.specs.Owners.{Owners}
use Rattle.vol_parts.specs.declared.finding.Finding.TheVariants as finding
use Rattle.vol_parts.specs.declared.geometry.Geometry.{Geometry}
use Rattle.plain_rules.specs.Lookups.{clusters_in, file_most}
use Rattle.vol_parts.specs.Volumes.{Told}
use Rattle.vol_parts.specs.Fatal.{is_one_header, is_cluster_run, has_dir_size, found_in}
use Rattle.vol_parts.specs.Parts.{IsGeometry, storage_blocks}
use Rattle.vol_spell.specs.Reading.{IsFileNumber, header_place, header_block, head_told, told_of, body_blocks, clusters_told, quota_places, total_of}
use Rattle.vol_spell.specs.Spelling.{dir_found, Spells}
use Rattle.vol_spell.proofs.Adds.{size_told}
use Rattle.vol_spell.proofs.HeadSlots.{reads_fields, dir_runs}
use Rattle.vol_spell.proofs.Parts.{told}
use Rattle.vol_parts.specs.Catalogues.{slot_with}
use Rattle.op_law.specs.Events.{Events, Take, Look, Space}
use Rattle.op_law.specs.Rows.{answers, refuses, is_number, live_in, look_all, through_header, in_directory, through_directory}
use Rattle.vol_spell.specs.Entries.{places_in, raw_entry}
use Rattle.op_law.specs.Refusing.{SeenFile, seen_file, if_file, unless_refused, through_live}
use Rattle.op_law.specs.Writing.{Held, empty_handed}
use Rattle.op_law.specs.Quotas.{row_place, changed_write, row_discharged, owner_write, through_quota}
use Rattle.vol_spell.specs.Rows.{is_row_of}
use Rattle.op_law.specs.Moving.{SeenDir, moves_at, move_write, insertion_moves, insertion_writes, removal_writes}
use Rattle.op_law.specs.Freeing.{SeenSpace, lies_in, blocks_for, storage_writes, index_write, freeing_tail, headers_freed, freeing_writes, all_clusters}
use Rattle.op_law.specs.Headers.{numbers_of, slots_freed}
use Rattle.op_law.proofs.Heads.{header_is}
use Rattle.op_law.proofs.Telling.{number_is, live_reads}
use Rattle.op_law.proofs.Brief.{BriefBy, brief_more}
use Rattle.vol_spell.proofs.EntryDirs.{one_cluster}

sized : (g : Geometry) (n : ℕ) (f : Hdr) (t : Told) (blocks : List Block) → f.dir ≡ true → dir_found g n (Some f) t blocks ≡ None → (is_one_header f t && has_dir_size g.cluster f t.runs) ≡ true
sized g n f t blocks d h = by_size (is_one_header f t && has_dir_size g.cluster f t.runs) (ap (λ q. if not q then None else if is_one_header f t && has_dir_size g.cluster f t.runs then found_in n (directory blocks) else Some (finding.DirSize n)) (sym d) ∙ h) where
  by_size : (q : Bool) → (if q then found_in n (directory blocks) else Some (finding.DirSize n)) ≡ None → q ≡ true
  by_size true e = refl
  by_size false e = absurd (cc)

module _ (g : Geometry) (bs : List Block) (own : Owners) (c : Cat) (s : Spells g bs own c) (n : ℕ) (is : IsFileNumber g n) (f : Hdr) (reads : head_told (header_block g bs n) ≡ Ok (head.Used f)) where
  abbrev hb : Block
  hb = header_block g bs n

  -- a directory has as many blocks as a cluster, at most 16
  pub few_places : f.dir ≡ true → length (places_in hb) ≤ 16
  few_places d =
      let t = told g bs own c s n is in
      let body = body_blocks bs n (told_of g bs n) in
      let found : dir_found g n (Some f) (told_of g bs n) body ≡ None = subst (λ (o : Option Hdr). dir_found g n o (told_of g bs n) body ≡ None) (reads_fields hb f reads) t.dir in
      let both = and_parts (is_one_header f (told_of g bs n)) (has_dir_size g.cluster f (told_of g bs n).runs) (sized g n f (told_of g bs n) body d found) in
      let size = subst (λ (rs : List Run). has_dir_size g.cluster f rs ≡ true) (dir_runs g bs own c s n f is reads d) both.1 in
      let run = and_parts (is_cluster_run g.cluster (runs_in hb)) ((f.mark == 0) && ((f.end == g.cluster + 1) && (f.byte == 0))) size in
      let e = one_cluster g.cluster (runs_in hb) run.0 in
      let top = s.counts.geometry.cluster_to in
      omega arith

  -- above number 11 it has not more clusters than a file may have
  pub few_clusters : 11 < n → f.blocks / g.cluster ≤ file_most
  few_clusters above =
      let t = told g bs own c s n is in
      let body = body_blocks bs n (told_of g bs n) in
      let said : f.blocks / g.cluster ≡ clusters_in (slot_with g.cluster n (told_of g bs n).head body) = ap (λ r. clusters_in (slot_with g.cluster n r body)) (sym reads) in
      let count : f.blocks / g.cluster ≡ length (clusters_told g (told_of g bs n)) = said ∙ ap clusters_in t.slot ∙ size_told g own n (told_of g bs n) body _ s.counts.geometry.cluster_from t in
      let few : length (clusters_told g (told_of g bs n)) ≤ file_most = t.few above in
      omega arith

-- ---- events

module _ (bs : List Block) (space : Space) (writes : ℕ) where
  -- at most so many locks more, and so many blocks
  abbrev Within : Events → ℕ → ℕ → Type 0
  Within es locks looks = BriefBy bs space writes es locks looks

  -- an answer writes nothing
  pub answers_brief : (r : Reply) (locks looks : ℕ) → Within (answers r) locks looks
  answers_brief r locks looks = omega arith

  pub unless_brief : (o : Option Refusal) (next : Events) (locks looks : ℕ) → (o ≡ None → Within next locks looks) → Within (unless_refused o next) locks looks
  unless_brief None next locks looks so = so refl
  unless_brief (Some r) next locks looks so = omega arith

  -- blocks, of which there are not more than k
  pub all_brief : (name : LockName) (ls : List ℕ) (next : List Block → Events) (k locks looks : ℕ) → length ls ≤ k → k ≤ looks
      → ((seen : List Block) → length seen ≡ length ls → Within (next seen) locks (looks - k)) → Within (look_all name ls next) locks looks
  all_brief name [] next k locks looks few fits so = brief_more bs space writes (next []) locks (looks - k) locks looks (omega arith) (omega arith) (so [] refl)
  all_brief name (l ∷ ls) next k locks looks few fits so = (
    omega arith,
    λ b at. all_brief name ls (λ more. next (b ∷ more)) (k - 1) locks (looks - 1) (omega arith) (omega arith)
        (λ seen e. subst (λ n. Within (next (b ∷ seen)) locks n) (let z : looks - k ≡ looks - 1 - (k - 1) = omega arith in z) (so (b ∷ seen) (omega arith))),
  )

  module _ (g : Geometry) (own : Owners) (c : Cat) (s : Spells g bs own c) where
    -- Q and the quota blocks
    pub quota_brief : (mode : Mode) (next : List Block → Events) (locks looks : ℕ) → 1 ≤ locks → 16 ≤ looks → ((seen : List Block) → length seen ≤ 16 → Within (next seen) (locks - 1) (looks - 16))
        → Within (through_quota g mode next) locks looks
    quota_brief mode next locks looks one fits so =
        let count = length-range_with_len g.quota_lbn g.cluster in
        let top = s.counts.geometry.cluster_to in
        (one, all_brief Q (quota_places g) next 16 (locks - 1) looks (omega arith) fits (λ seen e. so seen (omega arith)))

    -- the lock of a number and the header there
    pub number_brief : (n : ℕ) (mode : Mode) (next : Block → Events) (locks looks : ℕ) → 1 ≤ locks → 1 ≤ looks → Within (next (header_block g bs n)) (locks - 1) (looks - 1)
        → Within (Take (S n) mode (Look (S n) (header_place g n) next)) locks looks
    number_brief n mode next locks looks one fits so =
        (one, (fits, λ b at. subst (λ y. Within (next y) (locks - 1) (looks - 1)) (header_is g bs n (header_place g n) b refl at) so))

    module _ (fid : Fid) (mode : Mode) (locks looks : ℕ) (one : 1 ≤ locks) where
      abbrev own_head : Block
      own_head = header_block g bs fid.num

      -- a file's lock and its header
      pub header_brief : (next : Block → Events) → 1 ≤ looks → (IsFileNumber g fid.num → Within (next own_head) (locks - 1) (looks - 1)) → Within (through_header g fid mode next) locks looks
      header_brief next fits so = by_number (is_number g fid) refl where
        by_number : (t : Bool) → is_number g fid ≡ t → Within (cond t (Take (S fid.num) mode (Look (S fid.num) (header_place g fid.num) next)) (refuses refusal.NoSuchFile)) locks looks
        by_number true e = number_brief fid.num mode next locks looks one fits (so (number_is g fid e))
        by_number false e = omega arith

      -- the lock of a live file and its header
      pub live_brief : (next : SeenFile → Events) → 1 ≤ looks
          → ((f : Hdr) → IsFileNumber g fid.num → live_in fid.seq own_head ≡ Some f → Within (next (seen_file g fid.num own_head f)) (locks - 1) (looks - 1)) → Within (through_live g fid mode next) locks looks
      live_brief next fits so = header_brief _ fits (λ is. by_live is (live_in fid.seq own_head) refl) where
        by_live : IsFileNumber g fid.num → (o : Option Hdr) → live_in fid.seq own_head ≡ o → Within (if_file (refuses refusal.NoSuchFile) next (option_map (seen_file g fid.num own_head) o)) (locks - 1) (looks - 1)
        by_live is None e = omega arith
        by_live is (Some f) e = so f is e

      -- a directory's lock, its header and its blocks
      pub directory_brief : (next : Block → List Block → Events) → 17 ≤ looks
          → ((seen : List Block) → length seen ≤ 16 → Within (next own_head seen) (locks - 1) (looks - 17)) → Within (through_directory g fid mode next) locks looks
      directory_brief next fits so = header_brief (λ b. in_directory fid b (next b) (live_in fid.seq b)) (omega arith) (λ is. by_live is (live_in fid.seq own_head) refl) where
        by_dir : IsFileNumber g fid.num → (f : Hdr) → live_in fid.seq own_head ≡ Some f → (t : Bool) → f.dir ≡ t
            → Within (cond t (look_all (S fid.num) (places_in own_head) (next own_head)) (refuses refusal.NotDir)) (locks - 1) (looks - 1)
        by_dir is f e true d =
            let few = few_places g bs own c s fid.num is f (live_reads fid.seq (head_told own_head) f e) d in
            all_brief (S fid.num) (places_in own_head) (next own_head) 16 (locks - 1) (looks - 1) few (omega arith)
            (λ seen same. subst (λ n. Within (next own_head seen) (locks - 1) n) (let z : looks - 17 ≡ looks - 1 - 16 = omega arith in z) (so seen (omega arith)))
        by_dir is f e false d = omega arith

        by_live : IsFileNumber g fid.num → (o : Option Hdr) → live_in fid.seq own_head ≡ o → Within (in_directory fid own_head (next own_head) o) (locks - 1) (looks - 1)
        by_live is None e = omega arith
        by_live is (Some f) e = by_dir is f e f.dir refl

-- ---- writes

filter_few : {X : Type 0} (p : X → Bool) (xs : List X) → length (filter p xs) ≤ length xs
filter_few p [] = omega arith
filter_few p (x ∷ xs) = by_test (p x) (filter_few p xs) where
  by_test : (t : Bool) → length (filter p xs) ≤ length xs → length (cond t (x ∷ filter p xs) (filter p xs)) ≤ length (x ∷ xs)
  by_test true le = omega arith
  by_test false le = omega arith

-- a volume has at most 65,536 clusters
pub few_storage : (g : Geometry) → IsGeometry g → storage_blocks (total_of g) ≤ 16
few_storage g geo =
    let top = geo.blocks_to in
    let low = geo.cluster_from in
    let all : total_of g ≤ g.blocks = div-le_self g.blocks g.cluster in
    omega arith

-- the write of an owner's row, where the owner has one
pub owner_few : (g : Geometry) (quota : List Block) (owner : Uic) (change : Row → Row) (s : Stage) (out : Held) → length (owner_write g quota owner change s out) ≤ 1
unfolding owner_write
owner_few g quota owner change s out = by_place (row_place (is_row_of owner) quota) where
  by_place : (o : Option ℕ) → length (changed_write g quota change s out o) ≤ 1
  by_place None = omega arith
  by_place (Some j) = omega arith

moves_few : (d : SeenDir) (before after : Stage) (k : ℕ) (ms : List Move) → length (moves_at d before after k ms) ≡ length ms
moves_few d before after k ms =
    let all = length-append (map (move_write d before) (take k ms)) (map (move_write d after) (drop k ms)) in
    let first = length-map (take k ms) (move_write d before) in
    let behind = length-map (drop k ms) (move_write d after) in
    omega (arith, length-take k ms, length-drop k ms)

rising_few : (vbn : ℕ) (xs ys : List Block) → length (rising vbn xs ys) ≤ length xs
rising_few vbn [] ys = omega arith
rising_few vbn (x ∷ xs) [] = omega arith
rising_few vbn (x ∷ xs) (y ∷ ys) = by_same (bytes_eq x y) (rising_few (suc vbn) xs ys) where
  by_same : (t : Bool) → length (rising (suc vbn) xs ys) ≤ length xs → length (cond t (rising (suc vbn) xs ys) (record { vbn = vbn; block = y } ∷ rising (suc vbn) xs ys)) ≤ length (x ∷ xs)
  by_same true few = omega arith
  by_same false few = omega arith

falling_few : (vbn : ℕ) (xs ys : List Block) → length (falling vbn xs ys) ≤ length xs
falling_few vbn [] ys = omega arith
falling_few vbn (x ∷ xs) [] = omega arith
falling_few vbn (x ∷ xs) (y ∷ ys) = by_same (bytes_eq x y) (falling_few (suc vbn) xs ys) where
  by_same : (t : Bool) → length (falling (suc vbn) xs ys) ≤ length xs → length (cond t (falling (suc vbn) xs ys) (falling (suc vbn) xs ys ++ record { vbn = vbn; block = y } ∷ [])) ≤ length (x ∷ xs)
  by_same true few = omega arith
  by_same false few = let e = length-append (falling (suc vbn) xs ys) (record { vbn = vbn; block = y } ∷ []) in omega arith

less_few : (vbn : ℕ) (ws : List Move) → length (less_last vbn ws) ≤ length ws
less_few vbn [] = omega arith
less_few vbn (w ∷ []) = by_test (w.vbn == vbn) where
  by_test : (t : Bool) → length (cond t [] (w ∷ [])) ≤ 1
  by_test true = omega arith
  by_test false = omega arith
less_few vbn (w ∷ v ∷ ws) = let h = less_few vbn (v ∷ ws) in omega arith

packed_count : {A : Type 0} (name : A → List ℕ) (k : ℕ) (es : List A) → length (pack name k es) ≡ k
packed_count name zero es = refl
packed_count name (suc k) es = let h = packed_count name k (unfilled name None 0 es) in omega arith

-- the moves of an insertion into so many blocks
inserting_few : (old : List Block) (e : RawEnt) (r : Result (List RawEnt) DirFault) → length (unwrap_or (insertion_on old e r) []) ≤ 2 * length old + 1
inserting_few old e (Err fault) = omega arith
inserting_few old e (Ok es) = by_room (over name_of (length old) (inserted (as_new es e) es)) where
  new : RawEnt
  new = as_new es e

  left : List Block
  left = map block_of (pack name_of (length old) es)

  right : List (List RawEnt)
  right = pack name_of (length old) (inserted new es)

  moves : List Move
  moves = insert_writes old (pack name_of (length old) es) new right

  few : length moves ≤ 2 * length old + 1
  few =
      let there = rising 1 old left in
      let back = falling 1 left (map block_of (map (without new) right)) in
      let last : Move = record { vbn = suc (place new right); block = block_of (slice_index_or right (place new right) []) } in
      let a = length-append (there ++ less_last (suc (place new right)) back) (last ∷ []) in
      let b = length-append there (less_last (suc (place new right)) back) in
      let count = packed_count name_of (length old) es in
      let same = length-map (pack name_of (length old) es) block_of in
      omega (arith, rising_few 1 old left, falling_few 1 left (map block_of (map (without new) right)), less_few (suc (place new right)) back)

  by_room : (over : List RawEnt) → length (unwrap_or (if_fits over moves) []) ≤ 2 * length old + 1
  by_room [] = few
  by_room (x ∷ xs) = omega arith

-- the moves of a removal from so many blocks
removing_few : (old : List Block) (e : RawEnt) (r : Result (List RawEnt) DirFault) → length (removal_on old e r) ≤ 2 * length old + 1
removing_few old e (Err fault) = omega arith
removing_few old e (Ok es) =
    let packed = pack name_of (length old) es in
    let left : List Block = map block_of packed in
    let others : List Block = map block_of (map (without e) packed) in
    let rest : List Block = map block_of (pack name_of (length old) (without e es)) in
    let there = rising 1 old left in
    let decides : Move = record { vbn = suc (place e packed); block = block_of (without e (slice_index_or packed (place e packed) [])) } in
    let a = length-append there (decides ∷ rising 1 others rest) in
    let count = packed_count name_of (length old) es in
    let m = length-map (map (without e) packed) block_of in
    let k = length-map packed (without e) in
    omega (arith, rising_few 1 old left, rising_few 1 others rest)

-- the writes that enter an entry into a directory of one cluster, and those that remove one
pub insertion_few : (d : SeenDir) (e : DirEnt) (before after : Stage) → length d.blocks ≤ 16 → length (insertion_writes d e before after) ≤ 33
unfolding insertion_writes
insertion_few d e before after few =
    let ms = insertion_moves d e in
    let count = moves_few d before after (length ms - 1) ms in
    let m = inserting_few d.blocks (raw_entry e) (directory d.blocks) in
    omega arith

pub removal_few : (d : SeenDir) (e : DirEnt) (before after : Stage) → length d.blocks ≤ 16 → length (removal_writes d e before after) ≤ 33
unfolding removal_writes
removal_few d e before after few =
    let ms = removal d.blocks e.name e.ver in
    let count = moves_few d before after (packing_writes d.blocks) ms in
    let m = removing_few d.blocks (key e.name e.ver) (directory d.blocks) in
    omega arith

-- ---- clusters that become free

-- the blocks of the storage bitmap that have bits of clusters
pub bitmap_few : (g : Geometry) (qs : List ℕ) → IsGeometry g → length (blocks_for g qs) ≤ 16
unfolding blocks_for
bitmap_few g qs geo =
    let e = length-range_with_len 0 (storage_blocks (total_of g)) in
    let f = filter_few (λ k. list_any (lies_in k) qs) (range_with_len 0 (storage_blocks (total_of g))) in
    let top : storage_blocks (total_of g) ≤ 16 = few_storage g geo in
    omega arith

storage_few : (g : Geometry) (s : Stage) (qs numbers ks : List ℕ) (bs : List Block) → length (storage_writes g s qs numbers ks bs) ≤ length ks
storage_few g s qs numbers [] bs = omega arith
storage_few g s qs numbers (k ∷ ks) [] = omega arith
storage_few g s qs numbers (k ∷ ks) (b ∷ bs) = let h = storage_few g s qs numbers ks bs in omega arith

index_few : (g : Geometry) (s : Stage) (ns : List ℕ) (b : Block) → length (index_write g s ns b) ≤ 1
index_few g s [] b = omega arith
index_few g s (n ∷ ns) b = omega arith

-- the writes of the bitmaps
pub tail_few : (g : Geometry) (s : Stage) (qs numbers : List ℕ) (storage : List Block) (index : Block) → IsGeometry g → length (freeing_tail g s qs numbers storage index) ≤ 17
tail_few g s qs numbers storage index geo =
    let a = length-append (storage_writes g s qs numbers (blocks_for g qs) storage) (index_write g s numbers index) in
    omega (arith, bitmap_few g qs geo, storage_few g s qs numbers (blocks_for g qs) storage, index_few g s numbers index)

-- and of a file that goes, one more for each header behind the first
pub freeing_few : (g : Geometry) (f : SeenFile) (s : SeenSpace) → IsGeometry g → length (freeing_writes g f s) ≤ 19 + length f.rest
unfolding freeing_writes headers_freed
freeing_few g f s geo =
    let qs = all_clusters g f in
    let ns = numbers_of g f in
    let heads = headers_freed g f in
    let slots = slots_freed g stage.Freed qs ns f.rest in
    let tail = freeing_tail g stage.Freed qs ns s.storage s.index in
    let row = owner_write g s.quota f.file.owner (row_discharged (g.cluster * f.file.clusters + 1)) stage.Done empty_handed in
    let all = length-append heads (tail ++ row) in
    let behind = length-append tail row in
    let many : length slots ≡ length f.rest = length-map f.rest _ in
    omega (arith, tail_few g stage.Freed qs ns s.storage s.index geo, owner_few g s.quota f.file.owner (row_discharged (g.cluster * f.file.clusters + 1)) stage.Done empty_handed)
