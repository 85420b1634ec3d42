-- The commands that give a file more clusters, or fewer.
use Rattle.std.specs.Prelude.{◌-◌, ◌+◌, ◌*◌, ◌++◌, ◌||◌, nat_lt, min, ℕ, Bool, List, [], ◌∷◌, Option, Some, None, option_map, drop, if◌then◌else◌}
use Rattle.base_words.specs.Fields.{Block}
use Rattle.fx_header.specs.Headers.{header_read, with_blocks, with_mark, with_end}
use Rattle.lock_db.specs.declared.name.LockName.TheVariants.{S, V}
use Rattle.plain_cat.specs.declared.ids.Fid.{Fid}
use Rattle.plain_cat.specs.declared.mode.Mode.TheVariants.{PW}
use Rattle.plain_cat.specs.declared.history.Stage.TheVariants as stage
use Rattle.plain_cat.specs.declared.reply.Reply.{Reply}
use Rattle.plain_cat.specs.declared.reply.Reply.TheVariants as reply
use Rattle.plain_cat.specs.declared.reply.Refusal.{Refusal}
use Rattle.plain_cat.specs.declared.reply.Refusal.TheVariants as refusal
use Rattle.plain_cat.specs.declared.cat.File.{File}
use Rattle.plain_rules.specs.Lookups.{row_of, header_most, file_most, needs_header}
use Rattle.plain_rules.specs.Answers.{first_refusal, over_draft, is_kept}
use Rattle.vol_parts.specs.declared.geometry.Geometry.{Geometry}
use Rattle.op_law.specs.declared.need.PlanWrite.{PlanWrite}
use Rattle.vol_spell.specs.Reading.{header_place}
use Rattle.op_law.specs.Events.{Events, Take, Look, Find, Make}
use Rattle.op_law.specs.Rows.{answers}
use Rattle.op_law.specs.Refusing.{SeenFile, unless_refused, through_live, if_given}
use Rattle.op_law.specs.Writing.{holding, empty_handed, with_numbers, header_write, plan_of, clusters_for}
use Rattle.op_law.specs.Entering.{slot_seq}
use Rattle.op_law.specs.Headers.{slot_at, slots_seen, last_header, through_chain, headers_grown, kept_headers, gone_headers, cut_last, slots_freed}
use Rattle.op_law.specs.SeenFiles.{file_clusters}
use Rattle.op_law.specs.Quotas.{through_quota, rows_seen, owner_write, row_charged, row_discharged}
use Rattle.op_law.specs.Freeing.{SeenSpace, rising, blocks_for, look_index, look_storage, freeing_tail}

-- the reply that shows all blocks of so many clusters
abbrev pub size_shown : Geometry → ℕ → Reply
size_shown g clusters = reply.Size (g.cluster * clusters)

-- ---- EXTEND

-- the owner is charged, and the file gets the clusters, and a new header of this number and sequence, if there is one
unfoldable pub growing_writes : Geometry → SeenFile → List Block → List ℕ → ℕ → Option (ℕ × ℕ) → List PlanWrite
growing_writes g f quota qs k new =
    owner_write g quota f.file.owner (row_charged (g.cluster * k)) stage.Charged (holding qs (option_map (λ n. n.0) new))
    ++ headers_grown g f qs new

abbrev pub grown_by : Geometry → SeenFile → List Block → ℕ → List ℕ → Option (ℕ × ℕ) → Events
grown_by g f quota k qs new = Make (plan_of (growing_writes g f quota qs k new) (size_shown g (f.file.clusters + k)))

-- Where a number was given, its lock and its slot, which a new header gets with the sequence that the slot has; then the plan. One is
-- given exactly where one was searched for.
abbrev pub into_headers : Geometry → SeenFile → List Block → ℕ → List ℕ → Option ℕ → Events
into_headers g f quota k qs None = grown_by g f quota k qs None
into_headers g f quota k qs (Some n) =
    Take (S n) PW (Look (S n) (header_place g n) (λ slot. grown_by g f quota k qs (Some (n, slot_seq (header_read slot)))))

-- the refusals that the header shows
abbrev pub growing_refusals : SeenFile → ℕ → List (Bool × Refusal)
growing_refusals f k = (is_kept f.num f.file, refusal.NoPriv) ∷ (nat_lt header_most k || nat_lt file_most (f.file.clusters + k), refusal.FileLimit) ∷ []

-- and the one that the quota blocks show
abbrev pub draft_refusals : Geometry → SeenFile → List Block → ℕ → List (Bool × Refusal)
draft_refusals g f quota k = (over_draft (row_of f.file.owner (rows_seen quota)) (g.cluster * k), refusal.ExQuota) ∷ []

-- behind all headers of the file: the quota, the space, and the plan
abbrev pub growing_events : Geometry → ℕ → SeenFile → Events
growing_events g k f = through_quota g PW (λ quota.
    unless_refused (first_refusal (draft_refusals g f quota k)) (Find k (needs_header f.file.clusters k) (if_given (into_headers g f quota k))))

abbrev pub extend_in : Geometry → ℕ → SeenFile → Events
extend_in g k f = unless_refused (first_refusal (growing_refusals f k)) (through_chain g PW f (growing_events g k))

unfoldable pub extend_events : Geometry → Fid → ℕ → Events
extend_events g file blocks = through_live g file PW (extend_in g (clusters_for g blocks))

-- ---- TRUNC

-- a header whose mark and end are at most one block behind the first `blocks` ones
abbrev pub lowered : Block → File → ℕ → Block
lowered head f blocks = with_mark (with_end head (min f.end (blocks + 1)) (if nat_lt (blocks + 1) f.end then 0 else f.byte)) (min f.mark (blocks + 1))

-- The first header of a file that keeps its first k clusters, and these other headers: its mark and end are lowered, it says the
-- blocks, and where it is the last one it lists the clusters and has no link.
unfoldable pub cut_first : Geometry → SeenFile → ℕ → List (ℕ × Block) → Block
cut_first g f k [] = with_blocks (cut_last g f k (lowered f.head f.file (g.cluster * k))) (g.cluster * k)
cut_first g f k (x ∷ kept) = with_blocks (lowered f.head f.file (g.cluster * k)) (g.cluster * k)

-- the write of the last header that is kept, where it is not the first one; these clusters and numbers are outside then
abbrev pub cut_last_writes : Geometry → SeenFile → ℕ → List ℕ → List ℕ → List (ℕ × Block) → List PlanWrite
cut_last_writes g f k qs ns [] = []
cut_last_writes g f k qs ns (x ∷ kept) =
    let last = last_header g (slot_at g x.0) x.1 kept in
    with_numbers ns (header_write g last.0 (cut_last g f k last.1) stage.Shortened (holding qs None)) ∷ []

-- the clusters behind the first k, rising
abbrev pub cut_clusters : Geometry → SeenFile → ℕ → List ℕ
cut_clusters g f k = rising g (drop k (file_clusters g f))

-- the numbers of the headers that go
abbrev pub cut_numbers : Geometry → SeenFile → ℕ → List ℕ
cut_numbers g f k = slots_seen g (gone_headers f k)

-- The file loses clusters, and headers with them: the first header, which decides; the last one that is kept; and the slots of those
-- that go, in order.
unfoldable pub headers_cut : Geometry → SeenFile → ℕ → List PlanWrite
headers_cut g f k =
    let qs = cut_clusters g f k in
    let ns = cut_numbers g f k in
    with_numbers ns (header_write g f.num (cut_first g f k (kept_headers f k)) stage.Shortened (holding qs None))
    ∷ cut_last_writes g f k qs ns (kept_headers f k)
    ++ slots_freed g stage.Shortened qs ns (gone_headers f k)

-- then the clusters and the numbers become free, and the owner is charged less
unfoldable pub cutting_writes : Geometry → SeenFile → ℕ → SeenSpace → List PlanWrite
cutting_writes g f k s =
    headers_cut g f k
    ++ (freeing_tail g stage.Shortened (cut_clusters g f k) (cut_numbers g f k) s.storage s.index
    ++ owner_write g s.quota f.file.owner (row_discharged (g.cluster * (f.file.clusters - k))) stage.Done empty_handed)

-- Q and V, the quota blocks, the index-file bitmap where a header goes, the storage blocks of the clusters that go, and the plan
abbrev pub cut_to : Geometry → SeenFile → ℕ → Events
cut_to g f k = through_quota g PW (λ quota. Take V PW (look_index g (cut_numbers g f k) (λ index.
    look_storage g (blocks_for g (cut_clusters g f k)) (λ storage.
    Make (plan_of (cutting_writes g f k (record { quota = quota; index = index; storage = storage })) (size_shown g k))))))

-- the file keeps k clusters, or all where it has no more
abbrev pub keep_clusters : Geometry → ℕ → SeenFile → Events
keep_clusters g k f = if nat_lt k f.file.clusters then cut_to g f k else answers (size_shown g f.file.clusters)

abbrev pub trunc_in : Geometry → ℕ → SeenFile → Events
trunc_in g k f = unless_refused (first_refusal ((is_kept f.num f.file, refusal.NoPriv) ∷ [])) (through_chain g PW f (keep_clusters g k))

unfoldable pub trunc_events : Geometry → Fid → ℕ → Events
trunc_events g file blocks = through_live g file PW (trunc_in g (clusters_for g blocks))
