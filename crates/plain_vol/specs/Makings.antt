-- What a command makes before the catalogue is changed, and the answer that it leads to.
use Rattle.std.specs.Prelude.{◌≡◌, ◌<◌, ◌+◌, ◌^◌, ℕ, Bool, true, false, List, ◌∷◌, [], Option, Some, None, Result, Ok, Err, is_none, nat_lt, if◌then◌else◌}
use Rattle.plain_cat.specs.declared.ids.Uic.{Uic}
use Rattle.plain_cat.specs.declared.entries.DirEnt.{DirEnt}
use Rattle.plain_cat.specs.declared.cat.Cat.{Cat}
use Rattle.plain_cat.specs.declared.cat.File.{File}
use Rattle.plain_cat.specs.declared.cat.Slot.TheVariants.{Free}
use Rattle.plain_cat.specs.declared.reply.Reply.TheVariants as reply
use Rattle.plain_cat.specs.declared.reply.Refusal.{Refusal}
use Rattle.plain_cat.specs.declared.reply.Refusal.TheVariants as refusal
use Rattle.plain_rules.specs.declared.outcome.Outcome.{Outcome}
use Rattle.plain_rules.specs.Lookups.{file_at, row_of, free_clusters, is_open}
use Rattle.plain_rules.specs.Directories.{inserted, without, new_version, is_last_version, is_taken}
use Rattle.plain_rules.specs.Changes.{blocks_of, cost, with_slot, with_file, with_entries, charged, discharged, grown, cut, written}
use Rattle.plain_rules.specs.Answers.{told, refused, over_quota}
use Rattle.plain_vol.specs.declared.making.Made.{Made}
use Rattle.plain_vol.specs.declared.sizing.Sizing.{Sizing}
use Rattle.plain_vol.specs.declared.naming.Goner.{Goner}
use Rattle.plain_vol.specs.declared.naming.Loss.{Loss}
use Rattle.plain_vol.specs.declared.naming.Loss.TheVariants as loss
use Rattle.plain_vol.specs.declared.naming.Deletion.{Deletion}
use Rattle.plain_vol.specs.declared.naming.Renaming.{Renaming}

-- the version of a new entry among those of its name, or why it can have none
abbrev pub version_for : ℕ → List DirEnt → Result ℕ Refusal
version_for ver es =
    if is_last_version ver es then Err refusal.BadVersion else (if is_taken (new_version ver es) es then Err refusal.DupFile else Ok (new_version ver es))

-- the refusals of a new file for want of room, but of room in its directory
abbrev pub room_checks : Cat → Uic → ℕ → Option ℕ → List (Bool × Refusal)
room_checks c owner clusters new =
    (is_none (row_of owner c.quota), refusal.NoQuota)
    ∷ (over_quota (row_of owner c.quota) (cost c clusters), refusal.ExQuota)
    ∷ (is_none new, refusal.IndexFull)
    ∷ (nat_lt (free_clusters c) clusters, refusal.DeviceFull)
    ∷ []

-- a file that was found under a number is changed where it stands
abbrev pub changed_of : Cat → ℕ → (File → File) → Option File → Cat
changed_of c n change None = c
changed_of c n change (Some f) = with_file c n (change f)

-- the file of a number is changed where it stands, if there is one
abbrev pub changed : Cat → ℕ → (File → File) → Cat
changed c n change = changed_of c n change (file_at c n)

-- a new file and its entry in the directory that was found under number n
abbrev pub placed : Cat → ℕ → DirEnt → File → Option File → Cat
placed c n e f None = c
placed c n e f (Some d) = with_entries (with_file c e.fid.num f) n d (inserted e d.entries)

-- a new file and its entry in the directory of number n, or a refusal
abbrev pub made_in : Cat → ℕ → Result Made Refusal → Outcome
made_in c n (Err r) = refused c r
made_in c n (Ok m) = record {
  reply = reply.Found m.entry.fid m.entry.name m.entry.ver;
  after = placed (charged c m.file.owner (cost c m.file.clusters)) n m.entry m.file (file_at c n);
}

-- a file that is to be gone
abbrev pub goner_of : Cat → File → Goner
goner_of c f = record { owner = f.owner; charge = cost c f.clusters; seq = f.seq }

-- the file of number n is gone, and its owner is charged no more
abbrev pub less_goner : Cat → ℕ → Goner → Cat
less_goner c n g = with_slot (discharged c g.owner g.charge) n (Free g.seq)

-- marked for delete
abbrev pub marked : File → File
marked f = record f { marked = true }

-- what was found is what the catalogue has under this number
abbrev pub Stands : Cat → ℕ → Option File → Type 0
Stands c n None = Unit {0}
Stands c n (Some f) = file_at c n ≡ Some f

-- what the file of number n is after its entry is gone
abbrev pub lost : Cat → ℕ → Loss → Outcome
lost c n loss.Nothing = told c reply.EntryRemoved
lost c n loss.Mark = told (changed c n marked) reply.Marked
lost c n (loss.Gone g) = told (less_goner c n g) reply.Deleted

-- with k clusters more, the clusters and the blocks of what was found are below 2 ^ 32
abbrev pub MayGrow : Cat → ℕ → Option File → Type 0
MayGrow c k None = Unit {0}
MayGrow c k (Some f) = (f.clusters + k < 2 ^ 32) × (blocks_of c f + 1 < 2 ^ 32)

-- the file of number n is larger, or a refusal
abbrev pub grown_in : Cat → ℕ → Result Sizing Refusal → Outcome
grown_in c n (Err r) = refused c r
grown_in c n (Ok s) = told (changed (charged c s.owner s.change) n (λ f. grown c f s.clusters)) (reply.Size s.size)

-- the file of number n is smaller, or a refusal
abbrev pub cut_in : Cat → ℕ → Result Sizing Refusal → Outcome
cut_in c n (Err r) = refused c r
cut_in c n (Ok s) = told (changed (discharged c s.owner s.change) n (λ f. cut c f s.clusters)) (reply.Size s.size)

-- an entry is gone from the directory of number n, or a refusal
abbrev pub unnamed_in : Cat → ℕ → Result Deletion Refusal → Outcome
unnamed_in c n (Err r) = refused c r
unnamed_in c n (Ok u) =
    lost (changed c n (λ d. record d { entries = without u.entry.name u.entry.ver d.entries })) u.entry.fid.num u.loss

-- another entry stands in the place of one in the directory of number n, or a refusal
abbrev pub renamed_in : Cat → ℕ → Result Renaming Refusal → Outcome
renamed_in c n (Err r) = refused c r
renamed_in c n (Ok m) =
    told (changed c n (λ d. record d { entries = inserted m.to (without m.from.name m.from.ver d.entries) })) (reply.Renamed m.to.name m.to.ver)

-- the file that is to be gone with its last close, as one that is marked for delete
abbrev pub last_of : Cat → Option File → Option Goner
last_of c None = None
last_of c (Some f) = if f.marked then Some (goner_of c f) else None

-- a close of the file of number n, whose channel is closed
abbrev pub closed_by : Cat → ℕ → Option Goner → Outcome
closed_by c n None = told c (reply.Closed false)
closed_by c n (Some g) = if is_open c n then told c (reply.Closed false) else told (less_goner c n g) (reply.Closed true)

-- a virtual block of a file is written, or a refusal
abbrev pub rewritten_in : Cat → ℕ → List ℕ → Result ℕ Refusal → Outcome
rewritten_in c vbn text (Err r) = refused c r
rewritten_in c vbn text (Ok n) = told (changed c n (λ f. written f vbn text)) reply.Written
