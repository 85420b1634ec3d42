-- A file that is there and no system file: where a virtual block of it stands, and what guards it.
use Rattle.std.proofs.Common.{◌≡◌, ◌≤◌, ◌-◌, ◌*◌, ◌∙◌, ℕ, List, Some, None, slice_get, sym, ap, arith}
use Rattle.std.specs.Prelude.{slice_index_or}
use Rattle.std.proofs.lemmas.Option.{slice_get-get_or}
use Rattle.base_words.specs.Fields.{Block}
use Rattle.base_words.proofs.Listing.{has_at}
use Rattle.fx_header.specs.declared.run.Run.{Run}
use Rattle.fx_header.specs.declared.slot.Hdr.{Hdr}
use Rattle.fx_header.specs.Pointers.{lbns_in}
use Rattle.lock_db.specs.declared.name.LockName.TheVariants.{S}
use Rattle.plain_cat.specs.declared.cat.Cat.{Cat}
use Rattle.plain_cat.specs.declared.cat.File.{File}
use Rattle.vol_parts.specs.declared.geometry.Geometry.{Geometry}
use Rattle.vol_spell.specs.Bodies.{IsOfBody}
use Rattle.vol_spell.specs.Files.{IsFileThere}
use Rattle.vol_spell.specs.Owners.{Owners}
use Rattle.vol_spell.specs.Reading.{owner_at, told_of, body_places}
use Rattle.vol_spell.specs.Spelling.{Spells}
use Rattle.vol_spell.proofs.FilePlaces.{places, count}
use Rattle.vol_spell.proofs.Frames.{of_body}
use Rattle.vol_under.specs.Guards.{Lock, guard_by, guard_of}
use Rattle.op_law.specs.SeenFiles.{file_place}
use Rattle.op_steps.specs.Files.{file_in}
use Rattle.op_steps.proofs.WholeFiles.{whole_runs}

module _ (g : Geometry) (bs : List Block) (own : Owners) (x : Cat) (n : ℕ) (h : Hdr) (f : File) (s : Spells g bs own x) (there : IsFileThere g x bs n h f) where
  module _ (vbn : ℕ) (from : 1 ≤ vbn) (to : vbn ≤ g.cluster * f.clusters) where
    -- where the virtual block stands
    pub place : slice_get (lbns_in (told_of g bs n).runs) (vbn - 1) ≡ Some (file_place (file_in g bs n h) vbn)
    place =
        slice_get-get_or (lbns_in (told_of g bs n).runs) (vbn - 1) 0 (let e = count g bs own x n h f s there in omega arith)
        ∙ ap (λ (rs : List Run). Some (slice_index_or (lbns_in rs) (vbn - 1) 0)) (sym (whole_runs g bs n h there.reads))

    pub body_place : slice_get (body_places n (told_of g bs n)) (vbn - 1) ≡ Some (file_place (file_in g bs n h) vbn)
    body_place = ap (λ (ls : List ℕ). slice_get ls (vbn - 1)) (places g bs own x n h f s there) ∙ place

    -- it lies in the file's clusters
    pub lies : IsOfBody g bs own n (file_place (file_in g bs n h) vbn)
    lies =
        let l = file_place (file_in g bs n h) vbn in
        of_body g bs own x s n l there.number (has_at (body_places n (told_of g bs n)) (vbn - 1) l body_place)

    -- and the file's lock guards it
    pub guard : guard_of g own (file_place (file_in g bs n h) vbn) ≡ Some (Lock (S n))
    guard =
        let l = file_place (file_in g bs n h) vbn in
        ap (λ p. guard_by p (owner_at g own l)) lies.no_part ∙ ap (λ o. guard_by None o) lies.owned
