-- The header that was seen first.
use Rattle.std.proofs.Common.{◌≡◌, ◌≤◌, ◌<◌, ◌+◌, ◌-◌, ◌*◌, ◌∙◌, ◌==◌, ◌&&◌, inl, inr, ℕ, zero, suc, List, [], ◌∷◌, ◌++◌, Option, Some, None, length, flat_map, All, get_or, slice_get, Bool, true, false, not, cond, refl, sym, ap, subst, arith}
use Rattle.std.specs.Prelude.{count_by, Ok}
use Rattle.std.proofs.lemmas.Bool.{cases_lt, and_parts, eqb-true}
use Rattle.std.proofs.lemmas.List.Sums.{count_by-le-length}
use Rattle.std.proofs.Math.Nat.{mul-div-le, mul-le-mul_right}
use Rattle.std.proofs.lemmas.Option.{get_or_from_slice_get}
use Rattle.base_words.specs.Fields.{Block}
use Rattle.fx_header.specs.declared.run.Run.{Run}
use Rattle.fx_header.specs.declared.slot.Hdr.{Hdr}
use Rattle.fx_header.specs.declared.slot.Slot.TheVariants.{Used}
use Rattle.fx_header.specs.Headers.{runs_in}
use Rattle.fx_header.specs.Pointers.{blocks_in}
use Rattle.plain_cat.specs.declared.ids.Fid.{Fid}
use Rattle.plain_cat.specs.declared.mode.Mode.{Mode}
use Rattle.plain_cat.specs.declared.cat.Cat.{Cat}
use Rattle.lock_db.specs.declared.name.LockName.{LockName}
use Rattle.lock_db.specs.declared.name.LockName.TheVariants.{S}
use Rattle.plain_cat.specs.declared.reply.Refusal.TheVariants as refusal
use Rattle.base_words.specs.Lists.{StandsIn}
use Rattle.vol_spell.specs.Owners.{Owners}
use Rattle.vol_parts.specs.declared.geometry.Geometry.{Geometry}
use Rattle.vol_parts.specs.Parts.{IsGeometry}
use Rattle.vol_parts.specs.Chains.{Headers, cut}
use Rattle.vol_parts.specs.Fatal.{is_one_header}
use Rattle.vol_parts.specs.Volumes.{fields_in, runs_with, chain_from}
use Rattle.vol_parts.proofs.Cuts.{cut-none, cut-nil, cut-within, cut-past}
use Rattle.vol_parts.proofs.Walks.{walk-begins}
use Rattle.vol_spell.specs.declared.owner.Owner.TheVariants.{InFile}
use Rattle.vol_spell.specs.Counts.{is_same_owner}
use Rattle.vol_spell.specs.Reading.{IsFileNumber, header_place, header_block, headers_at, head_told, fields_told, runs_first, runs_told, told_of, total_of, alone, clusters_told}
use Rattle.vol_spell.specs.Spelling.{IsWhole, AreWhole, size_in, Spells}
use Rattle.vol_spell.proofs.Parts.{told}
use Rattle.op_law.specs.Readable.{EndsInside, AreInside, HeadIsInside}
use Rattle.op_law.specs.Behind.{first_seen}
use Rattle.op_law.specs.Events.{Events, Take, Look, Space, Follows}
use Rattle.op_law.specs.Rows.{is_number, refuses, through_header}
use Rattle.vol_spell.proofs.Counting.{counts_list}
use Rattle.vol_spell.proofs.Heads.{used_reads, used_first}
use Rattle.vol_spell.proofs.HeadSlots.{reads_runs, dir_one}
use Rattle.vol_spell.proofs.OneHeader.{alone_enough, alone_whole}
use Rattle.vol_spell.proofs.Runs.{size_of_runs}
use Rattle.op_law.proofs.Telling.{number_is}

pub head_inside : (blocks : List (ℕ × Block)) (b : Block) (behind : List (ℕ × Block)) → first_seen blocks ≡ Some (b, behind) → HeadIsInside blocks → AreInside b
head_inside [] b behind e h = absurd (let f : None ≡ Some (b, behind) = e in cc)
head_inside (x ∷ xs) b behind e h =
    let f : ◌≡◌ {A = Option (Block × List (ℕ × Block))} (Some (x.1, xs)) (Some (b, behind)) = e in
    let p : ◌≡◌ {A = Block × List (ℕ × Block)} (x.1, xs) (b, behind) = cc in
    subst AreInside (ap (λ q. q.0) p) h

-- runs inside the whole clusters end at or before LBN 65,536
pub runs_inside : (g : Geometry) (rs : List Run) → IsGeometry g → AreWhole g rs → All EndsInside rs
runs_inside g [] geo w = λ k d lt. absurd (omega arith)
runs_inside g (r ∷ rs) geo w = at (runs_inside g rs geo w.1) where
  at : All EndsInside rs → (k : ℕ) (d : Run) → k < length (r ∷ rs) → EndsInside (get_or (r ∷ rs) k d)
  at rest zero d lt =
      let a : r.lbn + r.count ≤ g.cluster * total_of g = w.0.inside in
      let b : g.cluster * total_of g ≤ g.blocks = mul-div-le g.blocks g.cluster in
      let c = geo.blocks_to in
      omega arith
  at rest (suc k) d lt = rest k d (omega arith)

-- where a cut of runs and others lies in the whole clusters, so does the same cut of the runs alone
pub front_whole : (g : Geometry) (k : ℕ) (rs others : List Run) → AreWhole g (cut k (rs ++ others)) → AreWhole g (cut k rs)
front_whole g zero rs others w = subst (AreWhole g) (sym (cut-none rs)) tt
front_whole g (suc k) [] others w = subst (AreWhole g) (sym (cut-nil (suc k))) tt
front_whole g (suc k) (r ∷ rs) others w = elim (cases_lt r.count (suc k)) [
  | inl past ↦
      let all : IsWhole g r × AreWhole g (cut (suc k - r.count) (rs ++ others)) = subst (AreWhole g) (cut-past (suc k) r (rs ++ others) past) w in
      subst (AreWhole g) (sym (cut-past (suc k) r rs past)) (all.0, front_whole g (suc k - r.count) rs others all.1)
  | inr within ↦ subst (AreWhole g) (cut-within (suc k) r (rs ++ others) (omega arith) within ∙ sym (cut-within (suc k) r rs (omega arith) within)) w
]

-- the block that stands at the place of a header is the header
pub header_is : (g : Geometry) (bs : List Block) (n l : ℕ) (b : Block) → l ≡ header_place g n → slice_get bs l ≡ Some b → header_block g bs n ≡ b
header_is g bs n l b e at = ap (λ k. get_or bs k []) (sym e) ∙ get_or_from_slice_get bs l b [] at

module _ (g : Geometry) (bs : List Block) (own : Owners) (c : Cat) (s : Spells g bs own c) where
  -- the header of a directory lists all of its blocks, and nothing else
  pub dir_told : (n : ℕ) (h : Hdr) → IsFileNumber g n → head_told (header_block g bs n) ≡ Ok (Used h) → h.dir ≡ true → runs_told (header_block g bs n) ≡ runs_in (header_block g bs n)
  dir_told n h is reads dir = reads_runs (header_block g bs n) h reads ∙ alone_whole n h (header_block g bs n) (dir_one g bs own c s n h is reads dir)

  -- the blocks of a file are those of clusters of the volume, each counted once
  pub file_fits : (n : ℕ) (h : Hdr) → IsFileNumber g n → fields_told (header_block g bs n) ≡ Some h → h.blocks ≤ g.blocks
  file_fits n h is e =
      let t = told g bs own c s n is in
      let qs : List ℕ = clusters_told g (told_of g bs n) in
      let count : count_by (is_same_owner (InFile n)) own.clusters ≡ length qs = counts_list (InFile n) qs own.clusters t.once t.runs in
      let len = s.counts.clusters in
      let few : length qs ≤ total_of g = omega (arith, count_by-le-length (is_same_owner (InFile n)) own.clusters) in
      let size : length qs * g.cluster ≡ h.blocks = size_of_runs g (told_of g bs n).runs s.counts.geometry.cluster_from t.whole ∙ t.size ∙ ap size_in e in
      let most : length qs * g.cluster ≤ total_of g * g.cluster = mul-le-mul_right g.cluster few in
      let top : g.cluster * total_of g ≤ g.blocks = mul-div-le g.blocks g.cluster in
      let turned : total_of g * g.cluster ≡ g.cluster * total_of g = omega arith in
      omega arith

  -- the runs of a file begin with those that its first header lists
  first_whole : (n : ℕ) (h : Hdr) → IsFileNumber g n → fields_told (header_block g bs n) ≡ Some h → AreWhole g (runs_told (header_block g bs n))
  first_whole n h is e =
      let hs : Headers = headers_at g bs in
      let begins = walk-begins hs 15 n h h.blocks in
      let listed : flat_map hs.lists (n ∷ begins.0) ≡ runs_in (header_block g bs n) ++ flat_map hs.lists begins.0 =
      ap (λ o. runs_with o (header_block g bs n) ++ flat_map hs.lists begins.0) (ap fields_in (used_reads (header_block g bs n) h e)) in
      let runs : (told_of g bs n).runs ≡ cut h.blocks (runs_in (header_block g bs n) ++ flat_map hs.lists begins.0) =
      ap (λ o. (chain_from hs n o).runs) e ∙ ap (λ ns. cut h.blocks (flat_map hs.lists ns)) begins.1 ∙ ap (cut h.blocks) listed in
      let front = front_whole g h.blocks (runs_in (header_block g bs n)) (flat_map hs.lists begins.0) (subst (AreWhole g) runs (told g bs own c s n is).whole) in
      subst (AreWhole g) (ap (λ o. runs_first o (header_block g bs n)) (sym e)) front

  -- what the header of a number lists of a file is inside
  pub listed_inside : (n : ℕ) → IsFileNumber g n → AreInside (header_block g bs n)
  listed_inside n is =
      let b : Block = header_block g bs n in
      record {
        runs = runs_inside g (runs_told b) s.counts.geometry (by_fields (fields_told b) refl);
        few = λ h e. let fits = file_fits n h is e in let top = s.counts.geometry.blocks_to in omega arith;
        dir = λ h e d. dir_told n h is (used_first b h e) d;
        enough = λ h e d. alone_enough h b (one_size h (dir_one g bs own c s n h is (used_first b h e) d));
      }
    where
      by_fields : (o : Option Hdr) → fields_told (header_block g bs n) ≡ o → AreWhole g (runs_told (header_block g bs n))
      by_fields None e = subst (AreWhole g) (ap (λ o. runs_first o (header_block g bs n)) (sym e)) tt
      by_fields (Some h) e = first_whole n h is e

      one_size : (h : Hdr) → is_one_header h (alone n h (header_block g bs n)) ≡ true → blocks_in (cut h.blocks (runs_in (header_block g bs n))) ≡ h.blocks
      one_size h one =
          let t = alone n h (header_block g bs n) in
          let parts = and_parts (h.ext == 0) (not t.surplus && (blocks_in t.runs == h.blocks)) one in
          eqb-true (blocks_in t.runs) h.blocks (and_parts (not t.surplus) (blocks_in t.runs == h.blocks) parts.1).1

  -- so is the block that was looked at in its place
  pub header_inside : (n : ℕ) (b : Block) → IsFileNumber g n → slice_get bs (header_place g n) ≡ Some b → AreInside b
  header_inside n b is at = subst AreInside (header_is g bs n (header_place g n) b refl at) (listed_inside n is)

  -- so is what was seen first under a file's lock
  pub through_inside : (fid : Fid) (mode : Mode) (next : Block → Events) (locks : List (LockName × Mode)) (blocks : List (ℕ × Block)) (space : Space) (given : Type 0)
      → StandsIn bs blocks → Follows (through_header g fid mode next) locks blocks space given → HeadIsInside blocks
  through_inside fid mode next locks blocks space given stands f = by_number (is_number g fid) refl f where
    by_locks : (ls : List (LockName × Mode)) (xs : List (ℕ × Block)) → IsFileNumber g fid.num → StandsIn bs xs
        → Follows (Take (S fid.num) mode (Look (S fid.num) (header_place g fid.num) next)) ls xs space given → HeadIsInside xs
    by_locks [] xs is at f = subst HeadIsInside (sym f.0) tt
    by_locks (l ∷ ls) [] is at f = tt
    by_locks (l ∷ ls) (x ∷ xs) is at f = header_inside fid.num x.1 is (subst (λ k. slice_get bs k ≡ Some x.1) f.1.0 at.0)

    by_number : (t : Bool) → is_number g fid ≡ t
        → Follows (cond t (Take (S fid.num) mode (Look (S fid.num) (header_place g fid.num) next)) (refuses refusal.NoSuchFile)) locks blocks space given → HeadIsInside blocks
    by_number true e f = by_locks locks blocks (number_is g fid e) stands f
    by_number false e f = subst HeadIsInside (sym f.1) tt
