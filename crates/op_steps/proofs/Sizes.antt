-- The mark and the end of a file with a virtual block written, and its header.
use Rattle.std.proofs.Common.{◌≡◌, ◌≤◌, ◌+◌, ◌∙◌, ℕ, Bool, true, false, cond, List, [], ◌∷◌, refl, sym, ap, subst, arith}
use Rattle.std.specs.Prelude.{nat_le}
use Rattle.base_words.specs.Fields.{Block}
use Rattle.fx_header.specs.declared.slot.Hdr.{Hdr}
use Rattle.lock_db.specs.declared.name.LockName.TheVariants.{S}
use Rattle.plain_cat.specs.declared.history.Stage.TheVariants as stage
use Rattle.plain_cat.specs.declared.cat.Cat.{Cat}
use Rattle.plain_cat.specs.declared.cat.File.{File}
use Rattle.plain_rules.specs.Changes.{with_file, is_past_mark, with_block, ended, marked_up}
use Rattle.base_words.specs.Lists.{Has}
use Rattle.vol_spell.specs.Owners.{Owners}
use Rattle.vol_spell.specs.Reading.{header_block}
use Rattle.vol_under.specs.Chains.{End}
use Rattle.op_law.specs.Channels.{written_header, sizes_write}
use Rattle.vol_spell.specs.Files.{with_sizes, IsFileThere, IsResized}
use Rattle.op_law.specs.Writing.{empty_handed, header_write}
use Rattle.op_steps.specs.Chained.{Chain, StepsOf, StageOf, after_writes, StandsOn}
use Rattle.op_steps.specs.Files.{file_in}
use Rattle.op_steps.proofs.Kept.{sized_steps}
use Rattle.op_steps.specs.BlockWrites.{file_with}

-- the file with this mark and these blocks, where the end comes behind a virtual block or stays
abbrev pub sized_as : File → ℕ → Bool → ℕ → List Block → File
sized_as f mark moves vbn w = record f { mark = mark; end = cond moves (vbn + 1) f.end; byte = cond moves 0 f.byte; written = w }

-- by whether the block lies at or above the mark, and at or past the end
pub ended_as : (f : File) (vbn : ℕ) (past moves : Bool) → is_past_mark f vbn ≡ past → nat_le f.end vbn ≡ moves → ended (marked_up f vbn) vbn ≡ sized_as f (cond past (vbn + 1) f.mark) moves vbn f.written
ended_as f vbn past moves p m = ap (λ (t : Bool). ended (cond t (record f { mark = vbn + 1 }) f) vbn) p ∙ by_past past where
  by_moves : (mark : ℕ) (t : Bool) → cond t (record f { mark = mark; end = vbn + 1; byte = 0 }) (record f { mark = mark }) ≡ sized_as f mark t vbn f.written
  by_moves mark true = refl
  by_moves mark false = refl

  by_past : (t : Bool) → ended (cond t (record f { mark = vbn + 1 }) f) vbn ≡ sized_as f (cond t (vbn + 1) f.mark) moves vbn f.written
  by_past true = ap (λ (u : Bool). cond u (record f { mark = vbn + 1; end = vbn + 1; byte = 0 }) (record f { mark = vbn + 1 })) m ∙ by_moves (vbn + 1) moves
  by_past false = ap (λ (u : Bool). cond u (record f { end = vbn + 1; byte = 0 }) f) m ∙ by_moves f.mark moves

-- so is the file with the block written
pub written_as : (f : File) (vbn : ℕ) (b : Block) (past moves : Bool) → is_past_mark f vbn ≡ past → nat_le f.end vbn ≡ moves → file_with f vbn b ≡ sized_as f (cond past (vbn + 1) f.mark) moves vbn (with_block f vbn b)
written_as f vbn b past moves p m = ap (λ (y : File). record y { written = with_block f vbn b }) (ended_as f vbn past moves p m)

-- and its header
pub header_as : (k : Chain) (n : ℕ) (h : Hdr) (bs : List Block) (f : File) (vbn : ℕ) (past moves : Bool) (w : List Block) → f.mark ≡ h.mark → f.end ≡ h.end → f.byte ≡ h.byte → is_past_mark f vbn ≡ past → nat_le f.end vbn ≡ moves
    → written_header (file_in k.geometry bs n h) vbn ≡ with_sizes (header_block k.geometry bs n) (sized_as f (cond past (vbn + 1) f.mark) moves vbn w)
unfolding written_header
header_as k n h bs f vbn past moves w mark end byte p m =
    let told : File = (file_in k.geometry bs n h).file in
    let b : Block = header_block k.geometry bs n in
    let p' : is_past_mark told vbn ≡ past = ap (λ z. is_past_mark (record told { mark = z }) vbn) (sym mark) ∙ p in
    let m' : nat_le told.end vbn ≡ moves = ap (λ z. nat_le z vbn) (sym end) ∙ m in
    ap (with_sizes b) (ended_as told vbn past moves p' m')
    ∙ ap (λ z. with_sizes b (sized_as (record told { mark = z }) (cond past (vbn + 1) z) moves vbn w)) (sym mark)
    ∙ ap (λ z. with_sizes b (sized_as (record told { mark = f.mark; end = z }) (cond past (vbn + 1) f.mark) moves vbn w)) (sym end)
    ∙ ap (λ z. with_sizes b (sized_as (record told { mark = f.mark; end = f.end; byte = z }) (cond past (vbn + 1) f.mark) moves vbn w)) (sym byte)

-- an end that comes behind a block of the file is at most one block behind its blocks, and has no byte
pub end_in : (moves : Bool) (vbn end limit : ℕ) → vbn ≤ limit → end ≤ limit + 1 → cond moves (vbn + 1) end ≤ limit + 1
end_in true vbn end limit to le = omega arith
end_in false vbn end limit to le = le

pub byte_in : (moves : Bool) (byte : ℕ) → byte ≤ 511 → cond moves 0 byte ≤ 511
byte_in true byte le = omega arith
byte_in false byte le = le

-- ---- the last write

-- the header is the last step
pub header_step : (end : End) (k : Chain) (n : ℕ) (h : Hdr) (f new : File) (vbn : ℕ) (x : Cat) (bs : List Block) (own : Owners) → StandsOn k empty_handed x bs own → IsFileThere k.geometry x bs n h f → f.dir ≡ false
    → IsResized k.geometry bs n h f new → Has k.locks (S n) → StageOf k stage.Done (with_file x n new) → written_header (file_in k.geometry bs n h) vbn ≡ with_sizes (header_block k.geometry bs n) new
    → ((after : List Block) → StandsOn k empty_handed (with_file x n new) after own → end after own)
    → StepsOf end k (sizes_write k.geometry (file_in k.geometry bs n h) vbn ∷ []) bs own
header_step end k n h f new vbn x bs own on there flat sizes lock done same rest =
    subst (λ (b : Block). StepsOf end k (header_write k.geometry n b stage.Done empty_handed ∷ []) bs own) (sym same)
    (sized_steps end k n h f new stage.Done [] x bs own on there flat sizes lock done (λ w same_chain. rest (after_writes (header_write k.geometry n (with_sizes (header_block k.geometry bs n) new) stage.Done empty_handed ∷ []) bs) (record { spelt = w.spelt; outs = w.outs })))
