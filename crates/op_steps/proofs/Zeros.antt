-- Zeros at and above the mark of a file are steps that change nothing.
use Rattle.std.proofs.Common.{◌≡◌, ◌≤◌, ◌+◌, ◌-◌, ◌*◌, ◌++◌, ◌∙◌, ℕ, zero, suc, Bool, true, false, cond, List, [], ◌∷◌, Some, map, slice_set, refl, sym, ap, subst, arith}
use Rattle.std.specs.Prelude.{◌==◌, ◌&&◌, not, nat_le}
use Rattle.std.specs.List.{range_with_len}
use Rattle.std.proofs.lemmas.Bool.Decides.{nat_tests}
use Rattle.base_words.specs.Fields.{Block}
use Rattle.base_words.specs.Tables.{zeros}
use Rattle.vol_parts.proofs.WholeFields.{whole_zeros}
use Rattle.fx_header.specs.declared.slot.Hdr.{Hdr}
use Rattle.plain_cat.specs.declared.history.Stage.TheVariants as stage
use Rattle.plain_cat.specs.declared.cat.Cat.{Cat}
use Rattle.plain_cat.specs.declared.cat.File.{File}
use Rattle.plain_rules.specs.Lookups.{file_at}
use Rattle.plain_rules.specs.Changes.{with_file, is_past_mark}
use Rattle.base_words.specs.Lists.{written}
use Rattle.vol_spell.specs.Owners.{Owners}
use Rattle.vol_spell.specs.Reading.{header_block, head_told}
use Rattle.vol_spell.specs.Spelling.{Spells}
use Rattle.vol_under.specs.Chains.{End}
use Rattle.op_law.specs.declared.need.PlanWrite.{PlanWrite}
use Rattle.op_law.specs.Refusing.{SeenFile}
use Rattle.op_law.specs.SeenFiles.{file_write}
use Rattle.op_law.specs.Writing.{empty_handed}
use Rattle.op_steps.specs.Chained.{Chain, StepsOf, StageOf, after_writes, StandsOn}
use Rattle.op_steps.specs.Files.{file_in}
use Rattle.vol_spell.specs.Files.{blocks_told as blocks_in, IsFileThere, showing}
use Rattle.op_steps.specs.BlockWrites.{IsBlockWritten}
use Rattle.op_steps.proofs.Lists.{filled}
use Rattle.vol_spell.proofs.Slots.{slot_same}
use Rattle.op_steps.proofs.BlockSteps.{block_steps}

-- a block at or above the mark leaves the catalogue
pub same_past : (x : Cat) (n : ℕ) (f : File) (vbn : ℕ) (b : Block) → file_at x n ≡ Some f → is_past_mark f vbn ≡ true → with_file x n (showing f vbn b) ≡ x
same_past x n f vbn b at past = ap (λ (t : Bool). with_file x n (cond t f (record f { written = slice_set f.written (vbn - 1) b }))) past ∙ slot_same x n f at

-- the file is there still where its header is the same
pub still_there : (k : Chain) (n : ℕ) (h : Hdr) (f : File) (x : Cat) (bs after : List Block) → header_block k.geometry after n ≡ header_block k.geometry bs n → IsFileThere k.geometry x bs n h f → IsFileThere k.geometry x after n h f
still_there k n h f x bs after same there = record { number = there.number; above = there.above; reads = ap head_told same ∙ there.reads; file = there.file }

-- a block lies at or above a mark
pub lies_past : (f : File) (vbn : ℕ) → 1 ≤ f.mark → f.mark ≤ vbn → is_past_mark f vbn ≡ true
lies_past f vbn low le =
    let some : (f.mark == 0) ≡ false = grind (arith, nat_tests) in
    let to : nat_le f.mark vbn ≡ true = grind (arith, nat_tests) in
    ap (λ t. not t && nat_le f.mark vbn) some ∙ to

module _ (end : End) (k : Chain) (n : ℕ) (h : Hdr) (f : File) (x : Cat) (own : Owners) (first : StageOf k stage.Nothing x) (flat : f.dir ≡ false) (marked : 1 ≤ f.mark) (ws : List PlanWrite) where
  -- the zeros of j blocks behind the first m, by the file as it is seen
  abbrev pub zeros_by : SeenFile → ℕ → ℕ → List PlanWrite
  zeros_by s m j = map (λ v. file_write s v zeros stage.Nothing) (range_with_len (m + 1) j)

  -- the writes behind them are steps on what they leave
  abbrev pub AfterZeros : ℕ → ℕ → List Block → Type 0
  AfterZeros j m bs = (after : List Block) → StandsOn k empty_handed x after own → file_in k.geometry after n h ≡ file_in k.geometry bs n h
      → blocks_in k.geometry after n ≡ written (filled m j zeros) (blocks_in k.geometry bs n) → StepsOf end k ws after own

  abbrev pub ZeroSteps : ℕ → ℕ → Type 0
  ZeroSteps j m = (bs : List Block) → StandsOn k empty_handed x bs own → IsFileThere k.geometry x bs n h f → f.mark ≤ m + 1 → m + j ≤ k.geometry.cluster * f.clusters → AfterZeros j m bs
      → StepsOf end k (zeros_by (file_in k.geometry bs n h) m j ++ ws) bs own

  -- those behind the first
  others_behind : (j m : ℕ) → ZeroSteps j (m + 1) → (bs : List Block) → IsFileThere k.geometry x bs n h f → f.mark ≤ m + 1 → m + suc j ≤ k.geometry.cluster * f.clusters → AfterZeros (suc j) m bs
      → with_file x n (showing f (m + 1) zeros) ≡ x → (after : List Block) → IsBlockWritten k n (m + 1) zeros (with_file x n (showing f (m + 1) zeros)) own bs after
      → StepsOf end k (zeros_by (file_in k.geometry bs n h) (m + 1) j ++ ws) after own
  others_behind j m more bs there le fits rest same after w =
      subst (λ (s : SeenFile). StepsOf end k (zeros_by s (m + 1) j ++ ws) after own) (w.seen h)
      (more after (record { spelt = subst (λ (y : Cat). Spells k.geometry after own y) same w.on.spelt; outs = w.on.outs })
      (still_there k n h f x bs after w.header there) (omega arith) (omega arith)
      (λ last on' head body. rest last on' (head ∙ w.seen h) (body ∙ ap (written (filled (m + 1) j zeros)) w.blocks)))

  pub zero_steps : (j m : ℕ) → ZeroSteps j m
  zero_steps zero m bs on there le fits rest = rest bs on refl refl
  zero_steps (suc j) m bs on there le fits rest =
      let same : with_file x n (showing f (m + 1) zeros) ≡ x = same_past x n f (m + 1) zeros there.file (lies_past f (m + 1) marked le) in
      block_steps end k n h f (m + 1) zeros stage.Nothing (zeros_by (file_in k.geometry bs n h) (m + 1) j ++ ws) x bs own on
      (record { there = there; flat = flat; from = omega arith; to = omega arith }) whole_zeros (subst (StageOf k stage.Nothing) (sym same) first)
      (others_behind j m (zero_steps j (m + 1)) bs there le fits rest same (after_writes (file_write (file_in k.geometry bs n h) (m + 1) zeros stage.Nothing ∷ []) bs))
