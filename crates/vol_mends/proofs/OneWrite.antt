-- Directories of which no entry stands in two blocks.
use Rattle.std.proofs.Common.{◌≡◌, ◌∙◌, ℕ, Bool, true, false, cond, List, [], ◌∷◌, Option, Some, None, map, refl, sym, ap}
use Rattle.std.specs.Prelude.{◌&&◌, ◌||◌}
use Rattle.std.specs.List.{list_any}
use Rattle.base_words.specs.Fields.{Block}
use Rattle.base_words.specs.Packing.{pack}
use Rattle.fx_header.specs.declared.slot.Hdr.{Hdr}
use Rattle.fx_header.specs.Pointers.{lbns_in}
use Rattle.fx_dir.specs.declared.RawEnt.{RawEnt}
use Rattle.fx_dir.specs.Lists.{joined}
use Rattle.fx_dir.specs.Entries.{rises, has}
use Rattle.fx_dir.specs.Directory.{entries_at}
use Rattle.fx_dir.specs.Writing.{name_of, block_of}
use Rattle.fx_dir.specs.Laws.{has_double as stands_twice}
use Rattle.fx_dir.proofs.Meeting.{Sound}
use Rattle.fx_dir.proofs.Single.{single_packed}
use Rattle.plain_cat.specs.declared.cat.Cat.{Cat}
use Rattle.vol_spell.specs.Owners.{Owners}
use Rattle.vol_spell.specs.Spread.{blocks_at}
use Rattle.vol_parts.specs.declared.geometry.Geometry.{Geometry}
use Rattle.vol_parts.specs.Volumes.{Told, fields_in, body}
use Rattle.vol_parts.specs.Catalogues.{is_structure}
use Rattle.vol_parts.specs.Fatal.{is_system_header}
use Rattle.plain_rules.specs.SystemFiles.{is_system_directory}
use Rattle.vol_parts.specs.Warnings.{is_double_dir, has_doubles}
use Rattle.fx_dir.specs.Laws.{has_double}
use Rattle.vol_spell.specs.Reading.{IsFileNumber, told_of, body_blocks}
use Rattle.vol_spell.specs.Spelling.{Spells}
use Rattle.vol_spell.specs.Views.{IsSameFile}
use Rattle.vol_spell.proofs.Told.{no_dir, no_directory}
use Rattle.vol_mends.proofs.Views.{v, v_fields, v_body, system}
use Rattle.vol_mends.specs.Told.{IsSingle}

-- ---- what the blocks tell

dull : (o : Option Hdr) (n : ℕ) (xs ys : List Block) → is_system_directory n ≡ false → is_system_header n o ≡ true → is_double_dir o xs ≡ is_double_dir o ys
dull None n xs ys d e = refl
dull (Some f) n xs ys d e =
    let h : f.dir ≡ false = no_dir n f d e in
    ap (λ t. t && has_double (map entries_at xs)) h ∙ sym (ap (λ t. t && has_double (map entries_at ys)) h)

-- whether a directory has doubles, by its header and its blocks
pub doubles_told : (label : List ℕ) (g : Geometry) (bs : List Block) (own : Owners) (c : Cat) (s : Spells g bs own c) (n : ℕ) → IsFileNumber g n
    → has_doubles (v label g bs own c s) n ≡ is_double_dir (fields_in (told_of g bs n).head) (body_blocks bs n (told_of g bs n))
unfolding has_doubles
doubles_told label g bs own c s n is =
    ap (λ o. is_double_dir o (body (v label g bs own c s) n)) (v_fields label g bs own c s n is)
    ∙ (ap (λ xs. is_double_dir (fields_in (told_of g bs n).head) xs) (v_body label g bs own c s n is) ∙ by_kind (is_structure n) refl)
  where
    by_kind : (k : Bool) → is_structure n ≡ k
        → is_double_dir (fields_in (told_of g bs n).head) (blocks_at bs (lbns_in (told_of g bs n).runs)) ≡ is_double_dir (fields_in (told_of g bs n).head) (body_blocks bs n (told_of g bs n))
    by_kind true e = dull (fields_in (told_of g bs n).head) n _ _ (no_directory n e) (system label g bs own c s n e)
    by_kind false e = ap (λ t. is_double_dir (fields_in (told_of g bs n).head) (blocks_at bs (cond t [] (lbns_in (told_of g bs n).runs)))) (sym e)

-- a directory that keeps its header and its blocks gets none
pub single_same : (g : Geometry) (bs new : List Block) (own now : Owners) (c d : Cat) → Spells g bs own c → Spells g new now d → (n : ℕ) → IsFileNumber g n → IsSameFile g bs new n → IsSingle g bs n → IsSingle g new n
single_same g bs new own now c d s t n is f h =
    doubles_told [] g new now d t n is
    ∙ (ap (λ (t : Told). is_double_dir (fields_in t.head) (body_blocks new n (told_of g new n))) f.told
    ∙ (ap (λ xs. is_double_dir (fields_in (told_of g bs n).head) xs) f.body ∙ (sym (doubles_told [] g bs own c s n is) ∙ h)))

-- ---- packed blocks

alike : (gs : List (List RawEnt)) → has_double gs ≡ stands_twice gs
alike [] = refl
alike (es ∷ ess) = ap (λ t. list_any (has (joined ess)) es || t) (alike ess)

by_fields : (o : Option Hdr) (xs : List Block) → has_double (map entries_at xs) ≡ false → is_double_dir o xs ≡ false
by_fields None xs e = refl
by_fields (Some f) xs e = by_dir f.dir where
  by_dir : (d : Bool) → d && has_double (map entries_at xs) ≡ false
  by_dir true = e
  by_dir false = refl

-- nor does one whose blocks are packed
pub single_of : (g : Geometry) (bs : List Block) (own : Owners) (c : Cat) → Spells g bs own c → (n k : ℕ) (es : List RawEnt) → IsFileNumber g n → Sound es → rises es ≡ true
    → body_blocks bs n (told_of g bs n) ≡ map block_of (pack name_of k es) → IsSingle g bs n
single_of g bs own c s n k es is sound order e =
    doubles_told [] g bs own c s n is
    ∙ (ap (λ xs. is_double_dir (fields_in (told_of g bs n).head) xs) e
    ∙ by_fields (fields_in (told_of g bs n).head) (map block_of (pack name_of k es)) (alike (map entries_at (map block_of (pack name_of k es))) ∙ single_packed k es sound.form sound.ranged order))
