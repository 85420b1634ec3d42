-- The entries of the master file directory are in order and in form.
use Rattle.std.proofs.Common.{◌≡◌, ◌<◌, ◌≤◌, ◌^◌, ℕ, zero, suc, List, [], ◌∷◌, map, Option, Some, None, true, codes, refl, sym, ap, ◌∙◌, arith}
use Rattle.std.proofs.lemmas.Bool.Decides.{nat_tests}
use Rattle.base_words.specs.Fields.{Block}
use Rattle.base_words.specs.Packing.{cost, unfilled, pack, over}
use Rattle.base_words.specs.Names.{is_name, is_part, is_character}
use Rattle.fx_dir.specs.declared.RawEnt.{RawEnt}
use Rattle.fx_dir.specs.Lists.{Each, joined}
use Rattle.fx_dir.specs.Directory.{entries_at, all_entries}
use Rattle.fx_dir.specs.Entries.{rises, before}
use Rattle.fx_dir.specs.Writing.{IsInForm, IsRanged, IsUniform, name_of, block_of, if_fits, packed}
use Rattle.fx_dir.proofs.Finding.{each-at}
use Rattle.fx_dir.proofs.Meeting.{Sound}
use Rattle.fx_dir.proofs.Mixing.{pack-joined, pack-reads}
use Rattle.fx_dir.proofs.Views.{own-view}
use Rattle.fx_dir.proofs.Showing.{seen}
use Rattle.fx_dir.proofs.Building.{map-own, keeps-uniform, pack-seen}
use Rattle.plain_rules.specs.SystemFiles.{system_seq}
use Rattle.vol_init.specs.Layouts.{main_entry, main_entries}

pub main-rises : rises main_entries ≡ true
unfolding main_entries before
main-rises = refl

form : (name : List ℕ) (n : ℕ) → is_name name ≡ true → n ≤ 11 → IsInForm (main_entry name n)
form name n e h = record { named = e; from_one = omega arith; to_last = omega arith; numbered = omega arith }

pub main-form : Each IsInForm main_entries
unfolding main_entries is_name is_part is_character
main-form = (
  form (codes "000000.DIR") 4 refl (omega arith),
  (
    form (codes "BACKUP.SYS") 8 refl (omega arith),
    (
      form (codes "BADBLK.SYS") 3 refl (omega arith),
      (
        form (codes "BADLOG.SYS") 9 refl (omega arith),
        (
          form (codes "BITMAP.SYS") 2 refl (omega arith),
          (
            form (codes "CONTIN.SYS") 7 refl (omega arith),
            (
              form (codes "CORIMG.SYS") 5 refl (omega arith),
              (
                form (codes "INDEXF.SYS") 1 refl (omega arith),
                (
                  form (codes "QUOTA.SYS") 10 refl (omega arith),
                  (
                    form (codes "SYSLOST.DIR") 11 refl (omega arith),
                    (form (codes "VOLSET.SYS") 6 refl (omega arith), tt),
                  ),
                ),
              ),
            ),
          ),
        ),
      ),
    ),
  ),
)

-- a new record's version limit and flags
abbrev New : RawEnt → Type 0
New e = (e.limit ≡ 32767) × (e.flags ≡ 0)

main-new : Each New main_entries
unfolding main_entries
main-new = ((refl, refl), ((refl, refl), ((refl, refl), ((refl, refl), ((refl, refl), ((refl, refl), ((refl, refl), ((refl, refl), ((refl, refl), ((refl, refl), ((refl, refl), tt)))))))))))

seq-small : (n : ℕ) → n ≤ 11 → system_seq n < 2 ^ 16
seq-small n h = grind (arith, nat_tests)

pub main-uniform : IsUniform main_entries
main-uniform a b ina inb e =
    let x = each-at New main_entries a main-new ina in
    let y = each-at New main_entries b main-new inb in
    (x.0 ∙ sym y.0, x.1 ∙ sym y.1)

ranged : (name : List ℕ) (n : ℕ) → n ≤ 11 → IsRanged (main_entry name n)
ranged name n h = record { seq = seq-small n h; limit = omega arith; flags = omega arith }

pub main-ranged : Each IsRanged main_entries
unfolding main_entries
main-ranged = (
  ranged (codes "000000.DIR") 4 (omega arith),
  (
    ranged (codes "BACKUP.SYS") 8 (omega arith),
    (
      ranged (codes "BADBLK.SYS") 3 (omega arith),
      (
        ranged (codes "BADLOG.SYS") 9 (omega arith),
        (
          ranged (codes "BITMAP.SYS") 2 (omega arith),
          (
            ranged (codes "CONTIN.SYS") 7 (omega arith),
            (
              ranged (codes "CORIMG.SYS") 5 (omega arith),
              (
                ranged (codes "INDEXF.SYS") 1 (omega arith),
                (
                  ranged (codes "QUOTA.SYS") 10 (omega arith),
                  (
                    ranged (codes "SYSLOST.DIR") 11 (omega arith),
                    (ranged (codes "VOLSET.SYS") 6 (omega arith), tt),
                  ),
                ),
              ),
            ),
          ),
        ),
      ),
    ),
  ),
)

pub none-over : (k : ℕ) → over name_of k [] ≡ []
none-over zero = refl
none-over (suc k) = none-over k

main-one : unfilled name_of None 0 main_entries ≡ []
unfolding main_entries cost
main-one = refl

-- all of them go into one block
pub main-fits : (k : ℕ) → 1 ≤ k → over name_of k main_entries ≡ []
main-fits zero h = absurd (omega arith)
main-fits (suc k) h = ap (over name_of k) main-one ∙ none-over k

-- ---- what is listed in the blocks of a packing

seen-own : (bs : List Block) → map (seen (λ e. e)) bs ≡ map entries_at bs
seen-own [] = refl
seen-own (b ∷ bs) = λ i. map-own (entries_at b) i ∷ seen-own bs i

pub packed-listed : (k : ℕ) (es : List RawEnt) → over name_of k es ≡ [] → rises es ≡ true → Sound es → IsUniform es → all_entries (map block_of (pack name_of k es)) ≡ es
packed-listed k es all order sound uniform =
    let reads = pack-reads k es all order in
    let bs : List Block = map block_of (pack name_of k es) in
    let same : map (seen (λ e. e)) bs ≡ pack name_of k es =
    pack-seen (λ e. e) own-view k es order sound (keeps-uniform es (pack name_of k es) uniform reads.no_clash) ∙ ap (pack name_of k) (map-own es) in
    ap joined (sym (seen-own bs) ∙ same) ∙ pack-joined k es all

-- a packing with room
pub given-packed : (o : Option (List Block)) (k : ℕ) (es : List RawEnt) → over name_of k es ≡ [] → o ≡ packed k es → o ≡ Some (map block_of (pack name_of k es))
given-packed o k es all e = e ∙ ap (λ xs. if_fits xs (map block_of (pack name_of k es))) all

pub none-uniform : IsUniform []
none-uniform a b ina inb e = absurd ina
