-- Writes of a repair before the blocks spell a catalogue: each touches no more than a repair may touch.
use Rattle.std.proofs.Common.{◌≡◌, ◌∙◌, ℕ, List, [], length, slice_set, get_or-set_other, sym, subst, inl, inr}
use Rattle.std.specs.Prelude.{◌<◌, slice_index_or}
use Rattle.std.proofs.Math.ListN.{length-set}
use Rattle.base_words.specs.Fields.{Block, IsWholeBlock}
use Rattle.fx_home.specs.declared.home.Home.{Home}
use Rattle.fx_home.specs.Homes.{IsWithinLimits}
use Rattle.vol_parts.specs.Volumes.{Volume, volume, IsNumber, header_lbn, header_at, head}
use Rattle.vol_spell.proofs.Keeping.{whole_set}
use Rattle.vol_sound.specs.Freeing.{HasSystem, IsSlotLeft}
use Rattle.vol_sound.proofs.Freed.{head_by}
use Rattle.vol_repair.specs.Touched.{IsTouchable, IsTouched, IsGround}
use Rattle.vol_repair.specs.Laws.{TouchingIsEasy}
use Rattle.vol_repair.proofs.Places.{touchable_on, slot_still}

module _ (home : Home) (first now : List Block) (l : ℕ) (b : Block) (within : IsWithinLimits home) (system : HasSystem (volume home first)) (t : IsTouchable (volume home first) l) where
  abbrev v : Volume
  v = volume home first

  abbrev new : List Block
  new = slice_set now l b

  -- the block of another place stays
  other_same : (j : ℕ) → (IsTouchable v j → ⊥) → slice_index_or new j [] ≡ slice_index_or now j []
  other_same j none = get_or-set_other now l j b [] (λ e. none (subst (λ (k : ℕ). IsTouchable v k) (sym e) t))

  -- so does each header slot
  header_same : (m : ℕ) → IsNumber v m → header_at (volume home new) m ≡ header_at (volume home now) m
  header_same m is = other_same (header_lbn v m) (slot_still home first within system m is)

  head_same : (m : ℕ) → IsNumber v m → head (volume home new) m ≡ head (volume home now) m
  head_same m is = head_by home now new (length-set now l b) m (header_same m is)

  slot_left : (m : ℕ) → IsNumber v m → IsSlotLeft v (volume home now) m → IsSlotLeft v (volume home new) m
  slot_left m is (inl same) = inl (header_same m is ∙ same)
  slot_left m is (inr gone) = inr (gone.0, head_same m is ∙ gone.1)

  pub touch_more : IsTouched home first now → IsTouched home first new
  touch_more k = record {
    freed = record { count = length-set now l b ∙ k.freed.count; slots = λ m is. slot_left m is (k.freed.slots m is) };
    others = λ j apart none. other_same j none ∙ k.others j apart none;
  }

  pub ground_more : IsGround home first now → IsWholeBlock b → IsGround home first new
  ground_more g whole =
      let more = touch_more g.touched in
      record {
        system = g.system;
        touched = more;
        freed = record { freed = more.freed; all = λ m is lost. head_same m is ∙ g.freed.all m is lost };
        whole = whole_set now l b g.whole whole;
      }

pub touching_is_easy : TouchingIsEasy
touching_is_easy = record {
  on = touchable_on_at;
  touch = λ home first now l b within system k t. touch_more home first now l b within system t k;
  ground = λ home first now l b within g t whole. ground_more home first now l b within g.system t g whole;
} where
  touchable_on_at : (home : Home) (first : List Block) (l : ℕ) → IsWithinLimits home → HasSystem (volume home first) → IsTouchable (volume home first) l → l < length first
  touchable_on_at home first l within system t = touchable_on home first within system l t
