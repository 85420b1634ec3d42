-- On the way along the headers of a file.
use Rattle.std.proofs.Common.{◌≡◌, ◌∙◌, ◌≤◌, ◌<◌, ◌+◌, ◌-◌, ◌++◌, ℕ, zero, suc, List, [], ◌∷◌, Option, Some, None, length, take, drop, refl, sym, ap, subst, arith}
use Rattle.base_words.specs.Fields.{Block}
use Rattle.lock_db.specs.declared.name.LockName.TheVariants.{S}
use Rattle.plain_cat.specs.declared.mode.Mode.{Mode}
use Rattle.vol_parts.specs.declared.geometry.Geometry.{Geometry}
use Rattle.vol_spell.specs.Reading.{header_place}
use Rattle.op_law.specs.declared.seeing.Rest.{Rest}
use Rattle.op_law.specs.Behind.{goes_on_by, first_seen, FollowsBy}
use Rattle.op_law.specs.Events.{Events, Take, Look, Space}
use Rattle.op_law.specs.Headers.{next_number, through_links, with_header}
use Rattle.op_law.specs.Refusing.{SeenFile}
use Rattle.op_steps.specs.Chains.{AreBehind}

-- ---- the blocks that were seen

-- the first of them, and those behind it
record StartsWith (b : Block) (others blocks : List (ℕ × Block)) : Type 0 where
  lbn : ℕ
  is : blocks ≡ (lbn, b) ∷ others

starts : (blocks others : List (ℕ × Block)) (b : Block) → first_seen blocks ≡ Some (b, others) → StartsWith b others blocks
starts [] others b e = absurd (let f : ◌≡◌ {A = Option (Block × List (ℕ × Block))} None (Some (b, others)) = e in cc)
starts (x ∷ blocks) others b e =
    let f : ◌≡◌ {A = Option (Block × List (ℕ × Block))} (Some (x.1, blocks)) (Some (b, others)) = e in
    let same : ◌≡◌ {A = Block × List (ℕ × Block)} (x.1, blocks) (b, others) = cc in
    let block : x.1 ≡ b = ap (λ (p : Block × List (ℕ × Block)). p.0) same in
    let rest : blocks ≡ others = ap (λ (p : Block × List (ℕ × Block)). p.1) same in
    record { lbn = x.0; is = rw (block, rest) refl }

-- one more of them
module _ (x : ℕ × Block) (others : List (ℕ × Block)) where
  drop_more : (i : ℕ) (blocks : List (ℕ × Block)) → drop i blocks ≡ x ∷ others → drop (suc i) blocks ≡ others
  drop_more zero [] e = absurd (let f : ◌≡◌ {A = List (ℕ × Block)} [] (x ∷ others) = e in cc)
  drop_more zero (y ∷ blocks) e = let f : ◌≡◌ {A = List (ℕ × Block)} (y ∷ blocks) (x ∷ others) = e in cc
  drop_more (suc i) [] e = absurd (let f : ◌≡◌ {A = List (ℕ × Block)} [] (x ∷ others) = e in cc)
  drop_more (suc i) (y ∷ blocks) e = drop_more i blocks e

  take_more : (i : ℕ) (blocks : List (ℕ × Block)) → drop i blocks ≡ x ∷ others → take (suc i) blocks ≡ take i blocks ++ x ∷ []
  take_more zero [] e = absurd (let f : ◌≡◌ {A = List (ℕ × Block)} [] (x ∷ others) = e in cc)
  take_more zero (y ∷ blocks) e = let f : ◌≡◌ {A = List (ℕ × Block)} (y ∷ blocks) (x ∷ others) = e in let same : y ≡ x = cc in ap (λ z. z ∷ []) same
  take_more (suc i) [] e = absurd (let f : ◌≡◌ {A = List (ℕ × Block)} [] (x ∷ others) = e in cc)
  take_more (suc i) (y ∷ blocks) e = ap (λ zs. y ∷ zs) (take_more i blocks e)

  there_more : (i : ℕ) (blocks : List (ℕ × Block)) → drop i blocks ≡ x ∷ others → suc i ≤ length blocks
  there_more zero [] e = absurd (let f : ◌≡◌ {A = List (ℕ × Block)} [] (x ∷ others) = e in cc)
  there_more zero (y ∷ blocks) e = omega arith
  there_more (suc i) [] e = absurd (let f : ◌≡◌ {A = List (ℕ × Block)} [] (x ∷ others) = e in cc)
  there_more (suc i) (y ∷ blocks) e = let h = there_more i blocks e in omega arith

-- ---- on the way

-- the file with these headers behind its first one
abbrev pub seen_with : SeenFile → List (ℕ × Block) → SeenFile
seen_with f xs = record f { rest = xs }

-- Of k headers i were seen, the last of which is this: what is left of what was seen, and that it goes on behind them.
pub record IsAlong (g : Geometry) (mode : Mode) (k : ℕ) (f : SeenFile) (rest : Rest) (i : ℕ) (last : Block) (behind : Rest) : Type 0 where
  pub there : i ≤ length rest.blocks.now
  pub left : behind.blocks.now ≡ drop i rest.blocks.now
  pub linked : AreBehind g (k - i) last behind.blocks.now
  pub need : (next : SeenFile → Events) (space : Space)
      → goes_on_by (through_links g mode k f.head f next) rest space ≡ goes_on_by (through_links g mode (k - i) last (seen_with f (take i rest.blocks.now)) next) behind space
  pub follows : (next : SeenFile → Events) (space : Space)
      → FollowsBy (through_links g mode k f.head f next) rest space → FollowsBy (through_links g mode (k - i) last (seen_with f (take i rest.blocks.now)) next) behind space

-- the lock of a number, and its slot
abbrev pub slot_look : Geometry → Mode → ℕ → (Block → Events) → Events
slot_look g mode n next = Take (S n) mode (Look (S n) (header_place g n) next)

linked_within : (g : Geometry) (j : ℕ) (b : Block) (seen : List (ℕ × Block)) → AreBehind g (suc j) b seen → next_number b ≤ g.files
linked_within g j b [] h = h
linked_within g j b (x ∷ seen) h = h.0

module _ (g : Geometry) (mode : Mode) (k : ℕ) (f : SeenFile) (rest : Rest) (i : ℕ) (last : Block) (behind : Rest) (more : i < k) (along : IsAlong g mode k f rest i last behind) where
  left : k - i ≡ suc (k - suc i)
  left = omega arith

  linked : AreBehind g (suc (k - suc i)) last behind.blocks.now
  linked = subst (λ j. AreBehind g j last behind.blocks.now) left along.linked

  -- the next link leads to a number of the volume
  pub next_within : next_number last ≤ g.files
  next_within = linked_within g (k - suc i) last behind.blocks.now linked

  -- what comes behind the next header
  abbrev pub behind_next : (SeenFile → Events) → Block → Events
  behind_next next x = through_links g mode (k - suc i) x (with_header g (next_number last) x (seen_with f (take i rest.blocks.now))) next

  pub next_need : (next : SeenFile → Events) (space : Space)
      → goes_on_by (through_links g mode k f.head f next) rest space ≡ goes_on_by (slot_look g mode (next_number last) (behind_next next)) behind space
  next_need next space =
      along.need next space
      ∙ ap (λ j. goes_on_by (through_links g mode j last (seen_with f (take i rest.blocks.now)) next) behind space) left

  next_follows : (next : SeenFile → Events) (space : Space)
      → FollowsBy (through_links g mode k f.head f next) rest space → FollowsBy (slot_look g mode (next_number last) (behind_next next)) behind space
  next_follows next space h = subst (λ j. FollowsBy (through_links g mode j last (seen_with f (take i rest.blocks.now)) next) behind space) left (along.follows next space h)

  -- it was seen
  module _ (b : Block) (others : Rest) (first : first_seen behind.blocks.now ≡ Some (b, others.blocks.now)) where
    is_first : StartsWith b others.blocks.now behind.blocks.now
    is_first = starts behind.blocks.now others.blocks.now b first

    linked_first : AreBehind g (suc (k - suc i)) last ((is_first.lbn, b) ∷ others.blocks.now)
    linked_first = subst (λ xs. AreBehind g (suc (k - suc i)) last xs) is_first.is linked

    drops : drop i rest.blocks.now ≡ (is_first.lbn, b) ∷ others.blocks.now
    drops = sym along.left ∙ is_first.is

    with_it : take i rest.blocks.now ++ (header_place g (next_number last), b) ∷ [] ≡ take (suc i) rest.blocks.now
    with_it =
        ap (λ l. take i rest.blocks.now ++ (l, b) ∷ []) (sym linked_first.1)
        ∙ sym (take_more (is_first.lbn, b) others.blocks.now i rest.blocks.now drops)

    up : suc i ≡ i + 1
    up = omega arith

    pub goes_along : ((next : Block → Events) (space : Space) → goes_on_by (slot_look g mode (next_number last) next) behind space ≡ goes_on_by (next b) others space)
        → ((next : Block → Events) (space : Space) → FollowsBy (slot_look g mode (next_number last) next) behind space → FollowsBy (next b) others space)
        → IsAlong g mode k f rest (i + 1) b others
    goes_along need follows = subst (λ j. IsAlong g mode k f rest j b others) up (record {
      there = there_more (is_first.lbn, b) others.blocks.now i rest.blocks.now drops;
      left = sym (drop_more (is_first.lbn, b) others.blocks.now i rest.blocks.now drops);
      linked = linked_first.2;
      need = λ next space.
          next_need next space
          ∙ need (behind_next next) space
          ∙ ap (λ xs. goes_on_by (through_links g mode (k - suc i) b (seen_with f xs) next) others space) with_it;
      follows = λ next space h.
          subst (λ xs. FollowsBy (through_links g mode (k - suc i) b (seen_with f xs) next) others space) with_it
          (follows (behind_next next) space (next_follows next space h));
    })
