-- Writes in turn to the blocks of one file.
use Rattle.std.proofs.Common.{◌≡◌, ◌-◌, ◌++◌, ℕ, List, [], ◌∷◌, Option, Some, None, length, slice_get, slice_set, get_or, refl, sym, ap, subst, ◌∙◌, arith}
use Rattle.std.proofs.lemmas.Option.{slice_get-get_or}
use Rattle.base_words.specs.Fields.{Block, IsWholeBlock}
use Rattle.lock_db.specs.declared.name.LockName.{LockName}
use Rattle.plain_cat.specs.declared.command.Cmd.{Cmd}
use Rattle.plain_cat.specs.declared.cat.Cat.{Cat}
use Rattle.plain_cat.specs.declared.cat.Slot.{Slot}
use Rattle.plain_cat.specs.declared.cat.Slot.TheVariants as slot
use Rattle.plain_rules.specs.Changes.{with_slot}
use Rattle.base_words.specs.Lists.{written}
use Rattle.vol_spell.specs.Owners.{Owners, Things, Outs}
use Rattle.base_words.proofs.ListWrites.{set-get}
use Rattle.vol_parts.specs.declared.geometry.Geometry.{Geometry}
use Rattle.vol_parts.specs.Volumes.{fields_in, Told}
use Rattle.vol_spell.specs.Reading.{IsFileNumber, told_of, body_places, body_blocks}
use Rattle.vol_spell.specs.Spelling.{dir_found, Spells}
use Rattle.vol_spell.specs.Kinds.{IsBodyFor}
use Rattle.vol_spell.specs.Views.{IsFileAt}
use Rattle.vol_spell.proofs.Viewing.{body_set}
use Rattle.vol_under.specs.UnderWay.{PlannedWrite, bare, StandsAt}
use Rattle.vol_under.specs.Chains.{End, Steps}
use Rattle.vol_under.specs.Series.{slot_told, plan_of, body_after, BodyMoves, BodySeries}
use Rattle.vol_under.proofs.Reach.{step_kinds}
use Rattle.vol_spell.proofs.EntryMoves.{set_again}

slot_again : (x : Cat) (i : ℕ) (s t : Slot) → with_slot (with_slot x i s) i t ≡ with_slot x i t
slot_again x i s t = ap (λ (fs : List Slot). record x { files = fs }) (set_again x.files (i - 1) s t)

-- the catalogue has the slot that what is told of the file and its blocks tell
same_slot : (g : Geometry) (bs : List Block) (own : Owners) (x : Cat) (i : ℕ) (h : Block) (t : Told) (body : List Block) → IsFileNumber g i → Spells g bs own x → IsFileAt g bs i h t body → with_slot x i (slot_told g i t body) ≡ x
same_slot g bs own x i h t body is s f =
    let slots : length x.files ≡ g.files = s.counts.slots in
    let from = is.from in
    let to = is.to in
    let at : slice_get x.files (i - 1) ≡ Some (get_or x.files (i - 1) (slot.Free 0)) = slice_get-get_or x.files (i - 1) (slot.Free 0) (omega arith) in
    let tells = s.files i (get_or x.files (i - 1) (slot.Free 0)) is at in
    let e : slot_told g i t body ≡ get_or x.files (i - 1) (slot.Free 0) =
    sym (ap (λ (k : Told). slot_told g i k (body_blocks bs i (told_of g bs i))) f.told ∙ ap (λ (y : List Block). slot_told g i t y) f.body) ∙ tells.slot in
    ap (λ (fs : List Slot). record x { files = fs }) (set-get x.files (i - 1) (slot_told g i t body) (at ∙ ap (λ (y : Slot). Some y) (sym e)))

-- what is said of what is told of a file and of its blocks is said of what stands there
is_body : (g : Geometry) (bs : List Block) (i v l : ℕ) (b h : Block) (t : Told) (body : List Block) → IsWholeBlock b → IsFileNumber g i → IsFileAt g bs i h t body → slice_get (body_places i t) v ≡ Some l
    → dir_found g i (fields_in t.head) t (slice_set body v b) ≡ None → IsBodyFor g bs i v l b (slot_told g i t (slice_set body v b))
is_body g bs i v l b h t body whole is f place dir = record {
  whole = whole;
  number = is;
  place = ap (λ (k : Told). slice_get (body_places i k) v) f.told ∙ place;
  dir = ap (λ (k : Told). dir_found g i (fields_in k.head) k (slice_set (body_blocks bs i (told_of g bs i)) v b)) f.told ∙ ap (λ (y : List Block). dir_found g i (fields_in t.head) t (slice_set y v b)) f.body ∙ dir;
  slot = ap (λ (k : Told). slot_told g i k (slice_set (body_blocks bs i (told_of g bs i)) v b)) f.told ∙ ap (λ (y : List Block). slot_told g i t (slice_set y v b)) f.body;
}

module _ (end : End) (g : Geometry) (n : ℕ) (cmd : Option Cmd) (locks : List LockName) (c x : Cat) (stock o : Things) (i : ℕ) (h : Block) (t : Told) (own : Owners) (is : IsFileNumber g i) (outs : Outs n own o stock) where
  pub in_turn : (ms : List (ℕ × PlannedWrite)) (ws : List PlannedWrite) (bs body : List Block) (y : Cat) → ((s : Slot) → with_slot y i s ≡ with_slot x i s) → Spells g bs own y → IsFileAt g bs i h t body → BodyMoves g n cmd c x i t o ms body
      → (Spells g (written (bare (plan_of ms)) bs) own (with_slot x i (slot_told g i t (body_after ms body))) → IsFileAt g (written (bare (plan_of ms)) bs) i h t (body_after ms body)
      → Steps end g n cmd locks c stock ws (written (bare (plan_of ms)) bs) own)
      → Steps end g n cmd locks c stock (plan_of ms ++ ws) bs own
  in_turn [] ws bs body y agree s f moves rest =
      rest (subst (λ (z : Cat). Spells g bs own z) (sym (same_slot g bs own y i h t body is s f) ∙ agree (slot_told g i t body)) s) f
  in_turn (m ∷ ms) ws bs body y agree s f moves rest =
      let new = slot_told g i t (slice_set body m.0 m.1.block) in
      let move = moves.0 in
      let for = is_body g bs i m.0 m.1.lbn m.1.block h t body move.whole is f move.place move.dir in
      let stage : StandsAt c n cmd m.1.stage (with_slot y i new) = subst (λ (z : Cat). StandsAt c n cmd m.1.stage z) (sym (agree new)) move.stage in
      let out : Outs n own m.1.outs stock = subst (λ (z : Things). Outs n own z stock) (sym move.outs) outs in
      let step = (step_kinds g n cmd locks c stock).body m.1 bs own y i m.0 new s for stage out in
      let view = body_set g bs own y i m.0 m.1.lbn m.1.block s is for.place in
      let at : IsFileAt g (slice_set bs m.1.lbn m.1.block) i h t (slice_set body m.0 m.1.block) = record { header = view.header ∙ f.header; told = view.told ∙ f.told; body = view.body ∙ ap (λ (z : List Block). slice_set z m.0 m.1.block) f.body } in
      (own, with_slot y i new, step, in_turn ms ws (slice_set bs m.1.lbn m.1.block) (slice_set body m.0 m.1.block) (with_slot y i new) (λ z. slot_again y i new z ∙ agree z) step.spelt at moves.1 rest)

pub body_series : (end : End) → BodySeries end
body_series end g n cmd locks c x stock o i h t body ms ws bs own is s f outs moves rest = in_turn end g n cmd locks c x stock o i h t own is outs ms ws bs body x (λ z. refl) s f moves rest
