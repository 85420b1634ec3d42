-- Headers that say and list the same in all slots of a volume tell the same of each file.
use Rattle.std.proofs.Common.{◌≡◌, ◌∙◌, ◌-◌, ◌&&◌, ◌⊎◌, ◌≤◌, nat_le, ℕ, zero, suc, Bool, true, false, [], ◌∷◌, Option, Some, None, refl, sym, ap, inl, inr, arith}
use Rattle.std.specs.Prelude.{if◌then◌else◌, Result}
use Rattle.std.proofs.lemmas.Bool.{and_parts, leb-true, cases_lt}
use Rattle.fx_header.specs.declared.slot.Hdr.{Hdr}
use Rattle.fx_header.specs.declared.slot.Slot.{Slot}
use Rattle.fx_header.specs.declared.slot.HeaderFault.{HeaderFault}
use Rattle.fx_header.specs.Pointers.{blocks_in}
use Rattle.vol_parts.specs.Chains.{Headers, held, only_following, next_header, slots_from, most_headers, chain_with}
use Rattle.vol_parts.specs.ChainLaws.{IsSlot, IsSameSlot}
use Rattle.vol_parts.specs.Volumes.{fields_in, chain_from, told_with, told_by}
use Rattle.vol_parts.proofs.Walks.{next-from, walk, walk-none, walk-enough, walk-more, slots-numbers}
use Rattle.vol_parts.proofs.Linked.{told-stays}

-- both have as many slots, and each slot says and lists the same
pub record AreSame (h g : Headers) : Type 0 where
  pub files : g.files ≡ h.files
  pub slots : (m : ℕ) → IsSlot h m → IsSameSlot h g m

next_same : (h g : Headers) (f : Hdr) → AreSame h g → next_header g f ≡ next_header h f
unfolding next_header
next_same h g f same = rw same.files (by_test (nat_le 1 f.ext && nat_le f.ext h.files) refl) where
  by_test : (t : Bool) → (nat_le 1 f.ext && nat_le f.ext h.files) ≡ t
      → (if nat_le 1 f.ext && nat_le f.ext h.files then only_following f (g.says f.ext) else None) ≡ (if nat_le 1 f.ext && nat_le f.ext h.files then only_following f (h.says f.ext) else None)
  by_test true e =
      let parts = and_parts (nat_le 1 f.ext) (nat_le f.ext h.files) e in
      let here = same.slots f.ext (record { from = leb-true 1 f.ext parts.0; to = leb-true f.ext h.files parts.1 }) in
      ap (λ o. if nat_le 1 f.ext && nat_le f.ext h.files then only_following f o else None) here.says
  by_test false e = rw e refl

slots_same : (h g : Headers) (k n : ℕ) (f : Hdr) (left : ℕ) → AreSame h g → IsSlot h n → slots_from g k n f left ≡ slots_from h k n f left
slots_same h g zero n f left same is = walk-none g n f left ∙ sym (walk-none h n f left)
slots_same h g (suc k) n f left same is =
    let here = same.slots n is in
    let blocks : held g n ≡ held h n = ap blocks_in here.lists in
    elim (walk h k n f left) [
      | inl w ↦
          let more = w.more in
          let next : next_header g f ≡ Some w.next = next_same h g f same ∙ next-from h f w.next w.is in
          let behind = slots_same h g k f.ext w.next (left - held h n) same w.is.number in
          walk-more g k n f left (Some w.next) (omega arith) next
          ∙ ap (λ b. n ∷ slots_from g k f.ext w.next (left - b)) blocks
          ∙ ap (λ ns. n ∷ ns) behind
          ∙ sym w.slots
      | inr e ↦ ends e.why blocks ∙ sym e.slots
    ]
  where
    ends : (left ≤ held h n) ⊎ (next_header h f ≡ None) → held g n ≡ held h n → slots_from g (suc k) n f left ≡ n ∷ []
    ends (inl enough) blocks = walk-enough g k n f left (omega arith)
    ends (inr none) blocks =
        elim (cases_lt (held g n) left) [
          | inl more ↦ walk-more g k n f left None more (next_same h g f same ∙ none)
          | inr enough ↦ walk-enough g k n f left enough
        ]

chain_same : (h g : Headers) (n : ℕ) (o : Option Hdr) → AreSame h g → IsSlot h n → chain_from g n o ≡ chain_from h n o
chain_same h g n None same is = refl
chain_same h g n (Some f) same is =
    ap (chain_with g f.blocks) (slots_same h g most_headers n f f.blocks same is)
    ∙ told-stays h g f.blocks (slots_from h most_headers n f f.blocks) (λ m has. same.slots m (slots-numbers h most_headers n f f.blocks m is has))

pub told_same : (h g : Headers) (n : ℕ) (said : Result Slot HeaderFault) → AreSame h g → IsSlot h n → told_by g n said ≡ told_by h n said
told_same h g n said same is = ap (told_with said) (chain_same h g n (fields_in said) same is)
