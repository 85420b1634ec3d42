-- A first header that is written anew, with the link, the blocks and the runs that it had: the chain of the file stays.
use Rattle.std.proofs.Common.{◌≡◌, ◌≢◌, ◌∙◌, ◌-◌, ◌<◌, ◌⊎◌, ◌==◌, ◌||◌, nat_lt, not, ℕ, zero, suc, true, List, [], ◌∷◌, Some, None, Ok, length, map, flat_map, slice_set, get_or-set_other, refl, sym, ap, subst, inl, inr, arith}
use Rattle.base_words.specs.Fields.{Block, IsWholeBlock}
use Rattle.base_words.proofs.Listing.{same_or_not}
use Rattle.fx_header.specs.declared.slot.Hdr.{Hdr}
use Rattle.fx_header.specs.declared.slot.Slot.TheVariants.{Used}
use Rattle.fx_header.specs.Headers.{header_read, runs_in}
use Rattle.fx_header.specs.Pointers.{blocks_in}
use Rattle.vol_parts.specs.declared.geometry.Geometry.{Geometry}
use Rattle.vol_parts.specs.Chains.{Headers, held, follows, next_header, slots_from, cut, most_headers, last_slot, has_link, ends_with_link, chain_of}
use Rattle.vol_parts.specs.ChainLaws.{IsSlot}
use Rattle.vol_parts.specs.Volumes.{Told, fields_in, runs_with, told_with, told_by}
use Rattle.vol_parts.proofs.Walks.{follows-parts, IsNext, next-is, next-from, GoesOn, EndsHere, walk, walk-none, walk-more}
use Rattle.vol_spell.specs.Reading.{header_place, header_block, headers_at, head_told, told_of}
use Rattle.vol_spell.proofs.Heads.{first_reads, first_segment}
use Rattle.vol_spell.proofs.Placing.{index-set_here}

-- ---- the walk

-- the header x has the link of f and its place in the file
pub record IsSameLink (f x : Hdr) : Type 0 where
  pub ext : x.ext ≡ f.ext
  pub ext_seq : x.ext_seq ≡ f.ext_seq
  pub seg : x.seg ≡ f.seg

same_link : (f : Hdr) → IsSameLink f f
same_link f = record { ext = refl; ext_seq = refl; seg = refl }

back_link : (f x : Hdr) → IsSameLink f x → IsSameLink x f
back_link f x s = record { ext = sym s.ext; ext_seq = sym s.ext_seq; seg = sym s.seg }

-- In both the slot n is that of a first header, and all slots list the same; the other slots say the same.
record AreAlike (h g : Headers) (n : ℕ) (f x : Hdr) : Type 0 where
  files : g.files ≡ h.files
  lists : (m : ℕ) → g.lists m ≡ h.lists m
  others : (m : ℕ) → m ≢ n → g.says m ≡ h.says m
  was : h.says n ≡ Some f
  now : g.says n ≡ Some x
  first : f.seg ≡ 0
  link : IsSameLink f x

back_alike : (h g : Headers) (n : ℕ) (f x : Hdr) → AreAlike h g n f x → AreAlike g h n x f
back_alike h g n f x a = record {
  files = sym a.files;
  lists = λ m. sym (a.lists m);
  others = λ m other. sym (a.others m other);
  was = a.now;
  now = a.was;
  first = a.link.seg ∙ a.first;
  link = back_link f x a.link;
}

follows_same : (f x y : Hdr) → IsSameLink f x → follows f y ≡ true → follows x y ≡ true
unfolding follows
follows_same f x y s e = rw (s.ext, s.ext_seq, s.seg) e

-- a header that comes next in one comes next in the other
next_on : (h g : Headers) (n : ℕ) (f x a b y : Hdr) → AreAlike h g n f x → IsSameLink a b → next_header h a ≡ Some y → next_header g b ≡ Some y
next_on h g n f x a b y alike link e = by_place (same_or_not a.ext n) where
  next : IsNext h a y
  next = next-is h a y e

  by_place : (a.ext ≡ n) ⊎ (a.ext ≢ n) → next_header g b ≡ Some y
  by_place (inl same) =
      let both : Some y ≡ Some f = sym next.says ∙ ap h.says same ∙ alike.was in
      let one : y ≡ f = cc in
      let zero_is : y.seg ≡ 0 = ap (λ (z : Hdr). z.seg) one ∙ alike.first in
      let up = (follows-parts a y next.after).segment in
      absurd (omega arith)
  by_place (inr other) =
      let from = next.number.from in
      let to = next.number.to in
      let files = alike.files in
      let number : IsSlot g a.ext = record { from = from; to = omega arith } in
      next-from g b y (record {
        number = subst (λ (m : ℕ). IsSlot g m) (sym link.ext) number;
        says = ap g.says link.ext ∙ alike.others a.ext other ∙ next.says;
        after = follows_same a b y link next.after;
      })

-- so a walk has the same slots
slots_alike : (h g : Headers) (n : ℕ) (f x : Hdr) (k m : ℕ) (a b : Hdr) (left : ℕ) → AreAlike h g n f x → IsSameLink a b → slots_from g k m b left ≡ slots_from h k m a left
slots_alike h g n f x zero m a b left alike link = walk-none g m b left ∙ sym (walk-none h m a left)
slots_alike h g n f x (suc k) m a b left alike link = elim (walk h k m a left) [ inl w ↦ on w (slots_alike h g n f x k a.ext w.next w.next (left - held h m) alike (same_link w.next)) | inr e ↦ ends e (walk g k m b left) ] where
  count : held g m ≡ held h m
  count = ap blocks_in (alike.lists m)

  on : (w : GoesOn h k m a left) → slots_from g k a.ext w.next (left - held h m) ≡ slots_from h k a.ext w.next (left - held h m) → slots_from g (suc k) m b left ≡ slots_from h (suc k) m a left
  on w behind =
      let more = w.more in
      let same = count in
      let next = next_on h g n f x a b w.next alike link (next-from h a w.next w.is) in
      let rest : slots_from g k b.ext w.next (left - held g m) ≡ slots_from h k a.ext w.next (left - held h m) =
      (λ i. slots_from g k (link.ext i) w.next (left - count i)) ∙ behind in
      walk-more g k m b left (Some w.next) (omega arith) next ∙ ap (λ (ns : List ℕ). m ∷ ns) rest ∙ sym w.slots

  ends : EndsHere h k m a left → GoesOn g k m b left ⊎ EndsHere g k m b left → slots_from g (suc k) m b left ≡ slots_from h (suc k) m a left
  ends e (inr f) = f.slots ∙ sym e.slots
  ends e (inl w) = elim e.why [
    | inl enough ↦ (let more = w.more in let same = count in absurd (omega arith))
    | inr none ↦ (let back = next_on g h n x f b a w.next (back_alike h g n f x alike) (back_link a b link) (next-from g b w.next w.is) in
        absurd (let both : None ≡ Some w.next = sym none ∙ back in cc))
  ]

-- and the file the same chain
chain_alike : (h g : Headers) (n : ℕ) (f x : Hdr) → AreAlike h g n f x → x.blocks ≡ f.blocks → chain_of g n x ≡ chain_of h n f
chain_alike h g n f x alike blocks = λ i. record {
  slots = slots i;
  parts = map (lists i) (slots i);
  runs = cut (blocks i) (flat_map (lists i) (slots i));
  surplus = ends i || nat_lt (blocks i) (blocks_in (flat_map (lists i) (slots i)));
} where
  lists : g.lists ≡ h.lists
  lists = λ i m. alike.lists m i

  slots : slots_from g most_headers n x x.blocks ≡ slots_from h most_headers n f f.blocks
  slots = ap (slots_from g most_headers n x) blocks ∙ slots_alike h g n f x most_headers n f x f.blocks alike alike.link

  linked : (m : ℕ) → has_link (g.says m) ≡ has_link (h.says m)
  linked m = elim (same_or_not m n) [
    | inl same ↦ ap (λ j. has_link (g.says j)) same ∙ ap has_link alike.now ∙ ap (λ e. not (e == 0)) alike.link.ext ∙ sym (ap has_link alike.was) ∙ sym (ap (λ j. has_link (h.says j)) same)
    | inr other ↦ ap has_link (alike.others m other)
  ]

  ends_so : (ns : List ℕ) → ends_with_link g ns ≡ ends_with_link h ns
  ends_so [] = refl
  ends_so (m ∷ ms) = linked (last_slot m ms)

  ends : ends_with_link g (slots_from g most_headers n x x.blocks) ≡ ends_with_link h (slots_from h most_headers n f f.blocks)
  ends = ap (ends_with_link g) slots ∙ ends_so (slots_from h most_headers n f f.blocks)

-- ---- the file

-- The block b reads as a first header with these fields. It has the number, the blocks and the link of the header old in the block
-- was, and lists the same runs.
pub record IsHeadSame (was : Block) (old : Hdr) (b : Block) (h : Hdr) : Type 0 where
  pub whole : IsWholeBlock b
  pub reads : head_told b ≡ Ok (Used h)
  pub num : h.num ≡ old.num
  pub blocks : h.blocks ≡ old.blocks
  pub ext : h.ext ≡ old.ext
  pub ext_seq : h.ext_seq ≡ old.ext_seq
  pub runs : runs_in b ≡ runs_in was

-- what is told of a file, with other fields in its first header
abbrev pub with_head : Told → Hdr → Told
with_head t h = record t { head = Ok (Used h) }

-- with such a block in the slot of its number the same is told of a file, but for the fields
pub head_same : (g : Geometry) (bs : List Block) (n : ℕ) (old : Hdr) (b : Block) (h : Hdr) → header_place g n < length bs → head_told (header_block g bs n) ≡ Ok (Used old) → IsHeadSame (header_block g bs n) old b h
    → told_of g (slice_set bs (header_place g n) b) n ≡ with_head (told_of g bs n) h
head_same g bs n old b h len reads same =
    ap (told_by (headers_at g new) n) (ap head_told here ∙ same.reads)
    ∙ ap (told_with (Ok (Used h))) (chain_alike (headers_at g bs) (headers_at g new) n old h alike same.blocks)
    ∙ sym (ap (λ (t : Told). with_head t h) (ap (told_by (headers_at g bs) n) reads))
  where
    new : List Block
    new = slice_set bs (header_place g n) b

    here : header_block g new n ≡ b
    here = index-set_here bs (header_place g n) b len

    other : (m : ℕ) → m ≢ n → header_block g new m ≡ header_block g bs m
    other m ne = get_or-set_other bs (header_place g n) (header_place g m) b [] (λ e. ne (omega arith))

    was_read : fields_in (header_read (header_block g bs n)) ≡ Some old
    was_read = ap fields_in (first_reads (header_block g bs n) old reads)

    now_read : fields_in (header_read (header_block g new n)) ≡ Some h
    now_read = ap (λ (x : Block). fields_in (header_read x)) here ∙ ap fields_in (first_reads b h same.reads)

    lists : (m : ℕ) → (headers_at g new).lists m ≡ (headers_at g bs).lists m
    lists m = elim (same_or_not m n) [
      | inl e ↦ ap (headers_at g new).lists e ∙ ap (λ o. runs_with o (header_block g new n)) now_read ∙ ap runs_in here ∙ same.runs
          ∙ sym (ap (λ o. runs_with o (header_block g bs n)) was_read) ∙ sym (ap (headers_at g bs).lists e)
      | inr ne ↦ ap (λ (x : Block). runs_with (fields_in (header_read x)) x) (other m ne)
    ]

    zero_was : old.seg ≡ 0
    zero_was = first_segment (header_block g bs n) old reads

    alike : AreAlike (headers_at g bs) (headers_at g new) n old h
    alike = record {
      files = refl;
      lists = lists;
      others = λ m ne. ap (λ (x : Block). fields_in (header_read x)) (other m ne);
      was = was_read;
      now = now_read;
      first = zero_was;
      link = record { ext = same.ext; ext_seq = same.ext_seq; seg = first_segment b h same.reads ∙ sym zero_was };
    }
