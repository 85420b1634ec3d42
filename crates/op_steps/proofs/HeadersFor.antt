-- A block for one of a file's header slots, with which the file's headers tell the file.
use Rattle.std.proofs.Common.{◌≡◌, ◌≢◌, ◌∙◌, ◌<◌, ◌≤◌, ◌-◌, ℕ, Bool, false, cond, List, [], ◌∷◌, Some, length, slice_get, slice_set, refl, sym, ap, subst, arith}
use Rattle.std.specs.Prelude.{◌↔◌, Ok}
use Rattle.base_words.specs.Fields.{Block, IsWholeBlock}
use Rattle.base_words.specs.Lists.{Has, Once}
use Rattle.fx_header.specs.declared.slot.Hdr.{Hdr}
use Rattle.fx_header.specs.declared.slot.Slot.TheVariants.{Used}
use Rattle.fx_header.specs.Headers.{header_read}
use Rattle.fx_header.specs.Pointers.{lbns_in}
use Rattle.plain_cat.specs.declared.cat.Cat.{Cat}
use Rattle.plain_cat.specs.declared.cat.File.{File}
use Rattle.plain_cat.specs.declared.cat.Slot.TheVariants as slot
use Rattle.plain_rules.specs.Lookups.{file_most}
use Rattle.vol_spell.specs.declared.owner.Owner.TheVariants.{InFile}
use Rattle.vol_spell.specs.Owners.{Owners, OwnersMove, IsFileMove}
use Rattle.vol_spell.specs.Spread.{blocks_at, spread}
use Rattle.vol_parts.specs.declared.geometry.Geometry.{Geometry}
use Rattle.vol_parts.specs.Chains.{chain_of}
use Rattle.vol_parts.specs.Catalogues.{file_of}
use Rattle.vol_parts.specs.Volumes.{Told, told_with, told_by}
use Rattle.vol_spell.specs.Reading.{IsFileNumber, header_place, header_block, headers_at, head_told, told_of, clusters_told, body_blocks}
use Rattle.vol_spell.specs.Spelling.{IsHead, Tells, dir_found, Spells}
use Rattle.vol_spell.specs.Kinds.{IsHeaderFor}
use Rattle.vol_spell.proofs.Parts.{low}
use Rattle.vol_spell.proofs.Runs.{lbns_spread}
use Rattle.vol_spell.proofs.HeadFiles.{not_structure}
use Rattle.vol_spell.proofs.HeadSlots.{no_parts}
use Rattle.op_steps.proofs.Leading.{HasHeaders, IsChainWith, headers_tell}

-- The block b in the header slot m of file n, which is no directory and no system file: after it the file has the first header h,
-- headers in the slots ns, and the clusters qs, each once, and with them it is told as f.
pub record IsChainFor (g : Geometry) (bs : List Block) (own new : Owners) (node n m : ℕ) (b : Block) (h : Hdr) (ns qs : List ℕ) (f : File) : Type 0 where
  pub whole : IsWholeBlock b
  pub head : IsHead m (header_read b)
  pub reads : head_told (header_block g (slice_set bs (header_place g m) b) n) ≡ Ok (Used h)
  pub num : h.num ≡ n
  pub has : HasHeaders g (headers_at g (slice_set bs (header_place g m) b)) n h ns qs
  pub alike : m ≢ n → told_of g (slice_set bs (header_place g m) b) m ≡ told_of g bs m
  pub moves : OwnersMove (IsFileMove node n) own new
  pub once : Once qs
  pub clusters : (q : ℕ) → Has qs q ↔ (slice_get new.clusters q ≡ Some (InFile n))
  pub numbers : (i : ℕ) → Has ns i ↔ (IsFileNumber g i × (slice_get new.numbers (i - 1) ≡ Some (InFile n)))
  pub few : length qs ≤ file_most
  pub flat : h.dir ≡ false
  pub file : file_of g.cluster n h (blocks_at bs (spread g.cluster qs)) ≡ f

-- headers that list these clusters tell them of their file
pub chain_clusters : (g : Geometry) (bs : List Block) (n : ℕ) (h : Hdr) (ns qs : List ℕ) → 1 ≤ g.cluster → head_told (header_block g bs n) ≡ Ok (Used h) → HasHeaders g (headers_at g bs) n h ns qs → clusters_told g (told_of g bs n) ≡ qs
chain_clusters g bs n h ns qs low reads has =
    ap (λ (t : Told). clusters_told g t) (ap (told_by (headers_at g bs) n) reads) ∙ (headers_tell g (headers_at g bs) n h ns qs low has).clusters

-- and its slots
pub chain_numbers : (g : Geometry) (bs : List Block) (n : ℕ) (h : Hdr) (ns qs : List ℕ) → 1 ≤ g.cluster → head_told (header_block g bs n) ≡ Ok (Used h) → HasHeaders g (headers_at g bs) n h ns qs → (told_of g bs n).slots ≡ ns
chain_numbers g bs n h ns qs low reads has = ap (λ (t : Told). t.slots) (ap (told_by (headers_at g bs) n) reads) ∙ (headers_tell g (headers_at g bs) n h ns qs low has).slots

module _ (g : Geometry) (bs : List Block) (own new : Owners) (c : Cat) (node n m : ℕ) (b : Block) (h : Hdr) (ns qs : List ℕ) (f : File) (spelt : Spells g bs own c) (number : IsFileNumber g n)
    (above : 11 < n) (has : Has (n ∷ (told_of g bs n).slots) m) (owned : slice_get own.numbers (m - 1) ≡ Some (InFile n)) (for : IsChainFor g bs own new node n m b h ns qs f) where
  abbrev after : List Block
  after = slice_set bs (header_place g m) b

  abbrev t : Told
  t = told_with (Ok (Used h)) (chain_of (headers_at g after) n h)

  told_is : told_of g after n ≡ t
  told_is = ap (told_by (headers_at g after) n) for.reads

  chain : IsChainWith g h ns qs (chain_of (headers_at g after) n h)
  chain = headers_tell g (headers_at g after) n h ns qs (low g bs own c spelt) for.has

  places : lbns_in (chain_of (headers_at g after) n h).runs ≡ spread g.cluster qs
  places = lbns_spread g (chain_of (headers_at g after) n h).runs (low g bs own c spelt) chain.whole ∙ ap (spread g.cluster) chain.clusters

  body : body_blocks bs n t ≡ blocks_at bs (spread g.cluster qs)
  body = ap (λ z. blocks_at bs (cond z [] (lbns_in t.runs))) (not_structure n above) ∙ ap (blocks_at bs) places

  tells : Tells g new n t (body_blocks bs n t) (slot.Used f)
  tells = record {
    reads = for.num;
    whole = chain.whole;
    once = subst (λ (rs : List ℕ). Once rs) (sym chain.clusters) for.once;
    runs = λ q. subst (λ (rs : List ℕ). Has rs q ↔ (slice_get new.clusters q ≡ Some (InFile n))) (sym chain.clusters) (for.clusters q);
    few = λ up. subst (λ (rs : List ℕ). length rs ≤ file_most) (sym chain.clusters) for.few;
    split = λ up. chain.split;
    system = λ down. absurd (omega (arith, down, above));
    slots = λ i. subst (λ (ms : List ℕ). Has ms i ↔ (IsFileNumber g i × (slice_get new.numbers (i - 1) ≡ Some (InFile n)))) (sym chain.slots) (for.numbers i);
    size = chain.size;
    dir = ap (λ (d : Bool). dir_found g n (Some (record h { dir = d })) t (body_blocks bs n t)) for.flat;
    slot = ap (λ (ys : List Block). slot.Used (file_of g.cluster n h ys)) body ∙ ap (λ (y : File). slot.Used y) for.file;
  }

  pub chain_for : IsHeaderFor g bs node n m own new c b (slot.Used f)
  chain_for = record {
    whole = for.whole;
    number = number;
    slot = has;
    owned = subst (IsFileMove node n) (sym owned) refl;
    head = for.head;
    alike = for.alike;
    parts = no_parts n (not_structure n above);
    moves = for.moves;
    tells = subst (λ (u : Told). Tells g new n u (body_blocks bs n u) (slot.Used f)) (sym told_is) tells;
    reserved = λ old down at. absurd (omega (arith, down, above));
  }
