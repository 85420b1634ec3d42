-- How much EXTEND needs and writes.
use Rattle.std.proofs.Common.{◌≡◌, ◌≤◌, ◌+◌, ◌*◌, ℕ, List, [], ◌∷◌, Option, Some, None, length, arith, length-append}
use Rattle.std.specs.Prelude.{option_map}
use Rattle.base_words.specs.Fields.{Block}
use Rattle.fx_header.specs.declared.slot.Hdr.{Hdr}
use Rattle.fx_header.specs.Headers.{header_read}
use Rattle.plain_cat.specs.declared.ids.Fid.{Fid}
use Rattle.plain_cat.specs.declared.mode.Mode.TheVariants.{PW}
use Rattle.plain_cat.specs.declared.command.Cmd.TheVariants as cmd
use Rattle.plain_cat.specs.declared.history.Stage.TheVariants as stage
use Rattle.plain_cat.specs.declared.reply.Refusal.{Refusal}
use Rattle.plain_cat.specs.declared.cat.Cat.{Cat}
use Rattle.plain_rules.specs.Lookups.{extra}
use Rattle.plain_rules.specs.Answers.{first_refusal}
use Rattle.vol_spell.specs.Owners.{Owners}
use Rattle.vol_parts.specs.declared.geometry.Geometry.{Geometry}
use Rattle.vol_spell.specs.Reading.{IsFileNumber, header_block, fields_told, head_told}
use Rattle.vol_spell.specs.Spelling.{Spells}
use Rattle.vol_spell.proofs.HeadSlots.{reads_fields}
use Rattle.op_law.specs.Entering.{slot_seq}
use Rattle.op_law.specs.Events.{Events, Space, space_of}
use Rattle.op_law.specs.Headers.{through_chain, new_header_writes, old_header_writes, headers_grown}
use Rattle.op_law.specs.Needs.{events_of}
use Rattle.op_law.specs.Refusing.{SeenFile, seen_file, if_given}
use Rattle.op_law.specs.Sizes.{growing_writes, growing_refusals, draft_refusals, into_headers, growing_events, extend_in, extend_events}
use Rattle.op_law.specs.Writing.{holding, clusters_for}
use Rattle.op_law.specs.Quotas.{owner_write, row_charged}
use Rattle.op_law.proofs.Brief.{BriefBy, Briefs, brief_more}
use Rattle.op_law.proofs.Chains.{extra_few}
use Rattle.op_law.proofs.Counting.{unless_brief, quota_brief, live_brief, owner_few}
use Rattle.op_law.proofs.Links.{links_brief}
use Rattle.op_law.proofs.Refusals.{passed}
use Rattle.op_law.proofs.Telling.{live_reads}
use Rattle.op_extend.proofs.Growing.{kept_out}

-- at most a row and three headers
new_few : (g : Geometry) (f : SeenFile) (qs : List ℕ) (new : Option (ℕ × ℕ)) → length (new_header_writes g f qs new) ≤ 1
new_few g f qs None = omega arith
new_few g f qs (Some slot) = omega arith

old_few : (g : Geometry) (f : SeenFile) (qs : List ℕ) (new : Option (ℕ × ℕ)) (rest : List (ℕ × Block)) → length (old_header_writes g f qs new rest) ≤ 2
old_few g f qs new [] = omega arith
old_few g f qs new (x ∷ rest) = omega arith

growing_few : (g : Geometry) (f : SeenFile) (quota : List Block) (qs : List ℕ) (k : ℕ) (new : Option (ℕ × ℕ)) → length (growing_writes g f quota qs k new) ≤ 120
unfolding growing_writes headers_grown
growing_few g f quota qs k new =
    let row = owner_write g quota f.file.owner (row_charged (g.cluster * k)) stage.Charged (holding qs (option_map (λ n. n.0) new)) in
    let a = length-append row (headers_grown g f qs new) in
    let b = length-append (new_header_writes g f qs new) (old_header_writes g f qs new f.rest) in
    omega (arith, owner_few g quota f.file.owner (row_charged (g.cluster * k)) stage.Charged (holding qs (option_map (λ n. n.0) new)), new_few g f qs new, old_few g f qs new f.rest)

module _ (g : Geometry) (bs : List Block) (own : Owners) (c : Cat) (s : Spells g bs own c) (space : Space) where
  abbrev Within : Events → ℕ → ℕ → Type 0
  Within es locks looks = BriefBy bs space 120 es locks looks

  into_brief : (f : SeenFile) (quota : List Block) (k : ℕ) (cs : List ℕ) (n : Option ℕ) → Within (into_headers g f quota k cs n) 1 1
  into_brief f quota k cs None = growing_few g f quota cs k None
  into_brief f quota k cs (Some n) = (omega arith, (omega arith, λ slot at. growing_few g f quota cs k (Some (n, slot_seq (header_read slot)))))

  by_space : (f : SeenFile) (quota : List Block) (k : ℕ) (cs : List ℕ) (n : Option ℕ) (short : Option Refusal) → Within (if_given (into_headers g f quota k) cs n short) 1 1
  by_space f quota k cs n (Some r) = omega arith
  by_space f quota k cs n None = into_brief f quota k cs n

  -- behind the headers: Q, at most 16 quota blocks, and a slot
  growing_brief : (k : ℕ) (f : SeenFile) → Within (growing_events g k f) 2 17
  growing_brief k f = quota_brief bs space 120 g own c s PW _ 2 17 (omega arith) (omega arith)
      (λ quota few. unless_brief bs space 120 (first_refusal (draft_refusals g f quota k)) _ 1 1 (λ paid has. by_space f quota k space.clusters space.number space.short))

  pub in_brief : (k n : ℕ) (h : Hdr) → IsFileNumber g n → fields_told (header_block g bs n) ≡ Some h → Within (extend_in g k (seen_file g n (header_block g bs n) h)) 18 69
  in_brief k n h is used =
      let f = seen_file g n (header_block g bs n) h in
      unless_brief bs space 120 (first_refusal (growing_refusals f k)) _ 18 69 (λ order.
      let above = (kept_out n h.dir (passed (growing_refusals f k) order).0).0 in
      let few = extra_few g bs own c s n h is used above in
      brief_more bs space 120 (through_chain g PW f (growing_events g k)) (extra f.file.clusters + 2) (extra f.file.clusters + 17) 18 69 (omega arith) (omega arith)
      (links_brief bs space 120 g PW (extra f.file.clusters) f.head f (growing_events g k) 2 17 (λ rest len. growing_brief k (record f { rest = rest }))))

pub extend_brief : (file : Fid) (blocks : ℕ) → Briefs (cmd.Extend file blocks)
unfolding events_of extend_events
extend_brief file blocks node seen bs own c on =
    let g = seen.geometry in
    live_brief bs (space_of seen) 120 g own c on.spelt file PW 19 70 (omega arith) (extend_in g (clusters_for g blocks)) (omega arith)
    (λ h is lives. in_brief g bs own c on.spelt (space_of seen) (clusters_for g blocks) file.num h is
    (reads_fields (header_block g bs file.num) h (live_reads file.seq (head_told (header_block g bs file.num)) h lives)))
