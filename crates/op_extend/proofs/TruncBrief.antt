-- How much TRUNC needs and writes.
use Rattle.std.proofs.Common.{◌≡◌, ◌≤◌, ◌+◌, ◌-◌, ℕ, Bool, true, false, cond, List, [], ◌∷◌, Some, length, map, arith}
use Rattle.std.specs.Prelude.{nat_lt}
use Rattle.std.proofs.lemmas.List.{length-map}
use Rattle.base_words.specs.Fields.{Block}
use Rattle.fx_header.specs.declared.slot.Hdr.{Hdr}
use Rattle.lock_db.specs.declared.name.LockName.TheVariants.{V}
use Rattle.plain_cat.specs.declared.ids.Fid.{Fid}
use Rattle.plain_cat.specs.declared.mode.Mode.TheVariants.{PW}
use Rattle.plain_cat.specs.declared.command.Cmd.TheVariants as cmd
use Rattle.plain_cat.specs.declared.reply.Refusal.TheVariants as refusal
use Rattle.plain_cat.specs.declared.cat.Cat.{Cat}
use Rattle.plain_rules.specs.Lookups.{extra}
use Rattle.plain_rules.specs.Answers.{first_refusal, is_kept}
use Rattle.vol_spell.specs.Owners.{Owners}
use Rattle.vol_parts.specs.declared.geometry.Geometry.{Geometry}
use Rattle.vol_parts.specs.declared.geometry.Part.TheVariants.{Storage}
use Rattle.vol_spell.specs.Reading.{IsFileNumber, header_block, head_told, fields_told}
use Rattle.vol_spell.specs.Places.{place_of}
use Rattle.vol_spell.specs.Spelling.{Spells}
use Rattle.vol_spell.proofs.HeadSlots.{reads_fields}
use Rattle.op_law.specs.Events.{Events, Space, space_of}
use Rattle.op_law.specs.Freeing.{blocks_for, look_index}
use Rattle.op_law.specs.Headers.{through_chain}
use Rattle.op_law.specs.Needs.{events_of}
use Rattle.op_law.specs.Rows.{answers}
use Rattle.op_law.specs.Refusing.{SeenFile, seen_file}
use Rattle.op_law.specs.Sizes.{size_shown, cut_clusters, cut_numbers, cut_to, keep_clusters, trunc_in, trunc_events}
use Rattle.op_law.specs.Writing.{clusters_for}
use Rattle.op_law.proofs.Brief.{BriefBy, Briefs, brief_more}
use Rattle.op_law.proofs.Chains.{extra_few}
use Rattle.op_law.proofs.Counting.{unless_brief, all_brief, quota_brief, live_brief, bitmap_few}
use Rattle.op_law.proofs.Links.{links_brief}
use Rattle.op_law.proofs.Refusals.{passed}
use Rattle.op_law.proofs.Telling.{live_reads}
use Rattle.op_extend.proofs.Growing.{kept_out}
use Rattle.op_extend.proofs.TruncEnds.{cutting_few}

module _ (g : Geometry) (bs : List Block) (own : Owners) (c : Cat) (s : Spells g bs own c) (space : Space) where
  abbrev Within : Events → ℕ → ℕ → Type 0
  Within es locks looks = BriefBy bs space 120 es locks looks

  index_brief : (ns : List ℕ) (next : Block → Events) (locks looks : ℕ) → 1 ≤ looks → ((b : Block) → Within (next b) locks (looks - 1)) → Within (look_index g ns next) locks looks
  index_brief [] next locks looks one so = brief_more bs space 120 (next []) locks (looks - 1) locks looks (omega arith) (omega arith) (so [])
  index_brief (n ∷ ns) next locks looks one so = (one, λ b at. so b)

  -- behind the headers: Q and at most 16 quota blocks, V, that of the index-file bitmap, and at most 16 of the storage bitmap
  cut_brief : (k : ℕ) (f : SeenFile) → length f.rest ≤ 100 → Within (cut_to g f k) 2 33
  cut_brief k f few_heads =
      let ks = blocks_for g (cut_clusters g f k) in
      let m = length-map ks (λ k. place_of g (Storage k)) in
      let few = bitmap_few g (cut_clusters g f k) s.counts.geometry in
      quota_brief bs space 120 g own c s PW _ 2 33 (omega arith) (omega arith)
      (λ quota q. (
        omega arith,
        index_brief (cut_numbers g f k) _ 0 17 (omega arith)
            (λ index. all_brief bs space 120 V (map (λ k. place_of g (Storage k)) ks) _ 16 0 16 (omega arith) (omega arith)
            (λ storage len. let all = cutting_few g f k (record { quota = quota; index = index; storage = storage }) s.counts.geometry in omega arith)),
      ))

  keep_brief : (k : ℕ) (f : SeenFile) → length f.rest ≤ 100 → Within (keep_clusters g k f) 2 33
  keep_brief k f few = by_less (nat_lt k f.file.clusters) where
    by_less : (t : Bool) → Within (cond t (cut_to g f k) (answers (size_shown g f.file.clusters))) 2 33
    by_less true = cut_brief k f few
    by_less false = omega arith

  pub in_brief : (k n : ℕ) (h : Hdr) → IsFileNumber g n → fields_told (header_block g bs n) ≡ Some h → Within (trunc_in g k (seen_file g n (header_block g bs n) h)) 18 69
  in_brief k n h is used =
      let f = seen_file g n (header_block g bs n) h in
      unless_brief bs space 120 (first_refusal ((is_kept f.num f.file, refusal.NoPriv) ∷ [])) _ 18 69 (λ order.
      let above = (kept_out n h.dir (passed ((is_kept f.num f.file, refusal.NoPriv) ∷ []) order).0).0 in
      let few = extra_few g bs own c s n h is used above in
      brief_more bs space 120 (through_chain g PW f (keep_clusters g k)) (extra f.file.clusters + 2) (extra f.file.clusters + 33) 18 69 (omega arith) (omega arith)
      (links_brief bs space 120 g PW (extra f.file.clusters) f.head f (keep_clusters g k) 2 33 (λ rest len. keep_brief k (record f { rest = rest }) (omega arith))))

pub trunc_brief : (file : Fid) (blocks : ℕ) → Briefs (cmd.Trunc file blocks)
unfolding events_of trunc_events
trunc_brief file blocks node seen bs own c on =
    let g = seen.geometry in
    live_brief bs (space_of seen) 120 g own c on.spelt file PW 19 70 (omega arith) (trunc_in g (clusters_for g blocks)) (omega arith)
    (λ h is lives. in_brief g bs own c on.spelt (space_of seen) (clusters_for g blocks) file.num h is
    (reads_fields (header_block g bs file.num) h (live_reads file.seq (head_told (header_block g bs file.num)) h lives)))
