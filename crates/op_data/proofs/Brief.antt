-- How much READ and WRITE need and write.
use Rattle.std.proofs.Common.{◌≡◌, ◌≤◌, ◌+◌, ◌-◌, ◌*◌, ◌/◌, ◌++◌, ℕ, Bool, true, false, cond, List, [], ◌∷◌, Option, Some, None, length, refl, ap, arith, length-append}
use Rattle.std.specs.Prelude.{◌==◌, ◌||◌, nat_lt, nat_le, option_map}
use Rattle.std.proofs.Math.Nat.{mul-le-mul_right}
use Rattle.std.proofs.lemmas.Bool.Decides.{nat_tests}
use Rattle.std.proofs.lemmas.List.FromFn.{length-map-range_with_len}
use Rattle.base_words.specs.Fields.{Block}
use Rattle.base_words.specs.Tables.{zeros}
use Rattle.fx_header.specs.declared.slot.Hdr.{Hdr}
use Rattle.plain_cat.specs.declared.mode.Mode.{Mode}
use Rattle.plain_cat.specs.declared.mode.Mode.TheVariants.{PR, PW}
use Rattle.plain_cat.specs.declared.command.Cmd.TheVariants as cmd
use Rattle.plain_cat.specs.declared.history.Stage.TheVariants as stage
use Rattle.plain_cat.specs.declared.reply.Refusal.TheVariants as refusal
use Rattle.plain_cat.specs.declared.reply.Reply.TheVariants as reply
use Rattle.plain_cat.specs.declared.cat.Cat.{Cat}
use Rattle.plain_rules.specs.Lookups.{channel_at, header_most, file_most}
use Rattle.plain_rules.specs.Changes.{is_past_mark, text_block}
use Rattle.plain_rules.specs.Answers.{is_reading}
use Rattle.vol_spell.specs.Owners.{Owners}
use Rattle.vol_parts.specs.declared.geometry.Geometry.{Geometry}
use Rattle.vol_parts.specs.Volumes.{fields_in}
use Rattle.vol_spell.specs.Reading.{IsFileNumber, header_block, fields_told}
use Rattle.vol_spell.specs.Spelling.{Spells}
use Rattle.op_law.specs.declared.seen.Chan.{Chan}
use Rattle.op_law.specs.Channels.{is_outside_file, within, read_in, read_on, read_events, zero_writes, sizes_write, block_writes, write_in, write_on, write_events}
use Rattle.op_law.specs.Events.{Events, Space, space_of, Fetch}
use Rattle.op_law.specs.Headers.{through_part}
use Rattle.op_law.specs.Knows.{has_channel}
use Rattle.op_law.specs.Needs.{events_of}
use Rattle.op_law.specs.Refusing.{SeenFile, seen_file, used_in, if_file, through_open}
use Rattle.op_law.specs.Rows.{answers, refuses}
use Rattle.op_law.specs.SeenFiles.{file_place, file_write}
use Rattle.op_law.proofs.Brief.{BriefBy, Briefs, brief_more}
use Rattle.op_law.proofs.Chains.{others_few}
use Rattle.op_law.proofs.Counting.{header_brief, few_clusters}
use Rattle.op_law.proofs.Links.{links_brief}
use Rattle.op_law.proofs.SeenRuns.{part_within}
use Rattle.op_data.proofs.Channel.{HasOpen, both_hold, open_as}
use Rattle.op_data.proofs.Ranges.{in_range, is_within}
use Rattle.op_steps.proofs.Uses.{used_reads}

-- ---- the writes

-- of a file of at most file_most clusters of 16 blocks, a WRITE has one zero fewer, the block, and the header
write_few : (g : Geometry) (f : SeenFile) (vbn : ℕ) (b : Block) → vbn ≤ 16 * file_most → length (block_writes g f vbn b) ≤ 16 * file_most + 1
unfolding block_writes
write_few g f vbn b few = by_past (is_past_mark f.file vbn) refl where
  by_end : (t : Bool) → length (cond t (file_write f vbn b stage.DataOnly ∷ sizes_write g f vbn ∷ []) (file_write f vbn b stage.Done ∷ [])) ≤ 16 * file_most + 1
  by_end true = omega arith
  by_end false = omega arith

  by_past : (t : Bool) → is_past_mark f.file vbn ≡ t → length (cond t (zero_writes f vbn ++ file_write f vbn b stage.Nothing ∷ sizes_write g f vbn ∷ [])
      (cond (nat_le f.file.end vbn) (file_write f vbn b stage.DataOnly ∷ sizes_write g f vbn ∷ []) (file_write f vbn b stage.Done ∷ []))) ≤ 16 * file_most + 1
  by_past true e =
      let low : 1 ≤ f.file.mark = grind (arith, nat_tests) in
      let zs = length-map-range_with_len (λ v. file_write f v zeros stage.Nothing) f.file.mark (vbn - f.file.mark) in
      let all = length-append (zero_writes f vbn) (file_write f vbn b stage.Nothing ∷ sizes_write g f vbn ∷ []) in
      omega arith
  by_past false e = by_end (nat_le f.file.end vbn)

-- a block within such a file
in_blocks : (g : Geometry) (clusters vbn : ℕ) → g.cluster ≤ 16 → clusters ≤ file_most → ((vbn == 0) || nat_lt (g.cluster * clusters) vbn) ≡ false → vbn ≤ 16 * file_most
in_blocks g clusters vbn factor few inside =
    let up : g.cluster * clusters ≤ 16 * clusters = mul-le-mul_right clusters factor in
    let le = (in_range vbn (g.cluster * clusters) inside).1 in
    omega arith

-- ---- the events

module _ (g : Geometry) (bs : List Block) (own : Owners) (c : Cat) (s : Spells g bs own c) (space : Space) (writes node chan vbn : ℕ) (p : Chan) (opened : HasOpen c node chan p) (mode : Mode) (next : SeenFile → Events) where
  abbrev n : ℕ
  n = p.file.num

  abbrev first : Block
  first = header_block g bs p.file.num

  -- behind the first header at most 15 others come, since the block is one of the file's
  part_brief : IsFileNumber g p.file.num → (h : Hdr) → used_in p.file.seq (header_block g bs p.file.num) ≡ Some h → is_outside_file g (seen_file g p.file.num (header_block g bs p.file.num) h).file vbn ≡ false
      → ((rest : List (ℕ × Block)) → BriefBy bs space writes (next (record (seen_file g p.file.num (header_block g bs p.file.num) h) { rest = rest })) 3 54)
      → BriefBy bs space writes (through_part g mode vbn (seen_file g p.file.num (header_block g bs p.file.num) h) next) 18 69
  part_brief is h e inside so =
      let f : SeenFile = seen_file g n first h in
      let k : ℕ = (vbn - 1) / (header_most * g.cluster) in
      let used : fields_told first ≡ Some h = ap fields_in (used_reads p.file.seq first h e) in
      let within = is_within g n first h vbn inside in
      let few = others_few g bs n h used in
      let le = part_within g bs own c s n h is used opened.above vbn within.0 within.1 in
      brief_more bs space writes (through_part g mode vbn f next) (k + 3) (k + 54) 18 69 (omega arith) (omega arith)
      (links_brief bs space writes g mode k first f next 3 54 (λ rest len. so rest))

  open_brief : ((h : Hdr) → IsFileNumber g p.file.num → used_in p.file.seq (header_block g bs p.file.num) ≡ Some h → is_outside_file g (seen_file g p.file.num (header_block g bs p.file.num) h).file vbn ≡ false → (rest : List (ℕ × Block))
      → BriefBy bs space writes (next (record (seen_file g p.file.num (header_block g bs p.file.num) h) { rest = rest })) 3 54)
      → BriefBy bs space writes (through_open g p.file mode (refuses refusal.EndOfFile) (within g vbn (λ f. through_part g mode vbn f next))) 19 70
  open_brief so = header_brief bs space writes g own c s p.file mode 19 70 (omega arith)
      (λ b. if_file (refuses refusal.EndOfFile) (within g vbn (λ f. through_part g mode vbn f next)) (option_map (seen_file g p.file.num b) (used_in p.file.seq b))) (omega arith)
      (λ is. by_used is (used_in p.file.seq first) refl) where
        by_outside : IsFileNumber g p.file.num → (h : Hdr) → used_in p.file.seq (header_block g bs p.file.num) ≡ Some h → (t : Bool) → is_outside_file g (seen_file g p.file.num (header_block g bs p.file.num) h).file vbn ≡ t
            → BriefBy bs space writes (cond t (refuses refusal.EndOfFile) (through_part g mode vbn (seen_file g p.file.num (header_block g bs p.file.num) h) next)) 18 69
        by_outside is h e true out = omega arith
        by_outside is h e false inside = part_brief is h e inside (so h is e inside)

        by_used : IsFileNumber g p.file.num → (o : Option Hdr) → used_in p.file.seq (header_block g bs p.file.num) ≡ o
            → BriefBy bs space writes (if_file (refuses refusal.EndOfFile) (within g vbn (λ f. through_part g mode vbn f next)) (option_map (seen_file g p.file.num (header_block g bs p.file.num)) o)) 18 69
        by_used is None e = omega arith
        by_used is (Some h) e = by_outside is h e (is_outside_file g (seen_file g n first h).file vbn) refl

module _ (g : Geometry) (bs : List Block) (own : Owners) (c : Cat) (s : Spells g bs own c) (space : Space) (node chan vbn : ℕ) where
  read_on_brief : (o : Option Chan) → has_channel c node (Some chan) o ≡ true → BriefBy bs space 120 (read_on g o vbn) 19 70
  read_on_brief None known = omega arith
  read_on_brief (Some p) known =
      open_brief g bs own c s space 120 node chan vbn p (open_as c node chan p (channel_at c node chan) refl known) PR (read_in vbn)
      (λ h is e inside rest. by_past (record (seen_file g p.file.num (header_block g bs p.file.num) h) { rest = rest }) (is_past_mark (seen_file g p.file.num (header_block g bs p.file.num) h).file vbn)) where
        by_past : (f : SeenFile) (t : Bool) → BriefBy bs space 120 (cond t (answers (reply.Bytes zeros)) (Fetch (file_place f vbn) (λ b. answers (reply.Bytes b)))) 3 54
        by_past f true = omega arith
        by_past f false = (omega arith, λ b at. omega arith)

  write_on_brief : (o : Option Chan) (text : List ℕ) → has_channel c node (Some chan) o ≡ true → BriefBy bs space (16 * file_most + 1) (write_on g o vbn text) 19 70
  write_on_brief None text known = omega arith
  write_on_brief (Some p) text known = by_reading (is_reading p.mode) where
    opened : HasOpen c node chan p
    opened = open_as c node chan p (channel_at c node chan) refl known

    writes_few : (h : Hdr) → IsFileNumber g p.file.num → used_in p.file.seq (header_block g bs p.file.num) ≡ Some h → is_outside_file g (seen_file g p.file.num (header_block g bs p.file.num) h).file vbn ≡ false → (rest : List (ℕ × Block))
        → BriefBy bs space (16 * file_most + 1) (write_in g vbn text (record (seen_file g p.file.num (header_block g bs p.file.num) h) { rest = rest })) 3 54
    writes_few h is e inside rest =
        let reads = used_reads p.file.seq (header_block g bs p.file.num) h e in
        let few = few_clusters g bs own c s p.file.num is h reads opened.above in
        write_few g (record (seen_file g p.file.num (header_block g bs p.file.num) h) { rest = rest }) vbn (text_block text) (in_blocks g (h.blocks / g.cluster) vbn s.counts.geometry.cluster_to few inside)

    by_reading : (t : Bool) → BriefBy bs space (16 * file_most + 1) (cond t (refuses refusal.NoPriv) (through_open g p.file PW (refuses refusal.EndOfFile) (within g vbn (λ f. through_part g PW vbn f (write_in g vbn text))))) 19 70
    by_reading true = omega arith
    by_reading false = open_brief g bs own c s space (16 * file_most + 1) node chan vbn p opened PW (write_in g vbn text) writes_few

pub read_brief : (chan vbn : ℕ) → Briefs (cmd.ReadBlock chan vbn)
unfolding events_of read_events
read_brief chan vbn node seen bs own c on = read_on_brief seen.geometry bs own c on.spelt (space_of seen) node chan vbn seen.channel (both_hold (has_channel c node (Some chan) seen.channel) _ on.known).0

pub write_brief : (chan vbn : ℕ) (text : List ℕ) → Briefs (cmd.WriteBlock chan vbn text)
unfolding events_of write_events
write_brief chan vbn text node seen bs own c on = write_on_brief seen.geometry bs own c on.spelt (space_of seen) node chan vbn seen.channel text (both_hold (has_channel c node (Some chan) seen.channel) _ on.known).0
