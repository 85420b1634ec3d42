-- A file that a channel has open, behind its lock and its first header, and behind those up to that of a virtual block.
use Rattle.std.proofs.Common.{◌≡◌, ◌∙◌, ◌-◌, ◌*◌, ◌/◌, ℕ, Bool, true, false, cond, List, [], ◌∷◌, Option, Some, None, take, inl, refl, sym, ap, arith}
use Rattle.std.specs.Prelude.{◌==◌, option_map}
use Rattle.base_words.specs.Fields.{Block}
use Rattle.fx_header.specs.declared.slot.Hdr.{Hdr}
use Rattle.lock_db.specs.declared.name.LockName.{LockName}
use Rattle.lock_db.specs.declared.name.LockName.TheVariants.{S}
use Rattle.plain_cat.specs.declared.mode.Mode.{Mode}
use Rattle.plain_cat.specs.declared.mode.Mode.TheVariants.{PR, PW}
use Rattle.plain_cat.specs.declared.command.Cmd.{Cmd}
use Rattle.plain_cat.specs.declared.reply.Reply.TheVariants as reply
use Rattle.plain_cat.specs.declared.reply.Refusal.TheVariants as refusal
use Rattle.plain_cat.specs.declared.cat.Cat.{Cat}
use Rattle.plain_cat.specs.declared.cat.File.{File}
use Rattle.plain_rules.specs.Lookups.{file_at, of_seq, header_most}
use Rattle.base_words.specs.Lists.{Has}
use Rattle.vol_spell.specs.Owners.{Owners}
use Rattle.vol_parts.specs.declared.geometry.Geometry.{Geometry}
use Rattle.vol_parts.specs.Catalogues.{file_of}
use Rattle.vol_parts.specs.Volumes.{fields_in}
use Rattle.vol_spell.specs.Reading.{IsFileNumber, header_block, fields_told}
use Rattle.vol_spell.specs.Spelling.{Spells}
use Rattle.op_law.specs.declared.need.Plan.{Plan}
use Rattle.op_law.specs.declared.seen.Seen.{Seen}
use Rattle.op_law.specs.declared.seen.Chan.{Chan}
use Rattle.op_law.specs.Channels.{is_outside_file, within}
use Rattle.op_law.specs.Events.{Events}
use Rattle.op_law.specs.Headers.{through_part, locks_behind, part_file}
use Rattle.op_law.specs.Order.{level}
use Rattle.op_law.specs.Refusing.{SeenFile, seen_file, used_in, if_file, through_open}
use Rattle.op_law.specs.Rows.{plain_plan, is_number, refuses}
use Rattle.op_law.proofs.Chains.{slot_level}
use Rattle.op_law.proofs.Levels.{none_held, up_to_more}
use Rattle.op_law.proofs.Links.{part_obeys}
use Rattle.op_law.proofs.Through.{header_obeys}
use Rattle.op_law.proofs.Walking.{ObeysBy}
use Rattle.vol_spell.specs.Files.{IsFileThere, blocks_told}
use Rattle.op_data.proofs.Channel.{HasOpen}
use Rattle.op_data.proofs.Ranges.{is_within}
use Rattle.op_steps.proofs.Uses.{used_reads, used_is, not_used}

-- a file in use is the one that stands under its number
stands_in_use : (seq : ℕ) (o : Option File) (f : File) → of_seq seq o ≡ Some f → o ≡ Some f
stands_in_use seq None f e = e
stands_in_use seq (Some h) f e = by_seq (h.seq == seq) e where
  by_seq : (t : Bool) → cond t (Some h) None ≡ Some f → ◌≡◌ {A = Option File} (Some h) (Some f)
  by_seq true k = k
  by_seq false k = absurd (let g : None ≡ Some f = k in cc)

-- the file of the channel stands under its number
pub open_file : (c : Cat) (node chan : ℕ) (p : Chan) (opened : HasOpen c node chan p) → file_at c p.file.num ≡ Some opened.file
open_file c node chan p opened = stands_in_use p.file.seq (file_at c p.file.num) opened.file opened.used

module _ (g : Geometry) (bs : List Block) (own : Owners) (c : Cat) (s : Spells g bs own c) (node chan : ℕ) (p : Chan) (opened : HasOpen c node chan p) where
  abbrev n : ℕ
  n = p.file.num

  -- the header of its number is in use
  pub open_there : (h : Hdr) → IsFileNumber g p.file.num → used_in p.file.seq (header_block g bs p.file.num) ≡ Some h → IsFileThere g c bs p.file.num h opened.file
  open_there h is e = record { number = is; above = opened.above; reads = used_reads p.file.seq (header_block g bs n) h e; file = open_file c node chan p opened }

  -- there is none other
  pub open_some : IsFileNumber g p.file.num → used_in p.file.seq (header_block g bs p.file.num) ≡ None → ⊥
  open_some is e = let f : None ≡ Some opened.file = sym (used_is g bs own c s p.file is ∙ ap (option_map (λ h. file_of g.cluster p.file.num h (blocks_told g bs p.file.num))) e) ∙ opened.used in cc

  pub open_number : is_number g p.file ≡ false → ⊥
  open_number e = let f : None ≡ Some opened.file = sym (not_used g bs own c s p.file e) ∙ opened.used in cc

  module _ (x : Cmd) (seen : Seen) (P : List (LockName × Mode) → Plan → Type 0) (mode : Mode) (allowed : Has (PR ∷ PW ∷ []) mode) (next : SeenFile → Events) where
    -- what comes next obeys the law where it does behind the file's lock and its header
    pub open_obeys : ((h : Hdr) → IsFileThere g c bs p.file.num h opened.file → ObeysBy x g bs own c seen P (next (seen_file g p.file.num (header_block g bs p.file.num) h)) ((S p.file.num, mode) ∷ []))
        → ObeysBy x g bs own c seen P (through_open g p.file mode (refuses refusal.EndOfFile) next) []
    open_obeys behind = header_obeys x g bs own c s seen P p.file [] (λ t. t) (inl (λ t. t)) (λ other t. absurd t) mode allowed
        (λ b. if_file (refuses refusal.EndOfFile) next (option_map (seen_file g n b) (used_in p.file.seq b)))
        (λ e. absurd (open_number e)) (λ is. by_used is (used_in p.file.seq (header_block g bs n)) refl) where
          by_used : IsFileNumber g p.file.num → (o : Option Hdr) → used_in p.file.seq (header_block g bs p.file.num) ≡ o
              → ObeysBy x g bs own c seen P (if_file (refuses refusal.EndOfFile) next (option_map (seen_file g p.file.num (header_block g bs p.file.num)) o)) ((S p.file.num, mode) ∷ [])
          by_used is None e = absurd (open_some is e)
          by_used is (Some h) e = behind h (open_there h is e)

  -- the first header of the file is in use
  pub open_used : (h : Hdr) → IsFileThere g c bs p.file.num h opened.file → fields_told (header_block g bs p.file.num) ≡ Some h
  open_used h there = ap fields_in there.reads

  module _ (x : Cmd) (seen : Seen) (P : List (LockName × Mode) → Plan → Type 0) (mode : Mode) (allowed : Has (PR ∷ PW ∷ []) mode) (vbn : ℕ) (next : SeenFile → Events) where
    abbrev k : ℕ
    k = (vbn - 1) / (header_most * g.cluster)

    -- where the block is one of the file's, what comes next is asked for with the headers up to that which lists it
    pub part_open_obeys : ((h : Hdr) → IsFileThere g c bs p.file.num h opened.file → is_outside_file g (seen_file g p.file.num (header_block g bs p.file.num) h).file vbn ≡ true
        → P ((S p.file.num, mode) ∷ []) (plain_plan (reply.Refused refusal.EndOfFile)))
        → ((h : Hdr) → IsFileThere g c bs p.file.num h opened.file → is_outside_file g (seen_file g p.file.num (header_block g bs p.file.num) h).file vbn ≡ false
        → ObeysBy x g bs own c seen P (next (part_file g bs p.file.num h ((vbn - 1) / (header_most * g.cluster)))) ((S p.file.num, mode) ∷ take ((vbn - 1) / (header_most * g.cluster)) (locks_behind g bs p.file.num mode)))
        → ObeysBy x g bs own c seen P (through_open g p.file mode (refuses refusal.EndOfFile) (within g vbn (λ f. through_part g mode vbn f next))) []
    part_open_obeys out inside = open_obeys x seen P mode allowed (within g vbn (λ f. through_part g mode vbn f next))
        (λ h there. by_outside h there (is_outside_file g (seen_file g n (header_block g bs n) h).file vbn) refl) where
          by_outside : (h : Hdr) → IsFileThere g c bs p.file.num h opened.file → (t : Bool) → is_outside_file g (seen_file g p.file.num (header_block g bs p.file.num) h).file vbn ≡ t
              → ObeysBy x g bs own c seen P (cond t (refuses refusal.EndOfFile) (through_part g mode vbn (seen_file g p.file.num (header_block g bs p.file.num) h) next)) ((S p.file.num, mode) ∷ [])
          by_outside h there true e = out h there e
          by_outside h there false e =
              let used = open_used h there in
              let to = is_within g n (header_block g bs n) h vbn e in
              let first : level g bs own (S n) ≡ 0 = slot_level g bs own c s n h there.number used 0 n refl in
              part_obeys x g bs own c s seen P n h there.number used mode allowed ((S n, mode) ∷ [])
              (up_to_more g bs own 0 0 [] (S n) mode (none_held g bs own 0) (omega arith) (omega arith)) next opened.above vbn to.0 to.1 (inside h there e)
