-- How much a CLOSE needs and writes.
use Rattle.std.proofs.Common.{◌≡◌, ◌≤◌, ◌<◌, ◌/◌, ℕ, Bool, true, false, cond, List, Option, Some, None, length, refl, sym, subst, arith}
use Rattle.std.specs.Prelude.{option_map}
use Rattle.base_words.specs.Fields.{Block}
use Rattle.fx_header.specs.declared.slot.Hdr.{Hdr}
use Rattle.lock_db.specs.declared.name.LockName.TheVariants.{S}
use Rattle.plain_cat.specs.declared.mode.Mode.{Mode}
use Rattle.plain_cat.specs.declared.mode.Mode.TheVariants.{NL, CR, CW, PR, PW, EX}
use Rattle.plain_cat.specs.declared.command.Cmd.TheVariants as cmd
use Rattle.plain_cat.specs.declared.reply.Reply.TheVariants as reply
use Rattle.plain_cat.specs.declared.reply.Refusal.TheVariants as refusal
use Rattle.plain_cat.specs.declared.cat.Cat.{Cat}
use Rattle.plain_rules.specs.Lookups.{extra}
use Rattle.vol_spell.specs.Owners.{Owners}
use Rattle.vol_parts.specs.declared.geometry.Geometry.{Geometry}
use Rattle.vol_spell.specs.Reading.{IsFileNumber, header_place, header_block}
use Rattle.vol_spell.specs.Spelling.{Spells}
use Rattle.op_law.specs.declared.need.PlanWrite.{PlanWrite}
use Rattle.op_law.specs.declared.seen.Chan.{Chan}
use Rattle.op_law.specs.Channels.{close_plan, close_in, close_on, close_events}
use Rattle.op_law.specs.Events.{Events, Take, Look, Make, Space, space_of}
use Rattle.op_law.specs.Freeing.{SeenSpace, freeing_writes}
use Rattle.op_law.specs.Headers.{through_chain}
use Rattle.op_law.specs.Needs.{events_of}
use Rattle.op_law.specs.Refusing.{SeenFile, seen_file, used_in, if_file}
use Rattle.op_law.specs.Rows.{is_number, answers, refuses}
use Rattle.op_law.proofs.Brief.{BriefBy, Briefs}
use Rattle.op_law.proofs.Chains.{extra_few}
use Rattle.op_law.proofs.Counting.{number_brief, freeing_few}
use Rattle.op_law.proofs.Telling.{number_is}
use Rattle.vol_spell.proofs.HeadSlots.{reads_fields}
use Rattle.op_steps.proofs.Uses.{used_reads}
use Rattle.op_steps.proofs.Looks.{chain_brief}
use Rattle.op_access.specs.Seeing.{file_goes}
use Rattle.op_access.proofs.Opens.{known_open}

-- the plan has these writes, whether it asks or not
same_writes : (n chan : ℕ) (m : Mode) (ws : List PlanWrite) → (close_plan n chan m ws).writes ≡ ws
same_writes n chan NL ws = refl
same_writes n chan CR ws = refl
same_writes n chan CW ws = refl
same_writes n chan PR ws = refl
same_writes n chan PW ws = refl
same_writes n chan EX ws = refl

module _ (g : Geometry) (bs : List Block) (own : Owners) (c : Cat) (s : Spells g bs own c) (space : Space) (chan : ℕ) where
  abbrev Within : Events → ℕ → ℕ → Type 0
  Within es locks looks = BriefBy bs space 40 es locks looks

  plan_few : (m : Mode) (f : SeenFile) (sp : SeenSpace) → length f.rest ≤ 15 → length (close_plan f.num chan m (freeing_writes g f sp)).writes ≤ 40
  plan_few m f sp few = subst (λ (ws : List PlanWrite). length ws ≤ 40) (sym (same_writes f.num chan m (freeing_writes g f sp))) (let most = freeing_few g f sp s.counts.geometry in omega arith)

  module _ (p : Chan) (above : 11 < p.file.num) (number : IsFileNumber g p.file.num) where
    abbrev b : Block
    b = header_block g bs p.file.num

    file_brief : (o : Option Hdr) → used_in p.file.seq b ≡ o → Within (if_file (answers (reply.Closed false)) (close_in g chan p.mode) (option_map (seen_file g p.file.num b) o)) 18 69
    file_brief None used = omega arith
    file_brief (Some h) used = by_marked h.marked where
      f : SeenFile
      f = seen_file g p.file.num b h

      few : extra f.file.clusters ≤ 15
      few = extra_few g bs own c s p.file.num h number (reads_fields b h (used_reads p.file.seq b h used)) above

      by_marked : (t : Bool) → Within (cond t (through_chain g PW f (file_goes g chan p.mode)) (answers (reply.Closed false))) 18 69
      by_marked true =
          let most = few in
          chain_brief g bs own c s space 40 f (λ whole sp. close_plan whole.num chan p.mode (freeing_writes g whole sp)) 18 69 (omega arith) (omega arith)
          (λ rest sp len. plan_few p.mode (record f { rest = rest }) sp (omega arith))
      by_marked false = omega arith

  on_brief : (channel : Option Chan) → ((p : Chan) → channel ≡ Some p → 11 < p.file.num) → Within (close_on g channel chan) 19 70
  on_brief None above = omega arith
  on_brief (Some p) above = by_number (is_number g p.file) refl where
    looking : Block → Events
    looking b = if_file (answers (reply.Closed false)) (close_in g chan p.mode) (option_map (seen_file g p.file.num b) (used_in p.file.seq b))

    by_number : (t : Bool) → is_number g p.file ≡ t → Within (cond t (Take (S p.file.num) PW (Look (S p.file.num) (header_place g p.file.num) looking)) (refuses refusal.NoSuchFile)) 19 70
    by_number true e =
        number_brief bs space 40 g own c s p.file.num PW looking 19 70 (omega arith) (omega arith)
        (file_brief p (above p refl) (number_is g p.file e) (used_in p.file.seq (header_block g bs p.file.num)) refl)
    by_number false e = omega arith

pub close_brief : (chan : ℕ) → Briefs (cmd.CloseFile chan)
unfolding events_of close_events
close_brief chan node seen bs own c on = on_brief seen.geometry bs own c on.spelt (space_of seen) chan seen.channel (λ p is. (known_open chan node seen c on.known p is).above)
