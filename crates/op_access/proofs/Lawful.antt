-- CLOSE obeys the law, and so does each command that the operation takes.
use Rattle.std.proofs.Common.{◌≡◌, ◌∙◌, inl, inr, ℕ, Bool, true, false, cond, List, [], ◌∷◌, ◌++◌, Option, Some, None, refl, sym, ap, subst, arith}
use Rattle.std.specs.Prelude.{◌&&◌, Ok, option_map}
use Rattle.std.specs.List.{list_all}
use Rattle.std.proofs.lemmas.Bool.{and_parts}
use Rattle.base_words.specs.Fields.{Block}
use Rattle.fx_header.specs.declared.slot.Hdr.{Hdr}
use Rattle.fx_header.specs.declared.slot.Slot.TheVariants as head
use Rattle.lock_db.specs.declared.name.LockName.{LockName}
use Rattle.lock_db.specs.declared.name.LockName.TheVariants.{S}
use Rattle.plain_cat.specs.InForm.{is_eighth}
use Rattle.plain_cat.specs.declared.mode.Mode.{Mode}
use Rattle.plain_cat.specs.declared.mode.Mode.TheVariants.{PW}
use Rattle.plain_cat.specs.declared.command.Cmd.{Cmd}
use Rattle.plain_cat.specs.declared.command.Cmd.TheVariants as cmd
use Rattle.plain_cat.specs.declared.reply.Reply.TheVariants as reply
use Rattle.plain_cat.specs.declared.reply.Refusal.TheVariants as refusal
use Rattle.plain_cat.specs.declared.cat.Cat.{Cat}
use Rattle.plain_cat.specs.declared.cat.File.{File}
use Rattle.plain_rules.specs.Lookups.{in_use, channel_at}
use Rattle.vol_spell.specs.Files.{blocks_told}
use Rattle.vol_spell.specs.Owners.{Owners, Things, nothing, Outs}
use Rattle.vol_parts.specs.declared.geometry.Geometry.{Geometry}
use Rattle.vol_parts.specs.Catalogues.{file_of}
use Rattle.vol_spell.specs.Reading.{IsFileNumber, header_block, head_told}
use Rattle.vol_spell.specs.Spelling.{Spells}
use Rattle.op_law.specs.declared.need.Plan.{Plan}
use Rattle.op_law.specs.declared.seen.Seen.{Seen}
use Rattle.op_law.specs.declared.seen.Chan.{Chan}
use Rattle.op_law.specs.Channels.{close_plan, close_in, close_on, close_events}
use Rattle.op_law.specs.Events.{Events, Make, space_of, HasNoSpace}
use Rattle.op_law.specs.Fits.{HasSeen, things}
use Rattle.op_law.specs.Freeing.{freeing_writes}
use Rattle.op_law.specs.Headers.{through_chain, locks_behind}
use Rattle.op_law.specs.Knows.{has_channel, is_new_number, is_short, usages_fit, opens_hold, wanted, knows}
use Rattle.plain_rules.specs.Opens.{is_held_open}
use Rattle.op_law.specs.Laws.{Lawful}
use Rattle.op_law.specs.Needs.{events_of}
use Rattle.op_law.specs.Refusing.{seen_file, used_in, if_file}
use Rattle.op_law.specs.Rows.{answers}
use Rattle.op_law.proofs.Asking.{IsDoneBy, asks_lawful}
use Rattle.op_law.proofs.Doing.{refusal_done}
use Rattle.op_law.proofs.Ends.{nothing_given}
use Rattle.vol_spell.proofs.HeadSlots.{reads_fields}
use Rattle.op_law.proofs.Levels.{AreUpTo, none_held, up_to_more}
use Rattle.op_law.proofs.Links.{chain_obeys, chain_up_to}
use Rattle.op_law.proofs.Ordering.{file_level}
use Rattle.op_law.proofs.Through.{header_obeys}
use Rattle.op_law.proofs.Walking.{ObeysBy, kept}
use Rattle.op_steps.specs.Files.{file_in}
use Rattle.op_steps.proofs.Looks.{chain_locks, last, last_q, last_v, last_locks, space_obeys}
use Rattle.op_steps.proofs.Uses.{used_reads, used_is, not_used}
use Rattle.op_access.specs.Kinds.{IsClose, IsAccess}
use Rattle.op_access.specs.Seeing.{file_goes}
use Rattle.op_access.proofs.Opens.{HasOpen, has_open, channel_known}
use Rattle.op_access.proofs.OpenLaw.{open_lawful}
use Rattle.op_access.proofs.CloseOutcomes.{refuses_answer}
use Rattle.op_access.proofs.CloseWalks.{no_search, shaped, ends}
use Rattle.op_access.proofs.ClosePlans.{stays_done, plan_done}
use Rattle.op_access.proofs.CloseBrief.{close_brief}
use Rattle.op_law.proofs.Spaceless.{once}
use Rattle.op_law.proofs.Opens.{none_is}

module _ (chan : ℕ) (is : is_eighth chan ≡ true) where
  abbrev x : Cmd
  x = cmd.CloseFile chan

  module _ (node : ℕ) (seen : Seen) (bs : List Block) (own : Owners) (c : Cat) (stock : Things) (s : Spells seen.geometry bs own c)
      (given : things seen.clusters seen.number ≡ nothing) (outs : Outs node own nothing stock) (hold : list_all is_held_open c.opens ≡ true) where
    abbrev g : Geometry
    g = seen.geometry

    abbrev Done : List (LockName × Mode) → Plan → Type 0
    Done held p = IsDoneBy (cmd.CloseFile chan) node seen bs own c stock held p p.ask

    abbrev O : Events → List (LockName × Mode) → Type 0
    O es held = ObeysBy (cmd.CloseFile chan) seen.geometry bs own c seen Done es held

    module _ (p : Chan) (has : HasOpen c node chan p) where
      abbrev n : ℕ
      n = p.file.num

      abbrev first : List (LockName × Mode)
      first = (S p.file.num, PW) ∷ []

      -- a file that a channel has open is in use
      no_file : in_use c p.file ≡ None → ⊥
      no_file none = let f : ◌≡◌ {A = Option File} None (Some has.told) = sym none ∙ has.used in cc

      module _ (h : Hdr) (number : IsFileNumber seen.geometry p.file.num) (used : used_in p.file.seq (header_block seen.geometry bs p.file.num) ≡ Some h) where
        abbrev b : Block
        b = header_block seen.geometry bs p.file.num

        reads : head_told (header_block seen.geometry bs p.file.num) ≡ Ok (head.Used h)
        reads = used_reads p.file.seq b h used

        -- the file's lock comes first
        low : AreUpTo seen.geometry bs own 0 first
        low = up_to_more g bs own 0 0 [] (S p.file.num) PW (none_held g bs own 0) (omega arith) (let z = file_level g bs own c s p.file.num h number reads in omega arith)

        -- the locks of all of its headers
        abbrev all : List (LockName × Mode)
        all = first ++ locks_behind seen.geometry bs p.file.num PW

        up : AreUpTo seen.geometry bs own 15 (first ++ locks_behind seen.geometry bs p.file.num PW)
        up = chain_up_to g bs own c s p.file.num h number (reads_fields b h reads) PW first low

        by_marked : (t : Bool) → h.marked ≡ t → O (cond t (through_chain g PW (seen_file g n b h) (file_goes g chan p.mode)) (answers (reply.Closed false))) first
        by_marked true marked =
            chain_obeys x g bs own c s seen Done n h number (reads_fields b h reads) PW (inr (inl refl)) first low (file_goes g chan p.mode) has.above
            (space_obeys x g bs own c s seen Done refl all up n h (λ sp. close_plan n chan p.mode (freeing_writes g (file_in g bs n h) sp))
            (plan_done node seen bs own c s stock given outs chan is p has hold h number reads marked (last x g bs own c s seen Done refl all up)
            (last_locks x g bs own c s seen Done refl all up (file_in g bs n h) (chain_locks g bs n h first (inl refl)))
            (last_q x g bs own c s seen Done refl all up) (last_v x g bs own c s seen Done refl all up)))
        by_marked false unmarked = stays_done node seen bs own c s stock given outs chan is p has hold h number reads unmarked first

      by_used : IsFileNumber seen.geometry p.file.num → (o : Option Hdr) → used_in p.file.seq (header_block seen.geometry bs p.file.num) ≡ o
          → O (if_file (answers (reply.Closed false)) (close_in seen.geometry chan p.mode) (option_map (seen_file seen.geometry p.file.num (header_block seen.geometry bs p.file.num)) o)) first
      by_used number None e =
          absurd (no_file (used_is g bs own c s p.file number ∙ ap (option_map (λ h. file_of g.cluster n h (blocks_told g bs n))) e))
      by_used number (Some h) e = by_marked h number e h.marked refl

      on_open : O (close_on seen.geometry (Some p) chan) []
      on_open = header_obeys x g bs own c s seen Done p.file [] (λ t. t) (inl (λ t. t)) (λ other t. absurd t) PW (inr (inl refl)) _
          (λ out. absurd (no_file (not_used g bs own c s p.file out)))
          (λ number. by_used number (used_in p.file.seq (header_block g bs n)) refl)

    on_channel : (channel : Option Chan) → has_channel c node (Some chan) channel ≡ true → O (close_on seen.geometry channel chan) []
    on_channel None free =
        refusal_done x node seen bs own c stock s (subst (λ t. Outs node own t stock) (sym given) outs) refusal.NotOpen (refuses_answer c node chan (none_is (channel_at c node chan) free)) []
    on_channel (Some p) open_so = on_open p (has_open c node chan p open_so)

    obeys : has_channel c node (Some chan) seen.channel ≡ true → O (events_of seen.geometry seen.channel (cmd.CloseFile chan)) []
    unfolding events_of close_events
    obeys known = on_channel seen.channel known

  -- nothing was given
  none_given : (seen : Seen) → HasSeen (cmd.CloseFile chan) seen → things seen.clusters seen.number ≡ nothing
  none_given seen has = nothing_given (space_of seen)
      (kept (events_of seen.geometry seen.channel x) (space_of seen) (HasNoSpace (space_of seen)) seen.locks seen.blocks (no_search chan seen.geometry seen.channel) has)

  -- no open is in NL
  module _ (node : ℕ) (seen : Seen) (c : Cat) (known : knows node (cmd.CloseFile chan) seen c ≡ true) where
    abbrev behind : Bool
    behind = is_short c (wanted seen (cmd.CloseFile chan)) seen.short && (usages_fit c (cmd.CloseFile chan) && opens_hold c (cmd.CloseFile chan))

    held_open : list_all is_held_open c.opens ≡ true
    held_open =
        let k = and_parts (has_channel c node (Some chan) seen.channel) (is_new_number seen.number && behind) known in
        let a = and_parts (is_new_number seen.number) behind k.1 in
        let b = and_parts (is_short c (wanted seen x) seen.short) (usages_fit c x && opens_hold c x) a.1 in
        (and_parts (usages_fit c x) (opens_hold c x) b.1).1

  closes_lawful : Lawful (cmd.CloseFile chan)
  closes_lawful = asks_lawful x (record {
    searches = λ g channel. once (events_of g channel x) (no_search chan g channel);
    shaped = shaped chan;
    ends = ends chan;
    obeys = λ node seen bs own c stock s outs known has.
        let given = none_given seen has in
        obeys node seen bs own c stock s given (subst (λ t. Outs node own t stock) given outs) (held_open node seen c known) (channel_known chan node seen c known);
    brief = close_brief chan;
  })

pub close_lawful : (x : Cmd) → IsClose x → Lawful x
close_lawful (cmd.CloseFile chan) is = closes_lawful chan is
close_lawful other is = absurd is

pub access_lawful : (x : Cmd) → IsAccess x → Lawful x
access_lawful (cmd.OpenFile chan file mode) is = open_lawful (cmd.OpenFile chan file mode) is
access_lawful (cmd.CloseFile chan) is = close_lawful (cmd.CloseFile chan) is
access_lawful other is = absurd is
