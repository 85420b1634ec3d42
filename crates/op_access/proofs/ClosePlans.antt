-- The plan of a CLOSE as it is done on the blocks of a volume. Its chain begins on the catalogue with the channel closed: what
-- channels have open is no matter of blocks.
use Rattle.std.proofs.Common.{◌≡◌, ◌+◌, ◌*◌, ◌∙◌, inl, inr, ℕ, Bool, true, false, List, [], ◌∷◌, Some, map, take, refl, sym, ap, subst}
use Rattle.std.specs.Prelude.{not, Ok}
use Rattle.std.specs.List.{list_all}
use Rattle.std.proofs.lemmas.List.{length-map}
use Rattle.base_words.specs.Fields.{Block}
use Rattle.fx_header.specs.declared.slot.Hdr.{Hdr}
use Rattle.fx_header.specs.declared.slot.Slot.TheVariants as head
use Rattle.lock_db.specs.declared.name.LockName.{LockName}
use Rattle.lock_db.specs.declared.name.LockName.TheVariants.{Q, V}
use Rattle.plain_cat.specs.InForm.{is_eighth}
use Rattle.plain_cat.specs.declared.mode.Mode.{Mode}
use Rattle.plain_cat.specs.declared.mode.Mode.TheVariants.{NL, CR, CW, PR, PW, EX}
use Rattle.plain_cat.specs.declared.command.Cmd.{Cmd}
use Rattle.plain_cat.specs.declared.command.Cmd.TheVariants as cmd
use Rattle.plain_cat.specs.declared.history.Stage.TheVariants as stage
use Rattle.plain_cat.specs.declared.reply.Reply.TheVariants as reply
use Rattle.plain_cat.specs.declared.cat.Cat.{Cat}
use Rattle.plain_cat.specs.declared.cat.File.{File}
use Rattle.plain_rules.specs.Lookups.{file_at, is_open}
use Rattle.plain_rules.specs.Changes.{discharged, freed}
use Rattle.plain_rules.specs.Answers.{removed, Answer}
use Rattle.base_words.specs.Lists.{Has}
use Rattle.vol_spell.specs.Owners.{Owners, Things, nothing, Outs}
use Rattle.vol_spell.proofs.Placing.{length-blocks_at}
use Rattle.vol_parts.specs.declared.geometry.Geometry.{Geometry}
use Rattle.vol_parts.specs.declared.geometry.Part.TheVariants.{Storage}
use Rattle.vol_parts.specs.Catalogues.{file_of}
use Rattle.vol_spell.specs.Reading.{IsFileNumber, header_block, head_told}
use Rattle.vol_spell.specs.Places.{place_of}
use Rattle.vol_spell.specs.Spelling.{Spells}
use Rattle.vol_under.specs.Chains.{End, Replied}
use Rattle.vol_under.specs.UnderWay.{StandsAt, stage_after, outs_after}
use Rattle.vol_under.proofs.Endings.{opens_spelt}
use Rattle.vol_under.proofs.Steps.{stands_first}
use Rattle.op_law.specs.declared.need.PlanWrite.{PlanWrite}
use Rattle.op_law.specs.declared.need.Plan.{Plan}
use Rattle.op_law.specs.declared.seen.Seen.{Seen}
use Rattle.op_law.specs.declared.seen.Chan.{Chan}
use Rattle.op_law.specs.Channels.{close_ask, close_plan}
use Rattle.op_law.specs.Fits.{things}
use Rattle.op_law.specs.Freeing.{blocks_for, all_clusters}
use Rattle.op_law.specs.Knows.{is_granted, knows}
use Rattle.plain_rules.specs.Opens.{goes_with, is_held_open}
use Rattle.op_law.specs.Laws.{held_in, planned, under_way}
use Rattle.op_law.specs.Writing.{empty_handed}
use Rattle.op_law.proofs.Asking.{IsDoneBy}
use Rattle.op_law.proofs.Doing.{AreDone}
use Rattle.vol_spell.proofs.HeadSlots.{file_told_at}
use Rattle.op_steps.specs.Chained.{Chain, StandsOn}
use Rattle.op_steps.specs.Files.{file_in}
use Rattle.vol_spell.specs.Files.{IsFileThere, blocks_told}
use Rattle.op_steps.specs.BitmapWrites.{storage_places}
use Rattle.op_steps.proofs.Endings.{held_keeps_out}
use Rattle.op_steps.specs.FreeingGoneWrites.{space_at, gone_writes, HaveLocks, gone}
use Rattle.op_steps.proofs.GoneSteps.{gone_steps, gone_guards, gone_leaves, gone_fills, gone_leaves_few, gone_ends}
use Rattle.op_access.proofs.Opens.{HasOpen, alone_is}
use Rattle.op_access.proofs.CloseOutcomes.{shut, stays_answer, kept_answer, gone_answer, stands_freed, stands_gone}
use Rattle.op_access.proofs.CloseWalks.{take_none}

not_true : (t : Bool) → not t ≡ true → t ≡ false
not_true true e = absurd (let f : false ≡ true = e in cc)
not_true false e = refl

not_false : (t : Bool) → not t ≡ false → t ≡ true
not_false true e = refl
not_false false e = absurd (let f : true ≡ false = e in cc)

module _ (node : ℕ) (seen : Seen) (bs : List Block) (own : Owners) (c : Cat) (s : Spells seen.geometry bs own c) (stock : Things) (given : things seen.clusters seen.number ≡ nothing) (outs : Outs node own nothing stock)
    (chan : ℕ) (is : is_eighth chan ≡ true) (p : Chan) (has : HasOpen c node chan p) (hold : list_all is_held_open c.opens ≡ true)
    (h : Hdr) (number : IsFileNumber seen.geometry p.file.num) (reads : head_told (header_block seen.geometry bs p.file.num) ≡ Ok (head.Used h)) where
  abbrev g : Geometry
  g = seen.geometry

  abbrev x : Cmd
  x = cmd.CloseFile chan

  abbrev n : ℕ
  n = p.file.num

  abbrev body : List Block
  body = blocks_told seen.geometry bs p.file.num

  abbrev f : File
  f = file_of seen.geometry.cluster p.file.num h (blocks_told seen.geometry bs p.file.num)

  -- the catalogue with the channel closed
  abbrev closed : Cat
  closed = shut c node chan

  at_file : file_at c p.file.num ≡ Some f
  at_file = file_told_at g bs own c s p.file.num h number reads

  -- ---- the open goes alone

  -- no write, and the answer
  only_closed : Answer c node (cmd.CloseFile chan) (reply.Closed false) (shut c node chan) → (held : List (LockName × Mode)) → AreDone (cmd.CloseFile chan) node seen bs own c stock held [] (reply.Closed false)
  only_closed answer held = record {
    named = λ w t. absurd t;
    dirs = λ w t. absurd t;
    slots = λ w t. absurd t;
    kept_out = λ w t. absurd t;
    steps = (c, stands_first c node (Some x), s, subst (λ t. Outs node own t stock) (sym given) outs, closed.opens, answer);
  }

  pub stays_done : h.marked ≡ false → (held : List (LockName × Mode)) → AreDone (cmd.CloseFile chan) node seen bs own c stock held [] (reply.Closed false)
  stays_done unmarked held = only_closed (stays_answer c node chan p.file.num p.mode has.at f at_file unmarked) held

  -- ---- the file goes with it

  -- these locks are held: those of all headers of the file, Q and V
  module _ (marked : h.marked ≡ true) (held : List (LockName × Mode)) (all : HaveLocks seen.geometry (file_in seen.geometry bs p.file.num h) (held_in PW held)) (in_q : Has (held_in PW held) Q)
      (in_v : Has (held_in PW held) V) where
    abbrev ws : List PlanWrite
    ws = gone_writes seen.geometry bs p.file.num h

    -- another channel has it open
    kept_done : is_open closed p.file.num ≡ true → AreDone (cmd.CloseFile chan) node seen bs own c stock held [] (reply.Closed false)
    kept_done opened = only_closed (kept_answer c node chan p.file.num p.mode has.at f at_file opened) held

    -- none has
    module _ (alone : is_open closed p.file.num ≡ false) where
      abbrev last_cat : Cat
      last_cat = gone seen.geometry (shut c node chan) p.file.num f

      abbrev k : Chain
      k = record { geometry = seen.geometry; node = node; cmd = Some (cmd.CloseFile chan); locks = held_in PW held; cat = c; stock = stock }

      abbrev end : End
      end = Replied seen.geometry node (under_way (cmd.CloseFile chan) seen ws (knows node (cmd.CloseFile chan) seen)) (cmd.CloseFile chan) (reply.Closed true) c stock

      on : StandsOn k empty_handed closed bs own
      on = record { spelt = opens_spelt g bs own c closed.opens s; outs = outs }

      there : IsFileThere seen.geometry closed bs p.file.num h f
      there = record { number = number; above = has.above; reads = reads; file = at_file }

      free_stage : StandsAt c node (Some (cmd.CloseFile chan)) stage.Freed (freed closed p.file.num f)
      free_stage = stands_freed c node chan p.file.num p.mode has.at f at_file marked alone

      -- the file's cost by the geometry
      last_is : removed closed p.file.num f ≡ last_cat
      last_is = ap (λ w. discharged (freed closed p.file.num f) f.owner (w * f.clusters + 1)) s.constants.factor

      last_stage : StandsAt c node (Some (cmd.CloseFile chan)) stage.Done last_cat
      last_stage = subst (λ y. StandsAt c node (Some (cmd.CloseFile chan)) stage.Done y) last_is (stands_gone c node chan p.file.num p.mode has.at f at_file marked alone)

      last_answer : Answer c node (cmd.CloseFile chan) (reply.Closed true) last_cat
      last_answer = subst (λ y. Answer c node (cmd.CloseFile chan) (reply.Closed true) y) last_is (gone_answer c node chan p.file.num p.mode has.at f at_file marked alone)

      nothing_left : outs_after (things seen.clusters seen.number) (map planned ws) ≡ nothing
      nothing_left =
          let qs = all_clusters g (file_in g bs p.file.num h) in
          let count = length-blocks_at bs (storage_places g qs) in
          gone_ends g (file_in g bs p.file.num h) (space_at g bs p.file.num h) (things seen.clusters seen.number) (count ∙ length-map (blocks_for g qs) (λ b. place_of g (Storage b)))

      finish : (bs' : List Block) (new : Owners) → StandsOn k empty_handed last_cat bs' new → StandsAt c node (Some (cmd.CloseFile chan)) (stage_after stage.Nothing (map planned ws)) last_cat → end bs' new
      finish bs' new on' at = (last_cat, at, on'.spelt, subst (λ t. Outs node new t stock) (sym nothing_left) on'.outs, closed.opens, last_answer)

      gone_done : AreDone (cmd.CloseFile chan) node seen bs own c stock held ws (reply.Closed true)
      gone_done = record {
        named = gone_guards g p.file.num h f closed bs own node (held_in PW held) on.spelt there all in_q in_v;
        dirs = gone_leaves g p.file.num h f closed bs own on.spelt there;
        slots = gone_fills g p.file.num h f closed bs own (things seen.clusters seen.number) on.spelt there;
        kept_out = held_keeps_out (things seen.clusters seen.number) (held_in PW held) ws in_v (gone_leaves_few g p.file.num h f closed bs own on.spelt there);
        steps = gone_steps end k p.file.num h body closed bs own on there all in_q in_v free_stage last_stage finish;
      }

    -- ---- by the mode of the channel

    abbrev plan_by : Mode → Plan
    plan_by m = close_plan p.file.num chan m ws

    abbrev IsDone : Mode → Type 0
    IsDone m = IsDoneBy (cmd.CloseFile chan) node seen bs own c stock held (plan_by m) (plan_by m).ask

    -- EX goes with all other opens of the file exactly where there is none
    alone_by : goes_with c node chan p.file.num EX ≡ not (is_open closed p.file.num)
    alone_by = alone_is c node chan p.file.num is hold

    asks_done : is_granted node (close_ask p.file.num chan) c ≡ true → AreDone (cmd.CloseFile chan) node seen bs own c stock held ws (reply.Closed true)
    asks_done may = gone_done (not_true (is_open closed p.file.num) (sym alone_by ∙ may))

    asks_refused : is_granted node (close_ask p.file.num chan) c ≡ false → AreDone (cmd.CloseFile chan) node seen bs own c stock held (take 0 ws) (reply.Closed false)
    asks_refused may_not =
        subst (λ us. AreDone (cmd.CloseFile chan) node seen bs own c stock held us (reply.Closed false)) (sym (take_none ws)) (kept_done (not_false (is_open closed p.file.num) (sym alone_by ∙ may_not)))

    by_mode : (m : Mode) → p.mode ≡ m → IsDone m
    by_mode EX e = gone_done (not_true (is_open closed p.file.num) (sym alone_by ∙ ap (λ (m : Mode). goes_with c node chan p.file.num m) (sym e) ∙ has.goes))
    by_mode NL e = record { granted = asks_done; refused = asks_refused }
    by_mode CR e = record { granted = asks_done; refused = asks_refused }
    by_mode CW e = record { granted = asks_done; refused = asks_refused }
    by_mode PR e = record { granted = asks_done; refused = asks_refused }
    by_mode PW e = record { granted = asks_done; refused = asks_refused }

    pub plan_done : IsDone p.mode
    plan_done = by_mode p.mode refl
