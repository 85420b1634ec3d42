-- The law of LOOKUP, LIST and STAT.
use Rattle.std.proofs.Common.{◌≡◌, ◌∙◌, inl, ℕ, Bool, true, false, cond, List, [], ◌∷◌, Option, Some, None, refl, ap, arith}
use Rattle.std.specs.Prelude.{option_map, Ok}
use Rattle.base_words.specs.Fields.{Block}
use Rattle.fx_header.specs.declared.slot.Hdr.{Hdr}
use Rattle.fx_header.specs.declared.slot.Slot.TheVariants as head
use Rattle.lock_db.specs.declared.name.LockName.TheVariants.{S}
use Rattle.plain_cat.specs.declared.ids.Fid.{Fid}
use Rattle.plain_cat.specs.declared.mode.Mode.TheVariants.{PR}
use Rattle.plain_cat.specs.declared.entries.DirEnt.{DirEnt}
use Rattle.plain_cat.specs.declared.command.Cmd.{Cmd}
use Rattle.plain_cat.specs.declared.command.Cmd.TheVariants as cmd
use Rattle.plain_cat.specs.declared.reply.Reply.{Reply}
use Rattle.plain_cat.specs.declared.reply.Reply.TheVariants as reply
use Rattle.plain_cat.specs.declared.reply.Refusal.TheVariants as refusal
use Rattle.plain_cat.specs.declared.cat.Cat.{Cat}
use Rattle.plain_cat.specs.declared.cat.File.{File}
use Rattle.plain_rules.specs.declared.outcome.Outcome.{Outcome}
use Rattle.plain_rules.specs.Lookups.{live, versions, entry_of, found}
use Rattle.plain_rules.specs.Answers.{told, in_directory_file, lookup_outcome, list_outcome, stat_of, stat_outcome, outcome}
use Rattle.plain_rules.proofs.LawSteps.{pick_exists}
use Rattle.vol_spell.specs.Owners.{Owners}
use Rattle.vol_parts.specs.declared.geometry.Geometry.{Geometry}
use Rattle.vol_spell.specs.Reading.{IsFileNumber, head_told}
use Rattle.vol_spell.specs.Spelling.{Spells}
use Rattle.op_law.specs.declared.need.Plan.{Plan}
use Rattle.op_law.specs.declared.seen.Seen.{Seen}
use Rattle.op_law.specs.declared.seen.Chan.{Chan}
use Rattle.op_law.specs.Events.{Space, space_of, HasNoSearch}
use Rattle.op_law.specs.Rows.{plain_plan, answers, live_in, through_header, through_directory, entries_seen}
use Rattle.op_law.specs.Needs.{facts_of, facts_or_none, lookup_events, list_events, stat_events, events_of}
use Rattle.op_law.specs.Laws.{Lawful}
use Rattle.op_law.proofs.Telling.{live_reads, live_is, not_live}
use Rattle.vol_spell.proofs.HeadSlots.{blocks_whole}
use Rattle.op_law.proofs.Walking.{EveryPlan, Obeys}
use Rattle.op_law.proofs.Through.{header_so, directory_so, file_header, file_told, listed_blocks, header_obeys, directory_obeys}
use Rattle.op_law.proofs.Brief.{BriefBy, Briefs}
use Rattle.op_law.proofs.Counting.{header_brief, directory_brief}
use Rattle.op_law.proofs.OnlyLooking.{IsPlain, IsAnswer, only_looks_lawful}
use Rattle.op_lookup.specs.Kinds.{IsLook}

-- ---- no search, and plans that write nothing

so_none : (o : Option Hdr) → HasNoSearch (facts_or_none o)
so_none None = tt
so_none (Some h) = tt

so_plain : (o : Option Hdr) → EveryPlan IsPlain (facts_or_none o)
so_plain None = record { writes = refl; ask = refl }
so_plain (Some h) = record { writes = refl; ask = refl }

searches : (x : Cmd) → IsLook x → (g : Geometry) (channel : Option Chan) → HasNoSearch (events_of g channel x)
unfolding events_of lookup_events list_events stat_events
searches (cmd.Lookup reg dir name ver) look g channel = directory_so HasNoSearch (λ n m next h. h) (λ n l next h. h) g dir PR _ tt tt (λ b bs. tt)
searches (cmd.List dir) look g channel = directory_so HasNoSearch (λ n m next h. h) (λ n l next h. h) g dir PR _ tt tt (λ b bs. tt)
searches (cmd.Stat file) look g channel = header_so HasNoSearch (λ n m next h. h) (λ n l next h. h) g file PR _ tt (λ b. so_none (live_in file.seq b))
searches other look g channel = absurd look

pub plain : (x : Cmd) → IsLook x → (g : Geometry) (channel : Option Chan) → EveryPlan IsPlain (events_of g channel x)
unfolding events_of lookup_events list_events stat_events
plain (cmd.Lookup reg dir name ver) look g channel =
    directory_so (EveryPlan IsPlain) (λ n m next h. h) (λ n l next h. h) g dir PR _ (record { writes = refl; ask = refl }) (record { writes = refl; ask = refl }) (λ b bs. record { writes = refl; ask = refl })
plain (cmd.List dir) look g channel =
    directory_so (EveryPlan IsPlain) (λ n m next h. h) (λ n l next h. h) g dir PR _ (record { writes = refl; ask = refl }) (record { writes = refl; ask = refl }) (λ b bs. record { writes = refl; ask = refl })
plain (cmd.Stat file) look g channel =
    header_so (EveryPlan IsPlain) (λ n m next h. h) (λ n l next h. h) g file PR _ (record { writes = refl; ask = refl }) (λ b. so_plain (live_in file.seq b))
plain other look g channel = absurd look

-- ---- on all blocks the plan is the answer

module _ (x : Cmd) (channel : Option Chan) (g : Geometry) (seen : Seen) (bs : List Block) (own : Owners) (c : Cat) (s : Spells g bs own c) (fid : Fid) where
  abbrev P : Plan → Type 0
  P p = IsAnswer x channel c p

  abbrev told_file : Hdr → File
  told_file f = file_told bs g fid f

  abbrev hb : Block
  hb = file_header bs g fid

  -- an answer that leaves the catalogue, where the outcome tells it
  tells_so : (r : Reply) → ((node : ℕ) (new : Option ℕ) → outcome c node x new ≡ told c r) → P (plain_plan r)
  tells_so r e = λ node has. let p = pick_exists c in (p.0, p.1, e node p.0)

  -- LOOKUP and LIST: the reply tells of the entries
  module _ (tell : List DirEnt → Reply) (same : (node : ℕ) (new : Option ℕ) → outcome c node x new ≡ in_directory_file c (live c fid) (λ d. told c (tell d.entries))) where
    goes : Option File → Outcome
    goes o = in_directory_file c o (λ d. told c (tell d.entries))

    by_dir : (f : Hdr) → live c fid ≡ Some (told_file f) → (t : Bool) → f.dir ≡ t → (node : ℕ) (new : Option ℕ)
        → outcome c node x new ≡ cond t (told c (tell (told_file f).entries)) (told c (reply.Refused refusal.NotDir))
    unfolding goes
    by_dir f lives t d node new = same node new ∙ ap goes lives ∙ ap (λ t. cond t (told c (tell (told_file f).entries)) (told c (reply.Refused refusal.NotDir))) d

    directory_told : Obeys x g bs own c seen P (through_directory g fid PR (λ h bs. answers (tell (entries_seen bs)))) []
    unfolding goes
    directory_told = directory_obeys x g bs own c s seen (λ held. P) fid [] (λ h. h) (inl (λ h. h)) (λ other h. absurd h) PR (inl refl) (λ h bs. answers (tell (entries_seen bs)))
        (λ none held. tells_so (reply.Refused refusal.NoSuchFile) (λ node new. same node new ∙ ap goes none))
        (λ f lives d. tells_so (reply.Refused refusal.NotDir) (by_dir f lives false d))
        (λ f is. tells_so (tell (entries_seen (listed_blocks bs g fid))) (λ node new. by_dir f is.live true is.dir node new ∙ ap (λ es. told c (tell es)) is.entries))

  -- STAT
  module _ (same : (node : ℕ) (new : Option ℕ) → outcome c node x new ≡ stat_of c (live c fid)) where
    stat_behind : IsFileNumber g fid.num → (o : Option Hdr) → live_in fid.seq hb ≡ o → Obeys x g bs own c seen P (facts_or_none o) ((S fid.num, PR) ∷ [])
    stat_behind is None e = tells_so (reply.Refused refusal.NoSuchFile) (λ node new. same node new ∙ ap (stat_of c) (live_is g bs own c s fid is ∙ ap (option_map told_file) e))
    stat_behind is (Some f) e =
        let reads : head_told hb ≡ Ok (head.Used f) = live_reads fid.seq (head_told hb) f e in
        let blocks = blocks_whole g bs own c s fid.num f is reads in
        tells_so (facts_of f) (λ node new. same node new ∙ ap (stat_of c) (live_is g bs own c s fid is ∙ ap (option_map told_file) e)
        ∙ ap (λ n. told c (reply.Facts f.dir (record { 0 = f.owner }) n f.mark f.end f.byte)) blocks)

    stat_told : Obeys x g bs own c seen P (through_header g fid PR (λ b. facts_or_none (live_in fid.seq b))) []
    stat_told = header_obeys x g bs own c s seen (λ held. P) fid [] (λ h. h) (inl (λ h. h)) (λ other h. absurd h) PR (inl refl) (λ b. facts_or_none (live_in fid.seq b))
        (λ out. tells_so (reply.Refused refusal.NoSuchFile) (λ node new. same node new ∙ ap (stat_of c) (not_live g bs own c s fid out)))
        (λ is. stat_behind is (live_in fid.seq hb) refl)

obeys : (x : Cmd) → IsLook x → (g : Geometry) (channel : Option Chan) (seen : Seen) (bs : List Block) (own : Owners) (c : Cat) → Spells g bs own c → Obeys x g bs own c seen (IsAnswer x channel c) (events_of g channel x) []
unfolding events_of lookup_events list_events stat_events outcome lookup_outcome list_outcome stat_outcome
obeys (cmd.Lookup reg dir name ver) look g channel seen bs own c s =
    directory_told (cmd.Lookup reg dir name ver) channel g seen bs own c s dir (λ es. found (entry_of (versions name es) ver)) (λ node new. refl)
obeys (cmd.List dir) look g channel seen bs own c s = directory_told (cmd.List dir) channel g seen bs own c s dir (λ es. reply.Listed es) (λ node new. refl)
obeys (cmd.Stat file) look g channel seen bs own c s = stat_told (cmd.Stat file) channel g seen bs own c s file (λ node new. refl)
obeys other look g channel seen bs own c s = absurd look

-- ---- they are brief

facts_brief : (bs : List Block) (space : Space) (o : Option Hdr) → BriefBy bs space 120 (facts_or_none o) 18 69
facts_brief bs space None = omega arith
facts_brief bs space (Some h) = omega arith

brief : (x : Cmd) → IsLook x → Briefs x
unfolding events_of lookup_events list_events stat_events
brief (cmd.Lookup reg dir name ver) look node seen bs own c on =
    directory_brief bs (space_of seen) 120 seen.geometry own c on.spelt dir PR 19 70 (omega arith) _ (omega arith) (λ blocks few. omega arith)
brief (cmd.List dir) look node seen bs own c on =
    directory_brief bs (space_of seen) 120 seen.geometry own c on.spelt dir PR 19 70 (omega arith) _ (omega arith) (λ blocks few. omega arith)
brief (cmd.Stat file) look node seen bs own c on =
    header_brief bs (space_of seen) 120 seen.geometry own c on.spelt file PR 19 70 (omega arith) _ (omega arith) (λ is. facts_brief bs (space_of seen) _)
brief other look node seen bs own c on = absurd look

pub look_lawful : (x : Cmd) → IsLook x → Lawful x
look_lawful x look = only_looks_lawful x (record { searches = searches x look; plain = plain x look; obeys = obeys x look; brief = brief x look })
