-- What a CLOSE has seen fits a volume: the headers of its file; and what comes next behind them.
use Rattle.std.proofs.Common.{◌≡◌, ◌<◌, ◌/◌, ◌∙◌, Bool, true, false, cond, List, [], ◌∷◌, Option, Some, None, ℕ, length, refl, sym, ap, subst, arith}
use Rattle.std.specs.Prelude.{◌==◌, option_map}
use Rattle.std.proofs.lemmas.Bool.Decides.{nat_tests}
use Rattle.base_words.specs.Fields.{Block}
use Rattle.base_words.specs.Lists.{StandsIn}
use Rattle.fx_header.specs.declared.slot.Hdr.{Hdr}
use Rattle.lock_db.specs.declared.name.LockName.{LockName}
use Rattle.lock_db.specs.declared.name.LockName.TheVariants.{S}
use Rattle.plain_cat.specs.declared.mode.Mode.{Mode}
use Rattle.plain_cat.specs.declared.mode.Mode.TheVariants.{NL, CR, CW, PR, PW, EX}
use Rattle.plain_cat.specs.declared.command.Cmd.TheVariants as cmd
use Rattle.plain_cat.specs.declared.reply.Reply.TheVariants as reply
use Rattle.plain_cat.specs.declared.reply.Refusal.TheVariants as refusal
use Rattle.plain_cat.specs.declared.cat.Cat.{Cat}
use Rattle.plain_rules.specs.Lookups.{extra}
use Rattle.vol_parts.specs.declared.geometry.Geometry.{Geometry}
use Rattle.vol_spell.specs.Owners.{Owners}
use Rattle.vol_spell.specs.Reading.{IsFileNumber, header_place, header_block, fields_told}
use Rattle.vol_spell.specs.Spelling.{Spells}
use Rattle.op_law.specs.declared.need.Need.{Need}
use Rattle.op_law.specs.declared.need.Plan.{Plan}
use Rattle.op_law.specs.declared.need.PlanWrite.{PlanWrite}
use Rattle.op_law.specs.declared.seen.Chan.{Chan}
use Rattle.op_law.specs.declared.seen.Seen.{Seen}
use Rattle.op_law.specs.Channels.{close_plan, close_in, close_on, close_events}
use Rattle.op_law.specs.declared.seeing.Rest.{Rest}
use Rattle.op_law.specs.Behind.{goes_on_by}
use Rattle.op_law.specs.Events.{Events, Take, Look, Space, space_of, HasNoSpace, following, next_of, Follows}
use Rattle.op_law.specs.Fits.{FitsSeen}
use Rattle.op_law.specs.Headers.{through_chain}
use Rattle.op_law.specs.Needs.{events_of}
use Rattle.op_law.specs.Readable.{HeadIsInside}
use Rattle.op_law.specs.Refusing.{header_of_seq, seen_file, used_in, if_file}
use Rattle.op_law.specs.Rows.{is_number, answers, refuses}
use Rattle.op_law.proofs.Chains.{others_count}
use Rattle.op_law.proofs.Heads.{header_is, through_inside}
use Rattle.op_law.proofs.Telling.{number_is}
use Rattle.op_steps.specs.Chains.{AreHeaders}
use Rattle.op_steps.specs.Seeing.{file_seen}
use Rattle.op_steps.specs.declared.seeing.FileSeen.{FileSeen}
use Rattle.op_steps.proofs.SeenHeaders.{seen_headers}
use Rattle.op_access.specs.Asks.{ask_by}
use Rattle.op_access.specs.Seeing.{IsFollowed, HeadIsFollowed, file_goes}
use Rattle.op_access.proofs.Opens.{known_open}

-- the first header that it has seen is one whose runs are inside
pub close_inside : (chan : ℕ) (p : Chan) (seen : Seen) → seen.channel ≡ Some p → FitsSeen (cmd.CloseFile chan) seen → HeadIsInside seen.blocks
unfolding events_of close_events
close_inside chan p seen has f =
    through_inside seen.geometry f.blocks f.own f.cat f.on.spelt p.file PW _ seen.locks seen.blocks (space_of seen) (HasNoSpace (space_of seen)) f.on.stands
    (subst (λ (o : Option Chan). Follows (close_on seen.geometry o chan) seen.locks seen.blocks (space_of seen) (HasNoSpace (space_of seen))) has f.order)

-- ---- the other headers of a marked file

-- a file that is in use is so under its own sequence
pub used_seq : (g : Geometry) (n seq : ℕ) (b : Block) (f : FileSeen) → fields_told b ≡ Some f.fields → option_map (file_seen g) (Some f) ≡ option_map (seen_file g n b) (used_in seq b) → f.fields.seq ≡ seq
used_seq g n seq b f told e = by_seq (f.fields.seq == seq) refl (e ∙ ap (λ o. option_map (seen_file g n b) (header_of_seq seq o)) told) where
  by_seq : (t : Bool) → (f.fields.seq == seq) ≡ t → Some (file_seen g f) ≡ option_map (seen_file g n b) (cond t (Some f.fields) None) → f.fields.seq ≡ seq
  by_seq true same k = grind (arith, nat_tests)
  by_seq false same k = absurd (cc)

module _ (g : Geometry) (bs : List Block) (own : Owners) (c : Cat) (s : Spells g bs own c) (space : Space) (given : Type 0) (chan : ℕ) (p : Chan) (above : 11 < p.file.num) where
  -- behind its header
  header_followed : (b : Block) (locks : List (LockName × Mode)) (blocks : List (ℕ × Block)) → IsFileNumber g p.file.num → header_block g bs p.file.num ≡ b → StandsIn bs blocks
      → Follows (if_file (answers (reply.Closed false)) (close_in g chan p.mode) (option_map (seen_file g p.file.num b) (used_in p.file.seq b))) locks blocks space given → IsFollowed g p.file.seq b blocks
  header_followed b locks blocks number here stands follows h told seq marked =
      let is : (h.seq == p.file.seq) ≡ true = grind (arith, nat_tests) in
      let used : used_in p.file.seq b ≡ Some h = ap (header_of_seq p.file.seq) told ∙ ap (λ t. cond t (Some h) None) is in
      let used_there : fields_told (header_block g bs p.file.num) ≡ Some h = ap fields_told here ∙ told in
      let behind : Follows (close_in g chan p.mode (seen_file g p.file.num b h)) locks blocks space given =
      subst (λ o. Follows (if_file (answers (reply.Closed false)) (close_in g chan p.mode) (option_map (seen_file g p.file.num b) o)) locks blocks space given) used follows in
      let chain : Follows (through_chain g PW (seen_file g p.file.num b h) (file_goes g chan p.mode)) locks blocks space given =
      subst (λ t. Follows (cond t (through_chain g PW (seen_file g p.file.num b h) (file_goes g chan p.mode)) (answers (reply.Closed false))) locks blocks space given) marked behind in
      let count = others_count g bs own c s p.file.num h number used_there above in
      subst (λ (y : Block). AreHeaders g (extra (h.blocks / g.cluster)) h y blocks) here
      (seen_headers g bs own c s p.file.num h number used_there PW (extra (h.blocks / g.cluster)) (file_goes g chan p.mode) locks blocks space given (omega arith) stands
      (subst (λ (y : Block). Follows (through_chain g PW (seen_file g p.file.num y h) (file_goes g chan p.mode)) locks blocks space given) (sym here) chain))

  on_followed : (locks : List (LockName × Mode)) (blocks : List (ℕ × Block)) → StandsIn bs blocks → Follows (close_on g (Some p) chan) locks blocks space given → HeadIsFollowed g p.file.seq blocks
  on_followed locks [] stands follows = tt
  on_followed locks (x ∷ blocks) stands follows = by_number (is_number g p.file) refl follows where
    looking : Block → Events
    looking b = if_file (answers (reply.Closed false)) (close_in g chan p.mode) (option_map (seen_file g p.file.num b) (used_in p.file.seq b))

    by_lock : (ls : List (LockName × Mode)) → IsFileNumber g p.file.num → Follows (Take (S p.file.num) PW (Look (S p.file.num) (header_place g p.file.num) looking)) ls (x ∷ blocks) space given → IsFollowed g p.file.seq x.1 blocks
    by_lock [] number f = absurd (let none : length (x ∷ blocks) ≡ 0 = ap length f.0 in omega arith)
    by_lock (l ∷ ls) number f = header_followed x.1 ls blocks number (header_is g bs p.file.num x.0 x.1 f.1.0 stands.0) stands.1 f.1.1

    by_number : (t : Bool) → is_number g p.file ≡ t → Follows (cond t (Take (S p.file.num) PW (Look (S p.file.num) (header_place g p.file.num) looking)) (refuses refusal.NoSuchFile)) locks (x ∷ blocks) space given
        → IsFollowed g p.file.seq x.1 blocks
    by_number true number f = by_lock locks (number_is g p.file number) f
    by_number false number f = absurd (let none : length (x ∷ blocks) ≡ 0 = ap length f.1 in omega arith)

-- so it is with what a CLOSE has seen
pub close_followed : (chan : ℕ) (p : Chan) (seen : Seen) → seen.channel ≡ Some p → FitsSeen (cmd.CloseFile chan) seen → HeadIsFollowed seen.geometry p.file.seq seen.blocks
unfolding events_of close_events
close_followed chan p seen has f =
    on_followed seen.geometry f.blocks f.own f.cat f.on.spelt (space_of seen) (HasNoSpace (space_of seen)) chan p (known_open chan f.node seen f.cat f.on.known p has).above seen.locks seen.blocks f.on.stands
    (subst (λ (o : Option Chan). Follows (close_on seen.geometry o chan) seen.locks seen.blocks (space_of seen) (HasNoSpace (space_of seen))) has f.order)

-- the plan by its ask
pub plan_is : (n chan : ℕ) (m : Mode) (ws : List PlanWrite) → ◌≡◌ {A = Plan} (record { writes = ws; ask = ask_by n chan m; reply = reply.Closed true }) (close_plan n chan m ws)
plan_is n chan NL ws = refl
plan_is n chan CR ws = refl
plan_is n chan CW ws = refl
plan_is n chan PR ws = refl
plan_is n chan PW ws = refl
plan_is n chan EX ws = refl

-- what comes next on a channel that has this open, by all that was seen
pub shows_next : (seen : Seen) (chan : ℕ) (p : Chan) (rest : Rest) (n : Need) → seen.channel ≡ Some p → rest.locks.now ≡ seen.locks → rest.blocks.now ≡ seen.blocks
    → ((space : Space) → goes_on_by (close_on seen.geometry (Some p) chan) rest space ≡ n) → n ≡ next_of (close_events seen.geometry seen.channel chan) seen
unfolding close_events
shows_next seen chan p rest n has locks blocks next =
    let es : Events = close_on seen.geometry (Some p) chan in
    sym (next (space_of seen))
    ∙ ap (λ ls. following es ls rest.blocks.now (space_of seen)) locks
    ∙ ap (λ bs. following es seen.locks bs (space_of seen)) blocks
    ∙ ap (λ o. following (close_on seen.geometry o chan) seen.locks seen.blocks (space_of seen)) (sym has)
