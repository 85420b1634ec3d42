-- The law of OPEN.
use Rattle.std.proofs.Common.{◌≡◌, ◌∙◌, inl, inr, ℕ, zero, suc, Bool, true, false, cond, List, [], ◌∷◌, Option, Some, None, slice_get, refl, sym, ap, arith}
use Rattle.std.specs.Prelude.{◌==◌, ◌&&◌, ◌||◌, not, nat_le, is_some, option_map, slice_set, if◌then◌else◌}
use Rattle.std.specs.List.{list_any}
use Rattle.std.proofs.lemmas.Bool.{and_parts}
use Rattle.base_words.specs.Fields.{Block}
use Rattle.fx_header.specs.declared.slot.Hdr.{Hdr}
use Rattle.lock_db.specs.declared.name.LockName.{LockName}
use Rattle.lock_db.specs.declared.name.LockName.TheVariants.{S}
use Rattle.plain_cat.specs.declared.ids.Fid.{Fid}
use Rattle.plain_cat.specs.declared.mode.Mode.{Mode}
use Rattle.plain_cat.specs.declared.mode.Mode.TheVariants.{PW}
use Rattle.plain_cat.specs.declared.command.Cmd.{Cmd}
use Rattle.plain_cat.specs.declared.command.Cmd.TheVariants as cmd
use Rattle.plain_cat.specs.declared.reply.Reply.{Reply}
use Rattle.plain_cat.specs.declared.reply.Reply.TheVariants as reply
use Rattle.plain_cat.specs.declared.reply.Refusal.{Refusal}
use Rattle.plain_cat.specs.declared.reply.Refusal.TheVariants as refusal
use Rattle.plain_cat.specs.declared.cat.Cat.{Cat}
use Rattle.plain_cat.specs.declared.cat.File.{File}
use Rattle.plain_cat.specs.declared.cat.Open.{Open}
use Rattle.plain_rules.specs.declared.outcome.Outcome.{Outcome}
use Rattle.plain_rules.specs.Lookups.{live, place, joined, channel_at}
use Rattle.plain_rules.specs.Changes.{with_channel}
use Rattle.plain_rules.specs.Answers.{told, refused, unless, first_refusal, is_kept, conflicts, open_of, open_outcome, outcome}
use Rattle.plain_rules.proofs.LawSteps.{pick_exists}
use Rattle.vol_spell.specs.Owners.{Owners, Things, Outs}
use Rattle.vol_parts.specs.declared.geometry.Geometry.{Geometry}
use Rattle.vol_spell.specs.Reading.{IsFileNumber, header_place}
use Rattle.vol_spell.specs.Spelling.{Spells}
use Rattle.vol_under.proofs.Steps.{stands_first}
use Rattle.op_law.specs.declared.need.Need.{Need}
use Rattle.op_law.specs.declared.need.Need.TheVariants as need
use Rattle.op_law.specs.declared.need.Plan.{Plan}
use Rattle.op_law.specs.declared.seen.Seen.{Seen}
use Rattle.op_law.specs.declared.seen.Chan.{Chan}
use Rattle.op_law.specs.Events.{Events, Take, Look, Make, Space, space_of, HasNoSpace, SearchesOnce, following}
use Rattle.op_law.specs.Knows.{has_channel, is_open_as, is_granted, is_new_number, wanted, is_short, usages_fit, opens_hold, knows}
use Rattle.plain_rules.specs.Opens.{others_open}
use Rattle.op_law.specs.Needs.{events_of}
use Rattle.op_law.specs.Rows.{refused as refused_need, refuses, is_number, live_in, through_header}
use Rattle.op_law.specs.Refusing.{seen_file, if_file, unless_refused}
use Rattle.op_law.specs.Writing.{asking_plan}
use Rattle.op_law.specs.Channels.{first_ask, open_in, open_on, open_events}
use Rattle.op_law.specs.Fits.{things, IsSeenOn}
use Rattle.op_law.specs.Laws.{Lawful}
use Rattle.op_law.proofs.Telling.{live_is, not_live}
use Rattle.op_law.proofs.Walking.{ObeysBy}
use Rattle.op_law.proofs.Brief.{BriefBy, Briefs}
use Rattle.op_law.proofs.Counting.{unless_brief, live_brief}
use Rattle.op_law.proofs.Through.{header_so, file_header, file_told, header_obeys}
use Rattle.op_law.proofs.Ends.{EndsBy, nothing_given}
use Rattle.op_law.proofs.Doing.{AreDone}
use Rattle.op_law.proofs.Asking.{EveryEnd, IsShapedBy, IsDoneBy, asks_lawful}
use Rattle.op_access.specs.Kinds.{IsOpen}
use Rattle.op_law.proofs.Opens.{none_is}

-- ---- what holds of its events where it holds of each refusal, and of the plan that asks

module _ (g : Geometry) (channel : Option Chan) (chan : ℕ) (file : Fid) (mode : Mode) where
  -- the plan that asks
  abbrev asks : Events
  asks = Make (asking_plan [] (first_ask file.num chan mode) reply.Opened)

  -- behind the header
  abbrev behind : Block → Option Hdr → Events
  behind b o = if_file (refuses refusal.NoSuchFile) (open_in chan mode) (option_map (seen_file g file.num b) o)

  pub behind_so : (Q : Events → Type 0) → ((r : Refusal) → Q (refuses r)) → Q asks → (b : Block) (o : Option Hdr) → Q (behind b o)
  behind_so Q refused asked b None = refused refusal.NoSuchFile
  behind_so Q refused asked b (Some h) = by_kept (is_kept file.num (seen_file g file.num b h).file) where
    by_kept : (t : Bool) → Q (unless_refused (first_refusal ((t, refusal.NoPriv) ∷ [])) asks)
    by_kept true = refused refusal.NoPriv
    by_kept false = asked

once : (g : Geometry) (channel : Option Chan) (chan : ℕ) (file : Fid) (mode : Mode) → SearchesOnce (open_on g channel chan file mode)
once g (Some p) chan file mode = tt
once g None chan file mode = header_so SearchesOnce (λ n m next h. h) (λ n l next h. h) g file PW _ tt (λ b. behind_so g None chan file mode SearchesOnce (λ r. tt) tt b (live_in file.seq b))

searches : (x : Cmd) → IsOpen x → (g : Geometry) (channel : Option Chan) → SearchesOnce (events_of g channel x)
unfolding events_of open_events
searches (cmd.OpenFile chan file mode) is g channel = once g channel chan file mode
searches other is g channel = absurd is

-- ---- its plans

module _ (chan : ℕ) (file : Fid) (mode : Mode) where
  abbrev shape : List (LockName × Mode) → Plan → Type 0
  shape held p = IsShapedBy (cmd.OpenFile chan file mode) held p p.ask

  shaped_on : (g : Geometry) (channel : Option Chan) → EveryEnd shape (open_on g channel chan file mode) []
  shaped_on g (Some p) = (refl, refl)
  shaped_on g None = by_number (is_number g file) where
    asked : EveryEnd shape (asks g None chan file mode) ((S file.num, PW) ∷ [])
    asked = record { may = refl; by = refl; held = inl refl; within = omega arith; refused = tt }

    by_number : (t : Bool) → EveryEnd shape (cond t (Take (S file.num) PW (Look (S file.num) (header_place g file.num) (λ b. behind g None chan file mode b (live_in file.seq b)))) (refuses refusal.NoSuchFile)) []
    by_number true = λ b. behind_so g None chan file mode (λ es. EveryEnd shape es ((S file.num, PW) ∷ [])) (λ r. (refl, refl)) asked b (live_in file.seq b)
    by_number false = (refl, refl)

  ends_on : (g : Geometry) (channel : Option Chan) (space : Space) → EndsBy (things space.clusters space.number) (HasNoSpace space) (open_on g channel chan file mode)
  ends_on g (Some p) space = λ none. nothing_given space none
  ends_on g None space = header_so (EndsBy (things space.clusters space.number) (HasNoSpace space)) (λ n m next h. h) (λ n l next h. h) g file PW _ (λ none. nothing_given space none)
      (λ b. behind_so g None chan file mode (EndsBy (things space.clusters space.number) (HasNoSpace space)) (λ r none. nothing_given space none)
      (λ none. (nothing_given space none, nothing_given space none)) b (live_in file.seq b))

  brief_on : (node : ℕ) (seen : Seen) (bs : List Block) (own : Owners) (c : Cat) → IsSeenOn node (cmd.OpenFile chan file mode) seen bs own c → (channel : Option Chan)
      → BriefBy bs (space_of seen) 120 (open_on seen.geometry channel chan file mode) 19 70
  brief_on node seen bs own c on (Some p) = omega arith
  brief_on node seen bs own c on None = live_brief bs (space_of seen) 120 seen.geometry own c on.spelt file PW 19 70 (omega arith) (open_in chan mode) (omega arith)
      (λ h is lives. unless_brief bs (space_of seen) 120 (first_refusal ((is_kept file.num (seen_file seen.geometry file.num (file_header bs seen.geometry file) h).file, refusal.NoPriv) ∷ []))
      (asks seen.geometry None chan file mode) 18 69 (λ may. omega arith))

-- ---- its answer

none_changes : (p : Option Open → Bool) (xs : List (Option Open)) (k : ℕ) → p None ≡ false → joined (slice_get xs k) ≡ None → list_any p (slice_set xs k None) ≡ list_any p xs
none_changes p [] k never e = refl
none_changes p (x ∷ xs) zero never e = ap (λ (y : Option Open). p y || list_any p xs) (sym e)
none_changes p (x ∷ xs) (suc k) never e = ap (λ t. p x || t) (none_changes p xs k never e)

-- where the channel has nothing open, what the others have open is all
others_all : (c : Cat) (node chan file : ℕ) (mode : Mode) → channel_at c node chan ≡ None → list_any (conflicts file mode) (others_open c node chan) ≡ list_any (conflicts file mode) c.opens
others_all c node chan file mode free = by_zero (chan == 0) where
  by_zero : (t : Bool) → list_any (conflicts file mode) (if t then c.opens else slice_set c.opens (place node chan) None) ≡ list_any (conflicts file mode) c.opens
  by_zero true = refl
  by_zero false = none_changes (conflicts file mode) c.opens (place node chan) refl free

module _ (node : ℕ) (seen : Seen) (bs : List Block) (own : Owners) (c : Cat) (stock : Things) (s : Spells seen.geometry bs own c) (outs : Outs node own (things seen.clusters seen.number) stock)
    (chan : ℕ) (file : Fid) (mode : Mode) where
  abbrev x : Cmd
  x = cmd.OpenFile chan file mode

  abbrev g : Geometry
  g = seen.geometry

  abbrev hb : Block
  hb = file_header bs g file

  abbrev P : List (LockName × Mode) → Plan → Type 0
  P held p = IsDoneBy x node seen bs own c stock held p p.ask

  -- no write, and an answer
  answered_so : (r : Reply) (opens : List (Option Open)) → open_outcome c node chan file mode ≡ record { reply = r; after = record c { opens = opens } } → (held : List (LockName × Mode))
      → AreDone x node seen bs own c stock held [] r
  unfolding outcome
  answered_so r opens e held = let p = pick_exists c in record { named = λ w t. absurd t; dirs = λ w t. absurd t; slots = λ w t. absurd t; kept_out = λ w t. absurd t; steps = (c, stands_first c node (Some x), s, outs, opens, (p.0, p.1, e)) }

  refused_so : (r : Refusal) → open_outcome c node chan file mode ≡ refused c r → (held : List (LockName × Mode)) → AreDone x node seen bs own c stock held [] (reply.Refused r)
  refused_so r e held = answered_so (reply.Refused r) c.opens e held

  -- the channel has something open
  busy : (p : Chan) → has_channel c node (Some chan) (Some p) ≡ true → open_outcome c node chan file mode ≡ refused c refusal.ChanBusy
  unfolding open_outcome
  busy p has = by_open (channel_at c node chan) has where
    by_open : (o : Option Open) → is_open_as c node chan p o ≡ true → (if is_some o then refused c refusal.ChanBusy else open_of c node chan file.num (live c file) mode) ≡ refused c refusal.ChanBusy
    by_open None e = absurd (let f : false ≡ true = e in cc)
    by_open (Some o) e = refl

  -- or nothing
  module _ (free : channel_at c node chan ≡ None) where
    of_file : (o : Option File) → live c file ≡ o → open_outcome c node chan file mode ≡ open_of c node chan file.num o mode
    unfolding open_outcome
    of_file o e = ap (λ y. if is_some y then refused c refusal.ChanBusy else open_of c node chan file.num (live c file) mode) free ∙ ap (λ f. open_of c node chan file.num f mode) e

    module _ (h : Hdr) (lives : live c file ≡ Some (file_told bs g file h)) where
      abbrev f : File
      f = file_told bs g file h

      abbrev opened : Outcome
      opened = told (with_channel c node chan (Some (record { file = file.num; mode = mode }))) reply.Opened

      abbrev by_tests : Bool → Bool → Outcome
      by_tests k t = unless c (first_refusal ((k, refusal.NoPriv) ∷ (t, refusal.AccConflict) ∷ [])) opened

      abbrev conflict : Bool
      conflict = list_any (conflicts file.num mode) c.opens

      tested : (k t : Bool) → is_kept file.num f ≡ k → conflict ≡ t → open_outcome c node chan file mode ≡ by_tests k t
      tested k t e d = of_file (Some f) lives ∙ ap (λ y. by_tests y conflict) e ∙ ap (by_tests k) d

      none_of : is_granted node (first_ask file.num chan mode) c ≡ true → conflict ≡ false
      none_of e = by_others (list_any (conflicts file.num mode) (others_open c node chan)) refl e where
        by_others : (t : Bool) → list_any (conflicts file.num mode) (others_open c node chan) ≡ t → not t ≡ true → conflict ≡ false
        by_others true k e = absurd (let y : false ≡ true = e in cc)
        by_others false k e = sym (others_all c node chan file.num mode free) ∙ k

      some_of : is_granted node (first_ask file.num chan mode) c ≡ false → conflict ≡ true
      some_of e = by_others (list_any (conflicts file.num mode) (others_open c node chan)) refl e where
        by_others : (t : Bool) → list_any (conflicts file.num mode) (others_open c node chan) ≡ t → not t ≡ false → conflict ≡ true
        by_others true k e = sym (others_all c node chan file.num mode free) ∙ k
        by_others false k e = absurd (let y : true ≡ false = e in cc)

      at_file : (held : List (LockName × Mode)) → ObeysBy x g bs own c seen P (behind g None chan file mode hb (Some h)) held
      at_file held = by_kept (is_kept file.num f) refl where
        by_kept : (t : Bool) → is_kept file.num f ≡ t → ObeysBy x g bs own c seen P (unless_refused (first_refusal ((t, refusal.NoPriv) ∷ [])) (asks g None chan file mode)) held
        by_kept true e = refused_so refusal.NoPriv (tested true conflict e refl) held
        by_kept false e = record {
          granted = λ may. answered_so reply.Opened _ (tested false false e (none_of may)) held;
          refused = λ conflicts. refused_so refusal.AccConflict (tested false true e (some_of conflicts)) held;
        }

    at_header : IsFileNumber g file.num → (o : Option Hdr) → live_in file.seq hb ≡ o → ObeysBy x g bs own c seen P (behind g None chan file mode hb o) ((S file.num, PW) ∷ [])
    at_header is None e = refused_so refusal.NoSuchFile (of_file None (live_is g bs own c s file is ∙ ap (option_map (file_told bs g file)) e)) ((S file.num, PW) ∷ [])
    at_header is (Some h) e = at_file h (live_is g bs own c s file is ∙ ap (option_map (file_told bs g file)) e) ((S file.num, PW) ∷ [])

  obeys_on : (channel : Option Chan) → has_channel c node (Some chan) channel ≡ true → ObeysBy x g bs own c seen P (open_on g channel chan file mode) []
  obeys_on (Some p) has = refused_so refusal.ChanBusy (busy p has) []
  obeys_on None has =
      let free : channel_at c node chan ≡ None = none_is (channel_at c node chan) has in
      header_obeys x g bs own c s seen P file [] (λ t. t) (inl (λ t. t)) (λ other t. absurd t) PW (inr (inl refl)) _
      (λ out. refused_so refusal.NoSuchFile (of_file free None (not_live g bs own c s file out)) [])
      (λ is. at_header free is (live_in file.seq hb) refl)

-- ---- the law

shaped : (x : Cmd) → IsOpen x → (g : Geometry) (channel : Option Chan) → EveryEnd (λ held p. IsShapedBy x held p p.ask) (events_of g channel x) []
unfolding events_of open_events
shaped (cmd.OpenFile chan file mode) is g channel = shaped_on chan file mode g channel
shaped other is g channel = absurd is

ends : (x : Cmd) → IsOpen x → (g : Geometry) (channel : Option Chan) (space : Space) → EndsBy (things space.clusters space.number) (HasNoSpace space) (events_of g channel x)
unfolding events_of open_events
ends (cmd.OpenFile chan file mode) is g channel space = ends_on chan file mode g channel space
ends other is g channel space = absurd is

obeys : (x : Cmd) → IsOpen x → (node : ℕ) (seen : Seen) (bs : List Block) (own : Owners) (c : Cat) (stock : Things) → Spells seen.geometry bs own c → Outs node own (things seen.clusters seen.number) stock
    → knows node x seen c ≡ true → ObeysBy x seen.geometry bs own c seen (λ held p. IsDoneBy x node seen bs own c stock held p p.ask) (events_of seen.geometry seen.channel x) []
unfolding events_of open_events
obeys (cmd.OpenFile chan file mode) is node seen bs own c stock s outs known =
    let x = cmd.OpenFile chan file mode in
    obeys_on node seen bs own c stock s outs chan file mode seen.channel
    (and_parts (has_channel c node (Some chan) seen.channel) (is_new_number seen.number && (is_short c (wanted seen x) seen.short && (usages_fit c x && opens_hold c x))) known).0
obeys other is node seen bs own c stock s outs known = absurd is

brief : (x : Cmd) → IsOpen x → Briefs x
unfolding events_of open_events
brief (cmd.OpenFile chan file mode) is node seen bs own c on = brief_on chan file mode node seen bs own c on seen.channel
brief other is node seen bs own c on = absurd is

pub open_lawful : (x : Cmd) → IsOpen x → Lawful x
open_lawful x is = asks_lawful x (record {
  searches = searches x is;
  shaped = shaped x is;
  ends = ends x is;
  obeys = λ node seen bs own c stock s outs known has. obeys x is node seen bs own c stock s outs known;
  brief = brief x is;
})

-- ---- the next need

-- what comes behind the header
abbrev pub header_events : Geometry → ℕ → Fid → Mode → Block → Events
header_events g chan file mode b = behind g None chan file mode b (live_in file.seq b)

pub shows_next : (g : Geometry) (chan : ℕ) (file : Fid) (mode : Mode) (locks ls : List (LockName × Mode)) (seen bs : List (ℕ × Block)) (space : Space) (n : Need) → ls ≡ locks → bs ≡ seen
    → following (through_header g file PW (header_events g chan file mode)) ls bs space ≡ n → n ≡ following (open_events g None chan file mode) locks seen space
unfolding open_events
shows_next g chan file mode locks ls seen bs space n e f next =
    sym (ap (λ l. following (through_header g file PW (header_events g chan file mode)) l seen space) (sym e)
    ∙ ap (λ b. following (through_header g file PW (header_events g chan file mode)) ls b space) (sym f) ∙ next)

module _ (g : Geometry) (chan : ℕ) (file : Fid) (mode : Mode) (b : Block) (locks : List (LockName × Mode)) (seen : List (ℕ × Block)) (space : Space) where
  abbrev by_header : Option Hdr → Need
  by_header o = following (behind g None chan file mode b o) locks seen space

  pub none_next : None ≡ live_in file.seq b → following (header_events g chan file mode b) locks seen space ≡ refused_need refusal.NoSuchFile
  none_next e = ap by_header (sym e)

  pub file_next : (h : Hdr) → Some h ≡ live_in file.seq b → following (header_events g chan file mode b) locks seen space
      ≡ (if nat_le file.num 11 || h.dir then refused_need refusal.NoPriv else need.Ready (asking_plan [] (first_ask file.num chan mode) reply.Opened))
  file_next h e = ap by_header (sym e) ∙ by_kept (nat_le file.num 11 || h.dir) where
    by_kept : (t : Bool) → following (unless_refused (first_refusal ((t, refusal.NoPriv) ∷ [])) (asks g None chan file mode)) locks seen space
        ≡ (if t then refused_need refusal.NoPriv else need.Ready (asking_plan [] (first_ask file.num chan mode) reply.Opened))
    by_kept true = refl
    by_kept false = refl
