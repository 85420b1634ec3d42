-- How a command on a channel ends: with which ask and with which reply.
use Rattle.std.proofs.Common.{◌≡◌, ◌⊎◌, ℕ, zero, suc, Bool, true, false, cond, List, [], ◌∷◌, Option, Some, None, refl, sym, ap, subst, ◌∙◌, inl, inr}
use Rattle.std.specs.Prelude.{option_map, map}
use Rattle.base_words.specs.Fields.{Block}
use Rattle.fx_header.specs.declared.slot.Hdr.{Hdr}
use Rattle.lock_db.specs.declared.name.LockName.{LockName}
use Rattle.lock_db.specs.declared.name.LockName.TheVariants.{S, Q, V}
use Rattle.lock_db.specs.Queues.{is_upward}
use Rattle.plain_cat.specs.declared.ids.Fid.{Fid}
use Rattle.plain_cat.specs.declared.mode.Mode.{Mode}
use Rattle.plain_cat.specs.declared.mode.Mode.TheVariants.{NL, CR, CW, PR, PW, EX}
use Rattle.plain_cat.specs.declared.command.Cmd.{Cmd}
use Rattle.plain_cat.specs.declared.command.Cmd.TheVariants as cmd
use Rattle.plain_cat.specs.declared.reply.Reply.{Reply}
use Rattle.plain_cat.specs.declared.reply.Reply.TheVariants as reply
use Rattle.plain_cat.specs.declared.reply.Refusal.{Refusal}
use Rattle.plain_cat.specs.declared.reply.Refusal.TheVariants as refusal
use Rattle.plain_rules.specs.Answers.{first_refusal, is_kept}
use Rattle.plain_rules.specs.Lookups.{extra}
use Rattle.plain_histories.specs.Moves.{switched_by}
use Rattle.vol_parts.specs.declared.geometry.Geometry.{Geometry}
use Rattle.vol_parts.specs.declared.geometry.Part.TheVariants.{Storage}
use Rattle.vol_spell.specs.Reading.{header_place, quota_places}
use Rattle.vol_spell.specs.Places.{place_of}
use Rattle.op_law.specs.declared.need.Need.TheVariants as need
use Rattle.op_law.specs.declared.need.Plan.{Plan}
use Rattle.op_law.specs.declared.need.PlanWrite.{PlanWrite}
use Rattle.op_law.specs.declared.need.Ask.{Ask}
use Rattle.op_law.specs.declared.seen.Seen.{Seen}
use Rattle.op_law.specs.declared.seen.Chan.{Chan}
use Rattle.op_law.specs.Events.{Events, Take, Look, Fetch, Find, Make, Space, space_of, has_space, following}
use Rattle.op_law.specs.Needs.{events_of, IsNext}
use Rattle.op_law.specs.Rows.{is_number, live_in, look_all, answers, refuses}
use Rattle.op_law.specs.Refusing.{SeenFile, seen_file, used_in, if_file, unless_refused}
use Rattle.op_law.specs.Writing.{asking_plan}
use Rattle.op_law.specs.Freeing.{blocks_for, all_clusters, through_space, freeing_writes}
use Rattle.op_law.specs.Headers.{next_number, with_header, through_links, through_chain}
use Rattle.op_law.specs.Channels.{first_ask, open_in, open_events, close_ask, close_plan, close_in, close_on, close_events}
use Rattle.op_law.specs.Knows.{channel_of, asking_part, may_ask}

-- ---- a plan of a command whose channel has this open

-- OPEN asks for the lock of its file in its mode, where its channel has nothing open
pub record IsOpening (x : Cmd) (channel : Option Chan) (p : Plan) : Type 0 where
  pub chan : ℕ
  pub file : Fid
  pub mode : Mode
  pub is : x ≡ cmd.OpenFile chan file mode
  pub none : channel ≡ None
  pub ask : p.ask ≡ Some (first_ask file.num chan mode)
  pub reply : p.reply ≡ reply.Opened

-- CLOSE asks for the lock of the file that its channel has open, in EX, where it has it in a lower mode
pub record IsClosing (x : Cmd) (channel : Option Chan) (p : Plan) : Type 0 where
  pub chan : ℕ
  pub had : Chan
  pub is : x ≡ cmd.CloseFile chan
  pub has : channel ≡ Some had
  pub up : is_upward had.mode EX ≡ true
  pub ask : p.ask ≡ Some (close_ask had.file.num chan)
  pub reply : p.reply ≡ reply.Closed true

-- or it closes without an ask
pub record ClosesAtOnce (x : Cmd) (channel : Option Chan) (p : Plan) : Type 0 where
  pub chan : ℕ
  pub had : Chan
  pub gone : Bool
  pub is : x ≡ cmd.CloseFile chan
  pub has : channel ≡ Some had
  pub ask : p.ask ≡ None
  pub reply : p.reply ≡ reply.Closed gone

pub record IsRefusal (p : Plan) : Type 0 where
  pub why : Refusal
  pub ask : p.ask ≡ None
  pub reply : p.reply ≡ reply.Refused why

pub data HasShape (x : Cmd) (channel : Option Chan) (p : Plan) : Type 0 where
  Opening : IsOpening x channel p → HasShape x channel p
  Closing : IsClosing x channel p → HasShape x channel p
  AtOnce : ClosesAtOnce x channel p → HasShape x channel p
  Refuses : IsRefusal p → HasShape x channel p
  Other : switched_by x ≡ None → HasShape x channel p

-- ---- what holds of each plan at the end of a row of events

abbrev Ends : (Plan → Type 0) → Events → Type 0
Ends P (Take name mode next) = Ends P next
Ends P (Look name lbn next) = (b : Block) → Ends P (next b)
Ends P (Fetch lbn next) = (b : Block) → Ends P (next b)
Ends P (Find clusters number next) = (cs : List ℕ) (n : Option ℕ) (short : Option Refusal) → Ends P (next cs n short)
Ends P (Make p) = P p

ends : (P : Plan → Type 0) (es : Events) (locks : List (LockName × Mode)) (blocks : List (ℕ × Block)) (space : Space) (p : Plan) → Ends P es → following es locks blocks space ≡ need.Ready p → P p
ends P (Take name mode next) [] blocks space p all e = absurd (let f : need.Lock name mode ≡ need.Ready p = e in cc)
ends P (Take name mode next) (l ∷ locks) blocks space p all e = ends P next locks blocks space p all e
ends P (Look name lbn next) locks [] space p all e = absurd (let f : need.Block name lbn ≡ need.Ready p = e in cc)
ends P (Look name lbn next) locks (b ∷ blocks) space p all e = ends P (next b.1) locks blocks space p (all b.1) e
ends P (Fetch lbn next) locks [] space p all e = absurd (let f : need.Bare lbn ≡ need.Ready p = e in cc)
ends P (Fetch lbn next) locks (b ∷ blocks) space p all e = ends P (next b.1) locks blocks space p (all b.1) e
ends P (Find clusters number next) locks blocks space p all e = by_test (has_space clusters number space) e (ends P (next space.clusters space.number space.short) locks blocks space p (all space.clusters space.number space.short)) where
  by_test : (b : Bool) → cond b (following (next space.clusters space.number space.short) locks blocks space) (need.Space clusters number) ≡ need.Ready p
      → (following (next space.clusters space.number space.short) locks blocks space ≡ need.Ready p → P p) → P p
  by_test true f go = go f
  by_test false f go = absurd (let g : need.Space clusters number ≡ need.Ready p = f in cc)
ends P (Make q) locks blocks space p all e = let f : need.Ready q ≡ need.Ready p = e in let g : q ≡ p = cc in subst P g all

all_ends : (P : Plan → Type 0) (lock : LockName) (ls : List ℕ) (next : List Block → Events) → ((bs : List Block) → Ends P (next bs)) → Ends P (look_all lock ls next)
all_ends P lock [] next all = all []
all_ends P lock (l ∷ ls) next all = λ b. all_ends P lock ls (λ bs. next (b ∷ bs)) (λ bs. all (b ∷ bs))

refusing : (x : Cmd) (channel : Option Chan) (r : Refusal) → Ends (HasShape x channel) (refuses r)
refusing x channel r = Refuses (record { why = r; ask = refl; reply = refl })

-- ---- OPEN

open_ends : (g : Geometry) (channel : Option Chan) (chan : ℕ) (file : Fid) (mode : Mode) → Ends (HasShape (cmd.OpenFile chan file mode) channel) (open_events g channel chan file mode)
unfolding open_events
open_ends g (Some p) chan file mode = refusing (cmd.OpenFile chan file mode) (Some p) refusal.ChanBusy
open_ends g None chan file mode = by_number (is_number g file) where
  x : Cmd
  x = cmd.OpenFile chan file mode

  looking : Block → Events
  looking b = if_file (refuses refusal.NoSuchFile) (open_in chan mode) (option_map (seen_file g file.num b) (live_in file.seq b))

  by_kept : (r : Option Refusal) → Ends (HasShape x None) (unless_refused r (Make (asking_plan [] (first_ask file.num chan mode) reply.Opened)))
  by_kept None = Opening (record { chan = chan; file = file; mode = mode; is = refl; none = refl; ask = refl; reply = refl })
  by_kept (Some r) = refusing x None r

  by_header : (b : Block) (o : Option Hdr) → Ends (HasShape x None) (if_file (refuses refusal.NoSuchFile) (open_in chan mode) (option_map (seen_file g file.num b) o))
  by_header b None = refusing x None refusal.NoSuchFile
  by_header b (Some h) = by_kept (first_refusal ((is_kept file.num (seen_file g file.num b h).file, refusal.NoPriv) ∷ []))

  by_number : (t : Bool) → Ends (HasShape x None) (cond t (Take (S file.num) PW (Look (S file.num) (header_place g file.num) looking)) (refuses refusal.NoSuchFile))
  by_number true = λ b. by_header b (live_in file.seq b)
  by_number false = refusing x None refusal.NoSuchFile

-- ---- CLOSE

module _ (chan : ℕ) (had : Chan) where
  abbrev x : Cmd
  x = cmd.CloseFile chan

  stays : Ends (HasShape x (Some had)) (answers (reply.Closed false))
  stays = AtOnce (record { chan = chan; had = had; gone = false; is = refl; has = refl; ask = refl; reply = refl })

  by_mode : (n : ℕ) → n ≡ had.file.num → (m : Mode) → had.mode ≡ m → (ws : List PlanWrite) → HasShape x (Some had) (close_plan n chan m ws)
  by_mode n e EX same ws = AtOnce (record { chan = chan; had = had; gone = true; is = refl; has = refl; ask = refl; reply = refl })
  by_mode n e NL same ws = Closing (record { chan = chan; had = had; is = refl; has = refl; up = ap (λ m. is_upward m EX) same; ask = ap (λ k. Some (close_ask k chan)) e; reply = refl })
  by_mode n e CR same ws = Closing (record { chan = chan; had = had; is = refl; has = refl; up = ap (λ m. is_upward m EX) same; ask = ap (λ k. Some (close_ask k chan)) e; reply = refl })
  by_mode n e CW same ws = Closing (record { chan = chan; had = had; is = refl; has = refl; up = ap (λ m. is_upward m EX) same; ask = ap (λ k. Some (close_ask k chan)) e; reply = refl })
  by_mode n e PR same ws = Closing (record { chan = chan; had = had; is = refl; has = refl; up = ap (λ m. is_upward m EX) same; ask = ap (λ k. Some (close_ask k chan)) e; reply = refl })
  by_mode n e PW same ws = Closing (record { chan = chan; had = had; is = refl; has = refl; up = ap (λ m. is_upward m EX) same; ask = ap (λ k. Some (close_ask k chan)) e; reply = refl })

  space_ends : (g : Geometry) (f : SeenFile) → f.num ≡ had.file.num → Ends (HasShape x (Some had)) (through_space g f (λ s. Make (close_plan f.num chan had.mode (freeing_writes g f s))))
  space_ends g f e =
      let ks = blocks_for g (all_clusters g f) in
      all_ends (HasShape x (Some had)) Q (quota_places g) _ (λ quota index. all_ends (HasShape x (Some had)) V (map (λ k. place_of g (Storage k)) ks) _ (λ storage.
      by_mode f.num e had.mode refl (freeing_writes g f (record { quota = quota; index = index; storage = storage }))))

  -- the same behind some headers more
  links_end : (g : Geometry) (k : ℕ) (b : Block) (f : SeenFile) → f.num ≡ had.file.num
      → Ends (HasShape x (Some had)) (through_links g PW k b f (λ whole. through_space g whole (λ s. Make (close_plan whole.num chan had.mode (freeing_writes g whole s)))))
  links_end g zero b f e = space_ends g f e
  links_end g (suc k) b f e = λ y. links_end g k y (with_header g (next_number b) y f) e

  close_ends : (g : Geometry) → Ends (HasShape x (Some had)) (close_on g (Some had) chan)
  close_ends g = by_number (is_number g had.file) where
    looking : Block → Events
    looking b = if_file (answers (reply.Closed false)) (close_in g chan had.mode) (option_map (seen_file g had.file.num b) (used_in had.file.seq b))

    by_header : (b : Block) (o : Option Hdr) → Ends (HasShape x (Some had)) (if_file (answers (reply.Closed false)) (close_in g chan had.mode) (option_map (seen_file g had.file.num b) o))
    by_header b None = stays
    by_header b (Some h) = by_marked h.marked where
      f : SeenFile
      f = seen_file g had.file.num b h

      by_marked : (t : Bool) → Ends (HasShape x (Some had)) (cond t (through_chain g PW f (λ whole. through_space g whole (λ s. Make (close_plan whole.num chan had.mode (freeing_writes g whole s))))) (answers (reply.Closed false)))
      by_marked true = links_end g (extra f.file.clusters) f.head f refl
      by_marked false = stays

    by_number : (t : Bool) → Ends (HasShape x (Some had)) (cond t (Take (S had.file.num) PW (Look (S had.file.num) (header_place g had.file.num) looking)) (refuses refusal.NoSuchFile))
    by_number true = λ b. by_header b (used_in had.file.seq b)
    by_number false = refusing x (Some had) refusal.NoSuchFile

closed_ends : (g : Geometry) (channel : Option Chan) (chan : ℕ) → Ends (HasShape (cmd.CloseFile chan) channel) (close_events g channel chan)
unfolding close_events
closed_ends g None chan = refusing (cmd.CloseFile chan) None refusal.NotOpen
closed_ends g (Some had) chan = close_ends chan had g

-- ---- the plan of any command

pub shape : (x : Cmd) (seen : Seen) (p : Plan) → IsNext x seen (need.Ready p) → HasShape x seen.channel p
unfolding events_of
shape (cmd.Lookup reg dir name ver) seen p is = Other refl
shape (cmd.List dir) seen p is = Other refl
shape (cmd.Stat file) seen p is = Other refl
shape (cmd.Create reg dir name ver blocks owner) seen p is = Other refl
shape (cmd.MkDir reg dir name owner) seen p is = Other refl
shape (cmd.Extend file blocks) seen p is = Other refl
shape (cmd.Trunc file blocks) seen p is = Other refl
shape (cmd.Delete dir name ver) seen p is = Other refl
shape (cmd.Rename dir name ver to to_ver) seen p is = Other refl
shape (cmd.OpenFile chan file mode) seen p is = ends (HasShape (cmd.OpenFile chan file mode) seen.channel) (open_events seen.geometry seen.channel chan file mode) seen.locks seen.blocks (space_of seen) p (open_ends seen.geometry seen.channel chan file mode) is
shape (cmd.CloseFile chan) seen p is = ends (HasShape (cmd.CloseFile chan) seen.channel) (close_events seen.geometry seen.channel chan) seen.locks seen.blocks (space_of seen) p (closed_ends seen.geometry seen.channel chan) is
shape (cmd.ReadBlock chan vbn) seen p is = Other refl
shape (cmd.WriteBlock chan vbn text) seen p is = Other refl
shape (cmd.QuotaSet owner quota over) seen p is = Other refl
shape (cmd.QuotaShow owner) seen p is = Other refl

-- ---- how a command ends, where this ask of it was granted

pub record HasOpened (x : Cmd) (channel : Option Chan) (ask : Option Ask) (r : Reply) : Type 0 where
  pub chan : ℕ
  pub file : Fid
  pub mode : Mode
  pub is : x ≡ cmd.OpenFile chan file mode
  pub none : channel ≡ None
  pub ask_is : ask ≡ Some (first_ask file.num chan mode)
  pub reply : r ≡ reply.Opened

pub record HasClosed (x : Cmd) (channel : Option Chan) (ask : Option Ask) (r : Reply) : Type 0 where
  pub chan : ℕ
  pub had : Chan
  pub gone : Bool
  pub is : x ≡ cmd.CloseFile chan
  pub has : channel ≡ Some had
  pub ask_is : (ask ≡ None) ⊎ (ask ≡ Some (close_ask had.file.num chan))
  pub reply : r ≡ reply.Closed gone

pub record WasRefused (ask : Option Ask) (r : Reply) : Type 0 where
  pub why : Refusal
  pub none : ask ≡ None
  pub reply : r ≡ reply.Refused why

-- a command that neither opens nor closes asks by the file system alone
pub record IsNoSwitch (x : Cmd) (ask : Option Ask) : Type 0 where
  pub none : switched_by x ≡ None
  pub own : (a : Ask) → ask ≡ Some a → a.chan ≡ 0

pub data EndsSo (x : Cmd) (channel : Option Chan) (ask : Option Ask) (r : Reply) : Type 0 where
  Opened : HasOpened x channel ask r → EndsSo x channel ask r
  Closed : HasClosed x channel ask r → EndsSo x channel ask r
  Refused : WasRefused ask r → EndsSo x channel ask r
  NoSwitch : IsNoSwitch x ask → EndsSo x channel ask r

own_part : (x : Cmd) → switched_by x ≡ None → may_ask x ≡ true → asking_part (channel_of x) ≡ 0
own_part (cmd.Lookup reg dir name ver) none may = refl
own_part (cmd.List dir) none may = refl
own_part (cmd.Stat file) none may = refl
own_part (cmd.Create reg dir name ver blocks owner) none may = refl
own_part (cmd.MkDir reg dir name owner) none may = refl
own_part (cmd.Extend file blocks) none may = refl
own_part (cmd.Trunc file blocks) none may = refl
own_part (cmd.Delete dir name ver) none may = refl
own_part (cmd.Rename dir name ver to to_ver) none may = refl
own_part (cmd.OpenFile chan file mode) none may = absurd (let f : Some chan ≡ None = none in cc)
own_part (cmd.CloseFile chan) none may = absurd (let f : Some chan ≡ None = none in cc)
own_part (cmd.ReadBlock chan vbn) none may = absurd (let f : false ≡ true = may in cc)
own_part (cmd.WriteBlock chan vbn text) none may = absurd (let f : false ≡ true = may in cc)
own_part (cmd.QuotaSet owner quota over) none may = refl
own_part (cmd.QuotaShow owner) none may = refl

-- an ask of a command is by the part that the command says
abbrev pub AsksAs : Cmd → Option Ask → Type 0
AsksAs x ask = (a : Ask) → ask ≡ Some a → (may_ask x ≡ true) × (a.chan ≡ asking_part (channel_of x))

-- with its whole plan, whose ask was granted or which has none
pub ends_whole : (x : Cmd) (channel : Option Chan) (p : Plan) → HasShape x channel p → AsksAs x p.ask → EndsSo x channel p.ask p.reply
ends_whole x channel p (Opening h) asks = Opened (record { chan = h.chan; file = h.file; mode = h.mode; is = h.is; none = h.none; ask_is = h.ask; reply = h.reply })
ends_whole x channel p (Closing h) asks = Closed (record { chan = h.chan; had = h.had; gone = true; is = h.is; has = h.has; ask_is = inr h.ask; reply = h.reply })
ends_whole x channel p (AtOnce h) asks = Closed (record { chan = h.chan; had = h.had; gone = h.gone; is = h.is; has = h.has; ask_is = inl h.ask; reply = h.reply })
ends_whole x channel p (Refuses h) asks = Refused (record { why = h.why; none = h.ask; reply = h.reply })
ends_whole x channel p (Other h) asks = NoSwitch (record { none = h; own = λ a e. (asks a e).1 ∙ own_part x h (asks a e).0 })

-- or with its ask, which was not granted
pub ends_refused : (x : Cmd) (channel : Option Chan) (p : Plan) (a : Ask) → HasShape x channel p → p.ask ≡ Some a → EndsSo x channel None a.refused
ends_refused x channel p a (Opening h) e =
    let f : Some (first_ask h.file.num h.chan h.mode) ≡ Some a = sym h.ask ∙ e in
    let g : first_ask h.file.num h.chan h.mode ≡ a = cc in
    Refused (record { why = refusal.AccConflict; none = refl; reply = ap (λ (b : Ask). b.refused) (sym g) })
ends_refused x channel p a (Closing h) e =
    let f : Some (close_ask h.had.file.num h.chan) ≡ Some a = sym h.ask ∙ e in
    let g : close_ask h.had.file.num h.chan ≡ a = cc in
    Closed (record { chan = h.chan; had = h.had; gone = false; is = h.is; has = h.has; ask_is = inl refl; reply = ap (λ (b : Ask). b.refused) (sym g) })
ends_refused x channel p a (AtOnce h) e = absurd (let f : None ≡ Some a = sym h.ask ∙ e in cc)
ends_refused x channel p a (Refuses h) e = absurd (let f : None ≡ Some a = sym h.ask ∙ e in cc)
ends_refused x channel p a (Other h) e = NoSwitch (record { none = h; own = λ b f. absurd (let g : None ≡ Some b = f in cc) })

-- ---- who asks by a channel

-- its channel has nothing open, and it asks as OPEN does
pub record AsksToOpen (channel : Option Chan) (a : Ask) : Type 0 where
  pub none : channel ≡ None

-- its channel has the file open in a mode below EX, and it asks for EX
pub record AsksToClose (channel : Option Chan) (a : Ask) : Type 0 where
  pub had : Chan
  pub has : channel ≡ Some had
  pub file : had.file.num ≡ a.file
  pub up : is_upward had.mode EX ≡ true
  pub mode : a.mode ≡ EX

pub asks_by_channel : (x : Cmd) (channel : Option Chan) (p : Plan) (a : Ask) → HasShape x channel p → AsksAs x p.ask → p.ask ≡ Some a → (a.chan ≡ 0) ⊎ (AsksToOpen channel a ⊎ AsksToClose channel a)
asks_by_channel x channel p a (Opening h) asks e = inr (inl (record { none = h.none }))
asks_by_channel x channel p a (Closing h) asks e =
    let f : Some (close_ask h.had.file.num h.chan) ≡ Some a = sym h.ask ∙ e in
    let g : close_ask h.had.file.num h.chan ≡ a = cc in
    inr (inr (record { had = h.had; has = h.has; file = ap (λ (b : Ask). b.file) g; up = h.up; mode = ap (λ (b : Ask). b.mode) (sym g) }))
asks_by_channel x channel p a (AtOnce h) asks e = absurd (let f : None ≡ Some a = sym h.ask ∙ e in cc)
asks_by_channel x channel p a (Refuses h) asks e = absurd (let f : None ≡ Some a = sym h.ask ∙ e in cc)
asks_by_channel x channel p a (Other h) asks e = inl ((asks a e).1 ∙ own_part x h (asks a e).0)
