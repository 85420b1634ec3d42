-- What holds at the end of each row of events of a CLOSE.
use Rattle.std.proofs.Common.{◌≡◌, ◌∙◌, inl, ℕ, Bool, true, false, cond, List, [], ◌∷◌, ◌++◌, Option, Some, None, map, length, take, refl, ap, arith}
use Rattle.std.specs.Prelude.{option_map}
use Rattle.std.proofs.lemmas.List.{length-map}
use Rattle.base_words.specs.Fields.{Block}
use Rattle.fx_header.specs.declared.slot.Hdr.{Hdr}
use Rattle.lock_db.specs.declared.name.LockName.{LockName}
use Rattle.lock_db.specs.declared.name.LockName.TheVariants.{S, Q, V}
use Rattle.plain_cat.specs.declared.mode.Mode.{Mode}
use Rattle.plain_cat.specs.declared.mode.Mode.TheVariants.{NL, CR, CW, PR, PW, EX}
use Rattle.plain_cat.specs.declared.command.Cmd.{Cmd}
use Rattle.plain_cat.specs.declared.command.Cmd.TheVariants as cmd
use Rattle.plain_cat.specs.declared.reply.Reply.TheVariants as reply
use Rattle.plain_cat.specs.declared.reply.Refusal.{Refusal}
use Rattle.plain_cat.specs.declared.reply.Refusal.TheVariants as refusal
use Rattle.base_words.specs.Lists.{Has}
use Rattle.plain_rules.specs.Lookups.{extra}
use Rattle.vol_spell.specs.Owners.{Things, nothing}
use Rattle.vol_parts.specs.declared.geometry.Geometry.{Geometry}
use Rattle.vol_parts.specs.declared.geometry.Part.TheVariants.{Storage, IndexBitmap}
use Rattle.vol_spell.specs.Reading.{header_place, quota_places}
use Rattle.vol_spell.specs.Places.{place_of}
use Rattle.vol_under.specs.UnderWay.{outs_after}
use Rattle.op_law.specs.declared.need.PlanWrite.{PlanWrite}
use Rattle.op_law.specs.declared.seen.Chan.{Chan}
use Rattle.op_law.specs.Channels.{close_plan, close_in, close_on, close_events}
use Rattle.op_law.specs.Events.{Events, Take, Look, Make, Space, HasNoSpace, HasNoSearch}
use Rattle.op_law.specs.Fits.{things}
use Rattle.op_law.specs.Freeing.{SeenSpace, blocks_for, all_clusters, freeing_writes}
use Rattle.op_law.specs.Headers.{through_chain}
use Rattle.op_law.specs.Laws.{planned, held_in}
use Rattle.op_law.specs.Needs.{events_of}
use Rattle.op_law.specs.Refusing.{SeenFile, seen_file, used_in, if_file}
use Rattle.op_law.specs.Rows.{is_number, look_all, answers, refuses}
use Rattle.op_law.proofs.Asking.{EveryEnd, IsShapedBy}
use Rattle.op_law.proofs.Ends.{EndsBy, LeavesNothing, nothing_given}
use Rattle.op_law.proofs.Links.{held_with, links_held_so}
use Rattle.op_steps.proofs.GoneSteps.{gone_ends}
use Rattle.op_access.specs.Seeing.{file_goes}

pub take_none : (ws : List PlanWrite) → take 0 ws ≡ []
take_none [] = refl
take_none (w ∷ ws) = refl

module _ (chan : ℕ) where
  abbrev x : Cmd
  x = cmd.CloseFile chan

  abbrev Held : Type 0
  Held = List (LockName × Mode)

  -- ---- what holds at the end of each row of events, by the locks that are held there

  module _ (T : Events → Held → Type 0) (takes : (lock : LockName) (mode : Mode) (next : Events) (held : Held) → T next (held ++ (lock, mode) ∷ []) → T (Take lock mode next) held)
      (looks : (lock : LockName) (lbn : ℕ) (next : Block → Events) (held : Held) → ((b : Block) → T (next b) held) → T (Look lock lbn next) held)
      (refused : (r : Refusal) (held : Held) → T (refuses r) held) (stays : (held : Held) → T (answers (reply.Closed false)) held) (g : Geometry)
      (whole : (m : Mode) (f : SeenFile) (s : SeenSpace) (held : Held) → length s.storage ≡ length (blocks_for g (all_clusters g f)) → Has (held_in PW held) (S f.num)
      → T (Make (close_plan f.num chan m (freeing_writes g f s))) held) where
    all_so : (lock : LockName) (ls : List ℕ) (next : List Block → Events) (held : Held) → ((bs : List Block) → length bs ≡ length ls → T (next bs) held) → T (look_all lock ls next) held
    all_so lock [] next held so = so [] refl
    all_so lock (l ∷ ls) next held so = looks lock l (λ b. look_all lock ls (λ bs. next (b ∷ bs))) held (λ b. all_so lock ls (λ bs. next (b ∷ bs)) held (λ bs e. so (b ∷ bs) (omega arith)))

    space_so : (m : Mode) (f : SeenFile) (held : Held) → Has (held_in PW held) (S f.num) → T (file_goes g chan m f) held
    space_so m f held has =
        let ks = blocks_for g (all_clusters g f) in
        let with_q = held ++ (Q, PW) ∷ [] in
        let last = with_q ++ (V, PW) ∷ [] in
        takes Q PW _ held (all_so Q (quota_places g) _ with_q (λ quota q.
        takes V PW _ with_q (looks V (place_of g IndexBitmap) _ last (λ index.
        all_so V (map (λ k. place_of g (Storage k)) ks) _ last (λ storage len.
        whole m f (record { quota = quota; index = index; storage = storage }) last (len ∙ length-map ks (λ k. place_of g (Storage k)))
        (held_with PW with_q ((V, PW) ∷ []) (S f.num) (held_with PW held ((Q, PW) ∷ []) (S f.num) has)))))))

    abbrev first : ℕ → Held
    first n = (S n, PW) ∷ []

    file_so : (m : Mode) (n : ℕ) (b : Block) (o : Option Hdr) → T (if_file (answers (reply.Closed false)) (close_in g chan m) (option_map (seen_file g n b) o)) (first n)
    file_so m n b None = stays (first n)
    file_so m n b (Some h) = by_marked h.marked where
      f : SeenFile
      f = seen_file g n b h

      by_marked : (t : Bool) → T (cond t (through_chain g PW f (file_goes g chan m)) (answers (reply.Closed false))) (first n)
      by_marked true =
          links_held_so T takes looks g PW (extra f.file.clusters) b f (file_goes g chan m) (first n)
          (λ rest more len. space_so m (record f { rest = rest }) (first n ++ more) (held_with PW (first n) more (S n) (inl refl)))
      by_marked false = stays (first n)

    on_so : (channel : Option Chan) → T (close_on g channel chan) []
    on_so None = refused refusal.NotOpen []
    on_so (Some p) = by_number (is_number g p.file) where
      looking : Block → Events
      looking b = if_file (answers (reply.Closed false)) (close_in g chan p.mode) (option_map (seen_file g p.file.num b) (used_in p.file.seq b))

      by_number : (t : Bool) → T (cond t (Take (S p.file.num) PW (Look (S p.file.num) (header_place g p.file.num) looking)) (refuses refusal.NoSuchFile)) []
      by_number true = takes (S p.file.num) PW _ [] (looks (S p.file.num) (header_place g p.file.num) looking (first p.file.num) (λ b. file_so p.mode p.file.num b (used_in p.file.seq b)))
      by_number false = refused refusal.NoSuchFile []

    pub close_so : (channel : Option Chan) → T (events_of g channel x) []
    unfolding events_of close_events
    close_so channel = on_so channel

  pub no_search : (g : Geometry) (channel : Option Chan) → HasNoSearch (events_of g channel x)
  no_search g channel = close_so (λ es held. HasNoSearch es) (λ lock mode next held h. h) (λ lock lbn next held h. h) (λ r held. tt) (λ held. tt) g plain channel where
    plain : (m : Mode) (f : SeenFile) (s : SeenSpace) (held : Held) → length s.storage ≡ length (blocks_for g (all_clusters g f)) → Has (held_in PW held) (S f.num) → HasNoSearch (Make (close_plan f.num chan m (freeing_writes g f s)))
    plain m f s held len has = tt

  -- an ask of the channel, or none where its mode is EX
  ask_shaped : (m : Mode) (n : ℕ) (ws : List PlanWrite) (held : Held) → Has (held_in PW held) (S n) → IsShapedBy x held (close_plan n chan m ws) (close_plan n chan m ws).ask
  ask_shaped EX n ws held has = tt
  ask_shaped NL n ws held has = record { may = refl; by = refl; held = has; within = omega arith; refused = tt }
  ask_shaped CR n ws held has = record { may = refl; by = refl; held = has; within = omega arith; refused = tt }
  ask_shaped CW n ws held has = record { may = refl; by = refl; held = has; within = omega arith; refused = tt }
  ask_shaped PR n ws held has = record { may = refl; by = refl; held = has; within = omega arith; refused = tt }
  ask_shaped PW n ws held has = record { may = refl; by = refl; held = has; within = omega arith; refused = tt }

  pub shaped : (g : Geometry) (channel : Option Chan) → EveryEnd (λ held p. IsShapedBy x held p p.ask) (events_of g channel x) []
  shaped g channel =
      close_so (EveryEnd (λ held p. IsShapedBy x held p p.ask)) (λ lock mode next held h. h) (λ lock lbn next held h. h) (λ r held. (refl, refl)) (λ held. tt) g
      (λ m f s held len has. ask_shaped m f.num (freeing_writes g f s) held has) channel

  -- nothing is left outside behind all writes, nor before the first
  leaves : (m : Mode) (n : ℕ) (ws : List PlanWrite) (took : Things) → took ≡ nothing → outs_after took (map planned ws) ≡ nothing → LeavesNothing took (close_plan n chan m ws) (close_plan n chan m ws).ask
  leaves m n ws took none all = by_mode m where
    first : outs_after took (map planned (take 0 ws)) ≡ nothing
    first = ap (λ (us : List PlanWrite). outs_after took (map planned us)) (take_none ws) ∙ none

    by_mode : (m : Mode) → LeavesNothing took (close_plan n chan m ws) (close_plan n chan m ws).ask
    by_mode EX = all
    by_mode NL = (all, first)
    by_mode CR = (all, first)
    by_mode CW = (all, first)
    by_mode PR = (all, first)
    by_mode PW = (all, first)

  pub ends : (g : Geometry) (channel : Option Chan) (space : Space) → EndsBy (things space.clusters space.number) (HasNoSpace space) (events_of g channel x)
  ends g channel space =
      close_so (λ es held. EndsBy (things space.clusters space.number) (HasNoSpace space) es) (λ lock mode next held h. h) (λ lock lbn next held h. h) (λ r held. nothing_given space) (λ held. nothing_given space) g
      (λ m f s held len has none. leaves m f.num (freeing_writes g f s) (things space.clusters space.number) (nothing_given space none) (gone_ends g f s (things space.clusters space.number) len)) channel
