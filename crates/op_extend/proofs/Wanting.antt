-- What an EXTEND wants goes by the first header that it has seen: where it has seen none it needs a lock or that header next, or it is
-- refused.
use Rattle.std.proofs.Common.{◌≡◌, ◌∙◌, inl, inr, ℕ, Bool, true, false, cond, List, [], ◌∷◌, Some, refl, sym, ap, subst}
use Rattle.std.specs.Prelude.{◌/◌, option_map}
use Rattle.base_words.specs.Fields.{Block}
use Rattle.base_words.specs.Lists.{StandsIn}
use Rattle.fx_header.specs.declared.slot.Hdr.{Hdr}
use Rattle.lock_db.specs.declared.name.LockName.{LockName}
use Rattle.lock_db.specs.declared.name.LockName.TheVariants.{S}
use Rattle.plain_cat.specs.declared.ids.Fid.{Fid}
use Rattle.plain_cat.specs.declared.mode.Mode.{Mode}
use Rattle.plain_cat.specs.declared.mode.Mode.TheVariants.{PW}
use Rattle.plain_cat.specs.declared.command.Cmd.{Cmd}
use Rattle.plain_cat.specs.declared.command.Cmd.TheVariants as cmd
use Rattle.plain_cat.specs.declared.cat.Cat.{Cat}
use Rattle.plain_cat.specs.declared.reply.Reply.TheVariants as reply
use Rattle.plain_cat.specs.declared.reply.Refusal.TheVariants as refusal
use Rattle.plain_rules.specs.Lookups.{needs_header}
use Rattle.vol_spell.specs.Owners.{Owners}
use Rattle.vol_parts.specs.declared.geometry.Geometry.{Geometry}
use Rattle.vol_spell.specs.Reading.{IsFileNumber, header_place, header_block, fields_told}
use Rattle.vol_spell.specs.Spelling.{size_in, Spells}
use Rattle.op_law.specs.declared.need.Need.{Need}
use Rattle.op_law.specs.declared.need.Plan.{Plan}
use Rattle.op_law.specs.declared.seen.Seen.{Seen}
use Rattle.op_law.specs.Events.{Events, Take, Look, space_of, HasNoSpace, following, Follows}
use Rattle.op_law.specs.Fits.{HasSeen}
use Rattle.op_law.specs.Knows.{wants_header, wants_number}
use Rattle.op_law.specs.Laws.{IsNewLock, IsLockedLook}
use Rattle.op_law.specs.Needs.{events_of, IsNext}
use Rattle.op_law.specs.Refusing.{seen_file, if_file}
use Rattle.op_law.specs.Rows.{is_number, live_in, plain_plan, refuses}
use Rattle.op_law.specs.Sizes.{extend_in, extend_events}
use Rattle.op_law.specs.Writing.{clusters_for}
use Rattle.op_law.proofs.Heads.{header_is}
use Rattle.op_law.proofs.Telling.{number_is}
use Rattle.op_law.proofs.Through.{number_obeys}
use Rattle.op_law.proofs.Walking.{ObeysBy, IsFine, next_fine}
use Rattle.op_extend.proofs.Searches.{extend_once}

-- with the header of this file first, whose fields are these
abbrev pub WantsBy : Fid → ℕ → Seen → Hdr → Type 0
WantsBy file blocks seen h = wants_number seen (cmd.Extend file blocks) ≡ needs_header (h.blocks / seen.geometry.cluster) (clusters_for seen.geometry blocks)

module _ (file : Fid) (blocks : ℕ) (seen : Seen) (bs : List Block) (own : Owners) (c : Cat) (s : Spells seen.geometry bs own c) (P : List (LockName × Mode) → Plan → Type 0) (stands : StandsIn bs seen.blocks) where
  abbrev g : Geometry
  g = seen.geometry

  abbrev x : Cmd
  x = cmd.Extend file blocks

  abbrev behind : Block → Events
  behind b = if_file (refuses refusal.NoSuchFile) (extend_in seen.geometry (clusters_for seen.geometry blocks)) (option_map (seen_file seen.geometry file.num b) (live_in file.seq b))

  abbrev all : Bool → Events
  all t = cond t (Take (S file.num) PW (Look (S file.num) (header_place seen.geometry file.num) behind)) (refuses refusal.NoSuchFile)

  -- the block that was seen first is the file's first header
  first_is : (y : ℕ × Block) (ys : List (ℕ × Block)) → StandsIn bs (y ∷ ys) → (t : Bool) → (locks : List (LockName × Mode)) → Follows (all t) locks (y ∷ ys) (space_of seen) (HasNoSpace (space_of seen))
      → header_block seen.geometry bs file.num ≡ y.1
  first_is y ys at true [] f = absurd (let e : y ∷ ys ≡ [] = f.0 in cc)
  first_is y ys at true (l ∷ locks) f = header_is g bs file.num y.0 y.1 f.1.0 at.0
  first_is y ys at false locks f = absurd (let e : y ∷ ys ≡ [] = f.1 in cc)

  wants_by : (y : ℕ × Block) (ys : List (ℕ × Block)) → seen.blocks ≡ y ∷ ys → HasSeen (cmd.Extend file blocks) seen → (h : Hdr) → fields_told (header_block seen.geometry bs file.num) ≡ Some h → WantsBy file blocks seen h
  unfolding events_of extend_events
  wants_by y ys some has h used =
      let k = clusters_for g blocks in
      let at : StandsIn bs (y ∷ ys) = subst (StandsIn bs) some stands in
      let follows : Follows (all (is_number g file)) seen.locks (y ∷ ys) (space_of seen) (HasNoSpace (space_of seen)) =
      subst (λ (zs : List (ℕ × Block)). Follows (all (is_number g file)) seen.locks zs (space_of seen) (HasNoSpace (space_of seen))) some has in
      let first = first_is y ys at (is_number g file) seen.locks follows in
      ap (wants_header g k) some ∙ ap (λ (b : Block). needs_header (size_in (fields_told b) / g.cluster) k) (sym first) ∙ ap (λ o. needs_header (size_in o / g.cluster) k) used

  abbrev Fine : Need → Type 0
  Fine next = IsFine (cmd.Extend file blocks) seen bs own c P next

  -- where no block was seen
  module _ (none : is_number seen.geometry file ≡ false → (held : List (LockName × Mode)) → P held (plain_plan (reply.Refused refusal.NoSuchFile))) where
    first_obeys : IsFileNumber seen.geometry file.num
        → ObeysBy (cmd.Extend file blocks) seen.geometry bs own c seen (λ held p. Unit {0}) (Take (S file.num) PW (Look (S file.num) (header_place seen.geometry file.num) (λ b. refuses refusal.NoSuchFile))) []
    first_obeys is = number_obeys x g bs own c s seen (λ held p. Unit {0}) [] PW (inr (inl refl)) file.num (λ b. refuses refusal.NoSuchFile) (λ t. t) (inl (λ t. t)) (λ other t. absurd t) is tt

    -- its lock, or its first header
    first_needs : IsFileNumber seen.geometry file.num → (locks : List (LockName × Mode)) → seen.locks ≡ locks → Follows (all true) locks [] (space_of seen) (HasNoSpace (space_of seen))
        → Fine (following (all true) locks [] (space_of seen))
    first_needs is [] same f =
        let held = first_obeys is in
        subst (λ (ls : List (LockName × Mode)). IsNewLock (cmd.Extend file blocks) g bs own c ls seen.number (S file.num) PW) (sym same) held.0
    first_needs is (l ∷ locks) same f =
        let held = first_obeys is in
        let one : seen.locks ≡ (S file.num, PW) ∷ [] = same ∙ ap (λ (k : LockName × Mode). k ∷ locks) f.0 ∙ ap (λ ls. (S file.num, PW) ∷ ls) f.1.0 in
        subst (λ (ls : List (LockName × Mode)). IsLockedLook g bs own c ls (S file.num) (header_place g file.num)) (sym one) held.1.0

    begins : (t : Bool) → is_number seen.geometry file ≡ t → Follows (all t) seen.locks [] (space_of seen) (HasNoSpace (space_of seen)) → Fine (following (all t) seen.locks [] (space_of seen))
    begins false e f = none e seen.locks
    begins true e f = first_needs (number_is g file e) seen.locks refl f

    pub first_fine : seen.blocks ≡ [] → HasSeen (cmd.Extend file blocks) seen → (next : Need) → IsNext (cmd.Extend file blocks) seen next → Fine next
    unfolding events_of extend_events
    first_fine empty has next goes =
        let t = is_number g file in
        let follows = subst (λ (ys : List (ℕ × Block)). Follows (all t) seen.locks ys (space_of seen) (HasNoSpace (space_of seen))) empty has in
        subst Fine (ap (λ ys. following (all t) seen.locks ys (space_of seen)) (sym empty) ∙ goes) (begins t refl follows)

  -- whatever it needs next is fine, where the walk by what it wants obeys
  pub extend_fine : (is_number seen.geometry file ≡ false → (held : List (LockName × Mode)) → P held (plain_plan (reply.Refused refusal.NoSuchFile)))
      → (((h : Hdr) → fields_told (header_block seen.geometry bs file.num) ≡ Some h → WantsBy file blocks seen h) → ObeysBy (cmd.Extend file blocks) seen.geometry bs own c seen P (events_of seen.geometry seen.channel (cmd.Extend file blocks)) [])
      → HasSeen (cmd.Extend file blocks) seen → (next : Need) → IsNext (cmd.Extend file blocks) seen next → Fine next
  extend_fine none obeys has next goes = by_blocks seen.blocks refl where
    by_blocks : (ys : List (ℕ × Block)) → seen.blocks ≡ ys → Fine next
    by_blocks [] empty = first_fine none empty has next goes
    by_blocks (y ∷ ys) some = next_fine x seen bs own c P next (extend_once file blocks g seen.channel) (obeys (wants_by y ys some has)) stands has goes
