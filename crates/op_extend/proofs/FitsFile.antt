-- What an EXTEND or a TRUNC has seen fits a volume: the headers of its file, as far as they were seen.
use Rattle.std.proofs.Common.{◌≡◌, ◌∙◌, ◌≤◌, ◌<◌, ◌+◌, ◌-◌, ◌*◌, ◌/◌, ◌⊎◌, inl, inr, ℕ, zero, suc, Bool, true, false, cond, List, [], ◌∷◌, Option, Some, None, length, refl, sym, ap, subst, arith}
use Rattle.std.specs.Prelude.{option_map}
use Rattle.std.proofs.lemmas.List.{length-map}
use Rattle.base_words.specs.Fields.{Block}
use Rattle.base_words.specs.Lists.{Has, StandsIn}
use Rattle.base_words.proofs.Listing.{has_mapped, place_of}
use Rattle.fx_header.specs.declared.slot.Hdr.{Hdr}
use Rattle.fx_header.proofs.SoundLemmas.{reads-sound}
use Rattle.lock_db.specs.declared.name.LockName.{LockName}
use Rattle.lock_db.specs.declared.name.LockName.TheVariants.{S}
use Rattle.plain_cat.specs.declared.ids.Fid.{Fid}
use Rattle.plain_cat.specs.declared.mode.Mode.{Mode}
use Rattle.plain_cat.specs.declared.mode.Mode.TheVariants.{PW}
use Rattle.plain_cat.specs.declared.command.Cmd.{Cmd}
use Rattle.plain_cat.specs.declared.command.Cmd.TheVariants as cmd
use Rattle.plain_cat.specs.declared.cat.Cat.{Cat}
use Rattle.plain_cat.specs.declared.reply.Refusal.{Refusal}
use Rattle.plain_cat.specs.declared.reply.Refusal.TheVariants as refusal
use Rattle.plain_rules.specs.Lookups.{file_most, extra}
use Rattle.plain_rules.specs.Answers.{first_refusal, is_kept}
use Rattle.vol_spell.specs.Owners.{Owners}
use Rattle.vol_parts.specs.declared.geometry.Geometry.{Geometry}
use Rattle.vol_spell.specs.Reading.{IsFileNumber, header_place, header_block, head_told, fields_told}
use Rattle.vol_spell.specs.Spelling.{Spells}
use Rattle.vol_spell.proofs.Heads.{used_first}
use Rattle.vol_spell.proofs.HeadFiles.{within}
use Rattle.vol_spell.proofs.HeadSlots.{reads_fields}
use Rattle.vol_spell.proofs.Parts.{told}
use Rattle.op_law.specs.declared.seen.Seen.{Seen}
use Rattle.op_law.specs.Events.{Events, Take, Look, Space, space_of, Follows}
use Rattle.op_law.specs.Fits.{FitsSeen}
use Rattle.op_law.specs.Headers.{through_links, through_chain, placed, others_told, headers_behind, whole_file}
use Rattle.op_law.specs.Needs.{events_of}
use Rattle.op_law.specs.Readable.{HeadIsInside}
use Rattle.op_law.specs.Refusing.{SeenFile, seen_file, unless_refused, if_file, through_live}
use Rattle.op_law.specs.Rows.{is_number, live_in, refuses}
use Rattle.op_law.specs.Sizes.{growing_refusals, extend_in, extend_events, keep_clusters, growing_events, trunc_in, trunc_events}
use Rattle.op_law.specs.Writing.{clusters_for}
use Rattle.op_law.proofs.Chains.{other_number, header_at, size_counted, others_count}
use Rattle.op_law.proofs.Heads.{header_is, through_inside}
use Rattle.op_law.proofs.LinksSeen.{links_part}
use Rattle.op_law.proofs.SeenRuns.{part_whole, seen_clusters}
use Rattle.op_law.proofs.Telling.{number_is, live_reads}
use Rattle.op_steps.proofs.SeenHeaders.{seen_headers}
use Rattle.op_extend.specs.Kinds.{ChangesSize}
use Rattle.op_extend.specs.Seeing.{IsSlotSeen, AreSlots, IsWhole, IsBegun, FirstIsBegun, FileIsBegun}

-- ---- a file with all of its headers

module _ (g : Geometry) (bs : List Block) (own : Owners) (c : Cat) (s : Spells g bs own c) (n : ℕ) (h : Hdr) (is : IsFileNumber g n) (used : fields_told (header_block g bs n) ≡ Some h) where
  -- each of its other headers has a number of the volume, and the areas of a header
  slot_seen : (m : ℕ) → Has (others_told g bs n) m → IsSlotSeen g (placed g bs m)
  slot_seen m t =
      let place = place_of (others_told g bs n) m t in
      let at = header_at g bs own c s n h is used (suc place.0) m place.1 in
      let here : 4 * g.cluster + m - 4 * g.cluster ≡ m = omega arith in
      record {
        number = subst (λ k. k ≤ g.files) (sym here) (other_number g bs own c s n h is used m t).to;
        offsets = (reads-sound (header_block g bs m) at.fields at.reads).offsets;
      }

  are_slots : AreSlots g (headers_behind g bs n)
  are_slots x t =
      let m = has_mapped (placed g bs) (others_told g bs n) x t in
      subst (IsSlotSeen g) m.2 (slot_seen m.0 m.1)

  module _ (above : 11 < n) where
    pub file_whole : IsWhole g (whole_file g bs n h)
    file_whole =
        let t = told g bs own c s n is in
        let same = seen_clusters g bs n h used in
        record {
          count = ap length same ∙ sym (size_counted g bs own c s n h is used);
          there = λ q u. within g bs own c n h s is (used_first (header_block g bs n) h used) q (subst (λ (qs : List ℕ). Has qs q) same u);
          few = subst (λ k. k ≤ file_most) (sym (size_counted g bs own c s n h is used)) (t.few above);
          headers = length-map (others_told g bs n) (placed g bs) ∙ others_count g bs own c s n h is used above;
          slots = are_slots;
        }

    -- so it was begun, where these blocks were seen along its links
    pub file_begun : (next : SeenFile → Events) (locks : List (LockName × Mode)) (blocks : List (ℕ × Block)) (space : Space) (given : Type 0) → StandsIn bs blocks
        → Follows (through_chain g PW (seen_file g n (header_block g bs n) h) next) locks blocks space given → IsBegun g n (header_block g bs n) h blocks
    file_begun next locks blocks space given stands follows =
        let k = extra (h.blocks / g.cluster) in
        let count : length (others_told g bs n) ≡ extra (h.blocks / g.cluster) = others_count g bs own c s n h is used above in
        let le : extra (h.blocks / g.cluster) ≤ length (others_told g bs n) = omega arith in
        record {
          headers = seen_headers g bs own c s n h is used PW k next locks blocks space given le stands follows;
          whole = λ enough. subst (IsWhole g)
              (sym (links_part g bs PW next space given n h used k le locks blocks stands follows enough ∙ part_whole g bs n h used k (omega arith))) file_whole;
        }

    -- or where none was seen behind the first
    follows_none : (k : ℕ) (b : Block) (f : SeenFile) (space : Space) → Follows (through_links g PW k b f (λ f. refuses refusal.NoPriv)) [] [] space (Unit {0})
    follows_none zero b f space = (refl, refl, tt)
    follows_none (suc k) b f space = (refl, tt)

    pub none_begun : Space → IsBegun g n (header_block g bs n) h []
    none_begun space =
        file_begun (λ f. refuses refusal.NoPriv) [] [] space (Unit {0}) tt (follows_none (extra (h.blocks / g.cluster)) (header_block g bs n) (seen_file g n (header_block g bs n) h) space)

-- ---- the events

-- a refusal, or the walk along all headers of the file
abbrev GoesAlong : Geometry → SeenFile → Events → Type 0
GoesAlong g f es = ((r : Refusal) × (es ≡ refuses r)) ⊎ ((next : SeenFile → Events) × (es ≡ through_chain g PW f next))

unless_along : (g : Geometry) (f : SeenFile) (next : SeenFile → Events) (o : Option Refusal) → GoesAlong g f (unless_refused o (through_chain g PW f next))
unless_along g f next None = inr (next, refl)
unless_along g f next (Some r) = inl (r, refl)

-- what comes behind the first header
abbrev behind_header : Geometry → Fid → (SeenFile → Events) → Block → Events
behind_header g fid next b = if_file (refuses refusal.NoSuchFile) next (option_map (seen_file g fid.num b) (live_in fid.seq b))

module _ (g : Geometry) (bs : List Block) (own : Owners) (c : Cat) (s : Spells g bs own c) where
  behind_first : (fid : Fid) (b : Block) → IsFileNumber g fid.num → b ≡ header_block g bs fid.num → (next : SeenFile → Events) → ((f : SeenFile) → GoesAlong g f (next f)) → (o : Option Hdr) → live_in fid.seq b ≡ o
      → (locks : List (LockName × Mode)) (blocks : List (ℕ × Block)) (space : Space) (given : Type 0) → StandsIn bs blocks
      → Follows (if_file (refuses refusal.NoSuchFile) next (option_map (seen_file g fid.num b) o)) locks blocks space given → FirstIsBegun g fid.num b blocks
  behind_first fid b is at next along None live locks blocks space given stands follows above h used =
      let here : fields_told (header_block g bs fid.num) ≡ Some h = ap fields_told (sym at) ∙ used in
      subst (λ (y : Block). IsBegun g fid.num y h blocks) (sym at)
      (subst (λ (xs : List (ℕ × Block)). IsBegun g fid.num (header_block g bs fid.num) h xs) (sym follows.1) (none_begun g bs own c s fid.num h is here above space))
  behind_first fid b is at next along (Some f) live locks blocks space given stands follows above h used =
      let here : fields_told (header_block g bs fid.num) ≡ Some h = ap fields_told (sym at) ∙ used in
      let told : fields_told b ≡ Some f = reads_fields b f (live_reads fid.seq (head_told b) f live) in
      let same : f ≡ h = (let both : Some f ≡ Some h = sym told ∙ used in cc) in
      let seen : Follows (next (seen_file g fid.num (header_block g bs fid.num) h)) locks blocks space given =
      subst (λ (y : Block). Follows (next (seen_file g fid.num y h)) locks blocks space given) at (subst (λ (y : Hdr). Follows (next (seen_file g fid.num b y)) locks blocks space given) same follows) in
      subst (λ (y : Block). IsBegun g fid.num y h blocks) (sym at) (elim (along (seen_file g fid.num (header_block g bs fid.num) h)) [
        | inl why ↦
            let none : blocks ≡ [] = (subst (λ (es : Events). Follows es locks blocks space given) why.1 seen).1 in
            subst (λ (xs : List (ℕ × Block)). IsBegun g fid.num (header_block g bs fid.num) h xs) (sym none) (none_begun g bs own c s fid.num h is here above space)
        | inr go ↦
            file_begun g bs own c s fid.num h is here above go.0 locks blocks space given stands (subst (λ (es : Events). Follows es locks blocks space given) go.1 seen)
      ])

  through_begun : (fid : Fid) (next : SeenFile → Events) → ((f : SeenFile) → GoesAlong g f (next f)) → (locks : List (LockName × Mode)) (blocks : List (ℕ × Block)) (space : Space) (given : Type 0)
      → StandsIn bs blocks → Follows (through_live g fid PW next) locks blocks space given → FileIsBegun g fid.num blocks
  through_begun fid next along locks blocks space given stands f = by_number (is_number g fid) refl f where
    by_locks : (ls : List (LockName × Mode)) (xs : List (ℕ × Block)) → IsFileNumber g fid.num → StandsIn bs xs
        → Follows (Take (S fid.num) PW (Look (S fid.num) (header_place g fid.num) (behind_header g fid next))) ls xs space given → FileIsBegun g fid.num xs
    by_locks [] xs is at f = subst (FileIsBegun g fid.num) (sym f.0) tt
    by_locks (l ∷ ls) [] is at f = tt
    by_locks (l ∷ ls) (x ∷ xs) is at f =
        behind_first fid x.1 is (sym (header_is g bs fid.num x.0 x.1 f.1.0 at.0)) next along (live_in fid.seq x.1) refl ls xs space given at.1 f.1.1

    by_number : (t : Bool) → is_number g fid ≡ t
        → Follows (cond t (Take (S fid.num) PW (Look (S fid.num) (header_place g fid.num) (behind_header g fid next))) (refuses refusal.NoSuchFile)) locks blocks space given → FileIsBegun g fid.num blocks
    by_number true e f = by_locks locks blocks (number_is g fid e) stands f
    by_number false e f = subst (FileIsBegun g fid.num) (sym f.1) tt

-- ---- EXTEND and TRUNC

pub fits_inside : (x : Cmd) (seen : Seen) → ChangesSize x → FitsSeen x seen → HeadIsInside seen.blocks
unfolding events_of extend_events trunc_events
fits_inside (cmd.Extend file blocks) seen is f =
    through_inside seen.geometry f.blocks f.own f.cat f.on.spelt file _ _ seen.locks seen.blocks (space_of seen) _ f.on.stands f.order
fits_inside (cmd.Trunc file blocks) seen is f =
    through_inside seen.geometry f.blocks f.own f.cat f.on.spelt file _ _ seen.locks seen.blocks (space_of seen) _ f.on.stands f.order
fits_inside other seen is f = absurd is

extend_begun : (file : Fid) (blocks : ℕ) (seen : Seen) → FitsSeen (cmd.Extend file blocks) seen → FileIsBegun seen.geometry file.num seen.blocks
unfolding events_of extend_events
extend_begun file blocks seen f =
    let g = seen.geometry in
    let k = clusters_for g blocks in
    through_begun g f.blocks f.own f.cat f.on.spelt file (extend_in g k) (λ y. unless_along g y (growing_events g k) (first_refusal (growing_refusals y k))) seen.locks seen.blocks (space_of seen) _ f.on.stands f.order

trunc_begun : (file : Fid) (blocks : ℕ) (seen : Seen) → FitsSeen (cmd.Trunc file blocks) seen → FileIsBegun seen.geometry file.num seen.blocks
unfolding events_of trunc_events
trunc_begun file blocks seen f =
    let g = seen.geometry in
    let k = clusters_for g blocks in
    through_begun g f.blocks f.own f.cat f.on.spelt file (trunc_in g k) (λ y. unless_along g y (keep_clusters g k) (first_refusal ((is_kept y.num y.file, refusal.NoPriv) ∷ []))) seen.locks seen.blocks (space_of seen) _ f.on.stands f.order

pub fits_extend : (x : Cmd) (file : Fid) (blocks : ℕ) (seen : Seen) → x ≡ cmd.Extend file blocks → FitsSeen x seen → FileIsBegun seen.geometry file.num seen.blocks
fits_extend x file blocks seen is f = extend_begun file blocks seen (subst (λ (y : Cmd). FitsSeen y seen) is f)

pub fits_trunc : (x : Cmd) (file : Fid) (blocks : ℕ) (seen : Seen) → x ≡ cmd.Trunc file blocks → FitsSeen x seen → FileIsBegun seen.geometry file.num seen.blocks
fits_trunc x file blocks seen is f = trunc_begun file blocks seen (subst (λ (y : Cmd). FitsSeen y seen) is f)
