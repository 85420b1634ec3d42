-- What a READ or a WRITE has seen fits a volume: the first header of the file, and those behind it up to that of its block.
use Rattle.std.proofs.Common.{◌≡◌, ◌∙◌, ℕ, Bool, true, false, cond, List, [], ◌∷◌, Option, Some, None, refl, sym, ap, subst}
use Rattle.std.specs.Prelude.{option_map}
use Rattle.base_words.specs.Fields.{Block}
use Rattle.base_words.specs.Lists.{StandsIn}
use Rattle.fx_header.specs.declared.slot.Hdr.{Hdr}
use Rattle.lock_db.specs.declared.name.LockName.{LockName}
use Rattle.lock_db.specs.declared.name.LockName.TheVariants.{S}
use Rattle.plain_cat.specs.declared.ids.Fid.{Fid}
use Rattle.plain_cat.specs.declared.mode.Mode.{Mode}
use Rattle.plain_cat.specs.declared.mode.Mode.TheVariants.{PR, PW}
use Rattle.plain_cat.specs.declared.command.Cmd.{Cmd}
use Rattle.plain_cat.specs.declared.command.Cmd.TheVariants as cmd
use Rattle.plain_cat.specs.declared.reply.Refusal.TheVariants as refusal
use Rattle.plain_cat.specs.declared.cat.Cat.{Cat}
use Rattle.plain_rules.specs.Answers.{is_reading}
use Rattle.plain_rules.specs.Lookups.{channel_at}
use Rattle.vol_parts.specs.declared.geometry.Geometry.{Geometry}
use Rattle.vol_parts.specs.Volumes.{fields_in}
use Rattle.vol_spell.specs.Owners.{Owners}
use Rattle.vol_spell.specs.Reading.{IsFileNumber, header_place, header_block, fields_told}
use Rattle.vol_spell.specs.Spelling.{Spells}
use Rattle.op_law.specs.declared.seen.Seen.{Seen}
use Rattle.op_law.specs.declared.seen.Chan.{Chan}
use Rattle.op_law.specs.Channels.{within, read_in, read_on, read_events, write_in, write_on, write_events}
use Rattle.op_law.specs.Events.{Events, Take, Look, Space, space_of, HasNoSpace, Follows}
use Rattle.op_law.specs.Fits.{FitsSeen, FitsOn}
use Rattle.op_law.specs.Headers.{through_part}
use Rattle.op_law.specs.Knows.{has_channel}
use Rattle.op_law.specs.Needs.{events_of, stat_events}
use Rattle.op_law.specs.Readable.{HeadIsInside}
use Rattle.op_law.specs.Refusing.{SeenFile, seen_file, used_in, if_file, through_open}
use Rattle.op_law.specs.Rows.{is_number, refuses}
use Rattle.op_law.proofs.Chains.{size_whole}
use Rattle.op_law.proofs.Heads.{header_is, through_inside}
use Rattle.op_law.proofs.Telling.{number_is}
use Rattle.op_steps.proofs.SeenHeaders.{part_headers}
use Rattle.op_steps.proofs.Uses.{used_reads}
use Rattle.op_data.specs.Kinds.{MovesData}
use Rattle.op_data.specs.Seeing.{IsFollowed, HeadIsFollowed}
use Rattle.op_data.proofs.Channel.{HasOpen, both_hold, open_as}
use Rattle.op_data.proofs.OpenWalk.{open_some}
use Rattle.op_data.proofs.Ranges.{not_outside}

module _ (x : Cmd) (seen : Seen) (f : FitsSeen x seen) where
  read_inside : (o : Option Chan) (vbn : ℕ) → Follows (read_on seen.geometry o vbn) seen.locks seen.blocks (space_of seen) (HasNoSpace (space_of seen)) → HeadIsInside seen.blocks
  read_inside None vbn order = subst HeadIsInside (sym order.1) tt
  read_inside (Some p) vbn order = through_inside seen.geometry f.blocks f.own f.cat f.on.spelt p.file PR _ seen.locks seen.blocks (space_of seen) (HasNoSpace (space_of seen)) f.on.stands order

  write_inside : (o : Option Chan) (vbn : ℕ) (text : List ℕ) → Follows (write_on seen.geometry o vbn text) seen.locks seen.blocks (space_of seen) (HasNoSpace (space_of seen)) → HeadIsInside seen.blocks
  write_inside None vbn text order = subst HeadIsInside (sym order.1) tt
  write_inside (Some p) vbn text order = by_reading (is_reading p.mode) order where
    by_reading : (t : Bool) → Follows (cond t (refuses refusal.NoPriv) (through_open seen.geometry p.file PW (refuses refusal.EndOfFile) (within seen.geometry vbn (λ y. through_part seen.geometry PW vbn y (write_in seen.geometry vbn text))))) seen.locks seen.blocks (space_of seen) (HasNoSpace (space_of seen))
        → HeadIsInside seen.blocks
    by_reading true order = subst HeadIsInside (sym order.1) tt
    by_reading false order = through_inside seen.geometry f.blocks f.own f.cat f.on.spelt p.file PW _ seen.locks seen.blocks (space_of seen) (HasNoSpace (space_of seen)) f.on.stands order

pub fits_inside : (x : Cmd) (seen : Seen) → MovesData x → FitsSeen x seen → HeadIsInside seen.blocks
unfolding events_of read_events write_events
fits_inside (cmd.ReadBlock chan vbn) seen is f = read_inside (cmd.ReadBlock chan vbn) seen f seen.channel vbn f.order
fits_inside (cmd.WriteBlock chan vbn text) seen is f = write_inside (cmd.WriteBlock chan vbn text) seen f seen.channel vbn text f.order
fits_inside other seen is f = absurd is

-- ---- the headers behind the first one

module _ (g : Geometry) (bs : List Block) (own : Owners) (c : Cat) (s : Spells g bs own c) (node chan : ℕ) (p : Chan) (opened : HasOpen c node chan p) (mode : Mode) (vbn : ℕ) (next : SeenFile → Events) (space : Space) (given : Type 0) where
  -- behind the first header, which is in use
  used_followed : IsFileNumber g p.file.num → (h : Hdr) → fields_told (header_block g bs p.file.num) ≡ Some h → (locks : List (LockName × Mode)) (blocks : List (ℕ × Block)) → StandsIn bs blocks
      → Follows (within g vbn (λ y. through_part g mode vbn y next) (seen_file g p.file.num (header_block g bs p.file.num) h)) locks blocks space given → IsFollowed g vbn h (header_block g bs p.file.num) blocks
  used_followed is h used locks blocks stands f from to =
      let n = p.file.num in
      let y = seen_file g n (header_block g bs n) h in
      let inside = not_outside g n (header_block g bs n) h vbn (size_whole g bs own c s n h is used) from to in
      let behind = subst (λ t. Follows (cond t (refuses refusal.EndOfFile) (through_part g mode vbn y next)) locks blocks space given) inside f in
      part_headers g bs own c s n h is used opened.above mode next locks blocks space given stands vbn from to behind

  head_behind : IsFileNumber g p.file.num → (h : Hdr) → fields_told (header_block g bs p.file.num) ≡ Some h → (locks : List (LockName × Mode)) (blocks : List (ℕ × Block)) → StandsIn bs blocks → (o : Option Hdr) → used_in p.file.seq (header_block g bs p.file.num) ≡ o
      → Follows (if_file (refuses refusal.EndOfFile) (within g vbn (λ y. through_part g mode vbn y next)) (option_map (seen_file g p.file.num (header_block g bs p.file.num)) o)) locks blocks space given → IsFollowed g vbn h (header_block g bs p.file.num) blocks
  head_behind is h used locks blocks stands None e f = absurd (open_some g bs own c s node chan p opened is e)
  head_behind is h used locks blocks stands (Some k) e f =
      let same : k ≡ h = (let both : Some k ≡ Some h = sym (ap fields_in (used_reads p.file.seq (header_block g bs p.file.num) k e)) ∙ used in cc) in
      used_followed is h used locks blocks stands (subst (λ j. Follows (within g vbn (λ y. through_part g mode vbn y next) (seen_file g p.file.num (header_block g bs p.file.num) j)) locks blocks space given) same f)

  -- what was seen behind the file's lock and its first header
  open_followed : (locks : List (LockName × Mode)) (blocks : List (ℕ × Block)) → StandsIn bs blocks → Follows (through_open g p.file mode (refuses refusal.EndOfFile) (within g vbn (λ y. through_part g mode vbn y next))) locks blocks space given
      → HeadIsFollowed g vbn blocks
  open_followed locks blocks stands f = by_number (is_number g p.file) refl f where
    behind : Block → Events
    behind b = if_file (refuses refusal.EndOfFile) (within g vbn (λ y. through_part g mode vbn y next)) (option_map (seen_file g p.file.num b) (used_in p.file.seq b))

    by_head : (b : Block) → header_block g bs p.file.num ≡ b → IsFileNumber g p.file.num → (ls : List (LockName × Mode)) (xs : List (ℕ × Block)) → StandsIn bs xs → Follows (behind b) ls xs space given
        → (h : Hdr) → fields_told b ≡ Some h → IsFollowed g vbn h b xs
    by_head b at is ls xs stands f h used =
        subst (λ z. IsFollowed g vbn h z xs) at
        (head_behind is h (ap fields_told at ∙ used) ls xs stands (used_in p.file.seq (header_block g bs p.file.num)) refl (subst (λ z. Follows (behind z) ls xs space given) (sym at) f))

    by_locks : (ls : List (LockName × Mode)) (xs : List (ℕ × Block)) → IsFileNumber g p.file.num → StandsIn bs xs
        → Follows (Take (S p.file.num) mode (Look (S p.file.num) (header_place g p.file.num) behind)) ls xs space given → HeadIsFollowed g vbn xs
    by_locks [] xs is at f = subst (HeadIsFollowed g vbn) (sym f.0) tt
    by_locks (l ∷ ls) [] is at f = tt
    by_locks (l ∷ ls) (x ∷ xs) is at f = by_head x.1 (header_is g bs p.file.num x.0 x.1 f.1.0 at.0) is ls xs at.1 f.1.1

    by_number : (t : Bool) → is_number g p.file ≡ t
        → Follows (cond t (Take (S p.file.num) mode (Look (S p.file.num) (header_place g p.file.num) behind)) (refuses refusal.NoSuchFile)) locks blocks space given → HeadIsFollowed g vbn blocks
    by_number true e f = by_locks locks blocks (number_is g p.file e) stands f
    by_number false e f = subst (HeadIsFollowed g vbn) (sym f.1) tt

-- the channel has open what the command has seen of it
opened_by : (c : Cat) (node chan : ℕ) (p : Chan) → has_channel c node (Some chan) (Some p) ≡ true → HasOpen c node chan p
opened_by c node chan p known = open_as c node chan p (channel_at c node chan) refl known

pub read_followed : (x : Cmd) (chan vbn : ℕ) (seen : Seen) → x ≡ cmd.ReadBlock chan vbn → FitsSeen x seen → HeadIsFollowed seen.geometry vbn seen.blocks
unfolding events_of read_events
read_followed x chan vbn seen is fits = by_channel seen.channel f.order (both_hold (has_channel f.cat f.node (Some chan) seen.channel) _ f.on.known).0 where
  f : FitsSeen (cmd.ReadBlock chan vbn) seen
  f = subst (λ y. FitsSeen y seen) is fits

  by_channel : (o : Option Chan) → Follows (read_on seen.geometry o vbn) seen.locks seen.blocks (space_of seen) (HasNoSpace (space_of seen)) → has_channel f.cat f.node (Some chan) o ≡ true → HeadIsFollowed seen.geometry vbn seen.blocks
  by_channel None order known = subst (HeadIsFollowed seen.geometry vbn) (sym order.1) tt
  by_channel (Some p) order known =
      open_followed seen.geometry f.blocks f.own f.cat f.on.spelt f.node chan p (opened_by f.cat f.node chan p known) PR vbn (read_in vbn) (space_of seen) (HasNoSpace (space_of seen)) seen.locks seen.blocks f.on.stands order

pub write_followed : (x : Cmd) (chan vbn : ℕ) (text : List ℕ) (seen : Seen) → x ≡ cmd.WriteBlock chan vbn text → FitsSeen x seen → HeadIsFollowed seen.geometry vbn seen.blocks
unfolding events_of write_events
write_followed x chan vbn text seen is fits = by_channel seen.channel f.order (both_hold (has_channel f.cat f.node (Some chan) seen.channel) _ f.on.known).0 where
  f : FitsSeen (cmd.WriteBlock chan vbn text) seen
  f = subst (λ y. FitsSeen y seen) is fits

  by_reading : (p : Chan) → HasOpen f.cat f.node chan p → (t : Bool)
      → Follows (cond t (refuses refusal.NoPriv) (through_open seen.geometry p.file PW (refuses refusal.EndOfFile) (within seen.geometry vbn (λ y. through_part seen.geometry PW vbn y (write_in seen.geometry vbn text))))) seen.locks seen.blocks (space_of seen) (HasNoSpace (space_of seen))
      → HeadIsFollowed seen.geometry vbn seen.blocks
  by_reading p opened true order = subst (HeadIsFollowed seen.geometry vbn) (sym order.1) tt
  by_reading p opened false order =
      open_followed seen.geometry f.blocks f.own f.cat f.on.spelt f.node chan p opened PW vbn (write_in seen.geometry vbn text) (space_of seen) (HasNoSpace (space_of seen)) seen.locks seen.blocks f.on.stands order

  by_channel : (o : Option Chan) → Follows (write_on seen.geometry o vbn text) seen.locks seen.blocks (space_of seen) (HasNoSpace (space_of seen)) → has_channel f.cat f.node (Some chan) o ≡ true → HeadIsFollowed seen.geometry vbn seen.blocks
  by_channel None order known = subst (HeadIsFollowed seen.geometry vbn) (sym order.1) tt
  by_channel (Some p) order known = by_reading p (opened_by f.cat f.node chan p known) (is_reading p.mode) order

-- so it is where a STAT has looked at the header
pub stat_inside : (x : Cmd) (file : Fid) (bs : List Block) (seen : Seen) → x ≡ cmd.Stat file → FitsOn x seen bs → HeadIsInside seen.blocks
unfolding events_of stat_events
stat_inside x file bs seen is fits =
    let f = subst (λ (y : Cmd). FitsOn y seen bs) is fits in
    through_inside seen.geometry bs f.own f.cat f.on.spelt file PR _ seen.locks seen.blocks (space_of seen) (HasNoSpace (space_of seen)) f.on.stands f.order
