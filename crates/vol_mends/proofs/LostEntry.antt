-- The entry of a lost file, which is within the limits of the format and new to [SYSLOST].
use Rattle.std.proofs.Common.{◌≡◌, ◌∙◌, ◌<◌, ◌+◌, ◌-◌, ◌/◌, ◌%◌, ◌^◌, ℕ, Bool, true, false, cond, List, [], ◌∷◌, ◌++◌, Some, is_some, length, drop, get_or, refl, sym, ap, subst, arith}
use Rattle.std.specs.Prelude.{◌==◌, ◌&&◌, ◌||◌, not, leb}
use Rattle.std.specs.List.{list_all, prefix_len}
use Rattle.std.specs.Str.{bytes_eq}
use Rattle.std.proofs.lemmas.Bool.{and_parts, le-leb}
use Rattle.std.proofs.lemmas.Option.{slice_get-get_or, slice_get_within}
use Rattle.base_words.specs.Fields.{Block, IsWholeBlock, field}
use Rattle.base_words.specs.Names.{is_character, is_part, is_tail, is_name}
use Rattle.base_words.proofs.Puts.{field-lt}
use Rattle.fx_header.specs.Headers.{header_read}
use Rattle.fx_header.proofs.SoundLemmas.{reads-sound}
use Rattle.fx_header.proofs.SetterLemmas.{tells-of}
use Rattle.plain_cat.specs.declared.cat.Cat.{Cat}
use Rattle.plain_cat.specs.declared.cat.File.{File}
use Rattle.plain_cat.specs.declared.cat.Slot.TheVariants as slot
use Rattle.plain_cat.specs.declared.entries.DirEnt.{DirEnt}
use Rattle.plain_rules.specs.Lookups.{file_at, versions, highest, first_with}
use Rattle.plain_rules.specs.Directories.{is_entry, is_taken}
use Rattle.plain_rules.specs.Mending.{digit, lost_name}
use Rattle.plain_rules.specs.OneForm.{rises, HasOrder}
use Rattle.plain_rules.proofs.Ordered.{is_absent, next_absent}
use Rattle.vol_spell.specs.declared.owner.Owner.TheVariants.{InFile}
use Rattle.vol_spell.specs.Owners.{Owners}
use Rattle.vol_parts.specs.declared.geometry.Geometry.{Geometry}
use Rattle.vol_parts.specs.declared.geometry.Part.TheVariants.{Header}
use Rattle.vol_parts.proofs.Alone.{first-is}
use Rattle.vol_spell.specs.Reading.{IsFileNumber, header_place, header_block, head_told, told_of, body_blocks}
use Rattle.vol_spell.specs.Spelling.{Spells}
use Rattle.vol_spell.proofs.Parts.{part_owned}
use Rattle.vol_spell.proofs.Frames.{on_volume}
use Rattle.vol_spell.proofs.Forms.{spelt_form}
use Rattle.vol_mends.proofs.Tests.{tells_file}
use Rattle.vol_spell.proofs.EntryDirs.{used_at}

-- ---- the name

front_of : (text tail : List ℕ) → list_all is_character text ≡ true → is_character 46 ≡ false → prefix_len is_character (text ++ 46 ∷ tail) ≡ length text
front_of [] tail e dot = ap (λ t. cond t (1 + prefix_len is_character tail) 0) dot
front_of (a ∷ text) tail e dot =
    let parts = and_parts (is_character a) (list_all is_character text) e in
    ap (λ t. cond t (1 + prefix_len is_character (text ++ 46 ∷ tail)) 0) parts.0 ∙ (let h = front_of text tail parts.1 dot in omega (arith, h))

either_way : (a x : Bool) → (a || true) || x ≡ true
either_way true x = refl
either_way false x = refl

digit_fits : (n unit : ℕ) → is_character (digit n unit) ≡ true
unfolding is_character
digit_fits n unit =
    let c : ℕ = digit n unit in
    let high : n / unit % 10 < 10 = omega arith in
    let low : leb 48 (digit n unit) ≡ true = le-leb 48 (digit n unit) (omega arith) in
    let up : leb (digit n unit) 57 ≡ true = le-leb (digit n unit) 57 (omega (arith, high)) in
    let others : Bool = c == 36 || (c == 95 || c == 45) in
    ap (λ t. ((leb 65 c && leb c 90) || (t && leb c 57)) || others) low
    ∙ (ap (λ t. ((leb 65 c && leb c 90) || t) || others) up ∙ either_way (leb 65 c && leb c 90) others)

both_so : (a b : Bool) → a ≡ true → b ≡ true → a && b ≡ true
both_so a b x y = ap (λ t. t && b) x ∙ y

pub lost_named : (n : ℕ) → is_name (lost_name n) ≡ true
unfolding is_name lost_name is_part is_character
lost_named n =
    let text : List ℕ = 70 ∷ digit n 10000 ∷ digit n 1000 ∷ digit n 100 ∷ digit n 10 ∷ digit n 1 ∷ [] in
    let tail : List ℕ = 46 ∷ 76 ∷ 83 ∷ 84 ∷ [] in
    let front : prefix_len is_character (text ++ tail) ≡ 6 = front_of text (76 ∷ 83 ∷ 84 ∷ []) (all n) dot in
    ap (λ k. leb k 39 && is_tail (drop k (text ++ tail))) front ∙ last
  where
    all : (n : ℕ) → list_all is_character (70 ∷ digit n 10000 ∷ digit n 1000 ∷ digit n 100 ∷ digit n 10 ∷ digit n 1 ∷ []) ≡ true
    all n =
        both_so true _ refl (both_so (is_character (digit n 10000)) _ (digit_fits n 10000) (both_so (is_character (digit n 1000)) _ (digit_fits n 1000)
        (both_so (is_character (digit n 100)) _ (digit_fits n 100) (both_so (is_character (digit n 10)) _ (digit_fits n 10) (both_so (is_character (digit n 1)) true (digit_fits n 1) refl)))))

    dot : is_character 46 ≡ false
    dot = refl

    last : leb 6 39 && is_tail (46 ∷ 76 ∷ 83 ∷ 84 ∷ []) ≡ true
    last = refl

-- ---- the version

absent_untaken : (name : List ℕ) (ver : ℕ) (es : List DirEnt) → is_absent name ver es ≡ true → is_taken ver (versions name es) ≡ false
unfolding is_entry
absent_untaken name ver [] h = refl
absent_untaken name ver (e ∷ es) h =
    by_name (bytes_eq e.name name) (and_parts (not (bytes_eq e.name name && (e.ver == ver))) (is_absent name ver es) h).0
    (absent_untaken name ver es (and_parts (not (bytes_eq e.name name && (e.ver == ver))) (is_absent name ver es) h).1)
  where
    by_version : (b : Bool) → not b ≡ true → is_taken ver (versions name es) ≡ false → is_some (cond b (Some e) (first_with ver (versions name es))) ≡ false
    by_version true k more = absurd (cc k)
    by_version false k more = more

    by_name : (b : Bool) → not (b && (e.ver == ver)) ≡ true → is_taken ver (versions name es) ≡ false → is_taken ver (cond b (e ∷ versions name es) (versions name es)) ≡ false
    by_name true k more = by_version (e.ver == ver) k more
    by_name false k more = more

-- the entries of a directory are in order
ordered : (g : Geometry) (bs : List Block) (own : Owners) (c : Cat) → Spells g bs own c → length c.opens ≡ 64 → (n : ℕ) (d : File) → file_at c n ≡ Some d → rises d.entries ≡ true
ordered g bs own c s opens n d at =
    let here = used_at c n d at in
    let lt = slice_get_within c.files (n - 1) (slot.Used d) here in
    let both : Some (get_or c.files (n - 1) (slot.Free 0)) ≡ Some (slot.Used d) = sym (slice_get-get_or c.files (n - 1) (slot.Free 0) lt) ∙ here in
    let same : get_or c.files (n - 1) (slot.Free 0) ≡ slot.Used d = cc both in
    subst HasOrder same ((spelt_form g bs own c s opens).entries (n - 1) (slot.Free 0) lt)

-- one more than the highest version is new
pub next_is_new : (g : Geometry) (bs : List Block) (own : Owners) (c : Cat) → Spells g bs own c → length c.opens ≡ 64 → (n : ℕ) (d : File) → file_at c n ≡ Some d → (name : List ℕ)
    → is_taken (highest (versions name d.entries) + 1) (versions name d.entries) ≡ false
next_is_new g bs own c s opens n d at name =
    absent_untaken name (highest (versions name d.entries) + 1) d.entries (next_absent name d.entries (ordered g bs own c s opens n d at))

-- ---- the sequence

-- the sequence of a file fits its field
pub seq_fits : (g : Geometry) (bs : List Block) (own : Owners) (c : Cat) → Spells g bs own c → (n : ℕ) (f : File) → IsFileNumber g n → file_at c n ≡ Some f → f.seq < 2 ^ 16
seq_fits g bs own c s n f is at =
    let b : Block = header_block g bs n in
    let tells = s.files n (slot.Used f) is (used_at c n f at) in
    let file = tells_file g.cluster n (head_told b) (body_blocks bs n (told_of g bs n)) f tells.slot in
    let reads = (first-is (header_read b) file.hdr file.at).0 in
    let len = on_volume g bs own c s (header_place g n) (InFile 1) (part_owned g bs own c s (Header n) is) in
    let whole : IsWholeBlock b = s.whole (header_place g n) b (slice_get-get_or bs (header_place g n) [] len) in
    let t = tells-of b file.hdr (reads-sound b file.hdr reads).fields in
    let lt : field b 10 2 < 256 ^ 2 = field-lt b 10 2 whole.bytes in
    let same : file.hdr.seq ≡ f.seq = ap (λ (x : File). x.seq) file.is in
    omega (arith, t.seq, lt, same)
