-- How many blocks a file has.
use Rattle.std.proofs.Common.{◌≡◌, ◌∙◌, ◌+◌, ◌*◌, ◌/◌, ◌<◌, ◌≤◌, ◌==◌, ◌&&◌, not, ℕ, true, List, [], ◌∷◌, length, map, get_or, take, All, Result, Ok, Option, Some, None, refl, sym, ap, arith}
use Rattle.std.specs.List.{range_with_len, sum_by}
use Rattle.std.proofs.lemmas.Bool.{and_parts, eqb-true}
use Rattle.std.proofs.lemmas.List.{length-map}
use Rattle.std.proofs.lemmas.List.FromFn.{length-range_with_len, get_or-range_with_len, length-map-range_with_len, take-map-range_with_len}
use Rattle.std.proofs.lemmas.List.Elements.{All-from_get_or, All-map}
use Rattle.std.proofs.lemmas.List.Sums.{sum_by-cons, sum_by-le}
use Rattle.std.proofs.Math.Nat.{div-le_self}
use Rattle.base_words.specs.Fields.{Block}
use Rattle.fx_header.specs.declared.run.Run.{Run}
use Rattle.fx_header.specs.declared.slot.Slot.{Slot}
use Rattle.fx_header.specs.declared.slot.Slot.TheVariants.{Used}
use Rattle.fx_header.specs.declared.slot.Hdr.{Hdr}
use Rattle.fx_header.specs.declared.slot.HeaderFault.{HeaderFault}
use Rattle.fx_header.specs.Pointers.{blocks_in, lbns_in}
use Rattle.fx_header.specs.Headers.{runs_in}
use Rattle.fx_header.proofs.PointerLemmas.{length-runs_in}
use Rattle.plain_cat.specs.declared.cat.Slot.{Slot as File}
use Rattle.plain_rules.specs.Lookups.{clusters_in}
use Rattle.vol_parts.specs.Catalogues.{slot_with, slot_of, files_of}
use Rattle.vol_parts.specs.Conditions.{HasSystemFiles, HasRunsInside, HasAllRunsInside}
use Rattle.vol_parts.specs.Fatal.{is_one_header, has_one_header, is_system_header, are_stated, stated_clusters, is_system_file}
use Rattle.vol_parts.specs.Volumes.{Volume, factor, block_at, head, header_lbn, header_at, first_head, fields, Told, told, runs, body}
use Rattle.vol_parts.proofs.Headers.{head-stands}
use Rattle.vol_parts.proofs.Alone.{first-is, first-says, one_told, none_told}
pub use Rattle.vol_parts.proofs.Runs.{length-lbns_in}
use Rattle.vol_parts.proofs.Runs.{Inside, inside-first, inside-others}

pub fields-head : (v : Volume) (n : ℕ) (f : Hdr) → fields v n ≡ Some f → head v n ≡ Ok (Used f)
fields-head v n f e = (first-is (head v n) f e).0

pub length-body : (v : Volume) (n : ℕ) → length (body v n) ≡ blocks_in (runs v n)
unfolding body
length-body v n = length-map (lbns_in (runs v n)) (block_at v) ∙ length-lbns_in (runs v n)

-- a file with one header has the runs that this lists
pub runs-used : (v : Volume) (n : ℕ) (f : Hdr) → fields v n ≡ Some f → is_one_header f (told v n) ≡ true → runs v n ≡ runs_in (header_at v n)
unfolding runs
runs-used v n f e one = ap (λ (t : Told). t.runs) (one_told v n f e one)

pub runs-none : (v : Volume) (n : ℕ) → fields v n ≡ None → runs v n ≡ []
unfolding runs
runs-none v n e = ap (λ (t : Told). t.runs) (none_told v n e)

-- and as many as the header says
pub blocks-size : (v : Volume) (n : ℕ) (f : Hdr) → is_one_header f (told v n) ≡ true → f.blocks ≡ length (body v n)
unfolding runs
blocks-size v n f one =
    let parts = and_parts (f.ext == 0) (not (told v n).surplus && (blocks_in (told v n).runs == f.blocks)) one in
    let count = and_parts (not (told v n).surplus) (blocks_in (told v n).runs == f.blocks) parts.1 in
    sym (length-body v n ∙ eqb-true _ _ count.1)

-- a file with one header is in use
pub record IsOneFile (v : Volume) (n : ℕ) : Type 0 where
  pub first : Hdr
  pub is : fields v n ≡ Some first
  pub one : is_one_header first (told v n) ≡ true

pub one-file : (v : Volume) (n : ℕ) → has_one_header (fields v n) (told v n) ≡ true → IsOneFile v n
one-file v n one = by_fields (fields v n) refl one where
  by_fields : (o : Option Hdr) → fields v n ≡ o → has_one_header o (told v n) ≡ true → IsOneFile v n
  by_fields (Some f) e one = record { first = f; is = e; one = one }
  by_fields None e one = absurd (cc)

-- and so has each system file
pub system-one : (v : Volume) (n : ℕ) → is_system_file v n ≡ true → has_one_header (fields v n) (told v n) ≡ true
unfolding is_system_file
system-one v n is =
    let parts = and_parts (is_system_header n (fields v n)) (has_one_header (fields v n) (told v n) && are_stated v n (stated_clusters v n) (runs v n)) is in
    (and_parts (has_one_header (fields v n) (told v n)) (are_stated v n (stated_clusters v n) (runs v n)) parts.1).0

pub none-size : (v : Volume) (n : ℕ) → fields v n ≡ None → 0 ≡ length (body v n)
none-size v n e = sym (length-body v n ∙ ap blocks_in (runs-none v n e))

-- ---- a file has at most 512 runs of at most 65,536 blocks

-- each of its blocks has 512 bytes
abbrev pub AreBlocks : List Block → Type 0
AreBlocks bs = (i : ℕ) → i < length bs → length (get_or bs i []) ≡ 512

few-blocks : (v : Volume) (rs : List Run) → length v.blocks ≤ 65536 → Inside v rs → blocks_in rs ≤ 65536 * length rs
few-blocks v [] small inside = omega arith
few-blocks v (r ∷ rs) small inside =
    let first = inside-first v r rs inside in
    let others = few-blocks v rs small (inside-others v r rs inside) in
    rw (sum_by-cons (λ (s : Run). s.count) r rs) (omega arith)

few-runs : (v : Volume) (n : ℕ) → IsOneFile v n → AreBlocks v.blocks → length (runs v n) ≤ 512
few-runs v n file sized =
    let s = head-stands v n file.first (fields-head v n file.first file.is) in
    rw (runs-used v n file.first file.is file.one) (length-runs_in (header_at v n) (sized (header_lbn v n) s.inside))

pub body-few : (v : Volume) (n : ℕ) → IsOneFile v n → length v.blocks ≤ 65536 → AreBlocks v.blocks → Inside v (runs v n) → length (body v n) ≤ 33554432
body-few v n file small sized inside =
    let few = few-runs v n file sized in
    let blocks = few-blocks v (runs v n) small inside in
    rw (length-body v n) (omega arith)

-- so it has as few clusters
slot-few : (v : Volume) (n : ℕ) → IsOneFile v n → length v.blocks ≤ 65536 → AreBlocks v.blocks → HasRunsInside v n → clusters_in (slot_of v n) ≤ 33554432
unfolding slot_of
slot-few v n file small sized inside =
    let f = file.first in
    let same : f.blocks ≡ length (body v n) = blocks-size v n f file.one in
    let few = body-few v n file small sized inside.inside in
    let less : f.blocks / factor v ≤ f.blocks = div-le_self f.blocks (factor v) in
    rw (first-says v n f file.is).0 (omega arith)

-- what a slot has, by what it says of a file
pub slot-read : (v : Volume) (n : ℕ) (r : Result Slot HeaderFault) → first_head v n ≡ r → slot_of v n ≡ slot_with (factor v) n r (body v n)
unfolding slot_of
slot-read v n r e = ap (λ x. slot_with (factor v) n x (body v n)) e

pub length-files_of : (v : Volume) → length (files_of v) ≡ v.home.files
unfolding files_of
length-files_of v = length-map-range_with_len (slot_of v) 1 v.home.files

-- and the first eleven files have few together
pub reserved-few : (v : Volume) → 11 ≤ v.home.files → length v.blocks ≤ 65536 → AreBlocks v.blocks → HasSystemFiles v → HasAllRunsInside v
    → sum_by clusters_in (take 11 (files_of v)) < 4294967296
unfolding files_of
reserved-few v many small sized systems inside =
    let first : List File = map (slot_of v) (range_with_len 1 11) in
    let front : take 11 (files_of v) ≡ first = take-map-range_with_len (slot_of v) 1 v.home.files 11 many in
    let all : All (λ n. clusters_in (slot_of v n) ≤ 33554432) (range_with_len 1 11) =
    All-from_get_or (λ n. clusters_in (slot_of v n) ≤ 33554432) (range_with_len 1 11) 0 (λ i h.
    let below : i < 11 = omega (arith, length-range_with_len 1 11) in
    let place = get_or-range_with_len 1 11 i 0 below in
    let file = one-file v (1 + i) (system-one v (1 + i) (systems.sound (1 + i) (omega arith) (omega arith))) in
    rw place (slot-few v (1 + i) file small sized (inside.inside (1 + i) (record { from = omega arith; to = omega arith })))) in
    let each = All-map (λ s. clusters_in s ≤ 33554432) (slot_of v) (range_with_len 1 11) all in
    let sum = sum_by-le clusters_in 33554432 first each in
    let count = length-map-range_with_len (slot_of v) 1 11 in
    rw front (omega arith)
