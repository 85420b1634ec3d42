-- What commands that make a file make, where the entries of the directory refuse nothing.
use Rattle.std.proofs.Common.{◌≡◌, ◌≤◌, ◌<◌, ◌+◌, ◌^◌, ◌∙◌, inl, inr, ℕ, true, false, cond, List, [], ◌∷◌, ◌++◌, None, length, drop, refl, sym, ap, arith}
use Rattle.std.specs.Prelude.{◌&&◌, leb}
use Rattle.std.specs.List.{list_all, prefix_len}
use Rattle.std.proofs.lemmas.Bool.{and_parts, leb-true}
use Rattle.std.proofs.lemmas.Bool.Decides.{nat_tests}
use Rattle.base_words.specs.Names.{is_character, is_part, is_tail, is_name}
use Rattle.plain_cat.specs.InForm.{is_dir_name, is_version, is_count, is_owner}
use Rattle.plain_cat.specs.declared.entries.DirEnt.{DirEnt}
use Rattle.plain_cat.specs.declared.command.Cmd.{Cmd}
use Rattle.plain_cat.specs.declared.command.Cmd.TheVariants as cmd
use Rattle.plain_cat.specs.declared.cat.File.{File}
use Rattle.plain_rules.specs.Lookups.{versions, header_most}
use Rattle.plain_rules.specs.Directories.{inserted, is_nil, fits, nowhere, entry, new_version, is_taken}
use Rattle.plain_rules.specs.Changes.{new_file}
use Rattle.plain_rules.specs.Answers.{first_refusal, dir_name}
use Rattle.vol_parts.specs.declared.geometry.Geometry.{Geometry}
use Rattle.op_law.specs.declared.seen.Seen.{Seen}
use Rattle.op_law.specs.Knows.{takes_space, clusters_wanted, wants_number}
use Rattle.op_law.specs.Writing.{clusters_for}
use Rattle.op_law.specs.Moving.{is_full}
use Rattle.op_law.specs.Entering.{create_refusals, mkdir_refusals}
use Rattle.op_steps.specs.FileWrites.{IsNewFile}
use Rattle.op_law.proofs.Refusals.{passed}
use Rattle.op_create.specs.Kinds.{IsMake}
use Rattle.op_create.proofs.Makers.{Maker, maker}
use Rattle.op_law.proofs.Versions.{version_from, version_to}
use Rattle.base_words.proofs.Listing.{behind_front}
use Rattle.base_words.proofs.Booleans.{not_false}

-- ---- the name of a new directory

all_front : (text tail : List ℕ) → list_all is_character text ≡ true → prefix_len is_character (text ++ 46 ∷ tail) ≡ length text
unfolding is_character
all_front [] tail e = refl
all_front (a ∷ text) tail e =
    let parts = and_parts (is_character a) (list_all is_character text) e in
    ap (λ t. cond t (1 + prefix_len is_character (text ++ 46 ∷ tail)) 0) parts.0 ∙ (let h = all_front text tail parts.1 in omega arith)

dir_named : (name : List ℕ) → is_dir_name name ≡ true → is_name (dir_name name) ≡ true
unfolding is_name is_part is_character
dir_named name e =
    let part = (and_parts (leb 1 (length name)) (is_part name) e).1 in
    let parts = and_parts (leb (length name) 39) (list_all is_character name) part in
    let tail : List ℕ = 46 ∷ 68 ∷ 73 ∷ 82 ∷ [] in
    ap (λ k. leb k 39 && is_tail (drop k (name ++ tail))) (all_front name (68 ∷ 73 ∷ 82 ∷ []) parts.1)
    ∙ ap (λ t. t && is_tail (drop (length name) (name ++ tail))) parts.0 ∙ ap is_tail (behind_front name tail)

-- ---- what is made

-- what is made is within the limits of the format, and goes into a directory with these entries
pub record IsInOrder (g : Geometry) (m : Maker) (es : List DirEnt) : Type 0 where
  pub few : m.file.clusters ≤ header_most
  pub owner : m.file.owner.0 < 2 ^ 32
  pub name : is_name m.name ≡ true
  pub ver_from : 1 ≤ m.ver es
  pub ver_to : m.ver es ≤ 32767
  pub new : is_taken (m.ver es) (versions m.name es) ≡ false
  pub room : fits g.cluster (inserted (entry m.name (m.ver es) nowhere) es) ≡ true

owner_low : (n : ℕ) → leb n 1073741823 ≡ true → n < 2 ^ 32
owner_low n e = let h = leb-true n 1073741823 e in omega arith

none_taken : (es : List DirEnt) → is_nil es ≡ true → is_taken 1 es ≡ false
none_taken [] e = refl
none_taken (x ∷ es) e = absurd (let f : false ≡ true = e in cc)

pub in_order : (g : Geometry) (x : Cmd) (is : IsMake x) (es : List DirEnt) → first_refusal ((maker g x is).refusals es) ≡ None → IsInOrder g (maker g x is) es
unfolding is_full
in_order g (cmd.Create reg dir name ver blocks owner) is es e =
    let a = and_parts (is_name name) (is_version ver && (is_count blocks && is_owner owner)) is in
    let b = and_parts (is_version ver) (is_count blocks && is_owner owner) a.1 in
    let o = and_parts (is_count blocks) (is_owner owner) b.1 in
    let p = passed (create_refusals g es name ver (clusters_for g blocks)) e in
    let low : (clusters_for g blocks) ≤ header_most = (let h = p.1.1.0 in grind (arith, nat_tests)) in
    record {
      few = low;
      owner = owner_low owner.0 o.1;
      name = a.0;
      ver_from = version_from ver (versions name es);
      ver_to = version_to ver (versions name es) (leb-true ver 32767 b.0) p.0;
      new = p.1.0;
      room = not_false (fits g.cluster (inserted (entry name (new_version ver (versions name es)) nowhere) es)) p.1.1.1.0;
    }
in_order g (cmd.MkDir reg dir name owner) is es e =
    let a = and_parts (is_dir_name name) (is_owner owner) is in
    let p = passed (mkdir_refusals g es (dir_name name)) e in
    record {
      few = omega arith;
      owner = owner_low owner.0 a.1;
      name = dir_named name a.0;
      ver_from = omega arith;
      ver_to = omega arith;
      new = none_taken (versions (dir_name name) es) (not_false (is_nil (versions (dir_name name) es)) p.0);
      room = not_false (fits g.cluster (inserted (entry (dir_name name) 1 nowhere) es)) p.1.0;
    }
in_order g other is es e = absurd is

-- ---- the space that is searched for

pub record IsWanted (seen : Seen) (x : Cmd) (m : Maker) : Type 0 where
  pub takes : takes_space x ≡ true
  pub clusters : m.file.clusters ≡ clusters_wanted seen.geometry.cluster x
  pub number : true ≡ wants_number seen x

pub is_wanted : (seen : Seen) (x : Cmd) (is : IsMake x) → IsWanted seen x (maker seen.geometry x is)
is_wanted seen (cmd.Create reg dir name ver blocks owner) is = record { takes = refl; clusters = refl; number = refl }
is_wanted seen (cmd.MkDir reg dir name owner) is = record { takes = refl; clusters = refl; number = refl }
is_wanted seen other is = absurd is

-- ---- the new file

-- the file that is made, under the sequence of its number
abbrev pub file_of_seq : Maker → ℕ → File
file_of_seq m seq = record m.file { seq = seq }

pub is_new : (g : Geometry) (x : Cmd) (is : IsMake x) (seq k : ℕ) → k ≡ (maker g x is).file.clusters → IsNewFile g (file_of_seq (maker g x is) seq) k
is_new g (cmd.Create reg dir name ver blocks owner) is seq k e = inl (ap (λ n. new_file seq owner n) (sym e))
is_new g (cmd.MkDir reg dir name owner) is seq k e = inr (refl, e)
is_new g other is seq k e = absurd is
