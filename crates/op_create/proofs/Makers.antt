-- What a command makes: the entry and the file, and the refusals that the entries of its directory show.
use Rattle.std.proofs.Common.{◌≡◌, ℕ, Bool, List, Option, refl}
use Rattle.plain_cat.specs.declared.ids.Fid.{Fid}
use Rattle.plain_cat.specs.declared.ids.Uic.{Uic}
use Rattle.plain_cat.specs.declared.entries.DirEnt.{DirEnt}
use Rattle.plain_cat.specs.declared.command.Cmd.{Cmd}
use Rattle.plain_cat.specs.declared.command.Cmd.TheVariants as cmd
use Rattle.plain_cat.specs.declared.reply.Refusal.{Refusal}
use Rattle.plain_cat.specs.declared.cat.File.{File}
use Rattle.plain_rules.specs.Lookups.{versions}
use Rattle.plain_rules.specs.Directories.{new_version}
use Rattle.plain_rules.specs.Changes.{new_file, new_dir}
use Rattle.plain_rules.specs.Answers.{first_refusal, dir_name}
use Rattle.vol_parts.specs.declared.geometry.Geometry.{Geometry}
use Rattle.op_law.specs.declared.seen.Chan.{Chan}
use Rattle.op_law.specs.Events.{Events}
use Rattle.op_law.specs.Refusing.{unless_refused}
use Rattle.op_law.specs.Writing.{clusters_for}
use Rattle.op_law.specs.Moving.{entries_of, through_names}
use Rattle.op_law.specs.Entering.{NewEntry, making_events, create_refusals, create_events, mkdir_refusals, mkdir_events}
use Rattle.op_law.specs.Needs.{events_of}
use Rattle.op_create.specs.Kinds.{IsMake}

-- the directory, the name, the version by the entries there, the file, of which the sequence is still to come, and the refusals
-- that those entries show
pub record Maker : Type 0 where
  pub dir : Fid
  pub name : List ℕ
  pub ver : List DirEnt → ℕ
  pub file : File
  pub refusals : List DirEnt → List (Bool × Refusal)

abbrev pub to_make : Maker → List DirEnt → NewEntry
to_make m es = record { name = m.name; ver = m.ver es; file = m.file }

abbrev pub maker_events : Geometry → Maker → Events
maker_events g m = through_names g m.dir (λ d. unless_refused (first_refusal (m.refusals (entries_of d))) (making_events g d (to_make m (entries_of d))))

abbrev pub creates : Geometry → Fid → List ℕ → ℕ → ℕ → Uic → Maker
creates g dir name ver blocks owner = record {
  dir = dir;
  name = name;
  ver = λ es. new_version ver (versions name es);
  file = new_file 0 owner (clusters_for g blocks);
  refusals = λ es. create_refusals g es name ver (clusters_for g blocks);
}

abbrev pub makes_dir : Geometry → Fid → List ℕ → Uic → Maker
makes_dir g dir name owner = record {
  dir = dir;
  name = dir_name name;
  ver = λ es. 1;
  file = new_dir 0 owner g.cluster;
  refusals = λ es. mkdir_refusals g es (dir_name name);
}

abbrev pub maker : Geometry → (x : Cmd) → IsMake x → Maker
maker g (cmd.Create reg dir name ver blocks owner) is = creates g dir name ver blocks owner
maker g (cmd.MkDir reg dir name owner) is = makes_dir g dir name owner
maker g other is = absurd is

-- the events of a command that makes a file
pub events_are : (x : Cmd) (is : IsMake x) (g : Geometry) (channel : Option Chan) → events_of g channel x ≡ maker_events g (maker g x is)
unfolding events_of create_events mkdir_events
events_are (cmd.Create reg dir name ver blocks owner) is g channel = refl
events_are (cmd.MkDir reg dir name owner) is g channel = refl
events_are other is g channel = absurd is
