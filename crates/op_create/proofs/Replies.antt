-- The outcome of a command that makes a file: the refusals in their order, and what is made; and the stages on the way.
use Rattle.std.proofs.Common.{◌≡◌, ◌≤◌, ◌∙◌, ℕ, Bool, true, false, cond, List, [], ◌∷◌, ◌++◌, Option, Some, None, refl, ap, subst, arith}
use Rattle.std.specs.Prelude.{◌*◌, ◌+◌, nat_lt, is_none}
use Rattle.std.proofs.lemmas.Bool.Decides.{nat_tests}
use Rattle.plain_cat.specs.declared.entries.DirEnt.{DirEnt}
use Rattle.plain_cat.specs.declared.command.Cmd.{Cmd}
use Rattle.plain_cat.specs.declared.command.Cmd.TheVariants as cmd
use Rattle.plain_cat.specs.declared.history.Stage.{Stage}
use Rattle.plain_cat.specs.declared.history.Stage.TheVariants as stage
use Rattle.plain_cat.specs.declared.reply.Reply.TheVariants as reply
use Rattle.plain_cat.specs.declared.reply.Refusal.{Refusal}
use Rattle.plain_cat.specs.declared.reply.Refusal.TheVariants as refusal
use Rattle.plain_cat.specs.declared.cat.Cat.{Cat}
use Rattle.plain_cat.specs.declared.cat.File.{File}
use Rattle.plain_rules.specs.declared.outcome.Outcome.{Outcome}
use Rattle.plain_rules.specs.Lookups.{live, free_clusters}
use Rattle.plain_rules.specs.Directories.{inserted, entry}
use Rattle.plain_rules.specs.Changes.{new_fid, charged, with_file, with_entries}
use Rattle.plain_rules.specs.Answers.{refused, first_refusal, unless, in_directory_file, shown, made, create_outcome, create_refusal, mkdir_outcome, mkdir_refusal, outcome, IsPick, Answer}
use Rattle.plain_rules.specs.Stages.{making_stage, create_stage, mkdir_stage, command_stage, stage_of, staged}
use Rattle.plain_rules.proofs.LawSteps.{pick_exists}
use Rattle.vol_parts.specs.declared.geometry.Geometry.{Geometry}
use Rattle.vol_under.specs.UnderWay.{StandsAt}
use Rattle.op_law.specs.Moving.{is_full}
use Rattle.op_law.specs.Entering.{cost_of, quota_refusals}
use Rattle.op_law.proofs.Refusals.{first_stays, first_goes}
use Rattle.op_create.specs.Kinds.{IsMake}
use Rattle.op_create.proofs.Makers.{Maker, to_make, maker}
use Rattle.op_create.proofs.Forms.{file_of_seq}
use Rattle.op_law.proofs.Spaces.{IsShort}
use Rattle.vol_parts.proofs.Factors.{with_factor}

-- ---- the outcome

-- the refusals of the space
abbrev space_checks : Cat → ℕ → Option ℕ → List (Bool × Refusal)
space_checks c clusters new = (is_none new, refusal.IndexFull) ∷ (nat_lt (free_clusters c) clusters, refusal.DeviceFull) ∷ []

-- the file and the entry under a number
abbrev pub file_for : Cat → Maker → ℕ → File
file_for c m n = file_of_seq m (new_fid c n).seq

abbrev pub entry_at : Cat → Maker → List DirEnt → ℕ → DirEnt
entry_at c m es n = entry m.name (m.ver es) (new_fid c n)

abbrev pub made_by : Cat → Maker → File → ℕ → Outcome
made_by c m d n = made c m.dir.num d (entry_at c m d.entries n) (file_for c m n)

-- the catalogue with the new file, and the entry in its directory
abbrev pub lost_for : Geometry → Cat → Maker → ℕ → Cat
lost_for g c m n = with_file (charged c m.file.owner (cost_of g m.file)) n (file_for c m n)

abbrev pub after_for : Geometry → Cat → Maker → File → ℕ → Cat
after_for g c m d n = with_entries (lost_for g c m n) m.dir.num d (inserted (entry_at c m d.entries n) d.entries)

abbrev made_or_none : Cat → Maker → File → Option ℕ → Outcome
made_or_none c m d None = refused c refusal.IndexFull
made_or_none c m d (Some n) = made_by c m d n

abbrev checks : Geometry → Cat → Maker → File → Option ℕ → List (Bool × Refusal)
checks g c m d new = m.refusals d.entries ++ (quota_refusals g (to_make m d.entries) c.quota ++ space_checks c m.file.clusters new)

abbrev in_dir : Geometry → Cat → Maker → Option ℕ → File → Outcome
in_dir g c m new d = unless c (first_refusal (checks g c m d new)) (made_or_none c m d new)

outcome_by : (g : Geometry) (c : Cat) (node : ℕ) (x : Cmd) (is : IsMake x) (new : Option ℕ)
    → outcome c node x new ≡ in_directory_file c (live c (maker (with_factor g c.factor) x is).dir) (in_dir (with_factor g c.factor) c (maker (with_factor g c.factor) x is) new)
unfolding outcome create_outcome create_refusal mkdir_outcome mkdir_refusal is_full
outcome_by g c node (cmd.Create reg dir name ver blocks owner) is None = refl
outcome_by g c node (cmd.Create reg dir name ver blocks owner) is (Some n) = refl
outcome_by g c node (cmd.MkDir reg dir name owner) is None = refl
outcome_by g c node (cmd.MkDir reg dir name owner) is (Some n) = refl
outcome_by g c node other is new = absurd is

stage_by : (g : Geometry) (c : Cat) (node : ℕ) (x : Cmd) (is : IsMake x) (n : ℕ) (o : Outcome) (st : Stage) → command_stage c node x (Some n) o st ≡ making_stage c n (file_for c (maker (with_factor g c.factor) x is) n) o st
unfolding command_stage create_stage mkdir_stage
stage_by g c node (cmd.Create reg dir name ver blocks owner) is n o st = refl
stage_by g c node (cmd.MkDir reg dir name owner) is n o st = refl
stage_by g c node other is n o st = absurd is

module _ (g : Geometry) (c : Cat) (factor : c.factor ≡ g.cluster) (node : ℕ) (x : Cmd) (is : IsMake x) where
  abbrev m : Maker
  m = maker g x is

  outcome_is : (new : Option ℕ) → outcome c node x new ≡ in_directory_file c (live c m.dir) (in_dir g c m new)
  outcome_is new = outcome_by g c node x is new ∙ ap (λ w. in_directory_file c (live c (maker (with_factor g w) x is).dir) (in_dir (with_factor g w) c (maker (with_factor g w) x is) new)) factor

  -- the answer is this refusal
  abbrev pub Refuses : Refusal → Type 0
  Refuses r = Answer c node x (reply.Refused r) c

  refuses_by : (r : Refusal) (new : Option ℕ) → IsPick c new → outcome c node x new ≡ refused c r → Refuses r
  refuses_by r new pick e = (new, pick, e)

  -- whatever the number
  refuses_any : (r : Refusal) → ((new : Option ℕ) → outcome c node x new ≡ refused c r) → Refuses r
  refuses_any r e = let p = pick_exists c in refuses_by r p.0 p.1 (e p.0)

  pub refuses_none : live c m.dir ≡ None → Refuses refusal.NoSuchFile
  refuses_none e = refuses_any refusal.NoSuchFile (λ new. outcome_is new ∙ ap (λ o. in_directory_file c o (in_dir g c m new)) e)

  pub refuses_plain : (d : File) → live c m.dir ≡ Some d → d.dir ≡ false → Refuses refusal.NotDir
  refuses_plain d e plain = refuses_any refusal.NotDir (λ new. outcome_is new ∙ ap (λ o. in_directory_file c o (in_dir g c m new)) e ∙ ap (λ t. cond t (in_dir g c m new d) (refused c refusal.NotDir)) plain)

  module _ (d : File) (lives : live c m.dir ≡ Some d) (dir : d.dir ≡ true) where
    -- what the refusals come to
    comes_to : (new : Option ℕ) (o : Option Refusal) → first_refusal (checks g c m d new) ≡ o → outcome c node x new ≡ unless c o (made_or_none c m d new)
    comes_to new o e =
        outcome_is new ∙ ap (λ o. in_directory_file c o (in_dir g c m new)) lives ∙ ap (λ t. cond t (in_dir g c m new d) (refused c refusal.NotDir)) dir
        ∙ ap (λ o. unless c o (made_or_none c m d new)) e

    abbrev Shows : Option Refusal → Type 0
    Shows o = first_refusal (m.refusals d.entries) ≡ o

    abbrev PaidTo : Option Refusal → Type 0
    PaidTo o = first_refusal (quota_refusals g (to_make m d.entries) c.quota) ≡ o

    pub refuses_shown : (r : Refusal) → Shows (Some r) → Refuses r
    refuses_shown r e = refuses_any r (λ new. comes_to new (Some r) (first_stays (m.refusals d.entries) (quota_refusals g (to_make m d.entries) c.quota ++ space_checks c m.file.clusters new) r e))

    pub refuses_unpaid : Shows None → (r : Refusal) → PaidTo (Some r) → Refuses r
    refuses_unpaid order r e = refuses_any r (λ new. comes_to new (Some r)
        (first_goes (m.refusals d.entries) (quota_refusals g (to_make m d.entries) c.quota ++ space_checks c m.file.clusters new) order
        ∙ first_stays (quota_refusals g (to_make m d.entries) c.quota) (space_checks c m.file.clusters new) r e))

    -- the refusals of the space are the last
    last_checks : Shows None → PaidTo None → (new : Option ℕ) → first_refusal (checks g c m d new) ≡ first_refusal (space_checks c m.file.clusters new)
    last_checks order paid new =
        first_goes (m.refusals d.entries) (quota_refusals g (to_make m d.entries) c.quota ++ space_checks c m.file.clusters new) order
        ∙ first_goes (quota_refusals g (to_make m d.entries) c.quota) (space_checks c m.file.clusters new) paid

    pub refuses_short : Shows None → PaidTo None → (r : Refusal) → IsShort c m.file.clusters r → Refuses r
    refuses_short order paid refusal.IndexFull short = refuses_by refusal.IndexFull None short (comes_to None (Some refusal.IndexFull) (last_checks order paid None))
    refuses_short order paid refusal.DeviceFull short =
        refuses_by refusal.DeviceFull (Some short.0) short.1 (comes_to (Some short.0) (Some refusal.DeviceFull)
        (last_checks order paid (Some short.0) ∙ ap (λ t. cond t (Some refusal.DeviceFull) None) short.2))
    refuses_short order paid other short = absurd short

    module _ (order : Shows None) (paid : PaidTo None) (n : ℕ) (enough : m.file.clusters ≤ free_clusters c) (pick : IsPick c (Some n)) where
      makes : outcome c node x (Some n) ≡ made_by c m d n
      makes =
          let has : nat_lt (free_clusters c) m.file.clusters ≡ false = grind (arith, nat_tests) in
          comes_to (Some n) None (last_checks order paid (Some n) ∙ ap (λ t. cond t (Some refusal.DeviceFull) None) has)

      -- the catalogue behind it, by the geometry
      after_is : (made_by c m d n).after ≡ after_for g c m d n
      after_is = ap (λ w. with_entries (with_file (charged c m.file.owner (w * m.file.clusters + 1)) n (file_for c m n)) m.dir.num d (inserted (entry_at c m d.entries n) d.entries)) factor

      pub makes_answer : Answer c node x (shown (entry_at c m d.entries n)) (after_for g c m d n)
      makes_answer = subst (λ a. Answer c node x (shown (entry_at c m d.entries n)) a) after_is (Some n, pick, makes)

      -- the stages of the command
      stage_told : (st : Stage) → stage_of c node x (Some n) (outcome c node x (Some n)) st ≡ making_stage c n (file_for c m n) (made_by c m d n) st
      stage_told st =
          ap (λ o. stage_of c node x (Some n) o st) makes ∙ stage_by g c node x is n (made_by c m d n) st
          ∙ ap (λ w. making_stage c n (file_for c (maker (with_factor g w) x is) n) (made_by c m d n) st) factor

      pub stands_charged : StandsAt c node (Some x) stage.Charged (charged c m.file.owner (cost_of g m.file))
      unfolding staged
      stands_charged = (Some n, pick, stage_told stage.Charged ∙ ap (λ w. Some (charged c m.file.owner (w * m.file.clusters + 1))) factor)

      pub stands_lost : StandsAt c node (Some x) stage.Lost (lost_for g c m n)
      unfolding staged
      stands_lost = (Some n, pick, stage_told stage.Lost ∙ ap (λ w. Some (with_file (charged c m.file.owner (w * m.file.clusters + 1)) n (file_for c m n))) factor)

      pub stands_done : StandsAt c node (Some x) stage.Done (after_for g c m d n)
      unfolding staged
      stands_done = (Some n, pick, stage_told stage.Done ∙ ap (λ a. Some a) after_is)
