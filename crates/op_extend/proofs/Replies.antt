-- The outcome of EXTEND: the refusals in their order, and the file that is grown; and the stages on the way.
use Rattle.std.proofs.Common.{◌≡◌, ◌≤◌, ◌∙◌, ℕ, Bool, true, false, cond, List, [], ◌∷◌, ◌++◌, Option, Some, None, refl, sym, ap, subst, arith}
use Rattle.std.specs.Prelude.{◌*◌, ◌+◌, ◌-◌, ◌/◌, ◌&&◌, ◌||◌, nat_lt, is_none}
use Rattle.std.proofs.lemmas.Bool.Decides.{nat_tests}
use Rattle.plain_cat.specs.declared.ids.Fid.{Fid}
use Rattle.plain_cat.specs.declared.command.Cmd.{Cmd}
use Rattle.plain_cat.specs.declared.command.Cmd.TheVariants as cmd
use Rattle.plain_cat.specs.declared.history.Stage.{Stage}
use Rattle.plain_cat.specs.declared.history.Stage.TheVariants as stage
use Rattle.plain_cat.specs.declared.reply.Reply.TheVariants as reply
use Rattle.plain_cat.specs.declared.reply.Refusal.{Refusal}
use Rattle.plain_cat.specs.declared.reply.Refusal.TheVariants as refusal
use Rattle.plain_cat.specs.declared.cat.Cat.{Cat}
use Rattle.plain_cat.specs.declared.cat.File.{File}
use Rattle.plain_rules.specs.declared.outcome.Outcome.{Outcome}
use Rattle.plain_rules.specs.Lookups.{live, row_of, free_clusters, header_most, file_most, needs_header}
use Rattle.plain_rules.specs.Changes.{charged, with_file, grown}
use Rattle.plain_rules.specs.Answers.{refused, first_refusal, unless, is_kept, over_draft, extend_refusal, extend_of, extend_outcome, outcome, IsPick, Answer}
use Rattle.plain_rules.specs.Stages.{extend_stage, command_stage, stage_of, staged}
use Rattle.plain_rules.proofs.LawSteps.{pick_exists}
use Rattle.vol_parts.specs.declared.geometry.Geometry.{Geometry}
use Rattle.vol_under.specs.UnderWay.{StandsAt}
use Rattle.op_law.specs.Events.{has_number}
use Rattle.op_law.specs.Knows.{is_short}
use Rattle.op_law.specs.Sizes.{size_shown}
use Rattle.op_law.specs.Writing.{clusters_for}
use Rattle.op_law.proofs.Refusals.{passed, first_stays, first_goes}
use Rattle.op_law.proofs.Spaces.{IsShort, space_refused, clusters_refused}

-- the refusals that the header shows, and those of the quota rows
abbrev pub head_checks : ℕ → File → ℕ → List (Bool × Refusal)
head_checks n f k = (is_kept n f, refusal.NoPriv) ∷ (nat_lt header_most k || nat_lt file_most (f.clusters + k), refusal.FileLimit) ∷ []

abbrev pub draft_checks : Geometry → Cat → File → ℕ → List (Bool × Refusal)
draft_checks g c f k = (over_draft (row_of f.owner c.quota) (g.cluster * k), refusal.ExQuota) ∷ []

abbrev space_checks : Cat → File → ℕ → Option ℕ → List (Bool × Refusal)
space_checks c f k new = (needs_header f.clusters k && is_none new, refusal.IndexFull) ∷ (nat_lt (free_clusters c) k, refusal.DeviceFull) ∷ []

abbrev checks : Geometry → Cat → ℕ → File → ℕ → Option ℕ → List (Bool × Refusal)
checks g c n f k new = head_checks n f k ++ (draft_checks g c f k ++ space_checks c f k new)

-- behind the refusals that the header shows, the new clusters are within one header, and all within a file
pub record IsWithin (f : File) (k : ℕ) : Type 0 where
  pub growth : k ≤ header_most
  pub file : f.clusters + k ≤ file_most

pub within : (n : ℕ) (f : File) (k : ℕ) → first_refusal (head_checks n f k) ≡ None → IsWithin f k
within n f k order = by_tests (nat_lt header_most k) (nat_lt file_most (f.clusters + k)) refl refl (passed (head_checks n f k) order).1.0 where
  by_tests : (a b : Bool) → nat_lt header_most k ≡ a → nat_lt file_most (f.clusters + k) ≡ b → (a || b) ≡ false → IsWithin f k
  by_tests true b p q e = absurd (let z : true ≡ false = e in cc)
  by_tests false true p q e = absurd (let z : true ≡ false = e in cc)
  by_tests false false p q e = record { growth = grind (arith, nat_tests); file = grind (arith, nat_tests) }

-- the catalogue with the charge, and with the grown file
abbrev pub charged_for : Geometry → Cat → File → ℕ → Cat
charged_for g c f k = charged c f.owner (g.cluster * k)

abbrev pub after_for : Geometry → Cat → ℕ → File → ℕ → Cat
after_for g c n f k = with_file (charged_for g c f k) n (grown c f k)

module _ (g : Geometry) (c : Cat) (factor : c.factor ≡ g.cluster) (node : ℕ) (file : Fid) (blocks : ℕ) where
  abbrev x : Cmd
  x = cmd.Extend file blocks

  abbrev k : ℕ
  k = clusters_for g blocks

  -- the outcome where a volume has so many blocks in a cluster
  abbrev by_factor : Option ℕ → File → ℕ → Outcome
  by_factor new f w = let j = (blocks + (w - 1)) / w in
      unless c (first_refusal ((is_kept file.num f, refusal.NoPriv) ∷ (nat_lt header_most j || nat_lt file_most (f.clusters + j), refusal.FileLimit) ∷ (over_draft (row_of f.owner c.quota) (w * j), refusal.ExQuota)
      ∷ (needs_header f.clusters j && is_none new, refusal.IndexFull) ∷ (nat_lt (free_clusters c) j, refusal.DeviceFull) ∷ []))
      (record { reply = reply.Size (w * (f.clusters + j)); after = with_file (charged c f.owner (w * j)) file.num (grown c f j) })

  outcome_by : (new : Option ℕ) (o : Option File) → live c file ≡ o → outcome c node (cmd.Extend file blocks) new ≡ extend_of c file.num o blocks new
  unfolding outcome extend_outcome
  outcome_by new o e = ap (λ y. extend_of c file.num y blocks new) e

  outcome_is : (new : Option ℕ) (f : File) → live c file ≡ Some f → outcome c node (cmd.Extend file blocks) new ≡ by_factor new f g.cluster
  unfolding extend_refusal
  outcome_is new f lives = outcome_by new (Some f) lives ∙ ap (by_factor new f) factor

  -- the answer is this refusal
  abbrev pub Refuses : Refusal → Type 0
  Refuses r = Answer c node (cmd.Extend file blocks) (reply.Refused r) c

  refuses_any : (r : Refusal) → ((new : Option ℕ) → outcome c node (cmd.Extend file blocks) new ≡ refused c r) → Refuses r
  refuses_any r e = let p = pick_exists c in (p.0, p.1, e p.0)

  pub refuses_none : live c file ≡ None → Refuses refusal.NoSuchFile
  refuses_none e = refuses_any refusal.NoSuchFile (λ new. outcome_by new None e)

  module _ (f : File) (lives : live c file ≡ Some f) where
    grown_by : Outcome
    grown_by = record { reply = size_shown g (f.clusters + k); after = after_for g c file.num f k }

    -- what the refusals come to
    comes_to : (new : Option ℕ) (o : Option Refusal) → first_refusal (checks g c file.num f k new) ≡ o → outcome c node (cmd.Extend file blocks) new ≡ unless c o (record { reply = size_shown g (f.clusters + k); after = after_for g c file.num f k })
    comes_to new o e = outcome_is new f lives ∙ ap (λ y. unless c y (record { reply = size_shown g (f.clusters + k); after = after_for g c file.num f k })) e

    abbrev Shows : Option Refusal → Type 0
    Shows o = first_refusal (head_checks file.num f k) ≡ o

    abbrev PaidTo : Option Refusal → Type 0
    PaidTo o = first_refusal (draft_checks g c f k) ≡ o

    pub refuses_shown : (r : Refusal) → Shows (Some r) → Refuses r
    refuses_shown r e = refuses_any r (λ new. comes_to new (Some r) (first_stays (head_checks file.num f k) (draft_checks g c f k ++ space_checks c f k new) r e))

    pub refuses_unpaid : Shows None → (r : Refusal) → PaidTo (Some r) → Refuses r
    refuses_unpaid order r e = refuses_any r (λ new. comes_to new (Some r)
        (first_goes (head_checks file.num f k) (draft_checks g c f k ++ space_checks c f k new) order ∙ first_stays (draft_checks g c f k) (space_checks c f k new) r e))

    -- a number suits the command if it is one where a new header is needed
    abbrev pub Suits : Option ℕ → Type 0
    Suits new = (needs_header f.clusters k && is_none new) ≡ false

    -- the refusals of the space are the last
    last_checks : (new : Option ℕ) → Shows None → PaidTo None → first_refusal (checks g c file.num f k new) ≡ first_refusal (space_checks c f k new)
    last_checks new order paid =
        first_goes (head_checks file.num f k) (draft_checks g c f k ++ space_checks c f k new) order ∙ first_goes (draft_checks g c f k) (space_checks c f k new) paid

    last_check : (new : Option ℕ) → Suits new → Shows None → PaidTo None → first_refusal (checks g c file.num f k new) ≡ cond (nat_lt (free_clusters c) k) (Some refusal.DeviceFull) None
    last_check new suits order paid = last_checks new order paid ∙ ap (λ t. cond t (Some refusal.IndexFull) (cond (nat_lt (free_clusters c) k) (Some refusal.DeviceFull) None)) suits

    -- space was refused for its reason
    no_number : Shows None → PaidTo None → needs_header f.clusters k ≡ true → IsPick c None → Refuses refusal.IndexFull
    no_number order paid needs pick = (
      None,
      pick,
      comes_to None (Some refusal.IndexFull) (last_checks None order paid ∙ ap (λ t. cond (t && true) (Some refusal.IndexFull) (cond (nat_lt (free_clusters c) k) (Some refusal.DeviceFull) None)) needs),
    )

    no_clusters : Shows None → PaidTo None → (new : Option ℕ) → IsPick c new → Suits new → nat_lt (free_clusters c) k ≡ true → Refuses refusal.DeviceFull
    no_clusters order paid new pick suits short =
        (new, pick, comes_to new (Some refusal.DeviceFull) (last_check new suits order paid ∙ ap (λ t. cond t (Some refusal.DeviceFull) None) short))

    pub refuses_short : Shows None → PaidTo None → (r : Refusal) → is_short c (record { clusters = k; number = needs_header f.clusters k }) (Some r) ≡ true → Refuses r
    refuses_short order paid r short = by_need (needs_header f.clusters k) refl r short where
      with_number : (r : Refusal) → needs_header f.clusters k ≡ true → IsShort c k r → Refuses r
      with_number refusal.IndexFull needs is = no_number order paid needs is
      with_number refusal.DeviceFull needs is = no_clusters order paid (Some is.0) is.1 (ap (λ t. t && false) needs) is.2
      with_number other needs is = absurd is

      by_need : (w : Bool) → needs_header f.clusters k ≡ w → (r : Refusal) → is_short c (record { clusters = k; number = w }) (Some r) ≡ true → Refuses r
      by_need true needs r short = with_number r needs (space_refused c (record { clusters = k; number = true }) r refl short)
      by_need false needs r short =
          let why = clusters_refused c (record { clusters = k; number = false }) r refl short in
          let p = pick_exists c in
          subst Refuses (sym why.0) (no_clusters order paid p.0 p.1 (ap (λ t. t && is_none p.0) needs) why.1)

    -- space was given
    module _ (order : Shows None) (paid : PaidTo None) (enough : k ≤ free_clusters c) (new : Option ℕ) (pick : IsPick c new) (suits : Suits new) where
      grows : outcome c node (cmd.Extend file blocks) new ≡ record { reply = size_shown g (f.clusters + k); after = after_for g c file.num f k }
      grows =
          let has : nat_lt (free_clusters c) k ≡ false = grind (arith, nat_tests) in
          comes_to new None (last_check new suits order paid ∙ ap (λ t. cond t (Some refusal.DeviceFull) None) has)

      pub grows_answer : Answer c node (cmd.Extend file blocks) (size_shown g (f.clusters + k)) (after_for g c file.num f k)
      grows_answer = (new, pick, grows)

      -- the stages of the command
      stage_told : (st : Stage) → stage_of c node (cmd.Extend file blocks) new (outcome c node (cmd.Extend file blocks) new) st ≡ extend_stage c (Some f) blocks (record { reply = size_shown g (f.clusters + k); after = after_for g c file.num f k }) st
      unfolding command_stage
      stage_told st =
          ap (λ o. stage_of c node (cmd.Extend file blocks) new o st) grows ∙ ap (λ y. extend_stage c y blocks (record { reply = size_shown g (f.clusters + k); after = after_for g c file.num f k }) st) lives

      pub stands_charged : StandsAt c node (Some (cmd.Extend file blocks)) stage.Charged (charged_for g c f k)
      unfolding staged extend_stage
      stands_charged = (new, pick, stage_told stage.Charged ∙ ap (λ w. Some (charged c f.owner (w * ((blocks + (w - 1)) / w)))) factor)

      pub stands_done : StandsAt c node (Some (cmd.Extend file blocks)) stage.Done (after_for g c file.num f k)
      unfolding staged extend_stage
      stands_done = (new, pick, stage_told stage.Done)

-- a number that was given where one is wanted, and none where none is, suits
pub suits_given : (w : Bool) (new : Option ℕ) → has_number w new ≡ true → (w && is_none new) ≡ false
suits_given true None e = absurd (let f : false ≡ true = e in cc)
suits_given true (Some n) e = refl
suits_given false new e = refl
