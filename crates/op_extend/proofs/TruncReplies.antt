-- The outcome of TRUNC: its refusals, the file that stays, and the file that is cut; and the stages on the way.
use Rattle.std.proofs.Common.{◌≡◌, ◌≤◌, ◌<◌, ◌∙◌, ℕ, Bool, true, false, cond, List, [], ◌∷◌, Option, Some, None, map, refl, ap, arith}
use Rattle.std.specs.Prelude.{◌*◌, ◌+◌, ◌-◌, ◌/◌, ◌==◌, min, nat_lt}
use Rattle.std.proofs.lemmas.Bool.Decides.{nat_tests}
use Rattle.plain_cat.specs.declared.ids.Fid.{Fid}
use Rattle.plain_cat.specs.declared.ids.Uic.{Uic}
use Rattle.plain_cat.specs.declared.command.Cmd.{Cmd}
use Rattle.plain_cat.specs.declared.command.Cmd.TheVariants as cmd
use Rattle.plain_cat.specs.declared.history.Stage.{Stage}
use Rattle.plain_cat.specs.declared.history.Stage.TheVariants as stage
use Rattle.plain_cat.specs.declared.reply.Reply.{Reply}
use Rattle.plain_cat.specs.declared.reply.Reply.TheVariants as reply
use Rattle.plain_cat.specs.declared.reply.Refusal.{Refusal}
use Rattle.plain_cat.specs.declared.reply.Refusal.TheVariants as refusal
use Rattle.plain_cat.specs.declared.cat.Cat.{Cat}
use Rattle.plain_cat.specs.declared.cat.File.{File}
use Rattle.plain_cat.specs.declared.cat.Slot.TheVariants as slot
use Rattle.plain_cat.specs.declared.cat.QuotaRow.{QuotaRow}
use Rattle.plain_rules.specs.declared.outcome.Outcome.{Outcome}
use Rattle.plain_rules.specs.Lookups.{live, file_at}
use Rattle.plain_rules.specs.Changes.{discharged, lowered, with_file, cut}
use Rattle.plain_rules.specs.Answers.{refused, is_kept, trunc_of, trunc_outcome, outcome, Answer}
use Rattle.plain_rules.specs.Stages.{only_if, trunc_stage, command_stage, stage_of, staged}
use Rattle.plain_rules.proofs.LawSteps.{pick_exists}
use Rattle.plain_rules.proofs.Standing.{stands_at}
use Rattle.vol_parts.specs.declared.geometry.Geometry.{Geometry}
use Rattle.vol_under.specs.UnderWay.{StandsAt}
use Rattle.op_law.specs.Sizes.{size_shown}
use Rattle.op_law.specs.Writing.{clusters_for}
use Rattle.base_words.proofs.Listing.{set_same}

-- ---- a cut to all clusters changes nothing

same_row : (owner : Uic) (r : QuotaRow) → lowered owner 0 r ≡ r
same_row owner r = by_test (r.owner.0 == owner.0) where
  by_test : (t : Bool) → cond t (record r { usage = r.usage - 0 }) r ≡ r
  by_test true = ap (λ z. record r { usage = z }) (let e : r.usage - 0 ≡ r.usage = omega arith in e)
  by_test false = refl

same_rows : (owner : Uic) (rs : List QuotaRow) → map (lowered owner 0) rs ≡ rs
same_rows owner [] = refl
same_rows owner (r ∷ rs) = ap (λ q. q ∷ map (lowered owner 0) rs) (same_row owner r) ∙ ap (λ qs. r ∷ qs) (same_rows owner rs)

-- a file that is written where it stands already, and an owner who is charged with nothing less
pub nothing_changed : (c : Cat) (n : ℕ) (owner : Uic) (f : File) → file_at c n ≡ Some f → with_file (discharged c owner 0) n f ≡ c
nothing_changed c n owner f at =
    ap (λ (qs : List QuotaRow). with_file (record c { quota = qs }) n f) (same_rows owner c.quota)
    ∙ ap (λ ss. record c { files = ss }) (set_same c.files (n - 1) (slot.Used f) (stands_at c n f at))

-- the catalogue with the cut file alone, and with the charge that is less besides
abbrev pub cut_for : Cat → ℕ → File → ℕ → Cat
cut_for c n f k = with_file c n (cut c f k)

abbrev pub cut_after : Geometry → Cat → ℕ → File → ℕ → Cat
cut_after g c n f k = with_file (discharged c f.owner (g.cluster * (f.clusters - k))) n (cut c f k)

module _ (g : Geometry) (c : Cat) (factor : c.factor ≡ g.cluster) (node : ℕ) (file : Fid) (blocks : ℕ) where
  abbrev x : Cmd
  x = cmd.Trunc file blocks

  abbrev k : ℕ
  k = clusters_for g blocks

  outcome_by : (new : Option ℕ) (o : Option File) → live c file ≡ o → outcome c node (cmd.Trunc file blocks) new ≡ trunc_of c file.num o blocks
  unfolding outcome trunc_outcome
  outcome_by new o e = ap (λ y. trunc_of c file.num y blocks) e

  answers_by : (r : Reply) (d : Cat) → ((new : Option ℕ) → outcome c node (cmd.Trunc file blocks) new ≡ record { reply = r; after = d }) → Answer c node (cmd.Trunc file blocks) r d
  answers_by r d e = let p = pick_exists c in (p.0, p.1, e p.0)

  -- the answer is this refusal
  abbrev pub Refuses : Refusal → Type 0
  Refuses r = Answer c node (cmd.Trunc file blocks) (reply.Refused r) c

  pub refuses_none : live c file ≡ None → Refuses refusal.NoSuchFile
  refuses_none e = answers_by (reply.Refused refusal.NoSuchFile) c (λ new. outcome_by new None e)

  module _ (f : File) (lives : live c file ≡ Some f) where
    -- the outcome where a volume has so many blocks in a cluster, and the file keeps so many clusters
    abbrev kept_by : ℕ → ℕ → Outcome
    kept_by w j = record { reply = reply.Size (w * j); after = with_file (discharged c f.owner (w * (f.clusters - j))) file.num (cut c f j) }

    abbrev by_factor : ℕ → Outcome
    by_factor w = record {
      reply = reply.Size (w * min f.clusters ((blocks + (w - 1)) / w));
      after = with_file (discharged c f.owner (w * (f.clusters - min f.clusters ((blocks + (w - 1)) / w)))) file.num (cut c f (min f.clusters ((blocks + (w - 1)) / w)));
    }

    comes_to : (new : Option ℕ) (t : Bool) → is_kept file.num f ≡ t → outcome c node (cmd.Trunc file blocks) new ≡ cond t (refused c refusal.NoPriv) (by_factor g.cluster)
    comes_to new t e = outcome_by new (Some f) lives ∙ ap (λ y. cond y (refused c refusal.NoPriv) (by_factor c.factor)) e ∙ ap (λ w. cond t (refused c refusal.NoPriv) (by_factor w)) factor

    pub refuses_kept : is_kept file.num f ≡ true → Refuses refusal.NoPriv
    refuses_kept e = answers_by (reply.Refused refusal.NoPriv) c (λ new. comes_to new true e)

    module _ (free : is_kept file.num f ≡ false) where
      keeps : (new : Option ℕ) (j : ℕ) → min f.clusters (clusters_for g blocks) ≡ j → outcome c node (cmd.Trunc file blocks) new ≡ kept_by g.cluster j
      keeps new j e = comes_to new false free ∙ ap (kept_by g.cluster) e

      -- nothing goes
      pub stays_answer : nat_lt (clusters_for g blocks) f.clusters ≡ false → file_at c file.num ≡ Some f → cut c f f.clusters ≡ f → Answer c node (cmd.Trunc file blocks) (size_shown g f.clusters) c
      stays_answer no_less at same = answers_by (size_shown g f.clusters) c (λ new.
          keeps new f.clusters (let le : f.clusters ≤ clusters_for g blocks = grind (arith, nat_tests) in let e : min f.clusters (clusters_for g blocks) ≡ f.clusters = omega arith in e)
          ∙ ap (λ (d : Cat). record { reply = size_shown g f.clusters; after = d }) (all_stays at same)) where
            all_stays : file_at c file.num ≡ Some f → cut c f f.clusters ≡ f → with_file (discharged c f.owner (g.cluster * (f.clusters - f.clusters))) file.num (cut c f f.clusters) ≡ c
            all_stays at same =
                let less : g.cluster * (f.clusters - f.clusters) ≡ 0 = (let z : f.clusters - f.clusters ≡ 0 = omega arith in ap (λ y. g.cluster * y) z ∙ (let e : g.cluster * 0 ≡ 0 = omega arith in e)) in
                ap (λ z. with_file (discharged c f.owner z) file.num (cut c f f.clusters)) less
                ∙ ap (with_file (discharged c f.owner 0) file.num) same
                ∙ nothing_changed c file.num f.owner f at

      -- clusters go
      module _ (goes : nat_lt (clusters_for g blocks) f.clusters ≡ true) where
        cuts : (new : Option ℕ) → outcome c node (cmd.Trunc file blocks) new ≡ record { reply = size_shown g (clusters_for g blocks); after = cut_after g c file.num f (clusters_for g blocks) }
        cuts new = keeps new (clusters_for g blocks) (let lt : clusters_for g blocks < f.clusters = grind (arith, nat_tests) in let e : min f.clusters (clusters_for g blocks) ≡ clusters_for g blocks = omega arith in e)

        pub cuts_answer : Answer c node (cmd.Trunc file blocks) (size_shown g (clusters_for g blocks)) (cut_after g c file.num f (clusters_for g blocks))
        cuts_answer = answers_by (size_shown g (clusters_for g blocks)) (cut_after g c file.num f (clusters_for g blocks)) cuts

        -- the stages of the command
        stage_told : (new : Option ℕ) (st : Stage)
            → stage_of c node (cmd.Trunc file blocks) new (outcome c node (cmd.Trunc file blocks) new) st
            ≡ trunc_stage c file.num (Some f) blocks (record { reply = size_shown g (clusters_for g blocks); after = cut_after g c file.num f (clusters_for g blocks) }) st
        unfolding command_stage
        stage_told new st =
            ap (λ o. stage_of c node (cmd.Trunc file blocks) new o st) (cuts new)
            ∙ ap (λ y. trunc_stage c file.num y blocks (record { reply = size_shown g (clusters_for g blocks); after = cut_after g c file.num f (clusters_for g blocks) }) st) lives

        pub stands_shortened : StandsAt c node (Some (cmd.Trunc file blocks)) stage.Shortened (cut_for c file.num f (clusters_for g blocks))
        unfolding staged trunc_stage
        stands_shortened =
            let p = pick_exists c in (
              p.0,
              p.1,
              stage_told p.0 stage.Shortened
                  ∙ ap (λ w. only_if (nat_lt ((blocks + (w - 1)) / w) f.clusters) (cut_for c file.num f ((blocks + (w - 1)) / w))) factor
                  ∙ ap (λ t. only_if t (cut_for c file.num f (clusters_for g blocks))) goes,
            )

        pub stands_cut : StandsAt c node (Some (cmd.Trunc file blocks)) stage.Done (cut_after g c file.num f (clusters_for g blocks))
        unfolding staged trunc_stage
        stands_cut =
            let p = pick_exists c in (
              p.0,
              p.1,
              stage_told p.0 stage.Done
                  ∙ ap (λ w. only_if (nat_lt ((blocks + (w - 1)) / w) f.clusters) (cut_after g c file.num f (clusters_for g blocks))) factor
                  ∙ ap (λ t. only_if t (cut_after g c file.num f (clusters_for g blocks))) goes,
            )
