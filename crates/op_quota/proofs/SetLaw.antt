-- The law of QUOTASET.
use Rattle.std.proofs.Common.{◌≡◌, ◌<◌, ◌^◌, ◌∙◌, ◌%◌, inl, inr, ℕ, true, cond, List, [], ◌∷◌, ◌++◌, Option, Some, None, refl, sym, ap, subst, arith}
use Rattle.std.specs.Prelude.{◌&&◌, leb, is_none}
use Rattle.std.proofs.lemmas.Bool.{and_parts}
use Rattle.std.proofs.lemmas.Bool.Decides.{nat_tests}
use Rattle.base_words.specs.Fields.{Block}
use Rattle.fx_quota.specs.declared.types.Row.{Row}
use Rattle.fx_quota.specs.Rows.{row_in}
use Rattle.lock_db.specs.declared.name.LockName.{LockName}
use Rattle.lock_db.specs.declared.name.LockName.TheVariants.{Q}
use Rattle.plain_cat.specs.InForm.{is_owner, is_quota}
use Rattle.plain_cat.specs.declared.ids.Uic.{Uic}
use Rattle.plain_cat.specs.declared.mode.Mode.{Mode}
use Rattle.plain_cat.specs.declared.mode.Mode.TheVariants.{PW}
use Rattle.plain_cat.specs.declared.command.Cmd.{Cmd}
use Rattle.plain_cat.specs.declared.command.Cmd.TheVariants as cmd
use Rattle.plain_cat.specs.declared.history.Stage.TheVariants as stage
use Rattle.plain_cat.specs.declared.reply.Reply.TheVariants as reply
use Rattle.plain_cat.specs.declared.reply.Refusal.TheVariants as refusal
use Rattle.plain_cat.specs.declared.cat.Cat.{Cat}
use Rattle.plain_cat.specs.declared.cat.QuotaRow.{QuotaRow}
use Rattle.plain_rules.specs.declared.outcome.Outcome.{Outcome}
use Rattle.plain_rules.specs.Lookups.{row_of}
use Rattle.plain_rules.specs.Answers.{told, refused, quota_set_of, quota_set_outcome, outcome, Answer}
use Rattle.plain_rules.specs.Stages.{command_stage, stage_of, staged}
use Rattle.plain_rules.proofs.LawSteps.{pick_exists}
use Rattle.vol_spell.specs.Owners.{Owners, Things, nothing, Outs}
use Rattle.vol_spell.specs.Spread.{blocks_at}
use Rattle.vol_parts.specs.declared.geometry.Geometry.{Geometry}
use Rattle.vol_parts.specs.Catalogues.{quota_row}
use Rattle.vol_spell.specs.Reading.{quota_places}
use Rattle.vol_spell.specs.Spelling.{Spells}
use Rattle.vol_under.specs.Chains.{End, Replied}
use Rattle.vol_under.specs.UnderWay.{StandsAt}
use Rattle.op_law.specs.declared.need.Plan.{Plan}
use Rattle.op_law.specs.declared.need.PlanWrite.{PlanWrite}
use Rattle.op_law.specs.declared.seen.Seen.{Seen}
use Rattle.op_law.specs.declared.seen.Chan.{Chan}
use Rattle.op_law.specs.Events.{Events, Space, space_of, HasNoSpace, HasNoSearch}
use Rattle.op_law.specs.Fits.{things}
use Rattle.op_law.specs.Rows.{plain_plan}
use Rattle.op_law.specs.Writing.{empty_handed, plan_of}
use Rattle.op_law.specs.Quotas.{row_place, changed_write, owner_write, row_allowed, row_write, first_row, quota_set_in, quota_set_events}
use Rattle.vol_spell.specs.Rows.{block_with}
use Rattle.vol_spell.specs.Rows.{is_row_of}
use Rattle.op_law.specs.Needs.{events_of}
use Rattle.op_law.specs.Laws.{planned, AreNamed, KeepsOut, Lawful}
use Rattle.op_law.proofs.Walking.{EveryPlan, ObeysBy}
use Rattle.op_law.proofs.Through.{all_so, quota_obeys}
use Rattle.op_law.proofs.Brief.{BriefBy, Briefs}
use Rattle.op_law.proofs.Counting.{quota_brief}
use Rattle.op_law.proofs.Naming.{no_header_leaves, no_header_fills, TouchesNoHeader}
use Rattle.op_law.proofs.Ends.{EndsBy, nothing_given}
use Rattle.op_law.proofs.Doing.{IsShaped, busy, IsDone, refusal_done}
use Rattle.op_steps.specs.Chained.{Chain, StepsOf, StandsOn}
use Rattle.vol_spell.specs.Rows.{IsInRange, row_for, with_changed, with_more}
use Rattle.op_steps.specs.RowWrites.{row_writes}
use Rattle.op_steps.specs.NewRows.{IsFirstFree}
use Rattle.op_steps.proofs.RowSteps.{row_steps, row_guards, row_no_header}
use Rattle.op_steps.proofs.RowRanges.{row_ranged}
use Rattle.op_steps.proofs.RowNewPlaces.{owner_told, owner_untold, quota_full, quota_left}
use Rattle.op_steps.proofs.RowNewSteps.{new_row_steps, new_row_guards, new_row_no_header}
use Rattle.op_law.proofs.Spaceless.{spaceless_lawful}

module _ (owner : Uic) (quota over : ℕ) where
  abbrev x : Cmd
  x = cmd.QuotaSet owner quota over

  -- ---- no search, and what every plan is

  none_searched : (g : Geometry) (qs : List Block) (own free : Option ℕ) → HasNoSearch (quota_set_in g qs owner quota over own free)
  none_searched g qs (Some j) free = tt
  none_searched g qs None (Some j) = tt
  none_searched g qs None None = tt

  searches : (g : Geometry) (channel : Option Chan) → HasNoSearch (events_of g channel x)
  unfolding events_of quota_set_events
  searches g channel = all_so HasNoSearch (λ n m next h. h) (λ n l next h. h) Q (quota_places g) _ (λ qs. none_searched g qs (row_place (is_row_of owner) qs) (row_place (λ r. is_none r) qs))

  is_shaped : (g : Geometry) (qs : List Block) (own free : Option ℕ) → EveryPlan IsShaped (quota_set_in g qs owner quota over own free)
  is_shaped g qs (Some j) free = record { ask = refl; refused = tt }
  is_shaped g qs None (Some j) = record { ask = refl; refused = tt }
  is_shaped g qs None None = record { ask = refl; refused = (refl, refl) }

  shaped : (g : Geometry) (channel : Option Chan) → EveryPlan IsShaped (events_of g channel x)
  unfolding events_of quota_set_events
  shaped g channel = all_so (EveryPlan IsShaped) (λ n m next h. h) (λ n l next h. h) Q (quota_places g) _ (λ qs. is_shaped g qs (row_place (is_row_of owner) qs) (row_place (λ r. is_none r) qs))

  leaves_nothing : (space : Space) (g : Geometry) (qs : List Block) (own free : Option ℕ) → EndsBy (things space.clusters space.number) (HasNoSpace space) (quota_set_in g qs owner quota over own free)
  leaves_nothing space g qs (Some j) free = λ h. refl
  leaves_nothing space g qs None (Some j) = λ h. refl
  leaves_nothing space g qs None None = nothing_given space

  ends : (g : Geometry) (channel : Option Chan) (space : Space) → EndsBy (things space.clusters space.number) (HasNoSpace space) (events_of g channel x)
  unfolding events_of quota_set_events
  ends g channel space = all_so (EndsBy (things space.clusters space.number) (HasNoSpace space)) (λ n m next h. h) (λ n l next h. h) Q (quota_places g) _
      (λ qs. leaves_nothing space g qs (row_place (is_row_of owner) qs) (row_place (λ r. is_none r) qs))

  -- ---- one lock, up to 16 blocks, and at most one write

  is_brief : (bs : List Block) (space : Space) (g : Geometry) (qs : List Block) (own free : Option ℕ) → BriefBy bs space 120 (quota_set_in g qs owner quota over own free) 18 54
  is_brief bs space g qs (Some j) free = omega arith
  is_brief bs space g qs None (Some j) = omega arith
  is_brief bs space g qs None None = omega arith

  brief : Briefs x
  unfolding events_of quota_set_events
  brief node seen bs own c on = quota_brief bs (space_of seen) 120 seen.geometry own c on.spelt PW _ 19 70 (omega arith) (omega arith)
      (λ qs few. is_brief bs (space_of seen) seen.geometry qs (row_place (is_row_of owner) qs) (row_place (λ r. is_none r) qs))

  -- ---- the answer

  -- what the command is answered goes by the owner's row
  outcome_is : (c : Cat) (node : ℕ) (new : Option ℕ) → outcome c node x new ≡ quota_set_of c (row_of owner c.quota) owner quota over
  unfolding outcome quota_set_outcome
  outcome_is c node new = refl

  module _ (c : Cat) (node : ℕ) (d : Cat) (e : quota_set_of c (row_of owner c.quota) owner quota over ≡ told d reply.QuotaKept) where
    keeps : Answer c node x reply.QuotaKept d
    keeps = let p = pick_exists c in (p.0, p.1, outcome_is c node p.0 ∙ e)

    stands : StandsAt c node (Some x) stage.Done d
    unfolding staged command_stage
    stands = let p = pick_exists c in (p.0, p.1, ap (λ (o : Outcome). stage_of c node x p.0 o stage.Done) (outcome_is c node p.0 ∙ e))

  refuses : (c : Cat) (node : ℕ) → quota_set_of c (row_of owner c.quota) owner quota over ≡ refused c refusal.QuotaFull → Answer c node x (reply.Refused refusal.QuotaFull) c
  refuses c node e = let p = pick_exists c in (p.0, p.1, outcome_is c node p.0 ∙ e)

  -- ---- on the blocks of a volume

  module _ (form : (is_owner owner && (is_quota quota && is_quota over)) ≡ true) where
    owner_low : owner.0 < 2 ^ 32
    owner_low = let e : leb owner.0 1073741823 ≡ true = (and_parts (is_owner owner) (is_quota quota && is_quota over) form).0 in grind (arith, nat_tests)

    quota_low : quota < 2 ^ 32
    quota_low = let e : leb quota 4294967295 ≡ true = (and_parts (is_quota quota) (is_quota over) (and_parts (is_owner owner) (is_quota quota && is_quota over) form).1).0 in grind (arith, nat_tests)

    over_low : over < 2 ^ 32
    over_low = let e : leb over 4294967295 ≡ true = (and_parts (is_quota quota) (is_quota over) (and_parts (is_owner owner) (is_quota quota && is_quota over) form).1).1 in grind (arith, nat_tests)

    module _ (node : ℕ) (seen : Seen) (bs : List Block) (own : Owners) (c : Cat) (stock : Things) (none : things seen.clusters seen.number ≡ nothing) (s : Spells seen.geometry bs own c) (outs : Outs node own nothing stock) where
      abbrev g : Geometry
      g = seen.geometry

      abbrev qs : List Block
      qs = blocks_at bs (quota_places g)

      abbrev Done : Plan → Type 0
      Done p = IsDone x node seen bs own c stock ((Q, PW) ∷ []) p

      abbrev k : Chain
      k = record { geometry = g; node = node; cmd = Some x; locks = Q ∷ []; cat = c; stock = stock }

      on : StandsOn k empty_handed c bs own
      on = record { spelt = s; outs = outs }

      -- the reply goes with one write, behind which the catalogue is d
      finish : (d : Cat) → quota_set_of c (row_of owner c.quota) owner quota over ≡ told d reply.QuotaKept → d.opens ≡ c.opens → (w : PlanWrite) → w.stage ≡ stage.Done → (planned w).outs ≡ nothing
          → (bs' : List Block) → StandsOn k empty_handed d bs' own → Replied g node (busy x node seen (plan_of (w ∷ []) reply.QuotaKept)) x reply.QuotaKept c stock bs' own
      finish d e opens w at out bs' last = (
        d,
        subst (λ st. StandsAt c node (Some x) st d) (sym at) (stands c node d e),
        last.spelt,
        subst (λ t. Outs node own t stock) (sym out) last.outs,
        d.opens,
        keeps c node d e,
      )

      -- a write that leaves nothing outside
      kept : (w : PlanWrite) → (planned w).outs ≡ nothing → KeepsOut (things seen.clusters seen.number) (Q ∷ []) (w ∷ [])
      kept w out v (inl same) = inl (ap (λ (u : PlanWrite). (planned u).outs) (sym same) ∙ out)
      kept w out v (inr t) = absurd t

      -- ---- the owner's row

      module _ (j : ℕ) (at : row_place (is_row_of owner) qs ≡ Some j) where
        abbrev set_write : PlanWrite
        set_write = row_write g qs j (row_allowed quota over (row_in (block_with qs j) (j % 16))) stage.Done empty_handed

        abbrev set_writes : List PlanWrite
        set_writes = set_write ∷ []

        abbrev allow : QuotaRow → QuotaRow
        allow r = record r { quota = quota; over = over }

        writes_are : row_writes g bs owner (row_allowed quota over) stage.Done empty_handed ≡ set_writes
        unfolding owner_write
        writes_are = ap (changed_write g qs (row_allowed quota over) stage.Done empty_handed) at

        abbrev set_cat : Cat
        set_cat = with_changed owner allow c

        set_so : quota_set_of c (row_of owner c.quota) owner quota over ≡ told set_cat reply.QuotaKept
        set_so = ap (λ o. quota_set_of c o owner quota over) (owner_told g bs own c s owner j at)

        ranged : (r : QuotaRow) → row_of owner c.quota ≡ Some r → IsInRange (row_allowed quota over (row_for r))
        ranged r there = let old = row_ranged g bs own c s owner r there in record { uic = old.uic; usage = old.usage; quota = quota_low; over = over_low }

        abbrev end : End
        end = Replied g node (busy x node seen (plan_of set_writes reply.QuotaKept)) x reply.QuotaKept c stock

        set_steps : StepsOf end k set_writes bs own
        set_steps = subst (λ ws. StepsOf end k (ws ++ []) bs own) writes_are
            (row_steps end k owner (row_allowed quota over) allow stage.Done empty_handed [] c bs own on (record { owner = λ r. refl; same = λ r. refl }) ranged (stands c node set_cat set_so)
            (λ last stays. finish set_cat set_so refl set_write refl refl _ last))

        set_no_header : TouchesNoHeader g set_writes
        set_no_header = subst (λ ws. TouchesNoHeader g ws) writes_are (row_no_header g bs bs own c owner (row_allowed quota over) stage.Done empty_handed s)

        set_done : Done (plan_of set_writes reply.QuotaKept)
        set_done = record {
          named = subst (λ ws. AreNamed node (Q ∷ []) g own ws) writes_are (row_guards g bs bs own c owner (row_allowed quota over) stage.Done empty_handed node (Q ∷ []) s (inl refl));
          dirs = no_header_leaves g bs set_writes set_no_header;
          slots = no_header_fills g own (things seen.clusters seen.number) set_writes set_no_header;
          kept_out = kept set_write refl;
          steps = set_steps;
        }

      -- ---- a new row

      module _ (away : row_place (is_row_of owner) qs ≡ None) (j : ℕ) (free : IsFirstFree g bs j) where
        abbrev new : Row
        new = first_row owner quota over

        abbrev new_write : PlanWrite
        new_write = row_write g qs j new stage.Done empty_handed

        abbrev new_writes : List PlanWrite
        new_writes = new_write ∷ []

        abbrev new_cat : Cat
        new_cat = with_more (quota_row new) c

        untold : row_of owner c.quota ≡ None
        untold = owner_untold g bs own c s owner away

        new_so : quota_set_of c (row_of owner c.quota) owner quota over ≡ told new_cat reply.QuotaKept
        new_so = ap (λ o. quota_set_of c o owner quota over) untold ∙ ap (λ t. cond t (refused c refusal.QuotaFull) (told new_cat reply.QuotaKept)) (quota_left g bs own c s j free)

        abbrev new_end : End
        new_end = Replied g node (busy x node seen (plan_of new_writes reply.QuotaKept)) x reply.QuotaKept c stock

        new_steps : StepsOf new_end k new_writes bs own
        new_steps = new_row_steps new_end k j new stage.Done empty_handed [] c bs own on free untold (record { uic = owner_low; usage = omega arith; quota = quota_low; over = over_low }) (stands c node new_cat new_so)
            (λ last stays. finish new_cat new_so refl new_write refl refl _ last)

        new_writes_no_header : TouchesNoHeader g new_writes
        new_writes_no_header = new_row_no_header g bs bs own c j new stage.Done empty_handed s free

        new_done : Done (plan_of new_writes reply.QuotaKept)
        new_done = record {
          named = new_row_guards g bs bs own c j new stage.Done empty_handed node (Q ∷ []) s free (inl refl);
          dirs = no_header_leaves g bs new_writes new_writes_no_header;
          slots = no_header_fills g own (things seen.clusters seen.number) new_writes new_writes_no_header;
          kept_out = kept new_write refl;
          steps = new_steps;
        }

      -- ---- no row

      full_done : row_place (is_row_of owner) qs ≡ None → row_place (λ r. is_none r) qs ≡ None → Done (plain_plan (reply.Refused refusal.QuotaFull))
      full_done away none_free =
          refusal_done x node seen bs own c stock s (subst (λ t. Outs node own t stock) (sym none) outs) refusal.QuotaFull
          (refuses c node (ap (λ o. quota_set_of c o owner quota over) (owner_untold g bs own c s owner away)
          ∙ ap (λ t. cond t (refused c refusal.QuotaFull) (told (with_more (quota_row (first_row owner quota over)) c) reply.QuotaKept)) (quota_full g bs own c s none_free)))
          ((Q, PW) ∷ [])

      abbrev O : Events → List (LockName × Mode) → Type 0
      O es held = ObeysBy x g bs own c seen (IsDone x node seen bs own c stock) es held

      behind : (a b : Option ℕ) → row_place (is_row_of owner) qs ≡ a → row_place (λ r. is_none r) qs ≡ b → O (quota_set_in g qs owner quota over a b) ((Q, PW) ∷ [])
      behind (Some j) b at free = set_done j at
      behind None (Some j) at free = new_done at j free
      behind None None at free = full_done at free

      obeys : O (events_of g seen.channel x) []
      unfolding events_of quota_set_events
      obeys = quota_obeys x g bs own c s seen (IsDone x node seen bs own c stock) [] PW (inr (inl refl))
          (λ qs. quota_set_in g qs owner quota over (row_place (is_row_of owner) qs) (row_place (λ r. is_none r) qs)) (λ h. h) (λ other h. absurd h)
          (behind (row_place (is_row_of owner) qs) (row_place (λ r. is_none r) qs) refl refl)

    pub set_lawful : Lawful x
    set_lawful = spaceless_lawful x (record {
      searches = searches;
      shaped = shaped;
      ends = ends;
      obeys = λ node seen bs own c stock s none outs known. obeys node seen bs own c stock none s outs;
      brief = brief;
    })
