-- The law of QUOTASHOW.
use Rattle.std.proofs.Common.{◌≡◌, ◌∙◌, inl, List, [], ◌∷◌, Option, Some, None, refl, ap, arith}
use Rattle.base_words.specs.Fields.{Block}
use Rattle.lock_db.specs.declared.name.LockName.TheVariants.{Q}
use Rattle.plain_cat.specs.declared.ids.Uic.{Uic}
use Rattle.plain_cat.specs.declared.mode.Mode.TheVariants.{PR}
use Rattle.plain_cat.specs.declared.command.Cmd.{Cmd}
use Rattle.plain_cat.specs.declared.command.Cmd.TheVariants as cmd
use Rattle.plain_cat.specs.declared.reply.Reply.{Reply}
use Rattle.plain_cat.specs.declared.reply.Reply.TheVariants as reply
use Rattle.plain_cat.specs.declared.reply.Refusal.TheVariants as refusal
use Rattle.plain_cat.specs.declared.cat.Cat.{Cat}
use Rattle.plain_cat.specs.declared.cat.QuotaRow.{QuotaRow}
use Rattle.plain_rules.specs.Lookups.{row_of}
use Rattle.plain_rules.specs.Answers.{told, quota_shown, quota_show_outcome, outcome}
use Rattle.plain_rules.proofs.LawSteps.{pick_exists}
use Rattle.vol_spell.specs.Owners.{Owners}
use Rattle.vol_spell.specs.Spread.{blocks_at}
use Rattle.vol_parts.specs.declared.geometry.Geometry.{Geometry}
use Rattle.vol_spell.specs.Reading.{quota_places}
use Rattle.vol_spell.specs.Spelling.{Spells}
use Rattle.op_law.specs.declared.need.Plan.{Plan}
use Rattle.op_law.specs.declared.seen.Seen.{Seen}
use Rattle.op_law.specs.declared.seen.Chan.{Chan}
use Rattle.op_law.specs.Events.{Space, space_of, HasNoSearch}
use Rattle.op_law.specs.Rows.{plain_plan}
use Rattle.op_law.specs.Quotas.{rows_seen, usage_or_none, quota_show_events}
use Rattle.op_law.specs.Needs.{events_of}
use Rattle.op_law.specs.Laws.{Lawful}
use Rattle.op_law.proofs.Walking.{EveryPlan, Obeys}
use Rattle.op_law.proofs.Through.{all_so, quota_obeys}
use Rattle.op_law.proofs.Brief.{BriefBy, Briefs}
use Rattle.op_law.proofs.Counting.{quota_brief}
use Rattle.op_law.proofs.OnlyLooking.{IsPlain, IsAnswer, only_looks_lawful}

module _ (owner : Uic) where
  abbrev x : Cmd
  x = cmd.QuotaShow owner

  none_searched : (o : Option QuotaRow) → HasNoSearch (usage_or_none o)
  none_searched None = tt
  none_searched (Some r) = tt

  searches : (g : Geometry) (channel : Option Chan) → HasNoSearch (events_of g channel x)
  unfolding events_of quota_show_events
  searches g channel = all_so HasNoSearch (λ n m next h. h) (λ n l next h. h) Q (quota_places g) _ (λ qs. none_searched (row_of owner (rows_seen qs)))

  is_plain : (o : Option QuotaRow) → EveryPlan IsPlain (usage_or_none o)
  is_plain None = record { writes = refl; ask = refl }
  is_plain (Some r) = record { writes = refl; ask = refl }

  plain : (g : Geometry) (channel : Option Chan) → EveryPlan IsPlain (events_of g channel x)
  unfolding events_of quota_show_events
  plain g channel = all_so (EveryPlan IsPlain) (λ n m next h. h) (λ n l next h. h) Q (quota_places g) _ (λ qs. is_plain (row_of owner (rows_seen qs)))

  module _ (g : Geometry) (channel : Option Chan) (seen : Seen) (bs : List Block) (own : Owners) (c : Cat) (s : Spells g bs own c) where
    abbrev P : Plan → Type 0
    P p = IsAnswer x channel c p

    -- the row is the catalogue's
    row_is : row_of owner c.quota ≡ row_of owner (rows_seen (blocks_at bs (quota_places g)))
    row_is = ap (row_of owner) s.rows.quota

    tells_so : (r : Reply) → quota_shown c (row_of owner c.quota) ≡ told c r → P (plain_plan r)
    unfolding outcome quota_show_outcome
    tells_so r e = λ node has. let p = pick_exists c in (p.0, p.1, e)

    behind : (o : Option QuotaRow) → row_of owner (rows_seen (blocks_at bs (quota_places g))) ≡ o → Obeys x g bs own c seen P (usage_or_none o) ((Q, PR) ∷ [])
    behind None e = tells_so (reply.Refused refusal.NoQuota) (ap (quota_shown c) (row_is ∙ e))
    behind (Some r) e = tells_so (reply.Usage r.usage r.quota r.over) (ap (quota_shown c) (row_is ∙ e))

    obeys : Obeys x g bs own c seen P (events_of g channel x) []
    unfolding events_of quota_show_events
    obeys = quota_obeys x g bs own c s seen (λ held. P) [] PR (inl refl) (λ qs. usage_or_none (row_of owner (rows_seen qs))) (λ h. h) (λ other h. absurd h)
        (behind (row_of owner (rows_seen (blocks_at bs (quota_places g)))) refl)

  -- ---- one lock, and up to 16 blocks

  is_brief : (bs : List Block) (space : Space) (o : Option QuotaRow) → BriefBy bs space 120 (usage_or_none o) 18 54
  is_brief bs space None = omega arith
  is_brief bs space (Some r) = omega arith

  brief : Briefs x
  unfolding events_of quota_show_events
  brief node seen bs own c on = quota_brief bs (space_of seen) 120 seen.geometry own c on.spelt PR _ 19 70 (omega arith) (omega arith) (λ qs few. is_brief bs (space_of seen) (row_of owner (rows_seen qs)))

  pub show_lawful : Lawful x
  show_lawful = only_looks_lawful x (record { searches = searches; plain = plain; obeys = obeys; brief = brief })
