-- Once the last claim has come, just the claimed locks are granted.
use Rattle.std.proofs.Common.{◌≡◌, ◌∙◌, inl, ap, subst, sym, refl, List, []}
use Rattle.lock_db.specs.Queues.{standing_of}
use Rattle.lock_db.proofs.Lists.{list_all-passing}
use Rattle.dlm_core.specs.declared.holds.Hold.{Hold}
use Rattle.lock_db.specs.declared.name.LockName.{LockName}
use Rattle.dlm_core.specs.declared.blocks.Seen.{Seen}
use Rattle.dlm_core.specs.States.{State, told_at, version_at}
use Rattle.dlm_core.specs.Steps.{stands_as}
use Rattle.dlm_core.specs.Recoveries.{is_name_of, closed}
use Rattle.dlm_core.specs.Restored.{own_claims, own_blocks, block_of, restored, IsRead, IsOfHolder, RecoveriesGrantClaims}
use Rattle.dlm_core.proofs.Holders.{kept-holder}
use Rattle.dlm_core.proofs.Endings.{block-rule}
use Rattle.dlm_core.proofs.Recovering.{reclaim-all, restore-start, with_tables, hold-filter}

pub all-restored : RecoveriesGrantClaims
all-restored d s i =
    let bs : LockName → Seen = block_of d s in
    let hs : List Hold = own_claims d s in
    let r = reclaim-all d bs s hs [] s.tables s.versions i refl (list_all-passing (λ h. is_name_of d s h.name) s.claims) (restore-start d bs s i) in
    let z : State = with_tables (closed d s) r.tables r.versions in
    let is : restored d s ≡ z = r.is in
    record {
      locks = λ o x e.
          ap (λ (y : State). standing_of o (told_at x y).askers) is ∙ r.all.ours o x e ∙ ap (λ (h : Hold). stands_as h.belief) (hold-filter (is_name_of d s) o x s.claims e);
      blocks = λ x e f. subst (λ (y : State). IsRead (bs x) (told_at x y)) (sym is) (r.all.blocks x e f);
      versions = λ x e f. ap (λ (y : State). version_at x y.versions) is ∙ r.noted x (inl f);
      holders = λ ru x e f. subst (λ (b : Seen). IsOfHolder hs x b) (sym (block-rule s.rule hs (own_blocks d s) x ru)) (kept-holder hs x f);
      others = λ x e. ap (told_at x) is ∙ r.all.others x e;
    }
