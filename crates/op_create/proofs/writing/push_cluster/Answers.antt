use Rattle.std.proofs.Common.{◌∙◌, ◌+◌, ◌*◌, ◌++◌, [], ◌∷◌, Some, ap, inl, refl, arith}
use Rattle.lock_db.specs.declared.name.LockName.TheVariants.{S}
use Rattle.plain_cat.specs.declared.history.Stage.TheVariants as stage
use Rattle.op_law.specs.Writing.{holding, write_at}
use Rattle.op_steps.proofs.Clustered.{cluster_ends}
use Rattle.op_create.proofs.Clustered.{more_places}
use Rattle.op_create.proofs.writing.push_cluster.Goals as goal

pub overflow_mul-q : goal.overflow_mul-q
overflow_mul-q c = let e = cluster_ends c.args.g.now c.args.q c.requires.geometry (c.requires.within.there c.args.q (inl refl)) in omega arith

pub overflow_add-q : goal.overflow_add-q
overflow_add-q c =
    let e = cluster_ends c.args.g.now c.args.q c.requires.geometry (c.requires.within.there c.args.q (inl refl)) in
    let t = c.loop-i-test.true in
    omega arith

pub loop-i-preserved : goal.loop-i-preserved
loop-i-preserved c =
    let n = c.args.n in
    let q = c.args.q in
    let w = c.args.g.now.cluster in
    let i = c.loop-i.i in
    c.in_ok-push.ensures.ok
    ∙ ap (λ ns. c.loop-i.writes ++ record (write_at (S n) (q * w + i) c.args.block.now stage.Charged (holding c.in_ok-copy.field-0 (Some n))) { numbers = ns } ∷ []) c.new.ensures
    ∙ ap (λ qs. c.loop-i.writes ++ write_at (S n) (q * w + i) c.args.block.now stage.Charged (holding qs (Some n)) ∷ []) c.in_ok-copy.ensures
    ∙ ap (λ ws. ws ++ write_at (S n) (q * w + i) c.args.block.now stage.Charged (holding c.args.clusters.now (Some n)) ∷ []) c.loop-i.invariant
    ∙ more_places (λ x. write_at (S n) x c.args.block.now stage.Charged (holding c.args.clusters.now (Some n))) c.args.writes.now (q * w) i
