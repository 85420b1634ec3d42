use Rattle.std.proofs.Common.{◌≡◌, ◌+◌, ◌-◌, ◌∙◌, suc, Some, true, false, sym, ap, arith, option_map}
use Rattle.fx_dir.specs.Records.{entry_in}
use Rattle.fx_dir.specs.Wanted.{is_of, version_of}
use Rattle.fx_dir.proofs.Wanted.{versions-found, versions-passed}
use Rattle.fx_dir.proofs.searching.version_in.Goals as goal

pub returns-then-is_of : goal.returns-then-is_of
unfolding entry_in
returns-then-is_of c = λ head some.
    let n = c.args.count - c.loop-k.k - 1 in
    let s : suc n + c.loop-k.k ≡ c.args.count = omega arith in
    let at = c.split_at.result.1.now in
    let t : is_of c.args.ver (entry_in head at).ver ≡ true = sym c.is_of.ensures ∙ c.if-is_of.true in
    let left = c.loop-k.invariant (suc n) s head some in
    sym (ap (option_map version_of) (versions-found _ _ head c.args.bytes.now at c.loop-k.k n c.split_at.ensures.back left t) ∙ ap (λ v. Some v) (sym (c.version_at.ensures head)))

pub loop-k-preserved : goal.loop-k-preserved
unfolding entry_in
loop-k-preserved c = λ n h head some.
    let s : suc n + c.loop-k.k ≡ c.args.count = omega arith in
    let at = c.split_at.result.1.now in
    let t : is_of c.args.ver (entry_in head at).ver ≡ false = sym c.is_of.ensures ∙ c.if-is_of.false in
    versions-passed _ _ head c.args.bytes.now at c.loop-k.k n c.split_at.ensures.back (c.loop-k.invariant (suc n) s head some) t

pub returns : goal.returns
returns c = λ head some. sym (ap (option_map version_of) (c.loop-k.invariant 0 (omega arith) head some).same)
