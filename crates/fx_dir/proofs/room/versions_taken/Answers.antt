use Rattle.std.proofs.Common.{◌≡◌, ◌+◌, ◌∙◌, suc, sym, arith}
use Rattle.base_words.specs.Fields.{field}
use Rattle.fx_dir.specs.Moves.{key}
use Rattle.fx_dir.specs.Records.{name_in}
use Rattle.fx_dir.specs.Walk.{walked_of, taken_on}
use Rattle.fx_dir.proofs.RoomStreams.{versions-passed}
use Rattle.fx_dir.proofs.room.versions_taken.Goals as goal

pub loop-k-preserved : goal.loop-k-preserved
loop-k-preserved c = λ n h head named some.
    let s : suc n + c.loop-k.k ≡ c.args.count = omega arith in
    let e = key c.args.name.now c.args.ver in
    let at = c.split_at.result.1.now in
    let is : walked_of c.taken_on-now.result ≡ taken_on e (walked_of c.loop-k.now) (key (name_in head) (field at 0 2)) =
    c.taken_on-now.ensures ∙ (λ i. taken_on e (walked_of c.loop-k.now) (key (sym named i) (c.word.ensures i))) in
    versions-passed e _ (walked_of c.loop-k.now) (walked_of c.taken_on-now.result) head c.args.bytes.now at c.loop-k.k n c.split_at.ensures.back (c.loop-k.invariant (suc n) s head named some) is

pub returns : goal.returns
returns c = λ head named some. (c.loop-k.invariant 0 (omega arith) head named some).same
