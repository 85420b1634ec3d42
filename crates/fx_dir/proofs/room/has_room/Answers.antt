use Rattle.std.proofs.Common.{◌≡◌, ◌∙◌, [], true, not, sym, ap, arith}
use Rattle.fx_dir.specs.Moves.{key}
use Rattle.fx_dir.specs.Filling.{Filled, Tried, tried_of}
use Rattle.fx_dir.specs.Walk.{Walked, blocks_alone}
use Rattle.fx_dir.specs.Room.{has_room}
use Rattle.fx_dir.proofs.Counting.{start, ends, no_block, told_waiting, told_all}
use Rattle.fx_dir.proofs.Walks.{fed, fed-ends, all_walked}
use Rattle.fx_dir.proofs.RoomStreams.{blocks-read}
use Rattle.fx_dir.proofs.room.has_room.Goals as goal

pub returns-then-k-eq0 : goal.returns-then-k-eq0
returns-then-k-eq0 c = λ es read.
    let e = key c.args.name.now c.args.ver in
    sym (ap (λ n. has_room n e es) c.if-k-eq0.true ∙ no_block e es)

pub blocks_taken-requires : goal.blocks_taken-requires
blocks_taken-requires c = blocks-read (blocks_alone c.args.seen.now) c.requires

pub returns-then-t : goal.returns-then-t
returns-then-t c = λ es read.
    let h = c.if-k-eq0.false in
    let e = key c.args.name.now c.args.ver in
    let t = tried_of c.blocks_taken.result.trial in
    let first : Tried = record { filled = start c.args.k; waiting = true } in
    let all : t ≡ fed e first es = ap (λ (w : Walked). w.tried) (c.blocks_taken.ensures ∙ all_walked e first (blocks_alone c.args.seen.now) es read) in
    ap (λ (f : Filled). not f.full) c.pushed.ensures ∙ told_waiting c.args.k (omega arith) e t es (ap (λ x. ends e x []) all ∙ fed-ends e first es) c.if-t.true

pub returns : goal.returns
returns c = λ es read.
    let h = c.if-k-eq0.false in
    let e = key c.args.name.now c.args.ver in
    let t = tried_of c.blocks_taken.result.trial in
    let first : Tried = record { filled = start c.args.k; waiting = true } in
    let all : t ≡ fed e first es = ap (λ (w : Walked). w.tried) (c.blocks_taken.ensures ∙ all_walked e first (blocks_alone c.args.seen.now) es read) in
    told_all c.args.k (omega arith) e t es (ap (λ x. ends e x []) all ∙ fed-ends e first es) c.if-t.false
