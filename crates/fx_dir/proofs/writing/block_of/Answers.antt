use Rattle.std.proofs.Common.{◌∙◌, ◌+◌, suc, None, length, arith, length-drop}
use Rattle.base_words.specs.Fields.{put}
use Rattle.fx_dir.specs.Pieces.{entry_bytes}
use Rattle.fx_dir.specs.Writing.{IsInForm, last_name, following}
use Rattle.fx_dir.proofs.Steps.{each-get}
use Rattle.fx_dir.proofs.Written.{size-length}
use Rattle.fx_dir.proofs.Placing.{standing-none, standing-room, standing-more, standing-all, standing-end}
use Rattle.fx_dir.proofs.writing.block_of.Goals as goal

pub loop-i-init : goal.loop-i-init
loop-i-init c = standing-none c.args.es.now _ c.zeros-b.ensures

pub put_entry-at-requires-clause-form : goal.put_entry-at-requires-clause-form
put_entry-at-requires-clause-form c = rw c.index-es-i.is (each-get IsInForm c.args.es.now c.loop-i.i c.index-es-i.result c.requires.form c.loop-i-test.true)

pub put_entry-at-requires-clause-few : goal.put_entry-at-requires-clause-few
put_entry-at-requires-clause-few c =
    rw c.split_at-in-loop-i.ensures.back (omega (arith, c.requires.room, size-length None c.args.es.now, length-drop (c.loop-i.i + 1) c.args.es.now))

pub put_entry-at-requires-clause-room : goal.put_entry-at-requires-clause-room
put_entry-at-requires-clause-room c =
    rw (c.split_at.ensures.front, c.split_at-in-loop-i.ensures.back)
    (standing-room c.args.es.now c.loop-i.i c.loop-i.at c.loop-i.b c.index-es-i.result c.loop-i.invariant c.requires.room c.loop-i-test.true c.index-es-i.is)

pub loop-i-preserved : goal.loop-i-preserved
loop-i-preserved c =
    let e = c.index-es-i.result in
    standing-more c.args.es.now c.loop-i.i c.loop-i.at _ c.loop-i.b _ e c.loop-i.invariant c.loop-i-test.true c.index-es-i.is
    (c.put_entry-at.ensures.text ∙ λ j. put c.loop-i.b c.loop-i.at (entry_bytes (last_name (c.split_at.ensures.front j)) e (suc (following e.name (c.split_at-in-loop-i.ensures.back j))))) (c.put_entry-at.ensures.end ∙ λ j. c.loop-i.at + length (entry_bytes (last_name (c.split_at.ensures.front j)) e (suc (following e.name (c.split_at-in-loop-i.ensures.back j)))))

pub put_bytes-requires : goal.put_bytes-requires
put_bytes-requires c = omega (arith, standing-end c.args.es.now c.loop-i.i c.loop-i.at c.loop-i.b c.loop-i.invariant c.requires.room)

pub returns : goal.returns
returns c = c.put_bytes.ensures ∙ standing-all c.args.es.now c.loop-i.i c.loop-i.at c.loop-i.b c.loop-i.invariant c.loop-i-test.false
