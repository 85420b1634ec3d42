use Rattle.std.proofs.Common.{◌≡◌, ◌∙◌, ◌≤◌, ◌*◌, length, subst, sym, arith}
use Rattle.std.specs.Prelude.{Some}
use Rattle.std.specs.Option.{ForSome}
use Rattle.blk_files.specs.Files.{IsOver}
use Rattle.blk_files.specs.Noted.{bytes_known}
use Rattle.blk_files.specs.Reading.{IsRead}
use Rattle.blk_files.proofs.Options.{of_some}
use Rattle.blk_files.proofs.PieceByPiece.{over-read}
use Rattle.blk_files.proofs.opened.Opened.new.Goals as goal

pub invariant_of-result : goal.invariant_of-result
invariant_of-result g c =
    let tells = g.F.ByteFile.bytes in
    let size = c.blocks_in-size.result in
    let whole = c.in-Some.field-0 in
    let told = tells c.len.new.self in
    let within : ForSome told (λ f. size * 512 ≤ length f) = λ f e.
    let count = of_some (tells c.args.file) (λ h. c.in-Ok.bytes ≡ length h) f c.in-Ok.ensures.answer (sym c.in-Ok.ensures.bytes ∙ e) in
    omega (arith, count, c.blocks_in-size.ensures) in
    let read = of_some c.in_ok-all.field-0 (λ w. IsRead size told w.notes.bytes w.all.items) whole c.in_ok-all.ensures.whole c.in-Some.is in
    subst (λ t. ForSome (bytes_known t (Some whole.notes)) (IsOver size whole.all.items)) (sym c.in_ok-all.ensures.stays) (over-read size told whole.notes.bytes whole.all.items within read)
