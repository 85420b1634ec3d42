use Rattle.std.proofs.Common.{◌≡◌, ◌∙◌, ◌+◌, ◌*◌, ◌/◌, ◌++◌, length, ap, subst, sym, arith}
use Rattle.std.specs.Prelude.{IfSome}
use Rattle.std.specs.Simd.{first_chunks}
use Rattle.base_words.specs.Fields.{put}
use Rattle.blk_files.specs.Files.{Holds}
use Rattle.blk_files.specs.Reading.{IsRead}
use Rattle.blk_files.proofs.PieceByPiece.{read-more}
use Rattle.blk_files.proofs.whole.read_piece.Goals as goal

pub returns-in_ok-add-in-Ok-clause-read : goal.returns-in_ok-add-in-Ok-clause-read
returns-in_ok-add-in-Ok-clause-read g c =
    let tells = g.F.ByteFile.bytes c.args.file.now in
    let lbn = c.args.lbn in
    let buf = c.read_at.new.buf in
    let n = length c.args.piece.now / 512 in
    let was = c.args.whole.now in
    let now = c.add.new.self in
    let add = c.in_ok-add-in-Ok.ensures in
    let same : length buf ≡ length c.args.piece.now = c.read_at.auto.buf in
    let long : length buf ≡ 512 * n = omega (arith, same, c.requires.blocks) in
    let count : length buf / 512 ≡ n = omega (arith, same) in
    let at : c.from-at.result * 512 ≡ 512 * lbn = omega (arith, c.from-at.ensures) in
    let has = subst (λ o. IfSome tells (λ f. Holds f o buf)) at c.in-Ok.ensures.ok in
    let noted = sym (add.notes ∙ ap (λ o. put was.notes.bytes o buf) at) in
    let blocks = sym (add.blocks ∙ ap (λ m. was.all.items ++ first_chunks 512 m buf) count) in
    subst (λ bs. IsRead (lbn + n) tells now.notes.bytes bs) blocks
    (subst (λ bytes. IsRead (lbn + n) tells bytes (was.all.items ++ first_chunks 512 n buf)) noted
    (read-more lbn n tells was.notes.bytes was.all.items buf long has c.requires.read))
