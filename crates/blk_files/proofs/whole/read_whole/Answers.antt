use Rattle.std.proofs.Common.{◌≡◌, ◌∙◌, ◌+◌, ◌*◌, ◌/◌, ◌≤◌, length, take, subst, arith}
use Rattle.std.proofs.lemmas.List.{length-take-le}
use Rattle.blk_files.specs.Reading.{IsRead}
use Rattle.blk_files.proofs.Options.{of_true}
use Rattle.blk_files.proofs.whole.read_whole.Goals as goal

pub loop-lbn-preserved : goal.loop-lbn-preserved
loop-lbn-preserved g c =
    let h = c.loop-lbn.invariant in
    let tells = g.F.ByteFile.bytes in
    let lbn = c.loop-lbn.lbn in
    let n = c.min-count.result in
    let piece = c.loop-lbn.piece in
    let whole = c.read_piece.new.whole in
    let room : n * 512 ≤ length piece = omega (arith, c.min-count.ensures, c.loop-lbn.auto.piece, c.as_mut_slice-piece.ensures.len, c.in_ok-buffer.ensures.len) in
    let long = length-take-le (n * 512) piece room in
    let count : lbn + length (take (n * 512) piece) / 512 ≡ lbn + n = omega (arith, long) in
    record {
      low = omega (arith, c.min-count.ensures, c.loop-lbn-test.true);
      stays = c.in_ok-read_piece.ensures.stays ∙ h.stays;
      read =
          subst (λ t. IsRead (lbn + n) t whole.notes.bytes whole.all.items) h.stays
          (subst (λ m. IsRead m (tells c.loop-lbn.file) whole.notes.bytes whole.all.items) count
          (of_true c.in_ok-read_piece.field-0 {P = IsRead (lbn + length (take (n * 512) piece) / 512) (tells c.loop-lbn.file) whole.notes.bytes whole.all.items} c.in_ok-read_piece.ensures.read c.if-not-branch.false));
    }

pub returns-clause-whole : goal.returns-clause-whole
returns-clause-whole g c =
    let h = c.loop-lbn.invariant in
    let whole = c.loop-lbn.whole in
    let all : c.loop-lbn.lbn ≡ c.args.size = omega (arith, h.low, c.loop-lbn-test.false) in
    subst (λ n. IsRead n (g.F.ByteFile.bytes c.args.file.now) whole.notes.bytes whole.all.items) all h.read
