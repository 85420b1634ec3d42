use Rattle.std.proofs.Common.{◌≡◌, ◌≤◌, decimal, length, drop, ap, arith, length-drop, length-append}
use Rattle.std.proofs.lemmas.Fmt.{length-decimal-le}
use Rattle.plain_texts.proofs.tail.Tail.number.Goals as goal

pub write_digits-self-inside-requires : goal.write_digits-self-inside-requires
write_digits-self-inside-requires c =
    let at = c.self.inside in
    let seen : length (drop at.start at.bytes) ≡ length c.args.self.now = ap length c.self.view_is in
    let behind = length-drop at.start at.bytes in
    let few : length (decimal c.from.result) ≤ 10 = length-decimal-le 10 c.from.result (omega arith) (omega arith) (omega arith) in
    (omega (arith, seen, behind, few, c.requires), omega (arith, seen, behind))

pub returns-clause-short : goal.returns-clause-short
returns-clause-short c =
    let at = c.self.inside in
    let seen : length (drop at.start at.bytes) ≡ length c.args.self.now = ap length c.self.view_is in
    let few : length (decimal c.from.result) ≤ 10 = length-decimal-le 10 c.from.result (omega arith) (omega arith) (omega arith) in
    omega (arith, seen, few, ap length c.write_digits-self-inside.ensures.written, length-append (decimal c.from.result) (drop at.start at.bytes))
