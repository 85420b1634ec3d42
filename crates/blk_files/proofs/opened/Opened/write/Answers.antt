use Rattle.std.proofs.Common.{◌≡◌, ◌∙◌, ◌*◌, ◌<◌, ap, subst, sym, arith, inl, inr}
use Rattle.std.specs.Prelude.{option_map}
use Rattle.std.specs.Option.{ForSome}
use Rattle.std.specs.Simd.{first_chunks}
use Rattle.blk_drive.specs.Images.{told_set}
use Rattle.blk_files.specs.Files.{IsOver, blocks_of, put_in}
use Rattle.blk_files.specs.Noted.{bytes_known}
use Rattle.blk_files.proofs.Holding.{over-written, told-put}
use Rattle.blk_files.proofs.opened.Opened.write.Goals as goal

pub returns-then-not-write_noted-clause-failed : goal.returns-then-not-write_noted-clause-failed
returns-then-not-write_noted-clause-failed g c =
    let inside = c.self.inside in
    let tells = g.F.ByteFile.bytes in
    let old = bytes_known (tells inside.file) inside.notes in
    let b = c.args.b.now in
    let at : c.from-at.result * 512 ≡ 512 * c.args.lbn = omega (arith, c.from-at.ensures) in
    let small : c.args.lbn < inside.size = subst (λ s. c.args.lbn < s.size) (sym c.self.view_is) c.requires in
    let told = told-put inside.size inside.loaded.items c.args.lbn b old small c.told-b c.self.invariant in
    elim c.write_noted.ensures.whole [
      | inl same ↦ inl (ap (option_map (first_chunks 512 inside.size)) same ∙ ap (blocks_of tells) c.self.view_is)
      | inr there ↦ inr (ap (option_map (first_chunks 512 inside.size)) (there ∙ ap (λ o. put_in old o b) at) ∙ told ∙ ap (λ s. told_set (blocks_of tells s) c.args.lbn b) c.self.view_is)
    ]

pub invariant_of-self-2 : goal.invariant_of-self-2
invariant_of-self-2 g c =
    let inside = c.self.inside in
    let tells = g.F.ByteFile.bytes in
    let old = bytes_known (tells inside.file) inside.notes in
    let new = bytes_known (tells c.write_noted.new.file) c.write_noted.new.notes in
    let b = c.args.b.now in
    let at : c.from-at.result * 512 ≡ 512 * c.args.lbn = omega (arith, c.from-at.ensures) in
    let small : c.args.lbn < inside.size = subst (λ s. c.args.lbn < s.size) (sym c.self.view_is) c.requires in
    let there = c.if-not-write_noted.ensures.ok ∙ ap (λ o. put_in old o b) at in
    subst (λ blocks. ForSome new (IsOver inside.size blocks)) (sym c.set_block.ensures)
    (over-written inside.size inside.loaded.items c.args.lbn b old new small c.told-b c.self.invariant there)

pub returns-clause-ok : goal.returns-clause-ok
returns-clause-ok g c =
    let inside = c.self.inside in
    let tells = g.F.ByteFile.bytes in
    let old = bytes_known (tells inside.file) inside.notes in
    let b = c.args.b.now in
    let at : c.from-at.result * 512 ≡ 512 * c.args.lbn = omega (arith, c.from-at.ensures) in
    let small : c.args.lbn < inside.size = subst (λ s. c.args.lbn < s.size) (sym c.self.view_is) c.requires in
    let there = c.if-not-write_noted.ensures.ok ∙ ap (λ o. put_in old o b) at in
    ap (option_map (first_chunks 512 inside.size)) there
    ∙ told-put inside.size inside.loaded.items c.args.lbn b old small c.told-b c.self.invariant
    ∙ ap (λ s. told_set (blocks_of tells s) c.args.lbn b) c.self.view_is
