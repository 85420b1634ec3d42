use Rattle.std.proofs.Common.{◌≡◌, ◌∙◌, ◌+◌, ◌≤◌, ◌++◌, ap, subst, length}
use Rattle.std.specs.Prelude.{slice_range}
use Rattle.std.specs.Simd.{first_chunks}
use Rattle.blk_files.specs.Files.{bytes_of}
use Rattle.blk_files.proofs.Holding.{range-over}
use Rattle.blk_files.proofs.Options.{if_mapped}
use Rattle.blk_files.proofs.opened.Opened.copy_onto.Goals as goal

pub returns-in-Ok-clause-blocks : goal.returns-in-Ok-clause-blocks
returns-in-Ok-clause-blocks g c =
    let tells = g.F.ByteFile.bytes in
    let image = c.args.self.now in
    let old = c.args.all.now.items in
    let start = c.args.lbn in
    let end = start + c.args.count in
    let inside = c.self.inside in
    let look = c.in-Some.ensures.lookup.0 in
    let value = c.as_slice.ensures.value in
    let high : end ≤ length inside.loaded.items = subst (λ xs. end ≤ length xs) value look.1 in
    if_mapped (first_chunks 512 image.size) (bytes_of tells image) (λ blocks. c.extend_from_slice.new.self.items ≡ old ++ slice_range blocks start end) (λ f e.
    let over = c.self.invariant f (ap (bytes_of tells) c.self.view_is ∙ e) in
    c.in-Ok.ensures.items
    ∙ ap (λ xs. old ++ xs) (look.2 ∙ ap (λ xs. slice_range xs start end) value ∙ range-over inside.size inside.loaded.items f start end over look.0 high)
    ∙ ap (λ s. old ++ slice_range (first_chunks 512 s.size f) start end) c.self.view_is)
