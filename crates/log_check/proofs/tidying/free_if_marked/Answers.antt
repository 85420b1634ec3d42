use Rattle.std.proofs.Common.{◌≡◌, ◌∙◌, cond, slice_set, sym, ap}
use Rattle.base_words.proofs.Listing.{set_same}
use Rattle.plain_cat.specs.declared.cat.Slot.{Slot}
use Rattle.plain_cat.specs.declared.cat.Slot.TheVariants.{Used, Free}
use Rattle.plain_tidy.specs.Tidy.{less_marked}
use Rattle.log_check.proofs.InPlace.{read_is}
use Rattle.log_check.proofs.tidying.free_if_marked.Goals as goal

pub returns-in_default : goal.returns-in_default
returns-in_default c s at =
    let is : s ≡ Used c.in-Used.file = read_is c.args.files.now c.items.result.now c.args.at s c.index-items-at.result at c.items.ensures c.index-items-at.is ∙ c.in-Used.is in
    let stays : less_marked s ≡ s = ap less_marked is ∙ (ap (λ b. cond b (Free c.in-Used.file.seq) (Used c.in-Used.file)) c.if-file.false ∙ sym is) in
    sym (ap (λ (x : Slot). slice_set c.args.files.now c.args.at x) stays ∙ set_same c.args.files.now c.args.at s at)

pub returns-in_default-2 : goal.returns-in_default-2
returns-in_default-2 c s at =
    let is : s ≡ Free c.in_default.field-0 = read_is c.args.files.now c.items.result.now c.args.at s c.index-items-at.result at c.items.ensures c.index-items-at.is ∙ c.in_default.is in
    let stays : less_marked s ≡ s = ap less_marked is ∙ sym is in
    sym (ap (λ (x : Slot). slice_set c.args.files.now c.args.at x) stays ∙ set_same c.args.files.now c.args.at s at)

pub returns : goal.returns
returns c s at =
    let is : s ≡ Used c.in-Used.file = read_is c.args.files.now c.items.result.now c.args.at s c.index-items-at.result at c.items.ensures c.index-items-at.is ∙ c.in-Used.is in
    let goes : less_marked s ≡ Free c.in-Used.file.seq = ap less_marked is ∙ ap (λ b. cond b (Free c.in-Used.file.seq) (Used c.in-Used.file)) c.if-file.true in
    c.set.ensures ∙ ap (λ (x : Slot). slice_set c.args.files.now c.args.at x) (sym goes)
