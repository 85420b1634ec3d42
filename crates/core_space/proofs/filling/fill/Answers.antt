use Rattle.std.proofs.Common.{◌≡◌, ◌∙◌, ℕ, Bool, List, length, sym, ap}
use Rattle.std.specs.Prelude.{min}
use Rattle.base_words.specs.Fields.{Block}
use Rattle.core_space.specs.Searching.{free_from}
use Rattle.core_space.specs.Answering.{blocks_alone}
use Rattle.core_space.specs.Filling.{numbers_taken, filled}
use Rattle.core_space.proofs.Loops.{filled_none, filled_some}
use Rattle.core_space.proofs.filling.fill.Goals as goal

pub returns-then-not-suffices : goal.returns-then-not-suffices
returns-then-not-suffices c =
    let g = c.args.geometry.now in
    let bs : List Block = blocks_alone c.args.looked.now in
    let need = c.args.need.clusters in
    let held = c.count-held.result in
    let lacks = c.lacks_number-lacks.result in
    let numbers : c.items-found.result.now ≡ numbers_taken g lacks bs = c.items-found.ensures ∙ c.in_ok-numbers.ensures.numbers in
    filled_none g need held lacks bs c.items-found.result.now c.count_free-free.result numbers
    (c.count_free-free.ensures.count ∙ ap (λ (xs : List Block). length (free_from g 0 xs)) c.storage_part-storage.ensures)
    (sym c.suffices.ensures ∙ c.if-not-suffices.true)
    ∙ ap (λ (h : ℕ). filled g need h lacks bs) c.count-held.ensures.count
    ∙ ap (λ (l : Bool). filled g need (length c.args.stock.now.clusters) l bs) c.lacks_number-lacks.ensures

pub returns : goal.returns
returns c =
    let g = c.args.geometry.now in
    let bs : List Block = blocks_alone c.args.looked.now in
    let need = c.args.need.clusters in
    let held = c.count-held.result in
    let lacks = c.lacks_number-lacks.result in
    let free = c.count_free-free.result in
    let numbers : c.items-found.result.now ≡ numbers_taken g lacks bs = c.items-found.ensures ∙ c.in_ok-numbers.ensures.numbers in
    filled_some g need held lacks bs c.items-found.result.now free c.min-count.result c.in_ok-writes.writes c.add_clusters.new.writes (blocks_alone c.storage_part-storage.result.now) numbers c.storage_part-storage.ensures c.count_free-free.ensures.count
    (c.min-count.ensures ∙ ap (λ (n : ℕ). min n free) c.clusters_to_take.ensures.count)
    (sym c.suffices.ensures ∙ c.if-not-suffices.false)
    c.in_ok-writes.ensures c.in_ok-add_clusters.ensures
    ∙ ap (λ (h : ℕ). filled g need h lacks bs) c.count-held.ensures.count
    ∙ ap (λ (l : Bool). filled g need (length c.args.stock.now.clusters) l bs) c.lacks_number-lacks.ensures
