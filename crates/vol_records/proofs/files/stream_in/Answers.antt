use Rattle.std.proofs.Common.{◌≡◌, ◌∙◌, ◌++◌, ◌*◌, ◌-◌, length, take, sym, ap, rules}
use Rattle.std.specs.Prelude.{replicate}
use Rattle.std.specs.Vec.{vec_len}
use Rattle.vol_records.specs.Streams.{stream_in, end_at, blocks_below}
use Rattle.vol_records.proofs.Showing.{bytes_of, shown-bytes}
use Rattle.vol_records.proofs.files.stream_in.Goals as goal

pub returns : goal.returns
unfolding stream_in
returns c =
    let f = c.args.f.now in
    let bs = c.args.blocks.now in
    let front = c.extend_from_slice.new.self.items in
    let room = length c.as_flattened-room.result.now in
    let copied : front ≡ c.as_flattened.result.now = c.in_ok-extend_from_slice.ensures.items ∙ ap (λ x. x ++ c.as_flattened.result.now) c.in_ok-bytes.ensures.items in
    let below = c.blocks_below.ensures.value in
    let is : front ≡ bytes_of (take (blocks_below f.mark (length bs)) bs) = copied ∙ c.as_flattened.ensures.value ∙ ap (λ k. bytes_of (take k bs)) below in
    let long : length front ≡ length (take (blocks_below f.mark (length bs)) bs) * 512 = ap length copied ∙ c.as_flattened.ensures.len ∙ ap (λ k. length (take k bs) * 512) below in
    let len : vec_len c.extend_from_slice.new.self ≡ length front = search rules in
    let shown = shown-bytes f.mark bs front room is long c.as_flattened-room.ensures.len in
    c.truncate.ensures.items
    ∙ ap (λ k. take k c.resize.new.self.items) c.end_at.ensures
    ∙ ap (λ x. take (end_at f.end f.byte) x) (c.in_ok-resize.ensures.items ∙ ap (λ n. take room front ++ replicate (room - n) 0) len ∙ sym shown)
