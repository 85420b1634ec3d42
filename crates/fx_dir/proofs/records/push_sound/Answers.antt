use Rattle.std.proofs.Common.{◌≡◌, ◌∙◌, ◌<◌, ◌≤◌, ◌++◌, false, Some, List, ℕ, sym, ap, subst, arith, drop, length, length-drop}
use Rattle.std.specs.Prelude.{IsSome}
use Rattle.fx_dir.specs.declared.RawEnt.{RawEnt}
use Rattle.fx_dir.specs.Directory.{entries_at}
use Rattle.fx_dir.specs.Pieces.{behind}
use Rattle.fx_dir.specs.Records.{record_length, name_in, is_end, record_entries, records_in, block_entries}
use Rattle.fx_dir.proofs.Appending.{block-whole, sure}
use Rattle.fx_dir.proofs.Forming.{named}
use Rattle.fx_dir.proofs.Steps.{name-short}
use Rattle.fx_dir.proofs.Streams.{Left, records-begin, records-end, records-go, record-there}
use Rattle.fx_dir.proofs.Wanted.{record-versions}
use Rattle.fx_dir.proofs.records.push_sound.Goals as goal

-- the record that begins here
here : (b : List ℕ) (old list : List RawEnt) (rest : List ℕ) → IsSome (block_entries b) → 2 ≤ length rest → is_end rest ≡ false → Left (behind old (records_in (length b) b)) list rest → IsSome (record_entries rest)
here b old list rest some long goes left = record-there _ (old ++ entries_at b) list rest long goes (ap (behind old) (block-whole b some)) left

pub loop-rest-init : goal.loop-rest-init
loop-rest-init c = record { long = omega arith; left = records-begin c.args.list.now.items c.args.b.now }

pub is_end-requires : goal.is_end-requires
is_end-requires c = c.loop-rest.invariant.long

pub push_named-requires-clause-room : goal.push_named-requires-clause-room
push_named-requires-clause-room c =
    (record-versions c.loop-rest.rest.now (here c.args.b.now _ _ c.loop-rest.rest.now c.requires c.loop-rest.invariant.long (sym c.is_end.ensures ∙ c.loop-rest-test.true) c.loop-rest.invariant.left)).room

pub push_named-requires-clause-head : goal.push_named-requires-clause-head
push_named-requires-clause-head c =
    (record-versions c.loop-rest.rest.now (here c.args.b.now _ _ c.loop-rest.rest.now c.requires c.loop-rest.invariant.long (sym c.is_end.ensures ∙ c.loop-rest-test.true) c.loop-rest.invariant.left)).head

pub push_named-requires-clause-named : goal.push_named-requires-clause-named
push_named-requires-clause-named c =
    let rest = c.loop-rest.rest.now in
    let v = record-versions rest (here c.args.b.now _ _ rest c.requires c.loop-rest.invariant.long (sym c.is_end.ensures ∙ c.loop-rest-test.true) c.loop-rest.invariant.left) in
    name-short (name_in rest) (named rest v.named)

pub record_length-requires : goal.record_length-requires
record_length-requires c = c.loop-rest.invariant.long

pub split_at-requires : goal.split_at-requires
split_at-requires c =
    let v = record-versions c.loop-rest.rest.now (here c.args.b.now _ _ c.loop-rest.rest.now c.requires c.loop-rest.invariant.long (sym c.is_end.ensures ∙ c.loop-rest-test.true) c.loop-rest.invariant.left) in
    omega arith

pub loop-rest-preserved : goal.loop-rest-preserved
loop-rest-preserved c =
    let rest = c.loop-rest.rest.now in
    let goes : is_end rest ≡ false = sym c.is_end.ensures ∙ c.loop-rest-test.true in
    let there = here c.args.b.now _ _ rest c.requires c.loop-rest.invariant.long goes c.loop-rest.invariant.left in
    let v = record-versions rest there in
    let some = sure _ _ _ _ c.in_ok-push_named.ensures (subst IsSome v.entries there) in
    let back : c.split_at.result.1.now ≡ drop (record_length rest) rest = c.split_at.ensures.back ∙ ap (λ n. drop n rest) c.record_length.ensures.value in
    let fewer : length (drop (record_length rest) rest) < length rest = omega (arith, length-drop (record_length rest) rest) in
    record {
      long = rw back (omega (arith, length-drop (record_length rest) rest));
      left = rw back (records-go _ c.loop-rest.list.items some.0 _ rest c.loop-rest.invariant.long goes (v.entries ∙ some.1) some.2 fewer c.loop-rest.invariant.left);
    }

pub returns : goal.returns
returns c =
    let end = records-end _ c.loop-rest.list.items c.loop-rest.rest.now c.loop-rest.invariant.long (sym c.is_end.ensures ∙ c.loop-rest-test.false) c.loop-rest.invariant.left in
    let all = ap (behind c.args.list.now.items) (block-whole c.args.b.now c.requires) in
    let same : Some c.loop-rest.list.items ≡ Some (c.args.list.now.items ++ entries_at c.args.b.now) = sym end ∙ all in
    cc same
