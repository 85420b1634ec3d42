use Rattle.std.proofs.Common.{◌≡◌, ◌++◌, take}
use Rattle.std.specs.List.{flat_map}
use Rattle.plain_texts.specs.Replies.{listed_text}
use Rattle.plain_texts.proofs.replies.push_entries.Given as goal

abbrev pub invariant-loop-e : goal.invariant-loop-e
invariant-loop-e l = l.out.items ≡ l.initial.out.items ++ flat_map listed_text (take l.e-index l.entries)
