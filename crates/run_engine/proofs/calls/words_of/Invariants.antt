use Rattle.std.proofs.Common.{◌≡◌, map, string_bytes, take}
use Rattle.run_engine.proofs.calls.words_of.Given as goal

abbrev pub invariant-loop-word : goal.invariant-loop-word
invariant-loop-word l = l.words.items ≡ map string_bytes (take l.word-index l.line)
