-- The runs that a header lists have a block at least.
use Rattle.std.proofs.Common.{◌≡◌, refl, ap, ◌+◌, ◌≤◌, ◌==◌, ℕ, zero, suc, Bool, true, false, List, [], Option, Some, None, All, drop, length, nat_le, arith}
use Rattle.std.specs.Prelude.{if◌then◌else◌}
use Rattle.std.proofs.lemmas.List.Elements.{All-nil, All-cons}
use Rattle.base_words.specs.Fields.{Block}
use Rattle.fx_header.specs.declared.run.Run.{Run}
use Rattle.fx_header.specs.declared.slot.Hdr.{Hdr}
use Rattle.fx_header.specs.Headers.{map_bytes, runs_in}
use Rattle.fx_header.specs.Pointers.{format_of, pointer_size, run_from, pointer_run, before, spelt, runs_of}
use Rattle.vol_parts.specs.Volumes.{Volume, header_at, used_slot, runs_with, listed_in}
use Rattle.vol_parts.specs.ChainLaws.{HasBlocks}

-- a run, if there is one, has a block
record RunHas (o : Option Run) : Type 0 where
  each : (r : Run) → o ≡ Some r → 1 ≤ r.count

none_has : RunHas None
none_has = record { each = λ r e. absurd (cc) }

from_has : (lbn count : ℕ) → RunHas (run_from lbn count)
from_has lbn count = record { each = λ r e. counted r e }
  where
    counted : (r : Run) → run_from lbn count ≡ Some r → 1 ≤ r.count
    counted r e =
        let one : record { lbn = lbn; count = count + 1 } ≡ r = cc in
        let same : count + 1 ≡ r.count = ap (λ (q : Run). q.count) one in
        omega arith

one_of : (t : Bool) (a b : Option Run) → RunHas a → RunHas b → RunHas (if t then a else b)
one_of true a b ha hb = ha
one_of false a b ha hb = hb

pointer_has : (p : List ℕ) → RunHas (pointer_run p)
unfolding pointer_run
pointer_has p =
    one_of (format_of p == 0) _ _ none_has
    (one_of (format_of p == 1) _ _ (from_has _ _) (one_of (format_of p == 2) _ _ (from_has _ _) (from_has _ _)))

before_has : (o : Option Run) (rs : List Run) → RunHas o → All HasBlocks rs → All HasBlocks (before o rs)
before_has None rs first all = all
before_has (Some r) rs first all = All-cons HasBlocks r rs (first.each r refl) all

or_none : (t : Bool) (rs : List Run) → All HasBlocks rs → All HasBlocks (if t then rs else [])
or_none true rs all = all
or_none false rs all = All-nil HasBlocks

spelt_has : (n : ℕ) (p : List ℕ) → All HasBlocks (spelt n p)
unfolding spelt
spelt_has zero p = All-nil HasBlocks
spelt_has (suc n) p =
    or_none (nat_le (pointer_size p) (length p)) (before (pointer_run p) (spelt n (drop (pointer_size p) p)))
    (before_has (pointer_run p) (spelt n (drop (pointer_size p) p)) (pointer_has p) (spelt_has n (drop (pointer_size p) p)))

pub runs-some : (b : Block) → All HasBlocks (runs_in b)
unfolding runs_of
runs-some b = spelt_has (length (map_bytes b)) (map_bytes b)

with_some : (o : Option Hdr) (b : Block) → All HasBlocks (runs_with o b)
with_some None b = All-nil HasBlocks
with_some (Some f) b = runs-some b

pub listed-some : (v : Volume) (n : ℕ) → All HasBlocks (listed_in v n)
listed-some v n = with_some (used_slot v n) (header_at v n)
