use Rattle.std.proofs.Common.{◌∙◌, sym, arith, inl, refl}
use Rattle.run_script.proofs.Numerals.{odd-none, no_text-none, unparsed-none, parsed-some, outside-none}
use Rattle.vol_show.proofs.parts.read_number.Goals as goal

pub returns-then-has_odd_start-clause-value : goal.returns-then-has_odd_start-clause-value
returns-then-has_odd_start-clause-value c =
    odd-none 10 0 c.args.high c.args.word.now (inl refl) c.ranges.high.fits (sym c.has_odd_start.ensures ∙ c.if-has_odd_start.true)

pub returns-in_default-clause-value : goal.returns-in_default-clause-value
returns-in_default-clause-value c = no_text-none 10 0 c.args.high c.args.word.now (inl refl) c.ranges.high.fits c.in_default.ensures.cases.0

pub returns-in-Ok-from_str_radix-clause-value : goal.returns-in-Ok-from_str_radix-clause-value
returns-in-Ok-from_str_radix-clause-value c =
    parsed-some 10 0 c.args.high c.args.word.now c.in-Ok.text.now (inl refl) c.ranges.high.fits (sym c.has_odd_start.ensures ∙ c.if-has_odd_start.false) c.in-Ok.ensures.cases.0 c.from_str_radix.result c.in-Ok-from_str_radix.n c.from_str_radix.ensures.value c.in-Ok-from_str_radix.is (omega arith) c.if-n-high.true

pub returns-in_default-from_str_radix-clause-value : goal.returns-in_default-from_str_radix-clause-value
returns-in_default-from_str_radix-clause-value c =
    outside-none 10 0 c.args.high c.args.word.now c.in-Ok.text.now (inl refl) c.ranges.high.fits (sym c.has_odd_start.ensures ∙ c.if-has_odd_start.false) c.in-Ok.ensures.cases.0 c.from_str_radix.result c.in-Ok-from_str_radix.n c.from_str_radix.ensures.value c.in-Ok-from_str_radix.is (λ above below. omega (arith, c.if-n-high.false))

pub returns-in_default-from_str_radix-2-clause-value : goal.returns-in_default-from_str_radix-2-clause-value
returns-in_default-from_str_radix-2-clause-value c =
    unparsed-none 10 0 c.args.high c.args.word.now c.in-Ok.text.now (inl refl) c.ranges.high.fits (sym c.has_odd_start.ensures ∙ c.if-has_odd_start.false) c.in-Ok.ensures.cases.0 c.in_default-from_str_radix.field-0 c.in_default-from_str_radix.ensures.value
