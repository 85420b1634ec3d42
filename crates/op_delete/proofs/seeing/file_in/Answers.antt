use Rattle.std.proofs.Common.{◌≡◌, ◌≤◌, ◌/◌, ◌∙◌, ℕ, Some, ap, sym, subst}
use Rattle.base_words.specs.Fields.{Block}
use Rattle.plain_rules.specs.Lookups.{extra}
use Rattle.vol_spell.specs.Reading.{fields_told}
use Rattle.op_law.specs.Readable.{AreInside}
use Rattle.op_steps.specs.Chains.{AreHeaders}
use Rattle.op_delete.proofs.seeing.file_in.Goals as goal

pub returns-in-Some-clause-file : goal.returns-in-Some-clause-file
returns-in-Some-clause-file c =
    let g = c.args.volume.now in
    let f = c.in-Some.f in
    let b = c.args.head.now in
    let seen = c.args.rest.blocks.now in
    let is = c.in-Some.ensures.readable in
    let told : fields_told b ≡ Some f.fields = ap fields_told (sym is.head) ∙ is.readable.reads in
    record {
      number = subst (λ (n : ℕ). n ≤ g.files) (sym is.number) c.requires.number;
      alone = is.alone;
      readable = is.readable;
      inside = subst AreInside (sym is.head) c.requires.inside;
      headers = subst (λ (y : Block). AreHeaders g (extra (f.fields.blocks / g.cluster)) f.fields y seen) (sym is.head) (c.requires.followed f.fields told);
    }
