use Rattle.std.proofs.Common.{◌≡◌, ◌/◌, ◌∙◌, Some, ap, sym, subst}
use Rattle.base_words.specs.Fields.{Block}
use Rattle.plain_rules.specs.Lookups.{extra}
use Rattle.vol_spell.specs.Reading.{fields_told}
use Rattle.op_steps.specs.Chains.{AreHeaders}
use Rattle.op_access.proofs.Looking.{used_seq}
use Rattle.op_access.proofs.closing.header_looked.Goals as goal

pub file_looked-requires-clause-followed : goal.file_looked-requires-clause-followed
file_looked-requires-clause-followed c = λ marked.
    let g = c.args.g.now in
    let f = c.in-Some.f in
    let b = c.args.head.now in
    let seen = c.args.rest.blocks.now in
    let head : f.head.now ≡ b = c.in-Some.ensures.readable.head in
    let told : fields_told b ≡ Some f.fields = ap fields_told (sym head) ∙ c.in-Some.ensures.readable.readable.reads in
    subst (λ (y : Block). AreHeaders g (extra (f.fields.blocks / g.cluster)) f.fields y seen) (sym head)
    (c.requires.followed f.fields told (used_seq g c.args.channel.file.num c.args.channel.file.seq b f told (c.in-Some.ensures.file g)) marked)
