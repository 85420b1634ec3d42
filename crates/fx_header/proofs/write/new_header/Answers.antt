use Rattle.std.proofs.Common.{◌≡◌, ◌∙◌, ap, sym, subst, arith, IsTrue}
use Rattle.base_words.specs.Fields.{summed}
use Rattle.base_words.specs.Tables.{zeros, laid}
use Rattle.fx_header.specs.Headers.{area_rows, id_rows, size_rows, owner_rows, with_name, header_bytes, flags_of, has_offsets, map_area, fields_of, IsMade, ReadsBack}
use Rattle.fx_header.proofs.NewLemmas.{Ranges, new-laid, new-reads, new-told, new-fields, new-made, header-area}
use Rattle.fx_header.proofs.write.new_header.Goals as goal

is-written : (c : goal.After-set_sum) → c.set_sum.new.b ≡ header_bytes c.args.h.now c.args.text.now c.args.parent
unfolding header_bytes
is-written c =
    let h = c.args.h.now in
    let areas = c.put_areas.ensures ∙ ap (laid (area_rows h.seg)) c.zeros-b.ensures in
    let ids = c.put_ids.ensures.written ∙ ap (λ b. laid (id_rows 14 h.ext h.ext_seq) (laid (id_rows 8 h.num h.seq) b)) areas in
    let size = c.put_size.ensures ∙ ap (laid (size_rows h.blocks h.end h.byte)) ids in
    let owner =
    c.put_owner.ensures
    ∙ ap (λ flags. laid (owner_rows flags h.owner c.args.parent h.mark) c.put_size.new.b) c.flags_of.ensures
    ∙ ap (laid (owner_rows (flags_of h) h.owner c.args.parent h.mark)) size in
    let name = c.put_name.ensures ∙ ap (λ b. with_name b c.args.text.now) (owner ∙ new-laid h c.args.parent zeros) in
    c.set_sum.ensures ∙ ap summed name

ranges : (c : goal.After-set_sum) → Ranges c.args.h.now
ranges c = record {
  from = c.requires.number.0;
  num = c.requires.number.1;
  seq = c.put_ids.ensures.seq;
  owner = omega arith;
  blocks = omega (arith, c.requires.blocks);
  mark = omega (arith, c.requires.mark, c.requires.blocks);
  end = omega (arith, c.requires.end, c.requires.blocks);
  byte = omega (arith, c.requires.byte);
  seg = c.requires.seg;
  ext = omega (arith, c.requires.ext);
  ext_seq = c.put_ids.ensures.ext_seq;
}

pub returns-clause-written : goal.returns-clause-written
returns-clause-written c = is-written c

pub returns-clause-offsets : goal.returns-clause-offsets
returns-clause-offsets c =
    subst (λ b. IsTrue (has_offsets b)) (sym (is-written c)) (new-told c.args.h.now c.args.text.now c.args.parent (ranges c)).offsets

pub returns-clause-area : goal.returns-clause-area
returns-clause-area c = ap map_area (is-written c) ∙ header-area c.args.h.now c.args.text.now c.args.parent

pub returns-clause-fields : goal.returns-clause-fields
returns-clause-fields c = ap fields_of (is-written c) ∙ new-fields c.args.h.now c.args.text.now c.args.parent (ranges c)

pub returns-clause-made : goal.returns-clause-made
returns-clause-made c = subst IsMade (sym (is-written c)) (new-made c.args.h.now c.args.text.now c.args.parent (ranges c))

pub returns-clause-reads : goal.returns-clause-reads
returns-clause-reads c =
    subst (λ b. ReadsBack b c.args.h.now) (sym (is-written c))
    (new-reads c.args.h.now c.args.text.now c.args.parent (ranges c) (λ first. (c.requires.end, c.requires.mark)) (λ first. c.requires.byte))
