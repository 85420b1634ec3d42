use Rattle.std.proofs.Common.{◌∙◌, List, sym, ap, subst}
use Rattle.fx_header.specs.declared.run.Run.{Run}
use Rattle.fx_header.specs.Headers.{HasRoom}
use Rattle.fx_header.specs.Pointers.{merged}
use Rattle.vol_parts.specs.Chains.{cut}
use Rattle.vol_spell.specs.Reading.{header_block}
use Rattle.vol_rebuild.proofs.Reading.{header_on}
use Rattle.vol_rebuild.proofs.Surpluses.{none_cut, whole, slot_number, reads, offsets, map, no_more, room, for_surplus}
use Rattle.vol_rebuild.proofs.surplus.cut_header.Goals as goal

pub returns-in_default : goal.returns-in_default
returns-in_default c = λ x t. none_cut c.args.g.now c.args.blocks.now x t c.home_of-home.result c.home_of-home.ensures.read c.args.n c.requires.number (sym c.fields.ensures ∙ c.in_default.is)

pub last_header-last-requires-clause-whole : goal.last_header-last-requires-clause-whole
last_header-last-requires-clause-whole c =
    whole c.args.g.now c.args.blocks.now c.requires.told.0 c.requires.told.1 c.home_of-home.result c.home_of-home.ensures.read c.args.n c.requires.number c.in-Some.first (sym c.fields.ensures ∙ c.in-Some.is)

pub bounds-blocks-g : goal.bounds-blocks-g
bounds-blocks-g c =
    let l = c.last_header-last in
    header_on c.args.g.now c.args.blocks.now c.requires.told.0 c.requires.told.1 l.result.slot
    (slot_number c.args.g.now c.args.blocks.now c.requires.told.0 c.requires.told.1 c.home_of-home.result c.home_of-home.ensures.read c.args.n c.requires.number c.in-Some.first (sym c.fields.ensures ∙ c.in-Some.is) l.result.slot l.result.header l.result.rest l.ensures)

pub has_more-requires-clause-offsets : goal.has_more-requires-clause-offsets
has_more-requires-clause-offsets c =
    let l = c.last_header-last in
    offsets c.args.g.now c.args.blocks.now c.requires.told.0 c.requires.told.1 c.home_of-home.result c.home_of-home.ensures.read c.args.n c.requires.number c.in-Some.first (sym c.fields.ensures ∙ c.in-Some.is) l.result.slot l.result.header l.result.rest l.ensures

pub has_more-requires-clause-map : goal.has_more-requires-clause-map
has_more-requires-clause-map c =
    let l = c.last_header-last in
    map c.args.g.now c.args.blocks.now c.requires.told.0 c.requires.told.1 c.home_of-home.result c.home_of-home.ensures.read c.args.n c.requires.number c.in-Some.first (sym c.fields.ensures ∙ c.in-Some.is) l.result.slot l.result.header l.result.rest l.ensures

pub returns-then-not-has_more : goal.returns-then-not-has_more
returns-then-not-has_more c = λ x t.
    let l = c.last_header-last in
    no_more c.args.g.now c.args.blocks.now x t c.home_of-home.result c.home_of-home.ensures.read c.args.n c.requires.number c.in-Some.first (sym c.fields.ensures ∙ c.in-Some.is) l.result.slot l.result.header l.result.rest l.ensures
    (sym c.has_more.ensures ∙ c.if-not-has_more.true)

pub listed-requires-clause-offsets : goal.listed-requires-clause-offsets
listed-requires-clause-offsets c =
    let l = c.last_header-last in
    offsets c.args.g.now c.args.blocks.now c.requires.told.0 c.requires.told.1 c.home_of-home.result c.home_of-home.ensures.read c.args.n c.requires.number c.in-Some.first (sym c.fields.ensures ∙ c.in-Some.is) l.result.slot l.result.header l.result.rest l.ensures

pub listed-requires-clause-map : goal.listed-requires-clause-map
listed-requires-clause-map c =
    let l = c.last_header-last in
    map c.args.g.now c.args.blocks.now c.requires.told.0 c.requires.told.1 c.home_of-home.result c.home_of-home.ensures.read c.args.n c.requires.number c.in-Some.first (sym c.fields.ensures ∙ c.in-Some.is) l.result.slot l.result.header l.result.rest l.ensures

pub cut_to-b-requires-clause-offsets : goal.cut_to-b-requires-clause-offsets
cut_to-b-requires-clause-offsets c =
    let l = c.last_header-last in
    offsets c.args.g.now c.args.blocks.now c.requires.told.0 c.requires.told.1 c.home_of-home.result c.home_of-home.ensures.read c.args.n c.requires.number c.in-Some.first (sym c.fields.ensures ∙ c.in-Some.is) l.result.slot l.result.header l.result.rest l.ensures

pub cut_to-b-requires-clause-room : goal.cut_to-b-requires-clause-room
cut_to-b-requires-clause-room c =
    let l = c.last_header-last in
    let runs = c.as_slice-2.ensures.value ∙ c.in_ok-runs.ensures ∙ ap (cut l.result.rest) (c.as_slice.ensures.value ∙ c.in_ok-all.ensures) in
    subst (λ (rs : List Run). HasRoom (header_block c.args.g.now c.args.blocks.now l.result.slot) rs) (sym runs)
    (room c.args.g.now c.args.blocks.now c.requires.told.0 c.requires.told.1 c.home_of-home.result c.home_of-home.ensures.read c.args.n c.requires.number c.in-Some.first (sym c.fields.ensures ∙ c.in-Some.is) l.result.slot l.result.header l.result.rest l.ensures
    (sym c.has_more.ensures ∙ c.if-not-has_more.false))

pub returns : goal.returns
returns c = λ x t.
    let l = c.last_header-last in
    let used = sym c.fields.ensures ∙ c.in-Some.is in
    let runs = c.as_slice-2.ensures.value ∙ c.in_ok-runs.ensures ∙ ap (cut l.result.rest) (c.as_slice.ensures.value ∙ c.in_ok-all.ensures) in (
      c.in-Some.first,
      l.result.header,
      l.result.rest,
      for_surplus c.args.g.now c.args.blocks.now x t c.home_of-home.result c.home_of-home.ensures.read c.args.n c.requires.number c.in-Some.first used l.result.slot l.result.header l.result.rest l.ensures
          (sym c.has_more.ensures ∙ c.if-not-has_more.false) c.cut_to-b.result c.block_is_whole.ensures
          (c.cut_to-b.ensures.reads l.result.header (reads c.args.g.now c.args.blocks.now x t c.home_of-home.result c.home_of-home.ensures.read c.args.n c.requires.number c.in-Some.first used l.result.slot l.result.header l.result.rest l.ensures))
          (c.cut_to-b.ensures.runs ∙ ap merged runs),
    )
