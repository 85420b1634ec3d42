use Rattle.std.proofs.Common.{◌≡◌, ◌∙◌, ℕ, true, List, length, sym, ap, subst, arith}
use Rattle.std.specs.Result.{IsOk, ForOk}
use Rattle.base_words.specs.Fields.{Block}
use Rattle.fx_dir.specs.declared.RawEnt.{RawEnt}
use Rattle.fx_dir.specs.Entries.{has}
use Rattle.fx_dir.specs.Moves.{key, removal}
use Rattle.fx_dir.specs.Directory.{directory}
use Rattle.vol_repair.specs.Removing.{place_from}
use Rattle.vol_repair.proofs.Departing.{dir_there, numbered, reads, has_entry, removal_spells}
use Rattle.vol_repair.proofs.removing.removal.Goals as goal

pub body-requires : goal.body-requires
body-requires c = dir_there c.args.g.now c.args.blocks.now c.args.cat.now (place_from c.args.l.now) c.args.dir.now c.requires.told c.requires.listed

pub remove_moves-requires-clause-numbered : goal.remove_moves-requires-clause-numbered
remove_moves-requires-clause-numbered c =
    let k = numbered c.args.g.now c.args.blocks.now c.args.cat.now (place_from c.args.l.now) c.args.dir.now c.requires.told c.requires.listed _ _ c.in_ok-body.ensures.places c.in_ok-body.ensures.blocks in
    let e = ap length c.as_slice.ensures.value in
    omega (arith, k, e)

pub remove_moves-requires-clause-read : goal.remove_moves-requires-clause-read
remove_moves-requires-clause-read c =
    subst (λ (bs : List Block). IsOk (directory bs)) (sym c.as_slice.ensures.value)
    (reads c.args.g.now c.args.blocks.now c.args.cat.now (place_from c.args.l.now) c.args.dir.now c.requires.told c.requires.listed _ _ c.in_ok-body.ensures.places c.in_ok-body.ensures.blocks)

pub remove_moves-requires-clause-there : goal.remove_moves-requires-clause-there
remove_moves-requires-clause-there c =
    subst (λ (name : List ℕ). ForOk (directory c.as_slice.result.now) (λ (es : List RawEnt). has es (key name c.args.l.now.entry.ver) ≡ true)) (sym c.items.ensures)
    (subst (λ (bs : List Block). ForOk (directory bs) (λ (es : List RawEnt). has es (key c.args.l.now.entry.name c.args.l.now.entry.ver) ≡ true)) (sym c.as_slice.ensures.value)
    (has_entry c.args.g.now c.args.blocks.now c.args.cat.now (place_from c.args.l.now) c.args.dir.now c.requires.told c.requires.listed _ _ c.in_ok-body.ensures.places c.in_ok-body.ensures.blocks))

pub returns : goal.returns
returns c =
    removal_spells c.args.g.now c.args.blocks.now c.args.cat.now (place_from c.args.l.now) c.args.dir.now c.requires.told c.requires.listed c.in_ok-body.body.places.items c.as_slice.result.now
    c.in_ok-body.ensures.places (c.as_slice.ensures.value ∙ c.in_ok-body.ensures.blocks) c.in_ok-moves.moves.items
    (c.in_ok-moves.ensures.moves ∙ ap (λ (name : List ℕ). removal c.as_slice.result.now name c.args.l.now.entry.ver) c.items.ensures)
