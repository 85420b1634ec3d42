use Rattle.std.proofs.Common.{◌∙◌, sym, arith}
use Rattle.vol_parts.specs.Volumes.{volume}
use Rattle.vol_faults.proofs.ChainLemmas.{first-chain, no-chain}
use Rattle.vol_faults.proofs.chains.first_bad_chain.Goals as goal

pub returns-in-Some : goal.returns-in-Some
returns-in-Some c =
    first-chain (volume c.args.home.now c.args.blocks.now) c.loop-n.n c.in-Some.found (omega arith) (omega arith) c.loop-n.invariant
    (sym c.chain_fault.ensures ∙ c.in-Some.is)

pub returns : goal.returns
returns c = no-chain (volume c.args.home.now c.args.blocks.now) (λ m from to. c.loop-n.invariant m from (omega arith))
