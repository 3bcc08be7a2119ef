use Rattle.std.proofs.Common.{◌∙◌, ap, sym}
use Rattle.def_core.specs.State.{last}
use Rattle.qe_chain.proofs.Places.{last_read}
use Rattle.qe_chain.proofs.waits.Waits.last.Goals as goal

pub returns : goal.returns
returns g c =
    ap last (sym c.chain-chain.ensures)
    ∙ last_read c.chain-chain.result.now c.index-chain-chain.result c.if-is_empty.ensures c.index-chain-chain.is
