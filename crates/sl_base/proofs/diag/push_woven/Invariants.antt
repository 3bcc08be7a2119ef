-- The text so far, with what is still to be woven, is the text before with the whole.
use Rattle.std.proofs.Common.{◌≡◌, ◌++◌, map, drop}
use Rattle.def_slang.specs.Diagnostic.{weave}
use Rattle.sl_base.proofs.diag.push_woven.Given as goal

abbrev pub invariant-loop-piece : goal.invariant-loop-piece
invariant-loop-piece l =
    l.text ++ weave (map (λ piece. piece.now) (drop l.piece-index l.pieces)) l.args.rest.now
    ≡ l.fn.text ++ weave (map (λ piece. piece.now) l.pieces) l.fn.args
