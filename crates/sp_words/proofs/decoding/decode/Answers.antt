use Rattle.std.proofs.Common.{◌≡◌, ◌∙◌, ◌/◌, ap, inr, length, arith}
use Rattle.sp_words.proofs.Decoded.{complete, decodes-complete, decodes-ok, decodes-refused, length-words_of, no_words}
use Rattle.sp_words.specs.declared.decoding.WordRefusal.TheVariants.{NotWords}
use Rattle.sp_words.proofs.decoding.decode.Goals as goal

pub returns-then-bytes-ne0-clause-complete : goal.returns-then-bytes-ne0-clause-complete
returns-then-bytes-ne0-clause-complete c =
    λ m h. complete m c.args.bytes.now NotWords h (inr (no_words c.args.bytes.now c.if-bytes-ne0.true))

pub read_module-requires : goal.read_module-requires
read_module-requires c =
    let long : length c.as_slice.result.now ≡ length c.args.bytes.now / 4 =
    ap length (c.as_slice.ensures ∙ c.in_ok-words.ensures {u = tt}) ∙ length-words_of c.args.bytes.now in
    omega (arith, long)

pub returns-clause-ok : goal.returns-clause-ok
returns-clause-ok c =
    decodes-ok c.args.bytes.now c.as_slice.result.now c.read_module.result
    (c.as_slice.ensures ∙ c.in_ok-words.ensures {u = tt}) c.if-bytes-ne0.false c.read_module.ensures c.type_inv.bytes

pub returns-clause-refused : goal.returns-clause-refused
returns-clause-refused c =
    decodes-refused c.args.bytes.now c.as_slice.result.now c.read_module.result
    (c.as_slice.ensures ∙ c.in_ok-words.ensures {u = tt}) c.if-bytes-ne0.false c.read_module.ensures

pub returns-clause-complete : goal.returns-clause-complete
returns-clause-complete c =
    decodes-complete c.args.bytes.now c.as_slice.result.now c.read_module.result
    (c.as_slice.ensures ∙ c.in_ok-words.ensures {u = tt}) c.if-bytes-ne0.false c.read_module.ensures
