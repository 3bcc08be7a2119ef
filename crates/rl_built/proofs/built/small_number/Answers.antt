use Rattle.std.proofs.Common.{◌+◌, ◌∙◌, ap, get_or, min, sym}
use Rattle.std.proofs.lemmas.Str.{digit_value_digit}
use Rattle.rl_built.proofs.Small.{digits_more, value_all, value_more}
use Rattle.rl_built.proofs.built.small_number.Goals as goal

pub loop-byte-preserved : goal.loop-byte-preserved
loop-byte-preserved c =
    let text = c.args.text.now in
    let i = c.loop-byte.byte-index in
    let digit = c.if-not-is_ascii_digit.ensures in record {
      digits = digits_more text i c.loop-byte-test.true (sym digit.value) c.loop-byte.invariant.digits;
      value =
          value_more text i c.loop-byte.value c.saturating_mul.result c.saturating_add-value.result c.loop-byte-test.true
          (digit_value_digit (get_or text i 0) digit.cases) c.loop-byte.invariant.value c.saturating_mul.ensures
          (c.saturating_add-value.ensures ∙ ap (λ n. min (c.saturating_mul.result + n) 4294967295) c.from.ensures);
    }

pub returns : goal.returns
returns c =
    let digits = c.loop-byte.invariant in
    c.then_some.ensures
    ∙ value_all c.args.text.now c.loop-byte.byte-index c.loop-byte.value c.loop-byte-test.false digits.digits digits.value
