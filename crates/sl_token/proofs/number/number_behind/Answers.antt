use Rattle.std.proofs.Common.{take, ap, ◌∙◌, arith}
use Rattle.std.specs.List.{list_all}
use Rattle.std.proofs.lemmas.List.Sums.{prefix_len-le-length}
use Rattle.def_token.specs.Number.{is_digit_of}
use Rattle.sl_token.specs.Reading.{base_in}
use Rattle.sl_token.proofs.Runs.{front_passes}
use Rattle.sl_token.proofs.number.number_behind.Goals as goal

pub split_at-requires : goal.split_at-requires
split_at-requires c = omega (arith, prefix_len-le-length (is_digit_of (base_in c.args.base)) c.args.text.now)

pub number_by-requires : goal.number_by-requires
number_by-requires c =
    let test = is_digit_of (base_in c.args.base) in
    ap (list_all test) (c.split_at.ensures.front ∙ ap (λ n. take n c.args.text.now) c.digits_len.ensures) ∙ front_passes test c.args.text.now
