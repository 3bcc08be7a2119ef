use Rattle.std.proofs.Common.{◌-◌, ◌+◌, length, drop, ap, sym, ◌∙◌, arith}
use Rattle.std.proofs.lemmas.List.{drop-map, length-drop, take_all}
use Rattle.std.specs.Option.{option_map}
use Rattle.sl_token.specs.View.{token_in, tokens_in}
use Rattle.def_reading.specs.Cursor.{At}
use Rattle.sl_cursor.specs.Seen.{told_in}
use Rattle.sl_cursor.proofs.cursor.Cursor.skip.Goals as goal

pub returns-clause-place : goal.returns-clause-place
returns-clause-place c =
    let rest = c.args.self.now.rest.now in
    let kept = take_all (length rest - c.args.many) (drop c.args.many rest) (omega (arith, length-drop c.args.many rest)) in
    λ source. ap (λ ts. At (c.args.self.now.at + c.args.many) (option_map (told_in source) c.args.self.now.limit) ts)
    (ap (tokens_in source) kept ∙ sym (drop-map (token_in source) c.args.many rest))
