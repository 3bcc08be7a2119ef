use Rattle.std.proofs.Common.{◌≡◌, ◌∙◌, ap, ℕ, None, nat_eq}
use Rattle.std.specs.Cmp.Lexicographic.{pointwise}
use Rattle.std.specs.declared.alloc.Global.{Global}
use Rattle.std.specs.declared.vec.Vec.{Vec}
use Rattle.indexmap.proofs.CallerLemmas.{insert_entry-new}
use Rattle.sl_key.specs.Index.{number_in}
use Rattle.sl_key.proofs.Indexes.{entry_grows}
use Rattle.sl_key.proofs.declarations.put.Goals as goal

pub returns : goal.returns
returns c other =
    let entries = c.args.numbers.now.entries in
    let key = c.in_ok-key.key in
    let same = c.in_ok-key.ensures.items in
    let alike = λ (x y : Vec ℕ Global). pointwise nat_eq x.items y.items in
    let lacks : number_in key.items entries ≡ None = ap (λ name. number_in name entries) same ∙ c.requires in
    ap (number_in other) (
    c.in_ok-insert.ensures.entries ∙ insert_entry-new alike c.args.numbers.now key c.args.number lacks
    )
    ∙ entry_grows entries key c.args.name.now c.args.number same c.requires other
